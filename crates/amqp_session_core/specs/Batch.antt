-- The transfers that a link hands to its session (part 2, 2.7.5).
use Rattle.std.specs.Prelude.{◌≡◌, ℕ, Option, Some, None, List, [], Bool, true, false, ◌||◌, unwrap_or, All}
use Rattle.amqp_session_performatives.specs.declared.transfer.Transfer.{Transfer}
use Rattle.amqp_session_outgoing.specs.declared.frames.Outbound.{Outbound}
use Rattle.amqp_session_outgoing.specs.declared.frames.Part.{Part}
use Rattle.amqp_session_outgoing.specs.declared.frames.Part.TheVariants.{Untagged, Settled, Unsettled, Continuation}
use Rattle.amqp_session_core.specs.declared.batch.TransferFrame.{TransferFrame}
use Rattle.amqp_session_core.specs.declared.batch.BehindFrame.{BehindFrame}
use Rattle.amqp_session_core.specs.declared.batch.BehindFrame.TheVariants.{Flow, Detach}

abbrev pub Transfers : Type 0
Transfers = List (Outbound TransferFrame BehindFrame)

-- a delivery leaves settled where its first transfer says so, and where that gives it up
abbrev pub leaves_settled : Transfer → Bool
leaves_settled t = unwrap_or t.settled false || t.aborted

abbrev pub is_flow : BehindFrame → Bool
is_flow (Flow flow) = true
is_flow (Detach detach) = false

-- the first part of a delivery with this tag, which leaves settled or not
abbrev pub part_of : Option (List ℕ) → Bool → Part
part_of None settled = Untagged
part_of (Some tag) true = Settled
part_of (Some tag) false = Unsettled tag

-- what a session keeps of a delivery that a transfer begins
abbrev pub first_part : Transfer → Part
first_part t = part_of t.delivery_tag (leaves_settled t)

-- a transfer that is this part of its delivery, with nothing behind it
abbrev pub whole_of : Part → Transfer → List ℕ → Outbound TransferFrame BehindFrame
whole_of part t payload = record { part = part; transfer = record { performative = t; payload = payload }; behind = [] }

-- the first transfer of a delivery
abbrev pub first_of : Transfer → List ℕ → Outbound TransferFrame BehindFrame
first_of t payload = whole_of (first_part t) t payload

-- a later transfer of a delivery
abbrev pub continuation_of : Transfer → List ℕ → Outbound TransferFrame BehindFrame
continuation_of t payload = whole_of Continuation t payload

-- each is one of these
abbrev pub IsWhole : Part → Outbound TransferFrame BehindFrame → Type 0
IsWhole Continuation u = u ≡ continuation_of u.transfer.performative u.transfer.payload
IsWhole Untagged u = u ≡ first_of u.transfer.performative u.transfer.payload
IsWhole Settled u = u ≡ first_of u.transfer.performative u.transfer.payload
IsWhole (Unsettled tag) u = u ≡ first_of u.transfer.performative u.transfer.payload

abbrev pub AreWhole : Transfers → Type 0
AreWhole transfers = All (λ u. IsWhole u.part u) transfers
