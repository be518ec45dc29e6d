-- A transfer that is all of its delivery passes at once, beside the general way, which takes batches: part 2, 2.5.6.
use Rattle.std.specs.Prelude.{◌≡◌, ℕ, ◌+◌, ◌-◌, ◌%◌, ◌^◌, List, [], ◌∷◌, Option, Some, None}
use Rattle.amqp_session_types.specs.declared.handles.OutputHandle.{OutputHandle}
use Rattle.amqp_session_outgoing.specs.State.{State, registered, sent_as}
use Rattle.amqp_session_outgoing.specs.History.{Step, Accepts}
use Rattle.amqp_session_outgoing.specs.declared.frames.Part.{Part}
use Rattle.amqp_session_outgoing.specs.declared.frames.Part.TheVariants.{Settled, Unsettled}
use Rattle.amqp_session_outgoing.specs.declared.frames.Outbound.{Outbound}

-- the first part of a delivery, which is unsettled where it has a tag here
abbrev pub part_by : Option (List ℕ) → Part
part_by None = Settled
part_by (Some tag) = Unsettled tag

module _ {T F : Type 0} where
  -- a transfer that is all of its delivery, with nothing behind it
  abbrev pub alone : Option (List ℕ) → T → Outbound T F
  alone tag transfer = record { part = part_by tag; transfer = transfer; behind = [] }

  -- the session after it passed
  abbrev pub passed : State T F → OutputHandle → Option (List ℕ) → State T F
  passed s handle tag =
      record s {
        next_outgoing_id = (s.next_outgoing_id + 1) % 2 ^ 32;
        next_delivery_number = (s.next_delivery_number + 1) % 2 ^ 32;
        unsettled = registered s.unsettled s.next_delivery_number handle (part_by tag);
        room = s.room - 1;
      }

  -- its delivery gets the next number, and it leaves as a batch of it alone does that is accepted, whatever it says
  pub record Passes (old : State T F) (handle : OutputHandle) (tag : Option (List ℕ)) (number : ℕ) (new : State T F)
      : Type 0 where
    pub next : number ≡ old.next_delivery_number
    pub becomes : new ≡ passed old handle tag
    pub stepped : (transfer : T)
        → Step old (Accepts handle (alone tag transfer ∷ []) (sent_as old handle (alone tag transfer) ∷ [])) new

  -- or nothing changes
  abbrev pub PassesAtOnce : State T F → OutputHandle → Option (List ℕ) → Option ℕ → State T F → Type 0
  PassesAtOnce old handle tag None new = new ≡ old
  PassesAtOnce old handle tag (Some number) new = Passes old handle tag number new
