-- What a link tells of its messages as it ends: part 2, 2.6.6, 2.6.12, and part 3, 3.4.
use Rattle.std.specs.Prelude.{◌≡◌, ◌≤◌, ℕ, List, [], ◌∷◌, ◌++◌, All, Option, Some, None, IfSome, drop, length, take}
use Rattle.amqp_session_types.specs.declared.error.Error.{Error}
use Rattle.amqp_session_types.specs.declared.handles.OutputHandle.{OutputHandle}
use Rattle.amqp_session_core.specs.Steps.{Step, Changes}
use Rattle.amqp_link_unsettled.specs.declared.resolution.Resolution.{Resolution}
use Rattle.amqp_link_sender.specs.Results.{send_result}
use Rattle.amqp_link_sender.specs.Sending.{Sending}
use Rattle.amqp_link.specs.declared.end.End.{End}
use Rattle.amqp_link.specs.declared.end.End.TheVariants.{Sender, Receiver}
use Rattle.amqp_endpoint_links.specs.declared.numbered.Numbered.{Numbered}
use Rattle.amqp_endpoint_model.specs.declared.event.Event.{Event}
use Rattle.amqp_endpoint_attached.specs.Linked.{Linked, LinksIn, gives}
use Rattle.amqp_endpoint_messages.specs.Told.{outcome_told}

-- a message that ended, by its tag, and what became of it
abbrev pub Ended : Type 0
Ended = List ℕ × Resolution

-- how many messages of a link are open: only a sending link has any
abbrev pub open_count : Option End → ℕ
open_count (Some (Sender s)) = length s.messages.unsettled
open_count link = 0

-- what is told of these messages of the link with this number, in order, where the peer closed it with this error, or
-- without one
abbrev pub all_told : ℕ → Option Error → List Ended → List Event
all_told number error [] = []
all_told number error (ended ∷ others) =
    outcome_told number ended.0 (send_result error ended.1) ++ all_told number error others

-- a sending link with these messages that ended, and that it hasn't told of yet
abbrev pub with_ended : Sending → List Ended → Sending
with_ended s ended = record s { messages = record s.messages { resolved = ended } }

-- what a link tells of so many of the messages that ended and that it hasn't told of yet, of those that ended first;
-- a receiving link tells nothing
abbrev pub told_by : ℕ → Option Error → ℕ → End → List Event
told_by number error count (Sender s) = all_told number error (take count s.messages.resolved)
told_by number error count (Receiver r) = []

-- they aren't told of again
abbrev pub behind_told : ℕ → End → End
behind_told count (Sender s) = Sender (with_ended s (drop count s.messages.resolved))
behind_told count (Receiver r) = Receiver r

-- what a link of a session tells of so many, if it is there
abbrev pub first_told : ℕ → Option Error → Option (Numbered End) → List Event
first_told count error None = []
first_told count error (Some link) = told_by link.number error count link.link

-- a link of a session tells of so many, if it is there
abbrev pub TellsIn : ℕ → OutputHandle → Option (Numbered End) → LinksIn → LinksIn → Type 0
TellsIn count handle None old new = new ≡ old
TellsIn count handle (Some link) old new =
    Step gives old (Changes handle.0 link (record link { link = behind_told count link.link })) new

-- and nothing else changes
pub record TellsFirst (count : ℕ) (handle : OutputHandle) (link : Option (Numbered End)) (old new : Linked) : Type 0
  where
    pub tells : TellsIn count handle link old.session new.session
    pub rest : new ≡ record old { session = new.session }

-- the error with which the peer closed the link, if it did with one, copied for each of so many messages
pub record AreCopies (error : Option Error) (count : ℕ) (copies : List Error) : Type 0 where
  pub each : All (λ (copy : Error). error ≡ Some copy) copies
  pub enough : IfSome error (λ said. count ≤ length copies)
