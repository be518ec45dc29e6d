-- Worked rows of what the receiver's Attach makes of open messages, computed from the definitions.
use Rattle.std.proofs.Common.{◌≡◌, ℕ, List, [], ◌∷◌, true, false, Option, Some, None, refl}
use Rattle.amqp_session_states.specs.declared.received.Received.{Received as Place}
use Rattle.amqp_session_states.specs.declared.delivery_state.DeliveryState.{DeliveryState}
use Rattle.amqp_session_states.specs.declared.delivery_state.DeliveryState.TheVariants.{Received, Accepted}
use Rattle.amqp_session_states.specs.declared.outcome.Outcome.TheVariants as outcome
use Rattle.amqp_link_unsettled.specs.declared.open.Open.{Open}
use Rattle.amqp_link_unsettled.specs.declared.open.Resumption.TheVariants.{Resend, Resume}
use Rattle.amqp_link_unsettled.specs.declared.resolution.Resolution.TheVariants.{Outcome, Aborted}
use Rattle.amqp_link_unsettled.specs.Exchanging.{exchanged, aborts}
use Rattle.amqp_link_unsettled.specs.Messages.{MessageLists}

-- two messages with the tags 1 and 2, of which the second waits to be sent anew
abbrev one : Open
one = record { tag = 1 ∷ []; payload = 7 ∷ 8 ∷ []; state = None; message_format = 0 }

abbrev two : Open
two = record { tag = 2 ∷ []; payload = []; state = None; message_format = 0 }

abbrev both : MessageLists
both =
    record {
      unsettled = (1 ∷ [], one) ∷ (2 ∷ [], two) ∷ [];
      resolved = [];
      waiting = record { tag = 2 ∷ []; resumption = Resend } ∷ [];
      room = 3;
    }

-- places in a message of two bytes: before the second, and behind it
abbrev inside : Place
inside = record { section_number = 0; section_offset = 1 }

abbrev behind : Place
behind = record { section_number = 0; section_offset = 2 }

-- the peer's list is complete, and has none of them: both are sent anew, in their order
pub none_listed : exchanged both None false
    ≡ record both {
      waiting = record { tag = 1 ∷ []; resumption = Resend } ∷ record { tag = 2 ∷ []; resumption = Resend } ∷ [];
    }
none_listed = refl

-- it is incomplete, and has none of them: nothing is decided, and nothing waits
pub none_listed_yet : exchanged both None true ≡ record both { waiting = [] }
none_listed_yet = refl

pub none_given_up_yet : aborts both None true ≡ []
none_given_up_yet = refl

-- it lists one with an outcome: that ends with it, and the other is sent anew
abbrev first_accepted : Option (List (List ℕ × Option DeliveryState))
first_accepted = Some ((1 ∷ [], Some (Accepted (record {}))) ∷ [])

pub ended_as_listed : exchanged both first_accepted false
    ≡ record both {
      unsettled = (2 ∷ [], two) ∷ [];
      resolved = (1 ∷ [], Outcome (outcome.Accepted (record {}))) ∷ [];
    }
ended_as_listed = refl

-- a message of which the receiver has a part goes before one that was accepted earlier
abbrev turned : MessageLists
turned = record both { unsettled = (2 ∷ [], two) ∷ (1 ∷ [], one) ∷ []; waiting = [] }

pub part_goes_first : exchanged turned (Some ((1 ∷ [], Some (Received inside)) ∷ [])) false
    ≡ record turned {
      waiting
          = record { tag = 1 ∷ []; resumption = Resume inside } ∷ record { tag = 2 ∷ []; resumption = Resend } ∷ [];
    }
part_goes_first = refl

-- one of which nothing is left keeps its place among the others
pub whole_goes_in_order : exchanged turned (Some ((1 ∷ [], Some (Received behind)) ∷ [])) false
    ≡ record turned {
      waiting
          = record { tag = 2 ∷ []; resumption = Resend } ∷ record { tag = 1 ∷ []; resumption = Resume behind } ∷ [];
    }
whole_goes_in_order = refl

-- null listed is the place at which a message starts, which isn't behind the end of one without bytes
pub null_listed : exchanged both (Some ((2 ∷ [], None) ∷ (1 ∷ [], None) ∷ [])) false
    ≡ record both {
      waiting
          = record { tag = 1 ∷ []; resumption = Resume (record { section_number = 0; section_offset = 0 }) }
          ∷ record { tag = 2 ∷ []; resumption = Resume (record { section_number = 0; section_offset = 0 }) }
          ∷ [];
    }
null_listed = refl

-- the receiver stood further than it lists: the message is given up in its format, and ends; so is a delivery that only
-- the peer knows, behind it
abbrev further : Open
further = record one { state = Some (Received behind); message_format = 7 }

abbrev gone_back : MessageLists
gone_back = record { unsettled = (1 ∷ [], further) ∷ []; resolved = []; waiting = []; room = 3 }

abbrev third_and_first : Option (List (List ℕ × Option DeliveryState))
third_and_first = Some ((3 ∷ [], None) ∷ (1 ∷ [], Some (Received inside)) ∷ [])

pub given_up : exchanged gone_back third_and_first false
    ≡ record { unsettled = []; resolved = (1 ∷ [], Aborted) ∷ []; waiting = []; room = 3 }
given_up = refl

pub given_up_in_order : aborts gone_back third_and_first false
    ≡ record { tag = 1 ∷ []; message_format = 7 } ∷ record { tag = 3 ∷ []; message_format = 0 } ∷ []
given_up_in_order = refl

-- an incomplete list leaves alone what it doesn't have, not what it has
pub given_up_by_a_part : aborts gone_back third_and_first true ≡ aborts gone_back third_and_first false
given_up_by_a_part = refl
