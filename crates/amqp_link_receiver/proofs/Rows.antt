-- Worked rows of a receiving link, computed from the definitions.
use Rattle.std.proofs.Common.{◌≡◌, ℕ, List, [], ◌∷◌, map, true, false, None, Some, refl}
use Rattle.std.specs.Prelude.{Ok, Err, option_map}
use Rattle.amqp_session_states.specs.declared.delivery_state.DeliveryState.TheVariants.{Accepted, Received}
use Rattle.amqp_session_types.specs.declared.modes.ReceiverSettleMode.TheVariants.{First, Second}
use Rattle.amqp_session_types.specs.declared.modes.SenderSettleMode.TheVariants.{Mixed}
use Rattle.amqp_session_types.specs.declared.modes.Role.TheVariants.{Sender}
use Rattle.amqp_session_performatives.specs.declared.attach.Attach.{Attach}
use Rattle.amqp_session_performatives.specs.declared.disposition.Disposition.{Disposition}
use Rattle.amqp_link_types.specs.declared.attaching.ReceiverAttachError.TheVariants.{IncomingSourceIsNone}
use Rattle.amqp_link_base.specs.declared.state.LinkState.{LinkState}
use Rattle.amqp_link_base.specs.declared.state.LinkState.TheVariants.{AttachSent, Attached, DetachSent}
use Rattle.amqp_link_base.specs.declared.terms.Terms.{Terms}
use Rattle.amqp_link_base.specs.Own.{own_attach}
use Rattle.amqp_link_base.specs.declared.base.LinkBase.{LinkBase}
use Rattle.amqp_link_receiver.specs.Listed.{listed_as}
use Rattle.amqp_link_receiver.specs.declared.disposable.Disposable.{Disposable}
use Rattle.amqp_link_receiver.specs.declared.disposable.DisposeRefusal.TheVariants.{AlreadyDisposed, NotAssociated}
use Rattle.amqp_link_receiver.specs.declared.disposable.DisposeRefusal.TheVariants.{NotKept}
use Rattle.amqp_link_receiver.specs.declared.entry.Entry.TheVariants.{Half, Whole}
use Rattle.amqp_link_receiver.specs.declared.entry.WholeMessage.{WholeMessage}
use Rattle.amqp_link_receiver.specs.declared.flowing.GrantRefusal.TheVariants.{CreditOutOfRange, IllegalState}
use Rattle.amqp_link_receiver.specs.Attaching.{accepted, attach_error, to_list}
use Rattle.amqp_link_receiver.specs.Disposing.{disposable_now, is_settled}
use Rattle.amqp_link_receiver.specs.DisposingAll.{goes_on, named_all, run_disposition, runs_of}
use Rattle.amqp_link_receiver.specs.declared.disposing_all.Run.{Run}
use Rattle.amqp_link_receiver.specs.Ending.{broken, detach_sent, next}
use Rattle.amqp_link_receiver.specs.Flowing.{credited, grant_refusal, own_flow}
use Rattle.amqp_link_receiver.specs.State.{ReceiverState, credit_from, unattached}

abbrev terms : Terms
terms = record { source = None; target = None; snd_settle_mode = Mixed; rcv_settle_mode = First; max_message_size = 0 }

abbrev base : LinkState → LinkBase
base state =
    record {
      name = 1 ∷ [];
      local_state = state;
      input_handle = None;
      output_handle = Some (record { 0 = 3 });
      terms = terms;
      given_properties = None;
      session_stop_reason = None;
    }

abbrev link : LinkState → ReceiverState
link state = unattached (base state) 7 None

-- as much credit is given as can be told apart, and no more
pub largest : grant_refusal (link Attached) 2147483647 ≡ None
largest = refl

pub larger : grant_refusal (link Attached) 2147483648 ≡ Some CreditOutOfRange
larger = refl

-- the state goes before the credit
pub detached_first : grant_refusal (link DetachSent) 2147483648 ≡ Some IllegalState
detached_first = refl

-- the Flow shows the credit that was given, on the own handle
pub shown_credit : (own_flow (credited (link Attached) 5)).link_credit ≡ Some 5
shown_credit = refl

pub on_own_handle : (own_flow (credited (link Attached) 5)).handle ≡ record { 0 = 3 }
on_own_handle = refl

-- what has come is listed by its place, and a whole message of which nothing was told by the place of its end
pub half_listed : listed_as (Half (1 ∷ 2 ∷ 3 ∷ []))
    ≡ Some (Received (record { section_number = 0; section_offset = 3 }))
half_listed = refl

abbrev message : WholeMessage
message =
    record { payload = 1 ∷ 2 ∷ []; state = None; number = 9; attachment = 0; rcv_settle_mode = None; message = None }

pub whole_listed : listed_as (Whole message) ≡ Some (Received (record { section_number = 0; section_offset = 2 }))
whole_listed = refl

-- a sender's Attach without a source is refused; of one that is accepted the count is taken over, and there is no
-- credit
abbrev peer : Attach
peer = own_attach (base Attached) (record { 0 = 0 }) Sender 9

pub no_source : attach_error (link AttachSent) peer ≡ Some IncomingSourceIsNone
no_source = refl

pub count_taken : (accepted (credited (link AttachSent) 5) (base Attached) peer).end.flow ≡ credit_from 9
count_taken = refl

-- the number of a delivery is worth nothing behind the own Detach, or a loss
abbrev holding : LinkState → ReceiverState
holding state = record (link state) { end = record (link state).end { unsettled = ((4 ∷ []), Whole message) ∷ [] } }

pub listed : to_list (holding Attached)
    ≡ ((4 ∷ []), Some (Received (record { section_number = 0; section_offset = 2 }))) ∷ []
listed = refl

pub numbered : disposable_now (holding Attached) (4 ∷ []) ≡ Ok (record { number = 9; rcv_settle_mode = None })
numbered = refl

pub number_lost : option_map (λ (s : ReceiverState). disposable_now s (4 ∷ []))
    (detach_sent (holding Attached) false) ≡ Some (Err NotAssociated)
number_lost = refl

pub number_broken : disposable_now (broken (holding Attached)) (4 ∷ []) ≡ Err NotAssociated
number_broken = refl

pub counted_round : next 18446744073709551615 ≡ 0
counted_round = refl

-- settled as is asked, else by the mode of the transfer, else by the link's
pub first_settles : is_settled First None None ≡ true
first_settles = refl

pub second_does_not : is_settled Second None None ≡ false
second_does_not = refl

pub transfer_goes_before : is_settled First (Some Second) None ≡ false
transfer_goes_before = refl

pub asked_goes_before : is_settled Second (Some Second) (Some true) ≡ true
asked_goes_before = refl

-- several deliveries at once: what can't be disposed of refuses all, and so does one that is named twice
pub named_twice : named_all (holding Attached) ((4 ∷ []) ∷ (4 ∷ []) ∷ []) ≡ Err AlreadyDisposed
named_twice = refl

pub one_unknown : named_all (holding Attached) ((4 ∷ []) ∷ (5 ∷ []) ∷ []) ≡ Err NotKept
one_unknown = refl

pub none_named : named_all (holding Attached) [] ≡ Ok []
none_named = refl

-- each run of numbers has a disposition
abbrev first_mode : ℕ → Disposable
first_mode number = record { number = number; rcv_settle_mode = None }

abbrev run : ℕ → ℕ → Run
run first last = record { first = first; last = last; rcv_settle_mode = None }

pub runs_apart : runs_of (map first_mode (0 ∷ 1 ∷ 2 ∷ 3 ∷ 5 ∷ 6 ∷ 8 ∷ 9 ∷ 11 ∷ []))
    ≡ run 0 3 ∷ run 5 6 ∷ run 8 9 ∷ run 11 11 ∷ []
runs_apart = refl

pub no_runs : runs_of [] ≡ []
no_runs = refl

-- and each settle mode, by which a link that settles second settles the one and not the other
abbrev own_mode : Disposable
own_mode = record { number = 0; rcv_settle_mode = Some First }

abbrev both_modes : List Run
both_modes = runs_of (own_mode ∷ first_mode 1 ∷ [])

pub modes_apart : both_modes ≡ record { first = 0; last = 0; rcv_settle_mode = Some First } ∷ run 1 1 ∷ []
modes_apart = refl

pub settled_apart : map (λ (d : Disposition). d.settled) (map (run_disposition Second (Accepted (record {})) None) both_modes)
    ≡ true ∷ false ∷ []
settled_apart = refl

pub told_to_the_end : map (λ (d : Disposition). d.last) (map (run_disposition Second (Accepted (record {})) None) both_modes)
    ≡ Some 0 ∷ Some 1 ∷ []
told_to_the_end = refl

-- a run holds 2^31 deliveries, and no more; numbers don't go on past the largest
pub longest : goes_on (run 0 2147483646) (first_mode 2147483647) ≡ true
longest = refl

pub too_long : goes_on (run 0 2147483647) (first_mode 2147483648) ≡ false
too_long = refl

pub not_round : goes_on (run 4294967295 4294967295) (first_mode 0) ≡ false
not_round = refl
