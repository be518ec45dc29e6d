-- Rows that the definitions give.
use Rattle.std.proofs.Common.{◌≡◌, ℕ, Bool, true, false, List, [], ◌∷◌, Option, Some, None, Result, Ok, Err, refl}
use Rattle.amqp_link_types.specs.declared.attaching.ReceiverAttachError.{ReceiverAttachError}
use Rattle.amqp_link_types.specs.declared.attaching.ReceiverAttachError.TheVariants as receiver
use Rattle.amqp_link_types.specs.declared.attaching.SenderAttachError.TheVariants as sender
use Rattle.amqp_session_states.specs.declared.source.Source.{Source}
use Rattle.amqp_session_states.specs.declared.target.Target.{Target as ATarget}
use Rattle.amqp_session_states.specs.declared.target_archetype.TargetArchetype.{TargetArchetype}
use Rattle.amqp_session_states.specs.declared.target_archetype.TargetArchetype.TheVariants.{Target, Other}
use Rattle.amqp_session_types.specs.declared.modes.SenderSettleMode.TheVariants.{Unsettled, Settled, Mixed}
use Rattle.amqp_link_base.specs.Attach.{mode_tests, source_tests_of_sender, target_tests_of_sender}
use Rattle.amqp_link_base.specs.Attach.{source_tests_of_receiver, count_tests, target_tests_of_receiver}
use Rattle.amqp_link_base.specs.Exchange.{exchange, lists_none}
use Rattle.amqp_link_base.specs.Properties.{merged}
use Rattle.amqp_link_base.specs.Size.{agreed_size}
use Rattle.amqp_link_base.specs.Source.{Filters, filter_tests}
use Rattle.amqp_link_base.specs.State.{after_send_attach, after_incoming_attach, after_send_detach}
use Rattle.amqp_link_base.specs.State.{after_detach_reply, after_remote_detach, after_break, is_attached}
use Rattle.amqp_link_base.specs.Tests.{first_of}
use Rattle.amqp_link_base.specs.declared.exchange.AttachExchange.TheVariants.{Complete, IncompleteUnsettled, Resume}
use Rattle.amqp_link_base.specs.declared.state.LinkState.TheVariants.{Unattached, AttachSent, IncompleteAttachSent}
use Rattle.amqp_link_base.specs.declared.state.LinkState.TheVariants.{AttachReceived, IncompleteAttachReceived}
use Rattle.amqp_link_base.specs.declared.state.LinkState.TheVariants.{Attached, IncompleteAttachExchanged, DetachSent}
use Rattle.amqp_link_base.specs.declared.state.LinkState.TheVariants.{Detached, CloseSent, Closed}

-- the size of messages that both ends take
pub no_bound : agreed_size 0 None ≡ 0
no_bound = refl

pub own_bound_alone : agreed_size 5 None ≡ 5
own_bound_alone = refl

pub peers_bound_alone : agreed_size 0 (Some 7) ≡ 7
peers_bound_alone = refl

pub own_bound_smaller : agreed_size 5 (Some 7) ≡ 5
own_bound_smaller = refl

pub peers_bound_smaller : agreed_size 9 (Some 7) ≡ 7
peers_bound_smaller = refl

-- filters by the names a and b
abbrev filters_a : List ℕ → Filters
filters_a value = (0x61 ∷ [], value) ∷ []

abbrev filters_b : Filters
filters_b = (0x62 ∷ [], 0x41 ∷ []) ∷ []

-- one filter isn't supported, and it is a
abbrev a_missing : Option ReceiverAttachError
a_missing = Some (receiver.DesiredFilterNotSupported (record { not_supported = (0x61 ∷ []) ∷ [] }))

pub no_filters : first_of (filter_tests None None) ≡ None
no_filters = refl

pub filter_against_none : first_of (filter_tests (Some (filters_a (0x41 ∷ []))) None) ≡ a_missing
filter_against_none = refl

pub filter_against_another : first_of (filter_tests (Some (filters_a (0x41 ∷ []))) (Some filters_b)) ≡ a_missing
filter_against_another = refl

pub filter_against_null : first_of (filter_tests (Some (filters_a (0x41 ∷ []))) (Some (filters_a (0x40 ∷ [])))) ≡ a_missing
filter_against_null = refl

pub filter_against_itself : first_of (filter_tests (Some (filters_a (0x41 ∷ []))) (Some (filters_a (0x41 ∷ [])))) ≡ None
filter_against_itself = refl

-- all that are missing are named, in the order in which they are wanted
pub all_missing_are_named : first_of (filter_tests (Some ((0x63 ∷ [], 0x41 ∷ []) ∷ (0x62 ∷ [], 0x41 ∷ []) ∷ (0x61 ∷ [], 0x41 ∷ []) ∷ [])) (Some filters_b)) ≡ Some (receiver.DesiredFilterNotSupported (record { not_supported = (0x63 ∷ []) ∷ (0x61 ∷ []) ∷ [] }))
all_missing_are_named = refl

-- the state of a link, at the corners of the table
pub attached_anew_before_the_answer : after_send_attach DetachSent false ≡ Some AttachSent
attached_anew_before_the_answer = refl

pub attached_anew_with_a_part : after_send_attach Detached true ≡ Some IncompleteAttachSent
attached_anew_with_a_part = refl

pub answered_with_a_part : after_send_attach AttachReceived true ≡ Some IncompleteAttachExchanged
answered_with_a_part = refl

pub part_answered_with_all : after_send_attach IncompleteAttachReceived false ≡ Some IncompleteAttachExchanged
part_answered_with_all = refl

pub not_attached_while_closing : after_send_attach CloseSent false ≡ None
not_attached_while_closing = refl

pub not_attached_once_closed : after_send_attach Closed false ≡ None
not_attached_once_closed = refl

pub not_attached_twice : after_send_attach Attached false ≡ None
not_attached_twice = refl

pub part_answered : after_incoming_attach IncompleteAttachSent false ≡ Some IncompleteAttachExchanged
part_answered = refl

pub no_answer_to_a_detach : after_incoming_attach DetachSent false ≡ None
no_answer_to_a_detach = refl

pub part_detached : after_send_detach IncompleteAttachExchanged true ≡ Some CloseSent
part_detached = refl

pub not_detached_before_the_answer : after_send_detach AttachSent false ≡ None
not_detached_before_the_answer = refl

pub no_answer_without_a_detach : after_detach_reply Attached false ≡ None
no_answer_without_a_detach = refl

pub close_answers_no_detach : after_detach_reply DetachSent true ≡ None
close_answers_no_detach = refl

pub detach_answers_no_close : after_detach_reply CloseSent false ≡ None
detach_answers_no_close = refl

pub detach_crosses_a_close : after_remote_detach CloseSent false ≡ Some Closed
detach_crosses_a_close = refl

pub close_crosses_a_detach : after_remote_detach DetachSent true ≡ Some Closed
close_crosses_a_detach = refl

pub detaches_cross : after_remote_detach DetachSent false ≡ Some Detached
detaches_cross = refl

pub nothing_to_detach : after_remote_detach Detached true ≡ None
nothing_to_detach = refl

pub closed_by_a_break : after_break CloseSent ≡ Closed
closed_by_a_break = refl

pub detached_by_a_break : after_break AttachSent ≡ Detached
detached_by_a_break = refl

pub untouched_by_a_break : after_break Unattached ≡ Unattached
untouched_by_a_break = refl

pub attached_by_parts : is_attached IncompleteAttachExchanged ≡ true
attached_by_parts = refl

-- what an Attach is refused for
pub no_target : (own : Option TargetArchetype) → first_of (target_tests_of_sender own None) ≡ Some sender.IncomingTargetIsNone
no_target own = refl

pub coordinator_at_a_sender : (own : Option TargetArchetype) (value : List ℕ) → first_of (target_tests_of_sender own (Some (Other value))) ≡ Some sender.CoordinatorIsNotImplemented
coordinator_at_a_sender own value = refl

pub target_not_compared : (peer : ATarget) → first_of (target_tests_of_sender None (Some (Target peer))) ≡ None
target_not_compared peer = refl

pub source_not_compared : (peer : Source) → first_of (source_tests_of_sender None (Some peer)) ≡ None
source_not_compared peer = refl

pub no_source_at_a_sender : first_of (source_tests_of_sender None None) ≡ None
no_source_at_a_sender = refl

pub no_source : (own : Option Source) → first_of (source_tests_of_receiver own None) ≡ Some receiver.IncomingSourceIsNone
no_source own = refl

pub no_count : first_of (count_tests None) ≡ Some receiver.InitialDeliveryCountIsNone
no_count = refl

pub coordinator_at_a_receiver : (own : Option TargetArchetype) (value : List ℕ) → first_of (target_tests_of_receiver own (Some (Other value))) ≡ Some receiver.CoordinatorIsNotImplemented
coordinator_at_a_receiver own value = refl

pub no_target_at_a_receiver : first_of (target_tests_of_receiver None None) ≡ None
no_target_at_a_receiver = refl

pub settled_against_unsettled : first_of (mode_tests Settled Unsettled) ≡ Some sender.SndSettleModeNotSupported
settled_against_unsettled = refl

pub unsettled_against_settled : first_of (mode_tests Unsettled Settled) ≡ Some sender.SndSettleModeNotSupported
unsettled_against_settled = refl

pub settled_against_mixed : first_of (mode_tests Settled Mixed) ≡ None
settled_against_mixed = refl

pub mixed_against_unsettled : first_of (mode_tests Mixed Unsettled) ≡ None
mixed_against_unsettled = refl

-- the peer's properties over the own ones
pub peers_value_wins : merged (Some ((0x61 ∷ [], 0x41 ∷ []) ∷ (0x62 ∷ [], 0x41 ∷ []) ∷ [])) (Some ((0x63 ∷ [], 0x42 ∷ []) ∷ (0x61 ∷ [], 0x42 ∷ []) ∷ [])) ≡ Some ((0x61 ∷ [], 0x42 ∷ []) ∷ (0x62 ∷ [], 0x41 ∷ []) ∷ (0x63 ∷ [], 0x42 ∷ []) ∷ [])
peers_value_wins = refl

pub no_properties_of_the_peer : merged (Some ((0x61 ∷ [], 0x41 ∷ []) ∷ [])) None ≡ Some ((0x61 ∷ [], 0x41 ∷ []) ∷ [])
no_properties_of_the_peer = refl

-- what is left to be done
pub nothing_listed : exchange IncompleteAttachExchanged (lists_none {X = ℕ} None) ≡ Complete
nothing_listed = refl

pub empty_list : exchange AttachSent (lists_none {X = ℕ} (Some [])) ≡ Complete
empty_list = refl

pub part_listed : exchange IncompleteAttachReceived (lists_none {X = ℕ} (Some (1 ∷ []))) ≡ IncompleteUnsettled
part_listed = refl

pub all_listed : exchange Attached (lists_none {X = ℕ} (Some (1 ∷ []))) ≡ Resume
all_listed = refl
