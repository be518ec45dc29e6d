-- A transfer is read as it is written, two have two items, and bytes give one.
use Rattle.std.proofs.Common.{◌≡◌, ℕ, Bool, false, List, [], ◌∷◌, Option, Some, refl, sym, ◌∙◌}
use Rattle.serde_amqp_de.specs.Decides.{Decided, AllDecided}
use Rattle.serde_amqp_de.specs.Deciding.{uint_decided, record_decided}
use Rattle.serde_amqp_de.specs.Again.{EachAgain, record_again, record_faithful}
use Rattle.amqp_session_states.specs.declared.delivery_state.DeliveryState.{DeliveryState}
use Rattle.amqp_session_types.specs.declared.handles.Handle.{Handle}
use Rattle.amqp_session_types.specs.declared.modes.ReceiverSettleMode.{ReceiverSettleMode}
use Rattle.amqp_session_performatives.specs.Transfer.{transfer_name, transfer_fields, transfer_item, transfer_takes, transfer_taken}
use Rattle.amqp_session_performatives.specs.declared.transfer.Transfer.{Transfer}
use Rattle.amqp_session_performatives.specs.FieldLaws.{boolean_or_again, boolean_or_decided, boolean_or_same, handle_same, optional_boolean_again, optional_boolean_decided, optional_boolean_same, optional_receiver_mode_again, optional_receiver_mode_decided, optional_receiver_mode_same, optional_state_again, optional_state_decided, optional_state_same, optional_tag_again, optional_tag_decided, optional_tag_same, optional_uint_again, optional_uint_decided, optional_uint_same}

pub transfer_each_decided : AllDecided transfer_takes
transfer_each_decided = (uint_decided, (optional_uint_decided, (optional_tag_decided, (optional_uint_decided, (optional_boolean_decided, (boolean_or_decided false, (optional_receiver_mode_decided, (optional_state_decided, (boolean_or_decided false, (boolean_or_decided false, (boolean_or_decided false, tt)))))))))))

pub transfer_decided : Decided transfer_taken
transfer_decided = record_decided 0x14 transfer_name transfer_takes transfer_each_decided

pub transfer_each_again : (t : Transfer) → EachAgain transfer_takes (transfer_fields t)
transfer_each_again t = (refl, (optional_uint_again t.delivery_id, (optional_tag_again t.delivery_tag, (optional_uint_again t.message_format, (optional_boolean_again t.settled, (boolean_or_again false t.more, (optional_receiver_mode_again t.rcv_settle_mode, (optional_state_again t.state, (boolean_or_again false t.resume, (boolean_or_again false t.aborted, (boolean_or_again false t.batchable, tt)))))))))))

pub transfer_again : (t : Transfer) → transfer_taken (transfer_item t) ≡ Some (transfer_item t)
transfer_again t = record_again 0x14 transfer_name transfer_takes (transfer_fields t) (transfer_each_again t)

-- with these fields
unfoldable transfer_of : Handle → Option ℕ → Option (List ℕ) → Option ℕ → Option Bool → Bool → Option ReceiverSettleMode → Option DeliveryState → Bool → Bool → Bool → Transfer
transfer_of a b c d e f g h i j k = record { handle = a; delivery_id = b; delivery_tag = c; message_format = d; settled = e; more = f; rcv_settle_mode = g; state = h; resume = i; aborted = j; batchable = k }

transfer_built : (t : Transfer) → transfer_of t.handle t.delivery_id t.delivery_tag t.message_format t.settled t.more t.rcv_settle_mode t.state t.resume t.aborted t.batchable ≡ t
unfolding transfer_of
transfer_built t = refl

-- two with the same fields are the same
pub transfer_parts : (t u : Transfer) → t.handle ≡ u.handle → t.delivery_id ≡ u.delivery_id → t.delivery_tag ≡ u.delivery_tag → t.message_format ≡ u.message_format → t.settled ≡ u.settled → t.more ≡ u.more → t.rcv_settle_mode ≡ u.rcv_settle_mode → t.state ≡ u.state → t.resume ≡ u.resume → t.aborted ≡ u.aborted → t.batchable ≡ u.batchable → t ≡ u
transfer_parts t u handle delivery_id delivery_tag message_format settled more rcv_settle_mode state resume aborted batchable =
    let built : transfer_of t.handle t.delivery_id t.delivery_tag t.message_format t.settled t.more t.rcv_settle_mode t.state t.resume t.aborted t.batchable ≡ transfer_of u.handle u.delivery_id u.delivery_tag u.message_format u.settled u.more u.rcv_settle_mode u.state u.resume u.aborted u.batchable = cc in
    sym (transfer_built t) ∙ (built ∙ transfer_built u)

pub transfer_same : (t u : Transfer) → transfer_item t ≡ transfer_item u → t ≡ u
transfer_same t u is =
    let all : transfer_fields t ≡ transfer_fields u = record_faithful 0x14 (transfer_fields t) (transfer_fields u) refl is in
    transfer_parts t u
    (handle_same t.handle u.handle cc)
    (optional_uint_same t.delivery_id u.delivery_id cc)
    (optional_tag_same t.delivery_tag u.delivery_tag cc)
    (optional_uint_same t.message_format u.message_format cc)
    (optional_boolean_same t.settled u.settled cc)
    (boolean_or_same false t.more u.more cc)
    (optional_receiver_mode_same t.rcv_settle_mode u.rcv_settle_mode cc)
    (optional_state_same t.state u.state cc)
    (boolean_or_same false t.resume u.resume cc)
    (boolean_or_same false t.aborted u.aborted cc)
    (boolean_or_same false t.batchable u.batchable cc)
