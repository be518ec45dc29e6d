-- The own Attach is sent where the link's state allows it.
use Rattle.std.proofs.Common.{◌≡◌, Bool, true, false, Option, Some, None, option_map, Result, refl, sym, ap, subst, ◌∙◌}
use Rattle.std.specs.Prelude.{IsSome}
use Rattle.amqp_session_types.specs.declared.handles.OutputHandle.{OutputHandle}
use Rattle.amqp_link_base.specs.State.{after_send_attach}
use Rattle.amqp_link_base.specs.declared.state.LinkState.{LinkState}
use Rattle.amqp_link_base.specs.declared.state.LinkState.TheVariants.{Unattached, AttachSent, IncompleteAttachSent}
use Rattle.amqp_link_base.specs.declared.state.LinkState.TheVariants.{AttachReceived, IncompleteAttachReceived}
use Rattle.amqp_link_base.specs.declared.state.LinkState.TheVariants.{Attached, IncompleteAttachExchanged, DetachSent}
use Rattle.amqp_link_base.specs.declared.state.LinkState.TheVariants.{Detached, CloseSent, Closed}
use Rattle.amqp_link_base.specs.Moves.{sent_attach}
use Rattle.amqp_link_base.specs.declared.base.IllegalState.{IllegalState}
use Rattle.amqp_link_base.specs.declared.base.LinkBase.{LinkBase}
use Rattle.amqp_link.specs.Ends.{state_of, with_handle}
use Rattle.amqp_link.specs.declared.end.End.{End}
use Rattle.amqp_link.specs.declared.end.End.TheVariants.{Sender, Receiver}
use Rattle.amqp_link_base.specs.Flows.{attached}
use Rattle.amqp_link_receiver.specs.Attaching as receiver
use Rattle.amqp_link_receiver.specs.State.{ReceiverState, MovesLink as MovesReceiver}
use Rattle.amqp_link_sender.specs.Attaching as sender
use Rattle.amqp_link_sender.specs.Sending.{Sending, MovesLink as MovesSender}
use Rattle.amqp_endpoint_attached.specs.Links.{attach_sent}

-- a state that allows an Attach allows one with a part of the list, too
may_send : (state : LinkState) (incomplete : Bool) → IsSome (after_send_attach state false)
    → IsSome (after_send_attach state incomplete)
may_send state false may = may
may_send Unattached true may = refl
may_send Detached true may = refl
may_send DetachSent true may = refl
may_send AttachReceived true may = refl
may_send IncompleteAttachReceived true may = refl
may_send AttachSent true may = absurd cc
may_send IncompleteAttachSent true may = absurd cc
may_send Attached true may = absurd cc
may_send IncompleteAttachExchanged true may = absurd cc
may_send CloseSent true may = absurd cc
may_send Closed true may = absurd cc

mapped : {A B : Type 0} (f : A → B) (o : Option A) → IsSome o → IsSome (option_map f o)
mapped f None some = some
mapped f (Some x) some = refl

sender_moves : (o : Option Sending) (s t : Sending) (answer : Result (Unit {0}) IllegalState) → IsSome o
    → MovesSender o s answer t → o ≡ Some t
sender_moves None s t answer some moves = absurd cc
sender_moves (Some moved) s t answer some moves = ap Some (sym moves.1)

receiver_moves : (o : Option ReceiverState) (s t : ReceiverState) (answer : Result (Unit {0}) IllegalState) → IsSome o
    → MovesReceiver o s answer t → o ≡ Some t
receiver_moves None s t answer some moves = absurd cc
receiver_moves (Some moved) s t answer some moves = ap Some (sym moves.1)

state_kept : (link : End) (handle : OutputHandle) → state_of (with_handle link handle) ≡ state_of link
state_kept (Sender s) handle = refl
state_kept (Receiver r) handle = refl

module _ (link : End) (handle : OutputHandle) (incomplete : Bool) (answer : Result (Unit {0}) IllegalState)
    (may : IsSome (after_send_attach (state_of link) false)) where
  allowed : (mid : End) → with_handle link handle ≡ mid → IsSome (after_send_attach (state_of mid) incomplete)
  allowed mid is =
      may_send (state_of mid) incomplete
      (subst (λ (state : LinkState). IsSome (after_send_attach state false))
      (sym (state_kept link handle) ∙ ap (λ (x : End). state_of x) is) may)

  pub sender_sends : (s t : Sending) → with_handle link handle ≡ Sender s
      → MovesSender (sender.attach_sent s incomplete) s answer t
      → attach_sent (with_handle link handle) incomplete ≡ Some (Sender t)
  sender_sends s t is moves =
      let some =
      mapped (λ (moved : LinkBase). sender.with_attach_sent s moved) (sent_attach s.base incomplete)
      (mapped (λ (state : LinkState). record s.base { local_state = state })
      (after_send_attach s.base.local_state incomplete) (allowed (Sender s) is)) in
      ap (λ (x : End). attach_sent x incomplete) is
      ∙ ap (λ (o : Option Sending). option_map Sender o)
      (sender_moves (sender.attach_sent s incomplete) s t answer some moves)

  pub receiver_sends : (s t : ReceiverState) → with_handle link handle ≡ Receiver s
      → MovesReceiver (receiver.attach_sent s incomplete) s answer t
      → attach_sent (with_handle link handle) incomplete ≡ Some (Receiver t)
  receiver_sends s t is moves =
      let base =
      mapped (λ (state : LinkState). record s.base { local_state = state })
      (after_send_attach s.base.local_state incomplete) (allowed (Receiver s) is) in
      let some =
      mapped (λ (b : LinkBase). record s {
        base = b;
        end = record s.end { flow = attached s.end.flow s.end.flow.initial_delivery_count };
      }) (sent_attach s.base incomplete) base in
      ap (λ (x : End). attach_sent x incomplete) is
      ∙ ap (λ (o : Option ReceiverState). option_map Receiver o)
      (receiver_moves (receiver.attach_sent s incomplete) s t answer some moves)

pub ruleset rules = (sender_sends, receiver_sends)
