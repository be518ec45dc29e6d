-- A link of a session sends its Detach.
use Rattle.std.proofs.Common.{◌≡◌, List, ◌++◌, Bool, true, false, Option, Some, None, Result, Ok, IsSome, refl, sym, ◌∙◌, ap, subst}
use Rattle.std.specs.Prelude.{option_map, option_to_list, slice_set}
use Rattle.amqp_session_types.specs.declared.error.Error.{Error}
use Rattle.amqp_session_types.specs.declared.handles.OutputHandle.{OutputHandle}
use Rattle.amqp_session_performatives.specs.declared.detach.Detach.{Detach}
use Rattle.amqp_session_performatives.specs.declared.session_frame.SessionFrame.{SessionFrame}
use Rattle.amqp_session_core.specs.declared.batch.BehindFrame.TheVariants as behind
use Rattle.amqp_session_core.specs.State.{link_at}
use Rattle.amqp_session_core.specs.Steps.{Step, SendsBehind}
use Rattle.amqp_link_base.specs.State.{after_send_detach, is_attached}
use Rattle.amqp_link_base.specs.declared.state.LinkState.{LinkState}
use Rattle.amqp_link_base.specs.declared.state.LinkState.TheVariants.{Attached, IncompleteAttachExchanged}
use Rattle.amqp_link_base.specs.Moves.{sent_detach}
use Rattle.amqp_link_base.specs.declared.base.IllegalState.{IllegalState}
use Rattle.amqp_link_base.specs.declared.base.LinkBase.{LinkBase}
use Rattle.amqp_link_sender.specs.Ending as sender_ending
use Rattle.amqp_link_sender.specs.Sending as sender
use Rattle.amqp_link_receiver.specs.Ending as receiver_ending
use Rattle.amqp_link_receiver.specs.State as receiver
use Rattle.amqp_link.specs.declared.end.End.{End}
use Rattle.amqp_link.specs.declared.end.End.TheVariants.{Sender, Receiver}
use Rattle.amqp_endpoint_links.specs.declared.numbered.Numbered.{Numbered}
use Rattle.amqp_endpoint_attached.specs.Linked.{Linked, LinksIn, gives}
use Rattle.amqp_endpoint_attached.specs.Detaching.{DetachGiven, DetachReplied, DetachesIn, detach_sent, own_detach}
use Rattle.amqp_endpoint_attached.specs.Sent.{HandsOut}

-- a Detach may be sent of what is attached
may_detach : (state : LinkState) (closed : Bool) → is_attached state ≡ true → IsSome (after_send_detach state closed)
may_detach Attached true is = refl
may_detach Attached false is = refl
may_detach IncompleteAttachExchanged true is = refl
may_detach IncompleteAttachExchanged false is = refl
may_detach state closed is = absurd cc

mapped : {A B : Type 0} → (f : A → B) (o : Option A) → IsSome o → IsSome (option_map f o)
mapped f None is = is
mapped f (Some a) is = refl

base_may : (b : LinkBase) (closed : Bool) → is_attached b.local_state ≡ true → IsSome (sent_detach b closed)
base_may b closed is = mapped _ (after_send_detach b.local_state closed) (may_detach b.local_state closed is)

sender_moves : (moved : Option sender.Sending) (old new : sender.Sending) (answer : Result (Unit {0}) IllegalState)
    → IsSome moved → sender.MovesLink moved old answer new → (answer ≡ Ok tt) × (moved ≡ Some new)
sender_moves None old new answer is moves = absurd cc
sender_moves (Some moved) old new answer is moves = (moves.0, ap (λ (s : sender.Sending). Some s) (sym moves.1))

receiver_moves : (moved : Option receiver.ReceiverState) (old new : receiver.ReceiverState)
    (answer : Result (Unit {0}) IllegalState)
    → IsSome moved → receiver.MovesLink moved old answer new → (answer ≡ Ok tt) × (moved ≡ Some new)
receiver_moves None old new answer is moves = absurd cc
receiver_moves (Some moved) old new answer is moves =
    (moves.0, ap (λ (s : receiver.ReceiverState). Some s) (sym moves.1))

-- an attached end's own Detach is allowed, and moves it
pub sender_detaches : (old new : sender.Sending) (closed : Bool) (answer : Result (Unit {0}) IllegalState)
    → is_attached old.base.local_state ≡ true
    → sender.MovesLink (sender_ending.detach_sent old closed) old answer new
    → (answer ≡ Ok tt) × (sender_ending.detach_sent old closed ≡ Some new)
sender_detaches old new closed answer is moves =
    sender_moves (sender_ending.detach_sent old closed) old new answer
    (mapped _ (sent_detach old.base closed) (base_may old.base closed is)) moves

pub receiver_detaches : (old new : receiver.ReceiverState) (closed : Bool) (answer : Result (Unit {0}) IllegalState)
    → is_attached old.base.local_state ≡ true
    → receiver.MovesLink (receiver_ending.detach_sent old closed) old answer new
    → (answer ≡ Ok tt) × (receiver_ending.detach_sent old closed ≡ Some new)
receiver_detaches old new closed answer is moves =
    receiver_moves (receiver_ending.detach_sent old closed) old new answer
    (mapped _ (sent_detach old.base closed) (base_may old.base closed is)) moves

-- so it does as either end
pub sender_end : (end : End) (old new : sender.Sending) (closed : Bool) → end ≡ Sender old
    → sender_ending.detach_sent old closed ≡ Some new → detach_sent end closed ≡ Some (Sender new)
sender_end end old new closed is moved =
    ap (λ (e : End). detach_sent e closed) is
    ∙ ap (λ (o : Option sender.Sending). option_map (λ s. Sender s) o) moved

pub receiver_end : (end : End) (old new : receiver.ReceiverState) (closed : Bool) → end ≡ Receiver old
    → receiver_ending.detach_sent old closed ≡ Some new → detach_sent end closed ≡ Some (Receiver new)
receiver_end end old new closed is moved =
    ap (λ (e : End). detach_sent e closed) is
    ∙ ap (λ (o : Option receiver.ReceiverState). option_map (λ r. Receiver r) o) moved

-- a link of a session did
pub detaches_in : (s : LinksIn) (handle : OutputHandle) (closed : Bool) (n : Numbered End) (after : End)
    → Some n ≡ link_at s handle.0 → detach_sent n.link closed ≡ Some after
    → DetachesIn s handle closed (record s { links = slice_set s.links handle.0 (Some (record n { link = after })) })
detaches_in s handle closed n after there moved =
    record { number = n.number; before = n.link; after = after; moved = moved; changed = (sym there, refl) }

-- its Detach is handed out
pub detach_given : (old : Linked) (handle : OutputHandle) (closed : Bool) (error : Option Error) (mid new : LinksIn)
    (detach : Detach) (out out_new : List SessionFrame) → DetachesIn old.session handle closed mid
    → detach ≡ own_detach handle closed error
    → HandsOut gives mid handle (behind.Detach (record detach { handle = record { 0 = handle.0 } })) out new out_new
    → DetachGiven old handle closed error out (record old { session = new }) out_new
detach_given old handle closed error mid new detach out out_new detaches is handed =
    record {
      number = detaches.number;
      before = detaches.before;
      after = detaches.after;
      frames = option_to_list handed.answer;
      moved = detaches.moved;
      sent =
          record {
            mid = mid;
            changed = detaches.changed;
            left = handed.left;
            answer = handed.answer;
            sent =
                subst (λ (d : Detach). Step gives mid
                (SendsBehind handle (behind.Detach (record d { handle = record { 0 = handle.0 } })) handed.left
                handed.answer) new)
                is handed.sent;
            frames_are = refl;
            rest = refl;
          };
      added = handed.added;
    }

-- and so is the one that answers the peer's
pub detach_replied : (old : Linked) (handle : OutputHandle) (closed : Bool) (error : Option Error) (new : LinksIn)
    (detach : Detach) (out out_new : List SessionFrame) → detach ≡ own_detach handle closed error
    → HandsOut gives old.session handle (behind.Detach (record detach { handle = record { 0 = handle.0 } })) out new
    out_new
    → DetachReplied old handle closed error out (record old { session = new }) out_new
detach_replied old handle closed error new detach out out_new is handed =
    record {
      frames = option_to_list handed.answer;
      said =
          record {
            left = handed.left;
            answer = handed.answer;
            sent =
                subst (λ (d : Detach). Step gives old.session
                (SendsBehind handle (behind.Detach (record d { handle = record { 0 = handle.0 } })) handed.left
                handed.answer) new)
                is handed.sent;
            frames_are = refl;
            rest = refl;
          };
      added = handed.added;
    }
