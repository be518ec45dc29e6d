-- Where a receiving link stands, and what it holds of a message, whatever is done to it but that a transfer comes.
use Rattle.std.proofs.Common.{◌≡◌, ◌⊎◌, inl, inr, ℕ, Bool, true, false, List, Option, Some, None, Result, Ok, Err}
use Rattle.std.proofs.Common.{ap, refl, subst, sym, ◌∙◌, if◌then◌else◌}
use Rattle.std.proofs.lemmas.Option.{none-some, same_Some}
use Rattle.std.specs.Prelude.{alloc_error, option_map}
use Rattle.std.specs.declared.alloc.AllocError.{AllocError}
use Rattle.amqp_session_types.specs.declared.handles.OutputHandle.{OutputHandle}
use Rattle.amqp_session_types.specs.declared.modes.Role.{Role}
use Rattle.amqp_session_types.specs.declared.modes.Role.TheVariants as role
use Rattle.amqp_session_states.specs.declared.delivery_state.DeliveryState.{DeliveryState}
use Rattle.amqp_session_performatives.specs.declared.attach.Attach.{Attach}
use Rattle.amqp_session_performatives.specs.declared.detach.Detach.{Detach}
use Rattle.amqp_session_performatives.specs.declared.link_flow.LinkFlow.{LinkFlow}
use Rattle.amqp_session_core.specs.declared.relay.RelayError.{RelayError}
use Rattle.amqp_session_core.specs.declared.relay.RelayError.TheVariants.{Memory, UnattachedHandle}
use Rattle.amqp_link_types.specs.declared.attaching.ReceiverAttachError.{ReceiverAttachError}
use Rattle.amqp_link_base.specs.Flows.{attached as flow_attached, receiver_flowed}
use Rattle.amqp_link_base.specs.declared.inner.LinkFlowStateInner.{LinkFlowStateInner}
use Rattle.amqp_link_base.specs.State.{after_incoming_attach, after_remote_detach}
use Rattle.amqp_link_base.specs.State.{after_send_detach, is_attached}
use Rattle.amqp_link_base.specs.declared.state.LinkState.{LinkState}
use Rattle.amqp_link_base.specs.declared.state.LinkState.TheVariants as state
use Rattle.amqp_link_base.specs.Moves.{moved_to, sent_attach, took_attach}
use Rattle.amqp_link_base.specs.declared.base.IllegalState.{IllegalState}
use Rattle.amqp_link_base.specs.declared.base.LinkBase.{LinkBase}
use Rattle.amqp_link_base.specs.declared.detached.Detached.{Detached}
use Rattle.amqp_link.specs.Ends.{flowed, state_of, with_handle}
use Rattle.amqp_link.specs.Gives.{attaches, detaches, disposes, flows, flows_at}
use Rattle.amqp_link.specs.Standing.{standing_of}
use Rattle.amqp_link.specs.declared.end.End.{End}
use Rattle.amqp_link.specs.declared.end.End.TheVariants.{Receiver, Sender}
use Rattle.amqp_link.specs.declared.relay.AttachTold.{AttachTold}
use Rattle.amqp_link.specs.declared.relay.AttachTold.TheVariants as told
use Rattle.amqp_link.specs.declared.standing.Standing.{Standing}
use Rattle.amqp_link.specs.declared.standing.Standing.TheVariants.{Apart, Attached, Detaching}
use Rattle.amqp_link_receiver.specs.Attaching.{AttachTaken, TakesAttach, attach_error}
use Rattle.amqp_link_receiver.specs.Ending as receiver
use Rattle.amqp_link_receiver.specs.Ending.{TakesDetach, ended}
use Rattle.amqp_link_receiver.specs.Flowing.{with_flow}
use Rattle.amqp_link_receiver.specs.Incoming.{disposed}
use Rattle.amqp_link_receiver.specs.State.{ReceiverState}
use Rattle.amqp_link_receiver.specs.declared.attaching.Attached.{Attached as AttachedTold}
use Rattle.amqp_link_receiver.specs.Deliveries.{Delivery}
use Rattle.amqp_link_sender.specs.Attaching as sending
use Rattle.amqp_link_sender.specs.Ending as sender
use Rattle.amqp_link_sender.specs.Sending.{Sending}
use Rattle.amqp_endpoint_attached.specs.Detaching.{detach_sent}
use Rattle.amqp_endpoint_attached.specs.Links.{attach_sent}
use Rattle.amqp_endpoint_linking.specs.Linking.{Link}

-- a link is attached, or its own Attach was sent and the peer's hasn't come
abbrev pub stands_so : LinkState → Option Bool
stands_so state.Attached = Some true
stands_so state.IncompleteAttachExchanged = Some true
stands_so state.AttachSent = Some false
stands_so state.IncompleteAttachSent = Some false
stands_so s = None

pub attached-so : (s : LinkState) → is_attached s ≡ true → stands_so s ≡ Some true
attached-so state.Attached is = refl
attached-so state.IncompleteAttachExchanged is = refl
attached-so s is = absurd cc

pub so-attached : (s : LinkState) → stands_so s ≡ Some true → is_attached s ≡ true
so-attached state.Attached is = refl
so-attached state.IncompleteAttachExchanged is = refl
so-attached s is = absurd cc

-- the number of a receiving link that is attached or waits for the peer's Attach; and whether it is attached, and the
-- delivery of which transfers are still to come to it
abbrev pub Part : Type 0
Part = Bool × Option Delivery

abbrev pub Holding : Type 0
Holding = Option (ℕ × Part)

abbrev pub held_if : Option Bool → ℕ → Option Delivery → Holding
held_if (Some attached) number held = Some (number, (attached, held))
held_if None number held = None

abbrev pub held_end : ℕ → End → Holding
held_end number (Sender s) = None
held_end number (Receiver r) = held_if (stands_so r.base.local_state) number r.end.held

abbrev pub held_link : Option Link → Holding
held_link None = None
held_link (Some link) = held_end link.number link.link

-- it stays, or the link neither is attached nor waits any longer
abbrev pub Stays : Holding → Holding → Type 0
Stays old new = (new ≡ old) ⊎ (new ≡ None)

-- a link that waited is attached
pub record IsAttached (old new : Holding) : Type 0 where
  pub number : ℕ
  pub held : Option Delivery
  pub was : old ≡ Some (number, (false, held))
  pub is : new ≡ Some (number, (true, held))

abbrev pub Goes : Holding → Holding → Type 0
Goes old new = IsAttached old new ⊎ Stays old new

-- a link that attaches holds nothing, where this is so
abbrev pub IsFresh : Type 0 → ℕ → Holding → Type 0
IsFresh E number new = (new ≡ None) ⊎ ((part : Part) × (new ≡ Some (number, part)) × (E → part.1 ≡ None))

-- it goes on so, or the link with this number attaches
abbrev pub Comes : Type 0 → ℕ → Holding → Holding → Type 0
Comes E number old new = ((old ≡ None) × IsFresh E number new) ⊎ Goes old new

pub stays-on : (a b c : Holding) → Stays a b → Stays b c → Stays a c
stays-on a b c s (inr gone) = inr gone
stays-on a b c (inl same) (inl is) = inl (is ∙ same)
stays-on a b c (inr gone) (inl is) = inr (is ∙ gone)

pub goes-on : (a b c : Holding) → Goes a b → Stays b c → Goes a c
goes-on a b c (inl t) (inl is) = inl (record { number = t.number; held = t.held; was = t.was; is = is ∙ t.is })
goes-on a b c (inl t) (inr gone) = inr (inr gone)
goes-on a b c (inr first) s = inr (stays-on a b c first s)

fresh-on : (E : Type 0) (number : ℕ) (b c : Holding) → IsFresh E number b → Stays b c → IsFresh E number c
fresh-on E number b c fresh (inl is) = subst (IsFresh E number) (sym is) fresh
fresh-on E number b c fresh (inr gone) = inl gone

pub comes-on : (E : Type 0) (number : ℕ) (a b c : Holding) → Comes E number a b → Stays b c → Comes E number a c
comes-on E number a b c (inl (none, fresh)) s = inl (none, fresh-on E number b c fresh s)
comes-on E number a b c (inr first) s = inr (goes-on a b c first s)

pub stays-still : (a : Holding) → Stays a a
stays-still a = inl refl

pub goes-still : (a : Holding) → Goes a a
goes-still a = inr (inl refl)

-- behind the own Detach no link is attached or waits, nor behind the peer's
sent-apart : (old new : LinkState) (closed : Bool) → after_send_detach old closed ≡ Some new → stands_so new ≡ None
sent-apart state.Attached new true is = ap stands_so (sym (same_Some state.CloseSent new is))
sent-apart state.Attached new false is = ap stands_so (sym (same_Some state.DetachSent new is))
sent-apart state.IncompleteAttachExchanged new true is = ap stands_so (sym (same_Some state.CloseSent new is))
sent-apart state.IncompleteAttachExchanged new false is = ap stands_so (sym (same_Some state.DetachSent new is))
sent-apart old new closed is = absurd (none-some new is)

taken-apart : (old new : LinkState) (closed : Bool) → after_remote_detach old closed ≡ Some new
    → stands_so new ≡ None
taken-apart state.Unattached new closed is = absurd (none-some new is)
taken-apart state.Detached new closed is = absurd (none-some new is)
taken-apart state.Closed new closed is = absurd (none-some new is)
taken-apart state.CloseSent new closed is = ap stands_so (sym (same_Some state.Closed new is))
taken-apart old new true is = ap stands_so (sym (same_Some state.Closed new is))
taken-apart old new false is = ap stands_so (sym (same_Some state.Detached new is))

-- by the peer's Attach a link that waited is attached, and another one is so no more than it waits
abbrev pub Moves : LinkState → LinkState → Type 0
Moves old new = ((stands_so old ≡ Some false) × (stands_so new ≡ Some true)) ⊎ (stands_so new ≡ None)

pub attach-moves : (old new : LinkState) (incomplete : Bool) → after_incoming_attach old incomplete ≡ Some new
    → Moves old new
attach-moves state.AttachSent new false is = inl (refl, ap stands_so (sym (same_Some state.Attached new is)))
attach-moves state.AttachSent new true is =
    inl (refl, ap stands_so (sym (same_Some state.IncompleteAttachExchanged new is)))
attach-moves state.IncompleteAttachSent new false is =
    inl (refl, ap stands_so (sym (same_Some state.IncompleteAttachExchanged new is)))
attach-moves state.IncompleteAttachSent new true is =
    inl (refl, ap stands_so (sym (same_Some state.IncompleteAttachExchanged new is)))
attach-moves state.Unattached new false is = inr (ap stands_so (sym (same_Some state.AttachReceived new is)))
attach-moves state.Unattached new true is = inr (ap stands_so (sym (same_Some state.IncompleteAttachReceived new is)))
attach-moves state.Detached new false is = inr (ap stands_so (sym (same_Some state.AttachReceived new is)))
attach-moves state.Detached new true is = inr (ap stands_so (sym (same_Some state.IncompleteAttachReceived new is)))
attach-moves old new false is = absurd (none-some new is)
attach-moves old new true is = absurd (none-some new is)

module _ (k : ℕ) where
  -- an attachment that ended holds nothing
  ended-holds : (r : ReceiverState) (moved : LinkState → LinkBase) (o : Option LinkState) (after : ReceiverState)
      → ((s : LinkState) → (moved s).local_state ≡ s) → ((s : LinkState) → o ≡ Some s → stands_so s ≡ None)
      → option_map (λ (b : LinkBase). ended r b) (option_map moved o) ≡ Some after
      → held_end k (Receiver after) ≡ None
  ended-holds r moved None after stands apart is = absurd (none-some after is)
  ended-holds r moved (Some s) after stands apart is =
      ap (λ (x : ReceiverState). held_end k (Receiver x)) (sym (same_Some (ended r (moved s)) after is))
      ∙ ap (λ (o : Option Bool). held_if o k None) (ap stands_so (stands s) ∙ apart s refl)

  sent-holds : (r after : ReceiverState) (closed : Bool) → receiver.detach_sent r closed ≡ Some after
      → held_end k (Receiver after) ≡ None
  sent-holds r after closed is =
      ended-holds r (λ (s : LinkState). record r.base { local_state = s })
      (after_send_detach r.base.local_state closed) after (λ s. refl)
      (λ s e. sent-apart r.base.local_state s closed e) is

  taken-holds : (r after : ReceiverState) (closed : Bool) → receiver.detach_taken r closed ≡ Some after
      → held_end k (Receiver after) ≡ None
  taken-holds r after closed is =
      ended-holds r (λ (s : LinkState). record r.base { local_state = s; input_handle = None })
      (after_remote_detach r.base.local_state closed) after (λ s. refl)
      (λ s e. taken-apart r.base.local_state s closed e) is

  sender-holds : (o : Option Sending) (after : End) → option_map (λ (s : Sending). Sender s) o ≡ Some after
      → held_end k after ≡ None
  sender-holds None after is = absurd (none-some after is)
  sender-holds (Some s) after is = ap (held_end k) (sym (same_Some (Sender s) after is))

  receiver-holds : (o : Option ReceiverState) (after : End)
      → ((r : ReceiverState) → o ≡ Some r → held_end k (Receiver r) ≡ None)
      → option_map (λ (r : ReceiverState). Receiver r) o ≡ Some after → held_end k after ≡ None
  receiver-holds None after gone is = absurd (none-some after is)
  receiver-holds (Some r) after gone is = ap (held_end k) (sym (same_Some (Receiver r) after is)) ∙ gone r refl

  -- its own Detach is sent
  pub detach-holds : (before after : End) (closed : Bool) → detach_sent before closed ≡ Some after
      → held_end k after ≡ None
  detach-holds (Sender s) after closed is = sender-holds (sender.detach_sent s closed) after is
  detach-holds (Receiver r) after closed is =
      receiver-holds (receiver.detach_sent r closed) after (λ x e. sent-holds r x closed e) is

  -- a Flow of the peer
  flow-holds : (attached : Bool) (r : ReceiverState) (flow : LinkFlowStateInner)
      → held_end k (Receiver (if attached then with_flow r flow else r)) ≡ held_end k (Receiver r)
  flow-holds true r flow = refl
  flow-holds false r flow = refl

  pub flowed-holds : (old : End) (flow : LinkFlow) → held_end k (flowed old flow) ≡ held_end k old
  flowed-holds (Sender s) flow = refl
  flowed-holds (Receiver r) flow = flow-holds (is_attached r.base.local_state) r (receiver_flowed r.end.flow flow)

  flows-at : (standing : Standing) (old : End) (flow : LinkFlow) (told : Result (Option LinkFlow) RelayError)
      (new : End) → flows_at standing old flow told new → Stays (held_end k old) (held_end k new)
  flows-at Attached old flow told new f = inl (ap (held_end k) f.1 ∙ flowed-holds old flow)
  flows-at Detaching old flow told new f = inl (ap (held_end k) f.1)
  flows-at Apart old flow told new f = inl (ap (held_end k) f.1)

  pub flows-stay : (old : End) (flow : LinkFlow) (told : Result (Option LinkFlow) RelayError) (new : End)
      → flows old flow told new → Stays (held_end k old) (held_end k new)
  flows-stay old flow told new f = flows-at (standing_of (state_of old)) old flow told new f

  -- a Disposition of the peer
  disposed-holds : (r : ReceiverState) (tag : List ℕ) (settled : Bool)
      → held_end k (Receiver (disposed r tag settled)) ≡ held_end k (Receiver r)
  disposed-holds r tag true = refl
  disposed-holds r tag false = refl

  pub disposes-stay : (old : End) (tag : List ℕ) (by : Role) (settled : Bool) (told : Option DeliveryState)
      (echo : Bool) (new : End) → disposes old tag by settled told echo new → Stays (held_end k old) (held_end k new)
  disposes-stay (Sender s) tag role.Receiver settled told echo new d = inl (ap (held_end k) d.1)
  disposes-stay (Sender s) tag role.Sender settled told echo new d = inl (ap (held_end k) d.1)
  disposes-stay (Receiver r) tag role.Sender settled told echo new d =
      inl (ap (held_end k) d.1 ∙ disposed-holds r tag settled)
  disposes-stay (Receiver r) tag role.Receiver settled told echo new d = inl (ap (held_end k) d.1)

  -- its Detach
  takes-detach : (o : Option ReceiverState) (old : ReceiverState) (answer : Result Detached IllegalState)
      (new : ReceiverState) → ((r : ReceiverState) → o ≡ Some r → held_end k (Receiver r) ≡ None)
      → TakesDetach o old answer new → Stays (held_end k (Receiver old)) (held_end k (Receiver new))
  takes-detach None old answer new gone t = inl (ap (λ (r : ReceiverState). held_end k (Receiver r)) t.1)
  takes-detach (Some moved) old answer new gone t =
      inr (ap (λ (r : ReceiverState). held_end k (Receiver r)) t.1 ∙ gone moved refl)

  pub detaches-stay : (old : End) (detach : Detach) (told : Result Detached RelayError) (new : End)
      → detaches old detach told new → Stays (held_end k old) (held_end k new)
  detaches-stay (Sender s) detach (Ok told) (Sender after) d = inl refl
  detaches-stay (Sender s) detach (Err UnattachedHandle) (Sender after) d = inl refl
  detaches-stay (Sender s) detach (Err Memory) (Sender after) d = inl refl
  detaches-stay (Receiver r) detach (Ok told) (Receiver after) d =
      takes-detach (receiver.detach_taken r detach.closed) r (Ok told) after
      (λ x e. taken-holds r x detach.closed e) d
  detaches-stay (Receiver r) detach (Err UnattachedHandle) (Receiver after) d =
      takes-detach (receiver.detach_taken r detach.closed) r (Err (record {})) after
      (λ x e. taken-holds r x detach.closed e) d
  detaches-stay old detach told new d = absurd d

  -- its Attach
  module _ (old new : ReceiverState) (attach : Attach) (result : Result AttachedTold AllocError) where
    moved-goes : (s : LinkState) → Moves old.base.local_state s → new.base.local_state ≡ s
        → new.end.held ≡ old.end.held → Goes (held_end k (Receiver old)) (held_end k (Receiver new))
    moved-goes s (inl (was, is)) state held =
        inl (record {
          number = k;
          held = old.end.held;
          was = ap (λ (o : Option Bool). held_if o k old.end.held) was;
          is = ap (λ (h : Option Delivery). held_if (stands_so new.base.local_state) k h) held
              ∙ ap (λ (o : Option Bool). held_if o k old.end.held) (ap stands_so state ∙ is);
        })
    moved-goes s (inr apart) state held =
        inr (inr (ap (λ (o : Option Bool). held_if o k new.end.held) (ap stands_so state ∙ apart)))

    stays-so : new ≡ old → Goes (held_end k (Receiver old)) (held_end k (Receiver new))
    stays-so same = inr (inl (ap (λ (r : ReceiverState). held_end k (Receiver r)) same))

    takes-attach : (o : Option LinkState) (error : Option ReceiverAttachError)
        → after_incoming_attach old.base.local_state attach.incomplete_unsettled ≡ o
        → TakesAttach (option_map (λ (s : LinkState). moved_to old.base attach s) o) error old attach result new
        → Goes (held_end k (Receiver old)) (held_end k (Receiver new))
    takes-attach None error is t = stays-so t.1
    takes-attach (Some s) (Some e) is (inl t) = stays-so t.2
    takes-attach (Some s) (Some e) is (inr t) =
        moved-goes s (attach-moves old.base.local_state s attach.incomplete_unsettled is)
        (ap (λ (r : ReceiverState). r.base.local_state) t.1) (ap (λ (r : ReceiverState). r.end.held) t.1)
    takes-attach (Some s) None is (inl t) = stays-so t.1
    takes-attach (Some s) None is (inr t) =
        moved-goes s (attach-moves old.base.local_state s attach.incomplete_unsettled is)
        (ap (λ (r : ReceiverState). r.base.local_state) t.1) (ap (λ (r : ReceiverState). r.end.held) t.1)

    attach-taken : AttachTaken old attach result new → Goes (held_end k (Receiver old)) (held_end k (Receiver new))
    attach-taken t =
        takes-attach (after_incoming_attach old.base.local_state attach.incomplete_unsettled) (attach_error old attach)
        refl t

  pub attaches-go : (old : End) (attach : Attach) (told : Result AttachTold RelayError) (new : End)
      → attaches old attach told new → Goes (held_end k old) (held_end k new)
  attaches-go (Sender s) attach (Ok (told.Sender answer)) (Sender after) a = inr (inl refl)
  attaches-go (Sender s) attach (Err Memory) (Sender after) a = inr (inl refl)
  attaches-go (Receiver r) attach (Ok (told.Receiver answer)) (Receiver after) a =
      attach-taken r after attach (Ok answer) a
  attaches-go (Receiver r) attach (Err Memory) (Receiver after) a =
      attach-taken r after attach (Err alloc_error) a
  attaches-go old attach told new a = absurd a

-- a link that holds nothing, as each does of which no Attach was sent
abbrev pub IsEmpty : End → Type 0
IsEmpty (Sender s) = Unit {0}
IsEmpty (Receiver r) = r.end.held ≡ None

fresh-if : (E : Type 0) (k : ℕ) (o : Option Bool) (held : Option Delivery) → (E → held ≡ None)
    → IsFresh E k (held_if o k held)
fresh-if E k None held none = inl refl
fresh-if E k (Some attached) held none = inr ((attached, held), refl, none)

pub empty-fresh : (E : Type 0) (k : ℕ) (e : End) → (E → IsEmpty e) → IsFresh E k (held_end k e)
empty-fresh E k (Sender s) empty = inl refl
empty-fresh E k (Receiver r) empty = fresh-if E k (stands_so r.base.local_state) r.end.held empty

pub empty-handle : (e : End) (handle : OutputHandle) → IsEmpty e → IsEmpty (with_handle e handle)
empty-handle (Sender s) handle empty = tt
empty-handle (Receiver r) handle empty = empty

-- its own Attach is sent
sent-sender : (o : Option Sending) (new : End) → option_map (λ (s : Sending). Sender s) o ≡ Some new → IsEmpty new
sent-sender None new is = absurd (none-some new is)
sent-sender (Some s) new is = subst IsEmpty (same_Some (Sender s) new is) tt

sent-receiver : (r : ReceiverState) (flow : LinkFlowStateInner) (o : Option LinkBase) (new : End) → r.end.held ≡ None
    → option_map (λ (r : ReceiverState). Receiver r)
    (option_map (λ (b : LinkBase). record r { base = b; end = record r.end { flow = flow } }) o) ≡ Some new
    → IsEmpty new
sent-receiver r flow None new empty is = absurd (none-some new is)
sent-receiver r flow (Some b) new empty is =
    subst IsEmpty
    (same_Some (Receiver (record r { base = b; end = record r.end { flow = flow } })) new is) empty

pub empty-sent : (e : End) (incomplete : Bool) (new : End) → IsEmpty e → attach_sent e incomplete ≡ Some new
    → IsEmpty new
empty-sent (Sender s) incomplete new empty is = sent-sender (sending.attach_sent s incomplete) new is
empty-sent (Receiver r) incomplete new empty is =
    sent-receiver r (flow_attached r.end.flow r.end.flow.initial_delivery_count) (sent_attach r.base incomplete) new
    empty is

-- it takes the peer's
taken-held : (moved : Option LinkBase) (error : Option ReceiverAttachError) (old : ReceiverState) (attach : Attach)
    (result : Result AttachedTold AllocError) (new : ReceiverState)
    → TakesAttach moved error old attach result new → new.end.held ≡ old.end.held
taken-held None error old attach result new t = ap (λ (r : ReceiverState). r.end.held) t.1
taken-held (Some b) (Some e) old attach result new (inl t) = ap (λ (r : ReceiverState). r.end.held) t.2
taken-held (Some b) (Some e) old attach result new (inr t) = ap (λ (r : ReceiverState). r.end.held) t.1
taken-held (Some b) None old attach result new (inl t) = ap (λ (r : ReceiverState). r.end.held) t.1
taken-held (Some b) None old attach result new (inr t) = ap (λ (r : ReceiverState). r.end.held) t.1

pub empty-takes : (e : End) (attach : Attach) (told : Result AttachTold RelayError) (new : End) → IsEmpty e
    → attaches e attach told new → IsEmpty new
empty-takes (Sender s) attach (Ok (told.Sender answer)) (Sender after) empty a = tt
empty-takes (Sender s) attach (Err Memory) (Sender after) empty a = tt
empty-takes (Receiver r) attach (Ok (told.Receiver answer)) (Receiver after) empty a =
    taken-held (took_attach r.base attach) (attach_error r attach) r attach (Ok answer) after a ∙ empty
empty-takes (Receiver r) attach (Err Memory) (Receiver after) empty a =
    taken-held (took_attach r.base attach) (attach_error r attach) r attach (Err alloc_error) after a ∙ empty
empty-takes e attach told new empty a = absurd a
