-- A handle of the peer's that leads to a receiving link leads there as long as the link is attached: each step of a
-- session by which it might not.
use Rattle.std.proofs.Common.{◌≡◌, ◌≢◌, ◌⊎◌, ◌==◌, inl, inr, ℕ, Bool, true, false, List, Option, Some, None, Result}
use Rattle.std.proofs.Common.{Ok, Err, ap, cond, refl, sym, true≢false, ◌∙◌, if◌then◌else◌}
use Rattle.std.proofs.lemmas.Bool.{eq-eqb}
use Rattle.std.proofs.lemmas.Bool.Decides.{eqb_tells}
use Rattle.std.proofs.lemmas.List.{get_or-set_other}
use Rattle.std.proofs.lemmas.Option.{none-some, same_Some}
use Rattle.std.specs.FinMap as map
use Rattle.std.specs.Prelude.{alloc_error, is_some, option_map, slice_index_or}
use Rattle.amqp_session_types.specs.declared.handles.OutputHandle.{OutputHandle}
use Rattle.amqp_session_performatives.specs.declared.attach.Attach.{Attach}
use Rattle.amqp_session_performatives.specs.declared.detach.Detach.{Detach}
use Rattle.amqp_session_core.specs.State.{StepsAt, link_at, live_in}
use Rattle.amqp_session_core.specs.Steps.{Allocates, Deallocates, Step, TakesAttach, TakesDetach}
use Rattle.amqp_session_core.specs.Tables.{RouteTable, unless_to}
use Rattle.amqp_session_core.specs.declared.relay.RelayError.{RelayError}
use Rattle.amqp_session_core.specs.declared.relay.RelayError.TheVariants.{Memory}
use Rattle.amqp_link_types.specs.declared.attaching.ReceiverAttachError.{ReceiverAttachError}
use Rattle.amqp_link_base.specs.Flows.{attached as flow_attached}
use Rattle.amqp_link_base.specs.declared.inner.LinkFlowStateInner.{LinkFlowStateInner}
use Rattle.amqp_link_base.specs.State.{after_remote_detach, after_send_attach}
use Rattle.amqp_link_base.specs.declared.state.LinkState.{LinkState}
use Rattle.amqp_link_base.specs.declared.state.LinkState.TheVariants as state
use Rattle.amqp_link_base.specs.Moves.{took_attach}
use Rattle.amqp_link_base.specs.declared.base.LinkBase.{LinkBase}
use Rattle.amqp_link_base.specs.declared.detached.Detached.{Detached}
use Rattle.amqp_link.specs.Ends.{state_of, with_handle}
use Rattle.amqp_link.specs.Gives.{attaches, detaches}
use Rattle.amqp_link.specs.declared.end.End.{End}
use Rattle.amqp_link.specs.declared.end.End.TheVariants.{Receiver, Sender}
use Rattle.amqp_link.specs.declared.relay.AttachTold.{AttachTold}
use Rattle.amqp_link_receiver.specs.Attaching as receiver
use Rattle.amqp_link_receiver.specs.Attaching.{attach_error}
use Rattle.amqp_link_receiver.specs.Ending as ending
use Rattle.amqp_link_receiver.specs.Ending.{ended}
use Rattle.amqp_link_receiver.specs.State.{ReceiverState}
use Rattle.amqp_link_receiver.specs.Deliveries.{Delivery}
use Rattle.amqp_link_sender.specs.Attaching as sending
use Rattle.amqp_link_sender.specs.Sending.{Sending}
use Rattle.amqp_session_types.proofs.Tables.{get-put, get-put-other, get-take-other}
use Rattle.amqp_endpoint_attached.specs.Linked.{LinksIn, gives}
use Rattle.amqp_endpoint_attached.specs.Links.{attach_sent, is_at_rest}
use Rattle.amqp_endpoint_link_hearing.proofs.Heard.{stepped-there}
use Rattle.amqp_endpoint_linking.specs.Linking.{Link}
use Rattle.amqp_endpoint_laws.proofs.HoldingEnds.{Holding, IsAttached, Part, held_end, held_if, held_link, stands_so}
use Rattle.amqp_endpoint_laws.proofs.HoldingWaits.{IsUnattached}

-- behind the peer's Detach, which it took, a receiving link is attached no longer
parted-none : (k : ℕ) (r after : ReceiverState) (s : LinkState) (closed : Bool) (told : Detached)
    → ending.TakesDetach
    (option_map (λ (b : LinkBase). ended r b)
    (option_map (λ (t : LinkState). record r.base { local_state = t; input_handle = None })
    (after_remote_detach s closed)))
    r (Ok told) after
    → held_end k (Receiver after) ≡ None
parted-none k r after state.Unattached closed told t = let clash = t.0 in absurd cc
parted-none k r after state.Detached closed told t = let clash = t.0 in absurd cc
parted-none k r after state.Closed closed told t = let clash = t.0 in absurd cc
parted-none k r after state.CloseSent closed told t = ap (λ (x : ReceiverState). held_end k (Receiver x)) t.1
parted-none k r after s true told t = ap (λ (x : ReceiverState). held_end k (Receiver x)) t.1
parted-none k r after s false told t = ap (λ (x : ReceiverState). held_end k (Receiver x)) t.1

detached-none : (k : ℕ) (old : End) (detach : Detach) (told : Detached) (new : End)
    → detaches old detach (Ok told) new → held_end k new ≡ None
detached-none k (Sender s) detach told (Sender after) d = refl
detached-none k (Receiver r) detach told (Receiver after) d =
    parted-none k r after r.base.local_state detach.closed told d
detached-none k old detach told new d = absurd d

-- where there is no memory for what the peer's Attach brings, a link stays as it was
refused-same : (moved : Option LinkBase) (error : Option ReceiverAttachError) (old new : ReceiverState)
    (attach : Attach) → receiver.TakesAttach moved error old attach (Err alloc_error) new → new ≡ old
refused-same None error old new attach t = let clash = t.0 in absurd cc
refused-same (Some b) (Some e) old new attach (inl t) = t.2
refused-same (Some b) (Some e) old new attach (inr t) = let clash = t.0 in absurd cc
refused-same (Some b) None old new attach (inl t) = t.1
refused-same (Some b) None old new attach (inr t) = let clash = t.0 in absurd cc

refused-holds : (k : ℕ) (old : End) (attach : Attach) (error : RelayError) (new : End)
    → attaches old attach (Err error) new → held_end k new ≡ held_end k old
refused-holds k (Sender s) attach Memory (Sender after) a = refl
refused-holds k (Receiver r) attach Memory (Receiver after) a =
    ap (λ (x : ReceiverState). held_end k (Receiver x))
    (refused-same (took_attach r.base attach) (attach_error r attach) r after attach a)
refused-holds k old attach error new a = absurd a

-- a link that waits for the peer's Attach is not attached
pub waiting-holds : (n : ℕ) (e : End) (k : ℕ) (held : Option Delivery) → stands_so (state_of e) ≡ Some false
    → held_end n e ≡ Some (k, (true, held)) → ⊥
waiting-holds n (Sender s) k held waits is = none-some _ is
waiting-holds n (Receiver r) k held waits is =
    true≢false
    (sym (ap (λ (x : ℕ × Part). x.1.0)
    (same_Some (n, (false, r.end.held)) (k, (true, held))
    (sym (ap (λ (o : Option Bool). held_if o n r.end.held) waits) ∙ is))))

-- so does one that was at rest and sent its own
sent-waits : (r : ReceiverState) (s : LinkState) (flow : LinkFlowStateInner) (incomplete : Bool) (new : End)
    → is_at_rest s ≡ true
    → option_map (λ (x : ReceiverState). Receiver x)
    (option_map (λ (b : LinkBase). record r { base = b; end = record r.end { flow = flow } })
    (option_map (λ (t : LinkState). record r.base { local_state = t }) (after_send_attach s incomplete))) ≡ Some new
    → stands_so (state_of new) ≡ Some false
sent-waits r state.Unattached flow true new fresh sent =
    ap (λ (e : End). stands_so (state_of e)) (sym (same_Some _ new sent))
sent-waits r state.Unattached flow false new fresh sent =
    ap (λ (e : End). stands_so (state_of e)) (sym (same_Some _ new sent))
sent-waits r state.Detached flow true new fresh sent =
    ap (λ (e : End). stands_so (state_of e)) (sym (same_Some _ new sent))
sent-waits r state.Detached flow false new fresh sent =
    ap (λ (e : End). stands_so (state_of e)) (sym (same_Some _ new sent))
sent-waits r s flow true new fresh sent = absurd cc
sent-waits r s flow false new fresh sent = absurd cc

sender-none : (n : ℕ) (o : Option Sending) (new : End) → option_map (λ (s : Sending). Sender s) o ≡ Some new
    → held_end n new ≡ None
sender-none n None new sent = absurd (none-some new sent)
sender-none n (Some s) new sent = ap (held_end n) (sym (same_Some (Sender s) new sent))

pub own-waits : (n : ℕ) (e : End) (handle : OutputHandle) (incomplete : Bool) (new : End) → IsUnattached e
    → attach_sent (with_handle e handle) incomplete ≡ Some new → (k : ℕ) (held : Option Delivery)
    → held_end n new ≡ Some (k, (true, held)) → ⊥
own-waits n (Sender s) handle incomplete new fresh sent k held is =
    none-some _
    (sym (sender-none n
    (sending.attach_sent (record s { base = record s.base { output_handle = Some handle } }) incomplete) new sent)
    ∙ is)
own-waits n (Receiver r) handle incomplete new fresh sent k held is =
    waiting-holds n new k held
    (sent-waits (record r { base = record r.base { output_handle = Some handle } }) r.base.local_state
    (flow_attached r.end.flow r.end.flow.initial_delivery_count) incomplete new fresh sent)
    is

-- where a handle of the peer's led to a receiving link that is attached then too, it leads there still
abbrev pub LeadsStill : LinksIn → LinksIn → Type 0
LeadsStill old new =
    (input h k : ℕ) (held : Option Delivery) → map.get old.routes input ≡ Some h
    → held_link (link_at new h) ≡ Some (k, (true, held)) → map.get new.routes input ≡ Some h

pub same-still : (old new : LinksIn) → new.routes ≡ old.routes → LeadsStill old new
same-still old new same input h k held there is = ap (λ (t : RouteTable). map.get t input) same ∙ there

-- a handle that led nowhere comes to lead to a link, and the others lead where they led
put-still : (old new : RouteTable) (key handle : ℕ) → map.get old key ≡ None → new ≡ map.insert old key handle
    → (input h : ℕ) → map.get old input ≡ Some h → map.get new input ≡ Some h
put-still old new key handle free put input h there =
    ap (λ (t : RouteTable). map.get t input) put
    ∙ get-put-other old key input handle
    (λ same. none-some h (sym free ∙ ap (λ (q : ℕ). map.get old q) (sym same) ∙ there))
    ∙ there

put-there : (old new : RouteTable) (key handle : ℕ) → new ≡ map.insert old key handle
    → map.get new key ≡ Some handle
put-there old new key handle put =
    ap (λ (t : RouteTable). map.get t key) put ∙ get-put old key key handle
    ∙ ap (λ (b : Bool). cond b (Some handle) (map.get old key)) (eq-eqb key key refl)

-- an own handle is taken back: what led to it leads nowhere, and there is no link then
pub freed-still : (old new : LinksIn) (handle : ℕ) → Step gives old (Deallocates handle) new → LeadsStill old new
freed-still old new handle s input h k held there is = by (eqb_tells h handle)
  where
    by : (((h == handle) ≡ true) × (h ≡ handle)) ⊎ (((h == handle) ≡ false) × (h ≢ handle))
        → map.get new.routes input ≡ Some h
    by (inl same) =
        absurd
        (none-some (k, (true, held))
        (sym (ap held_link (s.0 h ∙ ap (λ (b : Bool). if b then None else link_at old h) same.0)) ∙ is))
    by (inr apart) =
        s.1 input ∙ ap (unless_to handle) there ∙ ap (λ (b : Bool). if b then None else Some h) apart.0

-- a handle that reaches a link leads to it
pub live-is : (links : List (Option Link)) (o : Option ℕ) (h : ℕ) → live_in links o ≡ Some h → o ≡ Some h
live-is links None h is = absurd (none-some h is)
live-is links (Some to) h is = by (is_some (slice_index_or links to None)) is
  where
    by : (b : Bool) → (if b then Some to else None) ≡ Some h → Some to ≡ Some h
    by true e = e
    by false e = absurd (none-some h e)

-- a Detach of the peer's is taken, by a link that is attached no longer: its handle leads nowhere, and the others lead
-- where they led
pub detached-still : (old new : LinksIn) (handle : ℕ) (detach : Detach) (told : Detached)
    → Step gives old (TakesDetach handle detach (Ok told)) new → LeadsStill old new
detached-still old new handle detach told s input h k held there is = by (eqb_tells input key)
  where
    key : ℕ
    key = detach.handle.0

    gone : held_link (link_at new handle) ≡ None
    gone =
        ap held_link
        (stepped-there (λ before after. gives.detaches before detach (Ok told) after) old handle new s.1)
        ∙ detached-none s.1.after.number s.1.before.link detach told s.1.after.link s.1.stepped.0

    by : (((input == key) ≡ true) × (input ≡ key)) ⊎ (((input == key) ≡ false) × (input ≢ key))
        → map.get new.routes input ≡ Some h
    by (inl same) =
        let led : h ≡ handle =
        same_Some h handle
        (sym there ∙ ap (λ (q : ℕ). map.get old.routes q) same.1
        ∙ live-is old.links (map.get old.routes key) handle s.0) in
        absurd
        (none-some (k, (true, held)) (sym (ap (λ (q : ℕ). held_link (link_at new q)) led ∙ gone) ∙ is))
    by (inr apart) =
        ap (λ (x : LinksIn). map.get x.routes input) s.2 ∙ get-take-other old.routes key input apart.1 ∙ there

-- a link that takes a step is alone in that
pub other-links : (does : Link → Link → Type 0) (old new : LinksIn) (handle h : ℕ)
    → StepsAt does old.links handle new.links → h ≢ handle → link_at new h ≡ link_at old h
other-links does old new handle h st apart =
    ap (λ (ls : List (Option Link)). slice_index_or ls h None) st.others
    ∙ get_or-set_other old.links handle h (Some st.after) None apart

-- a link comes to be attached only where what it holds changes
none-attaches : (a b : Holding) → b ≡ a → IsAttached a b → ⊥
none-attaches a b same t =
    true≢false
    (ap (λ (x : ℕ × Part). x.1.0)
    (same_Some (t.number, (true, t.held)) (t.number, (false, t.held)) (sym t.is ∙ same ∙ t.was)))

-- an Attach of the peer's is taken, on a handle that led nowhere
pub taken-still : (old new : LinksIn) (handle : ℕ) (attach : Attach) (told : Result AttachTold RelayError)
    → Step gives old (TakesAttach handle attach told) new → LeadsStill old new
taken-still old new handle attach (Ok told) s =
    λ input h k held there is.
    put-still old.routes new.routes attach.handle.0 handle s.0 (ap (λ (x : LinksIn). x.routes) s.2) input h there
taken-still old new handle attach (Err e) s =
    same-still old new (ap (λ (x : LinksIn). x.routes) s.2)

-- and it leads then to the link that comes to be attached by it
pub taken-there : (old new : LinksIn) (handle : ℕ) (attach : Attach) (told : Result AttachTold RelayError)
    → Step gives old (TakesAttach handle attach told) new → (h : ℕ)
    → IsAttached (held_link (link_at old h)) (held_link (link_at new h))
    → map.get new.routes attach.handle.0 ≡ Some h
taken-there old new handle attach told s h t = by (eqb_tells h handle)
  where
    other : (r : Result AttachTold RelayError) → Step gives old (TakesAttach handle attach r) new → h ≢ handle
        → link_at new h ≡ link_at old h
    other (Ok x) st apart =
        other-links (λ before after. gives.attaches before attach (Ok x) after) old new handle h st.1 apart
    other (Err e) st apart =
        other-links (λ before after. gives.attaches before attach (Err e) after) old new handle h st.1 apart

    led : (r : Result AttachTold RelayError) → Step gives old (TakesAttach handle attach r) new → h ≡ handle
        → map.get new.routes attach.handle.0 ≡ Some h
    led (Ok x) st same =
        put-there old.routes new.routes attach.handle.0 handle (ap (λ (x : LinksIn). x.routes) st.2)
        ∙ ap (λ (q : ℕ). Some q) (sym same)
    led (Err e) st same =
        absurd
        (none-attaches (held_link (link_at old h)) (held_link (link_at new h))
        (ap (λ (q : ℕ). held_link (link_at new q)) same
        ∙ ap held_link
        (stepped-there (λ before after. gives.attaches before attach (Err e) after) old handle new st.1)
        ∙ ap (λ (n : ℕ). held_end n st.1.after.link) st.1.stepped.1
        ∙ refused-holds st.1.before.number st.1.before.link attach e st.1.after.link st.1.stepped.0
        ∙ ap held_link (sym st.1.had) ∙ ap (λ (q : ℕ). held_link (link_at old q)) (sym same))
        t)

    by : (((h == handle) ≡ true) × (h ≡ handle)) ⊎ (((h == handle) ≡ false) × (h ≢ handle))
        → map.get new.routes attach.handle.0 ≡ Some h
    by (inl same) = led told s same.1
    by (inr apart) =
        absurd
        (none-attaches (held_link (link_at old h)) (held_link (link_at new h))
        (ap held_link (other told s apart.1)) t)

-- a link gets an own handle, and a handle of the peer's that led nowhere leads to it, where one is given
pub allocated-still : (old new : LinksIn) (handle : ℕ) (link : Link) (input : Option ℕ)
    → Step gives old (Allocates handle link input) new → LeadsStill old new
allocated-still old new handle link None s = same-still old new (ap (λ (x : LinksIn). x.routes) s.4)
allocated-still old new handle link (Some input) s =
    λ other h k held there is.
    put-still old.routes new.routes input handle s.0 (ap (λ (x : LinksIn). x.routes) s.5) other h there

pub allocated-there : (old new : LinksIn) (handle : ℕ) (link : Link) (input : ℕ)
    → Step gives old (Allocates handle link (Some input)) new → map.get new.routes input ≡ Some handle
allocated-there old new handle link input s =
    put-there old.routes new.routes input handle (ap (λ (x : LinksIn). x.routes) s.5)
