-- What passes in a session by a call.
use Rattle.std.proofs.Common.{◌≡◌, ℕ, Bool, true, false, List, [], ◌∷◌, Option, Some, None}
use Rattle.std.proofs.Common.{ap, sym, subst, ◌∙◌}
use Rattle.amqp_session_performatives.specs.declared.session_frame.SessionFrame.{SessionFrame}
use Rattle.amqp_link.specs.declared.end.End.{End}
use Rattle.amqp_endpoint_tables.specs.LinkState.{place_at as link_place}
use Rattle.amqp_endpoint_tables.specs.declared.link_place.LinkPlace.TheVariants.{AtRest, Held}
use Rattle.amqp_endpoint_model.specs.declared.call.Call.{Call}
use Rattle.amqp_endpoint_model.specs.declared.call.Call.TheVariants as call
use Rattle.amqp_endpoint_model.specs.declared.call.Disposal.{Disposal}
use Rattle.amqp_endpoint_model.specs.declared.call.Sending.{Sending}
use Rattle.amqp_endpoint_model.specs.declared.event.Event.{Event}
use Rattle.amqp_endpoint_model.specs.Said.{Said, attaching, count, credit_is, done, link_closed, message_sent}
use Rattle.amqp_endpoint_model.specs.Said.{session_begun, tried_end, truth, waiting}
use Rattle.amqp_endpoint_linking.specs.Linking.{Talk}
use Rattle.amqp_endpoint_attached.specs.Links.{attach_frame}
use Rattle.amqp_endpoint_link_calls.specs.Calling.{Does, DoneAt, DoneIn, detaches, gives_credit, wants_drain}
use Rattle.amqp_endpoint_link_calls.specs.Closing.{ClosedAt, ClosedHeld, closes, fails, parted_at}
use Rattle.amqp_endpoint_link_calls.specs.Places.{LinksBy, Where}
use Rattle.amqp_endpoint_link_calls.proofs.Inside.{StaysInside, closes-inside, detaches-inside, drains-inside}
use Rattle.amqp_endpoint_link_calls.proofs.Inside.{fails-inside}
use Rattle.amqp_endpoint_link_calls.proofs.Inside.{gives-inside}
use Rattle.amqp_endpoint_link_calls.specs.Disposing.{DisposedAt, disposes_of_all, disposes_of_one}
use Rattle.amqp_endpoint_link_calls.specs.Sending.{sends}
use Rattle.amqp_endpoint_link_calls.proofs.MessagesInside.{disposes-inside, disposes-one-inside, sends-inside}
use Rattle.amqp_endpoint.specs.Calling.{Calls, answer_of}
use Rattle.amqp_endpoint.specs.Sending.{tag_of}
use Rattle.amqp_endpoint.specs.declared.linked.LinkedSessions.{LinkedSessions}
use Rattle.amqp_endpoint_laws.specs.Following.{goes}
use Rattle.amqp_endpoint_laws.specs.Reading.{Wired}
use Rattle.amqp_endpoint_conversation.specs.Inside.{Batches}
use Rattle.amqp_endpoint_laws.specs.Passed.{called_in, holder}
use Rattle.amqp_endpoint_laws.proofs.AttachedBehind.{attaches-inside}
use Rattle.amqp_endpoint_laws.proofs.AskedCameInside.{KeepsBy, attached-keeps, closing-keeps, detaches-keep}
use Rattle.amqp_endpoint_laws.proofs.AskedCameInside.{disposes-keep, disposes-one-keeps, drains-keep, gives-keeps}
use Rattle.amqp_endpoint_laws.proofs.AskedCameInside.{failing-keeps, sends-keep}
use Rattle.amqp_endpoint_laws.proofs.PassedWalk.{AttachGoes, Walk}
use Rattle.amqp_endpoint_laws.proofs.Placing.{IsPlaced, is-again, is-new}

-- a call that sends a message, or by which a link attaches that may send some on
abbrev pub MaySend : Call → Type 0
MaySend (call.Send link message) = Unit {0}
MaySend (call.AttachSender number settings) = Unit {0}
MaySend (call.AttachReceiver number settings) = Unit {0}
MaySend (call.Resume link number) = Unit {0}
MaySend it = ⊥

-- one by which a link attaches
abbrev pub IsAttaching : Call → Type 0
IsAttaching (call.AttachSender number settings) = Unit {0}
IsAttaching (call.AttachReceiver number settings) = Unit {0}
IsAttaching (call.Resume link number) = Unit {0}
IsAttaching it = ⊥

module _ {Allows : Batches → Type 0} (P : ℕ → List Wired → Talk → Talk → Type 0)
    (Q : Option ℕ → List Wired → Talk → Talk → Type 0) (w : Walk Allows P Q) where
  -- nothing changes
  stays : (o : Option ℕ) (frames : List SessionFrame) (old new : Talk) → frames ≡ [] → new ≡ old
      → Q o (goes frames) old new
  stays o frames old new none same =
      subst (λ (fs : List SessionFrame). Q o (goes fs) old new) (sym none)
      (w.silent o 0 old new (w.none 0 old new same))

  -- what a call does in the session that holds its link
  done-in : (does : Does) (session : ℕ) (handle : _) (old new : Talk) (frames : List SessionFrame) → StaysInside does
      → KeepsBy does → DoneIn does session handle old [] new frames → P session (goes frames) old new
  done-in does session handle old new frames inside keeps d =
      subst (λ (fs : List SessionFrame). P session (goes fs) old new) (sym d.queued)
      (w.inside session [] d.frames d.before d.after old new (w.quiet [] tt) d.stepped d.rest
      (inside handle d.before.value d.after.value d.frames d.did)
      (keeps handle d.before.value d.after.value d.frames d.did))

  done-at : (does : Does) (place : Where) (old new : Talk) (frames : List SessionFrame) → StaysInside does
      → KeepsBy does → DoneAt does place old [] new frames → Q (holder place) (goes frames) old new
  done-at does None old new frames inside keeps d = absurd d
  done-at does (Some (AtRest end)) old new frames inside keeps d = absurd d
  done-at does (Some (Held session handle)) old new frames inside keeps d =
      w.at session (goes frames) old new (done-in does session handle old new frames inside keeps d)

  sent-at : (limit : ℕ) (tag : List ℕ) (message : Sending) (settled : Bool) (place : Where) (old new : Talk)
      (frames : List SessionFrame) → ((accepted : Batches) → Allows accepted)
      → DoneAt (sends limit tag message settled) place old [] new frames
      → Q (holder place) (goes frames) old new
  sent-at limit tag message settled None old new frames may d = absurd d
  sent-at limit tag message settled (Some (AtRest end)) old new frames may d = absurd d
  sent-at limit tag message settled (Some (Held session handle)) old new frames may d =
      w.at session (goes frames) old new
      (subst (λ (fs : List SessionFrame). P session (goes fs) old new) (sym d.queued)
      (w.inside session ((handle.0, d.did.transfers) ∷ []) d.frames d.before d.after old new (may _) d.stepped d.rest
      (sends-inside limit tag message settled handle d.before.value d.after.value d.frames d.did)
      (sends-keep limit tag message settled handle d.before.value d.after.value d.frames d.did)))

  disposed-at : (limit : ℕ) (place : Where) (messages : List ℕ) (disposal : Disposal) (old new : Talk)
      (frames : List SessionFrame) → DisposedAt limit place messages disposal old [] new frames
      → Q (holder place) (goes frames) old new
  disposed-at limit place [] disposal old new frames (same, none) =
      stays (holder place) frames old new none same
  disposed-at limit place (message ∷ messages) disposal old new frames d =
      done-at (disposes_of_all limit (message ∷ messages) disposal) place old new frames
      (disposes-inside limit (message ∷ messages) disposal) (disposes-keep limit (message ∷ messages) disposal) d

  closed-held : (parted : Bool) (session : ℕ) (handle : _) (number : ℕ) (events : List Event) (old new : Talk)
      (links links_new : LinksBy) (frames : List SessionFrame)
      → ClosedHeld parted session handle old links number [] events new links_new frames
      → P session (goes frames) old new
  closed-held true session handle number events old new links links_new frames c =
      done-in (fails number events) session handle old new frames (fails-inside number events)
      (failing-keeps number events) c.done
  closed-held false session handle number events old new links links_new frames c =
      done-in (closes events) session handle old new frames (closes-inside events) (closing-keeps events) c.done

  closed-at : (place : Where) (number : ℕ) (events : List Event) (old new : Talk) (links links_new : LinksBy)
      (frames : List SessionFrame) → ClosedAt place old links number [] events new links_new frames
      → Q (holder place) (goes frames) old new
  closed-at None number events old new links links_new frames c = absurd c
  closed-at (Some (AtRest end)) number events old new links links_new frames c =
      stays None frames old new c.silent c.same
  closed-at (Some (Held session handle)) number events old new links links_new frames c =
      w.at session (goes frames) old new
      (closed-held (parted_at old session handle) session handle number events old new
      links links_new frames c)

  attached : (old new : Talk) (links links_new : LinksBy) (limit session : ℕ) (link : End) (number : ℕ)
      (events : List Event) (frames : List SessionFrame) → ((accepted : Batches) → Allows accepted) → AttachGoes P
      → IsPlaced old links limit session link number events frames new links_new
      → Q (Some session) (goes frames) old new
  attached old new links links_new limit session link number events frames may first a =
      let l = a.attaches in
      let i = l.attaches in
      let s = attaches-inside old new limit session link a.placed l.frames i in
      w.at session (goes frames) old new
      (subst (λ (fs : List SessionFrame). P session (goes fs) old new) (sym (l.queued ∙ s.are))
      (w.on session (goes (attach_frame i.before.value.session s.attach ∷ [])) (goes s.later) old old new
      (first session s.attach i.before old (i.stepped).0)
      (w.inside session s.accepted s.later i.before i.after old new (may s.accepted) i.stepped i.rest s.inside
      (attached-keeps i.before.value i.after.value limit link a.placed l.frames i.attached.input
      i.attached.attached))))

  told-alone : (o : Option ℕ) (frames : List SessionFrame) (old new : LinkedSessions) → frames ≡ [] → new ≡ old
      → Q o (goes frames) old.talk new.talk
  told-alone o frames old new none same =
      stays o frames old.talk new.talk none (ap (λ (s : LinkedSessions). s.talk) same)

  pub called : (it : Call) (answer : Said) (old new : LinkedSessions) (limit : ℕ) (frames : List SessionFrame)
      → (MaySend it → (accepted : Batches) → Allows accepted) → (IsAttaching it → AttachGoes P)
      → Calls old limit it answer frames new
      → Q (called_in old it answer) (goes frames) old.talk new.talk
  called call.Begin (session_begun n) old new limit frames may first c =
      w.at n (goes frames) old.talk new.talk (w.begins n frames old.talk new.talk c.begins)
  called (call.AcceptBegin channel) (session_begun n) old new limit frames may first c =
      w.at n (goes frames) old.talk new.talk (w.accepts channel n frames old.talk new.talk c.accepts)
  called (call.End n) done old new limit frames may first c =
      w.at n (goes frames) old.talk new.talk
      (subst (λ (fs : List SessionFrame). P n (goes fs) old.talk new.talk) (sym (c.ends).queued)
      (w.ends n None c.session [] frames old.talk new.talk c.ends))
  called (call.IsEnded n) (truth b) old new limit frames may first c = told-alone _ frames old new c.silent c.same
  called (call.TryEnd n) (tried_end o) old new limit frames may first c =
      subst (λ (fs : List SessionFrame). Q None (goes fs) old.talk new.talk) (sym c.silent)
      (w.silent None n old.talk new.talk
      (w.told n (answer_of o) old.talk new.talk c.tells (ap (λ (s : LinkedSessions). s.talk) c.rest)))
  called (call.AttachSender n settings) (attaching link events) old new limit frames may first c =
      attached old.talk new.talk old.links new.links limit n _ link events frames (may tt) (first tt)
      (is-new old.talk new.talk old.links new.links limit n _ link events frames c)
  called (call.AttachReceiver n settings) (attaching link events) old new limit frames may first c =
      attached old.talk new.talk old.links new.links limit n _ link events frames (may tt) (first tt)
      (is-new old.talk new.talk old.links new.links limit n _ link events frames c)
  called (call.Resume link n) (attaching number events) old new limit frames may first c =
      attached old.talk new.talk old.links new.links limit n _ link events frames (may tt) (first tt)
      (is-again old.talk new.talk old.links new.links limit n link number events frames c)
  called (call.Detach link) done old new limit frames may first c =
      done-at (detaches false) (link_place old.links link) old.talk new.talk frames (detaches-inside false)
      (detaches-keep false) c.is_done
  called (call.CloseLink link) (link_closed events) old new limit frames may first c =
      closed-at (link_place old.links link) link events old.talk new.talk old.links new.links frames c
  called (call.Grant link n) (credit_is left) old new limit frames may first c =
      done-at (gives_credit n left) (link_place old.links link) old.talk new.talk frames (gives-inside n left)
      (gives-keeps n left) c.is_done
  called (call.Drain link) done old new limit frames may first c =
      done-at wants_drain (link_place old.links link) old.talk new.talk frames drains-inside drains-keep
      c.is_done
  called (call.Send link message) (message_sent tag outcome) old new limit frames may first c =
      sent-at limit (tag_of old.sent) message c.sends.settled (link_place old.links link) old.talk new.talk frames
      (may tt) c.sends.sent
  called (call.Dispose link message disposal) done old new limit frames may first c =
      done-at (disposes_of_one limit message disposal) (link_place old.links link) old.talk new.talk frames
      (disposes-one-inside limit message disposal) (disposes-one-keeps limit message disposal) c.disposes
  called (call.DisposeAll link messages disposal) done old new limit frames may first c =
      disposed-at limit (link_place old.links link) messages disposal old.talk new.talk frames c.disposes
  called (call.Credit link) (credit_is left) old new limit frames may first c =
      told-alone _ frames old new c.silent c.same
  called (call.HeldBack n) (count m) old new limit frames may first c = told-alone _ frames old new c.silent c.same
  called (call.Waiting n) (waiting turn) old new limit frames may first c = told-alone _ frames old new c.silent c.same
  called it answer old new limit frames may first c = absurd c
