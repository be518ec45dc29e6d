-- A receiving link that waits comes to be attached by an Attach of the peer's that names it.
use Rattle.std.proofs.Common.{◌≡◌, ◌==◌, inl, inr, ℕ, Bool, true, false, List, Option, Some, Ok}
use Rattle.std.proofs.Common.{ap, refl, subst, sym, ◌∙◌}
use Rattle.std.proofs.lemmas.Option.{same_Some}
use Rattle.amqp_session_types.specs.declared.handles.OutputHandle.{OutputHandle}
use Rattle.amqp_session_types.specs.declared.modes.Role.{Role}
use Rattle.amqp_session_types.specs.declared.modes.Role.TheVariants as role
use Rattle.amqp_session_performatives.specs.declared.attach.Attach.{Attach}
use Rattle.amqp_session_performatives.specs.declared.session_frame.SessionFrame.{SessionFrame}
use Rattle.amqp_session_frames.specs.declared.frame.Frame.{Frame}
use Rattle.amqp_session_frames.specs.declared.frame.FrameBody.{FrameBody}
use Rattle.amqp_session_frames.specs.declared.frame.FrameBody.TheVariants as body
use Rattle.amqp_link.specs.declared.end.End.{End}
use Rattle.amqp_link.specs.Gives.{attaches}
use Rattle.amqp_link_receiver.specs.Deliveries.{Delivery}
use Rattle.amqp_endpoint_attached.specs.Ends.{role_of}
use Rattle.amqp_endpoint_laws.specs.Deeds.{IsDeed, Takes}
use Rattle.amqp_endpoint_link_hearing.specs.Attaching.{HearsReady, opened_in}
use Rattle.amqp_endpoint_link_hearing.specs.Heard.{attach_of}
use Rattle.amqp_endpoint_link_hearing.specs.Naming.{IsNamedIn, is_other, link_in}
use Rattle.amqp_endpoint.specs.Does.{linked}
use Rattle.amqp_endpoint.specs.Hearing.{Hears as HearsFrame}
use Rattle.amqp_endpoint.specs.declared.linked.LinkedSessions.{LinkedSessions}
use Rattle.amqp_endpoint_linking.specs.Linking.{Link, Session, Talk}
use Rattle.amqp_endpoint_links.specs.declared.asking.NamedLink.{NamedLink}
use Rattle.amqp_endpoint_links.specs.declared.hearing.LinkPerformative.TheVariants as said
use Rattle.amqp_endpoint_model.specs.declared.event.Event.{Event}
use Rattle.amqp_endpoint_tables.specs.LinkState.{name_at}
use Rattle.amqp_endpoint_tables.specs.State.{live_at, reached}
use Rattle.amqp_endpoint_tables.proofs.Owning.{same_number}
use Rattle.amqp_endpoint_laws.specs.Agreeing.{Agree}
use Rattle.amqp_endpoint_laws.specs.Handed.{IsReceiving, leads_there}
use Rattle.amqp_endpoint_laws.specs.Held.{number_live, number_of}
use Rattle.amqp_endpoint_laws.specs.Passed.{session_taking}
use Rattle.amqp_endpoint_laws.proofs.BehindAttach.{becomes-behind}
use Rattle.amqp_endpoint_laws.proofs.ComesAttachedHeard.{TakesHere, heard-here, others-stay, takes-leads, took-held}
use Rattle.amqp_endpoint_laws.proofs.ComesAttachedHeld.{IsHeld, holding-receives, received-before, receiving-holds}
use Rattle.amqp_endpoint_laws.proofs.ComesAttachedNamed.{IsNamedSo, named-so, peer-sends, still-receiver}
use Rattle.amqp_endpoint_laws.proofs.HandedBy.{frame-leads}
use Rattle.amqp_endpoint_laws.proofs.HandedOut.{HearsOne}
use Rattle.amqp_endpoint_laws.proofs.HoldingDeeds.{deed-rests}
use Rattle.amqp_endpoint_laws.proofs.HoldingEnds.{Holding, Part, Stays}
use Rattle.amqp_endpoint_laws.proofs.HoldingTalk.{fails-stay, held_in}
use Rattle.amqp_endpoint_laws.proofs.RoomMade.{RoomMade, room-holds, room-made, room-named, room-numbers}
use Rattle.amqp_endpoint_laws.proofs.RoomMade.{room-reached}

-- a link came to be attached by an Attach of the peer's: that came in its session, its handle leads to the link, and it
-- says the link's name; and the peer sends
pub record ComesBy (old : LinkedSessions) (channel : ℕ) (it : FrameBody) (new : LinkedSessions) (link session : ℕ)
    (own : OutputHandle) : Type 0 where
  pub attach : Attach
  pub is : it ≡ body.Attach attach
  pub taken : session_taking old channel it ≡ Some session
  pub leads : leads_there (live_at new.talk.sessions session) attach.handle.0 own ≡ true
  pub named : name_at old.links link ≡ Some attach.name
  pub sends : attach.role ≡ role.Sender

module _ (old new : LinkedSessions) (limit channel : ℕ) (frames : List SessionFrame) (events : List Event)
    (agree : Agree old) (link session : ℕ) (own : OutputHandle) (held : Option Delivery)
    (r : IsReceiving new link session own held)
    (unattached : (h : Option Delivery) → IsReceiving old link session own h → ⊥) where
  is-held : held_in (live_at new.talk.sessions session) own.0 ≡ Some (link, (true, held))
  is-held = receiving-holds new link session own held r

  -- what it holds didn't stay
  moved : Stays (held_in (live_at old.talk.sessions session) own.0) (held_in (live_at new.talk.sessions session) own.0)
      → ⊥
  moved stays = unattached held (received-before old new link session own held stays r)

  module _ (attach : Attach) (named : NamedLink) (ready mid : Talk)
      (made : RoomMade old.talk (record { 0 = channel }) ready)
      (here : TakesHere ready (record { 0 = channel }) attach named mid new.talk session)
      (is_named : IsNamedIn (reached ready.sessions channel) ready old.links attach named)
      (e : (own.0 == here.handle.0) ≡ true) where
    here-held : held_in (live_at new.talk.sessions session) here.handle.0 ≡ Some (link, (true, held))
    here-held =
        ap (λ (h : ℕ). held_in (live_at new.talk.sessions session) h) (sym (same_number own.0 here.handle.0 e))
        ∙ is-held

    its : IsHeld here.took.stepped.after.number here.took.stepped.after.link link held
    its = took-held ready (record { 0 = channel }) attach mid new.talk named session here link held here-held

    so : IsNamedSo ready old.links session attach here.handle
    so =
        named-so ready old.links session attach named here.handle
        (subst (λ (o : Option ℕ). IsNamedIn o ready old.links attach named) here.reaches is_named) here.waits

    abbrev before : Link
    before = here.took.stepped.before

    -- it is the one that was named
    its-number : so.number ≡ link
    its-number =
        same_Some so.number link
        (sym (agree.held so.number session here.handle so.waits.held)
        ∙ sym (room-numbers old.talk (record { 0 = channel }) ready made session here.handle.0)
        ∙ ap (λ (o : Option Session). number_live o here.handle.0) here.live ∙ ap number_of here.took.stepped.had
        ∙ ap (λ (k : ℕ). Some k) (sym here.took.stepped.stepped.1 ∙ its.numbered))

    its-role : role_of so.waits.link.link ≡ role.Receiver
    its-role =
        ap (λ (l : Link). role_of l.link)
        (same_Some so.waits.link before
        (sym so.waits.there ∙ ap (λ (o : Option Session). link_in o here.handle) here.live ∙ here.took.stepped.had))
        ∙ still-receiver before.link attach here.took.told its.receiver
        (subst (λ (x : End). attaches before.link attach (Ok here.took.told) x) its.is here.took.stepped.stepped.0)

    comes-here : ComesBy old channel (body.Attach attach) new link session own
    comes-here =
        record {
          attach = attach;
          is = refl;
          taken = sym (room-reached old.talk (record { 0 = channel }) ready made channel) ∙ here.reaches;
          leads =
              takes-leads ready (record { 0 = channel }) attach mid new.talk named session here own
              (link, (true, held)) e here-held;
          named = ap (λ (k : ℕ). name_at old.links k) (sym its-number) ∙ so.named;
          sends =
              peer-sends attach.role (sym (ap (λ (x : Role). is_other x attach.role) its-role) ∙ so.waits.other);
        }

  attach-comes : (attach : Attach)
      → HearsFrame old.talk old.links old.given limit (record { 0 = channel }) (body.Attach attach) frames events
      new.talk new.links new.given
      → ComesBy old channel (body.Attach attach) new link session own
  attach-comes attach (a, g) = by a.hears
    where
      made : RoomMade old.talk (record { 0 = channel }) a.ready
      made = room-made a.named old.talk (record { 0 = channel }) a.ready a.makes_room

      moved-since : Stays (held_in (live_at a.ready.sessions session) own.0)
          (held_in (live_at new.talk.sessions session) own.0)
          → ⊥
      moved-since stays =
          moved
          (subst (λ (x : Holding). Stays x (held_in (live_at new.talk.sessions session) own.0))
          (room-holds old.talk (record { 0 = channel }) a.ready made session own.0) stays)

      at-handle : (mid : Talk) (here : TakesHere a.ready (record { 0 = channel }) attach a.named mid new.talk session)
          (b : Bool) → (own.0 == here.handle.0) ≡ b → ComesBy old channel (body.Attach attach) new link session own
      at-handle mid here false e =
          absurd
          (moved-since
          (others-stay a.ready (record { 0 = channel }) attach mid new.talk a.named session here own.0 e))
      at-handle mid here true e =
          comes-here attach a.named a.ready mid made here
          (room-named old.talk (record { 0 = channel }) a.ready made old.links attach a.named a.is_named) e

      by : HearsReady a.named a.ready old.links limit (record { 0 = channel }) attach frames events new.talk new.links
          → ComesBy old channel (body.Attach attach) new link session own
      by (inr f) =
          absurd
          (moved-since
          ((fails-stay (said.Attach attach a.named) a.ready new.talk f.number f.fault f.session frames
          (record { 0 = channel }) f.answered session).holds own.0))
      by (inl t) =
          elim
          (heard-here a.ready (record { 0 = channel }) attach t.mid frames new.talk a.named t.heard t.answered
          (becomes-behind limit (opened_in a.ready (attach_of t.heard) a.named) t.heard a.named t.mid attach frames
          events new.talk t.becomes)
          session) [
            | inl keeps ↦ absurd (moved-since (keeps own.0))
            | inr here ↦ at-handle t.mid here (own.0 == here.handle.0) refl
          ]

  frame-comes : (it : FrameBody)
      → IsDeed linked old (Takes limit (record { channel = channel; body = it }) frames events) new
      → ComesBy old channel it new link session own
  frame-comes (body.Attach attach) d = attach-comes attach d.0
  frame-comes (body.Transfer transfer payload) d =
      absurd (by ((frame-leads transfer payload limit channel frames events old new d session).hears own.0))
    where
      by : HearsOne (held_in (live_at old.talk.sessions session) own.0)
          (held_in (live_at new.talk.sessions session) own.0) → ⊥
      by (inl t) =
          unattached t.held
          (holding-receives old link session own t.held
          (t.was
          ∙ ap (λ (k : ℕ). Some (k, (true, t.held)))
          (ap (λ (x : ℕ × Part). x.0)
          (same_Some (t.number, (true, t.later)) (link, (true, held)) (sym t.is ∙ is-held)))))
      by (inr stays) = moved stays
  frame-comes it d =
      absurd
      (moved
      ((deed-rests (Takes limit (record { channel = channel; body = it }) frames events) tt old new d
      session).holds own.0))

-- a link that waits comes to be attached by a frame
pub takes-attach : (limit : ℕ) (f : Frame) (frames : List SessionFrame) (events : List Event)
    (old new : LinkedSessions) → IsDeed linked old (Takes limit f frames events) new → Agree old → (link session : ℕ)
    (own : OutputHandle) (held : Option Delivery) → IsReceiving new link session own held
    → ((h : Option Delivery) → IsReceiving old link session own h → ⊥)
    → ComesBy old f.channel f.body new link session own
takes-attach limit f frames events old new d agree link session own held r unattached =
    frame-comes old new limit f.channel frames events agree link session own held r unattached f.body d
