-- While a receiving link stays attached no Attach of the peer's takes the handle that leads to it: one that would is
-- refused, and its session ends by that.
use Rattle.std.proofs.Common.{◌≡◌, ◌==◌, inl, inr, ℕ, Bool, true, false, List, [], Option, Some, None, Ok, Err}
use Rattle.std.proofs.Common.{ap, if◌then◌else◌, refl, subst, sym, true≢false, ◌∙◌}
use Rattle.std.proofs.lemmas.Option.{none-some, same_Some}
use Rattle.std.specs.FinMap as map
use Rattle.std.specs.Prelude.{Result, is_some}
use Rattle.amqp_session_types.specs.declared.channels.IncomingChannel.{IncomingChannel}
use Rattle.amqp_session_types.specs.declared.handles.OutputHandle.{OutputHandle}
use Rattle.amqp_session_types.specs.declared.refusals.SessionError.{SessionError}
use Rattle.amqp_session_performatives.specs.declared.attach.Attach.{Attach}
use Rattle.amqp_session_performatives.specs.declared.session_frame.SessionFrame.{SessionFrame}
use Rattle.amqp_session_frames.specs.declared.frame.Frame.{Frame}
use Rattle.amqp_session_frames.specs.declared.frame.FrameBody.{FrameBody}
use Rattle.amqp_session_frames.specs.declared.frame.FrameBody.TheVariants as body
use Rattle.amqp_session_core.specs.State.{reached as link_reached}
use Rattle.amqp_link.specs.declared.relay.AttachTold.{AttachTold}
use Rattle.amqp_link_receiver.specs.Deliveries.{Delivery}
use Rattle.amqp_endpoint_attached.specs.Linked.{Linked, gives}
use Rattle.amqp_endpoint_conversation.specs.Hearing.{Answered, AnsweredAt, AnsweredIn, LiveAnswered}
use Rattle.amqp_endpoint_conversation.specs.declared.hearing.HearRefusal.TheVariants as refused
use Rattle.amqp_endpoint_conversation.specs.declared.hearing.Heard.TheVariants as heard_as
use Rattle.amqp_endpoint_laws.specs.Deeds.{IsDeed, Takes}
use Rattle.amqp_endpoint_link_hearing.specs.Attaching.{HearsReady}
use Rattle.amqp_endpoint_link_hearing.specs.Saying.{LinkHeard, LinkRefusal}
use Rattle.amqp_endpoint.specs.Does.{linked}
use Rattle.amqp_endpoint.specs.Hearing.{Hears as HearsFrame}
use Rattle.amqp_endpoint.specs.declared.linked.LinkedSessions.{LinkedSessions}
use Rattle.amqp_endpoint_linking.specs.Linking.{Session, Stood, Talk}
use Rattle.amqp_endpoint_links.specs.Asking.{AttachAt, in_use}
use Rattle.amqp_endpoint_links.specs.declared.asking.AttachTaken.{AttachTaken}
use Rattle.amqp_endpoint_links.specs.declared.asking.NamedLink.{NamedLink}
use Rattle.amqp_endpoint_links.specs.declared.hearing.LinkPerformative.{LinkPerformative}
use Rattle.amqp_endpoint_links.specs.declared.hearing.LinkPerformative.TheVariants as said
use Rattle.amqp_endpoint_links.specs.declared.hearing.PerformativeTaken.TheVariants as taken
use Rattle.amqp_endpoint_model.specs.declared.event.Event.{Event}
use Rattle.amqp_endpoint_tables.specs.State.{asked_of, live_at, live_of, place_at, reached}
use Rattle.amqp_endpoint_tables.specs.Steps.{Ends}
use Rattle.amqp_endpoint_tables.specs.declared.place.Place.TheVariants.{Asked, Live, Ending, Over}
use Rattle.amqp_endpoint_tables.proofs.Owning.{at, same_number}
use Rattle.amqp_endpoint_laws.specs.Handed.{IsReceiving, leads_there}
use Rattle.amqp_endpoint_laws.specs.Passed.{is_it, session_taking}
use Rattle.amqp_endpoint_laws.specs.Taken.{IsOther}
use Rattle.amqp_endpoint_laws.proofs.ComesAttachedHeld.{receiving-holds}
use Rattle.amqp_endpoint_laws.proofs.HoldingTalk.{held_in}
use Rattle.amqp_endpoint_laws.proofs.PassedPlaces.{eq-same}
use Rattle.amqp_endpoint_laws.proofs.RoomMade.{RoomMade, room-holds, room-leads-there, room-made, room-reached}

-- a session that goes on answers what is said on a channel that reaches it
live-answers : (o : Option Stood) (session : Session) → live_of o ≡ Some session → (old : Talk) (n : ℕ)
    (it : LinkPerformative) (result : Result LinkHeard LinkRefusal) (new : Talk) (frames : List SessionFrame)
    → AnsweredAt gives (asked_of o) (live_of o) old [] n it result new frames
    → LiveAnswered gives old [] n session it result new frames
live-answers (Some (Live channel s)) session live old n it result new frames t =
    subst (λ (x : Session). LiveAnswered gives old [] n x it result new frames) (same_Some s session live) t
live-answers (Some (Asked channel a)) session live old n it result new frames t = absurd (none-some session live)
live-answers (Some (Ending channel own_end)) session live old n it result new frames t =
    absurd (none-some session live)
live-answers (Some (Over peer_end complete)) session live old n it result new frames t =
    absurd (none-some session live)
live-answers None session live old n it result new frames t = absurd (none-some session live)

answered-live : (old : Talk) (channel : IncomingChannel) (n : ℕ) (session : Session)
    → reached old.sessions channel.0 ≡ Some n → live_at old.sessions n ≡ Some session → (it : LinkPerformative)
    (result : Result LinkHeard LinkRefusal) (new : Talk) (frames : List SessionFrame)
    → Answered gives old [] channel it result new frames → LiveAnswered gives old [] n session it result new frames
answered-live old channel n session reaches live it result new frames t =
    live-answers (place_at old.sessions n) session live old n it result new frames
    (subst (λ (o : Option ℕ). AnsweredIn gives o old [] it result new frames) reaches t)

-- it takes no Attach whose handle is in use
used-refuses : (used : Bool) (before : Linked) (attach : Attach) (named : NamedLink) (x : AttachTaken AttachTold)
    (after : Linked) → used ≡ true → AttachAt gives used before attach named (Ok x) after → ⊥
used-refuses true before attach named x after is t = let clash = t.0 in absurd cc
used-refuses false before attach named x after is t = true≢false (sym is)

not-heard : (n : ℕ) (session : Session) (attach : Attach) (named : NamedLink) (h : LinkHeard) (old new : Talk)
    → in_use session.value attach.handle.0 ≡ true
    → LiveAnswered gives old [] n session (said.Attach attach named) (Ok h) new [] → ⊥
not-heard n session attach named (heard_as.Live k (taken.Attach x)) old new used (same, t) =
    used-refuses (in_use session.value attach.handle.0) session.value attach named x t.after.value used t.hears.heard.0
not-heard n session attach named (heard_as.Live k taken.Flow) old new used (same, t) = t.hears.heard.0
not-heard n session attach named (heard_as.Live k (taken.Transfer x)) old new used (same, t) = t.hears.heard.0
not-heard n session attach named (heard_as.Live k (taken.Disposition back runs)) old new used (same, t) =
    t.hears.heard.0
not-heard n session attach named (heard_as.Live k (taken.Detach x)) old new used (same, t) = t.hears.heard.0
not-heard n session attach named (heard_as.Asked k) old new used t = t
not-heard n session attach named (heard_as.Dropped k) old new used t = t

-- and where it refuses one it goes on no longer
fails-dead : (n k : ℕ) (session stood : Session) (it : LinkPerformative) (fault : SessionError) (old new : Talk)
    (frames : List SessionFrame)
    → LiveAnswered gives old [] n session it (Err (refused.Session k fault stood)) new frames
    → live_at new.sessions n ≡ None
fails-dead n k session stood it fault old new frames (same, f) =
    ap live_of
    ((at n f.mid.sessions (Ends n f.ends.channel stood true) new.sessions f.ends.stepped).about (eq-same n)).1

-- a handle that leads to a link is in use
reached-some : (o : Option ℕ) (own : ℕ) → is_it o own ≡ true → is_some o ≡ true
reached-some None own is = absurd (true≢false (sym is))
reached-some (Some h) own is = refl

either-so : (a b : Bool) → b ≡ true → (if a then true else b) ≡ true
either-so true b is = refl
either-so false b is = is

module _ (old new : LinkedSessions) (limit channel : ℕ) (frames : List SessionFrame) (events : List Event)
    (link session : ℕ) (own : OutputHandle) (held later : Option Delivery) (r : IsReceiving old link session own held)
    (q : IsReceiving new link session own later) (theirs : ℕ)
    (leads : leads_there (live_at old.talk.sessions session) theirs own ≡ true) where
  goes-on : (s : LinkedSessions) (held_so : Option Delivery) → IsReceiving s link session own held_so
      → live_at s.talk.sessions session ≡ None → ⊥
  goes-on s held_so receives dead =
      none-some (link, (true, held_so))
      (sym (ap (λ (o : Option Session). held_in o own.0) dead) ∙ receiving-holds s link session own held_so receives)

  module _ (ready : Talk) (made : RoomMade old.talk (record { 0 = channel }) ready) where
    ready-leads : leads_there (live_at ready.sessions session) theirs own ≡ true
    ready-leads = room-leads-there old.talk (record { 0 = channel }) ready made session theirs own ∙ leads

    used : (s : Session) → live_at ready.sessions session ≡ Some s → (attach : Attach) → attach.handle.0 ≡ theirs
        → in_use s.value attach.handle.0 ≡ true
    used s live attach same =
        either-so (is_some (map.get s.value.asked attach.handle.0))
        (is_some (link_reached s.value.session attach.handle.0))
        (reached-some (link_reached s.value.session attach.handle.0) own.0
        (ap (λ (k : ℕ). is_it (link_reached s.value.session k) own.0) same
        ∙ sym (ap (λ (o : Option Session). leads_there o theirs own) live) ∙ ready-leads))

    not-taken : (s : Session) → live_at ready.sessions session ≡ Some s → (attach : Attach) (named : NamedLink)
        → attach.handle.0 ≡ theirs → reached ready.sessions channel ≡ Some session
        → HearsReady named ready old.links limit (record { 0 = channel }) attach frames events new.talk new.links → ⊥
    not-taken s live attach named same reaches (inl t) =
        not-heard session s attach named t.heard ready t.mid (used s live attach same)
        (answered-live ready (record { 0 = channel }) session s reaches live (said.Attach attach named) (Ok t.heard)
        t.mid [] t.answered)
    not-taken s live attach named same reaches (inr f) =
        goes-on new later q
        (fails-dead session f.number s f.session (said.Attach attach named) f.fault ready new.talk frames
        (answered-live ready (record { 0 = channel }) session s reaches live (said.Attach attach named)
        (Err (refused.Session f.number f.fault f.session)) new.talk frames f.answered))

    goes-on-ready : live_at ready.sessions session ≡ None → ⊥
    goes-on-ready dead =
        none-some (link, (true, held))
        (sym (ap (λ (o : Option Session). held_in o own.0) dead)
        ∙ room-holds old.talk (record { 0 = channel }) ready made session own.0
        ∙ receiving-holds old link session own held r)

  other-handle : (attach : Attach)
      → HearsFrame old.talk old.links old.given limit (record { 0 = channel }) (body.Attach attach) frames events
      new.talk new.links new.given
      → reached old.talk.sessions channel ≡ Some session → (attach.handle.0 == theirs) ≡ false
  other-handle attach (a, g) reaches = by (attach.handle.0 == theirs) refl
    where
      made : RoomMade old.talk (record { 0 = channel }) a.ready
      made = room-made a.named old.talk (record { 0 = channel }) a.ready a.makes_room

      at-session : attach.handle.0 ≡ theirs → (o : Option Session) → live_at a.ready.sessions session ≡ o → ⊥
      at-session same None dead = goes-on-ready a.ready made dead
      at-session same (Some s) live =
          not-taken a.ready made s live attach a.named same
          (room-reached old.talk (record { 0 = channel }) a.ready made channel ∙ reaches) a.hears

      by : (b : Bool) → (attach.handle.0 == theirs) ≡ b → (attach.handle.0 == theirs) ≡ false
      by false e = e
      by true e =
          absurd (at-session (same_number attach.handle.0 theirs e) (live_at a.ready.sessions session) refl)

  frame-other : (it : FrameBody)
      → IsDeed linked old (Takes limit (record { channel = channel; body = it }) frames events) new
      → session_taking old channel it ≡ Some session → IsOther theirs it
  frame-other (body.Attach attach) d reaches = other-handle attach d.0 reaches
  frame-other it d reaches = tt

-- while a link stays attached no Attach takes its handle
pub untaken : (limit : ℕ) (f : Frame) (frames : List SessionFrame) (events : List Event) (old new : LinkedSessions)
    → IsDeed linked old (Takes limit f frames events) new → (link session : ℕ) (own : OutputHandle)
    (held later : Option Delivery) → IsReceiving old link session own held → IsReceiving new link session own later
    → (theirs : ℕ) → leads_there (live_at old.talk.sessions session) theirs own ≡ true
    → session_taking old f.channel f.body ≡ Some session → IsOther theirs f.body
untaken limit f frames events old new d link session own held later r q theirs leads reaches =
    frame-other old new limit f.channel frames events link session own held later r q theirs leads f.body d reaches
