-- A link tells of its messages that end, and leaves its session.
use Rattle.std.proofs.Common.{◌≡◌, ◌+◌, ◌≤◌, ◌<◌, ℕ, Bool, true, List, [], ◌∷◌, ◌++◌, Option, Some, None}
use Rattle.std.proofs.Common.{refl}
use Rattle.std.proofs.Common.{sym, ap, subst, ◌∙◌, append_assoc, arith, length, drop}
use Rattle.std.specs.Prelude.{All}
use Rattle.std.proofs.lemmas.List.Elements.{All-cons, All-head, All-nil, All-tail}
use Rattle.amqp_session_types.specs.declared.error.Error.{Error}
use Rattle.amqp_session_types.specs.declared.handles.OutputHandle.{OutputHandle}
use Rattle.amqp_session_performatives.specs.declared.session_frame.SessionFrame.{SessionFrame}
use Rattle.amqp_session_core.specs.State.{link_at}
use Rattle.amqp_session_core.specs.Steps.{Changes}
use Rattle.amqp_session_core.specs.declared.fields.SessionFields.{SessionFields}
use Rattle.amqp_link_base.specs.declared.detached.Detached.{Detached}
use Rattle.amqp_endpoint_links.specs.History.{InSession}
use Rattle.amqp_endpoint_tables.specs.State.{live_at}
use Rattle.amqp_endpoint_fitting.specs.Handed.{AllAskingSendFit}
use Rattle.amqp_endpoint_fitting.specs.Read.{IsRead}
use Rattle.amqp_endpoint_model.specs.declared.event.Event.{Event}
use Rattle.amqp_endpoint_model.specs.State.{fits, frame_of}
use Rattle.amqp_endpoint_conversation.specs.Going.{Goes, Rests}
use Rattle.amqp_endpoint_attached.specs.Detaching.{own_detach}
use Rattle.amqp_endpoint_attached.specs.Linked.{Linked, LinksIn}
use Rattle.amqp_endpoint_messages.specs.All.{AreCopies, TellsFirst, TellsIn, behind_told, first_told, told_by}
use Rattle.amqp_endpoint_linking.specs.Linking.{Link, Links, Session, Talk}
use Rattle.amqp_endpoint_linking.specs.Handed.{Hands, Tells}
use Rattle.amqp_endpoint_link_hearing.specs.Detaching.{TellsAndParts, detached_told}
use Rattle.amqp_endpoint_link_hearing.specs.InSession.{GoesOn, Parts}
use Rattle.amqp_endpoint_link_hearing.specs.Leaves.{LinkLeaves, told_most}
use Rattle.amqp_endpoint_link_hearing.specs.Leaving.{HasAnswer, IsLeft, detach_frame}
use Rattle.amqp_endpoint_link_hearing.specs.Naming.{link_in, link_of}
use Rattle.amqp_endpoint_link_hearing.specs.declared.detaching.Ready.{Ready}
use Rattle.amqp_endpoint_messages.proofs.AttachDone.{Done, Fits}
use Rattle.amqp_endpoint_link_hearing.proofs.Doing.{done-goes, done-rests, parts-done}
use Rattle.amqp_endpoint_link_hearing.proofs.Takes.{IsNumbered}

-- that it tells changes nothing that its session tells of itself
fields-told : (count : ℕ) (handle : OutputHandle) (link : Option Link) (old new : LinksIn)
    → TellsIn count handle link old new → new.fields ≡ old.fields
fields-told count handle None old new is = ap (λ (s : LinksIn). s.fields) is
fields-told count handle (Some link) old new stepped = ap (λ (s : LinksIn). s.fields) stepped.1

-- and brings no frame
pub told-done : (limit count : ℕ) (handle : OutputHandle) (link : Option Link) (old mid new : Linked)
    (frames : List SessionFrame) → TellsIn count handle link old.session mid.session
    → mid ≡ record old { session = mid.session } → Done limit mid frames new → Done limit old frames new
told-done limit count handle None old mid new frames is rest d =
    subst (λ (s : Linked). Done limit s frames new) (rest ∙ ap (λ (s : LinksIn). record old { session = s }) is) d
told-done limit count handle (Some link) old mid new frames stepped rest d =
    record {
      steps =
          InSession (Changes handle.0 link (record link { link = behind_told count link.link })) ∷ d.steps;
      history = (mid, (stepped, rest), d.history);
      sends = (
        tt,
        subst (λ (f : SessionFields). AllAskingSendFit (f.channel).0 limit d.steps)
            (fields-told count handle (Some link) old.session mid.session stepped) d.sends,
      );
      ends = (tt, d.ends);
      hand = ([], frames, refl, d.hand, refl);
    }

module _ (old : Talk) (session : ℕ) (handle : OutputHandle) (count : ℕ) (answers closed : Bool) (error : Option Error)
    (left : Option Link) (new : Talk) (out out_new : List SessionFrame) where
  abbrev PartedSo : Type 0
  PartedSo =
      Hands (λ (frames : List SessionFrame).
      GoesOn (TellsAndParts count handle answers closed error left frames) old session new) out out_new

  pub parted-goes : (limit from place : ℕ) → (h : PartedSo) → from ≡ length out → All IsRead (drop from out_new)
      → ((s : Session) → live_at old.sessions session ≡ Some s → HasAnswer limit s.value handle closed error place)
      → 512 ≤ limit → Goes limit old new out out_new
  parted-goes limit from place h is reads places least =
      let g = h.is_so in
      let before = (g.before).value in
      let t = g.done in
      let fit : Fits limit before handle closed error = (places g.before (g.stepped).0).fit least in
      let fit_mid : Fits limit t.mid handle closed error =
      subst
      (λ (f : SessionFields). fits limit (frame_of (detach_frame f.channel (own_detach handle closed error))) ≡ true)
      (sym
      (fields-told count handle (link_at before.session handle.0) before.session (t.mid).session (t.tells).tells))
      fit in
      done-goes (TellsAndParts count handle answers closed error left) old session new out out_new h limit from is reads
      (told-done limit count handle (link_at before.session handle.0) before t.mid (g.after).value h.frames
      (t.tells).tells (t.tells).rest
      (parts-done limit t.mid handle answers closed error left h.frames (g.after).value fit_mid t.parts))

  pub parted-rests : PartedSo → Rests old new out out_new
  parted-rests h =
      done-rests (TellsAndParts count handle answers closed error left) old session new out out_new h

-- in its session: it tells, and then it leaves
pub tells-and-parts : (old mid new : Linked) (count : ℕ) (handle : OutputHandle) (answers closed : Bool)
    (error : Option Error) (left : Option Link) (out out_new : List SessionFrame)
    → TellsFirst count handle (link_at old.session handle.0) old mid
    → Hands (λ (frames : List SessionFrame). Parts handle answers closed error left frames mid new) out out_new
    → Hands (λ (frames : List SessionFrame).
    TellsAndParts count handle answers closed error left frames old new) out out_new
tells-and-parts old mid new count handle answers closed error left out out_new tells h =
    record {
      frames = h.frames;
      is_so = record { mid = mid; tells = tells; parts = h.is_so };
      queued = h.queued;
    }

-- what is told of the link is told of it in the session that is lent
pub told-there : (talk : Talk) (session : ℕ) (handle : OutputHandle) (lent : Session) (before : Linked) (count : ℕ)
    (error : Option Error) → Some lent ≡ live_at talk.sessions session → before ≡ lent.value
    → first_told count error (link_at before.session handle.0) ≡ first_told count error (link_of talk session handle)
told-there talk session handle lent before count error is same =
    ap (λ (s : Linked). first_told count error (link_at s.session handle.0)) same
    ∙ ap (λ (o : Option Session). first_told count error (link_in o handle)) is

-- there is room for one event, whatever was made ready
pub room-for-one : (ready : Option Ready) (len capacity : ℕ) → len + told_most ready ≤ capacity → len < capacity
room-for-one None len capacity room = omega (arith, room)
room-for-one (Some ready) len capacity room = omega (arith, room)

-- a link leaves its session
pub link-left : (old : Talk) (session : ℕ) (ready : Ready) (number : ℕ) → IsNumbered old session ready.handle number
    → (told : Detached) (left : Option Link) (new : Talk) (links links_new : Links) (out out_new : List SessionFrame)
    (events events_mid events_new : List Event)
    → Hands (λ (frames : List SessionFrame).
    GoesOn
    (TellsAndParts ready.count ready.handle told.answer (ready.answer).closed (ready.answer).error left frames) old
    session new) out out_new
    → IsLeft told.closed links number left links_new
    → events_mid ≡ events ++ detached_told number told.closed ready.error
    → events_new ≡ events_mid ++ first_told ready.count ready.error (link_of old session ready.handle)
    → Tells (λ (frames : List SessionFrame) (told_now : List Event).
    LinkLeaves session told ready old links frames told_now new links_new) out events out_new events_new
link-left old session ready number n told left new links links_new out out_new events events_mid events_new h l are
    more =
    let link = n.link in
    let outcomes : List Event = told_by link.number ready.error ready.count link.link in
    record {
      frames = h.frames;
      events = detached_told number told.closed ready.error ++ outcomes;
      is_so =
          record {
            link = link;
            there = n.there;
            left = left;
            parts = h.is_so;
            is_left = subst (λ (k : ℕ). IsLeft told.closed links k left links_new) n.is l;
            tells = ap (λ (k : ℕ). detached_told k told.closed ready.error ++ outcomes) n.is;
          };
      queued = h.queued;
      are_told =
          more
          ∙ ap (λ (o : Option Link). events_mid ++ first_told ready.count ready.error o) n.there
          ∙ ap (λ (l : List Event). l ++ outcomes) are
          ∙ append_assoc events (detached_told number told.closed ready.error) outcomes;
    }

-- a copy more
pub copied-more : (error copy : Error) (copies more : List Error) → copy ≡ error
    → All (λ (c : Error). Some error ≡ Some c) copies → more ≡ copies ++ copy ∷ []
    → All (λ (c : Error). Some error ≡ Some c) more
copied-more error copy copies more is all added =
    subst (All (λ (c : Error). Some error ≡ Some c)) (sym added) (behind copies all)
  where
    behind : (cs : List Error) → All (λ (c : Error). Some error ≡ Some c) cs
        → All (λ (c : Error). Some error ≡ Some c) (cs ++ copy ∷ [])
    behind [] every =
        All-cons (λ (c : Error). Some error ≡ Some c) copy [] (ap (λ (e : Error). Some e) (sym is)) every
    behind (c ∷ cs) every =
        All-cons (λ (d : Error). Some error ≡ Some d) c (cs ++ copy ∷ [])
        (All-head (λ (d : Error). Some error ≡ Some d) c cs every)
        (behind cs (All-tail (λ (d : Error). Some error ≡ Some d) c cs every))

-- of no error none is wanted
pub no-copies : (count : ℕ) → AreCopies None count []
no-copies count = record { each = All-nil (λ (copy : Error). None ≡ Some copy); enough = tt }
