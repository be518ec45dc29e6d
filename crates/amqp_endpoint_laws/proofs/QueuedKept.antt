-- What was accepted of a handle is what passed of it and what waits, whatever else a session does.
use Rattle.std.proofs.Common.{◌≡◌, ◌==◌, ℕ, Bool, true, false, List, [], ◌∷◌, ◌++◌, Option, Some, None, Ok}
use Rattle.std.proofs.Common.{ap, append-nil, append_assoc, refl, sym, subst, ◌∙◌}
use Rattle.std.specs.Prelude.{if◌then◌else◌, is_some, map}
use Rattle.std.specs.Global.{Box}
use Rattle.std.proofs.lemmas.Option.{none-some, same_Some}
use Rattle.amqp_session_types.specs.declared.channels.IncomingChannel.{IncomingChannel}
use Rattle.amqp_session_types.specs.declared.channels.OutgoingChannel.{OutgoingChannel}
use Rattle.amqp_session_performatives.specs.declared.begin.Begin.{Begin}
use Rattle.amqp_session_performatives.specs.declared.session_frame.SessionFrame.{SessionFrame}
use Rattle.amqp_session_performatives.specs.declared.session_frame.SessionFrameBody.{SessionFrameBody}
use Rattle.amqp_session_performatives.specs.declared.session_frame.SessionFrameBody.TheVariants as session_body
use Rattle.amqp_session_outgoing.specs.Queues.{Distinct}
use Rattle.amqp_session_frames.specs.declared.frame.FrameBody.TheVariants as body
use Rattle.amqp_session_core.specs.State.{State}
use Rattle.amqp_link_base.specs.Readings.{Piece}
use Rattle.amqp_link_sender.specs.Saying.{pieces_of}
use Rattle.amqp_endpoint_links.specs.AskedSession.{asked_by}
use Rattle.amqp_endpoint_links.specs.declared.session.AskedSession.{AskedSession}
use Rattle.amqp_endpoint_attached.specs.Linked.{gives}
use Rattle.amqp_endpoint_conversation.specs.Beginning.{with_links}
use Rattle.amqp_endpoint_fitting.specs.Handed.{handed_of}
use Rattle.amqp_endpoint_links.specs.Beginning.{Accepted, Begun}
use Rattle.amqp_endpoint_links.specs.Hearing.{HearsAsked}
use Rattle.amqp_endpoint_links.specs.declared.hearing.LinkPerformative.{LinkPerformative}
use Rattle.amqp_endpoint_linking.specs.Linking.{Link, Session, Stood}
use Rattle.amqp_endpoint_tables.specs.State.{asked_of, live_of, with_asked, with_live}
use Rattle.amqp_endpoint_tables.specs.declared.place.Place.TheVariants.{Asked, Live, Ending, Over}
use Rattle.amqp_endpoint_conversation.specs.Inside.{Batches, accepted_of, is_of_link, said_in}
use Rattle.amqp_endpoint_conversation.specs.Windows.{Came, Passing, body_said, went}
use Rattle.amqp_endpoint_laws.specs.Passed.{sent_in}
use Rattle.amqp_endpoint_laws.specs.Queued.{Message, SayMessages, piece_on, pieces_on, pieces_waiting}
use Rattle.amqp_endpoint_laws.proofs.GivenUp.{AllAborted, GiveUp, aborted-both}
use Rattle.amqp_endpoint_laws.proofs.PassedPlaces.{GoesBy, IsGone, Keeping}
use Rattle.amqp_endpoint_laws.proofs.PassedSteps.{Did, goes-did, sent-append, sent-went}
use Rattle.amqp_endpoint_laws.proofs.QueuedOrder.{pieces-both, pieces_by, steps-distinct, steps-in-order}
use Rattle.amqp_endpoint_laws.proofs.QueuedSaid.{bare, map-both, says-aborted}

-- all transfers are among what links say
piece-said : (h : ℕ) (b : SessionFrameBody) (frame : SessionFrame) → frame.body ≡ b → (said all : List SessionFrame)
    → pieces_on h said ≡ pieces_on h all
    → pieces_on h (if is_of_link b then frame ∷ said else said) ≡ piece_on h b ++ pieces_on h all
piece-said h (session_body.Transfer transfer payload) frame is said all rest =
    ap (λ (c : SessionFrameBody). piece_on h c ++ pieces_on h said) is
    ∙ ap (λ (ps : List Piece). piece_on h (session_body.Transfer transfer payload) ++ ps) rest
piece-said h (session_body.Detach detach) frame is said all rest =
    ap (λ (c : SessionFrameBody). piece_on h c ++ pieces_on h said) is ∙ rest
piece-said h (session_body.Flow flow) frame is said all rest = by (is_some flow.handle)
  where
    by : (named : Bool) → pieces_on h (if named then frame ∷ said else said) ≡ pieces_on h all
    by true = ap (λ (c : SessionFrameBody). piece_on h c ++ pieces_on h said) is ∙ rest
    by false = rest
piece-said h (session_body.Begin begin) frame is said all rest = rest
piece-said h (session_body.Attach attach) frame is said all rest = rest
piece-said h (session_body.Disposition disposition) frame is said all rest = rest
piece-said h (session_body.End end) frame is said all rest = rest

pieces-said : (h : ℕ) (frames : List SessionFrame) → pieces_on h (said_in frames) ≡ pieces_on h frames
pieces-said h [] = refl
pieces-said h (frame ∷ frames) = piece-said h frame.body frame refl (said_in frames) frames (pieces-said h frames)

same-pieces : (h : ℕ) (frames others : List SessionFrame) → said_in frames ≡ said_in others
    → pieces_on h frames ≡ pieces_on h others
same-pieces h frames others same =
    sym (pieces-said h frames) ∙ ap (λ (fs : List SessionFrame). pieces_on h fs) same ∙ pieces-said h others

-- this was accepted of a handle: it passed, or it waits
pub record Queued (h : ℕ) (w : List Piece) (s : State Link) (qs : List Passing) : Type 0 where
  pub apart : Distinct s.outgoing.queues
  pub order : map bare (pieces_on h (sent_in qs)) ++ map bare (pieces_waiting h s) ≡ w

passed-more : (h : ℕ) (qs ps : List Passing)
    → map bare (pieces_on h (sent_in (qs ++ ps)))
    ≡ map bare (pieces_on h (sent_in qs)) ++ map bare (pieces_on h (sent_in ps))
passed-more h qs ps =
    ap (λ (fs : List SessionFrame). map bare (pieces_on h fs)) (sent-append qs ps)
    ∙ ap (λ (xs : List Piece). map bare xs) (pieces-both h (sent_in qs) (sent_in ps))
    ∙ map-both bare (pieces_on h (sent_in qs)) (pieces_on h (sent_in ps))

-- it goes on by steps of its own
pub more-queued : (h : ℕ) (accepted : Batches) (w : List Piece) (old new : State Link) (qs ps : List Passing)
    → Did accepted old ps new → Queued h w old qs → Queued h (w ++ map bare (pieces_by h accepted)) new (qs ++ ps)
more-queued h accepted w old new qs ps d q =
    let had : List Piece = map bare (pieces_on h (sent_in qs)) in
    let now : List Piece = map bare (pieces_waiting h new) in
    record {
      apart = steps-distinct gives d.steps old new q.apart d.history;
      order =
          ap (λ (xs : List Piece). xs ++ now)
          (passed-more h qs ps
          ∙ ap (λ (xs : List Piece). had ++ map bare xs) (same-pieces h (sent_in ps) (handed_of d.steps) d.says))
          ∙ append_assoc had (map bare (pieces_on h (handed_of d.steps))) now
          ∙ ap (λ (xs : List Piece). had ++ xs) (steps-in-order gives h d.steps old new q.apart d.history)
          ∙ sym (append_assoc had (map bare (pieces_waiting h old)) (map bare (pieces_by h (accepted_of d.steps))))
          ∙ ap (λ (xs : List Piece). xs ++ map bare (pieces_by h (accepted_of d.steps))) q.order
          ∙ ap (λ (bs : Batches). w ++ map bare (pieces_by h bs)) d.accepts;
    }

-- so it is of a session that stands here, if it goes on
abbrev pub QueuedAt : ℕ → List Piece → Option Stood → List Passing → Type 0
QueuedAt h w None qs = ⊥
QueuedAt h w (Some (Asked channel a)) qs = ⊥
QueuedAt h w (Some (Live channel s)) qs = Queued h w s.value.session qs
QueuedAt h w (Some (Ending channel own_end)) qs = Unit {0}
QueuedAt h w (Some (Over peer_end complete)) qs = Unit {0}

-- so much was accepted of a handle, and says these messages
pub record SaysAt (h : ℕ) (ms : List Message) (o : Option Stood) (qs : List Passing) : Type 0 where
  pub accepted : List Piece
  pub queued : QueuedAt h accepted o qs
  pub says : SayMessages accepted ms

-- nothing more is said
pub record StaysQueued (h first : ℕ) (old : Option Stood) (ps : List Passing) (new : Option Stood) : Type 0 where
  pub by : (ms : List Message) (qs : List Passing) → SaysAt h ms old qs → SaysAt h ms new (qs ++ ps)

-- as nothing more is accepted
stays-queued : (h first : ℕ) (old : Option Stood) (ps : List Passing) (new : Option Stood)
    → ((w : List Piece) (qs : List Passing) → QueuedAt h w old qs → QueuedAt h w new (qs ++ ps))
    → StaysQueued h first old ps new
stays-queued h first old ps new by =
    record {
      by = λ ms qs s. record { accepted = s.accepted; queued = by s.accepted qs s.queued; says = s.says };
    }

-- or as deliveries are given up
if-aborted : (here : Bool) (ps : List Piece) → AllAborted ps → AllAborted (if here then ps else [])
if-aborted true ps are = are
if-aborted false ps are = tt

pub pieces-aborted : (h : ℕ) (batches : Batches) → GiveUp batches → AllAborted (pieces_by h batches)
pieces-aborted h [] none = tt
pieces-aborted h ((k, batch) ∷ others) (one, rest) =
    aborted-both (if k == h then pieces_of batch else []) (pieces_by h others)
    (if-aborted (k == h) (pieces_of batch) one) (pieces-aborted h others rest)

pub bare-aborted : (ps : List Piece) → AllAborted ps → AllAborted (map bare ps)
bare-aborted [] none = tt
bare-aborted (p ∷ ps) (one, others) = (one, bare-aborted ps others)

module _ (h : ℕ) where
  queued-still : (first : ℕ) (old new : Option Stood) → new ≡ old → StaysQueued h first old [] new
  queued-still first old new same =
      stays-queued h first old [] new
      (λ w qs q.
      subst (λ (rs : List Passing). QueuedAt h w new rs) (sym (append-nil qs))
      (subst (λ (o : Option Stood). QueuedAt h w o qs) (sym same) q))

  queued-on : (first : ℕ) (a b d : Option Stood) (ps rs : List Passing) → StaysQueued h first a ps b
      → StaysQueued h first b rs d → StaysQueued h first a (ps ++ rs) d
  queued-on first a b d ps rs x y =
      record {
        by = λ ms qs s.
            subst (λ (all : List Passing). SaysAt h ms d all) (append_assoc qs ps rs)
            (y.by ms (qs ++ ps) (x.by ms qs s));
      }

  gone-queued : (o : Option Stood) → IsGone o → (w : List Piece) (qs : List Passing) → QueuedAt h w o qs
  gone-queued (Some (Ending channel own_end)) gone w qs = tt
  gone-queued (Some (Over peer_end complete)) gone w qs = tt
  gone-queued (Some (Asked channel a)) gone w qs = absurd gone
  gone-queued (Some (Live channel s)) gone w qs = absurd gone
  gone-queued None gone w qs = absurd gone

  queued-gone : (first : ℕ) (old new : Option Stood) (ps : List Passing) → IsGone new → said_in (sent_in ps) ≡ []
      → StaysQueued h first old ps new
  queued-gone first old new ps gone none =
      stays-queued h first old ps new (λ w qs q. gone-queued new gone w (qs ++ ps))

  free-queued : (o : Option Stood) (w : List Piece) (qs ps : List Passing) → said_in (sent_in ps) ≡ []
      → QueuedAt h w o qs → QueuedAt h w o (qs ++ ps)
  free-queued None w qs ps none q = absurd q
  free-queued (Some (Asked channel a)) w qs ps none q = absurd q
  free-queued (Some (Live channel s)) w qs ps none q =
      record {
        apart = q.apart;
        order =
            ap (λ (xs : List Piece). xs ++ map bare (pieces_waiting h s.value.session))
            (passed-more h qs ps
            ∙ ap (λ (xs : List Piece). map bare (pieces_on h (sent_in qs)) ++ map bare xs)
            (same-pieces h (sent_in ps) [] none)
            ∙ append-nil (map bare (pieces_on h (sent_in qs))))
            ∙ q.order;
      }
  free-queued (Some (Ending channel own_end)) w qs ps none q = tt
  free-queued (Some (Over peer_end complete)) w qs ps none q = tt

  queued-free : (first : ℕ) (stood : Option Stood) (frames : List SessionFrame) → said_in frames ≡ []
      → StaysQueued h first stood (went frames) stood
  queued-free first stood frames none =
      stays-queued h first stood (went frames) stood
      (λ w qs q. free-queued stood w qs (went frames) (ap said_in (sent-went frames) ∙ none) q)

  queued-live : (first : ℕ) (stood : Stood) (accepted : Batches) (before after : Session) (ps : List Passing)
      → GiveUp accepted → live_of (Some stood) ≡ Some before
      → GoesBy accepted before.value.session after.value.session ps
      → StaysQueued h first (Some stood) ps (Some (with_live stood after))
  queued-live first (Live channel s) accepted before after ps up is g =
      record {
        by = λ ms qs said. record {
          accepted = said.accepted ++ map bare (pieces_by h accepted);
          queued =
              more-queued h accepted said.accepted before.value.session after.value.session qs ps
              (goes-did accepted before.value.session after.value.session ps g)
              (subst (λ (x : Session). Queued h said.accepted x.value.session qs) (same_Some s before is) said.queued);
          says =
              says-aborted said.accepted (map bare (pieces_by h accepted)) ms
              (bare-aborted (pieces_by h accepted) (pieces-aborted h accepted up)) said.says;
        };
      }
  queued-live first (Asked channel a) accepted before after ps up is g = absurd (none-some before is)
  queued-live first (Ending channel own_end) accepted before after ps up is g = absurd (none-some before is)
  queued-live first (Over peer_end complete) accepted before after ps up is g = absurd (none-some before is)

  queued-told : (first : ℕ) (stood : Stood) (before after : Box AskedSession) (it : LinkPerformative)
      → asked_of (Some stood) ≡ Some before → HearsAsked before.value it (Ok tt) after.value
      → StaysQueued h first (Some stood) (Came (body_said it) ∷ []) (Some (with_asked stood after))
  queued-told first (Asked channel a) before after it is told =
      stays-queued h first (Some (Asked channel a)) (Came (body_said it) ∷ [])
      (Some (with_asked (Asked channel a) after))
      (λ w qs q. absurd q)
  queued-told first (Live channel s) before after it is told = absurd (none-some before is)
  queued-told first (Ending channel own_end) before after it is told = absurd (none-some before is)
  queued-told first (Over peer_end complete) before after it is told = absurd (none-some before is)

  queued-asks : (first : ℕ) (channel : IncomingChannel) (asked : Box AskedSession) (begin : Begin)
      → asked.value ≡ asked_by begin
      → StaysQueued h first None (Came (body.Begin begin) ∷ []) (Some (Asked channel asked))
  queued-asks first channel asked begin is =
      stays-queued h first None (Came (body.Begin begin) ∷ []) (Some (Asked channel asked))
      (λ w qs q. absurd q)

  queued-begins : (first window : ℕ) (channel : OutgoingChannel) (session : Session) (frame : SessionFrame)
      → Begun gives channel first window frame session.value
      → StaysQueued h first None (went (frame ∷ [])) (Some (Live channel session))
  queued-begins first window channel session frame b =
      stays-queued h first None (went (frame ∷ [])) (Some (Live channel session))
      (λ w qs q. absurd q)

  queued-accepts : (first window : ℕ) (incoming channel : IncomingChannel) (asked : Box AskedSession)
      (outgoing : OutgoingChannel) (session : Session) (frame : SessionFrame)
      → Accepted gives asked.value outgoing channel first window frame session.value
      → StaysQueued h first (Some (Asked incoming asked)) (went (frame ∷ []))
      (Some (Live outgoing (with_links session asked.value.links)))
  queued-accepts first window incoming channel asked outgoing session frame a =
      stays-queued h first (Some (Asked incoming asked)) (went (frame ∷ []))
      (Some (Live outgoing (with_links session asked.value.links)))
      (λ w qs q. absurd q)

  pub queues-keep : Keeping GiveUp (StaysQueued h)
  queues-keep =
      record {
        quiet = λ accepted up. up;
        still = queued-still;
        on = queued-on;
        gone = queued-gone;
        free = queued-free;
        live = λ first stood accepted before after ps up is g asked.
            queued-live first stood accepted before after ps up is g;
        fails = λ first stood before after ps qs over is g none gone.
            stays-queued h first (Some stood) (ps ++ qs) over
            (λ w rs q. gone-queued over gone w (rs ++ (ps ++ qs)));
        told = queued-told;
        asks = queued-asks;
        begins = queued-begins;
        accepts = queued-accepts;
      }

-- where it goes on
pub queued-here : (h : ℕ) (w : List Piece) (o : Option Stood) (qs : List Passing) (session : Session)
    → live_of o ≡ Some session → QueuedAt h w o qs → Queued h w session.value.session qs
queued-here h w None qs session is q = absurd (none-some session is)
queued-here h w (Some (Live channel s)) qs session is q =
    subst (λ (x : Session). Queued h w x.value.session qs) (same_Some s session is) q
queued-here h w (Some (Asked channel a)) qs session is q = absurd (none-some session is)
queued-here h w (Some (Ending channel own_end)) qs session is q = absurd (none-some session is)
queued-here h w (Some (Over peer_end complete)) qs session is q = absurd (none-some session is)
