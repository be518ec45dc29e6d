-- The transfers that reach a link are those that pass in its session on the handle of the peer's that leads to it.
use Rattle.std.proofs.Common.{◌≡◌, ◌==◌, ◌&&◌, Option, ℕ, Bool, true, false, List, [], ◌∷◌, ◌++◌, ap, refl, sym, ◌∙◌}
use Rattle.std.proofs.Common.{if◌then◌else◌}
use Rattle.std.proofs.lemmas.List.{append-nil}
use Rattle.amqp_session_types.specs.declared.handles.OutputHandle.{OutputHandle}
use Rattle.amqp_session_performatives.specs.declared.session_frame.SessionFrame.{SessionFrame}
use Rattle.amqp_session_performatives.specs.declared.transfer.Transfer.{Transfer}
use Rattle.amqp_session_frames.specs.declared.frame.FrameBody.{FrameBody}
use Rattle.amqp_session_frames.specs.declared.frame.FrameBody.TheVariants as body
use Rattle.amqp_link_base.specs.Readings.{Piece}
use Rattle.amqp_link_receiver.specs.Deliveries.{Delivery}
use Rattle.amqp_endpoint_laws.specs.Deeds.{Closes, Deed, Does, Finishes, Hears, IsDeed, Moves, Queues, Refuses}
use Rattle.amqp_endpoint_laws.specs.Deeds.{Renews, Takes}
use Rattle.amqp_endpoint.specs.Does.{linked}
use Rattle.amqp_endpoint.specs.declared.linked.LinkedSessions.{LinkedSessions}
use Rattle.amqp_endpoint_tables.specs.State.{live_at, reached}
use Rattle.amqp_endpoint_conversation.specs.Windows.{Came, Passing, went}
use Rattle.amqp_endpoint_laws.specs.Handed.{IsReceiving, PassesOn, ReachIn, leads_there, piece_of, piece_on}
use Rattle.amqp_endpoint_laws.specs.Handed.{pieces_in}
use Rattle.amqp_endpoint_laws.specs.Handed.{pieces_come, pieces_on}
use Rattle.amqp_endpoint_laws.specs.Passed.{called_in, came_in, is_it, passes_in, session_taking}
use Rattle.amqp_endpoint_laws.proofs.HoldingDeeds.{IsNotTransfer}
use Rattle.amqp_endpoint_laws.proofs.PassedPlaces.{none-came}
use Rattle.amqp_endpoint_laws.proofs.TakenRead.{came-both, come-both}

-- of the peer's handles this one leads to the link, and no other
abbrev pub LeadsOnly : LinkedSessions → ℕ → OutputHandle → ℕ → Type 0
LeadsOnly s session own theirs =
    (other : ℕ) → leads_there (live_at s.talk.sessions session) other own ≡ (other == theirs)

module _ (session : ℕ) (own : OutputHandle) (theirs : ℕ) where
  pieces-both : (ps qs : List Passing) → pieces_on theirs (ps ++ qs) ≡ pieces_on theirs ps ++ pieces_on theirs qs
  pieces-both ps qs =
      ap (λ (came : List FrameBody). pieces_come theirs came) (came-both ps qs)
      ∙ come-both theirs (came_in ps) (came_in qs)

  -- what goes is none of them
  went-none : (frames : List SessionFrame) → pieces_on theirs (went frames) ≡ []
  went-none frames = ap (λ (came : List FrameBody). pieces_come theirs came) (none-came frames)

  if-went : (b : Bool) (frames : List SessionFrame) → pieces_on theirs (if b then went frames else []) ≡ []
  if-went true frames = went-none frames
  if-went false frames = refl

  other-none : (it : FrameBody) → IsNotTransfer it → piece_on theirs it ≡ []
  other-none (body.Transfer transfer payload) other = absurd other
  other-none it other = refl

  other-on : (it : FrameBody) → IsNotTransfer it → (b : Bool) (frames : List SessionFrame)
      → pieces_on theirs (if b then Came it ∷ went frames else []) ≡ []
  other-on it other true frames =
      ap (λ (xs : List Piece). xs ++ pieces_on theirs (went frames)) (other-none it other) ∙ went-none frames
  other-on it other false frames = refl

  module _ (old : LinkedSessions) (alone : LeadsOnly old session own theirs) where
    transfer-on : (it : Transfer) (payload : List ℕ) (frames : List SessionFrame) (b : Bool)
        → pieces_on theirs (if b then Came (body.Transfer it payload) ∷ went frames else []) ≡
        (if b && leads_there (live_at old.talk.sessions session) it.handle.0 own
        then record { performative = it; payload = payload } ∷ [] else [])
    transfer-on it payload frames true =
        ap (λ (xs : List Piece). piece_on theirs (body.Transfer it payload) ++ xs) (went-none frames)
        ∙ append-nil (piece_on theirs (body.Transfer it payload))
        ∙ ap (λ (b : Bool). if b then record { performative = it; payload = payload } ∷ [] else [])
        (sym (alone it.handle.0))
    transfer-on it payload frames false = refl

    frame-on : (it : FrameBody) (channel : ℕ) (frames : List SessionFrame)
        → pieces_on theirs (if is_it (session_taking old channel it) session then Came it ∷ went frames else []) ≡
        piece_of old session own channel it
    frame-on (body.Transfer transfer payload) channel frames =
        transfer-on transfer payload frames (is_it (reached old.talk.sessions channel) session)
    frame-on it channel frames = other-on it tt (is_it (session_taking old channel it) session) frames

    deed-on : (deed : Deed) → pieces_on theirs (passes_in session old deed) ≡ pieces_in session own old deed
    deed-on (Takes limit f frames events) = frame-on f.body f.channel frames
    deed-on (Does limit it answer frames) = if-went (is_it (called_in old it answer) session) frames
    deed-on (Queues it) = refl
    deed-on (Hears frame events) = refl
    deed-on (Refuses limit f error own_close) = refl
    deed-on (Moves connection) = refl
    deed-on Renews = refl
    deed-on Closes = refl
    deed-on Finishes = refl

  -- one after the other, where what makes it the only one is kept
  module _ (link : ℕ) (Kept : LinkedSessions → Type 0)
      (only : (s : LinkedSessions) (held : Option Delivery) → Kept s → IsReceiving s link session own held
      → leads_there (live_at s.talk.sessions session) theirs own ≡ true → LeadsOnly s session own theirs)
      (keeps : (deed : Deed) (old new : LinkedSessions) → IsDeed linked old deed new → Kept old → Kept new) where
    pub reach-on : (deeds : List Deed) (old new : LinkedSessions) (held : Option Delivery) (passings : List Passing)
        → Kept old → IsReceiving old link session own held → PassesOn link session own theirs old deeds new passings
        → ReachIn link session own old deeds new (pieces_on theirs passings)
    reach-on [] old new held passings k r (same, none) =
        (same, ap (λ (ps : List Passing). pieces_on theirs ps) none)
    reach-on (deed ∷ deeds) old new held passings k r (mid, next, later, leads, d, q, rest, is) = (
      mid,
      next,
      pieces_on theirs later,
      d,
      q,
      reach-on deeds mid new next later (keeps deed old mid d k) q rest,
      ap (λ (ps : List Passing). pieces_on theirs ps) is ∙ pieces-both (passes_in session old deed) later
          ∙ ap (λ (xs : List Piece). xs ++ pieces_on theirs later) (deed-on old (only old held k r leads) deed),
    )
