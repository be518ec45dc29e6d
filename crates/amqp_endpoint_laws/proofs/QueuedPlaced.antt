-- As a link attaches in a session, what it accepts to be sent says the messages that go on.
use Rattle.std.proofs.Common.{◌≡◌, ◌==◌, ◌⊎◌, inl, inr, ℕ, false, List, [], ◌++◌, ap, append-nil, subst, sym, take, ◌∙◌}
use Rattle.std.specs.Prelude.{map, option_map}
use Rattle.amqp_session_performatives.specs.declared.session_frame.SessionFrame.{SessionFrame}
use Rattle.amqp_link.specs.declared.end.End.{End}
use Rattle.amqp_link_base.specs.Readings.{Piece}
use Rattle.amqp_link_sender.specs.declared.sending_on.PreparedSendOn.{PreparedSendOn}
use Rattle.amqp_endpoint_attached.specs.Answering.{plain}
use Rattle.amqp_endpoint_attached.specs.Linked.{Linked}
use Rattle.amqp_endpoint_conversation.specs.Inside.{Batches, said_in}
use Rattle.amqp_endpoint_conversation.specs.Windows.{went}
use Rattle.amqp_endpoint_link_calls.specs.declared.placed.Placed.{Placed}
use Rattle.amqp_endpoint_laws.specs.Queued.{Message, SayMessages, message_on}
use Rattle.amqp_endpoint_laws.proofs.AttachedBehind.{AnswersOn, AttachesInside}
use Rattle.amqp_endpoint_laws.proofs.BehindFlow.{by_link}
use Rattle.amqp_endpoint_laws.proofs.GivenUp.{AllAborted}
use Rattle.amqp_endpoint_laws.proofs.PassedSteps.{Did, sent-went}
use Rattle.amqp_endpoint_laws.proofs.QueuedFlow.{AreSaidOn, answered-so, cut-says, pieces-none}
use Rattle.amqp_endpoint_laws.proofs.QueuedKept.{bare-aborted, pieces-aborted}
use Rattle.amqp_endpoint_laws.proofs.QueuedOrder.{by-both, pieces_by}
use Rattle.amqp_endpoint_laws.proofs.QueuedSaid.{bare, map-both, says-aborted, says-none}

module _ (before after : Linked) (limit : ℕ) (it : End) (placed : Placed) (frames : List SessionFrame)
    (i : AttachesInside before after limit it placed frames) where
  -- by its Attach no link says anything behind what it said before
  pub attached-did : (out : List SessionFrame) → out ≡ frames → Did i.accepted before.session (went out) after.session
  attached-did out same =
      let d = i.inside in
      record {
        steps = d.steps;
        history = d.history;
        accepts = d.accepts;
        says = ap said_in (sent-went out ∙ same ∙ i.are) ∙ d.says;
      }

  abbrev on_batches : Batches
  on_batches = by_link placed.handle (take i.count i.batches)

  -- it gives deliveries up, and behind that messages go on
  accepted-so : (h : ℕ) → pieces_by h i.accepted ≡ pieces_by h i.given_up ++ pieces_by h on_batches
  accepted-so h = ap (λ (bs : Batches). pieces_by h bs) i.accepts ∙ by-both h i.given_up on_batches

  -- by another handle than its own nothing goes on
  pub attached-beside : (h : ℕ) → (placed.handle.0 == h) ≡ false → AllAborted (map bare (pieces_by h i.accepted))
  attached-beside h apart =
      bare-aborted (pieces_by h i.accepted)
      (subst AllAborted
      (sym
      (accepted-so h
      ∙ ap (λ (ps : List Piece). pieces_by h i.given_up ++ ps)
      (pieces-none placed.handle.0 h (take i.count i.batches) apart)
      ∙ append-nil (pieces_by h i.given_up)))
      (pieces-aborted h i.given_up i.up))

  on-so : (ons : List PreparedSendOn) → (ons ≡ []) ⊎ AnswersOn before it ons → AreSaidOn ons
  on-so ons (inl none) = subst AreSaidOn (sym none) tt
  on-so ons (inr on) =
      subst AreSaidOn (sym on.are) (answered-so it on.asked.attach (option_map plain on.asked.flow))

  -- by its own the first so many of the messages do
  pub attached-says : (h : ℕ) → placed.handle.0 ≡ h
      → (count : ℕ) × SayMessages (map bare (pieces_by h i.accepted)) (map message_on (take count i.ons))
  attached-says h own =
      let up : List Piece = map bare (pieces_by h i.given_up) in
      let on =
      cut-says limit placed.handle i.ons i.batches i.all i.count i.cut (on-so i.ons i.go_on) [] up
      (says-aborted [] up [] (bare-aborted (pieces_by h i.given_up) (pieces-aborted h i.given_up i.up)) says-none) in
      let ms : List Message = map message_on (take on.count i.ons) in (
        on.count,
        subst (λ (ps : List Piece). SayMessages ps ms)
            (sym
            (ap (λ (ps : List Piece). map bare ps) (accepted-so h)
            ∙ map-both bare (pieces_by h i.given_up) (pieces_by h on_batches)))
            (subst (λ (k : ℕ). SayMessages (up ++ map bare (pieces_by k on_batches)) ms) own on.says),
      )
