use Rattle.std.proofs.Common.{◌≡◌, ℕ, List, [], ◌∷◌, ◌++◌, IsSome, rules, refl, sym, ap, subst, ◌∙◌}
use Rattle.amqp_session_performatives.specs.declared.session_frame.SessionFrame.{SessionFrame}
use Rattle.amqp_session_performatives.specs.declared.session_frame.SessionFrameBody.TheVariants as body
use Rattle.amqp_session_performatives.specs.declared.transfer.Transfer.{Transfer}
use Rattle.amqp_session_core.specs.Frames.{frame_of}
use Rattle.amqp_session_core.specs.Inside.{state_of}
use Rattle.amqp_session_core.specs.State.{State, link_at}
use Rattle.amqp_session_core.proofs.SentAtOnce.{said, sent_at_once}
use Rattle.amqp_session_core.proofs.session.Session.sends_at_once.Goals as goal

pub returns-clause-step : goal.returns-clause-step
returns-clause-step g c =
    let live : IsSome (link_at c.args.self.now (c.args.handle).0) = search rules in
    let there = subst (λ (s : State _). IsSome (link_at s (c.args.handle).0)) (sym c.self.view_is) live in
    let says =
    c.frame.ensures
    ∙ ap (λ (t : Transfer). frame_of c.self.inside.fields (body.Transfer t c.in-Ok.payload))
    c.whole_transfer-performative.ensures
    ∙ ap (λ (x : List ℕ). frame_of c.self.inside.fields (said c.args.handle x c.args.message_format c.args.settled
    c.in-Some.number c.in-Ok.payload)) c.in-Ok-clone.ensures.cases
    ∙ ap (λ (x : List ℕ). frame_of c.self.inside.fields (said c.args.handle c.args.tag.now c.args.message_format
    c.args.settled c.in-Some.number x)) c.in-Ok.ensures.cases in
    let told =
    c.push_back_reserved.ensures.items
    ∙ ap (λ (xs : List SessionFrame). xs ++ c.frame.result ∷ []) c.reserve.ensures.items in
    rw (← c.self.view_is)
    (sent_at_once g.R.LinkRelay.gives (state_of c.self.inside) _ c.args.out.now.items
    c.push_back_reserved.new.self.items c.args.handle c.args.tag.now c.args.message_format c.args.payload.now
    c.in-Some.number c.args.settled c.in-Ok-kept_tag.kept c.frame.result c.in-Ok-kept_tag.ensures c.in-Some.ensures
    there says told refl)
