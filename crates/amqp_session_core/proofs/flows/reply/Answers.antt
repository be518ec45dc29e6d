use Rattle.std.proofs.Common.{rules, None, refl, arith, ap, ◌∙◌, ◌≡◌, Result, Ok}
use Rattle.amqp_session_types.specs.declared.refusals.SessionError.{SessionError}
use Rattle.amqp_session_core.specs.declared.flows.Answer.{Answer}
use Rattle.amqp_session_core.specs.declared.flows.Answer.TheVariants as answer
use Rattle.amqp_session_core.specs.Flowing.{answer_count}
use Rattle.amqp_session_outgoing.proofs.Counting.{frames-followed}
use Rattle.amqp_session_outgoing.specs.Queues.{Queues, frames_in}
use Rattle.amqp_session_core.specs.declared.batch.TransferFrame.{TransferFrame}
use Rattle.amqp_session_core.specs.declared.batch.BehindFrame.{BehindFrame}
use Rattle.amqp_session_core.specs.declared.batch.BehindFrame.TheVariants as behind
use Rattle.amqp_session_core.proofs.Replying.{replied-at-once, replied-later, follows-held}
use Rattle.amqp_session_core.proofs.flows.reply.Goals as goal

pub returns-in-Some-clause-replied : goal.returns-in-Some-clause-replied
returns-in-Some-clause-replied c =
    replied-at-once c.args.fields _ _ _ _ _ c.in-Ok-OfLink.handle c.in-Ok-OfLink.flow (search rules) c.in-Some.frame c.behind_frame.result (search rules) (search rules) c.push_back_reserved-in-Some.ensures.items

pub returns-in-None-clause-replied : goal.returns-in-None-clause-replied
returns-in-None-clause-replied c =
    replied-later c.args.fields _ _ _ _ _ c.in-Ok-OfLink.handle c.in-Ok-OfLink.flow (search rules) (search rules) refl

pub returns-in-None-clause-room : goal.returns-in-None-clause-room
returns-in-None-clause-room c =
    let step = c.in-None.ensures.step in
    let n = ap (λ (qs : Queues TransferFrame BehindFrame). frames_in qs) step.0.1 ∙ frames-followed (c.in-Ok-OfLink.handle).0 (behind.Flow c.in-Ok-OfLink.flow) c.args.outgoing.now.queues step.0.0 in
    omega (arith, n, c.requires.room)

pub returns-in-None-clause-held : goal.returns-in-None-clause-held
returns-in-None-clause-held c =
    let step = c.in-None.ensures.step in
    follows-held (c.in-Ok-OfLink.handle).0 (behind.Flow c.in-Ok-OfLink.flow) None _ _ step.0

pub returns-in-None-clause-frames : goal.returns-in-None-clause-frames
returns-in-None-clause-frames c =
    let step = c.in-None.ensures.step in
    let n = ap (λ (qs : Queues TransferFrame BehindFrame). frames_in qs) step.0.1 ∙ frames-followed (c.in-Ok-OfLink.handle).0 (behind.Flow c.in-Ok-OfLink.flow) c.args.outgoing.now.queues step.0.0 in
    let is : c.args.answer ≡ Ok (answer.OfLink c.in-Ok-OfLink.handle c.in-Ok-OfLink.flow) = search rules in
    omega (arith, n, ap (λ (r : Result Answer SessionError). answer_count r) is)
