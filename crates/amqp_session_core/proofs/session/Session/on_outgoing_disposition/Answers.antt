use Rattle.std.proofs.Common.{rules, ap, ◌∙◌}
use Rattle.amqp_session_performatives.specs.declared.session_frame.SessionFrameBody.TheVariants as body
use Rattle.amqp_session_core.specs.Frames.{frame_of}
use Rattle.amqp_session_core.specs.State.{State}
use Rattle.amqp_session_core.proofs.Echoing.{disposition-sent}
use Rattle.amqp_session_core.proofs.session.Session.on_outgoing_disposition.Goals as goal

pub returns : goal.returns
returns g c =
    disposition-sent g.R.LinkRelay.gives c.args.self.now c.settle_own.new.self c.args.disposition c.frame.result (search rules)
    (c.frame.ensures ∙ ap (λ (s : State _). frame_of s.fields (body.Disposition c.args.disposition)) c.self.view_is) c.settle_own.ensures
