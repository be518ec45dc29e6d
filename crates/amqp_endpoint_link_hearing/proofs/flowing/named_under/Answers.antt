use Rattle.std.proofs.Common.{sym, ◌∙◌}
use Rattle.amqp_session_core.specs.State.{reached}
use Rattle.amqp_endpoint_links.specs.Asked.{is_asked}
use Rattle.amqp_endpoint_link_hearing.proofs.FlowReadied.{named-none, named-of}
use Rattle.amqp_endpoint_link_hearing.proofs.flowing.named_under.Goals as goal

pub returns-then-is_asked : goal.returns-then-is_asked
returns-then-is_asked c =
    named-none _ (reached c.args.session.now.session c.args.handle.0) (sym c.is_asked.ensures ∙ c.if-is_asked.true)

pub returns : goal.returns
returns c =
    c.link_by_input_handle.ensures
    ∙ sym
    (named-of _ (reached c.args.session.now.session c.args.handle.0) (sym c.is_asked.ensures ∙ c.if-is_asked.false))
