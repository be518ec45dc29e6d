use Rattle.std.proofs.Common.{List, [], ◌∷◌, ◌++◌, ap, ◌∙◌}
use Rattle.amqp_endpoint_link_hearing.specs.declared.unechoed.Closing.{Closing}
use Rattle.amqp_endpoint_link_hearing.proofs.Barrings.{made-more}
use Rattle.amqp_endpoint_link_hearing.proofs.unechoed.add_closing.Goals as goal

pub returns-clause-made : goal.returns-clause-made
returns-clause-made c all =
    made-more c.args.session.now c.args.closings.now.items c.push_reserved.new.self.items c.in_ok-closing.closing
    (c.push_reserved.ensures.items
    ∙ ap (λ (l : List Closing). l ++ c.in_ok-closing.closing ∷ []) c.in_ok-reserve.ensures.items)
    c.in_ok-closing.ensures.made all
