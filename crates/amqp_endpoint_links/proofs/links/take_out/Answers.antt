use Rattle.std.proofs.Common.{rules, ◌≡◌, ◌∙◌, sym, subst, Some, None}
use Rattle.std.specs.FinMap as map
use Rattle.amqp_endpoint_links.specs.Asked.{Asked}
use Rattle.amqp_endpoint_links.specs.Inside.{AreNamed, TakesAway}
use Rattle.amqp_endpoint_links.proofs.Naming.{taken-named}
use Rattle.amqp_session_types.proofs.Tables.{not-there}
use Rattle.amqp_endpoint_links.proofs.links.take_out.Goals as goal

pub returns-in_err-link-clause-named : goal.returns-in_err-link-clause-named
returns-in_err-link-clause-named c =
    let none : map.get c.args.links.now c.args.handle ≡ None = search rules in
    let same : c.args.links.now ≡ c.remove.new.self = not-there c.args.links.now c.args.handle none ∙ sym c.remove.ensures.rest in
    subst (λ (t : Asked). AreNamed t c.args.handles.now.entries) same c.requires.named

pub returns-clause-named : goal.returns-clause-named
returns-clause-named c =
    let there : map.get c.args.links.now c.args.handle ≡ Some c.in_ok-link.link = search rules in
    let away : TakesAway (c.in_ok-link.link.attach).name c.args.handles.now.entries c.forget_name.new.handles.entries = search rules in
    subst (λ (t : Asked). AreNamed t c.forget_name.new.handles.entries) (sym c.remove.ensures.rest)
    (taken-named c.args.links.now c.args.handles.now.entries c.requires.named c.in_ok-link.link c.args.handle c.forget_name.new.handles.entries there away)
