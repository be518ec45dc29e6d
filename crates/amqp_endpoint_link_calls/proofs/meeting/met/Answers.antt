use Rattle.std.proofs.Common.{List, ℕ, ap, subst}
use Rattle.amqp_session_types.specs.declared.modes.Role.{Role}
use Rattle.amqp_link_base.specs.declared.base.LinkBase.{LinkBase}
use Rattle.amqp_endpoint_link_calls.specs.Naming.{MeetsBy, name_of}
use Rattle.amqp_endpoint_link_calls.proofs.meeting.met.Goals as goal

pub returns : goal.returns
returns c =
    subst (λ (r : Role). MeetsBy c.args.asked.now (name_of c.args.link.now) r c.met_by.result) c.role.ensures
    (subst (λ (n : List ℕ). MeetsBy c.args.asked.now n c.role.result c.met_by.result)
    (ap (λ (b : LinkBase). b.name) c.base.ensures) c.met_by.ensures)
