use Rattle.std.proofs.Common.{ℕ, List, Some, refl, ap}
use Rattle.amqp_endpoint_model.specs.State.{error_of}
use Rattle.amqp_endpoint_link_hearing.proofs.Doing.{closing-placed}
use Rattle.amqp_endpoint_link_hearing.proofs.closing.make_closing.Goals as goal

pub returns : goal.returns
returns c = (
  refl,
  ap (λ (name : List ℕ). Some (error_of name)) c.in_ok-name_of.ensures,
  closing-placed c.args.session.now c.args.handle c.args.condition c.in_ok-name_of.field-0 c.in-Ok.place
      c.in_ok-name_of.ensures c.handle_is_read.ensures c.in-Ok.ensures.ok,
)
