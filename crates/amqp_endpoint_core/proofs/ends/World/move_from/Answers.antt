use Rattle.std.proofs.Common.{Bool, sym, ◌∙◌, subst, refl}
use Rattle.amqp_endpoint_core.specs.WorldStep.{BreaksBehind}
use Rattle.amqp_endpoint_core.proofs.ends.World.move_from.Goals as goal

pub returns-then-has_broken_off : goal.returns-then-has_broken_off
returns-then-has_broken_off g c =
    let P : Bool → Type 0 = λ b. BreaksBehind g.S.SessionRelay.does b c.carry-moved.new.self c.break_off.new.self in
    record {
      mid = c.carry-moved.new.self;
      carries = c.carry-moved.ensures.carries;
      back = c.carry-moved.ensures.back;
      behind = subst P (sym c.if-has_broken_off.true ∙ c.has_broken_off.ensures) c.break_off.ensures;
    }

pub returns-else-has_broken_off : goal.returns-else-has_broken_off
returns-else-has_broken_off g c =
    let P : Bool → Type 0 = λ b. BreaksBehind g.S.SessionRelay.does b c.carry-moved.new.self c.carry-moved.new.self in
    record {
      mid = c.carry-moved.new.self;
      carries = c.carry-moved.ensures.carries;
      back = c.carry-moved.ensures.back;
      behind = subst P (sym c.if-has_broken_off.false ∙ c.has_broken_off.ensures) refl;
    }
