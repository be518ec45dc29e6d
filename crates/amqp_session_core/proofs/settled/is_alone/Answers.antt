use Rattle.std.proofs.Common.{ℕ, Option, sym, subst}
use Rattle.amqp_session_core.specs.OneSettled.{IsAlone}
use Rattle.amqp_session_core.proofs.OneSettled.{alone-if, alone-so}
use Rattle.amqp_session_core.proofs.settled.is_alone.Goals as goal

pub returns-in-Some : goal.returns-in-Some
returns-in-Some c so =
    subst (λ (o : Option ℕ). IsAlone c.args.first o) (sym c.in-Some.is)
    (alone-if c.args.first c.in-Some.last c.ranges.first.fits so)

pub returns-in-None : goal.returns-in-None
returns-in-None c so =
    subst (λ (o : Option ℕ). IsAlone c.args.first o) (sym c.in-None.is) (alone-so c.args.first c.ranges.first.fits)
