use Rattle.serde_amqp_de.proofs.Naming.{names_inherited, names_begun, names_end}
use Rattle.serde_amqp_de.proofs.deserializer.Deserializer.peek.Goals.{in-Some, in-None+in_ok-byte-in-None}
use Rattle.serde_amqp_de.proofs.deserializer.Deserializer.peek.Goals as goal

pub returns-in_err-byte-in-None-clause-named : goal.returns-in_err-byte-in-None-clause-named
returns-in_err-byte-in-None-clause-named g c = rw (← c.self.view_is) λ t. names_end g.R.Read.faulty _ t _ _ _ c.from_residual.ensures.1 c.in-None.is c.in_err-byte-in-None.ensures.end

pub returns-in-None-constructor_of-clause-named : goal.returns-in-None-constructor_of-clause-named
returns-in-None-constructor_of-clause-named g c = rw (← c.self.view_is) λ t.
    elim c.match-self.branch [
      | in-Some w ↦ names_inherited g.R.Read.faulty t _ _ _ _ _ _ c.refuse.ensures.same w.in-Some.is w.byte-is c.in-None-constructor_of.is c.constructor_of.ensures
      | in-None+in_ok-byte-in-None w ↦ names_begun g.R.Read.faulty t _ _ _ _ _ _ _ c.refuse.ensures.same w.in-None.is w.in_ok-byte-in-None.ensures.ok.split w.byte-is c.in-None-constructor_of.is c.constructor_of.ensures
    ]
