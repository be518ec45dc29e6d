use Rattle.std.proofs.Common.{◌∙◌, ap, sym}
use Rattle.serde_amqp_de.specs.Reads.{Reading}
use Rattle.serde_amqp_de.proofs.Naming.{names_inherited, names_begun, names_end}
use Rattle.serde_amqp_de.proofs.deserializer.Deserializer.code.Goals.{in-Some, in-None+in_ok-byte-in-None}
use Rattle.serde_amqp_de.proofs.deserializer.Deserializer.code.Goals as goal

pub returns-in_err-byte-in-None-clause-named : goal.returns-in_err-byte-in-None-clause-named
returns-in_err-byte-in-None-clause-named g c = λ t. names_end g.R.Read.faulty _ t _ _ _ c.from_residual.ensures.1 (sym (ap (λ (d : Reading g.row.R.Denot). d.element) c.self.view_is) ∙ c.in-None.is) c.in_err-byte-in-None.ensures.end

pub returns-in-None-constructor_of-clause-named : goal.returns-in-None-constructor_of-clause-named
returns-in-None-constructor_of-clause-named g c = λ t.
    elim c.match-self.branch [
      | in-Some w ↦ names_inherited g.R.Read.faulty t _ _ _ _ _ _ c.refuse.ensures.same (sym (ap (λ (d : Reading g.row.R.Denot). d.element) c.self.view_is) ∙ w.in-Some.is) w.byte-is c.in-None-constructor_of.is c.constructor_of.ensures
      | in-None+in_ok-byte-in-None w ↦ names_begun g.R.Read.faulty t _ _ _ _ _ _ _ c.refuse.ensures.same (sym (ap (λ (d : Reading g.row.R.Denot). d.element) c.self.view_is) ∙ w.in-None.is) w.in_ok-byte-in-None.ensures.ok.split w.byte-is c.in-None-constructor_of.is c.constructor_of.ensures
    ]
