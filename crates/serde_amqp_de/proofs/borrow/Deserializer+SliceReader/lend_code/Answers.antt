use Rattle.std.proofs.Common.{◌∙◌, ap, sym}
use Rattle.serde_amqp_de.specs.Reads.{Reading}
use Rattle.serde_amqp_read.specs.Reads.{faultless, Source}
use Rattle.serde_amqp_de.proofs.Naming.{names_inherited, names_begun, names_end}
use Rattle.serde_amqp_de.proofs.borrow.Deserializer+SliceReader.lend_code.Goals.{in-Some, in-None+in_ok-byte-in-None}
use Rattle.serde_amqp_de.proofs.borrow.Deserializer+SliceReader.lend_code.Goals as goal

pub returns-in_err-byte-in-None-clause-named : goal.returns-in_err-byte-in-None-clause-named
returns-in_err-byte-in-None-clause-named c = λ t. names_end faultless _ t _ _ _ c.from_residual.ensures.1 (sym (ap (λ (d : Reading Source). d.element) c.self.view_is) ∙ c.in-None.is) c.in_err-byte-in-None.ensures.end

pub returns-in-None-code_of-clause-named : goal.returns-in-None-code_of-clause-named
returns-in-None-code_of-clause-named c = λ t.
    elim c.match-self.branch [
      | in-Some w ↦ names_inherited faultless t _ _ _ _ _ _ c.refuse.ensures.same (sym (ap (λ (d : Reading Source). d.element) c.self.view_is) ∙ w.in-Some.is) w.byte-is c.in-None-code_of.is c.code_of.ensures
      | in-None+in_ok-byte-in-None w ↦ names_begun faultless t _ _ _ _ _ _ _ c.refuse.ensures.same (sym (ap (λ (d : Reading Source). d.element) c.self.view_is) ∙ w.in-None.is) w.in_ok-byte-in-None.ensures.ok.split w.byte-is c.in-None-code_of.is c.code_of.ensures
    ]
