use Rattle.std.proofs.Common.{◌≡◌, [], ◌∷◌, ◌++◌, map, subst, sym}
use Rattle.std.proofs.lemmas.Grind.{common_steps}
use Rattle.std.proofs.Common.{arith}
use Rattle.amqp_link_message.specs.Front.{Run}
use Rattle.amqp_link_message.specs.RunLaws.{front_there, sections_none, sections_more}
use Rattle.amqp_link_message.proofs.parts.take_all.Goals as goal

pub sections-init : goal.sections-init
sections-init g c =
    let none : c.new-sections.result.items ≡ [] = grind (arith, common_steps, c.new-sections.ensures.items) in
    subst (λ s. Run g.S.Deserialize.take c.args.bytes.now c.args.bytes.now (map g.S.Deserialize.item s)) (sym none)
    (sections_none g.S.Deserialize.take g.S.Deserialize.item c.args.bytes.now)

pub sections-preserved : goal.sections-preserved
sections-preserved g c =
    let h = front_there g.S.Deserialize.take g.S.Deserialize.item c.sections.rest.now c.in_ok-section.behind.now c.in_ok-section.section c.in-Some.section c.in-Some.is c.in_ok-section.ensures.ok in
    let more : c.push.new.self.items ≡ c.sections.sections.items ++ c.in-Some.section ∷ [] = grind (arith, common_steps, c.in_ok-push-in-Some.ensures.items) in
    subst (λ s. Run g.S.Deserialize.take c.args.bytes.now c.in_ok-section.behind.now (map g.S.Deserialize.item s)) (sym more)
    (sections_more g.S.Deserialize.take g.S.Deserialize.item c.args.bytes.now c.sections.rest.now c.in_ok-section.behind.now c.sections.sections.items c.in-Some.section c.sections.invariant h)
