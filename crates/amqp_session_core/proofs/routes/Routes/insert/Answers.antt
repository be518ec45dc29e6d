use Rattle.std.proofs.Common.{rules, ◌≡◌, true, false, refl, sym, subst, ◌∙◌}
use Rattle.std.specs.FinMap as map
use Rattle.amqp_session_core.specs.Tables.{RouteTable, IsSole, leads}
use Rattle.amqp_session_core.proofs.Leading.{sole-tried}
use Rattle.amqp_session_core.proofs.routes.Routes.insert.Goals as goal
use Rattle.amqp_session_core.proofs.routes.Routes.insert.Goals.{then-self, else-self}

pub invariant_of-self-2 : goal.invariant_of-self-2
invariant_of-self-2 c = λ not.
    elim c.if-self.branch [
      | then-self w ↦
          let yes : c.self.inside.has_several ≡ true = search rules in
          absurd (let clash : true ≡ false = sym yes ∙ sym w.has_several-is ∙ not in cc)
      | else-self w ↦
          let was : c.self.inside.has_several ≡ false = search rules in
          let noted : c.insert.new.self ≡ map.insert c.self.inside.noted (c.args.link).0 c.args.handle = search rules in
          let none : leads c.self.inside.handles c.self.inside.noted (c.args.link).0 ≡ false =
          sym w.leads-has_several.ensures ∙ sym w.has_several-is ∙ not in
          subst (λ (t : RouteTable). IsSole c.insert-2.new.self t false) (sym noted)
          (sole-tried c.self.inside.handles c.self.inside.noted c.args.handle (c.args.link).0
          (subst (λ b. IsSole c.self.inside.handles c.self.inside.noted b) was c.self.invariant) none
          c.insert-2.result c.insert-2.new.self c.insert-2.ensures.ok c.insert-2.ensures.err) refl
    ]
