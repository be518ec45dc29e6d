use Rattle.std.proofs.Common.{◌-◌, ◌<◌, length, arith, sym, ap, ◌∙◌, subst, refl, Option}
use Rattle.std.specs.Prelude.{IsSome}
use Rattle.amqp_session_outgoing.proofs.Noding.{values-length, some-at, looked}
use Rattle.amqp_session_outgoing.proofs.nodes.Row.last.Goals as goal

pub returns-clause-some : goal.returns-clause-some
returns-clause-some g c =
    let nodes = c.self.inside.nodes in
    let lt : 0 < length nodes = c.in_ok-back.ensures.variant.0 refl in
    let is = subst (λ (o : Option _). IsSome o) (sym c.in_ok-back.ensures.lookup) (some-at nodes (length nodes - 1) c.in_ok-back.field-0.now c.self.invariant (omega (arith, lt))) in
    let same = ap (λ values. length values) c.self.view_is in
    (λ _. omega (arith, lt, same, values-length nodes c.self.invariant), λ _. c.as_ref.ensures.variant ∙ is)

pub returns-clause-lookup : goal.returns-clause-lookup
returns-clause-lookup g c =
    looked c.as_ref.result c.in_ok-back.field-0.now c.self.inside.nodes c.args.self.now c.as_ref.ensures.value c.in_ok-back.ensures.lookup c.self.invariant (c.in_ok-back.ensures.variant.0 refl) c.self.view_is
