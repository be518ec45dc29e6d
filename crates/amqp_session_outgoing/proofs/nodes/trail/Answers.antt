use Rattle.std.proofs.Common.{◌≡◌, ◌-◌, ◌<◌, length, arith, sym, ◌∙◌, subst, Option, Some, MutBor}
use Rattle.std.specs.Prelude.{IsSome, IfSome, slice_index_or, slice_set}
use Rattle.std.proofs.lemmas.List.{length-set}
use Rattle.amqp_session_outgoing.proofs.Noding.{values-length, some-at}
use Rattle.amqp_session_outgoing.proofs.Joining.{trailed-node, same-node, hold-set, room-node, on_ok, on_err}
use Rattle.amqp_session_outgoing.proofs.nodes.trail.Goals as goal

pub unwrap-last-requires : goal.unwrap-last-requires
unwrap-last-requires g c =
    let nodes = c.args.nodes.now in
    let some : 0 < length nodes = omega (arith, c.requires.some, values-length nodes c.requires.hold) in
    let here = subst (λ (o : Option (MutBor _)). IfSome o (λ x. x.now ≡ slice_index_or nodes (length nodes - 1) x.now)) c.unwrap-slot.ensures c.back_mut.ensures.value in
    subst (λ (o : Option _). IsSome o) (sym (c.take.ensures.value ∙ here)) (some-at nodes (length nodes - 1) c.unwrap-slot.result.now c.requires.hold (omega (arith, some)))

pub returns-clause-hold : goal.returns-clause-hold
returns-clause-hold g c = hold-set c.args.nodes.now (length c.args.nodes.now - 1) _ c.requires.hold

pub returns-clause-ok : goal.returns-clause-ok
returns-clause-ok g c =
    let nodes = c.args.nodes.now in
    let some : 0 < length nodes = omega (arith, c.requires.some, values-length nodes c.requires.hold) in
    let here = subst (λ (o : Option (MutBor _)). IfSome o (λ x. x.now ≡ slice_index_or nodes (length nodes - 1) x.now)) c.unwrap-slot.ensures c.back_mut.ensures.value in
    on_ok c.push-pushed.result
    (λ e. trailed-node nodes (length nodes - 1) c.unwrap-last.result c.push-pushed.new.self c.args.frame c.unwrap-slot.result.now c.requires.hold (omega (arith, some)) (sym c.unwrap-last.ensures ∙ c.take.ensures.value ∙ here) e) c.push-pushed.ensures.ok

pub returns-clause-err : goal.returns-clause-err
returns-clause-err g c =
    let nodes = c.args.nodes.now in
    let some : 0 < length nodes = omega (arith, c.requires.some, values-length nodes c.requires.hold) in
    let here = subst (λ (o : Option (MutBor _)). IfSome o (λ x. x.now ≡ slice_index_or nodes (length nodes - 1) x.now)) c.unwrap-slot.ensures c.back_mut.ensures.value in
    on_err c.push-pushed.result
    (λ e. same-node nodes (length nodes - 1) c.unwrap-last.result c.push-pushed.new.self c.unwrap-slot.result.now c.requires.hold (omega (arith, some)) (sym c.unwrap-last.ensures ∙ c.take.ensures.value ∙ here) e) c.push-pushed.ensures.err

pub returns-clause-short : goal.returns-clause-short
returns-clause-short g c =
    let nodes = c.args.nodes.now in
    let some : 0 < length nodes = omega (arith, c.requires.some, values-length nodes c.requires.hold) in
    let here = subst (λ (o : Option (MutBor _)). IfSome o (λ x. x.now ≡ slice_index_or nodes (length nodes - 1) x.now)) c.unwrap-slot.ensures c.back_mut.ensures.value in
    let room = room-node 1 nodes (length nodes - 1) c.unwrap-last.result c.unwrap-slot.result.now c.requires.hold (omega (arith, some)) (sym c.unwrap-last.ensures ∙ c.take.ensures.value ∙ here) in
    on_ok c.push-pushed.result (λ less. omega (arith, room, less)) c.push-pushed.ensures.short

pub returns-clause-refused : goal.returns-clause-refused
returns-clause-refused g c =
    let nodes = c.args.nodes.now in
    let some : 0 < length nodes = omega (arith, c.requires.some, values-length nodes c.requires.hold) in
    let here = subst (λ (o : Option (MutBor _)). IfSome o (λ x. x.now ≡ slice_index_or nodes (length nodes - 1) x.now)) c.unwrap-slot.ensures c.back_mut.ensures.value in
    let room = room-node 1 nodes (length nodes - 1) c.unwrap-last.result c.unwrap-slot.result.now c.requires.hold (omega (arith, some)) (sym c.unwrap-last.ensures ∙ c.take.ensures.value ∙ here) in
    on_err c.push-pushed.result (λ full. omega (arith, room, full)) c.push-pushed.ensures.refused

pub returns-clause-some : goal.returns-clause-some
returns-clause-some g c =
    let nodes = c.args.nodes.now in
    let last = record c.unwrap-last.result { behind = c.push-pushed.new.self } in
    let some : 0 < length nodes = omega (arith, c.requires.some, values-length nodes c.requires.hold) in
    let held = values-length (slice_set nodes (length nodes - 1) (Some last)) (hold-set nodes (length nodes - 1) last c.requires.hold) in
    omega (arith, some, held, length-set nodes (length nodes - 1) (Some last))
