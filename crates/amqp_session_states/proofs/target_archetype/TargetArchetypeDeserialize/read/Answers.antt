use Rattle.std.proofs.Common.{rules, ◌≡◌, false}
use Rattle.std.specs.Prelude.{is_some}
use Rattle.amqp_session_states.specs.TargetArchetype.{is_other}
use Rattle.amqp_session_states.proofs.Archetypes.{carried_from_bytes, kept_target, none_target}
use Rattle.amqp_session_states.proofs.target_archetype.TargetArchetypeDeserialize.read.Goals as goal

pub returns-in_err-read-2-clause-refused : goal.returns-in_err-read-2-clause-refused
returns-in_err-read-2-clause-refused g c =
    let s : is_some c.args.de.now.element ≡ false = search rules in
    let o : is_other c.in_ok-value.value ≡ false = search rules in
    carried_from_bytes g.R.Read.faulty c.from_residual-in_err-read-2.result _ _ _ c.from_residual-in_err-read-2.ensures.1 (λ none. none_target _ _ _ c.in_ok-value.value c.in_ok-value.ensures.ok s o none) c.in_err-read-2.ensures.refused

pub returns-clause-ok : goal.returns-clause-ok
returns-clause-ok g c =
    let s : is_some c.args.de.now.element ≡ false = search rules in
    let p = c.in_ok-read-2.ensures.ok in
    kept_target _ _ _ c.in_ok-value.value p.0 _ c.in_ok-value.ensures.ok s p.1 p.2
