use Rattle.std.proofs.Common.{ℕ, List, map, Option, None, string_bytes, refl, sym, ap, subst, ◌∙◌}
use Rattle.amqp_endpoint_model.specs.declared.error.EndpointError.{EndpointError}
use Rattle.amqp_endpoint_model.specs.Step.{refusal_of_settings}
use Rattle.amqp_endpoint.specs.Does.{linked}
use Rattle.amqp_endpoint_core.specs.declared.reply.WorldReply.{WorldReply}
use Rattle.amqp_endpoint_core.specs.declared.step.Step.{Step}
use Rattle.amqp_endpoint_core.specs.WorldSaid.{world_told}
use Rattle.amqp_endpoint_core.specs.WorldStep.{WorldRun}
use Rattle.amqp_endpoint_scripts.specs.Parsed.{two_of}
use Rattle.amqp_endpoint.specs.Performed.{two_with}
use Rattle.amqp_endpoint_scripts.specs.Printed.{world_printed}
use Rattle.amqp_endpoint.proofs.scenario.perform_two.Goals as goal

pub returns-in-Ok-clause-output : goal.returns-in-Ok-clause-output
returns-in-Ok-clause-output c =
    let (start, last, new, run) = c.in-Ok.ensures.run in
    let P : Option EndpointError → Option EndpointError → Type 0 =
    λ a b. two_with (two_of c.args.script) a b (string_bytes c.in_ok-print_world-in-Ok.field-0) 0 in
    let R : List Step → Type 0 =
    λ steps. WorldRun linked start steps (map world_told c.in-Ok.replies.items) last in
    subst (λ (a : Option EndpointError). P a (refusal_of_settings c.args.script.given_b.settings))
    (sym c.in-Ok.ensures.accepted.0) (
    subst (λ (b : Option EndpointError). P None b) (sym c.in-Ok.ensures.accepted.1) (
      record {
        tolds = map world_told c.in-Ok.replies.items;
        start = start;
        last = last;
        new = new;
        run = subst R c.as_slice.ensures.value run;
        output_is =
            c.in_ok-print_world-in-Ok.ensures
            ∙ ap (
            λ (lines : List ℕ).
            world_printed lines c.as_slice-in-Ok-2.result.now (map world_told c.as_slice-in-Ok-3.result.now)
            )
            c.as_slice-in-Ok.ensures.value
            ∙ ap (
            λ (steps : List Step).
            world_printed c.args.script.lines.items steps (map world_told c.as_slice-in-Ok-3.result.now)
            )
            c.as_slice-in-Ok-2.ensures.value
            ∙ ap (
            λ (replies : List WorldReply).
            world_printed c.args.script.lines.items c.args.script.steps.items (map world_told replies)
            )
            c.as_slice-in-Ok-3.ensures.value;
      },
      refl,
    )
    )
