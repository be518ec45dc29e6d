use Rattle.std.proofs.Common.{ℕ, List, map, Option, string_bytes, refl, sym, ap, subst, ◌∙◌}
use Rattle.amqp_endpoint_model.specs.declared.answer.Reply.{Reply}
use Rattle.amqp_endpoint_model.specs.declared.call.Call.{Call}
use Rattle.amqp_endpoint_model.specs.declared.error.EndpointError.{EndpointError}
use Rattle.amqp_endpoint_model.specs.Said.{told}
use Rattle.amqp_endpoint_model.specs.State.{fresh}
use Rattle.amqp_endpoint_model.specs.History.{Run}
use Rattle.amqp_endpoint.specs.Does.{linked}
use Rattle.amqp_endpoint_scripts.specs.Parsed.{one_of}
use Rattle.amqp_endpoint.specs.Performed.{one_with}
use Rattle.amqp_endpoint_scripts.specs.Printed.{printed}
use Rattle.amqp_endpoint.proofs.scenario.perform_one.Goals as goal

pub returns-in-Ok-clause-output : goal.returns-in-Ok-clause-output
returns-in-Ok-clause-output c =
    let (sessions, last, new, run) = c.in-Ok.ensures.run in
    let P : Option EndpointError → Type 0 =
    λ o. one_with (one_of c.args.script) o (string_bytes c.in_ok-print_replies-in-Ok.field-0) 0 in
    let R : List Call → Type 0 =
    λ calls.
    Run linked (fresh c.args.script.given.settings sessions) calls (map told c.in-Ok.replies.items) last in
    subst P (sym c.in-Ok.ensures.accepted) (
      record {
        tolds = map told c.in-Ok.replies.items;
        sessions = sessions;
        last = last;
        new = new;
        run = subst R c.as_slice.ensures.value run;
        output_is =
            c.in_ok-print_replies-in-Ok.ensures
            ∙ ap (λ (lines : List ℕ). printed lines (map told c.as_slice-in-Ok-2.result.now))
            c.as_slice-in-Ok.ensures.value
            ∙ ap (λ (replies : List Reply). printed c.args.script.lines.items (map told replies))
            c.as_slice-in-Ok-2.ensures.value;
      },
      refl,
    )
