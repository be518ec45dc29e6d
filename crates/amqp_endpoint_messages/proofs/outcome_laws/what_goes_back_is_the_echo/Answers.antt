use Rattle.std.proofs.Common.{Some, true, false, sym, ap}
use Rattle.amqp_session_types.specs.declared.modes.Role.{Role}
use Rattle.amqp_session_core.specs.Echoes.{opposite}
use Rattle.amqp_session_performatives.specs.declared.disposition.Disposition.{Disposition}
use Rattle.amqp_endpoint_messages.proofs.outcome_laws.what_goes_back_is_the_echo.Goals as goal

pub returns : goal.returns
returns c = λ it run is.
    ap
    (λ (r : Role).
    let d : Disposition =
    record {
      role = opposite r;
      first = run.0;
      last = Some run.1;
      settled = true;
      state = it.state;
      batchable = false;
    } in d)
    (sym is)
