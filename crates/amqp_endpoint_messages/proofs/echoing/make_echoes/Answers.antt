use Rattle.std.proofs.Common.{◌≡◌, Bool, true, arith, ap, subst, sym, ◌∙◌}
use Rattle.std.specs.Prelude.{Option, if◌then◌else◌}
use Rattle.amqp_session_types.proofs.Clones.{option_cloned}
use Rattle.amqp_session_states.specs.declared.delivery_state.DeliveryState.{DeliveryState}
use Rattle.amqp_endpoint_messages.specs.Echoing.{each_fits}
use Rattle.amqp_endpoint_messages.proofs.echoing.make_echoes.Goals as goal

pub returns-clause-state : goal.returns-clause-state
returns-clause-state c =
    option_cloned (λ (x y : DeliveryState). y ≡ x) (λ x y e. e) c.args.state.now c.in_ok-told.told
    c.in_ok-told.ensures.cases

pub returns-clause-serves : goal.returns-clause-serves
returns-clause-serves c =
    let cloned : c.in_ok-told.told ≡ c.args.state.now =
    option_cloned (λ (x y : DeliveryState). y ≡ x) (λ x y e. e) c.args.state.now c.in_ok-told.told
    c.in_ok-told.ensures.cases in
    record {
      each = c.in_ok-copies.ensures.each;
      enough = omega (arith, c.in_ok-copies.ensures.enough);
      fit = λ fit.
          subst (λ (s : Option DeliveryState). each_fits c.args.limit s ≡ true) (sym cloned)
          (sym c.each_fits-fits.ensures ∙ fit);
      none = c.in_ok-barred.ensures.items;
      room = λ wide.
          omega (
            arith,
            c.in_ok-barred.ensures.capacity,
            c.barred_most.ensures ∙ ap (λ (b : Bool). if b then 0 else c.args.count) wide,
          );
    }
