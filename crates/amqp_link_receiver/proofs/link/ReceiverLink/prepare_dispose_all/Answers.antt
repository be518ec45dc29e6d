use Rattle.std.proofs.Common.{rules, ◌≡◌, ℕ, List, map, length, subst, sym, ap, refl, ◌∙◌}
use Rattle.std.specs.Prelude.{Result, replicate}
use Rattle.amqp_session_states.specs.declared.delivery_state.DeliveryState.{DeliveryState}
use Rattle.amqp_link_receiver.specs.declared.disposable.Disposable.{Disposable}
use Rattle.amqp_link_receiver.specs.declared.disposable.DisposeRefusal.{DisposeRefusal}
use Rattle.amqp_link_receiver.specs.DisposingAll.{AllPrepared, InOrder, Named, Prepared, TellsRuns}
use Rattle.amqp_link_receiver.proofs.link.ReceiverLink.prepare_dispose_all.Goals as goal

pub returns-clause-ok : goal.returns-clause-ok
returns-clause-ok c =
    let named : Named = c.in_ok-named.named.entries in
    let state : DeliveryState = c.args.state in
    let p : Prepared =
    record {
      named = named;
      states = c.in_ok-states.states.items;
      told = c.in_ok-told.told.items;
      asked = c.args.settled;
    } in
    let P : Result Named DisposeRefusal → Type 0 = λ r. AllPrepared r c.args.self.now state c.args.settled p in
    let told : TellsRuns c.args.self.now.base.terms.rcv_settle_mode named state c.args.settled c.in_ok-told.told.items =
    record {
      ordered = c.in_ok-in_order.field-0.items;
      in_order = subst
          (λ l. InOrder (map (λ (e : List ℕ × Disposable). e.1) l) c.in_ok-in_order.field-0.items)
          c.iter.ensures.rest c.in_ok-in_order.ensures;
      is = search rules;
    } in
    let states : c.in_ok-states.states.items ≡ replicate (length named) state =
    c.in_ok-states.ensures.items_if_clones_equal (λ y h. search rules)
    ∙ ap (λ k. replicate k state) c.len.ensures.len in
    subst P (sym c.in_ok-named.ensures.ok)
    (record { tells = told; are_named = refl; are_copies = states; is_asked = refl })
