use Rattle.std.proofs.Common.{◌≡◌, ℕ, length, sym, subst, add-one, arith}
use Rattle.amqp_endpoint_conversation.proofs.Clearing.{all-cleared}
use Rattle.amqp_endpoint_linking.specs.Ending.{FinishesFirst}
use Rattle.amqp_endpoint_linking.proofs.OverLaws.{finished-first}
use Rattle.amqp_endpoint_linking.proofs.over.finish_all.Goals as goal

pub loop-number-preserved : goal.loop-number-preserved
loop-number-preserved c =
    record {
      end = c.loop-number.invariant.end;
      finished =
          subst
          (λ (n : ℕ).
          FinishesFirst n c.args.sessions.now c.args.links.now c.finish_one.new.sessions c.finish_one.new.links)
          (sym (add-one c.loop-number.number))
          (c.loop-number.sessions, c.loop-number.links, c.loop-number.invariant.finished, c.finish_one.ensures);
    }

pub returns-clause-finished : goal.returns-clause-finished
returns-clause-finished c =
    let all : c.loop-number.number ≡ length c.args.sessions.now.places = omega arith in
    subst
    (λ (n : ℕ).
    FinishesFirst n c.args.sessions.now c.args.links.now c.loop-number.sessions c.loop-number.links)
    all c.loop-number.invariant.finished

pub returns-clause-none : goal.returns-clause-none
returns-clause-none c =
    let all : c.loop-number.number ≡ length c.args.sessions.now.places = omega arith in
    all-cleared c.args.sessions.now c.loop-number.sessions
    (finished-first (length c.args.sessions.now.places) c.args.sessions.now c.args.links.now c.loop-number.sessions
    c.loop-number.links
    (subst
    (λ (n : ℕ).
    FinishesFirst n c.args.sessions.now c.args.links.now c.loop-number.sessions c.loop-number.links)
    all c.loop-number.invariant.finished))

pub returns-clause-still : goal.returns-clause-still
returns-clause-still c =
    let first =
    finished-first c.loop-number.number c.args.sessions.now c.args.links.now c.loop-number.sessions c.loop-number.links
    c.loop-number.invariant.finished in
    first.still
