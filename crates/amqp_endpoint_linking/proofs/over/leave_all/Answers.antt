use Rattle.std.proofs.Common.{◌≡◌, ℕ, length, sym, subst, add-one, arith}
use Rattle.amqp_endpoint_conversation.proofs.Clearing.{all-cleared}
use Rattle.amqp_endpoint_linking.specs.Ending.{LeavesFirst}
use Rattle.amqp_endpoint_linking.proofs.OverLaws.{left-first}
use Rattle.amqp_endpoint_linking.proofs.over.leave_all.Goals as goal

pub loop-number-preserved : goal.loop-number-preserved
loop-number-preserved c =
    record {
      end = c.loop-number.invariant.end;
      left =
          subst
          (λ (n : ℕ).
          LeavesFirst n c.args.sessions.now c.args.links.now c.leave_one.new.sessions c.leave_one.new.links)
          (sym (add-one c.loop-number.number))
          (c.loop-number.sessions, c.loop-number.links, c.loop-number.invariant.left, c.leave_one.ensures);
    }

pub returns-clause-left : goal.returns-clause-left
returns-clause-left c =
    let all : c.loop-number.number ≡ length c.args.sessions.now.places = omega arith in
    subst
    (λ (n : ℕ).
    LeavesFirst n c.args.sessions.now c.args.links.now c.loop-number.sessions c.loop-number.links)
    all c.loop-number.invariant.left

pub returns-clause-none : goal.returns-clause-none
returns-clause-none c =
    let all : c.loop-number.number ≡ length c.args.sessions.now.places = omega arith in
    all-cleared c.args.sessions.now c.loop-number.sessions
    (left-first (length c.args.sessions.now.places) c.args.sessions.now c.args.links.now c.loop-number.sessions
    c.loop-number.links
    (subst
    (λ (n : ℕ).
    LeavesFirst n c.args.sessions.now c.args.links.now c.loop-number.sessions c.loop-number.links)
    all c.loop-number.invariant.left))

pub returns-clause-still : goal.returns-clause-still
returns-clause-still c =
    let first =
    left-first c.loop-number.number c.args.sessions.now c.args.links.now c.loop-number.sessions c.loop-number.links
    c.loop-number.invariant.left in
    first.still
