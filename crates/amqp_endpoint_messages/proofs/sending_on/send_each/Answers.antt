use Rattle.std.proofs.Common.{◌+◌, ◌≤◌, All, List, Bool, arith, ap, subst, sym}
use Rattle.std.specs.VecDeque.{deque_capacity, deque_len}
use Rattle.std.proofs.lemmas.List.Elements.{All-head, All-tail}
use Rattle.amqp_session_outgoing.specs.Frames.{HaveTags}
use Rattle.amqp_session_outgoing.specs.Queues.{frames_in, room_behind}
use Rattle.amqp_session_outgoing.specs.State as sending
use Rattle.amqp_session_core.specs.Batch.{Transfers}
use Rattle.amqp_session_core.specs.declared.batch.BehindFrame.{BehindFrame}
use Rattle.amqp_session_core.specs.declared.batch.TransferFrame.{TransferFrame}
use Rattle.amqp_endpoint_attached.proofs.There.{is_there_in}
use Rattle.amqp_endpoint_messages.specs.GivingUp.{HandsOne}
use Rattle.amqp_endpoint_messages.specs.SendingOn.{transfers_in}
use Rattle.amqp_endpoint_messages.proofs.SentOn.{all-sent, credit-head, credit-kept, credit-left, has-link, one-more}
use Rattle.amqp_endpoint_messages.proofs.SentOn.{stops, waiting-kept}
use Rattle.amqp_endpoint_messages.proofs.sending_on.send_each.Goals as goal

pub hand_over-requires-clause-there : goal.hand_over-requires-clause-there
hand_over-requires-clause-there c =
    is_there_in c.loop-batch.session c.args.handle
    (has-link _ c.loop-batch.session c.args.handle c.loop-batch.invariant.credit)

pub hand_over-requires-clause-tagged : goal.hand_over-requires-clause-tagged
hand_over-requires-clause-tagged c =
    All-head HaveTags c.in-Some.batch c.pop_front.new.self.items
    (subst (λ (l : List Transfers). All HaveTags l) c.in-Some.ensures.items c.loop-batch.invariant.tagged)

pub hand_over-requires-clause-room : goal.hand_over-requires-clause-room
hand_over-requires-clause-room c =
    omega (arith, c.loop-batch.invariant.room, ap (λ (l : List Transfers). transfers_in l) c.in-Some.ensures.items)

pub take_credit-requires : goal.take_credit-requires
take_credit-requires c =
    credit-kept 1 c.loop-batch.session c.hand_over.new.session c.args.handle c.hand_over.ensures.links
    (credit-head c.args.handle c.loop-batch.session c.in-Some.batch c.pop_front.new.self.items
    c.loop-batch.batches.items c.in-Some.ensures.items c.loop-batch.invariant.credit)

pub loop-batch-preserved : goal.loop-batch-preserved
loop-batch-preserved c =
    let waits = waiting-kept c.args.handle c.hand_over.new.session c.take_credit.new.session c.take_credit.ensures in
    record {
      sent = λ stopped new out_new later.
          c.loop-batch.invariant.sent stopped new out_new
          (one-more c.args.handle c.in-Some.batch c.pop_front.new.self.items c.loop-batch.batches.items
          c.loop-batch.session c.hand_over.new.session c.take_credit.new.session c.loop-batch.out.items
          c.hand_over.new.out.items c.in-Some.ensures.items
          (subst
          (λ (b : Bool).
          HandsOne c.args.handle c.in-Some.batch c.loop-batch.session c.loop-batch.out.items b c.hand_over.new.session
          c.hand_over.new.out.items)
          c.if-not-hand_over.false c.hand_over.ensures.handed)
          c.take_credit.ensures stopped new out_new later);
      credit =
          credit-left c.args.handle c.hand_over.new.session c.take_credit.new.session c.in-Some.batch
          c.pop_front.new.self.items c.loop-batch.batches.items c.in-Some.ensures.items
          (credit-kept _ c.loop-batch.session c.hand_over.new.session c.args.handle c.hand_over.ensures.links
          c.loop-batch.invariant.credit)
          c.take_credit.ensures;
      tagged =
          All-tail HaveTags c.in-Some.batch c.pop_front.new.self.items
          (subst (λ (l : List Transfers). All HaveTags l) c.in-Some.ensures.items c.loop-batch.invariant.tagged);
      room =
          subst
          (λ (o : sending.State TransferFrame BehindFrame). transfers_in c.pop_front.new.self.items ≤ o.room)
          (sym waits)
          (omega (
            arith,
            c.loop-batch.invariant.room,
            ap (λ (l : List Transfers). transfers_in l) c.in-Some.ensures.items,
            c.hand_over.ensures.room,
          ));
      spare =
          subst
          (λ (o : sending.State TransferFrame BehindFrame).
          deque_len c.hand_over.new.out + (frames_in o.queues + o.room) + 1 ≤ deque_capacity c.hand_over.new.out)
          (sym waits) (omega (arith, c.loop-batch.invariant.spare, c.hand_over.ensures.spare));
      place = λ most least serves.
          subst
          (λ (o : sending.State TransferFrame BehindFrame). room_behind c.args.handle.0 1 o.queues ≤ most)
          (sym waits)
          (c.hand_over.ensures.place most least (c.loop-batch.invariant.place most least serves));
    }

pub returns-then-not-hand_over-clause-sent : goal.returns-then-not-hand_over-clause-sent
returns-then-not-hand_over-clause-sent c =
    c.loop-batch.invariant.sent _ _ _
    (stops c.args.handle c.in-Some.batch c.pop_front.new.self.items c.loop-batch.batches.items c.loop-batch.session
    c.hand_over.new.session c.loop-batch.out.items c.hand_over.new.out.items c.in-Some.ensures.items
    (subst
    (λ (b : Bool).
    HandsOne c.args.handle c.in-Some.batch c.loop-batch.session c.loop-batch.out.items b c.hand_over.new.session
    c.hand_over.new.out.items)
    c.if-not-hand_over.true c.hand_over.ensures.handed))

pub returns-then-not-hand_over-clause-place : goal.returns-then-not-hand_over-clause-place
returns-then-not-hand_over-clause-place c = λ most least serves.
    c.hand_over.ensures.place most least (c.loop-batch.invariant.place most least serves)

pub returns-then-not-hand_over-clause-there : goal.returns-then-not-hand_over-clause-there
returns-then-not-hand_over-clause-there c =
    has-link _ c.hand_over.new.session c.args.handle
    (credit-kept _ c.loop-batch.session c.hand_over.new.session c.args.handle c.hand_over.ensures.links
    c.loop-batch.invariant.credit)

pub returns-clause-sent : goal.returns-clause-sent
returns-clause-sent c =
    c.loop-batch.invariant.sent _ _ _
    (all-sent c.args.handle c.loop-batch.batches.items c.loop-batch.session c.loop-batch.out.items
    (omega (arith, c.in_default.ensures.cases.0, c.loop-batch.batches.ok.0)))

pub returns-clause-there : goal.returns-clause-there
returns-clause-there c =
    has-link _ c.loop-batch.session c.args.handle c.loop-batch.invariant.credit
