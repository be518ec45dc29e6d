use Rattle.std.proofs.Common.{List, ℕ, arith, ap, length, subst, sym, ◌≤◌, ◌+◌}
use Rattle.std.specs.VecDeque.{deque_capacity, deque_len}
use Rattle.amqp_endpoint_conversation.proofs.Goings.{goes-on, rests-on}
use Rattle.amqp_endpoint_messages.specs.Echoing.{ServesFor}
use Rattle.amqp_endpoint_link_hearing.specs.Unechoed.{handles_in}
use Rattle.amqp_endpoint_link_hearing.proofs.Barrings.{all-can, tells-of}
use Rattle.amqp_endpoint_link_hearing.proofs.Dispositions.{done-for}
use Rattle.amqp_endpoint_link_hearing.proofs.disposing.do_for.Goals as goal

pub tell_and_echo-barred-requires-clause-serves : goal.tell_and_echo-barred-requires-clause-serves
tell_and_echo-barred-requires-clause-serves c =
    subst (λ (rs : List (ℕ × ℕ)). ServesFor c.args.limit (length rs) c.args.ready.echoes) (sym c.deref.ensures)
    c.requires.serves.echoes

pub tell_and_echo-barred-requires-clause-spare : goal.tell_and_echo-barred-requires-clause-spare
tell_and_echo-barred-requires-clause-spare c = omega (
  arith,
  c.requires.spare,
  c.requires.serves.few,
  ap length c.deref.ensures,
)

pub tell_and_echo-barred-requires-clause-room : goal.tell_and_echo-barred-requires-clause-room
tell_and_echo-barred-requires-clause-room c = omega (
  arith,
  c.requires.room,
  ap length c.deref-2.ensures.value,
)

pub refuse_each-requires-clause-can : goal.refuse_each-requires-clause-can
refuse_each-requires-clause-can c =
    all-can c.args.talk.now c.tell_and_echo-barred.new.talk c.args.session c.args.ready.closings.items
    c.tell_and_echo-barred.ensures.keeps c.requires.serves.made

pub refuse_each-requires-clause-spare : goal.refuse_each-requires-clause-spare
refuse_each-requires-clause-spare c = omega (
  arith,
  c.requires.spare,
  c.requires.serves.few,
  ap length c.deref.ensures,
  c.tell_and_echo-barred.ensures.added,
  c.tell_and_echo-barred.ensures.capacity,
)

pub refuse_each-requires-clause-room : goal.refuse_each-requires-clause-room
refuse_each-requires-clause-room c = omega (
  arith,
  c.requires.room,
  ap length c.deref-2.ensures.value,
  c.tell_and_echo-barred.ensures.few,
  c.tell_and_echo-barred.ensures.events_capacity,
)

pub returns-clause-done : goal.returns-clause-done
returns-clause-done c =
    done-for c.args.limit c.args.session c.args.ready.echoes.state c.args.ready.echoes.fits
    (handles_in c.args.ready.closings.items) c.args.ready.reached.items c.deref-2.result.now c.deref-4.result.now
    c.args.runs.items c.deref.result.now c.deref-3.result.now c.tell_and_echo-barred.result.items
    c.deref-2.ensures.value c.deref-4.ensures.value c.deref.ensures c.deref-3.ensures.value
    c.tell_and_echo-barred.ensures.barred c.requires.serves.handles c.tell_and_echo-barred.ensures.none
    c.args.talk.now c.tell_and_echo-barred.new.talk c.refuse_each.new.talk c.args.out.now.items
    c.tell_and_echo-barred.new.out.items c.refuse_each.new.out.items c.args.events.now.items
    c.tell_and_echo-barred.new.events.items c.refuse_each.new.events.items c.tell_and_echo-barred.ensures.done
    (tells-of c.args.session c.deref-3.result.now c.deref-4.result.now (handles_in c.args.ready.closings.items)
    c.tell_and_echo-barred.new.talk c.refuse_each.new.talk c.tell_and_echo-barred.new.out.items
    c.refuse_each.new.out.items c.tell_and_echo-barred.new.events.items c.refuse_each.new.events.items
    c.refuse_each.ensures.refuses)

pub returns-clause-goes : goal.returns-clause-goes
returns-clause-goes c least =
    goes-on c.args.limit c.args.talk.now c.tell_and_echo-barred.new.talk c.refuse_each.new.talk c.args.out.now.items
    c.tell_and_echo-barred.new.out.items c.refuse_each.new.out.items c.tell_and_echo-barred.ensures.goes
    (c.refuse_each.ensures.goes c.args.limit least)

pub returns-clause-waits : goal.returns-clause-waits
returns-clause-waits c most least within =
    (c.refuse_each.ensures.goes most least).waits (c.tell_and_echo-barred.ensures.waits most within)

pub returns-clause-rests : goal.returns-clause-rests
returns-clause-rests c =
    rests-on c.args.talk.now c.tell_and_echo-barred.new.talk c.refuse_each.new.talk c.args.out.now.items
    c.tell_and_echo-barred.new.out.items c.refuse_each.new.out.items c.tell_and_echo-barred.ensures.rests
    c.refuse_each.ensures.rests
