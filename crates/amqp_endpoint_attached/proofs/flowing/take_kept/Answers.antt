use Rattle.std.proofs.Common.{◌≤◌, Option, refl, subst, sym}
use Rattle.std.specs.Prelude.{IsSome}
use Rattle.amqp_session_performatives.specs.declared.link_flow.LinkFlow.{LinkFlow}
use Rattle.amqp_session_outgoing.specs.Queues.{room_behind}
use Rattle.amqp_session_core.specs.State.{link_at}
use Rattle.amqp_endpoint_attached.specs.Kept.{TakesKept}
use Rattle.amqp_endpoint_attached.specs.Linked.{LinksIn}
use Rattle.amqp_endpoint_attached.proofs.There.{replaced_there}
use Rattle.amqp_endpoint_attached.proofs.flowing.take_kept.Goals as goal

pub send_reply-requires-clause-there : goal.send_reply-requires-clause-there
send_reply-requires-clause-there c =
    let changed = c.take_flow-reply.ensures.changed in
    subst (λ (s : LinksIn). IsSome (link_at s c.args.handle.0)) (sym changed.1)
    (replaced_there c.args.session.now.session c.args.handle.0 _ _ (sym changed.0))

pub send_reply-requires-clause-place : goal.send_reply-requires-clause-place
send_reply-requires-clause-place c =
    subst (λ (s : LinksIn). room_behind c.args.handle.0 1 s.outgoing.queues ≤ c.args.place)
    (sym c.take_flow-reply.ensures.changed.1) c.requires.place

pub returns-in-Some-clause-takes : goal.returns-in-Some-clause-takes
returns-in-Some-clause-takes c =
    subst
    (λ (kept : Option LinkFlow).
    TakesKept c.args.handle kept c.args.session.now c.args.out.now.items
    (record c.args.session.now { session = c.send_reply.new.session }) c.send_reply.new.out.items)
    (sym c.in-Some.is)
    (record {
      takes =
          record {
            reply = c.take_flow-reply.result;
            mid = c.take_flow-reply.new.session;
            takes = c.take_flow-reply.ensures;
            replies = c.send_reply.ensures.replies;
          };
      rest = refl;
    })

pub returns-in-None-clause-takes : goal.returns-in-None-clause-takes
returns-in-None-clause-takes c =
    subst
    (λ (kept : Option LinkFlow).
    TakesKept c.args.handle kept c.args.session.now c.args.out.now.items c.args.session.now c.args.out.now.items)
    (sym c.in-None.is) (record { takes = (refl, refl); rest = refl })
