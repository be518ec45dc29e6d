use Rattle.std.proofs.Common.{◌≡◌, refl}
use Rattle.amqp_session_types.specs.declared.error.Error.{Error}
use Rattle.amqp_session_types.proofs.Clones.{option_cloned}
use Rattle.amqp_endpoint_link_hearing.proofs.Readies.{made-ready}
use Rattle.amqp_endpoint_link_hearing.proofs.detaching.make_ready_in.Goals as goal

pub returns : goal.returns
returns c =
    made-ready c.args.limit c.args.session.now c.args.detach.now
    (record {
      handle = c.in-Some.handle;
      answer =
          record { closed = c.args.detach.now.closed; error = c.in_ok-error.error; place = c.in-Ok.place };
      error = c.in_ok-clone.field-0;
      count = c.ending-count.result;
      copies = c.in_ok-copies.copies;
    })
    c.outgoing_channel-channel.result c.in-Some.ensures c.outgoing_channel-channel.ensures refl
    c.in_ok-error.ensures
    (option_cloned (λ (x y : Error). y ≡ x) (λ x y e. e) c.args.detach.now.error c.in_ok-clone.field-0
    c.in_ok-clone.ensures.cases)
    c.in-Ok.ensures.ok c.ending-count.ensures c.in_ok-copies.ensures
