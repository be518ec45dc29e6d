use Rattle.std.proofs.Common.{List, [], ◌∷◌, ◌++◌, ap, subst, ◌∙◌}
use Rattle.amqp_session_performatives.specs.declared.attach.Attach.{Attach}
use Rattle.amqp_session_performatives.specs.declared.session_frame.SessionFrame.{SessionFrame}
use Rattle.amqp_link_base.specs.declared.exchange.AttachExchange.{AttachExchange}
use Rattle.amqp_endpoint_attached.specs.Answering.{TakesIn, told_of}
use Rattle.amqp_endpoint_attached.proofs.answering.hand_out.Goals as goal

pub returns-clause-says : goal.returns-clause-says
returns-clause-says c =
    record {
      attaching = c.take_in-attaching.result;
      takes =
          subst
          (λ (a : Attach).
          TakesIn c.args.session.now c.args.handle c.args.ready.taken a.incomplete_unsettled c.take_in-attaching.result
          c.take_in-attaching.new.session)
          c.deref.ensures c.take_in-attaching.ensures;
      told =
          ap
          (λ (e : AttachExchange). record {
            handle = c.args.handle;
            exchange = e;
            aborts = c.take_in-attaching.result.aborts;
            kept = c.args.ready.kept;
          })
          (c.told_of.ensures
          ∙ ap (λ (a : Attach). told_of a.incomplete_unsettled c.take_in-attaching.result.exchange) c.deref.ensures);
      handed =
          c.push_back_reserved.ensures.items
          ∙ ap (λ (f : SessionFrame). c.args.out.now.items ++ f ∷ []) c.attach_frame.ensures;
    }
