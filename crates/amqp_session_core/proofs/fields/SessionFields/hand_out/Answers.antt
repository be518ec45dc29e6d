use Rattle.std.proofs.Common.{rules, ◌≡◌, ◌∷◌, ◌++◌, [], reverse, arith, ap, length}
use Rattle.std.proofs.lemmas.List.{length-append}
use Rattle.amqp_session_core.specs.Frames.{frames_sent}
use Rattle.amqp_session_core.proofs.Handing.{turned, frames-on, flows-on, count-on, length-sent}
use Rattle.amqp_session_core.proofs.fields.SessionFields.hand_out.Goals as goal

pub loop-one-preserved : goal.loop-one-preserved
loop-one-preserved c =
    let last : c.loop-one.sent.items ≡ c.pop.new.self.items ++ c.in-Some.one ∷ [] = search rules in
    let is : reverse c.loop-one.sent.items ≡ c.in-Some.one ∷ reverse c.pop.new.self.items = turned _ _ _ last in
    let f = c.args.self in
    record {
      frames = frames-on f c.in-Some.one _ _ c.args.sent.now.items _ _ _ c.loop-one.flows c.hand_out_one-flows.result is c.hand_out_one-flows.ensures.frames c.loop-one.invariant.frames;
      room =
          let n = count-on f c.in-Some.one _ _ c.args.sent.now.items c.loop-one.out.items c.hand_out_one-flows.new.out.items c.args.out.now.items c.loop-one.flows c.hand_out_one-flows.result is in
          omega (arith, n, length-append c.loop-one.out.items (frames_sent f c.in-Some.one), length-sent f c.in-Some.one, ap (λ l. length l) c.hand_out_one-flows.ensures.frames, c.hand_out_one-flows.ensures.room, c.loop-one.invariant.room);
      capacity = search rules;
      count =
          let n = count-on f c.in-Some.one _ _ c.args.sent.now.items c.loop-one.out.items c.hand_out_one-flows.new.out.items c.args.out.now.items c.loop-one.flows c.hand_out_one-flows.result is in
          omega (arith, n, length-append c.loop-one.out.items (frames_sent f c.in-Some.one), length-sent f c.in-Some.one, ap (λ l. length l) c.hand_out_one-flows.ensures.frames, c.loop-one.invariant.count);
      out_capacity = search rules;
      flows = flows-on f c.in-Some.one _ _ c.args.sent.now.items c.loop-one.out.items c.hand_out_one-flows.new.out.items c.args.out.now.items _ _ is c.hand_out_one-flows.ensures.flows c.loop-one.invariant.flows;
      same = search rules;
    }
