use Rattle.std.proofs.Common.{◌≡◌, ◌∷◌, List, length, arith, sym, ap, subst, ◌∙◌}
use Rattle.amqp_session_performatives.specs.declared.disposition.Disposition.{Disposition}
use Rattle.amqp_endpoint_messages.specs.Dispositions.{SendsEach}
use Rattle.amqp_endpoint_messages.proofs.DispositionsSent.{handed-on}
use Rattle.amqp_endpoint_messages.proofs.dispositions.send_each.Goals as goal

pub loop-disposition-preserved : goal.loop-disposition-preserved
loop-disposition-preserved g c =
    let rest : List Disposition = c.next.new.self.rest.items in
    let one : Disposition = c.in-Some.disposition in
    let left : List Disposition = c.loop-disposition.rest.rest.items in
    let items : left ≡ one ∷ rest = c.in-Some.ensures.items in
    record {
      sent = λ new sends.
          c.loop-disposition.invariant.sent new
          (subst (λ (l : List Disposition). SendsEach g.R.LinkRelay.gives c.loop-disposition.session l new) (sym items)
          (c.send_one.new.session, c.send_one.ensures.sent, sends));
      fields = c.send_one.ensures.fields ∙ c.loop-disposition.invariant.fields;
      added =
          handed-on c.args.session.now.fields c.loop-disposition.session.fields one rest left
          c.loop-disposition.out.items c.send_one.new.out.items _ c.send_one.ensures.added
          c.loop-disposition.invariant.fields items c.loop-disposition.invariant.added;
      spare = omega (
        arith,
        c.loop-disposition.invariant.spare,
        ap length items,
        c.send_one.ensures.len,
        c.send_one.ensures.capacity,
      );
      capacity = c.send_one.ensures.capacity ∙ c.loop-disposition.invariant.capacity;
    }
