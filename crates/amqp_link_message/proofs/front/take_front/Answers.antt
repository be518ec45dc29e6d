use Rattle.std.proofs.Common.{◌≡◌, ◌∙◌, ap, sym, ◌++◌, List, ℕ}
use Rattle.amqp_link_message.proofs.front.take_front.Goals as goal

pub returns-in-Ok-clause-ok : goal.returns-in-Ok-clause-ok
returns-in-Ok-clause-ok g c =
    let h = c.in-Ok.ensures.ok in
    let start : c.args.bytes.now ≡ c.new.result.rest = cc in
    record {
      item = h.0;
      front = h.1;
      wire = h.2;
      split = start ∙ (h.3 ∙ ap (λ (s : List ℕ). h.1 ++ s) (sym c.left.ensures));
      taken = h.4;
    }
