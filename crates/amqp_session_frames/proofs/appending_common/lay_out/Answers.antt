use Rattle.std.proofs.Common.{rules, refl, subst, List, ℕ}
use Rattle.amqp_session_frames.specs.Items.{Puts}
use Rattle.amqp_session_frames.proofs.CommonLaid.{laid_text}
use Rattle.amqp_session_frames.proofs.appending_common.lay_out.Goals as goal

pub returns-clause-ok : goal.returns-clause-ok
returns-clause-ok c =
    laid_text c.args.channel _ c.args.end c.put.result c.args.payload.now c.args.out.now.items c.add.new.out.items
    c.add-2.new.out.items c.args.text.now c.put.new.to (search rules) (search rules) refl
    (subst (λ (l : List ℕ). Puts l 0 c.put.result c.args.text.now c.put.new.to) c.front.ensures c.put.ensures.puts)
    c.put.ensures.behind (search rules) (search rules)
