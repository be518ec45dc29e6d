use Rattle.std.proofs.Common.{subst}
use Rattle.serde_amqp_item.specs.Item.{Pairs, map}
use Rattle.serde_amqp_de.specs.Reads.{Reads, at_of}
use Rattle.serde_amqp_de.specs.Open.{a_map, in_turn, IsNot}
use Rattle.serde_amqp_de.proofs.Opened.{ended, unended, on_ok, on_err, turned_pairs, turned_even}
use Rattle.serde_amqp_de.proofs.access.MapAccess.end.Goals as goal

pub returns-clause-ok : goal.returns-clause-ok
returns-clause-ok g c =
    on_ok c.finish.result _ _ (λ f j k old ps h. let e = f j k old (in_turn ps) h in (subst (λ (qs : Pairs). Reads k old (at_of g.R.Read.rest c.finish.new.self) (map qs)) (turned_pairs ps) e.0, e.1))
    (ended g.R.Read.rest a_map c.finish.result c.args.self.content c.finish.new.self c.finish.ensures.ok)

pub returns-clause-refused : goal.returns-clause-refused
returns-clause-refused g c =
    on_err c.finish.result _ _ (λ f j k old ps h. subst (λ (qs : Pairs). IsNot k old (map qs)) (turned_pairs ps) (f j k old (in_turn ps) h (turned_even ps)))
    (unended g.R.Read.rest a_map c.finish.result c.args.self.content c.finish.ensures.refused)
