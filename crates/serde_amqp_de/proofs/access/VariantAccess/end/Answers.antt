use Rattle.std.proofs.Common.{◌∷◌, [], refl}
use Rattle.serde_amqp_de.specs.Open.{a_map}
use Rattle.serde_amqp_de.proofs.Opened.{ended, unended, on_ok, on_err}
use Rattle.serde_amqp_de.proofs.access.VariantAccess.end.Goals as goal

pub returns-clause-ok : goal.returns-clause-ok
returns-clause-ok g c =
    on_ok c.finish.result _ _ (λ f j k old x y h. f j k old (x ∷ y ∷ []) h) (ended g.R.Read.rest a_map c.finish.result c.args.self.content c.finish.new.self c.finish.ensures.ok)

pub returns-clause-refused : goal.returns-clause-refused
returns-clause-refused g c =
    on_err c.finish.result _ _ (λ f j k old x y h. f j k old (x ∷ y ∷ []) h refl) (unended g.R.Read.rest a_map c.finish.result c.args.self.content c.finish.ensures.refused)
