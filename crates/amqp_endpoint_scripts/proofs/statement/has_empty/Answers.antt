use Rattle.std.proofs.Common.{rules, ◌==◌, ◌∙◌, length}
use borrow.Author.Tests.{tests}
use Rattle.std.proofs.lemmas.Iterator.{YieldsList-from_slice}
use Rattle.std.proofs.lemmas.Iterator.Search.{any_from_yields_List}
use Rattle.amqp_endpoint_scripts.proofs.Words.{any_empty}
use Rattle.amqp_endpoint_scripts.proofs.statement.has_empty.Goals as goal

pub returns : goal.returns
returns c = any_from_yields_List (λ w. length w.now == 0) _ _ _ c.any.ensures.ran (YieldsList-from_slice c.args.words.now c.iter.ensures.rest) (λ x b q k. search (rules, tests)) ∙ any_empty c.args.words.now
