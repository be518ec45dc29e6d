use Rattle.std.proofs.Common.{rules}
use Rattle.amqp_endpoint_scripts.proofs.Words.{other_words}
use Rattle.amqp_endpoint_scripts.proofs.statement.read_words.Goals as goal
use Rattle.amqp_endpoint_scripts.proofs.statement.read_words.Goals.{in_default-via-then-words-lt1}
use Rattle.amqp_endpoint_scripts.proofs.statement.read_words.Goals.{in_default-via-else-words-lt1+else-words-lt2+else-words-lt3+else-words-lt4+else-words-lt5+else-words-lt6+else-words-lt7+else-words-lt8}

pub returns-in_default : goal.returns-in_default
returns-in_default c =
    elim c.in_default.branch [
      | in_default-via-then-words-lt1 w ↦ search (rules, other_words)
      | in_default-via-else-words-lt1+else-words-lt2+else-words-lt3+else-words-lt4+else-words-lt5+else-words-lt6+else-words-lt7+else-words-lt8 w ↦ search (rules, other_words)
    ]
