use Rattle.std.proofs.Common.{ℕ, List, sym, subst, rules}
use Rattle.std.proofs.lemmas.Nat.{be_bytes_8}
use Rattle.serde_amqp_de.specs.Reads.{Moves, at_of}
use Rattle.serde_amqp_de.proofs.deserializer.Deserializer.next_u64.Goals as goal

pub returns-clause-ok : goal.returns-clause-ok
returns-clause-ok g c =
    let back = be_bytes_8 c.in_ok-bytes.bytes c.from_be_bytes.result c.in_ok-bytes.ensures.len (search rules) c.from_be_bytes.ensures in
    subst (λ (bs : List ℕ). Moves (at_of g.R.Read.rest c.args.self.now) (at_of g.R.Read.rest c.next_bytes.new.self) bs) (sym back) c.in_ok-bytes.ensures.ok
