use Rattle.std.proofs.Common.{inl}
use Rattle.serde_amqp_item.specs.Wire.{one_byte}
use Rattle.serde_amqp_de.specs.Names.{NamesText}
use Rattle.serde_amqp_de.proofs.Naming.{named_carried, names_text}
use Rattle.serde_amqp_de.proofs.deserializer.Deserializer.text8.Goals as goal

pub returns-in_err-bytes-clause-named : goal.returns-in_err-bytes-clause-named
returns-in_err-bytes-clause-named g c = named_carried g.R.Read.faulty _ _ _ (NamesText one_byte (g.R.Read.rest c.args.self.now.reader)) c.from_residual.ensures.1 (λ n. inl n) c.in_err-bytes.ensures.refused

pub returns-in-Err-clause-named : goal.returns-in-Err-clause-named
returns-in-Err-clause-named g c = names_text g.R.Read.faulty one_byte _ _ _ _ _ c.refuse.ensures.same c.in-Err.ensures.named c.in-Err.ensures.refused c.in_ok-bytes.ensures.ok
