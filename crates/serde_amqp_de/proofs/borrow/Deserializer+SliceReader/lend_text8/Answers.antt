use Rattle.std.proofs.Common.{inl}
use Rattle.serde_amqp_item.specs.Wire.{one_byte}
use Rattle.serde_amqp_read.specs.Reads.{faultless}
use Rattle.serde_amqp_de.specs.Names.{NamesText}
use Rattle.serde_amqp_de.proofs.Naming.{named_carried, names_text}
use Rattle.serde_amqp_de.proofs.borrow.Deserializer+SliceReader.lend_text8.Goals as goal

pub returns-in_err-bytes-clause-named : goal.returns-in_err-bytes-clause-named
returns-in_err-bytes-clause-named c = named_carried faultless _ _ _ (NamesText one_byte c.args.self.now.reader.rest) c.from_residual.ensures.1 (λ n. inl n) c.in_err-bytes.ensures.refused

pub returns-in-Err-clause-named : goal.returns-in-Err-clause-named
returns-in-Err-clause-named c = names_text faultless one_byte _ _ _ _ _ c.refuse.ensures.same c.in-Err.ensures.plain c.in-Err.ensures.refused c.in_ok-bytes.ensures.ok
