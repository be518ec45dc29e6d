use Rattle.std.proofs.Common.{inl}
use Rattle.serde_amqp_item.specs.Wire.{four_bytes}
use Rattle.serde_amqp_read.specs.Reads.{faultless}
use Rattle.serde_amqp_de.specs.Names.{NamesText}
use Rattle.serde_amqp_de.proofs.Naming.{named_carried, names_text}
use Rattle.serde_amqp_de.proofs.borrow.Deserializer+SliceReader.lend_text32.Goals as goal

pub returns-in_err-bytes-clause-named : goal.returns-in_err-bytes-clause-named
returns-in_err-bytes-clause-named c = named_carried faultless _ _ _ (NamesText four_bytes c.args.self.now.reader.rest) c.from_residual.ensures.1 (λ n. inl n) c.in_err-bytes.ensures.refused

pub returns-in-Err-clause-named : goal.returns-in-Err-clause-named
returns-in-Err-clause-named c = names_text faultless four_bytes _ _ _ _ _ c.refuse.ensures.same c.in-Err.ensures.plain c.in-Err.ensures.refused c.in_ok-bytes.ensures.ok
