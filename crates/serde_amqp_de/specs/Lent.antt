-- Values that are lent from a slice.
use Rattle.std.specs.Prelude.{◌≡◌, ◌≢◌, [], None, ◌+◌, ◌<◌, ◌^◌, length}
use Rattle.serde_amqp_item.specs.declared.error.Error.{Error}
use Rattle.serde_amqp_item.specs.declared.error.Error.TheVariants.{Memory}
use Rattle.serde_amqp_read.specs.Reads.{Source}
use Rattle.serde_amqp_de.specs.Reads.{Reading, At}

-- the bytes that are left of a slice, and how many were read
abbrev pub slice_at : Reading Source → At
slice_at d = record { rest = d.reader.rest; pos = d.pos }

-- a slice's reader that has failed has nothing left
abbrev pub SliceFailed : Reading Source → Type 0
SliceFailed d = (d.reader.rest ≡ []) × (d.element ≡ None)

-- the error is not want of memory, where a number holds the bytes that were read and those that are left
pub record NoWant (old : At) (e : Error) : Type 0 where
  pub plain : old.pos + length old.rest < 2 ^ 64 → e ≢ Memory
