-- How a descriptor is met byte by byte.
use Rattle.std.specs.Prelude.{ℕ, ◌==◌, Bool, false, if◌then◌else◌}
use Rattle.amqp_link_base.specs.declared.scan.Matched.{Matched}
use Rattle.amqp_link_base.specs.declared.scan.Matched.TheVariants.{Nothing, Zero, Code}
use Rattle.amqp_link_base.specs.Starts.{is_code, is_section}

-- the byte completes a descriptor
abbrev pub is_ended : Matched → ℕ → Bool
is_ended Code byte = is_section byte
is_ended _ byte = false

abbrev pub code_or_nothing : Matched → ℕ → Matched
code_or_nothing Zero byte = if is_code byte then Code else Nothing
code_or_nothing _ byte = Nothing

-- what the last bytes are once this one has come
abbrev pub followed : Matched → ℕ → Matched
followed m byte = if byte == 0 then Zero else code_or_nothing m byte
