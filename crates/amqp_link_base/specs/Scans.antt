-- How far a scan has come.
use Rattle.std.specs.Prelude.{◌≡◌, ℕ, ◌-◌, ◌==◌, ◌&&◌, List, length, nat_lt, slice_index, if◌then◌else◌}
use Rattle.amqp_link_base.specs.declared.scan.Scan.{Scan}
use Rattle.amqp_link_base.specs.declared.scan.Matched.{Matched}
use Rattle.amqp_link_base.specs.declared.scan.Matched.TheVariants.{Nothing, Zero, Code}
use Rattle.amqp_link_base.specs.Starts.{is_code, place_at}

-- how much of a descriptor the last bytes are
abbrev pub matched_in : List ℕ → Matched
matched_in xs =
    if slice_index xs (length xs - 2) == 0 && is_code (slice_index xs (length xs - 1)) then Code
    else (if nat_lt 0 (length xs) && slice_index xs (length xs - 1) == 0 then Zero else Nothing)

-- the scan has come to the end of these bytes
pub record Scanned (s : Scan) (xs : List ℕ) : Type 0 where
  pub size : s.size ≡ length xs
  pub section : s.section ≡ (place_at xs (length xs)).section_number
  pub offset : s.offset ≡ (place_at xs (length xs)).section_offset
  pub matched : s.matched ≡ matched_in xs
