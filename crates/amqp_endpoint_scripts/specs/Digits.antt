-- Numbers as a script writes them.
use Rattle.std.specs.Prelude.{ℕ, ◌==◌, ◌&&◌, not, List, length, Option, Some, None, if◌then◌else◌, nat_lt}
use Rattle.std.specs.Str.{all_ascii_digits}
use Rattle.std.specs.Str.Parse.{digits_value}

-- decimal digits, and nothing else, of a number under the limit
abbrev pub number_under : ℕ → List ℕ → Option ℕ
number_under limit word =
    if all_ascii_digits word && not (length word == 0) && nat_lt (digits_value 10 word) limit
    then Some (digits_value 10 word) else None
