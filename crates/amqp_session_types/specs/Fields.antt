-- Fields: values of any type by their names (part 2, 2.8.13), and symbols of a field of several values (part 1, 1.4).
use Rattle.std.specs.Prelude.{ℕ, List, Option, map, bytes_eq}
use Rattle.serde_amqp_item.specs.Item.{Item, scalar, symbol, raw}
use Rattle.serde_amqp_de.specs.Takes.{several, multiple_taken, symbol_taken}
use Rattle.serde_amqp_de.specs.Kept.{raw_taken}
use Rattle.serde_amqp_values.specs.Items.{ordered_item}
use Rattle.serde_amqp_values.specs.MapTakes.{ordered_taken}

-- a map of symbols to values of any type
abbrev pub named_values_item : List (List ℕ × List ℕ) → Item
named_values_item = ordered_item bytes_eq (λ s. scalar (symbol s)) (λ v. raw v)

abbrev pub named_values_taken : Item → Option Item
named_values_taken = ordered_taken symbol_taken raw_taken

-- several symbols
abbrev pub symbols_item : List (List ℕ) → Item
symbols_item names = several (map (λ s. scalar (symbol s)) names)

abbrev pub symbols_taken : Item → Option Item
symbols_taken = multiple_taken symbol_taken
