-- The numbers that the owner of a link gives the messages that it was handed.
use Rattle.std.specs.Prelude.{ℕ, ◌==◌, Bool, false, List, [], ◌∷◌, Option, Some, None, if◌then◌else◌}
use Rattle.std.specs.Map.{set_value}
use Rattle.std.specs.Str.{bytes_eq}
use Rattle.amqp_link_receiver.specs.declared.entry.Entry.{Entry}
use Rattle.amqp_link_receiver.specs.declared.entry.Entry.TheVariants.{Half, Whole}
use Rattle.amqp_link_receiver.specs.Deliveries.{Entries, found}

-- the message with a tag, where it is there whole, bears this number from now on
abbrev pub named_at : Entries → List ℕ → ℕ → Option Entry → Entries
named_at entries tag message (Some (Whole m)) =
    set_value (bytes_eq tag) entries (Whole (record m { message = Some message }))
named_at entries tag message entry = entries

abbrev pub message_named : Entries → List ℕ → ℕ → Entries
message_named entries tag message = named_at entries tag message (found entries tag)

abbrev pub is_number : ℕ → Option ℕ → Bool
is_number message None = false
is_number message (Some own) = own == message

-- whether it is a message that bears this number
abbrev pub bears : ℕ → Entry → Bool
bears message (Whole m) = is_number message m.message
bears message (Half kept) = false

-- the tag of the first message that bears this number
abbrev pub tag_of : Entries → ℕ → Option (List ℕ)
tag_of [] message = None
tag_of (e ∷ es) message = if bears message e.1 then Some e.0 else tag_of es message
