-- Where the sections of a message start, and places in it: part 3, 3.2 and 3.4.1.
use Rattle.std.specs.Prelude.{ℕ, ◌+◌, ◌-◌, ◌==◌, ◌&&◌, ◌||◌, Bool, List, [], ◌∷◌, length, Option, Some, None, nat_le}
use Rattle.std.specs.Prelude.{slice_index, slice_get, if◌then◌else◌, filter, take}
use Rattle.std.specs.List.{range_with_len}
use Rattle.amqp_session_states.specs.declared.received.Received.{Received}

-- the constructor of a descriptor's code: a small unsigned long, or one of eight bytes
abbrev pub is_code : ℕ → Bool
is_code b = b == 0x53 || b == 0x80

-- the code of a section, from the header to the footer
abbrev pub is_section : ℕ → Bool
is_section c = nat_le 0x70 c && nat_le c 0x78

-- the descriptor of a section: 00 53 or 00 80, then 70 to 78
abbrev pub is_descriptor : ℕ → ℕ → ℕ → Bool
is_descriptor a b c = a == 0 && is_code b && is_section c

-- such a descriptor stands at the index
abbrev pub stands_at : List ℕ → ℕ → Bool
stands_at payload i = is_descriptor (slice_index payload i) (slice_index payload (i + 1)) (slice_index payload (i + 2))

-- the starts in the first n bytes: 0, and each later index at which a descriptor stands within them
abbrev pub starts : List ℕ → ℕ → List ℕ
starts payload n = 0 ∷ filter (λ i. stands_at payload i) (range_with_len 1 (n - 3))

-- the last of them, or this number of none
abbrev pub last_or : List ℕ → ℕ → ℕ
last_or [] n = n
last_or (x ∷ xs) n = last_or xs x

-- how many sections start after the first in the first n bytes, and how far n is behind the last start
abbrev pub place_at : List ℕ → ℕ → Received
place_at payload n =
    record { section_number = length (starts payload n) - 1; section_offset = n - last_or (starts payload n) 0 }

-- the start of a section, counted from 0
abbrev pub start_of : List ℕ → ℕ → Option ℕ
start_of payload number = slice_get (starts payload (length payload)) number

-- so far behind a start, where that is within the payload
abbrev pub behind : List ℕ → ℕ → Option ℕ → Option ℕ
behind payload offset None = None
behind payload offset (Some start) = if nat_le (start + offset) (length payload) then Some (start + offset) else None

-- where a place stands in a payload
abbrev pub read_at : List ℕ → Received → Option ℕ
read_at payload place = behind payload place.section_offset (start_of payload place.section_number)

abbrev pub front_to : List ℕ → Option ℕ → List ℕ
front_to payload None = payload
front_to payload (Some n) = take n payload

-- the bytes before a place, or all of them where it can't be read
abbrev pub kept_till : List ℕ → Received → List ℕ
kept_till payload place = front_to payload (read_at payload place)
