-- What was read and written anew.
use Rattle.std.proofs.Common.{◌≡◌, ℕ, List, [], ◌++◌, length, Option, Some, None, sym, ◌∙◌, ap}
use Rattle.serde_amqp_item.specs.Item.{Item}
use Rattle.serde_amqp_item.specs.Wire.{Wire}
use Rattle.serde_amqp_item.specs.Canon.{canon}
use Rattle.amqp_trace.specs.Reread.{IsReread, NotReread}

-- what stands in front was read, and written
pub reread : (take : Item → Option Item) (bytes rest text : List ℕ) (left : ℕ) (value written : Item) →
    ((x : Item) × (front : List ℕ) × Wire x None front × (bytes ≡ front ++ rest) × (take x ≡ Some value)) → written ≡ value → canon written ≡ Some text → left ≡ length rest → IsReread take bytes text left
reread take bytes rest text left value written (x, front, w, e, t) same c l =
    record { item = x; value = value; front = front; behind = rest; whole = e; form = w; taken = t; written = ap canon (sym same) ∙ c; rest = l }

-- what isn't read isn't written
pub unread : (take : Item → Option Item) (bytes : List ℕ) → ((x : Item) (front more : List ℕ) → Wire x None front → bytes ≡ front ++ more → take x ≡ None) → NotReread take bytes
unread take bytes none = record { none = λ item value front behind w e t. let u : None ≡ Some value = sym (none item front behind w e) ∙ t in absurd cc }
