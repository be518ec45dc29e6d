-- Deliveries that take more than one transfer (part 2, 2.6.14).
use Rattle.std.specs.Prelude.{ℕ, Bool, true, false, List, [], ◌++◌, Option, Some, None, if◌then◌else◌, nat_eq}
use Rattle.std.specs.Ordering.{nat_cmp, ordering_then}
use Rattle.std.specs.BTreeMap.{get}
use Rattle.amqp_trace.specs.declared.deliveries.Deliveries.{Deliveries}
use Rattle.amqp_trace.specs.declared.deliveries.Delivery.{Delivery}
use Rattle.amqp_trace.specs.declared.deliveries.Part.{Part}

-- whether a transfer with this delivery-id carries a part of a delivery with that one (part 2, 2.7.5)
abbrev pub goes_on : Option ℕ → Option ℕ → Bool
goes_on own None = true
goes_on None (Some id) = false
goes_on (Some own) (Some id) = nat_eq own id

-- the bytes that came of the delivery that such a transfer carries a part of
abbrev pub came : Option Delivery → Option ℕ → List ℕ
came None id = []
came (Some d) id = if goes_on d.delivery_id id then d.payload.items else []

-- the delivery-id of that delivery
abbrev pub named : Option Delivery → Option ℕ → Option ℕ
named None id = id
named (Some d) id = if goes_on d.delivery_id id then d.delivery_id else id

-- a delivery as it is seen: its delivery-id, and the bytes that came
abbrev pub parts_of : Delivery → Option ℕ × List ℕ
parts_of d = (d.delivery_id, d.payload.items)

-- the delivery that is under way on a channel at a handle
abbrev pub at : Deliveries → ℕ → ℕ → Option Delivery
at d channel handle = get (λ x y. ordering_then (nat_cmp x.0 y.0) (nat_cmp x.1 y.1)) d.under_way (channel, handle)

-- the payload of the delivery that a part makes whole: it isn't aborted, and no other part follows
abbrev pub whole : Option Delivery → Part → List ℕ → Option (List ℕ)
whole begun part bytes =
    if part.aborted then None else if part.more then None else Some (came begun part.delivery_id ++ bytes)

-- the delivery that is under way behind a part: the same with the part's bytes, where another part follows
abbrev pub behind : Option Delivery → Part → List ℕ → Option (Option ℕ × List ℕ)
behind begun part bytes =
    if part.aborted then None
    else if part.more then Some (named begun part.delivery_id, came begun part.delivery_id ++ bytes) else None
