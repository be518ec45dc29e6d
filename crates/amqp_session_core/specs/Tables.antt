-- The own handles of links by the handles that the peer gave them (part 2, 2.6.2).
use Rattle.std.specs.Prelude.{ℕ, Bool, false, ◌≡◌, ◌==◌, Option, Some, None, if◌then◌else◌}
use Rattle.std.specs.Coded.{Coded, coded_ℕ}
use Rattle.std.specs.Ordering.{nat_cmp}
use Rattle.std.specs.FinMap as map

abbrev pub RouteTable : Type 0
RouteTable = map.FinMap nat_cmp ℕ

abbrev pub route_code : Coded RouteTable
route_code = map.code coded_ℕ coded_ℕ

-- an own handle, where it is another than this
abbrev pub unless_to : ℕ → Option ℕ → Option ℕ
unless_to link None = None
unless_to link (Some to) = if to == link then None else Some to

-- a route leads to this link
abbrev pub is_to : ℕ → Option ℕ → Bool
is_to link None = false
is_to link (Some to) = to == link

-- the handle that is noted for a link leads to it
abbrev pub leads_by : RouteTable → ℕ → Option ℕ → Bool
leads_by handles link None = false
leads_by handles link (Some handle) = is_to link (map.get handles handle)

-- whether a handle leads to the link, by the one that is noted for it: no other does where no two led to one link once
abbrev pub leads : RouteTable → RouteTable → ℕ → Bool
leads handles noted link = leads_by handles link (map.get noted link)

-- each handle of the peer that leads to a link is the one that is noted for the link, unless several led to one once
abbrev pub IsSole : RouteTable → RouteTable → Bool → Type 0
IsSole handles noted several =
    several ≡ false → (handle link : ℕ) → map.get handles handle ≡ Some link → map.get noted link ≡ Some handle
