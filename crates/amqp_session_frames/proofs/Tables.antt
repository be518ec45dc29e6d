-- The slab's sessions and the map of routes, as tables.
use Rattle.std.proofs.Common.{◌≡◌, ◌≢◌, ℕ, zero, suc, ◌+◌, ◌<◌, Bool, true, false, cond, List, [], ◌∷◌}
use Rattle.std.proofs.Common.{Option, Some, None, slice_index_or, refl, sym, ap, ◌∙◌, ◌==◌, ◌⊎◌, inl, inr, arith}
use Rattle.std.proofs.lemmas.Bool.{ne_eqb, eq-eqb}
use Rattle.std.proofs.lemmas.Bool.Decides.{eqb_tells}
use Rattle.std.specs.Cmp.{nat_cmp_total, unsigned_tied}
use Rattle.std.specs.Ordering.{nat_cmp, eq_by_cmp}
use Rattle.std.specs.FinMap as map
use Rattle.std.specs.FinMap.{find, get-from_entries, get-empty}
use Rattle.slab.specs.Slab.{Slab, get, entries, entries_from, Updates}
use Rattle.amqp_session_types.proofs.Tables.{get-put, get-take, same_tables, get-entries, entered, taken_out}
use Rattle.amqp_session_frames.specs.State.{Table}

same : (x : ℕ) → eq_by_cmp nat_cmp x x ≡ true
same x = unsigned_tied x x ∙ eq-eqb x x refl

apart : (x y : ℕ) → x ≢ y → eq_by_cmp nat_cmp x y ≡ false
apart x y ne = unsigned_tied x y ∙ ne_eqb x y ne

-- below the first key there is nothing
find_below : (slots : List (Option ℕ)) (first q : ℕ) → q < first → find nat_cmp q (entries_from first slots) ≡ None
find_below [] first q lt = refl
find_below (None ∷ rest) first q lt = find_below rest (first + 1) q (omega (arith, lt))
find_below (Some v ∷ rest) first q lt =
    ap (λ (b : Bool). cond b (Some v) (find nat_cmp q (entries_from (first + 1) rest))) (apart q first (λ e. omega (arith, lt, e)))
    ∙ find_below rest (first + 1) q (omega (arith, lt))

-- the entries from a key on have what the slots have
find_slot : (slots : List (Option ℕ)) (first q at : ℕ) → q ≡ first + at → find nat_cmp q (entries_from first slots) ≡ slice_index_or slots at None
find_slot [] first q at e = refl
find_slot (None ∷ rest) first q zero e = find_below rest (first + 1) q (omega (arith, e))
find_slot (Some v ∷ rest) first q zero e =
    ap (λ (b : Bool). cond b (Some v) (find nat_cmp q (entries_from (first + 1) rest))) (unsigned_tied q first ∙ eq-eqb q first (omega (arith, e)))
find_slot (None ∷ rest) first q (suc at) e = find_slot rest (first + 1) q at (omega (arith, e))
find_slot (Some v ∷ rest) first q (suc at) e =
    ap (λ (b : Bool). cond b (Some v) (find nat_cmp q (entries_from (first + 1) rest))) (apart q first (λ x. omega (arith, e, x)))
    ∙ find_slot rest (first + 1) q at (omega (arith, e))

pub get-none : (q : ℕ) → map.get {R = nat_cmp} (map.empty {X = ℕ}) q ≡ None
get-none q = get-empty nat_cmp q

-- the table of a slab
abbrev table_of : Slab ℕ → Table
table_of s = map.from_entries (entries s)

pub get-slab : (s : Slab ℕ) (q : ℕ) → map.get {R = nat_cmp} (map.from_entries (entries s)) q ≡ get s q
get-slab s q = get-from_entries nat_cmp_total (entries s) q ∙ find_slot s.slots 0 q q (omega arith)

module _ (old new : Slab ℕ) (key : ℕ) (slot : Option ℕ) (u : Updates old new key slot) where
  updated : (q : ℕ) → map.get (table_of new) q ≡ cond (q == key) slot (map.get (table_of old) q)
  updated q = get-slab new q ∙ by_key (eqb_tells q key)
    where
      by_key : ((q == key) ≡ true) × (q ≡ key) ⊎ ((q == key) ≡ false) × (q ≢ key) → get new q ≡ cond (q == key) slot (map.get (table_of old) q)
      by_key (inl p) = ap (get new) p.1 ∙ u.changed ∙ ap (λ (b : Bool). cond b slot (map.get (table_of old) q)) (sym p.0)
      by_key (inr p) = u.others q p.1 ∙ sym (get-slab old q) ∙ ap (λ (b : Bool). cond b slot (map.get (table_of old) q)) (sym p.0)

pub slab_inserted : (old new : Slab ℕ) (key v : ℕ) → Updates old new key (Some v) → map.from_entries {R = nat_cmp} (entries new) ≡ map.insert (map.from_entries (entries old)) key v
slab_inserted old new key v u = same_tables _ _ (λ q. updated old new key (Some v) u q ∙ sym (get-put (table_of old) key q v))

pub slab_removed : (old new : Slab ℕ) (key : ℕ) → Updates old new key None → map.from_entries {R = nat_cmp} (entries new) ≡ map.remove (map.from_entries (entries old)) key
slab_removed old new key u = same_tables _ _ (λ q. updated old new key None u q ∙ sym (get-take (table_of old) key q))

pub ruleset rules = (get-slab, slab_inserted, slab_removed, get-entries, entered, taken_out)
