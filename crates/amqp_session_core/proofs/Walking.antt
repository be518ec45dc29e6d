-- A walk over deliveries goes on by one.
use Rattle.std.proofs.Common.{◌≡◌, ℕ, ◌+◌, ◌≤◌, ◌<◌, take, get_or, All, IfSome, Bool, true, false, List, [], ◌∷◌, ◌++◌, length, Option, Some, None, is_some, if◌then◌else◌, refl, sym, ap, subst, ◌∙◌, arith}
use Rattle.std.specs.Prelude.{map, slice_index_or}
use Rattle.std.proofs.lemmas.Bool.{false≢true}
use Rattle.std.proofs.lemmas.List.{take_more, append-nil, length-append}
use Rattle.std.proofs.lemmas.List.Elements.{All-get_or}
use Rattle.std.specs.FinMap as tables
use Rattle.slab.specs.Slab.{Slab}
use Rattle.amqp_session_types.specs.declared.modes.Role.{Role}
use Rattle.amqp_session_states.specs.declared.delivery_state.DeliveryState.{DeliveryState}
use Rattle.amqp_session_performatives.specs.declared.disposition.Disposition.{Disposition}
use Rattle.amqp_session_outgoing.specs.Table.{Table, IsUnsettled}
use Rattle.amqp_session_outgoing.specs.declared.delivery.Delivery.{Delivery}
use Rattle.amqp_session_core.specs.Echoes.{Reach, Walks, ReachesAt, echoed}
use Rattle.amqp_session_core.specs.Disposing.{Walked, ReachesOneAt, ReachesOne}

abbrev pub one_if : Bool → ℕ → List ℕ
one_if b n = if b then n ∷ [] else []

if-append : (b : Bool) (n : ℕ) (xs ys : List ℕ) → (if b then n ∷ (xs ++ ys) else xs ++ ys) ≡ (if b then n ∷ xs else xs) ++ ys
if-append true n xs ys = refl
if-append false n xs ys = refl

pub echoed-more : (walk : List Reach) (r : Reach) → echoed (walk ++ r ∷ []) ≡ echoed walk ++ one_if r.echo r.number
echoed-more [] r = refl
echoed-more (s ∷ walk) r =
    ap (λ (xs : List ℕ). if s.echo then s.number ∷ xs else xs) (echoed-more walk r) ∙ if-append s.echo s.number (echoed walk) (one_if r.echo r.number)

-- a number is among those that are echoed, or not
pub one-more : (b : Bool) (n : ℕ) (old new : List ℕ) → b ≡ true → new ≡ old ++ n ∷ [] → new ≡ old ++ one_if b n
one-more b n old new e is = is ∙ ap (λ (x : Bool). old ++ one_if x n) (sym e)

pub one-longer : (n : ℕ) (old new : List ℕ) → new ≡ old ++ n ∷ [] → length new ≡ length old + 1
one-longer n old new is = ap (λ (xs : List ℕ). length xs) is ∙ length-append old (n ∷ [])

pub no-more : (b : Bool) (n : ℕ) (old new : List ℕ) → b ≡ false → new ≡ old → new ≡ old ++ one_if b n
no-more b n old new e is = is ∙ sym (append-nil old) ∙ ap (λ (x : Bool). old ++ one_if x n) (sym e)

-- but for its links a slab stays
pub rest-stays : {R : Type 0} (old mid new : Slab R) → mid ≡ record old { slots = mid.slots } → new ≡ record mid { slots = new.slots } → new ≡ record old { slots = new.slots }
rest-stays old mid new before behind = behind ∙ ap (λ (s : Slab _). record s { slots = new.slots }) before

if-bound : (b : Bool) (n k : ℕ) (xs : List ℕ) → length xs ≤ k → length (if b then n ∷ xs else xs) ≤ k + 1
if-bound true n k xs le = omega arith
if-bound false n k xs le = omega arith

module _ {R : Type 0} (gives : R → List ℕ → Role → Bool → Option DeliveryState → Bool → R → Type 0) (d : Disposition) where
  walks-more : (table : Table) (ns : List ℕ) (n : ℕ) (old mid new : List (Option R)) (walk : List Reach) (r : Reach)
      → Walks gives d table ns old walk mid → r.number ≡ n → tables.get table n ≡ Some (record { handle = record { 0 = r.handle }; tag = r.tag })
      → ReachesAt gives d mid (slice_index_or mid r.handle None) r new → Walks gives d table (ns ++ n ∷ []) old (walk ++ r ∷ []) new
  walks-more table [] n old mid new [] r w is at reaches =
      (new, is, at, subst (λ (x : List (Option R)). ReachesAt gives d x (slice_index_or x r.handle None) r new) w reaches, refl)
  walks-more table [] n old mid new (s ∷ walk) r w is at reaches = absurd w
  walks-more table (m ∷ ns) n old mid new [] r w is at reaches = absurd w
  walks-more table (m ∷ ns) n old mid new (s ∷ walk) r w is at reaches =
      (w.0, w.1, w.2, w.3, walks-more table ns n w.0 mid new walk r w.4 is at reaches)

  -- the numbers of a walk
  pub walks-numbers : (table : Table) (ns : List ℕ) (old new : List (Option R)) (walk : List Reach) → Walks gives d table ns old walk new → map (λ r. r.number) walk ≡ ns
  walks-numbers table [] old new [] w = refl
  walks-numbers table [] old new (r ∷ walk) w = absurd w
  walks-numbers table (n ∷ ns) old new [] w = absurd w
  walks-numbers table (n ∷ ns) old new (r ∷ walk) w =
      ap (λ (x : ℕ). x ∷ map (λ (r : Reach). r.number) walk) w.1 ∙ ap (λ (xs : List ℕ). n ∷ xs) (walks-numbers table ns w.0 new walk w.4)

  echoed-bound : (table : Table) (ns : List ℕ) (old new : List (Option R)) (walk : List Reach) → Walks gives d table ns old walk new → length (echoed walk) ≤ length ns
  echoed-bound table [] old new [] w = omega arith
  echoed-bound table [] old new (r ∷ walk) w = absurd w
  echoed-bound table (n ∷ ns) old new [] w = absurd w
  echoed-bound table (n ∷ ns) old new (r ∷ walk) w =
      let more : length (if r.echo then r.number ∷ echoed walk else echoed walk) ≤ length ns + 1 = if-bound r.echo r.number (length ns) (echoed walk) (echoed-bound table ns w.0 new walk w.4) in
      omega (arith, more)

  -- no more are echoed than were reached
  pub walked-bound : (table : Table) (ns : List ℕ) (old new : List (Option R)) (echoes : List ℕ) → Walked gives d table ns old echoes new → length echoes ≤ length ns
  walked-bound table ns old new echoes w =
      subst (λ (xs : List ℕ). length xs ≤ length ns) (sym w.echoes_are) (echoed-bound table ns old new w.walk w.walked)

  pub walked-none : (table : Table) (links : List (Option R)) → Walked gives d table [] links [] links
  walked-none table links = record { walk = []; walked = refl; echoes_are = refl }

  reach-of : Delivery → ℕ → Option R → Bool → Reach
  reach-of delivery n slot echo = record { number = n; handle = (delivery.handle).0; tag = delivery.tag; live = is_some slot; echo = echo }

  reaches : (delivery : Delivery) (n : ℕ) (old new : List (Option R)) (echo : Bool) (slot : Option R) → ReachesOneAt gives slot delivery d d.state old echo new
      → ReachesAt gives d old slot (reach-of delivery n slot echo) new
  unfolding reach-of
  reaches delivery n old new echo None r = (refl, r.0, r.1)
  reaches delivery n old new echo (Some link) r = (refl, r)

  -- one more delivery is reached
  pub walked-more : (table : Table) (ns : List ℕ) (n : ℕ) (old mid new : List (Option R)) (echoes : List ℕ) (delivery : Delivery) (echo : Bool)
      → Walked gives d table ns old echoes mid → tables.get table n ≡ Some delivery → ReachesOne gives delivery d d.state mid echo new
      → Walked gives d table (ns ++ n ∷ []) old (echoes ++ one_if echo n) new
  unfolding reach-of
  walked-more table ns n old mid new echoes delivery echo w at r =
      let slot : Option R = slice_index_or mid (delivery.handle).0 None in
      let reach : Reach = reach-of delivery n slot echo in
      record {
        walk = w.walk ++ reach ∷ [];
        walked = walks-more table ns n old mid new w.walk reach w.walked refl at (reaches delivery n mid new echo slot r);
        echoes_are = ap (λ (xs : List ℕ). xs ++ one_if echo n) w.echoes_are ∙ sym (echoed-more w.walk reach);
      }

  -- a loop over numbers goes on by one
  pub walked-next : (table : Table) (ns : List ℕ) (i : ℕ) (old mid new : List (Option R)) (echoes more : List ℕ) (delivery : Option Delivery) (state : Option DeliveryState) (echo : Bool)
      → i < length ns → All (λ n. IsUnsettled table n) ns → delivery ≡ tables.get table (get_or ns i 0) → state ≡ d.state → more ≡ echoes ++ one_if echo (get_or ns i 0)
      → Walked gives d table (take i ns) old echoes mid → IfSome delivery (λ x. ReachesOne gives x d state mid echo new)
      → Walked gives d table (take (i + 1) ns) old more new
  walked-next table ns i old mid new echoes more None state echo lt there is same pushed w step =
      absurd (false≢true (ap is_some is ∙ All-get_or (λ n. IsUnsettled table n) ns i 0 lt there))
  walked-next table ns i old mid new echoes more (Some delivery) state echo lt there is same pushed w step =
      subst (λ (xs : List ℕ). Walked gives d table (take (i + 1) ns) old xs new) (sym pushed)
      (subst (λ (xs : List ℕ). Walked gives d table xs old (echoes ++ one_if echo (get_or ns i 0)) new) (sym (take_more ns i 0 lt))
      (walked-more table (take i ns) (get_or ns i 0) old mid new echoes delivery echo w (sym is)
      (subst (λ (s : Option DeliveryState). ReachesOne gives delivery d s mid echo new) same step)))
