-- What a disposition does (part 2, 2.7.6): which links it reaches, and which runs of deliveries are echoed.
use Rattle.std.specs.Prelude.{◌≡◌, ℕ, ◌+◌, ◌%◌, ◌^◌, ◌==◌, List, [], ◌∷◌, map, Bool, true, false, Option, Some, None}
use Rattle.std.specs.Prelude.{if◌then◌else◌, slice_index_or}
use Rattle.std.specs.FinMap as map
use Rattle.amqp_session_types.specs.declared.modes.Role.{Role}
use Rattle.amqp_session_types.specs.declared.modes.Role.TheVariants.{Sender, Receiver}
use Rattle.amqp_session_states.specs.declared.delivery_state.DeliveryState.{DeliveryState}
use Rattle.amqp_session_performatives.specs.declared.disposition.Disposition.{Disposition}
use Rattle.amqp_session_outgoing.specs.Table.{Table}
use Rattle.amqp_session_core.specs.State.{StepsAt}

-- the other end of a link
abbrev pub opposite : Role → Role
opposite Sender = Receiver
opposite Receiver = Sender

-- a delivery that a disposition reached: its number, its link and its tag, and whether the link wants it echoed. Where
-- its link is gone, nobody does
pub record Reach : Type 0 where
  pub number : ℕ
  pub handle : ℕ
  pub tag : List ℕ
  pub live : Bool
  pub echo : Bool

-- the numbers of those that are echoed
abbrev pub echoed : List Reach → List ℕ
echoed [] = []
echoed (r ∷ walk) = if r.echo then r.number ∷ echoed walk else echoed walk

-- the numbers of those that are settled: all where the peer settled them, else those that are echoed as settled
abbrev pub settled_by : Bool → List Reach → List ℕ
settled_by true walk = map (λ r. r.number) walk
settled_by false walk = echoed walk

-- a number goes in front of a run that begins with the next one
abbrev pub before_run : ℕ → List (ℕ × ℕ) → List (ℕ × ℕ)
before_run n [] = (n, n) ∷ []
before_run n (r ∷ runs) = if (n + 1) % 2 ^ 32 == r.0 then (n, r.1) ∷ runs else (n, n) ∷ r ∷ runs

-- the runs of consecutive numbers, each as its first and its last (part 2, 2.8.10)
abbrev pub runs_of : List ℕ → List (ℕ × ℕ)
runs_of [] = []
runs_of (n ∷ ns) = before_run n (runs_of ns)

-- a run goes back with the same state, as settled
abbrev pub echo_of : Disposition → ℕ × ℕ → Disposition
echo_of d run =
    record {
      role = opposite d.role;
      first = run.0;
      last = Some run.1;
      settled = true;
      state = d.state;
      batchable = false;
    }

abbrev pub echoes_of : Disposition → List Reach → List Disposition
echoes_of d walk = map (echo_of d) (runs_of (echoed walk))

module _ {R : Type 0} (gives : R → List ℕ → Role → Bool → Option DeliveryState → Bool → R → Type 0)
    (d : Disposition) where
  -- a delivery reaches its link, if that is there
  abbrev pub ReachesAt : List (Option R) → Option R → Reach → List (Option R) → Type 0
  ReachesAt old None r new = (r.live ≡ false) × (r.echo ≡ false) × (new ≡ old)
  ReachesAt old (Some link) r new =
      (r.live ≡ true) × StepsAt (λ before after. gives before r.tag d.role d.settled d.state r.echo after) old r.handle
      new

  -- the deliveries with these numbers reach their links, one after another
  abbrev pub Walks : Table → List ℕ → List (Option R) → List Reach → List (Option R) → Type 0
  Walks table [] old [] new = new ≡ old
  Walks table [] old (r ∷ walk) new = ⊥
  Walks table (n ∷ ns) old [] new = ⊥
  Walks table (n ∷ ns) old (r ∷ walk) new =
      (mid : List (Option R)) × (r.number ≡ n)
      × (map.get table n ≡ Some (record { handle = record { 0 = r.handle }; tag = r.tag }))
      × ReachesAt old (slice_index_or old r.handle None) r mid × Walks table ns mid walk new

-- these are no longer unsettled
abbrev pub without : Table → List ℕ → Table
without table [] = table
without table (n ∷ ns) = without (map.remove table n) ns
