-- A disposition that settles one delivery at once does what any does.
use Rattle.std.proofs.Common.{◌≡◌, ◌≢◌, ◌⊎◌, inl, inr, ℕ, ◌==◌, ◌+◌, ◌*◌, ◌<◌, ◌^◌, ◌%◌, ◌-◌, Bool, true, false}
use Rattle.std.proofs.Common.{List, [], ◌∷◌, Option, Some, None}
use Rattle.std.proofs.Common.{is_some, nat_lt, if◌then◌else◌, refl, sym, ap, subst, ◌∙◌, arith}
use Rattle.std.specs.Prelude.{map}
use Rattle.std.specs.FinMap as tables
use Rattle.std.proofs.lemmas.Bool.{false≢true}
use Rattle.std.proofs.lemmas.Bool.Decides.{eqb_tells}
use Rattle.std.proofs.lemmas.Nat.{mod_low}
use Rattle.std.proofs.lemmas.List.Elements.{All-nil, All-push}
use Rattle.amqp_session_types.specs.declared.modes.Role.{Role}
use Rattle.amqp_session_types.specs.declared.modes.Role.TheVariants.{Receiver}
use Rattle.amqp_session_states.specs.declared.delivery_state.DeliveryState.{DeliveryState}
use Rattle.amqp_session_performatives.specs.declared.disposition.Disposition.{Disposition}
use Rattle.amqp_session_outgoing.specs.State as sending
use Rattle.amqp_session_outgoing.specs.Range.{ahead, range_of}
use Rattle.amqp_session_outgoing.specs.Table.{Table}
use Rattle.amqp_session_outgoing.specs.Touched.{Touches, number_at}
use Rattle.amqp_session_outgoing.specs.declared.delivery.Delivery.{Delivery}
use Rattle.amqp_session_outgoing.specs.declared.range.DeliveryRange.{DeliveryRange}
use Rattle.amqp_session_outgoing.proofs.Walking.{walked-none}
use Rattle.amqp_session_outgoing.proofs.Walking as numbers
use Rattle.amqp_session_core.specs.declared.batch.TransferFrame.{TransferFrame}
use Rattle.amqp_session_core.specs.declared.batch.BehindFrame.{BehindFrame}
use Rattle.amqp_session_core.specs.declared.dispositions.Touched.{Touched}
use Rattle.amqp_session_core.specs.Disposing.{ReachesOne, StandsIn, Walked}
use Rattle.amqp_session_core.specs.Echoes.{Reach, echo_of, runs_of, settled_by, without}
use Rattle.amqp_session_core.specs.Relay.{Relations}
use Rattle.amqp_session_core.specs.OneSettled.{IsAlone, SettlesFirst, SettlesOne, runs_if}
use Rattle.amqp_session_core.specs.State.{State}
use Rattle.amqp_session_core.specs.Steps.{table_of, with_table}
use Rattle.amqp_session_core.proofs.Settling.{taken-none}
use Rattle.amqp_session_core.proofs.Walking.{one_if, walked-more, walks-numbers}

-- a number is no way ahead of itself
not-ahead : (n : ℕ) → n < 2 ^ 32 → ahead n n ≡ 0
not-ahead n small =
    let whole : n + (2 ^ 32 - n) ≡ 2 ^ 32 = omega (arith, small) in
    ap (λ (x : ℕ). x % 2 ^ 32) whole ∙ mod_low 1 32 0 (omega arith)

pub alone-so : (first : ℕ) → first < 2 ^ 32 → IsAlone first None
alone-so first small = (
  small,
  ap (λ (k : ℕ). record { first = first; count = (if nat_lt k (2 ^ 31) then k + 1 else 0) }) (not-ahead first small),
)

pub alone-if : (first last : ℕ) → first < 2 ^ 32 → (last == first) ≡ true → IsAlone first (Some last)
alone-if first last small same = by (eqb_tells last first)
  where
    by : (((last == first) ≡ true) × (last ≡ first)) ⊎ (((last == first) ≡ false) × (last ≢ first))
        → IsAlone first (Some last)
    by (inl p) = subst (λ (l : ℕ). IsAlone first (Some l)) (sym p.1) (alone-so first small)
    by (inr p) = absurd (false≢true (sym p.0 ∙ same))

-- the range of one number touches its delivery
touches-one : (first : ℕ) (table : Table) → first < 2 ^ 32 → is_some (tables.get table first) ≡ true
    → Touches (record { first = first; count = 1 }) table (first ∷ [])
touches-one first table small some =
    let none : first + 0 ≡ 0 * 2 ^ 32 + first = omega arith in
    let at : number_at first 0 ≡ first = ap (λ (x : ℕ). x % 2 ^ 32) none ∙ mod_low 0 32 first small in
    subst (λ (n : ℕ). Touches (record { first = first; count = 1 }) table (n ∷ [])) at
    (numbers.walked-more first 0 table []
    (subst (λ (n : ℕ). is_some (tables.get table n) ≡ true) (sym at) some) (walked-none first table))

runs-one : (b : Bool) (n : ℕ) → runs_of (one_if b n) ≡ runs_if b n
runs-one true n = refl
runs-one false n = refl

settled-one : (b : Bool) (walk : List Reach) (n : ℕ) → b ≡ true → map (λ (r : Reach). r.number) walk ≡ n ∷ []
    → (table : Table) → without table (settled_by b walk) ≡ tables.remove table n
settled-one true walk n settled is table = ap (λ (ns : List ℕ). without table ns) is
settled-one false walk n settled is table = absurd cc

module _ {R A T D : Type 0} (gives : Relations R A T D) (s n : State R) (d : Disposition) where
  -- a delivery of this number isn't there
  pub none-taken : (outgoing : sending.State TransferFrame BehindFrame)
      → tables.get (s.outgoing).unsettled d.first ≡ None
      → outgoing ≡ record s.outgoing { unsettled = tables.remove (s.outgoing).unsettled d.first }
      → n ≡ record s { outgoing = outgoing } → n ≡ s
  none-taken outgoing none is becomes =
      becomes
      ∙ ap (λ (o : sending.State TransferFrame BehindFrame). record s { outgoing = o }) (is
      ∙ ap (λ (t : Table). record s.outgoing { unsettled = t }) (taken-none (s.outgoing).unsettled d.first none))

  module _ (first : SettlesFirst d) (delivery : Delivery) (is_echoed : Bool)
      (there : tables.get (s.outgoing).unsettled d.first ≡ Some delivery)
      (reaches : ReachesOne gives.disposes delivery d d.state s.links is_echoed n.links) where
    abbrev one : Touched
    one = record { number = d.first; handle = delivery.handle; tag = delivery.tag }

    table-so : table_of d.role s ≡ (s.outgoing).unsettled
    table-so = ap (λ (r : Role). table_of r s) first.role

    touched-so : Touches (range_of d.first d.last) (table_of d.role s) (d.first ∷ [])
    touched-so =
        subst (λ (r : DeliveryRange). Touches r (table_of d.role s) (d.first ∷ [])) (sym first.alone.1)
        (subst (λ (t : Table). Touches (record { first = d.first; count = 1 }) t (d.first ∷ [])) (sym table-so)
        (touches-one d.first (s.outgoing).unsettled first.alone.0 (ap is_some there)))

    stands : StandsIn (table_of d.role s) one
    stands = ap (λ (t : Table). tables.get t d.first) table-so ∙ there

    walked : Walked gives.disposes d (table_of d.role s) (d.first ∷ []) s.links (one_if is_echoed d.first) n.links
    walked =
        walked-more gives.disposes d (table_of d.role s) [] d.first s.links s.links n.links [] delivery is_echoed
        (record { walk = []; walked = refl; echoes_are = refl }) stands reaches

    becomes-so : n ≡ record s {
      links = n.links;
      outgoing = record s.outgoing { unsettled = tables.remove (s.outgoing).unsettled d.first };
    } → n ≡ with_table d.role (without (table_of d.role s) (settled_by d.settled walked.walk))
        (record s { links = n.links })
    becomes-so becomes =
        becomes
        ∙ ap (λ (t : Table). with_table Receiver t (record s { links = n.links }))
        (sym (settled-one d.settled walked.walk d.first first.settled
        (walks-numbers gives.disposes d (table_of d.role s) (d.first ∷ []) s.links n.links walked.walk walked.walked)
        (table_of d.role s) ∙ ap (λ (t : Table). tables.remove t d.first) table-so))
        ∙ ap (λ (r : Role). with_table r (without (table_of d.role s) (settled_by d.settled walked.walk))
        (record s { links = n.links })) (sym first.role)

    settles-one : n ≡ record s {
      links = n.links;
      outgoing = record s.outgoing { unsettled = tables.remove (s.outgoing).unsettled d.first };
    } → SettlesOne gives s d (record { delivery = one; is_echoed = is_echoed }) n
    settles-one becomes =
        record {
          is_settled = first.settled;
          touched = record {
            numbers = touched-so;
            deliveries = All-push (StandsIn (table_of d.role s)) [] one (All-nil (StandsIn (table_of d.role s))) stands;
          };
          taken = record {
            walk = walked.walk;
            stepped =
                record {
                  numbers = d.first ∷ [];
                  touched = touched-so;
                  walked = walked.walked;
                  echoes_are =
                      ap (λ (rs : List (ℕ × ℕ)). map (echo_of d) rs)
                      (sym (runs-one is_echoed d.first) ∙ ap runs_of walked.echoes_are);
                  becomes = becomes-so becomes;
                };
          };
          reaches = reaches;
          fields = ap (λ (x : State R). x.fields) becomes;
          waits = ap (λ (x : State R). (x.outgoing).queues) becomes;
        }

  -- the link was told a copy of the state
  pub copy-settles : SettlesFirst d → (delivery : Delivery) (is_echoed : Bool) (state : Option DeliveryState)
      → tables.get (s.outgoing).unsettled d.first ≡ Some delivery → state ≡ d.state
      → ReachesOne gives.disposes delivery d state s.links is_echoed n.links
      → n ≡ record s {
        links = n.links;
        outgoing = record s.outgoing { unsettled = tables.remove (s.outgoing).unsettled d.first };
      }
      → SettlesOne gives s d
      (record {
        delivery = record { number = d.first; handle = delivery.handle; tag = delivery.tag };
        is_echoed = is_echoed;
      })
      n
  copy-settles first delivery is_echoed state there same reaches becomes =
      settles-one first delivery is_echoed there
      (subst (λ (o : Option DeliveryState). ReachesOne gives.disposes delivery d o s.links is_echoed n.links) same
      reaches)
      becomes
