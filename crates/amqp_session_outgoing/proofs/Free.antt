-- Delivery numbers are given once.
use Rattle.std.proofs.Common.{◌≡◌, ◌≢◌, ℕ, ◌+◌, ◌-◌, ◌<◌, ◌≤◌, ◌%◌, ◌^◌, List, [], ◌∷◌, ◌++◌, refl, sym, ◌∙◌, ap, subst, arith, Bool, true, false, cond, not, Option, Some, None, ◌⊎◌, inl, inr}
use Rattle.std.specs.Prelude.{if◌then◌else◌}
use Rattle.std.proofs.Math.Nat.{mod-add-mod, mod-eq_of_lt}
use Rattle.std.specs.FinMap as map
use Rattle.amqp_session_types.specs.declared.handles.OutputHandle.{OutputHandle}
use Rattle.amqp_session_outgoing.specs.Table.{Table, unless_of}
use Rattle.amqp_session_outgoing.specs.declared.delivery.Delivery.{Delivery}
use Rattle.amqp_session_outgoing.specs.Outside.{names, outside}
use Rattle.amqp_session_outgoing.specs.declared.range.DeliveryRange.{DeliveryRange}
use Rattle.amqp_session_outgoing.proofs.Lacking.{get-outside}
use Rattle.amqp_session_types.proofs.Tables.{get-put-other, get-take-none}
use Rattle.amqp_session_outgoing.specs.Frames.{is_first, first_count, firsts_of}
use Rattle.amqp_session_outgoing.specs.Queues.{Queues, firsts_in}
use Rattle.amqp_session_outgoing.specs.State.{State, Leaves, Sends, with_batch, with_window, registered}
use Rattle.amqp_session_outgoing.specs.History.{Act, Step, History, TakesWindow, SetsWindow, Accepts, Refuses}
use Rattle.amqp_session_outgoing.specs.History.{Follows, Reserves, Settles, SettlesRange, Forgets, Fails, IsFree}
use Rattle.amqp_session_outgoing.specs.History.{HasFreeNumbers}
use Rattle.amqp_session_outgoing.specs.Told.{GivesFree, LeavesIn, opened}
use Rattle.amqp_session_outgoing.specs.declared.frames.Part.{Part}
use Rattle.amqp_session_outgoing.specs.declared.frames.Part.TheVariants.{Untagged, Settled, Unsettled, Continuation}
use Rattle.amqp_session_outgoing.specs.declared.frames.Outbound.{Outbound}
use Rattle.amqp_session_outgoing.specs.declared.frames.Sent.{Sent}
use Rattle.amqp_session_outgoing.proofs.Numbering.{firsts-joined, firsts-followed, firsts-turn}

-- a number and one that comes later, but less than a round later, differ
later : (n c : ℕ) → n < 2 ^ 32 → 0 < c → c < 2 ^ 32 → (n + c) % 2 ^ 32 ≢ n
later n c small some less = λ e. omega (arith, e)

-- a table has nothing under the next numbers
pub record FreeFrom (table : Table) (next count : ℕ) : Type 0 where
  pub small : next < 2 ^ 32
  pub free : (k : ℕ) → k < count → (k < 2 ^ 32) × (map.get table ((next + k) % 2 ^ 32) ≡ None)

shifted : (next k : ℕ) → (((next + 1) % 2 ^ 32) + k) % 2 ^ 32 ≡ (next + (k + 1)) % 2 ^ 32
shifted next k = let e : (next + 1) + k ≡ next + (k + 1) = omega arith in mod-add-mod (next + 1) (2 ^ 32) k ∙ ap (λ (n : ℕ). n % 2 ^ 32) e

first-free : (table : Table) (next count : ℕ) → FreeFrom table next count → 0 < count → map.get table next ≡ None
first-free table next count f some =
    let e : next + 0 ≡ next = omega arith in
    subst (λ (n : ℕ). map.get table n ≡ None) (ap (λ (n : ℕ). n % 2 ^ 32) e ∙ mod-eq_of_lt f.small) (f.free 0 some).1

small-next : (next : ℕ) → (next + 1) % 2 ^ 32 < 2 ^ 32
small-next next = omega arith

-- the first of the numbers is given
given : (table : Table) (next count rest : ℕ) → FreeFrom table next count → rest + 1 ≡ count → FreeFrom table ((next + 1) % 2 ^ 32) rest
given table next count rest f e = record {
  small = small-next next;
  free = λ k lt.
      let old = f.free (k + 1) (omega (arith, e, lt)) in
      (omega (arith, old.0), subst (λ (n : ℕ). map.get table n ≡ None) (sym (shifted next k)) old.1);
}

kept : (table : Table) (next count rest : ℕ) (d : Delivery) → FreeFrom table next count → rest + 1 ≡ count → FreeFrom (map.insert table next d) ((next + 1) % 2 ^ 32) rest
kept table next count rest d f e = record {
  small = small-next next;
  free = λ k lt.
      let old = f.free (k + 1) (omega (arith, e, lt)) in (
        omega (arith, old.0),
        subst (λ (n : ℕ). map.get (map.insert table next d) n ≡ None) (sym (shifted next k))
            (get-put-other table next ((next + (k + 1)) % 2 ^ 32) d (later next (k + 1) f.small (omega arith) old.0) ∙ old.1),
      );
}

registers : (part : Part) (table : Table) (next count rest : ℕ) (handle : OutputHandle) → FreeFrom table next count → rest + first_count part ≡ count
    → FreeFrom (registered table next handle part) (if is_first part then (next + 1) % 2 ^ 32 else next) rest
registers Continuation table next count rest handle f e = let same : count ≡ rest = omega (arith, e) in subst (λ (n : ℕ). FreeFrom table next n) same f
registers Untagged table next count rest handle f e = given table next count rest f e
registers Settled table next count rest handle f e = given table next count rest f e
registers (Unsettled tag) table next count rest handle f e = kept table next count rest (record { handle = handle; tag = tag }) f e

none-outside : (range : DeliveryRange) (table : Table) (n : ℕ) → map.get table n ≡ None → map.get (outside range table) n ≡ None
none-outside range table n e = get-outside range table n ∙ by (not (names range n)) (map.get table n) e
  where
    by : (b : Bool) (o : Option Delivery) → o ≡ None → cond b o None ≡ None
    by true o e = e
    by false o e = refl

module _ {T F : Type 0} where
  -- the numbers that waiting deliveries will get are free
  abbrev pub WaitsFree : State T F → Type 0
  WaitsFree s = FreeFrom s.unsettled s.next_delivery_number (firsts_in s.queues)

  gives : (old : State T F) (part : Part) → WaitsFree old → first_count part ≤ firsts_in old.queues → GivesFree old (if is_first part then Some old.next_delivery_number else None)
  gives old Continuation f le = tt
  gives old Untagged f le = first-free old.unsettled old.next_delivery_number (firsts_in old.queues) f (omega (arith, le))
  gives old Settled f le = first-free old.unsettled old.next_delivery_number (firsts_in old.queues) f (omega (arith, le))
  gives old (Unsettled tag) f le = first-free old.unsettled old.next_delivery_number (firsts_in old.queues) f (omega (arith, le))

  pub sends-free : (old new : State T F) (s : Sent T F) → WaitsFree old → Sends old s new → GivesFree old s.delivery × WaitsFree new
  sends-free old new s f x =
      let count : firsts_in new.queues + first_count x.taken.part ≡ firsts_in old.queues = firsts-turn old.queues (s.handle).0 x.taken new.queues x.turn in (
        subst (λ (o : Option ℕ). GivesFree old o) (sym (ap (λ (t : Sent T F). t.delivery) x.says)) (gives old x.taken.part f (omega (arith, count))),
        subst (λ (t : State T F). WaitsFree t) (sym x.becomes) (registers x.taken.part old.unsettled old.next_delivery_number (firsts_in old.queues) (firsts_in new.queues) s.handle f count),
      )

  leaves-free : (left : List (Sent T F)) (old new : State T F) → Leaves old left new → WaitsFree old → WaitsFree new
  leaves-free [] old new run f = subst (λ (s : State T F). WaitsFree s) (sym run) f
  leaves-free (s ∷ left) old new run f = leaves-free left run.0 new run.2 (sends-free old run.0 s f run.1).1

  accepted-free : (s : State T F) (handle : ℕ) (batch : List (Outbound T F)) → WaitsFree s → HasFreeNumbers s batch → WaitsFree (with_batch s handle batch)
  accepted-free s handle batch f h = record {
    small = f.small;
    free = λ k lt. by k (omega (arith, lt, firsts-joined handle batch s.queues)) (split k);
  }
    where
      split : (k : ℕ) → (k < firsts_in s.queues) ⊎ (firsts_in s.queues ≤ k)
      split k = grind arith

      by : (k : ℕ) → k < firsts_in s.queues + firsts_of batch → (k < firsts_in s.queues) ⊎ (firsts_in s.queues ≤ k) → IsFree s k
      by k lt (inl less) = f.free k less
      by k lt (inr more) =
          let e : firsts_in s.queues + (k - firsts_in s.queues) ≡ k = omega arith in
          subst (λ (n : ℕ). IsFree s n) e (h (k - firsts_in s.queues) (omega arith))

  fewer : (old new : State T F) → new.next_delivery_number ≡ old.next_delivery_number → firsts_in new.queues ≡ firsts_in old.queues
      → ((n : ℕ) → map.get old.unsettled n ≡ None → map.get new.unsettled n ≡ None) → WaitsFree old → WaitsFree new
  fewer old new n c less f = record {
    small = subst (λ (x : ℕ). x < 2 ^ 32) (sym n) f.small;
    free = λ k lt.
        let was = f.free k (subst (λ (x : ℕ). k < x) c lt) in
        (was.0, less ((new.next_delivery_number + k) % 2 ^ 32) (subst (λ (x : ℕ). map.get old.unsettled ((x + k) % 2 ^ 32) ≡ None) (sym n) was.1));
  }

  same-free : (old new : State T F) → new ≡ old → WaitsFree old → WaitsFree new
  same-free old new e f = subst (λ (s : State T F). WaitsFree s) (sym e) f

  step-free : (step : Act T F) (old new : State T F) → Step old step new → WaitsFree old → WaitsFree new
  step-free (TakesWindow base width left) old new x f = leaves-free left (with_window old base width) new x.0 (record { small = f.small; free = f.free })
  step-free (SetsWindow base width) old new x f = same-free (with_window old base width) new x (record { small = f.small; free = f.free })
  step-free (Accepts handle [] left) old new x f = same-free old new x.1 f
  step-free (Accepts handle (u ∷ us) left) old new x f = leaves-free left (with_batch old handle.0 (u ∷ us)) new x.2 (accepted-free old handle.0 (u ∷ us) f x.1)
  step-free (Refuses batch error) old new x f = same-free old new x.1 f
  step-free (Follows handle frame None) old new x f =
      fewer old new (ap (λ (s : State T F). s.next_delivery_number) x.1) (ap (λ (qs : Queues T F). firsts_in qs) x.0.1 ∙ firsts-followed handle.0 frame old.queues)
      (λ n e. ap (λ (s : State T F). map.get s.unsettled n) x.1 ∙ e) f
  step-free (Follows handle frame (Some left)) old new x f =
      fewer old new (ap (λ (s : State T F). s.next_delivery_number) x.1) (ap (λ (qs : Queues T F). firsts_in qs) x.0.2)
      (λ n e. ap (λ (s : State T F). map.get s.unsettled n) x.1 ∙ e) f
  step-free (Reserves count) old new x f =
      fewer old new (ap (λ (s : State T F). s.next_delivery_number) x) (ap (λ (s : State T F). firsts_in s.queues) x) (λ n e. ap (λ (s : State T F). map.get s.unsettled n) x ∙ e) f
  step-free (Settles number) old new x f =
      fewer old new (ap (λ (s : State T F). s.next_delivery_number) x) (ap (λ (s : State T F). firsts_in s.queues) x)
      (λ n e. ap (λ (s : State T F). map.get s.unsettled n) x ∙ get-take-none old.unsettled number n e) f
  step-free (SettlesRange range) old new x f =
      fewer old new (ap (λ (s : State T F). s.next_delivery_number) x) (ap (λ (s : State T F). firsts_in s.queues) x)
      (λ n e. ap (λ (s : State T F). map.get s.unsettled n) x ∙ none-outside range old.unsettled n e) f
  step-free (Forgets handle) old new x f =
      fewer old new (ap (λ (s : State T F). s.next_delivery_number) x.1) (ap (λ (s : State T F). firsts_in s.queues) x.1)
      (λ n e. x.0 n ∙ ap (λ (o : Option Delivery). unless_of handle.0 o) e) f
  step-free Fails old new x f = same-free old new x f

  pub history-free : (steps : List (Act T F)) (start end : State T F) → History start steps end → WaitsFree start
      → WaitsFree end
  history-free [] start end run f = same-free start end run f
  history-free (step ∷ steps) start end run f = history-free steps run.0 end run.2 (step-free step start run.0 run.1 f)

  nothing-leaves : {P : Type 0} → (earlier later : List (Sent T F)) (s : Sent T F) → [] ≡ earlier ++ s ∷ later → P
  nothing-leaves [] later s e = absurd cc
  nothing-leaves (x ∷ earlier) later s e = absurd cc

  -- a session in a call, before any transfer leaves
  opened-free : (step : Act T F) (old new : State T F) (sent : Sent T F) (here : State T F) → Step old step new
      → LeavesIn old step sent here → WaitsFree old → WaitsFree (opened old step)
  opened-free (TakesWindow base width left) old new sent here x l f = record { small = f.small; free = f.free }
  opened-free (SetsWindow base width) old new sent here x l f = record { small = f.small; free = f.free }
  opened-free (Accepts handle [] left) old new sent here x l f = nothing-leaves l.earlier l.later sent (sym x.0 ∙ l.among)
  opened-free (Accepts handle (u ∷ us) left) old new sent here x l f = accepted-free old handle.0 (u ∷ us) f x.1
  opened-free (Refuses batch error) old new sent here x l f = f
  opened-free (Follows handle frame left) old new sent here x l f = f
  opened-free (Reserves count) old new sent here x l f = f
  opened-free (Settles number) old new sent here x l f = f
  opened-free (SettlesRange range) old new sent here x l f = f
  opened-free (Forgets handle) old new sent here x l f = f
  opened-free Fails old new sent here x l f = f

  pub gives-free : (step : Act T F) (old new : State T F) (sent : Sent T F) (here : State T F) → Step old step new
      → LeavesIn old step sent here → WaitsFree old → GivesFree here sent.delivery
  gives-free step old new sent here x l f =
      let there : WaitsFree here = leaves-free l.earlier (opened old step) here l.run (opened-free step old new sent here x l f) in
      (sends-free here l.next sent there l.sends).0
