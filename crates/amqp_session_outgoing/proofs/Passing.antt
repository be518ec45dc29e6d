-- Transfers that leave without waiting.
use Rattle.std.proofs.Common.{◌≡◌, ℕ, ◌+◌, ◌-◌, ◌<◌, ◌≤◌, ◌%◌, ◌^◌, arith, List, [], ◌∷◌, ◌++◌, length, refl, sym, ap, ◌∙◌, subst, Option, Some, None}
use Rattle.std.specs.Prelude.{if◌then◌else◌}
use Rattle.amqp_session_types.specs.declared.handles.OutputHandle.{OutputHandle}
use Rattle.amqp_session_outgoing.specs.Range.{ahead}
use Rattle.amqp_session_outgoing.specs.Table.{Table}
use Rattle.amqp_session_outgoing.specs.Frames.{is_first}
use Rattle.amqp_session_outgoing.specs.Queues.{Queues, joined}
use Rattle.amqp_session_outgoing.specs.State.{State, Sends, Leaving, registered, window_left, with_alone, with_batch}
use Rattle.amqp_session_outgoing.specs.declared.frames.Outbound.{Outbound}
use Rattle.amqp_session_outgoing.specs.declared.frames.Sent.{Sent}
use Rattle.amqp_session_outgoing.proofs.Turning.{Leaving-push}

-- the next number is one further ahead
ahead-next : (number base : ℕ) → ahead number base + 1 < 2 ^ 32 → ahead ((number + 1) % 2 ^ 32) base ≡ ahead number base + 1
ahead-next number base less = omega (arith, less)

module _ {T F : Type 0} where
  -- a transfer as it leaves with these numbers
  abbrev pub sent_with : ℕ → Option ℕ → OutputHandle → Outbound T F → Sent T F
  sent_with number delivery handle u =
      record {
        handle = handle;
        number = number;
        delivery = delivery;
        transfer = u.transfer;
        behind = u.behind;
      }

  -- the first of those that stand alone leaves
  sends-alone : (s : State T F) (number delivery : ℕ) (table : Table) (handle : OutputHandle) (u : Outbound T F) (us : List (Outbound T F)) → ahead number s.window_base < s.window_width
      → Sends (with_alone s number delivery table handle.0 (u ∷ us)) (sent_with number (if is_first u.part then Some delivery else None) handle u)
      (with_alone s ((number + 1) % 2 ^ 32) (if is_first u.part then (delivery + 1) % 2 ^ 32 else delivery) (registered table delivery handle u.part) handle.0 us)
  sends-alone s number delivery table handle u us less = record { allowed = less; taken = u; turn = (refl, refl, refl); says = refl; becomes = refl }

  -- so far these left, and the window takes those that are left
  pub record Passes (s start : State T F) (out_old out : List (Sent T F)) (number delivery : ℕ) (table : Table) (handle : ℕ) (units : List (Outbound T F)) : Type 0 where
    pub fits : ahead number s.window_base + length units ≤ s.window_width
    pub run : Leaving start out_old (with_alone s number delivery table handle units) out

  passes-one : (s start : State T F) (out_old out : List (Sent T F)) (number delivery : ℕ) (table : Table) (handle : OutputHandle) (u : Outbound T F) (us : List (Outbound T F)) → s.window_width < 2 ^ 32
      → Passes s start out_old out number delivery table handle.0 (u ∷ us)
      → Passes s start out_old (out ++ sent_with number (if is_first u.part then Some delivery else None) handle u ∷ []) ((number + 1) % 2 ^ 32) (if is_first u.part then (delivery + 1) % 2 ^ 32 else delivery) (registered table delivery handle u.part) handle.0 us
  passes-one s start out_old out number delivery table handle u us small p =
      let fits : ahead number s.window_base + (length us + 1) ≤ s.window_width = omega (arith, p.fits) in
      let next : ahead ((number + 1) % 2 ^ 32) s.window_base ≡ ahead number s.window_base + 1 = ahead-next number s.window_base (omega (arith, fits, small)) in
      record {
        fits = omega (arith, fits, next);
        run = Leaving-push start _ _ out_old out _ p.run (sends-alone s number delivery table handle u us (omega (arith, fits)));
      }

  -- one more leaves
  pub passes-more : (s start : State T F) (out_old out out_new : List (Sent T F)) (number delivery delivery_new : ℕ) (table table_new : Table) (given : Option ℕ) (handle : OutputHandle) (u : Outbound T F) (us units : List (Outbound T F))
      → units ≡ u ∷ us → out_new ≡ out ++ sent_with number given handle u ∷ [] → given ≡ (if is_first u.part then Some delivery else None)
      → delivery_new ≡ (if is_first u.part then (delivery + 1) % 2 ^ 32 else delivery) → table_new ≡ registered table delivery handle u.part
      → s.window_width < 2 ^ 32 → Passes s start out_old out number delivery table handle.0 units
      → Passes s start out_old out_new ((number + 1) % 2 ^ 32) delivery_new table_new handle.0 us
  passes-more s start out_old out out_new number delivery delivery_new table table_new given handle u us units popped pushed number_is delivery_is table_is small p =
      let pushed_is : out_new ≡ out ++ sent_with number (if is_first u.part then Some delivery else None) handle u ∷ [] = pushed ∙ ap (λ (x : Option ℕ). out ++ sent_with number x handle u ∷ []) number_is in
      let before : Passes s start out_old out number delivery table handle.0 (u ∷ us) = subst (λ (xs : List (Outbound T F)). Passes s start out_old out number delivery table handle.0 xs) popped p in
      subst (λ (t : Table). Passes s start out_old out_new ((number + 1) % 2 ^ 32) delivery_new t handle.0 us) (sym table_is)
      (subst (λ (d : ℕ). Passes s start out_old out_new ((number + 1) % 2 ^ 32) d (registered table delivery handle u.part) handle.0 us) (sym delivery_is)
      (subst (λ (xs : List (Sent T F)). Passes s start out_old xs ((number + 1) % 2 ^ 32) (if is_first u.part then (delivery + 1) % 2 ^ 32 else delivery) (registered table delivery handle u.part) handle.0 us) (sym pushed_is)
      (passes-one s start out_old out number delivery table handle u us small before)))

  -- a batch of a link stands alone where nothing waited
  pub joins-alone : (s : State T F) (handle : ℕ) (batch : List (Outbound T F)) → s.queues ≡ [] → 0 < length batch
      → with_batch s handle batch ≡ with_alone (record s { room = s.room - length batch }) s.next_outgoing_id s.next_delivery_number s.unsettled handle batch
  joins-alone s handle [] e some = absurd (omega arith)
  joins-alone s handle (u ∷ us) e some = ap (λ (qs : Queues T F). record s { queues = joined handle (u ∷ us) qs; room = s.room - length (u ∷ us) }) e

  -- the window takes them
  pub fits-window : (s : State T F) (count : ℕ) → 0 < count → count ≤ window_left s → ahead s.next_outgoing_id s.window_base + count ≤ s.window_width
  fits-window s count some fits = omega (arith, some, fits)

  -- a batch passes where nothing waits and the window takes it
  pub passes-batch : (old : State T F) (handle : ℕ) (batch : List (Outbound T F)) (out_old out_mid out_new : List (Sent T F)) (number delivery : ℕ) (table_mid table_new : Table) (queues : Queues T F) (room : ℕ)
      → old.queues ≡ [] → 0 < length batch → length batch ≤ window_left old → old.window_width < 2 ^ 32
      → out_mid ≡ out_old → table_mid ≡ old.unsettled → queues ≡ old.queues → room ≡ old.room - length batch
      → ((s : State T F) → s.window_width < 2 ^ 32 → ahead old.next_outgoing_id s.window_base + length batch ≤ s.window_width
      → Leaving (with_alone s old.next_outgoing_id old.next_delivery_number table_mid handle batch) out_mid (with_alone s number delivery table_new handle []) out_new)
      → Leaving (with_batch old handle batch) out_old (record old { next_outgoing_id = number; next_delivery_number = delivery; unsettled = table_new; queues = queues; room = room }) out_new
  passes-batch old handle batch out_old out_mid out_new number delivery table_mid table_new queues room empty some window small same table turn less all =
      let s : State T F = record old { room = old.room - length batch } in
      let start : with_alone s old.next_outgoing_id old.next_delivery_number table_mid handle batch ≡ with_batch old handle batch =
      ap (λ (t : Table). with_alone s old.next_outgoing_id old.next_delivery_number t handle batch) table ∙ sym (joins-alone old handle batch empty some) in
      let end : with_alone s number delivery table_new handle [] ≡ record old { next_outgoing_id = number; next_delivery_number = delivery; unsettled = table_new; queues = queues; room = room } =
      ap (λ (qs : Queues T F). record old { next_outgoing_id = number; next_delivery_number = delivery; unsettled = table_new; queues = qs; room = old.room - length batch }) (sym (turn ∙ empty))
      ∙ ap (λ (r : ℕ). record old { next_outgoing_id = number; next_delivery_number = delivery; unsettled = table_new; queues = queues; room = r }) (sym less) in
      let run : Leaving (with_alone s old.next_outgoing_id old.next_delivery_number table_mid handle batch) out_mid (with_alone s number delivery table_new handle []) out_new = all s small (fits-window old (length batch) some window) in
      subst (λ (x : State T F). Leaving (with_batch old handle batch) out_old x out_new) end
      (subst (λ (x : State T F). Leaving x out_old (with_alone s number delivery table_new handle []) out_new) start
      (subst (λ (xs : List (Sent T F)). Leaving (with_alone s old.next_outgoing_id old.next_delivery_number table_mid handle batch) xs (with_alone s number delivery table_new handle []) out_new) same run))
