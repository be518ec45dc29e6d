-- How what stands at spots changes.
use Rattle.std.proofs.Common.{◌≡◌, ◌≢◌, inl, inr, ℕ, ◌+◌, ◌^◌, ◌<◌, ◌↔◌, Bool, true≢false, cond}
use Rattle.std.proofs.Common.{List, [], ◌∷◌, ◌++◌, length, arith, nat_eq, is_some, Option, Some, None, refl, sym, take}
use Rattle.std.proofs.Common.{ap, subst, ◌∙◌}
use Rattle.std.specs.Prelude.{option_map, slice_index_or, slice_set, IsSome, IsTrue, Result, Ok, Err, OnOk, OnErr}
use Rattle.std.proofs.lemmas.List.{take_more, map-append}
use Rattle.std.proofs.lemmas.List.Sums.{sum_by-set}
use Rattle.std.proofs.lemmas.List.Elements.{All-nil, All-cons}
use Rattle.slab.specs.Slab.{Slab, get, slab_len, with_value, Updates}
use Rattle.slab.proofs.SlabLemmas.{ContainsKey-within, Updates-with_value}
use Rattle.amqp_session_types.specs.declared.handles.OutputHandle.{OutputHandle}
use Rattle.amqp_session_outgoing.specs.Queues.{Queues, held_in, joined, rejoined, units_of, TakesTurn}
use Rattle.amqp_session_outgoing.specs.Queues.{turn_of, room_behind, trailed, followed}
use Rattle.amqp_session_outgoing.specs.Frames.{last_room}
use Rattle.amqp_session_outgoing.specs.Fields.{queues_at, queues_of, waiting_at, handle_at, put_before}
use Rattle.amqp_session_outgoing.specs.Fields.{ChangesQueue, TakesFirst, Joins, AllWait, HasFewAt}
use Rattle.amqp_session_outgoing.specs.Spots.{times, AreNoted}
use Rattle.amqp_session_outgoing.specs.declared.frames.Outbound.{Outbound}
use Rattle.amqp_session_outgoing.specs.declared.turns.Queue.{Queue}
use Rattle.amqp_session_outgoing.proofs.Order.{same_or_other}
use Rattle.amqp_session_outgoing.proofs.Standing.{one-if, queue-is, queues-first, queues-push, queues-others, StandsAt}
use Rattle.amqp_session_outgoing.proofs.Standing.{noted-same, noted-joined, times-turned, times-behind}
use Rattle.amqp_session_outgoing.proofs.Standing.{noted-stands, noted-nowhere}
use Rattle.amqp_session_outgoing.proofs.Joining.{ChangesAt, EachWaits, joined-last, followed-at, held-at, room-at}
use Rattle.amqp_session_outgoing.proofs.Joining.{waits-at, waits-nowhere}

module _ {T F : Type 0} where
  queues-of-append : (xs ys : List (Queue T F)) → queues_of (xs ++ ys) ≡ queues_of xs ++ queues_of ys
  queues-of-append xs ys = map-append (λ (q : Queue T F). ((q.handle).0, q.units)) xs ys

  there : (slab : Slab (Queue T F)) (spot : ℕ) (q : Queue T F) → get slab spot ≡ Some q → IsSome (get slab spot)
  there slab spot q e = ap (λ (o : Option (Queue T F)). is_some o) e

  -- a queue that is written at its spot
  pub written : (old new : Slab (Queue T F)) (spot : ℕ) (before after : Queue T F) → get old spot ≡ Some before
      → new ≡ with_value old spot after → Updates old new spot (Some after)
  written old new spot before after found is =
      subst (λ (s : Slab (Queue T F)). Updates old s spot (Some after)) (sym is)
      (Updates-with_value old spot after (there old spot before found))

  count-kept : (slots : List (Option (Queue T F))) (spot : ℕ) (q : Queue T F) (found : Option (Queue T F))
      → spot < length slots → slice_index_or slots spot None ≡ found → IsSome found
      → slab_len (record { slots = slice_set slots spot (Some q); vacant_key = 0; capacity = 0 })
      ≡ slab_len (record { slots = slots; vacant_key = 0; capacity = 0 })
  count-kept slots spot q None lt is some = absurd (true≢false (sym some))
  count-kept slots spot q (Some x) lt is some =
      let one : one-if (is_some (slice_index_or slots spot None)) ≡ 1 =
      ap (λ (o : Option (Queue T F)). one-if (is_some o)) is in
      omega (arith, one, sum_by-set (λ (o : Option (Queue T F)). cond (is_some o) 1 0) slots spot (Some q) None lt)

  -- as many queues stand at spots then
  pub len-written : (old new : Slab (Queue T F)) (spot : ℕ) (before after : Queue T F) → get old spot ≡ Some before
      → new ≡ with_value old spot after → slab_len new ≡ slab_len old
  len-written old new spot before after found is =
      let some = there old spot before found in
      ap (λ (s : Slab (Queue T F)). slab_len s) is
      ∙ count-kept old.slots spot after (get old spot) (ContainsKey-within old spot some) refl some

  pub room-written : (old new : Slab (Queue T F)) (spot : ℕ) (after : Queue T F) → new ≡ with_value old spot after
      → new.capacity ≡ old.capacity
  room-written old new spot after is = ap (λ (s : Slab (Queue T F)). s.capacity) is

  -- the handle stays at each spot
  pub handles-kept : (old new : Slab (Queue T F)) (spot : ℕ) (before after : Queue T F) → get old spot ≡ Some before
      → Updates old new spot (Some after) → after.handle ≡ before.handle → (s : ℕ) → handle_at new s ≡ handle_at old s
  handles-kept old new spot before after found u same s = elim (same_or_other s spot) [
    | inl e ↦
        ap (λ (x : ℕ). handle_at new x) e
        ∙ ap (λ (o : Option (Queue T F)). option_map (λ (q : Queue T F). (q.handle).0) o) u.changed
        ∙ ap (λ (h : OutputHandle). Some h.0) same
        ∙ ap (λ (o : Option (Queue T F)). option_map (λ (q : Queue T F). (q.handle).0) o) (sym found)
        ∙ ap (λ (x : ℕ). handle_at old x) (sym e)
    | inr ne ↦ ap (λ (o : Option (Queue T F)). option_map (λ (q : Queue T F). (q.handle).0) o) (u.others s ne)
  ]

  -- each queue has something waiting where one changed
  pub waits-changed : (old new : Slab (Queue T F)) (spot : ℕ) → AllWait old
      → ((s : ℕ) → s ≢ spot → get new s ≡ get old s)
      → ((q : Queue T F) → get new spot ≡ Some q → 0 < length q.units) → AllWait new
  waits-changed old new spot w others here =
      record {
        some = λ s q e. elim (same_or_other s spot) [
          | inl i ↦ here q (ap (λ (x : ℕ). get new x) (sym i) ∙ e)
          | inr ne ↦ w.some s q (sym (others s ne) ∙ e)
        ];
      }

  pub waits-put : (old new : Slab (Queue T F)) (spot : ℕ) (after : Queue T F) → AllWait old
      → Updates old new spot (Some after) → 0 < length after.units → AllWait new
  waits-put old new spot after w u some =
      waits-changed old new spot w u.others
      (λ q e. subst (λ (x : Queue T F). 0 < length x.units) (queue-is after q (sym u.changed ∙ e)) some)

  -- each queue of the turn has something waiting
  pub each-waits : (slab : Slab (Queue T F)) (turn : List ℕ) → AllWait slab → EachWaits (queues_at slab turn)
  each-waits slab [] w = All-nil (λ (q : Queue T F). 0 < length q.units)
  each-waits slab (spot ∷ turn) w = by (get slab spot) refl (each-waits slab turn w)
    where
      by : (found : Option (Queue T F)) → get slab spot ≡ found → EachWaits (queues_at slab turn)
          → EachWaits (put_before found (queues_at slab turn))
      by None e rest = rest
      by (Some q) e rest =
          All-cons (λ (x : Queue T F). 0 < length x.units) q (queues_at slab turn) (w.some spot q e) rest

  -- where the transfers of one queue change
  pub changed-at : (old new : Slab (Queue T F)) (turn : List ℕ) (handle spot : ℕ)
      (change : List (Outbound T F) → List (Outbound T F)) → (st : StandsAt old turn handle spot)
      → ChangesQueue old spot change new → ChangesAt (queues_at old turn) st.index change (queues_at new turn)
  changed-at old new turn handle spot change st c =
      let u = written old new spot c.before c.after c.found c.changed in
      let same : c.before ≡ slice_index_or (queues_at old turn) st.index c.after =
      queue-is c.before (slice_index_or (queues_at old turn) st.index c.after) (sym c.found ∙ st.here c.after) in
      record {
        queue = c.after;
        changed = st.changes new c.after u.changed u.others;
        handle = c.handle ∙ ap (λ (q : Queue T F). q.handle) same;
        units = c.units ∙ ap (λ (q : Queue T F). change q.units) same;
      }

  pub noted-changed : (old new : Slab (Queue T F)) (turn : List ℕ) (n : ℕ → Option ℕ) (spot : ℕ)
      (change : List (Outbound T F) → List (Outbound T F)) → ChangesQueue old spot change new
      → AreNoted (handle_at old) turn n → AreNoted (handle_at new) turn n
  noted-changed old new turn n spot change c a =
      noted-same (handle_at old) (handle_at new) n n turn turn
      (handles-kept old new spot c.before c.after c.found
      (written old new spot c.before c.after c.found c.changed) c.handle)
      (λ s. refl) (λ h. refl) a

  pub waits-after : (old new : Slab (Queue T F)) (spot : ℕ) (change : List (Outbound T F) → List (Outbound T F))
      → ChangesQueue old spot change new
      → ((units : List (Outbound T F)) → 0 < length units → 0 < length (change units))
      → AllWait old → AllWait new
  waits-after old new spot change c keeps w =
      waits-put old new spot c.after w (written old new spot c.before c.after c.found c.changed)
      (subst (λ (units : List (Outbound T F)). 0 < length units) (sym c.units)
      (keeps c.before.units (w.some spot c.before c.found)))

  pub len-after : (old new : Slab (Queue T F)) (spot : ℕ) (change : List (Outbound T F) → List (Outbound T F))
      → ChangesQueue old spot change new → slab_len new ≡ slab_len old
  len-after old new spot change c = len-written old new spot c.before c.after c.found c.changed

  pub room-after : (old new : Slab (Queue T F)) (spot : ℕ) (change : List (Outbound T F) → List (Outbound T F))
      → ChangesQueue old spot change new → new.capacity ≡ old.capacity
  room-after old new spot change c = room-written old new spot c.after c.changed

  -- the queue of a link as it stands in the turn
  pub found-at : (slab : Slab (Queue T F)) (turn : List ℕ) (handle spot : ℕ) (q d : Queue T F)
      → (st : StandsAt slab turn handle spot) → get slab spot ≡ Some q
      → q ≡ slice_index_or (queues_at slab turn) st.index d
  found-at slab turn handle spot q d st e =
      queue-is q (slice_index_or (queues_at slab turn) st.index d) (sym e ∙ st.here d)

  -- what waits at a spot is part of all that waits
  pub few-at : (slab : Slab (Queue T F)) (turn : List ℕ) (handle spot nodes : ℕ) → StandsAt slab turn handle spot
      → held_in (waiting_at slab turn) + nodes < 2 ^ 63 → HasFewAt slab spot nodes
  few-at slab turn handle spot nodes st short =
      record {
        few = λ q e.
            let same = ap (λ (x : Queue T F). length x.units) (found-at slab turn handle spot q q st e) in
            omega (arith, short, same, held-at (queues_at slab turn) st.index q st.place.within);
      }

  -- how much room frames of a link take behind its last transfer
  pub room-noted : (count : ℕ) (slab : Slab (Queue T F)) (turn : List ℕ) (n : ℕ → Option ℕ) (handle spot : ℕ)
      (q : Queue T F) (queues : Queues T F) → AreNoted (handle_at slab) turn n → Some spot ≡ n handle
      → get slab spot ≡ Some q → waiting_at slab turn ≡ queues
      → room_behind handle count queues ≡ last_room count q.units
  room-noted count slab turn n handle spot q queues a told e view =
      let st = noted-stands slab turn n handle spot a told in
      ap (λ (qs : Queues T F). room_behind handle count qs) (sym view)
      ∙ room-at count (queues_at slab turn) st.index handle q st.place
      ∙ ap (λ (x : Queue T F). last_room count x.units) (sym (found-at slab turn handle spot q q st e))

  pub waits-unnoted : (slab : Slab (Queue T F)) (turn : List ℕ) (n : ℕ → Option ℕ) (handle : ℕ) (queues : Queues T F)
      → AreNoted (handle_at slab) turn n → None ≡ n handle → waiting_at slab turn ≡ queues → units_of handle queues ≡ []
  waits-unnoted slab turn n handle queues a none view =
      ap (λ (qs : Queues T F). units_of handle qs) (sym view)
      ∙ waits-nowhere (queues_at slab turn) handle (noted-nowhere slab turn n handle a none)

  pub waits-noted : (slab : Slab (Queue T F)) (turn : List ℕ) (n : ℕ → Option ℕ) (handle spot : ℕ) (queues : Queues T F)
      → AreNoted (handle_at slab) turn n → AllWait slab → Some spot ≡ n handle → waiting_at slab turn ≡ queues
      → 0 < length (units_of handle queues)
  waits-noted slab turn n handle spot queues a w told view =
      let st = noted-stands slab turn n handle spot a told in
      let some : 0 < length (units_of handle (waiting_at slab turn)) =
      waits-at (queues_at slab turn) st.index handle st.place (each-waits slab turn w) in
      subst (λ (qs : Queues T F). 0 < length (units_of handle qs)) view some

  -- a link waits where a spot is noted for it
  pub told-waiting : (slab : Slab (Queue T F)) (turn : List ℕ) (n : ℕ → Option ℕ) (handle : ℕ) (told : Option ℕ)
      (queues : Queues T F) → AreNoted (handle_at slab) turn n → AllWait slab → told ≡ n handle
      → waiting_at slab turn ≡ queues → IsTrue (is_some told) ↔ (0 < length (units_of handle queues))
  told-waiting slab turn n handle None queues a w is view =
      let none = ap (λ (us : List (Outbound T F)). length us) (waits-unnoted slab turn n handle queues a is view) in
      (λ yes. absurd (true≢false (sym yes)), λ some. absurd (omega (arith, none, some)))
  told-waiting slab turn n handle (Some spot) queues a w is view =
      (λ told. waits-noted slab turn n handle spot queues a w is view, λ told. refl)

  -- a frame goes behind what a link has waiting
  pub followed-noted : (old new : Slab (Queue T F)) (turn : List ℕ) (n : ℕ → Option ℕ) (handle spot : ℕ) (frame : F)
      → AreNoted (handle_at old) turn n → Some spot ≡ n handle → ChangesQueue old spot (trailed frame) new
      → waiting_at new turn ≡ followed handle frame (waiting_at old turn)
  followed-noted old new turn n handle spot frame a told c =
      let st = noted-stands old turn n handle spot a told in
      followed-at (queues_at old turn) (queues_at new turn) st.index handle frame st.place
      (changed-at old new turn handle spot (trailed frame) st c)

  -- the counts of the links in turn, one more
  pub counts-more : (slab : Slab (Queue T F)) (turn : List ℕ) (i d : ℕ) (q : Queue T F) → i < length turn
      → get slab (slice_index_or turn i d) ≡ Some q
      → turn_of (waiting_at slab (take (i + 1) turn))
      ≡ turn_of (waiting_at slab (take i turn)) ++ (q.handle, length q.units) ∷ []
  counts-more slab turn i d q lt e =
      ap (λ (xs : List ℕ). turn_of (waiting_at slab xs)) (take_more turn i d lt)
      ∙ ap (λ (qs : List (Queue T F)). turn_of (queues_of qs))
      (queues-push slab (slice_index_or turn i d) (take i turn) q e)
      ∙ ap (λ (qs : Queues T F). turn_of qs) (queues-of-append (queues_at slab (take i turn)) (q ∷ []))
      ∙ map-append (λ (x : ℕ × List (Outbound T F)). (record { 0 = x.0 }, length x.1)) (waiting_at slab (take i turn))
      (((q.handle).0, q.units) ∷ [])

  -- the first link of the turn gave up its first transfer
  turn-of : (first handle : ℕ) (units after : List (Outbound T F)) (unit : Outbound T F) (others new : Queues T F)
      → units ≡ unit ∷ after → handle ≡ first → new ≡ rejoined first after others
      → TakesTurn ((first, units) ∷ others) handle unit new
  turn-of first handle units after unit others new is same stands =
      subst (λ (us : List (Outbound T F)). TakesTurn ((first, us) ∷ others) handle unit new) (sym is)
      (same, refl, stands)

  rejoined-some : (first : ℕ) (after : List (Outbound T F)) (others : Queues T F) → 0 < length after
      → others ++ (first, after) ∷ [] ≡ rejoined first after others
  rejoined-some first [] others some = absurd (omega arith)
  rejoined-some first (u ∷ us) others some = refl

  rejoined-none : (first : ℕ) (after : List (Outbound T F)) (others : Queues T F) → after ≡ []
      → others ≡ rejoined first after others
  rejoined-none first [] others none = refl
  rejoined-none first (u ∷ us) others none = absurd (omega (arith, ap (λ (xs : List (Outbound T F)). length xs) none))

  module _ (old mid : Slab (Queue T F)) (all : List ℕ) (spot : ℕ) (rest : List ℕ) (n : ℕ → Option ℕ)
      (handle : OutputHandle) (unit : Outbound T F) (is_last : Bool) (is : all ≡ spot ∷ rest)
      (a : AreNoted (handle_at old) all n) (t : TakesFirst old spot handle unit is_last mid) where
    noted-first : AreNoted (handle_at old) (spot ∷ rest) n
    noted-first = subst (λ (xs : List ℕ). AreNoted (handle_at old) xs n) is a

    gone-behind : times spot rest ≡ 0
    gone-behind = times-behind (handle_at old) spot rest n noted-first

    pub update : Updates old mid spot (Some t.after)
    update = written old mid spot t.before t.after t.found t.changed

    waiting-before : waiting_at old all ≡ ((t.before.handle).0, t.before.units) ∷ waiting_at old rest
    waiting-before =
        ap (λ (xs : List ℕ). waiting_at old xs) is
        ∙ ap (λ (qs : List (Queue T F)). queues_of qs) (queues-first old spot rest t.before t.found)

    takes : (new : Queues T F) → new ≡ rejoined (t.before.handle).0 t.after.units (waiting_at old rest)
        → TakesTurn (waiting_at old all) handle.0 unit new
    takes new stands =
        subst (λ (qs : Queues T F). TakesTurn qs handle.0 unit new) (sym waiting-before)
        (turn-of (t.before.handle).0 handle.0 t.before.units t.after.units unit (waiting_at old rest) new t.units
        (ap (λ (h : OutputHandle). h.0) (sym t.link)) stands)

    -- it stands last
    module _ (more : 0 < length t.after.units) where
      pub turned-taken : TakesTurn (waiting_at old all) handle.0 unit (waiting_at mid (rest ++ spot ∷ []))
      turned-taken =
          takes (waiting_at mid (rest ++ spot ∷ []))
          (ap (λ (qs : List (Queue T F)). queues_of qs) (queues-push mid spot rest t.after update.changed)
          ∙ queues-of-append (queues_at mid rest) (t.after ∷ [])
          ∙ ap (λ (qs : List (Queue T F)). queues_of qs ++ ((t.after.handle).0, t.after.units) ∷ [])
          (queues-others old mid spot rest gone-behind update.others)
          ∙ ap (λ (h : OutputHandle). waiting_at old rest ++ (h.0, t.after.units) ∷ []) t.same
          ∙ rejoined-some (t.before.handle).0 t.after.units (waiting_at old rest) more)

      pub turned-noted : AreNoted (handle_at mid) (rest ++ spot ∷ []) n
      turned-noted =
          noted-same (handle_at old) (handle_at mid) n n (spot ∷ rest) (rest ++ spot ∷ [])
          (handles-kept old mid spot t.before t.after t.found update t.same) (λ s. times-turned s spot rest)
          (λ h. refl) noted-first

    -- it leaves the turn
    module _ (new : Slab (Queue T F)) (m : ℕ → Option ℕ) (none : t.after.units ≡ []) (u : Updates mid new spot None)
        (told : (other : ℕ) → m other ≡ cond (nat_eq handle.0 other) None (n other)) where
      others-left : (s : ℕ) → s ≢ spot → get new s ≡ get old s
      others-left s ne = u.others s ne ∙ update.others s ne

      pub left-taken : TakesTurn (waiting_at old all) handle.0 unit (waiting_at new rest)
      left-taken =
          takes (waiting_at new rest)
          (ap (λ (qs : List (Queue T F)). queues_of qs) (queues-others old new spot rest gone-behind others-left)
          ∙ rejoined-none (t.before.handle).0 t.after.units (waiting_at old rest) none)

  -- a link joins the turn
  module _ (turn later : List ℕ) (old new : Slab (Queue T F)) (n m : ℕ → Option ℕ) (handle : OutputHandle)
      (batch : List (Outbound T F)) (a : AreNoted (handle_at old) turn n) (unknown : n handle.0 ≡ None)
      (j : Joins turn old n handle batch later new m) where
    joins-vacant : handle_at old j.spot ≡ None
    joins-vacant = ap (λ (o : Option (Queue T F)). option_map (λ (q : Queue T F). (q.handle).0) o) j.vacant

    absent : times j.spot turn ≡ 0
    absent = a.once j.spot ∙ ap (λ (o : Option ℕ). cond (is_some o) 1 0) joins-vacant

    pub joins-waiting : waiting_at new later ≡ joined handle.0 batch (waiting_at old turn)
    joins-waiting =
        joined-last (queues_at old turn) (queues_at new later) handle.0 batch j.queue
        (noted-nowhere old turn n handle.0 a (sym unknown))
        (ap (λ (xs : List ℕ). queues_at new xs) j.last ∙ queues-push new j.spot turn j.queue j.updates.changed
        ∙ ap (λ (qs : List (Queue T F)). qs ++ j.queue ∷ [])
        (queues-others old new j.spot turn absent j.updates.others))
        (ap (λ (h : OutputHandle). h.0) j.link) j.units

    pub joins-noted : AreNoted (handle_at new) later m
    joins-noted =
        subst (λ (xs : List ℕ). AreNoted (handle_at new) xs m) (sym j.last)
        (noted-joined (handle_at old) (handle_at new) n m turn j.spot handle.0 a joins-vacant unknown
        (ap (λ (o : Option (Queue T F)). option_map (λ (q : Queue T F). (q.handle).0) o) j.updates.changed
        ∙ ap (λ (h : OutputHandle). Some h.0) j.link)
        (λ s ne.
        ap (λ (o : Option (Queue T F)). option_map (λ (q : Queue T F). (q.handle).0) o) (j.updates.others s ne))
        j.told)

  -- or there is no memory
  pub joins-after : {A E : Type 0} → (r : Result A E) (turn later : List ℕ) (old new : Slab (Queue T F))
      (n m : ℕ → Option ℕ) (handle : OutputHandle) (batch : List (Outbound T F)) → AreNoted (handle_at old) turn n
      → n handle.0 ≡ None → OnOk r (Joins turn old n handle batch later new m) → OnErr r (new.slots ≡ old.slots)
      → OnErr r (later ≡ turn) → OnErr r ((other : ℕ) → m other ≡ n other) → AreNoted (handle_at new) later m
  joins-after (Ok x) turn later old new n m handle batch a unknown j slots same told =
      joins-noted turn later old new n m handle batch a unknown j
  joins-after (Err e) turn later old new n m handle batch a unknown j slots same told =
      noted-same (handle_at old) (handle_at new) n m turn later
      (λ s.
      ap (λ (qs : List (Option (Queue T F))). option_map (λ (q : Queue T F). (q.handle).0) (slice_index_or qs s None))
      slots)
      (λ s. ap (λ (xs : List ℕ). times s xs) same) told a
