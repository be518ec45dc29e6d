-- Where a link's transfers wait.
use Rattle.std.proofs.Common.{◌≡◌, ◌≢◌, ℕ, ◌<◌, ◌≤◌, suc, zero, List, [], ◌∷◌, ◌++◌, length, arith, Bool, true, false, length-append, refl, sym, ap, ◌∙◌, Option, Some, None}
use Rattle.std.proofs.lemmas.List.Elements.{All-head, All-tail}
use Rattle.std.specs.Prelude.{Result, Ok, Err, OnOk, OnErr, All, slice_index_or, slice_set, ◌==◌, ◌+◌, if◌then◌else◌}
use Rattle.std.proofs.lemmas.Grind.{common_steps}
use Rattle.amqp_session_outgoing.specs.Frames.{last_room}
use Rattle.amqp_session_outgoing.specs.Nodes.{values_of, HoldValues}
use Rattle.amqp_session_outgoing.proofs.Noding.{value-at, values-length}
use Rattle.amqp_session_outgoing.specs.Queues.{Queues, joined, followed, trailed, units_of, room_behind, held_in}
use Rattle.amqp_session_outgoing.proofs.Numbering.{firsts-followed}
use Rattle.amqp_session_outgoing.specs.Fields.{queues_of}
use Rattle.amqp_session_outgoing.specs.declared.frames.Outbound.{Outbound}
use Rattle.amqp_session_outgoing.specs.declared.turns.Queue.{Queue}

pub on_ok : {A E P Q : Type 0} → (r : Result A E) → (P → Q) → OnOk r P → OnOk r Q
on_ok (Ok x) f p = f p
on_ok (Err e) f p = tt

pub on_err : {A E P Q : Type 0} → (r : Result A E) → (P → Q) → OnErr r P → OnErr r Q
on_err (Ok x) f p = tt
on_err (Err e) f p = f p

module _ {T F : Type 0} where
  -- each link in the turn has something waiting
  abbrev pub EachWaits : List (Queue T F) → Type 0
  EachWaits items = All (λ q. 0 < length q.units) items

  -- the link with this handle stands at this place of the turn
  pub record IsPlace (items : List (Queue T F)) (handle i : ℕ) : Type 0 where
    pub within : i < length items
    pub before : (k : ℕ) (d : Queue T F) → k < i → ((slice_index_or items k d).handle).0 ≢ handle
    pub found : Queue T F
    pub here : ((slice_index_or items i found).handle).0 ≡ handle

  -- no link with this handle stands in the turn
  pub record IsNowhere (items : List (Queue T F)) (handle : ℕ) : Type 0 where
    pub other : (k : ℕ) (d : Queue T F) → k < length items → ((slice_index_or items k d).handle).0 ≢ handle

  -- the transfers of the link at this place became others, and nothing else changed
  pub record ChangesAt (old : List (Queue T F)) (i : ℕ) (change : List (Outbound T F) → List (Outbound T F))
      (new : List (Queue T F)) : Type 0 where
    pub queue : Queue T F
    pub changed : new ≡ slice_set old i queue
    pub handle : queue.handle ≡ (slice_index_or old i queue).handle
    pub units : queue.units ≡ change (slice_index_or old i queue).units

  -- room behind the last
  pub last-room-is : (count : ℕ) (units : List (Outbound T F)) (i : ℕ) (d : Outbound T F) → length units ≡ i + 1 → last_room count units ≡ length (slice_index_or units i d).behind + count
  last-room-is count [] i d e = absurd (omega (arith, e))
  last-room-is count (u ∷ []) zero d e = refl
  last-room-is count (u ∷ []) (suc i) d e = absurd (omega (arith, e))
  last-room-is count (u ∷ v ∷ us) zero d e = absurd (omega (arith, e))
  last-room-is count (u ∷ v ∷ us) (suc i) d e = last-room-is count (v ∷ us) i d (omega (arith, e))

  -- a frame behind the transfer of the last node
  pub trailed-node : (nodes : List (Option (Outbound T F))) (i : ℕ) (last : Outbound T F) (behind : List F) (frame : F) (d : Option (Outbound T F)) → HoldValues nodes
      → length nodes ≡ i + 1 → Some last ≡ slice_index_or nodes i d → behind ≡ last.behind ++ frame ∷ []
      → values_of (slice_set nodes i (Some (record last { behind = behind }))) ≡ trailed frame (values_of nodes)
  trailed-node [] i last behind frame d h e is more = absurd (omega (arith, e))
  trailed-node (None ∷ nodes) i last behind frame d h e is more = absurd h
  trailed-node (Some u ∷ []) zero last behind frame d h e is more = grind (arith, common_steps)
  trailed-node (Some u ∷ []) (suc i) last behind frame d h e is more = absurd (omega (arith, e))
  trailed-node (Some u ∷ None ∷ nodes) i last behind frame d h e is more = absurd h
  trailed-node (Some u ∷ Some v ∷ nodes) zero last behind frame d h e is more = absurd (omega (arith, e))
  trailed-node (Some u ∷ Some v ∷ nodes) (suc i) last behind frame d h e is more =
      ap (λ (us : List (Outbound T F)). u ∷ us) (trailed-node (Some v ∷ nodes) i last behind frame d h (omega (arith, e)) is more)

  -- and where it stays as it is
  pub same-node : (nodes : List (Option (Outbound T F))) (i : ℕ) (last : Outbound T F) (behind : List F) (d : Option (Outbound T F)) → HoldValues nodes
      → i < length nodes → Some last ≡ slice_index_or nodes i d → behind ≡ last.behind
      → values_of (slice_set nodes i (Some (record last { behind = behind }))) ≡ values_of nodes
  same-node [] i last behind d h lt is same = absurd (omega arith)
  same-node (None ∷ nodes) i last behind d h lt is same = absurd h
  same-node (Some u ∷ nodes) zero last behind d h lt is same = grind (arith, common_steps)
  same-node (Some u ∷ nodes) (suc i) last behind d h lt is same =
      ap (λ (us : List (Outbound T F)). u ∷ us) (same-node nodes i last behind d h (omega arith) is same)

  pub hold-set : (nodes : List (Option (Outbound T F))) (i : ℕ) (u : Outbound T F) → HoldValues nodes → HoldValues (slice_set nodes i (Some u))
  hold-set [] i u h = h
  hold-set (None ∷ nodes) i u h = absurd h
  hold-set (Some x ∷ nodes) zero u h = h
  hold-set (Some x ∷ nodes) (suc i) u h = hold-set nodes i u h

  -- room behind the transfer of the last node
  pub room-node : (count : ℕ) (nodes : List (Option (Outbound T F))) (i : ℕ) (last : Outbound T F) (d : Option (Outbound T F)) → HoldValues nodes
      → length nodes ≡ i + 1 → Some last ≡ slice_index_or nodes i d → last_room count (values_of nodes) ≡ length last.behind + count
  room-node count nodes i last d h e is =
      let lt : i < length nodes = omega (arith, e) in
      let v : last ≡ slice_index_or (values_of nodes) i last = value-at nodes i last d h lt is in
      last-room-is count (values_of nodes) i last (values-length nodes h ∙ e) ∙ ap (λ (u : Outbound T F). length u.behind + count) (sym v)

  joined-found : (items : List (Queue T F)) (i handle : ℕ) (batch : List (Outbound T F)) (q d f : Queue T F)
      → i < length items → ((k : ℕ) (e : Queue T F) → k < i → ((slice_index_or items k e).handle).0 ≢ handle)
      → ((slice_index_or items i f).handle).0 ≡ handle → q.handle ≡ (slice_index_or items i d).handle
      → q.units ≡ (slice_index_or items i d).units ++ batch
      → queues_of (slice_set items i q) ≡ joined handle batch (queues_of items)
  joined-found [] i handle batch q d f lt absent here same more = absurd (omega arith)
  joined-found (x ∷ xs) zero handle batch q d f lt absent here same more = grind (arith, common_steps)
  joined-found (x ∷ xs) (suc i) handle batch q d f lt absent here same more =
      let other : (x.handle).0 ≢ handle = absent 0 d (omega arith) in
      let rest : queues_of (slice_set xs i q) ≡ joined handle batch (queues_of xs) = joined-found xs i handle batch q d f (omega arith) (λ k e h. absent (suc k) e (omega arith)) here same more in
      grind (arith, common_steps)

  pub joined-at : (items new : List (Queue T F)) (i handle : ℕ) (batch : List (Outbound T F)) → IsPlace items handle i
      → ChangesAt items i (λ units. units ++ batch) new → queues_of new ≡ joined handle batch (queues_of items)
  joined-at items new i handle batch p c = ap (λ (qs : List (Queue T F)). queues_of qs) c.changed ∙ joined-found items i handle batch c.queue c.queue p.found p.within p.before p.here c.handle c.units

  joined-none : (items : List (Queue T F)) (handle : ℕ) (batch : List (Outbound T F)) (q : Queue T F)
      → ((k : ℕ) (e : Queue T F) → k < length items → ((slice_index_or items k e).handle).0 ≢ handle)
      → (q.handle).0 ≡ handle → q.units ≡ batch
      → queues_of (items ++ q ∷ []) ≡ joined handle batch (queues_of items)
  joined-none [] handle batch q absent same more = grind (arith, common_steps)
  joined-none (x ∷ xs) handle batch q absent same more =
      let other : (x.handle).0 ≢ handle = absent 0 q (omega arith) in
      let rest : queues_of (xs ++ q ∷ []) ≡ joined handle batch (queues_of xs) = joined-none xs handle batch q (λ k e h. absent (suc k) e (omega arith)) same more in
      grind (arith, common_steps)

  pub joined-last : (items new : List (Queue T F)) (handle : ℕ) (batch : List (Outbound T F)) (q : Queue T F) → IsNowhere items handle
      → new ≡ items ++ q ∷ [] → (q.handle).0 ≡ handle → q.units ≡ batch → queues_of new ≡ joined handle batch (queues_of items)
  joined-last items new handle batch q n is same more = ap (λ (qs : List (Queue T F)). queues_of qs) is ∙ joined-none items handle batch q n.other same more

  followed-found : (items : List (Queue T F)) (i handle : ℕ) (frame : F) (q d f : Queue T F)
      → i < length items → ((k : ℕ) (e : Queue T F) → k < i → ((slice_index_or items k e).handle).0 ≢ handle)
      → ((slice_index_or items i f).handle).0 ≡ handle → q.handle ≡ (slice_index_or items i d).handle
      → q.units ≡ trailed frame (slice_index_or items i d).units
      → queues_of (slice_set items i q) ≡ followed handle frame (queues_of items)
  followed-found [] i handle frame q d f lt absent here same more = absurd (omega arith)
  followed-found (x ∷ xs) zero handle frame q d f lt absent here same more = grind (arith, common_steps)
  followed-found (x ∷ xs) (suc i) handle frame q d f lt absent here same more =
      let other : (x.handle).0 ≢ handle = absent 0 d (omega arith) in
      let rest : queues_of (slice_set xs i q) ≡ followed handle frame (queues_of xs) = followed-found xs i handle frame q d f (omega arith) (λ k e h. absent (suc k) e (omega arith)) here same more in
      grind (arith, common_steps)

  pub followed-at : (items new : List (Queue T F)) (i handle : ℕ) (frame : F) → IsPlace items handle i
      → ChangesAt items i (trailed frame) new → queues_of new ≡ followed handle frame (queues_of items)
  followed-at items new i handle frame p c = ap (λ (qs : List (Queue T F)). queues_of qs) c.changed ∙ followed-found items i handle frame c.queue c.queue p.found p.within p.before p.here c.handle c.units

  units-found : (items : List (Queue T F)) (i handle : ℕ) (f : Queue T F)
      → i < length items → ((k : ℕ) (e : Queue T F) → k < i → ((slice_index_or items k e).handle).0 ≢ handle)
      → ((slice_index_or items i f).handle).0 ≡ handle → EachWaits items → 0 < length (units_of handle (queues_of items))
  units-found [] i handle f lt absent here waits = absurd (omega arith)
  units-found (x ∷ xs) zero handle f lt absent here waits = let some : 0 < length x.units = All-head (λ (q : Queue T F). 0 < length q.units) x xs waits in grind (arith, common_steps)
  units-found (x ∷ xs) (suc i) handle f lt absent here waits =
      let other : (x.handle).0 ≢ handle = absent 0 f (omega arith) in
      let rest : 0 < length (units_of handle (queues_of xs)) = units-found xs i handle f (omega arith) (λ k e h. absent (suc k) e (omega arith)) here (All-tail (λ (q : Queue T F). 0 < length q.units) x xs waits) in
      grind (arith, common_steps)

  pub waits-at : (items : List (Queue T F)) (i handle : ℕ) → IsPlace items handle i → EachWaits items → 0 < length (units_of handle (queues_of items))
  waits-at items i handle p waits = units-found items i handle p.found p.within p.before p.here waits

  units-none : (items : List (Queue T F)) (handle : ℕ)
      → ((k : ℕ) (e : Queue T F) → k < length items → ((slice_index_or items k e).handle).0 ≢ handle) → units_of handle (queues_of items) ≡ []
  units-none [] handle absent = refl
  units-none (x ∷ xs) handle absent =
      let other : (x.handle).0 ≢ handle = absent 0 x (omega arith) in
      let rest : units_of handle (queues_of xs) ≡ [] = units-none xs handle (λ k e h. absent (suc k) e (omega arith)) in
      grind (arith, common_steps)

  units-is : (items : List (Queue T F)) (i handle : ℕ) (f d : Queue T F)
      → i < length items → ((k : ℕ) (e : Queue T F) → k < i → ((slice_index_or items k e).handle).0 ≢ handle)
      → ((slice_index_or items i f).handle).0 ≡ handle → units_of handle (queues_of items) ≡ (slice_index_or items i d).units
  units-is [] i handle f d lt absent here = absurd (omega arith)
  units-is (x ∷ xs) zero handle f d lt absent here = grind (arith, common_steps)
  units-is (x ∷ xs) (suc i) handle f d lt absent here =
      let other : (x.handle).0 ≢ handle = absent 0 f (omega arith) in
      let rest : units_of handle (queues_of xs) ≡ (slice_index_or xs i d).units = units-is xs i handle f d (omega arith) (λ k e h. absent (suc k) e (omega arith)) here in
      grind (arith, common_steps)

  -- the transfers of the link at a place
  pub units-at : (items : List (Queue T F)) (i handle : ℕ) (d : Queue T F) → IsPlace items handle i → units_of handle (queues_of items) ≡ (slice_index_or items i d).units
  units-at items i handle d p = units-is items i handle p.found d p.within p.before p.here

  pub room-at : (count : ℕ) (items : List (Queue T F)) (i handle : ℕ) (d : Queue T F) → IsPlace items handle i → room_behind handle count (queues_of items) ≡ last_room count (slice_index_or items i d).units
  room-at count items i handle d p = ap (λ (us : List (Outbound T F)). last_room count us) (units-at items i handle d p)

  pub waits-nowhere : (items : List (Queue T F)) (handle : ℕ) → IsNowhere items handle → units_of handle (queues_of items) ≡ []
  waits-nowhere items handle n = units-none items handle n.other

  held-case : (b : Bool) (left right : Queues T F) (n : ℕ) → held_in left ≡ n → held_in right ≡ n → held_in (if b then left else right) ≡ n
  held-case true left right n y z = y
  held-case false left right n y z = z

  pub held-joined : (handle : ℕ) (batch : List (Outbound T F)) (queues : Queues T F) → held_in (joined handle batch queues) ≡ held_in queues + length batch
  held-joined handle batch [] = omega arith
  held-joined handle batch (q ∷ queues) =
      let rest : held_in (joined handle batch queues) ≡ held_in queues + length batch = held-joined handle batch queues in
      held-case (q.0 == handle) _ _ _ (omega (arith, length-append q.1 batch)) (omega arith)

  pub held-at : (items : List (Queue T F)) (i : ℕ) (d : Queue T F) → i < length items → length (slice_index_or items i d).units ≤ held_in (queues_of items)
  held-at [] i d lt = absurd (omega arith)
  held-at (x ∷ items) zero d lt = omega arith
  held-at (x ∷ items) (suc i) d lt =
      let rest : length (slice_index_or items i d).units ≤ held_in (queues_of items) = held-at items i d (omega arith) in
      omega arith

  pub trailed-length : (frame : F) (units : List (Outbound T F)) → length (trailed frame units) ≡ length units
  trailed-length frame [] = refl
  trailed-length frame (u ∷ []) = refl
  trailed-length frame (u ∷ v ∷ us) = let rest : length (trailed frame (v ∷ us)) ≡ length (v ∷ us) = trailed-length frame (v ∷ us) in omega arith

  pub held-followed : (handle : ℕ) (frame : F) (queues : Queues T F) → held_in (followed handle frame queues) ≡ held_in queues
  held-followed handle frame [] = refl
  held-followed handle frame (q ∷ queues) =
      let rest : held_in (followed handle frame queues) ≡ held_in queues = held-followed handle frame queues in
      held-case (q.0 == handle) _ _ _ (omega (arith, trailed-length frame q.1)) (omega arith)

pub ruleset rules = (held-joined, held-followed, firsts-followed, on_ok, on_err)
