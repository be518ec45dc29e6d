-- Room behind the last of a link's transfers, as transfers join and leave.
use Rattle.std.proofs.Common.{◌≡◌, ℕ, ◌≤◌, List, [], ◌∷◌, ◌++◌, length, arith, Bool, true, false, refl, sym, ◌∙◌}
use Rattle.std.proofs.Common.{ap, subst}
use Rattle.std.proofs.lemmas.List.Elements.{All-head, All-tail}
use Rattle.std.specs.Prelude.{◌==◌, if◌then◌else◌, All}
use Rattle.amqp_session_outgoing.specs.Frames.{last_room}
use Rattle.amqp_session_outgoing.specs.Queues.{Queues, TakesTurn, Distinct, joined, room_behind, units_of}
use Rattle.amqp_session_outgoing.specs.State.{State, Leaves, Leaving, with_batch}
use Rattle.amqp_session_outgoing.specs.declared.frames.Outbound.{Outbound}
use Rattle.amqp_session_outgoing.specs.declared.frames.Sent.{Sent}
use Rattle.amqp_session_outgoing.proofs.Order.{if_same, joined-distinct, joined-units, turn-distinct, turn-units}

module _ {T F : Type 0} where
  -- nothing stands behind these transfers
  abbrev pub StandAlone : List (Outbound T F) → Type 0
  StandAlone units = All (λ (u : Outbound T F). u.behind ≡ []) units

  room-rest : (count : ℕ) (u : Outbound T F) (us : List (Outbound T F)) → last_room count us ≤ last_room count (u ∷ us)
  room-rest count u [] = omega arith
  room-rest count u (v ∷ us) = omega arith

  room-after-turn : (count : ℕ) (b : Bool) (u : Outbound T F) (us units : List (Outbound T F))
      → (if b then u ∷ us else us) ≡ units → last_room count us ≤ last_room count units
  room-after-turn count true u us units e =
      subst (λ (xs : List (Outbound T F)). last_room count us ≤ last_room count xs) e (room-rest count u us)
  room-after-turn count false u us units e =
      subst (λ (xs : List (Outbound T F)). last_room count us ≤ last_room count xs) e (omega arith)

  -- as transfers leave a link's last one stays, or none is left
  room-leaves : (handle count : ℕ) (left : List (Sent T F)) (old new : State T F) → Distinct old.queues
      → Leaves old left new → room_behind handle count new.queues ≤ room_behind handle count old.queues
  room-leaves handle count [] old new d run =
      subst (λ (s : State T F). room_behind handle count s.queues ≤ room_behind handle count old.queues) (sym run)
      (omega arith)
  room-leaves handle count (s ∷ left) old new d run =
      let turn = turn-units handle old.queues (s.handle).0 run.1.taken (run.0).queues d run.1.turn in
      let one : room_behind handle count (run.0).queues ≤ room_behind handle count old.queues =
      room-after-turn count ((s.handle).0 == handle) run.1.taken (units_of handle (run.0).queues)
      (units_of handle old.queues) turn in
      let apart : Distinct (run.0).queues =
      turn-distinct old.queues (s.handle).0 run.1.taken (run.0).queues d run.1.turn in
      let rest : room_behind handle count new.queues ≤ room_behind handle count (run.0).queues =
      room-leaves handle count left run.0 new apart run.2 in
      omega (arith, one, rest)

  room-alone : (count most : ℕ) (batch : List (Outbound T F)) → StandAlone batch → count ≤ most
      → last_room count batch ≤ most
  room-alone count most [] alone enough = omega arith
  room-alone count most (u ∷ []) alone enough =
      omega (arith, enough, ap (λ (fs : List F). length fs) (All-head (λ (x : Outbound T F). x.behind ≡ []) u [] alone))
  room-alone count most (u ∷ v ∷ us) alone enough =
      room-alone count most (v ∷ us) (All-tail (λ (x : Outbound T F). x.behind ≡ []) u (v ∷ us) alone) enough

  room-append : (count most : ℕ) (us batch : List (Outbound T F)) → StandAlone batch → last_room count us ≤ most
      → count ≤ most → last_room count (us ++ batch) ≤ most
  room-append count most [] batch alone fits enough = room-alone count most batch alone enough
  room-append count most (u ∷ []) [] alone fits enough = fits
  room-append count most (u ∷ []) (v ∷ vs) alone fits enough = room-alone count most (v ∷ vs) alone enough
  room-append count most (u ∷ v ∷ us) batch alone fits enough =
      room-append count most (v ∷ us) batch alone fits enough

  -- behind a batch that joins, so much room is enough as was before, where it is for so many frames alone
  room-joined : (handle count most : ℕ) (batch : List (Outbound T F)) (queues : Queues T F) → StandAlone batch
      → room_behind handle count queues ≤ most → count ≤ most
      → room_behind handle count (joined handle batch queues) ≤ most
  room-joined handle count most batch queues alone fits enough =
      let units : units_of handle (joined handle batch queues) ≡ units_of handle queues ++ batch =
      joined-units handle handle batch queues
      ∙ ap (λ (us : List (Outbound T F)). units_of handle queues ++ us) (if_same handle handle batch [] refl) in
      subst (λ (us : List (Outbound T F)). last_room count us ≤ most) (sym units)
      (room-append count most (units_of handle queues) batch alone fits enough)

  -- a batch joins, and transfers leave
  pub room-batch : (handle : ℕ) (batch : List (Outbound T F)) (old mid : State T F) (out : List (Sent T F))
      (new : State T F) (out_new : List (Sent T F)) → mid ≡ with_batch old handle batch → Distinct mid.queues
      → Leaving mid out new out_new → (count most : ℕ) → StandAlone batch
      → room_behind handle count old.queues ≤ most → count ≤ most → room_behind handle count new.queues ≤ most
  room-batch handle batch old mid out new out_new is apart t count most alone fits enough =
      let joins : room_behind handle count mid.queues ≤ most =
      subst (λ (s : State T F). room_behind handle count s.queues ≤ most) (sym is)
      (room-joined handle count most batch old.queues alone fits enough) in
      omega (arith, joins, room-leaves handle count t.left mid new apart t.run)

  -- a batch that joins where nothing waits stands in the turn alone
  pub apart-alone : (handle : ℕ) (batch : List (Outbound T F)) (queues : Queues T F) → queues ≡ []
      → Distinct (joined handle batch queues)
  apart-alone handle batch queues none =
      joined-distinct handle batch queues (subst (λ (qs : Queues T F). Distinct qs) (sym none) tt)
