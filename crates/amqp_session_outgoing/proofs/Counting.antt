-- How many frames wait.
use Rattle.std.proofs.Common.{◌≡◌, ℕ, ◌+◌, ◌*◌, ◌<◌, ◌≤◌, ◌^◌, suc, zero, List, [], ◌∷◌, ◌++◌, length, take, arith, Bool, true, false, sym, ap, ◌∙◌, subst, length-append, length-take, inl, inr}
use Rattle.std.specs.Prelude.{slice_index_or, ◌==◌, if◌then◌else◌}
use Rattle.amqp_session_outgoing.specs.Frames.{frames_count, sent_count, last_room}
use Rattle.amqp_session_outgoing.specs.Queues.{Queues, held_in, frames_in, units_of, room_behind, joined, followed, trailed, rejoined, TakesTurn, TakesTurnOf}
use Rattle.amqp_session_outgoing.specs.State.{State, Leaves, Leaving, Sends, with_window, with_batch}
use Rattle.amqp_session_outgoing.specs.History.{Takes, TakesWindow}
use Rattle.amqp_session_outgoing.specs.Fields.{AllShort, EachShort}
use Rattle.amqp_session_outgoing.specs.declared.frames.Outbound.{Outbound}
use Rattle.amqp_session_outgoing.specs.declared.frames.Sent.{Sent}
use Rattle.amqp_session_outgoing.proofs.Order.{if_same, if_other, same_or_other}

module _ {T F : Type 0} where
  frames-append : (us vs : List (Outbound T F)) → frames_count (us ++ vs) ≡ frames_count us + frames_count vs
  frames-append [] vs = omega arith
  frames-append (u ∷ us) vs = let rest : frames_count (us ++ vs) ≡ frames_count us + frames_count vs = frames-append us vs in omega arith

  frames-case : (b : Bool) (left right : Queues T F) (n : ℕ) → frames_in left ≡ n → frames_in right ≡ n → frames_in (if b then left else right) ≡ n
  frames-case true left right n y z = y
  frames-case false left right n y z = z

  pub frames-joined : (handle : ℕ) (batch : List (Outbound T F)) (queues : Queues T F) → frames_in (joined handle batch queues) ≡ frames_in queues + frames_count batch
  frames-joined handle batch [] = omega arith
  frames-joined handle batch (q ∷ queues) =
      let rest : frames_in (joined handle batch queues) ≡ frames_in queues + frames_count batch = frames-joined handle batch queues in
      frames-case (q.0 == handle) _ _ _ (omega (arith, frames-append q.1 batch)) (omega arith)

  frames-push : (queues : Queues T F) (q : ℕ × List (Outbound T F)) → frames_in (queues ++ q ∷ []) ≡ frames_in queues + frames_count q.1
  frames-push [] q = omega arith
  frames-push (x ∷ queues) q = let rest : frames_in (queues ++ q ∷ []) ≡ frames_in queues + frames_count q.1 = frames-push queues q in omega arith

  frames-rejoined : (handle : ℕ) (units : List (Outbound T F)) (others : Queues T F) → frames_in (rejoined handle units others) ≡ frames_in others + frames_count units
  frames-rejoined handle [] others = omega arith
  frames-rejoined handle (u ∷ us) others = frames-push others (handle, u ∷ us)

  frames-turn-of : (first : ℕ) (units : List (Outbound T F)) (others : Queues T F) (handle : ℕ) (taken : Outbound T F) (new : Queues T F)
      → TakesTurnOf first units others handle taken new → frames_in new + (length taken.behind + 1) ≡ frames_count units + frames_in others
  frames-turn-of first [] others handle taken new t = absurd t
  frames-turn-of first (u ∷ us) others handle taken new t =
      let e : frames_in new ≡ frames_in others + frames_count us = ap (λ (qs : Queues T F). frames_in qs) t.2 ∙ frames-rejoined first us others in
      let same : length taken.behind ≡ length u.behind = ap (λ (v : Outbound T F). length v.behind) t.1 in
      omega arith

  -- a transfer and the frames behind it no longer wait
  pub frames-turn : (old : Queues T F) (handle : ℕ) (taken : Outbound T F) (new : Queues T F) → TakesTurn old handle taken new → frames_in new + (length taken.behind + 1) ≡ frames_in old
  frames-turn [] handle taken new t = absurd t
  frames-turn (q ∷ others) handle taken new t = frames-turn-of q.0 q.1 others handle taken new t

  frames-trailed : (frame : F) (units : List (Outbound T F)) → 0 < length units → frames_count (trailed frame units) ≡ frames_count units + 1
  frames-trailed frame [] some = absurd (omega arith)
  frames-trailed frame (u ∷ []) some = omega (arith, length-append u.behind (frame ∷ []))
  frames-trailed frame (u ∷ v ∷ us) some =
      let rest : frames_count (trailed frame (v ∷ us)) ≡ frames_count (v ∷ us) + 1 = frames-trailed frame (v ∷ us) (omega arith) in
      omega arith

  -- one frame more waits
  pub frames-followed : (handle : ℕ) (frame : F) (queues : Queues T F) → 0 < length (units_of handle queues) → frames_in (followed handle frame queues) ≡ frames_in queues + 1
  frames-followed handle frame [] some = absurd (omega arith)
  frames-followed handle frame (q ∷ queues) some =
      elim (same_or_other q.0 handle) [
        | inl e ↦
            let here : 0 < length q.1 = subst (λ (us : List (Outbound T F)). 0 < length us) (if_same q.0 handle _ _ e) some in
            ap (λ (qs : Queues T F). frames_in qs) (if_same q.0 handle _ _ e) ∙ omega (arith, frames-trailed frame q.1 here)
        | inr n ↦
            let later : 0 < length (units_of handle queues) = subst (λ (us : List (Outbound T F)). 0 < length us) (if_other q.0 handle _ _ n) some in
            ap (λ (qs : Queues T F). frames_in qs) (if_other q.0 handle _ _ n) ∙ omega (arith, frames-followed handle frame queues later)
      ]

  -- no more than so many frames wait
  pub frames-count-bound : (us : List (Outbound T F)) → AllShort us → frames_count us ≤ length us * 2 ^ 64
  frames-count-bound [] h = omega arith
  frames-count-bound (u ∷ us) h =
      let rest : frames_count us ≤ length us * 2 ^ 64 = frames-count-bound us h.1 in
      omega (arith, h.0)

  frames-bound : (queues : Queues T F) → EachShort queues → frames_in queues ≤ held_in queues * 2 ^ 64
  frames-bound [] h = omega arith
  frames-bound (q ∷ queues) h =
      let rest : frames_in queues ≤ held_in queues * 2 ^ 64 = frames-bound queues h.1 in
      omega (arith, frames-count-bound q.1 h.0)

  -- so the count of those that wait, and of a batch more, fits
  pub frames-fit : (queues : Queues T F) (batch : List (Outbound T F)) → EachShort queues → AllShort batch → held_in queues + length batch < 2 ^ 64 → frames_in queues + frames_count batch < 2 ^ 128
  frames-fit queues batch h b less = omega (arith, frames-bound queues h, frames-count-bound batch b, less)

  pub count-fits : (us : List (Outbound T F)) (i count more : ℕ) → AllShort (take i us) → count ≡ frames_count (take i us) → i < length us → length us < 2 ^ 64 → more < 2 ^ 64 → count + (1 + more) < 2 ^ 128
  count-fits us i count more h e lt few less = omega (arith, frames-count-bound (take i us) h, length-take i us, e, lt, few, less)

  pub frames-few : (queues : Queues T F) → EachShort queues → held_in queues < 2 ^ 64 → frames_in queues + 1 < 2 ^ 128
  frames-few queues h less = omega (arith, frames-bound queues h, less)

  short-append : (us vs : List (Outbound T F)) → AllShort us → AllShort vs → AllShort (us ++ vs)
  short-append [] vs h b = b
  short-append (u ∷ us) vs h b = (h.0, short-append us vs h.1 b)

  short-push : (queues : Queues T F) (q : ℕ × List (Outbound T F)) → EachShort queues → AllShort q.1 → EachShort (queues ++ q ∷ [])
  short-push [] q h b = (b, tt)
  short-push (x ∷ queues) q h b = (h.0, short-push queues q h.1 b)

  pub short-joined : (handle : ℕ) (batch : List (Outbound T F)) (queues : Queues T F) → EachShort queues → AllShort batch → EachShort (joined handle batch queues)
  short-joined handle batch [] h b = (b, tt)
  short-joined handle batch (q ∷ queues) h b =
      elim (q.0 == handle) as (λ x. EachShort (if x then (handle, q.1 ++ batch) ∷ queues else q ∷ joined handle batch queues)) [
        | true ↦ (short-append q.1 batch h.0 b, h.1)
        | false ↦ (h.0, short-joined handle batch queues h.1 b)
      ]

  short-trailed : (frame : F) (units : List (Outbound T F)) → AllShort units → last_room 1 units < 2 ^ 64 → AllShort (trailed frame units)
  short-trailed frame [] h less = tt
  short-trailed frame (u ∷ []) h less = (omega (arith, less, length-append u.behind (frame ∷ [])), tt)
  short-trailed frame (u ∷ v ∷ us) h less = (h.0, short-trailed frame (v ∷ us) h.1 less)

  pub short-followed : (handle : ℕ) (frame : F) (queues : Queues T F) → EachShort queues → room_behind handle 1 queues < 2 ^ 64 → EachShort (followed handle frame queues)
  short-followed handle frame [] h less = tt
  short-followed handle frame (q ∷ queues) h less =
      elim (same_or_other q.0 handle) [
        | inl e ↦
            let here : last_room 1 q.1 < 2 ^ 64 = subst (λ (us : List (Outbound T F)). last_room 1 us < 2 ^ 64) (if_same q.0 handle _ _ e) less in
            subst (λ (qs : Queues T F). EachShort qs) (sym (if_same q.0 handle _ _ e)) (short-trailed frame q.1 h.0 here, h.1)
        | inr n ↦
            let later : room_behind handle 1 queues < 2 ^ 64 = subst (λ (us : List (Outbound T F)). last_room 1 us < 2 ^ 64) (if_other q.0 handle _ _ n) less in
            subst (λ (qs : Queues T F). EachShort qs) (sym (if_other q.0 handle _ _ n)) (h.0, short-followed handle frame queues h.1 later)
      ]

  short-rejoined : (handle : ℕ) (units : List (Outbound T F)) (others : Queues T F) → EachShort others → AllShort units → EachShort (rejoined handle units others)
  short-rejoined handle [] others h b = h
  short-rejoined handle (u ∷ us) others h b = short-push others (handle, u ∷ us) h b

  short-turn-of : (first : ℕ) (units : List (Outbound T F)) (others : Queues T F) (handle : ℕ) (taken : Outbound T F) (new : Queues T F)
      → TakesTurnOf first units others handle taken new → AllShort units → EachShort others → EachShort new
  short-turn-of first [] others handle taken new t b h = absurd t
  short-turn-of first (u ∷ us) others handle taken new t b h = subst (λ (qs : Queues T F). EachShort qs) (sym t.2) (short-rejoined first us others h b.1)

  pub short-turn : (old : Queues T F) (handle : ℕ) (taken : Outbound T F) (new : Queues T F) → TakesTurn old handle taken new → EachShort old → EachShort new
  short-turn [] handle taken new t h = absurd t
  short-turn (q ∷ others) handle taken new t h = short-turn-of q.0 q.1 others handle taken new t h.0 h.1

  -- a count of the first transfers of a batch
  pub frames-more : (us : List (Outbound T F)) (i : ℕ) (d : Outbound T F) → i < length us → frames_count (take (i + 1) us) ≡ frames_count (take i us) + (length (slice_index_or us i d).behind + 1)
  frames-more [] i d lt = absurd (omega arith)
  frames-more (u ∷ us) zero d lt = omega arith
  frames-more (u ∷ us) (suc i) d lt =
      let e : suc i + 1 ≡ suc (i + 1) = omega arith in
      let rest : frames_count (take (i + 1) us) ≡ frames_count (take i us) + (length (slice_index_or us i d).behind + 1) = frames-more us i d (omega arith) in
      ap (λ (k : ℕ). frames_count (take k (u ∷ us))) e ∙ omega arith

  pub short-more : (us : List (Outbound T F)) (i : ℕ) (d : Outbound T F) → i < length us → AllShort (take i us) → length (slice_index_or us i d).behind < 2 ^ 64 → AllShort (take (i + 1) us)
  short-more [] i d lt h less = absurd (omega arith)
  short-more (u ∷ us) zero d lt h less = (less, tt)
  short-more (u ∷ us) (suc i) d lt h less =
      let e : suc i + 1 ≡ suc (i + 1) = omega arith in
      subst (λ (k : ℕ). AllShort (take k (u ∷ us))) (sym e) (h.0, short-more us i d (omega arith) h.1 less)

  sent-append : (xs ys : List (Sent T F)) → sent_count (xs ++ ys) ≡ sent_count xs + sent_count ys
  sent-append [] ys = omega arith
  sent-append (x ∷ xs) ys = let rest : sent_count (xs ++ ys) ≡ sent_count xs + sent_count ys = sent-append xs ys in omega arith

  frames-sends : (old new : State T F) (s : Sent T F) → Sends old s new → frames_in new.queues + (length s.behind + 1) ≡ frames_in old.queues
  frames-sends old new s x =
      let same : length s.behind ≡ length x.taken.behind = ap (λ (t : Sent T F). length t.behind) x.says in
      omega (arith, frames-turn old.queues (s.handle).0 x.taken new.queues x.turn)

  -- what left no longer waits
  frames-leaves : (left : List (Sent T F)) (old new : State T F) → Leaves old left new → sent_count left + frames_in new.queues ≡ frames_in old.queues
  frames-leaves [] old new run = let same : frames_in new.queues ≡ frames_in old.queues = ap (λ (s : State T F). frames_in s.queues) run in omega arith
  frames-leaves (s ∷ left) old new run =
      let rest : sent_count left + frames_in new.queues ≡ frames_in (run.0).queues = frames-leaves left run.0 new run.2 in
      omega (arith, frames-sends old run.0 s run.1)

  -- frames are handed out or wait
  pub takes-window : (base width : ℕ) (old : State T F) (out : List (Sent T F)) (new : State T F) (out_new : List (Sent T F)) → Takes (TakesWindow base width) old out new out_new
      → sent_count out_new + frames_in new.queues ≡ sent_count out + frames_in old.queues
  takes-window base width old out new out_new t =
      let all : sent_count out_new ≡ sent_count out + sent_count t.left = ap (λ (ls : List (Sent T F)). sent_count ls) t.added ∙ sent-append out t.left in
      omega (arith, frames-leaves t.left (with_window old base width) new t.stepped.0)

  pub leaving-batch : (handle : ℕ) (batch : List (Outbound T F)) (old mid : State T F) (out : List (Sent T F)) (new : State T F) (out_new : List (Sent T F)) → mid ≡ with_batch old handle batch → Leaving mid out new out_new
      → sent_count out_new + frames_in new.queues ≡ sent_count out + frames_in old.queues + frames_count batch
  leaving-batch handle batch old mid out new out_new is t =
      let all : sent_count out_new ≡ sent_count out + sent_count t.left = ap (λ (ls : List (Sent T F)). sent_count ls) t.added ∙ sent-append out t.left in
      let joins : frames_in mid.queues ≡ frames_in old.queues + frames_count batch = ap (λ (s : State T F). frames_in s.queues) is ∙ frames-joined handle batch old.queues in
      omega (arith, frames-leaves t.left mid new t.run)
