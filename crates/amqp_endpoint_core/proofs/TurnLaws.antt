-- Turns of a caller's loop, one after the other.
use Rattle.std.proofs.Common.{◌≡◌, ℕ, ◌+◌, ◌-◌, ◌^◌, ◌<◌, ◌&&◌, Bool, true, false, List, [], ◌∷◌, ◌++◌, length}
use Rattle.std.proofs.Common.{Option, Some, None, is_some, Result, Ok, Err, refl, sym, ◌∙◌, ap, subst, inl, inr}
use Rattle.std.proofs.Common.{append_assoc, length-append}
use Rattle.std.specs.Io.KnownBytes.{Keeps}
use Rattle.amqp_endpoint_model.specs.declared.error.EndpointError.{EndpointError}
use Rattle.amqp_endpoint_model.specs.declared.event.Event.{Event}
use Rattle.amqp_endpoint_model.specs.Relay.{Relations}
use Rattle.amqp_endpoint_model.specs.State.{State, Waiting}
use Rattle.amqp_endpoint_core.specs.declared.error.CallerError.{CallerError}
use Rattle.amqp_endpoint_core.specs.declared.error.CallerError.TheVariants.{Endpoint, Stream}
use Rattle.amqp_endpoint_core.specs.Moves.{EndsReading, Receives, Sends, StopsWriting}
use Rattle.amqp_endpoint_core.specs.Turns.{Caller, caller, AllGoOn, AnswersAll, ComesTo, ComesToRead, EndsBroken}
use Rattle.amqp_endpoint_core.specs.Turns.{EndsByFault, GoesOn, GoesOnFor, Hears, IsOver, ReactsTo, RefusesOne, Serves}
use Rattle.amqp_endpoint_core.specs.Turns.{StopsAtWriting, StopsBehindFault, Turn, WritesAll}
use Rattle.std.specs.declared.io.Error.{Error as StreamError}

module _ {P S : Type 0} (reacts : P → State S → Event → Result (Unit {0}) EndpointError → P → State S → Type 0) where
  -- one more event is answered
  pub answers_more : (p q r : P) (s t u : State S) (events : List Event) (event : Event)
      → AnswersAll reacts p s events q t → reacts q t event (Ok tt) r u
      → AnswersAll reacts p s (events ++ event ∷ []) r u
  answers_more p q r s t u [] event (same, is) more =
      let first = subst (λ (x : P). reacts x t event (Ok tt) r u) same more in
      (r, u, subst (λ (x : State S). reacts p x event (Ok tt) r u) is first, (refl, refl))
  answers_more p q r s t u (first ∷ events) event (a, b, answered, others) more =
      (a, b, answered, answers_more a q r b t u events event others more)

  -- the next one is refused
  pub refuses_next : (p q r : P) (s t u : State S) (events front untold : List Event) (event : Event)
      (e d : EndpointError) (result : Result (Unit {0}) EndpointError) → events ≡ front ++ event ∷ untold
      → AnswersAll reacts p s front q t → reacts q t event (Err e) r u → result ≡ Err d → d ≡ e
      → ReactsTo reacts p s events result r u
  refuses_next p q r s t u events front untold event e d result in_order answers refuses is same =
      let T : Result (Unit {0}) EndpointError → Type 0 = λ outcome. ReactsTo reacts p s events outcome r u in
      subst T (sym (is ∙ ap Err same)) (record {
        front = front;
        event = event;
        untold = untold;
        program_mid = q;
        mid = t;
        in_order = in_order;
        answers = answers;
        refuses = refuses;
      })

-- what is told next is in order
pub told_next : {A : Type 0} (all told left others : List A) (next : A) → all ≡ told ++ left → left ≡ next ∷ others
    → all ≡ told ++ next ∷ others
told_next {A = A} all told left others next is first = is ∙ ap (λ (xs : List A). told ++ xs) first

pub told_more : {A : Type 0} (all told left others : List A) (next : A) → all ≡ told ++ left → left ≡ next ∷ others
    → all ≡ (told ++ next ∷ []) ++ others
told_more all told left others next is first =
    told_next all told left others next is first ∙ sym (append_assoc told (next ∷ []) others)

-- what is written leaves both Close as they are
pub closed_alike : {S : Type 0} {a b : Option (List ℕ)} {s t : State S} {xs ys : List ℕ} → Sends a b s xs t ys
    → (t.own_close && t.peer_close) ≡ (s.own_close && s.peer_close)
closed_alike {S = S} sent = ap (λ (u : State S). u.own_close && u.peer_close) sent.after

module _ {P S : Type 0} where
  -- all is written
  pub writes_all : (p : P) (l : Option (List ℕ)) {a b : Option (List ℕ)} {s t : State S} {xs ys : List ℕ}
      → Sends a b s xs t ys → (ys ≡ []) × (t.queue ≡ []) → WritesAll (caller p s xs l a) (caller p t ys l b)
  writes_all p l sent all =
      record { writes = record { sends = sent; others = refl }; none_held = all.0; none_queued = all.1 }

  -- and then it is read
  pub comes_to_read : (p : P) (l : Option (List ℕ)) {a b : Option (List ℕ)} {s t : State S} {xs ys : List ℕ}
      {closed : Bool} → Sends a b s xs t ys → (ys ≡ []) × (t.queue ≡ []) → closed ≡ (t.own_close && t.peer_close)
      → closed ≡ false → ComesToRead (caller p s xs l a) (caller p t ys l b)
  comes_to_read p l sent all is goes_on =
      record { goes_on = sym (closed_alike sent) ∙ sym is ∙ goes_on; writes = writes_all p l sent all }

  -- the writing stops
  pub stops_at_writing : (p : P) (l : Option (List ℕ)) {a b : Option (List ℕ)} {s t : State S} {xs ys : List ℕ}
      {e : CallerError} → Sends a b s xs t ys → StopsWriting e
      → StopsAtWriting (caller p s xs l a) e (caller p t ys l b)
  stops_at_writing p l sent why = record { writes = record { sends = sent; others = refl }; why = why }

module _ {P S : Type 0} (does : Relations S)
    (reacts : P → State S → Event → Result (Unit {0}) EndpointError → P → State S → Type 0)
  where
    -- the reader refuses
    pub stops_at_reading : {old before : Caller P S} (m : Option (List ℕ)) {u : State S} {refusal : StreamError}
        {d : CallerError} {result : Result Bool CallerError} → ComesToRead old before → Keeps before.to_come m
        → u ≡ before.endpoint → result ≡ Err d → d ≡ Stream refusal
        → Turn does reacts old result (caller before.program u before.held m before.written)
    stops_at_reading {old = old} {before = before} m {u = u} comes nothing same is why =
        let T : Result Bool CallerError → Type 0 =
        λ r. Turn does reacts old r (caller before.program u before.held m before.written) in
        subst T (sym (is ∙ ap Err why))
        (inr (inl (record {
          before = before;
          comes = comes;
          nothing = nothing;
          others = ap (λ (v : State S). caller before.program v before.held m before.written) same;
        })))

    -- the peer sends no more
    pub ends_broken : {old before : Caller P S} {m : Option (List ℕ)} {u : State S} → ComesToRead old before
        → EndsReading does before.to_come m before.endpoint u
        → IsOver does reacts old (caller before.program u before.held m before.written)
    ends_broken {before = before} comes ends =
        inr (inl (record { before = before; comes = comes; ends = ends; others = refl }))

    -- some bytes are fed
    pub hears : {old before : Caller P S} {m : Option (List ℕ)} {u : State S} {events : List Event}
        {fault : Option EndpointError} (outcome : Result (Unit {0}) EndpointError) (q : P) (v : State S)
        → ComesToRead old before → Receives does before.to_come m before.endpoint events fault u
        → ReactsTo reacts before.program u events outcome q v
        → Hears does reacts old fault outcome (caller q v before.held m before.written)
    hears {before = before} {u = u} {events = events} outcome q v comes receives told =
        record {
          before = before;
          comes = comes;
          events = events;
          fed = u;
          receives = receives;
          told = told;
          others = refl;
        }

    -- the program refuses
    pub stops_at_event : {old new : Caller P S} {fault : Option EndpointError} {e : EndpointError} {d : CallerError}
        {result : Result Bool CallerError} → Hears does reacts old fault (Err e) new → result ≡ Err d
        → d ≡ Endpoint e → Turn does reacts old result new
    stops_at_event {old = old} {new = new} {fault = fault} heard is why =
        let T : Result Bool CallerError → Type 0 = λ r. Turn does reacts old r new in
        subst T (sym (is ∙ ap Err why)) (inr (inl (record { fault = fault; hears = heard })))

    behind_fault : (old before new : Caller P S) (fault : EndpointError) (e : CallerError)
        → Hears does reacts old (Some fault) (Ok tt) before → StopsAtWriting before e new
        → Turn does reacts old (Err e) new
    behind_fault old before new fault (Stream refusal) heard stops =
        inr (inr (record { fault = fault; before = before; hears = heard; stops = stops }))
    behind_fault old before new fault (Endpoint refusal) heard stops =
        inr (inr (record { fault = fault; before = before; hears = heard; stops = stops }))

    -- a fault came, and the writing behind it stops
    pub stops_behind_fault : (old before new : Caller P S) (fault : Option EndpointError) (e d : CallerError)
        (result : Result Bool CallerError) → Hears does reacts old fault (Ok tt) before → is_some fault ≡ true
        → StopsAtWriting before e new → result ≡ Err d → d ≡ e → Turn does reacts old result new
    stops_behind_fault old before new None e d result heard came stops is why = absurd (cc)
    stops_behind_fault old before new (Some fault) e d result heard came stops is why =
        let T : Result Bool CallerError → Type 0 = λ r. Turn does reacts old r new in
        subst T (sym (is ∙ ap Err why)) (behind_fault old before new fault e heard stops)

    -- and all is written
    pub ends_by_fault : (old before new : Caller P S) (fault : Option EndpointError)
        → Hears does reacts old fault (Ok tt) before → is_some fault ≡ true → WritesAll before new
        → IsOver does reacts old new
    ends_by_fault old before new None heard came writes = absurd (cc)
    ends_by_fault old before new (Some fault) heard came writes =
        inr (inr (record { fault = fault; before = before; hears = heard; writes = writes }))

    -- no fault came
    pub goes_on : (old new : Caller P S) (fault : Option EndpointError) → Hears does reacts old fault (Ok tt) new
        → is_some fault ≡ false → GoesOn does reacts old new
    goes_on old new None heard none = heard
    goes_on old new (Some fault) heard none = absurd (cc)

    all_more : (a b c : Caller P S) (behind : List (Caller P S)) → AllGoOn does reacts a behind b
        → GoesOn does reacts b c → AllGoOn does reacts a (behind ++ c ∷ []) c
    all_more a b c [] same more = (subst (λ (x : Caller P S). GoesOn does reacts x c) same more, refl)
    all_more a b c (mid ∷ behind) (first, others) more = (first, all_more mid b c behind others more)

    -- one more turn goes on
    pub goes_on_more : (count : ℕ) (a b c : Caller P S) → GoesOnFor does reacts count a b → GoesOn does reacts b c
        → GoesOnFor does reacts (count + 1) a c
    goes_on_more count a b c so_far more =
        record {
          behind = so_far.behind ++ c ∷ [];
          as_many = length-append so_far.behind (c ∷ []) ∙ ap (λ (n : ℕ). n + 1) so_far.as_many;
          go_on = all_more a b c so_far.behind so_far.go_on more;
        }

    -- then comes one that is over
    pub comes_to_end : (count : ℕ) (old before new : Caller P S) (going : Bool)
        → GoesOnFor does reacts count old before → count < 2 ^ 64 - 1 → Turn does reacts before (Ok going) new
        → going ≡ false → ComesTo does reacts old (Ok false) new
    comes_to_end count old before new true so_far few turn over = absurd (cc)
    comes_to_end count old before new false so_far few turn over =
        record { count = count; few = few; before = before; go_on = so_far; turn = turn }

    -- or one more
    pub comes_on : (count : ℕ) (old before new : Caller P S) (going : Bool)
        → GoesOnFor does reacts count old before → Turn does reacts before (Ok going) new → going ≡ true
        → GoesOnFor does reacts (count + 1) old new
    comes_on count old before new true so_far turn goes = goes_on_more count old before new so_far turn
    comes_on count old before new false so_far turn goes = absurd (cc)

    serves_refusal : (old new : Caller P S) (e : CallerError) → ComesTo does reacts old (Err e) new
        → Serves does reacts old (Err e) new
    serves_refusal old new (Stream refusal) comes = inl comes
    serves_refusal old new (Endpoint refusal) comes = comes

    -- or one that stops
    pub comes_to_refusal : (count : ℕ) (old before new : Caller P S) (e d : CallerError)
        (result : Result (Unit {0}) CallerError) → GoesOnFor does reacts count old before → count < 2 ^ 64 - 1
        → Turn does reacts before (Err e) new → result ≡ Err d → d ≡ e → Serves does reacts old result new
    comes_to_refusal count old before new e d result so_far few turn is same =
        let T : Result (Unit {0}) CallerError → Type 0 = λ r. Serves does reacts old r new in
        subst T (sym (is ∙ ap Err same))
        (serves_refusal old new e
        (record { count = count; few = few; before = before; go_on = so_far; turn = turn }))
