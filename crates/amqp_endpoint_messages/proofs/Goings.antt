-- What goes back of a disposition, run by run.
use Rattle.std.proofs.Common.{◌≡◌, ℕ, Bool, true, false, List, [], ◌∷◌, ◌++◌, map, refl, sym, ap, subst, ◌∙◌}
use Rattle.std.proofs.Common.{append-nil, append_assoc}
use Rattle.std.specs.Prelude.{Option, if◌then◌else◌}
use Rattle.amqp_session_states.specs.declared.delivery_state.DeliveryState.{DeliveryState}
use Rattle.amqp_session_performatives.specs.declared.disposition.Disposition.{Disposition}
use Rattle.amqp_session_performatives.specs.declared.session_frame.SessionFrame.{SessionFrame}
use Rattle.amqp_session_core.specs.declared.fields.SessionFields.{SessionFields}
use Rattle.amqp_session_core.specs.Relay.{Relations}
use Rattle.amqp_session_core.specs.State.{State}
use Rattle.amqp_endpoint_messages.specs.Dispositions.{SendsEach, SendsOne, frames_of, said_by}
use Rattle.amqp_endpoint_messages.specs.Echoing.{barred, echo, echoes_of, going, run_fits}

map-more : {X Y : Type 0} (f : X → Y) (xs ys : List X) → map f (xs ++ ys) ≡ map f xs ++ map f ys
map-more f [] ys = refl
map-more {Y = Y} f (x ∷ xs) ys = ap (λ (l : List Y). f x ∷ l) (map-more f xs ys)

-- Dispositions are sent, and others behind them
sends-more : {R A T D : Type 0} (does : Relations R A T D) (s mid new : State R) (xs ys : List Disposition)
    → SendsEach does s xs mid → SendsEach does mid ys new → SendsEach does s (xs ++ ys) new
sends-more {R = R} does s mid new [] ys same later = subst (λ (x : State R). SendsEach does x ys new) same later
sends-more does s mid new (d ∷ xs) ys (next, one, rest) later =
    (next, one, sends-more does next mid new xs ys rest later)

if-more : (b : Bool) (run : ℕ × ℕ) (runs : List (ℕ × ℕ))
    → (if b then run ∷ runs else runs) ≡ (if b then run ∷ [] else []) ++ runs
if-more true run runs = refl
if-more false run runs = refl

if-less : (b : Bool) (run : ℕ × ℕ) (runs : List (ℕ × ℕ))
    → (if b then runs else run ∷ runs) ≡ (if b then [] else run ∷ []) ++ runs
if-less true run runs = refl
if-less false run runs = refl

module _ (limit : ℕ) (state used : Option DeliveryState) (same : used ≡ state) (run : ℕ × ℕ)
    (rest left : List (ℕ × ℕ)) (is : left ≡ run ∷ rest) where
  -- what goes back of the first run, and of the others
  next-goes : echoes_of state (going limit state left)
      ≡ echoes_of used (going limit used (run ∷ [])) ++ echoes_of state (going limit state rest)
  next-goes =
      ap (λ (runs : List (ℕ × ℕ)). echoes_of state (going limit state runs)) is
      ∙ ap (echoes_of state) (if-more (run_fits limit state run) run (going limit state rest))
      ∙ map-more (echo state) (going limit state (run ∷ [])) (going limit state rest)
      ∙ ap (λ (s : Option DeliveryState).
      echoes_of s (going limit s (run ∷ [])) ++ echoes_of state (going limit state rest)) (sym same)

  pub sends-next : {R A T D : Type 0} (does : Relations R A T D) (s mid new : State R)
      → SendsEach does s (echoes_of used (going limit used (run ∷ []))) mid
      → SendsEach does mid (echoes_of state (going limit state rest)) new
      → SendsEach does s (echoes_of state (going limit state left)) new
  sends-next does s mid new one later =
      subst (λ (ds : List Disposition). SendsEach does s ds new) (sym next-goes)
      (sends-more does s mid new (echoes_of used (going limit used (run ∷ [])))
      (echoes_of state (going limit state rest)) one later)

  pub frames-next : (fields mid_fields : SessionFields) (mid new all : List SessionFrame)
      → new ≡ mid ++ frames_of mid_fields (echoes_of used (going limit used (run ∷ []))) → mid_fields ≡ fields
      → mid ++ frames_of fields (echoes_of state (going limit state left)) ≡ all
      → new ++ frames_of fields (echoes_of state (going limit state rest)) ≡ all
  frames-next fields mid_fields mid new all added kept so_far =
      let one : List Disposition = echoes_of used (going limit used (run ∷ [])) in
      let others : List Disposition = echoes_of state (going limit state rest) in
      ap (λ (l : List SessionFrame). l ++ frames_of fields others) added
      ∙ ap (λ (f : SessionFields). (mid ++ frames_of f one) ++ frames_of fields others) kept
      ∙ append_assoc mid (frames_of fields one) (frames_of fields others)
      ∙ ap (λ (l : List SessionFrame). mid ++ l) (sym (map-more (said_by fields) one others))
      ∙ ap (λ (l : List Disposition). mid ++ frames_of fields l) (sym next-goes)
      ∙ so_far

  -- and of which nothing does
  pub barred-next : (mid new all : List (ℕ × ℕ)) → new ≡ mid ++ barred limit used (run ∷ [])
      → mid ++ barred limit state left ≡ all → new ++ barred limit state rest ≡ all
  barred-next mid new all added so_far =
      ap (λ (l : List (ℕ × ℕ)). l ++ barred limit state rest) added
      ∙ append_assoc mid (barred limit used (run ∷ [])) (barred limit state rest)
      ∙ ap (λ (s : Option DeliveryState). mid ++ (barred limit s (run ∷ []) ++ barred limit state rest)) same
      ∙ ap (λ (l : List (ℕ × ℕ)). mid ++ l)
      (sym (if-less (run_fits limit state run) run (barred limit state rest)))
      ∙ ap (λ (l : List (ℕ × ℕ)). mid ++ barred limit state l) (sym is)
      ∙ so_far

module _ (limit : ℕ) (state : Option DeliveryState) (run : ℕ × ℕ) (out out_new : List SessionFrame)
    (fields : SessionFields) (bars bars_new : List (ℕ × ℕ)) where
  -- one that fits goes back
  module _ (fit : run_fits limit state run ≡ true) where
    pub one-sent : {R A T D : Type 0} (does : Relations R A T D) (s mid : State R)
        → SendsOne does s (echo state run) mid → SendsEach does s (echoes_of state (going limit state (run ∷ []))) mid
    one-sent does s mid one =
        subst (λ (b : Bool). SendsEach does s (echoes_of state (if b then run ∷ [] else [])) mid) (sym fit)
        (mid, one, refl)

    pub one-added : out_new ≡ out ++ said_by fields (echo state run) ∷ []
        → out_new ≡ out ++ frames_of fields (echoes_of state (going limit state (run ∷ [])))
    one-added added =
        added
        ∙ ap (λ (b : Bool). out ++ frames_of fields (echoes_of state (if b then run ∷ [] else []))) (sym fit)

    pub none-barred : bars_new ≡ bars → bars_new ≡ bars ++ barred limit state (run ∷ [])
    none-barred kept =
        kept ∙ sym (append-nil bars) ∙ ap (λ (b : Bool). bars ++ (if b then [] else run ∷ [])) (sym fit)

  -- one that doesn't is barred
  module _ (wide : run_fits limit state run ≡ false) where
    pub none-sent : {R A T D : Type 0} (does : Relations R A T D) (s : State R)
        → SendsEach does s (echoes_of state (going limit state (run ∷ []))) s
    none-sent does s =
        subst (λ (b : Bool). SendsEach does s (echoes_of state (if b then run ∷ [] else [])) s) (sym wide) refl

    pub none-added : out_new ≡ out → out_new ≡ out ++ frames_of fields (echoes_of state (going limit state (run ∷ [])))
    none-added kept =
        kept ∙ sym (append-nil out)
        ∙ ap (λ (b : Bool). out ++ frames_of fields (echoes_of state (if b then run ∷ [] else []))) (sym wide)

    pub one-barred : bars_new ≡ bars ++ run ∷ [] → bars_new ≡ bars ++ barred limit state (run ∷ [])
    one-barred added = added ∙ ap (λ (b : Bool). bars ++ (if b then [] else run ∷ [])) (sym wide)
