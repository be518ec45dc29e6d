-- Pieces of a payload, each as long as it may be.
use Rattle.std.proofs.Common.{◌≡◌, ℕ, ◌<◌, List, [], ◌∷◌, ◌++◌, length, take, drop, refl, sym, ◌∙◌, ap, arith, append_assoc, append-nil, length-drop, take-append-drop}
use Rattle.std.specs.Prelude.{map}
use Rattle.std.proofs.lemmas.List.{length-take-le}
use Rattle.std.proofs.lemmas.List.Elements.{All-cons, All-nil, All-append}
use Rattle.amqp_session_frames.specs.Cutting.{Cuts, joined}

map_more : (head : List ℕ) (cs : List (List ℕ)) (c : List ℕ) → map (λ x. head ++ x) (cs ++ c ∷ []) ≡ map (λ x. head ++ x) cs ++ (head ++ c) ∷ []
map_more head [] c = refl
map_more head (d ∷ cs) c = ap (λ (r : List (List ℕ)). (head ++ d) ∷ r) (map_more head cs c)

joined_more : (cs : List (List ℕ)) (c rest : List ℕ) → joined (cs ++ c ∷ []) ++ rest ≡ joined cs ++ (c ++ rest)
joined_more [] c rest = ap (λ (r : List ℕ). r ++ rest) (append-nil c)
joined_more (d ∷ cs) c rest = append_assoc d (joined (cs ++ c ∷ [])) rest ∙ (ap (λ (r : List ℕ). d ++ r) (joined_more cs c rest) ∙ sym (append_assoc d (joined cs) (c ++ rest)))

pub cuts_none : (head : List ℕ) (room : ℕ) (old : List (List ℕ)) (payload : List ℕ) → Cuts head room old old payload payload
cuts_none head room old payload = record { chunks = []; pieces = sym (append-nil old); full = All-nil (λ c. length c ≡ room); payload = refl; some = λ lt. lt }

pub cuts_more : (head : List ℕ) (room : ℕ) (old mid new : List (List ℕ)) (before payload front rest : List ℕ) → Cuts head room old mid before payload → front ≡ take room payload → rest ≡ drop room payload → room < length payload → new ≡ mid ++ (head ++ front) ∷ [] → Cuts head room old new before rest
cuts_more head room old mid new before payload front rest c f r lt e = record {
  chunks = c.chunks ++ front ∷ [];
  pieces = e ∙ (ap (λ (m : List (List ℕ)). m ++ (head ++ front) ∷ []) c.pieces ∙ (append_assoc old (map (λ x. head ++ x) c.chunks) ((head ++ front) ∷ []) ∙ ap (λ (m : List (List ℕ)). old ++ m) (sym (map_more head c.chunks front))));
  full = All-append (λ x. length x ≡ room) c.chunks (front ∷ []) c.full (All-cons (λ x. length x ≡ room) front [] (ap length f ∙ length-take-le room payload (omega (arith, lt))) (All-nil (λ x. length x ≡ room)));
  payload = c.payload ∙ (ap (λ (p : List ℕ). joined c.chunks ++ p) (sym (take-append-drop room payload) ∙ (ap (λ (p : List ℕ). p ++ drop room payload) (sym f) ∙ ap (λ (p : List ℕ). front ++ p) (sym r))) ∙ sym (joined_more c.chunks front rest));
  some = λ h. omega (arith, ap length r, length-drop room payload, lt);
}

pub ruleset middles = (cuts_none, cuts_more)
