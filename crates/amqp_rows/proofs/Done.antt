-- A line is answered: what it says and what its answer leads to, put together.
use Rattle.std.proofs.Common.{◌≡◌, ℕ, List, Bool, true, false, Bor, Result, Ok, Err, refl, sym, ◌∙◌, ap, subst, codes}
use Rattle.std.specs.Prelude.{String, string_bytes}
use Rattle.std.specs.Global.{Global}
use Rattle.std.specs.Fn.{Shared}
use Rattle.std.specs.Result.{IfOk, OnOk}
use Rattle.std.specs.Str.{IsUtf8, is_utf8}
use Rattle.std.proofs.lemmas.Str.{IsUtf8-from_is_utf8, is_utf8-from_IsUtf8}
use Rattle.amqp_rows.specs.declared.line.Line.{Line}
use Rattle.amqp_rows.specs.declared.line.Line.TheVariants.{Plain, Row}
use Rattle.amqp_rows.specs.Rows.{Tally, Says, printed, judged, Answers, LineDone, TextDone}

not_utf8 : (text : List ℕ) → (IsUtf8 text → ⊥) → is_utf8 text ≡ false
not_utf8 text h = go (is_utf8 text) refl
  where
    go : (b : Bool) → is_utf8 text ≡ b → b ≡ false
    go true e = absurd (h (IsUtf8-from_is_utf8 text e))
    go false e = refl

pub answered : {F E : Type 0} (g : Shared F (Bor (List ℕ) × Unit {0}) (Result (String Global) E)) (f : F) (given : Bor (List ℕ)) (r : Result (String Global) E) → g.post f (given, tt) r → IfOk r (λ text. Answers g f given.now (string_bytes text))
answered g f given (Ok text) met = record { text = text; says = record { shown = given; shows = refl; says = record { met = met } }; answer_is = refl }
answered g f given (Err e) met = tt

module _ {E : Type 0} (P : List ℕ → List ℕ → Type 0) (n : ℕ) (before after : Tally) where
  pub plain_done : (line : Line) (given : Bor (List ℕ)) (text answer : List ℕ) (r : Result (Unit {0}) E) → line ≡ Plain given → P given.now text → answer ≡ text → OnOk r (after ≡ printed answer before) → OnOk r (LineDone P n line before after)
  plain_done line given text answer (Ok x) is allowed same done = subst (λ l. LineDone P n l before after) (sym is) (record { answer = text; allowed = allowed; there = done ∙ ap (λ a. printed a before) same })
  plain_done line given text answer (Err e) is allowed same done = tt

  pub row_done : (line : Line) (given wanted : Bor (List ℕ)) (text answer : List ℕ) (r : Result (Unit {0}) E) → line ≡ Row given wanted → P given.now text → answer ≡ text → OnOk r (after ≡ judged n given.now wanted.now answer before) → OnOk r (LineDone P n line before after)
  row_done line given wanted text answer (Ok x) is allowed same done = subst (λ l. LineDone P n l before after) (sym is) (record { answer = text; allowed = allowed; there = done ∙ ap (λ a. judged n given.now wanted.now a before) same })
  row_done line given wanted text answer (Err e) is allowed same done = tt

  pub text_done : (text shown : List ℕ) (line : Line) (r : Result (Unit {0}) E) → IsUtf8 text → shown ≡ text → Says shown line → OnOk r (LineDone P n line before after) → OnOk r (TextDone P n text before after)
  text_done text shown line (Ok x) utf8 same says done = rw (is_utf8-from_IsUtf8 text utf8) (record { line = line; says = subst (λ s. Says s line) same says; line_done = done })
  text_done text shown line (Err e) utf8 same says done = tt

  pub no_text_done : (text : List ℕ) (r : Result (Unit {0}) E) → (IsUtf8 text → ⊥) → OnOk r (after ≡ printed (codes "unreadable") before) → OnOk r (TextDone P n text before after)
  no_text_done text (Ok x) h done = rw (not_utf8 text h) done
  no_text_done text (Err e) h done = tt
