-- A table of rows: what its lines say, and what comes of answering them.
use Rattle.std.specs.Prelude.{◌≡◌, ℕ, ◌+◌, ◌==◌, Bool, true, false, List, [], ◌∷◌, ◌++◌, None, Result, Ok}
use Rattle.std.specs.Prelude.{if◌then◌else◌, MatchBool, nat_lt, codes, decimal, String, string_bytes}
use Rattle.std.specs.Global.{Global}
use Rattle.std.specs.List.{slice_split}
use Rattle.std.specs.Str.{bytes_eq, is_utf8}
use Rattle.std.specs.Str.Pattern.{FindsText, SplitsAroundMatch}
use Rattle.std.specs.Fn.{Shared, FnReturnsAt}
use denote.Ref.{Bor}
use Rattle.amqp_rows.specs.declared.line.Line.{Line}
use Rattle.amqp_rows.specs.declared.line.Line.TheVariants.{Empty, Plain, Row}
use Rattle.amqp_rows.specs.declared.report.Report.{Report}

-- a line feed
abbrev pub line_end : List ℕ
line_end = 10 ∷ []

-- what parts a row
abbrev pub arrow : List ℕ
arrow = codes " => "

-- empty lines and comments are left out
abbrev pub is_left_out : List ℕ → Bool
is_left_out [] = true
is_left_out (c ∷ cs) = c == 35

-- what the text of a line says
abbrev pub Says : List ℕ → Line → Type 0
Says text Empty = is_left_out text ≡ true
Says text (Plain given) = (is_left_out text ≡ false) × (given.now ≡ text) × FindsText arrow text None
Says text (Row given wanted) =
    (is_left_out text ≡ false) × SplitsAroundMatch (FindsText arrow) text given.now wanted.now

-- what is printed of the lines, and how many rows hold and differ
pub record Tally : Type 0 where
  pub output : List ℕ
  pub held : ℕ
  pub differing : ℕ

abbrev pub tally_of : Report → Tally
tally_of r = record { output = string_bytes r.output; held = r.held; differing = r.differing }

abbrev pub nothing_told : Tally
nothing_told = record { output = []; held = 0; differing = 0 }

-- a line is printed
abbrev pub printed : List ℕ → Tally → Tally
printed text t = record t { output = t.output ++ (text ++ line_end) }

-- a row that differs
abbrev pub difference : ℕ → List ℕ → List ℕ → List ℕ → List ℕ
difference number given wanted answer = codes "line " ++ (decimal number ++ (codes ": " ++ (given ++ (codes " => " ++ (answer ++ (codes ", not " ++ (wanted ++ line_end)))))))

-- a row is counted once: it holds exactly where its answer is the one that is wanted, and is printed where it isn't
abbrev pub judged : ℕ → List ℕ → List ℕ → List ℕ → Tally → Tally
judged number given wanted answer t =
    if bytes_eq answer wanted then record t { held = t.held + 1 } else record t {
      output = t.output ++ difference number given wanted answer;
      differing = t.differing + 1;
    }

-- what is printed behind the lines
abbrev pub held_text : ℕ → List ℕ
held_text held = decimal held ++ (codes " rows hold" ++ line_end)

abbrev pub differing_text : ℕ → List ℕ
differing_text differing = if nat_lt 0 differing then decimal differing ++ (codes " rows differ" ++ line_end) else []

abbrev pub closing_text : ℕ → ℕ → List ℕ
closing_text held differing = if held + differing == 0 then [] else held_text held ++ differing_text differing

abbrev pub all_text : Tally → List ℕ
all_text t = t.output ++ closing_text t.held t.differing

abbrev pub status_of : Tally → ℕ
status_of t = if nat_lt 0 t.differing then 1 else 0

-- f may answer so what is given
pub record Answers {F E : Type 0} (g : Shared F (Bor (List ℕ) × Unit {0}) (Result (String Global) E)) (f : F)
    (given answer : List ℕ) : Type 0 where
  pub text : String Global
  pub says : FnReturnsAt g f given (Ok text)
  pub answer_is : answer ≡ string_bytes text

module _ (P : List ℕ → List ℕ → Type 0) where
  -- what is given is answered as P allows, and the answer leads there
  pub record IsAnswered (given : List ℕ) (leads : List ℕ → Tally) (after : Tally) : Type 0 where
    pub answer : List ℕ
    pub allowed : P given answer
    pub there : after ≡ leads answer

  -- a line with the number n is answered
  abbrev pub LineDone : ℕ → Line → Tally → Tally → Type 0
  LineDone n Empty before after = after ≡ before
  LineDone n (Plain given) before after = IsAnswered given.now (λ answer. printed answer before) after
  LineDone n (Row given wanted) before after =
      IsAnswered given.now (λ answer. judged n given.now wanted.now answer before) after

  -- the text of a line is read, and the line answered
  pub record IsRead (n : ℕ) (text : List ℕ) (before after : Tally) : Type 0 where
    pub line : Line
    pub says : Says text line
    pub line_done : LineDone n line before after

  abbrev pub TextDone : ℕ → List ℕ → Tally → Tally → Type 0
  TextDone n text before after =
      MatchBool (is_utf8 text) (IsRead n text before after) (after ≡ printed (codes "unreadable") before)

  -- lines are answered in order, numbered from n
  abbrev pub LinesDone : ℕ → List (List ℕ) → Tally → Tally → Type 0
  LinesDone n [] before after = after ≡ before
  LinesDone n (text ∷ texts) before after =
      (between : Tally) × TextDone n text before between × LinesDone (n + 1) texts between after

-- the lines of a text
abbrev pub lines_of : List ℕ → List (List ℕ)
lines_of text = slice_split (λ b. b == 10) text
