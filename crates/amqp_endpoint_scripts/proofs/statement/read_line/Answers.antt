use Rattle.std.proofs.Common.{◌≡◌, ◌==◌, ◌∙◌, sym, ap, subst, length, map, Bor, List, ℕ}
use Rattle.std.specs.List.{list_any}
use Rattle.std.specs.Result.{IfOk}
use Rattle.amqp_endpoint_scripts.specs.Script.{parts_at, words_said}
use Rattle.amqp_endpoint_scripts.proofs.Words.{no_text, line_read}
use Rattle.amqp_endpoint_scripts.proofs.statement.read_line.Goals as goal

pub returns-in_default : goal.returns-in_default
returns-in_default c = no_text c.args.line.now c.in_default.ensures.cases.0

pub returns : goal.returns
returns c =
    let P : List (Bor (List ℕ)) → Type 0 = λ words. IfOk c.read_words.result (λ s. s ≡ words_said (map (λ w. w.now) words)) in
    line_read c.args.line.now (map (λ w. w.now) c.in_ok-words.words.items) c.read_words.result c.in-Ok.ensures.cases.1
    (c.in_ok-words.ensures ∙ ap (parts_at 32) c.in-Ok.ensures.cases.0)
    (ap (λ words. list_any (λ w. length w == 0) (map (λ w. w.now) words)) (sym c.as_slice.ensures.value) ∙ sym c.has_empty.ensures ∙ c.if-has_empty.false)
    (subst P c.as_slice-2.ensures.value c.read_words.ensures)
