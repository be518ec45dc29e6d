use Rattle.std.proofs.Common.{rules, ◌≡◌, ◌++◌, ◌∙◌, List, ℕ, OnOk, ap, codes, decimal, string_bytes, subst}
use Rattle.amqp_endpoint_scripts.specs.Printed.{of_line, role_word}
use Rattle.amqp_endpoint_scripts.proofs.printing.print_link.Goals as goal

pub returns : goal.returns
returns c =
    let words : List ℕ → List ℕ → List ℕ =
    λ role name. codes "link-asked " ++ (decimal c.args.session ++ (codes " " ++ (role ++ (codes " " ++ name)))) in
    let P : List ℕ → Type 0 =
    λ text. OnOk c.print_words.result (
    string_bytes c.print_words.new.text
    ≡ string_bytes c.args.text.now ++ of_line c.args.line c.args.end text
    ) in
    let written : string_bytes c.in_ok-words.words ≡ words c.role_word-role.result.now c.as_str-name.result.now =
    search rules in
    subst P (
    c.as_str.ensures.value ∙ written
    ∙ ap (λ (role : List ℕ). words role c.as_str-name.result.now) c.role_word-role.ensures
    ∙ ap (λ (name : List ℕ). words (role_word c.args.attach.now.role) name) c.as_str-name.ensures.value
    ) c.print_words.ensures
