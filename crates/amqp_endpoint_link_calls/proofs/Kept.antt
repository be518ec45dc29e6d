-- Which of an endpoint's links keep a message, and under which tags.
use Rattle.std.proofs.Common.{◌≡◌, ℕ, zero, suc, ◌+◌, ◌-◌, ◌<◌, Bool, true, false, List, [], ◌∷◌, ◌++◌, arith, refl}
use Rattle.std.proofs.Common.{sym}
use Rattle.std.proofs.Common.{ap, subst, ◌∙◌, append_assoc}
use Rattle.std.specs.Prelude.{◌||◌, Option}
use Rattle.std.specs.Option.{option_to_list}
use Rattle.amqp_link.specs.declared.end.End.{End}
use Rattle.amqp_endpoint_tables.specs.LinkState.{place_at}
use Rattle.amqp_endpoint_link_calls.specs.Places.{LinksBy, LinkTalk, end_of}
use Rattle.amqp_endpoint_link_calls.specs.Keeping.{keeps, kept_tag, kept_tags, one_keeps}

or-true : (b : Bool) → (b || true) ≡ true
or-true true = refl
or-true false = refl

module _ (talk : LinkTalk) (links : LinksBy) (message : ℕ) where
  -- what one of the first links keeps is kept by one of more
  among-more : (number : ℕ) → keeps (end_of talk (place_at links number)) message ≡ true → (more all : ℕ)
      → all ≡ suc (more + number) → one_keeps talk links all message ≡ true
  among-more number kept zero all is =
      let next : suc number ≡ all = omega (arith, is) in
      subst (λ (n : ℕ). one_keeps talk links n message ≡ true) next
      (ap (λ (b : Bool). b || one_keeps talk links number message) kept)
  among-more number kept (suc more) zero is = absurd (omega (arith, is))
  among-more number kept (suc more) (suc all) is =
      let before : all ≡ suc (more + number) = omega (arith, is) in
      ap (λ (b : Bool). keeps (end_of talk (place_at links all)) message || b)
      (among-more number kept more all before)
      ∙ or-true (keeps (end_of talk (place_at links all)) message)

  pub one-kept : (number all : ℕ) → keeps (end_of talk (place_at links number)) message ≡ true → number < all
      → true ≡ one_keeps talk links all message
  one-kept number all kept below =
      let is : all ≡ suc ((all - suc number) + number) = omega (arith, below) in
      sym (among-more number kept (all - suc number) all is)

  -- and where the next doesn't keep it either
  pub none-kept : (number : ℕ) → false ≡ keeps (end_of talk (place_at links number)) message
      → one_keeps talk links number message ≡ false → one_keeps talk links (suc number) message ≡ false
  none-kept number unkept none =
      ap (λ (b : Bool). b || one_keeps talk links number message) (sym unkept) ∙ none

-- a tag more, and those that are left
pub tag-more : (link : Option End) (message : ℕ) (left : List ℕ) (tags more all : List (List ℕ))
    (one : Option (List ℕ)) → one ≡ kept_tag link message → more ≡ tags ++ option_to_list one
    → tags ++ kept_tags link (message ∷ left) ≡ all → more ++ kept_tags link left ≡ all
tag-more link message left tags more all one is added before =
    ap (λ (l : List (List ℕ)). l ++ kept_tags link left) added
    ∙ append_assoc tags (option_to_list one) (kept_tags link left)
    ∙ ap (λ (o : Option (List ℕ)). tags ++ (option_to_list o ++ kept_tags link left)) is
    ∙ before
