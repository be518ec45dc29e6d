-- Reading a value with a descriptor that is given.
use Rattle.std.proofs.Common.{◌≡◌, ℕ, List, ◌++◌, Option, Some, None, sym, ◌∙◌, ap, refl, append_assoc, inl, inr}
use Rattle.std.proofs.lemmas.List.{append_cancel_left}
use Rattle.serde_amqp_item.specs.declared.codes.EncodingCodes.TheVariants.{DescribedType}
use Rattle.serde_amqp_item.specs.Item.{Item, scalar, ulong, described}
use Rattle.serde_amqp_item.specs.Wire.{Wire, described_by}
use Rattle.serde_amqp_item.specs.Canon.{◌>>=◌}
use Rattle.serde_amqp_item.proofs.Forms.{wire_same}
use Rattle.serde_amqp_de.specs.Reads.{At, Head, Refuses, Took}
use Rattle.serde_amqp_de.specs.Takes.{descriptor_taken, described_taken}
use Rattle.serde_amqp_de.proofs.Heads.{behind_head, plain_form}
use Rattle.serde_amqp_de.proofs.Records.{described_reads, described_parts}
use Rattle.amqp_link_sections.specs.Described.{described_item, described_as}

-- what the descriptor or the value of what is described here says
described_refuses : (code : ℕ) (name : List ℕ) (take : Item → Option Item) (k : Option ℕ) (old m0 : At) → Head k old m0 DescribedType
    → ((d v : Item) (a b more : List ℕ) → m0.rest ≡ a ++ (b ++ more) → Wire d None a → Wire v None b → described_as code name take (described d v) ≡ None)
    → Refuses (described_as code name take) k old
unfolding described_as
described_refuses code name take k old m0 h none = record {
  none = λ x f more w e.
      let b = behind_head k old m0 DescribedType x f more h w e in
      elim (plain_form x _ described_by b.0 b.1) [
        | inl t ↦ ap (described_as code name take) t.1
        | inr q ↦
            let p = described_parts x b.0 q in
            ap (described_as code name take) p.4 ∙ none p.0 p.1 p.2 p.3 more (b.2 ∙ (ap (λ (s : List ℕ). s ++ more) p.5 ∙ append_assoc p.2 p.3 more)) p.6 p.7
      ];
}

not_described : (code : ℕ) (name : List ℕ) (take : Item → Option Item) (x : Item) → described_taken x ≡ None → described_as code name take x ≡ None
unfolding described_as
not_described code name take (described d v) e = absurd cc
not_described code name take x e = refl

pub description_refused : (code : ℕ) (name : List ℕ) (take : Item → Option Item) (k : Option ℕ) (old : At) → Refuses described_taken k old → Refuses (described_as code name take) k old
description_refused code name take k old r = record { none = λ x f more w e. not_described code name take x (r.none x f more w e) }

pub descriptor_refused : (code : ℕ) (name : List ℕ) (take : Item → Option Item) (k : Option ℕ) (old m0 : At) → Head k old m0 DescribedType → Refuses (descriptor_taken code name) None m0 → Refuses (described_as code name take) k old
unfolding described_as
descriptor_refused code name take k old m0 h r = described_refuses code name take k old m0 h (λ d v a b more e w u.
    ap (λ (o : Option Item). o >>= λ c. take v >>= λ y. Some (described c y)) (r.none d a (b ++ more) w e))

stuck : (o p : Option Item) → p ≡ None → (o >>= λ c. p >>= λ y. Some (described c y)) ≡ None
stuck None p e = refl
stuck (Some c) p e = ap (λ (q : Option Item). q >>= λ y. Some (described c y)) e

pub value_refused : (code : ℕ) (name : List ℕ) (take : Item → Option Item) (k : Option ℕ) (old m0 m1 : At) → Head k old m0 DescribedType → Took (descriptor_taken code name) None m0 m1 (scalar (ulong code)) → Refuses take None m1 → Refuses (described_as code name take) k old
unfolding described_as
value_refused code name take k old m0 m1 h t r = described_refuses code name take k old m0 h (λ d v a b more e w u.
    let both : t.reads.front ++ m1.rest ≡ a ++ (b ++ more) = sym t.reads.moves.split ∙ e in
    let same = wire_same t.item d None t.reads.front a m1.rest (b ++ more) t.reads.wire w both in
    let rest : m1.rest ≡ b ++ more = append_cancel_left t.reads.front _ _ (both ∙ ap (λ (s : List ℕ). s ++ (b ++ more)) (sym same.0)) in
    stuck (descriptor_taken code name d) (take v) (r.none v b more u rest))

pub description_took : (code : ℕ) (name : List ℕ) (take : Item → Option Item) (k : Option ℕ) (old m0 m1 new : At) (y : Item) → Head k old m0 DescribedType → Took (descriptor_taken code name) None m0 m1 (scalar (ulong code)) → Took take None m1 new y → Took (described_as code name take) k old new (described_item code y)
unfolding described_as
description_took code name take k old m0 m1 new y h t s = record {
  item = described t.item s.item;
  reads = described_reads k old m0 m1 new t.item s.item h t.reads s.reads;
  taken = ap (λ (o : Option Item). o >>= λ d. take s.item >>= λ z. Some (described d z)) t.taken ∙ ap (λ (o : Option Item). o >>= λ z. Some (described_item code z)) s.taken;
}

pub ruleset descriptions = (description_refused, descriptor_refused, value_refused, description_took)
