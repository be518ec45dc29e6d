-- Reading a descriptor, and a described value.
use Rattle.std.proofs.Common.{◌≡◌, ◌≢◌, ℕ, List, ◌++◌, Option, Some, None, sym, ◌∙◌, ap, subst, refl, append_assoc, inl, inr}
use Rattle.std.proofs.lemmas.List.{append_cancel_left}
use Rattle.serde_amqp_item.specs.declared.codes.EncodingCodes.{EncodingCodes}
use Rattle.serde_amqp_item.specs.declared.codes.EncodingCodes.TheVariants.{DescribedType, Sym8, Sym32}
use Rattle.serde_amqp_item.specs.Item.{Item, scalar, ulong, symbol, described}
use Rattle.serde_amqp_item.specs.Wire.{Wire, described_by}
use Rattle.serde_amqp_item.specs.Canon.{◌>>=◌}
use Rattle.serde_amqp_item.specs.Kind.{Kind, kind_at, symbol_kind}
use Rattle.serde_amqp_item.proofs.Forms.{wire_same}
use Rattle.serde_amqp_de.specs.Reads.{At, Head, Foresees, Reads, Refuses, Took}
use Rattle.serde_amqp_de.specs.Takes.{kind_seen, described_taken, symbol_taken, ulong_taken}
use Rattle.serde_amqp_de.proofs.Heads.{no_head_refuses, behind_head, plain_form}
use Rattle.serde_amqp_de.proofs.Records.{described_reads, described_parts}
use Rattle.serde_amqp_de.proofs.Values.{foreseen_seen}
use Rattle.serde_amqp_types.specs.Takes.{any_descriptor_taken, described_with}

-- a name
name_taken : (x u : Item) → symbol_taken x ≡ Some u → any_descriptor_taken x ≡ Some u
unfolding any_descriptor_taken
name_taken (scalar (symbol bs)) u e = e
name_taken (scalar s) u e = absurd cc
name_taken x u e = absurd cc

pub name_took : (k : Option ℕ) (old mid new : At) (y : Item) → mid ≡ old → Took symbol_taken k mid new y → Took any_descriptor_taken k old new y
name_took k old mid new y same t =
    let s : Took symbol_taken k old new y = subst (λ (a : At). Took symbol_taken k a new y) same t in
    record { item = s.item; reads = s.reads; taken = name_taken s.item y s.taken }

no_name : (x : Item) → kind_seen x ≡ Some symbol_kind → symbol_taken x ≡ None → any_descriptor_taken x ≡ None
unfolding any_descriptor_taken
no_name (scalar (ulong n)) s e = absurd cc
no_name (scalar (symbol bs)) s e = absurd cc
no_name (scalar t) s e = refl
no_name x s e = refl

name_refused : (k : Option ℕ) (old mid : At) (code : EncodingCodes) → kind_at code ≡ symbol_kind → Foresees k old code → mid ≡ old → Refuses symbol_taken k mid → Refuses any_descriptor_taken k old
name_refused k old mid code is p same r =
    let s : Refuses symbol_taken k old = subst (λ (a : At). Refuses symbol_taken k a) same r in
    record { none = λ x f more w e. no_name x (foreseen_seen k old code x f more p w e ∙ ap (λ (t : Kind). Some t) is) (s.none x f more w e) }

pub name8_refused : (k : Option ℕ) (old mid : At) → Foresees k old Sym8 → mid ≡ old → Refuses symbol_taken k mid → Refuses any_descriptor_taken k old
name8_refused k old mid p same r = name_refused k old mid Sym8 refl p same r

pub name32_refused : (k : Option ℕ) (old mid : At) → Foresees k old Sym32 → mid ≡ old → Refuses symbol_taken k mid → Refuses any_descriptor_taken k old
name32_refused k old mid p same r = name_refused k old mid Sym32 refl p same r

-- a code
pub code_took : (k : Option ℕ) (old mid new : At) (n : ℕ) → mid ≡ old → Reads k mid new (scalar (ulong n)) → Took any_descriptor_taken k old new (scalar (ulong n))
unfolding any_descriptor_taken
code_took k old mid new n same r = record { item = scalar (ulong n); reads = subst (λ (a : At). Reads k a new (scalar (ulong n))) same r; taken = refl }

not_symbol : (code : EncodingCodes) → code ≢ Sym8 → code ≢ Sym32 → kind_at code ≢ symbol_kind
not_symbol Sym8 p q = absurd (p refl)
not_symbol Sym32 p q = absurd (q refl)
not_symbol code p q = λ e. cc

no_code : (x : Item) → kind_seen x ≢ Some symbol_kind → ulong_taken x ≡ None → any_descriptor_taken x ≡ None
unfolding any_descriptor_taken
no_code (scalar (ulong n)) s e = absurd cc
no_code (scalar (symbol bs)) s e = absurd (s refl)
no_code (scalar t) s e = refl
no_code x s e = refl

pub code_refused : (k : Option ℕ) (old mid : At) (code : EncodingCodes) → Foresees k old code → code ≢ Sym8 → code ≢ Sym32 → mid ≡ old → Refuses ulong_taken k mid → Refuses any_descriptor_taken k old
code_refused k old mid code p m n same r =
    let s : Refuses ulong_taken k old = subst (λ (a : At). Refuses ulong_taken k a) same r in
    record {
      none = λ x f more w e.
          let seen = foreseen_seen k old code x f more p w e in
          no_code x (λ q. not_symbol code m n (let both : Some (kind_at code) ≡ Some symbol_kind = sym seen ∙ q in cc)) (s.none x f more w e);
    }

pub ruleset descriptors = (no_head_refuses, name_took, name8_refused, name32_refused, code_took, code_refused)

-- what the descriptor or the value of what is described here says
described_refuses : (take : Item → Option Item) (k : Option ℕ) (old m0 : At) → Head k old m0 DescribedType
    → ((d v : Item) (a b more : List ℕ) → m0.rest ≡ a ++ (b ++ more) → Wire d None a → Wire v None b → described_with take (described d v) ≡ None)
    → Refuses (described_with take) k old
unfolding described_with
described_refuses take k old m0 h none = record {
  none = λ x f more w e.
      let b = behind_head k old m0 DescribedType x f more h w e in
      elim (plain_form x _ described_by b.0 b.1) [
        | inl t ↦ ap (described_with take) t.1
        | inr q ↦
            let p = described_parts x b.0 q in
            ap (described_with take) p.4 ∙ none p.0 p.1 p.2 p.3 more (b.2 ∙ (ap (λ (s : List ℕ). s ++ more) p.5 ∙ append_assoc p.2 p.3 more)) p.6 p.7
      ];
}

not_described : (take : Item → Option Item) (x : Item) → described_taken x ≡ None → described_with take x ≡ None
unfolding described_with
not_described take (described d v) e = absurd cc
not_described take x e = refl

pub description_refused : (take : Item → Option Item) (k : Option ℕ) (old : At) → Refuses described_taken k old → Refuses (described_with take) k old
description_refused take k old r = record { none = λ x f more w e. not_described take x (r.none x f more w e) }

pub descriptor_refused : (take : Item → Option Item) (k : Option ℕ) (old m0 : At) → Head k old m0 DescribedType → Refuses any_descriptor_taken None m0 → Refuses (described_with take) k old
unfolding described_with
descriptor_refused take k old m0 h r = described_refuses take k old m0 h (λ d v a b more e w u.
    ap (λ (o : Option Item). o >>= λ c. take v >>= λ y. Some (described c y)) (r.none d a (b ++ more) w e))

stuck : (o p : Option Item) → p ≡ None → (o >>= λ c. p >>= λ y. Some (described c y)) ≡ None
stuck None p e = refl
stuck (Some c) p e = ap (λ (q : Option Item). q >>= λ y. Some (described c y)) e

pub value_refused : (take : Item → Option Item) (k : Option ℕ) (old m0 m1 : At) (c : Item) → Head k old m0 DescribedType → Took any_descriptor_taken None m0 m1 c → Refuses take None m1 → Refuses (described_with take) k old
unfolding described_with
value_refused take k old m0 m1 c h t r = described_refuses take k old m0 h (λ d v a b more e w u.
    let both : t.reads.front ++ m1.rest ≡ a ++ (b ++ more) = sym t.reads.moves.split ∙ e in
    let same = wire_same t.item d None t.reads.front a m1.rest (b ++ more) t.reads.wire w both in
    let rest : m1.rest ≡ b ++ more = append_cancel_left t.reads.front _ _ (both ∙ ap (λ (s : List ℕ). s ++ (b ++ more)) (sym same.0)) in
    stuck (any_descriptor_taken d) (take v) (r.none v b more u rest))

pub description_took : (take : Item → Option Item) (k : Option ℕ) (old m0 m1 new : At) (c y : Item) → Head k old m0 DescribedType → Took any_descriptor_taken None m0 m1 c → Took take None m1 new y → Took (described_with take) k old new (described c y)
unfolding described_with
description_took take k old m0 m1 new c y h t s = record {
  item = described t.item s.item;
  reads = described_reads k old m0 m1 new t.item s.item h t.reads s.reads;
  taken = ap (λ (o : Option Item). o >>= λ d. take s.item >>= λ z. Some (described d z)) t.taken ∙ ap (λ (o : Option Item). o >>= λ z. Some (described c z)) s.taken;
}

pub ruleset descriptions = (description_refused, descriptor_refused, value_refused, description_took)
