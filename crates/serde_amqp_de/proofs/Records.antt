-- Described lists of fields.
use Rattle.std.proofs.Common.{◌≡◌, ℕ, List, ◌∷◌, ◌++◌, Option, Some, None, sym, ◌∙◌, ap, refl, append_assoc, inl, inr}
use Rattle.std.proofs.lemmas.List.{append_cancel_left}
use Rattle.serde_amqp_item.specs.declared.codes.EncodingCodes.TheVariants.{DescribedType}
use Rattle.serde_amqp_item.specs.Item.{Item, Items, scalar, raw, ulong, list, map, array, described}
use Rattle.serde_amqp_item.specs.Wire.{Wire, described_by, Form, IsCapped, IsStrict}
use Rattle.serde_amqp_item.specs.Canon.{◌>>=◌}
use Rattle.serde_amqp_item.specs.Record.{record_item}
use Rattle.serde_amqp_item.proofs.Forms.{wire_same}
use Rattle.serde_amqp_de.specs.Reads.{At, Head, Reads, Refuses, Took, Opens, TookSized, RefusesSized}
use Rattle.serde_amqp_de.specs.Takes.{descriptor_taken, described_taken, list_taken, list_with, fields_taken, record_taken}
use Rattle.serde_amqp_de.proofs.Heads.{moves_then, head_form, behind_head, plain_form}
use Rattle.serde_amqp_de.proofs.Sequences.{opened_refuses}

-- a descriptor and a value, one behind the other
pub described_reads : (k : Option ℕ) (old m0 m1 new : At) (d v : Item) → Head k old m0 DescribedType → Reads None m0 m1 d → Reads None m1 new v → Reads k old new (described d v)
described_reads k old m0 m1 new d v h r s =
    let split : r.front ++ s.front ≡ r.wire.0 ∷ (r.wire.1 ++ s.wire.0 ∷ s.wire.1) = ap (λ (t : List ℕ). t ++ s.front) r.wire.2 ∙ ap (λ (t : List ℕ). (r.wire.0 ∷ r.wire.1) ++ t) s.wire.2 in
    head_form k old m0 new DescribedType (described d v) (r.front ++ s.front) h (moves_then m0 m1 new r.front s.front r.moves s.moves)
    (λ o. (r.wire.0, r.wire.1, s.wire.0, s.wire.1, split, r.wire.3, s.wire.3))

pub described_parts : (x : Item) (a : List ℕ) → Form IsCapped IsStrict x None described_by a → (d : Item) × (v : Item) × (f : List ℕ) × (g : List ℕ) × (x ≡ described d v) × (a ≡ f ++ g) × Wire d None f × Wire v None g
described_parts (scalar s) a h = absurd h
described_parts (raw text) a h = absurd h
described_parts (list xs) a h = absurd h
described_parts (map ps) a h = absurd h
described_parts (array xs) a h = absurd h
described_parts (described d v) a h = (d, v, h.0 ∷ h.1, h.2 ∷ h.3, refl, h.4, (h.0, h.1, refl, h.5), (h.2, h.3, refl, h.6))

-- what the descriptor or the value of what is described here says
described_refuses : (code : ℕ) (name : List ℕ) (takes : List (Item → Option Item)) (k : Option ℕ) (old m0 : At) → Head k old m0 DescribedType
    → ((d v : Item) (a b more : List ℕ) → m0.rest ≡ a ++ (b ++ more) → Wire d None a → Wire v None b → record_taken code name takes (described d v) ≡ None)
    → Refuses (record_taken code name takes) k old
unfolding record_taken
described_refuses code name takes k old m0 h none = record {
  none = λ x f more w e.
      let b = behind_head k old m0 DescribedType x f more h w e in
      elim (plain_form x _ described_by b.0 b.1) [
        | inl t ↦ ap (record_taken code name takes) t.1
        | inr q ↦
            let p = described_parts x b.0 q in
            ap (record_taken code name takes) p.4 ∙ none p.0 p.1 p.2 p.3 more (b.2 ∙ (ap (λ (s : List ℕ). s ++ more) p.5 ∙ append_assoc p.2 p.3 more)) p.6 p.7
      ];
}

not_described : (code : ℕ) (name : List ℕ) (takes : List (Item → Option Item)) (x : Item) → described_taken x ≡ None → record_taken code name takes x ≡ None
unfolding record_taken
not_described code name takes (described d v) e = absurd cc
not_described code name takes x e = refl

pub described_refused : (code : ℕ) (name : List ℕ) (takes : List (Item → Option Item)) (k : Option ℕ) (old : At) → Refuses described_taken k old → Refuses (record_taken code name takes) k old
described_refused code name takes k old r = record { none = λ x f more w e. not_described code name takes x (r.none x f more w e) }

pub descriptor_refused : (code : ℕ) (name : List ℕ) (takes : List (Item → Option Item)) (k : Option ℕ) (old m0 : At) → Head k old m0 DescribedType → Refuses (descriptor_taken code name) None m0 → Refuses (record_taken code name takes) k old
unfolding record_taken
descriptor_refused code name takes k old m0 h r = described_refuses code name takes k old m0 h (λ d v a b more e w u.
    ap (λ (o : Option Item). o >>= λ c. list_with (fields_taken takes) v >>= λ ys. Some (record_item code ys)) (r.none d a (b ++ more) w e))

stuck : (code : ℕ) (o : Option Item) (r : Option (List Item)) → r ≡ None → (o >>= λ c. r >>= λ ys. Some (record_item code ys)) ≡ None
stuck code None r e = refl
stuck code (Some c) r e = ap (λ (q : Option (List Item)). q >>= λ ys. Some (record_item code ys)) e

value_refuses : (code : ℕ) (name : List ℕ) (takes : List (Item → Option Item)) (k : Option ℕ) (old m0 m1 : At) → Head k old m0 DescribedType → Took (descriptor_taken code name) None m0 m1 (scalar (ulong code))
    → ((v : Item) (b more : List ℕ) → Wire v None b → m1.rest ≡ b ++ more → list_with (fields_taken takes) v ≡ None) → Refuses (record_taken code name takes) k old
unfolding record_taken
value_refuses code name takes k old m0 m1 h t none = described_refuses code name takes k old m0 h (λ d v a b more e w u.
    let both : t.reads.front ++ m1.rest ≡ a ++ (b ++ more) = sym t.reads.moves.split ∙ e in
    let same = wire_same t.item d None t.reads.front a m1.rest (b ++ more) t.reads.wire w both in
    let rest : m1.rest ≡ b ++ more = append_cancel_left t.reads.front _ _ (both ∙ ap (λ (s : List ℕ). s ++ (b ++ more)) (sym same.0)) in
    stuck code (descriptor_taken code name d) (list_with (fields_taken takes) v) (none v b more u rest))

not_list : (taking : Items → Option (List Item)) (x : Item) → list_taken x ≡ None → list_with taking x ≡ None
not_list taking (list xs) e = absurd cc
not_list taking x e = refl

pub list_refused : (code : ℕ) (name : List ℕ) (takes : List (Item → Option Item)) (k : Option ℕ) (old m0 m1 : At) → Head k old m0 DescribedType → Took (descriptor_taken code name) None m0 m1 (scalar (ulong code)) → Refuses list_taken None m1 → Refuses (record_taken code name takes) k old
list_refused code name takes k old m0 m1 h t r = value_refuses code name takes k old m0 m1 h t (λ v b more w e. not_list (fields_taken takes) v (r.none v b more w e))

pub fields_refused : (code : ℕ) (name : List ℕ) (takes : List (Item → Option Item)) (count size : ℕ) (k : Option ℕ) (old m0 m1 m2 : At) → Head k old m0 DescribedType → Took (descriptor_taken code name) None m0 m1 (scalar (ulong code)) → Opens list None None m1 m2 count size → RefusesSized (fields_taken takes) count size None m2 → Refuses (record_taken code name takes) k old
fields_refused code name takes count size k old m0 m1 m2 h t o r = value_refuses code name takes k old m0 m1 h t
    (λ v b more w e. opened_refuses list (list_with (fields_taken takes)) None None m1 m2 count size (fields_taken takes) (λ t. refl) (λ xs q. q) o r v b more w e)

pub record_took : (code : ℕ) (name : List ℕ) (takes : List (Item → Option Item)) (count size : ℕ) (ys : List Item) (k : Option ℕ) (old m0 m1 m2 new : At) → Head k old m0 DescribedType → Took (descriptor_taken code name) None m0 m1 (scalar (ulong code)) → Opens list None None m1 m2 count size → TookSized (fields_taken takes) count size None m2 new ys → Took (record_taken code name takes) k old new (record_item code ys)
unfolding record_taken
record_took code name takes count size ys k old m0 m1 m2 new h t o s = record {
  item = described t.item (list s.all.items);
  reads = described_reads k old m0 m1 new t.item (list s.all.items) h t.reads (o.there s.all.items s.all.front new s.all.forms s.all.count_is s.size_is s.all.moves);
  taken = ap (λ (q : Option Item). q >>= λ c. fields_taken takes s.all.items >>= λ zs. Some (record_item code zs)) t.taken ∙ ap (λ (q : Option (List Item)). q >>= λ zs. Some (record_item code zs)) s.all.taken;
}

pub ruleset records = (described_refused, descriptor_refused, list_refused, fields_refused, record_took)
