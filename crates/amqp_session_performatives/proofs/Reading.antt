-- Reading a composite type, and the fields of a performative.
use Rattle.std.proofs.Common.{◌≡◌, ℕ, Bool, List, ◌++◌, Option, Some, None, Result, Ok, Err, sym, ◌∙◌, ap, subst, refl, append_assoc, inl, inr}
use Rattle.std.proofs.lemmas.List.{append_cancel_left}
use Rattle.std.specs.Prelude.{IfOk}
use Rattle.serde_amqp_item.specs.declared.codes.EncodingCodes.TheVariants.{DescribedType}
use Rattle.serde_amqp_item.specs.declared.error.Error.{Error}
use Rattle.serde_amqp_item.specs.Item.{Item, scalar, ulong, list, described}
use Rattle.serde_amqp_item.specs.Wire.{Wire, described_by}
use Rattle.serde_amqp_item.specs.Canon.{◌>>=◌}
use Rattle.serde_amqp_item.specs.Record.{record_item}
use Rattle.serde_amqp_item.proofs.Forms.{wire_same}
use Rattle.serde_amqp_read.specs.Reads.{Unless}
use Rattle.serde_amqp_de.specs.Reads.{At, Head, Refuses, Took}
use Rattle.serde_amqp_de.specs.Takes.{descriptor_taken, list_with, fields_taken, record_taken}
use Rattle.serde_amqp_de.proofs.Heads.{behind_head, plain_form, refusal_weaker}
use Rattle.serde_amqp_de.proofs.Records.{described_reads, described_parts}
use Rattle.serde_amqp_values.specs.Choice.{Row, fields_chosen, takes_coded, RefusesList, TookList}
use Rattle.serde_amqp_values.proofs.Choosing.{chosen_took, chosen_refused, not_chosen}
use Rattle.amqp_session_performatives.specs.Performative.{performative_item}
use Rattle.amqp_session_performatives.specs.Reading.{TookRecord}
use Rattle.amqp_session_performatives.specs.declared.performative.Performative.{Performative}

-- what the descriptor or the value of what is described here says
described_refuses : (code : ℕ) (name : List ℕ) (takes : List (Item → Option Item)) (k : Option ℕ) (old m0 : At) → Head k old m0 DescribedType
    → ((d v : Item) (a b more : List ℕ) → m0.rest ≡ a ++ (b ++ more) → Wire d None a → Wire v None b → record_taken code name takes (described d v) ≡ None)
    → Refuses (record_taken code name takes) k old
unfolding record_taken
described_refuses code name takes k old m0 h none = record {
  none = λ x f more w e.
      let b = behind_head k old m0 DescribedType x f more h w e in
      elim (plain_form x _ described_by b.0 b.1) [
        | inl t ↦ ap (record_taken code name takes) t.1
        | inr q ↦
            let p = described_parts x b.0 q in
            ap (record_taken code name takes) p.4 ∙ none p.0 p.1 p.2 p.3 more (b.2 ∙ (ap (λ (s : List ℕ). s ++ more) p.5 ∙ append_assoc p.2 p.3 more)) p.6 p.7
      ];
}

stuck : (code : ℕ) (o : Option Item) (r : Option (List Item)) → r ≡ None → (o >>= λ c. r >>= λ ys. Some (record_item code ys)) ≡ None
stuck code None r e = refl
stuck code (Some c) r e = ap (λ (q : Option (List Item)). q >>= λ ys. Some (record_item code ys)) e

-- no list of the fields follows the descriptor
pub composite_refused : (code : ℕ) (name : List ℕ) (takes : List (Item → Option Item)) (k : Option ℕ) (old m0 m1 : At) → Head k old m0 DescribedType → Took (descriptor_taken code name) None m0 m1 (scalar (ulong code)) → RefusesList takes m1 → Refuses (record_taken code name takes) k old
unfolding record_taken
composite_refused code name takes k old m0 m1 h t r = described_refuses code name takes k old m0 h (λ d v a b more e w u.
    let both : t.reads.front ++ m1.rest ≡ a ++ (b ++ more) = sym t.reads.moves.split ∙ e in
    let same = wire_same t.item d None t.reads.front a m1.rest (b ++ more) t.reads.wire w both in
    let rest : m1.rest ≡ b ++ more = append_cancel_left t.reads.front _ _ (both ∙ ap (λ (s : List ℕ). s ++ (b ++ more)) (sym same.0)) in
    stuck code (descriptor_taken code name d) (list_with (fields_taken takes) v) (r.none v b more u rest))

-- the list of the fields follows the descriptor
pub composite_took : (code : ℕ) (name : List ℕ) (takes : List (Item → Option Item)) (ys : List Item) (k : Option ℕ) (old m0 m1 new : At) → Head k old m0 DescribedType → Took (descriptor_taken code name) None m0 m1 (scalar (ulong code)) → TookList takes m1 new ys → Took (record_taken code name takes) k old new (record_item code ys)
unfolding record_taken
composite_took code name takes ys k old m0 m1 new h t l = record {
  item = described t.item (list l.items);
  reads = described_reads k old m0 m1 new t.item (list l.items) h t.reads l.reads;
  taken = ap (λ (q : Option Item). q >>= λ c. fields_taken takes l.items >>= λ zs. Some (record_item code zs)) t.taken ∙ ap (λ (q : Option (List Item)). q >>= λ zs. Some (record_item code zs)) l.taken;
}

-- the fields were read, and what was made of them has their item
pub composed_took : (takes : List (Item → Option Item)) (code : ℕ) (ys : List Item) (x y : Item) (old new : At) → TookList takes old new ys → y ≡ record_item code ys → x ≡ y → TookRecord takes code old new x
composed_took takes code ys x y old new t i e = record { fields = ys; took = t; item = e ∙ i }

pub ruleset composed = (composed_took)

-- this is the composite type with the code
pub made_took : (table : List Row) (code n : ℕ) (takes : List (Item → Option Item)) (x : Item) (old new : At) → code ≡ n → TookRecord takes n old new x → takes_coded table n ≡ Some takes → Took (fields_chosen table code) None old new x
made_took table code n takes x old new e t s = subst (λ (y : Item). Took (fields_chosen table code) None old new y) (sym t.item) (chosen_took table code n takes t.fields old new e t.took s)

-- the same of what reading it answers
pub arm_took : (r : Result Performative Error) (table : List Row) (code n : ℕ) (takes : List (Item → Option Item)) (old new : At) → code ≡ n → IfOk r (λ p. TookRecord takes n old new (performative_item p)) → takes_coded table n ≡ Some takes → IfOk r (λ p. Took (fields_chosen table code) None old new (performative_item p))
arm_took (Ok p) table code n takes old new e t s = made_took table code n takes (performative_item p) old new e t s
arm_took (Err f) table code n takes old new e t s = tt

pub arm_refused : (faulty : Error → Bool) (r : Result Performative Error) (table : List Row) (code n : ℕ) (takes : List (Item → Option Item)) (old : At) → code ≡ n → Unless faulty r (RefusesList takes old) → takes_coded table n ≡ Some takes → Unless faulty r (Refuses (fields_chosen table code) None old)
arm_refused faulty (Ok p) table code n takes old e u s = tt
arm_refused faulty (Err f) table code n takes old e u s = refusal_weaker faulty f (RefusesList takes old) (Refuses (fields_chosen table code) None old) (λ r. chosen_refused table code n takes old e r s) u

pub ruleset reading = (arm_took, arm_refused, chosen_took, chosen_refused, not_chosen)
