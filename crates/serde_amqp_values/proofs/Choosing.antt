-- Descriptors that say one of several composite types, and its fields behind them.
use Rattle.std.proofs.Common.{◌≡◌, ◌≢◌, ℕ, List, ◌++◌, Option, Some, None, true, sym, ◌∙◌, ap, subst, refl, append_assoc, inl, inr}
use Rattle.std.proofs.lemmas.List.{append_cancel_left}
use Rattle.serde_amqp_item.specs.declared.codes.EncodingCodes.{EncodingCodes}
use Rattle.serde_amqp_item.specs.declared.codes.EncodingCodes.TheVariants.{DescribedType, Sym8, Sym32}
use Rattle.serde_amqp_item.specs.Item.{Item, Items, scalar, null, ulong, symbol, list, described}
use Rattle.serde_amqp_item.specs.Kind.{Kind, kind_at, symbol_kind}
use Rattle.serde_amqp_item.specs.Wire.{Wire, described_by}
use Rattle.serde_amqp_item.specs.Canon.{◌>>=◌, WithoutRaw}
use Rattle.serde_amqp_item.specs.Record.{record_item}
use Rattle.serde_amqp_item.proofs.Forms.{wire_same}
use Rattle.serde_amqp_de.specs.Reads.{At, Head, Foresees, Reads, Refuses, Took, Opens, TookSized, RefusesSized}
use Rattle.serde_amqp_de.specs.Takes.{kind_seen, ulong_taken, symbol_taken, list_taken, described_taken, list_with, fields_taken}
use Rattle.serde_amqp_de.proofs.Heads.{no_head_refuses, behind_head, plain_form}
use Rattle.serde_amqp_de.proofs.Values.{foreseen_seen}
use Rattle.serde_amqp_de.proofs.Sequences.{opened_refuses}
use Rattle.serde_amqp_de.proofs.Records.{described_reads, described_parts}
use Rattle.serde_amqp_values.specs.Choice.{Row, row_coded, takes_coded, row_said, code_named, fields_of, fields_chosen, choice_taken, code_said, name_said, TookList, RefusesList, codes_differ}
use Rattle.serde_amqp_values.specs.Rows.{coded_code, said_coded, said_plain, unsaid}

-- a list of fields
pub list_read : (takes : List (Item → Option Item)) (old mid new : At) (count size : ℕ) (ys : List Item) → Opens list None None old mid count size → TookSized (fields_taken takes) count size None mid new ys → TookList takes old new ys
list_read takes old mid new count size ys o s = record {
  items = s.all.items;
  reads = o.there s.all.items s.all.front new s.all.forms s.all.count_is s.size_is s.all.moves;
  taken = s.all.taken;
}

pub list_refused : (takes : List (Item → Option Item)) (old mid : At) (count size : ℕ) → Opens list None None old mid count size → RefusesSized (fields_taken takes) count size None mid → RefusesList takes old
list_refused takes old mid count size o r = record { none = opened_refuses list (list_with (fields_taken takes)) None None old mid count size (fields_taken takes) (λ t. refl) (λ xs q. q) o r }

not_list : (taking : Items → Option (List Item)) (x : Item) → list_taken x ≡ None → list_with taking x ≡ None
not_list taking (list xs) e = absurd cc
not_list taking x e = refl

pub no_list : (takes : List (Item → Option Item)) (old : At) → Refuses list_taken None old → RefusesList takes old
no_list takes old r = record { none = λ x f more w e. not_list (fields_taken takes) x (r.none x f more w e) }

pub ruleset lists = (list_read, list_refused, no_list)

-- a name
pub named : (table : List Row) (s : List ℕ) (code : ℕ) (k : Option ℕ) (old new : At) → Reads k old new (scalar (symbol s)) → Some code ≡ code_named table s → Took (name_said table) k old new (scalar (ulong code))
unfolding name_said
named table s code k old new r e = record {
  item = scalar (symbol s);
  reads = r;
  taken = ap (λ (o : Option ℕ). o >>= λ c. Some (scalar (ulong c))) (sym e);
}

-- an item with the bytes of a name that isn't taken isn't taken
other : (table : List Row) (s : List ℕ) (k : Option ℕ) (old new : At) → Reads k old new (scalar (symbol s)) → name_said table (scalar (symbol s)) ≡ None → (x : Item) (f more : List ℕ) → Wire x k f → old.rest ≡ f ++ more → name_said table x ≡ None
unfolding name_said
other table s k old new r none (scalar t) f more w e =
    let same = wire_same (scalar (symbol s)) (scalar t) k r.front f new.rest more r.wire w (sym r.moves.split ∙ e) in
    ap (name_said table) (sym (same.1 tt tt)) ∙ none
other table s k old new r none x f more w e = refl

no_code : (table : List Row) (s : List ℕ) → None ≡ code_named table s → name_said table (scalar (symbol s)) ≡ None
unfolding name_said
no_code table s e = ap (λ (o : Option ℕ). o >>= λ c. Some (scalar (ulong c))) (sym e)

pub not_named : (table : List Row) (s : List ℕ) (k : Option ℕ) (old new : At) → Reads k old new (scalar (symbol s)) → None ≡ code_named table s → Refuses (name_said table) k old
not_named table s k old new r e = record { none = other table s k old new r (no_code table s e) }

not_symbol : (table : List Row) (x : Item) → symbol_taken x ≡ None → name_said table x ≡ None
unfolding name_said
not_symbol table (scalar (symbol s)) e = absurd cc
not_symbol table (scalar s) e = refl
not_symbol table x e = refl

pub no_symbol : (table : List Row) (k : Option ℕ) (old : At) → Refuses symbol_taken k old → Refuses (name_said table) k old
no_symbol table k old r = record { none = λ x f more w e. not_symbol table x (r.none x f more w e) }

pub ruleset names = (named, not_named, no_symbol)

-- a code or a name
name_code : (table : List Row) (x y : Item) → name_said table x ≡ Some y → code_said table x ≡ Some y
unfolding name_said code_said
name_code table (scalar (symbol s)) y e = e
name_code table (scalar s) y e = absurd cc
name_code table x y e = absurd cc

pub code_by_name : (table : List Row) (y : Item) (k : Option ℕ) (old mid new : At) → mid ≡ old → Took (name_said table) k mid new y → Took (code_said table) k old new y
code_by_name table y k old mid new same t =
    let s : Took (name_said table) k old new y = subst (λ (a : At). Took (name_said table) k a new y) same t in
    record { item = s.item; reads = s.reads; taken = name_code table s.item y s.taken }

pub code_by_number : (table : List Row) (n : ℕ) (k : Option ℕ) (old mid new : At) → mid ≡ old → Reads k mid new (scalar (ulong n)) → Took (code_said table) k old new (scalar (ulong n))
unfolding code_said
code_by_number table n k old mid new same r = record {
  item = scalar (ulong n);
  reads = subst (λ (a : At). Reads k a new (scalar (ulong n))) same r;
  taken = refl;
}

-- a symbol's constructor, or another one
seen_symbol : (table : List Row) (x : Item) → kind_seen x ≡ Some symbol_kind → name_said table x ≡ None → code_said table x ≡ None
unfolding name_said code_said
seen_symbol table (scalar (symbol s)) e none = none
seen_symbol table (scalar (ulong n)) e none = absurd cc
seen_symbol table (scalar s) e none = refl
seen_symbol table x e none = refl

no_name : (table : List Row) (code : EncodingCodes) → kind_at code ≡ symbol_kind → (k : Option ℕ) (old mid : At) → Foresees k old code → mid ≡ old → Refuses (name_said table) k mid → Refuses (code_said table) k old
no_name table code is k old mid p same r =
    let s : Refuses (name_said table) k old = subst (λ (a : At). Refuses (name_said table) k a) same r in
    record { none = λ x f more w e. seen_symbol table x (foreseen_seen k old code x f more p w e ∙ ap (λ (t : Kind). Some t) is) (s.none x f more w e) }

pub no_name8 : (table : List Row) (k : Option ℕ) (old mid : At) → Foresees k old Sym8 → mid ≡ old → Refuses (name_said table) k mid → Refuses (code_said table) k old
no_name8 table k old mid p same r = no_name table Sym8 refl k old mid p same r

pub no_name32 : (table : List Row) (k : Option ℕ) (old mid : At) → Foresees k old Sym32 → mid ≡ old → Refuses (name_said table) k mid → Refuses (code_said table) k old
no_name32 table k old mid p same r = no_name table Sym32 refl k old mid p same r

not_symbol_kind : (code : EncodingCodes) → code ≢ Sym8 → code ≢ Sym32 → kind_at code ≢ symbol_kind
not_symbol_kind Sym8 m n = absurd (m refl)
not_symbol_kind Sym32 m n = absurd (n refl)
not_symbol_kind code m n = λ e. cc

seen_other : (table : List Row) (x : Item) (t : Kind) → kind_seen x ≡ Some t → t ≢ symbol_kind → ulong_taken x ≡ None → code_said table x ≡ None
unfolding code_said
seen_other table (scalar (symbol s)) t e n none = absurd (n cc)
seen_other table (scalar (ulong i)) t e n none = absurd cc
seen_other table (scalar s) t e n none = refl
seen_other table x t e n none = refl

pub no_number : (table : List Row) (code : EncodingCodes) (k : Option ℕ) (old mid : At) → Foresees k old code → code ≢ Sym8 → code ≢ Sym32 → mid ≡ old → Refuses ulong_taken k mid → Refuses (code_said table) k old
no_number table code k old mid p m n same r =
    let s : Refuses ulong_taken k old = subst (λ (a : At). Refuses ulong_taken k a) same r in
    record { none = λ x f more w e. seen_other table x (kind_at code) (foreseen_seen k old code x f more p w e) (not_symbol_kind code m n) (s.none x f more w e) }

pub ruleset codes = (no_head_refuses, code_by_name, code_by_number, no_name8, no_name32, no_number)

-- a descriptor, and the fields of the one that it says
choice_took : (table : List Row) → codes_differ table ≡ true → (code : ℕ) (y : Item) (k : Option ℕ) (old m0 m1 new : At) → Head k old m0 DescribedType → Took (code_said table) None m0 m1 (scalar (ulong code)) → Took (fields_chosen table code) None m1 new y → Took (choice_taken table) k old new y
unfolding choice_taken fields_chosen
choice_took table differ code y k old m0 m1 new h t s = record {
  item = described t.item s.item;
  reads = described_reads k old m0 m1 new t.item s.item h t.reads s.reads;
  taken = ap (λ (o : Option Row). o >>= λ r. fields_of r s.item) (said_coded table differ t.item code t.taken) ∙ s.taken;
}

pub choice_read : (table : List Row) (code : ℕ) (y : Item) (j k : Option ℕ) (old m0 m1 new : At) → Took (fields_chosen table code) None m1 new y → Took (code_said table) j m0 m1 (scalar (ulong code)) → j ≡ None → Head k old m0 DescribedType → codes_differ table ≡ true → Took (choice_taken table) k old new y
choice_read table code y j k old m0 m1 new s t e h differ = choice_took table differ code y k old m0 m1 new h (subst (λ (i : Option ℕ). Took (code_said table) i m0 m1 (scalar (ulong code))) e t) s

-- what the descriptor or the fields of what is described here say
described_refuses : (table : List Row) (k : Option ℕ) (old m0 : At) → Head k old m0 DescribedType
    → ((d v : Item) (a b more : List ℕ) → m0.rest ≡ a ++ (b ++ more) → Wire d None a → Wire v None b → choice_taken table (described d v) ≡ None)
    → Refuses (choice_taken table) k old
unfolding choice_taken
described_refuses table k old m0 h none = record {
  none = λ x f more w e.
      let b = behind_head k old m0 DescribedType x f more h w e in
      elim (plain_form x _ described_by b.0 b.1) [
        | inl t ↦ ap (choice_taken table) t.1
        | inr q ↦
            let p = described_parts x b.0 q in
            ap (choice_taken table) p.4 ∙ none p.0 p.1 p.2 p.3 more (b.2 ∙ (ap (λ (s : List ℕ). s ++ more) p.5 ∙ append_assoc p.2 p.3 more)) p.6 p.7
      ];
}

not_described : (table : List Row) (x : Item) → described_taken x ≡ None → choice_taken table x ≡ None
unfolding choice_taken
not_described table (described d v) e = absurd cc
not_described table x e = refl

pub described_refused : (table : List Row) (k : Option ℕ) (old : At) → Refuses described_taken k old → Refuses (choice_taken table) k old
described_refused table k old r = record { none = λ x f more w e. not_described table x (r.none x f more w e) }

unsaid_refused : (table : List Row) (d v : Item) → row_said table d ≡ None → choice_taken table (described d v) ≡ None
unfolding choice_taken
unsaid_refused table d v e = ap (λ (o : Option Row). o >>= λ r. fields_of r v) e

pub code_refused : (table : List Row) (k : Option ℕ) (old m0 : At) → Head k old m0 DescribedType → Refuses (code_said table) None m0 → Refuses (choice_taken table) k old
code_refused table k old m0 h r = described_refuses table k old m0 h (λ d v a b more e w u. unsaid_refused table d v (unsaid table d (r.none d a (b ++ more) w e)))

described_none : (table : List Row) (code : ℕ) (d v : Item) → (WithoutRaw d → row_said table d ≡ row_coded table code) → fields_chosen table code v ≡ None → choice_taken table (described d v) ≡ None
unfolding choice_taken fields_chosen row_said
described_none table code (scalar s) v same none = ap (λ (o : Option Row). o >>= λ r. fields_of r v) (same tt) ∙ none
described_none table code d v same none = refl

pub fields_refused : (table : List Row) → codes_differ table ≡ true → (code : ℕ) (k : Option ℕ) (old m0 m1 : At) → Head k old m0 DescribedType → Took (code_said table) None m0 m1 (scalar (ulong code)) → Refuses (fields_chosen table code) None m1 → Refuses (choice_taken table) k old
fields_refused table differ code k old m0 m1 h t r = described_refuses table k old m0 h (λ d v a b more e w u.
    let both : t.reads.front ++ m1.rest ≡ a ++ (b ++ more) = sym t.reads.moves.split ∙ e in
    let same = wire_same t.item d None t.reads.front a m1.rest (b ++ more) t.reads.wire w both in
    let rest : m1.rest ≡ b ++ more = append_cancel_left t.reads.front _ _ (both ∙ ap (λ (s : List ℕ). s ++ (b ++ more)) (sym same.0)) in
    let plain = said_plain table t.item (scalar (ulong code)) t.taken in
    described_none table code d v (λ n. ap (row_said table) (sym (same.1 plain n)) ∙ said_coded table differ t.item code t.taken) (r.none v b more u rest))

pub ruleset choices = (choice_read, described_refused, code_refused, fields_refused)

-- the fields of the one with a code
some_takes : (o : Option Row) (takes : List (Item → Option Item)) → (o >>= λ r. Some r.takes) ≡ Some takes → (r : Row) × (o ≡ Some r) × (r.takes ≡ takes)
some_takes None takes e = absurd cc
some_takes (Some r) takes e = (r, refl, cc)

row_with : (table : List Row) (code n : ℕ) (takes : List (Item → Option Item)) → code ≡ n → takes_coded table n ≡ Some takes → (r : Row) × (row_coded table code ≡ Some r) × (r.code ≡ n) × (r.takes ≡ takes)
row_with table code n takes e t =
    let p = some_takes (row_coded table n) takes t in
    (p.0, ap (row_coded table) e ∙ p.1, coded_code table n p.0 p.1, p.2)

fields_with : (r : Row) (n : ℕ) (takes : List (Item → Option Item)) (v : Item) → r.code ≡ n → r.takes ≡ takes → fields_of r v ≡ (list_with (fields_taken takes) v >>= λ zs. Some (record_item n zs))
fields_with r n takes v e t =
    ap (λ (c : ℕ). list_with (fields_taken r.takes) v >>= λ zs. Some (record_item c zs)) e
    ∙ ap (λ (ts : List (Item → Option Item)). list_with (fields_taken ts) v >>= λ zs. Some (record_item n zs)) t

chosen_with : (table : List Row) (code n : ℕ) (takes : List (Item → Option Item)) (v : Item) → code ≡ n → takes_coded table n ≡ Some takes → fields_chosen table code v ≡ (list_with (fields_taken takes) v >>= λ zs. Some (record_item n zs))
unfolding fields_chosen
chosen_with table code n takes v e t =
    let p = row_with table code n takes e t in
    ap (λ (o : Option Row). o >>= λ r. fields_of r v) p.1 ∙ fields_with p.0 n takes v p.2 p.3

pub chosen_took : (table : List Row) (code n : ℕ) (takes : List (Item → Option Item)) (ys : List Item) (old new : At) → code ≡ n → TookList takes old new ys → takes_coded table n ≡ Some takes → Took (fields_chosen table code) None old new (record_item n ys)
chosen_took table code n takes ys old new e t s = record {
  item = list t.items;
  reads = t.reads;
  taken = chosen_with table code n takes (list t.items) e s ∙ ap (λ (o : Option (List Item)). o >>= λ zs. Some (record_item n zs)) t.taken;
}

pub chosen_refused : (table : List Row) (code n : ℕ) (takes : List (Item → Option Item)) (old : At) → code ≡ n → RefusesList takes old → takes_coded table n ≡ Some takes → Refuses (fields_chosen table code) None old
chosen_refused table code n takes old e r s = record {
  none = λ x f more w q. chosen_with table code n takes x e s ∙ ap (λ (o : Option (List Item)). o >>= λ zs. Some (record_item n zs)) (r.none x f more w q);
}

pub not_chosen : (table : List Row) (code : ℕ) (old : At) → row_coded table code ≡ None → Refuses (fields_chosen table code) None old
unfolding fields_chosen
not_chosen table code old e = record { none = λ x f more w q. ap (λ (o : Option Row). o >>= λ s. fields_of s x) e }

pub ruleset chosen = (chosen_took, chosen_refused, not_chosen)

pub absent : (table : List Row) → choice_taken table (scalar null) ≡ None
unfolding choice_taken
absent table = refl

pub ruleset absents = (absent)
