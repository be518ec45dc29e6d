-- Described values, behind their descriptors.
use Rattle.std.proofs.Common.{◌≡◌, ℕ, List, [], ◌∷◌, ◌++◌, Option, Some, None, Result, sym, ◌∙◌, ap, subst, refl}
use Rattle.std.proofs.lemmas.List.{map-append}
use Rattle.serde_amqp_item.specs.Item.{Item, scalar, uint, ulong, list, described, items_of, item_count}
use Rattle.serde_amqp_item.specs.Canon.{◌>>=◌, canon, list_text, alone}
use Rattle.serde_amqp_item.specs.declared.error.Error.{Error}
use Rattle.serde_amqp_ser.specs.Written.{Written, extended, Keeps}
use Rattle.serde_amqp_ser.specs.Puts.{State, behind, serialized, OnlyWhere}
use Rattle.serde_amqp_ser.specs.Open.{IsOpen, in_turn}
use Rattle.serde_amqp_ser.specs.declared.opened.Opened.{Opened}
use Rattle.serde_amqp_ser.specs.Content.{Holds}
use Rattle.serde_amqp_ser.specs.Composite.{IsDescribed, HoldsFields, values, struct_item, variant_item}
use Rattle.serde_amqp_ser.specs.declared.struct_serializer.StructEncoding.{StructEncoding}
use Rattle.serde_amqp_ser.specs.declared.struct_serializer.StructEncoding.TheVariants as encoding
use Rattle.serde_amqp_ser.specs.declared.content.Content.{Content}
use Rattle.serde_amqp_ser.proofs.Grown.{extended-extended, keeps_once, keeps_then}
use Rattle.serde_amqp_ser.proofs.Listed.{alone_none_of, alone_gives, alone_stays, only_where}
use Rattle.serde_amqp_item.proofs.Texts.{canon_all_stuck}
use Rattle.serde_amqp_ser.proofs.Begun.{open_more, map_without_key, map_without_value}
use Rattle.serde_amqp_ser.proofs.Held.{list_refuses}
use Rattle.serde_amqp_ser.proofs.Fronts.{state_is, described_written, descriptor_stuck, value_stuck}

-- a zero byte and the code
pub is_described : (s z d : State) (code : ℕ) → s.place ≡ alone → z.written ≡ extended s.written (0x00 ∷ []) → z.place ≡ alone → serialized z (scalar (ulong code)) ≡ Some d → IsDescribed s code d
is_described s z d code p w q e =
    let t = alone_gives (scalar (ulong code)) z d q e in
    record {
      outside = p;
      still = alone_stays (scalar (ulong code)) z d q e;
      text = t.0;
      text_is = t.1;
      behind = t.2 ∙ (ap (λ (v : Written). extended v t.0) w ∙ extended-extended s.written (0x00 ∷ []) t.0);
    }

-- the state between them
abbrev zero_at : State → State
zero_at s = record { written = extended s.written (0x00 ∷ []); place = alone }

code_at : (s d : State) (code : ℕ) → IsDescribed s code d → serialized (zero_at s) (scalar (ulong code)) ≡ Some d
code_at s d code h =
    let there : d.written ≡ extended (extended s.written (0x00 ∷ [])) h.text = h.behind ∙ sym (extended-extended s.written (0x00 ∷ []) h.text) in
    ap (λ (o : Option (List ℕ)). behind (zero_at s) (o >>= λ a. Some (alone, a))) h.text_is
    ∙ ap (λ (t : State). Some t) (state_is d (extended (extended s.written (0x00 ∷ [])) h.text) there h.still)

-- a value behind its descriptor
pub described_gives : (s d t : State) (code : ℕ) (v : Item) → IsDescribed s code d → serialized d v ≡ Some t → serialized s (described (scalar (ulong code)) v) ≡ Some t
described_gives s d t code v h e = described_written s (zero_at s) d t (scalar (ulong code)) v h.outside refl refl (code_at s d code h) h.still e

pub described_none : (s d : State) (code : ℕ) (v : Item) → IsDescribed s code d → serialized d v ≡ None → serialized s (described (scalar (ulong code)) v) ≡ None
described_none s d code v h e = value_stuck s d (scalar (ulong code)) v h.outside h.still e

pub described_refuses : {X : Type 0} (r : Result X Error) (s d : State) (code : ℕ) (v : Item) → IsDescribed s code d → OnlyWhere r (serialized d v) → OnlyWhere r (serialized s (described (scalar (ulong code)) v))
described_refuses r s d code v h o = only_where r (serialized d v) (serialized s (described (scalar (ulong code)) v)) (described_none s d code v h) o

-- the bytes before the descriptor stay
pub described_keeps : (s d : State) (code : ℕ) (now : Written) → IsDescribed s code d → Keeps d.written now → Keeps s.written now
described_keeps s d code now h k = keeps_then s.written d.written now (keeps_once s.written d.written (0x00 ∷ h.text) h.behind) k

-- the values of one field more
pub values_more : (fields : List (Item × Item)) (n x : Item) → values (fields ++ (n, x) ∷ []) ≡ values fields ++ x ∷ []
values_more fields n x = map-append (λ f. f.1) fields ((n, x) ∷ [])

pub values_split : (fields others : List (Item × Item)) (n x : Item) → values (fields ++ (n, x) ∷ others) ≡ values fields ++ x ∷ values others
values_split fields others n x = map-append (λ f. f.1) fields ((n, x) ∷ others)

pub holds_value : (begins : ℕ → ℕ) (s : State) (fields : List (Item × Item)) (n x : Item) (c : Content) (now : State) → Holds begins s (values fields ++ x ∷ []) c now → Holds begins s (values (fields ++ (n, x) ∷ [])) c now
holds_value begins s fields n x c now h = subst (λ (xs : List Item). Holds begins s xs c now) (sym (values_more fields n x)) h

-- a value that a struct refuses, where names aren't written
pub value_refuses : {X : Type 0} (r : Result X Error) (begins : ℕ → ℕ) (s : State) (e : StructEncoding) (code : ℕ) (fields others : List (Item × Item)) (n x : Item) (u : Opened) (c : Content) (now : State) → (e ≡ encoding.DescribedMap → ⊥) → HoldsFields begins s e code fields u c now → ((d : State) (xs : List Item) → Holds begins d xs c now → OnlyWhere r (canon x)) → OnlyWhere r (serialized s (struct_item e code (fields ++ (n, x) ∷ others)))
value_refuses r begins s encoding.None code fields others n x u c now d h f =
    subst (λ (xs : List Item). OnlyWhere r (serialized s (list (items_of xs)))) (sym (values_split fields others n x)) (list_refuses r s (values fields) (values others) x (f h.start (values fields) h.items))
value_refuses r begins s encoding.DescribedList code fields others n x u c now d h f =
    described_refuses r s h.start code (list (items_of (values (fields ++ (n, x) ∷ others)))) h.begun
    (subst (λ (xs : List Item). OnlyWhere r (serialized h.start (list (items_of xs)))) (sym (values_split fields others n x)) (list_refuses r h.start (values fields) (values others) x (f h.start (values fields) h.items)))
value_refuses r begins s encoding.DescribedMap code fields others n x u c now d h f = absurd (d refl)
value_refuses r begins s encoding.DescribedBasic code fields others n x u c now d h f = absurd h.begun

-- a field more of a struct that is a map
pub named_more : (begins : ℕ → ℕ) (s : State) (e : StructEncoding) (code : ℕ) (fields : List (Item × Item)) (n x : Item) (u : Opened) (c v : Content) (now then : State) → e ≡ encoding.DescribedMap → HoldsFields begins s e code fields u c now → ((d : State) → Holds begins d (in_turn fields) c now → Holds begins d (in_turn (fields ++ (n, x) ∷ [])) v then) → HoldsFields begins s e code (fields ++ (n, x) ∷ []) u v then
named_more begins s encoding.DescribedMap code fields n x u c v now then e h f = record { mark = h.mark; start = h.start; begun = h.begun; items = f h.start h.items }
named_more begins s encoding.None code fields n x u c v now then e h f = absurd cc
named_more begins s encoding.DescribedList code fields n x u c v now then e h f = absurd cc
named_more begins s encoding.DescribedBasic code fields n x u c v now then e h f = absurd cc

pub ruleset described_rules = (is_described, described_gives, described_none, described_refuses, described_keeps, descriptor_stuck)

-- a field that a variant refuses
list_none : (xs ys : List Item) (x : Item) → canon x ≡ None → canon (list (items_of (xs ++ x ∷ ys))) ≡ None
list_none xs ys x e = ap (λ (o : Option (List ℕ)). o >>= list_text (item_count (items_of (xs ++ x ∷ ys)))) (canon_all_stuck xs ys x e)

pub index_refuses : {X : Type 0} (r : Result X Error) (s t : State) (index : ℕ) (xs : List Item) → t.place ≡ alone → OnlyWhere r (serialized t (scalar (uint index))) → OnlyWhere r (serialized s (variant_item index xs))
index_refuses r s t index xs p h = only_where r (serialized t (scalar (uint index))) (serialized s (variant_item index xs)) (λ e. map_without_key s [] [] (scalar (uint index)) (list (items_of xs)) (alone_none_of (scalar (uint index)) t p e)) h

pub field_refuses : {X : Type 0} (r : Result X Error) (s : State) (index : ℕ) (xs ys : List Item) (x : Item) → OnlyWhere r (canon x) → OnlyWhere r (serialized s (variant_item index (xs ++ x ∷ ys)))
field_refuses r s index xs ys x h = only_where r (canon x) (serialized s (variant_item index (xs ++ x ∷ ys))) (λ e. map_without_value s [] [] (scalar (uint index)) (list (items_of (xs ++ x ∷ ys))) (list_none xs ys x e)) h

pub fields_refuse : {X : Type 0} (r : Result X Error) (s t : State) (index : ℕ) (xs : List Item) → t.place ≡ alone → OnlyWhere r (serialized t (list (items_of xs))) → OnlyWhere r (serialized s (variant_item index xs))
fields_refuse r s t index xs p h = only_where r (serialized t (list (items_of xs))) (serialized s (variant_item index xs)) (λ e. map_without_value s [] [] (scalar (uint index)) (list (items_of xs)) (alone_none_of (list (items_of xs)) t p e)) h

-- the list behind the index
pub variant_open : (begins : ℕ → ℕ) (w : Written) (index : ℕ) (xs : List Item) (start t : State) → IsOpen begins w (scalar (uint index) ∷ []) start → serialized start (list (items_of xs)) ≡ Some t → IsOpen begins w (in_turn ((scalar (uint index), list (items_of xs)) ∷ [])) t
variant_open begins w index xs start t o e = open_more begins w (scalar (uint index) ∷ []) (list (items_of xs)) start t o e

pub ruleset varying = (index_refuses, field_refuses, fields_refuse, variant_open)

pub ruleset composing = (described_gives, described_refuses, described_keeps, holds_value)
