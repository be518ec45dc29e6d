-- The last fields of a record are read by hand, one behind the other.
use Rattle.std.proofs.Common.{◌≡◌, ◌≢◌, ℕ, ◌+◌, ◌-◌, List, [], ◌∷◌, Bool, true, false, Option, Some, None, refl}
use Rattle.std.proofs.Common.{◌∙◌, ap, arith}
use Rattle.std.specs.Prelude.{unwrap_or}
use Rattle.serde_amqp_item.specs.Item.{Item, Items, scalar, boolean, uint, ulong, no_items, more_items}
use Rattle.serde_amqp_item.specs.Canon.{◌>>=◌}
use Rattle.serde_amqp_item.specs.Record.{option_item}
use Rattle.serde_amqp_de.specs.Takes.{boolean_taken, fields_taken, is_boolean, mapped, option_taken, or_null}
use Rattle.serde_amqp_de.specs.Takes.{uint_taken, ulong_taken}
use Rattle.amqp_session_frames.specs.Items.{Fields, Front, flag_item}
use Rattle.amqp_session_frames.proofs.Fronts.{forms_of}

-- a field in front of the others
pub taken_more : (take : Item → Option Item) (takes : List (Item → Option Item)) (x y : Item) (xs : Items)
    (ys : List Item)
    → take x ≡ Some y → fields_taken takes xs ≡ Some ys → fields_taken (take ∷ takes) (more_items x xs) ≡ Some (y ∷ ys)
taken_more take takes x y xs ys one rest =
    ap (λ (o : Option Item). o >>= λ z. fields_taken takes xs >>= λ zs. Some (z ∷ zs)) one
    ∙ ap (λ (o : Option (List Item)). o >>= λ zs. Some (y ∷ zs)) rest

pub fields_more : (take : Item → Option Item) (takes : List (Item → Option Item)) (x y : Item) (ys : List Item)
    (count : ℕ) (bytes rest : List ℕ)
    → Front x bytes rest → take x ≡ Some y → Fields takes ys count rest
    → Fields (take ∷ takes) (y ∷ ys) (count + 1) bytes
fields_more take takes x y ys count bytes rest front one f =
    record {
      items = more_items x f.items;
      counts = omega (arith, f.counts);
      forms = forms_of x f.items bytes rest front f.forms;
      taken = taken_more take takes x y f.items ys one f.taken;
    }

-- fields of which one is left at least
pub fields_left : (take : Item → Option Item) (takes : List (Item → Option Item)) (x y : Item) (ys : List Item)
    (count : ℕ) (bytes rest : List ℕ)
    → count ≢ 0 → Front x bytes rest → take x ≡ Some y → Fields takes ys (count - 1) rest
    → Fields (take ∷ takes) (y ∷ ys) count bytes
fields_left take takes x y ys count bytes rest some front one f =
    let more = fields_more take takes x y ys (count - 1) bytes rest front one f in
    record { items = more.items; counts = omega (arith, some, more.counts); forms = more.forms; taken = more.taken }

-- no field is left
pub no_fields : (takes : List (Item → Option Item)) (ys : List Item) (count : ℕ) (bytes : List ℕ)
    → count ≡ 0 → bytes ≡ [] → fields_taken takes no_items ≡ Some ys → Fields takes ys count bytes
no_fields takes ys count bytes zero none all = record { items = no_items; counts = zero; forms = none; taken = all }

-- null is taken for what is absent
pub uint_or_null_taken : (n : Option ℕ) → option_taken uint_taken (option_item (λ k. scalar (uint k)) n) ≡ Some
    (option_item (λ k. scalar (uint k)) n)
unfolding option_taken
uint_or_null_taken None = refl
uint_or_null_taken (Some k) = refl

pub ulong_or_null_taken : (n : Option ℕ) → option_taken ulong_taken (option_item (λ k. scalar (ulong k)) n) ≡ Some
    (option_item (λ k. scalar (ulong k)) n)
unfolding option_taken
ulong_or_null_taken None = refl
ulong_or_null_taken (Some k) = refl

-- and for false, as false is for null
pub flag_or_false_taken : (flag : Option Bool)
    → mapped (or_null (is_boolean false)) (option_taken boolean_taken) (flag_item flag)
    ≡ Some (or_null (is_boolean false) (scalar (boolean (unwrap_or flag false))))
unfolding option_taken mapped
flag_or_false_taken None = refl
flag_or_false_taken (Some true) = refl
flag_or_false_taken (Some false) = refl
