-- A Transfer in its common form is read by hand.
use Rattle.std.proofs.Common.{◌≡◌, ℕ, ◌+◌, ◌<◌, ◌≤◌, List, [], ◌∷◌, ◌++◌, length, Bool, true, false, Option, Some, None, refl, ◌∙◌, ap, arith, length-append, suc}
use Rattle.std.specs.Prelude.{unwrap_or}
use Rattle.serde_amqp_item.specs.Item.{Item, Items, scalar, boolean, uint, ulong, binary, list, described, no_items, more_items, item_count}
use Rattle.serde_amqp_item.specs.Record.{record_item}
use Rattle.serde_amqp_item.specs.Wire.{Form, Forms, IsCapped, IsStrict, Wire, row_of, code_of}
use Rattle.serde_amqp_item.specs.Canon.{◌>>=◌}
use Rattle.serde_amqp_de.specs.Takes.{fields_taken, mapped, option_taken, or_null, is_boolean}
use Rattle.serde_amqp_values.specs.Choice.{choice_taken, row_said}
use Rattle.amqp_session_performatives.specs.declared.performative.Performative.TheVariants as performing
use Rattle.amqp_session_frames.specs.Body.{Performed}
use Rattle.amqp_session_frames.specs.CommonTransfer.{CommonFields, LastFields, last_takes, nothing_more, saying_only}
use Rattle.amqp_session_frames.specs.Items.{Front, RecordFront, flag_item}
use Rattle.amqp_session_frames.proofs.Bodies.{performed}
use Rattle.amqp_session_frames.proofs.Fronts.{forms_of, record_performed}

pub last_none : (count : ℕ) (bytes : List ℕ) → count ≡ 4 → bytes ≡ [] → LastFields count bytes None false
unfolding option_taken mapped
last_none count bytes four none = record { items = no_items; counts = four; few = omega (arith, four); forms = none; taken = refl }

one_taken : (settled : Option Bool) → fields_taken last_takes (more_items (flag_item settled) no_items)
    ≡ Some (flag_item settled ∷ or_null (is_boolean false) (scalar (boolean false)) ∷ nothing_more)
unfolding option_taken mapped
one_taken None = refl
one_taken (Some b) = refl

pub last_one : (count : ℕ) (bytes rest : List ℕ) (settled : Option Bool) → count ≡ 5 → Front (flag_item settled) bytes rest → rest ≡ [] → LastFields count bytes settled false
last_one count bytes rest settled five f none =
    record {
      items = more_items (flag_item settled) no_items;
      counts = five;
      few = omega (arith, five);
      forms = forms_of (flag_item settled) no_items bytes rest f none;
      taken = one_taken settled;
    }

two_taken : (settled more : Option Bool) → fields_taken last_takes (more_items (flag_item settled) (more_items (flag_item more) no_items))
    ≡ Some (flag_item settled ∷ or_null (is_boolean false) (scalar (boolean (unwrap_or more false))) ∷ nothing_more)
unfolding option_taken mapped
two_taken None None = refl
two_taken None (Some true) = refl
two_taken None (Some false) = refl
two_taken (Some b) None = refl
two_taken (Some b) (Some true) = refl
two_taken (Some b) (Some false) = refl

pub last_two : (count : ℕ) (bytes between rest : List ℕ) (settled more : Option Bool) → count ≡ 6 → Front (flag_item settled) bytes between
    → Front (flag_item more) between rest → rest ≡ [] → LastFields count bytes settled (unwrap_or more false)
last_two count bytes between rest settled more six f g none =
    record {
      items = more_items (flag_item settled) (more_items (flag_item more) no_items);
      counts = six;
      few = omega (arith, six);
      forms = forms_of (flag_item settled) (more_items (flag_item more) no_items) bytes between f (forms_of (flag_item more) no_items between rest g none);
      taken = two_taken settled more;
    }

pub ruleset last_forms = (last_none, last_one, last_two)

pub performed_transfer : (content fields one two three last : List ℕ) (count size : ℕ) (c : CommonFields)
    → RecordFront 0x14 content count fields
    → Front (scalar (uint c.handle)) fields one
    → Front (scalar (uint c.number)) one two
    → Front (scalar (binary c.tag)) two three
    → Front (scalar (uint c.format)) three last
    → LastFields count last c.settled c.more
    → size ≡ 6 + length fields
    → Performed content (performing.Transfer (saying_only c)) size
unfolding choice_taken row_said option_taken mapped row_of code_of
performed_transfer content fields one two three last count size c l h n t f rest long =
    let formatted : Items = more_items (scalar (uint c.format)) rest.items in
    let tagged : Items = more_items (scalar (binary c.tag)) formatted in
    let numbered : Items = more_items (scalar (uint c.number)) tagged in
    let xs : Items = more_items (scalar (uint c.handle)) numbered in
    let forms : Forms IsCapped IsStrict xs None fields =
    forms_of (scalar (uint c.handle)) numbered fields one h
    (forms_of (scalar (uint c.number)) tagged one two n (forms_of (scalar (binary c.tag)) formatted two three t (forms_of (scalar (uint c.format)) rest.items three last f rest.forms))) in
    record_performed 0x14 content fields count size xs (performing.Transfer (saying_only c)) l forms (omega (arith, rest.counts)) (omega (arith, rest.few)) long
    (ap (λ (o : Option (List Item)). ((((o >>= λ ys. Some (scalar (uint c.format) ∷ ys)) >>= λ ys. Some (scalar (binary c.tag) ∷ ys))
    >>= λ ys. Some (scalar (uint c.number) ∷ ys)) >>= λ ys. Some (scalar (uint c.handle) ∷ ys)) >>= λ ys. Some (record_item 0x14 ys)) rest.taken)
