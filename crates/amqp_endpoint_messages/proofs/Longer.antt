-- No Disposition that tells a state is longer than the longest.
use Rattle.std.proofs.Common.{◌≡◌, ℕ, ◌+◌, ◌-◌, ◌≤◌, Bool, true, false, List, [], ◌∷◌, ◌++◌, length, arith}
use Rattle.std.proofs.Common.{refl, sym, ap, subst, ◌∙◌}
use Rattle.std.specs.Prelude.{◌^◌, Option, Some, None}
use Rattle.std.specs.Int.{w32, to_be_bytes}
use Rattle.std.proofs.lemmas.List.{length-append}
use Rattle.serde_amqp_item.specs.Item.{Item, items_of, item_count, scalar, boolean, uint, ulong, described, list}
use Rattle.serde_amqp_item.specs.Record.{trimmed}
use Rattle.serde_amqp_item.specs.Canon.{◌>>=◌, canon, canon_all, list_text}
use Rattle.serde_amqp_de.specs.Takes.{is_boolean}
use Rattle.amqp_session_types.specs.declared.modes.Role.TheVariants as role
use Rattle.amqp_session_states.specs.DeliveryState.{delivery_state_item}
use Rattle.amqp_session_states.specs.declared.delivery_state.DeliveryState.{DeliveryState}
use Rattle.amqp_session_states.specs.declared.delivery_state.DeliveryState.TheVariants as state_of
use Rattle.amqp_session_performatives.specs.Disposition.{disposition_fields, disposition_item}
use Rattle.amqp_session_performatives.specs.declared.disposition.Disposition.{Disposition}
use Rattle.amqp_link_unsettled.specs.Listing.{FitsText}
use Rattle.amqp_endpoint_fitting.specs.Plain.{IsUint, MayBeUint}
use Rattle.amqp_endpoint_fitting.proofs.Texts.{Short, Within, this, made, short, uint-short, boolean-short}
use Rattle.amqp_endpoint_fitting.proofs.Fields.{ShortFields, field, option-short, default-short}
use Rattle.amqp_endpoint_fitting.proofs.Lists.{Sized, described-short, no-more, sized}
use Rattle.amqp_endpoint_messages.specs.Longest.{longest}

-- a receiver's Disposition that tells a state
abbrev pub telling : ℕ → Option ℕ → Bool → DeliveryState → Disposition
telling first last settled state =
    record {
      role = role.Receiver;
      first = first;
      last = last;
      settled = settled;
      state = Some state;
      batchable = false;
    }

-- the fields of a Disposition have together at most twelve bytes more than the state
module _ (state : DeliveryState) (text : List ℕ) (is : canon (delivery_state_item state) ≡ Some text) where
  fields-short : (first : ℕ) (last : Option ℕ) (settled : Bool) → IsUint first → MayBeUint last
      → ShortFields (1 + (5 + (5 + (1 + (length text + 0))))) (disposition_fields (telling first last settled state))
  fields-short first last settled h k =
      field (boolean-short true)
      (field (uint-short first h)
      (field (option-short 5 (λ n. scalar (uint n)) IsUint last (omega arith) uint-short k)
      (field (default-short 1 (is_boolean false) (scalar (boolean settled)) (omega arith) (boolean-short settled))
      (field (short (length text) (delivery_state_item state) text is (omega arith))
      (record { within = this 0 [] (omega arith) })))))

-- the largest number takes five bytes
abbrev largest : List ℕ
largest = 0x70 ∷ to_be_bytes w32 (2 ^ 32 - 1)

-- the fields of the longest, where this is the state's text
abbrev content_of : List ℕ → List ℕ
content_of text = (0x41 ∷ []) ++ (largest ++ (largest ++ ((0x41 ∷ []) ++ (text ++ []))))

abbrev fields_of : Option (List ℕ) → Option (List ℕ)
fields_of None = None
fields_of (Some text) = Some (content_of text)

-- its text
abbrev text_of : Option (List ℕ) → Option (List ℕ)
text_of content = (content >>= list_text 5) >>= λ b. Some (0x00 ∷ (0x53 ∷ 0x15 ∷ []) ++ b)

abbrev longest_fields : DeliveryState → List Item
longest_fields state =
    scalar (boolean true)
    ∷ scalar (uint (2 ^ 32 - 1))
    ∷ scalar (uint (2 ^ 32 - 1))
    ∷ scalar (boolean true)
    ∷ delivery_state_item state
    ∷ []

not-trimmed : (state : DeliveryState) → trimmed (disposition_fields (longest state)) ≡ longest_fields state
not-trimmed (state_of.Received x) = refl
not-trimmed (state_of.Accepted x) = refl
not-trimmed (state_of.Rejected x) = refl
not-trimmed (state_of.Released x) = refl
not-trimmed (state_of.Modified x) = refl

content-is : (x : Item) (o : Option (List ℕ)) → canon x ≡ o
    → canon_all (items_of (scalar (boolean true) ∷ scalar (uint (2 ^ 32 - 1)) ∷ scalar (uint (2 ^ 32 - 1))
    ∷ scalar (boolean true) ∷ x ∷ [])) ≡ fields_of o
content-is x None e =
    ap (λ (o : Option (List ℕ)).
    (((((o >>= λ a. Some (a ++ [])) >>= λ b. Some ((0x41 ∷ []) ++ b)) >>= λ b. Some (largest ++ b))
    >>= λ b. Some (largest ++ b)) >>= λ b. Some ((0x41 ∷ []) ++ b))) e
content-is x (Some text) e =
    ap (λ (o : Option (List ℕ)).
    (((((o >>= λ a. Some (a ++ [])) >>= λ b. Some ((0x41 ∷ []) ++ b)) >>= λ b. Some (largest ++ b))
    >>= λ b. Some (largest ++ b)) >>= λ b. Some ((0x41 ∷ []) ++ b))) e

whole-is : (state : DeliveryState) (o : Option (List ℕ)) → canon (delivery_state_item state) ≡ o
    → canon (disposition_item (longest state)) ≡ text_of (fields_of o)
whole-is state o e =
    ap (λ (xs : List Item). canon (described (scalar (ulong 0x15)) (list (items_of xs)))) (not-trimmed state)
    ∙ ap text_of (content-is (delivery_state_item state) o e)

within-fits : (limit most : ℕ) (text : Option (List ℕ)) → Within most text → 8 + most ≤ limit → FitsText limit text
within-fits limit most text w le =
    subst (λ (o : Option (List ℕ)). FitsText limit o) (sym w.is) (omega (arith, le, w.short))

module _ (limit : ℕ) (state : DeliveryState) (first : ℕ) (last : Option ℕ) (settled : Bool) (h : IsUint first)
    (k : MayBeUint last) where
  abbrev Fits : Type 0
  Fits = FitsText limit (canon (disposition_item (telling first last settled state)))

  by-list : (text : List ℕ) (is : canon (delivery_state_item state) ≡ Some text) (o : Option (List ℕ))
      → list_text 5 (content_of text) ≡ o → FitsText limit (o >>= λ b. Some (0x00 ∷ (0x53 ∷ 0x15 ∷ []) ++ b)) → Fits
  by-list text is None e fit = absurd fit
  by-list text is (Some whole) e fit =
      let long : length (content_of text) ≡ 12 + length text =
      omega (
        arith,
        length-append largest (largest ++ ((0x41 ∷ []) ++ (text ++ []))),
        length-append largest ((0x41 ∷ []) ++ (text ++ [])),
        length-append text [],
      ) in
      let of : Sized (content_of text) whole = sized 5 (content_of text) whole (omega (arith, long)) e in
      let fields : List Item = disposition_fields (telling first last settled state) in
      let listed : Within (length whole) (canon (list (items_of (trimmed fields)))) =
      made (1 + (5 + (5 + (1 + (length text + 0))))) (length whole) (canon_all (items_of (trimmed fields)))
      (list_text (item_count (items_of (trimmed fields))))
      (fields-short state text is first last settled h k).within
      (λ x le. no-more (length whole) (item_count (items_of (trimmed fields))) x (content_of text) whole of
      (omega arith) (omega (arith, le, long))) in
      let coded : Short 2 (scalar (ulong 0x15)) =
      short 2 (scalar (ulong 0x15)) (0x53 ∷ 0x15 ∷ []) refl (omega arith) in
      within-fits limit (3 + length whole) _
      (described-short 0x15 (length whole) (list (items_of (trimmed fields))) coded listed)
      (omega (arith, fit))

  by-state : (o : Option (List ℕ)) → canon (delivery_state_item state) ≡ o
      → FitsText limit (text_of (fields_of o)) → Fits
  by-state None e fit = absurd fit
  by-state (Some text) e fit = by-list text e (list_text 5 (content_of text)) refl fit

  -- where the longest fits each does
  pub no-longer : FitsText limit (canon (disposition_item (longest state))) → Fits
  no-longer fit =
      by-state (canon (delivery_state_item state)) refl
      (subst (λ (o : Option (List ℕ)). FitsText limit o) (whole-is state (canon (delivery_state_item state)) refl) fit)
