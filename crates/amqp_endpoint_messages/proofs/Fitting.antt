-- The transfers of a message that is sent, or sent on, fit the frames that they were cut for, whatever number the
-- delivery gets.
use Rattle.std.proofs.Common.{◌≡◌, ℕ, ◌+◌, ◌-◌, ◌≤◌, ◌<◌, Bool, true, false, List, [], ◌∷◌, ◌++◌, length, arith}
use Rattle.std.proofs.Common.{refl, sym, ap, subst}
use Rattle.std.specs.Prelude.{◌^◌, ◌==◌, All, Option, Some, None, nat_le, nat_lt, if◌then◌else◌}
use Rattle.std.specs.Int.{w16, w32, to_be_bytes}
use Rattle.std.proofs.lemmas.Bool.Decides.{nat_tests}
use Rattle.std.proofs.lemmas.List.{length-append}
use Rattle.std.proofs.lemmas.List.Elements.{All-cons, All-head, All-nil, All-tail}
use Rattle.serde_amqp_item.specs.Item.{Item, items_of, item_count, scalar, null, binary, boolean, uint, ulong, list}
use Rattle.serde_amqp_item.specs.Record.{option_item, trimmed}
use Rattle.serde_amqp_item.specs.Canon.{◌>>=◌, canon, canon_all, list_text}
use Rattle.serde_amqp_item.proofs.Texts.{canon_long}
use Rattle.serde_amqp_de.specs.Takes.{is_boolean, or_null}
use Rattle.amqp_session_types.specs.declared.handles.OutputHandle.{OutputHandle}
use Rattle.amqp_session_states.specs.DeliveryState.{delivery_state_item}
use Rattle.amqp_session_states.specs.declared.delivery_state.DeliveryState.{DeliveryState}
use Rattle.amqp_session_performatives.specs.Transfer.{transfer_fields, transfer_item}
use Rattle.amqp_session_performatives.specs.declared.session_frame.SessionFrameBody.TheVariants as body
use Rattle.amqp_session_performatives.specs.declared.transfer.Transfer.{Transfer}
use Rattle.amqp_session_frames.specs.Cutting.{with_size}
use Rattle.amqp_session_frames.specs.Text.{sized_text}
use Rattle.amqp_session_outgoing.specs.declared.frames.Outbound.{Outbound}
use Rattle.amqp_session_core.specs.Batch.{Transfers, continuation_of, first_of}
use Rattle.amqp_session_core.specs.declared.batch.BehindFrame.{BehindFrame}
use Rattle.amqp_session_core.specs.declared.batch.TransferFrame.{TransferFrame}
use Rattle.amqp_link_sender.specs.Room.{measured, room_behind, room_of}
use Rattle.amqp_link_sender.specs.Splitting.{AreLater, IsDelivery, bytes_of, later, more_behind}
use Rattle.amqp_endpoint_model.specs.State.{text_fits}
use Rattle.amqp_endpoint_fitting.specs.Plain.{IsUint, MayBeUint}
use Rattle.amqp_endpoint_fitting.proofs.Texts.{Short, Within, boolean-short, made, null-short, short, this, uint-short}
use Rattle.amqp_endpoint_fitting.proofs.Fields.{ShortFields, default-short, field, option-short}
use Rattle.amqp_endpoint_fitting.proofs.Lists.{Sized, described-short, no-more, size, sized}
use Rattle.amqp_endpoint_fitting.specs.Fits.{BehindFits, FrameFits, UnitFits}
use Rattle.amqp_endpoint_messages.specs.Sending.{Message, first_on}
use Rattle.amqp_endpoint_messages.proofs.Lists.{Listed, Parts, listed, parts}

abbrev Unit : Type 0
Unit = Outbound TransferFrame BehindFrame

-- the room that a frame leaves, and the performative that it leaves it behind
pub record Leaves (limit room : ℕ) (text : Option (List ℕ)) : Type 0 where
  pub bytes : List ℕ
  pub is : text ≡ Some bytes
  pub fits : 8 + length bytes + room ≤ limit

pub leaves : (limit room : ℕ) (text : Option (List ℕ)) → room_behind text limit ≡ Some room → Leaves limit room text
leaves limit room None is = absurd cc
leaves limit room (Some text) is = by (limit - 8 - length text == 0) refl is
  where
    number_in : Option ℕ → ℕ
    number_in None = 0
    number_in (Some n) = n

    positive : (n : ℕ) → (n == 0) ≡ false → 1 ≤ n
    positive n e = grind (arith, nat_tests)

    by : (b : Bool) → (limit - 8 - length text == 0) ≡ b
        → (if b then None else Some (limit - 8 - length text)) ≡ Some room → Leaves limit room (Some text)
    by true e is = absurd cc
    by false e is =
        let same : limit - 8 - length text ≡ room = ap number_in is in
        let some : 1 ≤ limit - 8 - length text = positive (limit - 8 - length text) e in
        record { bytes = text; is = refl; fits = omega (arith, same, some) }

-- a frame has eight bytes more than its performative and its payload (part 2, 2.3.1)
sized-fits : (limit : ℕ) (piece : List ℕ) → limit < 2 ^ 32 → 4 + length piece ≤ limit
    → text_fits limit (sized_text piece) ≡ true
sized-fits limit piece few le =
    by (nat_lt (4 + length piece) (2 ^ 32)) (below (4 + length piece) (omega (arith, few, le)))
  where
    below : (n : ℕ) → n < 2 ^ 32 → nat_lt n (2 ^ 32) ≡ true
    below n h = grind (arith, nat_tests)

    whole : length (with_size piece) ≤ limit
    whole = omega (arith, le, length-append (to_be_bytes w32 (4 + length piece)) piece)

    most_is : (n : ℕ) → n ≤ limit → nat_le n limit ≡ true
    most_is n h = grind (arith, nat_tests)

    by : (b : Bool) → b ≡ true → text_fits limit (if b then Some (with_size piece) else None) ≡ true
    by true e = most_is (length (with_size piece)) whole
    by false e = absurd cc

abbrev text_on : ℕ → List ℕ → Option (List ℕ) → Option (List ℕ)
text_on channel payload text =
    ((text >>= λ t. Some (t ++ payload)) >>= λ c. Some (2 ∷ 0 ∷ (to_be_bytes w16 channel ++ c))) >>= sized_text

text-fits : (limit channel most : ℕ) (payload : List ℕ) (text : Option (List ℕ)) → limit < 2 ^ 32
    → 8 + most + length payload ≤ limit → Within most text → text_fits limit (text_on channel payload text) ≡ true
text-fits limit channel most payload text few le w =
    subst (λ (o : Option (List ℕ)). text_fits limit (text_on channel payload o) ≡ true) (sym w.is)
    (sized-fits limit (2 ∷ 0 ∷ (to_be_bytes w16 channel ++ (w.bytes ++ payload))) few
    (omega (
      arith,
      le,
      w.short,
      length-append (to_be_bytes w16 channel) (w.bytes ++ payload),
      length-append w.bytes payload,
    )))

pub frame-fits : (limit channel most : ℕ) (t : Transfer) (payload : List ℕ) → limit < 2 ^ 32
    → 8 + most + length payload ≤ limit → Within most (canon (transfer_item t))
    → FrameFits limit (record { channel = channel; body = body.Transfer t payload })
frame-fits limit channel most t payload few le w =
    text-fits limit channel most payload (canon (transfer_item t)) few le w

-- the largest number takes five bytes
abbrev pub largest : List ℕ
largest = 0x70 ∷ to_be_bytes w32 (2 ^ 32 - 1)

-- a transfer whose fields are no longer than those of another is no longer
pub none-longer : (said : List Item) (text : List ℕ) (whole : Listed said text) (most : ℕ) (other : Transfer)
    → 1 ≤ length whole.content → most ≤ length whole.content → ShortFields most (transfer_fields other)
    → Within (length text) (canon (transfer_item other))
none-longer said text whole most other some long fields =
    let of : Sized whole.content whole.whole =
    sized (item_count (items_of said)) whole.content whole.whole some whole.is_whole in
    let inner : Within (length whole.whole) (canon (list (items_of (trimmed (transfer_fields other))))) =
    made most (length whole.whole) (canon_all (items_of (trimmed (transfer_fields other))))
    (list_text (item_count (items_of (trimmed (transfer_fields other))))) fields.within
    (λ x le. no-more (length whole.whole) (item_count (items_of (trimmed (transfer_fields other)))) x whole.content
    whole.whole of (omega arith) (omega (arith, le, long))) in
    let coded : Short 2 (scalar (ulong 0x14)) =
    short 2 (scalar (ulong 0x14)) (0x53 ∷ 0x14 ∷ []) refl (omega arith) in
    let all =
    described-short 0x14 (length whole.whole) (list (items_of (trimmed (transfer_fields other)))) coded inner in
    record { bytes = all.bytes; is = all.is; short = omega (arith, all.short, whole.long) }

-- what the measured transfer says; one that resumes a message says a state, too
module _ (handle : OutputHandle) (m : Message) (settled : Bool) (state : Option DeliveryState) (resume : Bool) where
  abbrev pub first : Transfer
  first = record (first_on handle m settled) { state = state; resume = resume }

  abbrev link : Item
  link = scalar (uint handle.0)

  abbrev number : Item
  number = scalar (uint (2 ^ 32 - 1))

  abbrev tag : Item
  tag = scalar (binary m.tag)

  abbrev format : Item
  format = scalar (uint m.format)

  abbrev settling : Item
  settling = scalar (boolean settled)

  abbrev more : Item
  more = scalar (boolean true)

  abbrev tail : List Item
  tail =
      scalar null
      ∷ option_item delivery_state_item state
      ∷ or_null (is_boolean false) (scalar (boolean resume))
      ∷ scalar null
      ∷ scalar null
      ∷ []

  abbrev resuming : List Item
  resuming = trimmed tail

  abbrev said : List Item
  said = link ∷ number ∷ tag ∷ format ∷ settling ∷ more ∷ resuming

  -- the texts of its fields
  record Texts (content : List ℕ) : Type 0 where
    pub of_link : List ℕ
    pub is_link : canon link ≡ Some of_link
    pub of_tag : List ℕ
    pub is_tag : canon tag ≡ Some of_tag
    pub some_tag : 1 ≤ length of_tag
    pub of_format : List ℕ
    pub is_format : canon format ≡ Some of_format
    pub some_format : 1 ≤ length of_format
    pub of_resuming : List ℕ
    pub is_resuming : canon_all (items_of resuming) ≡ Some of_resuming
    pub long : length of_link + (5 + (length of_tag + (length of_format + (1 + (1 + length of_resuming)))))
        ≤ length content

  texts : (content : List ℕ) → canon_all (items_of said) ≡ Some content → Texts content
  texts content is =
      let a : Parts link (number ∷ tag ∷ format ∷ settling ∷ more ∷ resuming) content =
      parts link (number ∷ tag ∷ format ∷ settling ∷ more ∷ resuming) content is in
      let b : Parts number (tag ∷ format ∷ settling ∷ more ∷ resuming) a.rest =
      parts number (tag ∷ format ∷ settling ∷ more ∷ resuming) a.rest a.is_rest in
      let c : Parts tag (format ∷ settling ∷ more ∷ resuming) b.rest =
      parts tag (format ∷ settling ∷ more ∷ resuming) b.rest b.is_rest in
      let d : Parts format (settling ∷ more ∷ resuming) c.rest =
      parts format (settling ∷ more ∷ resuming) c.rest c.is_rest in
      let e : Parts settling (more ∷ resuming) d.rest = parts settling (more ∷ resuming) d.rest d.is_rest in
      let f : Parts more resuming e.rest = parts more resuming e.rest e.is_rest in
      let five : length largest ≡ length b.head = ap size b.is_head in
      record {
        of_link = a.head;
        is_link = a.is_head;
        of_tag = c.head;
        is_tag = c.is_head;
        some_tag = omega (arith, canon_long tag c.head c.is_head);
        of_format = d.head;
        is_format = d.is_head;
        some_format = omega (arith, canon_long format d.head d.is_head);
        of_resuming = f.rest;
        is_resuming = f.is_rest;
        long = omega (
          arith,
          a.long,
          b.long,
          c.long,
          d.long,
          e.long,
          f.long,
          five,
          canon_long settling e.head e.is_head,
          canon_long more f.head f.is_head,
        );
      }

  -- the fields of its delivery's transfers are no longer
  module _ (content : List ℕ) (t : Texts content) where
    abbrev most : ℕ
    most = length t.of_link + (5 + (length t.of_tag + (length t.of_format + (1 + (1 + length t.of_resuming)))))

    abbrev nulls : List Item
    nulls = scalar null ∷ scalar null ∷ scalar null ∷ scalar null ∷ scalar null ∷ []

    flag : (b : Bool) (xs : List Item) → ShortFields (length t.of_resuming) xs
        → ShortFields (1 + length t.of_resuming) (or_null (is_boolean false) (scalar (boolean b)) ∷ xs)
    flag b xs fields =
        field (default-short 1 (is_boolean false) (scalar (boolean b)) (omega arith) (boolean-short b)) fields

    link-short : Short (length t.of_link) link
    link-short = short (length t.of_link) link t.of_link t.is_link (omega arith)

    number-short : (n : Option ℕ) → MayBeUint n → Short 5 (option_item (λ k. scalar (uint k)) n)
    number-short n is = option-short 5 (λ k. scalar (uint k)) IsUint n (omega arith) uint-short is

    first-fields : (b : Bool) (n : Option ℕ) → MayBeUint n
        → ShortFields most (transfer_fields (record first { more = b; delivery_id = n }))
    first-fields b n is =
        field link-short
        (field (number-short n is)
        (field (short (length t.of_tag) tag t.of_tag t.is_tag (omega arith))
        (field (short (length t.of_format) format t.of_format t.is_format (omega arith))
        (field (boolean-short settled)
        (flag b tail
        (record {
          within = record { bytes = t.of_resuming; is = t.is_resuming; short = omega arith };
        }))))))

    later-fields : (b : Bool) (n : Option ℕ) → MayBeUint n
        → ShortFields most (transfer_fields (record (later (record { 0 = handle.0 }) b) { delivery_id = n }))
    later-fields b n is =
        field link-short
        (field (number-short n is)
        (field (null-short (length t.of_tag) t.some_tag)
        (field (null-short (length t.of_format) t.some_format)
        (field (null-short 1 (omega arith))
        (flag b nulls (record { within = this (length t.of_resuming) [] (omega arith) }))))))

  -- nor are those transfers
  module _ (text : List ℕ) (is : canon (transfer_item (measured first)) ≡ Some text) where
    abbrev whole : Listed said text
    whole = listed said text is

    abbrev of_fields : Texts whole.content
    of_fields = texts whole.content whole.is_content

    no-longer : (other : Transfer) → ShortFields (most whole.content of_fields) (transfer_fields other)
        → Within (length text) (canon (transfer_item other))
    no-longer other fields =
        none-longer said text whole (most whole.content of_fields) other (omega (arith, of_fields.long)) of_fields.long
        fields

-- each of the transfers, in a frame of its link
module _ (limit channel room : ℕ) (handle : OutputHandle) (m : Message) (settled : Bool) (state : Option DeliveryState)
    (resume : Bool) (few : limit < 2 ^ 32)
    (is_room : room_of (first handle m settled state resume) limit ≡ Some room) where
  abbrev start : Transfer
  start = first handle m settled state resume

  abbrev left : Leaves limit room (canon (transfer_item (measured start)))
  left = leaves limit room (canon (transfer_item (measured start))) is_room

  abbrev field_texts : Texts handle m settled state resume
      (whole handle m settled state resume left.bytes left.is).content
  field_texts = of_fields handle m settled state resume left.bytes left.is

  abbrev Fitting : Unit → Type 0
  Fitting u = UnitFits channel limit handle.0 u

  first-fits : (b : Bool) (payload : List ℕ) → length payload ≤ room
      → Fitting (first_of (record start { more = b }) payload)
  first-fits b payload le =
      record {
        transfer =
            record {
              each = λ n is.
                  frame-fits limit channel (length left.bytes)
                  (record start { more = b; delivery_id = n }) payload few
                  (omega (arith, left.fits, le))
                  (no-longer handle m settled state resume left.bytes left.is
                  (record start { more = b; delivery_id = n })
                  (first-fields handle m settled state resume _ field_texts b n is));
            };
        behind = All-nil (BehindFits channel limit);
      }

  later-fits : (b : Bool) (payload : List ℕ) → length payload ≤ room
      → Fitting (continuation_of (later (record { 0 = handle.0 }) b) payload)
  later-fits b payload le =
      record {
        transfer =
            record {
              each = λ n is.
                  frame-fits limit channel (length left.bytes)
                  (record (later (record { 0 = handle.0 }) b) { delivery_id = n }) payload few
                  (omega (arith, left.fits, le))
                  (no-longer handle m settled state resume left.bytes left.is
                  (record (later (record { 0 = handle.0 }) b) { delivery_id = n })
                  (later-fields handle m settled state resume _ field_texts b n is));
            };
        behind = All-nil (BehindFits channel limit);
      }

  abbrev Carries : Unit → Type 0
  Carries u = length (bytes_of u) ≤ room

  laters-fit : (us : Transfers) → AreLater (record { 0 = handle.0 }) us → All Carries us → All Fitting us
  laters-fit [] are within = All-nil Fitting
  laters-fit (u ∷ us) are within =
      All-cons Fitting u us
      (subst Fitting (sym are.0) (later-fits (more_behind us) (bytes_of u) (All-head Carries u us within)))
      (laters-fit us are.1 (All-tail Carries u us within))

  pub all-fit-on : (us : Transfers) → IsDelivery start us → All Carries us → All Fitting us
  all-fit-on [] is within = absurd is
  all-fit-on (u ∷ us) is within =
      All-cons Fitting u us
      (subst Fitting (sym is.0) (first-fits (more_behind us) (bytes_of u) (All-head Carries u us within)))
      (laters-fit us is.1 (All-tail Carries u us within))

-- those of a message that is sent say no state, and resume nothing
pub all-fit : (limit channel room : ℕ) (handle : OutputHandle) (m : Message) (settled : Bool) → limit < 2 ^ 32
    → room_of (first_on handle m settled) limit ≡ Some room → (us : Transfers)
    → IsDelivery (first_on handle m settled) us → All (λ (u : Unit). length (bytes_of u) ≤ room) us
    → All (UnitFits channel limit handle.0) us
all-fit limit channel room handle m settled few is_room us is within =
    all-fit-on limit channel room handle m settled None false few is_room us is within
