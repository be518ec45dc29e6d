-- A transfer that gives a delivery up fits the peer's frames whatever number the delivery gets, if with the largest.
use Rattle.std.proofs.Common.{◌≡◌, ℕ, ◌+◌, ◌-◌, ◌≤◌, ◌<◌, Bool, true, false, List, [], ◌∷◌, length, arith, refl, ap}
use Rattle.std.specs.Prelude.{◌^◌, ◌↔◌, All, IsTrue, Option, Some, None, if◌then◌else◌}
use Rattle.std.proofs.lemmas.List.Elements.{All-cons, All-nil}
use Rattle.serde_amqp_item.specs.Item.{Item, items_of, scalar, null, binary, boolean, uint}
use Rattle.serde_amqp_item.specs.Canon.{canon, canon_all}
use Rattle.amqp_session_types.specs.declared.handles.OutputHandle.{OutputHandle}
use Rattle.amqp_session_performatives.specs.Transfer.{transfer_fields, transfer_item}
use Rattle.amqp_session_performatives.specs.declared.session_frame.SessionFrameBody.TheVariants as body
use Rattle.amqp_session_performatives.specs.declared.transfer.Transfer.{Transfer}
use Rattle.amqp_session_core.specs.Batch.{first_of}
use Rattle.amqp_link_unsettled.specs.Listing.{FitsText}
use Rattle.amqp_link_unsettled.specs.declared.exchanging.Abort.{Abort}
use Rattle.amqp_endpoint_fitting.specs.Fits.{BehindFits, FrameFits, UnitFits}
use Rattle.amqp_endpoint_fitting.specs.Plain.{IsUint, MayBeUint}
use Rattle.amqp_endpoint_fitting.proofs.Texts.{Within, short, uint-short}
use Rattle.amqp_endpoint_fitting.proofs.Fields.{ShortFields, field, option-short}
use Rattle.amqp_endpoint_fitting.proofs.Lists.{size}
use Rattle.amqp_endpoint_messages.specs.GivingUp.{EachFits, abort_fits, abort_on, batch_of, fitting, transfer_fits}
use Rattle.amqp_endpoint_messages.proofs.Fitting.{frame-fits, largest, none-longer}
use Rattle.amqp_endpoint_messages.proofs.Lists.{Listed, Parts, listed, parts}
use Rattle.amqp_endpoint_messages.proofs.Sizes.{fits-text, same-test, text-fits}

-- the text of a transfer with the largest number
abbrev largest_text : Transfer → Option (List ℕ)
largest_text t = canon (transfer_item (record t { delivery_id = Some (2 ^ 32 - 1) }))

-- it is measured by its text
pub transfer-tested : (limit : ℕ) (t : Transfer) (r : Bool) → limit < 2 ^ 32
    → (IsTrue r ↔ FitsText limit (canon (transfer_item (record t { delivery_id = Some (2 ^ 32 - 1) }))))
    → r ≡ transfer_fits limit t
transfer-tested limit t r few is =
    same-test (FitsText limit (largest_text t)) r (transfer_fits limit t) is
    (λ h. text-fits limit 0 (largest_text t) few h) (λ h. fits-text limit 0 (largest_text t) h)

module _ (handle : OutputHandle) (abort : Abort) where
  abbrev with_number : Option ℕ → Transfer
  with_number n = record (abort_on handle abort) { delivery_id = n }

  abbrev link : Item
  link = scalar (uint handle.0)

  abbrev number : Item
  number = scalar (uint (2 ^ 32 - 1))

  -- what it says behind the number: nothing of a message
  abbrev others : List Item
  others =
      scalar (binary abort.tag)
      ∷ scalar (uint abort.message_format)
      ∷ scalar null
      ∷ scalar null
      ∷ scalar null
      ∷ scalar null
      ∷ scalar (boolean true)
      ∷ scalar (boolean true)
      ∷ []

  short-fields : (n : Option ℕ) → MayBeUint n → (of_link of_others : List ℕ) → canon link ≡ Some of_link
      → canon_all (items_of others) ≡ Some of_others
      → ShortFields (length of_link + (5 + length of_others)) (transfer_fields (with_number n))
  short-fields n may of_link of_others is_link is_others =
      field (short (length of_link) link of_link is_link (omega arith))
      (field (option-short 5 (λ k. scalar (uint k)) IsUint n (omega arith) uint-short may)
      (record { within = record { bytes = of_others; is = is_others; short = omega arith } }))

  no-longer : (text : List ℕ) → canon (transfer_item (with_number (Some (2 ^ 32 - 1)))) ≡ Some text
      → (n : Option ℕ) → MayBeUint n → Within (length text) (canon (transfer_item (with_number n)))
  no-longer text is n may =
      let whole : Listed (link ∷ number ∷ others) text = listed (link ∷ number ∷ others) text is in
      let a : Parts link (number ∷ others) whole.content =
      parts link (number ∷ others) whole.content whole.is_content in
      let b : Parts number others a.rest = parts number others a.rest a.is_rest in
      let five : length largest ≡ length b.head = ap size b.is_head in
      let long : length a.head + (5 + length b.rest) ≤ length whole.content = omega (arith, a.long, b.long, five) in
      none-longer (link ∷ number ∷ others) text whole (length a.head + (5 + length b.rest)) (with_number n)
      (omega (arith, long)) long (short-fields n may a.head b.rest a.is_head b.is_rest)

  fits-each : (limit channel : ℕ) → limit < 2 ^ 32 → FitsText limit (largest_text (abort_on handle abort))
      → (n : Option ℕ) → MayBeUint n
      → FrameFits limit (record { channel = channel; body = body.Transfer (with_number n) [] })
  fits-each limit channel few h n may = by (largest_text (abort_on handle abort)) refl h
    where
      by : (o : Option (List ℕ)) → largest_text (abort_on handle abort) ≡ o → FitsText limit o
          → FrameFits limit (record { channel = channel; body = body.Transfer (with_number n) [] })
      by None e h = absurd h
      by (Some text) e h =
          frame-fits limit channel (length text) (with_number n) [] few (omega (arith, h)) (no-longer text e n may)

  -- where the peer takes it with the largest number, it does with each, on each channel
  pub batch-fits : (limit channel : ℕ) → limit < 2 ^ 32 → abort_fits limit handle abort ≡ true
      → All (UnitFits channel limit handle.0) (batch_of handle abort)
  batch-fits limit channel few fit =
      let text : FitsText limit (largest_text (abort_on handle abort)) =
      fits-text limit 0 (largest_text (abort_on handle abort)) fit in
      All-cons (UnitFits channel limit handle.0) (first_of (abort_on handle abort) []) []
      (record {
        transfer = record { each = λ n may. fits-each limit channel few text n may };
        behind = All-nil (BehindFits channel limit);
      })
      (All-nil (UnitFits channel limit handle.0))

-- each before the first that it doesn't take
pub each-fits : (limit : ℕ) (handle : OutputHandle) → limit < 2 ^ 32 → (aborts : List Abort)
    → EachFits limit handle (fitting limit handle aborts)
each-fits limit handle few [] = λ channel. All-nil _
each-fits limit handle few (abort ∷ aborts) =
    by (abort_fits limit handle abort) refl (each-fits limit handle few aborts)
  where
    by : (b : Bool) → abort_fits limit handle abort ≡ b → EachFits limit handle (fitting limit handle aborts)
        → EachFits limit handle (if b then abort ∷ fitting limit handle aborts else [])
    by true fit later = λ channel.
        All-cons (λ (a : Abort). All (UnitFits channel limit handle.0) (batch_of handle a)) abort
        (fitting limit handle aborts) (batch-fits handle abort limit channel few fit) (later channel)
    by false fit later = λ channel. All-nil _
