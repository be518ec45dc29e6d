-- No Disposition that goes back is longer than the longest.
use Rattle.std.proofs.Common.{◌≡◌, ℕ, ◌+◌, ◌-◌, ◌≤◌, ◌<◌, Bool, true, false, List, [], ◌∷◌, ◌++◌, All, length}
use Rattle.std.proofs.Common.{arith, refl, sym, ap, subst, ◌∙◌}
use Rattle.std.specs.Prelude.{◌^◌, ◌==◌, Option, Some, None, nat_le, nat_lt, if◌then◌else◌}
use Rattle.std.specs.Int.{w32, to_be_bytes}
use Rattle.std.proofs.lemmas.Bool.Decides.{nat_tests}
use Rattle.std.proofs.lemmas.List.{length-append}
use Rattle.std.proofs.lemmas.List.Elements.{All-cons, All-head, All-nil, All-tail}
use Rattle.serde_amqp_item.specs.Item.{Item, items_of, scalar, boolean, uint, ulong, described, list}
use Rattle.serde_amqp_item.specs.Record.{trimmed}
use Rattle.serde_amqp_item.specs.Canon.{◌>>=◌, canon, canon_all, list_text}
use Rattle.amqp_session_states.specs.DeliveryState.{delivery_state_item}
use Rattle.amqp_session_states.specs.declared.delivery_state.DeliveryState.{DeliveryState}
use Rattle.amqp_session_states.specs.declared.delivery_state.DeliveryState.TheVariants as state_of
use Rattle.amqp_session_performatives.specs.Disposition.{disposition_fields, disposition_item}
use Rattle.amqp_session_performatives.specs.declared.disposition.Disposition.{Disposition}
use Rattle.amqp_session_performatives.specs.declared.session_frame.SessionFrame.{SessionFrame}
use Rattle.amqp_session_core.specs.declared.fields.SessionFields.{SessionFields}
use Rattle.amqp_link_unsettled.specs.Listing.{FitsText}
use Rattle.amqp_endpoint_model.specs.State.{fits, frame_of}
use Rattle.amqp_endpoint_fitting.specs.Plain.{IsUint}
use Rattle.amqp_endpoint_fitting.proofs.Frames.{disposition_fits, larger_fits}
use Rattle.amqp_endpoint_fitting.specs.Fits.{FrameFits}
use Rattle.amqp_endpoint_fitting.specs.Read.{IsRead, IsReadDisposition}
use Rattle.amqp_endpoint_messages.specs.Longest.{disposition_frame, longest, state_fits}
use Rattle.amqp_endpoint_messages.specs.Dispositions.{frames_of, said_by}
use Rattle.amqp_endpoint_messages.proofs.Longer.{no-longer, telling}
use Rattle.amqp_endpoint_messages.proofs.Sizes.{to-frame, to-text}
use Rattle.amqp_endpoint_messages.specs.Echoing.{each_fits, echo, echoes_of, going, run_fits}

-- the text of a Disposition of five fields, of which the first is this byte and the others have this text
abbrev text_with : ℕ → Option (List ℕ) → Option (List ℕ)
text_with first rest =
    ((rest >>= λ c. Some ((first ∷ []) ++ c)) >>= list_text 5) >>= λ b. Some (0x00 ∷ (0x53 ∷ 0x15 ∷ []) ++ b)

abbrev chosen : Bool → Bool → Bool → List ℕ → Option (List ℕ)
chosen empty narrow wide content =
    if empty then Some (0x45 ∷ []) else
    if narrow then Some (0xc0 ∷ (length content + 1) ∷ 5 ∷ content) else
    if wide then Some (0xd0 ∷ (to_be_bytes w32 (length content + 4) ++ to_be_bytes w32 5 ++ content)) else None

abbrev wrapped : Option (List ℕ) → Option (List ℕ)
wrapped text = text >>= λ b. Some (0x00 ∷ (0x53 ∷ 0x15 ∷ []) ++ b)

-- what is as long fits as well
as-long : (limit : ℕ) (xs ys : List ℕ) → length xs ≡ length ys → (empty narrow wide : Bool)
    → FitsText limit (wrapped (chosen empty narrow wide xs)) → FitsText limit (wrapped (chosen empty narrow wide ys))
as-long limit xs ys same true narrow wide fit = fit
as-long limit xs ys same false true wide fit = omega (arith, fit, same)
as-long limit xs ys same false false true fit = omega (
  arith,
  fit,
  same,
  length-append (to_be_bytes w32 (length xs + 4)) (to_be_bytes w32 5 ++ xs),
  length-append (to_be_bytes w32 5) xs,
  length-append (to_be_bytes w32 (length ys + 4)) (to_be_bytes w32 5 ++ ys),
  length-append (to_be_bytes w32 5) ys,
)
as-long limit xs ys same false false false fit = absurd fit

-- whichever byte it is
swapped : (limit first other : ℕ) (rest : Option (List ℕ)) → FitsText limit (text_with first rest)
    → FitsText limit (text_with other rest)
swapped limit first other None fit = absurd fit
swapped limit first other (Some text) fit =
    as-long limit (first ∷ text) (other ∷ text) refl (length (first ∷ text) == 0) (nat_lt (length (first ∷ text)) 255)
    (nat_lt (length (first ∷ text) + 4) (2 ^ 32)) fit

-- the fields behind the role
abbrev behind_role : DeliveryState → ℕ → ℕ → List Item
behind_role state first last =
    scalar (uint first) ∷ scalar (uint last) ∷ scalar (boolean true) ∷ delivery_state_item state ∷ []

senders-fields : (state : DeliveryState) (first last : ℕ)
    → trimmed (disposition_fields (echo (Some state) (first, last)))
    ≡ scalar (boolean false) ∷ behind_role state first last
senders-fields (state_of.Received x) first last = refl
senders-fields (state_of.Accepted x) first last = refl
senders-fields (state_of.Rejected x) first last = refl
senders-fields (state_of.Released x) first last = refl
senders-fields (state_of.Modified x) first last = refl

receivers-fields : (state : DeliveryState) (first last : ℕ)
    → trimmed (disposition_fields (telling first (Some last) true state))
    ≡ scalar (boolean true) ∷ behind_role state first last
receivers-fields (state_of.Received x) first last = refl
receivers-fields (state_of.Accepted x) first last = refl
receivers-fields (state_of.Rejected x) first last = refl
receivers-fields (state_of.Released x) first last = refl
receivers-fields (state_of.Modified x) first last = refl

abbrev whole : List Item → Option (List ℕ)
whole fields = canon (described (scalar (ulong 0x15)) (list (items_of fields)))

-- a sender's Disposition is as long as a receiver's
module _ (limit : ℕ) (state : DeliveryState) (first last : ℕ) where
  abbrev OfSender : Type 0
  OfSender = FitsText limit (canon (disposition_item (echo (Some state) (first, last))))

  abbrev OfReceiver : Type 0
  OfReceiver = FitsText limit (canon (disposition_item (telling first (Some last) true state)))

  abbrev rest : Option (List ℕ)
  rest = canon_all (items_of (behind_role state first last))

  to-sender : OfReceiver → OfSender
  to-sender fit =
      subst (λ (o : Option (List ℕ)). FitsText limit o) (sym (ap whole (senders-fields state first last)))
      (swapped limit 0x41 0x42 rest
      (subst (λ (o : Option (List ℕ)). FitsText limit o) (ap whole (receivers-fields state first last)) fit))

-- where the longest fits each does
state-fits : (limit channel : ℕ) (state : DeliveryState) (first last : ℕ) → limit < 2 ^ 32
    → state_fits limit 0 state ≡ true → IsUint first → IsUint last
    → fits limit (frame_of (disposition_frame channel (echo (Some state) (first, last)))) ≡ true
state-fits limit channel state first last least fit h k =
    let most : FitsText limit (canon (disposition_item (longest state))) = to-text limit 0 (longest state) fit in
    to-frame limit channel (echo (Some state) (first, last)) least
    (to-sender limit state first last (no-longer limit state first (Some last) true h k most))

wide : (limit : ℕ) → nat_le 512 limit ≡ true → 512 ≤ limit
wide limit h = grind (arith, nat_tests)

pub one-fits : (limit : ℕ) (state : Option DeliveryState) (run : ℕ × ℕ) → limit < 2 ^ 32
    → each_fits limit state ≡ true → IsReadDisposition (echo state run) → run_fits limit state run ≡ true
one-fits limit None run least fit read =
    larger_fits limit (frame_of (disposition_frame 0 (echo None run))) (wide limit fit)
    (disposition_fits 0 (echo None run) (record { first = read.first; last = read.last; state = tt }))
one-fits limit (Some state) run least fit read = state-fits limit 0 state run.0 run.1 least fit read.first read.last

-- what goes back fits, on whichever channel
pub going-fit : (limit : ℕ) (state : Option DeliveryState) (fields : SessionFields) (runs : List (ℕ × ℕ))
    → limit < 2 ^ 32 → All (FrameFits limit) (frames_of fields (echoes_of state (going limit state runs)))
going-fit limit state fields [] least = All-nil (FrameFits limit)
going-fit limit state fields (run ∷ runs) least =
    by (run_fits limit state run) refl (going-fit limit state fields runs least)
  where
    by : (b : Bool) → run_fits limit state run ≡ b
        → All (FrameFits limit) (frames_of fields (echoes_of state (going limit state runs)))
        → All (FrameFits limit)
        (frames_of fields
        (echoes_of state (if b then run ∷ going limit state runs else going limit state runs)))
    by true fit others =
        All-cons (FrameFits limit) (said_by fields (echo state run))
        (frames_of fields (echoes_of state (going limit state runs)))
        (to-frame limit fields.channel.0 (echo state run) least (to-text limit 0 (echo state run) fit)) others
    by false fit others = others
