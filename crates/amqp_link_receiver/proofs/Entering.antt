-- Entries of deliveries: looked up, entered and changed.
use Rattle.std.proofs.Common.{◌≡◌, ℕ, List, [], ◌∷◌, Bool, true, false, cond, Option, None, Some, IsSome, ap, ◌∙◌, refl}
use Rattle.std.specs.Map.{lookup, set_value}
use Rattle.std.specs.Str.{bytes_eq}
use Rattle.std.proofs.lemmas.Map.Steps.{set_value_same}
use Rattle.amqp_session_types.specs.declared.modes.ReceiverSettleMode.{ReceiverSettleMode}
use Rattle.amqp_link_receiver.specs.declared.attachment.Attachment.{Attachment}
use Rattle.amqp_link_receiver.specs.declared.entry.Entry.{Entry}
use Rattle.amqp_link_receiver.specs.declared.entry.Entry.TheVariants.{Half, Whole}
use Rattle.amqp_link_receiver.specs.declared.entry.Note.TheVariants.{Named, Numbered, Told}
use Rattle.amqp_link_receiver.specs.Deliveries.{Entries, found}
use Rattle.amqp_session_states.specs.declared.delivery_state.DeliveryState.{DeliveryState}
use Rattle.amqp_link_receiver.specs.Disposals.{with_state, with_state_at}
use Rattle.amqp_link_receiver.specs.Notes.{noted_of}
use Rattle.amqp_link_receiver.specs.Numbering.{message_named, named_at}
use Rattle.amqp_link_receiver.specs.Receiving.{without}
use Rattle.amqp_link_receiver.specs.Steps.{renumbered_as, renumbered_from}
use Rattle.amqp_link_unsettled.specs.Entries.{changed, changed_at}

-- the last of two values stays
pub set-twice : (test : List ℕ → Bool) (es : Entries) (v w : Entry) → set_value test (set_value test es v) w ≡ set_value test es w
set-twice test [] v w = refl
set-twice test (e ∷ es) v w = by (test e.0) refl (set-twice test es v w)
  where
    by : (b : Bool) → test e.0 ≡ b → set_value test (set_value test es v) w ≡ set_value test es w
        → set_value test (cond b ((e.0, v) ∷ es) (e ∷ set_value test es v)) w ≡ cond b ((e.0, w) ∷ es) (e ∷ set_value test es w)
    by true h rest = ap (λ (c : Bool). cond c ((e.0, w) ∷ es) ((e.0, v) ∷ set_value test es w)) h
    by false h rest = ap (λ (c : Bool). cond c ((e.0, w) ∷ set_value test es v) (e ∷ set_value test (set_value test es v) w)) h ∙ ap (λ (l : Entries). e ∷ l) rest

-- what is put is found
pub lookup-set : (test : List ℕ → Bool) (es : Entries) (w : Entry) → IsSome (lookup test es) → lookup test (set_value test es w) ≡ Some w
lookup-set test [] w some = absurd cc
lookup-set test (e ∷ es) w some = by (test e.0) refl some (lookup-set test es w)
  where
    by : (b : Bool) → test e.0 ≡ b → IsSome (cond b (Some e.1) (lookup test es)) → (IsSome (lookup test es) → lookup test (set_value test es w) ≡ Some w)
        → lookup test (cond b ((e.0, w) ∷ es) (e ∷ set_value test es w)) ≡ Some w
    by true h s rest = ap (λ (c : Bool). cond c (Some w) (lookup test es)) h
    by false h s rest = ap (λ (c : Bool). cond c (Some e.1) (lookup test (set_value test es w))) h ∙ rest s

pub put-over : (test : List ℕ → Bool) (es one two : Entries) (v w : Entry) → one ≡ set_value test es v → two ≡ set_value test one w → two ≡ set_value test es w
put-over test es one two v w a b = b ∙ ap (λ (l : Entries). set_value test l w) a ∙ set-twice test es v w

-- a value that was taken out is put back
pub set_value_back : (test : List ℕ → Bool) (es one two : Entries) (v w : Entry) → lookup test es ≡ Some w → one ≡ set_value test es v → two ≡ set_value test one w → two ≡ es
set_value_back test es one two v w e a b = put-over test es one two v w a b ∙ set_value_same test es w e

-- what is noted of the delivery with a tag, note by note
module _ (es after : Entries) (tag : List ℕ) where
  pub names : (message : ℕ) → after ≡ changed (λ e. noted_of e (Named message)) tag es
      → after ≡ message_named es tag message
  names message is = is ∙ by (found es tag) refl
    where
      by : (o : Option Entry) → found es tag ≡ o
          → changed_at (λ e. noted_of e (Named message)) tag es o ≡ named_at es tag message o
      by None e = refl
      by (Some (Whole m)) e = refl
      by (Some (Half kept)) e = set_value_same (bytes_eq tag) es (Half kept) e

  pub tells : (state : DeliveryState) → after ≡ changed (λ e. noted_of e (Told state)) tag es
      → after ≡ with_state es tag state
  tells state is = is ∙ by (found es tag) refl
    where
      by : (o : Option Entry) → found es tag ≡ o
          → changed_at (λ e. noted_of e (Told state)) tag es o ≡ with_state_at es tag state o
      by None e = refl
      by (Some (Whole m)) e = refl
      by (Some (Half kept)) e = set_value_same (bytes_eq tag) es (Half kept) e

  pub renumbers : (att : Attachment) (number : ℕ) (mode : Option ReceiverSettleMode)
      → after ≡ changed (λ e. noted_of e (Numbered att.count number mode)) tag es
      → after ≡ renumbered_as att es tag number mode
  renumbers att number mode is = is ∙ by (found es tag) refl
    where
      by : (o : Option Entry) → found es tag ≡ o
          → changed_at (λ e. noted_of e (Numbered att.count number mode)) tag es o
          ≡ renumbered_from att es tag number mode o
      by None e = refl
      by (Some (Whole m)) e = refl
      by (Some (Half kept)) e = set_value_same (bytes_eq tag) es (Half kept) e

-- where there is none nothing is taken out
pub none_taken : (es : Entries) (tag : List ℕ) → found es tag ≡ None → es ≡ without es tag
none_taken [] tag none = refl
none_taken (e ∷ es) tag none = by (bytes_eq tag e.0) none (none_taken es tag)
  where
    by : (b : Bool) → cond b (Some e.1) (found es tag) ≡ None → (found es tag ≡ None → es ≡ without es tag)
        → e ∷ es ≡ cond b es (e ∷ without es tag)
    by true h rest = absurd cc
    by false h rest = ap (λ (l : Entries). e ∷ l) (rest h)
