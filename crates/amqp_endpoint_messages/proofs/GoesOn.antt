-- What goes on of a link: no more than there is credit for, each of it open.
use Rattle.std.proofs.Common.{◌≡◌, ◌⊎◌, inl, inr, ◌≤◌, ◌-◌, ◌==◌, ℕ, Bool, true, false, List, [], ◌∷◌, Option}
use Rattle.std.proofs.Common.{Some, None, if◌then◌else◌, length, arith, refl}
use Rattle.std.specs.Prelude.{◌≢◌, All, option_map}
use Rattle.std.proofs.lemmas.Bool.Decides.{eqb_tells}
use Rattle.std.proofs.lemmas.List.Elements.{All-cons, All-nil}
use Rattle.amqp_session_types.specs.declared.handles.OutputHandle.{OutputHandle}
use Rattle.amqp_session_core.specs.Batch.{Transfers}
use Rattle.amqp_link_unsettled.specs.Messages.{MessageLists, open_at}
use Rattle.amqp_link_unsettled.specs.declared.open.Open.{Open}
use Rattle.amqp_link_unsettled.specs.declared.open.Waiting.{Waiting}
use Rattle.amqp_link_sender.specs.SendsOn.{going_on, headed, prepared_on, prepared_waiting}
use Rattle.amqp_link_sender.specs.declared.sending_on.PreparedSendOn.{PreparedSendOn}
use Rattle.amqp_endpoint_messages.specs.SendingOn.{AreCutOn, IsOn}

-- no more go on than there is credit
pub going-on-few : (m : MessageLists) (ws : List Waiting) (credit : ℕ) → length (going_on m ws credit) ≤ credit
going-on-few m [] credit = omega arith
going-on-few m (w ∷ ws) credit =
    by (prepared_waiting m w) (going-on-few m ws (credit - 1)) (credit == 0) (eqb_tells credit 0)
  where
    by : (o : Option PreparedSendOn) → length (going_on m ws (credit - 1)) ≤ credit - 1 → (b : Bool)
        → ((b ≡ true) × (credit ≡ 0)) ⊎ ((b ≡ false) × (credit ≢ 0))
        → length (if b then [] else headed o (going_on m ws (credit - 1))) ≤ credit
    by o few true is = omega arith
    by None few false is = omega arith
    by (Some p) few false (inl is) = let clash : false ≡ true = is.0 in absurd cc
    by (Some p) few false (inr is) = omega (arith, few, is.1)

-- nor batches than messages
pub cut-few : (limit : ℕ) (handle : OutputHandle) (ons : List PreparedSendOn) (batches : List Transfers) (all : Bool)
    → AreCutOn limit handle ons batches all → length batches ≤ length ons
cut-few limit handle ons [] all cut = omega arith
cut-few limit handle [] (batch ∷ batches) all (none, _) = absurd cc
cut-few limit handle (ready ∷ others) (batch ∷ batches) all (one, rest) =
    let few : length batches ≤ length others = cut-few limit handle others batches all rest in omega (arith, few)

-- each that goes on is open, and sent anew or resumed
waiting-on : (m : MessageLists) (w : Waiting) (o : Option Open) (rest : List PreparedSendOn) → All IsOn rest
    → All IsOn (headed (option_map (λ (x : Open). prepared_on x w.resumption) o) rest)
waiting-on m w None rest all = All-nil IsOn
waiting-on m w (Some x) rest all =
    All-cons IsOn (prepared_on x w.resumption) rest (record { message = x; resumption = w.resumption; is = refl }) all

pub going-on-are : (m : MessageLists) (ws : List Waiting) (credit : ℕ) → All IsOn (going_on m ws credit)
going-on-are m [] credit = All-nil IsOn
going-on-are m (w ∷ ws) credit = by (going-on-are m ws (credit - 1)) (credit == 0)
  where
    by : All IsOn (going_on m ws (credit - 1)) → (b : Bool)
        → All IsOn (if b then [] else headed (prepared_waiting m w) (going_on m ws (credit - 1)))
    by others true = All-nil IsOn
    by others false = waiting-on m w (open_at m w.tag) (going_on m ws (credit - 1)) others

-- a list without length has none
pub none-long : {X : Type 0} (xs : List X) → length xs ≡ 0 → xs ≡ []
none-long [] none = refl
none-long (x ∷ xs) none = absurd (omega (arith, none))
