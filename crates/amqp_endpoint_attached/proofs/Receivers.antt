-- What an attached receiver answers, and a link of it.
use Rattle.std.proofs.Common.{◌≡◌, ℕ, ◌<◌, ◌≤◌, ◌-◌, ◌^◌, Bool, true, false, not, if◌then◌else◌, Option, Some, None, Result, Ok, sym, ◌∙◌, ap, subst, arith}
use Rattle.std.proofs.lemmas.Bool.{le-ltb}
use Rattle.std.specs.Prelude.{nat_lt}
use Rattle.amqp_session_performatives.specs.declared.link_flow.LinkFlow.{LinkFlow}
use Rattle.amqp_link_base.specs.State.{is_attached}
use Rattle.amqp_link_base.specs.declared.base.IllegalState.{IllegalState}
use Rattle.amqp_link_receiver.specs.declared.flowing.Granted.{Granted}
use Rattle.amqp_link_receiver.specs.declared.flowing.GrantRefusal.{GrantRefusal}
use Rattle.amqp_link_receiver.specs.declared.flowing.GrantRefusal.TheVariants.{IllegalState as GrantIllegal, CreditOutOfRange}
use Rattle.amqp_link_receiver.specs.Flowing as flowing
use Rattle.amqp_link_receiver.specs.Flowing.{Drains, Grants, credited, grant_refusal, own_flow}
use Rattle.amqp_link_receiver.specs.State.{ReceiverState}
use Rattle.amqp_link.specs.declared.end.End.{End}
use Rattle.amqp_link.specs.declared.end.End.TheVariants.{Receiver}
use Rattle.amqp_endpoint_attached.specs.Receiving.{GivesCredit, WantsDrain, drained}

-- the credit that is given is told
abbrev granted_of : ReceiverState → ℕ → Granted
granted_of s credit = record { left = s.end.flow.link_credit; flow = own_flow (credited s credit) }

none_refused : (s : ReceiverState) (credit : ℕ) → is_attached s.base.local_state ≡ true → credit < 2 ^ 31
    → grant_refusal s credit ≡ None
none_refused s credit attached in_range =
    let below : credit ≤ 2 ^ 31 - 1 = omega arith in
    let test : nat_lt (2 ^ 31 - 1) credit ≡ false = le-ltb (2 ^ 31 - 1) credit below in
    ap (λ (b : Bool). if not b then Some GrantIllegal else if nat_lt (2 ^ 31 - 1) credit then Some CreditOutOfRange
    else None) attached
    ∙ ap (λ (b : Bool). if b then Some CreditOutOfRange else None) test

pub grants : (s new : ReceiverState) (credit : ℕ) (answer : Result Granted GrantRefusal)
    → is_attached s.base.local_state ≡ true → credit < 2 ^ 31
    → Grants (grant_refusal s credit) s credit answer new
    → (answer ≡ Ok (granted_of s credit)) × (new ≡ credited s credit)
grants s new credit answer attached in_range did =
    subst (λ (why : Option GrantRefusal). Grants why s credit answer new) (none_refused s credit attached in_range) did

pub drains : (s new : ReceiverState) (answer : Result LinkFlow IllegalState) → is_attached s.base.local_state ≡ true
    → Drains (flowing.drained s) s answer new → (answer ≡ Ok (own_flow (drained s))) × (new ≡ drained s)
drains s new answer attached did =
    subst (λ (moved : Option ReceiverState). Drains moved s answer new)
    (ap (λ (b : Bool). if b then Some (drained s) else None) attached)
    did

-- the end that is this receiver does
pub gives_by : (end : End) (r after : ReceiverState) (credit : ℕ) (granted : Granted) → end ≡ Receiver r
    → granted ≡ granted_of r credit → after ≡ credited r credit → GivesCredit end credit granted (Receiver after)
gives_by end r after credit granted is told moved =
    subst (λ (e : End). GivesCredit e credit granted (Receiver after)) (sym is) (told, moved)

pub drains_by : (end : End) (r after : ReceiverState) (flow : LinkFlow) → end ≡ Receiver r
    → flow ≡ own_flow (drained r) → after ≡ drained r → WantsDrain end flow (Receiver after)
drains_by end r after flow is told moved =
    subst (λ (e : End). WantsDrain e flow (Receiver after)) (sym is) (told, moved)
