-- Why no message is sent, behind what its link and its session refuse.
use Rattle.std.proofs.Common.{◌≡◌, ◌≢◌, ◌⊎◌, inl, inr, ℕ, ◌-◌, ◌≤◌, ◌<◌, ◌^◌, min, Bool, if◌then◌else◌, List, length}
use Rattle.std.proofs.Common.{Option, Some, None, Result, Err, refl, sym, ap, subst, ◌∙◌, arith, lt-ltb, le-ltb}
use Rattle.std.specs.Prelude.{unwrap_or}
use Rattle.amqp_endpoint_tables.specs.LinkState.{place_at}
use Rattle.amqp_endpoint_model.specs.declared.call.Sending.{Sending}
use Rattle.amqp_endpoint_model.specs.declared.error.EndpointError.{EndpointError}
use Rattle.amqp_endpoint_model.specs.declared.error.EndpointError.TheVariants.{FrameTooLarge, Memory, NumbersUsedUp}
use Rattle.amqp_endpoint_linking.specs.Linking.{Links, Talk}
use Rattle.amqp_endpoint_link_calls.specs.Sending.{BarsSend, refusal_at}
use Rattle.amqp_endpoint_link_calls.proofs.Unsent.{at-barred, at-capped}
use Rattle.amqp_endpoint.specs.Sending.{BarsSending, before, number_refusal, send_refusal, tag_of}

-- a serial number is left, or none is
left : (serial : ℕ) → serial < 2 ^ 64 - 1 → number_refusal serial ≡ None
left serial less = ap (λ (b : Bool). if b then None else Some NumbersUsedUp) (lt-ltb serial (2 ^ 64 - 1) less)

none-left : (o : Option EndpointError) (serial : ℕ) → serial ≡ 2 ^ 64 - 1
    → None ≡ before o (number_refusal serial) → ⊥
none-left (Some e) serial is none = absurd cc
none-left None serial is none =
    let used : number_refusal serial ≡ Some NumbersUsedUp =
    ap (λ (b : Bool). if b then None else Some NumbersUsedUp) (le-ltb serial (2 ^ 64 - 1) (omega (arith, is))) in
    let clash : ◌≡◌ {A = Option EndpointError} None (Some NumbersUsedUp) = none ∙ used in
    absurd cc

-- the first refusal is told, or where there is none, the second
module _ (serial : ℕ) (talk : Talk) (links : Links) (link size : ℕ) (key : List ℕ) (keyed : key ≡ tag_of serial) where
  pub told-first : (e : EndpointError) → Some e ≡ refusal_at talk (place_at links link) key size
      → Some e ≡ send_refusal serial talk links link size
  told-first e is =
      ap (λ (o : Option EndpointError). before o (number_refusal serial)) is
      ∙ ap
      (λ (k : List ℕ). before (refusal_at talk (place_at links link) k size) (number_refusal serial)) keyed

  pub told-second : (told : Option EndpointError) → None ≡ refusal_at talk (place_at links link) key size
      → told ≡ number_refusal serial → told ≡ send_refusal serial talk links link size
  told-second told none is =
      is ∙ ap (λ (o : Option EndpointError). before o (number_refusal serial)) none
      ∙ ap
      (λ (k : List ℕ). before (refusal_at talk (place_at links link) k size) (number_refusal serial)) keyed

-- that a number is left is tested
pub left-tested : (serial : ℕ) → serial < 2 ^ 64 - 1 → None ≡ number_refusal serial
left-tested serial less = sym (left serial less)

pub used-tested : (serial : ℕ) → 2 ^ 64 - 1 ≤ serial → Some NumbersUsedUp ≡ number_refusal serial
used-tested serial most =
    sym (ap (λ (b : Bool). if b then None else Some NumbersUsedUp) (le-ltb serial (2 ^ 64 - 1) most))

-- a message isn't sent, whose bytes alone were counted
pub looked : (serial : ℕ) (talk : Talk) (links : Links) (link size : ℕ) (message : Sending)
    (told : Option EndpointError) → told ≡ send_refusal serial talk links link size
    → min (length message.payload) (2 ^ 32) ≡ size
    → BarsSending serial talk links link message (unwrap_or told Memory)
looked serial talk links link size message told is capped =
    by told
    (sym
    (ap (λ (o : Option EndpointError). before o (number_refusal serial))
    (at-capped talk (place_at links link) (tag_of serial) (length message.payload)))
    ∙ ap (λ (n : ℕ). send_refusal serial talk links link n) capped
    ∙ sym is)
  where
    by : (o : Option EndpointError) → send_refusal serial talk links link (length message.payload) ≡ o
        → BarsSending serial talk links link message (unwrap_or o Memory)
    by (Some e) why = inl why
    by None why = inr (refl, why)

-- one isn't for which no serial number is left
pub last-barred : (serial : ℕ) (talk : Talk) (links : Links) (link size : ℕ) (message : Sending)
    (told : Option EndpointError) (e : EndpointError) → serial ≡ 2 ^ 64 - 1 → size ≡ length message.payload
    → told ≡ send_refusal serial talk links link size → e ≡ unwrap_or told NumbersUsedUp
    → BarsSending serial talk links link message e
last-barred serial talk links link size message told e last counted is said =
    inl
    (ap (λ (n : ℕ). send_refusal serial talk links link n) (sym counted)
    ∙ by told is
    ∙ ap (λ (x : EndpointError). Some x) (sym said))
  where
    by : (o : Option EndpointError) → o ≡ send_refusal serial talk links link size
        → send_refusal serial talk links link size ≡ Some (unwrap_or o NumbersUsedUp)
    by (Some e) is = sym is
    by None is =
        absurd (none-left (refusal_at talk (place_at links link) (tag_of serial) size) serial last is)

-- one isn't for which one is left
abbrev pub Refused : EndpointError → Result Bool EndpointError
Refused e = Err e

abbrev First : Option EndpointError → EndpointError → Type 0
First first e = (first ≡ Some e) ⊎ ((e ≡ Memory) × (first ≡ None))

numbered : (serial : ℕ) (first : Option EndpointError) (e : EndpointError) → serial < 2 ^ 64 - 1 → First first e
    → First (before first (number_refusal serial)) e
numbered serial first e less (inl why) = inl (ap (λ (o : Option EndpointError). before o (number_refusal serial)) why)
numbered serial first e less (inr why) =
    inr (why.0, ap (λ (o : Option EndpointError). before o (number_refusal serial)) why.1 ∙ left serial less)

pub barred : (limit serial : ℕ) (talk : Talk) (links : Links) (link : ℕ) (message : Sending) (key : List ℕ)
    (e : EndpointError) → serial < 2 ^ 64 - 1 → key ≡ tag_of serial
    → (512 ≤ limit → length key ≤ 32 → Refused e ≢ Refused FrameTooLarge) → 512 ≤ limit
    → BarsSend limit talk (place_at links link) key message e → BarsSending serial talk links link message e
barred limit serial talk links link message key e less keyed fits least why =
    let eight : 8 ≤ 32 = omega arith in
    let short : length (tag_of serial) ≤ 32 = eight in
    numbered serial _ e less
    (at-barred limit talk (place_at links link) (tag_of serial) message e
    (λ is. fits least (subst (λ (k : List ℕ). length k ≤ 32) (sym keyed) short)
    (ap (λ (x : EndpointError). Refused x) is))
    (subst (λ (k : List ℕ). BarsSend limit talk (place_at links link) k message e) keyed why))

pub ruleset refusals = (told-first, told-second, left-tested, used-tested)
