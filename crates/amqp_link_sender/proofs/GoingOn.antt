-- The messages that go on, one after the other.
use Rattle.std.proofs.Common.{◌≡◌, ℕ, ◌-◌, ◌<◌, ◌==◌, ◌&&◌, not, Bool, true, false, List, [], ◌∷◌, ◌++◌, Option, Some, None, refl, sym, ap, ◌∙◌, arith, drop, if◌then◌else◌}
use Rattle.std.proofs.lemmas.Bool.{eqb-false}
use Rattle.amqp_link_base.specs.State.{is_attached}
use Rattle.amqp_link_base.specs.Flows.{sender_credit, sender_flowed, sender_with}
use Rattle.amqp_session_performatives.specs.declared.link_flow.LinkFlow.{LinkFlow}
use Rattle.amqp_link_unsettled.specs.Messages.{MessageLists, first_of}
use Rattle.amqp_link_unsettled.specs.declared.open.Waiting.{Waiting}
use Rattle.amqp_link_sender.specs.Sending.{Sending, counts_of, flowed, recounted}
use Rattle.amqp_link_sender.specs.SendsOn.{all_on, going_on, headed, next_on, prepared_first, prepared_waiting, sent_on}
use Rattle.amqp_link_sender.specs.declared.sending_on.PreparedSendOn.{PreparedSendOn}

-- the first of two equal lists, and what is behind it
pub head-is : (A : Type 0) (x y : A) (xs ys : List A) → ◌≡◌ {A = List A} (x ∷ xs) (y ∷ ys) → x ≡ y
head-is A x y xs ys h = cc

pub tail-is : (A : Type 0) (x y : A) (xs ys : List A) → ◌≡◌ {A = List A} (x ∷ xs) (y ∷ ys) → xs ≡ ys
tail-is A x y xs ys h = cc

-- without credit none goes on
stopped : (b : Bool) (o : Option PreparedSendOn) (rest : List PreparedSendOn) → b ≡ true
    → (if b then [] else headed o rest) ≡ []
stopped true o rest h = refl
stopped false o rest h = absurd (cc h)

-- nor where a message isn't open
closed : (b : Bool) (o : Option PreparedSendOn) (rest : List PreparedSendOn) → o ≡ None
    → (if b then [] else headed o rest) ≡ []
closed true o rest h = refl
closed false None rest h = refl
closed false (Some p) rest h = absurd (cc h)

-- else it goes on before those behind it
first : (b : Bool) (o : Option PreparedSendOn) (p : PreparedSendOn) (rest : List PreparedSendOn) → b ≡ false → o ≡ Some p
    → (if b then [] else headed o rest) ≡ p ∷ rest
first true o p rest h is = absurd (cc h)
first false o p rest h is = ap (λ (q : Option PreparedSendOn). headed q rest) is

pub none-without-credit : (m : MessageLists) (w : Waiting) (ws : List Waiting) (n : ℕ) → (n == 0) ≡ true
    → going_on m (w ∷ ws) n ≡ []
none-without-credit m w ws n h = stopped (n == 0) (prepared_waiting m w) (going_on m ws (n - 1)) h

pub none-behind-closed : (m : MessageLists) (w : Waiting) (ws : List Waiting) (n : ℕ) → prepared_waiting m w ≡ None
    → going_on m (w ∷ ws) n ≡ []
none-behind-closed m w ws n h = closed (n == 0) (prepared_waiting m w) (going_on m ws (n - 1)) h

pub one-more-goes : (m : MessageLists) (w : Waiting) (ws : List Waiting) (n : ℕ) (p : PreparedSendOn) → (n == 0) ≡ false
    → prepared_waiting m w ≡ Some p → going_on m (w ∷ ws) n ≡ p ∷ going_on m ws (n - 1)
one-more-goes m w ws n p h is = first (n == 0) (prepared_waiting m w) p (going_on m ws (n - 1)) h is

-- whatever else waits, the same go on of those that are looked at
same-going : (m : MessageLists) (others ws : List Waiting) (n : ℕ)
    → going_on (record m { waiting = others }) ws n ≡ going_on m ws n
same-going m others [] n = refl
same-going m others (w ∷ ws) n =
    ap (λ (rest : List PreparedSendOn). if n == 0 then [] else headed (prepared_waiting m w) rest) (same-going m others ws (n - 1))

-- what goes first of those that go on
record GoesFirst (b : Bool) (o : Option PreparedSendOn) (rest : List PreparedSendOn) (p : PreparedSendOn) (ps : List PreparedSendOn) : Type 0 where
  pub credit : b ≡ false
  pub is : o ≡ Some p
  pub behind : rest ≡ ps

goes-first : (b : Bool) (o : Option PreparedSendOn) (rest : List PreparedSendOn) (p : PreparedSendOn) (ps : List PreparedSendOn)
    → (if b then [] else headed o rest) ≡ p ∷ ps → GoesFirst b o rest p ps
goes-first true o rest p ps h = absurd (cc h)
goes-first false None rest p ps h = absurd (cc h)
goes-first false (Some q) rest p ps h = record {
  credit = refl;
  is = ap (λ (x : PreparedSendOn). Some x) (head-is PreparedSendOn q p rest ps h);
  behind = tail-is PreparedSendOn q p rest ps h;
}

-- the first of all that go on is what is sent on next, and the others are all that go on behind it
pub record GoesNext (s : Sending) (p : PreparedSendOn) (ps : List PreparedSendOn) : Type 0 where
  pub credit : 0 < s.flow.link_credit
  pub next : next_on s ≡ Some p
  pub behind : all_on (sent_on s) ≡ ps

next-of : (a b : Bool) (o : Option PreparedSendOn) (p : PreparedSendOn) → a ≡ true → b ≡ false → o ≡ Some p
    → (if a && not b then o else None) ≡ Some p
next-of false b o p h g is = absurd (cc h)
next-of true true o p h g is = absurd (cc g)
next-of true false o p h g is = is

behind-of : (a : Bool) (rest : List PreparedSendOn) → a ≡ true → (if a then rest else []) ≡ rest
behind-of true rest h = refl
behind-of false rest h = absurd (cc h)

attached-for : (a : Bool) (all : List PreparedSendOn) (p : PreparedSendOn) (ps : List PreparedSendOn)
    → (if a then all else []) ≡ p ∷ ps → (a ≡ true) × (all ≡ p ∷ ps)
attached-for true all p ps h = (refl, h)
attached-for false all p ps h = absurd (cc h)

record FirstOf (s : Sending) (ws : List Waiting) (n : ℕ) (p : PreparedSendOn) (ps : List PreparedSendOn) : Type 0 where
  pub credit : (n == 0) ≡ false
  pub is : prepared_first s (first_of ws) ≡ Some p
  pub behind : going_on s.messages (drop 1 ws) (n - 1) ≡ ps

first-of : (s : Sending) (ws : List Waiting) (n : ℕ) (p : PreparedSendOn) (ps : List PreparedSendOn)
    → going_on s.messages ws n ≡ p ∷ ps → FirstOf s ws n p ps
first-of s [] n p ps h = absurd (cc h)
first-of s (w ∷ ws) n p ps h =
    let goes = goes-first (n == 0) (prepared_waiting s.messages w) (going_on s.messages ws (n - 1)) p ps h in
    record { credit = goes.credit; is = goes.is; behind = goes.behind }

pub goes-next : (s : Sending) (p : PreparedSendOn) (ps : List PreparedSendOn) → all_on s ≡ p ∷ ps → GoesNext s p ps
goes-next s p ps h =
    let rest : List Waiting = drop 1 s.messages.waiting in
    let here = attached-for (is_attached s.base.local_state) (going_on s.messages s.messages.waiting s.flow.link_credit) p ps h in
    let goes = first-of s s.messages.waiting s.flow.link_credit p ps here.1 in
    let there : s.flow.link_credit ≡ 0 → ⊥ = eqb-false s.flow.link_credit 0 goes.credit in
    record {
      credit = omega (arith, there);
      next = next-of (is_attached s.base.local_state) (s.flow.link_credit == 0) (prepared_first s (first_of s.messages.waiting)) p here.0 goes.credit goes.is;
      behind = behind-of (is_attached s.base.local_state) (going_on (record s.messages { waiting = rest }) rest (s.flow.link_credit - 1)) here.0
          ∙ same-going s.messages rest rest (s.flow.link_credit - 1) ∙ goes.behind;
    }

-- the counts of before undo a Flow
counts-back : (a d : Bool) (s : Sending) (credit : ℕ)
    → recounted (if a then record s { flow = sender_with s.flow d credit } else s) (counts_of s) ≡ s
counts-back true true s credit = refl
counts-back true false s credit = refl
counts-back false d s credit = refl

pub flow-undone : (s : Sending) (flow : LinkFlow) → recounted (flowed s flow) (counts_of s) ≡ s
flow-undone s flow =
    counts-back (is_attached s.base.local_state) flow.drain s (sender_credit s.flow flow.delivery_count flow.link_credit)

none-of : (a : Bool) (rest : List PreparedSendOn) → a ≡ false → (if a then rest else []) ≡ []
none-of true rest h = absurd (cc h)
none-of false rest h = refl

-- what goes on by a Flow
module _ (s : Sending) (flow : LinkFlow) where
  abbrev with_flow : Bool → Sending
  with_flow a = if a then record s { flow = sender_flowed s.flow flow } else s

  pub goes-by-a-flow : (ready : List PreparedSendOn) → is_attached s.base.local_state ≡ true
      → ready ≡ going_on s.messages s.messages.waiting (sender_flowed s.flow flow).link_credit
      → ready ≡ all_on (flowed s flow)
  goes-by-a-flow ready here is =
      is ∙ sym (ap (λ (a : Bool). all_on (with_flow a)) here
      ∙ behind-of (is_attached s.base.local_state) (going_on s.messages s.messages.waiting (sender_flowed s.flow flow).link_credit) here)

  pub none-goes : (ready : List PreparedSendOn) → is_attached s.base.local_state ≡ false → ready ≡ []
      → ready ≡ all_on (flowed s flow)
  none-goes ready here is =
      is ∙ sym (ap (λ (a : Bool). all_on (with_flow a)) here
      ∙ none-of (is_attached s.base.local_state) (going_on s.messages s.messages.waiting s.flow.link_credit) here)

pub ruleset rules = (goes-by-a-flow, none-goes)
