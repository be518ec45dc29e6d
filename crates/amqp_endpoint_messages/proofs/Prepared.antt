-- A link to which nothing speaks against a message.
use Rattle.std.proofs.Common.{◌≡◌, ℕ, zero, suc, ◌<◌, List, Bool, true, false, Option, Some, None, Result, refl, sym}
use Rattle.std.proofs.Common.{ap}
use Rattle.std.proofs.Common.{arith, subst, ◌∙◌, length}
use Rattle.std.proofs.Common.{lt-ltb, ltb-true, true≢false}
use Rattle.std.specs.Prelude.{IfErr, IfOk, IsTrue, is_none, is_some, nat_lt, not, ◌&&◌, ◌||◌, ◌==◌, ◌^◌, ◌↔◌}
use Rattle.std.specs.Prelude.{if◌then◌else◌, ◌+◌, ◌%◌}
use Rattle.std.specs.FinMap as map
use Rattle.amqp_session_types.specs.declared.handles.OutputHandle.{OutputHandle}
use Rattle.amqp_session_outgoing.specs.History.{IsFree}
use Rattle.amqp_session_outgoing.specs.Queues.{firsts_in}
use Rattle.amqp_session_core.specs.State.{link_at}
use Rattle.amqp_link_sender.specs.declared.sending.PreparedSend.{PreparedSend}
use Rattle.amqp_link_sender.specs.declared.sending.SendRefusal.{SendRefusal}
use Rattle.amqp_link_sender.specs.declared.sending.SendRefusal.TheVariants as link
use Rattle.amqp_link_sender.specs.Sending.{Sending}
use Rattle.amqp_link_sender.specs.Sends.{is_too_large, refusal, takes_messages}
use Rattle.amqp_link_unsettled.specs.Messages.{open_at}
use Rattle.amqp_link.specs.declared.end.End.{End}
use Rattle.amqp_link.specs.declared.end.End.TheVariants.{Sender, Receiver}
use Rattle.amqp_endpoint_links.specs.declared.numbered.Numbered.{Numbered}
use Rattle.amqp_endpoint_model.specs.declared.error.EndpointError.{EndpointError}
use Rattle.amqp_endpoint_attached.specs.Linked.{LinksIn, end_in}
use Rattle.amqp_endpoint_attached.proofs.There.{end_there, none_there}
use Rattle.amqp_endpoint_messages.specs.Sending.{HasRoom, Message, ReadiesIn, behind_link, has_free_number}
use Rattle.amqp_endpoint_messages.specs.Sending.{link_refusal, refusal_of, send_refusal}

-- the tests of a message, by what each of them says
abbrev tested : Bool → Bool → Bool → Option SendRefusal
tested illegal large missing =
    if illegal then Some link.IllegalState
    else if large then Some link.MessageTooLarge
    else if missing then Some link.CreditMissing
    else None

none_fails : (illegal large missing : Bool) → tested illegal large missing ≡ None
    → (illegal ≡ false) × (missing ≡ false)
none_fails true large missing e = absurd cc
none_fails false true missing e = absurd cc
none_fails false false true e = absurd cc
none_fails false false false e = (refl, refl)

memory_fails : (illegal large missing : Bool) → tested illegal large missing ≡ Some link.Memory → ⊥
memory_fails true large missing e = absurd cc
memory_fails false true missing e = absurd cc
memory_fails false false true e = absurd cc
memory_fails false false false e = absurd cc

-- want of memory is no reason of the link's
pub never_memory : (s : Sending) (tag : List ℕ) (size : ℕ) → refusal s tag size ≡ Some link.Memory → ⊥
never_memory s tag size is =
    memory_fails (not (takes_messages s.base.local_state) || is_some (open_at s.messages tag))
    (is_too_large s.base.terms.max_message_size size) (s.flow.link_credit == 0) is

-- it has credit, and no message that is open with the tag
pub has_credit : (s : Sending) (tag : List ℕ) (size : ℕ) → refusal s tag size ≡ None → 0 < s.flow.link_credit
has_credit s tag size is =
    let none = none_fails (not (takes_messages s.base.local_state) || is_some (open_at s.messages tag))
    (is_too_large s.base.terms.max_message_size size) (s.flow.link_credit == 0) is in
    positive s.flow.link_credit none.1
  where
    positive : (n : ℕ) → (n == 0) ≡ false → 0 < n
    positive zero e = absurd cc
    positive (suc n) e = omega arith

second_fails : (a b : Bool) → (a || b) ≡ false → b ≡ false
second_fails true b e = absurd cc
second_fails false b e = e

nothing_open : {X : Type 0} → (o : Option X) → is_some o ≡ false → o ≡ None
nothing_open None e = refl
nothing_open (Some x) e = absurd cc

pub has_absent : (s : Sending) (tag : List ℕ) (size : ℕ) → refusal s tag size ≡ None
    → open_at s.messages tag ≡ None
has_absent s tag size is =
    let none = none_fails (not (takes_messages s.base.local_state) || is_some (open_at s.messages tag))
    (is_too_large s.base.terms.max_message_size size) (s.flow.link_credit == 0) is in
    nothing_open (open_at s.messages tag)
    (second_fails (not (takes_messages s.base.local_state)) (is_some (open_at s.messages tag)) none.0)

-- an end is looked at
pub sender_room : (end : End) (s : Sending) (tag : List ℕ) (size room : ℕ) → end ≡ Sender s
    → refusal s tag size ≡ None → room ≡ s.messages.room → HasRoom (Some end) tag size room
sender_room end s tag size room is none has =
    subst (λ (x : End). HasRoom (Some x) tag size room) (sym is) (none, has)

pub sender_refuses : (end : End) (s : Sending) (tag : List ℕ) (size : ℕ) (e : SendRefusal) → end ≡ Sender s
    → refusal s tag size ≡ Some e → link_refusal (Some end) tag size ≡ Some e
sender_refuses end s tag size e is why = ap (λ (x : End). link_refusal (Some x) tag size) is ∙ why

-- it refuses nothing
pub nothing_refused : (end : Option End) (tag : List ℕ) (size room : ℕ) → HasRoom end tag size room
    → link_refusal end tag size ≡ None
nothing_refused None tag size room has = absurd has
nothing_refused (Some (Receiver r)) tag size room has = absurd has
nothing_refused (Some (Sender t)) tag size room has = has.0

-- whether a number is free is told
free-told : {X : Type 0} → (n : ℕ) (o : Option X) (told : Bool) → (IsTrue told ↔ ((n < 2 ^ 32) × (o ≡ None)))
    → told ≡ (nat_lt n (2 ^ 32) && is_none o)
free-told n o true is =
    let free = is.0 refl in
    sym (ap (λ (b : Bool). b && is_none o) (lt-ltb n (2 ^ 32) free.0) ∙ ap (λ (x : Option _). is_none x) free.1)
free-told n (Some x) false is = sym (second (nat_lt n (2 ^ 32)))
  where
    second : (b : Bool) → (b && false) ≡ false
    second true = refl
    second false = refl
free-told n None false is = by (nat_lt n (2 ^ 32)) refl
  where
    by : (b : Bool) → nat_lt n (2 ^ 32) ≡ b → false ≡ (nat_lt n (2 ^ 32) && true)
    by true e = absurd (true≢false (sym (is.1 (ltb-true n (2 ^ 32) e, refl))))
    by false e = sym (ap (λ (b : Bool). b && true) e)

free-by : {X : Type 0} → (n : ℕ) (b : Bool) (o : Option X) → nat_lt n (2 ^ 32) ≡ b → (b && is_none o) ≡ true
    → (n < 2 ^ 32) × (o ≡ None)
free-by n true None e is = (ltb-true n (2 ^ 32) e, refl)
free-by n true (Some x) e is = absurd cc
free-by n false o e is = absurd cc

pub is-free : {X : Type 0} → (n : ℕ) (o : Option X) → (nat_lt n (2 ^ 32) && is_none o) ≡ true
    → (n < 2 ^ 32) × (o ≡ None)
is-free n o is = free-by n (nat_lt n (2 ^ 32)) o refl is

-- one of a session is
module _ (s : LinksIn) (handle : OutputHandle) (tag : List ℕ) (size : ℕ) where
  pub none_refuses : None ≡ link_at s handle.0 → link_refusal (end_in s handle) tag size ≡ Some link.IllegalState
  none_refuses none = ap (λ (o : Option End). link_refusal o tag size) (none_there s handle none)

  pub room_there : (n : Numbered End) → Some n ≡ link_at s handle.0 → (result : Result ℕ SendRefusal)
      → IfOk result (HasRoom (Some n.link) tag size) → IfOk result (HasRoom (end_in s handle) tag size)
  room_there n there result has =
      subst (λ (o : Option End). IfOk result (HasRoom o tag size)) (sym (end_there s handle n there)) has

  pub refusal_there : (n : Numbered End) → Some n ≡ link_at s handle.0 → (result : Result ℕ SendRefusal)
      → IfErr result (λ e. link_refusal (Some n.link) tag size ≡ Some e)
      → IfErr result (λ e. link_refusal (end_in s handle) tag size ≡ Some e)
  refusal_there n there result why =
      subst (λ (o : Option End). IfErr result (λ e. link_refusal o tag size ≡ Some e))
      (sym (end_there s handle n there)) why

  -- the first reason is the link's, or that the number is in use
  pub by_link : (e : SendRefusal) (told : EndpointError) → told ≡ refusal_of e
      → link_refusal (end_in s handle) tag size ≡ Some e → send_refusal s handle tag size ≡ Some told
  by_link e told is why =
      ap (λ (o : Option SendRefusal). behind_link o (has_free_number s)) why
      ∙ ap (λ (x : EndpointError). Some x) (sym is)

  pub by_number : (room : ℕ) (told : Bool) → HasRoom (end_in s handle) tag size room
      → (IsTrue told ↔ IsFree s.outgoing (firsts_in s.outgoing.queues))
      → send_refusal s handle tag size ≡ behind_link None told
  by_number room told has is =
      ap (λ (o : Option SendRefusal). behind_link o (has_free_number s))
      (nothing_refused (end_in s handle) tag size room has)
      ∙ ap (λ (b : Bool). behind_link None b) (sym
      (free-told (firsts_in s.outgoing.queues)
      (map.get s.outgoing.unsettled ((s.outgoing.next_delivery_number + firsts_in s.outgoing.queues) % 2 ^ 32))
      told is))

-- one of a session makes a message ready
module _ (s : LinksIn) (handle : OutputHandle) (m : Message) where
  -- its bytes are shared
  pub shared : (payload : List ℕ) (ready : PreparedSend) (new : LinksIn) → payload ≡ m.payload
      → ReadiesIn s handle (record m { payload = payload }) ready new → ReadiesIn s handle m ready new
  shared payload ready new same by =
      subst (λ (p : List ℕ). ReadiesIn s handle (record m { payload = p }) ready new) same by
