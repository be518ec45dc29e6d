-- A session that takes what the peer says hands out at most one frame more, and keeps its room for transfers.
use Rattle.std.proofs.Common.{◌≡◌, ◌+◌, ◌≤◌, ℕ, true, Option, Some, None, Result, Ok, Err, refl, sym, ap, subst, ◌∙◌}
use Rattle.std.specs.Prelude.{IfOk, is_some}
use Rattle.std.proofs.lemmas.Option.{same_Some}
use Rattle.std.specs.Box.{with_value}
use Rattle.std.specs.Global.{Box}
use Rattle.amqp_session_outgoing.specs.Queues.{frames_in}
use Rattle.amqp_endpoint_links.specs.declared.session.AskedSession.{AskedSession}
use Rattle.amqp_endpoint_links.specs.declared.asking.AskingSession.{AskingSession}
use Rattle.amqp_endpoint_links.specs.declared.hearing.LinkPerformative.{LinkPerformative}
use Rattle.amqp_endpoint_tables.specs.Lends.{set_live}
use Rattle.amqp_endpoint_tables.specs.State.{asked_at, live_at}
use Rattle.amqp_endpoint_conversation.specs.declared.conversation.Conversation.{Conversation}
use Rattle.amqp_endpoint_conversation.specs.declared.hearing.Heard.{Heard}
use Rattle.amqp_endpoint_conversation.specs.declared.hearing.Heard.TheVariants.{Asked, Live, Dropped}
use Rattle.amqp_endpoint_conversation.specs.declared.hearing.HearRefusal.{HearRefusal}
use Rattle.amqp_endpoint_conversation.specs.Beginning.{Sessions}
use Rattle.amqp_endpoint_conversation.specs.Hearing.{AskedAnswered, KeepsRoom}
use Rattle.amqp_endpoint_conversation.proofs.Answering.{lives}

-- one that is lent
module _ {R : Type 0} (old : Sessions R) (number : ℕ) (lent : Box (AskingSession R)) (self after : AskingSession R)
    (there : Some lent ≡ live_at old number) (same : self ≡ lent.value) (len len_new : ℕ) where
  abbrev Keeps : AskingSession R → AskingSession R → Type 0
  Keeps s t =
      (len_new + frames_in t.session.outgoing.queues ≤ len + frames_in s.session.outgoing.queues + 1)
      × (t.session.outgoing.room ≡ s.session.outgoing.room)

  pub keeps-room : Keeps self after → (before stands : Box (AskingSession R)) → live_at old number ≡ Some before
      → live_at (set_live old number (with_value lent after)) number ≡ Some stands → Keeps before.value stands.value
  keeps-room kept before stands was is =
      let first : lent ≡ before = same_Some _ _ (there ∙ was) in
      let last : with_value lent after ≡ stands =
      same_Some _ _ (sym (lives old number (with_value lent after) lent (sym there)) ∙ is) in
      subst (λ (s : AskingSession R). Keeps s stands.value)
      (same ∙ ap (λ (b : Box (AskingSession R)). b.value) first)
      (subst (λ (b : Box (AskingSession R)). Keeps self b.value) last kept)

-- one that the peer asks for hands out nothing
module _ {R A T D : Type 0} (old : Conversation R) (number : ℕ) (said : LinkPerformative) (new : Conversation R)
    (s t : Sessions R) (len len_new : ℕ) where
  abbrev RoomKept : Result (Heard A T D) (HearRefusal R) → Type 0
  RoomKept result = IfOk result (λ (heard : Heard A T D). KeepsRoom s len heard t len_new)

  asked-room : (asked : Box AskedSession) (result : Result (Heard A T D) (HearRefusal R))
      → AskedAnswered old number asked said result new → RoomKept result
  asked-room asked (Ok (Asked n)) a = tt
  asked-room asked (Ok (Live n taken)) a = absurd a
  asked-room asked (Ok (Dropped n)) a = absurd a
  asked-room asked (Err e) a = tt

  pub asked-keeps : (result : Result (Heard A T D) (HearRefusal R)) → is_some (asked_at old.sessions number) ≡ true
      → ((asked : Box AskedSession) → asked_at old.sessions number ≡ Some asked
      → AskedAnswered old number asked said result new)
      → RoomKept result
  asked-keeps result there answers = by (asked_at old.sessions number) refl there
    where
      by : (o : Option (Box AskedSession)) → asked_at old.sessions number ≡ o → is_some o ≡ true → RoomKept result
      by None e is = absurd cc
      by (Some asked) e is = asked-room asked result (answers asked e)
