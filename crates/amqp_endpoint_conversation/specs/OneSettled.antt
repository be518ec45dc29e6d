-- A disposition that settles one delivery, taken at once by the session that its channel reaches, beside `Answered`, by
-- which what is said is answered: part 2, 2.6.12 and 2.7.6.
use Rattle.std.specs.Prelude.{◌≡◌, ℕ, [], ◌∷◌, Option, Some, None, Ok, true}
use Rattle.std.specs.Box.{with_value}
use Rattle.std.specs.Global.{Box}
use Rattle.amqp_session_types.specs.declared.channels.IncomingChannel.{IncomingChannel}
use Rattle.amqp_session_performatives.specs.declared.disposition.Disposition.{Disposition}
use Rattle.amqp_session_core.specs.Disposing.{AreTouched, ReachesOne}
use Rattle.amqp_session_core.specs.Relay.{Relations}
use Rattle.amqp_session_core.specs.OneSettled.{SettlesOne, few_runs, runs_if}
use Rattle.amqp_session_core.specs.State.{State}
use Rattle.amqp_session_core.specs.Steps.{table_of}
use Rattle.amqp_session_core.specs.declared.settled.SettledAtOnce.{SettledAtOnce}
use Rattle.amqp_endpoint_links.specs.declared.asking.AskingSession.{AskingSession}
use Rattle.amqp_endpoint_links.specs.declared.hearing.LinkPerformative.TheVariants as said
use Rattle.amqp_endpoint_links.specs.declared.hearing.PerformativeTaken.TheVariants as performed
use Rattle.amqp_endpoint_tables.specs.Lends.{set_live}
use Rattle.amqp_endpoint_tables.specs.State.{live_at}
use Rattle.amqp_endpoint_conversation.specs.declared.conversation.Conversation.{Conversation}
use Rattle.amqp_endpoint_conversation.specs.declared.hearing.Heard.TheVariants.{Live}
use Rattle.amqp_endpoint_conversation.specs.Hearing.{Answered}

module _ {R A T D : Type 0} (gives : Relations R A T D) where
  -- the session with this number, which has begun, took it
  pub record LiveSettles (old : Conversation R) (number : ℕ) (d : Disposition) (settled : SettledAtOnce)
      (new : Conversation R) : Type 0 where
    pub before : Box (AskingSession R)
    pub after : State R
    pub live : live_at old.sessions number ≡ Some before
    pub took : SettlesOne gives (before.value).session d settled after
    pub becomes : new ≡ record old {
      sessions = set_live old.sessions number (with_value before (record before.value { session = after }));
    }

  -- or nothing changes
  abbrev pub LiveSettlesAtOnce : Conversation R → ℕ → Disposition → Option SettledAtOnce → Conversation R → Type 0
  LiveSettlesAtOnce old number d None new = new ≡ old
  LiveSettlesAtOnce old number d (Some settled) new = LiveSettles old number d settled new

  -- the disposition settles one delivery alone, as its session knows it, which reaches its link. It is answered as any
  -- is, and the run of the delivery is to be echoed where its link wants that
  pub record SettlesWhole (old : Conversation R) (channel : IncomingChannel) (d : Disposition) (number : ℕ)
      (settled : SettledAtOnce) (new : Conversation R) : Type 0 where
    pub is_settled : d.settled ≡ true
    pub stood : Box (AskingSession R)
    pub live : live_at old.sessions number ≡ Some stood
    pub touched : AreTouched d (table_of d.role (stood.value).session) (settled.delivery ∷ [])
    pub after : Box (AskingSession R)
    pub goes_on : live_at new.sessions number ≡ Some after
    pub reaches : ReachesOne gives.disposes
        (record { handle = settled.delivery.handle; tag = settled.delivery.tag }) d d.state
        ((stood.value).session).links settled.is_echoed ((after.value).session).links
    pub answered : Answered gives old [] channel (said.Disposition d)
        (Ok (Live number (performed.Disposition d (few_runs (runs_if settled.is_echoed settled.delivery.number)))))
        new []

  -- or nothing changes
  abbrev pub SettlesAtOnce : Conversation R → IncomingChannel → Disposition → Option (ℕ × SettledAtOnce)
      → Conversation R
      → Type 0
  SettlesAtOnce old channel d None new = new ≡ old
  SettlesAtOnce old channel d (Some it) new = SettlesWhole old channel d it.0 it.1 new
