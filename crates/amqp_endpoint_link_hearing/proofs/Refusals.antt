-- What comes of what a session refuses.
use Rattle.std.proofs.Common.{◌≡◌, inl, inr, ℕ, false, List, Option, Some, None, Result, Ok, Err, refl, sym, subst}
use Rattle.std.specs.Global.{Box}
use Rattle.amqp_session_types.specs.declared.channels.IncomingChannel.{IncomingChannel}
use Rattle.amqp_session_types.specs.declared.refusals.SessionError.{SessionError}
use Rattle.amqp_session_performatives.specs.declared.session_frame.SessionFrame.{SessionFrame}
use Rattle.amqp_endpoint_links.specs.declared.session.AskedSession.{AskedSession}
use Rattle.amqp_endpoint_links.specs.declared.hearing.LinkPerformative.{LinkPerformative}
use Rattle.amqp_endpoint_links.specs.declared.hearing.LinkPerformative.TheVariants.{Attach, Flow, Transfer, Disposition}
use Rattle.amqp_endpoint_links.specs.declared.hearing.LinkPerformative.TheVariants.{Detach}
use Rattle.amqp_endpoint_links.specs.Hearing.{Hears, says_flow}
use Rattle.amqp_endpoint_links.specs.declared.hearing.PerformativeTaken.{PerformativeTaken}
use Rattle.amqp_link_base.specs.declared.detached.Detached.{Detached}
use Rattle.amqp_link.specs.declared.relay.AttachTold.{AttachTold}
use Rattle.amqp_link_receiver.specs.declared.answer.Told.{Told}
use Rattle.amqp_endpoint_conversation.specs.declared.hearing.Heard.TheVariants.{Asked, Live, Dropped}
use Rattle.amqp_endpoint_tables.specs.State.{asked_at, live_at, reached}
use Rattle.amqp_endpoint_conversation.specs.declared.hearing.HearRefusal.TheVariants as hear
use Rattle.amqp_endpoint_conversation.specs.Hearing.{Answered, AnsweredAt, AnsweredIn, LiveAnswered}
use Rattle.amqp_endpoint_model.specs.declared.error.EndpointError.{EndpointError}
use Rattle.amqp_endpoint_model.specs.declared.error.EndpointError.TheVariants as fault
use Rattle.amqp_session_types.specs.declared.refusals.ConnectionError.TheVariants.{NotFound}
use Rattle.amqp_endpoint_model.specs.declared.event.Event.{Event}
use Rattle.amqp_endpoint_model.specs.Relay.{IsSessionFault}
use Rattle.amqp_endpoint_conversation.specs.Going.{Goes}
use Rattle.amqp_endpoint_conversation.proofs.Alone.{answer-alone}
use Rattle.amqp_endpoint_attached.specs.Linked.{gives}
use Rattle.amqp_endpoint_linking.specs.Linking.{Links, Session, Talk}
use Rattle.amqp_endpoint_linking.specs.Calling.{fault_told}
use Rattle.amqp_endpoint_linking.specs.Handed.{Tells}
use Rattle.amqp_endpoint_link_hearing.specs.Saying.{Answers, BarsSaid, EndsBy, FailsBySaid, LinkHeard, LinkRefusal}
use Rattle.amqp_endpoint_link_hearing.specs.Saying.{RefusalDone}

is-fault : (e why : EndpointError) → e ≡ why → IsSessionFault why → IsSessionFault e
is-fault e why is fault = subst IsSessionFault (sym is) fault

ends-by : (refusal : LinkRefusal) (e : EndpointError) → EndsBy refusal e → IsSessionFault e
ends-by hear.Memory e is = is-fault e fault.Memory is tt
ends-by hear.NotFound e is = is-fault e (fault.Connection NotFound) is tt
ends-by (hear.Asked number f) e is = is-fault e (fault.Session f) is tt
ends-by (hear.Session number f session) e is = absurd is

-- nothing but a Flow has frames leave where it is refused, unless the session ends by it
hears-none : (before after : Session) (it : LinkPerformative) (e : SessionError) (out out_new : List SessionFrame)
    → says_flow it ≡ false → Hears gives before.value out it (Err e) after.value out_new → out_new ≡ out
hears-none before after (Attach attach named) e out out_new flowless h = h.1
hears-none before after (Flow flow) e out out_new flowless h = absurd cc
hears-none before after (Transfer transfer payload) e out out_new flowless h = h.1
hears-none before after (Disposition disposition) e out out_new flowless h = h.1
hears-none before after (Detach detach) e out out_new flowless h = h.1

module _ (old : Talk) (channel : IncomingChannel) (it : LinkPerformative) (out : List SessionFrame) (new : Talk)
    (out_new : List SessionFrame) where
  abbrev Refused : LinkRefusal → Type 0
  Refused refusal = Answered gives old out channel it (Err refusal) new out_new

  -- it is no fault of a session that ended by it
  abbrev EndsNone : LinkRefusal → Type 0
  EndsNone (hear.Session number f session) = ⊥
  EndsNone refusal = Unit {0}

  live-kept : (number : ℕ) (session : Session) (refusal : LinkRefusal) → says_flow it ≡ false → EndsNone refusal
      → LiveAnswered gives old out number session it (Err refusal) new out_new → out_new ≡ out
  live-kept number session hear.Memory flowless none (inl t) = t.2
  live-kept number session hear.Memory flowless none (inr t) =
      hears-none session t.after it t.fault out out_new flowless ((t.refuses).hears).heard
  live-kept number session hear.NotFound flowless none t = absurd t
  live-kept number session (hear.Asked n e) flowless none t = absurd t
  live-kept number session (hear.Session n e s) flowless none t = absurd none

  at-kept : (asked : Option (Box AskedSession)) (live : Option Session) (number : ℕ) (refusal : LinkRefusal)
      → says_flow it ≡ false → EndsNone refusal
      → AnsweredAt gives asked live old out number it (Err refusal) new out_new → out_new ≡ out
  at-kept (Some asked) live number refusal flowless none t = t.1
  at-kept None (Some session) number refusal flowless none t = live-kept number session refusal flowless none t
  at-kept None None number refusal flowless none t = t.2

  in-kept : (number : Option ℕ) (refusal : LinkRefusal) → says_flow it ≡ false → EndsNone refusal
      → AnsweredIn gives number old out it (Err refusal) new out_new → out_new ≡ out
  in-kept None refusal flowless none t = t.2
  in-kept (Some number) refusal flowless none t =
      at-kept (asked_at old.sessions number) (live_at old.sessions number) number refusal flowless none t

  ends-none : (refusal : LinkRefusal) (e : EndpointError) → EndsBy refusal e → EndsNone refusal
  ends-none hear.Memory e is = tt
  ends-none hear.NotFound e is = tt
  ends-none (hear.Asked number f) e is = tt
  ends-none (hear.Session number f session) e is = absurd is

  pub ends-kept : (refusal : LinkRefusal) (e : EndpointError) → says_flow it ≡ false → Refused refusal
      → EndsBy refusal e → out_new ≡ out
  ends-kept refusal e flowless answered is =
      in-kept (reached old.sessions channel.0) refusal flowless (ends-none refusal e is) answered

  module _ (goes : Goes 0 old new out out_new) where
    -- the same where nothing was to be sent
    pub alone : (result : Result LinkHeard LinkRefusal) → Answered gives old out channel it result new out_new
        → Answers old channel it result goes.frames new
    alone result answered =
        answer-alone gives old new channel it result out out_new goes.frames goes.queued answered

    module _ (links links_new : Links) (told told_new : List Event) where
      -- its session ended by it
      pub fails : (refusal : LinkRefusal) → Refused refusal
          → RefusalDone links refusal told (Ok tt) links_new told_new
          → Tells (λ (frames : List SessionFrame) (events : List Event).
          FailsBySaid old links channel it frames events new links_new) out told out_new told_new
      fails (hear.Session number f session) answered done =
          record {
            frames = goes.frames;
            events = fault_told number f;
            is_so =
                record {
                  number = number;
                  fault = f;
                  session = session;
                  answered = alone (Err (hear.Session number f session)) answered;
                  back = done.0;
                  told = refl;
                };
            queued = goes.queued;
            are_told = done.1;
          }
      fails hear.Memory answered done = absurd done
      fails hear.NotFound answered done = absurd done
      fails (hear.Asked number f) answered done = absurd done

      -- it ends the connection
      pub ended : (refusal : LinkRefusal) (e : EndpointError)
          → RefusalDone links refusal told (Err e) links_new told_new
          → EndsBy refusal e × (links_new ≡ links) × (told_new ≡ told)
      ended hear.Memory e done = done
      ended hear.NotFound e done = done
      ended (hear.Asked number f) e done = done
      ended (hear.Session number f session) e done = done

      pub bars : (refusal : LinkRefusal) (e : EndpointError) → Refused refusal
          → RefusalDone links refusal told (Err e) links_new told_new
          → IsSessionFault e × BarsSaid old channel it e new
      bars refusal e answered done =
          let is = ended refusal e done in (
            ends-by refusal e is.0,
            record {
              refusal = refusal;
              frames = goes.frames;
              answered = alone (Err refusal) answered;
              is = is.0;
            },
          )

      -- and nothing else changes
      pub kept : (refusal : LinkRefusal) (e : EndpointError) → says_flow it ≡ false → Refused refusal
          → RefusalDone links refusal told (Err e) links_new told_new
          → (links_new ≡ links) × (out_new ≡ out) × (told_new ≡ told)
      kept refusal e flowless answered done =
          let is = ended refusal e done in (is.1, ends-kept refusal e flowless answered is.0, is.2)

-- nothing but a Flow has frames leave where it is taken, either
taken-none : (before after : Session) (it : LinkPerformative) (told : PerformativeTaken AttachTold Told Detached)
    (out out_new : List SessionFrame) → says_flow it ≡ false
    → Hears gives before.value out it (Ok told) after.value out_new → out_new ≡ out
taken-none before after (Attach attach named) told out out_new flowless h = h.1
taken-none before after (Flow flow) told out out_new flowless h = absurd cc
taken-none before after (Transfer transfer payload) told out out_new flowless h = h.1
taken-none before after (Disposition disposition) told out out_new flowless h = h.1
taken-none before after (Detach detach) told out out_new flowless h = h.1

module _ (old : Talk) (it : LinkPerformative) (out : List SessionFrame) (new : Talk) (out_new : List SessionFrame)
    (flowless : says_flow it ≡ false) where
  live-heard : (number : ℕ) (session : Session) (heard : LinkHeard)
      → LiveAnswered gives old out number session it (Ok heard) new out_new → out_new ≡ out
  live-heard number session (Live n told) t =
      taken-none session (t.1).after it told out out_new flowless ((t.1).hears).heard
  live-heard number session (Asked n) t = absurd t
  live-heard number session (Dropped n) t = absurd t

  at-heard : (asked : Option (Box AskedSession)) (live : Option Session) (number : ℕ) (heard : LinkHeard)
      → AnsweredAt gives asked live old out number it (Ok heard) new out_new → out_new ≡ out
  at-heard (Some asked) live number heard t = t.1
  at-heard None (Some session) number heard t = live-heard number session heard t
  at-heard None None number heard t = t.2

  in-heard : (number : Option ℕ) (heard : LinkHeard) → AnsweredIn gives number old out it (Ok heard) new out_new
      → out_new ≡ out
  in-heard None heard t = t.2
  in-heard (Some number) heard t =
      at-heard (asked_at old.sessions number) (live_at old.sessions number) number heard t

  pub heard-kept : (channel : IncomingChannel) (heard : LinkHeard)
      → Answered gives old out channel it (Ok heard) new out_new → out_new ≡ out
  heard-kept channel heard t = in-heard (reached old.sessions channel.0) heard t
