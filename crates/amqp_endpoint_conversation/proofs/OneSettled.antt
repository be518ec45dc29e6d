-- A session that takes a disposition at once answers it as any, and what waits in the sessions goes on to fit.
use Rattle.std.proofs.Common.{◌≡◌, ℕ, List, [], Option, Some, None, Ok, is_some, refl, sym, ap, subst, ◌∙◌}
use Rattle.std.specs.Box.{with_value}
use Rattle.std.specs.Global.{Box}
use Rattle.std.proofs.lemmas.Option.{same_Some}
use Rattle.amqp_session_types.specs.declared.channels.IncomingChannel.{IncomingChannel}
use Rattle.amqp_session_performatives.specs.declared.disposition.Disposition.{Disposition}
use Rattle.amqp_session_performatives.specs.declared.session_frame.SessionFrame.{SessionFrame}
use Rattle.amqp_session_core.specs.Relay.{Relations}
use Rattle.amqp_session_core.specs.OneSettled.{few_runs, runs_if}
use Rattle.amqp_session_core.specs.declared.fields.SessionFields.{SessionFields}
use Rattle.amqp_session_core.specs.declared.settled.SettledAtOnce.{SettledAtOnce}
use Rattle.amqp_endpoint_links.specs.declared.asking.AskingSession.{AskingSession}
use Rattle.amqp_endpoint_links.specs.declared.hearing.LinkPerformative.TheVariants as said
use Rattle.amqp_endpoint_links.specs.declared.hearing.PerformativeTaken.TheVariants as performed
use Rattle.amqp_endpoint_tables.specs.Lends.{set_live}
use Rattle.amqp_endpoint_tables.specs.State.{live_at, reached}
use Rattle.amqp_endpoint_tables.specs.Steps.{Step, ChangesLive}
use Rattle.amqp_endpoint_fitting.specs.Fits.{QueuesFit}
use Rattle.amqp_endpoint_conversation.specs.declared.conversation.Conversation.{Conversation}
use Rattle.amqp_endpoint_conversation.specs.declared.hearing.Heard.TheVariants as heard
use Rattle.amqp_endpoint_conversation.specs.Going.{FitsIn, Goes, Rests}
use Rattle.amqp_endpoint_conversation.specs.Hearing.{LiveAnswered}
use Rattle.amqp_endpoint_conversation.specs.OneSettled.{LiveSettles, LiveSettlesAtOnce, SettlesWhole}
use Rattle.amqp_endpoint_conversation.proofs.Answering.{lives}
use Rattle.amqp_endpoint_conversation.proofs.AtOnce.{stays-goes, unasked}
use Rattle.amqp_endpoint_conversation.proofs.Goings.{Never, resting}
use Rattle.amqp_endpoint_conversation.proofs.Handing.{Holds}
use Rattle.amqp_endpoint_conversation.proofs.Hearings.{in_live}
use Rattle.amqp_endpoint_conversation.proofs.Places.{changes_live, stays}

module _ {R A T D : Type 0} (gives : Relations R A T D) (old new : Conversation R) (number : ℕ) (d : Disposition) where
  -- a session that took it stands there as it was changed
  module _ (settled : SettledAtOnce) (l : LiveSettles gives old number d settled new) where
    abbrev lent : Box (AskingSession R)
    lent = with_value l.before (record (l.before).value { session = l.after })

    stepped : Step old.sessions (ChangesLive number l.before lent) new.sessions
    stepped = (l.live, ap (λ (c : Conversation R). c.sessions) l.becomes)

    waits-on : (limit : ℕ) → FitsIn limit ((l.before).value).session → FitsIn limit l.after
    waits-on limit fit =
        subst (λ (f : SessionFields). QueuesFit (f.channel).0 limit ((l.after).outgoing).queues) (sym (l.took).fields)
        (subst (λ qs. QueuesFit (((((l.before).value).session).fields).channel).0 limit qs) (sym (l.took).waits) fit)

  pub goes : (settled : Option SettledAtOnce) → LiveSettlesAtOnce gives old number d settled new
      → (limit : ℕ) (out : List SessionFrame) → Goes limit old new out out
  goes None is limit out =
      stays-goes old new limit out
      (stays (Holds (FitsIn limit)) old.sessions new.sessions (ap (λ (c : Conversation R). c.sessions) is))
  goes (Some settled) l limit out =
      stays-goes old new limit out
      (changes_live (Holds (FitsIn limit)) old.sessions new.sessions number l.before (lent settled l)
      (stepped settled l) (waits-on settled l limit))

  pub rests : (settled : Option SettledAtOnce) → LiveSettlesAtOnce gives old number d settled new
      → (out : List SessionFrame) → Rests old new out out
  rests None is out =
      resting old new out out
      (stays (Holds Never) old.sessions new.sessions (ap (λ (c : Conversation R). c.sessions) is)) (λ none. refl)
  rests (Some settled) l out =
      resting old new out out
      (changes_live (Holds Never) old.sessions new.sessions number l.before (lent settled l)
      (stepped settled l) (λ never. never)) (λ none. refl)

  pub settled_on_channel : (channel : IncomingChannel) (settled : SettledAtOnce)
      → reached old.sessions channel.0 ≡ Some number
      → LiveSettles gives old number d settled new
      → SettlesWhole gives old channel d number settled new
  settled_on_channel channel settled here l =
      let took = l.took in
      let after : Box (AskingSession R) = lent settled l in
      let sessions : new.sessions ≡ set_live old.sessions number after =
      ap (λ (c : Conversation R). c.sessions) l.becomes in
      let answer = performed.Disposition d (few_runs (runs_if settled.is_echoed settled.delivery.number)) in
      record {
        is_settled = took.is_settled;
        stood = l.before;
        live = l.live;
        touched = took.touched;
        after = after;
        goes_on = ap (λ ss. live_at ss number) sessions ∙ lives old.sessions number after l.before l.live;
        reaches = took.reaches;
        answered =
            in_live gives old [] channel (said.Disposition d) (Ok (heard.Live number answer)) new [] number here
            (unasked old.sessions number l.before l.live)
            (ap (λ (o : Option (Box (AskingSession R))). is_some o) l.live)
            (λ session live.
            subst (λ (s : Box (AskingSession R)). LiveAnswered gives old [] number s (said.Disposition d)
            (Ok (heard.Live number answer)) new []) (same_Some _ _ (sym l.live ∙ live)) (
              refl,
              record {
                after = after;
                hears = record { heard = ((refl, took.taken, refl), refl); stepped = (l.live, sessions) };
                rest = l.becomes ∙ ap (λ ss. record old { sessions = ss }) (sym sessions);
              },
            ));
      }
