-- What the sessions' answers to the peer's Begin and End come to, and what is told of them.
use Rattle.std.proofs.Common.{◌≡◌, inl, inr, ℕ, List, [], ◌++◌, Some, None, Bool, Ok, Err, refl, sym, ap, subst, ◌∙◌}
use Rattle.std.proofs.Common.{append-nil}
use Rattle.std.proofs.lemmas.Option.{none-some}
use Rattle.amqp_session_types.specs.declared.channels.IncomingChannel.{IncomingChannel}
use Rattle.amqp_session_types.specs.declared.refusals.SessionError.{SessionError}
use Rattle.amqp_session_types.specs.declared.refusals.SessionError.TheVariants.{IllegalState}
use Rattle.amqp_session_performatives.specs.declared.begin.Begin.{Begin}
use Rattle.amqp_session_performatives.specs.declared.end.End.{End}
use Rattle.amqp_session_performatives.specs.declared.session_frame.SessionFrame.{SessionFrame}
use Rattle.amqp_endpoint_tables.specs.State.{live_at, place_at, reached}
use Rattle.amqp_endpoint_conversation.specs.declared.beginning.BeginHeard.{BeginHeard}
use Rattle.amqp_endpoint_conversation.specs.declared.beginning.BeginRefusal.{BeginRefusal}
use Rattle.amqp_endpoint_conversation.specs.declared.beginning.BeginRefusal.TheVariants.{Session as SessionRefuses}
use Rattle.amqp_endpoint_conversation.specs.declared.ending.EndHeard.{EndHeard}
use Rattle.amqp_endpoint_conversation.specs.Beginning.{BeginAnswered}
use Rattle.amqp_endpoint_conversation.specs.Ending.{EndAnswered}
use Rattle.amqp_endpoint_model.specs.declared.event.Event.{Event}
use Rattle.amqp_endpoint_conversation.specs.Going.{Goes}
use Rattle.amqp_endpoint_conversation.proofs.Alone.{begin-alone, end-alone}
use Rattle.amqp_endpoint_attached.specs.Linked.{gives}
use Rattle.amqp_endpoint_linking.specs.Linking.{Link, Links, Stood, Talk}
use Rattle.amqp_endpoint_linking.specs.GivingBack.{SessionGivenBack}
use Rattle.amqp_endpoint_linking.specs.Calling.{Fails}
use Rattle.amqp_endpoint_linking.specs.Handed.{Tells}
use Rattle.amqp_endpoint_linking.specs.Hearing.{HearsBegin, TakesEnd, begin_told, end_told, is_closing, is_told}

-- nothing was handed out
unsent : (out out_new : List SessionFrame) → out_new ≡ out → out_new ≡ out ++ []
unsent out out_new same = same ∙ sym (append-nil out)

-- the peer's Begin
module _ (old : Talk) (channel : IncomingChannel) (begin : Begin) (out : List SessionFrame) (new : Talk)
    (out_new : List SessionFrame) where
  pub begun-tells : (links links_new : Links) (told told_new : List Event) (heard : BeginHeard)
      → Goes 0 old new out out_new → BeginAnswered gives old out channel begin (Ok heard) new out_new
      → told_new ≡ told ++ begin_told heard channel → links_new ≡ links
      → Tells (λ frames events.
      HearsBegin old links channel begin frames events new links_new) out told out_new told_new
  begun-tells links links_new told told_new heard goes answered are same =
      record {
        frames = goes.frames;
        events = begin_told heard channel;
        is_so =
            inl (record {
              heard = heard;
              answered =
                  begin-alone gives old new channel begin (Ok heard) out out_new goes.frames goes.queued answered;
              told = refl;
              same = same;
            });
        queued = goes.queued;
        are_told = are;
      }

  -- where it is refused nothing is handed out
  refused-alone : (refusal : BeginRefusal) → out_new ≡ out
      → BeginAnswered gives old out channel begin (Err refusal) new out_new
      → BeginAnswered gives old [] channel begin (Err refusal) new []
  refused-alone refusal same answered =
      begin-alone gives old new channel begin (Err refusal) out out_new [] (unsent out out_new same) answered

  -- by the session that it names, which has begun
  pub record IsRefused (number : ℕ) (fault : SessionError) : Type 0 where
    pub answered : BeginAnswered gives old [] channel begin (Err (SessionRefuses number fault)) new []
    pub kept : out_new ≡ out
    pub live : live_at new.sessions number ≡ None → ⊥

  refused : (number : ℕ) (fault : SessionError)
      → BeginAnswered gives old out channel begin (Err (SessionRefuses number fault)) new out_new
      → IsRefused number fault
  refused number IllegalState t =
      record {
        answered = refused-alone (SessionRefuses number IllegalState) t.1 t;
        kept = t.1;
        live = λ none. none-some (t.0).session (sym none ∙ (t.0).live);
      }
  refused number e t = absurd t

  pub begin-refused : (refusal : BeginRefusal) (number : ℕ) (fault : SessionError)
      → refusal ≡ SessionRefuses number fault
      → BeginAnswered gives old out channel begin (Err refusal) new out_new → IsRefused number fault
  begin-refused refusal number fault is answered =
      refused number fault
      (subst (λ (r : BeginRefusal). BeginAnswered gives old out channel begin (Err r) new out_new) is answered)

  -- it ends by that
  pub failed-begin : (number : ℕ) (fault : SessionError) → IsRefused number fault
      → (links links_end : Links) (end : Talk) (told told_end : List Event) (out_end : List SessionFrame)
      → Tells (λ frames events.
      Fails new links number fault frames events end links_end) out_new told out_end told_end
      → Tells (λ frames events.
      HearsBegin old links channel begin frames events end links_end) out told out_end told_end
  failed-begin number fault r links links_end end told told_end out_end t =
      record {
        frames = t.frames;
        events = t.events;
        is_so =
            inr (record { number = number; fault = fault; mid = new; refused = r.answered; fails = t.is_so });
        queued = t.queued ∙ ap (λ (o : List SessionFrame). o ++ t.frames) r.kept;
        are_told = t.are_told;
      }

-- the peer's End
module _ (old : Talk) (channel : IncomingChannel) (end : End) (out : List SessionFrame) (new : Talk)
    (out_new : List SessionFrame) where
  pub ended-tells : (links links_new : Links) (told told_new : List Event) (heard : EndHeard Link) (tells : Bool)
      → Goes 0 old new out out_new → EndAnswered old out channel end (Ok heard) new out_new
      → ((number : ℕ) (stood : Stood) → reached old.sessions channel.0 ≡ Some number
      → place_at old.sessions number ≡ Some stood
      → tells ≡ is_told (is_closing old.sessions.connection.local_state) stood)
      → SessionGivenBack links heard.ended links_new
      → told_new ≡ told ++ end_told tells heard.number end.error
      → Tells (λ frames events.
      TakesEnd old links channel end frames events new links_new) out told out_new told_new
  ended-tells links links_new told told_new heard tells goes answered so back are =
      let here : EndAnswered old [] channel end (Ok heard) new goes.frames =
      end-alone old new channel end (Ok heard) out out_new goes.frames goes.queued answered in
      record {
        frames = goes.frames;
        events = end_told tells heard.number end.error;
        is_so =
            record {
              heard = heard;
              answered = here;
              back = back;
              told =
                  ap (λ (b : Bool). end_told b heard.number end.error)
                  (so heard.number here.stood (here.stepped).0 (here.stepped).1);
            };
        queued = goes.queued;
        are_told = are;
      }
