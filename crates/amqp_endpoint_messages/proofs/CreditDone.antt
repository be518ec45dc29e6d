-- What a link does that sends its messages on is done by steps of its session that bring what fits.
use Rattle.std.proofs.Common.{◌≡◌, inl, inr, ℕ, Bool, true, List, [], ◌∷◌, ◌++◌, Option, Some, None, refl, sym}
use Rattle.std.proofs.Common.{ap, subst, ◌∙◌, append-nil, append_assoc}
use Rattle.std.specs.Prelude.{All}
use Rattle.amqp_session_types.specs.declared.error.Error.{Error}
use Rattle.amqp_session_types.specs.declared.handles.OutputHandle.{OutputHandle}
use Rattle.amqp_session_performatives.specs.declared.session_frame.SessionFrame.{SessionFrame}
use Rattle.amqp_session_core.specs.Batch.{Transfers}
use Rattle.amqp_session_core.specs.Steps.{Changes, SendsTransfers}
use Rattle.amqp_link_sender.specs.declared.sending_on.PreparedSendOn.{PreparedSendOn}
use Rattle.amqp_link.specs.GoingOn.{sent_on}
use Rattle.amqp_endpoint_fitting.specs.Fits.{UnitFits}
use Rattle.amqp_endpoint_links.specs.History.{InSession}
use Rattle.amqp_endpoint_model.specs.declared.error.EndpointError.{EndpointError}
use Rattle.amqp_endpoint_model.specs.declared.event.Event.{Event}
use Rattle.amqp_endpoint_attached.specs.Linked.{Linked, LinksIn}
use Rattle.amqp_endpoint_messages.specs.SendingOn.{AreCutOn, AreSentOn, ClosesWhere, CreditedAt, IsSentOn, SendsOn}
use Rattle.amqp_endpoint_messages.proofs.AttachDone.{Fits, Stepped, both, closed-for, fits-still, unchanged}

nothing-done : (limit : ℕ) (old new : Linked) (frames : List SessionFrame) → new ≡ old → frames ≡ []
    → Stepped limit old frames new
nothing-done limit old new frames same none =
    record {
      done = unchanged limit old frames new same none;
      fields = ap (λ (s : Linked). s.session.fields) same;
    }

-- messages are sent on
record Sending (limit : ℕ) (base : Linked) (old new : LinksIn) (out out_new : List SessionFrame) : Type 0 where
  pub frames : List SessionFrame
  pub queued : out_new ≡ out ++ frames
  pub goes : Stepped limit (record base { session = old }) frames (record base { session = new })

none-sent : (limit : ℕ) (base : Linked) (old new : LinksIn) (out out_new : List SessionFrame) → new ≡ old
    → out_new ≡ out → Sending limit base old new out out_new
none-sent limit base old new out out_new same silent =
    record {
      frames = [];
      queued = silent ∙ sym (append-nil out);
      goes =
          nothing-done limit (record base { session = old }) (record base { session = new }) []
          (ap (λ (s : LinksIn). record base { session = s }) same) refl;
    }

-- one of them, whose transfers fit
one-sent : (limit : ℕ) (base : Linked) (handle : OutputHandle) (batch : Transfers) (old new : LinksIn)
    (out out_new : List SessionFrame) → ((channel : ℕ) → All (UnitFits channel limit handle.0) batch)
    → IsSentOn handle batch old out new out_new → Sending limit base old new out out_new
one-sent limit base handle batch old new out out_new fit s =
    let link = s.takes.link in
    record {
      frames = s.sends.frames;
      queued = s.sends.added;
      goes =
          record {
            done =
                record {
                  steps =
                      InSession (SendsTransfers handle batch s.sends.left s.sends.frames)
                      ∷ InSession (Changes handle.0 link (record link { link = sent_on link.link })) ∷ [];
                  history = (
                    record base { session = s.taken },
                    (s.sends.stepped, refl),
                    (record base { session = new }, (s.takes.changed, refl), refl),
                  );
                  sends = (fit old.fields.channel.0, (tt, tt));
                  ends = (tt, (tt, tt));
                  hand = (s.sends.frames, [], refl, ([], [], refl, refl, refl), sym (append-nil s.sends.frames));
                };
            fields =
                ap (λ (s : LinksIn). s.fields) s.takes.changed.1 ∙ ap (λ (s : LinksIn). s.fields) s.sends.stepped.2;
          };
    }

each-sent : (limit : ℕ) (base : Linked) (handle : OutputHandle) (ons : List PreparedSendOn) (batches : List Transfers)
    (all stopped : Bool) (old new : LinksIn) (out out_new : List SessionFrame) → AreCutOn limit handle ons batches all
    → AreSentOn handle batches old out stopped new out_new → Sending limit base old new out out_new
each-sent limit base handle ons [] all stopped old new out out_new cut (_, same, silent) =
    none-sent limit base old new out out_new same silent
each-sent limit base handle [] (batch ∷ batches) all stopped old new out out_new (none, _) sent = absurd cc
each-sent limit base handle (ready ∷ others) (batch ∷ batches) all stopped old new out out_new (one, rest)
    (inl (mid, out_mid, first, more)) =
    let f : Sending limit base old mid out out_mid =
    one-sent limit base handle batch old mid out out_mid one.fit first in
    let l : Sending limit base mid new out_mid out_new =
    each-sent limit base handle others batches all stopped mid new out_mid out_new rest more in
    record {
      frames = f.frames ++ l.frames;
      queued =
          l.queued
          ∙ ap (λ (o : List SessionFrame). o ++ l.frames) f.queued
          ∙ append_assoc out f.frames l.frames;
      goes =
          both limit (record base { session = old }) (record base { session = mid }) (record base { session = new })
          f.frames l.frames f.goes l.goes;
    }
each-sent limit base handle (ready ∷ others) (batch ∷ batches) all stopped old new out out_new (one, rest)
    (inr (_, same, silent, _)) =
    none-sent limit base old new out out_new same silent

sends-on : (limit : ℕ) (handle : OutputHandle) (ons : List PreparedSendOn) (old new : Linked)
    (stuck : Option EndpointError) (frames : List SessionFrame) → SendsOn limit handle ons old [] stuck new frames
    → Stepped limit old frames new
sends-on limit handle ons old new stuck frames s =
    let h : Sending limit old old.session new.session [] frames =
    each-sent limit old handle ons s.batches s.all s.stopped old.session new.session [] frames s.cut s.sent in
    let so : Stepped limit old h.frames new =
    subst (λ (t : Linked). Stepped limit old h.frames t) (sym s.rest) h.goes in
    subst (λ (fs : List SessionFrame). Stepped limit old fs new) (sym h.queued) so

closes-where : (stuck : Option EndpointError) (limit session count : ℕ) (handle : OutputHandle) (why : Error)
    (frames : List SessionFrame) (events : List Event) (old new : Linked) → Fits limit old handle true (Some why)
    → ClosesWhere stuck session count handle why frames events old new → Stepped limit old frames new
closes-where None limit session count handle why frames events old new fit (none, _, same) =
    nothing-done limit old new frames same none
closes-where (Some error) limit session count handle why frames events old new fit c =
    closed-for limit session error count handle why frames events old new fit c

pub credited-at : (limit session count : ℕ) (handle : OutputHandle) (why : Error) (ons : List PreparedSendOn)
    (frames : List SessionFrame) (events : List Event) (old new : Linked) → Fits limit old handle true (Some why)
    → CreditedAt limit session count handle why ons frames events old new → Stepped limit old frames new
credited-at limit session count handle why ons frames events old new fit c =
    let first : Stepped limit old c.on c.gone = sends-on limit handle ons old c.gone c.stuck c.on c.sends_on in
    let here : Fits limit c.gone handle true (Some why) =
    fits-still limit old c.gone handle (Some why) first.fields fit in
    let second : Stepped limit c.gone c.down new =
    closes-where c.stuck limit session count handle why c.down events c.gone new here c.closes in
    let all : Stepped limit old (c.on ++ c.down) new = both limit old c.gone new c.on c.down first second in
    subst (λ (fs : List SessionFrame). Stepped limit old fs new) (sym c.frames_are) all
