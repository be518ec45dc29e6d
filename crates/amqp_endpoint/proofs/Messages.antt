-- What the calls of messages do is what they are related by, with their own frames.
use Rattle.std.proofs.Common.{◌≡◌, ◌≤◌, ◌<◌, ◌-◌, ◌^◌, ℕ, suc, Bool, List, [], ◌∷◌, Option, None, Result, Ok, Err}
use Rattle.std.proofs.Common.{refl, sym, subst, ◌∙◌, append-nil}
use Rattle.std.specs.Prelude.{⊤, IfOk, OnOk}
use Rattle.amqp_session_performatives.specs.declared.session_frame.SessionFrame.{SessionFrame}
use Rattle.amqp_session_states.specs.declared.outcome.Outcome.{Outcome}
use Rattle.amqp_endpoint_model.specs.declared.answer.Sent.{Sent}
use Rattle.amqp_endpoint_tables.specs.LinkState.{place_at}
use Rattle.amqp_endpoint_model.specs.declared.call.Call.TheVariants.{Dispose, DisposeAll, Send}
use Rattle.amqp_endpoint_model.specs.declared.call.Disposal.{Disposal}
use Rattle.amqp_endpoint_model.specs.declared.call.Sending.{Sending}
use Rattle.amqp_endpoint_model.specs.declared.error.EndpointError.{EndpointError}
use Rattle.amqp_endpoint_model.specs.Relay.{Called}
use Rattle.amqp_endpoint_model.specs.Said.{done, message_sent}
use Rattle.amqp_endpoint_conversation.specs.Going.{Goes, Within}
use Rattle.amqp_endpoint_linking.specs.Handed.{Hands}
use Rattle.amqp_endpoint_linking.specs.Linking.{Links, Talk}
use Rattle.amqp_endpoint_link_calls.specs.Calling.{DoneAt}
use Rattle.amqp_endpoint_link_calls.specs.Places.{Where}
use Rattle.amqp_endpoint_link_calls.specs.Disposing.{DisposedAt, DisposedOneAt, disposes_of_all, disposes_of_one}
use Rattle.amqp_endpoint_link_calls.specs.Refusing.{refusal_of}
use Rattle.amqp_endpoint_link_calls.specs.Sending.{sends as sends_by}
use Rattle.amqp_endpoint.specs.declared.linked.LinkedSessions.{LinkedSessions}
use Rattle.amqp_endpoint.specs.Does.{linked}
use Rattle.amqp_endpoint.specs.Sending.{SendsMessage, outcome_of, tag_of}
use Rattle.amqp_endpoint.proofs.Related.{called, done-hands}

-- a link has sent a message under the tag of this serial number, with its own frames
pub sent-hands : (limit serial link : ℕ) (old new : Talk) (links : Links) (message : Sending) (key tag : List ℕ)
    (settled : Bool) (outcome : Option Outcome) (out out_new : List SessionFrame) → serial < 2 ^ 64 - 1
    → key ≡ tag_of serial → tag ≡ tag_of serial → outcome ≡ outcome_of settled
    → DoneAt (sends_by limit key message settled) (place_at links link) old out new out_new
    → Hands (λ (frames : List SessionFrame).
    SendsMessage limit serial old links link message tag outcome frames new) out out_new
sent-hands limit serial link old new links message key tag settled outcome out out_new numbered keyed tagged told d =
    let by_tag : DoneAt (sends_by limit (tag_of serial) message settled) (place_at links link) old out new out_new =
    subst (λ (k : List ℕ). DoneAt (sends_by limit k message settled) (place_at links link) old out new out_new)
    keyed d in
    let h = done-hands (sends_by limit (tag_of serial) message settled) old new out out_new (place_at links link) by_tag
    in
    record {
      frames = h.frames;
      is_so = record { numbered = numbered; settled = settled; sent = h.is_so; tagged = tagged; told = told };
      queued = h.queued;
    }

-- a message is sent
module _ (old new : LinkedSessions) (limit link : ℕ) (message : Sending) (out out_new : List SessionFrame)
    (least : 512 ≤ limit) (within : Within limit old.talk) (goes : Goes limit old.talk new.talk out out_new)
    (links : new.links ≡ old.links) (given : new.given ≡ old.given)
  where
    pub sends : (r : Result Sent EndpointError) → OnOk r (new.sent ≡ suc old.sent)
        → IfOk r (λ s. Hands (λ (frames : List SessionFrame).
        SendsMessage limit old.sent old.talk old.links link message s.tag s.outcome frames new.talk) out out_new)
        → IfOk r (λ s. Called linked old limit (Send link message) (message_sent s.tag s.outcome) out new out_new)
    sends (Ok s) one h =
        called old new limit (Send link message) out out_new least within goes (record { sent = one; given = given })
        (message_sent s.tag s.outcome)
        (λ (frames : List SessionFrame).
        SendsMessage limit old.sent old.talk old.links link message s.tag s.outcome frames new.talk)
        (λ frames is. record { sends = is; same = links }) h
    sends (Err e) one h = tt

-- messages are disposed of, with their own frames
all-hand : (limit : ℕ) (messages : List ℕ) (disposal : Disposal) (old new : Talk) (out out_new : List SessionFrame)
    (place : Where) → DisposedAt limit place messages disposal old out new out_new
    → Hands (λ (frames : List SessionFrame). DisposedAt limit place messages disposal old [] new frames) out out_new
all-hand limit [] disposal old new out out_new place (same, silent) =
    record { frames = []; is_so = (same, refl); queued = silent ∙ sym (append-nil out) }
all-hand limit (message ∷ messages) disposal old new out out_new place d =
    done-hands (disposes_of_all limit (message ∷ messages) disposal) old new out out_new place d

module _ (old new : LinkedSessions) (limit link : ℕ) (disposal : Disposal) (out out_new : List SessionFrame)
    (least : 512 ≤ limit) (within : Within limit old.talk) (goes : Goes limit old.talk new.talk out out_new)
    (links : new.links ≡ old.links) (sent : new.sent ≡ old.sent) (given : new.given ≡ old.given)
  where
    pub disposes-all : (messages : List ℕ) (r : Result ⊤ EndpointError)
        → OnOk r (DisposedAt limit (place_at old.links link) messages disposal old.talk out new.talk out_new)
        → OnOk r (refusal_of old.talk old.links old.given link messages ≡ None)
        → OnOk r (Called linked old limit (DisposeAll link messages disposal) done out new out_new)
    disposes-all messages (Ok u) d allowed =
        called old new limit (DisposeAll link messages disposal) out out_new least within goes
        (record { sent = sent; given = given }) done
        (λ (frames : List SessionFrame).
        DisposedAt limit (place_at old.links link) messages disposal old.talk [] new.talk frames)
        (λ frames is. record { allowed = allowed; disposes = is; same = links })
        (all-hand limit messages disposal old.talk new.talk out out_new (place_at old.links link) d)
    disposes-all messages (Err e) d allowed = tt

    pub disposes-one : (message : ℕ) (r : Result ⊤ EndpointError)
        → OnOk r (DisposedOneAt limit (place_at old.links link) message disposal old.talk out new.talk out_new)
        → OnOk r (refusal_of old.talk old.links old.given link (message ∷ []) ≡ None)
        → OnOk r (Called linked old limit (Dispose link message disposal) done out new out_new)
    disposes-one message (Ok u) d allowed =
        called old new limit (Dispose link message disposal) out out_new least within goes
        (record { sent = sent; given = given }) done
        (λ (frames : List SessionFrame).
        DisposedOneAt limit (place_at old.links link) message disposal old.talk [] new.talk frames)
        (λ frames is. record { allowed = allowed; disposes = is; same = links })
        (done-hands (disposes_of_one limit message disposal) old.talk new.talk out out_new (place_at old.links link) d)
    disposes-one message (Err e) d allowed = tt
