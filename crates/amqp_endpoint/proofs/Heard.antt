-- What the peer's frames do is what they are related by, and what is handed out fits the limit.
use Rattle.std.proofs.Common.{◌≡◌, ◌≤◌, ℕ, List, Result, Ok, Err, sym, subst, ◌∙◌}
use Rattle.std.specs.Prelude.{⊤, IfErr, OnErr, OnOk}
use Rattle.std.proofs.lemmas.List.{append_cancel_left}
use Rattle.amqp_session_types.specs.declared.channels.IncomingChannel.{IncomingChannel}
use Rattle.amqp_session_performatives.specs.declared.session_frame.SessionFrame.{SessionFrame}
use Rattle.amqp_session_frames.specs.declared.frame.FrameBody.{FrameBody}
use Rattle.amqp_endpoint_model.specs.declared.error.EndpointError.{EndpointError}
use Rattle.amqp_endpoint_model.specs.declared.event.Event.{Event}
use Rattle.amqp_endpoint_model.specs.Relay.{IsSessionFault, Refused, Taken}
use Rattle.amqp_endpoint_conversation.specs.Going.{AllFit, Goes, Within}
use Rattle.amqp_endpoint_linking.specs.Handed.{Tells}
use Rattle.amqp_endpoint_linking.specs.Linking.{Links, Talk}
use Rattle.amqp_endpoint.specs.declared.linked.LinkedSessions.{LinkedSessions}
use Rattle.amqp_endpoint.specs.Does.{linked}
use Rattle.amqp_endpoint.specs.Hearing.{Hears, Refuses, RefusesBody}

module _ (old new : Talk) (links links_new : Links) (given given_new limit : ℕ) (channel : IncomingChannel) where
  -- a frame that is this performative
  pub hears-if : (said it : FrameBody) (out out_new : List SessionFrame) (told told_new : List Event)
      → (IsSo : List SessionFrame → List Event → Type 0)
      → ((frames : List SessionFrame) (events : List Event) → IsSo frames events
      → Hears old links given limit channel it frames events new links_new given_new)
      → said ≡ it → (r : Result ⊤ EndpointError) → OnOk r (Tells IsSo out told out_new told_new)
      → OnOk r
      (Tells (λ (frames : List SessionFrame) (events : List Event).
      Hears old links given limit channel said frames events new links_new given_new) out told out_new told_new)
  hears-if said it out out_new told told_new IsSo by is (Ok u) h =
      let P : FrameBody → Type 0 = λ body.
      Hears old links given limit channel body h.frames h.events new links_new given_new in
      record {
        frames = h.frames;
        events = h.events;
        is_so = subst P (sym is) (by h.frames h.events h.is_so);
        queued = h.queued;
        are_told = h.are_told;
      }
  hears-if said it out out_new told told_new IsSo by is (Err e) h = tt

  pub refuses-if : (said it : FrameBody) (P : Type 0) → (P → links_new ≡ links) → said ≡ it
      → (r : Result ⊤ EndpointError)
      → IfErr r (λ e. IsSessionFault e × RefusesBody old links given limit channel it e new) → OnErr r P
      → IfErr r (λ e. IsSessionFault e × Refuses old links given limit channel said e new links_new)
  refuses-if said it P same is (Ok u) refuses kept = tt
  refuses-if said it P same is (Err e) (fault, refuses) kept =
      let Q : FrameBody → Type 0 = λ body. RefusesBody old links given limit channel body e new in
      (fault, record { refuses = subst Q (sym is) refuses; same = same kept })

-- a frame that is taken
module _ (old new : LinkedSessions) (limit : ℕ) (channel : IncomingChannel) (body : FrameBody)
    (out out_new : List SessionFrame) (told told_new : List Event) (sent : new.sent ≡ old.sent) where
  pub taken : 512 ≤ limit → Within limit old.talk → Goes limit old.talk new.talk out out_new
      → (r : Result ⊤ EndpointError)
      → OnOk r
      (Tells (λ (frames : List SessionFrame) (events : List Event).
      Hears old.talk old.links old.given limit channel body frames events new.talk new.links new.given) out told
      out_new told_new)
      → OnOk r (Taken linked old limit channel.0 body out told new out_new told_new)
  taken least within goes (Ok u) h =
      let same : goes.frames ≡ h.frames =
      append_cancel_left out goes.frames h.frames (sym goes.queued ∙ h.queued) in
      record {
        frames = h.frames;
        events = h.events;
        takes = (h.is_so, sent);
        fit = subst (AllFit limit) same (goes.fit least within);
        queued = h.queued;
        are_told = h.are_told;
      }
  taken least within goes (Err e) h = tt

  pub refused : (r : Result ⊤ EndpointError)
      → IfErr r (λ e. IsSessionFault e
      × Refuses old.talk old.links old.given limit channel body e new.talk new.links)
      → OnErr r
      ((new.links ≡ old.links) × (new.given ≡ old.given) × (out_new ≡ out) × (told_new ≡ told))
      → IfErr r (λ e. Refused linked old limit channel.0 body e new)
  refused (Ok u) h kept = tt
  refused (Err e) h kept = record { ends = h.0; refuses = (h.1, record { sent = sent; given = kept.1 }) }

-- what is kept where it is refused
pub kept-so : (P Q : Type 0) → (P → Q) → (r : Result ⊤ EndpointError) → OnErr r P → OnErr r Q
kept-so P Q by (Ok u) kept = tt
kept-so P Q by (Err e) kept = by kept
