-- A message that is handed out at once.
use Rattle.std.proofs.Common.{◌≡◌, ◌≤◌, ℕ, List, [], ◌∷◌, ◌++◌, Option, Some, None, Ok, refl, sym, ap, subst, ◌∙◌}
use Rattle.std.specs.Prelude.{IfNone, IfSome}
use Rattle.amqp_session_types.specs.declared.channels.IncomingChannel.{IncomingChannel}
use Rattle.amqp_session_performatives.specs.declared.session_frame.SessionFrame.{SessionFrame}
use Rattle.amqp_session_performatives.specs.declared.transfer.Transfer.{Transfer}
use Rattle.amqp_session_frames.specs.declared.frame.FrameBody.TheVariants as body
use Rattle.amqp_endpoint_model.specs.Arriving.{arrived}
use Rattle.amqp_endpoint_model.specs.Relay.{Taken}
use Rattle.amqp_endpoint_model.specs.declared.arrival.Arrival.{Arrival}
use Rattle.amqp_endpoint_model.specs.declared.event.Event.{Event}
use Rattle.amqp_endpoint_conversation.specs.Going.{Goes, Within}
use Rattle.amqp_endpoint_linking.specs.Handed.{Hands}
use Rattle.amqp_endpoint_linking.specs.Linking.{Links, Talk}
use Rattle.amqp_endpoint_link_hearing.specs.Transferring.{HearsTransfer}
use Rattle.amqp_endpoint.specs.declared.linked.LinkedSessions.{LinkedSessions}
use Rattle.amqp_endpoint.specs.Does.{linked}
use Rattle.amqp_endpoint.proofs.Heard.{taken}

module _ (old : LinkedSessions) (talk : Talk) (given limit : ℕ) (channel : IncomingChannel) (t : Transfer) (payload : List ℕ)
    (out out_new : List SessionFrame) where
  -- the endpoint, which handed it out
  abbrev new : LinkedSessions
  new = record old { talk = talk; given = given }

  pub taken-at-once : 512 ≤ limit → Within limit old.talk → Goes limit old.talk talk out out_new → (r : Option Arrival)
      → IfSome r (λ (it : Arrival). Hands (λ (frames : List SessionFrame). (links : Links) →
      HearsTransfer old.talk links old.given channel t payload frames (arrived it t payload ∷ []) talk links given) out out_new)
      → IfSome r (λ (it : Arrival). (told : List Event) → Taken linked old limit channel.0 (body.Transfer t payload) out told new
      out_new (told ++ arrived it t payload ∷ []))
  taken-at-once least within goes None h = tt
  taken-at-once least within goes (Some it) h =
      λ told.
      taken old new limit channel (body.Transfer t payload) out out_new told (told ++ arrived it t payload ∷ []) refl least
      within goes (Ok tt)
      (record {
        frames = h.frames;
        events = arrived it t payload ∷ [];
        is_so = h.is_so old.links;
        queued = h.queued;
        are_told = refl;
      })

  pub left-at-once : (r : Option Arrival) → IfNone r ((talk ≡ old.talk) × (given ≡ old.given) × (out_new ≡ out))
      → IfNone r ((new ≡ old) × (out_new ≡ out))
  left-at-once (Some it) left = tt
  left-at-once None (same, uncounted, unsent) = (
    ap (λ (s : Talk). record old { talk = s; given = given }) same ∙ ap (λ (n : ℕ). record old { given = n }) uncounted,
    unsent,
  )
