-- What is handed out where a frame of a link is sent.
use Rattle.std.proofs.Common.{◌≡◌, ◌⊎◌, inl, inr, List, [], ◌∷◌, Option, Some, None, refl, ◌∙◌, ap}
use Rattle.std.specs.Prelude.{option_to_list, slice_set}
use Rattle.amqp_session_types.specs.declared.handles.OutputHandle.{OutputHandle}
use Rattle.amqp_session_performatives.specs.declared.session_frame.SessionFrame.{SessionFrame}
use Rattle.amqp_session_core.specs.declared.batch.BehindFrame.{BehindFrame}
use Rattle.amqp_session_core.specs.Frames.{behind_frame}
use Rattle.amqp_session_core.specs.Steps.{Step, SendsBehind}
use Rattle.amqp_link.specs.declared.end.End.{End}
use Rattle.amqp_endpoint_links.specs.declared.numbered.Numbered.{Numbered}
use Rattle.amqp_endpoint_attached.specs.Linked.{Linked, LinksIn, gives}
use Rattle.amqp_endpoint_attached.specs.Sent.{IsAtMost, Says, Sends}

-- the frame leaves at once, or nothing does
module _ (old mid new : LinksIn) (handle : OutputHandle) (frame : BehindFrame) (links : List (Option (Numbered End)))
    (same : mid ≡ record old { links = links }) where
  at_most : (left : Option BehindFrame) (answer : Option SessionFrame) (frames : List SessionFrame)
      → Step gives mid (SendsBehind handle frame left answer) new → frames ≡ option_to_list answer
      → (frames ≡ []) ⊎ (frames ≡ behind_frame old.fields old.outgoing.next_outgoing_id frame ∷ [])
  at_most None answer frames sent are =
      inl (are ∙ ap (λ (o : Option SessionFrame). option_to_list o) sent.1)
  at_most (Some left) answer frames sent are =
      inr (
      are
      ∙ ap (λ (o : Option SessionFrame). option_to_list o) sent.1
      ∙ ap (λ (f : BehindFrame). behind_frame mid.fields mid.outgoing.next_outgoing_id f ∷ []) sent.0.0.1
      ∙ ap (λ (s : LinksIn). behind_frame s.fields s.outgoing.next_outgoing_id frame ∷ []) same
      )

pub sends_at_most : (old new : Linked) (handle : OutputHandle) (before after : Numbered End) (frame : BehindFrame)
    (frames : List SessionFrame) → Sends old handle before after frame frames new → IsAtMost old frame frames
sends_at_most old new handle before after frame frames sends =
    at_most old.session sends.mid new.session handle frame
    (slice_set old.session.links handle.0 (Some after)) sends.changed.1 sends.left sends.answer frames sends.sent
    sends.frames_are

pub says_at_most : (old new : Linked) (handle : OutputHandle) (frame : BehindFrame) (frames : List SessionFrame)
    → Says old handle frame frames new → IsAtMost old frame frames
says_at_most old new handle frame frames says =
    at_most old.session old.session new.session handle frame old.session.links (refl {a = old.session}) says.left
    says.answer frames says.sent says.frames_are
