-- What a session hands out is read as it comes to its peer.
use Rattle.std.proofs.Common.{◌≡◌, ◌==◌, ℕ, false, List, [], ◌∷◌, ◌++◌, ap, append_assoc, refl, sym, ◌∙◌}
use Rattle.amqp_session_performatives.specs.declared.attach.Attach.{Attach}
use Rattle.amqp_session_performatives.specs.declared.session_frame.SessionFrame.{SessionFrame}
use Rattle.amqp_session_performatives.specs.declared.session_frame.SessionFrameBody.{SessionFrameBody}
use Rattle.amqp_session_performatives.specs.declared.session_frame.SessionFrameBody.TheVariants as session
use Rattle.amqp_session_frames.specs.declared.frame.FrameBody.{FrameBody}
use Rattle.amqp_link_base.specs.Readings.{Piece}
use Rattle.amqp_endpoint_model.specs.State.{body_of}
use Rattle.amqp_endpoint_laws.specs.Attachments.{attach_in, attaches_in, bodies_of}
use Rattle.amqp_endpoint_laws.specs.Handed.{piece_on as come_on, pieces_come}
use Rattle.amqp_endpoint_laws.specs.Queued.{piece_on, pieces_on}
use Rattle.amqp_endpoint_laws.specs.Taken.{NoneAttaches}

pub attaches-both : (first later : List SessionFrame)
    → attaches_in (first ++ later) ≡ attaches_in first ++ attaches_in later
attaches-both [] later = refl
attaches-both (frame ∷ first) later =
    ap (λ (xs : List Attach). attach_in frame.body ++ xs) (attaches-both first later)
    ∙ sym (append_assoc (attach_in frame.body) (attaches_in first) (attaches_in later))

-- none of these takes the handle
abbrev pub NoneTakes : ℕ → List Attach → Type 0
NoneTakes handle [] = Unit {0}
NoneTakes handle (attach ∷ attaches) = ((attach.handle.0 == handle) ≡ false) × NoneTakes handle attaches

pub none-both : (handle : ℕ) (first later : List Attach) → NoneTakes handle first → NoneTakes handle later
    → NoneTakes handle (first ++ later)
none-both handle [] later none more = more
none-both handle (attach ∷ first) later (one, none) more = (one, none-both handle first later none more)

pub bodies-both : (first later : List SessionFrame) → bodies_of (first ++ later) ≡ bodies_of first ++ bodies_of later
bodies-both [] later = refl
bodies-both (frame ∷ first) later =
    ap (λ (xs : List FrameBody). body_of frame.body ∷ xs) (bodies-both first later)

-- none takes it at the peer either
module _ (handle : ℕ) where
  one-comes : (it : SessionFrameBody) (frames : List SessionFrame) → NoneTakes handle (attach_in it ++ attaches_in frames)
      → (NoneTakes handle (attaches_in frames) → NoneAttaches handle (bodies_of frames))
      → NoneAttaches handle (body_of it ∷ bodies_of frames)
  one-comes (session.Attach attach) frames (one, none) rest = (one, rest none)
  one-comes (session.Begin begin) frames none rest = (tt, rest none)
  one-comes (session.Flow flow) frames none rest = (tt, rest none)
  one-comes (session.Transfer transfer payload) frames none rest = (tt, rest none)
  one-comes (session.Disposition disposition) frames none rest = (tt, rest none)
  one-comes (session.Detach detach) frames none rest = (tt, rest none)
  one-comes (session.End end) frames none rest = (tt, rest none)

  pub none-comes : (frames : List SessionFrame) → NoneTakes handle (attaches_in frames)
      → NoneAttaches handle (bodies_of frames)
  none-comes [] none = tt
  none-comes (frame ∷ frames) none = one-comes frame.body frames none (none-comes frames)

  -- its transfers come on the handle on which they are sent
  on-alike : (it : SessionFrameBody) → come_on handle (body_of it) ≡ piece_on handle it
  on-alike (session.Begin begin) = refl
  on-alike (session.Attach attach) = refl
  on-alike (session.Flow flow) = refl
  on-alike (session.Transfer transfer payload) = refl
  on-alike (session.Disposition disposition) = refl
  on-alike (session.Detach detach) = refl
  on-alike (session.End end) = refl

  pub pieces-alike : (frames : List SessionFrame) → pieces_come handle (bodies_of frames) ≡ pieces_on handle frames
  pieces-alike [] = refl
  pieces-alike (frame ∷ frames) =
      ap (λ (ps : List Piece). ps ++ pieces_come handle (bodies_of frames)) (on-alike frame.body)
      ∙ ap (λ (ps : List Piece). piece_on handle frame.body ++ ps) (pieces-alike frames)
