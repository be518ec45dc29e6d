-- How messages of an endpoint's links are disposed of, by their numbers: part 2, 2.6.12, 2.7.6 and 2.8.3.
use Rattle.std.specs.Prelude.{◌≡◌, ℕ, List, [], ◌∷◌, Some}
use Rattle.amqp_session_performatives.specs.declared.session_frame.SessionFrame.{SessionFrame}
use Rattle.amqp_endpoint_model.specs.declared.call.Disposal.{Disposal}
use Rattle.amqp_endpoint_attached.specs.Linked.{Linked, end_at}
use Rattle.amqp_session_types.specs.declared.handles.OutputHandle.{OutputHandle}
use Rattle.amqp_endpoint_messages.specs.Disposing.{DisposesOfAll, DisposesOfOne}
use Rattle.amqp_endpoint_messages.specs.Dispositions.{IsDisposed}
use Rattle.amqp_endpoint_link_calls.specs.Calling.{Does, DoneAt}
use Rattle.amqp_endpoint_link_calls.specs.Places.{LinkTalk, Where}
use Rattle.amqp_endpoint_link_calls.specs.Keeping.{kept_tag, kept_tags}

-- deliveries are disposed of by a link of a session: the Dispositions that tell it are handed out
abbrev pub disposes_of_tags : ℕ → List (List ℕ) → Disposal → Does
disposes_of_tags limit tags disposal handle before frames after =
    IsDisposed (DisposesOfAll handle tags disposal.state disposal.settled) limit before [] after frames

-- so are the deliveries that the link keeps under these numbers
abbrev pub disposes_of_all : ℕ → List ℕ → Disposal → Does
disposes_of_all limit messages disposal handle before frames after =
    disposes_of_tags limit (kept_tags (end_at before handle) messages) disposal handle before frames after

-- one is, whose Disposition says no last number
abbrev pub disposes_of_tag : ℕ → List ℕ → Disposal → Does
disposes_of_tag limit tag disposal handle before frames after =
    IsDisposed (DisposesOfOne handle tag disposal.state disposal.settled) limit before [] after frames

-- so is the delivery that the link keeps under this number
pub record DisposesOfMessage (limit message : ℕ) (disposal : Disposal) (handle : OutputHandle) (before : Linked)
    (frames : List SessionFrame) (after : Linked) : Type 0 where
  pub tag : List ℕ
  pub is_kept : kept_tag (end_at before handle) message ≡ Some tag
  pub disposed : disposes_of_tag limit tag disposal handle before frames after

abbrev pub disposes_of_one : ℕ → ℕ → Disposal → Does
disposes_of_one limit message disposal handle before frames after =
    DisposesOfMessage limit message disposal handle before frames after

-- the messages are disposed of where a session holds their link; of no messages nothing comes
abbrev pub DisposedAt : ℕ → Where → List ℕ → Disposal → LinkTalk → List SessionFrame → LinkTalk → List SessionFrame
    → Type 0
DisposedAt limit place [] disposal old out new out_new = (new ≡ old) × (out_new ≡ out)
DisposedAt limit place (message ∷ messages) disposal old out new out_new =
    DoneAt (disposes_of_all limit (message ∷ messages) disposal) place old out new out_new

-- one is
abbrev pub DisposedOneAt : ℕ → Where → ℕ → Disposal → LinkTalk → List SessionFrame → LinkTalk → List SessionFrame
    → Type 0
DisposedOneAt limit place message disposal old out new out_new =
    DoneAt (disposes_of_one limit message disposal) place old out new out_new
