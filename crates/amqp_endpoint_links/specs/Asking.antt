-- A session with the links that its peer asks for in it (part 2, 2.6.3).
use Rattle.std.specs.Prelude.{◌≡◌, ℕ, List, Bool, true, false, Result, Ok, Err, is_some, ⊤, if◌then◌else◌}
use Rattle.std.specs.FinMap as map
use Rattle.amqp_session_types.specs.declared.refusals.SessionError.{SessionError}
use Rattle.amqp_session_types.specs.declared.refusals.SessionError.TheVariants as session
use Rattle.amqp_session_performatives.specs.declared.attach.Attach.{Attach}
use Rattle.amqp_session_performatives.specs.declared.detach.Detach.{Detach}
use Rattle.amqp_session_performatives.specs.declared.flow.Flow.{Flow}
use Rattle.amqp_session_performatives.specs.declared.session_frame.SessionFrame.{SessionFrame}
use Rattle.amqp_session_core.specs.Relay.{Relations}
use Rattle.amqp_session_core.specs.State.{State, leads, reached}
use Rattle.amqp_session_core.specs.Told.{AttachTaken as SessionAttached, DetachTaken as SessionDetached}
use Rattle.amqp_session_core.specs.Told.{FlowTaken, FlowUnattached}
use Rattle.amqp_endpoint_links.specs.declared.links.AskRefusal.{AskRefusal}
use Rattle.amqp_endpoint_links.specs.declared.links.AskRefusal.TheVariants as ask
use Rattle.amqp_endpoint_links.specs.Asked.{Asked, Asks, is_asked, told_of}
use Rattle.amqp_endpoint_links.specs.AskedSession.{session_part}
use Rattle.amqp_endpoint_links.specs.declared.asking.AskingSession.{AskingSession}
use Rattle.amqp_endpoint_links.specs.declared.asking.NamedLink.{NamedLink}
use Rattle.amqp_endpoint_links.specs.declared.asking.NamedLink.TheVariants.{Absent, Waiting, Attached}
use Rattle.amqp_endpoint_links.specs.declared.asking.AttachTaken.{AttachTaken}
use Rattle.amqp_endpoint_links.specs.declared.asking.AttachTaken.TheVariants as attach
use Rattle.amqp_endpoint_links.specs.declared.asking.DetachTaken.{DetachTaken}
use Rattle.amqp_endpoint_links.specs.declared.asking.DetachTaken.TheVariants as detach

-- how an Attach is answered that no link takes
abbrev pub asked_answer : {A : Type 0} → Result ⊤ AskRefusal → Result (AttachTaken A) SessionError
asked_answer (Ok done) = Ok attach.Asked
asked_answer (Err ask.HandleInUse) = Err session.HandleInUse
asked_answer (Err ask.NameInUse) = Err session.IllegalState
asked_answer (Err ask.Memory) = Err session.Memory

-- the peer asks for a link
pub record AsksFor {A : Type 0} (old : Asked) (attach : Attach) (result : Result (AttachTaken A) SessionError)
    (new : Asked)
    : Type 0 where
  pub told : Result ⊤ AskRefusal
  pub asks : Asks old attach told new
  pub answer : result ≡ asked_answer told

-- what a link tells, or the session's refusal
abbrev pub by_link : {A : Type 0} → Result A SessionError → Result (AttachTaken A) SessionError
by_link (Ok told) = Ok (attach.ByLink told)
by_link (Err e) = Err e

abbrev pub detached_by : {D : Type 0} → Result D SessionError → Result (DetachTaken D) SessionError
detached_by (Ok told) = Ok (detach.ByLink told)
detached_by (Err e) = Err e

module _ {R : Type 0} where
  -- a link, or an asked link, has this handle of the peer's
  abbrev pub in_use : AskingSession R → ℕ → Bool
  in_use s handle = if is_some (map.get s.asked handle) then true else is_some (reached s.session handle)

module _ {R A T D : Type 0} (gives : Relations R A T D) where
  -- the link with this own handle waited for an Attach
  pub record ByLink (old : AskingSession R) (handle : ℕ) (attach : Attach)
      (result : Result (AttachTaken A) SessionError) (new : AskingSession R) : Type 0 where
    pub told : Result A SessionError
    pub taken : SessionAttached gives old.session handle attach told new.session
    pub answer : result ≡ by_link told
    pub rest : new ≡ record old { session = new.session }

  -- how an Attach is answered, with whether its handle is in use
  abbrev pub AttachAt : Bool → AskingSession R → Attach → NamedLink → Result (AttachTaken A) SessionError
      → AskingSession R → Type 0
  AttachAt true old attach named result new = (result ≡ Err session.HandleInUse) × (new ≡ old)
  AttachAt false old attach Attached result new = (result ≡ Err session.IllegalState) × (new ≡ old)
  AttachAt false old attach (Waiting handle) result new = ByLink old handle.0 attach result new
  AttachAt false old attach Absent result new =
      AsksFor old.asked attach result new.asked × (new ≡ record old { asked = new.asked })

  abbrev pub AttachAnswered : AskingSession R → Attach → NamedLink → Result (AttachTaken A) SessionError
      → AskingSession R → Type 0
  AttachAnswered old attach named result new = AttachAt (in_use old (attach.handle).0) old attach named result new

  -- how the session takes a Flow that is no asked link's
  abbrev pub FlowInSession : Bool → State R → List SessionFrame → Flow → Result ⊤ SessionError
      → State R → List SessionFrame → Type 0
  FlowInSession false old out flow result new out_new = FlowUnattached gives old out flow result new out_new
  FlowInSession true old out flow (Err session.Memory) new out_new = (new ≡ old) × (out_new ≡ out)
  FlowInSession true old out flow result new out_new = FlowTaken gives old out flow result new out_new

  -- how a Flow is answered, with whether it is an asked link's
  abbrev pub FlowAt : Bool → AskingSession R → List SessionFrame → Flow → Result ⊤ SessionError
      → AskingSession R → List SessionFrame → Type 0
  FlowAt false old out flow result new out_new =
      FlowInSession (leads old.session flow.handle) old.session out flow result new.session out_new
      × (new ≡ record old { session = new.session })
  FlowAt true old out flow (Ok done) new out_new =
      FlowTaken gives old.session out (session_part flow) (Ok done) new.session out_new
      × (new ≡ record old { session = new.session; asked = told_of old.asked flow flow.handle })
  FlowAt true old out flow (Err e) new out_new = (e ≡ session.Memory) × (new ≡ old) × (out_new ≡ out)

  abbrev pub FlowAnswered : AskingSession R → List SessionFrame → Flow → Result ⊤ SessionError
      → AskingSession R → List SessionFrame → Type 0
  FlowAnswered old out flow result new out_new = FlowAt (is_asked old.asked flow.handle) old out flow result new out_new

  -- the session takes a Detach
  pub record DetachInSession (old : AskingSession R) (detach : Detach)
      (result : Result (DetachTaken D) SessionError) (new : AskingSession R) : Type 0 where
    pub told : Result D SessionError
    pub taken : SessionDetached gives old.session detach told new.session
    pub answer : result ≡ detached_by told
    pub rest : new ≡ record old { session = new.session }

  -- how a Detach is answered, with whether it is an asked link's
  abbrev pub DetachAt : Bool → AskingSession R → Detach → Result (DetachTaken D) SessionError → AskingSession R → Type 0
  DetachAt true old d result new =
      (result ≡ Ok detach.Withdrawn) × (new ≡ record old { asked = map.remove old.asked (d.handle).0 })
  DetachAt false old d result new = DetachInSession old d result new

  abbrev pub DetachAnswered : AskingSession R → Detach → Result (DetachTaken D) SessionError → AskingSession R → Type 0
  DetachAnswered old d result new = DetachAt (is_some (map.get old.asked (d.handle).0)) old d result new
