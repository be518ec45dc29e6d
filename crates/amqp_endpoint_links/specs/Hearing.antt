-- What a peer says in a session, and what comes of it (part 2, 2.5.6, 2.6.3 to 2.6.6, 2.7).
use Rattle.std.specs.Prelude.{◌≡◌, ℕ, List, Bool, true, false, Result, Ok, Err, map, ⊤}
use Rattle.amqp_session_types.specs.declared.refusals.SessionError.{SessionError}
use Rattle.amqp_session_types.specs.declared.refusals.SessionError.TheVariants.{UnattachedHandle, HandleInUse}
use Rattle.amqp_session_types.specs.declared.refusals.SessionError.TheVariants.{IllegalState, Memory}
use Rattle.amqp_session_performatives.specs.declared.attach.Attach.{Attach as AttachFrame}
use Rattle.amqp_session_performatives.specs.declared.detach.Detach.{Detach as DetachFrame}
use Rattle.amqp_session_performatives.specs.declared.disposition.Disposition.{Disposition as DispositionFrame}
use Rattle.amqp_session_performatives.specs.declared.flow.Flow.{Flow as FlowFrame}
use Rattle.amqp_session_performatives.specs.declared.session_frame.SessionFrame.{SessionFrame}
use Rattle.amqp_session_performatives.specs.declared.transfer.Transfer.{Transfer as TransferFrame}
use Rattle.amqp_session_core.specs.Echoes.{echo_of}
use Rattle.amqp_session_core.specs.Relay.{Relations}
use Rattle.amqp_session_core.specs.Told.{DispositionTaken, TransferAnswered}
use Rattle.amqp_endpoint_links.specs.declared.links.AskRefusal.TheVariants as ask
use Rattle.amqp_endpoint_links.specs.declared.session.AskedSession.{AskedSession}
use Rattle.amqp_endpoint_links.specs.AskedSession as wanted
use Rattle.amqp_endpoint_links.specs.declared.asking.AskingSession.{AskingSession}
use Rattle.amqp_endpoint_links.specs.declared.asking.NamedLink.{NamedLink}
use Rattle.amqp_endpoint_links.specs.declared.hearing.LinkPerformative.{LinkPerformative}
use Rattle.amqp_endpoint_links.specs.declared.hearing.LinkPerformative.TheVariants.{Attach, Flow, Transfer, Disposition}
use Rattle.amqp_endpoint_links.specs.declared.hearing.LinkPerformative.TheVariants.{Detach}
use Rattle.amqp_endpoint_links.specs.declared.hearing.PerformativeTaken.{PerformativeTaken}
use Rattle.amqp_endpoint_links.specs.declared.hearing.PerformativeTaken.TheVariants as taken
use Rattle.amqp_endpoint_links.specs.Asking.{AttachAnswered, DetachAnswered, FlowAnswered}

-- what waits for the peer's window stays, and so does the room for more
pub record KeepsWaiting {R : Type 0} (old new : AskingSession R) : Type 0 where
  pub queues : ((new.session).outgoing).queues ≡ ((old.session).outgoing).queues
  pub room : ((new.session).outgoing).room ≡ ((old.session).outgoing).room

-- the peer says a Flow
abbrev pub says_flow : LinkPerformative → Bool
says_flow (Flow flow) = true
says_flow said = false

module _ {R A T D : Type 0} (gives : Relations R A T D) where
  -- an Attach is taken, or refused
  abbrev pub HearsAttach : AskingSession R → AttachFrame → NamedLink → Result (PerformativeTaken A T D) SessionError
      → AskingSession R → Type 0
  HearsAttach old attach named (Ok (taken.Attach told)) new = AttachAnswered gives old attach named (Ok told) new
  HearsAttach old attach named (Ok other) new = ⊥
  HearsAttach old attach named (Err e) new = AttachAnswered gives old attach named (Err e) new

  -- a Flow is taken, or refused, and this was handed out
  abbrev pub HearsFlow : AskingSession R → List SessionFrame → FlowFrame → Result (PerformativeTaken A T D) SessionError
      → AskingSession R → List SessionFrame → Type 0
  HearsFlow old out flow (Ok taken.Flow) new out_new = FlowAnswered gives old out flow (Ok tt) new out_new
  HearsFlow old out flow (Ok other) new out_new = ⊥
  HearsFlow old out flow (Err e) new out_new = FlowAnswered gives old out flow (Err e) new out_new

  -- a transfer is taken, or refused: that of an asked link is, as no link has its handle
  abbrev pub HearsTransfer : AskingSession R → TransferFrame → List ℕ → Result (PerformativeTaken A T D) SessionError
      → AskingSession R → Type 0
  HearsTransfer old transfer payload (Ok (taken.Transfer told)) new =
      TransferAnswered gives old.session transfer payload (Ok told) new.session
      × (new ≡ record old { session = new.session })
  HearsTransfer old transfer payload (Ok other) new = ⊥
  HearsTransfer old transfer payload (Err e) new =
      TransferAnswered gives old.session transfer payload (Err e) new.session
      × (new ≡ record old { session = new.session })

  -- a disposition is taken, and comes back with the runs that are to be echoed. It is refused for want of memory alone
  abbrev pub HearsDisposition : AskingSession R → DispositionFrame → Result (PerformativeTaken A T D) SessionError
      → AskingSession R → Type 0
  HearsDisposition old disposition (Ok (taken.Disposition back runs)) new =
      (back ≡ disposition)
      × DispositionTaken gives old.session disposition (map (echo_of disposition) runs.items) new.session
      × (new ≡ record old { session = new.session })
  HearsDisposition old disposition (Ok other) new = ⊥
  HearsDisposition old disposition (Err e) new = (e ≡ Memory) × (new ≡ old)

  -- a Detach is taken, or refused
  abbrev pub HearsDetach : AskingSession R → DetachFrame → Result (PerformativeTaken A T D) SessionError
      → AskingSession R → Type 0
  HearsDetach old detach (Ok (taken.Detach told)) new = DetachAnswered gives old detach (Ok told) new
  HearsDetach old detach (Ok other) new = ⊥
  HearsDetach old detach (Err e) new = DetachAnswered gives old detach (Err e) new

  -- how a session answers what the peer says in it. Nothing but a Flow has frames leave
  abbrev pub Hears : AskingSession R → List SessionFrame → LinkPerformative
      → Result (PerformativeTaken A T D) SessionError → AskingSession R → List SessionFrame → Type 0
  Hears old out (Attach attach named) result new out_new = HearsAttach old attach named result new × (out_new ≡ out)
  Hears old out (Flow flow) result new out_new = HearsFlow old out flow result new out_new
  Hears old out (Transfer transfer payload) result new out_new =
      HearsTransfer old transfer payload result new × (out_new ≡ out)
  Hears old out (Disposition disposition) result new out_new =
      HearsDisposition old disposition result new × (out_new ≡ out)
  Hears old out (Detach detach) result new out_new = HearsDetach old detach result new × (out_new ≡ out)

-- an Attach asks for a link in a session that is asked for itself, or is refused
abbrev pub AsksInAsked : AskedSession → AttachFrame → Result ⊤ SessionError → AskedSession → Type 0
AsksInAsked old attach (Ok done) new = wanted.AttachAnswered old attach (Ok tt) new
AsksInAsked old attach (Err HandleInUse) new = wanted.AttachAnswered old attach (Err ask.HandleInUse) new
AsksInAsked old attach (Err IllegalState) new = wanted.AttachAnswered old attach (Err ask.NameInUse) new
AsksInAsked old attach (Err Memory) new = wanted.AttachAnswered old attach (Err ask.Memory) new
AsksInAsked old attach (Err e) new = ⊥

-- how a session that the peer asks for answers what the peer says in it: no link in it has a handle yet
abbrev pub HearsAsked : AskedSession → LinkPerformative → Result ⊤ SessionError → AskedSession → Type 0
HearsAsked old (Attach attach named) result new = AsksInAsked old attach result new
HearsAsked old (Flow flow) result new = wanted.FlowAnswered old flow result new
HearsAsked old (Transfer transfer payload) result new = (result ≡ Err UnattachedHandle) × (new ≡ old)
HearsAsked old (Disposition disposition) result new = (result ≡ Err UnattachedHandle) × (new ≡ old)
HearsAsked old (Detach detach) result new = wanted.DetachAnswered old detach result new
