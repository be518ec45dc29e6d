-- What the calls of a session tell, and what they do where they aren't refused for want of memory.
use Rattle.std.specs.Prelude.{◌≡◌, ◌≢◌, ℕ, List, ◌++◌, Option, Some, None, Result, Ok, Err, IsSome, IsOk, ◌<◌, length}
use Rattle.std.specs.Prelude.{⊤}
use Rattle.std.specs.FinMap as map
use Rattle.amqp_session_types.specs.declared.handles.Handle.{Handle}
use Rattle.amqp_session_types.specs.declared.refusals.SessionError.{SessionError}
use Rattle.amqp_session_types.specs.declared.refusals.SessionError.TheVariants.{UnattachedHandle}
use Rattle.amqp_session_types.specs.declared.refusals.SessionError.TheVariants.{RemoteAttachingLinkNameNotFound}
use Rattle.amqp_session_types.specs.declared.refusals.SessionError.TheVariants.{HandleInUse, IllegalState, Memory}
use Rattle.amqp_session_types.specs.declared.channels.IncomingChannel.{IncomingChannel}
use Rattle.amqp_session_types.specs.declared.handles.OutputHandle.{OutputHandle}
use Rattle.amqp_session_performatives.specs.declared.attach.Attach.{Attach}
use Rattle.amqp_session_performatives.specs.declared.begin.Begin.{Begin}
use Rattle.amqp_session_performatives.specs.declared.detach.Detach.{Detach}
use Rattle.amqp_session_performatives.specs.declared.disposition.Disposition.{Disposition}
use Rattle.amqp_session_performatives.specs.declared.flow.Flow.{Flow}
use Rattle.amqp_session_performatives.specs.declared.transfer.Transfer.{Transfer}
use Rattle.amqp_session_performatives.specs.declared.link_flow.LinkFlow.{LinkFlow}
use Rattle.amqp_session_performatives.specs.declared.session_frame.SessionFrame.{SessionFrame}
use Rattle.amqp_session_performatives.specs.declared.session_frame.SessionFrameBody.TheVariants as body
use Rattle.amqp_session_outgoing.specs.Queues.{units_of}
use Rattle.amqp_session_core.specs.declared.incoming.TransferTaken.{TransferTaken}
use Rattle.amqp_session_core.specs.declared.relay.RelayError.{RelayError}
use Rattle.amqp_session_core.specs.declared.relay.RelayError.TheVariants as relay
use Rattle.amqp_session_core.specs.declared.relay.TransferAnswer.{TransferAnswer}
use Rattle.amqp_session_core.specs.declared.batch.BehindFrame.{BehindFrame}
use Rattle.amqp_session_core.specs.Batch.{Transfers}
use Rattle.amqp_session_core.specs.Echoes.{Reach}
use Rattle.amqp_session_core.specs.Frames.{Left, frame_of}
use Rattle.amqp_session_core.specs.Relay.{Relations, session_error}
use Rattle.amqp_session_core.specs.State.{State, link_at, reached}
use Rattle.amqp_session_core.specs.Steps.{Act, Step, Reply, TakesBegin, TakesAttach, SendsBehind, SendsTransfers}
use Rattle.amqp_session_core.specs.Steps.{TakesFlow, SetsWindow, TakesTransfer, TakesDisposition, TakesDetach}
use Rattle.amqp_session_core.specs.Steps.{SendsDisposition, Deallocates}

-- which error a Flow is answered with: what its link refuses it for
abbrev pub flow_answer : Option Handle → Option (ℕ × Result (Option LinkFlow) RelayError) → Result ⊤ SessionError
    → Type 0
flow_answer None told answer = IsOk answer
flow_answer (Some handle) None answer = ⊥
flow_answer (Some handle) (Some (h, Ok flow)) answer = IsOk answer
flow_answer (Some handle) (Some (h, Err e)) answer = (e ≢ relay.Memory) × (answer ≡ Err (session_error e))

module _ {R A T D : Type 0} (gives : Relations R A T D) where
  abbrev Does : State R → Act R A T D → State R → Type 0
  Does = Step gives

  -- the link refused it: the session has the link's reason, which isn't want of memory
  pub record LinkRefuses {X : Type 0} (step : Result X RelayError → Act R A T D) (old : State R) (e : SessionError)
      (new : State R) : Type 0 where
    pub reason : RelayError
    pub other : reason ≢ relay.Memory
    pub told : e ≡ session_error reason
    pub stepped : Does old (step (Err reason)) new

  -- how an Attach is answered
  abbrev pub AttachTaken : State R → ℕ → Attach → Result A SessionError → State R → Type 0
  AttachTaken old handle attach (Ok told) new = Does old (TakesAttach handle attach (Ok told)) new
  AttachTaken old handle attach (Err HandleInUse) new = IsSome (map.get old.routes (attach.handle).0) × (new ≡ old)
  AttachTaken old handle attach (Err RemoteAttachingLinkNameNotFound) new =
      (map.get old.routes (attach.handle).0 ≡ None) × (link_at old handle ≡ None) × (new ≡ old)
  AttachTaken old handle attach (Err Memory) new =
      (map.get old.routes (attach.handle).0 ≡ None) × IsSome (link_at old handle) × (new ≡ old)
  AttachTaken old handle attach (Err e) new = LinkRefuses (TakesAttach handle attach) old e new

  -- the peer's Begin was taken, and this was handed out
  pub record BeginTaken (old : State R) (out : List SessionFrame) (channel : IncomingChannel) (begin : Begin)
      (new : State R) (out_new : List SessionFrame) : Type 0 where
    pub base : ℕ
    pub left : Left
    pub frames : List SessionFrame
    pub added : out_new ≡ out ++ frames
    pub stepped : Does old (TakesBegin channel begin base left frames) new

  -- a Flow with the handle of no link is refused: its window is set, and nothing was handed out
  pub record FlowUnattached (old : State R) (out : List SessionFrame) (flow : Flow) (answer : Result ⊤ SessionError)
      (new : State R) (out_new : List SessionFrame) : Type 0 where
    pub refused : answer ≡ Err UnattachedHandle
    pub base : ℕ
    pub stepped : Does old (SetsWindow flow base) new
    pub same : out_new ≡ out

  -- a Flow was taken, and this was handed out
  pub record FlowTaken (old : State R) (out : List SessionFrame) (flow : Flow) (answer : Result ⊤ SessionError)
      (new : State R) (out_new : List SessionFrame) : Type 0 where
    pub told : Option (ℕ × Result (Option LinkFlow) RelayError)
    pub reply : Reply
    pub base : ℕ
    pub left : Left
    pub frames : List SessionFrame
    pub added : out_new ≡ out ++ frames
    pub answered : flow_answer flow.handle told answer
    pub stepped : Does old (TakesFlow flow told reply base left frames) new

  -- a link took a transfer
  pub record TransferToLink (old : State R) (handle : ℕ) (transfer : Transfer) (payload : List ℕ)
      (taken : TransferTaken T) (new : State R) : Type 0 where
    pub answer : TransferAnswer T
    pub told : taken.told ≡ answer.told
    pub stepped : Does old (TakesTransfer handle transfer payload (Ok answer) taken.flow) new

  -- how a transfer is answered, with the link that it reaches
  abbrev pub TransferAt : State R → Transfer → List ℕ → Option ℕ → Result (TransferTaken T) SessionError → State R
      → Type 0
  TransferAt old transfer payload None (Ok taken) new = ⊥
  TransferAt old transfer payload None (Err e) new = (e ≡ UnattachedHandle) × (new ≡ old)
  TransferAt old transfer payload (Some handle) (Ok taken) new = TransferToLink old handle transfer payload taken new
  TransferAt old transfer payload (Some handle) (Err Memory) new = new ≡ old
  TransferAt old transfer payload (Some handle) (Err e) new =
      LinkRefuses (λ told. TakesTransfer handle transfer payload told None) old e new

  abbrev pub TransferAnswered : State R → Transfer → List ℕ → Result (TransferTaken T) SessionError → State R → Type 0
  TransferAnswered old transfer payload answer new =
      TransferAt old transfer payload (reached old (transfer.handle).0) answer new

  -- how a Detach is answered, with the link that it reaches
  abbrev pub DetachAt : State R → Detach → Option ℕ → Result D SessionError → State R → Type 0
  DetachAt old detach None (Ok told) new = ⊥
  DetachAt old detach None (Err e) new = (e ≡ UnattachedHandle) × (new ≡ old)
  DetachAt old detach (Some handle) (Ok told) new = Does old (TakesDetach handle detach (Ok told)) new
  DetachAt old detach (Some handle) (Err Memory) new = new ≡ old
  DetachAt old detach (Some handle) (Err e) new = LinkRefuses (TakesDetach handle detach) old e new

  abbrev pub DetachTaken : State R → Detach → Result D SessionError → State R → Type 0
  DetachTaken old detach answer new = DetachAt old detach (reached old (detach.handle).0) answer new

  -- a disposition was taken, and is answered with these
  pub record DispositionTaken (old : State R) (disposition : Disposition) (echoes : List Disposition)
      (new : State R) : Type 0 where
    pub walk : List Reach
    pub stepped : Does old (TakesDisposition disposition walk echoes) new

  -- a disposition was sent
  pub record DispositionSent (old : State R) (disposition : Disposition) (frame : SessionFrame) (new : State R) : Type
      0 where
    pub says : frame ≡ frame_of old.fields (body.Disposition disposition)
    pub numbers : List ℕ
    pub stepped : Does old (SendsDisposition disposition numbers) new

  -- a Flow or a Detach of a link was sent: it leaves at once, or waits
  pub record BehindSent (old : State R) (handle : OutputHandle) (frame : BehindFrame) (answer : Option SessionFrame)
      (new : State R) : Type 0 where
    pub left : Option BehindFrame
    pub stepped : Does old (SendsBehind handle frame left answer) new

  -- a batch was accepted, and this was handed out
  pub record TransfersSent (old : State R) (out : List SessionFrame) (handle : OutputHandle) (batch : Transfers)
      (new : State R) (out_new : List SessionFrame) : Type 0 where
    pub left : Left
    pub frames : List SessionFrame
    pub added : out_new ≡ out ++ frames
    pub stepped : Does old (SendsTransfers handle batch left frames) new

  -- how an own handle is taken back: where no link has it, or something of its link waits, nothing changes
  abbrev pub Deallocated : State R → ℕ → Result (Option R) SessionError → State R → Type 0
  Deallocated old handle (Ok None) new = (link_at old handle ≡ None) × (new ≡ old)
  Deallocated old handle (Ok (Some link)) new = (link_at old handle ≡ Some link) × Does old (Deallocates handle) new
  Deallocated old handle (Err e) new =
      (e ≡ IllegalState) × IsSome (link_at old handle) × (0 < length (units_of handle (old.outgoing).queues))
      × (new ≡ old)
