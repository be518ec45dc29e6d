-- What was kept of a Flow for a link that the peer asked for, as the link takes it that answers it: part 2, 2.7.4.
use Rattle.std.specs.Prelude.{◌≡◌, ℕ, List, ◌++◌, Option, Some, None, option_to_list}
use Rattle.amqp_session_types.specs.declared.handles.OutputHandle.{OutputHandle}
use Rattle.amqp_session_performatives.specs.declared.link_flow.LinkFlow.{LinkFlow}
use Rattle.amqp_session_performatives.specs.declared.session_frame.SessionFrame.{SessionFrame}
use Rattle.amqp_session_core.specs.declared.batch.BehindFrame.TheVariants as behind
use Rattle.amqp_session_core.specs.Relay.{Relations}
use Rattle.amqp_session_core.specs.State.{State}
use Rattle.amqp_session_core.specs.Steps.{Changes, Step}
use Rattle.amqp_session_core.specs.Told.{BehindSent}
use Rattle.amqp_link.specs.Ends.{flow_answer, flowed}
use Rattle.amqp_link.specs.declared.end.End.{End}
use Rattle.amqp_endpoint_attached.specs.Linked.{Linked, LinksIn, gives}
use Rattle.amqp_endpoint_attached.specs.Links.{with_number}

module _ {R A T D : Type 0} (given : Relations R A T D) where
  -- a link sends a Flow, which leaves at once where nothing of the link waits
  pub record SendsFlow (handle : OutputHandle) (flow : LinkFlow) (old : State R) (out : List SessionFrame)
      (new : State R) (out_new : List SessionFrame) : Type 0 where
    pub frame : Option SessionFrame
    pub sent : BehindSent given old handle (behind.Flow (record flow { handle = record { 0 = handle.0 } })) frame new
    pub handed : out_new ≡ out ++ option_to_list frame

  -- a link replies with a Flow, or with none
  abbrev pub Replies : OutputHandle → Option LinkFlow → State R → List SessionFrame → State R → List SessionFrame
      → Type 0
  Replies handle None old out new out_new = (new ≡ old) × (out_new ≡ out)
  Replies handle (Some flow) old out new out_new = SendsFlow handle flow old out new out_new

-- the link of a session with this handle takes a Flow, and this is its reply, if it replies
pub record TakesBy (handle : OutputHandle) (flow : LinkFlow) (reply : Option LinkFlow) (old new : LinksIn) : Type 0
  where
    pub number : ℕ
    pub before : End
    pub is : reply ≡ flow_answer before flow
    pub changed :
        Step gives old (Changes handle.0 (with_number number before) (with_number number (flowed before flow))) new

-- which is sent
pub record TakesFlow (handle : OutputHandle) (flow : LinkFlow) (old : LinksIn) (out : List SessionFrame)
    (new : LinksIn) (out_new : List SessionFrame) : Type 0 where
  pub reply : Option LinkFlow
  pub mid : LinksIn
  pub takes : TakesBy handle flow reply old mid
  pub replies : Replies gives handle reply mid out new out_new

-- it takes what was kept of one, if one came
abbrev pub KeptIn : OutputHandle → Option LinkFlow → LinksIn → List SessionFrame → LinksIn → List SessionFrame → Type 0
KeptIn handle None old out new out_new = (new ≡ old) × (out_new ≡ out)
KeptIn handle (Some flow) old out new out_new = TakesFlow handle flow old out new out_new

-- and nothing else of the session changes
pub record TakesKept (handle : OutputHandle) (kept : Option LinkFlow) (old : Linked) (out : List SessionFrame)
    (new : Linked) (out_new : List SessionFrame) : Type 0 where
  pub takes : KeptIn handle kept old.session out new.session out_new
  pub rest : new ≡ record old { session = new.session }
