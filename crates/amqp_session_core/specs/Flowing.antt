-- How a session takes a Flow, part by part.
use Rattle.std.specs.Prelude.{◌≡◌, ◌≢◌, ℕ, ◌++◌, Bool, List, Option, Some, None, Result, Ok, Err, IsOk, ◌≤◌, ⊤}
use Rattle.std.specs.Prelude.{if◌then◌else◌}
use Rattle.std.specs.FinMap as map
use Rattle.amqp_session_types.specs.declared.handles.Handle.{Handle}
use Rattle.amqp_session_types.specs.declared.refusals.SessionError.{SessionError}
use Rattle.amqp_session_types.specs.declared.refusals.SessionError.TheVariants as session
use Rattle.amqp_session_performatives.specs.declared.flow.Flow.{Flow}
use Rattle.amqp_session_performatives.specs.declared.link_flow.LinkFlow.{LinkFlow}
use Rattle.amqp_session_performatives.specs.declared.session_frame.SessionFrame.{SessionFrame}
use Rattle.amqp_session_outgoing.specs.Queues.{room_behind}
use Rattle.amqp_session_outgoing.specs.History as sending_history
use Rattle.amqp_session_outgoing.specs.State as sending
use Rattle.amqp_session_core.specs.declared.batch.TransferFrame.{TransferFrame}
use Rattle.amqp_session_core.specs.declared.batch.BehindFrame.{BehindFrame}
use Rattle.amqp_session_core.specs.declared.fields.SessionFields.{SessionFields}
use Rattle.amqp_session_core.specs.declared.flows.Answer.{Answer}
use Rattle.amqp_session_core.specs.declared.flows.Answer.TheVariants as answer
use Rattle.amqp_session_core.specs.declared.relay.RelayError.{RelayError}
use Rattle.amqp_session_core.specs.declared.relay.RelayError.TheVariants as relay
use Rattle.amqp_session_core.specs.Relay.{Relations, session_error}
use Rattle.amqp_session_core.specs.Frames.{Left, frames_left, has_flow}
use Rattle.amqp_session_core.specs.Steps.{Reply, NoReply, OfSession, OfLink, Replies, reply_frames, FlowAt}
use Rattle.amqp_session_core.specs.Tables.{RouteTable}
use Rattle.amqp_session_core.specs.State.{StepsAt, live_in}

abbrev pub Sending : Type 0
Sending = sending.State TransferFrame BehindFrame

abbrev pub Told : Type 0
Told = Option (ℕ × Result (Option LinkFlow) RelayError)

-- what a Flow is answered with, once its link told what it takes
abbrev pub AnswersFlow : Sending → ℕ → Result (Option LinkFlow) RelayError → Result Answer SessionError → Type 0
AnswersFlow out h (Err e) result = (e ≢ relay.Memory) × (result ≡ Err (session_error e))
AnswersFlow out h (Ok None) result = result ≡ Ok answer.Nothing
AnswersFlow out h (Ok (Some f)) result =
    result ≡ Ok (answer.OfLink (record { 0 = h }) (record f { handle = record { 0 = h } }))

abbrev pub IsAnsweredBy : Sending → Flow → Option Handle → Told → Result Answer SessionError → Type 0
IsAnsweredBy out flow None told result = result ≡ Ok (if flow.echo then answer.OfSession else answer.Nothing)
IsAnsweredBy out flow (Some handle) None result = result ≡ Err session.UnattachedHandle
IsAnsweredBy out flow (Some handle) (Some (h, said)) result = AnswersFlow out h said result

module _ {R A T D : Type 0} (gives : Relations R A T D) where
  -- which link takes a Flow, if one is reached, and what it tells
  abbrev pub FlowsTo : List (Option R) → RouteTable → Flow → Option Handle → Told → List (Option R) → Type 0
  FlowsTo old routes flow (Some handle) None new = (live_in old (map.get routes handle.0) ≡ None) × (new ≡ old)
  FlowsTo old routes flow handle told new = FlowAt gives old routes flow handle told new

  -- a link took a Flow, and this is the answer
  pub record LinkFlowed (out : Sending) (routes : RouteTable) (flow : Flow) (old : List (Option R))
      (result : Result Answer SessionError) (new : List (Option R)) : Type 0 where
    pub told : Told
    pub link : FlowsTo old routes flow flow.handle told new
    pub answered : IsAnsweredBy out flow flow.handle told result

-- a link took a Flow at the handle that it reaches, and this is the answer
abbrev pub FlowedAt : {R : Type 0} → (R → LinkFlow → Result (Option LinkFlow) RelayError → R → Type 0) → Sending
    → LinkFlow → Option ℕ → List (Option R) → Result Answer SessionError → List (Option R) → Type 0
FlowedAt gives out flow None old result new = (result ≡ Err session.UnattachedHandle) × (new ≡ old)
FlowedAt gives out flow (Some h) old result new =
    (told : Result (Option LinkFlow) RelayError) × StepsAt (λ before after. gives before flow told after) old h new
    × AnswersFlow out h told result

-- the reply of an answer
abbrev pub IsReplyOf : Result Answer SessionError → Reply → Type 0
IsReplyOf (Err e) reply = reply ≡ NoReply
IsReplyOf (Ok answer.Nothing) reply = reply ≡ NoReply
IsReplyOf (Ok answer.OfSession) reply = reply ≡ OfSession
IsReplyOf (Ok (answer.OfLink handle flow)) NoReply = ⊥
IsReplyOf (Ok (answer.OfLink handle flow)) OfSession = ⊥
IsReplyOf (Ok (answer.OfLink handle flow)) (OfLink h g left) = (h ≡ handle) × (g ≡ flow)

-- a reply was handed out, or waits
pub record Replied (fields : SessionFields) (old : Sending) (out : List SessionFrame)
    (result : Result Answer SessionError) (flows : Bool) (new : Sending) (out_new : List SessionFrame) : Type 0 where
  pub reply : Reply
  pub is : IsReplyOf result reply
  pub replied : Replies old reply new
  pub added : out_new ≡ out ++ reply_frames fields old.next_outgoing_id reply
  pub flows_is : flows ≡ has_flow (reply_frames fields old.next_outgoing_id reply)

-- a place has room for an answer behind what its link has waiting
abbrev pub HasPlace : Sending → Result Answer SessionError → ℕ → Type 0
HasPlace out (Err e) place = Unit {0}
HasPlace out (Ok answer.Nothing) place = Unit {0}
HasPlace out (Ok answer.OfSession) place = Unit {0}
HasPlace out (Ok (answer.OfLink handle flow)) place = room_behind handle.0 1 out.queues ≤ place

-- how many frames an answer is
abbrev pub answer_count : Result Answer SessionError → ℕ
answer_count (Err e) = 0
answer_count (Ok answer.Nothing) = 0
answer_count (Ok answer.OfSession) = 1
answer_count (Ok (answer.OfLink handle flow)) = 1

-- the refusal stays
abbrev pub SameRefusal : Result Answer SessionError → Result ⊤ SessionError → Type 0
SameRefusal (Ok answer) result = IsOk result
SameRefusal (Err e) result = result ≡ Err e

-- a window was taken, and what left was handed out
pub record HandsOut (fields : SessionFields) (step : Left → sending_history.Act TransferFrame BehindFrame)
    (old : Sending) (out : List SessionFrame) (flows : Bool) (new : Sending) (out_new : List SessionFrame) : Type 0
  where
    pub left : Left
    pub window : sending_history.Step old (step left) new
    pub added : out_new ≡ out ++ frames_left fields left
    pub flows_is : flows ≡ has_flow (frames_left fields left)

abbrev pub OpensWindow : SessionFields → Sending → List SessionFrame → Option ℕ → ℕ → Bool → Sending → List SessionFrame
    → Type 0
OpensWindow fields old out base width flows new out_new =
    HandsOut fields (sending_history.TakesWindow (sending.base_of old base) width) old out flows new out_new

abbrev pub OpensByBegin : SessionFields → Sending → List SessionFrame → ℕ → Bool → Sending → List SessionFrame → Type 0
OpensByBegin fields old out width flows new out_new =
    HandsOut fields (sending_history.TakesWindow old.next_outgoing_id width) old out flows new out_new
