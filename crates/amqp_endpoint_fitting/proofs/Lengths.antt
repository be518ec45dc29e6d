-- Frames whose numbers are read fit, where nothing else of them is long.
use Rattle.std.proofs.Common.{◌≡◌, ◌≤◌, ℕ, ◌+◌, List, [], ◌∷◌, ◌++◌, true, false, refl, arith}
use Rattle.std.specs.Prelude.{All, ◌%◌, ◌^◌, Option, Some, None}
use Rattle.std.proofs.lemmas.Bool.Decides.{nat_tests}
use Rattle.std.proofs.lemmas.List.Elements.{All-nil, All-cons, All-head, All-tail, All-append, All-weaker}
use Rattle.amqp_session_performatives.specs.declared.begin.Begin.{Begin}
use Rattle.amqp_session_performatives.specs.declared.flow.Flow.{Flow}
use Rattle.amqp_session_performatives.specs.declared.link_flow.LinkFlow.{LinkFlow}
use Rattle.amqp_session_performatives.specs.declared.session_frame.SessionFrame.{SessionFrame}
use Rattle.amqp_session_performatives.specs.declared.session_frame.SessionFrameBody.TheVariants as body
use Rattle.amqp_session_core.specs.declared.batch.BehindFrame.{BehindFrame}
use Rattle.amqp_session_core.specs.declared.batch.BehindFrame.TheVariants as behind
use Rattle.amqp_session_core.specs.declared.batch.TransferFrame.{TransferFrame}
use Rattle.amqp_session_core.specs.declared.fields.SessionFields.{SessionFields}
use Rattle.amqp_session_core.specs.Frames.{behind_frame, frames_behind, frames_left, frames_sent, session_flow, transfer_frame}
use Rattle.amqp_session_outgoing.specs.declared.frames.Outbound.{Outbound}
use Rattle.amqp_session_frames.specs.Text.{frame_text}
use Rattle.amqp_endpoint_model.specs.State.{frame_of, text_fits}
use Rattle.amqp_endpoint_fitting.specs.Plain.{IsPlainFlow}
use Rattle.amqp_endpoint_fitting.proofs.Frames.{begin_fits, flow_fits, larger_fits}
use Rattle.amqp_endpoint_fitting.specs.Fits.{BehindFits, FrameFits, QueueFits, QueuesFit, UnitFits, numbered}
use Rattle.amqp_endpoint_fitting.specs.Read.{IsRead, IsReadBegin, IsReadFlow}
use Rattle.amqp_endpoint_fitting.proofs.Queueing.{Leaving, Lines, SentFits}

module _ {X : Type 0} (P : X → Type 0) where
  pub all-left : (xs ys : List X) → All P (xs ++ ys) → All P xs
  all-left [] ys h = All-nil P
  all-left (x ∷ xs) ys h =
      All-cons P x xs (All-head P x (xs ++ ys) h) (all-left xs ys (All-tail P x (xs ++ ys) h))

  pub all-right : (xs ys : List X) → All P (xs ++ ys) → All P ys
  all-right [] ys h = h
  all-right (x ∷ xs) ys h = all-right xs ys (All-tail P x (xs ++ ys) h)

  pub all-one : (x : X) → P x → All P (x ∷ [])
  all-one x p = All-cons P x [] p (All-nil P)

-- nothing but numbers
plain-flow : (flow : Flow) → IsReadFlow flow → flow.properties ≡ None → IsPlainFlow flow
plain-flow flow r none =
    record {
      next_incoming_id = r.next_incoming_id;
      incoming_window = r.incoming_window;
      next_outgoing_id = r.next_outgoing_id;
      outgoing_window = r.outgoing_window;
      handle = r.handle;
      delivery_count = r.delivery_count;
      link_credit = r.link_credit;
      available = r.available;
      properties = none;
    }

pub flow-fits : (limit channel : ℕ) (flow : Flow) → 512 ≤ limit → IsReadFlow flow → flow.properties ≡ None
    → FrameFits limit (record { channel = channel; body = body.Flow flow })
flow-fits limit channel flow least r none =
    larger_fits limit (frame_of (record { channel = channel; body = body.Flow flow })) least
    (flow_fits channel flow (plain-flow flow r none))

pub begin-fits : (limit channel : ℕ) (begin : Begin) → 512 ≤ limit → IsReadBegin begin
    → begin.offered_capabilities ≡ [] → begin.desired_capabilities ≡ [] → begin.properties ≡ None
    → FrameFits limit (record { channel = channel; body = body.Begin begin })
begin-fits limit channel begin least r offered desired none =
    larger_fits limit (frame_of (record { channel = channel; body = body.Begin begin })) least
    (begin_fits channel begin
    (record {
      remote_channel = r.remote_channel;
      next_outgoing_id = r.next_outgoing_id;
      incoming_window = r.incoming_window;
      outgoing_window = r.outgoing_window;
      handle_max = r.handle_max;
      offered_capabilities = offered;
      desired_capabilities = desired;
      properties = none;
    }))

-- the Flow of a session
abbrev session_said : SessionFields → ℕ → Flow
session_said f number =
    record {
      next_incoming_id = f.next_incoming_id;
      incoming_window = f.incoming_window;
      next_outgoing_id = number;
      outgoing_window = 2048;
      handle = None;
      delivery_count = None;
      link_credit = None;
      available = None;
      drain = false;
      echo = false;
      properties = None;
    }

pub session-flow-fits : (limit : ℕ) (fields : SessionFields) (number : ℕ) → 512 ≤ limit
    → IsRead (session_flow fields number) → FrameFits limit (session_flow fields number)
session-flow-fits limit fields number least r =
    flow-fits limit (fields.channel).0 (session_said fields number) least r refl

-- that of a link
abbrev link_said : SessionFields → ℕ → LinkFlow → Flow
link_said f number link =
    record {
      next_incoming_id = f.next_incoming_id;
      incoming_window = f.incoming_window;
      next_outgoing_id = number;
      outgoing_window = 2048;
      handle = Some link.handle;
      delivery_count = link.delivery_count;
      link_credit = link.link_credit;
      available = link.available;
      drain = link.drain;
      echo = link.echo;
      properties = link.properties;
    }

pub behind-fits : (limit : ℕ) (fields : SessionFields) (number : ℕ) (frame : BehindFrame) → 512 ≤ limit
    → BehindFits (fields.channel).0 limit frame → IsRead (behind_frame fields number frame)
    → FrameFits limit (behind_frame fields number frame)
behind-fits limit fields number (behind.Flow link) least b r =
    flow-fits limit (fields.channel).0 (link_said fields number link) least r b
behind-fits limit fields number (behind.Detach detach) least b r = b

-- what left
module _ (limit : ℕ) (fields : SessionFields) (least : 512 ≤ limit) where
  abbrev Fitting : List SessionFrame → Type 0
  Fitting frames = All (FrameFits limit) frames

  frames-behind-fit : (number : ℕ) (frames : List BehindFrame) → All (BehindFits (fields.channel).0 limit) frames
      → All IsRead (frames_behind fields number frames) → Fitting (frames_behind fields number frames)
  frames-behind-fit number [] b r = All-nil (FrameFits limit)
  frames-behind-fit number (frame ∷ frames) b r =
      All-cons (FrameFits limit) (behind_frame fields number frame) (frames_behind fields number frames)
      (behind-fits limit fields number frame least (All-head (BehindFits (fields.channel).0 limit) frame frames b)
      (All-head IsRead (behind_frame fields number frame) (frames_behind fields number frames) r))
      (frames-behind-fit number frames (All-tail (BehindFits (fields.channel).0 limit) frame frames b)
      (All-tail IsRead (behind_frame fields number frame) (frames_behind fields number frames) r))

  sent-fits : (sent : Leaving) → SentFits (fields.channel).0 limit sent → All IsRead (frames_sent fields sent)
      → Fitting (frames_sent fields sent)
  sent-fits sent s r =
      let number : ℕ = (sent.number + 1) % 2 ^ 32 in
      All-cons (FrameFits limit) (transfer_frame fields sent) (frames_behind fields number sent.behind)
      ((s.transfer).each sent.delivery
      (All-head IsRead (transfer_frame fields sent) (frames_behind fields number sent.behind) r))
      (frames-behind-fit number sent.behind s.behind
      (All-tail IsRead (transfer_frame fields sent) (frames_behind fields number sent.behind) r))

  pub left-fit : (left : List Leaving) → All (SentFits (fields.channel).0 limit) left
      → All IsRead (frames_left fields left) → Fitting (frames_left fields left)
  left-fit [] s r = All-nil (FrameFits limit)
  left-fit (sent ∷ left) s r =
      All-append (FrameFits limit) (frames_sent fields sent) (frames_left fields left)
      (sent-fits sent (All-head (SentFits (fields.channel).0 limit) sent left s)
      (all-left IsRead (frames_sent fields sent) (frames_left fields left) r))
      (left-fit left (All-tail (SentFits (fields.channel).0 limit) sent left s)
      (all-right IsRead (frames_sent fields sent) (frames_left fields left) r))

-- a wider limit
module _ (limit wider : ℕ) (least : limit ≤ wider) where
  wider-text : (text : Option (List ℕ)) → text_fits limit text ≡ true → text_fits wider text ≡ true
  wider-text None fit = fit
  wider-text (Some text) fit = grind (arith, nat_tests)

  pub wider-frame : (frame : SessionFrame) → FrameFits limit frame → FrameFits wider frame
  wider-frame frame fit = wider-text (frame_text (frame_of frame)) fit

  wider-behind : (channel : ℕ) (frame : BehindFrame) → BehindFits channel limit frame → BehindFits channel wider frame
  wider-behind channel (behind.Flow link) b = b
  wider-behind channel (behind.Detach detach) b =
      wider-frame (record { channel = channel; body = body.Detach detach }) b

  wider-unit : (channel handle : ℕ) (unit : Outbound TransferFrame BehindFrame) → UnitFits channel limit handle unit
      → UnitFits channel wider handle unit
  wider-unit channel handle unit u =
      record {
        transfer =
            record {
              each = λ number is.
                  wider-frame (numbered channel handle number unit.transfer) ((u.transfer).each number is);
            };
        behind =
            All-weaker (BehindFits channel limit) (BehindFits channel wider) (wider-behind channel) unit.behind
            u.behind;
      }

  wider-queue : (channel : ℕ) (queue : ℕ × List (Outbound TransferFrame BehindFrame)) → QueueFits channel limit queue
      → QueueFits channel wider queue
  wider-queue channel queue q =
      All-weaker (UnitFits channel limit queue.0) (UnitFits channel wider queue.0) (wider-unit channel queue.0) queue.1
      q

  pub wider-queues : (channel : ℕ) (queues : Lines) → QueuesFit channel limit queues → QueuesFit channel wider queues
  wider-queues channel queues q =
      record {
        each = All-weaker (QueueFits channel limit) (QueueFits channel wider) (wider-queue channel) queues q.each;
      }
