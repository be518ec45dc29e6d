use Rattle.std.proofs.Common.{refl, sym, subst}
use Rattle.std.proofs.lemmas.Result.{IfOk-weaker, IfErr-weaker}
use Rattle.amqp_session_performatives.specs.declared.performative.Performative.TheVariants as performing
use Rattle.amqp_session_frames.specs.Parts.{IsWritten, NotWritten}
use Rattle.amqp_session_frames.specs.declared.error.Error.{Error}
use Rattle.amqp_session_frames.specs.declared.frame.Frame.{Frame}
use Rattle.amqp_session_frames.proofs.Refusing.{frame_of, undivided_refused, undivided_within, undivided_written}
use Rattle.amqp_session_frames.proofs.encoder.FrameEncoder.encode.Goals as goal

pub returns-in-Open : goal.returns-in-Open
returns-in-Open c =
    record {
      text = IfOk-weaker c.encode_undivided.result _ _ (λ v w. undivided_written c.args.self.now c.args.frame.now _ (performing.Open c.in-Open.open) v c.in-Open.is refl refl w) c.encode_undivided.ensures.text;
      limit = IfOk-weaker c.encode_undivided.result _ _ (λ v w. undivided_within c.args.self.now c.args.frame.now _ (performing.Open c.in-Open.open) v c.in-Open.is refl refl w) c.encode_undivided.ensures.text;
      refused = IfErr-weaker c.encode_undivided.result _ _ (λ e r. undivided_refused c.args.self.now c.args.frame.now _ (performing.Open c.in-Open.open) e c.in-Open.is refl refl tt r) c.encode_undivided.ensures.refused;
    }

pub returns-in-Begin : goal.returns-in-Begin
returns-in-Begin c =
    record {
      text = IfOk-weaker c.encode_undivided-in-Begin.result _ _ (λ v w. undivided_written c.args.self.now c.args.frame.now _ (performing.Begin c.in-Begin.begin) v c.in-Begin.is refl refl w) c.encode_undivided-in-Begin.ensures.text;
      limit = IfOk-weaker c.encode_undivided-in-Begin.result _ _ (λ v w. undivided_within c.args.self.now c.args.frame.now _ (performing.Begin c.in-Begin.begin) v c.in-Begin.is refl refl w) c.encode_undivided-in-Begin.ensures.text;
      refused = IfErr-weaker c.encode_undivided-in-Begin.result _ _ (λ e r. undivided_refused c.args.self.now c.args.frame.now _ (performing.Begin c.in-Begin.begin) e c.in-Begin.is refl refl tt r) c.encode_undivided-in-Begin.ensures.refused;
    }

pub returns-in-Attach : goal.returns-in-Attach
returns-in-Attach c =
    record {
      text = IfOk-weaker c.encode_undivided-in-Attach.result _ _ (λ v w. undivided_written c.args.self.now c.args.frame.now _ (performing.Attach c.in-Attach.attach) v c.in-Attach.is refl refl w) c.encode_undivided-in-Attach.ensures.text;
      limit = IfOk-weaker c.encode_undivided-in-Attach.result _ _ (λ v w. undivided_within c.args.self.now c.args.frame.now _ (performing.Attach c.in-Attach.attach) v c.in-Attach.is refl refl w) c.encode_undivided-in-Attach.ensures.text;
      refused = IfErr-weaker c.encode_undivided-in-Attach.result _ _ (λ e r. undivided_refused c.args.self.now c.args.frame.now _ (performing.Attach c.in-Attach.attach) e c.in-Attach.is refl refl tt r) c.encode_undivided-in-Attach.ensures.refused;
    }

pub returns-in-Flow : goal.returns-in-Flow
returns-in-Flow c =
    record {
      text = IfOk-weaker c.encode_undivided-in-Flow.result _ _ (λ v w. undivided_written c.args.self.now c.args.frame.now _ (performing.Flow c.in-Flow.flow) v c.in-Flow.is refl refl w) c.encode_undivided-in-Flow.ensures.text;
      limit = IfOk-weaker c.encode_undivided-in-Flow.result _ _ (λ v w. undivided_within c.args.self.now c.args.frame.now _ (performing.Flow c.in-Flow.flow) v c.in-Flow.is refl refl w) c.encode_undivided-in-Flow.ensures.text;
      refused = IfErr-weaker c.encode_undivided-in-Flow.result _ _ (λ e r. undivided_refused c.args.self.now c.args.frame.now _ (performing.Flow c.in-Flow.flow) e c.in-Flow.is refl refl tt r) c.encode_undivided-in-Flow.ensures.refused;
    }

pub returns-in-Disposition : goal.returns-in-Disposition
returns-in-Disposition c =
    record {
      text = IfOk-weaker c.encode_undivided-in-Disposition.result _ _ (λ v w. undivided_written c.args.self.now c.args.frame.now _ (performing.Disposition c.in-Disposition.disposition) v c.in-Disposition.is refl refl w) c.encode_undivided-in-Disposition.ensures.text;
      limit = IfOk-weaker c.encode_undivided-in-Disposition.result _ _ (λ v w. undivided_within c.args.self.now c.args.frame.now _ (performing.Disposition c.in-Disposition.disposition) v c.in-Disposition.is refl refl w) c.encode_undivided-in-Disposition.ensures.text;
      refused = IfErr-weaker c.encode_undivided-in-Disposition.result _ _ (λ e r. undivided_refused c.args.self.now c.args.frame.now _ (performing.Disposition c.in-Disposition.disposition) e c.in-Disposition.is refl refl tt r) c.encode_undivided-in-Disposition.ensures.refused;
    }

pub returns-in-Detach : goal.returns-in-Detach
returns-in-Detach c =
    record {
      text = IfOk-weaker c.encode_undivided-in-Detach.result _ _ (λ v w. undivided_written c.args.self.now c.args.frame.now _ (performing.Detach c.in-Detach.detach) v c.in-Detach.is refl refl w) c.encode_undivided-in-Detach.ensures.text;
      limit = IfOk-weaker c.encode_undivided-in-Detach.result _ _ (λ v w. undivided_within c.args.self.now c.args.frame.now _ (performing.Detach c.in-Detach.detach) v c.in-Detach.is refl refl w) c.encode_undivided-in-Detach.ensures.text;
      refused = IfErr-weaker c.encode_undivided-in-Detach.result _ _ (λ e r. undivided_refused c.args.self.now c.args.frame.now _ (performing.Detach c.in-Detach.detach) e c.in-Detach.is refl refl tt r) c.encode_undivided-in-Detach.ensures.refused;
    }

pub returns-in-End : goal.returns-in-End
returns-in-End c =
    record {
      text = IfOk-weaker c.encode_undivided-in-End.result _ _ (λ v w. undivided_written c.args.self.now c.args.frame.now _ (performing.End c.in-End.end) v c.in-End.is refl refl w) c.encode_undivided-in-End.ensures.text;
      limit = IfOk-weaker c.encode_undivided-in-End.result _ _ (λ v w. undivided_within c.args.self.now c.args.frame.now _ (performing.End c.in-End.end) v c.in-End.is refl refl w) c.encode_undivided-in-End.ensures.text;
      refused = IfErr-weaker c.encode_undivided-in-End.result _ _ (λ e r. undivided_refused c.args.self.now c.args.frame.now _ (performing.End c.in-End.end) e c.in-End.is refl refl tt r) c.encode_undivided-in-End.ensures.refused;
    }

pub returns-in-Close : goal.returns-in-Close
returns-in-Close c =
    record {
      text = IfOk-weaker c.encode_undivided-in-Close.result _ _ (λ v w. undivided_written c.args.self.now c.args.frame.now _ (performing.Close c.in-Close.close) v c.in-Close.is refl refl w) c.encode_undivided-in-Close.ensures.text;
      limit = IfOk-weaker c.encode_undivided-in-Close.result _ _ (λ v w. undivided_within c.args.self.now c.args.frame.now _ (performing.Close c.in-Close.close) v c.in-Close.is refl refl w) c.encode_undivided-in-Close.ensures.text;
      refused = IfErr-weaker c.encode_undivided-in-Close.result _ _ (λ e r. undivided_refused c.args.self.now c.args.frame.now _ (performing.Close c.in-Close.close) e c.in-Close.is refl refl tt r) c.encode_undivided-in-Close.ensures.refused;
    }

pub returns-in-Empty : goal.returns-in-Empty
returns-in-Empty c =
    let same = frame_of c.args.frame.now _ c.in-Empty.is in
    record {
      text = IfOk-weaker c.encode_empty.result _ _ (λ v w. subst (λ (f : Frame). IsWritten c.args.self.now f v) same w) c.encode_empty.ensures.text;
      limit = c.encode_empty.ensures.limit;
      refused = IfErr-weaker c.encode_empty.result _ _ (λ e m. subst (λ (x : Error). NotWritten c.args.self.now c.args.frame.now x) (sym m) tt) c.encode_empty.ensures.memory;
    }

pub returns-in-Transfer : goal.returns-in-Transfer
returns-in-Transfer c =
    let same = frame_of c.args.frame.now _ c.in-Transfer.is in
    record {
      text = IfOk-weaker c.encode_transfer.result _ _ (λ v w. subst (λ (f : Frame). IsWritten c.args.self.now f v) same w) c.encode_transfer.ensures.text;
      limit = c.encode_transfer.ensures.limit;
      refused = IfErr-weaker c.encode_transfer.result _ _ (λ e r. subst (λ (f : Frame). NotWritten c.args.self.now f e) same r) c.encode_transfer.ensures.refused;
    }
