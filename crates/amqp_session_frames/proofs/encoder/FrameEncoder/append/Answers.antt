use Rattle.std.proofs.Common.{refl, subst, sym}
use Rattle.std.proofs.lemmas.Result.{IfOk-weaker, IfErr-weaker}
use Rattle.amqp_session_performatives.specs.declared.performative.Performative.TheVariants as performing
use Rattle.amqp_session_frames.specs.Appending.{IsAppended, NotAppended}
use Rattle.amqp_session_frames.specs.declared.error.Error.{Error}
use Rattle.amqp_session_frames.specs.declared.frame.Frame.{Frame}
use Rattle.amqp_session_frames.proofs.Appended.{not_appended, whole_appended}
use Rattle.amqp_session_frames.proofs.Refusing.{frame_of}
use Rattle.amqp_session_frames.proofs.encoder.FrameEncoder.append.Goals as goal

pub returns-in-Open : goal.returns-in-Open
returns-in-Open c =
    record {
      ok = IfOk-weaker c.append_whole.result _ _
          (λ v w. whole_appended c.args.self.now c.args.room c.args.frame.now _ (performing.Open c.in-Open.open) _
          v _ _ c.in-Open.is refl refl w) c.append_whole.ensures.ok;
      refused = IfErr-weaker c.append_whole.result _ _
          (λ e r. not_appended c.args.self.now c.args.frame.now _ (performing.Open c.in-Open.open) _ e
          c.in-Open.is refl refl r) c.append_whole.ensures.refused;
      same = c.append_whole.ensures.same;
    }

pub returns-in-Begin : goal.returns-in-Begin
returns-in-Begin c =
    record {
      ok = IfOk-weaker c.append_whole-in-Begin.result _ _
          (λ v w. whole_appended c.args.self.now c.args.room c.args.frame.now _
          (performing.Begin c.in-Begin.begin) _ v _ _ c.in-Begin.is refl refl w)
          c.append_whole-in-Begin.ensures.ok;
      refused = IfErr-weaker c.append_whole-in-Begin.result _ _
          (λ e r. not_appended c.args.self.now c.args.frame.now _ (performing.Begin c.in-Begin.begin) _ e
          c.in-Begin.is refl refl r) c.append_whole-in-Begin.ensures.refused;
      same = c.append_whole-in-Begin.ensures.same;
    }

pub returns-in-Attach : goal.returns-in-Attach
returns-in-Attach c =
    record {
      ok = IfOk-weaker c.append_whole-in-Attach.result _ _
          (λ v w. whole_appended c.args.self.now c.args.room c.args.frame.now _
          (performing.Attach c.in-Attach.attach) _ v _ _ c.in-Attach.is refl refl w)
          c.append_whole-in-Attach.ensures.ok;
      refused = IfErr-weaker c.append_whole-in-Attach.result _ _
          (λ e r. not_appended c.args.self.now c.args.frame.now _ (performing.Attach c.in-Attach.attach) _ e
          c.in-Attach.is refl refl r) c.append_whole-in-Attach.ensures.refused;
      same = c.append_whole-in-Attach.ensures.same;
    }

pub returns-in-Flow : goal.returns-in-Flow
returns-in-Flow c =
    record {
      ok = IfOk-weaker c.append_whole-in-Flow.result _ _
          (λ v w. whole_appended c.args.self.now c.args.room c.args.frame.now _ (performing.Flow c.in-Flow.flow) _
          v _ _ c.in-Flow.is refl refl w) c.append_whole-in-Flow.ensures.ok;
      refused = IfErr-weaker c.append_whole-in-Flow.result _ _
          (λ e r. not_appended c.args.self.now c.args.frame.now _ (performing.Flow c.in-Flow.flow) _ e
          c.in-Flow.is refl refl r) c.append_whole-in-Flow.ensures.refused;
      same = c.append_whole-in-Flow.ensures.same;
    }

pub returns-in-Transfer : goal.returns-in-Transfer
returns-in-Transfer c =
    record {
      ok = IfOk-weaker c.append_transfer.result _ _
          (λ v w. whole_appended c.args.self.now c.args.room c.args.frame.now _
          (performing.Transfer c.in-Transfer.performative) _ v _ _ c.in-Transfer.is refl c.as_slice.ensures w)
          c.append_transfer.ensures.ok;
      refused = IfErr-weaker c.append_transfer.result _ _
          (λ e r. not_appended c.args.self.now c.args.frame.now _ (performing.Transfer c.in-Transfer.performative)
          _ e c.in-Transfer.is refl c.as_slice.ensures r) c.append_transfer.ensures.refused;
      same = c.append_transfer.ensures.same;
    }

pub returns-in-Disposition : goal.returns-in-Disposition
returns-in-Disposition c =
    record {
      ok = IfOk-weaker c.append_disposition.result _ _
          (λ v w. whole_appended c.args.self.now c.args.room c.args.frame.now _
          (performing.Disposition c.in-Disposition.disposition) _ v _ _ c.in-Disposition.is refl refl w)
          c.append_disposition.ensures.ok;
      refused = IfErr-weaker c.append_disposition.result _ _
          (λ e r. not_appended c.args.self.now c.args.frame.now _
          (performing.Disposition c.in-Disposition.disposition) _ e c.in-Disposition.is refl refl r)
          c.append_disposition.ensures.refused;
      same = c.append_disposition.ensures.same;
    }

pub returns-in-Detach : goal.returns-in-Detach
returns-in-Detach c =
    record {
      ok = IfOk-weaker c.append_whole-in-Detach.result _ _
          (λ v w. whole_appended c.args.self.now c.args.room c.args.frame.now _
          (performing.Detach c.in-Detach.detach) _ v _ _ c.in-Detach.is refl refl w)
          c.append_whole-in-Detach.ensures.ok;
      refused = IfErr-weaker c.append_whole-in-Detach.result _ _
          (λ e r. not_appended c.args.self.now c.args.frame.now _ (performing.Detach c.in-Detach.detach) _ e
          c.in-Detach.is refl refl r) c.append_whole-in-Detach.ensures.refused;
      same = c.append_whole-in-Detach.ensures.same;
    }

pub returns-in-End : goal.returns-in-End
returns-in-End c =
    record {
      ok = IfOk-weaker c.append_whole-in-End.result _ _
          (λ v w. whole_appended c.args.self.now c.args.room c.args.frame.now _ (performing.End c.in-End.end) _ v
          _ _ c.in-End.is refl refl w) c.append_whole-in-End.ensures.ok;
      refused = IfErr-weaker c.append_whole-in-End.result _ _
          (λ e r. not_appended c.args.self.now c.args.frame.now _ (performing.End c.in-End.end) _ e c.in-End.is
          refl refl r) c.append_whole-in-End.ensures.refused;
      same = c.append_whole-in-End.ensures.same;
    }

pub returns-in-Close : goal.returns-in-Close
returns-in-Close c =
    record {
      ok = IfOk-weaker c.append_whole-in-Close.result _ _
          (λ v w. whole_appended c.args.self.now c.args.room c.args.frame.now _
          (performing.Close c.in-Close.close) _ v _ _ c.in-Close.is refl refl w)
          c.append_whole-in-Close.ensures.ok;
      refused = IfErr-weaker c.append_whole-in-Close.result _ _
          (λ e r. not_appended c.args.self.now c.args.frame.now _ (performing.Close c.in-Close.close) _ e
          c.in-Close.is refl refl r) c.append_whole-in-Close.ensures.refused;
      same = c.append_whole-in-Close.ensures.same;
    }

pub returns-in-Empty : goal.returns-in-Empty
returns-in-Empty c =
    let same = frame_of c.args.frame.now _ c.in-Empty.is in
    record {
      ok = IfOk-weaker c.append_empty.result _ _
          (λ v w. subst (λ (f : Frame). IsAppended c.args.self.now f c.args.room v c.args.out.now.items
          c.append_empty.new.out.items) same w) c.append_empty.ensures.ok;
      refused = IfErr-weaker c.append_empty.result _ _
          (λ e m. subst (λ (x : Error). NotAppended c.args.self.now c.args.frame.now x) (sym m) tt)
          c.append_empty.ensures.memory;
      same = c.append_empty.ensures.same;
    }
