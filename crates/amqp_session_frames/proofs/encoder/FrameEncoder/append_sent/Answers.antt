use Rattle.std.proofs.Common.{ap, refl}
use Rattle.std.proofs.lemmas.Result.{IfOk-weaker, IfErr-weaker}
use Rattle.amqp_session_performatives.specs.declared.performative.Performative.TheVariants as performing
use Rattle.amqp_session_frames.specs.OfSession.{body_of, frame_of}
use Rattle.amqp_session_frames.proofs.Appended.{not_appended, whole_appended}
use Rattle.amqp_session_frames.proofs.encoder.FrameEncoder.append_sent.Goals as goal

pub returns-in-Begin : goal.returns-in-Begin
returns-in-Begin c =
    record {
      ok = IfOk-weaker c.append_whole.result _ _
          (λ v w. whole_appended c.args.self.now c.args.room (frame_of c.args.frame.now) _
          (performing.Begin c.in-Begin.begin) _ v _ _ (ap body_of c.in-Begin.is) refl refl w) c.append_whole.ensures.ok;
      refused = IfErr-weaker c.append_whole.result _ _
          (λ e r. not_appended c.args.self.now (frame_of c.args.frame.now) _ (performing.Begin c.in-Begin.begin) _ e
          (ap body_of c.in-Begin.is) refl refl r) c.append_whole.ensures.refused;
      same = c.append_whole.ensures.same;
    }

pub returns-in-Attach : goal.returns-in-Attach
returns-in-Attach c =
    record {
      ok = IfOk-weaker c.append_whole-in-Attach.result _ _
          (λ v w. whole_appended c.args.self.now c.args.room (frame_of c.args.frame.now) _
          (performing.Attach c.in-Attach.attach) _ v _ _ (ap body_of c.in-Attach.is) refl refl w)
          c.append_whole-in-Attach.ensures.ok;
      refused = IfErr-weaker c.append_whole-in-Attach.result _ _
          (λ e r. not_appended c.args.self.now (frame_of c.args.frame.now) _ (performing.Attach c.in-Attach.attach) _ e
          (ap body_of c.in-Attach.is) refl refl r) c.append_whole-in-Attach.ensures.refused;
      same = c.append_whole-in-Attach.ensures.same;
    }

pub returns-in-Flow : goal.returns-in-Flow
returns-in-Flow c =
    record {
      ok = IfOk-weaker c.append_whole-in-Flow.result _ _
          (λ v w. whole_appended c.args.self.now c.args.room (frame_of c.args.frame.now) _
          (performing.Flow c.in-Flow.flow) _ v _ _ (ap body_of c.in-Flow.is) refl refl w)
          c.append_whole-in-Flow.ensures.ok;
      refused = IfErr-weaker c.append_whole-in-Flow.result _ _
          (λ e r. not_appended c.args.self.now (frame_of c.args.frame.now) _ (performing.Flow c.in-Flow.flow) _ e
          (ap body_of c.in-Flow.is) refl refl r) c.append_whole-in-Flow.ensures.refused;
      same = c.append_whole-in-Flow.ensures.same;
    }

pub returns-in-Transfer : goal.returns-in-Transfer
returns-in-Transfer c =
    record {
      ok = IfOk-weaker c.append_transfer.result _ _
          (λ v w. whole_appended c.args.self.now c.args.room (frame_of c.args.frame.now) _
          (performing.Transfer c.in-Transfer.performative) _ v _ _ (ap body_of c.in-Transfer.is) refl
          c.as_slice.ensures w) c.append_transfer.ensures.ok;
      refused = IfErr-weaker c.append_transfer.result _ _
          (λ e r. not_appended c.args.self.now (frame_of c.args.frame.now) _
          (performing.Transfer c.in-Transfer.performative) _ e
          (ap body_of c.in-Transfer.is) refl c.as_slice.ensures r) c.append_transfer.ensures.refused;
      same = c.append_transfer.ensures.same;
    }

pub returns-in-Disposition : goal.returns-in-Disposition
returns-in-Disposition c =
    record {
      ok = IfOk-weaker c.append_disposition.result _ _
          (λ v w. whole_appended c.args.self.now c.args.room (frame_of c.args.frame.now) _
          (performing.Disposition c.in-Disposition.disposition) _ v _ _ (ap body_of c.in-Disposition.is) refl refl
          w) c.append_disposition.ensures.ok;
      refused = IfErr-weaker c.append_disposition.result _ _
          (λ e r. not_appended c.args.self.now (frame_of c.args.frame.now) _
          (performing.Disposition c.in-Disposition.disposition) _ e
          (ap body_of c.in-Disposition.is) refl refl r) c.append_disposition.ensures.refused;
      same = c.append_disposition.ensures.same;
    }

pub returns-in-Detach : goal.returns-in-Detach
returns-in-Detach c =
    record {
      ok = IfOk-weaker c.append_whole-in-Detach.result _ _
          (λ v w. whole_appended c.args.self.now c.args.room (frame_of c.args.frame.now) _
          (performing.Detach c.in-Detach.detach) _ v _ _ (ap body_of c.in-Detach.is) refl refl w)
          c.append_whole-in-Detach.ensures.ok;
      refused = IfErr-weaker c.append_whole-in-Detach.result _ _
          (λ e r. not_appended c.args.self.now (frame_of c.args.frame.now) _ (performing.Detach c.in-Detach.detach) _ e
          (ap body_of c.in-Detach.is) refl refl r) c.append_whole-in-Detach.ensures.refused;
      same = c.append_whole-in-Detach.ensures.same;
    }

pub returns-in-End : goal.returns-in-End
returns-in-End c =
    record {
      ok = IfOk-weaker c.append_whole-in-End.result _ _
          (λ v w. whole_appended c.args.self.now c.args.room (frame_of c.args.frame.now) _
          (performing.End c.in-End.end) _ v _ _ (ap body_of c.in-End.is) refl refl w) c.append_whole-in-End.ensures.ok;
      refused = IfErr-weaker c.append_whole-in-End.result _ _
          (λ e r. not_appended c.args.self.now (frame_of c.args.frame.now) _ (performing.End c.in-End.end) _ e
          (ap body_of c.in-End.is) refl refl r) c.append_whole-in-End.ensures.refused;
      same = c.append_whole-in-End.ensures.same;
    }
