-- A link leaves its session, answered before or not.
use Rattle.std.proofs.Common.{◌≡◌, Bool, true, false, List, [], Option, refl, sym, subst, ◌∙◌, append-nil}
use Rattle.amqp_session_types.specs.declared.error.Error.{Error}
use Rattle.amqp_session_types.specs.declared.handles.OutputHandle.{OutputHandle}
use Rattle.amqp_session_performatives.specs.declared.session_frame.SessionFrame.{SessionFrame}
use Rattle.amqp_endpoint_attached.specs.Detaching.{DetachReplied}
use Rattle.amqp_endpoint_attached.specs.Linked.{Linked}
use Rattle.amqp_endpoint_attached.specs.TakenOut.{TakenOut}
use Rattle.amqp_endpoint_linking.specs.Linking.{Link}
use Rattle.amqp_endpoint_linking.specs.Handed.{Hands}
use Rattle.amqp_endpoint_link_hearing.specs.InSession.{AnswersIf, Parts}

module _ (old mid : Linked) (handle : OutputHandle) (answers closed : Bool) (error : Option Error) (left : Option Link)
    (new : Linked) (out out_new : List SessionFrame) (taken : TakenOut mid handle left new) where
  abbrev PartsSo : Type 0
  PartsSo = Hands (λ (frames : List SessionFrame). Parts handle answers closed error left frames old new) out out_new

  pub parts-answered : answers ≡ true → DetachReplied old handle closed error out mid out_new → PartsSo
  parts-answered is r =
      let so : DetachReplied old handle closed error [] mid r.frames =
      record { frames = r.frames; said = r.said; added = refl } in
      record {
        frames = r.frames;
        is_so =
            record {
              mid = mid;
              answered =
                  subst (λ (b : Bool). AnswersIf b old handle closed error r.frames mid) (sym is) so;
              out = taken;
            };
        queued = r.added;
      }

  pub parts-silent : answers ≡ false → mid ≡ old → out_new ≡ out → PartsSo
  parts-silent is same kept =
      record {
        frames = [];
        is_so =
            record {
              mid = mid;
              answered = subst (λ (b : Bool). AnswersIf b old handle closed error [] mid) (sym is) (same, refl);
              out = taken;
            };
        queued = kept ∙ sym (append-nil out);
      }
