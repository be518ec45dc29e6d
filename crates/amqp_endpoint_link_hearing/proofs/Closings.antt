-- A link is closed.
use Rattle.std.proofs.Common.{◌≡◌, ◌≤◌, ◌+◌, Bool, true, false, List, [], ◌++◌, Option, Some, None, refl, sym, ap}
use Rattle.std.proofs.Common.{subst, ◌∙◌, append-nil, arith, length, length-append}
use Rattle.std.specs.Prelude.{option_to_list}
use Rattle.amqp_session_types.specs.declared.error.Error.{Error}
use Rattle.amqp_session_types.specs.declared.handles.OutputHandle.{OutputHandle}
use Rattle.amqp_session_performatives.specs.declared.session_frame.SessionFrame.{SessionFrame}
use Rattle.amqp_endpoint_attached.specs.Detaching.{DetachGiven, is_there}
use Rattle.amqp_endpoint_attached.specs.Linked.{Linked, end_at}
use Rattle.amqp_endpoint_linking.specs.Handed.{Hands}
use Rattle.amqp_endpoint_link_hearing.specs.InSession.{Closes, ClosesIf}

-- a link is closed, where it is attached
module _ (why : Option Error) (old : Linked) (handle : OutputHandle) (new : Linked) (out out_new : List SessionFrame)
  where
    abbrev ClosesSo : Type 0
    ClosesSo = Hands (λ (frames : List SessionFrame). Closes why handle frames old new) out out_new

    pub closed-given : true ≡ is_there (end_at old handle) → DetachGiven old handle true why out new out_new → ClosesSo
    closed-given there g =
        let so : DetachGiven old handle true why [] new g.frames =
        record {
          number = g.number;
          before = g.before;
          after = g.after;
          frames = g.frames;
          moved = g.moved;
          sent = g.sent;
          added = refl;
        } in
        record {
          frames = g.frames;
          is_so = subst (λ (b : Bool). ClosesIf b why old handle g.frames new) there so;
          queued = g.added;
        }

    pub closed-barred : false ≡ is_there (end_at old handle) → new ≡ old → out_new ≡ out → ClosesSo
    closed-barred there same kept =
        record {
          frames = [];
          is_so = subst (λ (b : Bool). ClosesIf b why old handle [] new) there (same, refl);
          queued = kept ∙ sym (append-nil out);
        }

at-most-one : (frame : Option SessionFrame) → length (option_to_list frame) ≤ 1
at-most-one None = omega arith
at-most-one (Some frame) = omega arith

-- it hands out one frame at most
pub given-short : (old : Linked) (handle : OutputHandle) (closed : Bool) (why : Option Error) (out : List SessionFrame)
    (new : Linked) (out_new : List SessionFrame) → DetachGiven old handle closed why out new out_new
    → length out_new ≤ length out + 1
given-short old handle closed why out new out_new g =
    let grows : length out_new ≡ length (out ++ g.frames) = ap length g.added in
    let own : length g.frames ≡ length (option_to_list (g.sent).answer) = ap length (g.sent).frames_are in
    let one : length (option_to_list (g.sent).answer) ≤ 1 = at-most-one (g.sent).answer in
    omega (arith, grows, own, one, length-append out g.frames)
