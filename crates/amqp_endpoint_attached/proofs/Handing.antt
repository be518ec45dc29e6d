-- What is handed out as a link gets its handle.
use Rattle.std.proofs.Common.{◌≡◌, ℕ, ◌≤◌, Bool, true, List, [], ◌∷◌, ◌++◌, Option, Some, None, Result, Ok, Err, refl, sym}
use Rattle.std.proofs.Common.{if◌then◌else◌, ap, subst, ◌∙◌, eq-eqb}
use Rattle.std.specs.FinMap as map
use Rattle.std.specs.Prelude.{IfOk, IsSome, OnOk, is_some}
use Rattle.amqp_session_types.specs.declared.handles.InputHandle.{InputHandle}
use Rattle.amqp_session_types.specs.declared.handles.OutputHandle.{OutputHandle}
use Rattle.amqp_session_performatives.specs.declared.attach.Attach.{Attach}
use Rattle.amqp_session_performatives.specs.declared.session_frame.SessionFrame.{SessionFrame}
use Rattle.amqp_session_performatives.specs.declared.session_frame.SessionFrameBody.TheVariants as body
use Rattle.amqp_session_outgoing.specs.Queues.{room_behind}
use Rattle.amqp_session_outgoing.specs.State as sending
use Rattle.amqp_session_core.specs.declared.batch.TransferFrame.{TransferFrame}
use Rattle.amqp_session_core.specs.declared.batch.BehindFrame.{BehindFrame}
use Rattle.amqp_session_core.specs.declared.fields.SessionFields.{SessionFields}
use Rattle.amqp_session_core.specs.Frames.{frame_of}
use Rattle.amqp_session_core.specs.Relay.{Relations}
use Rattle.amqp_session_core.specs.State.{State, link_at}
use Rattle.amqp_session_core.specs.Steps.{Step, Allocates}
use Rattle.amqp_link.specs.Ends.{state_of, with_handle}
use Rattle.amqp_link.specs.Preparing.{carried_out}
use Rattle.amqp_link.specs.declared.end.End.{End}
use Rattle.amqp_link_sender.specs.declared.attaching.Attaching.{Attaching}
use Rattle.amqp_endpoint_links.specs.declared.links.AskedLink.{AskedLink}
use Rattle.amqp_endpoint_links.specs.declared.numbered.Numbered.{Numbered}
use Rattle.amqp_endpoint_attached.proofs.Owned.{given, given_by, owned, owned_by, some_is}
use Rattle.amqp_endpoint_attached.proofs.Taking.{planned}
use Rattle.amqp_endpoint_attached.specs.Answering.{Answers, Exchanges, IsPrepared, IsReady, SaysAll, Takes, TakesAll, said_by}
use Rattle.amqp_endpoint_attached.specs.Attaching.{Attaches, SendsIn}
use Rattle.amqp_endpoint_attached.specs.Linked.{Linked, LinksIn, gives}
use Rattle.amqp_endpoint_attached.specs.Links.{Announces, attach_frame, attach_sent, is_at_rest, offered, with_number}
use Rattle.amqp_endpoint_attached.specs.Refusals.{IsOffered, test_failed}
use Rattle.amqp_endpoint_attached.specs.declared.answering.Answered.{Answered}
use Rattle.amqp_endpoint_attached.specs.declared.exchanging.PreparedAnswer.{PreparedAnswer}
use Rattle.amqp_endpoint_attached.specs.declared.refusal.AttachRefusal.{AttachRefusal}

abbrev Side : Type 0
Side = sending.State TransferFrame BehindFrame

-- a handle is told by its number
numbered : (handle : OutputHandle) (n : ℕ) → handle.0 ≡ n → handle ≡ record { 0 = n }
numbered handle n e = ap (λ (k : ℕ). record { 0 = k }) e

-- behind a step that gives a link a handle, which the peer's leads to
module _ {R A T D : Type 0} (relations : Relations R A T D) (old mid : State R) (handle : ℕ) (link : R) (input : ℕ)
    (step : Step relations old (Allocates handle link (Some input)) mid) where
  pub is_there : IsSome (link_at mid handle)
  is_there =
      ap is_some
      (step.4 handle ∙ ap (λ (b : Bool). if b then Some link else link_at old handle) (eq-eqb handle handle refl))

  pub has_place : (place : ℕ) → room_behind old.offered 1 (old.outgoing).queues ≤ place
      → room_behind handle 1 (mid.outgoing).queues ≤ place
  has_place place room =
      subst (λ (o : Side). room_behind handle 1 o.queues ≤ place) (sym (ap (λ (s : State R). s.outgoing) step.5))
      (subst (λ (h : ℕ). room_behind h 1 (old.outgoing).queues ≤ place) (sym step.1) room)

  pub same_fields : mid.fields ≡ old.fields
  same_fields = ap (λ (s : State R). s.fields) step.5

abbrev frame_in : SessionFields → Attach → SessionFrame
frame_in fields attach = frame_of fields (body.Attach attach)

-- a link that the peer doesn't ask for
pub attached : (old new : Linked) (given_to : LinksIn) (out room out_new : List SessionFrame) (limit number : ℕ)
    (link : End) (handle : OutputHandle) (attach : Attach) → Announces limit link (offered old.session) attach
    → Step gives old.session (Allocates handle.0 (with_number number link) None) given_to
    → SendsIn given_to handle attach.incomplete_unsettled new.session
    → new ≡ record old { session = new.session } → room ≡ out
    → out_new ≡ room ++ attach_frame new.session attach ∷ []
    → Attaches old out limit number link handle new out_new
attached old new given_to out room out_new limit number link handle attach announces step sends rest kept handed =
    let there : Some (with_number number link) ≡ Some (with_number sends.number sends.before) =
    sym (given gives old.session given_to handle.0 (with_number number link) step) ∙ sends.changed.0 in
    let same = some_is (with_number number link) (with_number sends.number sends.before) there in
    let step_new =
    owned gives old.session given_to new.session handle.0 (with_number number link)
    (with_number sends.number sends.before) (with_number sends.number sends.after) sends.changed step in
    record {
      attach = attach;
      attaching = sends.after;
      sends =
          record {
            announces =
                subst (λ (h : OutputHandle). Announces limit link h attach)
                (sym (numbered handle old.session.offered step.0)) announces;
            sent =
                ap (λ (n : Numbered End). attach_sent (with_handle n.link handle) attach.incomplete_unsettled) same
                ∙ sends.sent;
          };
      allocates =
          subst (λ (n : ℕ). Step gives old.session (Allocates handle.0 (with_number n sends.after) None) new.session)
          (sym (ap (λ (n : Numbered End). n.number) same)) step_new;
      rest = rest;
      handed =
          handed ∙ ap (λ (fs : List SessionFrame). fs ++ attach_frame new.session attach ∷ []) kept
          ∙ ap (λ (f : SessionFields). out ++ frame_in f attach ∷ [])
          (ap (λ (s : LinksIn). s.fields) step_new.4);
    }

-- what a link comes to that answers an asked one
exchanged : (limit : ℕ) (old new : End) (asked : AskedLink) (handle : OutputHandle) (ready : PreparedAnswer)
    (attaching : Attaching) → is_at_rest (state_of old) ≡ true → IsReady limit old asked handle ready
    → TakesAll old handle ready.taken ready.attach.incomplete_unsettled attaching new
    → Exchanges limit old asked handle (said_by ready.attach.incomplete_unsettled attaching) ready.attach new
exchanged limit old new asked handle ready attaching rest is takes =
    record {
      taken = carried_out old ready.taken;
      left = attaching;
      says = refl;
      takes =
          subst (λ (a : Attaching). Takes old asked.attach a (carried_out old ready.taken)) (sym takes.left)
          (planned old asked.attach ready.taken rest is.planned).takes;
      announces = is.announces;
      sent = takes.sent;
    }

-- a link that answers an asked one
pub answered : (old new : Linked) (given_to : LinksIn) (out out_new : List SessionFrame) (limit number : ℕ)
    (link : End) (input : InputHandle) (handle : OutputHandle) (ready : PreparedAnswer) (told : Answered)
    → is_at_rest (state_of link) ≡ true → IsPrepared limit old link input ready
    → Step gives old.session (Allocates handle.0 (with_number number link) (Some input.0)) given_to
    → new ≡ record old { session = new.session; asked = map.remove old.asked input.0 }
    → SaysAll given_to out handle ready told new.session out_new
    → Answers old out limit number link input told new out_new
answered old new given_to out out_new limit number link input handle ready told rest prepared step others says =
    let takes = says.takes in
    let stands : Some (with_number number link) ≡ Some (with_number takes.number takes.before) =
    sym (given_by gives old.session given_to handle.0 (with_number number link) input.0 step) ∙ takes.changed.0 in
    let same = some_is (with_number number link) (with_number takes.number takes.before) stands in
    let step_new =
    owned_by gives old.session given_to new.session handle.0 (with_number number link)
    (with_number takes.number takes.before) (with_number takes.number takes.after) takes.changed input.0 step in
    subst (λ (a : Answered). Answers old out limit number link input a new out_new) (sym says.told)
    (record {
      asked = prepared.asked;
      is_asked = prepared.is_asked;
      attach = ready.attach;
      becomes = takes.after;
      exchanges =
          exchanged limit link takes.after prepared.asked handle ready says.attaching rest
          (subst (λ (h : OutputHandle). IsReady limit link prepared.asked h ready)
          (sym (numbered handle old.session.offered step.1)) prepared.is)
          (subst
          (λ (e : End).
          TakesAll e handle ready.taken ready.attach.incomplete_unsettled says.attaching takes.after)
          (sym (ap (λ (n : Numbered End). n.link) same)) takes.takes);
      allocates =
          subst
          (λ (n : ℕ).
          Step gives old.session (Allocates handle.0 (with_number n takes.after) (Some input.0)) new.session)
          (sym (ap (λ (n : Numbered End). n.number) same)) step_new;
      kept = prepared.is.kept;
      rest = others;
      handed =
          says.handed
          ∙ ap (λ (f : SessionFields). out ++ frame_in f ready.attach ∷ [])
          (same_fields gives old.session new.session handle.0 (with_number takes.number takes.after) input.0 step_new);
    })

-- what is made ready for a link that answers an asked one
pub prepared : (limit : ℕ) (s : Linked) (link : End) (input : InputHandle) (asked : AskedLink)
    (r : Result PreparedAnswer AttachRefusal) → Some asked ≡ map.get s.asked input.0
    → IfOk r (IsReady limit link asked (offered s.session))
    → OnOk r (IsOffered s.session × (test_failed link asked.attach ≡ None)) → IfOk r (IsPrepared limit s link input)
prepared limit s link input asked (Ok ready) there is passes =
    record { asked = asked; is_asked = sym there; is = is; offers = passes.0; passes = passes.1 }
prepared limit s link input asked (Err e) there is passes = tt
