-- Messages are disposed of in the session that holds their link.
use Rattle.std.proofs.Common.{◌≡◌, ◌≤◌, ℕ, Bool, true, false, List, [], ◌∷◌, ◌++◌, Option, Some, None, Result, Ok, Err}
use Rattle.std.proofs.Common.{IsSome, refl, sym, ap, subst, ◌∙◌}
use Rattle.std.proofs.lemmas.List.Elements.{All-nil}
use Rattle.std.proofs.lemmas.Option.{none-some}
use Rattle.std.specs.Prelude.{IfErr, OnErr, OnOk, ⊤}
use Rattle.std.specs.Box.{with_value}
use Rattle.std.specs.Global.{Box}
use Rattle.amqp_session_types.specs.declared.handles.OutputHandle.{OutputHandle}
use Rattle.amqp_session_states.specs.declared.delivery_state.DeliveryState.{DeliveryState}
use Rattle.amqp_session_performatives.specs.declared.disposition.Disposition.{Disposition}
use Rattle.amqp_session_performatives.specs.declared.session_frame.SessionFrame.{SessionFrame}
use Rattle.amqp_session_core.specs.Steps.{Changes, SendsDisposition, Step}
use Rattle.amqp_link_base.specs.declared.detached.Detached.{Detached}
use Rattle.amqp_link_receiver.specs.declared.answer.Told.{Told}
use Rattle.amqp_link_receiver.specs.declared.disposable.DisposeRefusal.{DisposeRefusal}
use Rattle.amqp_link_receiver.specs.DisposingAll.{Named}
use Rattle.amqp_link.specs.declared.end.End.{End}
use Rattle.amqp_link.specs.declared.relay.AttachTold.{AttachTold}
use Rattle.amqp_endpoint_links.specs.History.{AskingHistory, AskingAct, InSession}
use Rattle.amqp_endpoint_links.specs.declared.numbered.Numbered.{Numbered}
use Rattle.amqp_endpoint_tables.specs.State.{live_at}
use Rattle.amqp_endpoint_fitting.specs.Handed.{AllAskingEndFit, AllAskingHand, AllAskingSendFit}
use Rattle.amqp_endpoint_fitting.specs.Read.{IsRead}
use Rattle.amqp_endpoint_conversation.specs.Going.{Goes, Within}
use Rattle.amqp_endpoint_conversation.proofs.Calls.{changed-goes}
use Rattle.amqp_endpoint_attached.specs.Linked.{Linked, LinksIn, end_at, gives}
use Rattle.amqp_endpoint_attached.specs.Receiving.{is_receiving}
use Rattle.amqp_endpoint_messages.specs.Disposing.{DisposesOfAll, DisposesOfOne}
use Rattle.amqp_endpoint_messages.specs.Dispositions.{IsDisposed, SendsEach, frames_of}
use Rattle.amqp_endpoint_messages.specs.Refusals.{IsTooLong, RefusesAll, named_at}
use Rattle.amqp_endpoint_model.specs.declared.call.Disposal.{Disposal}
use Rattle.amqp_endpoint_model.specs.declared.error.EndpointError.{EndpointError}
use Rattle.amqp_endpoint_model.specs.declared.error.EndpointError.TheVariants.{FrameTooLarge}
use Rattle.amqp_endpoint_link_calls.specs.Calling.{Does, DoneIn}
use Rattle.amqp_endpoint_link_calls.specs.Places.{LinkTalk, end_live}
use Rattle.amqp_endpoint_link_calls.proofs.Done.{changed, done-in}
use Rattle.amqp_endpoint_link_calls.proofs.Going.{answers-plain}
use Rattle.amqp_endpoint_link_calls.specs.Disposing.{disposes_of_all, disposes_of_one, disposes_of_tag}
use Rattle.amqp_endpoint_link_calls.specs.Disposing.{disposes_of_tags}
use Rattle.amqp_endpoint_link_calls.specs.Keeping.{kept_tag, kept_tags}
use Rattle.amqp_endpoint_link_calls.specs.Refusing.{AreTooLong, BarsTelling, too_large_or_memory}

abbrev LinkAct : Type 0
LinkAct = AskingAct (Numbered End) AttachTold Told Detached

-- steps of a session by which nothing waits that didn't, and which hand out no frame themselves
record Tail (old new : Linked) : Type 0 where
  steps : List LinkAct
  history : AskingHistory gives old steps new
  sends : (channel limit : ℕ) → AllAskingSendFit channel limit steps
  ends : (limit : ℕ) → AllAskingEndFit limit steps
  hand : AllAskingHand steps []

-- Dispositions are sent
sent-tail : (s : Linked) (told : List Disposition) (new : LinksIn) → SendsEach gives s.session told new
    → Tail s (record s { session = new })
sent-tail s [] new is =
    record {
      steps = [];
      history = ap (λ (l : LinksIn). record s { session = l }) is;
      sends = λ channel limit. tt;
      ends = λ limit. tt;
      hand = refl;
    }
sent-tail s (d ∷ rest) new (mid, sent, sends) =
    let tail : Tail (record s { session = mid }) (record s { session = new }) =
    sent-tail (record s { session = mid }) rest new sends in
    record {
      steps = InSession (SendsDisposition d sent.settled) ∷ tail.steps;
      history = (record s { session = mid }, (sent.stepped, refl), tail.history);
      sends = λ channel limit. (tt, tail.sends channel limit);
      ends = λ limit. (tt, tail.ends limit);
      hand = ([], [], refl, tail.hand, refl);
    }

-- a link is changed, and Dispositions are sent
pub record ChangesLink (handle : OutputHandle) (old new : LinksIn) : Type 0 where
  pub stood : Numbered End
  pub stands : Numbered End
  pub changed : Step gives old (Changes handle.0 stood stands) new

disposed-tail : (handle : OutputHandle) (before after : Linked) (mid : LinksIn) (told : List Disposition)
    → ChangesLink handle before.session mid → SendsEach gives mid told after.session
    → after ≡ record before { session = after.session } → Tail before after
disposed-tail handle before after mid told l sends rest =
    let tail : Tail (record before { session = mid }) (record before { session = after.session }) =
    sent-tail (record before { session = mid }) told after.session sends in
    record {
      steps = InSession (Changes handle.0 l.stood l.stands) ∷ tail.steps;
      history = (
        record before { session = mid },
        (l.changed, refl),
        subst (λ (s : Linked). AskingHistory gives (record before { session = mid }) tail.steps s) (sym rest)
            tail.history,
      );
      sends = λ channel limit. (tt, tail.sends channel limit);
      ends = λ limit. (tt, tail.ends limit);
      hand = ([], [], refl, tail.hand, refl);
    }

pub all-change : (handle : OutputHandle) (tags : List (List ℕ)) (state : DeliveryState) (asked : Option Bool)
    (old : LinksIn) (told : List Disposition) (new : LinksIn)
    → DisposesOfAll handle tags state asked old told new → ChangesLink handle old new
all-change handle tags state asked old told new d = record { stood = _; stands = _; changed = d.changed }

pub one-change : (handle : OutputHandle) (tag : List ℕ) (state : DeliveryState) (asked : Option Bool)
    (old : LinksIn) (told : List Disposition) (new : LinksIn)
    → DisposesOfOne handle tag state asked old told new → ChangesLink handle old new
one-change handle tag state asked old told new d = record { stood = _; stands = _; changed = d.changed }

-- once no message is refused, this is left to refuse them
left : (link : Option End) (named : Result Named DisposeRefusal) (TooLong : Type 0) (e : EndpointError)
    → RefusesAll link named TooLong e → BarsTelling TooLong (too_large_or_memory e)
left link named TooLong FrameTooLarge refuses = refuses.2
left link named TooLong e refuses = tt

-- the session is lent
module _ (old : LinkTalk) (number : ℕ) (lent : Box Linked) (live : live_at old.sessions number ≡ Some lent)
    (before after : Linked) (same : before ≡ lent.value) where
  module _ (handle : OutputHandle) (Disposes : LinksIn → List Disposition → LinksIn → Type 0)
      (change : (s : LinksIn) (told : List Disposition) (mid : LinksIn) → Disposes s told mid
      → ChangesLink handle s mid) (limit : ℕ) (out out_new : List SessionFrame)
      (answered : IsDisposed Disposes limit before out after out_new) where
    -- what waits goes on to fit, and the connection stands
    stays-fit : (most : ℕ) → Goes most old (changed old number lent live after) [] []
    stays-fit most =
        let d : IsDisposed Disposes limit lent.value out after out_new =
        subst (λ (s : Linked). IsDisposed Disposes limit s out after out_new) same answered in
        let tail : Tail lent.value after =
        disposed-tail handle lent.value after d.mid d.told (change (lent.value).session d.told d.mid d.disposes) d.sends
        d.rest in
        changed-goes gives most number old (changed old number lent live after) lent (with_value lent after) tail.steps
        [] [] (live, refl) tail.history answers-plain
        (tail.sends ((((lent.value).session).fields).channel).0 most) (tail.ends most) tail.hand (All-nil IsRead)

    pub waits-on : (most : ℕ) → Within most old → Within most (changed old number lent live after)
    waits-on most within = (stays-fit most).waits within

    -- and what is handed out fits
    pub disposed-goes : Goes limit old (changed old number lent live after) out out_new
    disposed-goes =
        record {
          waits = λ within. (stays-fit limit).waits within;
          still = (stays-fit limit).still;
          frames = frames_of (before.session).fields answered.told;
          queued = answered.added;
          fit = λ least within. answered.fit;
        }

  -- what refuses it there
  pub left-over : (limit : ℕ) (handle : OutputHandle) (tags : List (List ℕ)) (state : DeliveryState)
      (asked : Option Bool) (e : EndpointError)
      → RefusesAll (end_at before handle) (named_at (end_at before handle) tags)
      (IsTooLong limit (end_at before handle) tags state asked) e
      → BarsTelling (IsTooLong limit (end_live (live_at old.sessions number) handle) tags state asked)
      (too_large_or_memory e)
  left-over limit handle tags state asked e refuses =
      let is : end_at before handle ≡ end_live (live_at old.sessions number) handle =
      ap (λ (s : Linked). end_at s handle) same
      ∙ sym (ap (λ (s : Option (Box Linked)). end_live s handle) live) in
      subst
      (λ (o : Option End). BarsTelling (IsTooLong limit o tags state asked) (too_large_or_memory e)) is
      (left (end_at before handle) (named_at (end_at before handle) tags)
      (IsTooLong limit (end_at before handle) tags state asked) e refuses)

  -- it is done there
  pub disposed-in : (Disposes : OutputHandle → LinksIn → List Disposition → LinksIn → Type 0) (limit : ℕ)
      (handle : OutputHandle) (out out_new : List SessionFrame)
      → IsDisposed (Disposes handle) limit before out after out_new
      → DoneIn (λ (h : OutputHandle) (b : Linked) (frames : List SessionFrame) (a : Linked).
      IsDisposed (Disposes h) limit b [] a frames) number handle old out (changed old number lent live after) out_new
  disposed-in Disposes limit handle out out_new answered =
      let d = subst (λ (s : Linked). IsDisposed (Disposes handle) limit s out after out_new) same answered in
      done-in old number lent live
      (λ (h : OutputHandle) (b : Linked) (frames : List SessionFrame) (a : Linked).
      IsDisposed (Disposes h) limit b [] a frames) handle after (frames_of ((lent.value).session).fields d.told) out
      out_new
      (record {
        told = d.told;
        mid = d.mid;
        disposes = d.disposes;
        sends = d.sends;
        rest = d.rest;
        added = refl;
        fit = d.fit;
      })
      d.added

-- no session that has begun has the number
pub none-live : (old : LinkTalk) (number : ℕ) (handle : OutputHandle) → None ≡ live_at old.sessions number
    → is_receiving (end_live (live_at old.sessions number) handle) ≡ true → ⊥
none-live old number handle none receiving =
    let clash : false ≡ true =
    ap (λ (s : Option (Box Linked)). is_receiving (end_live s handle)) none ∙ receiving in absurd cc

-- the deliveries that are disposed of are those that the link keeps
module _ (limit : ℕ) (disposal : Disposal) (old new : LinkTalk) (number : ℕ) (handle : OutputHandle)
    (out out_new : List SessionFrame) where
  end-before : (before : Box Linked) → live_at old.sessions number ≡ Some before
      → end_live (live_at old.sessions number) handle ≡ end_at before.value handle
  end-before before live = ap (λ (s : Option (Box Linked)). end_live s handle) live

  pub kept-disposed : (messages : List ℕ) (tags : List (List ℕ))
      → tags ≡ kept_tags (end_live (live_at old.sessions number) handle) messages
      → DoneIn (disposes_of_tags limit tags disposal) number handle old out new out_new
      → DoneIn (disposes_of_all limit messages disposal) number handle old out new out_new
  kept-disposed messages tags are d =
      record {
        before = d.before;
        after = d.after;
        frames = d.frames;
        did =
            subst
            (λ (ts : List (List ℕ)).
            disposes_of_tags limit ts disposal handle (d.before).value d.frames (d.after).value)
            (are ∙ ap (λ (e : Option End). kept_tags e messages) (end-before d.before (d.stepped).0)) d.did;
        stepped = d.stepped;
        rest = d.rest;
        queued = d.queued;
      }

  pub kept-disposed-one : (message : ℕ) (tag : List ℕ)
      → Some tag ≡ kept_tag (end_live (live_at old.sessions number) handle) message
      → DoneIn (disposes_of_tag limit tag disposal) number handle old out new out_new
      → DoneIn (disposes_of_one limit message disposal) number handle old out new out_new
  kept-disposed-one message tag is d =
      record {
        before = d.before;
        after = d.after;
        frames = d.frames;
        did =
            record {
              tag = tag;
              is_kept =
                  sym
                  (is ∙ ap (λ (e : Option End). kept_tag e message) (end-before d.before (d.stepped).0));
              disposed = d.did;
            };
        stepped = d.stepped;
        rest = d.rest;
        queued = d.queued;
      }

-- what refuses the deliveries refuses the messages
pub kept-too-long : (limit : ℕ) (link : Option End) (messages : List ℕ) (tags : List (List ℕ)) (disposal : Disposal)
    (state : DeliveryState) → tags ≡ kept_tags link messages → state ≡ disposal.state
    → (result : Result ⊤ EndpointError)
    → IfErr result (BarsTelling (IsTooLong limit link tags state disposal.settled))
    → IfErr result (BarsTelling (AreTooLong limit link messages disposal))
kept-too-long limit link messages tags disposal state are is result bars =
    subst
    (λ (ts : List (List ℕ)).
    IfErr result (BarsTelling (IsTooLong limit link ts disposal.state disposal.settled))) are
    (subst
    (λ (s : DeliveryState). IfErr result (BarsTelling (IsTooLong limit link tags s disposal.settled))) is bars)

-- the link keeps the message
pub keeps-none : (tag : Option (List ℕ)) → None ≡ tag → IsSome tag → ⊥
keeps-none None is some = absurd cc
keeps-none (Some t) is some = none-some t is

-- where nothing changes what waits fits as it did
pub stays-within : (old new : LinkTalk) → new ≡ old → (most : ℕ) → Within most old → Within most new
stays-within old new is most within = subst (λ (t : LinkTalk). Within most t) (sym is) within

-- the state was copied
pub with-state : (does : Disposal → Does) (disposal : Disposal) (old new : LinkTalk) (number : ℕ)
    (handle : OutputHandle) (out out_new : List SessionFrame) (state : DeliveryState) → state ≡ disposal.state
    → DoneIn (does (record disposal { state = state })) number handle old out new out_new
    → DoneIn (does disposal) number handle old out new out_new
with-state does disposal old new number handle out out_new state is d =
    subst
    (λ (s : DeliveryState). DoneIn (does (record disposal { state = s })) number handle old out new out_new) is d

-- whatever is answered
pub on-ok : {X Y : Type 0} (result : Result ⊤ EndpointError) → (X → Y) → OnOk result X → OnOk result Y
on-ok (Ok done) f x = f x
on-ok (Err e) f x = tt

pub ok-so : {X : Type 0} (result : Result ⊤ EndpointError) → X → OnOk result X
ok-so (Ok done) x = x
ok-so (Err e) x = tt

pub err-so : {X : Type 0} (result : Result ⊤ EndpointError) → X → OnErr result X
err-so (Ok done) x = tt
err-so (Err e) x = x

pub no-ok : (X : Type 0) (result : Result ⊤ EndpointError) (e : EndpointError) → result ≡ Err e → OnOk result X
no-ok X (Ok done) e is = absurd cc
no-ok X (Err why) e is = tt

pub no-err : (X : Type 0) (result : Result ⊤ EndpointError) (done : ⊤) → result ≡ Ok done → OnErr result X
no-err X (Ok it) done is = tt
no-err X (Err why) done is = absurd cc

pub err-on : (P Q : EndpointError → Type 0) (result : Result ⊤ EndpointError) → ((e : EndpointError) → P e → Q e)
    → IfErr result P → IfErr result Q
err-on P Q (Ok done) f so = tt
err-on P Q (Err e) f so = f e so
