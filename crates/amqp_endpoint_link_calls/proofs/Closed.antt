-- How a link is closed where it is, and what is told then.
use Rattle.std.proofs.Common.{◌≡◌, ℕ, ◌≤◌, ◌<◌, Bool, true, false, List, [], ◌∷◌, ◌++◌, Option, Some, None, Result, Ok, Err}
use Rattle.std.proofs.Common.{refl}
use Rattle.std.proofs.Common.{ap, length, sym, subst, ◌∙◌, append-nil}
use Rattle.std.specs.Prelude.{◌^◌, All, IfOk, IsSome, OnErr, drop, option_map, option_to_list, slice_set}
use Rattle.std.specs.Global.{Box, Vec}
use Rattle.std.proofs.lemmas.List.Elements.{All-nil}
use Rattle.std.proofs.lemmas.Option.{none-some, same_Some}
use Rattle.amqp_session_types.specs.declared.error.Error.{Error}
use Rattle.amqp_session_types.specs.declared.handles.OutputHandle.{OutputHandle}
use Rattle.amqp_session_performatives.specs.declared.session_frame.SessionFrame.{SessionFrame}
use Rattle.amqp_session_performatives.specs.declared.session_frame.SessionFrameBody.TheVariants as body
use Rattle.amqp_session_core.specs.State.{link_at}
use Rattle.amqp_session_core.specs.Steps.{Changes, SendsBehind, Step}
use Rattle.amqp_session_core.specs.declared.batch.BehindFrame.TheVariants as behind
use Rattle.amqp_link_base.specs.declared.detached.Detached.{Detached}
use Rattle.amqp_link_receiver.specs.declared.answer.Told.{Told}
use Rattle.amqp_link.specs.declared.end.End.{End}
use Rattle.amqp_link.specs.declared.relay.AttachTold.{AttachTold}
use Rattle.amqp_endpoint_links.specs.declared.numbered.Numbered.{Numbered}
use Rattle.amqp_endpoint_links.specs.History.{AskingHistory, AskingAct, InSession}
use Rattle.amqp_endpoint_fitting.proofs.Frames.{detach_fits, larger_fits}
use Rattle.amqp_endpoint_fitting.specs.Plain.{IsPlainDetach}
use Rattle.amqp_endpoint_tables.specs.declared.link_place.LinkPlace.{LinkPlace}
use Rattle.amqp_endpoint_tables.specs.declared.link_place.LinkPlace.TheVariants.{Held, AtRest}
use Rattle.amqp_endpoint_tables.specs.LinkState.{place_at, rest_of, without}
use Rattle.amqp_endpoint_tables.specs.LinkSteps.{Closed}
use Rattle.amqp_endpoint_tables.specs.State.{live_at}
use Rattle.amqp_endpoint_model.specs.declared.error.EndpointError.{EndpointError}
use Rattle.amqp_endpoint_model.specs.declared.error.EndpointError.TheVariants.{Memory}
use Rattle.amqp_endpoint_model.specs.declared.event.Event.{Event}
use Rattle.amqp_endpoint_model.specs.State.{frame_of}
use Rattle.amqp_endpoint_fitting.specs.Fits.{BehindFits}
use Rattle.amqp_endpoint_fitting.specs.Handed.{AllAskingEndFit, AllAskingHand, AllAskingSendFit}
use Rattle.amqp_endpoint_fitting.specs.Read.{IsRead}
use Rattle.amqp_endpoint_conversation.specs.Going.{Goes, NoneLive, Rests}
use Rattle.amqp_endpoint_conversation.proofs.Calls.{changed-goes, changed-rests}
use Rattle.amqp_endpoint_conversation.proofs.Goings.{read-behind}
use Rattle.amqp_endpoint_attached.specs.Detaching.{DetachGiven, own_detach}
use Rattle.amqp_endpoint_attached.specs.Linked.{Linked, LinksIn, end_at, end_in, gives}
use Rattle.amqp_endpoint_messages.specs.All.{AreCopies, TellsFirst, TellsIn, behind_told, first_told, open_count}
use Rattle.amqp_endpoint_messages.specs.All.{told_by}
use Rattle.amqp_endpoint_link_calls.specs.Calling.{DoneIn}
use Rattle.amqp_endpoint_link_calls.specs.Closing.{ClosedAt, ClosedBy, ClosesTelling, EndsBy, ForgetsHeld, ForgetsRest}
use Rattle.amqp_endpoint_link_calls.specs.Closing.{TellsFailed, closed_end, closes, fails, is_parted, parted_at}
use Rattle.amqp_endpoint_link_calls.specs.Places.{LinksBy, LinkTalk, Where, end_live}
use Rattle.amqp_endpoint_link_calls.proofs.Done.{changed, done-in, stays}
use Rattle.amqp_endpoint_link_calls.proofs.Going.{answers-plain, same-goes}

-- no copies are wanted where there is no error
pub no-copies : (count : ℕ) → AreCopies None count []
no-copies count = record { each = All-nil (λ (copy : Error). None ≡ Some copy); enough = tt }

-- what is so of each answer is so
pub if-ok : {X E : Type 0} → (P Q : X → Type 0) (r : Result X E) → ((x : X) → P x → Q x) → IfOk r P → IfOk r Q
if-ok P Q (Ok x) f h = f x h
if-ok P Q (Err e) f h = tt

-- the link's Detach is sent, and it tells
pub closed-by : (events : List Event) (handle : OutputHandle) (before mid after : Linked)
    (out out_mid : List SessionFrame) (count : ℕ) → count ≡ open_count (end_at before handle)
    → DetachGiven before handle true None out mid out_mid
    → TellsFirst count handle (link_at mid.session handle.0) mid after
    → events ≡ first_told count None (link_at mid.session handle.0) → ClosedBy events handle before out after out_mid
closed-by events handle before mid after out out_mid count is d t told =
    record {
      frames = d.frames;
      closed =
          record {
            mid = mid;
            detached =
                record {
                  number = d.number;
                  before = d.before;
                  after = d.after;
                  frames = d.frames;
                  moved = d.moved;
                  sent = d.sent;
                  added = refl;
                };
            tells = subst (λ (n : ℕ). TellsFirst n handle (link_at mid.session handle.0) mid after) is t;
            told = told ∙ ap (λ (n : ℕ). first_told n None (link_at mid.session handle.0)) is;
          };
      added = d.added;
    }

-- in the session that is lent
pub closed-in : (old : LinkTalk) (number : ℕ) (handle : OutputHandle) (lent : Box Linked)
    (live : live_at old.sessions number ≡ Some lent) (before after : Linked) (out out_new : List SessionFrame)
    → before ≡ lent.value → (events : List Event) → ClosedBy events handle before out after out_new
    → DoneIn (closes events) number handle old out (changed old number lent live after) out_new
closed-in old number handle lent live before after out out_new same events c =
    let d = subst (λ (s : Linked). ClosedBy events handle s out after out_new) same c in
    done-in old number lent live (closes events) handle after d.frames out out_new d.closed d.added

abbrev LinkAct : Type 0
LinkAct = AskingAct (Numbered End) AttachTold Told Detached

-- the steps by which a link tells, of which none brings or hands out a frame
record Tail (old new : Linked) : Type 0 where
  steps : List LinkAct
  history : AskingHistory gives old steps new
  sends : (channel limit : ℕ) → AllAskingSendFit channel limit steps
  ends : (limit : ℕ) → AllAskingEndFit limit steps
  hand : AllAskingHand steps []

tail-of : (count : ℕ) (handle : OutputHandle) (link : Option (Numbered End)) (old new : Linked)
    → TellsIn count handle link old.session new.session → new ≡ record old { session = new.session } → Tail old new
tail-of count handle None old new is rest =
    record {
      steps = [];
      history = rest ∙ ap (λ (s : LinksIn). record old { session = s }) is;
      sends = λ channel limit. tt;
      ends = λ limit. tt;
      hand = refl;
    }
tail-of count handle (Some link) old new stepped rest =
    record {
      steps =
          InSession (Changes handle.0 link (record link { link = behind_told count link.link })) ∷ [];
      history = (new, (stepped, rest), refl);
      sends = λ channel limit. (tt, tt);
      ends = λ limit. (tt, tt);
      hand = ([], [], refl, refl, refl);
    }

-- its Detach fits each limit that a peer may set
module _ (old new : LinkTalk) (number : ℕ) (handle : OutputHandle) (out out_new : List SessionFrame)
    (from : ℕ) (is : from ≡ length out) (short : handle.0 < 2 ^ 32) (reads : All IsRead (drop from out_new)) where
  plain : IsPlainDetach (own_detach handle true None)
  plain = record { handle = short; error = tt }

  pub closed-goes : (limit : ℕ) → 512 ≤ limit → (events : List Event)
      → DoneIn (closes events) number handle old out new out_new → Goes limit old new out out_new
  closed-goes limit least events d =
      let c = d.did in
      let before = (d.before).value in
      let s = (c.detached).sent in
      let tail = tail-of (open_count (end_at before handle)) handle (link_at (c.mid).session handle.0) c.mid
      (d.after).value (c.tells).tells (c.tells).rest in
      let stood : Numbered End = record { number = (c.detached).number; link = (c.detached).before } in
      let stands : Numbered End = record { number = (c.detached).number; link = (c.detached).after } in
      let sends : BehindFits (((before.session).fields).channel).0 limit
      (behind.Detach (own_detach handle true None)) =
      larger_fits limit (frame_of (record {
        channel = ((before.session).fields).channel.0;
        body = body.Detach (own_detach handle true None);
      })) least
      (detach_fits ((before.session).fields).channel.0 (own_detach handle true None) plain) in
      let frames = d.frames in
      let steps : List LinkAct =
      InSession (Changes handle.0 stood stands)
      ∷ InSession (SendsBehind handle (behind.Detach (own_detach handle true None)) s.left s.answer)
      ∷ tail.steps in
      let history : AskingHistory gives before steps (d.after).value =
      (record before { session = s.mid }, (s.changed, refl), (c.mid, (s.sent, s.rest), tail.history)) in
      let hands : AllAskingHand steps frames = (
        [],
        frames,
        refl,
        (
          option_to_list s.answer,
          [],
          refl,
          tail.hand,
          (c.detached).added ∙ s.frames_are ∙ sym (append-nil (option_to_list s.answer)),
        ),
        refl,
      ) in
      subst (λ (o : List SessionFrame). Goes limit old new out o) (sym d.queued)
      (changed-goes gives limit number old new d.before d.after steps frames out d.stepped history answers-plain
      (tt, (sends, tail.sends (((before.session).fields).channel).0 limit)) (tt, (tt, tail.ends limit)) hands
      (read-behind out out_new frames from is d.queued reads))

-- whether it is closed or not
pub either : {T X S : Type 0} (P : T → Type 0) (result : Result T EndpointError) → ((t : T) → P t → X) → (S → X)
    → IfOk result P → OnErr result S → X
either P (Ok t) f g ok err = f t ok
either P (Err e) f g ok err = g err

on-err : {T : Type 0} (result : Result T EndpointError) (A B : Type 0) → (A → B) → OnErr result A → OnErr result B
on-err (Ok t) A B f a = tt
on-err (Err e) A B f a = f a

-- nothing changes
same-rests : (old new : LinkTalk) (out : List SessionFrame) → new ≡ old → Rests old new out out
same-rests old new out same =
    record { silent = λ none. refl; idle = λ none. subst (λ (t : LinkTalk). NoneLive t) (sym same) none }

-- a link that both ends detached tells of its messages, and nothing leaves
pub end-changes : (s : LinksIn) (handle : OutputHandle) (n : Numbered End) (after : End) (link count : ℕ)
    (events events_new : List Event) → Some n ≡ link_at s handle.0 → after ≡ behind_told count (closed_end n.link)
    → events_new ≡ events ++ told_by link None count (closed_end n.link)
    → EndsBy link count handle s events
    (record s { links = slice_set s.links handle.0 (Some (record n { link = after })) }) events_new
end-changes s handle n after link count events events_new there is told =
    record {
      it = n;
      ends = (
        sym there,
        ap (λ (e : End). record s { links = slice_set s.links handle.0 (Some (record n { link = e })) }) is,
      );
      told = told;
    }

no-end : (o : Option (Numbered End)) → None ≡ o → IsSome (option_map (λ (n : Numbered End). n.link) o) → ⊥
no-end None is some = absurd cc
no-end (Some n) is some = absurd cc

pub none-there : (s : LinksIn) (handle : OutputHandle) → None ≡ link_at s handle.0 → IsSome (end_in s handle) → ⊥
none-there s handle is some = no-end (link_at s handle.0) is some

pub ends-by : (s : Linked) (new : LinksIn) (handle : OutputHandle) (link count : ℕ) (told events : List Event)
    → count ≡ open_count (end_at s handle) → told ≡ [] → EndsBy link count handle s.session told new events
    → TellsFailed link events handle s [] (record s { session = new })
ends-by s new handle link count told events counts none e =
    let so : count ≡ open_count (Some (e.it).link) =
    counts
    ∙ ap (λ (o : Option (Numbered End)). open_count (option_map (λ (n : Numbered End). n.link) o)) e.ends.0 in
    record {
      it = e.it;
      ends =
          subst (λ (n : ℕ). Step gives s.session
          (Changes handle.0 e.it (record e.it { link = behind_told n (closed_end (e.it).link) })) new) so e.ends;
      rest = refl;
      told =
          e.told
          ∙ ap (λ (es : List Event). es ++ told_by link None count (closed_end (e.it).link)) none
          ∙ ap (λ (n : ℕ). told_by link None n (closed_end (e.it).link)) so;
      silent = refl;
    }

-- it is there
pub parted-none : (talk : LinkTalk) (session : ℕ) (handle : OutputHandle) → None ≡ live_at talk.sessions session
    → parted_at talk session handle ≡ true → ⊥
parted-none talk session handle none is =
    let clash : false ≡ true = ap (λ (o : Option (Box Linked)). is_parted (end_live o handle)) none ∙ is in absurd cc

some-parted : (o : Option End) → is_parted o ≡ true → IsSome o
some-parted None is = absurd cc
some-parted (Some end) is = refl

pub parted-there : (talk : LinkTalk) (session : ℕ) (handle : OutputHandle) (lent : Box Linked)
    → live_at talk.sessions session ≡ Some lent → (before : Linked) → before ≡ lent.value
    → parted_at talk session handle ≡ true → IsSome (end_at before handle)
parted-there talk session handle lent live before same is =
    subst (λ (s : Linked). IsSome (end_at s handle)) (sym same)
    (some-parted (end_at lent.value handle)
    (ap (λ (o : Option (Box Linked)). is_parted (end_live o handle)) (sym live) ∙ is))

-- what waits in the session goes on to fit
module _ (old new : LinkTalk) (number link : ℕ) (handle : OutputHandle) where
  failed-goes : (limit : ℕ) (out : List SessionFrame) (events : List Event)
      → DoneIn (fails link events) number handle old out new out → Goes limit old new out out
  failed-goes limit out events d =
      let t = d.did in
      let stands : Numbered End =
      record t.it { link = behind_told (open_count (Some (t.it).link)) (closed_end (t.it).link) } in
      let steps : List LinkAct = InSession (Changes handle.0 t.it stands) ∷ [] in
      let history : AskingHistory gives (d.before).value steps (d.after).value =
      ((d.after).value, (t.ends, t.rest), refl) in
      let hands : AllAskingHand steps [] = ([], [], refl, refl, refl) in
      subst (λ (o : List SessionFrame). Goes limit old new out o) (append-nil out)
      (changed-goes gives limit number old new d.before d.after steps [] out d.stepped history answers-plain
      (tt, tt) (tt, tt) hands (All-nil IsRead))

-- in the session that is lent
module _ (old : LinkTalk) (number : ℕ) (handle : OutputHandle) (lent : Box Linked)
    (live : live_at old.sessions number ≡ Some lent) (before after : Linked) (link : ℕ) (same : before ≡ lent.value)
  where
    failed-in : (events : List Event) → TellsFailed link events handle before [] after → (out : List SessionFrame)
        → DoneIn (fails link events) number handle old out (changed old number lent live after) out
    failed-in events t out =
        done-in old number lent live (fails link events) handle after [] out out
        (subst (λ (s : Linked). TellsFailed link events handle s [] after) same t) (sym (append-nil out))

    module _ (result : Result (Vec Event) EndpointError)
        (ok : IfOk result (λ events. TellsFailed link events.items handle before [] after)) where
      pub fail-done : (out : List SessionFrame) → IfOk result (λ events.
          DoneIn (fails link events.items) number handle old out (changed old number lent live after) out)
      fail-done out =
          if-ok (λ (events : Vec Event). TellsFailed link events.items handle before [] after)
          (λ (events : Vec Event).
          DoneIn (fails link events.items) number handle old out (changed old number lent live after) out) result
          (λ events t. failed-in events.items t out) ok

      module _ (err : OnErr result (after ≡ before)) where
        stays-so : after ≡ before → changed old number lent live after ≡ old
        stays-so is = stays old number lent live after (is ∙ same)

        pub fail-kept : OnErr result (changed old number lent live after ≡ old)
        fail-kept = on-err result (after ≡ before) (changed old number lent live after ≡ old) stays-so err

        pub fail-goes : (limit : ℕ) (out : List SessionFrame)
            → Goes limit old (changed old number lent live after) out out
        fail-goes limit out =
            either (λ (events : Vec Event). TellsFailed link events.items handle before [] after) result
            (λ events t.
            failed-goes old (changed old number lent live after) number link handle limit out events.items
            (failed-in events.items t out))
            (λ is. same-goes old (changed old number lent live after) out out (stays-so is) refl limit) ok err

        pub fail-rests : (out : List SessionFrame) → Rests old (changed old number lent live after) out out
        fail-rests out =
            either (λ (events : Vec Event). TellsFailed link events.items handle before [] after) result
            (λ events t.
            let d = failed-in events.items t out in
            changed-rests number old (changed old number lent live after) d.before d.after out out d.stepped)
            (λ is. same-rests old (changed old number lent live after) out (stays-so is)) ok err

-- it is known no more
pub forgets-held : (old new : LinkTalk) (links links_new : LinksBy) (link session : ℕ) (handle : OutputHandle)
    (out : List SessionFrame) (place : Option (LinkPlace End)) (events : List Event)
    → place_at links link ≡ Some (Held session handle) → Closed links link place links_new
    → DoneIn (fails link events) session handle old out new out
    → ForgetsHeld session handle old links link out events new links_new out
forgets-held old new links links_new link session handle out None events at c d =
    absurd (none-some (Held session handle) (sym c.0 ∙ at))
forgets-held old new links links_new link session handle out (Some place) events at c d =
    record { done = d; forgotten = c.1 }

-- a link that is at rest
pub rest-closed : (old : LinkTalk) (links links_new : LinksBy) (link count : ℕ) (out : List SessionFrame)
    (place : Where) → Some count ≡ option_map (λ (end : End). open_count (Some end)) (rest_of place)
    → (events : List Event)
    → ((end : End) → place ≡ Some (AtRest end) → count ≡ open_count (Some end)
    → ForgetsRest end links link events links_new)
    → ClosedAt place old links link out events old links_new out
rest-closed old links links_new link count out None is events f = absurd (none-some count (sym is))
rest-closed old links links_new link count out (Some (Held session handle)) is events f =
    absurd (none-some count (sym is))
rest-closed old links links_new link count out (Some (AtRest end)) is events f =
    record { forgets = f end refl (same_Some _ _ is); same = refl; silent = refl }

-- it is taken out of its place, and tells
pub forgotten : (links links_new : LinksBy) (link count : ℕ) (place : LinkPlace End) (events : List Event)
    → Closed links link (Some place) links_new
    → ((end : End) → place ≡ AtRest end → events ≡ told_by link None count (closed_end end))
    → (end : End) → place_at links link ≡ Some (AtRest end) → count ≡ open_count (Some end)
    → ForgetsRest end links link events links_new
forgotten links links_new link count place events c told end at is =
    record {
      forgotten = c.1;
      told =
          told end (same_Some _ _ (sym c.0 ∙ at))
          ∙ ap (λ (n : ℕ). told_by link None n (closed_end end)) is;
    }

-- none is there to be taken out
pub unforgotten : {X : Type 0} (links links_new : LinksBy) (link : ℕ) → Closed links link None links_new → (end : End)
    → place_at links link ≡ Some (AtRest end) → X
unforgotten links links_new link c end at = absurd (none-some (AtRest end) (sym c.0 ∙ at))
