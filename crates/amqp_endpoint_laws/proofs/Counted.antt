-- An endpoint counts the messages that it accepts to be sent and those that it hands out.
use Rattle.std.proofs.Common.{◌≡◌, ◌<◌, inl, inr, ℕ, Bool, true, false, List, [], ◌∷◌, ◌++◌, Option, Some, None, map}
use Rattle.std.proofs.Common.{arith}
use Rattle.std.proofs.Common.{refl, sym, ap, subst, ◌∙◌}
use Rattle.std.specs.Prelude.{◌^◌, option_map, slice_get}
use Rattle.std.proofs.lemmas.Option.{none-some, same_Some, slice_get-map}
use Rattle.std.proofs.lemmas.List.{append-nil, map-append}
use Rattle.amqp_session_types.specs.declared.handles.InputHandle.{InputHandle}
use Rattle.amqp_session_types.specs.declared.handles.OutputHandle.{OutputHandle}
use Rattle.amqp_session_performatives.specs.declared.session_frame.SessionFrame.{SessionFrame}
use Rattle.amqp_session_core.specs.State.{link_at}
use Rattle.amqp_endpoint_tables.specs.declared.link_place.LinkPlace.TheVariants.{AtRest, Held}
use Rattle.amqp_endpoint_tables.specs.LinkState.{place_at}
use Rattle.amqp_endpoint_model.specs.declared.call.Call.{Call}
use Rattle.amqp_endpoint_model.specs.declared.call.Call.TheVariants as call
use Rattle.amqp_endpoint_model.specs.declared.event.Event.{Event}
use Rattle.amqp_endpoint_model.specs.declared.settings.Settings.{Settings}
use Rattle.amqp_endpoint_model.specs.History.{Run}
use Rattle.amqp_endpoint_model.specs.Relay.{IsNew}
use Rattle.amqp_endpoint_model.specs.Said.{Said, Told, attaching, count, credit_is, done, link_closed, session_begun}
use Rattle.amqp_endpoint_model.specs.Said.{message_sent, tried_end, truth, waiting}
use Rattle.amqp_endpoint_model.specs.State.{State, error_of, fresh}
use Rattle.amqp_endpoint_model.specs.Step.{not_allowed}
use Rattle.amqp_link.specs.declared.end.End.{End}
use Rattle.amqp_endpoint_attached.specs.Linked.{Linked, end_at}
use Rattle.amqp_endpoint_attached.specs.Links.{receiver_by, sender_by}
use Rattle.amqp_endpoint_linking.specs.Linking.{Links, Talk}
use Rattle.amqp_endpoint_link_calls.specs.Attaching.{AttachedBy}
use Rattle.amqp_endpoint_link_calls.specs.declared.placed.Placed.{Placed}
use Rattle.amqp_endpoint_link_calls.specs.Closing.{ClosedAt, ClosedHeld, closed_end, parted_at}
use Rattle.amqp_endpoint_link_calls.specs.Places.{Where}
use Rattle.amqp_endpoint_messages.specs.All.{open_count}
use Rattle.amqp_endpoint_messages.specs.GivingUp.{attached_told}
use Rattle.amqp_endpoint_laws.proofs.Placing.{IsPlaced, is-again, is-new}
use Rattle.amqp_endpoint.specs.Calling.{Calls}
use Rattle.amqp_endpoint.specs.Counting.{Counted, CountsStay}
use Rattle.amqp_endpoint.specs.Does.{linked}
use Rattle.amqp_endpoint.specs.Sending.{tag_of}
use Rattle.amqp_endpoint.specs.declared.linked.LinkedSessions.{LinkedSessions}
use Rattle.amqp_endpoint_laws.specs.CallsDone.{events_of, events_told}
use Rattle.amqp_endpoint_laws.specs.Telling.{numbers_told, numbers_under, tag_given, tags_given}
use Rattle.amqp_endpoint_laws.proofs.Keeping.{IsOfConnection, Keeps}
use Rattle.amqp_endpoint_laws.proofs.Kept.{run-keeps}
use Rattle.amqp_endpoint_laws.proofs.Numbered.{GivesNext, attached-unnumbered, gives-next}
use Rattle.amqp_endpoint_laws.proofs.Serials.{at-under, below-count, numbers-append, same-tags}
use Rattle.amqp_endpoint_laws.proofs.Unnumbered.{Unnumbered, both-unnumbered, by-unnumbered, first-unnumbered}
use Rattle.amqp_endpoint_model.specs.declared.event.Event.TheVariants.{Opened, Closed}

-- the tags are those of the numbers under the one count, each of which eight bytes hold, and the messages have the
-- numbers under the other
pub record Counts (seen : List Event) (tags : List (List ℕ)) (s : LinkedSessions) : Type 0 where
  pub tags_are : tags ≡ map tag_of (numbers_under s.sent)
  pub tags_fit : s.sent < 2 ^ 64
  pub numbers_are : numbers_told seen ≡ numbers_under s.given

stay : (seen : List Event) (tags : List (List ℕ)) (old new : LinkedSessions) → CountsStay old new
    → Counts seen tags old → Counts seen tags new
stay seen tags old new same c =
    record {
      tags_are = c.tags_are ∙ ap (λ (n : ℕ). map tag_of (numbers_under n)) (sym same.sent);
      tags_fit = subst (λ (n : ℕ). n < 2 ^ 64) (sym same.sent) c.tags_fit;
      numbers_are = c.numbers_are ∙ ap (λ (n : ℕ). numbers_under n) (sym same.given);
    }

-- what is told then holds no message
told-more : (seen events : List Event) (tags : List (List ℕ)) (s : LinkedSessions) → Unnumbered events
    → Counts seen tags s → Counts (seen ++ events) tags s
told-more seen events tags s none c =
    record {
      tags_are = c.tags_are;
      tags_fit = c.tags_fit;
      numbers_are =
          numbers-append seen events ∙ ap (λ (ns : List ℕ). numbers_told seen ++ ns) none
          ∙ append-nil (numbers_told seen) ∙ c.numbers_are;
    }

-- or one
told-next : (seen events : List Event) (tags : List (List ℕ)) (old new : LinkedSessions) → new.sent ≡ old.sent
    → GivesNext events old.given new.given → Counts seen tags old → Counts (seen ++ events) tags new
told-next seen events tags old new sent (inl (none, given)) c =
    told-more seen events tags new none (stay seen tags old new (record { sent = sent; given = given }) c)
told-next seen events tags old new sent (inr (next, given)) c =
    record {
      tags_are = c.tags_are ∙ ap (λ (n : ℕ). map tag_of (numbers_under n)) (sym sent);
      tags_fit = subst (λ (n : ℕ). n < 2 ^ 64) (sym sent) c.tags_fit;
      numbers_are =
          numbers-append seen events ∙ ap (λ (ns : List ℕ). numbers_told seen ++ ns) next
          ∙ ap (λ (ns : List ℕ). ns ++ old.given ∷ []) c.numbers_are
          ∙ ap (λ (n : ℕ). numbers_under n) (sym given);
    }

-- a call that sends no message, and tells of none
called-plain : (seen events : List Event) (tags : List (List ℕ)) (old new : LinkedSessions) → Unnumbered events
    → CountsStay old new → Counts seen tags old → Counts (seen ++ events) (tags ++ []) new
called-plain seen events tags old new none same c =
    subst (λ (ts : List (List ℕ)). Counts (seen ++ events) ts new) (sym (append-nil tags))
    (told-more seen events tags new none (stay seen tags old new same c))

-- nor does what comes of a link that attaches
placed-unnumbered : (input : Option InputHandle) (before after : Linked) (limit : ℕ) (link : End) (placed : Placed)
    (frames : List SessionFrame) → AttachedBy input before [] limit link placed after frames
    → Unnumbered placed.events.items
placed-unnumbered None before after limit link placed frames (a, told) =
    ap (λ (es : List Event). numbers_told es) told
placed-unnumbered (Some input) before after limit link placed frames a =
    ap (λ (es : List Event). numbers_told es) a.told
    ∙ both-unnumbered (attached_told placed.link (a.answered).exchange) a.behind refl
    (attached-unnumbered limit placed.session (open_count (Some link)) placed.handle (error_of not_allowed)
    (a.answered).aborts (a.answered).kept _ a.frames a.behind a.mid after a.goes)

link-unnumbered : (old new : Talk) (links links_new : Links) (limit session : ℕ) (link : End) (number : ℕ)
    (events : List Event) (frames : List SessionFrame)
    → IsPlaced old links limit session link number events frames new links_new → Unnumbered events
link-unnumbered old new links links_new limit session link number events frames a =
    let i = (a.attaches).attaches in
    ap (λ (es : List Event). numbers_told es) a.told
    ∙ placed-unnumbered (i.attached).input (i.before).value (i.after).value limit link a.placed (a.attaches).frames
    (i.attached).attached

held-unnumbered : (parted : Bool) (session : ℕ) (handle : OutputHandle) (number : ℕ) (events : List Event)
    (old new : Talk) (links links_new : Links) (frames : List SessionFrame)
    → ClosedHeld parted session handle old links number [] events new links_new frames → Unnumbered events
held-unnumbered true session handle number events old new links links_new frames c =
    ap (λ (es : List Event). numbers_told es) c.done.did.told
    ∙ by-unnumbered number None (open_count (Some c.done.did.it.link)) (closed_end c.done.did.it.link)
held-unnumbered false session handle number events old new links links_new frames c =
    ap (λ (es : List Event). numbers_told es) c.done.did.told
    ∙ first-unnumbered (open_count (end_at c.done.before.value handle)) None
    (link_at c.done.did.mid.session handle.0)

closed-unnumbered : (place : Where) (number : ℕ) (events : List Event) (old new : Talk) (links links_new : Links)
    (frames : List SessionFrame) → ClosedAt place old links number [] events new links_new frames → Unnumbered events
closed-unnumbered None number events old new links links_new frames c = absurd c
closed-unnumbered (Some (AtRest end)) number events old new links links_new frames c =
    ap (λ (es : List Event). numbers_told es) c.forgets.told
    ∙ by-unnumbered number None (open_count (Some end)) (closed_end end)
closed-unnumbered (Some (Held session handle)) number events old new links links_new frames c =
    held-unnumbered (parted_at old session handle) session handle number events old new
    links links_new frames c

-- what a call is answered tells of no message
pub answer-unnumbered : (by_call : Call) (answer : Said) (old new : LinkedSessions) (limit : ℕ)
    (frames : List SessionFrame) → Calls old limit by_call answer frames new → Unnumbered (events_of answer)
answer-unnumbered (call.AttachSender n settings) (attaching link events) old new limit frames c =
    link-unnumbered old.talk new.talk old.links new.links limit n (sender_by settings) link events frames
    (is-new old.talk new.talk old.links new.links limit n (sender_by settings) link events frames c)
answer-unnumbered (call.AttachReceiver n settings) (attaching link events) old new limit frames c =
    link-unnumbered old.talk new.talk old.links new.links limit n (receiver_by settings) link events frames
    (is-new old.talk new.talk old.links new.links limit n (receiver_by settings) link events frames c)
answer-unnumbered (call.Resume link n) (attaching number events) old new limit frames c =
    link-unnumbered old.talk new.talk old.links new.links limit n _ link events frames
    (is-again old.talk new.talk old.links new.links limit n link number events frames c)
answer-unnumbered (call.CloseLink link) (link_closed events) old new limit frames c =
    closed-unnumbered (place_at old.links link) link events old.talk new.talk old.links new.links frames c
answer-unnumbered call.Begin (session_begun n) old new limit frames c = refl
answer-unnumbered (call.AcceptBegin channel) (session_begun n) old new limit frames c = refl
answer-unnumbered (call.End n) done old new limit frames c = refl
answer-unnumbered (call.IsEnded n) (truth b) old new limit frames c = refl
answer-unnumbered (call.TryEnd n) (tried_end o) old new limit frames c = refl
answer-unnumbered (call.Detach link) done old new limit frames c = refl
answer-unnumbered (call.Grant link n) (credit_is left) old new limit frames c = refl
answer-unnumbered (call.Drain link) done old new limit frames c = refl
answer-unnumbered (call.Send link message) (message_sent tag outcome) old new limit frames c = refl
answer-unnumbered (call.Dispose link message disposal) done old new limit frames c = refl
answer-unnumbered (call.DisposeAll link messages disposal) done old new limit frames c = refl
answer-unnumbered (call.Credit link) (credit_is left) old new limit frames c = refl
answer-unnumbered (call.HeldBack n) (count m) old new limit frames c = refl
answer-unnumbered (call.Waiting n) (waiting turn) old new limit frames c = refl
answer-unnumbered it answer old new limit frames c = absurd c

called : (seen : List Event) (tags : List (List ℕ)) (by_call : Call) (answer : Said) (old new : LinkedSessions)
    (limit : ℕ) (frames : List SessionFrame) → Calls old limit by_call answer frames new → Counted by_call old new
    → Counts seen tags old → Counts (seen ++ events_of answer) (tags ++ tag_given answer) new
called seen tags call.Begin (session_begun n) old new limit frames c same s =
    called-plain seen [] tags old new refl same s
called seen tags (call.AcceptBegin channel) (session_begun n) old new limit frames c same s =
    called-plain seen [] tags old new refl same s
called seen tags (call.End n) done old new limit frames c same s = called-plain seen [] tags old new refl same s
called seen tags (call.IsEnded n) (truth b) old new limit frames c same s =
    called-plain seen [] tags old new refl same s
called seen tags (call.TryEnd n) (tried_end o) old new limit frames c same s =
    called-plain seen [] tags old new refl same s
called seen tags (call.AttachSender n settings) (attaching link events) old new limit frames c same s =
    called-plain seen events tags old new
    (answer-unnumbered (call.AttachSender n settings) (attaching link events) old new limit frames c) same s
called seen tags (call.AttachReceiver n settings) (attaching link events) old new limit frames c same s =
    called-plain seen events tags old new
    (answer-unnumbered (call.AttachReceiver n settings) (attaching link events) old new limit frames c) same s
called seen tags (call.Resume link n) (attaching number events) old new limit frames c same s =
    called-plain seen events tags old new
    (answer-unnumbered (call.Resume link n) (attaching number events) old new limit frames c) same s
called seen tags (call.Detach link) done old new limit frames c same s = called-plain seen [] tags old new refl same s
called seen tags (call.CloseLink link) (link_closed events) old new limit frames c same s =
    called-plain seen events tags old new
    (answer-unnumbered (call.CloseLink link) (link_closed events) old new limit frames c) same s
called seen tags (call.Grant link n) (credit_is left) old new limit frames c same s =
    called-plain seen [] tags old new refl same s
called seen tags (call.Drain link) done old new limit frames c same s = called-plain seen [] tags old new refl same s
called seen tags (call.Send link message) (message_sent tag outcome) old new limit frames c more s =
    record {
      tags_are =
          ap (λ (ts : List (List ℕ)). ts ++ tag ∷ []) s.tags_are
          ∙ ap (λ (t : List ℕ). map tag_of (numbers_under old.sent) ++ t ∷ []) c.sends.tagged
          ∙ sym (map-append tag_of (numbers_under old.sent) (old.sent ∷ []))
          ∙ ap (λ (n : ℕ). map tag_of (numbers_under n)) (sym more.sent);
      tags_fit = omega (arith, more.sent, c.sends.numbered);
      numbers_are =
          ap (λ (es : List Event). numbers_told es) (append-nil seen) ∙ s.numbers_are
          ∙ ap (λ (n : ℕ). numbers_under n) (sym more.given);
    }
called seen tags (call.Dispose link message disposal) done old new limit frames c same s =
    called-plain seen [] tags old new refl same s
called seen tags (call.DisposeAll link messages disposal) done old new limit frames c same s =
    called-plain seen [] tags old new refl same s
called seen tags (call.Credit link) (credit_is left) old new limit frames c same s =
    called-plain seen [] tags old new refl same s
called seen tags (call.HeldBack n) (count m) old new limit frames c same s =
    called-plain seen [] tags old new refl same s
called seen tags (call.Waiting n) (waiting turn) old new limit frames c same s =
    called-plain seen [] tags old new refl same s
called seen tags by_call answer old new limit frames c same s = absurd c

connection-unnumbered : (event : Event) → IsOfConnection event → Unnumbered (event ∷ [])
connection-unnumbered (Opened o) theirs = refl
connection-unnumbered (Closed c) theirs = refl
connection-unnumbered event theirs = absurd theirs

counts-keep : Keeps linked (λ seen tags phase s. Counts seen tags s)
counts-keep =
    record {
      silent = λ seen tags. record {
        moved = λ phase s connection live c.
            record { tags_are = c.tags_are; tags_fit = c.tags_fit; numbers_are = c.numbers_are };
        renewed = λ s c. record { tags_are = c.tags_are; tags_fit = c.tags_fit; numbers_are = c.numbers_are };
        runs = λ phase s c. c;
        refused = λ phase old new limit channel said e r c. stay seen tags old new r.1 c;
        closed = λ phase old new l c. stay seen tags old new l.1 c;
        finished = λ phase to old new f c. stay seen tags old new f.1 c;
      };
      told = λ seen tags event phase s theirs c.
          told-more seen (event ∷ []) tags s (connection-unnumbered event theirs) c;
      taken = λ seen tags phase old new limit channel said frames events h c.
          told-next seen events tags old new h.1
          (gives-next said old.talk new.talk old.links new.links old.given new.given limit
          (record { 0 = channel }) frames events h.0) c;
      called = λ seen tags phase old new limit by_call answer frames may c s.
          called seen tags by_call answer old new limit frames c.0 c.1 s;
    }

pub counts : (sessions : LinkedSessions) (settings : Settings) (calls : List Call) (told : List Told)
    (end : State LinkedSessions) → IsNew linked settings sessions
    → Run linked (fresh settings sessions) calls told end → Counts (events_told told) (tags_given told) end.sessions
counts sessions settings calls told end new run =
    run-keeps linked (λ seen tags phase s. Counts seen tags s) counts-keep [] [] (fresh settings sessions) end calls
    told run
    (record {
      tags_are = ap (λ (s : LinkedSessions). map tag_of (numbers_under s.sent)) (sym new.is);
      tags_fit = subst (λ (s : LinkedSessions). s.sent < 2 ^ 64) (sym new.is) (omega arith);
      numbers_are = ap (λ (s : LinkedSessions). numbers_under s.given) (sym new.is);
    })

module _ (seen : List Event) (tags : List (List ℕ)) (s : LinkedSessions) (c : Counts seen tags s) where
  -- the tag at a place is that of its number, which eight bytes hold
  tag-at : (n : ℕ) (tag : List ℕ) → slice_get tags n ≡ Some tag → (n < 2 ^ 64) × (tag_of n ≡ tag)
  tag-at n tag is =
      by (slice_get (numbers_under s.sent) n) refl
      (sym (slice_get-map tag_of (numbers_under s.sent) n)
      ∙ sym (ap (λ (ts : List (List ℕ)). slice_get ts n) c.tags_are) ∙ is)
    where
      by : (found : Option ℕ) → slice_get (numbers_under s.sent) n ≡ found → option_map tag_of found ≡ Some tag
          → (n < 2 ^ 64) × (tag_of n ≡ tag)
      by None there is = absurd (none-some _ is)
      by (Some k) there is = (
        omega (arith, below-count s.sent n k there, c.tags_fit),
        ap tag_of (sym (at-under s.sent n k there)) ∙ same_Some _ _ is,
      )

  pub tags-apart : (m n : ℕ) (tag : List ℕ) → slice_get tags m ≡ Some tag → slice_get tags n ≡ Some tag → m ≡ n
  tags-apart m n tag a b =
      let first = tag-at m tag a in
      let second = tag-at n tag b in
      same-tags m n first.0 second.0 (first.1 ∙ sym second.1)

pub numbers-apart : (numbers : List ℕ) (given : ℕ) → numbers ≡ numbers_under given → (m n number : ℕ)
    → slice_get numbers m ≡ Some number → slice_get numbers n ≡ Some number → m ≡ n
numbers-apart numbers given are m n number a b =
    sym (at-under given m number (sym (ap (λ (ns : List ℕ). slice_get ns m) are) ∙ a))
    ∙ at-under given n number (sym (ap (λ (ns : List ℕ). slice_get ns n) are) ∙ b)
