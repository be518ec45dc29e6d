-- Links that are closed since nothing goes back of their deliveries.
use Rattle.std.proofs.Common.{◌≡◌, ◌≢◌, ◌≤◌, ◌+◌, ◌⊎◌, inl, inr, ℕ, Bool, true, false, List, [], ◌∷◌, ◌++◌, Option}
use Rattle.std.proofs.Common.{Some, None, IsSome, All, map, length, drop, arith, refl, sym, ap, subst, ◌∙◌, append-nil}
use Rattle.std.proofs.Common.{append_assoc}
use Rattle.std.specs.Prelude.{◌==◌, ◌&&◌, ◌||◌, if◌then◌else◌, option_map, slice_index_or, slice_set, is_some}
use Rattle.std.specs.Box.{with_value}
use Rattle.std.specs.Map.{keys_of}
use Rattle.std.proofs.lemmas.Bool.{false≢true}
use Rattle.std.proofs.lemmas.Bool.Decides.{eqb_tells}
use Rattle.std.proofs.lemmas.List.{drop_all, length-append, length-map, nil_from_length}
use Rattle.std.proofs.lemmas.List.Elements.{All-append, All-cons, All-head, All-nil, All-tail}
use Rattle.std.proofs.lemmas.Option.{none-some, same_Some}
use Rattle.amqp_session_types.specs.declared.error.Error.{Error}
use Rattle.amqp_session_types.specs.declared.handles.OutputHandle.{OutputHandle}
use Rattle.amqp_session_performatives.specs.declared.session_frame.SessionFrame.{SessionFrame}
use Rattle.amqp_session_states.specs.declared.delivery_state.DeliveryState.{DeliveryState}
use Rattle.amqp_session_outgoing.specs.Frames.{last_room}
use Rattle.amqp_session_outgoing.specs.Queues.{FollowsIn, Queues, trailed, units_of}
use Rattle.amqp_session_outgoing.proofs.Order.{followed-units}
use Rattle.amqp_session_core.specs.declared.batch.BehindFrame.{BehindFrame}
use Rattle.amqp_session_core.specs.declared.batch.TransferFrame.{TransferFrame}
use Rattle.amqp_session_core.specs.declared.dispositions.Touched.{Touched}
use Rattle.amqp_session_core.specs.declared.fields.SessionFields.{SessionFields}
use Rattle.amqp_session_core.specs.State.{link_at}
use Rattle.amqp_link_base.specs.State.{after_send_detach, is_attached}
use Rattle.amqp_link_base.specs.declared.base.LinkBase.{LinkBase}
use Rattle.amqp_link_base.specs.declared.state.LinkState.{LinkState}
use Rattle.amqp_link_base.specs.declared.state.LinkState.TheVariants as state
use Rattle.amqp_link_unsettled.specs.declared.open.Open.{Open}
use Rattle.amqp_link_unsettled.specs.declared.resolution.Failure.TheVariants as failure
use Rattle.amqp_link_unsettled.specs.declared.resolution.Resolution.TheVariants.{Failed}
use Rattle.amqp_link_receiver.specs.Ending as receiver
use Rattle.amqp_link_receiver.specs.State.{ReceiverState}
use Rattle.amqp_link_sender.specs.Ending.{ended}
use Rattle.amqp_link_sender.specs.Sending.{Sending}
use Rattle.amqp_link.specs.declared.end.End.{End}
use Rattle.amqp_link.specs.declared.end.End.TheVariants.{Sender, Receiver}
use Rattle.amqp_endpoint_tables.specs.State.{live_at}
use Rattle.amqp_endpoint_tables.specs.Steps.{ChangesLive, Step}
use Rattle.amqp_endpoint_fitting.specs.Read.{IsRead}
use Rattle.amqp_endpoint_model.specs.State.{error_of, fits, frame_of}
use Rattle.amqp_endpoint_model.specs.Step.{not_allowed}
use Rattle.amqp_endpoint_model.specs.declared.event.Event.{Event}
use Rattle.amqp_endpoint_conversation.specs.Going.{Goes, Rests}
use Rattle.amqp_endpoint_conversation.proofs.Calls.{changed-goes, changed-rests}
use Rattle.amqp_endpoint_attached.specs.Detaching.{DetachGiven, detach_sent, is_there, own_detach}
use Rattle.amqp_endpoint_attached.specs.Linked.{Linked, LinksIn, end_at, gives}
use Rattle.amqp_endpoint_messages.specs.All.{TellsIn, behind_told, first_told, open_count}
use Rattle.amqp_endpoint_messages.specs.Echoing.{echoes_of}
use Rattle.amqp_endpoint_messages.specs.Outcomes.{NoneUntold, end_untold, link_untold}
use Rattle.amqp_endpoint_messages.specs.Reached.{behind_reached}
use Rattle.amqp_endpoint_messages.proofs.EndedTold.{mapped, set-at}
use Rattle.amqp_endpoint_messages.proofs.Opens.{opens, reached-opens, reached-stays, sent-stays}
use Rattle.amqp_endpoint_linking.specs.Linking.{Link, Session, Talk}
use Rattle.amqp_endpoint_linking.specs.Handed.{Hands, Tells}
use Rattle.amqp_endpoint_link_hearing.specs.Disposing.{TellsAndEchoes}
use Rattle.amqp_endpoint_link_hearing.specs.InSession.{Closes, ClosesIf, GoesOn}
use Rattle.amqp_endpoint_link_hearing.specs.Leaving.{HasPlace, detach_frame}
use Rattle.amqp_endpoint_link_hearing.specs.Naming.{link_in, link_of}
use Rattle.amqp_endpoint_link_hearing.specs.Unechoed.{AreFor, CanClose, IsMade, IsRefused, MadeIn, NoneUntoldIn}
use Rattle.amqp_endpoint_link_hearing.specs.Unechoed.{RefusedIf, Refuses, RefusesBehind, TellsSome, handles_in}
use Rattle.amqp_endpoint_link_hearing.specs.Unechoed.{handles_of, has_one, is_attached_at, is_among, is_refused}
use Rattle.amqp_endpoint_link_hearing.specs.Unechoed.{too_large_told, with_handle}
use Rattle.amqp_endpoint_link_hearing.specs.declared.unechoed.Closing.{Closing}
use Rattle.amqp_endpoint_link_hearing.proofs.Leavings.{told-done}
use Rattle.amqp_endpoint_link_hearing.proofs.Lending.{lives}
use Rattle.amqp_endpoint_link_hearing.proofs.Lent.{behind-talk}
use Rattle.amqp_endpoint_messages.proofs.AttachDone.{unchanged}
use Rattle.amqp_endpoint_link_hearing.proofs.Plain.{answers-plain}
use Rattle.amqp_endpoint_link_hearing.proofs.Takes.{IsNumbered}

-- whether a link is attached
abbrev there_of : Option Link → Bool
there_of o = is_there (option_map (λ (l : Link). l.link) o)

-- a link that sends its closing Detach isn't attached any more, and no more messages of it are to be told than were
-- open and to be told before
after-close : (s t : LinkState) → after_send_detach s true ≡ Some t → is_attached t ≡ false
after-close state.Attached t is = ap is_attached (sym (same_Some _ _ is))
after-close state.IncompleteAttachExchanged t is = ap is_attached (sym (same_Some _ _ is))
after-close state.Unattached t is = absurd (none-some t is)
after-close state.AttachSent t is = absurd (none-some t is)
after-close state.IncompleteAttachSent t is = absurd (none-some t is)
after-close state.AttachReceived t is = absurd (none-some t is)
after-close state.IncompleteAttachReceived t is = absurd (none-some t is)
after-close state.DetachSent t is = absurd (none-some t is)
after-close state.Detached t is = absurd (none-some t is)
after-close state.CloseSent t is = absurd (none-some t is)
after-close state.Closed t is = absurd (none-some t is)

record IsShut (before after : End) : Type 0 where
  apart : is_there (Some after) ≡ false
  untold : length (end_untold after) ≤ length (end_untold before) + open_count (Some before)

told-count : (s : Sending) → length (ended s.messages true failure.Closed).resolved
    ≡ length s.messages.resolved + length s.messages.unsettled
told-count s =
    length-append s.messages.resolved
    (map (λ (tag : List ℕ). (tag, Failed failure.Closed)) (keys_of s.messages.unsettled))
    ∙ ap (λ (n : ℕ). length s.messages.resolved + n)
    (length-map (keys_of s.messages.unsettled) (λ (tag : List ℕ). (tag, Failed failure.Closed))
    ∙ length-map s.messages.unsettled (λ (e : List ℕ × Open). e.0))

sender-shut : (s : Sending) (o : Option LinkState) → after_send_detach s.base.local_state true ≡ o → (after : End)
    → option_map Sender
    (option_map
    (λ (b : LinkBase). let x : Sending = record s { base = b; messages = ended s.messages true failure.Closed } in x)
    (option_map (λ (t : LinkState). let b : LinkBase = record s.base { local_state = t } in b) o)) ≡ Some after
    → IsShut (Sender s) after
sender-shut s None moves after is = absurd (none-some after is)
sender-shut s (Some t) moves after is =
    let shut : Sending =
    record s { base = record s.base { local_state = t }; messages = ended s.messages true failure.Closed } in
    let one : IsShut (Sender s) (Sender shut) =
    record { apart = after-close s.base.local_state t moves; untold = omega (arith, told-count s) } in
    subst (IsShut (Sender s)) (same_Some _ _ is) one

receiver-shut : (r : ReceiverState) (o : Option LinkState) → after_send_detach r.base.local_state true ≡ o
    → (after : End)
    → option_map Receiver
    (option_map (λ (b : LinkBase). receiver.ended r b)
    (option_map (λ (t : LinkState). let b : LinkBase = record r.base { local_state = t } in b) o))
    ≡ Some after → IsShut (Receiver r) after
receiver-shut r None moves after is = absurd (none-some after is)
receiver-shut r (Some t) moves after is =
    let one : IsShut (Receiver r) (Receiver (receiver.ended r (record r.base { local_state = t }))) =
    record { apart = after-close r.base.local_state t moves; untold = omega arith } in
    subst (IsShut (Receiver r)) (same_Some _ _ is) one

end-shut : (before after : End) → detach_sent before true ≡ Some after → IsShut before after
end-shut (Sender s) after is = sender-shut s (after_send_detach s.base.local_state true) refl after is
end-shut (Receiver r) after is = receiver-shut r (after_send_detach r.base.local_state true) refl after is

-- the link under a handle, where another is put under one
put-other : (s : LinksIn) (i h : ℕ) (before after : Link) → link_at s i ≡ Some before → (i == h) ≡ false
    → link_at (record s { links = slice_set s.links i (Some after) }) h ≡ link_at s h
put-other s i h before after there ne =
    set-at s.links i h before (λ (l : Link). after) there
    ∙ ap (λ (b : Bool). if b then mapped (λ (l : Link). after) (link_at s h) else link_at s h) ne

put-same : (s : LinksIn) (i h : ℕ) (before after : Link) → link_at s i ≡ Some before → (i == h) ≡ true → i ≡ h
    → link_at (record s { links = slice_set s.links i (Some after) }) h ≡ Some after
put-same s i h before after there eq same =
    set-at s.links i h before (λ (l : Link). after) there
    ∙ ap (λ (b : Bool). if b then mapped (λ (l : Link). after) (link_at s h) else link_at s h) eq
    ∙ ap (λ (o : Option Link). mapped (λ (l : Link). after) o) (ap (λ (n : ℕ). link_at s n) (sym same) ∙ there)

-- what was made ready goes on to serve
pub record Keeps (old new : Linked) : Type 0 where
  pub fields : new.session.fields ≡ old.session.fields
  pub there : (h : OutputHandle) → is_there (end_at new h) ≡ true → is_there (end_at old h) ≡ true
  pub rooms : (h : OutputHandle) → is_there (end_at new h) ≡ true
      → units_of h.0 new.session.outgoing.queues ≡ units_of h.0 old.session.outgoing.queues
  pub opens : (h : OutputHandle) → is_there (end_at new h) ≡ true → open_count (end_at new h) ≤ open_count (end_at old h)

placed-on : (old new : Linked) (h : OutputHandle) (why : Option Error) (place : ℕ)
    → new.session.fields ≡ old.session.fields
    → units_of h.0 new.session.outgoing.queues ≡ units_of h.0 old.session.outgoing.queues
    → HasPlace old h true why place → HasPlace new h true why place
placed-on old new h why place fields units p =
    record {
      room = subst (λ us. last_room 1 us ≤ place) (sym units) p.room;
      fit =
          subst
          (λ (f : SessionFields). fits 512 (frame_of (detach_frame f.channel (own_detach h true why))) ≡ true)
          (sym fields) p.fit;
    }

can-on : (old new : Linked) → Keeps old new → (c : Closing) → (is_there (end_at old c.handle) ≡ true → IsMade old c)
    → is_there (end_at new c.handle) ≡ true → IsMade new c
can-on old new k c made there =
    let m = made (k.there c.handle there) in
    record {
      says = m.says;
      place =
          placed-on old new c.handle c.answer.error c.answer.place k.fields (k.rooms c.handle there) m.place;
      most = omega (arith, k.opens c.handle there, m.most);
    }

-- so it does where nothing of the links changes, but that fewer messages may be open
pub record Same (old new : Linked) : Type 0 where
  pub fields : new.session.fields ≡ old.session.fields
  pub queues : new.session.outgoing.queues ≡ old.session.outgoing.queues
  pub opens : (h : OutputHandle) → open_count (end_at new h) ≤ open_count (end_at old h)

pub made-on : (old new : Linked) → Same old new → (c : Closing) → IsMade old c → IsMade new c
made-on old new s c m =
    record {
      says = m.says;
      place =
          placed-on old new c.handle c.answer.error c.answer.place s.fields
          (ap (λ (qs : Queues TransferFrame BehindFrame). units_of c.handle.0 qs) s.queues) m.place;
      most = omega (arith, s.opens c.handle, m.most);
    }

keeps-same : (old new : Linked) → new ≡ old → Keeps old new
keeps-same old new is =
    subst (λ (s : Linked). Keeps old s) (sym is)
    (record { fields = refl; there = λ h t. t; rooms = λ h t. refl; opens = λ h t. omega arith })

-- a frame goes behind what a link has waiting, and what others have stays
others-wait : (h k : ℕ) (frame : BehindFrame) (left : Option BehindFrame) (qs new : Queues TransferFrame BehindFrame)
    → (k == h) ≡ false → FollowsIn k frame left qs new → units_of h new ≡ units_of h qs
others-wait h k frame None qs new ne f =
    ap (λ (q : Queues TransferFrame BehindFrame). units_of h q) f.1
    ∙ followed-units h k frame qs
    ∙ ap (λ (b : Bool). if b then trailed frame (units_of h qs) else units_of h qs) ne
others-wait h k frame (Some it) qs new ne f = ap (λ (q : Queues TransferFrame BehindFrame). units_of h q) f.2

module _ (handle : OutputHandle) (why : Option Error) (frames : List SessionFrame) (old new : Linked)
    (g : DetachGiven old handle true why [] new frames) where
  abbrev before : Link
  before = record { number = g.number; link = g.before }

  abbrev after : Link
  after = record { number = g.number; link = g.after }

  abbrev put : LinksIn
  put = record old.session { links = slice_set old.session.links handle.0 (Some after) }

  put-is : (g.sent).mid ≡ put
  put-is = (g.sent).changed.1

  found : link_at old.session handle.0 ≡ Some before
  found = (g.sent).changed.0

  links-are : (h : ℕ) → link_at new.session h ≡ link_at put h
  links-are h =
      ap (λ (s : LinksIn). link_at s h) (g.sent).sent.2 ∙ ap (λ (s : LinksIn). link_at s h) put-is

  apart : (h : ℕ) → (handle.0 == h) ≡ false → link_at new.session h ≡ link_at old.session h
  apart h ne = links-are h ∙ put-other old.session handle.0 h before after found ne

  here : (h : ℕ) → (handle.0 == h) ≡ true → handle.0 ≡ h → link_at new.session h ≡ Some after
  here h eq same = links-are h ∙ put-same old.session handle.0 h before after found eq same

  shut : IsShut g.before g.after
  shut = end-shut g.before g.after g.moved

  fields-are : new.session.fields ≡ old.session.fields
  fields-are = ap (λ (s : LinksIn). s.fields) (g.sent).sent.2 ∙ ap (λ (s : LinksIn). s.fields) put-is

  queues-mid : (g.sent).mid.outgoing.queues ≡ old.session.outgoing.queues
  queues-mid = ap (λ (s : LinksIn). s.outgoing.queues) put-is

  given-keeps : Keeps old new
  given-keeps =
      record {
        fields = fields-are;
        there = λ h t. (by h (eqb_tells handle.0 h.0) t).0;
        rooms = λ h t. (by h (eqb_tells handle.0 h.0) t).1;
        opens = λ h t. (by h (eqb_tells handle.0 h.0) t).2;
      }
    where
      by : (h : OutputHandle)
          → (((handle.0 == h.0) ≡ true) × (handle.0 ≡ h.0)) ⊎ (((handle.0 == h.0) ≡ false) × (handle.0 ≢ h.0))
          → is_there (end_at new h) ≡ true
          → (is_there (end_at old h) ≡ true)
          × (units_of h.0 new.session.outgoing.queues ≡ units_of h.0 old.session.outgoing.queues)
          × (open_count (end_at new h) ≤ open_count (end_at old h))
      by h (inl p) t = absurd (false≢true (sym shut.apart ∙ ap there_of (sym (here h.0 p.0 p.1)) ∙ t))
      by h (inr p) t = (
        ap there_of (sym (apart h.0 p.0)) ∙ t,
        others-wait h.0 handle.0 _ (g.sent).left (g.sent).mid.outgoing.queues new.session.outgoing.queues p.0
            (g.sent).sent.0.0
            ∙ ap (λ (q : Queues TransferFrame BehindFrame). units_of h.0 q) queues-mid,
        subst (λ (o : Option Link). opens o ≤ open_count (end_at old h)) (sym (apart h.0 p.0)) (omega arith),
      )

  -- as many messages as were open are to be told of the link, and none of the others
  given-untold : NoneUntold old.session → (h : ℕ)
      → length (link_untold (link_at new.session h))
      ≤ (if handle.0 == h then open_count (end_at old handle) else 0)
  given-untold none h = by (eqb_tells handle.0 h)
    where
      none-before : length (end_untold g.before) ≡ 0
      none-before = ap (λ (o : Option Link). length (link_untold o)) (sym found) ∙ ap length (none handle.0)

      open-before : open_count (end_at old handle) ≡ open_count (Some g.before)
      open-before = ap opens found

      by : (((handle.0 == h) ≡ true) × (handle.0 ≡ h)) ⊎ (((handle.0 == h) ≡ false) × (handle.0 ≢ h))
          → length (link_untold (link_at new.session h))
          ≤ (if handle.0 == h then open_count (end_at old handle) else 0)
      by (inl p) =
          subst
          (λ (b : Bool). length (link_untold (link_at new.session h))
          ≤ (if b then open_count (end_at old handle) else 0)) (sym p.0)
          (subst (λ (o : Option Link). length (link_untold o) ≤ open_count (end_at old handle))
          (sym (here h p.0 p.1)) (omega (arith, shut.untold, none-before, open-before)))
      by (inr p) =
          subst
          (λ (b : Bool). length (link_untold (link_at new.session h))
          ≤ (if b then open_count (end_at old handle) else 0)) (sym p.0)
          (omega (
            arith,
            ap (λ (o : Option Link). length (link_untold o)) (apart h p.0),
            ap length (none h),
          ))

-- a link is closed, where it is attached
if-keeps : (b : Bool) (handle : OutputHandle) (why : Option Error) (frames : List SessionFrame) (old new : Linked)
    → ClosesIf b why old handle frames new → Keeps old new
if-keeps true handle why frames old new g = given-keeps handle why frames old new g
if-keeps false handle why frames old new g = keeps-same old new g.0

pub closes-keep : (handle : OutputHandle) (why : Option Error) (frames : List SessionFrame) (old new : Linked)
    → Closes why handle frames old new → Keeps old new
closes-keep handle why frames old new c = if-keeps (is_there (end_at old handle)) handle why frames old new c

abbrev Untold : OutputHandle → ℕ → Linked → Type 0
Untold handle count s =
    (h : ℕ) → length (link_untold (link_at s.session h)) ≤ (if handle.0 == h then count else 0)

if-untold : (b : Bool) (handle : OutputHandle) (why : Option Error) (frames : List SessionFrame) (old new : Linked)
    → ClosesIf b why old handle frames new → NoneUntold old.session
    → Untold handle (open_count (end_at old handle)) new
if-untold true handle why frames old new g none = given-untold handle why frames old new g none
if-untold false handle why frames old new g none =
    λ h.
    omega (
      arith,
      ap (λ (s : Linked). length (link_untold (link_at s.session h))) g.0,
      ap length (none h),
    )

-- it tells of messages
abbrev told-link : ℕ → Link → Link
told-link count link = record link { link = behind_told count link.link }

told-there : (count : ℕ) (o : Option Link) → there_of (mapped (told-link count) o) ≡ there_of o
told-there count None = refl
told-there count (Some link) = by link.link
  where
    by : (e : End) → is_there (Some (behind_told count e)) ≡ is_there (Some e)
    by (Sender s) = refl
    by (Receiver r) = refl

told-opens : (count : ℕ) (o : Option Link) → opens (mapped (told-link count) o) ≡ opens o
told-opens count None = refl
told-opens count (Some link) = by link.link
  where
    by : (e : End) → open_count (Some (behind_told count e)) ≡ open_count (Some e)
    by (Sender s) = refl
    by (Receiver r) = refl

told-untold : (count : ℕ) (o : Option Link)
    → link_untold (mapped (told-link count) o) ≡ drop count (link_untold o)
told-untold count None = sym (drop_all count [] (omega arith))
told-untold count (Some link) = by link.link
  where
    by : (e : End) → end_untold (behind_told count e) ≡ drop count (end_untold e)
    by (Sender s) = refl
    by (Receiver r) = sym (drop_all count [] (omega arith))

-- a link tells: the others stay
record TellsOf (count : ℕ) (handle : OutputHandle) (old new : LinksIn) : Type 0 where
  links : (h : ℕ) → link_at new h
      ≡ (if handle.0 == h then mapped (told-link count) (link_at old h) else link_at old h)
  fields : new.fields ≡ old.fields
  queues : new.outgoing.queues ≡ old.outgoing.queues

tells-at : (count : ℕ) (handle : OutputHandle) (o : Option Link) (old new : LinksIn) → link_at old handle.0 ≡ o
    → TellsIn count handle o old new → TellsOf count handle old new
tells-at count handle None old new there is =
    subst (λ (s : LinksIn). TellsOf count handle old s) (sym is)
    (record { links = λ h. same h (eqb_tells handle.0 h); fields = refl; queues = refl })
  where
    same : (h : ℕ) → (((handle.0 == h) ≡ true) × (handle.0 ≡ h)) ⊎ (((handle.0 == h) ≡ false) × (handle.0 ≢ h))
        → link_at old h ≡ (if handle.0 == h then mapped (told-link count) (link_at old h) else link_at old h)
    same h (inl p) =
        let none : link_at old h ≡ None = ap (λ (n : ℕ). link_at old n) (sym p.1) ∙ there in
        none
        ∙ ap (λ (o : Option Link). mapped (told-link count) o) (sym none)
        ∙ ap (λ (b : Bool). if b then mapped (told-link count) (link_at old h) else link_at old h) (sym p.0)
    same h (inr p) =
        ap (λ (b : Bool). if b then mapped (told-link count) (link_at old h) else link_at old h) (sym p.0)
tells-at count handle (Some link) old new there step =
    record {
      links = λ h.
          ap (λ (s : LinksIn). link_at s h) step.1 ∙ set-at old.links handle.0 h link (told-link count) there;
      fields = ap (λ (s : LinksIn). s.fields) step.1;
      queues = ap (λ (s : LinksIn). s.outgoing.queues) step.1;
    }

module _ (count : ℕ) (handle : OutputHandle) (old new : Linked) (t : TellsSome count handle old new) where
  at : TellsOf count handle old.session new.session
  at = tells-at count handle (link_at old.session handle.0) old.session new.session refl t.tells

  there-same : (h : ℕ) → there_of (link_at new.session h) ≡ there_of (link_at old.session h)
  there-same h = ap there_of (at.links h) ∙ by (handle.0 == h)
    where
      by : (b : Bool)
          → there_of (if b then mapped (told-link count) (link_at old.session h) else link_at old.session h)
          ≡ there_of (link_at old.session h)
      by true = told-there count (link_at old.session h)
      by false = refl

  opens-same : (h : ℕ) → opens (link_at new.session h) ≡ opens (link_at old.session h)
  opens-same h = ap opens (at.links h) ∙ by (handle.0 == h)
    where
      by : (b : Bool)
          → opens (if b then mapped (told-link count) (link_at old.session h) else link_at old.session h)
          ≡ opens (link_at old.session h)
      by true = told-opens count (link_at old.session h)
      by false = refl

  some-keeps : Keeps old new
  some-keeps =
      record {
        fields = at.fields;
        there = λ h t. sym (there-same h.0) ∙ t;
        rooms = λ h t. ap (λ (q : Queues TransferFrame BehindFrame). units_of h.0 q) at.queues;
        opens = λ h t. omega (arith, opens-same h.0);
      }

  some-told : Untold handle count old → NoneUntold new.session
  some-told few h = ap link_untold (at.links h) ∙ by (handle.0 == h) (few h)
    where
      by : (b : Bool) → length (link_untold (link_at old.session h)) ≤ (if b then count else 0)
          → link_untold (if b then mapped (told-link count) (link_at old.session h) else link_at old.session h) ≡ []
      by true short =
          told-untold count (link_at old.session h) ∙ drop_all count (link_untold (link_at old.session h)) short
      by false short = nil_from_length (link_untold (link_at old.session h)) (omega (arith, short))

-- the sessions, once one goes on
pub live-behind : (old new : Talk) (session : ℕ) (before after : Session)
    → Step old.sessions (ChangesLive session before after) new.sessions → live_at new.sessions session ≡ Some after
live-behind old new session before after st =
    ap (λ s. live_at s session) st.1 ∙ lives old.sessions session after before st.0

can-behind : (old new : Talk) (session : ℕ) (before after : Session)
    → Step old.sessions (ChangesLive session before after) new.sessions → Keeps before.value after.value
    → (c : Closing) → CanClose old session c → CanClose new session c
can-behind old new session before after st k c can s live there =
    let is : s ≡ after = same_Some _ _ (sym live ∙ live-behind old new session before after st) in
    subst (λ (x : Session). IsMade x.value c) (sym is)
    (can-on before.value after.value k c (can before st.0)
    (subst (λ (x : Session). is_there (end_at x.value c.handle) ≡ true) is there))

pub closed-can : (old new : Talk) (session : ℕ) (handle : OutputHandle) (why : Option Error)
    (frames : List SessionFrame) → GoesOn (Closes why handle frames) old session new → (c : Closing)
    → CanClose old session c → CanClose new session c
closed-can old new session handle why frames g c can =
    can-behind old new session g.before g.after g.stepped
    (closes-keep handle why frames g.before.value g.after.value g.done) c can

pub told-can : (old new : Talk) (session : ℕ) (handle : OutputHandle) (count : ℕ)
    → GoesOn (TellsSome count handle) old session new → (c : Closing) → CanClose old session c
    → CanClose new session c
told-can old new session handle count g c can =
    can-behind old new session g.before g.after g.stepped
    (some-keeps count handle g.before.value g.after.value g.done) c can

pub made-can : (old new : Talk) (session : ℕ) (before after : Session)
    → Step old.sessions (ChangesLive session before after) new.sessions → Same before.value after.value
    → (c : Closing) → MadeIn old session c → CanClose new session c
made-can old new session before after st same c made s live there =
    let is : s ≡ after = same_Some _ _ (sym live ∙ live-behind old new session before after st) in
    subst (λ (x : Session). IsMade x.value c) (sym is)
    (made-on before.value after.value same c (made before st.0))

-- where links tell what became of messages, and Dispositions go back
pub echoed-same : (deliveries : List Touched) (told : Option DeliveryState) (runs : List (ℕ × ℕ)) (frames : List SessionFrame)
    (events : List Event) (old new : Linked) → TellsAndEchoes deliveries told runs frames events old new → Same old new
echoed-same deliveries told runs frames events old new t =
    let mid : LinksIn = behind_reached old.session deliveries in
    let reached = reached-stays old.session deliveries in
    let sent = sent-stays mid (echoes_of told runs) new.session (t.echoes).sends in
    record {
      fields = sent.0.fields ∙ reached.fields;
      queues = sent.0.queues ∙ reached.queues;
      opens = λ h.
          omega (
            arith,
            ap (λ (ls : List (Option Link)). opens (slice_index_or ls h.0 None)) sent.1,
            reached-opens old.session deliveries h.0,
          );
    }

-- a link that tells of messages hands out nothing
pub some-goes : (old new : Talk) (session : ℕ) (handle : OutputHandle) (count limit : ℕ) (out : List SessionFrame)
    → GoesOn (TellsSome count handle) old session new → Goes limit old new out out
some-goes old new session handle count limit out g =
    let d =
    told-done limit count handle (link_at g.before.value.session handle.0) g.before.value g.after.value g.after.value []
    (g.done).tells (g.done).rest (unchanged limit g.after.value [] g.after.value refl refl) in
    subst (λ (o : List SessionFrame). Goes limit old new out o) (append-nil out)
    (changed-goes gives limit session old new g.before g.after d.steps [] out g.stepped d.history answers-plain d.sends
    d.ends d.hand (All-nil IsRead))

pub some-rests : (old new : Talk) (session : ℕ) (handle : OutputHandle) (count : ℕ) (out : List SessionFrame)
    → GoesOn (TellsSome count handle) old session new → Rests old new out out
some-rests old new session handle count out g = changed-rests session old new g.before g.after out out g.stepped

-- a link is closed, and that is told, and of its messages
module _ (old mid new : Talk) (session : ℕ) (handle : OutputHandle) (number : ℕ)
    (n : IsNumbered old session handle number) (why : Option Error) (says : why ≡ Some (error_of not_allowed))
    (count : ℕ) (counts : count ≡ opens (link_of old session handle)) (out out_new : List SessionFrame)
    (events events_mid events_new : List Event) where
  counted : count ≡ open_count (Some (n.link).link)
  counted = counts ∙ ap opens n.there

  pub is-refused : Hands (λ (frames : List SessionFrame). GoesOn (Closes why handle frames) old session mid) out out_new
      → events_mid ≡ events ++ too_large_told session number
      → GoesOn (TellsSome count handle) mid session new
      → events_new ≡ events_mid ++ first_told count None (link_of mid session handle)
      → Tells (λ (frames : List SessionFrame) (told : List Event).
      IsRefused session handle old frames told new) out events out_new events_new
  is-refused h are g more =
      let told : List Event = first_told count None (link_of mid session handle) in
      record {
        frames = h.frames;
        events = too_large_told session number ++ told;
        is_so =
            record {
              link = n.link;
              there = n.there;
              mid = mid;
              closes =
                  subst (λ (w : Option Error). GoesOn (Closes w handle h.frames) old session mid) says h.is_so;
              fails = subst (λ (k : ℕ). GoesOn (TellsSome k handle) mid session new) counted g;
              tells =
                  ap (λ (k : ℕ). too_large_told session k ++ told) n.is
                  ∙ ap (λ (k : ℕ).
                  too_large_told session (n.link).number ++ first_told k None (link_of mid session handle)) counted;
            };
        queued = h.queued;
        are_told =
            more
            ∙ ap (λ (l : List Event). l ++ told) are
            ∙ append_assoc events (too_large_told session number) told;
      }

-- it was attached, so it is there, and what was made ready serves
is-some : (o : Option Link) → there_of o ≡ true → IsSome o
is-some None t = absurd (false≢true t)
is-some (Some link) t = refl

pub attached-there : (talk : Talk) (session : ℕ) (handle : OutputHandle) → is_attached_at talk session handle ≡ true
    → IsSome (link_of talk session handle)
attached-there talk session handle t = is-some (link_of talk session handle) t

some-live : (o : Option Session) (handle : OutputHandle) → IsSome (link_in o handle) → (s : Session) × (o ≡ Some s)
some-live None handle is = absurd cc
some-live (Some s) handle is = (s, refl)

pub attached-made : (talk : Talk) (session : ℕ) (c : Closing) → is_attached_at talk session c.handle ≡ true
    → CanClose talk session c → (s : Session) → live_at talk.sessions session ≡ Some s → IsMade s.value c
attached-made talk session c t can s live =
    can s live (ap (λ (o : Option Session). there_of (link_in o c.handle)) (sym live) ∙ t)

pub attached-most : (talk : Talk) (session : ℕ) (c : Closing) → is_attached_at talk session c.handle ≡ true
    → CanClose talk session c → opens (link_of talk session c.handle) ≤ c.count
attached-most talk session c t can =
    let (s, live) =
    some-live (live_at talk.sessions session) c.handle (attached-there talk session c.handle t) in
    let m = attached-made talk session c t can s live in
    subst (λ (o : Option Session). opens (link_in o c.handle) ≤ c.count) (sym live) m.most

pub closed-live : (Does : Linked → Linked → Type 0) (old new : Talk) (session : ℕ) → GoesOn Does old session new
    → IsSome (live_at new.sessions session)
closed-live Does old new session g =
    ap is_some (live-behind old new session g.before g.after g.stepped)

pub attached-says : (talk : Talk) (session : ℕ) (c : Closing) → is_attached_at talk session c.handle ≡ true
    → CanClose talk session c → c.answer.error ≡ Some (error_of not_allowed)
attached-says talk session c t can =
    let (s, live) =
    some-live (live_at talk.sessions session) c.handle (attached-there talk session c.handle t) in
    (attached-made talk session c t can s live).says

true-left : (a b : Bool) → (a && b) ≡ true → a ≡ true
true-left true b is = refl
true-left false b is = absurd (false≢true is)

pub refused-attached : (talk : Talk) (session : ℕ) (runs : List (ℕ × ℕ)) (deliveries : List Touched)
    (handle : OutputHandle) → is_refused talk session runs deliveries handle ≡ true
    → is_attached_at talk session handle ≡ true
refused-attached talk session runs deliveries handle is =
    true-left (is_attached_at talk session handle) (has_one runs handle.0 deliveries) is

-- in the session that is lent a link tells
pub lent-tells : (old : Talk) (session : ℕ) (lent : Session) → Some lent ≡ live_at old.sessions session
    → (earlier after : Linked) → earlier ≡ lent.value → (count : ℕ) (handle : OutputHandle)
    → TellsSome count handle earlier after
    → GoesOn (TellsSome count handle) old session (behind-talk old session lent after)
lent-tells old session lent is earlier after same count handle t =
    record {
      before = lent;
      after = with_value lent after;
      done = subst (λ (s : Linked). TellsSome count handle s after) same t;
      stepped = (sym is, refl);
      rest = refl;
    }

-- one that is closed has told of its messages
pub refused-told : (old new : Talk) (session : ℕ) (handle : OutputHandle) (frames : List SessionFrame)
    (events : List Event) → IsRefused session handle old frames events new → NoneUntoldIn old session
    → NoneUntoldIn new session
refused-told old new session handle frames events r none s live =
    let a = r.closes in
    let b = r.fails in
    let behind : b.before ≡ a.after =
    same_Some _ _ (sym b.stepped.0 ∙ live-behind old r.mid session a.before a.after a.stepped) in
    let is : s ≡ b.after =
    same_Some _ _ (sym live ∙ live-behind r.mid new session b.before b.after b.stepped) in
    let count : open_count (end_at a.before.value handle) ≡ open_count (Some (r.link).link) =
    ap (λ (o : Option Session). opens (link_in o handle)) (sym a.stepped.0) ∙ ap opens r.there in
    let few : Untold handle (open_count (Some (r.link).link)) a.after.value =
    subst (λ (k : ℕ). Untold handle k a.after.value) count
    (if-untold (is_there (end_at a.before.value handle)) handle (Some (error_of not_allowed)) frames a.before.value
    a.after.value a.done (none a.before a.stepped.0)) in
    subst (λ (x : Session). NoneUntold x.value.session) (sym is)
    (some-told (open_count (Some (r.link).link)) handle b.before.value b.after.value b.done
    (subst (λ (x : Session). Untold handle (open_count (Some (r.link).link)) x.value) (sym behind) few))

if-told : (b : Bool) (old new : Talk) (session : ℕ) (handle : OutputHandle) (frames : List SessionFrame)
    (events : List Event) → RefusedIf b session handle old frames events new → NoneUntoldIn old session
    → NoneUntoldIn new session
if-told true old new session handle frames events r none = refused-told old new session handle frames events r none
if-told false old new session handle frames events r none =
    subst (λ (t : Talk). NoneUntoldIn t session) (sym r.2) none

pub all-told : (session : ℕ) (runs : List (ℕ × ℕ)) (deliveries : List Touched) (handles : List OutputHandle)
    (old new : Talk) (frames : List SessionFrame) (events : List Event)
    → Refuses session runs deliveries handles old frames events new → NoneUntoldIn old session
    → NoneUntoldIn new session
all-told session runs deliveries [] old new frames events r none =
    subst (λ (t : Talk). NoneUntoldIn t session) (sym r.2) none
all-told session runs deliveries (handle ∷ handles) old new frames events
    (own, told, mid, later, later_told, one, others, f, e) none =
    all-told session runs deliveries handles mid new later later_told others
    (if-told (is_refused old session runs deliveries handle) old mid session handle own told one none)

-- of no run no link is closed
false-and : (a b : Bool) → b ≡ false → (a && b) ≡ false
false-and true b is = is
false-and false b is = refl

none-in : (handle : ℕ) (deliveries : List Touched) → has_one [] handle deliveries ≡ false
none-in handle [] = refl
none-in handle (d ∷ ds) =
    ap (λ (b : Bool). b || has_one [] handle ds) (false-and (d.handle.0 == handle) false refl) ∙ none-in handle ds

none-refused : (session : ℕ) (deliveries : List Touched) (handles : List OutputHandle) (talk : Talk)
    → Refuses session [] deliveries handles talk [] [] talk
none-refused session deliveries [] talk = (refl, refl, refl)
none-refused session deliveries (handle ∷ handles) talk = (
  [],
  [],
  talk,
  [],
  [],
  subst (λ (b : Bool). RefusedIf b session handle talk [] [] talk)
      (sym
      (false-and (is_attached_at talk session handle) (has_one [] handle.0 deliveries)
      (none-in handle.0 deliveries)))
      (refl, refl, refl),
  none-refused session deliveries handles talk,
  refl,
  refl,
)

-- so those for which something was made ready are all
pub for-all : (session : ℕ) (runs : List (ℕ × ℕ)) (deliveries : List Touched) (fit : Bool)
    (handles : List OutputHandle) (old new : Talk) (frames : List SessionFrame) (events : List Event)
    → AreFor fit deliveries handles → (fit ≡ true → runs ≡ [])
    → Refuses session runs deliveries handles old frames events new
    → Refuses session runs deliveries (handles_of deliveries) old frames events new
for-all session runs deliveries false handles old new frames events are none r =
    subst (λ (hs : List OutputHandle). Refuses session runs deliveries hs old frames events new) are r
for-all session runs deliveries true handles old new frames events are none r =
    let nothing : Refuses session runs deliveries [] old frames events new =
    subst (λ (hs : List OutputHandle). Refuses session runs deliveries hs old frames events new) are r in
    subst (λ (t : Talk). Refuses session runs deliveries (handles_of deliveries) old frames events t)
    (sym nothing.2)
    (subst (λ (fs : List SessionFrame). Refuses session runs deliveries (handles_of deliveries) old fs events old)
    (sym nothing.0)
    (subst (λ (es : List Event). Refuses session runs deliveries (handles_of deliveries) old [] es old)
    (sym nothing.1)
    (subst (λ (rs : List (ℕ × ℕ)). Refuses session rs deliveries (handles_of deliveries) old [] [] old)
    (sym (none refl)) (none-refused session deliveries (handles_of deliveries) old))))

-- those that are left behind one that was refused, or not
pub left-behind : (session : ℕ) (runs : List (ℕ × ℕ)) (deliveries : List Touched) (closing : Closing)
    (rest left : List Closing) → left ≡ closing ∷ rest → (old mid new : Talk) (out out_mid out_new : List SessionFrame)
    (told told_mid told_new : List Event)
    → Tells (λ (frames : List SessionFrame) (events : List Event).
    RefusedIf (is_refused old session runs deliveries closing.handle) session closing.handle old frames events mid) out
    told out_mid told_mid
    → RefusesBehind session runs deliveries (handles_in rest) mid out_mid told_mid new out_new told_new
    → RefusesBehind session runs deliveries (handles_in left) old out told new out_new told_new
left-behind session runs deliveries closing rest left is old mid new out out_mid out_new told told_mid told_new one
    others =
    subst
    (λ (cs : List Closing).
    RefusesBehind session runs deliveries (handles_in cs) old out told new out_new told_new)
    (sym is) (mid, out_mid, told_mid, one, others)

-- what all of them hand out and tell
pub tells-of : (session : ℕ) (runs : List (ℕ × ℕ)) (deliveries : List Touched) (handles : List OutputHandle)
    (old new : Talk) (out out_new : List SessionFrame) (told told_new : List Event)
    → RefusesBehind session runs deliveries handles old out told new out_new told_new
    → Tells (λ (frames : List SessionFrame) (events : List Event).
    Refuses session runs deliveries handles old frames events new) out told out_new told_new
tells-of session runs deliveries [] old new out out_new told told_new (same, kept, silent) =
    record {
      frames = [];
      events = [];
      is_so = (refl, refl, same);
      queued = kept ∙ sym (append-nil out);
      are_told = silent ∙ sym (append-nil told);
    }
tells-of session runs deliveries (handle ∷ handles) old new out out_new told told_new
    (mid, out_mid, told_mid, one, others) =
    let r = tells-of session runs deliveries handles mid new out_mid out_new told_mid told_new others in
    record {
      frames = one.frames ++ r.frames;
      events = one.events ++ r.events;
      is_so =
          (one.frames, one.events, mid, r.frames, r.events, one.is_so, r.is_so, refl, refl);
      queued =
          r.queued ∙ ap (λ (o : List SessionFrame). o ++ r.frames) one.queued
          ∙ append_assoc out one.frames r.frames;
      are_told =
          r.are_told ∙ ap (λ (e : List Event). e ++ r.events) one.are_told
          ∙ append_assoc told one.events r.events;
    }

-- a link that isn't closed stays
pub stays-so : (b : Bool) (session : ℕ) (handle : OutputHandle) (talk : Talk) (out : List SessionFrame)
    (events : List Event) → b ≡ false
    → Tells (λ (frames : List SessionFrame) (told : List Event).
    RefusedIf b session handle talk frames told talk) out events out events
stays-so b session handle talk out events is =
    record {
      frames = [];
      events = [];
      is_so =
          subst (λ (c : Bool). RefusedIf c session handle talk [] [] talk) (sym is) (refl, refl, refl);
      queued = sym (append-nil out);
      are_told = sym (append-nil events);
    }

pub closes-so : (b : Bool) (session : ℕ) (handle : OutputHandle) (old new : Talk) (out out_new : List SessionFrame)
    (events events_new : List Event) → b ≡ true
    → Tells (λ (frames : List SessionFrame) (told : List Event).
    IsRefused session handle old frames told new) out events out_new events_new
    → Tells (λ (frames : List SessionFrame) (told : List Event).
    RefusedIf b session handle old frames told new) out events out_new events_new
closes-so b session handle old new out out_new events events_new is t =
    record {
      frames = t.frames;
      events = t.events;
      is_so = subst (λ (c : Bool). RefusedIf c session handle old t.frames t.events new) (sym is) t.is_so;
      queued = t.queued;
      are_told = t.are_told;
    }

-- what is so of each link that is closed, and of each that tells, is so of all
module _ (P : List SessionFrame → Talk → Talk → Type 0) (session : ℕ)
    (none : (old new : Talk) → new ≡ old → P [] old new)
    (on : (frames more : List SessionFrame) (old mid new : Talk) → P frames old mid → P more mid new
    → P (frames ++ more) old new)
    (closes : (handle : OutputHandle) (frames : List SessionFrame) (old new : Talk)
    → GoesOn (Closes (Some (error_of not_allowed)) handle frames) old session new → P frames old new)
    (tells : (count : ℕ) (handle : OutputHandle) (old new : Talk)
    → GoesOn (TellsSome count handle) old session new → P [] old new) where
  one-by : (b : Bool) (handle : OutputHandle) (frames : List SessionFrame) (events : List Event) (old new : Talk)
      → RefusedIf b session handle old frames events new → P frames old new
  one-by true handle frames events old new r =
      subst (λ (fs : List SessionFrame). P fs old new) (append-nil frames)
      (on frames [] old r.mid new (closes handle frames old r.mid r.closes) (tells _ handle r.mid new r.fails))
  one-by false handle frames events old new r =
      subst (λ (fs : List SessionFrame). P fs old new) (sym r.0) (none old new r.2)

  pub refuses-by : (runs : List (ℕ × ℕ)) (deliveries : List Touched) (handles : List OutputHandle) (old new : Talk)
      (frames : List SessionFrame) (events : List Event)
      → Refuses session runs deliveries handles old frames events new → P frames old new
  refuses-by runs deliveries [] old new frames events r =
      subst (λ (fs : List SessionFrame). P fs old new) (sym r.0) (none old new r.2)
  refuses-by runs deliveries (handle ∷ handles) old new frames events
      (own, told, mid, later, later_told, one, others, f, e) =
      subst (λ (fs : List SessionFrame). P fs old new) (sym f)
      (on own later old mid new (one-by (is_refused old session runs deliveries handle) handle own told old mid one)
      (refuses-by runs deliveries handles mid new later later_told others))

-- closings are made for one link more, unless it is among them
pub among-same : (handles : List OutputHandle) (handle : OutputHandle) → is_among handle.0 handles ≡ true
    → handles ≡ with_handle handles handle
among-same handles handle is =
    sym (ap (λ (b : Bool). if b then handles else handles ++ handle ∷ []) is)

handles-more : (closings more : List Closing) → handles_in (closings ++ more) ≡ handles_in closings ++ handles_in more
handles-more [] more = refl
handles-more (c ∷ cs) more = ap (λ (hs : List OutputHandle). c.handle ∷ hs) (handles-more cs more)

pub among-more : (closings new : List Closing) (closing : Closing) (handle : OutputHandle)
    → is_among handle.0 (handles_in closings) ≡ false → closing.handle ≡ handle → new ≡ closings ++ closing ∷ []
    → handles_in new ≡ with_handle (handles_in closings) handle
among-more closings new closing handle ne is added =
    ap handles_in added
    ∙ handles-more closings (closing ∷ [])
    ∙ ap (λ (h : OutputHandle). handles_in closings ++ h ∷ []) is
    ∙ sym (ap (λ (b : Bool). if b then handles_in closings else handles_in closings ++ handle ∷ []) ne)

pub made-more : (s : Linked) (closings new : List Closing) (closing : Closing) → new ≡ closings ++ closing ∷ []
    → IsMade s closing → All (IsMade s) closings → All (IsMade s) new
made-more s closings new closing added one all =
    subst (All (IsMade s)) (sym added)
    (All-append (IsMade s) closings (closing ∷ []) all (All-cons (IsMade s) closing [] one (All-nil (IsMade s))))

pub ruleset closing_rules = (among-same, among-more, made-more)

-- the first of them serves, and the others do
pub can-first : (talk : Talk) (session : ℕ) (closing : Closing) (rest left : List Closing) → left ≡ closing ∷ rest
    → All (CanClose talk session) left → CanClose talk session closing
can-first talk session closing rest left is all =
    All-head (CanClose talk session) closing rest (subst (All (CanClose talk session)) is all)

pub can-rest : (talk new : Talk) (session : ℕ) (closing : Closing) (rest left : List Closing) → left ≡ closing ∷ rest
    → ((c : Closing) → CanClose talk session c → CanClose new session c) → All (CanClose talk session) left
    → All (CanClose new session) rest
can-rest talk new session closing rest left is keeps all k d below =
    keeps _ (All-tail (CanClose talk session) closing rest (subst (All (CanClose talk session)) is all) k d below)

-- each of them serves, once what goes back did
pub all-can : (old new : Talk) (session : ℕ) (closings : List Closing)
    → ((c : Closing) → MadeIn old session c → CanClose new session c) → All (MadeIn old session) closings
    → All (CanClose new session) closings
all-can old new session closings keeps all k d below = keeps _ (all k d below)
