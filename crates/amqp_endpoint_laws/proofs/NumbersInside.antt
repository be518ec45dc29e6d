-- What is done in a session leaves each link under its handle, but where one attaches or leaves.
use Rattle.std.proofs.Common.{◌≡◌, ℕ, Bool, true, false, List, [], ◌∷◌, Option, Some, None, ap, refl, sym, ◌∙◌, ◌==◌}
use Rattle.std.specs.Prelude.{if◌then◌else◌}
use Rattle.amqp_session_types.specs.declared.error.Error.{Error}
use Rattle.amqp_session_types.specs.declared.handles.InputHandle.{InputHandle}
use Rattle.amqp_session_types.specs.declared.handles.OutputHandle.{OutputHandle}
use Rattle.amqp_session_performatives.specs.declared.disposition.Disposition.{Disposition}
use Rattle.amqp_session_performatives.specs.declared.session_frame.SessionFrame.{SessionFrame}
use Rattle.amqp_session_core.specs.State.{link_at}
use Rattle.amqp_session_core.specs.Steps.{Changes, SendsBehind, SendsDisposition, SendsTransfers, Step}
use Rattle.amqp_session_core.specs.declared.batch.BehindFrame.{BehindFrame}
use Rattle.amqp_session_core.specs.declared.batch.BehindFrame.TheVariants as behind
use Rattle.amqp_session_core.specs.declared.dispositions.Touched.{Touched}
use Rattle.amqp_link.specs.declared.end.End.{End}
use Rattle.amqp_endpoint_links.specs.declared.numbered.Numbered.{Numbered}
use Rattle.amqp_endpoint_model.specs.declared.call.Disposal.{Disposal}
use Rattle.amqp_endpoint_model.specs.declared.call.Sending.{Sending}
use Rattle.amqp_endpoint_model.specs.declared.event.Event.{Event}
use Rattle.amqp_endpoint_attached.specs.Detaching.{DetachGiven, is_there, own_detach}
use Rattle.amqp_endpoint_attached.specs.Linked.{Linked, LinksIn, end_at, end_gives, gives}
use Rattle.amqp_endpoint_attached.specs.Links.{with_number}
use Rattle.amqp_endpoint_attached.specs.Receiving.{receiving}
use Rattle.amqp_endpoint_attached.specs.Sent.{Sends}
use Rattle.amqp_endpoint_messages.specs.Disposing.{DisposesOfAll, DisposesOfOne}
use Rattle.amqp_endpoint_messages.specs.Dispositions.{IsDisposed, SendsEach}
use Rattle.amqp_endpoint_messages.specs.All.{TellsIn, behind_told, open_count}
use Rattle.amqp_endpoint_messages.specs.Echoing.{echoes_of}
use Rattle.amqp_endpoint_messages.specs.Reached.{behind_one, behind_reached, end_behind, link_behind}
use Rattle.amqp_endpoint_link_calls.specs.Attaching.{AttachedBy}
use Rattle.amqp_endpoint_link_calls.specs.declared.placed.Placed.{Placed as PlacedLink}
use Rattle.amqp_endpoint_link_calls.specs.Calling.{Does, detaches, gives_credit, wants_drain}
use Rattle.amqp_endpoint_link_calls.specs.Closing.{closed_end, closes, fails}
use Rattle.amqp_endpoint_link_calls.specs.Disposing.{disposes_of_all, disposes_of_one}
use Rattle.amqp_endpoint_link_calls.specs.Keeping.{kept_tags}
use Rattle.amqp_endpoint_link_calls.specs.Sending.{sends}
use Rattle.amqp_endpoint_link_hearing.specs.Disposing.{TellsAndEchoes}
use Rattle.amqp_endpoint_link_hearing.specs.InSession.{AnswersIf, Closes, ClosesIf}
use Rattle.amqp_endpoint_link_hearing.specs.Transferring.{Remembers, StandsAgain, remembering}
use Rattle.amqp_endpoint_laws.specs.Held.{number_in}
use Rattle.amqp_endpoint_laws.proofs.AttachedBehind.{allocates, goes, roomed}
use Rattle.amqp_endpoint_laws.proofs.Behind.{behind-numbers}
use Rattle.amqp_endpoint_laws.proofs.Numbers.{KeepNumbers, Placed, kept-on, placed, same-kept, step-kept}

-- a session that stays
stays-kept : (old new : Linked) → new ≡ old → KeepNumbers old.session new.session
stays-kept old new same = same-kept old.session new.session (ap (λ (s : Linked). s.session) same)

-- a link is changed, and bears its number still
changed-kept : (handle : ℕ) (before after : Numbered End) (old new : LinksIn)
    → Step gives old (Changes handle before after) new → after.number ≡ before.number → KeepNumbers old new
changed-kept handle before after old new stepped same =
    step-kept end_gives (Changes handle before after) old new stepped same

-- a Flow or a Detach of a link is sent
behind-kept : (handle : OutputHandle) (frame : BehindFrame) (left : Option BehindFrame) (answer : Option SessionFrame)
    (old new : LinksIn) → Step gives old (SendsBehind handle frame left answer) new → KeepNumbers old new
behind-kept handle frame left answer old new stepped =
    step-kept end_gives (SendsBehind handle frame left answer) old new stepped tt

-- a link is changed, and sends such a frame
sent-kept : (handle : OutputHandle) (old new : Linked) (before after : Numbered End) (frame : BehindFrame)
    (frames : List SessionFrame) → Sends old handle before after frame frames new → after.number ≡ before.number
    → KeepNumbers old.session new.session
sent-kept handle old new before after frame frames s same =
    kept-on old.session s.mid new.session (changed-kept handle.0 before after old.session s.mid s.changed same)
    (behind-kept handle frame s.left s.answer s.mid new.session s.sent)

-- its Detach
given-kept : (handle : OutputHandle) (closed : Bool) (error : Option Error) (old new : Linked)
    (frames : List SessionFrame) → DetachGiven old handle closed error [] new frames
    → KeepNumbers old.session new.session
given-kept handle closed error old new frames d =
    sent-kept handle old new (record { number = d.number; link = d.before })
    (record { number = d.number; link = d.after }) (behind.Detach (own_detach handle closed error)) d.frames d.sent refl

-- a link tells of messages
pub told-kept : (count : ℕ) (handle : OutputHandle) (link : Option (Numbered End)) (old new : LinksIn)
    → TellsIn count handle link old new → KeepNumbers old new
told-kept count handle None old new is = same-kept old new is
told-kept count handle (Some link) old new stepped =
    changed-kept handle.0 link (record link { link = behind_told count link.link }) old new stepped refl

-- Dispositions are sent
each-kept : (old : LinksIn) (told : List Disposition) (new : LinksIn) → SendsEach gives old told new
    → KeepNumbers old new
each-kept old [] new is = same-kept old new is
each-kept old (d ∷ rest) new (mid, one, others) =
    kept-on old mid new (step-kept end_gives (SendsDisposition d one.settled) old mid one.stepped tt)
    (each-kept mid rest new others)

-- what is done to the link with a handle leaves the numbers
abbrev pub KeepsAll : Does → Type 0
KeepsAll does =
    (handle : OutputHandle) (before after : Linked) (frames : List SessionFrame) → does handle before frames after
    → KeepNumbers before.session after.session

pub detaches-kept : (closed : Bool) → KeepsAll (detaches closed)
detaches-kept closed handle before after frames d = given-kept handle closed None before after frames d

pub gives-kept : (credit left : ℕ) → KeepsAll (gives_credit credit left)
gives-kept credit left handle before after frames d =
    sent-kept handle before after (receiving d.number d.receiver) _ _ d.frames d.sent refl

pub drains-kept : KeepsAll wants_drain
drains-kept handle before after frames d =
    sent-kept handle before after (receiving d.number d.receiver) _ _ d.frames d.sent refl

pub closes-kept : (events : List Event) → KeepsAll (closes events)
closes-kept events handle before after frames c =
    kept-on before.session (c.mid).session after.session (given-kept handle true None before c.mid frames c.detached)
    (told-kept (open_count (end_at before handle)) handle (link_at (c.mid).session handle.0) (c.mid).session
    after.session (c.tells).tells)

pub sends-kept : (limit : ℕ) (tag : List ℕ) (message : Sending) (settled : Bool)
    → KeepsAll (sends limit tag message settled)
sends-kept limit tag message settled handle before after frames did =
    let s = did.sends in
    kept-on before.session did.mid after.session (changed-kept handle.0 _ _ before.session did.mid did.prepares refl)
    (kept-on did.mid did.taken after.session
    (step-kept end_gives (SendsTransfers handle did.transfers s.left s.frames) did.mid did.taken s.stepped tt)
    (changed-kept handle.0 _ _ did.taken after.session did.commits refl))

-- a link is changed, and Dispositions tell it
disposed-kept : (Disposes : LinksIn → List Disposition → LinksIn → Type 0)
    → ((s : LinksIn) (told : List Disposition) (mid : LinksIn) → Disposes s told mid → KeepNumbers s mid)
    → (limit : ℕ) (before after : Linked) (frames : List SessionFrame)
    → IsDisposed Disposes limit before [] after frames → KeepNumbers before.session after.session
disposed-kept Disposes keep limit before after frames d =
    kept-on before.session d.mid after.session (keep before.session d.told d.mid d.disposes)
    (each-kept d.mid d.told after.session d.sends)

all-disposed : (handle : OutputHandle) (tags : List (List ℕ)) (state : _) (asked : Option Bool)
    (s : LinksIn) (told : List Disposition) (mid : LinksIn) → DisposesOfAll handle tags state asked s told mid
    → KeepNumbers s mid
all-disposed handle tags state asked s told mid d =
    changed-kept handle.0 (receiving d.number d.receiver) _ s mid d.changed refl

one-disposed : (handle : OutputHandle) (tag : List ℕ) (state : _) (asked : Option Bool) (s : LinksIn)
    (told : List Disposition) (mid : LinksIn) → DisposesOfOne handle tag state asked s told mid → KeepNumbers s mid
one-disposed handle tag state asked s told mid d =
    changed-kept handle.0 (receiving d.number d.receiver) _ s mid d.changed refl

pub disposes-kept : (limit : ℕ) (messages : List ℕ) (disposal : Disposal)
    → KeepsAll (disposes_of_all limit messages disposal)
disposes-kept limit messages disposal handle before after frames d =
    let tags : List (List ℕ) = kept_tags (end_at before handle) messages in
    disposed-kept (DisposesOfAll handle tags disposal.state disposal.settled)
    (all-disposed handle tags disposal.state disposal.settled) limit before after frames d

pub disposes-one-kept : (limit message : ℕ) (disposal : Disposal) → KeepsAll (disposes_of_one limit message disposal)
disposes-one-kept limit message disposal handle before after frames d =
    disposed-kept (DisposesOfOne handle d.tag disposal.state disposal.settled)
    (one-disposed handle d.tag disposal.state disposal.settled) limit before after frames d.disposed

pub fails-kept : (link : ℕ) (events : List Event) → KeepsAll (fails link events)
fails-kept link events handle before after frames t =
    changed-kept handle.0 t.it
    (record t.it { link = behind_told (open_count (Some (t.it).link)) (closed_end (t.it).link) }) before.session
    after.session t.ends refl

-- a link that the peer refused, or that refused its peer, is closed
closed-kept : (there : Bool) (why : Option Error) (handle : OutputHandle) (frames : List SessionFrame)
    (old new : Linked) → ClosesIf there why old handle frames new → KeepNumbers old.session new.session
closed-kept true why handle frames old new g = given-kept handle true why old new frames g
closed-kept false why handle frames old new g = stays-kept old new g.0

pub refuses-kept : (why : Option Error) (handle : OutputHandle) (frames : List SessionFrame) (old new : Linked)
    → Closes why handle frames old new → KeepNumbers old.session new.session
refuses-kept why handle frames old new c = closed-kept (is_there (end_at old handle)) why handle frames old new c

-- the peer's Detach is answered, or not
pub answers-kept : (answers : Bool) (handle : OutputHandle) (closed : Bool) (error : Option Error)
    (frames : List SessionFrame) (old new : Linked) → AnswersIf answers old handle closed error frames new
    → KeepNumbers old.session new.session
answers-kept true handle closed error frames old new r =
    let s = r.said in
    behind-kept handle (behind.Detach (own_detach handle closed error)) s.left s.answer old.session new.session s.sent
answers-kept false handle closed error frames old new r = stays-kept old new r.0

-- links tell what became of messages
reached-kept : (s : LinksIn) (deliveries : List Touched) → KeepNumbers s (behind_reached s deliveries)
reached-kept s [] = same-kept s s refl
reached-kept s (delivery ∷ rest) =
    kept-on s (behind_one s delivery) (behind_reached (behind_one s delivery) rest)
    (at (link_at s delivery.handle.0) refl)
    (reached-kept (behind_one s delivery) rest)
  where
    at : (o : Option (Numbered End)) → link_at s delivery.handle.0 ≡ o
        → KeepNumbers s (link_behind s delivery.handle.0 delivery.tag o)
    at None there = same-kept s s refl
    at (Some link) there =
        changed-kept delivery.handle.0 link (record link { link = end_behind delivery.tag link.link }) s
        (link_behind s delivery.handle.0 delivery.tag (Some link)) (there, refl) refl

pub echoes-kept : (deliveries : List Touched) (state : _) (runs : List (ℕ × ℕ))
    (frames : List SessionFrame) (events : List Event) (old new : Linked)
    → TellsAndEchoes deliveries state runs frames events old new → KeepNumbers old.session new.session
echoes-kept deliveries state runs frames events old new t =
    kept-on old.session (behind_reached old.session deliveries) new.session (reached-kept old.session deliveries)
    (each-kept (behind_reached old.session deliveries) (echoes_of state runs) new.session (t.echoes).sends)

-- a link remembers the number of a message
pub remembers-kept : (handle : OutputHandle) (tag : List ℕ) (number : ℕ) (old new : Linked)
    → Remembers handle tag number old new → KeepNumbers old.session new.session
remembers-kept handle tag number old new r =
    changed-kept handle.0 r.link (record r.link { link = remembering (r.link).link tag number }) old.session new.session
    r.changed refl

-- or stands as it stood before
pub again-kept : (handle : OutputHandle) (link : Numbered End) (old new : Linked) → StandsAgain handle link old new
    → KeepNumbers old.session new.session
again-kept handle link old new r =
    changed-kept handle.0 r.spent link old.session new.session r.changed (sym r.number)

-- a link attaches: it comes to stand under its handle
module _ (before after : Linked) (limit : ℕ) (link : End) (it : PlacedLink) (frames : List SessionFrame) where
  pub attached-placed : (input : Option InputHandle) → AttachedBy input before [] limit link it after frames
      → Placed (it.handle).0 it.link before.session after.session
  attached-placed None (a, told) =
      placed end_gives (it.handle).0 (with_number it.link a.attaching) None before.session after.session a.allocates
  attached-placed (Some input) a =
      let h = (it.handle).0 in
      let p =
      placed end_gives h (with_number it.link (a.answers).becomes) (Some input.0) (a.ready).session (a.mid).session
      (allocates before after limit link it frames input a) in
      let same : (other : ℕ) → number_in (a.ready).session other ≡ number_in before.session other = λ other.
      ap (λ (s : LinksIn). number_in s other) (roomed before after limit link it frames input a) in
      record {
        none = sym (same h) ∙ p.none;
        here = λ other.
            behind-numbers a.frames a.mid after (goes before after limit link it frames input a) other
            ∙ p.here other
            ∙ ap (λ (n : Option ℕ). if other == h then Some it.link else n) (same other);
      }
