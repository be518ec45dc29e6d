-- A link that attaches in a session, whether it is new or was at rest.
use Rattle.std.proofs.Common.{◌≡◌, ◌≢◌, ◌==◌, ℕ, false, List, [], Option, Some, None, ap, refl, subst, sym, ◌∙◌}
use Rattle.std.proofs.lemmas.Bool.{eq-eqb}
use Rattle.std.proofs.lemmas.Option.{none-some, same_Some}
use Rattle.amqp_session_performatives.specs.declared.session_frame.SessionFrame.{SessionFrame}
use Rattle.amqp_link.specs.declared.end.End.{End}
use Rattle.amqp_link.specs.declared.end.End.TheVariants.{Receiver, Sender}
use Rattle.amqp_endpoint_attached.specs.Ends.{role_of}
use Rattle.amqp_endpoint_attached.specs.Links.{own_attach}
use Rattle.amqp_session_types.specs.declared.handles.OutputHandle.{OutputHandle}
use Rattle.amqp_endpoint_model.specs.declared.event.Event.{Event}
use Rattle.amqp_endpoint_tables.specs.LinkState.{held_at, held_of}
use Rattle.amqp_endpoint_tables.specs.LinkSteps.{Enters, Holds, Step}
use Rattle.amqp_endpoint_tables.specs.OwnLinks.{slot_at}
use Rattle.amqp_endpoint_tables.specs.declared.link_place.LinkPlace.{LinkPlace}
use Rattle.amqp_endpoint_tables.specs.declared.link_place.LinkPlace.TheVariants.{AtRest, Held}
use Rattle.amqp_endpoint_tables.proofs.OwningLinks.{at}
use Rattle.amqp_endpoint_linking.specs.Linking.{Links, Talk}
use Rattle.amqp_endpoint_link_calls.specs.Attaching.{AttachesIn, with_room}
use Rattle.amqp_endpoint_link_calls.specs.Naming.{name_of}
use Rattle.amqp_endpoint_link_calls.specs.declared.placed.Placed.{Placed}
use Rattle.amqp_endpoint.specs.Attaching.{LinkAttached, LinkResumed}
use Rattle.amqp_endpoint.specs.declared.linked.LinkedSessions.{LinkedSessions}
use Rattle.amqp_endpoint_laws.proofs.Parted.{entered, holder}

-- what it hands out
pub record GoesOut (old : Talk) (limit session : ℕ) (link : End) (placed : Placed) (out : List SessionFrame)
    (new : Talk)
    : Type 0 where
  pub frames : List SessionFrame
  pub attaches : AttachesIn old [] limit session link placed new frames
  pub queued : out ≡ frames

-- no session held it, and one holds it from then on; no other link changes
pub record IsPlaced (old : Talk) (links : Links) (limit session : ℕ) (link : End) (number : ℕ) (events : List Event)
    (out : List SessionFrame) (new : Talk) (links_new : Links) : Type 0 where
  pub placed : Placed
  pub attaches : GoesOut old limit session link placed out new
  pub numbered : number ≡ placed.link
  pub told : events ≡ placed.events.items
  pub vacant : held_at links placed.link ≡ None
  pub unclosed : slot_at links placed.link ≢ Some None
  pub held : held_at links_new placed.link ≡ Some (session, placed.handle)
  pub other : (n : ℕ) → (n == placed.link) ≡ false → slot_at links_new n ≡ slot_at links n

module _ (old new : Talk) (links links_new : Links) (limit session : ℕ) where
  abbrev pub is-new : (link : End) (number : ℕ) (events : List Event) (frames : List SessionFrame)
      → LinkAttached old links limit session link number events frames new links_new
      → IsPlaced old links limit session link number events frames new links_new
  is-new link number events frames a =
      let l = a.attaches in
      let e =
      entered a.placed.link (name_of link) session a.placed.handle (with_room links) links_new l.entered in
      record {
        placed = a.placed;
        attaches = record { frames = l.frames; attaches = l.attaches; queued = l.queued };
        numbered = a.numbered;
        told = a.told;
        vacant = ap holder e.none;
        unclosed = λ closed. none-some _ (sym e.none ∙ closed);
        held = e.held;
        other = e.other;
      }

  abbrev pub is-again : (link number : ℕ) (events : List Event) (frames : List SessionFrame)
      → (r : LinkResumed old links limit link session number events frames new links_new)
      → IsPlaced old links limit session r.resumes.link link events frames new links_new
  is-again link number events frames r =
      let it = r.placed in
      let i = r.resumes in
      let holds : Step links (Holds it.link session it.handle i.link) links_new =
      subst (λ (k : ℕ). Step links (Holds k session it.handle i.link) links_new) (sym i.numbered) i.held in
      let (stood, was, stands, is) =
      (at it.link links (Holds it.link session it.handle i.link) links_new holds).about (eq-eqb it.link it.link refl) in
      record {
        placed = it;
        attaches = record { frames = i.frames; attaches = i.attaches; queued = i.queued };
        numbered = sym i.numbered;
        told = r.told;
        vacant = ap holder was ∙ ap (λ (p : LinkPlace End). held_of (Some p)) stands;
        unclosed = λ closed. none-some stood (same_Some _ _ (sym closed ∙ was));
        held = ap holder is;
        other = λ n apart. (at n links (Holds it.link session it.handle i.link) links_new holds).other apart;
      }

-- a new one was in no table before, and is held there under its handle
module _ (old new : LinkedSessions) (limit number : ℕ) (it : End) (link : ℕ) (events : List Event)
    (frames : List SessionFrame)
    (a : LinkAttached old.talk old.links limit number it link events frames new.talk new.links) where
  pub link-entered : (slot_at old.links link ≡ None)
      × (slot_at new.links link ≡ Some (Some (record { name = name_of it; place = Held number a.placed.handle })))
  link-entered =
      let (none, some) =
      (at a.placed.link (with_room old.links) (Enters a.placed.link (name_of it) number a.placed.handle) new.links
      a.attaches.entered).about
      (eq-eqb a.placed.link a.placed.link refl) in
      (ap (λ (k : ℕ). slot_at old.links k) a.numbered ∙ none, ap (λ (k : ℕ). slot_at new.links k) a.numbered ∙ some)

-- the own Attach of a link has its name, its handle and its role
pub own-name : (it : End) (handle : OutputHandle) → (own_attach it handle).name ≡ name_of it
own-name (Sender s) handle = refl
own-name (Receiver r) handle = refl

pub own-handle : (it : End) (handle : OutputHandle) → (own_attach it handle).handle.0 ≡ handle.0
own-handle (Sender s) handle = refl
own-handle (Receiver r) handle = refl

pub own-role : (it : End) (handle : OutputHandle) → (own_attach it handle).role ≡ role_of it
own-role (Sender s) handle = refl
own-role (Receiver r) handle = refl

-- a link that is held stands so in the table
pub held-place : (o : Option (LinkPlace End)) (session : ℕ) (handle : OutputHandle)
    → held_of o ≡ Some (session, handle) → o ≡ Some (Held session handle)
held-place None session handle is = absurd (none-some _ is)
held-place (Some (AtRest it)) session handle is = absurd (none-some _ is)
held-place (Some (Held n h)) session handle is =
    ap (λ (p : ℕ × OutputHandle). Some (Held p.0 p.1)) (same_Some (n, h) (session, handle) is)
