-- Links of an endpoint that are given back, or leave their session, are held no longer.
use Rattle.std.proofs.Common.{◌≡◌, ◌==◌, ℕ, Bool, true, false, List, [], ◌∷◌, Option, Some, None, ap, ◌∙◌}
use Rattle.amqp_session_types.specs.declared.handles.OutputHandle.{OutputHandle}
use Rattle.amqp_link.specs.declared.end.End.{End}
use Rattle.amqp_endpoint_attached.specs.Ends.{broken, is_closed_end}
use Rattle.amqp_endpoint_attached.specs.Linked.{Linked, end_gives}
use Rattle.amqp_endpoint_attached.specs.TakenOut.{TakenOut}
use Rattle.amqp_endpoint_linking.specs.GivingBack.{AllGivenBack, IsAtRest, IsClosed, StandsAs}
use Rattle.amqp_endpoint_linking.specs.Linking.{Link, Links, Session, Sessions, links_of}
use Rattle.amqp_endpoint_link_hearing.specs.Leaving.{IsLeft}
use Rattle.amqp_endpoint_tables.specs.OwnLinks.{slot_at}
use Rattle.amqp_endpoint_tables.specs.LinkSteps.{Closed}
use Rattle.amqp_endpoint_tables.specs.declared.link_place.LinkPlace.{LinkPlace}
use Rattle.amqp_endpoint_laws.specs.Held.{Agrees, Numbers, number_at, number_in}
use Rattle.amqp_endpoint_laws.proofs.HeldSessions.{Gone, among, gone, keep-in, part-in, shut-in, within}
use Rattle.amqp_endpoint_laws.proofs.Numbers.{KeepNumbers, freed-number, same-kept}
use Rattle.amqp_endpoint_laws.proofs.Parted.{Parted, closed-parts, closes-shut, parted-on, rested-parts}

-- this link alone
abbrev pub is_link : ℕ → ℕ → Bool
is_link number link = link == number

pub closed-parted : (number : ℕ) (old new : Links) → IsClosed old number new → Parted (is_link number) old new
closed-parted number old new c = closed-parts number c.place old new c.closed

pub rested-parted : (number : ℕ) (link : End) (old new : Links) → IsAtRest old number link new
    → Parted (is_link number) old new
rested-parted number link old new r = rested-parts number link r.back old new r.rested

stood-parted : (closed : Bool) (number : ℕ) (link : End) (old new : Links) → StandsAs closed old number link new
    → Parted (is_link number) old new
stood-parted true number link old new s = closed-parted number old new s
stood-parted false number link old new s = rested-parted number link old new s

-- all are
pub back-parted : (old new : Links) (left : List Link) → AllGivenBack old left new → Parted (among left) old new
back-parted old new [] same =
    record {
      other = λ link e. ap (λ (s : Links). slot_at s link) same;
      here = λ link e. let clash = e in absurd cc;
      closed = λ link e. ap (λ (s : Links). slot_at s link) same ∙ e;
    }
back-parted old new (it ∷ others) (mid, one, rest) =
    parted-on (is_link it.number) (among others) old mid new
    (stood-parted (is_closed_end (broken it.link)) it.number (broken it.link) old mid one)
    (back-parted mid new others rest)

-- with the session that is over
pub session-back : (number : ℕ) (session : Session) (old new : Sessions) (links links_new : Links)
    → Gone number session old new → AllGivenBack links (links_of session) links_new
    → Agrees (number_at old) links → Agrees (number_at new) links_new
session-back number session old new links links_new g given a =
    gone number session old new g links links_new (back-parted links links_new (links_of session) given) a

-- a link leaves one that goes on, or stays there where something of it waits
module _ (numbers : Numbers) (number : ℕ) (links links_new : Links) (link : ℕ) (handle : OutputHandle)
    (old new : Linked) (was : number_in old.session handle.0 ≡ Some link) where
  is-parted : (closed : Bool) (it : Link) → IsLeft closed links link (Some it) links_new
      → Parted (is_link link) links links_new
  is-parted true it l = closed-parted link links links_new l
  is-parted false it l = rested-parted link it.link links links_new l

  out-held : (closed : Bool) (it : Link) → TakenOut old handle (Some it) new
      → IsLeft closed links link (Some it) links_new → Agrees (within numbers number old.session) links
      → Agrees (within numbers number new.session) links_new
  out-held closed it t l a =
      part-in numbers number old.session new.session links links_new link handle.0 was
      (freed-number end_gives handle.0 old.session new.session t.1) (is-parted closed it l) a

  module _ (kept : KeepNumbers old.session new.session) (a : Agrees (within numbers number old.session) links) where
    closes-held : (place : Option (LinkPlace End)) → Closed links link place links_new
        → Agrees (within numbers number new.session) links_new
    closes-held None c = keep-in numbers number old.session new.session links links_new kept c.1 a
    closes-held (Some place) c =
        shut-in numbers number old.session new.session links links_new link kept
        (closes-shut link place links links_new c) a

    stays-held : (closed : Bool) → IsLeft closed links link None links_new
        → Agrees (within numbers number new.session) links_new
    stays-held true l = closes-held l.place l.closed
    stays-held false l = keep-in numbers number old.session new.session links links_new kept l a

  pub left-held : (closed : Bool) (left : Option Link) → TakenOut old handle left new
      → IsLeft closed links link left links_new → Agrees (within numbers number old.session) links
      → Agrees (within numbers number new.session) links_new
  left-held closed None t l a =
      stays-held (same-kept old.session new.session (ap (λ (s : Linked). s.session) t.1)) a closed l
  left-held closed (Some it) t l a = out-held closed it t l a
