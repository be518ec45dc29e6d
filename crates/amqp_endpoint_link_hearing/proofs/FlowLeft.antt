-- What stays of a session as links leave it whose own Detach a Flow lets go.
use Rattle.std.proofs.Common.{◌≡◌, inl, inr, ℕ, ◌==◌, Bool, true, false, List, [], ◌∷◌, Option, Some, None}
use Rattle.std.proofs.Common.{if◌then◌else◌, refl, sym, ap, subst, ◌∙◌}
use Rattle.std.specs.FinMap as map
use Rattle.std.proofs.lemmas.Bool.Decides.{eqb_tells}
use Rattle.std.proofs.lemmas.Option.{none-some}
use Rattle.amqp_session_types.specs.declared.handles.OutputHandle.{OutputHandle}
use Rattle.amqp_session_performatives.specs.declared.session_frame.SessionFrame.{SessionFrame}
use Rattle.amqp_session_performatives.specs.declared.session_frame.SessionFrameBody.{SessionFrameBody}
use Rattle.amqp_session_performatives.specs.declared.session_frame.SessionFrameBody.TheVariants as body
use Rattle.amqp_session_core.specs.State.{link_at}
use Rattle.amqp_session_core.specs.Tables.{unless_to}
use Rattle.amqp_session_core.specs.declared.batch.BehindFrame.{BehindFrame}
use Rattle.amqp_session_core.specs.declared.batch.TransferFrame.{TransferFrame}
use Rattle.amqp_session_outgoing.specs.State as sending
use Rattle.amqp_endpoint_attached.specs.Linked.{Linked}
use Rattle.amqp_endpoint_attached.specs.TakenOut.{TakenOut}
use Rattle.amqp_endpoint_linking.specs.Linking.{Link, Links}
use Rattle.amqp_endpoint_link_hearing.specs.Flowing.{LeaveWith, LeavesOnce, LeavesWith, ended_link}

-- each link that is there was there, and was reached as it is; what waits stays, and so does each link that hasn't
-- ended
pub record Held (old new : Linked) : Type 0 where
  pub were : (handle : ℕ) (link : Link) → link_at new.session handle ≡ Some link
      → link_at old.session handle ≡ Some link
  pub led : (input handle : ℕ) → map.get new.session.routes input ≡ Some handle
      → map.get old.session.routes input ≡ Some handle
  pub asked : new.asked ≡ old.asked
  pub queues : new.session.outgoing.queues ≡ old.session.outgoing.queues
  pub room : new.session.outgoing.room ≡ old.session.outgoing.room
  pub stays : (handle : ℕ) (link : Link) → link_at old.session handle ≡ Some link → ended_link (Some link) ≡ None
      → link_at new.session handle ≡ Some link
  pub leads : (input handle : ℕ) (link : Link) → map.get old.session.routes input ≡ Some handle
      → link_at old.session handle ≡ Some link → ended_link (Some link) ≡ None
      → map.get new.session.routes input ≡ Some handle

nothing-left : (s : Linked) → Held s s
nothing-left s =
    record {
      were = λ handle link there. there;
      led = λ input handle leads. leads;
      asked = refl;
      queues = refl;
      room = refl;
      stays = λ handle link there not. there;
      leads = λ input handle link to there not. to;
    }

same-left : (old new : Linked) → new ≡ old → Held old new
same-left old new is = subst (λ (s : Linked). Held old s) (sym is) (nothing-left old)

both-left : (old mid new : Linked) → Held old mid → Held mid new → Held old new
both-left old mid new f l =
    record {
      were = λ handle link there. f.were handle link (l.were handle link there);
      led = λ input handle to. f.led input handle (l.led input handle to);
      asked = l.asked ∙ f.asked;
      queues = l.queues ∙ f.queues;
      room = l.room ∙ f.room;
      stays = λ handle link there not. l.stays handle link (f.stays handle link there not) not;
      leads = λ input handle link to there not.
          l.leads input handle link (f.leads input handle link to there not) (f.stays handle link there not) not;
    }

-- a route that leads on to another link than that which left
unless-some : (left : ℕ) (o : Option ℕ) (handle : ℕ) → unless_to left o ≡ Some handle → o ≡ Some handle
unless-some left None handle is = absurd (none-some _ is)
unless-some left (Some to) handle is = by (to == left) is
  where
    by : (b : Bool) → (if b then None else Some to) ≡ Some handle → Some to ≡ Some handle
    by true e = absurd (none-some _ e)
    by false e = e

-- one that has ended leaves
one-left : (old new : Linked) (handle : OutputHandle) (left : Option Link) (it : ℕ × Bool)
    → ended_link (link_at old.session handle.0) ≡ Some it → TakenOut old handle left new → Held old new
one-left old new handle None it ends (why, same) = same-left old new same
one-left old new handle (Some gone) it ends (there, (links, routes, forgets, received, rest, idle), kept) =
    record {
      were = λ other link is. was other link (sym (links other) ∙ is);
      led = λ input to is. unless-some handle.0 (map.get old.session.routes input) to (sym (routes input) ∙ is);
      asked = ap (λ (s : Linked). s.asked) kept;
      queues = ap (λ (o : sending.State TransferFrame BehindFrame). o.queues) forgets.1;
      room = ap (λ (o : sending.State TransferFrame BehindFrame). o.room) forgets.1;
      stays = λ other link is not. links other ∙ stands other link is not;
      leads = λ input other link to is not.
          routes input ∙ ap (λ (o : Option ℕ). unless_to handle.0 o) to ∙ still other link is not;
    }
  where
    was : (other : ℕ) (link : Link)
        → (if other == handle.0 then None else link_at old.session other) ≡ Some link
        → link_at old.session other ≡ Some link
    was other link is = by (other == handle.0) is
      where
        by : (b : Bool) → (if b then None else link_at old.session other) ≡ Some link
            → link_at old.session other ≡ Some link
        by true e = absurd (none-some _ e)
        by false e = e

    -- it isn't one that hasn't ended
    other-one : (other : ℕ) (link : Link) → link_at old.session other ≡ Some link → ended_link (Some link) ≡ None
        → (other == handle.0) ≡ false
    other-one other link is not =
        elim (eqb_tells other handle.0) [
          | inl p ↦
              absurd
              (none-some it
              (sym not ∙ ap ended_link (sym is) ∙ ap (λ (h : ℕ). ended_link (link_at old.session h)) p.1 ∙ ends))
          | inr p ↦ p.0
        ]

    stands : (other : ℕ) (link : Link) → link_at old.session other ≡ Some link → ended_link (Some link) ≡ None
        → (if other == handle.0 then None else link_at old.session other) ≡ Some link
    stands other link is not =
        ap (λ (b : Bool). if b then None else link_at old.session other) (other-one other link is not) ∙ is

    still : (other : ℕ) (link : Link) → link_at old.session other ≡ Some link → ended_link (Some link) ≡ None
        → unless_to handle.0 (Some other) ≡ Some other
    still other link is not = ap (λ (b : Bool). if b then None else Some other) (other-one other link is not)

once-left : (it : Option (ℕ × Bool)) (handle : OutputHandle) (old new : Linked) (links links_new : Links)
    → ended_link (link_at old.session handle.0) ≡ it → LeavesOnce it handle old links new links_new → Held old new
once-left None handle old new links links_new is l = same-left old new l.0
once-left (Some (number, closed)) handle old new links links_new is l =
    one-left old new handle l.left (number, closed) is l.out

with-left : (frame : SessionFrameBody) (old new : Linked) (links links_new : Links)
    → LeavesWith frame old links new links_new → Held old new
with-left (body.Detach detach) old new links links_new l =
    once-left (ended_link (link_at old.session detach.handle.0)) (record { 0 = detach.handle.0 }) old new links
    links_new refl l
with-left frame old new links links_new l = same-left old new l.0

pub all-left : (frames : List SessionFrame) (old new : Linked) (links links_new : Links)
    → LeaveWith frames old links new links_new → Held old new
all-left [] old new links links_new l = same-left old new l.0
all-left (frame ∷ frames) old new links links_new (mid, links_mid, one, others) =
    both-left old mid new (with-left frame.body old mid links links_mid one)
    (all-left frames mid new links_mid links_new others)
