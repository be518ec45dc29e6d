-- Links leave their session with the frames that a Flow lets go.
use Rattle.std.proofs.Common.{◌≡◌, ◌+◌, ◌<◌, ◌≤◌, ℕ, Bool, List, [], ◌∷◌, Option, Some, None, Ok, IsSome}
use Rattle.std.proofs.Common.{refl, sym, ap, subst, ◌∙◌, append-nil, drop, length}
use Rattle.std.specs.Prelude.{is_some, slice_index_or}
use Rattle.std.specs.Box.{with_value}
use Rattle.std.proofs.lemmas.List.{drop_all, drop_more}
use Rattle.std.proofs.lemmas.List.Elements.{All-nil}
use Rattle.std.proofs.lemmas.Option.{none-some, same_Some}
use Rattle.amqp_session_types.specs.declared.channels.IncomingChannel.{IncomingChannel}
use Rattle.amqp_session_types.specs.declared.handles.OutputHandle.{OutputHandle}
use Rattle.amqp_session_performatives.specs.declared.session_frame.SessionFrame.{SessionFrame}
use Rattle.amqp_session_performatives.specs.declared.session_frame.SessionFrameBody.{SessionFrameBody}
use Rattle.amqp_session_performatives.specs.declared.session_frame.SessionFrameBody.TheVariants as body
use Rattle.amqp_session_core.specs.State.{link_at}
use Rattle.amqp_session_core.specs.Steps.{Deallocates}
use Rattle.amqp_endpoint_links.specs.History.{AskingHistory, InSession}
use Rattle.amqp_endpoint_links.specs.declared.hearing.LinkPerformative.{LinkPerformative}
use Rattle.amqp_endpoint_conversation.specs.declared.hearing.Heard.TheVariants.{Live}
use Rattle.amqp_endpoint_conversation.specs.Hearing.{Answered}
use Rattle.amqp_endpoint_fitting.specs.Handed.{AllAskingEndFit, AllAskingHand, AllAskingSendFit}
use Rattle.amqp_endpoint_fitting.specs.Read.{IsRead}
use Rattle.amqp_endpoint_tables.specs.State.{live_at}
use Rattle.amqp_endpoint_conversation.specs.Going.{Goes, Rests}
use Rattle.amqp_endpoint_conversation.proofs.Calls.{changed-goes, changed-rests}
use Rattle.amqp_endpoint_attached.specs.Linked.{Linked, gives}
use Rattle.amqp_endpoint_attached.specs.TakenOut.{TakenOut}
use Rattle.amqp_endpoint_linking.specs.Linking.{Link, Links, Session, Talk}
use Rattle.amqp_endpoint_link_hearing.specs.Flowing.{LeaveWith, LeavesOnce, LeavesWith, ended_link}
use Rattle.amqp_endpoint_link_hearing.specs.Heard.{session_of}
use Rattle.amqp_endpoint_link_hearing.specs.InSession.{GoesOn}
use Rattle.amqp_endpoint_link_hearing.specs.Saying.{LinkHeard}
use Rattle.amqp_endpoint_messages.proofs.AttachDone.{LinkAct}
use Rattle.amqp_endpoint_link_hearing.proofs.Heard.{taken-in}
use Rattle.amqp_endpoint_link_hearing.proofs.Lent.{behind-talk}
use Rattle.amqp_endpoint_link_hearing.proofs.Plain.{answers-plain}

-- own handles are taken back, one after the other
abbrev pub frees : List OutputHandle → List LinkAct
frees [] = []
frees (handle ∷ handles) = InSession (Deallocates handle.0) ∷ frees handles

pub record Freed (old new : Linked) : Type 0 where
  pub handles : List OutputHandle
  pub history : AskingHistory gives old (frees handles) new

frees-send : (channel limit : ℕ) (handles : List OutputHandle) → AllAskingSendFit channel limit (frees handles)
frees-send channel limit [] = tt
frees-send channel limit (handle ∷ handles) = (tt, frees-send channel limit handles)

frees-end : (limit : ℕ) (handles : List OutputHandle) → AllAskingEndFit limit (frees handles)
frees-end limit [] = tt
frees-end limit (handle ∷ handles) = (tt, frees-end limit handles)

frees-hand : (handles : List OutputHandle) → AllAskingHand (frees handles) []
frees-hand [] = refl
frees-hand (handle ∷ handles) = ([], [], refl, frees-hand handles, refl)

same-freed : (old mid new : Linked) → mid ≡ old → Freed mid new → Freed old new
same-freed old mid new is f = subst (λ (s : Linked). Freed s new) is f

out-freed : (handle : OutputHandle) (left : Option Link) (old mid new : Linked) → TakenOut old handle left mid
    → Freed mid new → Freed old new
out-freed handle None old mid new (why, same) f = same-freed old mid new same f
out-freed handle (Some link) old mid new (there, stepped, rest) f =
    record { handles = handle ∷ f.handles; history = (mid, (stepped, rest), f.history) }

once-freed : (it : Option (ℕ × Bool)) (handle : OutputHandle) (old mid new : Linked) (links links_mid : Links)
    → LeavesOnce it handle old links mid links_mid → Freed mid new → Freed old new
once-freed None handle old mid new links links_mid l f = same-freed old mid new l.0 f
once-freed (Some (number, closed)) handle old mid new links links_mid l f =
    out-freed handle l.left old mid new l.out f

with-freed : (frame : SessionFrameBody) (old mid new : Linked) (links links_mid : Links)
    → LeavesWith frame old links mid links_mid → Freed mid new → Freed old new
with-freed (body.Detach detach) old mid new links links_mid l f =
    once-freed (ended_link (link_at old.session detach.handle.0)) (record { 0 = detach.handle.0 }) old mid new links
    links_mid l f
with-freed frame old mid new links links_mid l f = same-freed old mid new l.0 f

-- those that leave have their handles taken back
pub all-freed : (frames : List SessionFrame) (old new : Linked) (links links_new : Links)
    → LeaveWith frames old links new links_new → Freed old new
all-freed [] old new links links_new l = record { handles = []; history = l.0 }
all-freed (frame ∷ frames) old new links links_new (mid, links_mid, one, others) =
    with-freed frame.body old mid new links links_mid one (all-freed frames mid new links_mid links_new others)

-- in a session of these nothing is handed out by it
module _ (frames : List SessionFrame) (links links_new : Links) (session : ℕ) (old new : Talk)
    (g : GoesOn (λ (before after : Linked). LeaveWith frames before links after links_new) old session new)
    (out : List SessionFrame) where
  pub released-goes : (limit : ℕ) → Goes limit old new out out
  released-goes limit =
      let f = all-freed frames (g.before).value (g.after).value links links_new g.done in
      subst (λ (o : List SessionFrame). Goes limit old new out o) (append-nil out)
      (changed-goes gives limit session old new g.before g.after (frees f.handles) [] out g.stepped f.history
      answers-plain
      (frees-send ((((g.before).value).session).fields).channel.0 limit f.handles)
      (frees-end limit f.handles) (frees-hand f.handles) (All-nil IsRead))

  pub released-rests : Rests old new out out
  released-rests = changed-rests session old new g.before g.after out out g.stepped

-- in a session that is lent
pub released : (frames : List SessionFrame) (links links_new : Links) (old : Talk) (session : ℕ) (lent : Session)
    → Some lent ≡ live_at old.sessions session → (before after : Linked) → before ≡ lent.value
    → LeaveWith frames before links after links_new
    → GoesOn (λ (s t : Linked). LeaveWith frames s links t links_new) old session (behind-talk old session lent after)
released frames links links_new old session lent is before after same l =
    record {
      before = lent;
      after = with_value lent after;
      done = subst (λ (s : Linked). LeaveWith frames s links after links_new) same l;
      stepped = (sym is, refl);
      rest = refl;
    }

-- the session that took what was said has begun
pub stands-on : (old : Talk) (channel : IncomingChannel) (out : List SessionFrame) (it : LinkPerformative)
    (heard : LinkHeard) (took : Option ℕ) → took ≡ session_of heard → (mid : Talk) (out_mid : List SessionFrame)
    → Answered gives old out channel it (Ok heard) mid out_mid → (number : ℕ) → took ≡ Some number
    → IsSome (live_at mid.sessions number)
stands-on old channel out it (Live session told) took is mid out_mid t number some =
    let s = taken-in old channel out it session told mid out_mid t in
    let same : session ≡ number = same_Some _ _ (sym is ∙ some) in
    subst (λ (n : ℕ). IsSome (live_at mid.sessions n)) same (ap is_some s.stands)
stands-on old channel out it heard took is mid out_mid t number some = absurd (none-some number (sym is ∙ some))

pub none-live : (o : Option Session) → None ≡ o → IsSome o → ⊥
none-live o is some =
    let here : IsSome {T = Session} None = subst (λ (s : Option Session). IsSome s) (sym is) some in absurd cc

-- those that leave with this frame, and with the frames behind it
pub leave-next : (frames : List SessionFrame) (i : ℕ) (frame : SessionFrame) → i < length frames
    → frame ≡ slice_index_or frames i frame → (old mid new : Linked) (links links_mid links_new : Links)
    → LeavesWith frame.body old links mid links_mid → LeaveWith (drop (i + 1) frames) mid links_mid new links_new
    → LeaveWith (drop i frames) old links new links_new
leave-next frames i frame low is old mid new links links_mid links_new one others =
    let left : drop i frames ≡ frame ∷ drop (i + 1) frames =
    drop_more frames i frame low ∙ ap (λ (f : SessionFrame). f ∷ drop (i + 1) frames) (sym is) in
    subst (λ (fs : List SessionFrame). LeaveWith fs old links new links_new) (sym left) (mid, links_mid, one, others)

-- behind all frames none is left
pub leave-none : (frames : List SessionFrame) (i : ℕ) → length frames ≤ i → (s : Linked) (links : Links)
    → LeaveWith (drop i frames) s links s links
leave-none frames i whole s links =
    subst (λ (fs : List SessionFrame). LeaveWith fs s links s links) (sym (drop_all i frames whole)) (refl, refl)
