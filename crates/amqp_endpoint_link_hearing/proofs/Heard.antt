-- The link that took what the peer said stands in its session.
use Rattle.std.proofs.Common.{◌≡◌, ℕ, Bool, true, false, List, Option, Some, None, Result, Ok, Err}
use Rattle.std.proofs.Common.{refl, sym, ap, subst, ◌∙◌}
use Rattle.std.specs.Prelude.{is_some, slice_index_or}
use Rattle.std.specs.Global.{Box}
use Rattle.std.specs.FinMap as map
use Rattle.amqp_session_types.specs.declared.channels.IncomingChannel.{IncomingChannel}
use Rattle.amqp_session_types.specs.declared.handles.OutputHandle.{OutputHandle}
use Rattle.amqp_session_types.specs.declared.refusals.SessionError.{SessionError}
use Rattle.amqp_session_performatives.specs.declared.attach.Attach.{Attach as AttachFrame}
use Rattle.amqp_session_performatives.specs.declared.detach.Detach.{Detach as DetachFrame}
use Rattle.amqp_session_performatives.specs.declared.session_frame.SessionFrame.{SessionFrame}
use Rattle.amqp_session_core.specs.State.{State, StepsAt, link_at, reached}
use Rattle.amqp_session_core.specs.Told.{AttachTaken, DetachTaken}
use Rattle.amqp_session_core.specs.Told as told_core
use Rattle.amqp_link_base.specs.declared.detached.Detached.{Detached}
use Rattle.amqp_link.specs.declared.relay.AttachTold.{AttachTold}
use Rattle.amqp_link_receiver.specs.declared.answer.Told.{Told}
use Rattle.amqp_endpoint_links.specs.declared.session.AskedSession.{AskedSession}
use Rattle.amqp_endpoint_links.specs.declared.asking.AttachTaken.{AttachTaken as AttachAnswer}
use Rattle.amqp_endpoint_links.specs.declared.asking.AttachTaken.TheVariants as attach
use Rattle.amqp_endpoint_links.specs.declared.asking.DetachTaken.TheVariants as detach
use Rattle.amqp_endpoint_links.specs.declared.asking.NamedLink.TheVariants.{Waiting}
use Rattle.amqp_endpoint_links.specs.declared.hearing.LinkPerformative.{LinkPerformative}
use Rattle.amqp_endpoint_links.specs.declared.hearing.LinkPerformative.TheVariants.{Attach, Detach}
use Rattle.amqp_endpoint_links.specs.declared.hearing.PerformativeTaken.{PerformativeTaken}
use Rattle.amqp_endpoint_links.specs.declared.hearing.PerformativeTaken.TheVariants as taken
use Rattle.amqp_endpoint_links.specs.Asking.{AttachAt, DetachAt, by_link, detached_by, in_use}
use Rattle.amqp_endpoint_tables.specs.State.{asked_at, live_at}
use Rattle.amqp_endpoint_tables.specs.State as sessions
use Rattle.amqp_endpoint_conversation.specs.declared.hearing.Heard.TheVariants.{Live}
use Rattle.amqp_endpoint_conversation.specs.Hearing.{Answered, AnsweredAt, AnsweredIn, LiveTakes}
use Rattle.amqp_endpoint_attached.specs.Linked.{Linked, gives}
use Rattle.amqp_endpoint_attached.proofs.There.{replaced}
use Rattle.amqp_endpoint_linking.specs.Linking.{Link, Session, Talk}
use Rattle.amqp_endpoint_link_hearing.specs.Naming.{link_in, link_of}
use Rattle.amqp_endpoint_link_hearing.proofs.Lending.{lives}

-- the session that has begun, and that the channel reaches, took what was said
pub record IsTaken (old : Talk) (channel : IncomingChannel) (out : List SessionFrame) (it : LinkPerformative)
    (session : ℕ) (told : PerformativeTaken AttachTold Told Detached) (new : Talk) (out_new : List SessionFrame)
    : Type 0 where
  pub reaches : sessions.reached old.sessions channel.0 ≡ Some session
  pub before : Session
  pub live : live_at old.sessions session ≡ Some before
  pub takes : LiveTakes gives old out session before it told new out_new
  pub stands : live_at new.sessions session ≡ Some takes.after

module _ (old : Talk) (channel : IncomingChannel) (out : List SessionFrame) (it : LinkPerformative) (session : ℕ)
    (told : PerformativeTaken AttachTold Told Detached) (new : Talk) (out_new : List SessionFrame) where
  at : (number : ℕ) (asked : Option (Box AskedSession)) (live : Option Session)
      → sessions.reached old.sessions channel.0 ≡ Some number → live_at old.sessions number ≡ live
      → AnsweredAt gives asked live old out number it (Ok (Live session told)) new out_new
      → IsTaken old channel out it session told new out_new
  at number (Some asked) live reaches is t = absurd t.0
  at number None (Some before) reaches is t =
      let takes = t.1 in
      let here : live_at new.sessions number ≡ Some takes.after =
      ap (λ s. live_at s number) ((takes.hears).stepped).1
      ∙ lives old.sessions number takes.after before is in
      let so : IsTaken old channel out it number told new out_new =
      record { reaches = reaches; before = before; live = is; takes = takes; stands = here } in
      subst (λ (n : ℕ). IsTaken old channel out it n told new out_new) (sym t.0) so
  at number None None reaches is t = let clash = t.0 in absurd cc

  within : (number : Option ℕ) → sessions.reached old.sessions channel.0 ≡ number
      → AnsweredIn gives number old out it (Ok (Live session told)) new out_new
      → IsTaken old channel out it session told new out_new
  within None reaches t = let clash = t.0 in absurd cc
  within (Some number) reaches t =
      at number (asked_at old.sessions number) (live_at old.sessions number) reaches refl t

  pub taken-in : Answered gives old out channel it (Ok (Live session told)) new out_new
      → IsTaken old channel out it session told new out_new
  taken-in t = within (sessions.reached old.sessions channel.0) refl t

-- a link that takes a step is there behind it
pub stepped-there : (Does : Link → Link → Type 0) (s : State Link) (handle : ℕ) (new : State Link)
    → (st : StepsAt Does s.links handle new.links) → link_at new handle ≡ Some st.after
stepped-there Does s handle new st =
    ap (λ (ls : List (Option Link)). slice_index_or ls handle None) st.others
    ∙ replaced s handle st.before st.after (sym st.had)

pub is-there : (talk : Talk) (session : ℕ) (handle : OutputHandle) (after : Session) (link : Link)
    → live_at talk.sessions session ≡ Some after → link_at after.value.session handle.0 ≡ Some link
    → link_of talk session handle ≡ Some link
is-there talk session handle after link live there = ap (λ (s : Option Session). link_in s handle) live ∙ there

-- the link that waited took the peer's Attach
pub record AttachedThere (old new : Linked) (handle : OutputHandle) (it : AttachFrame) (told : AttachTold) : Type 0
  where
    pub before : Link
    pub was : link_at old.session handle.0 ≡ Some before
    pub link : Link
    pub there : link_at new.session handle.0 ≡ Some link
    pub took : gives.attaches before it (Ok told) link
    pub fields : new.session.fields ≡ old.session.fields
    pub outgoing : new.session.outgoing ≡ old.session.outgoing

abbrev told-in : AttachTold → Result (AttachAnswer AttachTold) SessionError → AttachTold
told-in told (Ok (attach.ByLink x)) = x
told-in told other = told

attach-by : (old new : Linked) (handle : OutputHandle) (it : AttachFrame) (told : AttachTold)
    (r : Result AttachTold SessionError) → Ok (attach.ByLink told) ≡ by_link r
    → AttachTaken gives old.session handle.0 it r new.session → AttachedThere old new handle it told
attach-by old new handle it told (Ok x) is (free, st, rest) =
    record {
      before = st.before;
      was = st.had;
      took =
          subst (λ (k : AttachTold). gives.attaches st.before it (Ok k) st.after) (sym (ap (told-in told) is))
          st.stepped;
      link = st.after;
      there =
          stepped-there (λ before after. gives.attaches before it (Ok x) after) old.session handle.0 new.session st;
      fields = ap (λ (s : State Link). s.fields) rest;
      outgoing = ap (λ (s : State Link). s.outgoing) rest;
    }
attach-by old new handle it told (Err e) is t = absurd cc

attach-at : (used : Bool) (old new : Linked) (handle : OutputHandle) (it : AttachFrame) (told : AttachTold)
    → AttachAt gives used old it (Waiting handle) (Ok (attach.ByLink told)) new → AttachedThere old new handle it told
attach-at true old new handle it told t = let clash = t.0 in absurd cc
attach-at false old new handle it told t = attach-by old new handle it told t.told t.answer t.taken

pub attach-there : (old : Talk) (channel : IncomingChannel) (out : List SessionFrame) (it : AttachFrame)
    (handle : OutputHandle) (session : ℕ) (told : AttachTold) (new : Talk) (out_new : List SessionFrame)
    → (s : IsTaken old channel out (Attach it (Waiting handle)) session (taken.Attach (attach.ByLink told)) new out_new)
    → AttachedThere (s.before).value ((s.takes).after).value handle it told
attach-there old channel out it handle session told new out_new s =
    attach-at (in_use (s.before).value it.handle.0) (s.before).value ((s.takes).after).value handle it told
    (((s.takes).hears).heard).0

-- the link that the peer's handle reached took its Detach
pub record DetachedThere (old new : Linked) (it : DetachFrame) : Type 0 where
  pub handle : ℕ
  pub reaches : reached old.session it.handle.0 ≡ Some handle
  pub link : Link
  pub there : link_at new.session handle ≡ Some link
  pub fields : new.session.fields ≡ old.session.fields
  pub outgoing : new.session.outgoing ≡ old.session.outgoing

detach-in : (old new : Linked) (it : DetachFrame) (at : Option ℕ) (told : Detached)
    → told_core.DetachAt gives old.session it at (Ok told) new.session → DetachedThere old new it
detach-in old new it None told t = absurd t
detach-in old new it (Some handle) told (reaches, st, rest) =
    record {
      handle = handle;
      reaches = reaches;
      link = st.after;
      there =
          stepped-there (λ before after. gives.detaches before it (Ok told) after) old.session handle new.session st;
      fields = ap (λ (s : State Link). s.fields) rest;
      outgoing = ap (λ (s : State Link). s.outgoing) rest;
    }

detach-by : (old new : Linked) (it : DetachFrame) (told : Detached) (r : Result Detached SessionError)
    → Ok (detach.ByLink told) ≡ detached_by r → DetachTaken gives old.session it r new.session
    → DetachedThere old new it
detach-by old new it told (Ok x) is t = detach-in old new it (reached old.session it.handle.0) x t
detach-by old new it told (Err e) is t = absurd cc

detach-at : (asked : Bool) (old new : Linked) (it : DetachFrame) (told : Detached)
    → DetachAt gives asked old it (Ok (detach.ByLink told)) new → DetachedThere old new it
detach-at true old new it told t = let clash = t.0 in absurd cc
detach-at false old new it told t = detach-by old new it told t.told t.answer t.taken

pub detach-there : (old : Talk) (channel : IncomingChannel) (out : List SessionFrame) (it : DetachFrame)
    (session : ℕ) (told : Detached) (new : Talk) (out_new : List SessionFrame)
    → (s : IsTaken old channel out (Detach it) session (taken.Detach (detach.ByLink told)) new out_new)
    → DetachedThere (s.before).value ((s.takes).after).value it
detach-there old channel out it session told new out_new s =
    detach-at (is_some (map.get (s.before.value).asked it.handle.0)) (s.before).value ((s.takes).after).value it told
    (((s.takes).hears).heard).0
