-- What comes of an Attach of the peer's: no link changes, or the one that waits for it takes it.
use Rattle.std.proofs.Common.{◌≡◌, ◌==◌, ◌⊎◌, inl, inr, ℕ, Bool, true, false, List, [], Option, Some, None, Ok, Err}
use Rattle.std.proofs.Common.{ap, cond, if◌then◌else◌, refl, subst, sym, ◌∙◌}
use Rattle.std.proofs.lemmas.List.{get_or-set_other}
use Rattle.std.proofs.lemmas.Option.{none-some, same_Some}
use Rattle.std.specs.FinMap as map
use Rattle.std.specs.Prelude.{Result, is_some, slice_index_or}
use Rattle.amqp_session_types.specs.declared.channels.IncomingChannel.{IncomingChannel}
use Rattle.amqp_session_types.specs.declared.handles.OutputHandle.{OutputHandle}
use Rattle.amqp_session_types.specs.declared.refusals.SessionError.{SessionError}
use Rattle.amqp_session_performatives.specs.declared.attach.Attach.{Attach}
use Rattle.amqp_session_performatives.specs.declared.session_frame.SessionFrame.{SessionFrame}
use Rattle.amqp_session_core.specs.State.{StepsAt, link_at, live_in, reached as link_reached}
use Rattle.amqp_session_core.specs.Tables.{RouteTable}
use Rattle.amqp_session_core.specs.Told.{AttachTaken as SessionAttached}
use Rattle.amqp_link.specs.declared.relay.AttachTold.{AttachTold}
use Rattle.amqp_link_receiver.specs.Deliveries.{Delivery}
use Rattle.amqp_session_types.proofs.Tables.{get-put}
use Rattle.amqp_endpoint_attached.specs.Linked.{Linked, LinksIn, gives}
use Rattle.amqp_endpoint_conversation.specs.Hearing.{Answered, AnsweredAt, AnsweredIn}
use Rattle.amqp_endpoint_conversation.specs.declared.hearing.Heard.TheVariants as heard_as
use Rattle.amqp_endpoint_link_hearing.specs.Saying.{LinkHeard}
use Rattle.amqp_endpoint_link_hearing.proofs.Heard.{IsTaken as IsHeard, stepped-there, taken-in}
use Rattle.amqp_endpoint_linking.specs.Linking.{Link, Session, Stood, Talk}
use Rattle.amqp_endpoint_links.specs.Asking.{AttachAt, ByLink, by_link, in_use}
use Rattle.amqp_endpoint_links.specs.declared.asking.AttachTaken.{AttachTaken}
use Rattle.amqp_endpoint_links.specs.declared.asking.AttachTaken.TheVariants as answer
use Rattle.amqp_endpoint_links.specs.declared.asking.NamedLink.{NamedLink}
use Rattle.amqp_endpoint_links.specs.declared.asking.NamedLink.TheVariants.{Absent, Attached, Waiting}
use Rattle.amqp_endpoint_links.specs.declared.hearing.LinkPerformative.{LinkPerformative}
use Rattle.amqp_endpoint_links.specs.declared.hearing.LinkPerformative.TheVariants as said
use Rattle.amqp_endpoint_links.specs.declared.hearing.PerformativeTaken.TheVariants as taken
use Rattle.amqp_endpoint_tables.specs.State.{asked_of, live_at, live_of, place_at, reached, with_asked}
use Rattle.amqp_endpoint_tables.specs.Steps.{ChangesAsked, ChangesLive}
use Rattle.amqp_endpoint_tables.specs.declared.place.Place.TheVariants.{Asked, Live, Ending, Over}
use Rattle.amqp_endpoint_tables.proofs.Owning.{at, other_number, same_number}
use Rattle.amqp_endpoint_laws.specs.Handed.{leads_there}
use Rattle.amqp_endpoint_laws.specs.Passed.{is_it}
use Rattle.amqp_endpoint_laws.proofs.Behind.{behind-rests, behind-routes}
use Rattle.amqp_endpoint_laws.proofs.BehindAttach.{Follows, number_of}
use Rattle.amqp_endpoint_laws.proofs.ComesAttachedHeld.{IsHeld, end-held}
use Rattle.amqp_endpoint_laws.proofs.HoldingDeeds.{talk-same}
use Rattle.amqp_endpoint_laws.proofs.HoldingEnds.{Part, Stays, held_link, stays-on, stays-still}
use Rattle.amqp_endpoint_laws.proofs.HoldingInside.{was-so}
use Rattle.amqp_endpoint_laws.proofs.HoldingTalk.{AllRest, EachAt, EachOf, dead-stays, each-same}
use Rattle.amqp_endpoint_laws.proofs.HoldingTalk.{goes-on-stays, held_in, leads_in, live-changes}
use Rattle.amqp_endpoint_laws.proofs.PassedPlaces.{eq-same}
use Rattle.amqp_endpoint_laws.proofs.RoomMade.{live-alike}

-- what comes of an Attach in a session that goes on: no link of it changes, or the one that waits takes it
abbrev Answers : Linked → Attach → NamedLink → Result (AttachTaken AttachTold) SessionError → Linked → Type 0
Answers before attach named result after =
    (after.session ≡ before.session)
    ⊎ ((handle : OutputHandle) × (named ≡ Waiting handle) × ByLink gives before handle.0 attach result after)

answers : (used : Bool) (before : Linked) (attach : Attach) (named : NamedLink)
    (result : Result (AttachTaken AttachTold) SessionError) (after : Linked)
    → AttachAt gives used before attach named result after → Answers before attach named result after
answers true before attach named result after t = inl (ap (λ (s : Linked). s.session) t.1)
answers false before attach Attached result after t = inl (ap (λ (s : Linked). s.session) t.1)
answers false before attach (Waiting handle) result after t = inr (handle, refl, t)
answers false before attach Absent result after t = inl (ap (λ (s : Linked). s.session) t.1)

-- a handle of the peer's that leads to a link reaches it
pub reaches-link : (s : LinksIn) (input handle : ℕ) (link : Link) → map.get s.routes input ≡ Some handle
    → link_at s handle ≡ Some link → link_reached s input ≡ Some handle
reaches-link s input handle link leads there =
    ap (λ (o : Option ℕ). live_in s.links o) leads
    ∙ ap (λ (o : Option Link). if is_some o then Some handle else None) there

-- the link under this handle took the Attach, whose handle leads to it from then on
pub record Took (attach : Attach) (handle : ℕ) (before after : LinksIn) : Type 0 where
  pub told : AttachTold
  pub stepped : StepsAt (λ (a b : Link). gives.attaches a attach (Ok told) b) before.links handle after.links
  pub leads : map.get after.routes attach.handle.0 ≡ Some handle

took : (attach : Attach) (handle : ℕ) (before after : LinksIn) (by : AttachTold) (r : Result AttachTold SessionError)
    → Ok (answer.ByLink by) ≡ by_link r → SessionAttached gives before handle attach r after
    → Took attach handle before after
took attach handle before after by (Ok told) is (free, st, rest) =
    record {
      told = told;
      stepped = st;
      leads =
          ap (λ (x : LinksIn). map.get x.routes attach.handle.0) rest
          ∙ get-put before.routes attach.handle.0 attach.handle.0 handle
          ∙ ap (λ (b : Bool). cond b (Some handle) (map.get before.routes attach.handle.0)) (eq-same attach.handle.0);
    }
took attach handle before after by (Err e) is t = absurd cc

not-asked : (r : Result AttachTold SessionError) → Ok answer.Asked ≡ by_link r → ⊥
not-asked (Ok told) is = absurd cc
not-asked (Err e) is = absurd cc

-- what no session that goes on takes leaves all that is held
abbrev IsUntaken : LinkHeard → Type 0
IsUntaken (heard_as.Live n told) = ⊥
IsUntaken h = Unit {0}

module _ (old : Talk) (it : LinkPerformative) (new : Talk) where
  untaken-at : (number : ℕ) (o : Option Stood) → place_at old.sessions number ≡ o → (h : LinkHeard) → IsUntaken h
      → AnsweredAt gives (asked_of o) (live_of o) old [] number it (Ok h) new [] → AllRest old.sessions new.sessions
  untaken-at number (Some (Asked channel asked)) there (heard_as.Asked n) untaken ((same, t), none) =
      let step = ChangesAsked number asked t.after in
      let (stood, was, lives, becomes) =
      (at number old.sessions step new.sessions t.stepped).about (eq-same number) in
      let same_stood : stood ≡ Asked channel asked = same_Some stood (Asked channel asked) (sym was ∙ there) in
      dead-stays number step old.sessions new.sessions (λ n e. e) t.stepped
      (ap live_of becomes ∙ ap (λ (s : Stood). live_of (Some (with_asked s t.after))) same_stood)
  untaken-at number (Some (Asked channel asked)) there (heard_as.Live n told) untaken t = absurd untaken
  untaken-at number (Some (Asked channel asked)) there (heard_as.Dropped n) untaken t = absurd t.0
  untaken-at number (Some (Live channel session)) there (heard_as.Asked n) untaken t = absurd t
  untaken-at number (Some (Live channel session)) there (heard_as.Live n told) untaken t = absurd untaken
  untaken-at number (Some (Live channel session)) there (heard_as.Dropped n) untaken t = absurd t
  untaken-at number (Some (Ending channel own_end)) there h untaken (is, same, none) = talk-same old new same
  untaken-at number (Some (Over peer_end complete)) there h untaken (is, same, none) = talk-same old new same
  untaken-at number None there h untaken (is, same, none) = talk-same old new same

  untaken-in : (o : Option ℕ) (h : LinkHeard) → IsUntaken h → AnsweredIn gives o old [] it (Ok h) new []
      → AllRest old.sessions new.sessions
  untaken-in None h untaken (wrong, same, none) = let clash = wrong in absurd cc
  untaken-in (Some number) h untaken t = untaken-at number (place_at old.sessions number) refl h untaken t

-- the session with this number took it by the link that waited under this handle; behind that what is held stays, or is
-- given up with its link, and the peer's handles lead where they led
pub record TakesHere (old : Talk) (channel : IncomingChannel) (attach : Attach) (named : NamedLink) (mid new : Talk)
    (n : ℕ) : Type 0 where
  pub handle : OutputHandle
  pub waits : named ≡ Waiting handle
  pub reaches : reached old.sessions channel.0 ≡ Some n
  pub before : Session
  pub live : live_at old.sessions n ≡ Some before
  pub after : Session
  pub stands : live_at mid.sessions n ≡ Some after
  pub took : Took attach handle.0 before.value.session after.value.session
  pub later : EachOf Stays mid.sessions new.sessions
  pub leads : (input : ℕ) → leads_in (live_at new.sessions n) input ≡ leads_in (live_at mid.sessions n) input

-- a handle that leads to a link that is there reaches it
link-there : (o : Option Link) (x : ℕ × Part) → held_link o ≡ Some x → (link : Link) × (o ≡ Some link)
link-there None x held = absurd (none-some x held)
link-there (Some link) x held = (link, refl)

held-leads : (o : Option Session) (theirs : ℕ) (handle own : OutputHandle) (x : ℕ × Part)
    → (own.0 == handle.0) ≡ true → held_in o handle.0 ≡ Some x → leads_in o theirs ≡ Some handle.0
    → leads_there o theirs own ≡ true
held-leads None theirs handle own x e held leads = absurd (none-some x held)
held-leads (Some s) theirs handle own x e held leads =
    let (link, there) = link-there (link_at s.value.session handle.0) x held in
    ap (λ (o : Option ℕ). is_it o own.0) (reaches-link s.value.session theirs handle.0 link leads there) ∙ e

module _ (old : Talk) (channel : IncomingChannel) (attach : Attach) (mid : Talk) (frames : List SessionFrame)
    (new : Talk) where
  -- all that is held in a session stays, or the session takes it
  abbrev Keeps : ℕ → Type 0
  Keeps n = EachAt Stays (live_at old.sessions n) (live_at new.sessions n)

  abbrev Outcome : NamedLink → ℕ → Type 0
  Outcome named n = Keeps n ⊎ TakesHere old channel attach named mid new n

  follows-stays : (it : LinkHeard) → Follows it frames mid new → EachOf Stays mid.sessions new.sessions
  follows-stays it (inl (none, same)) n h = inl (ap (λ (t : Talk). held_in (live_at t.sessions n) h) same)
  follows-stays it (inr g) n h =
      (goes-on-stays _ mid (number_of it) new (λ a b d. behind-rests frames a b d) g n).holds h

  follows-leads : (it : LinkHeard) → Follows it frames mid new → (n input : ℕ)
      → leads_in (live_at new.sessions n) input ≡ leads_in (live_at mid.sessions n) input
  follows-leads it (inl (none, same)) n input = ap (λ (t : Talk). leads_in (live_at t.sessions n) input) same
  follows-leads it (inr g) n input =
      live-alike (number_of it) g.before g.after mid.sessions new.sessions g.stepped
      (λ (o : Option Session). leads_in o input)
      (ap (λ (t : RouteTable). map.get t input) (behind-routes frames g.before.value g.after.value g.done)) n

  keeps-on : (n : ℕ) → EachAt Stays (live_at old.sessions n) (live_at mid.sessions n)
      → EachOf Stays mid.sessions new.sessions → Keeps n
  keeps-on n first later h =
      stays-on (held_in (live_at old.sessions n) h) (held_in (live_at mid.sessions n) h)
      (held_in (live_at new.sessions n) h) (first h) (later n h)

  -- no link of the session that hears it changes
  module _ (named : NamedLink) (k : ℕ) (x : AttachTaken AttachTold)
      (s : IsHeard old channel [] (said.Attach attach named) k (taken.Attach x) mid []) where
    answers-so : Answers s.before.value attach named (Ok x) s.takes.after.value
    answers-so =
        answers (in_use s.before.value attach.handle.0) s.before.value attach named (Ok x) s.takes.after.value
        s.takes.hears.heard.0

    unmoved : s.takes.after.value.session ≡ s.before.value.session → EachOf Stays old.sessions mid.sessions
    unmoved same n h =
        live-changes (EachAt Stays) (each-same Stays stays-still) k s.before s.takes.after old.sessions mid.sessions
        s.takes.hears.stepped (λ g. inl (ap (λ (y : LinksIn). held_link (link_at y g)) same)) n h

    -- no link waits for it
    unwaiting : ((handle : OutputHandle) → named ≡ Waiting handle
        → ByLink gives s.before.value handle.0 attach (Ok x) s.takes.after.value → ⊥)
        → EachOf Stays old.sessions mid.sessions
    unwaiting none n h = by answers-so
      where
        by : Answers s.before.value attach named (Ok x) s.takes.after.value
            → Stays (held_in (live_at old.sessions n) h) (held_in (live_at mid.sessions n) h)
        by (inl same) = unmoved same n h
        by (inr (handle, waits, t)) = absurd (none handle waits t)

    -- and in other sessions none does
    elsewhere : (n : ℕ) → (n == k) ≡ false → EachAt Stays (live_at old.sessions n) (live_at mid.sessions n)
    elsewhere n apart h =
        each-same Stays stays-still (live_at old.sessions n) (live_at mid.sessions n)
        (ap live_of
        ((at n old.sessions (ChangesLive k s.before s.takes.after) mid.sessions s.takes.hears.stepped).other apart)) h

  by-link : (named : NamedLink) (k : ℕ) (by_told : AttachTold)
      → IsHeard old channel [] (said.Attach attach named) k (taken.Attach (answer.ByLink by_told)) mid []
      → Follows (heard_as.Live k (taken.Attach (answer.ByLink by_told))) frames mid new
      → (n : ℕ) → Outcome named n
  by-link named k by_told s f n = by (answers-so named k (answer.ByLink by_told) s)
    where
      it : LinkHeard
      it = heard_as.Live k (taken.Attach (answer.ByLink by_told))

      later : EachOf Stays mid.sessions new.sessions
      later = follows-stays it f

      at-session : (handle : OutputHandle) → named ≡ Waiting handle
          → ByLink gives s.before.value handle.0 attach (Ok (answer.ByLink by_told)) s.takes.after.value → (c : Bool)
          → (n == k) ≡ c → Outcome named n
      at-session handle waits t false e =
          inl (keeps-on n (elsewhere named k (answer.ByLink by_told) s n e) later)
      at-session handle waits t true e =
          inr (subst (λ (m : ℕ). TakesHere old channel attach named mid new m) (sym (same_number n k e))
          (record {
            handle = handle;
            waits = waits;
            reaches = s.reaches;
            before = s.before;
            live = s.live;
            after = s.takes.after;
            stands = s.stands;
            took =
                took attach handle.0 s.before.value.session s.takes.after.value.session by_told t.told t.answer t.taken;
            later = later;
            leads = λ input. follows-leads it f k input;
          }))

      by : Answers s.before.value attach named (Ok (answer.ByLink by_told)) s.takes.after.value → Outcome named n
      by (inl same) = inl (keeps-on n (unmoved named k (answer.ByLink by_told) s same n) later)
      by (inr (handle, waits, t)) = at-session handle waits t (n == k) refl

  pub heard-here : (named : NamedLink) (h : LinkHeard)
      → Answered gives old [] channel (said.Attach attach named) (Ok h) mid []
      → Follows h frames mid new → (n : ℕ) → Outcome named n
  heard-here named (heard_as.Asked k) t f n =
      inl (keeps-on n
      (untaken-in old (said.Attach attach named) mid (reached old.sessions channel.0) (heard_as.Asked k) tt t n).holds
      (follows-stays (heard_as.Asked k) f))
  heard-here named (heard_as.Dropped k) t f n =
      inl (keeps-on n
      (untaken-in old (said.Attach attach named) mid (reached old.sessions channel.0) (heard_as.Dropped k) tt t n).holds
      (follows-stays (heard_as.Dropped k) f))
  heard-here named (heard_as.Live k (taken.Attach answer.Asked)) t f n =
      inl (keeps-on n
      (unwaiting named k answer.Asked
      (taken-in old channel [] (said.Attach attach named) k (taken.Attach answer.Asked) mid [] t)
      (λ handle waits l. not-asked l.told l.answer) n)
      (follows-stays (heard_as.Live k (taken.Attach answer.Asked)) f))
  heard-here named (heard_as.Live k (taken.Attach (answer.ByLink told))) t f n =
      by-link named k told
      (taken-in old channel [] (said.Attach attach named) k (taken.Attach (answer.ByLink told)) mid [] t) f n
  heard-here named (heard_as.Live k taken.Flow) t f n =
      absurd (taken-in old channel [] (said.Attach attach named) k taken.Flow mid [] t).takes.hears.heard.0
  heard-here named (heard_as.Live k (taken.Transfer x)) t f n =
      absurd (taken-in old channel [] (said.Attach attach named) k (taken.Transfer x) mid [] t).takes.hears.heard.0
  heard-here named (heard_as.Live k (taken.Disposition back runs)) t f n =
      absurd
      (taken-in old channel [] (said.Attach attach named) k (taken.Disposition back runs) mid []
      t).takes.hears.heard.0
  heard-here named (heard_as.Live k (taken.Detach x)) t f n =
      absurd (taken-in old channel [] (said.Attach attach named) k (taken.Detach x) mid [] t).takes.hears.heard.0

-- the session that took it, behind all that comes of it
module _ (old : Talk) (channel : IncomingChannel) (attach : Attach) (mid new : Talk) (named : NamedLink) (n : ℕ)
    (here : TakesHere old channel attach named mid new n) where
  -- the other links stay
  pub others-stay : (h : ℕ) → (h == here.handle.0) ≡ false
      → Stays (held_in (live_at old.sessions n) h) (held_in (live_at new.sessions n) h)
  others-stay h apart =
      stays-on (held_in (live_at old.sessions n) h) (held_in (live_at mid.sessions n) h)
      (held_in (live_at new.sessions n) h)
      (inl (ap (λ (o : Option Session). held_in o h) here.stands
      ∙ ap (λ (ls : List (Option Link)). held_link (slice_index_or ls h None)) here.took.stepped.others
      ∙ ap held_link
      (get_or-set_other here.before.value.session.links here.handle.0 h (Some here.took.stepped.after) None
      (other_number h here.handle.0 apart))
      ∙ sym (ap (λ (o : Option Session). held_in o h) here.live)))
      (here.later n h)

  -- what the link holds that took it
  pub took-held : (link : ℕ) (held : Option Delivery)
      → held_in (live_at new.sessions n) here.handle.0 ≡ Some (link, (true, held))
      → IsHeld here.took.stepped.after.number here.took.stepped.after.link link held
  took-held link held is =
      end-held here.took.stepped.after.number here.took.stepped.after.link link held
      (sym (ap (λ (o : Option Session). held_in o here.handle.0) here.stands
      ∙ ap held_link
      (stepped-there (λ (a b : Link). gives.attaches a attach (Ok here.took.told) b) here.before.value.session
      here.handle.0 here.after.value.session here.took.stepped))
      ∙ was-so (held_in (live_at mid.sessions n) here.handle.0) (held_in (live_at new.sessions n) here.handle.0)
      (link, (true, held)) (here.later n here.handle.0) is)

  -- the handle of the Attach leads to it, where it is attached
  pub takes-leads : (own : OutputHandle) (x : ℕ × Part) → (own.0 == here.handle.0) ≡ true
      → held_in (live_at new.sessions n) here.handle.0 ≡ Some x
      → leads_there (live_at new.sessions n) attach.handle.0 own ≡ true
  takes-leads own x e held =
      held-leads (live_at new.sessions n) attach.handle.0 here.handle own x e held
      (here.leads attach.handle.0 ∙ ap (λ (o : Option Session). leads_in o attach.handle.0) here.stands
      ∙ here.took.leads)
