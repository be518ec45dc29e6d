-- The link that a Flow names, as its session took it.
use Rattle.std.proofs.Common.{◌≡◌, ◌⊎◌, inl, inr, ℕ, Bool, true, false, List, Option, Some, None, Result, Ok}
use Rattle.std.proofs.Common.{cond, eq-eqb, refl, sym, ap, subst, ◌∙◌}
use Rattle.std.specs.Prelude.{if◌then◌else◌, is_some, slice_index_or}
use Rattle.std.specs.FinMap as map
use Rattle.amqp_session_types.proofs.Tables.{get-put}
use Rattle.std.specs.Global.{Box}
use Rattle.std.proofs.lemmas.Option.{none-some, same_Some}
use Rattle.amqp_session_types.specs.declared.channels.IncomingChannel.{IncomingChannel}
use Rattle.amqp_session_types.specs.declared.handles.Handle.{Handle}
use Rattle.amqp_session_performatives.specs.declared.flow.Flow.{Flow}
use Rattle.amqp_session_performatives.specs.declared.link_flow.LinkFlow.{LinkFlow}
use Rattle.amqp_session_performatives.specs.declared.session_frame.SessionFrame.{SessionFrame}
use Rattle.amqp_session_core.specs.State.{leads, link_at, live_in}
use Rattle.amqp_session_core.specs.Steps.{FlowAt as FlowAtLink, told_to_link}
use Rattle.amqp_session_core.specs.Tables.{RouteTable}
use Rattle.amqp_session_core.specs.Told.{FlowTaken}
use Rattle.amqp_session_core.specs.declared.relay.RelayError.{RelayError}
use Rattle.amqp_link.specs.declared.relay.AttachTold.{AttachTold}
use Rattle.amqp_link_base.specs.declared.detached.Detached.{Detached}
use Rattle.amqp_link_receiver.specs.declared.answer.Told.{Told}
use Rattle.amqp_endpoint_links.specs.Asked.{Asked, is_asked, link_told, told_of, told_to}
use Rattle.amqp_endpoint_links.specs.Asking.{FlowAnswered, FlowAt, FlowInSession}
use Rattle.amqp_endpoint_links.specs.Hearing.{HearsFlow}
use Rattle.amqp_endpoint_links.specs.declared.links.AskedLink.{AskedLink}
use Rattle.amqp_endpoint_links.specs.declared.session.AskedSession.{AskedSession}
use Rattle.amqp_endpoint_links.specs.declared.hearing.LinkPerformative.TheVariants as said
use Rattle.amqp_endpoint_links.specs.declared.hearing.PerformativeTaken.{PerformativeTaken}
use Rattle.amqp_endpoint_links.specs.declared.hearing.PerformativeTaken.TheVariants as taken
use Rattle.amqp_endpoint_tables.specs.State.{asked_at, asked_of, live_at, live_of, place_at, reached}
use Rattle.amqp_endpoint_tables.specs.declared.place.Place.TheVariants.{Asked as AskedPlace, Live as LivePlace}
use Rattle.amqp_endpoint_tables.specs.declared.place.Place.TheVariants.{Ending, Over}
use Rattle.amqp_endpoint_conversation.specs.Hearing.{Answered, AnsweredAt, AnsweredIn, LiveAnswered}
use Rattle.amqp_endpoint_conversation.specs.declared.hearing.Heard.TheVariants.{Asked as AskedHeard, Live, Dropped}
use Rattle.amqp_endpoint_attached.specs.Linked.{Linked, LinksIn, gives}
use Rattle.amqp_endpoint_linking.specs.Linking.{Link, Session, Stood, Talk}
use Rattle.amqp_endpoint_link_hearing.specs.Saying.{LinkHeard}
use Rattle.amqp_endpoint_link_hearing.proofs.Heard.{IsTaken, stepped-there, taken-in}

-- the handle of a link that is reached
pub live-is : (links : List (Option Link)) (o : Option ℕ) (handle : ℕ) → live_in links o ≡ Some handle
    → o ≡ Some handle
live-is links None handle is = absurd (none-some _ is)
live-is links (Some k) handle is = by (is_some (slice_index_or links k None)) is
  where
    by : (b : Bool) → (if b then Some k else None) ≡ Some handle → Some k ≡ Some handle
    by true e = e
    by false e = absurd (none-some _ e)

pub live-there : (links : List (Option Link)) (o : Option ℕ) (handle : ℕ) (link : Link) → o ≡ Some handle
    → slice_index_or links handle None ≡ Some link → live_in links o ≡ Some handle
live-there links o handle link is there =
    ap (λ (k : Option ℕ). live_in links k) is
    ∙ ap (λ (l : Option Link). if is_some l then Some handle else None) there

-- a link that the peer asks for has the handle, before and behind it, and no other link changes
pub record AskedTook (before after : Linked) (named : Handle) : Type 0 where
  pub was : is_some (map.get before.asked named.0) ≡ true
  pub is : is_some (map.get after.asked named.0) ≡ true

-- or a link of the session took it
pub record LinkTook (before after : Linked) (flow : Flow) (named : Handle) : Type 0 where
  pub unasked : is_some (map.get before.asked named.0) ≡ false
  pub still : is_some (map.get after.asked named.0) ≡ false
  pub handle : ℕ
  pub route : map.get before.session.routes named.0 ≡ Some handle
  pub route_still : map.get after.session.routes named.0 ≡ Some handle
  pub had : Link
  pub was : link_at before.session handle ≡ Some had
  pub link : Link
  pub there : link_at after.session handle ≡ Some link
  pub told : Result (Option LinkFlow) RelayError
  pub took : gives.flows had (told_to_link flow named) told link

-- it is still asked for
still-asked : (asked : Asked) (handle : ℕ) (it : LinkFlow) (o : Option AskedLink) → map.get asked handle ≡ o
    → is_some o ≡ true → is_some (map.get (told_to asked handle it o) handle) ≡ true
still-asked asked handle it None is some = absurd cc
still-asked asked handle it (Some link) is some =
    let put : AskedLink = record link { flow = Some it } in
    ap (λ (o : Option AskedLink). is_some o)
    (get-put asked handle handle put
    ∙ ap (λ (b : Bool). cond b (Some put) (map.get asked handle)) (eq-eqb handle handle refl))

-- how a session takes a Flow with a handle
module _ (before after : Linked) (out out_new : List SessionFrame) (flow : Flow) (named : Handle)
    (names : flow.handle ≡ Some named) where
  abbrev Took : Type 0
  Took = AskedTook before after named ⊎ LinkTook before after flow named

  linked : (told : Option (ℕ × Result (Option LinkFlow) RelayError))
      → FlowAtLink gives before.session.links before.session.routes flow (Some named) told after.session.links
      → after.session.routes ≡ before.session.routes → after.asked ≡ before.asked
      → is_some (map.get before.asked named.0) ≡ false → LinkTook before after flow named
  linked None t routes asked none = absurd t
  linked (Some (handle, told)) (reaches, steps) routes asked none =
      let route : map.get before.session.routes named.0 ≡ Some handle =
      live-is before.session.links (map.get before.session.routes named.0) handle reaches in
      record {
        unasked = none;
        still = ap (λ (a : Asked). is_some (map.get a named.0)) asked ∙ none;
        handle = handle;
        route = route;
        route_still = ap (λ (r : RouteTable). map.get r named.0) routes ∙ route;
        had = steps.before;
        was = steps.had;
        link = steps.after;
        there =
            stepped-there (λ (b a : Link). gives.flows b (told_to_link flow named) told a) before.session handle
            after.session steps;
        told = told;
        took = steps.stepped;
      }

  in-session : (leads : Bool) → FlowInSession gives leads before.session out flow (Ok tt) after.session out_new
      → FlowTaken gives before.session out flow (Ok tt) after.session out_new
  in-session false t = let clash = t.refused in absurd cc
  in-session true t = t

  by-kind : (b : Bool) → is_asked before.asked flow.handle ≡ b → FlowAt gives b before out flow (Ok tt) after out_new
      → Took
  by-kind true is (t, rest) =
      let was : is_some (map.get before.asked named.0) ≡ true =
      ap (λ (h : Option Handle). is_asked before.asked h) (sym names) ∙ is in
      inl (record {
        was = was;
        is =
            ap (λ (s : Linked). is_some (map.get s.asked named.0)) rest
            ∙ ap (λ (h : Option Handle). is_some (map.get (told_of before.asked flow h) named.0)) names
            ∙ still-asked before.asked named.0 (link_told flow named) (map.get before.asked named.0) refl was;
      })
  by-kind false is (t, rest) =
      let f = in-session (leads before.session flow.handle) t in
      let s = f.stepped in
      inr
      (linked f.told
      (subst
      (λ (h : Option Handle).
      FlowAtLink gives before.session.links before.session.routes flow h f.told after.session.links)
      names s.link)
      (ap (λ (t : LinksIn). t.routes) s.becomes) (ap (λ (t : Linked). t.asked) rest)
      (ap (λ (h : Option Handle). is_asked before.asked h) (sym names) ∙ is))

  pub flow-took : FlowAnswered gives before out flow (Ok tt) after out_new → Took
  flow-took t = by-kind (is_asked before.asked flow.handle) refl t

-- a session that has begun isn't asked for
live-unasked : (o : Option Stood) (session : Session) → live_of o ≡ Some session → asked_of o ≡ None
live-unasked None session live = refl
live-unasked (Some (AskedPlace c a)) session live = absurd (none-some _ live)
live-unasked (Some (LivePlace c s)) session live = refl
live-unasked (Some (Ending c own_end)) session live = refl
live-unasked (Some (Over p c)) session live = refl

abbrev by-number : ℕ → PerformativeTaken AttachTold Told Detached → LinkHeard
by-number n told = Live n told

module _ (old : Talk) (channel : IncomingChannel) (out : List SessionFrame) (flow : Flow) (mid : Talk)
    (out_mid : List SessionFrame) where
  -- the session that the channel reaches took it, where it has begun
  pub record TookIt (number : ℕ) (session : Session) (heard : LinkHeard) : Type 0 where
    pub told : PerformativeTaken AttachTold Told Detached
    pub heard_is : heard ≡ Live number told
    pub after : Session
    pub stands : live_at mid.sessions number ≡ Some after
    pub took : FlowAnswered gives session.value out flow (Ok tt) after.value out_mid

  took-by : (before after : Linked) (told : PerformativeTaken AttachTold Told Detached)
      → HearsFlow gives before out flow (Ok told) after out_mid
      → FlowAnswered gives before out flow (Ok tt) after out_mid
  took-by before after taken.Flow t = t
  took-by before after (taken.Attach a) t = absurd t
  took-by before after (taken.Transfer a) t = absurd t
  took-by before after (taken.Disposition a b) t = absurd t
  took-by before after (taken.Detach a) t = absurd t

  live-took : (number : ℕ) (told : PerformativeTaken AttachTold Told Detached)
      → (t : IsTaken old channel out (said.Flow flow) number told mid out_mid)
      → FlowAnswered gives (t.before).value out flow (Ok tt) ((t.takes).after).value out_mid
  live-took number told t = took-by (t.before).value ((t.takes).after).value told ((t.takes).hears).heard

  pub took-in : (number : ℕ) (told : PerformativeTaken AttachTold Told Detached)
      → (t : IsTaken old channel out (said.Flow flow) number told mid out_mid)
      → TookIt number t.before (Live number told)
  took-in number told t =
      record {
        told = told;
        heard_is = refl;
        after = (t.takes).after;
        stands = t.stands;
        took = live-took number told t;
      }

  module _ (number : ℕ) (session : Session) (live : live_at old.sessions number ≡ Some session) where
    in-live : (heard : LinkHeard) → LiveAnswered gives old out number session (said.Flow flow) (Ok heard) mid out_mid
        → (told : PerformativeTaken AttachTold Told Detached) × (heard ≡ Live number told)
    in-live (AskedHeard n) t = absurd t
    in-live (Live n told) t = (told, ap (λ (k : ℕ). by-number k told) t.0)
    in-live (Dropped n) t = absurd t

    pub took-it : (heard : LinkHeard) → reached old.sessions channel.0 ≡ Some number
        → Answered gives old out channel (said.Flow flow) (Ok heard) mid out_mid → TookIt number session heard
    took-it heard reaches answered =
        let within : AnsweredIn gives (Some number) old out (said.Flow flow) (Ok heard) mid out_mid =
        subst (λ (o : Option ℕ). AnsweredIn gives o old out (said.Flow flow) (Ok heard) mid out_mid) reaches answered in
        let none : asked_at old.sessions number ≡ None = live-unasked (place_at old.sessions number) session live in
        let at : AnsweredAt gives None (live_at old.sessions number) old out number (said.Flow flow) (Ok heard) mid
        out_mid =
        subst
        (λ (o : Option (Box AskedSession)).
        AnsweredAt gives o (live_at old.sessions number) old out number (said.Flow flow) (Ok heard) mid out_mid)
        none within in
        let here : LiveAnswered gives old out number session (said.Flow flow) (Ok heard) mid out_mid =
        subst
        (λ (o : Option Session). AnsweredAt gives None o old out number (said.Flow flow) (Ok heard) mid out_mid)
        live at in
        let (told, is) = in-live heard here in
        let t =
        taken-in old channel out (said.Flow flow) number told mid out_mid
        (subst (λ (h : LinkHeard). Answered gives old out channel (said.Flow flow) (Ok h) mid out_mid) is answered) in
        let same : t.before ≡ session = same_Some _ _ (sym t.live ∙ live) in
        record {
          told = told;
          heard_is = is;
          after = (t.takes).after;
          stands = t.stands;
          took =
              subst
              (λ (s : Session). FlowAnswered gives s.value out flow (Ok tt) ((t.takes).after).value out_mid) same
              (live-took number told t);
        }
