-- Each link that the peer asks for in a session is asked for by an Attach that came in it.
use Rattle.std.proofs.Common.{◌≡◌, ℕ, List, [], ◌∷◌, ◌++◌, Option, Some, None, Ok}
use Rattle.std.proofs.Common.{ap, append-nil, append_assoc, refl, sym, subst, ◌∙◌}
use Rattle.std.proofs.lemmas.Option.{none-some, same_Some}
use Rattle.std.specs.FinMap as map
use Rattle.std.specs.FinMap.{get-empty}
use Rattle.std.specs.Global.{Box}
use Rattle.std.specs.Ordering.{nat_cmp}
use Rattle.amqp_session_types.specs.declared.channels.IncomingChannel.{IncomingChannel}
use Rattle.amqp_session_types.specs.declared.channels.OutgoingChannel.{OutgoingChannel}
use Rattle.amqp_session_performatives.specs.declared.begin.Begin.{Begin}
use Rattle.amqp_session_performatives.specs.declared.session_frame.SessionFrame.{SessionFrame}
use Rattle.amqp_session_frames.specs.declared.frame.FrameBody.{FrameBody}
use Rattle.amqp_session_frames.specs.declared.frame.FrameBody.TheVariants as body
use Rattle.amqp_session_core.specs.Tables.{RouteTable}
use Rattle.amqp_endpoint_links.specs.Asked.{Asked as AskedLinks}
use Rattle.amqp_endpoint_links.specs.AskedSession.{asked_by}
use Rattle.amqp_endpoint_links.specs.declared.links.AskedLink.{AskedLink}
use Rattle.amqp_endpoint_links.specs.declared.session.AskedSession.{AskedSession}
use Rattle.amqp_endpoint_attached.specs.Linked.{Linked, gives}
use Rattle.amqp_endpoint_conversation.specs.Beginning.{with_links}
use Rattle.amqp_endpoint_laws.specs.Deeds.{Deed}
use Rattle.amqp_endpoint.specs.Does.{linked}
use Rattle.amqp_endpoint.specs.declared.linked.LinkedSessions.{LinkedSessions}
use Rattle.amqp_endpoint_linking.specs.Linking.{Session, Stood}
use Rattle.amqp_endpoint_links.specs.Beginning.{Accepted, Begun}
use Rattle.amqp_endpoint_links.specs.Hearing.{HearsAsked}
use Rattle.amqp_endpoint_links.specs.declared.hearing.LinkPerformative.{LinkPerformative}
use Rattle.amqp_endpoint_links.proofs.Calls.{accepted-routes, begun-routes}
use Rattle.amqp_endpoint_links.proofs.Routing.{Routed, none-routed, routed-on}
use Rattle.amqp_endpoint_model.specs.Relay.{IsNew}
use Rattle.amqp_endpoint_model.specs.declared.settings.Settings.{Settings}
use Rattle.amqp_endpoint_tables.specs.State.{asked_of, live_of, place_at, with_asked, with_live}
use Rattle.amqp_endpoint_tables.specs.declared.place.Place.TheVariants.{Asked, Live, Ending, Over}
use Rattle.amqp_endpoint_conversation.specs.Inside.{Batches}
use Rattle.amqp_endpoint_conversation.specs.Windows.{Came, Passing, body_said, went}
use Rattle.amqp_endpoint_laws.specs.Passed.{PassesIn, came_in}
use Rattle.amqp_endpoint_laws.specs.Taken.{CameLast, asked_in}
use Rattle.amqp_endpoint_laws.proofs.AskedCameHeard.{AllCame, AreAsked, asked-came, keep-asked, takes-asked}
use Rattle.amqp_endpoint_laws.proofs.PassedKept.{new-judges}
use Rattle.amqp_endpoint_laws.proofs.PassedPlaces.{AskedBy, GoesBy, IsGone, Keeping, none-came, stays-asked, takes-said}
use Rattle.amqp_endpoint_laws.proofs.PassedSteps.{goes-did}
use Rattle.amqp_endpoint_laws.proofs.TakenRead.{came-both}

-- so it is where a session stands in which this came; of one whose own side is over no link is asked for
abbrev pub AskedHere : List FrameBody → Option Stood → Type 0
AskedHere came None = Unit {0}
AskedHere came (Some (Asked channel a)) = AllCame came a.value.links
AskedHere came (Some (Live channel s)) = AreAsked came s.value
AskedHere came (Some (Ending channel own_end)) = Unit {0}
AskedHere came (Some (Over peer_end complete)) = Unit {0}

-- and is so behind what passes
record StaysAsked (first : ℕ) (old : Option Stood) (ps : List Passing) (new : Option Stood) : Type 0 where
  by : (came : List FrameBody) → AskedHere came old → AskedHere (came ++ came_in ps) new

asked-still : (first : ℕ) (old new : Option Stood) → new ≡ old → StaysAsked first old [] new
asked-still first old new same =
    record {
      by = λ came here.
          subst (λ (all : List FrameBody). AskedHere all new) (sym (append-nil came))
          (subst (λ (o : Option Stood). AskedHere came o) (sym same) here);
    }

asked-on : (first : ℕ) (a b d : Option Stood) (ps qs : List Passing) → StaysAsked first a ps b
    → StaysAsked first b qs d → StaysAsked first a (ps ++ qs) d
asked-on first a b d ps qs x y =
    record {
      by = λ came here.
          subst (λ (all : List FrameBody). AskedHere all d)
          (append_assoc came (came_in ps) (came_in qs)
          ∙ ap (λ (all : List FrameBody). came ++ all) (sym (came-both ps qs)))
          (y.by (came ++ came_in ps) (x.by came here));
    }

gone-asked : (o : Option Stood) → IsGone o → (came : List FrameBody) → AskedHere came o
gone-asked (Some (Ending channel own_end)) gone came = tt
gone-asked (Some (Over peer_end complete)) gone came = tt
gone-asked (Some (Asked channel a)) gone came = absurd gone
gone-asked (Some (Live channel s)) gone came = absurd gone
gone-asked None gone came = absurd gone

asked-gone : (first : ℕ) (old new : Option Stood) (ps : List Passing) → IsGone new → StaysAsked first old ps new
asked-gone first old new ps gone = record { by = λ came here. gone-asked new gone (came ++ came_in ps) }

asked-free : (first : ℕ) (stood : Option Stood) (frames : List SessionFrame)
    → StaysAsked first stood (went frames) stood
asked-free first stood frames =
    record {
      by = λ came here.
          subst (λ (all : List FrameBody). AskedHere all stood)
          (sym (ap (λ (all : List FrameBody). came ++ all) (none-came frames) ∙ append-nil came)) here;
    }

-- a session goes on
going-asked : (old new : Linked) (ps : List Passing) → AskedBy old new ps → (came : List FrameBody)
    → Routed gives new.session → AreAsked came old → AreAsked (came ++ came_in ps) new
going-asked old new ps (stays-asked keeps beside) came routed are =
    keep-asked came (came_in ps) old new keeps (λ theirs link there. beside theirs) routed are
going-asked old new ps (takes-said it told frames h is) came routed are =
    subst (λ (all : List FrameBody). AreAsked (came ++ all) new)
    (sym (ap came_in is ∙ ap (λ (all : List FrameBody). body_said it ∷ all) (none-came frames)))
    (takes-asked it told frames came old new h routed are)

asked-live : (first : ℕ) (stood : Stood) (accepted : Batches) (before after : Session) (ps : List Passing) → Unit {0}
    → live_of (Some stood) ≡ Some before → GoesBy accepted before.value.session after.value.session ps
    → AskedBy before.value after.value ps → StaysAsked first (Some stood) ps (Some (with_live stood after))
asked-live first (Live channel s) accepted before after ps any is g asked =
    record {
      by = λ came here.
          let are : AreAsked came before.value =
          subst (λ (x : Session). AreAsked came x.value) (same_Some s before is) here in
          let did = goes-did accepted before.value.session after.value.session ps g in
          going-asked before.value after.value ps asked came
          (routed-on gives did.steps before.value.session after.value.session did.history are.routed) are;
    }
asked-live first (Asked channel a) accepted before after ps any is g asked = absurd (none-some before is)
asked-live first (Ending channel own_end) accepted before after ps any is g asked = absurd (none-some before is)
asked-live first (Over peer_end complete) accepted before after ps any is g asked = absurd (none-some before is)

-- one that is only asked for hears its peer
asked-told : (first : ℕ) (stood : Stood) (before after : Box AskedSession) (it : LinkPerformative)
    → asked_of (Some stood) ≡ Some before → HearsAsked before.value it (Ok tt) after.value
    → StaysAsked first (Some stood) (Came (body_said it) ∷ []) (Some (with_asked stood after))
asked-told first (Asked channel a) before after it is h =
    record {
      by = λ came here.
          asked-came it came before.value after.value h
          (subst (λ (x : Box AskedSession). AllCame came x.value.links) (same_Some a before is) here);
    }
asked-told first (Live channel s) before after it is h = absurd (none-some before is)
asked-told first (Ending channel own_end) before after it is h = absurd (none-some before is)
asked-told first (Over peer_end complete) before after it is h = absurd (none-some before is)

-- in a session that is new no link is asked for
none-asked : (asked : AskedLinks) → asked ≡ map.empty → (came : List FrameBody) → AllCame came asked
none-asked asked none came theirs link there =
    absurd
    (none-some link (sym (ap (λ (t : AskedLinks). map.get t theirs) none ∙ get-empty nat_cmp theirs) ∙ there))

asked-asks : (first : ℕ) (channel : IncomingChannel) (asked : Box AskedSession) (begin : Begin)
    → asked.value ≡ asked_by begin
    → StaysAsked first None (Came (body.Begin begin) ∷ []) (Some (Asked channel asked))
asked-asks first channel asked begin is =
    record {
      by = λ came here.
          none-asked asked.value.links (ap (λ (s : AskedSession). s.links) is) (came ++ body.Begin begin ∷ []);
    }

-- nor does a handle lead to any
unled-yet : (s : Linked) → s.session.routes ≡ map.empty → (theirs : ℕ) → map.get s.session.routes theirs ≡ None
unled-yet s none theirs = ap (λ (t : RouteTable). map.get t theirs) none ∙ get-empty nat_cmp theirs

asked-begins : (first window : ℕ) (channel : OutgoingChannel) (session : Session) (frame : SessionFrame)
    → Begun gives channel first window frame session.value
    → StaysAsked first None (went (frame ∷ [])) (Some (Live channel session))
asked-begins first window channel session frame b =
    let routes = begun-routes gives channel first window frame session.value b in
    record {
      by = λ came here. record {
        last = none-asked session.value.asked b.links (came ++ []);
        unled = λ theirs link there. unled-yet session.value routes theirs;
        routed = none-routed gives session.value.session routes;
      };
    }

-- where it accepts one that the peer asked for, the links that are asked for in that go over
asked-accepts : (first window : ℕ) (incoming channel : IncomingChannel) (asked : Box AskedSession)
    (outgoing : OutgoingChannel) (session : Session) (frame : SessionFrame)
    → Accepted gives asked.value outgoing channel first window frame session.value
    → StaysAsked first (Some (Asked incoming asked)) (went (frame ∷ []))
    (Some (Live outgoing (with_links session asked.value.links)))
asked-accepts first window incoming channel asked outgoing session frame a =
    let routes = accepted-routes gives asked.value outgoing channel first window frame session.value a in
    record {
      by = λ came here. record {
        last =
            subst (λ (all : List FrameBody). AllCame all asked.value.links) (sym (append-nil came)) here;
        unled = λ theirs link there. unled-yet session.value routes theirs;
        routed = none-routed gives session.value.session routes;
      };
    }

asked-keep : Keeping (λ accepted. Unit {0}) StaysAsked
asked-keep =
    record {
      quiet = λ accepted up. tt;
      still = asked-still;
      on = asked-on;
      gone = λ first old new ps gone none. asked-gone first old new ps gone;
      free = λ first stood frames none. asked-free first stood frames;
      live = asked-live;
      fails = λ first stood before after ps qs over is g none gone. asked-gone first (Some stood) over (ps ++ qs) gone;
      told = asked-told;
      asks = asked-asks;
      begins = asked-begins;
      accepts = asked-accepts;
    }

-- so it is of each link that is asked for where the session stands
here-came : (o : Option Stood) (came : List FrameBody) → AskedHere came o → AllCame came (asked_in o)
here-came None came here = none-asked map.empty refl came
here-came (Some (Asked channel a)) came here = here
here-came (Some (Live channel s)) came here = here.last
here-came (Some (Ending channel own_end)) came here = none-asked map.empty refl came
here-came (Some (Over peer_end complete)) came here = none-asked map.empty refl came

pub links-came : (sessions end : LinkedSessions) (settings : Settings) (deeds : List Deed) (number theirs : ℕ)
    (passings : List Passing) (link : AskedLink) → IsNew linked settings sessions
    → PassesIn number sessions deeds end passings
    → map.get (asked_in (place_at end.talk.sessions number)) theirs ≡ Some link
    → CameLast theirs link.attach (came_in passings)
links-came sessions end settings deeds number theirs passings link new p there =
    here-came (place_at end.talk.sessions number) (came_in passings)
    ((new-judges StaysAsked asked-keep (λ accepted. tt) sessions end settings deeds number passings new p).by [] tt)
    theirs link there
