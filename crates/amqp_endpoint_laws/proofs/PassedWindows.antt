-- Whatever is done, each transfer of a session lies in its peer's window.
use Rattle.std.proofs.Common.{◌≡◌, ℕ, Bool, true, false, List, [], ◌∷◌, ◌++◌, Option, Some, None, Ok}
use Rattle.std.proofs.Common.{ap, refl, sym, subst, ◌∙◌}
use Rattle.std.specs.Prelude.{if◌then◌else◌}
use Rattle.std.specs.Global.{Box}
use Rattle.std.proofs.lemmas.Option.{none-some, same_Some}
use Rattle.amqp_session_types.specs.declared.channels.IncomingChannel.{IncomingChannel}
use Rattle.amqp_session_types.specs.declared.channels.OutgoingChannel.{OutgoingChannel}
use Rattle.amqp_session_performatives.specs.declared.begin.Begin.{Begin}
use Rattle.amqp_session_performatives.specs.declared.flow.Flow.{Flow}
use Rattle.amqp_session_performatives.specs.declared.session_frame.SessionFrame.{SessionFrame}
use Rattle.amqp_session_performatives.specs.declared.session_frame.SessionFrameBody.{SessionFrameBody}
use Rattle.amqp_session_performatives.specs.declared.session_frame.SessionFrameBody.TheVariants as session_body
use Rattle.amqp_session_frames.specs.declared.frame.FrameBody.TheVariants as body
use Rattle.amqp_session_core.specs.State.{State}
use Rattle.amqp_endpoint_links.specs.AskedSession.{asked_by, is_for_asked, session_told}
use Rattle.amqp_endpoint_links.specs.AskedSession as wanted
use Rattle.amqp_endpoint_links.specs.declared.session.AskedSession.{AskedSession}
use Rattle.amqp_endpoint_links.specs.declared.session.SessionFlow.{SessionFlow}
use Rattle.amqp_endpoint_attached.specs.Linked.{gives}
use Rattle.amqp_endpoint_conversation.specs.Beginning.{with_links}
use Rattle.amqp_endpoint_laws.specs.Deeds.{Deed}
use Rattle.amqp_endpoint_links.specs.Beginning.{Accepted, Begun, accepted_with, begin_frame}
use Rattle.amqp_endpoint_links.specs.Hearing.{HearsAsked}
use Rattle.amqp_endpoint_links.specs.declared.hearing.LinkPerformative.{LinkPerformative}
use Rattle.amqp_endpoint_links.specs.declared.hearing.LinkPerformative.TheVariants as said
use Rattle.amqp_endpoint_links.proofs.Standing.{accepted-stands, begun-stands}
use Rattle.amqp_endpoint.specs.Does.{linked}
use Rattle.amqp_endpoint.specs.declared.linked.LinkedSessions.{LinkedSessions}
use Rattle.amqp_endpoint_linking.specs.Linking.{Link, Session, Stood}
use Rattle.amqp_endpoint_model.specs.Relay.{IsNew}
use Rattle.amqp_endpoint_model.specs.declared.settings.Settings.{Settings}
use Rattle.amqp_endpoint_tables.specs.State.{asked_of, live_of, place_at, with_asked, with_live}
use Rattle.amqp_endpoint_tables.specs.declared.place.Place.TheVariants.{Asked, Live, Ending, Over}
use Rattle.amqp_endpoint_conversation.specs.Inside.{Batches, is_transfer, said_in, transfers_in}
use Rattle.amqp_endpoint_conversation.specs.Windows.{Came, Count, IsAllowed, Keeps, KeepsWindow, Passing, Went, base_by}
use Rattle.amqp_endpoint_conversation.specs.Windows.{begins_with, body_said, count_behind, counted, sent_by, told_by}
use Rattle.amqp_endpoint_conversation.specs.Windows.{went}
use Rattle.amqp_endpoint_conversation.proofs.HeardWindows.{hears-keep}
use Rattle.amqp_endpoint_conversation.proofs.Inside.{same-transfers}
use Rattle.amqp_endpoint_conversation.proofs.Windows.{begin-keeps, counts-append, each-append, inside-keeps}
use Rattle.amqp_endpoint_conversation.proofs.Windows.{keeps-still}
use Rattle.amqp_endpoint_conversation.proofs.Windows.{with-others}
use Rattle.amqp_endpoint_laws.specs.Passed.{PassesIn, sent_in}
use Rattle.amqp_endpoint_laws.proofs.PassedKept.{deeds-judge, new-judges}
use Rattle.amqp_endpoint_laws.proofs.PassedPlaces.{GoesBy, IsGone, Keeping, by-steps, hears, opens}

-- of a session that is asked for it is what the peer told so far
abbrev kept_count : ℕ → Begin → Option SessionFlow → Count
kept_count first begin None = record { first = first; next = first; base = first; width = begin.incoming_window }
kept_count first begin (Some flow) =
    record {
      first = first;
      next = first;
      base = base_by first flow.next_incoming_id;
      width = flow.incoming_window;
    }

-- so much is counted of a session that stands here; of one whose own side is over nothing is known
abbrev Counts : ℕ → Option Stood → Count → Type 0
Counts first None c = c ≡ begins_with first
Counts first (Some (Asked channel a)) c = c ≡ kept_count first a.value.begin a.value.flow
Counts first (Some (Live channel s)) c = c ≡ counted s.value.session.outgoing
Counts first (Some (Ending channel own_end)) c = Unit {0}
Counts first (Some (Over peer_end complete)) c = Unit {0}

gone-counts : (o : Option Stood) → IsGone o → (first : ℕ) (c : Count) → Counts first o c
gone-counts (Some (Ending channel own_end)) gone first c = tt
gone-counts (Some (Over peer_end complete)) gone first c = tt
gone-counts (Some (Asked channel a)) gone first c = absurd gone
gone-counts (Some (Live channel s)) gone first c = absurd gone
gone-counts None gone first c = absurd gone

-- it goes on, and each transfer that passes lies in the window
record Judges (first : ℕ) (old : Option Stood) (ps : List Passing) (new : Option Stood) : Type 0 where
  each : (c : Count) → Counts first old c → KeepsWindow c ps
  behind : (c : Count) → Counts first old c → Counts first new (count_behind c ps)

judges-still : (first : ℕ) (old new : Option Stood) → new ≡ old → Judges first old [] new
judges-still first old new same =
    record {
      each = λ c is. tt;
      behind = λ c is. subst (λ (o : Option Stood). Counts first o c) (sym same) is;
    }

judges-on : (first : ℕ) (a b d : Option Stood) (ps qs : List Passing) → Judges first a ps b → Judges first b qs d
    → Judges first a (ps ++ qs) d
judges-on first a b d ps qs j k =
    record {
      each = λ c is. each-append c ps qs (j.each c is) (k.each (count_behind c ps) (j.behind c is));
      behind = λ c is.
          subst (λ (x : Count). Counts first d x) (sym (counts-append c ps qs))
          (k.behind (count_behind c ps) (j.behind c is));
    }

-- where no transfer passes
none-passes : (b : SessionFrameBody) (f : SessionFrame) (fs : List SessionFrame) → f.body ≡ b
    → (if is_transfer b then f ∷ transfers_in fs else transfers_in fs) ≡ []
    → ((c : Count) → IsAllowed c f.body) × (transfers_in fs ≡ [])
none-passes (session_body.Transfer transfer payload) f fs is none = let clash = none in absurd cc
none-passes (session_body.Begin begin) f fs is none = (λ c. subst (IsAllowed c) (sym is) tt, none)
none-passes (session_body.Attach attach) f fs is none = (λ c. subst (IsAllowed c) (sym is) tt, none)
none-passes (session_body.Flow flow) f fs is none = (λ c. subst (IsAllowed c) (sym is) tt, none)
none-passes (session_body.Disposition disposition) f fs is none = (λ c. subst (IsAllowed c) (sym is) tt, none)
none-passes (session_body.Detach detach) f fs is none = (λ c. subst (IsAllowed c) (sym is) tt, none)
none-passes (session_body.End end) f fs is none = (λ c. subst (IsAllowed c) (sym is) tt, none)

free-keeps : (ps : List Passing) (c : Count) → transfers_in (sent_in ps) ≡ [] → KeepsWindow c ps
free-keeps [] c none = tt
free-keeps (Came it ∷ ps) c none = free-keeps ps (told_by it c) none
free-keeps (Went f ∷ ps) c none =
    let (allowed, rest) = none-passes f.body f (sent_in ps) refl none in
    (allowed c, free-keeps ps (sent_by f.body c) rest)

judges-gone : (first : ℕ) (old new : Option Stood) (ps : List Passing) → IsGone new → said_in (sent_in ps) ≡ []
    → Judges first old ps new
judges-gone first old new ps gone none =
    record {
      each = λ c is. free-keeps ps c (same-transfers (sent_in ps) [] none);
      behind = λ c is. gone-counts new gone first (count_behind c ps);
    }

judges-free : (first : ℕ) (stood : Option Stood) (frames : List SessionFrame) → said_in frames ≡ []
    → Judges first stood (went frames) stood
judges-free first stood frames none =
    let free : (c : Count) → Keeps c (went frames) c =
    λ c. with-others c frames c
    (subst (λ (fs : List SessionFrame). Keeps c (went fs) c) (sym (same-transfers frames [] none))
    (keeps-still c c refl)) in
    record {
      each = λ c is. (free c).each;
      behind = λ c is. subst (λ (x : Count). Counts first stood x) (sym (free c).counts) is;
    }

goes-keeps : (accepted : Batches) (old new : State Link) (ps : List Passing) → GoesBy accepted old new ps
    → Keeps (counted old.outgoing) ps (counted new.outgoing)
goes-keeps accepted old new ps (by-steps frames d is) =
    subst (λ (qs : List Passing). Keeps (counted old.outgoing) qs (counted new.outgoing)) (sym is)
    (inside-keeps gives accepted frames old new d)
goes-keeps accepted old new ps (hears none it told frames before after memory h was becomes is) =
    subst (λ (qs : List Passing). Keeps (counted old.outgoing) qs (counted new.outgoing)) (sym is)
    (subst
    (λ (s : State Link). Keeps (counted s.outgoing) (Came (body_said it) ∷ went frames) (counted new.outgoing)) was
    (subst
    (λ (s : State Link).
    Keeps (counted before.session.outgoing) (Came (body_said it) ∷ went frames) (counted s.outgoing))
    becomes (hears-keep gives it told frames before after memory h)))
goes-keeps accepted old new ps (opens none channel begin base left frames s is) =
    subst (λ (qs : List Passing). Keeps (counted old.outgoing) qs (counted new.outgoing)) (sym is)
    (begin-keeps gives channel begin base left frames old new s)

judges-live : (first : ℕ) (stood : Stood) (accepted : Batches) (before after : Session) (ps : List Passing) → Unit {0}
    → live_of (Some stood) ≡ Some before → GoesBy accepted before.value.session after.value.session ps
    → Judges first (Some stood) ps (Some (with_live stood after))
judges-live first (Live channel s) accepted before after ps any is g =
    let k = goes-keeps accepted before.value.session after.value.session ps g in
    let e : counted s.value.session.outgoing ≡ counted before.value.session.outgoing =
    ap (λ (x : Session). counted x.value.session.outgoing) (same_Some s before is) in
    record {
      each = λ c here. subst (λ (d : Count). KeepsWindow d ps) (sym (here ∙ e)) k.each;
      behind = λ c here. ap (λ (d : Count). count_behind d ps) (here ∙ e) ∙ k.counts;
    }
judges-live first (Asked channel a) accepted before after ps any is g = absurd (none-some before is)
judges-live first (Ending channel own_end) accepted before after ps any is g = absurd (none-some before is)
judges-live first (Over peer_end complete) accepted before after ps any is g = absurd (none-some before is)

told-flow : (first : ℕ) (begin : Begin) (kept : Option SessionFlow) (flow : Flow)
    → told_by (body.Flow flow) (kept_count first begin kept) ≡ kept_count first begin (Some (session_told flow))
told-flow first begin None flow = refl
told-flow first begin (Some before) flow = refl

asked-flow : (for_it : Bool) (first : ℕ) (flow : Flow) (before after : AskedSession)
    → wanted.FlowAt for_it before flow (Ok tt) after
    → told_by (body.Flow flow) (kept_count first before.begin before.flow) ≡ kept_count first after.begin after.flow
asked-flow true first flow before after (done, is) =
    told-flow first before.begin before.flow flow
    ∙ sym (ap (λ (a : AskedSession). kept_count first a.begin a.flow) is)
asked-flow false first flow before after (wrong, is) = let clash = wrong in absurd cc

asked-same : (first : ℕ) (before after : AskedSession) → after.begin ≡ before.begin → after.flow ≡ before.flow
    → kept_count first before.begin before.flow ≡ kept_count first after.begin after.flow
asked-same first before after begin flow =
    sym
    (ap (λ (b : Begin). kept_count first b after.flow) begin
    ∙ ap (λ (f : Option SessionFlow). kept_count first before.begin f) flow)

asked-hears : (it : LinkPerformative) (first : ℕ) (before after : AskedSession) → HearsAsked before it (Ok tt) after
    → told_by (body_said it) (kept_count first before.begin before.flow) ≡ kept_count first after.begin after.flow
asked-hears (said.Attach attach named) first before after h =
    asked-same first before after (ap (λ (a : AskedSession). a.begin) h.1) (ap (λ (a : AskedSession). a.flow) h.1)
asked-hears (said.Flow flow) first before after h =
    asked-flow (is_for_asked before.links flow.handle) first flow before after h
asked-hears (said.Transfer transfer payload) first before after (wrong, is) = let clash = wrong in absurd cc
asked-hears (said.Disposition disposition) first before after (wrong, is) = let clash = wrong in absurd cc
asked-hears (said.Detach detach) first before after h = at-detach _ h
  where
    at-detach : (b : Bool) → wanted.DetachAt b before detach (Ok tt) after
        → kept_count first before.begin before.flow ≡ kept_count first after.begin after.flow
    at-detach true (done, is) =
        asked-same first before after (ap (λ (a : AskedSession). a.begin) is) (ap (λ (a : AskedSession). a.flow) is)
    at-detach false (wrong, is) = let clash = wrong in absurd cc

judges-told : (first : ℕ) (stood : Stood) (before after : Box AskedSession) (it : LinkPerformative)
    → asked_of (Some stood) ≡ Some before → HearsAsked before.value it (Ok tt) after.value
    → Judges first (Some stood) (Came (body_said it) ∷ []) (Some (with_asked stood after))
judges-told first (Asked channel a) before after it is h =
    let e : kept_count first a.value.begin a.value.flow ≡ kept_count first before.value.begin before.value.flow =
    ap (λ (x : Box AskedSession). kept_count first x.value.begin x.value.flow) (same_Some a before is) in
    record {
      each = λ c here. tt;
      behind = λ c here.
          ap (λ (x : Count). told_by (body_said it) x) (here ∙ e) ∙ asked-hears it first before.value after.value h;
    }
judges-told first (Live channel s) before after it is h = absurd (none-some before is)
judges-told first (Ending channel own_end) before after it is h = absurd (none-some before is)
judges-told first (Over peer_end complete) before after it is h = absurd (none-some before is)

judges-asks : (first : ℕ) (channel : IncomingChannel) (asked : Box AskedSession) (begin : Begin)
    → asked.value ≡ asked_by begin → Judges first None (Came (body.Begin begin) ∷ []) (Some (Asked channel asked))
judges-asks first channel asked begin is =
    record {
      each = λ c e. tt;
      behind = λ c e.
          ap (λ (x : Count). record x { base = x.next; width = begin.incoming_window }) e
          ∙ sym (ap (λ (s : AskedSession). kept_count first s.begin s.flow) is);
    }

kept-counts : (channel : OutgoingChannel) (incoming : IncomingChannel) (begin : Begin) (flow : Option SessionFlow)
    (first window : ℕ)
    → counted (accepted_with {R = Link} channel incoming begin flow first window).outgoing
    ≡ kept_count first begin flow
kept-counts channel incoming begin None first window = refl
kept-counts channel incoming begin (Some flow) first window = refl

judges-begins : (first window : ℕ) (channel : OutgoingChannel) (session : Session) (frame : SessionFrame)
    → Begun gives channel first window frame session.value
    → Judges first None (went (frame ∷ [])) (Some (Live channel session))
judges-begins first window channel session frame b =
    let (stands, says) = begun-stands gives channel first window frame session.value b in
    let j : Judges first None (went (begin_frame channel None first window ∷ [])) (Some (Live channel session)) =
    record {
      each = λ c e. (tt, tt);
      behind = λ c e. e ∙ sym (ap (λ (s : State Link). counted s.outgoing) stands);
    } in
    subst (λ (f : SessionFrame). Judges first None (went (f ∷ [])) (Some (Live channel session))) (sym says) j

judges-accepts : (first window : ℕ) (incoming channel : IncomingChannel) (asked : Box AskedSession)
    (outgoing : OutgoingChannel) (session : Session) (frame : SessionFrame)
    → Accepted gives asked.value outgoing channel first window frame session.value
    → Judges first (Some (Asked incoming asked)) (went (frame ∷ []))
    (Some (Live outgoing (with_links session asked.value.links)))
judges-accepts first window incoming channel asked outgoing session frame a =
    let (stands, says) = accepted-stands gives asked.value outgoing channel first window frame session.value a in
    let linked_so : Session = with_links session asked.value.links in
    let j : Judges first (Some (Asked incoming asked))
    (went (begin_frame outgoing (Some channel.0) first window ∷ [])) (Some (Live outgoing linked_so)) =
    record {
      each = λ c e. (tt, tt);
      behind = λ c e.
          e
          ∙ sym
          (ap (λ (s : State Link). counted s.outgoing) stands
          ∙ kept-counts outgoing channel asked.value.begin asked.value.flow first window);
    } in
    subst
    (λ (f : SessionFrame). Judges first (Some (Asked incoming asked)) (went (f ∷ [])) (Some (Live outgoing linked_so)))
    (sym says) j

windows-keep : Keeping (λ accepted. Unit {0}) Judges
windows-keep =
    record {
      quiet = λ accepted up. tt;
      still = judges-still;
      on = judges-on;
      gone = judges-gone;
      free = judges-free;
      live = λ first stood accepted before after ps any is g asked.
          judges-live first stood accepted before after ps any is g;
      fails = λ first stood before after ps qs over is g none gone.
          judges-on first (Some stood) (Some (with_live stood after)) over ps qs
          (judges-live first stood [] before after ps tt is g)
          (judges-gone first (Some (with_live stood after)) over qs gone none);
      told = judges-told;
      asks = judges-asks;
      begins = judges-begins;
      accepts = judges-accepts;
    }

-- from where there is none with this number yet
pub window-kept-from : (old new : LinkedSessions) (deeds : List Deed) (n : ℕ) (passings : List Passing)
    → place_at old.talk.sessions n ≡ None → PassesIn n old deeds new passings
    → KeepsWindow (begins_with old.talk.first_transfer_number) passings
window-kept-from old new deeds n passings none p =
    let first : ℕ = old.talk.first_transfer_number in
    (deeds-judge Judges windows-keep (λ accepted. tt) deeds n old new passings p).each (begins_with first)
    (subst (λ (o : Option Stood). Counts first o (begins_with first)) (sym none) refl)

pub window-kept : (sessions end : LinkedSessions) (settings : Settings) (deeds : List Deed) (n : ℕ)
    (passings : List Passing) → IsNew linked settings sessions → PassesIn n sessions deeds end passings
    → KeepsWindow (begins_with settings.first_transfer_number) passings
window-kept sessions end settings deeds n passings new p =
    (new-judges Judges windows-keep (λ accepted. tt) sessions end settings deeds n passings new p).each
    (begins_with settings.first_transfer_number) refl
