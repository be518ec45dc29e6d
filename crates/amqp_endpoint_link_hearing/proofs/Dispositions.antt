-- The peer's Disposition.
use Rattle.std.proofs.Common.{◌≡◌, ◌≤◌, ◌<◌, inl, inr, ℕ, List, [], ◌∷◌, ◌++◌, Option, Some, None, Ok, IsSome, All, map}
use Rattle.std.proofs.Common.{length, get_or, arith, refl, sym, ap, subst, ◌∙◌, append-nil, append_assoc, Bool, true}
use Rattle.std.specs.Prelude.{◌^◌, is_some, slice_set}
use Rattle.std.specs.Box.{with_value}
use Rattle.smallvec.specs.SmallVec.{SmallVec}
use Rattle.std.proofs.lemmas.List.Elements.{All-nil}
use Rattle.std.proofs.lemmas.Option.{same_Some}
use Rattle.amqp_session_types.specs.declared.channels.IncomingChannel.{IncomingChannel}
use Rattle.amqp_session_types.specs.declared.handles.OutputHandle.{OutputHandle}
use Rattle.amqp_session_states.specs.declared.delivery_state.DeliveryState.{DeliveryState}
use Rattle.amqp_session_performatives.specs.declared.disposition.Disposition.{Disposition}
use Rattle.amqp_session_performatives.specs.declared.session_frame.SessionFrame.{SessionFrame}
use Rattle.amqp_session_core.specs.Disposing.{AreTouched}
use Rattle.amqp_session_core.specs.Echoes.{echo_of}
use Rattle.amqp_session_core.specs.State.{link_at}
use Rattle.amqp_session_core.specs.Steps.{Changes, SendsDisposition, table_of}
use Rattle.amqp_session_core.specs.declared.dispositions.Touched.{Touched}
use Rattle.amqp_endpoint_links.specs.History.{AskingHistory, InSession}
use Rattle.amqp_endpoint_links.specs.declared.hearing.LinkPerformative.TheVariants as said
use Rattle.amqp_endpoint_links.specs.declared.hearing.PerformativeTaken.TheVariants as taken
use Rattle.amqp_endpoint_conversation.specs.declared.hearing.Heard.TheVariants.{Live}
use Rattle.amqp_endpoint_conversation.specs.Hearing.{Answered}
use Rattle.amqp_endpoint_tables.specs.State.{live_at}
use Rattle.amqp_endpoint_fitting.specs.Fits.{FrameFits}
use Rattle.amqp_endpoint_fitting.specs.Handed.{AllAskingEndFit, AllAskingHand, AllAskingSendFit}
use Rattle.amqp_endpoint_fitting.specs.Read.{IsRead}
use Rattle.amqp_endpoint_model.specs.declared.event.Event.{Event}
use Rattle.amqp_endpoint_conversation.specs.Going.{Goes, Rests, Within}
use Rattle.amqp_endpoint_conversation.proofs.Alone.{answer-alone}
use Rattle.amqp_endpoint_conversation.proofs.Calls.{changed-goes, changed-rests}
use Rattle.amqp_endpoint_messages.specs.Dispositions.{SendsEach, frames_of}
use Rattle.amqp_endpoint_attached.specs.Linked.{Linked, LinksIn, gives}
use Rattle.amqp_endpoint_messages.specs.Echoing.{SendsEchoes, barred, echoes_of, going}
use Rattle.amqp_endpoint_messages.specs.Outcomes.{NoneUntold, outcomes_told}
use Rattle.amqp_endpoint_messages.specs.Reached.{behind_one, behind_reached, end_behind, link_behind, reached_told}
use Rattle.amqp_endpoint_messages.proofs.EndedTold.{each-sent, told-all, told-ends}
use Rattle.amqp_endpoint_messages.proofs.Lengths.{going-fit}
use Rattle.amqp_endpoint_messages.proofs.Numbers.{no-more-runs}
use Rattle.amqp_endpoint_messages.proofs.Opens.{opens-fall, taken-stays}
use Rattle.amqp_endpoint_linking.specs.Linking.{Link, Links, Session, Talk}
use Rattle.amqp_endpoint_linking.specs.Handed.{Tells}
use Rattle.amqp_endpoint_link_hearing.specs.Disposing.{DoneBy, DoneIn, Follows, HearsDisposition, IsReady, Prepares}
use Rattle.amqp_endpoint_link_hearing.specs.Disposing.{Rested, Serves, StandsFor, TellsAndEchoes, TellsAndRefuses}
use Rattle.amqp_endpoint_link_hearing.specs.Disposing.{runs_of}
use Rattle.amqp_endpoint_link_hearing.specs.InSession.{GoesOn}
use Rattle.amqp_endpoint_link_hearing.specs.Saying.{FailsBySaid, LinkHeard}
use Rattle.amqp_endpoint_link_hearing.specs.Unechoed.{AreFor, CanClose, IsMade, MadeIn, NoneUntoldIn, Refuses}
use Rattle.amqp_endpoint_link_hearing.specs.Unechoed.{handles_of}
use Rattle.amqp_endpoint_link_hearing.specs.declared.disposing.Ready.{Ready}
use Rattle.amqp_endpoint_link_hearing.specs.declared.unechoed.Closing.{Closing}
use Rattle.amqp_endpoint_link_hearing.proofs.Barrings.{Same, all-told, echoed-same, for-all, live-behind, made-can}
use Rattle.amqp_endpoint_link_hearing.proofs.Barrings.{made-on}
use Rattle.amqp_endpoint_messages.proofs.AttachDone.{LinkAct}
use Rattle.amqp_endpoint_link_hearing.proofs.Heard.{IsTaken, taken-in}
use Rattle.amqp_endpoint_link_hearing.proofs.Lent.{behind-talk}
use Rattle.amqp_endpoint_link_hearing.proofs.Plain.{answers-plain}

-- a session goes on by steps that neither hand out frames nor bring any
pub record Quiet (old new : Linked) : Type 0 where
  pub steps : List LinkAct
  pub history : AskingHistory gives old steps new
  pub sends : (channel limit : ℕ) → AllAskingSendFit channel limit steps
  pub ends : (limit : ℕ) → AllAskingEndFit limit steps
  pub hand : AllAskingHand steps []

quiet-none : (old new : Linked) → new ≡ old → Quiet old new
quiet-none old new is =
    record { steps = []; history = is; sends = λ channel limit. tt; ends = λ limit. tt; hand = refl }

-- a link is changed first
quiet-change : (s : Linked) (handle : ℕ) (before after : Link) (new : Linked) → link_at s.session handle ≡ Some before
    → Quiet (record s { session = record s.session { links = slice_set s.session.links handle (Some after) } }) new
    → Quiet s new
quiet-change s handle before after new there q =
    let changed : LinksIn = record s.session { links = slice_set s.session.links handle (Some after) } in
    record {
      steps = InSession (Changes handle before after) ∷ q.steps;
      history = (record s { session = changed }, ((there, refl), refl), q.history);
      sends = λ channel limit. (tt, q.sends channel limit);
      ends = λ limit. (tt, q.ends limit);
      hand = ([], [], refl, q.hand, refl);
    }

-- links tell what became of messages first
quiet-told : (s : Linked) (deliveries : List Touched) (new : Linked)
    → Quiet (record s { session = behind_reached s.session deliveries }) new → Quiet s new
quiet-told s [] new q = q
quiet-told s (delivery ∷ rest) new q =
    at (link_at s.session delivery.handle.0) refl
    (quiet-told (record s { session = behind_one s.session delivery }) rest new q)
  where
    at : (o : Option Link) → link_at s.session delivery.handle.0 ≡ o
        → Quiet (record s { session = link_behind s.session delivery.handle.0 delivery.tag o }) new → Quiet s new
    at None there q = q
    at (Some link) there q =
        quiet-change s delivery.handle.0 link (record link { link = end_behind delivery.tag link.link }) new there q

-- Dispositions are sent
quiet-sent : (s : Linked) (told : List Disposition) (new : LinksIn) → SendsEach gives s.session told new
    → Quiet s (record s { session = new })
quiet-sent s [] new is = quiet-none s (record s { session = new }) (ap (λ (x : LinksIn). record s { session = x }) is)
quiet-sent s (d ∷ rest) new (mid, one, later) =
    let q = quiet-sent (record s { session = mid }) rest new later in
    record {
      steps = InSession (SendsDisposition d one.settled) ∷ q.steps;
      history = (record s { session = mid }, (one.stepped, refl), q.history);
      sends = λ channel limit. (tt, q.sends channel limit);
      ends = λ limit. (tt, q.ends limit);
      hand = ([], [], refl, q.hand, refl);
    }

module _ (deliveries : List Touched) (state : Option DeliveryState) (runs : List (ℕ × ℕ)) where
  quiet-done : (frames : List SessionFrame) (events : List Event) (old new : Linked)
      → TellsAndEchoes deliveries state runs frames events old new → Quiet old new
  quiet-done frames events old new t =
      let mid : Linked = record old { session = behind_reached old.session deliveries } in
      quiet-told old deliveries new
      (subst (λ (x : Linked). Quiet mid x) (sym (t.echoes).rest)
      (quiet-sent mid (echoes_of state runs) new.session (t.echoes).sends))

  abbrev pub Does : List SessionFrame → List Event → Linked → Linked → Type 0
  Does frames events old new = TellsAndEchoes deliveries state runs frames events old new

  -- a session that is lent tells and echoes
  module _ (old : Talk) (session : ℕ) (lent : Session) (is : Some lent ≡ live_at old.sessions session)
      (before mid after : Linked) (same : before ≡ lent.value) (out out_new : List SessionFrame)
      (events events_new : List Event) where
    pub tells-on : mid ≡ record before { session = behind_reached before.session deliveries }
        → SendsEach gives mid.session (echoes_of state runs) after.session
        → after ≡ record mid { session = after.session }
        → out_new ≡ out ++ frames_of mid.session.fields (echoes_of state runs)
        → events_new ≡ events ++ reached_told before.session deliveries
        → Tells (λ (frames : List SessionFrame) (told : List Event).
        GoesOn (Does frames told) old session (behind-talk old session lent after)) out events out_new events_new
    tells-on behind sent rest added told =
        let frames : List SessionFrame = frames_of mid.session.fields (echoes_of state runs) in
        let tells : List Event = reached_told before.session deliveries in
        let echoed : SendsEchoes state runs mid frames after =
        record { sends = sent; rest = rest; frames_are = refl } in
        let done : Does frames tells before after =
        record { told = refl; echoes = subst (λ (m : Linked). SendsEchoes state runs m frames after) behind echoed } in
        record {
          frames = frames;
          events = tells;
          is_so =
              record {
                before = lent;
                after = with_value lent after;
                done = subst (λ (s : Linked). Does frames tells s after) same done;
                stepped = (sym is, refl);
                rest = refl;
              };
          queued = added;
          are_told = told;
        }

  -- so the sessions go on
  module _ (old : Talk) (session : ℕ) (new : Talk) (out out_new : List SessionFrame) (events events_new : List Event)
      (t : Tells (λ (frames : List SessionFrame) (told : List Event). GoesOn (Does frames told) old session new)
      out events out_new events_new) where
    stills : (limit : ℕ) → Goes limit old new out (out ++ [])
    stills limit =
        let g = t.is_so in
        let q = quiet-done t.frames t.events (g.before).value (g.after).value g.done in
        changed-goes gives limit session old new g.before g.after q.steps [] out g.stepped q.history answers-plain
        (q.sends (g.before).value.session.fields.channel.0 limit) (q.ends limit) q.hand (All-nil IsRead)

    pub echoed-waits : (most : ℕ) → Within most old → Within most new
    echoed-waits most within = (stills most).waits within

    pub echoed-goes : (limit : ℕ) (asked : List (ℕ × ℕ)) → limit < 2 ^ 32 → runs ≡ going limit state asked
        → Goes limit old new out out_new
    echoed-goes limit asked small are =
        let s = stills limit in
        let e = ((t.is_so).done).echoes in
        let fields = (behind_reached ((t.is_so).before).value.session deliveries).fields in
        record {
          waits = s.waits;
          still = s.still;
          frames = t.frames;
          queued = t.queued;
          fit = λ least within.
              subst (λ (fs : List SessionFrame). All (FrameFits limit) fs) (sym e.frames_are)
              (subst (λ (rs : List (ℕ × ℕ)). All (FrameFits limit) (frames_of fields (echoes_of state rs))) (sym are)
              (going-fit limit state fields asked small));
        }

    pub told-goes : (limit : ℕ) → Goes limit old new out out
    told-goes limit = subst (Goes limit old new out) (append-nil out) (stills limit)

    pub echoed-can : (c : Closing) → MadeIn old session c → CanClose new session c
    echoed-can c made =
        let g = t.is_so in
        made-can old new session g.before g.after g.stepped
        (echoed-same deliveries state runs t.frames t.events (g.before).value (g.after).value g.done) c made

    pub echoed-rests : Rests old new out out_new
    echoed-rests =
        let g = t.is_so in changed-rests session old new g.before g.after out out_new g.stepped

-- then links are closed
module _ (limit session : ℕ) (deliveries : List Touched) (state : Option DeliveryState) (runs barred_runs : List (ℕ × ℕ))
    (is : barred_runs ≡ barred limit state runs) (old mid new : Talk) (out out_mid out_new : List SessionFrame)
    (events events_mid events_new : List Event)
    (echoed : Tells (λ (frames : List SessionFrame) (told : List Event).
    GoesOn (TellsAndEchoes deliveries state (going limit state runs) frames told) old session mid) out events out_mid
    events_mid) where
  pub refused-behind : (fit : Bool) (handles : List OutputHandle) → AreFor fit deliveries handles
      → (fit ≡ true → barred_runs ≡ [])
      → Tells (λ (frames : List SessionFrame) (told : List Event).
      Refuses session barred_runs deliveries handles mid frames told new) out_mid events_mid out_new events_new
      → Tells (λ (frames : List SessionFrame) (told : List Event).
      TellsAndRefuses limit session deliveries state runs (handles_of deliveries) old frames told new) out events
      out_new events_new
  refused-behind fit handles are none r =
      record {
        frames = echoed.frames ++ r.frames;
        events = echoed.events ++ r.events;
        is_so =
            record {
              mid = mid;
              sent = echoed.frames;
              told = echoed.events;
              echoes = echoed.is_so;
              closed = r.frames;
              ended = r.events;
              refuses =
                  subst
                  (λ (rs : List (ℕ × ℕ)). Refuses session rs deliveries (handles_of deliveries) mid r.frames r.events
                  new)
                  is
                  (for-all session barred_runs deliveries fit handles mid new r.frames r.events are none r.is_so);
              frames_are = refl;
              events_are = refl;
            };
        queued =
            r.queued ∙ ap (λ (o : List SessionFrame). o ++ r.frames) echoed.queued
            ∙ append_assoc out echoed.frames r.frames;
        are_told =
            r.are_told ∙ ap (λ (e : List Event). e ++ r.events) echoed.are_told
            ∙ append_assoc events echoed.events r.events;
      }

-- as slices of what was made ready were lent
pub done-for : (limit session : ℕ) (state : Option DeliveryState) (fit : Bool) (handles : List OutputHandle)
    (items ds others : List Touched) (runs rs bs found : List (ℕ × ℕ)) → ds ≡ items → others ≡ items → rs ≡ runs
    → bs ≡ found → found ≡ barred limit state rs → AreFor fit items handles → (fit ≡ true → found ≡ [])
    → (old mid new : Talk) (out out_mid out_new : List SessionFrame) (events events_mid events_new : List Event)
    → Tells (λ (frames : List SessionFrame) (told : List Event).
    GoesOn (TellsAndEchoes ds state (going limit state rs) frames told) old session mid) out events out_mid events_mid
    → Tells (λ (frames : List SessionFrame) (told : List Event).
    Refuses session bs others handles mid frames told new) out_mid events_mid out_new events_new
    → Tells (λ (frames : List SessionFrame) (told : List Event).
    TellsAndRefuses limit session items state runs (handles_of items) old frames told new) out events out_new
    events_new
done-for limit session state fit handles items ds others runs rs bs found same also are bars is for none old mid new out
    out_mid out_new events events_mid events_new echoed refused =
    refused-behind limit session items state runs found
    (is ∙ ap (λ (xs : List (ℕ × ℕ)). barred limit state xs) are) old mid new out out_mid out_new events events_mid
    events_new
    (subst
    (λ (xs : List (ℕ × ℕ)).
    Tells (λ (frames : List SessionFrame) (told : List Event).
    GoesOn (TellsAndEchoes items state (going limit state xs) frames told) old session mid) out events out_mid
    events_mid)
    are
    (subst
    (λ (xs : List Touched).
    Tells (λ (frames : List SessionFrame) (told : List Event).
    GoesOn (TellsAndEchoes xs state (going limit state rs) frames told) old session mid) out events out_mid
    events_mid)
    same echoed))
    fit handles for none
    (subst
    (λ (xs : List (ℕ × ℕ)).
    Tells (λ (frames : List SessionFrame) (told : List Event).
    Refuses session xs items handles mid frames told new) out_mid events_mid out_new events_new)
    bars
    (subst
    (λ (xs : List Touched).
    Tells (λ (frames : List SessionFrame) (told : List Event).
    Refuses session bs xs handles mid frames told new) out_mid events_mid out_new events_new)
    also refused))

-- no session is there that none is
pub none-live : (o : Option Session) → None ≡ o → IsSome o → ⊥
none-live None is there = absurd cc
none-live (Some session) is there = absurd cc

-- what was made ready serves
module _ (limit : ℕ) (old : Talk) (channel : IncomingChannel) (out : List SessionFrame) (it back : Disposition)
    (session : ℕ) (runs : SmallVec (ℕ × ℕ)) (mid : Talk) (out_mid : List SessionFrame)
    (t : Answered gives old out channel (said.Disposition it) (Ok (Live session (taken.Disposition back runs))) mid
    out_mid) where
  taken-there : IsTaken old channel out (said.Disposition it) session (taken.Disposition back runs) mid out_mid
  taken-there = taken-in old channel out (said.Disposition it) session (taken.Disposition back runs) mid out_mid t

  no-ready : Prepares limit old channel it None → ⊥
  no-ready p = p session taken-there.before taken-there.reaches taken-there.live

  -- what comes of it, where these are the deliveries that it reaches
  module _ (deliveries : List Touched)
      (are : AreTouched it (table_of it.role (taken-there.before).value.session) deliveries) where
    -- what it tells are the outcomes of what the Disposition ends
    module _ (state : Option DeliveryState) (sent : List (ℕ × ℕ)) (frames : List SessionFrame) (events : List Event)
        (new : Talk) (g : GoesOn (TellsAndEchoes deliveries state sent frames events) mid session new) where
      same-session : (a b : Session) → Some a ≡ Some b → a.value.session ≡ b.value.session
      same-session a b same = ap (λ (x : Session). x.value.session) (same_Some a b same)

      behind-hearing : (g.before).value.session ≡ ((taken-there.takes).after).value.session
      behind-hearing =
          same-session g.before (taken-there.takes).after (sym (g.stepped).0 ∙ taken-there.stands)

      outcomes-so : NoneUntold (taken-there.before).value.session
          → events ≡ outcomes_told it (taken-there.before).value.session deliveries
      outcomes-so none =
          (g.done).told
          ∙ ap (λ (s : LinksIn). reached_told s deliveries) behind-hearing
          ∙ told-ends it (taken-there.before).value.session ((taken-there.takes).after).value.session
          (map (echo_of it) runs.items) deliveries none ((((taken-there.takes).hears).heard).0).1
          are

      none-so : NoneUntold (taken-there.before).value.session → NoneUntold (g.after).value.session
      none-so none =
          each-sent (behind_reached (g.before).value.session deliveries) (echoes_of state sent)
          (g.after).value.session ((g.done).echoes).sends
          (subst (λ (s : LinksIn). NoneUntold (behind_reached s deliveries)) (sym behind-hearing)
          (told-all it (taken-there.before).value.session ((taken-there.takes).after).value.session
          (map (echo_of it) runs.items) deliveries none ((((taken-there.takes).hears).heard).0).1
          are))

      none-in : NoneUntold (taken-there.before).value.session → NoneUntoldIn new session
      none-in none s live =
          let is : s ≡ g.after =
          same_Some _ _ (sym live ∙ live-behind mid new session g.before g.after g.stepped) in
          subst (λ (x : Session). NoneUntold x.value.session) (sym is) (none-so none)

    done-by : (frames : List SessionFrame) (events : List Event) (new : Talk)
        → TellsAndRefuses limit session deliveries it.state runs.items (handles_of deliveries)
        mid frames events new
        → DoneIn limit old it session runs.items mid frames events new
    done-by frames events new d =
        record {
          stood = taken-there.before;
          live = taken-there.live;
          deliveries = deliveries;
          are_reached = are;
          done = d;
          outcomes = outcomes-so it.state (going limit it.state runs.items) d.sent d.told d.mid d.echoes;
          all_told = λ none.
              all-told session (barred limit it.state runs.items) deliveries
              (handles_of deliveries) d.mid new d.closed d.ended d.refuses
              (none-in it.state (going limit it.state runs.items) d.sent d.told d.mid d.echoes none);
        }

  -- the same, where they are those of the session as it stood
  pub done-at : (stood : Session) → live_at old.sessions session ≡ Some stood → (deliveries : List Touched)
      → AreTouched it (table_of it.role stood.value.session) deliveries
      → (frames : List SessionFrame) (events : List Event) (new : Talk)
      → TellsAndRefuses limit session deliveries it.state runs.items (handles_of deliveries) mid frames events new
      → DoneIn limit old it session runs.items mid frames events new
  done-at stood live deliveries are =
      done-by deliveries
      (subst (λ (s : Session). AreTouched it (table_of it.role s.value.session) deliveries)
      (same_Some stood taken-there.before (sym live ∙ taken-there.live)) are)

  module _ (ready : Ready) (p : Prepares limit old channel it (Some ready)) where
    is-ready : IsReady limit (taken-there.before).value it ready
    is-ready = p session taken-there.before taken-there.reaches taken-there.live

    few-runs : length runs.items ≤ length (ready.reached).items
    few-runs =
        no-more-runs gives (taken-there.before).value.session ((taken-there.takes).after).value.session it runs.items
        (ready.reached).items ((((taken-there.takes).hears).heard).0).1 is-ready.deliveries

    heard-same : Same (taken-there.before).value ((taken-there.takes).after).value
    heard-same =
        let stays = taken-stays it (taken-there.before).value.session ((taken-there.takes).after).value.session
        (map (echo_of it) runs.items) ((((taken-there.takes).hears).heard).0).1 in
        record {
          fields = stays.fields;
          queues = stays.queues;
          opens = λ h.
              opens-fall it (taken-there.before).value.session ((taken-there.takes).after).value.session
              (map (echo_of it) runs.items) (ready.reached).items ((((taken-there.takes).hears).heard).0).1
              is-ready.deliveries h.0;
        }

    made-so : All (MadeIn mid session) (ready.closings).items
    made-so k d below s live =
        let is : s ≡ (taken-there.takes).after = same_Some _ _ (sym live ∙ taken-there.stands) in
        subst (λ (x : Session). IsMade x.value (get_or (ready.closings).items k d)) (sym is)
        (made-on (taken-there.before).value ((taken-there.takes).after).value heard-same _ (is-ready.made k d below))

    serves : Serves limit mid session runs.items ready
    serves =
        record {
          there = ap is_some taken-there.stands;
          few = few-runs;
          echoes =
              record {
                each = (is-ready.serves).each;
                enough = omega (arith, few-runs, (is-ready.serves).enough);
                fit = (is-ready.serves).fit;
                none = (is-ready.serves).none;
                room = λ wide. omega (arith, few-runs, (is-ready.serves).room wide);
              };
          handles = is-ready.handles;
          made = made-so;
        }

    done-in : (frames : List SessionFrame) (events : List Event) (new : Talk)
        → TellsAndRefuses limit session (ready.reached).items (ready.echoes).state runs.items
        (handles_of (ready.reached).items) mid frames events new
        → DoneIn limit old it session runs.items mid frames events new
    done-in frames events new d =
        done-by (ready.reached).items is-ready.deliveries frames events new
        (subst
        (λ (state : Option DeliveryState).
        TellsAndRefuses limit session (ready.reached).items state runs.items (handles_of (ready.reached).items) mid
        frames events new)
        is-ready.state d)

module _ (limit : ℕ) (old : Talk) (channel : IncomingChannel) (out : List SessionFrame) (it : Disposition) where
  stands-so : (heard : LinkHeard) (ready : Option Ready) (mid : Talk) (out_mid : List SessionFrame)
      → Prepares limit old channel it ready
      → Answered gives old out channel (said.Disposition it) (Ok heard) mid out_mid
      → StandsFor limit mid (runs_of heard) ready
  stands-so (Live session (taken.Disposition back runs)) (Some ready) mid out_mid p t =
      serves limit old channel out it back session runs mid out_mid t ready p
  stands-so heard ready mid out_mid p t = tt

  pub stands-for : (heard : LinkHeard) (took : Option (ℕ × SmallVec (ℕ × ℕ))) → took ≡ runs_of heard
      → (ready : Option Ready) (mid : Talk) (out_mid : List SessionFrame) → Prepares limit old channel it ready
      → Answered gives old out channel (said.Disposition it) (Ok heard) mid out_mid → StandsFor limit mid took ready
  stands-for heard took is ready mid out_mid p t =
      subst (λ (o : Option (ℕ × SmallVec (ℕ × ℕ))). StandsFor limit mid o ready) (sym is)
      (stands-so heard ready mid out_mid p t)

  follows : (heard : LinkHeard) (ready : Option Ready) (mid : Talk) (out_mid : List SessionFrame)
      (frames : List SessionFrame) (events : List Event) (new : Talk) → Prepares limit old channel it ready
      → Answered gives old out channel (said.Disposition it) (Ok heard) mid out_mid
      → DoneBy limit (runs_of heard) ready mid frames events new → Follows (runs_of heard) limit old it mid frames events new
  follows (Live session (taken.Disposition back runs)) (Some ready) mid out_mid frames events new p t d =
      done-in limit old channel out it back session runs mid out_mid t ready p frames events new d
  follows (Live session (taken.Disposition back runs)) None mid out_mid frames events new p t d =
      absurd (no-ready limit old channel out it back session runs mid out_mid t p)
  follows heard ready mid out_mid frames events new p t d = d

  abbrev Hears : Links → Links → Talk → List Event → List Event → List SessionFrame → Type 0
  Hears links links_new new told told_new out_new =
      Tells (λ (frames : List SessionFrame) (events : List Event).
      HearsDisposition old links limit channel it frames events new links_new) out told out_new told_new

  pub disposition-taken : (heard : LinkHeard) (took : Option (ℕ × SmallVec (ℕ × ℕ))) → took ≡ runs_of heard
      → (ready : Option Ready) (mid : Talk) (out_mid : List SessionFrame) (links links_new : Links) (new : Talk)
      (told told_new : List Event) (out_new : List SessionFrame) → links_new ≡ links → out_mid ≡ out
      → Prepares limit old channel it ready
      → Answered gives old out channel (said.Disposition it) (Ok heard) mid out_mid
      → Tells (λ (frames : List SessionFrame) (events : List Event).
      DoneBy limit took ready mid frames events new) out_mid told out_new told_new
      → Hears links links_new new told told_new out_new
  disposition-taken heard took is ready mid out_mid links links_new new told told_new out_new stays same p t d =
      record {
        frames = d.frames;
        events = d.events;
        is_so =
            inl (record {
              heard = heard;
              mid = mid;
              answered =
                  answer-alone gives old mid channel (said.Disposition it) (Ok heard) out out_mid []
                  (same ∙ sym (append-nil out)) t;
              follows =
                  follows heard ready mid out_mid d.frames d.events new p t
                  (subst (λ (o : Option (ℕ × SmallVec (ℕ × ℕ))). DoneBy limit o ready mid d.frames d.events new) is d.is_so);
              same = stays;
            });
        queued = d.queued ∙ ap (λ (o : List SessionFrame). o ++ d.frames) same;
        are_told = d.are_told;
      }

  pub disposition-fails : (links links_new : Links) (new : Talk) (told told_new : List Event)
      (out_new : List SessionFrame)
      → Tells (λ (frames : List SessionFrame) (events : List Event).
      FailsBySaid old links channel (said.Disposition it) frames events new links_new) out told out_new told_new
      → Hears links links_new new told told_new out_new
  disposition-fails links links_new new told told_new out_new t =
      record {
        frames = t.frames;
        events = t.events;
        is_so = inr t.is_so;
        queued = t.queued;
        are_told = t.are_told;
      }

-- nothing comes of it
module _ (limit : ℕ) (mid : Talk) (out : List SessionFrame) (told : List Event) where
  abbrev pub NothingSo : Option (ℕ × SmallVec (ℕ × ℕ)) → Option Ready → Type 0
  NothingSo took ready =
      Tells (λ (frames : List SessionFrame) (events : List Event). DoneBy limit took ready mid frames events mid) out told out
      told

  rested : Tells (λ (frames : List SessionFrame) (events : List Event). Rested mid frames events mid) out told out told
  rested =
      record {
        frames = [];
        events = [];
        is_so = record { silent = refl; untold = refl; stays = refl };
        queued = sym (append-nil out);
        are_told = sym (append-nil told);
      }

  -- where no session took it
  pub none-took : (took : Option (ℕ × SmallVec (ℕ × ℕ))) (ready : Option Ready) → took ≡ None → NothingSo took ready
  none-took took ready is = subst (λ (o : Option (ℕ × SmallVec (ℕ × ℕ))). NothingSo o ready) (sym is) rested

  unready : (took : Option (ℕ × SmallVec (ℕ × ℕ))) → NothingSo took None
  unready None = rested
  unready (Some (session, runs)) = rested

  -- or nothing was made ready
  pub none-ready : (took : Option (ℕ × SmallVec (ℕ × ℕ))) (ready : Option Ready) → ready ≡ None → NothingSo took ready
  none-ready took ready is = subst (NothingSo took) (sym is) (unready took)
