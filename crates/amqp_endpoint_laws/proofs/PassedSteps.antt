-- Whatever is done, a session that has begun came about by steps of its own, and these handed out what its links said
-- among what passed.
use Rattle.std.proofs.Common.{◌≡◌, ◌≢◌, ℕ, Bool, true, false, List, [], ◌∷◌, ◌++◌, Option, Some, None, Result, Ok, Err}
use Rattle.std.proofs.Common.{ap, append-nil, append_assoc, refl, sym, subst, ◌∙◌}
use Rattle.std.specs.Prelude.{if◌then◌else◌, option_to_list, ⊤}
use Rattle.std.specs.Global.{Box}
use Rattle.std.proofs.lemmas.Option.{none-some, same_Some}
use Rattle.amqp_session_types.specs.declared.channels.IncomingChannel.{IncomingChannel}
use Rattle.amqp_session_types.specs.declared.channels.OutgoingChannel.{OutgoingChannel}
use Rattle.amqp_session_types.specs.declared.refusals.SessionError.{SessionError}
use Rattle.amqp_session_types.specs.declared.refusals.SessionError.TheVariants.{UnattachedHandle, HandleInUse, Memory}
use Rattle.amqp_session_types.specs.declared.refusals.SessionError.TheVariants.{RemoteAttachingLinkNameNotFound}
use Rattle.amqp_session_types.specs.declared.refusals.SessionError.TheVariants.{IllegalState, ConnectionStopped}
use Rattle.amqp_session_types.specs.declared.refusals.SessionError.TheVariants.{TransferFrameToSender, RemoteEnded}
use Rattle.amqp_session_types.specs.declared.refusals.SessionError.TheVariants.{RemoteEndedWithError, NumberInUse}
use Rattle.amqp_session_types.specs.declared.refusals.SessionError.TheVariants.{HandleMaxReached}
use Rattle.amqp_session_performatives.specs.declared.begin.Begin.{Begin}
use Rattle.amqp_session_performatives.specs.declared.flow.Flow.{Flow}
use Rattle.amqp_session_performatives.specs.declared.transfer.Transfer.{Transfer}
use Rattle.amqp_session_performatives.specs.declared.session_frame.SessionFrame.{SessionFrame}
use Rattle.amqp_session_frames.specs.declared.frame.FrameBody.TheVariants as body
use Rattle.amqp_session_core.specs.Frames.{session_flow}
use Rattle.amqp_session_core.specs.History.{History}
use Rattle.amqp_session_core.specs.State.{State, leads}
use Rattle.amqp_session_core.specs.Steps.{SendsBegin, SetsWindow, Act, Step, TakesBegin, TakesDisposition}
use Rattle.amqp_session_core.specs.Steps.{TakesFlow, TakesTransfer}
use Rattle.amqp_session_core.specs.Told.{FlowTaken}
use Rattle.amqp_session_core.specs.declared.fields.SessionFields.{SessionFields}
use Rattle.amqp_session_core.specs.declared.relay.RelayError.{RelayError}
use Rattle.amqp_session_core.specs.declared.relay.TransferAnswer.{TransferAnswer}
use Rattle.amqp_link_base.specs.declared.detached.Detached.{Detached}
use Rattle.amqp_link.specs.declared.relay.AttachTold.{AttachTold}
use Rattle.amqp_link_receiver.specs.declared.answer.Told.{Told}
use Rattle.amqp_endpoint_links.specs.Asked.{is_asked}
use Rattle.amqp_endpoint_links.specs.AskedSession.{asked_by}
use Rattle.amqp_endpoint_links.specs.declared.session.AskedSession.{AskedSession}
use Rattle.amqp_endpoint_links.specs.declared.session.SessionFlow.{SessionFlow}
use Rattle.amqp_endpoint_attached.specs.Linked.{Linked, gives}
use Rattle.amqp_endpoint_conversation.specs.Beginning.{with_links}
use Rattle.amqp_endpoint_laws.specs.Deeds.{Deed}
use Rattle.amqp_endpoint_fitting.specs.Handed.{handed_of}
use Rattle.amqp_endpoint_links.specs.Asking.{FlowAt, FlowInSession}
use Rattle.amqp_endpoint_links.specs.Beginning.{Accepted, Begun, accept_steps}
use Rattle.amqp_endpoint_links.specs.Hearing.{Hears, HearsAsked}
use Rattle.amqp_endpoint_links.specs.History.{AreHearing, AskingHistory, AskingAct, AtMostOne, IsAttach, IsDetach}
use Rattle.amqp_endpoint_links.specs.History.{IsDoneBy, IsHearing}
use Rattle.amqp_endpoint_links.specs.declared.hearing.LinkPerformative.{LinkPerformative}
use Rattle.amqp_endpoint_links.specs.declared.hearing.LinkPerformative.TheVariants as said
use Rattle.amqp_endpoint_links.specs.declared.hearing.PerformativeTaken.{PerformativeTaken}
use Rattle.amqp_endpoint_links.specs.declared.hearing.PerformativeTaken.TheVariants as taken
use Rattle.amqp_endpoint_links.proofs.Heard.{heard}
use Rattle.amqp_endpoint_links.proofs.Projecting.{Within, step-within}
use Rattle.amqp_endpoint.specs.Does.{linked}
use Rattle.amqp_endpoint.specs.declared.linked.LinkedSessions.{LinkedSessions}
use Rattle.amqp_endpoint_linking.specs.Linking.{Link, Session, Stood}
use Rattle.amqp_endpoint_model.specs.Relay.{IsNew}
use Rattle.amqp_endpoint_model.specs.declared.settings.Settings.{Settings}
use Rattle.amqp_endpoint_tables.specs.State.{asked_of, live_at, live_of, place_at, with_asked, with_live}
use Rattle.amqp_endpoint_tables.specs.declared.place.Place.TheVariants.{Asked, Live, Ending, Over}
use Rattle.amqp_endpoint_conversation.specs.Inside.{Batches, accepted_of, said_in}
use Rattle.amqp_endpoint_conversation.specs.Windows.{Came, Passing, Went, body_said, went}
use Rattle.amqp_endpoint_conversation.proofs.Inside.{handed-both, history-both, said-both}
use Rattle.amqp_endpoint_laws.specs.Passed.{HasCome, PassesIn, sent_in}
use Rattle.amqp_endpoint_laws.proofs.PassedKept.{new-judges}
use Rattle.amqp_endpoint_laws.proofs.PassedPlaces.{GoesBy, IsGone, Keeping, by-steps, hears, opens}

abbrev LinkAct : Type 0
LinkAct = Act Link AttachTold Told Detached

pub sent-went : (frames : List SessionFrame) → sent_in (went frames) ≡ frames
sent-went [] = refl
sent-went (f ∷ fs) = ap (λ (gs : List SessionFrame). f ∷ gs) (sent-went fs)

pub sent-append : (ps qs : List Passing) → sent_in (ps ++ qs) ≡ sent_in ps ++ sent_in qs
sent-append [] qs = refl
sent-append (Came it ∷ ps) qs = sent-append ps qs
sent-append (Went f ∷ ps) qs = ap (λ (gs : List SessionFrame). f ∷ gs) (sent-append ps qs)

more-sent : (ps qs : List Passing)
    → said_in (sent_in (ps ++ qs)) ≡ said_in (sent_in ps) ++ said_in (sent_in qs)
more-sent ps qs = ap said_in (sent-append ps qs) ∙ said-both (sent_in ps) (sent_in qs)

-- what links say among what passes is what these steps hand out of it
pub record Did (accepted : Batches) (old : State Link) (ps : List Passing) (new : State Link) : Type 0 where
  pub steps : List LinkAct
  pub history : History gives old steps new
  pub accepts : accepted_of steps ≡ accepted
  pub says : said_in (sent_in ps) ≡ said_in (handed_of steps)

one-did : (step : LinkAct) (old new : State Link) (ps : List Passing) → Step gives old step new
    → said_in (sent_in ps) ≡ said_in (handed_of (step ∷ [])) → Did (accepted_of (step ∷ [])) old ps new
one-did step old new ps s is = record { steps = step ∷ []; history = (new, s, refl); accepts = refl; says = is }

flow-taken : (flow said_so : Flow) (frames : List SessionFrame) (answer : Result ⊤ SessionError) (old new : State Link)
    → FlowTaken gives old [] flow answer new frames → Did [] old (Came (body.Flow said_so) ∷ went frames) new
flow-taken flow said_so frames answer old new f =
    one-did (TakesFlow flow f.told f.reply f.base f.left f.frames) old new (Came (body.Flow said_so) ∷ went frames)
    f.stepped
    (ap said_in (sent-went frames ∙ f.added ∙ sym (append-nil f.frames)))

flow-in : (attached : Bool) (flow : Flow) (frames : List SessionFrame) (answer : Result ⊤ SessionError)
    (old new : State Link) → answer ≢ Err Memory → FlowInSession gives attached old [] flow answer new frames
    → Did [] old (Came (body.Flow flow) ∷ went frames) new
flow-in false flow frames answer old new fault f =
    one-did (SetsWindow flow f.base) old new (Came (body.Flow flow) ∷ went frames) f.stepped
    (ap (λ (fs : List SessionFrame). said_in (sent_in (went fs))) f.same)
flow-in true flow frames (Ok ok) old new fault f = flow-taken flow flow frames _ old new f
flow-in true flow frames (Err Memory) old new fault f = absurd (fault refl)
flow-in true flow frames (Err UnattachedHandle) old new fault f = flow-taken flow flow frames _ old new f
flow-in true flow frames (Err HandleInUse) old new fault f = flow-taken flow flow frames _ old new f
flow-in true flow frames (Err RemoteAttachingLinkNameNotFound) old new fault f = flow-taken flow flow frames _ old new f
flow-in true flow frames (Err IllegalState) old new fault f = flow-taken flow flow frames _ old new f
flow-in true flow frames (Err ConnectionStopped) old new fault f = flow-taken flow flow frames _ old new f
flow-in true flow frames (Err TransferFrameToSender) old new fault f = flow-taken flow flow frames _ old new f
flow-in true flow frames (Err RemoteEnded) old new fault f = flow-taken flow flow frames _ old new f
flow-in true flow frames (Err (RemoteEndedWithError e)) old new fault f = flow-taken flow flow frames _ old new f
flow-in true flow frames (Err NumberInUse) old new fault f = flow-taken flow flow frames _ old new f
flow-in true flow frames (Err HandleMaxReached) old new fault f = flow-taken flow flow frames _ old new f

flow-at : (asked : Bool) (flow : Flow) (frames : List SessionFrame) (answer : Result ⊤ SessionError)
    (old new : Linked) → answer ≢ Err Memory → FlowAt gives asked old [] flow answer new frames
    → Did [] old.session (Came (body.Flow flow) ∷ went frames) new.session
flow-at false flow frames answer old new fault f =
    flow-in (leads old.session flow.handle) flow frames answer old.session new.session fault f.0
flow-at true flow frames (Ok ok) old new fault f =
    flow-taken _ flow frames _ old.session new.session f.0
flow-at true flow frames (Err e) old new fault f = absurd (fault (ap Err f.0))

-- links say nothing as something else is heard
due-none : (due : Bool) (f : SessionFields) (number : ℕ)
    → said_in (option_to_list (if due then Some (session_flow f number) else None) ++ []) ≡ []
due-none true f number = refl
due-none false f number = refl

transfer-none : (handle : ℕ) (it : Transfer) (payload : List ℕ) (told : Result (TransferAnswer Told) RelayError)
    (due : Option SessionFrame) (old new : State Link) → Step gives old (TakesTransfer handle it payload told due) new
    → said_in (handed_of {R = Link} {A = AttachTold} {T = Told} {D = Detached} (TakesTransfer handle it payload
    told due ∷ []))
    ≡ []
transfer-none handle it payload (Ok told) due old new s =
    ap (λ (f : Option SessionFrame). said_in (option_to_list f ++ [])) (s.2).told ∙ due-none _ _ _
transfer-none handle it payload (Err e) due old new s =
    ap (λ (f : Option SessionFrame). said_in (option_to_list f ++ [])) s.2

-- nothing is said by steps, and no transfer accepted
record Silent (steps : List LinkAct) : Type 0 where
  says : said_in (handed_of steps) ≡ []
  accepts : accepted_of steps ≡ []

one-none : (Is : LinkAct → Type 0) → ((step : LinkAct) → Is step → Silent (step ∷ [])) → (steps : List LinkAct)
    → AtMostOne Is steps → Silent steps
one-none Is by [] are = record { says = refl; accepts = refl }
one-none Is by (step ∷ []) are = by step are
one-none Is by (step ∷ next ∷ steps) are = absurd are

step-none : (it : LinkPerformative) (step : AskingAct Link AttachTold Told Detached) (old new : Linked)
    → IsHearing it step → ((flow : Flow) → it ≢ said.Flow flow) → (w : Within gives step old new)
    → Silent w.steps
step-none (said.Attach attach named) step old new (result, is) other w =
    one-none (IsAttach attach named)
    (λ s i. subst (λ (x : LinkAct). Silent (x ∷ [])) (sym i.is) (record { says = refl; accepts = refl })) w.steps
    (subst (λ (x : AskingAct Link AttachTold Told Detached). IsDoneBy x w.steps) is w.are)
step-none (said.Flow flow) step old new is other w = absurd (other flow refl)
step-none (said.Transfer transfer payload) step old new (handle, told, due, is) other w =
    let done : w.steps ≡ TakesTransfer handle transfer payload told due ∷ [] =
    subst (λ (x : AskingAct Link AttachTold Told Detached). IsDoneBy x w.steps) is w.are in
    let run = subst (λ (ss : List LinkAct). History gives old.session ss new.session) done w.run in
    subst Silent (sym done)
    (record { says = transfer-none handle transfer payload told due old.session run.0 run.1; accepts = refl })
step-none (said.Disposition disposition) step old new (walk, echoes, is) other w =
    let done : w.steps ≡ TakesDisposition disposition walk echoes ∷ [] =
    subst (λ (x : AskingAct Link AttachTold Told Detached). IsDoneBy x w.steps) is w.are in
    subst Silent (sym done) (record { says = refl; accepts = refl })
step-none (said.Detach detach) step old new (result, is) other w =
    one-none (IsDetach detach)
    (λ s i. subst (λ (x : LinkAct). Silent (x ∷ [])) (sym i.is) (record { says = refl; accepts = refl })) w.steps
    (subst (λ (x : AskingAct Link AttachTold Told Detached). IsDoneBy x w.steps) is w.are)

heard-did : (it : LinkPerformative) (steps : List (AskingAct Link AttachTold Told Detached))
    (frames : List SessionFrame) (old new : Linked) → AreHearing it steps → ((flow : Flow) → it ≢ said.Flow flow)
    → frames ≡ [] → AskingHistory gives old steps new
    → Did [] old.session (Came (body_said it) ∷ went frames) new.session
heard-did it [] frames old new are other none same =
    record {
      steps = [];
      history = ap (λ (t : Linked). t.session) same;
      accepts = refl;
      says = ap (λ (fs : List SessionFrame). said_in (sent_in (went fs))) none;
    }
heard-did it (step ∷ []) frames old new are other none (mid, stepped, same) =
    let w = step-within gives step old mid stepped in
    let silent : Silent w.steps = step-none it step old mid are other w in
    record {
      steps = w.steps;
      history =
          subst (λ (t : Linked). History gives old.session w.steps t.session) (sym same) w.run;
      accepts = silent.accepts;
      says =
          ap (λ (fs : List SessionFrame). said_in (sent_in (went fs))) none
          ∙ sym silent.says;
    }
heard-did it (step ∷ next ∷ steps) frames old new are other none h = absurd are

hears-did : (it : LinkPerformative) (told : Result (PerformativeTaken AttachTold Told Detached) SessionError)
    (frames : List SessionFrame) (old new : Linked) → told ≢ Err Memory → Hears gives old [] it told new frames
    → Did [] old.session (Came (body_said it) ∷ went frames) new.session
hears-did (said.Flow flow) (Ok taken.Flow) frames old new fault h =
    flow-at (is_asked old.asked flow.handle) flow frames (Ok tt) old new (λ e. let clash = e in absurd cc) h
hears-did (said.Flow flow) (Ok (taken.Attach it)) frames old new fault h = absurd h
hears-did (said.Flow flow) (Ok (taken.Transfer it)) frames old new fault h = absurd h
hears-did (said.Flow flow) (Ok (taken.Disposition back runs)) frames old new fault h = absurd h
hears-did (said.Flow flow) (Ok (taken.Detach it)) frames old new fault h = absurd h
hears-did (said.Flow flow) (Err e) frames old new fault h =
    flow-at (is_asked old.asked flow.handle) flow frames (Err e) old new
    (λ (is : Err e ≡ Err Memory). fault (let x : e ≡ Memory = cc in ap Err x)) h
hears-did (said.Attach attach named) told frames old new fault h =
    let (steps, are, history) = heard gives old new [] frames (said.Attach attach named) told h in
    heard-did (said.Attach attach named) steps frames old new are (λ flow e. let clash = e in absurd cc) h.1 history
hears-did (said.Transfer transfer payload) told frames old new fault h =
    let (steps, are, history) = heard gives old new [] frames (said.Transfer transfer payload) told h in
    heard-did (said.Transfer transfer payload) steps frames old new are (λ flow e. let clash = e in absurd cc) h.1
    history
hears-did (said.Disposition disposition) told frames old new fault h =
    let (steps, are, history) = heard gives old new [] frames (said.Disposition disposition) told h in
    heard-did (said.Disposition disposition) steps frames old new are (λ flow e. let clash = e in absurd cc) h.1 history
hears-did (said.Detach detach) told frames old new fault h =
    let (steps, are, history) = heard gives old new [] frames (said.Detach detach) told h in
    heard-did (said.Detach detach) steps frames old new are (λ flow e. let clash = e in absurd cc) h.1 history

pub goes-did : (accepted : Batches) (old new : State Link) (ps : List Passing) → GoesBy accepted old new ps
    → Did accepted old ps new
goes-did accepted old new ps (by-steps frames d is) =
    record {
      steps = d.steps;
      history = d.history;
      accepts = d.accepts;
      says = ap (λ (qs : List Passing). said_in (sent_in qs)) is ∙ ap said_in (sent-went frames)
          ∙ d.says;
    }
goes-did accepted old new ps (hears none it told frames before after memory h was becomes is) =
    subst (λ (bs : Batches). Did bs old ps new) (sym none)
    (subst (λ (qs : List Passing). Did [] old qs new) (sym is)
    (subst (λ (s : State Link). Did [] s (Came (body_said it) ∷ went frames) new) was
    (subst (λ (s : State Link). Did [] before.session (Came (body_said it) ∷ went frames) s) becomes
    (hears-did it told frames before after memory h))))
goes-did accepted old new ps (opens none channel begin base left frames s is) =
    subst (λ (bs : Batches). Did bs old ps new) (sym none)
    (subst (λ (qs : List Passing). Did [] old qs new) (sym is)
    (one-did (TakesBegin channel begin base left frames) old new (Came (body.Begin begin) ∷ went frames) s
    (ap said_in (sent-went frames ∙ sym (append-nil frames)))))

-- where a session stands, and what passed in it so far
abbrev Come : ℕ → Option Stood → List Passing → Type 0
Come first None qs = said_in (sent_in qs) ≡ []
Come first (Some (Asked channel a)) qs = said_in (sent_in qs) ≡ []
Come first (Some (Live channel s)) qs = HasCome first qs s.value.session
Come first (Some (Ending channel own_end)) qs = Unit {0}
Come first (Some (Over peer_end complete)) qs = Unit {0}

record Comes (first : ℕ) (old : Option Stood) (ps : List Passing) (new : Option Stood) : Type 0 where
  by : (qs : List Passing) → Come first old qs → Come first new (qs ++ ps)

comes-still : (first : ℕ) (old new : Option Stood) → new ≡ old → Comes first old [] new
comes-still first old new same =
    record {
      by = λ qs c.
          subst (λ (rs : List Passing). Come first new rs) (sym (append-nil qs))
          (subst (λ (o : Option Stood). Come first o qs) (sym same) c);
    }

comes-on : (first : ℕ) (a b d : Option Stood) (ps rs : List Passing) → Comes first a ps b → Comes first b rs d
    → Comes first a (ps ++ rs) d
comes-on first a b d ps rs x y =
    record {
      by = λ qs c.
          subst (λ (all : List Passing). Come first d all) (append_assoc qs ps rs) (y.by (qs ++ ps) (x.by qs c));
    }

gone-comes : (o : Option Stood) → IsGone o → (first : ℕ) (qs : List Passing) → Come first o qs
gone-comes (Some (Ending channel own_end)) gone first qs = tt
gone-comes (Some (Over peer_end complete)) gone first qs = tt
gone-comes (Some (Asked channel a)) gone first qs = absurd gone
gone-comes (Some (Live channel s)) gone first qs = absurd gone
gone-comes None gone first qs = absurd gone

comes-gone : (first : ℕ) (old new : Option Stood) (ps : List Passing) → IsGone new → said_in (sent_in ps) ≡ []
    → Comes first old ps new
comes-gone first old new ps gone none = record { by = λ qs c. gone-comes new gone first (qs ++ ps) }

no-more : (qs ps : List Passing) → said_in (sent_in ps) ≡ []
    → said_in (sent_in (qs ++ ps)) ≡ said_in (sent_in qs)
no-more qs ps none =
    more-sent qs ps ∙ ap (λ (fs : List SessionFrame). said_in (sent_in qs) ++ fs) none
    ∙ append-nil (said_in (sent_in qs))

come-free : (o : Option Stood) (first : ℕ) (qs ps : List Passing) → said_in (sent_in ps) ≡ [] → Come first o qs
    → Come first o (qs ++ ps)
come-free None first qs ps none c = no-more qs ps none ∙ c
come-free (Some (Asked channel a)) first qs ps none c = no-more qs ps none ∙ c
come-free (Some (Live channel s)) first qs ps none c =
    record {
      channel = c.channel;
      window = c.window;
      steps = c.steps;
      history = c.history;
      says = no-more qs ps none ∙ c.says;
    }
come-free (Some (Ending channel own_end)) first qs ps none c = tt
come-free (Some (Over peer_end complete)) first qs ps none c = tt

comes-free : (first : ℕ) (stood : Option Stood) (frames : List SessionFrame) → said_in frames ≡ []
    → Comes first stood (went frames) stood
comes-free first stood frames none =
    record {
      by = λ qs c. come-free stood first qs (went frames) (ap said_in (sent-went frames) ∙ none) c;
    }

more-come : (first : ℕ) (accepted : Batches) (qs ps : List Passing) (old new : State Link) → Did accepted old ps new
    → HasCome first qs old → HasCome first (qs ++ ps) new
more-come first accepted qs ps old new d c =
    record {
      channel = c.channel;
      window = c.window;
      steps = c.steps ++ d.steps;
      history = history-both gives c.steps d.steps _ old new c.history d.history;
      says =
          more-sent qs ps ∙ ap (λ (fs : List SessionFrame). fs ++ said_in (sent_in ps)) c.says
          ∙ ap (λ (fs : List SessionFrame). said_in (handed_of c.steps) ++ fs) d.says
          ∙ sym (said-both (handed_of c.steps) (handed_of d.steps))
          ∙ ap said_in (sym (handed-both c.steps d.steps));
    }

comes-live : (first : ℕ) (stood : Stood) (accepted : Batches) (before after : Session) (ps : List Passing) → Unit {0}
    → live_of (Some stood) ≡ Some before → GoesBy accepted before.value.session after.value.session ps
    → Comes first (Some stood) ps (Some (with_live stood after))
comes-live first (Live channel s) accepted before after ps any is g =
    record {
      by = λ qs c.
          more-come first accepted qs ps before.value.session after.value.session
          (goes-did accepted before.value.session after.value.session ps g)
          (subst (λ (x : Session). HasCome first qs x.value.session) (same_Some s before is) c);
    }
comes-live first (Asked channel a) accepted before after ps any is g = absurd (none-some before is)
comes-live first (Ending channel own_end) accepted before after ps any is g = absurd (none-some before is)
comes-live first (Over peer_end complete) accepted before after ps any is g = absurd (none-some before is)

comes-told : (first : ℕ) (stood : Stood) (before after : Box AskedSession) (it : LinkPerformative)
    → asked_of (Some stood) ≡ Some before → HearsAsked before.value it (Ok tt) after.value
    → Comes first (Some stood) (Came (body_said it) ∷ []) (Some (with_asked stood after))
comes-told first (Asked channel a) before after it is h =
    record { by = λ qs c. no-more qs (Came (body_said it) ∷ []) refl ∙ c }
comes-told first (Live channel s) before after it is h = absurd (none-some before is)
comes-told first (Ending channel own_end) before after it is h = absurd (none-some before is)
comes-told first (Over peer_end complete) before after it is h = absurd (none-some before is)

comes-asks : (first : ℕ) (channel : IncomingChannel) (asked : Box AskedSession) (begin : Begin)
    → asked.value ≡ asked_by begin → Comes first None (Came (body.Begin begin) ∷ []) (Some (Asked channel asked))
comes-asks first channel asked begin is =
    record { by = λ qs c. no-more qs (Came (body.Begin begin) ∷ []) refl ∙ c }

first-sent : (qs : List Passing) (frame : SessionFrame) → said_in (sent_in qs) ≡ []
    → said_in (sent_in (qs ++ went (frame ∷ []))) ≡ said_in (frame ∷ [])
first-sent qs frame none =
    more-sent qs (went (frame ∷ [])) ∙ ap (λ (fs : List SessionFrame). fs ++ said_in (frame ∷ [])) none

comes-begins : (first window : ℕ) (channel : OutgoingChannel) (session : Session) (frame : SessionFrame)
    → Begun gives channel first window frame session.value
    → Comes first None (went (frame ∷ [])) (Some (Live channel session))
comes-begins first window channel session frame b =
    record {
      by = λ qs c. record {
        channel = channel;
        window = window;
        steps = SendsBegin frame ∷ [];
        history = b.history;
        says = first-sent qs frame c;
      };
    }

accepted-hands : (first : ℕ) (channel : IncomingChannel) (begin : Begin) (flow : Option SessionFlow)
    (frame : SessionFrame)
    → handed_of {R = Link} {A = AttachTold} {T = Told} {D = Detached} (accept_steps first channel begin flow frame) ≡
    frame ∷ []
accepted-hands first channel begin None frame = refl
accepted-hands first channel begin (Some flow) frame = refl

comes-accepts : (first window : ℕ) (incoming channel : IncomingChannel) (asked : Box AskedSession)
    (outgoing : OutgoingChannel) (session : Session) (frame : SessionFrame)
    → Accepted gives asked.value outgoing channel first window frame session.value
    → Comes first (Some (Asked incoming asked)) (went (frame ∷ []))
    (Some (Live outgoing (with_links session asked.value.links)))
comes-accepts first window incoming channel asked outgoing session frame a =
    record {
      by = λ qs c. record {
        channel = outgoing;
        window = window;
        steps = accept_steps first channel asked.value.begin asked.value.flow frame;
        history = a.history;
        says =
            first-sent qs frame c
            ∙ ap said_in (sym (accepted-hands first channel asked.value.begin asked.value.flow frame));
      };
    }

steps-keep : Keeping (λ accepted. Unit {0}) Comes
steps-keep =
    record {
      quiet = λ accepted up. tt;
      still = comes-still;
      on = comes-on;
      gone = comes-gone;
      free = comes-free;
      live = λ first stood accepted before after ps any is g asked.
          comes-live first stood accepted before after ps any is g;
      fails = λ first stood before after ps qs over is g none gone. record {
        by = λ rs c. gone-comes over gone first (rs ++ (ps ++ qs));
      };
      told = comes-told;
      asks = comes-asks;
      begins = comes-begins;
      accepts = comes-accepts;
    }

come-live : (o : Option Stood) (first : ℕ) (qs : List Passing) (session : Session) → live_of o ≡ Some session
    → Come first o qs → HasCome first qs session.value.session
come-live None first qs session is c = absurd (none-some session is)
come-live (Some (Live channel s)) first qs session is c =
    subst (λ (x : Session). HasCome first qs x.value.session) (same_Some s session is) c
come-live (Some (Asked channel a)) first qs session is c = absurd (none-some session is)
come-live (Some (Ending channel own_end)) first qs session is c = absurd (none-some session is)
come-live (Some (Over peer_end complete)) first qs session is c = absurd (none-some session is)

pub session-come : (sessions end : LinkedSessions) (settings : Settings) (deeds : List Deed) (n : ℕ)
    (passings : List Passing) (session : Session) → IsNew linked settings sessions
    → PassesIn n sessions deeds end passings → live_at end.talk.sessions n ≡ Some session
    → HasCome settings.first_transfer_number passings session.value.session
session-come sessions end settings deeds n passings session new p live =
    come-live (place_at end.talk.sessions n) settings.first_transfer_number passings session live
    ((new-judges Comes steps-keep (λ accepted. tt) sessions end settings deeds n passings new p).by [] refl)
