-- In each run the sessions of an endpoint go on by steps of their own, and no two have one channel.
use Rattle.std.proofs.Common.{Bool, List, None, Some, [], false, suc, true, zero, ℕ, ◌++◌, ◌∷◌, ◌≡◌}
use Rattle.std.proofs.Common.{refl, sym, ap, ◌∙◌}
use Rattle.std.specs.FinMap as map
use Rattle.std.specs.Global.{Box}
use Rattle.std.proofs.lemmas.Option.{none-some}
use Rattle.amqp_session_types.specs.declared.channels.IncomingChannel.{IncomingChannel}
use Rattle.amqp_session_types.specs.declared.channels.OutgoingChannel.{OutgoingChannel}
use Rattle.amqp_session_types.specs.declared.handles.OutputHandle.{OutputHandle}
use Rattle.amqp_session_frames.specs.State as channels
use Rattle.amqp_session_performatives.specs.declared.session_frame.SessionFrame.{SessionFrame}
use Rattle.amqp_link.specs.declared.end.End.{End}
use Rattle.amqp_endpoint_links.specs.declared.session.AskedSession.{AskedSession}
use Rattle.amqp_endpoint_tables.specs.declared.link_place.LinkPlace.TheVariants.{AtRest, Held}
use Rattle.amqp_endpoint_tables.specs.LinkState.{place_at}
use Rattle.amqp_endpoint_tables.specs.State.{channel_at}
use Rattle.amqp_endpoint_tables.specs.Steps.{Accepts, Begins, ChangesConnection, ChangesLive, Ends, History, Step}
use Rattle.amqp_endpoint_model.specs.declared.call.Call.{Call}
use Rattle.amqp_endpoint_model.specs.declared.call.Call.TheVariants as call
use Rattle.amqp_endpoint_model.specs.declared.event.Event.{Event}
use Rattle.amqp_endpoint_model.specs.declared.phase.Phase.{Phase}
use Rattle.amqp_endpoint_model.specs.declared.phase.Phase.TheVariants.{Unconnected, Running}
use Rattle.amqp_endpoint_model.specs.declared.settings.Settings.{Settings}
use Rattle.amqp_endpoint_model.specs.History.{Run}
use Rattle.amqp_endpoint_model.specs.Relay.{IsNew}
use Rattle.amqp_endpoint_model.specs.Said.{Said, Told, attaching, count, credit_is, done, link_closed, session_begun}
use Rattle.amqp_endpoint_model.specs.Said.{message_sent, tried_end, truth, waiting}
use Rattle.amqp_endpoint_model.specs.State.{State, fresh}
use Rattle.amqp_endpoint_linking.specs.Linking.{Links, Session, Sessions, Talk}
use Rattle.amqp_endpoint_linking.specs.Ending.{FinishesFirst}
use Rattle.amqp_endpoint_link_calls.specs.Calling.{Does, DoneAt, detaches, gives_credit, wants_drain}
use Rattle.amqp_endpoint_link_calls.specs.Closing.{ClosedAt, ClosedHeld, parted_at}
use Rattle.amqp_endpoint_link_calls.specs.Places.{Where}
use Rattle.amqp_endpoint_link_calls.specs.Disposing.{DisposedAt, disposes_of_all, disposes_of_one}
use Rattle.amqp_endpoint_link_calls.specs.Sending.{sends}
use Rattle.amqp_endpoint_model.specs.declared.call.Disposal.{Disposal}
use Rattle.amqp_endpoint_laws.proofs.Placing.{IsPlaced, is-again, is-new}
use Rattle.amqp_endpoint.specs.Calling.{Calls}
use Rattle.amqp_endpoint.specs.Does.{linked}
use Rattle.amqp_endpoint.specs.Sending.{tag_of}
use Rattle.amqp_endpoint.specs.declared.linked.LinkedSessions.{LinkedSessions}
use Rattle.amqp_endpoint_laws.specs.Conversing.{SessionsGoOn, SessionsAct}
use Rattle.amqp_endpoint_laws.proofs.Keeping.{Keeps, KeepsSilent, MayDo}
use Rattle.amqp_endpoint_laws.proofs.Kept.{run-keeps}
use Rattle.amqp_endpoint_tables.proofs.Apart.{Each, apart, each_under}
use Rattle.amqp_endpoint_laws.proofs.SessionsApart.{FirstOver, HasNone, all-over, give-keep, none-over, one-over}
use Rattle.amqp_endpoint_laws.proofs.SessionsApart.{steps-none}
use Rattle.amqp_endpoint_laws.proofs.SessionsGoing.{Go, end-told, finishes-first, goes-by, joined, leaves-first}
use Rattle.amqp_endpoint_laws.proofs.SessionsGoing.{stays}
use Rattle.amqp_endpoint_laws.proofs.SessionsHeard.{TalkGoes, changed, heard-goes, refused-goes, talk-stays}

-- what a call does in the session that holds its link
done-at : (does : Does) (place : Where) (old new : Talk) (frames : List SessionFrame)
    → DoneAt does place old [] new frames → TalkGoes old new
done-at does None old new frames d = absurd d
done-at does (Some (AtRest end)) old new frames d = absurd d
done-at does (Some (Held session handle)) old new frames d = changed session d.before d.after old new d.stepped

disposed-at : (limit : ℕ) (place : Where) (messages : List ℕ) (disposal : Disposal) (old new : Talk)
    (frames : List SessionFrame) → DisposedAt limit place messages disposal old [] new frames → TalkGoes old new
disposed-at limit place [] disposal old new frames d = talk-stays old new d.0
disposed-at limit place (message ∷ messages) disposal old new frames d =
    done-at (disposes_of_all limit (message ∷ messages) disposal) place old new frames d

closed-held : (parted : Bool) (session : ℕ) (handle : OutputHandle) (number : ℕ) (events : List Event)
    (old new : Talk) (links links_new : Links) (frames : List SessionFrame)
    → ClosedHeld parted session handle old links number [] events new links_new frames → TalkGoes old new
closed-held true session handle number events old new links links_new frames c =
    changed session c.done.before c.done.after old new c.done.stepped
closed-held false session handle number events old new links links_new frames c =
    changed session c.done.before c.done.after old new c.done.stepped

closed-at : (place : Where) (number : ℕ) (events : List Event) (old new : Talk) (links links_new : Links)
    (frames : List SessionFrame) → ClosedAt place old links number [] events new links_new frames → TalkGoes old new
closed-at None number events old new links links_new frames c = absurd c
closed-at (Some (AtRest end)) number events old new links links_new frames c = talk-stays old new c.same
closed-at (Some (Held session handle)) number events old new links links_new frames c =
    closed-held (parted_at old session handle) session handle number events old new links
    links_new frames c

attached : (old new : Talk) (links links_new : Links) (limit session : ℕ) (link : End) (number : ℕ)
    (events : List Event) (frames : List SessionFrame)
    → IsPlaced old links limit session link number events frames new links_new → TalkGoes old new
attached old new links links_new limit session link number events frames a =
    let i = a.attaches.attaches in changed session i.before i.after old new i.stepped

-- by a call sessions go on, and only a session that begins gets a channel
pub data ByCall (may_begin : Type 0) (old new : Sessions) : Type 0 where
  plainly : Go old new → ByCall may_begin old new
  begun : may_begin → (number : ℕ) (channel : OutgoingChannel) (session : Session)
      → Step old (Begins number channel session) new → ByCall may_begin old new
  accepted : may_begin → (number : ℕ) (incoming : IncomingChannel) (wanted : Box AskedSession)
      (outgoing : OutgoingChannel) (session after : Session) (mid : Sessions)
      → Step old (Accepts number incoming wanted outgoing session) mid
      → Step mid (ChangesLive number session after) new → ByCall may_begin old new

pub called : (phase : Phase) (by_call : Call) (answer : Said) (old new : LinkedSessions) (limit : ℕ)
    (frames : List SessionFrame) → MayDo phase by_call → Calls old limit by_call answer frames new
    → ByCall (phase ≡ Running) old.talk.sessions new.talk.sessions
called phase call.Begin (session_begun n) old new limit frames may c =
    begun may n c.begins.channel c.begins.session c.begins.stepped
called phase (call.AcceptBegin channel) (session_begun n) old new limit frames may c =
    accepted may n c.accepts.incoming c.accepts.wanted c.accepts.outgoing c.accepts.session _ c.accepts.mid
    c.accepts.stepped c.accepts.taken_over
called phase (call.End n) done old new limit frames may c =
    plainly (goes-by (Ends n c.ends.channel c.session true) old.talk.sessions new.talk.sessions tt c.ends.stepped)
called phase (call.IsEnded n) (truth b) old new limit frames may c =
    plainly (stays old.talk.sessions new.talk.sessions (ap (λ (s : LinkedSessions). s.talk.sessions) c.same))
called phase (call.TryEnd n) (tried_end o) old new limit frames may c =
    plainly (end-told old.talk.sessions n _ new.talk.sessions c.tells)
called phase (call.AttachSender n settings) (attaching link events) old new limit frames may c =
    plainly
    (attached old.talk new.talk old.links new.links limit n _ link events frames
    (is-new old.talk new.talk old.links new.links limit n _ link events frames c))
called phase (call.AttachReceiver n settings) (attaching link events) old new limit frames may c =
    plainly
    (attached old.talk new.talk old.links new.links limit n _ link events frames
    (is-new old.talk new.talk old.links new.links limit n _ link events frames c))
called phase (call.Resume link n) (attaching number events) old new limit frames may c =
    plainly
    (attached old.talk new.talk old.links new.links limit n _ link events frames
    (is-again old.talk new.talk old.links new.links limit n link number events frames c))
called phase (call.Detach link) done old new limit frames may c =
    plainly (done-at (detaches false) (place_at old.links link) old.talk new.talk frames c.is_done)
called phase (call.CloseLink link) (link_closed events) old new limit frames may c =
    plainly (closed-at (place_at old.links link) link events old.talk new.talk old.links new.links frames c)
called phase (call.Grant link n) (credit_is left) old new limit frames may c =
    plainly (done-at (gives_credit n left) (place_at old.links link) old.talk new.talk frames c.is_done)
called phase (call.Drain link) done old new limit frames may c =
    plainly (done-at wants_drain (place_at old.links link) old.talk new.talk frames c.is_done)
called phase (call.Send link message) (message_sent tag outcome) old new limit frames may c =
    plainly
    (done-at (sends limit (tag_of old.sent) message c.sends.settled) (place_at old.links link) old.talk new.talk frames
    c.sends.sent)
called phase (call.Dispose link message disposal) done old new limit frames may c =
    plainly
    (done-at (disposes_of_one limit message disposal) (place_at old.links link) old.talk new.talk frames c.disposes)
called phase (call.DisposeAll link messages disposal) done old new limit frames may c =
    plainly (disposed-at limit (place_at old.links link) messages disposal old.talk new.talk frames c.disposes)
called phase (call.Credit link) (credit_is left) old new limit frames may c =
    plainly (stays old.talk.sessions new.talk.sessions (ap (λ (s : LinkedSessions). s.talk.sessions) c.same))
called phase (call.HeldBack n) (count m) old new limit frames may c =
    plainly (stays old.talk.sessions new.talk.sessions (ap (λ (s : LinkedSessions). s.talk.sessions) c.same))
called phase (call.Waiting n) (waiting turn) old new limit frames may c =
    plainly (stays old.talk.sessions new.talk.sessions (ap (λ (s : LinkedSessions). s.talk.sessions) c.same))
called phase by_call answer old new limit frames may c = absurd c

-- from these sessions on
module _ (start : Sessions) where
  further : (old new : Sessions) (steps : List SessionsAct) → History old steps new → SessionsGoOn start old
      → SessionsGoOn start new
  further old new steps h on =
      record { steps = on.steps ++ steps; history = joined start old new on.steps steps on.history h }

  by-go : (old new : Sessions) → Go old new → SessionsGoOn start old → SessionsGoOn start new
  by-go old new g on = further old new g.steps g.history on

  by-connection : (s : LinkedSessions) (connection : channels.State) → SessionsGoOn start s.talk.sessions
      → SessionsGoOn start (record s.talk.sessions { connection = connection })
  by-connection s connection on =
      further s.talk.sessions _ (ChangesConnection s.talk.sessions.connection connection ∷ [])
      (_, (refl, refl), refl) on

  by-call : {may_begin : Type 0} (old new : Sessions) → ByCall may_begin old new → SessionsGoOn start old
      → SessionsGoOn start new
  by-call old new (plainly g) on = by-go old new g on
  by-call old new (begun may number channel session stepped) on =
      further old new (Begins number channel session ∷ []) (new, stepped, refl) on
  by-call old new (accepted may number incoming wanted outgoing session after mid stepped taken) on =
      further old new (Accepts number incoming wanted outgoing session ∷ ChangesLive number session after ∷ [])
      (mid, stepped, (new, taken, refl)) on

  abbrev Goes : Phase → LinkedSessions → Type 0
  Goes phase s = SessionsGoOn start s.talk.sessions

  go-silent : KeepsSilent linked Goes
  go-silent =
      record {
        moved = λ phase s connection live on. by-connection s connection on;
        renewed = λ s on. by-connection s _ on;
        runs = λ phase s on. on;
        refused = λ phase old new limit channel said e r on.
            by-go old.talk.sessions new.talk.sessions
            (refused-goes said old.talk new.talk old.links old.given limit (record { 0 = channel }) e r.0.refuses) on;
        closed = λ phase old new l on.
            by-go old.talk.sessions new.talk.sessions
            (leaves-first _ old.talk.sessions new.talk.sessions old.links new.links l.0.each) on;
        finished = λ phase to old new f on.
            by-go old.talk.sessions new.talk.sessions
            (finishes-first _ old.talk.sessions new.talk.sessions old.links new.links f.0.each) on;
      }

  pub go-keep : Keeps linked (λ seen tags phase s. Goes phase s)
  go-keep =
      record {
        silent = λ seen tags. go-silent;
        told = λ seen tags event phase s theirs on. on;
        taken = λ seen tags phase old new limit channel said frames events h on.
            by-go old.talk.sessions new.talk.sessions
            (heard-goes said old.talk new.talk old.links new.links old.given new.given limit
            (record { 0 = channel }) frames events h.0) on;
        called = λ seen tags phase old new limit by_call answer frames may c on.
            by-call old.talk.sessions new.talk.sessions (called phase by_call answer old new limit frames may c.0) on;
      }

pub go-on : (old end : State LinkedSessions) (calls : List Call) (told : List Told) → Run linked old calls told end
    → SessionsGoOn old.sessions.talk.sessions end.sessions.talk.sessions
go-on old end calls told run =
    run-keeps linked (λ seen tags phase s. Goes old.sessions.talk.sessions phase s)
    (go-keep old.sessions.talk.sessions) [] [] old end calls told run (record { steps = []; history = refl })

never : Running ≡ Unconnected → ⊥
never is = absurd cc

-- the sessions that have a channel stand under it, and before a connection none has
record Stand (phase : Phase) (s : LinkedSessions) : Type 0 where
  each : Each s.talk.sessions
  none : phase ≡ Unconnected → HasNone s.talk.sessions

go-stand : (phase : Phase) (old new : LinkedSessions) → Go old.talk.sessions new.talk.sessions → Stand phase old
    → Stand phase new
go-stand phase old new g s =
    record {
      each =
          each_under old.talk.sessions g.steps new.talk.sessions (give-keep g.steps g.none) g.history s.each;
      none = λ is. steps-none old.talk.sessions g.steps new.talk.sessions g.none g.history (s.none is);
    }

call-stand : (phase : Phase) (old new : LinkedSessions)
    → ByCall (phase ≡ Running) old.talk.sessions new.talk.sessions → Stand phase old → Stand phase new
call-stand phase old new (plainly g) s = go-stand phase old new g s
call-stand phase old new (begun may number channel session stepped) s =
    record {
      each =
          each_under old.talk.sessions (Begins number channel session ∷ []) new.talk.sessions tt
          (new.talk.sessions, stepped, refl) s.each;
      none = λ is. absurd (never (sym may ∙ is));
    }
call-stand phase old new (accepted may number incoming wanted outgoing session after mid stepped taken) s =
    record {
      each =
          each_under old.talk.sessions
          (Accepts number incoming wanted outgoing session ∷ ChangesLive number session after ∷ [])
          new.talk.sessions tt (mid, stepped, (new.talk.sessions, taken, refl)) s.each;
      none = λ is. absurd (never (sym may ∙ is));
    }

pub finishes-none : (number : ℕ) (old new : Sessions) (links links_new : Links)
    → FinishesFirst number old links new links_new → FirstOver number old new
finishes-none zero old new links links_new f = none-over old new f.0
finishes-none (suc number) old new links links_new (mid, links_mid, first, one) =
    one-over number old mid one.stood new (finishes-none number old mid links links_mid first) one.finished

stand-silent : KeepsSilent linked Stand
stand-silent =
    record {
      moved = λ phase s connection live p.
          record {
            each = λ n c e. ap (λ (t : channels.Table). map.get t c.0) live ∙ p.each n c e;
            none = λ is n. p.none is n;
          };
      renewed = λ s p.
          record {
            each = λ n c e. absurd (none-some _ (sym (p.none refl n) ∙ e));
            none = λ is n. p.none refl n;
          };
      runs = λ phase s p. record { each = p.each; none = λ is. absurd (never is) };
      refused = λ phase old new limit channel said e r p.
          go-stand phase old new
          (refused-goes said old.talk new.talk old.links old.given limit (record { 0 = channel }) e r.0.refuses) p;
      closed = λ phase old new l p.
          go-stand phase old new
          (leaves-first _ old.talk.sessions new.talk.sessions old.links new.links l.0.each) p;
      finished = λ phase to old new f p.
          let g : Stand phase new =
          go-stand phase old new
          (finishes-first _ old.talk.sessions new.talk.sessions old.links new.links f.0.each) p in
          record {
            each = g.each;
            none = λ is.
                all-over old.talk.sessions new.talk.sessions
                (finishes-none _ old.talk.sessions new.talk.sessions old.links new.links f.0.each);
          };
    }

stand-keep : Keeps linked (λ seen tags phase s. Stand phase s)
stand-keep =
    record {
      silent = λ seen tags. stand-silent;
      told = λ seen tags event phase s theirs p. p;
      taken = λ seen tags phase old new limit channel said frames events h p.
          go-stand phase old new
          (heard-goes said old.talk new.talk old.links new.links old.given new.given limit
          (record { 0 = channel }) frames events h.0) p;
      called = λ seen tags phase old new limit by_call answer frames may c p.
          call-stand phase old new (called phase by_call answer old new limit frames may c.0) p;
    }

pub own-channels : (sessions : LinkedSessions) (settings : Settings) (calls : List Call) (told : List Told)
    (end : State LinkedSessions) → IsNew linked settings sessions
    → Run linked (fresh settings sessions) calls told end
    → (m n : ℕ) (channel : OutgoingChannel) → channel_at end.sessions.talk.sessions m ≡ Some channel
    → channel_at end.sessions.talk.sessions n ≡ Some channel → m ≡ n
own-channels sessions settings calls told end new run =
    let none-at : (n : ℕ) → channel_at sessions.talk.sessions n ≡ None =
    λ n. ap (λ (s : LinkedSessions). channel_at s.talk.sessions n) new.is in
    let stand : Stand end.phase end.sessions =
    run-keeps linked (λ seen tags phase s. Stand phase s) stand-keep [] [] (fresh settings sessions) end calls told
    run
    (record {
      each = λ n c e. absurd (none-some _ (sym (none-at n) ∙ e));
      none = λ is. none-at;
    }) in
    apart end.sessions.talk.sessions stand.each
