-- Links stand where they are held, whatever an endpoint does.
use Rattle.std.proofs.Common.{◌≡◌, ℕ, zero, suc, Bool, true, false, List, [], ◌∷◌, ◌++◌, Option, Some, None, ap, refl}
use Rattle.std.proofs.Common.{length, subst, sym, ◌∙◌}
use Rattle.std.proofs.lemmas.Bool.{eq-eqb}
use Rattle.std.proofs.lemmas.Option.{none-some, same_Some}
use Rattle.amqp_session_frames.specs.State as channels
use Rattle.amqp_session_frames.specs.declared.state.ConnectionState.TheVariants.{HeaderSent}
use Rattle.amqp_session_types.specs.declared.channels.OutgoingChannel.{OutgoingChannel}
use Rattle.amqp_session_types.specs.declared.handles.OutputHandle.{OutputHandle}
use Rattle.amqp_session_frames.specs.declared.frame.Frame.{Frame}
use Rattle.amqp_session_frames.specs.declared.frame.FrameBody.{FrameBody}
use Rattle.amqp_session_frames.specs.declared.frame.FrameBody.TheVariants as body
use Rattle.amqp_link.specs.declared.end.End.{End}
use Rattle.amqp_endpoint_laws.specs.Deeds.{AreDone, Closes, Deed, Does, EndsBy, Finishes, Hears, IsDeed, Moves}
use Rattle.amqp_endpoint_laws.specs.Deeds.{MovesByFrame, Queues, Refuses, Renews, Takes}
use Rattle.amqp_endpoint_laws.proofs.Runs.{is-done}
use Rattle.amqp_endpoint.specs.Does.{linked}
use Rattle.amqp_endpoint.specs.declared.linked.LinkedSessions.{LinkedSessions}
use Rattle.amqp_endpoint_linking.specs.Ending.{FinishesFirst, LeavesFirst, session_of}
use Rattle.amqp_endpoint_linking.specs.GivingBack.{SessionGivenBack}
use Rattle.amqp_endpoint_linking.specs.Linking.{Links, Session, Sessions, Stood}
use Rattle.amqp_endpoint_model.specs.History.{Run}
use Rattle.amqp_endpoint_model.specs.Relay.{IsNew}
use Rattle.amqp_endpoint_model.specs.Said.{Told}
use Rattle.amqp_endpoint_model.specs.State.{State, fresh}
use Rattle.amqp_endpoint_model.specs.Step.{SendsClose}
use Rattle.amqp_endpoint_model.specs.declared.call.Call.{Call}
use Rattle.amqp_endpoint_model.specs.declared.error.EndpointError.{EndpointError}
use Rattle.amqp_endpoint_model.specs.declared.settings.Settings.{Settings}
use Rattle.amqp_endpoint_tables.specs.LinkState.{held_of, place_at as link_place}
use Rattle.amqp_endpoint_tables.specs.declared.link_place.LinkPlace.{LinkPlace}
use Rattle.amqp_endpoint_tables.specs.declared.link_place.LinkPlace.TheVariants.{Held}
use Rattle.amqp_endpoint_tables.specs.State.{finished_place, live_at, live_of}
use Rattle.amqp_endpoint_tables.specs.Steps.{EndSent, Finished, Finishes as FinishesStep, Step}
use Rattle.amqp_endpoint_tables.specs.declared.place.Place.TheVariants.{Asked, Ending, Live, Over}
use Rattle.amqp_endpoint_tables.proofs.Owning.{at}
use Rattle.amqp_endpoint_laws.specs.Agreeing.{Agree}
use Rattle.amqp_endpoint_laws.specs.Conversing.{SessionsAct}
use Rattle.amqp_endpoint_laws.specs.Held.{Agrees, number_at, number_in, number_live}
use Rattle.amqp_endpoint_laws.proofs.Agreeing.{stay}
use Rattle.amqp_endpoint_laws.proofs.HeldCalled.{Stands, called}
use Rattle.amqp_endpoint_laws.proofs.HeldHeard.{frame-held, refused-same}
use Rattle.amqp_endpoint_laws.proofs.HeldParting.{session-back}
use Rattle.amqp_endpoint_laws.proofs.HeldSessions.{about-same, ends-gone}

-- in the new table likewise
rests : (old new : Sessions) (links links_new : Links) → new ≡ old → links_new ≡ links
    → Agrees (number_at old) links → Agrees (number_at new) links_new
rests old new links links_new same is a =
    stay (number_at old) (number_at new) links links_new
    (λ n handle. ap (λ (s : Sessions). number_at s n handle) same) is a

-- the own sides of sessions are over
left-one : (number : ℕ) (left : Option (OutgoingChannel × Session)) (old new : Sessions) (links links_new : Links)
    → EndSent false old number left new → SessionGivenBack links (session_of left) links_new
    → Agrees (number_at old) links
    → Agrees (number_at new) links_new
left-one number None old new links links_new e back a = rests old new links links_new e.1 back a
left-one number (Some given) old new links links_new e back a =
    session-back number given.1 old new links links_new (ends-gone number given.0 given.1 false old new e) back a

left-first : (count : ℕ) (old new : Sessions) (links links_new : Links) → LeavesFirst count old links new links_new
    → Agrees (number_at old) links → Agrees (number_at new) links_new
left-first zero old new links links_new l a = rests old new links links_new l.0 l.1 a
left-first (suc count) old new links links_new (mid, links_mid, first, one) a =
    left-one count one.left mid new links_mid links_new one.sent one.back
    (left-first count old mid links links_mid first a)

-- the connection of sessions is over
idle-over : (stood : Stood) (number : ℕ) (old new : Sessions) (links links_new : Links)
    → Step old (FinishesStep number stood) new
    → ((handle : ℕ) → Stands (Some (finished_place stood)) handle ≡ Stands (Some stood) handle) → links_new ≡ links
    → Agrees (number_at old) links → Agrees (number_at new) links_new
idle-over stood number old new links links_new stepped same is a =
    let step : SessionsAct = FinishesStep number stood in
    let (was, becomes) = (at number old step new stepped).about (eq-eqb number number refl) in
    stay (number_at old) (number_at new) links links_new
    (about-same number old new
    (λ n e. (at n old step new stepped).other e)
    (λ handle.
    ap (λ (o : Option Stood). Stands o handle) becomes ∙ same handle
    ∙ sym (ap (λ (o : Option Stood). Stands o handle) was)))
    is a

over-one : (number : ℕ) (stood : Option Stood) (old new : Sessions) (links links_new : Links)
    → Finished old number stood new → SessionGivenBack links (live_of stood) links_new → Agrees (number_at old) links
    → Agrees (number_at new) links_new
over-one number None old new links links_new f back a = rests old new links links_new f.1 back a
over-one number (Some (Live channel session)) old new links links_new f back a =
    let step : SessionsAct = FinishesStep number (Live channel session) in
    let (was, becomes) = (at number old step new f).about (eq-eqb number number refl) in
    session-back number session old new links links_new
    (record {
      was = λ handle. ap (λ (o : Option Stood). Stands o handle) was;
      is = λ handle. ap (λ (o : Option Stood). Stands o handle) becomes;
      other = λ n handle e. ap (λ (o : Option Stood). Stands o handle) ((at n old step new f).other e);
    })
    back a
over-one number (Some (Asked channel asked)) old new links links_new f back a =
    idle-over (Asked channel asked) number old new links links_new f (λ handle. refl) back a
over-one number (Some (Ending channel own_end)) old new links links_new f back a =
    idle-over (Ending channel own_end) number old new links links_new f (λ handle. refl) back a
over-one number (Some (Over peer_end complete)) old new links links_new f back a =
    idle-over (Over peer_end complete) number old new links links_new f (λ handle. refl) back a

over-first : (count : ℕ) (old new : Sessions) (links links_new : Links) → FinishesFirst count old links new links_new
    → Agrees (number_at old) links → Agrees (number_at new) links_new
over-first zero old new links links_new f a = rests old new links links_new f.0 f.1 a
over-first (suc count) old new links links_new (mid, links_mid, first, one) a =
    over-one count one.stood mid new links_mid links_new one.finished one.back
    (over-first count old mid links links_mid first a)

-- no link knows of the connection
moved-agree : (s : LinkedSessions) (connection : channels.State) → Agree s → Agree (linked.moved s connection)
moved-agree s connection a =
    stay (number_at s.talk.sessions) (number_at (record s.talk.sessions { connection = connection })) s.links s.links
    (λ n handle. refl) refl a

-- by a frame of its own the connection alone goes on
moves-agree : (it : FrameBody) (old new : LinkedSessions) → MovesByFrame linked it old new → Agree old → Agree new
moves-agree body.Empty old new same a = subst Agree (sym same) a
moves-agree (body.Open peer) old new m a =
    subst Agree (sym m.is)
    (moved-agree old
    (record old.talk.sessions.connection {
      local_state = new.talk.sessions.connection.local_state;
      remote_channel_max = Some peer.channel_max;
    }) a)
moves-agree (body.Close close) old new m a =
    subst Agree (sym m.is)
    (moved-agree old
    (record old.talk.sessions.connection { local_state = new.talk.sessions.connection.local_state }) a)
moves-agree it old new m a = absurd m

-- the connection is over behind a frame that was refused
told-close : (own : Bool) (old told : LinkedSessions) → SendsClose linked own true old told → Agree old → Agree told
told-close true old told same a = subst Agree (sym same) a
told-close false old told m a =
    subst Agree (sym m.is)
    (moved-agree old
    (record old.talk.sessions.connection { local_state = told.talk.sessions.connection.local_state }) a)

ends : (limit : ℕ) (f : Frame) (error : EndpointError) (own_close : Bool) (old new : LinkedSessions)
    → EndsBy linked old limit f error own_close new → Agree old → Agree new
ends limit f error own_close old new e a =
    let told = e.closes.told in
    let refused : Agree e.refused =
    stay (number_at old.talk.sessions) (number_at e.refused.talk.sessions) old.links e.refused.links
    (refused-same f.body old.talk e.refused.talk old.links old.given limit (record { 0 = f.channel }) error
    ((e.refuses).0).refuses)
    ((e.refuses).0).same a in
    over-first (length told.talk.sessions.places) told.talk.sessions new.talk.sessions told.links new.links
    ((e.closes.over).0).each (told-close own_close e.refused told e.closes.tells refused)

-- new sessions have no links
pub agree-new : (settings : Settings) (sessions : LinkedSessions) → IsNew linked settings sessions → Agree sessions
agree-new settings sessions new =
    subst Agree (sym new.is)
    (record {
      held = λ link session handle e. absurd (none-some _ e);
      stands = λ link session handle e. absurd (none-some _ e);
    })

-- whatever is done
pub agree-kept : (old new : LinkedSessions) (deed : Deed) → IsDeed linked old deed new → Agree old → Agree new
agree-kept old new (Queues it) same a = subst Agree (sym same) a
agree-kept old new (Hears frame events) (moves, told) a = moves-agree frame.body old new moves a
agree-kept old new (Takes limit f frames events) h a =
    frame-held f.body old.talk new.talk old.links new.links old.given new.given limit (record { 0 = f.channel }) frames
    events h.0 a
agree-kept old new (Refuses limit f error own_close) e a = ends limit f error own_close old new e a
agree-kept old new (Does limit it answer frames) c a = called it answer old new limit frames c.0 a
agree-kept old new (Moves connection) m a = subst Agree (sym m.1) (moved-agree old connection a)
agree-kept old new Renews is a =
    subst Agree (sym is) (moved-agree old (channels.fresh HeaderSent old.talk.sessions.connection.local_open) a)
agree-kept old new Closes l a =
    left-first (length old.talk.sessions.places) old.talk.sessions new.talk.sessions old.links new.links (l.0).each a
agree-kept old new Finishes f a =
    over-first (length old.talk.sessions.places) old.talk.sessions new.talk.sessions old.links new.links (f.0).each a

pub agree-done : (deeds : List Deed) (old new : LinkedSessions) → AreDone linked old deeds new → Agree old → Agree new
agree-done [] old new same a = subst Agree (sym same) a
agree-done (deed ∷ deeds) old new (mid, one, rest) a =
    agree-done deeds mid new rest (agree-kept old mid deed one a)

-- what is read of it: the link stands in the session that is said to hold it
pub held-number : (s : LinkedSessions) → Agree s → (link session : ℕ) (handle : OutputHandle)
    → link_place s.links link ≡ Some (Held session handle) → number_at s.talk.sessions session handle.0 ≡ Some link
held-number s a link session handle e =
    a.held link session handle (ap (λ (o : Option (LinkPlace End)). held_of o) e)

-- and where that goes on
pub live-number : (s : LinkedSessions) → Agree s → (link session : ℕ) (handle : OutputHandle) (stood : Session)
    → link_place s.links link ≡ Some (Held session handle) → live_at s.talk.sessions session ≡ Some stood
    → number_in stood.value.session handle.0 ≡ Some link
live-number s a link session handle stood e live =
    sym (ap (λ (o : Option Session). number_live o handle.0) live) ∙ held-number s a link session handle e

-- no two links are held under one handle of one session
pub one-held : (s : LinkedSessions) → Agree s → (m n session : ℕ) (handle : OutputHandle)
    → link_place s.links m ≡ Some (Held session handle) → link_place s.links n ≡ Some (Held session handle) → m ≡ n
one-held s a m n session handle e f =
    same_Some m n (sym (held-number s a m session handle e) ∙ held-number s a n session handle f)

-- from new sessions on
module _ (sessions : LinkedSessions) (settings : Settings) (new : IsNew linked settings sessions) where
  pub done-agree : (deeds : List Deed) (end : LinkedSessions) → AreDone linked sessions deeds end → Agree end
  done-agree deeds end done = agree-done deeds sessions end done (agree-new settings sessions new)

  pub run-agrees : (calls : List Call) (told : List Told) (end : State LinkedSessions)
      → Run linked (fresh settings sessions) calls told end → Agree end.sessions
  run-agrees calls told end run =
      let d = is-done linked sessions settings calls told end run in
      done-agree (d.before ++ d.since) end.sessions d.are_done
