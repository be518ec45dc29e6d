-- What is done in one session is read as its frames.
use Rattle.std.proofs.Common.{◌≡◌, ℕ, List, [], ◌∷◌, ◌++◌, Option, Some, None, Result, Ok, Err}
use Rattle.std.proofs.Common.{ap, arith, length, refl, sym, subst, ◌∙◌}
use Rattle.std.specs.Prelude.{⊤}
use Rattle.std.specs.FinMap as map
use Rattle.std.specs.Global.{Box}
use Rattle.std.proofs.lemmas.Option.{none-some, same_Some}
use Rattle.amqp_session_types.specs.declared.channels.IncomingChannel.{IncomingChannel}
use Rattle.amqp_session_types.specs.declared.channels.OutgoingChannel.{OutgoingChannel}
use Rattle.amqp_session_types.specs.declared.error.Error.{Error}
use Rattle.amqp_session_types.specs.declared.refusals.SessionError.{SessionError}
use Rattle.amqp_session_types.specs.declared.refusals.TryEndError.{TryEndError}
use Rattle.amqp_session_performatives.specs.declared.begin.Begin.{Begin}
use Rattle.amqp_session_performatives.specs.declared.end.End.{End}
use Rattle.amqp_session_performatives.specs.declared.session_frame.SessionFrame.{SessionFrame}
use Rattle.amqp_session_performatives.specs.declared.session_frame.SessionFrameBody.{SessionFrameBody}
use Rattle.amqp_session_performatives.specs.declared.session_frame.SessionFrameBody.TheVariants as session
use Rattle.amqp_session_frames.specs.declared.frame.FrameBody.{FrameBody}
use Rattle.amqp_session_frames.specs.declared.frame.FrameBody.TheVariants as body
use Rattle.amqp_session_core.specs.Relay.{Relations}
use Rattle.amqp_session_core.specs.Steps as session_steps
use Rattle.amqp_endpoint_links.specs.declared.session.AskedSession.{AskedSession}
use Rattle.amqp_endpoint_links.specs.declared.asking.AskingSession.{AskingSession}
use Rattle.amqp_endpoint_links.specs.declared.hearing.LinkPerformative.{LinkPerformative}
use Rattle.amqp_endpoint_links.specs.declared.hearing.PerformativeTaken.{PerformativeTaken}
use Rattle.amqp_endpoint_tables.specs.declared.place.Place.{Place}
use Rattle.amqp_endpoint_tables.specs.declared.place.Place.TheVariants.{Asked, Live, Ending, Over}
use Rattle.amqp_endpoint_tables.specs.State.{State, asked_on, live_at, live_of, place_at, reached, routed}
use Rattle.amqp_endpoint_tables.specs.Steps.{ChangesAsked, ChangesLive, EndTold, Step, TakesBegin, TellsEnd}
use Rattle.amqp_endpoint_tables.proofs.Owning.{at}
use Rattle.amqp_endpoint_conversation.specs.declared.beginning.BeginHeard.TheVariants as begin_heard
use Rattle.amqp_endpoint_conversation.specs.declared.conversation.Conversation.{Conversation}
use Rattle.amqp_endpoint_conversation.specs.declared.ending.EndHeard.{EndHeard}
use Rattle.amqp_endpoint_conversation.specs.Beginning.{AcceptsHere, AsksFor, BeginBarred, BeginsHere, BeginsThere}
use Rattle.amqp_endpoint_conversation.specs.Beginning.{Leads, Sessions}
use Rattle.amqp_endpoint_conversation.specs.Ending.{EndReply, EndsHere, EndsThere, end_frame}
use Rattle.amqp_endpoint_conversation.specs.Hearing.{LiveHears}
use Rattle.amqp_endpoint_laws.specs.Beside.{Agrees, InTables, from, role_of}
use Rattle.amqp_endpoint_laws.specs.Following.{AreFor, AreOf, Follows, IsForReached, IsNoBegin, IsWithin, comes}
use Rattle.amqp_endpoint_laws.specs.Following.{goes}
use Rattle.amqp_endpoint_laws.specs.Reading.{Reader, Speaks, Wired, behind, behind_all, goes_for, peer_ends, reaches}
use Rattle.amqp_endpoint_laws.proofs.Beginning.{all-speak}
use Rattle.amqp_endpoint_laws.proofs.Following.{accepts-follow, begin-follows, begins-follow, by-none, by-one}
use Rattle.amqp_endpoint_laws.proofs.Following.{end-follows, ends-follow, followed-on, follows-keeps, going-same}
use Rattle.amqp_endpoint_laws.proofs.Following.{heard-read, inside-follows, none-read}
use Rattle.amqp_endpoint_laws.proofs.Handing.{hears-of, plain-of, same-of, step-of}
use Rattle.amqp_endpoint_laws.proofs.Whose.{accepts-for, asked-for, begins-for, end-for, ends-for, heard-for}
use Rattle.amqp_endpoint_laws.proofs.Whose.{named-for, speaks-for}

-- one list behind the other
are-both : (base m : ℕ) (r : Reader) (ws more : List Wired) → AreFor base m r ws
    → AreFor base m (behind_all r ws) more → AreFor base m r (ws ++ more)
are-both base m r [] more are later = later
are-both base m r (it ∷ ws) more (one, are) later = (one, are-both base m (behind r it) ws more are later)

-- frames on the channel on which a session speaks
going-on : (r : Reader) (channel : ℕ) (it : SessionFrameBody) → IsNoBegin it → goes_for r channel it ≡ r.speaks channel
going-on r channel (session.Begin begin) plain = absurd plain
going-on r channel (session.Attach attach) plain = refl
going-on r channel (session.Flow flow) plain = refl
going-on r channel (session.Transfer transfer payload) plain = refl
going-on r channel (session.Disposition disposition) plain = refl
going-on r channel (session.Detach detach) plain = refl
going-on r channel (session.End end) plain = refl

on-for : (base m : ℕ) (r : Reader) (channel : ℕ) (frames : List SessionFrame) → from base (r.speaks channel) ≡ Some m
    → AreOf channel frames → AreFor base m r (goes frames)
on-for base m r channel [] here are = tt
on-for base m r channel (frame ∷ frames) here (on, plain, are) = (
  ap (from base) (going-on r frame.channel frame.body plain) ∙ ap (λ (c : ℕ). from base (r.speaks c)) on ∙ here,
  subst (λ (q : Reader). AreFor base m q (goes frames)) (sym (going-same frame.channel frame.body plain r))
      (on-for base m r channel frames here are),
)

none-for : (base m : ℕ) (r : Reader) (frames : List SessionFrame) → frames ≡ [] → AreFor base m r (goes frames)
none-for base m r frames none = subst (λ (fs : List SessionFrame). AreFor base m r (goes fs)) (sym none) tt

-- behind an End each session speaks where it did
ends-same : (o : Option ℕ) (r : Reader) (channel : ℕ) → (peer_ends o r).speaks channel ≡ r.speaks channel
ends-same None r channel = refl
ends-same (Some number) r channel = refl

from-none : (o : Option ℕ) → o ≡ from 0 o
from-none None = refl
from-none (Some number) = ap Some (omega arith)

-- the tables stand without a reader, too
module _ {A S : Type 0} where
  abbrev reader_of : State A S → Reader
  reader_of s =
      record {
        begun = length s.places;
        speaks = λ channel. None;
        own = λ channel. map.get s.connection.live channel;
        led = λ channel. routed s channel;
        asked = λ channel. asked_on s channel;
      }

  agrees-itself : (s : State A S) → Agrees 0 (reader_of s) s
  agrees-itself s =
      record {
        count = omega arith;
        own = λ channel. from-none (map.get s.connection.live channel);
        led = λ channel. from-none (routed s channel);
        asked = λ channel. from-none (asked_on s channel);
      }

  tables-kept : (old new : State A S) (frames : List Wired) → Follows frames old new → InTables old → InTables new
  tables-kept old new frames f stands =
      (follows-keeps 0 (reader_of old) old new frames f stands (agrees-itself old)).0

-- each session that goes on is on the channel on which it hands its frames out
abbrev pub OnOwn : {R : Type 0} → Sessions R → Type 0
OnOwn {R} s =
    (number : ℕ) (channel : OutgoingChannel) (session : Box (AskingSession R))
    → place_at s number ≡ Some (Live channel session) → ((session.value).session).fields.channel ≡ channel

-- what is done in the session with this number is read off these frames, and each of them as the frame of it
pub record Sees {R : Type 0} (m : ℕ) (ws : List Wired) (old new : Sessions R) : Type 0 where
  pub follows : InTables old → Follows ws old new
  pub are : (base : ℕ) (r : Reader) → InTables old → OnOwn old → Agrees base r old → Speaks r → AreFor base m r ws

module _ {R : Type 0} where
  pub sees-on : (m : ℕ) (ws more : List Wired) (old mid new : Sessions R) → (OnOwn old → OnOwn mid)
      → Sees m ws old mid → Sees m more mid new → Sees m (ws ++ more) old new
  sees-on m ws more old mid new own p q =
      record {
        follows = λ stands.
            let f = p.follows stands in
            followed-on old mid new ws more f (q.follows (tables-kept old mid ws f stands));
        are = λ base r stands on agrees speaks.
            let (stand, agree) = follows-keeps base r old mid ws (p.follows stands) stands agrees in
            are-both base m r ws more (p.are base r stands on agrees speaks)
            (q.are base (behind_all r ws) stand (own on) agree (all-speak ws r speaks));
      }

  pub sees-none : (m : ℕ) (old new : Sessions R) → new ≡ old → Sees m [] old new
  sees-none m old new same =
      record {
        follows = λ stands. by-none old new [] same (λ r. refl);
        are = λ base r stands on agrees speaks. tt;
      }

  -- a session that goes on speaks on its channel
  live-speaks : (o : Option (Place (Box AskedSession) (Box (AskingSession R)))) (base m : ℕ) (r : Reader)
      (s : Sessions R) (it : Box (AskingSession R)) → place_at s m ≡ o → live_of o ≡ Some it → InTables s → OnOwn s
      → Agrees base r s → Speaks r → from base (r.speaks (((it.value).session).fields.channel).0) ≡ Some m
  live-speaks (Some (Live channel session)) base m r s it e is stands on agrees speaks =
      let same : ((it.value).session).fields.channel ≡ channel =
      ap (λ (x : Box (AskingSession R)). ((x.value).session).fields.channel) (sym (same_Some session it is))
      ∙ on m channel session e in
      ap (λ (c : OutgoingChannel). from base (r.speaks c.0)) same
      ∙ speaks-for base r s m channel.0 (stands.has m channel.0 (ap role_of e)) agrees speaks
  live-speaks None base m r s it e is stands on agrees speaks = absurd (none-some it is)
  live-speaks (Some (Asked channel a)) base m r s it e is stands on agrees speaks = absurd (none-some it is)
  live-speaks (Some (Ending channel own_end)) base m r s it e is stands on agrees speaks = absurd (none-some it is)
  live-speaks (Some (Over peer_end complete)) base m r s it e is stands on agrees speaks = absurd (none-some it is)

  module _ (m : ℕ) (frames : List SessionFrame) (before : Box (AskingSession R))
      (are : AreOf (((before.value).session).fields.channel).0 frames) where
    spoken : (s : Sessions R) → live_at s m ≡ Some before → (base : ℕ) (r : Reader) → InTables s → OnOwn s
        → Agrees base r s → Speaks r → AreFor base m r (goes frames)
    spoken s live base r stands on agrees speaks =
        on-for base m r (((before.value).session).fields.channel).0 frames
        (live-speaks (place_at s m) base m r s before refl live stands on agrees speaks) are

    -- such frames go, as it stays or goes on
    pub sees-free : (s : Sessions R) → live_at s m ≡ Some before → Sees m (goes frames) s s
    sees-free s live =
        record {
          follows = λ stands. by-none s s (goes frames) refl (none-read frames (plain-of _ frames are));
          are = spoken s live;
        }

    pub sees-inside : (after : Box (AskingSession R)) (old new : Sessions R)
        → Step old (ChangesLive m before after) new → Sees m (goes frames) old new
    sees-inside after old new s =
        record {
          follows = λ stands. inside-follows old new m before after frames s (plain-of _ frames are);
          are = spoken old s.0;
        }

  -- a frame comes for the session that its channel reaches
  module _ (m channel : ℕ) (it : FrameBody) (within : IsWithin it) (is : IsForReached it) where
    come-for : (s : Sessions R) → reached s channel ≡ Some m → (base : ℕ) (r : Reader) → InTables s → OnOwn s
        → Agrees base r s → Speaks r → AreFor base m r (comes channel it ∷ [])
    come-for s reaches base r stands on agrees speaks = (heard-for base r s channel it is agrees ∙ reaches, tt)

    pub sees-comes : (s : Sessions R) → reached s channel ≡ Some m → Sees m (comes channel it ∷ []) s s
    sees-comes s reaches =
        record {
          follows = λ stands. by-none s s (comes channel it ∷ []) refl (heard-read channel it [] within tt);
          are = come-for s reaches;
        }

    pub sees-asked : (before after : Box AskedSession) (old new : Sessions R) → reached old channel ≡ Some m
        → Step old (ChangesAsked m before after) new → Sees m (comes channel it ∷ []) old new
    sees-asked before after old new reaches s =
        record {
          follows = λ stands.
              by-one old new (comes channel it ∷ []) (ChangesAsked m before after) s tt
              (heard-read channel it [] within tt);
          are = come-for old reaches;
        }

    pub sees-hears : {X T D : Type 0} (gives : Relations R X T D) (said_so : LinkPerformative)
        (told : Result (PerformativeTaken X T D) SessionError) (frames : List SessionFrame)
        (before after : Box (AskingSession R)) (old new : Sessions R) → reached old channel ≡ Some m
        → LiveHears gives old [] m before said_so told after new frames
        → Sees m (comes channel it ∷ goes frames) old new
    sees-hears gives said_so told frames before after old new reaches h =
        sees-on m (comes channel it ∷ []) (goes frames) old old new (λ on. on) (sees-comes old reaches)
        (sees-inside m frames before (hears-of gives said_so told before.value after.value frames h.heard) after old new
        h.stepped)

  -- a session ends here
  pub sees-ends : (number : ℕ) (error : Option Error) (it : Box (AskingSession R)) (out out_new : List SessionFrame)
      (old new : Conversation R) (e : EndsHere old out number error it new out_new)
      → Sees number (goes (end_frame e.channel error ∷ [])) old.sessions new.sessions
  sees-ends number error it out out_new old new e =
      let frames : List SessionFrame = end_frame e.channel error ∷ [] in
      let alone : EndsHere old [] number error it new frames =
      record { channel = e.channel; stepped = e.stepped; rest = e.rest; queued = refl } in
      record {
        follows = λ stands. ends-follow old new number error it frames alone;
        are = λ base r stands on agrees speaks.
            ends-for base r old new number error it frames alone stands agrees speaks;
      }

  -- the caller is told of the peer's End
  pub sees-told : (number : ℕ) (result : Result ⊤ TryEndError) (old new : Sessions R) → EndTold old number result new
      → Sees number [] old new
  sees-told number (Ok done) old new t =
      record {
        follows = λ stands. by-one old new [] (TellsEnd number) t tt (λ r. refl);
        are = λ base r stands on agrees speaks. tt;
      }
  sees-told number (Err e) old new t = sees-none number old new t.1

  -- the peer's End, and the answer to it
  replied-for : (stood : Place (Box AskedSession) (Box (AskingSession R))) (ended : Option (Box (AskingSession R)))
      (frames : List SessionFrame) (base number : ℕ) (r q : Reader) (s : Sessions R)
      → ((channel : ℕ) → q.speaks channel ≡ r.speaks channel) → place_at s number ≡ Some stood
      → EndReply stood ended [] frames → InTables s → Agrees base r s → Speaks r → AreFor base number q (goes frames)
  replied-for (Live own session) ended frames base number r q s same e reply stands agrees speaks =
      subst (λ (fs : List SessionFrame). AreFor base number q (goes fs)) (sym reply.1) (
        ap (from base) (same own.0)
            ∙ speaks-for base r s number own.0 (stands.has number own.0 (ap role_of e)) agrees speaks,
        tt,
      )
  replied-for (Asked own a) ended frames base number r q s same e reply stands agrees speaks =
      none-for base number q frames reply.1
  replied-for (Ending own own_end) ended frames base number r q s same e reply stands agrees speaks =
      none-for base number q frames reply.1
  replied-for (Over peer_end complete) ended frames base number r q s same e reply stands agrees speaks =
      none-for base number q frames reply.1

  pub sees-ended : (channel : IncomingChannel) (end : End) (h : EndHeard R) (frames : List SessionFrame)
      (old new : Conversation R) → EndsThere old [] channel end h new frames
      → Sees h.number (comes channel.0 (body.End end) ∷ goes frames) old.sessions new.sessions
  sees-ended channel end h frames old new e =
      record {
        follows = λ stands. end-follows old new channel end h frames e;
        are = λ base r stands on agrees speaks. (
          (end-for base r old new channel end h frames e agrees).0,
          replied-for e.stood h.ended frames base h.number r (peer_ends (reaches r channel.0) r) old.sessions
              (ends-same (reaches r channel.0) r) (e.stepped).1 e.reply stands agrees speaks,
        );
      }

module _ {R X T D : Type 0} (gives : Relations R X T D) where
  -- a session begins here, or accepts the one that the peer asks for
  pub sees-begins : (number : ℕ) (frames : List SessionFrame) (old new : Conversation R)
      → BeginsHere gives old [] number new frames → Sees number (goes frames) old.sessions new.sessions
  sees-begins number frames old new b =
      record {
        follows = λ stands. begins-follow gives old new number frames b;
        are = λ base r stands on agrees speaks. begins-for base r gives old new number frames b agrees;
      }

  pub sees-accepts : (channel : IncomingChannel) (number : ℕ) (frames : List SessionFrame) (old new : Conversation R)
      → AcceptsHere gives old [] channel number new frames → Sees number (goes frames) old.sessions new.sessions
  sees-accepts channel number frames old new a =
      record {
        follows = λ stands. accepts-follow gives old new channel number frames a stands;
        are = λ base r stands on agrees speaks. accepts-for base r gives old new channel number frames a agrees;
      }

  -- the peer asks for one
  pub sees-asks : (channel : IncomingChannel) (begin : Begin) (number : ℕ) (old new : Conversation R)
      → AsksFor gives old channel begin number new
      → Sees number (comes channel.0 (body.Begin begin) ∷ []) old.sessions new.sessions
  sees-asks channel begin number old new a =
      record {
        follows = λ stands. begin-follows gives old new channel begin (begin_heard.Asked number) [] (a, refl);
        are = λ base r stands on agrees speaks. asked-for base r gives old new channel begin number [] (a, refl) agrees;
      }

  -- its Begin leads a channel to one
  module _ (channel : IncomingChannel) (begin : Begin) (number : ℕ) (old : Conversation R) (mid : Sessions R)
      (l : Leads gives old channel begin number mid) where
    pub sees-led : Sees number (comes channel.0 (body.Begin begin) ∷ []) old.sessions mid
    sees-led =
        record {
          follows = λ stands.
              by-one old.sessions mid (comes channel.0 (body.Begin begin) ∷ []) (TakesBegin number channel begin)
              l.stepped tt (λ r. refl);
          are = λ base r stands on agrees speaks.
              (named-for base r gives old channel begin number mid l agrees, tt);
        }

    led-own : OnOwn old.sessions → OnOwn mid
    led-own on n own it e =
        on n own it (sym ((at n old.sessions (TakesBegin number channel begin) mid l.stepped).other refl) ∙ e)

  pub sees-begun : (channel : IncomingChannel) (begin : Begin) (number : ℕ) (frames : List SessionFrame)
      (old new : Conversation R) → BeginsThere gives old [] channel begin number new frames
      → Sees number (comes channel.0 (body.Begin begin) ∷ goes frames) old.sessions new.sessions
  sees-begun channel begin number frames old new b =
      let t = b.takes in
      let took = (t.taken).0 in
      let step : session_steps.Act R X T D = session_steps.TakesBegin channel begin took.base took.left took.frames in
      let are : AreOf ((((t.before).value).session).fields.channel).0 frames =
      same-of _ frames took.frames took.added
      (step-of gives step ((t.before).value).session ((t.after).value).session took.stepped) in
      sees-on number (comes channel.0 (body.Begin begin) ∷ []) (goes frames) old.sessions b.mid new.sessions
      (led-own channel begin number old b.mid b.led) (sees-led channel begin number old b.mid b.led)
      (sees-inside number frames t.before are t.after b.mid new.sessions t.stepped)

  -- or to one that ends by it
  pub sees-barred : (channel : IncomingChannel) (begin : Begin) (number : ℕ) (error : Option Error)
      (it : Box (AskingSession R)) (frames : List SessionFrame) (old mid new : Conversation R)
      → BeginBarred gives old channel begin number mid → EndsHere mid [] number error it new frames
      → Sees number (comes channel.0 (body.Begin begin) ∷ goes frames) old.sessions new.sessions
  sees-barred channel begin number error it frames old mid new b e =
      subst (λ (fs : List SessionFrame). Sees number (comes channel.0 (body.Begin begin) ∷ goes fs) old.sessions
      new.sessions)
      (sym e.queued)
      (sees-on number (comes channel.0 (body.Begin begin) ∷ []) (goes (end_frame e.channel error ∷ [])) old.sessions
      mid.sessions new.sessions (led-own channel begin number old mid.sessions b.led)
      (sees-led channel begin number old mid.sessions b.led) (sees-ends number error it [] frames mid new e))
