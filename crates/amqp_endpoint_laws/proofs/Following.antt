-- What a conversation does is read off the frames that pass by that.
use Rattle.std.proofs.Common.{◌≡◌, inl, inr, ℕ, Bool, true, false, List, [], ◌∷◌, ◌++◌, Option, Some, None}
use Rattle.std.proofs.Common.{Result, Ok, Err, ap, refl, sym, subst, ◌∙◌}
use Rattle.std.specs.FinMap as map
use Rattle.std.specs.Global.{Box}
use Rattle.std.proofs.lemmas.Option.{none-some, same_Some}
use Rattle.amqp_session_types.specs.declared.channels.IncomingChannel.{IncomingChannel}
use Rattle.amqp_session_types.specs.declared.error.Error.{Error}
use Rattle.amqp_session_types.specs.declared.refusals.SessionError.{SessionError}
use Rattle.amqp_session_types.specs.declared.refusals.SessionError.TheVariants.{IllegalState}
use Rattle.amqp_session_performatives.specs.declared.begin.Begin.{Begin}
use Rattle.amqp_session_performatives.specs.declared.end.End.{End}
use Rattle.amqp_session_performatives.specs.declared.session_frame.SessionFrame.{SessionFrame}
use Rattle.amqp_session_performatives.specs.declared.session_frame.SessionFrameBody.{SessionFrameBody}
use Rattle.amqp_session_performatives.specs.declared.session_frame.SessionFrameBody.TheVariants as session
use Rattle.amqp_session_frames.specs.declared.frame.FrameBody.{FrameBody}
use Rattle.amqp_session_frames.specs.declared.frame.FrameBody.TheVariants as body
use Rattle.amqp_session_core.specs.Relay.{Relations}
use Rattle.amqp_session_core.specs.Steps as session_steps
use Rattle.amqp_endpoint_links.specs.declared.session.AskedSession.{AskedSession}
use Rattle.amqp_endpoint_links.specs.Hearing.{Hears}
use Rattle.amqp_endpoint_links.specs.declared.asking.AskingSession.{AskingSession}
use Rattle.amqp_endpoint_links.specs.declared.hearing.LinkPerformative.{LinkPerformative}
use Rattle.amqp_endpoint_links.specs.declared.hearing.PerformativeTaken.{PerformativeTaken}
use Rattle.amqp_endpoint_links.proofs.Standing.{accepted-stands, begun-stands}
use Rattle.amqp_endpoint_tables.specs.declared.place.Place.{Place}
use Rattle.amqp_endpoint_tables.specs.declared.place.Place.TheVariants.{Asked, Live, Ending, Over}
use Rattle.amqp_endpoint_tables.specs.State.{State, asked_at, asked_in, live_at, place_at, reached, when_asked}
use Rattle.amqp_endpoint_tables.specs.Steps.{Act, Step, History, ChangesConnection, Begins, Asks, Accepts}
use Rattle.amqp_endpoint_tables.specs.Steps.{TakesBegin}
use Rattle.amqp_endpoint_tables.specs.Steps.{TakesEnd, Ends, Finishes, TellsEnd, ChangesAsked, ChangesLive}
use Rattle.amqp_endpoint_conversation.specs.declared.beginning.BeginHeard.{BeginHeard}
use Rattle.amqp_endpoint_conversation.specs.declared.beginning.BeginHeard.TheVariants as begin_heard
use Rattle.amqp_endpoint_conversation.specs.declared.beginning.BeginRefusal.TheVariants as begin_refused
use Rattle.amqp_endpoint_conversation.specs.declared.conversation.Conversation.{Conversation}
use Rattle.amqp_endpoint_conversation.specs.declared.ending.EndHeard.{EndHeard}
use Rattle.amqp_endpoint_conversation.specs.declared.hearing.Heard.{Heard}
use Rattle.amqp_endpoint_conversation.specs.declared.hearing.Heard.TheVariants as heard
use Rattle.amqp_endpoint_conversation.specs.declared.hearing.HearRefusal.{HearRefusal}
use Rattle.amqp_endpoint_conversation.specs.declared.hearing.HearRefusal.TheVariants as refused
use Rattle.amqp_endpoint_conversation.specs.Beginning.{AcceptsHere, BeginAnswered, BeginsHere}
use Rattle.amqp_endpoint_conversation.specs.Ending.{EndAnswered, EndReply, EndsHere, end_frame}
use Rattle.amqp_endpoint_conversation.specs.Hearing.{Answered, AnsweredAt, AnsweredIn, AskedAnswered, FlowTold}
use Rattle.amqp_endpoint_conversation.specs.Hearing.{LiveAnswered, TellsAt, TellsIf}
use Rattle.amqp_endpoint_laws.specs.Beside.{Agrees, OnConnection, InTables, behind_step, behind_steps, role_of}
use Rattle.amqp_endpoint_laws.specs.Following.{Follows, IsNoBegin, IsWithin, NoBegins, comes, goes}
use Rattle.amqp_endpoint_laws.specs.Reading.{Reader, Wired, behind, behind_all, behind_coming, behind_going}
use Rattle.amqp_endpoint_laws.specs.Reading.{own_begins, peer_begins}
use Rattle.amqp_endpoint_laws.proofs.Beside.{channels-tell}
use Rattle.amqp_endpoint_laws.proofs.Handing.{hears-of, plain-of, step-of}

-- frames without a Begin among them leave the reader where he stands
pub going-same : (channel : ℕ) (it : SessionFrameBody) → IsNoBegin it → (r : Reader) → behind_going channel it r ≡ r
going-same channel (session.Begin begin) plain r = absurd plain
going-same channel (session.Attach attach) plain r = refl
going-same channel (session.Flow flow) plain r = refl
going-same channel (session.Transfer transfer payload) plain r = refl
going-same channel (session.Disposition disposition) plain r = refl
going-same channel (session.Detach detach) plain r = refl
going-same channel (session.End end) plain r = refl

pub none-read : (frames : List SessionFrame) → NoBegins frames → (r : Reader) → behind_all r (goes frames) ≡ r
none-read [] plain r = refl
none-read (frame ∷ frames) plain r =
    ap (λ (s : Reader). behind_all s (goes frames)) (going-same frame.channel frame.body plain.0 r)
    ∙ none-read frames plain.1 r

within-read : (channel : ℕ) (it : FrameBody) → IsWithin it → (r : Reader) → behind_coming channel it r ≡ r
within-read channel (body.Begin begin) is r = absurd is
within-read channel (body.End end) is r = absurd is
within-read channel body.Empty is r = refl
within-read channel (body.Open opening) is r = refl
within-read channel (body.Close closing) is r = refl
within-read channel (body.Attach attach) is r = refl
within-read channel (body.Flow flow) is r = refl
within-read channel (body.Transfer transfer payload) is r = refl
within-read channel (body.Disposition disposition) is r = refl
within-read channel (body.Detach detach) is r = refl

none-both : (first later : List SessionFrame) → NoBegins first → NoBegins later → NoBegins (first ++ later)
none-both [] later plain more = more
none-both (frame ∷ first) later plain more = (plain.0, none-both first later plain.1 more)

same-none : (frames others : List SessionFrame) → frames ≡ others → NoBegins others → NoBegins frames
same-none frames others is plain = subst NoBegins (sym is) plain

-- a frame comes that is neither Begin nor End, and no Begin goes
pub heard-read : (channel : ℕ) (it : FrameBody) (frames : List SessionFrame) → IsWithin it → NoBegins frames
    → (r : Reader) → behind_all r (comes channel it ∷ goes frames) ≡ r
heard-read channel it frames is plain r =
    ap (λ (s : Reader). behind_all s (goes frames)) (within-read channel it is r) ∙ none-read frames plain r

-- one list behind the other
read-on : (frames more : List Wired) (r : Reader)
    → behind_all r (frames ++ more) ≡ behind_all (behind_all r frames) more
read-on [] more r = refl
read-on (it ∷ frames) more r = read-on frames more (behind r it)

module _ {A S : Type 0} where
  steps-on : (steps more : List (Act A S)) (r : Reader)
      → behind_steps r (steps ++ more) ≡ behind_steps (behind_steps r steps) more
  steps-on [] more r = refl
  steps-on (step ∷ steps) more r = steps-on steps more (behind_step r step)

  joined : (old mid new : State A S) (steps more : List (Act A S)) → History old steps mid → History mid more new
      → History old (steps ++ more) new
  joined old mid new [] more same h = subst (λ (s : State A S). History s more new) same h
  joined old mid new (step ∷ steps) more (next, one, rest) h = (next, one, joined next mid new steps more rest h)

  both-go : (steps more : List (Act A S)) → OnConnection steps → OnConnection more → OnConnection (steps ++ more)
  both-go [] more on later = later
  both-go (ChangesConnection before after ∷ steps) more (live, routes, on) later =
      (live, routes, both-go steps more on later)
  both-go (Begins number channel session ∷ steps) more on later = both-go steps more on later
  both-go (Asks number channel asked ∷ steps) more on later = both-go steps more on later
  both-go (Accepts number incoming asked outgoing session ∷ steps) more on later = both-go steps more on later
  both-go (TakesBegin number channel begin ∷ steps) more on later = both-go steps more on later
  both-go (TakesEnd number channel end stood ∷ steps) more on later = both-go steps more on later
  both-go (Ends number channel session own_end ∷ steps) more on later = both-go steps more on later
  both-go (Finishes number stood ∷ steps) more on later = absurd on
  both-go (TellsEnd number ∷ steps) more on later = both-go steps more on later
  both-go (ChangesAsked number before after ∷ steps) more on later = both-go steps more on later
  both-go (ChangesLive number before after ∷ steps) more on later = both-go steps more on later

  pub followed-on : (old mid new : State A S) (frames more : List Wired) → Follows frames old mid
      → Follows more mid new → Follows (frames ++ more) old new
  followed-on old mid new frames more f g =
      record {
        steps = f.steps ++ g.steps;
        history = joined old mid new f.steps g.steps f.history g.history;
        goes_on = both-go f.steps g.steps f.goes_on g.goes_on;
        reads = λ r.
            read-on frames more r ∙ ap (λ (s : Reader). behind_all s more) (f.reads r)
            ∙ g.reads (behind_steps r f.steps) ∙ sym (steps-on f.steps g.steps r);
      }

  -- by one step, or by none
  pub by-one : (old new : State A S) (frames : List Wired) (step : Act A S) → Step old step new
      → OnConnection (step ∷ []) → ((r : Reader) → behind_all r frames ≡ behind_step r step) → Follows frames old new
  by-one old new frames step s on reads =
      record { steps = step ∷ []; history = (new, s, refl); goes_on = on; reads = reads }

  pub by-none : (old new : State A S) (frames : List Wired) → new ≡ old → ((r : Reader) → behind_all r frames ≡ r)
      → Follows frames old new
  by-none old new frames same reads = record { steps = []; history = same; goes_on = tt; reads = reads }

  -- a session goes on by itself
  pub inside-follows : (old new : State A S) (number : ℕ) (before after : S) (frames : List SessionFrame)
      → Step old (ChangesLive number before after) new → NoBegins frames → Follows (goes frames) old new
  inside-follows old new number before after frames s plain =
      by-one old new (goes frames) (ChangesLive number before after) s tt (none-read frames plain)

  -- what the reader has is kept
  pub follows-keeps : (base : ℕ) (r : Reader) (old new : State A S) (frames : List Wired) → Follows frames old new
      → InTables old → Agrees base r old → InTables new × Agrees base (behind_all r frames) new
  follows-keeps base r old new frames f stands agrees =
      let (stand, agree) = channels-tell base r old new f.steps f.history f.goes_on stands agrees in
      (stand, subst (λ (s : Reader). Agrees base s new) (sym (f.reads r)) agree)

  when-it : (k n : ℕ) (o : Option (Place A S)) → when_asked k o ≡ Some n → k ≡ n
  when-it k n None e = absurd (none-some n e)
  when-it k n (Some (Asked channel a)) e = same_Some k n e
  when-it k n (Some (Live channel s)) e = absurd (none-some n e)
  when-it k n (Some (Ending channel own_end)) e = absurd (none-some n e)
  when-it k n (Some (Over peer_end complete)) e = absurd (none-some n e)

  asked-entry : (s : State A S) (n : ℕ) (o : Option ℕ) → asked_in s o ≡ Some n → o ≡ Some n
  asked-entry s n None e = absurd (none-some n e)
  asked-entry s n (Some k) e = ap Some (when-it k n (place_at s k) e)

module _ {R X T D : Type 0} (gives : Relations R X T D) where
  -- a session begins here
  pub begins-follow : (old new : Conversation R) (number : ℕ) (frames : List SessionFrame)
      → BeginsHere gives old [] number new frames → Follows (goes frames) old.sessions new.sessions
  begins-follow old new number frames b =
      let (stands, says) =
      begun-stands gives b.channel old.first_transfer_number old.incoming_window b.frame b.session.value b.begun in
      by-one old.sessions new.sessions (goes frames) (Begins number b.channel b.session) b.stepped tt
      (λ r.
      ap (λ (fs : List SessionFrame). behind_all r (goes fs)) b.queued
      ∙ ap (λ (f : SessionFrame). behind_all r (goes (f ∷ []))) says)

  -- or one that the peer asked for, on the channel on which it did
  pub accepts-follow : (old new : Conversation R) (channel : IncomingChannel) (number : ℕ) (frames : List SessionFrame)
      → AcceptsHere gives old [] channel number new frames → InTables old.sessions
      → Follows (goes frames) old.sessions new.sessions
  accepts-follow old new channel number frames a stands =
      let (session, says) =
      accepted-stands gives a.wanted.value a.outgoing channel old.first_transfer_number old.incoming_window a.frame
      a.session.value a.accepted in
      let entry : map.get old.sessions.asked channel.0 ≡ Some number =
      asked-entry old.sessions number (map.get old.sessions.asked channel.0) a.asked in
      let same : a.incoming.0 ≡ channel.0 =
      stands.asked number channel.0 a.incoming.0 entry (ap role_of (a.stepped).0) in
      record {
        steps = Accepts number a.incoming a.wanted a.outgoing a.session ∷ ChangesLive number a.session _ ∷ [];
        history = (a.mid, a.stepped, (new.sessions, a.taken_over, refl));
        goes_on = tt;
        reads = λ r.
            ap (λ (fs : List SessionFrame). behind_all r (goes fs)) a.queued
            ∙ ap (λ (f : SessionFrame). behind_all r (goes (f ∷ []))) says
            ∙ ap (λ (c : ℕ). own_begins (Some c) a.outgoing.0 r) (sym same);
      }

  -- the peer's Begin
  pub begin-follows : (old new : Conversation R) (channel : IncomingChannel) (begin : Begin) (h : BeginHeard)
      (frames : List SessionFrame) → BeginAnswered gives old [] channel begin (Ok h) new frames
      → Follows (comes channel.0 (body.Begin begin) ∷ goes frames) old.sessions new.sessions
  begin-follows old new channel begin (begin_heard.Asked number) frames (a, none) =
      by-one old.sessions new.sessions (comes channel.0 (body.Begin begin) ∷ goes frames)
      (Asks number channel a.asked) a.stepped tt
      (λ r.
      ap (λ (fs : List SessionFrame). behind_all r (comes channel.0 (body.Begin begin) ∷ goes fs)) none
      ∙ ap (λ (o : Option ℕ). peer_begins o channel.0 r) a.names_none)
  begin-follows old new channel begin (begin_heard.Begun number) frames b =
      let t = b.takes in
      let took = (t.taken).0 in
      let step : session_steps.Act R X T D = session_steps.TakesBegin channel begin took.base took.left took.frames in
      let plain : NoBegins frames =
      same-none frames took.frames took.added
      (plain-of _ took.frames (step-of gives step t.before.value.session t.after.value.session took.stepped)) in
      record {
        steps = TakesBegin number channel begin ∷ ChangesLive number t.before t.after ∷ [];
        history = (b.mid, (b.led).stepped, (new.sessions, t.stepped, refl));
        goes_on = tt;
        reads = λ r. none-read frames plain (peer_begins begin.remote_channel channel.0 r);
      }
  begin-follows old new channel begin begin_heard.Dropped frames (d, none) =
      by-one old.sessions new.sessions (comes channel.0 (body.Begin begin) ∷ goes frames)
      (TakesBegin d.number channel begin) (d.led).stepped tt
      (λ r. ap (λ (fs : List SessionFrame). behind_all r (comes channel.0 (body.Begin begin) ∷ goes fs)) none)

  pub begin-barred : (old new : Conversation R) (channel : IncomingChannel) (begin : Begin) (number : ℕ)
      (fault : SessionError) (frames : List SessionFrame)
      → BeginAnswered gives old [] channel begin (Err (begin_refused.Session number fault)) new frames
      → Follows (comes channel.0 (body.Begin begin) ∷ goes frames) old.sessions new.sessions
  begin-barred old new channel begin number IllegalState frames (b, none) =
      by-one old.sessions new.sessions (comes channel.0 (body.Begin begin) ∷ goes frames)
      (TakesBegin number channel begin) (b.led).stepped tt
      (λ r. ap (λ (fs : List SessionFrame). behind_all r (comes channel.0 (body.Begin begin) ∷ goes fs)) none)
  begin-barred old new channel begin number fault frames b = absurd b

module _ {R : Type 0} where
  -- a session ends here
  pub ends-follow : (old new : Conversation R) (number : ℕ) (error : Option Error) (session : Box (AskingSession R))
      (frames : List SessionFrame) → EndsHere old [] number error session new frames
      → Follows (goes frames) old.sessions new.sessions
  ends-follow old new number error session frames e =
      by-one old.sessions new.sessions (goes frames) (Ends number e.channel session true) e.stepped tt
      (λ r. ap (λ (fs : List SessionFrame). behind_all r (goes fs)) e.queued)

  -- the peer's End
  reply-plain : (stood : Place (Box AskedSession) (Box (AskingSession R))) (ended : Option (Box (AskingSession R)))
      (frames : List SessionFrame) → EndReply stood ended [] frames → NoBegins frames
  reply-plain (Live channel s) ended frames e = same-none frames (end_frame channel None ∷ []) e.1 (tt, tt)
  reply-plain (Asked channel a) ended frames e = same-none frames [] e.1 tt
  reply-plain (Ending channel own_end) ended frames e = same-none frames [] e.1 tt
  reply-plain (Over peer_end complete) ended frames e = same-none frames [] e.1 tt

  pub end-follows : (old new : Conversation R) (channel : IncomingChannel) (end : End) (h : EndHeard R)
      (frames : List SessionFrame) → EndAnswered old [] channel end (Ok h) new frames
      → Follows (comes channel.0 (body.End end) ∷ goes frames) old.sessions new.sessions
  end-follows old new channel end h frames e =
      by-one old.sessions new.sessions (comes channel.0 (body.End end) ∷ goes frames)
      (TakesEnd h.number channel end e.stood) e.stepped tt
      (λ r. none-read frames (reply-plain e.stood h.ended frames e.reply) (behind_coming channel.0 (body.End end) r))

module _ {R X T D : Type 0} (gives : Relations R X T D) (channel : ℕ) (it : FrameBody) (is : IsWithin it) where
  abbrev Hearing : Conversation R → List SessionFrame → Conversation R → Type 0
  Hearing old frames new = Follows (comes channel it ∷ goes frames) old.sessions new.sessions

  stays-so : (old new : Conversation R) (frames : List SessionFrame) → new ≡ old → frames ≡ [] → Hearing old frames new
  stays-so old new frames same none =
      by-none old.sessions new.sessions (comes channel it ∷ goes frames) (ap (λ (t : Conversation R). t.sessions) same)
      (heard-read channel it frames is (same-none frames [] none tt))

  live-hears : (old new : Conversation R) (number : ℕ) (before after : Box (AskingSession R))
      (said_so : LinkPerformative) (told : Result (PerformativeTaken X T D) SessionError) (frames : List SessionFrame)
      → Hears gives before.value [] said_so told after.value frames
      → Step old.sessions (ChangesLive number before after) new.sessions → Hearing old frames new
  live-hears old new number before after said_so told frames h s =
      by-one old.sessions new.sessions (comes channel it ∷ goes frames) (ChangesLive number before after) s tt
      (heard-read channel it frames is
      (plain-of _ frames (hears-of gives said_so told before.value after.value frames h)))

  asked-answers : (old new : Conversation R) (number : ℕ) (before : Box AskedSession) (said_so : LinkPerformative)
      (result : Result (Heard X T D) (HearRefusal R)) (frames : List SessionFrame) → frames ≡ []
      → AskedAnswered old number before said_so result new → Hearing old frames new
  asked-answers old new number before said_so (Ok (heard.Asked n)) frames none a =
      by-one old.sessions new.sessions (comes channel it ∷ goes frames) (ChangesAsked number before (a.1).after)
      (a.1).stepped tt (heard-read channel it frames is (same-none frames [] none tt))
  asked-answers old new number before said_so (Ok other) frames none a = absurd a
  asked-answers old new number before said_so (Err refused.Memory) frames none a = stays-so old new frames a.1 none
  asked-answers old new number before said_so (Err (refused.Asked n e)) frames none a =
      stays-so old new frames (a.2).1 none
  asked-answers old new number before said_so (Err other) frames none a = absurd a

  live-answers : (old new : Conversation R) (number : ℕ) (before : Box (AskingSession R)) (said_so : LinkPerformative)
      (result : Result (Heard X T D) (HearRefusal R)) (frames : List SessionFrame)
      → LiveAnswered gives old [] number before said_so result new frames → Hearing old frames new
  live-answers old new number before said_so (Ok (heard.Live n taken_so)) frames a =
      live-hears old new number before (a.1).after said_so (Ok taken_so) frames ((a.1).hears).heard
      ((a.1).hears).stepped
  live-answers old new number before said_so (Ok other) frames a = absurd a
  live-answers old new number before said_so (Err refused.Memory) frames (inl a) = stays-so old new frames a.1 a.2
  live-answers old new number before said_so (Err refused.Memory) frames (inr a) =
      live-hears old new number before a.after said_so (Err a.fault) frames ((a.refuses).hears).heard
      ((a.refuses).hears).stepped
  live-answers old new number before said_so (Err (refused.Session n fault session)) frames a =
      let f = a.1 in
      let h = (f.refuses).hears in
      let e = f.ends in
      let plain : NoBegins f.out_mid =
      plain-of _ f.out_mid (hears-of gives said_so (Err fault) before.value session.value f.out_mid h.heard) in
      record {
        steps = ChangesLive number before session ∷ Ends number e.channel session true ∷ [];
        history = (f.mid.sessions, h.stepped, (new.sessions, e.stepped, refl));
        goes_on = tt;
        reads =
            heard-read channel it frames is
            (same-none frames (f.out_mid ++ end_frame e.channel _ ∷ []) e.queued
            (none-both f.out_mid (end_frame e.channel _ ∷ []) plain (tt, tt)));
      }
  live-answers old new number before said_so (Err other) frames a = absurd a

  answers-at : (asked : Option (Box AskedSession)) (live : Option (Box (AskingSession R))) (old new : Conversation R)
      (number : ℕ) (said_so : LinkPerformative) (result : Result (Heard X T D) (HearRefusal R))
      (frames : List SessionFrame) → AnsweredAt gives asked live old [] number said_so result new frames
      → Hearing old frames new
  answers-at (Some asked) live old new number said_so result frames a =
      asked-answers old new number asked said_so result frames a.1 a.0
  answers-at None (Some session) old new number said_so result frames a =
      live-answers old new number session said_so result frames a
  answers-at None None old new number said_so result frames a = stays-so old new frames a.1 a.2

  answers-in : (o : Option ℕ) (old new : Conversation R) (said_so : LinkPerformative)
      (result : Result (Heard X T D) (HearRefusal R)) (frames : List SessionFrame)
      → AnsweredIn gives o old [] said_so result new frames → Hearing old frames new
  answers-in None old new said_so result frames a = stays-so old new frames a.1 a.2
  answers-in (Some number) old new said_so result frames a =
      answers-at (asked_at old.sessions number) (live_at old.sessions number) old new number said_so result frames a

-- what else the peer says on a channel
pub answer-follows : {R X T D : Type 0} (gives : Relations R X T D) (old new : Conversation R)
    (channel : IncomingChannel) (it : FrameBody) (said_so : LinkPerformative)
    (result : Result (Heard X T D) (HearRefusal R)) (frames : List SessionFrame) → IsWithin it
    → Answered gives old [] channel said_so result new frames
    → Follows (comes channel.0 it ∷ goes frames) old.sessions new.sessions
answer-follows gives old new channel it said_so result frames is a =
    answers-in gives channel.0 it is (reached old.sessions channel.0) old new said_so result frames a

-- the Flow of a session
module _ {R X T D : Type 0} (gives : Relations R X T D) where
  tells-if : (due : Bool) (old new : Conversation R) (number : ℕ) (before : Box (AskingSession R))
      (frames : List SessionFrame) → TellsIf gives due old [] number before new frames
      → Follows (goes frames) old.sessions new.sessions
  tells-if true old new number before frames t =
      let one : IsNoBegin (t.frame).body = subst (λ (f : SessionFrame). IsNoBegin f.body) (sym (t.tells).0) tt in
      inside-follows old.sessions new.sessions number before t.after frames t.stepped
      (same-none frames (t.frame ∷ []) t.queued (one, tt))
  tells-if false old new number before frames t =
      by-none old.sessions new.sessions (goes frames) (ap (λ (c : Conversation R). c.sessions) t.0)
      (none-read frames (same-none frames [] t.1 tt))

  tells-at : (o : Option (Box (AskingSession R))) (old new : Conversation R) (number : ℕ) (frames : List SessionFrame)
      → TellsAt gives o old [] number new frames → Follows (goes frames) old.sessions new.sessions
  tells-at None old new number frames t =
      by-none old.sessions new.sessions (goes frames) (ap (λ (c : Conversation R). c.sessions) t.0)
      (none-read frames (same-none frames [] t.1 tt))
  tells-at (Some before) old new number frames t = tells-if _ old new number before frames t

  pub flow-follows : (old new : Conversation R) (number : ℕ) (frames : List SessionFrame)
      → FlowTold gives old [] number new frames → Follows (goes frames) old.sessions new.sessions
  flow-follows old new number frames t = tells-at (live_at old.sessions number) old new number frames t
