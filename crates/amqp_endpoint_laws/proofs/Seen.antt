-- What linked sessions do by a deed is read off the frames that pass.
use Rattle.std.proofs.Common.{◌≡◌, ◌⊎◌, inl, inr, ℕ, ◌+◌, zero, suc, List, [], ◌∷◌, Option, Some, None, ap, refl}
use Rattle.std.proofs.Common.{subst, ◌∙◌, false}
use Rattle.std.specs.Prelude.{if◌then◌else◌}
use Rattle.amqp_session_types.specs.declared.channels.OutgoingChannel.{OutgoingChannel}
use Rattle.amqp_session_frames.specs.State as channels
use Rattle.amqp_session_frames.specs.declared.frame.FrameBody.{FrameBody}
use Rattle.amqp_session_frames.specs.declared.frame.FrameBody.TheVariants as body
use Rattle.amqp_endpoint_tables.specs.State.{place_at}
use Rattle.amqp_endpoint_tables.specs.Steps.{ChangesConnection, EndSent, Ends}
use Rattle.amqp_endpoint_laws.specs.Deeds.{Closes, Deed, Does, Finishes, HeaderComes, Hears, IsDeed, Moves}
use Rattle.amqp_endpoint_laws.specs.Deeds.{MovesByFrame, OwnCloseGoes, Queues, Refuses, Renews, Takes}
use Rattle.amqp_endpoint.specs.Does.{linked}
use Rattle.amqp_endpoint.specs.declared.linked.LinkedSessions.{LinkedSessions}
use Rattle.amqp_endpoint_linking.specs.Ending.{LeavesFirst}
use Rattle.amqp_endpoint_linking.specs.Linking.{Links, Session, Sessions}
use Rattle.amqp_endpoint_laws.specs.Beside.{Agrees, InTables}
use Rattle.amqp_endpoint_laws.specs.Following.{Follows, comes, goes}
use Rattle.amqp_endpoint_laws.specs.Reading.{Reader, Speaks, Wired, behind_all}
use Rattle.amqp_endpoint_laws.proofs.Following.{by-none, by-one, followed-on}
use Rattle.amqp_endpoint_conversation.specs.Windows.{Came, Passing}
use Rattle.amqp_endpoint_laws.specs.Passed.{called_in, is_it, passes_in, session_taking}
use Rattle.amqp_endpoint_laws.specs.Seen.{AreOnes, OnOwnChannels, passing_in, wired_in}
use Rattle.amqp_endpoint_laws.proofs.PassedCalled.{called}
use Rattle.amqp_endpoint_laws.proofs.PassedHeard.{frame-heard}
use Rattle.amqp_endpoint_laws.proofs.PassedJudged.{goes-pass}
use Rattle.amqp_endpoint_laws.proofs.PassedKept.{deed-judges}
use Rattle.amqp_endpoint_laws.proofs.SeenWalk.{IsOwn, SeenAt, SeenIn, StaysOwn, attach-seen, is-own, own-channels}
use Rattle.amqp_endpoint_laws.proofs.SeenWalk.{seeing}

-- a deed by which the connection goes on
abbrev pub GoesOn : Deed → Type 0
GoesOn (Refuses limit frame error own_close) = ⊥
GoesOn Renews = ⊥
GoesOn Finishes = ⊥
GoesOn deed = Unit {0}

-- it is read off the frames that pass by it
pub record Seen (old : LinkedSessions) (deed : Deed) (new : LinkedSessions) : Type 0 where
  pub follows : Follows (wired_in deed) old.talk.sessions new.talk.sessions
  pub reads :
      (base number : ℕ) (r : Reader) → Agrees base r old.talk.sessions → Speaks r
      → passing_in number r (wired_in deed) ≡ passes_in (base + number) old deed
  pub ones : (base : ℕ) (r : Reader) → Agrees base r old.talk.sessions → Speaks r → AreOnes r (wired_in deed)

-- no frame of a session's passes, and the connection moves on by itself
module _ (old new : LinkedSessions) (ws : List Wired) (none : (r : Reader) → behind_all r ws ≡ r) where
  stays-seen : new ≡ old → Follows ws old.talk.sessions new.talk.sessions
  stays-seen same =
      by-none old.talk.sessions new.talk.sessions ws (ap (λ (s : LinkedSessions). s.talk.sessions) same) none

  moved-seen : (connection : channels.State) → connection.live ≡ old.talk.sessions.connection.live
      → connection.routes ≡ old.talk.sessions.connection.routes → new ≡ linked.moved old connection
      → Follows ws old.talk.sessions new.talk.sessions
  moved-seen connection live routes is =
      by-one old.talk.sessions new.talk.sessions ws
      (ChangesConnection old.talk.sessions.connection connection)
      (refl, ap (λ (s : LinkedSessions). s.talk.sessions) is) (live, routes, tt) none

-- by a frame of its own
frame-moves : (channel : ℕ) (it : FrameBody) (old new : LinkedSessions) → MovesByFrame linked it old new
    → Follows (comes channel it ∷ []) old.talk.sessions new.talk.sessions
frame-moves channel body.Empty old new same = stays-seen old new _ (λ r. refl) same
frame-moves channel (body.Open peer) old new m = moved-seen old new _ (λ r. refl) _ refl refl m.is
frame-moves channel (body.Close close) old new m = moved-seen old new _ (λ r. refl) _ refl refl m.is
frame-moves channel it old new m = absurd m

frame-unread : (channel : ℕ) (it : FrameBody) (old new : LinkedSessions) → MovesByFrame linked it old new
    → (number : ℕ) (r : Reader) → passing_in number r (comes channel it ∷ []) ≡ []
frame-unread channel body.Empty old new m number r = refl
frame-unread channel (body.Open peer) old new m number r = refl
frame-unread channel (body.Close close) old new m number r = refl
frame-unread channel it old new m number r = absurd m

-- by its header, its Open or its Close
sent-moves : (old new : LinkedSessions) (connection : channels.State)
    → HeaderComes old.talk.sessions.connection connection ⊎ OwnCloseGoes old.talk.sessions.connection connection
    → new ≡ linked.moved old connection → Follows [] old.talk.sessions new.talk.sessions
sent-moves old new connection moves is = by moves
  where
    so : {c : channels.State} → connection ≡ c → c.live ≡ old.talk.sessions.connection.live
        → c.routes ≡ old.talk.sessions.connection.routes → Follows [] old.talk.sessions new.talk.sessions
    so same live routes =
        moved-seen old new [] (λ r. refl) connection (ap (λ (c : channels.State). c.live) same ∙ live)
        (ap (λ (c : channels.State). c.routes) same ∙ routes) is

    by : HeaderComes old.talk.sessions.connection connection ⊎ OwnCloseGoes old.talk.sessions.connection connection
        → Follows [] old.talk.sessions new.talk.sessions
    by (inl (inl same)) = so same refl refl
    by (inl (inr same)) = so same refl refl
    by (inr (error, to, same)) = so same refl refl

-- own sides of sessions end, without a frame
left-seen : (old new : Sessions) (number : ℕ) (left : Option (OutgoingChannel × Session))
    → EndSent false old number left new
    → Follows [] old new
left-seen old new number None e = by-none old new [] e.1 (λ r. refl)
left-seen old new number (Some given) e = by-one old new [] (Ends number given.0 given.1 false) e tt (λ r. refl)

leave-seen : (count : ℕ) (old new : Sessions) (links links_new : Links) → LeavesFirst count old links new links_new
    → Follows [] old new
leave-seen zero old new links links_new l = by-none old new [] l.0 (λ r. refl)
leave-seen (suc count) old new links links_new (mid, links_mid, first, one) =
    followed-on old mid new [] [] (leave-seen count old mid links links_mid first)
    (left-seen mid new count one.left one.sent)

pub deed-seen : (old new : LinkedSessions) (deed : Deed) → GoesOn deed → OnOwnChannels old → InTables old.talk.sessions
    → IsDeed linked old deed new → Seen old deed new
deed-seen old new (Queues it) on own stands same =
    record {
      follows = stays-seen old new [] (λ r. refl) same;
      reads = λ base number r agrees speaks. refl;
      ones = λ base r agrees speaks. tt;
    }
deed-seen old new (Hears frame events) on own stands (moves, told) =
    record {
      follows = frame-moves frame.channel frame.body old new moves;
      reads = λ base number r agrees speaks. frame-unread frame.channel frame.body old new moves number r;
      ones = λ base r agrees speaks. (tt, tt);
    }
deed-seen old new (Takes limit frame frames events) on own stands h =
    let at : SeenAt (session_taking old frame.channel frame.body) (comes frame.channel frame.body ∷ goes frames)
    old.talk new.talk =
    frame-heard SeenIn SeenAt seeing frame.body old new limit (record { 0 = frame.channel }) frames events
    (λ flows accepted. tt) h.0 in
    record {
      follows = at.follows stands;
      reads = λ base number r agrees speaks.
          at.reads base number r stands own agrees speaks
          ∙ ap
          (λ (ps : List Passing).
          if is_it (session_taking old frame.channel frame.body) (base + number) then Came frame.body ∷ ps else [])
          (goes-pass frames);
      ones = λ base r agrees speaks. at.ones base r stands own agrees speaks;
    }
deed-seen old new (Refuses limit frame error own_close) on own stands d = absurd on
deed-seen old new (Does limit it answer frames) on own stands c =
    let at : SeenAt (called_in old it answer) (goes frames) old.talk new.talk =
    called SeenIn SeenAt seeing it answer old new limit frames (λ sends accepted. tt) (λ attaches. attach-seen) c.0 in
    record {
      follows = at.follows stands;
      reads = λ base number r agrees speaks.
          at.reads base number r stands own agrees speaks
          ∙ ap (λ (ps : List Passing). if is_it (called_in old it answer) (base + number) then ps else [])
          (goes-pass frames);
      ones = λ base r agrees speaks. at.ones base r stands own agrees speaks;
    }
deed-seen old new (Moves connection) on own stands (moves, is) =
    record {
      follows = sent-moves old new connection moves is;
      reads = λ base number r agrees speaks. refl;
      ones = λ base r agrees speaks. tt;
    }
deed-seen old new Renews on own stands d = absurd on
deed-seen old new Closes on own stands l =
    record {
      follows = leave-seen _ old.talk.sessions new.talk.sessions old.links new.links (l.0).each;
      reads = λ base number r agrees speaks. refl;
      ones = λ base r agrees speaks. tt;
    }
deed-seen old new Finishes on own stands d = absurd on

-- each session stays on the channel on which it hands its frames out
pub channels-kept : (old new : LinkedSessions) (deed : Deed) → OnOwnChannels old → IsDeed linked old deed new
    → OnOwnChannels new
channels-kept old new deed own d number channel s e =
    subst IsOwn e
    (deed-judges StaysOwn own-channels deed old new (λ sends accepted. tt) d number
    (is-own (place_at old.talk.sessions number) (own number)))
