-- What a session that has begun hands out is on its channel, and is no Begin.
use Rattle.std.proofs.Common.{◌≡◌, ℕ, Bool, true, false, List, [], ◌∷◌, ◌++◌, Option, Some, None, Result, Ok}
use Rattle.std.proofs.Common.{Err, ap, refl, sym, subst}
use Rattle.std.specs.Prelude.{if◌then◌else◌, option_to_list, ⊤}
use Rattle.amqp_session_types.specs.declared.channels.OutgoingChannel.{OutgoingChannel}
use Rattle.amqp_session_types.specs.declared.refusals.SessionError.{SessionError}
use Rattle.amqp_session_types.specs.declared.refusals.SessionError.TheVariants.{UnattachedHandle, HandleInUse}
use Rattle.amqp_session_types.specs.declared.refusals.SessionError.TheVariants.{Memory}
use Rattle.amqp_session_types.specs.declared.refusals.SessionError.TheVariants.{RemoteAttachingLinkNameNotFound}
use Rattle.amqp_session_types.specs.declared.refusals.SessionError.TheVariants.{IllegalState, ConnectionStopped}
use Rattle.amqp_session_types.specs.declared.refusals.SessionError.TheVariants.{TransferFrameToSender, RemoteEnded}
use Rattle.amqp_session_types.specs.declared.refusals.SessionError.TheVariants.{RemoteEndedWithError, NumberInUse}
use Rattle.amqp_session_types.specs.declared.refusals.SessionError.TheVariants.{HandleMaxReached}
use Rattle.amqp_session_performatives.specs.declared.flow.Flow.{Flow}
use Rattle.amqp_session_performatives.specs.declared.session_frame.SessionFrame.{SessionFrame}
use Rattle.amqp_session_core.specs.declared.batch.BehindFrame.{BehindFrame}
use Rattle.amqp_session_core.specs.declared.batch.BehindFrame.TheVariants as behind_transfer
use Rattle.amqp_session_core.specs.declared.fields.SessionFields.{SessionFields}
use Rattle.amqp_session_core.specs.Frames.{Left, behind_frame, frames_behind, frames_left, session_flow}
use Rattle.amqp_session_core.specs.History.{frames_in}
use Rattle.amqp_session_core.specs.Relay.{Relations}
use Rattle.amqp_session_core.specs.State.{State, leads}
use Rattle.amqp_session_core.specs.Steps.{Act, Step, Reply, NoReply, OfSession, OfLink, at_once, reply_frames}
use Rattle.amqp_session_core.specs.Steps.{Stays}
use Rattle.amqp_session_core.specs.Steps.{SendsBegin, TakesBegin, SendsEnd, TakesEnd, TakesAttach, TakesFlow}
use Rattle.amqp_session_core.specs.Steps.{SetsWindow}
use Rattle.amqp_session_core.specs.Steps.{TakesTransfer, TakesDisposition, TakesDetach, SendsBehind, SendsTransfers}
use Rattle.amqp_session_core.specs.Steps.{SendsDisposition, TellsFlow, Allocates, Deallocates, Reserves, Changes}
use Rattle.amqp_session_core.specs.Told.{FlowTaken}
use Rattle.amqp_endpoint_links.specs.Asked.{is_asked}
use Rattle.amqp_endpoint_links.specs.Asking.{FlowAt, FlowInSession}
use Rattle.amqp_endpoint_links.specs.Hearing.{Hears}
use Rattle.amqp_endpoint_links.specs.declared.asking.AskingSession.{AskingSession}
use Rattle.amqp_endpoint_links.specs.declared.hearing.LinkPerformative.{LinkPerformative}
use Rattle.amqp_endpoint_links.specs.declared.hearing.LinkPerformative.TheVariants as said
use Rattle.amqp_endpoint_links.specs.declared.hearing.PerformativeTaken.{PerformativeTaken}
use Rattle.amqp_endpoint_links.specs.declared.hearing.PerformativeTaken.TheVariants as taken
use Rattle.amqp_endpoint_laws.specs.Following.{AreOf, IsNoBegin, NoBegins}

pub plain-of : (channel : ℕ) (frames : List SessionFrame) → AreOf channel frames → NoBegins frames
plain-of channel [] are = tt
plain-of channel (frame ∷ frames) (on, plain, are) = (plain, plain-of channel frames are)

both-of : (channel : ℕ) (first later : List SessionFrame) → AreOf channel first → AreOf channel later
    → AreOf channel (first ++ later)
both-of channel [] later are more = more
both-of channel (frame ∷ first) later (on, plain, are) more = (on, plain, both-of channel first later are more)

pub same-of : (channel : ℕ) (frames others : List SessionFrame) → frames ≡ others → AreOf channel others
    → AreOf channel frames
same-of channel frames others is are = subst (AreOf channel) (sym is) are

module _ (f : SessionFields) where
  abbrev on : ℕ
  on = (f.channel).0

  behind-on : (number : ℕ) (it : BehindFrame) → (behind_frame f number it).channel ≡ on
  behind-on number (behind_transfer.Flow link) = refl
  behind-on number (behind_transfer.Detach detach) = refl

  behind-plain : (number : ℕ) (it : BehindFrame) → IsNoBegin (behind_frame f number it).body
  behind-plain number (behind_transfer.Flow link) = tt
  behind-plain number (behind_transfer.Detach detach) = tt

  one-of : (number : ℕ) (it : BehindFrame) → AreOf on (behind_frame f number it ∷ [])
  one-of number it = (behind-on number it, behind-plain number it, tt)

  behind-of : (number : ℕ) (its : List BehindFrame) → AreOf on (frames_behind f number its)
  behind-of number [] = tt
  behind-of number (it ∷ its) = (behind-on number it, behind-plain number it, behind-of number its)

  left-of : (left : Left) → AreOf on (frames_left f left)
  left-of [] = tt
  left-of (s ∷ left) =
      (refl, tt, both-of on _ (frames_left f left) (behind-of _ s.behind) (left-of left))

  reply-of : (number : ℕ) (reply : Reply) → AreOf on (reply_frames f number reply)
  reply-of number NoReply = tt
  reply-of number OfSession = (refl, tt, tt)
  reply-of number (OfLink handle flow None) = tt
  reply-of number (OfLink handle flow (Some it)) = one-of number it

  due-of : (due : Bool) (number : ℕ)
      → AreOf on (option_to_list (if due then Some (session_flow f number) else None))
  due-of true number = (refl, tt, tt)
  due-of false number = tt

  at-once-of : (number : ℕ) (left : Option BehindFrame) → AreOf on (option_to_list (at_once f number left))
  at-once-of number None = tt
  at-once-of number (Some it) = one-of number it

-- a channel that stays
stays-on : (old new : SessionFields) (frames : List SessionFrame) → new.channel ≡ old.channel
    → AreOf (new.channel).0 frames → AreOf (old.channel).0 frames
stays-on old new frames same are = subst (λ (c : OutgoingChannel). AreOf c.0 frames) same are

module _ {R A T D : Type 0} (gives : Relations R A T D) where
  abbrev channel_of : State R → ℕ
  channel_of s = ((s.fields).channel).0

  -- whatever step of a session's own
  pub step-of : (step : Act R A T D) (old new : State R) → Step gives old step new
      → AreOf (channel_of old) (frames_in step)
  step-of Stays old new s = tt
  step-of (SendsBegin frame) old new s = tt
  step-of (TakesBegin incoming begin base left frames) old new s =
      stays-on old.fields new.fields frames (ap (λ (x : State R). (x.fields).channel) s.5)
      (same-of _ frames (frames_left new.fields left) s.3 (left-of new.fields left))
  step-of (SendsEnd error frame) old new s = tt
  step-of TakesEnd old new s = tt
  step-of (TakesAttach handle attach told) old new s = tt
  step-of (TakesFlow flow told reply base left frames) old new s =
      stays-on old.fields new.fields frames (ap (λ (x : State R). (x.fields).channel) s.becomes)
      (same-of _ frames _ s.frames_are
      (both-of _ _ (frames_left new.fields left) (reply-of new.fields _ reply) (left-of new.fields left)))
  step-of (SetsWindow flow base) old new s = tt
  step-of (TakesTransfer handle transfer payload (Ok told) flow) old new s =
      stays-on old.fields new.fields (option_to_list flow) (ap (λ (f : SessionFields). f.channel) (s.2).next)
      (same-of _ (option_to_list flow) _ (ap option_to_list (s.2).told) (due-of new.fields _ _))
  step-of (TakesTransfer handle transfer payload (Err e) flow) old new s =
      same-of _ (option_to_list flow) [] (ap option_to_list s.2) tt
  step-of (TakesDisposition d walk echoes) old new s = tt
  step-of (TakesDetach handle detach told) old new s = tt
  step-of (SendsBehind handle frame left answer) old new s =
      same-of _ (option_to_list answer) _ (ap option_to_list s.1) (at-once-of old.fields _ left)
  step-of (SendsTransfers handle batch left frames) old new s =
      same-of _ frames (frames_left old.fields left) s.1 (left-of old.fields left)
  step-of (SendsDisposition d numbers) old new s = tt
  step-of (TellsFlow frame) old new s =
      same-of _ (frame ∷ []) _ (ap (λ (f : SessionFrame). f ∷ []) s.0) (refl, tt, tt)
  step-of (Allocates handle link input) old new s = tt
  step-of (Deallocates handle) old new s = tt
  step-of (Reserves count) old new s = tt
  step-of (Changes handle before after) old new s = tt

  -- a session takes a Flow
  flow-of : (old new : State R) (flow : Flow) (answer : Result ⊤ SessionError) (frames : List SessionFrame)
      → FlowTaken gives old [] flow answer new frames → AreOf (channel_of old) frames
  flow-of old new flow answer frames f =
      same-of _ frames f.frames f.added
      (step-of (TakesFlow flow f.told f.reply f.base f.left f.frames) old new f.stepped)

  flow-in : (attached : Bool) (old new : State R) (flow : Flow) (answer : Result ⊤ SessionError)
      (frames : List SessionFrame) → FlowInSession gives attached old [] flow answer new frames
      → AreOf (channel_of old) frames
  flow-in false old new flow answer frames f = same-of _ frames [] f.same tt
  flow-in true old new flow (Ok done) frames f = flow-of old new flow _ frames f
  flow-in true old new flow (Err Memory) frames f = same-of _ frames [] f.1 tt
  flow-in true old new flow (Err UnattachedHandle) frames f = flow-of old new flow _ frames f
  flow-in true old new flow (Err HandleInUse) frames f = flow-of old new flow _ frames f
  flow-in true old new flow (Err RemoteAttachingLinkNameNotFound) frames f = flow-of old new flow _ frames f
  flow-in true old new flow (Err IllegalState) frames f = flow-of old new flow _ frames f
  flow-in true old new flow (Err ConnectionStopped) frames f = flow-of old new flow _ frames f
  flow-in true old new flow (Err TransferFrameToSender) frames f = flow-of old new flow _ frames f
  flow-in true old new flow (Err RemoteEnded) frames f = flow-of old new flow _ frames f
  flow-in true old new flow (Err (RemoteEndedWithError e)) frames f = flow-of old new flow _ frames f
  flow-in true old new flow (Err NumberInUse) frames f = flow-of old new flow _ frames f
  flow-in true old new flow (Err HandleMaxReached) frames f = flow-of old new flow _ frames f

  flow-at : (asked : Bool) (old new : AskingSession R) (flow : Flow) (answer : Result ⊤ SessionError)
      (frames : List SessionFrame) → FlowAt gives asked old [] flow answer new frames
      → AreOf (channel_of old.session) frames
  flow-at false old new flow answer frames f =
      flow-in (leads old.session flow.handle) old.session new.session flow answer frames f.0
  flow-at true old new flow (Ok done) frames f = flow-of old.session new.session _ _ frames f.0
  flow-at true old new flow (Err e) frames f = same-of _ frames [] f.2 tt

  -- a session hears its peer
  pub hears-of : (it : LinkPerformative) (told : Result (PerformativeTaken A T D) SessionError)
      (old new : AskingSession R) (frames : List SessionFrame) → Hears gives old [] it told new frames
      → AreOf (channel_of old.session) frames
  hears-of (said.Attach attach named) told old new frames h = same-of _ frames [] h.1 tt
  hears-of (said.Transfer transfer payload) told old new frames h = same-of _ frames [] h.1 tt
  hears-of (said.Disposition disposition) told old new frames h = same-of _ frames [] h.1 tt
  hears-of (said.Detach detach) told old new frames h = same-of _ frames [] h.1 tt
  hears-of (said.Flow flow) (Ok taken.Flow) old new frames h =
      flow-at (is_asked old.asked flow.handle) old new flow (Ok tt) frames h
  hears-of (said.Flow flow) (Ok (taken.Attach it)) old new frames h = absurd h
  hears-of (said.Flow flow) (Ok (taken.Transfer it)) old new frames h = absurd h
  hears-of (said.Flow flow) (Ok (taken.Disposition back runs)) old new frames h = absurd h
  hears-of (said.Flow flow) (Ok (taken.Detach it)) old new frames h = absurd h
  hears-of (said.Flow flow) (Err e) old new frames h =
      flow-at (is_asked old.asked flow.handle) old new flow (Err e) frames h
