-- What a session's steps leave waiting, and what they hand out.
use Rattle.std.proofs.Common.{◌≡◌, ◌≤◌, ℕ, ◌*◌, ◌+◌, List, [], ◌∷◌, ◌++◌, Bool, true, false, refl, sym, ap, arith, subst, ◌∙◌}
use Rattle.std.specs.Prelude.{All, Option, Some, None, Result, Ok, Err, nat_le, option_to_list, if◌then◌else◌}
use Rattle.std.proofs.lemmas.List.Elements.{All-nil, All-append}
use Rattle.amqp_session_types.specs.declared.channels.OutgoingChannel.{OutgoingChannel}
use Rattle.amqp_session_types.specs.declared.handles.Handle.{Handle}
use Rattle.amqp_session_types.specs.declared.handles.OutputHandle.{OutputHandle}
use Rattle.amqp_session_types.specs.declared.modes.Role.{Role}
use Rattle.amqp_session_types.specs.declared.modes.Role.TheVariants.{Sender, Receiver}
use Rattle.amqp_session_performatives.specs.declared.disposition.Disposition.{Disposition}
use Rattle.amqp_session_performatives.specs.declared.flow.Flow.{Flow}
use Rattle.amqp_session_performatives.specs.declared.link_flow.LinkFlow.{LinkFlow}
use Rattle.amqp_session_performatives.specs.declared.session_frame.SessionFrame.{SessionFrame}
use Rattle.amqp_session_performatives.specs.declared.session_frame.SessionFrameBody.TheVariants as body
use Rattle.amqp_session_outgoing.specs.History as sending
use Rattle.amqp_session_core.specs.declared.batch.BehindFrame.{BehindFrame}
use Rattle.amqp_session_core.specs.declared.batch.BehindFrame.TheVariants as behind
use Rattle.amqp_session_core.specs.declared.fields.SessionFields.{SessionFields}
use Rattle.amqp_session_core.specs.declared.relay.RelayError.{RelayError}
use Rattle.amqp_session_core.specs.Echoes.{opposite, settled_by, without}
use Rattle.amqp_session_core.specs.Frames.{Left, behind_frame, frame_of, frames_left, session_flow}
use Rattle.amqp_session_core.specs.History.{History, frames_in, own_settles_as, reply_steps, sending_in, settles, settles_as}
use Rattle.amqp_session_core.specs.Relay.{Relations}
use Rattle.amqp_session_core.specs.State.{State}
use Rattle.amqp_session_core.specs.Steps.{Act, Step, Reply, NoReply, OfSession, OfLink, FlowAt, FlowStep, IsReply}
use Rattle.amqp_session_core.specs.Steps.{Replies, SendsDispositionStep, at_once, own_begin, reply_frames, table_of}
use Rattle.amqp_session_core.specs.Steps.{told_to_link, with_table, Stays, SendsBegin, TakesBegin, SendsEnd, TakesEnd}
use Rattle.amqp_session_core.specs.Steps.{TakesAttach, TakesFlow, SetsWindow, TakesTransfer, TakesDisposition}
use Rattle.amqp_session_core.specs.Steps.{TakesDetach, SendsBehind, SendsTransfers, SendsDisposition, TellsFlow}
use Rattle.amqp_session_core.specs.Steps.{Allocates, Deallocates, Reserves, Changes}
use Rattle.amqp_session_core.specs.Tables.{RouteTable}
use Rattle.amqp_session_core.proofs.SendingSide.{step-sends}
use Rattle.amqp_endpoint_fitting.specs.Fits.{BehindFits, FrameFits}
use Rattle.amqp_endpoint_fitting.specs.Handed.{AllEndFit, AllSendFit, EndFits, RepliesFit, ReplyFits, SendsFit, handed, handed_of}
use Rattle.amqp_endpoint_fitting.specs.Read.{IsRead}
use Rattle.amqp_endpoint_fitting.proofs.Lengths.{all-left, all-one, all-right, begin-fits, behind-fits, left-fit, session-flow-fits}
use Rattle.amqp_endpoint_fitting.proofs.Queueing.{AllBringFit, AllFit, SentFits, Side, SideAct, history-fits, step-fits}

-- settling brings nothing
module _ (channel limit : ℕ) where
  settles-bring : (numbers : List ℕ) → AllBringFit channel limit (settles numbers)
  settles-bring [] = tt
  settles-bring (n ∷ ns) = (tt, settles-bring ns)

  settles-as-bring : (role : Role) (numbers : List ℕ) → AllBringFit channel limit (settles_as role numbers)
  settles-as-bring Receiver numbers = settles-bring numbers
  settles-as-bring Sender numbers = tt

  own-settles-bring : (role : Role) (numbers : List ℕ) → AllBringFit channel limit (own_settles_as role numbers)
  own-settles-bring Sender numbers = settles-bring numbers
  own-settles-bring Receiver numbers = tt

  reply-brings : (reply : Reply) (later : List SideAct) → ReplyFits reply → AllBringFit channel limit later
      → AllBringFit channel limit (reply_steps reply ++ later)
  reply-brings NoReply later f b = b
  reply-brings OfSession later f b = b
  reply-brings (OfLink handle flow left) later f b = (f, b)

-- a frame that may be handed out
module _ (limit : ℕ) where
  abbrev MayFit : Option SessionFrame → Type 0
  MayFit frame = All IsRead (option_to_list frame) → All (FrameFits limit) (option_to_list frame)

  one-fits : (frame : SessionFrame) → (IsRead frame → FrameFits limit frame) → All IsRead (frame ∷ [])
      → All (FrameFits limit) (frame ∷ [])
  one-fits frame f r = all-one (FrameFits limit) frame (f (r 0 frame (omega arith)))

  due-fits : (due : Bool) (frame : SessionFrame) → (IsRead frame → FrameFits limit frame)
      → MayFit (if due then Some frame else None)
  due-fits true frame f r = one-fits frame f r
  due-fits false frame f r = All-nil (FrameFits limit)

module _ {R A T D : Type 0} where
  brings : (channel limit : ℕ) (step : Act R A T D) → SendsFit channel limit step
      → AllBringFit channel limit (sending_in step)
  brings channel limit Stays b = tt
  brings channel limit (SendsBegin frame) b = tt
  brings channel limit (TakesBegin incoming begin base left frames) b = (tt, tt)
  brings channel limit (SendsEnd error frame) b = tt
  brings channel limit TakesEnd b = tt
  brings channel limit (TakesAttach handle attach told) b = tt
  brings channel limit (TakesFlow flow told reply base left frames) b = reply-brings channel limit reply _ b (tt, tt)
  brings channel limit (SetsWindow flow base) b = (tt, tt)
  brings channel limit (TakesTransfer handle transfer payload told flow) b = tt
  brings channel limit (TakesDisposition d walk echoes) b =
      settles-as-bring channel limit d.role (settled_by d.settled walk)
  brings channel limit (TakesDetach handle detach told) b = tt
  brings channel limit (SendsBehind handle frame left answer) b = (b, tt)
  brings channel limit (SendsTransfers handle batch left frames) b = (b, tt)
  brings channel limit (SendsDisposition d numbers) b = own-settles-bring channel limit d.role numbers
  brings channel limit (TellsFlow frame) b = tt
  brings channel limit (Allocates handle link input) b = tt
  brings channel limit (Deallocates handle) b = (tt, tt)
  brings channel limit (Reserves count) b = (tt, tt)
  brings channel limit (Changes handle before after) b = tt

module _ {R A T D : Type 0} (gives : Relations R A T D) where
  abbrev pub Lines : State R → ℕ → ℕ → Type 0
  Lines s channel limit = AllFit channel limit (s.outgoing).queues

  abbrev pub channel_of : State R → ℕ
  channel_of s = ((s.fields).channel).0

  -- what waits
  pub step-waits : (channel limit : ℕ) (step : Act R A T D) (old new : State R) → Step gives old step new
      → SendsFit channel limit step → Lines old channel limit → Lines new channel limit
  step-waits channel limit step old new s b h =
      history-fits channel limit (sending_in step) old.outgoing new.outgoing (step-sends gives step old new s)
      (brings channel limit step b) h

  pub history-waits : (channel limit : ℕ) (steps : List (Act R A T D)) (start end : State R)
      → History gives start steps end → AllSendFit channel limit steps → Lines start channel limit
      → Lines end channel limit
  history-waits channel limit [] start end run b h = subst (λ (s : State R). Lines s channel limit) (sym run) h
  history-waits channel limit (step ∷ steps) start end run b h =
      history-waits channel limit steps run.0 end run.2 b.1 (step-waits channel limit step start run.0 run.1 b.0 h)

  -- the channel stays
  abbrev Kept : State R → State R → Type 0
  Kept old new = (new.fields).channel ≡ (old.fields).channel

  kept-by : (old new s : State R) → new ≡ s → (s.fields).channel ≡ (old.fields).channel → Kept old new
  kept-by old new s is e = ap (λ (x : State R). (x.fields).channel) is ∙ e

  table-kept : (role : Role) (numbers : List ℕ) (old mid new : State R) → (mid.fields).channel ≡ (old.fields).channel
      → new ≡ with_table role (without (table_of role old) numbers) mid → Kept old new
  table-kept Receiver numbers old mid new e is = kept-by old new _ is e
  table-kept Sender numbers old mid new e is = kept-by old new _ is e

  sent-kept : (settles : Bool) (old : State R) (d : Disposition) (numbers : List ℕ) (new : State R)
      → SendsDispositionStep gives settles old d numbers new → Kept old new
  sent-kept false old d numbers new s = kept-by old new old s.1 refl
  sent-kept true old d numbers new s = table-kept (opposite d.role) numbers old old new refl s.1

  pub step-channel : (step : Act R A T D) (old new : State R) → Step gives old step new → Kept old new
  step-channel Stays old new s = kept-by old new old s refl
  step-channel (SendsBegin frame) old new s = kept-by old new _ s.2 refl
  step-channel (TakesBegin incoming begin base left frames) old new s = kept-by old new _ s.5 refl
  step-channel (SendsEnd error frame) old new s = kept-by old new _ s.2 refl
  step-channel TakesEnd old new s = kept-by old new _ s.1 refl
  step-channel (TakesAttach handle attach (Ok told)) old new s = kept-by old new _ s.2 refl
  step-channel (TakesAttach handle attach (Err e)) old new s = kept-by old new _ s.2 refl
  step-channel (TakesFlow flow told reply base left frames) old new s = kept-by old new _ s.becomes refl
  step-channel (SetsWindow flow base) old new s = kept-by old new _ s.2 refl
  step-channel (TakesTransfer handle transfer payload (Ok told) flow) old new s =
      ap (λ (f : SessionFields). f.channel) (s.2).next
  step-channel (TakesTransfer handle transfer payload (Err e) flow) old new s = kept-by old new _ s.3 refl
  step-channel (TakesDisposition d walk echoes) old new s =
      table-kept d.role (settled_by d.settled walk) old (record old { links = new.links }) new refl s.becomes
  step-channel (TakesDetach handle detach (Ok told)) old new s = kept-by old new _ s.2 refl
  step-channel (TakesDetach handle detach (Err e)) old new s = kept-by old new _ s.2 refl
  step-channel (SendsBehind handle frame left answer) old new s = kept-by old new _ s.2 refl
  step-channel (SendsTransfers handle batch left frames) old new s = kept-by old new _ s.2 refl
  step-channel (SendsDisposition d numbers) old new s = sent-kept d.settled old d numbers new s
  step-channel (TellsFlow frame) old new s = kept-by old new _ s.1 refl
  step-channel (Allocates handle x None) old new s = kept-by old new _ s.4 refl
  step-channel (Allocates handle x (Some input)) old new s = kept-by old new _ s.5 refl
  step-channel (Deallocates handle) old new s = kept-by old new _ s.4 refl
  step-channel (Reserves count) old new s = kept-by old new _ s.1 refl
  step-channel (Changes handle before after) old new s = kept-by old new _ s.1 refl

  pub history-channel : (steps : List (Act R A T D)) (start end : State R) → History gives start steps end
      → Kept start end
  history-channel [] start end run = kept-by start end start run refl
  history-channel (step ∷ steps) start end run =
      history-channel steps run.0 end run.2 ∙ step-channel step start run.0 run.1

  -- what is handed out
  abbrev Hands : ℕ → List SessionFrame → Type 0
  Hands limit frames = All IsRead frames → All (FrameFits limit) frames

  hands-same : (limit : ℕ) (frames same : List SessionFrame) → frames ≡ same → Hands limit same → Hands limit frames
  hands-same limit frames same is f = subst (Hands limit) (sym is) f

  -- in the words of the fields with which the frames leave
  leaves-fit : (limit : ℕ) (fields : SessionFields) (channel : ℕ) (left : Left) → 512 ≤ limit
      → (fields.channel).0 ≡ channel → All (SentFits channel limit) left → Hands limit (frames_left fields left)
  leaves-fit limit fields channel left least same s =
      left-fit limit fields least left
      (subst (λ (c : ℕ). All (SentFits c limit) left) (sym same) s)

  behind-leaves : (limit : ℕ) (fields : SessionFields) (channel number : ℕ) (frame : BehindFrame) → 512 ≤ limit
      → (fields.channel).0 ≡ channel → BehindFits channel limit frame
      → IsRead (behind_frame fields number frame) → FrameFits limit (behind_frame fields number frame)
  behind-leaves limit fields channel number frame least same b =
      behind-fits limit fields number frame least
      (subst (λ (c : ℕ). BehindFits c limit frame) (sym same) b)

  reply-hands : (limit : ℕ) (fields : SessionFields) (channel number : ℕ) (old mid : Side) (reply : Reply) → 512 ≤ limit
      → (fields.channel).0 ≡ channel → ReplyFits reply → Replies old reply mid
      → Hands limit (reply_frames fields number reply)
  reply-hands limit fields channel number old mid NoReply least same f s r = All-nil (FrameFits limit)
  reply-hands limit fields channel number old mid OfSession least same f s r =
      one-fits limit (session_flow fields number) (session-flow-fits limit fields number least) r
  reply-hands limit fields channel number old mid (OfLink handle flow None) least same f s r = All-nil (FrameFits limit)
  reply-hands limit fields channel number old mid (OfLink handle flow (Some frame)) least same f s r =
      let b : BehindFits channel limit frame =
      subst (λ (x : BehindFrame). BehindFits channel limit x) (sym (s.0).1) f in
      one-fits limit (behind_frame fields number frame) (behind-leaves limit fields channel number frame least same b) r

  reply-waits : (channel limit : ℕ) (old mid : Side) (reply : Reply) → ReplyFits reply → Replies old reply mid
      → AllFit channel limit old.queues → AllFit channel limit mid.queues
  reply-waits channel limit old mid NoReply f s h =
      subst (λ (x : Side). AllFit channel limit x.queues) (sym s) h
  reply-waits channel limit old mid OfSession f s h =
      subst (λ (x : Side). AllFit channel limit x.queues) (sym s) h
  reply-waits channel limit old mid (OfLink handle flow left) f s h =
      (step-fits channel limit (sending.Follows handle (behind.Flow flow) left) old mid s f h).wait

  pub flow-hands : (limit : ℕ) (flow : Flow) (told : Option (ℕ × Result (Option LinkFlow) RelayError)) (reply : Reply)
      (base : ℕ) (left : Left) (frames : List SessionFrame) (old new : State R) → 512 ≤ limit
      → FlowStep gives old flow told reply base left frames new → ReplyFits reply
      → Lines old (channel_of old) limit → Hands limit frames
  flow-hands limit flow told reply base left frames old new least s f h =
      let same : channel_of new ≡ channel_of old =
      ap (λ (c : OutgoingChannel). c.0) (step-channel (TakesFlow flow told reply base left frames) old new s) in
      let number : ℕ = (old.outgoing).next_outgoing_id in
      let waits : AllFit (channel_of old) limit (s.mid).queues =
      reply-waits (channel_of old) limit old.outgoing s.mid reply f s.replied h in
      let sent : All (SentFits (channel_of old) limit) left =
      (step-fits (channel_of old) limit (sending.TakesWindow base flow.incoming_window left) s.mid new.outgoing
      s.window tt waits).fit in
      hands-same limit frames (reply_frames new.fields number reply ++ frames_left new.fields left) s.frames_are
      (λ r.
      All-append (FrameFits limit) (reply_frames new.fields number reply) (frames_left new.fields left)
      (reply-hands limit new.fields (channel_of old) number old.outgoing s.mid reply least same f s.replied
      (all-left IsRead (reply_frames new.fields number reply) (frames_left new.fields left) r))
      (leaves-fit limit new.fields (channel_of old) left least same sent
      (all-right IsRead (reply_frames new.fields number reply) (frames_left new.fields left) r)))

  pub due-hands : (limit : ℕ) (due : Bool) (fields : SessionFields) (number : ℕ) (flow : Option SessionFrame)
      → 512 ≤ limit
      → flow ≡ (if due then Some (session_flow fields number) else None) → Hands limit (option_to_list flow)
  due-hands limit due fields number flow least is =
      subst (MayFit limit) (sym is)
      (due-fits limit due (session_flow fields number) (session-flow-fits limit fields number least))

  behind-hands : (limit : ℕ) (fields : SessionFields) (number : ℕ) (handle : OutputHandle) (frame : BehindFrame)
      (left : Option BehindFrame) (answer : Option SessionFrame) (old new : Side) → 512 ≤ limit
      → BehindFits (fields.channel).0 limit frame → sending.Step old (sending.Follows handle frame left) new
      → answer ≡ at_once fields number left → Hands limit (option_to_list answer)
  behind-hands limit fields number handle frame None answer old new least b s is =
      subst (MayFit limit) (sym is) (λ r. All-nil (FrameFits limit))
  behind-hands limit fields number handle frame (Some left) answer old new least b s is =
      let fit : BehindFits (fields.channel).0 limit left =
      subst (λ (x : BehindFrame). BehindFits (fields.channel).0 limit x) (sym (s.0).1) b in
      subst (MayFit limit) (sym is)
      (one-fits limit (behind_frame fields number left) (behind-fits limit fields number left least fit))

  pub step-hands : (limit : ℕ) (step : Act R A T D) (old new : State R) → 512 ≤ limit → Step gives old step new
      → SendsFit (channel_of old) limit step → Lines old (channel_of old) limit → Hands limit (frames_in step)
  step-hands limit (TakesBegin incoming begin base left frames) old new least s b h =
      let same : channel_of new ≡ channel_of old =
      ap (λ (c : OutgoingChannel). c.0) (step-channel (TakesBegin incoming begin base left frames) old new s) in
      hands-same limit frames (frames_left new.fields left) s.3
      (leaves-fit limit new.fields (channel_of old) left least same
      (step-fits (channel_of old) limit (sending.TakesWindow base begin.incoming_window left) old.outgoing
      new.outgoing s.2 tt h).fit)
  step-hands limit (TakesFlow flow told reply base left frames) old new least s b h =
      flow-hands limit flow told reply base left frames old new least s b h
  step-hands limit (TakesTransfer handle transfer payload (Ok told) flow) old new least s b h =
      due-hands limit (nat_le (old.fields).incoming_window (2 * (old.taken + 1))) new.fields
      (old.outgoing).next_outgoing_id flow least (s.2).told
  step-hands limit (TakesTransfer handle transfer payload (Err e) flow) old new least s b h =
      subst (MayFit limit) (sym s.2) (λ r. All-nil (FrameFits limit))
  step-hands limit (SendsBehind handle frame left answer) old new least s b h =
      behind-hands limit old.fields (old.outgoing).next_outgoing_id handle frame left answer old.outgoing new.outgoing
      least b s.0 s.1
  step-hands limit (SendsTransfers handle batch left frames) old new least s b h =
      hands-same limit frames (frames_left old.fields left) s.1
      (leaves-fit limit old.fields (channel_of old) left least refl
      (step-fits (channel_of old) limit (sending.Accepts handle batch left) old.outgoing new.outgoing s.0 b h).fit)
  step-hands limit (TellsFlow frame) old new least s b h =
      hands-same limit (frame ∷ []) (session_flow old.fields (old.outgoing).next_outgoing_id ∷ [])
      (ap (λ (f : SessionFrame). f ∷ []) s.0)
      (one-fits limit (session_flow old.fields (old.outgoing).next_outgoing_id)
      (session-flow-fits limit old.fields (old.outgoing).next_outgoing_id least))
  step-hands limit step old new least s b h = λ r. All-nil (FrameFits limit)

  -- an own Begin and an own End, too
  pub whole-hands : (limit : ℕ) (step : Act R A T D) (old new : State R) → 512 ≤ limit → Step gives old step new
      → SendsFit (channel_of old) limit step → EndFits limit step → Lines old (channel_of old) limit
      → Hands limit (handed step)
  whole-hands limit (SendsBegin frame) old new least s b e h =
      let own : SessionFrame = frame_of old.fields (body.Begin (own_begin old)) in
      hands-same limit (frame ∷ []) (own ∷ []) (ap (λ (f : SessionFrame). f ∷ []) s.0)
      (one-fits limit own (λ r. begin-fits limit (channel_of old) (own_begin old) least r refl refl refl))
  whole-hands limit (SendsEnd error frame) old new least s b e h = one-fits limit frame (λ r. e)
  whole-hands limit step old new least s b e h = step-hands limit step old new least s b h

  pub history-hands : (channel limit : ℕ) (steps : List (Act R A T D)) (start end : State R) → 512 ≤ limit
      → History gives start steps end → channel_of start ≡ channel → AllSendFit channel limit steps
      → AllEndFit limit steps → Lines start channel limit → Hands limit (handed_of steps)
  history-hands channel limit [] start end least run same b e h = λ r. All-nil (FrameFits limit)
  history-hands channel limit (step ∷ steps) start end least run same b e h = λ r.
      All-append (FrameFits limit) (handed step) (handed_of steps)
      (whole-hands limit step start run.0 least run.1
      (subst (λ (c : ℕ). SendsFit c limit step) (sym same) b.0) e.0
      (subst (λ (c : ℕ). Lines start c limit) (sym same) h)
      (all-left IsRead (handed step) (handed_of steps) r))
      (history-hands channel limit steps run.0 end least run.2
      (ap (λ (c : OutgoingChannel). c.0) (step-channel step start run.0 run.1) ∙ same) b.1 e.1
      (step-waits channel limit step start run.0 run.1 b.0 h)
      (all-right IsRead (handed step) (handed_of steps) r))

  -- how a link answers a Flow
  reply-of : (replies : RepliesFit gives) (old : List (Option R)) (routes : RouteTable) (flow : Flow)
      (handle : Option Handle) (told : Option (ℕ × Result (Option LinkFlow) RelayError)) (new : List (Option R))
      (reply : Reply) → FlowAt gives old routes flow handle told new → IsReply flow told reply → ReplyFits reply
  reply-of replies old routes flow handle told new NoReply at is = tt
  reply-of replies old routes flow handle told new OfSession at is = tt
  reply-of replies old routes flow handle None new (OfLink to g left) at is = absurd is
  reply-of replies old routes flow handle (Some (h, Ok None)) new (OfLink to g left) at is = subst ReplyFits (sym is) tt
  reply-of replies old routes flow handle (Some (h, Err e)) new (OfLink to g left) at is = subst ReplyFits (sym is) tt
  reply-of replies old routes flow None (Some (h, Ok (Some f))) new (OfLink to g left) at is = absurd at
  reply-of replies old routes flow (Some handle) (Some (h, Ok (Some f))) new (OfLink to g left) at is =
      ap (λ (x : LinkFlow). x.properties) is.1
      ∙ replies.each (at.1).before (at.1).after (told_to_link flow handle) f (at.1).stepped

  pub flow-sends : (replies : RepliesFit gives) (flow : Flow)
      (told : Option (ℕ × Result (Option LinkFlow) RelayError)) (reply : Reply)
      (base : ℕ) (left : Left) (frames : List SessionFrame) (old new : State R)
      → FlowStep gives old flow told reply base left frames new → ReplyFits reply
  flow-sends replies flow told reply base left frames old new s =
      reply-of replies old.links old.routes flow flow.handle told new.links reply s.link s.is_reply
