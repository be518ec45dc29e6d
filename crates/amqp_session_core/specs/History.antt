-- Histories of a session, and what they say of its parts: its sending side, each of its links, and its own window.
use Rattle.std.specs.Prelude.{◌≡◌, ℕ, ◌+◌, ◌==◌, List, [], ◌∷◌, ◌++◌, Bool, true, false, Option, Some, None}
use Rattle.std.specs.Prelude.{option_to_list, if◌then◌else◌, Result, Ok}
use Rattle.amqp_session_types.specs.declared.handles.Handle.{Handle}
use Rattle.amqp_session_types.specs.declared.modes.Role.{Role}
use Rattle.amqp_session_types.specs.declared.modes.Role.TheVariants.{Sender, Receiver}
use Rattle.amqp_session_performatives.specs.declared.disposition.Disposition.{Disposition}
use Rattle.amqp_session_performatives.specs.declared.flow.Flow.{Flow}
use Rattle.amqp_session_performatives.specs.declared.link_flow.LinkFlow.{LinkFlow}
use Rattle.amqp_session_performatives.specs.declared.session_frame.SessionFrame.{SessionFrame}
use Rattle.amqp_session_performatives.specs.declared.session_frame.SessionFrameBody.{SessionFrameBody}
use Rattle.amqp_session_performatives.specs.declared.session_frame.SessionFrameBody.TheVariants as body
use Rattle.amqp_session_outgoing.specs.History as sending
use Rattle.amqp_session_core.specs.declared.batch.TransferFrame.{TransferFrame}
use Rattle.amqp_session_core.specs.declared.batch.BehindFrame.{BehindFrame}
use Rattle.amqp_session_core.specs.declared.batch.BehindFrame.TheVariants as behind
use Rattle.amqp_session_core.specs.declared.relay.RelayError.{RelayError}
use Rattle.amqp_session_core.specs.Echoes.{Reach, settled_by}
use Rattle.amqp_session_core.specs.Frames.{has_flow}
use Rattle.amqp_session_core.specs.Relay.{Relations, LinkAct, Attaches, Flows, Transfers, Disposes, Detaches}
use Rattle.amqp_session_core.specs.Relay.{SendsBatch, SendsFrame, SendsDisposition as SendsItsDisposition}
use Rattle.amqp_session_core.specs.Relay.{Changes as ChangesIt}
use Rattle.amqp_session_core.specs.State.{State}
use Rattle.amqp_session_core.specs.Steps.{Act, Stays, SendsBegin, TakesBegin, SendsEnd, TakesEnd, TakesAttach}
use Rattle.amqp_session_core.specs.Steps.{TakesFlow, SetsWindow, TakesTransfer, TakesDisposition, TakesDetach}
use Rattle.amqp_session_core.specs.Steps.{SendsBehind, SendsTransfers, SendsDisposition, TellsFlow, Allocates}
use Rattle.amqp_session_core.specs.Steps.{Deallocates, Reserves, Changes, Step, Reply, NoReply, OfSession, OfLink}
use Rattle.amqp_session_core.specs.Steps.{told_to_link, next_behind}

abbrev Sending : Type 0
Sending = sending.Act TransferFrame BehindFrame

-- these deliveries are settled
abbrev pub settles : List ℕ → List Sending
settles [] = []
settles (n ∷ ns) = sending.Settles n ∷ settles ns

-- where the peer receives, the own links sent the deliveries
abbrev pub settles_as : Role → List ℕ → List Sending
settles_as Receiver numbers = settles numbers
settles_as Sender numbers = []

abbrev pub own_settles_as : Role → List ℕ → List Sending
own_settles_as Sender numbers = settles numbers
own_settles_as Receiver numbers = []

abbrev pub reply_steps : Reply → List Sending
reply_steps NoReply = []
reply_steps OfSession = []
reply_steps (OfLink handle flow left) = sending.Follows handle (behind.Flow flow) left ∷ []

-- a Flow tells the number of the peer's next transfer, and the own window
abbrev pub TellsNext : Option ℕ → ℕ → SessionFrameBody → Type 0
TellsNext next window (body.Flow flow) = (flow.next_incoming_id ≡ next) × (flow.incoming_window ≡ window)
TellsNext next window said = Unit {0}

abbrev pub AllTellNext : Option ℕ → ℕ → List SessionFrame → Type 0
AllTellNext next window [] = Unit {0}
AllTellNext next window (frame ∷ frames) = TellsNext next window frame.body × AllTellNext next window frames

module _ {R A T D : Type 0} where
  -- a Flow for a link
  abbrev pub flow_told : Flow → Option Handle → Result (Option LinkFlow) RelayError → List (LinkAct R A T D)
  flow_told flow None told = []
  flow_told flow (Some handle) told = Flows (told_to_link flow handle) told ∷ []

  abbrev pub at_link : ℕ → ℕ → List (LinkAct R A T D) → List (LinkAct R A T D)
  at_link link handle steps = if handle == link then steps else []

  abbrev pub told_to : ℕ → Flow → Option (ℕ × Result (Option LinkFlow) RelayError) → List (LinkAct R A T D)
  told_to link flow None = []
  told_to link flow (Some told) = at_link link told.0 (flow_told flow flow.handle told.1)

  -- the deliveries of a link that a disposition reached
  abbrev pub reached_by : ℕ → Disposition → List Reach → List (LinkAct R A T D)
  reached_by link d [] = []
  reached_by link d (r ∷ walk) =
      (if r.live then at_link link r.handle (Disposes r.tag d.role d.settled d.state r.echo ∷ []) else [])
      ++ reached_by link d walk

module _ {R A T D : Type 0} where
  -- what a call does on the sending side
  abbrev pub sending_in : Act R A T D → List Sending
  sending_in Stays = []
  sending_in (SendsBegin frame) = []
  sending_in (TakesBegin channel begin base left frames) = sending.TakesWindow base begin.incoming_window left ∷ []
  sending_in (SendsEnd error frame) = []
  sending_in TakesEnd = []
  sending_in (TakesAttach handle attach told) = []
  sending_in (TakesFlow flow told reply base left frames) =
      reply_steps reply ++ sending.TakesWindow base flow.incoming_window left ∷ []
  sending_in (SetsWindow flow base) = sending.SetsWindow base flow.incoming_window ∷ []
  sending_in (TakesTransfer handle transfer payload told flow) = []
  sending_in (TakesDisposition d walk echoes) = settles_as d.role (settled_by d.settled walk)
  sending_in (TakesDetach handle detach told) = []
  sending_in (SendsBehind handle frame left answer) = sending.Follows handle frame left ∷ []
  sending_in (SendsTransfers handle batch left frames) = sending.Accepts handle batch left ∷ []
  sending_in (SendsDisposition d numbers) = own_settles_as d.role numbers
  sending_in (TellsFlow frame) = []
  sending_in (Allocates handle link input) = []
  sending_in (Deallocates handle) = sending.Forgets (record { 0 = handle }) ∷ []
  sending_in (Reserves count) = sending.Reserves count ∷ []
  sending_in (Changes handle before after) = []

  abbrev pub sending_of : List (Act R A T D) → List Sending
  sending_of [] = []
  sending_of (step ∷ steps) = sending_in step ++ sending_of steps

  -- what a call does to the link with an own handle, and what is sent for it
  abbrev pub own_in : ℕ → Act R A T D → List (LinkAct R A T D)
  own_in link Stays = []
  own_in link (SendsBegin frame) = []
  own_in link (TakesBegin channel begin base left frames) = []
  own_in link (SendsEnd error frame) = []
  own_in link TakesEnd = []
  own_in link (TakesAttach handle attach told) = at_link link handle (Attaches attach told ∷ [])
  own_in link (TakesFlow flow told reply base left frames) = told_to link flow told
  own_in link (SetsWindow flow base) = []
  own_in link (TakesTransfer handle transfer payload told flow) =
      at_link link handle (Transfers transfer payload told ∷ [])
  own_in link (TakesDisposition d walk echoes) = reached_by link d walk
  own_in link (TakesDetach handle detach told) = at_link link handle (Detaches detach told ∷ [])
  own_in link (SendsBehind handle frame left answer) = at_link link handle.0 (SendsFrame frame ∷ [])
  own_in link (SendsTransfers handle batch left frames) = at_link link handle.0 (SendsBatch batch ∷ [])
  own_in link (SendsDisposition d numbers) = SendsItsDisposition d ∷ []
  own_in link (TellsFlow frame) = []
  own_in link (Allocates handle new input) = []
  own_in link (Deallocates handle) = []
  own_in link (Reserves count) = []
  own_in link (Changes handle before after) = at_link link handle (ChangesIt before after ∷ [])

  abbrev pub own_of : ℕ → List (Act R A T D) → List (LinkAct R A T D)
  own_of link [] = []
  own_of link (step ∷ steps) = own_in link step ++ own_of link steps

  -- where a link's owner changes it, the change keeps a relation
  abbrev pub CallKeeps : (R → R → Type 0) → Act R A T D → Type 0
  CallKeeps keeps (Changes handle before after) = keeps before after
  CallKeeps keeps step = Unit {0}

  -- each change of a link by its owner does
  abbrev pub OwnersKeep : (R → R → Type 0) → List (Act R A T D) → Type 0
  OwnersKeep keeps [] = Unit {0}
  OwnersKeep keeps (step ∷ steps) = CallKeeps keeps step × OwnersKeep keeps steps

  -- the own handle is taken back
  abbrev pub frees : ℕ → Act R A T D → Bool
  frees link (Deallocates handle) = handle == link
  frees link step = false

  abbrev pub is_freed : ℕ → List (Act R A T D) → Bool
  is_freed link [] = false
  is_freed link (step ∷ steps) = if frees link step then true else is_freed link steps

  -- the frames that a call hands out
  abbrev pub frames_in : Act R A T D → List SessionFrame
  frames_in (TakesBegin channel begin base left frames) = frames
  frames_in (TakesFlow flow told reply base left frames) = frames
  frames_in (TakesTransfer handle transfer payload told flow) = option_to_list flow
  frames_in (SendsBehind handle frame left answer) = option_to_list answer
  frames_in (SendsTransfers handle batch left frames) = frames
  frames_in (TellsFlow frame) = frame ∷ []
  frames_in step = []

  -- a transfer is taken
  abbrev pub taken_in : Act R A T D → ℕ
  taken_in (TakesTransfer handle transfer payload (Ok told) flow) = 1
  taken_in step = 0

  -- how many transfers were taken since a Flow left
  abbrev pub taken_since : ℕ → List (Act R A T D) → ℕ
  taken_since count [] = count
  taken_since count (step ∷ steps) = taken_since (if has_flow (frames_in step) then 0 else count + taken_in step) steps

  -- the number of the peer's next transfer, by its Begin, its Flows and what was taken since (part 2, 2.5.6)
  abbrev pub next_in : Option ℕ → Act R A T D → Option ℕ
  next_in next (TakesBegin channel begin base left frames) = Some begin.next_outgoing_id
  next_in next (TakesFlow flow told reply base left frames) = Some flow.next_outgoing_id
  next_in next (SetsWindow flow base) = Some flow.next_outgoing_id
  next_in next (TakesTransfer handle transfer payload (Ok told) flow) = next_behind next
  next_in next step = next

  -- so does each Flow that left, with the number of then
  abbrev pub EachTellsNext : Option ℕ → ℕ → List (Act R A T D) → Type 0
  EachTellsNext next window [] = Unit {0}
  EachTellsNext next window (step ∷ steps) =
      AllTellNext (next_in next step) window (frames_in step) × EachTellsNext (next_in next step) window steps

module _ {R A T D : Type 0} (gives : Relations R A T D) where
  -- the states around a list of calls
  abbrev pub History : State R → List (Act R A T D) → State R → Type 0
  History start [] end = end ≡ start
  History start (step ∷ steps) end = (mid : State R) × Step gives start step mid × History mid steps end
