-- What the calls of a session do. A call that is refused for want of memory leaves all as before.
use Rattle.std.specs.Prelude.{◌≡◌, ℕ, ◌+◌, ◌*◌, ◌%◌, ◌^◌, ◌-◌, ◌≤◌, List, [], ◌∷◌, ◌++◌, Bool, true, false, Option}
use Rattle.std.specs.Prelude.{Some, None, IsSome, option_map, option_to_list, ◌==◌, if◌then◌else◌, Result, Ok, Err}
use Rattle.std.specs.Prelude.{slice_set, nat_le}
use Rattle.std.specs.FinMap as map
use Rattle.amqp_session_types.specs.declared.channels.IncomingChannel.{IncomingChannel}
use Rattle.amqp_session_types.specs.declared.error.Error.{Error}
use Rattle.amqp_session_types.specs.declared.handles.Handle.{Handle}
use Rattle.amqp_session_types.specs.declared.handles.OutputHandle.{OutputHandle}
use Rattle.amqp_session_types.specs.declared.modes.Role.{Role}
use Rattle.amqp_session_types.specs.declared.modes.Role.TheVariants.{Sender, Receiver}
use Rattle.amqp_session_performatives.specs.declared.attach.Attach.{Attach}
use Rattle.amqp_session_performatives.specs.declared.begin.Begin.{Begin}
use Rattle.amqp_session_performatives.specs.declared.detach.Detach.{Detach}
use Rattle.amqp_session_performatives.specs.declared.disposition.Disposition.{Disposition}
use Rattle.amqp_session_performatives.specs.declared.flow.Flow.{Flow}
use Rattle.amqp_session_performatives.specs.declared.transfer.Transfer.{Transfer}
use Rattle.amqp_session_performatives.specs.declared.link_flow.LinkFlow.{LinkFlow}
use Rattle.amqp_session_performatives.specs.declared.session_frame.SessionFrame.{SessionFrame}
use Rattle.amqp_session_performatives.specs.declared.session_frame.SessionFrameBody.TheVariants as body
use Rattle.amqp_session_outgoing.specs.Range.{range_of}
use Rattle.amqp_session_outgoing.specs.Touched.{Touches}
use Rattle.amqp_session_outgoing.specs.Table.{Table, unless_of}
use Rattle.amqp_session_outgoing.specs.State as sending
use Rattle.amqp_session_outgoing.specs.History as sending_history
use Rattle.amqp_session_outgoing.specs.Queues.{units_of}
use Rattle.amqp_session_core.specs.declared.batch.TransferFrame.{TransferFrame}
use Rattle.amqp_session_core.specs.declared.batch.BehindFrame.{BehindFrame}
use Rattle.amqp_session_core.specs.declared.batch.BehindFrame.TheVariants as behind
use Rattle.amqp_session_core.specs.declared.fields.SessionFields.{SessionFields}
use Rattle.amqp_session_core.specs.declared.relay.Registration.{Registration}
use Rattle.amqp_session_core.specs.declared.relay.Registration.TheVariants.{Unchanged, Unsettled, Settled}
use Rattle.amqp_session_core.specs.declared.relay.RelayError.{RelayError}
use Rattle.amqp_session_core.specs.declared.relay.TransferAnswer.{TransferAnswer}
use Rattle.amqp_session_core.specs.Batch.{Transfers}
use Rattle.amqp_session_core.specs.Frames.{Left, frame_of, session_flow, behind_frame, frames_left, has_flow}
use Rattle.amqp_session_core.specs.Tables.{RouteTable, unless_to}
use Rattle.amqp_session_core.specs.Table.{after_send_begin, after_incoming_begin, after_send_end, after_incoming_end}
use Rattle.amqp_session_core.specs.Echoes.{Reach, Walks, settled_by, echoes_of, without, opposite}
use Rattle.amqp_session_core.specs.Relay.{Relations}
use Rattle.amqp_session_core.specs.State.{State, StepsAt, link_at, live_in, reached, leads}

-- the Flow that answers a Flow: none, the session's, or a link's, which leaves at once or waits
pub data Reply : Type 0 where
  NoReply : Reply
  OfSession : Reply
  OfLink : (handle : OutputHandle) (flow : LinkFlow) (left : Option BehindFrame) → Reply

-- a call, what it was given and answered, and what it handed out
pub data Act (R A T D : Type 0) : Type 0 where
  -- nothing changed
  Stays : Act R A T D
  SendsBegin : (frame : SessionFrame) → Act R A T D
  TakesBegin : (channel : IncomingChannel) (begin : Begin) (base : ℕ) (left : Left) (frames : List SessionFrame)
      → Act R A T D
  SendsEnd : (error : Option Error) (frame : SessionFrame) → Act R A T D
  TakesEnd : Act R A T D
  -- the link with this own handle takes an Attach
  TakesAttach : (handle : ℕ) (attach : Attach) (told : Result A RelayError) → Act R A T D
  -- a Flow is taken, by a link where one is told
  TakesFlow : (flow : Flow) (told : Option (ℕ × Result (Option LinkFlow) RelayError)) (reply : Reply) (base : ℕ)
      (left : Left) (frames : List SessionFrame) → Act R A T D
  -- a Flow with the handle of no link: its window is set, and nothing leaves
  SetsWindow : (flow : Flow) (base : ℕ) → Act R A T D
  -- the link with this own handle takes a transfer
  TakesTransfer : (handle : ℕ) (transfer : Transfer) (payload : List ℕ) (told : Result (TransferAnswer T) RelayError)
      (flow : Option SessionFrame) → Act R A T D
  TakesDisposition : (disposition : Disposition) (walk : List Reach) (echoes : List Disposition) → Act R A T D
  -- the link with this own handle takes a Detach
  TakesDetach : (handle : ℕ) (detach : Detach) (told : Result D RelayError) → Act R A T D
  -- a Flow or a Detach of a link leaves at once or waits
  SendsBehind : (handle : OutputHandle) (frame : BehindFrame) (left : Option BehindFrame) (answer : Option SessionFrame)
      → Act R A T D
  -- transfers of a link are accepted
  SendsTransfers : (handle : OutputHandle) (batch : Transfers) (left : Left) (frames : List SessionFrame) → Act R A T D
  SendsDisposition : (disposition : Disposition) (settled : List ℕ) → Act R A T D
  -- the session tells its state
  TellsFlow : (frame : SessionFrame) → Act R A T D
  -- a link gets an own handle, and is reached by the peer's handle where one is given
  Allocates : (handle : ℕ) (link : R) (input : Option ℕ) → Act R A T D
  Deallocates : (handle : ℕ) → Act R A T D
  -- room is made for transfers
  Reserves : (count : ℕ) → Act R A T D
  -- the owner of a link changed it
  Changes : (handle : ℕ) (before after : R) → Act R A T D

-- a link's state that a Flow with this handle tells
abbrev pub told_to_link : Flow → Handle → LinkFlow
told_to_link f handle =
    record {
      handle = handle;
      delivery_count = f.delivery_count;
      link_credit = f.link_credit;
      available = f.available;
      drain = f.drain;
      echo = f.echo;
      properties = f.properties;
    }

-- the number of the peer's next transfer behind one more (part 2, 2.5.6)
abbrev pub next_behind : Option ℕ → Option ℕ
next_behind number = option_map (λ n. (n + 1) % 2 ^ 32) number

-- the count of taken transfers behind frames that left: it begins anew with a Flow
abbrev pub taken_behind : List SessionFrame → ℕ → ℕ
taken_behind frames taken = if has_flow frames then 0 else taken

-- the frames of a reply that leave at once
abbrev pub reply_frames : SessionFields → ℕ → Reply → List SessionFrame
reply_frames f number NoReply = []
reply_frames f number OfSession = session_flow f number ∷ []
reply_frames f number (OfLink handle flow None) = []
reply_frames f number (OfLink handle flow (Some frame)) = behind_frame f number frame ∷ []

-- a frame behind transfers, as it leaves at once
abbrev pub at_once : SessionFields → ℕ → Option BehindFrame → Option SessionFrame
at_once f number left = option_map (behind_frame f number) left

-- a reply on the sending side: a link's goes behind the transfers that the link has waiting
abbrev pub Replies : sending.State TransferFrame BehindFrame → Reply → sending.State TransferFrame BehindFrame → Type 0
Replies old NoReply new = new ≡ old
Replies old OfSession new = new ≡ old
Replies old (OfLink handle flow left) new =
    sending_history.Step old (sending_history.Follows handle (behind.Flow flow) left) new

-- which reply a Flow gets: a link's own, and where no link is meant and an echo is wanted, the session's (part 2,
-- 2.7.4)
abbrev pub IsReply : Flow → Option (ℕ × Result (Option LinkFlow) RelayError) → Reply → Type 0
IsReply flow None NoReply = flow.echo ≡ false
IsReply flow None OfSession = (flow.handle ≡ None) × (flow.echo ≡ true)
IsReply flow None (OfLink handle f left) = ⊥
IsReply flow (Some (h, Ok None)) reply = reply ≡ NoReply
IsReply flow (Some (h, Err e)) reply = reply ≡ NoReply
IsReply flow (Some (h, Ok (Some f))) NoReply = ⊥
IsReply flow (Some (h, Ok (Some f))) OfSession = ⊥
IsReply flow (Some (h, Ok (Some f))) (OfLink handle g left) =
    (handle ≡ record { 0 = h }) × (g ≡ record f { handle = record { 0 = h } })

-- the deliveries that aren't settled, behind a transfer of a link (part 2, 2.6.12)
abbrev pub registers : Table → ℕ → Registration → Table
registers table handle Unchanged = table
registers table handle (Unsettled number tag) =
    map.insert table number (record { handle = record { 0 = handle }; tag = tag })
registers table handle (Settled number) = map.remove table number

module _ {R : Type 0} where
  -- the own Begin: it names the peer's channel where the peer's came before (part 2, 2.7.2)
  abbrev pub own_begin : State R → Begin
  own_begin s =
      record {
        remote_channel = option_map (λ c. c.0) s.incoming_channel;
        next_outgoing_id = (s.outgoing).next_outgoing_id;
        incoming_window = (s.fields).incoming_window;
        outgoing_window = 2048;
        handle_max = 2 ^ 32 - 1;
        offered_capabilities = [];
        desired_capabilities = [];
        properties = None;
      }

  -- the state behind an accepted Begin of the peer, before anything leaves
  abbrev pub begun : State R → IncomingChannel → Begin → State R → State R
  begun old channel begin new =
      record old {
        local_state = new.local_state;
        incoming_channel = Some channel;
        handle_max = begin.handle_max;
        fields = record old.fields { next_incoming_id = Some begin.next_outgoing_id };
        taken = new.taken;
        outgoing = new.outgoing;
      }

  -- the state behind one more transfer that was taken: half of the window used up, a Flow tells it
  pub record Counts (old : State R) (flow : Option SessionFrame) (new_fields : SessionFields) (new_taken : ℕ) : Type
      0 where
    pub next : new_fields ≡ record old.fields { next_incoming_id = next_behind (old.fields).next_incoming_id }
    pub told : flow ≡ (if nat_le (old.fields).incoming_window (2 * (old.taken + 1)) then Some
        (session_flow new_fields (old.outgoing).next_outgoing_id) else None)
    pub counted : new_taken ≡ (if nat_le (old.fields).incoming_window (2 * (old.taken + 1)) then 0 else old.taken + 1)

  -- the deliveries of a role that aren't settled: those that the own links sent where the peer is the receiver
  abbrev pub table_of : Role → State R → Table
  table_of Receiver s = (s.outgoing).unsettled
  table_of Sender s = s.received

  -- the state with others in their place
  abbrev pub with_table : Role → Table → State R → State R
  with_table Receiver table s = record s { outgoing = record s.outgoing { unsettled = table } }
  with_table Sender table s = record s { received = table }

module _ {R A T D : Type 0} (gives : Relations R A T D) where
  -- a link takes an Attach: from then on the peer's handle reaches it, if it wasn't refused
  abbrev pub AttachStep : State R → ℕ → Attach → Result A RelayError → State R → Type 0
  AttachStep old handle attach (Ok told) new =
      (map.get old.routes (attach.handle).0 ≡ None)
      × StepsAt (λ before after. gives.attaches before attach (Ok told) after) old.links handle new.links
      × (new ≡ record old { links = new.links; routes = map.insert old.routes (attach.handle).0 handle })
  AttachStep old handle attach (Err e) new =
      (map.get old.routes (attach.handle).0 ≡ None)
      × StepsAt (λ before after. gives.attaches before attach (Err e) after) old.links handle new.links
      × (new ≡ record old { links = new.links })

  -- which link takes a Flow, and what it tells
  abbrev pub FlowAt : List (Option R) → RouteTable → Flow → Option Handle
      → Option (ℕ × Result (Option LinkFlow) RelayError) → List (Option R) → Type 0
  FlowAt old routes flow None None new = new ≡ old
  FlowAt old routes flow None (Some told) new = ⊥
  FlowAt old routes flow (Some handle) None new = ⊥
  FlowAt old routes flow (Some handle) (Some (h, told)) new =
      (live_in old (map.get routes handle.0) ≡ Some h)
      × StepsAt (λ before after. gives.flows before (told_to_link flow handle) told after) old h new

  -- a Flow is taken: the number of the peer's next transfer, a link's step, the reply, and then the window
  pub record FlowStep (old : State R) (flow : Flow) (told : Option (ℕ × Result (Option LinkFlow) RelayError))
      (reply : Reply) (base : ℕ) (left : Left) (frames : List SessionFrame) (new : State R) : Type 0 where
    pub link : FlowAt old.links old.routes flow flow.handle told new.links
    pub is_reply : IsReply flow told reply
    pub mid : sending.State TransferFrame BehindFrame
    pub replied : Replies old.outgoing reply mid
    pub base_is : base ≡ sending.base_of old.outgoing flow.next_incoming_id
    pub window : sending_history.Step mid (sending_history.TakesWindow base flow.incoming_window left) new.outgoing
    pub frames_are : frames ≡ reply_frames new.fields (old.outgoing).next_outgoing_id reply
        ++ frames_left new.fields left
    pub becomes :
        new ≡ record old {
          fields = record old.fields { next_incoming_id = Some flow.next_outgoing_id };
          taken = taken_behind frames old.taken;
          links = new.links;
          outgoing = new.outgoing;
        }

  -- a link takes a transfer, which counts if it wasn't refused
  abbrev pub TransferStep : State R → ℕ → Transfer → List ℕ → Result (TransferAnswer T) RelayError → Option SessionFrame
      → State R → Type 0
  TransferStep old handle transfer payload (Ok told) flow new =
      (reached old (transfer.handle).0 ≡ Some handle)
      × StepsAt (λ before after. gives.transfers before transfer payload (Ok told) after) old.links handle new.links
      × Counts old flow new.fields new.taken
      × (new ≡ record old {
        fields = new.fields;
        taken = new.taken;
        links = new.links;
        received = registers old.received handle told.registration;
      })
  TransferStep old handle transfer payload (Err e) flow new =
      (reached old (transfer.handle).0 ≡ Some handle)
      × StepsAt (λ before after. gives.transfers before transfer payload (Err e) after) old.links handle new.links
      × (flow ≡ None) × (new ≡ record old { links = new.links })

  -- a disposition reaches the unsettled deliveries of its range, in order. Those that are settled are forgotten, and
  -- the runs of those that are echoed go back
  pub record DispositionStep (old : State R) (d : Disposition) (walk : List Reach) (echoes : List Disposition)
      (new : State R) : Type 0 where
    pub numbers : List ℕ
    pub touched : Touches (range_of d.first d.last) (table_of d.role old) numbers
    pub walked : Walks gives.disposes d (table_of d.role old) numbers old.links walk new.links
    pub echoes_are : echoes ≡ echoes_of d walk
    pub becomes : new ≡ with_table d.role (without (table_of d.role old) (settled_by d.settled walk))
        (record old { links = new.links })

  -- a link takes a Detach: the peer's handle reaches it no longer, if it wasn't refused
  abbrev pub DetachStep : State R → ℕ → Detach → Result D RelayError → State R → Type 0
  DetachStep old handle detach (Ok told) new =
      (reached old (detach.handle).0 ≡ Some handle)
      × StepsAt (λ before after. gives.detaches before detach (Ok told) after) old.links handle new.links
      × (new ≡ record old { links = new.links; routes = map.remove old.routes (detach.handle).0 })
  DetachStep old handle detach (Err e) new =
      (reached old (detach.handle).0 ≡ Some handle)
      × StepsAt (λ before after. gives.detaches before detach (Err e) after) old.links handle new.links
      × (new ≡ record old { links = new.links })

  -- a Flow or a Detach of a link leaves at once, or waits behind the transfers that the link has waiting
  abbrev pub BehindStep : State R → OutputHandle → BehindFrame → Option BehindFrame → Option SessionFrame → State R
      → Type 0
  BehindStep old handle frame left answer new =
      sending_history.Step old.outgoing (sending_history.Follows handle frame left) new.outgoing
      × (answer ≡ at_once old.fields (old.outgoing).next_outgoing_id left)
      × (new ≡ record old { taken = new.taken; outgoing = new.outgoing })
      × (new.taken ≡ taken_behind (option_to_list answer) old.taken)
      × IsSome (link_at old handle.0)

  -- a disposition of an own link is sent. The deliveries that it settles are forgotten
  abbrev pub SendsDispositionStep : Bool → State R → Disposition → List ℕ → State R → Type 0
  SendsDispositionStep false old d numbers new = (numbers ≡ []) × (new ≡ old)
  SendsDispositionStep true old d numbers new =
      Touches (range_of d.first d.last) (table_of (opposite d.role) old) numbers
      × (new ≡ with_table (opposite d.role) (without (table_of (opposite d.role) old) numbers) old)

  -- a link gets the offered handle, which no link has. Which one is offered next stays open
  abbrev pub AllocateStep : State R → ℕ → R → Option ℕ → State R → Type 0
  AllocateStep old handle link None new =
      (handle ≡ old.offered) × (link_at old handle ≡ None) × (handle ≤ old.handle_max)
      × ((other : ℕ) → link_at new other ≡ (if other == handle then Some link else link_at old other))
      × (new ≡ record old { links = new.links; offered = new.offered })
  AllocateStep old handle link (Some input) new =
      (map.get old.routes input ≡ None) × (handle ≡ old.offered) × (link_at old handle ≡ None)
      × (handle ≤ old.handle_max)
      × ((other : ℕ) → link_at new other ≡ (if other == handle then Some link else link_at old other))
      × (new ≡ record old { links = new.links; offered = new.offered; routes = map.insert old.routes input handle })

  -- the states around a call
  abbrev pub Step : State R → Act R A T D → State R → Type 0
  Step old Stays new = new ≡ old
  Step old (SendsBegin frame) new =
      (frame ≡ frame_of old.fields (body.Begin (own_begin old)))
      × (after_send_begin old.local_state ≡ Some new.local_state)
      × (new ≡ record old { local_state = new.local_state })
  Step old (TakesBegin channel begin base left frames) new =
      (after_incoming_begin old.local_state ≡ Some new.local_state)
      × (base ≡ (old.outgoing).next_outgoing_id)
      × sending_history.Step old.outgoing (sending_history.TakesWindow base begin.incoming_window left) new.outgoing
      × (frames ≡ frames_left new.fields left) × (new.taken ≡ taken_behind frames old.taken)
      × (new ≡ begun old channel begin new)
  Step old (SendsEnd error frame) new =
      (frame ≡ frame_of old.fields (body.End (record { error = error })))
      × (after_send_end old.local_state ≡ Some new.local_state)
      × (new ≡ record old { local_state = new.local_state })
  Step old TakesEnd new =
      (after_incoming_end old.local_state ≡ Some new.local_state) × (new ≡ record old { local_state = new.local_state })
  Step old (TakesAttach handle attach told) new = AttachStep old handle attach told new
  Step old (TakesFlow flow told reply base left frames) new = FlowStep old flow told reply base left frames new
  Step old (SetsWindow flow base) new =
      (leads old flow.handle ≡ false) × (base ≡ sending.base_of old.outgoing flow.next_incoming_id)
      × (new ≡ record old {
        fields = record old.fields { next_incoming_id = Some flow.next_outgoing_id };
        outgoing = sending.with_window old.outgoing base flow.incoming_window;
      })
  Step old (TakesTransfer handle transfer payload told flow) new =
      TransferStep old handle transfer payload told flow new
  Step old (TakesDisposition d walk echoes) new = DispositionStep old d walk echoes new
  Step old (TakesDetach handle detach told) new = DetachStep old handle detach told new
  Step old (SendsBehind handle frame left answer) new = BehindStep old handle frame left answer new
  Step old (SendsTransfers handle batch left frames) new =
      sending_history.Step old.outgoing (sending_history.Accepts handle batch left) new.outgoing
      × (frames ≡ frames_left old.fields left)
      × (new ≡ record old { taken = taken_behind frames old.taken; outgoing = new.outgoing })
      × IsSome (link_at old handle.0)
  Step old (SendsDisposition d numbers) new = SendsDispositionStep d.settled old d numbers new
  Step old (TellsFlow frame) new =
      (frame ≡ session_flow old.fields (old.outgoing).next_outgoing_id) × (new ≡ record old { taken = 0 })
  Step old (Allocates handle link input) new = AllocateStep old handle link input new
  Step old (Deallocates handle) new =
      ((other : ℕ) → link_at new other ≡ (if other == handle then None else link_at old other))
      × ((input : ℕ) → map.get new.routes input ≡ unless_to handle (map.get old.routes input))
      × sending_history.Step old.outgoing (sending_history.Forgets (record { 0 = handle })) new.outgoing
      × ((number : ℕ) → map.get new.received number ≡ unless_of handle (map.get old.received number))
      × (new ≡ record old {
        links = new.links;
        offered = new.offered;
        routes = new.routes;
        outgoing = new.outgoing;
        received = new.received;
      })
      × (units_of handle (old.outgoing).queues ≡ [])
  Step old (Reserves count) new =
      sending_history.Step old.outgoing (sending_history.Reserves count) new.outgoing
      × (new ≡ record old { outgoing = new.outgoing })
  Step old (Changes handle before after) new =
      (link_at old handle ≡ Some before)
      × (new ≡ record old { links = slice_set old.links handle (Some after) })
