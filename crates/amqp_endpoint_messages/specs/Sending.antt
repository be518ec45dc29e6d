-- How a message is sent by a link of a session: part 2, 2.6.12, 2.7.5.
use Rattle.std.specs.Prelude.{◌≡◌, ◌⊎◌, ℕ, ◌+◌, ◌%◌, ◌^◌, ◌<◌, nat_lt, List, Bool, true, false, ◌&&◌, All, Option}
use Rattle.std.specs.Prelude.{Some, None, IfSome, IsSome, is_none, length, min, Result, Ok, Err}
use Rattle.std.specs.FinMap as map
use Rattle.amqp_session_types.specs.declared.handles.OutputHandle.{OutputHandle}
use Rattle.amqp_session_performatives.specs.declared.session_frame.SessionFrame.{SessionFrame}
use Rattle.amqp_session_performatives.specs.declared.transfer.Transfer.{Transfer}
use Rattle.amqp_session_outgoing.specs.History.{HasFreeNumbers}
use Rattle.amqp_session_outgoing.specs.Queues.{firsts_in}
use Rattle.amqp_session_core.specs.Batch.{Transfers}
use Rattle.amqp_session_core.specs.State.{link_at}
use Rattle.amqp_session_core.specs.Steps.{Step, Changes}
use Rattle.amqp_session_core.specs.Told.{TransfersSent}
use Rattle.amqp_link_sender.specs.Room.{room_of}
use Rattle.amqp_link_sender.specs.Splitting.{Splits}
use Rattle.amqp_link_sender.specs.declared.splitting.SplitRefusal.{SplitRefusal}
use Rattle.amqp_link_sender.specs.declared.splitting.SplitRefusal.TheVariants as split
use Rattle.amqp_link_sender.specs.declared.payloads.PreparedBatch.{PreparedBatch}
use Rattle.amqp_link_sender.specs.declared.sending.PreparedSend.{PreparedSend}
use Rattle.amqp_link_sender.specs.declared.sending.SendRefusal.{SendRefusal}
use Rattle.amqp_link_sender.specs.declared.sending.SendRefusal.TheVariants as link
use Rattle.amqp_link_sender.specs.Sending.{Sending}
use Rattle.amqp_link_sender.specs.Sends.{entry_unless, first_transfer, goes_settled, is_absent, prepared, refusal}
use Rattle.amqp_link_sender.specs.Sends.{sent, with_room}
use Rattle.amqp_link_unsettled.specs.declared.open.Open.{Open}
use Rattle.amqp_link.specs.declared.end.End.{End}
use Rattle.amqp_link.specs.declared.end.End.TheVariants.{Sender, Receiver}
use Rattle.amqp_endpoint_fitting.specs.Fits.{UnitFits}
use Rattle.amqp_endpoint_links.specs.declared.numbered.Numbered.{Numbered}
use Rattle.amqp_endpoint_model.specs.declared.call.Sending.{Sending as Given}
use Rattle.amqp_endpoint_model.specs.declared.error.EndpointError.{EndpointError}
use Rattle.amqp_endpoint_model.specs.declared.error.EndpointError.TheVariants.{Memory, FrameTooLarge, CreditMissing}
use Rattle.amqp_endpoint_model.specs.declared.error.EndpointError.TheVariants.{NumberInUse, MessageTooLarge}
use Rattle.amqp_endpoint_model.specs.declared.error.EndpointError.TheVariants.{IllegalState}
use Rattle.amqp_endpoint_attached.specs.Linked.{Linked, LinksIn, gives, end_in}

-- a message as it is to be sent, settled or not where the link's mode leaves that open
pub record Message : Type 0 where
  pub tag : List ℕ
  pub format : ℕ
  pub payload : List ℕ
  pub settled : Option Bool

-- a message as it is given by its owner, with the tag of its delivery
abbrev pub with_tag : List ℕ → Given → Message
with_tag tag given =
    record { tag = tag; format = given.message_format; payload = given.payload; settled = given.settled }

-- a sending link, with its number
abbrev pub sending : ℕ → Sending → Numbered End
sending number s = record { number = number; link = Sender s }

-- whether the link's message goes settled (part 2, 2.8.2)
abbrev pub goes : Sending → Message → Bool
goes s m = goes_settled s.base.terms.snd_settle_mode m.settled

-- what the first transfer of a message says of it, on the own handle of its link
abbrev pub first_on : OutputHandle → Message → Bool → Transfer
first_on handle m settled =
    record (first_transfer m.tag m.format settled) { handle = record { 0 = handle.0 } }

-- a transfer on the own handle of its link
abbrev pub on_handle : OutputHandle → Transfer → Transfer
on_handle handle first = record first { handle = record { 0 = handle.0 } }

-- why no sending link takes a message with this tag and so many bytes: there is none, or the first of the link's
-- reasons that holds
abbrev pub link_refusal : Option End → List ℕ → ℕ → Option SendRefusal
link_refusal None tag size = Some link.IllegalState
link_refusal (Some (Receiver r)) tag size = Some link.IllegalState
link_refusal (Some (Sender s)) tag size = refusal s tag size

-- the link's refusal: a reason that holds, or want of memory where none does
abbrev pub RefusesByLink : Option End → Message → SendRefusal → Type 0
RefusesByLink end m link.Memory = link_refusal end m.tag (length m.payload) ≡ None
RefusesByLink end m e = link_refusal end m.tag (length m.payload) ≡ Some e

-- the endpoint's refusal for that of a link
abbrev pub refusal_of : SendRefusal → EndpointError
refusal_of link.IllegalState = IllegalState
refusal_of link.MessageTooLarge = MessageTooLarge
refusal_of link.CreditMissing = CreditMissing
refusal_of link.Memory = Memory

-- the number that the next delivery gets is no unsettled delivery's, and none of those of the deliveries that wait:
-- fewer than 2^32 do (part 2, 2.8.6)
abbrev pub has_free_number : LinksIn → Bool
has_free_number s =
    nat_lt (firsts_in s.outgoing.queues) (2 ^ 32)
    && is_none
    (map.get s.outgoing.unsettled ((s.outgoing.next_delivery_number + firsts_in s.outgoing.queues) % 2 ^ 32))

-- behind the link's reasons it is tested whether the number of the delivery is in use
abbrev pub behind_link : Option SendRefusal → Bool → Option EndpointError
behind_link (Some e) free = Some (refusal_of e)
behind_link None true = None
behind_link None false = Some NumberInUse

-- why no message with this tag and so many bytes is sent by the link with this own handle: the first reason that holds
abbrev pub send_refusal : LinksIn → OutputHandle → List ℕ → ℕ → Option EndpointError
send_refusal s handle tag size = behind_link (link_refusal (end_in s handle) tag size) (has_free_number s)

-- a sending link to which nothing speaks against a message with this tag and so many bytes has room for so many
abbrev pub HasRoom : Option End → List ℕ → ℕ → ℕ → Type 0
HasRoom None tag size room = ⊥
HasRoom (Some (Receiver r)) tag size room = ⊥
HasRoom (Some (Sender s)) tag size room = (refusal s tag size ≡ None) × (room ≡ s.messages.room)

-- an end makes a message ready, and room for it
pub record Readies (old : End) (m : Message) (ready : PreparedSend) (new : End) : Type 0 where
  pub before : Sending
  pub sends : old ≡ Sender before
  pub allowed : refusal before m.tag (length m.payload) ≡ None
  pub is : ready ≡ prepared m.tag m.format m.payload (goes before m)
  pub room : new ≡ Sender (with_room before)

-- a link of a session does
pub record ReadiesIn (old : LinksIn) (handle : OutputHandle) (m : Message) (ready : PreparedSend) (new : LinksIn)
    : Type 0 where
  pub number : ℕ
  pub before : Sending
  pub allowed : refusal before m.tag (length m.payload) ≡ None
  pub is : ready ≡ prepared m.tag m.format m.payload (goes before m)
  pub changed : Step gives old (Changes handle.0 (sending number before) (sending number (with_room before))) new

-- a sending link keeps room for so many messages at most
abbrev pub lowered : End → ℕ → End
lowered (Sender s) room = Sender (record s { messages = record s.messages { room = min s.messages.room room } })
lowered (Receiver r) room = Receiver r

-- a link of a session does
pub record Lowers (old : LinksIn) (handle : OutputHandle) (room : ℕ) (new : LinksIn) : Type 0 where
  pub number : ℕ
  pub before : End
  pub changed : Step gives old
      (Changes handle.0 (record { number = number; link = before })
      (record { number = number; link = lowered before room })) new

-- the transfers of a message that is ready, on its link's own handle, each of which fits the peer's frames, and the
-- message as it is open from then on
pub record IsCut (limit : ℕ) (handle : OutputHandle) (ready : PreparedSend) (cut : PreparedBatch) : Type 0 where
  pub room : ℕ
  pub is_room : room_of (on_handle handle ready.transfer) limit ≡ Some room
  pub splits : Splits (on_handle handle ready.transfer) ready.payload room cut.batch
  pub entry : cut.entry ≡ ready.entry

-- no frame of the peer's has room for a byte of the message, or there is no memory
abbrev pub RefusesCut : Option ℕ → EndpointError → Type 0
RefusesCut room e = ((e ≡ FrameTooLarge) × (room ≡ None)) ⊎ ((e ≡ Memory) × IsSome room)

-- the endpoint's refusal for that of a message that isn't cut
abbrev pub uncut : SplitRefusal → EndpointError
uncut split.NoRoom = FrameTooLarge
uncut split.Memory = Memory

-- the transfers of a message of which the first says this, or why there are none
abbrev pub CutsTo : Option ℕ → Transfer → List ℕ → Result Transfers EndpointError → Type 0
CutsTo None first payload (Ok batch) = ⊥
CutsTo (Some room) first payload (Ok batch) = Splits first payload room batch
CutsTo room first payload (Err e) = RefusesCut room e

-- the number of a delivery is in use, or there is no memory
abbrev pub RefusesNumbers : LinksIn → Transfers → EndpointError → Type 0
RefusesNumbers s batch e =
    ((e ≡ NumberInUse) × (HasFreeNumbers s.outgoing batch → ⊥)) ⊎ ((e ≡ Memory) × HasFreeNumbers s.outgoing batch)

-- a sender has credit, room for a message, and none that is open with the tag
pub record IsReady (s : Sending) (entry : Option Open) : Type 0 where
  pub credit : 0 < s.flow.link_credit
  pub room : 0 < s.messages.room
  pub absent : IfSome entry (λ m. is_absent s m.tag)

-- it is a sending link, which is ready
abbrev pub MaySend : Option End → Option Open → Type 0
MaySend None entry = ⊥
MaySend (Some (Receiver r)) entry = ⊥
MaySend (Some (Sender s)) entry = IsReady s entry

-- a sending link has sent a message
abbrev pub sent_by : End → Option Open → End
sent_by (Sender s) entry = Sender (sent s entry)
sent_by (Receiver r) entry = Receiver r

-- one of a session has
pub record Commits (old : LinksIn) (handle : OutputHandle) (entry : Option Open) (new : LinksIn) : Type 0 where
  pub number : ℕ
  pub before : End
  pub changed : Step gives old
      (Changes handle.0 (record { number = number; link = before })
      (record { number = number; link = sent_by before entry })) new

-- a session takes a message's transfers as one batch, of which it hands out what the peer's window allows, and its link
-- has sent it, settled or not
pub record HandsOver (old : LinksIn) (handle : OutputHandle) (cut : PreparedBatch) (settled : Bool)
    (out : List SessionFrame) (new : LinksIn) (out_new : List SessionFrame) : Type 0 where
  pub taken : LinksIn
  pub sends : TransfersSent gives old out handle cut.batch taken out_new
  pub commits : Commits taken handle cut.entry new
  pub went : settled ≡ is_none cut.entry

-- a message that is ready is cut, and handed to its session, and its link has sent it, settled or not
pub record GoesOut (limit : ℕ) (old : LinksIn) (handle : OutputHandle) (ready : PreparedSend) (settled : Bool)
    (out : List SessionFrame) (new : LinksIn) (out_new : List SessionFrame) : Type 0 where
  pub cut : PreparedBatch
  pub is_cut : IsCut limit handle ready cut
  pub over : HandsOver old handle cut settled out new out_new

-- the number of a delivery that is ready is in use
pub record HasUsedNumber (limit : ℕ) (old : LinksIn) (handle : OutputHandle) (ready : PreparedSend) : Type 0 where
  pub cut : PreparedBatch
  pub is_cut : IsCut limit handle ready cut
  pub used : HasFreeNumbers old.outgoing cut.batch → ⊥

-- why a message that is ready doesn't go out: no frame of the peer's has room for a byte of it, then the number of its
-- delivery is in use, or there is no memory
abbrev pub StaysBehind : ℕ → LinksIn → OutputHandle → PreparedSend → EndpointError → Type 0
StaysBehind limit old handle ready FrameTooLarge = room_of (on_handle handle ready.transfer) limit ≡ None
StaysBehind limit old handle ready NumberInUse = HasUsedNumber limit old handle ready
StaysBehind limit old handle ready Memory = Unit {0}
StaysBehind limit old handle ready e = ⊥

-- a message is sent: its link, to which nothing speaks against it, makes room for it, its session takes its transfers
-- as one batch, of which it hands out what the peer's window allows, and the link takes a credit, and has the message
-- open unless it went settled (part 2, 2.5.6, 2.6.7, 2.6.12). Each of the transfers fits the peer's frames on any
-- channel, whatever number its delivery gets (part 2, 2.4.1)
pub record MessageSent (old : Linked) (limit : ℕ) (handle : OutputHandle) (m : Message) (settled : Bool)
    (out : List SessionFrame) (new : Linked) (out_new : List SessionFrame) : Type 0 where
  pub number : ℕ
  pub before : Sending
  pub room : ℕ
  pub transfers : Transfers
  pub mid : LinksIn
  pub taken : LinksIn
  pub allowed : refusal before m.tag (length m.payload) ≡ None
  pub went : settled ≡ goes before m
  pub is_room : room_of (first_on handle m settled) limit ≡ Some room
  pub splits : Splits (first_on handle m settled) m.payload room transfers
  pub fit : (channel : ℕ) → All (UnitFits channel limit handle.0) transfers
  pub prepares : Step gives old.session
      (Changes handle.0 (sending number before) (sending number (with_room before))) mid
  pub sends : TransfersSent gives mid out handle transfers taken out_new
  pub commits : Step gives taken
      (Changes handle.0 (sending number (with_room before))
      (sending number (sent (with_room before) (entry_unless settled m.tag m.format m.payload)))) new.session
  pub rest : new ≡ record old { session = new.session }

-- a sending link to which nothing speaks against the message
pub record MayTake (s : LinksIn) (handle : OutputHandle) (m : Message) (before : Sending) : Type 0 where
  pub number : ℕ
  pub there : link_at s handle.0 ≡ Some (sending number before)
  pub allowed : refusal before m.tag (length m.payload) ≡ None

-- no frame of the peer's has room for a byte of the message
pub record FitsNoFrame (limit : ℕ) (s : LinksIn) (handle : OutputHandle) (m : Message) : Type 0 where
  pub link : Sending
  pub takes : MayTake s handle m link
  pub none : room_of (first_on handle m (goes link m)) limit ≡ None

-- why a message isn't sent: the first reason that holds (part 2, 2.6.7, 2.7.3, 2.8.6), or where none does, want of
-- memory. Under a limit that no peer may set it may also be that no frame of the peer's has room for a byte of it
abbrev pub RefusesSend : ℕ → LinksIn → OutputHandle → Message → EndpointError → Type 0
RefusesSend limit s handle m Memory = send_refusal s handle m.tag (length m.payload) ≡ None
RefusesSend limit s handle m FrameTooLarge =
    (send_refusal s handle m.tag (length m.payload) ≡ None) × FitsNoFrame limit s handle m
RefusesSend limit s handle m e = send_refusal s handle m.tag (length m.payload) ≡ Some e

-- how a message is sent
abbrev pub SendAnswered : Linked → ℕ → OutputHandle → Message → Result Bool EndpointError → List SessionFrame → Linked
    → List SessionFrame → Type 0
SendAnswered old limit handle m (Ok settled) out new out_new = MessageSent old limit handle m settled out new out_new
SendAnswered old limit handle m (Err e) out new out_new = RefusesSend limit old.session handle m e
