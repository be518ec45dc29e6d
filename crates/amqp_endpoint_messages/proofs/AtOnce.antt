-- A message that is sent as one transfer at once is sent as any is.
use Rattle.std.proofs.Common.{◌≡◌, ℕ, List, [], ◌∷◌, Bool, true, false, Option, Some, None, Result, length, refl}
use Rattle.std.proofs.Common.{sym, ap, subst}
use Rattle.std.specs.Prelude.{◌<◌, ◌^◌, IsSome, OnErr, option_map}
use Rattle.amqp_session_types.specs.declared.handles.OutputHandle.{OutputHandle}
use Rattle.amqp_session_performatives.specs.declared.session_frame.SessionFrame.{SessionFrame}
use Rattle.amqp_session_core.specs.Batch.{Transfers, first_of}
use Rattle.amqp_session_core.specs.SendsAtOnce.{whole_transfer}
use Rattle.amqp_session_core.specs.State.{link_at}
use Rattle.amqp_session_core.specs.Told.{TransfersSent}
use Rattle.amqp_link_sender.specs.Room.{room_of}
use Rattle.amqp_link_sender.specs.Sends.{entry_unless, prepared}
use Rattle.amqp_link_sender.specs.Splitting.{Splits}
use Rattle.amqp_link_sender.specs.declared.sending.PreparedSend.{PreparedSend}
use Rattle.amqp_link_sender.specs.declared.sending_at_once.ReadyAtOnce.{ReadyAtOnce}
use Rattle.amqp_link_sender.proofs.Splits.{is_whole}
use Rattle.amqp_link_unsettled.specs.declared.open.Open.{Open}
use Rattle.amqp_link.specs.declared.end.End.{End}
use Rattle.amqp_endpoint_links.specs.declared.numbered.Numbered.{Numbered}
use Rattle.amqp_endpoint_model.specs.declared.error.EndpointError.{EndpointError}
use Rattle.amqp_endpoint_attached.specs.Linked.{Linked, LinksIn, end_in, gives}
use Rattle.amqp_endpoint_messages.specs.Sending.{Commits, HandsOver, HasRoom, IsCut, Lowers, MaySend, Message}
use Rattle.amqp_endpoint_messages.specs.Sending.{MessageSent, SendAnswered, first_on, goes}
use Rattle.amqp_endpoint_messages.specs.Sending.{ReadiesIn as Readied}
use Rattle.amqp_endpoint_messages.specs.SendsAtOnce.{FitsAnyFrame, ReadiesIn, whole}
use Rattle.amqp_endpoint_messages.proofs.Room.{Holds, tag-leaves-enough}
use Rattle.amqp_endpoint_messages.proofs.Sent.{as_before, is_there, may_send, message_sent}

-- a link may send a message that its session took, where it might before
pub may_send_taken : (s taken : LinksIn) (handle : OutputHandle) (batch : Transfers) (entry : Option Open)
    (out out_new : List SessionFrame) → TransfersSent gives s out handle batch taken out_new
    → MaySend (end_in s handle) entry → MaySend (end_in taken handle) entry
may_send_taken s taken handle batch entry out out_new sent may =
    subst (λ (o : Option End). MaySend o entry) (sym (ap (λ (t : LinksIn). end_in t handle) sent.stepped.2)) may

-- the session took its one transfer, and the link has sent it
pub handed : (s taken new : LinksIn) (handle : OutputHandle) (m : Message) (settled : Bool)
    (out out_new : List SessionFrame) → TransfersSent gives s out handle (whole handle m settled).batch taken out_new
    → Commits taken handle (entry_unless settled m.tag m.format m.payload) new
    → HandsOver s handle (whole handle m settled) settled out new out_new
handed s taken new handle m true out out_new sent commits =
    record { taken = taken; sends = sent; commits = commits; went = refl }
handed s taken new handle m false out out_new sent commits =
    record { taken = taken; sends = sent; commits = commits; went = refl }

-- a link of a session made room for the message
module _ (s : LinksIn) (handle : OutputHandle) (m : Message) (ready : ReadyAtOnce) (mid : LinksIn)
    (by : ReadiesIn s handle m ready mid) where
  -- it is ready as one is that is still to be cut
  abbrev uncut : PreparedSend
  uncut = prepared m.tag m.format m.payload (goes by.before m)

  readied : Readied s handle m uncut mid
  readied =
      record { number = by.number; before = by.before; allowed = by.allowed; is = refl; changed = by.changed }

  has_room : HasRoom (end_in s handle) m.tag (length m.payload) ready.room
  has_room =
      subst (λ (o : Option End). HasRoom o m.tag (length m.payload) ready.room)
      (sym (ap (λ (o : Option (Numbered End)). option_map (λ (n : Numbered End). n.link) o) by.changed.0))
      (by.allowed, by.was)

  -- the link is there, to give up the room that it made
  pub stands : (t : LinksIn) → t ≡ mid → IsSome (link_at t handle.0)
  stands t same = is_there s handle m uncut mid readied t same

  -- with that the session is as it was
  pub back : (t new : LinksIn) → t ≡ mid → Lowers t handle ready.room new → new ≡ s
  back t new same lowers =
      as_before s handle m uncut mid readied t new (length m.payload) ready.room same has_room lowers

  -- or its link may send it
  pub may_hand : MaySend (end_in mid handle) (entry_unless ready.settled m.tag m.format m.payload)
  may_hand =
      subst (λ (b : Bool). MaySend (end_in mid handle) (entry_unless b m.tag m.format m.payload)) (sym by.went)
      (may_send s handle m uncut mid readied)

-- and the session took it, and the link has sent it
module _ (old : Linked) (limit : ℕ) (handle : OutputHandle) (m : Message) (ready : ReadyAtOnce) (mid new : LinksIn)
    (out out_new : List SessionFrame) (by : ReadiesIn old.session handle m ready mid) (fit : FitsAnyFrame limit m)
    (own : handle.0 < 2 ^ 32) (format : m.format < 2 ^ 32) where
  holds : Holds (length m.payload) (room_of (first_on handle m (goes by.before m)) limit)
  holds = tag-leaves-enough limit handle m (goes by.before m) fit.payload own format fit.tag

  abbrev one : Bool → Transfers
  one settled = first_of (whole_transfer handle m.tag m.format settled) m.payload ∷ []

  splits : Splits (first_on handle m (goes by.before m)) m.payload holds.room (one ready.settled)
  splits =
      is_whole (first_on handle m (goes by.before m)) m.payload holds.room (one ready.settled) holds.some holds.enough
      (ap (λ (b : Bool). one b) by.went)

  is_cut : IsCut limit handle (uncut old.session handle m ready mid by) (whole handle m ready.settled)
  is_cut =
      record {
        room = holds.room;
        is_room = holds.is;
        splits = splits;
        entry = ap (λ (b : Bool). entry_unless b m.tag m.format m.payload) by.went;
      }

  pub sent_whole : limit < 2 ^ 32
      → HandsOver mid handle (whole handle m ready.settled) ready.settled out new out_new
      → MessageSent old limit handle m ready.settled out (record old { session = new }) out_new
  sent_whole few over =
      message_sent old limit handle m (uncut old.session handle m ready mid by) mid new ready.settled out out_new
      (readied old.session handle m ready mid by)
      (record { cut = whole handle m ready.settled; is_cut = is_cut; over = over }) few

-- where it isn't sent so, nothing changed before it is sent in the general way
module _ (old mid : Linked) (out out_mid : List SessionFrame) (same : (mid ≡ old) × (out_mid ≡ out)) where
  pub answered_after : (limit : ℕ) (handle : OutputHandle) (m : Message) (result : Result Bool EndpointError)
      (new : Linked) (out_new : List SessionFrame)
      → SendAnswered mid limit handle m result out_mid new out_new
      → SendAnswered old limit handle m result out new out_new
  answered_after limit handle m result new out_new so =
      subst (λ (x : Linked). SendAnswered x limit handle m result out new out_new) same.0
      (subst (λ (xs : List SessionFrame). SendAnswered mid limit handle m result xs new out_new) same.1 so)

  pub kept_after : (result : Result Bool EndpointError) (new : Linked) (out_new : List SessionFrame)
      → OnErr result ((new ≡ mid) × (out_new ≡ out_mid)) → OnErr result ((new ≡ old) × (out_new ≡ out))
  kept_after result new out_new so =
      subst (λ (x : Linked). OnErr result ((new ≡ x) × (out_new ≡ out))) same.0
      (subst (λ (xs : List SessionFrame). OnErr result ((new ≡ mid) × (out_new ≡ xs))) same.1 so)
