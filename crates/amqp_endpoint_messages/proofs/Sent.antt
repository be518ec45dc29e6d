-- A message that is sent, or isn't.
use Rattle.std.proofs.Common.{◌≡◌, ℕ, List, Bool, true, false, Option, Some, slice_set}
use Rattle.std.proofs.Common.{None, Result, Err, ◌≤◌, refl, sym, ap, subst, ◌∙◌, length, arith}
use Rattle.std.proofs.lemmas.List.{set-get_or, set-set}
use Rattle.std.proofs.lemmas.Option.{same_Some}
use Rattle.std.specs.FinMap as map
use Rattle.std.specs.Prelude.{◌<◌, ◌^◌, ◌+◌, ◌%◌, IfSome, IsSome, is_none, is_some, max, min, option_map}
use Rattle.amqp_session_types.specs.declared.handles.OutputHandle.{OutputHandle}
use Rattle.amqp_session_performatives.specs.declared.session_frame.SessionFrame.{SessionFrame}
use Rattle.amqp_session_performatives.specs.declared.transfer.Transfer.{Transfer}
use Rattle.amqp_session_outgoing.specs.Frames.{firsts_of}
use Rattle.amqp_session_outgoing.specs.History.{HasFreeNumbers, IsFree}
use Rattle.amqp_session_outgoing.specs.Queues.{firsts_in}
use Rattle.amqp_session_outgoing.specs.State.{State as Outgoing}
use Rattle.amqp_session_core.specs.declared.batch.BehindFrame.{BehindFrame}
use Rattle.amqp_session_core.specs.declared.batch.TransferFrame.{TransferFrame}
use Rattle.amqp_session_core.specs.Batch.{Transfers}
use Rattle.amqp_session_core.specs.State.{link_at}
use Rattle.amqp_session_core.specs.Steps.{Step, Changes}
use Rattle.amqp_session_core.specs.Told.{TransfersSent}
use Rattle.amqp_link_sender.specs.Room.{room_of}
use Rattle.amqp_link_sender.specs.Splitting.{Splits}
use Rattle.amqp_link_sender.specs.declared.payloads.PreparedBatch.{PreparedBatch}
use Rattle.amqp_link_sender.specs.declared.sending.PreparedSend.{PreparedSend}
use Rattle.amqp_link_sender.specs.declared.sending.SendRefusal.{SendRefusal}
use Rattle.amqp_link_sender.specs.declared.sending.SendRefusal.TheVariants as link
use Rattle.amqp_link_sender.specs.Sending.{Sending}
use Rattle.amqp_link_sender.specs.Sends.{entry_unless, is_absent, sent, with_room}
use Rattle.amqp_link_unsettled.specs.declared.open.Open.{Open}
use Rattle.amqp_link.specs.declared.end.End.{End}
use Rattle.amqp_link.specs.declared.end.End.TheVariants.{Sender, Receiver}
use Rattle.amqp_endpoint_links.specs.declared.numbered.Numbered.{Numbered}
use Rattle.amqp_endpoint_model.specs.declared.error.EndpointError.{EndpointError}
use Rattle.amqp_endpoint_model.specs.declared.error.EndpointError.TheVariants.{Memory, FrameTooLarge, NumberInUse}
use Rattle.amqp_endpoint_attached.specs.Linked.{Linked, LinksIn, gives, end_in}
use Rattle.amqp_endpoint_attached.proofs.There.{replaced}
use Rattle.amqp_endpoint_messages.specs.Sending.{GoesOut, HandsOver, HasRoom, IsCut, Lowers, MaySend, MayTake}
use Rattle.amqp_endpoint_messages.specs.Sending.{Message, MessageSent, ReadiesIn, RefusesSend, StaysBehind}
use Rattle.amqp_endpoint_messages.specs.Sending.{behind_link, first_on, goes, has_free_number, link_refusal, lowered}
use Rattle.amqp_endpoint_messages.specs.Sending.{on_handle, send_refusal, sending, sent_by}
use Rattle.amqp_endpoint_messages.proofs.Fitting.{all-fit}
use Rattle.amqp_endpoint_messages.proofs.Prepared.{has_absent, has_credit, is-free}
use Rattle.amqp_endpoint_messages.proofs.Prepared.{never_memory as no_memory}
use Rattle.amqp_endpoint_messages.proofs.Room.{tag-leaves-room}
use Rattle.amqp_endpoint_messages.proofs.Transfers.{delivery_firsts}

-- want of memory is no reason, and that no frame is as long
never_memory : (s : LinksIn) (handle : OutputHandle) (tag : List ℕ) (size : ℕ)
    → send_refusal s handle tag size ≡ Some Memory → ⊥
never_memory s handle tag size is = by (link_refusal (end_in s handle) tag size) (has_free_number s)
    (none (end_in s handle)) is
  where
    none : (end : Option End) → link_refusal end tag size ≡ Some link.Memory → ⊥
    none None is = absurd cc
    none (Some (Receiver r)) is = absurd cc
    none (Some (Sender t)) is = no_memory t tag size is

    by : (o : Option SendRefusal) (free : Bool) → (o ≡ Some link.Memory → ⊥) → behind_link o free ≡ Some Memory → ⊥
    by (Some link.IllegalState) free never is = absurd cc
    by (Some link.MessageTooLarge) free never is = absurd cc
    by (Some link.CreditMissing) free never is = absurd cc
    by (Some link.Memory) free never is = never refl
    by None true never is = absurd cc
    by None false never is = absurd cc

pub never_frame : (o : Option SendRefusal) (free : Bool) → behind_link o free ≡ Some FrameTooLarge → ⊥
never_frame (Some link.IllegalState) free is = absurd cc
never_frame (Some link.MessageTooLarge) free is = absurd cc
never_frame (Some link.CreditMissing) free is = absurd cc
never_frame (Some link.Memory) free is = absurd cc
never_frame None true is = absurd cc
never_frame None false is = absurd cc

-- what is refused as the link and the session are looked at
pub refused_look : (limit : ℕ) (s : LinksIn) (handle : OutputHandle) (m : Message) (size : ℕ) (e : EndpointError)
    → size ≡ length m.payload → send_refusal s handle m.tag size ≡ Some e → RefusesSend limit s handle m e
refused_look limit s handle m size e is why =
    by e (ap (λ (n : ℕ). send_refusal s handle m.tag n) (sym is) ∙ why)
  where
    by : (e : EndpointError) → send_refusal s handle m.tag (length m.payload) ≡ Some e
        → RefusesSend limit s handle m e
    by Memory why = absurd (never_memory s handle m.tag (length m.payload) why)
    by FrameTooLarge why =
        absurd (never_frame (link_refusal (end_in s handle) m.tag (length m.payload)) (has_free_number s) why)
    by e why = why

-- where nothing speaks against it, want of memory refuses it
pub without_memory : (limit : ℕ) (s : LinksIn) (handle : OutputHandle) (m : Message) (size : ℕ)
    → size ≡ length m.payload → send_refusal s handle m.tag size ≡ None → RefusesSend limit s handle m Memory
without_memory limit s handle m size is none = ap (λ (n : ℕ). send_refusal s handle m.tag n) (sym is) ∙ none

-- which never is that no frame is as long
abbrev Refused : EndpointError → Result Bool EndpointError
Refused e = Err e

pub not_a_frame : (s : LinksIn) (handle : OutputHandle) (tag : List ℕ) (size : ℕ) (e : EndpointError)
    → send_refusal s handle tag size ≡ Some e → Refused e ≡ Refused FrameTooLarge → ⊥
not_a_frame s handle tag size FrameTooLarge why same =
    never_frame (link_refusal (end_in s handle) tag size) (has_free_number s) why
not_a_frame s handle tag size e why same = absurd cc

-- the message is cut into these transfers
record CutInto (limit : ℕ) (s : LinksIn) (handle : OutputHandle) (m : Message) (transfers : Transfers) : Type 0 where
  pub link : Sending
  pub takes : MayTake s handle m link
  pub room : ℕ
  pub is_room : room_of (first_on handle m (goes link m)) limit ≡ Some room
  pub splits : Splits (first_on handle m (goes link m)) m.payload room transfers

-- the transfers of a delivery have free numbers where the next one is free
free_batch : (o : Outgoing TransferFrame BehindFrame) (batch : Transfers) → firsts_of batch ≤ 1
    → IsFree o (firsts_in o.queues) → HasFreeNumbers o batch
free_batch o batch few free i less =
    subst (λ (n : ℕ). IsFree o n) (omega (arith, few, less)) free

-- a link of a session that made a message ready
module _ (s : LinksIn) (handle : OutputHandle) (m : Message) (ready : PreparedSend) (mid : LinksIn)
    (by : ReadiesIn s handle m ready mid) where
  there_before : end_in s handle ≡ Some (Sender by.before)
  there_before =
      ap (λ (o : Option (Numbered End)). option_map (λ (n : Numbered End). n.link) o) by.changed.0

  takes : MayTake s handle m by.before
  takes = record { number = by.number; there = by.changed.0; allowed = by.allowed }

  first_is : on_handle handle ready.transfer ≡ first_on handle m (goes by.before m)
  first_is = ap (λ (r : PreparedSend). on_handle handle r.transfer) by.is

  abbrev cut_into : (limit : ℕ) (cut : PreparedBatch) → IsCut limit handle ready cut
      → CutInto limit s handle m cut.batch
  cut_into limit cut is =
      record {
        link = by.before;
        takes = takes;
        room = is.room;
        is_room = ap (λ (t : Transfer). room_of t limit) (sym first_is) ∙ is.is_room;
        splits =
            subst (λ (r : PreparedSend). Splits (on_handle handle r.transfer) r.payload is.room cut.batch) by.is
            is.splits;
      }

  -- it says its tag
  pub tagged : IsSome ready.transfer.delivery_tag
  tagged = ap (λ (r : PreparedSend). is_some r.transfer.delivery_tag) by.is

  pub behind : link_at mid handle.0 ≡ Some (sending by.number (with_room by.before))
  behind =
      ap (λ (t : LinksIn). link_at t handle.0) by.changed.1
      ∙ replaced s handle.0 (sending by.number by.before) (sending by.number (with_room by.before)) (sym by.changed.0)

  end_behind : end_in mid handle ≡ Some (Sender (with_room by.before))
  end_behind = ap (λ (o : Option (Numbered End)). option_map (λ (n : Numbered End). n.link) o) behind

  ready_absent : (settled : Bool)
      → IfSome (entry_unless settled m.tag m.format m.payload) (λ (x : Open). is_absent (with_room by.before) x.tag)
  ready_absent true = tt
  ready_absent false = has_absent by.before m.tag (length m.payload) by.allowed

  -- its link may send it
  pub may_send : MaySend (end_in mid handle) ready.entry
  may_send =
      subst (λ (o : Option End). MaySend o ready.entry) (sym end_behind)
      (record {
        credit = has_credit by.before m.tag (length m.payload) by.allowed;
        room = omega arith;
        absent =
            subst (λ (o : Option Open). IfSome o (λ (x : Open). is_absent (with_room by.before) x.tag))
            (sym (ap (λ (r : PreparedSend). r.entry) by.is)) (ready_absent (goes by.before m));
      })

  -- with a tag of a delivery it has room in each frame
  pub has_frame : (limit : ℕ) (e : EndpointError) → handle.0 < 2 ^ 32 → m.format < 2 ^ 32
      → StaysBehind limit mid handle ready e → 512 ≤ limit → length m.tag ≤ 32
      → Refused e ≡ Refused FrameTooLarge → ⊥
  has_frame limit FrameTooLarge own format none least short is =
      let some : IsSome (room_of (first_on handle m (goes by.before m)) limit) =
      tag-leaves-room limit handle m (goes by.before m) least own format short in
      let clash : false ≡ true =
      sym (ap (λ (o : Option ℕ). is_some o) (ap (λ (t : Transfer). room_of t limit) (sym first_is) ∙ none)) ∙ some in
      absurd cc
  has_frame limit NumberInUse own format used least short is = absurd cc
  has_frame limit Memory own format none least short is = absurd cc
  has_frame limit e own format none least short is = absurd none

  outgoing_same : mid.outgoing ≡ s.outgoing
  outgoing_same = ap (λ (t : LinksIn). t.outgoing) by.changed.1

  -- the number of its delivery is free, where nothing speaks against it
  next_free : send_refusal s handle m.tag (length m.payload) ≡ None → IsFree s.outgoing (firsts_in s.outgoing.queues)
  next_free none =
      is-free (firsts_in s.outgoing.queues)
      (map.get s.outgoing.unsettled ((s.outgoing.next_delivery_number + firsts_in s.outgoing.queues) % 2 ^ 32))
      (free (link_refusal (end_in s handle) m.tag (length m.payload)) (has_free_number s) none)
    where
      free : (o : Option SendRefusal) (b : Bool) → behind_link o b ≡ None → b ≡ true
      free (Some e) b is = absurd cc
      free None true is = refl
      free None false is = absurd cc

  -- it stays behind
  pub stays : (limit size : ℕ) (e : EndpointError) → size ≡ length m.payload
      → send_refusal s handle m.tag size ≡ None → StaysBehind limit mid handle ready e
      → RefusesSend limit s handle m e
  stays limit size e is none behind =
      told e (ap (λ (n : ℕ). send_refusal s handle m.tag n) (sym is) ∙ none) behind
    where
      told : (e : EndpointError) → send_refusal s handle m.tag (length m.payload) ≡ None
          → StaysBehind limit mid handle ready e → RefusesSend limit s handle m e
      told FrameTooLarge none behind = (
        none,
        record {
          link = by.before;
          takes = takes;
          none = ap (λ (t : Transfer). room_of t limit) (sym first_is) ∙ behind;
        },
      )
      told NumberInUse none behind =
          absurd
          (behind.used
          (free_batch mid.outgoing (behind.cut).batch
          (delivery_firsts (on_handle handle ready.transfer) (behind.cut).batch (behind.is_cut).splits.delivery)
          (subst (λ (o : Outgoing TransferFrame BehindFrame). IsFree o (firsts_in o.queues)) (sym outgoing_same)
          (next_free none))))
      told Memory none behind = none
      told e none behind = absurd behind

  room_is : (size room : ℕ) → HasRoom (end_in s handle) m.tag size room → room ≡ by.before.messages.room
  room_is size room has = (subst (λ (o : Option End). HasRoom o m.tag size room) there_before has).1

  -- the link is there, to give up the room that it made
  pub is_there : (t : LinksIn) → t ≡ mid → IsSome (link_at t handle.0)
  is_there t same =
      ap (λ (o : Option (Numbered End)). is_some o) (ap (λ (u : LinksIn). link_at u handle.0) same ∙ behind)

  abbrev made : ℕ → Sending
  made room = record by.before { messages = record by.before.messages { room = room } }

  least : (n room : ℕ) → room ≡ n → min (max n 1) room ≡ n
  least n room is = omega (arith, is)

  gives_up : (size room : ℕ) → HasRoom (end_in s handle) m.tag size room
      → lowered (Sender (with_room by.before)) room ≡ Sender by.before
  gives_up size room has =
      ap (λ (n : ℕ). Sender (made n)) (least by.before.messages.room room (room_is size room has))

  -- with that the session is as it was
  pub as_before : (t new : LinksIn) (size room : ℕ) → t ≡ mid → HasRoom (end_in s handle) m.tag size room
      → Lowers t handle room new → new ≡ s
  as_before t new size room same has lowers =
      let stood : Some (record { number = lowers.number; link = lowers.before })
      ≡ Some (sending by.number (with_room by.before)) =
      sym lowers.changed.0 ∙ ap (λ (u : LinksIn). link_at u handle.0) same ∙ behind in
      lowers.changed.1
      ∙ ap (λ (n : Numbered End).
      record t { links = slice_set t.links handle.0 (Some (record { number = n.number; link = lowered n.link room })) })
      (same_Some _ _ stood)
      ∙ ap (λ (e : End).
      record t { links = slice_set t.links handle.0 (Some (record { number = by.number; link = e })) })
      (gives_up size room has)
      ∙ ap (λ (u : LinksIn).
      record u { links = slice_set u.links handle.0 (Some (sending by.number by.before)) })
      (same ∙ by.changed.1)
      ∙ ap (λ (ls : List (Option (Numbered End))). record s { links = ls })
      (set-set s.links handle.0 (Some (sending by.number (with_room by.before))) (Some (sending by.number by.before))
      ∙ ap (λ (o : Option (Numbered End)). slice_set s.links handle.0 o) (sym by.changed.0)
      ∙ set-get_or s.links handle.0 None)

-- whether it went settled is whether it isn't open from then on
goes_without : (settled : Bool) (tag : List ℕ) (format : ℕ) (payload : List ℕ)
    → is_none (entry_unless settled tag format payload) ≡ settled
goes_without true tag format payload = refl
goes_without false tag format payload = refl

-- the link stands as it did once its session took the transfers
taken_there : (mid taken : LinksIn) (handle : OutputHandle) (batch : Transfers) (out out_new : List SessionFrame)
    → TransfersSent gives mid out handle batch taken out_new → link_at taken handle.0 ≡ link_at mid handle.0
taken_there mid taken handle batch out out_new sent = ap (λ (t : LinksIn). link_at t handle.0) sent.stepped.2

module _ (old : Linked) (limit : ℕ) (handle : OutputHandle) (m : Message) (ready : PreparedSend) (mid new : LinksIn)
    (settled : Bool) (out out_new : List SessionFrame) (by : ReadiesIn old.session handle m ready mid)
    (out_goes : GoesOut limit mid handle ready settled out new out_new) where
  abbrev batch : PreparedBatch
  batch = out_goes.cut

  abbrev is : IsCut limit handle ready batch
  is = out_goes.is_cut

  abbrev over : HandsOver mid handle batch settled out new out_new
  over = out_goes.over

  entry_is : batch.entry ≡ entry_unless (goes by.before m) m.tag m.format m.payload
  entry_is = is.entry ∙ ap (λ (r : PreparedSend). r.entry) by.is

  went : settled ≡ goes by.before m
  went =
      over.went ∙ ap (λ (o : Option Open). is_none o) entry_is
      ∙ goes_without (goes by.before m) m.tag m.format m.payload

  abbrev pieces : CutInto limit old.session handle m batch.batch
  pieces = cut_into old.session handle m ready mid by limit batch is

  stands : Some (record { number = over.commits.number; link = over.commits.before })
      ≡ Some (sending by.number (with_room by.before))
  stands =
      sym over.commits.changed.0 ∙ taken_there mid over.taken handle batch.batch out out_new over.sends
      ∙ behind old.session handle m ready mid by

  committed : Step gives over.taken
      (Changes handle.0 (sending by.number (with_room by.before))
      (sending by.number (sent (with_room by.before) batch.entry))) new
  committed =
      subst (λ (n : Numbered End). Step gives over.taken
      (Changes handle.0 n (record { number = n.number; link = sent_by n.link batch.entry })) new)
      (same_Some _ _ stands) over.commits.changed

  abbrev By : Bool → Type 0
  By b =
      (room_of (first_on handle m b) limit ≡ Some is.room)
      × Splits (first_on handle m b) m.payload is.room batch.batch
      × Step gives over.taken
      (Changes handle.0 (sending by.number (with_room by.before))
      (sending by.number (sent (with_room by.before) (entry_unless b m.tag m.format m.payload)))) new

  by_goes : By (goes by.before m)
  by_goes = (
    pieces.is_room,
    pieces.splits,
    subst (λ (o : Option Open). Step gives over.taken
        (Changes handle.0 (sending by.number (with_room by.before))
        (sending by.number (sent (with_room by.before) o))) new)
        entry_is committed,
  )

  by_settled : By settled
  by_settled = subst By (sym went) by_goes

  -- a message that its link made ready, and that goes out, is sent
  pub message_sent : limit < 2 ^ 32 → MessageSent old limit handle m settled out (record old { session = new }) out_new
  message_sent few =
      record {
        number = by.number;
        before = by.before;
        room = is.room;
        transfers = batch.batch;
        mid = mid;
        taken = over.taken;
        allowed = by.allowed;
        went = went;
        is_room = by_settled.0;
        splits = by_settled.1;
        fit = λ channel.
            all-fit limit channel is.room handle m settled few by_settled.0 batch.batch by_settled.1.delivery
            by_settled.1.within;
        prepares = by.changed;
        sends = over.sends;
        commits = by_settled.2;
        rest = refl;
      }
