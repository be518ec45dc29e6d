-- How a message is sent as transfers that fit the peer's frames: part 2, 2.6.14 and 2.7.5.
use Rattle.std.specs.Prelude.{◌≡◌, ◌⊎◌, ℕ, List, Option, Some, None, Result, Ok, Err}
use Rattle.amqp_session_core.specs.Batch.{Transfers}
use Rattle.amqp_session_performatives.specs.declared.transfer.Transfer.{Transfer}
use Rattle.amqp_link_sender.specs.Room.{room_of}
use Rattle.amqp_link_sender.specs.Splitting.{Splits}
use Rattle.amqp_link_sender.specs.declared.splitting.SplitRefusal.{SplitRefusal}
use Rattle.amqp_link_sender.specs.declared.splitting.SplitRefusal.TheVariants as split
use Rattle.amqp_link_sender.specs.declared.payloads.PreparedBatch.{PreparedBatch}
use Rattle.amqp_link_sender.specs.declared.sending.PreparedSend.{PreparedSend}
use Rattle.amqp_link_sender.specs.declared.sending.SendRefusal.{SendRefusal}
use Rattle.amqp_link_sender.specs.declared.sending.SendRefusal.TheVariants.{IllegalState, Memory}
use Rattle.amqp_link_sender.specs.Sending.{Sending}
use Rattle.amqp_link_sender.specs.Sends.{with_room}

-- why a message isn't sent that isn't cut
abbrev pub uncut : SplitRefusal → SendRefusal
uncut split.NoRoom = IllegalState
uncut split.Memory = Memory

-- the transfers of a message that is ready, each with at most so many bytes of it
abbrev pub IsCut : PreparedSend → ℕ → PreparedBatch → Type 0
IsCut ready room cut = Splits ready.transfer ready.payload room cut.batch × (cut.entry ≡ ready.entry)

-- there is no memory, and the link stays; or the transfers are ready, and there is room for the message
abbrev pub CutsWithin : ℕ → PreparedSend → Sending → Result PreparedBatch SendRefusal → Sending → Type 0
CutsWithin room ready old (Err why) new = (why ≡ Memory) × (new ≡ old)
CutsWithin room ready old (Ok cut) new = IsCut ready room cut × (new ≡ with_room old)

-- no frame of the peer's has room for a byte, or each has room for so many
abbrev pub Cuts : Option ℕ → PreparedSend → Sending → Result PreparedBatch SendRefusal → Sending → Type 0
Cuts None ready old answer new = (answer ≡ Err IllegalState) × (new ≡ old)
Cuts (Some room) ready old answer new = CutsWithin room ready old answer new

-- the transfers of a message that is ready
abbrev pub Splitting : Option ℕ → Transfer → List ℕ → Result Transfers SendRefusal → Type 0
Splitting None first payload (Ok batch) = ⊥
Splitting None first payload (Err why) = why ≡ IllegalState
Splitting (Some room) first payload (Err why) = why ≡ Memory
Splitting (Some room) first payload (Ok batch) = Splits first payload room batch

-- a message isn't sent, for a reason or since there is no memory, and the link stays; or it is cut for frames of at
-- most so many bytes
abbrev pub SendsPayload : Option SendRefusal → PreparedSend → ℕ → Sending → Result PreparedBatch SendRefusal → Sending
    → Type 0
SendsPayload (Some why) ready limit old answer new = (answer ≡ Err why) × (new ≡ old)
SendsPayload None ready limit old answer new =
    ((answer ≡ Err Memory) × (new ≡ old)) ⊎ Cuts (room_of ready.transfer limit) ready old answer new
