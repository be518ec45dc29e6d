-- A message cut into the transfers of a delivery: part 2, 2.6.14 and 2.7.5.
use Rattle.std.specs.Prelude.{◌≡◌, ◌≤◌, ℕ, List, [], ◌∷◌, Bool, true, false, None, length, map, max, All}
use Rattle.std.specs.List.{concat}
use Rattle.std.specs.Int.{div_ceil}
use Rattle.amqp_session_types.specs.declared.handles.Handle.{Handle}
use Rattle.amqp_session_performatives.specs.declared.transfer.Transfer.{Transfer}
use Rattle.amqp_session_outgoing.specs.declared.frames.Outbound.{Outbound}
use Rattle.amqp_session_core.specs.declared.batch.TransferFrame.{TransferFrame}
use Rattle.amqp_session_core.specs.declared.batch.BehindFrame.{BehindFrame}
use Rattle.amqp_session_core.specs.Batch.{Transfers, first_of, continuation_of}

-- the bytes that a transfer carries
abbrev pub bytes_of : Outbound TransferFrame BehindFrame → List ℕ
bytes_of u = u.transfer.payload

-- a later transfer of a delivery: its link, and whether more follow, alone
abbrev pub later : Handle → Bool → Transfer
later handle more =
    record {
      handle = handle;
      delivery_id = None;
      delivery_tag = None;
      message_format = None;
      settled = None;
      more = more;
      rcv_settle_mode = None;
      state = None;
      resume = false;
      aborted = false;
      batchable = false;
    }

-- whether any bytes are left
abbrev pub some_left : List ℕ → Bool
some_left [] = false
some_left (x ∷ xs) = true

-- whether any stand behind
abbrev pub more_behind : Transfers → Bool
more_behind [] = false
more_behind (u ∷ us) = true

-- later transfers of a delivery, up to its last
abbrev pub AreLater : Handle → Transfers → Type 0
AreLater handle [] = Unit {0}
AreLater handle (u ∷ us) = (u ≡ continuation_of (later handle (more_behind us)) (bytes_of u)) × AreLater handle us

-- all transfers of a delivery: the first says what is given, the later ones nothing of it, and all but the last say
-- that more follow
abbrev pub IsDelivery : Transfer → Transfers → Type 0
IsDelivery first [] = ⊥
IsDelivery first (u ∷ us) =
    (u ≡ first_of (record first { more = more_behind us }) (bytes_of u)) × AreLater first.handle us

-- these transfers carry the payload of a delivery in order, each at most so many bytes of it, and are as few as they
-- can
pub record Splits (first : Transfer) (payload : List ℕ) (room : ℕ) (transfers : Transfers) : Type 0 where
  pub delivery : IsDelivery first transfers
  pub bytes : concat (map bytes_of transfers) ≡ payload
  pub within : All (λ u. length (bytes_of u) ≤ room) transfers
  pub count : length transfers ≡ max 1 (div_ceil (length payload) room)

-- later transfers that carry what is left of a payload
pub record Rest (handle : Handle) (rest : List ℕ) (room : ℕ) (transfers : Transfers) : Type 0 where
  pub later : AreLater handle transfers
  pub bytes : concat (map bytes_of transfers) ≡ rest
  pub within : All (λ u. length (bytes_of u) ≤ room) transfers
  pub count : length transfers ≡ div_ceil (length rest) room
