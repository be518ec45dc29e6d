-- What the transfers of a delivery say, and what is taken of them.
use Rattle.std.proofs.Common.{◌≡◌, ℕ, List, [], ◌∷◌, ◌++◌, Bool, true, false, ap, sym, refl, ◌∙◌, append_assoc, append-nil}
use Rattle.std.specs.Prelude.{map, Option, Some, None, Result, Ok, Err, if◌then◌else◌, unwrap_or}
use Rattle.std.specs.List.{concat}
use Rattle.amqp_session_types.specs.declared.handles.Handle.{Handle}
use Rattle.amqp_session_performatives.specs.declared.transfer.Transfer.{Transfer}
use Rattle.amqp_link_types.specs.declared.refusals.ReceiverTransferError.{ReceiverTransferError}
use Rattle.amqp_session_outgoing.specs.declared.frames.Outbound.{Outbound}
use Rattle.amqp_session_core.specs.declared.batch.TransferFrame.{TransferFrame}
use Rattle.amqp_session_core.specs.declared.batch.BehindFrame.{BehindFrame}
use Rattle.amqp_session_core.specs.Batch.{Transfers, first_of, continuation_of}
use Rattle.amqp_link_base.specs.Said.{Said, begun, continued, whole, unless, unnamed_by}
use Rattle.amqp_link_base.specs.Readings.{Piece, Reading, nothing, brought, brought_if, read_on, readings, take_on}
use Rattle.amqp_link_base.specs.Readings.{taken_on, taken}
use Rattle.amqp_link_sender.specs.Splitting.{bytes_of, later, more_behind, AreLater, IsDelivery, Splits}
use Rattle.amqp_link_sender.specs.Saying.{piece_of, pieces_of, numbered}

abbrev with_bytes : Said → List ℕ → Said
with_bytes d bytes = record d { payload = d.payload ++ bytes }

abbrev reading : Option Said → Reading
reading held = record { messages = []; held = held }

abbrev one : Said → Reading
one d = record { messages = d ∷ []; held = None }

with-more : (d : Said) (a b : List ℕ) → with_bytes (with_bytes d a) b ≡ with_bytes d (a ++ b)
with-more d a b = ap (λ (l : List ℕ). record d { payload = l }) (append_assoc d.payload a b)

rest-read : (handle : Handle) (us : Transfers) (held : Option Said) (d : Said) → AreLater handle us
    → readings (brought false (more_behind us) (reading held) d) (pieces_of us) ≡ one (whole (with_bytes d (concat (map bytes_of us))))
rest-read handle [] held d h = ap (λ (l : List ℕ). one (whole (record d { payload = l }))) (sym (append-nil d.payload))
rest-read handle (u ∷ us) held d h =
    ap (λ (x : Outbound TransferFrame BehindFrame). readings (read_on (reading (Some d)) (piece_of x)) (pieces_of us)) h.0
    ∙ rest-read handle us (Some d) (with_bytes d (bytes_of u)) h.1
    ∙ ap (λ (x : Said). one (whole x)) (with-more d (bytes_of u) (concat (map bytes_of us)))

first-read : (first : Transfer) (us : Transfers) (bytes : List ℕ) → first.aborted ≡ false → AreLater first.handle us
    → readings (brought first.aborted (more_behind us) nothing (begun (record first { more = more_behind us }) bytes)) (pieces_of us) ≡ one (whole (begun first (bytes ++ concat (map bytes_of us))))
first-read first us bytes e h =
    ap (λ (b : Bool). readings (brought b (more_behind us) nothing (begun (record first { more = more_behind us }) bytes)) (pieces_of us)) e
    ∙ rest-read first.handle us None (begun (record first { more = more_behind us }) bytes) h

delivery-read : (first : Transfer) (us : Transfers) → IsDelivery first us → first.aborted ≡ false → readings nothing (pieces_of us) ≡ one (whole (begun first (concat (map bytes_of us))))
delivery-read first [] h e = absurd h
delivery-read first (u ∷ us) h e =
    ap (λ (x : Outbound TransferFrame BehindFrame). readings (read_on nothing (piece_of x)) (pieces_of us)) h.0 ∙ first-read first us (bytes_of u) e h.1

pub split-read : (first : Transfer) (payload : List ℕ) (room : ℕ) (us : Transfers) → Splits first payload room us → first.aborted ≡ false
    → readings nothing (pieces_of us) ≡ one (whole (begun first payload))
split-read first payload room us h e = delivery-read first us h.delivery e ∙ ap (λ (l : List ℕ). one (whole (begun first l))) h.bytes

rest-taken : (handle : Handle) (us : Transfers) (held : Option Said) (d : Said) → AreLater handle us
    → taken (Ok (brought false (more_behind us) (reading held) d)) (pieces_of us) ≡ Ok (one (whole (with_bytes d (concat (map bytes_of us)))))
rest-taken handle [] held d h = ap (λ (l : List ℕ). Ok (one (whole (record d { payload = l })))) (sym (append-nil d.payload))
rest-taken handle (u ∷ us) held d h =
    ap (λ (x : Outbound TransferFrame BehindFrame). taken (take_on (reading (Some d)) (piece_of x)) (pieces_of us)) h.0
    ∙ rest-taken handle us (Some d) (with_bytes d (bytes_of u)) h.1
    ∙ ap (λ (x : Said). Ok (one (whole x))) (with-more d (bytes_of u) (concat (map bytes_of us)))

abbrev as_numbered : ℕ → Transfer → Bool → Transfer
as_numbered number first more = record first { more = more; delivery_id = Some number }

first-taken : (number : ℕ) (first : Transfer) (tag : List ℕ) (us : Transfers) (bytes : List ℕ) → first.aborted ≡ false → first.delivery_tag ≡ Some tag → AreLater first.handle us
    → taken (take_on nothing (record { performative = as_numbered number first (more_behind us); payload = bytes })) (pieces_of us)
    ≡ Ok (one (whole (begun (record first { delivery_id = Some number }) (bytes ++ concat (map bytes_of us)))))
first-taken number first tag us bytes e t h =
    let d : Said = begun (as_numbered number first (more_behind us)) bytes in
    ap (λ (b : Bool). taken (brought_if b (more_behind us) nothing (unless (unnamed_by (Some number) first.delivery_tag) d)) (pieces_of us)) e
    ∙ ap (λ (o : Option (List ℕ)). taken (brought_if false (more_behind us) nothing (unless (unnamed_by (Some number) o) d)) (pieces_of us)) t
    ∙ rest-taken first.handle us None d h

delivery-taken : (number : ℕ) (first : Transfer) (tag : List ℕ) (us : Transfers) → IsDelivery first us → first.aborted ≡ false → first.delivery_tag ≡ Some tag
    → taken (Ok nothing) (numbered number (pieces_of us)) ≡ Ok (one (whole (begun (record first { delivery_id = Some number }) (concat (map bytes_of us)))))
delivery-taken number first tag [] h e t = absurd h
delivery-taken number first tag (u ∷ us) h e t =
    ap (λ (x : Outbound TransferFrame BehindFrame). taken (Ok nothing) (numbered number (piece_of x ∷ pieces_of us))) h.0 ∙ first-taken number first tag us (bytes_of u) e t h.1

pub split-taken : (number : ℕ) (first : Transfer) (payload tag : List ℕ) (room : ℕ) (us : Transfers) → Splits first payload room us → first.aborted ≡ false → first.delivery_tag ≡ Some tag
    → taken (Ok nothing) (numbered number (pieces_of us)) ≡ Ok (one (whole (begun (record first { delivery_id = Some number }) payload)))
split-taken number first payload tag room us h e t = delivery-taken number first tag us h.delivery e t ∙ ap (λ (l : List ℕ). Ok (one (whole (begun (record first { delivery_id = Some number }) l)))) h.bytes
