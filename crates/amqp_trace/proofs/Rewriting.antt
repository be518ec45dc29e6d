-- Messages that were read and written anew.
use Rattle.std.proofs.Common.{◌≡◌, ◌≢◌, ◌⊎◌, inr, ℕ, List, Option, Some, None, Result, Ok, Err}
use Rattle.std.specs.Prelude.{IfOk, IfErr}
use Rattle.serde_amqp_item.specs.Item.{Item}
use Rattle.serde_amqp_item.specs.declared.error.Error.{Error}
use Rattle.serde_amqp_item.specs.declared.error.Error.TheVariants.{Message as Said, Io, InvalidFormatCode, InvalidValue, InvalidUtf8Encoding, SequenceLengthMismatch, InvalidLength, Memory}
use Rattle.serde_amqp_read.specs.Reads.{Unless, faultless}
use Rattle.amqp_link_message.specs.Payload.{payload_text}
use Rattle.amqp_link_message.specs.Message.{message_items}
use Rattle.amqp_link_message.specs.declared.message.Message.{Message}
use Rattle.amqp_trace.specs.Rewriting.{SaysMessage, IsRewritten, IsUnwritable, NotRewritten}

pub rewritten : {B : Type 0} (takes : List Item → Option (List Item)) (items written : B → List Item) (bytes : List ℕ) (m : Message B) → SaysMessage takes items bytes m → (text : List ℕ) → payload_text (message_items written m) ≡ Some text → IsRewritten takes items written bytes text
rewritten takes items written bytes m s text t = record { message = m; said = s; text_is = t }

pub not_written : {B : Type 0} (takes : List Item → Option (List Item)) (items written : B → List Item) (bytes : List ℕ) (m : Message B) → SaysMessage takes items bytes m → payload_text (message_items written m) ≡ None → NotRewritten takes items written bytes
not_written takes items written bytes m s n = inr (record { message = m; said = s; no_text = n })

-- what a writer answers
pub write_done : {X : Type 0} (r : Result X Error) (P Q : X → Type 0) → IfOk r P → ((x : X) → P x → Q x) → IfOk r Q
write_done (Ok x) P Q h f = f x h
write_done (Err e) P Q h f = tt

-- what a writer refuses, but for want of memory
pub write_refused : {X : Type 0} (r : Result X Error) (P Q : Type 0) → IfErr r (λ e. e ≢ Memory → P) → (P → Q) → Unless faultless r Q
write_refused (Ok x) P Q h f = tt
write_refused (Err Memory) P Q h f = tt
write_refused (Err (Io kind)) P Q h f = f (h (λ e. absurd cc))
write_refused (Err Said) P Q h f = f (h (λ e. absurd cc))
write_refused (Err InvalidFormatCode) P Q h f = f (h (λ e. absurd cc))
write_refused (Err InvalidValue) P Q h f = f (h (λ e. absurd cc))
write_refused (Err InvalidUtf8Encoding) P Q h f = f (h (λ e. absurd cc))
write_refused (Err SequenceLengthMismatch) P Q h f = f (h (λ e. absurd cc))
write_refused (Err InvalidLength) P Q h f = f (h (λ e. absurd cc))
