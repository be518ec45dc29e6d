-- What the steps of a world answer, as plain data.
use Rattle.std.specs.Prelude.{ℕ, List, map, Result, Ok, Err}
use Rattle.std.specs.Global.{Vec}
use Rattle.amqp_endpoint_model.specs.declared.answer.Fed.{Fed}
use Rattle.amqp_endpoint_model.specs.declared.error.EndpointError.{EndpointError}
use Rattle.amqp_endpoint_model.specs.Said.{Said, refused, fed, said}
use Rattle.amqp_endpoint_core.specs.declared.reply.Did.{Did}
use Rattle.amqp_endpoint_core.specs.declared.reply.Did.TheVariants.{Called, Moved, Broken}
use Rattle.amqp_endpoint_core.specs.declared.reply.WorldReply.{WorldReply}

pub data WorldSaid : Type 0 where
  -- what the call answered
  called : Said → WorldSaid
  -- what was pulled, and what the feed answered, or why nothing was fed
  moved : List (List ℕ) → Said → WorldSaid
  broken : WorldSaid

abbrev pub texts : List (Vec ℕ) → List (List ℕ)
texts pulled = map (λ bytes. bytes.items) pulled

abbrev pub feed_said : Result Fed EndpointError → Said
feed_said (Ok f) = fed (f.events.items) f.fault
feed_said (Err e) = refused e

abbrev pub did_said : Did → WorldSaid
did_said (Called answer) = called (said answer)
did_said (Moved m) = moved (texts m.pulled.items) (feed_said m.answer)
did_said Broken = broken

-- what a step did, and how many answers of bytes each end still gives behind it
pub record WorldTold : Type 0 where
  pub did : WorldSaid
  pub queued_a : ℕ
  pub queued_b : ℕ

abbrev pub world_told : WorldReply → WorldTold
world_told r = record { did = did_said r.did; queued_a = r.queued_a; queued_b = r.queued_b }
