use Rattle.std.proofs.Common.{◌≤◌, ◌≡◌, take, map, length, vec_capacity, vec_len}
use Rattle.amqp_endpoint_model.specs.Said.{told}
use Rattle.amqp_endpoint_model.specs.History.{Run}
use Rattle.amqp_endpoint_core.proofs.playing.play.Given as goal

abbrev pub invariant-loop-call : goal.invariant-loop-call
invariant-loop-call g l = record {
  run : Run g.S.SessionRelay.does l.initial.endpoint (take l.call-index l.calls) (map told l.replies.items) l.endpoint;
  count : vec_len l.replies ≡ l.call-index;
  room : length l.calls ≤ vec_capacity l.replies;
}
