use Rattle.std.proofs.Common.{◌≡◌, ◌+◌, ◌≤◌, ◌++◌, length}
use Rattle.std.specs.Vec.{vec_capacity, vec_len}
use Rattle.amqp_endpoint_tables.specs.State.{live_at}
use Rattle.amqp_endpoint_link_calls.specs.Places.{end_live}
use Rattle.amqp_endpoint_link_calls.specs.Keeping.{kept_tags}
use Rattle.amqp_endpoint_link_calls.proofs.keeping.tags_in.Given as goal

-- the tags with those of the messages that are left are all, and there is room for them
abbrev pub invariant-loop-message : goal.invariant-loop-message
invariant-loop-message l =
    record {
      listed : l.tags.items ++ kept_tags (end_live (live_at l.talk.sessions l.session) l.handle) l.rest
          ≡ kept_tags (end_live (live_at l.talk.sessions l.session) l.handle) l.fn.messages;
      room : vec_len l.tags + length l.rest ≤ vec_capacity l.tags;
    }

abbrev pub decreases-loop-message : goal.decreases-loop-message
decreases-loop-message l = length l.rest
