use Rattle.std.proofs.Common.{◌≡◌, ◌≤◌, length}
use Rattle.std.specs.Prelude.{Ok}
use Rattle.amqp_link_receiver.specs.DisposingAll.{named_all, named_behind}
use Rattle.amqp_link_receiver.proofs.link.ReceiverLink.name_all.Given as goal

-- those that are named with those that are left are all, and there is room for them
abbrev pub invariant-loop-tag : goal.invariant-loop-tag
invariant-loop-tag l =
    record {
      same : named_behind l.self (Ok l.named.entries) l.rest ≡ named_all l.fn.self l.fn.tags;
      link : l.self ≡ l.fn.self;
      room : length l.rest ≤ l.named.room;
    }

abbrev pub decreases-loop-tag : goal.decreases-loop-tag
decreases-loop-tag l = length l.rest
