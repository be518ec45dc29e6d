use Rattle.std.proofs.Common.{◌≡◌, All, length, true}
use Rattle.amqp_session_outgoing.specs.Frames.{HaveTags}
use Rattle.amqp_endpoint_messages.specs.SendingOn.{IsOn, transfers_in}
use Rattle.amqp_endpoint_messages.proofs.CutOn.{CutsAll}
use Rattle.amqp_endpoint_messages.proofs.sending_on.make_sending_on.Given as goal

-- with those of the messages that are left the transfers that are made ready are all
abbrev pub invariant-loop-ready : goal.invariant-loop-ready
invariant-loop-ready l =
    record {
      cut : CutsAll l.limit l.handle l.initial.rest.rest.items l.sending.batches.items l.rest.rest.items;
      count : l.sending.transfers ≡ transfers_in l.sending.batches.items;
      all : l.sending.all_fit ≡ true;
      tagged : All HaveTags l.sending.batches.items;
      are : All IsOn l.rest.rest.items;
    }

abbrev pub decreases-loop-ready : goal.decreases-loop-ready
decreases-loop-ready l = length l.rest.rest.items
