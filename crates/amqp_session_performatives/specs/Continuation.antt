-- Continuations of a delivery: part 2, 2.7.5.
use Rattle.std.specs.Prelude.{false, None}
use Rattle.amqp_session_performatives.specs.declared.transfer.Transfer.{Transfer}

-- a transfer that goes on with the delivery of another: its link, and whether more follow, alone
abbrev pub continuation : Transfer → Transfer
continuation t =
    record t {
      delivery_id = None;
      delivery_tag = None;
      message_format = None;
      settled = None;
      rcv_settle_mode = None;
      state = None;
      resume = false;
      aborted = false;
      batchable = false;
    }
