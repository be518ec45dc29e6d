-- The own Attach of a link: part 2, 2.7.3.
use Rattle.std.specs.Prelude.{ℕ, [], ◌==◌, false, Option, Some, None, if◌then◌else◌}
use Rattle.amqp_session_types.specs.declared.handles.OutputHandle.{OutputHandle}
use Rattle.amqp_session_types.specs.declared.modes.Role.{Role}
use Rattle.amqp_session_performatives.specs.declared.attach.Attach.{Attach}
use Rattle.amqp_link_base.specs.declared.base.LinkBase.{LinkBase}

-- the size of the largest message, where there is a bound: 0 is none
abbrev pub bound : ℕ → Option ℕ
bound n = if n == 0 then None else Some n

-- the own handle, which a link has while it is attached
abbrev pub handle_of : Option OutputHandle → OutputHandle
handle_of None = record { 0 = 0 }
handle_of (Some handle) = handle

-- what a link says of itself as it attaches under an own handle, with no unsettled deliveries told
abbrev pub own_attach : LinkBase → OutputHandle → Role → ℕ → Attach
own_attach b handle role count =
    record {
      name = b.name;
      handle = record { 0 = handle.0 };
      role = role;
      snd_settle_mode = b.terms.snd_settle_mode;
      rcv_settle_mode = b.terms.rcv_settle_mode;
      source = b.terms.source;
      target = b.terms.target;
      unsettled = None;
      incomplete_unsettled = false;
      initial_delivery_count = Some count;
      max_message_size = bound b.terms.max_message_size;
      offered_capabilities = [];
      desired_capabilities = [];
      properties = b.given_properties;
    }
