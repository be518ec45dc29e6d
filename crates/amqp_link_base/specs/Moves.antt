-- What an Attach, a Detach and a loss of the connection make of a link: part 2, 2.6.3 to 2.6.6.
use Rattle.std.specs.Prelude.{◌≡◌, Bool, true, false, Option, Some, None, option_map, Result, Ok, Err}
use Rattle.amqp_session_performatives.specs.declared.attach.Attach.{Attach}
use Rattle.amqp_link_base.specs.State.{after_send_attach, after_incoming_attach, after_send_detach}
use Rattle.amqp_link_base.specs.State.{after_remote_detach, after_break, is_attached}
use Rattle.amqp_link_base.specs.declared.state.LinkState.{LinkState}
use Rattle.amqp_link_base.specs.declared.state.LinkState.TheVariants.{Closed}
use Rattle.amqp_link_base.specs.declared.base.IllegalState.{IllegalState}
use Rattle.amqp_link_base.specs.declared.base.LinkBase.{LinkBase}
use Rattle.amqp_link_base.specs.declared.detached.Detached.{Detached}

-- a frame is allowed and moves the link, or it isn't and the link stays
abbrev pub Moves : Option LinkBase → LinkBase → Result (Unit {0}) IllegalState → LinkBase → Type 0
Moves None old answer new = (answer ≡ Err (record {})) × (new ≡ old)
Moves (Some moved) old answer new = (answer ≡ Ok tt) × (new ≡ moved)

-- the own Attach is sent, which lists only a part of the unsettled deliveries or all
abbrev pub sent_attach : LinkBase → Bool → Option LinkBase
sent_attach b incomplete =
    option_map (λ state. record b { local_state = state }) (after_send_attach b.local_state incomplete)

-- the link in another state, with the handle that the peer's Attach gives it
abbrev pub moved_to : LinkBase → Attach → LinkState → LinkBase
moved_to b attach state = record b { local_state = state; input_handle = Some (record { 0 = attach.handle.0 }) }

-- the peer's Attach comes, with the handle that the peer gave the link
abbrev pub took_attach : LinkBase → Attach → Option LinkBase
took_attach b attach =
    option_map (λ state. moved_to b attach state) (after_incoming_attach b.local_state attach.incomplete_unsettled)

-- the own Detach is sent, which closes the link or doesn't
abbrev pub sent_detach : LinkBase → Bool → Option LinkBase
sent_detach b closed = option_map (λ state. record b { local_state = state }) (after_send_detach b.local_state closed)

-- the peer's Detach comes, which closes the link or doesn't
abbrev pub took_detach : LinkBase → Bool → Option LinkBase
took_detach b closed =
    option_map (λ state. record b { local_state = state; input_handle = None })
    (after_remote_detach b.local_state closed)

-- the connection or the session is over
abbrev pub broken_off : LinkBase → LinkBase
broken_off b = record b { local_state = after_break b.local_state; input_handle = None; output_handle = None }

-- the link is closed
abbrev pub is_closed : LinkState → Bool
is_closed Closed = true
is_closed state = false

-- what is told of the peer's Detach: whether the link is closed, and whether the own Detach is still to be sent
abbrev pub detached : LinkBase → LinkBase → Detached
detached old new = record { closed = is_closed new.local_state; answer = is_attached old.local_state }
