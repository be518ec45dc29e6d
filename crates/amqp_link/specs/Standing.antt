-- How a link stands to the frames of its peer: part 2, 2.6.3 to 2.6.6.
use Rattle.amqp_link_base.specs.declared.state.LinkState.{LinkState}
use Rattle.amqp_link_base.specs.declared.state.LinkState.TheVariants as state
use Rattle.amqp_link.specs.declared.standing.Standing.{Standing}
use Rattle.amqp_link.specs.declared.standing.Standing.TheVariants.{Attached, Detaching, Apart}

-- both Attach were exchanged, or the own Detach was sent besides, or neither of these
abbrev pub standing_of : LinkState → Standing
standing_of state.Attached = Attached
standing_of state.IncompleteAttachExchanged = Attached
standing_of state.DetachSent = Detaching
standing_of state.CloseSent = Detaching
standing_of other = Apart
