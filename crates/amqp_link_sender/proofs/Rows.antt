-- Worked rows, computed from the definitions.
use Rattle.std.proofs.Common.{◌≡◌, true, false, Some, None, Err, refl}
use Rattle.amqp_session_types.specs.declared.modes.SenderSettleMode.TheVariants.{Settled, Unsettled, Mixed}
use Rattle.amqp_link_types.specs.declared.refusals.LinkStateError.TheVariants.{IllegalState, RemoteClosed}
use Rattle.amqp_link_types.specs.declared.refusals.SendError.TheVariants as send
use Rattle.amqp_link_unsettled.specs.declared.resolution.Failure.TheVariants as failure
use Rattle.amqp_link_unsettled.specs.declared.resolution.Resolution.TheVariants as resolution
use Rattle.amqp_link_sender.specs.Results.{send_result}
use Rattle.amqp_link_sender.specs.Sends.{goes_settled, is_too_large}

-- a largest message of 5 bytes: 5 are sent, 6 aren't; 0 is no bound, but 2^32 bytes are too many
pub largest : is_too_large 5 5 ≡ false
largest = refl

pub larger : is_too_large 5 6 ≡ true
larger = refl

pub unbounded : is_too_large 0 4294967295 ≡ false
unbounded = refl

pub too_many : is_too_large 0 4294967296 ≡ true
too_many = refl

-- the link's mode goes before what is asked
pub always_settled : goes_settled Settled (Some false) ≡ true
always_settled = refl

pub never_settled : goes_settled Unsettled (Some true) ≡ false
never_settled = refl

pub settled_as_asked : goes_settled Mixed (Some true) ≡ true
settled_as_asked = refl

pub settled_unasked : goes_settled Mixed None ≡ false
settled_unasked = refl

-- what the sender of a message without an outcome is told
pub settled_without_state : send_result None resolution.NoState ≡ Err send.IllegalDeliveryState
settled_without_state = refl

pub settled_at_a_place : send_result None resolution.NotTerminal ≡ Err send.NonTerminalDeliveryState
settled_at_a_place = refl

pub given_up : send_result None resolution.Aborted ≡ Err (send.LinkStateError IllegalState)
given_up = refl

pub closed_by_the_peer : send_result None (resolution.Failed failure.RemoteClosed) ≡ Err (send.LinkStateError RemoteClosed)
closed_by_the_peer = refl
