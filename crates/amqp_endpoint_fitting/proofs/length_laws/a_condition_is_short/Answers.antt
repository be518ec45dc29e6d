use Rattle.amqp_endpoint_fitting.proofs.Frames.{unattached_handle-short, handle_in_use-short, not_allowed-short}
use Rattle.amqp_endpoint_fitting.proofs.Frames.{transfer_limit_exceeded-short, message_size_exceeded-short}
use Rattle.amqp_endpoint_fitting.proofs.length_laws.a_condition_is_short.Goals as goal

pub returns-clause-unattached_handle : goal.returns-clause-unattached_handle
returns-clause-unattached_handle c = unattached_handle-short

pub returns-clause-handle_in_use : goal.returns-clause-handle_in_use
returns-clause-handle_in_use c = handle_in_use-short

pub returns-clause-not_allowed : goal.returns-clause-not_allowed
returns-clause-not_allowed c = not_allowed-short

pub returns-clause-transfer_limit_exceeded : goal.returns-clause-transfer_limit_exceeded
returns-clause-transfer_limit_exceeded c = transfer_limit_exceeded-short

pub returns-clause-message_size_exceeded : goal.returns-clause-message_size_exceeded
returns-clause-message_size_exceeded c = message_size_exceeded-short
