-- What the transfers of a link say, and what a receiver takes of them (part 2, 2.6.14).
use Rattle.std.specs.Prelude.{ℕ, List, [], ◌∷◌, map, Some}
use Rattle.amqp_session_outgoing.specs.declared.frames.Outbound.{Outbound}
use Rattle.amqp_session_core.specs.declared.batch.TransferFrame.{TransferFrame}
use Rattle.amqp_session_core.specs.declared.batch.BehindFrame.{BehindFrame}
use Rattle.amqp_session_core.specs.Batch.{Transfers}
use Rattle.amqp_link_base.specs.Readings.{Piece}

abbrev pub piece_of : Outbound TransferFrame BehindFrame → Piece
piece_of u = record { performative = u.transfer.performative; payload = u.transfer.payload }

abbrev pub pieces_of : Transfers → List Piece
pieces_of us = map piece_of us

-- the session writes the number of the delivery into its first transfer
abbrev pub numbered : ℕ → List Piece → List Piece
numbered number [] = []
numbered number (p ∷ ps) = record p { performative = record p.performative { delivery_id = Some number } } ∷ ps
