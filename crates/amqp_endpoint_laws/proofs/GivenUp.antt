-- Transfers that give deliveries up, which say no message (part 2, 2.6.13).
use Rattle.std.proofs.Common.{◌≡◌, true, List, [], ◌∷◌, ◌++◌}
use Rattle.amqp_link_base.specs.Readings.{Piece}
use Rattle.amqp_link_sender.specs.Saying.{pieces_of}
use Rattle.amqp_endpoint_conversation.specs.Inside.{Batches}

-- each gives its delivery up
abbrev pub AllAborted : List Piece → Type 0
AllAborted [] = Unit {0}
AllAborted (p ∷ ps) = (p.performative.aborted ≡ true) × AllAborted ps

-- so do all that are accepted to be sent
abbrev pub GiveUp : Batches → Type 0
GiveUp [] = Unit {0}
GiveUp ((handle, batch) ∷ others) = AllAborted (pieces_of batch) × GiveUp others

pub aborted-both : (ps qs : List Piece) → AllAborted ps → AllAborted qs → AllAborted (ps ++ qs)
aborted-both [] qs none are = are
aborted-both (p ∷ ps) qs (one, others) are = (one, aborted-both ps qs others are)

pub give-both : (first later : Batches) → GiveUp first → GiveUp later → GiveUp (first ++ later)
give-both [] later none are = are
give-both ((handle, batch) ∷ first) later (one, others) are = (one, give-both first later others are)
