-- What a list of transfers says: the messages that it completes, and what it leaves open (part 2, 2.6.14).
use Rattle.std.specs.Prelude.{ℕ, ◌++◌, ◌∷◌, [], Bool, true, false, List, Option, Some, None, Result, Ok, Err}
use Rattle.amqp_session_performatives.specs.declared.transfer.Transfer.{Transfer}
use Rattle.amqp_link_types.specs.declared.refusals.ReceiverTransferError.{ReceiverTransferError}
use Rattle.amqp_link_base.specs.Said.{Said, begun, continued, whole, gathered}

-- a transfer, and the bytes that it carries
pub record Piece : Type 0 where
  pub performative : Transfer
  pub payload : List ℕ

-- the messages that transfers complete, in their order, and the delivery that they leave open
pub record Reading : Type 0 where
  pub messages : List Said
  pub held : Option Said

-- no transfer says anything
abbrev pub nothing : Reading
nothing = record { messages = []; held = None }

-- the delivery that a transfer is of: the one that is open, or else one that it begins
abbrev pub opened : Option Said → Piece → Said
opened None p = begun p.performative p.payload
opened (Some d) p = continued d p.performative p.payload

-- what is said once a transfer has brought a delivery so far, by whether it gives it up and whether more of it follow
abbrev pub brought : Bool → Bool → Reading → Said → Reading
brought true more r d = record r { held = None }
brought false true r d = record r { held = Some d }
brought false false r d = record { messages = r.messages ++ whole d ∷ []; held = None }

-- what is said once a transfer more has come
abbrev pub read_on : Reading → Piece → Reading
read_on r p = brought p.performative.aborted p.performative.more r (opened r.held p)

-- what is said once these transfers have come, in order
abbrev pub readings : Reading → List Piece → Reading
readings r [] = r
readings r (p ∷ ps) = readings (read_on r p) ps

abbrev pub brought_if : Bool → Bool → Reading → Result Said ReceiverTransferError → Result Reading ReceiverTransferError
brought_if true more r g = Ok (record r { held = None })
brought_if false more r (Err e) = Err e
brought_if false more r (Ok d) = Ok (brought false more r d)

-- what is held and was handed out once a receiver has tested a transfer more, or why it refuses it. One that gives the
-- delivery up isn't tested
abbrev pub take_on : Reading → Piece → Result Reading ReceiverTransferError
take_on r p = brought_if p.performative.aborted p.performative.more r (gathered r.held p.performative p.payload)

abbrev pub taken_on : Result Reading ReceiverTransferError → Piece → Result Reading ReceiverTransferError
taken_on (Err e) p = Err e
taken_on (Ok r) p = take_on r p

-- what comes of taking these transfers, in order: they are taken up to the first that is refused
abbrev pub taken : Result Reading ReceiverTransferError → List Piece → Result Reading ReceiverTransferError
taken r [] = r
taken r (p ∷ ps) = taken (taken_on r p) ps
