use Rattle.std.proofs.Common.{◌≡◌, ℕ, List, subst, sym}
use Rattle.std.specs.Prelude.{Result, Ok, Err, IfErr, IsErrAnd, ⊤}
use Rattle.amqp_session_types.specs.declared.channels.IncomingChannel.{IncomingChannel}
use Rattle.amqp_session_performatives.specs.declared.transfer.Transfer.{Transfer}
use Rattle.amqp_session_performatives.specs.declared.session_frame.SessionFrame.{SessionFrame}
use Rattle.amqp_endpoint_conversation.specs.Going.{Goes}
use Rattle.amqp_endpoint_model.specs.declared.error.EndpointError.{EndpointError}
use Rattle.amqp_endpoint_model.specs.Relay.{IsSessionFault}
use Rattle.amqp_endpoint_linking.specs.Linking.{Talk}
use Rattle.amqp_endpoint_link_hearing.specs.Transferring.{RefusesTransfer}
use Rattle.amqp_endpoint_link_hearing.proofs.Transfers.{unnumbered-carried, unready-carried}
use Rattle.amqp_endpoint_link_hearing.proofs.transferring.hear_transfer.Goals as goal

pub returns-in_err-counts-clause-err : goal.returns-in_err-counts-clause-err
returns-in_err-counts-clause-err c =
    unnumbered-carried c.from_residual.result _ c.from_residual.ensures.1 c.args.talk.now
    c.args.given.now c.args.channel c.args.transfer c.args.payload c.in_err-counts.ensures.err

pub returns-in_err-make_room-clause-err : goal.returns-in_err-make_room-clause-err
returns-in_err-make_room-clause-err c =
    unready-carried c.from_residual-in_err-make_room.result _ c.from_residual-in_err-make_room.ensures.1 c.args.talk.now
    c.args.given.now c.args.channel c.args.transfer c.args.payload c.in_err-make_room.ensures.err

-- what it was refused by is what is answered
refused-carried : (r : Result ⊤ EndpointError) (why : EndpointError) → IsErrAnd r (λ (e : EndpointError). e ≡ why)
    → (old new : Talk) (given : ℕ) (channel : IncomingChannel) (it : Transfer) (payload : List ℕ)
    → IsSessionFault why × RefusesTransfer old given channel it payload why new
    → IfErr r (λ (e : EndpointError). IsSessionFault e × RefusesTransfer old given channel it payload e new)
refused-carried (Ok done) why is old new given channel it payload refuses = tt
refused-carried (Err e) why is old new given channel it payload refuses =
    subst (λ (x : EndpointError). IsSessionFault x × RefusesTransfer old given channel it payload x new) (sym is)
    refuses

pub returns-in_err-take_transfer-clause-err : goal.returns-in_err-take_transfer-clause-err
returns-in_err-take_transfer-clause-err c =
    refused-carried c.from_residual-in_err-take_transfer.result _ c.from_residual-in_err-take_transfer.ensures.1
    c.args.talk.now c.take_transfer.new.talk c.args.given.now c.args.channel c.args.transfer c.args.payload
    c.in_err-take_transfer.ensures.err

pub returns-in_err-take_transfer-clause-goes : goal.returns-in_err-take_transfer-clause-goes
returns-in_err-take_transfer-clause-goes c limit least =
    subst
    (λ (o : List SessionFrame).
    Goes limit c.args.talk.now c.take_transfer.new.talk o c.take_transfer.new.out.items) c.make_room.ensures.out
    (c.take_transfer.ensures.goes limit least)

pub returns-clause-goes : goal.returns-clause-goes
returns-clause-goes c limit least =
    subst
    (λ (o : List SessionFrame).
    Goes limit c.args.talk.now c.take_transfer.new.talk o c.take_transfer.new.out.items) c.make_room.ensures.out
    (c.take_transfer.ensures.goes limit least)
