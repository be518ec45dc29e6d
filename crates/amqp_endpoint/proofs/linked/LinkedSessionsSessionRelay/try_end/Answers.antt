use Rattle.std.proofs.Common.{[], refl}
use Rattle.amqp_endpoint_conversation.proofs.Calls.{told-goes, told-rests}
use Rattle.amqp_endpoint_linking.specs.Linking.{Talk}
use Rattle.amqp_endpoint.proofs.Related.{end-told}
use Rattle.amqp_endpoint.proofs.linked.LinkedSessionsSessionRelay.try_end.Goals as goal

pub returns-clause-called : goal.returns-clause-called
returns-clause-called c limit = (
  end-told c.args.self.now c.args.number c.try_end.new.self c.try_end.result c.try_end.ensures,
  record { sent = refl; given = refl },
)

pub returns-clause-within : goal.returns-clause-within
returns-clause-within c limit =
    let old = c.args.self.now.talk in
    let new : Talk = record old { sessions = c.try_end.new.self } in
    (told-goes limit c.args.number old new c.try_end.result [] c.try_end.ensures).waits

pub returns-clause-idle : goal.returns-clause-idle
returns-clause-idle c =
    let old = c.args.self.now.talk in
    let new : Talk = record old { sessions = c.try_end.new.self } in
    (told-rests c.args.number old new c.try_end.result [] c.try_end.ensures).idle

pub returns-clause-still : goal.returns-clause-still
returns-clause-still c =
    let old = c.args.self.now.talk in
    let new : Talk = record old { sessions = c.try_end.new.self } in
    (told-goes 0 c.args.number old new c.try_end.result [] c.try_end.ensures).still
