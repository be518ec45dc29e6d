use Rattle.std.proofs.Common.{refl}
use Rattle.amqp_session_performatives.proofs.Reading.{arm_took, arm_refused}
use Rattle.amqp_session_performatives.specs.Open.{open_takes}
use Rattle.amqp_session_performatives.specs.Begin.{begin_takes}
use Rattle.amqp_session_performatives.specs.Attach.{attach_takes}
use Rattle.amqp_session_performatives.specs.Flow.{flow_takes}
use Rattle.amqp_session_performatives.specs.Transfer.{transfer_takes}
use Rattle.amqp_session_performatives.specs.Disposition.{disposition_takes}
use Rattle.amqp_session_performatives.specs.Detach.{detach_takes}
use Rattle.amqp_session_performatives.specs.End.{end_takes}
use Rattle.amqp_session_performatives.specs.Close.{close_takes}
use Rattle.amqp_session_performatives.specs.Performative.{performative_table}
use Rattle.amqp_session_performatives.proofs.performative.PerformativeChoice.read_fields.Goals as goal

pub returns-in-16-clause-ok : goal.returns-in-16-clause-ok
returns-in-16-clause-ok g c = arm_took c.read_as.result performative_table c.args.code 0x10 open_takes _ _ c.in-16.is c.read_as.ensures.ok refl

pub returns-in-16-clause-refused : goal.returns-in-16-clause-refused
returns-in-16-clause-refused g c = arm_refused g.R.Read.faulty c.read_as.result performative_table c.args.code 0x10 open_takes _ c.in-16.is c.read_as.ensures.refused refl

pub returns-in-17-clause-ok : goal.returns-in-17-clause-ok
returns-in-17-clause-ok g c = arm_took c.read_as-in-17.result performative_table c.args.code 0x11 begin_takes _ _ c.in-17.is c.read_as-in-17.ensures.ok refl

pub returns-in-17-clause-refused : goal.returns-in-17-clause-refused
returns-in-17-clause-refused g c = arm_refused g.R.Read.faulty c.read_as-in-17.result performative_table c.args.code 0x11 begin_takes _ c.in-17.is c.read_as-in-17.ensures.refused refl

pub returns-in-18-clause-ok : goal.returns-in-18-clause-ok
returns-in-18-clause-ok g c = arm_took c.read_attach.result performative_table c.args.code 0x12 attach_takes _ _ c.in-18.is c.read_attach.ensures.ok refl

pub returns-in-18-clause-refused : goal.returns-in-18-clause-refused
returns-in-18-clause-refused g c = arm_refused g.R.Read.faulty c.read_attach.result performative_table c.args.code 0x12 attach_takes _ c.in-18.is c.read_attach.ensures.refused refl

pub returns-in-19-clause-ok : goal.returns-in-19-clause-ok
returns-in-19-clause-ok g c = arm_took c.read_as-in-19.result performative_table c.args.code 0x13 flow_takes _ _ c.in-19.is c.read_as-in-19.ensures.ok refl

pub returns-in-19-clause-refused : goal.returns-in-19-clause-refused
returns-in-19-clause-refused g c = arm_refused g.R.Read.faulty c.read_as-in-19.result performative_table c.args.code 0x13 flow_takes _ c.in-19.is c.read_as-in-19.ensures.refused refl

pub returns-in-20-clause-ok : goal.returns-in-20-clause-ok
returns-in-20-clause-ok g c = arm_took c.read_as-in-20.result performative_table c.args.code 0x14 transfer_takes _ _ c.in-20.is c.read_as-in-20.ensures.ok refl

pub returns-in-20-clause-refused : goal.returns-in-20-clause-refused
returns-in-20-clause-refused g c = arm_refused g.R.Read.faulty c.read_as-in-20.result performative_table c.args.code 0x14 transfer_takes _ c.in-20.is c.read_as-in-20.ensures.refused refl

pub returns-in-21-clause-ok : goal.returns-in-21-clause-ok
returns-in-21-clause-ok g c = arm_took c.read_as-in-21.result performative_table c.args.code 0x15 disposition_takes _ _ c.in-21.is c.read_as-in-21.ensures.ok refl

pub returns-in-21-clause-refused : goal.returns-in-21-clause-refused
returns-in-21-clause-refused g c = arm_refused g.R.Read.faulty c.read_as-in-21.result performative_table c.args.code 0x15 disposition_takes _ c.in-21.is c.read_as-in-21.ensures.refused refl

pub returns-in-22-clause-ok : goal.returns-in-22-clause-ok
returns-in-22-clause-ok g c = arm_took c.read_as-in-22.result performative_table c.args.code 0x16 detach_takes _ _ c.in-22.is c.read_as-in-22.ensures.ok refl

pub returns-in-22-clause-refused : goal.returns-in-22-clause-refused
returns-in-22-clause-refused g c = arm_refused g.R.Read.faulty c.read_as-in-22.result performative_table c.args.code 0x16 detach_takes _ c.in-22.is c.read_as-in-22.ensures.refused refl

pub returns-in-23-clause-ok : goal.returns-in-23-clause-ok
returns-in-23-clause-ok g c = arm_took c.read_as-in-23.result performative_table c.args.code 0x17 end_takes _ _ c.in-23.is c.read_as-in-23.ensures.ok refl

pub returns-in-23-clause-refused : goal.returns-in-23-clause-refused
returns-in-23-clause-refused g c = arm_refused g.R.Read.faulty c.read_as-in-23.result performative_table c.args.code 0x17 end_takes _ c.in-23.is c.read_as-in-23.ensures.refused refl

pub returns-in-24-clause-ok : goal.returns-in-24-clause-ok
returns-in-24-clause-ok g c = arm_took c.read_as-in-24.result performative_table c.args.code 0x18 close_takes _ _ c.in-24.is c.read_as-in-24.ensures.ok refl

pub returns-in-24-clause-refused : goal.returns-in-24-clause-refused
returns-in-24-clause-refused g c = arm_refused g.R.Read.faulty c.read_as-in-24.result performative_table c.args.code 0x18 close_takes _ c.in-24.is c.read_as-in-24.ensures.refused refl
