use Rattle.std.proofs.Common.{subst, sym}
use Rattle.amqp_endpoint_fitting.specs.Read.{IsReadBody}
use Rattle.amqp_endpoint_fitting.proofs.reading.a_frame_is_read.Goals as goal

pub returns-in-Begin : goal.returns-in-Begin
returns-in-Begin c = subst IsReadBody (sym c.in-Begin.is) c.a_begin_is_read.ensures

pub returns-in-Attach : goal.returns-in-Attach
returns-in-Attach c = subst IsReadBody (sym c.in-Attach.is) tt

pub returns-in-Flow : goal.returns-in-Flow
returns-in-Flow c = subst IsReadBody (sym c.in-Flow.is) c.a_flow_is_read.ensures

pub returns-in-Transfer : goal.returns-in-Transfer
returns-in-Transfer c = subst IsReadBody (sym c.in-Transfer.is) c.a_transfer_is_read.ensures

pub returns-in-Disposition : goal.returns-in-Disposition
returns-in-Disposition c = subst IsReadBody (sym c.in-Disposition.is) c.a_disposition_is_read.ensures

pub returns-in-Detach : goal.returns-in-Detach
returns-in-Detach c = subst IsReadBody (sym c.in-Detach.is) c.a_detach_is_read.ensures

pub returns-in-End : goal.returns-in-End
returns-in-End c = subst IsReadBody (sym c.in-End.is) tt
