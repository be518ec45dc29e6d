use Rattle.amqp_link_base.specs.Scans.{Scanned}
use Rattle.std.proofs.Common.{ap, [], take}
use Rattle.amqp_session_states.specs.declared.received.Received.{Received}
use Rattle.amqp_link_base.proofs.Scanning.{place-of}
use Rattle.amqp_link_base.proofs.scan.place.Goals as goal

pub returns : goal.returns
returns c =
    let now : Scanned c.take.new.self (take c.args.n c.args.payload.now) = c.take.ensures.scanned [] c.new-scan.ensures in
    place-of c.args.payload.now c.args.n _ c.place.result c.requires.within now (ap (λ (p : Received). p.section_number) c.place.ensures) (ap (λ (p : Received). p.section_offset) c.place.ensures)
