use Rattle.std.proofs.Common.{rules, sym, true≢false}
use Rattle.amqp_endpoint.proofs.sending.tag_of.Goals as goal

pub unreachable-requires : goal.unreachable-requires
unreachable-requires c = true≢false (sym (c.in-Err.ensures.short (search rules)))
