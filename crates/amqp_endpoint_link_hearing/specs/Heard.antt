-- What was heard, without what doesn't concern a link that attaches or is detached (part 2, 2.6.3, 2.6.5).
use Rattle.std.specs.Prelude.{ℕ, Option, Some, None}
use Rattle.amqp_link_base.specs.declared.detached.Detached.{Detached}
use Rattle.amqp_endpoint_links.specs.declared.asking.AttachTaken.TheVariants as attach
use Rattle.amqp_endpoint_links.specs.declared.asking.DetachTaken.TheVariants as detach
use Rattle.amqp_endpoint_links.specs.declared.hearing.PerformativeTaken.TheVariants as taken
use Rattle.amqp_endpoint_conversation.specs.declared.hearing.Heard.TheVariants.{Asked, Live}
use Rattle.amqp_endpoint_link_hearing.specs.Saying.{LinkHeard}
use Rattle.amqp_endpoint_link_hearing.specs.declared.hearing.Took.{Took}
use Rattle.amqp_endpoint_link_hearing.specs.declared.hearing.Took.TheVariants as took

-- what comes of an Attach: the peer asks for a link, or one takes it
abbrev pub attach_of : LinkHeard → Took
attach_of (Asked session) = took.Asked session
attach_of (Live session (taken.Attach attach.Asked)) = took.Asked session
attach_of (Live session (taken.Attach (attach.ByLink told))) = took.ByLink session told
attach_of heard = took.Nothing

-- a link took a Detach
abbrev pub detach_of : LinkHeard → Option (ℕ × Detached)
detach_of (Live session (taken.Detach (detach.ByLink told))) = Some (session, told)
detach_of heard = None

-- the session that took it, where one did that has begun
abbrev pub session_of : LinkHeard → Option ℕ
session_of (Live session taken) = Some session
session_of heard = None
