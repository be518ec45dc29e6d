use Rattle.std.proofs.Common.{◌∙◌}
use Rattle.amqp_session_core.proofs.Owning.{own-history}
use Rattle.amqp_session_core.proofs.Keeping.{owner-keeps}
use Rattle.amqp_endpoint_links.proofs.Calls.{freed-of, kept-of}
use Rattle.amqp_endpoint_links.proofs.Projecting.{within}
use Rattle.amqp_endpoint_links.proofs.laws.each_link_has_its_own_history.Goals as goal

pub returns : goal.returns
returns g c = λ start end steps history keep link old has live.
    let inner = within g.R.LinkRelay.gives steps start end history in
    let own = own-history g.R.LinkRelay.gives link old inner.done start.session end.session inner.run (freed-of link steps inner.done inner.are ∙ live) has in
    (inner.done, inner.are, (own.new, own.stands, own.run, owner-keeps _ _ _ _ g.O.LinkOwner.keeps link inner.done (kept-of g.O.LinkOwner.keeps steps inner.done inner.are keep)))
