use Rattle.amqp_session_core.proofs.Owning.{own-history}
use Rattle.amqp_session_core.proofs.Keeping.{owner-keeps}
use Rattle.amqp_session_core.proofs.laws.each_link_changes_as_its_owner_keeps.Goals as goal

pub returns : goal.returns
returns g c = λ start end steps run keep link old has f.
    let own = own-history g.R.LinkRelay.gives link old steps start end run f has in
    (own.new, own.stands, own.run, owner-keeps _ _ _ _ g.O.LinkOwner.keeps link steps keep)
