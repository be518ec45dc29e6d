use Rattle.amqp_session_core.proofs.Owning.{own-history}
use Rattle.amqp_session_core.proofs.laws.each_link_has_its_own_history.Goals as goal

pub returns : goal.returns
returns g c = λ start end steps run link old has f.
    let own = own-history g.R.LinkRelay.gives link old steps start end run f has in
    (own.new, own.stands, own.run)
