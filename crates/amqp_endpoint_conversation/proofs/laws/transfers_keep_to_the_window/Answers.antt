use Rattle.amqp_endpoint_conversation.proofs.HeardWindows.{hears-keep}
use Rattle.amqp_endpoint_conversation.proofs.Windows.{begin-keeps, flow-keeps, inside-keeps, set-keeps}
use Rattle.amqp_endpoint_conversation.proofs.laws.transfers_keep_to_the_window.Goals as goal

pub returns-clause-inside : goal.returns-clause-inside
returns-clause-inside g c = λ accepted frames old new d.
    inside-keeps g.R.LinkRelay.gives accepted frames old new d

pub returns-clause-opened : goal.returns-clause-opened
returns-clause-opened g c = λ channel begin base left frames old new s.
    begin-keeps g.R.LinkRelay.gives channel begin base left frames old new s

pub returns-clause-told : goal.returns-clause-told
returns-clause-told g c = λ flow link reply base left frames old new s.
    flow-keeps g.R.LinkRelay.gives flow link reply base left frames old new s

pub returns-clause-set : goal.returns-clause-set
returns-clause-set g c = λ flow base old new s. set-keeps g.R.LinkRelay.gives flow base old new s

pub returns-clause-heard : goal.returns-clause-heard
returns-clause-heard g c = λ it told frames old new memory h.
    hears-keep g.R.LinkRelay.gives it told frames old new memory h
