use Rattle.amqp_endpoint_laws.proofs.Following.{accepts-follow, answer-follows, begin-barred, begin-follows}
use Rattle.amqp_endpoint_laws.proofs.Following.{begins-follow, end-follows, ends-follow, flow-follows}
use Rattle.amqp_endpoint_laws.proofs.Following.{inside-follows}
use Rattle.amqp_endpoint_laws.proofs.reading.what_is_done_is_read.Goals as goal

pub returns-clause-begins : goal.returns-clause-begins
returns-clause-begins g c = λ old new number frames b. begins-follow g.R.LinkRelay.gives old new number frames b

pub returns-clause-accepts : goal.returns-clause-accepts
returns-clause-accepts g c = λ old new channel number frames a stands.
    accepts-follow g.R.LinkRelay.gives old new channel number frames a stands

pub returns-clause-ends : goal.returns-clause-ends
returns-clause-ends g c = λ old new number error session frames e. ends-follow old new number error session frames e

pub returns-clause-takes_begin : goal.returns-clause-takes_begin
returns-clause-takes_begin g c = λ old new channel begin heard frames b.
    begin-follows g.R.LinkRelay.gives old new channel begin heard frames b

pub returns-clause-bars_begin : goal.returns-clause-bars_begin
returns-clause-bars_begin g c = λ old new channel begin number fault frames b.
    begin-barred g.R.LinkRelay.gives old new channel begin number fault frames b

pub returns-clause-takes_end : goal.returns-clause-takes_end
returns-clause-takes_end g c = λ old new channel end heard frames e. end-follows old new channel end heard frames e

pub returns-clause-hears : goal.returns-clause-hears
returns-clause-hears g c = λ old new channel it said result frames is a.
    answer-follows g.R.LinkRelay.gives old new channel it said result frames is a

pub returns-clause-tells : goal.returns-clause-tells
returns-clause-tells g c = λ old new number frames t. flow-follows g.R.LinkRelay.gives old new number frames t

pub returns-clause-within : goal.returns-clause-within
returns-clause-within g c = λ old new number before after frames s no.
    inside-follows old.sessions new.sessions number before after frames s no
