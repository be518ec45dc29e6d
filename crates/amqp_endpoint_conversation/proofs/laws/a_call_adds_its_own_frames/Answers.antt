use Rattle.amqp_endpoint_conversation.proofs.Alone.{accepted-alone, answer-alone, begin-alone, begun-alone, end-alone}
use Rattle.amqp_endpoint_conversation.proofs.Alone.{ended-alone, flow-alone}
use Rattle.amqp_endpoint_conversation.proofs.laws.a_call_adds_its_own_frames.Goals as goal

pub returns-clause-begun : goal.returns-clause-begun
returns-clause-begun g c = λ old new number out out_new frames is t.
    begun-alone g.R.LinkRelay.gives old new number out out_new frames is t

pub returns-clause-accepted : goal.returns-clause-accepted
returns-clause-accepted g c = λ old new channel number out out_new frames is t.
    accepted-alone g.R.LinkRelay.gives old new channel number out out_new frames is t

pub returns-clause-ended : goal.returns-clause-ended
returns-clause-ended g c = λ old new number error session out out_new frames is t.
    ended-alone old new number error session out out_new frames is t

pub returns-clause-begin_heard : goal.returns-clause-begin_heard
returns-clause-begin_heard g c = λ old new channel begin result out out_new frames is t.
    begin-alone g.R.LinkRelay.gives old new channel begin result out out_new frames is t

pub returns-clause-end_heard : goal.returns-clause-end_heard
returns-clause-end_heard g c = λ old new channel end result out out_new frames is t.
    end-alone old new channel end result out out_new frames is t

pub returns-clause-heard : goal.returns-clause-heard
returns-clause-heard g c = λ old new channel said result out out_new frames is t.
    answer-alone g.R.LinkRelay.gives old new channel said result out out_new frames is t

pub returns-clause-told : goal.returns-clause-told
returns-clause-told g c = λ old new number out out_new frames is t.
    flow-alone g.R.LinkRelay.gives old new number out out_new frames is t
