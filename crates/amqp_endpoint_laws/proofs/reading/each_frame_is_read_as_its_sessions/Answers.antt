use Rattle.amqp_endpoint_laws.proofs.Whose.{accepts-for, asked-for, begins-for, begun-for, end-for, ends-for}
use Rattle.amqp_endpoint_laws.proofs.Whose.{heard-for}
use Rattle.amqp_endpoint_laws.proofs.reading.each_frame_is_read_as_its_sessions.Goals as goal

pub returns-clause-begins : goal.returns-clause-begins
returns-clause-begins g c = λ base r old new number frames b agrees.
    begins-for base r g.R.LinkRelay.gives old new number frames b agrees

pub returns-clause-accepts : goal.returns-clause-accepts
returns-clause-accepts g c = λ base r old new channel number frames a agrees.
    accepts-for base r g.R.LinkRelay.gives old new channel number frames a agrees

pub returns-clause-ends : goal.returns-clause-ends
returns-clause-ends g c = λ base r old new number error session frames e tables agrees speaks.
    ends-for base r old new number error session frames e tables agrees speaks

pub returns-clause-asked : goal.returns-clause-asked
returns-clause-asked g c = λ base r old new channel begin number frames b agrees.
    asked-for base r g.R.LinkRelay.gives old new channel begin number frames b agrees

pub returns-clause-begun : goal.returns-clause-begun
returns-clause-begun g c = λ base r old new channel begin number frames b agrees.
    begun-for base r g.R.LinkRelay.gives old new channel begin number frames b agrees

pub returns-clause-ended : goal.returns-clause-ended
returns-clause-ended g c = λ base r old new channel end heard frames e agrees.
    end-for base r old new channel end heard frames e agrees

pub returns-clause-heard : goal.returns-clause-heard
returns-clause-heard g c = λ base r talk channel it is agrees. heard-for base r talk.sessions channel it is agrees
