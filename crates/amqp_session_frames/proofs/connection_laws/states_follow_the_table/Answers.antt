use Rattle.amqp_session_frames.proofs.Following.{history_follows, refused_by_table}
use Rattle.amqp_session_frames.proofs.connection_laws.states_follow_the_table.Goals as goal

pub returns-clause-followed : goal.returns-clause-followed
returns-clause-followed c = λ start end steps run. history_follows steps start end run

pub returns-clause-refused : goal.returns-clause-refused
returns-clause-refused c = refused_by_table
