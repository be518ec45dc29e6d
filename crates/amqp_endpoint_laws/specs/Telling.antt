-- What an endpoint tells its owner in a run (part 2, 2.6.12, 2.8.7).
use Rattle.std.specs.Prelude.{ℕ, zero, suc, List, [], ◌∷◌, ◌++◌}
use Rattle.amqp_endpoint_model.specs.declared.event.Event.{Event}
use Rattle.amqp_endpoint_model.specs.declared.event.Event.TheVariants.{Message}
use Rattle.amqp_endpoint_model.specs.Said.{Said, Told, message_sent}

-- the tag that an answer gives: that of a message which is accepted to be sent
abbrev pub tag_given : Said → List (List ℕ)
tag_given (message_sent tag outcome) = tag ∷ []
tag_given answer = []

-- the tags of the messages that a run accepts to be sent, in order
abbrev pub tags_given : List Told → List (List ℕ)
tags_given [] = []
tags_given (t ∷ others) = tag_given t.answer ++ tags_given others

-- the number of a message that an event hands out
abbrev pub number_told : Event → List ℕ
number_told (Message it) = it.message ∷ []
number_told event = []

-- the numbers of the messages that events hand out, in order
abbrev pub numbers_told : List Event → List ℕ
numbers_told [] = []
numbers_told (event ∷ others) = number_told event ++ numbers_told others

-- the numbers under this one, from 0 on
abbrev pub numbers_under : ℕ → List ℕ
numbers_under zero = []
numbers_under (suc number) = numbers_under number ++ number ∷ []
