-- What a script prints: a line for each step, and for each of its events.
use Rattle.std.specs.Prelude.{ℕ, ◌==◌, Bool, true, false, List, [], ◌∷◌, ◌++◌, length, Option, Some, None}
use Rattle.std.specs.Prelude.{Result, Ok, Err, if◌then◌else◌, codes, decimal}
use Rattle.hex.specs.Hex.{encode_lower}
use Rattle.amqp_link_base.specs.declared.exchange.AttachExchange.{AttachExchange}
use Rattle.amqp_link_base.specs.declared.exchange.AttachExchange.TheVariants.{Complete, IncompleteUnsettled, Resume}
use Rattle.amqp_link_types.specs.declared.refusals.SendError.{SendError}
use Rattle.amqp_session_states.specs.declared.outcome.Outcome.{Outcome}
use Rattle.amqp_session_states.specs.declared.outcome.Outcome.TheVariants.{Accepted, Rejected, Released, Modified}
use Rattle.amqp_session_types.specs.declared.modes.Role.{Role}
use Rattle.amqp_session_types.specs.declared.modes.Role.TheVariants.{Sender, Receiver}
use Rattle.amqp_endpoint_model.specs.declared.error.EndpointError.{EndpointError}
use Rattle.amqp_endpoint_model.specs.declared.event.Event.{Event}
use Rattle.amqp_endpoint_model.specs.declared.event.Event.TheVariants as event
use Rattle.amqp_endpoint_model.specs.Numbers.{number}
use Rattle.amqp_endpoint_model.specs.Said.{Said, done, refused, fed, pulled, count, truth, tried_close, session_begun}
use Rattle.amqp_endpoint_model.specs.Said.{tried_end, attaching, link_closed, credit_is, waiting, message_sent, Told}
use Rattle.amqp_endpoint_core.specs.declared.step.End.{End}
use Rattle.amqp_endpoint_core.specs.declared.step.End.TheVariants.{A}
use Rattle.amqp_endpoint_core.specs.declared.step.Step.{Step}
use Rattle.amqp_endpoint_core.specs.declared.step.Step.TheVariants as world
use Rattle.amqp_endpoint_core.specs.WorldSaid.{WorldSaid, WorldTold, called, moved, broken}
use Rattle.amqp_endpoint_core.specs.WorldState.{other}
use Rattle.amqp_endpoint_scripts.specs.Script.{letter}

-- a line feed
abbrev pub line_end : List ℕ
line_end = 10 ∷ []

-- a line of the script, an end, and what this is told of it
abbrev pub of_line : ℕ → End → List ℕ → List ℕ
of_line line end text = decimal line ++ (codes " " ++ (letter end ++ (codes " " ++ (text ++ line_end))))

abbrev pub ok_text : ℕ → End → List ℕ
ok_text line end = of_line line end (codes "ok")

-- bytes in hex digits, `-` where there is none
unfoldable pub hex_word : List ℕ → List ℕ
hex_word bytes = if length bytes == 0 then codes "-" else encode_lower bytes

abbrev pub bytes_text : ℕ → End → List ℕ → List ℕ
bytes_text line end bytes = of_line line end (codes "ok bytes " ++ hex_word bytes)

-- a tag in hex digits
abbrev pub tag_text : ℕ → End → List ℕ → List ℕ
tag_text line end tag = of_line line end (codes "ok tag " ++ hex_word tag)

-- a word, and two numbers
abbrev pub two_numbers : List ℕ → ℕ → ℕ → List ℕ
two_numbers word first second = word ++ (codes " " ++ (decimal first ++ (codes " " ++ decimal second)))

-- the role of who asks for a link
abbrev pub role_word : Role → List ℕ
role_word Sender = codes "sender"
role_word Receiver = codes "receiver"

-- what is to be done for the deliveries of a link that are unsettled
abbrev pub exchange_word : AttachExchange → List ℕ
exchange_word Complete = codes "complete"
exchange_word IncompleteUnsettled = codes "incomplete"
exchange_word Resume = codes "resume"

-- whether a link that was detached was closed
abbrev pub closed_word : Bool → List ℕ
closed_word true = codes "closed"
closed_word false = codes "detached"

-- a link's number, `-` where there is none
abbrev pub link_word : Option ℕ → List ℕ
link_word None = codes "-"
link_word (Some link) = decimal link

-- whether the sender of a message has settled it
abbrev pub settled_word : Bool → List ℕ
settled_word true = codes "settled"
settled_word false = codes "unsettled"

-- the outcome of a message that was sent, or that it has none (part 3, 3.4)
abbrev pub outcome_word : Result Outcome SendError → List ℕ
outcome_word (Ok (Accepted a)) = codes "accepted"
outcome_word (Ok (Rejected r)) = codes "rejected"
outcome_word (Ok (Released r)) = codes "released"
outcome_word (Ok (Modified m)) = codes "modified"
outcome_word (Err e) = codes "failed"

-- what an event says
abbrev pub event_words : Event → List ℕ
event_words (event.Opened o) = two_numbers (codes "opened") o.max_frame_size o.channel_max
event_words (event.SessionAsked s) = two_numbers (codes "session-asked") s.session (s.channel).0
event_words (event.Begun s) = two_numbers (codes "begun") s.session (s.channel).0
event_words (event.LinkAsked l) =
    codes "link-asked "
    ++ (decimal l.session ++ (codes " " ++ (role_word (l.attach).role ++ (codes " " ++ (l.attach).name))))
event_words (event.Attached a) = codes "attached " ++ (decimal a.link ++ (codes " " ++ exchange_word a.exchange))
event_words (event.Message m) =
    codes "message "
    ++ (decimal m.link ++ (codes " " ++ (decimal m.message ++ (codes " " ++ (settled_word m.settled
    ++ (codes " " ++ (hex_word (m.delivery).delivery_tag
    ++ (codes " " ++ hex_word (((m.delivery).message).body).0))))))))
event_words (event.Outcome o) =
    codes "outcome "
    ++ (decimal o.link ++ (codes " " ++ (hex_word o.tag ++ (codes " " ++ outcome_word o.result))))
event_words (event.Detached d) = codes "detached " ++ (decimal d.link ++ (codes " " ++ closed_word d.closed))
event_words (event.Ended s) = codes "ended " ++ decimal s.session
event_words (event.Refused r) =
    codes "refused "
    ++ (decimal r.session ++ (codes " " ++ (link_word r.link ++ (codes " " ++ decimal (number r.error)))))
event_words (event.Closed c) = codes "closed"

abbrev pub event_text : ℕ → End → Event → List ℕ
event_text line end it = of_line line end (event_words it)

abbrev pub events_text : ℕ → End → List Event → List ℕ
events_text line end [] = []
events_text line end (it ∷ events) = event_text line end it ++ events_text line end events

abbrev pub fault_text : ℕ → End → Option EndpointError → List ℕ
fault_text line end (Some e) = of_line line end (codes "fault " ++ decimal (number e))
fault_text line end None = []

-- links in turn, each with how many of its transfers wait
abbrev pub turn_words : List (ℕ × ℕ) → List ℕ
turn_words [] = []
turn_words (it ∷ turn) = codes " " ++ (decimal it.0 ++ (codes ":" ++ (decimal it.1 ++ turn_words turn)))

-- `-` where none waits
abbrev pub turn_text : List (ℕ × ℕ) → List ℕ
turn_text [] = codes " -"
turn_text (it ∷ turn) = turn_words (it ∷ turn)

-- what is printed of a step on this line, at this end: its answer, and behind it the events and the fault
abbrev pub step_text : ℕ → End → Said → List ℕ
step_text line end (refused e) = of_line line end (codes "refused " ++ decimal (number e))
step_text line end (fed events fault) = ok_text line end ++ (events_text line end events ++ fault_text line end fault)
step_text line end (pulled None) = of_line line end (codes "ok none")
step_text line end (pulled (Some bytes)) = bytes_text line end bytes
step_text line end (session_begun session) = of_line line end (codes "ok session " ++ decimal session)
step_text line end (attaching link events) =
    of_line line end (codes "ok link " ++ decimal link) ++ events_text line end events
step_text line end (link_closed events) = ok_text line end ++ events_text line end events
step_text line end (credit_is left) = of_line line end (codes "ok left " ++ decimal left)
step_text line end (waiting turn) = of_line line end (codes "ok turn" ++ turn_text turn)
step_text line end (message_sent tag outcome) = tag_text line end tag
step_text line end done = ok_text line end
step_text line end (count n) = ok_text line end
step_text line end (truth b) = ok_text line end
step_text line end (tried_close e) = ok_text line end
step_text line end (tried_end e) = ok_text line end

-- steps of one end on these lines are answered so
abbrev pub printed : List ℕ → List Told → List ℕ
printed (line ∷ lines) (told ∷ tolds) = step_text line A told.answer ++ printed lines tolds
printed lines tolds = []

-- what is printed of a step of two ends: of a call at its end, of bytes that are moved at the end that they are fed to
abbrev pub world_text : ℕ → Step → WorldSaid → List ℕ
world_text line (world.Call end call) (called answer) = step_text line end answer
world_text line (world.Move end n) (moved bytes answer) = step_text line (other end) answer
world_text line world.Break broken = decimal line ++ (codes " ok" ++ line_end)
world_text line step did = []

abbrev pub world_printed : List ℕ → List Step → List WorldTold → List ℕ
world_printed (line ∷ lines) (step ∷ steps) (told ∷ tolds) =
    world_text line step told.did ++ world_printed lines steps tolds
world_printed lines steps tolds = []
