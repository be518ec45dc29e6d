-- What a receiving link of an endpoint hands out, and which transfers reach it (part 2, 2.6.2, 2.6.12, 2.6.14).
use Rattle.std.specs.Prelude.{◌≡◌, ◌==◌, ◌&&◌, ℕ, Bool, true, false, List, [], ◌∷◌, ◌++◌, Option, Some, None}
use Rattle.std.specs.Prelude.{if◌then◌else◌}
use Rattle.amqp_session_types.specs.declared.handles.OutputHandle.{OutputHandle}
use Rattle.amqp_session_core.specs.State.{reached as link_reached}
use Rattle.amqp_session_frames.specs.declared.frame.FrameBody.{FrameBody}
use Rattle.amqp_session_frames.specs.declared.frame.FrameBody.TheVariants as body
use Rattle.amqp_link_base.specs.State.{is_attached}
use Rattle.amqp_link.specs.declared.end.End.TheVariants.{Receiver}
use Rattle.amqp_link_message.specs.declared.delivery.Delivery.{Delivery}
use Rattle.amqp_link_message.specs.declared.raw.Raw.{Raw}
use Rattle.amqp_link_base.specs.Readings.{Piece}
use Rattle.amqp_link_base.specs.Said.{Said}
use Rattle.amqp_link_receiver.specs.State.{ReceiverState}
use Rattle.amqp_link_receiver.specs.Deliveries.{Delivery as Incoming}
use Rattle.amqp_link_receiver.specs.Readings.{message_said}
use Rattle.amqp_link_receiver.specs.declared.answer.Message.{Message as Whole}
use Rattle.amqp_endpoint_laws.specs.Deeds.{Deed, IsDeed, Takes}
use Rattle.amqp_endpoint_link_calls.specs.Places.{end_held}
use Rattle.amqp_endpoint_link_hearing.specs.Transferring.{delivery_of}
use Rattle.amqp_endpoint.specs.Does.{linked}
use Rattle.amqp_endpoint.specs.declared.linked.LinkedSessions.{LinkedSessions}
use Rattle.amqp_endpoint_linking.specs.Linking.{Session}
use Rattle.amqp_endpoint_model.specs.declared.event.Event.{Event}
use Rattle.amqp_endpoint_model.specs.declared.event.Event.TheVariants.{Message}
use Rattle.amqp_endpoint_tables.specs.declared.link_place.LinkPlace.TheVariants.{Held}
use Rattle.amqp_endpoint_tables.specs.State.{live_at, reached}
use Rattle.amqp_endpoint_conversation.specs.Windows.{Passing}
use Rattle.amqp_endpoint_laws.specs.Held.{number_at}
use Rattle.amqp_endpoint_laws.specs.Passed.{came_in, is_it, passes_in}

-- in a session that goes on the receiving link with this number has this own handle, and is attached, and this is the
-- delivery of which transfers are still to come to it, if there is one (part 2, 2.6.2, 2.6.3, 2.6.14)
pub record IsReceiving (s : LinkedSessions) (link session : ℕ) (own : OutputHandle) (held : Option Incoming) : Type 0
  where
    pub numbered : number_at s.talk.sessions session own.0 ≡ Some link
    pub end : ReceiverState
    pub there : end_held s.talk (Held session own) ≡ Some (Receiver end)
    pub attached : is_attached end.base.local_state ≡ true
    pub holds : end.end.held ≡ held

-- in a session that goes on a handle of the peer's leads to the link with this own handle (part 2, 2.6.2)
abbrev pub leads_there : Option Session → ℕ → OutputHandle → Bool
leads_there None theirs own = false
leads_there (Some session) theirs own = is_it (link_reached session.value.session theirs) own.0

-- the transfer that reaches this link of a session: the peer's, whose channel leads to the session, and whose handle to
-- the link
abbrev pub piece_of : LinkedSessions → ℕ → OutputHandle → ℕ → FrameBody → List Piece
piece_of s session own channel (body.Transfer transfer payload) =
    if is_it (reached s.talk.sessions channel) session
    && leads_there (live_at s.talk.sessions session) transfer.handle.0 own
    then record { performative = transfer; payload = payload } ∷ [] else []
piece_of s session own channel it = []

abbrev pub pieces_in : ℕ → OutputHandle → LinkedSessions → Deed → List Piece
pieces_in session own s (Takes limit frame frames events) = piece_of s session own frame.channel frame.body
pieces_in session own s deed = []

-- deeds are done one after the other, by each of which the link stays attached as it is, and these transfers reach it
abbrev pub ReachIn : (link session : ℕ) → OutputHandle → LinkedSessions → List Deed → LinkedSessions → List Piece
    → Type 0
ReachIn link session own old [] new pieces = (new ≡ old) × (pieces ≡ [])
ReachIn link session own old (deed ∷ deeds) new pieces =
    (mid : LinkedSessions) × (held : Option Incoming) × (later : List Piece) × IsDeed linked old deed mid
    × IsReceiving mid link session own held × ReachIn link session own mid deeds new later
    × (pieces ≡ pieces_in session own old deed ++ later)

-- among what passes in a session, the transfers on a handle of the peer's, in order
abbrev pub piece_on : ℕ → FrameBody → List Piece
piece_on theirs (body.Transfer transfer payload) =
    if transfer.handle.0 == theirs then record { performative = transfer; payload = payload } ∷ [] else []
piece_on theirs it = []

abbrev pub pieces_come : ℕ → List FrameBody → List Piece
pieces_come theirs [] = []
pieces_come theirs (it ∷ others) = piece_on theirs it ++ pieces_come theirs others

abbrev pub pieces_on : ℕ → List Passing → List Piece
pieces_on theirs passings = pieces_come theirs (came_in passings)

-- deeds are done one after the other, by each of which the link stays attached as it is, and before each of which this
-- handle leads to it; and this passes in its session by them
abbrev pub PassesOn : (link session : ℕ) → OutputHandle → ℕ → LinkedSessions → List Deed → LinkedSessions
    → List Passing → Type 0
PassesOn link session own theirs old [] new passings = (new ≡ old) × (passings ≡ [])
PassesOn link session own theirs old (deed ∷ deeds) new passings =
    (mid : LinkedSessions) × (held : Option Incoming) × (later : List Passing)
    × (leads_there (live_at old.talk.sessions session) theirs own ≡ true)
    × IsDeed linked old deed mid × IsReceiving mid link session own held
    × PassesOn link session own theirs mid deeds new later × (passings ≡ passes_in session old deed ++ later)

-- none of these transfers resumes a delivery (part 2, 2.6.13)
abbrev pub NoneResumes : List Piece → Type 0
NoneResumes [] = Unit {0}
NoneResumes (p ∷ pieces) = (p.performative.resume ≡ false) × NoneResumes pieces

-- a message as it is handed out by a link, but for its number
pub record Handed : Type 0 where
  pub delivery : Delivery Raw
  pub settled : Bool

abbrev pub handed_in : ℕ → Event → List Handed
handed_in link (Message it) =
    if it.link == link then record { delivery = it.delivery; settled = it.settled } ∷ [] else []
handed_in link event = []

-- those that events hand out by the link with this number, in order
abbrev pub handed_by : ℕ → List Event → List Handed
handed_by link [] = []
handed_by link (event ∷ events) = handed_in link event ++ handed_by link events

-- a message as its transfers say it, on the own handle of its link
abbrev pub handed_of : OutputHandle → Whole → Handed
handed_of own it = record { delivery = delivery_of own it; settled = it.settled }

abbrev pub handed_as : OutputHandle → Said → Handed
handed_as own said = handed_of own (message_said said)
