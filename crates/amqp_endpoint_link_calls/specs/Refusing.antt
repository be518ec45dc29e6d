-- Why messages of an endpoint's links aren't disposed of: part 2, 2.6.12, 2.7.6.
use Rattle.std.specs.Prelude.{◌≡◌, ℕ, ◌==◌, ◌||◌, ◌++◌, Bool, true, false, List, [], ◌∷◌, length, nat_le, Option, Some}
use Rattle.std.specs.Prelude.{None, Result, Ok, Err, if◌then◌else◌, ⊤}
use Rattle.amqp_link_receiver.specs.Numbering.{tag_of}
use Rattle.amqp_link_receiver.specs.declared.disposable.Disposable.{Disposable}
use Rattle.amqp_link_receiver.specs.declared.disposable.DisposeRefusal.{DisposeRefusal}
use Rattle.amqp_link_receiver.specs.declared.disposable.DisposeRefusal.TheVariants as refusal
use Rattle.amqp_link_receiver.specs.Disposing.{disposable_now}
use Rattle.amqp_link_receiver.specs.State.{ReceiverState}
use Rattle.amqp_link.specs.declared.end.End.{End}
use Rattle.amqp_link.specs.declared.end.End.TheVariants.{Receiver}
use Rattle.amqp_endpoint_tables.specs.LinkState.{place_at}
use Rattle.amqp_endpoint_model.specs.declared.call.Disposal.{Disposal}
use Rattle.amqp_endpoint_model.specs.declared.error.EndpointError.{EndpointError}
use Rattle.amqp_endpoint_model.specs.declared.error.EndpointError.TheVariants.{AlreadyDisposed, FrameTooLarge}
use Rattle.amqp_endpoint_model.specs.declared.error.EndpointError.TheVariants.{IllegalState, Memory, NotAssociated}
use Rattle.amqp_endpoint_model.specs.declared.error.EndpointError.TheVariants.{UnknownLink, UnknownMessage}
use Rattle.amqp_endpoint_attached.specs.Receiving.{is_receiving}
use Rattle.amqp_endpoint_messages.specs.Refusals.{IsTooLong, one_fits}
use Rattle.amqp_endpoint_link_calls.specs.Places.{LinksBy, LinkTalk, Where, end_held, end_of}
use Rattle.amqp_endpoint_link_calls.specs.Keeping.{kept_tag, kept_tags, one_keeps}

-- the message is among those that were named before it
abbrev pub is_among : ℕ → List ℕ → Bool
is_among message [] = false
is_among message (first ∷ others) = (first == message) || is_among message others

-- a delivery has a number in the present attachment of its link only while that is attached
abbrev pub while_attached : Bool → Result Disposable DisposeRefusal → Result Disposable DisposeRefusal
while_attached attached (Err why) = Err why
while_attached true (Ok delivery) = Ok delivery
while_attached false (Ok delivery) = Err refusal.NotAssociated

-- what the delivery with a tag, if the link keeps one, is disposed of by, or why it can't be
abbrev pub disposable_under : ReceiverState → Bool → Option (List ℕ) → Result Disposable DisposeRefusal
disposable_under r attached None = Err refusal.NotKept
disposable_under r attached (Some tag) = while_attached attached (disposable_now r tag)

-- what a message is disposed of by, behind those that are named before it: one that was named before is disposed of
-- already
abbrev pub disposable_behind : ReceiverState → Bool → List ℕ → ℕ → Result Disposable DisposeRefusal
disposable_behind r attached before message =
    if is_among message before then Err refusal.AlreadyDisposed
    else disposable_under r attached (tag_of r.end.unsettled message)

-- a message that can't be disposed of, by its number, and why it can't
abbrev pub Refused : Type 0
Refused = ℕ × DisposeRefusal

-- the message is the first that can't be disposed of, where it can't, and else the first of those behind it
abbrev pub or_behind : ℕ → Result Disposable DisposeRefusal → Option Refused → Option Refused
or_behind message (Err why) behind = Some (message, why)
or_behind message (Ok delivery) behind = behind

-- the first of the messages that can't be disposed of, behind those that are named before them
abbrev pub first_refused : ReceiverState → Bool → List ℕ → List ℕ → Option Refused
first_refused r attached before [] = None
first_refused r attached before (message ∷ messages) =
    or_behind message (disposable_behind r attached before message)
    (first_refused r attached (before ++ message ∷ []) messages)

-- what a link says of the messages, before they are disposed of: only a receiving link disposes of any
abbrev pub said_of : Option End → Bool → List ℕ → Result (Option Refused) EndpointError
said_of (Some (Receiver r)) attached messages = Ok (first_refused r attached [] messages)
said_of link attached messages = Err IllegalState

-- likewise by where it is: it is attached only where a session holds it
abbrev pub said_at : LinkTalk → Where → List ℕ → Result (Option Refused) EndpointError
said_at talk None messages = Err UnknownLink
said_at talk (Some place) messages = said_of (end_of talk (Some place)) (is_receiving (end_held talk place)) messages

-- of a message that its link doesn't keep: its number was never given, or another link keeps it; any other was disposed
-- of before
abbrev pub of_none_kept : ℕ → Bool → ℕ → EndpointError
of_none_kept given elsewhere message =
    if nat_le given message || elsewhere then UnknownMessage else AlreadyDisposed

-- what a message that can't be disposed of is refused with
abbrev pub error_of : LinkTalk → LinksBy → ℕ → Refused → EndpointError
error_of talk links given (message, refusal.NotKept) =
    of_none_kept given (one_keeps talk links (length links.links) message) message
error_of talk links given (message, refusal.AlreadyDisposed) = AlreadyDisposed
error_of talk links given (message, refusal.NotAssociated) = NotAssociated

-- what the messages are refused with for what they are: what the link says, then what the first message says that can't
-- be disposed of
abbrev pub refusal_by : LinkTalk → LinksBy → ℕ → Result (Option Refused) EndpointError → Option EndpointError
refusal_by talk links given (Err why) = Some why
refusal_by talk links given (Ok (Some refused)) = Some (error_of talk links given refused)
refusal_by talk links given (Ok None) = None

-- what these messages of the link with this number are refused with for that, if they are: so many numbers were given
abbrev pub refusal_of : LinkTalk → LinksBy → ℕ → ℕ → List ℕ → Option EndpointError
refusal_of talk links given link messages =
    refusal_by talk links given (said_at talk (place_at links link) messages)

-- of the Dispositions that would tell the state of these messages of a link one doesn't fit the limit (part 2, 2.4.1,
-- 2.7.6)
abbrev pub AreTooLong : ℕ → Option End → List ℕ → Disposal → Type 0
AreTooLong limit link messages disposal =
    IsTooLong limit link (kept_tags link messages) disposal.state disposal.settled

-- the Disposition that would tell the state of one message fits the limit; of one that the link doesn't keep there is
-- none
abbrev pub tag_fits : ℕ → Option End → Option (List ℕ) → Disposal → Bool
tag_fits limit link None disposal = true
tag_fits limit link (Some tag) disposal = one_fits limit link tag disposal.state disposal.settled

abbrev pub message_fits : ℕ → Option End → ℕ → Disposal → Bool
message_fits limit link message disposal = tag_fits limit link (kept_tag link message) disposal

-- why messages aren't disposed of that can be: a Disposition that would go doesn't fit, or there is no memory
abbrev pub BarsTelling : Type 0 → EndpointError → Type 0
BarsTelling TooLong FrameTooLarge = TooLong
BarsTelling TooLong Memory = ⊤
BarsTelling TooLong e = ⊥

-- why one isn't: its Disposition doesn't fit, and then there is no memory
abbrev pub BarsTellingOne : Bool → EndpointError → Type 0
BarsTellingOne fit FrameTooLarge = fit ≡ false
BarsTellingOne fit Memory = fit ≡ true
BarsTellingOne fit e = ⊥

-- what is left to refuse messages that can be disposed of
abbrev pub too_large_or_memory : EndpointError → EndpointError
too_large_or_memory FrameTooLarge = FrameTooLarge
too_large_or_memory e = Memory

-- they are refused for what they are, and else for that: of no message nothing is told, and no memory is wanted
abbrev pub RefusesBy : Option EndpointError → List ℕ → Type 0 → EndpointError → Type 0
RefusesBy (Some why) messages TooLong e = e ≡ why
RefusesBy None [] TooLong e = ⊥
RefusesBy None (message ∷ messages) TooLong e = BarsTelling TooLong e

-- so is one
abbrev pub RefusesOneBy : Option EndpointError → Bool → EndpointError → Type 0
RefusesOneBy (Some why) fit e = e ≡ why
RefusesOneBy None fit e = BarsTellingOne fit e

-- why these messages of the link with this number aren't disposed of
abbrev pub BarsDisposing : ℕ → LinkTalk → LinksBy → ℕ → ℕ → List ℕ → Disposal → EndpointError → Type 0
BarsDisposing limit talk links given link messages disposal e =
    RefusesBy (refusal_of talk links given link messages) messages
    (AreTooLong limit (end_of talk (place_at links link)) messages disposal) e

-- why one of them isn't
abbrev pub BarsDisposingOne : ℕ → LinkTalk → LinksBy → ℕ → ℕ → ℕ → Disposal → EndpointError → Type 0
BarsDisposingOne limit talk links given link message disposal e =
    RefusesOneBy (refusal_of talk links given link (message ∷ []))
    (message_fits limit (end_of talk (place_at links link)) message disposal) e
