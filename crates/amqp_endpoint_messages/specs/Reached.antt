-- What a disposition of the peer has a session tell: part 2, 2.6.12, 2.7.6; part 3, 3.4.
use Rattle.std.specs.Prelude.{ℕ, List, [], ◌∷◌, ◌++◌, Bool, false, Option, Some, None, if◌then◌else◌, slice_set}
use Rattle.std.specs.Str.{bytes_eq}
use Rattle.amqp_session_core.specs.declared.dispositions.Touched.{Touched}
use Rattle.amqp_session_core.specs.State.{link_at}
use Rattle.amqp_link_unsettled.specs.declared.resolution.Resolution.{Resolution}
use Rattle.amqp_link_sender.specs.Results.{send_result}
use Rattle.amqp_link_sender.specs.Sending.{Sending}
use Rattle.amqp_link.specs.declared.end.End.{End}
use Rattle.amqp_link.specs.declared.end.End.TheVariants.{Sender, Receiver}
use Rattle.amqp_endpoint_links.specs.declared.numbered.Numbered.{Numbered}
use Rattle.amqp_endpoint_attached.specs.Linked.{LinksIn}
use Rattle.amqp_endpoint_model.specs.declared.event.Event.{Event}
use Rattle.amqp_endpoint_messages.specs.Told.{outcome_told}

-- Whether of the messages that ended and weren't told yet the first has this tag.
abbrev pub is_first : List ℕ → List (List ℕ × Resolution) → Bool
is_first tag [] = false
is_first tag (message ∷ rest) = bytes_eq tag message.0

-- The link with this number tells the first of them, if there is one. That the peer closed the link with an error is
-- told as that it closed it: no disposition ends a message so.
abbrev pub next_told : ℕ → List (List ℕ × Resolution) → List Event
next_told number [] = []
next_told number (message ∷ rest) = outcome_told number message.0 (send_result None message.1)

-- The others are still to be told.
abbrev pub behind_next : List (List ℕ × Resolution) → List (List ℕ × Resolution)
behind_next [] = []
behind_next (message ∷ rest) = rest

-- It tells it only where it has the tag of the delivery.
abbrev pub first_told : ℕ → List ℕ → List (List ℕ × Resolution) → List Event
first_told number tag ended = if is_first tag ended then next_told number ended else []

abbrev pub behind_first : List ℕ → List (List ℕ × Resolution) → List (List ℕ × Resolution)
behind_first tag ended = if is_first tag ended then behind_next ended else ended

-- A sending link keeps the others alone.
abbrev pub without_next : Sending → Sending
without_next s = record s { messages = record s.messages { resolved = behind_next s.messages.resolved } }

abbrev pub without_first : List ℕ → Sending → Sending
without_first tag s = record s { messages = record s.messages { resolved = behind_first tag s.messages.resolved } }

-- An end of a link with this number tells so of a delivery with this tag where it sends; where it receives it tells
-- nothing.
abbrev pub end_told : ℕ → List ℕ → End → List Event
end_told number tag (Sender s) = first_told number tag s.messages.resolved
end_told number tag (Receiver r) = []

-- And this is the end behind it.
abbrev pub end_behind : List ℕ → End → End
end_behind tag (Sender s) = Sender (without_first tag s)
end_behind tag (Receiver r) = Receiver r

-- The link that has an own handle tells so, if one has it.
abbrev pub link_told : List ℕ → Option (Numbered End) → List Event
link_told tag None = []
link_told tag (Some link) = end_told link.number tag link.link

-- And this is its session behind it: nothing changes but that link.
abbrev pub link_behind : LinksIn → ℕ → List ℕ → Option (Numbered End) → LinksIn
link_behind s handle tag None = s
link_behind s handle tag (Some link) =
    record s { links = slice_set s.links handle (Some (record link { link = end_behind tag link.link })) }

-- The session behind one delivery that a disposition reached.
abbrev pub behind_one : LinksIn → Touched → LinksIn
behind_one s delivery = link_behind s delivery.handle.0 delivery.tag (link_at s delivery.handle.0)

-- For each delivery that it reached, in their order, the link that has its handle tells its message (part 2, 2.7.6).
abbrev pub reached_told : LinksIn → List Touched → List Event
reached_told s [] = []
reached_told s (delivery ∷ rest) =
    link_told delivery.tag (link_at s delivery.handle.0) ++ reached_told (behind_one s delivery) rest

-- And this is the session behind all of them.
abbrev pub behind_reached : LinksIn → List Touched → LinksIn
behind_reached s [] = s
behind_reached s (delivery ∷ rest) = behind_reached (behind_one s delivery) rest
