-- What a disposition of the peer ends, by the session before it: part 2, 2.6.12, 2.7.6; part 3, 3.4.
use Rattle.std.specs.Prelude.{◌≡◌, ℕ, List, [], ◌∷◌, ◌++◌, ◌&&◌, Bool, false, Option, Some, None, if◌then◌else◌}
use Rattle.std.specs.Prelude.{is_some, slice_set}
use Rattle.amqp_session_types.specs.declared.modes.Role.{Role}
use Rattle.amqp_session_types.specs.declared.modes.Role.TheVariants as role
use Rattle.amqp_session_states.specs.declared.delivery_state.DeliveryState.{DeliveryState}
use Rattle.amqp_session_performatives.specs.declared.disposition.Disposition.{Disposition}
use Rattle.amqp_session_core.specs.declared.dispositions.Touched.{Touched}
use Rattle.amqp_session_core.specs.State.{link_at}
use Rattle.amqp_link_unsettled.specs.Messages.{open_at}
use Rattle.amqp_link_unsettled.specs.Resolutions.{ends, resolution_of}
use Rattle.amqp_link_unsettled.specs.declared.resolution.Resolution.{Resolution}
use Rattle.amqp_link_sender.specs.Dispositions as sender
use Rattle.amqp_link_sender.specs.Results.{send_result}
use Rattle.amqp_link_receiver.specs.Incoming as receiver
use Rattle.amqp_link.specs.declared.end.End.{End}
use Rattle.amqp_link.specs.declared.end.End.TheVariants.{Sender, Receiver}
use Rattle.amqp_endpoint_links.specs.declared.numbered.Numbered.{Numbered}
use Rattle.amqp_endpoint_model.specs.declared.event.Event.{Event}
use Rattle.amqp_endpoint_attached.specs.Linked.{LinksIn}
use Rattle.amqp_endpoint_messages.specs.Told.{outcome_told}

-- The disposition of a receiver ends the message of a sending link that has this tag, where that is open: it settles
-- it, or tells a terminal state of it. That of a sender ends none.
abbrev pub is_ended : Role → Bool → Option DeliveryState → List ℕ → End → Bool
is_ended role.Receiver settled state tag (Sender s) = is_some (open_at s.messages tag) && ends settled state
is_ended role.Receiver settled state tag (Receiver r) = false
is_ended role.Sender settled state tag end = false

-- What a disposition makes of an end of a link, as it reaches the delivery with this tag there.
abbrev pub end_disposed : Role → Bool → Option DeliveryState → List ℕ → End → End
end_disposed role.Receiver settled state tag (Sender s) = Sender (sender.disposed s tag settled state)
end_disposed role.Receiver settled state tag (Receiver r) = Receiver r
end_disposed role.Sender settled state tag (Sender s) = Sender s
end_disposed role.Sender settled state tag (Receiver r) = Receiver (receiver.disposed r tag settled)

-- Of a message that ends so its link tells the tag, and the result of the disposition's state.
abbrev pub ended_told : Disposition → List ℕ → Option (Numbered End) → List Event
ended_told it tag None = []
ended_told it tag (Some link) =
    if is_ended it.role it.settled it.state tag link.link then
    outcome_told link.number tag (send_result None (resolution_of it.state)) else []

-- The session behind one delivery that a disposition reached: nothing changes but its link.
abbrev pub link_disposed : Disposition → LinksIn → ℕ → List ℕ → Option (Numbered End) → LinksIn
link_disposed it s handle tag None = s
link_disposed it s handle tag (Some link) =
    record s {
      links = slice_set s.links handle
          (Some (record link { link = end_disposed it.role it.settled it.state tag link.link }));
    }

abbrev pub one_disposed : Disposition → LinksIn → Touched → LinksIn
one_disposed it s delivery = link_disposed it s delivery.handle.0 delivery.tag (link_at s delivery.handle.0)

-- For each delivery that it reaches, in their order, the outcome of the message that it ends is told, if it ends one.
abbrev pub outcomes_told : Disposition → LinksIn → List Touched → List Event
outcomes_told it s [] = []
outcomes_told it s (delivery ∷ rest) =
    ended_told it delivery.tag (link_at s delivery.handle.0) ++ outcomes_told it (one_disposed it s delivery) rest

-- The messages of a link that ended and that it hasn't told yet. A receiving link has none.
abbrev pub end_untold : End → List (List ℕ × Resolution)
end_untold (Sender s) = s.messages.resolved
end_untold (Receiver r) = []

abbrev pub link_untold : Option (Numbered End) → List (List ℕ × Resolution)
link_untold None = []
link_untold (Some link) = end_untold link.link

-- No link of a session has any.
abbrev pub NoneUntold : LinksIn → Type 0
NoneUntold s = (handle : ℕ) → link_untold (link_at s handle) ≡ []
