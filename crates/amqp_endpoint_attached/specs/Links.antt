-- The links of an endpoint in its sessions, how they are made, and their own Attach (part 2, 2.6.3, 2.7.3).
use Rattle.std.specs.Prelude.{◌≡◌, ℕ, Bool, true, false, Option, None, option_map}
use Rattle.amqp_session_types.specs.declared.handles.OutputHandle.{OutputHandle}
use Rattle.amqp_session_types.specs.declared.modes.Role.{Role}
use Rattle.amqp_session_types.specs.declared.modes.Role.TheVariants as role
use Rattle.amqp_session_performatives.specs.declared.attach.Attach.{Attach}
use Rattle.amqp_session_performatives.specs.declared.session_frame.SessionFrame.{SessionFrame}
use Rattle.amqp_session_performatives.specs.declared.session_frame.SessionFrameBody.TheVariants as body
use Rattle.amqp_session_core.specs.Frames.{frame_of}
use Rattle.amqp_session_core.specs.State.{State}
use Rattle.amqp_link_base.specs.declared.state.LinkState.{LinkState}
use Rattle.amqp_link_base.specs.declared.state.LinkState.TheVariants.{Unattached, Detached}
use Rattle.amqp_link_base.specs.declared.terms.Terms.{Terms}
use Rattle.amqp_link_base.specs.declared.base.LinkBase.{LinkBase}
use Rattle.amqp_link.specs.declared.end.End.{End}
use Rattle.amqp_link.specs.declared.end.End.TheVariants.{Sender, Receiver}
use Rattle.amqp_link_receiver.specs.Attaching as receiver
use Rattle.amqp_link_receiver.specs.State.{credit_from, unattached}
use Rattle.amqp_link_sender.specs.Attaching as sender
use Rattle.amqp_link_unsettled.specs.Messages.{no_messages}
use Rattle.amqp_link_unsettled.specs.Listing.{Entries, FitsNowhere, Lists}
use Rattle.amqp_endpoint_links.specs.declared.numbered.Numbered.{Numbered}
use Rattle.amqp_endpoint_model.specs.declared.link.LinkSettings.{LinkSettings}

-- a link with its number
abbrev pub with_number : ℕ → End → Numbered End
with_number number link = record { number = number; link = link }

-- the terms of a link as its settings say them
abbrev pub terms_by : LinkSettings → Terms
terms_by s =
    record {
      source = s.source;
      target = s.target;
      snd_settle_mode = s.snd_settle_mode;
      rcv_settle_mode = s.rcv_settle_mode;
      max_message_size = s.max_message_size;
    }

abbrev pub base_by : LinkSettings → LinkBase
base_by s =
    record {
      name = s.name;
      local_state = Unattached;
      input_handle = None;
      output_handle = None;
      terms = terms_by s;
      given_properties = None;
      session_stop_reason = None;
    }

-- a link of these settings that was never attached
abbrev pub sender_by : LinkSettings → End
sender_by s =
    Sender (record {
      base = base_by s;
      flow = credit_from s.initial_delivery_count;
      messages = no_messages;
      remote_error = None;
    })

abbrev pub receiver_by : LinkSettings → End
receiver_by s = Receiver (unattached (base_by s) s.initial_delivery_count None)

-- one in this role
abbrev pub link_by : Role → LinkSettings → End
link_by role.Sender s = sender_by s
link_by role.Receiver s = receiver_by s

-- a link that was never attached, or of which both Detach were exchanged
abbrev pub is_at_rest : LinkState → Bool
is_at_rest Unattached = true
is_at_rest Detached = true
is_at_rest state = false

-- the own Attach under an own handle, without its list of unsettled deliveries
abbrev pub own_attach : End → OutputHandle → Attach
own_attach (Sender s) handle = sender.attach_without_list s handle
own_attach (Receiver r) handle = receiver.unlisted r handle

-- the unsettled deliveries with what the own Attach says of each
abbrev pub unsettled_of : End → Entries
unsettled_of (Sender s) = sender.listed s
unsettled_of (Receiver r) = receiver.to_list r

-- the own Attach under this handle lists as many of them as a frame of at most so many bytes holds
abbrev pub Announces : ℕ → End → OutputHandle → Attach → Type 0
Announces limit link handle attach = Lists limit (own_attach link handle) (unsettled_of link) attach

-- it fits no such frame, even without any of them
abbrev pub FitsNoFrame : ℕ → End → OutputHandle → Type 0
FitsNoFrame limit link handle = FitsNowhere limit (own_attach link handle) (unsettled_of link)

-- the own Attach is sent, which lists only a part of the unsettled deliveries or all, where the state allows it
abbrev pub attach_sent : End → Bool → Option End
attach_sent (Sender s) incomplete = option_map Sender (sender.attach_sent s incomplete)
attach_sent (Receiver r) incomplete = option_map Receiver (receiver.attach_sent r incomplete)

-- the own handle that is offered to the next link
abbrev pub offered : {R : Type 0} → State R → OutputHandle
offered s = record { 0 = s.offered }

-- the frame of an Attach
abbrev pub attach_frame : {R : Type 0} → State R → Attach → SessionFrame
attach_frame s attach = frame_of s.fields (body.Attach attach)
