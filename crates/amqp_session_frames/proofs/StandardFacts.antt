-- Frames in bytes.
use Rattle.std.proofs.Common.{◌≡◌, ℕ, true, false, List, [], ◌∷◌, ◌++◌, length, Some, None, refl, ap, arith, length-append}
use Rattle.std.specs.Int.{w16, w32, to_be_bytes}
use Rattle.std.specs.Str.{is_utf8, chars}
use Rattle.std.specs.Char.{encode_utf8}
use Rattle.serde_amqp_item.specs.Item.{scalar, ulong, symbol, described, list, no_items}
use Rattle.serde_amqp_de.specs.Takes.{option_taken}
use Rattle.serde_amqp_values.specs.Choice.{choice_taken, row_said}
use Rattle.serde_amqp_item.specs.Wire.{Wire, row_of, code_of}
use Rattle.amqp_session_performatives.specs.PerformativeLaws.{performative_again}
use Rattle.amqp_session_performatives.specs.declared.performative.Performative.TheVariants as performing
use Rattle.amqp_session_performatives.specs.Close.{close_name}
use Rattle.amqp_session_frames.specs.declared.frame.Frame.{Frame}
use Rattle.amqp_session_frames.specs.declared.frame.FrameBody.TheVariants.{Empty, Open, Transfer, Close}
use Rattle.amqp_session_frames.specs.Text.{FrameText, IsOtherType, frame_text}

-- an open of the container "a"
open_of : ℕ → ℕ → Frame
open_of size channels = record {
  channel = 0;
  body = Open (record { container_id = 0x61 ∷ []; hostname = None; max_frame_size = size; channel_max = channels; idle_time_out = None; outgoing_locales = []; incoming_locales = []; offered_capabilities = []; desired_capabilities = []; properties = None });
}

-- fields that are their defaults at the end are left off
open_512 : frame_text (open_of 512 65535) ≡ Some (0x00 ∷ 0x00 ∷ 0x00 ∷ 0x17 ∷ 0x02 ∷ 0x00 ∷ 0x00 ∷ 0x00 ∷ 0x00 ∷ 0x53 ∷ 0x10 ∷ 0xc0 ∷ 0x0a ∷ 0x03 ∷ 0xa1 ∷ 0x01 ∷ 0x61 ∷ 0x40 ∷ 0x70 ∷ 0x00 ∷ 0x00 ∷ 0x02 ∷ 0x00 ∷ [])
unfolding open_of is_utf8 chars encode_utf8
open_512 = refl

open_262144 : frame_text (open_of 262144 255) ≡ Some (0x00 ∷ 0x00 ∷ 0x00 ∷ 0x1a ∷ 0x02 ∷ 0x00 ∷ 0x00 ∷ 0x00 ∷ 0x00 ∷ 0x53 ∷ 0x10 ∷ 0xc0 ∷ 0x0d ∷ 0x04 ∷ 0xa1 ∷ 0x01 ∷ 0x61 ∷ 0x40 ∷ 0x70 ∷ 0x00 ∷ 0x04 ∷ 0x00 ∷ 0x00 ∷ 0x60 ∷ 0x00 ∷ 0xff ∷ [])
unfolding open_of is_utf8 chars encode_utf8
open_262144 = refl

close_of : ℕ → Frame
close_of channel = record { channel = channel; body = Close (record { error = None }) }

close : frame_text (close_of 0) ≡ Some (0x00 ∷ 0x00 ∷ 0x00 ∷ 0x0c ∷ 0x02 ∷ 0x00 ∷ 0x00 ∷ 0x00 ∷ 0x00 ∷ 0x53 ∷ 0x18 ∷ 0x45 ∷ [])
unfolding close_of
close = refl

-- a transfer of handle 0, delivery-id 0, a tag of four zeros and format 0, settled, with a payload
transfer : frame_text (record { channel = 0; body = Transfer (record { handle = record { 0 = 0 }; delivery_id = Some 0; delivery_tag = Some (0 ∷ 0 ∷ 0 ∷ 0 ∷ []); message_format = Some 0; settled = Some true; more = false; rcv_settle_mode = None; state = None; resume = false; aborted = false; batchable = false }) (0x68 ∷ 0x69 ∷ []) })
    ≡ Some (0x00 ∷ 0x00 ∷ 0x00 ∷ 0x1a ∷ 0x02 ∷ 0x00 ∷ 0x00 ∷ 0x00 ∷ 0x00 ∷ 0x53 ∷ 0x14 ∷ 0xc0 ∷ 0x0b ∷ 0x05 ∷ 0x43 ∷ 0x43 ∷ 0xa0 ∷ 0x04 ∷ 0x00 ∷ 0x00 ∷ 0x00 ∷ 0x00 ∷ 0x43 ∷ 0x41 ∷ 0x68 ∷ 0x69 ∷ [])
transfer = refl

-- amqp:connection:framing-error
framing_error : List ℕ
framing_error = 0x61 ∷ 0x6d ∷ 0x71 ∷ 0x70 ∷ 0x3a ∷ 0x63 ∷ 0x6f ∷ 0x6e ∷ 0x6e ∷ 0x65 ∷ 0x63 ∷ 0x74 ∷ 0x69 ∷ 0x6f ∷ 0x6e ∷ 0x3a ∷ 0x66 ∷ 0x72 ∷ 0x61 ∷ 0x6d ∷ 0x69 ∷ 0x6e ∷ 0x67 ∷ 0x2d ∷ 0x65 ∷ 0x72 ∷ 0x72 ∷ 0x6f ∷ 0x72 ∷ []

close_with_error : frame_text (record { channel = 0; body = Close (record { error = Some (record { condition = framing_error; description = None; info = None }) }) })
    ≡ Some (0x00 ∷ 0x00 ∷ 0x00 ∷ 0x33 ∷ 0x02 ∷ 0x00 ∷ 0x00 ∷ 0x00 ∷ 0x00 ∷ 0x53 ∷ 0x18 ∷ 0xc0 ∷ 0x26 ∷ 0x01 ∷ 0x00 ∷ 0x53 ∷ 0x1d ∷ 0xc0 ∷ 0x20 ∷ 0x01 ∷ 0xa3 ∷ 0x1d ∷ framing_error)
unfolding framing_error is_utf8 chars encode_utf8
close_with_error = refl

empty : frame_text (record { channel = 0xabcd; body = Empty }) ≡ Some (0x00 ∷ 0x00 ∷ 0x00 ∷ 0x08 ∷ 0x02 ∷ 0x00 ∷ 0xab ∷ 0xcd ∷ [])
empty = refl

-- the item of a close without an error, by its code
by_code : Wire (described (scalar (ulong 0x18)) (list no_items)) None (0x00 ∷ 0x53 ∷ 0x18 ∷ 0x45 ∷ [])
unfolding row_of code_of
by_code = (0x00, 0x53 ∷ 0x18 ∷ 0x45 ∷ [], refl, (0x53, 0x18 ∷ [], 0x45, [], refl, (refl, refl), (refl, refl)))

-- an extended header is skipped
extended_header : FrameText (0x00 ∷ 0x00 ∷ 0x00 ∷ 0x10 ∷ 0x03 ∷ 0x00 ∷ 0x00 ∷ 0x00 ∷ 0xaa ∷ 0xbb ∷ 0xcc ∷ 0xdd ∷ 0x00 ∷ 0x53 ∷ 0x18 ∷ 0x45 ∷ []) (close_of 0)
unfolding close_of
extended_header = record {
  extended = 0xaa ∷ 0xbb ∷ 0xcc ∷ 0xdd ∷ [];
  content = 0x00 ∷ 0x53 ∷ 0x18 ∷ 0x45 ∷ [];
  layout = record { doff = 3; whole = refl; size = omega arith; offset = refl; channels = omega arith };
  body = ([], record { item = described (scalar (ulong 0x18)) (list no_items); front = 0x00 ∷ 0x53 ∷ 0x18 ∷ 0x45 ∷ []; whole = refl; form = by_code; value_is = performative_again (performing.Close (record { error = None })) }, tt);
}

-- bytes behind the performative are left unread
left_unread : FrameText (0x00 ∷ 0x00 ∷ 0x00 ∷ 0x0e ∷ 0x02 ∷ 0x00 ∷ 0x00 ∷ 0x00 ∷ 0x00 ∷ 0x53 ∷ 0x18 ∷ 0x45 ∷ 0xff ∷ 0xff ∷ []) (close_of 0)
unfolding close_of
left_unread = record {
  extended = [];
  content = 0x00 ∷ 0x53 ∷ 0x18 ∷ 0x45 ∷ 0xff ∷ 0xff ∷ [];
  layout = record { doff = 2; whole = refl; size = omega arith; offset = refl; channels = omega arith };
  body = (0xff ∷ 0xff ∷ [], record { item = described (scalar (ulong 0x18)) (list no_items); front = 0x00 ∷ 0x53 ∷ 0x18 ∷ 0x45 ∷ []; whole = refl; form = by_code; value_is = performative_again (performing.Close (record { error = None })) }, tt);
}

-- a data offset of less than the eight bytes of the header
short_offset : (f : Frame) → FrameText (0x00 ∷ 0x00 ∷ 0x00 ∷ 0x08 ∷ 0x01 ∷ 0x00 ∷ 0x00 ∷ 0x00 ∷ []) f → ⊥
short_offset f t =
    let whole = t.layout.whole in
    let doff : t.layout.doff ≡ 1 = cc in
    omega (arith, t.layout.offset, doff)

-- another type
other_type : IsOtherType (0x00 ∷ 0x00 ∷ 0x00 ∷ 0x08 ∷ 0x02 ∷ 0x01 ∷ 0x00 ∷ 0x00 ∷ [])
other_type = (omega arith, λ e. cc)

-- likewise by its name
by_name : Wire (described (scalar (symbol close_name)) (list no_items)) None (0x00 ∷ 0xa3 ∷ 0x0f ∷ (close_name ++ 0x45 ∷ []))
unfolding row_of code_of is_utf8 chars encode_utf8
by_name = (0x00, 0xa3 ∷ 0x0f ∷ (close_name ++ 0x45 ∷ []), refl, (0xa3, 0x0f ∷ close_name, 0x45, [], refl, (close_name, record { fits = omega arith; whole = refl }, refl), (refl, refl)))

named : FrameText (0x00 ∷ 0x00 ∷ 0x00 ∷ 0x1b ∷ 0x02 ∷ 0x00 ∷ 0x00 ∷ 0x00 ∷ 0x00 ∷ 0xa3 ∷ 0x0f ∷ (close_name ++ 0x45 ∷ [])) (close_of 0)
unfolding close_of choice_taken row_said option_taken
named = record {
  extended = [];
  content = 0x00 ∷ 0xa3 ∷ 0x0f ∷ (close_name ++ 0x45 ∷ []);
  layout = record { doff = 2; whole = refl; size = omega arith; offset = refl; channels = omega arith };
  body = ([], record { item = described (scalar (symbol close_name)) (list no_items); front = 0x00 ∷ 0xa3 ∷ 0x0f ∷ (close_name ++ 0x45 ∷ []); whole = refl; form = by_name; value_is = refl }, tt);
}

-- an empty frame on any channel
empty_read : FrameText (0x00 ∷ 0x00 ∷ 0x00 ∷ 0x08 ∷ 0x02 ∷ 0x00 ∷ 0xab ∷ 0xcd ∷ []) (record { channel = 0xabcd; body = Empty })
empty_read = record {
  extended = [];
  content = [];
  layout = record { doff = 2; whole = refl; size = omega arith; offset = refl; channels = omega arith };
  body = refl;
}

-- a data offset behind the end of the frame
far_offset : (f : Frame) → FrameText (0x00 ∷ 0x00 ∷ 0x00 ∷ 0x08 ∷ 0x03 ∷ 0x00 ∷ 0x00 ∷ 0x00 ∷ []) f → ⊥
far_offset f t =
    let whole = t.layout.whole in
    let doff : t.layout.doff ≡ 3 = cc in
    omega (arith, t.layout.offset, doff, ap length whole, length-append (to_be_bytes w32 8) (t.layout.doff ∷ 0 ∷ (to_be_bytes w16 f.channel ++ (t.extended ++ t.content))), length-append (to_be_bytes w16 f.channel) (t.extended ++ t.content), length-append t.extended t.content)
