-- Texts of frames that the standard's rules give.
use Rattle.std.proofs.Common.{◌≡◌, [], ◌∷◌, refl, Some, None}
use Rattle.std.specs.Str.{is_utf8, chars}
use Rattle.std.specs.Char.{encode_utf8}
use Rattle.amqp_endpoint_model.specs.declared.settings.Settings.{Settings}
use Rattle.amqp_endpoint_model.specs.State.{written, heartbeat, own_open, own_close_with, error_of}
use Rattle.amqp_endpoint_model.specs.Step.{framing_error, decode_error, not_allowed, not_found}

-- the empty frame (part 2, 2.4.5)
pub heartbeat_text : written heartbeat ≡ 0 ∷ 0 ∷ 0 ∷ 8 ∷ 2 ∷ 0 ∷ 0 ∷ 0 ∷ []
unfolding written is_utf8 chars encode_utf8
heartbeat_text = refl

-- a Close without an error (part 2, 2.7.9)
pub close_text : written (own_close_with None) ≡ 0 ∷ 0 ∷ 0 ∷ 0x0c ∷ 2 ∷ 0 ∷ 0 ∷ 0 ∷ 0 ∷ 0x53 ∷ 0x18 ∷ 0x45 ∷ []
unfolding written is_utf8 chars encode_utf8
close_text = refl

-- a Close with amqp:connection:framing-error (part 2, 2.7.9, 2.8.16)
pub framing_error_text : written (own_close_with (Some (error_of framing_error))) ≡
    0 ∷ 0 ∷ 0 ∷ 0x33 ∷ 2 ∷ 0 ∷ 0 ∷ 0 ∷ 0 ∷ 0x53 ∷ 0x18 ∷ 0xc0 ∷ 0x26 ∷ 1 ∷ 0 ∷ 0x53 ∷ 0x1d ∷ 0xc0 ∷ 0x20 ∷ 1 ∷ 0xa3 ∷ 0x1d
    ∷ 0x61 ∷ 0x6d ∷ 0x71 ∷ 0x70 ∷ 0x3a ∷ 0x63 ∷ 0x6f ∷ 0x6e ∷ 0x6e ∷ 0x65 ∷ 0x63 ∷ 0x74 ∷ 0x69 ∷ 0x6f ∷ 0x6e ∷ 0x3a ∷ 0x66 ∷ 0x72 ∷ 0x61 ∷ 0x6d ∷ 0x69 ∷ 0x6e ∷ 0x67 ∷ 0x2d ∷ 0x65 ∷ 0x72 ∷ 0x72 ∷ 0x6f ∷ 0x72 ∷ []
unfolding written is_utf8 chars encode_utf8
framing_error_text = refl

-- a Close with amqp:decode-error (part 2, 2.7.9, 2.8.15)
pub decode_error_text : written (own_close_with (Some (error_of decode_error))) ≡
    0 ∷ 0 ∷ 0 ∷ 0x27 ∷ 2 ∷ 0 ∷ 0 ∷ 0 ∷ 0 ∷ 0x53 ∷ 0x18 ∷ 0xc0 ∷ 0x1a ∷ 1 ∷ 0 ∷ 0x53 ∷ 0x1d ∷ 0xc0 ∷ 0x14 ∷ 1 ∷ 0xa3 ∷ 0x11
    ∷ 0x61 ∷ 0x6d ∷ 0x71 ∷ 0x70 ∷ 0x3a ∷ 0x64 ∷ 0x65 ∷ 0x63 ∷ 0x6f ∷ 0x64 ∷ 0x65 ∷ 0x2d ∷ 0x65 ∷ 0x72 ∷ 0x72 ∷ 0x6f ∷ 0x72 ∷ []
unfolding written is_utf8 chars encode_utf8
decode_error_text = refl

-- a Close with amqp:not-allowed (part 2, 2.7.9, 2.8.15)
pub not_allowed_text : written (own_close_with (Some (error_of not_allowed))) ≡
    0 ∷ 0 ∷ 0 ∷ 0x26 ∷ 2 ∷ 0 ∷ 0 ∷ 0 ∷ 0 ∷ 0x53 ∷ 0x18 ∷ 0xc0 ∷ 0x19 ∷ 1 ∷ 0 ∷ 0x53 ∷ 0x1d ∷ 0xc0 ∷ 0x13 ∷ 1 ∷ 0xa3 ∷ 0x10
    ∷ 0x61 ∷ 0x6d ∷ 0x71 ∷ 0x70 ∷ 0x3a ∷ 0x6e ∷ 0x6f ∷ 0x74 ∷ 0x2d ∷ 0x61 ∷ 0x6c ∷ 0x6c ∷ 0x6f ∷ 0x77 ∷ 0x65 ∷ 0x64 ∷ []
unfolding written is_utf8 chars encode_utf8
not_allowed_text = refl

-- a Close with amqp:not-found (part 2, 2.7.9, 2.8.15)
pub not_found_text : written (own_close_with (Some (error_of not_found))) ≡
    0 ∷ 0 ∷ 0 ∷ 0x24 ∷ 2 ∷ 0 ∷ 0 ∷ 0 ∷ 0 ∷ 0x53 ∷ 0x18 ∷ 0xc0 ∷ 0x17 ∷ 1 ∷ 0 ∷ 0x53 ∷ 0x1d ∷ 0xc0 ∷ 0x11 ∷ 1 ∷ 0xa3 ∷ 0x0e
    ∷ 0x61 ∷ 0x6d ∷ 0x71 ∷ 0x70 ∷ 0x3a ∷ 0x6e ∷ 0x6f ∷ 0x74 ∷ 0x2d ∷ 0x66 ∷ 0x6f ∷ 0x75 ∷ 0x6e ∷ 0x64 ∷ []
unfolding written is_utf8 chars encode_utf8
not_found_text = refl

-- the Open of the container "a", with the max-frame-size 512 and the channel-max 65535 (part 2, 2.7.1)
abbrev small : Settings
small = record { container_id = 0x61 ∷ []; max_frame_size = 512; channel_max = 65535; incoming_window = 1; idle_time_out = None; first_transfer_number = 0 }

pub open_text : written (own_open small) ≡
    0 ∷ 0 ∷ 0 ∷ 0x17 ∷ 2 ∷ 0 ∷ 0 ∷ 0 ∷ 0 ∷ 0x53 ∷ 0x10 ∷ 0xc0 ∷ 0x0a ∷ 3 ∷ 0xa1 ∷ 1 ∷ 0x61 ∷ 0x40 ∷ 0x70 ∷ 0 ∷ 0 ∷ 2 ∷ 0 ∷ []
unfolding written is_utf8 chars encode_utf8
open_text = refl
