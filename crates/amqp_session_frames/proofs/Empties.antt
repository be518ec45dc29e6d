-- An Empty frame is told by its header.
use Rattle.std.proofs.Common.{◌≡◌, ℕ, ◌<◌, ◌≤◌, List, [], length, drop, ◌∙◌, ap, arith, length-drop}
use Rattle.std.specs.Prelude.{slice_index}
use Rattle.std.proofs.lemmas.List.{drop_all}
use Rattle.amqp_session_frames.specs.Header.{HasHeader, HeaderRefused}
use Rattle.amqp_session_frames.specs.Text.{FrameText, IsNoEmpty, empty_on}
use Rattle.amqp_session_frames.specs.declared.error.Error.{Error}
use Rattle.amqp_session_frames.specs.declared.error.Error.TheVariants.{DecodeError, NotImplemented, TooLarge, Memory}
use Rattle.amqp_session_frames.proofs.FrameLaws.{framed_same}

-- nothing stands behind the header
pub empty_read : (bytes : List ℕ) (channel start : ℕ) → HasHeader bytes channel start → length bytes ≤ start
    → FrameText bytes (empty_on channel)
empty_read bytes channel start h le = record {
  extended = h.extended;
  content = drop start bytes;
  layout = h.layout;
  body = drop_all start bytes le;
}

-- something does
pub empty_followed : (bytes : List ℕ) (channel start : ℕ) → HasHeader bytes channel start → start < length bytes
    → IsNoEmpty bytes
empty_followed bytes channel start h lt = record {
  none = λ c t.
      let same = framed_same bytes 0 0 channel c h.extended t.extended (drop start bytes) t.content h.layout t.layout in
      let none : drop start bytes ≡ [] = same.contents ∙ t.body in
      omega (arith, ap length none, length-drop start bytes, lt);
}

-- there is no header
pub empty_refused : (bytes : List ℕ) (e : Error) → HeaderRefused bytes e → IsNoEmpty bytes
empty_refused bytes NotImplemented r =
    record { none = λ c t. r.1 (ap (λ (bs : List ℕ). slice_index bs 5) t.layout.whole) }
empty_refused bytes DecodeError r = record { none = λ c t. r.1.none c t.extended t.content t.layout }
empty_refused bytes Memory r = absurd r
empty_refused bytes TooLarge r = absurd r

pub ruleset empties = (empty_read, empty_followed, empty_refused)
