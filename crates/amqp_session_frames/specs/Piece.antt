-- What a piece begins with.
use Rattle.std.specs.Prelude.{ℕ, List}
use Rattle.amqp_session_frames.specs.declared.piece.Head.{Head}
use Rattle.amqp_session_frames.specs.declared.piece.Head.TheVariants.{Own, Shared}

-- bytes of its own, or shared ones
abbrev pub head_bytes : Head → List ℕ
head_bytes (Own bytes) = bytes.items
head_bytes (Shared bytes) = bytes
