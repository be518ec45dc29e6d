-- The frames of a sending link as its session handles them.
use Rattle.std.specs.Prelude.{ℕ, ◌+◌, Bool, true, false, List, [], ◌∷◌, ◌++◌, length, is_some}
use Rattle.amqp_session_outgoing.specs.declared.frames.Part.{Part}
use Rattle.amqp_session_outgoing.specs.declared.frames.Part.TheVariants.{Untagged, Settled, Unsettled, Continuation}
use Rattle.amqp_session_outgoing.specs.declared.frames.Outbound.{Outbound}
use Rattle.amqp_session_outgoing.specs.declared.frames.Sent.{Sent}

-- a transfer that is the first of its delivery (part 2, 2.7.5)
abbrev pub is_first : Part → Bool
is_first Untagged = true
is_first Settled = true
is_first (Unsettled tag) = true
is_first Continuation = false

-- how many deliveries a transfer begins
abbrev pub first_count : Part → ℕ
first_count Untagged = 1
first_count Settled = 1
first_count (Unsettled tag) = 1
first_count Continuation = 0

-- a first transfer says its delivery's tag (part 2, 2.7.5)
abbrev pub HasTag : Part → Type 0
HasTag Untagged = ⊥
HasTag Settled = Unit {0}
HasTag (Unsettled tag) = Unit {0}
HasTag Continuation = Unit {0}

-- a frame of a link: a transfer, which is the first of its delivery or isn't, or another one
pub data LinkFrame (T F : Type 0) : Type 0 where
  Transferred : (first : Bool) (transfer : T) → LinkFrame T F
  Other : (frame : F) → LinkFrame T F

module _ {T F : Type 0} where
  abbrev pub others : List F → List (LinkFrame T F)
  others [] = []
  others (frame ∷ frames) = Other frame ∷ others frames

  -- what a link hands over, frame by frame
  abbrev pub frames_of : List (Outbound T F) → List (LinkFrame T F)
  frames_of [] = []
  frames_of (u ∷ us) = (Transferred (is_first u.part) u.transfer ∷ others u.behind) ++ frames_of us

  -- what leaves in one turn, frame by frame: the transfer has a delivery number where it is the first of its delivery
  abbrev pub frames_sent : Sent T F → List (LinkFrame T F)
  frames_sent s = Transferred (is_some s.delivery) s.transfer ∷ others s.behind

  -- how many of these begin a delivery
  abbrev pub firsts_of : List (Outbound T F) → ℕ
  firsts_of [] = 0
  firsts_of (u ∷ us) = first_count u.part + firsts_of us

  -- how many frames these are: the transfers, and the frames behind them
  abbrev pub frames_count : List (Outbound T F) → ℕ
  frames_count [] = 0
  frames_count (u ∷ us) = (length u.behind + 1) + frames_count us

  -- how many frames left: the transfers, and the frames behind them
  abbrev pub sent_count : List (Sent T F) → ℕ
  sent_count [] = 0
  sent_count (s ∷ left) = (length s.behind + 1) + sent_count left

  -- how many frames a list holds at least that takes so many more behind the last of these transfers, 0 where there is
  -- none
  abbrev pub last_room : ℕ → List (Outbound T F) → ℕ
  last_room count [] = 0
  last_room count (u ∷ []) = length u.behind + count
  last_room count (u ∷ v ∷ us) = last_room count (v ∷ us)

  abbrev pub HaveTags : List (Outbound T F) → Type 0
  HaveTags [] = Unit {0}
  HaveTags (u ∷ us) = HasTag u.part × HaveTags us
