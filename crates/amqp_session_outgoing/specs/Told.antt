-- What a history of calls says by what went in and out: the words in which laws on histories are said.
use Rattle.std.specs.Prelude.{◌≡◌, ℕ, ◌+◌, ◌%◌, ◌^◌, ◌<◌, ◌==◌, List, [], ◌∷◌, ◌++◌, Bool, true, false, Option, Some}
use Rattle.std.specs.Prelude.{None, if◌then◌else◌}
use Rattle.std.specs.FinMap as map
use Rattle.amqp_session_outgoing.specs.Range.{ahead}
use Rattle.amqp_session_outgoing.specs.Frames.{LinkFrame, Other, frames_of, frames_sent}
use Rattle.amqp_session_outgoing.specs.State.{State, Leaves, Sends, with_window, with_batch}
use Rattle.amqp_session_outgoing.specs.History.{Act, TakesWindow, SetsWindow, Accepts, Refuses, Follows, Reserves}
use Rattle.amqp_session_outgoing.specs.History.{Settles, SettlesRange, Forgets, Fails}
use Rattle.amqp_session_outgoing.specs.declared.frames.Sent.{Sent}

-- a delivery's number, where a transfer carries one
abbrev pub IsNumber : ℕ → Option ℕ → Type 0
IsNumber number None = Unit {0}
IsNumber number (Some given) = given ≡ number % 2 ^ 32

abbrev pub behind_number : ℕ → Option ℕ → ℕ
behind_number number None = number
behind_number number (Some given) = number + 1

module _ {T F : Type 0} where
  -- the transfers that left in a call
  abbrev pub left_in : Act T F → List (Sent T F)
  left_in (TakesWindow base width left) = left
  left_in (SetsWindow base width) = []
  left_in (Accepts handle batch left) = left
  left_in (Refuses batch error) = []
  left_in (Follows handle frame left) = []
  left_in (Reserves count) = []
  left_in (Settles number) = []
  left_in (SettlesRange range) = []
  left_in (Forgets handle) = []
  left_in Fails = []

  -- the transfers that left, in order
  abbrev pub transfers_out : List (Act T F) → List (Sent T F)
  transfers_out [] = []
  transfers_out (step ∷ steps) = left_in step ++ transfers_out steps

  -- the frames of a link among what left
  abbrev pub frames_by : ℕ → List (Sent T F) → List (LinkFrame T F)
  frames_by link [] = []
  frames_by link (s ∷ left) = (if (s.handle).0 == link then frames_sent s else []) ++ frames_by link left

  -- a frame of a link that left at once
  abbrev pub alone : ℕ → ℕ → Option F → List (LinkFrame T F)
  alone link handle None = []
  alone link handle (Some frame) = if handle == link then Other frame ∷ [] else []

  -- the frames of a link that left in a call
  abbrev pub out_in : ℕ → Act T F → List (LinkFrame T F)
  out_in link (TakesWindow base width left) = frames_by link left
  out_in link (SetsWindow base width) = []
  out_in link (Accepts handle batch left) = frames_by link left
  out_in link (Refuses batch error) = []
  out_in link (Follows handle frame left) = alone link handle.0 left
  out_in link (Reserves count) = []
  out_in link (Settles number) = []
  out_in link (SettlesRange range) = []
  out_in link (Forgets handle) = []
  out_in link Fails = []

  -- all frames of a link that left, in order
  abbrev pub out_of : ℕ → List (Act T F) → List (LinkFrame T F)
  out_of link [] = []
  out_of link (step ∷ steps) = out_in link step ++ out_of link steps

  -- the frames of a link that were accepted in a call
  abbrev pub accepted_in : ℕ → Act T F → List (LinkFrame T F)
  accepted_in link (TakesWindow base width left) = []
  accepted_in link (SetsWindow base width) = []
  accepted_in link (Accepts handle batch left) = if handle.0 == link then frames_of batch else []
  accepted_in link (Refuses batch error) = []
  accepted_in link (Follows handle frame left) = if handle.0 == link then Other frame ∷ [] else []
  accepted_in link (Reserves count) = []
  accepted_in link (Settles number) = []
  accepted_in link (SettlesRange range) = []
  accepted_in link (Forgets handle) = []
  accepted_in link Fails = []

  -- all frames of a link that were accepted, in order
  abbrev pub accepted_of : ℕ → List (Act T F) → List (LinkFrame T F)
  accepted_of link [] = []
  accepted_of link (step ∷ steps) = accepted_in link step ++ accepted_of link steps

  -- the window of a call: a new one, or the one before
  abbrev pub base_in : ℕ → Act T F → ℕ
  base_in base (TakesWindow new_base new_width left) = new_base
  base_in base (SetsWindow new_base new_width) = new_base
  base_in base (Accepts handle batch left) = base
  base_in base (Refuses batch error) = base
  base_in base (Follows handle frame left) = base
  base_in base (Reserves count) = base
  base_in base (Settles number) = base
  base_in base (SettlesRange range) = base
  base_in base (Forgets handle) = base
  base_in base Fails = base

  abbrev pub width_in : ℕ → Act T F → ℕ
  width_in width (TakesWindow new_base new_width left) = new_width
  width_in width (SetsWindow new_base new_width) = new_width
  width_in width (Accepts handle batch left) = width
  width_in width (Refuses batch error) = width
  width_in width (Follows handle frame left) = width
  width_in width (Reserves count) = width
  width_in width (Settles number) = width
  width_in width (SettlesRange range) = width
  width_in width (Forgets handle) = width
  width_in width Fails = width

  -- the latest window
  abbrev pub latest_base : ℕ → List (Act T F) → ℕ
  latest_base base [] = base
  latest_base base (step ∷ steps) = latest_base (base_in base step) steps

  abbrev pub latest_width : ℕ → List (Act T F) → ℕ
  latest_width width [] = width
  latest_width width (step ∷ steps) = latest_width (width_in width step) steps

  -- whether a window was set, and no call has let leave what lies in it yet
  abbrev pub lags_in : Bool → Act T F → Bool
  lags_in lags (TakesWindow base width left) = false
  lags_in lags (SetsWindow base width) = true
  lags_in lags (Accepts handle [] left) = lags
  lags_in lags (Accepts handle (u ∷ us) left) = false
  lags_in lags (Refuses batch error) = lags
  lags_in lags (Follows handle frame left) = lags
  lags_in lags (Reserves count) = lags
  lags_in lags (Settles number) = lags
  lags_in lags (SettlesRange range) = lags
  lags_in lags (Forgets handle) = lags
  lags_in lags Fails = lags

  abbrev pub lags_after : Bool → List (Act T F) → Bool
  lags_after lags [] = lags
  lags_after lags (step ∷ steps) = lags_after (lags_in lags step) steps

  -- what lies in the latest window has left
  abbrev pub HasCaughtUp : List (Act T F) → Type 0
  HasCaughtUp steps = lags_after false steps ≡ false

  -- each lies in a window
  abbrev pub EachInWindow : ℕ → ℕ → List (Sent T F) → Type 0
  EachInWindow base width [] = Unit {0}
  EachInWindow base width (s ∷ left) = (ahead s.number base < width) × EachInWindow base width left

  -- each that left lay in the latest window
  abbrev pub InLatestWindow : ℕ → ℕ → List (Act T F) → Type 0
  InLatestWindow base width [] = Unit {0}
  InLatestWindow base width (step ∷ steps) =
      EachInWindow (base_in base step) (width_in width step) (left_in step)
      × InLatestWindow (base_in base step) (width_in width step) steps

  -- transfers carry numbers from this one on, and those that begin a delivery carry delivery numbers from this one on
  abbrev pub IsNumbered : ℕ → ℕ → List (Sent T F) → Type 0
  IsNumbered number delivery [] = Unit {0}
  IsNumbered number delivery (s ∷ left) =
      (s.number ≡ number % 2 ^ 32) × IsNumber delivery s.delivery
      × IsNumbered (number + 1) (behind_number delivery s.delivery) left

  -- the number that a delivery gets is no unsettled one's
  abbrev pub GivesFree : State T F → Option ℕ → Type 0
  GivesFree s None = Unit {0}
  GivesFree s (Some number) = map.get s.unsettled number ≡ None

  -- the session in a call, before any transfer leaves
  abbrev pub opened : State T F → Act T F → State T F
  opened s (TakesWindow base width left) = with_window s base width
  opened s (SetsWindow base width) = with_window s base width
  opened s (Accepts handle batch left) = with_batch s handle.0 batch
  opened s (Refuses batch error) = s
  opened s (Follows handle frame left) = s
  opened s (Reserves count) = s
  opened s (Settles number) = s
  opened s (SettlesRange range) = s
  opened s (Forgets handle) = s
  opened s Fails = s

  -- a transfer leaves in a call, behind others that left in it before, and this is the session right before it leaves
  pub record LeavesIn (old : State T F) (step : Act T F) (sent : Sent T F) (here : State T F) : Type 0 where
    pub earlier : List (Sent T F)
    pub later : List (Sent T F)
    pub among : left_in step ≡ earlier ++ sent ∷ later
    pub run : Leaves (opened old step) earlier here
    pub next : State T F
    pub sends : Sends here sent next
