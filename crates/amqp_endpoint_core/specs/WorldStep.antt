-- What each step of a world does and answers.
use Rattle.std.specs.Prelude.{◌≡◌, ℕ, Bool, true, false, List, [], ◌∷◌, ◌++◌, length, take, drop, Option, Some, None}
use Rattle.std.specs.Prelude.{if◌then◌else◌}
use Rattle.amqp_session_frames.specs.Cutting.{joined}
use Rattle.amqp_endpoint_model.specs.declared.call.Call.{Call}
use Rattle.amqp_endpoint_model.specs.declared.call.Call.TheVariants.{Feed, Pull, BreakOff}
use Rattle.amqp_endpoint_model.specs.declared.error.EndpointError.{EndpointError}
use Rattle.amqp_endpoint_model.specs.declared.error.EndpointError.TheVariants.{Memory, NotConnected, IllegalState}
use Rattle.amqp_endpoint_model.specs.declared.error.EndpointError.TheVariants.{NumbersUsedUp, ProtocolHeaderMismatch}
use Rattle.amqp_endpoint_model.specs.declared.settings.Settings.{Settings}
use Rattle.amqp_endpoint_model.specs.Relay.{Relations}
use Rattle.amqp_endpoint_model.specs.Said.{Said, refused, fed}
use Rattle.amqp_endpoint_model.specs.State.{State}
use Rattle.amqp_endpoint_model.specs.Step.{Step as EndpointStep, Pulls, FeedsIn, Breaks, refusal_of_settings}
use Rattle.amqp_endpoint_core.specs.declared.step.End.{End}
use Rattle.amqp_endpoint_core.specs.declared.step.End.TheVariants.{A, B}
use Rattle.amqp_endpoint_core.specs.declared.step.Step.{Step}
use Rattle.amqp_endpoint_core.specs.declared.step.Step.TheVariants.{Call as CallAt, Move, Break}
use Rattle.amqp_endpoint_core.specs.WorldState.{WorldState, Way, stream_to, way_from}
use Rattle.amqp_endpoint_core.specs.WorldSaid.{WorldSaid, called, moved, broken, WorldTold}

-- the first refusal that applies to the settings of two ends
abbrev pub either_refusal : Option EndpointError → Option EndpointError → Option EndpointError
either_refusal (Some e) later = Some e
either_refusal None later = later

abbrev pub refusal_of_either : Settings → Settings → Option EndpointError
refusal_of_either a b = either_refusal (refusal_of_settings a) (refusal_of_settings b)

-- the calls that are the world's own: they feed, pull or break off
abbrev pub is_the_worlds : Call → Bool
is_the_worlds (Feed bytes) = true
is_the_worlds Pull = true
is_the_worlds BreakOff = true
is_the_worlds call = false

-- the faults of a feed that break the connection off: it ends without a Close
abbrev pub fault_breaks_off : Option EndpointError → Bool
fault_breaks_off (Some Memory) = true
fault_breaks_off (Some NumbersUsedUp) = true
fault_breaks_off (Some ProtocolHeaderMismatch) = true
fault_breaks_off fault = false

abbrev pub has_broken_off : Said → Bool
has_broken_off (fed events fault) = fault_breaks_off fault
has_broken_off said = false

-- a feed found no connection
abbrev pub finds_none : Option EndpointError → Bool
finds_none (Some NotConnected) = true
finds_none fault = false

-- what a feed of the next bytes of a stream leaves in it: all, where it found no connection
abbrev pub left_by_fault : Option EndpointError → ℕ → List ℕ → List ℕ
left_by_fault fault count stream = if finds_none fault then stream else drop count stream

-- the same, or nothing is fed
abbrev pub left_by : Said → ℕ → List ℕ → List ℕ
left_by (fed events fault) count stream = left_by_fault fault count stream
left_by said count stream = stream

module _ {S : Type 0} where
  -- these answers of bytes are pulled, one after the other
  abbrev pub Drains : State S → List (List ℕ) → State S → Type 0
  Drains old [] new = new ≡ old
  Drains old (bytes ∷ others) new = (mid : State S) × Pulls old (Some bytes) mid × Drains mid others new

module _ {S : Type 0} (does : Relations S) where
  -- a call that is the world's own is refused and does nothing; any other one is its end's
  abbrev pub CallsAs : Bool → State S → Call → Said → State S → Type 0
  CallsAs true old call said new = (said ≡ refused IllegalState) × (new ≡ old)
  CallsAs false old call said new = EndpointStep does old call said new

  abbrev pub CallsOne : State S → Call → Said → State S → Type 0
  CallsOne old call said new = CallsAs (is_the_worlds call) old call said new

  abbrev pub CallsAt : End → Call → Said → WorldState S → WorldState S → Type 0
  CallsAt A call said old new = CallsOne old.a call said new.a × (new ≡ record old { a = new.a })
  CallsAt B call said old new = CallsOne old.b call said new.b × (new ≡ record old { b = new.b })

  -- all was pulled of the sending end, and the other one is fed this piece; where a growth was refused, nothing is fed
  abbrev pub Feeds : Said → List ℕ → State S → State S → State S → Type 0
  Feeds (fed events fault) piece from old new = (from.queue ≡ []) × FeedsIn does old.phase old piece events fault new
  Feeds (refused e) piece from old new = (e ≡ Memory) × (new ≡ old)
  Feeds said piece from old new = ⊥

  -- what one end has queued is pulled into the stream, and the next bytes of the stream are fed to the other end: so
  -- many, or what there is
  pub record Carries (count : ℕ) (pulled : List (List ℕ)) (said : Said) (old new : Way S) : Type 0 where
    pub pulls : Drains old.from pulled new.from
    pub feeds : Feeds said (take count (old.stream ++ joined pulled)) new.from old.to new.to
    pub leaves : new.stream ≡ left_by said count (old.stream ++ joined pulled)

  -- both ends break off, and what was on its way is lost
  pub record BreaksBoth (old new : WorldState S) : Type 0 where
    pub a : Breaks does old.a new.a
    pub b : Breaks does old.b new.b
    pub to_a : new.to_a ≡ []
    pub to_b : new.to_b ≡ []

  -- where a feed broke its end off, both ends break off behind it
  abbrev pub BreaksBehind : Bool → WorldState S → WorldState S → Type 0
  BreaksBehind true old new = BreaksBoth old new
  BreaksBehind false old new = new ≡ old

  -- bytes are moved from an end to the other one
  pub record MovesFrom (end : End) (count : ℕ) (pulled : List (List ℕ)) (said : Said) (old new : WorldState S) : Type 0
    where
      pub mid : WorldState S
      pub carries : Carries count pulled said (way_from end old) (way_from end mid)
      pub back : stream_to end mid ≡ stream_to end old
      pub behind : BreaksBehind (has_broken_off said) mid new

  -- from old, a step may do this and lead to new
  abbrev pub WorldStep : WorldState S → Step → WorldSaid → WorldState S → Type 0
  WorldStep old (CallAt end call) (called said) new = CallsAt end call said old new
  WorldStep old (Move end count) (moved pulled said) new = MovesFrom end count pulled said old new
  WorldStep old Break broken new = BreaksBoth old new
  WorldStep old step did new = ⊥

  -- the steps may do this, one after the other
  abbrev pub WorldRun : WorldState S → List Step → List WorldTold → WorldState S → Type 0
  WorldRun old [] [] new = new ≡ old
  WorldRun old (step ∷ steps) (t ∷ ts) new =
      (mid : WorldState S) × WorldStep old step t.did mid
      × (t.queued_a ≡ length mid.a.queue) × (t.queued_b ≡ length mid.b.queue) × WorldRun mid steps ts new
  WorldRun old [] (t ∷ ts) new = ⊥
  WorldRun old (step ∷ steps) [] new = ⊥
