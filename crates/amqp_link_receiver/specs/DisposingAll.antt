-- How a receiving link disposes of several deliveries at once: part 2, 2.6.12, 2.7.6 and 2.8.3.
use Rattle.std.specs.Prelude.{◌≡◌, ◌⊎◌, ℕ, ◌+◌, ◌-◌, ◌^◌, ◌==◌, ◌&&◌, ◌++◌, Bool, true, false, List, [], ◌∷◌, map}
use Rattle.std.specs.Prelude.{length, replicate, nat_lt, Option, Some, None, Result, Ok, Err, if◌then◌else◌}
use Rattle.std.specs.List.Sorted.{IsPermutation, IsNonDecreasingBy}
use Rattle.std.specs.Map.{lookup}
use Rattle.std.specs.Str.{bytes_eq}
use Rattle.amqp_session_types.specs.declared.modes.ReceiverSettleMode.{ReceiverSettleMode}
use Rattle.amqp_session_types.specs.declared.modes.ReceiverSettleMode.TheVariants.{First, Second}
use Rattle.amqp_session_types.specs.declared.modes.Role.TheVariants.{Receiver}
use Rattle.amqp_session_states.specs.declared.delivery_state.DeliveryState.{DeliveryState}
use Rattle.amqp_session_performatives.specs.declared.disposition.Disposition.{Disposition}
use Rattle.amqp_link_receiver.specs.declared.disposable.Disposable.{Disposable}
use Rattle.amqp_link_receiver.specs.declared.disposable.DisposeRefusal.{DisposeRefusal}
use Rattle.amqp_link_receiver.specs.declared.disposable.DisposeRefusal.TheVariants.{AlreadyDisposed}
use Rattle.amqp_link_receiver.specs.declared.disposing.DisposeError.{DisposeError}
use Rattle.amqp_link_receiver.specs.declared.disposing.DisposeError.TheVariants.{Refused, Memory}
use Rattle.amqp_link_receiver.specs.declared.disposing_all.Run.{Run}
use Rattle.amqp_link_receiver.specs.Disposing.{disposable_now, disposed_of, is_settled}
use Rattle.amqp_link_receiver.specs.State.{ReceiverState}

-- deliveries by their tags, with what each is disposed of by, in the order in which they are named
abbrev pub Named : Type 0
Named = List (List ℕ × Disposable)

-- what a delivery is disposed of by, beside those that are named before it: one that is among them is disposed of
-- already
abbrev pub named_beside : ReceiverState → List ℕ → Option Disposable → Result Disposable DisposeRefusal
named_beside s tag None = disposable_now s tag
named_beside s tag (Some earlier) = Err AlreadyDisposed

-- one delivery more is named, unless one was refused
abbrev pub named_more : Named → List ℕ → Result Disposable DisposeRefusal → Result Named DisposeRefusal
named_more named tag (Err why) = Err why
named_more named tag (Ok d) = Ok (named ++ (tag, d) ∷ [])

abbrev pub named_next : ReceiverState → Result Named DisposeRefusal → List ℕ → Result Named DisposeRefusal
named_next s (Err why) tag = Err why
named_next s (Ok named) tag = named_more named tag (named_beside s tag (lookup (bytes_eq tag) named))

-- these are named too, one after the other: the first that can't be disposed of refuses them all
abbrev pub named_behind : ReceiverState → Result Named DisposeRefusal → List (List ℕ) → Result Named DisposeRefusal
named_behind s named [] = named
named_behind s named (tag ∷ rest) = named_behind s (named_next s named tag) rest

abbrev pub named_all : ReceiverState → List (List ℕ) → Result Named DisposeRefusal
named_all s tags = named_behind s (Ok []) tags

-- a run: deliveries whose numbers follow each other, and whose transfers name the same settle mode
abbrev pub run_of : Disposable → Run
run_of d = record { first = d.number; last = d.number; rcv_settle_mode = d.rcv_settle_mode }

abbrev pub same_mode : Option ReceiverSettleMode → Option ReceiverSettleMode → Bool
same_mode None None = true
same_mode (Some First) (Some First) = true
same_mode (Some Second) (Some Second) = true
same_mode one other = false

-- the delivery is the next of a run; one of 2^31 deliveries is as long as a disposition reaches
abbrev pub goes_on : Run → Disposable → Bool
goes_on r d =
    d.number == r.last + 1 && same_mode r.rcv_settle_mode d.rcv_settle_mode && nat_lt (d.number - r.first) (2 ^ 31)

-- the runs of deliveries that follow a run, and that run, by their numbers
abbrev pub runs_from : Run → List Disposable → List Run
runs_from r [] = r ∷ []
runs_from r (d ∷ rest) =
    if goes_on r d then runs_from (record r { last = d.number }) rest else r ∷ runs_from (run_of d) rest

abbrev pub runs_of : List Disposable → List Run
runs_of [] = []
runs_of (d ∷ rest) = runs_from (run_of d) rest

-- the disposition of a run, which is settled as is asked, or else by the mode of its transfers, or the link's
abbrev pub run_disposition : ReceiverSettleMode → DeliveryState → Option Bool → Run → Disposition
run_disposition link state asked r =
    record {
      role = Receiver;
      first = r.first;
      last = Some r.last;
      settled = is_settled link r.rcv_settle_mode asked;
      state = Some state;
      batchable = false;
    }

-- the same deliveries in the order of their numbers
pub record InOrder (named ordered : List Disposable) : Type 0 where
  pub same : IsPermutation named ordered
  pub rising : IsNonDecreasingBy (λ (d : Disposable). d.number) ordered

-- one disposition tells each run of the deliveries, in the order of their numbers
pub record TellsRuns (link : ReceiverSettleMode) (named : Named) (state : DeliveryState) (asked : Option Bool)
    (told : List Disposition) : Type 0 where
  pub ordered : List Disposable
  pub in_order : InOrder (map (λ (e : List ℕ × Disposable). e.1) named) ordered
  pub is : told ≡ map (run_disposition link state asked) (runs_of ordered)

-- a delivery is disposed of: where it is settled nothing of it is kept, and else its state is noted
abbrev pub one_disposed : ReceiverState → List ℕ × Disposable → DeliveryState → Option Bool → ReceiverState
one_disposed s one state asked =
    disposed_of s one.0 (is_settled s.base.terms.rcv_settle_mode one.1.rcv_settle_mode asked) state

-- each of them, by a state for each
abbrev pub each_disposed : ReceiverState → Named → List DeliveryState → Option Bool → ReceiverState
each_disposed s [] states asked = s
each_disposed s (one ∷ rest) [] asked = s
each_disposed s (one ∷ rest) (state ∷ states) asked =
    each_disposed (one_disposed s one state asked) rest states asked

-- what is made ready to dispose of deliveries: those that are named, a state for each, what is told, and whether they
-- are to be settled
pub record Prepared : Type 0 where
  pub named : Named
  pub states : List DeliveryState
  pub told : List Disposition
  pub asked : Option Bool

-- these deliveries, by a copy of this state for each, which is what is told
pub record Prepares (link : ReceiverSettleMode) (named : Named) (state : DeliveryState) (asked : Option Bool)
    (p : Prepared) : Type 0 where
  pub tells : TellsRuns link named state asked p.told
  pub are_named : p.named ≡ named
  pub are_copies : p.states ≡ replicate (length named) state
  pub is_asked : p.asked ≡ asked

-- all that are named are made ready to be disposed of
abbrev pub AllPrepared : Result Named DisposeRefusal → ReceiverState → DeliveryState → Option Bool → Prepared → Type 0
AllPrepared (Err why) s state asked p = ⊥
AllPrepared (Ok named) s state asked p = Prepares s.base.terms.rcv_settle_mode named state asked p

-- deliveries are disposed of as it was made ready
abbrev pub committed : ReceiverState → Prepared → ReceiverState
committed s p = each_disposed s p.named p.states p.asked

-- all that are named are disposed of
abbrev pub AllDisposed : Result Named DisposeRefusal → ReceiverState → DeliveryState → Option Bool
    → List Disposition → ReceiverState → Type 0
AllDisposed (Err why) old state asked told new = ⊥
AllDisposed (Ok named) old state asked told new =
    TellsRuns old.base.terms.rcv_settle_mode named state asked told
    × (new ≡ each_disposed old named (replicate (length named) state) asked)

-- there is no memory, or one of them can't be disposed of
abbrev pub NotNamed : Result Named DisposeRefusal → DisposeError → Type 0
NotNamed (Err why) error = (error ≡ Memory) ⊎ (error ≡ Refused why)
NotNamed (Ok named) error = error ≡ Memory
