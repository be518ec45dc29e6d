-- A handle that is taken back, until it is given anew.
use Rattle.std.specs.Prelude.{◌≡◌, ◌≢◌, ℕ, ◌==◌, List, [], ◌∷◌, Bool, true, false, Some, None, if◌then◌else◌}
use Rattle.std.specs.FinMap as map
use Rattle.amqp_session_outgoing.specs.Table.{Table}
use Rattle.amqp_session_outgoing.specs.declared.delivery.Delivery.{Delivery}
use Rattle.amqp_session_outgoing.specs.Queues.{units_of}
use Rattle.amqp_session_core.specs.State.{State, link_at}
use Rattle.amqp_session_core.specs.Steps.{Act, Allocates}

-- these deliveries are of other links
abbrev pub AreOfOthers : ℕ → Table → Type 0
AreOfOthers handle table =
    (number : ℕ) (delivery : Delivery) → map.get table number ≡ Some delivery → (delivery.handle).0 ≢ handle

-- no link has the handle, nothing of it waits, and no delivery of it is unsettled
pub record IsVacant {R : Type 0} (s : State R) (handle : ℕ) : Type 0 where
  pub link : link_at s handle ≡ None
  pub waits : units_of handle (s.outgoing).queues ≡ []
  pub sent : AreOfOthers handle (s.outgoing).unsettled
  pub received : AreOfOthers handle s.received

module _ {R A T D : Type 0} where
  -- a link gets the handle
  abbrev pub gives_handle : ℕ → Act R A T D → Bool
  gives_handle handle (Allocates given link input) = given == handle
  gives_handle handle step = false

  abbrev pub is_given : ℕ → List (Act R A T D) → Bool
  is_given handle [] = false
  is_given handle (step ∷ steps) = if gives_handle handle step then true else is_given handle steps
