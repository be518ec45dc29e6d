-- What an Attach is refused for: tests in their order, each with its error, and the first that applies.
use Rattle.std.specs.Prelude.{◌≡◌, Bool, List, [], ◌∷◌, Option, Some, None, Result, Ok, Err, if◌then◌else◌}
use Rattle.amqp_link_types.specs.declared.attaching.ReceiverAttachError.{ReceiverAttachError}
use Rattle.amqp_link_types.specs.declared.attaching.ReceiverAttachError.TheVariants.{DesiredFilterNotSupported, Memory}

-- the error of the first test that applies
abbrev pub first_of : {E : Type 0} → List (Bool × E) → Option E
first_of [] = None
first_of (test ∷ tests) = if test.0 then Some test.1 else first_of tests

abbrev pub error_of : {E : Type 0} → Result (Unit {0}) E → Option E
error_of (Ok x) = None
error_of (Err error) = Some error

-- the answer is that of the first test that applies
abbrev pub FirstOf : {E : Type 0} → List (Bool × E) → Result (Unit {0}) E → Type 0
FirstOf tests answer = error_of answer ≡ first_of tests

-- the tests of the own value and of the peer's, where both are there
abbrev pub of_both : {X T : Type 0} → (X → X → List T) → Option X → Option X → List T
of_both tests (Some own) (Some peer) = tests own peer
of_both tests own peer = []

-- an error that is a list of filters
abbrev pub IsOfFilters : Option ReceiverAttachError → Type 0
IsOfFilters (Some (DesiredFilterNotSupported filters)) = Unit {0}
IsOfFilters error = ⊥

-- the answer is this error, or Ok where there is none; in place of a list of filters it may be want of memory for it
abbrev pub JudgedBy : Option ReceiverAttachError → Result (Unit {0}) ReceiverAttachError → Type 0
JudgedBy error (Err Memory) = IsOfFilters error
JudgedBy error answer = error_of answer ≡ error
