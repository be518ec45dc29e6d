-- The names of filters that are wanted and not applied.
use Rattle.std.proofs.Common.{◌≡◌, ◌≢◌, ◌==◌, Bool, true, false, ℕ, List, [], ◌∷◌, Option, Some, None, Result, Ok, Err, length, sym, ◌∙◌, refl, if◌then◌else◌}
use Rattle.std.proofs.Math.Dec.{eqb-suc-zero}
use Rattle.amqp_link_types.specs.declared.attaching.ReceiverAttachError.{ReceiverAttachError}
use Rattle.amqp_link_types.specs.declared.attaching.ReceiverAttachError.TheVariants.{DesiredFilterNotSupported, Memory}
use Rattle.amqp_link_base.specs.Source.{is_any}
use Rattle.amqp_link_base.specs.Tests.{first_of, JudgedBy, IsOfFilters}

abbrev test_of : List (List ℕ) → Option ReceiverAttachError
test_of names = first_of ((is_any names, DesiredFilterNotSupported (record { not_supported = names })) ∷ [])

pub none_missing : (names : List (List ℕ)) (u : Unit {0}) → (length names == 0) ≡ true → JudgedBy (test_of names) (Ok u)
none_missing [] u h = refl
none_missing (name ∷ names) u h =
    let e : false ≡ true = sym (eqb-suc-zero (length names)) ∙ h in
    absurd cc

pub some_missing : (names : List (List ℕ)) → (length names == 0) ≡ false → JudgedBy (test_of names) (Err (DesiredFilterNotSupported (record { not_supported = names })))
some_missing [] h = absurd cc
some_missing (name ∷ names) h = refl

pub no_room_for : (names : List (List ℕ)) → names ≢ [] → JudgedBy (test_of names) (Err Memory)
no_room_for [] h = absurd (h refl)
no_room_for (name ∷ names) h = tt

pub ruleset filters = (none_missing, some_missing, no_room_for)
