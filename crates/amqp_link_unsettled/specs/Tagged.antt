-- Open messages stand under their own tags.
use Rattle.std.specs.Prelude.{◌≡◌, ℕ, List, [], ◌∷◌}
use Rattle.amqp_link_unsettled.specs.declared.open.Open.{Open}

-- each message's key is its tag
abbrev pub AreTagged : List (List ℕ × Open) → Type 0
AreTagged [] = Unit {0}
AreTagged (e ∷ es) = ((e.1).tag ≡ e.0) × AreTagged es
