-- Symbols that are an expiry policy or a distribution mode, and others.
use Rattle.std.proofs.Common.{◌≡◌, ◌≢◌, ℕ, List, [], ◌∷◌, Bool, true, false, Option, sym, ◌∙◌, ap, refl}
use Rattle.std.specs.Prelude.{bytes_eq}
use Rattle.std.proofs.lemmas.Slice.Eq.{bytes_eq-Decides}
use Rattle.serde_amqp_item.specs.Item.{scalar, symbol}
use Rattle.serde_amqp_de.specs.Reads.{At, Refuses, Took}
use Rattle.serde_amqp_de.specs.Takes.{symbol_taken}
use Rattle.amqp_session_types.specs.Limits.{limited, is_among, is_symbol_among}
use Rattle.amqp_session_types.proofs.Limiting.{limited_took, not_first, symbol_out}
use Rattle.amqp_session_states.specs.Terminus.{link_detach_name, session_end_name, connection_close_name, never_name, expiry_policy_names, expiry_policy_taken, move_name, copy_name, distribution_mode_names, distribution_mode_taken}

is_false : (s t : List ℕ) (b : Bool) → bytes_eq s t ≡ b → s ≢ t → b ≡ false
is_false s t true e n = absurd (n ((bytes_eq-Decides s t).0 e))
is_false s t false e n = refl

-- another name
other : (s t name : List ℕ) → t ≡ s → t ≢ name → bytes_eq s name ≡ false
other s t name e n = is_false s name (bytes_eq s name) refl (λ is. n (e ∙ is))

pub no_policy : (s t : List ℕ) (k : Option ℕ) (old new : At) → Took symbol_taken k old new (scalar (symbol s)) → t ≡ s → t ≢ link_detach_name → t ≢ session_end_name → t ≢ connection_close_name → t ≢ never_name → Refuses expiry_policy_taken k old
no_policy s t k old new took e a b c d =
    symbol_out expiry_policy_names s k old new took
    (not_first s link_detach_name (session_end_name ∷ connection_close_name ∷ never_name ∷ []) (other s t link_detach_name e a)
    (not_first s session_end_name (connection_close_name ∷ never_name ∷ []) (other s t session_end_name e b)
    (not_first s connection_close_name (never_name ∷ []) (other s t connection_close_name e c)
    (not_first s never_name [] (other s t never_name e d) refl))))

pub no_mode : (s t : List ℕ) (k : Option ℕ) (old new : At) → Took symbol_taken k old new (scalar (symbol s)) → t ≡ s → t ≢ move_name → t ≢ copy_name → Refuses distribution_mode_taken k old
no_mode s t k old new took e a b =
    symbol_out distribution_mode_names s k old new took
    (not_first s move_name (copy_name ∷ []) (other s t move_name e a)
    (not_first s copy_name [] (other s t copy_name e b) refl))

-- one of these names
pub is_meant : (names : List (List ℕ)) (s t name : List ℕ) (k : Option ℕ) (old new : At) → Took symbol_taken k old new (scalar (symbol s)) → t ≡ s → t ≡ name → is_among names name ≡ true → Took (limited (is_symbol_among names) symbol_taken) k old new (scalar (symbol name))
is_meant names s t name k old new took e n m = limited_took (is_symbol_among names) symbol_taken k old new (scalar (symbol s)) (scalar (symbol name)) took (ap (λ (x : List ℕ). scalar (symbol x)) (sym e ∙ n)) m
