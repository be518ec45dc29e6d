-- A durability, an expiry policy and a distribution mode is read as it is written, and its item says which it is.
use Rattle.std.proofs.Common.{◌≡◌, ℕ, List, true, false, Some, sym, ◌∙◌, ap, refl}
use Rattle.std.specs.Prelude.{bytes_eq}
use Rattle.serde_amqp_item.specs.Item.{Item, scalar, uint, symbol}
use Rattle.serde_amqp_de.specs.Takes.{uint_taken, symbol_taken, is_uint, reads_as_null}
use Rattle.serde_amqp_types.specs.Faithful.{symbol_faithful}
use Rattle.amqp_session_types.specs.Limits.{is_uint_upto, is_symbol_among, is_symbol_of}
use Rattle.amqp_session_types.specs.LimitLaws.{limited_again}
use Rattle.amqp_session_states.specs.Terminus.{durability_item, durability_taken, link_detach_name, session_end_name}
use Rattle.amqp_session_states.specs.Terminus.{connection_close_name, never_name, expiry_policy_name}
use Rattle.amqp_session_states.specs.Terminus.{expiry_policy_names, expiry_policy_item, expiry_policy_taken, move_name}
use Rattle.amqp_session_states.specs.Terminus.{copy_name, distribution_mode_names, distribution_mode_item}
use Rattle.amqp_session_states.specs.Terminus.{distribution_mode_taken}
use Rattle.amqp_session_states.specs.declared.terminus.TerminusDurability.{TerminusDurability}
use Rattle.amqp_session_states.specs.declared.terminus.TerminusDurability.TheVariants.{None, Configuration}
use Rattle.amqp_session_states.specs.declared.terminus.TerminusDurability.TheVariants.{UnsettledState}
use Rattle.amqp_session_states.specs.declared.terminus.TerminusExpiryPolicy.{TerminusExpiryPolicy}
use Rattle.amqp_session_states.specs.declared.terminus.TerminusExpiryPolicy.TheVariants.{LinkDetach, SessionEnd}
use Rattle.amqp_session_states.specs.declared.terminus.TerminusExpiryPolicy.TheVariants.{ConnectionClose, Never}
use Rattle.amqp_session_states.specs.declared.terminus.DistributionMode.{DistributionMode}
use Rattle.amqp_session_states.specs.declared.terminus.DistributionMode.TheVariants.{Move, Copy}

pub durability_again : (d : TerminusDurability) → durability_taken (durability_item d) ≡ Some (durability_item d)
durability_again None = limited_again (is_uint_upto 2) uint_taken (scalar (uint 0)) refl refl
durability_again Configuration = limited_again (is_uint_upto 2) uint_taken (scalar (uint 1)) refl refl
durability_again UnsettledState = limited_again (is_uint_upto 2) uint_taken (scalar (uint 2)) refl refl

pub durability_same : (d e : TerminusDurability) → durability_item d ≡ durability_item e → d ≡ e
durability_same None None s = refl
durability_same Configuration Configuration s = refl
durability_same UnsettledState UnsettledState s = refl
durability_same d e s = absurd cc

pub durability_present : (d : TerminusDurability) → reads_as_null (durability_item d) ≡ false
durability_present None = refl
durability_present Configuration = refl
durability_present UnsettledState = refl

pub durability_one : (d e : TerminusDurability) → is_uint 0 (durability_item d) ≡ true
    → is_uint 0 (durability_item e) ≡ true → durability_item d ≡ durability_item e
durability_one None None s t = refl
durability_one None e s t = absurd cc
durability_one d e s t = absurd cc

pub expiry_policy_again : (p : TerminusExpiryPolicy)
    → expiry_policy_taken (expiry_policy_item p) ≡ Some (expiry_policy_item p)
expiry_policy_again LinkDetach =
    limited_again (is_symbol_among expiry_policy_names) symbol_taken (scalar (symbol link_detach_name)) refl refl
expiry_policy_again SessionEnd =
    limited_again (is_symbol_among expiry_policy_names) symbol_taken (scalar (symbol session_end_name)) refl refl
expiry_policy_again ConnectionClose =
    limited_again (is_symbol_among expiry_policy_names) symbol_taken (scalar (symbol connection_close_name)) refl refl
expiry_policy_again Never =
    limited_again (is_symbol_among expiry_policy_names) symbol_taken (scalar (symbol never_name)) refl refl

-- two names are two symbols
other_symbol : (s t : List ℕ) → bytes_eq s t ≡ false → bytes_eq t t ≡ true → scalar (symbol s) ≡ scalar (symbol t) → ⊥
other_symbol s t n y e =
    let same : s ≡ t = symbol_faithful s t e in
    let is : bytes_eq s t ≡ true = ap (λ (u : List ℕ). bytes_eq u t) same ∙ y in
    let both : false ≡ true = sym n ∙ is in
    cc

pub expiry_policy_same : (p q : TerminusExpiryPolicy) → expiry_policy_item p ≡ expiry_policy_item q → p ≡ q
expiry_policy_same LinkDetach LinkDetach e = refl
expiry_policy_same LinkDetach SessionEnd e = absurd (other_symbol link_detach_name session_end_name refl refl e)
expiry_policy_same LinkDetach ConnectionClose e =
    absurd (other_symbol link_detach_name connection_close_name refl refl e)
expiry_policy_same LinkDetach Never e = absurd (other_symbol link_detach_name never_name refl refl e)
expiry_policy_same SessionEnd LinkDetach e = absurd (other_symbol session_end_name link_detach_name refl refl e)
expiry_policy_same SessionEnd SessionEnd e = refl
expiry_policy_same SessionEnd ConnectionClose e =
    absurd (other_symbol session_end_name connection_close_name refl refl e)
expiry_policy_same SessionEnd Never e = absurd (other_symbol session_end_name never_name refl refl e)
expiry_policy_same ConnectionClose LinkDetach e =
    absurd (other_symbol connection_close_name link_detach_name refl refl e)
expiry_policy_same ConnectionClose SessionEnd e =
    absurd (other_symbol connection_close_name session_end_name refl refl e)
expiry_policy_same ConnectionClose ConnectionClose e = refl
expiry_policy_same ConnectionClose Never e = absurd (other_symbol connection_close_name never_name refl refl e)
expiry_policy_same Never LinkDetach e = absurd (other_symbol never_name link_detach_name refl refl e)
expiry_policy_same Never SessionEnd e = absurd (other_symbol never_name session_end_name refl refl e)
expiry_policy_same Never ConnectionClose e = absurd (other_symbol never_name connection_close_name refl refl e)
expiry_policy_same Never Never e = refl

pub expiry_policy_one : (p q : TerminusExpiryPolicy) → is_symbol_of session_end_name (expiry_policy_item p) ≡ true
    → is_symbol_of session_end_name (expiry_policy_item q) ≡ true → expiry_policy_item p ≡ expiry_policy_item q
expiry_policy_one SessionEnd SessionEnd e f = refl
expiry_policy_one SessionEnd q e f = absurd cc
expiry_policy_one p q e f = absurd cc

pub distribution_mode_again : (m : DistributionMode)
    → distribution_mode_taken (distribution_mode_item m) ≡ Some (distribution_mode_item m)
distribution_mode_again Move =
    limited_again (is_symbol_among distribution_mode_names) symbol_taken (scalar (symbol move_name)) refl refl
distribution_mode_again Copy =
    limited_again (is_symbol_among distribution_mode_names) symbol_taken (scalar (symbol copy_name)) refl refl

pub distribution_mode_same : (m n : DistributionMode) → distribution_mode_item m ≡ distribution_mode_item n → m ≡ n
distribution_mode_same Move Move e = refl
distribution_mode_same Move Copy e = absurd (other_symbol move_name copy_name refl refl e)
distribution_mode_same Copy Move e = absurd (other_symbol copy_name move_name refl refl e)
distribution_mode_same Copy Copy e = refl
