-- What stands before the content of a value.
use Rattle.std.proofs.Common.{◌≡◌, ℕ, List, [], ◌∷◌, Option, Some, None, Bool, true, false, cond, sym, ◌∙◌, ap, subst, refl, arith}
use Rattle.std.specs.Prelude.{◌==◌}
use Rattle.std.proofs.lemmas.Bool.Decides.{nat_tests}
use Rattle.serde_amqp_item.specs.Canon.{◌>>=◌, Place, alone, first, next, settled}
use Rattle.serde_amqp_ser.specs.Written.{Written, extended}
use Rattle.serde_amqp_ser.specs.Puts.{State, behind, begun, begun_at}
use Rattle.serde_amqp_ser.proofs.Grown.{extended-extended}

-- a state whose sink holds more
abbrev pub more_at : State → List ℕ → State
more_at s body = record { written = extended s.written body; place = s.place }

some_is : (x y : State) → Some x ≡ Some y → x ≡ y
some_is x y e = cc

chosen_at : (b : Bool) (w : Written) (d : ℕ) (t : State) (body : List ℕ) → cond b (Some (record { written = w; place = next d })) None ≡ Some t → behind (record { written = w; place = next d }) (cond b (Some body) None >>= λ a. Some (next d, a)) ≡ Some (more_at t body)
chosen_at true w d t body e = let same : record { written = w; place = next d } ≡ t = some_is _ _ e in ap (λ (x : State). Some (more_at x body)) same
chosen_at false w d t body e = absurd cc

chosen_none : (b : Bool) (w : Written) (d : ℕ) (body : List ℕ) → cond {A = Option State} b (Some (record { written = w; place = next d })) None ≡ None → behind (record { written = w; place = next d }) (cond b (Some body) None >>= λ a. Some (next d, a)) ≡ None
chosen_none true w d body e = absurd cc
chosen_none false w d body e = refl

settled_at : (w : Written) (p : Place) (t : State) (c : ℕ) (body : List ℕ) → begun_at w p c ≡ Some t → behind (record { written = w; place = p }) (settled p (c, body)) ≡ Some (more_at t body)
settled_at w alone t c body e =
    let same : record { written = extended w (c ∷ []); place = alone } ≡ t = some_is _ _ e in
    ap (λ (x : Written). Some (record { written = x; place = alone })) (sym (extended-extended w (c ∷ []) body)) ∙ ap (λ (x : State). Some (more_at x body)) same
settled_at w first t c body e =
    let same : record { written = extended w (c ∷ []); place = next c } ≡ t = some_is _ _ e in
    ap (λ (x : Written). Some (record { written = x; place = next c })) (sym (extended-extended w (c ∷ []) body)) ∙ ap (λ (x : State). Some (more_at x body)) same
settled_at w (next d) t c body e = chosen_at (c == d) w d t body e

pub settled_begun : (w : Written) (p : Place) (c : ℕ) (body : List ℕ) (v now : Written) (q : Place) → begun (record { written = w; place = p }) c ≡ Some (record { written = v; place = q }) → now ≡ extended v body → behind (record { written = w; place = p }) (settled p (c, body)) ≡ Some (record { written = now; place = q })
settled_begun w p c body v now q e f = settled_at w p (record { written = v; place = q }) c body e ∙ ap (λ (x : Written). Some (record { written = x; place = q })) (sym f)

pub settled_none : (w : Written) (p : Place) (c : ℕ) (body : List ℕ) → begun (record { written = w; place = p }) c ≡ None → behind (record { written = w; place = p }) (settled p (c, body)) ≡ None
settled_none w alone c body e = absurd cc
settled_none w first c body e = absurd cc
settled_none w (next d) c body e = chosen_none (c == d) w d body e

-- a wide form behind what a sink holds
pub closed_alone : (w now : Written) (p : Place) (c : ℕ) (body : List ℕ) → p ≡ alone → now ≡ extended w (c ∷ body) → behind (record { written = w; place = p }) (settled p (c, body)) ≡ Some (record { written = now; place = p })
closed_alone w now p c body e f = subst (λ (q : Place). behind (record { written = w; place = q }) (settled q (c, body)) ≡ Some (record { written = now; place = q })) (sym e) (ap (λ (x : Written). Some (record { written = x; place = alone })) (sym f))

pub closed_first : (w now : Written) (p : Place) (c : ℕ) (body : List ℕ) → p ≡ first → now ≡ extended w (c ∷ body) → behind (record { written = w; place = p }) (settled p (c, body)) ≡ Some (record { written = now; place = next c })
closed_first w now p c body e f = subst (λ (q : Place). behind (record { written = w; place = q }) (settled q (c, body)) ≡ Some (record { written = now; place = next c })) (sym e) (ap (λ (x : Written). Some (record { written = x; place = next c })) (sym f))

pub closed_next : (w now : Written) (p : Place) (d c : ℕ) (body : List ℕ) → p ≡ next d → d ≡ c → now ≡ extended w body → behind (record { written = w; place = p }) (settled p (c, body)) ≡ Some (record { written = now; place = p })
closed_next w now p d c body e g f =
    let t : (c == d) ≡ true = grind (arith, nat_tests) in
    subst (λ (q : Place). behind (record { written = w; place = q }) (settled q (c, body)) ≡ Some (record { written = now; place = q })) (sym e) (
    ap (λ (b : Bool). behind (record { written = w; place = next d }) (cond b (Some body) None >>= λ a. Some (next d, a))) t
    ∙ ap (λ (x : Written). Some (record { written = x; place = next d })) (sym f)
    )

pub ruleset begins = (settled_begun, settled_none)
