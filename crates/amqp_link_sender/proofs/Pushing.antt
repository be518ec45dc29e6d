-- Later transfers, one more behind them.
use Rattle.std.proofs.Common.{◌≡◌, ℕ, ◌+◌, ◌-◌, ◌<◌, ◌≤◌, min, arith, take, drop, length-drop, List, [], ◌∷◌, ◌++◌, Bool, true, false, length, ap, sym, refl, ◌∙◌, append_assoc, append-nil}
use Rattle.std.specs.Prelude.{map, All, ◌==◌, if◌then◌else◌}
use Rattle.std.specs.Int.{div_ceil}
use Rattle.std.proofs.lemmas.Bool.Decides.{nat_tests}
use Rattle.std.proofs.lemmas.List.{take-append-drop, length-take}
use Rattle.std.specs.List.{concat}
use Rattle.std.proofs.lemmas.List.Folds.{concat-append}
use Rattle.std.proofs.lemmas.List.{map-append}
use Rattle.amqp_session_types.specs.declared.handles.Handle.{Handle}
use Rattle.amqp_session_outgoing.specs.declared.frames.Outbound.{Outbound}
use Rattle.amqp_session_core.specs.declared.batch.TransferFrame.{TransferFrame}
use Rattle.amqp_session_core.specs.declared.batch.BehindFrame.{BehindFrame}
use Rattle.amqp_session_core.specs.Batch.{Transfers, continuation_of}
use Rattle.amqp_link_sender.specs.Splitting.{bytes_of, later, more_behind, some_left, AreLater}
use Rattle.amqp_link_sender.proofs.Counting.{ceil-none, ceil-step}

-- whether any stand behind, where more are still to come or not
abbrev pub behind : Bool → Transfers → Bool
behind more [] = more
behind more (u ∷ us) = true

-- later transfers of a delivery of which more are still to come or not
abbrev pub AreSoFar : Handle → Bool → Transfers → Type 0
AreSoFar handle more [] = Unit {0}
AreSoFar handle more (u ∷ us) = (u ≡ continuation_of (later handle (behind more us)) (bytes_of u)) × AreSoFar handle more us

behind-pushed : (more : Bool) (us : Transfers) (u : Outbound TransferFrame BehindFrame) → behind true us ≡ behind more (us ++ u ∷ [])
behind-pushed more [] u = refl
behind-pushed more (x ∷ us) u = refl

pub pushed : (handle : Handle) (more : Bool) (us : Transfers) (bytes : List ℕ) → AreSoFar handle true us → AreSoFar handle more (us ++ continuation_of (later handle more) bytes ∷ [])
pushed handle more [] bytes h = (refl, tt)
pushed handle more (u ∷ us) bytes h =
    (h.0 ∙ ap (λ (b : Bool). continuation_of (later handle b) (bytes_of u)) (behind-pushed more us (continuation_of (later handle more) bytes)), pushed handle more us bytes h.1)

none-behind : (us : Transfers) → behind false us ≡ more_behind us
none-behind [] = refl
none-behind (u ∷ us) = refl

-- none are still to come
pub all-later : (handle : Handle) (us : Transfers) → AreSoFar handle false us → AreLater handle us
all-later handle [] h = tt
all-later handle (u ∷ us) h = (h.0 ∙ ap (λ (b : Bool). continuation_of (later handle b) (bytes_of u)) (none-behind us), all-later handle us h.1)

pub bytes-pushed : (us : Transfers) (u : Outbound TransferFrame BehindFrame) → concat (map bytes_of (us ++ u ∷ [])) ≡ concat (map bytes_of us) ++ bytes_of u
bytes-pushed us u =
    ap (λ (l : List (List ℕ)). concat l) (map-append bytes_of us (u ∷ [])) ∙ concat-append (map bytes_of us) (bytes_of u ∷ [])
    ∙ ap (λ (l : List ℕ). concat (map bytes_of us) ++ l) (append-nil (bytes_of u))

pub none-left : (bytes : List ℕ) → some_left bytes ≡ false → bytes ≡ []
none-left [] h = refl
none-left (x ∷ xs) h = absurd (cc)

pub left-is : (bytes : List ℕ) → 0 < length bytes → some_left bytes ≡ true
left-is [] h = absurd (omega arith)
left-is (x ∷ xs) h = refl

pub some-long : (bytes : List ℕ) → some_left bytes ≡ true → 0 < length bytes
some-long [] h = absurd (cc)
some-long (x ∷ xs) h = omega arith

pub left-test : (bytes : List ℕ) → (if length bytes == 0 then false else true) ≡ some_left bytes
left-test [] = refl
left-test (x ∷ xs) = grind (arith, nat_tests)

-- more follow the first transfer exactly where bytes are left
pub more-is : (us : Transfers) (rest : List ℕ) (room : ℕ) → 0 < room → length us ≡ div_ceil (length rest) room → some_left rest ≡ more_behind us
more-is [] [] room h e = refl
more-is (u ∷ us) [] room h e = absurd (let n : length (u ∷ us) ≡ 0 = e ∙ ceil-none room h in omega arith)
more-is [] (x ∷ xs) room h e = absurd (let n : length none ≡ 1 + div_ceil (length (x ∷ xs) - min (length (x ∷ xs)) room) room = e ∙ ceil-step (length (x ∷ xs)) room h (omega arith) in not-more (div_ceil (length (x ∷ xs) - min (length (x ∷ xs)) room) room) n)
  where
    none : Transfers
    none = []

    not-more : (n : ℕ) → 0 ≡ 1 + n → ⊥
    not-more n e = omega arith
more-is (u ∷ us) (x ∷ xs) room h e = refl

-- a piece and what is left behind it
pub parted : (rest piece left : List ℕ) (n : ℕ) → piece ≡ take n rest → left ≡ drop n rest → piece ++ left ≡ rest
parted rest piece left n front back = ap (λ (l : List ℕ). l ++ left) front ∙ ap (λ (l : List ℕ). take n rest ++ l) back ∙ take-append-drop n rest

pub piece-short : (rest piece : List ℕ) (n room : ℕ) → piece ≡ take n rest → n ≡ min (length rest) room → length piece ≤ room
piece-short rest piece n room front least = omega (arith, ap (λ (l : List ℕ). length l) front, length-take n rest)

pub left-size : (rest left : List ℕ) (n room : ℕ) → left ≡ drop n rest → n ≡ min (length rest) room → length left ≡ length rest - min (length rest) room
left-size rest left n room back least = omega (arith, ap (λ (l : List ℕ). length l) back, length-drop n rest)

pub left-smaller : (rest left : List ℕ) (n room : ℕ) → left ≡ drop n rest → n ≡ min (length rest) room → 0 < room → 0 < length rest → length left < length rest
left-smaller rest left n room back least h g = omega (arith, ap (λ (l : List ℕ). length l) back, length-drop n rest)

pub ruleset left_tests = (left-test)
