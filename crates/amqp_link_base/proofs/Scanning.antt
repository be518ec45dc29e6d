-- A scan goes on by a byte.
use Rattle.std.proofs.Common.{◌≡◌, ℕ, ◌+◌, ◌-◌, ◌<◌, ◌≤◌, List, [], ◌∷◌, ◌++◌, length, arith, Bool, true, false, ap, sym, refl, ◌∙◌, get_or, ⊎_elim, length-append, append_assoc, take, drop, subst}
use Rattle.std.specs.Prelude.{Some, None, ◌==◌, ◌&&◌, if◌then◌else◌, nat_lt, slice_index, slice_get}
use Rattle.std.proofs.lemmas.Bool.{cases_lt}
use Rattle.std.proofs.lemmas.Bool.Decides.{nat_tests}
use Rattle.std.proofs.lemmas.List.{get_or_append_left, append-nil, take_more, take-append-drop, length-take}
use Rattle.std.proofs.lemmas.Option.{slice_get_past}
use Rattle.std.proofs.Math.Seq.{get_or-append_seam}
use Rattle.std.proofs.lemmas.Grind.{common_steps}
use Rattle.amqp_link_base.specs.Starts.{is_code, is_section, stands_at, starts, last_or, place_at, start_of}
use Rattle.amqp_link_base.specs.Followed.{is_ended, followed, code_or_nothing}
use Rattle.amqp_link_base.specs.Scans.{Scanned, matched_in}
use Rattle.amqp_link_base.specs.declared.scan.Scan.{Scan}
use Rattle.amqp_session_states.specs.declared.received.Received.{Received}
use Rattle.amqp_link_base.specs.declared.scan.Matched.{Matched}
use Rattle.amqp_link_base.specs.declared.scan.Matched.TheVariants.{Nothing, Zero, Code}
use Rattle.amqp_link_base.proofs.Starting.{starts-append, starts-more, last-within, added, last_or-append, start-found}

code-not-zero : (b : ℕ) → (b == 0) ≡ true → is_code b ≡ false
code-not-zero b h = grind (arith, nat_tests)

byte-table : (b0 bc p0 pc q0 : Bool) (b : ℕ) → is_code b ≡ bc → (b0 ≡ true → bc ≡ false) → (p0 ≡ true → pc ≡ false)
    → (if p0 && bc then Code else (if b0 then Zero else Nothing)) ≡ (if b0 then Zero else code_or_nothing (if q0 && pc then Code else (if p0 then Zero else Nothing)) b)
byte-table true true p0 pc q0 b e h g = absurd (cc (h refl))
byte-table true false true pc q0 b e h g = refl
byte-table true false false pc q0 b e h g = refl
byte-table false bc true true q0 b e h g = absurd (cc (g refl))
byte-table false bc true false true b e h g = rw e refl
byte-table false bc true false false b e h g = rw e refl
byte-table false bc false true true b e h g = refl
byte-table false bc false true false b e h g = refl
byte-table false bc false false true b e h g = refl
byte-table false bc false false false b e h g = refl

-- the last byte, and the one before it, of one byte more
last-is : (xs : List ℕ) (b : ℕ) → slice_index (xs ++ b ∷ []) (length (xs ++ b ∷ []) - 1) ≡ b
last-is xs b =
    let e : length (xs ++ b ∷ []) - 1 ≡ length xs = omega (arith, length-append xs (b ∷ [])) in
    rw e (get_or-append_seam xs b [] 0)

before-is : (xs : List ℕ) (b : ℕ) → 0 < length xs → slice_index (xs ++ b ∷ []) (length (xs ++ b ∷ []) - 2) ≡ slice_index xs (length xs - 1)
before-is xs b h =
    let e : length (xs ++ b ∷ []) - 2 ≡ length xs - 1 = omega (arith, length-append xs (b ∷ [])) in
    rw e (get_or_append_left xs (b ∷ []) 0 (length xs - 1) (omega arith))

some-more : (xs : List ℕ) (b : ℕ) → nat_lt 0 (length (xs ++ b ∷ [])) ≡ true
some-more xs b =
    let e : length (xs ++ b ∷ []) ≡ length xs + 1 = length-append xs (b ∷ []) in
    rw e (grind (arith, nat_tests))

matched-first : (b : ℕ) → matched_in (b ∷ []) ≡ followed (matched_in []) b
matched-first b = grind (arith, nat_tests)

matched-next : (xs : List ℕ) (b : ℕ) → 0 < length xs → matched_in (xs ++ b ∷ []) ≡ followed (matched_in xs) b
matched-next xs b h =
    let some : nat_lt 0 (length xs) ≡ true = grind (arith, nat_tests) in
    rw (before-is xs b h, last-is xs b, some-more xs b, some)
    (byte-table (b == 0) (is_code b) (slice_index xs (length xs - 1) == 0) (is_code (slice_index xs (length xs - 1))) (slice_index xs (length xs - 2) == 0) b refl
    (λ e. code-not-zero b e) (λ e. code-not-zero (slice_index xs (length xs - 1)) e))

pub matched-more : (xs : List ℕ) (b : ℕ) → matched_in (xs ++ b ∷ []) ≡ followed (matched_in xs) b
matched-more [] b = matched-first b
matched-more (x ∷ xs) b = matched-next (x ∷ xs) b (omega arith)

ended-table : (q0 pc p0 : Bool) (b : ℕ) → (q0 && pc && is_section b) ≡ is_ended (if q0 && pc then Code else (if p0 then Zero else Nothing)) b
ended-table true true p0 b = refl
ended-table true false true b = refl
ended-table true false false b = refl
ended-table false pc true b = refl
ended-table false pc false b = refl

-- the byte completes a descriptor
ended-is : (xs : List ℕ) (b : ℕ) → 2 < length xs → stands_at (xs ++ b ∷ []) (length xs - 2) ≡ is_ended (matched_in xs) b
ended-is xs b h =
    let i1 : (length xs - 2) + 1 ≡ length xs - 1 = omega arith in
    let i2 : (length xs - 2) + 2 ≡ length xs = omega arith in
    let a : get_or (xs ++ b ∷ []) (length xs - 2) 0 ≡ get_or xs (length xs - 2) 0 = get_or_append_left xs (b ∷ []) 0 (length xs - 2) (omega arith) in
    let p : get_or (xs ++ b ∷ []) (length xs - 1) 0 ≡ get_or xs (length xs - 1) 0 = get_or_append_left xs (b ∷ []) 0 (length xs - 1) (omega arith) in
    let some : nat_lt 0 (length xs) ≡ true = grind (arith, nat_tests) in
    rw (i1, i2, a, p, get_or-append_seam xs b [] 0, some)
    (ended-table (slice_index xs (length xs - 2) == 0) (is_code (slice_index xs (length xs - 1))) (slice_index xs (length xs - 1) == 0) b)

long-of : (n : ℕ) (b : Bool) → (nat_lt 2 n && b) ≡ true → 2 < n
long-of n b h = grind (arith, nat_tests, common_steps)

test-is : (s : Scan) (xs : List ℕ) (b : ℕ) (is : Bool) → Scanned s xs → (nat_lt 2 s.size && is_ended s.matched b) ≡ is → (nat_lt 2 (length xs) && is_ended (matched_in xs) b) ≡ is
test-is s xs b is old test =
    ap (λ (n : ℕ). nat_lt 2 n && is_ended (matched_in xs) b) (sym old.size) ∙ ap (λ (m : Matched). nat_lt 2 s.size && is_ended m b) (sym old.matched) ∙ test

-- whether a section starts with the byte
pub start-is : (xs : List ℕ) (b : ℕ) → (nat_lt 2 (length xs) && stands_at (xs ++ b ∷ []) (length xs - 2)) ≡ (nat_lt 2 (length xs) && is_ended (matched_in xs) b)
start-is xs b =
    ⊎_elim (λ (h : length xs < 3). let g : nat_lt 2 (length xs) ≡ false = grind (arith, nat_tests) in rw g refl)
    (λ (h : 3 ≤ length xs). let g : nat_lt 2 (length xs) ≡ true = grind (arith, nat_tests) in rw (g, ended-is xs b (omega arith)) refl)
    (cases_lt (length xs) 3)

starts-next : (xs : List ℕ) (b : ℕ) (is : Bool) → (nat_lt 2 (length xs) && is_ended (matched_in xs) b) ≡ is
    → starts (xs ++ b ∷ []) (length (xs ++ b ∷ [])) ≡ starts xs (length xs) ++ (if is then (length xs - 2) ∷ [] else [])
starts-next xs b is e =
    let len : length (xs ++ b ∷ []) ≡ length xs + 1 = length-append xs (b ∷ []) in
    let more : starts (xs ++ b ∷ []) (length xs + 1) ≡ starts (xs ++ b ∷ []) (length xs) ++ added (xs ++ b ∷ []) (length xs) = starts-more (xs ++ b ∷ []) (length xs) in
    let front : starts (xs ++ b ∷ []) (length xs) ≡ starts xs (length xs) = starts-append xs (b ∷ []) (length xs) (omega arith) in
    let test : (nat_lt 2 (length xs) && stands_at (xs ++ b ∷ []) (length xs - 2)) ≡ is = start-is xs b ∙ e in
    ap (λ (n : ℕ). starts (xs ++ b ∷ []) n) len ∙ more ∙ ap (λ (l : List ℕ). l ++ added (xs ++ b ∷ []) (length xs)) front
    ∙ ap (λ (v : Bool). starts xs (length xs) ++ (if v then (length xs - 2) ∷ [] else [])) test

pub scanned-start : (s t : Scan) (xs : List ℕ) (b : ℕ) → Scanned s xs → (nat_lt 2 s.size && is_ended s.matched b) ≡ true
    → t.size ≡ s.size + 1 → t.section ≡ s.section + 1 → t.offset ≡ 3 → t.matched ≡ followed s.matched b → Scanned t (xs ++ b ∷ [])
scanned-start s t xs b old test size section offset matched =
    let len : length (xs ++ b ∷ []) ≡ length xs + 1 = length-append xs (b ∷ []) in
    let is : (nat_lt 2 (length xs) && is_ended (matched_in xs) b) ≡ true = test-is s xs b true old test in
    let long : 2 < length xs = long-of (length xs) (is_ended (matched_in xs) b) is in
    let next : starts (xs ++ b ∷ []) (length (xs ++ b ∷ [])) ≡ starts xs (length xs) ++ (length xs - 2) ∷ [] = starts-next xs b true is in
    let last : last_or (starts xs (length xs) ++ (length xs - 2) ∷ []) 0 ≡ length xs - 2 = last_or-append (starts xs (length xs)) (length xs - 2) 0 in
    let count : t.section ≡ length (starts xs (length xs) ++ (length xs - 2) ∷ []) - 1 = omega (arith, old.section, length-append (starts xs (length xs)) ((length xs - 2) ∷ [])) in
    let far : t.offset ≡ length (xs ++ b ∷ []) - last_or (starts xs (length xs) ++ (length xs - 2) ∷ []) 0 = omega arith in
    record {
      size = omega (arith, old.size);
      section = count ∙ ap (λ (l : List ℕ). length l - 1) (sym next);
      offset = far ∙ ap (λ (l : List ℕ). length (xs ++ b ∷ []) - last_or l 0) (sym next);
      matched = matched ∙ ap (λ (m : Matched). followed m b) old.matched ∙ sym (matched-more xs b);
    }

pub scanned-goes : (s t : Scan) (xs : List ℕ) (b : ℕ) → Scanned s xs → (nat_lt 2 s.size && is_ended s.matched b) ≡ false
    → t.size ≡ s.size + 1 → t.section ≡ s.section → t.offset ≡ s.offset + 1 → t.matched ≡ followed s.matched b → Scanned t (xs ++ b ∷ [])
scanned-goes s t xs b old test size section offset matched =
    let len : length (xs ++ b ∷ []) ≡ length xs + 1 = length-append xs (b ∷ []) in
    let is : (nat_lt 2 (length xs) && is_ended (matched_in xs) b) ≡ false = test-is s xs b false old test in
    let next : starts (xs ++ b ∷ []) (length (xs ++ b ∷ [])) ≡ starts xs (length xs) = starts-next xs b false is ∙ append-nil (starts xs (length xs)) in
    let within : last_or (starts xs (length xs)) 0 ≤ length xs = last-within xs (length xs) in
    let far : t.offset ≡ length (xs ++ b ∷ []) - last_or (starts xs (length xs)) 0 = omega (arith, old.offset) in
    record {
      size = omega (arith, old.size);
      section = section ∙ old.section ∙ ap (λ (l : List ℕ). length l - 1) (sym next);
      offset = far ∙ ap (λ (l : List ℕ). length (xs ++ b ∷ []) - last_or l 0) (sym next);
      matched = matched ∙ ap (λ (m : Matched). followed m b) old.matched ∙ sym (matched-more xs b);
    }

pub scanned-take : (s t : Scan) (xs bytes : List ℕ) (i : ℕ) → i < length bytes → Scanned t ((xs ++ take i bytes) ++ get_or bytes i 0 ∷ []) → Scanned t (xs ++ take (i + 1) bytes)
scanned-take s t xs bytes i h now =
    let e : (xs ++ take i bytes) ++ get_or bytes i 0 ∷ [] ≡ xs ++ take (i + 1) bytes =
    append_assoc xs (take i bytes) (get_or bytes i 0 ∷ []) ∙ ap (λ (l : List ℕ). xs ++ l) (sym (take_more bytes i 0 h)) in
    let P : List ℕ → Type 0 = λ l. Scanned t l in
    subst P e now

-- the start of the last section that a scan has met is that of the whole
pub started-at : (s : Scan) (xs rest : List ℕ) (number : ℕ) → Scanned s xs → s.section ≡ number → start_of (xs ++ rest) number ≡ Some (s.size - s.offset)
started-at s xs rest number now e =
    let all : List ℕ = xs ++ rest in
    let within : length xs ≤ length all = omega (arith, length-append xs rest) in
    let same : starts all (length xs) ≡ starts xs (length xs) = starts-append xs rest (length xs) (omega arith) in
    let count : length (starts all (length xs)) - 1 ≡ number = ap (λ (l : List ℕ). length l - 1) same ∙ sym now.section ∙ e in
    let reach : last_or (starts xs (length xs)) 0 ≤ length xs = last-within xs (length xs) in
    let last : last_or (starts all (length xs)) 0 ≡ s.size - s.offset = ap (λ (l : List ℕ). last_or l 0) same ∙ omega (arith, now.size, now.offset) in
    let got : slice_get (starts all (length all)) (length (starts all (length xs)) - 1) ≡ Some (last_or (starts all (length xs)) 0) = start-found all (length xs) within in
    ap (λ (n : ℕ). slice_get (starts all (length all)) n) (sym count) ∙ got ∙ ap (λ (n : ℕ). Some n) last

pub started-last : (s : Scan) (xs : List ℕ) (number : ℕ) → Scanned s xs → s.section ≡ number → start_of xs number ≡ Some (s.size - s.offset)
started-last s xs number now e = ap (λ (l : List ℕ). start_of l number) (sym (append-nil xs)) ∙ started-at s xs [] number now e

-- a section whose number the scan hasn't reached doesn't start
pub not-started : (s : Scan) (xs : List ℕ) (number : ℕ) → Scanned s xs → s.section < number → start_of xs number ≡ None
not-started s xs number now h = slice_get_past (starts xs (length xs)) number (omega (arith, now.section))

-- a section that starts before the next byte starts there in the whole
pub started-within : (s : Scan) (xs bytes rest : List ℕ) (i number : ℕ) → Scanned s (xs ++ take i bytes) → s.section ≡ number
    → start_of ((xs ++ bytes) ++ rest) number ≡ Some (s.size - s.offset)
started-within s xs bytes rest i number now e =
    let parts : (xs ++ take i bytes) ++ (drop i bytes ++ rest) ≡ (xs ++ bytes) ++ rest =
    sym (append_assoc (xs ++ take i bytes) (drop i bytes) rest) ∙ ap (λ (l : List ℕ). l ++ rest) (append_assoc xs (take i bytes) (drop i bytes) ∙ ap (λ (l : List ℕ). xs ++ l) (take-append-drop i bytes)) in
    ap (λ (l : List ℕ). start_of l number) (sym parts) ∙ started-at s (xs ++ take i bytes) (drop i bytes ++ rest) number now e

pub place-of : (payload : List ℕ) (n : ℕ) (s : Scan) (p : Received) → n ≤ length payload → Scanned s (take n payload)
    → p.section_number ≡ s.section → p.section_offset ≡ s.offset → p ≡ place_at payload n
place-of payload n s p h now section offset =
    let front : List ℕ = take n payload in
    let len : length front ≡ n = omega (arith, length-take n payload) in
    let joined : front ++ drop n payload ≡ payload = take-append-drop n payload in
    let same : starts front (length front) ≡ starts payload n = ap (λ (k : ℕ). starts front k) len ∙ sym (starts-append front (drop n payload) n (omega arith)) ∙ ap (λ (l : List ℕ). starts l n) joined in
    let one : p.section_number ≡ length (starts payload n) - 1 = section ∙ now.section ∙ ap (λ (l : List ℕ). length l - 1) same in
    let two : p.section_offset ≡ n - last_or (starts payload n) 0 = offset ∙ now.offset ∙ ap (λ (l : List ℕ). length front - last_or l 0) same ∙ ap (λ (k : ℕ). k - last_or (starts payload n) 0) len in
    ap (λ (k : ℕ). record p { section_number = k }) one ∙ ap (λ (k : ℕ). record (place_at payload n) { section_offset = k }) two
