-- Laws of streams of pieces, whatever a piece means.
use Rattle.std.proofs.Common.{◌≡◌, ℕ, ◌+◌, ◌<◌, ◌≤◌, zero, suc, inl, inr, List, [], ◌∷◌, ◌++◌, length, take, drop, ◌^◌, Option, Some, None, refl, sym, ◌∙◌, ap, subst, arith, append_assoc, length-append}
use Rattle.std.specs.Prelude.{All}
use Rattle.std.specs.Int.{w32, to_be_bytes, from_be_bytes}
use Rattle.std.proofs.lemmas.List.{take-append-le}
use Rattle.std.proofs.lemmas.List.Elements.{All-head, All-tail}
use Rattle.std.proofs.lemmas.Nat.{from_be_bytes-to_be_bytes_4}
use Rattle.serde_amqp_item.specs.Canon.{◌>>=◌}
use Rattle.amqp_session_frames.specs.Cutting.{said_size, IsSized, IsPiece, IsPartial, ReadsAs, written, joined, Cut, with_size}

-- fronts of one length
pub same_fronts : (a b x y : List ℕ) → length a ≡ length b → a ++ x ≡ b ++ y → (a ≡ b) × (x ≡ y)
same_fronts [] [] x y n e = (refl, e)
same_fronts [] (d ∷ b) x y n e = absurd (omega arith)
same_fronts (c ∷ a) [] x y n e = absurd (omega arith)
same_fronts (c ∷ a) (d ∷ b) x y n e =
    let head : c ≡ d = cc in
    let tail : a ++ x ≡ b ++ y = cc in
    let both : (a ≡ b) × (x ≡ y) = same_fronts a b x y (omega arith) tail in
    let e0 : a ≡ b = both.0 in
    (cc, both.1)

-- what follows does not change what the first four bytes say
pub said_size-append : (a x : List ℕ) → 4 ≤ length a → said_size (a ++ x) ≡ said_size a
said_size-append a x le = ap (from_be_bytes w32) (take-append-le 4 a x le)

-- bytes have one front that is as long as it says
pub sized_same : (a b x y : List ℕ) → IsSized a → IsSized b → a ++ x ≡ b ++ y → (a ≡ b) × (x ≡ y)
sized_same a b x y s t e =
    let says : length a ≡ length b = sym s.size ∙ (sym (said_size-append a x s.least) ∙ (ap said_size e ∙ (said_size-append b y t.least ∙ t.size))) in
    same_fronts a b x y says e

-- less than a piece has no piece in front
pub partial_has_none : (rest front more : List ℕ) → IsPartial rest → rest ≡ front ++ more → IsSized front → ⊥
partial_has_none rest front more (inl lt) e s = omega (arith, lt, s.least, ap length e, length-append front more)
partial_has_none rest front more (inr lt) e s =
    let says : said_size rest ≡ length front = ap said_size e ∙ (said_size-append front more s.least ∙ s.size) in
    omega (arith, lt, says, ap length e, length-append front more)

-- with its size in front a piece is as long as it says
pub with_size-sized : (piece : List ℕ) → 4 + length piece < 2 ^ 32 → IsSized (with_size piece)
with_size-sized piece lt = record {
  least = omega (arith, length-append (to_be_bytes w32 (4 + length piece)) piece);
  size = from_be_bytes-to_be_bytes_4 (4 + length piece) lt ∙ sym (length-append (to_be_bytes w32 (4 + length piece)) piece);
}

-- each meaning is one of a piece that is as long as it says, and a piece has one
pub record IsLawful {F : Type 0} (P : List ℕ → F → Type 0) : Type 0 where
  pub sized : (front : List ℕ) (f : F) → P front f → IsSized front
  pub one : (front : List ℕ) (f g : F) → P front f → P front g → f ≡ g

module _ {F : Type 0} (P : List ℕ → F → Type 0) where
  -- one more is read
  pub reads_more : (bytes : List ℕ) (fs : List F) (f : F) (front more rest : List ℕ) → ReadsAs P bytes fs rest → rest ≡ front ++ more → P front f → ReadsAs P bytes (fs ++ f ∷ []) more
  reads_more bytes [] f front more rest r e d = (front, more, r ∙ e, d, refl)
  reads_more bytes (g ∷ fs) f front more rest (a, b, whole, decoded, r) e d = (a, b, whole, decoded, reads_more b fs f front more rest r e d)

  -- reading goes on
  pub reads-append : (bytes : List ℕ) (a b : List F) (mid rest more : List ℕ) → ReadsAs P bytes a mid → ReadsAs P (mid ++ more) b rest → ReadsAs P (bytes ++ more) (a ++ b) rest
  reads-append bytes [] b mid rest more r s = rw r s
  reads-append bytes (f ∷ a) b mid rest more (front, left, whole, decoded, r) s =
      (front, left ++ more, ap (λ x. x ++ more) whole ∙ append_assoc front left more, decoded, reads-append left a b mid rest more r s)

  -- a front of what is read is read
  pub reads-take : (bytes : List ℕ) (fs : List F) (rest : List ℕ) (n : ℕ) → ReadsAs P bytes fs rest → (left : List ℕ) × ReadsAs P bytes (take n fs) left × ReadsAs P left (drop n fs) rest
  reads-take bytes fs rest zero r = (bytes, refl, r)
  reads-take bytes [] rest (suc n) r = (bytes, refl, r)
  reads-take bytes (f ∷ fs) rest (suc n) (front, b, whole, decoded, r) =
      let (left, s, t) = reads-take b fs rest n r in
      (left, (front, b, whole, decoded, s), t)

  -- a stream is read in one way up to less than a piece
  pub reads_unique : IsLawful P → (bytes : List ℕ) (a b : List F) (l m : List ℕ) → ReadsAs P bytes a l → ReadsAs P bytes b m → IsPartial l → IsPartial m → (a ≡ b) × (l ≡ m)
  reads_unique law bytes [] [] l m r s p q = (refl, sym r ∙ s)
  reads_unique law bytes [] (g ∷ b) l m r (front, more, whole, decoded, s) p q = absurd (partial_has_none l front more p (sym r ∙ whole) (law.sized front g decoded))
  reads_unique law bytes (f ∷ a) [] l m (front, more, whole, decoded, r) s p q = absurd (partial_has_none m front more q (sym s ∙ whole) (law.sized front f decoded))
  reads_unique law bytes (f ∷ a) (g ∷ b) l m (front, more, whole, decoded, r) (front2, more2, whole2, decoded2, s) p q =
      let parts = sized_same front front2 more more2 (law.sized front f decoded) (law.sized front2 g decoded2) (sym whole ∙ whole2) in
      let there : P front g = subst (λ (x : List ℕ). P x g) (sym parts.0) decoded2 in
      let onward : ReadsAs P more b m = subst (λ (x : List ℕ). ReadsAs P x b m) (sym parts.1) s in
      let others = reads_unique law more a b l m r onward p q in
      (ap (λ x. x ∷ a) (law.one front f g decoded there) ∙ ap (λ x. g ∷ x) others.0, others.1)

  -- what is read of a front of the bytes is a front of what is read of them
  pub reads_front : IsLawful P → (bytes more : List ℕ) (taken all : List F) (rest left : List ℕ) → ReadsAs P bytes taken rest → ReadsAs P (bytes ++ more) all left → IsPartial left → (others : List F) × (all ≡ taken ++ others) × ReadsAs P (rest ++ more) others left
  reads_front law bytes more [] all rest left r s p = (all, refl, subst (λ (x : List ℕ). ReadsAs P (x ++ more) all left) r s)
  reads_front law bytes more (f ∷ fs) [] rest left (front, b, whole, decoded, r) s p =
      absurd (partial_has_none left front (b ++ more) p (sym s ∙ (ap (λ x. x ++ more) whole ∙ append_assoc front b more)) (law.sized front f decoded))
  reads_front law bytes more (f ∷ fs) (g ∷ gs) rest left (front, b, whole, decoded, r) (front2, b2, whole2, decoded2, s) p =
      let parts = sized_same front front2 (b ++ more) b2 (law.sized front f decoded) (law.sized front2 g decoded2) (sym (append_assoc front b more) ∙ (ap (λ x. x ++ more) (sym whole) ∙ whole2)) in
      let there : P front g = subst (λ (x : List ℕ). P x g) (sym parts.0) decoded2 in
      let onward : ReadsAs P (b ++ more) gs left = subst (λ (x : List ℕ). ReadsAs P x gs left) (sym parts.1) s in
      let (others, e, t) = reads_front law b more fs gs rest left r onward p in
      (others, ap (λ x. x ∷ gs) (sym (law.one front f g decoded there)) ∙ ap (λ x. f ∷ x) e, t)

-- each is written as a piece that means it
abbrev pub AllRead : {F : Type 0} → (List ℕ → F → Type 0) → (F → Option (List ℕ)) → List F → Type 0
AllRead P text [] = Unit {0}
AllRead P text (f ∷ fs) = ((bytes : List ℕ) → text f ≡ Some bytes → P bytes f) × AllRead P text fs

-- the two parts of a text
bind_both : (o p : Option (List ℕ)) (bytes : List ℕ) → (o >>= λ a. p >>= λ b. Some (a ++ b)) ≡ Some bytes → (a : List ℕ) × (b : List ℕ) × (o ≡ Some a) × (p ≡ Some b) × (a ++ b ≡ bytes)
bind_both None p bytes e = absurd cc
bind_both (Some a) None bytes e = absurd cc
bind_both (Some a) (Some b) bytes e = (a, b, refl, refl, cc)

module _ {F : Type 0} (text : F → Option (List ℕ)) where
  -- texts one behind the other
  pub written-append : (a b : List F) (x y : List ℕ) → written text a ≡ Some x → written text b ≡ Some y → written text (a ++ b) ≡ Some (x ++ y)
  written-append [] b x y e d =
      let is : x ≡ [] = cc in
      rw is d
  written-append (f ∷ a) b x y e d =
      let (p, q, here, there, whole) = bind_both (text f) (written text a) x e in
      let onward : written text (a ++ b) ≡ Some (q ++ y) = written-append a b q y there d in
      ap (λ (o : Option (List ℕ)). o >>= λ s. written text (a ++ b) >>= λ t. Some (s ++ t)) here
      ∙ (ap (λ (o : Option (List ℕ)). o >>= λ t. Some (p ++ t)) onward ∙ ap Some (sym (append_assoc p q y) ∙ ap (λ s. s ++ y) whole))

  -- what is written is read back
  pub written_reads : (P : List ℕ → F → Type 0) (fs : List F) (bytes : List ℕ) → AllRead P text fs → written text fs ≡ Some bytes → ReadsAs P bytes fs []
  written_reads P [] bytes good e = cc
  written_reads P (f ∷ fs) bytes good e =
      let (a, b, here, there, whole) = bind_both (text f) (written text fs) bytes e in
      (a, b, sym whole, good.0 a here, written_reads P fs b good.1 there)

  -- What is read of a front of what was written is a front of it, and what is left belongs to the others.
  pub reads_written : (P : List ℕ → F → Type 0) → IsLawful P → (bytes more : List ℕ) (taken sent : List F) (rest : List ℕ) → AllRead P text sent → ReadsAs P bytes taken rest → written text sent ≡ Some (bytes ++ more) → (others : List F) × (sent ≡ taken ++ others) × (written text others ≡ Some (rest ++ more))
  reads_written P law bytes more [] sent rest good r e = (sent, refl, e ∙ ap (λ b. Some (b ++ more)) r)
  reads_written P law bytes more (f ∷ fs) [] rest good (front, b, whole, decoded, r) e =
      let all : [] ≡ bytes ++ more = cc in
      let long = (law.sized front f decoded).least in
      absurd (omega (arith, long, ap length all, length-append bytes more, ap length whole, length-append front b))
  reads_written P law bytes more (f ∷ fs) (q ∷ qs) rest good (front, b, whole, decoded, r) e =
      let (a, c, here, there, apart) = bind_both (text q) (written text qs) (bytes ++ more) e in
      let sent_first : P a q = good.0 a here in
      let parts = sized_same front a (b ++ more) c (law.sized front f decoded) (law.sized a q sent_first) (sym (append_assoc front b more) ∙ (ap (λ x. x ++ more) (sym whole) ∙ sym apart)) in
      let is : f ≡ q = law.one front f q decoded (subst (λ (x : List ℕ). P x q) (sym parts.0) sent_first) in
      let (others, e2, left) = reads_written P law b more fs qs rest good.1 r (there ∙ ap Some (sym parts.1)) in
      (others, ap (λ x. x ∷ qs) (sym is) ∙ ap (λ x. f ∷ x) e2, left)

  -- less than a piece is no text but that of none
  pub partial_written : (P : List ℕ → F → Type 0) → IsLawful P → (rest : List ℕ) (others : List F) → AllRead P text others → IsPartial rest → written text others ≡ Some rest → others ≡ []
  partial_written P law rest [] good p e = refl
  partial_written P law rest (f ∷ fs) good p e =
      let (a, b, here, there, whole) = bind_both (text f) (written text fs) rest e in
      absurd (partial_has_none rest a b p (sym whole) (law.sized a f (good.0 a here)))

is_sized : (piece : List ℕ) → IsPiece piece → IsSized piece
is_sized piece p = record { least = omega (arith, p.least); size = p.size }

pieces_same : (ps qs : List (List ℕ)) (x y : List ℕ) → All IsPiece ps → All IsPiece qs
    → ((piece more : List ℕ) → x ≡ piece ++ more → IsPiece piece → ⊥) → ((piece more : List ℕ) → y ≡ piece ++ more → IsPiece piece → ⊥)
    → joined ps ++ x ≡ joined qs ++ y → (ps ≡ qs) × (x ≡ y)
pieces_same [] [] x y g h n m e = (refl, e)
pieces_same [] (q ∷ qs) x y g h n m e = absurd (n q (joined qs ++ y) (e ∙ append_assoc q (joined qs) y) (All-head IsPiece q qs h))
pieces_same (p ∷ ps) [] x y g h n m e = absurd (m p (joined ps ++ x) (sym e ∙ append_assoc p (joined ps) x) (All-head IsPiece p ps g))
pieces_same (p ∷ ps) (q ∷ qs) x y g h n m e =
    let parts = sized_same p q (joined ps ++ x) (joined qs ++ y) (is_sized p (All-head IsPiece p ps g)) (is_sized q (All-head IsPiece q qs h)) (sym (append_assoc p (joined ps) x) ∙ (e ∙ append_assoc q (joined qs) y)) in
    let others = pieces_same ps qs x y (All-tail IsPiece p ps g) (All-tail IsPiece q qs h) n m parts.1 in
    (ap (λ s. s ∷ ps) parts.0 ∙ ap (λ s. q ∷ s) others.0, others.1)

-- a stream is cut in one way
pub cut_same : (bytes a b : List ℕ) (ps qs : List (List ℕ)) (x y : List ℕ) → Cut bytes a ps x → Cut bytes b qs y → (a ≡ b) × (ps ≡ qs) × (x ≡ y)
cut_same bytes a b ps qs x y c d =
    let parts = same_fronts a b (joined ps ++ x) (joined qs ++ y) (c.eight ∙ sym d.eight) (sym c.whole ∙ d.whole) in
    let others = pieces_same ps qs x y c.each d.each c.none_more d.none_more parts.1 in
    (parts.0, others.0, others.1)
