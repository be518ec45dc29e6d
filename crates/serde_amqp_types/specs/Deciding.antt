-- Bytes give one array, and one described value.
use Rattle.std.proofs.Common.{◌≡◌, ◌≢◌, ℕ, List, [], ◌∷◌, Option, Some, None, sym, ◌∙◌, ap, refl}
use Rattle.serde_amqp_item.specs.Item.{Item, scalar, null, ulong, symbol, raw, array, described, items_of}
use Rattle.serde_amqp_item.specs.Wire.{Wire}
use Rattle.serde_amqp_item.specs.Kind.{Kind, null_kind, array_kind}
use Rattle.serde_amqp_de.specs.Takes.{kind_seen, elements_taken, unless_several}
use Rattle.serde_amqp_de.specs.Decides.{Decided}
use Rattle.serde_amqp_item.specs.Canon.{WithoutRaw, ◌>>=◌}
use Rattle.serde_amqp_de.specs.Apart.{described_together}
use Rattle.serde_amqp_de.specs.Deciding.{seen_same, elements_decided, as_it_is_decided}
use Rattle.serde_amqp_types.specs.Takes.{as_one, array_or_one_taken, any_descriptor_taken, described_with}

unless_same : (t : Option Kind) (o : Option Item) → t ≢ Some null_kind → t ≢ Some array_kind → unless_several t o ≡ o
unless_same None o n m = refl
unless_same (Some null_kind) o n m = absurd (n refl)
unless_same (Some array_kind) o n m = absurd (m refl)
unless_same (Some t) o n m = refl

-- of an item that is seen to be neither null nor an array one element is taken
pub one_same : (take : Item → Option Item) (x : Item) → kind_seen x ≢ Some null_kind → kind_seen x ≢ Some array_kind
    → array_or_one_taken take x ≡ as_one (take x)
unfolding array_or_one_taken
one_same take (raw text) n m = unless_same (kind_seen (raw text)) (as_one (take (raw text))) n m
one_same take (array xs) n m = absurd (m refl)
one_same take (scalar null) n m = absurd (n refl)
one_same take (scalar s) n m = refl
one_same take x n m = refl

-- of an item that is seen to be an array its elements are taken
pub elements_same : (take : Item → Option Item) (x : Item) → kind_seen x ≡ Some array_kind
    → array_or_one_taken take x ≡ elements_taken take x
unfolding array_or_one_taken elements_taken
elements_same take (raw text) e = ap (λ (t : Option Kind). unless_several t (as_one (take (raw text)))) e
elements_same take (array xs) e = refl
elements_same take (scalar null) e = absurd cc
elements_same take (scalar s) e = absurd cc
elements_same take x e = absurd cc

-- an item that is seen to be null is not taken
pub null_refused : (take : Item → Option Item) (x : Item) → kind_seen x ≡ Some null_kind
    → array_or_one_taken take x ≡ None
unfolding array_or_one_taken
null_refused take (raw text) e = ap (λ (t : Option Kind). unless_several t (as_one (take (raw text)))) e
null_refused take (array xs) e = absurd cc
null_refused take (scalar null) e = refl
null_refused take (scalar s) e = absurd cc
null_refused take x e = absurd cc

-- null, an array, or neither
data Three : Option Kind → Type 0 where
  is_null : Three (Some null_kind)
  is_array : Three (Some array_kind)
  is_other : {t : Option Kind} → t ≢ Some null_kind → t ≢ Some array_kind → Three t

three : (t : Option Kind) → Three t
three None = is_other (λ e. cc) (λ e. cc)
three (Some null_kind) = is_null
three (Some array_kind) = is_array
three (Some t) = is_other (λ e. cc) (λ e. cc)

as_one_decided : (p q : Option Item) (u v : Item) → ((m n : Item) → p ≡ Some m → q ≡ Some n → m ≡ n) → as_one p ≡ Some u
    → as_one q ≡ Some v → u ≡ v
as_one_decided None q u v d e f = absurd cc
as_one_decided (Some m) None u v d e f = absurd cc
as_one_decided (Some m) (Some n) u v d e f =
    let same = ap (λ (y : Item). array (items_of (y ∷ []))) (d m n refl refl) in
    cc

by_kind : (take : Item → Option Item) → Decided take
    → (x y : Item) (k : Option ℕ) (a : List ℕ) (u v : Item) (t : Option Kind) → Three t → kind_seen x ≡ t
    → kind_seen y ≡ t → Wire x k a → Wire y k a → array_or_one_taken take x ≡ Some u
    → array_or_one_taken take y ≡ Some v → u ≡ v
by_kind take d x y k a u v _ is_null m n g h e f = let none : None ≡ Some u =
    sym (null_refused take x m) ∙ e in absurd cc
by_kind take d x y k a u v _ is_array m n g h e f =
    elements_decided take d x y k a u v g h (sym (elements_same take x m) ∙ e) (sym (elements_same take y n) ∙ f)
by_kind take d x y k a u v _ (is_other p q) m n g h e f =
    as_one_decided (take x) (take y) u v (λ i j s t. d x y k a i j g h s t)
    (sym (one_same take x (λ z. p (sym m ∙ z)) (λ z. q (sym m ∙ z))) ∙ e)
    (sym (one_same take y (λ z. p (sym n ∙ z)) (λ z. q (sym n ∙ z))) ∙ f)

pub array_or_one_decided : (take : Item → Option Item) → Decided take → Decided (array_or_one_taken take)
array_or_one_decided take d x y k a u v g h e f =
    by_kind take d x y k a u v (kind_seen x) (three (kind_seen x)) refl (sym (seen_same x y k a g h)) g h e f

descriptor_as_it_is : (x u : Item) → any_descriptor_taken x ≡ Some u → (x ≡ u) × WithoutRaw x
unfolding any_descriptor_taken
descriptor_as_it_is (scalar (ulong n)) u e = (cc, tt)
descriptor_as_it_is (scalar (symbol bs)) u e = (cc, tt)
descriptor_as_it_is (scalar s) u e = absurd cc
descriptor_as_it_is x u e = absurd cc

pub any_descriptor_decided : Decided any_descriptor_taken
any_descriptor_decided = as_it_is_decided any_descriptor_taken descriptor_as_it_is

-- what is made of a descriptor and a value
both_taken : (o p : Option Item) (u : Item) → (o >>= λ c. p >>= λ y. Some (described c y)) ≡ Some u
    → (c : Item) × (y : Item) × (o ≡ Some c) × (p ≡ Some y) × (u ≡ described c y)
both_taken None p u e = absurd cc
both_taken (Some c) None u e = absurd cc
both_taken (Some c) (Some y) u e = (c, y, refl, refl, cc)

pub described_with_decided : (take : Item → Option Item) → Decided take → Decided (described_with take)
unfolding described_with
described_with_decided take all (described d v) (described e w) k a u z g h i j =
    let t = described_together d v e w k a g h in
    let p = both_taken (any_descriptor_taken d) (take v) u i in
    let q = both_taken (any_descriptor_taken e) (take w) z j in
    let first : p.0 ≡ q.0 = any_descriptor_decided d e None t.first p.0 q.0 t.first_left t.first_right p.2 q.2 in
    let second : p.1 ≡ q.1 = all v w None t.second p.1 q.1 t.second_left t.second_right p.3 q.3 in
    p.4 ∙ (ap (λ (c : Item). described c p.1) first ∙ (ap (λ (y : Item). described q.0 y) second ∙ sym q.4))
described_with_decided take all (described d v) y k a u z g h i j = absurd cc
described_with_decided take all x y k a u z g h i j = absurd cc
