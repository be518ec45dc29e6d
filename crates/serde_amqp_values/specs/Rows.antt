-- Which composite type is said.
use Rattle.std.proofs.Common.{◌≡◌, ℕ, List, [], ◌∷◌, Bool, true, false, Option, Some, None, sym, ◌∙◌, ap, subst, refl}
use Rattle.std.proofs.Common.{arith}
use Rattle.std.specs.Prelude.{◌==◌, ◌&&◌, not, is_some, if◌then◌else◌, bytes_eq}
use Rattle.std.proofs.lemmas.Bool.Decides.{nat_tests}
use Rattle.serde_amqp_item.specs.Item.{Item, scalar, ulong, symbol, described}
use Rattle.serde_amqp_item.specs.Canon.{◌>>=◌, WithoutRaw}
use Rattle.serde_amqp_de.specs.Takes.{descriptor_taken, record_taken}
use Rattle.serde_amqp_values.specs.Choice.{Row, row_coded, row_named, code_named, row_said, fields_of, choice_taken}
use Rattle.serde_amqp_values.specs.Choice.{code_said, codes_differ}

-- the first one, or one of the others
pub picked : (P : Row → Type 0) (b : Bool) (s r : Row) (o : Option Row) → (if b then Some s else o) ≡ Some r
    → (b ≡ true → P s) → (o ≡ Some r → P r) → P r
picked P true s r o e p q = let same : s ≡ r = cc in subst P same (p refl)
picked P false s r o e p q = q e

equal_numbers : (n d : ℕ) → (n == d) ≡ true → n ≡ d
equal_numbers n d e = grind (arith, nat_tests)

same_number : (n : ℕ) → (n == n) ≡ true
same_number n = grind (arith, nat_tests)

-- the one with this code has it
pub coded_code : (table : List Row) (code : ℕ) (r : Row) → row_coded table code ≡ Some r → r.code ≡ code
coded_code [] code r e = absurd cc
coded_code (s ∷ rs) code r e =
    picked (λ t. t.code ≡ code) (code == s.code) s r (row_coded rs code) e (λ h. sym (equal_numbers code s.code h))
    (λ h. coded_code rs code r h)

-- the one with this name has it
pub named_name : (table : List Row) (name : List ℕ) (r : Row) → row_named table name ≡ Some r
    → bytes_eq name r.name ≡ true
named_name [] name r e = absurd cc
named_name (s ∷ rs) name r e =
    picked (λ t. bytes_eq name t.name ≡ true) (bytes_eq name s.name) s r (row_named rs name) e (λ h. h)
    (λ h. named_name rs name r h)

named_step : (b : Bool) (s : Row) (o : Option ℕ) (p : Option Row) → o ≡ (p >>= λ r. Some r.code)
    → (if b then Some s.code else o) ≡ ((if b then Some s else p) >>= λ r. Some r.code)
named_step true s o p e = refl
named_step false s o p e = e

-- the code of the one with this name
pub named_code : (table : List Row) (name : List ℕ)
    → code_named table name ≡ (row_named table name >>= λ r. Some r.code)
named_code [] name = refl
named_code (s ∷ rs) name =
    named_step (bytes_eq name s.name) s (code_named rs name) (row_named rs name) (named_code rs name)

both_true : (a b : Bool) → (a && b) ≡ true → (a ≡ true) × (b ≡ true)
both_true true b e = (refl, e)
both_true false b e = absurd cc

own_code : (s : Row) (rs : List Row) → row_coded (s ∷ rs) s.code ≡ Some s
own_code s rs = ap (λ (b : Bool). if b then Some s else row_coded rs s.code) (same_number s.code)

behind : (s r : Row) (rs : List Row) → not (is_some (row_coded rs s.code)) ≡ true → row_coded rs r.code ≡ Some r
    → (b : Bool) → (r.code == s.code) ≡ b → (if b then Some s else row_coded rs r.code) ≡ Some r
behind s r rs a found true e =
    let there : row_coded rs s.code ≡ Some r = ap (row_coded rs) (sym (equal_numbers r.code s.code e)) ∙ found in
    let both : true ≡ false = sym a ∙ ap (λ (o : Option Row). not (is_some o)) there in
    absurd cc
behind s r rs a found false e = found

-- where no two have the same code, the one with a name is the one with its code
pub named_coded : (table : List Row) → codes_differ table ≡ true → (name : List ℕ) (r : Row)
    → row_named table name ≡ Some r → row_coded table r.code ≡ Some r
named_coded [] c name r e = absurd cc
named_coded (s ∷ rs) c name r e =
    let p = both_true (not (is_some (row_coded rs s.code))) (codes_differ rs) c in
    picked (λ t. row_coded (s ∷ rs) t.code ≡ Some t) (bytes_eq name s.name) s r (row_named rs name) e
    (λ h. own_code s rs)
    (λ h. behind s r rs p.0 (named_coded rs p.1 name r h) (r.code == s.code) refl)

said_number : (o : Option ℕ) (code : ℕ) → (o >>= λ c. Some (scalar (ulong c))) ≡ Some (scalar (ulong code))
    → o ≡ Some code
said_number None code e = absurd cc
said_number (Some c) code e = let same : c ≡ code = cc in ap (λ (n : ℕ). Some n) same

row_of_code : (o : Option Row) (code : ℕ) → (o >>= λ r. Some r.code) ≡ Some code
    → (r : Row) × (o ≡ Some r) × (r.code ≡ code)
row_of_code None code e = absurd cc
row_of_code (Some r) code e = (r, refl, cc)

-- the code that a descriptor says is that of the one that it says
pub said_coded : (table : List Row) → codes_differ table ≡ true → (d : Item) (code : ℕ)
    → code_said table d ≡ Some (scalar (ulong code)) → row_said table d ≡ row_coded table code
unfolding row_said code_said
said_coded table c (scalar (ulong n)) code e = let same : n ≡ code = cc in ap (row_coded table) same
said_coded table c (scalar (symbol s)) code e =
    let p = row_of_code (row_named table s) code (sym (named_code table s) ∙ said_number (code_named table s) code e) in
    p.1 ∙ (sym (named_coded table c s p.0 p.1) ∙ ap (row_coded table) p.2)
said_coded table c (scalar s) code e = absurd cc
said_coded table c d code e = absurd cc

none_said : (o : Option Row) → ((o >>= λ r. Some r.code) >>= λ c. Some (scalar (ulong c))) ≡ None → o ≡ None
none_said None e = refl
none_said (Some r) e = absurd cc

-- a descriptor that says no code says none of them
pub unsaid : (table : List Row) (d : Item) → code_said table d ≡ None → row_said table d ≡ None
unfolding row_said code_said
unsaid table (scalar (ulong n)) e = absurd cc
unsaid table (scalar (symbol s)) e =
    none_said (row_named table s) (ap (λ (o : Option ℕ). o >>= λ c. Some (scalar (ulong c))) (sym (named_code table s))
    ∙ e)
unsaid table (scalar s) e = refl
unsaid table d e = refl

-- what says a code is no kept item
pub said_plain : (table : List Row) (d y : Item) → code_said table d ≡ Some y → WithoutRaw d
unfolding code_said
said_plain table (scalar s) y e = tt
said_plain table d y e = absurd cc

pub row_plain : (table : List Row) (d : Item) (r : Row) → row_said table d ≡ Some r → WithoutRaw d
unfolding row_said
row_plain table (scalar s) r e = tt
row_plain table d r e = absurd cc

-- the descriptor of the one that is said
descriptor_said : (table : List Row) (d : Item) (r : Row) → row_said table d ≡ Some r
    → descriptor_taken r.code r.name d ≡ Some (scalar (ulong r.code))
unfolding row_said descriptor_taken
descriptor_said table (scalar (ulong n)) r e =
    let same : (n == r.code) ≡ true = ap (λ (c : ℕ). n == c) (coded_code table n r e) ∙ same_number n in
    ap (λ (b : Bool). if b then Some (scalar (ulong r.code)) else None) same
descriptor_said table (scalar (symbol s)) r e =
    ap (λ (b : Bool). if b then Some (scalar (ulong r.code)) else None) (named_name table s r e)
descriptor_said table (scalar s) r e = absurd cc
descriptor_said table d r e = absurd cc

-- the fields of the one that is said are those of its record
pub as_record : (table : List Row) (d v u : Item) (r : Row) → row_said table d ≡ Some r → fields_of r v ≡ Some u
    → record_taken r.code r.name r.takes (described d v) ≡ Some u
unfolding record_taken
as_record table d v u r s f = ap (λ (o : Option Item). o >>= λ c. fields_of r v) (descriptor_said table d r s) ∙ f

row_chosen : (o : Option Row) (v u : Item) → (o >>= λ r. fields_of r v) ≡ Some u
    → (r : Row) × (o ≡ Some r) × (fields_of r v ≡ Some u)
row_chosen None v u e = absurd cc
row_chosen (Some r) v u e = (r, refl, e)

-- what was taken: one of them
pub choice_parts : (table : List Row) (d v u : Item) → choice_taken table (described d v) ≡ Some u
    → (r : Row) × (row_said table d ≡ Some r) × (fields_of r v ≡ Some u)
unfolding choice_taken
choice_parts table d v u e = row_chosen (row_said table d) v u e
