-- What a choice makes of bytes is one value.
use Rattle.std.proofs.Common.{◌≡◌, ℕ, List, [], ◌∷◌, Some, None, sym, ◌∙◌, ap, subst, refl}
use Rattle.std.specs.Prelude.{◌==◌, bytes_eq}
use Rattle.serde_amqp_item.specs.Item.{Item, scalar, ulong, symbol, described}
use Rattle.serde_amqp_item.proofs.Forms.{wire_same}
use Rattle.serde_amqp_de.specs.Decides.{Decided, AllDecided}
use Rattle.serde_amqp_de.specs.Apart.{described_together}
use Rattle.serde_amqp_de.specs.Deciding.{record_decided}
use Rattle.serde_amqp_values.specs.Choice.{Row, row_coded, row_named, row_said, fields_of, choice_taken, RowsDecided}
use Rattle.serde_amqp_values.specs.Rows.{picked, row_plain, as_record, choice_parts}

coded_decided : (table : List Row) → RowsDecided table → (code : ℕ) (r : Row) → row_coded table code ≡ Some r
    → AllDecided r.takes
coded_decided [] all code r e = absurd cc
coded_decided (s ∷ rs) all code r e =
    picked (λ t. AllDecided t.takes) (code == s.code) s r (row_coded rs code) e (λ h. all.0)
    (λ h. coded_decided rs all.1 code r h)

named_decided : (table : List Row) → RowsDecided table → (name : List ℕ) (r : Row) → row_named table name ≡ Some r
    → AllDecided r.takes
named_decided [] all name r e = absurd cc
named_decided (s ∷ rs) all name r e =
    picked (λ t. AllDecided t.takes) (bytes_eq name s.name) s r (row_named rs name) e (λ h. all.0)
    (λ h. named_decided rs all.1 name r h)

said_decided : (table : List Row) → RowsDecided table → (d : Item) (r : Row) → row_said table d ≡ Some r
    → AllDecided r.takes
unfolding row_said
said_decided table all (scalar (ulong n)) r e = coded_decided table all n r e
said_decided table all (scalar (symbol s)) r e = named_decided table all s r e
said_decided table all (scalar s) r e = absurd cc
said_decided table all d r e = absurd cc

some_row : (r s : Row) → Some r ≡ Some s → r ≡ s
some_row r s e = cc

pub choice_decided : (table : List Row) → RowsDecided table → Decided (choice_taken table)
unfolding choice_taken
choice_decided table all (described d v) (described c w) k a u z g h e f =
    let p = choice_parts table d v u e in
    let q = choice_parts table c w z f in
    let t = described_together d v c w k a g h in
    let one : d ≡ c =
    (wire_same d c None t.first t.first [] [] t.first_left t.first_right refl).1 (row_plain table d p.0 p.1)
    (row_plain table c q.0 q.1) in
    let said : row_said table c ≡ Some p.0 = ap (row_said table) (sym one) ∙ p.1 in
    let row : q.0 ≡ p.0 = some_row q.0 p.0 (sym q.1 ∙ said) in
    let there : fields_of p.0 w ≡ Some z = subst (λ (r : Row). fields_of r w ≡ Some z) row q.2 in
    record_decided p.0.code p.0.name p.0.takes (said_decided table all d p.0 p.1) (described d v) (described c w) k a u
    z g h (as_record table d v u p.0 p.1 p.2) (as_record table c w z p.0 said there)
choice_decided table all (described d v) y k a u z g h e f = absurd cc
choice_decided table all x y k a u z g h e f = absurd cc
