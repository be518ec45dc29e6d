-- Descriptors, by their codes or their names.
use Rattle.std.proofs.Common.{◌≡◌, ◌≢◌, ℕ, List, ◌++◌, Bool, true, false, Option, Some, None, sym, ◌∙◌, ap, subst, refl, arith}
use Rattle.std.specs.Prelude.{◌==◌, bytes_eq}
use Rattle.std.proofs.lemmas.Bool.Decides.{nat_tests}
use Rattle.serde_amqp_item.specs.declared.codes.EncodingCodes.{EncodingCodes}
use Rattle.serde_amqp_item.specs.Item.{Scalar, ulong, symbol, Item, scalar}
use Rattle.serde_amqp_item.specs.Wire.{Wire}
use Rattle.serde_amqp_item.specs.Kind.{Kind, kind_at}
use Rattle.serde_amqp_item.proofs.Forms.{wire_same}
use Rattle.serde_amqp_de.specs.Reads.{At, Foresees, Reads, Refuses, Took}
use Rattle.serde_amqp_de.specs.Takes.{kind_seen, descriptor_taken, ulong_taken, symbol_taken, is_symbol}
use Rattle.serde_amqp_de.proofs.Heads.{no_head_refuses}
use Rattle.serde_amqp_de.proofs.Values.{foreseen_seen}

-- another item with the bytes of a scalar that isn't taken isn't taken
other : (code : ℕ) (name : List ℕ) (s : Scalar) (k : Option ℕ) (old new : At) → Reads k old new (scalar s) → descriptor_taken code name (scalar s) ≡ None → (x : Item) (f more : List ℕ) → Wire x k f → old.rest ≡ f ++ more → descriptor_taken code name x ≡ None
unfolding descriptor_taken
other code name s k old new r none (scalar t) f more w e =
    let same = wire_same (scalar s) (scalar t) k r.front f new.rest more r.wire w (sym r.moves.split ∙ e) in
    ap (descriptor_taken code name) (sym (same.1 tt tt)) ∙ none
other code name s k old new r none x f more w e = refl

named_is : (code : ℕ) (name s : List ℕ) (b : Bool) → bytes_eq s name ≡ b → b ≡ true → descriptor_taken code name (scalar (symbol s)) ≡ Some (scalar (ulong code))
unfolding descriptor_taken
named_is code name s b e t = rw (e ∙ t) refl

named_not : (code : ℕ) (name s : List ℕ) → bytes_eq s name ≡ false → descriptor_taken code name (scalar (symbol s)) ≡ None
unfolding descriptor_taken
named_not code name s e = rw e refl

pub named : (code : ℕ) (name s : List ℕ) (k : Option ℕ) (old mid new : At) → mid ≡ old → Reads k mid new (scalar (symbol s)) → bytes_eq s name ≡ true → Took (descriptor_taken code name) k old new (scalar (ulong code))
named code name s k old mid new same r e = record { item = scalar (symbol s); reads = subst (λ (a : At). Reads k a new (scalar (symbol s))) same r; taken = named_is code name s (bytes_eq s name) refl e }

pub not_named : (code : ℕ) (name s : List ℕ) (k : Option ℕ) (old mid new : At) → mid ≡ old → Reads k mid new (scalar (symbol s)) → bytes_eq s name ≡ false → Refuses (descriptor_taken code name) k old
not_named code name s k old mid new same r e = record { none = other code name (symbol s) k old new (subst (λ (a : At). Reads k a new (scalar (symbol s))) same r) (named_not code name s e) }

numbered_is : (code : ℕ) (name : List ℕ) → descriptor_taken code name (scalar (ulong code)) ≡ Some (scalar (ulong code))
unfolding descriptor_taken
numbered_is code name = let e : (code == code) ≡ true = grind (arith, nat_tests) in rw e refl

numbered_not : (code : ℕ) (name : List ℕ) (n : ℕ) → n ≢ code → descriptor_taken code name (scalar (ulong n)) ≡ None
unfolding descriptor_taken
numbered_not code name n p = let e : (n == code) ≡ false = grind (arith, nat_tests) in rw e refl

pub numbered : (code : ℕ) (name : List ℕ) (n : ℕ) (k : Option ℕ) (old mid new : At) → mid ≡ old → Reads k mid new (scalar (ulong n)) → n ≡ code → Took (descriptor_taken code name) k old new (scalar (ulong code))
numbered code name n k old mid new same r e = record {
  item = scalar (ulong n);
  reads = subst (λ (a : At). Reads k a new (scalar (ulong n))) same r;
  taken = ap (λ (i : ℕ). descriptor_taken code name (scalar (ulong i))) e ∙ numbered_is code name;
}

pub not_numbered : (code : ℕ) (name : List ℕ) (n : ℕ) (k : Option ℕ) (old mid new : At) → mid ≡ old → Reads k mid new (scalar (ulong n)) → n ≢ code → Refuses (descriptor_taken code name) k old
not_numbered code name n k old mid new same r p = record { none = other code name (ulong n) k old new (subst (λ (a : At). Reads k a new (scalar (ulong n))) same r) (numbered_not code name n p) }

-- a symbol's constructor, or another one
seen_symbol : (x : Item) (t : Kind) → kind_seen x ≡ Some t → is_symbol t ≡ true → (code : ℕ) (name : List ℕ) → symbol_taken x ≡ None → descriptor_taken code name x ≡ None
unfolding descriptor_taken
seen_symbol (scalar (ulong n)) t s e code name none = let w = s in absurd cc
seen_symbol (scalar (symbol bs)) t s e code name none = absurd cc
seen_symbol (scalar x) t s e code name none = refl
seen_symbol x t s e code name none = refl

seen_other : (x : Item) (t : Kind) → kind_seen x ≡ Some t → is_symbol t ≡ false → (code : ℕ) (name : List ℕ) → ulong_taken x ≡ None → descriptor_taken code name x ≡ None
unfolding descriptor_taken
seen_other (scalar (ulong n)) t s e code name none = absurd cc
seen_other (scalar (symbol bs)) t s e code name none = let w = s in absurd cc
seen_other (scalar x) t s e code name none = refl
seen_other x t s e code name none = refl

pub no_name : (code : ℕ) (name : List ℕ) (k : Option ℕ) (old mid : At) (c : EncodingCodes) → Foresees k old c → is_symbol (kind_at c) ≡ true → mid ≡ old → Refuses symbol_taken k mid → Refuses (descriptor_taken code name) k old
no_name code name k old mid c p e same r =
    let s : Refuses symbol_taken k old = subst (λ (a : At). Refuses symbol_taken k a) same r in
    record { none = λ x f more w q. seen_symbol x (kind_at c) (foreseen_seen k old c x f more p w q) e code name (s.none x f more w q) }

pub no_number : (code : ℕ) (name : List ℕ) (k : Option ℕ) (old mid : At) (c : EncodingCodes) → Foresees k old c → is_symbol (kind_at c) ≡ false → mid ≡ old → Refuses ulong_taken k mid → Refuses (descriptor_taken code name) k old
no_number code name k old mid c p e same r =
    let s : Refuses ulong_taken k old = subst (λ (a : At). Refuses ulong_taken k a) same r in
    record { none = λ x f more w q. seen_other x (kind_at c) (foreseen_seen k old c x f more p w q) e code name (s.none x f more w q) }

pub ruleset descriptors = (no_head_refuses, named, not_named, numbered, not_numbered, no_name, no_number)
