-- Bytes are written one after the other.
use Rattle.std.proofs.Common.{◌≡◌, ℕ, List, [], ◌++◌, take, drop, Option, refl, sym, ◌∙◌, ap, subst}
use Rattle.std.proofs.Common.{append_assoc, append-nil, arith, length, ◌∷◌}
use Rattle.std.proofs.lemmas.List.{take-append-drop}
use Rattle.std.proofs.KnownBytes.{Appends-kept, Appends-nil, Appends-trans}
use Rattle.std.specs.Io.KnownBytes.{Appends, Keeps}
use Rattle.amqp_endpoint.specs.Streams.{TakesFront, TakesSome}

-- nothing is written
pub none_taken : (held : Option (List ℕ)) (bytes : List ℕ) → TakesFront held bytes held bytes
none_taken held bytes = record { front = []; taken = Appends-nil held; in_order = refl }

-- then more is
pub more_taken : (a b c : Option (List ℕ)) (xs ys zs : List ℕ) (count : ℕ) → TakesFront a xs b ys
    → Appends b c (take count ys) → zs ≡ drop count ys → TakesFront a xs c zs
more_taken a b c xs ys zs count w more is =
    record {
      front = w.front ++ take count ys;
      taken = Appends-trans a b c w.front (take count ys) w.taken more;
      in_order =
          w.in_order ∙ ap (λ (bytes : List ℕ). w.front ++ bytes) (sym (take-append-drop count ys))
          ∙ sym (append_assoc w.front (take count ys) (drop count ys))
          ∙ ap (λ (bytes : List ℕ). (w.front ++ take count ys) ++ bytes) (sym is);
    }

-- all is, and then the writer keeps it
pub all_taken : (a b c : Option (List ℕ)) (xs : List ℕ) → TakesFront a xs b [] → Keeps b c → Appends a c xs
all_taken a b c xs w keeps =
    subst (λ (ys : List ℕ). Appends a c ys) (sym (w.in_order ∙ append-nil w.front))
    (Appends-kept a b c w.front w.taken keeps)

pub some_taken : (a b c : Option (List ℕ)) (xs : List ℕ) → TakesFront a xs b [] → Keeps b c → TakesSome a xs c
some_taken a b c xs w keeps =
    record {
      others = [];
      takes =
          record { front = w.front; taken = Appends-kept a b c w.front w.taken keeps; in_order = w.in_order };
    }

-- some is, and then nothing more
pub front_kept : (a b c : Option (List ℕ)) (xs others : List ℕ) → TakesFront a xs b others → Keeps b c
    → TakesSome a xs c
front_kept a b c xs others w keeps =
    record {
      others = others;
      takes =
          record { front = w.front; taken = Appends-kept a b c w.front w.taken keeps; in_order = w.in_order };
    }

pub front_taken : (a b : Option (List ℕ)) (xs others : List ℕ) → TakesFront a xs b others → TakesSome a xs b
front_taken a b xs others w = record { others = others; takes = w }

-- nothing is left of it
pub none_left : (a b : Option (List ℕ)) (xs others : List ℕ) → TakesFront a xs b others → length others ≡ 0
    → TakesFront a xs b []
none_left a b xs [] w none = w
none_left a b xs (x ∷ others) w none = absurd (omega (arith, none))

pub ruleset writing = (none_taken, more_taken, front_kept, front_taken, none_left)
