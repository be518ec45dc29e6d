-- What the texts of described lists are made of.
use Rattle.std.proofs.Common.{◌≡◌, ℕ, ◌+◌, List, [], ◌∷◌, ◌++◌, length, arith, refl, ap}
use Rattle.std.specs.Prelude.{Option, Some, None}
use Rattle.std.proofs.lemmas.List.{length-append}
use Rattle.serde_amqp_item.specs.Item.{Item, items_of, item_count, scalar, ulong, described, list}
use Rattle.serde_amqp_item.specs.Canon.{◌>>=◌, canon, canon_all, list_text}
use Rattle.amqp_endpoint_fitting.proofs.Lists.{size}

-- the texts of items are that of the first and those of the others
pub record Parts (x : Item) (xs : List Item) (content : List ℕ) : Type 0 where
  pub head : List ℕ
  pub is_head : canon x ≡ Some head
  pub rest : List ℕ
  pub is_rest : canon_all (items_of xs) ≡ Some rest
  pub long : length content ≡ length head + length rest

pub parts : (x : Item) (xs : List Item) (content : List ℕ) → canon_all (items_of (x ∷ xs)) ≡ Some content
    → Parts x xs content
parts x xs content is = first (canon x) refl is
  where
    second : (a : List ℕ) → canon x ≡ Some a → (o : Option (List ℕ)) → canon_all (items_of xs) ≡ o
        → (o >>= λ b. Some (a ++ b)) ≡ Some content → Parts x xs content
    second a e None d is = absurd cc
    second a e (Some b) d is =
        record {
          head = a;
          is_head = e;
          rest = b;
          is_rest = d;
          long = omega (arith, ap size is, length-append a b);
        }

    first : (o : Option (List ℕ)) → canon x ≡ o
        → (o >>= λ a. canon_all (items_of xs) >>= λ b. Some (a ++ b)) ≡ Some content → Parts x xs content
    first None e is = absurd cc
    first (Some a) e is = second a e (canon_all (items_of xs)) refl is

-- a list with the descriptor of a Transfer has three bytes more than the list (part 2, 2.7.5)
pub record Listed (fields : List Item) (text : List ℕ) : Type 0 where
  pub content : List ℕ
  pub is_content : canon_all (items_of fields) ≡ Some content
  pub whole : List ℕ
  pub is_whole : list_text (item_count (items_of fields)) content ≡ Some whole
  pub long : length text ≡ 3 + length whole

pub listed : (fields : List Item) (text : List ℕ)
    → canon (described (scalar (ulong 0x14)) (list (items_of fields))) ≡ Some text → Listed fields text
listed fields text is = first (canon_all (items_of fields)) refl is
  where
    second : (c : List ℕ) → canon_all (items_of fields) ≡ Some c → (o : Option (List ℕ))
        → list_text (item_count (items_of fields)) c ≡ o
        → (o >>= λ b. Some (0x00 ∷ (0x53 ∷ 0x14 ∷ []) ++ b)) ≡ Some text → Listed fields text
    second c e None d is = absurd cc
    second c e (Some b) d is =
        record { content = c; is_content = e; whole = b; is_whole = d; long = omega (arith, ap size is) }

    first : (o : Option (List ℕ)) → canon_all (items_of fields) ≡ o
        → ((o >>= list_text (item_count (items_of fields))) >>= λ b. Some (0x00 ∷ (0x53 ∷ 0x14 ∷ []) ++ b)) ≡ Some text
        → Listed fields text
    first None e is = absurd cc
    first (Some c) e is = second c e (list_text (item_count (items_of fields)) c) refl is
