-- What is cut off the bytes in front.
use Rattle.std.proofs.Common.{◌≡◌, ◌≢◌, ℕ, ◌+◌, ◌<◌, ◌^◌, List, [], ◌∷◌, ◌++◌, Bool, true, false, Option, Some, sym, ◌∙◌, ap, subst, refl, arith, append_assoc, append-nil}
use Rattle.std.specs.Int.{w32, to_be_bytes}
use Rattle.std.specs.Str.{bytes_eq}
use Rattle.std.specs.Cmp.Lexicographic.{same_text}
use Rattle.serde_amqp_item.specs.declared.codes.EncodingCodes.{EncodingCodes}
use Rattle.serde_amqp_item.specs.declared.codes.Category.TheVariants.{Fixed}
use Rattle.serde_amqp_item.specs.Item.{Scalar}
use Rattle.serde_amqp_item.specs.Wire.{Width, four_bytes, field, field_width, room, Row, fixed, variable, empty_list, list_of, map_of, array_of, described_by, no_row, category_of, code_of, byte_of}
use Rattle.serde_amqp_item.proofs.Constructors.{byte_of_code}
use Rattle.serde_amqp_tree.specs.Tree.{CutsNumber, CutsHead, CutsElement, CutsSize, HasWidth, width_of}

pub cuts : (front rest tail last : List ℕ) → front ≡ rest ++ tail → bytes_eq tail last ≡ true → front ≡ rest ++ last
cuts front rest tail last e h = e ∙ ap (λ (s : List ℕ). rest ++ s) (same_text tail last (sym h))

pub cuts_narrow : (wide : Bool) (m n : ℕ) (front rest : List ℕ) → wide ≡ false → m ≡ n → m < 2 ^ 8 → front ≡ rest ++ m ∷ [] → CutsNumber (width_of wide) n front rest
cuts_narrow false m n front rest w e l h = record { fits = subst (λ (i : ℕ). i < 2 ^ 8) e l; cut = h ∙ ap (λ (i : ℕ). rest ++ i ∷ []) e }
cuts_narrow true m n front rest w e l h = absurd cc

pub cuts_wide : (wide : Bool) (n : ℕ) (front rest : List ℕ) → wide ≡ true → CutsNumber four_bytes n front rest → CutsNumber (width_of wide) n front rest
cuts_wide true n front rest w h = h
cuts_wide false n front rest w h = absurd cc

pub cuts_word : (m n : ℕ) (front rest : List ℕ) → m ≡ n → m < 2 ^ 32 → front ≡ rest ++ to_be_bytes w32 m → CutsNumber four_bytes n front rest
cuts_word m n front rest e l h = record { fits = subst (λ (i : ℕ). i < 2 ^ 32) e l; cut = h ∙ ap (λ (i : ℕ). rest ++ to_be_bytes w32 i) e }

pub cuts_head : (w : Width) (count long size : ℕ) (front mid rest : List ℕ) → size ≡ long + field_width w → CutsNumber w count front mid → CutsNumber w size mid rest → CutsHead w count long front rest
cuts_head w count long size front mid rest e c s = record {
  fits = subst (λ (i : ℕ). i < room w) e s.fits;
  counted = c.fits;
  cut = c.cut ∙ (ap (λ (t : List ℕ). t ++ field w count) (s.cut ∙ ap (λ (i : ℕ). rest ++ field w i) e) ∙ append_assoc rest (field w (long + field_width w)) (field w count));
}

element_at : (b : ℕ) (code : EncodingCodes) (front rest : List ℕ) → code_of b ≡ Some code → front ≡ rest ++ b ∷ [] → front ≡ rest ++ byte_of code ∷ []
element_at b code front rest c e = e ∙ ap (λ (i : ℕ). rest ++ i ∷ []) (byte_of_code code b c)

pub cuts_none : (count b : ℕ) (code : EncodingCodes) (front rest : List ℕ) → code_of b ≡ Some code → front ≡ rest ++ b ∷ [] → count ≡ 0 → CutsElement count code front rest
cuts_none count b code front rest c e z = record { cut = element_at b code front rest c e; plain = λ l. absurd (omega (arith, l, z)) }

pub cuts_element : (count b : ℕ) (code : EncodingCodes) (front rest : List ℕ) → code_of b ≡ Some code → front ≡ rest ++ b ∷ [] → b ≢ 0x40 → b ≢ 0x00 → CutsElement count code front rest
cuts_element count b code front rest c e m n = record {
  cut = element_at b code front rest c e;
  plain = λ l. (λ h. m (byte_of_code code b c ∙ h), λ h. n (byte_of_code code b c ∙ h));
}

pub has_width : (r : Row) (n long : ℕ) → category_of r ≡ Some (Fixed n) → n ≡ long → HasWidth r long
has_width (fixed m read) n long c e = let h : m ≡ n = cc in sym (h ∙ e)
has_width empty_list n long c e = let h : 0 ≡ n = cc in sym (h ∙ e)
has_width (variable w read) n long c e = absurd cc
has_width (list_of w) n long c e = absurd cc
has_width (map_of w) n long c e = absurd cc
has_width (array_of w) n long c e = absurd cc
has_width described_by n long c e = absurd cc
has_width no_row n long c e = absurd cc

pub cuts_fixed : (r : Row) (long : ℕ) (front : List ℕ) → HasWidth r long → CutsSize r long front front
cuts_fixed (fixed n read) long front h = record { head = []; cut = sym (append-nil front); sizes = (h, refl) }
cuts_fixed empty_list long front h = record { head = []; cut = sym (append-nil front); sizes = (h, refl) }
cuts_fixed r long front h = absurd h

pub cuts_sized : (w : Width) (read : List ℕ → Option Scalar) (long : ℕ) (front rest : List ℕ) → CutsNumber w long front rest → CutsSize (variable w read) long front rest
cuts_sized w read long front rest c = record { head = field w long; cut = c.cut; sizes = (c.fits, refl) }

pub ruleset cutting = (cuts, cuts_narrow, cuts_wide, cuts_word, cuts_head, has_width, cuts_fixed, cuts_sized)
