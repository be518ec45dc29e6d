-- Laws of frames as they are queued.
use Rattle.std.proofs.Common.{◌≡◌, ℕ, ◌+◌, ◌≤◌, List, [], ◌++◌, length, Option, Some, None, Bool, true, false}
use Rattle.std.proofs.Common.{refl, sym, ◌∙◌, ap, arith, subst}
use Rattle.std.proofs.lemmas.Bool.Decides.{nat_tests}
use Rattle.std.specs.Char.{encode_utf8}
use Rattle.std.specs.Str.{is_utf8, chars}
use Rattle.amqp_session_performatives.specs.declared.open.Open.{Open}
use Rattle.amqp_session_frames.specs.declared.frame.Frame.{Frame}
use Rattle.amqp_session_frames.specs.Appending.{AppendedIn, IsAppended}
use Rattle.amqp_session_frames.specs.Text.{IsOver, IsWithin, frame_text, open_on}
use Rattle.amqp_endpoint_model.specs.State.{written, text_or_nothing, text_fits, fits, own_close_with, error_of}
use Rattle.amqp_endpoint_core.specs.declared.condition.Condition.{Condition}
use Rattle.amqp_endpoint_core.specs.declared.condition.Condition.TheVariants.{FramingError, DecodeError, NotAllowed, NotFound}
use Rattle.amqp_endpoint_core.specs.Reading.{condition_text}

over_fits : (text : Option (List ℕ)) (limit : ℕ) → text_fits limit text ≡ true → IsOver limit text → ⊥
over_fits None limit fit over = let wrong : false ≡ true = fit in absurd (cc)
over_fits (Some text) limit fit over = absurd (grind (arith, nat_tests))

pub written_is : (f : Frame) (text : List ℕ) → frame_text f ≡ Some text → written f ≡ text
unfolding written
written_is f text e = ap text_or_nothing e

fits_text : (text : List ℕ) (limit : ℕ) → length text ≤ limit → text_fits limit (Some text) ≡ true
fits_text text limit short = grind (arith, nat_tests)

within_fits : (text : Option (List ℕ)) (limit : ℕ) → IsWithin limit text → text_fits limit text ≡ true
within_fits None limit w = absurd w
within_fits (Some text) limit w = fits_text text limit w

over_fits_not : (text : Option (List ℕ)) (limit : ℕ) → IsOver limit text → text_fits limit text ≡ false
over_fits_not None limit over = refl
over_fits_not (Some text) limit over = grind (arith, nat_tests)

text_fits-more : (o : Option (List ℕ)) (small limit : ℕ) → small ≤ limit → text_fits small o ≡ true → text_fits limit o ≡ true
text_fits-more None small limit le e = e
text_fits-more (Some text) small limit le e = grind (arith, nat_tests)

pub fits_more : (f : Frame) (small limit : ℕ) → small ≤ limit → fits small f ≡ true → fits limit f ≡ true
fits_more f small limit le e = text_fits-more (frame_text f) small limit le e

-- an Open is measured within the limit, or over it
pub measured : (held : Bool) (least : ℕ) (o : Open) → least ≡ 508
    → (held ≡ true → (channel : ℕ) → IsWithin (least + 4) (frame_text (open_on channel o)))
    → (held ≡ false → (channel : ℕ) → IsOver (least + 4) (frame_text (open_on channel o)))
    → held ≡ fits 512 (open_on 0 o)
measured true least o e short over =
    let P : ℕ → Type 0 = λ n. IsWithin (n + 4) (frame_text (open_on 0 o)) in
    sym (within_fits (frame_text (open_on 0 o)) 512 (subst P e (short refl 0)))
measured false least o e short over =
    let P : ℕ → Type 0 = λ n. IsOver (n + 4) (frame_text (open_on 0 o)) in
    sym (over_fits_not (frame_text (open_on 0 o)) 512 (subst P e (over refl 0)))

-- a Close that tells of a fault fits any peer's limit
pub close_fits : (c : Condition) → fits 512 (own_close_with (Some (error_of (condition_text c)))) ≡ true
unfolding is_utf8 chars encode_utf8
close_fits FramingError = refl
close_fits DecodeError = refl
close_fits NotAllowed = refl
close_fits NotFound = refl

-- a frame that fits is never over the limit
pub not_over : (least limit : ℕ) (f : Frame) → least + 4 ≡ limit → fits limit f ≡ true
    → IsOver (least + 4) (frame_text f) → ⊥
not_over least limit f sum fit over =
    let P : ℕ → Type 0 = λ n. IsOver n (frame_text f) in
    over_fits (frame_text f) limit fit (subst P sum over)

-- what was appended is the frame
pub appended_is : (least room : ℕ) (f : Frame) (left : Option ℕ) (old new : List ℕ)
    → IsAppended least f room left old new
    → AppendedIn room (written f) left old new
appended_is least room f left old new a =
    let P : List ℕ → Type 0 = λ text. AppendedIn room text left old new in
    subst P (sym (written_is f a.text a.is)) a.appended
