-- Laws of frames and their bytes.
use Rattle.std.proofs.Common.{◌≡◌, ℕ, ◌+◌, ◌<◌, ◌≤◌, ◌^◌, Bool, true, false, List, [], ◌∷◌, ◌++◌, length, Option, Some, None, refl, sym, ◌∙◌, ap, subst, arith, length-append}
use Rattle.std.specs.Prelude.{nat_lt, if◌then◌else◌}
use Rattle.std.specs.Int.{w16, w32, to_be_bytes, from_be_bytes}
use Rattle.std.proofs.lemmas.Nat.{from_be_bytes-to_be_bytes_2, from_be_bytes-to_be_bytes_4}
use Rattle.std.proofs.lemmas.List.{append_cancel_left}
use Rattle.std.proofs.lemmas.Bool.Decides.{nat_tests}
use Rattle.serde_amqp_item.specs.Wire.{Wire, IsCapped, IsStrict}
use Rattle.serde_amqp_item.specs.Canon.{canon, AllWithin, RawKept, ◌>>=◌}
use Rattle.serde_amqp_item.proofs.Forms.{wire_same}
use Rattle.serde_amqp_item.proofs.Texts.{canon_wire}
use Rattle.amqp_session_performatives.specs.Performative.{performative_item}
use Rattle.amqp_session_performatives.specs.PerformativeLaws.{performative_decided, performative_again, performative_same}
use Rattle.amqp_session_performatives.specs.declared.performative.Performative.{Performative}
use Rattle.amqp_session_performatives.specs.declared.performative.Performative.TheVariants as performing
use Rattle.amqp_session_frames.specs.Cutting.{said_size, IsSized, IsPiece, with_size}
use Rattle.amqp_session_frames.specs.Text.{Framed, Performs, BodyText, FrameText, body_text, piece_text, sized_text, frame_text, IsWithinCaps}
use Rattle.amqp_session_frames.specs.declared.frame.Frame.{Frame}
use Rattle.amqp_session_frames.specs.declared.frame.FrameBody.{FrameBody}
use Rattle.amqp_session_frames.specs.declared.frame.FrameBody.TheVariants.{Empty, Open, Begin, Attach, Flow, Transfer, Disposition, Detach, End, Close}
use Rattle.amqp_session_frames.proofs.CuttingLaws.{same_fronts, IsLawful}

-- the layout says how long it is
framed_size : (bytes : List ℕ) (kind channel : ℕ) (extended content : List ℕ) → Framed bytes kind channel extended content → said_size bytes ≡ length bytes
framed_size bytes kind channel extended content l = ap said_size l.whole ∙ from_be_bytes-to_be_bytes_4 (length bytes) l.size

framed_least : (bytes : List ℕ) (kind channel : ℕ) (extended content : List ℕ) → Framed bytes kind channel extended content → 8 ≤ length bytes
framed_least bytes kind channel extended content l =
    omega (arith, ap length l.whole, length-append (to_be_bytes w32 (length bytes)) (l.doff ∷ kind ∷ (to_be_bytes w16 channel ++ (extended ++ content))), length-append (to_be_bytes w16 channel) (extended ++ content))

pub framed_piece : (bytes : List ℕ) (kind channel : ℕ) (extended content : List ℕ) → Framed bytes kind channel extended content → IsPiece bytes
framed_piece bytes kind channel extended content l = record {
  least = framed_least bytes kind channel extended content l;
  size = framed_size bytes kind channel extended content l;
}

pub frame_sized : (bytes : List ℕ) (f : Frame) → FrameText bytes f → IsSized bytes
frame_sized bytes f t =
    let p = framed_piece bytes 0 f.channel t.extended t.content t.layout in
    record { least = omega (arith, p.least); size = p.size }

pub frame_piece : (bytes : List ℕ) (f : Frame) → FrameText bytes f → IsPiece bytes
frame_piece bytes f t = framed_piece bytes 0 f.channel t.extended t.content t.layout

-- bytes have one layout
pub record IsSameLayout (k j c d : ℕ) (e e' x x' : List ℕ) : Type 0 where
  pub kinds : k ≡ j
  pub channels : c ≡ d
  pub extensions : e ≡ e'
  pub contents : x ≡ x'

pub framed_same : (bytes : List ℕ) (k j c d : ℕ) (e e' x x' : List ℕ) → Framed bytes k c e x → Framed bytes j d e' x' → IsSameLayout k j c d e e' x x'
framed_same bytes k j c d e e' x x' l m =
    let behind : l.doff ∷ k ∷ (to_be_bytes w16 c ++ (e ++ x)) ≡ m.doff ∷ j ∷ (to_be_bytes w16 d ++ (e' ++ x')) = append_cancel_left (to_be_bytes w32 (length bytes)) _ _ (sym l.whole ∙ m.whole) in
    let doffs : l.doff ≡ m.doff = cc in
    let kinds : k ≡ j = cc in
    let onward : to_be_bytes w16 c ++ (e ++ x) ≡ to_be_bytes w16 d ++ (e' ++ x') = cc in
    let numbers = same_fronts (to_be_bytes w16 c) (to_be_bytes w16 d) (e ++ x) (e' ++ x') refl onward in
    let channels : c ≡ d = sym (from_be_bytes-to_be_bytes_2 c l.channels) ∙ (ap (from_be_bytes w16) numbers.0 ∙ from_be_bytes-to_be_bytes_2 d m.channels) in
    let parts = same_fronts e e' x x' (omega (arith, l.offset, m.offset, doffs)) numbers.1 in
    record { kinds = kinds; channels = channels; extensions = parts.0; contents = parts.1 }

-- bytes have one front that is read as a performative, and it is one
pub performs_same : (content r s : List ℕ) (p q : Performative) → Performs content p r → Performs content q s → (p ≡ q) × (r ≡ s)
performs_same content r s p q f g =
    let whole : f.front ++ r ≡ g.front ++ s = sym f.whole ∙ g.whole in
    let split = wire_same f.item g.item None f.front g.front r s f.form g.form whole in
    let there : Wire g.item None f.front = subst (λ (l : List ℕ). Wire g.item None l) (sym split.0) g.form in
    let items = performative_decided f.item g.item None f.front (performative_item p) (performative_item q) f.form there f.value_is g.value_is in
    (performative_same p q items, (same_fronts f.front g.front r s (ap length split.0) whole).1)

-- a wire form has a constructor
pub no_front : (content r : List ℕ) (p : Performative) → Performs content p r → content ≡ [] → ⊥
no_front content r p f e =
    let led : f.front ≡ f.form.0 ∷ f.form.1 = f.form.2 in
    let whole : content ≡ f.form.0 ∷ (f.form.1 ++ r) = f.whole ∙ ap (λ (l : List ℕ). l ++ r) led in
    absurd cc

-- a performative and what stands behind it, or neither
unfoldable pub Said : List ℕ → Option Performative → List ℕ → Type 0
Said content None rest = (content ≡ []) × (rest ≡ [])
Said content (Some p) rest = Performs content p rest

said_same : (content : List ℕ) (o q : Option Performative) (r s : List ℕ) → Said content o r → Said content q s → (o ≡ q) × (r ≡ s)
unfolding Said
said_same content None None r s f g = (refl, f.1 ∙ sym g.1)
said_same content None (Some q) r s f g = absurd (no_front content s q g f.0)
said_same content (Some p) None r s f g = absurd (no_front content r p f g.0)
said_same content (Some p) (Some q) r s f g =
    let same = performs_same content r s p q f g in
    (ap (λ (x : Performative). Some x) same.0, same.1)

-- the body with this performative, and with this behind it
unfoldable pub body_of : Option Performative → List ℕ → FrameBody
body_of None rest = Empty
body_of (Some (performing.Open x)) rest = Open x
body_of (Some (performing.Begin x)) rest = Begin x
body_of (Some (performing.Attach x)) rest = Attach x
body_of (Some (performing.Flow x)) rest = Flow x
body_of (Some (performing.Transfer x)) rest = Transfer x rest
body_of (Some (performing.Disposition x)) rest = Disposition x
body_of (Some (performing.Detach x)) rest = Detach x
body_of (Some (performing.End x)) rest = End x
body_of (Some (performing.Close x)) rest = Close x

-- what a body is made of
pub record Made (content : List ℕ) (body : FrameBody) : Type 0 where
  pub performative : Option Performative
  pub rest : List ℕ
  pub said : Said content performative rest
  pub made : body ≡ body_of performative rest

pub made : (content : List ℕ) (body : FrameBody) → BodyText content body → Made content body
unfolding Said body_of
made content Empty e = record { performative = None; rest = []; said = (e, refl); made = refl }
made content (Open x) (r, p, b) = record { performative = Some (performing.Open x); rest = r; said = p; made = refl }
made content (Begin x) (r, p, b) = record { performative = Some (performing.Begin x); rest = r; said = p; made = refl }
made content (Attach x) (r, p, b) = record { performative = Some (performing.Attach x); rest = r; said = p; made = refl }
made content (Flow x) (r, p, b) = record { performative = Some (performing.Flow x); rest = r; said = p; made = refl }
made content (Transfer x payload) (r, p, b) = record { performative = Some (performing.Transfer x); rest = r; said = p; made = ap (λ (l : List ℕ). Transfer x l) (sym b) }
made content (Disposition x) (r, p, b) = record { performative = Some (performing.Disposition x); rest = r; said = p; made = refl }
made content (Detach x) (r, p, b) = record { performative = Some (performing.Detach x); rest = r; said = p; made = refl }
made content (End x) (r, p, b) = record { performative = Some (performing.End x); rest = r; said = p; made = refl }
made content (Close x) (r, p, b) = record { performative = Some (performing.Close x); rest = r; said = p; made = refl }

pub body_same : (content : List ℕ) (a b : FrameBody) → BodyText content a → BodyText content b → a ≡ b
body_same content a b s t =
    let m = made content a s in
    let n = made content b t in
    let same = said_same content m.performative n.performative m.rest n.rest m.said n.said in
    m.made ∙ (ap (λ (o : Option Performative). body_of o m.rest) same.0 ∙ (ap (λ (l : List ℕ). body_of n.performative l) same.1 ∙ sym n.made))

-- bytes are one frame
pub frame_same : (bytes : List ℕ) (f g : Frame) → FrameText bytes f → FrameText bytes g → f ≡ g
frame_same bytes f g s t =
    let l = framed_same bytes 0 0 f.channel g.channel s.extended t.extended s.content t.content s.layout t.layout in
    let there : BodyText s.content g.body = subst (λ (x : List ℕ). BodyText x g.body) (sym l.contents) t.body in
    let bodies : f.body ≡ g.body = body_same s.content f.body g.body s.body there in
    ap (λ (c : ℕ). record { channel = c; body = f.body }) l.channels ∙ ap (λ (b : FrameBody). record { channel = g.channel; body = b }) bodies

pub frames_lawful : IsLawful FrameText
frames_lawful = record { sized = frame_sized; one = frame_same }

bind_some : {A B : Type 0} (o : Option A) (g : A → Option B) (y : B) → (o >>= g) ≡ Some y → (x : A) × (o ≡ Some x) × (g x ≡ Some y)
bind_some None g y e = absurd cc
bind_some (Some x) g y e = (x, refl, e)

-- what a performative is written as is read as it
written_performative : (p : Performative) (payload content : List ℕ) → AllWithin IsCapped (performative_item p) × RawKept IsStrict (performative_item p) → (canon (performative_item p) >>= λ text. Some (text ++ payload)) ≡ Some content → Performs content p payload
written_performative p payload content within e =
    let (text, is, e2) = bind_some (canon (performative_item p)) (λ text. Some (text ++ payload)) content e in
    record { item = performative_item p; front = text; whole = cc; form = canon_wire (performative_item p) text within.0 within.1 is; value_is = performative_again p }

written_body : (b : FrameBody) (content : List ℕ) → IsWithinCaps b → body_text b ≡ Some content → BodyText content b
written_body Empty content within e = cc
written_body (Open x) content within e = ([], written_performative (performing.Open x) [] content within e, tt)
written_body (Begin x) content within e = ([], written_performative (performing.Begin x) [] content within e, tt)
written_body (Attach x) content within e = ([], written_performative (performing.Attach x) [] content within e, tt)
written_body (Flow x) content within e = ([], written_performative (performing.Flow x) [] content within e, tt)
written_body (Transfer x payload) content within e = (payload, written_performative (performing.Transfer x) payload content within e, refl)
written_body (Disposition x) content within e = ([], written_performative (performing.Disposition x) [] content within e, tt)
written_body (Detach x) content within e = ([], written_performative (performing.Detach x) [] content within e, tt)
written_body (End x) content within e = ([], written_performative (performing.End x) [] content within e, tt)
written_body (Close x) content within e = ([], written_performative (performing.Close x) [] content within e, tt)

with_size_if : (piece bytes : List ℕ) (b : Bool) → nat_lt (4 + length piece) (2 ^ 32) ≡ b → (if b then Some (with_size piece) else None) ≡ Some bytes → (4 + length piece < 2 ^ 32) × (with_size piece ≡ bytes)
with_size_if piece bytes true t e = (grind (arith, nat_tests), cc)
with_size_if piece bytes false t e = absurd cc

-- what a frame is written as is that frame
pub frame_written : (f : Frame) (bytes : List ℕ) → f.channel < 2 ^ 16 → IsWithinCaps f.body → frame_text f ≡ Some bytes → FrameText bytes f
frame_written f bytes narrow within e =
    let (piece, is, e2) = bind_some (piece_text f) sized_text bytes e in
    let (content, said, e3) = bind_some (body_text f.body) (λ content. Some (2 ∷ 0 ∷ (to_be_bytes w16 f.channel ++ content))) piece is in
    let (fits, whole) = with_size_if piece bytes (nat_lt (4 + length piece) (2 ^ 32)) refl e2 in
    let piece_is : 2 ∷ 0 ∷ (to_be_bytes w16 f.channel ++ content) ≡ piece = cc in
    let long : length bytes ≡ 4 + length piece = ap length (sym whole) ∙ length-append (to_be_bytes w32 (4 + length piece)) piece in
    record {
      extended = [];
      content = content;
      layout = record {
        doff = 2;
        whole = sym whole ∙ (ap (λ (n : ℕ). to_be_bytes w32 n ++ piece) (sym long) ∙ ap (λ (p : List ℕ). to_be_bytes w32 (length bytes) ++ p) (sym piece_is));
        size = omega (arith, long, fits);
        offset = refl;
        channels = narrow;
      };
      body = written_body f.body content within said;
    }
