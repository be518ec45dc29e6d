-- What is read of a frame's body is that body, and bytes that are refused are none.
use Rattle.std.proofs.Common.{◌≡◌, ◌≢◌, ℕ, ◌-◌, List, [], ◌++◌, length, drop, Option, Some, None, sym, ◌∙◌, ap, subst, arith, length-append}
use Rattle.std.specs.Prelude.{slice_index}
use Rattle.std.proofs.Math.Seq.{drop-append_seam}
use Rattle.serde_amqp_item.specs.Item.{Item}
use Rattle.serde_amqp_item.specs.Wire.{Wire}
use Rattle.amqp_session_performatives.specs.Performative.{performative_item, performative_taken}
use Rattle.amqp_session_performatives.specs.declared.performative.Performative.{Performative}
use Rattle.amqp_session_frames.specs.Body.{Performed, NotPerformed, HasNoBody, PerformativeRefused, BodyRefused}
use Rattle.amqp_session_frames.specs.Header.{HasHeader, HeaderRefused}
use Rattle.amqp_session_frames.specs.Text.{Performs, Says, IsBehind, BodyText, IsOtherType, NotRead, performative_of}
use Rattle.amqp_session_frames.specs.declared.error.Error.{Error}
use Rattle.amqp_session_frames.specs.declared.error.Error.TheVariants.{DecodeError, NotImplemented, TooLarge, Memory}
use Rattle.amqp_session_frames.specs.declared.frame.FrameBody.{FrameBody}
use Rattle.amqp_session_frames.proofs.FrameLaws.{framed_same, Said, made}

-- what was read of the content
pub performed : (content left : List ℕ) (p : Performative) (size : ℕ) → ((x : Item) × (front : List ℕ) × Wire x None front × (content ≡ front ++ left) × (performative_taken x ≡ Some (performative_item p))) → size ≡ length content - length left → Performed content p size
performed content left p size (x, front, w, e, t) s =
    let long : size ≡ length front = omega (arith, s, ap length e, length-append front left) in
    let rest : drop size content ≡ left = ap (λ (n : ℕ). drop n content) long ∙ (ap (drop (length front)) e ∙ drop-append_seam front left) in
    record {
      within = omega (arith, s);
      performs = record { item = x; front = front; whole = e ∙ ap (λ (l : List ℕ). front ++ l) (sym rest); form = w; value_is = t };
    }

pub not_performed : (content : List ℕ) → ((x : Item) (front more : List ℕ) → Wire x None front → content ≡ front ++ more → performative_taken x ≡ None) → NotPerformed content
not_performed content none = record { none = λ performative rest p. let e : None ≡ Some (performative_item performative) = sym (none p.item p.front rest p.form p.whole) ∙ p.value_is in absurd cc }

-- a body of this performative, with what stands behind it
pub body_read : (content payload : List ℕ) (b : FrameBody) (p : Performative) (size : ℕ) → Performed content p size → payload ≡ drop size content → performative_of b ≡ Some p → IsBehind b payload → BodyText content b
body_read content payload b p size r same is behind =
    subst (λ (o : Option Performative). Says content b o) (sym is) (payload, subst (λ (l : List ℕ). Performs content p l) (sym same) r.performs, behind)

none_said : (content rest : List ℕ) (o : Option Performative) → content ≢ [] → NotPerformed content → Said content o rest → ⊥
unfolding Said
none_said content rest None n p s = n s.0
none_said content rest (Some q) n p s = p.none q rest s

no_body : (content : List ℕ) → content ≢ [] → NotPerformed content → HasNoBody content
no_body content n p = record { none = λ body t. let m = made content body t in none_said content m.rest m.performative n p m.said }

pub body_refused : (content : List ℕ) (e : Error) → content ≢ [] → PerformativeRefused content e → BodyRefused content e
body_refused content DecodeError n r = no_body content n r
body_refused content Memory n r = tt
body_refused content NotImplemented n r = absurd r
body_refused content TooLarge n r = absurd r

pub header_refused : (bytes : List ℕ) (e : Error) → HeaderRefused bytes e → NotRead bytes e
header_refused bytes NotImplemented r = r
header_refused bytes DecodeError r = (r.0, λ f t. r.1.none f.channel t.extended t.content t.layout)
header_refused bytes Memory r = absurd r
header_refused bytes TooLarge r = absurd r

-- the type is AMQP's where there is such a header
amqp_type : (bytes : List ℕ) (channel start : ℕ) → HasHeader bytes channel start → IsOtherType bytes → ⊥
amqp_type bytes channel start h other = other.1 (ap (λ (bs : List ℕ). slice_index bs 5) h.layout.whole)

pub frame_refused : (bytes content : List ℕ) (channel start : ℕ) (e : Error) → HasHeader bytes channel start → content ≡ drop start bytes → BodyRefused content e → NotRead bytes e
frame_refused bytes content channel start NotImplemented h s r = absurd r
frame_refused bytes content channel start Memory h s r = tt
frame_refused bytes content channel start TooLarge h s r = absurd r
frame_refused bytes content channel start DecodeError h s r = (
  amqp_type bytes channel start h,
  λ f t.
      let same = framed_same bytes 0 0 channel f.channel h.extended t.extended (drop start bytes) t.content h.layout t.layout in
      r.none f.body (subst (λ (x : List ℕ). BodyText x f.body) (sym (s ∙ same.contents)) t.body),
)

pub ruleset bodies = (performed, not_performed, body_read, body_refused, header_refused, frame_refused)
