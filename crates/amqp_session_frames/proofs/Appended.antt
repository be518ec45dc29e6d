-- Frames that are appended to bytes.
use Rattle.std.proofs.Common.{◌≡◌, ℕ, ◌+◌, ◌<◌, ◌≤◌, List, [], ◌∷◌, ◌++◌, length, take, Option, Some, None}
use Rattle.std.proofs.Common.{refl, sym, ◌∙◌, ap, subst, arith, length-append, append_assoc, append-nil}
use Rattle.std.proofs.lemmas.List.{take_at}
use Rattle.std.specs.Int.{w16, w32, to_be_bytes}
use Rattle.serde_amqp_item.specs.Canon.{canon}
use Rattle.amqp_session_performatives.specs.Performative.{performative_item}
use Rattle.amqp_session_performatives.specs.declared.performative.Performative.{Performative}
use Rattle.amqp_session_frames.specs.Appending.{AppendedIn, HasWholeSize, IsAppended, IsBody, IsLaidIn}
use Rattle.amqp_session_frames.specs.Appending.{IsLaidOut, NotAppended, StandInFront, laid_out}
use Rattle.amqp_session_frames.specs.Parts.{room}
use Rattle.amqp_session_frames.specs.Sizes.{Appends, NotWhole, Overflows}
use Rattle.amqp_session_frames.specs.Text.{performative_of, performative_text, payload_of}
use Rattle.amqp_session_frames.specs.declared.error.Error.{Error}
use Rattle.amqp_session_frames.specs.declared.error.Error.TheVariants.{DecodeError, NotImplemented, TooLarge, Memory}
use Rattle.amqp_session_frames.specs.declared.frame.Frame.{Frame}
use Rattle.amqp_session_frames.specs.declared.frame.FrameBody.{FrameBody}
use Rattle.amqp_session_frames.specs.declared.frame.FrameBody.TheVariants.{Empty}
use Rattle.amqp_session_frames.proofs.Writing.{over_performative, sized_long, text_by_parts}

-- ---- bytes

-- how long a frame's bytes are
pub laid_long : (channel : ℕ) (text payload : List ℕ)
    → length (laid_out channel text payload) ≡ 8 + length text + length payload
laid_long channel text payload =
    omega (
      arith,
      sized_long (2 ∷ 0 ∷ (to_be_bytes w16 channel ++ (text ++ payload))),
      length-append
          (to_be_bytes w16 channel) (text ++ payload),
      length-append text payload,
    )

-- a size field and a header, and a body behind them
pub laid_by : (channel size : ℕ) (text payload : List ℕ) → size ≡ 8 + length text + length payload
    → (to_be_bytes w32 size ++ (2 ∷ 0 ∷ to_be_bytes w16 channel)) ++ (text ++ payload) ≡ laid_out channel text payload
laid_by channel size text payload is =
    let sum : size ≡ 4 + length (2 ∷ 0 ∷ (to_be_bytes w16 channel ++ (text ++ payload))) = omega
    (arith, is, length-append (to_be_bytes w16 channel) (text ++ payload), length-append text payload) in
    append_assoc (to_be_bytes w32 size) (2 ∷ 0 ∷ to_be_bytes w16 channel) (text ++ payload)
    ∙ ap (λ (n : ℕ). to_be_bytes w32 n ++ (2 ∷ 0 ∷ (to_be_bytes w16 channel ++ (text ++ payload)))) sum

-- what was appended is taken back
pub cut_back : (start : ℕ) (old front middle new left : List ℕ) → start ≡ length old → middle ≡ old ++ front
    → StandInFront middle new → left ≡ take start new → left ≡ old
cut_back start old front middle new left is behind stand cut =
    cut ∙ ap (take start) (stand.is ∙ ap (λ (l : List ℕ). l ++ stand.more) behind ∙ append_assoc old front stand.more)
    ∙ take_at old (front ++ stand.more) start (sym is)

-- ---- a frame by its parts

pub body_behind : (text : Option (List ℕ)) (payload old middle new : List ℕ) → Appends text old middle
    → new ≡ middle ++ payload
    → IsBody text payload old new
body_behind text payload old middle new a is =
    record {
      performative = a.bytes;
      is = a.is;
      behind = is ∙ ap (λ (l : List ℕ). l ++ payload) a.behind ∙ append_assoc old a.bytes payload;
    }

pub stands_as_before : (old new : List ℕ) → new ≡ old → StandInFront old new
stands_as_before old new is = record { more = []; is = is ∙ sym (append-nil old) }

pub stands_before_text : (text : Option (List ℕ)) (old middle new : List ℕ) → Appends text old middle
    → new ≡ middle → StandInFront old new
stands_before_text text old middle new a is = record { more = a.bytes; is = is ∙ a.behind }

pub ruleset bodies = (body_behind, stands_as_before, stands_before_text)

pub laid_behind : (channel size : ℕ) (text : Option (List ℕ)) (payload old middle new : List ℕ)
    → HasWholeSize text (length payload) size
    → middle ≡ old ++ (to_be_bytes w32 size ++ (2 ∷ 0 ∷ to_be_bytes w16 channel))
    → IsBody text payload middle new → IsLaidOut channel text payload old new
laid_behind channel size text payload old middle new h front b =
    let one : Some b.performative ≡ Some h.bytes = sym b.is ∙ h.is in
    let same : b.performative ≡ h.bytes = cc in
    record {
      performative = b.performative;
      is = b.is;
      behind =
          b.behind ∙ ap (λ (l : List ℕ). l ++ (b.performative ++ payload)) front
          ∙ append_assoc old (to_be_bytes w32 size ++ (2 ∷ 0 ∷ to_be_bytes w16 channel)) (b.performative ++ payload)
          ∙ ap (λ (l : List ℕ). old ++ l) (laid_by channel size b.performative payload
          (omega (arith, h.long, ap length same)));
    }

pub laid_in : (limit channel size room left : ℕ) (text : Option (List ℕ)) (payload old new : List ℕ)
    → HasWholeSize text (length payload) size → size ≤ limit + 4 → size + left ≡ room
    → IsLaidOut channel text payload old new → IsLaidIn limit channel text payload room (Some left) old new
laid_in limit channel size room left text payload old new h within sum l =
    let one : Some l.performative ≡ Some h.bytes = sym l.is ∙ h.is in
    let same : l.performative ≡ h.bytes = cc in
    record {
      performative = l.performative;
      is = l.is;
      within = omega (arith, h.long, ap length same, within);
      short = omega (arith, h.long, ap length same, h.short);
      appended = (omega (arith, h.long, ap length same, sum, laid_long channel l.performative payload), l.behind);
    }

pub laid_nowhere : (limit channel size room : ℕ) (text : Option (List ℕ)) (payload old new : List ℕ)
    → HasWholeSize text (length payload) size → size ≤ limit + 4 → room < size → new ≡ old
    → IsLaidIn limit channel text payload room None old new
laid_nowhere limit channel size room text payload old new h within over same =
    record {
      performative = h.bytes;
      is = h.is;
      within = omega (arith, h.long, within);
      short = omega (arith, h.long, h.short);
      appended = (omega (arith, h.long, over, laid_long channel h.bytes payload), same);
    }

-- ---- frames

-- a frame with a performative
appended_in : (limit room : ℕ) (f : Frame) (p : Performative) (left : Option ℕ) (old new : List ℕ)
    → performative_of f.body ≡ Some p
    → IsLaidIn limit f.channel (canon (performative_item p)) (payload_of f.body) room left old new
    → IsAppended limit f room left old new
appended_in limit room f p left old new e l =
    record {
      text = laid_out f.channel l.performative (payload_of f.body);
      is = text_by_parts f l.performative (ap performative_text e ∙ l.is) l.short;
      within = omega (arith, laid_long f.channel l.performative (payload_of f.body), l.within);
      appended = l.appended;
    }

pub whole_appended : (limit room : ℕ) (f : Frame) (b : FrameBody) (p : Performative) (payload : List ℕ)
    (left : Option ℕ) (old new : List ℕ)
    → f.body ≡ b → performative_of b ≡ Some p → payload ≡ payload_of b
    → IsLaidIn limit f.channel (canon (performative_item p)) payload room left old new
    → IsAppended limit f room left old new
whole_appended limit room f b p payload left old new is said carries l =
    appended_in limit room f p left old new (ap performative_of is ∙ said)
    (subst (λ (x : List ℕ). IsLaidIn limit f.channel (canon (performative_item p)) x room left old new)
    (carries ∙ sym (ap payload_of is)) l)

-- a frame without a performative
pub empty_appended : (limit room channel : ℕ) (left : Option ℕ) (old new : List ℕ) → 4 ≤ limit
    → AppendedIn room (laid_out channel [] []) left old new
    → IsAppended limit (record { channel = channel; body = Empty }) room left old new
empty_appended limit room channel left old new least a =
    record {
      text = laid_out channel [] [];
      is = text_by_parts (record { channel = channel; body = Empty }) [] refl (omega arith);
      within = omega (arith, laid_long channel [] [], least);
      appended = a;
    }

-- ---- frames that are refused

pub not_appended : (limit : ℕ) (f : Frame) (b : FrameBody) (p : Performative) (payload : List ℕ) (e : Error)
    → f.body ≡ b
    → performative_of b ≡ Some p → payload ≡ payload_of b
    → NotWhole limit (canon (performative_item p)) payload e → NotAppended limit f e
not_appended limit f b p payload TooLarge is said carries n =
    over_performative limit f p (ap performative_of is ∙ said)
    (subst (λ (x : List ℕ). Overflows limit (canon (performative_item p)) (length x))
    (carries ∙ sym (ap payload_of is)) n)
not_appended limit f b p payload Memory is said carries n = tt
not_appended limit f b p payload DecodeError is said carries n = absurd n
not_appended limit f b p payload NotImplemented is said carries n = absurd n
