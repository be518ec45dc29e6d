-- The text of a frame, and what has none that fits.
use Rattle.std.proofs.Common.{◌≡◌, ℕ, ◌+◌, ◌<◌, ◌≤◌, ◌^◌, inl, Bool, true, false, List, [], ◌∷◌, ◌++◌, length, Option, Some, None, refl, sym, ◌∙◌, ap, subst, arith, length-append, append_assoc, append-nil}
use Rattle.std.proofs.lemmas.List.Elements.{All-cons, All-nil}
use Rattle.std.specs.Prelude.{nat_lt, All}
use Rattle.std.specs.Int.{w16, w32, to_be_bytes}
use Rattle.std.proofs.lemmas.Bool.Decides.{nat_tests}
use Rattle.serde_amqp_item.specs.Canon.{canon, ◌>>=◌}
use Rattle.amqp_session_performatives.specs.Performative.{performative_item}
use Rattle.amqp_session_performatives.specs.declared.performative.Performative.{Performative}
use Rattle.amqp_session_frames.specs.Cutting.{with_size}
use Rattle.amqp_session_frames.specs.Parts.{room, IsWritten}
use Rattle.amqp_session_frames.specs.Sizes.{HasSize, NotSized, IsOnePiece, IsWhole, Overflows}
use Rattle.amqp_session_frames.specs.Text.{IsOver, IsWithin, performative_of, performative_text, payload_of}
use Rattle.amqp_session_frames.specs.Text.{sized_text, frame_text}
use Rattle.amqp_session_frames.specs.declared.frame.Frame.{Frame}
use Rattle.amqp_session_frames.specs.declared.frame.FrameBody.{FrameBody}
use Rattle.amqp_session_frames.specs.declared.frame.FrameBody.TheVariants.{Empty}

-- ---- texts

-- the piece of a frame with this performative text and this payload
pub piece_of : ℕ → List ℕ → List ℕ → List ℕ
piece_of channel text payload = 2 ∷ 0 ∷ (to_be_bytes w16 channel ++ (text ++ payload))

piece_long : (channel : ℕ) (text payload : List ℕ) → length (piece_of channel text payload) ≡ 4 + length text + length payload
unfolding piece_of
piece_long channel text payload = omega (arith, length-append (to_be_bytes w16 channel) (text ++ payload), length-append text payload)

frame_has : (f : Frame) (text : List ℕ) → performative_text (performative_of f.body) ≡ Some text → frame_text f ≡ sized_text (piece_of f.channel text (payload_of f.body))
unfolding piece_of
frame_has f text e = ap (λ (o : Option (List ℕ)). ((o >>= λ t. Some (t ++ payload_of f.body)) >>= λ content. Some (2 ∷ 0 ∷ (to_be_bytes w16 f.channel ++ content))) >>= sized_text) e

pub frame_none : (f : Frame) → performative_text (performative_of f.body) ≡ None → frame_text f ≡ None
frame_none f e = ap (λ (o : Option (List ℕ)). ((o >>= λ t. Some (t ++ payload_of f.body)) >>= λ content. Some (2 ∷ 0 ∷ (to_be_bytes w16 f.channel ++ content))) >>= sized_text) e

sized_if : (piece : List ℕ) → 4 + length piece < 2 ^ 32 → sized_text piece ≡ Some (with_size piece)
sized_if piece lt = let b : nat_lt (4 + length piece) (2 ^ 32) ≡ true = grind (arith, nat_tests) in rw b refl

sized_none : (piece : List ℕ) → 2 ^ 32 ≤ 4 + length piece → sized_text piece ≡ None
sized_none piece le = let b : nat_lt (4 + length piece) (2 ^ 32) ≡ false = grind (arith, nat_tests) in rw b refl

pub sized_long : (piece : List ℕ) → length (with_size piece) ≡ 4 + length piece
sized_long piece = omega (arith, length-append (to_be_bytes w32 (4 + length piece)) piece)

below_none : (f : Frame) (text : List ℕ) (most : ℕ) → performative_text (performative_of f.body) ≡ Some text → 2 ^ 32 ≤ 8 + length text + length (payload_of f.body) → IsOver most (frame_text f)
below_none f text most e le =
    let none : frame_text f ≡ None = frame_has f text e ∙ sized_none (piece_of f.channel text (payload_of f.body)) (omega (arith, piece_long f.channel text (payload_of f.body), le)) in
    subst (λ (o : Option (List ℕ)). IsOver most o) (sym none) tt

over_if : (f : Frame) (text : List ℕ) (most : ℕ) → performative_text (performative_of f.body) ≡ Some text → 8 + length text + length (payload_of f.body) < 2 ^ 32 → most < 8 + length text + length (payload_of f.body) → IsOver most (frame_text f)
over_if f text most e lt over =
    let piece : List ℕ = piece_of f.channel text (payload_of f.body) in
    let long = piece_long f.channel text (payload_of f.body) in
    let is : frame_text f ≡ Some (with_size (piece_of f.channel text (payload_of f.body))) = frame_has f text e ∙ sized_if (piece_of f.channel text (payload_of f.body)) (omega (arith, long, lt)) in
    subst (λ (o : Option (List ℕ)). IsOver most o) (sym is) (omega (arith, over, long, sized_long (piece_of f.channel text (payload_of f.body))))

by_size : (f : Frame) (text : List ℕ) (most : ℕ) → performative_text (performative_of f.body) ≡ Some text → most < 8 + length text + length (payload_of f.body) → (b : Bool) → nat_lt (8 + length text + length (payload_of f.body)) (2 ^ 32) ≡ b → IsOver most (frame_text f)
by_size f text most e over true t = over_if f text most e (grind (arith, nat_tests)) over
by_size f text most e over false t = below_none f text most e (grind (arith, nat_tests))

-- a frame that has no room
pub over_room : (f : Frame) (text : List ℕ) (limit : ℕ) → performative_text (performative_of f.body) ≡ Some text → room limit < 4 + length text + length (payload_of f.body) → IsOver (limit + 4) (frame_text f)
over_room f text limit e lt = by (nat_lt limit (4 + length text + length (payload_of f.body))) refl
  where
    by : (b : Bool) → nat_lt limit (4 + length text + length (payload_of f.body)) ≡ b → IsOver (limit + 4) (frame_text f)
    by true t = by_size f text (limit + 4) e (grind (arith, nat_tests)) (nat_lt (8 + length text + length (payload_of f.body)) (2 ^ 32)) refl
    by false t = let le : 4 + length text + length (payload_of f.body) ≤ limit = grind (arith, nat_tests) in below_none f text (limit + 4) e (omega (arith, lt, le))

-- a frame without a text, or with one that is longer than any number of a usize
none_by : (f : Frame) (most : ℕ) → NotSized (performative_text (performative_of f.body)) → (o : Option (List ℕ)) → performative_text (performative_of f.body) ≡ o → IsOver most (frame_text f)
none_by f most n None e = subst (λ (o : Option (List ℕ)). IsOver most o) (sym (frame_none f e)) tt
none_by f most n (Some text) e = below_none f text most e (omega (arith, n.none text e))

pub over_sized : (f : Frame) (most : ℕ) → NotSized (performative_text (performative_of f.body)) → IsOver most (frame_text f)
over_sized f most n = none_by f most n (performative_text (performative_of f.body)) refl

-- a frame that has room
text_is : (limit : ℕ) (f : Frame) (text : List ℕ) → performative_text (performative_of f.body) ≡ Some text → 4 + length text + length (payload_of f.body) ≤ room limit → frame_text f ≡ Some (with_size (piece_of f.channel text (payload_of f.body)))
text_is limit f text e le = frame_has f text e ∙ sized_if (piece_of f.channel text (payload_of f.body)) (omega (arith, piece_long f.channel text (payload_of f.body), le))

-- its text is within the limit then
pub within_room : (f : Frame) (text : List ℕ) (limit : ℕ)
    → performative_text (performative_of f.body) ≡ Some text
    → 4 + length text + length (payload_of f.body) ≤ room limit → IsWithin (limit + 4) (frame_text f)
within_room f text limit e le =
    let piece : List ℕ = piece_of f.channel text (payload_of f.body) in
    subst (λ (o : Option (List ℕ)). IsWithin (limit + 4) o) (sym (text_is limit f text e le))
    (omega (arith, le, piece_long f.channel text (payload_of f.body), sized_long piece))

-- its bytes, by their parts
pub text_by_parts : (f : Frame) (text : List ℕ) → performative_text (performative_of f.body) ≡ Some text
    → 8 + length text + length (payload_of f.body) < 2 ^ 32
    → frame_text f ≡ Some (with_size (2 ∷ 0 ∷ (to_be_bytes w16 f.channel ++ (text ++ payload_of f.body))))
unfolding piece_of
text_by_parts f text e lt = frame_has f text e
    ∙ sized_if (piece_of f.channel text (payload_of f.body))
    (omega (arith, piece_long f.channel text (payload_of f.body), lt))

-- ---- a frame that goes in one piece

-- a head, and the payload
pub head_piece : (channel : ℕ) (text head payload : List ℕ) → head ≡ (2 ∷ 0 ∷ to_be_bytes w16 channel) ++ text → head ++ payload ≡ piece_of channel text payload
unfolding piece_of
head_piece channel text head payload e =
    ap (λ (h : List ℕ). h ++ payload) e ∙ append_assoc (2 ∷ 0 ∷ to_be_bytes w16 channel) text payload

pub within_limit : (limit : ℕ) (piece : List ℕ) → length piece ≤ room limit → All (λ p. length p ≤ limit) (piece ∷ [])
within_limit limit piece le = let l : length piece ≤ limit = omega (arith, le) in All-cons (λ p. length p ≤ limit) piece [] l (All-nil (λ p. length p ≤ limit))

-- what a piece says, and how long it is
pub record IsPieceOf (limit : ℕ) (f : Frame) (piece : List ℕ) : Type 0 where
  pub text : frame_text f ≡ Some (with_size piece)
  pub short : length piece ≤ room limit

pub piece_is : (limit : ℕ) (f : Frame) (text head : List ℕ) → performative_text (performative_of f.body) ≡ Some text → head ≡ (2 ∷ 0 ∷ to_be_bytes w16 f.channel) ++ text → 4 + length text + length (payload_of f.body) ≤ room limit → IsPieceOf limit f (head ++ payload_of f.body)
piece_is limit f text head e h le =
    let same = head_piece f.channel text head (payload_of f.body) h in
    record {
      text = text_is limit f text e le ∙ ap (λ (p : List ℕ). Some (with_size p)) (sym same);
      short = omega (arith, ap length same, piece_long f.channel text (payload_of f.body), le);
    }

pub one_written : (limit : ℕ) (f : Frame) (piece : List ℕ) (pieces : List (List ℕ)) → IsPieceOf limit f piece → pieces ≡ piece ∷ [] → IsWritten limit f pieces
one_written limit f piece pieces p e =
    subst (λ (ps : List (List ℕ)). IsWritten limit f ps) (sym e) (record { parts = f ∷ []; texts = ap (λ (o : Option (List ℕ)). o ∷ []) (sym p.text); goes = inl refl })

pub one_within : (limit : ℕ) (f : Frame) (piece : List ℕ) (pieces : List (List ℕ)) → IsPieceOf limit f piece → pieces ≡ piece ∷ [] → All (λ p. length p ≤ limit) pieces
one_within limit f piece pieces p e = subst (λ (ps : List (List ℕ)). All (λ q. length q ≤ limit) ps) (sym e) (within_limit limit piece p.short)

nothing : (b : FrameBody) → performative_of b ≡ None → b ≡ Empty
nothing Empty e = refl
nothing b e = absurd cc

-- an empty frame
pub empty_piece : (limit : ℕ) (f : Frame) (head payload piece : List ℕ) → 4 ≤ room limit → performative_of f.body ≡ None → head ≡ 2 ∷ 0 ∷ to_be_bytes w16 f.channel → payload ≡ payload_of f.body → piece ≡ head ++ payload → IsPieceOf limit f piece
empty_piece limit f head payload piece least e h p is =
    let none : payload_of f.body ≡ [] = ap payload_of (nothing f.body e) in
    let one = piece_is limit f [] head (ap performative_text e) (h ∙ sym (append-nil (2 ∷ 0 ∷ to_be_bytes w16 f.channel))) (omega (arith, least, ap length none)) in
    subst (λ (q : List ℕ). IsPieceOf limit f q) (sym (is ∙ ap (λ (l : List ℕ). head ++ l) p)) one

-- a frame in one piece
pub whole_piece : (limit : ℕ) (f : Frame) (p : Performative) (pieces : List (List ℕ)) → performative_of f.body ≡ Some p → (w : IsWhole limit f.channel (canon (performative_item p)) (payload_of f.body) pieces) → IsPieceOf limit f (w.piece.head ++ payload_of f.body)
whole_piece limit f p pieces e w = piece_is limit f w.piece.appends.bytes w.piece.head (ap performative_text e ∙ w.piece.appends.is) w.piece.appends.behind w.short

pub whole_written : (limit : ℕ) (f : Frame) (p : Performative) (pieces : List (List ℕ)) → performative_of f.body ≡ Some p → IsWhole limit f.channel (canon (performative_item p)) (payload_of f.body) pieces → IsWritten limit f pieces
whole_written limit f p pieces e w = one_written limit f (w.piece.head ++ payload_of f.body) pieces (whole_piece limit f p pieces e w) w.piece.one

pub whole_within : (limit : ℕ) (f : Frame) (p : Performative) (pieces : List (List ℕ)) → performative_of f.body ≡ Some p → IsWhole limit f.channel (canon (performative_item p)) (payload_of f.body) pieces → All (λ q. length q ≤ limit) pieces
whole_within limit f p pieces e w = one_within limit f (w.piece.head ++ payload_of f.body) pieces (whole_piece limit f p pieces e w) w.piece.one

-- a frame that has no room
over_by : (limit : ℕ) (f : Frame) → Overflows limit (performative_text (performative_of f.body)) (length (payload_of f.body)) → (o : Option (List ℕ)) → performative_text (performative_of f.body) ≡ o → IsOver (limit + 4) (frame_text f)
over_by limit f n None e = subst (λ (o : Option (List ℕ)). IsOver (limit + 4) o) (sym (frame_none f e)) tt
over_by limit f n (Some text) e = over_room f text limit e (n.over text e)

pub over_text : (limit : ℕ) (f : Frame) → Overflows limit (performative_text (performative_of f.body)) (length (payload_of f.body)) → IsOver (limit + 4) (frame_text f)
over_text limit f n = over_by limit f n (performative_text (performative_of f.body)) refl

pub over_performative : (limit : ℕ) (f : Frame) (p : Performative) → performative_of f.body ≡ Some p → Overflows limit (canon (performative_item p)) (length (payload_of f.body)) → IsOver (limit + 4) (frame_text f)
over_performative limit f p e n = over_text limit f (subst (λ (o : Option Performative). Overflows limit (performative_text o) (length (payload_of f.body))) (sym e) n)

-- what is in one piece, as the encoder finds out
pub fitting : (limit channel size : ℕ) (text : Option (List ℕ)) (payload : List ℕ) (pieces : List (List ℕ)) → HasSize text size → size + length payload + 4 ≤ room limit → IsOnePiece text (2 ∷ 0 ∷ to_be_bytes w16 channel) payload pieces → IsWhole limit channel text payload pieces
fitting limit channel size text payload pieces h le w =
    let one : Some w.appends.bytes ≡ Some h.bytes = sym w.appends.is ∙ h.is in
    let same : w.appends.bytes ≡ h.bytes = cc in
    record { piece = w; short = omega (arith, h.long, ap length same, le) }

pub over_size : (limit : ℕ) (text : Option (List ℕ)) (payload : ℕ) → NotSized text → Overflows limit text payload
over_size limit text payload n = record { over = λ bytes e. omega (arith, n.none bytes e) }

pub over_sum : (limit size payload : ℕ) (text : Option (List ℕ)) → HasSize text size → room limit < size + payload + 4 → Overflows limit text payload
over_sum limit size payload text h lt = record { over = λ bytes e. let one : Some bytes ≡ Some h.bytes = sym e ∙ h.is in let same : bytes ≡ h.bytes = cc in omega (arith, h.long, ap length same, lt) }
