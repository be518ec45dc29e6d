-- A transfer that goes in several frames.
use Rattle.std.proofs.Common.{◌≡◌, ◌≢◌, ℕ, ◌+◌, ◌-◌, ◌<◌, ◌≤◌, inl, inr, Bool, true, false, List, [], ◌∷◌, ◌++◌, length, take, drop, Option, Some, refl, sym, ◌∙◌, ap, subst, arith, length-append, append_assoc, take-append-drop}
use Rattle.std.specs.Prelude.{All, map}
use Rattle.std.specs.Int.{w16, to_be_bytes}
use Rattle.std.proofs.lemmas.List.{length-take-le}
use Rattle.std.proofs.lemmas.List.Elements.{All-cons, All-nil, All-head, All-tail}
use Rattle.serde_amqp_item.specs.Canon.{canon}
use Rattle.amqp_session_performatives.specs.Transfer.{transfer_item, transfer_fields}
use Rattle.amqp_session_performatives.specs.declared.transfer.Transfer.{Transfer}
use Rattle.amqp_session_frames.specs.Cutting.{with_size, joined, Cuts}
use Rattle.amqp_session_performatives.specs.Continuation.{continuation}
use Rattle.amqp_session_frames.specs.Parts.{saying, part, room, IsFullPart, AreParts, Continues, IsWritten}
use Rattle.amqp_session_frames.specs.Sizes.{transfer_text, HasText, HasSize, NotSized, Appends, Fits, Fills, Overflows}
use Rattle.amqp_session_frames.specs.Text.{frame_text}
use Rattle.amqp_session_frames.specs.declared.frame.Frame.{Frame}
use Rattle.amqp_session_frames.specs.declared.frame.FrameBody.TheVariants.{Transfer as TransferBody}
use Rattle.amqp_session_frames.proofs.Shorter.{Fewer, Within, record_within}
use Rattle.amqp_session_frames.proofs.Writing.{IsPieceOf, piece_is, sized_long, over_size, over_text}

-- ---- the room that a transfer leaves

pub fills : (limit size left : ℕ) (text : Option (List ℕ)) → HasSize text size → size + 1 ≤ left → left + 4 ≡ room limit → Fills limit text (left - size)
fills limit size left text h le e = record { bytes = h.bytes; is = h.is; full = omega (arith, h.long, le, e); some = omega (arith, le, e) }

same_text : (text : Option (List ℕ)) (a b : List ℕ) → text ≡ Some a → text ≡ Some b → length a ≡ length b
same_text text a b e f = let one : Some a ≡ Some b = sym e ∙ f in let same : a ≡ b = cc in ap length same

pub fills_not : (limit size left : ℕ) (text : Option (List ℕ)) → HasSize text size → left < size + 1 → left + 4 ≡ room limit → Overflows limit text 1
fills_not limit size left text h lt e = record { over = λ bytes is. omega (arith, h.long, same_text text h.bytes bytes h.is is, lt, e) }

pub sized_not : (limit : ℕ) (text : Option (List ℕ)) → NotSized text → Overflows limit text 1
sized_not limit text n = over_size limit text 1 n

pub ruleset filling = (fills, fills_not, sized_not)

-- ---- the texts of the parts

-- a transfer that says false is no longer than one that says true
fewer_more : (t : Transfer) (b : Bool) → Fewer (transfer_fields (record t { more = b })) (transfer_fields (record t { more = true }))
fewer_more t true = (inl refl, (inl refl, (inl refl, (inl refl, (inl refl, (inl refl, (inl refl, (inl refl, (inl refl, (inl refl, (inl refl, tt)))))))))))
fewer_more t false = (inl refl, (inl refl, (inl refl, (inl refl, (inl refl, (inr refl, (inl refl, (inl refl, (inl refl, (inl refl, (inl refl, tt)))))))))))

-- a continuation is no longer than the transfer
fewer_continued : (t : Transfer) → Fewer (transfer_fields (continuation t)) (transfer_fields t)
fewer_continued t = (inl refl, (inr refl, (inr refl, (inr refl, (inr refl, (inl refl, (inr refl, (inr refl, (inr refl, (inr refl, (inr refl, tt)))))))))))

pub more_within : (t : Transfer) (b : Bool) (text : List ℕ) → transfer_text (record t { more = true }) ≡ Some text → Within (transfer_text (record t { more = b })) (length text)
unfolding transfer_text
more_within t b text e = record_within 0x14 (transfer_fields (record t { more = b })) (transfer_fields (record t { more = true })) text (fewer_more t b) e

continued_within : (t : Transfer) (text : List ℕ) → transfer_text t ≡ Some text → Within (transfer_text (continuation t)) (length text)
unfolding transfer_text
continued_within t text e = record_within 0x14 (transfer_fields (continuation t)) (transfer_fields t) text (fewer_continued t) e

pub fills_text : (limit n : ℕ) (text : Option (List ℕ)) → Fills limit text n → HasText text
fills_text limit n text r = record { bytes = r.bytes; is = r.is }

pub last_text : (limit n : ℕ) (t : Transfer) (more : Bool) → Fills limit (transfer_text (saying t true)) n → HasText (transfer_text (saying t more))
last_text limit n t more r =
    let w = more_within t more r.bytes r.is in
    record { bytes = w.bytes; is = w.is }

-- where a transfer leaves room, a continuation of it does
pub continued_fits : (limit n : ℕ) (t : Transfer) → Fills limit (transfer_text (saying t true)) n → Fits limit (transfer_text (saying (continuation t) true)) 1
continued_fits limit n t r =
    let w = continued_within (saying t true) r.bytes r.is in
    record { bytes = w.bytes; is = w.is; within = omega (arith, w.short, r.full, r.some) }

-- what fits with a byte of payload doesn't overflow with one
pub fits_over : (limit : ℕ) (text : Option (List ℕ)) → Fits limit text 1 → Overflows limit text 1 → ⊥
fits_over limit text h n = omega (arith, h.within, n.over h.bytes h.is)

-- a payload that has no room is longer than the first part of it
pub first_less : (limit n : ℕ) (t : Transfer) (payload : List ℕ) → Overflows limit (transfer_text t) (length payload) → Fills limit (transfer_text (saying t true)) n → n < length payload
first_less limit n t payload o r =
    let w = more_within t t.more r.bytes r.is in
    omega (arith, o.over w.bytes w.is, w.short, r.full)

-- ---- the pieces

pub part_text : (t : Transfer) (text : List ℕ) → transfer_text t ≡ Some text → canon (transfer_item t) ≡ Some text
unfolding transfer_text
part_text t text e = e

pub part_over : (limit payload : ℕ) (t : Transfer) → Overflows limit (transfer_text t) payload → Overflows limit (canon (transfer_item t)) payload
unfolding transfer_text
part_over limit payload t o = o

part_piece : (limit channel : ℕ) (t : Transfer) (b : Bool) (chunk head : List ℕ) → Appends (transfer_text (saying t b)) (2 ∷ 0 ∷ to_be_bytes w16 channel) head → length head + length chunk ≤ room limit → IsPieceOf limit (part channel t b chunk) (head ++ chunk)
part_piece limit channel t b chunk head a le =
    piece_is limit (part channel t b chunk) a.bytes head (part_text (saying t b) a.bytes a.is) a.behind (omega (arith, ap length a.behind, length-append (2 ∷ 0 ∷ to_be_bytes w16 channel) a.bytes, le))

-- pieces that are the parts of a transfer
record Carried (limit channel : ℕ) (t : Transfer) (more : Bool) (payload : List ℕ) (pieces : List (List ℕ)) : Type 0 where
  pub parts : List Frame
  pub texts : map (λ p. Some (with_size p)) pieces ≡ map frame_text parts
  pub are : AreParts limit channel t more payload parts
  pub within : All (λ p. length p ≤ limit) pieces

within_room : (limit : ℕ) (piece : List ℕ) → length piece ≤ room limit → length piece ≤ limit
within_room limit piece le = omega (arith, le)

not_empty : (bytes : List ℕ) → 0 < length bytes → bytes ≢ []
not_empty bytes lt e = omega (arith, ap length e, lt)

carried_last : (limit channel : ℕ) (t : Transfer) (more : Bool) (left piece : List ℕ) → IsPieceOf limit (part channel t more left) piece → 0 < length left → Carried limit channel t more left (piece ∷ [])
carried_last limit channel t more left piece p lt = record {
  parts = part channel t more left ∷ [];
  texts = ap (λ (o : Option (List ℕ)). o ∷ []) (sym p.text);
  are = record { some = not_empty left lt; is = refl };
  within = All-cons (λ q. length q ≤ limit) piece [] (within_room limit piece p.short) (All-nil (λ q. length q ≤ limit));
}

full_part : (limit channel : ℕ) (t : Transfer) (chunk piece : List ℕ) → IsPieceOf limit (part channel t true chunk) piece → length piece ≡ room limit → 0 < length chunk → IsFullPart limit channel t chunk (part channel t true chunk)
full_part limit channel t chunk piece p full lt = record {
  some = not_empty chunk lt;
  is = refl;
  full = (with_size piece, p.text, omega (arith, sized_long piece, full));
}

-- one more in front
more_parts : (limit channel : ℕ) (t : Transfer) (more : Bool) (chunk rest : List ℕ) (parts : List Frame) → IsFullPart limit channel t chunk (part channel t true chunk) → AreParts limit channel (continuation t) more rest parts → AreParts limit channel t more (chunk ++ rest) (part channel t true chunk ∷ parts)
more_parts limit channel t more chunk rest [] p c = absurd c
more_parts limit channel t more chunk rest (g ∷ gs) p c = (chunk, rest, refl, p, c)

carried_more : (limit channel : ℕ) (t : Transfer) (more : Bool) (chunk rest piece : List ℕ) (pieces : List (List ℕ)) → IsPieceOf limit (part channel t true chunk) piece → length piece ≡ room limit → 0 < length chunk → Carried limit channel (continuation t) more rest pieces → Carried limit channel t more (chunk ++ rest) (piece ∷ pieces)
carried_more limit channel t more chunk rest piece pieces p full lt c = record {
  parts = part channel t true chunk ∷ c.parts;
  texts = ap (λ (o : Option (List ℕ)). o ∷ map (λ q. Some (with_size q)) pieces) (sym p.text) ∙ ap (λ (os : List (Option (List ℕ))). frame_text (part channel t true chunk) ∷ os) c.texts;
  are = more_parts limit channel t more chunk rest c.parts (full_part limit channel t chunk piece p full lt) c.are;
  within = All-cons (λ q. length q ≤ limit) piece pieces (within_room limit piece p.short) c.within;
}

-- the head of a full part, and so many bytes of payload
full_long : (limit channel n : ℕ) (t : Transfer) (head chunk : List ℕ) → Fills limit (transfer_text (saying t true)) n → Appends (transfer_text (saying t true)) (2 ∷ 0 ∷ to_be_bytes w16 channel) head → length chunk ≡ n → length head + length chunk ≡ room limit
full_long limit channel n t head chunk r a long =
    omega (arith, ap length a.behind, length-append (2 ∷ 0 ∷ to_be_bytes w16 channel) a.bytes, same_text (transfer_text (saying t true)) a.bytes r.bytes a.is r.is, r.full, long)

-- the pieces between the first and the last, and the last
carried_all : (limit channel n : ℕ) (t : Transfer) (more : Bool) (head left last : List ℕ) (chunks : List (List ℕ)) → continuation t ≡ t → Fills limit (transfer_text (saying t true)) n → Appends (transfer_text (saying t true)) (2 ∷ 0 ∷ to_be_bytes w16 channel) head → All (λ c. length c ≡ n) chunks → Carried limit channel t more left (last ∷ []) → Carried limit channel t more (joined chunks ++ left) (map (λ c. head ++ c) chunks ++ last ∷ [])
carried_all limit channel n t more head left last [] same r a full c = c
carried_all limit channel n t more head left last (chunk ∷ chunks) same r a full c =
    let others = carried_all limit channel n t more head left last chunks same r a (All-tail (λ x. length x ≡ n) chunk chunks full) c in
    let long : length chunk ≡ n = All-head (λ x. length x ≡ n) chunk chunks full in
    let size = full_long limit channel n t head chunk r a long in
    let piece = part_piece limit channel t true chunk head a (omega (arith, size)) in
    let all = carried_more limit channel t more chunk (joined chunks ++ left) (head ++ chunk) (map (λ x. head ++ x) chunks ++ last ∷ []) piece (omega (arith, size, length-append head chunk)) (omega (arith, long, r.some)) (subst (λ (u : Transfer). Carried limit channel u more (joined chunks ++ left) (map (λ x. head ++ x) chunks ++ last ∷ [])) (sym same) others) in
    subst (λ (payload : List ℕ). Carried limit channel t more payload ((head ++ chunk) ∷ (map (λ x. head ++ x) chunks ++ last ∷ []))) (sym (append_assoc chunk (joined chunks) left)) all

pub others_pushed : (limit channel n : ℕ) (t : Transfer) (payload left head last piece : List ℕ) (old mid new : List (List ℕ)) → continuation t ≡ t → 0 < length payload → Fills limit (transfer_text (saying t true)) n → Appends (transfer_text (saying t true)) (2 ∷ 0 ∷ to_be_bytes w16 channel) head → Cuts head n old mid payload left → length left ≤ n → Appends (transfer_text (saying t t.more)) (2 ∷ 0 ∷ to_be_bytes w16 channel) last → piece ≡ last ++ left → new ≡ mid ++ piece ∷ [] → Continues limit channel t t.more payload old new
others_pushed limit channel n t payload left head last piece old mid new same some r a c le b is whole =
    let w = more_within t t.more r.bytes r.is in
    let short : length last + length left ≤ room limit = omega (arith, ap length b.behind, length-append (2 ∷ 0 ∷ to_be_bytes w16 channel) b.bytes, same_text (transfer_text (saying t t.more)) b.bytes w.bytes b.is w.is, w.short, r.full, le) in
    let end = carried_last limit channel t t.more left (last ++ left) (part_piece limit channel t t.more left last b short) (c.some some) in
    let all = carried_all limit channel n t t.more head left (last ++ left) c.chunks same r a c.full end in
    record {
      pieces = map (λ x. head ++ x) c.chunks ++ (last ++ left) ∷ [];
      parts = all.parts;
      behind = whole ∙ (ap (λ (q : List ℕ). mid ++ q ∷ []) is ∙ (ap (λ (ps : List (List ℕ)). ps ++ (last ++ left) ∷ []) c.pieces ∙ append_assoc old (map (λ x. head ++ x) c.chunks) ((last ++ left) ∷ [])));
      texts = all.texts;
      are = subst (λ (l : List ℕ). AreParts limit channel t t.more l all.parts) (sym c.payload) all.are;
      within = all.within;
    }

-- the pieces of what a continuation is, whatever it is called
pub others_of : (limit channel : ℕ) (t u : Transfer) (payload : List ℕ) (old new : List (List ℕ)) → u ≡ continuation t → Continues limit channel u u.more payload old new → Continues limit channel (continuation t) t.more payload old new
others_of limit channel t u payload old new e c = subst (λ (x : Transfer). Continues limit channel x x.more payload old new) e c

-- ---- the first piece

two_parts : (limit channel : ℕ) (t : Transfer) (more : Bool) (payload : List ℕ) (f : Frame) (parts : List Frame) → AreParts limit channel t more payload parts → 2 ≤ length (f ∷ parts)
two_parts limit channel t more payload f [] c = absurd c
two_parts limit channel t more payload f (g ∷ gs) c = omega arith

pub record Whole (limit channel : ℕ) (t : Transfer) (payload : List ℕ) (pieces : List (List ℕ)) : Type 0 where
  pub written : IsWritten limit (record { channel = channel; body = TransferBody t payload }) pieces
  pub within : All (λ p. length p ≤ limit) pieces

pub whole : (limit channel n : ℕ) (t : Transfer) (payload rest head first piece : List ℕ) (old others pieces : List (List ℕ)) → Overflows limit (transfer_text t) (length payload) → Fills limit (transfer_text (saying t true)) n → Appends (transfer_text (saying t true)) (2 ∷ 0 ∷ to_be_bytes w16 channel) head → first ≡ take n payload → rest ≡ drop n payload → piece ≡ head ++ first → old ≡ [] → Continues limit channel (continuation t) t.more rest old others → pieces ≡ piece ∷ others → Whole limit channel t payload pieces
unfolding carried_more
whole limit channel n t payload rest head first one old others pieces o r a f d begins none c both =
    let less = first_less limit n t payload o r in
    let long : length first ≡ n = ap length f ∙ length-take-le n payload (omega (arith, less)) in
    let size = full_long limit channel n t head first r a long in
    let piece = part_piece limit channel t true first head a (omega (arith, size)) in
    let payload_is : first ++ rest ≡ payload = ap (λ (x : List ℕ). x ++ rest) f ∙ (ap (λ (x : List ℕ). take n payload ++ x) d ∙ take-append-drop n payload) in
    let all = carried_more limit channel t t.more first rest (head ++ first) c.pieces piece (omega (arith, size, length-append head first)) (omega (arith, long, r.some)) (record { parts = c.parts; texts = c.texts; are = c.are; within = c.within }) in
    let together : pieces ≡ (head ++ first) ∷ c.pieces = both ∙ (ap (λ (p : List ℕ). p ∷ others) begins ∙ ap (λ (ps : List (List ℕ)). (head ++ first) ∷ ps) (c.behind ∙ ap (λ (ps : List (List ℕ)). ps ++ c.pieces) none)) in
    record {
      written = subst (λ (ps : List (List ℕ)). IsWritten limit (record { channel = channel; body = TransferBody t payload }) ps) (sym together) (record {
        parts = all.parts;
        texts = all.texts;
        goes = inr (t, payload, refl, over_text limit (record { channel = channel; body = TransferBody t payload }) (part_over limit (length payload) t o), two_parts limit channel (continuation t) t.more rest (part channel t true first) c.parts c.are, subst (λ (l : List ℕ). AreParts limit channel t t.more l all.parts) payload_is all.are);
      });
      within = subst (λ (ps : List (List ℕ)). All (λ p. length p ≤ limit) ps) (sym together) all.within;
    }
