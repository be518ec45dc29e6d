-- A frame whose performative was put together by hand is appended.
use Rattle.std.proofs.Common.{◌≡◌, ℕ, ◌+◌, ◌-◌, ◌<◌, ◌≤◌, ◌^◌, List, [], ◌∷◌, ◌++◌, length, take, drop, Option, Some, refl, sym, ◌∙◌, ap, subst, arith, append_assoc}
use Rattle.std.specs.Prelude.{slice_range}
use Rattle.std.specs.Int.{to_be_bytes, w16, w32}
use Rattle.amqp_session_frames.specs.Appending.{HasWholeSize, IsLaidIn, IsLaidOut}
use Rattle.amqp_session_frames.specs.Items.{Holds, Puts}
use Rattle.amqp_session_frames.specs.Sizes.{NotWhole}
use Rattle.amqp_session_frames.specs.declared.error.Error.{Error}
use Rattle.amqp_session_frames.proofs.Appended.{laid_by}
use Rattle.amqp_session_frames.proofs.Puts.{put_over, stands_at}

pub whole_has_size : (text : List ℕ) (end payload size : ℕ) → 8 + length text ≡ end → size ≡ end + payload → size < 2 ^ 32
    → HasWholeSize (Some text) payload size
whole_has_size text end payload size long sum short =
    record { bytes = text; is = refl; long = omega (arith, long, sum); short = short }

pub laid_text : (channel size end head_end : ℕ) (payload old middle out bytes bytes_new : List ℕ) → 8 ≤ end → end ≤ length bytes
    → size ≡ end + length payload
    → Puts (to_be_bytes w32 size ++ (2 ∷ 0 ∷ to_be_bytes w16 channel)) 0 head_end bytes bytes_new → drop head_end bytes_new ≡ drop head_end bytes
    → middle ≡ old ++ take end bytes_new → out ≡ middle ++ payload
    → IsLaidOut channel (Some (slice_range bytes 8 end)) payload old out
laid_text channel size end head_end payload old middle out bytes bytes_new from within sum head behind one two =
    let text : List ℕ = slice_range bytes 8 end in
    let front : List ℕ = to_be_bytes w32 size ++ (2 ∷ 0 ∷ to_be_bytes w16 channel) in
    let stands : Puts text 8 end bytes bytes = stands_at bytes 8 end from within in
    let at : head_end ≡ 8 = head.long in
    let over : Puts (front ++ text) 0 end bytes bytes_new = put_over front text bytes bytes bytes_new 0 head_end end
    (subst (λ (k : ℕ). Puts text k end bytes bytes) (sym at) stands) head behind (omega (arith, at, from, within)) in
    record {
      performative = text;
      is = refl;
      behind = two ∙ ap (λ (l : List ℕ). l ++ payload) one
          ∙ ap (λ (l : List ℕ). (old ++ l) ++ payload) over.front
          ∙ append_assoc old (front ++ text) payload
          ∙ ap (λ (l : List ℕ). old ++ l) (append_assoc front text payload ∙ laid_by channel size text payload (omega (arith, sum, stands.long)));
    }

-- the text is another's
pub laid_as_held : (limit channel end : ℕ) (text : Option (List ℕ)) (payload bytes : List ℕ) (room : ℕ) (left : Option ℕ) (old new : List ℕ)
    → Holds text end bytes → IsLaidIn limit channel (Some (slice_range bytes 8 end)) payload room left old new
    → IsLaidIn limit channel text payload room left old new
laid_as_held limit channel end text payload bytes room left old new h l =
    subst (λ (t : Option (List ℕ)). IsLaidIn limit channel t payload room left old new) (sym h.is) l

pub refused_as_held : (limit end : ℕ) (text : Option (List ℕ)) (payload bytes : List ℕ) (e : Error)
    → Holds text end bytes → NotWhole limit (Some (slice_range bytes 8 end)) payload e → NotWhole limit text payload e
refused_as_held limit end text payload bytes e h n =
    subst (λ (t : Option (List ℕ)). NotWhole limit t payload e) (sym h.is) n

pub ruleset as_held = (laid_as_held, refused_as_held)
