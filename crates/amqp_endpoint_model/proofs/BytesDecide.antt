-- The bytes fed decide which frames are read.
use Rattle.std.proofs.Common.{◌≡◌, ◌⊎◌, ℕ, List, [], ◌∷◌, refl, sym, ◌∙◌, ap, subst, inl, inr}
use Rattle.amqp_session_frames.specs.declared.frame.Frame.{Frame}
use Rattle.amqp_session_frames.specs.Cutting.{ReadsAs}
use Rattle.amqp_session_frames.specs.Text.{FrameText}
use Rattle.amqp_session_frames.proofs.CuttingLaws.{same_fronts}
use Rattle.amqp_session_frames.proofs.FrameLaws.{frame_piece, frame_same}
use Rattle.amqp_endpoint_model.specs.Relay.{Relations}
use Rattle.amqp_endpoint_model.specs.State.{protocol_header}
use Rattle.amqp_endpoint_model.specs.Step.{Admits}
use Rattle.amqp_endpoint_model.specs.History.{Summary, Framed, IsFront}
use Rattle.amqp_endpoint_model.proofs.Texts.{same_piece}

-- a frame in front of both
fronts-more : (f g : Frame) (fs gs : List Frame) → f ≡ g → IsFront fs gs ⊎ IsFront gs fs
    → IsFront (f ∷ fs) (g ∷ gs) ⊎ IsFront (g ∷ gs) (f ∷ fs)
fronts-more f g fs gs same (inl front) = inl (record {
  more = front.more;
  whole = ap (λ (x : Frame). x ∷ gs) (sym same) ∙ ap (λ (x : List Frame). f ∷ x) front.whole;
})
fronts-more f g fs gs same (inr front) = inr (record {
  more = front.more;
  whole = ap (λ (x : Frame). x ∷ fs) same ∙ ap (λ (x : List Frame). g ∷ x) front.whole;
})

-- bytes are read in one way, as far as they are read
reads-fronts : (limit : ℕ) (bytes : List ℕ) (fs gs : List Frame) (l m : List ℕ)
    → ReadsAs (Admits limit) bytes fs l → ReadsAs (Admits limit) bytes gs m → IsFront fs gs ⊎ IsFront gs fs
reads-fronts limit bytes [] gs l m r t = inl (record { more = gs; whole = refl })
reads-fronts limit bytes (f ∷ fs) [] l m r t = inr (record { more = f ∷ fs; whole = refl })
reads-fronts limit bytes (f ∷ fs) (g ∷ gs) l m (piece, more, whole, one, rest) (piece2, more2, whole2, one2, rest2) =
    let both : (piece ≡ piece2) × (more ≡ more2)
    = same_piece piece piece2 more more2 (frame_piece piece f one.text) (frame_piece piece2 g one2.text)
    (sym whole ∙ whole2) in
    let P : List ℕ → Type 0 = λ x. FrameText x g in
    let Q : List ℕ → Type 0 = λ x. ReadsAs (Admits limit) x gs m in
    let same : f ≡ g = frame_same piece f g one.text (subst P (sym both.0) one2.text) in
    fronts-more f g fs gs same (reads-fronts limit more fs gs l m rest (subst Q (sym both.1) rest2))

module _ {S : Type 0} (does : Relations S) where
  pub bytes_decide : (limit : ℕ) (one other : Summary) (a : Framed does limit one) (b : Framed does limit other)
      → one.fed ≡ other.fed → IsFront a.frames b.frames ⊎ IsFront b.frames a.frames
  bytes_decide limit one other a b same =
      let bodies : a.body ≡ b.body
      = (same_fronts protocol_header protocol_header a.body b.body refl (sym a.header ∙ same ∙ b.header)).1 in
      let P : List ℕ → Type 0 = λ x. ReadsAs (Admits limit) x b.frames b.left in
      reads-fronts limit a.body a.frames b.frames a.left b.left a.read (subst P (sym bodies) b.read)
