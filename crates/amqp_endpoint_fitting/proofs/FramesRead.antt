-- Frames that are read one after another.
use Rattle.std.proofs.Common.{◌≡◌, inl, inr, ℕ, ◌+◌, ◌<◌, ◌≤◌, List, length, arith, sym, subst, ◌∙◌, ap}
use Rattle.std.specs.Prelude.{All, ◌⊎◌, drop, slice_index_or}
use Rattle.std.proofs.lemmas.List.{get_or-drop, get_or_default, length-drop}
use Rattle.amqp_session_performatives.specs.declared.session_frame.SessionFrame.{SessionFrame}
use Rattle.amqp_endpoint_fitting.specs.Read.{IsRead}

abbrev pub ReadBetween : List SessionFrame → ℕ → ℕ → Type 0
ReadBetween frames from index =
    (k : ℕ) (d : SessionFrame) → from ≤ k → k < index → IsRead (slice_index_or frames k d)

here_or_before : (k index : ℕ) → k < index + 1 → (k < index) ⊎ (k ≡ index)
here_or_before k index lt = grind arith

-- one more
pub read-more : (frames : List SessionFrame) (from index : ℕ) (frame : SessionFrame) → index < length frames
    → frame ≡ slice_index_or frames index frame → IsRead frame
    → ReadBetween frames from index → ReadBetween frames from (index + 1)
read-more frames from index frame within is read h k d low high =
    elim (here_or_before k index high) [
      | inl before ↦ h k d low before
      | inr here ↦
          let same : frame ≡ slice_index_or frames k d =
          is ∙ get_or_default frames index frame d within ∙ ap (λ (i : ℕ). slice_index_or frames i d) (sym here) in
          subst IsRead same read
    ]

-- all from there on
pub read-behind : (frames : List SessionFrame) (from index : ℕ) → length frames ≤ index
    → ReadBetween frames from index → All IsRead (drop from frames)
read-behind frames from index whole h k d lt =
    subst IsRead (sym (get_or-drop from frames k d))
    (h (from + k) d (omega arith) (omega (arith, lt, length-drop from frames, whole)))
