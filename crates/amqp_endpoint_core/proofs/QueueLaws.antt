-- What waits is within the limit.
use Rattle.std.proofs.Common.{◌≡◌, ℕ, ◌≤◌, ◌<◌, zero, suc, List, [], ◌∷◌, ◌++◌, length, drop, true, refl, sym, ap}
use Rattle.std.proofs.Common.{arith, subst, append_assoc, append-nil, ◌∙◌}
use Rattle.std.specs.List.{All}
use Rattle.std.specs.Prelude.{slice_index_or}
use Rattle.amqp_session_performatives.specs.declared.session_frame.SessionFrame.{SessionFrame}
use Rattle.amqp_session_frames.specs.declared.frame.Frame.{Frame}
use Rattle.amqp_endpoint_model.specs.State.{Waiting, the_header, the_frame, fits, frame_of, waiting_of}
use Rattle.amqp_endpoint_core.specs.Queue.{AllWithin, IsWithin, frames_waiting}
use Rattle.amqp_endpoint_core.proofs.CodingLaws.{fits_more}

module _ {X : Type 0} (P : X → Type 0) where
  all_none : All P []
  all_none = λ k d lt. absurd (omega (arith, lt))

  all_rest : (x : X) (xs : List X) → All P (x ∷ xs) → All P xs
  all_rest x xs h = λ k d lt. h (suc k) d (omega (arith, lt))

  all_cons : (x : X) (xs : List X) → P x → All P xs → All P (x ∷ xs)
  all_cons x xs p h = by
    where
      by : (k : ℕ) (d : X) → k < length (x ∷ xs) → P (slice_index_or (x ∷ xs) k d)
      by zero d lt = p
      by (suc k) d lt = h k d (omega (arith, lt))

  all_both : (xs ys : List X) → All P xs → All P ys → All P (xs ++ ys)
  all_both [] ys h g = g
  all_both (x ∷ xs) ys h g = all_cons x (xs ++ ys) (h zero x (omega arith)) (all_both xs ys (all_rest x xs h) g)

waiting-within : (limit : ℕ) (fs : List SessionFrame) → All (λ f. fits limit (frame_of f) ≡ true) fs
    → All (IsWithin limit) (frames_waiting fs)
waiting-within limit [] h = all_none (IsWithin limit)
waiting-within limit (f ∷ fs) h =
    all_cons (IsWithin limit) (waiting_of f) (frames_waiting fs) (h zero f (omega arith))
    (waiting-within limit fs (all_rest (λ f. fits limit (frame_of f) ≡ true) f fs h))

pub frames_waiting-append : (out more : List SessionFrame) → frames_waiting (out ++ more)
    ≡ frames_waiting out ++ frames_waiting more
frames_waiting-append [] more = refl
frames_waiting-append (f ∷ fs) more = ap (λ (ws : List Waiting). waiting_of f ∷ ws) (frames_waiting-append fs more)

pub within-none : (limit : ℕ) → AllWithin limit []
within-none limit = record { each = all_none (IsWithin limit) }

-- it is what it was
pub within-same : (limit : ℕ) (ws vs : List Waiting) → ws ≡ vs → AllWithin limit vs → AllWithin limit ws
within-same limit ws vs is h = subst (AllWithin limit) (sym is) h

-- one more waits behind it
pub within-push : (limit : ℕ) (ws : List Waiting) (w : Waiting) → AllWithin limit ws → IsWithin limit w
    → AllWithin limit (ws ++ w ∷ [])
within-push limit ws w h is =
    record {
      each = all_both (IsWithin limit) ws (w ∷ []) h.each
          (all_cons (IsWithin limit) w [] is (all_none (IsWithin limit)));
    }

-- sessions sent more
pub within-sent : (limit : ℕ) (queue : List Waiting) (out more : List SessionFrame)
    → AllWithin limit (queue ++ frames_waiting out)
    → All (λ f. fits limit (frame_of f) ≡ true) more → AllWithin limit (queue ++ frames_waiting (out ++ more))
within-sent limit queue out more h g =
    let e : queue ++ frames_waiting (out ++ more) ≡ (queue ++ frames_waiting out) ++ frames_waiting more =
    ap (λ (ws : List Waiting). queue ++ ws) (frames_waiting-append out more)
    ∙ sym (append_assoc queue (frames_waiting out) (frames_waiting more)) in
    within-same limit (queue ++ frames_waiting (out ++ more)) ((queue ++ frames_waiting out) ++ frames_waiting more) e
    (record {
      each = all_both (IsWithin limit) (queue ++ frames_waiting out) (frames_waiting more) h.each
          (waiting-within limit more g);
    })

-- the first is taken out
pub within-drop : (limit : ℕ) (ws : List Waiting) → AllWithin limit ws → AllWithin limit (drop 1 ws)
within-drop limit [] h = h
within-drop limit (w ∷ ws) h = record { each = all_rest (IsWithin limit) w ws h.each }

pub within-first : (limit : ℕ) (w : Waiting) (ws : List Waiting) → AllWithin limit (w ∷ ws) → IsWithin limit w
within-first limit w ws h = h.each zero w (omega arith)

within-more-of : (small limit : ℕ) → small ≤ limit → (w : Waiting) → IsWithin small w → IsWithin limit w
within-more-of small limit le the_header h = tt
within-more-of small limit le (the_frame f) h = fits_more f small limit le h

-- the limit is no lower
pub within-more : (small limit : ℕ) (ws : List Waiting) → small ≤ limit → AllWithin small ws → AllWithin limit ws
within-more small limit ws le h =
    record { each = λ k d lt. within-more-of small limit le (slice_index_or ws k d) (h.each k d lt) }

-- all that waited and was sent is gathered, and one more waits behind it
pub within-pushed : (limit : ℕ) (queue0 queue1 queue2 : List Waiting) (out0 out1 : List SessionFrame) (w : Waiting)
    → AllWithin limit (queue0 ++ frames_waiting out0) → queue1 ≡ queue0 ++ frames_waiting out0 → out1 ≡ []
    → IsWithin limit w → queue2 ≡ queue1 ++ w ∷ [] → AllWithin limit (queue2 ++ frames_waiting out1)
within-pushed limit queue0 queue1 queue2 out0 out1 w h gathered none is pushed =
    let e : queue2 ++ frames_waiting out1 ≡ (queue0 ++ frames_waiting out0) ++ w ∷ [] =
    ap (λ (o : List SessionFrame). queue2 ++ frames_waiting o) none ∙ append-nil queue2 ∙ pushed
    ∙ ap (λ (q : List Waiting). q ++ w ∷ []) gathered in
    within-same limit (queue2 ++ frames_waiting out1) ((queue0 ++ frames_waiting out0) ++ w ∷ []) e
    (within-push limit (queue0 ++ frames_waiting out0) w h is)

-- a frame that fits any peer's limit waits
pub frame-within : (limit : ℕ) (f g : Frame) (w : Waiting) → w ≡ the_frame f → f ≡ g → 512 ≤ limit → fits 512 g ≡ true
    → IsWithin limit w
frame-within limit f g w is same least short =
    let P : Waiting → Type 0 = λ x. IsWithin limit x in
    subst P (sym (is ∙ ap the_frame same)) (fits_more g 512 limit least short)

pub within-seen : (limit : ℕ) (queue rest all : List Waiting) (w : Waiting) → AllWithin limit all → queue ++ rest
    ≡ all → 0 < length queue
    → w ≡ slice_index_or queue 0 w → IsWithin limit w
within-seen limit [] rest all w h is some first = absurd (omega (arith, some))
within-seen limit (x ∷ queue) rest all w h is some first =
    let P : Waiting → Type 0 = λ y. IsWithin limit y in
    let same = within-same limit (x ∷ (queue ++ rest)) all is h in
    subst P (sym first) (same.each zero x (omega arith))

-- nothing is lost as all is gathered
pub gathered-same : (queue0 queue1 : List Waiting) (out0 out1 : List SessionFrame) → queue1
    ≡ queue0 ++ frames_waiting out0 → out1 ≡ []
    → queue1 ++ frames_waiting out1 ≡ queue0 ++ frames_waiting out0
gathered-same queue0 queue1 out0 out1 gathered none =
    ap (λ (o : List SessionFrame). queue1 ++ frames_waiting o) none ∙ append-nil queue1 ∙ gathered
