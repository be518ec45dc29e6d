-- Laws of what waits as it is written one behind the other.
use Rattle.std.proofs.Common.{◌≡◌, ℕ, ◌+◌, ◌≤◌, ◌<◌, zero, suc, List, [], ◌∷◌, ◌++◌, length, map, take, drop, Option}
use Rattle.std.proofs.Common.{Some, None, true, refl, sym, ap, arith, subst, append_assoc, append-nil, ◌∙◌}
use Rattle.std.proofs.Common.{slice_index_or}
use Rattle.std.proofs.lemmas.Bool.Decides.{nat_tests}
use Rattle.std.proofs.lemmas.List.{length-append, length-map, take_more, take_all, take-append-le, drop_all}
use Rattle.std.proofs.lemmas.List.{drop-append-le}
use Rattle.std.proofs.lemmas.List.{drop-map, get_or-map, get_or_append_left, map-id, take-take, take_at}
use Rattle.amqp_session_performatives.specs.declared.session_frame.SessionFrame.{SessionFrame}
use Rattle.amqp_session_frames.specs.Text.{frame_text}
use Rattle.amqp_session_frames.specs.Appending.{AppendedIn}
use Rattle.amqp_endpoint_model.specs.State.{Waiting, the_header, the_frame, text_of, text_fits, text_or_nothing}
use Rattle.amqp_endpoint_model.specs.State.{waiting_of, written}
use Rattle.amqp_endpoint_core.specs.Queue.{AllWithin, Fills, FillsBoth, FillsUp, IsWithin, frames_waiting, texts_of}
use Rattle.amqp_endpoint_core.proofs.QueueLaws.{within-drop, within-first, within-same}

texts-append : (ws vs : List Waiting) → texts_of (ws ++ vs) ≡ texts_of ws ++ texts_of vs
texts-append [] vs = refl
texts-append (w ∷ ws) vs =
    ap (λ (text : List ℕ). text_of w ++ text) (texts-append ws vs)
    ∙ sym (append_assoc (text_of w) (texts_of ws) (texts_of vs))

module _ (queue : List Waiting) (i : ℕ) (w : Waiting) (there : i < length queue)
    (is : w ≡ slice_index_or queue i w) where
  -- one more of them
  texts-more : texts_of (take (i + 1) queue) ≡ texts_of (take i queue) ++ text_of w
  texts-more =
      ap texts_of (take_more queue i w there) ∙ texts-append (take i queue) (slice_index_or queue i w ∷ [])
      ∙ ap (λ (text : List ℕ). texts_of (take i queue) ++ text) (append-nil (text_of (slice_index_or queue i w)))
      ∙ ap (λ (v : Waiting). texts_of (take i queue) ++ text_of v) (sym is)

  length-more : length (texts_of (take (i + 1) queue)) ≡ length (texts_of (take i queue)) + length (text_of w)
  length-more = ap length texts-more ∙ length-append (texts_of (take i queue)) (text_of w)

  -- it is appended behind those before it
  pub batch_more : (start before after : List ℕ) → before ≡ start ++ texts_of (take i queue)
      → after ≡ before ++ text_of w → after ≡ start ++ texts_of (take (i + 1) queue)
  batch_more start before after was appended =
      appended ∙ ap (λ (bytes : List ℕ). bytes ++ text_of w) was
      ∙ append_assoc start (texts_of (take i queue)) (text_of w)
      ∙ ap (λ (text : List ℕ). start ++ text) (sym texts-more)

  -- so much room is left behind it
  pub batch_room : (most room left : ℕ) → length (texts_of (take i queue)) + room ≡ most
      → length (text_of w) + left ≡ room → length (texts_of (take (i + 1) queue)) + left ≡ most
  batch_room most room left was takes = omega (arith, length-more, was, takes)

  -- there is no room for it
  pub batch_filled : (most room : ℕ) (bytes now new : List ℕ) → length (texts_of (take i queue)) + room ≡ most
      → room < length (text_of w) → now ≡ bytes ++ texts_of (take i queue) → new ≡ now
      → FillsUp most queue i room bytes new
  batch_filled most room bytes now new was longer appended same =
      record {
        there = omega (arith, there);
        left = was;
        longest = λ more. omega (arith, length-more, was, longer);
        appended = same ∙ appended;
      }

text_fits-length : (limit : ℕ) (text : Option (List ℕ)) → text_fits limit text ≡ true
    → length (text_or_nothing text) ≤ limit
text_fits-length limit None fit = omega arith
text_fits-length limit (Some text) fit = grind (arith, nat_tests)

-- what is within the limit is no longer
within-length : (limit : ℕ) (w : Waiting) → 512 ≤ limit → IsWithin limit w → length (text_of w) ≤ limit
unfolding written
within-length limit the_header least fit = omega (arith, least)
within-length limit (the_frame frame) least fit = text_fits-length limit (frame_text frame) fit

-- where the bound is the limit or more, one is taken at least
pub batch_some : (limit most count : ℕ) (queue : List Waiting) → 512 ≤ limit → AllWithin limit queue
    → Fills most queue count → limit ≤ most → 0 < length queue → 0 < count
batch_some limit most (suc count) queue least within fills le some = omega arith
batch_some limit most zero [] least within fills le some = absurd (omega (arith, some))
batch_some limit most zero (w ∷ queue) least within fills le some =
    let longer : most < length (text_of w ++ []) = fills.longest some in
    let short : length (text_of w) ≤ limit = within-length limit w least (within-first limit w queue within) in
    absurd (omega (arith, longer, ap length (append-nil (text_of w)), short, le))

-- what waits is appended whole where there is room for the limit
pub all_taken : (limit room : ℕ) (w : Waiting) (left : Option ℕ) (old new : List ℕ) → 512 ≤ limit → IsWithin limit w
    → room ≡ limit → AppendedIn room (text_of w) left old new → old ≡ [] → new ≡ text_of w
all_taken limit room w None old new least within is a none =
    absurd (omega (arith, a.0, is, within-length limit w least within))
all_taken limit room w (Some left) old new least within is a none = a.1 ∙ ap (λ (l : List ℕ). l ++ text_of w) none

-- ---- what is said of each of a list

module _ {X : Type 0} (waits : X → Waiting) where
  -- the next of them
  pub next_waits : (xs : List X) (i : ℕ) (x : X) → i < length xs → x ≡ slice_index_or xs i x
      → waits x ≡ slice_index_or (map waits xs) i (waits x)
  next_waits xs i x there is = ap waits is ∙ sym (get_or-map waits xs i x (waits x) there)

  pub next_there : (xs : List X) (i : ℕ) → i < length xs → i < length (map waits xs)
  next_there xs i there = omega (arith, there, length-map xs waits)

  pub next_within : (limit : ℕ) (xs : List X) (i : ℕ) (x : X) → AllWithin limit (map waits xs) → i < length xs
      → x ≡ slice_index_or xs i x → IsWithin limit (waits x)
  next_within limit xs i x all there is =
      let P : Waiting → Type 0 = λ w. IsWithin limit w in
      subst P (sym (next_waits xs i x there is)) (all.each i (waits x) (next_there xs i there))

  -- all of them
  pub batch_all : (xs : List X) (most count room : ℕ) (bytes new : List ℕ) → count ≤ length xs → length xs ≤ count
      → length (texts_of (take count (map waits xs))) + room ≡ most
      → new ≡ bytes ++ texts_of (take count (map waits xs)) → FillsUp most (map waits xs) count room bytes new
  batch_all xs most count room bytes new there all was appended =
      record {
        there = omega (arith, there, length-map xs waits);
        left = was;
        longest = λ more. absurd (omega (arith, more, all, length-map xs waits));
        appended = appended;
      }

-- ---- what is queued, and behind it what sessions sent

take-behind : (ws vs : List Waiting) (m k : ℕ) → k ≡ length ws + m → take k (ws ++ vs) ≡ ws ++ take m vs
take-behind [] vs m k sum = ap (λ (j : ℕ). take j vs) (omega (arith, sum))
take-behind (w ∷ ws) vs m zero sum = absurd (omega (arith, sum))
take-behind (w ∷ ws) vs m (suc k) sum =
    ap (λ (l : List Waiting). w ∷ l) (take-behind ws vs m k (omega (arith, sum)))

drop-behind : (ws vs : List Waiting) (m k : ℕ) → k ≡ length ws + m → drop k (ws ++ vs) ≡ drop m vs
drop-behind [] vs m k sum = ap (λ (j : ℕ). drop j vs) (omega (arith, sum))
drop-behind (w ∷ ws) vs m zero sum = absurd (omega (arith, sum))
drop-behind (w ∷ ws) vs m (suc k) sum = drop-behind ws vs m k (omega (arith, sum))

pub front_within : (limit : ℕ) (ws vs : List Waiting) → AllWithin limit (ws ++ vs)
    → AllWithin limit (map (λ (w : Waiting). w) ws)
front_within limit ws vs all =
    let P : List Waiting → Type 0 = λ l. AllWithin limit l in
    subst P (sym (map-id ws)) (front ws vs all)
  where
    front : (ws vs : List Waiting) → AllWithin limit (ws ++ vs) → AllWithin limit ws
    front ws vs all =
        record {
          each = λ k d lt.
              let P : Waiting → Type 0 = λ w. IsWithin limit w in
              subst P (get_or_append_left ws vs d k lt) (all.each k d (omega (arith, lt, length-append ws vs)));
        }

behind-within : (limit : ℕ) (ws vs : List Waiting) → AllWithin limit (ws ++ vs) → AllWithin limit vs
behind-within limit [] vs all = all
behind-within limit (w ∷ ws) vs all = behind-within limit ws vs (within-drop limit (w ∷ (ws ++ vs)) all)

pub sent_within : (limit : ℕ) (ws : List Waiting) (out : List SessionFrame) → AllWithin limit (ws ++ frames_waiting out)
    → AllWithin limit (map waiting_of out)
sent_within limit ws out all = behind-within limit ws (frames_waiting out) all

-- the first of them
pub first_within : (limit : ℕ) (ws : List Waiting) (out : List SessionFrame) (first : SessionFrame)
    → AllWithin limit (ws ++ frames_waiting out) → 0 < length out → first ≡ slice_index_or out 0 first
    → IsWithin limit (waiting_of first)
first_within limit ws out first all some is =
    next_within waiting_of limit out 0 first (sent_within limit ws out all) some is

-- not all that is queued is taken
pub fills_front : (most : ℕ) (queue : List Waiting) (out : List SessionFrame) (count room : ℕ) (bytes new : List ℕ)
    → FillsUp most (map (λ (w : Waiting). w) queue) count room bytes new → count < length queue
    → FillsBoth most queue out count 0 bytes new
fills_front most queue out count room bytes new up less =
    let P : List Waiting → Type 0 = λ ws. FillsUp most ws count room bytes new in
    let f = subst P (map-id queue) up in
    let vs = frames_waiting out in
    let none : count + 0 ≡ count = omega arith in
    let one : take (count + 0) (queue ++ vs) ≡ take count queue =
    ap (λ (n : ℕ). take n (queue ++ vs)) none ∙ take-append-le count queue vs (omega (arith, less)) in
    let two : take (count + 0 + 1) (queue ++ vs) ≡ take (count + 1) queue =
    ap (λ (n : ℕ). take (n + 1) (queue ++ vs)) none ∙ take-append-le (count + 1) queue vs (omega (arith, less)) in
    let long : length (texts_of (take (count + 0) (queue ++ vs))) ≡ length (texts_of (take count queue)) =
    ap (λ (ws : List Waiting). length (texts_of ws)) one in
    let longer : length (texts_of (take (count + 0 + 1) (queue ++ vs))) ≡ length (texts_of (take (count + 1) queue)) =
    ap (λ (ws : List Waiting). length (texts_of ws)) two in
    let filled : most < length (texts_of (take (count + 1) queue)) = f.longest less in
    record {
      there = omega (arith, less);
      others = omega arith;
      behind = λ some. absurd (omega (arith, some));
      fills = record {
        there = omega (arith, less, length-append queue vs);
        short = omega (arith, f.left, long);
        longest = λ more. omega (arith, longer, filled);
      };
      appended = f.appended ∙ ap (λ (ws : List Waiting). bytes ++ texts_of ws) (sym one);
    }

-- all that is queued is taken, and so much of the others
pub fills_behind : (most : ℕ) (queue : List Waiting) (out : List SessionFrame) (n room m left : ℕ)
    (bytes mid new : List ℕ) → FillsUp most (map (λ (w : Waiting). w) queue) n room bytes mid → length queue ≤ n
    → FillsUp room (map waiting_of out) m left mid new → FillsBoth most queue out n m bytes new
fills_behind most queue out n room m left bytes mid new up all g =
    let P : List Waiting → Type 0 = λ ws. FillsUp most ws n room bytes mid in
    let f = subst P (map-id queue) up in
    let vs = frames_waiting out in
    let long : length queue ≡ n = omega (arith, f.there, all) in
    let whole : take n queue ≡ queue = take_all n queue all in
    let split : (k : ℕ) → texts_of (take (n + k) (queue ++ vs)) ≡ texts_of queue ++ texts_of (take k vs) =
    λ k. ap texts_of (take-behind queue vs k (n + k) (omega (arith, long))) ∙ texts-append queue (take k vs) in
    let sum : (k : ℕ) → length (texts_of (take (n + k) (queue ++ vs)))
    ≡ length (texts_of queue) + length (texts_of (take k vs)) =
    λ k. ap length (split k) ∙ length-append (texts_of queue) (texts_of (take k vs)) in
    let used : length (texts_of queue) + room ≡ most =
    ap (λ (ws : List Waiting). length (texts_of ws) + room) (sym whole) ∙ f.left in
    let next : n + m + 1 ≡ n + (m + 1) = omega arith in
    let longer : length (texts_of (take (n + m + 1) (queue ++ vs)))
    ≡ length (texts_of queue) + length (texts_of (take (m + 1) vs)) =
    ap (λ (k : ℕ). length (texts_of (take k (queue ++ vs)))) next ∙ sum (m + 1) in
    let filled : m < length vs → room < length (texts_of (take (m + 1) vs)) = g.longest in
    record {
      there = omega (arith, long);
      others = omega (arith, g.there, length-map out waiting_of);
      behind = λ some. sym long;
      fills = record {
        there = omega (arith, long, g.there, length-append queue vs);
        short = omega (arith, sum m, used, g.left);
        longest = λ more.
            let over : room < length (texts_of (take (m + 1) vs)) = filled
            (omega (arith, more, long, length-append queue vs)) in
            omega (arith, longer, used, over);
      };
      appended =
          g.appended ∙ ap (λ (l : List ℕ). l ++ texts_of (take m vs))
          (f.appended ∙ ap (λ (ws : List Waiting). bytes ++ texts_of ws) whole)
          ∙ append_assoc bytes (texts_of queue) (texts_of (take m vs))
          ∙ ap (λ (l : List ℕ). bytes ++ l) (sym (split m));
    }

-- these are taken out
pub dropped_both : (queue : List Waiting) (out : List SessionFrame) (n m : ℕ) → n ≤ length queue
    → (0 < m → n ≡ length queue)
    → drop n queue ++ frames_waiting (drop m out) ≡ drop (n + m) (queue ++ frames_waiting out)
dropped_both queue out n zero there all =
    sym (ap (λ (k : ℕ). drop k (queue ++ frames_waiting out)) (omega arith)
    ∙ drop-append-le n queue (frames_waiting out) there)
dropped_both queue out n (suc m) there all =
    let long : n ≡ length queue = all (omega arith) in
    ap (λ (ws : List Waiting). ws ++ frames_waiting (drop (suc m) out)) (drop_all n queue (omega (arith, long)))
    ∙ sym (drop-map waiting_of (suc m) out)
    ∙ sym (drop-behind queue (frames_waiting out) (suc m) (n + suc m) (omega (arith, long)))

within_dropped : (limit : ℕ) (ws : List Waiting) (n : ℕ) → AllWithin limit ws → AllWithin limit (drop n ws)
within_dropped limit ws zero all = all
within_dropped limit [] (suc n) all = all
within_dropped limit (w ∷ ws) (suc n) all = within_dropped limit ws n (within-drop limit (w ∷ ws) all)

pub within_rest : (limit : ℕ) (all rest : List Waiting) (n : ℕ) → rest ≡ drop n all → AllWithin limit all
    → AllWithin limit rest
within_rest limit all rest n is within = within-same limit rest (drop n all) is (within_dropped limit all n within)

-- what was there before both still stands where the second was refused
pub err_behind : (old mid new text : List ℕ) → mid ≡ old ++ text → take (length mid) new ≡ mid
    → take (length old) new ≡ old
err_behind old mid new text is cut =
    let long : length mid ≡ length old + length text = ap length is ∙ length-append old text in
    sym (take-take (length old) (length mid) new (omega (arith, long))) ∙ ap (take (length old)) (cut ∙ is)
    ∙ take_at old text (length old) refl
