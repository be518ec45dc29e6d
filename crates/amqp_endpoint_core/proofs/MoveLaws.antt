-- Bytes are pulled and written, one after the other.
use Rattle.std.proofs.Common.{◌≡◌, ℕ, ◌+◌, List, [], ◌∷◌, ◌++◌, take, drop, Option, refl, sym, ◌∙◌, ap, arith}
use Rattle.std.proofs.Common.{append_assoc, append-nil}
use Rattle.std.proofs.lemmas.List.{drop-drop, drop-take, take-append-drop, take-take}
use Rattle.std.proofs.KnownBytes.{Appends-kept, Appends-nil, Appends-trans}
use Rattle.std.specs.Io.KnownBytes.{Keeps}
use Rattle.amqp_endpoint_model.specs.State.{State, Waiting, text_of}
use Rattle.amqp_endpoint_core.specs.Queue.{texts_of}
use Rattle.amqp_endpoint_core.specs.Moves.{PullsSome, Sends, Writes}

-- nothing is written
pub writes_none : (contents : Option (List ℕ)) (bytes : List ℕ) → Writes contents contents bytes bytes
writes_none contents bytes = record { written = []; taken = Appends-nil contents; in_order = refl }

-- then more is
pub writes_more : (a b c : Option (List ℕ)) (xs ys zs : List ℕ) → Writes a b xs ys → Writes b c ys zs
    → Writes a c xs zs
writes_more a b c xs ys zs v w =
    record {
      written = v.written ++ w.written;
      taken = Appends-trans a b c v.written w.written v.taken w.taken;
      in_order =
          v.in_order ∙ ap (λ (bytes : List ℕ). v.written ++ bytes) w.in_order
          ∙ sym (append_assoc v.written w.written zs);
    }

texts-append : (ws vs : List Waiting) → texts_of (ws ++ vs) ≡ texts_of ws ++ texts_of vs
texts-append [] vs = refl
texts-append (w ∷ ws) vs =
    ap (λ (text : List ℕ). text_of w ++ text) (texts-append ws vs)
    ∙ sym (append_assoc (text_of w) (texts_of ws) (texts_of vs))

take-both : (m n : ℕ) (queue : List Waiting) → take (m + n) queue ≡ take m queue ++ take n (drop m queue)
take-both m n queue =
    sym (take-append-drop m (take (m + n) queue))
    ∙ ap (λ (ws : List Waiting). ws ++ drop m (take (m + n) queue)) (take-take m (m + n) queue (omega arith))
    ∙ ap (λ (ws : List Waiting). take m queue ++ ws) (drop-take m n queue)

-- those that were queued first, and so many behind them
texts-both : (m n : ℕ) (queue : List Waiting) → texts_of (take (m + n) queue)
    ≡ texts_of (take m queue) ++ texts_of (take n (drop m queue))
texts-both m n queue = ap texts_of (take-both m n queue) ∙ texts-append (take m queue) (take n (drop m queue))

module _ {S : Type 0} where
  -- what was there is written
  pub sends_held : (a b : Option (List ℕ)) (s : State S) (xs ys : List ℕ) → Writes a b xs ys → Sends a b s xs s ys
  sends_held a b s xs ys w =
      record {
        written = w.written;
        count = 0;
        taken = w.taken;
        in_order = sym w.in_order ∙ sym (append-nil xs);
        after = refl;
      }

  -- more is written
  pub sends_written : (a b c : Option (List ℕ)) (s t : State S) (xs ys zs : List ℕ) → Sends a b s xs t ys
      → Writes b c ys zs → Sends a c s xs t zs
  sends_written a b c s t xs ys zs sent w =
      record {
        written = sent.written ++ w.written;
        count = sent.count;
        taken = Appends-trans a b c sent.written w.written sent.taken w.taken;
        in_order =
            append_assoc sent.written w.written zs
            ∙ ap (λ (bytes : List ℕ). sent.written ++ bytes) (sym w.in_order) ∙ sent.in_order;
        after = sent.after;
      }

  -- more is pulled
  pub sends_pulled : (a b : Option (List ℕ)) (s t u : State S) (xs ys zs : List ℕ) → Sends a b s xs t ys
      → PullsSome t ys u zs → Sends a b s xs u zs
  sends_pulled a b s t u xs ys zs sent p =
      let queue : t.queue ≡ drop sent.count s.queue = ap (λ (v : State S). v.queue) sent.after in
      record {
        written = sent.written;
        count = sent.count + p.count;
        taken = sent.taken;
        in_order =
            ap (λ (bytes : List ℕ). sent.written ++ bytes) p.pulled
            ∙ sym (append_assoc sent.written ys (texts_of (take p.count t.queue)))
            ∙ ap (λ (bytes : List ℕ). bytes ++ texts_of (take p.count t.queue)) sent.in_order
            ∙ append_assoc xs (texts_of (take sent.count s.queue)) (texts_of (take p.count t.queue))
            ∙ ap (λ (q : List Waiting). xs ++ (texts_of (take sent.count s.queue) ++ texts_of (take p.count q))) queue
            ∙ ap (λ (text : List ℕ). xs ++ text) (sym (texts-both sent.count p.count s.queue));
        after =
            p.after ∙ ap (λ (v : State S). record v { queue = drop p.count v.queue }) sent.after
            ∙ ap (λ (q : List Waiting). record s { queue = q }) (drop-drop p.count sent.count s.queue);
      }

  -- what is written stays so
  pub sends_kept : (a b c : Option (List ℕ)) (s t : State S) (xs ys : List ℕ) → Sends a b s xs t ys → Keeps b c
      → Sends a c s xs t ys
  sends_kept a b c s t xs ys sent kept =
      record {
        written = sent.written;
        count = sent.count;
        taken = Appends-kept a b c sent.written sent.taken kept;
        in_order = sent.in_order;
        after = sent.after;
      }

  -- nothing changes
  pub sends_same : (a b : Option (List ℕ)) (s t u : State S) (xs ys zs : List ℕ) → Sends a b s xs t ys → u ≡ t
      → zs ≡ ys → Sends a b s xs u zs
  sends_same a b s t u xs ys zs sent is same =
      record {
        written = sent.written;
        count = sent.count;
        taken = sent.taken;
        in_order = ap (λ (bytes : List ℕ). sent.written ++ bytes) same ∙ sent.in_order;
        after = is ∙ sent.after;
      }
