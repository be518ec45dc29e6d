-- What is still to be taken, step by step.
use Rattle.std.proofs.Common.{◌≡◌, ◌≢◌, ℕ, ◌+◌, ◌-◌, ◌<◌, List, [], ◌∷◌, ◌++◌, length, reverse, Option, Some, None, sym, ◌∙◌, ap, subst, refl, arith, length-append, append_assoc, append-nil}
use Rattle.std.proofs.lemmas.List.{append_cancel_left, append_cancel_right, reverse-append}
use Rattle.serde_amqp_item.specs.declared.error.Error.{Error}
use Rattle.serde_amqp_item.specs.Item.{Items, no_items, more_items}
use Rattle.serde_amqp_item.specs.Wire.{Leads, IsStrict}
use Rattle.serde_amqp_item.proofs.Forms.{append_same}
use Rattle.serde_amqp_read.specs.Reads.{NoStrict}
use Rattle.serde_amqp_read.specs.Pending.{Place, Moves, Ends, Held, Pending, Enters, NoForm, NeedsBytes, Finishes, Unfinished, plain_width, TookStrict}
use Rattle.serde_amqp_read.specs.declared.measure.Frame.{Frame}
use Rattle.serde_amqp_read.proofs.Opened.{frame, moves_then, stays}
use Rattle.serde_amqp_read.proofs.Plain.{held_in, held_long, needs_bytes}

leads_along : (k : Option ℕ) (f a more : List ℕ) (c : ℕ) → Leads k f c a → Leads k (f ++ more) c (a ++ more)
leads_along None f a more c h = ap (λ (s : List ℕ). s ++ more) h
leads_along (Some i) f a more c h = (h.0, ap (λ (s : List ℕ). s ++ more) h.1)

leads_cut : (k : Option ℕ) (w a b : List ℕ) (c : ℕ) → Leads k w c (a ++ b) → (v : List ℕ) × (w ≡ v ++ b) × Leads k v c a
leads_cut None w a b c h = (c ∷ a, h, refl)
leads_cut (Some i) w a b c h = (a, h.1, (h.0, refl))

taken_long : (old new : Place) (front : List ℕ) → Moves old new front → length new.taken ≡ length old.taken + length front
taken_long old new front m = ap length m.joined ∙ length-append old.taken front

-- a form is entered
pub entered : (k : Option ℕ) (old new : Place) (f : Frame) (left : ℕ) (end : Option ℕ) (fs : List Frame) (more : List ℕ) → Enters k old new f → Pending (f ∷ frame left k end ∷ fs) (length new.taken) new.rest more → Pending (frame (left + 1) k end ∷ fs) (length old.taken) old.rest more
entered k old new f left end fs more e p =
    let q = p.5 in
    let g = e.there p.0 p.1 p.4 in
    let v = e.front ++ p.1 in
    let w = v ++ q.1 in
    let split : old.rest ≡ w ++ q.2 =
    e.moves.split ∙ (ap (λ (s : List ℕ). e.front ++ s) (p.3 ∙ ap (λ (s : List ℕ). p.1 ++ s) q.3) ∙ (sym (append_assoc e.front p.1 (q.1 ++ q.2)) ∙ sym (append_assoc v q.1 q.2))) in
    let at : (length new.taken + length p.1) + length q.1 ≡ length old.taken + length w = omega (arith, taken_long old new e.front e.moves, length-append v q.1, length-append e.front p.1) in (
      more_items g.0 q.0,
      w,
      q.2,
      split,
      ((g.1, g.2, q.1, leads_along k v g.2 q.1 g.1 g.3, g.4, q.4.0), ap (λ (i : ℕ). i + 1) q.4.1, subst (λ (i : ℕ). Ends end i) at q.4.2),
      subst (λ (i : ℕ). Pending fs i q.2 more) at q.5,
    )

first_in : (k : Option ℕ) (old new : Place) (f : Frame) (left : ℕ) (end : Option ℕ) (fs : List Frame) (more : List ℕ) → Enters k old new f → (xs : Items) (w behind : List ℕ) → old.rest ≡ w ++ behind → Held (frame (left + 1) k end) (length old.taken) xs w → Pending fs (length old.taken + length w) behind more → Pending (f ∷ frame left k end ∷ fs) (length new.taken) new.rest more
first_in k old new f left end fs more e no_items w behind s h p = absurd (omega (arith, h.1))
first_in k old new f left end fs more e (more_items x ys) w behind s h p =
    let o = h.0 in
    let cut = leads_cut k w o.1 o.2 o.0 o.3 in
    let v = cut.0 in
    let whole : old.rest ≡ v ++ (o.2 ++ behind) = s ∙ (ap (λ (t : List ℕ). t ++ behind) cut.1 ∙ append_assoc v o.2 behind) in
    let b = e.back x o.0 o.1 v (o.2 ++ behind) cut.2 o.4 whole in
    let apart : e.front ++ new.rest ≡ e.front ++ (b.1 ++ (o.2 ++ behind)) = sym e.moves.split ∙ (whole ∙ (ap (λ (t : List ℕ). t ++ (o.2 ++ behind)) b.2 ∙ append_assoc e.front b.1 (o.2 ++ behind))) in
    let rest = append_cancel_left e.front new.rest (b.1 ++ (o.2 ++ behind)) apart in
    let at : length old.taken + length w ≡ (length new.taken + length b.1) + length o.2 =
    omega (arith, taken_long old new e.front e.moves, ap length cut.1, length-append v o.2, ap length b.2, length-append e.front b.1) in (
      b.0,
      b.1,
      o.2 ++ behind,
      rest,
      b.3,
      (ys, o.2, behind, refl, (o.5, omega (arith, h.1), subst (λ (i : ℕ). Ends end i) at h.2), subst (λ (i : ℕ). Pending fs i behind more) at p),
    )

pub entered_back : (k : Option ℕ) (old new : Place) (f : Frame) (left : ℕ) (end : Option ℕ) (fs : List Frame) (more : List ℕ) → Enters k old new f → Pending (frame (left + 1) k end ∷ fs) (length old.taken) old.rest more → Pending (f ∷ frame left k end ∷ fs) (length new.taken) new.rest more
entered_back k old new f left end fs more e p = first_in k old new f left end fs more e p.0 p.1 p.2 p.3 p.4 p.5

none_in : (k : Option ℕ) (rest : List ℕ) (left at : ℕ) (end : Option ℕ) (xs : Items) (w behind : List ℕ) → NoForm k rest → rest ≡ w ++ behind → Held (frame (left + 1) k end) at xs w → ⊥
none_in k rest left at end no_items w behind n s h = absurd (omega (arith, h.1))
none_in k rest left at end (more_items x ys) w behind n s h =
    let o = h.0 in
    let cut = leads_cut k w o.1 o.2 o.0 o.3 in
    n.none x o.0 o.1 cut.0 (o.2 ++ behind) cut.2 o.4 (s ∙ (ap (λ (t : List ℕ). t ++ behind) cut.1 ∙ append_assoc cut.0 o.2 behind))

pub not_entered : (k : Option ℕ) (rest : List ℕ) (left at : ℕ) (end : Option ℕ) (fs : List Frame) (more : List ℕ) → NoForm k rest → Pending (frame (left + 1) k end ∷ fs) at rest more → ⊥
not_entered k rest left at end fs more n p = none_in k rest left at end p.0 p.1 p.2 n p.3 p.4

-- a frame is finished
pub closes : (f : Frame) (width : ℕ) (old new : Place) (fs : List Frame) (more : List ℕ) → plain_width f ≡ Some width → Finishes f width old new → Pending fs (length new.taken) new.rest more → Pending (f ∷ fs) (length old.taken) old.rest more
closes f width old new fs more w e p =
    let at : length new.taken ≡ length old.taken + length e.front = taken_long old new e.front e.moves in
    let h = held_in f width (length old.taken) e.front w e.long (subst (λ (i : ℕ). Ends f.end i) at e.ends) in
    (h.0, e.front, new.rest, e.moves.split, h.1, subst (λ (i : ℕ). Pending fs i new.rest more) at p)

pub closed_back : (f : Frame) (width : ℕ) (old new : Place) (fs : List Frame) (more : List ℕ) → plain_width f ≡ Some width → Finishes f width old new → Pending (f ∷ fs) (length old.taken) old.rest more → Pending fs (length new.taken) new.rest more
closed_back f width old new fs more w e p =
    let long = held_long f width (length old.taken) p.0 p.1 w p.4 in
    let same = append_same p.1 e.front p.2 new.rest (long ∙ sym e.long) (sym p.3 ∙ e.moves.split) in
    let at : length old.taken + length p.1 ≡ length new.taken = ap (λ (s : List ℕ). length old.taken + length s) same.0 ∙ sym (taken_long old new e.front e.moves) in
    subst (λ (s : List ℕ). Pending fs (length new.taken) s more) same.1 (subst (λ (i : ℕ). Pending fs i p.2 more) at p.5)

pub unclosed : (f : Frame) (width : ℕ) (old : Place) (fs : List Frame) (more : List ℕ) → plain_width f ≡ Some width → Unfinished f width old → Pending (f ∷ fs) (length old.taken) old.rest more → ⊥
unclosed f width old fs more w n p = n.none p.1 p.2 p.3 (held_long f width (length old.taken) p.0 p.1 w p.4) p.4.2

-- the whole
pub begun : (whole : List ℕ) (c : ℕ) (a more : List ℕ) → whole ≡ (c ∷ a) ++ more → IsStrict c a → Pending (frame 1 None None ∷ []) 0 whole more
begun whole c a more e s = (more_items s.0 no_items, c ∷ a, more, e, ((c, a, [], ap (λ (t : List ℕ). c ∷ t) (sym (append-nil a)), s.1, refl), refl, tt), refl)

abbrev StrictThen : List ℕ → List ℕ → Type 0
StrictThen whole more = (c : ℕ) × (a : List ℕ) × (whole ≡ (c ∷ a) ++ more) × IsStrict c a

finished_in : (whole more : List ℕ) (xs : Items) (w behind : List ℕ) → whole ≡ w ++ behind → Held (frame 1 None None) 0 xs w → behind ≡ more → StrictThen whole more
finished_in whole more no_items w behind e h p = absurd (omega (arith, h.1))
finished_in whole more (more_items x (more_items y ys)) w behind e h p = absurd (omega (arith, h.1))
finished_in whole more (more_items x no_items) w behind e h p =
    let o = h.0 in
    let front : w ≡ o.0 ∷ o.1 = o.3 ∙ ap (λ (t : List ℕ). o.0 ∷ t) (ap (λ (t : List ℕ). o.1 ++ t) o.5 ∙ append-nil o.1) in
    (o.0, o.1, e ∙ (ap (λ (t : List ℕ). t ++ behind) front ∙ ap (λ (t : List ℕ). (o.0 ∷ o.1) ++ t) p), (x, o.4))

pub finished : (whole more : List ℕ) → Pending (frame 1 None None ∷ []) 0 whole more → StrictThen whole more
finished whole more p = finished_in whole more p.0 p.1 p.2 p.3 p.4 p.5

-- elements that inherit a constructor are not described
abbrev pub Sound : List Frame → Type 0
Sound [] = Unit {0}
Sound (f ∷ fs) = (0 < f.left → f.inherited ≢ Some 0) × Sound fs

-- what the loop knows
pub record Knows (whole : List ℕ) (now : Place) (stack : List Frame) : Type 0 where
  pub there : (more : List ℕ) → Pending (reverse stack) (length now.taken) now.rest more → StrictThen whole more
  pub back : (c : ℕ) (a more : List ℕ) → whole ≡ (c ∷ a) ++ more → IsStrict c a → Pending (reverse stack) (length now.taken) now.rest more
  pub sound : Sound (reverse stack)

reverse_push : (fs : List Frame) (f : Frame) → reverse (fs ++ f ∷ []) ≡ f ∷ reverse fs
reverse_push fs f = reverse-append fs (f ∷ [])

pub knows_first : (now : Place) (stack : List Frame) → now.taken ≡ [] → stack ≡ frame 1 None None ∷ [] → Knows now.rest now stack
knows_first now stack t e =
    let at : length now.taken ≡ 0 = ap length t in
    record {
      there = λ more p. finished now.rest more (subst (λ (i : ℕ). Pending (frame 1 None None ∷ []) i now.rest more) at (subst (λ (fs : List Frame). Pending (reverse fs) (length now.taken) now.rest more) e p));
      back = λ c a more w s. subst (λ (fs : List Frame). Pending (reverse fs) (length now.taken) now.rest more) (sym e) (subst (λ (i : ℕ). Pending (frame 1 None None ∷ []) i now.rest more) (sym at) (begun now.rest c a more w s));
      sound = subst (λ (fs : List Frame). Sound (reverse fs)) (sym e) ((λ l z. absurd cc), tt);
    }

-- a frame that is popped
abbrev pub Popped : List Frame → List Frame → Frame → Type 0
Popped old stack f = old ≡ stack ++ f ∷ []

shape : (old stack : List Frame) (f : Frame) → Popped old stack f → reverse old ≡ f ∷ reverse stack
shape old stack f e = ap reverse e ∙ reverse_push stack f

pub knows_sound : (whole : List ℕ) (now : Place) (old stack : List Frame) (f : Frame) → Knows whole now old → Popped old stack f → plain_width f ≡ None → (0 < f.left) × NeedsBytes f.inherited
knows_sound whole now old stack f k e p = needs_bytes f p (subst Sound (shape old stack f e) k.sound).0

pub knows_closed : (whole : List ℕ) (now new : Place) (old stack : List Frame) (f : Frame) (width : ℕ) → Knows whole now old → Popped old stack f → plain_width f ≡ Some width → Finishes f width now new → Knows whole new stack
knows_closed whole now new old stack f width k e p h = record {
  there = λ more q. k.there more (subst (λ (fs : List Frame). Pending fs (length now.taken) now.rest more) (sym (shape old stack f e)) (closes f width now new (reverse stack) more p h q));
  back = λ c a more w s. closed_back f width now new (reverse stack) more p h (subst (λ (fs : List Frame). Pending fs (length now.taken) now.rest more) (shape old stack f e) (k.back c a more w s));
  sound = (subst Sound (shape old stack f e) k.sound).1;
}

pub knows_unclosed : (whole : List ℕ) (now : Place) (old stack : List Frame) (f : Frame) (width : ℕ) → Knows whole now old → Popped old stack f → plain_width f ≡ Some width → Unfinished f width now → NoStrict whole
knows_unclosed whole now old stack f width k e p n = record {
  none = λ c a more w s. unclosed f width now (reverse stack) more p n (subst (λ (fs : List Frame). Pending fs (length now.taken) now.rest more) (shape old stack f e) (k.back c a more w s));
}

one_less : (f : Frame) → 0 < f.left → f ≡ frame (f.left - 1 + 1) f.inherited f.end
one_less f l = let m : f.left ≡ f.left - 1 + 1 = omega (arith, l) in ap (λ (i : ℕ). frame i f.inherited f.end) m

pub knows_entered : (whole : List ℕ) (now new : Place) (old stack pushed : List Frame) (f g : Frame) → Knows whole now old → Popped old stack f → 0 < f.left → Enters f.inherited now new g → pushed ≡ (stack ++ frame (f.left - 1) f.inherited f.end ∷ []) ++ g ∷ [] → Knows whole new pushed
knows_entered whole now new old stack pushed f g k e l h s =
    let less = frame (f.left - 1) f.inherited f.end in
    let was : reverse old ≡ frame (f.left - 1 + 1) f.inherited f.end ∷ reverse stack = shape old stack f e ∙ ap (λ (i : Frame). i ∷ reverse stack) (one_less f l) in
    let is : reverse pushed ≡ g ∷ less ∷ reverse stack = ap reverse s ∙ (reverse_push (stack ++ less ∷ []) g ∙ ap (λ (fs : List Frame). g ∷ fs) (reverse_push stack less)) in
    let sound = subst Sound (shape old stack f e) k.sound in
    record {
      there = λ more q. k.there more (subst (λ (fs : List Frame). Pending fs (length now.taken) now.rest more) (sym was) (entered f.inherited now new g (f.left - 1) f.end (reverse stack) more h (subst (λ (fs : List Frame). Pending fs (length new.taken) new.rest more) is q)));
      back = λ c a more w z. subst (λ (fs : List Frame). Pending fs (length new.taken) new.rest more) (sym is) (entered_back f.inherited now new g (f.left - 1) f.end (reverse stack) more h (subst (λ (fs : List Frame). Pending fs (length now.taken) now.rest more) was (k.back c a more w z)));
      sound = subst Sound (sym is) (h.sound, ((λ m. sound.0 l), sound.1));
    }

pub knows_none : (whole : List ℕ) (now : Place) (old stack : List Frame) (f : Frame) → Knows whole now old → Popped old stack f → 0 < f.left → NoForm f.inherited now.rest → NoStrict whole
knows_none whole now old stack f k e l n = record {
  none = λ c a more w s.
      let was : reverse old ≡ frame (f.left - 1 + 1) f.inherited f.end ∷ reverse stack = shape old stack f e ∙ ap (λ (i : Frame). i ∷ reverse stack) (one_less f l) in
      not_entered f.inherited now.rest (f.left - 1) (length now.taken) f.end (reverse stack) more n (subst (λ (fs : List Frame). Pending fs (length now.taken) now.rest more) was (k.back c a more w s));
}

pub knows_all : (first now : Place) (stack : List Frame) → Knows first.rest now stack → stack ≡ [] → Moves first now now.taken → TookStrict first now
knows_all first now stack k e m =
    let h = k.there now.rest (subst (λ (fs : List Frame). Pending (reverse fs) (length now.taken) now.rest now.rest) (sym e) refl) in
    let same : now.taken ≡ h.0 ∷ h.1 = append_cancel_right now.taken (h.0 ∷ h.1) now.rest (sym m.split ∙ h.2) in
    record { byte = h.0; behind = h.1; moves = subst (λ (s : List ℕ). Moves first now s) same m; strict = h.3 }

-- what was taken in all
pub moved_on : (first now new : Place) (front : List ℕ) → Moves first now now.taken → Moves now new front → Moves first new new.taken
moved_on first now new front m n = subst (λ (s : List ℕ). Moves first new s) (sym n.joined) (moves_then first now new now.taken front m n)

pub moved_first : (rest : List ℕ) (consumed : ℕ) (ending : Error) (ahead : ℕ) (items : List ℕ) → items ≡ [] → Moves (record { rest = rest; taken = []; consumed = consumed; ending = ending; ahead = ahead }) (record { rest = rest; taken = items; consumed = consumed; ending = ending; ahead = ahead }) items
moved_first rest consumed ending ahead items e =
    let first : Place = record { rest = rest; taken = []; consumed = consumed; ending = ending; ahead = ahead } in
    subst (λ (t : List ℕ). Moves first (record { rest = rest; taken = t; consumed = consumed; ending = ending; ahead = ahead }) t) (sym e) (stays first)

pub shrunk : (now new : Place) (front : List ℕ) → Moves now new front → length now.rest ≡ length front + length new.rest
shrunk now new front m = ap length m.split ∙ length-append front new.rest
