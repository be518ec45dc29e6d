-- What a disposition of the peer ends is what its links tell behind it.
use Rattle.std.proofs.Common.{◌≡◌, ◌≢◌, ◌⊎◌, inl, inr, ℕ, zero, suc, ◌<◌, ◌==◌, ◌&&◌, List, [], ◌∷◌, ◌++◌, Bool, true}
use Rattle.std.proofs.Common.{false, cond, Option, Some, None, is_some, if◌then◌else◌, All, length, refl, sym, ap, subst}
use Rattle.std.proofs.Common.{◌∙◌, append-nil, append_assoc, arith}
use Rattle.std.specs.Prelude.{slice_index_or, slice_set}
use Rattle.std.specs.Str.{bytes_eq}
use Rattle.std.specs.Map.{lookup, remove_entry, set_value}
use Rattle.std.specs.FinMap as tables
use Rattle.std.proofs.lemmas.Bool.{false≢true, true≢false}
use Rattle.std.proofs.lemmas.Bool.Decides.{eqb_tells}
use Rattle.std.proofs.lemmas.List.{get_or-set_other, get_or-set_same}
use Rattle.std.proofs.lemmas.Slice.Eq.{bytes_eq-Decides}
use Rattle.amqp_session_types.specs.declared.modes.Role.{Role}
use Rattle.amqp_session_types.specs.declared.modes.Role.TheVariants as role
use Rattle.amqp_session_states.specs.declared.delivery_state.DeliveryState.{DeliveryState}
use Rattle.amqp_session_performatives.specs.declared.disposition.Disposition.{Disposition}
use Rattle.amqp_session_outgoing.specs.Table.{Table}
use Rattle.amqp_session_outgoing.specs.declared.delivery.Delivery.{Delivery}
use Rattle.amqp_session_core.specs.Disposing.{AreTouched, StandsIn, each_number}
use Rattle.amqp_session_core.specs.Echoes.{Reach, ReachesAt, Walks, opposite, without}
use Rattle.amqp_session_core.specs.State.{link_at}
use Rattle.amqp_session_core.specs.Steps.{SendsDispositionStep, table_of, with_table}
use Rattle.amqp_session_core.specs.Told.{DispositionTaken}
use Rattle.amqp_session_core.specs.declared.dispositions.Touched.{Touched}
use Rattle.amqp_link_unsettled.specs.Messages.{MessageLists, disposed, disposed_at, open_at, resolved_as, told_at}
use Rattle.amqp_link_unsettled.specs.Resolutions.{ends, resolution_of}
use Rattle.amqp_link_unsettled.specs.Told.{told}
use Rattle.amqp_link_unsettled.specs.declared.open.Open.{Open}
use Rattle.amqp_link_unsettled.specs.declared.resolution.Resolution.{Resolution}
use Rattle.amqp_link_sender.specs.Results.{send_result}
use Rattle.amqp_link.specs.Gives.{disposes}
use Rattle.amqp_link.specs.declared.end.End.{End}
use Rattle.amqp_link.specs.declared.end.End.TheVariants.{Sender, Receiver}
use Rattle.amqp_endpoint_links.specs.declared.numbered.Numbered.{Numbered}
use Rattle.amqp_endpoint_model.specs.declared.event.Event.{Event}
use Rattle.amqp_endpoint_attached.specs.Linked.{LinksIn, gives}
use Rattle.amqp_endpoint_messages.specs.Told.{outcome_told}
use Rattle.amqp_endpoint_messages.specs.Dispositions.{SendsEach}
use Rattle.amqp_endpoint_messages.specs.Reached.{behind_first, behind_one, behind_reached, end_behind, end_told}
use Rattle.amqp_endpoint_messages.specs.Reached.{first_told, link_behind, link_told, reached_told}
use Rattle.amqp_endpoint_messages.specs.Outcomes.{NoneUntold, end_disposed, end_untold, ended_told, is_ended}
use Rattle.amqp_endpoint_messages.specs.Outcomes.{link_disposed, link_untold, one_disposed, outcomes_told}
use Rattle.amqp_endpoint_messages.proofs.Numbers.{touched-same}

abbrev pub Ended : Type 0
Ended = List ℕ × Resolution

abbrev pub Link : Type 0
Link = Numbered End

-- a message that isn't open isn't either once another is taken out or noted
none-head : {X : Type 0} → (b : Bool) (x : X) (rest : Option X) → cond b (Some x) rest ≡ None → b ≡ false
none-head true x rest none = absurd cc
none-head false x rest none = refl

none-tail : {X : Type 0} → (b : Bool) (x : X) (rest : Option X) → cond b (Some x) rest ≡ None → rest ≡ None
none-tail true x rest none = absurd cc
none-tail false x rest none = none

none-again : {X : Type 0} → (b : Bool) (x : X) (rest : Option X) → b ≡ false → rest ≡ None
    → cond b (Some x) rest ≡ None
none-again b x rest is none = ap (λ (c : Bool). cond c (Some x) rest) is ∙ none

taken-out : {X : Type 0} → (p : List ℕ → Bool) (e : List ℕ × X) (es others : List (List ℕ × X)) (c : Bool)
    → lookup p (e ∷ es) ≡ None → lookup p others ≡ None → lookup p (cond c es (e ∷ others)) ≡ None
taken-out p e es others true none rest = none-tail (p e.0) e.1 (lookup p es) none
taken-out p e es others false none rest =
    none-again (p e.0) e.1 (lookup p others) (none-head (p e.0) e.1 (lookup p es) none) rest

without-none : {X : Type 0} → (p q : List ℕ → Bool) (es : List (List ℕ × X)) → lookup p es ≡ None
    → lookup p (remove_entry q es) ≡ None
without-none p q [] none = refl
without-none p q (e ∷ es) none =
    taken-out p e es (remove_entry q es) (q e.0) none
    (without-none p q es (none-tail (p e.0) e.1 (lookup p es) none))

changed : {X : Type 0} → (p : List ℕ → Bool) (e : List ℕ × X) (x : X) (es others : List (List ℕ × X)) (c : Bool)
    → lookup p (e ∷ es) ≡ None → lookup p others ≡ None
    → lookup p (cond c ((e.0, x) ∷ es) (e ∷ others)) ≡ None
changed p e x es others true none rest =
    none-again (p e.0) x (lookup p es) (none-head (p e.0) e.1 (lookup p es) none)
    (none-tail (p e.0) e.1 (lookup p es) none)
changed p e x es others false none rest =
    none-again (p e.0) e.1 (lookup p others) (none-head (p e.0) e.1 (lookup p es) none) rest

noted-none : {X : Type 0} → (p q : List ℕ → Bool) (es : List (List ℕ × X)) (x : X) → lookup p es ≡ None
    → lookup p (set_value q es x) ≡ None
noted-none p q [] x none = refl
noted-none p q (e ∷ es) x none =
    changed p e x es (set_value q es x) (q e.0) none
    (noted-none p q es x (none-tail (p e.0) e.1 (lookup p es) none))

-- the links of a session, once one is changed
abbrev pub mapped : (Link → Link) → Option Link → Option Link
mapped f None = None
mapped f (Some link) = Some (f link)

reaches-to : (links : List (Option Link)) (i : ℕ) (link : Link) → slice_index_or links i None ≡ Some link
    → i < length links
reaches-to [] i link e = absurd cc
reaches-to (l ∷ links) zero link e = omega arith
reaches-to (l ∷ links) (suc i) link e =
    let h : i < length links = reaches-to links i link e in omega arith

pub set-at : (links : List (Option Link)) (i h : ℕ) (link : Link) (f : Link → Link)
    → slice_index_or links i None ≡ Some link
    → slice_index_or (slice_set links i (Some (f link))) h None
    ≡ (if i == h then mapped f (slice_index_or links h None) else slice_index_or links h None)
set-at links i h link f there = by (eqb_tells i h)
  where
    by : (((i == h) ≡ true) × (i ≡ h)) ⊎ (((i == h) ≡ false) × (i ≢ h))
        → slice_index_or (slice_set links i (Some (f link))) h None
        ≡ (if i == h then mapped f (slice_index_or links h None) else slice_index_or links h None)
    by (inl p) =
        ap (λ (n : ℕ). slice_index_or (slice_set links i (Some (f link))) n None) (sym p.1)
        ∙ get_or-set_same links i (Some (f link)) None (reaches-to links i link there)
        ∙ ap (λ (o : Option Link). mapped f o) (sym there ∙ ap (λ (n : ℕ). slice_index_or links n None) p.1)
        ∙ sym
        (ap (λ (b : Bool). if b then mapped f (slice_index_or links h None) else slice_index_or links h None) p.0)
    by (inr p) =
        get_or-set_other links i h (Some (f link)) None (λ same. p.1 (sym same))
        ∙ sym
        (ap (λ (b : Bool). if b then mapped f (slice_index_or links h None) else slice_index_or links h None) p.0)

none-at : (links : List (Option Link)) (i h : ℕ) (f : Link → Link) → slice_index_or links i None ≡ None
    → slice_index_or links h None
    ≡ (if i == h then mapped f (slice_index_or links h None) else slice_index_or links h None)
none-at links i h f there = by (eqb_tells i h)
  where
    by : (((i == h) ≡ true) × (i ≡ h)) ⊎ (((i == h) ≡ false) × (i ≢ h)) → slice_index_or links h None
        ≡ (if i == h then mapped f (slice_index_or links h None) else slice_index_or links h None)
    by (inl p) =
        let none : slice_index_or links h None ≡ None =
        ap (λ (n : ℕ). slice_index_or links n None) (sym p.1) ∙ there in
        none
        ∙ ap (λ (o : Option Link). mapped f o) (sym none)
        ∙ sym
        (ap (λ (b : Bool). if b then mapped f (slice_index_or links h None) else slice_index_or links h None) p.0)
    by (inr p) =
        sym (ap (λ (b : Bool). if b then mapped f (slice_index_or links h None) else slice_index_or links h None) p.0)

-- what a link makes of telling
abbrev pub link_told_on : List ℕ → Link → Link
link_told_on tag link = record link { link = end_behind tag link.link }

pub told-at : (s : LinksIn) (d : Touched) (h : ℕ) → link_at (behind_one s d) h
    ≡ (if d.handle.0 == h then mapped (link_told_on d.tag) (link_at s h) else link_at s h)
told-at s d h = by (link_at s d.handle.0) refl
  where
    by : (o : Option Link) → link_at s d.handle.0 ≡ o → link_at (link_behind s d.handle.0 d.tag o) h
        ≡ (if d.handle.0 == h then mapped (link_told_on d.tag) (link_at s h) else link_at s h)
    by None there = none-at s.links d.handle.0 h (link_told_on d.tag) there
    by (Some link) there = set-at s.links d.handle.0 h link (link_told_on d.tag) there

-- a link with what ended and is still to be told: what it tells, and what is left
of-told : (tag : List ℕ) (o : Option Link)
    → link_untold (mapped (link_told_on tag) o) ≡ behind_first tag (link_untold o)
of-told tag None = refl
of-told tag (Some link) = by link.link
  where
    by : (e : End) → end_untold (end_behind tag e) ≡ behind_first tag (end_untold e)
    by (Sender s) = refl
    by (Receiver r) = refl

abbrev pub number_of : Option Link → ℕ
number_of None = 0
number_of (Some link) = link.number

numbers-told : (tag : List ℕ) (o : Option Link) → number_of (mapped (link_told_on tag) o) ≡ number_of o
numbers-told tag None = refl
numbers-told tag (Some link) = refl

tells : (tag : List ℕ) (o : Option Link) → link_told tag o ≡ first_told (number_of o) tag (link_untold o)
tells tag None = refl
tells tag (Some link) = by link.link
  where
    by : (e : End) → end_told link.number tag e ≡ first_told link.number tag (end_untold e)
    by (Sender s) = refl
    by (Receiver r) = refl

same-tag : (tag : List ℕ) → bytes_eq tag tag ≡ true
same-tag tag = (bytes_eq-Decides tag tag).1 refl

module _ (it : Disposition) where
  -- of a message that the disposition ends
  abbrev pub one_ended : Bool → List ℕ → List Ended
  one_ended is tag = if is then (tag, resolution_of it.state) ∷ [] else []

  abbrev pub ends_it : List ℕ → Option Link → Bool
  ends_it tag None = false
  ends_it tag (Some link) = is_ended it.role it.settled it.state tag link.link

  abbrev pub ended_of : List ℕ → Option Link → List Ended
  ended_of tag o = one_ended (ends_it tag o) tag

  abbrev pub disposed_link : List ℕ → Link → Link
  disposed_link tag link = record link { link = end_disposed it.role it.settled it.state tag link.link }

  pub disposed-at : (s : LinksIn) (d : Touched) (h : ℕ) → link_at (one_disposed it s d) h
      ≡ (if d.handle.0 == h then mapped (disposed_link d.tag) (link_at s h) else link_at s h)
  disposed-at s d h = by (link_at s d.handle.0) refl
    where
      by : (o : Option Link) → link_at s d.handle.0 ≡ o → link_at (link_disposed it s d.handle.0 d.tag o) h
          ≡ (if d.handle.0 == h then mapped (disposed_link d.tag) (link_at s h) else link_at s h)
      by None there = none-at s.links d.handle.0 h (disposed_link d.tag) there
      by (Some link) there = set-at s.links d.handle.0 h link (disposed_link d.tag) there

  numbers-disposed : (tag : List ℕ) (o : Option Link) → number_of (mapped (disposed_link tag) o) ≡ number_of o
  numbers-disposed tag None = refl
  numbers-disposed tag (Some link) = refl

  -- it is to be told behind what was
  if-ended : (m : MessageLists) (tag : List ℕ) (noted : MessageLists) (state : Option DeliveryState)
      → noted.resolved ≡ m.resolved → (b : Bool)
      → (if b then resolved_as m tag (resolution_of state) else noted).resolved
      ≡ m.resolved ++ (if b then (tag, resolution_of state) ∷ [] else [])
  if-ended m tag noted state same true = refl
  if-ended m tag noted state same false = same ∙ sym (append-nil m.resolved)

  at-ended : (m : MessageLists) (tag : List ℕ) (settled : Bool) (state : Option DeliveryState) (o : Option Open)
      → (disposed_at m tag o settled state).resolved
      ≡ m.resolved ++ (if is_some o && ends settled state then (tag, resolution_of state) ∷ [] else [])
  at-ended m tag settled state None = sym (append-nil m.resolved)
  at-ended m tag settled state (Some message) =
      if-ended m tag (record m { unsettled = told_at m.unsettled tag (Some message) state }) state refl
      (ends settled state)

  end-ended : (by_role : Role) (settled : Bool) (state : Option DeliveryState) (tag : List ℕ) (e : End)
      → end_untold (end_disposed by_role settled state tag e)
      ≡ end_untold e ++ (if is_ended by_role settled state tag e then (tag, resolution_of state) ∷ [] else [])
  end-ended role.Receiver settled state tag (Sender s) =
      at-ended s.messages tag settled state (open_at s.messages tag)
  end-ended role.Receiver settled state tag (Receiver r) = refl
  end-ended role.Sender settled state tag (Sender s) = sym (append-nil s.messages.resolved)
  end-ended role.Sender settled state tag (Receiver r) = refl

  of-disposed : (tag : List ℕ) (o : Option Link)
      → link_untold (mapped (disposed_link tag) o) ≡ link_untold o ++ ended_of tag o
  of-disposed tag None = refl
  of-disposed tag (Some link) = end-ended it.role it.settled it.state tag link.link

  -- what it doesn't end it doesn't end later either
  and-false : (a b : Bool) → b ≡ false → (a && b) ≡ false
  and-false true b is = is
  and-false false b is = refl

  none-of : (o : Option Open) → is_some o ≡ false → o ≡ None
  none-of None is = refl
  none-of (Some m) is = absurd (true≢false is)

  if-none : (p : List ℕ → Bool) (a b : MessageLists) → lookup p a.unsettled ≡ None → lookup p b.unsettled ≡ None
      → (c : Bool) → lookup p (if c then a else b).unsettled ≡ None
  if-none p a b x y true = x
  if-none p a b x y false = y

  at-none : (m : MessageLists) (tag other : List ℕ) (settled : Bool) (state : Option DeliveryState)
      → open_at m tag ≡ None → (o : Option Open) → open_at (disposed_at m other o settled state) tag ≡ None
  at-none m tag other settled state none None = none
  at-none m tag other settled state none (Some message) =
      if-none (bytes_eq tag) (resolved_as m other (resolution_of state))
      (record m { unsettled = told_at m.unsettled other (Some message) state })
      (without-none (bytes_eq tag) (bytes_eq other) m.unsettled none)
      (noted-none (bytes_eq tag) (bytes_eq other) m.unsettled (told message state) none) (ends settled state)

  either-false : (a b : Bool) → (a && b) ≡ false → (a ≡ false) ⊎ (b ≡ false)
  either-false true b is = inr is
  either-false false b is = inl refl

  end-stays : (by_role : Role) (settled : Bool) (state : Option DeliveryState) (tag other : List ℕ) (e : End)
      → is_ended by_role settled state tag e ≡ false
      → is_ended by_role settled state tag (end_disposed by_role settled state other e) ≡ false
  end-stays role.Receiver settled state tag other (Sender s) is =
      by (either-false (is_some (open_at s.messages tag)) (ends settled state) is)
    where
      by : (is_some (open_at s.messages tag) ≡ false) ⊎ (ends settled state ≡ false)
          → (is_some (open_at (disposed s.messages other settled state) tag) && ends settled state) ≡ false
      by (inl shut) =
          ap (λ (o : Option Open). is_some o && ends settled state)
          (at-none s.messages tag other settled state (none-of (open_at s.messages tag) shut)
          (open_at s.messages other))
      by (inr unended) =
          and-false (is_some (open_at (disposed s.messages other settled state) tag)) (ends settled state) unended
  end-stays role.Receiver settled state tag other (Receiver r) is = refl
  end-stays role.Sender settled state tag other (Sender s) is = refl
  end-stays role.Sender settled state tag other (Receiver r) is = refl

  stays-unended : (tag other : List ℕ) (o : Option Link) → ends_it tag o ≡ false
      → ends_it tag (mapped (disposed_link other) o) ≡ false
  stays-unended tag other None is = refl
  stays-unended tag other (Some link) is = end-stays it.role it.settled it.state tag other link.link is

  -- what the walk still ends of the link with a handle
  abbrev pub pending_if : Bool → List Ended → List Ended → List Ended → List Ended
  pending_if true own later others = own ++ later
  pending_if false own later others = others

  abbrev pub pending : ℕ → List Touched → Option Link → List Ended
  pending h [] o = []
  pending h (d ∷ rest) o =
      pending_if (d.handle.0 == h) (ended_of d.tag o) (pending h rest (mapped (disposed_link d.tag) o))
      (pending h rest o)

  -- it doesn't begin with a message that isn't ended
  abbrev pub Lacks : List ℕ → List Ended → Type 0
  Lacks tag [] = Unit {0}
  Lacks tag (e ∷ es) = bytes_eq tag e.0 ≡ false

  not-same : (x y : List ℕ) (b : Bool) → bytes_eq x y ≡ b → (x ≡ y → ⊥) → b ≡ false
  not-same x y true is other = absurd (other ((bytes_eq-Decides x y).0 is))
  not-same x y false is other = refl

  ended-lacks : (tag : List ℕ) (d : List ℕ) (o : Option Link) (later : List Ended) → ends_it tag o ≡ false
      → Lacks tag later → (b : Bool) → ends_it d o ≡ b → Lacks tag (one_ended b d ++ later)
  ended-lacks tag d o later unended lacks true is =
      not-same tag d (bytes_eq tag d) refl
      (λ same. false≢true (sym unended ∙ ap (λ (t : List ℕ). ends_it t o) same ∙ is))
  ended-lacks tag d o later unended lacks false is = lacks

  if-lacks : (tag d : List ℕ) (o : Option Link) (later others : List Ended) → ends_it tag o ≡ false → Lacks tag later
      → Lacks tag others → (b : Bool) → Lacks tag (pending_if b (ended_of d o) later others)
  if-lacks tag d o later others unended x y true = ended-lacks tag d o later unended x (ends_it d o) refl
  if-lacks tag d o later others unended x y false = y

  lacks : (h : ℕ) (ds : List Touched) (tag : List ℕ) (o : Option Link) → ends_it tag o ≡ false
      → Lacks tag (pending h ds o)
  lacks h [] tag o unended = tt
  lacks h (d ∷ rest) tag o unended =
      if-lacks tag d.tag o (pending h rest (mapped (disposed_link d.tag) o)) (pending h rest o) unended
      (lacks h rest tag (mapped (disposed_link d.tag) o) (stays-unended tag d.tag o unended))
      (lacks h rest tag o unended) (d.handle.0 == h)

  -- the session behind all of them
  abbrev pub all_disposed : LinksIn → List Touched → LinksIn
  all_disposed s [] = s
  all_disposed s (d ∷ rest) = all_disposed (one_disposed it s d) rest

  all-pending : (h : ℕ) (s : LinksIn) (ds : List Touched)
      → link_untold (link_at (all_disposed s ds) h) ≡ link_untold (link_at s h) ++ pending h ds (link_at s h)
  all-pending h s [] = sym (append-nil (link_untold (link_at s h)))
  all-pending h s (d ∷ rest) =
      all-pending h (one_disposed it s d) rest
      ∙ ap (λ (o : Option Link). link_untold o ++ pending h rest o) (disposed-at s d h)
      ∙ by (d.handle.0 == h)
    where
      by : (b : Bool)
          → link_untold (if b then mapped (disposed_link d.tag) (link_at s h) else link_at s h)
          ++ pending h rest (if b then mapped (disposed_link d.tag) (link_at s h) else link_at s h)
          ≡ link_untold (link_at s h)
          ++ pending_if b (ended_of d.tag (link_at s h)) (pending h rest (mapped (disposed_link d.tag) (link_at s h)))
          (pending h rest (link_at s h))
      by true =
          ap (λ (es : List Ended). es ++ pending h rest (mapped (disposed_link d.tag) (link_at s h)))
          (of-disposed d.tag (link_at s h))
          ∙ append_assoc (link_untold (link_at s h)) (ended_of d.tag (link_at s h))
          (pending h rest (mapped (disposed_link d.tag) (link_at s h)))
      by false = refl

  all-numbers : (h : ℕ) (s : LinksIn) (ds : List Touched)
      → number_of (link_at (all_disposed s ds) h) ≡ number_of (link_at s h)
  all-numbers h s [] = refl
  all-numbers h s (d ∷ rest) =
      all-numbers h (one_disposed it s d) rest
      ∙ ap (λ (o : Option Link). number_of o) (disposed-at s d h)
      ∙ by (d.handle.0 == h)
    where
      by : (b : Bool) → number_of (if b then mapped (disposed_link d.tag) (link_at s h) else link_at s h)
          ≡ number_of (link_at s h)
      by true = numbers-disposed d.tag (link_at s h)
      by false = refl

  -- a session in which what is to be told is what the walk still ends in another
  pub record Awaits (x s : LinksIn) (ds : List Touched) : Type 0 where
    pub untold : (h : ℕ) → link_untold (link_at x h) ≡ pending h ds (link_at s h)
    pub numbers : (h : ℕ) → number_of (link_at x h) ≡ number_of (link_at s h)

  -- the first is told, and the rest awaited
  told-first : (number : ℕ) (tag : List ℕ) (later : List Ended) (b : Bool) → (b ≡ false → Lacks tag later)
      → first_told number tag (one_ended b tag ++ later)
      ≡ (if b then outcome_told number tag (send_result None (resolution_of it.state)) else [])
  told-first number tag later true none =
      ap (λ (b : Bool). if b then outcome_told number tag (send_result None (resolution_of it.state)) else [])
      (same-tag tag)
  told-first number tag later false none = by later (none refl)
    where
      by : (es : List Ended) → Lacks tag es → first_told number tag es ≡ []
      by [] n = refl
      by (e ∷ es) n = ap (λ (b : Bool). if b then outcome_told number e.0 (send_result None e.1) else []) n

  left-first : (tag : List ℕ) (later : List Ended) (b : Bool) → (b ≡ false → Lacks tag later)
      → behind_first tag (one_ended b tag ++ later) ≡ later
  left-first tag later true none =
      ap (λ (b : Bool). if b then later else ((tag, resolution_of it.state) ∷ later)) (same-tag tag)
  left-first tag later false none = by later (none refl)
    where
      by : (es : List Ended) → Lacks tag es → behind_first tag es ≡ es
      by [] n = refl
      by (e ∷ es) n = ap (λ (b : Bool). if b then es else (e ∷ es)) n

  tells-ended : (tag : List ℕ) (o : Option Link)
      → (if ends_it tag o then outcome_told (number_of o) tag (send_result None (resolution_of it.state)) else [])
      ≡ ended_told it tag o
  tells-ended tag None = refl
  tells-ended tag (Some link) = refl

  module _ (x s : LinksIn) (d : Touched) (rest : List Touched) (w : Awaits x s (d ∷ rest)) where
    -- where the first isn't ended, nothing of its tag is
    lacks-later : ends_it d.tag (link_at s d.handle.0) ≡ false
        → Lacks d.tag (pending d.handle.0 rest (mapped (disposed_link d.tag) (link_at s d.handle.0)))
    lacks-later unended =
        lacks d.handle.0 rest d.tag (mapped (disposed_link d.tag) (link_at s d.handle.0))
        (stays-unended d.tag d.tag (link_at s d.handle.0) unended)

    own-handle : (d.handle.0 == d.handle.0) ≡ true
    own-handle = by (eqb_tells d.handle.0 d.handle.0)
      where
        by : (((d.handle.0 == d.handle.0) ≡ true) × (d.handle.0 ≡ d.handle.0))
            ⊎ (((d.handle.0 == d.handle.0) ≡ false) × (d.handle.0 ≢ d.handle.0)) → (d.handle.0 == d.handle.0) ≡ true
        by (inl p) = p.0
        by (inr p) = absurd (p.1 refl)

    untold-here : link_untold (link_at x d.handle.0)
        ≡ ended_of d.tag (link_at s d.handle.0)
        ++ pending d.handle.0 rest (mapped (disposed_link d.tag) (link_at s d.handle.0))
    untold-here =
        w.untold d.handle.0
        ∙ ap
        (λ (b : Bool). pending_if b (ended_of d.tag (link_at s d.handle.0))
        (pending d.handle.0 rest (mapped (disposed_link d.tag) (link_at s d.handle.0)))
        (pending d.handle.0 rest (link_at s d.handle.0)))
        own-handle

    told-here : link_told d.tag (link_at x d.handle.0) ≡ ended_told it d.tag (link_at s d.handle.0)
    told-here =
        tells d.tag (link_at x d.handle.0)
        ∙ ap (λ (n : ℕ). first_told n d.tag (link_untold (link_at x d.handle.0))) (w.numbers d.handle.0)
        ∙ ap (λ (es : List Ended). first_told (number_of (link_at s d.handle.0)) d.tag es) untold-here
        ∙ told-first (number_of (link_at s d.handle.0)) d.tag
        (pending d.handle.0 rest (mapped (disposed_link d.tag) (link_at s d.handle.0)))
        (ends_it d.tag (link_at s d.handle.0)) lacks-later
        ∙ tells-ended d.tag (link_at s d.handle.0)

    awaits-rest : Awaits (behind_one x d) (one_disposed it s d) rest
    awaits-rest = record { untold = untold; numbers = numbers }
      where
        untold : (h : ℕ) → link_untold (link_at (behind_one x d) h) ≡ pending h rest (link_at (one_disposed it s d) h)
        untold h =
            ap (λ (o : Option Link). link_untold o) (told-at x d h)
            ∙ by (eqb_tells d.handle.0 h)
            ∙ ap (λ (o : Option Link). pending h rest o) (sym (disposed-at s d h))
          where
            by : (((d.handle.0 == h) ≡ true) × (d.handle.0 ≡ h)) ⊎ (((d.handle.0 == h) ≡ false) × (d.handle.0 ≢ h))
                → link_untold (if d.handle.0 == h then mapped (link_told_on d.tag) (link_at x h) else link_at x h)
                ≡ pending h rest
                (if d.handle.0 == h then mapped (disposed_link d.tag) (link_at s h) else link_at s h)
            by (inl p) =
                ap (λ (b : Bool). link_untold (if b then mapped (link_told_on d.tag) (link_at x h) else link_at x h))
                p.0
                ∙ of-told d.tag (link_at x h)
                ∙ ap (λ (n : ℕ). behind_first d.tag (link_untold (link_at x n))) (sym p.1)
                ∙ ap (λ (es : List Ended). behind_first d.tag es) untold-here
                ∙ left-first d.tag (pending d.handle.0 rest (mapped (disposed_link d.tag) (link_at s d.handle.0)))
                (ends_it d.tag (link_at s d.handle.0)) lacks-later
                ∙ ap (λ (n : ℕ). pending n rest (mapped (disposed_link d.tag) (link_at s n))) p.1
                ∙ sym
                (ap
                (λ (b : Bool). pending h rest (if b then mapped (disposed_link d.tag) (link_at s h) else link_at s h))
                p.0)
            by (inr p) =
                ap (λ (b : Bool). link_untold (if b then mapped (link_told_on d.tag) (link_at x h) else link_at x h))
                p.0
                ∙ w.untold h
                ∙ ap
                (λ (b : Bool). pending_if b (ended_of d.tag (link_at s h))
                (pending h rest (mapped (disposed_link d.tag) (link_at s h))) (pending h rest (link_at s h)))
                p.0
                ∙ sym
                (ap
                (λ (b : Bool). pending h rest (if b then mapped (disposed_link d.tag) (link_at s h) else link_at s h))
                p.0)

        numbers : (h : ℕ) → number_of (link_at (behind_one x d) h) ≡ number_of (link_at (one_disposed it s d) h)
        numbers h =
            ap (λ (o : Option Link). number_of o) (told-at x d h)
            ∙ by (d.handle.0 == h)
            ∙ w.numbers h
            ∙ sym (with-it (d.handle.0 == h))
            ∙ ap (λ (o : Option Link). number_of o) (sym (disposed-at s d h))
          where
            by : (b : Bool) → number_of (if b then mapped (link_told_on d.tag) (link_at x h) else link_at x h)
                ≡ number_of (link_at x h)
            by true = numbers-told d.tag (link_at x h)
            by false = refl

            with-it : (b : Bool) → number_of (if b then mapped (disposed_link d.tag) (link_at s h) else link_at s h)
                ≡ number_of (link_at s h)
            with-it true = numbers-disposed d.tag (link_at s h)
            with-it false = refl

  awaited-told : (x s : LinksIn) (ds : List Touched) → Awaits x s ds → reached_told x ds ≡ outcomes_told it s ds
  awaited-told x s [] w = refl
  awaited-told x s (d ∷ rest) w =
      ap (λ (es : List Event). es ++ reached_told (behind_one x d) rest) (told-here x s d rest w)
      ∙ ap (λ (es : List Event). ended_told it d.tag (link_at s d.handle.0) ++ es)
      (awaited-told (behind_one x d) (one_disposed it s d) rest (awaits-rest x s d rest w))

  awaited-none : (x s : LinksIn) (ds : List Touched) → Awaits x s ds → NoneUntold (behind_reached x ds)
  awaited-none x s [] w handle = w.untold handle
  awaited-none x s (d ∷ rest) w handle =
      awaited-none (behind_one x d) (one_disposed it s d) rest (awaits-rest x s d rest w) handle

  -- the walk over the deliveries does so
  same-end : (e : End) (tag : List ℕ) (by_role : Role) (settled : Bool) (state : Option DeliveryState) (echo : Bool)
      (new : End) → disposes e tag by_role settled state echo new → new ≡ end_disposed by_role settled state tag e
  same-end (Sender s) tag role.Receiver settled state echo new d = d.1
  same-end (Receiver r) tag role.Sender settled state echo new d = d.1
  same-end (Sender s) tag role.Sender settled state echo new d = d.1
  same-end (Receiver r) tag role.Receiver settled state echo new d = d.1

  same-link : (old new : Link) (end : End) → new.link ≡ end → new.number ≡ old.number
      → new ≡ record old { link = end }
  same-link old new end is number =
      ap (λ (n : ℕ). let l : Link = record { number = n; link = new.link } in l) number
      ∙ ap (λ (e : End). let l : Link = record { number = old.number; link = e } in l) is

  module _ (table : Table) where
    reached-is : (old mid : List (Option Link)) (r : Reach) (o : Option Link)
        → slice_index_or old r.handle None ≡ o → ReachesAt gives.disposes it old o r mid → (s : LinksIn)
        → s.links ≡ old → (link_disposed it s r.handle r.tag o).links ≡ mid
    reached-is old mid r None there (live, echo, same) s is = is ∙ sym same
    reached-is old mid r (Some link) there (live, step) s is =
        let before-is : step.before ≡ link = by-some step.before link (sym step.had ∙ there) in
        let after-is : step.after ≡ disposed_link r.tag link =
        same-link step.before step.after (end_disposed it.role it.settled it.state r.tag (step.before).link)
        (same-end (step.before).link r.tag it.role it.settled it.state r.echo (step.after).link step.stepped.0)
        step.stepped.1
        ∙ ap (λ (l : Link). disposed_link r.tag l) before-is in
        ap (λ (ls : List (Option Link)). slice_set ls r.handle (Some (disposed_link r.tag link))) is
        ∙ ap (λ (l : Link). slice_set old r.handle (Some l)) (sym after-is)
        ∙ sym step.others
      where
        by-some : (a b : Link) → Some a ≡ Some b → a ≡ b
        by-some a b same = cc

    same-delivery : (d : Touched) (n handle : ℕ) (tag : List ℕ) → d.number ≡ n → StandsIn table d
        → tables.get table n ≡ Some (record { handle = record { 0 = handle }; tag = tag })
        → (d.handle.0 ≡ handle) × (d.tag ≡ tag)
    same-delivery d n handle tag is stands found =
        by (record { handle = d.handle; tag = d.tag }) (record { handle = record { 0 = handle }; tag = tag })
        (sym stands ∙ ap (λ (k : ℕ). tables.get table k) is ∙ found)
      where
        by : (a b : Delivery) → Some a ≡ Some b → (a.handle.0 ≡ b.handle.0) × (a.tag ≡ b.tag)
        by a b same =
            let is-same : a ≡ b = cc in
            (ap (λ (x : Delivery). x.handle.0) is-same, ap (λ (x : Delivery). x.tag) is-same)

    pub walk-is : (ds : List Touched) (old new : List (Option Link)) (walk : List Reach)
        → Walks gives.disposes it table (each_number ds) old walk new → All (StandsIn table) ds → (s : LinksIn)
        → s.links ≡ old → (all_disposed s ds).links ≡ new
    walk-is [] old new [] same all s is = is ∙ sym same
    walk-is [] old new (r ∷ walk) same all s is = absurd same
    walk-is (d ∷ ds) old new [] same all s is = absurd same
    walk-is (d ∷ ds) old new (r ∷ walk) (mid, number, found, reaches, rest) all s is =
        walk-is ds mid new walk rest (λ k e below. all (suc k) e (omega (arith, below))) (one_disposed it s d) one
      where
        stands : StandsIn table d
        stands = all 0 d (omega arith)

        same : (d.handle.0 ≡ r.handle) × (d.tag ≡ r.tag)
        same = same-delivery d d.number r.handle r.tag refl stands found

        one : (one_disposed it s d).links ≡ mid
        one =
            ap (λ (n : ℕ). (link_disposed it s n d.tag (link_at s n)).links) same.0
            ∙ ap (λ (t : List ℕ). (link_disposed it s r.handle t (link_at s r.handle)).links) same.1
            ∙ reached-is old mid r (link_at s r.handle)
            (ap (λ (ls : List (Option Link)). slice_index_or ls r.handle None) (sym is))
            (subst
            (λ (ls : List (Option Link)). ReachesAt gives.disposes it old (slice_index_or ls r.handle None) r mid)
            (sym is) reaches)
            s is

    awaits-all : (old new : LinksIn) (ds : List Touched) (walk : List Reach) → NoneUntold old
        → Walks gives.disposes it table (each_number ds) old.links walk new.links → All (StandsIn table) ds
        → Awaits new old ds
    awaits-all old new ds walk none walks all = record { untold = untold; numbers = numbers }
      where
        links-are : (all_disposed old ds).links ≡ new.links
        links-are = walk-is ds old.links new.links walk walks all old refl

        untold : (h : ℕ) → link_untold (link_at new h) ≡ pending h ds (link_at old h)
        untold h =
            ap (λ (ls : List (Option Link)). link_untold (slice_index_or ls h None)) (sym links-are)
            ∙ all-pending h old ds
            ∙ ap (λ (es : List Ended). es ++ pending h ds (link_at old h)) (none h)

        numbers : (h : ℕ) → number_of (link_at new h) ≡ number_of (link_at old h)
        numbers h =
            ap (λ (ls : List (Option Link)). number_of (slice_index_or ls h None)) (sym links-are)
            ∙ all-numbers h old ds

    pub outcomes-are : (old new : LinksIn) (ds : List Touched) (walk : List Reach) → NoneUntold old
        → Walks gives.disposes it table (each_number ds) old.links walk new.links → All (StandsIn table) ds
        → reached_told new ds ≡ outcomes_told it old ds
    outcomes-are old new ds walk none walks all =
        awaited-told new old ds (awaits-all old new ds walk none walks all)

    pub none-left : (old new : LinksIn) (ds : List Touched) (walk : List Reach) → NoneUntold old
        → Walks gives.disposes it table (each_number ds) old.links walk new.links → All (StandsIn table) ds
        → NoneUntold (behind_reached new ds)
    none-left old new ds walk none walks all =
        awaited-none new old ds (awaits-all old new ds walk none walks all)

-- the links behind a disposition are those of the walk over its deliveries
pub walked-links : (it : Disposition) (old new : LinksIn) (echoes : List Disposition) (ds : List Touched)
    → DispositionTaken gives old it echoes new → AreTouched it (table_of it.role old) ds
    → (all_disposed it old ds).links ≡ new.links
walked-links it old new echoes ds t a =
    walk-is it (table_of it.role old) ds old.links new.links t.walk
    (subst (λ (ns : List ℕ). Walks gives.disposes it (table_of it.role old) ns old.links t.walk new.links)
    (touched-same it (table_of it.role old) (t.stepped).numbers (each_number ds) (t.stepped).touched a.numbers)
    (t.stepped).walked)
    a.deliveries old refl

-- what a session's links tell behind a disposition is what it ended
module _ (it : Disposition) (old new : LinksIn) (echoes : List Disposition) (ds : List Touched) (none : NoneUntold old)
    (t : DispositionTaken gives old it echoes new) (a : AreTouched it (table_of it.role old) ds) where
  walks : Walks gives.disposes it (table_of it.role old) (each_number ds) old.links t.walk new.links
  walks =
      subst (λ (ns : List ℕ). Walks gives.disposes it (table_of it.role old) ns old.links t.walk new.links)
      (touched-same it (table_of it.role old) (t.stepped).numbers (each_number ds) (t.stepped).touched a.numbers)
      (t.stepped).walked

  pub told-ends : reached_told new ds ≡ outcomes_told it old ds
  told-ends = outcomes-are it (table_of it.role old) old new ds t.walk none walks a.deliveries

  pub told-all : NoneUntold (behind_reached new ds)
  told-all = none-left it (table_of it.role old) old new ds t.walk none walks a.deliveries

-- Dispositions that are sent leave the links alone
table-none : (by_role : Role) (table : Table) (s : LinksIn) → NoneUntold s → NoneUntold (with_table by_role table s)
table-none role.Receiver table s none = none
table-none role.Sender table s none = none

one-sent : (settled : Bool) (old : LinksIn) (d : Disposition) (numbers : List ℕ) (new : LinksIn)
    → SendsDispositionStep gives settled old d numbers new → NoneUntold old → NoneUntold new
one-sent false old d numbers new s none = subst (λ (x : LinksIn). NoneUntold x) (sym s.1) none
one-sent true old d numbers new s none =
    subst (λ (x : LinksIn). NoneUntold x) (sym s.1)
    (table-none (opposite d.role) (without (table_of (opposite d.role) old) numbers) old none)

pub each-sent : (old : LinksIn) (told : List Disposition) (new : LinksIn) → SendsEach gives old told new
    → NoneUntold old → NoneUntold new
each-sent old [] new same none = subst (λ (x : LinksIn). NoneUntold x) (sym same) none
each-sent old (d ∷ rest) new (mid, one, others) none =
    each-sent mid rest new others (one-sent d.settled old d one.settled mid one.stepped none)
