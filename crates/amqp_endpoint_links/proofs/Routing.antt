-- Which handles of the peer's lead to links, step by step.
use Rattle.std.proofs.Common.{◌≡◌, ◌≢◌, ◌⊎◌, inl, inr, ℕ, zero, suc, ◌<◌, length, arith, List, [], ◌∷◌, Bool, true, false, cond, Option, Some, None, IsSome, Ok, Err, refl, sym, ap, subst, ◌∙◌, ◌==◌, if◌then◌else◌}
use Rattle.std.proofs.lemmas.Bool.{eq-eqb}
use Rattle.std.proofs.lemmas.Bool.Decides.{eqb_tells}
use Rattle.std.proofs.lemmas.List.{get_or-set_same}
use Rattle.std.specs.Prelude.{slice_index_or}
use Rattle.std.specs.FinMap as map
use Rattle.std.specs.FinMap.{get-empty}
use Rattle.std.specs.Ordering.{nat_cmp}
use Rattle.amqp_session_types.specs.declared.modes.Role.{Role}
use Rattle.amqp_session_types.specs.declared.modes.Role.TheVariants.{Sender, Receiver}
use Rattle.amqp_session_performatives.specs.declared.disposition.Disposition.{Disposition}
use Rattle.amqp_session_outgoing.specs.Table.{Table}
use Rattle.amqp_session_core.specs.Echoes.{opposite}
use Rattle.amqp_session_core.specs.History.{History, frees}
use Rattle.amqp_session_core.specs.Relay.{Relations}
use Rattle.amqp_session_core.specs.State.{State, StepsAt, link_at}
use Rattle.amqp_session_core.specs.Steps.{Act, Stays, SendsBegin, TakesBegin, SendsEnd, TakesEnd, TakesAttach}
use Rattle.amqp_session_core.specs.Steps.{TakesFlow, SetsWindow, TakesTransfer, TakesDisposition, TakesDetach}
use Rattle.amqp_session_core.specs.Steps.{SendsBehind, SendsTransfers, SendsDisposition, TellsFlow, Allocates}
use Rattle.amqp_session_core.specs.Steps.{Deallocates, Reserves, Changes, Step, SendsDispositionStep, with_table}
use Rattle.amqp_session_core.specs.Tables.{RouteTable, unless_to}
use Rattle.amqp_session_core.proofs.Owning.{own-history}
use Rattle.amqp_session_types.proofs.Tables.{get-put, get-put-other, get-take}
use Rattle.amqp_endpoint_links.specs.History.{routed_in}

-- where a link stands, the list reaches
reaches-to : {R : Type 0} → (ls : List (Option R)) (i : ℕ) (r : R) → slice_index_or ls i None ≡ Some r → i < length ls
reaches-to [] i r e = absurd cc
reaches-to (l ∷ ls) zero r e = omega arith
reaches-to (l ∷ ls) (suc i) r e = let h : i < length ls = reaches-to ls i r e in omega arith

some-is : {X : Type 0} (o : Option X) (x : X) → o ≡ Some x → IsSome o
some-is o x e = subst (λ (p : Option _). IsSome p) (sym e) refl

apart-eqb : (x y : ℕ) → x ≢ y → (x == y) ≡ false
apart-eqb x y ne = by (eqb_tells x y)
  where
    by : (((x == y) ≡ true) × (x ≡ y)) ⊎ (((x == y) ≡ false) × (x ≢ y)) → (x == y) ≡ false
    by (inl p) = absurd (ne p.1)
    by (inr p) = p.0

module _ {R : Type 0} where
  table-kept : (role : Role) (table : Table) (s : State R) → (with_table role table s).routes ≡ s.routes
  table-kept Sender table s = refl
  table-kept Receiver table s = refl

  set-there : (step : R → R → Type 0) (old : List (Option R)) (handle : ℕ) (new : List (Option R)) → StepsAt step old handle new → IsSome (slice_index_or new handle None)
  set-there step old handle new at =
      some-is (slice_index_or new handle None) at.after
      (ap (λ (ls : List (Option R)). slice_index_or ls handle None) at.others ∙ get_or-set_same old handle (Some at.after) None (reaches-to old handle at.before at.had))

  given-there : (handle : ℕ) (link : R) (old new : State R) → ((other : ℕ) → link_at new other ≡ (if other == handle then Some link else link_at old other)) → IsSome (link_at new handle)
  given-there handle link old new becomes =
      some-is (link_at new handle) link (becomes handle ∙ ap (λ (b : Bool). if b then Some link else link_at old handle) (eq-eqb handle handle refl))

module _ {R A T D : Type 0} where
  -- what a step changes of the routes
  pub data Change (old new : State R) (step : Act R A T D) : Type 0 where
    Same : (same : (q : ℕ) → map.get new.routes q ≡ map.get old.routes q) (live : (h : ℕ) → frees h step ≡ false) → Change old new step
    Puts : (key handle : ℕ) (told : routed_in step ≡ Some key) (put : new.routes ≡ map.insert old.routes key handle)
        (there : IsSome (link_at new handle)) (live : (h : ℕ) → frees h step ≡ false) → Change old new step
    Takes : (key : ℕ) (taken : new.routes ≡ map.remove old.routes key) (live : (h : ℕ) → frees h step ≡ false) → Change old new step
    Frees : (handle : ℕ) (left : (q : ℕ) → map.get new.routes q ≡ unless_to handle (map.get old.routes q))
        (freed : (h : ℕ) → frees h step ≡ (handle == h)) → Change old new step

  same-routes : (old new s : State R) (step : Act R A T D) → new ≡ s → s.routes ≡ old.routes
      → ((h : ℕ) → frees h step ≡ false) → Change old new step
  same-routes old new s step is kept live =
      Same (λ q. ap (λ (x : State R). map.get x.routes q) is ∙ ap (λ (t : RouteTable). map.get t q) kept) live

module _ {R A T D : Type 0} (gives : Relations R A T D) where
  abbrev Does : State R → Act R A T D → State R → Type 0
  Does = Step gives

  sent-change : (settled : Bool) (old new : State R) (d : Disposition) (numbers : List ℕ) → SendsDispositionStep gives settled old d numbers new
      → Change {R = R} {A = A} {T = T} {D = D} old new (SendsDisposition d numbers)
  sent-change false old new d numbers s = same-routes old new old (SendsDisposition d numbers) s.1 refl (λ h. refl)
  sent-change true old new d numbers s = same-routes old new _ (SendsDisposition d numbers) s.1 (table-kept (opposite d.role) _ old) (λ h. refl)

  pub change : (step : Act R A T D) (old new : State R) → Does old step new → Change old new step
  change Stays old new s = same-routes old new old Stays s refl (λ h. refl)
  change (SendsBegin frame) old new s = same-routes old new _ (SendsBegin frame) s.2 refl (λ h. refl)
  change (TakesBegin channel begin base left frames) old new s = same-routes old new _ (TakesBegin channel begin base left frames) s.5 refl (λ h. refl)
  change (SendsEnd error frame) old new s = same-routes old new _ (SendsEnd error frame) s.2 refl (λ h. refl)
  change TakesEnd old new s = same-routes old new _ TakesEnd s.1 refl (λ h. refl)
  change (TakesAttach handle attach (Ok told)) old new s =
      Puts (attach.handle).0 handle refl (ap (λ (x : State R). x.routes) s.2) (set-there _ old.links handle new.links s.1) (λ h. refl)
  change (TakesAttach handle attach (Err e)) old new s = same-routes old new _ (TakesAttach handle attach (Err e)) s.2 refl (λ h. refl)
  change (TakesFlow flow told reply base left frames) old new s = same-routes old new _ (TakesFlow flow told reply base left frames) s.becomes refl (λ h. refl)
  change (SetsWindow flow base) old new s = same-routes old new _ (SetsWindow flow base) s.2 refl (λ h. refl)
  change (TakesTransfer handle transfer payload (Ok told) flow) old new s = same-routes old new _ (TakesTransfer handle transfer payload (Ok told) flow) s.3 refl (λ h. refl)
  change (TakesTransfer handle transfer payload (Err e) flow) old new s = same-routes old new _ (TakesTransfer handle transfer payload (Err e) flow) s.3 refl (λ h. refl)
  change (TakesDisposition d walk echoes) old new s =
      same-routes old new _ (TakesDisposition d walk echoes) s.becomes (table-kept d.role _ (record old { links = new.links })) (λ h. refl)
  change (TakesDetach handle detach (Ok told)) old new s = Takes (detach.handle).0 (ap (λ (x : State R). x.routes) s.2) (λ h. refl)
  change (TakesDetach handle detach (Err e)) old new s = same-routes old new _ (TakesDetach handle detach (Err e)) s.2 refl (λ h. refl)
  change (SendsBehind handle frame left answer) old new s = same-routes old new _ (SendsBehind handle frame left answer) s.2 refl (λ h. refl)
  change (SendsTransfers handle batch left frames) old new s = same-routes old new _ (SendsTransfers handle batch left frames) s.2 refl (λ h. refl)
  change (SendsDisposition d numbers) old new s = sent-change d.settled old new d numbers s
  change (TellsFlow frame) old new s = same-routes old new _ (TellsFlow frame) s.1 refl (λ h. refl)
  change (Allocates handle link None) old new s = same-routes old new _ (Allocates handle link None) s.4 refl (λ h. refl)
  change (Allocates handle link (Some input)) old new s =
      Puts input handle refl (ap (λ (x : State R). x.routes) s.5) (given-there handle link old new s.4) (λ h. refl)
  change (Deallocates handle) old new s = Frees handle s.1 (λ h. refl)
  change (Reserves count) old new s = same-routes old new _ (Reserves count) s.1 refl (λ h. refl)
  change (Changes handle before after) old new s = same-routes old new _ (Changes handle before after) s.1 refl (λ h. refl)

  -- each handle of the peer's that leads somewhere leads to a link
  pub record Routed (s : State R) : Type 0 where
    pub each : (input h : ℕ) → map.get s.routes input ≡ Some h → IsSome (link_at s h)

  pub none-routed : (s : State R) → s.routes ≡ map.empty → Routed s
  none-routed s none =
      record {
        each = λ input h there.
            absurd (let e : Some h ≡ None = sym there ∙ ap (λ (t : RouteTable). map.get t input) none ∙ get-empty nat_cmp input in cc);
      }

  -- a link stays until its handle is taken back
  stays-live : (step : Act R A T D) (old new : State R) (h : ℕ) → Does old step new → frees h step ≡ false
      → IsSome (link_at old h) → IsSome (link_at new h)
  stays-live step old new h does live there = by (link_at old h) refl there
    where
      by : (o : Option R) → link_at old h ≡ o → IsSome o → IsSome (link_at new h)
      by None e none = absurd cc
      by (Some r) e some =
          let own = own-history gives h r (step ∷ []) old new (new, does, refl) (ap (λ (b : Bool). if b then true else false) live) e in
          some-is (link_at new h) own.new own.stands

  pub routed-step : (step : Act R A T D) (old new : State R) → Does old step new → Routed old → Routed new
  routed-step step old new does routed = record { each = λ input h there. by input h there (change step old new does) }
    where
      by : (input h : ℕ) → map.get new.routes input ≡ Some h → Change old new step → IsSome (link_at new h)
      by input h there (Same same live) = stays-live step old new h does (live h) (routed.each input h (sym (same input) ∙ there))
      by input h there (Puts key handle told put is live) = at (eqb_tells input key)
        where
          is-got : map.get new.routes input ≡ cond (input == key) (Some handle) (map.get old.routes input)
          is-got = ap (λ (t : RouteTable). map.get t input) put ∙ get-put old.routes key input handle

          at : (((input == key) ≡ true) × (input ≡ key)) ⊎ (((input == key) ≡ false) × (input ≢ key)) → IsSome (link_at new h)
          at (inl p) =
              let got : Some handle ≡ Some h = sym (is-got ∙ ap (λ (b : Bool). cond b (Some handle) (map.get old.routes input)) p.0) ∙ there in
              let same : handle ≡ h = cc in
              subst (λ (k : ℕ). IsSome (link_at new k)) same is
          at (inr p) =
              stays-live step old new h does (live h)
              (routed.each input h (sym (is-got ∙ ap (λ (b : Bool). cond b (Some handle) (map.get old.routes input)) p.0) ∙ there))
      by input h there (Takes key taken live) = at (input == key) (ap (λ (t : RouteTable). map.get t input) taken ∙ get-take old.routes key input)
        where
          at : (b : Bool) → map.get new.routes input ≡ cond b None (map.get old.routes input) → IsSome (link_at new h)
          at true e = absurd (let none : None ≡ Some h = sym e ∙ there in cc)
          at false e = stays-live step old new h does (live h) (routed.each input h (sym e ∙ there))
      by input h there (Frees handle left freed) = at (map.get old.routes input) refl (left input)
        where
          at : (o : Option ℕ) → map.get old.routes input ≡ o → map.get new.routes input ≡ unless_to handle o → IsSome (link_at new h)
          at None was e = absurd (let none : None ≡ Some h = sym e ∙ there in cc)
          at (Some to) was e = here (to == handle) refl e
            where
              here : (b : Bool) → (to == handle) ≡ b → map.get new.routes input ≡ (if b then None else Some to) → IsSome (link_at new h)
              here true is g = absurd (let none : None ≡ Some h = sym g ∙ there in cc)
              here false is g =
                  let got : Some to ≡ Some h = sym g ∙ there in
                  let same : to ≡ h = cc in
                  stays-live step old new h does
                  (freed h ∙ apart-eqb handle h (λ e. absurd (let yes : (to == handle) ≡ true = eq-eqb to handle (same ∙ sym e) in cc)))
                  (routed.each input h (was ∙ got))

  pub routed-on : (steps : List (Act R A T D)) (start end : State R) → History gives start steps end → Routed start
      → Routed end
  routed-on [] start end run routed = subst (λ (s : State R). Routed s) (sym run) routed
  routed-on (step ∷ steps) start end run routed = routed-on steps run.0 end run.2 (routed-step step start run.0 run.1 routed)

  -- a handle that leads nowhere does so until a step has it lead to a link
  pub none-stays : (step : Act R A T D) (old new : State R) (input : ℕ) → Does old step new
      → routed_in step ≢ Some input → map.get old.routes input ≡ None → map.get new.routes input ≡ None
  none-stays step old new input does other none = by (change step old new does)
    where
      by : Change old new step → map.get new.routes input ≡ None
      by (Same same live) = same input ∙ none
      by (Puts key handle told put is live) =
          ap (λ (t : RouteTable). map.get t input) put
          ∙ get-put-other old.routes key input handle (λ e. other (told ∙ ap (λ (k : ℕ). Some k) (sym e)))
          ∙ none
      by (Takes key taken live) = ap (λ (t : RouteTable). map.get t input) taken ∙ get-take old.routes key input ∙ at (input == key)
        where
          at : (b : Bool) → cond b None (map.get old.routes input) ≡ None
          at true = refl
          at false = none
      by (Frees handle left freed) = left input ∙ ap (λ (o : Option ℕ). unless_to handle o) none
