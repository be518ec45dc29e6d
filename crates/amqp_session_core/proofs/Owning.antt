-- Each link's own history.
use Rattle.std.proofs.Common.{◌≡◌, ℕ, zero, suc, List, [], ◌∷◌, ◌++◌, Bool, true, false, refl, sym, ◌∙◌, ap, subst, inl, inr, ◌<◌, length, arith, ◌==◌, if◌then◌else◌}
use Rattle.std.proofs.lemmas.List.{get_or-set_other, get_or-set_same}
use Rattle.std.proofs.lemmas.Bool.{eq-eqb}
use Rattle.std.proofs.lemmas.Bool.Decides.{eqb_tells}
use Rattle.std.specs.Prelude.{Option, Some, None, Result, Ok, Err, slice_index_or, slice_set}
use Rattle.amqp_session_types.specs.declared.handles.Handle.{Handle}
use Rattle.amqp_session_types.specs.declared.modes.Role.{Role}
use Rattle.amqp_session_types.specs.declared.modes.Role.TheVariants.{Sender, Receiver}
use Rattle.amqp_session_performatives.specs.declared.disposition.Disposition.{Disposition}
use Rattle.amqp_session_performatives.specs.declared.flow.Flow.{Flow}
use Rattle.amqp_session_performatives.specs.declared.link_flow.LinkFlow.{LinkFlow}
use Rattle.amqp_session_outgoing.specs.Table.{Table}
use Rattle.amqp_session_core.specs.declared.relay.RelayError.{RelayError}
use Rattle.amqp_session_core.specs.Echoes.{Reach, ReachesAt, Walks, opposite}
use Rattle.amqp_session_core.specs.Relay.{Relations, LinkAct, LinkStep, LinkHistory, Attaches, Flows, Transfers}
use Rattle.amqp_session_core.specs.Relay.{Disposes, Detaches, SendsBatch, SendsFrame, Changes as ChangesIt}
use Rattle.amqp_session_core.specs.State.{State, StepsAt, link_at}
use Rattle.amqp_session_core.specs.Steps.{Act, Stays, SendsBegin, TakesBegin, SendsEnd, TakesEnd, TakesAttach}
use Rattle.amqp_session_core.specs.Steps.{TakesFlow, SetsWindow, TakesTransfer, TakesDisposition, TakesDetach}
use Rattle.amqp_session_core.specs.Steps.{SendsBehind, SendsTransfers, SendsDisposition, TellsFlow, Allocates}
use Rattle.amqp_session_core.specs.Steps.{Deallocates, Reserves, Changes, Step, FlowAt, SendsDispositionStep}
use Rattle.amqp_session_core.specs.Steps.{with_table, told_to_link}
use Rattle.amqp_session_core.specs.Tables.{RouteTable}
use Rattle.amqp_session_core.specs.History.{History, at_link, flow_told, told_to, reached_by, own_in, own_of, frees, is_freed}

-- where a link stands, the list reaches
reaches-to : {R : Type 0} → (ls : List (Option R)) (i : ℕ) (r : R) → slice_index_or ls i None ≡ Some r → i < length ls
reaches-to [] i r e = absurd cc
reaches-to (l ∷ ls) zero r e = omega arith
reaches-to (l ∷ ls) (suc i) r e = let h : i < length ls = reaches-to ls i r e in omega arith

neither : (b c : Bool) → (if b then true else c) ≡ false → (b ≡ false) × (c ≡ false)
neither true c e = absurd cc
neither false c e = (refl, e)

module _ {R A T D : Type 0} (gives : Relations R A T D) where
  abbrev Takes : R → LinkAct R A T D → R → Type 0
  Takes = LinkStep gives

  abbrev Runs : R → List (LinkAct R A T D) → R → Type 0
  Runs = LinkHistory gives

  abbrev Does : State R → Act R A T D → State R → Type 0
  Does = Step gives

  -- a history of one link among the others
  pub record Own (link : ℕ) (old : R) (steps : List (LinkAct R A T D)) (links : List (Option R)) : Type 0 where
    pub new : R
    pub stands : slice_index_or links link None ≡ Some new
    pub run : Runs old steps new

  runs-on : (steps more : List (LinkAct R A T D)) (start mid end : R) → Runs start steps mid → Runs mid more end
      → Runs start (steps ++ more) end
  runs-on [] more start mid end run then_run = subst (λ (x : R). Runs x more end) run then_run
  runs-on (step ∷ steps) more start mid end run then_run = (run.0, run.1, runs-on steps more run.0 mid end run.2 then_run)

  -- nothing reaches the link
  spared : (link : ℕ) (r : R) (old new : List (Option R)) → new ≡ old → slice_index_or old link None ≡ Some r → Own link r [] new
  spared link r old new same has = record { new = r; stands = ap (λ (ls : List (Option R)). slice_index_or ls link None) same ∙ has; run = refl }

  -- a link at some handle takes a step: this one, or another
  set-at : (link handle : ℕ) (r x : R) (step : LinkAct R A T D) (old new : List (Option R))
      → new ≡ slice_set old handle (Some x) → (handle ≡ link → Takes r step x)
      → slice_index_or old link None ≡ Some r → Own link r (at_link link handle (step ∷ [])) new
  set-at link handle r x step old new becomes takes has =
      elim (eqb_tells handle link) [
        | inl p ↦
            subst (λ (b : Bool). Own link r (if b then step ∷ [] else []) new) (sym p.0) (record {
              new = x;
              stands =
                  ap (λ (ls : List (Option R)). slice_index_or ls link None) becomes
                  ∙ ap (λ (k : ℕ). slice_index_or (slice_set old k (Some x)) link None) p.1
                  ∙ get_or-set_same old link (Some x) None (reaches-to old link r has);
              run = (x, takes p.1, refl);
            })
        | inr p ↦
            subst (λ (b : Bool). Own link r (if b then step ∷ [] else []) new) (sym p.0) (record {
              new = r;
              stands =
                  ap (λ (ls : List (Option R)). slice_index_or ls link None) becomes
                  ∙ get_or-set_other old handle link (Some x) None (λ e. p.1 (sym e)) ∙ has;
              run = refl;
            })
      ]

  own-at : (link handle : ℕ) (r : R) (step : LinkAct R A T D) (old new : List (Option R))
      → StepsAt (λ before after. Takes before step after) old handle new
      → slice_index_or old link None ≡ Some r → Own link r (at_link link handle (step ∷ [])) new
  own-at link handle r step old new at has =
      set-at link handle r at.after step old new at.others
      (λ e.
      let same : Some at.before ≡ Some r = sym at.had ∙ ap (λ (k : ℕ). slice_index_or old k None) e ∙ has in
      let here : at.before ≡ r = cc in
      subst (λ (x : R). Takes x step at.after) here at.stepped)
      has

  -- the link stays as it is, and this is in its history
  at-rest : (link handle : ℕ) (r : R) (step : LinkAct R A T D) (links : List (Option R))
      → ((x : R) → x ≡ r → Takes r step x) → Own link r [] links → Own link r (at_link link handle (step ∷ [])) links
  at-rest link handle r step links stays own = by (handle == link)
    where
      by : (b : Bool) → Own link r (if b then step ∷ [] else []) links
      by true = record { new = own.new; stands = own.stands; run = (own.new, stays own.new own.run, refl) }
      by false = own

  own-flow : (link : ℕ) (r : R) (old : List (Option R)) (routes : RouteTable) (flow : Flow) (named : Option Handle) (told : Option (ℕ × Result (Option LinkFlow) RelayError)) (new : List (Option R))
      → flow.handle ≡ named → FlowAt gives old routes flow named told new
      → slice_index_or old link None ≡ Some r → Own link r (told_to link flow told) new
  own-flow link r old routes flow None None new is at has = spared link r old new at has
  own-flow link r old routes flow None (Some told) new is at has = absurd at
  own-flow link r old routes flow (Some handle) None new is at has = absurd at
  own-flow link r old routes flow (Some handle) (Some (h, said)) new is at has =
      subst (λ (named : Option Handle). Own link r (at_link link h (flow_told flow named said)) new) (sym is) (own-at link h r (Flows (told_to_link flow handle) said) old new at.1 has)

  own-reach : (link : ℕ) (r : R) (d : Disposition) (x : Reach) (here : Option R) (old new : List (Option R))
      → ReachesAt gives.disposes d old here x new → slice_index_or old link None ≡ Some r
      → Own link r (if x.live then at_link link x.handle (Disposes x.tag d.role d.settled d.state x.echo ∷ []) else []) new
  own-reach link r d x None old new at has =
      subst (λ (b : Bool). Own link r (if b then at_link link x.handle (Disposes x.tag d.role d.settled d.state x.echo ∷ []) else []) new) (sym at.0) (spared link r old new at.2 has)
  own-reach link r d x (Some l) old new at has =
      subst (λ (b : Bool). Own link r (if b then at_link link x.handle (Disposes x.tag d.role d.settled d.state x.echo ∷ []) else []) new) (sym at.0)
      (own-at link x.handle r (Disposes x.tag d.role d.settled d.state x.echo) old new at.1 has)

  own-walk : (link : ℕ) (r : R) (d : Disposition) (table : Table) (numbers : List ℕ) (old : List (Option R)) (walk : List Reach) (new : List (Option R))
      → Walks gives.disposes d table numbers old walk new → slice_index_or old link None ≡ Some r → Own link r (reached_by link d walk) new
  own-walk link r d table [] old [] new w has = spared link r old new w has
  own-walk link r d table [] old (x ∷ walk) new w has = absurd w
  own-walk link r d table (n ∷ ns) old [] new w has = absurd w
  own-walk link r d table (n ∷ ns) old (x ∷ walk) new w has =
      let one = own-reach link r d x (slice_index_or old x.handle None) old w.0 w.3 has in
      let rest = own-walk link one.new d table ns w.0 walk new w.4 one.stands in
      record { new = rest.new; stands = rest.stands; run = runs-on _ _ r one.new rest.new one.run rest.run }

  still : (link : ℕ) (r : R) (old new s : State R) → new ≡ s → s.links ≡ old.links → link_at old link ≡ Some r → Own link r [] new.links
  still link r old new s is same has = spared link r old.links new.links (ap (λ (x : State R). x.links) is ∙ same) has

  allotted : (link handle : ℕ) (r x : R) (old new : State R) → link_at old handle ≡ None → ((other : ℕ) → link_at new other ≡ (if other == handle then Some x else link_at old other))
      → link_at old link ≡ Some r → Own link r [] new.links
  allotted link handle r x old new vacant becomes has =
      elim (eqb_tells link handle) [
        | inl p ↦ absurd (let e : Some r ≡ None = sym has ∙ ap (link_at old) p.1 ∙ vacant in cc)
        | inr p ↦ record { new = r; stands = becomes link ∙ ap (λ (b : Bool). if b then Some x else link_at old link) p.0 ∙ has; run = refl }
      ]

  kept : (link handle : ℕ) (r : R) (old new : State R) → ((other : ℕ) → link_at new other ≡ (if other == handle then None else link_at old other))
      → (handle == link) ≡ false → link_at old link ≡ Some r → Own link r [] new.links
  kept link handle r old new becomes apart has =
      elim (eqb_tells link handle) [
        | inl p ↦ absurd (let e : (handle == link) ≡ true = eq-eqb handle link (sym p.1) in cc)
        | inr p ↦ record { new = r; stands = becomes link ∙ ap (λ (b : Bool). if b then None else link_at old link) p.0 ∙ has; run = refl }
      ]

  table-kept : (role : Role) (table : Table) (s : State R) → (with_table role table s).links ≡ s.links
  table-kept Sender table s = refl
  table-kept Receiver table s = refl

  own-sent : (link : ℕ) (r : R) (settled : Bool) (old : State R) (d : Disposition) (numbers : List ℕ) (new : State R)
      → SendsDispositionStep gives settled old d numbers new → link_at old link ≡ Some r → Own link r [] new.links
  own-sent link r false old d numbers new s has = still link r old new old s.1 refl has
  own-sent link r true old d numbers new s has = still link r old new _ s.1 (table-kept (opposite d.role) _ old) has

  own-step : (link : ℕ) (r : R) (step : Act R A T D) (old new : State R) → Does old step new → frees link step ≡ false
      → link_at old link ≡ Some r → Own link r (own_in link step) new.links
  own-step link r Stays old new s f has = still link r old new old s refl has
  own-step link r (SendsBegin frame) old new s f has = still link r old new _ s.2 refl has
  own-step link r (TakesBegin channel begin base left frames) old new s f has = still link r old new _ s.5 refl has
  own-step link r (SendsEnd error frame) old new s f has = still link r old new _ s.2 refl has
  own-step link r TakesEnd old new s f has = still link r old new _ s.1 refl has
  own-step link r (TakesAttach handle attach (Ok told)) old new s f has = own-at link handle r (Attaches attach (Ok told)) old.links new.links s.1 has
  own-step link r (TakesAttach handle attach (Err e)) old new s f has = own-at link handle r (Attaches attach (Err e)) old.links new.links s.1 has
  own-step link r (TakesFlow flow told reply base left frames) old new s f has = own-flow link r old.links old.routes flow flow.handle told new.links refl s.link has
  own-step link r (SetsWindow flow base) old new s f has = still link r old new _ s.2 refl has
  own-step link r (TakesTransfer handle transfer payload (Ok told) flow) old new s f has = own-at link handle r (Transfers transfer payload (Ok told)) old.links new.links s.1 has
  own-step link r (TakesTransfer handle transfer payload (Err e) flow) old new s f has = own-at link handle r (Transfers transfer payload (Err e)) old.links new.links s.1 has
  own-step link r (TakesDisposition d walk echoes) old new s f has = own-walk link r d _ s.numbers old.links walk new.links s.walked has
  own-step link r (TakesDetach handle detach (Ok told)) old new s f has = own-at link handle r (Detaches detach (Ok told)) old.links new.links s.1 has
  own-step link r (TakesDetach handle detach (Err e)) old new s f has = own-at link handle r (Detaches detach (Err e)) old.links new.links s.1 has
  own-step link r (SendsBehind handle frame left answer) old new s f has =
      at-rest link handle.0 r (SendsFrame frame) new.links (λ x same. same) (still link r old new _ s.2 refl has)
  own-step link r (SendsTransfers handle batch left frames) old new s f has =
      at-rest link handle.0 r (SendsBatch batch) new.links (λ x same. same) (still link r old new _ s.2 refl has)
  own-step link r (SendsDisposition d numbers) old new s f has =
      let own = own-sent link r d.settled old d numbers new s has in
      record { new = own.new; stands = own.stands; run = (own.new, own.run, refl) }
  own-step link r (TellsFlow frame) old new s f has = still link r old new _ s.1 refl has
  own-step link r (Allocates handle x None) old new s f has = allotted link handle r x old new s.1 s.3 has
  own-step link r (Allocates handle x (Some input)) old new s f has = allotted link handle r x old new s.2 s.4 has
  own-step link r (Deallocates handle) old new s f has = kept link handle r old new s.0 f has
  own-step link r (Reserves count) old new s f has = still link r old new _ s.1 refl has
  own-step link r (Changes handle before after) old new s f has =
      set-at link handle r after (ChangesIt before after) old.links new.links (ap (λ (x : State R). x.links) s.1)
      (λ e.
      let same : Some r ≡ Some before = sym has ∙ ap (link_at old) (sym e) ∙ s.0 in
      let here : r ≡ before = cc in
      (here, refl))
      has

  pub own-history : (link : ℕ) (r : R) (steps : List (Act R A T D)) (start end : State R)
      → History gives start steps end → is_freed link steps ≡ false → link_at start link ≡ Some r
      → Own link r (own_of link steps) end.links
  own-history link r [] start end run f has = still link r start end start run refl has
  own-history link r (step ∷ steps) start end run f has =
      let live = neither (frees link step) (is_freed link steps) f in
      let one = own-step link r step start run.0 run.1 live.0 has in
      let rest = own-history link one.new steps run.0 end run.2 live.1 one.stands in
      record { new = rest.new; stands = rest.stands; run = runs-on (own_in link step) (own_of link steps) r one.new rest.new one.run rest.run }
