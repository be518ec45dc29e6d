-- The numbers of a session's links stay by what is done in it, but where a link comes to stand in it, or leaves it.
use Rattle.std.proofs.Common.{◌≡◌, inl, inr, ◌==◌, ℕ, zero, suc, Bool, true, false, List, [], ◌∷◌, Option, Some, None}
use Rattle.std.proofs.Common.{Result, Ok, Err, refl, sym, ap, subst, ◌∙◌, if◌then◌else◌}
use Rattle.std.specs.Prelude.{slice_index_or, slice_set}
use Rattle.std.proofs.lemmas.Option.{none-some}
use Rattle.amqp_session_types.specs.declared.handles.Handle.{Handle}
use Rattle.amqp_session_types.specs.declared.modes.Role.{Role}
use Rattle.amqp_session_types.specs.declared.modes.Role.TheVariants.{Sender, Receiver}
use Rattle.amqp_session_types.specs.declared.refusals.SessionError.{SessionError}
use Rattle.amqp_session_performatives.specs.declared.disposition.Disposition.{Disposition}
use Rattle.amqp_session_performatives.specs.declared.flow.Flow.{Flow}
use Rattle.amqp_session_performatives.specs.declared.link_flow.LinkFlow.{LinkFlow}
use Rattle.amqp_session_performatives.specs.declared.session_frame.SessionFrame.{SessionFrame}
use Rattle.amqp_session_core.specs.declared.relay.RelayError.{RelayError}
use Rattle.amqp_session_core.specs.Echoes.{Reach, ReachesAt, Walks, opposite}
use Rattle.amqp_session_core.specs.History.{History}
use Rattle.amqp_session_core.specs.Relay.{Relations}
use Rattle.amqp_session_core.specs.State.{State, StepsAt, link_at}
use Rattle.amqp_session_core.specs.Steps.{Allocates, Changes, Deallocates, FlowAt, Reserves, SendsBegin, SendsBehind}
use Rattle.amqp_session_core.specs.Steps.{SendsDisposition, SendsDispositionStep, SendsEnd, SendsTransfers, SetsWindow}
use Rattle.amqp_session_core.specs.Steps.{Stays, Act, Step, TakesAttach, TakesBegin, TakesDetach, TakesDisposition}
use Rattle.amqp_session_core.specs.Steps.{TakesEnd, TakesFlow, TakesTransfer, TellsFlow, told_to_link, with_table}
use Rattle.amqp_session_core.specs.Tables.{RouteTable}
use Rattle.amqp_endpoint_links.specs.AskedSession.{session_part}
use Rattle.amqp_endpoint_links.specs.Hearing.{Hears}
use Rattle.amqp_endpoint_links.specs.History.{AreHearing, AskingHistory, AskingAct, AtMostOne, IsAttach}
use Rattle.amqp_endpoint_links.specs.History.{IsDetach, IsDoneBy, IsFlow, IsHearing, IsTaken}
use Rattle.amqp_endpoint_links.specs.Numbering.{numbered}
use Rattle.amqp_endpoint_links.specs.declared.asking.AskingSession.{AskingSession}
use Rattle.amqp_endpoint_links.specs.declared.hearing.LinkPerformative.{LinkPerformative}
use Rattle.amqp_endpoint_links.specs.declared.hearing.LinkPerformative.TheVariants.{Attach, Detach, Transfer}
use Rattle.amqp_endpoint_links.specs.declared.hearing.LinkPerformative.TheVariants.{Disposition as DispositionSaid}
use Rattle.amqp_endpoint_links.specs.declared.hearing.LinkPerformative.TheVariants.{Flow as FlowSaid}
use Rattle.amqp_endpoint_links.specs.declared.hearing.PerformativeTaken.{PerformativeTaken}
use Rattle.amqp_endpoint_links.specs.declared.numbered.Numbered.{Numbered}
use Rattle.amqp_endpoint_links.proofs.Heard.{heard}
use Rattle.amqp_endpoint_links.proofs.Projecting.{step-within}
use Rattle.amqp_endpoint_laws.specs.Held.{number_in, number_of}

module _ {R : Type 0} where
  -- each handle has the number that it had
  abbrev pub KeepNumbers : State (Numbered R) → State (Numbered R) → Type 0
  KeepNumbers old new = (handle : ℕ) → number_in new handle ≡ number_in old handle

  abbrev KeepIn : List (Option (Numbered R)) → List (Option (Numbered R)) → Type 0
  KeepIn old new =
      (handle : ℕ) → number_of (slice_index_or new handle None) ≡ number_of (slice_index_or old handle None)

  pub kept-on : (old mid new : State (Numbered R)) → KeepNumbers old mid → KeepNumbers mid new → KeepNumbers old new
  kept-on old mid new first later handle = later handle ∙ first handle

  pub same-kept : (old new : State (Numbered R)) → new ≡ old → KeepNumbers old new
  same-kept old new same handle = ap (λ (s : State (Numbered R)). number_in s handle) same

  in-same : (old new : List (Option (Numbered R))) → new ≡ old → KeepIn old new
  in-same old new same handle =
      ap (λ (ls : List (Option (Numbered R))). number_of (slice_index_or ls handle None)) same

  still : (old new s : State (Numbered R)) → new ≡ s → s.links ≡ old.links → KeepNumbers old new
  still old new s is same = in-same old.links new.links (ap (λ (x : State (Numbered R)). x.links) is ∙ same)

  -- a link is put in the place of one that has its number
  put-kept : (links : List (Option (Numbered R))) (at : ℕ) (before after : Numbered R)
      → slice_index_or links at None ≡ Some before → after.number ≡ before.number
      → KeepIn links (slice_set links at (Some after))
  put-kept [] at before after had same handle = absurd (none-some before had)
  put-kept (link ∷ links) zero before after had same zero = ap Some same ∙ sym (ap number_of had)
  put-kept (link ∷ links) zero before after had same (suc handle) = refl
  put-kept (link ∷ links) (suc at) before after had same zero = refl
  put-kept (link ∷ links) (suc at) before after had same (suc handle) =
      put-kept links at before after had same handle

  stepped-kept : (step : Numbered R → Numbered R → Type 0)
      → ((before after : Numbered R) → step before after → after.number ≡ before.number)
      → (old : List (Option (Numbered R))) (at : ℕ) (new : List (Option (Numbered R))) → StepsAt step old at new
      → KeepIn old new
  stepped-kept step keeps old at new s handle =
      ap (λ (ls : List (Option (Numbered R))). number_of (slice_index_or ls handle None)) s.others
      ∙ put-kept old at s.before s.after s.had (keeps s.before s.after s.stepped) handle

  number-if : (b : Bool) (x y : Option (Numbered R))
      → number_of (if b then x else y) ≡ (if b then number_of x else number_of y)
  number-if true x y = refl
  number-if false x y = refl

  -- a link gets a handle, which none had
  pub record Placed (handle number : ℕ) (old new : State (Numbered R)) : Type 0 where
    pub none : number_in old handle ≡ None
    pub here :
        (other : ℕ) → number_in new other ≡ (if other == handle then Some number else number_in old other)

  table-same : (role : Role) (table : _) (s : State (Numbered R)) → (with_table role table s).links ≡ s.links
  table-same Sender table s = refl
  table-same Receiver table s = refl

module _ {R A T D : Type 0} where
  -- a step that leaves each link under its handle, with its number
  abbrev pub KeepsNumbers : Act (Numbered R) A T D → Type 0
  KeepsNumbers (Allocates handle link input) = ⊥
  KeepsNumbers (Deallocates handle) = ⊥
  KeepsNumbers (Changes handle before after) = after.number ≡ before.number
  KeepsNumbers step = Unit {0}

  abbrev pub AllKeepNumbers : List (Act (Numbered R) A T D) → Type 0
  AllKeepNumbers [] = Unit {0}
  AllKeepNumbers (step ∷ steps) = KeepsNumbers step × AllKeepNumbers steps

module _ {R A T D : Type 0} (does : Relations R A T D) where
  abbrev gives : Relations (Numbered R) A T D
  gives = numbered does

  flow-kept : (old : List (Option (Numbered R))) (routes : RouteTable) (flow : Flow) (named : Option Handle)
      (told : Option (ℕ × Result (Option LinkFlow) RelayError)) (new : List (Option (Numbered R)))
      → FlowAt gives old routes flow named told new → KeepIn old new
  flow-kept old routes flow None None new is = in-same old new is
  flow-kept old routes flow None (Some told) new at = absurd at
  flow-kept old routes flow (Some handle) None new at = absurd at
  flow-kept old routes flow (Some handle) (Some (h, said)) new at =
      stepped-kept (λ before after. gives.flows before (told_to_link flow handle) said after) (λ before after s. s.1)
      old h new at.1

  reach-kept : (d : Disposition) (x : Reach) (here : Option (Numbered R)) (old new : List (Option (Numbered R)))
      → ReachesAt gives.disposes d old here x new → KeepIn old new
  reach-kept d x None old new at = in-same old new at.2
  reach-kept d x (Some link) old new at =
      stepped-kept (λ before after. gives.disposes before x.tag d.role d.settled d.state x.echo after)
      (λ before after s. s.1) old x.handle new at.1

  walk-kept : (d : Disposition) (table : _) (numbers : List ℕ) (old : List (Option (Numbered R)))
      (walk : List Reach) (new : List (Option (Numbered R))) → Walks gives.disposes d table numbers old walk new
      → KeepIn old new
  walk-kept d table [] old [] new w = in-same old new w
  walk-kept d table [] old (x ∷ walk) new w = absurd w
  walk-kept d table (n ∷ ns) old [] new w = absurd w
  walk-kept d table (n ∷ ns) old (x ∷ walk) new w =
      let one : KeepIn old w.0 = reach-kept d x (slice_index_or old x.handle None) old w.0 w.3 in
      let rest : KeepIn w.0 new = walk-kept d table ns w.0 walk new w.4 in
      λ handle. rest handle ∙ one handle

  sent-kept : (settled : Bool) (old : State (Numbered R)) (d : Disposition) (numbers : List ℕ)
      (new : State (Numbered R)) → SendsDispositionStep gives settled old d numbers new → KeepNumbers old new
  sent-kept false old d numbers new s = same-kept old new s.1
  sent-kept true old d numbers new s = still old new _ s.1 (table-same (opposite d.role) _ old)

  pub step-kept : (step : Act (Numbered R) A T D) (old new : State (Numbered R)) → Step gives old step new
      → KeepsNumbers step → KeepNumbers old new
  step-kept Stays old new s k = same-kept old new s
  step-kept (SendsBegin frame) old new s k = still old new _ s.2 refl
  step-kept (TakesBegin channel begin base left frames) old new s k = still old new _ s.5 refl
  step-kept (SendsEnd error frame) old new s k = still old new _ s.2 refl
  step-kept TakesEnd old new s k = still old new _ s.1 refl
  step-kept (TakesAttach handle attach (Ok told)) old new s k =
      stepped-kept (λ before after. gives.attaches before attach (Ok told) after) (λ before after s. s.1) old.links
      handle new.links s.1
  step-kept (TakesAttach handle attach (Err e)) old new s k =
      stepped-kept (λ before after. gives.attaches before attach (Err e) after) (λ before after s. s.1) old.links
      handle new.links s.1
  step-kept (TakesFlow flow told reply base left frames) old new s k =
      flow-kept old.links old.routes flow flow.handle told new.links s.link
  step-kept (SetsWindow flow base) old new s k = still old new _ s.2 refl
  step-kept (TakesTransfer handle transfer payload (Ok told) flow) old new s k =
      stepped-kept (λ before after. gives.transfers before transfer payload (Ok told) after) (λ before after s. s.1)
      old.links handle new.links s.1
  step-kept (TakesTransfer handle transfer payload (Err e) flow) old new s k =
      stepped-kept (λ before after. gives.transfers before transfer payload (Err e) after) (λ before after s. s.1)
      old.links handle new.links s.1
  step-kept (TakesDisposition d walk echoes) old new s k =
      walk-kept d _ s.numbers old.links walk new.links s.walked
  step-kept (TakesDetach handle detach (Ok told)) old new s k =
      stepped-kept (λ before after. gives.detaches before detach (Ok told) after) (λ before after s. s.1) old.links
      handle new.links s.1
  step-kept (TakesDetach handle detach (Err e)) old new s k =
      stepped-kept (λ before after. gives.detaches before detach (Err e) after) (λ before after s. s.1) old.links
      handle new.links s.1
  step-kept (SendsBehind handle frame left answer) old new s k = still old new _ s.2 refl
  step-kept (SendsTransfers handle batch left frames) old new s k = still old new _ s.2 refl
  step-kept (SendsDisposition d numbers) old new s k = sent-kept d.settled old d numbers new s
  step-kept (TellsFlow frame) old new s k = still old new _ s.1 refl
  step-kept (Allocates handle link input) old new s k = absurd k
  step-kept (Deallocates handle) old new s k = absurd k
  step-kept (Reserves count) old new s k = still old new _ s.1 refl
  step-kept (Changes handle before after) old new s k =
      λ other.
      ap (λ (x : State (Numbered R)). number_in x other) s.1 ∙ put-kept old.links handle before after s.0 k other

  pub history-kept : (steps : List (Act (Numbered R) A T D)) (old new : State (Numbered R))
      → History gives old steps new → AllKeepNumbers steps → KeepNumbers old new
  history-kept [] old new same k = same-kept old new same
  history-kept (step ∷ steps) old new (mid, one, rest) k =
      kept-on old mid new (step-kept step old mid one k.0) (history-kept steps mid new rest k.1)

  -- a link leaves its handle
  pub freed-number : (handle : ℕ) (old new : State (Numbered R)) → Step gives old (Deallocates handle) new
      → (other : ℕ) → number_in new other ≡ (if other == handle then None else number_in old other)
  freed-number handle old new s other = ap number_of (s.0 other) ∙ number-if (other == handle) None (link_at old other)

  pub placed : (handle : ℕ) (link : Numbered R) (input : Option ℕ) (old new : State (Numbered R))
      → Step gives old (Allocates handle link input) new → Placed handle link.number old new
  placed handle link None old new s =
      record {
        none = ap number_of s.1;
        here = λ other. ap number_of (s.3 other) ∙ number-if (other == handle) (Some link) (link_at old other);
      }
  placed handle link (Some input) old new s =
      record {
        none = ap number_of s.2;
        here = λ other. ap number_of (s.4 other) ∙ number-if (other == handle) (Some link) (link_at old other);
      }

  -- what a session hears leaves each link under its handle
  at-most-keeps : (is : Act (Numbered R) A T D → Type 0)
      → ((step : Act (Numbered R) A T D) → is step → KeepsNumbers step)
      → (done : List (Act (Numbered R) A T D)) → AtMostOne is done → AllKeepNumbers done
  at-most-keeps is keeps [] m = tt
  at-most-keeps is keeps (step ∷ []) m = (keeps step m, tt)
  at-most-keeps is keeps (step ∷ next ∷ steps) m = absurd m

  taken-keeps : (flow : Flow) (step : Act (Numbered R) A T D) → IsTaken flow step → KeepsNumbers step
  taken-keeps flow step t = subst (λ (s : Act (Numbered R) A T D). KeepsNumbers s) (sym t.is) tt

  flow-keeps : (flow : Flow) (step : Act (Numbered R) A T D) → IsFlow flow step → KeepsNumbers step
  flow-keeps flow step (inl t) = taken-keeps flow step t
  flow-keeps flow step (inr (inl t)) = taken-keeps (session_part flow) step t
  flow-keeps flow step (inr (inr (base, is))) =
      subst (λ (s : Act (Numbered R) A T D). KeepsNumbers s) (sym is) tt

  hearing-keeps : (said : LinkPerformative) (step : AskingAct (Numbered R) A T D)
      (done : List (Act (Numbered R) A T D)) → IsHearing said step → IsDoneBy step done → AllKeepNumbers done
  hearing-keeps (Attach attach named) step done (result, is) d =
      at-most-keeps (IsAttach attach named)
      (λ s a. subst (λ (x : Act (Numbered R) A T D). KeepsNumbers x) (sym a.is) tt) done
      (subst (λ (x : AskingAct (Numbered R) A T D). IsDoneBy x done) is d)
  hearing-keeps (FlowSaid flow) step done (out, result, out_new, is) d =
      at-most-keeps (IsFlow flow) (flow-keeps flow) done
      (subst (λ (x : AskingAct (Numbered R) A T D). IsDoneBy x done) is d)
  hearing-keeps (Transfer transfer payload) step done (handle, told, due, is) d =
      let one : done ≡ TakesTransfer handle transfer payload told due ∷ [] =
      subst (λ (x : AskingAct (Numbered R) A T D). IsDoneBy x done) is d in
      subst (λ (ds : List (Act (Numbered R) A T D)). AllKeepNumbers ds) (sym one) (tt, tt)
  hearing-keeps (DispositionSaid disposition) step done (walk, echoes, is) d =
      let one : done ≡ TakesDisposition disposition walk echoes ∷ [] =
      subst (λ (x : AskingAct (Numbered R) A T D). IsDoneBy x done) is d in
      subst (λ (ds : List (Act (Numbered R) A T D)). AllKeepNumbers ds) (sym one) (tt, tt)
  hearing-keeps (Detach detach) step done (result, is) d =
      at-most-keeps (IsDetach detach)
      (λ s a. subst (λ (x : Act (Numbered R) A T D). KeepsNumbers x) (sym a.is) tt) done
      (subst (λ (x : AskingAct (Numbered R) A T D). IsDoneBy x done) is d)

  called-kept : (said : LinkPerformative) (steps : List (AskingAct (Numbered R) A T D))
      (old new : AskingSession (Numbered R)) → AreHearing said steps → AskingHistory gives old steps new
      → KeepNumbers old.session new.session
  called-kept said [] old new are same =
      same-kept old.session new.session (ap (λ (s : AskingSession (Numbered R)). s.session) same)
  called-kept said (step ∷ []) old new are (mid, one, same) =
      let w = step-within gives step old mid one in
      kept-on old.session mid.session new.session
      (history-kept w.steps old.session mid.session w.run (hearing-keeps said step w.steps are w.are))
      (same-kept mid.session new.session (ap (λ (s : AskingSession (Numbered R)). s.session) same))
  called-kept said (step ∷ next ∷ steps) old new are h = absurd are

  pub heard-kept : (old new : AskingSession (Numbered R)) (out out_new : List SessionFrame) (said : LinkPerformative)
      (told : Result (PerformativeTaken A T D) SessionError) → Hears gives old out said told new out_new
      → KeepNumbers old.session new.session
  heard-kept old new out out_new said told h =
      let (steps, are, history) = heard gives old new out out_new said told h in
      called-kept said steps old new are history
