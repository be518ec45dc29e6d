-- A handle of the peer's that is asked for leads to no link.
use Rattle.std.proofs.Common.{◌≡◌, ◌≢◌, ◌⊎◌, inl, inr, ℕ, List, [], ◌∷◌, Bool, true, false, cond, Option, Some, None, IsSome, Result, Ok, Err, refl, sym, ap, subst, ◌∙◌, ◌==◌, if◌then◌else◌}
use Rattle.std.proofs.lemmas.Bool.Decides.{eqb_tells}
use Rattle.std.specs.Prelude.{⊤, is_some, slice_index_or}
use Rattle.std.specs.FinMap as map
use Rattle.std.specs.FinMap.{get-empty}
use Rattle.std.specs.Ordering.{nat_cmp}
use Rattle.amqp_session_types.specs.declared.handles.Handle.{Handle}
use Rattle.amqp_session_types.specs.declared.refusals.SessionError.{SessionError}
use Rattle.amqp_session_performatives.specs.declared.attach.Attach.{Attach}
use Rattle.amqp_session_performatives.specs.declared.detach.Detach.{Detach}
use Rattle.amqp_session_performatives.specs.declared.flow.Flow.{Flow}
use Rattle.amqp_session_performatives.specs.declared.link_flow.LinkFlow.{LinkFlow}
use Rattle.amqp_session_performatives.specs.declared.session_frame.SessionFrame.{SessionFrame}
use Rattle.amqp_session_core.specs.declared.relay.RelayError.{RelayError}
use Rattle.amqp_session_core.specs.History.{History}
use Rattle.amqp_session_core.specs.Relay.{Relations}
use Rattle.amqp_session_core.specs.State.{State, live_in, reached}
use Rattle.amqp_session_core.specs.Steps.{Act, Allocates, TakesAttach as SessionAttaches}
use Rattle.amqp_session_core.specs.Tables.{RouteTable}
use Rattle.amqp_endpoint_links.specs.declared.links.AskRefusal.{AskRefusal}
use Rattle.amqp_endpoint_links.specs.declared.links.AskRefusal.TheVariants as ask
use Rattle.amqp_endpoint_links.specs.declared.links.AskedLink.{AskedLink}
use Rattle.amqp_endpoint_links.specs.Asked.{Asked, Asks, is_asked, told_of, told_to}
use Rattle.amqp_session_types.proofs.Tables.{get-put-other, get-take, get-take-other}
use Rattle.amqp_endpoint_links.specs.declared.asking.AskingSession.{AskingSession}
use Rattle.amqp_endpoint_links.specs.declared.asking.NamedLink.{NamedLink}
use Rattle.amqp_endpoint_links.specs.declared.asking.NamedLink.TheVariants.{Absent, Waiting, Attached}
use Rattle.amqp_endpoint_links.specs.declared.asking.AttachTaken.{AttachTaken}
use Rattle.amqp_endpoint_links.specs.declared.asking.DetachTaken.{DetachTaken}
use Rattle.amqp_endpoint_links.specs.Asking.{in_use, AttachAt, FlowAt, DetachAt}
use Rattle.amqp_endpoint_links.specs.History.{AskingAct, InSession, TakesAttach, TakesFlow, TakesDetach, AnswersLink}
use Rattle.amqp_endpoint_links.specs.History.{AskingStep, AskingHistory, AtMostOne, IsAttach, IsFlow, IsDetach}
use Rattle.amqp_endpoint_links.specs.History.{RoutesNone, RouteNone, routed_in}
use Rattle.amqp_endpoint_links.proofs.Projecting.{Done, attach-done, flow-done, detach-done, step-within, within}
use Rattle.amqp_endpoint_links.proofs.Routing.{Routed, none-routed, none-stays, routed-on}

none≢some : {X : Type 0} {x : X} → None ≡ Some x → ⊥
none≢some e = absurd cc

some-moves : {X : Type 0} (o p : Option X) → o ≡ p → IsSome o → IsSome p
some-moves o p e there = subst (λ (q : Option _). IsSome q) e there

neither : (b c : Bool) → (if b then true else c) ≡ false → (b ≡ false) × (c ≡ false)
neither true c e = absurd cc
neither false c e = (refl, e)

module _ {R A T D : Type 0} (gives : Relations R A T D) where
  -- one step at most leaves a handle that leads nowhere as it is, where it doesn't have it lead to a link
  kept-none : (is : Act R A T D → Type 0) (old new : State R) (input : ℕ) → Done gives is old new
      → ((step : Act R A T D) → is step → routed_in step ≢ Some input) → map.get old.routes input ≡ None
      → map.get new.routes input ≡ None
  kept-none is old new input done other none = by done.steps done.are done.run
    where
      by : (steps : List (Act R A T D)) → AtMostOne is steps → History gives old steps new
          → map.get new.routes input ≡ None
      by [] are run = ap (λ (s : State R). map.get s.routes input) run ∙ none
      by (step ∷ []) are run =
          ap (λ (s : State R). map.get s.routes input) run.2 ∙ none-stays gives step old run.0 input run.1 (other step are) none
      by (step ∷ next ∷ steps) are run = absurd are

  -- a handle that no link is reached by leads nowhere
  unreached : (s : State R) (input : ℕ) → Routed gives s → is_some (reached s input) ≡ false → map.get s.routes input ≡ None
  unreached s input routed none = by (map.get s.routes input) refl
    where
      by : (o : Option ℕ) → map.get s.routes input ≡ o → map.get s.routes input ≡ None
      by None e = e
      by (Some h) e = absurd (let clash : true ≡ false = sym (ap (λ (o : Option ℕ). is_some (live_in s.links o)) e ∙ lives (slice_index_or s.links h None) (routed.each input h e)) ∙ none in cc)
        where
          lives : (o : Option R) → IsSome o → is_some (if is_some o then Some h else None) ≡ true
          lives None there = absurd cc
          lives (Some r) there = refl

  abbrev IsApart : Asked → RouteTable → Type 0
  IsApart asked routes = (input : ℕ) → IsSome (map.get asked input) → map.get routes input ≡ None

  same-asked : (old new : AskingSession R) → new.asked ≡ old.asked → ((input : ℕ) → map.get old.session.routes input ≡ None → map.get new.session.routes input ≡ None)
      → IsApart old.asked old.session.routes → IsApart new.asked new.session.routes
  same-asked old new same keeps apart input there =
      keeps input (apart input (some-moves _ _ (ap (λ (t : Asked). map.get t input) same) there))

  stays-apart : (old new : AskingSession R) → new ≡ old → IsApart old.asked old.session.routes → IsApart new.asked new.session.routes
  stays-apart old new same apart = subst (λ (s : AskingSession R). IsApart s.asked s.session.routes) (sym same) apart

  -- the peer asks for a link with a handle that leads nowhere
  asks-apart : (old new : Asked) (routes : RouteTable) (attach : Attach) (told : Result ⊤ AskRefusal) → Asks old attach told new
      → map.get routes (attach.handle).0 ≡ None → IsApart old routes → IsApart new routes
  asks-apart old new routes attach (Ok done) s none apart input there = by (eqb_tells input (attach.handle).0)
    where
      by : (((input == (attach.handle).0) ≡ true) × (input ≡ (attach.handle).0)) ⊎ (((input == (attach.handle).0) ≡ false) × (input ≢ (attach.handle).0)) → map.get routes input ≡ None
      by (inl p) = ap (λ (k : ℕ). map.get routes k) p.1 ∙ none
      by (inr p) =
          apart input (some-moves _ _ (ap (λ (t : Asked). map.get t input) s.2 ∙ get-put-other old (attach.handle).0 input _ p.1) there)
  asks-apart old new routes attach (Err ask.HandleInUse) s none apart input there =
      subst (λ (t : Asked). IsApart t routes) (sym s.1) apart input there
  asks-apart old new routes attach (Err ask.NameInUse) s none apart input there =
      subst (λ (t : Asked). IsApart t routes) (sym s.2) apart input there
  asks-apart old new routes attach (Err ask.Memory) s none apart input there =
      subst (λ (t : Asked). IsApart t routes) (sym s.2) apart input there

  attach-apart : (used : Bool) (old : AskingSession R) (attach : Attach) (named : NamedLink) (result : Result (AttachTaken A) SessionError) (new : AskingSession R)
      → in_use old (attach.handle).0 ≡ used → AttachAt gives used old attach named result new
      → Routed gives old.session → IsApart old.asked old.session.routes → IsApart new.asked new.session.routes
  attach-apart true old attach named result new used t routed apart input there = stays-apart old new t.1 apart input there
  attach-apart false old attach Attached result new used t routed apart input there = stays-apart old new t.1 apart input there
  attach-apart false old attach Absent result new used t routed apart input there =
      let free = neither _ _ used in
      let none : map.get old.session.routes (attach.handle).0 ≡ None = unreached old.session (attach.handle).0 routed free.1 in
      let same : new.session.routes ≡ old.session.routes = ap (λ (s : AskingSession R). s.session.routes) t.1 in
      subst (λ (r : RouteTable). IsApart new.asked r) (sym same) (asks-apart old.asked new.asked old.session.routes attach (t.0).told (t.0).asks none apart) input there
  attach-apart false old attach (Waiting own) result new used t routed apart input there =
      let free = neither _ _ used in
      let was : IsSome (map.get old.asked input) = some-moves _ _ (ap (λ (s : AskingSession R). map.get s.asked input) t.rest) there in
      kept-none _ old.session new.session input (attach-done gives false old attach (Waiting own) result new t)
      (λ step is. other step is (λ same. absurd (let clash : true ≡ false = sym (ap (λ (k : ℕ). is_some (map.get old.asked k)) same ∙ was) ∙ free.0 in cc)))
      (apart input was)
    where
      other : (step : Act R A T D) → IsAttach attach (Waiting own) step → ((attach.handle).0 ≢ input)
          → routed_in step ≢ Some input
      other step is ne e = by is.told (ap (λ (s : Act R A T D). routed_in s) (sym is.is) ∙ e)
        where
          by : (told : Result A RelayError) → routed_in {R = R} {A = A} {T = T} {D = D} (SessionAttaches (is.handle).0 attach told) ≡ Some input → ⊥
          by (Ok told) e = ne (let same : (attach.handle).0 ≡ input = cc in same)
          by (Err error) e = none≢some e

  -- what is told of an asked link leaves the others, and asks for none more
  told-there : (asked : Asked) (handle : ℕ) (flow : LinkFlow) (found : Option AskedLink) (input : ℕ) → map.get asked handle ≡ found
      → IsSome (map.get (told_to asked handle flow found) input) → IsSome (map.get asked input)
  told-there asked handle flow None input is there = there
  told-there asked handle flow (Some link) input is there = by (eqb_tells input handle)
    where
      by : (((input == handle) ≡ true) × (input ≡ handle)) ⊎ (((input == handle) ≡ false) × (input ≢ handle)) → IsSome (map.get asked input)
      by (inl p) = some-moves (Some link) _ (sym (ap (λ (k : ℕ). map.get asked k) p.1 ∙ is)) refl
      by (inr p) = some-moves _ _ (get-put-other asked handle input _ p.1) there

  told-of-there : (asked : Asked) (flow : Flow) (handle : Option Handle) (input : ℕ) → IsSome (map.get (told_of asked flow handle) input) → IsSome (map.get asked input)
  told-of-there asked flow None input there = there
  told-of-there asked flow (Some handle) input there = told-there asked handle.0 _ (map.get asked handle.0) input refl there

  flow-asked : (asked : Bool) (old : AskingSession R) (out : List SessionFrame) (flow : Flow) (result : Result ⊤ SessionError) (new : AskingSession R) (out_new : List SessionFrame)
      → FlowAt gives asked old out flow result new out_new → (input : ℕ) → IsSome (map.get new.asked input) → IsSome (map.get old.asked input)
  flow-asked false old out flow result new out_new t input there = some-moves _ _ (ap (λ (s : AskingSession R). map.get s.asked input) t.1) there
  flow-asked true old out flow (Ok done) new out_new t input there =
      told-of-there old.asked flow flow.handle input (some-moves _ _ (ap (λ (s : AskingSession R). map.get s.asked input) t.1) there)
  flow-asked true old out flow (Err e) new out_new t input there = some-moves _ _ (ap (λ (s : AskingSession R). map.get s.asked input) t.1) there

  flow-routes : (flow : Flow) (input : ℕ) (step : Act R A T D) → IsFlow flow step → routed_in step ≢ Some input
  flow-routes flow input step (inl is) e = none≢some (ap (λ (s : Act R A T D). routed_in s) (sym is.is) ∙ e)
  flow-routes flow input step (inr (inl is)) e = none≢some (ap (λ (s : Act R A T D). routed_in s) (sym is.is) ∙ e)
  flow-routes flow input step (inr (inr is)) e = none≢some (ap (λ (s : Act R A T D). routed_in s) (sym is.1) ∙ e)

  -- what is left of the asked links was there
  taken-there : (asked : Asked) (handle input : ℕ) → IsSome (map.get (map.remove asked handle) input) → (input ≢ handle) × IsSome (map.get asked input)
  taken-there asked handle input there = by (eqb_tells input handle)
    where
      by : (((input == handle) ≡ true) × (input ≡ handle)) ⊎ (((input == handle) ≡ false) × (input ≢ handle)) → (input ≢ handle) × IsSome (map.get asked input)
      by (inl p) = absurd (gone (some-moves _ _ (get-take asked handle input ∙ ap (λ (b : Bool). cond b None (map.get asked input)) p.0) there))
        where
          gone : IsSome {T = AskedLink} None → ⊥
          gone e = absurd cc
      by (inr p) = (p.1, some-moves _ _ (get-take-other asked handle input p.1) there)

  detach-asked : (asked : Bool) (old : AskingSession R) (detach : Detach) (result : Result (DetachTaken D) SessionError) (new : AskingSession R)
      → DetachAt gives asked old detach result new → (input : ℕ) → IsSome (map.get new.asked input) → IsSome (map.get old.asked input)
  detach-asked true old detach result new t input there =
      (taken-there old.asked (detach.handle).0 input (some-moves _ _ (ap (λ (s : AskingSession R). map.get s.asked input) t.1) there)).1
  detach-asked false old detach result new t input there = some-moves _ _ (ap (λ (s : AskingSession R). map.get s.asked input) t.rest) there

  detach-routes : (detach : Detach) (input : ℕ) (step : Act R A T D) → IsDetach detach step
      → routed_in step ≢ Some input
  detach-routes detach input step is e = none≢some (ap (λ (s : Act R A T D). routed_in s) (sym is.is) ∙ e)

  step-apart : (step : AskingAct R A T D) (old new : AskingSession R) → AskingStep gives old step new → RoutesNone step
      → Routed gives old.session → IsApart old.asked old.session.routes → IsApart new.asked new.session.routes
  step-apart (InSession step) old new s none routed apart input there =
      same-asked old new (ap (λ (x : AskingSession R). x.asked) s.1)
      (λ q was. none-stays gives step old.session new.session q s.0 (λ e. none≢some (sym none ∙ e)) was) apart input there
  step-apart (TakesAttach attach named result) old new s none routed apart input there =
      attach-apart (in_use old (attach.handle).0) old attach named result new refl s routed apart input there
  step-apart (TakesFlow out flow result out_new) old new s none routed apart input there =
      kept-none _ old.session new.session input (flow-done gives (is_asked old.asked flow.handle) old out flow result new out_new s)
      (flow-routes flow input) (apart input (flow-asked (is_asked old.asked flow.handle) old out flow result new out_new s input there))
  step-apart (TakesDetach detach result) old new s none routed apart input there =
      kept-none _ old.session new.session input (detach-done gives (is_some (map.get old.asked (detach.handle).0)) old detach result new s)
      (detach-routes detach input) (apart input (detach-asked (is_some (map.get old.asked (detach.handle).0)) old detach result new s input there))
  step-apart (AnswersLink handle link given) old new s none routed apart input there =
      let was = taken-there old.asked given input (some-moves _ _ (ap (λ (x : AskingSession R). map.get x.asked input) s.1) there) in
      none-stays gives (Allocates handle link (Some given)) old.session new.session input s.0
      (λ e. was.0 (let same : given ≡ input = cc in sym same)) (apart input was.1)

  history-apart : (steps : List (AskingAct R A T D)) (start end : AskingSession R)
      → AskingHistory gives start steps end → RouteNone steps
      → Routed gives start.session → IsApart start.asked start.session.routes → IsApart end.asked end.session.routes
  history-apart [] start end run none routed apart = stays-apart start end run apart
  history-apart (step ∷ steps) start end run none routed apart =
      let one = step-within gives step start run.0 run.1 in
      history-apart steps run.0 end run.2 none.1
      (routed-on gives one.steps start.session (run.0).session one.run routed)
      (step-apart step start run.0 run.1 none.0 routed apart)

  pub asked-apart : (start end : AskingSession R) (steps : List (AskingAct R A T D)) → start.session.routes ≡ map.empty
      → AskingHistory gives start steps end → RouteNone steps → (handle : ℕ) → IsSome (map.get end.asked handle)
      → (map.get end.session.routes handle ≡ None) × (reached end.session handle ≡ None)
  asked-apart start end steps empty run none handle there =
      let vacant = history-apart steps start end run none (none-routed gives start.session empty)
      (λ input asked. ap (λ (t : RouteTable). map.get t input) empty ∙ get-empty nat_cmp input) handle there in
      (vacant, ap (λ (o : Option ℕ). live_in end.session.links o) vacant)

  live-reached : (s : State R) → Routed gives s → (input : ℕ) → reached s input ≡ map.get s.routes input
  live-reached s routed input = by (map.get s.routes input) refl
    where
      by : (o : Option ℕ) → map.get s.routes input ≡ o → live_in s.links o ≡ o
      by None e = refl
      by (Some h) e = lives (slice_index_or s.links h None) (routed.each input h e)
        where
          lives : (o : Option R) → IsSome o → (if is_some o then Some h else None) ≡ Some h
          lives None there = absurd cc
          lives (Some r) there = refl

  pub all-reached : (start end : AskingSession R) (steps : List (AskingAct R A T D)) → start.session.routes ≡ map.empty
      → AskingHistory gives start steps end → (handle : ℕ) → reached end.session handle ≡ map.get end.session.routes handle
  all-reached start end steps empty run handle =
      let inner = within gives steps start end run in
      live-reached end.session (routed-on gives inner.done start.session end.session inner.run (none-routed gives start.session empty)) handle
