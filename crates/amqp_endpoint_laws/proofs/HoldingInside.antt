-- What the links of a session hold of their messages, whatever is done in it but that transfers come.
use Rattle.std.proofs.Common.{◌≡◌, ◌≢◌, ◌⊎◌, ◌==◌, inl, inr, ℕ, Bool, true, false, List, [], ◌∷◌, Option, Some, None}
use Rattle.std.proofs.Common.{IsSome, Result, Ok, Err, ap, cond, refl, sym, subst, ◌∙◌, if◌then◌else◌}
use Rattle.std.proofs.lemmas.Bool.Decides.{eqb_tells}
use Rattle.std.proofs.lemmas.List.{get_or-set_other}
use Rattle.std.proofs.lemmas.Bool.{eq-eqb}
use Rattle.std.proofs.lemmas.Option.{none-some, same_Some}
use Rattle.std.specs.FinMap as map
use Rattle.std.specs.Prelude.{slice_index_or, slice_set}
use Rattle.amqp_session_types.specs.declared.handles.Handle.{Handle}
use Rattle.amqp_session_types.specs.declared.handles.OutputHandle.{OutputHandle}
use Rattle.amqp_session_types.specs.declared.modes.Role.{Role}
use Rattle.amqp_session_types.specs.declared.modes.Role.TheVariants as role
use Rattle.amqp_session_performatives.specs.declared.attach.Attach.{Attach}
use Rattle.amqp_session_performatives.specs.declared.detach.Detach.{Detach}
use Rattle.amqp_session_performatives.specs.declared.disposition.Disposition.{Disposition}
use Rattle.amqp_session_performatives.specs.declared.flow.Flow.{Flow}
use Rattle.amqp_session_performatives.specs.declared.link_flow.LinkFlow.{LinkFlow}
use Rattle.amqp_session_performatives.specs.declared.session_frame.SessionFrame.{SessionFrame}
use Rattle.amqp_session_outgoing.specs.Table.{Table}
use Rattle.amqp_session_core.specs.Echoes.{Reach, ReachesAt, Walks, opposite}
use Rattle.amqp_session_core.specs.State.{StepsAt, link_at}
use Rattle.amqp_session_core.specs.Steps.{Allocates, Changes, Deallocates, FlowAt, Reserves, SendsBehind}
use Rattle.amqp_session_core.specs.Steps.{SendsDisposition}
use Rattle.amqp_session_core.specs.Steps.{SendsDispositionStep, SendsTransfers, SetsWindow, Act, Step, TakesAttach}
use Rattle.amqp_session_core.specs.Steps.{TakesBegin, TakesDetach, TakesDisposition, TakesFlow, told_to_link}
use Rattle.amqp_session_core.specs.Steps.{with_table}
use Rattle.amqp_session_core.specs.Frames.{Left}
use Rattle.amqp_session_core.specs.Batch.{Transfers}
use Rattle.amqp_session_core.specs.Tables.{RouteTable, unless_to}
use Rattle.amqp_session_core.specs.declared.batch.BehindFrame.{BehindFrame}
use Rattle.amqp_session_core.specs.declared.relay.RelayError.{RelayError}
use Rattle.amqp_link_base.specs.declared.detached.Detached.{Detached}
use Rattle.amqp_link.specs.declared.relay.AttachTold.{AttachTold}
use Rattle.amqp_link_receiver.specs.declared.answer.Told.{Told}
use Rattle.amqp_link_receiver.specs.Deliveries.{Delivery}
use Rattle.amqp_session_types.proofs.Tables.{get-put, get-take}
use Rattle.amqp_endpoint_links.specs.History.{routed_in}
use Rattle.amqp_endpoint_links.proofs.Routing.{Change, Frees, Puts, Same, Takes, change}
use Rattle.amqp_endpoint_attached.specs.Linked.{LinksIn, gives}
use Rattle.amqp_endpoint_attached.proofs.There.{replaced}
use Rattle.amqp_endpoint_link_hearing.proofs.Heard.{stepped-there}
use Rattle.amqp_endpoint_linking.specs.Linking.{Link}
use Rattle.amqp_endpoint_laws.proofs.HoldingEnds.{Comes, Goes, Holding, IsAttached, IsFresh, Part, Stays, attaches-go}
use Rattle.amqp_endpoint_laws.proofs.HoldingEnds.{comes-on, detaches-stay, disposes-stay, flows-stay, goes-still}
use Rattle.amqp_endpoint_laws.proofs.HoldingEnds.{held_end, held_link, stays-on}
use Rattle.amqp_endpoint_laws.proofs.HoldingWaits.{attached-waits}
use Rattle.amqp_endpoint_laws.proofs.HoldingEnds.{stays-still}
use Rattle.amqp_endpoint_laws.proofs.LeadingStill.{LeadsStill, allocated-still, allocated-there, detached-still}
use Rattle.amqp_endpoint_laws.proofs.LeadingStill.{freed-still, same-still, taken-still, taken-there}

-- under each own handle what is held goes from the old session to the new
abbrev pub Each : (Holding → Holding → Type 0) → LinksIn → LinksIn → Type 0
Each Rel old new = (h : ℕ) → Rel (held_link (link_at old h)) (held_link (link_at new h))

-- no handle of the peer's leads to a link that it didn't lead to before
abbrev pub LeadsLess : LinksIn → LinksIn → Type 0
LeadsLess old new = (input h : ℕ) → map.get new.routes input ≡ Some h → map.get old.routes input ≡ Some h

pub same-leads : (old new : LinksIn) → new.routes ≡ old.routes → LeadsLess old new
same-leads old new same input h there = sym (ap (λ (t : RouteTable). map.get t input) same) ∙ there

unless-leads : (handle h : ℕ) (o : Option ℕ) → unless_to handle o ≡ Some h → o ≡ Some h
unless-leads handle h None is = absurd (none-some h is)
unless-leads handle h (Some to) is = by (to == handle) refl
  where
    by : (b : Bool) → (to == handle) ≡ b → Some to ≡ Some h
    by true e =
        absurd (none-some h (sym (ap (λ (b : Bool). if b then None else Some to) e) ∙ is))
    by false e = sym (ap (λ (b : Bool). if b then None else Some to) e) ∙ is

pub less : (step : Act Link AttachTold Told Detached) (old new : LinksIn) → routed_in step ≡ None
    → Step gives old step new → LeadsLess old new
less step old new none s input h there = by (change gives step old new s)
  where
    by : Change old new step → map.get old.routes input ≡ Some h
    by (Same same live) = sym (same input) ∙ there
    by (Puts key handle told put is live) = absurd (none-some key (sym none ∙ told))
    by (Takes key taken live) = at (eqb_tells input key)
      where
        got : map.get new.routes input ≡ cond (input == key) None (map.get old.routes input)
        got = ap (λ (t : RouteTable). map.get t input) taken ∙ get-take old.routes key input

        at : (((input == key) ≡ true) × (input ≡ key)) ⊎ (((input == key) ≡ false) × (input ≢ key))
            → map.get old.routes input ≡ Some h
        at (inl p) =
            absurd
            (none-some h
            (sym (got ∙ ap (λ (b : Bool). cond b None (map.get old.routes input)) p.0) ∙ there))
        at (inr p) =
            sym (got ∙ ap (λ (b : Bool). cond b None (map.get old.routes input)) p.0) ∙ there
    by (Frees handle left freed) =
        unless-leads handle h (map.get old.routes input) (sym (left input) ∙ there)

-- what is held stays under each own handle, and the peer's handles lead to no other links, and to those still that are
-- attached
pub record Rests (old new : LinksIn) : Type 0 where
  pub holds : Each Stays old new
  pub leads : LeadsLess old new
  pub keeps : LeadsStill old new

-- what is held was so before
pub was-so : (a b : Holding) (x : ℕ × Part) → Stays a b → b ≡ Some x → a ≡ Some x
was-so a b x (inl same) is = sym same ∙ is
was-so a b x (inr gone) is = absurd (none-some x (sym gone ∙ is))

still-on : (old mid new : LinksIn) → LeadsStill old mid → Rests mid new → LeadsStill old new
still-on old mid new first later input h k held there is =
    later.keeps input h k held
    (first input h k held there
    (was-so (held_link (link_at mid h)) (held_link (link_at new h)) (k, (true, held)) (later.holds h) is))
    is

pub rests-on : (old mid new : LinksIn) → Rests old mid → Rests mid new → Rests old new
rests-on old mid new first later =
    record {
      holds = λ h.
          stays-on (held_link (link_at old h)) (held_link (link_at mid h)) (held_link (link_at new h)) (first.holds h)
          (later.holds h);
      leads = λ input h there. first.leads input h (later.leads input h there);
      keeps = still-on old mid new first.keeps later;
    }

pub each-comes : (E : Type 0) (number : ℕ) (old mid new : LinksIn) → Each (Comes E number) old mid → Rests mid new
    → Each (Comes E number) old new
each-comes E number old mid new first later h =
    comes-on E number (held_link (link_at old h)) (held_link (link_at mid h)) (held_link (link_at new h)) (first h)
    (later.holds h)

links-same : (old new : LinksIn) → new.links ≡ old.links → Each Stays old new
links-same old new same h = inl (ap (λ (ls : List (Option Link)). held_link (slice_index_or ls h None)) same)

-- the peer's handles lead where they led
routes-rest : (old new : LinksIn) → Each Stays old new → new.routes ≡ old.routes → Rests old new
routes-rest old new holds same =
    record { holds = holds; leads = same-leads old new same; keeps = same-still old new same }

pub all-same : (old new : LinksIn) → new ≡ old → Rests old new
all-same old new same =
    routes-rest old new (links-same old new (ap (λ (s : LinksIn). s.links) same)) (ap (λ (s : LinksIn). s.routes) same)

pub rests-go : (old new : LinksIn) → Rests old new → Each Goes old new
rests-go old new rests h = inr (rests.holds h)

-- one link alone takes a step
module _ (Rel : Holding → Holding → Type 0) (still : (a : Holding) → Rel a a) where
  related : (o p x y : Option Link) → o ≡ x → p ≡ y → Rel (held_link x) (held_link y)
      → Rel (held_link o) (held_link p)
  related o p x y a b r =
      subst (λ (q : Option Link). Rel (held_link q) (held_link p)) (sym a)
      (subst (λ (q : Option Link). Rel (held_link x) (held_link q)) (sym b) r)

  pub at-one : (old new : LinksIn) (handle : ℕ) (before after : Link) → link_at old handle ≡ Some before
      → new.links ≡ slice_set old.links handle (Some after) → Rel (held_link (Some before)) (held_link (Some after))
      → Each Rel old new
  at-one old new handle before after had is keeps h = by (eqb_tells h handle)
    where
      by : (((h == handle) ≡ true) × (h ≡ handle)) ⊎ (((h == handle) ≡ false) × (h ≢ handle))
          → Rel (held_link (link_at old h)) (held_link (link_at new h))
      by (inl p) =
          related (link_at old h) (link_at new h) (Some before) (Some after) (ap (λ (k : ℕ). link_at old k) p.1 ∙ had)
          (ap (λ (k : ℕ). link_at new k) p.1 ∙ ap (λ (ls : List (Option Link)). slice_index_or ls handle None) is
          ∙ replaced old handle before after (sym had))
          keeps
      by (inr p) =
          related (link_at old h) (link_at new h) (link_at old h) (link_at old h) refl
          (ap (λ (ls : List (Option Link)). slice_index_or ls h None) is
          ∙ get_or-set_other old.links handle h (Some after) None p.1)
          (still (held_link (link_at old h)))

  at-step : (does : Link → Link → Type 0) (old new : LinksIn) (handle : ℕ) → StepsAt does old.links handle new.links
      → ((a b : Link) → does a b → Rel (held_link (Some a)) (held_link (Some b))) → Each Rel old new
  at-step does old new handle st keeps =
      at-one old new handle st.before st.after st.had st.others (keeps st.before st.after st.stepped)

  -- the number of the link stays
  numbered-so : (a b : Link) → b.number ≡ a.number → Rel (held_end a.number a.link) (held_end a.number b.link)
      → Rel (held_link (Some a)) (held_link (Some b))
  numbered-so a b same r = subst (λ (n : ℕ). Rel (held_end a.number a.link) (held_end n b.link)) (sym same) r

-- its owner changes a link
pub changed-stays : (old new : LinksIn) (handle : ℕ) (before after : Link)
    → Step gives old (Changes handle before after) new → Stays (held_link (Some before)) (held_link (Some after))
    → Rests old new
changed-stays old new handle before after s keeps =
    routes-rest old new
    (at-one Stays stays-still old new handle before after s.0 (ap (λ (x : LinksIn). x.links) s.1) keeps)
    (ap (λ (x : LinksIn). x.routes) s.1)

-- a frame of a link is sent, or its transfers, or Dispositions
pub behind-stays : (old new : LinksIn) (handle : OutputHandle) (frame : BehindFrame) (left : Option BehindFrame)
    (answer : Option SessionFrame) → Step gives old (SendsBehind handle frame left answer) new → Rests old new
behind-stays old new handle frame left answer s =
    routes-rest old new (links-same old new (ap (λ (x : LinksIn). x.links) s.2)) (ap (λ (x : LinksIn). x.routes) s.2)

pub batch-stays : (old new : LinksIn) (handle : OutputHandle) (batch : Transfers) (left : Left)
    (frames : List SessionFrame) → Step gives old (SendsTransfers handle batch left frames) new → Rests old new
batch-stays old new handle batch left frames s =
    routes-rest old new (links-same old new (ap (λ (x : LinksIn). x.links) s.2)) (ap (λ (x : LinksIn). x.routes) s.2)

-- room is made for transfers
pub reserves-stays : (old new : LinksIn) (count : ℕ) → Step gives old (Reserves count) new → Rests old new
reserves-stays old new count s =
    routes-rest old new (links-same old new (ap (λ (x : LinksIn). x.links) s.1)) (ap (λ (x : LinksIn). x.routes) s.1)

table-same : (by : Role) (table : Table) (s : LinksIn) → (with_table by table s).links ≡ s.links
table-same role.Sender table s = refl
table-same role.Receiver table s = refl

table-leads : (by : Role) (table : Table) (s : LinksIn) → (with_table by table s).routes ≡ s.routes
table-leads role.Sender table s = refl
table-leads role.Receiver table s = refl

sent-same : (settled : Bool) (old : LinksIn) (d : Disposition) (numbers : List ℕ) (new : LinksIn)
    → SendsDispositionStep gives settled old d numbers new → Rests old new
sent-same false old d numbers new s = all-same old new s.1
sent-same true old d numbers new s =
    routes-rest old new
    (links-same old new (ap (λ (x : LinksIn). x.links) s.1 ∙ table-same (opposite d.role) _ old))
    (ap (λ (x : LinksIn). x.routes) s.1 ∙ table-leads (opposite d.role) _ old)

pub sent-stays : (old new : LinksIn) (d : Disposition) (numbers : List ℕ)
    → Step gives old (SendsDisposition d numbers) new → Rests old new
sent-stays old new d numbers s = sent-same d.settled old d numbers new s

-- an own handle is taken back, or given
freed-at : (old new : LinksIn) (h : ℕ) (freed : Bool) → link_at new h ≡ (if freed then None else link_at old h)
    → Stays (held_link (link_at old h)) (held_link (link_at new h))
freed-at old new h true is = inr (ap held_link is)
freed-at old new h false is = inl (ap held_link is)

pub freed-stays : (old new : LinksIn) (handle : ℕ) → Step gives old (Deallocates handle) new → Rests old new
freed-stays old new handle s =
    record {
      holds = λ h. freed-at old new h (h == handle) (s.0 h);
      leads = less (Deallocates handle) old new refl s;
      keeps = freed-still old new handle s;
    }

given-comes : (E : Type 0) (number : ℕ) (old new : LinksIn) (handle : ℕ) (link : Link)
    → IsFresh E number (held_link (Some link)) → link_at old handle ≡ None
    → ((h : ℕ) → link_at new h ≡ (if h == handle then Some link else link_at old h))
    → Each (Comes E number) old new
given-comes E number old new handle link fresh vacant becomes h = by (eqb_tells h handle)
  where
    by : (((h == handle) ≡ true) × (h ≡ handle)) ⊎ (((h == handle) ≡ false) × (h ≢ handle))
        → Comes E number (held_link (link_at old h)) (held_link (link_at new h))
    by (inl p) =
        inl (
          ap held_link (ap (λ (k : ℕ). link_at old k) p.1 ∙ vacant),
          subst (IsFresh E number)
              (sym (ap held_link (becomes h ∙ ap (λ (b : Bool). if b then Some link else link_at old h) p.0))) fresh,
        )
    by (inr p) =
        inr (inr (inl (ap held_link (becomes h
        ∙ ap (λ (b : Bool). if b then Some link else link_at old h) p.0))))

pub allocated-comes : (E : Type 0) (number : ℕ) (old new : LinksIn) (handle : ℕ) (link : Link) (input : Option ℕ)
    → IsFresh E number (held_link (Some link)) → Step gives old (Allocates handle link input) new
    → Each (Comes E number) old new
allocated-comes E number old new handle link None fresh s = given-comes E number old new handle link fresh s.1 s.3
allocated-comes E number old new handle link (Some input) fresh s =
    given-comes E number old new handle link fresh s.2 s.4

-- a Flow of the peer is taken
flow-at : (old new : LinksIn) (flow : Flow) (named : Option Handle)
    (told : Option (ℕ × Result (Option LinkFlow) RelayError))
    → FlowAt gives old.links old.routes flow named told new.links → Each Stays old new
flow-at old new flow None None same = links-same old new same
flow-at old new flow None (Some told) f = absurd f
flow-at old new flow (Some handle) None f = absurd f
flow-at old new flow (Some handle) (Some (h, told)) f =
    at-step Stays stays-still _ old new h f.1
    (λ a b t. numbered-so Stays stays-still a b t.1
    (flows-stay a.number a.link (told_to_link flow handle) told b.link t.0))

stays-each : (old mid new : LinksIn) → Each Stays old mid → Each Stays mid new → Each Stays old new
stays-each old mid new first later h =
    stays-on (held_link (link_at old h)) (held_link (link_at mid h)) (held_link (link_at new h)) (first h) (later h)

-- a Disposition of the peer reaches deliveries
module _ (s : LinksIn) (d : Disposition) where
  reach-at : (old new : List (Option Link)) (x : Reach) (there : Option Link)
      → ReachesAt gives.disposes d old there x new → Each Stays (record s { links = old }) (record s { links = new })
  reach-at old new x None r = links-same (record s { links = old }) (record s { links = new }) r.2
  reach-at old new x (Some link) r =
      at-step Stays stays-still _ (record s { links = old }) (record s { links = new }) x.handle r.1
      (λ a b t. numbered-so Stays stays-still a b t.1
      (disposes-stay a.number a.link x.tag d.role d.settled d.state x.echo b.link t.0))

  walk-stays : (table : Table) (numbers : List ℕ) (old : List (Option Link)) (walk : List Reach)
      (new : List (Option Link)) → Walks gives.disposes d table numbers old walk new
      → Each Stays (record s { links = old }) (record s { links = new })
  walk-stays table [] old [] new w = links-same (record s { links = old }) (record s { links = new }) w
  walk-stays table [] old (x ∷ walk) new w = absurd w
  walk-stays table (n ∷ ns) old [] new w = absurd w
  walk-stays table (n ∷ ns) old (x ∷ walk) new w =
      stays-each (record s { links = old }) (record s { links = w.0 }) (record s { links = new })
      (reach-at old w.0 x (slice_index_or old x.handle None) w.3) (walk-stays table ns w.0 walk new w.4)

-- a Detach, an Attach
detach-stays : (old new : LinksIn) (handle : ℕ) (detach : Detach) (told : Result Detached RelayError)
    → StepsAt (λ before after. gives.detaches before detach told after) old.links handle new.links → Each Stays old new
detach-stays old new handle detach told st =
    at-step Stays stays-still _ old new handle st
    (λ a b t. numbered-so Stays stays-still a b t.1 (detaches-stay a.number a.link detach told b.link t.0))

attach-goes : (old new : LinksIn) (handle : ℕ) (attach : Attach) (told : Result AttachTold RelayError)
    → StepsAt (λ before after. gives.attaches before attach told after) old.links handle new.links → Each Goes old new
attach-goes old new handle attach told st =
    at-step Goes goes-still _ old new handle st
    (λ a b t. numbered-so Goes goes-still a b t.1 (attaches-go a.number a.link attach told b.link t.0))

-- a step by which no Attach and no transfer is taken, no link attaches and none is changed by its owner
abbrev pub IsCalm : Act Link AttachTold Told Detached → Type 0
IsCalm (TakesFlow flow told reply base left frames) = Unit {0}
IsCalm (SetsWindow flow base) = Unit {0}
IsCalm (TakesDisposition d walk echoes) = Unit {0}
IsCalm (TakesDetach handle detach told) = Unit {0}
IsCalm (TakesBegin channel begin base left frames) = Unit {0}
IsCalm step = ⊥

calm-holds : (step : Act Link AttachTold Told Detached) (old new : LinksIn) → Step gives old step new
    → IsCalm step → Each Stays old new
calm-holds (TakesFlow flow told reply base left frames) old new s calm = flow-at old new flow flow.handle told s.link
calm-holds (SetsWindow flow base) old new s calm = links-same old new (ap (λ (x : LinksIn). x.links) s.2)
calm-holds (TakesDisposition d walk echoes) old new s calm =
    walk-stays old d _ s.numbers old.links walk new.links s.walked
calm-holds (TakesDetach handle detach (Ok told)) old new s calm = detach-stays old new handle detach (Ok told) s.1
calm-holds (TakesDetach handle detach (Err e)) old new s calm = detach-stays old new handle detach (Err e) s.1
calm-holds (TakesBegin channel begin base left frames) old new s calm =
    links-same old new (ap (λ (x : LinksIn). x.links) s.5)
calm-holds step old new s calm = absurd calm

calm-routes : (step : Act Link AttachTold Told Detached) → IsCalm step → routed_in step ≡ None
calm-routes (TakesFlow flow told reply base left frames) calm = refl
calm-routes (SetsWindow flow base) calm = refl
calm-routes (TakesDisposition d walk echoes) calm = refl
calm-routes (TakesDetach handle detach told) calm = refl
calm-routes (TakesBegin channel begin base left frames) calm = refl
calm-routes step calm = absurd calm

calm-still : (step : Act Link AttachTold Told Detached) (old new : LinksIn) → Step gives old step new
    → IsCalm step → LeadsStill old new
calm-still (TakesFlow flow told reply base left frames) old new s calm =
    same-still old new (ap (λ (x : LinksIn). x.routes) s.becomes)
calm-still (SetsWindow flow base) old new s calm = same-still old new (ap (λ (x : LinksIn). x.routes) s.2)
calm-still (TakesDisposition d walk echoes) old new s calm =
    same-still old new
    (ap (λ (x : LinksIn). x.routes) s.becomes ∙ table-leads d.role _ (record old { links = new.links }))
calm-still (TakesDetach handle detach (Ok told)) old new s calm = detached-still old new handle detach told s
calm-still (TakesDetach handle detach (Err e)) old new s calm =
    same-still old new (ap (λ (x : LinksIn). x.routes) s.2)
calm-still (TakesBegin channel begin base left frames) old new s calm =
    same-still old new (ap (λ (x : LinksIn). x.routes) s.5)
calm-still step old new s calm = absurd calm

pub calm-stays : (step : Act Link AttachTold Told Detached) (old new : LinksIn) → Step gives old step new
    → IsCalm step → Rests old new
calm-stays step old new s calm =
    record {
      holds = calm-holds step old new s calm;
      leads = less step old new (calm-routes step calm) s;
      keeps = calm-still step old new s calm;
    }

pub taken-goes : (old new : LinksIn) (handle : ℕ) (attach : Attach) (told : Result AttachTold RelayError)
    → Step gives old (TakesAttach handle attach told) new → Each Goes old new
taken-goes old new handle attach (Ok told) s = attach-goes old new handle attach (Ok told) s.1
taken-goes old new handle attach (Err e) s = attach-goes old new handle attach (Err e) s.1

-- and that handle of the peer's leads to it then, unless the link waits still
pub record LeadsMore (attach : Attach) (handle : ℕ) (old new : LinksIn) : Type 0 where
  pub holds : Each Goes old new
  pub keeps : LeadsStill old new
  pub there :
      (h : ℕ) → IsAttached (held_link (link_at old h)) (held_link (link_at new h))
      → map.get new.routes attach.handle.0 ≡ Some h
  pub leads :
      (input h : ℕ) → map.get new.routes input ≡ Some h
      → (map.get old.routes input ≡ Some h) ⊎ ((input ≡ attach.handle.0) × (h ≡ handle))
  pub waits :
      (k : ℕ) (held : Option Delivery) → held_link (link_at new handle) ≡ Some (k, (false, held))
      → LeadsLess old new

put-leads : (old new : RouteTable) (key handle input h : ℕ) → new ≡ map.insert old key handle
    → map.get new input ≡ Some h → (map.get old input ≡ Some h) ⊎ ((input ≡ key) × (h ≡ handle))
put-leads old new key handle input h put there = by (eqb_tells input key)
  where
    got : map.get new input ≡ cond (input == key) (Some handle) (map.get old input)
    got = ap (λ (t : RouteTable). map.get t input) put ∙ get-put old key input handle

    by : (((input == key) ≡ true) × (input ≡ key)) ⊎ (((input == key) ≡ false) × (input ≢ key))
        → (map.get old input ≡ Some h) ⊎ ((input ≡ key) × (h ≡ handle))
    by (inl p) =
        inr (
          p.1,
          same_Some h handle
              (sym there ∙ got ∙ ap (λ (b : Bool). cond b (Some handle) (map.get old input)) p.0),
        )
    by (inr p) = inl (sym (got ∙ ap (λ (b : Bool). cond b (Some handle) (map.get old input)) p.0) ∙ there)

taken-leads : (old new : LinksIn) (handle : ℕ) (attach : Attach) (told : Result AttachTold RelayError)
    → Step gives old (TakesAttach handle attach told) new → (input h : ℕ) → map.get new.routes input ≡ Some h
    → (map.get old.routes input ≡ Some h) ⊎ ((input ≡ attach.handle.0) × (h ≡ handle))
taken-leads old new handle attach (Ok told) s input h there =
    put-leads old.routes new.routes attach.handle.0 handle input h (ap (λ (x : LinksIn). x.routes) s.2) there
taken-leads old new handle attach (Err e) s input h there =
    inl (less (TakesAttach handle attach (Err e)) old new refl s input h there)

taken-waits : (old new : LinksIn) (handle : ℕ) (attach : Attach) (told : Result AttachTold RelayError)
    → Step gives old (TakesAttach handle attach told) new → (k : ℕ) (held : Option Delivery)
    → held_link (link_at new handle) ≡ Some (k, (false, held)) → LeadsLess old new
taken-waits old new handle attach (Ok told) s k held is =
    absurd
    (attached-waits s.1.after.number s.1.before.link attach told s.1.after.link s.1.stepped.0 k held
    (sym (ap held_link
    (stepped-there (λ before after. gives.attaches before attach (Ok told) after) old handle new s.1))
    ∙ is))
taken-waits old new handle attach (Err e) s k held is = less (TakesAttach handle attach (Err e)) old new refl s

pub attach-leads : (old new : LinksIn) (handle : ℕ) (attach : Attach) (told : Result AttachTold RelayError)
    → Step gives old (TakesAttach handle attach told) new → LeadsMore attach handle old new
attach-leads old new handle attach told s =
    record {
      holds = taken-goes old new handle attach told s;
      keeps = taken-still old new handle attach told s;
      there = taken-there old new handle attach told s;
      leads = taken-leads old new handle attach told s;
      waits = taken-waits old new handle attach told s;
    }

-- a link enters, and one handle of the peer's leads to it, or none does, where it waits for the peer's Attach
pub record LeadsFirst (handle : ℕ) (old new : LinksIn) : Type 0 where
  pub vacant : link_at old handle ≡ None
  pub others : (h : ℕ) → (h == handle) ≡ false → Stays (held_link (link_at old h)) (held_link (link_at new h))
  pub keeps : LeadsStill old new
  pub input : Option ℕ
  pub there :
      (k : ℕ) (held : Option Delivery) → held_link (link_at new handle) ≡ Some (k, (true, held))
      → (other : ℕ) × (input ≡ Some other) × (map.get new.routes other ≡ Some handle)
  pub leads :
      (other h : ℕ) → map.get new.routes other ≡ Some h
      → (map.get old.routes other ≡ Some h) ⊎ ((input ≡ Some other) × (h ≡ handle))
  pub waits :
      (k : ℕ) (held : Option Delivery) → held_link (link_at new handle) ≡ Some (k, (false, held)) → input ≡ None

given-others : (old new : LinksIn) (handle : ℕ) (link : Link)
    → ((h : ℕ) → link_at new h ≡ (if h == handle then Some link else link_at old h)) → (h : ℕ)
    → (h == handle) ≡ false → Stays (held_link (link_at old h)) (held_link (link_at new h))
given-others old new handle link becomes h apart =
    inl (ap held_link (becomes h ∙ ap (λ (b : Bool). if b then Some link else link_at old h) apart))

given-there : (old new : LinksIn) (handle : ℕ) (link : Link)
    → ((h : ℕ) → link_at new h ≡ (if h == handle then Some link else link_at old h)) → link_at new handle ≡ Some link
given-there old new handle link becomes =
    becomes handle ∙ ap (λ (b : Bool). if b then Some link else link_at old handle) (eq-eqb handle handle refl)

-- it waits only where none leads to it, and is attached only where one does
pub allocated-leads : (old new : LinksIn) (handle : ℕ) (link : Link) (input : Option ℕ)
    → Step gives old (Allocates handle link input) new
    → ((k : ℕ) (held : Option Delivery) → held_link (Some link) ≡ Some (k, (false, held)) → input ≡ None)
    → ((k : ℕ) (held : Option Delivery) → held_link (Some link) ≡ Some (k, (true, held)) → IsSome input)
    → LeadsFirst handle old new
allocated-leads old new handle link None s waits attached =
    record {
      vacant = s.1;
      others = given-others old new handle link s.3;
      keeps = allocated-still old new handle link None s;
      input = None;
      there = λ k held is.
          let none = attached k held (sym (ap held_link (given-there old new handle link s.3)) ∙ is) in
          absurd cc;
      leads = λ other h there. inl (less (Allocates handle link None) old new refl s other h there);
      waits = λ k held is. refl;
    }
allocated-leads old new handle link (Some input) s waits attached =
    record {
      vacant = s.2;
      others = given-others old new handle link s.4;
      keeps = allocated-still old new handle link (Some input) s;
      input = Some input;
      there = λ k held is. (input, refl, allocated-there old new handle link input s);
      leads = λ other h there.
          elim (put-leads old.routes new.routes input handle other h (ap (λ (x : LinksIn). x.routes) s.5) there) [
            | inl was ↦ inl was
            | inr (same, is) ↦ inr (ap (λ (k : ℕ). Some k) (sym same), is)
          ];
      waits = λ k held is. waits k held (sym (ap held_link (given-there old new handle link s.4)) ∙ is);
    }

pub first-rests : (handle : ℕ) (old mid new : LinksIn) → LeadsFirst handle old mid → Rests mid new
    → LeadsFirst handle old new
first-rests handle old mid new first later =
    record {
      vacant = first.vacant;
      others = λ h apart.
          stays-on (held_link (link_at old h)) (held_link (link_at mid h)) (held_link (link_at new h))
          (first.others h apart) (later.holds h);
      keeps = still-on old mid new first.keeps later;
      input = first.input;
      there = λ k held is.
          let (other, input, led) = first.there k held (was k (true, held) is) in
          (other, input, later.keeps other handle k held led is);
      leads = λ other h there. first.leads other h (later.leads other h there);
      waits = λ k held is. first.waits k held (was k (false, held) is);
    }
  where
    was : (k : ℕ) (x : Part) → held_link (link_at new handle) ≡ Some (k, x)
        → held_link (link_at mid handle) ≡ Some (k, x)
    was k x is =
        was-so (held_link (link_at mid handle)) (held_link (link_at new handle)) (k, x) (later.holds handle) is
