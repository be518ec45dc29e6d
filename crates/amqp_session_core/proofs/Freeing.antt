-- A handle that is taken back has nothing waiting and no unsettled delivery, until it is given anew.
use Rattle.std.proofs.Common.{◌≡◌, ◌≢◌, inl, inr, ℕ, ◌==◌, List, [], ◌∷◌, ◌++◌, Bool, true, false, if◌then◌else◌, slice_index_or, slice_set, Option, Some, None, Result, Ok, Err, IsSome, refl, sym, ap, subst, ◌∙◌}
use Rattle.std.proofs.lemmas.Bool.{eq-eqb}
use Rattle.std.proofs.lemmas.Bool.Decides.{eqb_tells}
use Rattle.std.proofs.lemmas.List.{get_or-set_other}
use Rattle.amqp_session_types.specs.declared.handles.Handle.{Handle}
use Rattle.amqp_session_types.specs.declared.modes.Role.{Role}
use Rattle.amqp_session_types.specs.declared.modes.Role.TheVariants.{Sender, Receiver}
use Rattle.amqp_session_performatives.specs.declared.disposition.Disposition.{Disposition}
use Rattle.amqp_session_performatives.specs.declared.flow.Flow.{Flow}
use Rattle.amqp_session_performatives.specs.declared.link_flow.LinkFlow.{LinkFlow}
use Rattle.amqp_session_outgoing.specs.Table.{Table, unless_of}
use Rattle.amqp_session_outgoing.specs.declared.delivery.Delivery.{Delivery}
use Rattle.amqp_session_outgoing.specs.Queues.{units_of}
use Rattle.amqp_session_outgoing.specs.History as sending
use Rattle.amqp_session_outgoing.specs.State as side
use Rattle.amqp_session_core.specs.declared.batch.TransferFrame.{TransferFrame}
use Rattle.amqp_session_core.specs.declared.batch.BehindFrame.{BehindFrame}
use Rattle.amqp_session_core.specs.declared.relay.RelayError.{RelayError}
use Rattle.amqp_session_core.specs.declared.relay.Registration.{Registration}
use Rattle.amqp_session_core.specs.declared.relay.Registration.TheVariants.{Unchanged, Unsettled, Settled}
use Rattle.amqp_session_core.specs.Echoes.{Reach, ReachesAt, Walks, opposite, settled_by, without}
use Rattle.amqp_session_core.specs.Relay.{Relations}
use Rattle.amqp_session_core.specs.State.{State, StepsAt, link_at}
use Rattle.amqp_session_core.specs.Steps.{Act, Stays, SendsBegin, TakesBegin, SendsEnd, TakesEnd, TakesAttach}
use Rattle.amqp_session_core.specs.Steps.{TakesFlow, SetsWindow, TakesTransfer, TakesDisposition, TakesDetach}
use Rattle.amqp_session_core.specs.Steps.{SendsBehind, SendsTransfers, SendsDisposition, TellsFlow, Allocates}
use Rattle.amqp_session_core.specs.Steps.{Deallocates, Reserves, Changes, Step, Reply, NoReply, OfSession, OfLink}
use Rattle.amqp_session_core.specs.Steps.{FlowAt, SendsDispositionStep, registers, table_of, with_table}
use Rattle.amqp_session_core.specs.Tables.{RouteTable}
use Rattle.amqp_session_core.specs.History.{History, sending_in, settles, settles_as, own_settles_as, reply_steps}
use Rattle.amqp_session_core.specs.Vacant.{AreOfOthers, IsVacant, gives_handle, is_given}
use Rattle.amqp_session_core.proofs.Bare.{Bare, AreApart, bare-steps, less-others, more-others, without-others, unless-others}
use Rattle.amqp_session_core.proofs.Parting.{parted}
use Rattle.amqp_session_core.proofs.SendingSide.{step-sends}

abbrev Side : Type 0
Side = side.State TransferFrame BehindFrame

-- what a link of another handle does leaves the place as it is
vacant-set : {R : Type 0} (h handle : ℕ) (x : R) (old new : List (Option R)) → handle ≢ h → new ≡ slice_set old handle (Some x)
    → slice_index_or old h None ≡ None → slice_index_or new h None ≡ None
vacant-set h handle x old new apart becomes none =
    ap (λ (ls : List (Option _)). slice_index_or ls h None) becomes ∙ get_or-set_other old handle h (Some x) None (λ e. apart (sym e)) ∙ none

-- where a link lives the handle is another
live-apart : {R : Type 0} (h handle : ℕ) (r : R) (links : List (Option R)) → slice_index_or links handle None ≡ Some r → slice_index_or links h None ≡ None → handle ≢ h
live-apart h handle r links has none = λ e.
    let clash : Some r ≡ None = sym has ∙ ap (λ (k : ℕ). slice_index_or links k None) e ∙ none in
    absurd cc

some-apart : {R : Type 0} (h handle : ℕ) (links : List (Option R)) → IsSome (slice_index_or links handle None) → slice_index_or links h None ≡ None → handle ≢ h
some-apart h handle links some none = by (slice_index_or links handle None) refl some
  where
    by : (o : Option _) → slice_index_or links handle None ≡ o → IsSome o → handle ≢ h
    by None e is = absurd cc
    by (Some r) e is = live-apart h handle r links e none

vacant-at : {R : Type 0} (h handle : ℕ) (step : R → R → Type 0) (old new : List (Option R)) → StepsAt step old handle new
    → slice_index_or old h None ≡ None → slice_index_or new h None ≡ None
vacant-at h handle step old new at none = vacant-set h handle at.after old new (live-apart h handle at.before old at.had none) at.others none

registers-others : (table : Table) (handle h : ℕ) (registration : Registration) → handle ≢ h → AreOfOthers h table → AreOfOthers h (registers table handle registration)
registers-others table handle h Unchanged apart others = others
registers-others table handle h (Unsettled number tag) apart others = more-others table number h (record { handle = record { 0 = handle }; tag = tag }) apart others
registers-others table handle h (Settled number) apart others = less-others table number h others

-- nothing is accepted but in a batch
settles-apart : (h : ℕ) (numbers : List ℕ) → AreApart h (settles numbers)
settles-apart h [] = tt
settles-apart h (n ∷ ns) = (tt, settles-apart h ns)

settles_as-apart : (h : ℕ) (role : Role) (numbers : List ℕ) → AreApart h (settles_as role numbers)
settles_as-apart h Receiver numbers = settles-apart h numbers
settles_as-apart h Sender numbers = tt

own_settles_as-apart : (h : ℕ) (role : Role) (numbers : List ℕ) → AreApart h (own_settles_as role numbers)
own_settles_as-apart h Sender numbers = settles-apart h numbers
own_settles_as-apart h Receiver numbers = tt

reply-apart : (h : ℕ) (reply : Reply) (base width : ℕ) (left : List _) → AreApart h (reply_steps reply ++ sending.TakesWindow base width left ∷ [])
reply-apart h NoReply base width left = (tt, tt)
reply-apart h OfSession base width left = (tt, tt)
reply-apart h (OfLink handle flow later) base width left = (tt, (tt, tt))

module _ {R A T D : Type 0} (gives : Relations R A T D) where
  abbrev Does : State R → Act R A T D → State R → Type 0
  Does = Step gives

  vacant-flow : (h : ℕ) (old : List (Option R)) (routes : RouteTable) (flow : Flow) (named : Option Handle) (told : Option (ℕ × Result (Option LinkFlow) RelayError)) (new : List (Option R))
      → FlowAt gives old routes flow named told new → slice_index_or old h None ≡ None → slice_index_or new h None ≡ None
  vacant-flow h old routes flow None None new at none = ap (λ (ls : List (Option R)). slice_index_or ls h None) at ∙ none
  vacant-flow h old routes flow None (Some told) new at none = absurd at
  vacant-flow h old routes flow (Some handle) None new at none = absurd at
  vacant-flow h old routes flow (Some handle) (Some (k, said)) new at none = vacant-at h k _ old new at.1 none

  vacant-reach : (h : ℕ) (d : Disposition) (x : Reach) (here : Option R) (old new : List (Option R))
      → ReachesAt gives.disposes d old here x new → slice_index_or old h None ≡ None → slice_index_or new h None ≡ None
  vacant-reach h d x None old new at none = ap (λ (ls : List (Option R)). slice_index_or ls h None) at.2 ∙ none
  vacant-reach h d x (Some l) old new at none = vacant-at h x.handle _ old new at.1 none

  vacant-walk : (h : ℕ) (d : Disposition) (table : Table) (numbers : List ℕ) (old : List (Option R)) (walk : List Reach) (new : List (Option R))
      → Walks gives.disposes d table numbers old walk new → slice_index_or old h None ≡ None → slice_index_or new h None ≡ None
  vacant-walk h d table [] old [] new w none = ap (λ (ls : List (Option R)). slice_index_or ls h None) w ∙ none
  vacant-walk h d table [] old (x ∷ walk) new w none = absurd w
  vacant-walk h d table (n ∷ ns) old [] new w none = absurd w
  vacant-walk h d table (n ∷ ns) old (x ∷ walk) new w none =
      vacant-walk h d table ns w.0 walk new w.4 (vacant-reach h d x (slice_index_or old x.handle None) old w.0 w.3 none)

  -- the links and what came
  pub record Lacks (h : ℕ) (s : State R) : Type 0 where
    pub link : link_at s h ≡ None
    pub received : AreOfOthers h s.received

  as-it-was : (h : ℕ) (new s : State R) → new ≡ s → Lacks h s → Lacks h new
  as-it-was h new s is lacks = subst (λ (x : State R). Lacks h x) (sym is) lacks

  but-for : (h : ℕ) (old new s : State R) → new ≡ s → s.links ≡ new.links → s.received ≡ old.received → slice_index_or new.links h None ≡ None → Lacks h old → Lacks h new
  but-for h old new s is links received none lacks =
      record {
        link = none;
        received = subst (λ (t : Table). AreOfOthers h t) (sym (ap (λ (x : State R). x.received) is ∙ received)) lacks.received;
      }

  without-table : (h : ℕ) (role : Role) (old : State R) (numbers : List ℕ) → AreOfOthers h old.received → AreOfOthers h (with_table role (without (table_of role old) numbers) old).received
  without-table h Receiver old numbers others = others
  without-table h Sender old numbers others = without-others old.received numbers h others

  links-table : (role : Role) (table : Table) (s : State R) → (with_table role table s).links ≡ s.links
  links-table Sender table s = refl
  links-table Receiver table s = refl

  lacks-walked : (h : ℕ) (role : Role) (old new : State R) (links : List (Option R)) (numbers : List ℕ) → new ≡ with_table role (without (table_of role old) numbers) (record old { links = links })
      → slice_index_or new.links h None ≡ None → Lacks h old → Lacks h new
  lacks-walked h Receiver old new links numbers is none lacks = but-for h old new _ is (sym (ap (λ (x : State R). x.links) is)) refl none lacks
  lacks-walked h Sender old new links numbers is none lacks =
      record {
        link = none;
        received = subst (λ (t : Table). AreOfOthers h t) (sym (ap (λ (x : State R). x.received) is)) (without-others old.received numbers h lacks.received);
      }

  lacks-sent : (h : ℕ) (settled : Bool) (old : State R) (d : Disposition) (numbers : List ℕ) (new : State R) → SendsDispositionStep gives settled old d numbers new → Lacks h old → Lacks h new
  lacks-sent h false old d numbers new s lacks = as-it-was h new old s.1 lacks
  lacks-sent h true old d numbers new s lacks =
      as-it-was h new _ s.1 (record {
        link = ap (λ (ls : List (Option R)). slice_index_or ls h None) (links-table (opposite d.role) _ old) ∙ lacks.link;
        received = without-table h (opposite d.role) old numbers lacks.received;
      })

  lacks-given : (h handle : ℕ) (x : R) (old new : State R) → ((other : ℕ) → link_at new other ≡ (if other == handle then Some x else link_at old other))
      → (handle == h) ≡ false → link_at old h ≡ None → link_at new h ≡ None
  lacks-given h handle x old new becomes apart none =
      elim (eqb_tells h handle) [
        | inl p ↦ absurd (let e : (handle == h) ≡ true = eq-eqb handle h (sym p.1) in cc)
        | inr p ↦ becomes h ∙ ap (λ (b : Bool). if b then Some x else link_at old h) p.0 ∙ none
      ]

  lacks-freed : (h handle : ℕ) (old new : State R) → ((other : ℕ) → link_at new other ≡ (if other == handle then None else link_at old other)) → link_at old h ≡ None → link_at new h ≡ None
  lacks-freed h handle old new becomes none = becomes h ∙ by (h == handle)
    where
      by : (b : Bool) → (if b then None else link_at old h) ≡ None
      by true = refl
      by false = none

  lacks-step : (h : ℕ) (step : Act R A T D) (old new : State R) → Does old step new → gives_handle h step ≡ false
      → Lacks h old → Lacks h new
  lacks-step h Stays old new s g lacks = as-it-was h new old s lacks
  lacks-step h (SendsBegin frame) old new s g lacks = as-it-was h new _ s.2 (record { link = lacks.link; received = lacks.received })
  lacks-step h (TakesBegin channel begin base left frames) old new s g lacks = as-it-was h new _ s.5 (record { link = lacks.link; received = lacks.received })
  lacks-step h (SendsEnd error frame) old new s g lacks = as-it-was h new _ s.2 (record { link = lacks.link; received = lacks.received })
  lacks-step h TakesEnd old new s g lacks = as-it-was h new _ s.1 (record { link = lacks.link; received = lacks.received })
  lacks-step h (TakesAttach handle attach (Ok told)) old new s g lacks = but-for h old new _ s.2 refl refl (vacant-at h handle _ old.links new.links s.1 lacks.link) lacks
  lacks-step h (TakesAttach handle attach (Err e)) old new s g lacks = but-for h old new _ s.2 refl refl (vacant-at h handle _ old.links new.links s.1 lacks.link) lacks
  lacks-step h (TakesFlow flow told reply base left frames) old new s g lacks =
      but-for h old new _ s.becomes refl refl (vacant-flow h old.links old.routes flow flow.handle told new.links s.link lacks.link) lacks
  lacks-step h (SetsWindow flow base) old new s g lacks = as-it-was h new _ s.2 (record { link = lacks.link; received = lacks.received })
  lacks-step h (TakesTransfer handle transfer payload (Ok told) flow) old new s g lacks =
      record {
        link = vacant-at h handle _ old.links new.links s.1 lacks.link;
        received =
            subst (λ (t : Table). AreOfOthers h t) (sym (ap (λ (x : State R). x.received) s.3))
            (registers-others old.received handle h told.registration (live-apart h handle s.1.before old.links s.1.had lacks.link) lacks.received);
      }
  lacks-step h (TakesTransfer handle transfer payload (Err e) flow) old new s g lacks = but-for h old new _ s.3 refl refl (vacant-at h handle _ old.links new.links s.1 lacks.link) lacks
  lacks-step h (TakesDisposition d walk echoes) old new s g lacks =
      lacks-walked h d.role old new new.links (settled_by d.settled walk) s.becomes (vacant-walk h d _ s.numbers old.links walk new.links s.walked lacks.link) lacks
  lacks-step h (TakesDetach handle detach (Ok told)) old new s g lacks = but-for h old new _ s.2 refl refl (vacant-at h handle _ old.links new.links s.1 lacks.link) lacks
  lacks-step h (TakesDetach handle detach (Err e)) old new s g lacks = but-for h old new _ s.2 refl refl (vacant-at h handle _ old.links new.links s.1 lacks.link) lacks
  lacks-step h (SendsBehind handle frame left answer) old new s g lacks = as-it-was h new _ s.2 (record { link = lacks.link; received = lacks.received })
  lacks-step h (SendsTransfers handle batch left frames) old new s g lacks = as-it-was h new _ s.2 (record { link = lacks.link; received = lacks.received })
  lacks-step h (SendsDisposition d numbers) old new s g lacks = lacks-sent h d.settled old d numbers new s lacks
  lacks-step h (TellsFlow frame) old new s g lacks = as-it-was h new _ s.1 (record { link = lacks.link; received = lacks.received })
  lacks-step h (Allocates handle x None) old new s g lacks = but-for h old new _ s.4 refl refl (lacks-given h handle x old new s.3 g lacks.link) lacks
  lacks-step h (Allocates handle x (Some input)) old new s g lacks = but-for h old new _ s.5 refl refl (lacks-given h handle x old new s.4 g lacks.link) lacks
  lacks-step h (Deallocates handle) old new s g lacks =
      record { link = lacks-freed h handle old new s.0 lacks.link; received = unless-others old.received new.received handle h s.3 lacks.received }
  lacks-step h (Reserves count) old new s g lacks = as-it-was h new _ s.1 (record { link = lacks.link; received = lacks.received })
  lacks-step h (Changes handle before x) old new s g lacks =
      but-for h old new _ s.1 (sym (ap (λ (y : State R). y.links) s.1)) refl
      (vacant-set h handle x old.links new.links (live-apart h handle before old.links s.0 lacks.link) (ap (λ (y : State R). y.links) s.1) lacks.link) lacks

  -- what is accepted is of a link that lives
  step-apart : (h : ℕ) (step : Act R A T D) (old new : State R) → Does old step new → link_at old h ≡ None
      → AreApart h (sending_in step)
  step-apart h Stays old new s none = tt
  step-apart h (SendsBegin frame) old new s none = tt
  step-apart h (TakesBegin channel begin base left frames) old new s none = (tt, tt)
  step-apart h (SendsEnd error frame) old new s none = tt
  step-apart h TakesEnd old new s none = tt
  step-apart h (TakesAttach handle attach told) old new s none = tt
  step-apart h (TakesFlow flow told reply base left frames) old new s none = reply-apart h reply base flow.incoming_window left
  step-apart h (SetsWindow flow base) old new s none = (tt, tt)
  step-apart h (TakesTransfer handle transfer payload told flow) old new s none = tt
  step-apart h (TakesDisposition d walk echoes) old new s none = settles_as-apart h d.role (settled_by d.settled walk)
  step-apart h (TakesDetach handle detach told) old new s none = tt
  step-apart h (SendsBehind handle frame left answer) old new s none = (tt, tt)
  step-apart h (SendsTransfers handle batch left frames) old new s none = (some-apart h handle.0 old.links s.3 none, tt)
  step-apart h (SendsDisposition d numbers) old new s none = own_settles_as-apart h d.role numbers
  step-apart h (TellsFlow frame) old new s none = tt
  step-apart h (Allocates handle link input) old new s none = tt
  step-apart h (Deallocates handle) old new s none = (tt, tt)
  step-apart h (Reserves count) old new s none = (tt, tt)
  step-apart h (Changes handle before after) old new s none = tt

  vacant-step : (h : ℕ) (step : Act R A T D) (old new : State R) → Does old step new → gives_handle h step ≡ false
      → IsVacant old h → IsVacant new h
  vacant-step h step old new s g vacant =
      let lacks : Lacks h new = lacks-step h step old new s g (record { link = vacant.link; received = vacant.received }) in
      let bare : Bare h new.outgoing =
      bare-steps h (sending_in step) old.outgoing new.outgoing (step-sends gives step old new s) (step-apart h step old new s vacant.link) (record { waits = vacant.waits; sent = vacant.sent }) in
      record { link = lacks.link; waits = bare.waits; sent = bare.sent; received = lacks.received }

  neither : (b c : Bool) → (if b then true else c) ≡ false → (b ≡ false) × (c ≡ false)
  neither true c e = absurd cc
  neither false c e = (refl, e)

  vacant-on : (h : ℕ) (steps : List (Act R A T D)) (start end : State R) → History gives start steps end
      → is_given h steps ≡ false → IsVacant start h → IsVacant end h
  vacant-on h [] start end run g vacant = subst (λ (s : State R). IsVacant s h) (sym run) vacant
  vacant-on h (step ∷ steps) start end run g vacant =
      let apart = neither (gives_handle h step) (is_given h steps) g in
      vacant-on h steps run.0 end run.2 apart.1 (vacant-step h step start run.0 run.1 apart.0 vacant)

  -- what is left is of other links
  of-another : (handle : ℕ) (had : Option Delivery) (delivery : Delivery) → unless_of handle had ≡ Some delivery → (delivery.handle).0 ≢ handle
  of-another handle None delivery is = absurd cc
  of-another handle (Some d) delivery is = by ((d.handle).0 == handle) refl is
    where
      by : (b : Bool) → ((d.handle).0 == handle) ≡ b → (if b then None else Some d) ≡ Some delivery → (delivery.handle).0 ≢ handle
      by true e same = absurd cc
      by false e same = λ is_it.
          let here : d ≡ delivery = cc in
          let clash : ((d.handle).0 == handle) ≡ true = eq-eqb (d.handle).0 handle (ap (λ (x : Delivery). (x.handle).0) here ∙ is_it) in
          absurd cc

  vacant-freed : (h : ℕ) (old new : State R) → Does old (Deallocates h) new → IsVacant new h
  vacant-freed h old new s =
      record {
        link = s.0 h ∙ ap (λ (b : Bool). if b then None else link_at old h) (eq-eqb h h refl);
        waits = ap (λ (o : Side). units_of h o.queues) s.2.1 ∙ s.5;
        sent = λ number delivery is. of-another h _ delivery (sym (s.2.0 number) ∙ is);
        received = λ number delivery is. of-another h _ delivery (sym (s.3 number) ∙ is);
      }

  pub stays-vacant : (start end : State R) (handle : ℕ) (steps later : List (Act R A T D))
      → History gives start (steps ++ Deallocates handle ∷ later) end → is_given handle later ≡ false → IsVacant end handle
  stays-vacant start end handle steps later run g =
      let parts = parted gives steps (Deallocates handle ∷ later) start end run in
      vacant-on handle later parts.behind.0 end parts.behind.2 g (vacant-freed handle parts.mid parts.behind.0 parts.behind.1)
