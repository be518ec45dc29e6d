-- On the sending side nothing of a handle waits or is unsettled, and so it stays until something is accepted for it.
use Rattle.std.proofs.Common.{◌≡◌, ◌≢◌, inl, inr, ℕ, ◌==◌, List, [], ◌∷◌, ◌++◌, Bool, true, false, cond, not, if◌then◌else◌, Option, Some, None, refl, sym, ap, subst, ◌∙◌}
use Rattle.std.proofs.lemmas.Bool.Decides.{eqb_tells}
use Rattle.std.specs.FinMap as tables
use Rattle.amqp_session_types.specs.declared.handles.OutputHandle.{OutputHandle}
use Rattle.amqp_session_outgoing.specs.Table.{Table, unless_of}
use Rattle.amqp_session_outgoing.specs.declared.delivery.Delivery.{Delivery}
use Rattle.amqp_session_outgoing.specs.Outside.{names, outside}
use Rattle.amqp_session_outgoing.specs.declared.range.DeliveryRange.{DeliveryRange}
use Rattle.amqp_session_outgoing.proofs.Lacking.{get-outside}
use Rattle.amqp_session_types.proofs.Tables.{get-put, get-take}
use Rattle.amqp_session_outgoing.specs.Queues.{Queues, TakesTurn, TakesTurnOf, units_of, joined, followed, rejoined, trailed}
use Rattle.amqp_session_outgoing.specs.State as sending
use Rattle.amqp_session_outgoing.specs.History as history
use Rattle.amqp_session_outgoing.specs.declared.frames.Part.{Part}
use Rattle.amqp_session_outgoing.specs.declared.frames.Part.TheVariants.{Untagged, Settled, Unsettled, Continuation}
use Rattle.amqp_session_outgoing.specs.declared.frames.Outbound.{Outbound}
use Rattle.amqp_session_outgoing.specs.declared.frames.Sent.{Sent}
use Rattle.amqp_session_outgoing.proofs.Order.{joined-units, followed-units}
use Rattle.amqp_session_core.specs.declared.batch.TransferFrame.{TransferFrame}
use Rattle.amqp_session_core.specs.declared.batch.BehindFrame.{BehindFrame}
use Rattle.amqp_session_core.specs.Echoes.{without}
use Rattle.amqp_session_core.specs.Vacant.{AreOfOthers}

abbrev Side : Type 0
Side = sending.State TransferFrame BehindFrame

abbrev Unit_ : Type 0
Unit_ = Outbound TransferFrame BehindFrame

-- one delivery less, or one of another handle more
pub less-others : (t : Table) (key h : ℕ) → AreOfOthers h t → AreOfOthers h (tables.remove t key)
less-others t key h others number delivery is = by (number == key) refl
  where
    got : (b : Bool) → (number == key) ≡ b → cond b None (tables.get t number) ≡ Some delivery
    got b e = ap (λ (x : Bool). cond x None (tables.get t number)) (sym e) ∙ sym (get-take t key number) ∙ is

    by : (b : Bool) → (number == key) ≡ b → (delivery.handle).0 ≢ h
    by true e = absurd (let clash : None ≡ Some delivery = got true e in cc)
    by false e = others number delivery (got false e)

pub more-others : (t : Table) (key h : ℕ) (v : Delivery) → (v.handle).0 ≢ h → AreOfOthers h t → AreOfOthers h (tables.insert t key v)
more-others t key h v apart others number delivery is = by (number == key) refl
  where
    got : (b : Bool) → (number == key) ≡ b → cond b (Some v) (tables.get t number) ≡ Some delivery
    got b e = ap (λ (x : Bool). cond x (Some v) (tables.get t number)) (sym e) ∙ sym (get-put t key number v) ∙ is

    by : (b : Bool) → (number == key) ≡ b → (delivery.handle).0 ≢ h
    by true e = λ same. let found : Some v ≡ Some delivery = got true e in let here : v ≡ delivery = cc in apart (ap (λ (d : Delivery). (d.handle).0) here ∙ same)
    by false e = others number delivery (got false e)

pub without-others : (t : Table) (numbers : List ℕ) (h : ℕ) → AreOfOthers h t → AreOfOthers h (without t numbers)
without-others t [] h others = others
without-others t (n ∷ ns) h others = without-others (tables.remove t n) ns h (less-others t n h others)

outside-others : (range : DeliveryRange) (t : Table) (h : ℕ) → AreOfOthers h t → AreOfOthers h (outside range t)
outside-others range t h others number delivery is = by (not (names range number)) (sym (get-outside range t number) ∙ is)
  where
    by : (b : Bool) → cond b (tables.get t number) None ≡ Some delivery → (delivery.handle).0 ≢ h
    by true e = others number delivery e
    by false e = absurd cc

-- those of another handle are forgotten, or of this one
unless-some : (handle : ℕ) (had : Option Delivery) (delivery : Delivery) → unless_of handle had ≡ Some delivery → had ≡ Some delivery
unless-some handle None delivery is = is
unless-some handle (Some d) delivery is = by ((d.handle).0 == handle) is
  where
    by : (b : Bool) → (if b then None else Some d) ≡ Some delivery → Some d ≡ Some delivery
    by true e = absurd cc
    by false e = e

pub unless-others : (old new : Table) (handle h : ℕ) → ((number : ℕ) → tables.get new number ≡ unless_of handle (tables.get old number)) → AreOfOthers h old → AreOfOthers h new
unless-others old new handle h are others number delivery is = others number delivery (unless-some handle (tables.get old number) delivery (sym (are number) ∙ is))

-- nothing of the handle waits or is unsettled
pub record Bare (h : ℕ) (s : Side) : Type 0 where
  pub waits : units_of h s.queues ≡ []
  pub sent : AreOfOthers h s.unsettled

push-other : (h k : ℕ) (us : List Unit_) (qs : Queues TransferFrame BehindFrame) → k ≢ h → units_of h (qs ++ (k, us) ∷ []) ≡ units_of h qs
push-other h k us [] n =
    elim (eqb_tells k h) [
      | inl p ↦ absurd (n p.1)
      | inr p ↦ ap (λ (b : Bool). if b then us else []) p.0
    ]
push-other h k us (q ∷ qs) n = ap (λ (xs : List Unit_). if q.0 == h then q.1 else xs) (push-other h k us qs n)

rejoined-other : (h k : ℕ) (us : List Unit_) (qs : Queues TransferFrame BehindFrame) → k ≢ h → units_of h (rejoined k us qs) ≡ units_of h qs
rejoined-other h k [] qs n = refl
rejoined-other h k (u ∷ us) qs n = push-other h k (u ∷ us) qs n

-- a turn is another link's
turn-of : (h k : ℕ) (us : List Unit_) (rest : Queues TransferFrame BehindFrame) (handle : ℕ) (taken : Unit_) (new : Queues TransferFrame BehindFrame)
    → (if k == h then us else units_of h rest) ≡ [] → TakesTurnOf k us rest handle taken new → (handle ≢ h) × (units_of h new ≡ [])
turn-of h k [] rest handle taken new none t = absurd t
turn-of h k (u ∷ us) rest handle taken new none t =
    elim (eqb_tells k h) [
      | inl p ↦ absurd (let clash : u ∷ us ≡ [] = sym (ap (λ (b : Bool). if b then u ∷ us else units_of h rest) p.0) ∙ none in cc)
      | inr p ↦
          let left : units_of h rest ≡ [] = sym (ap (λ (b : Bool). if b then u ∷ us else units_of h rest) p.0) ∙ none in
          ((λ same. p.1 (sym t.0 ∙ same)), ap (λ (qs : Queues TransferFrame BehindFrame). units_of h qs) t.2 ∙ rejoined-other h k us rest p.1 ∙ left)
    ]

turn-other : (h : ℕ) (old : Queues TransferFrame BehindFrame) (handle : ℕ) (taken : Unit_) (new : Queues TransferFrame BehindFrame)
    → units_of h old ≡ [] → TakesTurn old handle taken new → (handle ≢ h) × (units_of h new ≡ [])
turn-other h [] handle taken new none t = absurd t
turn-other h (q ∷ rest) handle taken new none t = turn-of h q.0 q.1 rest handle taken new none t

registered-others : (t : Table) (number h : ℕ) (handle : OutputHandle) (part : Part) → handle.0 ≢ h → AreOfOthers h t → AreOfOthers h (sending.registered t number handle part)
registered-others t number h handle Untagged apart others = others
registered-others t number h handle Settled apart others = others
registered-others t number h handle (Unsettled tag) apart others = more-others t number h (record { handle = handle; tag = tag }) apart others
registered-others t number h handle Continuation apart others = others

sends-bare : (h : ℕ) (old new : Side) (sent : Sent TransferFrame BehindFrame) → sending.Sends old sent new → Bare h old → Bare h new
sends-bare h old new sent s bare =
    let turn : ((sent.handle).0 ≢ h) × (units_of h new.queues ≡ []) = turn-other h old.queues (sent.handle).0 s.taken new.queues bare.waits s.turn in
    record {
      waits = turn.1;
      sent =
          subst (λ (t : Table). AreOfOthers h t) (sym (ap (λ (x : Side). x.unsettled) s.becomes))
          (registered-others old.unsettled old.next_delivery_number h sent.handle (s.taken).part turn.0 bare.sent);
    }

leaves-bare : (h : ℕ) (left : List (Sent TransferFrame BehindFrame)) (old new : Side) → sending.Leaves old left new → Bare h old → Bare h new
leaves-bare h [] old new run bare = subst (λ (s : Side). Bare h s) (sym run) bare
leaves-bare h (sent ∷ more) old new run bare = leaves-bare h more run.0 new run.2 (sends-bare h old run.0 sent run.1 bare)

-- nothing is accepted for the handle
abbrev pub IsApart : ℕ → history.Act TransferFrame BehindFrame → Type 0
IsApart h (history.Accepts handle batch left) = handle.0 ≢ h
IsApart h step = Unit {0}

trailed-none : (b : Bool) (frame : BehindFrame) (us : List Unit_) → us ≡ [] → (if b then trailed frame us else us) ≡ []
trailed-none true frame [] e = refl
trailed-none true frame (u ∷ us) e = absurd cc
trailed-none false frame us e = e

follows-bare : (h k : ℕ) (frame : BehindFrame) (qs : Queues TransferFrame BehindFrame) → units_of h qs ≡ [] → units_of h (followed k frame qs) ≡ []
follows-bare h k frame qs none = followed-units h k frame qs ∙ trailed-none (k == h) frame (units_of h qs) none

joined-bare : (h k : ℕ) (batch : List Unit_) (qs : Queues TransferFrame BehindFrame) → k ≢ h → units_of h qs ≡ [] → units_of h (joined k batch qs) ≡ []
joined-bare h k batch qs n none =
    joined-units h k batch qs
    ∙ ap (λ (us : List Unit_). us ++ (if k == h then batch else [])) none
    ∙ elim (eqb_tells k h) [
      | inl p ↦ absurd (n p.1)
      | inr p ↦ ap (λ (b : Bool). if b then batch else []) p.0
    ]

pub bare-step : (h : ℕ) (step : history.Act TransferFrame BehindFrame) (old new : Side) → history.Step old step new
    → IsApart h step → Bare h old → Bare h new
bare-step h (history.TakesWindow base width left) old new s apart bare = leaves-bare h left (sending.with_window old base width) new s.0 (record { waits = bare.waits; sent = bare.sent })
bare-step h (history.SetsWindow base width) old new s apart bare = subst (λ (x : Side). Bare h x) (sym s) (record { waits = bare.waits; sent = bare.sent })
bare-step h (history.Accepts handle [] left) old new s apart bare = subst (λ (x : Side). Bare h x) (sym s.1) bare
bare-step h (history.Accepts handle (u ∷ us) left) old new s apart bare =
    leaves-bare h left (sending.with_batch old handle.0 (u ∷ us)) new s.2 (record { waits = joined-bare h handle.0 (u ∷ us) old.queues apart bare.waits; sent = bare.sent })
bare-step h (history.Refuses batch error) old new s apart bare = subst (λ (x : Side). Bare h x) (sym s.1) bare
bare-step h (history.Follows handle frame None) old new s apart bare =
    subst (λ (x : Side). Bare h x) (sym (s.1 ∙ ap (λ (qs : Queues TransferFrame BehindFrame). record old { queues = qs }) s.0.1))
    (record { waits = follows-bare h handle.0 frame old.queues bare.waits; sent = bare.sent })
bare-step h (history.Follows handle frame (Some left)) old new s apart bare =
    subst (λ (x : Side). Bare h x) (sym (s.1 ∙ ap (λ (qs : Queues TransferFrame BehindFrame). record old { queues = qs }) s.0.2)) (record { waits = bare.waits; sent = bare.sent })
bare-step h (history.Reserves count) old new s apart bare = subst (λ (x : Side). Bare h x) (sym s) (record { waits = bare.waits; sent = bare.sent })
bare-step h (history.Settles number) old new s apart bare = subst (λ (x : Side). Bare h x) (sym s) (record { waits = bare.waits; sent = less-others old.unsettled number h bare.sent })
bare-step h (history.SettlesRange range) old new s apart bare =
    subst (λ (x : Side). Bare h x) (sym s) (record { waits = bare.waits; sent = outside-others range old.unsettled h bare.sent })
bare-step h (history.Forgets handle) old new s apart bare =
    subst (λ (x : Side). Bare h x) (sym s.1) (record { waits = bare.waits; sent = unless-others old.unsettled new.unsettled handle.0 h s.0 bare.sent })
bare-step h history.Fails old new s apart bare = subst (λ (x : Side). Bare h x) (sym s) bare

abbrev pub AreApart : ℕ → List (history.Act TransferFrame BehindFrame) → Type 0
AreApart h [] = Unit {0}
AreApart h (step ∷ steps) = IsApart h step × AreApart h steps

pub bare-steps : (h : ℕ) (steps : List (history.Act TransferFrame BehindFrame)) (old new : Side)
    → history.History old steps new → AreApart h steps → Bare h old → Bare h new
bare-steps h [] old new run apart bare = subst (λ (x : Side). Bare h x) (sym run) bare
bare-steps h (step ∷ steps) old new run apart bare = bare-steps h steps run.0 new run.2 apart.1 (bare-step h step old run.0 run.1 apart.0 bare)
