-- One handle of the peer's leads to a receiving link that is attached, and no other does, as long as it is attached.
use Rattle.std.proofs.Common.{◌≡◌, ◌==◌, ◌⊎◌, inl, inr, ℕ, Bool, true, false, List, [], ◌∷◌, Option, Some, None, IsSome}
use Rattle.std.proofs.Common.{ap, if◌then◌else◌, refl, sym, subst, true≢false, ◌∙◌}
use Rattle.std.proofs.lemmas.Bool.Decides.{eqb_tells}
use Rattle.std.proofs.lemmas.Option.{none-some, same_Some}
use Rattle.std.specs.FinMap as map
use Rattle.std.specs.Prelude.{is_some}
use Rattle.amqp_session_types.specs.declared.handles.OutputHandle.{OutputHandle}
use Rattle.amqp_session_performatives.specs.declared.attach.Attach.{Attach}
use Rattle.amqp_session_performatives.specs.declared.session_frame.SessionFrame.{SessionFrame}
use Rattle.amqp_session_frames.specs.declared.frame.FrameBody.{FrameBody}
use Rattle.amqp_session_frames.specs.declared.frame.FrameBody.TheVariants as body
use Rattle.amqp_session_core.specs.State.{link_at, live_in, reached as link_reached}
use Rattle.amqp_link_receiver.specs.Deliveries.{Delivery}
use Rattle.amqp_endpoint_attached.specs.Linked.{gives}
use Rattle.amqp_endpoint_attached.specs.Links.{receiver_by, sender_by}
use Rattle.amqp_endpoint_attached.specs.Receiving.{receiving}
use Rattle.amqp_endpoint_laws.specs.Deeds.{AreDone, Deed, Does, IsDeed, Takes}
use Rattle.amqp_endpoint_link_hearing.specs.Naming.{link_in}
use Rattle.amqp_endpoint.specs.Does.{linked}
use Rattle.amqp_endpoint.specs.declared.linked.LinkedSessions.{LinkedSessions}
use Rattle.amqp_endpoint_linking.specs.Linking.{Link, Session}
use Rattle.amqp_endpoint_links.proofs.Routing.{Routed, none-routed, routed-on}
use Rattle.amqp_endpoint_model.specs.Relay.{IsNew}
use Rattle.amqp_endpoint_model.specs.Said.{Said, attaching}
use Rattle.amqp_endpoint_model.specs.declared.call.Call.{Call}
use Rattle.amqp_endpoint_model.specs.declared.call.Call.TheVariants as call
use Rattle.amqp_endpoint_model.specs.declared.event.Event.{Event}
use Rattle.amqp_endpoint_model.specs.declared.settings.Settings.{Settings}
use Rattle.amqp_endpoint_tables.specs.State.{live_at}
use Rattle.amqp_endpoint_tables.proofs.Owning.{same_number}
use Rattle.amqp_endpoint_conversation.specs.Windows.{Passing}
use Rattle.amqp_endpoint_laws.specs.Handed.{IsReceiving, PassesOn, ReachIn, leads_there, pieces_on}
use Rattle.amqp_endpoint_laws.specs.Held.{number_live, number_of}
use Rattle.amqp_endpoint_laws.specs.Passed.{is_it}
use Rattle.amqp_endpoint_laws.proofs.HoldingWaits.{unattached}
use Rattle.amqp_endpoint_laws.proofs.Placing.{is-again, is-new}
use Rattle.amqp_endpoint_laws.proofs.HandedBy.{HearsAt, frame-leads}
use Rattle.amqp_endpoint_laws.proofs.HandedOn.{LeadsOnly, reach-on}
use Rattle.amqp_endpoint_laws.proofs.HandedOut.{HearsOne, receives-holds, receives-so}
use Rattle.amqp_endpoint_laws.proofs.HoldingDeeds.{attach-goes, attached-enters, deed-rests}
use Rattle.amqp_endpoint_laws.proofs.HoldingEnds.{Goes, Holding, Part, Stays}
use Rattle.amqp_endpoint_laws.proofs.HoldingInside.{was-so}
use Rattle.amqp_endpoint_laws.proofs.HoldingTalk.{AttachesAt, EntersAt, LeadsFirstAt, LeadsMoreAt, LeadsStillAt}
use Rattle.amqp_endpoint_laws.proofs.HoldingTalk.{RestsAt, held_in, leads_in}
use Rattle.amqp_endpoint_laws.proofs.LeadingStill.{live-is}
use Rattle.amqp_endpoint_laws.proofs.PassedKept.{some-passes}
use Rattle.amqp_endpoint_laws.proofs.PassedPlaces.{eq-same}
use Rattle.amqp_endpoint_laws.proofs.PassedSteps.{session-come}
use Rattle.amqp_endpoint_laws.proofs.QueuedAttached.{Reached, reached-on}

-- in a session that goes on one handle of the peer's leads to a receiving link that is attached, and no other does, and
-- none to one that waits for the peer's Attach
pub record LeadsWell (o : Option Session) : Type 0 where
  pub some :
      (h k : ℕ) (held : Option Delivery) → held_in o h ≡ Some (k, (true, held)) → (a : ℕ) × (leads_in o a ≡ Some h)
  pub one :
      (h k : ℕ) (held : Option Delivery) → held_in o h ≡ Some (k, (true, held)) → (a b : ℕ)
      → leads_in o a ≡ Some h → leads_in o b ≡ Some h → a ≡ b
  pub none :
      (h k : ℕ) (held : Option Delivery) → held_in o h ≡ Some (k, (false, held)) → (a : ℕ)
      → leads_in o a ≡ Some h → ⊥

-- what a deed does in a session: nothing comes to lead to another link, or a transfer is heard, or a link takes the
-- peer's Attach, or one enters
abbrev LeadsBy : Option Session → Option Session → Type 0
LeadsBy old new =
    RestsAt old new ⊎ HearsAt old new ⊎ ((attach : Attach) × LeadsMoreAt attach old new)
    ⊎ ((handle : ℕ) × LeadsFirstAt handle old new)

part-of : (k n : ℕ) (x y : Part) (a : Holding) → a ≡ Some (k, x) → a ≡ Some (n, y) → x ≡ y
part-of k n x y a e f = ap (λ (p : ℕ × Part). p.1) (same_Some (k, x) (n, y) (sym e ∙ f))

module _ (old new : Option Session) (w : LeadsWell old) where
  -- one that led there does so still
  some-still : LeadsStillAt old new → (h k n : ℕ) (held later : Option Delivery)
      → held_in old h ≡ Some (k, (true, held)) → held_in new h ≡ Some (n, (true, later))
      → (a : ℕ) × (leads_in new a ≡ Some h)
  some-still keeps h k n held later was is =
      let (a, led) = w.some h k held was in (a, keeps a h n later led is)

  some-stays : LeadsStillAt old new → (h k : ℕ) (held : Option Delivery) → held_in new h ≡ Some (k, (true, held))
      → Stays (held_in old h) (held_in new h) → (a : ℕ) × (leads_in new a ≡ Some h)
  some-stays keeps h k held is stays =
      some-still keeps h k k held held (was-so (held_in old h) (held_in new h) (k, (true, held)) stays is) is

  well-rests : RestsAt old new → LeadsWell new
  well-rests r =
      record {
        some = λ h k held is. some-stays r.keeps h k held is (r.holds h);
        one = λ h k held is a b la lb.
            w.one h k held (was-so (held_in old h) (held_in new h) (k, (true, held)) (r.holds h) is) a b
            (r.leads a h la) (r.leads b h lb);
        none = λ h k held is a la.
            w.none h k held (was-so (held_in old h) (held_in new h) (k, (false, held)) (r.holds h) is) a
            (r.leads a h la);
      }

  -- a transfer is heard
  well-heard : HearsAt old new → LeadsWell new
  well-heard t =
      record {
        some = λ h k held is. some h k held is (t.hears h);
        one = λ h k held is a b la lb. one h k held is a b la lb (t.hears h);
        none = λ h k held is a la. none h k held is a la (t.hears h);
      }
    where
      some : (h k : ℕ) (held : Option Delivery) → held_in new h ≡ Some (k, (true, held))
          → HearsOne (held_in old h) (held_in new h) → (a : ℕ) × (leads_in new a ≡ Some h)
      some h k held is (inl x) = some-still t.keeps h x.number k x.held held x.was is
      some h k held is (inr stays) = some-stays t.keeps h k held is stays

      one : (h k : ℕ) (held : Option Delivery) → held_in new h ≡ Some (k, (true, held)) → (a b : ℕ)
          → leads_in new a ≡ Some h → leads_in new b ≡ Some h → HearsOne (held_in old h) (held_in new h) → a ≡ b
      one h k held is a b la lb (inl x) = w.one h x.number x.held x.was a b (t.leads a h la) (t.leads b h lb)
      one h k held is a b la lb (inr stays) =
          w.one h k held (was-so (held_in old h) (held_in new h) (k, (true, held)) stays is) a b (t.leads a h la)
          (t.leads b h lb)

      none : (h k : ℕ) (held : Option Delivery) → held_in new h ≡ Some (k, (false, held)) → (a : ℕ)
          → leads_in new a ≡ Some h → HearsOne (held_in old h) (held_in new h) → ⊥
      none h k held is a la (inl x) =
          true≢false
          (ap (λ (y : Part). y.0) (part-of x.number k (true, x.later) (false, held) (held_in new h) x.is is))
      none h k held is a la (inr stays) =
          w.none h k held (was-so (held_in old h) (held_in new h) (k, (false, held)) stays is) a (t.leads a h la)

  -- a link takes the peer's Attach
  module _ (attach : Attach) (m : LeadsMoreAt attach old new) where
    -- one that was attached is another
    was-led : (h k : ℕ) (held : Option Delivery) → held_in old h ≡ Some (k, (true, held)) → (a : ℕ)
        → leads_in new a ≡ Some h → leads_in old a ≡ Some h
    was-led h k held is a la =
        elim (m.leads a h la) [
          | inl was ↦ was
          | inr (input, same) ↦
              absurd (m.unattached k held (ap (λ (x : ℕ). held_in old x) (sym same) ∙ is))
        ]

    -- to one that waited none led, but that of the Attach
    its-input : (h k : ℕ) (held : Option Delivery) → held_in old h ≡ Some (k, (false, held)) → (a : ℕ)
        → leads_in new a ≡ Some h → a ≡ attach.handle.0
    its-input h k held is a la =
        elim (m.leads a h la) [ inl was ↦ absurd (w.none h k held is a was) | inr (input, same) ↦ input ]

    some-attached : (h k : ℕ) (held : Option Delivery) → held_in new h ≡ Some (k, (true, held))
        → Goes (held_in old h) (held_in new h) → (a : ℕ) × (leads_in new a ≡ Some h)
    some-attached h k held is (inl t) = (attach.handle.0, m.there h t)
    some-attached h k held is (inr stays) = some-stays m.keeps h k held is stays

    one-attached : (h k : ℕ) (held : Option Delivery) → held_in new h ≡ Some (k, (true, held)) → (a b : ℕ)
        → leads_in new a ≡ Some h → leads_in new b ≡ Some h → Goes (held_in old h) (held_in new h) → a ≡ b
    one-attached h k held is a b la lb (inl t) =
        its-input h t.number t.held t.was a la ∙ sym (its-input h t.number t.held t.was b lb)
    one-attached h k held is a b la lb (inr stays) =
        let was = was-so (held_in old h) (held_in new h) (k, (true, held)) stays is in
        w.one h k held was a b (was-led h k held was a la) (was-led h k held was b lb)

    none-waits : (h k : ℕ) (held : Option Delivery) → held_in new h ≡ Some (k, (false, held)) → (a : ℕ)
        → leads_in new a ≡ Some h → Goes (held_in old h) (held_in new h) → ⊥
    none-waits h k held is a la (inl t) =
        true≢false
        (ap (λ (x : Part). x.0) (part-of t.number k (true, t.held) (false, held) (held_in new h) t.is is))
    none-waits h k held is a la (inr stays) =
        let was = was-so (held_in old h) (held_in new h) (k, (false, held)) stays is in
        elim (m.leads a h la) [
          | inl led ↦ w.none h k held was a led
          | inr (input, same) ↦
              w.none h k held was a
              (m.waits k held (ap (λ (x : ℕ). held_in new x) (sym same) ∙ is) a h la)
        ]

    well-more : LeadsWell new
    well-more =
        record {
          some = λ h k held is. some-attached h k held is (m.holds h);
          one = λ h k held is a b la lb. one-attached h k held is a b la lb (m.holds h);
          none = λ h k held is a la. none-waits h k held is a la (m.holds h);
        }

  -- a link enters, where handles of the peer's lead to links alone
  module _ (handle : ℕ) (f : LeadsFirstAt handle old new)
      (leads_to_links : (a h : ℕ) → leads_in old a ≡ Some h → number_live old h ≡ None → ⊥) where
    -- to that link no other leads
    its-first : (a : ℕ) → leads_in new a ≡ Some handle → f.input ≡ Some a
    its-first a la =
        elim (f.leads a handle la) [
          | inl was ↦ absurd (leads_to_links a handle was f.vacant)
          | inr (input, same) ↦ input
        ]

    -- and to others as before
    led-before : (h : ℕ) → (h == handle) ≡ false → (a : ℕ) → leads_in new a ≡ Some h → leads_in old a ≡ Some h
    led-before h apart a la =
        elim (f.leads a h la) [
          | inl was ↦ was
          | inr (input, same) ↦ absurd (true≢false (sym (ap (λ (x : ℕ). x == handle) same ∙ eq-same handle) ∙ apart))
        ]

    some-first : (h k : ℕ) (held : Option Delivery) → held_in new h ≡ Some (k, (true, held))
        → (a : ℕ) × (leads_in new a ≡ Some h)
    some-first h k held is =
        elim (eqb_tells h handle) [
          | inl same ↦
              let (a, input, led) = f.there k held (ap (λ (x : ℕ). held_in new x) (sym same.1) ∙ is) in
              (a, led ∙ ap (λ (x : ℕ). Some x) (sym same.1))
          | inr apart ↦ some-stays f.keeps h k held is (f.others h apart.0)
        ]

    one-first : (h k : ℕ) (held : Option Delivery) → held_in new h ≡ Some (k, (true, held)) → (a b : ℕ)
        → leads_in new a ≡ Some h → leads_in new b ≡ Some h → a ≡ b
    one-first h k held is a b la lb =
        elim (eqb_tells h handle) [
          | inl same ↦
              same_Some a b
              (sym (its-first a (la ∙ ap (λ (x : ℕ). Some x) same.1))
              ∙ its-first b (lb ∙ ap (λ (x : ℕ). Some x) same.1))
          | inr apart ↦
              w.one h k held (was-so (held_in old h) (held_in new h) (k, (true, held)) (f.others h apart.0) is) a b
              (led-before h apart.0 a la) (led-before h apart.0 b lb)
        ]

    none-first : (h k : ℕ) (held : Option Delivery) → held_in new h ≡ Some (k, (false, held)) → (a : ℕ)
        → leads_in new a ≡ Some h → ⊥
    none-first h k held is a la =
        elim (eqb_tells h handle) [
          | inl same ↦
              none-some a
              (sym (f.waits k held (ap (λ (x : ℕ). held_in new x) (sym same.1) ∙ is))
              ∙ its-first a (la ∙ ap (λ (x : ℕ). Some x) same.1))
          | inr apart ↦
              w.none h k held (was-so (held_in old h) (held_in new h) (k, (false, held)) (f.others h apart.0) is) a
              (led-before h apart.0 a la)
        ]

    well-first : LeadsWell new
    well-first = record { some = some-first; one = one-first; none = none-first }

  -- whichever of these
  well-by : LeadsBy old new → ((a h : ℕ) → leads_in old a ≡ Some h → number_live old h ≡ None → ⊥) → LeadsWell new
  well-by (inl r) links = well-rests r
  well-by (inr (inl t)) links = well-heard t
  well-by (inr (inr (inl (attach, m)))) links = well-more attach m
  well-by (inr (inr (inr (handle, f)))) links = well-first handle f links

still-by : (old new : Option Session) → LeadsBy old new → LeadsStillAt old new
still-by old new (inl r) = r.keeps
still-by old new (inr (inl t)) = t.keeps
still-by old new (inr (inr (inl (attach, m)))) = m.keeps
still-by old new (inr (inr (inr (handle, f)))) = f.keeps

-- in all sessions
abbrev pub AllLeadWell : LinkedSessions → Type 0
AllLeadWell s = (n : ℕ) → LeadsWell (live_at s.talk.sessions n)

-- the peer's handles lead to links alone
unlinked : (o : Option Link) → IsSome o → number_of o ≡ None → ⊥
unlinked None some none = absurd cc
unlinked (Some link) some none = none-some link.number (sym none)

leads-links : (s : LinkedSessions) → Reached s → (n : ℕ) (o : Option Session) → live_at s.talk.sessions n ≡ o
    → (a h : ℕ) → leads_in o a ≡ Some h → number_live o h ≡ None → ⊥
leads-links s r n None live a h led none = none-some h led
leads-links s r n (Some session) live a h led none =
    let (passings, passed) = some-passes r.deeds n r.sessions s r.done in
    let come = session-come r.sessions s r.settings r.deeds n passings session r.fresh passed live in
    let routed : Routed gives session.value.session =
    routed-on gives come.steps _ session.value.session come.history (none-routed gives _ refl) in
    unlinked (link_at session.value.session h) (routed.each a h led) none

-- by each deed
abbrev EachLeads : LinkedSessions → LinkedSessions → Type 0
EachLeads old new = (n : ℕ) → LeadsBy (live_at old.talk.sessions n) (live_at new.talk.sessions n)

attaches-by : (attach : Attach) (old new : Option Session) → AttachesAt attach old new → LeadsBy old new
attaches-by attach old new (inl r) = inl r
attaches-by attach old new (inr m) = inr (inr (inl (attach, m)))

enters-by : (handle : ℕ) (old new : Option Session) → EntersAt handle old new → LeadsBy old new
enters-by handle old new (inl r) = inl r
enters-by handle old new (inr f) = inr (inr (inr (handle, f)))

frame-by : (it : FrameBody) (limit channel : ℕ) (frames : List SessionFrame) (events : List Event)
    (old new : LinkedSessions)
    → IsDeed linked old (Takes limit (record { channel = channel; body = it }) frames events) new → EachLeads old new
frame-by (body.Transfer transfer payload) limit channel frames events old new d n =
    inr (inl (frame-leads transfer payload limit channel frames events old new d n))
frame-by (body.Attach attach) limit channel frames events old new d n =
    attaches-by attach (live_at old.talk.sessions n) (live_at new.talk.sessions n)
    (attach-goes attach old new limit (record { 0 = channel }) frames events d.0 n)
frame-by it limit channel frames events old new d n =
    inl (deed-rests (Takes limit (record { channel = channel; body = it }) frames events) tt old new d n)

call-by : (it : Call) (answer : Said) (limit : ℕ) (frames : List SessionFrame) (old new : LinkedSessions)
    → IsDeed linked old (Does limit it answer frames) new → EachLeads old new
call-by (call.AttachSender number its) (attaching link events) limit frames old new d n =
    enters-by d.0.placed.handle.0 (live_at old.talk.sessions n) (live_at new.talk.sessions n)
    (attached-enters old.talk new.talk old.links new.links limit number (sender_by its) link events frames tt
    (is-new old.talk new.talk old.links new.links limit number (sender_by its) link events frames d.0) n)
call-by (call.AttachReceiver number its) (attaching link events) limit frames old new d n =
    enters-by d.0.placed.handle.0 (live_at old.talk.sessions n) (live_at new.talk.sessions n)
    (attached-enters old.talk new.talk old.links new.links limit number (receiver_by its) link events frames refl
    (is-new old.talk new.talk old.links new.links limit number (receiver_by its) link events frames d.0) n)
call-by (call.Resume link number) (attaching one events) limit frames old new d n =
    enters-by d.0.placed.handle.0 (live_at old.talk.sessions n) (live_at new.talk.sessions n)
    (attached-enters old.talk new.talk old.links new.links limit number d.0.resumes.link link events frames
    (unattached d.0.resumes.link d.0.resumes.may.state)
    (is-again old.talk new.talk old.links new.links limit number link one events frames d.0) n)
call-by (call.AttachSender number its) answer limit frames old new d n = absurd d.0
call-by (call.AttachReceiver number its) answer limit frames old new d n = absurd d.0
call-by (call.Resume link number) answer limit frames old new d n = absurd d.0
call-by it answer limit frames old new d n = inl (deed-rests (Does limit it answer frames) tt old new d n)

deed-by : (deed : Deed) (old new : LinkedSessions) → IsDeed linked old deed new → EachLeads old new
deed-by (Takes limit f frames events) old new d n = frame-by f.body limit f.channel frames events old new d n
deed-by (Does limit it answer frames) old new d n = call-by it answer limit frames old new d n
deed-by deed old new d n = inl (deed-rests deed tt old new d n)

deed-well : (deed : Deed) (old new : LinkedSessions) → IsDeed linked old deed new → Reached old → AllLeadWell old
    → AllLeadWell new
deed-well deed old new d r w n =
    well-by (live_at old.talk.sessions n) (live_at new.talk.sessions n) (w n) (deed-by deed old new d n)
    (leads-links old r n (live_at old.talk.sessions n) refl)

done-well : (deeds : List Deed) (old new : LinkedSessions) → AreDone linked old deeds new → Reached old
    → AllLeadWell old → AllLeadWell new
done-well [] old new same r w = subst AllLeadWell (sym same) w
done-well (deed ∷ deeds) old new (mid, one, rest) r w =
    done-well deeds mid new rest (reached-on old mid deed one r) (deed-well deed old mid one r w)

new-well : (sessions : LinkedSessions) (settings : Settings) → IsNew linked settings sessions → AllLeadWell sessions
new-well sessions settings new =
    subst AllLeadWell (sym new.is)
    (λ n.
    record {
      some = λ h k held is. absurd (none-some _ is);
      one = λ h k held is a b la lb. absurd (none-some _ is);
      none = λ h k held is a la. none-some _ is;
    })

pub led-well : (sessions end : LinkedSessions) (settings : Settings) (deeds : List Deed)
    → IsNew linked settings sessions
    → AreDone linked sessions deeds end → AllLeadWell end
led-well sessions end settings deeds new done =
    done-well deeds sessions end done
    (record { sessions = sessions; settings = settings; deeds = []; fresh = new; done = refl })
    (new-well sessions settings new)

-- a handle that leads there does so in the session
it-is : (o : Option ℕ) (own : ℕ) → is_it o own ≡ true → o ≡ Some own
it-is None own is = absurd (true≢false (sym is))
it-is (Some h) own is = ap (λ (x : ℕ). Some x) (sym (same_number own h is))

led-in : (o : Option Session) (a : ℕ) (own : OutputHandle) → leads_there o a own ≡ true → leads_in o a ≡ Some own.0
led-in None a own is = absurd (true≢false (sym is))
led-in (Some session) a own is =
    live-is session.value.session.links (map.get session.value.session.routes a) own.0
    (it-is (link_reached session.value.session a) own.0 is)

-- and one that does so leads there, where the link is
led-there : (o : Option Session) (a : ℕ) (own : OutputHandle) (link : Link) → link_in o own ≡ Some link
    → leads_in o a ≡ Some own.0 → leads_there o a own ≡ true
led-there None a own link there led = absurd (none-some link there)
led-there (Some session) a own link there led =
    ap (λ (r : Option ℕ). is_it (live_in session.value.session.links r) own.0) led
    ∙ ap (λ (l : Option Link). is_it (if is_some l then Some own.0 else None) own.0) there ∙ eq-same own.0

pub leads-alone : (sessions end : LinkedSessions) (settings : Settings) (deeds : List Deed) (link session : ℕ)
    (own : OutputHandle) (held : Option Delivery) (a b : ℕ) → IsNew linked settings sessions
    → AreDone linked sessions deeds end → IsReceiving end link session own held
    → leads_there (live_at end.talk.sessions session) a own ≡ true
    → leads_there (live_at end.talk.sessions session) b own ≡ true → a ≡ b
leads-alone sessions end settings deeds link session own held a b new done r la lb =
    let o : Option Session = live_at end.talk.sessions session in
    (led-well sessions end settings deeds new done session).one own.0 link held
    (receives-holds end link session own held (receives-so end link session own held r)) a b (led-in o a own la)
    (led-in o b own lb)

-- one leads there
pub some-leads : (s : LinkedSessions) → Reached s → (link session : ℕ) (own : OutputHandle) (held : Option Delivery)
    → IsReceiving s link session own held
    → (theirs : ℕ) × (leads_there (live_at s.talk.sessions session) theirs own ≡ true)
some-leads s reached link session own held r =
    let o : Option Session = live_at s.talk.sessions session in
    let its = receives-so s link session own held r in
    let (theirs, led) =
    (led-well reached.sessions s reached.settings reached.deeds reached.fresh reached.done session).some own.0 link
    held (receives-holds s link session own held its) in
    (theirs, led-there o theirs own (receiving link its.end) its.there led)

-- and by a deed by which the link stays attached it does so still
pub leads-on : (deed : Deed) (old new : LinkedSessions) → IsDeed linked old deed new → (link session : ℕ)
    (own : OutputHandle) (held later : Option Delivery) (theirs : ℕ) → IsReceiving old link session own held
    → IsReceiving new link session own later → leads_there (live_at old.talk.sessions session) theirs own ≡ true
    → leads_there (live_at new.talk.sessions session) theirs own ≡ true
leads-on deed old new d link session own held later theirs r q leads =
    let its = receives-so new link session own later q in
    led-there (live_at new.talk.sessions session) theirs own (receiving link its.end) its.there
    (still-by (live_at old.talk.sessions session) (live_at new.talk.sessions session)
    (deed-by deed old new d session) theirs own.0 link later
    (led-in (live_at old.talk.sessions session) theirs own leads)
    (receives-holds new link session own later its))

-- so where one leads there it is the only one
only-so : (s : LinkedSessions) → AllLeadWell s → (link session : ℕ) (own : OutputHandle) (held : Option Delivery)
    → IsReceiving s link session own held → (theirs : ℕ)
    → leads_there (live_at s.talk.sessions session) theirs own ≡ true → LeadsOnly s session own theirs
only-so s w link session own held r theirs leads other = by (leads_there o other own) refl
  where
    o : Option Session
    o = live_at s.talk.sessions session

    by : (b : Bool) → leads_there o other own ≡ b → leads_there o other own ≡ (other == theirs)
    by true is =
        let same =
        (w session).one own.0 link held
        (receives-holds s link session own held (receives-so s link session own held r)) other theirs
        (led-in o other own is) (led-in o theirs own leads) in
        is ∙ sym (ap (λ (x : ℕ). x == theirs) same ∙ eq-same theirs)
    by false is =
        elim (eqb_tells other theirs) [
          | inl same ↦
              absurd (true≢false (sym (ap (λ (x : ℕ). leads_there o x own) same.1 ∙ leads) ∙ is))
          | inr apart ↦ is ∙ sym apart.0
        ]

pub reach-alone : (sessions start end : LinkedSessions) (settings : Settings) (before since : List Deed)
    (link session : ℕ) (own : OutputHandle) (held : Option Delivery) (theirs : ℕ) (passings : List Passing)
    → IsNew linked settings sessions → AreDone linked sessions before start → IsReceiving start link session own held
    → PassesOn link session own theirs start since end passings
    → ReachIn link session own start since end (pieces_on theirs passings)
reach-alone sessions start end settings before since link session own held theirs passings new done r p =
    reach-on session own theirs link (λ s. Reached s × AllLeadWell s)
    (λ s h k q leads. only-so s k.1 link session own h q theirs leads)
    (λ deed old mid d k. (reached-on old mid deed d k.0, deed-well deed old mid d k.0 k.1)) since start end held
    passings (
      record { sessions = sessions; settings = settings; deeds = before; fresh = new; done = done },
      led-well sessions start settings before new done,
    )
    r p
