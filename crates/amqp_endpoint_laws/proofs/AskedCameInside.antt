-- What becomes of the links that are asked for in a session, as something is done there for a link.
use Rattle.std.proofs.Common.{◌≡◌, ◌≢◌, ◌⊎◌, inl, inr, ◌==◌, ℕ, Bool, true, false, cond, List, [], ◌∷◌, Option, Some}
use Rattle.std.proofs.Common.{None, ap, refl, sym, ◌∙◌}
use Rattle.std.proofs.lemmas.Bool.Decides.{eqb_tells}
use Rattle.std.proofs.lemmas.Option.{none-some}
use Rattle.std.specs.FinMap as map
use Rattle.amqp_session_types.specs.declared.error.Error.{Error}
use Rattle.amqp_session_types.specs.declared.handles.InputHandle.{InputHandle}
use Rattle.amqp_session_types.specs.declared.handles.OutputHandle.{OutputHandle}
use Rattle.amqp_session_states.specs.declared.delivery_state.DeliveryState.{DeliveryState}
use Rattle.amqp_session_performatives.specs.declared.session_frame.SessionFrame.{SessionFrame}
use Rattle.amqp_session_performatives.specs.declared.session_frame.SessionFrameBody.{SessionFrameBody}
use Rattle.amqp_session_performatives.specs.declared.session_frame.SessionFrameBody.TheVariants as said
use Rattle.amqp_session_core.specs.State.{link_at}
use Rattle.amqp_session_core.specs.Tables.{RouteTable}
use Rattle.amqp_session_core.specs.Steps.{Act, Allocates, Step}
use Rattle.amqp_session_core.specs.declared.dispositions.Touched.{Touched}
use Rattle.amqp_link_base.specs.declared.detached.Detached.{Detached}
use Rattle.amqp_link.specs.declared.end.End.{End}
use Rattle.amqp_link.specs.declared.relay.AttachTold.{AttachTold}
use Rattle.amqp_link_receiver.specs.declared.answer.Told.{Told}
use Rattle.amqp_endpoint_links.specs.Asked.{Asked}
use Rattle.amqp_endpoint_links.specs.declared.links.AskedLink.{AskedLink}
use Rattle.amqp_session_types.proofs.Tables.{get-take, get-take-other}
use Rattle.amqp_endpoint_attached.specs.Detaching.{is_there}
use Rattle.amqp_endpoint_attached.specs.Linked.{Linked, LinksIn, end_at, gives}
use Rattle.amqp_endpoint_attached.specs.Links.{with_number}
use Rattle.amqp_endpoint_attached.specs.TakenOut.{TakenOut}
use Rattle.amqp_endpoint_link_calls.specs.Attaching.{AttachedBy}
use Rattle.amqp_endpoint_link_calls.specs.declared.placed.Placed.{Placed}
use Rattle.amqp_endpoint_link_calls.specs.Calling.{Does, detaches, gives_credit, wants_drain}
use Rattle.amqp_endpoint_link_calls.specs.Closing.{closes, fails}
use Rattle.amqp_endpoint_link_hearing.specs.Detaching.{TellsAndParts}
use Rattle.amqp_endpoint_link_hearing.specs.Disposing.{TellsAndEchoes}
use Rattle.amqp_endpoint_link_hearing.specs.Flowing.{LeaveWith, LeavesOnce, LeavesWith, ended_link}
use Rattle.amqp_endpoint_link_hearing.specs.InSession.{AnswersIf, Closes, ClosesIf}
use Rattle.amqp_endpoint_link_hearing.specs.Transferring.{Remembers}
use Rattle.amqp_endpoint_link_hearing.specs.Unechoed.{TellsSome}
use Rattle.amqp_endpoint_link_calls.specs.Disposing.{disposes_of_all, disposes_of_one}
use Rattle.amqp_endpoint_link_calls.specs.Sending.{sends}
use Rattle.amqp_endpoint_linking.specs.Linking.{Link, Links}
use Rattle.amqp_endpoint_links.specs.History.{routed_in}
use Rattle.amqp_endpoint_links.proofs.Routing.{none-stays}
use Rattle.amqp_endpoint_model.specs.declared.call.Disposal.{Disposal}
use Rattle.amqp_endpoint_model.specs.declared.call.Sending.{Sending}
use Rattle.amqp_endpoint_model.specs.declared.event.Event.{Event}
use Rattle.amqp_endpoint_laws.proofs.AttachedBehind.{allocates, asked-is, goes, roomed}
use Rattle.amqp_endpoint_laws.proofs.Behind.{BehindBy, behind-rests, behind-routes}
use Rattle.amqp_endpoint_laws.proofs.HoldingDone.{closes-stays, closing-stays, detaches-stay, disposes-all}
use Rattle.amqp_endpoint_laws.proofs.HoldingDone.{disposes-one}
use Rattle.amqp_endpoint_laws.proofs.HoldingDone.{drains-stays, echoes-stay, failing-stays, gives-stays, leave-stay}
use Rattle.amqp_endpoint_laws.proofs.HoldingDone.{parts-stay, remembers-stays, sends-stays, tells-stays}
use Rattle.amqp_endpoint_laws.proofs.HoldingInside.{LeadsLess, less}
use Rattle.amqp_session_core.specs.Batch.{Transfers}
use Rattle.amqp_endpoint_laws.proofs.PassedPlaces.{KeepsAsked, WasAsked}

-- a link that is asked for was so before, where the same are
pub same-was : (old new : Asked) → new ≡ old → (theirs : ℕ) (link : AskedLink) → map.get new theirs ≡ Some link
    → WasAsked old theirs link
same-was old new same theirs link there =
    record { was = link; there = sym (ap (λ (t : Asked). map.get t theirs) same) ∙ there; same = refl }

-- or where one is taken away, by whose handle none is asked for then
pub taken-was : (asked : Asked) (handle theirs : ℕ) (link : AskedLink)
    → map.get (map.remove asked handle) theirs ≡ Some link → (theirs ≢ handle) × WasAsked asked theirs link
taken-was asked handle theirs link there = by (eqb_tells theirs handle)
  where
    by : (((theirs == handle) ≡ true) × (theirs ≡ handle)) ⊎ (((theirs == handle) ≡ false) × (theirs ≢ handle))
        → (theirs ≢ handle) × WasAsked asked theirs link
    by (inl p) =
        absurd
        (none-some link
        (sym (get-take asked handle theirs ∙ ap (λ (b : Bool). cond b None (map.get asked theirs)) p.0) ∙ there))
    by (inr p) =
        (p.1, record { was = link; there = sym (get-take-other asked handle theirs p.1) ∙ there; same = refl })

-- a handle that led to none leads to none still, where none leads to a link that it didn't lead to
less-unled : (old new : LinksIn) → LeadsLess old new → (theirs : ℕ) → map.get old.routes theirs ≡ None
    → map.get new.routes theirs ≡ None
less-unled old new leads theirs none = by (map.get new.routes theirs) refl
  where
    by : (o : Option ℕ) → map.get new.routes theirs ≡ o → map.get new.routes theirs ≡ None
    by None is = is
    by (Some h) is = absurd (none-some h (sym none ∙ leads theirs h is))

-- the same links are asked for then
pub less-keeps : (old new : Linked) → new.asked ≡ old.asked → LeadsLess old.session new.session → KeepsAsked old new
less-keeps old new same leads =
    record {
      asked = same-was old.asked new.asked same;
      unled = λ theirs link there none. less-unled old.session new.session leads theirs none;
    }

-- so it is by a step of the session itself by which no handle comes to lead to a link
pub step-keeps : (step : Act Link AttachTold Told Detached) (old new : Linked)
    → new ≡ record old { session = new.session } → routed_in step ≡ None
    → Step gives old.session step new.session → KeepsAsked old new
step-keeps step old new rest none s =
    less-keeps old new (ap (λ (x : Linked). x.asked) rest) (less step old.session new.session none s)

-- the links that are asked for stay as another one is closed
closed-same : (there : Bool) (why : Option Error) (handle : OutputHandle) (frames : List SessionFrame)
    (old new : Linked) → ClosesIf there why old handle frames new → new.asked ≡ old.asked
closed-same true why handle frames old new d = ap (λ (x : Linked). x.asked) d.sent.rest
closed-same false why handle frames old new c = ap (λ (x : Linked). x.asked) c.0

pub closes-keeps : (why : Option Error) (handle : OutputHandle) (frames : List SessionFrame) (old new : Linked)
    → Closes why handle frames old new → KeepsAsked old new
closes-keeps why handle frames old new c =
    less-keeps old new (closed-same (is_there (end_at old handle)) why handle frames old new c)
    (closes-stays why handle frames old new c).leads

-- as one tells of messages
pub told-keeps : (count : ℕ) (handle : OutputHandle) (old new : Linked) → TellsSome count handle old new
    → KeepsAsked old new
told-keeps count handle old new t =
    less-keeps old new (ap (λ (x : Linked). x.asked) t.rest)
    (tells-stays count handle (link_at old.session handle.0) old.session new.session t.tells).leads

-- as it goes on behind an Attach, or a Flow
pub behind-keeps : {Such : Transfers → Type 0} (frames : List SessionFrame) (old new : Linked)
    → BehindBy Such frames old new → KeepsAsked old new
behind-keeps frames old new b =
    less-keeps old new (ap (λ (x : Linked). x.asked) b.rest) (behind-rests frames old new b).leads

-- as one parts from its session
out-same : (handle : OutputHandle) (left : Option Link) (old new : Linked) → TakenOut old handle left new
    → new.asked ≡ old.asked
out-same handle None old new (why, same) = ap (λ (x : Linked). x.asked) same
out-same handle (Some link) old new (there, stepped, rest) = ap (λ (x : Linked). x.asked) rest

answered-same : (answers : Bool) (handle : OutputHandle) (closed : Bool) (error : Option Error)
    (frames : List SessionFrame) (old new : Linked) → AnswersIf answers old handle closed error frames new
    → new.asked ≡ old.asked
answered-same true handle closed error frames old new r = ap (λ (x : Linked). x.asked) r.said.rest
answered-same false handle closed error frames old new r = ap (λ (x : Linked). x.asked) r.0

pub parts-keep : (count : ℕ) (handle : OutputHandle) (answers closed : Bool) (error : Option Error)
    (left : Option Link) (frames : List SessionFrame) (old new : Linked)
    → TellsAndParts count handle answers closed error left frames old new → KeepsAsked old new
parts-keep count handle answers closed error left frames old new t =
    let p = t.parts in
    less-keeps old new
    (out-same handle left p.mid new p.out ∙ answered-same answers handle closed error frames t.mid p.mid p.answered
    ∙ ap (λ (x : Linked). x.asked) t.tells.rest)
    (parts-stay count handle answers closed error left frames old new t).leads

-- as some leave with frames
once-same : (ended : Option (ℕ × Bool)) (handle : OutputHandle) (old : Linked) (links : Links) (new : Linked)
    (links_new : Links) → LeavesOnce ended handle old links new links_new → new.asked ≡ old.asked
once-same None handle old links new links_new (same, kept) = ap (λ (x : Linked). x.asked) same
once-same (Some (number, closed)) handle old links new links_new l = out-same handle l.left old new l.out

with-same : (frame : SessionFrameBody) (old : Linked) (links : Links) (new : Linked) (links_new : Links)
    → LeavesWith frame old links new links_new → new.asked ≡ old.asked
with-same (said.Detach detach) old links new links_new l =
    once-same (ended_link (link_at old.session detach.handle.0)) (record { 0 = detach.handle.0 }) old links new
    links_new l
with-same frame old links new links_new l = ap (λ (x : Linked). x.asked) l.0

leave-same : (frames : List SessionFrame) (old : Linked) (links : Links) (new : Linked) (links_new : Links)
    → LeaveWith frames old links new links_new → new.asked ≡ old.asked
leave-same [] old links new links_new (same, kept) = ap (λ (x : Linked). x.asked) same
leave-same (frame ∷ frames) old links new links_new (mid, links_mid, one, rest) =
    leave-same frames mid links_mid new links_new rest ∙ with-same frame.body old links mid links_mid one

pub leave-keeps : (frames : List SessionFrame) (old : Linked) (links : Links) (new : Linked) (links_new : Links)
    → LeaveWith frames old links new links_new → KeepsAsked old new
leave-keeps frames old links new links_new l =
    less-keeps old new (leave-same frames old links new links_new l)
    (leave-stay frames old links new links_new l).leads

-- as they tell what became of messages, or one remembers the number of its message
pub echoes-keep : (deliveries : List Touched) (state : Option DeliveryState) (runs : List (ℕ × ℕ))
    (frames : List SessionFrame) (events : List Event) (old new : Linked)
    → TellsAndEchoes deliveries state runs frames events old new → KeepsAsked old new
echoes-keep deliveries state runs frames events old new t =
    less-keeps old new (ap (λ (x : Linked). x.asked) t.echoes.rest)
    (echoes-stay deliveries state runs frames events old new t).leads

pub remembers-keeps : (handle : OutputHandle) (tag : List ℕ) (number : ℕ) (old new : Linked)
    → Remembers handle tag number old new → KeepsAsked old new
remembers-keeps handle tag number old new r =
    less-keeps old new (ap (λ (x : Linked). x.asked) r.rest) (remembers-stays handle tag number old new r).leads

-- as a call does something to one
abbrev pub KeepsBy : Does → Type 0
KeepsBy does =
    (handle : OutputHandle) (before after : Linked) (frames : List SessionFrame) → does handle before frames after
    → KeepsAsked before after

pub detaches-keep : (closed : Bool) → KeepsBy (detaches closed)
detaches-keep closed handle before after frames d =
    less-keeps before after (ap (λ (x : Linked). x.asked) d.sent.rest)
    (detaches-stay closed handle before after frames d).leads

pub gives-keeps : (credit left : ℕ) → KeepsBy (gives_credit credit left)
gives-keeps credit left handle before after frames d =
    less-keeps before after (ap (λ (x : Linked). x.asked) d.sent.rest)
    (gives-stays credit left handle before after frames d).leads

pub drains-keep : KeepsBy wants_drain
drains-keep handle before after frames d =
    less-keeps before after (ap (λ (x : Linked). x.asked) d.sent.rest)
    (drains-stays handle before after frames d).leads

pub closing-keeps : (events : List Event) → KeepsBy (closes events)
closing-keeps events handle before after frames c =
    less-keeps before after
    (ap (λ (x : Linked). x.asked) c.tells.rest ∙ ap (λ (x : Linked). x.asked) c.detached.sent.rest)
    (closing-stays events handle before after frames c).leads

pub failing-keeps : (link : ℕ) (events : List Event) → KeepsBy (fails link events)
failing-keeps link events handle before after frames t =
    less-keeps before after (ap (λ (x : Linked). x.asked) t.rest)
    (failing-stays link events handle before after frames t).leads

pub sends-keep : (limit : ℕ) (tag : List ℕ) (message : Sending) (settled : Bool)
    → KeepsBy (sends limit tag message settled)
sends-keep limit tag message settled handle before after frames did =
    less-keeps before after (ap (λ (x : Linked). x.asked) did.rest)
    (sends-stays limit tag message settled handle before after frames did).leads

pub disposes-keep : (limit : ℕ) (messages : List ℕ) (disposal : Disposal)
    → KeepsBy (disposes_of_all limit messages disposal)
disposes-keep limit messages disposal handle before after frames d =
    less-keeps before after (ap (λ (x : Linked). x.asked) d.rest)
    (disposes-all limit messages disposal handle before after frames d).leads

pub disposes-one-keeps : (limit message : ℕ) (disposal : Disposal) → KeepsBy (disposes_of_one limit message disposal)
disposes-one-keeps limit message disposal handle before after frames d =
    less-keeps before after (ap (λ (x : Linked). x.asked) d.disposed.rest)
    (disposes-one limit message disposal handle before after frames d).leads

-- a link attaches: it answers one that is asked for, which is so no longer, or none
module _ (before after : Linked) (limit : ℕ) (link : End) (placed : Placed) (frames : List SessionFrame) where
  pub attached-keeps : (input : Option InputHandle) → AttachedBy input before [] limit link placed after frames
      → KeepsAsked before after
  attached-keeps None (a, told) =
      step-keeps (Allocates placed.handle.0 (with_number placed.link a.attaching) None) before after a.rest refl
      a.allocates
  attached-keeps (Some input) a =
      record {
        asked = λ theirs it there. (answers theirs it there).1;
        unled = λ theirs it there none.
            ap (λ (r : RouteTable). map.get r theirs)
            (behind-routes a.frames a.mid after (goes before after limit link placed frames input a))
            ∙ none-stays gives (Allocates placed.handle.0 (with_number placed.link (a.answers).becomes) (Some input.0))
            (a.ready).session (a.mid).session theirs (allocates before after limit link placed frames input a)
            (λ (is : Some input.0 ≡ Some theirs).
            (answers theirs it there).0 (let same : theirs ≡ input.0 = cc in same))
            (ap (λ (s : LinksIn). map.get s.routes theirs) (roomed before after limit link placed frames input a)
            ∙ none);
      }
    where
      answers : (theirs : ℕ) (it : AskedLink) → map.get after.asked theirs ≡ Some it
          → (theirs ≢ input.0) × WasAsked before.asked theirs it
      answers theirs it there =
          taken-was before.asked input.0 theirs it
          (sym (ap (λ (t : Asked). map.get t theirs) (asked-is before after limit link placed frames input a)) ∙ there)
