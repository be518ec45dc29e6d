-- By which Attach each link is asked for that is asked for in a session, as the session hears its peer.
use Rattle.std.proofs.Common.{◌≡◌, ◌≢◌, ◌⊎◌, inl, inr, ◌==◌, ℕ, Bool, true, false, cond, List, [], ◌∷◌, ◌++◌, Option}
use Rattle.std.proofs.Common.{Some, None, Result, Ok, Err, ap, append_assoc, refl, sym, subst, ◌∙◌}
use Rattle.std.proofs.lemmas.Bool.{ne_eqb}
use Rattle.std.proofs.lemmas.Bool.Decides.{eqb_tells}
use Rattle.std.proofs.lemmas.Option.{none-some, same_Some}
use Rattle.std.specs.FinMap as map
use Rattle.std.specs.Prelude.{IsSome, ⊤, if◌then◌else◌, is_some}
use Rattle.amqp_session_types.specs.declared.handles.Handle.{Handle}
use Rattle.amqp_session_types.specs.declared.refusals.SessionError.{SessionError}
use Rattle.amqp_session_performatives.specs.declared.attach.Attach.{Attach}
use Rattle.amqp_session_performatives.specs.declared.detach.Detach.{Detach}
use Rattle.amqp_session_performatives.specs.declared.flow.Flow.{Flow}
use Rattle.amqp_session_performatives.specs.declared.link_flow.LinkFlow.{LinkFlow}
use Rattle.amqp_session_performatives.specs.declared.session_frame.SessionFrame.{SessionFrame}
use Rattle.amqp_session_performatives.specs.declared.transfer.Transfer.{Transfer}
use Rattle.amqp_session_frames.specs.declared.frame.FrameBody.{FrameBody}
use Rattle.amqp_session_frames.specs.declared.frame.FrameBody.TheVariants as body
use Rattle.amqp_session_core.specs.History.{History}
use Rattle.amqp_session_core.specs.State.{link_at, live_in, reached}
use Rattle.amqp_session_core.specs.Steps.{Act, TakesAttach as SessionAttaches, TakesDisposition, TakesTransfer}
use Rattle.amqp_session_core.specs.Told.{AttachTaken as SessionAttached, TransferAt}
use Rattle.amqp_session_core.specs.declared.incoming.TransferTaken.{TransferTaken}
use Rattle.amqp_link_base.specs.declared.detached.Detached.{Detached}
use Rattle.amqp_link.specs.declared.relay.AttachTold.{AttachTold}
use Rattle.amqp_link_base.specs.Readings.{Piece}
use Rattle.amqp_link_receiver.specs.declared.answer.Told.{Told}
use Rattle.amqp_endpoint_links.specs.Asked.{Asked, Asks, asked_with, is_asked, link_told, told_of, told_to}
use Rattle.amqp_endpoint_links.specs.AskedSession as wanted
use Rattle.amqp_endpoint_links.specs.AskedSession.{is_for_asked}
use Rattle.amqp_endpoint_links.specs.declared.links.AskRefusal.{AskRefusal}
use Rattle.amqp_endpoint_links.specs.declared.links.AskRefusal.TheVariants as ask
use Rattle.amqp_endpoint_links.specs.declared.links.AskedLink.{AskedLink}
use Rattle.amqp_endpoint_links.specs.declared.session.AskedSession.{AskedSession}
use Rattle.amqp_session_types.proofs.Tables.{get-put}
use Rattle.amqp_endpoint_attached.specs.Linked.{Linked, LinksIn, gives}
use Rattle.amqp_endpoint_linking.specs.Linking.{Link}
use Rattle.amqp_endpoint_links.specs.Asking.{AttachAt, DetachAt, FlowAt, asked_answer, by_link, in_use}
use Rattle.amqp_endpoint_links.specs.Hearing.{Hears, HearsAsked}
use Rattle.amqp_endpoint_links.specs.History.{AtMostOne, IsDetach, IsFlow, routed_in}
use Rattle.amqp_endpoint_links.specs.declared.asking.AttachTaken.{AttachTaken}
use Rattle.amqp_endpoint_links.specs.declared.asking.DetachTaken.{DetachTaken}
use Rattle.amqp_endpoint_links.specs.declared.asking.NamedLink.{NamedLink}
use Rattle.amqp_endpoint_links.specs.declared.asking.NamedLink.TheVariants.{Absent, Attached, Waiting}
use Rattle.amqp_endpoint_links.specs.declared.hearing.LinkPerformative.{LinkPerformative}
use Rattle.amqp_endpoint_links.specs.declared.hearing.LinkPerformative.TheVariants as said
use Rattle.amqp_endpoint_links.specs.declared.hearing.PerformativeTaken.{PerformativeTaken}
use Rattle.amqp_endpoint_links.specs.declared.hearing.PerformativeTaken.TheVariants as taken
use Rattle.amqp_endpoint_links.proofs.Projecting.{Done, detach-done, flow-done}
use Rattle.amqp_endpoint_links.proofs.Routing.{Routed, none-stays}
use Rattle.amqp_endpoint_conversation.specs.Windows.{body_said}
use Rattle.amqp_endpoint_laws.specs.Handed.{pieces_come}
use Rattle.amqp_endpoint_laws.specs.Taken.{CameLast}
use Rattle.amqp_endpoint_laws.proofs.AskedCameInside.{same-was, step-keeps, taken-was}
use Rattle.amqp_endpoint_laws.proofs.PassedPlaces.{AreBeside, KeepsAsked, WasAsked}
use Rattle.amqp_endpoint_laws.proofs.TakenRead.{come-both, none-both}

abbrev LinkAct : Type 0
LinkAct = Act Link AttachTold Told Detached

-- each of the links that are asked for is so by an Attach that came last by its handle
abbrev pub AllCame : List FrameBody → Asked → Type 0
AllCame came asked =
    (theirs : ℕ) (link : AskedLink) → map.get asked theirs ≡ Some link → CameLast theirs link.attach came

-- what is beside a handle leaves the Attach the last by it
more-last : (theirs : ℕ) (attach : Attach) (came more : List FrameBody) → AreBeside theirs more
    → CameLast theirs attach came → CameLast theirs attach (came ++ more)
more-last theirs attach came more beside c =
    record {
      earlier = c.earlier;
      later = c.later ++ more;
      are =
          ap (λ (fs : List FrameBody). fs ++ more) c.are
          ∙ append_assoc c.earlier (body.Attach attach ∷ c.later) more;
      handled = c.handled;
      alone = none-both theirs c.later more c.alone beside.0;
      silent =
          come-both theirs c.later more ∙ ap (λ (ps : List Piece). ps ++ pieces_come theirs more) c.silent
          ∙ beside.1;
    }

-- an Attach by another handle
attach-beside : (theirs : ℕ) (attach : Attach) → theirs ≢ attach.handle.0
    → AreBeside theirs (body.Attach attach ∷ [])
attach-beside theirs attach other = ((ne_eqb attach.handle.0 theirs (λ same. other (sym same)), tt), refl)

-- each link that is asked for was so before
left-came : (came more : List FrameBody) (old new : Asked)
    → ((theirs : ℕ) (link : AskedLink) → map.get new theirs ≡ Some link → WasAsked old theirs link)
    → ((theirs : ℕ) (link : AskedLink) → map.get new theirs ≡ Some link → AreBeside theirs more)
    → AllCame came old → AllCame (came ++ more) new
left-came came more old new were beside all theirs link there =
    let w = were theirs link there in
    more-last theirs link.attach came more (beside theirs link there)
    (subst (λ (a : Attach). CameLast theirs a came) w.same (all theirs w.was w.there))

-- or is asked for by the Attach that comes
asks-came : (came : List FrameBody) (attach : Attach) (old new : Asked)
    → new ≡ map.insert old attach.handle.0 (asked_with attach) → AllCame came old
    → AllCame (came ++ body.Attach attach ∷ []) new
asks-came came attach old new is all theirs link there = by (eqb_tells theirs attach.handle.0)
  where
    got : map.get new theirs ≡ cond (theirs == attach.handle.0) (Some (asked_with attach)) (map.get old theirs)
    got =
        ap (λ (t : Asked). map.get t theirs) is
        ∙ get-put old attach.handle.0 theirs (asked_with attach)

    by : (((theirs == attach.handle.0) ≡ true) × (theirs ≡ attach.handle.0))
        ⊎ (((theirs == attach.handle.0) ≡ false) × (theirs ≢ attach.handle.0))
        → CameLast theirs link.attach (came ++ body.Attach attach ∷ [])
    by (inl p) =
        let same : asked_with attach ≡ link =
        same_Some (asked_with attach) link
        (sym (got ∙ ap (λ (b : Bool). cond b (Some (asked_with attach)) (map.get old theirs)) p.0) ∙ there) in
        subst (λ (l : AskedLink). CameLast theirs l.attach (came ++ body.Attach attach ∷ [])) same
        (record { earlier = came; later = []; are = refl; handled = sym p.1; alone = tt; silent = refl })
    by (inr p) =
        more-last theirs link.attach came (body.Attach attach ∷ []) (attach-beside theirs attach p.1)
        (all theirs link
        (sym (got ∙ ap (λ (b : Bool). cond b (Some (asked_with attach)) (map.get old theirs)) p.0) ∙ there))

-- another stands by a handle in place of one with the same Attach
put-was : (asked : Asked) (handle : ℕ) (found told : AskedLink) → found.attach ≡ told.attach
    → map.get asked handle ≡ Some found → (theirs : ℕ) (link : AskedLink)
    → map.get (map.insert asked handle told) theirs ≡ Some link → WasAsked asked theirs link
put-was asked handle found told kept is theirs link there = by (eqb_tells theirs handle)
  where
    got : map.get (map.insert asked handle told) theirs
        ≡ cond (theirs == handle) (Some told) (map.get asked theirs)
    got = get-put asked handle theirs told

    by : (((theirs == handle) ≡ true) × (theirs ≡ handle)) ⊎ (((theirs == handle) ≡ false) × (theirs ≢ handle))
        → WasAsked asked theirs link
    by (inl p) =
        let same : told ≡ link =
        same_Some told link
        (sym (got ∙ ap (λ (b : Bool). cond b (Some told) (map.get asked theirs)) p.0) ∙ there) in
        record {
          was = found;
          there = ap (λ (h : ℕ). map.get asked h) p.1 ∙ is;
          same = kept ∙ ap (λ (l : AskedLink). l.attach) same;
        }
    by (inr p) =
        record {
          was = link;
          there = sym (got ∙ ap (λ (b : Bool). cond b (Some told) (map.get asked theirs)) p.0) ∙ there;
          same = refl;
        }

-- what is told of a link leaves its Attach
told-was : (asked : Asked) (handle : ℕ) (flow : LinkFlow) (found : Option AskedLink) → map.get asked handle ≡ found
    → (theirs : ℕ) (link : AskedLink) → map.get (told_to asked handle flow found) theirs ≡ Some link
    → WasAsked asked theirs link
told-was asked handle flow None is theirs link there = record { was = link; there = there; same = refl }
told-was asked handle flow (Some found) is theirs link there =
    put-was asked handle found (record found { flow = Some flow }) refl is theirs link there

told-of-was : (asked : Asked) (flow : Flow) (handle : Option Handle) (theirs : ℕ) (link : AskedLink)
    → map.get (told_of asked flow handle) theirs ≡ Some link → WasAsked asked theirs link
told-of-was asked flow None theirs link there = record { was = link; there = there; same = refl }
told-of-was asked flow (Some handle) theirs link there =
    told-was asked handle.0 (link_told flow handle) (map.get asked handle.0) refl theirs link there

-- a session hears its peer that is only asked for
flow-came : (for_it : Bool) (came : List FrameBody) (flow : Flow) (old new : AskedSession)
    → wanted.FlowAt for_it old flow (Ok tt) new → AllCame came old.links
    → AllCame (came ++ body.Flow flow ∷ []) new.links
flow-came true came flow old new (done, is) all =
    left-came came (body.Flow flow ∷ []) old.links new.links
    (λ theirs link there.
    told-of-was old.links flow flow.handle theirs link
    (sym (ap (λ (s : AskedSession). map.get s.links theirs) is) ∙ there))
    (λ theirs link there. ((tt, tt), refl)) all
flow-came false came flow old new (wrong, is) all = let clash = wrong in absurd cc

detach-came : (there : Bool) (came : List FrameBody) (detach : Detach) (old new : AskedSession)
    → wanted.DetachAt there old detach (Ok tt) new → AllCame came old.links
    → AllCame (came ++ body.Detach detach ∷ []) new.links
detach-came true came detach old new (done, is) all =
    left-came came (body.Detach detach ∷ []) old.links new.links
    (λ theirs link there.
    (taken-was old.links detach.handle.0 theirs link
    (sym (ap (λ (s : AskedSession). map.get s.links theirs) is) ∙ there)).1)
    (λ theirs link there. ((tt, tt), refl)) all
detach-came false came detach old new (wrong, is) all = let clash = wrong in absurd cc

pub asked-came : (it : LinkPerformative) (came : List FrameBody) (old new : AskedSession)
    → HearsAsked old it (Ok tt) new → AllCame came old.links → AllCame (came ++ body_said it ∷ []) new.links
asked-came (said.Attach attach named) came old new h all =
    asks-came came attach old.links new.links (h.0).2 all
asked-came (said.Flow flow) came old new h all =
    flow-came (is_for_asked old.links flow.handle) came flow old new h all
asked-came (said.Transfer transfer payload) came old new (wrong, is) all = let clash = wrong in absurd cc
asked-came (said.Disposition disposition) came old new (wrong, is) all = let clash = wrong in absurd cc
asked-came (said.Detach detach) came old new h all =
    detach-came (is_some (map.get old.links detach.handle.0)) came detach old new h all

-- so it is in a session that goes on. The handle of a link that is asked for leads to none there
pub record AreAsked (came : List FrameBody) (s : Linked) : Type 0 where
  pub last : AllCame came s.asked
  pub unled :
      (theirs : ℕ) (link : AskedLink) → map.get s.asked theirs ≡ Some link → map.get s.session.routes theirs ≡ None
  pub routed : Routed gives s.session

-- no link is asked for more
pub keep-asked : (came more : List FrameBody) (old new : Linked) → KeepsAsked old new
    → ((theirs : ℕ) (link : AskedLink) → map.get new.asked theirs ≡ Some link → AreBeside theirs more)
    → Routed gives new.session → AreAsked came old → AreAsked (came ++ more) new
keep-asked came more old new keeps beside routed are =
    record {
      last = left-came came more old.asked new.asked keeps.asked beside are.last;
      unled = λ theirs link there.
          let w = keeps.asked theirs link there in
          keeps.unled theirs link there (are.unled theirs w.was w.there);
      routed = routed;
    }

-- one step at most leaves a handle that leads to no link so, where it doesn't have it lead to one
done-unled : (Is : LinkAct → Type 0) (old new : LinksIn) (theirs : ℕ) → Done gives Is old new
    → ((step : LinkAct) → Is step → routed_in step ≢ Some theirs) → map.get old.routes theirs ≡ None
    → map.get new.routes theirs ≡ None
done-unled Is old new theirs done other none = by done.steps done.are done.run
  where
    by : (steps : List LinkAct) → AtMostOne Is steps → History gives old steps new
        → map.get new.routes theirs ≡ None
    by [] are same = ap (λ (s : LinksIn). map.get s.routes theirs) same ∙ none
    by (step ∷ []) are (mid, s, same) =
        ap (λ (x : LinksIn). map.get x.routes theirs) same
        ∙ none-stays gives step old mid theirs s (other step are) none
    by (step ∷ next ∷ steps) are run = absurd are

flow-leads : (flow : Flow) (theirs : ℕ) (step : LinkAct) → IsFlow flow step → routed_in step ≢ Some theirs
flow-leads flow theirs step (inl t) led = none-some theirs (sym (ap (λ (s : LinkAct). routed_in s) t.is) ∙ led)
flow-leads flow theirs step (inr (inl t)) led = none-some theirs (sym (ap (λ (s : LinkAct). routed_in s) t.is) ∙ led)
flow-leads flow theirs step (inr (inr t)) led = none-some theirs (sym (ap (λ (s : LinkAct). routed_in s) t.1) ∙ led)

-- a handle by which no link is reached leads to none
unreached-unled : (s : LinksIn) (theirs : ℕ) → Routed gives s → reached s theirs ≡ None
    → map.get s.routes theirs ≡ None
unreached-unled s theirs routed none = by (map.get s.routes theirs) refl
  where
    lives : (own : ℕ) (o : Option Link) → IsSome o → (if is_some o then Some own else None) ≡ Some own
    lives own None there = absurd cc
    lives own (Some link) there = refl

    by : (o : Option ℕ) → map.get s.routes theirs ≡ o → map.get s.routes theirs ≡ None
    by None is = is
    by (Some own) is =
        absurd
        (none-some own
        (sym none ∙ ap (λ (o : Option ℕ). live_in s.links o) is
        ∙ lives own (link_at s own) (routed.each theirs own is)))

-- of two that may be there none is
none-is : {X Y : Type 0} (o : Option X) (p : Option Y) → (if is_some o then true else is_some p) ≡ false
    → (o ≡ None) × (p ≡ None)
none-is None None is = (refl, refl)
none-is None (Some y) is = let clash = is in absurd cc
none-is (Some x) p is = let clash = is in absurd cc

module _ (came : List FrameBody) (old new : Linked) (routed : Routed gives new.session) (are : AreAsked came old) where
  -- an Attach: a link that waits takes it, by another handle than those of links that are asked for
  waits-unled : (attach : Attach) (own : ℕ) (result : Result AttachTold SessionError) (told : AttachTaken AttachTold)
      → Ok told ≡ by_link result → SessionAttached gives old.session own attach result new.session → (theirs : ℕ)
      → theirs ≢ attach.handle.0 → map.get old.session.routes theirs ≡ None
      → map.get new.session.routes theirs ≡ None
  waits-unled attach own (Ok it) told is s theirs other none =
      none-stays gives (SessionAttaches own attach (Ok it)) old.session new.session theirs s
      (λ (led : Some attach.handle.0 ≡ Some theirs). other (let same : theirs ≡ attach.handle.0 = cc in same)) none
  waits-unled attach own (Err e) told is s theirs other none = let clash = is in absurd cc

  -- or it asks for one, by a handle that leads to none
  asks-asked : (attach : Attach) (result : Result ⊤ AskRefusal) (told : AttachTaken AttachTold)
      → Ok told ≡ asked_answer result → Asks old.asked attach result new.asked
      → new ≡ record old { asked = new.asked } → map.get old.session.routes attach.handle.0 ≡ None
      → AreAsked (came ++ body.Attach attach ∷ []) new
  asks-asked attach (Ok done) told is asks rest none =
      record {
        last = asks-came came attach old.asked new.asked asks.2 are.last;
        unled = λ theirs link there.
            ap (λ (x : Linked). map.get x.session.routes theirs) rest
            ∙ by theirs link there (eqb_tells theirs attach.handle.0);
        routed = routed;
      }
    where
      by : (theirs : ℕ) (link : AskedLink) → map.get new.asked theirs ≡ Some link
          → (((theirs == attach.handle.0) ≡ true) × (theirs ≡ attach.handle.0))
          ⊎ (((theirs == attach.handle.0) ≡ false) × (theirs ≢ attach.handle.0))
          → map.get old.session.routes theirs ≡ None
      by theirs link there (inl p) = ap (λ (h : ℕ). map.get old.session.routes h) p.1 ∙ none
      by theirs link there (inr p) =
          are.unled theirs link
          (sym (ap (λ (t : Asked). map.get t theirs) asks.2
          ∙ get-put old.asked attach.handle.0 theirs (asked_with attach)
          ∙ ap (λ (b : Bool). cond b (Some (asked_with attach)) (map.get old.asked theirs)) p.0)
          ∙ there)
  asks-asked attach (Err ask.HandleInUse) told is asks rest none = let clash = is in absurd cc
  asks-asked attach (Err ask.NameInUse) told is asks rest none = let clash = is in absurd cc
  asks-asked attach (Err ask.Memory) told is asks rest none = let clash = is in absurd cc

  attach-asked : (used : Bool) (attach : Attach) (named : NamedLink) (told : AttachTaken AttachTold)
      → in_use old attach.handle.0 ≡ used → AttachAt gives used old attach named (Ok told) new
      → AreAsked (came ++ body.Attach attach ∷ []) new
  attach-asked true attach named told used (wrong, same) = let clash = wrong in absurd cc
  attach-asked false attach Attached told used (wrong, same) = let clash = wrong in absurd cc
  attach-asked false attach Absent told used t =
      let free = none-is (map.get old.asked attach.handle.0) (reached old.session attach.handle.0) used in
      asks-asked attach t.0.told told t.0.answer t.0.asks t.1
      (unreached-unled old.session attach.handle.0 are.routed free.1)
  attach-asked false attach (Waiting handle) told used t =
      keep-asked came (body.Attach attach ∷ []) old new
      (record {
        asked = were;
        unled = λ theirs link there none.
            waits-unled attach handle.0 t.told told t.answer t.taken theirs (other theirs link there) none;
      })
      (λ theirs link there. attach-beside theirs attach (other theirs link there)) routed are
    where
      were : (theirs : ℕ) (link : AskedLink) → map.get new.asked theirs ≡ Some link → WasAsked old.asked theirs link
      were = same-was old.asked new.asked (ap (λ (x : Linked). x.asked) t.rest)

      other : (theirs : ℕ) (link : AskedLink) → map.get new.asked theirs ≡ Some link → theirs ≢ attach.handle.0
      other theirs link there same =
          let free = none-is (map.get old.asked attach.handle.0) (reached old.session attach.handle.0) used in
          let w = were theirs link there in
          none-some w.was (sym (ap (λ (h : ℕ). map.get old.asked h) same ∙ free.0) ∙ w.there)

  -- a Flow
  flow-were : (asked : Bool) (flow : Flow) (frames : List SessionFrame)
      → FlowAt gives asked old [] flow (Ok tt) new frames → (theirs : ℕ) (link : AskedLink)
      → map.get new.asked theirs ≡ Some link → WasAsked old.asked theirs link
  flow-were false flow frames f theirs link there =
      same-was old.asked new.asked (ap (λ (x : Linked). x.asked) f.1) theirs link there
  flow-were true flow frames f theirs link there =
      told-of-was old.asked flow flow.handle theirs link
      (sym (ap (λ (x : Linked). map.get x.asked theirs) f.1) ∙ there)

  flow-asked : (asked : Bool) (flow : Flow) (frames : List SessionFrame)
      → FlowAt gives asked old [] flow (Ok tt) new frames → AreAsked (came ++ body.Flow flow ∷ []) new
  flow-asked asked flow frames f =
      keep-asked came (body.Flow flow ∷ []) old new
      (record {
        asked = flow-were asked flow frames f;
        unled = λ theirs link there none.
            done-unled (IsFlow flow) old.session new.session theirs
            (flow-done gives asked old [] flow (Ok tt) new frames f) (flow-leads flow theirs) none;
      })
      (λ theirs link there. ((tt, tt), refl)) routed are

  -- a transfer that a link takes, and so none on the handle of one that is asked for
  transfer-asked : (transfer : Transfer) (payload : List ℕ) (told : TransferTaken Told) (o : Option ℕ)
      → reached old.session transfer.handle.0 ≡ o
      → TransferAt gives old.session transfer payload o (Ok told) new.session
      → new ≡ record old { session = new.session } → AreAsked (came ++ body.Transfer transfer payload ∷ []) new
  transfer-asked transfer payload told None reaches t rest = absurd t
  transfer-asked transfer payload told (Some handle) reaches t rest =
      keep-asked came (body.Transfer transfer payload ∷ []) old new
      (step-keeps (TakesTransfer handle transfer payload (Ok t.answer) told.flow) old new rest refl t.stepped)
      (λ theirs link there. ((tt, tt), silent theirs (other theirs link there))) routed are
    where
      other : (theirs : ℕ) (link : AskedLink) → map.get new.asked theirs ≡ Some link → transfer.handle.0 ≢ theirs
      other theirs link there same =
          none-some handle
          (sym (ap (λ (h : ℕ). reached old.session h) same
          ∙ ap (λ (o : Option ℕ). live_in old.session.links o)
          (are.unled theirs link (sym (ap (λ (x : Linked). map.get x.asked theirs) rest) ∙ there)))
          ∙ reaches)

      silent : (theirs : ℕ) → transfer.handle.0 ≢ theirs
          → pieces_come theirs (body.Transfer transfer payload ∷ []) ≡ []
      silent theirs apart =
          let piece : Piece = record { performative = transfer; payload = payload } in
          ap (λ (b : Bool). (if b then piece ∷ [] else []) ++ []) (ne_eqb transfer.handle.0 theirs apart)

  -- a Detach
  detach-were : (there : Bool) (detach : Detach) (told : DetachTaken Detached)
      → DetachAt gives there old detach (Ok told) new → (theirs : ℕ) (link : AskedLink)
      → map.get new.asked theirs ≡ Some link → WasAsked old.asked theirs link
  detach-were true detach told d theirs link is =
      (taken-was old.asked detach.handle.0 theirs link
      (sym (ap (λ (x : Linked). map.get x.asked theirs) d.1) ∙ is)).1
  detach-were false detach told d theirs link is =
      same-was old.asked new.asked (ap (λ (x : Linked). x.asked) d.rest) theirs link is

  detach-asked : (there : Bool) (detach : Detach) (told : DetachTaken Detached)
      → DetachAt gives there old detach (Ok told) new → AreAsked (came ++ body.Detach detach ∷ []) new
  detach-asked there detach told d =
      keep-asked came (body.Detach detach ∷ []) old new
      (record {
        asked = detach-were there detach told d;
        unled = λ theirs link is none.
            done-unled (IsDetach detach) old.session new.session theirs
            (detach-done gives there old detach (Ok told) new d)
            (λ step t led. none-some theirs (sym (ap (λ (s : LinkAct). routed_in s) t.is) ∙ led)) none;
      })
      (λ theirs link is. ((tt, tt), refl)) routed are

-- it takes what its peer says
pub takes-asked : (it : LinkPerformative) (told : PerformativeTaken AttachTold Told Detached)
    (frames : List SessionFrame) (came : List FrameBody) (old new : Linked)
    → Hears gives old [] it (Ok told) new frames → Routed gives new.session → AreAsked came old
    → AreAsked (came ++ body_said it ∷ []) new
takes-asked (said.Attach attach named) (taken.Attach it) frames came old new h routed are =
    attach-asked came old new routed are (in_use old attach.handle.0) attach named it refl h.0
takes-asked (said.Flow flow) taken.Flow frames came old new h routed are =
    flow-asked came old new routed are (is_asked old.asked flow.handle) flow frames h
takes-asked (said.Transfer transfer payload) (taken.Transfer it) frames came old new h routed are =
    transfer-asked came old new routed are transfer payload it (reached old.session transfer.handle.0) refl (h.0).0
    (h.0).1
takes-asked (said.Disposition disposition) (taken.Disposition back runs) frames came old new h routed are =
    keep-asked came (body.Disposition disposition ∷ []) old new
    (step-keeps (TakesDisposition disposition ((h.0).1).walk _) old new (h.0).2 refl ((h.0).1).stepped)
    (λ theirs link there. ((tt, tt), refl)) routed are
takes-asked (said.Detach detach) (taken.Detach it) frames came old new h routed are =
    detach-asked came old new routed are (is_some (map.get old.asked detach.handle.0)) detach it h.0
takes-asked (said.Attach attach named) other frames came old new h routed are = absurd h.0
takes-asked (said.Flow flow) other frames came old new h routed are = absurd h
takes-asked (said.Transfer transfer payload) other frames came old new h routed are = absurd h.0
takes-asked (said.Disposition disposition) other frames came old new h routed are = absurd h.0
takes-asked (said.Detach detach) other frames came old new h routed are = absurd h.0
