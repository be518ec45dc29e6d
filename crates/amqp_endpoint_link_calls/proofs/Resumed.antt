-- A link that attaches again, and one that doesn't, which is at rest as before.
use Rattle.std.proofs.Common.{◌≡◌, ◌<◌, ℕ, true, List, Option, Some, None, Result, Ok, Err, refl, sym, ap, ◌∙◌}
use Rattle.std.proofs.Common.{slice_get, slice_set, subst}
use Rattle.std.specs.Prelude.{IfErr, IsErrAnd, IsSome}
use Rattle.std.specs.Global.{Box}
use Rattle.std.proofs.lemmas.List.{set-get_or, set-set}
use Rattle.std.proofs.lemmas.Option.{get_or_from_slice_get, none-some, same_Some}
use Rattle.amqp_session_types.specs.declared.handles.InputHandle.{InputHandle}
use Rattle.amqp_session_types.specs.declared.handles.OutputHandle.{OutputHandle}
use Rattle.amqp_session_performatives.specs.declared.session_frame.SessionFrame.{SessionFrame}
use Rattle.amqp_link.specs.declared.end.End.{End}
use Rattle.amqp_endpoint_attached.specs.Linked.{Linked, LinksIn}
use Rattle.amqp_endpoint_attached.specs.declared.refusal.AttachRefusal.{AttachRefusal}
use Rattle.amqp_endpoint_attached.specs.declared.refusal.AttachRefusal.TheVariants as why
use Rattle.amqp_endpoint_conversation.specs.Ending.{IsMapped}
use Rattle.amqp_endpoint_tables.specs.LinkState.{State, held_at, held_of, moved, open_of, place_at, place_of, put}
use Rattle.amqp_endpoint_tables.specs.LinkState.{put_in, rest_at, rest_of}
use Rattle.amqp_endpoint_tables.specs.LinkSteps.{Holds, Step}
use Rattle.amqp_endpoint_tables.specs.declared.link_place.LinkPlace.{LinkPlace}
use Rattle.amqp_endpoint_tables.specs.declared.link_place.LinkPlace.TheVariants.{AtRest, Held}
use Rattle.amqp_endpoint_tables.specs.declared.link_place.Named.{Named}
use Rattle.amqp_endpoint_tables.proofs.Slots.{get-same}
use Rattle.amqp_endpoint_link_calls.specs.Attaching.{AttachedBy, AttachesIn, LinkResumes, MayResume}
use Rattle.amqp_endpoint_link_calls.specs.Places.{LinkTalk, LinksBy}
use Rattle.amqp_endpoint_link_calls.specs.Refusals.{BarsResuming, OffersIn, RefusesBy, RefusesIn}
use Rattle.amqp_endpoint_link_calls.specs.Refusals.{is_resting, of_refusal}
use Rattle.amqp_endpoint_link_calls.specs.declared.placed.Placed.{Placed}
use Rattle.amqp_endpoint_link_calls.proofs.Own.{own}

-- what holds of the error that a `?` hands on
pub is-said : {X E : Type 0} (r : Result X E) (e : E) (P : E → Type 0) → IsErrAnd r (λ f. f ≡ e) → P e → IfErr r P
is-said (Ok x) e P is holds = tt
is-said (Err f) e P is holds = subst P (sym is) holds

module _ {L : Type 0} where
  rest-is : (place : LinkPlace L) (link : L) → rest_of (Some place) ≡ Some link → place ≡ AtRest link
  rest-is (Held session handle) link e = absurd (none-some _ e)
  rest-is (AtRest it) link e = ap AtRest (same_Some _ _ e)

  -- a link at rest stands in the table
  stands : (o : Option (Option (Named L))) (link : L) → rest_of (place_of (open_of o)) ≡ Some link
      → (stood : Named L) × (o ≡ Some (Some stood)) × (stood.place ≡ AtRest link)
  stands None link e = absurd (none-some _ e)
  stands (Some None) link e = absurd (none-some _ e)
  stands (Some (Some stood)) link e = (stood, refl, rest-is stood.place link e)

  -- it is put elsewhere
  put-is : (links : List (Option (Named L))) (number : ℕ) (place : LinkPlace L) (stood : Named L)
      → slice_get links number ≡ Some (Some stood)
      → put_in links number place ≡ slice_set links number (Some (record stood { place = place }))
  put-is links number place stood had =
      ap (λ (o : Option (Named L)). slice_set links number (moved o place))
      (get_or_from_slice_get links number (Some stood) None had)

  -- and back
  back-in : (links : List (Option (Named L))) (number : ℕ) (place : LinkPlace L) (stood : Named L)
      → slice_get links number ≡ Some (Some stood)
      → put_in (put_in links number place) number stood.place ≡ links
  back-in links number place stood had =
      let away : Option (Named L) = Some (record stood { place = place }) in
      let mid : List (Option (Named L)) = slice_set links number away in
      ap (λ (ls : List (Option (Named L))). put_in ls number stood.place) (put-is links number place stood had)
      ∙ put-is mid number stood.place (record stood { place = place }) (get-same links number (Some stood) away had)
      ∙ set-set links number away (Some stood)
      ∙ ap (λ (o : Option (Named L)). slice_set links number o)
      (sym (get_or_from_slice_get links number (Some stood) None had))
      ∙ set-get_or links number None

  module _ (s : State L) (number : ℕ) (link : L) (is : rest_at s number ≡ Some link) (session : ℕ)
      (handle : OutputHandle) where
    put-back : put (put s number (Held session handle)) number (AtRest link) ≡ s
    put-back =
        let there = stands (slice_get s.links number) link is in
        subst (λ (p : LinkPlace L). put (put s number (Held session handle)) number p ≡ s) there.2
        (ap (λ (ls : List (Option (Named L))). record s { links = ls })
        (back-in s.links number (Held session handle) there.0 there.1))

    held-now : IsSome (held_at (put s number (Held session handle)) number)
    held-now =
        let there = stands (slice_get s.links number) link is in
        let away : Option (Named L) = Some (record there.0 { place = Held session handle }) in
        let now : slice_get (put_in s.links number (Held session handle)) number ≡ Some away =
        ap (λ (ls : List (Option (Named L))). slice_get ls number)
        (put-is s.links number (Held session handle) there.0 there.1)
        ∙ get-same s.links number (Some there.0) away there.1 in
        subst (λ (o : Option (Option (Named L))). IsSome (held_of (place_of (open_of o)))) (sym now) refl

    -- a link that was to be held, and that is at rest again, is so as before
    pub rests-as-before : (mid new : State L) → mid ≡ put s number (Held session handle)
        → (IsSome (held_at mid number) → new ≡ put mid number (AtRest link)) → new ≡ s
    rests-as-before mid new was back =
        back (subst (λ (t : State L). IsSome (held_at t number)) (sym was) held-now)
        ∙ ap (λ (t : State L). put t number (AtRest link)) was
        ∙ put-back

module _ (talk : LinkTalk) (links : LinksBy) (number session : ℕ) where
  -- a link that is at rest may attach again
  pub may-resume : (place : LinkPlace End) → place_at links number ≡ Some place → is_resting place ≡ true
      → IsMapped talk session → (link : End) × MayResume talk links number session link
  may-resume (Held s handle) is resting mapped = absurd cc
  may-resume (AtRest link) is resting mapped = (
    link,
    record { mapped = mapped; rests = ap (λ (p : Option (LinkPlace End)). rest_of p) is; state = resting },
  )

  -- this one, which is at rest, is the one that may
  pub this-may : (link : End) × MayResume talk links number session link → (end : End)
      → rest_at links number ≡ Some end → MayResume talk links number session end
  this-may (link, may) end rests =
      subst (λ (l : End). MayResume talk links number session l) (same_Some _ _ (sym may.rests ∙ rests)) may

  module _ (limit : ℕ) (link : End) (may : MayResume talk links number session link) where
    above-by : (before : Linked) (input : Option InputHandle) → RefusesBy input limit before link why.HandleMaxReached
        → before.session.handle_max < before.session.offered
    above-by before None refuses = refuses
    above-by before (Some input) refuses = refuses

    -- what its session says of it
    pub refused-bars : (refusal : AttachRefusal) → RefusesIn limit talk session link refusal
        → BarsResuming limit talk links number session (of_refusal refusal)
    refused-bars why.HandleMaxReached r = (
      link,
      may,
      record {
        before = r.before;
        live = r.live;
        above = above-by (r.before).value (r.refused).input (r.refused).refuses;
      },
    )
    refused-bars why.HandleInUse r = (link, may, (why.HandleInUse, refl, r))
    refused-bars (why.Link e) r = (link, may, (why.Link e, refl, r))
    refused-bars why.FrameTooLarge r = (link, may, (why.FrameTooLarge, refl, r))
    refused-bars why.Memory r = (link, may, (why.Memory, refl, r))

-- it gets the handle that is offered
module _ (before after : Linked) (out out_new : List SessionFrame) (limit : ℕ) (link : End) (placed : Placed) where
  numbered : (input : Option InputHandle) → AttachedBy input before out limit link placed after out_new
      → (placed.handle).0 ≡ before.session.offered
  numbered None (a, told) = (a.allocates).0
  numbered (Some input) a =
      ap (λ (h : OutputHandle). h.0) (sym a.handled)
      ∙ ((a.answers).allocates).1
      ∙ ap (λ (s : LinksIn). s.offered) (((a.makes_room).made).reserves).1

pub under : (old new : LinkTalk) (out out_new : List SessionFrame) (limit session : ℕ) (link : End) (placed : Placed)
    (handle : OutputHandle) → AttachesIn old out limit session link placed new out_new → OffersIn old session handle
    → placed.handle ≡ handle
under old new out out_new limit session link placed handle a o =
    let one = a.attached in
    let is : o.before ≡ a.before = same_Some _ _ (sym o.live ∙ (a.stepped).0) in
    ap (λ (n : ℕ). let h : OutputHandle = record { 0 = n } in h)
    (numbered (a.before).value (a.after).value out out_new limit link placed one.input one.attached
    ∙ ap (λ (b : Box Linked). (b.value).session.offered) (sym is)
    ∙ ap (λ (h : OutputHandle). h.0) (sym o.offers))

module _ (old new : LinkTalk) (links links_new : LinksBy) (out out_new : List SessionFrame)
    (limit number session : ℕ) (link : End) (placed : Placed) (handle : OutputHandle) where
  pub link-resumes : MayResume old links number session link → OffersIn old session handle
      → AttachesIn old out limit session link placed new out_new → placed.link ≡ number
      → Step links (Holds number session handle link) links_new
      → LinkResumes old links out limit number session placed new links_new out_new
  link-resumes may offers attaches numbered holds =
      let o = own old new out out_new limit session link placed attaches in
      record {
        link = link;
        may = may;
        frames = o.frames;
        attaches = o.attaches;
        queued = o.queued;
        numbered = numbered;
        held =
            subst (λ (h : OutputHandle). Step links (Holds number session h link) links_new)
            (sym (under old new out out_new limit session link placed handle attaches offers)) holds;
      }
