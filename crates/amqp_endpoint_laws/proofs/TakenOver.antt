-- What a receiving link hands out is what the transfers of its attachment say, among the frames that came in its session.
use Rattle.std.proofs.Common.{◌≡◌, ◌≢◌, inl, inr, ℕ, Bool, true, false, List, [], ◌∷◌, ◌++◌, Option, Some}
use Rattle.std.proofs.Common.{None, ap, append_assoc, if◌then◌else◌, map, refl, sym, subst, true≢false, ◌∙◌}
use Rattle.std.proofs.lemmas.Option.{none-some, same_Some}
use Rattle.amqp_session_types.specs.declared.handles.OutputHandle.{OutputHandle}
use Rattle.amqp_session_performatives.specs.declared.attach.Attach.{Attach}
use Rattle.amqp_session_performatives.specs.declared.session_frame.SessionFrame.{SessionFrame}
use Rattle.amqp_session_frames.specs.declared.frame.FrameBody.{FrameBody}
use Rattle.amqp_session_frames.specs.declared.frame.FrameBody.TheVariants as body
use Rattle.amqp_link.specs.declared.end.End.{End}
use Rattle.amqp_link_base.specs.Readings.{Piece, nothing, readings}
use Rattle.amqp_link_receiver.specs.Deliveries.{Delivery}
use Rattle.amqp_endpoint_attached.specs.Links.{receiver_by, sender_by}
use Rattle.amqp_endpoint_laws.specs.Deeds.{AreDone, Deed, Does, IsDeed, Takes, told_by, told_in}
use Rattle.amqp_endpoint.specs.Does.{linked}
use Rattle.amqp_endpoint.specs.declared.linked.LinkedSessions.{LinkedSessions}
use Rattle.amqp_endpoint_linking.specs.Linking.{Links}
use Rattle.amqp_endpoint_model.specs.Relay.{IsNew}
use Rattle.amqp_endpoint_model.specs.Said.{attaching}
use Rattle.amqp_endpoint_model.specs.declared.call.Call.TheVariants as call
use Rattle.amqp_endpoint_model.specs.declared.event.Event.{Event}
use Rattle.amqp_endpoint_model.specs.declared.settings.Settings.{Settings}
use Rattle.amqp_endpoint_tables.specs.OwnLinks.{SlotStep, is_about, slot_at}
use Rattle.amqp_endpoint_tables.specs.LinkState.{name_of, open_of}
use Rattle.amqp_endpoint_tables.specs.LinkSteps.{Act, ChangesAtRest, Closes as ClosesLink, Enters, Holds, LowersRoom}
use Rattle.amqp_endpoint_tables.specs.LinkSteps.{MakesRoom, Rests, Step}
use Rattle.amqp_endpoint_tables.specs.declared.link_place.Named.{Named}
use Rattle.amqp_endpoint_tables.proofs.OwningLinks.{at}
use Rattle.amqp_endpoint_tables.specs.State.{live_at}
use Rattle.amqp_endpoint_tables.proofs.Owning.{same_number}
use Rattle.amqp_endpoint_model.specs.declared.link.LinkSettings.{LinkSettings}
use Rattle.amqp_endpoint_conversation.specs.Windows.{Came, Passing, went}
use Rattle.amqp_endpoint_laws.specs.Agreeing.{Agree}
use Rattle.amqp_endpoint_laws.specs.Attachments.{attachment, is_named, uses}
use Rattle.amqp_endpoint_laws.specs.Handed.{Handed, IsReceiving, NoneResumes, PassesOn, handed_as, handed_by, pieces_come}
use Rattle.amqp_endpoint_laws.specs.Handed.{leads_there, pieces_on}
use Rattle.amqp_endpoint_laws.specs.Resumed.{IsResumed, NeverResumed}
use Rattle.amqp_endpoint_laws.specs.Passed.{PassesIn, called_in, came_in, is_it, passes_in, session_taking}
use Rattle.amqp_endpoint_laws.specs.Taken.{HandsOut, IsOther, NoneAttaches}
use Rattle.amqp_endpoint_laws.proofs.AskedCame.{links-came}
use Rattle.amqp_endpoint_laws.proofs.ComesAttached.{takes-attach}
use Rattle.amqp_endpoint_laws.proofs.ComesAttachedCalled.{IsApart, call-attaches, other-calls}
use Rattle.amqp_endpoint_laws.proofs.ComesAttachedUntaken.{untaken}
use Rattle.amqp_endpoint_laws.proofs.DeedsKept.{deed-keeps}
use Rattle.amqp_endpoint_laws.proofs.HandedOut.{handed-both, is-receiving, receives-holds, receives-so}
use Rattle.amqp_endpoint_laws.proofs.HandedRuns.{handed-so}
use Rattle.amqp_endpoint_laws.proofs.HeldKept.{agree-done, agree-new}
use Rattle.amqp_endpoint_laws.proofs.HoldingEnds.{Part}
use Rattle.amqp_endpoint_laws.proofs.HoldingTalk.{held_in}
use Rattle.amqp_endpoint_laws.proofs.LeadingAlone.{leads-on, reach-alone}
use Rattle.amqp_endpoint_laws.proofs.LifeDeeds.{IsOn, holds-receives, none-handed-so, on-or-not, stays-gone, was-on}
use Rattle.amqp_endpoint_laws.proofs.LifePlace.{IsIn, IsUnentered, came-so, known-first, stays-in, unentered-none}
use Rattle.amqp_endpoint_laws.proofs.LinksKept.{BackGoesOn, FinishedGoesOn, HoldsOnly, LeftGoesOn, links-keep}
use Rattle.amqp_endpoint_laws.proofs.PassedPlaces.{eq-same, none-came}
use Rattle.amqp_endpoint_laws.proofs.Placing.{link-entered}
use Rattle.amqp_endpoint_laws.proofs.QueuedAttached.{Reached, reached-on}
use Rattle.amqp_endpoint_laws.proofs.QueuedSince.{done-of}
use Rattle.amqp_endpoint_laws.proofs.TakenRead.{attachment-read, came-both, come-both, named-so, none-both}

abbrev Slot : Type 0
Slot = Option (Option (Named End))

-- a link was entered, and has this name as long as it isn't closed
module _ (link : ℕ) (name : List ℕ) where
  abbrev KeepsName : Slot → Type 0
  KeepsName o = (o ≢ None) × ((n : List ℕ) → name_of (open_of o) ≡ Some n → n ≡ name)

  another-place : (stood : Named End) (old new : Slot) → old ≡ Some (Some stood)
      → name_of (open_of new) ≡ Some stood.name → new ≢ None → KeepsName old → KeepsName new
  another-place stood old new was is there k =
      (there, λ n e. k.1 n (ap (λ (o : Slot). name_of (open_of o)) was ∙ sym is ∙ e))

  not-none : (slot : Option (Named End)) (o : Slot) → o ≡ Some slot → o ≢ None
  not-none slot o is none = none-some slot (sym none ∙ is)

  name-on : (step : Act End) (old new : Slot) → SlotStep old step new → KeepsName old → KeepsName new
  name-on (MakesRoom n) old new s k = absurd s
  name-on (LowersRoom room) old new s k = absurd s
  name-on (Enters number n session handle) old new s k = absurd (k.0 s.0)
  name-on (Rests number it) old new (stood, was, held, is) k =
      another-place stood old new was (ap (λ (o : Slot). name_of (open_of o)) is) (not-none _ new is) k
  name-on (Holds number session handle it) old new (stood, was, held, is) k =
      another-place stood old new was (ap (λ (o : Slot). name_of (open_of o)) is) (not-none _ new is) k
  name-on (ChangesAtRest number before after) old new (stood, was, held, is) k =
      another-place stood old new was (ap (λ (o : Slot). name_of (open_of o)) is) (not-none _ new is) k
  name-on (ClosesLink number place) old new (stood, was, held, is) k =
      (not-none _ new is, λ n e. absurd (none-some n (sym (ap (λ (o : Slot). name_of (open_of o)) is) ∙ e)))

  stays-named : (step : Act End) (old new : Links) → HoldsOnly (λ n. Unit {0}) step → Step old step new
      → KeepsName (slot_at old link) → KeepsName (slot_at new link)
  stays-named step old new none s k = by (is_about link step) refl
    where
      by : (b : Bool) → is_about link step ≡ b → KeepsName (slot_at new link)
      by true about = name-on step (slot_at old link) (slot_at new link) ((at link old step new s).about about) k
      by false about = subst KeepsName (sym ((at link old step new s).other about)) k

  named-behind : BackGoesOn → LeftGoesOn → FinishedGoesOn → (deed : Deed) (old new : LinkedSessions)
      → IsDeed linked old deed new → KeepsName (slot_at old.links link) → KeepsName (slot_at new.links link)
  named-behind back_on left_on finished_on deed old new d k =
      deed-keeps linked (λ s. KeepsName (slot_at s.links link))
      (links-keep (λ ls. KeepsName (slot_at ls link)) (λ n. Unit {0}) stays-named back_on left_on finished_on
      (λ n. tt))
      deed old new d k

-- a deed by which a frame is taken
abbrev IsTaking : Deed → Type 0
IsTaking (Takes limit f frames events) = Unit {0}
IsTaking deed = ⊥

-- by any other no link attaches that has its number, where that doesn't attach again
apart-from : (link : ℕ) (deed : Deed) (old new : LinkedSessions) → (IsResumed link deed → ⊥)
    → IsDeed linked old deed new → (IsTaking deed → ⊥) → slot_at old.links link ≢ None → IsApart link deed
apart-from link (Takes limit f frames events) old new never d other entered = absurd (other tt)
apart-from link (Does limit (call.AttachSender number its) (attaching one events) frames) old new never d other
    entered = λ same.
    entered
    (ap (λ (k : ℕ). slot_at old.links k) same
    ∙ (link-entered old new limit number (sender_by its) one events frames d.0).0)
apart-from link (Does limit (call.AttachReceiver number its) (attaching one events) frames) old new never d other
    entered = λ same.
    entered
    (ap (λ (k : ℕ). slot_at old.links k) same
    ∙ (link-entered old new limit number (receiver_by its) one events frames d.0).0)
apart-from link (Does limit (call.Resume one number) (attaching it events) frames) old new never d other entered =
    λ same. never (sym same)
apart-from link (Does limit (call.AttachSender number its) answer frames) old new never d other entered = absurd d.0
apart-from link (Does limit (call.AttachReceiver number its) answer frames) old new never d other entered =
    absurd d.0
apart-from link (Does limit (call.Resume one number) answer frames) old new never d other entered = absurd d.0
apart-from link (Does limit it answer frames) old new never d other entered = tt
apart-from link deed old new never d other entered = tt

it-is : (o : Option ℕ) (number : ℕ) → is_it o number ≡ true → o ≡ Some number
it-is None number is = absurd (true≢false (sym is))
it-is (Some other) number is = ap (λ (n : ℕ). Some n) (sym (same_number number other is))

is-it : (o : Option ℕ) (number : ℕ) → o ≡ Some number → is_it o number ≡ true
is-it o number is = ap (λ (x : Option ℕ). is_it x number) is ∙ eq-same number

-- what is handed out of an attachment that is read so
module _ (s : LinkedSessions) (session : ℕ) (own : OutputHandle) (name : List ℕ) (handed : List Handed) where
  pub hands-so : (earlier : List FrameBody) (attach : Attach) (later came : List FrameBody)
      → came ≡ earlier ++ body.Attach attach ∷ later → is_named name attach ≡ true
      → leads_there (live_at s.talk.sessions session) attach.handle.0 own ≡ true
      → NoneAttaches attach.handle.0 later
      → (NoneResumes (pieces_come attach.handle.0 later)
      → handed ≡ map (handed_as own) (readings nothing (pieces_come attach.handle.0 later)).messages)
      → HandsOut s session own name came handed
  hands-so earlier attach later came are named leads alone says =
      let read : attachment name (uses name earlier) came ≡ pieces_come attach.handle.0 later =
      ap (λ (xs : List FrameBody). attachment name (uses name earlier) xs) are
      ∙ attachment-read name attach earlier later named alone in
      record {
        earlier = earlier;
        attach = attach;
        later = later;
        are = are;
        named = named;
        leads = leads;
        alone = alone;
        says = λ fresh.
            says (subst NoneResumes read fresh)
            ∙ ap (λ (ps : List Piece). map (handed_as own) (readings nothing ps).messages) (sym read);
      }

module _ (back_on : BackGoesOn) (left_on : LeftGoesOn) (finished_on : FinishedGoesOn) (link number : ℕ)
    (own : OutputHandle) where
  abbrev IsHere : LinkedSessions → Type 0
  IsHere s = IsIn link s number own.0

  receives-on : (s : LinkedSessions) (held : Option Delivery) → IsReceiving s link number own held
      → held_in (live_at s.talk.sessions number) own.0 ≡ Some (link, (true, held))
  receives-on s held r = receives-holds s link number own held (receives-so s link number own held r)

  on-receives : (s : LinkedSessions) (on : IsOn link s number own.0) → IsReceiving s link number own on.held
  on-receives s on = is-receiving s link number own on.held (holds-receives s link number own on.held on.on)

  here-on : (deed : Deed) (old new : LinkedSessions) → (IsResumed link deed → ⊥) → IsDeed linked old deed new
      → IsHere old → IsHere new
  here-on deed old new never d i = stays-in link deed old new d back_on left_on finished_on never number own.0 i

  -- once its attachment ended it is never attached again
  gone-stays : (deeds : List Deed) (old new : LinkedSessions) → NeverResumed link deeds → IsHere old
      → ((x : Part) → held_in (live_at old.talk.sessions number) own.0 ≡ Some (link, x) → ⊥)
      → AreDone linked old deeds new → (held : Option Delivery) → IsReceiving new link number own held → ⊥
  gone-stays [] old new never i gone same held r =
      gone (true, held)
      (subst
      (λ (s : LinkedSessions). held_in (live_at s.talk.sessions number) own.0 ≡ Some (link, (true, held))) same
      (receives-on new held r))
  gone-stays (deed ∷ deeds) old new never i gone (mid, d, rest) held r =
      let off : IsOn link mid number own.0 → ⊥ =
      λ on.
      elim (came-so link deed old mid d never.0 number own.0 (true, on.held) on.on) [
        | inl there ↦ gone (true, on.held) there
        | inr (inl s) ↦ gone s.part s.there
        | inr (inr e) ↦ i.entered e.none
      ] in
      gone-stays deeds mid new never.1 (here-on deed old mid never.0 d i)
      (stays-gone link number own back_on left_on finished_on deed old mid number own.0 never.0 d i
      (λ x there. absurd (gone x there)) off)
      rest held r

  -- as long as it stays attached, one handle leads to it, and no Attach takes that
  record StaysOn (theirs : ℕ) (s : LinkedSessions) (deeds : List Deed) (end : LinkedSessions) (ps : List Passing)
      : Type 0
    where
      passes : PassesOn link number own theirs s deeds end ps
      alone : NoneAttaches theirs (came_in ps)
      leads : leads_there (live_at end.talk.sessions number) theirs own ≡ true

  module _ (theirs : ℕ) where
    none-went : (b : Bool) (frames : List SessionFrame)
        → NoneAttaches theirs (came_in (if b then went frames else []))
    none-went true frames = subst (NoneAttaches theirs) (sym (none-came frames)) tt
    none-went false frames = tt

    none-coming : (b : Bool) (it : FrameBody) (frames : List SessionFrame) → (b ≡ true → IsOther theirs it)
        → NoneAttaches theirs (came_in (if b then Came it ∷ went frames else []))
    none-coming true it frames other = (other refl, subst (NoneAttaches theirs) (sym (none-came frames)) tt)
    none-coming false it frames other = tt

    deed-none : (deed : Deed) (old new : LinkedSessions) → IsDeed linked old deed new
        → (held later : Option Delivery) → IsReceiving old link number own held
        → IsReceiving new link number own later
        → leads_there (live_at old.talk.sessions number) theirs own ≡ true
        → NoneAttaches theirs (came_in (passes_in number old deed))
    deed-none (Takes limit f frames events) old new d held later q p leads =
        none-coming (is_it (session_taking old f.channel f.body) number) f.body frames
        (λ is.
        untaken limit f frames events old new d link number own held later q p theirs leads
        (it-is (session_taking old f.channel f.body) number is))
    deed-none (Does limit it answer frames) old new d held later q p leads =
        none-went (is_it (called_in old it answer) number) frames
    deed-none deed old new d held later q p leads = tt

    on-since : (deeds : List Deed) (s end : LinkedSessions) (ps : List Passing) (held later : Option Delivery)
        → NeverResumed link deeds → Reached s → IsHere s → IsReceiving s link number own held
        → leads_there (live_at s.talk.sessions number) theirs own ≡ true → PassesIn number s deeds end ps
        → IsReceiving end link number own later → StaysOn theirs s deeds end ps
    on-since [] s end ps held later never r i q leads (same, none) e =
        record {
          passes = (same, none);
          alone = subst (λ (xs : List Passing). NoneAttaches theirs (came_in xs)) (sym none) tt;
          leads =
              subst
              (λ (x : LinkedSessions). leads_there (live_at x.talk.sessions number) theirs own ≡ true) (sym same)
              leads;
        }
    on-since (deed ∷ deeds) s end ps held later never r i q leads (mid, rest, d, more, is) e =
        elim (on-or-not link mid number own.0) [
          | inl on ↦
              let next = on-receives mid on in
              let stays =
              on-since deeds mid end rest on.held later never.1 (reached-on s mid deed d r)
              (here-on deed s mid never.0 d i) next
              (leads-on deed s mid d link number own held on.held theirs q next leads) more e in
              record {
                passes = (mid, on.held, rest, leads, d, next, stays.passes, is);
                alone =
                    subst (NoneAttaches theirs)
                    (sym (ap came_in is ∙ came-both (passes_in number s deed) rest))
                    (none-both theirs (came_in (passes_in number s deed)) (came_in rest)
                    (deed-none deed s mid d held on.held q next leads) stays.alone);
                leads = stays.leads;
              }
          | inr off ↦
              absurd
              (gone-stays deeds mid end never.1 (here-on deed s mid never.0 d i)
              (stays-gone link number own back_on left_on finished_on deed s mid number own.0 never.0 d i
              (λ x there.
              ap (λ (p : ℕ × Part). p.1.0)
              (same_Some (link, x) (link, (true, held)) (sym there ∙ receives-on s held q)))
              off)
              (done-of number deeds mid end rest more) later e)
        ]

    -- what it hands out then
    on-says : (deeds : List Deed) (s end : LinkedSessions) (ps : List Passing) → Reached s
        → IsReceiving s link number own None → StaysOn theirs s deeds end ps
        → NoneResumes (pieces_come theirs (came_in ps))
        → handed_by link (told_by deeds) ≡
        map (handed_as own) (readings nothing (pieces_come theirs (came_in ps))).messages
    on-says deeds s end ps r q stays fresh =
        let reach =
        reach-alone r.sessions s end r.settings r.deeds deeds link number own None theirs ps r.fresh r.done q
        stays.passes in
        (handed-so back_on left_on finished_on r.sessions s end r.settings r.deeds deeds link number own None
        (pieces_on theirs ps) r.fresh r.done q reach fresh).0

  -- a link that waits, and is attached once these deeds are done: by which Attach among what came by them
  record ComesOn (name : List ℕ) (deeds : List Deed) (end : LinkedSessions) (ps : List Passing) : Type 0 where
    first : List FrameBody
    attach : Attach
    later : List FrameBody
    are : came_in ps ≡ first ++ body.Attach attach ∷ later
    named : is_named name attach ≡ true
    leads : leads_there (live_at end.talk.sessions number) attach.handle.0 own ≡ true
    alone : NoneAttaches attach.handle.0 later
    says :
        NoneResumes (pieces_come attach.handle.0 later)
        → handed_by link (told_by deeds) ≡
        map (handed_as own) (readings nothing (pieces_come attach.handle.0 later)).messages

  module _ (name : List ℕ) where
    -- the deed hands nothing out
    none-handed : (deed : Deed) (deeds : List Deed) (s mid : LinkedSessions) → IsDeed linked s deed mid → IsHere s
        → (IsOn link s number own.0 → ⊥) → handed_by link (told_by (deed ∷ deeds)) ≡ handed_by link (told_by deeds)
    none-handed deed deeds s mid d i off =
        handed-both link (told_in deed) (told_by deeds)
        ∙ ap (λ (hs : List Handed). hs ++ handed_by link (told_by deeds))
        (none-handed-so link deed s mid d (λ st. off (was-on link s mid number own.0 i st)))

    comes-later : (deed : Deed) (deeds : List Deed) (s mid end : LinkedSessions) (ps rest : List Passing)
        → IsDeed linked s deed mid → IsHere s → (IsOn link s number own.0 → ⊥)
        → ps ≡ passes_in number s deed ++ rest → ComesOn name deeds end rest → ComesOn name (deed ∷ deeds) end ps
    comes-later deed deeds s mid end ps rest d i off is c =
        record {
          first = came_in (passes_in number s deed) ++ c.first;
          attach = c.attach;
          later = c.later;
          are = ap came_in is ∙ came-both (passes_in number s deed) rest
              ∙ ap (λ (xs : List FrameBody). came_in (passes_in number s deed) ++ xs) c.are
              ∙ sym (append_assoc (came_in (passes_in number s deed)) c.first (body.Attach c.attach ∷ c.later));
          named = c.named;
          leads = c.leads;
          alone = c.alone;
          says = λ fresh. none-handed deed deeds s mid d i off ∙ c.says fresh;
        }

    came-by : (b : Bool) (it : FrameBody) (frames : List SessionFrame) → b ≡ true
        → came_in (if b then Came it ∷ went frames else []) ≡ it ∷ []
    came-by true it frames is = ap (λ (xs : List FrameBody). it ∷ xs) (none-came frames)
    came-by false it frames is = absurd (true≢false (sym is))

    -- it is attached by this deed
    comes-now : (deed : Deed) (deeds : List Deed) (s mid end : LinkedSessions) (ps rest : List Passing)
        (later : Option Delivery) → NeverResumed link (deed ∷ deeds) → IsDeed linked s deed mid → Reached s → IsHere s
        → KeepsName link name (slot_at s.links link) → (IsOn link s number own.0 → ⊥)
        → IsReceiving mid link number own None → PassesIn number mid deeds end rest
        → ps ≡ passes_in number s deed ++ rest → IsReceiving end link number own later
        → ComesOn name (deed ∷ deeds) end ps
    comes-now (Takes limit f frames events) deeds s mid end ps rest later never d r i k off q more is e =
        let deed : Deed = Takes limit f frames events in
        let c =
        takes-attach limit f frames events s mid d i.agrees link number own None q
        (λ was there. off (record { held = was; on = receives-on s was there })) in
        let theirs : ℕ = c.attach.handle.0 in
        let after = reached-on s mid deed d r in
        let stays =
        on-since theirs deeds mid end rest None later never.1 after (here-on deed s mid never.0 d i) q c.leads more e
        in
        record {
          first = [];
          attach = c.attach;
          later = came_in rest;
          are = ap came_in is ∙ came-both (passes_in number s deed) rest
              ∙ ap (λ (xs : List FrameBody). xs ++ came_in rest)
              (came-by (is_it (session_taking s f.channel f.body) number) f.body frames
              (is-it (session_taking s f.channel f.body) number c.taken)
              ∙ ap (λ (it : FrameBody). it ∷ []) c.is);
          named = named-so name c.attach (k.1 c.attach.name c.named) c.sends;
          leads = stays.leads;
          alone = stays.alone;
          says = λ fresh.
              none-handed deed deeds s mid d i off ∙ on-says theirs deeds mid end rest after q stays fresh;
        }
    comes-now deed deeds s mid end ps rest later never d r i k off q more is e =
        let was =
        other-calls link number own None s mid deed d i.agrees
        (apart-from link deed s mid never.0 d (λ taking. taking) i.entered) q in
        absurd (off (record { held = None; on = receives-on s None was }))

    -- where a link comes to be attached, it holds nothing
    newly : (deed : Deed) (s mid : LinkedSessions) → (IsResumed link deed → ⊥) → IsDeed linked s deed mid → IsHere s
        → (IsOn link s number own.0 → ⊥) → (on : IsOn link mid number own.0) → on.held ≡ None
    newly deed s mid never d i off on =
        elim (came-so link deed s mid d never number own.0 (true, on.held) on.on) [
          | inl there ↦ absurd (off (record { held = on.held; on = there }))
          | inr (inl st) ↦ by st.part st.there st.kept
          | inr (inr en) ↦ en.empty
        ]
      where
        by : (part : Part) → held_in (live_at s.talk.sessions number) own.0 ≡ Some (link, part)
            → (part.0 ≡ false → on.held ≡ part.1) → on.held ≡ None
        by (true, v) there kept = absurd (off (record { held = v; on = there }))
        by (false, v) there kept = kept refl ∙ i.empty number own.0 v there

    comes-on : (deeds : List Deed) (s end : LinkedSessions) (ps : List Passing) (later : Option Delivery)
        → NeverResumed link deeds → Reached s → IsHere s → KeepsName link name (slot_at s.links link)
        → (IsOn link s number own.0 → ⊥)
        → PassesIn number s deeds end ps → IsReceiving end link number own later → ComesOn name deeds end ps
    comes-on [] s end ps later never r i k off (same, none) e =
        absurd
        (off (record {
          held = later;
          on = receives-on s later
              (subst (λ (x : LinkedSessions). IsReceiving x link number own later) same e);
        }))
    comes-on (deed ∷ deeds) s end ps later never r i k off (mid, rest, d, more, is) e =
        elim (on-or-not link mid number own.0) [
          | inl on ↦
              comes-now deed deeds s mid end ps rest later never d r i k off
              (subst (λ (held : Option Delivery). IsReceiving mid link number own held)
              (newly deed s mid never.0 d i off on) (on-receives mid on))
              more is e
          | inr still ↦
              comes-later deed deeds s mid end ps rest d i off is
              (comes-on deeds mid end rest later never.1 (reached-on s mid deed d r) (here-on deed s mid never.0 d i)
              (named-behind link name back_on left_on finished_on deed s mid d k) still more e)
        ]

module _ (back_on : BackGoesOn) (left_on : LeftGoesOn) (finished_on : FinishedGoesOn)
    (sessions old new end : LinkedSessions) (settings : Settings) (before since : List Deed) (number link limit : ℕ)
    (its : LinkSettings) (events : List Event) (frames : List SessionFrame)
    (first passings : List Passing) (own : OutputHandle) (held : Option Delivery)
    (fresh : IsNew linked settings sessions) (passed : PassesIn number sessions before old first)
    (d : IsDeed linked old (Does limit (call.AttachReceiver number its) (attaching link events) frames) new)
    (passes : PassesIn number new since end passings) (receives : IsReceiving end link number own held)
    (never : NeverResumed link since)
  where
    abbrev deed : Deed
    deed = Does limit (call.AttachReceiver number its) (attaching link events) frames

    reached-old : Reached old
    reached-old =
        record {
          sessions = sessions;
          settings = settings;
          deeds = before;
          fresh = fresh;
          done = done-of number before sessions old first passed;
        }

    entered : (slot_at old.links link ≡ None) × ((slot : Named End) × (slot_at new.links link ≡ Some (Some slot))
        × (slot.name ≡ its.name))
    entered =
        let (none, some) = link-entered old new limit number (receiver_by its) link events frames d.0 in
        (none, (_, some, refl))

    agrees : Agree old
    agrees =
        agree-done before sessions old (done-of number before sessions old first passed)
        (agree-new settings sessions fresh)

    unentered : IsUnentered link old
    unentered = record { agrees = agrees; none = entered.0 }

    named : KeepsName link its.name (slot_at new.links link)
    named =
        let (none, (slot, some, is)) = entered in (
          λ none. none-some (Some slot) (sym none ∙ some),
          λ n e.
              same_Some n its.name
              (sym e ∙ ap (λ (o : Slot). name_of (open_of o)) some ∙ ap (λ (x : List ℕ). Some x) is),
        )

    -- it is there from the call on
    here-at : (n h : ℕ) → IsIn link new n h → IsIn link new number own.0
    here-at n h i =
        let (in_it, by_it) =
        (on-all since new end never (done-of number since new end passings passes) i).alone number own.0 (true, held)
        (receives-holds end link number own held (receives-so end link number own held receives)) in
        record {
          agrees = i.agrees;
          entered = i.entered;
          alone = λ m g x e. let (a, b) = i.alone m g x e in (a ∙ sym in_it, b ∙ sym by_it);
          empty = i.empty;
        }
      where
        on-all : (deeds : List Deed) (s t : LinkedSessions) → NeverResumed link deeds → AreDone linked s deeds t
            → IsIn link s n h
            → IsIn link t n h
        on-all [] s t none same i = subst (λ (x : LinkedSessions). IsIn link x n h) (sym same) i
        on-all (one ∷ deeds) s t none (mid, o, rest) i =
            on-all deeds mid t none.1 rest (stays-in link one s mid o back_on left_on finished_on none.0 n h i)

    here : IsIn link new number own.0
    here =
        elim
        (known-first link deed old new d unentered) [
          | inl still ↦ absurd (named.0 still.none)
          | inr (n, h, i) ↦ here-at n h i
        ]

    -- it answers a link that the peer asked for
    answers : (on : IsOn link new number own.0)
        → HandsOut end number own its.name (came_in first ++ came_in passings) (handed_by link (told_by since))
    answers on =
        let empty : on.held ≡ None = elim (came-so link deed old new d (λ is. is) number own.0 (true, on.held) on.on) [
          | inl there ↦ absurd (unheld (true, on.held) there)
          | inr (inl st) ↦ absurd (unheld st.part st.there)
          | inr (inr en) ↦ en.empty
        ] in
        let q : IsReceiving new link number own None =
        subst (λ (h : Option Delivery). IsReceiving new link number own h) empty
        (is-receiving new link number own on.held (holds-receives new link number own on.held on.on)) in
        let a = call-attaches limit number its link events frames old new d agrees own None q in
        let c = links-came sessions old settings before number a.theirs first a.asked fresh passed a.there in
        let r = reached-on old new deed d reached-old in
        let stays =
        on-since back_on left_on finished_on link number own a.theirs since
        new end passings None held never r here q a.leads passes receives in
        let theirs : a.asked.attach.handle.0 ≡ a.theirs = c.handled in
        let later : List FrameBody = c.later ++ came_in passings in
        let said : pieces_come a.theirs later ≡ pieces_come a.theirs (came_in passings) =
        come-both a.theirs c.later (came_in passings)
        ∙ ap (λ (xs : List Piece). xs ++ pieces_come a.theirs (came_in passings)) c.silent in
        let read : pieces_come a.asked.attach.handle.0 later ≡ pieces_come a.theirs (came_in passings) =
        ap (λ (t : ℕ). pieces_come t later) theirs ∙ said in
        hands-so end number own its.name (handed_by link (told_by since)) c.earlier a.asked.attach later
        (came_in first ++ came_in passings)
        (ap (λ (xs : List FrameBody). xs ++ came_in passings) c.are
        ∙ append_assoc c.earlier (body.Attach a.asked.attach ∷ c.later) (came_in passings))
        (named-so its.name a.asked.attach a.named a.sends)
        (ap (λ (t : ℕ). leads_there (live_at end.talk.sessions number) t own) theirs ∙ stays.leads)
        (subst (λ (t : ℕ). NoneAttaches t later) (sym theirs)
        (none-both a.theirs c.later (came_in passings) c.alone stays.alone))
        (λ none.
        on-says back_on left_on finished_on link number own a.theirs since new
        end passings r q stays (subst NoneResumes read none)
        ∙ ap (λ (ps : List Piece). map (handed_as own) (readings nothing ps).messages) (sym read))
      where
        unheld : (x : Part) → held_in (live_at old.talk.sessions number) own.0 ≡ Some (link, x) → ⊥
        unheld x there =
            unentered-none link old unentered number own.0 x there

    -- or it waits for the peer's Attach
    waits : (IsOn link new number own.0 → ⊥)
        → HandsOut end number own its.name (came_in first ++ came_in passings) (handed_by link (told_by since))
    waits off =
        let c =
        comes-on back_on left_on finished_on link number own its.name since
        new end passings held never (reached-on old new deed d reached-old) here named off passes receives in
        hands-so end number own its.name (handed_by link (told_by since)) (came_in first ++ c.first) c.attach c.later
        (came_in first ++ came_in passings)
        (ap (λ (xs : List FrameBody). came_in first ++ xs) c.are
        ∙ sym (append_assoc (came_in first) c.first (body.Attach c.attach ∷ c.later)))
        c.named c.leads c.alone c.says

    pub hands-out : HandsOut end number own its.name (came_in first ++ came_in passings)
        (handed_by link (told_by since))
    hands-out =
        elim (on-or-not link new number own.0) [ inl on ↦ answers on | inr off ↦ waits off ]
