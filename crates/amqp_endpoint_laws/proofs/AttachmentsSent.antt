-- What an attachment of a sending link has behind it in its session, and what waits, says what the link accepted.
use Rattle.std.proofs.Common.{◌≡◌, ◌≢◌, ◌==◌, inl, inr, ℕ, Bool, true, false, List, [], ◌∷◌, ◌++◌, Some, None, ap}
use Rattle.std.proofs.Common.{append_assoc, refl, sym, subst, ◌∙◌}
use Rattle.std.specs.Prelude.{if◌then◌else◌}
use Rattle.std.proofs.lemmas.Bool.Decides.{eqb_tells}
use Rattle.amqp_session_types.specs.declared.handles.OutputHandle.{OutputHandle}
use Rattle.amqp_session_performatives.specs.declared.attach.Attach.{Attach}
use Rattle.amqp_session_performatives.specs.declared.session_frame.SessionFrame.{SessionFrame}
use Rattle.amqp_session_frames.specs.declared.frame.FrameBody.{FrameBody}
use Rattle.amqp_link.specs.declared.end.End.{End}
use Rattle.amqp_link_base.specs.Readings.{Piece}
use Rattle.amqp_endpoint_attached.specs.Ends.{role_of}
use Rattle.amqp_endpoint_attached.specs.Links.{receiver_by, sender_by}
use Rattle.amqp_session_types.specs.declared.modes.Role.TheVariants.{Sender}
use Rattle.amqp_endpoint_link_calls.specs.Naming.{name_of}
use Rattle.amqp_endpoint_laws.specs.Deeds.{AreDone, Deed, Does, IsDeed, Takes}
use Rattle.amqp_endpoint.specs.Attaching.{LinkAttached}
use Rattle.amqp_endpoint.specs.Does.{linked}
use Rattle.amqp_endpoint.specs.declared.linked.LinkedSessions.{LinkedSessions}
use Rattle.amqp_endpoint_linking.specs.Linking.{Session}
use Rattle.amqp_endpoint_model.specs.Relay.{IsNew}
use Rattle.amqp_endpoint_model.specs.Said.{Said, attaching}
use Rattle.amqp_endpoint_model.specs.declared.call.Call.{Call}
use Rattle.amqp_endpoint_model.specs.declared.call.Call.TheVariants as call
use Rattle.amqp_endpoint_model.specs.declared.event.Event.{Event}
use Rattle.amqp_endpoint_model.specs.declared.settings.Settings.{Settings}
use Rattle.amqp_endpoint_tables.specs.OwnLinks.{slot_at}
use Rattle.amqp_endpoint_tables.specs.LinkState.{held_at, place_at as link_place}
use Rattle.amqp_endpoint_tables.specs.declared.link_place.LinkPlace.TheVariants.{Held}
use Rattle.amqp_endpoint_tables.specs.State.{live_at}
use Rattle.amqp_endpoint_tables.proofs.Owning.{same_number}
use Rattle.amqp_endpoint_conversation.specs.Windows.{Came, Passing, went}
use Rattle.amqp_endpoint_laws.specs.Attachments.{attaches_in, attachment, bodies_of, gone_in, uses}
use Rattle.amqp_endpoint_laws.specs.Passed.{PassesIn, called_in, is_it, passes_in, sent_in, session_taking}
use Rattle.amqp_endpoint_laws.specs.Queued.{SayAll, SayMessages, pieces_on, pieces_waiting}
use Rattle.amqp_endpoint_laws.specs.Handed.{pieces_come}
use Rattle.amqp_endpoint_laws.specs.Resumed.{IsResumed, NeverResumed, Resumes}
use Rattle.amqp_endpoint_laws.specs.Taken.{NoneAttaches}
use Rattle.amqp_endpoint_laws.proofs.Attachments.{NoneTakes, attaches-both, bodies-both, none-both, none-comes}
use Rattle.amqp_endpoint_laws.proofs.Attachments.{pieces-alike}
use Rattle.amqp_endpoint_laws.proofs.AttachmentsCalled.{AttachesOnce, attaches-once, call-none, take-none}
use Rattle.amqp_endpoint_laws.proofs.Placing.{IsPlaced, held-place, is-again, is-new, link-entered, own-handle}
use Rattle.amqp_endpoint_laws.proofs.Placing.{own-name, own-role}
use Rattle.amqp_endpoint_laws.proofs.LinksKept.{BackGoesOn, FinishedGoesOn, LeftGoesOn}
use Rattle.amqp_endpoint_laws.proofs.LinksStay.{entered-before, held-since}
use Rattle.amqp_endpoint_laws.proofs.Opening.{Opened}
use Rattle.amqp_endpoint_laws.proofs.PassedSteps.{sent-append, sent-went}
use Rattle.amqp_endpoint_laws.proofs.QueuedAttached.{HandlesApart, HandlesStand, Reached, is-entered, reached-apart}
use Rattle.amqp_endpoint_laws.proofs.QueuedAttached.{reached-new, reached-on, same-handle, says-all}
use Rattle.amqp_endpoint_laws.proofs.QueuedOrder.{pieces-both}
use Rattle.amqp_endpoint_laws.proofs.QueuedSince.{done-of}
use Rattle.amqp_endpoint_laws.proofs.TakenRead.{attachment-read, named-so}

module _ (handles_apart : HandlesApart) (handles_stand : HandlesStand) (back_on : BackGoesOn) (left_on : LeftGoesOn)
    (finished_on : FinishedGoesOn)
  where
    module _ (link number : ℕ) (handle : OutputHandle) where
      abbrev IsHere : LinkedSessions → Type 0
      IsHere s = link_place s.links link ≡ Some (Held number handle)

      -- none of these takes its handle
      abbrev NoneIn : List SessionFrame → Type 0
      NoneIn frames = NoneTakes handle.0 (attaches_in frames)

      none-of : (frames : List SessionFrame) → attaches_in frames ≡ [] → NoneIn frames
      none-of frames none = subst (λ (xs : List Attach). NoneTakes handle.0 xs) (sym none) tt

      -- another link that attaches in its session, while it is held there
      module _ (old new : LinkedSessions) (limit : ℕ) (it : End) (other : ℕ) (events : List Event)
          (frames : List SessionFrame)
          (a : IsPlaced old.talk old.links limit number it other events frames new.talk new.links)
          (reached : Reached new) (apart : link ≢ other) (held : IsHere new) where
        other-handle : a.placed.handle.0 ≡ handle.0 → ⊥
        other-handle same =
            let there : link_place new.links other ≡ Some (Held number handle) =
            held-place (link_place new.links other) number a.placed.handle (ap (held_at new.links) a.numbered ∙ a.held)
            ∙ ap (λ (h : ℕ). Some (Held number (record { 0 = h }))) same in
            apart (sym (reached-apart handles_apart new reached other link number handle there held))

        other-takes : NoneIn frames
        other-takes =
            let once = attaches-once old new limit number it other events frames a in
            let apart : (once.attach.handle.0 == handle.0) ≡ false =
            elim (eqb_tells once.attach.handle.0 handle.0) [
              | inl same ↦ absurd (other-handle (sym (once.handled ∙ own-handle it a.placed.handle) ∙ same.1))
              | inr differ ↦ differ.0
            ] in
            subst (λ (xs : List Attach). NoneTakes handle.0 xs)
            (sym
            (ap attaches_in once.are ∙ ap (λ (xs : List Attach). once.attach ∷ xs) once.none))
            (apart, tt)

      -- what passes in a session is this, or nothing
      came-none : (b : Bool) (it : FrameBody) (frames : List SessionFrame) → attaches_in frames ≡ []
          → NoneIn (sent_in (if b then Came it ∷ went frames else []))
      came-none true it frames none =
          subst (λ (fs : List SessionFrame). NoneIn fs) (sym (sent-went frames)) (none-of frames none)
      came-none false it frames none = tt

      went-none : (b : Bool) (frames : List SessionFrame) → (b ≡ true → NoneIn frames)
          → NoneIn (sent_in (if b then went frames else []))
      went-none true frames none = subst (λ (fs : List SessionFrame). NoneIn fs) (sym (sent-went frames)) (none refl)
      went-none false frames none = tt

      module _ (old new : LinkedSessions) (reached : Reached new) (entered : slot_at old.links link ≢ None)
          (held : IsHere new) where
        attached-none : (limit n : ℕ) (it : End) (other : ℕ) (events : List Event) (frames : List SessionFrame)
            → IsPlaced old.talk old.links limit n it other events frames new.talk new.links → link ≢ other
            → NoneIn (sent_in (if number == n then went frames else []))
        attached-none limit n it other events frames a apart =
            went-none (number == n) frames
            (λ e. by (sym (same_number number n e)) a)
          where
            by : {n : ℕ} → n ≡ number
                → IsPlaced old.talk old.links limit n it other events frames new.talk new.links → NoneIn frames
            by {n} same a =
                let P : ℕ → Type 0 = λ (m : ℕ).
                IsPlaced old.talk old.links limit m it other events frames new.talk new.links → NoneIn frames in
                subst P (sym same)
                (λ b. other-takes old new limit it other events frames b reached apart held) a

        -- another one is new
        new-apart : (limit n : ℕ) (it : End) (other : ℕ) (events : List Event) (frames : List SessionFrame)
            → LinkAttached old.talk old.links limit n it other events frames new.talk new.links → link ≢ other
        new-apart limit n it other events frames a same =
            entered
            (ap (λ (k : ℕ). slot_at old.links k) same ∙ (link-entered old new limit n it other events frames a).0)

        call-takes : (it : Call) (answer : Said) (limit : ℕ) (frames : List SessionFrame) → (Resumes link it → ⊥)
            → IsDeed linked old (Does limit it answer frames) new
            → NoneIn (sent_in (if is_it (called_in old it answer) number then went frames else []))
        call-takes (call.AttachSender n its) (attaching other events) limit frames never d =
            attached-none limit n (sender_by its) other events frames
            (is-new old.talk new.talk old.links new.links limit n (sender_by its) other events frames d.0)
            (new-apart limit n (sender_by its) other events frames d.0)
        call-takes (call.AttachReceiver n its) (attaching other events) limit frames never d =
            attached-none limit n (receiver_by its) other events frames
            (is-new old.talk new.talk old.links new.links limit n (receiver_by its) other events frames d.0)
            (new-apart limit n (receiver_by its) other events frames d.0)
        call-takes (call.Resume other n) (attaching one events) limit frames never d =
            attached-none limit n d.0.resumes.link other events frames
            (is-again old.talk new.talk old.links new.links limit n other one events frames d.0)
            (λ same. never (sym same))
        call-takes (call.AttachSender n its) answer limit frames never d = absurd d.0
        call-takes (call.AttachReceiver n its) answer limit frames never d = absurd d.0
        call-takes (call.Resume other n) answer limit frames never d = absurd d.0
        call-takes it answer limit frames never d =
            went-none (is_it (called_in old it answer) number) frames
            (λ e. none-of frames (call-none it answer old new limit frames (λ attaches. attaches) d))

        deed-takes : (deed : Deed) → (IsResumed link deed → ⊥) → IsDeed linked old deed new
            → NoneIn (sent_in (passes_in number old deed))
        deed-takes (Takes limit frame frames events) never d =
            came-none (is_it (session_taking old frame.channel frame.body) number) frame.body frames
            (take-none limit frame frames events old new d)
        deed-takes (Does limit it answer frames) never d = call-takes it answer limit frames never d
        deed-takes deed never d = tt

      none-since : (deeds : List Deed) (old new : LinkedSessions) (later : List Passing) → NeverResumed link deeds
          → Reached old → PassesIn number old deeds new later → slot_at old.links link ≢ None → IsHere new
          → NoneIn (sent_in later)
      none-since [] old new later never reached (same, none) entered held =
          subst (λ (ps : List Passing). NoneIn (sent_in ps)) (sym none) tt
      none-since (deed ∷ deeds) old new later never reached (mid, rest, one, others, is) entered held =
          let reached-mid : Reached mid = reached-on old mid deed one reached in
          let entered-mid : slot_at mid.links link ≢ None =
          entered-before link number handle back_on left_on finished_on deed old mid one entered in
          let held-mid : IsHere mid =
          held-since link number handle back_on left_on finished_on deeds mid new never.1
          (done-of number deeds mid new rest others) entered-mid held in
          subst (λ (ps : List Passing). NoneIn (sent_in ps)) (sym is)
          (subst (λ (fs : List SessionFrame). NoneIn fs) (sym (sent-append (passes_in number old deed) rest))
          (subst (λ (xs : List Attach). NoneTakes handle.0 xs)
          (sym (attaches-both (sent_in (passes_in number old deed)) (sent_in rest)))
          (none-both handle.0 (attaches_in (sent_in (passes_in number old deed))) (attaches_in (sent_in rest))
          (deed-takes old mid reached-mid entered held-mid deed never.0 one)
          (none-since deeds mid new rest never.1 reached-mid others entered-mid held))))

    module _ (sessions old new end : LinkedSessions) (settings : Settings) (before since_then : List Deed)
        (number link : ℕ) (deed : Deed) (first passings : List Passing) (handle : OutputHandle) (session : Session)
        (fresh : IsNew linked settings sessions) (passed : PassesIn number sessions before old first)
        (o : Opened old new deed number link) (sends : role_of o.it ≡ Sender) (d : IsDeed linked old deed new)
        (passes : PassesIn number new since_then end passings)
        (held : link_place end.links link ≡ Some (Held number handle))
        (live : live_at end.talk.sessions number ≡ Some session) (never : NeverResumed link since_then)
      where
        done : AreDone linked sessions before old
        done = done-of number before sessions old first passed

        abbrev frames : List SessionFrame
        frames = gone_in deed

        abbrev a : IsPlaced old.talk old.links o.limit number o.it link o.events frames new.talk new.links
        a = o.placed

        abbrev once : AttachesOnce o.it a.placed.handle frames
        once = attaches-once old new o.limit number o.it link o.events frames a

        -- it is read as what goes with its handle
        attachment-is : attachment (name_of o.it) (uses (name_of o.it) (bodies_of (sent_in first)))
            (bodies_of (sent_in first ++ frames ++ sent_in passings))
            ≡ pieces_on handle.0 once.later ++ pieces_on handle.0 (sent_in passings)
        attachment-is =
            let own : once.attach.handle.0 ≡ handle.0 =
            once.handled
            ∙ own-handle o.it a.placed.handle
            ∙ ap (λ (h : OutputHandle). h.0)
            (same-handle handles_apart handles_stand back_on left_on finished_on sessions old new end settings before
            since_then number link deed passings handle fresh done o d passes held never) in
            let later : List SessionFrame = once.later ++ sent_in passings in
            let none : NoneTakes handle.0 (attaches_in later) =
            subst (λ (xs : List Attach). NoneTakes handle.0 xs)
            (sym
            (attaches-both once.later (sent_in passings)
            ∙ ap (λ (xs : List Attach). xs ++ attaches_in (sent_in passings)) once.none))
            (none-since link number handle since_then new end passings never
            (reached-new handles_apart handles_stand back_on left_on finished_on sessions old new end settings before
            since_then number link deed passings handle fresh done o d passes held never)
            passes
            (is-entered handles_apart handles_stand back_on left_on finished_on sessions old new end settings before
            since_then number link deed passings handle fresh done o d passes held never)
            held) in
            ap
            (λ (came : List FrameBody).
            attachment (name_of o.it) (uses (name_of o.it) (bodies_of (sent_in first))) came)
            (ap (λ (fs : List SessionFrame). bodies_of (sent_in first ++ fs ++ sent_in passings)) once.are
            ∙ ap bodies_of (append_assoc (sent_in first) _ (sent_in passings))
            ∙ bodies-both (sent_in first) _)
            ∙ attachment-read (name_of o.it) once.attach (bodies_of (sent_in first)) (bodies_of later)
            (named-so (name_of o.it) once.attach (once.named ∙ own-name o.it a.placed.handle)
            (once.sided ∙ own-role o.it a.placed.handle ∙ sends))
            (subst (λ (h : ℕ). NoneAttaches h (bodies_of later)) (sym own) (none-comes handle.0 later none))
            ∙ ap (λ (h : ℕ). pieces_come h (bodies_of later)) own
            ∙ pieces-alike handle.0 later
            ∙ pieces-both handle.0 once.later (sent_in passings)

        -- that is what passed by the call, but for its Attach, and since then
        passed-is : pieces_on handle.0 (sent_in (passes_in number old deed ++ passings))
            ≡ pieces_on handle.0 once.later ++ pieces_on handle.0 (sent_in passings)
        passed-is =
            ap (λ (fs : List SessionFrame). pieces_on handle.0 fs)
            (sent-append (passes_in number old deed) passings
            ∙ ap (λ (ps : List Passing). sent_in ps ++ sent_in passings) o.passes
            ∙ ap (λ (fs : List SessionFrame). fs ++ sent_in passings) (sent-went frames ∙ once.are))
            ∙ pieces-both handle.0 once.later (sent_in passings)

        pub attachment-says : SayAll link old (deed ∷ since_then) end
            (attachment (name_of o.it) (uses (name_of o.it) (bodies_of (sent_in first)))
            (bodies_of (sent_in first ++ frames ++ sent_in passings))
            ++ pieces_waiting handle.0 session.value.session)
        attachment-says =
            let waiting : List Piece = pieces_waiting handle.0 session.value.session in
            let all =
            says-all handles_apart handles_stand back_on left_on finished_on sessions old new end settings before
            since_then number link deed passings handle fresh done o d passes held never session live in
            record {
              messages = all.messages;
              are = all.are;
              say =
                  subst (λ (ps : List Piece). SayMessages ps all.messages)
                  (ap (λ (ps : List Piece). ps ++ waiting) (passed-is ∙ sym attachment-is)) all.say;
            }
