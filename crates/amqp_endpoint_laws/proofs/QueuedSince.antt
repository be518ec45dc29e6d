-- What a link of a session accepted since it attached is what passed of its handle and what waits.
use Rattle.std.proofs.Common.{◌≡◌, ◌≢◌, ◌==◌, inl, inr, ℕ, Bool, true, false, List, [], ◌∷◌, ◌++◌, Option, Some}
use Rattle.std.proofs.Common.{None, ap, append-nil, append_assoc, refl, sym, subst, true≢false, ◌∙◌}
use Rattle.std.specs.Prelude.{if◌then◌else◌, is_some, map}
use Rattle.std.proofs.lemmas.Bool.Decides.{eqb_tells}
use Rattle.std.proofs.lemmas.Option.{none-some, same_Some}
use Rattle.amqp_session_states.specs.declared.outcome.Outcome.{Outcome}
use Rattle.amqp_session_types.specs.declared.handles.OutputHandle.{OutputHandle}
use Rattle.amqp_session_performatives.specs.declared.session_frame.SessionFrame.{SessionFrame}
use Rattle.amqp_link.specs.declared.end.End.{End}
use Rattle.amqp_link_base.specs.Readings.{Piece}
use Rattle.amqp_link_base.specs.Said.{begun, whole}
use Rattle.amqp_link_sender.specs.Saying.{pieces_of}
use Rattle.amqp_link_sender.proofs.SayingLemmas.{split-read}
use Rattle.amqp_endpoint_laws.specs.Deeds.{AreDone, Deed, Does, IsDeed}
use Rattle.amqp_endpoint_attached.specs.Linked.{Linked}
use Rattle.amqp_endpoint_attached.specs.Links.{receiver_by, sender_by}
use Rattle.amqp_endpoint_link_calls.specs.Calling.{DoneAt, DoneIn}
use Rattle.amqp_endpoint_link_calls.specs.Sending.{sends}
use Rattle.amqp_endpoint_link_calls.proofs.MessagesInside.{sends-inside}
use Rattle.amqp_endpoint.specs.Attaching.{LinkAttached}
use Rattle.amqp_endpoint.specs.Does.{linked}
use Rattle.amqp_endpoint.specs.Sending.{outcome_of, tag_of}
use Rattle.amqp_endpoint.specs.declared.linked.LinkedSessions.{LinkedSessions}
use Rattle.amqp_endpoint_linking.specs.Linking.{Session, Stood}
use Rattle.amqp_endpoint_model.specs.Said.{attaching, message_sent}
use Rattle.amqp_endpoint_model.specs.declared.call.Call.TheVariants as call
use Rattle.amqp_endpoint_model.specs.declared.call.Sending.{Sending}
use Rattle.amqp_endpoint_tables.specs.OwnLinks.{slot_at}
use Rattle.amqp_endpoint_tables.specs.LinkState.{held_at, place_at as link_place}
use Rattle.amqp_endpoint_tables.specs.declared.link_place.LinkPlace.{LinkPlace}
use Rattle.amqp_endpoint_tables.specs.declared.link_place.LinkPlace.TheVariants.{AtRest, Held}
use Rattle.amqp_endpoint_messages.specs.Sending.{first_on, with_tag}
use Rattle.amqp_endpoint_tables.specs.State.{live_of, place_at, with_live}
use Rattle.amqp_endpoint_tables.specs.Steps.{ChangesLive}
use Rattle.amqp_endpoint_tables.specs.declared.place.Place.TheVariants.{Asked, Live, Ending, Over}
use Rattle.amqp_endpoint_tables.proofs.Owning.{at, same_number}
use Rattle.amqp_endpoint_conversation.specs.Inside.{Batches}
use Rattle.amqp_endpoint_conversation.specs.Windows.{Passing, went}
use Rattle.amqp_endpoint_laws.specs.Passed.{PassesIn, holder, is_it, passes_in}
use Rattle.amqp_endpoint_laws.specs.Resumed.{IsResumed, NeverResumed}
use Rattle.amqp_endpoint_laws.specs.Queued.{Message, message_in}
use Rattle.amqp_endpoint_laws.proofs.AttachedBehind.{AttachesInside, attaches-inside}
use Rattle.amqp_endpoint_laws.proofs.LinksKept.{BackGoesOn, FinishedGoesOn, LeftGoesOn}
use Rattle.amqp_endpoint_laws.proofs.LinksStay.{entered-before, held-since}
use Rattle.amqp_endpoint_laws.proofs.PassedKept.{IsSending, deed-judges}
use Rattle.amqp_endpoint_laws.proofs.PassedPlaces.{by-steps, eq-same}
use Rattle.amqp_endpoint_laws.proofs.PassedSteps.{goes-did}
use Rattle.amqp_endpoint_laws.proofs.Placing.{IsPlaced, held-place, is-again, is-new, link-entered}
use Rattle.amqp_endpoint_laws.proofs.QueuedKept.{Queued, QueuedAt, SaysAt, StaysQueued, more-queued, queues-keep}
use Rattle.amqp_endpoint_laws.proofs.QueuedOrder.{pieces_by}
use Rattle.amqp_endpoint_laws.proofs.QueuedPlaced.{attached-beside, attached-did}
use Rattle.amqp_endpoint_laws.proofs.QueuedSaid.{bare, bare-one, bare_said, says-aborted, says-more}
use Rattle.std.proofs.Common.{◌⊎◌, zero, suc, take}
use Rattle.std.proofs.lemmas.List.{map-append}
use Rattle.amqp_session_types.specs.declared.handles.Handle.{Handle}
use Rattle.amqp_session_performatives.specs.declared.flow.Flow.{Flow}
use Rattle.amqp_session_core.specs.Batch.{Transfers}
use Rattle.amqp_session_frames.specs.declared.frame.Frame.{Frame}
use Rattle.amqp_session_frames.specs.declared.frame.FrameBody.{FrameBody}
use Rattle.amqp_session_frames.specs.declared.frame.FrameBody.TheVariants as body
use Rattle.amqp_link.specs.GoingOn.{goes_on, sends_on_by}
use Rattle.amqp_link_sender.specs.declared.sending_on.PreparedSendOn.{PreparedSendOn}
use Rattle.amqp_endpoint.specs.Hearing.{Hears as HearsFrame}
use Rattle.amqp_endpoint_conversation.specs.Inside.{accepted_of}
use Rattle.amqp_endpoint_conversation.specs.Windows.{Came, Went}
use Rattle.amqp_endpoint_link_hearing.specs.Flowing.{HearsFlow, end_of, said_of_link}
use Rattle.amqp_endpoint_link_hearing.specs.Naming.{link_in, link_of}
use Rattle.amqp_endpoint_linking.specs.Linking.{Link, Talk}
use Rattle.amqp_endpoint_messages.specs.SendingOn.{goes_on_at}
use Rattle.amqp_endpoint_model.specs.declared.event.Event.{Event}
use Rattle.amqp_endpoint_tables.specs.State.{live_at, reached}
use Rattle.amqp_endpoint_laws.specs.Deeds.{Takes}
use Rattle.amqp_endpoint_laws.specs.Held.{number_at, number_live, number_of as number_held}
use Rattle.amqp_endpoint_laws.specs.Passed.{session_taking}
use Rattle.amqp_endpoint_laws.specs.Queued.{AreSaid, SayMessages, SaysIn, message_on, on_by, on_named, on_of}
use Rattle.amqp_endpoint_laws.proofs.Behind.{behind-inside}
use Rattle.amqp_endpoint_laws.proofs.BehindAttach.{number_of}
use Rattle.amqp_endpoint_laws.proofs.BehindFlow.{CreditedBehind, SendsThere, by_link}
use Rattle.amqp_endpoint_laws.proofs.FlowStays.{FlowStays, NamedBy}
use Rattle.amqp_endpoint_laws.proofs.PassedHeard.{HeardThere, IsFlow, flow-parts}
use Rattle.amqp_endpoint_laws.proofs.PassedJudged.{AllPassedBy, PassedBy, coming-judged, judging}
use Rattle.amqp_endpoint_laws.proofs.PassedPlaces.{all-passed}
use Rattle.amqp_endpoint_laws.proofs.PassedSteps.{Did}
use Rattle.amqp_endpoint_laws.proofs.QueuedFlow.{AreSaidOn, SaysOn, all-so, cut-says, pieces-none}

abbrev Where : Type 0
Where = Option (LinkPlace End)

settled-told : (settled : Bool) → is_some (outcome_of settled) ≡ settled
settled-told true = refl
settled-told false = refl

-- the message that a call sends, as it is accepted
abbrev sent_as : Sending → List ℕ → Option Outcome → Message
sent_as message tag outcome =
    record {
      tag = Some tag;
      format = Some message.message_format;
      settled = Some (is_some outcome);
      payload = message.payload;
    }

sent-equal : (message : Sending) (tag given : List ℕ) (outcome : Option Outcome) (settled : Bool) → tag ≡ given
    → outcome ≡ outcome_of settled
    → record {
      tag = Some given;
      format = Some message.message_format;
      settled = Some settled;
      payload = message.payload;
    } ≡ sent_as message tag outcome
sent-equal message tag given outcome settled tagged told =
    ap
    (λ (t : List ℕ). record {
      tag = Some t;
      format = Some message.message_format;
      settled = Some settled;
      payload = message.payload;
    })
    (sym tagged)
    ∙ ap
    (λ (b : Bool). record {
      tag = Some tag;
      format = Some message.message_format;
      settled = Some b;
      payload = message.payload;
    })
    (sym (ap (λ (o : Option Outcome). is_some o) told ∙ settled-told settled))

pub held-same : (session other : ℕ) (h k : OutputHandle) (place : Where) → place ≡ Some (Held session h)
    → place ≡ Some (Held other k) → (session ≡ other) × (h ≡ k)
held-same session other h k place a b =
    let is = sym a ∙ b in
    let sessions : session ≡ other = cc in
    let handles : h ≡ k = cc in
    (sessions, handles)

pub done-of : (number : ℕ) (deeds : List Deed) (old new : LinkedSessions) (passings : List Passing)
    → PassesIn number old deeds new passings → AreDone linked old deeds new
done-of number [] old new passings (same, none) = same
done-of number (deed ∷ deeds) old new passings (mid, later, one, rest, is) =
    (mid, one, done-of number deeds mid new later rest)

none-taken : (count : ℕ) → ◌≡◌ {A = List PreparedSendOn} (take count []) []
none-taken zero = refl
none-taken (suc count) = refl

-- the number of a link that stands in a session
number-there : (talk : Talk) (n : ℕ) (h : OutputHandle) (it : Link) → link_of talk n h ≡ Some it
    → number_at talk.sessions n h.0 ≡ Some it.number
number-there talk n h it is = by (live_at talk.sessions n) is
  where
    by : (o : Option Session) → link_in o h ≡ Some it → number_live o h.0 ≡ Some it.number
    by None is = absurd (none-some it is)
    by (Some session) is = ap (λ (o : Option Link). number_held o) is

module _ (Agree : LinkedSessions → Type 0)
    (agree-kept : (old new : LinkedSessions) (deed : Deed) → IsDeed linked old deed new → Agree old → Agree new)
    (agree-apart : (s : LinkedSessions) → Agree s → (a b n : ℕ) (h : OutputHandle)
    → link_place s.links a ≡ Some (Held n h) → link_place s.links b ≡ Some (Held n h) → a ≡ b)
    (agree-stands : (s : LinkedSessions) → Agree s → (l n : ℕ) (h : OutputHandle)
    → link_place s.links l ≡ Some (Held n h) → number_at s.talk.sessions n h.0 ≡ Some l)
    (back_on : BackGoesOn) (left_on : LeftGoesOn) (finished_on : FinishedGoesOn) (link number : ℕ)
    (handle : OutputHandle) where
  abbrev Says : List Message → Option Stood → List Passing → Type 0
  Says ms o qs = SaysAt handle.0 ms o qs

  abbrev At : LinkedSessions → Option Stood
  At s = place_at s.talk.sessions number

  -- a deed that sends no message, and by which no link attaches
  quiet-deed : (deed : Deed) (old new : LinkedSessions) → (IsSending deed → ⊥) → IsDeed linked old deed new
      → (ms : List Message) (qs : List Passing) → Says ms (At old) qs
      → Says (ms ++ []) (At new) (qs ++ passes_in number old deed)
  quiet-deed deed old new silent d ms qs s =
      subst (λ (x : List Message). Says x (At new) (qs ++ passes_in number old deed)) (sym (append-nil ms))
      ((deed-judges (StaysQueued handle.0) (queues-keep handle.0) deed old new (λ sends. absurd (silent sends)) d
      number).by
      ms qs s)

  -- a message is sent by a link of the session
  module _ (limit : ℕ) (message : Sending) (frames : List SessionFrame) (old new : LinkedSessions) (settled : Bool)
      (k : OutputHandle)
      (d : DoneIn (sends limit (tag_of old.sent) message settled) number k old.talk [] new.talk frames)
    where
      abbrev batches : Batches
      batches = (k.0, d.did.transfers) ∷ []

      -- by this one, and its transfers say it
      says-it : (tag : List ℕ) (outcome : Option Outcome) → tag ≡ tag_of old.sent → outcome ≡ outcome_of settled
          → k.0 ≡ handle.0 → (ms : List Message) (w : List Piece) → SayMessages w ms
          → SayMessages (w ++ map bare (pieces_by handle.0 batches)) (ms ++ sent_as message tag outcome ∷ [])
      says-it tag outcome tagged told same ms w s =
          let first = first_on k (with_tag (tag_of old.sent) message) settled in
          let all : pieces_by handle.0 batches ≡ pieces_of d.did.transfers =
          ap (λ (b : Bool). (if b then pieces_of d.did.transfers else []) ++ [])
          (ap (λ (x : ℕ). x == handle.0) same ∙ eq-same handle.0)
          ∙ append-nil (pieces_of d.did.transfers) in
          subst (λ (ps : List Piece). SayMessages (w ++ map bare ps) (ms ++ sent_as message tag outcome ∷ [])) (sym all)
          (subst (λ (m : Message). SayMessages (w ++ map bare (pieces_of d.did.transfers)) (ms ++ m ∷ []))
          (sent-equal message tag (tag_of old.sent) outcome settled tagged told)
          (says-more w (map bare (pieces_of d.did.transfers)) ms (bare_said (whole (begun first message.payload))) s
          (bare-one (pieces_of d.did.transfers) (whole (begun first message.payload))
          (split-read first message.payload d.did.room d.did.transfers d.did.splits refl))))

      -- or by another one
      says-nothing : (k.0 == handle.0) ≡ false → (ms : List Message) (w : List Piece) → SayMessages w ms
          → SayMessages (w ++ map bare (pieces_by handle.0 batches)) (ms ++ [])
      says-nothing apart ms w s =
          subst (λ (xs : List Piece). SayMessages xs (ms ++ []))
          (sym
          (ap (λ (b : Bool). w ++ map bare ((if b then pieces_of d.did.transfers else []) ++ [])) apart
          ∙ append-nil w))
          (subst (λ (x : List Message). SayMessages w x) (sym (append-nil ms)) s)

      sent-on : (it : Stood) → live_of (Some it) ≡ Some d.before → (w : List Piece) (qs : List Passing)
          → QueuedAt handle.0 w (Some it) qs
          → QueuedAt handle.0 (w ++ map bare (pieces_by handle.0 batches)) (Some (with_live it d.after))
          (qs ++ went d.frames)
      sent-on (Live channel s) is w qs q =
          more-queued handle.0 batches w d.before.value.session d.after.value.session qs (went d.frames)
          (goes-did batches d.before.value.session d.after.value.session (went d.frames)
          (by-steps d.frames
          (sends-inside limit (tag_of old.sent) message settled k d.before.value d.after.value d.frames d.did) refl))
          (subst (λ (x : Session). Queued handle.0 w x.value.session qs) (same_Some s d.before is) q)
      sent-on (Asked channel a) is w qs q = absurd (none-some d.before is)
      sent-on (Ending channel own_end) is w qs q = absurd (none-some d.before is)
      sent-on (Over peer_end complete) is w qs q = absurd (none-some d.before is)

      sent-here : (ms more : List Message) (qs : List Passing)
          → ((w : List Piece) → SayMessages w ms
          → SayMessages (w ++ map bare (pieces_by handle.0 batches)) (ms ++ more)) → Says ms (At old) qs
          → Says (ms ++ more) (At new) (qs ++ went frames)
      sent-here ms more qs says s =
          let (stood, was, lives, becomes) =
          (at number old.talk.sessions (ChangesLive number d.before d.after) new.talk.sessions d.stepped).about
          (eq-same number) in
          let w : List Piece = s.accepted ++ map bare (pieces_by handle.0 batches) in
          record {
            accepted = w;
            queued =
                subst (λ (fs : List SessionFrame). QueuedAt handle.0 w (At new) (qs ++ went fs)) (sym d.queued)
                (subst (λ (o : Option Stood). QueuedAt handle.0 w o (qs ++ went d.frames)) (sym becomes)
                (sent-on stood lives s.accepted qs
                (subst (λ (o : Option Stood). QueuedAt handle.0 s.accepted o qs) was s.queued)));
            says = says s.accepted s.says;
          }

  -- in another session
  sent-there : (limit n : ℕ) (k : OutputHandle) (message : Sending) (settled : Bool) (frames : List SessionFrame)
      (old new : LinkedSessions) → (number == n) ≡ false
      → DoneIn (sends limit (tag_of old.sent) message settled) n k old.talk [] new.talk frames → (ms : List Message)
      (qs : List Passing) → Says ms (At old) qs → Says (ms ++ []) (At new) (qs ++ [])
  sent-there limit n k message settled frames old new apart d ms qs s =
      let same : At new ≡ At old =
      (at number old.talk.sessions (ChangesLive n d.before d.after) new.talk.sessions d.stepped).other apart in
      record {
        accepted = s.accepted;
        queued =
            subst (λ (rs : List Passing). QueuedAt handle.0 s.accepted (At new) rs) (sym (append-nil qs))
            (subst (λ (o : Option Stood). QueuedAt handle.0 s.accepted o qs) (sym same) s.queued);
        says = subst (λ (x : List Message). SayMessages s.accepted x) (sym (append-nil ms)) s.says;
      }

  -- a message is sent by a link that a session holds, while this one is held here
  module _ (limit other n : ℕ) (k : OutputHandle) (message : Sending) (tag : List ℕ) (outcome : Option Outcome)
      (frames : List SessionFrame) (old new : LinkedSessions) (settled : Bool) (agrees : Agree old)
      (held : link_place old.links link ≡ Some (Held number handle))
      (is : link_place old.links other ≡ Some (Held n k)) (tagged : tag ≡ tag_of old.sent)
      (told : outcome ≡ outcome_of settled)
      (d : DoneIn (sends limit (tag_of old.sent) message settled) n k old.talk [] new.talk frames) where
    -- this one sends it
    own-place : other ≡ link → (n ≡ number) × (k ≡ handle)
    own-place same =
        held-same n number k handle (link_place old.links other) is
        (ap (λ (x : ℕ). link_place old.links x) same ∙ held)

    -- another one of the session has another handle
    other-handle : n ≡ number → (other == link) ≡ false → (k.0 == handle.0) ≡ false
    other-handle here another =
        elim (eqb_tells k.0 handle.0) [
          | inl same ↦
              let there : link_place old.links other ≡ Some (Held number handle) =
              is ∙ ap (λ (x : ℕ). Some (Held x k)) here
              ∙ ap (λ (x : ℕ). Some (Held number (record { 0 = x }))) same.1 in
              absurd
              (true≢false
              (sym
              (ap (λ (x : ℕ). x == link) (agree-apart old agrees other link number handle there held) ∙ eq-same link)
              ∙ another))
          | inr apart ↦ apart.0
        ]

    sent-by : (here mine : Bool) → (number == n) ≡ here → (other == link) ≡ mine → (ms : List Message)
        (qs : List Passing) → Says ms (At old) qs
        → Says (ms ++ (if mine then sent_as message tag outcome ∷ [] else [])) (At new)
        (qs ++ (if here then went frames else []))
    sent-by true true e f ms qs s =
        let here : n ≡ number = sym (same_number number n e) in
        let d-here = subst
        (λ (x : ℕ). DoneIn (sends limit (tag_of old.sent) message settled) x k old.talk [] new.talk frames) here d in
        sent-here limit message frames old new settled k d-here ms (sent_as message tag outcome ∷ []) qs
        (says-it limit message frames old new settled k d-here tag outcome tagged told
        (ap (λ (x : OutputHandle). x.0) ((own-place (same_number other link f)).1)) ms)
        s
    sent-by true false e f ms qs s =
        let here : n ≡ number = sym (same_number number n e) in
        let d-here = subst
        (λ (x : ℕ). DoneIn (sends limit (tag_of old.sent) message settled) x k old.talk [] new.talk frames) here d in
        sent-here limit message frames old new settled k d-here ms [] qs
        (says-nothing limit message frames old new settled k d-here (other-handle here f) ms) s
    sent-by false true e f ms qs s =
        absurd
        (true≢false
        (sym (ap (λ (x : ℕ). number == x) ((own-place (same_number other link f)).0) ∙ eq-same number) ∙ e))
    sent-by false false e f ms qs s = sent-there limit n k message settled frames old new e d ms qs s

  sent-at : (limit other : ℕ) (message : Sending) (tag : List ℕ) (outcome : Option Outcome)
      (frames : List SessionFrame) (old new : LinkedSessions) (settled : Bool) (place : Where) → Agree old
      → link_place old.links link ≡ Some (Held number handle) → link_place old.links other ≡ place
      → tag ≡ tag_of old.sent → outcome ≡ outcome_of settled
      → DoneAt (sends limit (tag_of old.sent) message settled) place old.talk [] new.talk frames
      → (ms : List Message) (qs : List Passing) → Says ms (At old) qs
      → Says (ms ++ (if other == link then sent_as message tag outcome ∷ [] else [])) (At new)
      (qs ++ (if is_it (holder place) number then went frames else []))
  sent-at limit other message tag outcome frames old new settled None agrees held is tagged told d ms qs s = absurd d
  sent-at limit other message tag outcome frames old new settled (Some (AtRest it)) agrees held is tagged told d ms qs
      s = absurd d
  sent-at limit other message tag outcome frames old new settled (Some (Held n k)) agrees held is tagged told d ms qs
      s =
      sent-by limit other n k message tag outcome frames old new settled agrees held is tagged told d (number == n)
      (other == link) refl refl ms qs s

  -- what a link says in a deed, with what it said before
  record SaidIn (deed : Deed) (old new : LinkedSessions) (ms : List Message) (qs : List Passing) : Type 0 where
    more : List Message
    is : SaysIn link old deed more
    says : Says (ms ++ more) (At new) (qs ++ passes_in number old deed)

  given-said : (deed : Deed) (old new : LinkedSessions) (ms : List Message) (qs : List Passing)
      → Says (ms ++ message_in link deed) (At new) (qs ++ passes_in number old deed) → SaidIn deed old new ms qs
  given-said deed old new ms qs s =
      record {
        more = message_in link deed;
        is = record {
          ons = [];
          go_on = inl refl;
          count = 0;
          are = sym (append-nil (message_in link deed));
        };
        says = s;
      }

  -- a Flow comes
  module _ (limit channel : ℕ) (flow : Flow) (frames : List SessionFrame) (events : List Event)
      (old new : LinkedSessions) (agrees : Agree old) (held : link_place old.links link ≡ Some (Held number handle))
      (h : HearsFlow old.talk old.links limit (record { 0 = channel }) flow frames events new.talk new.links) where
    abbrev on_so : List PreparedSendOn
    on_so = on_named link old channel flow flow.handle

    abbrev passed_so : List Passing
    passed_so = if is_it (reached old.talk.sessions channel) number then Came (body.Flow flow) ∷ went frames else []

    record FlowSaid (ms : List Message) (qs : List Passing) : Type 0 where
      count : ℕ
      says : Says (ms ++ map message_on (take count on_so)) (At new) (qs ++ passed_so)

    none-on : (ms : List Message) (qs : List Passing) → Says ms (At new) (qs ++ passed_so) → FlowSaid ms qs
    none-on ms qs s =
        record {
          count = 0;
          says = subst (λ (x : List Message). Says x (At new) (qs ++ passed_so)) (sym (append-nil ms)) s;
        }

    abbrev Heard : ℕ → List SessionFrame → Talk → Type 0
    Heard n these talk =
        HeardThere (PassedBy (StaysQueued handle.0) (queues-keep handle.0))
        (AllPassedBy (StaysQueued handle.0) (queues-keep handle.0))
        (judging (StaysQueued handle.0) (queues-keep handle.0)) old.talk channel (body.Flow flow) n these talk

    -- what passed up to there says nothing more
    heard-says : (n : ℕ) (these : List SessionFrame) (talk : Talk) → Heard n these talk → (ms : List Message)
        (qs : List Passing) → Says ms (At old) qs
        → Says ms (place_at talk.sessions number)
        (qs ++ (if is_it (Some n) number then Came (body.Flow flow) ∷ went these else []))
    heard-says n these talk there ms qs s =
        ((coming-judged (StaysQueued handle.0) (queues-keep handle.0) (Some n) these old.talk talk channel
        (body.Flow flow)
        (all-passed (StaysQueued handle.0) (queues-keep handle.0) n _ old.talk talk there.passed)).all
        number).by
        ms qs s

    reached-so : (n : ℕ) (these : List SessionFrame) (talk : Talk) → Heard n these talk
        → (if is_it (Some n) number then Came (body.Flow flow) ∷ went frames else []) ≡ passed_so
    reached-so n these talk there =
        ap (λ (o : Option ℕ). if is_it o number then Came (body.Flow flow) ∷ went frames else []) (sym there.reaches)

    fails-so : (n : ℕ) → Heard n frames new.talk → (ms : List Message) (qs : List Passing) → Says ms (At old) qs
        → FlowSaid ms qs
    fails-so n there ms qs s =
        none-on ms qs
        (subst (λ (ps : List Passing). Says ms (At new) (qs ++ ps)) (reached-so n frames new.talk there)
        (heard-says n frames new.talk there ms qs s))

    -- messages are sent on in the session that heard it
    module _ (n : ℕ) (first behind : List SessionFrame) (left : Talk) (there : Heard n first left)
        (are : frames ≡ first ++ behind) (stays : FlowStays old.talk (record { 0 = channel }) flow left n)
        (sends : SendsThere limit n flow.handle left behind new.talk) where
      abbrev own : OutputHandle
      own = record { 0 = sends.own }

      abbrev gone : CreditedBehind limit own sends.ons behind (sends.goes).before.value (sends.goes).after.value
      gone = (sends.goes).done

      abbrev sent_batches : List Transfers
      sent_batches = take gone.count gone.batches

      abbrev pieces_behind : List Piece
      pieces_behind = map bare (pieces_by handle.0 (by_link own sent_batches))

      abbrev took_so : List Passing
      took_so = if number == n then Came (body.Flow flow) ∷ went first else []

      -- in another session
      elsewhere : (number == n) ≡ false → (ms : List Message) (qs : List Passing)
          → Says ms (place_at left.sessions number) (qs ++ took_so) → FlowSaid ms qs
      elsewhere apart ms qs s =
          let same : At new ≡ place_at left.sessions number =
          (at number left.sessions (ChangesLive n (sends.goes).before (sends.goes).after) new.talk.sessions
          (sends.goes).stepped).other
          apart in
          let none : took_so ≡ passed_so =
          ap (λ (b : Bool). if b then Came (body.Flow flow) ∷ went first else []) apart
          ∙ sym (ap (λ (b : Bool). if b then Came (body.Flow flow) ∷ went frames else []) apart)
          ∙ reached-so n first left there in
          none-on ms qs
          (subst (λ (o : Option Stood). Says ms o (qs ++ passed_so)) (sym same)
          (subst (λ (ps : List Passing). Says ms (place_at left.sessions number) (qs ++ ps)) none s))

      -- here
      behind-queued : (it : Stood) → live_of (Some it) ≡ Some (sends.goes).before → (w : List Piece) (qs : List Passing)
          → QueuedAt handle.0 w (Some it) qs
          → QueuedAt handle.0 (w ++ pieces_behind) (Some (with_live it (sends.goes).after)) (qs ++ went behind)
      behind-queued (Live c s) is w qs q =
          let d = gone.behind.done in
          more-queued handle.0 (by_link own sent_batches) w (sends.goes).before.value.session
          (sends.goes).after.value.session qs (went behind)
          (subst
          (λ (bs : Batches).
          Did bs (sends.goes).before.value.session (went behind) (sends.goes).after.value.session) gone.accepted
          (goes-did (accepted_of d.steps) (sends.goes).before.value.session (sends.goes).after.value.session
          (went behind)
          (by-steps behind (behind-inside (sends.goes).before.value.session behind (sends.goes).after.value.session d)
          refl)))
          (subst (λ (x : Session). Queued handle.0 w x.value.session qs) (same_Some s (sends.goes).before is) q)
      behind-queued (Asked c a) is w qs q = absurd (none-some (sends.goes).before is)
      behind-queued (Ending c own_end) is w qs q = absurd (none-some (sends.goes).before is)
      behind-queued (Over peer_end complete) is w qs q = absurd (none-some (sends.goes).before is)

      here-says : (number == n) ≡ true → (ms more : List Message) (qs : List Passing)
          → (s : Says ms (place_at left.sessions number) qs) → SayMessages (s.accepted ++ pieces_behind) more
          → Says more (At new) (qs ++ went behind)
      here-says here ms more qs s says =
          let here_is : number ≡ n = same_number number n here in
          let (stood, was, lives, becomes) =
          (at n left.sessions (ChangesLive n (sends.goes).before (sends.goes).after) new.talk.sessions
          (sends.goes).stepped).about
          (eq-same n) in
          record {
            accepted = s.accepted ++ pieces_behind;
            queued =
                subst (λ (o : Option Stood). QueuedAt handle.0 (s.accepted ++ pieces_behind) o (qs ++ went behind))
                (sym (ap (λ (k : ℕ). place_at new.talk.sessions k) here_is ∙ becomes))
                (behind-queued stood lives s.accepted qs
                (subst (λ (o : Option Stood). QueuedAt handle.0 s.accepted o qs)
                (ap (λ (k : ℕ). place_at left.sessions k) here_is ∙ was) s.queued));
            says = says;
          }

      passes-here : (number == n) ≡ true → (ms : List Message) (qs : List Passing)
          → Says ms (At new) ((qs ++ took_so) ++ went behind) → Says ms (At new) (qs ++ passed_so)
      passes-here here ms qs s =
          let took : List Passing = Came (body.Flow flow) ∷ went first in
          subst (λ (ps : List Passing). Says ms (At new) ps)
          (ap (λ (b : Bool). (qs ++ (if b then took else [])) ++ went behind) here
          ∙ append_assoc qs took (went behind)
          ∙ ap (λ (ps : List Passing). qs ++ Came (body.Flow flow) ∷ ps)
          (sym (map-append Went first behind) ∙ ap went (sym are))
          ∙ ap (λ (b : Bool). qs ++ (if b then Came (body.Flow flow) ∷ went frames else [])) (sym here)
          ∙ ap (λ (ps : List Passing). qs ++ ps) (reached-so n first left there))
          s

      -- by another link
      other-says : (number == n) ≡ true → (sends.own == handle.0) ≡ false → (ms : List Message) (qs : List Passing)
          → Says ms (place_at left.sessions number) (qs ++ took_so) → FlowSaid ms qs
      other-says here apart ms qs s =
          none-on ms qs
          (passes-here here ms qs
          (here-says here ms ms (qs ++ took_so) s
          (subst (λ (ps : List Piece). SayMessages ps ms)
          (sym
          (ap (λ (ps : List Piece). s.accepted ++ map bare ps) (pieces-none sends.own handle.0 sent_batches apart)
          ∙ append-nil s.accepted))
          s.says)))

      -- by this one, which has to send on what the Flow lets it
      own-are : (it : Link) → NamedBy old.talk (record { 0 = channel }) flow n sends.own it → sends.own ≡ handle.0
          → number ≡ n → goes_on it.link ≡ on_so
      own-are it by same here =
          let is_ours : by.before.number ≡ link =
          same_Some by.before.number link
          (sym (number-there old.talk number handle by.before
          (ap (λ (k : ℕ). link_of old.talk k handle) here
          ∙ ap (λ (k : ℕ). link_of old.talk n (record { 0 = k })) (sym same) ∙ by.stood))
          ∙ agree-stands old agrees link number handle held) in
          by.ons
          ∙ sym
          (ap (λ (o : Option Handle). on_named link old channel flow o) by.names
          ∙ ap (λ (o : Option Link). on_of link o (said_of_link flow by.named)) by.was
          ∙ ap (λ (b : Bool). if b then sends_on_by by.before.link (said_of_link flow by.named) else [])
          (ap (λ (k : ℕ). k == link) is_ours ∙ eq-same link))

      own-ons : sends.own ≡ handle.0 → number ≡ n → (found : Option Link) → link_of left n own ≡ found
          → (sends.ons ≡ []) ⊎ (sends.ons ≡ on_so)
      own-ons same here None found =
          inl (sym sends.are ∙ ap (λ (o : Option Link). goes_on_at (end_of o)) found)
      own-ons same here (Some it) found =
          inr
          (sym sends.are ∙ ap (λ (o : Option Link). goes_on_at (end_of o)) found
          ∙ own-are it (stays sends.own it sends.is_named found) same here)

      front : (count : ℕ) → ((sends.ons ≡ []) ⊎ (sends.ons ≡ on_so))
          → (k : ℕ) × (map message_on (take count sends.ons) ≡ map message_on (take k on_so))
      front count (inl none) = (
        0,
        ap (λ (xs : List PreparedSendOn). map message_on (take count xs)) none
            ∙ ap (λ (xs : List PreparedSendOn). map message_on xs) (none-taken count),
      )
      front count (inr same) = (count, ap (λ (xs : List PreparedSendOn). map message_on (take count xs)) same)

      so-said : (found : Option Link) → link_of left n own ≡ found → AreSaidOn sends.ons
      so-said None found =
          subst AreSaidOn (sym (sym sends.are ∙ ap (λ (o : Option Link). goes_on_at (end_of o)) found)) tt
      so-said (Some it) found =
          subst AreSaidOn (sym (sym sends.are ∙ ap (λ (o : Option Link). goes_on_at (end_of o)) found)) (all-so it.link)

      -- what its transfers say with what was said before
      own-on : (ms : List Message) (w : List Piece) → SayMessages w ms → SaysOn own sends.ons sent_batches ms w
      own-on ms w said =
          cut-says limit own sends.ons gone.batches gone.all gone.count gone.cut (so-said (link_of left n own) refl) ms
          w said

      own-says : (number == n) ≡ true → sends.own ≡ handle.0 → (ms : List Message) (qs : List Passing)
          → Says ms (place_at left.sessions number) (qs ++ took_so) → FlowSaid ms qs
      own-says here same ms qs s =
          let on = own-on ms s.accepted s.says in
          let (k, are_front) =
          front on.count (own-ons same (same_number number n here) (link_of left n own) refl) in
          record {
            count = k;
            says =
                passes-here here (ms ++ map message_on (take k on_so)) qs
                (here-says here ms (ms ++ map message_on (take k on_so)) (qs ++ took_so) s
                (subst (λ (x : List Message). SayMessages (s.accepted ++ pieces_behind) (ms ++ x)) are_front
                (subst
                (λ (h : ℕ). SayMessages (s.accepted ++ map bare (pieces_by h (by_link own sent_batches)))
                (ms ++ map message_on (take on.count sends.ons)))
                same on.says)));
          }

      sends-says : (ms : List Message) (qs : List Passing) → Says ms (At old) qs → FlowSaid ms qs
      sends-says ms qs s = by (number == n) refl (eqb_tells sends.own handle.0)
        where
          before : Says ms (place_at left.sessions number) (qs ++ took_so)
          before = heard-says n first left there ms qs s

          by : (b : Bool) → (number == n) ≡ b
              → (((sends.own == handle.0) ≡ true) × (sends.own ≡ handle.0))
              ⊎ (((sends.own == handle.0) ≡ false) × (sends.own ≢ handle.0)) → FlowSaid ms qs
          by false apart either = elsewhere apart ms qs before
          by true here (inl same) = own-says here same.1 ms qs before
          by true here (inr other) = other-says here other.0 ms qs before

    -- or nothing goes on
    none-says : (n : ℕ) (first behind : List SessionFrame) (left : Talk) → Heard n first left → frames ≡ first ++ behind
        → behind ≡ [] → new.talk ≡ left → (ms : List Message) (qs : List Passing) → Says ms (At old) qs
        → FlowSaid ms qs
    none-says n first behind left there are none same ms qs s =
        let all : frames ≡ first = are ∙ ap (λ (fs : List SessionFrame). first ++ fs) none ∙ append-nil first in
        fails-so n
        (subst (λ (t : Talk). Heard n frames t) (sym same)
        (subst (λ (fs : List SessionFrame). Heard n fs left) (sym all) there))
        ms qs s

    flow-says : (ms : List Message) (qs : List Passing) → Says ms (At old) qs → FlowSaid ms qs
    flow-says ms qs s =
        elim
        (flow-parts (PassedBy (StaysQueued handle.0) (queues-keep handle.0))
        (AllPassedBy (StaysQueued handle.0) (queues-keep handle.0))
        (judging (StaysQueued handle.0) (queues-keep handle.0)) old.talk old.links limit (record { 0 = channel }) flow
        frames events new.talk new.links h) [
          | inl t ↦ elim t.sends [
            | inl none ↦
                none-says (number_of t.heard) t.first t.behind t.left t.there t.frames_are none.0 none.1 ms qs s
            | inr sends ↦
                sends-says (number_of t.heard) t.first t.behind t.left t.there t.frames_are t.stays sends ms qs s
          ]
          | inr fails ↦ fails-so fails.0 fails.1 ms qs s
        ]

  -- a frame of the peer's
  frame-said : (limit : ℕ) (f : Frame) (it : FrameBody) → f.body ≡ it → (frames : List SessionFrame)
      (events : List Event) (old new : LinkedSessions) → Agree old
      → link_place old.links link ≡ Some (Held number handle)
      → IsDeed linked old (Takes limit f frames events) new → (ms : List Message) (qs : List Passing)
      → Says ms (At old) qs → SaidIn (Takes limit f frames events) old new ms qs
  frame-said limit f (body.Flow flow) is frames events old new agrees held d ms qs s =
      let h = subst (λ (it : FrameBody).
      HearsFrame old.talk old.links old.given limit (record { 0 = f.channel }) it frames events new.talk new.links
      new.given) is d.0 in
      let said = flow-says limit f.channel flow frames events old new agrees held h.0 ms qs s in
      record {
        more = map message_on (take said.count (on_named link old f.channel flow flow.handle));
        is = record {
          ons = on_by link old f.channel f.body;
          go_on = inr refl;
          count = said.count;
          are =
              ap (λ (it : FrameBody). map message_on (take said.count (on_by link old f.channel it))) (sym is);
        };
        says =
            subst
            (λ (it : FrameBody).
            Says (ms ++ map message_on (take said.count (on_named link old f.channel flow flow.handle))) (At new)
            (qs
            ++ (if is_it (session_taking old f.channel it) number then Came it ∷ went frames else [])))
            (sym is) said.says;
      }
  frame-said limit f it is frames events old new agrees held d ms qs s =
      given-said (Takes limit f frames events) old new ms qs
      (quiet-deed (Takes limit f frames events) old new (λ flows. subst IsFlow is flows) d ms qs s)

  -- another link attaches, and by its own handle alone anything goes on
  module _ (limit n : ℕ) (it : End) (other : ℕ) (events : List Event) (frames : List SessionFrame)
      (old new : LinkedSessions)
      (a : IsPlaced old.talk old.links limit n it other events frames new.talk new.links) (agrees : Agree new)
      (held : link_place new.links link ≡ Some (Held number handle)) (apart : link ≢ other)
    where
      abbrev its_before : Linked
      its_before = a.attaches.attaches.before.value

      abbrev its_after : Linked
      its_after = a.attaches.attaches.after.value

      goes-inside : AttachesInside its_before its_after limit it a.placed a.attaches.frames
      goes-inside = attaches-inside old.talk new.talk limit n it a.placed a.attaches.frames a.attaches.attaches

      its-handle : n ≡ number → (a.placed.handle.0 == handle.0) ≡ false
      its-handle here =
          elim (eqb_tells a.placed.handle.0 handle.0) [
            | inl same ↦
                let there : link_place new.links other ≡ Some (Held number handle) =
                held-place (link_place new.links other) n a.placed.handle (ap (held_at new.links) a.numbered ∙ a.held)
                ∙ ap (λ (x : ℕ). Some (Held x a.placed.handle)) here
                ∙ ap (λ (x : ℕ). Some (Held number (record { 0 = x }))) same.1 in
                absurd (apart (sym (agree-apart new agrees other link number handle there held)))
            | inr differ ↦ differ.0
          ]

      abbrev gone_by : List Piece
      gone_by = map bare (pieces_by handle.0 goes-inside.accepted)

      goes-queued : (stood : Stood) → live_of (Some stood) ≡ Some a.attaches.attaches.before → (w : List Piece)
          (qs : List Passing) → QueuedAt handle.0 w (Some stood) qs
          → QueuedAt handle.0 (w ++ gone_by) (Some (with_live stood a.attaches.attaches.after)) (qs ++ went frames)
      goes-queued (Live channel s) is w qs q =
          more-queued handle.0 goes-inside.accepted w its_before.session its_after.session qs (went frames)
          (attached-did its_before its_after limit it a.placed a.attaches.frames goes-inside frames a.attaches.queued)
          (subst (λ (x : Session). Queued handle.0 w x.value.session qs) (same_Some s a.attaches.attaches.before is) q)
      goes-queued (Asked channel s) is w qs q = absurd (none-some a.attaches.attaches.before is)
      goes-queued (Ending channel own_end) is w qs q = absurd (none-some a.attaches.attaches.before is)
      goes-queued (Over peer_end complete) is w qs q = absurd (none-some a.attaches.attaches.before is)

      attaches-here : n ≡ number → (ms : List Message) (qs : List Passing) → Says ms (At old) qs
          → Says ms (At new) (qs ++ went frames)
      attaches-here here ms qs s =
          let i = a.attaches.attaches in
          let (stood, was, lives, becomes) =
          (at n old.talk.sessions (ChangesLive n i.before i.after) new.talk.sessions i.stepped).about (eq-same n) in
          record {
            accepted = s.accepted ++ gone_by;
            queued =
                subst (λ (o : Option Stood). QueuedAt handle.0 (s.accepted ++ gone_by) o (qs ++ went frames))
                (sym (ap (λ (k : ℕ). place_at new.talk.sessions k) (sym here) ∙ becomes))
                (goes-queued stood lives s.accepted qs
                (subst (λ (o : Option Stood). QueuedAt handle.0 s.accepted o qs)
                (ap (λ (k : ℕ). place_at old.talk.sessions k) (sym here) ∙ was) s.queued));
            says =
                says-aborted s.accepted gone_by ms
                (attached-beside its_before its_after limit it a.placed a.attaches.frames goes-inside handle.0
                (its-handle here))
                s.says;
          }

      attaches-there : (number == n) ≡ false → (ms : List Message) (qs : List Passing) → Says ms (At old) qs
          → Says ms (At new) qs
      attaches-there away ms qs s =
          let i = a.attaches.attaches in
          let same : At new ≡ At old =
          (at number old.talk.sessions (ChangesLive n i.before i.after) new.talk.sessions i.stepped).other away in
          subst (λ (o : Option Stood). Says ms o qs) (sym same) s

      attaches-by : (b : Bool) → (number == n) ≡ b → (ms : List Message) (qs : List Passing) → Says ms (At old) qs
          → Says ms (At new) (qs ++ (if b then went frames else []))
      attaches-by true here ms qs s = attaches-here (sym (same_number number n here)) ms qs s
      attaches-by false away ms qs s =
          subst (λ (rs : List Passing). Says ms (At new) rs) (sym (append-nil qs)) (attaches-there away ms qs s)

      other-attaches : (ms : List Message) (qs : List Passing) → Says ms (At old) qs
          → Says (ms ++ []) (At new) (qs ++ (if number == n then went frames else []))
      other-attaches ms qs s =
          subst (λ (x : List Message). Says x (At new) (qs ++ (if number == n then went frames else [])))
          (sym (append-nil ms)) (attaches-by (number == n) refl ms qs s)

  -- one that is new is another
  new-apart : (limit n : ℕ) (it : End) (other : ℕ) (events : List Event) (frames : List SessionFrame)
      (old new : LinkedSessions) → slot_at old.links link ≢ None
      → LinkAttached old.talk old.links limit n it other events frames new.talk new.links → link ≢ other
  new-apart limit n it other events frames old new entered a same =
      entered
      (ap (λ (k : ℕ). slot_at old.links k) same ∙ (link-entered old new limit n it other events frames a).0)

  one-deed : (deed : Deed) (old new : LinkedSessions) → (IsResumed link deed → ⊥) → slot_at old.links link ≢ None
      → Agree old → link_place old.links link ≡ Some (Held number handle)
      → link_place new.links link ≡ Some (Held number handle) → IsDeed linked old deed new → (ms : List Message)
      (qs : List Passing) → Says ms (At old) qs → SaidIn deed old new ms qs
  one-deed (Does limit (call.AttachSender n its) (attaching other events) frames) old new never entered agrees held
      later d ms qs s =
      let deed = Does limit (call.AttachSender n its) (attaching other events) frames in
      given-said deed old new ms qs
      (other-attaches limit n (sender_by its) other events frames old new
      (is-new old.talk new.talk old.links new.links limit n (sender_by its) other events frames d.0)
      (agree-kept old new deed d agrees) later
      (new-apart limit n (sender_by its) other events frames old new entered d.0) ms qs s)
  one-deed (Does limit (call.AttachReceiver n its) (attaching other events) frames) old new never entered agrees held
      later d ms qs s =
      let deed = Does limit (call.AttachReceiver n its) (attaching other events) frames in
      given-said deed old new ms qs
      (other-attaches limit n (receiver_by its) other events frames old new
      (is-new old.talk new.talk old.links new.links limit n (receiver_by its) other events frames d.0)
      (agree-kept old new deed d agrees) later
      (new-apart limit n (receiver_by its) other events frames old new entered d.0) ms qs s)
  one-deed (Does limit (call.Resume other n) (attaching one events) frames) old new never entered agrees held later d
      ms qs s =
      let deed = Does limit (call.Resume other n) (attaching one events) frames in
      given-said deed old new ms qs
      (other-attaches limit n d.0.resumes.link other events frames old new
      (is-again old.talk new.talk old.links new.links limit n other one events frames d.0)
      (agree-kept old new deed d agrees) later (λ same. never (sym same)) ms qs s)
  one-deed (Does limit (call.AttachSender n its) answer frames) old new never entered agrees held later d ms qs s =
      absurd d.0
  one-deed (Does limit (call.AttachReceiver n its) answer frames) old new never entered agrees held later d ms qs s =
      absurd d.0
  one-deed (Does limit (call.Resume other n) answer frames) old new never entered agrees held later d ms qs s =
      absurd d.0
  one-deed (Does limit (call.Send other message) (message_sent tag outcome) frames) old new never entered agrees held
      later d ms qs s =
      let c = (d.0).sends in
      given-said (Does limit (call.Send other message) (message_sent tag outcome) frames) old new ms qs
      (sent-at limit other message tag outcome frames old new c.settled (link_place old.links other) agrees held refl
      c.tagged c.told c.sent ms qs s)
  one-deed (Does limit (call.Send other message) answer frames) old new never entered agrees held later d ms qs s =
      absurd d.0
  one-deed (Takes limit f frames events) old new never entered agrees held later d ms qs s =
      frame-said limit f f.body refl frames events old new agrees held d ms qs s
  one-deed deed old new never entered agrees held later d ms qs s =
      given-said deed old new ms qs (quiet-deed deed old new (λ sends. sends) d ms qs s)

  pub record SaidBy (deeds : List Deed) (old new : LinkedSessions) (later : List Passing) (ms : List Message)
      (qs : List Passing) : Type 0 where
    pub more : List Message
    pub are : AreSaid link old deeds new more
    pub says : Says (ms ++ more) (At new) (qs ++ later)

  pub since : (deeds : List Deed) (old new : LinkedSessions) (later : List Passing) → NeverResumed link deeds
      → Agree old → PassesIn number old deeds new later → slot_at old.links link ≢ None
      → link_place new.links link ≡ Some (Held number handle) → (ms : List Message) (qs : List Passing)
      → Says ms (At old) qs → SaidBy deeds old new later ms qs
  since [] old new later never agrees (same, none) entered held ms qs s =
      record {
        more = [];
        are = (same, refl);
        says =
            subst (λ (rs : List Passing). Says (ms ++ []) (At new) rs)
            (sym (ap (λ (ps : List Passing). qs ++ ps) none ∙ append-nil qs))
            (subst (λ (x : List Message). Says x (At new) qs) (sym (append-nil ms))
            (subst (λ (x : LinkedSessions). Says ms (At x) qs) (sym same) s));
      }
  since (deed ∷ deeds) old new later never agrees (mid, rest, one, others, is) entered held ms qs s =
      let entered-mid : slot_at mid.links link ≢ None =
      entered-before link number handle back_on left_on finished_on deed old mid one entered in
      let held-old : link_place old.links link ≡ Some (Held number handle) =
      held-since link number handle back_on left_on finished_on (deed ∷ deeds) old new never
      (mid, one, done-of number deeds mid new rest others) entered held in
      let held-mid : link_place mid.links link ≡ Some (Held number handle) =
      held-since link number handle back_on left_on finished_on deeds mid new never.1
      (done-of number deeds mid new rest others) entered-mid held in
      let first = one-deed deed old mid never.0 entered agrees held-old held-mid one ms qs s in
      let all =
      since deeds mid new rest never.1 (agree-kept old mid deed one agrees) others entered-mid held (ms ++ first.more)
      (qs ++ passes_in number old deed) first.says in
      record {
        more = first.more ++ all.more;
        are = (mid, first.more, all.more, one, first.is, all.are, refl);
        says =
            subst (λ (rs : List Passing). Says (ms ++ (first.more ++ all.more)) (At new) (qs ++ rs)) (sym is)
            (subst (λ (rs : List Passing). Says (ms ++ (first.more ++ all.more)) (At new) rs)
            (append_assoc qs (passes_in number old deed) rest)
            (subst (λ (x : List Message). Says x (At new) ((qs ++ passes_in number old deed) ++ rest))
            (append_assoc ms first.more all.more) all.says));
      }
