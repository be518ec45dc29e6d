-- What was made ready for a link that waits serves once it took the peer's Attach.
use Rattle.std.proofs.Common.{◌≡◌, ◌≤◌, ◌+◌, inl, inr, ℕ, Bool, true, false, Option, Some, None, Result, Ok, Err}
use Rattle.std.proofs.Common.{List, []}
use Rattle.std.proofs.Common.{refl, sym, ap, subst, ◌∙◌, length}
use Rattle.std.specs.Prelude.{is_some, option_map}
use Rattle.std.proofs.lemmas.Option.{same_Some}
use Rattle.amqp_session_types.specs.declared.channels.IncomingChannel.{IncomingChannel}
use Rattle.amqp_session_types.specs.declared.handles.OutputHandle.{OutputHandle}
use Rattle.amqp_session_performatives.specs.declared.attach.Attach.{Attach}
use Rattle.amqp_session_performatives.specs.declared.session_frame.SessionFrame.{SessionFrame}
use Rattle.amqp_session_core.specs.declared.batch.BehindFrame.{BehindFrame}
use Rattle.amqp_session_core.specs.declared.batch.TransferFrame.{TransferFrame}
use Rattle.amqp_session_outgoing.specs.Queues.{frames_in, room_behind}
use Rattle.amqp_session_outgoing.specs.State as sending
use Rattle.amqp_link_base.specs.Moves.{moved_to}
use Rattle.amqp_link_base.specs.State.{after_incoming_attach}
use Rattle.amqp_link_base.specs.declared.state.LinkState.{LinkState}
use Rattle.amqp_link_types.specs.declared.attaching.SenderAttachError.{SenderAttachError}
use Rattle.amqp_link_types.specs.declared.attaching.SenderAttachError.TheVariants.{IllegalState}
use Rattle.amqp_link_types.specs.declared.attaching.ReceiverAttachError.{ReceiverAttachError}
use Rattle.amqp_link_unsettled.specs.declared.exchanging.Abort.{Abort}
use Rattle.amqp_link_sender.specs.declared.attaching.AttachAnswer.{AttachAnswer}
use Rattle.amqp_link_sender.specs.declared.attaching.AttachAnswer.TheVariants as answered
use Rattle.amqp_link_sender.specs.declared.attaching.Attaching.{Attaching}
use Rattle.amqp_link_sender.specs.Attaching as sender
use Rattle.amqp_link_sender.specs.Sending.{Sending}
use Rattle.amqp_link_receiver.specs.Attaching as receiver
use Rattle.amqp_link_receiver.specs.declared.attaching.Attached.{Attached as ReceiverAnswer}
use Rattle.amqp_link_receiver.specs.declared.attaching.Attached.TheVariants as received
use Rattle.amqp_link.specs.Gives.{attaches}
use Rattle.amqp_link.specs.Preparing.{attach_planned, receiver_planned, sender_planned}
use Rattle.amqp_link.specs.declared.end.End.{End}
use Rattle.amqp_link.specs.declared.end.End.TheVariants.{Sender, Receiver}
use Rattle.amqp_link.specs.declared.relay.AttachTold.{AttachTold}
use Rattle.amqp_link.specs.declared.relay.AttachTold.TheVariants as told
use Rattle.amqp_endpoint_links.specs.declared.asking.AttachTaken.TheVariants as attach
use Rattle.amqp_endpoint_links.specs.declared.asking.NamedLink.{NamedLink}
use Rattle.amqp_endpoint_links.specs.declared.asking.NamedLink.TheVariants.{Absent, Attached, Waiting}
use Rattle.amqp_endpoint_links.specs.declared.hearing.LinkPerformative.TheVariants as said
use Rattle.amqp_endpoint_links.specs.declared.hearing.PerformativeTaken.TheVariants as taken
use Rattle.amqp_endpoint_conversation.specs.declared.hearing.Heard.TheVariants.{Live}
use Rattle.amqp_endpoint_conversation.specs.Hearing.{Answered}
use Rattle.amqp_endpoint_attached.specs.Linked.{Linked, end_at, gives}
use Rattle.amqp_endpoint_messages.specs.GivingUp.{given_up_by, planned_at}
use Rattle.amqp_endpoint_messages.specs.GoingOn.{HasRoomToSend, count_on}
use Rattle.amqp_endpoint_messages.specs.MadeReady.{IsMadeReady}
use Rattle.amqp_endpoint_messages.specs.declared.giving_up.Closing.{Closing}
use Rattle.amqp_endpoint_messages.specs.declared.going_on.AttachReady.{AttachReady}
use Rattle.amqp_endpoint_messages.proofs.KeptTaken.{behind-still}
use Rattle.amqp_endpoint_model.specs.declared.event.Event.{Event}
use Rattle.amqp_endpoint_linking.specs.Linking.{Link, Session, Talk}
use Rattle.amqp_endpoint_link_hearing.specs.Attaching.{BecomesBy, of_receiver, of_sender, opened_in, opened_of}
use Rattle.amqp_endpoint_link_hearing.specs.Attaching.{outcome_of}
use Rattle.amqp_endpoint_link_hearing.specs.Heard.{attach_of}
use Rattle.amqp_endpoint_link_hearing.specs.Naming.{link_in, link_of}
use Rattle.amqp_endpoint_link_hearing.specs.Readied.{IsReady, IsToBeDone, IsToBeDoneBy, Readies, Serves, ServesFor}
use Rattle.amqp_endpoint_link_hearing.specs.Readied.{count_of}
use Rattle.amqp_endpoint_link_hearing.specs.Saying.{LinkHeard}
use Rattle.amqp_endpoint_link_hearing.specs.declared.hearing.Took.{Took}
use Rattle.amqp_endpoint_link_hearing.specs.declared.hearing.Took.TheVariants as took
use Rattle.amqp_endpoint_link_hearing.proofs.Heard.{AttachedThere, IsTaken, attach-there, is-there, taken-in}

-- what is in an answer
abbrev ok-in : {A E : Type 0} → A → Result A E → A
ok-in a (Ok x) = x
ok-in a (Err e) = a

abbrev is-err : {A E : Type 0} → Result A E → Bool
is-err (Ok x) = false
is-err (Err e) = true

not-ok : {A E : Type 0} (r : Result A E) (a : A) → is-err r ≡ true → r ≡ Ok a → ⊥
not-ok r a e is =
    let clash : true ≡ false = sym e ∙ ap is-err is in absurd cc

-- what is planned by an Attach is what a link that accepts it leaves to be done
module _ (s : Sending) (it : Attach) (after : Sending) (attaching : Attaching) where
  abbrev So : Option LinkState → Option SenderAttachError → Type 0
  So state error = given_up_by (sender_planned (sender.planned_by state error s it)) ≡ attaching.aborts

  over : (state : LinkState) (answer : AttachAnswer)
      → sender.TakesOver (moved_to s.base it state) s it (Ok answer) after → of_sender answer ≡ Ok attaching
      → So (Some state) None
  over state answer (inl (clash, _)) out = let no : false ≡ true = ap is-err clash in absurd cc
  over state answer (inr (is, _)) out =
      let same : answer ≡ sender.attach_told s (moved_to s.base it state) it = ap (ok-in answer) is in
      let so : of_sender (sender.attach_told s (moved_to s.base it state) it) ≡ Ok attaching =
      subst (λ (a : AttachAnswer). of_sender a ≡ Ok attaching) same out in
      ap (λ (a : Attaching). a.aborts) (ap (ok-in attaching) so)

  tested : (state : LinkState) (error : Option SenderAttachError) (answer : AttachAnswer)
      → sender.TakesTested error (moved_to s.base it state) s it (Ok answer) after → of_sender answer ≡ Ok attaching
      → So (Some state) error
  tested state None answer t out = over state answer t out
  tested state (Some error) answer (is, _) out =
      let same : answer ≡ answered.Refused error = ap (ok-in answer) is in
      absurd
      (not-ok (of_sender (answered.Refused error)) attaching refl
      (subst (λ (a : AttachAnswer). of_sender a ≡ Ok attaching) same out))

  moved : (state : Option LinkState) (answer : AttachAnswer)
      → sender.TakesMoved (option_map (λ (k : LinkState). moved_to s.base it k) state) s it (Ok answer) after
      → of_sender answer ≡ Ok attaching → So state (sender.attach_refusal s it)
  moved None answer (is, _) out =
      let same : answer ≡ answered.Refused IllegalState = ap (ok-in answer) is in
      absurd
      (not-ok (of_sender (answered.Refused IllegalState)) attaching refl
      (subst (λ (a : AttachAnswer). of_sender a ≡ Ok attaching) same out))
  moved (Some state) answer t out = tested state (sender.attach_refusal s it) answer t out

of-receiver : (answer : ReceiverAnswer) (attaching : Attaching) → of_receiver answer ≡ Ok attaching
    → attaching.aborts ≡ []
of-receiver (received.Refused error) attaching out =
    absurd (not-ok (of_receiver (received.Refused error)) attaching refl out)
of-receiver (received.Attached exchange) attaching out =
    sym (ap (λ (a : Attaching). a.aborts) (ap (ok-in attaching) out))

of-none : (planned : Result receiver.Plan ReceiverAttachError) → given_up_by (receiver_planned planned) ≡ []
of-none (Ok plan) = refl
of-none (Err error) = refl

pub given-up : (before : End) (it : Attach) (answer : AttachTold) (after : End) (attaching : Attaching)
    → attaches before it (Ok answer) after → outcome_of answer ≡ Ok attaching
    → given_up_by (attach_planned before it) ≡ attaching.aborts
given-up (Sender s) it (told.Sender answer) (Sender after) attaching t out =
    moved s it after attaching (after_incoming_attach s.base.local_state it.incomplete_unsettled) answer t out
given-up (Receiver r) it (told.Receiver answer) (Receiver after) attaching t out =
    of-none (receiver.attach_planned r it) ∙ sym (of-receiver answer attaching out)
given-up before it answer after attaching t out = absurd t

-- room that was made before serves behind the Attach
place-serves : (old new : Linked) (ready : AttachReady) (len capacity : ℕ)
    → new.session.outgoing ≡ old.session.outgoing → HasRoomToSend ready old len capacity
    → HasRoomToSend ready new len capacity
place-serves old new ready len capacity same h =
    record {
      room =
          subst
          (λ (o : sending.State TransferFrame BehindFrame).
          length ready.giving.batches.items + count_on ready.on ≤ o.room)
          (sym same) h.room;
      spare =
          subst (λ (o : sending.State TransferFrame BehindFrame). len + (frames_in o.queues + o.room) + 2 ≤ capacity)
          (sym same) h.spare;
      place =
          record {
            some = (h.place).some;
            serves =
                subst
                (λ (o : sending.State TransferFrame BehindFrame).
                room_behind ready.closing.handle.0 1 o.queues ≤ ready.closing.place)
                (sym same) (h.place).serves;
          };
      behind =
          behind-still old new ready.closing.handle ready.on
          (ap (λ (o : sending.State TransferFrame BehindFrame). o.queues) same) h.behind;
    }

-- a link that is to take it is there, and what was made ready serves
module _ (limit : ℕ) (old : Talk) (channel : IncomingChannel) (out : List SessionFrame) (it : Attach)
    (handle : OutputHandle) (session : ℕ) (answer : AttachTold) (new : Talk) (out_new : List SessionFrame)
    (len capacity : ℕ)
    (t : Answered gives old out channel (said.Attach it (Waiting handle))
    (Ok (Live session (taken.Attach (attach.ByLink answer)))) new out_new) where
  taken-there : IsTaken old channel out (said.Attach it (Waiting handle)) session (taken.Attach (attach.ByLink answer))
      new out_new
  taken-there =
      taken-in old channel out (said.Attach it (Waiting handle)) session (taken.Attach (attach.ByLink answer)) new
      out_new t

  link-there : AttachedThere (taken-there.before).value ((taken-there.takes).after).value handle it answer
  link-there = attach-there old channel out it handle session answer new out_new taken-there

  module _ (ready : AttachReady) (p : Readies limit old channel (Waiting handle) it len capacity (Some ready)) where
    ready-there : IsReady limit (taken-there.before).value session handle it len capacity ready
    ready-there = p session taken-there.before taken-there.reaches taken-there.live

    some-serves : ServesFor new session handle len capacity ready
    some-serves =
        let before : Linked = (taken-there.before).value in
        let after : Session = (taken-there.takes).after in
        let sends : HasRoomToSend ready after.value len capacity =
        place-serves before after.value ready len capacity link-there.outgoing ready-there.sends in
        record {
          session = ap (λ (c : Closing). c.session) (ready-there.closing).is;
          handle = ap (λ (c : Closing). c.handle) (ready-there.closing).is;
          there = ap is_some (is-there new session handle after link-there.link taken-there.stands link-there.there);
          sends =
              λ s live.
              subst (λ (a : Session). HasRoomToSend ready a.value len capacity)
              (same_Some _ _ (sym taken-there.stands ∙ live)) sends;
          bare = ready-there.bare;
          none = ready-there.none;
          why = ap (λ (c : Closing). c.why) (ready-there.closing).is;
        }

    -- it is what the Attach leaves to be done
    some-to-do : IsToBeDone limit answer ready
    some-to-do attaching out_is =
        let before : Linked = (taken-there.before).value in
        let planned : planned_at (end_at before handle) it ≡ given_up_by (attach_planned (link-there.before).link it) =
        ap (λ (o : Option Link). planned_at (option_map (λ (n : Link). n.link) o) it) link-there.was in
        subst (λ (h : OutputHandle). IsMadeReady limit h attaching.aborts ready.giving)
        (sym (ap (λ (c : Closing). c.handle) (ready-there.closing).is))
        (subst (λ (aborts : List Abort). IsMadeReady limit handle aborts ready.giving)
        (planned
        ∙ given-up (link-there.before).link it answer (link-there.link).link attaching link-there.took.0 out_is)
        ready-there.giving)

    -- as many of its messages were open as when it was made ready
    some-opened : ready.closing.count ≡ opened_of (link_of old session handle)
    some-opened =
        ap (λ (c : Closing). c.count) (ready-there.closing).is
        ∙ ap (λ (s : Option Session). opened_of (link_in s handle)) (sym taken-there.live)

  serves-by : (ready : Option AttachReady) → Readies limit old channel (Waiting handle) it len capacity ready
      → Serves new (took.ByLink session answer) (Waiting handle) len capacity ready
  serves-by None p = p session taken-there.before taken-there.reaches taken-there.live
  serves-by (Some ready) p = some-serves ready p

  to-do-by : (ready : Option AttachReady) → Readies limit old channel (Waiting handle) it len capacity ready
      → IsToBeDoneBy limit (took.ByLink session answer) (Waiting handle) ready
  to-do-by None p = tt
  to-do-by (Some ready) p = some-to-do ready p

  opened-by : (ready : Option AttachReady) → Readies limit old channel (Waiting handle) it len capacity ready
      → count_of ready ≡ opened_of (link_of old session handle)
  opened-by None p = absurd (p session taken-there.before taken-there.reaches taken-there.live)
  opened-by (Some ready) p = some-opened ready p

-- where none waits there is none to go on with
serves-absent : (talk : Talk) (it : Took) (len capacity : ℕ) (ready : Option AttachReady)
    → Serves talk it Absent len capacity ready
serves-absent talk (took.Asked session) len capacity ready = tt
serves-absent talk (took.ByLink session answer) len capacity ready = tt
serves-absent talk took.Nothing len capacity ready = tt

serves-attached : (talk : Talk) (it : Took) (len capacity : ℕ) (ready : Option AttachReady)
    → Serves talk it Attached len capacity ready
serves-attached talk (took.Asked session) len capacity ready = tt
serves-attached talk (took.ByLink session answer) len capacity ready = tt
serves-attached talk took.Nothing len capacity ready = tt

absent-to-do : (limit : ℕ) (it : Took) (ready : Option AttachReady) → IsToBeDoneBy limit it Absent ready
absent-to-do limit (took.Asked session) ready = tt
absent-to-do limit (took.ByLink session answer) ready = tt
absent-to-do limit took.Nothing ready = tt

attached-to-do : (limit : ℕ) (it : Took) (ready : Option AttachReady) → IsToBeDoneBy limit it Attached ready
attached-to-do limit (took.Asked session) ready = tt
attached-to-do limit (took.ByLink session answer) ready = tt
attached-to-do limit took.Nothing ready = tt

module _ (limit : ℕ) (old : Talk) (channel : IncomingChannel) (out : List SessionFrame) (it : Attach)
    (len capacity : ℕ) (ready : Option AttachReady) (new : Talk) (out_new : List SessionFrame) where
  serves-in : (named : NamedLink) (heard : LinkHeard) → Readies limit old channel named it len capacity ready
      → Answered gives old out channel (said.Attach it named) (Ok heard) new out_new
      → Serves new (attach_of heard) named len capacity ready
  serves-in (Waiting handle) (Live session (taken.Attach (attach.ByLink answer))) p t =
      serves-by limit old channel out it handle session answer new out_new len capacity t ready p
  serves-in (Waiting handle) heard p t = tt
  serves-in Absent heard p t = serves-absent new (attach_of heard) len capacity ready
  serves-in Attached heard p t = serves-attached new (attach_of heard) len capacity ready

  to-do-in : (named : NamedLink) (heard : LinkHeard) → Readies limit old channel named it len capacity ready
      → Answered gives old out channel (said.Attach it named) (Ok heard) new out_new
      → IsToBeDoneBy limit (attach_of heard) named ready
  to-do-in (Waiting handle) (Live session (taken.Attach (attach.ByLink answer))) p t =
      to-do-by limit old channel out it handle session answer new out_new len capacity t ready p
  to-do-in (Waiting handle) heard p t = tt
  to-do-in Absent heard p t = absent-to-do limit (attach_of heard) ready
  to-do-in Attached heard p t = attached-to-do limit (attach_of heard) ready

  module _ (frames : List SessionFrame) (told : List Event) (behind : Talk) where
    abbrev Comes : NamedLink → Took → ℕ → Type 0
    Comes named took count = BecomesBy limit count took named new it frames told behind

    becomes-absent : (it_took : Took) (a b : ℕ) → Comes Absent it_took a → Comes Absent it_took b
    becomes-absent (took.Asked session) a b so = so
    becomes-absent (took.ByLink session answer) a b so = so
    becomes-absent took.Nothing a b so = so

    becomes-attached : (it_took : Took) (a b : ℕ) → Comes Attached it_took a → Comes Attached it_took b
    becomes-attached (took.Asked session) a b so = so
    becomes-attached (took.ByLink session answer) a b so = so
    becomes-attached took.Nothing a b so = so

    -- so many of the link's messages were open before
    pub becomes-opened : (named : NamedLink) (heard : LinkHeard)
        → Readies limit old channel named it len capacity ready
        → Answered gives old out channel (said.Attach it named) (Ok heard) new out_new
        → Comes named (attach_of heard) (count_of ready)
        → Comes named (attach_of heard) (opened_in old (attach_of heard) named)
    becomes-opened (Waiting handle) (Live session (taken.Attach (attach.ByLink answer))) p t so =
        subst (λ (n : ℕ). Comes (Waiting handle) (took.ByLink session answer) n)
        (opened-by limit old channel out it handle session answer new out_new len capacity t ready p) so
    becomes-opened (Waiting handle) heard p t so = so
    becomes-opened Absent heard p t so = becomes-absent (attach_of heard) (count_of ready) _ so
    becomes-opened Attached heard p t so = becomes-attached (attach_of heard) (count_of ready) _ so

  module _ (named : NamedLink) (heard : LinkHeard) (it_took : Took) (is : it_took ≡ attach_of heard)
      (p : Readies limit old channel named it len capacity ready)
      (t : Answered gives old out channel (said.Attach it named) (Ok heard) new out_new) where
    pub serves-for : Serves new it_took named len capacity ready
    serves-for =
        subst (λ (k : Took). Serves new k named len capacity ready) (sym is) (serves-in named heard p t)

    pub to-do-for : IsToBeDoneBy limit it_took named ready
    to-do-for =
        subst (λ (k : Took). IsToBeDoneBy limit k named ready) (sym is) (to-do-in named heard p t)
