-- What is handed out of the frames that came is a beginning of what was accepted to be sent by these and more.
use Rattle.std.proofs.Common.{◌≡◌, ◌==◌, ◌⊎◌, inl, inr, ℕ, zero, suc, Bool, true, false, List, [], ◌∷◌, ◌++◌, Option}
use Rattle.std.proofs.Common.{Some, None, if◌then◌else◌, ap, append_assoc, map, refl, sym, subst, take, ◌∙◌}
use Rattle.std.specs.Prelude.{option_map, unwrap_or}
use Rattle.amqp_session_types.specs.declared.handles.Handle.{Handle}
use Rattle.amqp_session_types.specs.declared.handles.OutputHandle.{OutputHandle}
use Rattle.amqp_session_performatives.specs.declared.flow.Flow.{Flow}
use Rattle.amqp_session_performatives.specs.declared.link_flow.LinkFlow.{LinkFlow}
use Rattle.amqp_session_performatives.specs.declared.session_frame.SessionFrame.{SessionFrame}
use Rattle.amqp_session_frames.specs.declared.frame.FrameBody.{FrameBody}
use Rattle.amqp_session_frames.specs.declared.frame.FrameBody.TheVariants as frame_body
use Rattle.amqp_link_base.specs.Readings.{Piece, Reading, nothing, readings}
use Rattle.amqp_link_base.specs.Said.{Said}
use Rattle.amqp_link_receiver.specs.Reading.{says}
use Rattle.amqp_link.specs.GoingOn.{sends_on_by}
use Rattle.amqp_link_sender.specs.declared.sending_on.PreparedSendOn.{PreparedSendOn}
use Rattle.amqp_endpoint.specs.declared.linked.LinkedSessions.{LinkedSessions}
use Rattle.amqp_endpoint_attached.specs.Answering.{plain}
use Rattle.amqp_endpoint_link_hearing.specs.Flowing.{said_of_link}
use Rattle.amqp_endpoint_link_hearing.specs.Reached.{link_on}
use Rattle.amqp_endpoint_linking.specs.Linking.{Link}
use Rattle.amqp_endpoint_laws.specs.Deeds.{Deed, Does, Takes}
use Rattle.amqp_endpoint_model.specs.Said.{Said as Answer, message_sent}
use Rattle.amqp_endpoint_model.specs.declared.call.Call.{Call}
use Rattle.amqp_endpoint_model.specs.declared.call.Call.TheVariants.{Resume, Send}
use Rattle.amqp_endpoint_laws.specs.Attachments.{attachment, bodies_of}
use Rattle.amqp_endpoint_laws.specs.Handed.{handed_as}
use Rattle.amqp_endpoint_laws.specs.Queued.{AreSaid, GoesOnBy, Message, SayAll, message_done, message_in, message_of}
use Rattle.amqp_endpoint_laws.specs.Queued.{message_on, on_by, on_named, on_of}
use Rattle.amqp_endpoint_laws.specs.Taken.{message_handed}
use Rattle.amqp_endpoint_laws.proofs.HandedOut.{readings-both}
use Rattle.amqp_endpoint_laws.proofs.QueuedFlow.{AreSaidOn, IsSaidOn, answered-so, by-so}
use Rattle.amqp_endpoint_laws.proofs.QueuedSaid.{map-both}
use Rattle.amqp_endpoint_laws.proofs.TakenRead.{begins-said, more-said}

-- what a receiver makes of what is left out of a message
abbrev full : Message → Message
full m =
    record {
      tag = Some (unwrap_or m.tag []);
      format = m.format;
      settled = Some (says m.settled);
      payload = m.payload;
    }

-- of each of these messages its tag and whether it is settled is said
abbrev AreFull : List Message → Type 0
AreFull [] = Unit {0}
AreFull (m ∷ ms) = (m ≡ full m) × AreFull ms

full-both : (ms ns : List Message) → AreFull ms → AreFull ns → AreFull (ms ++ ns)
full-both [] ns a b = b
full-both (m ∷ ms) ns (one, a) b = (one, full-both ms ns a b)

full-first : (ms ns : List Message) → AreFull (ms ++ ns) → AreFull ms
full-first [] ns a = tt
full-first (m ∷ ms) ns (one, a) = (one, full-first ms ns a)

-- so it is of each that is accepted
one-full : (b : Bool) (m : Message) → m ≡ full m → AreFull (if b then m ∷ [] else [])
one-full true m is = (is, tt)
one-full false m is = tt

done-full : (link : ℕ) (it : Call) (answer : Answer) → AreFull (message_done link it answer)
done-full link (Send number message) (message_sent tag outcome) = one-full (number == link) _ refl
done-full link (Send number message) answer = tt
done-full link it answer = tt

in-full : (link : ℕ) (deed : Deed) → AreFull (message_in link deed)
in-full link (Does limit it answer frames) = done-full link it answer
in-full link deed = tt

-- they are handed out as they were said
handed-full : (own : OutputHandle) (said : List Said) → AreFull (map message_of said)
    → map message_handed (map (handed_as own) said) ≡ map message_of said
handed-full own [] are = refl
handed-full own (s ∷ said) (one, are) =
    ap (λ (m : Message). m ∷ map message_handed (map (handed_as own) said)) (sym one)
    ∙ ap (λ (ms : List Message). message_of s ∷ ms) (handed-full own said are)

-- so is each that is sent on
on-full : (ons : List PreparedSendOn) → AreSaidOn ons → AreFull (map message_on ons)
on-full [] are = tt
on-full (ready ∷ others) (is, are) = (one-on ready is, on-full others are)
  where
    one-on : (ready : PreparedSendOn) → IsSaidOn ready → message_on ready ≡ full (message_on ready)
    one-on ready is =
        ap
        (λ (t : Option (List ℕ)). record {
          tag = t;
          format = ready.transfer.message_format;
          settled = ready.transfer.settled;
          payload = ready.payload;
        })
        (is.tagged ∙ ap (λ (t : Option (List ℕ)). Some (unwrap_or t [])) (sym is.tagged))
        ∙ ap
        (λ (b : Option Bool). record {
          tag = Some (unwrap_or ready.transfer.delivery_tag []);
          format = ready.transfer.message_format;
          settled = b;
          payload = ready.payload;
        })
        (is.settled ∙ ap (λ (b : Option Bool). Some (says b)) (sym is.settled))

first-on : (count : ℕ) (ons : List PreparedSendOn) → AreSaidOn ons → AreSaidOn (take count ons)
first-on zero ons are = tt
first-on (suc count) [] are = tt
first-on (suc count) (ready ∷ others) (is, are) = (is, first-on count others are)

of-so : (link : ℕ) (o : Option Link) (it : LinkFlow) → AreSaidOn (on_of link o it)
of-so link None it = tt
of-so link (Some named) it = by (named.number == link)
  where
    by : (b : Bool) → AreSaidOn (if b then sends_on_by named.link it else [])
    by true = by-so named.link it
    by false = tt

named-so : (link : ℕ) (old : LinkedSessions) (channel : ℕ) (flow : Flow) (o : Option Handle)
    → AreSaidOn (on_named link old channel flow o)
named-so link old channel flow None = tt
named-so link old channel flow (Some named) =
    of-so link (link_on old.talk (record { 0 = channel }) named.0) (said_of_link flow named)

body-so : (link : ℕ) (old : LinkedSessions) (channel : ℕ) (it : FrameBody) → AreSaidOn (on_by link old channel it)
body-so link old channel (frame_body.Flow flow) = named-so link old channel flow flow.handle
body-so link old channel it = tt

deed-so : (link : ℕ) (old : LinkedSessions) (deed : Deed) (ons : List PreparedSendOn) → GoesOnBy link old deed ons
    → AreSaidOn ons
deed-so link old (Takes limit f frames events) ons is =
    subst AreSaidOn (sym is) (body-so link old f.channel f.body)
deed-so link old (Does limit (Resume number session) answer frames) ons (same, g) =
    subst AreSaidOn (sym g.are) (answered-so g.end g.asked.attach (option_map plain g.asked.flow))
deed-so link old deed ons is = absurd is

some-so : (link : ℕ) (old : LinkedSessions) (deed : Deed) (ons : List PreparedSendOn)
    → (ons ≡ []) ⊎ GoesOnBy link old deed ons → AreSaidOn ons
some-so link old deed ons (inl none) = subst AreSaidOn (sym none) tt
some-so link old deed ons (inr goes) = deed-so link old deed ons goes

-- and each that a link says
said-full : (link : ℕ) (old : LinkedSessions) (deeds : List Deed) (new : LinkedSessions) (ms : List Message)
    → AreSaid link old deeds new ms → AreFull ms
said-full link old [] new ms (same, none) = subst AreFull (sym none) tt
said-full link old (deed ∷ deeds) new ms (mid, these, rest, one, is, others, all) =
    subst AreFull (sym all)
    (full-both these rest
    (subst AreFull (sym is.are)
    (full-both (message_in link deed) (map message_on (take is.count is.ons)) (in-full link deed)
    (on-full (take is.count is.ons) (first-on is.count is.ons (some-so link old deed is.ons is.go_on)))))
    (said-full link mid deeds new rest others))

module _ (name : List ℕ) (others link : ℕ) (own : OutputHandle) (sent : List SessionFrame) (waiting : List Piece)
    (old : LinkedSessions) (deeds : List Deed) (new : LinkedSessions) (came more : List FrameBody)
    (said : SayAll link old deeds new (attachment name others (bodies_of sent) ++ waiting))
    (are : bodies_of sent ≡ came ++ more) where
  abbrev read : Reading
  read = readings nothing (attachment name others came)

  begins : (rest : List Said)
      × ((readings nothing (attachment name others (bodies_of sent) ++ waiting)).messages ≡ read.messages ++ rest)
  begins =
      let all : List Piece = attachment name others (bodies_of sent) in
      let (first, is) = begins-said name others came more in
      let (later, also) = more-said (readings nothing all) waiting in (
        first ++ later,
        ap (λ (r : Reading). r.messages) (readings-both nothing all waiting) ∙ also
            ∙ ap (λ (xs : List FrameBody). (readings nothing (attachment name others xs)).messages ++ later) are
            ∙ ap (λ (xs : List Said). xs ++ later) is ∙ append_assoc read.messages first later,
      )

  pub joined : (rest : List Message)
      × (said.messages ≡ map message_handed (map (handed_as own) read.messages) ++ rest)
  joined =
      let (rest, is) = begins in
      let all : said.messages ≡ map message_of read.messages ++ map message_of rest =
      sym said.say.says ∙ ap (λ (xs : List Said). map message_of xs) is ∙ map-both message_of read.messages rest in (
        map message_of rest,
        all
            ∙ ap (λ (ms : List Message). ms ++ map message_of rest)
            (sym (handed-full own read.messages
            (full-first (map message_of read.messages) (map message_of rest)
            (subst AreFull all (said-full link old deeds new said.messages said.are))))),
      )
