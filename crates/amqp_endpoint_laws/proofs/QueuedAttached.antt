-- A link attaches, and from then on what it is given to send is queued in order.
use Rattle.std.proofs.Common.{◌≡◌, ◌≢◌, ◌⊎◌, inl, inr, ℕ, List, [], ◌∷◌, ◌++◌, Option, Some, None, ap, refl, sym, subst}
use Rattle.std.proofs.Common.{take, ◌∙◌}
use Rattle.std.specs.Prelude.{map}
use Rattle.std.proofs.lemmas.Option.{none-some}
use Rattle.amqp_session_types.specs.declared.handles.InputHandle.{InputHandle}
use Rattle.amqp_session_types.specs.declared.handles.OutputHandle.{OutputHandle}
use Rattle.amqp_session_performatives.specs.declared.attach.Attach.{Attach}
use Rattle.amqp_session_performatives.specs.declared.session_frame.SessionFrame.{SessionFrame}
use Rattle.amqp_session_core.specs.State.{link_at}
use Rattle.amqp_link.specs.declared.end.End.{End}
use Rattle.amqp_link_base.specs.Readings.{Piece}
use Rattle.amqp_link_sender.specs.declared.sending_on.PreparedSendOn.{PreparedSendOn}
use Rattle.amqp_endpoint_attached.specs.Linked.{Linked, LinksIn, gives}
use Rattle.amqp_endpoint_laws.specs.Deeds.{AreDone, Deed, IsDeed}
use Rattle.amqp_endpoint_link_calls.specs.Attaching.{AttachedBy}
use Rattle.amqp_endpoint_link_calls.specs.Naming.{name_of}
use Rattle.amqp_endpoint_link_calls.specs.declared.placed.Placed.{Placed}
use Rattle.amqp_endpoint.specs.Does.{linked}
use Rattle.amqp_endpoint.specs.declared.linked.LinkedSessions.{LinkedSessions}
use Rattle.amqp_endpoint_linking.specs.Linking.{Session, Stood}
use Rattle.amqp_endpoint_model.specs.Relay.{IsNew}
use Rattle.amqp_endpoint_model.specs.declared.settings.Settings.{Settings}
use Rattle.amqp_endpoint_tables.specs.OwnLinks.{slot_at}
use Rattle.amqp_endpoint_tables.specs.LinkState.{held_at, open_of, place_at as link_place, place_of}
use Rattle.amqp_endpoint_tables.specs.declared.link_place.LinkPlace.TheVariants.{Held}
use Rattle.amqp_endpoint_tables.specs.declared.link_place.Named.{Named}
use Rattle.amqp_endpoint_tables.specs.State.{live_at, live_of, place_at, with_live}
use Rattle.amqp_endpoint_tables.specs.Steps.{ChangesLive}
use Rattle.amqp_endpoint_tables.specs.declared.place.Place.TheVariants.{Asked, Live, Ending, Over}
use Rattle.amqp_endpoint_tables.proofs.Owning.{at}
use Rattle.amqp_endpoint_conversation.specs.Windows.{Passing, went}
use Rattle.amqp_endpoint_laws.specs.Attachments.{gone_in}
use Rattle.amqp_endpoint_laws.specs.Passed.{PassesIn, passes_in, sent_in}
use Rattle.amqp_endpoint_laws.specs.Resumed.{NeverResumed}
use Rattle.amqp_endpoint_laws.specs.Held.{number_at}
use Rattle.amqp_endpoint_laws.specs.Queued.{AttachesFirst, GoesOnBy, Message, SayAll, SayMessages, SaysIn, message_on}
use Rattle.amqp_endpoint_laws.specs.Queued.{pieces_on, pieces_waiting, queued}
use Rattle.amqp_endpoint_laws.proofs.AttachedBehind.{AnswersOn, AttachesInside, allocates, attaches-inside, roomed}
use Rattle.amqp_endpoint_laws.proofs.LinksKept.{BackGoesOn, FinishedGoesOn, LeftGoesOn}
use Rattle.amqp_endpoint_laws.proofs.LinksStay.{held-since}
use Rattle.amqp_endpoint_laws.proofs.Opening.{Opened}
use Rattle.amqp_endpoint_laws.proofs.PassedKept.{some-passes}
use Rattle.amqp_endpoint_laws.proofs.Placing.{IsPlaced, held-place, own-handle, own-name}
use Rattle.amqp_endpoint_laws.proofs.PassedPlaces.{eq-same}
use Rattle.amqp_endpoint_laws.proofs.PassedSteps.{session-come}
use Rattle.amqp_endpoint_laws.proofs.QueuedKept.{Queued, QueuedAt, SaysAt, more-queued, queued-here}
use Rattle.amqp_endpoint_laws.proofs.QueuedOrder.{pieces_by, since-new}
use Rattle.amqp_endpoint_laws.proofs.QueuedPlaced.{attached-did, attached-says}
use Rattle.amqp_endpoint_laws.proofs.QueuedSaid.{bare, map-both, says-bare}
use Rattle.amqp_endpoint_laws.proofs.QueuedSince.{done-of, held-same, since}

module _ (before after : Linked) (limit : ℕ) (it : End) (placed : Placed) (frames : List SessionFrame) where
  -- no link had its handle
  handle-free : (input : Option InputHandle) → AttachedBy input before [] limit it placed after frames
      → link_at before.session placed.handle.0 ≡ None
  handle-free None (a, told) = (a.allocates).1
  handle-free (Some input) a =
      sym (ap (λ (s : LinksIn). link_at s placed.handle.0) (roomed before after limit it placed frames
      input a))
      ∙ (allocates before after limit it placed frames input a).2

-- a session that goes on
goes-queued : (h : ℕ) (w : List Piece) (it : Stood) (before after : Session) (qs : List Passing)
    → live_of (Some it) ≡ Some before → Queued h w after.value.session qs → QueuedAt h w (Some (with_live it after)) qs
goes-queued h w (Live channel s) before after qs is q = q
goes-queued h w (Asked channel a) before after qs is q = absurd (none-some before is)
goes-queued h w (Ending channel own_end) before after qs is q = absurd (none-some before is)
goes-queued h w (Over peer_end complete) before after qs is q = absurd (none-some before is)

-- sessions that were new, and stand so behind some deeds
pub record Reached (s : LinkedSessions) : Type 0 where
  pub sessions : LinkedSessions
  pub settings : Settings
  pub deeds : List Deed
  pub fresh : IsNew linked settings sessions
  pub done : AreDone linked sessions deeds s

done-on : (deeds : List Deed) (deed : Deed) (old mid new : LinkedSessions) → AreDone linked old deeds mid
    → IsDeed linked mid deed new → AreDone linked old (deeds ++ deed ∷ []) new
done-on [] deed old mid new same d = (new, subst (λ (s : LinkedSessions). IsDeed linked s deed new) same d, refl)
done-on (first ∷ deeds) deed old mid new (next, one, rest) d = (next, one, done-on deeds deed next mid new rest d)

pub reached-on : (old new : LinkedSessions) (deed : Deed) → IsDeed linked old deed new → Reached old → Reached new
reached-on old new deed d r =
    record {
      sessions = r.sessions;
      settings = r.settings;
      deeds = r.deeds ++ deed ∷ [];
      fresh = r.fresh;
      done = done-on r.deeds deed r.sessions old new r.done d;
    }

-- two links that one session holds have two own handles
abbrev pub HandlesApart : Type 0
HandlesApart =
    (sessions s : LinkedSessions) (settings : Settings) (deeds : List Deed) (a b n : ℕ) (h : OutputHandle)
    → IsNew linked settings sessions → AreDone linked sessions deeds s → link_place s.links a ≡ Some (Held n h)
    → link_place s.links b ≡ Some (Held n h) → a ≡ b

-- each that a session holds stands in it under its handle
abbrev pub HandlesStand : Type 0
HandlesStand =
    (sessions s : LinkedSessions) (settings : Settings) (deeds : List Deed) (link n : ℕ) (h : OutputHandle)
    → IsNew linked settings sessions → AreDone linked sessions deeds s → link_place s.links link ≡ Some (Held n h)
    → number_at s.talk.sessions n h.0 ≡ Some link

pub reached-stands : HandlesStand → (s : LinkedSessions) → Reached s → (link n : ℕ) (h : OutputHandle)
    → link_place s.links link ≡ Some (Held n h) → number_at s.talk.sessions n h.0 ≡ Some link
reached-stands stand s r link n h = stand r.sessions s r.settings r.deeds link n h r.fresh r.done

pub reached-apart : HandlesApart → (s : LinkedSessions) → Reached s → (a b n : ℕ) (h : OutputHandle)
    → link_place s.links a ≡ Some (Held n h) → link_place s.links b ≡ Some (Held n h) → a ≡ b
reached-apart apart s r a b n h = apart r.sessions s r.settings r.deeds a b n h r.fresh r.done

module _ (handles_apart : HandlesApart) (handles_stand : HandlesStand) (back_on : BackGoesOn) (left_on : LeftGoesOn)
    (finished_on : FinishedGoesOn)
  where
    module _ (sessions old new end : LinkedSessions) (settings : Settings) (before since_then : List Deed)
        (number link : ℕ) (deed : Deed) (passings : List Passing) (handle : OutputHandle)
        (fresh : IsNew linked settings sessions) (done : AreDone linked sessions before old)
        (o : Opened old new deed number link) (d : IsDeed linked old deed new)
        (passes : PassesIn number new since_then end passings)
        (held : link_place end.links link ≡ Some (Held number handle)) (never : NeverResumed link since_then)
      where
        abbrev a : IsPlaced old.talk old.links o.limit number o.it link o.events (gone_in deed) new.talk new.links
        a = o.placed

        abbrev its_before : Linked
        its_before = a.attaches.attaches.before.value

        abbrev its_after : Linked
        its_after = a.attaches.attaches.after.value

        entered : link_place new.links link ≡ Some (Held number a.placed.handle)
        entered =
            held-place (link_place new.links link) number a.placed.handle (ap (held_at new.links) a.numbered ∙ a.held)

        pub is-entered : slot_at new.links link ≢ None
        is-entered is =
            none-some _ (sym (ap (λ (o : Option (Option (Named End))). place_of (open_of o)) is) ∙ entered)

        pub same-handle : a.placed.handle ≡ handle
        same-handle =
            (held-same number number a.placed.handle handle (link_place new.links link) entered
            (held-since link number handle back_on left_on finished_on since_then new end never
            (done-of number since_then new end passings passes) is-entered held)).1

        attach-inside : AttachesInside its_before its_after o.limit o.it a.placed a.attaches.frames
        attach-inside =
            attaches-inside old.talk new.talk o.limit number o.it a.placed a.attaches.frames a.attaches.attaches

        pub attaches-first : AttachesFirst handle (name_of o.it) (gone_in deed)
        attaches-first =
            record {
              channel = its_before.session.fields.channel.0;
              attach = attach-inside.attach;
              others = attach-inside.later;
              are = a.attaches.queued ∙ attach-inside.are;
              handled =
                  ap (λ (x : Attach). x.handle.0) attach-inside.announces.is
                  ∙ own-handle o.it a.placed.handle
                  ∙ ap (λ (h : OutputHandle). h.0) same-handle;
              named =
                  ap (λ (x : Attach). x.name) attach-inside.announces.is ∙ own-name o.it a.placed.handle;
            }

        -- what goes of its handle by the call, and what waits, was accepted: it gives deliveries up, and behind that
        -- messages go on
        abbrev first_pieces : List Piece
        first_pieces = map bare (pieces_by handle.0 attach-inside.accepted)

        attach-queued : Queued handle.0 first_pieces its_after.session (went (gone_in deed))
        attach-queued =
            let i = a.attaches.attaches in
            let (stood, was, lives, becomes) =
            (at number old.talk.sessions (ChangesLive number i.before i.after) new.talk.sessions i.stepped).about
            (eq-same number) in
            let (ps, passed) = some-passes before number sessions old done in
            let come =
            session-come sessions old settings before number ps i.before fresh passed (ap live_of was ∙ lives) in
            let (apart, none) =
            since-new gives come.channel settings.first_transfer_number come.window come.steps its_before.session
            come.history in
            let free : link_at its_before.session handle.0 ≡ None =
            subst (λ (k : OutputHandle). link_at its_before.session k.0 ≡ None) same-handle
            (handle-free its_before its_after o.limit o.it a.placed a.attaches.frames i.attached.input
            i.attached.attached) in
            more-queued handle.0 attach-inside.accepted [] its_before.session its_after.session [] (went (gone_in deed))
            (attached-did its_before its_after o.limit o.it a.placed a.attaches.frames attach-inside (gone_in deed)
            a.attaches.queued)
            (record { apart = apart; order = ap (λ (qs : List Piece). map bare qs) (none handle.0 free) })

        says-on : (count : ℕ) × SayMessages first_pieces (map message_on (take count attach-inside.ons))
        says-on =
            attached-says its_before its_after o.limit o.it a.placed a.attaches.frames attach-inside handle.0
            (ap (λ (h : OutputHandle). h.0) same-handle)

        abbrev first_messages : List Message
        first_messages = map message_on (take says-on.0 attach-inside.ons)

        says-first : SaysAt handle.0 first_messages (place_at new.talk.sessions number) (passes_in number old deed)
        says-first =
            let i = a.attaches.attaches in
            let (stood, was, lives, becomes) =
            (at number old.talk.sessions (ChangesLive number i.before i.after) new.talk.sessions i.stepped).about
            (eq-same number) in
            record {
              accepted = first_pieces;
              queued =
                  subst (λ (o : Option Stood). QueuedAt handle.0 first_pieces o (passes_in number old deed))
                  (sym becomes)
                  (subst (λ (qs : List Passing). QueuedAt handle.0 first_pieces (Some (with_live stood i.after)) qs)
                  (sym o.passes)
                  (goes-queued handle.0 first_pieces stood i.before i.after (went (gone_in deed)) lives attach-queued));
              says = says-on.1;
            }

        -- they are those that the deed lets it send on
        on-by : (ons : List PreparedSendOn) → (ons ≡ []) ⊎ AnswersOn its_before o.it ons
            → (ons ≡ []) ⊎ GoesOnBy link old deed ons
        on-by ons (inl none) = inl none
        on-by ons (inr on) = o.goes_on ons on

        says-in : SaysIn link old deed first_messages
        says-in =
            record {
              ons = attach-inside.ons;
              go_on = on-by attach-inside.ons attach-inside.go_on;
              count = says-on.0;
              are = ap (λ (ms : List Message). ms ++ first_messages) (sym o.silent);
            }

        pub reached-new : Reached new
        reached-new =
            reached-on old new deed d
            (record { sessions = sessions; settings = settings; deeds = before; fresh = fresh; done = done })

        pub says-all : (session : Session) → live_at end.talk.sessions number ≡ Some session
            → SayAll link old (deed ∷ since_then) end
            (queued handle (passes_in number old deed ++ passings) session.value.session)
        says-all session live =
            let all_passings : List Passing = passes_in number old deed ++ passings in
            let all =
            since Reached reached-on (reached-apart handles_apart) (reached-stands handles_stand) back_on left_on
            finished_on link number handle since_then new end passings never reached-new passes is-entered held
            first_messages (passes_in number old deed) says-first in
            let s = all.says in
            let q =
            queued-here handle.0 s.accepted (place_at end.talk.sessions number) all_passings session live s.queued in
            record {
              messages = first_messages ++ all.more;
              are = (new, first_messages, all.more, d, says-in, all.are, refl);
              say =
                  says-bare (queued handle all_passings session.value.session) s.accepted (first_messages ++ all.more)
                  (map-both bare (pieces_on handle.0 (sent_in all_passings))
                  (pieces_waiting handle.0 session.value.session)
                  ∙ q.order)
                  s.says;
            }
