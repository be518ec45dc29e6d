-- The peer's Detach, once it is heard.
use Rattle.std.proofs.Common.{◌≡◌, ◌≤◌, inl, inr, ℕ, Bool, true, List, [], ◌++◌, Option, Some, None, Ok, IsSome, refl}
use Rattle.std.proofs.Common.{sym, ap, subst, ◌∙◌, append-nil}
use Rattle.std.specs.Prelude.{is_some}
use Rattle.std.proofs.lemmas.Option.{none-some, same_Some}
use Rattle.amqp_session_types.specs.declared.channels.IncomingChannel.{IncomingChannel}
use Rattle.amqp_session_types.specs.declared.error.Error.{Error}
use Rattle.amqp_session_types.specs.declared.handles.OutputHandle.{OutputHandle}
use Rattle.amqp_session_performatives.specs.declared.detach.Detach.{Detach}
use Rattle.amqp_session_performatives.specs.declared.session_frame.SessionFrame.{SessionFrame}
use Rattle.amqp_session_core.specs.State.{link_at}
use Rattle.amqp_session_core.specs.declared.batch.BehindFrame.{BehindFrame}
use Rattle.amqp_session_core.specs.declared.batch.TransferFrame.{TransferFrame}
use Rattle.amqp_session_core.specs.declared.fields.SessionFields.{SessionFields}
use Rattle.amqp_session_outgoing.specs.Queues.{room_behind}
use Rattle.amqp_session_outgoing.specs.State as sending
use Rattle.amqp_link_base.specs.declared.detached.Detached.{Detached}
use Rattle.amqp_endpoint_links.specs.declared.asking.DetachTaken.TheVariants as detach
use Rattle.amqp_endpoint_links.specs.declared.hearing.LinkPerformative.TheVariants as said
use Rattle.amqp_endpoint_links.specs.declared.hearing.PerformativeTaken.TheVariants as taken
use Rattle.amqp_endpoint_conversation.specs.declared.hearing.Heard.TheVariants.{Live}
use Rattle.amqp_endpoint_conversation.specs.Hearing.{Answered}
use Rattle.amqp_endpoint_tables.specs.State.{live_at}
use Rattle.amqp_endpoint_model.specs.declared.error.EndpointError.{EndpointError}
use Rattle.amqp_endpoint_model.specs.declared.error.EndpointError.TheVariants as fault
use Rattle.amqp_endpoint_model.specs.declared.event.Event.{Event}
use Rattle.amqp_endpoint_model.specs.Relay.{IsSessionFault}
use Rattle.amqp_endpoint_model.specs.State.{fits, frame_of}
use Rattle.amqp_endpoint_conversation.proofs.Alone.{answer-alone}
use Rattle.amqp_endpoint_attached.specs.Detaching.{own_detach}
use Rattle.amqp_endpoint_attached.specs.Linked.{Linked, gives}
use Rattle.amqp_endpoint_messages.specs.All.{AreCopies, told_by}
use Rattle.amqp_endpoint_linking.specs.Linking.{Links, Session, Talk}
use Rattle.amqp_endpoint_linking.specs.Handed.{Tells}
use Rattle.amqp_endpoint_link_hearing.specs.Detaching.{Becomes, ByLink, HearsDetach, TellsAndParts}
use Rattle.amqp_endpoint_link_hearing.specs.Detaching.{detached_told}
use Rattle.amqp_endpoint_link_hearing.specs.Heard.{detach_of}
use Rattle.amqp_endpoint_link_hearing.specs.InSession.{GoesOn}
use Rattle.amqp_endpoint_link_hearing.specs.Leaves.{IsReady, LeavesBy, LinkLeaves, Prepares, StandsFor}
use Rattle.amqp_endpoint_link_hearing.specs.Leaving.{HasAnswer, detach_frame, repeated}
use Rattle.amqp_endpoint_link_hearing.specs.Naming.{link_of}
use Rattle.amqp_endpoint_link_hearing.specs.Saying.{FailsBySaid, LinkHeard, RefusesSaid}
use Rattle.amqp_endpoint_link_hearing.specs.declared.detaching.Ready.{Ready}
use Rattle.amqp_endpoint_link_hearing.proofs.Heard.{DetachedThere, IsTaken, detach-there, is-there, taken-in}

unsent : (out out_new : List SessionFrame) → out_new ≡ out → out_new ≡ out ++ []
unsent out out_new same = same ∙ sym (append-nil out)

-- room that was made before serves behind the Detach
place-serves : (limit : ℕ) (old new : Linked) (handle : OutputHandle) (closed : Bool) (error : Option Error) (place : ℕ)
    → new.session.fields ≡ old.session.fields → new.session.outgoing ≡ old.session.outgoing
    → HasAnswer limit old handle closed error place → HasAnswer limit new handle closed error place
place-serves limit old new handle closed error place fields outgoing p =
    record {
      room =
          subst (λ (o : sending.State TransferFrame BehindFrame). room_behind handle.0 1 o.queues ≤ place)
          (sym outgoing) p.room;
      fit = λ least.
          subst (λ (f : SessionFields).
          fits limit (frame_of (detach_frame f.channel (own_detach handle closed error))) ≡ true)
          (sym fields) (p.fit least);
    }

-- a handle is told by its number
same-handle : (handle : OutputHandle) (n : ℕ) → n ≡ handle.0 → record { 0 = n } ≡ handle
same-handle handle n is = ap (λ (k : ℕ). record { 0 = k }) is

module _ (old : Talk) (channel : IncomingChannel) (out : List SessionFrame) (it : Detach) (session : ℕ)
    (told : Detached) (mid : Talk) (out_mid : List SessionFrame)
    (t : Answered gives old out channel (said.Detach it) (Ok (Live session (taken.Detach (detach.ByLink told)))) mid
    out_mid) where
  taken-there : IsTaken old channel out (said.Detach it) session (taken.Detach (detach.ByLink told)) mid out_mid
  taken-there =
      taken-in old channel out (said.Detach it) session (taken.Detach (detach.ByLink told)) mid out_mid t

  link-there : DetachedThere (taken-there.before).value ((taken-there.takes).after).value it
  link-there = detach-there old channel out it session told mid out_mid taken-there

  -- something was made ready for it
  ready-one : (limit : ℕ) → Prepares limit old channel it None → ⊥
  ready-one limit p =
      none-some link-there.handle
      (sym (p session taken-there.before taken-there.reaches taken-there.live) ∙ link-there.reaches)

  module _ (limit : ℕ) (ready : Ready) (p : Prepares limit old channel it (Some ready)) where
    is-ready : IsReady limit (taken-there.before).value it ready
    is-ready = p session taken-there.before taken-there.reaches taken-there.live

    handle-is : link-there.handle ≡ (ready.handle).0
    handle-is = same_Some _ _ (sym link-there.reaches ∙ is-ready.reaches)

    stands : IsSome (link_of mid session ready.handle)
        × ((s : Session) → live_at mid.sessions session ≡ Some s
        → HasAnswer limit s.value ready.handle (ready.answer).closed (ready.answer).error (ready.answer).place)
        × AreCopies ready.error ready.count ready.copies.items
    stands =
        let after = (taken-there.takes).after in
        let there : link_at (after.value).session (ready.handle).0 ≡ Some link-there.link =
        subst (λ (h : ℕ). link_at (after.value).session h ≡ Some link-there.link) handle-is link-there.there in
        let serves =
        place-serves limit (taken-there.before).value after.value ready.handle (ready.answer).closed
        (ready.answer).error (ready.answer).place link-there.fields link-there.outgoing is-ready.place in (
          ap is_some
              (is-there mid session ready.handle after link-there.link taken-there.stands there),
          λ s live.
              subst
              (λ (a : Session).
              HasAnswer limit a.value ready.handle (ready.answer).closed (ready.answer).error (ready.answer).place)
              (same_Some _ _ (sym taken-there.stands ∙ live)) serves,
          is-ready.copied,
        )

    left-by : (links links_new : Links) (frames : List SessionFrame) (events : List Event) (new : Talk)
        → LinkLeaves session told ready mid links frames events new links_new
        → ByLink limit old links it session told mid frames events new links_new
    left-by links links_new frames events new l =
        let channel_of = ((taken-there.before).value).session.fields.channel in
        record {
          stood = taken-there.before;
          live = taken-there.live;
          handle = ready.handle;
          reaches = is-ready.reaches;
          link = l.link;
          there = l.there;
          left = l.left;
          parts =
              subst
              (λ (n : ℕ).
              GoesOn
              (TellsAndParts n ready.handle told.answer it.closed
              (repeated limit channel_of ready.handle it.closed it.error) l.left frames) mid session new)
              is-ready.counts
              (subst
              (λ (error : Option Error).
              GoesOn (TellsAndParts ready.count ready.handle told.answer it.closed error l.left frames) mid session new)
              is-ready.answers
              (subst
              (λ (closed : Bool).
              GoesOn
              (TellsAndParts ready.count ready.handle told.answer closed (ready.answer).error l.left frames) mid
              session new)
              is-ready.closes l.parts));
          is_left = l.is_left;
          tells =
              l.tells
              ∙ ap (λ (error : Option Error).
              detached_told (l.link).number told.closed error
              ++ told_by (l.link).number error ready.count (l.link).link) is-ready.tells
              ∙ ap (λ (n : ℕ).
              detached_told (l.link).number told.closed it.error
              ++ told_by (l.link).number it.error n (l.link).link) is-ready.counts;
        }

module _ (limit : ℕ) (old : Talk) (channel : IncomingChannel) (out : List SessionFrame) (it : Detach) where
  stands-so : (heard : LinkHeard) (ready : Option Ready) (mid : Talk) (out_mid : List SessionFrame)
      → Prepares limit old channel it ready → Answered gives old out channel (said.Detach it) (Ok heard) mid out_mid
      → StandsFor limit mid (detach_of heard) ready
  stands-so (Live session (taken.Detach (detach.ByLink told))) (Some ready) mid out_mid p t =
      stands old channel out it session told mid out_mid t limit ready p
  stands-so heard ready mid out_mid p t = tt

  pub stands-for : (heard : LinkHeard) (took : Option (ℕ × Detached)) → took ≡ detach_of heard → (ready : Option Ready)
      (mid : Talk) (out_mid : List SessionFrame) → Prepares limit old channel it ready
      → Answered gives old out channel (said.Detach it) (Ok heard) mid out_mid → StandsFor limit mid took ready
  stands-for heard took is ready mid out_mid p t =
      subst (λ (o : Option (ℕ × Detached)). StandsFor limit mid o ready) (sym is)
      (stands-so heard ready mid out_mid p t)

  becomes : (heard : LinkHeard) (ready : Option Ready) (mid : Talk) (out_mid : List SessionFrame)
      (links links_new : Links) (frames : List SessionFrame) (events : List Event) (new : Talk)
      → Prepares limit old channel it ready → Answered gives old out channel (said.Detach it) (Ok heard) mid out_mid
      → LeavesBy (detach_of heard) ready mid links frames events new links_new
      → Becomes (detach_of heard) limit old links it mid frames events new links_new
  becomes (Live session (taken.Detach (detach.ByLink told))) (Some ready) mid out_mid links links_new frames events new
      p t l =
      left-by old channel out it session told mid out_mid t limit ready p links links_new frames events new l
  becomes (Live session (taken.Detach (detach.ByLink told))) None mid out_mid links links_new frames events new p t l =
      absurd (ready-one old channel out it session told mid out_mid t limit p)
  becomes heard ready mid out_mid links links_new frames events new p t l = l

  pub detach-taken : (heard : LinkHeard) (took : Option (ℕ × Detached)) → took ≡ detach_of heard
      → (ready : Option Ready) (mid : Talk) (out_mid : List SessionFrame) (links links_new : Links) (new : Talk)
      (told told_new : List Event) (out_new : List SessionFrame) → out_mid ≡ out → Prepares limit old channel it ready
      → Answered gives old out channel (said.Detach it) (Ok heard) mid out_mid
      → Tells (λ (frames : List SessionFrame) (events : List Event).
      LeavesBy took ready mid links frames events new links_new) out_mid told out_new told_new
      → Tells (λ (frames : List SessionFrame) (events : List Event).
      HearsDetach old links limit channel it frames events new links_new) out told out_new told_new
  detach-taken heard took is ready mid out_mid links links_new new told told_new out_new same p t l =
      record {
        frames = l.frames;
        events = l.events;
        is_so =
            inl (record {
              heard = heard;
              mid = mid;
              answered =
                  answer-alone gives old mid channel (said.Detach it) (Ok heard) out out_mid []
                  (unsent out out_mid same) t;
              becomes =
                  becomes heard ready mid out_mid links links_new l.frames l.events new p t
                  (subst (λ (o : Option (ℕ × Detached)). LeavesBy o ready mid links l.frames l.events new links_new) is
                  l.is_so);
            });
        queued = l.queued ∙ ap (λ (o : List SessionFrame). o ++ l.frames) same;
        are_told = l.are_told;
      }

  pub detach-fails : (links links_new : Links) (new : Talk) (told told_new : List Event) (out_new : List SessionFrame)
      → Tells (λ (frames : List SessionFrame) (events : List Event).
      FailsBySaid old links channel (said.Detach it) frames events new links_new) out told out_new told_new
      → Tells (λ (frames : List SessionFrame) (events : List Event).
      HearsDetach old links limit channel it frames events new links_new) out told out_new told_new
  detach-fails links links_new new told told_new out_new t =
      record {
        frames = t.frames;
        events = t.events;
        is_so = inr t.is_so;
        queued = t.queued;
        are_told = t.are_told;
      }

-- there is no memory even for what is told
pub detach-untold : (old : Talk) (channel : IncomingChannel) (it : Detach) (e : EndpointError) → e ≡ fault.Memory
    → IsSessionFault e × RefusesSaid old channel (said.Detach it) e old
detach-untold old channel it e is =
    let why : IsSessionFault e = subst IsSessionFault (sym is) tt in (why, inr (is, refl))
