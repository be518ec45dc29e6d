-- A frame of the peer hands out one message under the next number, or none.
use Rattle.std.proofs.Common.{◌≡◌, ◌⊎◌, inl, inr, ℕ, suc, Bool, true, false, List, [], ◌∷◌, ◌++◌, Option, Some}
use Rattle.std.proofs.Common.{None, Ok, Err}
use Rattle.std.proofs.Common.{arith, refl, ap, ◌∙◌}
use Rattle.std.specs.Prelude.{Result}
use Rattle.smallvec.specs.SmallVec.{SmallVec}
use Rattle.amqp_session_types.specs.declared.channels.IncomingChannel.{IncomingChannel}
use Rattle.amqp_session_types.specs.declared.error.Error.{Error}
use Rattle.amqp_session_types.specs.declared.handles.OutputHandle.{OutputHandle}
use Rattle.amqp_session_performatives.specs.declared.link_flow.LinkFlow.{LinkFlow}
use Rattle.amqp_session_performatives.specs.declared.attach.Attach.{Attach}
use Rattle.amqp_session_performatives.specs.declared.detach.Detach.{Detach}
use Rattle.amqp_session_performatives.specs.declared.disposition.Disposition.{Disposition}
use Rattle.amqp_session_performatives.specs.declared.session_frame.SessionFrame.{SessionFrame}
use Rattle.amqp_session_performatives.specs.declared.transfer.Transfer.{Transfer}
use Rattle.amqp_session_core.specs.declared.dispositions.Touched.{Touched}
use Rattle.amqp_session_core.specs.State.{link_at}
use Rattle.amqp_session_core.specs.declared.incoming.TransferTaken.{TransferTaken}
use Rattle.amqp_session_frames.specs.declared.frame.FrameBody.{FrameBody}
use Rattle.amqp_session_frames.specs.declared.frame.FrameBody.TheVariants as body
use Rattle.amqp_link_base.specs.declared.detached.Detached.{Detached}
use Rattle.amqp_link_receiver.specs.declared.answer.Told.{Told}
use Rattle.amqp_link_receiver.specs.declared.answer.Told.TheVariants as told
use Rattle.amqp_link_sender.specs.declared.attaching.Attaching.{Attaching}
use Rattle.amqp_link_types.specs.declared.link_error.LinkError.{LinkError}
use Rattle.amqp_link_unsettled.specs.declared.exchanging.Abort.{Abort}
use Rattle.amqp_endpoint_links.specs.declared.asking.NamedLink.{NamedLink}
use Rattle.amqp_endpoint_links.specs.declared.asking.NamedLink.TheVariants.{Waiting}
use Rattle.amqp_endpoint_conversation.specs.declared.beginning.BeginHeard.{BeginHeard}
use Rattle.amqp_endpoint_conversation.specs.declared.beginning.BeginHeard.TheVariants as begin_heard
use Rattle.amqp_endpoint_attached.specs.Linked.{Linked, end_at}
use Rattle.amqp_endpoint_model.specs.declared.error.EndpointError.{EndpointError}
use Rattle.amqp_endpoint_model.specs.declared.event.Event.{Event}
use Rattle.amqp_endpoint_linking.specs.Hearing.{begin_told, end_told}
use Rattle.amqp_endpoint_linking.specs.Linking.{Link, Links, Talk}
use Rattle.amqp_endpoint_messages.specs.All.{first_told, open_count, told_by}
use Rattle.amqp_endpoint_messages.specs.GivingUp.{ClosedFor, attached_told, refused_told}
use Rattle.amqp_endpoint_messages.specs.GoingOn.{AttachedAt, EndsIf}
use Rattle.amqp_endpoint_links.specs.declared.asking.AttachTaken.TheVariants as answer
use Rattle.amqp_endpoint_links.specs.declared.hearing.PerformativeTaken.TheVariants as taken
use Rattle.amqp_endpoint_conversation.specs.declared.hearing.Heard.TheVariants as heard
use Rattle.amqp_endpoint_link_hearing.specs.Heard.{attach_of}
use Rattle.amqp_endpoint_link_hearing.specs.Saying.{LinkHeard}
use Rattle.amqp_endpoint_link_hearing.specs.Attaching as attaching
use Rattle.amqp_endpoint_link_hearing.specs.Attaching.{LinkTakes}
use Rattle.amqp_endpoint_link_hearing.specs.Detaching as detaching
use Rattle.amqp_endpoint_link_hearing.specs.Detaching.{detached_told, ending}
use Rattle.amqp_endpoint_link_hearing.specs.Disposing as disposing
use Rattle.amqp_endpoint_link_hearing.specs.Naming.{link_of}
use Rattle.amqp_endpoint_link_hearing.specs.Transferring as transferring
use Rattle.amqp_endpoint_link_hearing.specs.Transferring.{Comes}
use Rattle.amqp_endpoint_link_hearing.specs.Unechoed.{RefusedIf, Refuses, is_refused, too_large_told}
use Rattle.amqp_endpoint.specs.Hearing.{Hears}
use Rattle.amqp_endpoint_laws.specs.Telling.{numbers_told}
use Rattle.amqp_endpoint_laws.proofs.Unnumbered.{Unnumbered, both-unnumbered, by-unnumbered, first-unnumbered}
use Rattle.amqp_endpoint_link_hearing.specs.Heard.{session_of}
use Rattle.amqp_endpoint_link_hearing.specs.Flowing.{SendsOnAt, SendsOnBy, SendsOnWith, named_in}
use Rattle.amqp_endpoint_messages.specs.SendingOn.{ClosesWhere}
use Rattle.amqp_link_sender.specs.declared.sending_on.PreparedSendOn.{PreparedSendOn}
use Rattle.amqp_session_types.specs.declared.handles.Handle.{Handle}
use Rattle.amqp_endpoint_laws.proofs.Unnumbered.{reached-unnumbered}

-- where so many messages were handed out before, and behind that so many
abbrev pub GivesNext : List Event → ℕ → ℕ → Type 0
GivesNext events given given_new =
    (Unnumbered events × (given_new ≡ given)) ⊎ ((numbers_told events ≡ given ∷ []) × (given_new ≡ suc given))

told-unnumbered : (events others : List Event) → events ≡ others → Unnumbered others → Unnumbered events
told-unnumbered events others is none = ap (λ (es : List Event). numbers_told es) is ∙ none

begin-unnumbered : (it : BeginHeard) (channel : IncomingChannel) → Unnumbered (begin_told it channel)
begin-unnumbered (begin_heard.Asked number) channel = refl
begin-unnumbered (begin_heard.Begun number) channel = refl
begin-unnumbered begin_heard.Dropped channel = refl

end-unnumbered : (is_told : Bool) (number : ℕ) (error : Option Error) → Unnumbered (end_told is_told number error)
end-unnumbered true number error = refl
end-unnumbered false number error = refl

-- what is told behind an Attach
closed-unnumbered : (session : ℕ) (error : EndpointError) (count : ℕ) (handle : OutputHandle) (why : Error)
    (frames : List SessionFrame) (events : List Event) (old new : Linked)
    → ClosedFor session error count handle why frames events old new → Unnumbered events
closed-unnumbered session error count handle why frames events old new c =
    told-unnumbered events _ c.told
    (both-unnumbered (refused_told session c.link.number error) (first_told count None (link_at c.mid.session handle.0))
    refl (first-unnumbered count None (link_at c.mid.session handle.0)))

-- by messages that are sent on nothing is told
where-unnumbered : (stuck : Option EndpointError) (session count : ℕ) (handle : OutputHandle) (why : Error)
    (frames : List SessionFrame) (events : List Event) (old new : Linked)
    → ClosesWhere stuck session count handle why frames events old new → Unnumbered events
where-unnumbered None session count handle why frames events old new c = told-unnumbered events [] c.1 refl
where-unnumbered (Some error) session count handle why frames events old new c =
    closed-unnumbered session error count handle why frames events old new c

ends-unnumbered : (stuck : Option EndpointError) (limit session count : ℕ) (handle : OutputHandle) (why : Error)
    (kept : Option LinkFlow) (ons : List PreparedSendOn) (frames : List SessionFrame) (events : List Event)
    (old new : Linked) → EndsIf stuck limit session count handle why kept ons frames events old new → Unnumbered events
ends-unnumbered None limit session count handle why kept ons frames events old new e =
    let c = e.credited in
    where-unnumbered c.stuck session count handle why c.down events c.gone new c.closes
ends-unnumbered (Some error) limit session count handle why kept ons frames events old new c =
    closed-unnumbered session error count handle why frames events old new c

pub attached-unnumbered : (limit session count : ℕ) (handle : OutputHandle) (why : Error) (aborts : List Abort)
    (kept : Option LinkFlow) (ons : List PreparedSendOn) (frames : List SessionFrame) (events : List Event)
    (old new : Linked) → AttachedAt limit session count handle why aborts kept ons frames events old new
    → Unnumbered events
attached-unnumbered limit session count handle why aborts kept ons frames events old new a =
    told-unnumbered events _ a.events_are
    (both-unnumbered (first_told count None (link_at old.session handle.0)) a.failed
    (first-unnumbered count None (link_at old.session handle.0))
    (ends-unnumbered a.stuck limit session count handle why kept ons a.down a.failed a.given new a.ends))

attach-taken : (outcome : Result Attaching LinkError) (limit session count : ℕ) (handle : OutputHandle) (link : Link)
    (old : Talk) (frames : List SessionFrame) (events : List Event) (new : Talk)
    → LinkTakes outcome limit session count handle link old frames events new → Unnumbered events
attach-taken (Ok made) limit session count handle link old frames events new t =
    told-unnumbered events _ t.told
    (both-unnumbered (attached_told link.number made.exchange) t.behind refl
    (attached-unnumbered limit session count handle _ made.aborts None [] frames t.behind t.goes.before.value
    t.goes.after.value t.goes.done))
attach-taken (Err error) limit session count handle link old frames events new t =
    closed-unnumbered session _ count handle _ frames events t.before.value t.after.value t.done

attach-becomes : (limit count : ℕ) (it : LinkHeard) (named : NamedLink) (old : Talk) (attach : Attach)
    (frames : List SessionFrame) (events : List Event) (new : Talk)
    → attaching.BecomesBy limit count (attach_of it) named old attach frames events new → Unnumbered events
attach-becomes limit count (heard.Asked session) named old attach frames events new b =
    told-unnumbered events _ b.1 refl
attach-becomes limit count (heard.Live session (taken.Attach answer.Asked)) named old attach frames events new b =
    told-unnumbered events _ b.1 refl
attach-becomes limit count (heard.Live session (taken.Attach (answer.ByLink by_link))) (Waiting handle) old attach
    frames events new b =
    attach-taken (attaching.outcome_of by_link) limit session count handle b.link old frames events new b.takes
attach-becomes limit count it named old attach frames events new b = told-unnumbered events [] b.1 refl

-- what is told behind a Flow
with-unnumbered : (ons : List PreparedSendOn) (limit session count : ℕ) (handle : OutputHandle) (old : Talk)
    (frames : List SessionFrame) (events : List Event) (new : Talk)
    → SendsOnWith ons limit session count handle old frames events new → Unnumbered events
with-unnumbered [] limit session count handle old frames events new s = told-unnumbered events [] s.1 refl
with-unnumbered (ready ∷ others) limit session count handle old frames events new g =
    let c = g.done in
    where-unnumbered c.stuck session count handle _ c.down events c.gone g.after.value c.closes

at-unnumbered : (limit session : ℕ) (own : Option ℕ) (old : Talk) (frames : List SessionFrame) (events : List Event)
    (new : Talk) → SendsOnAt limit session own old frames events new → Unnumbered events
at-unnumbered limit session None old frames events new s = told-unnumbered events [] s.1 refl
at-unnumbered limit session (Some own) old frames events new s =
    with-unnumbered _ limit session _ (record { 0 = own }) old frames events new s

flow-unnumbered : (limit : ℕ) (took : Option ℕ) (named : Option Handle) (old : Talk) (frames : List SessionFrame)
    (events : List Event) (new : Talk) → SendsOnBy limit took named old frames events new → Unnumbered events
flow-unnumbered limit None named old frames events new s = told-unnumbered events [] s.1 refl
flow-unnumbered limit (Some session) named old frames events new s =
    at-unnumbered limit session (named_in old session named) old frames events new s

transfer-comes : (it_told : Told) (old mid new : Talk) (given session : ℕ) (it : Transfer)
    (frames : List SessionFrame) (events : List Event) (given_new : ℕ)
    → Comes it_told old given it session mid frames events new given_new → GivesNext events given given_new
transfer-comes (told.Message message) old mid new given session it frames events given_new c =
    inr (ap (λ (es : List Event). numbers_told es) c.tells, omega (arith, c.counted))
transfer-comes (told.Refused error) old mid new given session it frames events given_new (c, g) =
    inl (told-unnumbered events _ c.tells refl, g)
transfer-comes other old mid new given session it frames events given_new c =
    inl (told-unnumbered events [] c.untold refl, c.uncounted)

transfer-becomes : (took_it : Option (ℕ × TransferTaken Told)) (old mid new : Talk) (given : ℕ) (it : Transfer)
    (frames : List SessionFrame) (events : List Event) (given_new : ℕ)
    → transferring.Becomes took_it old given it mid frames events new given_new → GivesNext events given given_new
transfer-becomes (Some (session, took)) old mid new given it frames events given_new b =
    transfer-comes took.told old mid new given session it b.own events given_new b.comes
transfer-becomes None old mid new given it frames events given_new c =
    inl (told-unnumbered events [] c.untold refl, c.uncounted)

-- a link is closed, since no frame holds what it has to tell
refused-unnumbered : (b : Bool) (session : ℕ) (handle : OutputHandle) (old new : Talk) (frames : List SessionFrame)
    (events : List Event) → RefusedIf b session handle old frames events new → Unnumbered events
refused-unnumbered true session handle old new frames events r =
    let count : ℕ = open_count (Some r.link.link) in
    let ended : Option Link = link_of r.mid session handle in
    told-unnumbered events _ r.tells
    (both-unnumbered (too_large_told session r.link.number) (first_told count None ended) refl
    (first-unnumbered count None ended))
refused-unnumbered false session handle old new frames events r = told-unnumbered events [] r.1 refl

refuses-unnumbered : (session : ℕ) (runs : List (ℕ × ℕ)) (deliveries : List Touched) (handles : List OutputHandle)
    (old new : Talk) (frames : List SessionFrame) (events : List Event)
    → Refuses session runs deliveries handles old frames events new → Unnumbered events
refuses-unnumbered session runs deliveries [] old new frames events r = told-unnumbered events [] r.1 refl
refuses-unnumbered session runs deliveries (handle ∷ handles) old new frames events
    (own, first, mid, later, later_told, one, others, f, e) =
    told-unnumbered events (first ++ later_told) e
    (both-unnumbered first later_told
    (refused-unnumbered (is_refused old session runs deliveries handle) session handle old mid own first one)
    (refuses-unnumbered session runs deliveries handles mid new later later_told others))

disposition-follows : (runs : Option (ℕ × SmallVec (ℕ × ℕ))) (limit : ℕ) (old mid new : Talk) (it : Disposition)
    (frames : List SessionFrame) (events : List Event)
    → disposing.Follows runs limit old it mid frames events new → Unnumbered events
disposition-follows (Some (session, runs)) limit old mid new it frames events d =
    let t = d.done in
    told-unnumbered events (t.told ++ t.ended) t.events_are
    (both-unnumbered t.told t.ended
    (told-unnumbered t.told _ t.echoes.done.told
    (reached-unnumbered t.echoes.before.value.session d.deliveries))
    (refuses-unnumbered session _ d.deliveries _ t.mid new t.closed t.ended t.refuses))
disposition-follows None limit old mid new it frames events r = told-unnumbered events [] r.untold refl

detach-becomes : (took_it : Option (ℕ × Detached)) (limit : ℕ) (old mid new : Talk) (links links_new : Links)
    (it : Detach) (frames : List SessionFrame) (events : List Event)
    → detaching.Becomes took_it limit old links it mid frames events new links_new → Unnumbered events
detach-becomes (Some (session, detached)) limit old mid new links links_new it frames events b =
    told-unnumbered events _ b.tells
    (both-unnumbered (detached_told b.link.number detached.closed it.error)
    (told_by b.link.number it.error (ending it.closed (end_at b.stood.value b.handle)) b.link.link) refl
    (by-unnumbered b.link.number it.error (ending it.closed (end_at b.stood.value b.handle)) b.link.link))
detach-becomes None limit old mid new links links_new it frames events w = told-unnumbered events [] w.untold refl

pub gives-next : (said : FrameBody) (old new : Talk) (links links_new : Links) (given given_new limit : ℕ)
    (channel : IncomingChannel) (frames : List SessionFrame) (events : List Event)
    → Hears old links given limit channel said frames events new links_new given_new
    → GivesNext events given given_new
gives-next (body.Begin begin) old new links links_new given given_new limit channel frames events (inl t, g) =
    inl (told-unnumbered events _ t.told (begin-unnumbered t.heard channel), g)
gives-next (body.Begin begin) old new links links_new given given_new limit channel frames events (inr f, g) =
    inl (told-unnumbered events _ f.fails.told refl, g)
gives-next (body.Attach attach) old new links links_new given given_new limit channel frames events (a, g) =
    elim a.hears [
      | inl t ↦ inl (
        attach-becomes limit (attaching.opened_in a.ready (attach_of t.heard) a.named) t.heard a.named t.mid attach
            frames events new t.becomes,
        g,
      )
      | inr f ↦ inl (told-unnumbered events _ f.told refl, g)
    ]
gives-next (body.Flow flow) old new links links_new given given_new limit channel frames events (h, g) =
    elim h.hears [
      | inl t ↦ inl (flow-unnumbered limit (session_of t.heard) flow.handle t.left t.behind events new t.sends_on, g)
      | inr f ↦ inl (told-unnumbered events _ f.told refl, g)
    ]
gives-next (body.Transfer transfer payload) old new links links_new given given_new limit channel frames events
    (inl t) =
    transfer-becomes _ old t.mid new given transfer frames events given_new t.becomes
gives-next (body.Transfer transfer payload) old new links links_new given given_new limit channel frames events
    (inr f) =
    inl (told-unnumbered events _ f.fails.told refl, f.uncounted)
gives-next (body.Disposition disposition) old new links links_new given given_new limit channel frames events
    (inl t, g) =
    inl (disposition-follows _ limit old t.mid new disposition frames events t.follows, g)
gives-next (body.Disposition disposition) old new links links_new given given_new limit channel frames events
    (inr f, g) =
    inl (told-unnumbered events _ f.told refl, g)
gives-next (body.Detach detach) old new links links_new given given_new limit channel frames events (inl t, g) =
    inl (detach-becomes _ limit old t.mid new links links_new detach frames events t.becomes, g)
gives-next (body.Detach detach) old new links links_new given given_new limit channel frames events (inr f, g) =
    inl (told-unnumbered events _ f.told refl, g)
gives-next (body.End end) old new links links_new given given_new limit channel frames events (t, g) =
    inl (told-unnumbered events _ t.told (end-unnumbered _ t.heard.number end.error), g)
gives-next said old new links links_new given given_new limit channel frames events h = absurd h
