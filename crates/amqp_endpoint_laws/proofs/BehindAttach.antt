-- What a link does behind the peer's Attach, one step of its session after the other (part 2, 2.6.3, 2.6.6, 2.6.13).
use Rattle.std.proofs.Common.{◌≡◌, inl, inr, ℕ, Bool, List, [], ◌∷◌, ◌++◌, Option, Some, None}
use Rattle.std.proofs.Common.{Ok, Err, ap, append-nil, append_assoc, refl, sym, ◌∙◌}
use Rattle.std.specs.Prelude.{Result, map}
use Rattle.amqp_session_types.specs.declared.error.Error.{Error}
use Rattle.amqp_session_types.specs.declared.handles.OutputHandle.{OutputHandle}
use Rattle.amqp_session_performatives.specs.declared.attach.Attach.{Attach}
use Rattle.amqp_session_performatives.specs.declared.link_flow.LinkFlow.{LinkFlow}
use Rattle.amqp_session_performatives.specs.declared.session_frame.SessionFrame.{SessionFrame}
use Rattle.amqp_session_core.specs.Batch.{Transfers}
use Rattle.amqp_session_core.specs.State.{link_at}
use Rattle.amqp_session_core.specs.Steps.{Changes, Reserves, SendsBehind, SendsTransfers}
use Rattle.amqp_session_core.specs.declared.batch.BehindFrame.TheVariants as behind
use Rattle.amqp_link.specs.Ends.{flowed}
use Rattle.amqp_link_sender.specs.Saying.{pieces_of}
use Rattle.amqp_link_sender.specs.declared.attaching.Attaching.{Attaching}
use Rattle.amqp_link_types.specs.declared.link_error.LinkError.{LinkError}
use Rattle.amqp_link_sender.specs.declared.sending_on.PreparedSendOn.{PreparedSendOn}
use Rattle.amqp_link_unsettled.specs.declared.exchanging.Abort.{Abort}
use Rattle.amqp_endpoint_attached.specs.Kept.{KeptIn, Replies, TakesKept}
use Rattle.amqp_endpoint_attached.specs.Linked.{Linked, LinksIn, gives}
use Rattle.amqp_endpoint_attached.specs.Links.{with_number}
use Rattle.amqp_endpoint_conversation.specs.Inside.{accepted_in, accepted_of}
use Rattle.amqp_endpoint_conversation.specs.declared.hearing.Heard.TheVariants as heard
use Rattle.amqp_endpoint_link_hearing.specs.Attaching as attaching
use Rattle.amqp_endpoint_link_hearing.specs.Attaching.{LinkTakes}
use Rattle.amqp_endpoint_link_hearing.specs.Heard.{attach_of}
use Rattle.amqp_endpoint_link_hearing.specs.InSession.{GoesOn}
use Rattle.amqp_endpoint_link_hearing.specs.Saying.{LinkHeard}
use Rattle.amqp_endpoint_linking.specs.Linking.{Link, Talk}
use Rattle.amqp_endpoint_links.specs.declared.asking.AttachTaken.TheVariants as answer
use Rattle.amqp_endpoint_links.specs.declared.asking.NamedLink.{NamedLink}
use Rattle.amqp_endpoint_links.specs.declared.asking.NamedLink.TheVariants.{Absent, Attached, Waiting}
use Rattle.amqp_endpoint_links.specs.declared.hearing.PerformativeTaken.TheVariants as taken
use Rattle.amqp_endpoint_messages.specs.GivingUp.{GivesUp, HandsEach, batch_of, fitting}
use Rattle.amqp_endpoint_messages.specs.GoingOn.{AttachedAt, EndsIf}
use Rattle.amqp_endpoint_messages.specs.SendingOn.{AreSentOn, ClosesWhere, CreditedAt}
use Rattle.amqp_endpoint_model.specs.declared.error.EndpointError.{EndpointError}
use Rattle.amqp_endpoint_model.specs.declared.event.Event.{Event}
use Rattle.amqp_endpoint_laws.proofs.Behind.{AreBehind, BehindBy, DoneBehind, FollowsBy, IsBehind, LinkAct}
use Rattle.amqp_endpoint_laws.proofs.Behind.{behind-on, closed-behind, done-on, goes-so, none-done, one-done}
use Rattle.amqp_endpoint_laws.proofs.Behind.{same-rest, tells-done}
use Rattle.amqp_endpoint_laws.proofs.GivenUp.{AllAborted, GiveUp, give-both}
use Rattle.amqp_endpoint_laws.proofs.HoldingEnds.{flowed-holds}

-- the transfers that are sent give deliveries up
abbrev pub GivesUpOnly : Transfers → Type 0
GivesUpOnly batch = AllAborted (pieces_of batch)

abbrev pub Behind : List SessionFrame → Linked → Linked → Type 0
Behind frames old new = BehindBy GivesUpOnly frames old new

-- deliveries are given up, each by a transfer of its own
record HandedBehind (old : LinksIn) (out : List SessionFrame) (new : LinksIn) (out_new : List SessionFrame) : Type 0
  where
    frames : List SessionFrame
    added : out_new ≡ out ++ frames
    done : DoneBehind GivesUpOnly old frames new

nothing-handed : (old new : LinksIn) (out out_new : List SessionFrame) → new ≡ old → out_new ≡ out
    → HandedBehind old out new out_new
nothing-handed old new out out_new same none =
    record { frames = []; added = none ∙ sym (append-nil out); done = none-done old new [] same refl }

hands-each : (handle : OutputHandle) (aborts : List Abort) (old : LinksIn) (out : List SessionFrame) (stopped : Bool)
    (new : LinksIn) (out_new : List SessionFrame)
    → HandsEach handle (map (batch_of handle) aborts) old out stopped new out_new → HandedBehind old out new out_new
hands-each handle [] old out stopped new out_new (going, same, none) = nothing-handed old new out out_new same none
hands-each handle (abort ∷ aborts) old out stopped new out_new (inl (mid, out_mid, one, others)) =
    let rest : HandedBehind mid out_mid new out_new =
    hands-each handle aborts mid out_mid stopped new out_new others in
    record {
      frames = one.frames ++ rest.frames;
      added =
          rest.added ∙ ap (λ (fs : List SessionFrame). fs ++ rest.frames) one.added
          ∙ append_assoc out one.frames rest.frames;
      done =
          done-on old mid new one.frames rest.frames (one.frames ++ rest.frames) refl
          (one-done (SendsTransfers handle (batch_of handle abort) one.left one.frames) old mid one.frames one.stepped
          (refl, tt) refl)
          rest.done;
    }
hands-each handle (abort ∷ aborts) old out stopped new out_new (inr ((used, same, none), is)) =
    nothing-handed old new out out_new same none

gives-up-behind : (limit : ℕ) (handle : OutputHandle) (aborts : List Abort) (stuck : Option EndpointError)
    (frames : List SessionFrame) (old new : Linked) → GivesUp limit handle aborts old [] stuck new frames
    → Behind frames old new
gives-up-behind limit handle aborts stuck frames old new g =
    let h : HandedBehind old.session [] new.session frames =
    hands-each handle (fitting limit handle aborts) old.session [] g.stopped new.session
    frames g.hands in
    record {
      done = done-on old.session new.session new.session h.frames [] frames
          (h.added ∙ sym (append-nil h.frames)) h.done (none-done new.session new.session [] refl refl);
      rest = g.rest;
    }

-- what was kept of a Flow is taken, and replied to
reply-done : (handle : OutputHandle) (reply : Option LinkFlow) (old new : LinksIn) (frames : List SessionFrame)
    → Replies gives handle reply old [] new frames → DoneBehind GivesUpOnly old frames new
reply-done handle None old new frames r = none-done old new frames r.0 r.1
reply-done handle (Some flow) old new frames r =
    one-done (SendsBehind handle (behind.Flow (record flow { handle = record { 0 = handle.0 } })) r.sent.left r.frame)
    old new frames r.sent.stepped tt r.handed

kept-done : (handle : OutputHandle) (kept : Option LinkFlow) (old new : LinksIn) (frames : List SessionFrame)
    → KeptIn handle kept old [] new frames → DoneBehind GivesUpOnly old frames new
kept-done handle None old new frames t = none-done old new frames t.0 t.1
kept-done handle (Some flow) old new frames t =
    let by = t.takes in
    done-on old t.mid new [] frames frames refl
    (one-done
    (Changes handle.0 (with_number by.number by.before) (with_number by.number (flowed by.before flow))) old t.mid []
    by.changed (refl, inl (flowed-holds by.number by.before flow)) refl)
    (reply-done handle t.reply t.mid new frames t.replies)

pub kept-behind : (handle : OutputHandle) (kept : Option LinkFlow) (frames : List SessionFrame) (old new : Linked)
    → TakesKept handle kept old [] new frames → Behind frames old new
kept-behind handle kept frames old new t =
    record { done = kept-done handle kept old.session new.session frames t.takes; rest = t.rest }

-- nothing goes on of a link that has nothing to send on
none-sent : (handle : OutputHandle) (batches : List Transfers) (stopped : Bool) (frames : List SessionFrame)
    (old new : LinksIn) → batches ≡ [] → AreSentOn handle batches old [] stopped new frames
    → (new ≡ old) × (frames ≡ [])
none-sent handle [] stopped frames old new none (going, same, silent) = (same, silent)
none-sent handle (batch ∷ batches) stopped frames old new none s = let clash = none in absurd cc

closes-where : (stuck : Option EndpointError) (session count : ℕ) (handle : OutputHandle) (why : Error)
    (frames : List SessionFrame) (events : List Event) (old new : Linked)
    → ClosesWhere stuck session count handle why frames events old new → Behind frames old new
closes-where None session count handle why frames events old new (none, untold, same) =
    record {
      done = none-done old.session new.session frames (ap (λ (x : Linked). x.session) same) none;
      rest = same-rest old new same;
    }
closes-where (Some error) session count handle why frames events old new c =
    closed-behind session error count handle why frames events old new c

none-on : (limit session count : ℕ) (handle : OutputHandle) (why : Error) (frames : List SessionFrame)
    (events : List Event) (old new : Linked)
    → CreditedAt limit session count handle why [] frames events old new → Behind frames old new
none-on limit session count handle why frames events old new c =
    let s = c.sends_on in
    let (same, none) = none-sent handle s.batches s.stopped c.on old.session (c.gone).session s.cut.0 s.sent in
    behind-on old c.gone new c.on c.down frames c.frames_are
    (record { done = none-done old.session (c.gone).session c.on same none; rest = s.rest })
    (closes-where c.stuck session count handle why c.down events c.gone new c.closes)

ends-behind : (stuck : Option EndpointError) (limit session count : ℕ) (handle : OutputHandle) (why : Error)
    (kept : Option LinkFlow) (frames : List SessionFrame) (events : List Event) (old new : Linked)
    → EndsIf stuck limit session count handle why kept [] frames events old new → Behind frames old new
ends-behind None limit session count handle why kept frames events old new c =
    behind-on old c.mid new c.reply c.on frames c.frames_are (kept-behind handle kept c.reply old c.mid c.takes)
    (none-on limit session count handle why c.on events c.mid new c.credited)
ends-behind (Some error) limit session count handle why kept frames events old new c =
    closed-behind session error count handle why frames events old new c

-- a link that took the Attach tells of messages that ended, and gives deliveries up
pub up-behind : (limit session count : ℕ) (handle : OutputHandle) (why : Error) (aborts : List Abort)
    (kept : Option LinkFlow) (ons : List PreparedSendOn) (frames : List SessionFrame) (events : List Event)
    (old new : Linked) (a : AttachedAt limit session count handle why aborts kept ons frames events old new)
    → Behind a.up old a.given
up-behind limit session count handle why aborts kept ons frames events old new a =
    behind-on old a.told a.given [] a.up a.up refl
    (record {
      done = tells-done count handle (link_at old.session handle.0) old.session a.told.session a.tells.tells;
      rest = a.tells.rest;
    })
    (gives-up-behind limit handle aborts a.stuck a.up a.told a.given a.gives_up)

-- and no more than that where it has nothing to send on
attached-behind : (limit session count : ℕ) (handle : OutputHandle) (why : Error) (aborts : List Abort)
    (kept : Option LinkFlow) (frames : List SessionFrame) (events : List Event) (old new : Linked)
    → AttachedAt limit session count handle why aborts kept [] frames events old new → Behind frames old new
attached-behind limit session count handle why aborts kept frames events old new a =
    behind-on old a.given new a.up a.down frames a.frames_are
    (up-behind limit session count handle why aborts kept [] frames events old new a)
    (ends-behind a.stuck limit session count handle why kept a.down a.failed a.given new a.ends)

-- whether the link accepts the Attach, or refuses it
pub takes-behind : (outcome : Result Attaching LinkError) (limit session count : ℕ) (handle : OutputHandle)
    (link : Link) (old : Talk) (frames : List SessionFrame) (events : List Event) (new : Talk)
    → LinkTakes outcome limit session count handle link old frames events new
    → GoesOn (Behind frames) old session new
takes-behind (Ok made) limit session count handle link old frames events new t =
    goes-so _ (Behind frames)
    (λ a b d. attached-behind limit session count handle _ made.aborts None frames t.behind a b d) old session new
    t.goes
takes-behind (Err error) limit session count handle link old frames events new t =
    goes-so _ (Behind frames) (λ a b c. closed-behind session _ count handle _ frames events a b c) old session new t

-- the session that heard it
abbrev pub number_of : LinkHeard → ℕ
number_of (heard.Asked n) = n
number_of (heard.Live n told) = n
number_of (heard.Dropped n) = n

-- nothing is done behind it, or the session that heard it goes on
abbrev pub Follows : LinkHeard → List SessionFrame → Talk → Talk → Type 0
Follows it frames old new = FollowsBy GivesUpOnly (number_of it) frames old new

pub becomes-behind : (limit count : ℕ) (it : LinkHeard) (named : NamedLink) (old : Talk) (attach : Attach)
    (frames : List SessionFrame) (events : List Event) (new : Talk)
    → attaching.BecomesBy limit count (attach_of it) named old attach frames events new → Follows it frames old new
becomes-behind limit count (heard.Asked n) named old attach frames events new b = inl (b.0, b.2)
becomes-behind limit count (heard.Live n (taken.Attach answer.Asked)) named old attach frames events new b =
    inl (b.0, b.2)
becomes-behind limit count (heard.Live n (taken.Attach (answer.ByLink told))) (Waiting handle) old attach frames events
    new b =
    inr (takes-behind (attaching.outcome_of told) limit n count handle b.link old frames events new b.takes)
becomes-behind limit count (heard.Live n (taken.Attach (answer.ByLink told))) Absent old attach frames events new b =
    inl (b.0, b.2)
becomes-behind limit count (heard.Live n (taken.Attach (answer.ByLink told))) Attached old attach frames events new b =
    inl (b.0, b.2)
becomes-behind limit count (heard.Live n taken.Flow) named old attach frames events new b = inl (b.0, b.2)
becomes-behind limit count (heard.Live n (taken.Transfer t)) named old attach frames events new b = inl (b.0, b.2)
becomes-behind limit count (heard.Live n (taken.Disposition back runs)) named old attach frames events new b =
    inl (b.0, b.2)
becomes-behind limit count (heard.Live n (taken.Detach t)) named old attach frames events new b = inl (b.0, b.2)
becomes-behind limit count (heard.Dropped n) named old attach frames events new b = inl (b.0, b.2)

-- what is accepted to be sent gives deliveries up
step-gives-up : (step : LinkAct) → IsBehind GivesUpOnly step → GiveUp (accepted_in step)
step-gives-up (Reserves count) is = tt
step-gives-up (Changes handle before after) is = tt
step-gives-up (SendsTransfers handle batch left frames) is = (is, tt)
step-gives-up (SendsBehind handle frame left answer) is = tt
step-gives-up step is = absurd is

are-given-up : (steps : List LinkAct) → AreBehind GivesUpOnly steps → GiveUp (accepted_of steps)
are-given-up [] are = tt
are-given-up (step ∷ steps) (one, others) =
    give-both (accepted_in step) (accepted_of steps) (step-gives-up step one) (are-given-up steps others)

pub behind-gives-up : (old : LinksIn) (frames : List SessionFrame) (new : LinksIn)
    (d : DoneBehind GivesUpOnly old frames new) → GiveUp (accepted_of d.steps)
behind-gives-up old frames new d = are-given-up d.steps d.are
