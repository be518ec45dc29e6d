-- What the calls of a link do inside of the session that holds it.
use Rattle.std.proofs.Common.{◌≡◌, ℕ, Bool, true, List, [], Option, Some, None, subst, sym, ◌∙◌}
use Rattle.amqp_session_types.specs.declared.handles.OutputHandle.{OutputHandle}
use Rattle.amqp_session_performatives.specs.declared.session_frame.SessionFrame.{SessionFrame}
use Rattle.amqp_session_core.specs.State.{link_at}
use Rattle.amqp_session_core.specs.Steps.{Changes}
use Rattle.amqp_session_core.specs.declared.batch.BehindFrame.{BehindFrame}
use Rattle.amqp_session_core.specs.declared.batch.BehindFrame.TheVariants.{Detach, Flow}
use Rattle.amqp_link_receiver.specs.Flowing.{credited}
use Rattle.amqp_link.specs.declared.end.End.{End}
use Rattle.amqp_endpoint_links.specs.declared.numbered.Numbered.{Numbered}
use Rattle.amqp_endpoint_model.specs.declared.event.Event.{Event}
use Rattle.amqp_endpoint_conversation.specs.Inside.{DoneInside}
use Rattle.amqp_endpoint_conversation.proofs.Inside.{changed-inside, none-inside, one-inside, said-inside}
use Rattle.amqp_endpoint_conversation.proofs.Inside.{silent-behind}
use Rattle.amqp_endpoint_attached.specs.Detaching.{DetachGiven, own_detach}
use Rattle.amqp_endpoint_attached.specs.Linked.{Linked, LinksIn, end_at, gives}
use Rattle.amqp_endpoint_attached.specs.Receiving.{drained, receiving, shown_flow}
use Rattle.amqp_endpoint_attached.specs.Sent.{Sends}
use Rattle.amqp_endpoint_messages.specs.All.{TellsIn, behind_told, open_count}
use Rattle.amqp_endpoint_link_calls.specs.Calling.{Does, detaches, gives_credit, wants_drain}
use Rattle.amqp_endpoint_link_calls.specs.Closing.{closed_end, closes, fails}

-- what is done to a link is done inside of its session
abbrev pub StaysInside : Does → Type 0
StaysInside does =
    (handle : OutputHandle) (before after : Linked) (frames : List SessionFrame) → does handle before frames after
    → DoneInside gives before.session frames after.session

-- a link is changed, and sends a frame
sent-inside : (handle : OutputHandle) (before after : Linked) (stood stands : Numbered End) (frame : BehindFrame)
    (sent frames : List SessionFrame) → Sends before handle stood stands frame sent after → frames ≡ sent
    → DoneInside gives before.session frames after.session
sent-inside handle before after stood stands frame sent frames s added =
    changed-inside gives before.session s.mid after.session handle.0 stood stands frames s.changed
    (said-inside gives s.mid after.session handle frame s.left s.answer frames s.sent (added ∙ s.frames_are))

-- its Detach
detach-inside : (handle : OutputHandle) (closed : Bool) (before after : Linked) (frames : List SessionFrame)
    → DetachGiven before handle closed None [] after frames → DoneInside gives before.session frames after.session
detach-inside handle closed before after frames d =
    sent-inside handle before after (record { number = d.number; link = d.before })
    (record { number = d.number; link = d.after }) (Detach (own_detach handle closed None)) d.frames frames d.sent
    d.added

-- a link tells of messages
told-inside : (count : ℕ) (handle : OutputHandle) (link : Option (Numbered End)) (old new : LinksIn)
    → TellsIn count handle link old new → DoneInside gives old [] new
told-inside count handle None old new is = none-inside gives old new is
told-inside count handle (Some link) old new stepped =
    one-inside gives old new (Changes handle.0 link (record link { link = behind_told count link.link })) stepped tt tt

pub detaches-inside : (closed : Bool) → StaysInside (detaches closed)
detaches-inside closed handle before after frames d = detach-inside handle closed before after frames d

pub gives-inside : (credit left : ℕ) → StaysInside (gives_credit credit left)
gives-inside credit left handle before after frames d =
    sent-inside handle before after (receiving d.number d.receiver) (receiving d.number (credited d.receiver credit))
    (Flow (shown_flow handle (credited d.receiver credit))) d.frames frames d.sent d.added

pub drains-inside : StaysInside wants_drain
drains-inside handle before after frames d =
    sent-inside handle before after (receiving d.number d.receiver) (receiving d.number (drained d.receiver))
    (Flow (shown_flow handle (drained d.receiver))) d.frames frames d.sent d.added

-- it tells of them all where both ends detached it
pub fails-inside : (link : ℕ) (events : List Event) → StaysInside (fails link events)
fails-inside link events handle before after frames t =
    subst (λ (fs : List SessionFrame). DoneInside gives before.session fs after.session) (sym t.silent)
    (one-inside gives before.session after.session
    (Changes handle.0 t.it
    (record t.it { link = behind_told (open_count (Some (t.it).link)) (closed_end (t.it).link) }))
    t.ends tt tt)

-- behind its Detach it tells
pub closes-inside : (events : List Event) → StaysInside (closes events)
closes-inside events handle before after frames c =
    silent-behind gives before.session (c.mid).session after.session frames
    (detach-inside handle true before c.mid frames c.detached)
    (told-inside (open_count (end_at before handle)) handle (link_at (c.mid).session handle.0) (c.mid).session
    after.session (c.tells).tells)
