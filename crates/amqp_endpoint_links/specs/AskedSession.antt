-- A session that the peer asks for: its Begin came, and no session here accepts it yet (part 2, 2.5.1).
use Rattle.std.specs.Prelude.{◌≡◌, Bool, true, false, Option, Some, None, Result, Ok, Err, is_some, ⊤}
use Rattle.std.specs.FinMap as map
use Rattle.amqp_session_types.specs.declared.handles.Handle.{Handle}
use Rattle.amqp_session_types.specs.declared.refusals.SessionError.{SessionError}
use Rattle.amqp_session_types.specs.declared.refusals.SessionError.TheVariants.{UnattachedHandle}
use Rattle.amqp_session_performatives.specs.declared.attach.Attach.{Attach}
use Rattle.amqp_session_performatives.specs.declared.begin.Begin.{Begin}
use Rattle.amqp_session_performatives.specs.declared.detach.Detach.{Detach}
use Rattle.amqp_session_performatives.specs.declared.flow.Flow.{Flow}
use Rattle.amqp_endpoint_links.specs.declared.links.AskRefusal.{AskRefusal}
use Rattle.amqp_endpoint_links.specs.declared.session.AskedSession.{AskedSession}
use Rattle.amqp_endpoint_links.specs.declared.session.SessionFlow.{SessionFlow}
use Rattle.amqp_endpoint_links.specs.Asked.{Asked, Asks, is_asked, told_of}

-- what a Flow tells of its session
abbrev pub session_told : Flow → SessionFlow
session_told f =
    record {
      next_incoming_id = f.next_incoming_id;
      incoming_window = f.incoming_window;
      next_outgoing_id = f.next_outgoing_id;
      outgoing_window = f.outgoing_window;
    }

-- the Flow that tells this alone, without an echo
abbrev pub flow_of : SessionFlow → Flow
flow_of s =
    record {
      next_incoming_id = s.next_incoming_id;
      incoming_window = s.incoming_window;
      next_outgoing_id = s.next_outgoing_id;
      outgoing_window = s.outgoing_window;
      handle = None;
      delivery_count = None;
      link_credit = None;
      available = None;
      drain = false;
      echo = false;
      properties = None;
    }

-- what a Flow tells of its session, without an echo
abbrev pub session_part : Flow → Flow
session_part f = flow_of (session_told f)

-- a session as it is asked for: neither a Flow nor an Attach came yet
abbrev pub asked_by : Begin → AskedSession
asked_by begin = record { begin = begin; flow = None; links = map.empty }

-- how an Attach is answered
abbrev pub AttachAnswered : AskedSession → Attach → Result ⊤ AskRefusal → AskedSession → Type 0
AttachAnswered old attach result new = Asks old.links attach result new.links × (new ≡ record old { links = new.links })

-- a Flow has no handle, or that of an asked link
abbrev pub is_for_asked : Asked → Option Handle → Bool
is_for_asked asked None = true
is_for_asked asked (Some handle) = is_asked asked (Some handle)

-- how a Flow is answered, with whether it is for the session or an asked link: it is kept in place of earlier ones
abbrev pub FlowAt : Bool → AskedSession → Flow → Result ⊤ SessionError → AskedSession → Type 0
FlowAt true old flow result new =
    (result ≡ Ok tt)
    × (new ≡ record old { flow = Some (session_told flow); links = told_of old.links flow flow.handle })
FlowAt false old flow result new = (result ≡ Err UnattachedHandle) × (new ≡ old)

abbrev pub FlowAnswered : AskedSession → Flow → Result ⊤ SessionError → AskedSession → Type 0
FlowAnswered old flow result new = FlowAt (is_for_asked old.links flow.handle) old flow result new

-- how a Detach is answered, with whether it is an asked link's: that is asked for no longer
abbrev pub DetachAt : Bool → AskedSession → Detach → Result ⊤ SessionError → AskedSession → Type 0
DetachAt true old detach result new =
    (result ≡ Ok tt) × (new ≡ record old { links = map.remove old.links (detach.handle).0 })
DetachAt false old detach result new = (result ≡ Err UnattachedHandle) × (new ≡ old)

abbrev pub DetachAnswered : AskedSession → Detach → Result ⊤ SessionError → AskedSession → Type 0
DetachAnswered old detach result new = DetachAt (is_some (map.get old.links (detach.handle).0)) old detach result new
