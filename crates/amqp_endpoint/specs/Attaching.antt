-- A link attaches in one of an endpoint's sessions, and what comes of it at once (part 2, 2.6.3).
use Rattle.std.specs.Prelude.{◌≡◌, ℕ, List, []}
use Rattle.amqp_session_performatives.specs.declared.session_frame.SessionFrame.{SessionFrame}
use Rattle.amqp_link.specs.declared.end.End.{End}
use Rattle.amqp_endpoint_model.specs.declared.event.Event.{Event}
use Rattle.amqp_endpoint_link_calls.specs.Attaching.{LinkAttaches, LinkResumes}
use Rattle.amqp_endpoint_link_calls.specs.declared.placed.Placed.{Placed}
use Rattle.amqp_endpoint_linking.specs.Linking.{Links, Talk}

-- this link attaches in the session with this number, gets this number of its own, and this is told of it
pub record LinkAttached (old : Talk) (links : Links) (limit session : ℕ) (link : End) (number : ℕ)
    (events : List Event) (frames : List SessionFrame) (new : Talk) (links_new : Links) : Type 0 where
  pub placed : Placed
  pub attaches : LinkAttaches old links [] limit session link placed new links_new frames
  pub numbered : number ≡ placed.link
  pub told : events ≡ placed.events.items

-- the link with this number attaches again in the session with that one, this number is answered, and this is told of
-- it
pub record LinkResumed (old : Talk) (links : Links) (limit link session number : ℕ) (events : List Event)
    (frames : List SessionFrame) (new : Talk) (links_new : Links) : Type 0 where
  pub placed : Placed
  pub resumes : LinkResumes old links [] limit link session placed new links_new frames
  pub numbered : number ≡ placed.link
  pub told : events ≡ placed.events.items
