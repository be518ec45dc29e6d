-- What the peer's frames do to an endpoint's sessions and links, and what is told of them (part 2, 2.5, 2.6).
use Rattle.std.specs.Prelude.{◌≡◌, ℕ, List}
use Rattle.amqp_session_types.specs.declared.channels.IncomingChannel.{IncomingChannel}
use Rattle.amqp_session_performatives.specs.declared.session_frame.SessionFrame.{SessionFrame}
use Rattle.amqp_session_frames.specs.declared.frame.FrameBody.{FrameBody}
use Rattle.amqp_session_frames.specs.declared.frame.FrameBody.TheVariants as body
use Rattle.amqp_endpoint_links.specs.declared.hearing.LinkPerformative.TheVariants as said
use Rattle.amqp_endpoint_model.specs.declared.error.EndpointError.{EndpointError}
use Rattle.amqp_endpoint_model.specs.declared.event.Event.{Event}
use Rattle.amqp_endpoint_linking.specs.Hearing.{HearsBegin, RefusesBegin, RefusesEnd, TakesEnd}
use Rattle.amqp_endpoint_linking.specs.Linking.{Links, Talk}
use Rattle.amqp_endpoint_link_hearing.specs.Attaching.{HearsAttach, RefusesAttach}
use Rattle.amqp_endpoint_link_hearing.specs.Detaching.{HearsDetach}
use Rattle.amqp_endpoint_link_hearing.specs.Disposing.{HearsDisposition}
use Rattle.amqp_endpoint_link_hearing.specs.Flowing.{HearsFlow, RefusesFlow}
use Rattle.amqp_endpoint_link_hearing.specs.Saying.{RefusesSaid}
use Rattle.amqp_endpoint_link_hearing.specs.Transferring.{HearsTransfer, RefusesTransfer}

-- a frame of a session is heard, where so many messages were handed out before: these frames are to be sent then, and
-- this is told
abbrev pub Hears : Talk → Links → ℕ → ℕ → IncomingChannel → FrameBody → List SessionFrame → List Event → Talk → Links
    → ℕ → Type 0
Hears old links given limit channel (body.Begin begin) frames events new links_new given_new =
    HearsBegin old links channel begin frames events new links_new × (given_new ≡ given)
Hears old links given limit channel (body.Attach attach) frames events new links_new given_new =
    HearsAttach old links limit channel attach frames events new links_new × (given_new ≡ given)
Hears old links given limit channel (body.Flow flow) frames events new links_new given_new =
    HearsFlow old links limit channel flow frames events new links_new × (given_new ≡ given)
Hears old links given limit channel (body.Transfer transfer payload) frames events new links_new given_new =
    HearsTransfer old links given channel transfer payload frames events new links_new given_new
Hears old links given limit channel (body.Disposition disposition) frames events new links_new given_new =
    HearsDisposition old links limit channel disposition frames events new links_new × (given_new ≡ given)
Hears old links given limit channel (body.Detach detach) frames events new links_new given_new =
    HearsDetach old links limit channel detach frames events new links_new × (given_new ≡ given)
Hears old links given limit channel (body.End end) frames events new links_new given_new =
    TakesEnd old links channel end frames events new links_new × (given_new ≡ given)
Hears old links given limit channel other frames events new links_new given_new = ⊥

-- it ends the connection by this, and no link changes beside the sessions
abbrev pub RefusesBody : Talk → Links → ℕ → ℕ → IncomingChannel → FrameBody → EndpointError → Talk → Type 0
RefusesBody old links given limit channel (body.Begin begin) e new = RefusesBegin old channel begin e new
RefusesBody old links given limit channel (body.Attach attach) e new = RefusesAttach old links channel attach e new
RefusesBody old links given limit channel (body.Flow flow) e new = RefusesFlow old channel flow e new
RefusesBody old links given limit channel (body.Transfer transfer payload) e new =
    RefusesTransfer old given channel transfer payload e new
RefusesBody old links given limit channel (body.Disposition disposition) e new =
    RefusesSaid old channel (said.Disposition disposition) e new
RefusesBody old links given limit channel (body.Detach detach) e new =
    RefusesSaid old channel (said.Detach detach) e new
RefusesBody old links given limit channel (body.End end) e new = RefusesEnd old channel end e new
RefusesBody old links given limit channel other e new = ⊥

pub record Refuses (old : Talk) (links : Links) (given limit : ℕ) (channel : IncomingChannel) (said : FrameBody)
    (e : EndpointError) (new : Talk) (links_new : Links) : Type 0 where
  pub refuses : RefusesBody old links given limit channel said e new
  pub same : links_new ≡ links
