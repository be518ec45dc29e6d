-- What comes of a link that attaches, with its own frames.
use Rattle.std.proofs.Common.{◌≡◌, ℕ, List, refl}
use Rattle.amqp_session_performatives.specs.declared.session_frame.SessionFrame.{SessionFrame}
use Rattle.amqp_link.specs.declared.end.End.{End}
use Rattle.amqp_endpoint_model.specs.declared.event.Event.{Event}
use Rattle.amqp_endpoint_linking.specs.Handed.{Hands}
use Rattle.amqp_endpoint_linking.specs.Linking.{Links, Talk}
use Rattle.amqp_endpoint_link_calls.specs.Attaching.{LinkAttaches, LinkResumes}
use Rattle.amqp_endpoint_link_calls.specs.declared.placed.Placed.{Placed}
use Rattle.amqp_endpoint.specs.Attaching.{LinkAttached, LinkResumed}

-- a link attaches, its number is answered, and this is told
pub attached : (old new : Talk) (links links_new : Links) (limit session : ℕ) (link : End) (placed : Placed)
    (number : ℕ) (events : List Event) (out out_new : List SessionFrame)
    → LinkAttaches old links out limit session link placed new links_new out_new → number ≡ placed.link
    → events ≡ placed.events.items
    → Hands (λ (frames : List SessionFrame).
    LinkAttached old links limit session link number events frames new links_new) out out_new
attached old new links links_new limit session link placed number events out out_new a numbered told =
    record {
      frames = a.frames;
      is_so =
          record {
            placed = placed;
            attaches =
                record {
                  mapped = a.mapped;
                  frames = a.frames;
                  attaches = a.attaches;
                  queued = refl;
                  entered = a.entered;
                };
            numbered = numbered;
            told = told;
          };
      queued = a.queued;
    }

-- one attaches again
pub resumed : (old new : Talk) (links links_new : Links) (limit link session : ℕ) (placed : Placed)
    (number : ℕ) (events : List Event) (out out_new : List SessionFrame)
    → LinkResumes old links out limit link session placed new links_new out_new → number ≡ placed.link
    → events ≡ placed.events.items
    → Hands (λ (frames : List SessionFrame).
    LinkResumed old links limit link session number events frames new links_new) out out_new
resumed old new links links_new limit link session placed number events out out_new r numbered told =
    record {
      frames = r.frames;
      is_so =
          record {
            placed = placed;
            resumes =
                record {
                  link = r.link;
                  may = r.may;
                  frames = r.frames;
                  attaches = r.attaches;
                  queued = refl;
                  numbered = r.numbered;
                  held = r.held;
                };
            numbered = numbered;
            told = told;
          };
      queued = r.queued;
    }
