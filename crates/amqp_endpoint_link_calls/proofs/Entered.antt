-- What becomes of the endpoint's links, and what is said of a refusal.
use Rattle.std.proofs.Common.{◌≡◌, ℕ, List, Result, Ok, Err, sym, ap, subst, ◌∙◌, length}
use Rattle.std.specs.Prelude.{IfOk, IfErr}
use Rattle.amqp_session_performatives.specs.declared.session_frame.SessionFrame.{SessionFrame}
use Rattle.amqp_link.specs.declared.end.End.{End}
use Rattle.amqp_endpoint_attached.specs.declared.refusal.AttachRefusal.{AttachRefusal}
use Rattle.amqp_endpoint_attached.specs.declared.refusal.AttachRefusal.TheVariants as why
use Rattle.amqp_endpoint_conversation.specs.Ending.{IsMapped}
use Rattle.amqp_endpoint_model.specs.declared.error.EndpointError.{EndpointError}
use Rattle.amqp_endpoint_tables.specs.LinkSteps.{Enters, Step}
use Rattle.amqp_endpoint_link_calls.specs.Attaching.{AttachesIn, LinkAttaches, with_room}
use Rattle.amqp_endpoint_link_calls.specs.Naming.{name_of}
use Rattle.amqp_endpoint_link_calls.specs.Places.{LinkTalk, LinksBy}
use Rattle.amqp_endpoint_link_calls.specs.Refusals.{BarsIn, BarsPlacing, MayAttach, RefusesIn}
use Rattle.amqp_endpoint_link_calls.specs.Refusals.{of_refusal}
use Rattle.amqp_endpoint_link_calls.specs.declared.placed.Placed.{Placed}
use Rattle.amqp_endpoint_link_calls.proofs.Own.{own}

module _ (old new : LinkTalk) (links links_new : LinksBy) (out out_new : List SessionFrame) (limit session : ℕ)
    (link : End) (placed : Placed) where
  pub link-attaches : IsMapped old session → AttachesIn old out limit session link placed new out_new
      → placed.link ≡ length links.links
      → Step (with_room links) (Enters (length links.links) (name_of link) placed.session placed.handle) links_new
      → LinkAttaches old links out limit session link placed new links_new out_new
  link-attaches mapped attaches numbered enters =
      let o = own old new out out_new limit session link placed attaches in
      record {
        mapped = mapped;
        frames = o.frames;
        attaches = o.attaches;
        queued = o.queued;
        entered =
            subst (λ (n : ℕ). Step (with_room links) (Enters n (name_of link) session placed.handle) links_new)
            (sym numbered)
            (subst
            (λ (s : ℕ). Step (with_room links) (Enters (length links.links) (name_of link) s placed.handle) links_new)
            attaches.held enters);
      }

-- whichever answer its session gave
module _ (old new : LinkTalk) (links mid links_new : LinksBy) (out out_new : List SessionFrame) (limit session : ℕ)
    (link : End) (name : List ℕ) (number : ℕ) where
  pub all-attach : IsMapped old session → mid ≡ with_room links → name ≡ name_of link → number ≡ length mid.links
      → (r : Result Placed EndpointError)
      → IfOk r (λ placed. AttachesIn old out limit session link placed new out_new)
      → IfOk r (λ placed. placed.link ≡ number)
      → IfOk r (λ placed. Step mid (Enters (length mid.links) name placed.session placed.handle) links_new)
      → IfOk r (λ placed. LinkAttaches old links out limit session link placed new links_new out_new)
  all-attach mapped roomy named next (Ok placed) attaches numbered enters =
      link-attaches old new links links_new out out_new limit session link placed mapped attaches
      (numbered ∙ next ∙ ap (λ (ls : LinksBy). length ls.links) roomy)
      (subst
      (λ (n : List ℕ). Step (with_room links) (Enters (length links.links) n placed.session placed.handle) links_new)
      named
      (subst
      (λ (ls : LinksBy). Step ls (Enters (length ls.links) name placed.session placed.handle) links_new) roomy
      enters))
  all-attach mapped roomy named next (Err e) attaches numbered enters = tt

module _ (limit : ℕ) (talk : LinkTalk) (links : LinksBy) (session : ℕ) (link : End)
    (may : MayAttach talk links session (name_of link)) where
  by-refusal : (refused : AttachRefusal) → RefusesIn limit talk session link refused
      → BarsPlacing limit talk links session link (of_refusal refused)
  by-refusal why.HandleMaxReached refuses = (may, refuses)
  by-refusal why.HandleInUse refuses = (may, refuses)
  by-refusal (why.Link e) refuses = (may, refuses)
  by-refusal why.FrameTooLarge refuses = (may, refuses)
  by-refusal why.Memory refuses = may

  pub bars-placing : (e : EndpointError) → BarsIn limit talk session link e
      → BarsPlacing limit talk links session link e
  bars-placing e (refused, is, refuses) =
      subst (λ (x : EndpointError). BarsPlacing limit talk links session link x) (sym is)
      (by-refusal refused refuses)

  pub all-bars : (r : Result Placed EndpointError) → IfErr r (BarsIn limit talk session link)
      → IfErr r (BarsPlacing limit talk links session link)
  all-bars (Ok placed) bars = tt
  all-bars (Err e) bars = bars-placing e bars
