-- The peer's Flow.
use Rattle.std.proofs.Common.{◌≡◌, ◌≤◌, inl, inr, ℕ, true, List, [], ◌∷◌, ◌++◌, Ok, refl, sym, ap, subst, ◌∙◌}
use Rattle.std.proofs.Common.{append-nil, append_assoc, arith, drop, length, take, Option}
use Rattle.std.proofs.lemmas.List.{drop_at, take_at}
use Rattle.std.proofs.lemmas.List.Elements.{All-nil}
use Rattle.amqp_session_types.specs.declared.channels.IncomingChannel.{IncomingChannel}
use Rattle.amqp_session_performatives.specs.declared.flow.Flow.{Flow}
use Rattle.amqp_session_performatives.specs.declared.session_frame.SessionFrame.{SessionFrame}
use Rattle.amqp_endpoint_links.specs.declared.hearing.LinkPerformative.TheVariants as said
use Rattle.amqp_endpoint_conversation.specs.Hearing.{Answered}
use Rattle.amqp_endpoint_model.specs.declared.error.EndpointError.{EndpointError}
use Rattle.amqp_endpoint_model.specs.declared.event.Event.{Event}
use Rattle.amqp_endpoint_model.specs.Relay.{IsSessionFault}
use Rattle.amqp_endpoint_model.specs.State.{fits, frame_of}
use Rattle.amqp_endpoint_conversation.specs.Going.{Goes, Rests}
use Rattle.amqp_endpoint_attached.specs.Linked.{gives}
use Rattle.amqp_endpoint_linking.specs.Linking.{Links, Talk}
use Rattle.amqp_endpoint_linking.specs.Handed.{Tells}
use Rattle.amqp_endpoint_link_hearing.specs.Flowing.{HearsCredited, HearsFlow, LetsGo, MayMakeRoom}
use Rattle.amqp_endpoint_link_hearing.specs.Flowing.{RefusesFlow, SendsOnBy}
use Rattle.amqp_endpoint_link_hearing.specs.Saying.{BarsSaid, FailsBySaid, LinkHeard}
use Rattle.amqp_endpoint_link_hearing.specs.Heard.{session_of}
use Rattle.amqp_endpoint_link_hearing.proofs.Refusals.{alone}

-- what is handed out grows
longer : (out frames : List SessionFrame) → length out ≤ length (out ++ frames)
longer [] frames = omega arith
longer (frame ∷ out) frames =
    let more : length out ≤ length (out ++ frames) = longer out frames in omega (arith, more)

pub grown : (out out_new frames : List SessionFrame) → out_new ≡ out ++ frames → length out ≤ length out_new
grown out out_new frames queued =
    subst (λ (o : List SessionFrame). length out ≤ length o) (sym queued) (longer out frames)

-- frames that are taken back
pub back : (out out_new frames : List SessionFrame) (from : ℕ) → from ≡ length out → out_new ≡ out ++ frames
    → take from out_new ≡ out
back out out_new frames from is queued = ap (take from) queued ∙ take_at out frames from (sym is)

module _ (old new : Talk) (out out_new : List SessionFrame) (from : ℕ) (is : from ≡ length out) where
  pub goes-back : (limit : ℕ) → Goes limit old new out out_new → Goes limit old new out (take from out_new)
  goes-back limit g =
      record {
        waits = g.waits;
        still = g.still;
        frames = [];
        queued = back out out_new g.frames from is g.queued ∙ sym (append-nil out);
        fit = λ least within. All-nil (λ (f : SessionFrame). fits limit (frame_of f) ≡ true);
      }

  pub rests-back : Goes 0 old new out out_new → Rests old new out out_new → Rests old new out (take from out_new)
  rests-back g r =
      record { silent = λ none. back out out_new g.frames from is g.queued; idle = r.idle }

-- it is heard from where room was made
module _ (old : Talk) (links links_new : Links) (limit : ℕ) (channel : IncomingChannel) (flow : Flow)
    (out : List SessionFrame) where
  abbrev Credited : Talk → List Event → List SessionFrame → List Event → Type 0
  Credited new told out_new told_new =
      Tells (λ (frames : List SessionFrame) (events : List Event).
      HearsCredited old links limit channel flow frames events new links_new) out told out_new told_new

  pub flow-taken : (heard : LinkHeard) (took : Option ℕ) → took ≡ session_of heard → (mid : Talk)
      (out_mid : List SessionFrame) → Answered gives old out channel (said.Flow flow) (Ok heard) mid out_mid
      → Goes 0 old mid out out_mid → (from : ℕ) → from ≡ length out → (left : Talk)
      → LetsGo took (drop from out_mid) mid links left links_new → (new : Talk) (out_new : List SessionFrame)
      (told told_new : List Event)
      → Tells (λ (frames : List SessionFrame) (events : List Event).
      SendsOnBy limit took flow.handle left frames events new) out_mid told out_new told_new
      → Credited new told out_new told_new
  flow-taken heard took is mid out_mid answered went from at left leave new out_new told told_new t =
      record {
        frames = went.frames ++ t.frames;
        events = t.events;
        is_so =
            inl (record {
              heard = heard;
              first = went.frames;
              mid = mid;
              answered = alone old channel (said.Flow flow) out mid out_mid went (Ok heard) answered;
              left = left;
              leave =
                  subst (λ (o : Option ℕ). LetsGo o went.frames mid links left links_new) is
                  (subst (λ (fs : List SessionFrame). LetsGo took fs mid links left links_new)
                  (ap (drop from) went.queued ∙ drop_at out went.frames from (sym at)) leave);
              behind = t.frames;
              sends_on = subst (λ (o : Option ℕ). SendsOnBy limit o flow.handle left t.frames t.events new) is t.is_so;
              frames_are = refl;
            });
        queued =
            t.queued
            ∙ ap (λ (o : List SessionFrame). o ++ t.frames) went.queued
            ∙ append_assoc out went.frames t.frames;
        are_told = t.are_told;
      }

  pub flow-fails : (new : Talk) (out_new : List SessionFrame) (told told_new : List Event)
      → Tells (λ (frames : List SessionFrame) (events : List Event).
      FailsBySaid old links channel (said.Flow flow) frames events new links_new) out told out_new told_new
      → Credited new told out_new told_new
  flow-fails new out_new told told_new t =
      record {
        frames = t.frames;
        events = t.events;
        is_so = inr t.is_so;
        queued = t.queued;
        are_told = t.are_told;
      }

-- before that room may be made
module _ (old : Talk) (channel : IncomingChannel) (flow : Flow) (ready : Talk) (room : MayMakeRoom old channel ready)
  where
    pub flow-heard : (links links_new : Links) (limit : ℕ) (new : Talk) (out out_mid out_new : List SessionFrame)
        (told told_mid told_new : List Event) → out_mid ≡ out → told_mid ≡ told
        → Tells (λ (frames : List SessionFrame) (events : List Event).
        HearsCredited ready links limit channel flow frames events new links_new) out_mid told_mid out_new told_new
        → Tells (λ (frames : List SessionFrame) (events : List Event).
        HearsFlow old links limit channel flow frames events new links_new) out told out_new told_new
    flow-heard links links_new limit new out out_mid out_new told told_mid told_new same kept t =
        record {
          frames = t.frames;
          events = t.events;
          is_so = record { ready = ready; makes_room = room; hears = t.is_so };
          queued = t.queued ∙ ap (λ (o : List SessionFrame). o ++ t.frames) same;
          are_told = t.are_told ∙ ap (λ (es : List Event). es ++ t.events) kept;
        }

    pub flow-bars : (new : Talk) (e : EndpointError) → IsSessionFault e × BarsSaid ready channel (said.Flow flow) e new
        → IsSessionFault e × RefusesFlow old channel flow e new
    flow-bars new e (why, bars) = (why, inl (record { ready = ready; makes_room = room; bars = bars }))
