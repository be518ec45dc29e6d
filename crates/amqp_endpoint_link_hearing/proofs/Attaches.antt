-- The peer's Attach, once it is heard, and where it is refused.
use Rattle.std.proofs.Common.{◌≡◌, inl, inr, ℕ, List, [], ◌∷◌, ◌++◌, Ok, refl, sym}
use Rattle.std.proofs.Common.{ap, subst, ◌∙◌, append-nil}
use Rattle.std.proofs.lemmas.List.Elements.{All-nil}
use Rattle.amqp_session_types.specs.declared.channels.IncomingChannel.{IncomingChannel}
use Rattle.amqp_session_performatives.specs.declared.attach.Attach.{Attach}
use Rattle.amqp_session_performatives.specs.declared.session_frame.SessionFrame.{SessionFrame}
use Rattle.amqp_session_core.specs.Steps.{Reserves}
use Rattle.amqp_endpoint_fitting.specs.Read.{IsRead}
use Rattle.amqp_endpoint_links.specs.History.{InSession}
use Rattle.amqp_endpoint_links.specs.declared.asking.NamedLink.{NamedLink}
use Rattle.amqp_endpoint_links.specs.declared.asking.NamedLink.TheVariants.{Absent, Attached, Waiting}
use Rattle.amqp_endpoint_links.specs.declared.hearing.LinkPerformative.TheVariants as said
use Rattle.amqp_endpoint_conversation.specs.Going.{Goes, Rests}
use Rattle.amqp_endpoint_conversation.specs.Hearing.{Answered}
use Rattle.amqp_endpoint_conversation.proofs.Alone.{answer-alone}
use Rattle.amqp_endpoint_conversation.proofs.Calls.{changed-goes, changed-rests}
use Rattle.amqp_endpoint_model.specs.declared.error.EndpointError.{EndpointError}
use Rattle.amqp_endpoint_model.specs.declared.error.EndpointError.TheVariants as fault
use Rattle.amqp_endpoint_model.specs.declared.event.Event.{Event}
use Rattle.amqp_endpoint_model.specs.Relay.{IsSessionFault}
use Rattle.amqp_endpoint_attached.specs.Linked.{gives}
use Rattle.amqp_endpoint_linking.specs.Linking.{Links, Talk}
use Rattle.amqp_endpoint_linking.specs.Handed.{Tells}
use Rattle.amqp_endpoint_link_hearing.specs.Attaching.{BecomesBy, HearsAttach, HearsReady, MakesRoom, RefusesAttach}
use Rattle.amqp_endpoint_link_hearing.specs.Attaching.{opened_in}
use Rattle.amqp_endpoint_link_hearing.specs.Heard.{attach_of}
use Rattle.amqp_endpoint_link_hearing.specs.Naming.{IsNamedOn}
use Rattle.amqp_endpoint_link_hearing.specs.Saying.{Answers, BarsSaid, FailsBySaid, LinkHeard}
use Rattle.amqp_endpoint_link_hearing.specs.declared.hearing.Took.{Took}
use Rattle.amqp_endpoint_link_hearing.proofs.Lent.{goes-same, rests-same}
use Rattle.amqp_endpoint_link_hearing.proofs.Plain.{answers-plain}

unsent : (out out_new : List SessionFrame) → out_new ≡ out → out_new ≡ out ++ []
unsent out out_new same = same ∙ sym (append-nil out)

-- it is heard from where room was made
module _ (named : NamedLink) (old : Talk) (links : Links) (limit : ℕ) (channel : IncomingChannel) (it : Attach) where
  abbrev Ready : Talk → Links → List SessionFrame → List Event → List SessionFrame → List Event → Type 0
  Ready new links_new out told out_new told_new =
      Tells (λ (frames : List SessionFrame) (events : List Event).
      HearsReady named old links limit channel it frames events new links_new) out told out_new told_new

  pub attach-taken : (out out_mid : List SessionFrame) (mid : Talk) → out_mid ≡ out → (heard : LinkHeard)
      → Answered gives old out channel (said.Attach it named) (Ok heard) mid out_mid → (took : Took)
      → took ≡ attach_of heard → (count : ℕ) (new : Talk) (links_new : Links) (told told_new : List Event)
      (out_new : List SessionFrame) → links_new ≡ links
      → ((frames : List SessionFrame) (events : List Event)
      → BecomesBy limit count (attach_of heard) named mid it frames events new
      → BecomesBy limit (opened_in old (attach_of heard) named) (attach_of heard) named mid it frames events new)
      → Tells (λ (frames : List SessionFrame) (events : List Event).
      BecomesBy limit count took named mid it frames events new) out_mid told out_new told_new
      → Ready new links_new out told out_new told_new
  attach-taken out out_mid mid same heard answered took is count new links_new told told_new out_new kept opened t =
      let here : Answers old channel (said.Attach it named) (Ok heard) [] mid =
      answer-alone gives old mid channel (said.Attach it named) (Ok heard) out out_mid [] (unsent out out_mid same)
      answered in
      let becomes : BecomesBy limit count (attach_of heard) named mid it t.frames t.events new =
      subst (λ (k : Took). BecomesBy limit count k named mid it t.frames t.events new) is t.is_so in
      record {
        frames = t.frames;
        events = t.events;
        is_so =
            inl (record {
              heard = heard;
              mid = mid;
              answered = here;
              becomes = opened t.frames t.events becomes;
              same = kept;
            });
        queued = t.queued ∙ ap (λ (o : List SessionFrame). o ++ t.frames) same;
        are_told = t.are_told;
      }

  pub attach-fails : (out out_new : List SessionFrame) (new : Talk) (links_new : Links) (told told_new : List Event)
      → Tells (λ (frames : List SessionFrame) (events : List Event).
      FailsBySaid old links channel (said.Attach it named) frames events new links_new) out told out_new told_new
      → Ready new links_new out told out_new told_new
  attach-fails out out_new new links_new told told_new t =
      record {
        frames = t.frames;
        events = t.events;
        is_so = inr t.is_so;
        queued = t.queued;
        are_told = t.are_told;
      }

-- before that room is made
module _ (old : Talk) (links : Links) (channel : IncomingChannel) (it : Attach) (named : NamedLink)
    (is_named : IsNamedOn old links channel it named) (ready : Talk) (room : MakesRoom named old channel ready) where
  pub attach-heard : (limit : ℕ) (new : Talk) (links_new : Links) (out out_mid out_new : List SessionFrame)
      (told told_mid told_new : List Event) → out_mid ≡ out → told_mid ≡ told
      → Tells (λ (frames : List SessionFrame) (events : List Event).
      HearsReady named ready links limit channel it frames events new links_new) out_mid told_mid out_new told_new
      → Tells (λ (frames : List SessionFrame) (events : List Event).
      HearsAttach old links limit channel it frames events new links_new) out told out_new told_new
  attach-heard limit new links_new out out_mid out_new told told_mid told_new same kept t =
      record {
        frames = t.frames;
        events = t.events;
        is_so =
            record {
              named = named;
              is_named = is_named;
              ready = ready;
              makes_room = room;
              hears = t.is_so;
            };
        queued = t.queued ∙ ap (λ (o : List SessionFrame). o ++ t.frames) same;
        are_told = t.are_told ∙ ap (λ (es : List Event). es ++ t.events) kept;
      }

  pub attach-bars : (new : Talk) (e : EndpointError)
      → IsSessionFault e × BarsSaid ready channel (said.Attach it named) e new
      → IsSessionFault e × RefusesAttach old links channel it e new
  attach-bars new e (why, bars) =
      (why, inl (record { named = named; is_named = is_named; ready = ready; makes_room = room; bars = bars }))

-- there is no memory even for what is told
pub attach-untold : (old new : Talk) (links : Links) (channel : IncomingChannel) (it : Attach) (e : EndpointError)
    → e ≡ fault.Memory → new ≡ old → IsSessionFault e × RefusesAttach old links channel it e new
attach-untold old new links channel it e is same =
    let why : IsSessionFault e = subst IsSessionFault (sym is) tt in (why, inr (is, same))

-- the room that is made changes nothing that is handed out
pub room-goes : (limit : ℕ) (named : NamedLink) (old : Talk) (channel : IncomingChannel) (new : Talk)
    (out out_new : List SessionFrame) → out_new ≡ out → MakesRoom named old channel new → Goes limit old new out out_new
room-goes limit Absent old channel new out out_new same is = goes-same limit old new out out_new is same
room-goes limit Attached old channel new out out_new same is = goes-same limit old new out out_new is same
room-goes limit (Waiting handle) old channel new out out_new same (inl is) = goes-same limit old new out out_new is same
room-goes limit (Waiting handle) old channel new out out_new same (inr m) =
    let g = m.made in
    let goes : Goes limit old new out (out ++ []) =
    changed-goes gives limit m.number old new g.before g.after (InSession (Reserves ((g.done).made).count) ∷ []) [] out
    g.stepped ((g.after).value, (((g.done).made).reserves, (g.done).rest), refl) answers-plain (tt, tt) (tt, tt)
    ([], [], refl, refl, refl) (All-nil IsRead) in
    subst (λ (o : List SessionFrame). Goes limit old new out o) (sym (unsent out out_new same)) goes

pub room-rests : (named : NamedLink) (old : Talk) (channel : IncomingChannel) (new : Talk)
    (out out_new : List SessionFrame) → out_new ≡ out → MakesRoom named old channel new → Rests old new out out_new
room-rests Absent old channel new out out_new same is = rests-same old new out out_new is same
room-rests Attached old channel new out out_new same is = rests-same old new out out_new is same
room-rests (Waiting handle) old channel new out out_new same (inl is) = rests-same old new out out_new is same
room-rests (Waiting handle) old channel new out out_new same (inr m) =
    let g = m.made in changed-rests m.number old new g.before g.after out out_new g.stepped
