-- What calls do with their own frames, behind those that were to be sent.
use Rattle.std.proofs.Common.{◌≡◌, ℕ, true, List, [], ◌∷◌, ◌++◌, Option, Some, None, refl, sym, subst, ◌∙◌, append-nil}
use Rattle.std.proofs.lemmas.List.Elements.{All-nil}
use Rattle.amqp_session_types.specs.declared.channels.IncomingChannel.{IncomingChannel}
use Rattle.amqp_session_types.specs.declared.error.Error.{Error}
use Rattle.amqp_session_types.specs.declared.refusals.SessionError.{SessionError}
use Rattle.amqp_session_performatives.specs.declared.session_frame.SessionFrame.{SessionFrame}
use Rattle.amqp_endpoint_conversation.specs.Beginning.{AcceptsHere, BeginsHere}
use Rattle.amqp_endpoint_conversation.specs.Ending.{EndsHere, IsMapped, end_frame}
use Rattle.amqp_endpoint_conversation.specs.Faults.{fault_error}
use Rattle.amqp_endpoint_model.specs.declared.event.Event.{Event}
use Rattle.amqp_endpoint_model.specs.State.{fits, frame_of}
use Rattle.amqp_endpoint_conversation.specs.Going.{Goes, Rests}
use Rattle.amqp_endpoint_attached.specs.Linked.{gives}
use Rattle.amqp_endpoint_linking.specs.Linking.{Links, Session, Talk, links_of}
use Rattle.amqp_endpoint_linking.specs.GivingBack.{AllGivenBack}
use Rattle.amqp_endpoint_linking.specs.Calling.{Accepts, Begins, EndsOwn, Fails, fault_told}
use Rattle.amqp_endpoint_linking.specs.Handed.{Hands, Tells}

-- where nothing was done
pub goes-same : (limit : ℕ) (old new : Talk) (out out_new : List SessionFrame) → new ≡ old → out_new ≡ out
    → Goes limit old new out out_new
goes-same limit old new out out_new is same =
    let P : Talk → Type 0 = λ talk. Goes limit old talk out out_new in
    subst P (sym is)
    (record {
      waits = λ within. within;
      still = record { state = refl; opening = refl };
      frames = [];
      queued = same ∙ sym (append-nil out);
      fit = λ least within. All-nil (λ (f : SessionFrame). fits limit (frame_of f) ≡ true);
    })

pub rests-same : (old new : Talk) (out out_new : List SessionFrame) → new ≡ old → out_new ≡ out
    → Rests old new out out_new
rests-same old new out out_new is same =
    let P : Talk → Type 0 = λ talk. Rests old talk out out_new in
    subst P (sym is) (record { silent = λ none. same; idle = λ none. none })

module _ (old new : Talk) (out out_new : List SessionFrame) where
  pub begun-hands : (number : ℕ) → BeginsHere gives old out number new out_new
      → Hands (λ (frames : List SessionFrame). Begins old number frames new) out out_new
  begun-hands number b =
      record {
        frames = b.frame ∷ [];
        is_so =
            record {
              channel = b.channel;
              session = b.session;
              frame = b.frame;
              begun = b.begun;
              stepped = b.stepped;
              rest = b.rest;
              queued = refl;
            };
        queued = b.queued;
      }

  pub accepted-hands : (channel : IncomingChannel) (number : ℕ)
      → AcceptsHere gives old out channel number new out_new
      → Hands (λ (frames : List SessionFrame). Accepts old channel number frames new) out out_new
  accepted-hands channel number a =
      record {
        frames = a.frame ∷ [];
        is_so =
            record {
              asked = a.asked;
              incoming = a.incoming;
              wanted = a.wanted;
              outgoing = a.outgoing;
              session = a.session;
              frame = a.frame;
              mid = a.mid;
              accepted = a.accepted;
              stepped = a.stepped;
              taken_over = a.taken_over;
              rest = a.rest;
              queued = refl;
            };
        queued = a.queued;
      }

  -- an own End alone
  alone : (number : ℕ) (error : Option Error) (session : Session)
      → (e : EndsHere old out number error session new out_new)
      → EndsHere old [] number error session new (end_frame e.channel error ∷ [])
  alone number error session e =
      record { channel = e.channel; stepped = e.stepped; rest = e.rest; queued = refl }

  module _ (links links_new : Links) (number : ℕ) (session : Session)
      (back : AllGivenBack links (links_of session) links_new) where
    pub ended-hands : IsMapped old number → EndsHere old out number None session new out_new
        → Hands (λ (frames : List SessionFrame). EndsOwn old links number frames new links_new) out out_new
    ended-hands mapped e =
        record {
          frames = end_frame e.channel None ∷ [];
          is_so = record { mapped = mapped; session = session; ends = alone number None session e; back = back };
          queued = e.queued;
        }

    pub failed-tells : (fault : SessionError) (told told_new : List Event)
        → EndsHere old out number (Some (fault_error fault)) session new out_new
        → told_new ≡ told ++ fault_told number fault
        → Tells (λ frames events.
        Fails old links number fault frames events new links_new) out told out_new told_new
    failed-tells fault told told_new e are =
        record {
          frames = end_frame e.channel (Some (fault_error fault)) ∷ [];
          events = fault_told number fault;
          is_so =
              record {
                session = session;
                ends = alone number (Some (fault_error fault)) session e;
                back = back;
                told = refl;
              };
          queued = e.queued;
          are_told = are;
        }
