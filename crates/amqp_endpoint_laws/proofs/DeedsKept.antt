-- What sessions keep by all that they do, each deed keeps.
use Rattle.std.proofs.Common.{◌≡◌, ◌⊎◌, inl, inr, ℕ, List, Some, ap, refl, sym, subst, []}
use Rattle.amqp_session_performatives.specs.declared.session_frame.SessionFrame.{SessionFrame}
use Rattle.amqp_session_frames.specs.State as channels
use Rattle.amqp_session_frames.specs.declared.frame.FrameBody.{FrameBody}
use Rattle.amqp_session_frames.specs.declared.frame.FrameBody.TheVariants as body
use Rattle.amqp_endpoint_laws.specs.Deeds.{Closes, Deed, Does, Finishes, HeaderComes, Hears, IsDeed, Moves}
use Rattle.amqp_endpoint_laws.specs.Deeds.{MovesByFrame, OwnCloseGoes, Queues, Refuses, Renews, Takes}
use Rattle.amqp_endpoint_model.specs.Relay.{Relations}
use Rattle.amqp_endpoint_model.specs.Said.{Said}
use Rattle.amqp_endpoint_model.specs.declared.call.Call.{Call}
use Rattle.amqp_endpoint_model.specs.declared.call.Call.TheVariants.{AcceptBegin, Begin}
use Rattle.amqp_endpoint_model.specs.declared.event.Event.{Event}
use Rattle.amqp_endpoint_model.specs.declared.phase.Phase.TheVariants.{Running}
use Rattle.amqp_endpoint_laws.proofs.Keeping.{Keeps, KeepsSilent, MayDo}
use Rattle.amqp_endpoint_laws.proofs.Kept.{closes-by}

running-may : (call : Call) → MayDo Running call
running-may Begin = refl
running-may (AcceptBegin channel) = refl
running-may call = tt

-- a connection that goes on of itself keeps its channels
same-live : (old new : channels.State) → HeaderComes old new ⊎ OwnCloseGoes old new → new.live ≡ old.live
same-live old new (inl (inl is)) = ap (λ (c : channels.State). c.live) is
same-live old new (inl (inr is)) = ap (λ (c : channels.State). c.live) is
same-live old new (inr (error, row, is)) = ap (λ (c : channels.State). c.live) is

-- a deed by which only such calls are done
abbrev pub MayBe : (Call → Type 0) → Deed → Type 0
MayBe may (Does limit call answer frames) = may call
MayBe may deed = Unit {0}

module _ {S : Type 0} (does : Relations S) (P : S → Type 0) (silently : KeepsSilent does (λ phase s. P s))
    (taken : (old new : S) (limit channel : ℕ) (said : FrameBody) (frames : List SessionFrame) (events : List Event)
    → does.takes old limit channel said frames events new → P old → P new)
    (may : Call → Type 0)
    (called : (old new : S) (limit : ℕ) (call : Call) (answer : Said) (frames : List SessionFrame) → may call
    → does.calls old limit call answer frames new → P old → P new) where
  moves-keep : (it : FrameBody) (old new : S) → MovesByFrame does it old new → P old → P new
  moves-keep body.Empty old new same p = subst P (sym same) p
  moves-keep (body.Open peer) old new m p =
      subst P (sym m.is)
      (silently.moved Running old
      (record (does.connection old) {
        local_state = (does.connection new).local_state;
        remote_channel_max = Some peer.channel_max;
      }) refl p)
  moves-keep (body.Close close) old new m p =
      subst P (sym m.is)
      (silently.moved Running old
      (record (does.connection old) { local_state = (does.connection new).local_state }) refl p)
  moves-keep it old new m p = absurd m

  pub deed-keeps-if : (deed : Deed) (old new : S) → MayBe may deed → IsDeed does old deed new → P old → P new
  deed-keeps-if (Queues it) old new none same p = subst P (sym same) p
  deed-keeps-if (Hears frame events) old new none (moves, told) p = moves-keep frame.body old new moves p
  deed-keeps-if (Takes limit frame frames events) old new none takes p =
      taken old new limit frame.channel frame.body frames events takes p
  deed-keeps-if (Refuses limit frame error own_close) old new none e p =
      closes-by does (λ phase s. P s) silently Running Running own_close e.refused new e.closes
      (silently.refused Running old e.refused limit frame.channel frame.body error e.refuses p)
  deed-keeps-if (Does limit call answer frames) old new allowed calls p =
      called old new limit call answer frames allowed calls p
  deed-keeps-if (Moves connection) old new none m p =
      subst P (sym m.1) (silently.moved Running old connection (same-live (does.connection old) connection m.0) p)
  deed-keeps-if Renews old new none is p = subst P (sym is) (silently.renewed old p)
  deed-keeps-if Closes old new none l p = silently.closed Running old new l p
  deed-keeps-if Finishes old new none f p = silently.finished Running Running old new f p

-- each may, where each call may
all-may : (deed : Deed) → MayBe (λ call. Unit {0}) deed
all-may (Does limit call answer frames) = tt
all-may deed = tt

module _ {S : Type 0} (does : Relations S) (P : S → Type 0) (k : Keeps does (λ seen tags phase s. P s)) where
  pub deed-keeps : (deed : Deed) (old new : S) → IsDeed does old deed new → P old → P new
  deed-keeps deed old new d p =
      deed-keeps-if does P (k.silent [] [])
      (λ old new limit channel said frames events takes p.
      k.taken [] [] Running old new limit channel said frames events takes p)
      (λ call. Unit {0})
      (λ old new limit call answer frames may calls p.
      k.called [] [] Running old new limit call answer frames (running-may call) calls p)
      deed old new (all-may deed) d p
