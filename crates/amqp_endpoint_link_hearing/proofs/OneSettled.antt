-- A Disposition that settles one delivery at once is heard as any is.
use Rattle.std.proofs.Common.{◌≡◌, inl, ℕ, ◌&&◌, Bool, true, false, List, [], ◌∷◌, Option, Some, None, Ok, IsSome}
use Rattle.std.proofs.Common.{is_some, refl, sym, ap, subst, ◌∙◌, append-nil}
use Rattle.std.specs.Prelude.{slice_index_or}
use Rattle.amqp_session_types.specs.declared.channels.IncomingChannel.{IncomingChannel}
use Rattle.amqp_session_types.specs.declared.modes.Role.{Role}
use Rattle.amqp_session_types.specs.declared.modes.Role.TheVariants as role
use Rattle.amqp_session_states.specs.declared.delivery_state.DeliveryState.{DeliveryState}
use Rattle.amqp_session_performatives.specs.declared.disposition.Disposition.{Disposition}
use Rattle.amqp_session_performatives.specs.declared.session_frame.SessionFrame.{SessionFrame}
use Rattle.amqp_session_outgoing.specs.declared.delivery.Delivery.{Delivery}
use Rattle.amqp_session_core.specs.Disposing.{ReachesOneAt}
use Rattle.amqp_session_core.specs.OneSettled.{few_runs, runs_if}
use Rattle.amqp_session_core.specs.declared.settled.SettledAtOnce.{SettledAtOnce}
use Rattle.amqp_link.specs.Gives.{disposes}
use Rattle.amqp_link.specs.declared.end.End.{End}
use Rattle.amqp_link.specs.declared.end.End.TheVariants.{Receiver, Sender}
use Rattle.amqp_endpoint_links.specs.declared.hearing.LinkPerformative.TheVariants as said
use Rattle.amqp_endpoint_links.specs.declared.hearing.PerformativeTaken.TheVariants as taken
use Rattle.amqp_endpoint_conversation.specs.Going.{Goes, Rests}
use Rattle.amqp_endpoint_conversation.specs.Hearing.{Answered}
use Rattle.amqp_endpoint_conversation.specs.OneSettled.{SettlesWhole}
use Rattle.amqp_endpoint_conversation.specs.declared.hearing.Heard.TheVariants.{Live}
use Rattle.amqp_endpoint_conversation.proofs.Goings.{goes-on, rests-on}
use Rattle.amqp_endpoint_tables.specs.State.{live_at}
use Rattle.amqp_endpoint_model.specs.declared.event.Event.{Event}
use Rattle.amqp_endpoint_attached.specs.Linked.{gives}
use Rattle.amqp_endpoint_linking.specs.Handed.{Tells}
use Rattle.amqp_endpoint_linking.specs.Linking.{Link, Links, Talk}
use Rattle.amqp_endpoint_link_hearing.specs.Disposing.{HearsDisposition, TellsAndEchoes}
use Rattle.amqp_endpoint_link_hearing.specs.InSession.{GoesOn}
use Rattle.amqp_endpoint_link_hearing.proofs.Dispositions.{done-at, echoed-rests, refused-behind, told-goes}

never : (b : Bool) → (b && false) ≡ false
never true = refl
never false = refl

-- what the peer settles is echoed by no end of a link
end-silent : (end : End) (tag : List ℕ) (by : Role) (settled : Bool) (state : Option DeliveryState) (echo : Bool)
    (new : End) → settled ≡ true → disposes end tag by settled state echo new → echo ≡ false
end-silent (Sender s) tag role.Receiver true state echo new is t = t.0 ∙ never _
end-silent (Sender s) tag role.Receiver false state echo new is t = absurd cc
end-silent (Sender s) tag role.Sender settled state echo new is t = t.0
end-silent (Receiver r) tag role.Receiver settled state echo new is t = t.0
end-silent (Receiver r) tag role.Sender settled state echo new is t = t.0

link-silent : (at : Option Link) (delivery : Delivery) (d : Disposition) (old new : List (Option Link)) (echo : Bool)
    → d.settled ≡ true → ReachesOneAt gives.disposes at delivery d d.state old echo new → echo ≡ false
link-silent None delivery d old new echo is t = t.0
link-silent (Some link) delivery d old new echo is t =
    end-silent (t.before).link delivery.tag d.role d.settled d.state echo (t.after).link is (t.stepped).0

module _ (old : Talk) (channel : IncomingChannel) (d : Disposition) (session : ℕ) (it : SettledAtOnce) (mid : Talk)
    (w : SettlesWhole gives old channel d session it mid) where
  silent : it.is_echoed ≡ false
  silent =
      link-silent (slice_index_or ((w.stood).value.session).links (it.delivery).handle.0 None)
      (record { handle = (it.delivery).handle; tag = (it.delivery).tag }) d ((w.stood).value.session).links
      ((w.after).value.session).links it.is_echoed w.is_settled w.reaches

  answered : Answered gives old [] channel (said.Disposition d)
      (Ok (Live session (taken.Disposition d (few_runs [])))) mid
      []
  answered =
      subst
      (λ (b : Bool).
      Answered gives old [] channel (said.Disposition d)
      (Ok (Live session (taken.Disposition d (few_runs (runs_if b (it.delivery).number))))) mid [])
      silent w.answered

  pub lives : IsSome (live_at mid.sessions session)
  lives = ap is_some w.goes_on

  module _ (new : Talk) (events events_new : List Event)
      (told : (state : Option DeliveryState) (out : List SessionFrame)
      → Tells (λ (frames : List SessionFrame) (told : List Event).
      GoesOn (TellsAndEchoes (it.delivery ∷ []) state [] frames told) mid session new) out events out events_new) where
    pub hears-settled : (limit : ℕ) (links : Links) (out : List SessionFrame)
        → Tells (λ (frames : List SessionFrame) (told : List Event).
        HearsDisposition old links limit channel d frames told new links) out events out events_new
    hears-settled limit links out =
        let r = refused-behind limit session (it.delivery ∷ []) d.state [] [] refl mid new new out out out events
        events_new events_new (told d.state out) true [] refl (λ same. refl)
        (record {
          frames = [];
          events = [];
          is_so = (refl, refl, refl);
          queued = sym (append-nil out);
          are_told = sym (append-nil events_new);
        }) in
        record {
          frames = r.frames;
          events = r.events;
          is_so =
              inl (record {
                heard = Live session (taken.Disposition d (few_runs []));
                mid = mid;
                answered = answered;
                follows =
                    done-at limit old channel [] d d session (few_runs []) mid [] answered w.stood w.live
                    (it.delivery ∷ []) w.touched r.frames r.events new r.is_so;
                same = refl;
              });
          queued = r.queued;
          are_told = r.are_told;
        }

    pub goes-settled : (limit : ℕ) (out : List SessionFrame) → Goes limit old mid out out → Goes limit old new out out
    goes-settled limit out g =
        goes-on limit old mid new out out out g
        (told-goes (it.delivery ∷ []) None [] mid session new out out events events_new (told None out) limit)

    pub rests-settled : (out : List SessionFrame) → Rests old mid out out → Rests old new out out
    rests-settled out r =
        rests-on old mid new out out out r
        (echoed-rests (it.delivery ∷ []) None [] mid session new out out events events_new (told None out))
