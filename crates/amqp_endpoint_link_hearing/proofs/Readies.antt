-- What is made ready for a link that the peer detaches.
use Rattle.std.proofs.Common.{◌≡◌, ◌≤◌, ℕ, Bool, true, List, [], Option, Some, None, Result, Ok, Err, refl, sym, ap}
use Rattle.std.proofs.Common.{subst, ◌∙◌, append-nil}
use Rattle.std.specs.Prelude.{IfOk}
use Rattle.std.proofs.lemmas.Option.{same_Some}
use Rattle.amqp_session_types.specs.declared.channels.IncomingChannel.{IncomingChannel}
use Rattle.amqp_session_types.specs.declared.channels.OutgoingChannel.{OutgoingChannel}
use Rattle.amqp_session_types.specs.declared.error.Error.{Error}
use Rattle.amqp_session_performatives.specs.declared.detach.Detach.{Detach}
use Rattle.amqp_session_performatives.specs.declared.session_frame.SessionFrame.{SessionFrame}
use Rattle.amqp_session_core.specs.State as session_state
use Rattle.amqp_session_outgoing.specs.Queues.{room_behind}
use Rattle.amqp_link_base.specs.declared.detached.Detached.{Detached}
use Rattle.amqp_endpoint_tables.specs.State.{live_at, reached}
use Rattle.amqp_endpoint_model.specs.declared.event.Event.{Event}
use Rattle.amqp_endpoint_attached.specs.Linked.{Linked, end_at}
use Rattle.amqp_endpoint_messages.specs.All.{AreCopies}
use Rattle.amqp_endpoint_linking.specs.Linking.{Links, Session, Talk}
use Rattle.amqp_endpoint_linking.specs.Handed.{Tells}
use Rattle.amqp_endpoint_link_hearing.specs.Detaching.{Withdraws, ending}
use Rattle.amqp_endpoint_link_hearing.specs.Leaves.{IsReady, LeavesBy, Prepares, ReadyFor}
use Rattle.amqp_endpoint_link_hearing.specs.Leaving.{repeated}
use Rattle.amqp_endpoint_link_hearing.specs.declared.detaching.Ready.{Ready}
use Rattle.amqp_endpoint_link_hearing.proofs.Sizes.{AnswerFits}

-- the answer repeats the peer's error where it fits, and there is room for it
pub made-ready : (limit : ℕ) (s : Linked) (it : Detach) (ready : Ready) (channel : OutgoingChannel)
    → Some ready.handle.0 ≡ session_state.reached s.session it.handle.0 → channel ≡ s.session.fields.channel
    → ready.answer.closed ≡ it.closed
    → (ready.answer.error ≡ repeated limit channel ready.handle it.closed it.error)
    × (512 ≤ limit → AnswerFits limit channel ready.handle it.closed ready.answer.error ≡ true)
    → ready.error ≡ it.error → room_behind ready.handle.0 1 s.session.outgoing.queues ≤ ready.answer.place
    → ready.count ≡ ending it.closed (end_at s ready.handle) → AreCopies it.error ready.count ready.copies.items
    → IsReady limit s it ready
made-ready limit s it ready channel reaches is closes (repeats, fit) tells room counts copied =
    record {
      reaches = sym reaches;
      closes = closes;
      answers = repeats ∙ ap (λ (k : OutgoingChannel). repeated limit k ready.handle it.closed it.error) is;
      tells = tells;
      counts = counts;
      copied =
          subst (λ (e : Option Error). AreCopies e ready.count ready.copies.items) (sym tells) copied;
      place =
          record {
            room = room;
            fit = λ least.
                ap
                (λ (closed : Bool). AnswerFits limit s.session.fields.channel ready.handle closed ready.answer.error)
                closes
                ∙ ap (λ (k : OutgoingChannel). AnswerFits limit k ready.handle it.closed ready.answer.error) (sym is)
                ∙ fit least;
          };
    }

module _ (limit : ℕ) (talk : Talk) (channel : IncomingChannel) (it : Detach) where
  -- the session that the channel reaches has begun
  pub prepared : {E : Type 0} (number : ℕ) (session : Session) (before : Linked)
      → Some number ≡ reached talk.sessions channel.0
      → Some session ≡ live_at talk.sessions number → before ≡ session.value → (r : Result (Option Ready) E)
      → IfOk r (ReadyFor limit before it) → IfOk r (Prepares limit talk channel it)
  prepared number session before at is same (Ok ready) so = λ other s reaches live.
      let here : number ≡ other = same_Some number other (at ∙ reaches) in
      let stands : session ≡ s = same_Some session s (is ∙ ap (live_at talk.sessions) here ∙ live) in
      subst (λ (l : Linked). ReadyFor limit l it ready) (same ∙ ap (λ (x : Session). x.value) stands) so
  prepared number session before at is same (Err e) so = so

-- nothing comes of it
module _ (mid : Talk) (links : Links) (out : List SessionFrame) (told : List Event) where
  abbrev pub NothingSo : Option (ℕ × Detached) → Option Ready → Type 0
  NothingSo took ready =
      Tells (λ (frames : List SessionFrame) (events : List Event).
      LeavesBy took ready mid links frames events mid links)
      out told out told

  withdrawn : Tells (λ (frames : List SessionFrame) (events : List Event).
      Withdraws links mid frames events mid links) out told out told
  withdrawn =
      record {
        frames = [];
        events = [];
        is_so = record { silent = refl; untold = refl; stays = refl; same = refl };
        queued = sym (append-nil out);
        are_told = sym (append-nil told);
      }

  -- where no link took it
  pub none-took : (took : Option (ℕ × Detached)) (ready : Option Ready) → took ≡ None → NothingSo took ready
  none-took took ready is = subst (λ (o : Option (ℕ × Detached)). NothingSo o ready) (sym is) withdrawn

  unready : (took : Option (ℕ × Detached)) → NothingSo took None
  unready None = withdrawn
  unready (Some (session, it)) = withdrawn

  -- or nothing was made ready
  pub none-ready : (took : Option (ℕ × Detached)) (ready : Option Ready) → ready ≡ None → NothingSo took ready
  none-ready took ready is = subst (NothingSo took) (sym is) (unready took)
