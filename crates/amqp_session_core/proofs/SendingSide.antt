-- The sending side's own history.
use Rattle.std.proofs.Common.{◌≡◌, ℕ, List, [], ◌∷◌, ◌++◌, Bool, true, false, refl, sym, ◌∙◌, ap, subst}
use Rattle.std.specs.Prelude.{Some, None, Ok, Err}
use Rattle.amqp_session_types.specs.declared.modes.Role.{Role}
use Rattle.amqp_session_types.specs.declared.modes.Role.TheVariants.{Sender, Receiver}
use Rattle.amqp_session_performatives.specs.declared.disposition.Disposition.{Disposition}
use Rattle.amqp_session_outgoing.specs.State as sending_state
use Rattle.amqp_session_outgoing.specs.History as sending
use Rattle.amqp_session_core.specs.declared.batch.TransferFrame.{TransferFrame}
use Rattle.amqp_session_core.specs.declared.batch.BehindFrame.{BehindFrame}
use Rattle.amqp_session_core.specs.Echoes.{opposite, without}
use Rattle.amqp_session_core.specs.Relay.{Relations}
use Rattle.amqp_session_core.specs.State.{State}
use Rattle.amqp_session_core.specs.Steps.{Act, Step, Reply, NoReply, OfSession, OfLink, Replies, SendsDispositionStep}
use Rattle.amqp_session_core.specs.Steps.{table_of, with_table, Stays, SendsBegin, TakesBegin, SendsEnd, TakesEnd}
use Rattle.amqp_session_core.specs.Steps.{TakesAttach, TakesFlow, SetsWindow, TakesTransfer, TakesDisposition}
use Rattle.amqp_session_core.specs.Steps.{TakesDetach, SendsBehind, SendsTransfers, SendsDisposition, TellsFlow}
use Rattle.amqp_session_core.specs.Steps.{Allocates, Deallocates, Reserves, Changes}
use Rattle.amqp_session_core.specs.History.{History, settles, settles_as, own_settles_as, reply_steps, sending_in, sending_of}

abbrev Side : Type 0
Side = sending_state.State TransferFrame BehindFrame

abbrev Sending : Type 0
Sending = sending.Act TransferFrame BehindFrame

sends-on : (steps more : List Sending) (start mid end : Side) → sending.History start steps mid → sending.History mid more end → sending.History start (steps ++ more) end
sends-on [] more start mid end run then_run = subst (λ (s : Side). sending.History s more end) run then_run
sends-on (step ∷ steps) more start mid end run then_run = (run.0, run.1, sends-on steps more run.0 mid end run.2 then_run)

-- deliveries are settled one after another
settled : (numbers : List ℕ) (old new : Side) → new ≡ record old { unsettled = without old.unsettled numbers } → sending.History old (settles numbers) new
settled [] old new is = is
settled (n ∷ ns) old new is = (_, refl, settled ns _ new is)

replied : (reply : Reply) (old new : Side) → Replies old reply new → sending.History old (reply_steps reply) new
replied NoReply old new is = is
replied OfSession old new is = is
replied (OfLink handle flow left) old new step = (new, step, refl)

module _ {R A T D : Type 0} (gives : Relations R A T D) where
  abbrev Does : State R → Act R A T D → State R → Type 0
  Does = Step gives

  same : (old new s : State R) → new ≡ s → s.outgoing ≡ old.outgoing → new.outgoing ≡ old.outgoing
  same old new s is e = ap (λ (x : State R). x.outgoing) is ∙ e

  -- the peer settles, where it receives, what the own links sent
  settled-as : (role : Role) (old new s : State R) (numbers : List ℕ) → s.outgoing ≡ old.outgoing → new ≡ with_table role (without (table_of role old) numbers) s
      → sending.History old.outgoing (settles_as role numbers) new.outgoing
  settled-as Sender old new s numbers e is = ap (λ (x : State R). x.outgoing) is ∙ e
  settled-as Receiver old new s numbers e is =
      settled numbers old.outgoing new.outgoing (ap (λ (x : State R). x.outgoing) is ∙ ap (λ (o : Side). record o { unsettled = without (old.outgoing).unsettled numbers }) e)

  own-settled-as : (role : Role) (old new : State R) (numbers : List ℕ) → new ≡ with_table (opposite role) (without (table_of (opposite role) old) numbers) old
      → sending.History old.outgoing (own_settles_as role numbers) new.outgoing
  own-settled-as Receiver old new numbers is = ap (λ (x : State R). x.outgoing) is
  own-settled-as Sender old new numbers is = settled numbers old.outgoing new.outgoing (ap (λ (x : State R). x.outgoing) is)

  none-settled : (role : Role) → own_settles_as role [] ≡ []
  none-settled Sender = refl
  none-settled Receiver = refl

  sent : (settles : Bool) (old : State R) (d : Disposition) (numbers : List ℕ) (new : State R)
      → SendsDispositionStep gives settles old d numbers new
      → sending.History old.outgoing (own_settles_as d.role numbers) new.outgoing
  sent false old d numbers new s =
      subst (λ (steps : List Sending). sending.History old.outgoing steps new.outgoing) (sym (ap (own_settles_as d.role) s.0 ∙ none-settled d.role)) (same old new old s.1 refl)
  sent true old d numbers new s = own-settled-as d.role old new numbers s.1

  pub step-sends : (step : Act R A T D) (old new : State R) → Does old step new
      → sending.History old.outgoing (sending_in step) new.outgoing
  step-sends Stays old new s = same old new old s refl
  step-sends (SendsBegin frame) old new s = same old new _ s.2 refl
  step-sends (TakesBegin channel begin base left frames) old new s = (new.outgoing, s.2, refl)
  step-sends (SendsEnd error frame) old new s = same old new _ s.2 refl
  step-sends TakesEnd old new s = same old new _ s.1 refl
  step-sends (TakesAttach handle attach (Ok told)) old new s = same old new _ s.2 refl
  step-sends (TakesAttach handle attach (Err e)) old new s = same old new _ s.2 refl
  step-sends (TakesFlow flow told reply base left frames) old new s =
      sends-on (reply_steps reply) (sending.TakesWindow base flow.incoming_window left ∷ []) old.outgoing s.mid new.outgoing (replied reply old.outgoing s.mid s.replied) (new.outgoing, s.window, refl)
  step-sends (SetsWindow flow base) old new s = (new.outgoing, ap (λ (x : State R). x.outgoing) s.2, refl)
  step-sends (TakesTransfer handle transfer payload (Ok told) flow) old new s = same old new _ s.3 refl
  step-sends (TakesTransfer handle transfer payload (Err e) flow) old new s = same old new _ s.3 refl
  step-sends (TakesDisposition d walk echoes) old new s = settled-as d.role old new (record old { links = new.links }) _ refl s.becomes
  step-sends (TakesDetach handle detach (Ok told)) old new s = same old new _ s.2 refl
  step-sends (TakesDetach handle detach (Err e)) old new s = same old new _ s.2 refl
  step-sends (SendsBehind handle frame left answer) old new s = (new.outgoing, s.0, refl)
  step-sends (SendsTransfers handle batch left frames) old new s = (new.outgoing, s.0, refl)
  step-sends (SendsDisposition d numbers) old new s = sent d.settled old d numbers new s
  step-sends (TellsFlow frame) old new s = same old new _ s.1 refl
  step-sends (Allocates handle x None) old new s = same old new _ s.4 refl
  step-sends (Allocates handle x (Some input)) old new s = same old new _ s.5 refl
  step-sends (Deallocates handle) old new s = (new.outgoing, s.2, refl)
  step-sends (Reserves count) old new s = (new.outgoing, s.0, refl)
  step-sends (Changes handle before after) old new s = same old new _ s.1 refl

  pub history-sends : (steps : List (Act R A T D)) (start end : State R) → History gives start steps end
      → sending.History start.outgoing (sending_of steps) end.outgoing
  history-sends [] start end run = ap (λ (x : State R). x.outgoing) run
  history-sends (step ∷ steps) start end run =
      sends-on (sending_in step) (sending_of steps) start.outgoing (run.0).outgoing end.outgoing (step-sends step start run.0 run.1) (history-sends steps run.0 end run.2)
