-- Each Flow that leaves tells what was taken.
use Rattle.std.proofs.Common.{◌≡◌, ℕ, List, [], ◌∷◌, ◌++◌, Bool, true, false, refl, sym, ◌∙◌, ap, subst, if◌then◌else◌}
use Rattle.std.specs.Prelude.{option_to_list, nat_le, ◌+◌, ◌*◌}
use Rattle.std.specs.Prelude.{Option, Some, None, Ok, Err}
use Rattle.amqp_session_types.specs.declared.modes.Role.{Role}
use Rattle.amqp_session_types.specs.declared.modes.Role.TheVariants.{Sender, Receiver}
use Rattle.amqp_session_performatives.specs.declared.disposition.Disposition.{Disposition}
use Rattle.amqp_session_performatives.specs.declared.session_frame.SessionFrame.{SessionFrame}
use Rattle.amqp_session_outgoing.specs.Table.{Table}
use Rattle.amqp_session_core.specs.declared.fields.SessionFields.{SessionFields}
use Rattle.amqp_session_core.specs.declared.batch.BehindFrame.{BehindFrame}
use Rattle.amqp_session_core.specs.declared.batch.BehindFrame.TheVariants as behind
use Rattle.amqp_session_core.specs.Echoes.{opposite}
use Rattle.amqp_session_core.specs.Frames.{Left, session_flow, behind_frame, frames_behind, frames_sent, frames_left}
use Rattle.amqp_session_core.specs.Relay.{Relations}
use Rattle.amqp_session_core.specs.State.{State}
use Rattle.amqp_session_core.specs.Steps.{Act, Step, Counts, Reply, NoReply, OfSession, OfLink, SendsDispositionStep}
use Rattle.amqp_session_core.specs.Steps.{with_table, next_behind, reply_frames, at_once, Stays, SendsBegin}
use Rattle.amqp_session_core.specs.Steps.{TakesBegin, SendsEnd, TakesEnd, TakesAttach, TakesFlow, SetsWindow}
use Rattle.amqp_session_core.specs.Steps.{TakesTransfer, TakesDisposition, TakesDetach, SendsBehind, SendsTransfers}
use Rattle.amqp_session_core.specs.Steps.{SendsDisposition, TellsFlow, Allocates, Deallocates, Reserves, Changes}
use Rattle.amqp_session_core.specs.History.{History, AllTellNext, EachTellsNext, frames_in, next_in}

-- so do frames and more behind them
all-tell : (next : Option ℕ) (window : ℕ) (frames more : List SessionFrame) → AllTellNext next window frames → AllTellNext next window more → AllTellNext next window (frames ++ more)
all-tell next window [] more tell then_tell = then_tell
all-tell next window (frame ∷ frames) more tell then_tell = (tell.0, all-tell next window frames more tell.1 then_tell)

-- frames that are made of what the session tells of itself
module _ (f : SessionFields) where
  abbrev Tell : List SessionFrame → Type 0
  Tell frames = AllTellNext f.next_incoming_id f.incoming_window frames

  behind-tells : (number : ℕ) (b : BehindFrame) → Tell (behind_frame f number b ∷ [])
  behind-tells number (behind.Flow link) = ((refl, refl), tt)
  behind-tells number (behind.Detach detach) = (tt, tt)

  behinds-tell : (number : ℕ) (bs : List BehindFrame) → Tell (frames_behind f number bs)
  behinds-tell number [] = tt
  behinds-tell number (b ∷ bs) = ((behind-tells number b).0, behinds-tell number bs)

  left-tell : (left : Left) → Tell (frames_left f left)
  left-tell [] = tt
  left-tell (s ∷ left) = all-tell f.next_incoming_id f.incoming_window (frames_sent f s) (frames_left f left) (tt, behinds-tell _ s.behind) (left-tell left)

  once-tells : (number : ℕ) (left : Option BehindFrame) → Tell (option_to_list (at_once f number left))
  once-tells number None = tt
  once-tells number (Some b) = behind-tells number b

  reply-tells : (number : ℕ) (reply : Reply) → Tell (reply_frames f number reply)
  reply-tells number NoReply = tt
  reply-tells number OfSession = ((refl, refl), tt)
  reply-tells number (OfLink handle flow None) = tt
  reply-tells number (OfLink handle flow (Some b)) = behind-tells number b

  told-if : (b : Bool) (number : ℕ) → Tell (option_to_list (if b then Some (session_flow f number) else None))
  told-if true number = ((refl, refl), tt)
  told-if false number = tt

module _ {R A T D : Type 0} (gives : Relations R A T D) where
  abbrev Does : State R → Act R A T D → State R → Type 0
  Does = Step gives

  -- the session knows the number and the window behind a call, and the call's Flows tell them
  pub record Tells (next : Option ℕ) (window : ℕ) (frames : List SessionFrame) (new : State R) : Type 0 where
    pub number : (new.fields).next_incoming_id ≡ next
    pub width : (new.fields).incoming_window ≡ window
    pub tell : AllTellNext next window frames

  -- frames that the fields behind the call make
  by-fields : (next : Option ℕ) (window : ℕ) (f : SessionFields) (frames : List SessionFrame) (new : State R) → new.fields ≡ f → f.next_incoming_id ≡ next → f.incoming_window ≡ window → Tell f frames → Tells next window frames new
  by-fields next window f frames new is number width tell =
      record {
        number = ap (λ (x : SessionFields). x.next_incoming_id) is ∙ number;
        width = ap (λ (x : SessionFields). x.incoming_window) is ∙ width;
        tell = subst (λ (w : ℕ). AllTellNext next w frames) width (subst (λ (n : Option ℕ). AllTellNext n f.incoming_window frames) number tell);
      }

  module _ (next : Option ℕ) (window : ℕ) (old new : State R) (number : (old.fields).next_incoming_id ≡ next) (width : (old.fields).incoming_window ≡ window) where
    -- the fields stay
    still : (s : State R) (frames : List SessionFrame) → new ≡ s → s.fields ≡ old.fields → Tell old.fields frames → Tells next window frames new
    still s frames is same tell = by-fields next window old.fields frames new (ap (λ (x : State R). x.fields) is ∙ same) number width tell

    tabled : (role : Role) (table : Table) (s : State R) → new ≡ with_table role table s → s.fields ≡ old.fields → Tells next window [] new
    tabled Sender table s is same = still _ [] is same tt
    tabled Receiver table s is same = still _ [] is same tt

    sent-tells : (settled : Bool) (d : Disposition) (numbers : List ℕ) → SendsDispositionStep gives settled old d numbers new
        → Tells next window [] new
    sent-tells false d numbers s = still old [] s.1 refl tt
    sent-tells true d numbers s = tabled (opposite d.role) _ old s.1 refl

    counts-tells : (flow : Option SessionFrame) → Counts old flow new.fields new.taken → Tells (next_behind next) window (option_to_list flow) new
    counts-tells flow c =
        by-fields (next_behind next) window new.fields (option_to_list flow) new refl
        (ap (λ (x : SessionFields). x.next_incoming_id) c.next ∙ ap next_behind number)
        (ap (λ (x : SessionFields). x.incoming_window) c.next ∙ width)
        (subst (λ (o : Option SessionFrame). Tell new.fields (option_to_list o)) (sym c.told) (told-if new.fields (nat_le (old.fields).incoming_window (2 * (old.taken + 1))) _))

    step-tells : (step : Act R A T D) → Does old step new → Tells (next_in next step) window (frames_in step) new
    step-tells Stays s = still old [] s refl tt
    step-tells (SendsBegin frame) s = still _ [] s.2 refl tt
    step-tells (TakesBegin channel begin base left frames) s =
        by-fields _ window new.fields frames new refl (ap (λ (x : State R). (x.fields).next_incoming_id) s.5) (ap (λ (x : State R). (x.fields).incoming_window) s.5 ∙ width)
        (subst (Tell new.fields) (sym s.3) (left-tell new.fields left))
    step-tells (SendsEnd error frame) s = still _ [] s.2 refl tt
    step-tells TakesEnd s = still _ [] s.1 refl tt
    step-tells (TakesAttach handle attach (Ok told)) s = still _ [] s.2 refl tt
    step-tells (TakesAttach handle attach (Err e)) s = still _ [] s.2 refl tt
    step-tells (TakesFlow flow told reply base left frames) s =
        by-fields _ window new.fields frames new refl (ap (λ (x : State R). (x.fields).next_incoming_id) s.becomes) (ap (λ (x : State R). (x.fields).incoming_window) s.becomes ∙ width)
        (subst (Tell new.fields) (sym s.frames_are)
        (all-tell _ _ _ (frames_left new.fields left) (reply-tells new.fields (old.outgoing).next_outgoing_id reply) (left-tell new.fields left)))
    step-tells (SetsWindow flow base) s =
        by-fields _ window new.fields [] new refl (ap (λ (x : State R). (x.fields).next_incoming_id) s.2)
        (ap (λ (x : State R). (x.fields).incoming_window) s.2 ∙ width) tt
    step-tells (TakesTransfer handle transfer payload (Ok told) flow) s = counts-tells flow s.2
    step-tells (TakesTransfer handle transfer payload (Err e) flow) s = subst (λ (o : Option SessionFrame). Tells next window (option_to_list o) new) (sym s.2) (still _ [] s.3 refl tt)
    step-tells (TakesDisposition d walk echoes) s = tabled d.role _ (record old { links = new.links }) s.becomes refl
    step-tells (TakesDetach handle detach (Ok told)) s = still _ [] s.2 refl tt
    step-tells (TakesDetach handle detach (Err e)) s = still _ [] s.2 refl tt
    step-tells (SendsBehind handle frame left answer) s =
        still _ (option_to_list answer) s.2 refl (subst (λ (o : Option SessionFrame). Tell old.fields (option_to_list o)) (sym s.1) (once-tells old.fields (old.outgoing).next_outgoing_id left))
    step-tells (SendsTransfers handle batch left frames) s = still _ frames s.2 refl (subst (Tell old.fields) (sym s.1) (left-tell old.fields left))
    step-tells (SendsDisposition d numbers) s = sent-tells d.settled d numbers s
    step-tells (TellsFlow frame) s = still _ (frame ∷ []) s.1 refl (subst (λ (x : SessionFrame). Tell old.fields (x ∷ [])) (sym s.0) ((refl, refl), tt))
    step-tells (Allocates handle x None) s = still _ [] s.4 refl tt
    step-tells (Allocates handle x (Some input)) s = still _ [] s.5 refl tt
    step-tells (Deallocates handle) s = still _ [] s.4 refl tt
    step-tells (Reserves count) s = still _ [] s.1 refl tt
    step-tells (Changes handle before after) s = still _ [] s.1 refl tt

  pub history-tells : (next : Option ℕ) (window : ℕ) (steps : List (Act R A T D)) (start end : State R)
      → (start.fields).next_incoming_id ≡ next → (start.fields).incoming_window ≡ window
      → History gives start steps end → EachTellsNext next window steps
  history-tells next window [] start end number width run = tt
  history-tells next window (step ∷ steps) start end number width run =
      let told = step-tells next window start run.0 number width step run.1 in
      (told.tell, history-tells (next_in next step) window steps run.0 end told.number told.width run.2)
