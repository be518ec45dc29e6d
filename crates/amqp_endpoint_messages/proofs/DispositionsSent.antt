-- What a session is where it sent Dispositions.
use Rattle.std.proofs.Common.{◌≡◌, ℕ, Bool, true, false, List, [], ◌∷◌, ◌++◌, refl, sym, ◌∙◌, ap, append_assoc, All}
use Rattle.std.proofs.lemmas.List.Elements.{All-head, All-tail}
use Rattle.amqp_session_types.specs.declared.modes.Role.{Role}
use Rattle.amqp_session_types.specs.declared.modes.Role.TheVariants.{Sender, Receiver}
use Rattle.amqp_session_performatives.specs.declared.disposition.Disposition.{Disposition}
use Rattle.amqp_session_performatives.specs.declared.session_frame.SessionFrame.{SessionFrame}
use Rattle.amqp_session_outgoing.specs.Table.{Table}
use Rattle.amqp_session_core.specs.declared.fields.SessionFields.{SessionFields}
use Rattle.amqp_session_core.specs.Echoes.{opposite, without}
use Rattle.amqp_session_core.specs.Relay.{Relations}
use Rattle.amqp_session_core.specs.State.{State}
use Rattle.amqp_session_core.specs.Steps.{Step, SendsDisposition, SendsDispositionStep, table_of, with_table}
use Rattle.amqp_endpoint_messages.specs.Dispositions.{SendsEach, SendsOne, frames_of, said_by}

module _ {R A T D : Type 0} (does : Relations R A T D) where
  fields-with : (role : Role) (table : Table) (s : State R) → (with_table role table s).fields ≡ s.fields
  fields-with Sender table s = refl
  fields-with Receiver table s = refl

  fields-step : (b : Bool) (old : State R) (d : Disposition) (numbers : List ℕ) (new : State R)
      → SendsDispositionStep does b old d numbers new → new.fields ≡ old.fields
  fields-step false old d numbers new step = ap (λ (s : State R). s.fields) step.1
  fields-step true old d numbers new step =
      ap (λ (s : State R). s.fields) step.1
      ∙ fields-with (opposite d.role) (without (table_of (opposite d.role) old) numbers) old

  -- a Disposition changes nothing that the session tells of itself
  pub fields-kept : (old : State R) (d : Disposition) (numbers : List ℕ) (new : State R)
      → Step does old (SendsDisposition d numbers) new → new.fields ≡ old.fields
  fields-kept old d numbers new step = fields-step d.settled old d numbers new step

  outgoing-with : (role : Role) (table : Table) (s : State R) → role ≡ Receiver
      → (with_table (opposite role) table s).outgoing ≡ s.outgoing
  outgoing-with Receiver table s is = refl
  outgoing-with Sender table s is = absurd cc

  outgoing-step : (b : Bool) (old : State R) (d : Disposition) (numbers : List ℕ) (new : State R) → d.role ≡ Receiver
      → SendsDispositionStep does b old d numbers new → new.outgoing ≡ old.outgoing
  outgoing-step false old d numbers new is step = ap (λ (s : State R). s.outgoing) step.1
  outgoing-step true old d numbers new is step =
      ap (λ (s : State R). s.outgoing) step.1
      ∙ outgoing-with d.role (without (table_of (opposite d.role) old) numbers) old is

  -- a receiver's leaves what is sent as it is
  outgoing-kept : (old : State R) (d : Disposition) (new : State R) → d.role ≡ Receiver → SendsOne does old d new
      → new.outgoing ≡ old.outgoing
  outgoing-kept old d new is sent = outgoing-step d.settled old d sent.settled new is sent.stepped

  -- so do several
  pub all-kept : (old : State R) (told : List Disposition) (new : State R)
      → All (λ (d : Disposition). d.role ≡ Receiver) told → SendsEach does old told new
      → (new.outgoing ≡ old.outgoing) × (new.fields ≡ old.fields)
  all-kept old [] new are sent =
      (ap (λ (s : State R). s.outgoing) sent, ap (λ (s : State R). s.fields) sent)
  all-kept old (d ∷ rest) new are sent =
      let later = all-kept sent.0 rest new (All-tail (λ (e : Disposition). e.role ≡ Receiver) d rest are) sent.2 in (
        later.0 ∙ outgoing-kept old d sent.0 (All-head (λ (e : Disposition). e.role ≡ Receiver) d rest are) sent.1,
        later.1 ∙ fields-kept old d sent.1.settled sent.0 sent.1.stepped,
      )

-- a frame more is handed out, and those that are left come behind it
pub handed-on : (fields mid_fields : SessionFields) (one : Disposition) (rest left : List Disposition)
    (mid new all : List SessionFrame) → new ≡ mid ++ said_by mid_fields one ∷ [] → mid_fields ≡ fields
    → left ≡ one ∷ rest → mid ++ frames_of fields left ≡ all → new ++ frames_of fields rest ≡ all
handed-on fields mid_fields one rest left mid new all added same is are =
    ap (λ (l : List SessionFrame). l ++ frames_of fields rest) added
    ∙ append_assoc mid (said_by mid_fields one ∷ []) (frames_of fields rest)
    ∙ ap (λ (f : SessionFields). mid ++ said_by f one ∷ frames_of fields rest) same
    ∙ ap (λ (l : List Disposition). mid ++ frames_of fields l) (sym is)
    ∙ are
