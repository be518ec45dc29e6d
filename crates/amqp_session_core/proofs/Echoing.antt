-- What a disposition settles, and what goes back.
use Rattle.std.proofs.Common.{◌≡◌, ℕ, ◌+◌, ◌<◌, ◌^◌, Bool, true, false, List, [], ◌∷◌, ◌++◌, length, take, get_or, Option, if◌then◌else◌, refl, sym, ap, subst, ◌∙◌}
use Rattle.std.specs.Prelude.{map}
use Rattle.std.proofs.lemmas.List.{take_more, map-append}
use Rattle.amqp_session_types.specs.declared.modes.Role.{Role}
use Rattle.amqp_session_types.specs.declared.modes.Role.TheVariants.{Sender, Receiver}
use Rattle.amqp_session_performatives.specs.declared.disposition.Disposition.{Disposition}
use Rattle.amqp_session_outgoing.specs.Range.{range_of}
use Rattle.amqp_session_outgoing.specs.Table.{Table}
use Rattle.amqp_session_outgoing.specs.Touched.{Touches}
use Rattle.amqp_session_outgoing.specs.Outside.{outside}
use Rattle.amqp_session_performatives.specs.declared.session_frame.SessionFrame.{SessionFrame}
use Rattle.amqp_session_performatives.specs.declared.session_frame.SessionFrameBody.TheVariants as body
use Rattle.amqp_session_core.specs.declared.fields.SessionFields.{SessionFields}
use Rattle.amqp_session_core.specs.Frames.{frame_of}
use Rattle.amqp_session_core.specs.Disposing.{Walked, settled_own}
use Rattle.amqp_session_core.specs.Echoes.{echo_of, opposite, runs_of, settled_by, without, Walks}
use Rattle.amqp_session_core.specs.Relay.{Relations}
use Rattle.amqp_session_core.specs.State.{State}
use Rattle.amqp_session_core.specs.Steps.{SendsDispositionStep, table_of, with_table}
use Rattle.amqp_session_core.specs.Told.{DispositionTaken, DispositionSent}
use Rattle.amqp_session_core.proofs.Settling.{ForgottenEach, forgotten-named}
use Rattle.amqp_session_core.proofs.Walking.{walks-numbers}

-- one more run goes back
pub echoes-next : (d : Disposition) (runs : List (ℕ × ℕ)) (i : ℕ) (old new : List Disposition) (echo : Disposition) → i < length runs
    → echo ≡ echo_of d (get_or runs i (0, 0)) → new ≡ old ++ echo ∷ [] → old ≡ map (echo_of d) (take i runs) → new ≡ map (echo_of d) (take (i + 1) runs)
echoes-next d runs i old new echo lt is pushed so_far =
    pushed
    ∙ ap (λ (xs : List Disposition). xs ++ echo ∷ []) so_far
    ∙ ap (λ (e : Disposition). map (echo_of d) (take i runs) ++ e ∷ []) is
    ∙ sym (map-append (echo_of d) (take i runs) (get_or runs i (0, 0) ∷ []))
    ∙ ap (λ (rs : List (ℕ × ℕ)). map (echo_of d) rs) (sym (take_more runs i (0, 0) lt))

-- all are settled, or those that are echoed
pub all-settled : (b : Bool) (numbers echoed settled : List ℕ) → b ≡ true → settled ≡ numbers → settled ≡ (if b then numbers else echoed)
all-settled b numbers echoed settled e is = is ∙ ap (λ (x : Bool). if x then numbers else echoed) (sym e)

pub echoed-settled : (b : Bool) (numbers echoed settled : List ℕ) → b ≡ false → settled ≡ echoed → settled ≡ (if b then numbers else echoed)
echoed-settled b numbers echoed settled e is = is ∙ ap (λ (x : Bool). if x then numbers else echoed) (sym e)

module _ {R : Type 0} where
  -- the links are apart from the deliveries
  table-apart : (role : Role) (s : State R) (links : List (Option R)) → table_of role (record s { links = links }) ≡ table_of role s
  table-apart Sender s links = refl
  table-apart Receiver s links = refl

  fields-apart : (role : Role) (table : Table) (s : State R) → (with_table role table s).fields ≡ s.fields
  fields-apart Sender table s = refl
  fields-apart Receiver table s = refl

  links-apart : (role : Role) (table : Table) (s : State R) → (with_table role table s).links ≡ s.links
  links-apart Sender table s = refl
  links-apart Receiver table s = refl

module _ {R A T D : Type 0} (gives : Relations R A T D) where
  -- the walk, what is forgotten behind it, and what goes back
  pub disposition-taken : (old mid new : State R) (d : Disposition) (numbers echoed settled : List ℕ) (echoes : List Disposition)
      → Touches (range_of d.first d.last) (table_of d.role old) numbers
      → Walked gives.disposes d (table_of d.role old) numbers old.links echoed mid.links
      → mid ≡ record old { links = mid.links }
      → settled ≡ (if d.settled then numbers else echoed)
      → new ≡ with_table d.role (without (table_of d.role mid) settled) mid
      → echoes ≡ map (echo_of d) (runs_of echoed)
      → DispositionTaken gives old d echoes new
  disposition-taken old mid new d numbers echoed settled echoes touched walk others settles left gone =
      let links : new.links ≡ mid.links = ap (λ (s : State R). s.links) left ∙ links-apart d.role (without (table_of d.role mid) settled) mid in
      let table : table_of d.role mid ≡ table_of d.role old = ap (λ (s : State R). table_of d.role s) others ∙ table-apart d.role old mid.links in
      record {
        walk = walk.walk;
        stepped = record {
          numbers = numbers;
          touched = touched;
          walked = subst (λ (x : List (Option R)). Walks gives.disposes d (table_of d.role old) numbers old.links walk.walk x) (sym links) walk.walked;
          echoes_are = gone ∙ ap (λ (xs : List ℕ). map (echo_of d) (runs_of xs)) walk.echoes_are;
          becomes =
              left
              ∙ ap (λ (s : State R). with_table d.role (without (table_of d.role mid) settled) s) (others ∙ ap (λ (x : List (Option R)). record old { links = x }) (sym links))
              ∙ ap (λ (t : Table). with_table d.role (without t settled) (record old { links = new.links })) table
              ∙ ap (λ (xs : List ℕ). with_table d.role (without (table_of d.role old) xs) (record old { links = new.links })) (settles ∙ by d.settled);
        };
      }
    where
      by : (b : Bool) → (if b then numbers else echoed) ≡ settled_by b walk.walk
      by true = sym (walks-numbers gives.disposes d (table_of d.role old) numbers old.links mid.links walk.walk walk.walked)
      by false = walk.echoes_are

  -- an own disposition was sent
  pub disposition-sent : (old new : State R) (d : Disposition) (frame : SessionFrame) → d.first < 2 ^ 32 → frame ≡ frame_of new.fields (body.Disposition d) → new ≡ settled_own d old
      → DispositionSent gives old d frame new
  disposition-sent old new d frame small says is = by d.settled refl
    where
      table : Table
      table = table_of (opposite d.role) old

      left : Bool → State R
      left b = if b then with_table (opposite d.role) (outside (range_of d.first d.last) table) old else old

      fields : (b : Bool) → (left b).fields ≡ old.fields
      fields true = fields-apart (opposite d.role) (outside (range_of d.first d.last) table) old
      fields false = refl

      said : frame ≡ frame_of old.fields (body.Disposition d)
      said = says ∙ ap (λ (f : SessionFields). frame_of f (body.Disposition d)) (ap (λ (s : State R). s.fields) is ∙ fields d.settled)

      by : (b : Bool) → d.settled ≡ b → DispositionSent gives old d frame new
      by false e =
          record {
            says = said;
            numbers = [];
            stepped = subst (λ (b : Bool). SendsDispositionStep gives b old d [] new) (sym e) (refl, is ∙ ap left e);
          }
      by true e =
          let each : ForgottenEach (range_of d.first d.last) table = forgotten-named d.first d.last table small in
          record {
            says = said;
            numbers = each.numbers;
            stepped =
                subst (λ (b : Bool). SendsDispositionStep gives b old d each.numbers new) (sym e)
                (each.touches, is ∙ ap left e ∙ ap (λ (t : Table). with_table (opposite d.role) t old) each.same);
          }
