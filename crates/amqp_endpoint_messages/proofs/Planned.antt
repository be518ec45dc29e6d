-- The transfers that give deliveries up, as they are made ready one after the other.
use Rattle.std.proofs.Common.{◌≡◌, ℕ, ◌<◌, Bool, true, false, List, [], ◌∷◌, ◌++◌, length, refl, sym, ap, subst, ◌∙◌}
use Rattle.std.proofs.Common.{append-nil, append_assoc, arith}
use Rattle.std.specs.Prelude.{◌^◌, All, Some, None, map, if◌then◌else◌}
use Rattle.std.proofs.lemmas.List.Elements.{All-cons, All-nil}
use Rattle.amqp_session_types.specs.declared.handles.OutputHandle.{OutputHandle}
use Rattle.amqp_session_performatives.specs.declared.transfer.Transfer.{Transfer}
use Rattle.amqp_session_core.specs.Batch.{Transfers, first_of}
use Rattle.amqp_link_unsettled.specs.declared.exchanging.Abort.{Abort}
use Rattle.amqp_endpoint_messages.specs.GivingUp.{IsBare, abort_on, all_fit, batch_of, fitting, transfer_fits}
use Rattle.amqp_endpoint_messages.specs.MadeReady.{ArePlanned, IsPlanned}
use Rattle.amqp_endpoint_messages.proofs.AbortsFit.{each-fits}

-- the peer takes a frame for a delivery, whatever number that gets
pub taken : (limit : ℕ) (handle : OutputHandle) (abort : Abort) (first kept : Transfer) (batch : Transfers)
    (fits : Bool) → first ≡ abort_on handle abort → kept ≡ first → fits ≡ transfer_fits limit first → fits ≡ true
    → batch ≡ first_of kept [] ∷ [] → IsPlanned limit handle abort (Some batch)
taken limit handle abort first kept batch fits is same tested fit made = (
  made ∙ ap (λ (t : Transfer). let one : Transfers = first_of t [] ∷ [] in one) (same ∙ is),
  ap (λ (t : Transfer). transfer_fits limit t) (sym is) ∙ sym tested ∙ fit,
)

-- or takes none
pub not-taken : (limit : ℕ) (handle : OutputHandle) (abort : Abort) (first : Transfer) (fits : Bool)
    → first ≡ abort_on handle abort → fits ≡ transfer_fits limit first → fits ≡ false
    → IsPlanned limit handle abort None
not-taken limit handle abort first fits is tested fit =
    ap (λ (t : Transfer). transfer_fits limit t) (sym is) ∙ sym tested ∙ fit

module _ (limit : ℕ) (handle : OutputHandle) where
  abbrev batches_of : List Abort → List Transfers
  batches_of aborts = map (batch_of handle) (fitting limit handle aborts)

  -- none is to be given up
  pub planned-end : ArePlanned limit handle [] [] true
  planned-end = record {
    these = refl;
    whether = refl;
    fit = λ channel. All-nil _;
  }

  -- none is made ready yet
  pub none-yet : (whole : List Abort) (before : List Transfers) → before ≡ []
      → before ++ batches_of whole ≡ batches_of whole
  none-yet whole before none = ap (λ (l : List Transfers). l ++ batches_of whole) none

  -- one more is
  pub one-more : (whole rest others : List Abort) (abort : Abort) (before new : List Transfers) (batch : Transfers)
      → rest ≡ abort ∷ others → IsPlanned limit handle abort (Some batch) → new ≡ before ++ batch ∷ []
      → before ++ batches_of rest ≡ batches_of whole → all_fit limit handle rest ≡ all_fit limit handle whole
      → (new ++ batches_of others ≡ batches_of whole)
      × (all_fit limit handle others ≡ all_fit limit handle whole)
  one-more whole rest others abort before new batch is one added these whether =
      let goes : batches_of rest ≡ batch_of handle abort ∷ batches_of others =
      ap (λ (l : List Abort). batches_of l) is
      ∙ ap (λ (b : Bool). map (batch_of handle) (if b then abort ∷ fitting limit handle others else [])) one.1 in
      let same : all_fit limit handle rest ≡ all_fit limit handle others =
      ap (λ (l : List Abort). all_fit limit handle l) is
      ∙ ap (λ (b : Bool). if b then all_fit limit handle others else false) one.1 in (
        ap (λ (l : List Transfers). l ++ batches_of others) added
            ∙ append_assoc before (batch ∷ []) (batches_of others)
            ∙ ap (λ (us : Transfers). before ++ us ∷ batches_of others) one.0
            ∙ ap (λ (l : List Transfers). before ++ l) (sym goes)
            ∙ these,
        sym same ∙ whether,
      )

  -- those that were made ready, where none is left
  pub none-left : (whole rest : List Abort) (before : List Transfers) → limit < 2 ^ 32 → length rest ≡ 0
      → before ++ batches_of rest ≡ batches_of whole → all_fit limit handle rest ≡ all_fit limit handle whole
      → ArePlanned limit handle whole before true
  none-left whole [] before few none these whether = record {
    these = sym (append-nil before) ∙ these;
    whether = whether;
    fit = each-fits limit handle few whole;
  }
  none-left whole (abort ∷ rest) before few none these whether = absurd (omega (arith, none))

  -- and at the first that the peer takes no frame for
  pub none-more : (whole rest others : List Abort) (abort : Abort) (before : List Transfers) → limit < 2 ^ 32
      → rest ≡ abort ∷ others → IsPlanned limit handle abort None
      → before ++ batches_of rest ≡ batches_of whole → all_fit limit handle rest ≡ all_fit limit handle whole
      → ArePlanned limit handle whole before false
  none-more whole rest others abort before few is none these whether =
      let stops : batches_of rest ≡ [] =
      ap (λ (l : List Abort). batches_of l) is
      ∙ ap (λ (b : Bool). map (batch_of handle) (if b then abort ∷ fitting limit handle others else [])) none in
      let not : all_fit limit handle rest ≡ false =
      ap (λ (l : List Abort). all_fit limit handle l) is
      ∙ ap (λ (b : Bool). if b then all_fit limit handle others else false) none in
      record {
        these = sym (append-nil before) ∙ ap (λ (l : List Transfers). before ++ l) (sym stops) ∙ these;
        whether = sym not ∙ whether;
        fit = each-fits limit handle few whole;
      }

-- each is one transfer
each-bare : (handle : OutputHandle) (aborts : List Abort) → All IsBare (map (batch_of handle) aborts)
each-bare handle [] = All-nil IsBare
each-bare handle (abort ∷ aborts) =
    All-cons IsBare (batch_of handle abort) (map (batch_of handle) aborts)
    (record { transfer = abort_on handle abort; tagged = refl; alone = refl }) (each-bare handle aborts)

pub all-bare : (limit : ℕ) (handle : OutputHandle) (aborts : List Abort) (batches : List Transfers) (fit : Bool)
    → ArePlanned limit handle aborts batches fit → All IsBare batches
all-bare limit handle aborts batches fit planned =
    subst (λ (l : List Transfers). All IsBare l) (sym planned.these) (each-bare handle (fitting limit handle aborts))
