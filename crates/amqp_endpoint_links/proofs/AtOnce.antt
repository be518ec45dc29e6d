-- A link with its number takes a transfer at once as the link does.
use Rattle.std.proofs.Common.{◌≡◌, ◌∙◌, ℕ, Bool, true, false, List, ap, refl}
use Rattle.std.specs.Prelude.{if◌then◌else◌}
use Rattle.amqp_session_performatives.specs.declared.transfer.Transfer.{Transfer}
use Rattle.amqp_session_core.specs.AtOnce.{TakesMessage, is_settled}
use Rattle.amqp_session_core.specs.Relay.{Relations}
use Rattle.amqp_endpoint_links.specs.declared.numbered.Numbered.{Numbered}
use Rattle.amqp_endpoint_links.specs.Numbering.{naming, numbered}

module _ {R A T D : Type 0} (gives : Relations R A T D) (tells : Transfer → List ℕ → T) (names : R → Transfer → ℕ → R)
  where
    either : (b : Bool) (n : Numbered R) (x y : R)
        → record n { link = (if b then x else y) } ≡ (if b then record n { link = x } else record n { link = y })
    either true n x y = refl
    either false n x y = refl

    pub taken_with_number : (old new : Numbered R) (t : Transfer) (payload : List ℕ) (message : ℕ)
        → TakesMessage gives.transfers tells names old.link t payload message new.link
        → new ≡ record old { link = new.link }
        → TakesMessage (numbered gives).transfers tells (naming names) old t payload message new
    taken_with_number old new t payload message done is =
        record {
          number = done.number;
          tag = done.tag;
          mid = record old { link = done.mid };
          taken = (done.taken, refl);
          named =
              is ∙ ap (λ (r : R). record old { link = r }) done.named
              ∙ either (is_settled t) old done.mid (names done.mid t message);
        }
