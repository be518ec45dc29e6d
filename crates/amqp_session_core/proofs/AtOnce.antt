-- A session that takes a transfer at once answers it as it does any.
use Rattle.std.proofs.Common.{◌≡◌, ℕ, ◌+◌, ◌*◌, Bool, true, false, List, [], ◌∷◌, Option, Some, None, Ok, refl, sym, ◌∙◌, ap, subst, slice_index_or, slice_set, if◌then◌else◌, suc, zero}
use Rattle.std.specs.Prelude.{nat_le}
use Rattle.std.specs.FinMap as map
use Rattle.amqp_session_performatives.specs.declared.transfer.Transfer.{Transfer}
use Rattle.amqp_session_performatives.specs.declared.session_frame.SessionFrame.{SessionFrame}
use Rattle.amqp_session_core.specs.declared.at_once.TakenAtOnce.{TakenAtOnce}
use Rattle.amqp_session_core.specs.declared.fields.SessionFields.{SessionFields}
use Rattle.amqp_session_core.specs.declared.relay.TransferAnswer.{TransferAnswer}
use Rattle.amqp_session_core.specs.AtOnce.{LinkTakesAtOnce, answer_of, is_settled, registration_of}
use Rattle.amqp_session_core.specs.Frames.{session_flow}
use Rattle.amqp_session_core.specs.Relay.{Relations}
use Rattle.amqp_session_core.specs.State.{State, live_in}
use Rattle.amqp_session_core.specs.Steps.{Counts, next_behind, registers}
use Rattle.amqp_session_core.specs.Told.{TransferAt}
use Rattle.amqp_session_core.specs.ToldAtOnce.{NamesUnless, TakesMessage, due_flow}

-- a slot that has a link is written twice, and the last link stays
set-over : {R : Type 0} (ls : List (Option R)) (h : ℕ) (a b : Option R)
    → slice_set (slice_set ls h a) h b ≡ slice_set ls h b
set-over [] h a b = refl
set-over (x ∷ ls) zero a b = refl
set-over (x ∷ ls) (suc h) a b = ap (λ (l : List (Option _)). x ∷ l) (set-over ls h a b)

set-there : {R : Type 0} (ls : List (Option R)) (h : ℕ) (before after : R) → slice_index_or ls h None ≡ Some before
    → slice_index_or (slice_set ls h (Some after)) h None ≡ Some after
set-there [] h before after has = absurd cc
set-there (x ∷ ls) zero before after has = refl
set-there (x ∷ ls) (suc h) before after has = set-there ls h before after has

module _ {R A T D : Type 0} (gives : Relations R A T D) (tells : Transfer → List ℕ → T) (names : R → Transfer → ℕ → R)
  where
    named-by : (b : Bool) (links : List (Option R)) (n : State R) (h : ℕ) (before after mid : R) (t : Transfer)
        (message : ℕ)
        → slice_index_or links h None ≡ Some before
        → n.links ≡ slice_set links h (Some after)
        → after ≡ (if b then mid else names mid t message)
        → NamesUnless gives tells names b h mid t message (record n { links = slice_set links h (Some mid) }) n
    named-by true links n h before after mid t message had others is =
        ap (λ (ls : List (Option R)). record n { links = ls })
        (others ∙ ap (λ (r : R). slice_set links h (Some r)) is)
    named-by false links n h before after mid t message had others is = (
      set-there links h before mid had,
      ap (λ (ls : List (Option R)). record n { links = ls })
          (others ∙ ap (λ (r : R). slice_set links h (Some r)) is
          ∙ sym (set-over links h (Some mid) (Some (names mid t message)))),
    )

    pub taken_by_session : (s n : State R) (t : Transfer) (payload : List ℕ) (message : ℕ) (taken : TakenAtOnce)
        → live_in s.links (map.get s.routes (t.handle).0) ≡ Some (taken.handle).0
        → LinkTakesAtOnce gives.transfers tells names (taken.handle).0 s.links t payload message true n.links
        → n.fields ≡ record s.fields { next_incoming_id = next_behind (s.fields).next_incoming_id }
        → taken.is_due ≡ nat_le (s.fields).incoming_window (2 * (s.taken + 1))
        → n.taken ≡ (if taken.is_due then 0 else s.taken + 1)
        → n ≡ record s {
          fields = n.fields;
          taken = n.taken;
          links = n.links;
          received = registers s.received (taken.handle).0 (registration_of t);
        }
        → TakesMessage gives tells names s t payload message taken n
    taken_by_session s n t payload message taken found step next due counted becomes =
        let h : ℕ = (taken.handle).0 in
        let took = step.stepped in
        let mid : State R = record n { links = slice_set s.links h (Some took.mid) } in
        let answer : TransferAnswer T = answer_of t (tells t payload) in
        let flow : Option SessionFrame = due_flow n taken.is_due in
        let waits : n.outgoing ≡ s.outgoing = ap (λ (x : State R). x.outgoing) becomes in
        let outgoing : (n.outgoing).next_outgoing_id ≡ (s.outgoing).next_outgoing_id =
        ap (λ (x : State R). (x.outgoing).next_outgoing_id) becomes in
        let counts : Counts s flow mid.fields mid.taken =
        record {
          next = next;
          told = ap (λ (k : ℕ). if taken.is_due then Some (session_flow n.fields k) else None) outgoing
              ∙ ap (λ (b : Bool). if b then Some (session_flow n.fields (s.outgoing).next_outgoing_id) else None) due;
          counted = counted ∙ ap (λ (b : Bool). if b then 0 else s.taken + 1) due;
        } in
        record {
          number = took.number;
          tag = took.tag;
          reaches = found;
          mid = mid;
          answered =
              subst (λ o. TransferAt gives s t payload o (Ok (record { told = tells t payload; flow = flow })) mid)
              (sym found)
              (record {
                answer = answer;
                told = refl;
                stepped = (
                  found,
                  record { before = step.before; after = took.mid; had = step.had; stepped = took.taken; others = refl },
                  counts,
                  ap (λ (x : State R). record x { links = slice_set s.links h (Some took.mid) }) becomes,
                );
              });
          link = took.mid;
          there = set-there s.links h step.before took.mid step.had;
          named = named-by (is_settled t) s.links n h step.before step.after took.mid t message step.had step.others
              took.named;
          stands = ap (λ (ls : List (Option R)). slice_index_or ls h None) step.others
              ∙ set-there s.links h step.before step.after step.had ∙ ap (λ (r : R). Some r) took.named;
          channel = ap (λ (f : SessionFields). f.channel) next;
          waits = waits;
        }
