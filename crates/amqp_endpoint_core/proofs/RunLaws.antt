-- Laws of runs, for a loop over calls.
use Rattle.std.proofs.Common.{◌≡◌, ◌<◌, ◌≤◌, ℕ, ◌+◌, List, [], ◌∷◌, ◌++◌, length, refl, sym, ◌∙◌, ap, subst, take, get_or, map}
use Rattle.std.proofs.lemmas.List.{take_more, take_all}
use Rattle.amqp_endpoint_model.specs.declared.call.Call.{Call}
use Rattle.amqp_endpoint_model.specs.declared.answer.Reply.{Reply}
use Rattle.amqp_endpoint_model.specs.Relay.{Relations}
use Rattle.amqp_endpoint_model.specs.State.{State}
use Rattle.amqp_endpoint_model.specs.Said.{Told, told, said}
use Rattle.amqp_endpoint_model.specs.Step.{Step}
use Rattle.amqp_endpoint_model.specs.History.{Run}

module _ {S : Type 0} (does : Relations S) where
  -- one more call
  pub Run-more : (old : State S) (calls : List Call) (ts : List Told) (mid : State S) (call : Call) (t : Told)
      (new : State S)
      → Run does old calls ts mid → Step does mid call t.answer new → t.queued ≡ length new.queue
      → Run does old (calls ++ call ∷ []) (ts ++ t ∷ []) new
  Run-more old [] [] mid call t new same s q =
      (new, (let P : State S → Type 0 = λ w. Step does w call t.answer new in subst P same s), q, refl)
  Run-more old [] (r ∷ rs) mid call t new run s q = absurd run
  Run-more old (c ∷ calls) [] mid call t new run s q = absurd run
  Run-more old (c ∷ calls) (r ∷ ts) mid call t new (next, one, told, rest) s q =
      (next, one, told, Run-more next calls ts mid call t new rest s q)

map-append : (xs : List Reply) (x : Reply) → map told (xs ++ x ∷ []) ≡ map told xs ++ told x ∷ []
map-append [] x = refl
map-append (y ∷ ys) x = ap (λ zs. told y ∷ zs) (map-append ys x)

module _ {S : Type 0} (does : Relations S) where
  -- the next call of a list
  pub Run-next : (start : State S) (calls : List Call) (i : ℕ) (call : Call) (before after : List Reply)
      (reply : Reply) (mid new : State S)
      → i < length calls → call ≡ get_or calls i call → after ≡ before ++ reply ∷ []
      → Run does start (take i calls) (map told before) mid → Step does mid call (said reply.answer) new
      → reply.queued ≡ length new.queue → Run does start (take (i + 1) calls) (map told after) new
  Run-next start calls i call before after reply mid new lt is more run s q =
      let e : take (i + 1) calls ≡ take i calls ++ call ∷ [] =
      take_more calls i call lt ∙ ap (λ (x : Call). take i calls ++ x ∷ []) (sym is) in
      let P : List Call → Type 0 = λ cs. Run does start cs (map told after) new in
      let Q : List Told → Type 0 = λ ts. Run does start (take i calls ++ call ∷ []) ts new in
      subst P (sym e)
      (subst Q (sym (ap (map told) more ∙ map-append before reply))
      (Run-more does start (take i calls) (map told before) mid call (told reply) new run s q))

  -- all calls of a list
  pub Run-whole : (start s : State S) (calls : List Call) (i : ℕ) (ts : List Told) (end : State S) → start ≡ s
      → length calls ≤ i
      → Run does start (take i calls) ts end → Run does s calls ts end
  Run-whole start s calls i ts end is all run =
      let P : State S → Type 0 = λ x. Run does x calls ts end in
      let Q : List Call → Type 0 = λ cs. Run does start cs ts end in
      subst P is (subst Q (take_all i calls all) run)
