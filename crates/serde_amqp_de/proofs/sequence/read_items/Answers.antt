use Rattle.std.proofs.Common.{arith, sym, ap, ◌∙◌, refl, subst, suc, ◌≡◌, ◌-◌, ◌+◌, ◌++◌, [], ◌∷◌, List, map, ℕ, Option, append-nil, append_assoc}
use Rattle.std.proofs.lemmas.Grind.{common_steps}
use Rattle.std.proofs.lemmas.List.{map-append}
use Rattle.serde_amqp_item.specs.Item.{Item}
use Rattle.serde_amqp_de.specs.Reads.{at_of, Took, Refuses, TookAll, RefusesAll}
use Rattle.serde_amqp_de.specs.Takes.{each_taken}
use Rattle.serde_amqp_de.proofs.Heads.{carried}
use Rattle.serde_amqp_de.proofs.Several.{none_taken, took_more, refuses_first, refuses_more}
use Rattle.serde_amqp_de.proofs.sequence.read_items.Goals as goal

pub returns-in_err-value-clause-refused : goal.returns-in_err-value-clause-refused
returns-in_err-value-clause-refused g c =
    let left : suc (c.args.count - (c.loop.counter + 1)) ≡ c.args.count - c.loop.counter = omega (arith, c.loop-test.true) in
    carried g.R.Read.faulty c.from_residual.result c.in_err-value.field-0.0 (Refuses g.T.Deserialize.take c.loop.de.element (at_of g.R.Read.rest c.loop.de)) (RefusesAll (each_taken g.T.Deserialize.take) c.args.count c.args.de.now.element (at_of g.R.Read.rest c.args.de.now)) c.from_residual.ensures.1
    (λ r. c.loop.invariant.refuses (subst (λ (n : ℕ). RefusesAll (each_taken g.T.Deserialize.take) n c.args.de.now.element (at_of g.R.Read.rest c.loop.de)) left
    (refuses_first g.T.Deserialize.take (c.args.count - (c.loop.counter + 1)) c.args.de.now.element (at_of g.R.Read.rest c.loop.de)
    (subst (λ (k : Option ℕ). Refuses g.T.Deserialize.take k (at_of g.R.Read.rest c.loop.de)) c.loop.invariant.element r))))
    c.in_err-value.ensures.refused

pub loop-preserved : goal.loop-preserved
loop-preserved g c =
    let left : suc (c.args.count - (c.loop.counter + 1)) ≡ c.args.count - c.loop.counter = omega (arith, c.loop-test.true) in
    let took : Took g.T.Deserialize.take c.args.de.now.element (at_of g.R.Read.rest c.loop.de) (at_of g.R.Read.rest c.read.new.de) (g.T.Deserialize.item c.in_ok-value.value) =
    subst (λ (k : Option ℕ). Took g.T.Deserialize.take k (at_of g.R.Read.rest c.loop.de) (at_of g.R.Read.rest c.read.new.de) (g.T.Deserialize.item c.in_ok-value.value)) c.loop.invariant.element c.in_ok-value.ensures.ok in
    let pushed : c.push.new.self.items ≡ c.loop.values.items ++ c.in_ok-value.value ∷ [] = grind (arith, common_steps) in
    let views : map g.T.Deserialize.item c.push.new.self.items ≡ map g.T.Deserialize.item c.loop.values.items ++ g.T.Deserialize.item c.in_ok-value.value ∷ [] =
    ap (λ xs. map g.T.Deserialize.item xs) pushed ∙ map-append g.T.Deserialize.item c.loop.values.items (c.in_ok-value.value ∷ []) in
    record {
      element = c.in_ok-value.ensures.element ∙ c.loop.invariant.element;
      took = λ end ys t.
          let all = c.loop.invariant.took end (g.T.Deserialize.item c.in_ok-value.value ∷ ys)
          (subst (λ (n : ℕ). TookAll (each_taken g.T.Deserialize.take) n c.args.de.now.element (at_of g.R.Read.rest c.loop.de) end (g.T.Deserialize.item c.in_ok-value.value ∷ ys)) left
          (took_more g.T.Deserialize.take (c.args.count - (c.loop.counter + 1)) c.args.de.now.element (at_of g.R.Read.rest c.loop.de) (at_of g.R.Read.rest c.read.new.de) end (g.T.Deserialize.item c.in_ok-value.value) ys took t)) in
          let shape : map g.T.Deserialize.item c.loop.values.items ++ (g.T.Deserialize.item c.in_ok-value.value ∷ ys) ≡ map g.T.Deserialize.item c.push.new.self.items ++ ys =
          sym (append_assoc (map g.T.Deserialize.item c.loop.values.items) (g.T.Deserialize.item c.in_ok-value.value ∷ []) ys) ∙ ap (λ (zs : List Item). zs ++ ys) (sym views) in
          subst (λ (zs : List Item). TookAll (each_taken g.T.Deserialize.take) c.args.count c.args.de.now.element (at_of g.R.Read.rest c.args.de.now) end zs) shape all;
      refuses = λ r. c.loop.invariant.refuses (subst (λ (n : ℕ). RefusesAll (each_taken g.T.Deserialize.take) n c.args.de.now.element (at_of g.R.Read.rest c.loop.de)) left
          (refuses_more g.T.Deserialize.take (c.args.count - (c.loop.counter + 1)) c.args.de.now.element (at_of g.R.Read.rest c.loop.de) (at_of g.R.Read.rest c.read.new.de) (g.T.Deserialize.item c.in_ok-value.value) took r));
    }

pub returns-clause-ok : goal.returns-clause-ok
returns-clause-ok g c =
    let none : 0 ≡ c.args.count - c.loop.counter = omega (arith, c.loop-test.false) in
    let all = c.loop.invariant.took (at_of g.R.Read.rest c.loop.de) []
    (subst (λ (n : ℕ). TookAll (each_taken g.T.Deserialize.take) n c.args.de.now.element (at_of g.R.Read.rest c.loop.de) (at_of g.R.Read.rest c.loop.de) []) none (none_taken (each_taken g.T.Deserialize.take) c.args.de.now.element (at_of g.R.Read.rest c.loop.de) [] refl)) in
    subst (λ (zs : List Item). TookAll (each_taken g.T.Deserialize.take) c.args.count c.args.de.now.element (at_of g.R.Read.rest c.args.de.now) (at_of g.R.Read.rest c.loop.de) zs) (append-nil (map g.T.Deserialize.item c.loop.values.items)) all
