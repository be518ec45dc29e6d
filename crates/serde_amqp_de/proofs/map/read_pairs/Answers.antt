use Rattle.std.proofs.Common.{arith, sym, ap, ◌∙◌, subst, suc, ◌≡◌, ◌-◌, ◌+◌, ◌++◌, [], ◌∷◌, List, ℕ, Option, None, append-nil, append_assoc}
use Rattle.std.proofs.lemmas.List.{map-append}
use Rattle.serde_amqp_item.specs.Item.{Item}
use Rattle.serde_amqp_de.specs.Reads.{at_of, Took, Refuses}
use Rattle.serde_amqp_item.specs.Entries.{pair_items}
use Rattle.serde_amqp_de.specs.Maps.{TookPairs, RefusesPairs}
use Rattle.serde_amqp_de.proofs.Heads.{carried}
use Rattle.serde_amqp_de.proofs.Pairs.{no_pair_taken, took_pair, refuses_key, refuses_value, refuses_pairs}
use Rattle.serde_amqp_de.proofs.map.read_pairs.Goals as goal

pub returns-in_err-key-clause-refused : goal.returns-in_err-key-clause-refused
returns-in_err-key-clause-refused g c =
    let key = g.K.Deserialize.take in
    let value = g.V.Deserialize.take in
    let left : suc (c.args.count - (c.loop.counter + 1)) ≡ c.args.count - c.loop.counter = omega (arith, c.loop-test.true) in
    carried g.R.Read.faulty c.from_residual.result c.in_err-key.field-0.0 (Refuses key c.loop.de.element (at_of g.R.Read.rest c.loop.de)) (RefusesPairs key value c.args.count (at_of g.R.Read.rest c.args.de.now)) c.from_residual.ensures.1
    (λ r. c.loop.invariant.refuses (subst (λ (n : ℕ). RefusesPairs key value n (at_of g.R.Read.rest c.loop.de)) left
    (refuses_key key value (c.args.count - (c.loop.counter + 1)) (at_of g.R.Read.rest c.loop.de)
    (subst (λ (k : Option ℕ). Refuses key k (at_of g.R.Read.rest c.loop.de)) c.loop.invariant.element r))))
    c.in_err-key.ensures.refused

pub returns-in_err-value-clause-refused : goal.returns-in_err-value-clause-refused
returns-in_err-value-clause-refused g c =
    let key = g.K.Deserialize.take in
    let value = g.V.Deserialize.take in
    let left : suc (c.args.count - (c.loop.counter + 1)) ≡ c.args.count - c.loop.counter = omega (arith, c.loop-test.true) in
    let took : Took key None (at_of g.R.Read.rest c.loop.de) (at_of g.R.Read.rest c.read.new.de) (g.K.Deserialize.item c.in_ok-key.key) =
    subst (λ (k : Option ℕ). Took key k (at_of g.R.Read.rest c.loop.de) (at_of g.R.Read.rest c.read.new.de) (g.K.Deserialize.item c.in_ok-key.key)) c.loop.invariant.element c.in_ok-key.ensures.ok in
    carried g.R.Read.faulty c.from_residual-in_err-value.result c.in_err-value.field-0.0 (Refuses value c.read.new.de.element (at_of g.R.Read.rest c.read.new.de)) (RefusesPairs key value c.args.count (at_of g.R.Read.rest c.args.de.now)) c.from_residual-in_err-value.ensures.1
    (λ r. c.loop.invariant.refuses (subst (λ (n : ℕ). RefusesPairs key value n (at_of g.R.Read.rest c.loop.de)) left
    (refuses_value key value (c.args.count - (c.loop.counter + 1)) (at_of g.R.Read.rest c.loop.de) (at_of g.R.Read.rest c.read.new.de) (g.K.Deserialize.item c.in_ok-key.key) took
    (subst (λ (k : Option ℕ). Refuses value k (at_of g.R.Read.rest c.read.new.de)) (c.in_ok-key.ensures.element ∙ c.loop.invariant.element) r))))
    c.in_err-value.ensures.refused

pub loop-preserved : goal.loop-preserved
loop-preserved g c =
    let key = g.K.Deserialize.take in
    let value = g.V.Deserialize.take in
    let x = g.K.Deserialize.item c.in_ok-key.key in
    let y = g.V.Deserialize.item c.in_ok-value.value in
    let left : suc (c.args.count - (c.loop.counter + 1)) ≡ c.args.count - c.loop.counter = omega (arith, c.loop-test.true) in
    let first : Took key None (at_of g.R.Read.rest c.loop.de) (at_of g.R.Read.rest c.read.new.de) x =
    subst (λ (k : Option ℕ). Took key k (at_of g.R.Read.rest c.loop.de) (at_of g.R.Read.rest c.read.new.de) x) c.loop.invariant.element c.in_ok-key.ensures.ok in
    let second : Took value None (at_of g.R.Read.rest c.read.new.de) (at_of g.R.Read.rest c.read-in-loop.new.de) y =
    subst (λ (k : Option ℕ). Took value k (at_of g.R.Read.rest c.read.new.de) (at_of g.R.Read.rest c.read-in-loop.new.de) y) (c.in_ok-key.ensures.element ∙ c.loop.invariant.element) c.in_ok-value.ensures.ok in
    let shown : pair_items g.K.Deserialize.item g.V.Deserialize.item c.push.new.self.items ≡ pair_items g.K.Deserialize.item g.V.Deserialize.item c.loop.pairs.items ++ (x, y) ∷ [] =
    ap (λ ps. pair_items g.K.Deserialize.item g.V.Deserialize.item ps) c.in_ok-push.ensures.items ∙ map-append (λ p. (g.K.Deserialize.item p.0, g.V.Deserialize.item p.1)) c.loop.pairs.items ((c.in_ok-key.key, c.in_ok-value.value) ∷ []) in
    record {
      element = c.in_ok-value.ensures.element ∙ (c.in_ok-key.ensures.element ∙ c.loop.invariant.element);
      took = λ end ys t.
          let all = c.loop.invariant.took end ((x, y) ∷ ys)
          (subst (λ (n : ℕ). TookPairs key value n (at_of g.R.Read.rest c.loop.de) end ((x, y) ∷ ys)) left
          (took_pair key value (c.args.count - (c.loop.counter + 1)) (at_of g.R.Read.rest c.loop.de) (at_of g.R.Read.rest c.read.new.de) (at_of g.R.Read.rest c.read-in-loop.new.de) end x y ys first second t)) in
          let shape : pair_items g.K.Deserialize.item g.V.Deserialize.item c.loop.pairs.items ++ ((x, y) ∷ ys) ≡ pair_items g.K.Deserialize.item g.V.Deserialize.item c.push.new.self.items ++ ys =
          sym (append_assoc (pair_items g.K.Deserialize.item g.V.Deserialize.item c.loop.pairs.items) ((x, y) ∷ []) ys) ∙ ap (λ (zs : List (Item × Item)). zs ++ ys) (sym shown) in
          subst (λ (zs : List (Item × Item)). TookPairs key value c.args.count (at_of g.R.Read.rest c.args.de.now) end zs) shape all;
      refuses = λ r. c.loop.invariant.refuses (subst (λ (n : ℕ). RefusesPairs key value n (at_of g.R.Read.rest c.loop.de)) left
          (refuses_pairs key value (c.args.count - (c.loop.counter + 1)) (at_of g.R.Read.rest c.loop.de) (at_of g.R.Read.rest c.read.new.de) (at_of g.R.Read.rest c.read-in-loop.new.de) x y first second r));
    }

pub returns-clause-ok : goal.returns-clause-ok
returns-clause-ok g c =
    let key = g.K.Deserialize.take in
    let value = g.V.Deserialize.take in
    let none : 0 ≡ c.args.count - c.loop.counter = omega (arith, c.loop-test.false) in
    let all = c.loop.invariant.took (at_of g.R.Read.rest c.loop.de) []
    (subst (λ (n : ℕ). TookPairs key value n (at_of g.R.Read.rest c.loop.de) (at_of g.R.Read.rest c.loop.de) []) none (no_pair_taken key value (at_of g.R.Read.rest c.loop.de))) in
    subst (λ (zs : List (Item × Item)). TookPairs key value c.args.count (at_of g.R.Read.rest c.args.de.now) (at_of g.R.Read.rest c.loop.de) zs) (append-nil (pair_items g.K.Deserialize.item g.V.Deserialize.item c.loop.pairs.items)) all
