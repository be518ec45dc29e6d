use Rattle.std.proofs.Common.{◌≡◌, ℕ, List, ◌∷◌, [], ◌++◌, Err, refl}
use Rattle.std.proofs.lemmas.Result.{err_from_is_err_and}
use Rattle.serde_amqp_item.specs.Item.{Item, scalar, symbol}
use Rattle.serde_amqp_ser.specs.Puts.{State, state_of}
use Rattle.serde_amqp_ser.specs.Content.{Holds}
use Rattle.serde_amqp_ser.specs.Composite.{HoldsFields, values}
use Rattle.serde_amqp_ser.specs.declared.content.Content.{Content}
use Rattle.serde_amqp_ser.specs.declared.opened.Opened.{Opened}
use Rattle.serde_amqp_ser.specs.declared.struct_serializer.StructEncoding.{StructEncoding}
use Rattle.serde_amqp_ser.specs.declared.struct_serializer.StructEncoding.TheVariants as encoding
use Rattle.serde_amqp_ser.proofs.Composed.{value_refuses, named_more, holds_value}
use Rattle.serde_amqp_ser.proofs.struct_serializer.StructSerializer.serialize_field.Goals as goal

pub returns-in_err-self-in_default-clause-refused : goal.returns-in_err-self-in_default-clause-refused
returns-in_err-self-in_default-clause-refused g c = λ s code fields others h.
    let p = err_from_is_err_and c.from_residual-in_err-self-in_default.result c.from_residual-in_err-self-in_default.ensures.1 in
    rw (p.1, p.2) (value_refuses {X = Unit {0}} (Err c.in_err-self-in_default.field-0.0) g.W.Sink.begins s c.args.self.now.encoding code fields others (scalar (symbol c.args.key.now)) (g.T.Serialize.item c.args.value.now) c.args.self.now.outer c.args.self.now.content (state_of g.W.Sink.written c.args.self.now.serializer.now) c.in_default.not-DescribedMap h
    (λ d xs i. c.in_err-self-in_default.ensures.refused d xs i))

pub returns-in_ok-self-in-DescribedMap-clause-ok : goal.returns-in_ok-self-in-DescribedMap-clause-ok
returns-in_ok-self-in-DescribedMap-clause-ok g c = λ s code fields h.
    named_more g.W.Sink.begins s c.args.self.now.encoding code fields (scalar (symbol c.args.key.now)) (g.T.Serialize.item c.args.value.now) c.args.self.now.outer c.args.self.now.content c.in_ok-self-in-DescribedMap.field-0 (state_of g.W.Sink.written c.args.self.now.serializer.now) (state_of g.W.Sink.written c.put_entry.new.self) c.in-DescribedMap.is h
    (λ d i. c.in_ok-self-in-DescribedMap.ensures.ok d fields i)

-- a field more of a struct that is a list
value_more : (begins : ℕ → ℕ) (s : State) (e : StructEncoding) (code : ℕ) (fields : List (Item × Item)) (n x : Item) (u : Opened) (c v : Content) (now then : State) → (e ≡ encoding.DescribedMap → ⊥) → HoldsFields begins s e code fields u c now → ((d : State) → Holds begins d (values fields) c now → Holds begins d (values fields ++ x ∷ []) v then) → HoldsFields begins s e code (fields ++ (n, x) ∷ []) u v then
value_more begins s encoding.None code fields n x u c v now then d h f = record { mark = h.mark; start = h.start; begun = h.begun; items = holds_value begins h.start fields n x v then (f h.start h.items) }
value_more begins s encoding.DescribedList code fields n x u c v now then d h f = record { mark = h.mark; start = h.start; begun = h.begun; items = holds_value begins h.start fields n x v then (f h.start h.items) }
value_more begins s encoding.DescribedMap code fields n x u c v now then d h f = absurd (d refl)
value_more begins s encoding.DescribedBasic code fields n x u c v now then d h f = absurd h.begun

pub returns-in_ok-self-in_default-clause-ok : goal.returns-in_ok-self-in_default-clause-ok
returns-in_ok-self-in_default-clause-ok g c = λ s code fields h.
    value_more g.W.Sink.begins s c.args.self.now.encoding code fields (scalar (symbol c.args.key.now)) (g.T.Serialize.item c.args.value.now) c.args.self.now.outer c.args.self.now.content c.in_ok-self-in_default.field-0 (state_of g.W.Sink.written c.args.self.now.serializer.now) (state_of g.W.Sink.written c.put_item.new.self) c.in_default.not-DescribedMap h
    (λ d i. c.in_ok-self-in_default.ensures.ok d (values fields) i)
