use Rattle.std.proofs.Common.{rules, ◌≡◌, ◌∙◌, ◌+◌, subst, length, ℕ, Some}
use Rattle.serde_amqp_item.specs.Wire.{row_at}
use Rattle.serde_amqp_read.specs.Pending.{place_of, Opens, NoRow}
use Rattle.serde_amqp_read.proofs.Opened.{frame}
use Rattle.serde_amqp_read.proofs.Arrayed.{opens_bare, opens_array, no_array_size, no_array_count, no_array_byte, no_array_element}
use Rattle.serde_amqp_read.proofs.Refusals.{carried, named_on}
use Rattle.serde_amqp_read.proofs.measure.open_array.Goals as goal

pub returns-in_err-size-clause-refused : goal.returns-in_err-size-clause-refused
returns-in_err-size-clause-refused g c =
    let r = row_at (Some c.args.code) in
    let old = place_of g.R.Read.rest g.R.Read.consumed g.R.Read.ending g.R.Read.ahead c.args.reader.now c.args.bytes.now.items in
    carried g.R.Read.faulty c.from_residual.result c.in_err-size.field-0.0 _ (NoRow r old.rest) c.from_residual.ensures.1
    (λ short. no_array_size r c.args.width old.rest c.requires short)
    c.in_err-size.ensures.refused

pub returns-in_err-count-clause-refused : goal.returns-in_err-count-clause-refused
returns-in_err-count-clause-refused g c =
    let r = row_at (Some c.args.code) in
    let old = place_of g.R.Read.rest g.R.Read.consumed g.R.Read.ending g.R.Read.ahead c.args.reader.now c.args.bytes.now.items in
    let mid = place_of g.R.Read.rest g.R.Read.consumed g.R.Read.ending g.R.Read.ahead c.take_number.new.reader c.take_number.new.bytes.items in
    carried g.R.Read.faulty c.from_residual-in_err-count.result c.in_err-count.field-0.0 _ (NoRow r old.rest) c.from_residual-in_err-count.ensures.1
    (λ short. no_array_count r old mid c.args.width c.in_ok-size.size c.requires c.in_ok-size.ensures.ok short)
    c.in_err-count.ensures.refused

pub returns-then-is_bare-clause-ok : goal.returns-then-is_bare-clause-ok
returns-then-is_bare-clause-ok g c =
    let r = row_at (Some c.args.code) in
    let old = place_of g.R.Read.rest g.R.Read.consumed g.R.Read.ending g.R.Read.ahead c.args.reader.now c.args.bytes.now.items in
    let mid = place_of g.R.Read.rest g.R.Read.consumed g.R.Read.ending g.R.Read.ahead c.take_number.new.reader c.take_number.new.bytes.items in
    let last = place_of g.R.Read.rest g.R.Read.consumed g.R.Read.ending g.R.Read.ahead c.take_number-2.new.reader c.take_number-2.new.bytes.items in
    opens_bare r old mid last c.args.width c.in_ok-size.size c.in_ok-count.count c.requires c.in_ok-size.ensures.ok c.in_ok-count.ensures.ok (c.is_bare.ensures.bare c.if-is_bare.true)

pub returns-in_err-element-clause-refused : goal.returns-in_err-element-clause-refused
returns-in_err-element-clause-refused g c =
    let r = row_at (Some c.args.code) in
    let old = place_of g.R.Read.rest g.R.Read.consumed g.R.Read.ending g.R.Read.ahead c.args.reader.now c.args.bytes.now.items in
    let mid = place_of g.R.Read.rest g.R.Read.consumed g.R.Read.ending g.R.Read.ahead c.take_number.new.reader c.take_number.new.bytes.items in
    let last = place_of g.R.Read.rest g.R.Read.consumed g.R.Read.ending g.R.Read.ahead c.take_number-2.new.reader c.take_number-2.new.bytes.items in
    carried g.R.Read.faulty c.from_residual-in_err-element.result c.in_err-element.field-0.0 _ (NoRow r old.rest) c.from_residual-in_err-element.ensures.1
    (λ empty. no_array_byte r old mid last c.args.width c.in_ok-size.size c.in_ok-count.count c.requires c.in_ok-size.ensures.ok c.in_ok-count.ensures.ok (c.is_bare.ensures.filled c.if-is_bare.false) empty)
    c.in_err-element.ensures.end

pub returns-then-not-is_element_code-clause-refused : goal.returns-then-not-is_element_code-clause-refused
returns-then-not-is_element_code-clause-refused g c =
    let r = row_at (Some c.args.code) in
    let old = place_of g.R.Read.rest g.R.Read.consumed g.R.Read.ending g.R.Read.ahead c.args.reader.now c.args.bytes.now.items in
    let mid = place_of g.R.Read.rest g.R.Read.consumed g.R.Read.ending g.R.Read.ahead c.take_number.new.reader c.take_number.new.bytes.items in
    let last = place_of g.R.Read.rest g.R.Read.consumed g.R.Read.ending g.R.Read.ahead c.take_number-2.new.reader c.take_number-2.new.bytes.items in
    let new = place_of g.R.Read.rest g.R.Read.consumed g.R.Read.ending g.R.Read.ahead c.take_byte.new.reader c.take_byte.new.bytes.items in
    no_array_element r old mid last new c.args.width c.in_ok-size.size c.in_ok-count.count c.in_ok-element.element c.requires c.in_ok-size.ensures.ok c.in_ok-count.ensures.ok c.in_ok-element.ensures.ok (search rules) (c.is_bare.ensures.filled c.if-is_bare.false)

pub returns-clause-ok : goal.returns-clause-ok
returns-clause-ok g c =
    let r = row_at (Some c.args.code) in
    let old = place_of g.R.Read.rest g.R.Read.consumed g.R.Read.ending g.R.Read.ahead c.args.reader.now c.args.bytes.now.items in
    let mid = place_of g.R.Read.rest g.R.Read.consumed g.R.Read.ending g.R.Read.ahead c.take_number.new.reader c.take_number.new.bytes.items in
    let last = place_of g.R.Read.rest g.R.Read.consumed g.R.Read.ending g.R.Read.ahead c.take_number-2.new.reader c.take_number-2.new.bytes.items in
    let new = place_of g.R.Read.rest g.R.Read.consumed g.R.Read.ending g.R.Read.ahead c.take_byte.new.reader c.take_byte.new.bytes.items in
    let end : length mid.taken + c.in_ok-size.size ≡ c.in-Some.end = search rules in
    subst (λ (e : ℕ). Opens r old new (frame c.in_ok-count.count (Some c.in_ok-element.element) (Some e))) end
    (opens_array r old mid last new c.args.width c.in_ok-size.size c.in_ok-count.count c.in_ok-element.element c.requires c.in_ok-size.ensures.ok c.in_ok-count.ensures.ok c.in_ok-element.ensures.ok (search rules) (c.is_bare.ensures.filled c.if-is_bare.false))

pub returns-in_err-count-clause-named : goal.returns-in_err-count-clause-named
returns-in_err-count-clause-named g c =
    named_on c.from_residual-in_err-count.result c.in_err-count.field-0.0 (g.R.Read.ending c.args.reader.now) (g.R.Read.ending c.take_number.new.reader) c.from_residual-in_err-count.ensures.1
    c.in_ok-size.ensures.lasting c.in_err-count.ensures.named

pub returns-in_err-element-clause-named : goal.returns-in_err-element-clause-named
returns-in_err-element-clause-named g c =
    named_on c.from_residual-in_err-element.result c.in_err-element.field-0.0 (g.R.Read.ending c.args.reader.now) (g.R.Read.ending c.take_number-2.new.reader) c.from_residual-in_err-element.ensures.1
    (c.in_ok-count.ensures.lasting ∙ c.in_ok-size.ensures.lasting) c.in_err-element.ensures.named
