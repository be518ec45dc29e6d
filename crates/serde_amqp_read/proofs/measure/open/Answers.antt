use Rattle.std.proofs.Common.{rules, ◌≡◌, Some}
use Rattle.serde_amqp_item.specs.Wire.{row_at, category_of}
use Rattle.serde_amqp_item.specs.declared.codes.Category.TheVariants.{Fixed, Variable}
use Rattle.serde_amqp_read.specs.Pending.{place_of, NoRow}
use Rattle.serde_amqp_read.proofs.Opened.{opens_fixed, opens_variable, no_variable_size, no_variable_content}
use Rattle.serde_amqp_read.proofs.Refusals.{carried, named_on}
use Rattle.serde_amqp_read.proofs.measure.open.Goals as goal

pub returns-in_err-size-in-Ok-Variable-clause-refused : goal.returns-in_err-size-in-Ok-Variable-clause-refused
returns-in_err-size-in-Ok-Variable-clause-refused g c =
    let r = row_at (Some c.args.code) in
    let old = place_of g.R.Read.rest g.R.Read.consumed g.R.Read.ending g.R.Read.ahead c.args.reader.now c.args.bytes.now.items in
    let cat : category_of r ≡ Some (Variable c.in-Ok-Variable.width) = search rules in
    carried g.R.Read.faulty c.from_residual-in_err-size-in-Ok-Variable.result c.in_err-size-in-Ok-Variable.field-0.0 _ (NoRow r old.rest) c.from_residual-in_err-size-in-Ok-Variable.ensures.1
    (λ short. no_variable_size r c.in-Ok-Variable.width old.rest cat short)
    c.in_err-size-in-Ok-Variable.ensures.refused

pub returns-in_err-take_content-in-Ok-Variable-clause-refused : goal.returns-in_err-take_content-in-Ok-Variable-clause-refused
returns-in_err-take_content-in-Ok-Variable-clause-refused g c =
    let r = row_at (Some c.args.code) in
    let old = place_of g.R.Read.rest g.R.Read.consumed g.R.Read.ending g.R.Read.ahead c.args.reader.now c.args.bytes.now.items in
    let cat : category_of r ≡ Some (Variable c.in-Ok-Variable.width) = search rules in
    let mid = place_of g.R.Read.rest g.R.Read.consumed g.R.Read.ending g.R.Read.ahead c.take_number.new.reader c.take_number.new.bytes.items in
    carried g.R.Read.faulty c.from_residual-in_err-take_content-in-Ok-Variable.result c.in_err-take_content-in-Ok-Variable.field-0.0 _ (NoRow r old.rest) c.from_residual-in_err-take_content-in-Ok-Variable.ensures.1
    (λ wrong. no_variable_content r old mid c.in-Ok-Variable.width c.in_ok-size-in-Ok-Variable.size cat c.in_ok-size-in-Ok-Variable.ensures.ok wrong)
    c.in_err-take_content-in-Ok-Variable.ensures.refused

pub returns-in_ok-take_content-in-Ok-Fixed-clause-ok : goal.returns-in_ok-take_content-in-Ok-Fixed-clause-ok
returns-in_ok-take_content-in-Ok-Fixed-clause-ok g c =
    let r = row_at (Some c.args.code) in
    let old = place_of g.R.Read.rest g.R.Read.consumed g.R.Read.ending g.R.Read.ahead c.args.reader.now c.args.bytes.now.items in
    let cat : category_of r ≡ Some (Fixed c.in-Ok-Fixed.width) = search rules in
    opens_fixed r old (place_of g.R.Read.rest g.R.Read.consumed g.R.Read.ending g.R.Read.ahead c.take_content.new.reader c.take_content.new.bytes.items) c.in-Ok-Fixed.width cat c.in_ok-take_content-in-Ok-Fixed.ensures.ok

pub returns-in_ok-take_content-in-Ok-Variable-clause-ok : goal.returns-in_ok-take_content-in-Ok-Variable-clause-ok
returns-in_ok-take_content-in-Ok-Variable-clause-ok g c =
    let r = row_at (Some c.args.code) in
    let old = place_of g.R.Read.rest g.R.Read.consumed g.R.Read.ending g.R.Read.ahead c.args.reader.now c.args.bytes.now.items in
    let cat : category_of r ≡ Some (Variable c.in-Ok-Variable.width) = search rules in
    let mid = place_of g.R.Read.rest g.R.Read.consumed g.R.Read.ending g.R.Read.ahead c.take_number.new.reader c.take_number.new.bytes.items in
    opens_variable r old mid (place_of g.R.Read.rest g.R.Read.consumed g.R.Read.ending g.R.Read.ahead c.take_content-in-Ok-Variable.new.reader c.take_content-in-Ok-Variable.new.bytes.items) c.in-Ok-Variable.width c.in_ok-size-in-Ok-Variable.size cat c.in_ok-size-in-Ok-Variable.ensures.ok c.in_ok-take_content-in-Ok-Variable.ensures.ok

pub returns-in_err-take_content-in-Ok-Variable-clause-named : goal.returns-in_err-take_content-in-Ok-Variable-clause-named
returns-in_err-take_content-in-Ok-Variable-clause-named g c =
    named_on c.from_residual-in_err-take_content-in-Ok-Variable.result c.in_err-take_content-in-Ok-Variable.field-0.0 (g.R.Read.ending c.args.reader.now) (g.R.Read.ending c.take_number.new.reader) c.from_residual-in_err-take_content-in-Ok-Variable.ensures.1
    c.in_ok-size-in-Ok-Variable.ensures.lasting c.in_err-take_content-in-Ok-Variable.ensures.named
