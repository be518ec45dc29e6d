use Rattle.std.proofs.Common.{rules, ◌≡◌, ◌+◌, subst, length, ℕ, Some, None}
use Rattle.serde_amqp_item.specs.Wire.{row_at}
use Rattle.serde_amqp_read.specs.Pending.{place_of, Opens, NoRow}
use Rattle.serde_amqp_read.proofs.Opened.{frame, opens_items, no_items_count, no_items_admitted}
use Rattle.serde_amqp_read.proofs.Refusals.{carried, named_on}
use Rattle.serde_amqp_read.proofs.measure.open_items.Goals as goal

pub returns-in_err-count-clause-refused : goal.returns-in_err-count-clause-refused
returns-in_err-count-clause-refused g c =
    let r = row_at (Some c.args.code) in
    let old = place_of g.R.Read.rest g.R.Read.consumed g.R.Read.ending g.R.Read.ahead c.args.reader.now c.args.bytes.now.items in
    let mid = place_of g.R.Read.rest g.R.Read.consumed g.R.Read.ending g.R.Read.ahead c.take_number.new.reader c.take_number.new.bytes.items in
    carried g.R.Read.faulty c.from_residual-in_err-count.result c.in_err-count.field-0.0 _ (NoRow r old.rest) c.from_residual-in_err-count.ensures.1
    (λ short. no_items_count r old mid c.args.width c.in_ok-size.size c.requires c.in_ok-size.ensures.ok short)
    c.in_err-count.ensures.refused

pub returns-then-not-is_admitted-clause-refused : goal.returns-then-not-is_admitted-clause-refused
returns-then-not-is_admitted-clause-refused g c =
    let r = row_at (Some c.args.code) in
    let old = place_of g.R.Read.rest g.R.Read.consumed g.R.Read.ending g.R.Read.ahead c.args.reader.now c.args.bytes.now.items in
    let mid = place_of g.R.Read.rest g.R.Read.consumed g.R.Read.ending g.R.Read.ahead c.take_number.new.reader c.take_number.new.bytes.items in
    let new = place_of g.R.Read.rest g.R.Read.consumed g.R.Read.ending g.R.Read.ahead c.take_number-2.new.reader c.take_number-2.new.bytes.items in
    no_items_admitted r old mid new c.args.width c.in_ok-size.size c.in_ok-count.count c.requires c.in_ok-size.ensures.ok c.in_ok-count.ensures.ok (search rules)

pub returns-clause-ok : goal.returns-clause-ok
returns-clause-ok g c =
    let r = row_at (Some c.args.code) in
    let old = place_of g.R.Read.rest g.R.Read.consumed g.R.Read.ending g.R.Read.ahead c.args.reader.now c.args.bytes.now.items in
    let mid = place_of g.R.Read.rest g.R.Read.consumed g.R.Read.ending g.R.Read.ahead c.take_number.new.reader c.take_number.new.bytes.items in
    let new = place_of g.R.Read.rest g.R.Read.consumed g.R.Read.ending g.R.Read.ahead c.take_number-2.new.reader c.take_number-2.new.bytes.items in
    let end : length mid.taken + c.in_ok-size.size ≡ c.in-Some.end = search rules in
    subst (λ (e : ℕ). Opens r old new (frame c.in_ok-count.count None (Some e))) end
    (opens_items r old mid new c.args.width c.in_ok-size.size c.in_ok-count.count c.requires c.in_ok-size.ensures.ok c.in_ok-count.ensures.ok (search rules))

pub returns-in_err-count-clause-named : goal.returns-in_err-count-clause-named
returns-in_err-count-clause-named g c =
    named_on c.from_residual-in_err-count.result c.in_err-count.field-0.0 (g.R.Read.ending c.args.reader.now) (g.R.Read.ending c.take_number.new.reader) c.from_residual-in_err-count.ensures.1
    c.in_ok-size.ensures.lasting c.in_err-count.ensures.named
