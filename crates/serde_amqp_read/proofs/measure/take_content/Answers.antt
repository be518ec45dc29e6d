use Rattle.std.proofs.Common.{rules, ◌≡◌, ◌∙◌, ap, length, Some}
use Rattle.serde_amqp_item.specs.Wire.{row_at}
use Rattle.serde_amqp_read.specs.Pending.{place_of}
use Rattle.serde_amqp_read.proofs.Numbers.{content_is, content_wrong_at}
use Rattle.serde_amqp_read.proofs.measure.take_content.Goals as goal

pub is_valid-requires : goal.is_valid-requires
is_valid-requires g c = λ n e.
    let t = c.in_ok-take_bytes.ensures.ok in
    let at : c.len-start.result ≡ length c.args.bytes.now.items = search rules in
    let items : c.deref.result.now ≡ c.take_bytes.new.bytes.items = search rules in
    ap length (content_is (place_of g.R.Read.rest g.R.Read.consumed g.R.Read.ending g.R.Read.ahead c.args.reader.now c.args.bytes.now.items) (place_of g.R.Read.rest g.R.Read.consumed g.R.Read.ending g.R.Read.ahead c.take_bytes.new.reader c.take_bytes.new.bytes.items) c.args.count c.len-start.result c.deref.result.now t at items)
    ∙ (t.long ∙ c.requires n e)

pub returns-in_default : goal.returns-in_default
returns-in_default g c =
    let t = c.in_ok-take_bytes.ensures.ok in
    let at : c.len-start.result ≡ length c.args.bytes.now.items = search rules in
    let items : c.deref.result.now ≡ c.take_bytes.new.bytes.items = search rules in
    record {
      ok = tt;
      named = tt;
      refused = content_wrong_at (row_at (Some c.args.code)) c.args.count (place_of g.R.Read.rest g.R.Read.consumed g.R.Read.ending g.R.Read.ahead c.args.reader.now c.args.bytes.now.items) (place_of g.R.Read.rest g.R.Read.consumed g.R.Read.ending g.R.Read.ahead c.take_bytes.new.reader c.take_bytes.new.bytes.items) c.is_valid.result c.len-start.result c.deref.result.now t at items c.is_valid.ensures c.if-is_valid.false;
    }

pub returns-in-Boolean-clause-refused : goal.returns-in-Boolean-clause-refused
returns-in-Boolean-clause-refused g c =
    let t = c.in_ok-take_bytes.ensures.ok in
    let at : c.len-start.result ≡ length c.args.bytes.now.items = search rules in
    let items : c.deref.result.now ≡ c.take_bytes.new.bytes.items = search rules in
    content_wrong_at (row_at (Some c.args.code)) c.args.count (place_of g.R.Read.rest g.R.Read.consumed g.R.Read.ending g.R.Read.ahead c.args.reader.now c.args.bytes.now.items) (place_of g.R.Read.rest g.R.Read.consumed g.R.Read.ending g.R.Read.ahead c.take_bytes.new.reader c.take_bytes.new.bytes.items) c.is_valid.result c.len-start.result c.deref.result.now t at items c.is_valid.ensures c.if-is_valid.false
