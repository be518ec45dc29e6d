use Rattle.std.proofs.Common.{rules, arith, ◌≡◌, ◌-◌, ◌∙◌, ◌++◌, ◌∷◌, [], sym, Some, None}
use Rattle.std.proofs.lemmas.Grind.{common_steps}
use Rattle.serde_amqp_read.specs.Reads.{NoStrict}
use Rattle.serde_amqp_read.specs.Pending.{place_of, plain_width}
use Rattle.serde_amqp_read.proofs.Opened.{frame}
use Rattle.serde_amqp_read.proofs.Pendings.{knows_first, knows_closed, knows_unclosed, knows_sound, knows_entered, knows_none, knows_all, moved_on, moved_first}
use Rattle.serde_amqp_read.proofs.Refusals.{carried, named_on}
use Rattle.serde_amqp_read.proofs.measure.take_form.Goals as goal

pub loop-frame-init : goal.loop-frame-init
loop-frame-init g c =
    let pushed : c.push.new.self.items ≡ frame 1 None None ∷ [] = grind (arith, common_steps) in
    record {
      knows = knows_first (place_of g.R.Read.rest g.R.Read.consumed g.R.Read.ending g.R.Read.ahead c.args.reader.now c.new-bytes.result.items) c.push.new.self.items c.new-bytes.ensures.items pushed;
      moved = moved_first (g.R.Read.rest c.args.reader.now) (g.R.Read.consumed c.args.reader.now) (g.R.Read.ending c.args.reader.now) (g.R.Read.ahead c.args.reader.now) c.new-bytes.result.items c.new-bytes.ensures.items;
    }

pub loop-frame-preserved-in-Continue-branch-2 : goal.loop-frame-preserved-in-Continue-branch-2
loop-frame-preserved-in-Continue-branch-2 g c =
    let first = place_of g.R.Read.rest g.R.Read.consumed g.R.Read.ending g.R.Read.ahead c.args.reader.now [] in
    let now = place_of g.R.Read.rest g.R.Read.consumed g.R.Read.ending g.R.Read.ahead c.loop-frame.reader c.loop-frame.bytes.items in
    let new = place_of g.R.Read.rest g.R.Read.consumed g.R.Read.ending g.R.Read.ahead c.take_plain.new.reader c.take_plain.new.bytes.items in
    let popped : c.loop-frame.stack.items ≡ c.pop.new.self.items ++ c.in-Some.frame ∷ [] = search rules in
    let width : plain_width c.in-Some.frame ≡ Some c.in-Some-plain_width.width = sym c.plain_width.ensures ∙ c.in-Some-plain_width.is in
    let h = c.in_ok-take_plain-in-Some-plain_width.ensures.ok in
    record {
      knows = knows_closed first.rest now new c.loop-frame.stack.items c.pop.new.self.items c.in-Some.frame c.in-Some-plain_width.width c.loop-frame.invariant.knows popped width h;
      moved = moved_on first now new h.front c.loop-frame.invariant.moved h.moves;
    }

pub returns-in_err-take_plain-in-Some-plain_width-clause-refused : goal.returns-in_err-take_plain-in-Some-plain_width-clause-refused
returns-in_err-take_plain-in-Some-plain_width-clause-refused g c =
    let first = place_of g.R.Read.rest g.R.Read.consumed g.R.Read.ending g.R.Read.ahead c.args.reader.now [] in
    let now = place_of g.R.Read.rest g.R.Read.consumed g.R.Read.ending g.R.Read.ahead c.loop-frame.reader c.loop-frame.bytes.items in
    let popped : c.loop-frame.stack.items ≡ c.pop.new.self.items ++ c.in-Some.frame ∷ [] = search rules in
    let width : plain_width c.in-Some.frame ≡ Some c.in-Some-plain_width.width = sym c.plain_width.ensures ∙ c.in-Some-plain_width.is in
    carried g.R.Read.faulty c.from_residual-in_err-take_plain-in-Some-plain_width.result c.in_err-take_plain-in-Some-plain_width.field-0.0 _ (NoStrict first.rest) c.from_residual-in_err-take_plain-in-Some-plain_width.ensures.1
    (λ n. knows_unclosed first.rest now c.loop-frame.stack.items c.pop.new.self.items c.in-Some.frame c.in-Some-plain_width.width c.loop-frame.invariant.knows popped width n)
    c.in_err-take_plain-in-Some-plain_width.ensures.refused

pub enter-requires : goal.enter-requires
enter-requires g c =
    let first = place_of g.R.Read.rest g.R.Read.consumed g.R.Read.ending g.R.Read.ahead c.args.reader.now [] in
    let now = place_of g.R.Read.rest g.R.Read.consumed g.R.Read.ending g.R.Read.ahead c.loop-frame.reader c.loop-frame.bytes.items in
    let popped : c.loop-frame.stack.items ≡ c.pop.new.self.items ++ c.in-Some.frame ∷ [] = search rules in
    let width : plain_width c.in-Some.frame ≡ None = sym c.plain_width.ensures ∙ c.in-None.is in
    let sound = knows_sound first.rest now c.loop-frame.stack.items c.pop.new.self.items c.in-Some.frame c.loop-frame.invariant.knows popped width in
    sound.1

pub returns-in_err-opened-in-None-clause-refused : goal.returns-in_err-opened-in-None-clause-refused
returns-in_err-opened-in-None-clause-refused g c =
    let first = place_of g.R.Read.rest g.R.Read.consumed g.R.Read.ending g.R.Read.ahead c.args.reader.now [] in
    let now = place_of g.R.Read.rest g.R.Read.consumed g.R.Read.ending g.R.Read.ahead c.loop-frame.reader c.loop-frame.bytes.items in
    let popped : c.loop-frame.stack.items ≡ c.pop.new.self.items ++ c.in-Some.frame ∷ [] = search rules in
    let width : plain_width c.in-Some.frame ≡ None = sym c.plain_width.ensures ∙ c.in-None.is in
    let sound = knows_sound first.rest now c.loop-frame.stack.items c.pop.new.self.items c.in-Some.frame c.loop-frame.invariant.knows popped width in
    carried g.R.Read.faulty c.from_residual-in_err-opened-in-None.result c.in_err-opened-in-None.field-0.0 _ (NoStrict first.rest) c.from_residual-in_err-opened-in-None.ensures.1
    (λ n. knows_none first.rest now c.loop-frame.stack.items c.pop.new.self.items c.in-Some.frame c.loop-frame.invariant.knows popped sound.0 n)
    c.in_err-opened-in-None.ensures.refused

pub loop-frame-preserved : goal.loop-frame-preserved
loop-frame-preserved g c =
    let first = place_of g.R.Read.rest g.R.Read.consumed g.R.Read.ending g.R.Read.ahead c.args.reader.now [] in
    let now = place_of g.R.Read.rest g.R.Read.consumed g.R.Read.ending g.R.Read.ahead c.loop-frame.reader c.loop-frame.bytes.items in
    let new = place_of g.R.Read.rest g.R.Read.consumed g.R.Read.ending g.R.Read.ahead c.enter.new.reader c.enter.new.bytes.items in
    let popped : c.loop-frame.stack.items ≡ c.pop.new.self.items ++ c.in-Some.frame ∷ [] = search rules in
    let width : plain_width c.in-Some.frame ≡ None = sym c.plain_width.ensures ∙ c.in-None.is in
    let sound = knows_sound first.rest now c.loop-frame.stack.items c.pop.new.self.items c.in-Some.frame c.loop-frame.invariant.knows popped width in
    let h = c.in_ok-opened-in-None.ensures.ok in
    let pushed : c.push-in-None-2.new.self.items ≡ (c.pop.new.self.items ++ frame (c.in-Some.frame.left - 1) c.in-Some.frame.inherited c.in-Some.frame.end ∷ []) ++ c.in_ok-opened-in-None.opened ∷ [] = grind (arith, common_steps) in
    record {
      knows = knows_entered first.rest now new c.loop-frame.stack.items c.pop.new.self.items c.push-in-None-2.new.self.items c.in-Some.frame c.in_ok-opened-in-None.opened c.loop-frame.invariant.knows popped sound.0 h pushed;
      moved = moved_on first now new h.front c.loop-frame.invariant.moved h.moves;
    }

pub returns-clause-ok : goal.returns-clause-ok
returns-clause-ok g c =
    let first = place_of g.R.Read.rest g.R.Read.consumed g.R.Read.ending g.R.Read.ahead c.args.reader.now [] in
    let now = place_of g.R.Read.rest g.R.Read.consumed g.R.Read.ending g.R.Read.ahead c.loop-frame.reader c.loop-frame.bytes.items in
    let empty : c.loop-frame.stack.items ≡ [] = search rules in
    knows_all first now c.loop-frame.stack.items c.loop-frame.invariant.knows empty c.loop-frame.invariant.moved

pub returns-in_err-take_plain-in-Some-plain_width-clause-named : goal.returns-in_err-take_plain-in-Some-plain_width-clause-named
returns-in_err-take_plain-in-Some-plain_width-clause-named g c =
    named_on c.from_residual-in_err-take_plain-in-Some-plain_width.result c.in_err-take_plain-in-Some-plain_width.field-0.0 (g.R.Read.ending c.args.reader.now) (g.R.Read.ending c.loop-frame.reader) c.from_residual-in_err-take_plain-in-Some-plain_width.ensures.1
    c.loop-frame.invariant.moved.ending c.in_err-take_plain-in-Some-plain_width.ensures.named

pub returns-in_err-opened-in-None-clause-named : goal.returns-in_err-opened-in-None-clause-named
returns-in_err-opened-in-None-clause-named g c =
    named_on c.from_residual-in_err-opened-in-None.result c.in_err-opened-in-None.field-0.0 (g.R.Read.ending c.args.reader.now) (g.R.Read.ending c.loop-frame.reader) c.from_residual-in_err-opened-in-None.ensures.1
    c.loop-frame.invariant.moved.ending c.in_err-opened-in-None.ensures.named
