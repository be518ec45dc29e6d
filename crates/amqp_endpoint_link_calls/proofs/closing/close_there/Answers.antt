use Rattle.std.proofs.Common.{Bool, refl, subst, sym, ◌∙◌}
use Rattle.std.specs.Prelude.{IfErr, IfOk}
use Rattle.amqp_endpoint_tables.specs.State.{live_at}
use Rattle.amqp_endpoint_link_calls.specs.Calling.{DoneIn}
use Rattle.amqp_endpoint_link_calls.specs.Closing.{ClosedHeld, ClosesHeld, RefusesClosing, closes}
use Rattle.amqp_endpoint_link_calls.specs.Places.{end_live}
use Rattle.amqp_endpoint_link_calls.proofs.Closed.{if-ok}
use Rattle.amqp_endpoint_link_calls.proofs.closing.close_there.Goals as goal

pub close_parted-requires-clause-parted : goal.close_parted-requires-clause-parted
close_parted-requires-clause-parted c = sym c.parted_at.ensures ∙ c.if-parted_at.true

pub returns-then-parted_at-clause-ok : goal.returns-then-parted_at-clause-ok
returns-then-parted_at-clause-ok c =
    subst
    (λ (parted : Bool). IfOk c.close_parted.result (λ events. ClosedHeld parted c.args.session c.args.handle
    c.args.talk.now c.args.links.now c.args.link c.args.out.now.items events.items c.close_parted.new.talk
    c.close_parted.new.links c.args.out.now.items))
    (sym c.if-parted_at.true ∙ c.parted_at.ensures) (c.close_parted.ensures.ok c.args.out.now.items)

pub returns-then-parted_at-clause-err : goal.returns-then-parted_at-clause-err
returns-then-parted_at-clause-err c =
    subst
    (λ (parted : Bool). IfErr c.close_parted.result (RefusesClosing parted
    (end_live (live_at c.args.talk.now.sessions c.args.session) c.args.handle)))
    (sym c.if-parted_at.true ∙ c.parted_at.ensures) c.close_parted.ensures.err

pub returns-clause-ok : goal.returns-clause-ok
returns-clause-ok c =
    subst
    (λ (parted : Bool). IfOk c.close_held.result (λ events. ClosedHeld parted c.args.session c.args.handle
    c.args.talk.now c.args.links.now c.args.link c.args.out.now.items events.items c.close_held.new.talk
    c.args.links.now c.close_held.new.out.items))
    (sym c.if-parted_at.false ∙ c.parted_at.ensures)
    (if-ok
    (λ events. DoneIn (closes events.items) c.args.session c.args.handle c.args.talk.now c.args.out.now.items
    c.close_held.new.talk c.close_held.new.out.items)
    (λ events. ClosesHeld c.args.session c.args.handle c.args.talk.now c.args.links.now c.args.out.now.items
    events.items c.close_held.new.talk c.args.links.now c.close_held.new.out.items)
    c.close_held.result (λ events done. record { done = done; kept = refl }) c.close_held.ensures.ok)

pub returns-clause-err : goal.returns-clause-err
returns-clause-err c =
    subst
    (λ (parted : Bool). IfErr c.close_held.result (RefusesClosing parted
    (end_live (live_at c.args.talk.now.sessions c.args.session) c.args.handle)))
    (sym c.if-parted_at.false ∙ c.parted_at.ensures) c.close_held.ensures.err

pub returns-then-parted_at-clause-goes : goal.returns-then-parted_at-clause-goes
returns-then-parted_at-clause-goes c limit wide = c.close_parted.ensures.goes limit c.args.out.now.items
