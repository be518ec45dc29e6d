use Rattle.std.proofs.Common.{◌≡◌, ◌∷◌, [], ◌++◌, true, false, ap, refl, subst, sym, ◌∙◌}
use Rattle.std.proofs.lemmas.Bool.{false≢true}
use Rattle.amqp_session_performatives.specs.declared.disposition.Disposition.{Disposition}
use Rattle.amqp_endpoint_fitting.specs.Read.{IsReadDisposition}
use Rattle.amqp_endpoint_model.specs.State.{fits, frame_of}
use Rattle.amqp_endpoint_messages.specs.Dispositions.{SendsOne, said_by}
use Rattle.amqp_endpoint_messages.specs.Longest.{disposition_frame}
use Rattle.amqp_endpoint_messages.proofs.Goings.{none-added, none-barred, none-sent, one-added, one-barred, one-sent}
use Rattle.amqp_endpoint_messages.proofs.Lengths.{one-fits}
use Rattle.amqp_endpoint_messages.proofs.echoing.send_or_bar.Goals as goal

pub returns-then-fit-clause-sent : goal.returns-then-fit-clause-sent
returns-then-fit-clause-sent g c =
    one-sent c.args.limit c.args.state c.args.run c.args.out.now.items c.send_one.new.out.items c.args.session.now.fields
    c.args.bars.now.items c.args.bars.now.items
    (one-fits c.args.limit c.args.state c.args.run c.ranges.limit.fits (c.requires.fit c.if-fit.true)
    (subst IsReadDisposition c.echo-told.ensures c.is_read.ensures)) g.R.LinkRelay.gives c.args.session.now c.send_one.new.session
    (subst (λ (d : Disposition). SendsOne g.R.LinkRelay.gives c.args.session.now d c.send_one.new.session) c.echo-told.ensures
    c.send_one.ensures.sent)

pub returns-then-fit-clause-added : goal.returns-then-fit-clause-added
returns-then-fit-clause-added g c =
    one-added c.args.limit c.args.state c.args.run c.args.out.now.items c.send_one.new.out.items c.args.session.now.fields
    c.args.bars.now.items c.args.bars.now.items
    (one-fits c.args.limit c.args.state c.args.run c.ranges.limit.fits (c.requires.fit c.if-fit.true)
    (subst IsReadDisposition c.echo-told.ensures c.is_read.ensures))
    (c.send_one.ensures.added
    ∙ ap (λ (d : Disposition). c.args.out.now.items ++ said_by c.args.session.now.fields d ∷ []) c.echo-told.ensures)

pub returns-then-fit-clause-barred : goal.returns-then-fit-clause-barred
returns-then-fit-clause-barred g c =
    none-barred c.args.limit c.args.state c.args.run c.args.out.now.items c.send_one.new.out.items c.args.session.now.fields
    c.args.bars.now.items c.args.bars.now.items
    (one-fits c.args.limit c.args.state c.args.run c.ranges.limit.fits (c.requires.fit c.if-fit.true)
    (subst IsReadDisposition c.echo-told.ensures c.is_read.ensures)) refl

pub returns-then-fits-clause-sent : goal.returns-then-fits-clause-sent
returns-then-fits-clause-sent g c =
    one-sent c.args.limit c.args.state c.args.run c.args.out.now.items c.send_one-then-fits.new.out.items c.args.session.now.fields
    c.args.bars.now.items c.args.bars.now.items
    (subst (λ (d : Disposition). fits c.args.limit (frame_of (disposition_frame 0 d)) ≡ true) c.echo-told.ensures
    (sym c.fits.ensures ∙ c.if-fits.true)) g.R.LinkRelay.gives c.args.session.now c.send_one-then-fits.new.session
    (subst (λ (d : Disposition). SendsOne g.R.LinkRelay.gives c.args.session.now d c.send_one-then-fits.new.session) c.echo-told.ensures
    c.send_one-then-fits.ensures.sent)

pub returns-then-fits-clause-added : goal.returns-then-fits-clause-added
returns-then-fits-clause-added g c =
    one-added c.args.limit c.args.state c.args.run c.args.out.now.items c.send_one-then-fits.new.out.items c.args.session.now.fields
    c.args.bars.now.items c.args.bars.now.items
    (subst (λ (d : Disposition). fits c.args.limit (frame_of (disposition_frame 0 d)) ≡ true) c.echo-told.ensures
    (sym c.fits.ensures ∙ c.if-fits.true))
    (c.send_one-then-fits.ensures.added
    ∙ ap (λ (d : Disposition). c.args.out.now.items ++ said_by c.args.session.now.fields d ∷ []) c.echo-told.ensures)

pub returns-then-fits-clause-barred : goal.returns-then-fits-clause-barred
returns-then-fits-clause-barred g c =
    none-barred c.args.limit c.args.state c.args.run c.args.out.now.items c.send_one-then-fits.new.out.items c.args.session.now.fields
    c.args.bars.now.items c.args.bars.now.items
    (subst (λ (d : Disposition). fits c.args.limit (frame_of (disposition_frame 0 d)) ≡ true) c.echo-told.ensures
    (sym c.fits.ensures ∙ c.if-fits.true)) refl

pub returns-clause-sent : goal.returns-clause-sent
returns-clause-sent g c =
    none-sent c.args.limit c.args.state c.args.run c.args.out.now.items c.args.out.now.items c.args.session.now.fields
    c.args.bars.now.items c.push_reserved.new.self.items
    (subst (λ (d : Disposition). fits c.args.limit (frame_of (disposition_frame 0 d)) ≡ false) c.echo-told.ensures
    (sym c.fits.ensures ∙ c.if-fits.false)) g.R.LinkRelay.gives c.args.session.now

pub returns-clause-added : goal.returns-clause-added
returns-clause-added g c =
    none-added c.args.limit c.args.state c.args.run c.args.out.now.items c.args.out.now.items c.args.session.now.fields
    c.args.bars.now.items c.push_reserved.new.self.items
    (subst (λ (d : Disposition). fits c.args.limit (frame_of (disposition_frame 0 d)) ≡ false) c.echo-told.ensures
    (sym c.fits.ensures ∙ c.if-fits.false)) refl

pub returns-clause-barred : goal.returns-clause-barred
returns-clause-barred g c =
    one-barred c.args.limit c.args.state c.args.run c.args.out.now.items c.args.out.now.items c.args.session.now.fields
    c.args.bars.now.items c.push_reserved.new.self.items
    (subst (λ (d : Disposition). fits c.args.limit (frame_of (disposition_frame 0 d)) ≡ false) c.echo-told.ensures
    (sym c.fits.ensures ∙ c.if-fits.false)) c.push_reserved.ensures.items

pub push_reserved-requires : goal.push_reserved-requires
push_reserved-requires g c = c.requires.room c.if-fit.false

pub returns-then-fit-clause-none : goal.returns-then-fit-clause-none
returns-then-fit-clause-none g c fit = refl

pub returns-then-fits-clause-none : goal.returns-then-fits-clause-none
returns-then-fits-clause-none g c fit = refl

pub returns-clause-none : goal.returns-clause-none
returns-clause-none g c fit = absurd (false≢true (sym c.if-fit.false ∙ fit))
