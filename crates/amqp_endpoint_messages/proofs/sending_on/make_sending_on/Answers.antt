use Rattle.std.proofs.Common.{rules, ◌≡◌, ◌+◌, ℕ, All, Bool, List, Option, Some, ap, arith, false, length, refl}
use Rattle.std.proofs.Common.{subst, sym, true, ◌∙◌}
use Rattle.std.proofs.lemmas.List.Elements.{All-head, All-nil, All-push, All-tail}
use Rattle.amqp_session_outgoing.specs.Frames.{HaveTags}
use Rattle.amqp_session_core.specs.Batch.{Transfers}
use Rattle.amqp_link_sender.specs.declared.sending_on.PreparedSendOn.{PreparedSendOn}
use Rattle.amqp_endpoint_messages.specs.SendingOn.{AreCutOn, CutsOn, IsOn, transfers_in}
use Rattle.amqp_endpoint_messages.proofs.CutOn.{all-cut, none-cut, one-cut, stops-at, transfers-more}
use Rattle.amqp_endpoint_messages.proofs.sending_on.make_sending_on.Goals as goal

pub loop-ready-init : goal.loop-ready-init
loop-ready-init c =
    record {
      cut =
          none-cut c.args.limit c.args.handle c.into_iter-rest.result.rest.items c.new.result.items c.new.ensures.items;
      count = sym (ap transfers_in c.new.ensures.items);
      all = refl;
      tagged =
          subst (λ (l : List Transfers). All HaveTags l) (sym c.new.ensures.items) (All-nil HaveTags);
      are =
          subst (λ (l : List PreparedSendOn). All IsOn l) (sym c.into_iter-rest.ensures.rest) c.requires;
    }

pub transfers_of-requires : goal.transfers_of-requires
transfers_of-requires c =
    All-head IsOn c.in-Some.ready c.next.new.self.rest.items
    (subst (λ (l : List PreparedSendOn). All IsOn l) c.in-Some.ensures.items c.loop-ready.invariant.are)

pub loop-ready-preserved : goal.loop-ready-preserved
loop-ready-preserved c =
    let cut : CutsOn c.args.limit c.args.handle c.in-Some.ready (Some c.in-Some-cut.batch) =
    subst (λ (o : Option Transfers). CutsOn c.args.limit c.args.handle c.in-Some.ready o) c.in-Some-cut.is
    c.in_ok-cut.ensures in
    let more : c.in_ok-transfers.transfers ≡ c.loop-ready.sending.transfers + length c.in-Some-cut.batch =
    search rules in
    record {
      cut =
          one-cut c.args.limit c.args.handle c.into_iter-rest.result.rest.items c.loop-ready.sending.batches.items
          c.push_back.new.self.items c.loop-ready.rest.rest.items c.next.new.self.rest.items c.in-Some.ready
          c.in-Some-cut.batch c.in-Some.ensures.items c.in_ok-push_back.ensures.items cut.0
          c.loop-ready.invariant.cut;
      count =
          more
          ∙ ap (λ (n : ℕ). n + length c.in-Some-cut.batch) c.loop-ready.invariant.count
          ∙ sym (transfers-more c.loop-ready.sending.batches.items c.in-Some-cut.batch)
          ∙ sym (ap transfers_in c.in_ok-push_back.ensures.items);
      all = c.loop-ready.invariant.all;
      tagged =
          subst (λ (l : List Transfers). All HaveTags l) (sym c.in_ok-push_back.ensures.items)
          (All-push HaveTags c.loop-ready.sending.batches.items c.in-Some-cut.batch c.loop-ready.invariant.tagged
          cut.1);
      are =
          All-tail IsOn c.in-Some.ready c.next.new.self.rest.items
          (subst (λ (l : List PreparedSendOn). All IsOn l) c.in-Some.ensures.items c.loop-ready.invariant.are);
    }

pub returns-in_default-cut-clause-ready : goal.returns-in_default-cut-clause-ready
returns-in_default-cut-clause-ready c =
    record {
      cut =
          subst
          (λ (l : List PreparedSendOn).
          AreCutOn c.args.limit c.args.handle l c.loop-ready.sending.batches.items false)
          c.into_iter-rest.ensures.rest
          (stops-at c.args.limit c.args.handle c.into_iter-rest.result.rest.items c.loop-ready.sending.batches.items
          c.loop-ready.rest.rest.items c.next.new.self.rest.items c.in-Some.ready c.in-Some.ensures.items
          (subst (λ (o : Option Transfers). CutsOn c.args.limit c.args.handle c.in-Some.ready o) c.in_default-cut.is
          c.in_ok-cut.ensures)
          c.loop-ready.invariant.cut);
      count = c.loop-ready.invariant.count;
    }

pub returns-in_default-cut-clause-tagged : goal.returns-in_default-cut-clause-tagged
returns-in_default-cut-clause-tagged c = c.loop-ready.invariant.tagged

pub returns-clause-ready : goal.returns-clause-ready
returns-clause-ready c =
    record {
      cut =
          subst
          (λ (b : Bool).
          AreCutOn c.args.limit c.args.handle c.args.ons.items c.loop-ready.sending.batches.items b)
          (sym c.loop-ready.invariant.all)
          (subst
          (λ (l : List PreparedSendOn).
          AreCutOn c.args.limit c.args.handle l c.loop-ready.sending.batches.items true)
          c.into_iter-rest.ensures.rest
          (all-cut c.args.limit c.args.handle c.into_iter-rest.result.rest.items c.loop-ready.sending.batches.items
          c.loop-ready.rest.rest.items
          (omega (arith, c.in_default.ensures.cases.0, c.loop-ready.rest.rest.ok.0))
          c.loop-ready.invariant.cut));
      count = c.loop-ready.invariant.count;
    }
