use Rattle.std.proofs.Common.{All, List, Bool, Option, length, arith, ap, subst, sym, ◌∙◌}
use Rattle.std.specs.Prelude.{IsSome}
use Rattle.std.proofs.lemmas.List.Elements.{All-head, All-tail}
use Rattle.amqp_session_core.specs.Batch.{Transfers}
use Rattle.amqp_session_core.specs.State.{link_at}
use Rattle.amqp_link.specs.declared.end.End.{End}
use Rattle.amqp_endpoint_links.specs.declared.numbered.Numbered.{Numbered}
use Rattle.amqp_endpoint_messages.specs.GivingUp.{HandsOne, IsBare}
use Rattle.amqp_endpoint_messages.proofs.Handed.{bare-alone, bare-tagged, handed-all, handed-more}
use Rattle.amqp_endpoint_messages.proofs.Handed.{handed-none}
use Rattle.amqp_endpoint_messages.proofs.giving_up.give_up.Goals as goal

pub hand_over-requires-clause-tagged : goal.hand_over-requires-clause-tagged
hand_over-requires-clause-tagged c =
    bare-tagged c.in-Some.batch
    (All-head IsBare c.in-Some.batch c.pop_front.new.self.items
    (subst (λ (l : List Transfers). All IsBare l) c.in-Some.ensures.items c.loop-batch.invariant.bare))

pub hand_over-requires-clause-room : goal.hand_over-requires-clause-room
hand_over-requires-clause-room c =
    omega (
      arith,
      c.loop-batch.invariant.room,
      ap (λ (l : List Transfers). length l) c.in-Some.ensures.items,
      bare-alone c.in-Some.batch
          (All-head IsBare c.in-Some.batch c.pop_front.new.self.items
          (subst (λ (l : List Transfers). All IsBare l) c.in-Some.ensures.items c.loop-batch.invariant.bare)),
    )

pub hand_over-requires-clause-spare : goal.hand_over-requires-clause-spare
hand_over-requires-clause-spare c = omega (arith, c.requires.spare, c.loop-batch.invariant.spare)

pub loop-batch-preserved : goal.loop-batch-preserved
loop-batch-preserved c =
    record {
      hands = λ stopped new out_new later.
          c.loop-batch.invariant.hands stopped new out_new
          (handed-more c.args.handle c.in-Some.batch c.pop_front.new.self.items c.loop-batch.batches.items
          c.loop-batch.session c.hand_over.new.session c.loop-batch.out.items c.hand_over.new.out.items
          c.in-Some.ensures.items
          (subst
          (λ (b : Bool).
          HandsOne c.args.handle c.in-Some.batch c.loop-batch.session c.loop-batch.out.items b c.hand_over.new.session
          c.hand_over.new.out.items)
          c.if-not-hand_over.false c.hand_over.ensures.handed)
          stopped new out_new later);
      there =
          subst
          (λ (links : List (Option (Numbered End))).
          IsSome (link_at (record c.loop-batch.session { links = links }) c.args.handle.0))
          (sym c.hand_over.ensures.links) c.loop-batch.invariant.there;
      bare =
          All-tail IsBare c.in-Some.batch c.pop_front.new.self.items
          (subst (λ (l : List Transfers). All IsBare l) c.in-Some.ensures.items c.loop-batch.invariant.bare);
      room = omega (
        arith,
        c.loop-batch.invariant.room,
        ap (λ (l : List Transfers). length l) c.in-Some.ensures.items,
        c.hand_over.ensures.room,
        bare-alone c.in-Some.batch
            (All-head IsBare c.in-Some.batch c.pop_front.new.self.items
            (subst (λ (l : List Transfers). All IsBare l) c.in-Some.ensures.items c.loop-batch.invariant.bare)),
      );
      used = omega (
        arith,
        c.loop-batch.invariant.used,
        ap (λ (l : List Transfers). length l) c.in-Some.ensures.items,
        c.hand_over.ensures.room,
        bare-alone c.in-Some.batch
            (All-head IsBare c.in-Some.batch c.pop_front.new.self.items
            (subst (λ (l : List Transfers). All IsBare l) c.in-Some.ensures.items c.loop-batch.invariant.bare)),
      );
      spare = omega (arith, c.loop-batch.invariant.spare, c.hand_over.ensures.spare);
      place = λ most least serves.
          c.hand_over.ensures.place most least (c.loop-batch.invariant.place most least serves);
      links = c.hand_over.ensures.links ∙ c.loop-batch.invariant.links;
      fields = c.hand_over.ensures.fields ∙ c.loop-batch.invariant.fields;
    }

pub returns-then-not-hand_over-clause-hands : goal.returns-then-not-hand_over-clause-hands
returns-then-not-hand_over-clause-hands c =
    c.loop-batch.invariant.hands _ _ _
    (handed-none c.args.handle c.in-Some.batch c.pop_front.new.self.items c.loop-batch.batches.items
    c.loop-batch.session c.hand_over.new.session c.loop-batch.out.items c.hand_over.new.out.items
    c.in-Some.ensures.items
    (subst
    (λ (b : Bool).
    HandsOne c.args.handle c.in-Some.batch c.loop-batch.session c.loop-batch.out.items b c.hand_over.new.session
    c.hand_over.new.out.items)
    c.if-not-hand_over.true c.hand_over.ensures.handed))

pub returns-then-not-hand_over-clause-room : goal.returns-then-not-hand_over-clause-room
returns-then-not-hand_over-clause-room c =
    omega (
      arith,
      c.loop-batch.invariant.used,
      ap (λ (l : List Transfers). length l) c.in-Some.ensures.items,
      c.hand_over.ensures.room,
      bare-alone c.in-Some.batch
          (All-head IsBare c.in-Some.batch c.pop_front.new.self.items
          (subst (λ (l : List Transfers). All IsBare l) c.in-Some.ensures.items c.loop-batch.invariant.bare)),
    )

pub returns-then-not-hand_over-clause-spare : goal.returns-then-not-hand_over-clause-spare
returns-then-not-hand_over-clause-spare c = omega (arith, c.loop-batch.invariant.spare, c.hand_over.ensures.spare)

pub returns-then-not-hand_over-clause-place : goal.returns-then-not-hand_over-clause-place
returns-then-not-hand_over-clause-place c = λ most least serves.
    c.hand_over.ensures.place most least (c.loop-batch.invariant.place most least serves)

pub returns-then-not-hand_over-clause-links : goal.returns-then-not-hand_over-clause-links
returns-then-not-hand_over-clause-links c = c.hand_over.ensures.links ∙ c.loop-batch.invariant.links

pub returns-then-not-hand_over-clause-fields : goal.returns-then-not-hand_over-clause-fields
returns-then-not-hand_over-clause-fields c = c.hand_over.ensures.fields ∙ c.loop-batch.invariant.fields

pub returns-clause-hands : goal.returns-clause-hands
returns-clause-hands c =
    c.loop-batch.invariant.hands _ _ _
    (handed-all c.args.handle c.loop-batch.batches.items c.loop-batch.session c.loop-batch.out.items
    (omega (arith, c.in_default.ensures.cases.0, c.loop-batch.batches.ok)))
