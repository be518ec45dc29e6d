use Rattle.std.proofs.Common.{sym, ap, subst, arith, refl, length, ◌∙◌}
use Rattle.std.specs.Map.{lookup}
use Rattle.std.specs.Str.{bytes_eq}
use Rattle.amqp_link_unsettled.specs.Entries.{Kept}
use Rattle.amqp_link_unsettled.specs.declared.open.Open.{Open}
use Rattle.amqp_link_unsettled.specs.Tagged.{AreTagged}
use Rattle.amqp_link_unsettled.proofs.Tagging.{tagged-told, length-told}
use Rattle.amqp_link_unsettled.proofs.messages.Messages.note.Goals as goal

pub invariant_of-self : goal.invariant_of-self
invariant_of-self c =
    let Holds : Kept Open → Type 0 = λ k. AreTagged k.entries in
    let found = lookup (bytes_eq c.args.tag.now) c.self.inside.unsettled.entries in (
      omega (
        arith,
        ap (λ (k : Kept Open). k.room) c.note_in.ensures,
        ap (λ (k : Kept Open). length k.entries) c.note_in.ensures ∙ length-told c.args.tag.now c.self.inside.unsettled.entries found c.args.state,
        c.self.invariant.0,
      ),
      subst Holds (sym c.note_in.ensures) (tagged-told c.args.tag.now c.self.inside.unsettled.entries found c.args.state refl c.self.invariant.1),
    )
