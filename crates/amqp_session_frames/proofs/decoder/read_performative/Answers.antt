use Rattle.std.proofs.Common.{arith, refl, sym, ◌∙◌, ap, ◌≡◌, ◌++◌, List, ℕ, length, length-append}
use Rattle.serde_amqp_read.specs.Reads.{Source}
use Rattle.amqp_session_frames.proofs.Bodies.{performed}
use Rattle.amqp_session_frames.proofs.decoder.read_performative.Goals as goal

pub overflow_sub-result : goal.overflow_sub-result
overflow_sub-result c =
    let h = c.in-Ok.ensures.ok in
    let content = ap (λ (s : Source). s.rest) c.new.ensures in
    omega (arith, ap length h.3, length-append h.1 c.in-Ok.rest.rest, ap length c.left.ensures, ap length content)

pub returns-in-Ok-clause-performed : goal.returns-in-Ok-clause-performed
returns-in-Ok-clause-performed c =
    let h = c.in-Ok.ensures.ok in
    let content = ap (λ (s : Source). s.rest) c.new.ensures in
    let whole : c.args.content.now ≡ h.1 ++ c.left.result.now = sym content ∙ (h.3 ∙ ap (λ (l : List ℕ). h.1 ++ l) (sym c.left.ensures)) in
    performed c.args.content.now c.left.result.now c.in-Ok.performative _ (h.0, h.1, h.2, whole, h.4) refl
