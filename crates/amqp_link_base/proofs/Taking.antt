-- What transfers say that a receiver takes.
use Rattle.std.proofs.Common.{◌≡◌, List, [], ◌∷◌, Bool, true, false, refl, ap, ◌∙◌}
use Rattle.std.specs.Prelude.{Option, Some, None, Result, Ok, Err, if◌then◌else◌}
use Rattle.amqp_link_types.specs.declared.refusals.ReceiverTransferError.{ReceiverTransferError}
use Rattle.amqp_link_types.specs.declared.refusals.ReceiverTransferError.TheVariants.{InconsistentFieldInMultiFrameDelivery}
use Rattle.amqp_link_base.specs.Said.{Said, begun, continued, gathered, unnamed, unless, agrees}
use Rattle.amqp_link_base.specs.Readings.{Piece, Reading, opened, brought, brought_if, read_on, readings, take_on}
use Rattle.amqp_link_base.specs.Readings.{taken}

-- transfers behind one that was refused are refused
refused-stays : (e : ReceiverTransferError) (ps : List Piece) (r : Reading) → taken (Err e) ps ≡ Ok r → ⊥
refused-stays e [] r h = absurd (cc)
refused-stays e (p ∷ ps) r h = refused-stays e ps r h

-- what is taken is what is said, where the transfer gathers what it opens
brought-same : (aborted more : Bool) (r s : Reading) (g : Result Said ReceiverTransferError) (d : Said) → ((x : Said) → g ≡ Ok x → d ≡ x)
    → brought_if aborted more r g ≡ Ok s → brought aborted more r d ≡ s
brought-same true more r s g d same h = let e : record r { held = None } ≡ s = cc in e
brought-same false more r s (Err x) d same h = absurd (cc)
brought-same false more r s (Ok x) d same h =
    let e : brought false more r x ≡ s = cc in
    ap (λ (y : Said). brought false more r y) (same x refl) ∙ e

unless-same : (o : Option ReceiverTransferError) (d x : Said) → unless o d ≡ Ok x → d ≡ x
unless-same None d x h = cc
unless-same (Some e) d x h = absurd (cc)

agreed-same : (b : Bool) (d x : Said) → (if b then Ok d else Err InconsistentFieldInMultiFrameDelivery) ≡ Ok x → d ≡ x
agreed-same true d x h = cc
agreed-same false d x h = absurd (cc)

gathered-same : (held : Option Said) (p : Piece) (x : Said) → gathered held p.performative p.payload ≡ Ok x → opened held p ≡ x
gathered-same None p x h = unless-same (unnamed p.performative) (begun p.performative p.payload) x h
gathered-same (Some d) p x h = agreed-same (agrees d.performative p.performative) (continued d p.performative p.payload) x h

one-same : (r s : Reading) (p : Piece) → take_on r p ≡ Ok s → read_on r p ≡ s
one-same r s p h =
    brought-same p.performative.aborted p.performative.more r s (gathered r.held p.performative p.payload) (opened r.held p) (λ x g. gathered-same r.held p x g) h

by-one : (r : Reading) (p : Piece) (ps : List Piece) (s : Reading) (g : Result Reading ReceiverTransferError) → take_on r p ≡ g → ((t : Reading) → taken (Ok t) ps ≡ Ok s → readings t ps ≡ s)
    → taken g ps ≡ Ok s → readings (read_on r p) ps ≡ s
by-one r p ps s (Err e) is rest h = absurd (refused-stays e ps s h)
by-one r p ps s (Ok t) is rest h = ap (λ (x : Reading). readings x ps) (one-same r t p is) ∙ rest t h

pub taken-said : (r : Reading) (ps : List Piece) (s : Reading) → taken (Ok r) ps ≡ Ok s → readings r ps ≡ s
taken-said r [] s h = cc
taken-said r (p ∷ ps) s h = by-one r p ps s (take_on r p) refl (λ t k. taken-said t ps s k) h
