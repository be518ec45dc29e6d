-- Where a link has nothing to send on it says the messages that it is given.
use Rattle.std.proofs.Common.{◌≡◌, ◌⊎◌, inl, inr, ℕ, zero, suc, List, [], ◌∷◌, ◌++◌, ap, append-nil, refl, take, ◌∙◌}
use Rattle.std.specs.Prelude.{map}
use Rattle.amqp_link_sender.specs.declared.sending_on.PreparedSendOn.{PreparedSendOn}
use Rattle.amqp_endpoint.specs.declared.linked.LinkedSessions.{LinkedSessions}
use Rattle.amqp_endpoint_laws.specs.Deeds.{Deed}
use Rattle.amqp_endpoint_laws.specs.Queued.{AreSaid, GoesOnBy, HasNoneOn, Message, NothingOn, SaysIn, message_in}
use Rattle.amqp_endpoint_laws.specs.Queued.{message_on, messages_by}

none-of : (count : ℕ) (ons : List PreparedSendOn) → ons ≡ [] → map message_on (take count ons) ≡ []
none-of zero ons none = refl
none-of (suc count) [] none = refl
none-of (suc count) (ready ∷ others) none = let clash = none in absurd cc

none-there : (link : ℕ) (old : LinkedSessions) (deed : Deed) (ons : List PreparedSendOn) → HasNoneOn link old deed
    → (ons ≡ []) ⊎ GoesOnBy link old deed ons → ons ≡ []
none-there link old deed ons none (inl is) = is
none-there link old deed ons none (inr goes) = none ons goes

one-given : (link : ℕ) (old : LinkedSessions) (deed : Deed) (these : List Message) → SaysIn link old deed these
    → HasNoneOn link old deed → these ≡ message_in link deed
one-given link old deed these is none =
    is.are
    ∙ ap (λ (ms : List Message). message_in link deed ++ ms)
    (none-of is.count is.ons (none-there link old deed is.ons none is.go_on))
    ∙ append-nil (message_in link deed)

pub nothing-else : (link : ℕ) (old end : LinkedSessions) (deeds : List Deed) (messages : List Message)
    (said : AreSaid link old deeds end messages) → NothingOn link old deeds end messages said
    → messages ≡ messages_by link deeds
nothing-else link old end [] messages (same, none) nothing = none
nothing-else link old end (deed ∷ deeds) messages (mid, these, rest, one, is, others, all) (none, later) =
    all ∙ ap (λ (ms : List Message). ms ++ rest) (one-given link old deed these is none)
    ∙ ap (λ (ms : List Message). message_in link deed ++ ms)
    (nothing-else link mid end deeds rest others later)
