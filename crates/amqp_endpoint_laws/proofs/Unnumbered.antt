-- What is told without handing a message out.
use Rattle.std.proofs.Common.{◌≡◌, ℕ, List, [], ◌∷◌, ◌++◌, Bool, true, false, if◌then◌else◌, Option, Some, None}
use Rattle.std.proofs.Common.{refl, ap, ◌∙◌}
use Rattle.std.specs.Prelude.{Result, take}
use Rattle.std.specs.Str.{bytes_eq}
use Rattle.amqp_session_states.specs.declared.outcome.Outcome.{Outcome}
use Rattle.amqp_link_types.specs.declared.refusals.SendError.{SendError}
use Rattle.amqp_link_sender.specs.Results.{send_result}
use Rattle.amqp_endpoint_messages.specs.Told.{outcome_told}
use Rattle.amqp_session_types.specs.declared.error.Error.{Error}
use Rattle.amqp_session_core.specs.declared.dispositions.Touched.{Touched}
use Rattle.amqp_session_core.specs.State.{link_at}
use Rattle.amqp_link_unsettled.specs.declared.resolution.Resolution.{Resolution}
use Rattle.amqp_link.specs.declared.end.End.{End}
use Rattle.amqp_link.specs.declared.end.End.TheVariants.{Sender, Receiver}
use Rattle.amqp_endpoint_links.specs.declared.numbered.Numbered.{Numbered}
use Rattle.amqp_endpoint_model.specs.declared.event.Event.{Event}
use Rattle.amqp_endpoint_attached.specs.Linked.{LinksIn}
use Rattle.amqp_endpoint_messages.specs.All.{all_told, first_told, told_by}
use Rattle.amqp_endpoint_messages.specs.Reached.{behind_one, end_told, link_told, reached_told}
use Rattle.amqp_endpoint_messages.specs.Reached as reached
use Rattle.amqp_endpoint_laws.specs.Telling.{numbers_told}
use Rattle.amqp_endpoint_laws.proofs.Serials.{numbers-append}

-- no message is among these
abbrev pub Unnumbered : List Event → Type 0
Unnumbered events = numbers_told events ≡ []

pub both-unnumbered : (events others : List Event) → Unnumbered events → Unnumbered others
    → Unnumbered (events ++ others)
both-unnumbered events others a b =
    numbers-append events others ∙ ap (λ (ns : List ℕ). ns ++ numbers_told others) a ∙ b

all-unnumbered : (number : ℕ) (error : Option Error) (ended : List (List ℕ × Resolution))
    → Unnumbered (all_told number error ended)
all-unnumbered number error [] = refl
all-unnumbered number error (one ∷ others) = all-unnumbered number error others

pub by-unnumbered : (number : ℕ) (error : Option Error) (count : ℕ) (end : End)
    → Unnumbered (told_by number error count end)
by-unnumbered number error count (Sender s) = all-unnumbered number error (take count s.messages.resolved)
by-unnumbered number error count (Receiver r) = refl

pub first-unnumbered : (count : ℕ) (error : Option Error) (link : Option (Numbered End))
    → Unnumbered (first_told count error link)
first-unnumbered count error None = refl
first-unnumbered count error (Some link) = by-unnumbered link.number error count link.link

if-unnumbered : (number : ℕ) (tag : List ℕ) (result : Result Outcome SendError) (is : Bool)
    → Unnumbered (if is then outcome_told number tag result else [])
if-unnumbered number tag result true = refl
if-unnumbered number tag result false = refl

ended-unnumbered : (number : ℕ) (tag : List ℕ) (ended : List (List ℕ × Resolution))
    → Unnumbered (reached.first_told number tag ended)
ended-unnumbered number tag [] = refl
ended-unnumbered number tag (one ∷ others) =
    if-unnumbered number one.0 (send_result None one.1) (bytes_eq tag one.0)

end-unnumbered : (number : ℕ) (tag : List ℕ) (end : End) → Unnumbered (end_told number tag end)
end-unnumbered number tag (Sender s) = ended-unnumbered number tag s.messages.resolved
end-unnumbered number tag (Receiver r) = refl

link-unnumbered : (tag : List ℕ) (link : Option (Numbered End)) → Unnumbered (link_told tag link)
link-unnumbered tag None = refl
link-unnumbered tag (Some link) = end-unnumbered link.number tag link.link

pub reached-unnumbered : (s : LinksIn) (deliveries : List Touched) → Unnumbered (reached_told s deliveries)
reached-unnumbered s [] = refl
reached-unnumbered s (one ∷ others) =
    both-unnumbered (link_told one.tag (link_at s one.handle.0)) (reached_told (behind_one s one) others)
    (link-unnumbered one.tag (link_at s one.handle.0)) (reached-unnumbered (behind_one s one) others)
