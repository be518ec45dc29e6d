-- The messages that an endpoint's links keep, by the numbers that the endpoint gave them (part 2, 2.6.12).
use Rattle.std.specs.Prelude.{ℕ, zero, suc, ◌||◌, ◌++◌, Bool, false, List, [], ◌∷◌, Option, Some, None, is_some}
use Rattle.std.specs.Option.{option_to_list}
use Rattle.amqp_link_receiver.specs.Numbering.{tag_of}
use Rattle.amqp_link.specs.declared.end.End.{End}
use Rattle.amqp_link.specs.declared.end.End.TheVariants.{Receiver}
use Rattle.amqp_endpoint_tables.specs.LinkState.{place_at}
use Rattle.amqp_endpoint_link_calls.specs.Places.{LinksBy, LinkTalk, end_of}

-- the tag of the message with this number, where a link keeps it: only a receiving link keeps messages that came
abbrev pub kept_tag : Option End → ℕ → Option (List ℕ)
kept_tag (Some (Receiver r)) message = tag_of r.end.unsettled message
kept_tag link message = None

-- the tags of those of the messages that it keeps, in the order in which they are named
abbrev pub kept_tags : Option End → List ℕ → List (List ℕ)
kept_tags link [] = []
kept_tags link (message ∷ messages) = option_to_list (kept_tag link message) ++ kept_tags link messages

-- whether a link keeps the message
abbrev pub keeps : Option End → ℕ → Bool
keeps link message = is_some (kept_tag link message)

-- whether one of the endpoint's first so many links keeps it, in its session or at rest
abbrev pub one_keeps : LinkTalk → LinksBy → ℕ → ℕ → Bool
one_keeps talk links zero message = false
one_keeps talk links (suc number) message =
    keeps (end_of talk (place_at links number)) message || one_keeps talk links number message
