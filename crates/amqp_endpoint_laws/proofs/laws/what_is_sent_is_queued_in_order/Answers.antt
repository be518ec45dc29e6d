use Rattle.std.proofs.Common.{List, ◌∷◌, ℕ, subst, sym, ◌∙◌}
use Rattle.amqp_endpoint_conversation.specs.Windows.{Passing}
use Rattle.amqp_endpoint_link_calls.specs.Naming.{name_of}
use Rattle.amqp_endpoint_laws.specs.Attachments.{gone_in}
use Rattle.amqp_endpoint_laws.specs.Queued.{AttachesFirst, SayAll, queued}
use Rattle.amqp_endpoint_laws.proofs.AttachmentsCalled.{one-name}
use Rattle.amqp_endpoint_laws.proofs.Opening.{opened}
use Rattle.amqp_endpoint_laws.proofs.QueuedAttached.{attaches-first, says-all}
use Rattle.amqp_endpoint_laws.proofs.QueuedCalled.{says-called}
use Rattle.amqp_endpoint_laws.proofs.QueuedGiven.{nothing-else}
use Rattle.amqp_endpoint_laws.proofs.laws.what_is_sent_is_queued_in_order.Goals as goal

pub returns-clause-says : goal.returns-clause-says
returns-clause-says c = λ sessions old end settings before since deed number link passings handle session fresh done
    opens passes held never live.
    let (new, later, d, others, is) = passes in
    subst (λ (ps : List Passing). SayAll link old (deed ∷ since) end (queued handle ps session.value.session)) (sym is)
    (says-all c.no_two_links_share_a_handle.ensures.by_deeds c.held_links_stand_in_their_sessions.ensures.by_deeds
    c.links_given_back_go_on.ensures.back c.links_given_back_go_on.ensures.left
    c.links_given_back_go_on.ensures.finished sessions old new end settings before since number link deed later handle
    fresh done (opened old new number link deed d opens) d others held never session live)

pub returns-clause-given : goal.returns-clause-given
returns-clause-given c = nothing-else

pub returns-clause-attaches : goal.returns-clause-attaches
returns-clause-attaches c = λ sessions old new end settings before since deed number link passings handle name
    fresh done d opens passes held never is.
    let o = opened old new number link deed d opens in
    subst (λ (n : List ℕ). AttachesFirst handle n (gone_in deed)) (one-name (name_of o.it) name (sym o.named ∙ is))
    (attaches-first c.no_two_links_share_a_handle.ensures.by_deeds
    c.held_links_stand_in_their_sessions.ensures.by_deeds c.links_given_back_go_on.ensures.back
    c.links_given_back_go_on.ensures.left c.links_given_back_go_on.ensures.finished sessions old new end settings before
    since number link deed passings handle fresh done o d passes held never)

pub returns-clause-by_calls : goal.returns-clause-by_calls
returns-clause-by_calls c = λ sessions settings calls told end link n number it answer handle session new run is opens
    never held live.
    says-called c.links_given_back_go_on.ensures.back c.links_given_back_go_on.ensures.left
    c.links_given_back_go_on.ensures.finished c.no_two_links_share_a_handle.ensures.by_deeds
    c.held_links_stand_in_their_sessions.ensures.by_deeds sessions settings calls told end link n number it answer
    handle session new run opens never is held live
