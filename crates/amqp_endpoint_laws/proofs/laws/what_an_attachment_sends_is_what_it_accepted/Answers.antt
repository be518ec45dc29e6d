use Rattle.std.proofs.Common.{◌∷◌, ◌++◌, List, ℕ, subst}
use Rattle.amqp_endpoint_laws.specs.Attachments.{attachment, bodies_of, gone_in, uses}
use Rattle.amqp_endpoint_laws.specs.Passed.{sent_in}
use Rattle.amqp_endpoint_laws.specs.Queued.{SayAll, pieces_waiting}
use Rattle.amqp_endpoint_laws.proofs.AttachmentsSent.{attachment-says}
use Rattle.amqp_endpoint_laws.proofs.Opening.{opened-sending}
use Rattle.amqp_endpoint_laws.proofs.laws.what_an_attachment_sends_is_what_it_accepted.Goals as goal

pub returns : goal.returns
returns c = λ sessions old new end settings before since deed number link name first passings handle session
    fresh passed d opens passes held never live.
    let s = opened-sending old new number link name deed d opens in
    subst
    (λ (n : List ℕ). SayAll link old (deed ∷ since) end
    (attachment n (uses n (bodies_of (sent_in first)))
    (bodies_of (sent_in first ++ gone_in deed ++ sent_in passings))
    ++ pieces_waiting handle.0 session.value.session))
    s.named
    (attachment-says c.no_two_links_share_a_handle.ensures.by_deeds
    c.held_links_stand_in_their_sessions.ensures.by_deeds c.links_given_back_go_on.ensures.back
    c.links_given_back_go_on.ensures.left c.links_given_back_go_on.ensures.finished sessions old new end settings before
    since number link deed first passings handle session fresh passed s.opened s.sends d passes held live never)
