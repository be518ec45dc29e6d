use Rattle.std.proofs.Common.{◌≡◌, ℕ, ◌++◌, ◌-◌, ◌≤◌, List, [], ◌∷◌, Bool, length, length-append, ap, sym, refl, ◌∙◌, subst, append_assoc, append-nil, arith, min}
use Rattle.std.specs.Prelude.{map, max}
use Rattle.std.specs.List.{concat}
use Rattle.std.specs.Int.{div_ceil}
use Rattle.std.proofs.lemmas.List.Elements.{All-push, All-append}
use Rattle.amqp_session_performatives.specs.declared.transfer.Transfer.{Transfer}
use Rattle.amqp_session_outgoing.specs.declared.frames.Outbound.{Outbound}
use Rattle.amqp_session_core.specs.declared.batch.TransferFrame.{TransferFrame}
use Rattle.amqp_session_core.specs.declared.batch.BehindFrame.{BehindFrame}
use Rattle.amqp_session_core.specs.Batch.{Transfers, first_of}
use Rattle.amqp_link_sender.specs.Splitting.{bytes_of, some_left, Splits}
use Rattle.amqp_link_sender.proofs.Splits.{split-of}
use Rattle.amqp_link_sender.proofs.splitting.cut_up.Goals as goal

pub returns : goal.returns
returns c =
    let left : List ℕ = c.split_to.new.self in
    let front : List ℕ = c.in_ok-front.front in
    let least : c.min.result ≡ min (length c.args.payload) c.args.room = c.min.ensures
    ∙ ap (λ (k : ℕ). min k c.args.room) c.len.ensures.value in
    let all : c.push_rest.new.batch
    ≡ first_of (record c.args.first { more = some_left left }) front ∷ c.in_ok-push_rest.ensures.0 =
    c.in_ok-push_rest.ensures.1 ∙ ap (λ (l : Transfers). l ++ c.in_ok-push_rest.ensures.0)
    (c.in_ok-push_first.ensures.ok
    ∙ ap (λ (l : Transfers). l ++ first_of (record c.args.first { more = c.is_left.result }) front ∷ [])
    c.clear.ensures
    ∙ ap (λ (b : Bool). first_of (record c.args.first { more = b }) front ∷ []) c.is_left.ensures) in
    let P : Transfers → Type 0 = λ l. Splits c.args.first c.args.payload c.args.room l in
    subst P (sym all) (split-of c.args.first c.args.payload front left c.min.result c.args.room
    c.in_ok-push_rest.ensures.0 c.requires c.in_ok-front.ensures.front c.in_ok-front.ensures.rest least
    c.in_ok-push_rest.ensures.2)
