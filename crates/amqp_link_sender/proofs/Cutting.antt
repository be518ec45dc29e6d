-- What a message that is cut comes to.
use Rattle.std.proofs.Common.{◌≡◌, ◌⊎◌, inl, inr, ℕ, List, Option, Some, None, Result, Ok, Err, IsSomeAnd, ap, refl}
use Rattle.amqp_link_sender.specs.declared.splitting.SplitRefusal.{SplitRefusal}
use Rattle.amqp_link_sender.specs.declared.splitting.SplitRefusal.TheVariants as split
use Rattle.amqp_session_core.specs.Batch.{Transfers}
use Rattle.amqp_session_performatives.specs.declared.transfer.Transfer.{Transfer}
use Rattle.amqp_link_sender.specs.Splitting.{Splits}
use Rattle.amqp_link_sender.specs.declared.sending.PreparedSend.{PreparedSend}
use Rattle.amqp_link_sender.specs.declared.sending.SendRefusal.{SendRefusal}
use Rattle.amqp_link_sender.specs.declared.sending.SendRefusal.TheVariants.{Memory}
use Rattle.amqp_link_sender.specs.Payloads.{Cuts, Splitting, uncut}
use Rattle.amqp_link_sender.specs.Sending.{Sending}
use Rattle.amqp_link_sender.specs.Sends.{with_room}

-- there are transfers where a frame has room
pub are_split : (o : Option ℕ) (first : Transfer) (payload : List ℕ) (batch : Transfers)
    → IsSomeAnd o (λ room. Splits first payload room batch) → Splitting o first payload (Ok batch)
are_split None first payload batch splits = absurd splits
are_split (Some room) first payload batch splits = splits

-- none where there is no memory for them, or where no frame has room
pub are_not_split : (o : Option ℕ) (first : Transfer) (payload : List ℕ) (e : SplitRefusal) (why : SendRefusal)
    → why ≡ uncut e → (o ≡ None → ◌≡◌ {A = Result Transfers SplitRefusal} (Err e) (Err split.NoRoom))
    → (e ≡ split.Memory) ⊎ ((e ≡ split.NoRoom) × (o ≡ None)) → Splitting o first payload (Err why)
are_not_split None first payload split.NoRoom why told refused only = told
are_not_split None first payload split.Memory why told refused only =
    let never : ◌≡◌ {A = Result Transfers SplitRefusal} (Err split.Memory) (Err split.NoRoom) = refused refl in absurd cc
are_not_split (Some room) first payload split.Memory why told refused only = told
are_not_split (Some room) first payload split.NoRoom why told refused (inl e) = absurd cc
are_not_split (Some room) first payload split.NoRoom why told refused (inr (e, absent)) = absurd cc

pub ruleset splitting = (are_split, are_not_split)

-- a message that isn't cut
pub is_refused : (o : Option ℕ) (ready : PreparedSend) (s : Sending) (why : SendRefusal)
    → Splitting o ready.transfer ready.payload (Err why) → Cuts o ready s (Err why) s
is_refused None ready s why refused = (ap (λ w. Err w) refused, refl)
is_refused (Some room) ready s why refused = (refused, refl)

-- one that is cut, and for which there is no room
pub lacks_room : (o : Option ℕ) (ready : PreparedSend) (s new : Sending) (batch : Transfers)
    → Splitting o ready.transfer ready.payload (Ok batch) → new ≡ s → Cuts o ready s (Err Memory) new
lacks_room None ready s new batch splits same = absurd splits
lacks_room (Some room) ready s new batch splits same = (refl, same)

-- and one for which there is
pub is_cut : (o : Option ℕ) (ready : PreparedSend) (s new : Sending) (batch : Transfers)
    → Splitting o ready.transfer ready.payload (Ok batch) → new ≡ with_room s
    → Cuts o ready s (Ok (record { batch = batch; entry = ready.entry })) new
is_cut None ready s new batch splits room_made = absurd splits
is_cut (Some room) ready s new batch splits room_made = ((splits, refl), room_made)

pub ruleset cutting = (is_refused, lacks_room, is_cut)
