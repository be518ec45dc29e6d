-- A message that a link made ready may be sent.
use Rattle.std.proofs.Common.{◌≡◌, inl, inr, ℕ, ◌<◌, ◌==◌, ◌||◌, Bool, true, false, List, length, Option, Some, None, is_some, IfSome, Ok, arith, refl, sym, subst, not, if◌then◌else◌}
use Rattle.std.proofs.lemmas.Bool.{eqb-false}
use Rattle.amqp_link_unsettled.specs.Messages.{open_at}
use Rattle.amqp_link_unsettled.specs.declared.open.Open.{Open}
use Rattle.amqp_link_sender.specs.Room.{room_of}
use Rattle.amqp_link_sender.specs.Payloads.{Cuts, SendsPayload}
use Rattle.amqp_link_sender.specs.Sending.{Sending}
use Rattle.amqp_link_sender.specs.Sends.{refusal, prepared, entry_unless, is_absent, is_too_large, takes_messages, with_room}
use Rattle.amqp_link_sender.specs.declared.payloads.PreparedBatch.{PreparedBatch}
use Rattle.amqp_link_sender.specs.declared.sending.PreparedSend.{PreparedSend}
use Rattle.amqp_link_sender.specs.declared.sending.SendRefusal.{SendRefusal}
use Rattle.amqp_link_sender.specs.declared.sending.SendRefusal.TheVariants.{IllegalState, MessageTooLarge, CreditMissing}

-- where none of four reasons applies, neither the second nor the last does
allowed : (a b c d : Bool)
    → ◌≡◌ {A = Option SendRefusal} (if a || b then Some IllegalState else if c then Some MessageTooLarge else if d then Some CreditMissing else None) None
    → (b ≡ false) × (d ≡ false)
allowed true b c d h = absurd cc
allowed false true c d h = absurd cc
allowed false false true d h = absurd cc
allowed false false false true h = absurd cc
allowed false false false false h = (refl, refl)

none_there : (o : Option Open) → is_some o ≡ false → o ≡ None
none_there None h = refl
none_there (Some m) h = absurd cc

-- what a link that isn't refused is like
record Allows (s : Sending) (tag : List ℕ) : Type 0 where
  pub credit : 0 < s.flow.link_credit
  pub absent : open_at s.messages tag ≡ None

allows : (s : Sending) (tag : List ℕ) (size : ℕ) → refusal s tag size ≡ None → Allows s tag
allows s tag size h =
    let both = allowed (not (takes_messages s.base.local_state)) (is_some (open_at s.messages tag)) (is_too_large s.base.terms.max_message_size size) (s.flow.link_credit == 0) h in
    let there : s.flow.link_credit ≡ 0 → ⊥ = eqb-false s.flow.link_credit 0 both.1 in
    record {
      credit = omega (arith, there);
      absent = none_there (open_at s.messages tag) both.0;
    }

-- what a message that is ready leaves
record IsReady (old new : Sending) (p : PreparedSend) (cut : PreparedBatch) : Type 0 where
  pub roomy : new ≡ with_room old
  pub entry : cut.entry ≡ p.entry

is_cut : (o : Option ℕ) (p : PreparedSend) (old new : Sending) (cut : PreparedBatch)
    → Cuts o p old (Ok cut) new → IsReady old new p cut
is_cut None p old new cut (answer, same) = absurd cc
is_cut (Some room) p old new cut ((splits, entry), roomy) = record { roomy = roomy; entry = entry }

is_ready : (r : Option SendRefusal) (p : PreparedSend) (limit : ℕ) (old new : Sending) (cut : PreparedBatch)
    → SendsPayload r p limit old (Ok cut) new → (r ≡ None) × IsReady old new p cut
is_ready (Some why) p limit old new cut (answer, same) = absurd cc
is_ready None p limit old new cut (inl (answer, same)) = absurd cc
is_ready None p limit old new cut (inr cuts) = (refl, is_cut (room_of p.transfer limit) p old new cut cuts)

absent_unless : (settled : Bool) (tag payload : List ℕ) (format : ℕ) (s : Sending)
    → open_at s.messages tag ≡ None → IfSome (entry_unless settled tag format payload) (λ m. is_absent s m.tag)
absent_unless true tag payload format s absent = tt
absent_unless false tag payload format s absent = absent

-- what a link that made a message ready is like
pub record MayCommit (s : Sending) (entry : Option Open) : Type 0 where
  pub credit : 0 < s.flow.link_credit
  pub room : 0 < s.messages.room
  pub absent : IfSome entry (λ m. is_absent s m.tag)

pub may_commit : (old new : Sending) (tag payload : List ℕ) (format limit : ℕ) (settled : Bool) (cut : PreparedBatch)
    → SendsPayload (refusal old tag (length payload)) (prepared tag format payload settled) limit old (Ok cut) new
    → MayCommit new cut.entry
may_commit old new tag payload format limit settled cut sent =
    let ready = is_ready (refusal old tag (length payload)) (prepared tag format payload settled) limit old new cut sent in
    let allows_it = allows old tag (length payload) ready.0 in
    let there : IfSome (entry_unless settled tag format payload) (λ m. is_absent (with_room old) m.tag)
    = absent_unless settled tag payload format (with_room old) allows_it.absent in
    let P : Option Open → Type 0 = λ e. IfSome e (λ m. is_absent (with_room old) m.tag) in
    let Q : Sending → Type 0 = λ s. MayCommit s cut.entry in
    subst Q (sym ready.1.roomy) (record {
      credit = allows_it.credit;
      room = omega arith;
      absent = subst P (sym ready.1.entry) there;
    })
