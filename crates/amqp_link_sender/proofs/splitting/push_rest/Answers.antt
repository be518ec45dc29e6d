use Rattle.std.proofs.Common.{◌≡◌, ℕ, ◌++◌, ◌-◌, ◌≤◌, List, [], ◌∷◌, Bool, true, false, length, length-append, ap, sym, refl, ◌∙◌, subst, append_assoc, append-nil, arith, min}
use Rattle.std.specs.Prelude.{map}
use Rattle.std.specs.List.{concat}
use Rattle.std.specs.Int.{div_ceil}
use Rattle.std.proofs.lemmas.List.Elements.{All-push}
use Rattle.amqp_session_performatives.specs.declared.transfer.Transfer.{Transfer}
use Rattle.amqp_session_outgoing.specs.declared.frames.Outbound.{Outbound}
use Rattle.amqp_session_core.specs.declared.batch.TransferFrame.{TransferFrame}
use Rattle.amqp_session_core.specs.declared.batch.BehindFrame.{BehindFrame}
use Rattle.amqp_session_core.specs.Batch.{Transfers, continuation_of}
use Rattle.amqp_link_sender.specs.Splitting.{bytes_of, later, some_left}
use Rattle.amqp_link_sender.proofs.Counting.{ceil-none, ceil-step, none-yet, one-more, all-counted}
use Rattle.amqp_link_sender.proofs.Pushing.{AreSoFar, pushed, all-later, bytes-pushed, none-left, some-long, parted}
use Rattle.amqp_link_sender.proofs.Pushing.{piece-short, left-size, left-smaller}
use Rattle.amqp_link_sender.proofs.splitting.push_rest.Goals as goal

pub loop-alloc-init : goal.loop-alloc-init
loop-alloc-init c = record {
  added = [];
  joined = sym (append-nil c.args.batch.now);
  later = tt;
  bytes = refl;
  within = λ k d h. absurd (omega arith);
  count = none-yet (div_ceil (length c.args.payload) c.args.room);
}

pub loop-alloc-preserved : goal.loop-alloc-preserved
loop-alloc-preserved c =
    let inv = c.loop-alloc.invariant in
    let rest : List ℕ = c.loop-alloc.rest in
    let left : List ℕ = c.split_to.new.self in
    let piece : List ℕ = c.in_ok-piece.piece in
    let least : c.min.result ≡ min (length rest) c.args.room = c.min.ensures ∙ ap (λ (k : ℕ). min k c.args.room) c.len.ensures.value in
    let some : some_left rest ≡ true = sym c.is_left.ensures ∙ c.loop-alloc-test.true in
    let u : Outbound TransferFrame BehindFrame = continuation_of (later c.args.handle (some_left left)) piece in
    let P : Bool → Type 0 = λ b. AreSoFar c.args.handle b inv.added in
    record {
      added = inv.added ++ u ∷ [];
      joined = c.in_ok-push_continuation.ensures.ok
          ∙ ap (λ (t : Transfer). c.loop-alloc.batch ++ continuation_of t piece ∷ []) (c.later.ensures ∙ ap (λ (b : Bool). later c.args.handle b) c.is_left-more.ensures)
          ∙ ap (λ (l : Transfers). l ++ u ∷ []) inv.joined ∙ append_assoc c.args.batch.now inv.added (u ∷ []);
      later = pushed c.args.handle (some_left left) inv.added piece (subst P some inv.later);
      bytes = ap (λ (l : List ℕ). l ++ left) (bytes-pushed inv.added u) ∙ append_assoc (concat (map bytes_of inv.added)) piece left
          ∙ ap (λ (l : List ℕ). concat (map bytes_of inv.added) ++ l) (parted rest piece left c.min.result c.in_ok-piece.ensures.front c.in_ok-piece.ensures.rest) ∙ inv.bytes;
      within = All-push (λ (x : Outbound TransferFrame BehindFrame). length (bytes_of x) ≤ c.args.room) inv.added u inv.within (piece-short rest piece c.min.result c.args.room c.in_ok-piece.ensures.front least);
      count = one-more (length (inv.added ++ u ∷ [])) (length inv.added) (div_ceil (length rest) c.args.room) (div_ceil (length rest - min (length rest) c.args.room) c.args.room)
          (div_ceil (length left) c.args.room) (div_ceil (length c.args.payload) c.args.room) (length-append inv.added (u ∷ [])) inv.count (ceil-step (length rest) c.args.room c.requires (some-long rest some))
          (ap (λ (n : ℕ). div_ceil n c.args.room) (left-size rest left c.min.result c.args.room c.in_ok-piece.ensures.rest least));
    }

pub loop-alloc-smaller : goal.loop-alloc-smaller
loop-alloc-smaller c =
    let rest : List ℕ = c.loop-alloc.rest in
    let least : c.min.result ≡ min (length rest) c.args.room = c.min.ensures ∙ ap (λ (k : ℕ). min k c.args.room) c.len.ensures.value in
    let some : some_left rest ≡ true = sym c.is_left.ensures ∙ c.loop-alloc-test.true in
    left-smaller rest c.split_to.new.self c.min.result c.args.room c.in_ok-piece.ensures.rest least c.requires (some-long rest some)

pub returns : goal.returns
returns c =
    let inv = c.loop-alloc.invariant in
    let rest : List ℕ = c.loop-alloc.rest in
    let done : some_left rest ≡ false = sym c.is_left.ensures ∙ c.loop-alloc-test.false in
    let none : rest ≡ [] = none-left rest done in
    let P : Bool → Type 0 = λ b. AreSoFar c.args.handle b inv.added in (
      inv.added,
      inv.joined,
      record {
        later = all-later c.args.handle inv.added (subst P done inv.later);
        bytes = sym (append-nil (concat (map bytes_of inv.added))) ∙ ap (λ (l : List ℕ). concat (map bytes_of inv.added) ++ l) (sym none) ∙ inv.bytes;
        within = inv.within;
        count = all-counted (length inv.added) (div_ceil (length rest) c.args.room) (div_ceil (length c.args.payload) c.args.room) inv.count (ap (λ (l : List ℕ). div_ceil (length l) c.args.room) none ∙ ceil-none c.args.room c.requires);
      },
    )
