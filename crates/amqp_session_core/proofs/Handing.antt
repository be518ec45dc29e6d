-- How frames are handed out, one after another.
use Rattle.std.proofs.Common.{◌≡◌, ℕ, ◌+◌, ◌%◌, ◌^◌, List, [], ◌∷◌, ◌++◌, Bool, true, false, ◌||◌, length, reverse, refl, sym, ◌∙◌, ap, arith, if◌then◌else◌}
use Rattle.std.proofs.lemmas.List.{reverse-append, append_assoc}
use Rattle.amqp_session_performatives.specs.declared.session_frame.SessionFrame.{SessionFrame}
use Rattle.amqp_session_outgoing.specs.Frames.{sent_count}
use Rattle.amqp_session_outgoing.specs.declared.frames.Sent.{Sent}
use Rattle.amqp_session_core.specs.declared.fields.SessionFields.{SessionFields}
use Rattle.amqp_session_core.specs.declared.batch.TransferFrame.{TransferFrame}
use Rattle.amqp_session_core.specs.declared.batch.BehindFrame.{BehindFrame}
use Rattle.amqp_session_core.specs.Frames.{Left, frames_behind, frames_sent, frames_left, has_flow, says_flow}

pub has_flow-append : (xs ys : List SessionFrame) → has_flow (xs ++ ys) ≡ (has_flow xs || has_flow ys)
has_flow-append [] ys = refl
has_flow-append (x ∷ xs) ys = by (says_flow x.body) (has_flow-append xs ys)
  where
    by : (b : Bool) → has_flow (xs ++ ys) ≡ (has_flow xs || has_flow ys) → (if b then true else has_flow (xs ++ ys)) ≡ ((if b then true else has_flow xs) || has_flow ys)
    by true e = refl
    by false e = e

length-behind : (f : SessionFields) (number : ℕ) (bs : List BehindFrame) → length (frames_behind f number bs) ≡ length bs
length-behind f number [] = refl
length-behind f number (b ∷ bs) = omega (arith, length-behind f number bs)

pub length-sent : (f : SessionFields) (s : Sent TransferFrame BehindFrame) → length (frames_sent f s) ≡ 1 + length s.behind
length-sent f s = omega (arith, length-behind f ((s.number + 1) % 2 ^ 32) s.behind)

or-assoc : (a b c : Bool) → ((a || b) || c) ≡ (a || (b || c))
or-assoc true b c = refl
or-assoc false b c = refl

-- the last one goes first where the order is turned round
pub turned : {X : Type 0} (xs rest : List X) (x : X) → xs ≡ rest ++ x ∷ [] → reverse xs ≡ x ∷ reverse rest
turned xs rest x is = ap (λ l. reverse l) is ∙ reverse-append rest (x ∷ [])

module _ (f : SessionFields) (s : Sent TransferFrame BehindFrame) (before rest all : Left) (out out_new start : List SessionFrame) (flows flows_new : Bool) (is : before ≡ s ∷ rest) where
  pub frames-on : out_new ≡ out ++ frames_sent f s → out ++ frames_left f before ≡ start ++ frames_left f all → out_new ++ frames_left f rest ≡ start ++ frames_left f all
  frames-on new inv =
      ap (λ l. l ++ frames_left f rest) new ∙ append_assoc out (frames_sent f s) (frames_left f rest) ∙ ap (λ (l : Left). out ++ frames_left f l) (sym is) ∙ inv

  pub flows-on : flows_new ≡ has_flow (frames_sent f s) → (flows || has_flow (frames_left f before)) ≡ has_flow (frames_left f all) → ((flows || flows_new) || has_flow (frames_left f rest)) ≡ has_flow (frames_left f all)
  flows-on new inv =
      ap (λ b. (flows || b) || has_flow (frames_left f rest)) new
      ∙ or-assoc flows (has_flow (frames_sent f s)) (has_flow (frames_left f rest))
      ∙ ap (λ b. flows || b) (sym (has_flow-append (frames_sent f s) (frames_left f rest)))
      ∙ ap (λ (l : Left). flows || has_flow (frames_left f l)) (sym is) ∙ inv

  pub count-on : sent_count before ≡ 1 + length s.behind + sent_count rest
  count-on = ap (λ (l : Left). sent_count l) is ∙ omega arith
