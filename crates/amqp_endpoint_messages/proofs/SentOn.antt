-- The messages of a link are sent on, one after the other, each with a credit of the link.
use Rattle.std.proofs.Common.{◌≡◌, inl, inr, ℕ, suc, Bool, true, false, List, [], ◌∷◌, ◌++◌, Option, Some}
use Rattle.std.proofs.Common.{length, arith, refl, sym, ap, subst, ◌∙◌, append-nil, append_assoc}
use Rattle.std.specs.Prelude.{IsSome, is_some}
use Rattle.amqp_session_types.specs.declared.handles.OutputHandle.{OutputHandle}
use Rattle.amqp_session_performatives.specs.declared.session_frame.SessionFrame.{SessionFrame}
use Rattle.amqp_session_core.specs.Batch.{Transfers}
use Rattle.amqp_session_core.specs.State.{link_at}
use Rattle.amqp_session_core.specs.Told.{TransfersSent}
use Rattle.amqp_link.specs.GoingOn.{HasCreditFor, sent_on}
use Rattle.amqp_link.specs.declared.end.End.{End}
use Rattle.amqp_link.specs.declared.end.End.TheVariants.{Sender, Receiver}
use Rattle.amqp_endpoint_links.specs.declared.numbered.Numbered.{Numbered}
use Rattle.amqp_endpoint_attached.specs.Linked.{LinksIn, end_in, gives}
use Rattle.amqp_endpoint_attached.proofs.There.{end_there, replaced}
use Rattle.amqp_endpoint_messages.specs.GivingUp.{HandsOne}
use Rattle.amqp_endpoint_messages.specs.SendingOn.{AreSentOn, IsSentOn, TakesCredit}

-- the link with this own handle has credit for so many messages
abbrev pub CreditIn : ℕ → OutputHandle → LinksIn → Type 0
CreditIn count handle s = (link : End) × (end_in s handle ≡ Some link) × HasCreditFor count link

pub credit-first : (n : ℕ) (link : End) → HasCreditFor (suc n) link → HasCreditFor 1 link
credit-first n (Sender s) has = omega (arith, has)
credit-first n (Receiver r) has = absurd (omega (arith, has))

credit-after : (n : ℕ) (link : End) → HasCreditFor (suc n) link → HasCreditFor n (sent_on link)
credit-after n (Sender s) has = omega (arith, has)
credit-after n (Receiver r) has = absurd (omega (arith, has))

-- which is that of the session
pub credit-of : (count : ℕ) (s : LinksIn) (handle : OutputHandle) (n : Numbered End) → Some n ≡ link_at s handle.0
    → CreditIn count handle s → HasCreditFor count n.link
credit-of count s handle n there has =
    let same : Some has.0 ≡ Some n.link = sym has.1 ∙ end_there s handle n there in
    subst (HasCreditFor count) (let is : has.0 ≡ n.link = cc in is) has.2

-- it is there
pub has-link : (count : ℕ) (s : LinksIn) (handle : OutputHandle) → CreditIn count handle s → IsSome (end_in s handle)
has-link count s handle has = ap (λ (o : Option End). is_some o) has.1

-- and keeps its credit as long as the links stay
pub credit-kept : (count : ℕ) (old new : LinksIn) (handle : OutputHandle) → new.links ≡ old.links
    → CreditIn count handle old → CreditIn count handle new
credit-kept count old new handle same has =
    subst (λ (links : List (Option (Numbered End))). CreditIn count handle (record old { links = links })) (sym same)
    has

-- of the credit for these messages the first takes one
pub credit-head : (handle : OutputHandle) (s : LinksIn) (batch : Transfers) (batches all : List Transfers)
    → all ≡ batch ∷ batches → CreditIn (length all) handle s → CreditIn 1 handle s
credit-head handle s batch batches all is has = (
  has.0,
  has.1,
  credit-first (length batches) has.0
      (subst (λ (l : List Transfers). HasCreditFor (length l) has.0) is has.2),
)

pub credit-left : (handle : OutputHandle) (old new : LinksIn) (batch : Transfers) (batches all : List Transfers)
    → all ≡ batch ∷ batches → CreditIn (length all) handle old → TakesCredit handle old new
    → CreditIn (length batches) handle new
credit-left handle old new batch batches all is has takes =
    let before : Numbered End = takes.link in
    let after : Numbered End = record before { link = sent_on before.link } in
    let there : link_at new handle.0 ≡ Some after =
    ap (λ (s : LinksIn). link_at s handle.0) takes.changed.1
    ∙ replaced old handle.0 before after (sym takes.changed.0) in
    let credit : HasCreditFor (suc (length batches)) before.link =
    credit-of (suc (length batches)) old handle before (sym takes.changed.0)
    (subst (λ (l : List Transfers). CreditIn (length l) handle old) is has) in
    (sent_on before.link, end_there new handle after (sym there), credit-after (length batches) before.link credit)

-- what waits in the session stays
pub waiting-kept : (handle : OutputHandle) (old new : LinksIn) → TakesCredit handle old new
    → new.outgoing ≡ old.outgoing
waiting-kept handle old new takes = ap (λ (s : LinksIn). s.outgoing) takes.changed.1

-- one more is sent on, before those that are left
pub one-more : (handle : OutputHandle) (batch : Transfers) (batches all : List Transfers) (old taken mid : LinksIn)
    (out out_mid : List SessionFrame) → all ≡ batch ∷ batches → HandsOne handle batch old out true taken out_mid
    → TakesCredit handle taken mid → (stopped : Bool) (new : LinksIn) (out_new : List SessionFrame)
    → AreSentOn handle batches mid out_mid stopped new out_new → AreSentOn handle all old out stopped new out_new
one-more handle batch batches all old taken mid out out_mid is one takes stopped new out_new later =
    let first : IsSentOn handle batch old out mid out_mid =
    record { taken = taken; sends = one; takes = takes } in
    subst (λ (l : List Transfers). AreSentOn handle l old out stopped new out_new) (sym is)
    (inl (mid, out_mid, first, later))

-- or isn't, and it stops
pub stops : (handle : OutputHandle) (batch : Transfers) (batches all : List Transfers) (old new : LinksIn)
    (out out_new : List SessionFrame) → all ≡ batch ∷ batches → HandsOne handle batch old out false new out_new
    → AreSentOn handle all old out true new out_new
stops handle batch batches all old new out out_new is one =
    subst (λ (l : List Transfers). AreSentOn handle l old out true new out_new) (sym is)
    (inr (one.0, one.1, one.2, refl))

-- none is left
pub all-sent : (handle : OutputHandle) (all : List Transfers) (old : LinksIn) (out : List SessionFrame)
    → length all ≡ 0 → AreSentOn handle all old out false old out
all-sent handle [] old out none = (refl, refl, refl)
all-sent handle (batch ∷ batches) old out none = absurd (omega (arith, none))

-- what is handed out stands behind what was handed out before
pub record OnBehind (handle : OutputHandle) (batches : List Transfers) (before out : List SessionFrame) (old : LinksIn)
    (stopped : Bool) (new : LinksIn) (out_new : List SessionFrame) : Type 0 where
  pub on : List SessionFrame
  pub sent : AreSentOn handle batches old out stopped new on
  pub queued : out_new ≡ before ++ on

behind-more : (handle : OutputHandle) (batches : List Transfers) (before out : List SessionFrame) (old new : LinksIn)
    (stopped : Bool) (out_new : List SessionFrame) → AreSentOn handle batches old (before ++ out) stopped new out_new
    → OnBehind handle batches before out old stopped new out_new
behind-more handle [] before out old new stopped out_new sent =
    record { on = out; sent = (sent.0, sent.1, refl); queued = sent.2 }
behind-more handle (batch ∷ batches) before out old new stopped out_new (inl sent) =
    let mid : LinksIn = sent.0 in
    let out_mid : List SessionFrame = sent.1 in
    let one : IsSentOn handle batch old (before ++ out) mid out_mid = sent.2 in
    let gone : TransfersSent gives old (before ++ out) handle batch one.taken out_mid = one.sends in
    let added : out_mid ≡ before ++ (out ++ gone.frames) = gone.added ∙ append_assoc before out gone.frames in
    let later : OnBehind handle batches before (out ++ gone.frames) mid stopped new out_new =
    behind-more handle batches before (out ++ gone.frames) mid new stopped out_new
    (subst (λ (l : List SessionFrame). AreSentOn handle batches mid l stopped new out_new) added sent.3) in
    let first : IsSentOn handle batch old out mid (out ++ gone.frames) =
    record {
      taken = one.taken;
      sends = record { left = gone.left; frames = gone.frames; added = refl; stepped = gone.stepped };
      takes = one.takes;
    } in
    record { on = later.on; sent = inl (mid, out ++ gone.frames, first, later.sent); queued = later.queued }
behind-more handle (batch ∷ batches) before out old new stopped out_new (inr sent) =
    record { on = out; sent = inr (sent.0, sent.1, refl, sent.3); queued = sent.2 }

pub on-behind : (handle : OutputHandle) (batches : List Transfers) (before : List SessionFrame) (old new : LinksIn)
    (stopped : Bool) (out_new : List SessionFrame) → AreSentOn handle batches old before stopped new out_new
    → OnBehind handle batches before [] old stopped new out_new
on-behind handle batches before old new stopped out_new sent =
    behind-more handle batches before [] old new stopped out_new
    (subst (λ (l : List SessionFrame). AreSentOn handle batches old l stopped new out_new) (sym (append-nil before))
    sent)
