-- The sender's limit stays at or below the receiver's, and each moves on by less than 2^31.
use Rattle.std.proofs.Common.{◌≡◌, ℕ, ◌+◌, ◌<◌, ◌≤◌, ◌%◌, ◌^◌, List, [], ◌∷◌, ◌++◌, Bool, true, false, ap, sym, refl, ◌∙◌, arith, subst}
use Rattle.std.specs.Prelude.{Some, None, option_map, ◌||◌, if◌then◌else◌}
use Rattle.amqp_session_types.specs.declared.handles.OutputHandle.{OutputHandle}
use Rattle.amqp_session_performatives.specs.declared.link_flow.LinkFlow.{LinkFlow}
use Rattle.amqp_link_base.specs.declared.inner.LinkFlowStateInner.{LinkFlowStateInner}
use Rattle.amqp_link_base.specs.Flows.{sender_flowed, sender_answer, receiver_flowed, receiver_answer, consumed}
use Rattle.amqp_link_base.specs.Flows.{granted, draining, shown, StandsAt, credit_limit, ahead}
use Rattle.amqp_link_base.specs.World.{FromSender, Message, Tells, World, Act, Sends, Grants, Drains, SenderTells}
use Rattle.amqp_link_base.specs.World.{ReceiverTells, SenderTakes, ReceiverTakes, begun, behind, Shows, SenderTakesOf}
use Rattle.amqp_link_base.specs.World.{ReceiverTakesOf, Step, Runs}
use Rattle.amqp_link_base.proofs.Ends.{sender-takes, sender-drained, receiver-keeps, consumed-keeps, limit-moves}

-- what is on its way to the receiver leads it from one count to another
abbrev Carries : ℕ → List FromSender → ℕ → Type 0
Carries got [] sent = got ≡ sent
Carries got (Message ∷ items) sent = Carries (got + 1) items sent
Carries got (Tells f ∷ items) sent = (count : ℕ) × (f.delivery_count ≡ Some (count % 2 ^ 32)) × (got ≤ count) × Carries count items sent

-- the Flows on their way to the sender move its limit on, and none goes past the receiver's
abbrev Announces : ℕ → ℕ → List LinkFlow → ℕ → Type 0
Announces got limit [] last = limit ≤ last
Announces got limit (f ∷ flows) last =
    (count : ℕ) × (credit : ℕ) × (f.delivery_count ≡ Some (count % 2 ^ 32)) × (f.link_credit ≡ Some credit) × (count ≤ got) × (credit < 2 ^ 31) × (limit ≤ count + credit)
    × Announces got (count + credit) flows last

record Holds (w : World) : Type 0 where
  sent : ℕ
  got : ℕ
  sender : StandsAt w.sender sent
  receiver : StandsAt w.receiver got
  small : w.receiver.link_credit < 2 ^ 31
  carries : Carries got w.to_receiver sent
  announces : Announces got (sent + w.sender.link_credit) w.to_sender (got + w.receiver.link_credit)

-- what holds goes on to hold, and each limit moves on by less than 2^31
record Moved (old : World) (h : Holds old) (new : World) : Type 0 where
  holds : Holds new
  receiver-on : h.got + old.receiver.link_credit ≤ holds.got + new.receiver.link_credit
  receiver-near : holds.got + new.receiver.link_credit < h.got + old.receiver.link_credit + 2 ^ 31
  sender-on : h.sent + old.sender.link_credit ≤ holds.sent + new.sender.link_credit
  sender-near : holds.sent + new.sender.link_credit < h.sent + old.sender.link_credit + 2 ^ 31

carries-le : (got : ℕ) (items : List FromSender) (sent : ℕ) → Carries got items sent → got ≤ sent
carries-le got [] sent h = omega arith
carries-le got (Message ∷ items) sent h = let rest : got + 1 ≤ sent = carries-le (got + 1) items sent h in omega arith
carries-le got (Tells f ∷ items) sent h = let rest : h.0 ≤ sent = carries-le h.0 items sent h.3 in let first : got ≤ h.0 = h.2 in omega arith

carries-append : (got : ℕ) (items more : List FromSender) (mid sent : ℕ) → Carries got items mid → Carries mid more sent → Carries got (items ++ more) sent
carries-append got [] more mid sent h g = let P : ℕ → Type 0 = λ n. Carries n more sent in subst P (sym h) g
carries-append got (Message ∷ items) more mid sent h g = carries-append (got + 1) items more mid sent h g
carries-append got (Tells f ∷ items) more mid sent h g = (h.0, h.1, h.2, carries-append h.0 items more mid sent h.3 g)

announces-le : (got limit : ℕ) (flows : List LinkFlow) (last : ℕ) → Announces got limit flows last → limit ≤ last
announces-le got limit [] last h = h
announces-le got limit (f ∷ flows) last h =
    let rest : h.0 + h.1 ≤ last = announces-le got (h.0 + h.1) flows last h.7 in
    let first : limit ≤ h.0 + h.1 = h.6 in
    omega arith

-- the receiver counts on, and gives more
announces-later : (got later limit : ℕ) (flows : List LinkFlow) (last more : ℕ) → got ≤ later → last ≤ more → Announces got limit flows last → Announces later limit flows more
announces-later got later limit [] last more le on h = let here : limit ≤ last = h in omega arith
announces-later got later limit (f ∷ flows) last more le on h =
    let first : h.0 ≤ got = h.4 in
    (h.0, h.1, h.2, h.3, omega arith, h.5, h.6, announces-later got later (h.0 + h.1) flows last more le on h.7)

-- a Flow that shows the receiver as it is
announces-append : (got limit : ℕ) (flows : List LinkFlow) (credit : ℕ) (f : LinkFlow) → f.delivery_count ≡ Some (got % 2 ^ 32) → f.link_credit ≡ Some credit → credit < 2 ^ 31
    → Announces got limit flows (got + credit) → Announces got limit (flows ++ f ∷ []) (got + credit)
announces-append got limit [] credit f c e small h = (got, credit, c, e, omega arith, small, h, omega arith)
announces-append got limit (x ∷ flows) credit f c e small h =
    (h.0, h.1, h.2, h.3, h.4, h.5, h.6, announces-append got (h.0 + h.1) flows credit f c e small h.7)

-- a sender that takes a Flow: where it comes to, and that its limit is the Flow's
record Flowed (old : LinkFlowStateInner) (flow : LinkFlow) (own goal : ℕ) : Type 0 where
  count : ℕ
  on : own ≤ count
  stands : StandsAt (sender_flowed old flow) count
  limit : count + (sender_flowed old flow).link_credit ≡ goal
  same : flow.drain ≡ false → own ≡ count

flowed : (b : Bool) (old : LinkFlowStateInner) (flow : LinkFlow) (own theirs credit : ℕ) → flow.drain ≡ b → StandsAt old own → flow.delivery_count ≡ Some (theirs % 2 ^ 32)
    → flow.link_credit ≡ Some credit → theirs ≤ own → own ≤ theirs + credit → credit < 2 ^ 31 → Flowed old flow own (theirs + credit)
flowed false old flow own theirs credit e s c d le ge small =
    let r = sender-takes old flow own theirs credit s c d le ge small e in
    record { count = own; on = omega arith; stands = r.0; limit = r.1; same = λ f. refl }
flowed true old flow own theirs credit e s c d le ge small =
    let r = sender-drained old flow own theirs credit s c d le ge small e in
    let zero : (sender_flowed old flow).link_credit ≡ 0 = r.1 in
    record { count = theirs + credit; on = ge; stands = r.0; limit = omega arith; same = λ f. absurd (let x : true ≡ false = sym e ∙ f in cc) }

-- what the sender answers leads the receiver to where the sender has come
carries-answer : (drain echo : Bool) (got own count : ℕ) (items : List FromSender) (handle : OutputHandle) (new : LinkFlowStateInner) → own ≤ count → StandsAt new count
    → (drain ≡ false → own ≡ count) → Carries got items own → Carries got (behind items (option_map Tells (if drain || echo then Some (shown handle false new) else None))) count
carries-answer true echo got own count items handle new le s same h =
    carries-append got items (Tells (shown handle false new) ∷ []) own count h (count, ap (λ (n : ℕ). Some n) s, le, refl)
carries-answer false true got own count items handle new le s same h =
    carries-append got items (Tells (shown handle false new) ∷ []) own count h (count, ap (λ (n : ℕ). Some n) s, le, refl)
carries-answer false false got own count items handle new le s same h = let P : ℕ → Type 0 = λ n. Carries got items n in subst P (same refl) h

-- what the receiver answers shows it as it is
announces-answer : (echo : Bool) (got limit : ℕ) (flows : List LinkFlow) (handle : OutputHandle) (new : LinkFlowStateInner) → StandsAt new got → new.link_credit < 2 ^ 31
    → Announces got limit flows (got + new.link_credit) → Announces got limit (behind flows (if echo then Some (shown handle false new) else None)) (got + new.link_credit)
announces-answer true got limit flows handle new s small h =
    announces-append got limit flows new.link_credit (shown handle false new) (ap (λ (n : ℕ). Some n) s) refl small h
announces-answer false got limit flows handle new s small h = h

sends : (w : World) (h : Holds w) → 1 ≤ w.sender.link_credit → Moved w h (record w { sender = consumed w.sender 1; to_receiver = w.to_receiver ++ Message ∷ [] })
sends w h some =
    let r = consumed-keeps w.sender h.sent 1 h.sender some in
    let kept : (h.sent + 1) + (consumed w.sender 1).link_credit ≡ h.sent + w.sender.link_credit = r.1 in
    let P : ℕ → Type 0 = λ n. Announces h.got n w.to_sender (h.got + w.receiver.link_credit) in
    record {
      holds = record {
        sent = h.sent + 1;
        got = h.got;
        sender = r.0;
        receiver = h.receiver;
        small = h.small;
        carries = carries-append h.got w.to_receiver (Message ∷ []) h.sent (h.sent + 1) h.carries refl;
        announces = subst P (sym r.1) h.announces;
      };
      receiver-on = omega arith;
      receiver-near = omega arith;
      sender-on = omega arith;
      sender-near = omega arith;
    }

grants : (w : World) (h : Holds w) (credit : ℕ) → w.receiver.link_credit ≤ credit → credit < 2 ^ 31 → Moved w h (record w { receiver = granted w.receiver credit })
grants w h credit on small =
    record {
      holds = record {
        sent = h.sent;
        got = h.got;
        sender = h.sender;
        receiver = h.receiver;
        small = small;
        carries = h.carries;
        announces = announces-later h.got h.got (h.sent + w.sender.link_credit) w.to_sender (h.got + w.receiver.link_credit) (h.got + credit) (omega arith) (omega arith) h.announces;
      };
      receiver-on = omega arith;
      receiver-near = omega arith;
      sender-on = omega arith;
      sender-near = omega arith;
    }

drains : (w : World) (h : Holds w) → Moved w h (record w { receiver = draining w.receiver })
drains w h =
    record {
      holds = record { sent = h.sent; got = h.got; sender = h.sender; receiver = h.receiver; small = h.small; carries = h.carries; announces = h.announces };
      receiver-on = omega arith;
      receiver-near = omega arith;
      sender-on = omega arith;
      sender-near = omega arith;
    }

sender-tells : (w : World) (h : Holds w) (flow : LinkFlow) → Shows w.sender flow → Moved w h (record w { to_receiver = w.to_receiver ++ Tells flow ∷ [] })
sender-tells w h flow shows =
    let late : h.got ≤ h.sent = carries-le h.got w.to_receiver h.sent h.carries in
    record {
      holds = record {
        sent = h.sent;
        got = h.got;
        sender = h.sender;
        receiver = h.receiver;
        small = h.small;
        carries = carries-append h.got w.to_receiver (Tells flow ∷ []) h.sent h.sent h.carries (h.sent, shows.0 ∙ ap (λ (n : ℕ). Some n) h.sender, omega arith, refl);
        announces = h.announces;
      };
      receiver-on = omega arith;
      receiver-near = omega arith;
      sender-on = omega arith;
      sender-near = omega arith;
    }

receiver-tells : (w : World) (h : Holds w) (flow : LinkFlow) → Shows w.receiver flow → Moved w h (record w { to_sender = w.to_sender ++ flow ∷ [] })
receiver-tells w h flow shows =
    record {
      holds = record {
        sent = h.sent;
        got = h.got;
        sender = h.sender;
        receiver = h.receiver;
        small = h.small;
        carries = h.carries;
        announces = announces-append h.got (h.sent + w.sender.link_credit) w.to_sender w.receiver.link_credit flow (shows.0 ∙ ap (λ (n : ℕ). Some n) h.receiver) shows.1 h.small h.announces;
      };
      receiver-on = omega arith;
      receiver-near = omega arith;
      sender-on = omega arith;
      sender-near = omega arith;
    }

same : (w : World) (h : Holds w) → Moved w h w
same w h = record { holds = h; receiver-on = omega arith; receiver-near = omega arith; sender-on = omega arith; sender-near = omega arith }

sender-flowed : (w : World) (h : Holds w) (flow : LinkFlow) (flows : List LinkFlow) (handle : OutputHandle) → w.to_sender ≡ flow ∷ flows
    → Moved w h (record w { sender = sender_flowed w.sender flow; to_sender = flows; to_receiver = behind w.to_receiver (option_map Tells (sender_answer flow handle (sender_flowed w.sender flow))) })
sender-flowed w h flow flows handle e =
    let Q : List LinkFlow → Type 0 = λ l. Announces h.got (h.sent + w.sender.link_credit) l (h.got + w.receiver.link_credit) in
    let a = subst Q e h.announces in
    let late : h.got ≤ h.sent = carries-le h.got w.to_receiver h.sent h.carries in
    let theirs : a.0 ≤ h.got = a.4 in
    let little : a.1 < 2 ^ 31 = a.5 in
    let reaches : h.sent + w.sender.link_credit ≤ a.0 + a.1 = a.6 in
    let fl = flowed flow.drain w.sender flow h.sent a.0 a.1 refl h.sender a.2 a.3 (omega arith) (omega arith) a.5 in
    let goal : fl.count + (sender_flowed w.sender flow).link_credit ≡ a.0 + a.1 = fl.limit in
    let P : ℕ → Type 0 = λ n. Announces h.got n flows (h.got + w.receiver.link_credit) in
    record {
      holds = record {
        sent = fl.count;
        got = h.got;
        sender = fl.stands;
        receiver = h.receiver;
        small = h.small;
        carries = carries-answer flow.drain flow.echo h.got h.sent fl.count w.to_receiver handle (sender_flowed w.sender flow) fl.on fl.stands fl.same h.carries;
        announces = subst P (sym fl.limit) a.7;
      };
      receiver-on = omega arith;
      receiver-near = omega arith;
      sender-on = omega arith;
      sender-near = omega arith;
    }

credit-left : (w : World) (h : Holds w) → h.got + 1 ≤ h.sent → 1 ≤ w.receiver.link_credit
credit-left w h more =
    let reach : h.sent + w.sender.link_credit ≤ h.got + w.receiver.link_credit = announces-le h.got (h.sent + w.sender.link_credit) w.to_sender (h.got + w.receiver.link_credit) h.announces in
    omega arith

message-left : (w : World) (h : Holds w) (later : List FromSender) → w.to_receiver ≡ Message ∷ later → 1 ≤ w.receiver.link_credit
message-left w h later e =
    let Q : List FromSender → Type 0 = λ l. Carries h.got l h.sent in
    let b : Carries (h.got + 1) later h.sent = subst Q e h.carries in
    credit-left w h (carries-le (h.got + 1) later h.sent b)

message-taken : (w : World) (h : Holds w) (later : List FromSender) → w.to_receiver ≡ Message ∷ later → Moved w h (record w { receiver = consumed w.receiver 1; to_receiver = later })
message-taken w h later e =
    let Q : List FromSender → Type 0 = λ l. Carries h.got l h.sent in
    let b : Carries (h.got + 1) later h.sent = subst Q e h.carries in
    let some : 1 ≤ w.receiver.link_credit = message-left w h later e in
    let r = consumed-keeps w.receiver h.got 1 h.receiver some in
    let kept : (h.got + 1) + (consumed w.receiver 1).link_credit ≡ h.got + w.receiver.link_credit = r.1 in
    let P : ℕ → Type 0 = λ n. Announces (h.got + 1) (h.sent + w.sender.link_credit) w.to_sender n in
    let small : w.receiver.link_credit < 2 ^ 31 = h.small in
    record {
      holds = record {
        sent = h.sent;
        got = h.got + 1;
        sender = h.sender;
        receiver = r.0;
        small = omega arith;
        carries = b;
        announces = announces-later h.got (h.got + 1) (h.sent + w.sender.link_credit) w.to_sender (h.got + w.receiver.link_credit) ((h.got + 1) + (consumed w.receiver 1).link_credit) (omega arith) (omega arith) h.announces;
      };
      receiver-on = omega arith;
      receiver-near = omega arith;
      sender-on = omega arith;
      sender-near = omega arith;
    }

receiver-flowed : (w : World) (h : Holds w) (flow : LinkFlow) (later : List FromSender) (handle : OutputHandle) → w.to_receiver ≡ Tells flow ∷ later
    → Moved w h (record w { receiver = receiver_flowed w.receiver flow; to_receiver = later; to_sender = behind w.to_sender (receiver_answer flow handle (receiver_flowed w.receiver flow)) })
receiver-flowed w h flow later handle e =
    let Q : List FromSender → Type 0 = λ l. Carries h.got l h.sent in
    let b = subst Q e h.carries in
    let on : h.got ≤ b.0 = b.2 in
    let before : b.0 ≤ h.sent = carries-le b.0 later h.sent b.3 in
    let reach : h.sent + w.sender.link_credit ≤ h.got + w.receiver.link_credit = announces-le h.got (h.sent + w.sender.link_credit) w.to_sender (h.got + w.receiver.link_credit) h.announces in
    let small : w.receiver.link_credit < 2 ^ 31 = h.small in
    let r = receiver-keeps w.receiver flow h.got b.0 h.receiver b.1 on (omega arith) small in
    let kept : b.0 + (receiver_flowed w.receiver flow).link_credit ≡ h.got + w.receiver.link_credit = r.1 in
    let less : (receiver_flowed w.receiver flow).link_credit < 2 ^ 31 = omega arith in
    record {
      holds = record {
        sent = h.sent;
        got = b.0;
        sender = h.sender;
        receiver = r.0;
        small = less;
        carries = b.3;
        announces = announces-answer flow.echo b.0 (h.sent + w.sender.link_credit) w.to_sender handle (receiver_flowed w.receiver flow) r.0 less
            (announces-later h.got b.0 (h.sent + w.sender.link_credit) w.to_sender (h.got + w.receiver.link_credit) (b.0 + (receiver_flowed w.receiver flow).link_credit) on (omega arith) h.announces);
      };
      receiver-on = omega arith;
      receiver-near = omega arith;
      sender-on = omega arith;
      sender-near = omega arith;
    }

sender-takes-of : (w : World) (h : Holds w) (flows : List LinkFlow) (handle : OutputHandle) (new : World) → w.to_sender ≡ flows → SenderTakesOf flows handle w new → Moved w h new
sender-takes-of w h [] handle new e s = subst (λ (n : World). Moved w h n) (sym s) (same w h)
sender-takes-of w h (flow ∷ flows) handle new e s = subst (λ (n : World). Moved w h n) (sym s) (sender-flowed w h flow flows handle e)

receiver-takes-of : (w : World) (h : Holds w) (items : List FromSender) (handle : OutputHandle) (new : World) → w.to_receiver ≡ items → ReceiverTakesOf items handle w new → Moved w h new
receiver-takes-of w h [] handle new e s = subst (λ (n : World). Moved w h n) (sym s) (same w h)
receiver-takes-of w h (Message ∷ later) handle new e s = subst (λ (n : World). Moved w h n) (sym s.1) (message-taken w h later e)
receiver-takes-of w h (Tells flow ∷ later) handle new e s = subst (λ (n : World). Moved w h n) (sym s) (receiver-flowed w h flow later handle e)

step-moves : (old new : World) (act : Act) → Step old act new → (h : Holds old) → Moved old h new
step-moves old new Sends s h = subst (λ (w : World). Moved old h w) (sym s.1) (sends old h s.0)
step-moves old new (Grants credit) s h = subst (λ (w : World). Moved old h w) (sym s.2) (grants old h credit s.0 s.1)
step-moves old new Drains s h = subst (λ (w : World). Moved old h w) (sym s) (drains old h)
step-moves old new (SenderTells flow) s h = subst (λ (w : World). Moved old h w) (sym s.1) (sender-tells old h flow s.0)
step-moves old new (ReceiverTells flow) s h = subst (λ (w : World). Moved old h w) (sym s.1) (receiver-tells old h flow s.0)
step-moves old new (SenderTakes handle) s h = sender-takes-of old h old.to_sender handle new refl s
step-moves old new (ReceiverTakes handle) s h = receiver-takes-of old h old.to_receiver handle new refl s

runs-hold : (start end : World) (acts : List Act) → Runs start acts end → Holds start → Holds end
runs-hold start end [] run h = subst (λ (w : World). Holds w) (sym run) h
runs-hold start end (act ∷ acts) run h = runs-hold run.0 end acts run.2 ((step-moves start run.0 act run.1 h).holds)

begun-holds : (sender receiver : LinkFlowStateInner) → sender.delivery_count < 2 ^ 32 → Holds (begun sender receiver)
begun-holds sender receiver fits =
    record { sent = sender.delivery_count; got = sender.delivery_count; sender = omega arith; receiver = omega arith; small = omega arith; carries = refl; announces = omega arith }

pub never-refused : (sender receiver : LinkFlowStateInner) (acts : List Act) (end : World) → sender.delivery_count < 2 ^ 32 → Runs (begun sender receiver) acts end
    → (later : List FromSender) → end.to_receiver ≡ Message ∷ later → 1 ≤ end.receiver.link_credit
never-refused sender receiver acts end fits run later e =
    message-left end (runs-hold (begun sender receiver) end acts run (begun-holds sender receiver fits)) later e

pub moves-on : (sender receiver : LinkFlowStateInner) (acts : List Act) (old new : World) (act : Act) → sender.delivery_count < 2 ^ 32 → Runs (begun sender receiver) acts old
    → Step old act new → (ahead (credit_limit new.receiver) (credit_limit old.receiver) < 2 ^ 31)
    × (ahead (credit_limit new.sender) (credit_limit old.sender) < 2 ^ 31)
moves-on sender receiver acts old new act fits run step =
    let h = runs-hold (begun sender receiver) old acts run (begun-holds sender receiver fits) in
    let m = step-moves old new act step h in (
      limit-moves old.receiver new.receiver h.got m.holds.got h.receiver m.holds.receiver m.receiver-on m.receiver-near,
      limit-moves old.sender new.sender h.sent m.holds.sent h.sender m.holds.sender m.sender-on m.sender-near,
    )
