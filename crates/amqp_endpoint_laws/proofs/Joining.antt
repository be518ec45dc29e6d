-- What an end of a world took is a beginning of what the other one sent.
use Rattle.std.proofs.Common.{◌≡◌, ℕ, Bool, true, false, List, [], ◌∷◌, ◌++◌, Option, Some, None, inl, inr}
use Rattle.std.proofs.Common.{ap, refl, subst, sym, ◌∙◌}
use Rattle.std.specs.Prelude.{map}
use Rattle.std.proofs.lemmas.List.{append-nil, append_assoc, append_cancel_left}
use Rattle.amqp_session_frames.proofs.ReadingLaws.{Reads-texts, partial-texts}
use Rattle.amqp_session_frames.specs.Cutting.{IsPartial, ReadsAs, joined}
use Rattle.amqp_session_frames.specs.Text.{AllWithinCaps, Reads, texts}
use Rattle.amqp_session_frames.specs.declared.frame.Frame.{Frame}
use Rattle.amqp_endpoint_model.proofs.Keeping.{fresh-stands, step-settings}
use Rattle.amqp_endpoint_model.proofs.PieceLaws.{Stands, StandsAt, step-stands}
use Rattle.amqp_endpoint_model.specs.declared.call.Call.{Call}
use Rattle.amqp_endpoint_model.specs.declared.phase.Phase.{Phase}
use Rattle.amqp_endpoint_model.specs.declared.phase.Phase.TheVariants.{Unconnected, Greeting, Running, Over}
use Rattle.amqp_endpoint_model.specs.declared.settings.Settings.{Settings}
use Rattle.amqp_endpoint_model.specs.History.{Run, Summary, note, nothing, summary}
use Rattle.amqp_endpoint_model.specs.Relay.{Relations}
use Rattle.amqp_endpoint_model.specs.Said.{Told}
use Rattle.amqp_endpoint_model.specs.State.{State, Waiting, fits, fresh, is_unconnected, own_open, protocol_header}
use Rattle.amqp_endpoint_model.specs.State.{text_of, the_frame, the_header}
use Rattle.amqp_endpoint_model.specs.Step.{Admits, Waits, refusal_of_settings}
use Rattle.amqp_endpoint_laws.proofs.Runs.{is-done}
use Rattle.amqp_endpoint_laws.specs.Deeds.{AreOfOne, AreRead, Deed, IsInOrder, Passes, Throughout, fed_since}
use Rattle.amqp_endpoint_laws.specs.Deeds.{opened_behind, pulled_since, queued_by, taken_by}
use Rattle.amqp_endpoint_core.proofs.Connections.{fed_to_its_connection}
use Rattle.amqp_endpoint_core.proofs.EndLaws.{end_run}
use Rattle.amqp_endpoint_core.proofs.OnTheWay.{nothing_yet, on_its_way}
use Rattle.amqp_endpoint_core.specs.declared.step.End.{End}
use Rattle.amqp_endpoint_core.specs.declared.step.End.TheVariants.{A, B}
use Rattle.amqp_endpoint_core.specs.declared.step.Step.{Step}
use Rattle.amqp_endpoint_core.specs.EndHistory.{OfItsConnection, calls_at, fed_since_break, pulled_since_break}
use Rattle.amqp_endpoint_core.specs.EndHistory.{told_at}
use Rattle.amqp_endpoint_core.specs.WorldSaid.{WorldTold}
use Rattle.amqp_endpoint_core.specs.WorldState.{IsNewWorld, Way, WorldState, other, state_at, stream_to, way_from}
use Rattle.amqp_endpoint_core.specs.WorldStep.{WorldRun}
use Rattle.amqp_endpoint_laws.proofs.Connecting.{Gave, NonePulled, fed-run, joined-append, pulled-along}
use Rattle.amqp_endpoint_laws.proofs.Sending.{AllHaveTexts, accepted-open, header-first, sent-texts, texts-are}
use Rattle.amqp_endpoint_laws.specs.Between.{AreOnTheWay, AreTakenInOrder, Between, DoneAt, IsHeld, Pass, awaited}
use Rattle.amqp_endpoint_laws.specs.Between.{sent_by}

-- frames that are admitted are read
admitted-read : (limit : ℕ) (bytes : List ℕ) (fs : List Frame) (rest : List ℕ)
    → ReadsAs (Admits limit) bytes fs rest → Reads bytes fs rest
admitted-read limit bytes [] rest r = r
admitted-read limit bytes (f ∷ fs) rest (front, more, whole, admits, r) =
    (front, more, whole, admits.text, admitted-read limit more fs rest r)

both-none : (a b : List ℕ) → [] ≡ a ++ b → (a ≡ []) × (b ≡ [])
both-none [] b e = (refl, sym e)
both-none (x ∷ a) b e = absurd cc

-- what was pulled and fed, with a connection and without one
none-of : (b : Bool) (p f c : List ℕ) → OfItsConnection b p f c → b ≡ true → p ≡ []
none-of true p f c (unpulled, unfed) is = unpulled
none-of false p f c same is = absurd cc

fed-of : (b : Bool) (p f c : List ℕ) → OfItsConnection b p f c → b ≡ false → f ≡ c
fed-of true p f c (unpulled, unfed) is = absurd cc
fed-of false p f c same is = same

-- nothing is taken where nothing was fed
none-taken : (phase : Phase) (limit : ℕ) (bytes : List ℕ) (fs : List Frame) (rest : List ℕ)
    → is_unconnected phase ≡ false → bytes ≡ [] → AreRead phase limit bytes fs rest → fs ≡ []
none-taken Unconnected limit bytes fs rest up none r = absurd cc
none-taken Greeting limit bytes fs rest up none (untaken, same) = untaken
none-taken Running limit bytes fs rest up none (body, header, r) =
    let clash : [] ≡ protocol_header ++ body = sym none ∙ header in absurd cc
none-taken Over limit bytes fs rest up none (body, left, header, r) =
    let clash : [] ≡ protocol_header ++ body = sym none ∙ header in absurd cc

-- less than a frame waits
partial : (limit : ℕ) (rest : List ℕ) → Waits limit rest → IsPartial rest
partial limit rest (inl short) = inl short
partial limit rest (inr (least, most, short)) = inr short

caps-last : (taken others : List Frame) → AllWithinCaps (taken ++ others) → AllWithinCaps others
caps-last [] others caps = caps
caps-last (f ∷ taken) others (narrow, within, caps) = caps-last taken others caps

module _ {S : Type 0} where
  on-the-way : (way : Way S) (phase : Phase) (frames : List Frame) (text held : List ℕ) → way.to.phase ≡ phase
      → texts frames ≡ Some text → IsHeld phase way.to.rest held
      → awaited phase ++ text ≡ held ++ (way.stream ++ joined (map text_of way.from.queue)) → AreOnTheWay way frames
  on-the-way way phase frames text held is are holds whole =
      record {
        text = text;
        are = are;
        held = held;
        is_held = subst (λ (p : Phase). IsHeld p way.to.rest held) (sym is) holds;
        whole = ap (λ (p : Phase). awaited p ++ text) is ∙ whole;
      }

  -- the bytes that an end sends are those that the other one was fed, those on their way, and those that are queued
  all-bytes : (way : Way S) (sending : List Deed) (given : List (List ℕ)) (bytes : List ℕ)
      → queued_by sending ≡ the_header ∷ map the_frame (sent_by sending)
      → map text_of (queued_by sending) ≡ given ++ map text_of way.from.queue → joined given ≡ bytes ++ way.stream
      → protocol_header ++ joined (map text_of (map the_frame (sent_by sending)))
      ≡ bytes ++ (way.stream ++ joined (map text_of way.from.queue))
  all-bytes way sending given bytes headed queued carried =
      let waits : List ℕ = joined (map text_of way.from.queue) in
      ap (λ (ws : List Waiting). joined (map text_of ws)) (sym headed) ∙ ap joined queued
      ∙ joined-append given (map text_of way.from.queue) ∙ ap (λ (x : List ℕ). x ++ waits) carried
      ∙ append_assoc bytes way.stream waits

  taken-in-order : (way : Way S) (sending : List Deed) (taken : List Frame) (limit : ℕ) (bytes : List ℕ)
      (phase : Phase) → way.to.phase ≡ phase → is_unconnected phase ≡ false
      → (phase ≡ Running → IsPartial way.to.rest)
      → protocol_header ++ joined (map text_of (map the_frame (sent_by sending)))
      ≡ bytes ++ (way.stream ++ joined (map text_of way.from.queue))
      → AllHaveTexts (sent_by sending) → AreRead phase limit bytes taken way.to.rest → AllWithinCaps (sent_by sending)
      → AreTakenInOrder way (sent_by sending) taken
  taken-in-order way sending taken limit bytes Unconnected is up waits all have r caps = absurd cc
  taken-in-order way sending taken limit bytes Greeting is up waits all have (none, same) caps =
      let sent : List Frame = sent_by sending in
      let more : List ℕ = way.stream ++ joined (map text_of way.from.queue) in
      record {
        others = sent;
        begins = ap (λ (fs : List Frame). fs ++ sent) (sym none);
        left =
            on-the-way way Greeting sent (joined (map text_of (map the_frame sent))) way.to.rest is
            (texts-are sent have) refl (all ∙ ap (λ (b : List ℕ). b ++ more) same);
        all = λ running clear none. let clash : Greeting ≡ Running = sym is ∙ running in absurd cc;
      }
  taken-in-order way sending taken limit bytes Running is up waits all have (body, header, r) caps =
      let sent : List Frame = sent_by sending in
      let more : List ℕ = way.stream ++ joined (map text_of way.from.queue) in
      let whole : joined (map text_of (map the_frame sent)) ≡ body ++ more =
      append_cancel_left protocol_header _ _
      (all ∙ ap (λ (b : List ℕ). b ++ more) header ∙ append_assoc protocol_header body more) in
      let (others, begins, are) =
      Reads-texts body more taken sent way.to.rest caps (admitted-read limit body taken way.to.rest r)
      (texts-are sent have ∙ ap (λ (t : List ℕ). Some t) whole) in
      record {
        others = others;
        begins = begins;
        left = on-the-way way Running others (way.to.rest ++ more) way.to.rest is are refl refl;
        all = λ running clear none.
            partial-texts way.to.rest others
            (caps-last taken others (subst (λ (fs : List Frame). AllWithinCaps fs) begins caps)) (waits refl)
            (are
            ∙ ap (λ (t : List ℕ). Some (way.to.rest ++ t))
            (ap (λ (x : List ℕ). x ++ joined (map text_of way.from.queue)) clear
            ∙ ap (λ (ws : List Waiting). joined (map text_of ws)) none)
            ∙ ap (λ (t : List ℕ). Some t) (append-nil way.to.rest));
      }
  taken-in-order way sending taken limit bytes Over is up waits all have (body, left, header, r) caps =
      let sent : List Frame = sent_by sending in
      let more : List ℕ = way.stream ++ joined (map text_of way.from.queue) in
      let whole : joined (map text_of (map the_frame sent)) ≡ body ++ more =
      append_cancel_left protocol_header _ _
      (all ∙ ap (λ (b : List ℕ). b ++ more) header ∙ append_assoc protocol_header body more) in
      let (others, begins, are) =
      Reads-texts body more taken sent left caps (admitted-read limit body taken left r)
      (texts-are sent have ∙ ap (λ (t : List ℕ). Some t) whole) in
      record {
        others = others;
        begins = begins;
        left = on-the-way way Over others (left ++ more) left is are tt refl;
        all = λ running clear none. let clash : Over ≡ Running = sym is ∙ running in absurd cc;
      }

  -- what passes in a direction
  passed : (way : Way S) (before sending receiving : List Deed) (limit limit_to : ℕ) (given given_to : List (List ℕ))
      (bytes_from bytes p : List ℕ) → (is_unconnected way.from.phase ≡ false → AreOfOne way.from.settings sending)
      → (is_unconnected way.from.phase ≡ false → Passes limit sending given bytes_from way.from)
      → Throughout opened_behind IsInOrder None (before ++ sending) → fits 512 (own_open way.from.settings) ≡ true
      → Passes limit_to receiving given_to bytes way.to → is_unconnected way.to.phase ≡ false
      → (way.to.phase ≡ Running → IsPartial way.to.rest) → Gave way.from p given
      → (is_unconnected way.from.phase ≡ true → p ≡ []) → p ≡ bytes ++ way.stream
      → (down : Bool) → is_unconnected way.from.phase ≡ down → Pass down way sending receiving
  passed way before sending receiving limit limit_to given given_to bytes_from bytes p one sends order opens takes up
      waits gave none carried true down =
      let (unfed, clear) = both-none bytes way.stream (sym (none down) ∙ carried) in
      (none-taken way.to.phase limit_to bytes (taken_by receiving) way.to.rest up unfed takes.read, clear)
  passed way before sending receiving limit limit_to given given_to bytes_from bytes p one sends order opens takes up
      waits gave none carried false down =
      let headed : queued_by sending ≡ the_header ∷ map the_frame (sent_by sending) =
      header-first way.from.settings sending (one down) in
      record {
        headed = headed;
        taken = λ caps.
            taken-in-order way sending (taken_by receiving) limit_to bytes way.to.phase refl up waits
            (all-bytes way sending given bytes headed (sends down).queued (sym (gave down) ∙ carried))
            (sent-texts way.from.settings before sending opens (one down) order) takes.read caps;
      }

module _ {S : Type 0} (does : Relations S) where
  kept-settings : (old : State S) (calls : List Call) (ts : List Told) (end : State S) → Run does old calls ts end
      → end.settings ≡ old.settings
  kept-settings old [] [] end same = ap (λ (s : State S). s.settings) same
  kept-settings old [] (t ∷ ts) end run = absurd run
  kept-settings old (call ∷ calls) [] end run = absurd run
  kept-settings old (call ∷ calls) (t ∷ ts) end (mid, one, queued, rest) =
      kept-settings mid calls ts end rest ∙ step-settings does old call t.answer mid one

  stands-along : (limit : ℕ) (σ : Summary) (old : State S) (calls : List Call) (ts : List Told) (end : State S)
      → old.settings.max_frame_size ≡ limit → StandsAt does limit σ old → Run does old calls ts end
      → StandsAt does limit (summary σ calls ts) end
  stands-along limit σ old [] [] end l h same = subst (λ (s : State S). StandsAt does limit σ s) (sym same) h
  stands-along limit σ old [] (t ∷ ts) end l h run = absurd run
  stands-along limit σ old (call ∷ calls) [] end l h run = absurd run
  stands-along limit σ old (call ∷ calls) (t ∷ ts) end l h (mid, one, queued, rest) =
      stands-along limit (note σ call t.answer) mid calls ts end
      (ap (λ (s : Settings). s.max_frame_size) (step-settings does old call t.answer mid one) ∙ l)
      (step-stands does limit σ old call t.answer mid l h one) rest

  part-waits : (phase : Phase) (limit : ℕ) (rest : List ℕ) (peer : Option ℕ) (σ : Summary)
      → Stands does phase limit rest peer σ → phase ≡ Running → IsPartial rest
  part-waits Unconnected limit rest peer σ h is = absurd cc
  part-waits Greeting limit rest peer σ h is = absurd cc
  part-waits Running limit rest peer σ h is = partial limit rest h.waits
  part-waits Over limit rest peer σ h is = absurd cc

  module _ (a b : Settings) (start new : WorldState S) (steps : List Step) (ts : List WorldTold)
      (n : IsNewWorld does a b start) (run : WorldRun does start steps ts new) where
    run-new : (end : End)
        → Run does (state_at end start) (calls_at end [] steps ts) (told_at end steps ts) (state_at end new)
    run-new end =
        subst
        (λ (s : List ℕ).
        Run does (state_at end start) (calls_at end s steps ts) (told_at end steps ts) (state_at end new))
        (nothing_yet does end a b start n) (end_run does end start steps ts new run)

    as-fresh : (s : State S) (settings : Settings) (sessions : S) → s ≡ fresh settings sessions
        → s ≡ fresh s.settings s.sessions
    as-fresh s settings sessions is = is ∙ sym (ap (λ (x : State S). fresh x.settings x.sessions) is)

    is-fresh : (end : End) → state_at end start ≡ fresh (state_at end start).settings (state_at end start).sessions
    is-fresh A = as-fresh start.a a n.sessions_a (ap (λ (w : WorldState S). w.a) n.is)
    is-fresh B = as-fresh start.b b n.sessions_b (ap (λ (w : WorldState S). w.b) n.is)

    done-new : (end : End) → DoneAt does end start steps ts new
    done-new end =
        is-done does (state_at end start).sessions (state_at end start).settings (calls_at end [] steps ts)
        (told_at end steps ts) (state_at end new)
        (subst
        (λ (s : State S). Run does s (calls_at end [] steps ts) (told_at end steps ts) (state_at end new))
        (is-fresh end) (run-new end))

    waits-new : (end : End) → (state_at end new).phase ≡ Running → IsPartial (state_at end new).rest
    waits-new end running =
        let settings : Settings = (state_at end start).settings in
        let calls : List Call = calls_at end [] steps ts in
        let told : List Told = told_at end steps ts in
        part-waits (state_at end new).phase settings.max_frame_size (state_at end new).rest
        (state_at end new).peer_limit (summary nothing calls told)
        (stands-along settings.max_frame_size nothing (fresh settings (state_at end start).sessions) calls told
        (state_at end new) refl (fresh-stands does settings (state_at end start).sessions)
        (subst (λ (s : State S). Run does s calls told (state_at end new)) (is-fresh end) (run-new end)))
        running

    none-new : (end : End) → NonePulled does end start []
    none-new end more us there r down =
        ap (λ (s : List ℕ). pulled_since_break [] (calls_at end s more us) (told_at end more us))
        (nothing_yet does end a b start n)
        ∙ none-of (is_unconnected (state_at end there).phase)
        (pulled_since_break [] (calls_at end [] more us) (told_at end more us)) _ _
        (fed_to_its_connection does end a b start there more us n r) down

    none-now : (end : End) → is_unconnected (state_at end new).phase ≡ true
        → pulled_since_break [] (calls_at end [] steps ts) (told_at end steps ts) ≡ []
    none-now end down =
        none-of (is_unconnected (state_at end new).phase)
        (pulled_since_break [] (calls_at end [] steps ts) (told_at end steps ts)) _ _
        (fed_to_its_connection does end a b start new steps ts n run) down

    gave-new : (end : End)
        → Gave (state_at end new) (pulled_since_break [] (calls_at end [] steps ts) (told_at end steps ts))
        (pulled_since [] (calls_at end [] steps ts) (told_at end steps ts))
    gave-new end =
        subst
        (λ (s : List ℕ).
        Gave (state_at end new) (pulled_since_break [] (calls_at end s steps ts) (told_at end steps ts))
        (pulled_since [] (calls_at end s steps ts) (told_at end steps ts)))
        (nothing_yet does end a b start n)
        (pulled-along does end start steps ts new [] [] run (none-new end) (λ up. refl))

    -- what the other end was given is what this one was fed, and what is on its way
    carried-new : (end : End) → is_unconnected (state_at end new).phase ≡ false
        → pulled_since_break [] (calls_at (other end) [] steps ts) (told_at (other end) steps ts)
        ≡ fed_since [] (calls_at end [] steps ts) (told_at end steps ts) ++ stream_to end new
    carried-new A up =
        on_its_way does B a b start new steps ts n run
        ∙ ap (λ (x : List ℕ). x ++ new.to_a)
        (fed-of (is_unconnected new.a.phase) _ (fed_since_break [] (calls_at A [] steps ts) (told_at A steps ts)) _
        (fed_to_its_connection does A a b start new steps ts n run) up
        ∙ sym (fed-run does start.a (calls_at A [] steps ts) (told_at A steps ts) new.a [] nothing (run-new A)
        (λ up. refl) up))
    carried-new B up =
        on_its_way does A a b start new steps ts n run
        ∙ ap (λ (x : List ℕ). x ++ new.to_b)
        (fed-of (is_unconnected new.b.phase) _ (fed_since_break [] (calls_at B [] steps ts) (told_at B steps ts)) _
        (fed_to_its_connection does B a b start new steps ts n run) up
        ∙ sym (fed-run does start.b (calls_at B [] steps ts) (told_at B steps ts) new.b [] nothing (run-new B)
        (λ up. refl) up))

    module _ (accepted_a : refusal_of_settings a ≡ None) (accepted_b : refusal_of_settings b ≡ None) where
      opens : (end : End) → fits 512 (own_open (state_at end new).settings) ≡ true
      opens A =
          ap (λ (s : Settings). fits 512 (own_open s))
          (kept-settings start.a (calls_at A [] steps ts) (told_at A steps ts) new.a (run-new A)
          ∙ ap (λ (w : WorldState S). w.a.settings) n.is)
          ∙ accepted-open a accepted_a
      opens B =
          ap (λ (s : Settings). fits 512 (own_open s))
          (kept-settings start.b (calls_at B [] steps ts) (told_at B steps ts) new.b (run-new B)
          ∙ ap (λ (w : WorldState S). w.b.settings) n.is)
          ∙ accepted-open b accepted_b

      pass-new : (end : End) → is_unconnected (state_at end new).phase ≡ false
          → Pass (is_unconnected (state_at (other end) new).phase) (way_from (other end) new)
          (done-new (other end)).since (done-new end).since
      pass-new A up =
          let from = done-new B in
          let to = done-new A in
          passed (way_from B new) from.before from.since to.since _ _ _ _ _ _ _ from.of_one from.passes from.in_order
          (opens B) (to.passes up) up (waits-new A) (gave-new B) (none-now B) (carried-new A up)
          (is_unconnected new.b.phase) refl
      pass-new B up =
          let from = done-new A in
          let to = done-new B in
          passed (way_from A new) from.before from.since to.since _ _ _ _ _ _ _ from.of_one from.passes from.in_order
          (opens A) (to.passes up) up (waits-new B) (gave-new A) (none-now A) (carried-new B up)
          (is_unconnected new.a.phase) refl

      between-them : Between does start steps ts new
      between-them = record { done = done-new; pass = pass-new }

  pub between : (a b : Settings) (start new : WorldState S) (steps : List Step) (ts : List WorldTold)
      → refusal_of_settings a ≡ None → refusal_of_settings b ≡ None → IsNewWorld does a b start
      → WorldRun does start steps ts new → Between does start steps ts new
  between a b start new steps ts accepted_a accepted_b n run =
      between-them a b start new steps ts n run accepted_a accepted_b
