-- What was pulled of one end is what was fed to the other, and then what is on its way.
use Rattle.std.proofs.Common.{◌≡◌, ℕ, Bool, true, false, List, [], ◌∷◌, ◌++◌, take, drop, refl, sym, ◌∙◌, ap, append_assoc, if◌then◌else◌}
use Rattle.std.proofs.lemmas.List.{append-nil, take-append-drop}
use Rattle.amqp_session_frames.specs.Cutting.{joined}
use Rattle.amqp_endpoint_model.specs.declared.call.Call.{Call}
use Rattle.amqp_endpoint_model.specs.declared.call.Call.TheVariants.{Feed, Pull, BreakOff}
use Rattle.amqp_endpoint_model.specs.declared.settings.Settings.{Settings}
use Rattle.amqp_endpoint_model.specs.Relay.{Relations}
use Rattle.amqp_endpoint_model.specs.Said.{Said, fed, Told}
use Rattle.amqp_endpoint_core.specs.declared.step.End.{End}
use Rattle.amqp_endpoint_core.specs.declared.step.End.TheVariants.{A, B}
use Rattle.amqp_endpoint_core.specs.declared.step.Step.{Step}
use Rattle.amqp_endpoint_core.specs.declared.step.Step.TheVariants.{Call as CallAt, Move, Break}
use Rattle.amqp_endpoint_core.specs.WorldState.{IsNewWorld, WorldState, other, stream_to}
use Rattle.amqp_endpoint_core.specs.WorldSaid.{WorldSaid, called, moved, broken, WorldTold}
use Rattle.amqp_endpoint_core.specs.WorldStep.{WorldRun, finds_none, has_broken_off, is_the_worlds, left_by}
use Rattle.amqp_endpoint_core.specs.EndHistory.{break_call, break_told, calls_at, calls_in, fed_since_break}
use Rattle.amqp_endpoint_core.specs.EndHistory.{feed_call, feed_told, is_same, own_call, own_told, pull_calls}
use Rattle.amqp_endpoint_core.specs.EndHistory.{pulled_since_break, pulls_told, queued_at, stream_behind, then_fed}
use Rattle.amqp_endpoint_core.specs.EndHistory.{then_pulled, told_at, told_in}
use Rattle.amqp_endpoint_core.proofs.EndLaws.{stream-step}

-- each call told something
abbrev pub Matched : List Call → List Told → Type 0
Matched [] [] = Unit {0}
Matched (call ∷ calls) (t ∷ ts) = Matched calls ts
Matched calls ts = ⊥

matched-append : (calls : List Call) (ts : List Told) (more : List Call) (us : List Told) → Matched calls ts
    → Matched more us → Matched (calls ++ more) (ts ++ us)
matched-append [] [] more us m n = n
matched-append [] (t ∷ ts) more us m n = absurd m
matched-append (call ∷ calls) [] more us m n = absurd m
matched-append (call ∷ calls) (t ∷ ts) more us m n = matched-append calls ts more us m n

matched-own : (b : Bool) (call : Call) (t : Told) → Matched (if b then [] else call ∷ []) (if b then [] else t ∷ [])
matched-own true call t = tt
matched-own false call t = tt

matched-call : (b : Bool) (call : Call) (said : Said) (n : ℕ)
    → Matched (if b then own_call call else []) (if b then own_told call said n else [])
matched-call true call said n = matched-own (is_the_worlds call) call (record { answer = said; queued = n })
matched-call false call said n = tt

pub matched-pulls : (pulled : List (List ℕ)) (n : ℕ) → Matched (pull_calls pulled) (pulls_told pulled n)
matched-pulls [] n = tt
matched-pulls (bytes ∷ others) n = matched-pulls others n

pub matched-feed : (piece : List ℕ) (said : Said) (n : ℕ) → Matched (feed_call piece said) (feed_told said n)
matched-feed piece (fed events fault) n = tt
matched-feed piece said n = tt

matched-break : (b : Bool) (n : ℕ) → Matched (break_call b) (break_told b n)
matched-break true n = tt
matched-break false n = tt

matched-moved : (b : Bool) (pulled : List (List ℕ)) (piece : List ℕ) (said : Said) (n : ℕ)
    → Matched (if b then pull_calls pulled else feed_call piece said)
    (if b then pulls_told pulled n else feed_told said n)
matched-moved true pulled piece said n = matched-pulls pulled n
matched-moved false pulled piece said n = matched-feed piece said n

pub matched_in : (end : End) (stream : List ℕ) (step : Step) (did : WorldSaid) (n : ℕ)
    → Matched (calls_in end stream step did) (told_in end step did n)
matched_in end stream (CallAt at call) (called said) n = matched-call (is_same end at) call said n
matched_in end stream (Move from count) (moved bytes said) n =
    matched-append (if is_same end from then pull_calls bytes else feed_call (take count (stream ++ joined bytes)) said)
    (if is_same end from then pulls_told bytes n else feed_told said n) (break_call (has_broken_off said))
    (break_told (has_broken_off said) n)
    (matched-moved (is_same end from) bytes (take count (stream ++ joined bytes)) said n)
    (matched-break (has_broken_off said) n)
matched_in end stream Break broken n = tt
matched_in end stream step did n = tt

-- one history behind another
pub pulled-append : (p : List ℕ) (calls : List Call) (ts : List Told) (more : List Call) (us : List Told)
    → Matched calls ts
    → pulled_since_break p (calls ++ more) (ts ++ us) ≡ pulled_since_break (pulled_since_break p calls ts) more us
pulled-append p [] [] more us m = refl
pulled-append p [] (t ∷ ts) more us m = absurd m
pulled-append p (call ∷ calls) [] more us m = absurd m
pulled-append p (call ∷ calls) (t ∷ ts) more us m = pulled-append (then_pulled p call t.answer) calls ts more us m

pub fed-append : (f : List ℕ) (calls : List Call) (ts : List Told) (more : List Call) (us : List Told)
    → Matched calls ts
    → fed_since_break f (calls ++ more) (ts ++ us) ≡ fed_since_break (fed_since_break f calls ts) more us
fed-append f [] [] more us m = refl
fed-append f [] (t ∷ ts) more us m = absurd m
fed-append f (call ∷ calls) [] more us m = absurd m
fed-append f (call ∷ calls) (t ∷ ts) more us m = fed-append (then_fed f call t.answer) calls ts more us m

-- a break
pulled-break : (b : Bool) (p : List ℕ) (n : ℕ)
    → pulled_since_break p (break_call b) (break_told b n) ≡ (if b then [] else p)
pulled-break true p n = refl
pulled-break false p n = refl

fed-break : (b : Bool) (f : List ℕ) (n : ℕ)
    → fed_since_break f (break_call b) (break_told b n) ≡ (if b then [] else f)
fed-break true f n = refl
fed-break false f n = refl

-- a call that isn't the world's own
pulled-own : (p : List ℕ) (call : Call) (said : Said) (n : ℕ)
    → pulled_since_break p (own_call call) (own_told call said n) ≡ p
pulled-own p (Feed bytes) said n = refl
pulled-own p Pull said n = refl
pulled-own p BreakOff said n = refl
pulled-own p call said n = refl

fed-own : (f : List ℕ) (call : Call) (said : Said) (n : ℕ)
    → fed_since_break f (own_call call) (own_told call said n) ≡ f
fed-own f (Feed bytes) said n = refl
fed-own f Pull said n = refl
fed-own f BreakOff said n = refl
fed-own f call said n = refl

-- pulls
pulled-pulls : (p : List ℕ) (pulled : List (List ℕ)) (n : ℕ)
    → pulled_since_break p (pull_calls pulled) (pulls_told pulled n) ≡ p ++ joined pulled
pulled-pulls p [] n = sym (append-nil p)
pulled-pulls p (bytes ∷ others) n = pulled-pulls (p ++ bytes) others n ∙ append_assoc p bytes (joined others)

fed-pulls : (f : List ℕ) (pulled : List (List ℕ)) (n : ℕ)
    → fed_since_break f (pull_calls pulled) (pulls_told pulled n) ≡ f
fed-pulls f [] n = refl
fed-pulls f (bytes ∷ others) n = fed-pulls f others n

-- a feed
pulled-feed : (p piece : List ℕ) (said : Said) (n : ℕ)
    → pulled_since_break p (feed_call piece said) (feed_told said n) ≡ p
pulled-feed p piece (fed events fault) n = refl
pulled-feed p piece said n = refl

fed-taken : (b : Bool) (f stream : List ℕ) (count : ℕ)
    → (if b then f else f ++ take count stream) ++ (if b then stream else drop count stream) ≡ f ++ stream
fed-taken true f stream count = refl
fed-taken false f stream count =
    append_assoc f (take count stream) (drop count stream) ∙ ap (λ s. f ++ s) (take-append-drop count stream)

-- what it takes and what it leaves is what was there
fed-feed : (f stream : List ℕ) (count : ℕ) (said : Said) (n : ℕ)
    → fed_since_break f (feed_call (take count stream) said) (feed_told said n) ++ left_by said count stream
    ≡ f ++ stream
fed-feed f stream count (fed events fault) n = fed-taken (finds_none fault) f stream count
fed-feed f stream count said n = refl

-- bytes are moved along the way
along : (b : Bool) (p f w : List ℕ) (pulled : List (List ℕ)) (count : ℕ) (said : Said) (m : ℕ) → p ≡ f ++ w
    → (if b then [] else p ++ joined pulled)
    ≡ (if b then [] else fed_since_break f (feed_call (take count (w ++ joined pulled)) said) (feed_told said m))
    ++ (if b then [] else left_by said count (w ++ joined pulled))
along true p f w pulled count said m is = refl
along false p f w pulled count said m is =
    ap (λ s. s ++ joined pulled) is ∙ append_assoc f w (joined pulled)
    ∙ sym (fed-feed f (w ++ joined pulled) count said m)

moved-along : (p f w : List ℕ) (pulled : List (List ℕ)) (count : ℕ) (said : Said) (n m : ℕ) → p ≡ f ++ w
    → pulled_since_break p (pull_calls pulled ++ break_call (has_broken_off said))
    (pulls_told pulled n ++ break_told (has_broken_off said) n)
    ≡ fed_since_break f (feed_call (take count (w ++ joined pulled)) said ++ break_call (has_broken_off said))
    (feed_told said m ++ break_told (has_broken_off said) m)
    ++ (if has_broken_off said then [] else left_by said count (w ++ joined pulled))
moved-along p f w pulled count said n m is =
    let b = has_broken_off said in
    let piece = take count (w ++ joined pulled) in
    let left = if b then [] else left_by said count (w ++ joined pulled) in
    pulled-append p (pull_calls pulled) (pulls_told pulled n) (break_call b) (break_told b n) (matched-pulls pulled n)
    ∙ ap (λ s. pulled_since_break s (break_call b) (break_told b n)) (pulled-pulls p pulled n)
    ∙ pulled-break b (p ++ joined pulled) n ∙ along b p f w pulled count said m is
    ∙ ap (λ s. s ++ left)
    (sym (fed-append f (feed_call piece said) (feed_told said m) (break_call b) (break_told b m)
    (matched-feed piece said m) ∙ fed-break b (fed_since_break f (feed_call piece said) (feed_told said m)) m))

-- bytes are moved the other way
across : (b : Bool) (p f w : List ℕ) → p ≡ f ++ w
    → (if b then [] else p) ≡ (if b then [] else f) ++ (if b then [] else w)
across true p f w is = refl
across false p f w is = is

moved-across : (p f w piece : List ℕ) (pulled : List (List ℕ)) (said : Said) (n m : ℕ) → p ≡ f ++ w
    → pulled_since_break p (feed_call piece said ++ break_call (has_broken_off said))
    (feed_told said n ++ break_told (has_broken_off said) n)
    ≡ fed_since_break f (pull_calls pulled ++ break_call (has_broken_off said))
    (pulls_told pulled m ++ break_told (has_broken_off said) m)
    ++ (if has_broken_off said then [] else w)
moved-across p f w piece pulled said n m is =
    let b = has_broken_off said in
    let left = if b then [] else w in
    pulled-append p (feed_call piece said) (feed_told said n) (break_call b) (break_told b n)
    (matched-feed piece said n)
    ∙ ap (λ s. pulled_since_break s (break_call b) (break_told b n)) (pulled-feed p piece said n)
    ∙ pulled-break b p n ∙ across b p f w is
    ∙ ap (λ s. s ++ left)
    (sym (fed-append f (pull_calls pulled) (pulls_told pulled m) (break_call b) (break_told b m)
    (matched-pulls pulled m)
    ∙ ap (λ s. fed_since_break s (break_call b) (break_told b m)) (fed-pulls f pulled m) ∙ fed-break b f m))

-- a step keeps it
way-step : (end : End) (v w : List ℕ) (step : Step) (did : WorldSaid) (n m : ℕ) (p f : List ℕ) → p ≡ f ++ w
    → pulled_since_break p (calls_in end v step did) (told_in end step did n)
    ≡ fed_since_break f (calls_in (other end) w step did) (told_in (other end) step did m)
    ++ stream_behind (other end) w step did
way-step A v w (CallAt A call) (called said) n m p f is = pulled-own p call said n ∙ is
way-step A v w (CallAt B call) (called said) n m p f is = is ∙ ap (λ s. s ++ w) (sym (fed-own f call said m))
way-step B v w (CallAt A call) (called said) n m p f is = is ∙ ap (λ s. s ++ w) (sym (fed-own f call said m))
way-step B v w (CallAt B call) (called said) n m p f is = pulled-own p call said n ∙ is
way-step A v w (Move A count) (moved bytes said) n m p f is = moved-along p f w bytes count said n m is
way-step A v w (Move B count) (moved bytes said) n m p f is =
    moved-across p f w (take count (v ++ joined bytes)) bytes said n m is
way-step B v w (Move A count) (moved bytes said) n m p f is =
    moved-across p f w (take count (v ++ joined bytes)) bytes said n m is
way-step B v w (Move B count) (moved bytes said) n m p f is = moved-along p f w bytes count said n m is
way-step end v w Break broken n m p f is = refl
way-step end v w step did n m p f is = is

module _ {S : Type 0} (does : Relations S) where
  way_run : (end : End) (old : WorldState S) (steps : List Step) (ts : List WorldTold) (new : WorldState S)
      (p f : List ℕ) → WorldRun does old steps ts new → p ≡ f ++ stream_to (other end) old
      → pulled_since_break p (calls_at end (stream_to end old) steps ts) (told_at end steps ts)
      ≡ fed_since_break f (calls_at (other end) (stream_to (other end) old) steps ts) (told_at (other end) steps ts)
      ++ stream_to (other end) new
  way_run end old [] [] new p f same is = is ∙ ap (λ w. f ++ stream_to (other end) w) (sym same)
  way_run end old [] (t ∷ ts) new p f run is = absurd run
  way_run end old (step ∷ steps) [] new p f run is = absurd run
  way_run end old (step ∷ steps) (t ∷ ts) new p f (mid, one, a, b, rest) is =
      let v = stream_to end old in
      let w = stream_to (other end) old in
      let calls = calls_in end v step t.did in
      let said = told_in end step t.did (queued_at end t) in
      let theirs = calls_in (other end) w step t.did in
      let told = told_in (other end) step t.did (queued_at (other end) t) in
      let q = pulled_since_break p calls said in
      let g = fed_since_break f theirs told in
      let next = way_run end mid steps ts new q g rest
      (way-step end v w step t.did (queued_at end t) (queued_at (other end) t) p f is
      ∙ ap (λ s. g ++ s) (sym (stream-step does (other end) old step t.did mid one))) in
      pulled-append p calls said (calls_at end (stream_behind end v step t.did) steps ts) (told_at end steps ts)
      (matched_in end v step t.did (queued_at end t))
      ∙ ap (λ s. pulled_since_break q (calls_at end s steps ts) (told_at end steps ts))
      (sym (stream-step does end old step t.did mid one))
      ∙ next
      ∙ ap (λ s. s ++ stream_to (other end) new)
      (ap (λ s. fed_since_break g (calls_at (other end) s steps ts) (told_at (other end) steps ts))
      (stream-step does (other end) old step t.did mid one)
      ∙ sym (fed-append f theirs told (calls_at (other end) (stream_behind (other end) w step t.did) steps ts)
      (told_at (other end) steps ts) (matched_in (other end) w step t.did (queued_at (other end) t))))

  -- nothing is on its way at first
  pub nothing_yet : (end : End) (a b : Settings) (start : WorldState S) → IsNewWorld does a b start
      → stream_to end start ≡ []
  nothing_yet A a b start n = ap (λ w. w.to_a) n.is
  nothing_yet B a b start n = ap (λ w. w.to_b) n.is

  pub on_its_way : (end : End) (a b : Settings) (start new : WorldState S) (steps : List Step) (ts : List WorldTold)
      → IsNewWorld does a b start → WorldRun does start steps ts new
      → pulled_since_break [] (calls_at end [] steps ts) (told_at end steps ts)
      ≡ fed_since_break [] (calls_at (other end) [] steps ts) (told_at (other end) steps ts)
      ++ stream_to (other end) new
  on_its_way end a b start new steps ts n run =
      ap (λ s. pulled_since_break [] (calls_at end s steps ts) (told_at end steps ts))
      (sym (nothing_yet end a b start n))
      ∙ way_run end start steps ts new [] [] run (sym (nothing_yet (other end) a b start n))
      ∙ ap (λ s. fed_since_break [] (calls_at (other end) s steps ts) (told_at (other end) steps ts)
      ++ stream_to (other end) new)
      (nothing_yet (other end) a b start n)
