-- Laws of an endpoint and its connection.
use Rattle.std.proofs.Common.{◌≡◌, ◌≤◌, arith, ℕ, List, Bool, true, false, Option, Some, None, Ok, Err, Result, refl, sym, ◌∙◌, ap, subst}
use Rattle.amqp_session_frames.specs.declared.state.ConnectionState.{ConnectionState}
use Rattle.amqp_session_frames.specs.declared.state.ConnectionState.TheVariants.{Start, HeaderSent, HeaderExchange}
use Rattle.amqp_session_frames.specs.declared.state.ConnectionState.TheVariants.{OpenSent, ClosePipe, Opened}
use Rattle.amqp_session_frames.specs.declared.state.ConnectionState.TheVariants.{CloseReceived, CloseSent, Discarding}
use Rattle.amqp_session_frames.specs.declared.state.ConnectionState.TheVariants.{End}
use Rattle.amqp_session_types.specs.declared.refusals.ConnectionError.{ConnectionError}
use Rattle.amqp_session_frames.specs.declared.frame.FrameBody.TheVariants as body
use Rattle.std.specs.Prelude.{⊤}
use Rattle.amqp_session_performatives.specs.declared.open.Open.{Open as OpenFields}
use Rattle.amqp_session_frames.specs.declared.frame.Frame.{Frame}
use Rattle.amqp_session_frames.specs.State.{State, fresh}
use Rattle.amqp_session_frames.specs.Steps.{SendHeader, SendOpen, TakeHeader, frame_on}
use Rattle.amqp_session_frames.specs.Table.{after_incoming_header, after_incoming_open, after_send_close}
use Rattle.amqp_session_frames.specs.Table.{after_send_open}
use Rattle.amqp_endpoint_model.specs.declared.phase.Phase.{Phase}
use Rattle.amqp_endpoint_model.specs.declared.phase.Phase.TheVariants.{Unconnected, Greeting, Running, Over}
use Rattle.amqp_endpoint_model.specs.Relay.{Relations, StandsStill}
use Rattle.amqp_endpoint_model.specs.State.{State as EndpointState, Waiting, has_opened}
use Rattle.amqp_endpoint_model.specs.declared.settings.Settings.{Settings}
use Rattle.std.proofs.lemmas.Bool.Decides.{nat_tests}
use Rattle.amqp_endpoint_core.specs.Reading.{says_too_little}
use Rattle.amqp_endpoint_core.specs.Connected.{sent_close, took_close, Runs, IsGreeting, Agrees, Stands}

-- a new connection sends its header
pub header_sent : (opening : OpenFields) (answer : Result ⊤ ConnectionError) (new : State) → SendHeader (fresh Start opening) answer new → new ≡ fresh HeaderSent opening
header_sent opening (Ok x) new s =
    let at : HeaderSent ≡ new.local_state = let e : Some HeaderSent ≡ Some new.local_state = s.0 in cc in
    s.1 ∙ ap (λ (c : ConnectionState). fresh c opening) (sym at)
header_sent opening (Err e) new s = let wrong : Some HeaderSent ≡ None = s.1 in absurd (cc)

greets_to : (state next : ConnectionState) → IsGreeting state → after_incoming_header state ≡ Some next → next ≡ HeaderExchange
greets_to HeaderSent next greets e = let at : HeaderExchange ≡ next = cc in sym at
greets_to HeaderExchange next greets e = absurd (cc)
greets_to state next greets e = absurd greets

greets_at : (state : ConnectionState) → IsGreeting state → after_incoming_header state ≡ None → state ≡ HeaderExchange
greets_at HeaderSent greets e = absurd (cc)
greets_at HeaderExchange greets e = refl
greets_at state greets e = absurd greets

-- the peer's header is taken, unless it was
pub header_taken : (old new : State) (answer : Result ⊤ ConnectionError) → IsGreeting old.local_state → TakeHeader old answer new → new ≡ record old { local_state = HeaderExchange }
header_taken old new (Ok x) greets s = s.1 ∙ ap (λ (c : ConnectionState). record old { local_state = c }) (greets_to old.local_state new.local_state greets s.0)
header_taken old new (Err e) greets s = s.2 ∙ ap (λ (c : ConnectionState). record old { local_state = c }) (greets_at old.local_state greets s.1)

-- behind both headers the own Open is sent
pub open_sent : (old mid new : State) (frame : Frame) → mid ≡ record old { local_state = HeaderExchange } → SendOpen mid (Ok frame) new → new ≡ record old { local_state = OpenSent }
open_sent old mid new frame is s =
    let from : after_send_open mid.local_state ≡ Some OpenSent = ap (λ (c : State). after_send_open c.local_state) is in
    let both : Some OpenSent ≡ Some new.local_state = sym from ∙ s.1 in
    let at : OpenSent ≡ new.local_state = cc in
    s.2 ∙ (ap (λ (c : State). record c { local_state = new.local_state }) is ∙ ap (λ (c : ConnectionState). record old { local_state = c }) (sym at))

pub open_says : (old mid new : State) (frame : Frame) → mid ≡ record old { local_state = HeaderExchange } → SendOpen mid (Ok frame) new → frame ≡ frame_on 0 (body.Open old.local_open)
open_says old mid new frame is s = s.0 ∙ ap (λ (c : State). frame_on 0 (body.Open c.local_open)) is

-- where the own header was sent and no Open, no Close went
pub greets_open : (state : ConnectionState) → IsGreeting state → (sent_close state ≡ false) × (took_close state ≡ false)
greets_open HeaderSent greets = (refl, refl)
greets_open HeaderExchange greets = (refl, refl)
greets_open state greets = absurd greets

-- behind the own Close it was sent, and nothing more is known of the peer's
pub close_is_sent : (error : Bool) (state next : ConnectionState) → after_send_close error state ≡ Some next → sent_close next ≡ true
close_is_sent error OpenSent next e = let at : ClosePipe ≡ next = cc in sym (ap sent_close at)
close_is_sent true Opened next e = let at : Discarding ≡ next = cc in sym (ap sent_close at)
close_is_sent false Opened next e = let at : CloseSent ≡ next = cc in sym (ap sent_close at)
close_is_sent error CloseReceived next e = let at : End ≡ next = cc in sym (ap sent_close at)
close_is_sent error state next e = absurd (cc)

pub close_tells_nothing : (error : Bool) (state next : ConnectionState) → after_send_close error state ≡ Some next → took_close next ≡ took_close state
close_tells_nothing error OpenSent next e = let at : ClosePipe ≡ next = cc in sym (ap took_close at)
close_tells_nothing true Opened next e = let at : Discarding ≡ next = cc in sym (ap took_close at)
close_tells_nothing false Opened next e = let at : CloseSent ≡ next = cc in sym (ap took_close at)
close_tells_nothing error CloseReceived next e = let at : End ≡ next = cc in sym (ap took_close at)
close_tells_nothing error state next e = absurd (cc)

runs_on : (limit : Option ℕ) (state next : ConnectionState) (error : Bool) → Runs limit state → sent_close state ≡ false → after_send_close error state ≡ Some next → Runs limit next
runs_on None OpenSent next error runs first e =
    let at : ClosePipe ≡ next = cc in
    let P : ConnectionState → Type 0 = λ s. Runs None s in
    subst P at tt
runs_on (Some limit) Opened next true runs first e =
    let at : Discarding ≡ next = cc in
    let P : ConnectionState → Type 0 = λ s. Runs (Some limit) s in
    subst P at tt
runs_on (Some limit) Opened next false runs first e =
    let at : CloseSent ≡ next = cc in
    let P : ConnectionState → Type 0 = λ s. Runs (Some limit) s in
    subst P at tt
runs_on None ClosePipe next error runs first e = absurd (cc)
runs_on (Some limit) CloseSent next error runs first e = absurd (cc)
runs_on (Some limit) Discarding next error runs first e = absurd (cc)
runs_on limit state next error runs first e = absurd runs

-- behind the first own Close frames are read on
pub agrees_on : (phase : Phase) (limit : Option ℕ) (state next : ConnectionState) (error : Bool) → Agrees phase limit state → has_opened phase ≡ true → sent_close state ≡ false → after_send_close error state ≡ Some next
    → Agrees phase limit next
agrees_on Running limit state next error agrees has first e = runs_on limit state next error agrees first e
agrees_on Over limit state next error agrees has first e = let wrong : true ≡ false = sym agrees ∙ first in absurd (cc)
agrees_on Unconnected limit state next error agrees has first e = absurd (cc)
agrees_on Greeting limit state next error agrees has first e = absurd (cc)

module _ {S : Type 0} (does : Relations S) where
  -- only the state of the connection changed
  pub stands_moved : (settings : Settings) (phase phase_new : Phase) (limit : Option ℕ) (s new : S)
      → Stands does settings phase limit s
      → does.connection new ≡ record (does.connection s) { local_state = (does.connection new).local_state }
      → Agrees phase_new limit (does.connection new).local_state → Stands does settings phase_new limit new
  stands_moved settings phase phase_new limit s new stands is agrees =
      record {
        opening = ap (λ (x : State). frame_on 0 (body.Open x.local_open)) is ∙ stands.opening;
        agrees = agrees;
      }

  -- the connection is in this state now
  pub stands_at : (settings : Settings) (phase phase_new : Phase) (limit : Option ℕ) (s new : S)
      (state : ConnectionState) → Stands does settings phase limit s
      → does.connection new ≡ record (does.connection s) { local_state = state } → Agrees phase_new limit state
      → Stands does settings phase_new limit new
  stands_at settings phase phase_new limit s new state stands is agrees =
      let at = ap (λ (x : State). x.local_state) is in
      record {
        opening = ap (λ (x : State). frame_on 0 (body.Open x.local_open)) is ∙ stands.opening;
        agrees = subst (λ (c : ConnectionState). Agrees phase_new limit c) (sym at) agrees;
      }

  -- both Close went
  pub stands_over : (settings : Settings) (phase : Phase) (limit : Option ℕ) (s taken sent new : S)
      → Stands does settings phase limit s
      → does.connection taken ≡ record (does.connection s) { local_state = (does.connection taken).local_state }
      → does.connection sent ≡ record (does.connection taken) { local_state = (does.connection sent).local_state }
      → sent_close (does.connection sent).local_state ≡ true
      → StandsStill (does.connection sent) (does.connection new) → Stands does settings Over limit new
  stands_over settings phase limit s taken sent new stands took went own still =
      record {
        opening =
            ap (λ (o : OpenFields). frame_on 0 (body.Open o)) still.opening
            ∙ (ap (λ (x : State). frame_on 0 (body.Open x.local_open)) went
            ∙ (ap (λ (x : State). frame_on 0 (body.Open x.local_open)) took ∙ stands.opening));
        agrees = ap sent_close still.state ∙ own;
      }

  -- the connection stands still
  pub stands_still : (settings : Settings) (phase phase_new : Phase) (limit limit_new : Option ℕ) (s new : S)
      → Stands does settings phase limit s
      → StandsStill (does.connection s) (does.connection new)
      → Agrees phase_new limit_new (does.connection s).local_state → Stands does settings phase_new limit_new new
  stands_still settings phase phase_new limit limit_new s new stands still agrees =
      record {
        opening = ap (λ (o : OpenFields). frame_on 0 (body.Open o)) still.opening ∙ stands.opening;
        agrees = subst (λ (c : ConnectionState). Agrees phase_new limit_new c) (sym still.state) agrees;
      }

-- an endpoint as it is seen, by its parts
module _ {S : Type 0} (does : Relations S) where
  abbrev pub seen : Settings → Phase → Option ℕ → Bool → List ℕ → List Waiting → S → EndpointState S
  seen settings phase limit told rest queue s =
      record {
        settings = settings;
        phase = phase;
        peer_limit = limit;
        own_close = sent_close (does.connection s).local_state;
        peer_close = took_close (does.connection s).local_state;
        close_told = told;
        rest = rest;
        queue = queue;
        sessions = s;
      }

  -- the sessions did something, and it can't be seen that their connection went on
  pub seen_as : (settings : Settings) (phase : Phase) (limit : Option ℕ) (told : Bool) (rest : List ℕ)
      (queue more : List Waiting)
      (s new : S) → more ≡ queue
      → sent_close (does.connection new).local_state ≡ sent_close (does.connection s).local_state
      → took_close (does.connection new).local_state ≡ took_close (does.connection s).local_state
      → seen settings phase limit told rest more new
      ≡ record (seen settings phase limit told rest queue s) { sessions = new }
  seen_as settings phase limit told rest queue more s new queue_is sent took =
      ap (λ (b : Bool). record (seen settings phase limit told rest more new) { own_close = b }) sent
      ∙ ap (λ (b : Bool). record (seen settings phase limit told rest more new) {
        own_close = sent_close (does.connection s).local_state;
        peer_close = b;
      }) took
      ∙ ap (λ (q : List Waiting). record (seen settings phase limit told rest q s) { sessions = new }) queue_is

  -- their connection stands still
  pub seen_still : (settings : Settings) (phase : Phase) (limit : Option ℕ) (told : Bool) (rest : List ℕ)
      (queue more : List Waiting)
      (s new : S) → more ≡ queue → (does.connection new).local_state ≡ (does.connection s).local_state
      → seen settings phase limit told rest more new
      ≡ record (seen settings phase limit told rest queue s) { sessions = new }
  seen_still settings phase limit told rest queue more s new queue_is still =
      seen_as settings phase limit told rest queue more s new queue_is (ap sent_close still) (ap took_close still)

  -- the peer's header was taken
  pub seen_greeted : (settings : Settings) (phase : Phase) (limit : Option ℕ) (told : Bool) (rest : List ℕ)
      (queue more : List Waiting)
      (s new : S) → more ≡ queue → IsGreeting (does.connection s).local_state
      → (does.connection new).local_state ≡ HeaderExchange
      → seen settings phase limit told rest more new
      ≡ record (seen settings phase limit told rest queue s) { sessions = new }
  seen_greeted settings phase limit told rest queue more s new queue_is greets at =
      let (sent, took) = greets_open (does.connection s).local_state greets in
      seen_as settings phase limit told rest queue more s new queue_is (ap sent_close at ∙ sym sent)
      (ap took_close at ∙ sym took)

-- the peer's Open comes where the own one was sent alone
pub opens_on : (state next : ConnectionState) (limit : ℕ) → Runs None state → after_incoming_open state ≡ Some next
    → Runs (Some limit) next
opens_on OpenSent next limit runs e =
    let at : Opened ≡ next = cc in
    let P : ConnectionState → Type 0 = λ s. Runs (Some limit) s in
    subst P at tt
opens_on ClosePipe next limit runs e =
    let at : CloseSent ≡ next = cc in
    let P : ConnectionState → Type 0 = λ s. Runs (Some limit) s in
    subst P at tt
opens_on state next limit runs e = absurd runs

-- it comes once
pub opens_once : (limit : Option ℕ) (state next : ConnectionState) → Runs limit state → after_incoming_open state
    ≡ Some next → limit ≡ None
opens_once None state next runs e = refl
opens_once (Some limit) Opened next runs e = absurd (cc)
opens_once (Some limit) CloseSent next runs e = absurd (cc)
opens_once (Some limit) Discarding next runs e = absurd (cc)
opens_once (Some limit) state next runs e = absurd runs

-- where an endpoint greets, its peer's limit isn't known, and its connection greets
pub greeting_of : (phase : Phase) (limit : Option ℕ) (state : ConnectionState) → phase ≡ Greeting
    → Agrees phase limit state
    → (limit ≡ None) × IsGreeting state
greeting_of Greeting limit state is agrees = agrees
greeting_of Unconnected limit state is agrees = absurd (cc)
greeting_of Running limit state is agrees = absurd (cc)
greeting_of Over limit state is agrees = absurd (cc)

greets_exchanged : (state : ConnectionState) → state ≡ HeaderExchange → IsGreeting state
greets_exchanged state at =
    let P : ConnectionState → Type 0 = λ s. IsGreeting s in
    subst P (sym at) tt

pub agrees_exchanged : (phase : Phase) (limit : Option ℕ) (state : ConnectionState) → phase ≡ Greeting → limit ≡ None
    → state ≡ HeaderExchange
    → Agrees phase limit state
agrees_exchanged Greeting limit state is none at = (none, greets_exchanged state at)
agrees_exchanged Unconnected limit state is none at = tt
agrees_exchanged Running limit state is none at = absurd (cc)
agrees_exchanged Over limit state is none at = absurd (cc)

-- behind the own Open frames are read
pub runs_sent : (limit : Option ℕ) (state : ConnectionState) → limit ≡ None → state ≡ OpenSent → Runs limit state
runs_sent limit state none at =
    let P : ConnectionState → Type 0 = λ s. Runs limit s in
    let Q : Option ℕ → Type 0 = λ l. Runs l OpenSent in
    subst P (sym at) (subst Q (sym none) tt)

runs_of : (phase : Phase) (limit : Option ℕ) (state : ConnectionState) → phase ≡ Running → Agrees phase limit state
    → Runs limit state
runs_of Running limit state is agrees = agrees
runs_of Unconnected limit state is agrees = absurd (cc)
runs_of Greeting limit state is agrees = absurd (cc)
runs_of Over limit state is agrees = absurd (cc)

agrees_of : (phase : Phase) (limit : Option ℕ) (state : ConnectionState) → phase ≡ Running → Runs limit state
    → Agrees phase limit state
agrees_of Running limit state is runs = runs
agrees_of Unconnected limit state is runs = tt
agrees_of Greeting limit state is runs = absurd (cc)
agrees_of Over limit state is runs = absurd (cc)

module _ {S : Type 0} (does : Relations S) (settings : Settings) (phase : Phase) (limit : Option ℕ) (s new : S)
    (stands : Stands does settings phase limit s) (running : phase ≡ Running)
    (to : after_incoming_open (does.connection s).local_state ≡ Some (does.connection new).local_state) where
  -- the peer's Open comes once
  pub first_open : limit ≡ None
  first_open =
      opens_once limit (does.connection s).local_state (does.connection new).local_state
      (runs_of phase limit (does.connection s).local_state running stands.agrees) to

  -- and its limit is known then
  pub stands_opened : (most : Option ℕ) (least : ℕ)
      → does.connection new ≡ record (does.connection s)
      { local_state = (does.connection new).local_state; remote_channel_max = most }
      → Stands does settings phase (Some least) new
  stands_opened most least is =
      let P : Option ℕ → Type 0 = λ l. Runs l (does.connection s).local_state in
      let runs = subst P first_open (runs_of phase limit (does.connection s).local_state running stands.agrees) in
      record {
        opening = ap (λ (x : State). frame_on 0 (body.Open x.local_open)) is ∙ stands.opening;
        agrees =
            agrees_of phase (Some least) (does.connection new).local_state running
            (opens_on (does.connection s).local_state (does.connection new).local_state least runs to);
      }

-- an Open with a limit that isn't too low
pub says_enough : (limit : Option ℕ) (most : ℕ) → limit ≡ None → says_too_little limit most ≡ false → 512 ≤ most
says_enough None most none enough = grind (arith, nat_tests)
says_enough (Some n) most none enough = absurd (cc)
