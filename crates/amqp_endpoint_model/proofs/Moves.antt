-- Each way a connection goes on leads to one state of the sessions, where these decide what they do.
use Rattle.std.proofs.Common.{◌≡◌, ◌++◌, ℕ, Bool, true, false, List, sym, ◌∙◌, ap, subst, Option, Some, None}
use Rattle.std.specs.Prelude.{map}
use Rattle.amqp_session_performatives.specs.declared.open.Open.{Open as OpenFields}
use Rattle.amqp_session_performatives.specs.declared.session_frame.SessionFrame.{SessionFrame}
use Rattle.amqp_session_frames.specs.declared.state.ConnectionState.{ConnectionState}
use Rattle.amqp_session_frames.specs.Table.{after_incoming_close, after_send_close}
use Rattle.amqp_session_frames.specs.declared.frame.FrameBody.{FrameBody}
use Rattle.amqp_session_frames.specs.declared.frame.FrameBody.TheVariants.{Empty, Open, Close}
use Rattle.amqp_endpoint_model.specs.declared.event.Event.{Event}
use Rattle.amqp_endpoint_model.specs.Relay.{Relations, Decides}
use Rattle.amqp_endpoint_model.specs.State.{State, limit_of, waiting_of}
use Rattle.amqp_endpoint_model.specs.Step.{MovesBy, MovesByOpen, SendsClose, ClosesBoth, ClosesBy, ClosesOwn, SessionsTake, TakesBody, AfterFault, Breaks, at_state, closed, faulted, cut_off}

same-some : (x y : ConnectionState) → Some x ≡ Some y → x ≡ y
same-some x y e = cc

module _ {S : Type 0} where
  -- the same sessions that sent the same stand in the same state
  pub sent-same : (s a b : State S) (frames more : List SessionFrame) → a.sessions ≡ b.sessions → frames ≡ more
      → a ≡ record s { sessions = a.sessions; queue = s.queue ++ map waiting_of frames }
      → b ≡ record s { sessions = b.sessions; queue = s.queue ++ map waiting_of more } → a ≡ b
  sent-same s a b frames more sessions same r t =
      let to : S → List SessionFrame → State S
      = λ x fs. record s { sessions = x; queue = s.queue ++ map waiting_of fs } in
      let theirs : to a.sessions frames ≡ to b.sessions frames = ap (λ (x : S). to x frames) sessions in
      r ∙ theirs ∙ ap (to b.sessions) same ∙ sym t

module _ {S : Type 0} (does : Relations S) where
  moves-unique : (row : ConnectionState → Option ConnectionState) (old a b : S) → MovesBy does row old a
      → MovesBy does row old b → a ≡ b
  moves-unique row old a b r t =
      let x : ConnectionState = (does.connection a).local_state in
      let y : ConnectionState = (does.connection b).local_state in
      let same : x ≡ y = same-some x y (sym r.to ∙ t.to) in
      r.is ∙ ap (λ (state : ConnectionState). at_state does old state) same ∙ sym t.is

  moves_by_open-unique : (o : OpenFields) (old a b : S) → MovesByOpen does o old a → MovesByOpen does o old b → a ≡ b
  moves_by_open-unique o old a b r t =
      let x : ConnectionState = (does.connection a).local_state in
      let y : ConnectionState = (does.connection b).local_state in
      let same : x ≡ y = same-some x y (sym r.to ∙ t.to) in
      let to : ConnectionState → S = λ state. does.moved old (record (does.connection old) {
        local_state = state;
        remote_channel_max = Some o.channel_max;
      }) in
      r.is ∙ ap to same ∙ sym t.is

  sends_close-unique : (own_close error : Bool) (old a b : S) → SendsClose does own_close error old a
      → SendsClose does own_close error old b → a ≡ b
  sends_close-unique true error old a b r t = r ∙ sym t
  sends_close-unique false error old a b r t = moves-unique (after_send_close error) old a b r t

module _ {S : Type 0} (does : Relations S) (law : Decides does) where
  closes_both-unique : (own_close : Bool) (old a b : S) → ClosesBoth does own_close old a
      → ClosesBoth does own_close old b → a ≡ b
  closes_both-unique own_close old a b r t =
      let taken : r.taken ≡ t.taken = moves-unique does after_incoming_close old r.taken t.taken r.takes t.takes in
      let P : S → Type 0 = λ x. SendsClose does own_close false x t.answered in
      let answered : r.answered ≡ t.answered
      = sends_close-unique does own_close false r.taken r.answered t.answered r.answers
      (subst P (sym taken) t.answers) in
      let Q : S → Type 0 = λ x. does.finishes x b in
      law.finished r.answered a b r.over (subst Q (sym answered) t.over)

  closes_by-unique : (own_close : Bool) (old a b : S) → ClosesBy does own_close old a → ClosesBy does own_close old b
      → a ≡ b
  closes_by-unique own_close old a b r t =
      let told : r.told ≡ t.told = sends_close-unique does own_close true old r.told t.told r.tells t.tells in
      let Q : S → Type 0 = λ x. does.finishes x b in
      law.finished r.told a b r.over (subst Q (sym told) t.over)

  pub closes_own-unique : (old a b : S) → ClosesOwn does old a → ClosesOwn does old b → a ≡ b
  closes_own-unique old a b r t =
      let sent : r.sent ≡ t.sent = moves-unique does (after_send_close false) old r.sent t.sent r.sends t.sends in
      let Q : S → Type 0 = λ x. does.closes x b in
      law.closed r.sent a b r.left (subst Q (sym sent) t.left)

  pub breaks-unique : (s a b : State S) → Breaks does s a → Breaks does s b → a ≡ b
  breaks-unique s a b (over, after) (over2, after2) =
      let same : a.sessions ≡ b.sessions = law.finished s.sessions a.sessions b.sessions over over2 in
      after ∙ ap (λ (x : S). cut_off s x) same ∙ sym after2

  pub after_fault-unique : (condition : Option (List ℕ)) (s a b : State S) → AfterFault does condition s a
      → AfterFault does condition s b → a ≡ b
  after_fault-unique None s a b r t = breaks-unique s a b r t
  after_fault-unique (Some condition) s a b (closes, after) (closes2, after2) =
      let same : a.sessions ≡ b.sessions
      = closes_by-unique s.own_close s.sessions a.sessions b.sessions closes closes2 in
      after ∙ ap (λ (x : S). faulted condition s x) same ∙ sym after2

  taken-unique : (s : State S) (channel : ℕ) (body : FrameBody) (es ds : List Event) (a b : State S)
      → SessionsTake does s channel body es a → SessionsTake does s channel body ds b → (es ≡ ds) × (a ≡ b)
  taken-unique s channel body es ds a b r t =
      let (frames, events, sessions) = law.taken s.sessions a.sessions b.sessions (limit_of s.peer_limit) channel body
      r.frames t.frames es ds r.takes t.takes in
      (events, sent-same s a b r.frames t.frames sessions frames r.queued t.queued)

  pub body-unique : (body : FrameBody) (s : State S) (channel : ℕ) (es ds : List Event) (a b : State S)
      → TakesBody does s channel body es a → TakesBody does s channel body ds b → (es ≡ ds) × (a ≡ b)
  body-unique Empty s channel es ds a b (told, after) (told2, after2) = (told ∙ sym told2, after ∙ sym after2)
  body-unique (Open o) s channel es ds a b (none, least, told, moves, after) (none2, least2, told2, moves2, after2) =
      let same : a.sessions ≡ b.sessions = moves_by_open-unique does o s.sessions a.sessions b.sessions moves moves2 in
      let to : S → State S = λ x. record s { peer_limit = Some o.max_frame_size; sessions = x } in
      (told ∙ sym told2, after ∙ ap to same ∙ sym after2)
  body-unique (Close c) s channel es ds a b (told, both, after) (told2, both2, after2) =
      let same : a.sessions ≡ b.sessions
      = closes_both-unique s.own_close s.sessions a.sessions b.sessions both both2 in
      (told ∙ sym told2, after ∙ ap (λ (x : S). closed s x) same ∙ sym after2)
  body-unique body s channel es ds a b r t = taken-unique s channel body es ds a b r t
