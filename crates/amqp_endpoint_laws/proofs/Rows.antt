-- What is read of some frames.
use Rattle.std.proofs.Common.{◌≡◌, ℕ, List, [], ◌∷◌, Option, Some, None, refl}
use Rattle.amqp_session_performatives.specs.declared.begin.Begin.{Begin}
use Rattle.amqp_session_performatives.specs.declared.flow.Flow.{Flow}
use Rattle.amqp_session_performatives.specs.declared.session_frame.SessionFrameBody.{SessionFrameBody}
use Rattle.amqp_session_performatives.specs.declared.session_frame.SessionFrameBody.TheVariants as session
use Rattle.amqp_session_performatives.specs.declared.transfer.Transfer.{Transfer}
use Rattle.amqp_session_frames.specs.declared.frame.FrameBody.{FrameBody}
use Rattle.amqp_session_frames.specs.declared.frame.FrameBody.TheVariants as body
use Rattle.amqp_endpoint_laws.specs.Reading.{Comes, Goes, Wired, read_of}

abbrev pub comes : ℕ → FrameBody → Wired
comes channel it = Comes (record { channel = channel; body = it })

abbrev pub goes : ℕ → SessionFrameBody → Wired
goes channel it = Goes (record { channel = channel; body = it })

abbrev pub begin : Option ℕ → Begin
begin remote =
    record {
      remote_channel = remote;
      next_outgoing_id = 0;
      incoming_window = 10;
      outgoing_window = 2048;
      handle_max = 7;
      offered_capabilities = [];
      desired_capabilities = [];
      properties = None;
    }

-- a Begin of the peer's, and its End; one of this end's, and its End
abbrev pub begins : ℕ → Option ℕ → Wired
begins channel remote = comes channel (body.Begin (begin remote))

abbrev pub ends : ℕ → Wired
ends channel = comes channel (body.End (record { error = None }))

abbrev pub own_begins : ℕ → Option ℕ → Wired
own_begins channel remote = goes channel (session.Begin (begin remote))

abbrev pub own_ends : ℕ → Wired
own_ends channel = goes channel (session.End (record { error = None }))

module _ (told : Flow) (carried : Transfer) (payload : List ℕ) where
  abbrev pub flow : ℕ → Wired
  flow channel = comes channel (body.Flow told)

  abbrev pub transfer : ℕ → Wired
  transfer channel = goes channel (session.Transfer carried payload)

  -- this end asks for a session on channel 0, and the peer answers on 5. It asks for a second on 1, which is never
  -- answered
  abbrev pub asked_here : List Wired
  asked_here =
      own_begins 0 None ∷ own_begins 1 None ∷ begins 5 (Some 0) ∷ flow 5 ∷ transfer 0 ∷ []

  pub first-asked : read_of 0 asked_here
      ≡ own_begins 0 None ∷ begins 5 (Some 0) ∷ flow 5 ∷ transfer 0 ∷ []
  first-asked = refl

  pub second-asked : read_of 1 asked_here ≡ own_begins 1 None ∷ []
  second-asked = refl

  -- the peer asks for one on channel 5, and tells its window before it is answered on channel 1. Meanwhile this end
  -- asked for one on 0. Behind the peer's End its channel is nobody's
  abbrev pub asked_there : List Wired
  asked_there =
      begins 5 None ∷ own_begins 0 None ∷ flow 5 ∷ own_begins 1 (Some 5)
      ∷ transfer 1 ∷ ends 5 ∷ own_ends 1 ∷ flow 5 ∷ []

  pub first-there : read_of 0 asked_there
      ≡ begins 5 None ∷ flow 5 ∷ own_begins 1 (Some 5) ∷ transfer 1 ∷ ends 5 ∷ own_ends 1 ∷ []
  first-there = refl

  pub second-there : read_of 1 asked_there ≡ own_begins 0 None ∷ []
  second-there = refl

  -- channels are used again behind both End, and a channel of the peer's is led elsewhere by its next Begin
  abbrev pub used_again : List Wired
  used_again =
      own_begins 0 None ∷ begins 5 (Some 0) ∷ own_ends 0 ∷ ends 5
      ∷ own_begins 0 None ∷ own_begins 2 None ∷ begins 6 (Some 0)
      ∷ begins 6 (Some 2) ∷ flow 6 ∷ transfer 0 ∷ transfer 2 ∷ []

  pub first-again : read_of 0 used_again
      ≡ own_begins 0 None ∷ begins 5 (Some 0) ∷ own_ends 0 ∷ ends 5 ∷ []
  first-again = refl

  pub second-again : read_of 1 used_again
      ≡ own_begins 0 None ∷ begins 6 (Some 0) ∷ transfer 0 ∷ []
  second-again = refl

  pub third-again : read_of 2 used_again
      ≡ own_begins 2 None ∷ begins 6 (Some 2) ∷ flow 6 ∷ transfer 2 ∷ []
  third-again = refl
