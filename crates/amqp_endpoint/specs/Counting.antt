-- How an endpoint counts the messages that it sends and those that it hands out.
use Rattle.std.specs.Prelude.{◌≡◌, suc}
use Rattle.amqp_endpoint_model.specs.declared.call.Call.{Call}
use Rattle.amqp_endpoint_model.specs.declared.call.Call.TheVariants.{Send}
use Rattle.amqp_endpoint.specs.declared.linked.LinkedSessions.{LinkedSessions}

-- none more was sent or handed out
pub record CountsStay (old new : LinkedSessions) : Type 0 where
  pub sent : new.sent ≡ old.sent
  pub given : new.given ≡ old.given

-- one more was sent
pub record OneMoreSent (old new : LinkedSessions) : Type 0 where
  pub sent : new.sent ≡ suc old.sent
  pub given : new.given ≡ old.given

-- behind a call that is done
abbrev pub Counted : Call → LinkedSessions → LinkedSessions → Type 0
Counted (Send link message) old new = OneMoreSent old new
Counted call old new = CountsStay old new
