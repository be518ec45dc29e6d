-- In each run of an endpoint, over the whole life of a link, what is handed out by it is what the transfers say that
-- reach it.
use Rattle.std.proofs.Common.{◌≡◌, ℕ, List, [], ◌++◌, ap, map, sym, ◌∙◌}
use Rattle.amqp_session_types.specs.declared.handles.OutputHandle.{OutputHandle}
use Rattle.amqp_link_base.specs.Readings.{Piece, nothing, readings}
use Rattle.amqp_endpoint_laws.specs.Deeds.{AreDone, Deed, IsDone, done_since, fed_since, pulled_since, told_by}
use Rattle.amqp_endpoint_laws.specs.Deeds.{told_since}
use Rattle.amqp_endpoint_laws.specs.CallsDone.{calls_done, events_told}
use Rattle.amqp_endpoint_laws.proofs.Runs.{is-done}
use Rattle.amqp_endpoint.specs.Does.{linked}
use Rattle.amqp_endpoint.specs.declared.linked.LinkedSessions.{LinkedSessions}
use Rattle.amqp_endpoint_model.specs.History.{Run}
use Rattle.amqp_endpoint_model.specs.Relay.{IsNew}
use Rattle.amqp_endpoint_model.specs.Said.{Told}
use Rattle.amqp_endpoint_model.specs.State.{State, fresh}
use Rattle.amqp_endpoint_model.specs.declared.call.Call.{Call}
use Rattle.amqp_endpoint_model.specs.declared.settings.Settings.{Settings}
use Rattle.amqp_endpoint_laws.specs.Handed.{NoneResumes, handed_as, handed_by}
use Rattle.amqp_endpoint_laws.specs.Life.{Reach}
use Rattle.amqp_endpoint_laws.proofs.HandedRuns.{new-unentered}
use Rattle.amqp_endpoint_laws.proofs.LifeDeeds.{reach-some, unentered-tells}
use Rattle.amqp_endpoint_laws.proofs.LinksKept.{BackGoesOn, FinishedGoesOn, LeftGoesOn}
use Rattle.amqp_endpoint_laws.proofs.Again.{never-resumed}
use Rattle.amqp_endpoint_laws.specs.Resumed.{NeverCalledAgain, NeverResumed}

module _ (back_on : BackGoesOn) (left_on : LeftGoesOn) (finished_on : FinishedGoesOn) (sessions : LinkedSessions)
    (settings : Settings) (link : ℕ) (new : IsNew linked settings sessions) where
  pub handed-all : (end : LinkedSessions) (deeds : List Deed) (session : ℕ) (own : OutputHandle) (pieces : List Piece)
      → NeverResumed link deeds → Reach link session own sessions deeds end pieces → NoneResumes pieces
      → handed_by link (told_by deeds) ≡ map (handed_as own) (readings nothing pieces).messages
  handed-all end deeds session own pieces never reach none =
      sym (unentered-tells link session own back_on left_on finished_on deeds sessions end pieces never
      (new-unentered link sessions settings new) reach none)

  pub reach-all : (end : LinkedSessions) (deeds : List Deed) → NeverResumed link deeds
      → AreDone linked sessions deeds end
      → (session : ℕ) × (own : OutputHandle) × (pieces : List Piece)
      × Reach link session own sessions deeds end pieces
  reach-all end deeds never done =
      reach-some link back_on left_on finished_on deeds sessions end never (new-unentered link sessions settings new)
      done

  pub handed-called : (calls : List Call) (told : List Told) (end : State LinkedSessions)
      → Run linked (fresh settings sessions) calls told end → NeverCalledAgain link (calls_done calls told)
      → (did : IsDone linked settings.max_frame_size sessions (pulled_since [] calls told) (fed_since [] calls told)
      (told_since [] calls told) (done_since [] calls told) (events_told told) (calls_done calls told) end)
      × (session : ℕ) × (own : OutputHandle) × (pieces : List Piece)
      × Reach link session own sessions (did.before ++ did.since) end.sessions pieces
      × (NoneResumes pieces
      → handed_by link (events_told told) ≡ map (handed_as own) (readings nothing pieces).messages)
  handed-called calls told end run never =
      let did = is-done linked sessions settings calls told end run in
      let none : NeverResumed link (did.before ++ did.since) =
      never-resumed link (did.before ++ did.since) (calls_done calls told) did.all.calls never in
      let (session, own, pieces, reach) = reach-all end.sessions (did.before ++ did.since) none did.are_done in (
        did,
        session,
        own,
        pieces,
        reach,
        (λ fresh.
            ap (handed_by link) (sym did.all.told)
            ∙ handed-all end.sessions (did.before ++ did.since) session own pieces none reach fresh),
      )
