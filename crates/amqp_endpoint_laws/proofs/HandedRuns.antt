-- In each run of an endpoint what a receiving link hands out is what the transfers say that reach it.
use Rattle.std.proofs.Common.{◌≡◌, inl, inr, ℕ, true, List, Option, Some, ap, map, sym, ◌∙◌}
use Rattle.amqp_session_types.specs.declared.handles.OutputHandle.{OutputHandle}
use Rattle.amqp_link_base.specs.Readings.{Piece, nothing, readings}
use Rattle.amqp_link_base.specs.Said.{Said}
use Rattle.amqp_link_receiver.specs.Deliveries.{Delivery}
use Rattle.amqp_link_receiver.specs.Readings.{held_said}
use Rattle.amqp_endpoint_laws.specs.Deeds.{AreDone, Deed, told_by}
use Rattle.amqp_endpoint.specs.Does.{linked}
use Rattle.amqp_endpoint.specs.declared.linked.LinkedSessions.{LinkedSessions}
use Rattle.amqp_endpoint_model.specs.Relay.{IsNew}
use Rattle.amqp_endpoint_model.specs.declared.settings.Settings.{Settings}
use Rattle.amqp_endpoint_tables.specs.OwnLinks.{slot_at}
use Rattle.amqp_endpoint_tables.specs.State.{live_at}
use Rattle.amqp_endpoint_laws.specs.Handed.{IsReceiving, NoneResumes, ReachIn, handed_as, handed_by}
use Rattle.amqp_endpoint_laws.proofs.HandedBy.{deeds-say}
use Rattle.amqp_endpoint_laws.proofs.HandedOut.{receives-holds, receives-so}
use Rattle.amqp_endpoint_laws.proofs.HeldKept.{agree-new}
use Rattle.amqp_endpoint_laws.proofs.HoldingTalk.{held_in}
use Rattle.amqp_endpoint_laws.proofs.LifePlace.{IsAlone, IsKnown, IsUnentered, known-done, stays-held}
use Rattle.amqp_endpoint_laws.proofs.LifePlace.{unentered-none}
use Rattle.amqp_endpoint_laws.proofs.LinksKept.{BackGoesOn, FinishedGoesOn, LeftGoesOn}

-- in new sessions no link has a number
pub new-unentered : (link : ℕ) (sessions : LinkedSessions) (settings : Settings) → IsNew linked settings sessions
    → IsUnentered link sessions
new-unentered link sessions settings new =
    record {
      agrees = agree-new settings sessions new;
      none = ap (λ (s : LinkedSessions). slot_at s.links link) new.is;
    }

module _ (back_on : BackGoesOn) (left_on : LeftGoesOn) (finished_on : FinishedGoesOn) where
  -- where a link receives, it is there
  receives-in : (link session : ℕ) (own : OutputHandle) (s : LinkedSessions) (held : Option Delivery)
      → IsKnown link s → IsReceiving s link session own held → IsAlone link s session own.0
  receives-in link session own s held k r =
      by k (receives-holds s link session own held (receives-so s link session own held r))
    where
      by : IsKnown link s → held_in (live_at s.talk.sessions session) own.0 ≡ Some (link, (true, held))
          → IsAlone link s session own.0
      by (inl u) there = absurd (unentered-none link s u session own.0 (true, held) there)
      by (inr (n, h, i)) there =
          let (in_it, by_it) = i.alone session own.0 (true, held) there in
          record {
            agrees = i.agrees;
            entered = i.entered;
            alone = λ m g x e. let (a, b) = i.alone m g x e in (a ∙ sym in_it, b ∙ sym by_it);
          }

  pub handed-so : (sessions start end : LinkedSessions) (settings : Settings) (before since : List Deed)
      (link session : ℕ) (own : OutputHandle) (held : Option Said) (pieces : List Piece)
      → IsNew linked settings sessions → AreDone linked sessions before start
      → IsReceiving start link session own (held_said held) → ReachIn link session own start since end pieces
      → NoneResumes pieces
      → (handed_by link (told_by since) ≡
      map (handed_as own) (readings (record nothing { held = held }) pieces).messages)
      × IsReceiving end link session own (held_said (readings (record nothing { held = held }) pieces).held)
  handed-so sessions start end settings before since link session own held pieces new done r reach none =
      let known =
      known-done link back_on left_on finished_on before sessions start done
      (inl (new-unentered link sessions settings new)) in
      let (messages, receives) =
      deeds-say link session own (λ s. IsAlone link s session own.0)
      (λ s h i q. record { receives = receives-so s link session own h q; alone = i.alone })
      (λ deed old mid d h i q.
      stays-held link deed old mid d back_on left_on finished_on session own.0 i h
      (receives-holds old link session own h (receives-so old link session own h q))) since start end
      pieces (record nothing { held = held }) (receives-in link session own start (held_said held) known r) r reach none
      in
      (sym messages, receives)
