-- Performatives whose arrays and maps have no more elements than may be read.
use Rattle.std.specs.Prelude.{ℕ, ◌≤◌, List, length, Option, Some, None}
use Rattle.serde_amqp_item.specs.Canon.{AllWithin}
use Rattle.serde_amqp_item.specs.Record.{option_item}
use Rattle.serde_amqp_item.specs.Wire.{IsCapped}
use Rattle.amqp_session_types.specs.declared.error.Error.{Error}
use Rattle.amqp_session_states.specs.DeliveryState.{delivery_state_item}
use Rattle.amqp_session_states.specs.Source.{source_item}
use Rattle.amqp_session_states.specs.TargetArchetype.{target_archetype_item}
use Rattle.amqp_session_performatives.specs.Parts.{unsettled_item}
use Rattle.amqp_session_performatives.specs.declared.open.Open.{Open}
use Rattle.amqp_session_performatives.specs.declared.begin.Begin.{Begin}
use Rattle.amqp_session_performatives.specs.declared.attach.Attach.{Attach}
use Rattle.amqp_session_performatives.specs.declared.flow.Flow.{Flow}
use Rattle.amqp_session_performatives.specs.declared.transfer.Transfer.{Transfer}
use Rattle.amqp_session_performatives.specs.declared.disposition.Disposition.{Disposition}
use Rattle.amqp_session_performatives.specs.declared.detach.Detach.{Detach}
use Rattle.amqp_session_performatives.specs.declared.end.End.{End}
use Rattle.amqp_session_performatives.specs.declared.close.Close.{Close}
use Rattle.amqp_session_performatives.specs.declared.performative.Performative.{Performative}
use Rattle.amqp_session_performatives.specs.declared.performative.Performative.TheVariants.{Open as the_open}
use Rattle.amqp_session_performatives.specs.declared.performative.Performative.TheVariants.{Begin as the_begin}
use Rattle.amqp_session_performatives.specs.declared.performative.Performative.TheVariants.{Attach as the_attach}
use Rattle.amqp_session_performatives.specs.declared.performative.Performative.TheVariants.{Flow as the_flow}
use Rattle.amqp_session_performatives.specs.declared.performative.Performative.TheVariants.{Transfer as the_transfer}
use Rattle.amqp_session_performatives.specs.declared.performative.Performative.TheVariants.{Disposition as the_disposition}
use Rattle.amqp_session_performatives.specs.declared.performative.Performative.TheVariants.{Detach as the_detach}
use Rattle.amqp_session_performatives.specs.declared.performative.Performative.TheVariants.{End as the_end}
use Rattle.amqp_session_performatives.specs.declared.performative.Performative.TheVariants.{Close as the_close}

-- an array of at most 65,536 symbols
abbrev pub FewSymbols : List (List ℕ) → Type 0
FewSymbols names = length names ≤ 65536

-- a map of at most 32,768 pairs; what the values hold, which are kept as they were given, is not counted
abbrev pub FewValues : Option (List (List ℕ × List ℕ)) → Type 0
FewValues None = Unit {0}
FewValues (Some ps) = length ps ≤ 32768

-- an error with few values in its info
abbrev pub FewDetails : Option Error → Type 0
FewDetails None = Unit {0}
FewDetails (Some e) = FewValues e.info

pub record IsShortOpen (o : Open) : Type 0 where
  pub outgoing_locales : FewSymbols o.outgoing_locales
  pub incoming_locales : FewSymbols o.incoming_locales
  pub offered_capabilities : FewSymbols o.offered_capabilities
  pub desired_capabilities : FewSymbols o.desired_capabilities
  pub properties : FewValues o.properties

pub record IsShortBegin (b : Begin) : Type 0 where
  pub offered_capabilities : FewSymbols b.offered_capabilities
  pub desired_capabilities : FewSymbols b.desired_capabilities
  pub properties : FewValues b.properties

pub record IsShortAttach (a : Attach) : Type 0 where
  pub source : AllWithin IsCapped (option_item source_item a.source)
  pub target : AllWithin IsCapped (option_item target_archetype_item a.target)
  pub unsettled : AllWithin IsCapped (option_item unsettled_item a.unsettled)
  pub offered_capabilities : FewSymbols a.offered_capabilities
  pub desired_capabilities : FewSymbols a.desired_capabilities
  pub properties : FewValues a.properties

pub record IsShortFlow (l : Flow) : Type 0 where
  pub properties : FewValues l.properties

pub record IsShortTransfer (t : Transfer) : Type 0 where
  pub state : AllWithin IsCapped (option_item delivery_state_item t.state)

pub record IsShortDisposition (d : Disposition) : Type 0 where
  pub state : AllWithin IsCapped (option_item delivery_state_item d.state)

pub record IsShortDetach (d : Detach) : Type 0 where
  pub error : FewDetails d.error

pub record IsShortEnd (e : End) : Type 0 where
  pub error : FewDetails e.error

pub record IsShortClose (c : Close) : Type 0 where
  pub error : FewDetails c.error

abbrev pub IsShort : Performative → Type 0
IsShort (the_open x) = IsShortOpen x
IsShort (the_begin x) = IsShortBegin x
IsShort (the_attach x) = IsShortAttach x
IsShort (the_flow x) = IsShortFlow x
IsShort (the_transfer x) = IsShortTransfer x
IsShort (the_disposition x) = IsShortDisposition x
IsShort (the_detach x) = IsShortDetach x
IsShort (the_end x) = IsShortEnd x
IsShort (the_close x) = IsShortClose x
