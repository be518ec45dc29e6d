-- The sessions of an endpoint go on by steps of their own.
use Rattle.std.proofs.Common.{◌≡◌, ℕ, zero, suc, List, [], ◌∷◌, ◌++◌, false}
use Rattle.std.proofs.Common.{Option, Some, None, Ok, Err}
use Rattle.std.proofs.Common.{refl, subst}
use Rattle.std.specs.Prelude.{Result, ⊤}
use Rattle.amqp_session_types.specs.declared.channels.OutgoingChannel.{OutgoingChannel}
use Rattle.amqp_session_types.specs.declared.refusals.TryEndError.{TryEndError}
use Rattle.amqp_endpoint_tables.specs.Steps.{Step, History, EndSent, EndTold, Finished, Ends, Finishes, TellsEnd}
use Rattle.amqp_endpoint_linking.specs.Linking.{Links, Session, Sessions, Stood}
use Rattle.amqp_endpoint_linking.specs.Ending.{LeavesFirst, FinishesFirst}
use Rattle.amqp_endpoint_laws.specs.Conversing.{SessionsAct}
use Rattle.amqp_endpoint_laws.proofs.SessionsApart.{GiveNone, GivesNone}

-- sessions go on so
pub record Go (old new : Sessions) : Type 0 where
  pub steps : List SessionsAct
  pub history : History old steps new
  pub none : GiveNone steps

pub stays : (old new : Sessions) → new ≡ old → Go old new
stays old new same = record { steps = []; history = same; none = tt }

pub goes-by : (step : SessionsAct) (old new : Sessions) → GivesNone step → Step old step new → Go old new
goes-by step old new none stepped =
    record { steps = step ∷ []; history = (new, stepped, refl); none = (none, tt) }

pub joined : (old mid new : Sessions) (steps others : List SessionsAct) → History old steps mid
    → History mid others new → History old (steps ++ others) new
joined old mid new [] others same h = subst (λ (s : Sessions). History s others new) same h
joined old mid new (step ∷ steps) others (next, one, rest) h =
    (next, one, joined next mid new steps others rest h)

none-joined : (steps others : List SessionsAct) → GiveNone steps → GiveNone others → GiveNone (steps ++ others)
none-joined [] others n m = m
none-joined (step ∷ steps) others n m = (n.0, none-joined steps others n.1 m)

pub goes-on : (old mid new : Sessions) → Go old mid → Go mid new → Go old new
goes-on old mid new first later =
    record {
      steps = first.steps ++ later.steps;
      history = joined old mid new first.steps later.steps first.history later.history;
      none = none-joined first.steps later.steps first.none later.none;
    }

end-sent : (old : Sessions) (number : ℕ) (left : Option (OutgoingChannel × Session)) (new : Sessions)
    → EndSent false old number left new → Go old new
end-sent old number None new e = stays old new e.1
end-sent old number (Some given) new e = goes-by (Ends number given.0 given.1 false) old new tt e

pub end-told : (old : Sessions) (number : ℕ) (told : Result ⊤ TryEndError) (new : Sessions)
    → EndTold old number told new → Go old new
end-told old number (Ok done) new e = goes-by (TellsEnd number) old new tt e
end-told old number (Err why) new e = stays old new e.1

finished : (old : Sessions) (number : ℕ) (stood : Option Stood) (new : Sessions) → Finished old number stood new
    → Go old new
finished old number None new f = stays old new f.1
finished old number (Some stood) new f = goes-by (Finishes number stood) old new tt f

pub leaves-first : (count : ℕ) (old new : Sessions) (links links_new : Links)
    → LeavesFirst count old links new links_new → Go old new
leaves-first zero old new links links_new l = stays old new l.0
leaves-first (suc count) old new links links_new (mid, links_mid, first, one) =
    goes-on old mid new (leaves-first count old mid links links_mid first) (end-sent mid count one.left new one.sent)

pub finishes-first : (count : ℕ) (old new : Sessions) (links links_new : Links)
    → FinishesFirst count old links new links_new → Go old new
finishes-first zero old new links links_new f = stays old new f.0
finishes-first (suc count) old new links links_new (mid, links_mid, first, one) =
    goes-on old mid new (finishes-first count old mid links links_mid first)
    (finished mid count one.stood new one.finished)
