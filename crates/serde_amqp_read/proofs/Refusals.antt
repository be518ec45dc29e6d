-- What a refusal says, told on.
use Rattle.std.proofs.Common.{◌≡◌, subst, Bool, true, false, Result, Ok, Err}
use Rattle.std.specs.Prelude.{IsErrAnd, IfErr}
use Rattle.std.proofs.lemmas.Result.{err_from_is_err_and}
use Rattle.serde_amqp_item.specs.declared.error.Error.{Error}
use Rattle.serde_amqp_item.specs.declared.error.Error.TheVariants.{Message, Io, InvalidFormatCode, InvalidValue, InvalidUtf8Encoding, SequenceLengthMismatch, InvalidLength, Memory}
use Rattle.serde_amqp_read.specs.Reads.{Otherwise, Refusal, Unless, NamedIfIo, faultless}

otherwise_weaker : (b : Bool) (P Q : Type 0) → (P → Q) → Otherwise b P → Otherwise b Q
otherwise_weaker true P Q f h = tt
otherwise_weaker false P Q f h = f h

pub refusal_weaker : (faulty : Error → Bool) (e : Error) (P Q : Type 0) → (P → Q) → Refusal faulty e P → Refusal faulty e Q
refusal_weaker faulty Memory P Q f h = tt
refusal_weaker faulty (Io kind) P Q f h = otherwise_weaker (faulty (Io kind)) P Q f h
refusal_weaker faulty Message P Q f h = f h
refusal_weaker faulty InvalidFormatCode P Q f h = f h
refusal_weaker faulty InvalidValue P Q f h = f h
refusal_weaker faulty InvalidUtf8Encoding P Q f h = f h
refusal_weaker faulty SequenceLengthMismatch P Q f h = f h
refusal_weaker faulty InvalidLength P Q f h = f h

otherwise_of : (b : Bool) (P : Type 0) → P → Otherwise b P
otherwise_of true P p = tt
otherwise_of false P p = p

pub refusal_of : (faulty : Error → Bool) (e : Error) (P : Type 0) → P → Refusal faulty e P
refusal_of faulty Memory P p = tt
refusal_of faulty (Io kind) P p = otherwise_of (faulty (Io kind)) P p
refusal_of faulty Message P p = p
refusal_of faulty InvalidFormatCode P p = p
refusal_of faulty InvalidValue P p = p
refusal_of faulty InvalidUtf8Encoding P p = p
refusal_of faulty SequenceLengthMismatch P p = p
refusal_of faulty InvalidLength P p = p

-- what the exit of a `?` refuses
pub carried : {X : Type 0} (faulty : Error → Bool) (r : Result X Error) (e : Error) (P Q : Type 0) → IsErrAnd r (λ f. f ≡ e) → (P → Q) → Refusal faulty e P → Unless faulty r Q
carried faulty r e P Q is f h =
    let p = err_from_is_err_and r is in
    rw (p.1, p.2) (refusal_weaker faulty e P Q f h)

-- the exit of a `?` names what was named there
pub named_on : {X : Type 0} (r : Result X Error) (e old mid : Error) → IsErrAnd r (λ f. f ≡ e) → mid ≡ old → NamedIfIo mid e → IfErr r (NamedIfIo old)
named_on r e old mid is same h =
    let p = err_from_is_err_and r is in
    rw (p.1, p.2) (subst (λ (x : Error). NamedIfIo x e) same h)

otherwise_known : (b : Bool) (P : Type 0) → b ≡ false → Otherwise b P → P
otherwise_known true P e h = absurd cc
otherwise_known false P e h = h

-- a refusal of a reader that has no faults of its own
pub unless_known : {X : Type 0} (faulty : Error → Bool) (r : Result X Error) (P : Type 0) → ((e : Error) → faulty e ≡ false) → Unless faulty r P → Unless faultless r P
unless_known faulty (Ok x) P known h = tt
unless_known faulty (Err Memory) P known h = tt
unless_known faulty (Err (Io kind)) P known h = otherwise_known (faulty (Io kind)) P (known (Io kind)) h
unless_known faulty (Err Message) P known h = h
unless_known faulty (Err InvalidFormatCode) P known h = h
unless_known faulty (Err InvalidValue) P known h = h
unless_known faulty (Err InvalidUtf8Encoding) P known h = h
unless_known faulty (Err SequenceLengthMismatch) P known h = h
unless_known faulty (Err InvalidLength) P known h = h
