-- What the table's rows spend and keep.
use Rattle.std.proofs.Common.{◌≡◌, ◌≤◌, ◌+◌, ℕ, Bool, true, false, Option, Some, None, refl, sym, ap, subst, arith}
use Rattle.std.specs.Prelude.{unwrap_or}
use Rattle.std.proofs.lemmas.Option.{none-some}
use Rattle.amqp_session_frames.specs.declared.state.ConnectionState.{ConnectionState}
use Rattle.amqp_session_frames.specs.declared.state.ConnectionState.TheVariants.{Start, HeaderReceived, HeaderSent}
use Rattle.amqp_session_frames.specs.declared.state.ConnectionState.TheVariants.{HeaderExchange, OpenPipe}
use Rattle.amqp_session_frames.specs.declared.state.ConnectionState.TheVariants.{OpenClosePipe, OpenReceived}
use Rattle.amqp_session_frames.specs.declared.state.ConnectionState.TheVariants.{OpenSent, ClosePipe, Opened}
use Rattle.amqp_session_frames.specs.declared.state.ConnectionState.TheVariants.{CloseReceived, CloseSent, Discarding}
use Rattle.amqp_session_frames.specs.declared.state.ConnectionState.TheVariants.{End}
use Rattle.amqp_session_frames.specs.Table.{after_send_header, after_incoming_header, after_send_open}
use Rattle.amqp_session_frames.specs.Table.{after_incoming_open, after_send_close, after_incoming_close}
use Rattle.amqp_session_frames.specs.Table.{refusal_of_begin}

-- how many Open may still be handed out
abbrev pub opens_left : ConnectionState → ℕ
opens_left Start = 1
opens_left HeaderReceived = 1
opens_left HeaderSent = 1
opens_left HeaderExchange = 1
opens_left OpenReceived = 1
opens_left other = 0

-- how many Close may still be handed out
abbrev pub closes_left : ConnectionState → ℕ
closes_left Start = 1
closes_left HeaderReceived = 1
closes_left HeaderSent = 1
closes_left HeaderExchange = 1
closes_left OpenPipe = 1
closes_left OpenReceived = 1
closes_left OpenSent = 1
closes_left Opened = 1
closes_left CloseReceived = 1
closes_left other = 0

-- both Open were exchanged
abbrev pub is_settled : ConnectionState → Bool
is_settled Opened = true
is_settled CloseReceived = true
is_settled CloseSent = true
is_settled Discarding = true
is_settled End = true
is_settled other = false

-- from one state to another so many Open and Close are handed out, and what was exchanged stays so
pub record Spends (opens closes : ℕ) (state next : ConnectionState) : Type 0 where
  pub opened : opens_left next + opens ≤ opens_left state
  pub closed : closes_left next + closes ≤ closes_left state
  pub settled : is_settled state ≡ true → is_settled next ≡ true

to : {opens closes : ℕ} {state : ConnectionState} (there next : ConnectionState) → Spends opens closes state there → Some there ≡ Some next → Spends opens closes state next
to {opens} {closes} {state} there next s e = subst (λ (n : ConnectionState). Spends opens closes state n) (ap (λ (o : Option ConnectionState). unwrap_or o Start) e) s

pub send_header_moves : (state next : ConnectionState) → after_send_header state ≡ Some next → Spends 0 0 state next
send_header_moves Start next e = to HeaderSent next (record { opened = omega arith; closed = omega arith; settled = λ h. absurd cc }) e
send_header_moves HeaderReceived next e = to HeaderExchange next (record { opened = omega arith; closed = omega arith; settled = λ h. absurd cc }) e
send_header_moves HeaderSent next e = absurd (none-some next e)
send_header_moves HeaderExchange next e = absurd (none-some next e)
send_header_moves OpenPipe next e = absurd (none-some next e)
send_header_moves OpenClosePipe next e = absurd (none-some next e)
send_header_moves OpenReceived next e = absurd (none-some next e)
send_header_moves OpenSent next e = absurd (none-some next e)
send_header_moves ClosePipe next e = absurd (none-some next e)
send_header_moves Opened next e = absurd (none-some next e)
send_header_moves CloseReceived next e = absurd (none-some next e)
send_header_moves CloseSent next e = absurd (none-some next e)
send_header_moves Discarding next e = absurd (none-some next e)
send_header_moves End next e = absurd (none-some next e)

pub incoming_header_moves : (state next : ConnectionState) → after_incoming_header state ≡ Some next → Spends 0 0 state next
incoming_header_moves Start next e = to HeaderReceived next (record { opened = omega arith; closed = omega arith; settled = λ h. absurd cc }) e
incoming_header_moves HeaderReceived next e = absurd (none-some next e)
incoming_header_moves HeaderSent next e = to HeaderExchange next (record { opened = omega arith; closed = omega arith; settled = λ h. absurd cc }) e
incoming_header_moves HeaderExchange next e = absurd (none-some next e)
incoming_header_moves OpenPipe next e = to OpenSent next (record { opened = omega arith; closed = omega arith; settled = λ h. absurd cc }) e
incoming_header_moves OpenClosePipe next e = to ClosePipe next (record { opened = omega arith; closed = omega arith; settled = λ h. absurd cc }) e
incoming_header_moves OpenReceived next e = absurd (none-some next e)
incoming_header_moves OpenSent next e = absurd (none-some next e)
incoming_header_moves ClosePipe next e = absurd (none-some next e)
incoming_header_moves Opened next e = absurd (none-some next e)
incoming_header_moves CloseReceived next e = absurd (none-some next e)
incoming_header_moves CloseSent next e = absurd (none-some next e)
incoming_header_moves Discarding next e = absurd (none-some next e)
incoming_header_moves End next e = absurd (none-some next e)

pub send_open_moves : (state next : ConnectionState) → after_send_open state ≡ Some next → Spends 1 0 state next
send_open_moves Start next e = absurd (none-some next e)
send_open_moves HeaderReceived next e = absurd (none-some next e)
send_open_moves HeaderSent next e = absurd (none-some next e)
send_open_moves HeaderExchange next e = to OpenSent next (record { opened = omega arith; closed = omega arith; settled = λ h. absurd cc }) e
send_open_moves OpenPipe next e = absurd (none-some next e)
send_open_moves OpenClosePipe next e = absurd (none-some next e)
send_open_moves OpenReceived next e = to Opened next (record { opened = omega arith; closed = omega arith; settled = λ _. refl }) e
send_open_moves OpenSent next e = absurd (none-some next e)
send_open_moves ClosePipe next e = absurd (none-some next e)
send_open_moves Opened next e = absurd (none-some next e)
send_open_moves CloseReceived next e = absurd (none-some next e)
send_open_moves CloseSent next e = absurd (none-some next e)
send_open_moves Discarding next e = absurd (none-some next e)
send_open_moves End next e = absurd (none-some next e)

pub incoming_open_moves : (state next : ConnectionState) → after_incoming_open state ≡ Some next → Spends 0 0 state next
incoming_open_moves Start next e = absurd (none-some next e)
incoming_open_moves HeaderReceived next e = absurd (none-some next e)
incoming_open_moves HeaderSent next e = absurd (none-some next e)
incoming_open_moves HeaderExchange next e = to OpenReceived next (record { opened = omega arith; closed = omega arith; settled = λ h. absurd cc }) e
incoming_open_moves OpenPipe next e = absurd (none-some next e)
incoming_open_moves OpenClosePipe next e = absurd (none-some next e)
incoming_open_moves OpenReceived next e = absurd (none-some next e)
incoming_open_moves OpenSent next e = to Opened next (record { opened = omega arith; closed = omega arith; settled = λ _. refl }) e
incoming_open_moves ClosePipe next e = to CloseSent next (record { opened = omega arith; closed = omega arith; settled = λ _. refl }) e
incoming_open_moves Opened next e = absurd (none-some next e)
incoming_open_moves CloseReceived next e = absurd (none-some next e)
incoming_open_moves CloseSent next e = absurd (none-some next e)
incoming_open_moves Discarding next e = absurd (none-some next e)
incoming_open_moves End next e = absurd (none-some next e)

pub incoming_close_moves : (state next : ConnectionState) → after_incoming_close state ≡ Some next → Spends 0 0 state next
incoming_close_moves Start next e = absurd (none-some next e)
incoming_close_moves HeaderReceived next e = absurd (none-some next e)
incoming_close_moves HeaderSent next e = absurd (none-some next e)
incoming_close_moves HeaderExchange next e = absurd (none-some next e)
incoming_close_moves OpenPipe next e = absurd (none-some next e)
incoming_close_moves OpenClosePipe next e = absurd (none-some next e)
incoming_close_moves OpenReceived next e = absurd (none-some next e)
incoming_close_moves OpenSent next e = to CloseReceived next (record { opened = omega arith; closed = omega arith; settled = λ _. refl }) e
incoming_close_moves ClosePipe next e = to End next (record { opened = omega arith; closed = omega arith; settled = λ _. refl }) e
incoming_close_moves Opened next e = to CloseReceived next (record { opened = omega arith; closed = omega arith; settled = λ _. refl }) e
incoming_close_moves CloseReceived next e = absurd (none-some next e)
incoming_close_moves CloseSent next e = to End next (record { opened = omega arith; closed = omega arith; settled = λ _. refl }) e
incoming_close_moves Discarding next e = to End next (record { opened = omega arith; closed = omega arith; settled = λ _. refl }) e
incoming_close_moves End next e = absurd (none-some next e)

pub send_close_moves : (with_error : Bool) (state next : ConnectionState) → after_send_close with_error state ≡ Some next → Spends 0 1 state next
send_close_moves with_error Start next e = absurd (none-some next e)
send_close_moves with_error HeaderReceived next e = absurd (none-some next e)
send_close_moves with_error HeaderSent next e = absurd (none-some next e)
send_close_moves with_error HeaderExchange next e = absurd (none-some next e)
send_close_moves with_error OpenPipe next e = absurd (none-some next e)
send_close_moves with_error OpenClosePipe next e = absurd (none-some next e)
send_close_moves with_error OpenReceived next e = absurd (none-some next e)
send_close_moves with_error OpenSent next e = to ClosePipe next (record { opened = omega arith; closed = omega arith; settled = λ h. absurd cc }) e
send_close_moves with_error ClosePipe next e = absurd (none-some next e)
send_close_moves true Opened next e = to Discarding next (record { opened = omega arith; closed = omega arith; settled = λ _. refl }) e
send_close_moves false Opened next e = to CloseSent next (record { opened = omega arith; closed = omega arith; settled = λ _. refl }) e
send_close_moves with_error CloseReceived next e = to End next (record { opened = omega arith; closed = omega arith; settled = λ _. refl }) e
send_close_moves with_error CloseSent next e = absurd (none-some next e)
send_close_moves with_error Discarding next e = absurd (none-some next e)
send_close_moves with_error End next e = absurd (none-some next e)

-- the peer's Open comes before both were exchanged
pub open_comes_first : (state next : ConnectionState) → after_incoming_open state ≡ Some next → is_settled state ≡ true → ⊥
open_comes_first Start next e h = absurd cc
open_comes_first HeaderReceived next e h = absurd cc
open_comes_first HeaderSent next e h = absurd cc
open_comes_first HeaderExchange next e h = absurd cc
open_comes_first OpenPipe next e h = absurd cc
open_comes_first OpenClosePipe next e h = absurd cc
open_comes_first OpenReceived next e h = absurd cc
open_comes_first OpenSent next e h = absurd cc
open_comes_first ClosePipe next e h = absurd cc
open_comes_first Opened next e h = none-some next e
open_comes_first CloseReceived next e h = none-some next e
open_comes_first CloseSent next e h = none-some next e
open_comes_first Discarding next e h = none-some next e
open_comes_first End next e h = none-some next e

-- a session begins behind both
pub begun_settled : (state : ConnectionState) → refusal_of_begin state ≡ None → is_settled state ≡ true
begun_settled Start e = absurd (none-some _ (sym e))
begun_settled HeaderReceived e = absurd (none-some _ (sym e))
begun_settled HeaderSent e = absurd (none-some _ (sym e))
begun_settled HeaderExchange e = absurd (none-some _ (sym e))
begun_settled OpenPipe e = absurd (none-some _ (sym e))
begun_settled OpenClosePipe e = absurd (none-some _ (sym e))
begun_settled OpenReceived e = absurd (none-some _ (sym e))
begun_settled OpenSent e = absurd (none-some _ (sym e))
begun_settled ClosePipe e = absurd (none-some _ (sym e))
begun_settled Opened e = refl
begun_settled CloseReceived e = absurd (none-some _ (sym e))
begun_settled CloseSent e = absurd (none-some _ (sym e))
begun_settled Discarding e = absurd (none-some _ (sym e))
begun_settled End e = absurd (none-some _ (sym e))
