-- A script of one endpoint or of two: what its bytes say. It is made of lines, and a line of words.
use Rattle.std.specs.Prelude.{ℕ, ◌+◌, ◌-◌, ◌^◌, ◌==◌, ◌&&◌, Bool, true, false, not, List, [], ◌∷◌, length, Option, Some}
use Rattle.std.specs.Prelude.{None, if◌then◌else◌, codes}
use Rattle.std.specs.List.{slice_split, list_any}
use Rattle.std.specs.Option.{option_map}
use Rattle.std.specs.Result.{result_ok}
use Rattle.std.specs.Str.{bytes_eq, is_utf8}
use Rattle.hex.specs.Hex.{decode_of}
use Rattle.amqp_endpoint_model.specs.declared.settings.Settings.{Settings}
use Rattle.amqp_endpoint_model.specs.declared.call.Call.{Call}
use Rattle.amqp_endpoint_model.specs.declared.call.Call.TheVariants.{Connect, Feed, Pull, Heartbeat, BreakOff, Close}
use Rattle.amqp_endpoint_model.specs.declared.call.Call.TheVariants.{Begin, AcceptBegin, End as EndCall, AttachSender}
use Rattle.amqp_endpoint_model.specs.declared.call.Call.TheVariants.{AttachReceiver, Detach, CloseLink, Grant, Drain}
use Rattle.amqp_endpoint_model.specs.declared.call.Call.TheVariants.{Waiting, Send, Dispose, Resume}
use Rattle.amqp_endpoint_model.specs.declared.link.LinkSettings.{LinkSettings}
use Rattle.amqp_session_states.specs.declared.delivery_state.DeliveryState.{DeliveryState}
use Rattle.amqp_endpoint_core.specs.declared.step.End.{End}
use Rattle.amqp_endpoint_core.specs.declared.step.End.TheVariants.{A, B}
use Rattle.amqp_endpoint_core.specs.declared.step.Step.{Step}
use Rattle.amqp_endpoint_core.specs.declared.step.Step.TheVariants as world
use Rattle.amqp_endpoint_core.specs.WorldState.{other}
use Rattle.amqp_endpoint_core.specs.WorldStep.{is_the_worlds}
use Rattle.amqp_endpoint_scripts.specs.Digits.{number_under}
use Rattle.amqp_endpoint_scripts.specs.MessageWords.{settled_of, settling_of, state_of}
use Rattle.amqp_endpoint_scripts.specs.Terms.{receiver_settings, sender_settings}
use Rattle.amqp_endpoint_scripts.specs.declared.statement.Statement.{Statement}
use Rattle.amqp_endpoint_scripts.specs.declared.statement.Statement.TheVariants.{One, Two, Settings as SettingsAre}
use Rattle.amqp_endpoint_scripts.specs.declared.statement.Statement.TheVariants.{Call as CallAt, Move, Break}

-- the parts of a text, between the bytes of this kind
abbrev pub parts_at : ℕ → List ℕ → List (List ℕ)
parts_at c text = slice_split (λ b. b == c) text

-- bytes in hex digits of either case, two for each; `-` is none at all
abbrev pub bytes_of : List ℕ → Option (List ℕ)
bytes_of word = if bytes_eq word (codes "-") then Some [] else result_ok (decode_of word)

-- the end that a word names
abbrev pub end_of : List ℕ → Option End
end_of word = if bytes_eq word (codes "a") then Some A else if bytes_eq word (codes "b") then Some B else None

-- the calls that one word names
abbrev pub call_of : List ℕ → Option Call
call_of verb =
    if bytes_eq verb (codes "connect") then Some Connect else
    if bytes_eq verb (codes "close") then Some Close else
    if bytes_eq verb (codes "heartbeat") then Some Heartbeat else
    if bytes_eq verb (codes "begin") then Some Begin else
    if bytes_eq verb (codes "pull") then Some Pull else
    if bytes_eq verb (codes "break") then Some BreakOff else
    None

-- the calls that a word names, with what stands behind it: bytes, a channel of the peer's, a session, or a link
abbrev pub call_with : List ℕ → List ℕ → Option Call
call_with verb word =
    if bytes_eq verb (codes "feed") then option_map Feed (bytes_of word) else
    if bytes_eq verb (codes "accept") then
    option_map (λ n. AcceptBegin (record { 0 = n })) (number_under (2 ^ 16) word) else
    if bytes_eq verb (codes "end") then option_map EndCall (number_under (2 ^ 64) word) else
    if bytes_eq verb (codes "detach") then option_map Detach (number_under (2 ^ 64) word) else
    if bytes_eq verb (codes "closelink") then option_map CloseLink (number_under (2 ^ 64) word) else
    if bytes_eq verb (codes "drain") then option_map Drain (number_under (2 ^ 64) word) else
    if bytes_eq verb (codes "waiting") then option_map Waiting (number_under (2 ^ 64) word) else
    None

abbrev pub grant_at : Option ℕ → Option ℕ → Option Call
grant_at (Some link) (Some credit) = Some (Grant link credit)
grant_at link credit = None

-- a grant to a link: the link, and how many messages
abbrev pub grant_of : List ℕ → List ℕ → List ℕ → Option Call
grant_of verb link credit =
    if bytes_eq verb (codes "grant") then grant_at (number_under (2 ^ 64) link) (number_under (2 ^ 32) credit) else None

abbrev pub resume_at : Option ℕ → Option ℕ → Option Call
resume_at (Some link) (Some session) = Some (Resume link session)
resume_at link session = None

-- a link that attaches again: the link, and the session
abbrev pub resume_of : List ℕ → List ℕ → List ℕ → Option Call
resume_of verb link session =
    if bytes_eq verb (codes "resume") then resume_at (number_under (2 ^ 64) link) (number_under (2 ^ 64) session) else
    None

-- the calls that a word names with two behind it: a grant to a link, or a link that attaches again
abbrev pub call_with_two : List ℕ → List ℕ → List ℕ → Option Call
call_with_two verb link second =
    if bytes_eq verb (codes "grant") then grant_of verb link second else resume_of verb link second

abbrev pub attached_by : (ℕ → LinkSettings → Call) → Option ℕ → Option LinkSettings → Option Call
attached_by call (Some session) (Some settings) = Some (call session settings)
attached_by call session settings = None

-- a link that attaches as a receiver, in a session
abbrev pub receiver_at : List ℕ → Option ℕ → Option LinkSettings → Option Call
receiver_at verb session settings =
    if bytes_eq verb (codes "receiver") then attached_by AttachReceiver session settings else None

abbrev pub sent_by : Option ℕ → Option Bool → Option (List ℕ) → Option Call
sent_by (Some link) (Some settled) (Some payload) =
    Some (Send link (record { payload = payload; message_format = 0; settled = Some settled }))
sent_by link settled payload = None

-- a message that a link sends, of the standard's format: whether it goes settled, and its bytes (part 2, 2.7.5, 2.8.11)
abbrev pub send_of : List ℕ → List ℕ → List ℕ → Option Call
send_of link settled payload = sent_by (number_under (2 ^ 64) link) (settled_of settled) (bytes_of payload)

-- the calls that a word names with three behind it: a link sends a message, or attaches as a receiver in a session
abbrev pub call_with_three : List ℕ → List ℕ → List ℕ → List ℕ → Option Call
call_with_three verb number second third =
    if bytes_eq verb (codes "send") then send_of number second third else
    receiver_at verb (number_under (2 ^ 64) number) (receiver_settings second third)

abbrev pub disposed_by : Option ℕ → Option ℕ → Option DeliveryState → Option (Option Bool) → Option Call
disposed_by (Some link) (Some message) (Some state) (Some settled) =
    Some (Dispose link message (record { state = state; settled = settled }))
disposed_by link message state settled = None

-- a message that is disposed of: the link by which it came, its number, its outcome, and whether it is settled (part 2,
-- 2.7.6)
abbrev pub disposal_of : List ℕ → List ℕ → List ℕ → List ℕ → List ℕ → Option Call
disposal_of verb link message state settled =
    if bytes_eq verb (codes "dispose") then
    disposed_by (number_under (2 ^ 64) link) (number_under (2 ^ 64) message) (state_of state) (settling_of settled)
    else None

-- a link that attaches as a sender, in a session
abbrev pub sender_at : List ℕ → Option ℕ → Option LinkSettings → Option Call
sender_at verb session settings =
    if bytes_eq verb (codes "sender") then attached_by AttachSender session settings else None

-- how many bytes are moved: so many, or all that there are
abbrev pub count_of : List ℕ → Option ℕ
count_of word = if bytes_eq word (codes "all") then Some (2 ^ 64 - 1) else number_under (2 ^ 64) word

-- settings, where each number is one
abbrev pub settings_from : List ℕ → Option ℕ → Option ℕ → Option ℕ → Option ℕ → Option Settings
settings_from container (Some limit) (Some channels) (Some window) (Some first) = Some (record { container_id = container; max_frame_size = limit; channel_max = channels; incoming_window = window; idle_time_out = None; first_transfer_number = first })
settings_from container limit channels window first = None

abbrev pub settings_of : List ℕ → List ℕ → List ℕ → List ℕ → List ℕ → Option Settings
settings_of container limit channels window first = settings_from container (number_under (2 ^ 32) limit) (number_under (2 ^ 16) channels) (number_under (2 ^ 32) window) (number_under (2 ^ 32) first)

-- a line of one word: the first line of a script, or a break of both ends
abbrev pub word_said : List ℕ → Option Statement
word_said word =
    if bytes_eq word (codes "one") then Some One else
    if bytes_eq word (codes "two") then Some Two else
    if bytes_eq word (codes "break") then Some Break else
    None

-- a call of an end
abbrev pub call_at : Option End → Option Call → Option Statement
call_at (Some end) (Some call) = Some (CallAt end call)
call_at end call = None

abbrev pub move_from : Option End → Option ℕ → Option Statement
move_from (Some end) (Some count) = Some (Move end count)
move_from end count = None

-- bytes are moved from an end, or an end is called
abbrev pub three_said : List ℕ → List ℕ → List ℕ → Option Statement
three_said first second third =
    if bytes_eq first (codes "move") then move_from (end_of second) (count_of third) else
    call_at (end_of first) (call_with second third)

abbrev pub settings_at : Option End → Option Settings → Option Statement
settings_at (Some end) (Some settings) = Some (SettingsAre end settings)
settings_at end settings = None

-- what seven words say: the settings of an end, or a call of it by which a link attaches as a sender
abbrev pub seven_said : List ℕ → List ℕ → List ℕ → List ℕ → List ℕ → List ℕ → List ℕ → Option Statement
seven_said first second third fourth fifth sixth seventh =
    if bytes_eq first (codes "settings") then
    settings_at (end_of second) (settings_of third fourth fifth sixth seventh) else
    call_at (end_of first)
    (sender_at second (number_under (2 ^ 64) third) (sender_settings fourth fifth sixth seventh))

-- what words say
abbrev pub words_said : List (List ℕ) → Option Statement
words_said (word ∷ []) = word_said word
words_said (end ∷ verb ∷ []) = call_at (end_of end) (call_of verb)
words_said (first ∷ second ∷ third ∷ []) = three_said first second third
words_said (end ∷ verb ∷ link ∷ second ∷ []) = call_at (end_of end) (call_with_two verb link second)
words_said (end ∷ verb ∷ number ∷ second ∷ third ∷ []) =
    call_at (end_of end) (call_with_three verb number second third)
words_said (end ∷ verb ∷ link ∷ message ∷ state ∷ settled ∷ []) =
    call_at (end_of end) (disposal_of verb link message state settled)
words_said (first ∷ second ∷ third ∷ fourth ∷ fifth ∷ sixth ∷ seventh ∷ []) =
    seven_said first second third fourth fifth sixth seventh
words_said words = None

-- what a line says: text in UTF-8, of words that are parted by one space each, none of them empty
abbrev pub statement : List ℕ → Option Statement
statement line = if is_utf8 line && not (list_any (λ word. length word == 0) (parts_at 32 line)) then words_said (parts_at 32 line) else None

-- a line that is to be read, with its number
pub record Line : Type 0 where
  pub number : ℕ
  pub text : List ℕ

-- empty lines and comments aren't read
abbrev pub is_skipped : List ℕ → Bool
is_skipped [] = true
is_skipped (c ∷ cs) = c == 35

-- the lines that are to be read, of lines that are numbered from n
abbrev pub lines_from : ℕ → List (List ℕ) → List Line
lines_from n [] = []
lines_from n (text ∷ texts) = if is_skipped text then lines_from (n + 1) texts else record { number = n; text = text } ∷ lines_from (n + 1) texts

-- the lines of a script that are to be read; the first line has the number 1
abbrev pub script_lines : List ℕ → List Line
script_lines text = lines_from 1 (parts_at 10 text)

-- settings, and the line that they are refused by: their own, or the script's first one where they have none
pub record Given : Type 0 where
  pub line : ℕ
  pub settings : Settings

-- a script of one end
pub record OneScript : Type 0 where
  pub given : Given
  -- the steps, and the line of each
  pub lines : List ℕ
  pub calls : List Call

-- a script of two ends
pub record TwoScript : Type 0 where
  pub given_a : Given
  pub given_b : Given
  pub lines : List ℕ
  pub steps : List Step

pub data Reading : Type 0 where
  -- there is no line to be read
  nothing : Reading
  -- the first line that can't be read
  unreadable : ℕ → Reading
  of_one : OneScript → Reading
  of_two : TwoScript → Reading

-- the container of an end without a settings line
abbrev pub letter : End → List ℕ
letter A = codes "a"
letter B = codes "b"

-- the settings of an end without a settings line
abbrev pub default_settings : End → Settings
default_settings end =
    record {
      container_id = letter end;
      max_frame_size = 262144;
      channel_max = 255;
      incoming_window = 2048;
      idle_time_out = None;
      first_transfer_number = 0;
    }

abbrev pub given_none : ℕ → End → Given
given_none first end = record { line = first; settings = default_settings end }

abbrev pub given_on : Line → Settings → Given
given_on line settings = record { line = line.number; settings = settings }

-- a step of one end: a call of it
abbrev pub one_step : Option Statement → Option Call
one_step (Some (CallAt A call)) = Some call
one_step said = None

-- a step of two ends. There bytes and breaks are the world's
abbrev pub two_call : Bool → End → Call → Option Step
two_call true end call = None
two_call false end call = Some (world.Call end call)

abbrev pub two_step : Option Statement → Option Step
two_step (Some (CallAt end call)) = two_call (is_the_worlds call) end call
two_step (Some (Move end count)) = Some (world.Move end count)
two_step (Some Break) = Some world.Break
two_step said = None

-- a step before others
abbrev pub one_before : ℕ → Option Call → Reading → Reading
one_before n (Some call) (of_one s) = of_one (record s { lines = n ∷ s.lines; calls = call ∷ s.calls })
one_before n (Some call) others = others
one_before n None others = unreadable n

abbrev pub two_before : ℕ → Option Step → Reading → Reading
two_before n (Some step) (of_two s) = of_two (record s { lines = n ∷ s.lines; steps = step ∷ s.steps })
two_before n (Some step) others = others
two_before n None others = unreadable n

-- each line is a step
abbrev pub one_steps : Given → List Line → Reading
one_steps given [] = of_one (record { given = given; lines = []; calls = [] })
one_steps given (line ∷ lines) = one_before line.number (one_step (statement line.text)) (one_steps given lines)

abbrev pub two_steps : Given → Given → List Line → Reading
two_steps given_a given_b [] =
    of_two (record { given_a = given_a; given_b = given_b; lines = []; steps = [] })
two_steps given_a given_b (line ∷ lines) =
    two_before line.number (two_step (statement line.text)) (two_steps given_a given_b lines)

-- behind the line `one`, which is the first: at most one settings line, and steps
abbrev pub one_given : ℕ → Option Statement → Line → List Line → Reading
one_given first (Some (SettingsAre A settings)) line lines = one_steps (given_on line settings) lines
one_given first said line lines = one_steps (given_none first A) (line ∷ lines)

abbrev pub behind_one : ℕ → List Line → Reading
behind_one first [] = one_steps (given_none first A) []
behind_one first (line ∷ lines) = one_given first (statement line.text) line lines

-- with the settings of an end, and of the other one
abbrev pub steps_with : End → Given → Given → List Line → Reading
steps_with A given given_other lines = two_steps given given_other lines
steps_with B given given_other lines = two_steps given_other given lines

-- behind the settings line of an end: at most one of the other end, and steps
abbrev pub other_given : ℕ → End → Given → Option Statement → Line → List Line → Reading
other_given first A given (Some (SettingsAre B settings)) line lines = two_steps given (given_on line settings) lines
other_given first B given (Some (SettingsAre A settings)) line lines = two_steps (given_on line settings) given lines
other_given first end given said line lines =
    steps_with end given (given_none first (other end)) (line ∷ lines)

abbrev pub behind_given : ℕ → End → Given → List Line → Reading
behind_given first end given [] = steps_with end given (given_none first (other end)) []
behind_given first end given (line ∷ lines) = other_given first end given (statement line.text) line lines

-- behind the line `two`, which is the first: at most one settings line of each end, and steps
abbrev pub two_given : ℕ → Option Statement → Line → List Line → Reading
two_given first (Some (SettingsAre end settings)) line lines = behind_given first end (given_on line settings) lines
two_given first said line lines = two_steps (given_none first A) (given_none first B) (line ∷ lines)

abbrev pub behind_two : ℕ → List Line → Reading
behind_two first [] = two_steps (given_none first A) (given_none first B) []
behind_two first (line ∷ lines) = two_given first (statement line.text) line lines

-- the first line says which
abbrev pub form_then : ℕ → Option Statement → List Line → Reading
form_then n (Some One) lines = behind_one n lines
form_then n (Some Two) lines = behind_two n lines
form_then n said lines = unreadable n

abbrev pub reading_of : List Line → Reading
reading_of [] = nothing
reading_of (line ∷ lines) = form_then line.number (statement line.text) lines

-- what a script says
abbrev pub reading : List ℕ → Reading
reading text = reading_of (script_lines text)
