-- The load of the state word: what it decides for each call, and what a call shows that has no error.
-- From Bodies.
-- Used by Lawful, asked/rt, Rest, Output, DeInit and 1 more.
use Rattle.std.proofs.Common.{◌≡◌, ◌<◌, ◌==◌}
use Rattle.pwm_driver.specs.Terms
use Terms.{answer_refused, arith, Ask, Asked, Bool, Call, Channel, channel_of, ChannelCall, DisableNotification, Done}
use Terms.{EnableNotification, error_by, ErrorName, errors_of, facts_by, false, Goes, has_notification, is_some, length, List, Looked, no_answer, None, none_holds, not, not-false, Nothing, Option, owed_error, PwmTable, PwmState, refl, Refused, reporting, Rest, service_of, SetDutyCycle, SetOutputToIdle, SetPeriodAndDuty, slice_index_or, Some, state_word, true, ℕ}
use Rattle.pwm_driver.specs.laws.Bodies.{PwmBody, init_body, deinit_body, output_body, rest_body, notify_body}
use Rattle.module_machines.specs.declared.pwm.call.Call.TheVariants as calls
use Rattle.pwm_driver.specs.declared.service.deinit.DeInitBody.TheVariants as deinits
use Rattle.pwm_driver.specs.declared.service.notify.NotifyBody.TheVariants as notices
use Rattle.pwm_driver.specs.declared.service.output.OutputBody.TheVariants as outputs

-- ---- what it decides

abbrev pub facts_of : Asked → ℕ → List Bool
facts_of q word = facts_by q.driver q.call (word == 0)

abbrev pub refusal_of : Asked → ErrorName → Done
refusal_of q e = record { answer = answer_refused q.call; owed = owed_error (reporting q.driver) (service_of q.call) e }

abbrev pub let_be : Looked PwmBody
let_be = Refused (record { answer = no_answer; owed = Nothing })

-- the body of a call about a configured channel
abbrev pub begun_with : Channel → ChannelCall → PwmBody
begun_with k (SetDutyCycle duty) = output_body (outputs.Load (record { channel = k.number; period = 0; duty = duty; high = k.polarity_high; keeps = false }))
begun_with k (SetPeriodAndDuty period duty) = output_body (outputs.Period (record { channel = k.number; period = period; duty = duty; high = k.polarity_high; keeps = true }))
begun_with k SetOutputToIdle = rest_body (Rest k.number k.idle_high)
begun_with k (EnableNotification edge) = notify_body (notices.Load k.number edge)
begun_with k DisableNotification = notify_body (notices.Find k.number)

abbrev pub begun_on : ChannelCall → Option Channel → Looked PwmBody
begun_on call None = let_be
begun_on call (Some k) = Goes (begun_with k call)

abbrev pub begun_asking : Option Channel → Looked PwmBody
begun_asking None = let_be
begun_asking (Some k) = Goes (rest_body (Ask k.number))

-- what a call without an error goes on with
abbrev pub begins : PwmTable → Call → Looked PwmBody
begins d calls.Init = Goes (init_body (record { driver = d }))
begins d calls.DeInit = Goes (deinit_body (deinits.Store d))
begins d (calls.GetOutputState c) = begun_asking (channel_of d c)
begins d (calls.Channel c call) = begun_on call (channel_of d c)

abbrev pub begun_of : Asked → Looked PwmBody
begun_of q = begins q.driver q.call

abbrev pub looked_by : Asked → Option ErrorName → Looked PwmBody
looked_by q None = begun_of q
looked_by q (Some e) = Refused (refusal_of q e)

abbrev pub pwm_looked : Asked → ℕ → Looked PwmBody
pwm_looked q word = looked_by q (error_by q.driver q.call (word == 0))

-- ---- what a call shows that has no error

abbrev pub Passed : PwmTable → PwmState → Call → Type 0
Passed d s call = error_by d call (not s.initialised) ≡ None

-- a call about a configured channel that has none
pub record MayAct (d : PwmTable) (s : PwmState) (c : ℕ) (call : Call) (k : Channel) : Type 0 where
  pub pass : Passed d s call
  pub on : s.initialised ≡ true
  pub lt : c < 8
  pub known : channel_of d c ≡ Some k

no_error : (d : PwmTable) (s : PwmState) (call : Call) → Passed d s call → (k : ℕ) → k < length (errors_of (service_of call)) → slice_index_or (facts_by d call (not s.initialised)) k false ≡ false
no_error d s call pass k lt = none_holds (errors_of (service_of call)) (facts_by d call (not s.initialised)) pass k lt

no : (b : Bool) → not (not b) ≡ false → b ≡ false
no true e = absurd (cc)
no false e = refl

pub off_of : (d : PwmTable) (s : PwmState) → Passed d s calls.Init → s.initialised ≡ false
off_of d s pass = no s.initialised (no_error d s calls.Init pass 0 (omega arith))

pub on_of : (d : PwmTable) (s : PwmState) (call : Call) → (call ≡ calls.Init → ⊥) → Passed d s call → s.initialised ≡ true
on_of d s calls.Init n pass = absurd (n refl)
on_of d s (calls.Channel c (SetDutyCycle duty)) n pass = not-false s.initialised (no_error d s (calls.Channel c (SetDutyCycle duty)) pass 0 (omega arith))
on_of d s (calls.Channel c (SetPeriodAndDuty period duty)) n pass = not-false s.initialised (no_error d s (calls.Channel c (SetPeriodAndDuty period duty)) pass 0 (omega arith))
on_of d s (calls.Channel c SetOutputToIdle) n pass = not-false s.initialised (no_error d s (calls.Channel c SetOutputToIdle) pass 0 (omega arith))
on_of d s (calls.Channel c (EnableNotification edge)) n pass = not-false s.initialised (no_error d s (calls.Channel c (EnableNotification edge)) pass 0 (omega arith))
on_of d s (calls.Channel c DisableNotification) n pass = not-false s.initialised (no_error d s (calls.Channel c DisableNotification) pass 0 (omega arith))
on_of d s call n pass = not-false s.initialised (no_error d s call pass 0 (omega arith))

pub asked_there : (d : PwmTable) (s : PwmState) (c : ℕ) → Passed d s (calls.GetOutputState c) → is_some (channel_of d c) ≡ true
asked_there d s c pass = not-false (is_some (channel_of d c)) (no_error d s (calls.GetOutputState c) pass 1 (omega arith))

some_noticed : (k : Option Channel) → has_notification k ≡ true → is_some k ≡ true
some_noticed None e = absurd (cc)
some_noticed (Some k) e = refl

pub channel_there : (d : PwmTable) (s : PwmState) (c : ℕ) (call : ChannelCall) → Passed d s (calls.Channel c call) → is_some (channel_of d c) ≡ true
channel_there d s c (SetDutyCycle duty) pass = not-false (is_some (channel_of d c)) (no_error d s (calls.Channel c (SetDutyCycle duty)) pass 1 (omega arith))
channel_there d s c (SetPeriodAndDuty period duty) pass = not-false (is_some (channel_of d c)) (no_error d s (calls.Channel c (SetPeriodAndDuty period duty)) pass 1 (omega arith))
channel_there d s c SetOutputToIdle pass = not-false (is_some (channel_of d c)) (no_error d s (calls.Channel c SetOutputToIdle) pass 1 (omega arith))
channel_there d s c (EnableNotification edge) pass = some_noticed (channel_of d c) (not-false (has_notification (channel_of d c)) (no_error d s (calls.Channel c (EnableNotification edge)) pass 1 (omega arith)))
channel_there d s c DisableNotification pass = some_noticed (channel_of d c) (not-false (has_notification (channel_of d c)) (no_error d s (calls.Channel c DisableNotification) pass 1 (omega arith)))

pub asked_word : (d : PwmTable) (call : Call) (on : Bool) → pwm_looked (record { call = call; driver = d }) (state_word on) ≡ looked_by (record { call = call; driver = d }) (error_by d call (not on))
asked_word d call true = refl
asked_word d call false = refl
