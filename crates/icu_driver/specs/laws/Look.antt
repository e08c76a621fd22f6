-- The load of the state word: what it decides for each call, and what a call shows that goes on.
-- From Bodies.
-- Used by Lawful, asked/rt.
use Rattle.std.proofs.Common.{◌≡◌, ◌<◌, ◌≤◌, ◌||◌, ◌==◌, [], ◌∷◌, ◌∙◌, if◌then◌else◌}
use Rattle.icu_driver.specs.Terms
use Terms.{allows, answer_refused, ap, arith, Asked, Bool, Call, channel_of, channel_service, ChannelCall, cond, DeInit}
use Terms.{DisableEdgeCount, DisableEdgeDetection, DisableNotification, Done, EnableEdgeCount, EnableEdgeDetection}
use Terms.{EnableNotification, error_by, ErrorName, errors_of, facts_by, false, GetDutyCycleValues, GetEdgeNumbers, GetInputState, GetTimeElapsed, GetTimestampIndex, Goes, IcuTable, IcuNotStarted, IcuState, Init, is_detection, is_some, last_at, length, List, Looked, nat_lt, nat_tests, None, none_holds, not, not-false, Option, option_or, owed_error, refl, Refused, reporting, ResetEdgeCount, service_of, SetActivationCondition, slice_index_or, Some, StartSignalMeasurement, StartTimestamp, state_word, StopSignalMeasurement, StopTimestamp, true, ℕ}
use Rattle.icu_driver.specs.laws.{Base.{no_answer, Nothing}, Bodies.{IcuBody, init_body, deinit_body, change_body}}
use Rattle.icu_driver.specs.laws.{Bodies.{count_body, gate_body, stamp_body, measure_body, duty_body}}
use Rattle.mcal_base.specs.declared.service.Service.TheVariants as services
use Rattle.module_machines.specs.declared.icu.call.Call.TheVariants as calls
use Rattle.module_machines.specs.declared.icu.table.Channel as configured
use Rattle.icu_driver.specs.declared.service.change.ChangeBody.TheVariants as changes
use Rattle.icu_driver.specs.declared.service.count.CountBody.TheVariants as counts
use Rattle.icu_driver.specs.declared.service.deinit.DeInitBody.TheVariants as deinits
use Rattle.icu_driver.specs.declared.service.duty.DutyBody.TheVariants as duties
use Rattle.icu_driver.specs.declared.service.gate.GateBody.TheVariants as gates
use Rattle.icu_driver.specs.declared.service.init.InitBody.TheVariants as inits
use Rattle.icu_driver.specs.declared.service.measure.MeasureBody.TheVariants as measures
use Rattle.icu_driver.specs.declared.service.stamp.StampBody.TheVariants as stamps

-- ---- what it decides

-- whether a call's own arguments are wrong, in their order
abbrev pub wrong : ChannelCall → Bool × Bool
wrong (SetActivationCondition edge) = (not (is_some edge), false)
wrong (StartTimestamp size interval) = (size == 0 || nat_lt 64 size, interval == 0)
wrong _ = (false, false)

-- stamping is taken to be under way
abbrev pub facts_of : Asked → ℕ → List Bool
facts_of q word = facts_by q.driver q.call (word == 0) true

abbrev pub refusal_of : Asked → ErrorName → Done
refusal_of q e = record { answer = answer_refused q.call; owed = owed_error (reporting q.driver) (service_of q.call) e }

abbrev pub let_be : Looked IcuBody
let_be = Refused (record { answer = no_answer; owed = Nothing })

-- the body of a call about a configured channel
abbrev pub goes_with : IcuTable → (number : ℕ) → ChannelCall → IcuBody
goes_with d c (SetActivationCondition edge) = change_body (changes.Ask c)
goes_with d c EnableNotification = change_body (changes.Notify c true)
goes_with d c DisableNotification = change_body (changes.Notify c false)
goes_with d c GetInputState = change_body (changes.Ask c)
goes_with d c EnableEdgeDetection = gate_body (gates.Open c)
goes_with d c DisableEdgeDetection = gate_body (gates.Close c)
goes_with d c ResetEdgeCount = count_body (counts.Zero c)
goes_with d c EnableEdgeCount = count_body (counts.Open c)
goes_with d c DisableEdgeCount = count_body (counts.Close c)
goes_with d c GetEdgeNumbers = count_body (counts.Low c)
goes_with d c (StartTimestamp size interval) = stamp_body (stamps.Open (record { channel = c; size = size; interval = interval }))
goes_with d c StopTimestamp = stamp_body (stamps.Look c (owed_error (reporting d) services.IcuStopTimestamp IcuNotStarted))
goes_with d c GetTimestampIndex = stamp_body (stamps.Started c)
goes_with d c StartSignalMeasurement = measure_body (measures.Open c)
goes_with d c StopSignalMeasurement = gate_body (gates.Close c)
goes_with d c GetTimeElapsed = measure_body (measures.Waits c)
goes_with d c GetDutyCycleValues = duty_body (duties.Waits c)

abbrev pub begun_with : IcuTable → configured.Channel → ChannelCall → Looked IcuBody
begun_with d k (SetActivationCondition None) = let_be
begun_with d k (SetActivationCondition (Some edge)) = Goes (change_body (changes.Choose k.number edge (is_detection k.mode)))
begun_with d k call = Goes (goes_with d k.number call)

abbrev pub begun_on : IcuTable → ChannelCall → Option configured.Channel → Looked IcuBody
begun_on d call None = let_be
begun_on d call (Some k) = begun_with d k call

-- what a call without an error so far goes on with
abbrev pub begins : IcuTable → Call → Looked IcuBody
begins d Init = Goes (init_body (inits.Condition d 0))
begins d DeInit = Goes (deinit_body (deinits.Store d))
begins d (calls.Channel c call) = begun_on d call (channel_of d c)

abbrev pub begun_of : Asked → Looked IcuBody
begun_of q = begins q.driver q.call

abbrev pub looked_by : Asked → Option ErrorName → Looked IcuBody
looked_by q None = begun_of q
looked_by q (Some e) = Refused (refusal_of q e)

abbrev pub icu_looked : Asked → ℕ → Looked IcuBody
icu_looked q word = looked_by q (error_by q.driver q.call (word == 0) true)

-- ---- what a call shows that goes on

-- it shows no error before it looks at a channel
abbrev pub Passed : IcuTable → IcuState → Call → Type 0
Passed d s call = error_by d call (not s.initialised) true ≡ None

-- a condition of its row doesn't hold
no_error : (d : IcuTable) (s : IcuState) (call : Call) → Passed d s call → (k : ℕ) → k < length (errors_of (service_of call)) → slice_index_or (facts_by d call (not s.initialised) true) k false ≡ false
no_error d s call pass k lt = none_holds (errors_of (service_of call)) (facts_by d call (not s.initialised) true) pass k lt

no : (b : Bool) → not (not b) ≡ false → b ≡ false
no true e = absurd (cc)
no false e = refl

pub off_of : (d : IcuTable) (s : IcuState) → Passed d s Init → s.initialised ≡ false
off_of d s pass = no s.initialised (no_error d s Init pass 0 (omega arith))

-- the first two conditions of a call about a channel
two_there : (call : ChannelCall) → 1 < length (errors_of (channel_service call))
two_there (SetActivationCondition edge) = omega arith
two_there (StartTimestamp size interval) = omega arith
two_there StopTimestamp = omega arith
two_there EnableNotification = omega arith
two_there DisableNotification = omega arith
two_there GetInputState = omega arith
two_there EnableEdgeDetection = omega arith
two_there DisableEdgeDetection = omega arith
two_there ResetEdgeCount = omega arith
two_there EnableEdgeCount = omega arith
two_there DisableEdgeCount = omega arith
two_there GetEdgeNumbers = omega arith
two_there GetTimestampIndex = omega arith
two_there StartSignalMeasurement = omega arith
two_there StopSignalMeasurement = omega arith
two_there GetTimeElapsed = omega arith
two_there GetDutyCycleValues = omega arith

pub on_of : (d : IcuTable) (s : IcuState) (c : ℕ) (call : ChannelCall) → Passed d s (calls.Channel c call) → s.initialised ≡ true
on_of d s c call pass = let two = two_there call in not-false s.initialised (no_error d s (calls.Channel c call) pass 0 (omega (arith, two)))

pub deinit_on : (d : IcuTable) (s : IcuState) → Passed d s DeInit → s.initialised ≡ true
deinit_on d s pass = not-false s.initialised (no_error d s DeInit pass 0 (omega arith))

pub allowed : (d : IcuTable) (s : IcuState) (c : ℕ) (call : ChannelCall) → Passed d s (calls.Channel c call) → allows call (channel_of d c) ≡ true
allowed d s c call pass = not-false (allows call (channel_of d c)) (no_error d s (calls.Channel c call) pass 1 (two_there call))

-- the arguments of a start are right
pub sizes_of : (d : IcuTable) (s : IcuState) (c size interval : ℕ) → Passed d s (calls.Channel c (StartTimestamp size interval)) → (0 < size) × (size ≤ 64) × (0 < interval)
sizes_of d s c size interval pass = (positive size (no_error d s (calls.Channel c (StartTimestamp size interval)) pass 2 (omega arith)), few size (no_error d s (calls.Channel c (StartTimestamp size interval)) pass 2 (omega arith)), some interval (no_error d s (calls.Channel c (StartTimestamp size interval)) pass 3 (omega arith)))
  where
    positive : (n : ℕ) → n == 0 || nat_lt 64 n ≡ false → 0 < n
    positive n e = grind (arith, nat_tests)

    few : (n : ℕ) → n == 0 || nat_lt 64 n ≡ false → n ≤ 64
    few n e = grind (arith, nat_tests)

    some : (n : ℕ) → (n == 0) ≡ false → 0 < n
    some n e = grind (arith, nat_tests)

-- some edges are chosen
pub edges_of : (d : IcuTable) (s : IcuState) (c : ℕ) → Passed d s (calls.Channel c (SetActivationCondition None)) → ⊥
edges_of d s c pass = let e = no_error d s (calls.Channel c (SetActivationCondition None)) pass 2 (omega arith) in cc

-- ---- whether stamping is under way counts for a stop alone, where nothing stands before it

abbrev pub is_stop : ChannelCall → Bool
is_stop StopTimestamp = true
is_stop _ = false

pub unhindered : (d : IcuTable) (c : ℕ) (call : ChannelCall) (u a b : Bool) → is_stop call ≡ false → error_by d (calls.Channel c call) u a ≡ error_by d (calls.Channel c call) u b
unhindered d c StopTimestamp u a b e = absurd (cc)
unhindered d c _ u a b e = refl

cond_is : (b : Bool) → ◌≡◌ {A = Option ErrorName} (cond (not b) (Some IcuNotStarted) None) (if b then None else Some IcuNotStarted)
cond_is true = refl
cond_is false = refl

stop_by : (d : IcuTable) (c : ℕ) (u b : Bool) (o : Option ErrorName) → error_by d (calls.Channel c StopTimestamp) u true ≡ o → error_by d (calls.Channel c StopTimestamp) u b ≡ option_or o (cond (not b) (Some IcuNotStarted) None)
stop_by d c u b o h = last_at (errors_of services.IcuStopTimestamp) (u ∷ not (allows StopTimestamp (channel_of d c)) ∷ false ∷ false ∷ false ∷ false ∷ []) 2 (not b) refl (omega arith) ∙ ap (λ x. option_or x (cond (not b) (Some IcuNotStarted) None)) h

pub stop_unhindered : (d : IcuTable) (c : ℕ) (u : Bool) → error_by d (calls.Channel c StopTimestamp) u true ≡ None → (b : Bool) → error_by d (calls.Channel c StopTimestamp) u b ≡ (if b then None else Some IcuNotStarted)
stop_unhindered d c u h b = stop_by d c u b None h ∙ cond_is b

-- an error that the look names stands whatever is under way
pub early : (d : IcuTable) (call : Call) (u b : Bool) (e : ErrorName) → error_by d call u true ≡ Some e → error_by d call u b ≡ Some e
early d Init u b e h = h
early d DeInit u b e h = h
early d (calls.Channel c StopTimestamp) u b e h = stop_by d c u b (Some e) h
early d (calls.Channel c call) u b e h = unhindered d c call u b true refl ∙ h

pub asked_word : (d : IcuTable) (call : Call) (on : Bool) → icu_looked (record { call = call; driver = d }) (state_word on) ≡ looked_by (record { call = call; driver = d }) (error_by d call (not on) true)
asked_word d call true = refl
asked_word d call false = refl
