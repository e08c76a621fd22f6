-- The load of the state word: what it decides for each call, and what that shows.
-- From Bodies.
-- Used by Lawful, Clock, asked/rt, Query, State and 3 more.
use Rattle.std.proofs.Common.{◌≡◌, ◌<◌, ◌==◌, [], ◌∷◌, if◌then◌else◌}
use Rattle.mcu_driver.specs.Terms
use Terms.{answer_refused, arith, Asked, Bool, Call, Clock, DistributePllClock, Done, Epilogue, error_by, ErrorName}
use Terms.{errors_of, facts_by, false, first_error, GetPllStatus, GetResetReason, Goes, Init, InitClock, Initialise, InitRamSection, is_some, Keep, length, List, Look, Looked, McuTable, McuPllNotLocked, McuState, multiplier_of, nat_lt, no_answer, None, none_holds, not, not-false, Nothing, Option, owed_error, PerformReset, Reason, refl, Refused, reporting, Reset, Section, section_of, service_of, SetMode, slice_index_or, Some, Start, state_word, Status, true, ℕ}
use Rattle.mcu_driver.specs.laws.Bodies.{McuBody, state_body, query_body, clock_body, reset_body, fill_body}
use Rattle.mcal_base.specs.declared.service.Service.TheVariants as services
use Rattle.mcu_driver.specs.declared.service.fill.Fill as fills

-- ---- what it decides

abbrev pub facts_of : Asked → ℕ → List Bool
facts_of q word = facts_by q.driver q.call (word == 0) false

abbrev pub refusal_of : Asked → ErrorName → Done
refusal_of q e = record { answer = answer_refused q.call; owed = owed_error (reporting q.driver) (service_of q.call) e }

abbrev pub let_be : Looked McuBody
let_be = Refused (record { answer = no_answer; owed = Nothing })

-- a number of at most 16 bits
abbrev pub narrow : ℕ → ℕ
narrow n = if nat_lt n 65536 then n else 0

-- how a section of a number is filled
abbrev pub fill : ℕ → Section → fills.Fill
fill n x = record { section = n; base = narrow x.base; size = narrow x.size; value = x.default_value }

abbrev pub begun_filling : ℕ → Option Section → Looked McuBody
begun_filling n None = let_be
begun_filling n (Some x) = Goes (fill_body (fill n x))

abbrev pub begun_starting : Option ℕ → Looked McuBody
begun_starting None = let_be
begun_starting (Some m) = Goes (clock_body (Start m))

-- what the call owes where the PLL isn't locked
abbrev pub unlocked_owed : McuTable → Epilogue
unlocked_owed d = owed_error (reporting d) services.McuDistributePllClock McuPllNotLocked

-- what a call without an error so far goes on with
abbrev pub begins : McuTable → Call → Looked McuBody
begins d Init = Goes (state_body Initialise)
begins d (InitRamSection n) = begun_filling n (section_of d n)
begins d (Clock (InitClock n)) = begun_starting (multiplier_of d n)
begins d (Clock DistributePllClock) = Goes (clock_body (Look (unlocked_owed d)))
begins d GetPllStatus = Goes (query_body Status)
begins d GetResetReason = Goes (query_body Reason)
begins d PerformReset = Goes (reset_body Reset)
begins d (SetMode m) = Goes (state_body (Keep m))

abbrev pub begun_of : Asked → Looked McuBody
begun_of q = begins q.driver q.call

abbrev pub looked_by : Asked → Option ErrorName → Looked McuBody
looked_by q None = begun_of q
looked_by q (Some e) = Refused (refusal_of q e)

abbrev pub mcu_looked : Asked → ℕ → Looked McuBody
mcu_looked q word = looked_by q (error_by q.driver q.call (word == 0) false)

-- ---- what a call shows that has no error

-- it shows no error before it looks at the PLL
abbrev pub Passed : McuTable → McuState → Call → Type 0
Passed d s call = error_by d call (not s.initialised) false ≡ None

-- it has none, whether the PLL is locked or not
abbrev pub MayAct : McuTable → McuState → Call → Type 0
MayAct d s call = (unlocked : Bool) → error_by d call (not s.initialised) unlocked ≡ None

no_error : (d : McuTable) (s : McuState) (call : Call) → Passed d s call → (k : ℕ) → k < length (errors_of (service_of call)) → slice_index_or (facts_by d call (not s.initialised) false) k false ≡ false
no_error d s call pass k lt = none_holds (errors_of (service_of call)) (facts_by d call (not s.initialised) false) pass k lt

pub on_of : (d : McuTable) (s : McuState) (n : ℕ) → Passed d s (InitRamSection n) → s.initialised ≡ true
on_of d s n pass = not-false s.initialised (no_error d s (InitRamSection n) pass 0 (omega arith))

pub section_there : (d : McuTable) (s : McuState) (n : ℕ) → Passed d s (InitRamSection n) → is_some (section_of d n) ≡ true
section_there d s n pass = not-false (is_some (section_of d n)) (no_error d s (InitRamSection n) pass 1 (omega arith))

pub multiplier_there : (d : McuTable) (s : McuState) (n : ℕ) → Passed d s (Clock (InitClock n)) → is_some (multiplier_of d n) ≡ true
multiplier_there d s n pass = not-false (is_some (multiplier_of d n)) (no_error d s (Clock (InitClock n)) pass 1 (omega arith))

-- the lock counts for one call alone, and there only where the module is initialised
abbrev pub is_distributing : Call → Bool
is_distributing (Clock DistributePllClock) = true
is_distributing _ = false

pub unhindered : (d : McuTable) (s : McuState) (call : Call) → is_distributing call ≡ false → Passed d s call → MayAct d s call
unhindered d s (Clock DistributePllClock) other pass = absurd (cc)
unhindered d s (Clock (InitClock n)) other pass = λ q. pass
unhindered d s _ other pass = λ q. pass

abbrev pub locks : Bool → Option ErrorName
locks unlocked = if unlocked then Some McuPllNotLocked else None

pub distribute_by : (d : McuTable) (s : McuState) → Passed d s (Clock DistributePllClock) → (unlocked : Bool) → error_by d (Clock DistributePllClock) (not s.initialised) unlocked ≡ locks unlocked
distribute_by d s pass unlocked = by s.initialised (not-false s.initialised (no_error d s (Clock DistributePllClock) pass 0 (omega arith))) unlocked
  where
    by : (on : Bool) → on ≡ true → (q : Bool) → error_by d (Clock DistributePllClock) (not on) q ≡ locks q
    by true e true = refl
    by true e false = refl
    by false e q = absurd (cc)

-- an error that the look names stands whether the PLL is locked or not
pub early : (d : McuTable) (call : Call) (u unlocked : Bool) (e : ErrorName) → error_by d call u false ≡ Some e → error_by d call u unlocked ≡ Some e
early d (Clock DistributePllClock) true unlocked e h = h
early d (Clock DistributePllClock) false unlocked e h = absurd (cc)
early d (Clock (InitClock n)) u unlocked e h = h
early d _ u unlocked e h = h

pub asked_word : (d : McuTable) (call : Call) (on : Bool) → mcu_looked (record { call = call; driver = d }) (state_word on) ≡ looked_by (record { call = call; driver = d }) (error_by d call (not on) false)
asked_word d call true = refl
asked_word d call false = refl

-- a section that there is may be filled
pub fill_passes : (d : McuTable) (s : McuState) (n : ℕ) (x : Section) → section_of d n ≡ Some x → s.initialised ≡ true → MayAct d s (InitRamSection n)
fill_passes d s n x e on unlocked = by s.initialised on (section_of d n) e
  where
    by : (b : Bool) → b ≡ true → (o : Option Section) → o ≡ Some x → first_error services.McuInitRamSection (not b ∷ not (is_some o) ∷ false ∷ false ∷ false ∷ false ∷ []) ≡ None
    by true f (Some y) g = refl
    by true f None g = absurd (cc)
    by false f o g = absurd (cc)
