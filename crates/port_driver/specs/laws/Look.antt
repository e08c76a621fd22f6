-- The load of the state word: what it decides for each call.
-- From Bodies.
-- Used by Lawful, asked/rt.
use Rattle.std.proofs.Common.{◌≡◌, ◌<◌, ◌==◌, if◌then◌else◌}
use Rattle.port_driver.specs.Terms
use Terms.{arith, Asked, bit_of, Bool, Call, Direction, Done, error_by, ErrorName, errors_of, facts_by, false, Goes}
use Terms.{has_mode, Init, is_some, length, List, Looked, Mode, nat_lt, nat_tests, no_answer, None, none_holds, not, not-false, Nothing, Option, owed_error, Pin, pin_of, PortTable, PortPinDirection, PortPinMode, refl, RefreshPortDirection, Refused, reporting, service_of, SetPinDirection, SetPinMode, slice_index_or, Some, true, ℕ}
use Rattle.port_driver.specs.declared.service.refresh.RefreshBody.TheVariants.{Write}
use Rattle.port_driver.specs.laws.Bodies.{PortBody, init_body, refresh_body, pin_body}
use Rattle.module_machines.specs.declared.port.call.Call.TheVariants as calls

abbrev pub facts_of : Asked → ℕ → List Bool
facts_of q word = facts_by q.driver q.call (word == 0)

abbrev pub refusal_of : Asked → ErrorName → Done
refusal_of q e = record { answer = no_answer; owed = owed_error (reporting q.driver) (service_of q.call) e }

abbrev pub let_be : Looked PortBody
let_be = Refused (record { answer = no_answer; owed = Nothing })

-- what a call without an error goes on with
abbrev pub begins : PortTable → Call → Looked PortBody
begins d Init = Goes (init_body (record { driver = d }))
begins d RefreshPortDirection = Goes (refresh_body (Write d 0))
begins d (calls.Pin p (SetPinDirection x)) = Goes (pin_body (Direction p x))
begins d (calls.Pin p (SetPinMode (Some m))) = Goes (pin_body (Mode p m))
begins d (calls.Pin p (SetPinMode None)) = let_be

abbrev pub begun_of : Asked → Looked PortBody
begun_of q = begins q.driver q.call

abbrev pub looked_by : Asked → Option ErrorName → Looked PortBody
looked_by q None = begun_of q
looked_by q (Some e) = Refused (refusal_of q e)

abbrev pub port_looked : Asked → ℕ → Looked PortBody
port_looked q word = looked_by q (error_by q.driver q.call (word == 0))

-- ---- what a call shows that has no error

no_error : (d : PortTable) (call : Call) (uninit : Bool) → error_by d call uninit ≡ None → (k : ℕ) → k < length (errors_of (service_of call)) → slice_index_or (facts_by d call uninit) k false ≡ false
no_error d call uninit pass k lt = none_holds (errors_of (service_of call)) (facts_by d call uninit) pass k lt

-- a configured pin is one of the 64
within : (d : PortTable) (p : ℕ) → is_some (pin_of d p) ≡ true → p < 64
within d p h = by (nat_lt p 64) (slice_index_or d.pins p None) refl h
  where
    by : (q : Bool) (k : Option Pin) → nat_lt p 64 ≡ q → is_some (if q then k else None) ≡ true → p < 64
    by true k e h = grind (arith, nat_tests)
    by false k e h = absurd (cc)

pub direction_within : (d : PortTable) (p : ℕ) (x : PortPinDirection) (uninit : Bool) → error_by d (calls.Pin p (SetPinDirection x)) uninit ≡ None → p < 64
direction_within d p x uninit pass = within d p (not-false _ (no_error d (calls.Pin p (SetPinDirection x)) uninit pass 1 (omega arith)))

pub mode_within : (d : PortTable) (p : ℕ) (m : Option PortPinMode) (uninit : Bool) → error_by d (calls.Pin p (SetPinMode m)) uninit ≡ None → p < 64
mode_within d p m uninit pass = within d p (not-false _ (no_error d (calls.Pin p (SetPinMode m)) uninit pass 1 (omega arith)))

-- and what is no mode is refused
pub mode_given : (d : PortTable) (p : ℕ) (uninit : Bool) → error_by d (calls.Pin p (SetPinMode None)) uninit ≡ None → ⊥
mode_given d p uninit pass = by (pin_of d p) (no_error d (calls.Pin p (SetPinMode None)) uninit pass 2 (omega arith))
  where
    by : (k : Option Pin) → not (has_mode k None) ≡ false → ⊥
    by None e = cc
    by (Some k) e = cc

pub asked_word : (b : Bool) → (bit_of b == 0) ≡ not b
asked_word true = refl
asked_word false = refl
