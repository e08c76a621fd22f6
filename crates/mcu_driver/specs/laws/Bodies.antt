-- Each body as one of the driver's bodies.
-- Used by Look, Lawful, mcal_drivers: Frames, service/rt.
use Rattle.mcu_driver.specs.Terms
use Terms.{ClockBody, Fill, FilledBody, First, Opens, Or, QueryBody, ResetBody, Second, StateBody, Sweep}

-- a place in any body of the driver
abbrev pub McuBody : Type 0
McuBody = Or (Or StateBody (Or QueryBody ClockBody)) (Or ResetBody (Sweep Fill FilledBody))

abbrev pub state_body : StateBody → McuBody
state_body k = First (First k)

abbrev pub query_body : QueryBody → McuBody
query_body k = First (Second (First k))

abbrev pub clock_body : ClockBody → McuBody
clock_body k = First (Second (Second k))

abbrev pub reset_body : ResetBody → McuBody
reset_body k = Second (First k)

abbrev pub fill_body : Fill → McuBody
fill_body r = Second (Second (record { objects = r; place = Opens }))
