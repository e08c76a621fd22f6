-- Each body as one of the driver's bodies.
-- Used by Look, Handler, service/rt, Lawful, Windows and 1 more.
use Rattle.icu_driver.specs.Terms
use Terms.{ChangeBody, CountBody, DeInitBody, DetectBody, DutyBody, First, GateBody, InitBody, KeepBody, MeasureBody}
use Terms.{Or, SampleBody, Second, StampBody}

-- a place in any body of the driver
abbrev pub IcuBody : Type 0
IcuBody = Or (Or (Or InitBody DeInitBody) (Or DetectBody (Or KeepBody SampleBody))) (Or (Or ChangeBody (Or CountBody GateBody)) (Or StampBody (Or MeasureBody DutyBody)))

abbrev pub init_body : InitBody → IcuBody
init_body k = First (First (First k))

abbrev pub deinit_body : DeInitBody → IcuBody
deinit_body k = First (First (Second k))

abbrev pub detect_body : DetectBody → IcuBody
detect_body k = First (Second (First k))

abbrev pub keep_body : KeepBody → IcuBody
keep_body k = First (Second (Second (First k)))

abbrev pub sample_body : SampleBody → IcuBody
sample_body k = First (Second (Second (Second k)))

abbrev pub change_body : ChangeBody → IcuBody
change_body k = Second (First (First k))

abbrev pub count_body : CountBody → IcuBody
count_body k = Second (First (Second (First k)))

abbrev pub gate_body : GateBody → IcuBody
gate_body k = Second (First (Second (Second k)))

abbrev pub stamp_body : StampBody → IcuBody
stamp_body k = Second (Second (First k))

abbrev pub measure_body : MeasureBody → IcuBody
measure_body k = Second (Second (Second (First k)))

abbrev pub duty_body : DutyBody → IcuBody
duty_body k = Second (Second (Second (Second k)))
