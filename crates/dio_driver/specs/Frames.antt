-- The frames of calls, and how they stand.
use Rattle.std.specs.Prelude.{◌≡◌, ℕ, false, [], Option, Some, None}
use Rattle.mcal_base.specs.det_errors.Reports.{reported}
use Rattle.mcal_base.specs.declared.error_name.ErrorName.{ErrorName}
use Rattle.mcal_base.specs.declared.moves.DevError.{DevError}
use Rattle.mcal_base.specs.declared.moves.Event.TheVariants.{Act}
use Rattle.mcal_base.specs.declared.moves.Move.{Move}
use Rattle.mcal_base.specs.declared.moves.Move.TheVariants as moves
use Rattle.mcal_base.specs.declared.routine.Taken.{Taken}
use Rattle.run_model.specs.declared.class.Tag.{Tag}
use Rattle.run_model.specs.Frame.{Called, Open, opened, report_as}
use Rattle.dio_driver.specs.Accesses.{access_of, answer_by, move_of}
use Rattle.module_machines.specs.dio.Checks.{answer_refused, error_of, reporting, service_of}
use Rattle.module_machines.specs.dio.Table.{pins_of}
use Rattle.module_machines.specs.declared.dio.table.PortPins.{PortPins}
use Rattle.module_machines.specs.declared.dio.call.Call.{Call}
use Rattle.module_machines.specs.declared.dio.table.DioTable.{DioTable}
use Rattle.dio_driver.specs.declared.frame.DioFrame.{DioFrame}
use Rattle.dio_driver.specs.declared.frame.DioFrame.TheVariants.{Access, Refused, Telling}
use Rattle.dio_driver.specs.declared.frame.TheConstants.{NOWHERE}

-- what is reported of a call whose channel, port or group isn't configured
abbrev pub report_by : DioTable → Call → Option ErrorName → Option DevError
report_by d call None = None
report_by d call (Some e) = report_as (service_of call) e (reported (reporting d) e)

abbrev pub report_of : DioTable → Call → Option DevError
report_of d call = report_by d call (error_of call)

-- the frame of a call that begins
abbrev pub frame_by : DioTable → Call → Option PortPins → DioFrame
frame_by d call None = Refused call (report_of d call)
frame_by d call (Some pins) = Access (access_of call pins)

abbrev pub frame_of : DioTable → Call → DioFrame
frame_of d call = frame_by d call (pins_of d call)

-- ---- its steps

abbrev pub dio_move : DioFrame → Move
dio_move (Access a) = move_of a
dio_move (Refused c report) = moves.Load NOWHERE
dio_move (Telling c e) = moves.Report e

abbrev pub dio_left : DioFrame → ℕ → DioFrame
dio_left (Access a) value = Access a
dio_left (Refused c None) value = Refused c None
dio_left (Refused c (Some e)) value = Telling c e
dio_left (Telling c e) value = Telling c e

abbrev pub dio_gave : DioFrame → ℕ → Taken
dio_gave (Access a) value = record { event = Some Act; ended = Some (answer_by a value) }
dio_gave (Refused c None) value = record { event = Some Act; ended = Some (answer_refused c) }
dio_gave (Refused c (Some e)) value = record { event = Some Act; ended = None }
dio_gave (Telling c e) value = record { event = None; ended = Some (answer_refused c) }

-- the steps that a frame has left
abbrev pub dio_fuel : DioFrame → ℕ
dio_fuel (Access a) = 1
dio_fuel (Refused c report) = 2
dio_fuel (Telling c e) = 1

-- before its first step a frame has done nothing, and after it it has an error to report
pub data DioStands (d : DioTable) : DioFrame → Open Call → Type 0 where
  Known : (c : Call) (pins : PortPins) (tag : Tag) → pins_of d c ≡ Some pins → DioStands d (Access (access_of c pins)) (opened (Called c) tag)
  Unknown : (c : Call) (report : Option DevError) (tag : Tag) → pins_of d c ≡ None → report_of d c ≡ report → DioStands d (Refused c report) (opened (Called c) tag)
  Told : (c : Call) (e : DevError) (o : Open Call) → DioStands d (Telling c e) (record o { origin = Called c; acted = Some (answer_refused c); polled = []; wrote = false; owed = []; report = Some e; inside = false })
