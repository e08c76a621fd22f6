-- What is said along a run, of all that stays the same through it.
use Rattle.std.specs.Prelude.{List}
use Rattle.chip_model.specs.Chip.{Chip}
use Rattle.mcal_base.specs.declared.directive.Directive.{Directive}
use Rattle.mcal_base.specs.declared.directive.Request.{Request}
use Rattle.step_runner.specs.Driver.{Driver}
use Rattle.script_runner.specs.Scripts.{chip_for}
use Rattle.script_runner.specs.declared.parts.RunSetup.{RunSetup}

-- what holds along a run: it speaks of the driver, the chip at power on, the calls that requests ask for, and the script; X, Y and Z are
-- arguments of the setup's type, which has them for the traits of M
abbrev pub along : {M X Y Z State Call Frame : Type 0} {A : Type 1} → (M → Driver State Call Frame) → (M → Request → Call) → RunSetup M X Y Z → (Driver State Call Frame → Chip → (Request → Call) → List Directive → A) → A
along spec call_of course says = says (spec course.driver) (chip_for course.devices course.config course.script.now) (call_of course.driver) course.script.now
