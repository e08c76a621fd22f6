-- What the handler of a line begins with.
use Rattle.std.specs.Prelude.{ℕ, zero, suc, ◌+◌, ◌-◌, Bool, true, false, if◌then◌else◌, Option, Some, None}
use Rattle.service_outline.specs.declared.body.Or.TheVariants.{Second}
use Rattle.adc_machine.specs.Machine.{is_trigger_line, is_unit_line}
use Rattle.adc_machine.specs.Table.{group_of}
use Rattle.adc_machine.specs.Triggers.{has_input}
use Rattle.adc_machine.specs.declared.table.AdcTable.{AdcTable}
use Rattle.adc_groups.specs.declared.body.AdcBody.{AdcBody}
use Rattle.adc_groups.specs.declared.body.Place.TheVariants.{Flag}
use Rattle.adc_groups.specs.declared.window.Window.{Window}
use Rattle.adc_groups.specs.declared.window.Window.TheVariants as windows
use Rattle.adc_groups.specs.laws.services.LookSteps.{AnyBody}

-- the first of so many groups from this one on that a trigger input triggers, 16 where there is none
abbrev pub first_on : AdcTable → (input many from : ℕ) → ℕ
first_on d i zero g = 16
first_on d i (suc n) g = if has_input i (group_of d g) then g else first_on d i n (g + 1)

abbrev pub group_on : AdcTable → (input from : ℕ) → ℕ
group_on d i g = first_on d i (16 - g) g

-- the window of a line
abbrev pub handled_window : AdcTable → (line : ℕ) → Window
handled_window d l = if is_unit_line l then windows.Take (l - 24) else if is_trigger_line l then windows.Trigger (l - 28) (group_on d (l - 28) 0) else windows.Close

-- a handler reads first whether its line is ready
abbrev pub handled_body : AdcTable → (line : ℕ) → AdcBody
handled_body d l = record { table = d; place = Flag (handled_window d l) }

-- the body of the handler of a line that an object uses
abbrev pub handled_by : AdcTable → (line : ℕ) → (used : Bool) → Option AnyBody
handled_by d l false = None
handled_by d l true = Some (Second (handled_body d l))
