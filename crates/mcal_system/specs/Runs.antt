-- A run of a script over all modules, as those see it who have its directives obeyed.
use Rattle.std.specs.Prelude.{◌≡◌, ℕ, ◌+◌, ◌*◌, min, Bool, false, List, [], ◌++◌, length}
use Rattle.config_facts.specs.Valid.{IsValid}
use Rattle.mcal_base.specs.declared.config.whole.Config.{Config}
use Rattle.mcal_base.specs.declared.directive.Directive.{Directive}
use Rattle.run_model.specs.Devices.{AllCalls, AreTold}
use Rattle.run_model.specs.Entry.{Entry, Written}
use Rattle.run_model.specs.Follows.{Gives}
use Rattle.run_model.specs.Moment.{Moment, start_moment, after_all}
use Rattle.run_model.specs.Script.{deeds_of}
use Rattle.run_model.specs.World.{World}
use Rattle.serial_devices.specs.Lines.{Line}
use Rattle.script_runner.specs.Runs.{Run, room_for}
use Rattle.script_runner.specs.Scripts.{chip_for, script_bound}
use Rattle.mcal_drivers.specs.Drivers.{drivers_of}
use Rattle.mcal_drivers.specs.Frames.{SystemFrame}
use Rattle.mcal_drivers.specs.declared.drivers.Drivers.{Drivers}
use Rattle.mcal_drivers.specs.Setting.{SystemState, SystemCall, system_setting, call_of}

-- the most steps of a run
abbrev pub most_steps : ℕ
most_steps = 1000000

-- A run: its configuration and script, how many serial devices there were at power on, how many directives were obeyed, whether the next one stopped for want of a step, and what was done.
pub record SystemRun : Type 0 where
  pub config : Config
  pub script : List Directive
  pub devices : ℕ
  pub obeyed : ℕ
  pub too_long : Bool
  pub journal : Written

-- the most steps of all frames that the script may begin
abbrev pub bound_of : Config → List Directive → ℕ
bound_of config script = script_bound (system_setting config) call_of script

-- before the first directive, with room for all
abbrev pub run_start : Config → List Directive → (devices : ℕ) → SystemRun
run_start config script devices = record {
  config = config;
  script = script;
  devices = devices;
  obeyed = 0;
  too_long = false;
  journal = record { entries = []; room = room_for (min most_steps (bound_of config script)) (length script); words = []; words_room = 64 * length script };
}

-- the moment to which the items of a journal lead, from power on
abbrev pub moment_after : (devices : ℕ) → Config → List Directive → List Entry → Moment SystemState SystemCall
moment_after devices config script entries = after_all (system_setting config) (start_moment (system_setting config) (chip_for devices config script)) (deeds_of call_of script entries)

-- the moment to which the run has come
abbrev pub moment_of : SystemRun → Moment SystemState SystemCall
moment_of r = moment_after r.devices r.config r.script r.journal.entries

-- A run while no frame is under way: its configuration and script, how many serial devices there were at power on, and what was done.
pub record RestingRun : Type 0 where
  pub config : Config
  pub script : List Directive
  pub devices : ℕ
  pub entries : List Entry

-- what a run is, while it rests
abbrev pub resting : SystemRun → RestingRun
resting r = record { config = r.config; script = r.script; devices = r.devices; entries = r.journal.entries }

-- the moment to which it has come
abbrev pub moment_at : RestingRun → Moment SystemState SystemCall
moment_at r = moment_after r.devices r.config r.script r.entries

-- what stands outside then, and the state of all modules
abbrev pub shown_at : RestingRun → World × SystemState
shown_at r = ((moment_at r).world, (moment_at r).state)

-- a directive leaves the configuration, the script and the number of devices
pub record IsSameRun (before after : SystemRun) : Type 0 where
  pub config : after.config ≡ before.config
  pub script : after.script ≡ before.script
  pub devices : after.devices ≡ before.devices

-- items were added to the journal: those that the directive gives
pub record AddsItems (directive : Directive) (before after : SystemRun) : Type 0 where
  pub items : List Entry
  pub is : after.journal.entries ≡ before.journal.entries ++ items
  pub gives : Gives (system_setting before.config) call_of (moment_of before) directive.line directive.order items

-- What the items that were added made of the devices: each was called by the steps that begin a word under its select, and one that was detached is gone.
pub record CallsDevices (before after : SystemRun) (old new : List Line) : Type 0 where
  pub items : List Entry
  pub is : after.journal.entries ≡ before.journal.entries ++ items
  pub calls : AllCalls (system_setting before.config) (moment_of before) (deeds_of call_of before.script items) old new
  -- so the pairs and faults of each that is still there are those before, and the ones of those steps
  pub told : AreTold (system_setting before.config) (moment_of before) (deeds_of call_of before.script items) old new

-- an engine is over the drivers of its sound configuration, and makes at most so many steps
pub record IsOver (engine : Run Drivers SystemFrame) : Type 0 where
  pub valid : IsValid engine.config
  pub made : engine.driver ≡ drivers_of engine.config
  pub limited : engine.limit ≡ most_steps
