-- A run under way, as those see it who have its script obeyed.
use Rattle.std.specs.Prelude.{◌≡◌, ℕ, ◌+◌, ◌*◌, ◌/◌, min, Bool, false, List, [], ◌++◌, length}
use Rattle.chip_model.specs.Chip.{Chip}
use Rattle.mcal_base.specs.declared.config.whole.Config.{Config}
use Rattle.mcal_base.specs.declared.directive.Directive.{Directive}
use Rattle.mcal_base.specs.declared.directive.Request.{Request}
use Rattle.run_model.specs.Entry.{Entry, Written}
use Rattle.run_model.specs.Follows.{Gives}
use Rattle.run_model.specs.Legal.{IsQuiet}
use Rattle.run_model.specs.Moment.{Moment, Setting}
use Rattle.step_runner.specs.Driver.{Driver}
use Rattle.step_runner.specs.declared.stack.Under.{Under}
use Rattle.script_runner.specs.Scripts.{chip_for, script_bound}
use Rattle.serial_devices.specs.Lines.{Line}
use Rattle.script_runner.specs.Standing.{moment_of, IsStanding, Called}

-- A run under way of a driver over a script.
pub record Run (M Frame : Type 0) : Type 0 where
  pub driver : M
  pub config : Config
  pub script : List Directive
  -- how many serial devices there are
  pub devices : ℕ
  -- the most steps
  pub limit : ℕ
  -- how many directives were obeyed, and whether the next one stopped for want of a step
  pub obeyed : ℕ
  pub too_long : Bool
  -- what was done, and the chip and the frames that stand for it, the newest first
  pub journal : Written
  pub chip : Chip
  pub frames : List (Under Frame)

-- the chip at power on
abbrev pub first_of : {M Frame : Type 0} → Run M Frame → Chip
first_of r = chip_for r.devices r.config r.script

-- the items of a run of so many steps and so many directives: every second step has a wait before it at most, and a directive three
-- items beside
abbrev pub room_for : (most directives : ℕ) → ℕ
room_for most directives = most + (most + 1) / 2 + 3 * directives

-- a run before its first directive, with room for its items, and 64 words of each directive
abbrev pub run_start : {M State Call Frame : Type 0} → (driver : M) → Setting State Call → (Request → Call) → Config → List Directive → (limit devices : ℕ) → Run M Frame
run_start driver setting calls config script limit devices = record {
  driver = driver;
  config = config;
  script = script;
  devices = devices;
  limit = limit;
  obeyed = 0;
  too_long = false;
  journal = record { entries = []; room = room_for (min limit (script_bound setting calls script)) (length script); words = []; words_room = 64 * length script };
  chip = chip_for devices config script;
  frames = [];
}

-- what a directive leaves of a run
pub record IsSameRun {M Frame : Type 0} (before after : Run M Frame) : Type 0 where
  pub driver : after.driver ≡ before.driver
  pub config : after.config ≡ before.config
  pub script : after.script ≡ before.script
  pub devices : after.devices ≡ before.devices
  pub limit : after.limit ≡ before.limit
  pub room : after.journal.room ≡ before.journal.room

-- the moment to which a run has come
abbrev pub moment_in : {M State Call Frame : Type 0} → Driver State Call Frame → (Request → Call) → Run M Frame → Moment State Call
moment_in d calls r = moment_of d (first_of r) calls r.script r.journal.entries

-- the chip and the frames of a run stand for its journal
abbrev pub StandsThere : {M State Call Frame : Type 0} → Driver State Call Frame → (Request → Call) → Run M Frame → Type 0
StandsThere d calls r = IsStanding d (first_of r) calls r.script r.chip r.frames r.journal.entries

-- Items were added to the journal: those that the directive gives.
pub record AddsItems {M State Call Frame : Type 0} (d : Driver State Call Frame) (calls : Request → Call) (directive : Directive) (before after : Run M Frame) : Type 0 where
  pub items : List Entry
  pub is : after.journal.entries ≡ before.journal.entries ++ items
  pub gives : Gives d.setting calls (moment_in d calls before) directive.line directive.order items

-- what the items that were added made of the devices
abbrev pub CallsThere : {M State Call Frame : Type 0} → Driver State Call Frame → (Request → Call) → (before after : Run M Frame) → (old new : List Line) → Type 0
CallsThere d calls before after old new = Called d (first_of before) calls before.script before.journal.entries after.journal.entries old new

-- The run has come to rest: no frame is there, and the chip is the machine's in all that may be seen.
pub record IsAtRest {M State Call Frame : Type 0} (d : Driver State Call Frame) (calls : Request → Call) (r : Run M Frame) : Type 0 where
  pub alone : (moment_in d calls r).opens ≡ []
  pub chip : r.chip ≡ (moment_in d calls r).chip
  pub quiet : IsQuiet d.setting (moment_in d calls r)
