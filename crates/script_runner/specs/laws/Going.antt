-- What is so of the parts of a run between two directives, and after it stopped.
use Rattle.std.specs.Prelude.{◌≡◌, ℕ, ◌+◌, ◌-◌, ◌*◌, ◌<◌, ◌≤◌, min, Bool, List, length, take}
use Rattle.std.specs.Bool.{OnTrue, OnFalse}
use Rattle.chip_model.specs.Chip.{Chip, now_of}
use Rattle.mcal_base.specs.declared.config.whole.Config.{Config}
use Rattle.mcal_base.specs.declared.directive.Directive.{Directive}
use Rattle.mcal_base.specs.declared.directive.Request.{Request}
use Rattle.mcal_base.specs.declared.service.Service.{Service}
use Rattle.run_model.specs.Entry.{Written}
use Rattle.run_model.specs.Moment.{start_moment}
use Rattle.run_model.specs.Stops.{FollowsToStop, steps_in}
use Rattle.run_model.proofs.Following.{FollowsTo}
use Rattle.step_runner.specs.Driver.{Driver}
use Rattle.step_runner.specs.Kept.{Kept}
use Rattle.script_runner.specs.Busy.{busies}
use Rattle.script_runner.specs.Scripts.{IsScript, AllOffered, words_given, chip_for, script_bound}
use Rattle.script_runner.specs.Standing.{moment_of, IsStanding, room_on, work_of}

-- So many directives of a script were obeyed.
pub record Going {State Call Frame : Type 0} (d : Driver State Call Frame) (first : Chip) (call_of : Request → Call) (script : List Directive) (most at : ℕ) (chip : Chip) (k : Kept Frame) (w : Written) : Type 0 where
  pub follows : FollowsTo d.setting call_of (start_moment d.setting first) (take at script) w.entries (moment_of d first call_of script w.entries)
  pub stands : IsStanding d first call_of script chip k.frames w.entries
  pub steps : k.steps ≤ most
  pub counted : steps_in w.entries ≡ k.steps
  pub spent : work_of d k ≤ script_bound d.setting call_of (take at script)
  pub items : 2 * length w.entries + 3 * (most - k.steps) + busies chip + 6 * (length script - at) ≤ 2 * w.room
  pub words : length w.words + 64 * (length script - at) ≤ w.words_room
  pub osc : chip.clock.osc ≤ 1000008 * at + 8 * k.steps
  pub now : now_of chip ≤ 16000128 * at + 128 * k.steps
  pub given : (u : ℕ) → u < 2 → words_given script ≤ room_on chip u + words_given (take at script)

-- The run stopped in the next directive.
pub record Halted {State Call Frame : Type 0} (d : Driver State Call Frame) (first : Chip) (call_of : Request → Call) (script : List Directive) (most : ℕ) (chip : Chip) (k : Kept Frame) (w : Written) : Type 0 where
  pub follows : FollowsToStop d.setting call_of (start_moment d.setting first) script w.entries
  pub stands : IsStanding d first call_of script chip k.frames w.entries
  pub steps : steps_in w.entries ≡ most
  pub few : most < script_bound d.setting call_of script

-- What is so of a run under way.
pub record IsUnderWay {State Call Frame : Type 0} (d : Driver State Call Frame) (call_of : Request → Call) (has : Service → Bool) (config : Config) (script : List Directive) (devices limit most at : ℕ) (too_long : Bool) (chip : Chip) (k : Kept Frame) (w : Written) : Type 0 where
  pub fits : d.fits
  pub is_script : IsScript script
  pub offered : AllOffered has script
  pub small : limit < 4294967295
  pub least : most ≡ min limit (script_bound d.setting call_of script)
  pub going : OnFalse too_long (Going d (chip_for devices config script) call_of script most at chip k w)
  pub halted : OnTrue too_long (Halted d (chip_for devices config script) call_of script most chip k w)
