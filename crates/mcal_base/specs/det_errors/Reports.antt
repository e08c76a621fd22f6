-- Whether an error is reported, and to whom: one rule for all services.
use Rattle.std.specs.Prelude.{ℕ, Bool, true, false, ◌&&◌, ◌==◌, Option, Some, None, if◌then◌else◌}
use Rattle.mcal_base.specs.declared.error_name.ErrorName.{ErrorName}
use Rattle.mcal_base.specs.declared.error_name.ErrorName.TheVariants as errors

-- the state errors: these six
abbrev pub is_state_error : ErrorName → Bool
is_state_error errors.GptBusy = true
is_state_error errors.GptMode = true
is_state_error errors.IcuNotStarted = true
is_state_error errors.AdcBusy = true
is_state_error errors.AdcIdle = true
is_state_error errors.SpiSeqPending = true
is_state_error errors.SpiSeqInProcess = true
is_state_error _ = false

-- how a module reports: whether it detects development errors, and how it classifies state errors, 2 as runtime errors
pub record Reporting : Type 0 where
  pub detect : Bool
  pub classification : ℕ

-- a state error of a module that classifies so is a runtime error, all others are development errors
abbrev pub is_runtime : Reporting → ErrorName → Bool
is_runtime r error = r.classification == 2 && is_state_error error

-- a runtime error is always reported, a development error where the module detects; the answer tells whether it is a runtime error
abbrev pub reported : Reporting → ErrorName → Option Bool
reported r error = if is_runtime r error then Some true else if r.detect then Some false else None
