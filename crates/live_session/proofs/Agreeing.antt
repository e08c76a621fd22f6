-- What a driver on the chip is to the last moment of a run at whose end it stands.
use Rattle.std.proofs.Common.{◌≡◌, ℕ, List, [], ◌∷◌, length, sym, ◌∙◌, ap}
use Rattle.chip_model.specs.Chip.{Chip, expiry_of}
use Rattle.mcal_base.specs.declared.routine.Taken.{Taken}
use Rattle.mcal_base.specs.declared.moves.Move.{Move}
use Rattle.run_model.specs.Entry.{Entry, Said}
use Rattle.run_model.specs.Follows as follows
use Rattle.run_model.specs.Moment.{Transition}
use Rattle.script_runner.proofs.Arms.{as_many}
use Rattle.step_runner.proofs.Runs.{left-is}
use Rattle.step_runner.specs.Driver.{Driver, IsLawful}
use Rattle.live_board.specs.Lives.{LiveRun}
use Rattle.live_session.specs.Answers.{EndsAt, moment_at}

module _ {M State Call Frame : Type 0} (d : Driver State Call Frame) (first : Chip) (live : LiveRun M Frame) (h : List (Transition Call)) (e : EndsAt d first live h) where
  -- the frames are as many as those of the moment
  pub depth_at : length live.kept.frames ≡ length (moment_at d first h).opens
  depth_at = as_many d live.kept.frames (moment_at d first h).opens e.stands.matches.frames

  pub is_one : (line : ℕ) (said : Said) → follows.IsOne (moment_at d first h) line said ((record { line = line; depth = length live.kept.frames; said = said }) ∷ [])
  is_one line said = ap (λ n. let i : Entry = record { line = line; depth = n; said = said } in i ∷ []) depth_at

  -- the time that is left for the watchdog
  pub expires_at : (move_of : Frame → Move) (left : Frame → ℕ → Frame) (gave : Frame → ℕ → Taken) → IsLawful d move_of left gave → d.setting.machine.expires (moment_at d first h).world (moment_at d first h).state ≡ expiry_of live.chip
  expires_at move_of left gave law = left-is d move_of left gave law live.chip live.kept.frames (moment_at d first h) e.stands.matches ∙ sym (ap expiry_of e.stands.matches.chip_is)
