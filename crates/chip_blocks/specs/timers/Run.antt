-- A counter under way.
use Rattle.std.specs.Prelude.{ℕ, Bool}
use Rattle.mcal_base.specs.Expiry as expiry

-- When a counter was started, with the target, the prescaler and the one-shot bit that stood there.
pub record Run : Type 0 where
  pub start : ℕ
  pub target : ℕ
  pub prescaler : ℕ
  pub one_shot : Bool

-- the counter
abbrev pub run_count : Run → ℕ → ℕ
run_count r now = expiry.count_of r.one_shot r.start r.target r.prescaler now

-- it counts on: a one-shot one stops at its target
abbrev pub run_goes_on : Run → ℕ → Bool
run_goes_on r now = expiry.runs_on r.one_shot r.start r.target r.prescaler now

-- the number of expiries that came not after a time
abbrev pub run_expiries : Run → ℕ → ℕ
run_expiries r time = expiry.expiries r.one_shot r.start r.target r.prescaler time

-- the same, started anew
abbrev pub restarted : Run → ℕ → Run
restarted r now = record r { start = now }
