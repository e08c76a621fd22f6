-- When a timer expires, by its start, its target and its prescaler.
use Rattle.std.specs.Prelude.{◌≡◌, ℕ, ◌+◌, ◌*◌, ◌<◌, ◌≤◌, Bool, true}

-- A time at which it expires: its target's worth of time after its start, and a continuous one again after each further such span. One without a target or a prescaler never does.
pub record ExpiresAt (one_shot : Bool) (start target prescaler time : ℕ) : Type 0 where
  pub counts : 0 < target * prescaler
  pub spans : ℕ
  pub later : 0 < spans
  pub once : one_shot ≡ true → spans ≡ 1
  pub comes : time ≡ start + spans * (target * prescaler)

-- Such a time comes after the first time, and not after the second.
pub record ExpiresBetween (one_shot : Bool) (start target prescaler first last : ℕ) : Type 0 where
  pub time : ℕ
  pub expires : ExpiresAt one_shot start target prescaler time
  pub later : first < time
  pub within : time ≤ last

-- A counter has its target at a time, and has less at each time before.
pub record IsReachedAt (counter : ℕ → ℕ) (target time : ℕ) : Type 0 where
  pub there : counter time ≡ target
  pub below : (earlier : ℕ) → earlier < time → counter earlier < target
