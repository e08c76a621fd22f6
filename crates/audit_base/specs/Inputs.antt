-- What is kept of what the analog inputs took.
use Rattle.std.specs.Prelude.{◌≡◌, ℕ, nat_lt, cond, List, [], ◌∷◌, length, Option, Some, None, slice_get}
use Rattle.std.proofs.Common.{Vec, Global}
use Rattle.run_model.specs.World.{Sample, sample_at}
use Rattle.audit_base.specs.declared.samples.Samples.{Samples}
use Rattle.audit_base.specs.declared.samples.Taken.{Taken}

-- what was taken last before a time, and this value where nothing was; the newest one is the last
abbrev pub level_from : (value : ℕ) → List Taken → (time : ℕ) → ℕ
level_from v [] t = v
level_from v (x ∷ xs) t = level_from (cond (nat_lt x.since t) x.value v) xs t

abbrev pub level_before : List Taken → (time : ℕ) → ℕ
level_before xs t = level_from 0 xs t

-- what an input took last before a time; one that isn't there took nothing
abbrev pub level_of : Option (Vec Taken Global) → (time : ℕ) → ℕ
level_of None t = 0
level_of (Some xs) t = level_before xs.items t

-- This was taken by the inputs, of which there are 32.
pub record Took (kept : Samples) (samples : List Sample) : Type 0 where
  pub size : length kept.inputs.items ≡ 32
  pub levels : (i t : ℕ) → level_of (slice_get kept.inputs.items i) t ≡ sample_at samples i t
