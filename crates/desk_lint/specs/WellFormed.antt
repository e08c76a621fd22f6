-- Which bench files are right, said by what the bench reads: a separator, a configuration without a fault, a script.
use Rattle.std.specs.Prelude.{ℕ, nat_le, ◌&&◌, Bool, true, false, List, length, Option, Some, None, is_none, is_ok}
use Rattle.mcal_config.specs.Whole.{fault_of}
use Rattle.bench_script.specs.Lines.{file}
use Rattle.bench_script.specs.Script.{script}
use Rattle.desk_lint.specs.declared.verdicts.Verdict.{Verdict}
use Rattle.desk_lint.specs.declared.verdicts.Verdict.TheVariants.{Sound}

-- both parts are right
abbrev pub are_right : Option (List ℕ × List ℕ) → Bool
are_right None = false
are_right (Some parts) = is_none (fault_of parts.0) && is_ok (script parts.1)

-- what `check` of the bench takes
abbrev pub is_well_formed : List ℕ → Bool
is_well_formed bytes = nat_le (length bytes) 1048576 && are_right (file bytes)

-- the readers found no fault
abbrev pub is_sound : Verdict → Bool
is_sound (Sound config) = true
is_sound _ = false
