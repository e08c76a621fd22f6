-- The row that is found is that of the register.
use Rattle.std.proofs.Common.{◌≡◌, ℕ, List, ◌++◌, Option, Some, None, refl, ◌∙◌, ap}
use Rattle.std.specs.Prelude.{option_map}
use Rattle.std.specs.List.{find}
use Rattle.std.specs.Option.{option_or}
use Rattle.std.proofs.lemmas.List.Folds.{find-append}
use Rattle.mcal_base.specs.declared.register.Reg.{Reg}
use Rattle.trace_reader.specs.Registers.{Row, is_spelled, timers, pulses, captures, converters, serials, pins, clocks, rows, chosen}

abbrev pub reg_of : Option Row → Option Reg
reg_of o = option_map (λ (r : Row). r.reg) o

-- what is found in two lists
map_or : (o p : Option Row) → reg_of (option_or o p) ≡ option_or (reg_of o) (reg_of p)
map_or (Some row) p = refl
map_or None p = refl

chosen_append : (letter name : List ℕ) (xs ys : List Row) → chosen (xs ++ ys) letter name ≡ option_or (chosen xs letter name) (chosen ys letter name)
chosen_append letter name xs ys = ap reg_of (find-append (is_spelled letter name) xs ys) ∙ map_or (find (is_spelled letter name) xs) (find (is_spelled letter name) ys)

or_append : (letter name : List ℕ) (xs ys : List Row) (o : Option Reg) → chosen xs letter name ≡ o → chosen (xs ++ ys) letter name ≡ option_or o (chosen ys letter name)
or_append letter name xs ys o e = chosen_append letter name xs ys ∙ ap (λ (p : Option Reg). option_or p (chosen ys letter name)) e

-- and in all
pub chosen_rows : (letter name : List ℕ) (n k : ℕ) → chosen (rows n k) letter name ≡ option_or (option_or (option_or (option_or (option_or (option_or (chosen (timers n) letter name) (chosen (pulses n) letter name)) (chosen (captures n) letter name)) (chosen (converters n k) letter name)) (chosen (serials n) letter name)) (chosen (pins n) letter name)) (chosen (clocks n) letter name)
chosen_rows letter name n k =
    or_append letter name (((((timers n ++ pulses n) ++ captures n) ++ converters n k) ++ serials n) ++ pins n) (clocks n) _
    (or_append letter name ((((timers n ++ pulses n) ++ captures n) ++ converters n k) ++ serials n) (pins n) _
    (or_append letter name (((timers n ++ pulses n) ++ captures n) ++ converters n k) (serials n) _
    (or_append letter name ((timers n ++ pulses n) ++ captures n) (converters n k) _
    (or_append letter name (timers n ++ pulses n) (captures n) _ (chosen_append letter name (timers n) (pulses n))))))
