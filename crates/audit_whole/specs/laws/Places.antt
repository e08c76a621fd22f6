-- A channel that has a source array is one of those that a chip has, within its limits.
use Rattle.std.proofs.Common.{◌≡◌, ℕ, zero, suc, ◌<◌, ◌≤◌, true, List, [], ◌∷◌, length, Option, None, is_some, slice_index_or, arith}
use Rattle.mcal_base.specs.facts.Truths.{off_on}
use Rattle.spi_machine.specs.declared.table.SpiTable.{SpiTable}
use Rattle.audit_machines.specs.System.{Tables}
use Rattle.audit_whole.specs.Whole.{InLimits}

-- the place of what a list has is one of its places
is_listed : {A : Type 0} (xs : List (Option A)) (n : ℕ) → is_some (slice_index_or xs n None) ≡ true → n < length xs
is_listed [] n e = off_on e
is_listed (x ∷ xs) zero e = omega arith
is_listed (x ∷ xs) (suc n) e = let lt = is_listed xs n e in omega (arith, lt)

few : (d : SpiTable) (c : ℕ) → length d.channels ≤ 16 → is_some (slice_index_or d.channels c None) ≡ true → c < 16
few d c most e = let lt = is_listed d.channels c e in omega (arith, most, lt)

pub few_channels : (t : Tables SpiTable) (c : ℕ) → InLimits t → is_some (slice_index_or t.1.1.1.channels c None) ≡ true → c < 16
few_channels t c limits e = few t.1.1.1 c limits.channels e
