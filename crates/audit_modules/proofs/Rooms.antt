-- The results of each group have room.
use Rattle.std.proofs.Common.{ℕ, zero, suc, ◌*◌, ◌<◌, ◌≤◌, ◌==◌, nat_lt, Bool, true, false, List, [], ◌∷◌, length, Option, Some, None, slice_index_or, arith}
use Rattle.std.specs.Prelude.{All, if◌then◌else◌}
use Rattle.std.specs.List.{AllByRecursion}
use Rattle.std.specs.Option.{option_map}
use Rattle.std.proofs.lemmas.Nat.{mul-le}
use Rattle.adc_machine.specs.Groups.{inputs_of, samples_of}
use Rattle.adc_machine.specs.Table.{found_in, group_in, groups_of, start_in, table_of, taken}
use Rattle.adc_machine.specs.declared.table.Group.{Group}
use Rattle.mcal_base.specs.Layout.{WithinLimits}
use Rattle.mcal_base.specs.declared.config.adc.AdcGroup.{AdcGroup}
use Rattle.mcal_base.specs.declared.config.whole.Config.{Config}
use Rattle.audit_modules.specs.Agrees.{HasRoom}

-- a group has room for its results
abbrev Fits : Option Group → Type 0
Fits k = length (inputs_of k) * samples_of k ≤ 2048

-- a configured group is within its limits
abbrev Small : AdcGroup → Type 0
Small x = (x.id < 16) × (length x.definition ≤ 32) × (x.streaming_num_samples ≤ 64)

product : (n m : ℕ) → n ≤ 32 → m ≤ 64 → n * m ≤ 2048
product n m few small = mul-le n m 32 64 few small

found_fits : (xs : List AdcGroup) (g n : ℕ) → All Small xs → length (inputs_of (option_map (taken n) (found_in xs g))) * samples_of (option_map (taken n) (found_in xs g)) ≤ 2048
found_fits [] g n each = omega arith
found_fits (x ∷ xs) g n each = by (x.id == g) (found_fits xs g n (λ k y lt. each (suc k) y (omega (arith, lt))))
  where
    small : Small x
    small = each 0 x (omega arith)

    by : (q : Bool) → Fits (option_map (taken n) (found_in xs g)) → length (inputs_of (option_map (taken n) (if q then Some x else found_in xs g))) * samples_of (option_map (taken n) (if q then Some x else found_in xs g)) ≤ 2048
    by true more = product (length x.definition) x.streaming_num_samples small.1 small.2
    by false more = more

-- each of these has room
one_fits : (ks : List (Option Group)) → AllByRecursion Fits ks → (g : ℕ) → length (inputs_of (slice_index_or ks g None)) * samples_of (slice_index_or ks g None) ≤ 2048
one_fits [] each g = omega arith
one_fits (k ∷ ks) each zero = each.0
one_fits (k ∷ ks) each (suc g) = one_fits ks each.1 g

numbered_fits : (ks : List (Option Group)) → AllByRecursion Fits ks → (g : ℕ) (q : Bool) → length (inputs_of (if q then slice_index_or ks g None else None)) * samples_of (if q then slice_index_or ks g None else None) ≤ 2048
numbered_fits ks each g true = one_fits ks each g
numbered_fits ks each g false = omega arith

pub room : (c : Config) → WithinLimits c → HasRoom (table_of c.adc)
room c limits g =
    let xs = c.adc.groups in
    let f : (n : ℕ) → Fits (group_in xs n) = λ n. found_fits xs n (start_in xs n) limits.groups.1 in
    numbered_fits (groups_of xs) (f 0, (f 1, (f 2, (f 3, (f 4, (f 5, (f 6, (f 7, (f 8, (f 9, (f 10, (f 11, (f 12, (f 13, (f 14, (f 15, tt)))))))))))))))) g (nat_lt g 16)
