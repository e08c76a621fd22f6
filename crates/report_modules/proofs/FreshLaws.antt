-- The chip at power on, with room for the words that a script brings.
use Rattle.std.proofs.Common.{◌≡◌, ℕ, zero, suc, ◌<◌, ◌≤◌, Bool, true, false, length, refl, arith}
use Rattle.std.specs.Prelude.{nat_lt}
use Rattle.std.proofs.lemmas.Bool.{ltb-true, ltb-false}
use Rattle.std.proofs.lemmas.List.{get_or_past}
use Rattle.std.proofs.lemmas.List.FromFn.{length-map-range_with_len}
use Rattle.chip_model.specs.Chip.{incoming_at, power_on, source_length}
use Rattle.chip_model.specs.Wiring.{source_in, wiring_of}
use Rattle.chip_model.proofs.WiringLaws.{sources-within}
use Rattle.config_facts.specs.Valid.{IsValid}
use Rattle.mcal_base.specs.Layout.{WithinLimits}
use Rattle.mcal_base.specs.declared.config.whole.Config.{Config}
use Rattle.mcal_drivers.proofs.Limits.{within_limits}
use Rattle.report_audit.specs.Judged.{IsFresh}

module _ (config : Config) (given : ℕ) where
  has_room : (u : ℕ) → u < 2 → given ≤ (incoming_at (power_on config given) u).room
  has_room zero lt = omega arith
  has_room (suc zero) lt = omega arith
  has_room (suc (suc u)) lt = absurd (omega (arith, lt))

  -- sixteen channels have a source array, and no other has places
  none_behind : (channel : ℕ) → 16 ≤ channel → source_length (power_on config given) channel ≡ 0
  unfolding wiring_of
  none_behind channel far =
      let size : length (wiring_of config).sources ≡ 16 = length-map-range_with_len (source_in config.spi.channels) 0 16 in
      get_or_past (wiring_of config).sources channel 0 (omega (arith, far, size))

  few_places : WithinLimits config → (channel : ℕ) (there : Bool) → nat_lt channel 16 ≡ there → source_length (power_on config given) channel ≤ 64
  few_places limits channel true e = sources-within config limits channel (ltb-true channel 16 e)
  few_places limits channel false e =
      let far : 16 ≤ channel = let no = ltb-false channel 16 e in omega (arith, no) in
      let none = none_behind channel far in
      omega (arith, none)

  pub is_fresh : IsValid config → IsFresh (power_on config given) given
  is_fresh valid = record { osc = refl; time = refl; room = has_room; sources = λ channel. few_places (within_limits config valid) channel (nat_lt channel 16) refl }
