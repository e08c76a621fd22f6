-- A driver that was made of a sound configuration is as it has to be.
use Rattle.std.proofs.Common.{◌≡◌, ℕ, zero, suc, ◌<◌, Bool, true, false, ◌==◌, List, [], ◌∷◌, Some, None, subst, arith}
use Rattle.std.specs.Prelude.{All, if◌then◌else◌, slice_index_or}
use Rattle.mcal_base.specs.declared.config.dio.DioChannelGroup.{DioChannelGroup}
use Rattle.mcal_base.specs.declared.config.dio.DioConfig.{DioConfig}
use Rattle.mcal_base.specs.declared.config.port.PortConfig.{PortConfig}
use Rattle.module_machines.specs.dio.Table.{taken, group_in, table_of, FitsDio}
use Rattle.module_machines.specs.declared.dio.table.PortPins.{PortPins}

-- the group's port is one of the chip's
abbrev pub IsSoundGroup : DioChannelGroup → Type 0
IsSoundGroup x = x.port < 8

found : (xs : List DioChannelGroup) (n : ℕ) (pins : PortPins) → All IsSoundGroup xs → group_in xs n ≡ Some pins → pins.port < 8
found [] n pins sound e = absurd (cc)
found (x ∷ xs) n pins sound e = by (x.id == n) (found xs n pins (λ i y lt. sound (suc i) y (omega (arith, lt)))) e
  where
    by : (q : Bool) → (group_in xs n ≡ Some pins → pins.port < 8) → (if q then Some (taken x) else group_in xs n) ≡ Some pins → pins.port < 8
    by true more f =
        let at : taken x ≡ pins = cc in
        let few = sound 0 x (omega arith) in
        subst (λ (y : PortPins). y.port < 8) at (omega (arith, few))
    by false more f = more f

-- one of eight is one of the list
at_place : (p : PortConfig) (g : DioConfig) (n : ℕ) (pins : PortPins) → All IsSoundGroup g.groups → n < 8 → slice_index_or (table_of p g).groups n None ≡ Some pins → pins.port < 8
at_place p g zero pins sound lt e = found g.groups 0 pins sound e
at_place p g (suc zero) pins sound lt e = found g.groups 1 pins sound e
at_place p g (suc (suc zero)) pins sound lt e = found g.groups 2 pins sound e
at_place p g (suc (suc (suc zero))) pins sound lt e = found g.groups 3 pins sound e
at_place p g (suc (suc (suc (suc zero)))) pins sound lt e = found g.groups 4 pins sound e
at_place p g (suc (suc (suc (suc (suc zero))))) pins sound lt e = found g.groups 5 pins sound e
at_place p g (suc (suc (suc (suc (suc (suc zero)))))) pins sound lt e = found g.groups 6 pins sound e
at_place p g (suc (suc (suc (suc (suc (suc (suc zero))))))) pins sound lt e = found g.groups 7 pins sound e
at_place p g (suc (suc (suc (suc (suc (suc (suc (suc n)))))))) pins sound lt e = absurd (omega (arith, lt))

-- the driver of a configuration whose groups are sound
pub fits_of : (p : PortConfig) (g : DioConfig) → All IsSoundGroup g.groups → FitsDio (table_of p g)
fits_of p g sound = record { port = λ n pins lt e. at_place p g n pins sound lt e }
