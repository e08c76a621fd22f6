-- A driver that was made of a sound configuration is as it has to be.
use Rattle.std.proofs.Common.{◌≡◌, ℕ, suc, ◌+◌, ◌<◌, Bool, true, false, ◌==◌, nat_lt, List, [], ◌∷◌, Option, Some, None, refl, sym, ◌∙◌, subst, arith}
use Rattle.std.specs.Prelude.{All, if◌then◌else◌, slice_index_or}
use Rattle.std.proofs.lemmas.Bool.Decides.{nat_tests}
use Rattle.std.proofs.lemmas.List.FromFn.{get_or-map-range_with_len}
use Rattle.mcal_base.specs.declared.config.port.PortPin.{PortPin}
use Rattle.mcal_base.specs.declared.config.port.PortPinMode.{PortPinMode}
use Rattle.mcal_base.specs.declared.config.port.PortPinMode.TheVariants.{Adc, Dio, Icu, Pwm, Spi}
use Rattle.mcal_base.specs.declared.config.port.PortConfig.{PortConfig}
use Rattle.module_machines.specs.port.Table.{lists, modes_of, taken, pin_in, pins_by_number, table_of, pin_of, is_among, FitsPort}
use Rattle.module_machines.specs.declared.port.table.Pin.{Pin}

-- the pin's initial mode is one of its modes
abbrev pub IsSoundPin : PortPin → Type 0
IsSoundPin x = lists x.modes x.initial_mode ≡ true

-- the modes that the driver keeps are those that are listed
among : (ms : List PortPinMode) (m : PortPinMode) → is_among (modes_of ms) m ≡ lists ms m
among ms Adc = refl
among ms Dio = refl
among ms Icu = refl
among ms Pwm = refl
among ms Spi = refl

found_by : (x : PortPin) (o : Option Pin) (k : Pin) (q : Bool) → IsSoundPin x → (o ≡ Some k → is_among k.modes k.initial_mode ≡ true) → (if q then Some (taken x) else o) ≡ Some k → is_among k.modes k.initial_mode ≡ true
found_by x o k true sound more e =
    let at : taken x ≡ k = cc in
    subst (λ (y : Pin). is_among y.modes y.initial_mode ≡ true) at (among x.modes x.initial_mode ∙ sound)
found_by x o k false sound more e = more e

found : (xs : List PortPin) (p : ℕ) (k : Pin) → All IsSoundPin xs → pin_in xs p ≡ Some k → is_among k.modes k.initial_mode ≡ true
found [] p k sound e = absurd (cc)
found (x ∷ xs) p k sound e = found_by x (pin_in xs p) k (x.id == p) (sound 0 x (omega arith)) (λ f. found xs p k (λ i y lt. sound (suc i) y (omega arith)) f) e

-- a pin of the driver is the first of its number
numbered : (g : PortConfig) (p : ℕ) (k : Pin) → pin_of (table_of g) p ≡ Some k → pin_in g.pins p ≡ Some k
numbered g p k e = by (nat_lt p 64) refl e
  where
    by : (q : Bool) → nat_lt p 64 ≡ q → (if q then slice_index_or (pins_by_number g.pins) p None else None) ≡ Some k → pin_in g.pins p ≡ Some k
    by true i f = let lt : p < 64 = grind (arith, nat_tests) in sym (get_or-map-range_with_len (λ n. pin_in g.pins n) 0 64 p p None lt (omega arith)) ∙ f
    by false i f = absurd (cc)

-- the driver of a configuration with sound pins
pub fits_of : (g : PortConfig) → All IsSoundPin g.pins → FitsPort (table_of g)
fits_of g sound = record { initial = λ p k e. found g.pins p k sound (numbered g p k e) }
