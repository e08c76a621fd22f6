-- The modes that a pin may have, and what its level is in another mode than that of the pulse outputs.
use Rattle.std.proofs.Common.{◌≡◌, ◌≢◌, zero, suc, Bool, true, false, ◌||◌, List, [], ◌∷◌, Some, refl, sym, ◌∙◌, ap, arith}
use Rattle.std.specs.List.{Contains}
use Rattle.mcal_base.specs.facts.Truths.{or_true}
use Rattle.mcal_base.specs.declared.config.port.PortPinDirection.TheVariants.{Out}
use Rattle.mcal_base.specs.declared.config.port.PortPinMode.{PortPinMode}
use Rattle.mcal_base.specs.declared.config.port.PortPinMode.TheVariants.{Adc, Dio, Icu, Pwm, Spi}
use Rattle.module_machines.specs.port.Machine.{PinState, is_pulse, level_of}
use Rattle.module_machines.specs.port.Table.{is_same, lists, modes_of, is_among}

-- ---- modes

same : (x m : PortPinMode) → is_same x m ≡ true → x ≡ m
same Adc Adc e = refl
same Adc Dio e = absurd (cc e)
same Adc Icu e = absurd (cc e)
same Adc Pwm e = absurd (cc e)
same Adc Spi e = absurd (cc e)
same Dio Adc e = absurd (cc e)
same Dio Dio e = refl
same Dio Icu e = absurd (cc e)
same Dio Pwm e = absurd (cc e)
same Dio Spi e = absurd (cc e)
same Icu Adc e = absurd (cc e)
same Icu Dio e = absurd (cc e)
same Icu Icu e = refl
same Icu Pwm e = absurd (cc e)
same Icu Spi e = absurd (cc e)
same Pwm Adc e = absurd (cc e)
same Pwm Dio e = absurd (cc e)
same Pwm Icu e = absurd (cc e)
same Pwm Pwm e = refl
same Pwm Spi e = absurd (cc e)
same Spi Adc e = absurd (cc e)
same Spi Dio e = absurd (cc e)
same Spi Icu e = absurd (cc e)
same Spi Pwm e = absurd (cc e)
same Spi Spi e = refl

itself : (m : PortPinMode) → is_same m m ≡ true
itself Adc = refl
itself Dio = refl
itself Icu = refl
itself Pwm = refl
itself Spi = refl

shifted : (x m : PortPinMode) (xs : List PortPinMode) → Contains xs m → Contains (x ∷ xs) m
shifted x m xs (k, lt, e) = (suc k, omega (arith, lt), e)

found_by : (x m : PortPinMode) (xs : List PortPinMode) (q : Bool) → is_same x m ≡ q → (q || lists xs m) ≡ true → (lists xs m ≡ true → Contains xs m) → Contains (x ∷ xs) m
found_by x m xs true at e more = (0, omega arith, same x m at)
found_by x m xs false at e more = shifted x m xs (more e)

found : (xs : List PortPinMode) (m : PortPinMode) → lists xs m ≡ true → Contains xs m
found [] m e = absurd (cc e)
found (x ∷ xs) m e = found_by x m xs (is_same x m) refl e (found xs m)

listed : (xs : List PortPinMode) (m : PortPinMode) → Contains xs m → lists xs m ≡ true
listed [] m (k, lt, e) = absurd (omega (arith, lt))
listed (x ∷ xs) m (zero, lt, e) = ap (λ y. is_same y m || lists xs m) e ∙ ap (λ q. q || lists xs m) (itself m)
listed (x ∷ xs) m (suc k, lt, e) = ap (λ q. is_same x m || q) (listed xs m (k, omega (arith, lt), e)) ∙ or_true (is_same x m)

among : (xs : List PortPinMode) (m : PortPinMode) → is_among (modes_of xs) m ≡ lists xs m
among xs Adc = refl
among xs Dio = refl
among xs Icu = refl
among xs Pwm = refl
among xs Spi = refl

pub found_among : (xs : List PortPinMode) (m : PortPinMode) → is_among (modes_of xs) m ≡ true → Contains xs m
found_among xs m e = found xs m (sym (among xs m) ∙ e)

pub listed_among : (xs : List PortPinMode) (m : PortPinMode) → Contains xs m → is_among (modes_of xs) m ≡ true
listed_among xs m c = among xs m ∙ listed xs m c

-- ---- levels

no_pulse : (m : PortPinMode) → m ≢ Pwm → is_pulse m ≡ false
no_pulse Adc ne = refl
no_pulse Dio ne = refl
no_pulse Icu ne = refl
no_pulse Pwm ne = absurd (ne refl)
no_pulse Spi ne = refl

pub latched : (x : PinState) (outside output : Bool) → x.direction ≡ Out → x.mode ≢ Pwm → level_of x outside (Some output) ≡ x.latch
latched x outside output out ne = rw (out, no_pulse x.mode ne) refl
