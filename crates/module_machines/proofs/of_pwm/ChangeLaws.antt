-- The kinds of changes.
use Rattle.std.proofs.Common.{◌≡◌, ◌≢◌, Bool, true, false, refl}
use Rattle.module_machines.specs.pwm.Output.{turns}
use Rattle.module_machines.specs.declared.pwm.call.PwmEdge.TheVariants.{Rising, Falling, Both}

pub rises : (before after : Bool) → turns Rising before after ≡ true → (before ≡ false) × (after ≡ true)
rises false true e = (refl, refl)
rises false false e = absurd (cc e)
rises true after e = absurd (cc e)

pub does_rise : (before after : Bool) → (before ≡ false) × (after ≡ true) → turns Rising before after ≡ true
does_rise false true e = refl
does_rise false false e = absurd (cc e.1)
does_rise true after e = absurd (cc e.0)

pub falls : (before after : Bool) → turns Falling before after ≡ true → (before ≡ true) × (after ≡ false)
falls true false e = (refl, refl)
falls true true e = absurd (cc e)
falls false after e = absurd (cc e)

pub does_fall : (before after : Bool) → (before ≡ true) × (after ≡ false) → turns Falling before after ≡ true
does_fall true false e = refl
does_fall true true e = absurd (cc e.1)
does_fall false after e = absurd (cc e.0)

pub differs : (before after : Bool) → turns Both before after ≡ true → before ≢ after
differs true false e = λ same. absurd (cc same)
differs false true e = λ same. absurd (cc same)
differs true true e = absurd (cc e)
differs false false e = absurd (cc e)

pub does_differ : (before after : Bool) → before ≢ after → turns Both before after ≡ true
does_differ true false ne = refl
does_differ false true ne = refl
does_differ true true ne = absurd (ne refl)
does_differ false false ne = absurd (ne refl)
