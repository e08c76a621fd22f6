-- A driver that was made of a configuration is as it has to be.
use Rattle.std.proofs.Common.{◌≡◌, ℕ, ◌<◌, Bool, true, false, nat_lt, ◌==◌, List, [], ◌∷◌, Option, Some, None, refl, sym, ap, arith}
use Rattle.std.specs.Prelude.{if◌then◌else◌}
use Rattle.std.proofs.lemmas.Bool.Decides.{nat_tests}
use Rattle.mcal_base.specs.declared.config.pwm.PwmChannel.{PwmChannel}
use Rattle.mcal_base.specs.declared.config.pwm.PwmConfig.{PwmConfig}
use Rattle.module_machines.specs.pwm.Table.{taken, channel_in, table_of, channel_of, FitsPwm}
use Rattle.module_machines.specs.declared.pwm.table.Channel.{Channel}
use Rattle.module_machines.specs.pwm.laws.Channels.{by_eight}

-- a channel that was found has the number that was sought
found_by : (x : PwmChannel) (o : Option Channel) (c : ℕ) (k : Channel) (q : Bool) → (o ≡ Some k → k.number ≡ c) → (if q then Some (taken x c) else o) ≡ Some k → k.number ≡ c
found_by x o c k true more e = let is : taken x c ≡ k = cc in sym (ap (λ y. y.number) is)
found_by x o c k false more e = more e

found : (xs : List PwmChannel) (c : ℕ) (k : Channel) → channel_in xs c ≡ Some k → k.number ≡ c
found [] c k e = absurd (cc)
found (x ∷ xs) c k e = found_by x (channel_in xs c) c k (x.id == c) (λ f. found xs c k f) e

-- what there is has one of the eight numbers
within : (c : ℕ) (o : Option Channel) (k : Channel) → (if nat_lt c 8 then o else None) ≡ Some k → c < 8
within c o k e = by (nat_lt c 8) refl e
  where
    by : (q : Bool) → nat_lt c 8 ≡ q → (if q then o else None) ≡ Some k → c < 8
    by true i f = grind (arith, nat_tests)
    by false i f = absurd (cc)

kept : (g : PwmConfig) (c : ℕ) (k : Channel) → channel_of (table_of g) c ≡ Some k → channel_in g.channels c ≡ Some k
kept g c k e = by_eight (λ i. channel_of (table_of g) i ≡ Some k → channel_in g.channels i ≡ Some k) (λ f. f) (λ f. f) (λ f. f) (λ f. f) (λ f. f) (λ f. f) (λ f. f) (λ f. f) c (within c _ k e) e

pub fits_of : (g : PwmConfig) → FitsPwm (table_of g)
fits_of g = record { number = λ c k e. found g.channels c k (kept g c k e) }
