-- What a word that is put to a port, and a latch that is inverted, make of a pin.
use Rattle.std.proofs.Common.{◌≡◌, ◌≢◌, ℕ, ◌%◌, ◌==◌, Bool, true, false, not, refl}
use Rattle.std.specs.Prelude.{if◌then◌else◌}
use Rattle.mcal_base.specs.facts.Numbers.{eq_other, eq_self}
use Rattle.mcal_base.specs.Bits.{has_bit}
use Rattle.mcal_base.specs.declared.config.port.PortPinDirection.TheVariants.{In, Out}
use Rattle.module_machines.specs.port.Machine.{PinState, PortState, Put, Inverted, names_pin, pin_at, with_change, with_latch}

-- a pin that is out takes a latch, and one that is in doesn't
latched : (high : Bool) (x : PinState) → x.direction ≡ Out → with_latch high x ≡ record x { latch = high }
latched high x e = rw e refl

unlatched : (high : Bool) (x : PinState) → x.direction ≡ In → with_latch high x ≡ x
unlatched high x e = rw e refl

either : (b : Bool) (x y : PinState) → x ≡ y → (if b then x else y) ≡ y
either true x y e = e
either false x y e = refl

pub put_out : (s : PortState) (q word p : ℕ) → names_pin q word p ≡ true → (pin_at s p).direction ≡ Out → pin_at (with_change s (Put q word)) p ≡ record (pin_at s p) { latch = has_bit word (p % 8) }
put_out s q word p on out = rw on (latched (has_bit word (p % 8)) (pin_at s p) out)

pub put_in : (s : PortState) (q word p : ℕ) → (pin_at s p).direction ≡ In → pin_at (with_change s (Put q word)) p ≡ pin_at s p
put_in s q word p inward = either (names_pin q word p) (with_latch (has_bit word (p % 8)) (pin_at s p)) (pin_at s p) (unlatched (has_bit word (p % 8)) (pin_at s p) inward)

pub put_elsewhere : (s : PortState) (q word p : ℕ) → names_pin q word p ≡ false → pin_at (with_change s (Put q word)) p ≡ pin_at s p
put_elsewhere s q word p off = rw off refl

pub inverted_out : (s : PortState) (p : ℕ) → (pin_at s p).direction ≡ Out → pin_at (with_change s (Inverted p)) p ≡ record (pin_at s p) { latch = not (pin_at s p).latch }
inverted_out s p out = rw (eq_self p) (latched (not (pin_at s p).latch) (pin_at s p) out)

pub inverted_in : (s : PortState) (q p : ℕ) → (pin_at s p).direction ≡ In → pin_at (with_change s (Inverted q)) p ≡ pin_at s p
inverted_in s q p inward = either (q == p) (with_latch (not (pin_at s p).latch) (pin_at s p)) (pin_at s p) (unlatched (not (pin_at s p).latch) (pin_at s p) inward)

pub inverted_elsewhere : (s : PortState) (q p : ℕ) → q ≢ p → pin_at (with_change s (Inverted q)) p ≡ pin_at s p
inverted_elsewhere s q p ne = rw (eq_other q p ne) refl
