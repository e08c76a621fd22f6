-- The watchdog's time over moves, hardware events and resets.
use Rattle.std.proofs.Common.{◌≡◌, ℕ, ◌+◌, ◌-◌, ◌<◌, ◌==◌, Bool, true, false, Option, Some, None, refl, sym, ◌∙◌, ap, subst, arith}
use Rattle.std.specs.Prelude.{option_map, if◌then◌else◌}
use Rattle.std.proofs.lemmas.Bool.Decides.{nat_tests}
use Rattle.chip_blocks.specs.units.Clock.{Clock, after_write as clock_after}
use Rattle.chip_blocks.specs.units.Watchdogs.{expiry, left_of, loaded, after_write as watch_after}
use Rattle.chip_blocks.specs.declared.units.watchdog.Watch.{Watch}
use Rattle.chip_blocks.specs.declared.units.watchdog.WatchdogBlock.{WatchdogBlock}
use Rattle.chip_model.specs.Chip.{Chip, after_read, after_write, chip_after, expiry_of, happened}
use Rattle.chip_model.proofs.HistoryLaws.{level_leaves}
use Rattle.mcal_base.specs.declared.directive.Order.{Order}
use Rattle.mcal_base.specs.declared.directive.Order.TheVariants.{Tick, Level}
use Rattle.mcal_base.specs.declared.moves.Move.{Move}
use Rattle.mcal_base.specs.declared.moves.Move.TheVariants.{Read, Write, Load, Store, Mask, Unmask, Note, Report}
use Rattle.mcal_base.specs.declared.register.Reg.{Reg}
use Rattle.mcal_base.specs.declared.register.Reg.TheVariants.{EnableSet, EnableClear, TimerLow, CaptureCountLow, CaptureTimeLow, ConverterAbort, SerialData, PinFlip, ClockPll, ClockRate, WatchdogLoad}
use Rattle.step_runner.specs.Driver.{NotOver, EndsBefore}

-- ---- moves

read-leaves : (c : Chip) (r : Reg) → expiry_of (after_read c r) ≡ expiry_of c
read-leaves c (TimerLow k) = refl
read-leaves c (CaptureCountLow k) = refl
read-leaves c (CaptureTimeLow k) = refl
read-leaves c (ConverterAbort u) = refl
read-leaves c (PinFlip p) = refl
read-leaves c _ = refl

either-time : (q : Bool) (x y : Clock) (t : ℕ) → x.osc ≡ t → y.osc ≡ t → (if q then x else y).osc ≡ t
either-time true x y t hx hy = hx
either-time false x y t hx hy = hy

-- a time that is loaded isn't over
loaded-on : (osc value : ℕ) (q : Bool) → (value == 0) ≡ q → NotOver (option_map (left_of osc) (loaded osc value))
loaded-on osc value true e = rw e tt
loaded-on osc value false e = rw e (grind (arith, nat_tests))

-- no write changes the time, and no other write the watchdog
time-leaves : (k : Clock) (r : Reg) (value : ℕ) → (clock_after k r value).osc ≡ k.osc
time-leaves k ClockPll value = either-time (value == 0) k (record k { pll = Some (record { multiplier = value; started = k.osc }); rate = 1 }) k.osc refl refl
time-leaves k ClockRate value = refl
time-leaves k _ value = refl

watch-leaves : (b : WatchdogBlock) (osc : ℕ) (r : Reg) (value : ℕ) → (r ≡ WatchdogLoad → ⊥) → watch_after b osc r value ≡ b
watch-leaves b osc WatchdogLoad value other = absurd (other refl)
watch-leaves b osc _ value other = refl

write-leaves : (c : Chip) (r : Reg) (value received : ℕ) → (r ≡ WatchdogLoad → ⊥) → expiry_of (after_write c r value received) ≡ expiry_of c
write-leaves c EnableSet value received other = refl
write-leaves c EnableClear value received other = refl
write-leaves c (SerialData u) value received other = refl
write-leaves c r value received other = ap (λ b. expiry b (clock_after c.clock r value).osc) (watch-leaves c.watchdog c.clock.osc r value other) ∙ ap (λ t. expiry c.watchdog t) (time-leaves c.clock r value)

over-write : (c : Chip) (r : Reg) (value received : ℕ) → NotOver (expiry_of c) → NotOver (expiry_of (after_write c r value received))
over-write c WatchdogLoad value received alive = loaded-on c.clock.osc value (value == 0) refl
over-write c r value received alive = subst NotOver (sym (write-leaves c r value received (λ is. cc))) alive

-- a move leaves it running
pub over-move : (c : Chip) (made : Move) (received : ℕ) → NotOver (expiry_of c) → NotOver (expiry_of (chip_after c made received))
over-move c (Read r) received alive = subst NotOver (sym (read-leaves c r)) alive
over-move c (Write r value) received alive = over-write c r value received alive
over-move c (Load k) received alive = alive
over-move c (Store k value) received alive = alive
over-move c Mask received alive = alive
over-move c Unmask received alive = alive
over-move c (Note notice) received alive = alive
over-move c (Report fault) received alive = alive

-- a move that loads none leaves it
pub move-leaves : (c : Chip) (made : Move) (received : ℕ) → ((value : ℕ) → made ≡ Write WatchdogLoad value → ⊥) → expiry_of (chip_after c made received) ≡ expiry_of c
move-leaves c (Read r) received other = read-leaves c r
move-leaves c (Write r value) received other = write-leaves c r value received (λ is. other value (ap (λ x. Write x value) is))
move-leaves c (Load k) received other = refl
move-leaves c (Store k value) received other = refl
move-leaves c Mask received other = refl
move-leaves c Unmask received other = refl
move-leaves c (Note notice) received other = refl
move-leaves c (Report fault) received other = refl

pub none-move : (c : Chip) (made : Move) (received : ℕ) → ((value : ℕ) → made ≡ Write WatchdogLoad value → ⊥) → expiry_of c ≡ None → expiry_of (chip_after c made received) ≡ None
none-move c made received other none = move-leaves c made received other ∙ none

-- ---- hardware

ticks-left : (n left started osc : ℕ) → n < left - (osc - started) → 0 < left - ((osc + n) - started)
ticks-left n left started osc h = omega (arith, h)

ticked-on : (c : Chip) (n : ℕ) (watch : Option Watch) → EndsBefore (Tick n) (option_map (left_of c.clock.osc) watch) → NotOver (option_map (left_of (c.clock.osc + n)) watch)
ticked-on c n None h = tt
ticked-on c n (Some w) h = ticks-left n w.ticks w.started c.clock.osc h

-- a hardware event that is no ticks leaves it as it is, and ticks that end before it leave it running
pub over-happened : (c : Chip) (order : Order) → EndsBefore order (expiry_of c) → NotOver (expiry_of c) → NotOver (expiry_of (happened c order))
over-happened c (Tick n) early alive = ticked-on c n c.watchdog.watch early
over-happened c (Level p v) early alive = subst NotOver (sym (level_leaves expiry_of c p v refl)) alive
over-happened c _ early alive = alive

ticked-none : (c : Chip) (n : ℕ) (watch : Option Watch) → option_map (left_of c.clock.osc) watch ≡ None → option_map (left_of (c.clock.osc + n)) watch ≡ None
ticked-none c n None none = refl
ticked-none c n (Some w) none = cc

pub none-happened : (c : Chip) (order : Order) → expiry_of c ≡ None → expiry_of (happened c order) ≡ None
none-happened c (Tick n) none = ticked-none c n c.watchdog.watch none
none-happened c (Level p v) none = level_leaves expiry_of c p v refl ∙ none
none-happened c _ none = none
