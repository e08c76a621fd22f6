-- What the runner needs of the chip: when the mask is closed, which lines are enabled, and the word that comes in.
use Rattle.std.proofs.Common.{◌≡◌, ℕ, ◌≤◌, Bool, true, false, ◌&&◌, ◌||◌, ◌-◌, ◌^◌, refl, ◌∙◌, ap, subst, arith}
use Rattle.std.specs.Prelude.{MatchBool, bit_or}
use Rattle.mcal_base.specs.facts.Truths.{and_false}
use Rattle.chip_blocks.specs.units.Serials.{unit_at}
use Rattle.chip_model.specs.Chip.{Chip, names_device, has_device, next_word, after_read, after_write, chip_after, happened, CanHappen, flag_of, is_masked, is_pending}
use Rattle.chip_model.specs.Histories.{Made, Hardware, FillsThere}
use Rattle.chip_model.proofs.HistoryLaws.{mask-left, level_leaves}
use Rattle.irq_control.specs.Control.{Control}
use Rattle.mcal_base.specs.Bits.{has_bit, without}
use Rattle.mcal_base.proofs.BitLaws.{has_bit-or, has_bit-and}
use Rattle.mcal_base.specs.declared.directive.Order.{Order}
use Rattle.mcal_base.specs.declared.directive.Order.TheVariants.{Tick, Level, Analog, Detach, Fill}
use Rattle.mcal_base.specs.declared.moves.Move.{Move}
use Rattle.mcal_base.specs.declared.moves.Move.TheVariants.{Read, Write, Load, Store, Mask, Unmask, Note, Report}
use Rattle.mcal_base.specs.declared.register.Reg.{Reg}
use Rattle.mcal_base.specs.declared.register.Reg.TheVariants.{EnableSet, EnableClear, TimerLow, CaptureCountLow, CaptureTimeLow, ConverterAbort, SerialData, PinFlip}
use Rattle.run_model.specs.World.{World, world_after}
use Rattle.run_model.specs.Frame.{inside_after}
use Rattle.chip_model.specs.Devices.{ComesIn}
use Rattle.run_model.specs.Legal.{ReceivedRight}

-- ---- the mask

-- the mask after a move
pub mask-after : (c : Chip) (made : Move) (received : ℕ) → is_masked (chip_after c made received) ≡ inside_after (is_masked c) made
mask-after c Mask received = refl
mask-after c Unmask received = refl
mask-after c (Read r) received = mask-left c (Made (Read r) received) tt
mask-after c (Write r v) received = mask-left c (Made (Write r v) received) tt
mask-after c (Load k) received = refl
mask-after c (Store k v) received = refl
mask-after c (Note n) received = refl
mask-after c (Report e) received = refl

-- no hardware event opens or closes the mask
pub mask-happened : (c : Chip) (order : Order) → is_masked (happened c order) ≡ is_masked c
mask-happened c order = mask-left c (Hardware order) tt

-- ---- the lines that are enabled

-- a line that isn't enabled is never pending
pub disabled-pending : (c : Chip) (line : ℕ) → has_bit c.control.enabled line ≡ false → is_pending c line ≡ false
disabled-pending c line e = ap (λ b. flag_of c line && b) e ∙ and_false (flag_of c line)

control-read : (c : Chip) (r : Reg) → (after_read c r).control ≡ c.control
control-read c (TimerLow k) = refl
control-read c (CaptureCountLow k) = refl
control-read c (CaptureTimeLow k) = refl
control-read c (ConverterAbort u) = refl
control-read c (PinFlip p) = refl
control-read c _ = refl

bit-or : (a b line : ℕ) → has_bit a line ≡ false → has_bit b line ≡ false → has_bit (bit_or a b) line ≡ false
bit-or a b line e f = has_bit-or a b line ∙ (ap (λ x. x || has_bit b line) e ∙ f)

bit-without : (a b line : ℕ) → has_bit a line ≡ false → has_bit (without a b) line ≡ false
bit-without a b line e = has_bit-and a (2 ^ 32 - 1 - b) line ∙ ap (λ x. x && has_bit (2 ^ 32 - 1 - b) line) e

disabled-write : (c : Chip) (r : Reg) (v received line : ℕ) → (r ≡ EnableSet → has_bit v line ≡ false) → has_bit c.control.enabled line ≡ false → has_bit (after_write c r v received).control.enabled line ≡ false
disabled-write c EnableSet v received line none e = bit-or c.control.enabled v line e (none refl)
disabled-write c EnableClear v received line none e = bit-without c.control.enabled v line e
disabled-write c (SerialData u) v received line none e = e
disabled-write c _ v received line none e = e

-- a move that doesn't enable a line leaves it disabled
pub disabled-after : (c : Chip) (made : Move) (received line : ℕ) → ((bits : ℕ) → made ≡ Write EnableSet bits → has_bit bits line ≡ false) → has_bit c.control.enabled line ≡ false → has_bit (chip_after c made received).control.enabled line ≡ false
disabled-after c (Read r) received line none e = ap (λ (k : Control). has_bit k.enabled line) (control-read c r) ∙ e
disabled-after c (Write r v) received line none e = disabled-write c r v received line (λ is. none v (ap (λ x. Write x v) is)) e
disabled-after c (Load k) received line none e = e
disabled-after c (Store k v) received line none e = e
disabled-after c Mask received line none e = e
disabled-after c Unmask received line none e = e
disabled-after c (Note n) received line none e = e
disabled-after c (Report x) received line none e = e

-- no hardware event enables or disables a line
pub enabled-happened : (c : Chip) (order : Order) → (happened c order).control.enabled ≡ c.control.enabled
enabled-happened c (Level p v) = level_leaves (λ d. d.control.enabled) c p v refl
enabled-happened c _ = refl

-- ---- what is outside

comes-write : (c : Chip) (w : World) (r : Reg) (v received : ℕ) → c.devices ≡ w.devices → ComesIn c (Write r v) received → ReceivedRight c w (Write r v) received
comes-write c w (SerialData u) v received e k = subst (λ n. MatchBool (names_device (unit_at c.serials u).select n) (received ≤ 65536) (received ≡ next_word c u)) e k
comes-write c w _ v received e k = k

-- what comes in is right where the devices are the world's
pub received-right : (c : Chip) (w : World) (made : Move) (received : ℕ) → c.devices ≡ w.devices → ComesIn c made received → ReceivedRight c w made received
received-right c w (Write r v) received e k = comes-write c w r v received e k
received-right c w _ received e k = k

some-word : (device : Bool) (n : ℕ) → (received : ℕ) × MatchBool device (received ≤ 65536) (received ≡ n)
some-word true n = (0, omega arith)
some-word false n = (n, refl)

some-written : (c : Chip) (r : Reg) (v : ℕ) → (received : ℕ) × ComesIn c (Write r v) received
some-written c (SerialData u) v = some-word (has_device c u) (next_word c u)
some-written c _ v = (0, refl)

-- some word may come in with a move
pub some-comes : (c : Chip) (made : Move) → (received : ℕ) × ComesIn c made received
some-comes c (Write r v) = some-written c r v
some-comes c _ = (0, refl)

-- after a hardware event the devices of the chip are still the world's
pub devices-after : (c : Chip) (w : World) (rate : ℕ) (order : Order) → c.devices ≡ w.devices → (happened c order).devices ≡ (world_after w rate order).devices
devices-after c w rate (Tick n) e = e
devices-after c w rate (Level p v) e = level_leaves (λ d. d.devices) c p v refl ∙ e
devices-after c w rate (Analog i v) e = e
devices-after c w rate Detach e = ap (λ n. n - 1) e
devices-after c w rate _ e = e

-- a fill that may come is to a channel that there is
pub fills-there : (c : Chip) (order : Order) → CanHappen c order → FillsThere (Hardware order)
fills-there c (Fill channel ws) h = h.0
fills-there c _ h = tt
