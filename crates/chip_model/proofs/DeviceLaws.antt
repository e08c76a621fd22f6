-- The words that wait after a word began, the word that a device is given, and the devices that there are.
use Rattle.std.proofs.Common.{◌≡◌, ◌≢◌, ℕ, ◌+◌, zero, suc, ◌<◌, ◌≤◌, ◌⊎◌, inl, inr, ap, ◌∙◌, [], ◌∷◌, ◌^◌, Bool, true, false, List, length, cond, refl, arith, length-set}
use Rattle.std.specs.Prelude.{◌-◌, min, slice_index_or, slice_set}
use Rattle.std.proofs.lemmas.Nat.{mod_below, pow_below, pow_pos}
use Rattle.chip_blocks.specs.units.Serials.{masked}
use Rattle.chip_model.specs.Waiting.{Waiting}
use Rattle.mcal_base.specs.declared.directive.Order.{Order}
use Rattle.mcal_base.specs.declared.directive.Order.TheVariants.{Level, Detach}
use Rattle.mcal_base.specs.declared.moves.Move.{Move}
use Rattle.mcal_base.specs.declared.moves.Move.TheVariants.{Read, Write, Load, Store, Mask, Unmask, Note, Report}
use Rattle.mcal_base.specs.declared.register.Reg.{Reg}
use Rattle.mcal_base.specs.declared.register.Reg.TheVariants.{EnableSet, EnableClear, TimerRun, TimerFlags, TimerLow, TimerHigh, PulseOut, PulseFlags, CaptureCountLow, CaptureCountHigh, CaptureTimeLow, CaptureTimeHigh, CaptureInfo, ConverterState, ConverterResult, ConverterDone, ConverterAbort, TriggerFlags, SerialData, SerialReceived, SerialState, PortLevels, PinFlip, ClockLock, ResetReason, Ram}
use Rattle.serial_devices.specs.Lines.{Line}
use Rattle.chip_model.specs.Devices.{ComesIn, CallsRight}
use Rattle.chip_model.specs.Chip.{Chip, hung, register_of, value_of, has_device, waiting_after, after_read, after_write, chip_after, happened}
use Rattle.chip_model.specs.Histories.{Happening, Made, Hardware, WasReset, chip_step, chip_after_all, detaches_by, detaches_in}
use Rattle.chip_model.proofs.HistoryLaws.{level_leaves}

less_or_same : (k : ℕ) → k ≤ 16 → (k < 16) ⊎ (k ≡ 16)
less_or_same k most = grind arith

length-kept : (device : Bool) (xs : List Waiting) (u : ℕ) (w : Waiting) → length (cond device xs (slice_set xs u w)) ≡ length xs
length-kept true xs u w = refl
length-kept false xs u w = length-set xs u w

-- a word that begins leaves as many units
pub length-waiting : (c : Chip) (u : ℕ) → length (waiting_after c u) ≡ length c.incoming
length-waiting c u = length-kept (has_device c u) c.incoming u _

power-fits : (k : ℕ) → k ≤ 16 → 2 ^ k ≤ 65536
power-fits k most = elim (less_or_same k most) [
  | inl less ↦ let below = pow_below k 16 less in omega (arith, below)
  | inr same ↦ omega (arith, ap (λ n. 2 ^ n) same)
]

-- what stands at a place of a list is the same by whatever else it would be
same_there : (xs : List Waiting) (k : ℕ) (a b : Waiting) → k < length xs → slice_index_or xs k a ≡ slice_index_or xs k b
same_there [] k a b lt = absurd (omega arith)
same_there (x ∷ xs) zero a b lt = refl
same_there (x ∷ xs) (suc k) a b lt = same_there xs k a b (omega arith)

-- the next word of one of the two units
pub next_in : (xs : List Waiting) (u : ℕ) (other : Waiting) (n : ℕ) → length xs ≡ 2 → u < 2 → n ≡ slice_index_or (slice_index_or xs u other).waiting 0 65535 → n ≡ slice_index_or (slice_index_or xs u (record { waiting = []; room = 0 })).waiting 0 65535
next_in xs u other n two lt e = e ∙ ap (λ (w : Waiting). slice_index_or w.waiting 0 65535) (same_there xs u other (record { waiting = []; room = 0 }) (omega (arith, two, lt)))

-- a write that begins no word: none comes in, and no device is called
pub silent_comes : (c : Chip) (r : Reg) (v : ℕ) → ((u : ℕ) → r ≡ SerialData u → ⊥) → ComesIn c (Write r v) 0
silent_comes c (SerialData u) v other = absurd (other u refl)
silent_comes c _ v other = refl

pub silent_calls : (c : Chip) (r : Reg) (v : ℕ) (lines : List Line) → ((u : ℕ) → r ≡ SerialData u → ⊥) → CallsRight c (Write r v) 0 lines lines
silent_calls c (SerialData u) v lines other = absurd (other u refl)
silent_calls c _ v lines other = refl

-- a masked word has at most 16 bits
pub masked-fits : (width word : ℕ) → masked width word < 2 ^ 16
masked-fits width word =
    let rest = mod_below word (2 ^ min width 16) (pow_pos (min width 16)) in
    omega (arith, rest, power-fits (min width 16) (omega arith))

devices-read : (c : Chip) (r : Reg) → (after_read c r).devices ≡ c.devices
devices-read c (TimerLow k) = refl
devices-read c (CaptureCountLow k) = refl
devices-read c (CaptureTimeLow k) = refl
devices-read c (ConverterAbort u) = refl
devices-read c (PinFlip p) = refl
devices-read c _ = refl

devices-write : (c : Chip) (r : Reg) (v received : ℕ) → (after_write c r v received).devices ≡ c.devices
devices-write c EnableSet v received = refl
devices-write c EnableClear v received = refl
devices-write c (SerialData u) v received = refl
devices-write c _ v received = refl

-- no device comes or goes by a move
pub devices-move : (c : Chip) (made : Move) (received : ℕ) → (chip_after c made received).devices ≡ c.devices
devices-move c (Read r) received = devices-read c r
devices-move c (Write r v) received = devices-write c r v received
devices-move c (Load k) received = refl
devices-move c (Store k v) received = refl
devices-move c Mask received = refl
devices-move c Unmask received = refl
devices-move c (Note n) received = refl
devices-move c (Report x) received = refl

-- how many devices there are after a hardware event: one fewer, where there is one, after a detach
abbrev pub devices_after : Order → (devices : ℕ) → ℕ
devices_after Detach n = n - 1
devices_after _ n = n

pub devices-happened : (c : Chip) (order : Order) → (happened c order).devices ≡ devices_after order c.devices
devices-happened c (Level p v) = level_leaves (λ d. d.devices) c p v refl
devices-happened c _ = refl

-- no device comes or goes by any other hardware event
pub devices-kept : (c : Chip) (order : Order) → order ≢ Detach → (happened c order).devices ≡ c.devices
devices-kept c (Level p v) other = devices-happened c (Level p v)
devices-kept c Detach other = absurd (other refl)
devices-kept c _ other = refl

-- taking off none, and in two parts
fewer_none : (n m : ℕ) → m ≡ n → m ≡ n - 0
fewer_none n m e = omega (arith, e)

fewer_twice : (n m a b : ℕ) → m ≡ n - a → m - b ≡ n - (a + b)
fewer_twice n m a b e = omega (arith, e)

-- how many devices one happening leaves, and a history
devices-event : (c : Chip) (order : Order) → (happened c order).devices ≡ c.devices - detaches_by (Hardware order)
devices-event c Detach = refl
devices-event c (Level p v) = fewer_none c.devices _ (devices-happened c (Level p v))
devices-event c _ = fewer_none c.devices _ refl

devices-step : (c : Chip) (x : Happening) → (chip_step c x).devices ≡ c.devices - detaches_by x
devices-step c (Made made received) = fewer_none c.devices _ (devices-move c made received)
devices-step c (Hardware order) = devices-event c order
devices-step c (WasReset reason) = fewer_none c.devices _ refl

pub devices-left : (c : Chip) (xs : List Happening) → (chip_after_all c xs).devices ≡ c.devices - detaches_in xs
devices-left c [] = fewer_none c.devices _ refl
devices-left c (x ∷ xs) = devices-left (chip_step c x) xs ∙ fewer_twice c.devices (chip_step c x).devices (detaches_by x) (detaches_in xs) (devices-step c x)

-- what a move gives is the same by any number of devices
register-hung : (n : ℕ) (c : Chip) (r : Reg) → register_of (hung n c) r ≡ register_of c r
register-hung n c TimerRun = refl
register-hung n c TimerFlags = refl
register-hung n c (TimerLow k) = refl
register-hung n c (TimerHigh k) = refl
register-hung n c (PulseOut k) = refl
register-hung n c PulseFlags = refl
register-hung n c (CaptureCountLow k) = refl
register-hung n c (CaptureCountHigh k) = refl
register-hung n c (CaptureTimeLow k) = refl
register-hung n c (CaptureTimeHigh k) = refl
register-hung n c (CaptureInfo k) = refl
register-hung n c (ConverterState u) = refl
register-hung n c (ConverterResult u i) = refl
register-hung n c (ConverterDone u) = refl
register-hung n c (ConverterAbort u) = refl
register-hung n c (SerialReceived u) = refl
register-hung n c (SerialState u) = refl
register-hung n c (PortLevels q) = refl
register-hung n c (PinFlip p) = refl
register-hung n c TriggerFlags = refl
register-hung n c ClockLock = refl
register-hung n c ResetReason = refl
register-hung n c (Ram k) = refl
register-hung n c _ = refl

pub value-hung : (n : ℕ) (c : Chip) (made : Move) → value_of (hung n c) made ≡ value_of c made
value-hung n c (Read r) = register-hung n c r
value-hung n c _ = refl
