-- How many words are in transfer, over moves, hardware events and resets. A word in transfer comes from a step that begins one,
-- and a wait ends one.
use Rattle.std.proofs.Common.{◌≡◌, ℕ, zero, suc, ◌+◌, ◌-◌, ◌*◌, ◌<◌, ◌≤◌, Bool, true, false, cond, not, List, [], ◌∷◌, Option, Some, None, refl, ◌∙◌, ap, arith}
use Rattle.std.specs.Prelude.{max, nat_le, if◌then◌else◌, slice_index_or, slice_set, ◌/◌}
use Rattle.std.proofs.Math.Nat.{div-eq_of_lt, lt-div-mul-add}
use Rattle.std.proofs.lemmas.Bool.Decides.{nat_tests}
use Rattle.chip_blocks.specs.units.Serials as serials
use Rattle.chip_blocks.specs.units.Serials.{Serials, is_busy, is_done, in_transfer, left_at, failing, faulted, acknowledged, begun, unit_at, idle}
use Rattle.chip_blocks.specs.declared.units.serial.Serial.{Serial}
use Rattle.chip_blocks.specs.declared.units.serial.Word.{Word}
use Rattle.chip_model.specs.Chip.{Chip, after_read, after_write, chip_after, happened, ticked, reset_chip, ticks_for, wait_on}
use Rattle.chip_model.proofs.HistoryLaws.{level_leaves}
use Rattle.mcal_base.specs.declared.directive.Order.{Order}
use Rattle.mcal_base.specs.declared.directive.Order.TheVariants as orders
use Rattle.mcal_base.specs.declared.directive.Reason.{Reason}
use Rattle.mcal_base.specs.declared.moves.Move.{Move}
use Rattle.mcal_base.specs.declared.moves.Move.TheVariants.{Read, Write, Load, Store, Mask, Unmask, Note, Report}
use Rattle.mcal_base.specs.declared.register.Reg.{Reg}
use Rattle.mcal_base.specs.declared.register.Reg.TheVariants.{EnableSet, EnableClear, SerialData, SerialSelect, SerialWidth, SerialAck, TimerLow, CaptureCountLow, CaptureTimeLow, ConverterAbort, PinFlip}
use Rattle.script_runner.specs.Busy.{busy_at, busies_of, busies}

-- ---- one unit

one-at-most : (q : Bool) → cond q 1 0 ≤ 1
one-at-most true = omega arith
one-at-most false = omega arith

few : (now : ℕ) (s : Serial) → busy_at now s ≤ 1
few now s = one-at-most (is_busy s now)

by-test : (p q : Bool) → (p ≡ true → q ≡ true) → cond p 1 0 ≤ cond q 1 0
by-test true q h = let e = h refl in rw e (omega arith)
by-test false q h = omega arith

-- later no other is in transfer
later-done : (start now n : ℕ) → not (nat_le 8 ((now + n) - start)) ≡ true → not (nat_le 8 (now - start)) ≡ true
later-done start now n h = grind (arith, nat_tests)

later-word : (w : Option Word) (now n : ℕ) → in_transfer w (now + n) ≡ true → in_transfer w now ≡ true
later-word None now n h = h
later-word (Some w) now n h = later-done w.start now n h

later : (s : Serial) (now n : ℕ) → busy_at (now + n) s ≤ busy_at now s
later s now n = by-test (is_busy s (now + n)) (is_busy s now) (later-word s.word now n)

-- ---- both units

module _ (now : ℕ) where
  -- whatever a unit becomes, one more is in transfer at most
  set-more : (xs : List Serial) (k : ℕ) (s : Serial) → busies_of now (slice_set xs k s) ≤ busies_of now xs + 1
  set-more [] k s = omega arith
  set-more (x ∷ xs) zero s = let a = few now s in omega (arith, a)
  set-more (x ∷ []) (suc k) s = omega arith
  set-more (x ∷ y ∷ ys) (suc zero) s = let a = few now s in omega (arith, a)
  set-more (x ∷ y ∷ ys) (suc (suc k)) s = omega arith

  -- and none more where it has one only where it had one
  set-same : (xs : List Serial) (k : ℕ) (s : Serial) → busy_at now s ≤ busy_at now (slice_index_or xs k idle) → busies_of now (slice_set xs k s) ≤ busies_of now xs
  set-same [] k s h = omega arith
  set-same (x ∷ xs) zero s h = omega (arith, h)
  set-same (x ∷ []) (suc k) s h = omega arith
  set-same (x ∷ y ∷ ys) (suc zero) s h = omega (arith, h)
  set-same (x ∷ y ∷ ys) (suc (suc k)) s h = omega arith

both-later : (xs : List Serial) (now n : ℕ) → busies_of (now + n) xs ≤ busies_of now xs
both-later xs now n = let a = later (slice_index_or xs 0 idle) now n in let b = later (slice_index_or xs 1 idle) now n in omega (arith, a, b)

-- one fewer where a unit's word is over then
both-over : (xs : List Serial) (now n u : ℕ) → u < 2 → is_busy (slice_index_or xs u idle) now ≡ true → is_busy (slice_index_or xs u idle) (now + n) ≡ false → busies_of (now + n) xs + 1 ≤ busies_of now xs
both-over xs now n zero lt was is = let b = later (slice_index_or xs 1 idle) now n in rw (was, is) (omega (arith, b))
both-over xs now n (suc zero) lt was is = let a = later (slice_index_or xs 0 idle) now n in rw (was, is) (omega (arith, a))
both-over xs now n (suc (suc u)) lt was is = absurd (omega (arith, lt))

-- ---- the block

acked-by : (q : Bool) (now : ℕ) (s done : Serial) → busy_at now done ≤ busy_at now s → busy_at now (if q then done else s) ≤ busy_at now s
acked-by true now s done h = h
acked-by false now s done h = omega arith

acked : (now : ℕ) (s : Serial) → busy_at now (acknowledged now s) ≤ busy_at now s
acked now s = acked-by (is_done s now) now s (record s { received = serials.received s now; word = None }) (omega arith)

failing-same : (w : Option Word) (now : ℕ) → in_transfer (failing w) now ≡ in_transfer w now
failing-same None now = refl
failing-same (Some w) now = refl

faulted-same : (now : ℕ) (s : Serial) → busy_at now (faulted now s) ≤ busy_at now s
faulted-same now s = acked-by (is_busy s now) now s (record s { word = failing s.word }) (let e = ap {B = ℕ} (λ b. cond b 1 0) (failing-same s.word now) in omega (arith, e))

write-same : (b : Serials) (r : Reg) (value : ℕ) → busies_of (serials.after_write b r value).time (serials.after_write b r value).units ≤ busies_of b.time b.units
write-same b (SerialSelect u) value = set-same b.time b.units u (record (unit_at b u) { select = value }) (omega arith)
write-same b (SerialWidth u) value = set-same b.time b.units u (record (unit_at b u) { width = value }) (omega arith)
write-same b (SerialAck u) value = set-same b.time b.units u (acknowledged b.time (unit_at b u)) (acked b.time (unit_at b u))
write-same b _ value = omega arith

-- ---- moves

-- a read leaves them
pub busies-read : (c : Chip) (r : Reg) → busies (after_read c r) ≡ busies c
busies-read c (TimerLow k) = refl
busies-read c (CaptureCountLow k) = refl
busies-read c (CaptureTimeLow k) = refl
busies-read c (ConverterAbort u) = refl
busies-read c (PinFlip p) = refl
busies-read c _ = refl

one-more : (a b : ℕ) → a ≤ b → a ≤ b + 1
one-more a b h = omega (arith, h)

write-more : (c : Chip) (r : Reg) (value received : ℕ) → busies (after_write c r value received) ≤ busies c + 1
write-more c EnableSet value received = omega arith
write-more c EnableClear value received = omega arith
write-more c (SerialData u) value received = set-more c.serials.time c.serials.units u (begun received c.serials.time (unit_at c.serials u))
write-more c r value received = one-more _ (busies c) (write-same c.serials r value)

-- a move begins one at most
pub busies-move : (c : Chip) (made : Move) (received : ℕ) → busies (chip_after c made received) ≤ busies c + 1
busies-move c (Read r) received = let e = busies-read c r in omega (arith, e)
busies-move c (Write r value) received = write-more c r value received
busies-move c (Load k) received = omega arith
busies-move c (Store k value) received = omega arith
busies-move c Mask received = omega arith
busies-move c Unmask received = omega arith
busies-move c (Note notice) received = omega arith
busies-move c (Report fault) received = omega arith

-- ---- hardware

pub busies-event : (c : Chip) (order : Order) → busies (happened c order) ≤ busies c
busies-event c (orders.Tick n) = both-later c.serials.units c.serials.time (n * c.clock.rate)
busies-event c (orders.Level p v) = let e = level_leaves busies c p v refl in omega (arith, e)
busies-event c (orders.Analog i v) = omega arith
busies-event c (orders.Trigger i) = omega arith
busies-event c (orders.Miso u ws) = omega arith
busies-event c (orders.SpiFault u) = set-same c.serials.time c.serials.units u (faulted c.serials.time (unit_at c.serials u)) (faulted-same c.serials.time (unit_at c.serials u))
busies-event c (orders.Fill channel ws) = omega arith
busies-event c _ = omega arith

-- after a reset no word is in transfer
pub busies-reset : (c : Chip) (reason : Reason) → busies (reset_chip c reason) ≡ 0
busies-reset c reason = refl

-- ---- waits

-- so many peripheral ticks are none exactly where the ticks that make them are none
no-ticks : (rate : ℕ) → ticks_for 0 rate ≡ 0
no-ticks rate = div-eq_of_lt (grind (arith, nat_tests))

some-ticks : (p m : ℕ) → 0 < m → (p + (m - 1)) / m ≡ 0 → p ≡ 0
some-ticks p m some e = let k = lt-div-mul-add {a = p + (m - 1)} {b = m} some in let z : (p + (m - 1)) / m * m ≡ 0 = rw e (omega arith) in omega (arith, k, z, some)

some-rate : (rate : ℕ) → 0 < max 1 rate
some-rate rate = grind (arith, nat_tests)

left-none : (w : Option Word) (now : ℕ) → in_transfer w now ≡ false → left_at w now ≡ 0
left-none None now h = refl
left-none (Some w) now h = done-by w.start now h
  where
    done-by : (start now : ℕ) → not (nat_le 8 (now - start)) ≡ false → 8 - (now - start) ≡ 0
    done-by start now h = grind (arith, nat_tests)

none-left : (w : Option Word) (now : ℕ) → left_at w now ≡ 0 → in_transfer w now ≡ false
none-left None now h = refl
none-left (Some w) now h = over-by w.start now h
  where
    over-by : (start now : ℕ) → 8 - (now - start) ≡ 0 → not (nat_le 8 (now - start)) ≡ false
    over-by start now h = grind (arith, nat_tests)

waits-busy : (s : Serial) (now rate : ℕ) (q : Bool) → is_busy s now ≡ q → 0 < ticks_for (serials.left s now) rate → is_busy s now ≡ true
waits-busy s now rate true e some = e
waits-busy s now rate false e some = let none = ap (λ p. ticks_for p rate) (left-none s.word now e) ∙ no-ticks rate in absurd (omega (arith, some, none))

-- a wait after which no more is to wait for ends a word
pub busies-wait : (c : Chip) (u : ℕ) → u < 2 → 0 < wait_on c u → wait_on (ticked c (wait_on c u)) u ≡ 0 → busies (ticked c (wait_on c u)) + 1 ≤ busies c
busies-wait c u lt some over =
    let n = wait_on c u * c.clock.rate in
    let s = unit_at c.serials u in
    both-over c.serials.units c.serials.time n u lt
    (waits-busy s c.serials.time c.clock.rate (is_busy s c.serials.time) refl some)
    (none-left s.word (c.serials.time + n) (some-ticks (serials.left s (c.serials.time + n)) (max 1 c.clock.rate) (some-rate c.clock.rate) over))
