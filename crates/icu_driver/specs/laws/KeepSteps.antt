-- The handler of a timestamp channel: its steps.
-- From DetectSteps, Base.
-- Used by KeepRight, service/keep/rt, Windows, Indices.
use Rattle.std.proofs.Common.{◌+◌, ◌-◌, ◌/◌, ◌%◌, ◌^◌, ◌≤◌, ◌==◌, ◌&&◌, if◌then◌else◌}
use Rattle.icu_driver.specs.Terms
use Terms.{arith, Bool, CaptureFlush, CaptureGateClear, CaptureInfo, CapturePop, CaptureTimeHigh, CaptureTimeLow, Close}
use Terms.{Drop, false, IcuTimestampNotification, Index, Interval, KeepBody, Kept, Left, Load, Next, None, not, Off}
use Terms.{Read, Rest, Size, stamp_word, Stores, Switch, true, Write, ℕ}
use Rattle.icu_driver.specs.laws.Base.{Move, no_answer, BodyTaken, goes, ends, Epilogue, Nothing, Shortens, shortens_if}
use Rattle.icu_driver.specs.laws.Base.{word, bit, joined, SWITCHES, MARKS, SIZES, INTERVALS, PLACES, VALUES}
use Rattle.icu_driver.specs.laws.DetectSteps.{owed_if}
use Rattle.icu_driver.specs.declared.service.keep.KeepBody.TheVariants.{Look, Low, High, Pop, Store}
use Rattle.icu_driver.specs.laws.DetectSteps as detect

abbrev pub serves : ℕ → BodyTaken
serves c = detect.serves c

abbrev pub fills : Kept → Bool
fills r = r.linear && (r.index + 1) % 2 ^ 32 == r.size

abbrev pub keep_read : Kept → KeepBody
keep_read r = if fills r then Close r else Pop r

abbrev pub next_index : Kept → ℕ
next_index r = if not r.linear && (r.index + 1) % 2 ^ 32 == r.size then 0 else (r.index + 1) % 2 ^ 32

abbrev pub left_now : Kept → ℕ
left_now r = if r.left == 1 then r.interval else (r.left + 2 ^ 32 - 1) % 2 ^ 32

abbrev pub keep_owed : Kept → Epilogue
keep_owed r = owed_if (r.left == 1 && r.notified) IcuTimestampNotification r.channel

abbrev pub keep_work : KeepBody → Move
keep_work (Look r) = Read (CaptureInfo r.channel)
keep_work (Low r) = Read (CaptureTimeLow r.channel)
keep_work (High r) = Read (CaptureTimeHigh r.channel)
keep_work (Size r) = Load (word SIZES r.channel)
keep_work (Index r) = Load (word PLACES r.channel)
keep_work (Left r) = Load (word VALUES r.channel)
keep_work (Interval r) = Load (word INTERVALS r.channel)
keep_work (Switch r) = Load (word SWITCHES r.channel)
keep_work (Close r) = Write CaptureGateClear (bit r.channel)
keep_work (Drop r) = Write (CaptureFlush r.channel) 0
keep_work (Off r) = Stores (word MARKS r.channel) 2
keep_work (Pop r) = Write (CapturePop r.channel) 0
keep_work (Store r) = Stores (stamp_word r.channel r.index) r.time
keep_work (Next r) = Stores (word PLACES r.channel) (next_index r)
keep_work (Rest r) = Stores (word VALUES r.channel) (left_now r)

abbrev pub keep_takes : KeepBody → ℕ → KeepBody × BodyTaken
keep_takes (Look r) x = if x / 4 == 0 then (Look r, ends None no_answer Nothing) else (Low r, goes)
keep_takes (Low r) x = (High (record r { time = x }), goes)
keep_takes (High r) x = (Size (record r { time = joined r.time x }), goes)
keep_takes (Size r) x = (Index (record r { size = x }), goes)
keep_takes (Index r) x = (Left (record r { index = x }), goes)
keep_takes (Left r) x = if x == 1 then (Interval (record r { left = 1 }), goes) else (keep_read (record r { left = x }), goes)
keep_takes (Interval r) x = (Switch (record r { interval = x }), goes)
keep_takes (Switch r) x = (keep_read (record r { notified = x == 1 }), goes)
keep_takes (Close r) x = (Drop r, serves r.channel)
keep_takes (Drop r) x = (Off r, goes)
keep_takes (Off r) x = (Store r, goes)
keep_takes (Pop r) x = (Store r, serves r.channel)
keep_takes (Store r) x = (Next r, goes)
keep_takes (Next r) x = (Rest r, goes)
keep_takes (Rest r) x = (Rest r, ends None no_answer (keep_owed r))

abbrev pub keep_left : KeepBody → ℕ
keep_left (Look r) = 14
keep_left (Low r) = 13
keep_left (High r) = 12
keep_left (Size r) = 11
keep_left (Index r) = 10
keep_left (Left r) = 9
keep_left (Interval r) = 8
keep_left (Switch r) = 7
keep_left (Close r) = 6
keep_left (Drop r) = 5
keep_left (Off r) = 4
keep_left (Pop r) = 4
keep_left (Store r) = 3
keep_left (Next r) = 2
keep_left (Rest r) = 1

read_shortens : (k : KeepBody) (r : Kept) (q : Bool) → 6 + 1 ≤ keep_left k → Shortens keep_left k (if q then Close r else Pop r, goes)
read_shortens k r true h = omega (arith, h)
read_shortens k r false h = omega (arith, h)

pub keep_shortens : (k : KeepBody) (x : ℕ) → Shortens keep_left k (keep_takes k x)
keep_shortens (Look r) x = shortens_if keep_left (Look r) (x / 4 == 0) _ _ (omega arith) (omega arith)
keep_shortens (Left r) x = shortens_if keep_left (Left r) (x == 1) _ _ (omega arith) (read_shortens (Left r) (record r { left = x }) (fills (record r { left = x })) (omega arith))
keep_shortens (Switch r) x = read_shortens (Switch r) (record r { notified = x == 1 }) (fills (record r { notified = x == 1 })) (omega arith)
keep_shortens (Low r) x = omega arith
keep_shortens (High r) x = omega arith
keep_shortens (Size r) x = omega arith
keep_shortens (Index r) x = omega arith
keep_shortens (Interval r) x = omega arith
keep_shortens (Close r) x = omega arith
keep_shortens (Drop r) x = omega arith
keep_shortens (Off r) x = omega arith
keep_shortens (Pop r) x = omega arith
keep_shortens (Store r) x = omega arith
keep_shortens (Next r) x = omega arith
keep_shortens (Rest r) x = omega arith
