-- The handler of a measurement: its steps.
-- From Base, DetectSteps.
-- Used by SampleRight, service/sample/rt, Windows.
use Rattle.std.proofs.Common.{◌+◌, ◌-◌, ◌/◌, ◌%◌, ◌^◌, ◌==◌, ◌&&◌, if◌then◌else◌}
use Rattle.icu_driver.specs.Terms
use Terms.{Active, arith, Bool, CaptureInfo, CapturePop, CaptureTimeHigh, CaptureTimeLow, false, High, is_same, Keep}
use Terms.{Last, Load, Look, Low, Mark, None, not, Opposite, Pop, Read, SampleBody, Sampled, Seen, Stores, true, Value}
use Terms.{Waits, Write, ℕ}
use Rattle.icu_driver.specs.laws.Base.{Move, no_answer, BodyTaken, goes, ends, Nothing, Shortens, shortens_if, word}
use Rattle.icu_driver.specs.laws.Base.{joined, SWITCHES, MARKS, SIZES, INTERVALS, PLACES, VALUES, TIMES}
use Rattle.icu_driver.specs.laws.DetectSteps.{serves}
use Rattle.icu_driver.specs.declared.service.sample.SampleBody.TheVariants.{Start}

abbrev pub looked : Sampled → ℕ → Sampled
looked r x = record r { rising = x % 2 == 1; gap = x / 2 % 2 == 1 }

abbrev pub recalled : Sampled → ℕ → Sampled
recalled r x = record r { seen = if r.gap then 0 else x }

-- a measure starts at the edge; the edge completes a value
abbrev pub starts : Sampled → Bool
starts r = is_same r.rising r.first

abbrev pub is_complete : Sampled → Bool
is_complete r = if r.whole then starts r && r.seen == 2 else not (starts r) && r.seen == 1

abbrev pub sample_popped : Sampled → SampleBody
sample_popped r = if is_complete r then Value r else Keep r

abbrev pub seen_now : Sampled → ℕ
seen_now r = if starts r then 1 else if r.seen == 1 then 2 else 0

abbrev pub row_of : Sampled → ℕ
row_of r = if starts r then INTERVALS else PLACES

-- the time from one to another, modulo 2^32
abbrev pub since : ℕ → ℕ → ℕ
since a b = (b + 2 ^ 32 - a) % 2 ^ 32

abbrev pub sample_work : SampleBody → Move
sample_work (Look r) = Read (CaptureInfo r.channel)
sample_work (Low r) = Read (CaptureTimeLow r.channel)
sample_work (High r) = Read (CaptureTimeHigh r.channel)
sample_work (Seen r) = Load (word SIZES r.channel)
sample_work (Start r) = Load (word INTERVALS r.channel)
sample_work (Opposite r) = Load (word PLACES r.channel)
sample_work (Pop r) = Write (CapturePop r.channel) 0
sample_work (Value r) = Stores (word VALUES r.channel) (since r.start r.time)
sample_work (Active r) = Stores (word TIMES r.channel) (since r.start r.opposite)
sample_work (Waits r) = Stores (word SWITCHES r.channel) 1
sample_work (Mark r) = Stores (word MARKS r.channel) 1
sample_work (Keep r) = Stores (word SIZES r.channel) (seen_now r)
sample_work (Last r) = Stores (word (row_of r) r.channel) r.time

abbrev pub sample_takes : SampleBody → ℕ → SampleBody × BodyTaken
sample_takes (Look r) x = if x / 4 == 0 then (Look r, ends None no_answer Nothing) else (Low (looked r x), goes)
sample_takes (Low r) x = (High (record r { time = x }), goes)
sample_takes (High r) x = (Seen (record r { time = joined r.time x }), goes)
sample_takes (Seen r) x = (Start (recalled r x), goes)
sample_takes (Start r) x = (Opposite (record r { start = x }), goes)
sample_takes (Opposite r) x = (Pop (record r { opposite = x }), goes)
sample_takes (Pop r) x = (sample_popped r, serves r.channel)
sample_takes (Value r) x = if r.duty then (Active r, goes) else (Waits r, goes)
sample_takes (Active r) x = (Waits r, goes)
sample_takes (Waits r) x = (Mark r, goes)
sample_takes (Mark r) x = (Keep r, goes)
sample_takes (Keep r) x = (Last r, goes)
sample_takes (Last r) x = (Last r, ends None no_answer Nothing)

abbrev pub sample_left : SampleBody → ℕ
sample_left (Look r) = 13
sample_left (Low r) = 12
sample_left (High r) = 11
sample_left (Seen r) = 10
sample_left (Start r) = 9
sample_left (Opposite r) = 8
sample_left (Pop r) = 7
sample_left (Value r) = 6
sample_left (Active r) = 5
sample_left (Waits r) = 4
sample_left (Mark r) = 3
sample_left (Keep r) = 2
sample_left (Last r) = 1

pub sample_shortens : (k : SampleBody) (x : ℕ) → Shortens sample_left k (sample_takes k x)
sample_shortens (Look r) x = shortens_if sample_left (Look r) (x / 4 == 0) _ _ (omega arith) (omega arith)
sample_shortens (Pop r) x = by_complete (is_complete r)
  where
    by_complete : (q : Bool) → Shortens sample_left (Pop r) (if q then Value r else Keep r, serves r.channel)
    by_complete true = omega arith
    by_complete false = omega arith
sample_shortens (Value r) x = shortens_if sample_left (Value r) r.duty _ _ (omega arith) (omega arith)
sample_shortens (Low r) x = omega arith
sample_shortens (High r) x = omega arith
sample_shortens (Seen r) x = omega arith
sample_shortens (Start r) x = omega arith
sample_shortens (Opposite r) x = omega arith
sample_shortens (Active r) x = omega arith
sample_shortens (Waits r) x = omega arith
sample_shortens (Mark r) x = omega arith
sample_shortens (Keep r) x = omega arith
sample_shortens (Last r) x = omega arith
