-- What frames have done in their windows: the halves of a count and of an edge's time are read one after the other.
-- From KeepSteps, SampleSteps, service_outline: Seen, Change, Count and 8 more.
-- Used by Lawful.
use Rattle.std.proofs.Common.{◌≡◌, ◌/◌, ◌==◌, if◌then◌else◌}
use Rattle.icu_driver.specs.Terms
use Terms.{BodyTaken, Bool, CaptureCountLow, CaptureTimeLow, ChangeBody, CountBody, DeInitBody, DetectBody, DutyBody}
use Terms.{either_takes, either_work, false, First, GateBody, goes, HasRead, InitBody, is_windowed, KeepBody, Kept}
use Terms.{MeasureBody, Move, Plain, plain_sees, refl, SampleBody, Second, sees_if, SeesTo, StampBody, true}
use Terms.{WindowHistory, ℕ}
use Rattle.icu_driver.specs.laws.{Bodies.{IcuBody}, Change.{change_work, change_takes}, Count.{count_work, count_takes}}
use Rattle.icu_driver.specs.laws.{DeInit.{deinit_work, deinit_takes}, DetectSteps.{detect_work, detect_takes}}
use Rattle.icu_driver.specs.laws.{Duty.{duty_work, duty_takes}, Gate.{gate_work, gate_takes}, Init.{init_work}}
use Rattle.icu_driver.specs.laws.{Init.{init_takes}, Measure.{measure_work, measure_takes}, Stamp.{stamp_work}}
use Rattle.icu_driver.specs.laws.{Stamp.{stamp_takes}, KeepSteps.{fills, keep_work, keep_takes}, SampleSteps.{is_complete}}
use Rattle.icu_driver.specs.laws.{SampleSteps.{sample_work, sample_takes}}
use Rattle.icu_driver.specs.declared.service.count.CountBody.TheVariants as counts
use Rattle.icu_driver.specs.declared.service.keep.KeepBody.TheVariants as keeps
use Rattle.icu_driver.specs.declared.service.sample.SampleBody.TheVariants as samples
use Rattle.icu_driver.specs.declared.service.init.InitBody.TheVariants as inits
use Rattle.icu_driver.specs.declared.service.deinit.DeInitBody.TheVariants as deinits
use Rattle.icu_driver.specs.declared.service.detect.DetectBody.TheVariants as detects
use Rattle.icu_driver.specs.declared.service.change.ChangeBody.TheVariants as changes
use Rattle.icu_driver.specs.declared.service.gate.GateBody.TheVariants as gates
use Rattle.icu_driver.specs.declared.service.stamp.StampBody.TheVariants as stamps
use Rattle.icu_driver.specs.declared.service.measure.MeasureBody.TheVariants as measures
use Rattle.icu_driver.specs.declared.service.duty.DutyBody.TheVariants as duties

-- before it reads a high half it has read the low one
abbrev pub count_seen : CountBody → WindowHistory
count_seen (counts.High c low) = HasRead (CaptureCountLow c)
count_seen k = Plain

abbrev pub keep_seen : KeepBody → WindowHistory
keep_seen (keeps.High r) = HasRead (CaptureTimeLow r.channel)
keep_seen k = Plain

abbrev pub sample_seen : SampleBody → WindowHistory
sample_seen (samples.High r) = HasRead (CaptureTimeLow r.channel)
sample_seen k = Plain

abbrev pub icu_seen : IcuBody → WindowHistory
icu_seen (First (Second (Second (First k)))) = keep_seen k
icu_seen (First (Second (Second (Second k)))) = sample_seen k
icu_seen (Second (First (Second (First k)))) = count_seen k
icu_seen k = Plain

-- ---- the families that read halves

count_sees : (k : CountBody) (x : ℕ) → SeesTo count_seen true (count_work k) k (count_takes k x)
count_sees (counts.Low c) x = (tt, refl)
count_sees (counts.High c low) x = ((refl, refl), λ e. absurd (cc))
count_sees (counts.Open c) x = let p = count_takes (counts.Open c) x in plain_sees true (count_work (counts.Open c)) p.1.event p.1.done refl
count_sees (counts.Close c) x = let p = count_takes (counts.Close c) x in plain_sees true (count_work (counts.Close c)) p.1.event p.1.done refl
count_sees (counts.Zero c) x = let p = count_takes (counts.Zero c) x in plain_sees true (count_work (counts.Zero c)) p.1.event p.1.done refl

-- with all that it needs it fills the array up, or doesn't
left_sees : (r s : Kept) (q : Bool) → SeesTo keep_seen true (keep_work (keeps.Left r)) (keeps.Left r) (if q then keeps.Close s else keeps.Pop s, goes)
left_sees r s true = refl
left_sees r s false = refl

switch_sees : (r s : Kept) (q : Bool) → SeesTo keep_seen true (keep_work (keeps.Switch r)) (keeps.Switch r) (if q then keeps.Close s else keeps.Pop s, goes)
switch_sees r s true = refl
switch_sees r s false = refl

keep_sees : (k : KeepBody) (x : ℕ) → SeesTo keep_seen true (keep_work k) k (keep_takes k x)
keep_sees (keeps.Low r) x = (tt, refl)
keep_sees (keeps.High r) x = ((refl, refl), refl)
keep_sees (keeps.Look r) x = sees_if keep_seen true (keep_work (keeps.Look r)) (keeps.Look r) (x / 4 == 0) _ _ (tt, λ e. absurd (cc)) (tt, refl)
keep_sees (keeps.Left r) x = sees_if keep_seen true (keep_work (keeps.Left r)) (keeps.Left r) (x == 1) _ _ refl (left_sees r (record r { left = x }) (fills (record r { left = x })))
keep_sees (keeps.Switch r) x = switch_sees r (record r { notified = x == 1 }) (fills (record r { notified = x == 1 }))
keep_sees (keeps.Size r) x = let p = keep_takes (keeps.Size r) x in plain_sees true (keep_work (keeps.Size r)) p.1.event p.1.done refl
keep_sees (keeps.Index r) x = let p = keep_takes (keeps.Index r) x in plain_sees true (keep_work (keeps.Index r)) p.1.event p.1.done refl
keep_sees (keeps.Interval r) x = let p = keep_takes (keeps.Interval r) x in plain_sees true (keep_work (keeps.Interval r)) p.1.event p.1.done refl
keep_sees (keeps.Close r) x = let p = keep_takes (keeps.Close r) x in plain_sees true (keep_work (keeps.Close r)) p.1.event p.1.done refl
keep_sees (keeps.Drop r) x = let p = keep_takes (keeps.Drop r) x in plain_sees true (keep_work (keeps.Drop r)) p.1.event p.1.done refl
keep_sees (keeps.Off r) x = let p = keep_takes (keeps.Off r) x in plain_sees true (keep_work (keeps.Off r)) p.1.event p.1.done refl
keep_sees (keeps.Pop r) x = let p = keep_takes (keeps.Pop r) x in plain_sees true (keep_work (keeps.Pop r)) p.1.event p.1.done refl
keep_sees (keeps.Store r) x = let p = keep_takes (keeps.Store r) x in plain_sees true (keep_work (keeps.Store r)) p.1.event p.1.done refl
keep_sees (keeps.Next r) x = let p = keep_takes (keeps.Next r) x in plain_sees true (keep_work (keeps.Next r)) p.1.event p.1.done refl
keep_sees (keeps.Rest r) x = let p = keep_takes (keeps.Rest r) x in plain_sees true (keep_work (keeps.Rest r)) p.1.event p.1.done refl

sample_sees : (k : SampleBody) (x : ℕ) → SeesTo sample_seen true (sample_work k) k (sample_takes k x)
sample_sees (samples.Low r) x = (tt, refl)
sample_sees (samples.High r) x = ((refl, refl), refl)
sample_sees (samples.Look r) x = sees_if sample_seen true (sample_work (samples.Look r)) (samples.Look r) (x / 4 == 0) _ _ (tt, λ e. absurd (cc)) (tt, refl)
sample_sees (samples.Pop r) x = by_complete (is_complete r)
  where
    by_complete : (q : Bool) → SeesTo sample_seen true (sample_work (samples.Pop r)) (samples.Pop r) (if q then samples.Value r else samples.Keep r, (sample_takes (samples.Pop r) x).1)
    by_complete true = (λ e. absurd (cc), refl)
    by_complete false = (λ e. absurd (cc), refl)
sample_sees (samples.Value r) x = sees_if sample_seen true (sample_work (samples.Value r)) (samples.Value r) r.duty _ _ refl refl
sample_sees (samples.Seen r) x = let p = sample_takes (samples.Seen r) x in plain_sees true (sample_work (samples.Seen r)) p.1.event p.1.done refl
sample_sees (samples.Start r) x = let p = sample_takes (samples.Start r) x in plain_sees true (sample_work (samples.Start r)) p.1.event p.1.done refl
sample_sees (samples.Opposite r) x = let p = sample_takes (samples.Opposite r) x in plain_sees true (sample_work (samples.Opposite r)) p.1.event p.1.done refl
sample_sees (samples.Active r) x = let p = sample_takes (samples.Active r) x in plain_sees true (sample_work (samples.Active r)) p.1.event p.1.done refl
sample_sees (samples.Waits r) x = let p = sample_takes (samples.Waits r) x in plain_sees true (sample_work (samples.Waits r)) p.1.event p.1.done refl
sample_sees (samples.Mark r) x = let p = sample_takes (samples.Mark r) x in plain_sees true (sample_work (samples.Mark r)) p.1.event p.1.done refl
sample_sees (samples.Keep r) x = let p = sample_takes (samples.Keep r) x in plain_sees true (sample_work (samples.Keep r)) p.1.event p.1.done refl
sample_sees (samples.Last r) x = let p = sample_takes (samples.Last r) x in plain_sees true (sample_work (samples.Last r)) p.1.event p.1.done refl

-- ---- no other one does

init_plain : (k : InitBody) → is_windowed (init_work k) ≡ false
init_plain inits.Enable = refl
init_plain _ = refl

deinit_plain : (k : DeInitBody) → is_windowed (deinit_work k) ≡ false
deinit_plain (deinits.Store d) = refl
deinit_plain _ = refl

detect_plain : (k : DetectBody) → is_windowed (detect_work k) ≡ false
detect_plain (detects.Look c) = refl
detect_plain _ = refl

change_plain : (k : ChangeBody) → is_windowed (change_work k) ≡ false
change_plain (changes.Drop c) = refl
change_plain _ = refl

gate_plain : (k : GateBody) → is_windowed (gate_work k) ≡ false
gate_plain (gates.Open c) = refl
gate_plain _ = refl

stamp_plain : (k : StampBody) → is_windowed (stamp_work k) ≡ false
stamp_plain (stamps.Open r) = refl
stamp_plain _ = refl

measure_plain : (k : MeasureBody) → is_windowed (measure_work k) ≡ false
measure_plain (measures.Open c) = refl
measure_plain _ = refl

duty_plain : (k : DutyBody) → is_windowed (duty_work k) ≡ false
duty_plain (duties.Waits c) = refl
duty_plain _ = refl

-- ---- all bodies

abbrev pub icu_work : IcuBody → Move
icu_work = either_work (either_work (either_work init_work deinit_work) (either_work detect_work (either_work keep_work sample_work))) (either_work (either_work change_work (either_work count_work gate_work)) (either_work stamp_work (either_work measure_work duty_work)))

abbrev pub icu_takes : IcuBody → ℕ → IcuBody × BodyTaken
icu_takes = either_takes (either_takes (either_takes init_takes deinit_takes) (either_takes detect_takes (either_takes keep_takes sample_takes))) (either_takes (either_takes change_takes (either_takes count_takes gate_takes)) (either_takes stamp_takes (either_takes measure_takes duty_takes)))

pub icu_sees : (k : IcuBody) (x : ℕ) → SeesTo icu_seen true (icu_work k) k (icu_takes k x)
icu_sees (First (First (First k))) x = let p = init_takes k x in plain_sees true (init_work k) p.1.event p.1.done (init_plain k)
icu_sees (First (First (Second k))) x = let p = deinit_takes k x in plain_sees true (deinit_work k) p.1.event p.1.done (deinit_plain k)
icu_sees (First (Second (First k))) x = let p = detect_takes k x in plain_sees true (detect_work k) p.1.event p.1.done (detect_plain k)
icu_sees (First (Second (Second (First k)))) x = keep_sees k x
icu_sees (First (Second (Second (Second k)))) x = sample_sees k x
icu_sees (Second (First (First k))) x = let p = change_takes k x in plain_sees true (change_work k) p.1.event p.1.done (change_plain k)
icu_sees (Second (First (Second (First k)))) x = count_sees k x
icu_sees (Second (First (Second (Second k)))) x = let p = gate_takes k x in plain_sees true (gate_work k) p.1.event p.1.done (gate_plain k)
icu_sees (Second (Second (First k))) x = let p = stamp_takes k x in plain_sees true (stamp_work k) p.1.event p.1.done (stamp_plain k)
icu_sees (Second (Second (Second (First k)))) x = let p = measure_takes k x in plain_sees true (measure_work k) p.1.event p.1.done (measure_plain k)
icu_sees (Second (Second (Second (Second k)))) x = let p = duty_takes k x in plain_sees true (duty_work k) p.1.event p.1.done (duty_plain k)
