-- The bodies of the handlers, by what a channel is for.
-- From Bodies.
-- Used by Lawful, handler/rt, SampleRight, Keeps, mcal_system: proofs/Carried.
use Rattle.icu_driver.specs.Terms
use Terms.{Bool, Channel, DutyCycle, EdgeCounter, false, first_of, IcuMeasurementMode, IcuSignalMeasurementProperty}
use Terms.{is_duty_cycle, is_linear, Kept, None, Option, PeriodTime, Sampled, SignalEdgeDetect, SignalMeasurement, Some}
use Terms.{Timestamp, true}
use Rattle.icu_driver.specs.laws.Bodies.{IcuBody, detect_body, keep_body, sample_body}
use Rattle.icu_driver.specs.declared.service.detect.DetectBody.TheVariants as detects
use Rattle.icu_driver.specs.declared.service.keep.KeepBody.TheVariants as keeps
use Rattle.icu_driver.specs.declared.service.sample.SampleBody.TheVariants as samples

-- a measure begins at a rising edge; it ends at the next edge at which one begins
abbrev pub begins : Option IcuSignalMeasurementProperty → Channel → Bool
begins p k = first_of p k

abbrev pub is_whole : Option IcuSignalMeasurementProperty → Bool
is_whole (Some PeriodTime) = true
is_whole (Some DutyCycle) = true
is_whole _ = false

-- what the handlers know at first
abbrev pub keeping : Channel → Kept
keeping k = record { channel = k.number; linear = is_linear k.buffer; time = 0; size = 0; index = 0; left = 0; interval = 0; notified = false }

abbrev pub sampling : Channel → Sampled
sampling k = record { channel = k.number; first = begins k.measured k; whole = is_whole k.measured; duty = is_duty_cycle k.measured; rising = false; gap = false; time = 0; seen = 0; start = 0; opposite = 0 }

abbrev pub handler_by : IcuMeasurementMode → Channel → IcuBody
handler_by SignalEdgeDetect k = detect_body (detects.Look k.number)
handler_by EdgeCounter k = detect_body (detects.Look k.number)
handler_by Timestamp k = keep_body (keeps.Look (keeping k))
handler_by SignalMeasurement k = sample_body (samples.Look (sampling k))

abbrev pub handler_of : Channel → IcuBody
handler_of k = handler_by k.mode k

-- the handler of the line of a configured channel
abbrev pub body_by : Option Channel → Option IcuBody
body_by None = None
body_by (Some k) = Some (handler_of k)
