-- The handler of an edge detection: its steps.
-- From Base.
-- Used by DetectRight, service/detect/rt, Windows, KeepSteps, SampleSteps and 2 more.
use Rattle.std.proofs.Common.{◌/◌, ◌==◌, if◌then◌else◌}
use Rattle.icu_driver.specs.Terms
use Terms.{arith, Bool, CaptureInfo, CapturePop, DetectBody, IcuSignalNotification, Load, None, NoticeKind, Read, Some}
use Terms.{Stores, Write, ℕ}
use Rattle.icu_driver.specs.laws.Base.{Move, Serve, no_answer, BodyTaken, goes, ends, Epilogue, Nothing, One, Shortens}
use Rattle.icu_driver.specs.laws.Base.{shortens_if, word, line, SWITCHES, MARKS}
use Rattle.icu_driver.specs.declared.service.detect.DetectBody.TheVariants.{Look, Switch, Pop, Mark}

-- a notice, where it is due
abbrev pub owed_if : Bool → NoticeKind → ℕ → Epilogue
owed_if due kind c = if due then One (record { kind = kind; id = c }) else Nothing

-- the serving of a channel's line, after which the body goes on
abbrev pub serves : ℕ → BodyTaken
serves c = record { event = Some (Serve (line c)); done = None }

abbrev pub detect_work : DetectBody → Move
detect_work (Look c) = Read (CaptureInfo c)
detect_work (Switch c) = Load (word SWITCHES c)
detect_work (Pop c on) = Write (CapturePop c) 0
detect_work (Mark c on) = Stores (word MARKS c) 1

abbrev pub detect_takes : DetectBody → ℕ → DetectBody × BodyTaken
detect_takes (Look c) x = if x / 4 == 0 then (Look c, ends None no_answer Nothing) else (Switch c, goes)
detect_takes (Switch c) x = (Pop c (x == 1), goes)
detect_takes (Pop c on) x = (Mark c on, serves c)
detect_takes (Mark c on) x = (Mark c on, ends None no_answer (owed_if on IcuSignalNotification c))

abbrev pub detect_left : DetectBody → ℕ
detect_left (Look c) = 4
detect_left (Switch c) = 3
detect_left (Pop c on) = 2
detect_left (Mark c on) = 1

pub detect_shortens : (k : DetectBody) (x : ℕ) → Shortens detect_left k (detect_takes k x)
detect_shortens (Look c) x = shortens_if detect_left (Look c) (x / 4 == 0) _ _ (omega arith) (omega arith)
detect_shortens (Switch c) x = omega arith
detect_shortens (Pop c on) x = omega arith
detect_shortens (Mark c on) x = omega arith
