-- Each register is found by its word, and no word of a register has a space or a line feed.
use Rattle.std.proofs.Common.{◌≡◌, ℕ, ◌<◌, List, [], ◌++◌, true, Some, refl, ◌∙◌, ap, arith}
use Rattle.std.specs.Prelude.{codes, decimal, min}
use Rattle.std.specs.Char.{is_ascii_digit}
use Rattle.std.proofs.lemmas.List.{append-nil}
use Rattle.mcal_base.specs.declared.register.Reg.{Reg}
use Rattle.mcal_base.specs.declared.register.Reg.TheVariants as regs
use Rattle.bench_report.specs.Numbers.{IsNumber, HasNumbers}
use Rattle.bench_report.specs.Registers.{register_text}
use Rattle.trace_reader.specs.Guess.{register}
use Rattle.trace_reader.specs.Numbers.{number, front, rest, is_letter}
use Rattle.trace_reader.specs.Registers.{rows, chosen}
use Rattle.trace_reader.proofs.Digits.{none, starts, none_append, number_again, no_blank, no_letter, starts_number}
use Rattle.trace_reader.proofs.Splits.{sp, blank, spaceless, front_at, rest_at, front_all, rest_all}

-- a word by its parts
pub by_parts : (w m c a b : List ℕ) (n k : ℕ) → rest is_ascii_digit w ≡ m → rest is_letter m ≡ c → number (front is_letter m) ≡ Some n → number (rest is_ascii_digit c) ≡ Some k → front is_ascii_digit w ≡ a → front is_ascii_digit c ≡ b → register w ≡ chosen (rows n k) a b
by_parts w m c a b n k em ec hn hk ea eb = rw (em, ec, hn, hk, ea, eb) refl

-- letters, a number and letters
one : (a b : List ℕ) (n : ℕ) → none is_ascii_digit a ≡ true → none is_ascii_digit b ≡ true → starts is_letter b ≡ true → IsNumber n → register (a ++ (decimal n ++ b)) ≡ chosen (rows n 0) a b
one a b n ha hb sb h =
    by_parts (a ++ (decimal n ++ b)) (decimal n ++ b) b a b n 0
    (rest_at is_ascii_digit a (decimal n ++ b) ha (starts_number n b h))
    (rest_at is_letter (decimal n) b (no_letter n h) sb)
    (ap number (front_at is_letter (decimal n) b (no_letter n h) sb) ∙ number_again n h)
    (ap number (rest_all is_ascii_digit b hb))
    (front_at is_ascii_digit a (decimal n ++ b) ha (starts_number n b h))
    (front_all is_ascii_digit b hb)

-- letters, a number, letters and a number
two : (a b : List ℕ) (n k : ℕ) → none is_ascii_digit a ≡ true → none is_ascii_digit b ≡ true → starts is_letter (b ++ (decimal k ++ [])) ≡ true → IsNumber n → IsNumber k → register (a ++ (decimal n ++ (b ++ (decimal k ++ [])))) ≡ chosen (rows n k) a b
two a b n k ha hb sb h hk =
    let behind = b ++ (decimal k ++ []) in
    by_parts (a ++ (decimal n ++ behind)) (decimal n ++ behind) behind a b n k
    (rest_at is_ascii_digit a (decimal n ++ behind) ha (starts_number n behind h))
    (rest_at is_letter (decimal n) behind (no_letter n h) sb)
    (ap number (front_at is_letter (decimal n) behind (no_letter n h) sb) ∙ number_again n h)
    (ap number (rest_at is_ascii_digit b (decimal k ++ []) hb (starts_number k [] hk) ∙ append-nil (decimal k)) ∙ number_again k hk)
    (front_at is_ascii_digit a (decimal n ++ behind) ha (starts_number n behind h))
    (front_at is_ascii_digit b (decimal k ++ []) hb (starts_number k [] hk))

small : (n : ℕ) → n < 256 → min n 255 ≡ n
small n h = omega arith

pub wide : (n : ℕ) → n < 256 → IsNumber n
wide n h = omega arith

pub register_again : (r : Reg) → HasNumbers r → register (register_text r) ≡ Some r
register_again regs.EnableSet h = refl
register_again regs.EnableClear h = refl
register_again (regs.TimerTarget n) h = one (codes "T") (codes ".TARGET") n refl refl refl h
register_again (regs.TimerPrescaler n) h = one (codes "T") (codes ".PRE") n refl refl refl h
register_again regs.TimerOneShot h = refl
register_again regs.TimerGateSet h = refl
register_again regs.TimerGateClear h = refl
register_again regs.TimerRun h = refl
register_again regs.TimerFlags h = refl
register_again regs.TimerZero h = refl
register_again (regs.TimerLow n) h = one (codes "T") (codes ".LOW") n refl refl refl h
register_again (regs.TimerHigh n) h = one (codes "T") (codes ".HIGH") n refl refl refl h
register_again (regs.PulsePeriod n) h = one (codes "P") (codes ".PERIOD") n refl refl refl h
register_again (regs.PulseDuty n) h = one (codes "P") (codes ".DUTY") n refl refl refl h
register_again (regs.PulsePolarity n) h = one (codes "P") (codes ".POL") n refl refl refl h
register_again (regs.PulseCommit n) h = one (codes "P") (codes ".COMMIT") n refl refl refl h
register_again (regs.PulseIdle n) h = one (codes "P") (codes ".IDLE") n refl refl refl h
register_again (regs.PulseOut n) h = one (codes "P") (codes ".OUT") n refl refl refl h
register_again regs.PulseEdges h = refl
register_again regs.PulseFlags h = refl
register_again (regs.CaptureCondition n) h = one (codes "C") (codes ".COND") n refl refl refl h
register_again (regs.CaptureMode n) h = one (codes "C") (codes ".MODE") n refl refl refl h
register_again regs.CaptureGateSet h = refl
register_again regs.CaptureGateClear h = refl
register_again (regs.CaptureCountLow n) h = one (codes "C") (codes ".COUNTLOW") n refl refl refl h
register_again (regs.CaptureCountHigh n) h = one (codes "C") (codes ".COUNTHIGH") n refl refl refl h
register_again (regs.CaptureZero n) h = one (codes "C") (codes ".ZERO") n refl refl refl h
register_again (regs.CaptureTimeLow n) h = one (codes "C") (codes ".TIMELOW") n refl refl refl h
register_again (regs.CaptureTimeHigh n) h = one (codes "C") (codes ".TIMEHIGH") n refl refl refl h
register_again (regs.CaptureInfo n) h = one (codes "C") (codes ".INFO") n refl refl refl h
register_again (regs.CapturePop n) h = one (codes "C") (codes ".POP") n refl refl refl h
register_again (regs.CaptureFlush n) h = one (codes "C") (codes ".FLUSH") n refl refl refl h
register_again (regs.ConverterList n k) h = two (codes "A") (codes ".LIST") n k refl refl refl (wide n h.0) (wide k h.1) ∙ rw (small n h.0, small k h.1) refl
register_again (regs.ConverterGo n) h = one (codes "A") (codes ".GO") n refl refl refl h
register_again (regs.ConverterState n) h = one (codes "A") (codes ".STATE") n refl refl refl h
register_again (regs.ConverterResult n k) h = two (codes "A") (codes ".RESULT") n k refl refl refl (wide n h.0) (wide k h.1) ∙ rw (small n h.0, small k h.1) refl
register_again (regs.ConverterDone n) h = one (codes "A") (codes ".DONE") n refl refl refl h
register_again (regs.ConverterAbort n) h = one (codes "A") (codes ".ABORT") n refl refl refl h
register_again (regs.ConverterAck n) h = one (codes "A") (codes ".ACK") n refl refl refl h
register_again regs.TriggerSet h = refl
register_again regs.TriggerClear h = refl
register_again regs.TriggerFlags h = refl
register_again (regs.SerialSelect n) h = one (codes "S") (codes ".SELECT") n refl refl refl h
register_again (regs.SerialWidth n) h = one (codes "S") (codes ".WIDTH") n refl refl refl h
register_again (regs.SerialData n) h = one (codes "S") (codes ".DATA") n refl refl refl h
register_again (regs.SerialReceived n) h = one (codes "S") (codes ".RX") n refl refl refl h
register_again (regs.SerialState n) h = one (codes "S") (codes ".STATE") n refl refl refl h
register_again (regs.SerialWait n) h = one (codes "S") (codes ".WAIT") n refl refl refl h
register_again (regs.SerialAck n) h = one (codes "S") (codes ".ACK") n refl refl refl h
register_again (regs.PinDirectionSet n) h = one (codes "D.DIRSET") (codes "") n refl refl refl h
register_again (regs.PinDirectionClear n) h = one (codes "D.DIRCLR") (codes "") n refl refl refl h
register_again (regs.PinOutSet n) h = one (codes "D.OUTSET") (codes "") n refl refl refl h
register_again (regs.PinOutClear n) h = one (codes "D.OUTCLR") (codes "") n refl refl refl h
register_again (regs.PinMode n) h = one (codes "D") (codes ".MODE") n refl refl refl h
register_again (regs.PortPut n) h = one (codes "Q") (codes ".PUT") n refl refl refl h
register_again (regs.PortLevels n) h = one (codes "Q") (codes ".IN") n refl refl refl h
register_again (regs.PinFlip n) h = one (codes "F") (codes ".FLIP") n refl refl refl h
register_again regs.ClockPll h = refl
register_again regs.ClockLock h = refl
register_again regs.ClockRate h = refl
register_again regs.ResetReason h = refl
register_again regs.ResetRequest h = refl
register_again regs.WatchdogLoad h = refl
register_again (regs.Ram n) h = one (codes "R") (codes "") n refl refl refl h

-- a number between letters has neither
between : (n : ℕ) (b : List ℕ) → IsNumber n → none blank b ≡ true → none blank (decimal n ++ b) ≡ true
between n b h k = none_append blank (decimal n) b (no_blank n h) k

pub register_solid : (r : Reg) → HasNumbers r → none blank (register_text r) ≡ true
register_solid regs.EnableSet h = refl
register_solid regs.EnableClear h = refl
register_solid (regs.TimerTarget n) h = between n (codes ".TARGET") h refl
register_solid (regs.TimerPrescaler n) h = between n (codes ".PRE") h refl
register_solid regs.TimerOneShot h = refl
register_solid regs.TimerGateSet h = refl
register_solid regs.TimerGateClear h = refl
register_solid regs.TimerRun h = refl
register_solid regs.TimerFlags h = refl
register_solid regs.TimerZero h = refl
register_solid (regs.TimerLow n) h = between n (codes ".LOW") h refl
register_solid (regs.TimerHigh n) h = between n (codes ".HIGH") h refl
register_solid (regs.PulsePeriod n) h = between n (codes ".PERIOD") h refl
register_solid (regs.PulseDuty n) h = between n (codes ".DUTY") h refl
register_solid (regs.PulsePolarity n) h = between n (codes ".POL") h refl
register_solid (regs.PulseCommit n) h = between n (codes ".COMMIT") h refl
register_solid (regs.PulseIdle n) h = between n (codes ".IDLE") h refl
register_solid (regs.PulseOut n) h = between n (codes ".OUT") h refl
register_solid regs.PulseEdges h = refl
register_solid regs.PulseFlags h = refl
register_solid (regs.CaptureCondition n) h = between n (codes ".COND") h refl
register_solid (regs.CaptureMode n) h = between n (codes ".MODE") h refl
register_solid regs.CaptureGateSet h = refl
register_solid regs.CaptureGateClear h = refl
register_solid (regs.CaptureCountLow n) h = between n (codes ".COUNTLOW") h refl
register_solid (regs.CaptureCountHigh n) h = between n (codes ".COUNTHIGH") h refl
register_solid (regs.CaptureZero n) h = between n (codes ".ZERO") h refl
register_solid (regs.CaptureTimeLow n) h = between n (codes ".TIMELOW") h refl
register_solid (regs.CaptureTimeHigh n) h = between n (codes ".TIMEHIGH") h refl
register_solid (regs.CaptureInfo n) h = between n (codes ".INFO") h refl
register_solid (regs.CapturePop n) h = between n (codes ".POP") h refl
register_solid (regs.CaptureFlush n) h = between n (codes ".FLUSH") h refl
register_solid (regs.ConverterList n k) h = between n (codes ".LIST" ++ (decimal k ++ [])) (wide n h.0) (between k [] (wide k h.1) refl)
register_solid (regs.ConverterGo n) h = between n (codes ".GO") h refl
register_solid (regs.ConverterState n) h = between n (codes ".STATE") h refl
register_solid (regs.ConverterResult n k) h = between n (codes ".RESULT" ++ (decimal k ++ [])) (wide n h.0) (between k [] (wide k h.1) refl)
register_solid (regs.ConverterDone n) h = between n (codes ".DONE") h refl
register_solid (regs.ConverterAbort n) h = between n (codes ".ABORT") h refl
register_solid (regs.ConverterAck n) h = between n (codes ".ACK") h refl
register_solid regs.TriggerSet h = refl
register_solid regs.TriggerClear h = refl
register_solid regs.TriggerFlags h = refl
register_solid (regs.SerialSelect n) h = between n (codes ".SELECT") h refl
register_solid (regs.SerialWidth n) h = between n (codes ".WIDTH") h refl
register_solid (regs.SerialData n) h = between n (codes ".DATA") h refl
register_solid (regs.SerialReceived n) h = between n (codes ".RX") h refl
register_solid (regs.SerialState n) h = between n (codes ".STATE") h refl
register_solid (regs.SerialWait n) h = between n (codes ".WAIT") h refl
register_solid (regs.SerialAck n) h = between n (codes ".ACK") h refl
register_solid (regs.PinDirectionSet n) h = between n (codes "") h refl
register_solid (regs.PinDirectionClear n) h = between n (codes "") h refl
register_solid (regs.PinOutSet n) h = between n (codes "") h refl
register_solid (regs.PinOutClear n) h = between n (codes "") h refl
register_solid (regs.PinMode n) h = between n (codes ".MODE") h refl
register_solid (regs.PortPut n) h = between n (codes ".PUT") h refl
register_solid (regs.PortLevels n) h = between n (codes ".IN") h refl
register_solid (regs.PinFlip n) h = between n (codes ".FLIP") h refl
register_solid regs.ClockPll h = refl
register_solid regs.ClockLock h = refl
register_solid regs.ClockRate h = refl
register_solid regs.ResetReason h = refl
register_solid regs.ResetRequest h = refl
register_solid regs.WatchdogLoad h = refl
register_solid (regs.Ram n) h = between n (codes "") h refl

pub register_plain : (r : Reg) → HasNumbers r → none sp (register_text r) ≡ true
register_plain r h = spaceless (register_text r) (register_solid r h)
