-- How long the line of a step, of a wait or of a reset is at most.
use Rattle.std.proofs.Common.{◌≡◌, ℕ, ◌+◌, ◌≤◌, List, [], ◌∷◌, ◌++◌, length, Bool, true, false, Option, Some, None, refl, arith, lit≤, length-append}
use Rattle.std.specs.Prelude.{codes, decimal, bytes_eq, nat_le, if◌then◌else◌}
use Rattle.std.specs.List.{list_all}
use Rattle.std.proofs.lemmas.Bool.{and_parts}
use Rattle.std.proofs.lemmas.Bool.Decides.{nat_tests}
use Rattle.std.proofs.lemmas.Fmt.{length-decimal-le}
use Rattle.mcal_base.specs.det_errors.Spelling.{error_text}
use Rattle.mcal_base.specs.Names.{service_text, notice_text}
use Rattle.mcal_base.specs.declared.directive.Reason.{Reason}
use Rattle.mcal_base.specs.declared.error_name.ErrorName.{ErrorName}
use Rattle.mcal_base.specs.declared.moves.Event.TheVariants as events
use Rattle.mcal_base.specs.declared.moves.Event.{Event}
use Rattle.mcal_base.specs.declared.moves.Move.{Move}
use Rattle.mcal_base.specs.declared.moves.Move.TheVariants as moves
use Rattle.mcal_base.specs.declared.notice.NoticeKind.{NoticeKind}
use Rattle.mcal_base.specs.declared.register.Reg.{Reg}
use Rattle.mcal_base.specs.declared.register.Reg.TheVariants as regs
use Rattle.mcal_base.specs.declared.service.Service.{Service}
use Rattle.bench_report.specs.Lines.{Line, Holds, Makes, Waits, Notes, Errs, Returns, Leaves, Restarts, Shows, Done, event_text, incoming_text, move_text, line_text, reason_text}
use Rattle.bench_report.specs.Numbers.{IsNumber, HasNumbers, HasMoveNumbers, HasEventNumber}
use Rattle.bench_report.specs.Registers.{register_text}
use Rattle.bench_script.specs.Words.{named, all_services}
use Rattle.trace_reader.specs.Names.{all_reasons, all_notices, all_errors}
use Rattle.trace_reader.specs.Reading.{line_with}
use Rattle.trace_reader.specs.Trace.{HasLineNumbers, MovesOn}
use Rattle.trace_reader.proofs.NameLaws.{reason_again, notice_again, error_again, service_again}
use Rattle.trace_reader.proofs.RegisterLaws.{wide}

-- ---- texts one behind the other

digits : (n : ℕ) → IsNumber n → length (decimal n) ≤ 10
digits n h = length-decimal-le 10 n (omega arith) (omega arith) (omega arith)

joined : (a b : List ℕ) (m k : ℕ) → length a ≤ m → length b ≤ k → length (a ++ b) ≤ m + k
joined a b m k h l = omega (arith, length-append a b)

-- with a space between them
apart : (a b : List ℕ) (m k : ℕ) → length a ≤ m → length b ≤ k → length (a ++ (codes " " ++ b)) ≤ m + (1 + k)
apart a b m k h l = joined a (codes " " ++ b) m (1 + k) h (joined (codes " ") b 1 k (lit≤ tt) l)

-- a number between letters
around : (a b : List ℕ) (n most : ℕ) → IsNumber n → length a ≤ 10 → length b ≤ most → length (a ++ (decimal n ++ b)) ≤ 20 + most
around a b n most h k l = let m = joined a (decimal n ++ b) 10 (10 + most) k (joined (decimal n) b 10 most (digits n h) l) in omega arith

-- ---- names

abbrev is_short : List ℕ → Bool
is_short bs = nat_le (length bs) 40

short_is : (bs : List ℕ) → is_short bs ≡ true → length bs ≤ 40
short_is bs h = grind (arith, nat_tests)

named_case : {T : Type 0} (text : T → List ℕ) (c x : T) (found : Option T) (b : Bool) → is_short (text c) ≡ true → (if b then Some c else found) ≡ Some x → (found ≡ Some x → is_short (text x) ≡ true) → is_short (text x) ≡ true
named_case text c x found true h e ih = let same : c ≡ x = cc in rw (← same) h
named_case text c x found false h e ih = ih e

-- what is found among names that are short is short
named_short : {T : Type 0} (text : T → List ℕ) (choices : List T) (word : List ℕ) (x : T) → list_all (λ c. is_short (text c)) choices ≡ true → named text choices word ≡ Some x → is_short (text x) ≡ true
named_short text [] word x h e = cc
named_short text (c ∷ cs) word x h e =
    let parts = and_parts (is_short (text c)) (list_all (λ c. is_short (text c)) cs) h in
    named_case text c x (named text cs word) (bytes_eq (text c) word) parts.0 e (λ g. named_short text cs word x parts.1 g)

service_short : (x : Service) → length (service_text x) ≤ 40
service_short x = short_is (service_text x) (named_short service_text all_services (service_text x) x refl (service_again x))

error_short : (x : ErrorName) → length (error_text x) ≤ 40
error_short x = short_is (error_text x) (named_short error_text all_errors (error_text x) x refl (error_again x))

notice_short : (x : NoticeKind) → length (notice_text x) ≤ 40
notice_short x = short_is (notice_text x) (named_short notice_text all_notices (notice_text x) x refl (notice_again x))

reason_short : (x : Reason) → length (reason_text x) ≤ 40
reason_short x = short_is (reason_text x) (named_short reason_text all_reasons (reason_text x) x refl (reason_again x))

register_short : (r : Reg) → HasNumbers r → length (register_text r) ≤ 40
register_short regs.EnableSet h = lit≤ tt
register_short regs.EnableClear h = lit≤ tt
register_short (regs.TimerTarget n) h = around (codes "T") (codes ".TARGET") n 20 h (lit≤ tt) (lit≤ tt)
register_short (regs.TimerPrescaler n) h = around (codes "T") (codes ".PRE") n 20 h (lit≤ tt) (lit≤ tt)
register_short regs.TimerOneShot h = lit≤ tt
register_short regs.TimerGateSet h = lit≤ tt
register_short regs.TimerGateClear h = lit≤ tt
register_short regs.TimerRun h = lit≤ tt
register_short regs.TimerFlags h = lit≤ tt
register_short regs.TimerZero h = lit≤ tt
register_short (regs.TimerLow n) h = around (codes "T") (codes ".LOW") n 20 h (lit≤ tt) (lit≤ tt)
register_short (regs.TimerHigh n) h = around (codes "T") (codes ".HIGH") n 20 h (lit≤ tt) (lit≤ tt)
register_short (regs.PulsePeriod n) h = around (codes "P") (codes ".PERIOD") n 20 h (lit≤ tt) (lit≤ tt)
register_short (regs.PulseDuty n) h = around (codes "P") (codes ".DUTY") n 20 h (lit≤ tt) (lit≤ tt)
register_short (regs.PulsePolarity n) h = around (codes "P") (codes ".POL") n 20 h (lit≤ tt) (lit≤ tt)
register_short (regs.PulseCommit n) h = around (codes "P") (codes ".COMMIT") n 20 h (lit≤ tt) (lit≤ tt)
register_short (regs.PulseIdle n) h = around (codes "P") (codes ".IDLE") n 20 h (lit≤ tt) (lit≤ tt)
register_short (regs.PulseOut n) h = around (codes "P") (codes ".OUT") n 20 h (lit≤ tt) (lit≤ tt)
register_short regs.PulseEdges h = lit≤ tt
register_short regs.PulseFlags h = lit≤ tt
register_short (regs.CaptureCondition n) h = around (codes "C") (codes ".COND") n 20 h (lit≤ tt) (lit≤ tt)
register_short (regs.CaptureMode n) h = around (codes "C") (codes ".MODE") n 20 h (lit≤ tt) (lit≤ tt)
register_short regs.CaptureGateSet h = lit≤ tt
register_short regs.CaptureGateClear h = lit≤ tt
register_short (regs.CaptureCountLow n) h = around (codes "C") (codes ".COUNTLOW") n 20 h (lit≤ tt) (lit≤ tt)
register_short (regs.CaptureCountHigh n) h = around (codes "C") (codes ".COUNTHIGH") n 20 h (lit≤ tt) (lit≤ tt)
register_short (regs.CaptureZero n) h = around (codes "C") (codes ".ZERO") n 20 h (lit≤ tt) (lit≤ tt)
register_short (regs.CaptureTimeLow n) h = around (codes "C") (codes ".TIMELOW") n 20 h (lit≤ tt) (lit≤ tt)
register_short (regs.CaptureTimeHigh n) h = around (codes "C") (codes ".TIMEHIGH") n 20 h (lit≤ tt) (lit≤ tt)
register_short (regs.CaptureInfo n) h = around (codes "C") (codes ".INFO") n 20 h (lit≤ tt) (lit≤ tt)
register_short (regs.CapturePop n) h = around (codes "C") (codes ".POP") n 20 h (lit≤ tt) (lit≤ tt)
register_short (regs.CaptureFlush n) h = around (codes "C") (codes ".FLUSH") n 20 h (lit≤ tt) (lit≤ tt)
register_short (regs.ConverterList n k) h = around (codes "A") (codes ".LIST" ++ (decimal k ++ codes "")) n 20 (wide n h.0) (lit≤ tt) (around (codes ".LIST") (codes "") k 0 (wide k h.1) (lit≤ tt) (lit≤ tt))
register_short (regs.ConverterGo n) h = around (codes "A") (codes ".GO") n 20 h (lit≤ tt) (lit≤ tt)
register_short (regs.ConverterState n) h = around (codes "A") (codes ".STATE") n 20 h (lit≤ tt) (lit≤ tt)
register_short (regs.ConverterResult n k) h = around (codes "A") (codes ".RESULT" ++ (decimal k ++ codes "")) n 20 (wide n h.0) (lit≤ tt) (around (codes ".RESULT") (codes "") k 0 (wide k h.1) (lit≤ tt) (lit≤ tt))
register_short (regs.ConverterDone n) h = around (codes "A") (codes ".DONE") n 20 h (lit≤ tt) (lit≤ tt)
register_short (regs.ConverterAbort n) h = around (codes "A") (codes ".ABORT") n 20 h (lit≤ tt) (lit≤ tt)
register_short (regs.ConverterAck n) h = around (codes "A") (codes ".ACK") n 20 h (lit≤ tt) (lit≤ tt)
register_short regs.TriggerSet h = lit≤ tt
register_short regs.TriggerClear h = lit≤ tt
register_short regs.TriggerFlags h = lit≤ tt
register_short (regs.SerialSelect n) h = around (codes "S") (codes ".SELECT") n 20 h (lit≤ tt) (lit≤ tt)
register_short (regs.SerialWidth n) h = around (codes "S") (codes ".WIDTH") n 20 h (lit≤ tt) (lit≤ tt)
register_short (regs.SerialData n) h = around (codes "S") (codes ".DATA") n 20 h (lit≤ tt) (lit≤ tt)
register_short (regs.SerialReceived n) h = around (codes "S") (codes ".RX") n 20 h (lit≤ tt) (lit≤ tt)
register_short (regs.SerialState n) h = around (codes "S") (codes ".STATE") n 20 h (lit≤ tt) (lit≤ tt)
register_short (regs.SerialWait n) h = around (codes "S") (codes ".WAIT") n 20 h (lit≤ tt) (lit≤ tt)
register_short (regs.SerialAck n) h = around (codes "S") (codes ".ACK") n 20 h (lit≤ tt) (lit≤ tt)
register_short (regs.PinDirectionSet n) h = around (codes "D.DIRSET") (codes "") n 20 h (lit≤ tt) (lit≤ tt)
register_short (regs.PinDirectionClear n) h = around (codes "D.DIRCLR") (codes "") n 20 h (lit≤ tt) (lit≤ tt)
register_short (regs.PinOutSet n) h = around (codes "D.OUTSET") (codes "") n 20 h (lit≤ tt) (lit≤ tt)
register_short (regs.PinOutClear n) h = around (codes "D.OUTCLR") (codes "") n 20 h (lit≤ tt) (lit≤ tt)
register_short (regs.PinMode n) h = around (codes "D") (codes ".MODE") n 20 h (lit≤ tt) (lit≤ tt)
register_short (regs.PortPut n) h = around (codes "Q") (codes ".PUT") n 20 h (lit≤ tt) (lit≤ tt)
register_short (regs.PortLevels n) h = around (codes "Q") (codes ".IN") n 20 h (lit≤ tt) (lit≤ tt)
register_short (regs.PinFlip n) h = around (codes "F") (codes ".FLIP") n 20 h (lit≤ tt) (lit≤ tt)
register_short regs.ClockPll h = lit≤ tt
register_short regs.ClockLock h = lit≤ tt
register_short regs.ClockRate h = lit≤ tt
register_short regs.ResetReason h = lit≤ tt
register_short regs.ResetRequest h = lit≤ tt
register_short regs.WatchdogLoad h = lit≤ tt
register_short (regs.Ram n) h = around (codes "R") (codes "") n 20 h (lit≤ tt) (lit≤ tt)

-- ---- lines

error_word_short : (b : Bool) → length (if b then codes "runtime" else codes "report") ≤ 7
error_word_short true = lit≤ tt
error_word_short false = lit≤ tt

report_short : (b : Bool) (service : Service) (error : ErrorName) → length ((if b then codes "runtime" else codes "report") ++ (codes " " ++ (service_text service ++ (codes " " ++ error_text error)))) ≤ 90
report_short b service error = let m = apart (if b then codes "runtime" else codes "report") (service_text service ++ (codes " " ++ error_text error)) 7 81 (error_word_short b) (apart (service_text service) (error_text error) 40 40 (service_short service) (error_short error)) in omega arith

-- a word, a register or a name, and a number
three : (a b : List ℕ) (n : ℕ) → length a ≤ 10 → length b ≤ 40 → IsNumber n → length (a ++ (b ++ (codes " " ++ decimal n))) ≤ 90
three a b n h k m = let l = joined a (b ++ (codes " " ++ decimal n)) 10 51 h (apart b (decimal n) 40 10 k (digits n m)) in omega arith

-- a word, a number, and a number
numbers : (a : List ℕ) (n k : ℕ) → length a ≤ 10 → IsNumber n → IsNumber k → length (a ++ (decimal n ++ (codes " " ++ decimal k))) ≤ 90
numbers a n k h l m = let d = digits n l in three a (decimal n) k h (omega arith) m

move_short : (m : Move) (value : ℕ) → HasMoveNumbers m → IsNumber value → length (move_text m value) ≤ 90
move_short (moves.Read reg) value h v = three (codes "read ") (register_text reg) value (lit≤ tt) (register_short reg h) v
move_short (moves.Write reg written) value h v = three (codes "write ") (register_text reg) written (lit≤ tt) (register_short reg h.0) h.1
move_short (moves.Load word) value h v = numbers (codes "load w") word value (lit≤ tt) h v
move_short (moves.Store word stored) value h v = numbers (codes "store w") word stored (lit≤ tt) h.0 h.1
move_short moves.Mask value h v = lit≤ tt
move_short moves.Unmask value h v = lit≤ tt
move_short (moves.Note n) value h v = three (codes "note ") (notice_text n.kind) n.id (lit≤ tt) (notice_short n.kind) h
move_short (moves.Report e) value h v = report_short e.runtime e.service e.error

event_short : (e : Option Event) → HasEventNumber e → length (event_text e) ≤ 20
event_short None h = lit≤ tt
event_short (Some events.Act) h = lit≤ tt
event_short (Some (events.Serve line)) h = let m = joined (codes " serve ") (decimal line) 7 10 (lit≤ tt) (digits line h) in omega arith
event_short (Some (events.Abort unit)) h = lit≤ tt
event_short (Some (events.Start unit)) h = lit≤ tt

incoming_short : (m : Move) (received : ℕ) → IsNumber received → length (incoming_text m received) ≤ 20
incoming_short (moves.Write (regs.SerialData unit) sent) received h = let m = joined (codes " got ") (decimal received) 5 10 (lit≤ tt) (digits received h) in omega arith
incoming_short _ received h = lit≤ tt

step_short : (depth value received : ℕ) (m : Move) (e : Option Event) → HasLineNumbers (Makes depth m value received e) → length (line_text (Makes depth m value received e)) ≤ 149
step_short depth value received m e h =
    let behind = joined (event_text e) (incoming_text m received) 20 20 (event_short e h.4) (incoming_short m received h.3) in
    let moved = joined (move_text m value) (event_text e ++ incoming_text m received) 90 40 (move_short m value h.1 h.2) behind in
    let deep = apart (decimal depth) (move_text m value ++ (event_text e ++ incoming_text m received)) 10 130 (digits depth h.0) moved in
    let all = joined (codes "step ") (decimal depth ++ (codes " " ++ (move_text m value ++ (event_text e ++ incoming_text m received)))) 5 141 (lit≤ tt) deep in
    omega arith

text_short : (line : Line) → HasLineNumbers line → MovesOn line → length (line_text line) ≤ 149
text_short (Makes depth made value received event) h m = step_short depth value received made event h
text_short (Waits ticks) h m = let l = joined (codes "stall ") (decimal ticks) 6 10 (lit≤ tt) (digits ticks h) in omega arith
text_short (Restarts reason dropped) h m = let l = three (codes "reset ") (reason_text reason) dropped (lit≤ tt) (reason_short reason) h in omega arith
text_short (Holds cause) h m = absurd m
text_short (Notes n) h m = absurd m
text_short (Errs found) h m = absurd m
text_short (Returns service head words) h m = absurd m
text_short (Leaves line) h m = absurd m
text_short (Shows row) h m = absurd m
text_short Done h m = absurd m

pub line_short : (n : ℕ) (line : Line) → IsNumber n → HasLineNumbers line → MovesOn line → length (line_with n line) ≤ 160
line_short n line h k m = apart (decimal n) (line_text line) 10 149 (digits n h) (text_short line k m)
