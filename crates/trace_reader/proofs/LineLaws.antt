-- Each line of a report is read as what it tells: its words, what they may be, and what that prints.
use Rattle.std.proofs.Common.{◌≡◌, ℕ, ◌<◌, ◌+◌, ◌-◌, length, drop, length-append, suc, add-one, List, [], ◌∷◌, ◌++◌, map, Option, Some, None, Bool, true, false, refl, ◌∙◌, ap, sym, arith, append_assoc}
use Rattle.std.specs.Prelude.{codes, decimal, option_map, bytes_eq, ◌==◌, if◌then◌else◌}
use Rattle.std.specs.Char.{is_ascii_digit}
use Rattle.std.specs.List.{position, position_or_len}
use Rattle.std.specs.Str.{all_ascii_digits}
use Rattle.std.proofs.lemmas.Bool.{and_parts}
use Rattle.std.proofs.lemmas.List.{append-nil, take_at}
use Rattle.mcal_base.specs.facts.Numbers.{lt_from, lt_itself}
use Rattle.mcal_base.specs.det_errors.Spelling.{error_text}
use Rattle.irq_control.specs.Spelling.{held_text}
use Rattle.mcal_base.specs.Names.{service_text, answer_text, notice_text}
use Rattle.mcal_base.specs.declared.answer.Head.{Head}
use Rattle.mcal_base.specs.declared.answer.Head.TheVariants as heads
use Rattle.mcal_base.specs.declared.directive.Reason.{Reason}
use Rattle.mcal_base.specs.declared.moves.DevError.{DevError}
use Rattle.mcal_base.specs.declared.moves.Event.{Event}
use Rattle.mcal_base.specs.declared.moves.Event.TheVariants as events
use Rattle.mcal_base.specs.declared.moves.Move.{Move}
use Rattle.mcal_base.specs.declared.moves.Move.TheVariants as moves
use Rattle.mcal_base.specs.declared.moves.Unit.TheVariants as units
use Rattle.mcal_base.specs.declared.notice.Notice.{Notice}
use Rattle.mcal_base.specs.declared.register.Reg.{Reg}
use Rattle.mcal_base.specs.declared.register.Reg.TheVariants as regs
use Rattle.mcal_base.specs.declared.service.Service.{Service}
use Rattle.bench_report.specs.Lines.{Line, Holds, Makes, Waits, Notes, Errs, Returns, Leaves, Restarts, Shows, Done, event_text, move_text, incoming_text, head_text, words_text, line_text, reason_text}
use Rattle.bench_report.specs.Numbers.{IsNumber, HasMoveNumbers, HasEventNumber, Each}
use Rattle.bench_report.specs.Registers.{register_text}
use Rattle.bench_report.specs.Rows.{values_text}
use Rattle.bench_report.specs.declared.rows.RowName.{RowName}
use Rattle.bench_report.specs.declared.rows.RowName.TheVariants as names
use Rattle.bench_report.specs.declared.rows.Value.{Value}
use Rattle.bench_report.specs.declared.rows.Value.TheVariants as values
use Rattle.trace_reader.specs.Guess.{words_of, before_colon, value, notice, found, marked, ending, followed, made_step, with_more, guess, each, numbered, answer, is_numeral}
use Rattle.trace_reader.specs.Numbers.{number}
use Rattle.trace_reader.specs.Told.{told, printed_head, given, incoming, mark_of}
use Rattle.trace_reader.specs.Trace.{HasLineNumbers, HasNameNumbers, HasValueNumbers}
use Rattle.trace_reader.proofs.Digits.{none, none_append, number_again, no_space, no_feed, no_stroke, not_n, digits_of, some_digit}
use Rattle.trace_reader.proofs.NameLaws.{cause_again, cause_plain, reason_again, reason_plain, notice_again, notice_plain, answer_again, answer_plain, answer_letter, error_again, error_plain, service_again, service_plain}
use Rattle.trace_reader.proofs.RegisterLaws.{register_again, register_plain}
use Rattle.trace_reader.proofs.Splits.{sp, spaced, tail_words, front_word, one_word, two_words, place_at}

-- A line is read as told: its words may be a line that prints the same and of which the same is told.
pub record IsRead (words : List (List ℕ)) (line : Line) : Type 0 where
  pub read : Line
  pub is : guess words ≡ Some read
  pub prints : line_text read ≡ line_text line
  pub tells : told read ≡ told line

-- ---- places in a text

length_more : (xs : List ℕ) (y : ℕ) (ys : List ℕ) → length xs < length (xs ++ y ∷ ys)
length_more [] y ys = omega arith
length_more (x ∷ xs) y ys = let ih = length_more xs y ys in omega arith

behind_one : (xs : List ℕ) (y : ℕ) (ys : List ℕ) → drop (suc (length xs)) (xs ++ y ∷ ys) ≡ ys
behind_one [] y ys = refl
behind_one (x ∷ xs) y ys = behind_one xs y ys

behind : (xs : List ℕ) (y : ℕ) (ys : List ℕ) → drop (length xs + 1) (xs ++ y ∷ ys) ≡ ys
behind xs y ys = rw add-one (behind_one xs y ys)

without_last : (xs : List ℕ) (y : ℕ) → before_colon (xs ++ y ∷ []) ≡ xs
without_last xs y = let e : length (xs ++ y ∷ []) - 1 ≡ length xs = omega (arith, length-append xs (y ∷ [])) in rw e (take_at xs (y ∷ []) (length xs) refl)

-- ---- the events

abbrev event_words : Option Event → List (List ℕ)
event_words None = []
event_words (Some events.Act) = codes "act" ∷ []
event_words (Some (events.Serve line)) = codes "serve" ∷ decimal line ∷ []
event_words (Some (events.Abort unit)) = codes "abort" ∷ []
event_words (Some (events.Start unit)) = codes "start" ∷ []

-- as it is read: without its unit
abbrev plain_event : Option Event → Option Event
plain_event None = None
plain_event (Some events.Act) = Some events.Act
plain_event (Some (events.Serve line)) = Some (events.Serve line)
plain_event (Some (events.Abort unit)) = Some (events.Abort units.Adc0)
plain_event (Some (events.Start unit)) = Some (events.Start units.Adc0)

event_split : (e : Option Event) (s : List ℕ) → HasEventNumber e → spaced s ≡ true → tail_words (event_text e ++ s) ≡ event_words e ++ tail_words s
event_split None s h k = refl
event_split (Some events.Act) s h k = front_word (codes "act") s refl k
event_split (Some (events.Serve line)) s h k = ap (λ (ws : List (List ℕ)). codes "serve" ∷ ws) (front_word (decimal line) s (no_space line h) k)
event_split (Some (events.Abort unit)) s h k = front_word (codes "abort") s refl k
event_split (Some (events.Start unit)) s h k = front_word (codes "start") s refl k

event_spaced : (e : Option Event) (s : List ℕ) → spaced s ≡ true → spaced (event_text e ++ s) ≡ true
event_spaced None s k = k
event_spaced (Some events.Act) s k = refl
event_spaced (Some (events.Serve line)) s k = refl
event_spaced (Some (events.Abort unit)) s k = refl
event_spaced (Some (events.Start unit)) s k = refl

event_same : (e : Option Event) → event_text (plain_event e) ≡ event_text e
event_same None = refl
event_same (Some events.Act) = refl
event_same (Some (events.Serve line)) = refl
event_same (Some (events.Abort unit)) = refl
event_same (Some (events.Start unit)) = refl

event_told : (e : Option Event) → option_map mark_of (plain_event e) ≡ option_map mark_of e
event_told None = refl
event_told (Some events.Act) = refl
event_told (Some (events.Serve line)) = refl
event_told (Some (events.Abort unit)) = refl
event_told (Some (events.Start unit)) = refl

-- ---- the words that come in

-- What is printed of an incoming word, of which the words are these, and what of it is told.
pub record Comes (made : Move) (received : ℕ) (words : List (List ℕ)) (kept : ℕ) : Type 0 where
  pub spaces : spaced (incoming_text made received) ≡ true
  pub split : tail_words (incoming_text made received) ≡ words
  pub ends : ending words ≡ Some kept
  pub plain : marked words ≡ followed None words
  pub feedless : none (λ b. b == 10) (incoming_text made received) ≡ true
  pub same : incoming_text made kept ≡ incoming_text made received
  pub tells : incoming made kept ≡ incoming made received

pub record ComesAny (made : Move) (received : ℕ) : Type 0 where
  pub words : List (List ℕ)
  pub kept : ℕ
  pub comes : Comes made received words kept

abbrev silent : (made : Move) (received : ℕ) → incoming_text made received ≡ [] → incoming_text made 0 ≡ [] → incoming made 0 ≡ incoming made received → ComesAny made received
silent made received e e0 i = record {
  words = [];
  kept = 0;
  comes = record {
    spaces = rw e refl;
    split = rw e refl;
    ends = refl;
    plain = refl;
    feedless = rw e refl;
    same = e0 ∙ sym e;
    tells = i;
  };
}

got : (unit sent received : ℕ) → IsNumber received → ComesAny (moves.Write (regs.SerialData unit) sent) received
got unit sent received h = record {
  words = codes "got" ∷ decimal received ∷ [];
  kept = received;
  comes = record {
    spaces = refl;
    split = ap (λ (ws : List (List ℕ)). codes "got" ∷ ws) (one_word (decimal received) (no_space received h));
    ends = rw (number_again received h) refl;
    plain = refl;
    feedless = no_feed received h;
    same = refl;
    tells = refl;
  };
}

comes_written : (reg : Reg) (sent received : ℕ) → IsNumber received → ComesAny (moves.Write reg sent) received
comes_written regs.EnableSet sent received h = silent (moves.Write regs.EnableSet sent) received refl refl refl
comes_written regs.EnableClear sent received h = silent (moves.Write regs.EnableClear sent) received refl refl refl
comes_written (regs.TimerTarget n) sent received h = silent (moves.Write (regs.TimerTarget n) sent) received refl refl refl
comes_written (regs.TimerPrescaler n) sent received h = silent (moves.Write (regs.TimerPrescaler n) sent) received refl refl refl
comes_written regs.TimerOneShot sent received h = silent (moves.Write regs.TimerOneShot sent) received refl refl refl
comes_written regs.TimerGateSet sent received h = silent (moves.Write regs.TimerGateSet sent) received refl refl refl
comes_written regs.TimerGateClear sent received h = silent (moves.Write regs.TimerGateClear sent) received refl refl refl
comes_written regs.TimerRun sent received h = silent (moves.Write regs.TimerRun sent) received refl refl refl
comes_written regs.TimerFlags sent received h = silent (moves.Write regs.TimerFlags sent) received refl refl refl
comes_written regs.TimerZero sent received h = silent (moves.Write regs.TimerZero sent) received refl refl refl
comes_written (regs.TimerLow n) sent received h = silent (moves.Write (regs.TimerLow n) sent) received refl refl refl
comes_written (regs.TimerHigh n) sent received h = silent (moves.Write (regs.TimerHigh n) sent) received refl refl refl
comes_written (regs.PulsePeriod n) sent received h = silent (moves.Write (regs.PulsePeriod n) sent) received refl refl refl
comes_written (regs.PulseDuty n) sent received h = silent (moves.Write (regs.PulseDuty n) sent) received refl refl refl
comes_written (regs.PulsePolarity n) sent received h = silent (moves.Write (regs.PulsePolarity n) sent) received refl refl refl
comes_written (regs.PulseCommit n) sent received h = silent (moves.Write (regs.PulseCommit n) sent) received refl refl refl
comes_written (regs.PulseIdle n) sent received h = silent (moves.Write (regs.PulseIdle n) sent) received refl refl refl
comes_written (regs.PulseOut n) sent received h = silent (moves.Write (regs.PulseOut n) sent) received refl refl refl
comes_written regs.PulseEdges sent received h = silent (moves.Write regs.PulseEdges sent) received refl refl refl
comes_written regs.PulseFlags sent received h = silent (moves.Write regs.PulseFlags sent) received refl refl refl
comes_written (regs.CaptureCondition n) sent received h = silent (moves.Write (regs.CaptureCondition n) sent) received refl refl refl
comes_written (regs.CaptureMode n) sent received h = silent (moves.Write (regs.CaptureMode n) sent) received refl refl refl
comes_written regs.CaptureGateSet sent received h = silent (moves.Write regs.CaptureGateSet sent) received refl refl refl
comes_written regs.CaptureGateClear sent received h = silent (moves.Write regs.CaptureGateClear sent) received refl refl refl
comes_written (regs.CaptureCountLow n) sent received h = silent (moves.Write (regs.CaptureCountLow n) sent) received refl refl refl
comes_written (regs.CaptureCountHigh n) sent received h = silent (moves.Write (regs.CaptureCountHigh n) sent) received refl refl refl
comes_written (regs.CaptureZero n) sent received h = silent (moves.Write (regs.CaptureZero n) sent) received refl refl refl
comes_written (regs.CaptureTimeLow n) sent received h = silent (moves.Write (regs.CaptureTimeLow n) sent) received refl refl refl
comes_written (regs.CaptureTimeHigh n) sent received h = silent (moves.Write (regs.CaptureTimeHigh n) sent) received refl refl refl
comes_written (regs.CaptureInfo n) sent received h = silent (moves.Write (regs.CaptureInfo n) sent) received refl refl refl
comes_written (regs.CapturePop n) sent received h = silent (moves.Write (regs.CapturePop n) sent) received refl refl refl
comes_written (regs.CaptureFlush n) sent received h = silent (moves.Write (regs.CaptureFlush n) sent) received refl refl refl
comes_written (regs.ConverterList n k) sent received h = silent (moves.Write (regs.ConverterList n k) sent) received refl refl refl
comes_written (regs.ConverterGo n) sent received h = silent (moves.Write (regs.ConverterGo n) sent) received refl refl refl
comes_written (regs.ConverterState n) sent received h = silent (moves.Write (regs.ConverterState n) sent) received refl refl refl
comes_written (regs.ConverterResult n k) sent received h = silent (moves.Write (regs.ConverterResult n k) sent) received refl refl refl
comes_written (regs.ConverterDone n) sent received h = silent (moves.Write (regs.ConverterDone n) sent) received refl refl refl
comes_written (regs.ConverterAbort n) sent received h = silent (moves.Write (regs.ConverterAbort n) sent) received refl refl refl
comes_written (regs.ConverterAck n) sent received h = silent (moves.Write (regs.ConverterAck n) sent) received refl refl refl
comes_written regs.TriggerSet sent received h = silent (moves.Write regs.TriggerSet sent) received refl refl refl
comes_written regs.TriggerClear sent received h = silent (moves.Write regs.TriggerClear sent) received refl refl refl
comes_written regs.TriggerFlags sent received h = silent (moves.Write regs.TriggerFlags sent) received refl refl refl
comes_written (regs.SerialSelect n) sent received h = silent (moves.Write (regs.SerialSelect n) sent) received refl refl refl
comes_written (regs.SerialWidth n) sent received h = silent (moves.Write (regs.SerialWidth n) sent) received refl refl refl
comes_written (regs.SerialData n) sent received h = got n sent received h
comes_written (regs.SerialReceived n) sent received h = silent (moves.Write (regs.SerialReceived n) sent) received refl refl refl
comes_written (regs.SerialState n) sent received h = silent (moves.Write (regs.SerialState n) sent) received refl refl refl
comes_written (regs.SerialWait n) sent received h = silent (moves.Write (regs.SerialWait n) sent) received refl refl refl
comes_written (regs.SerialAck n) sent received h = silent (moves.Write (regs.SerialAck n) sent) received refl refl refl
comes_written (regs.PinDirectionSet n) sent received h = silent (moves.Write (regs.PinDirectionSet n) sent) received refl refl refl
comes_written (regs.PinDirectionClear n) sent received h = silent (moves.Write (regs.PinDirectionClear n) sent) received refl refl refl
comes_written (regs.PinOutSet n) sent received h = silent (moves.Write (regs.PinOutSet n) sent) received refl refl refl
comes_written (regs.PinOutClear n) sent received h = silent (moves.Write (regs.PinOutClear n) sent) received refl refl refl
comes_written (regs.PinMode n) sent received h = silent (moves.Write (regs.PinMode n) sent) received refl refl refl
comes_written (regs.PortPut n) sent received h = silent (moves.Write (regs.PortPut n) sent) received refl refl refl
comes_written (regs.PortLevels n) sent received h = silent (moves.Write (regs.PortLevels n) sent) received refl refl refl
comes_written (regs.PinFlip n) sent received h = silent (moves.Write (regs.PinFlip n) sent) received refl refl refl
comes_written regs.ClockPll sent received h = silent (moves.Write regs.ClockPll sent) received refl refl refl
comes_written regs.ClockLock sent received h = silent (moves.Write regs.ClockLock sent) received refl refl refl
comes_written regs.ClockRate sent received h = silent (moves.Write regs.ClockRate sent) received refl refl refl
comes_written regs.ResetReason sent received h = silent (moves.Write regs.ResetReason sent) received refl refl refl
comes_written regs.ResetRequest sent received h = silent (moves.Write regs.ResetRequest sent) received refl refl refl
comes_written regs.WatchdogLoad sent received h = silent (moves.Write regs.WatchdogLoad sent) received refl refl refl
comes_written (regs.Ram n) sent received h = silent (moves.Write (regs.Ram n) sent) received refl refl refl

pub comes : (made : Move) (received : ℕ) → IsNumber received → ComesAny made received
comes (moves.Read reg) received h = silent (moves.Read reg) received refl refl refl
comes (moves.Write reg sent) received h = comes_written reg sent received h
comes (moves.Load word) received h = silent (moves.Load word) received refl refl refl
comes (moves.Store word stored) received h = silent (moves.Store word stored) received refl refl refl
comes moves.Mask received h = silent moves.Mask received refl refl refl
comes moves.Unmask received h = silent moves.Unmask received refl refl refl
comes (moves.Note notice) received h = silent (moves.Note notice) received refl refl refl
comes (moves.Report found) received h = silent (moves.Report found) received refl refl refl

-- the event and the incoming word are read
followed_again : (event : Option Event) (made : Move) (received : ℕ) (c : ComesAny made received) → followed event c.words ≡ Some (event, c.kept)
followed_again event made received c = ap (λ (o : Option ℕ). option_map (λ n. (event, n)) o) c.comes.ends

marked_again : (made : Move) (e : Option Event) (received : ℕ) (c : ComesAny made received) → HasEventNumber e → marked (event_words e ++ c.words) ≡ Some (plain_event e, c.kept)
marked_again made None received c h = c.comes.plain ∙ followed_again None made received c
marked_again made (Some events.Act) received c h = followed_again (Some events.Act) made received c
marked_again made (Some (events.Serve line)) received c h = rw (number_again line h) (followed_again (Some (events.Serve line)) made received c)
marked_again made (Some (events.Abort unit)) received c h = followed_again (Some (events.Abort units.Adc0)) made received c
marked_again made (Some (events.Start unit)) received c h = followed_again (Some (events.Start units.Adc0)) made received c

made_again : (depth value : ℕ) (made : Move) (e : Option Event) (received : ℕ) (c : ComesAny made received) → HasEventNumber e → made_step depth made value (event_words e ++ c.words) ≡ Some (Makes depth made value c.kept (plain_event e))
made_again depth value made e received c h = ap (λ (o : Option (Option Event × ℕ)). option_map (λ m. Makes depth made value m.1 m.0) o) (marked_again made e received c h)

-- ---- the moves

abbrev error_word : Bool → List ℕ
error_word true = codes "runtime"
error_word false = codes "report"

abbrev move_words : Move → ℕ → List (List ℕ)
move_words (moves.Read reg) value = codes "read" ∷ register_text reg ∷ decimal value ∷ []
move_words (moves.Write reg written) value = codes "write" ∷ register_text reg ∷ decimal written ∷ []
move_words (moves.Load word) value = codes "load" ∷ (119 ∷ decimal word) ∷ decimal value ∷ []
move_words (moves.Store word stored) value = codes "store" ∷ (119 ∷ decimal word) ∷ decimal stored ∷ []
move_words moves.Mask value = codes "mask" ∷ []
move_words moves.Unmask value = codes "unmask" ∷ []
move_words (moves.Note n) value = codes "note" ∷ notice_text n.kind ∷ decimal n.id ∷ []
move_words (moves.Report e) value = error_word e.runtime ∷ service_text e.service ∷ error_text e.error ∷ []

report_split : (b : Bool) (service : Service) (error : List ℕ) (s : List ℕ) → none sp error ≡ true → spaced s ≡ true → words_of (((if b then codes "runtime" else codes "report") ++ (codes " " ++ (service_text service ++ (codes " " ++ error)))) ++ s) ≡ error_word b ∷ service_text service ∷ error ∷ tail_words s
report_split true service error s h k = ap (λ (ws : List (List ℕ)). codes "runtime" ∷ ws) (two_words (service_text service) error s (service_plain service) h k)
report_split false service error s h k = ap (λ (ws : List (List ℕ)). codes "report" ∷ ws) (two_words (service_text service) error s (service_plain service) h k)

move_split : (m : Move) (value : ℕ) (s : List ℕ) → HasMoveNumbers m → IsNumber value → spaced s ≡ true → words_of (move_text m value ++ s) ≡ move_words m value ++ tail_words s
move_split (moves.Read reg) value s h v k = ap (λ (ws : List (List ℕ)). codes "read" ∷ ws) (two_words (register_text reg) (decimal value) s (register_plain reg h) (no_space value v) k)
move_split (moves.Write reg written) value s h v k = ap (λ (ws : List (List ℕ)). codes "write" ∷ ws) (two_words (register_text reg) (decimal written) s (register_plain reg h.0) (no_space written h.1) k)
move_split (moves.Load word) value s h v k = ap (λ (ws : List (List ℕ)). codes "load" ∷ ws) (two_words (119 ∷ decimal word) (decimal value) s (no_space word h) (no_space value v) k)
move_split (moves.Store word stored) value s h v k = ap (λ (ws : List (List ℕ)). codes "store" ∷ ws) (two_words (119 ∷ decimal word) (decimal stored) s (no_space word h.0) (no_space stored h.1) k)
move_split moves.Mask value s h v k = front_word (codes "mask") s refl k
move_split moves.Unmask value s h v k = front_word (codes "unmask") s refl k
move_split (moves.Note n) value s h v k = ap (λ (ws : List (List ℕ)). codes "note" ∷ ws) (two_words (notice_text n.kind) (decimal n.id) s (notice_plain n.kind) (no_space n.id h) k)
move_split (moves.Report e) value s h v k = report_split e.runtime e.service (error_text e.error) s (error_plain e.error) k

report_again : (depth received : ℕ) (b : Bool) (service : Service) (n : DevError) (e : Option Event) (c : ComesAny (moves.Report n) received) → IsNumber depth → HasEventNumber e → n ≡ record { service = service; error = n.error; runtime = b } →
    guess (codes "step" ∷ decimal depth ∷ (error_word b ∷ service_text service ∷ error_text n.error ∷ (event_words e ++ c.words))) ≡ Some (Makes depth (moves.Report n) 0 c.kept (plain_event e))
unfolding with_more
report_again depth received true service n e c d h same = rw (number_again depth d, service_again service, error_again n.error, ← same) (made_again depth 0 (moves.Report n) e received c h)
report_again depth received false service n e c d h same = rw (number_again depth d, service_again service, error_again n.error, ← same) (made_again depth 0 (moves.Report n) e received c h)

-- the move, the event and the incoming word are read
step_again : (depth value received : ℕ) (m : Move) (e : Option Event) (c : ComesAny m received) → IsNumber depth → HasMoveNumbers m → IsNumber value → HasEventNumber e →
    guess (codes "step" ∷ decimal depth ∷ (move_words m value ++ (event_words e ++ c.words))) ≡ Some (Makes depth m (given m value) c.kept (plain_event e))
unfolding with_more
step_again depth value received (moves.Read reg) e c d h v k = rw (number_again depth d, register_again reg h, number_again value v) (made_again depth value (moves.Read reg) e received c k)
step_again depth value received (moves.Write reg written) e c d h v k = rw (number_again depth d, register_again reg h.0, number_again written h.1) (made_again depth 0 (moves.Write reg written) e received c k)
step_again depth value received (moves.Load word) e c d h v k = rw (number_again depth d, number_again word h, number_again value v) (made_again depth value (moves.Load word) e received c k)
step_again depth value received (moves.Store word stored) e c d h v k = rw (number_again depth d, number_again word h.0, number_again stored h.1) (made_again depth 0 (moves.Store word stored) e received c k)
step_again depth value received moves.Mask e c d h v k = rw (number_again depth d) (made_again depth 0 moves.Mask e received c k)
step_again depth value received moves.Unmask e c d h v k = rw (number_again depth d) (made_again depth 0 moves.Unmask e received c k)
step_again depth value received (moves.Note n) e c d h v k = rw (number_again depth d, notice_again n.kind, number_again n.id h) (made_again depth 0 (moves.Note n) e received c k)
step_again depth value received (moves.Report n) e c d h v k = report_again depth received n.runtime n.service n e c d k refl

move_same : (m : Move) (value : ℕ) → move_text m (given m value) ≡ move_text m value
move_same (moves.Read reg) value = refl
move_same (moves.Write reg written) value = refl
move_same (moves.Load word) value = refl
move_same (moves.Store word stored) value = refl
move_same moves.Mask value = refl
move_same moves.Unmask value = refl
move_same (moves.Note n) value = refl
move_same (moves.Report n) value = refl

given_same : (m : Move) (value : ℕ) → given m (given m value) ≡ given m value
given_same (moves.Read reg) value = refl
given_same (moves.Write reg written) value = refl
given_same (moves.Load word) value = refl
given_same (moves.Store word stored) value = refl
given_same moves.Mask value = refl
given_same moves.Unmask value = refl
given_same (moves.Note n) value = refl
given_same (moves.Report n) value = refl

-- a line by its words
by_words : (ws words : List (List ℕ)) (read line : Line) → ws ≡ words → guess words ≡ Some read → line_text read ≡ line_text line → told read ≡ told line → IsRead ws line
by_words ws words read line e g p t = record { read = read; is = ap guess e ∙ g; prints = p; tells = t }

step_split : (depth value received : ℕ) (m : Move) (e : Option Event) (c : ComesAny m received) → IsNumber depth → HasMoveNumbers m → IsNumber value → HasEventNumber e →
    words_of (line_text (Makes depth m value received e)) ≡ codes "step" ∷ decimal depth ∷ (move_words m value ++ (event_words e ++ c.words))
step_split depth value received m e c d h v k =
    let behind = event_text e ++ incoming_text m received in
    let s : spaced behind ≡ true = event_spaced e (incoming_text m received) c.comes.spaces in
    ap (λ (ws : List (List ℕ)). codes "step" ∷ ws)
    (front_word (decimal depth) (codes " " ++ (move_text m value ++ behind)) (no_space depth d) refl
    ∙ ap (λ (ws : List (List ℕ)). decimal depth ∷ ws)
    (move_split m value behind h v s
    ∙ ap (λ (ws : List (List ℕ)). move_words m value ++ ws)
    (event_split e (incoming_text m received) k c.comes.spaces ∙ ap (λ (ws : List (List ℕ)). event_words e ++ ws) c.comes.split)))

step_read : (depth value received : ℕ) (m : Move) (e : Option Event) (c : ComesAny m received) → IsNumber depth → HasMoveNumbers m → IsNumber value → HasEventNumber e →
    IsRead (words_of (line_text (Makes depth m value received e))) (Makes depth m value received e)
step_read depth value received m e c d h v k =
    by_words _ (codes "step" ∷ decimal depth ∷ (move_words m value ++ (event_words e ++ c.words))) (Makes depth m (given m value) c.kept (plain_event e)) (Makes depth m value received e)
    (step_split depth value received m e c d h v k)
    (step_again depth value received m e c d h v k)
    (rw (move_same m value, event_same e, c.comes.same) refl)
    (rw (given_same m value, event_told e, c.comes.tells) refl)

-- ---- the other lines

two_end : (a b : List ℕ) → none sp a ≡ true → none sp b ≡ true → words_of (a ++ (codes " " ++ b)) ≡ a ∷ b ∷ []
two_end a b ha hb = front_word a (codes " " ++ b) ha refl ∙ ap (λ (ws : List (List ℕ)). a ∷ ws) (one_word b hb)

held_read : (cause : _) → IsRead (words_of (line_text (Holds cause))) (Holds cause)
held_read cause = by_words _ (codes "held" ∷ held_text cause ∷ []) (Holds cause) (Holds cause) (ap (λ (ws : List (List ℕ)). codes "held" ∷ ws) (one_word (held_text cause) (cause_plain cause))) (rw (cause_again cause) refl) refl refl

note_read : (n : Notice) → IsNumber n.id → IsRead (words_of (line_text (Notes n))) (Notes n)
unfolding with_more
note_read n h = by_words _ (codes "note" ∷ notice_text n.kind ∷ decimal n.id ∷ []) (Notes n) (Notes n) (ap (λ (ws : List (List ℕ)). codes "note" ∷ ws) (two_end (notice_text n.kind) (decimal n.id) (notice_plain n.kind) (no_space n.id h))) (rw (notice_again n.kind, number_again n.id h) refl) refl refl

erred_split : (b : Bool) (service : Service) (error : List ℕ) → none sp error ≡ true → words_of ((if b then codes "runtime" else codes "error") ++ (codes " " ++ (service_text service ++ (codes " " ++ error)))) ≡ (if b then codes "runtime" else codes "error") ∷ service_text service ∷ error ∷ []
erred_split true service error h = ap (λ (ws : List (List ℕ)). codes "runtime" ∷ ws) (two_end (service_text service) error (service_plain service) h)
erred_split false service error h = ap (λ (ws : List (List ℕ)). codes "error" ∷ ws) (two_end (service_text service) error (service_plain service) h)

erred_guess : (b : Bool) (n : DevError) → n ≡ record { service = n.service; error = n.error; runtime = b } → guess ((if b then codes "runtime" else codes "error") ∷ service_text n.service ∷ error_text n.error ∷ []) ≡ Some (Errs n)
unfolding with_more
erred_guess true n same = rw (service_again n.service, error_again n.error, ← same) refl
erred_guess false n same = rw (service_again n.service, error_again n.error, ← same) refl

erred_read : (n : DevError) → IsRead (words_of (line_text (Errs n))) (Errs n)
erred_read n = by_words _ ((if n.runtime then codes "runtime" else codes "error") ∷ service_text n.service ∷ error_text n.error ∷ []) (Errs n) (Errs n) (erred_split n.runtime n.service (error_text n.error) (error_plain n.error)) (erred_guess n.runtime n refl) refl refl

left_read : (line : ℕ) → IsNumber line → IsRead (words_of (line_text (Leaves line))) (Leaves line)
left_read line h = by_words _ (codes "left" ∷ decimal line ∷ []) (Leaves line) (Leaves line) (ap (λ (ws : List (List ℕ)). codes "left" ∷ ws) (one_word (decimal line) (no_space line h))) (rw (number_again line h) refl) refl refl

wait_read : (ticks : ℕ) → IsNumber ticks → IsRead (words_of (line_text (Waits ticks))) (Waits ticks)
wait_read ticks h = by_words _ (codes "stall" ∷ decimal ticks ∷ []) (Waits ticks) (Waits ticks) (ap (λ (ws : List (List ℕ)). codes "stall" ∷ ws) (one_word (decimal ticks) (no_space ticks h))) (rw (number_again ticks h) refl) refl refl

reset_read : (reason : Reason) (dropped : ℕ) → IsNumber dropped → IsRead (words_of (line_text (Restarts reason dropped))) (Restarts reason dropped)
unfolding with_more
reset_read reason dropped h = by_words _ (codes "reset" ∷ reason_text reason ∷ decimal dropped ∷ []) (Restarts reason dropped) (Restarts reason dropped) (ap (λ (ws : List (List ℕ)). codes "reset" ∷ ws) (two_end (reason_text reason) (decimal dropped) (reason_plain reason) (no_space dropped h))) (rw (reason_again reason, number_again dropped h) refl) refl refl

-- ---- answers

words_spaced : (ns : List ℕ) → spaced (words_text ns) ≡ true
words_spaced [] = refl
words_spaced (n ∷ ns) = refl

words_split : (ns : List ℕ) → Each IsNumber ns → tail_words (words_text ns) ≡ map decimal ns
words_split [] h = refl
words_split (n ∷ ns) h = front_word (decimal n) (words_text ns) (no_space n h.0) (words_spaced ns) ∙ ap (λ (ws : List (List ℕ)). decimal n ∷ ws) (words_split ns h.1)

each_again : (ns : List ℕ) → Each IsNumber ns → each number (map decimal ns) ≡ Some ns
each_again [] h = refl
each_again (n ∷ ns) h = rw (number_again n h.0, each_again ns h.1) refl

digit_first : (ds : List ℕ) → 0 < length ds → all_ascii_digits ds ≡ true → is_numeral ds ≡ true
digit_first [] some h = absurd (omega arith)
digit_first (b ∷ bs) some h = (and_parts (is_ascii_digit b) (all_ascii_digits bs) h).0

is_number : (n : ℕ) → IsNumber n → is_numeral (decimal n) ≡ true
is_number n h = digit_first (decimal n) (some_digit n h) (digits_of n h)

not_null_digits : (ds : List ℕ) → 0 < length ds → all_ascii_digits ds ≡ true → bytes_eq ds (codes "null") ≡ false
not_null_digits [] some h = absurd (omega arith)
not_null_digits (b ∷ bs) some h = let p = and_parts (is_ascii_digit b) (all_ascii_digits bs) h in rw (not_n b p.0) refl

not_null : (n : ℕ) → IsNumber n → bytes_eq (decimal n) (codes "null") ≡ false
not_null n h = not_null_digits (decimal n) (some_digit n h) (digits_of n h)

numbers_again : (s : Service) (ns : List ℕ) → Each IsNumber ns → numbered s (map decimal ns) ≡ Some (Returns s heads.Numbers ns)
numbers_again s [] h = refl
numbers_again s (a ∷ []) h = rw (number_again a h.0) refl
numbers_again s (a ∷ b ∷ ns) h = rw (not_null b h.1.0, number_again a h.0, number_again b h.1.0, each_again ns h.1.1) refl

-- an answer of numbers alone, or of nothing
plain_head : List ℕ → Head
plain_head [] = heads.Nothing
plain_head (n ∷ ns) = heads.Numbers

plain_again : (s : Service) (ns : List ℕ) → Each IsNumber ns → answer s (map decimal ns) ≡ Some (Returns s (plain_head ns) ns)
unfolding plain_head
plain_again s [] h = refl
plain_again s (n ∷ ns) h = rw (is_number n h.0) (numbers_again s (n ∷ ns) h)

plain_text : (ns : List ℕ) → head_text (plain_head ns) ≡ []
unfolding plain_head
plain_text [] = refl
plain_text (n ∷ ns) = refl

return_guess : (s : Service) (words : List (List ℕ)) (read : Line) → answer s words ≡ Some read → guess (codes "return" ∷ service_text s ∷ words) ≡ Some read
return_guess s words read h = rw (service_again s) h

return_split : (s : Service) (t : List ℕ) (words : List (List ℕ)) → spaced t ≡ true → tail_words t ≡ words → words_of (codes "return " ++ (service_text s ++ t)) ≡ codes "return" ∷ service_text s ∷ words
return_split s t words k e = ap (λ (ws : List (List ℕ)). codes "return" ∷ ws) (front_word (service_text s) t (service_plain s) k ∙ ap (λ (ws : List (List ℕ)). service_text s ∷ ws) e)

plain_printed : (ns : List ℕ) → printed_head (plain_head ns) ≡ heads.Nothing
unfolding plain_head
plain_printed [] = refl
plain_printed (n ∷ ns) = refl

plain_prints : (s : Service) (head : Head) (ns : List ℕ) → head_text head ≡ [] → line_text (Returns s (plain_head ns) ns) ≡ line_text (Returns s head ns)
plain_prints s head ns e = rw (plain_text ns, e) refl

return_read : (s : Service) (head : Head) (ns : List ℕ) → Each IsNumber ns → IsRead (words_of (line_text (Returns s head ns))) (Returns s head ns)
return_read s heads.Nothing ns h = by_words _ (codes "return" ∷ service_text s ∷ map decimal ns) (Returns s (plain_head ns) ns) (Returns s heads.Nothing ns) (return_split s (words_text ns) (map decimal ns) (words_spaced ns) (words_split ns h)) (return_guess s (map decimal ns) _ (plain_again s ns h)) (plain_prints s heads.Nothing ns refl) (rw (plain_printed ns) refl)
return_read s heads.Numbers ns h = by_words _ (codes "return" ∷ service_text s ∷ map decimal ns) (Returns s (plain_head ns) ns) (Returns s heads.Numbers ns) (return_split s (words_text ns) (map decimal ns) (words_spaced ns) (words_split ns h)) (return_guess s (map decimal ns) _ (plain_again s ns h)) (plain_prints s heads.Numbers ns refl) (rw (plain_printed ns) refl)
return_read s heads.ZeroNull ns h =
    by_words _ (codes "return" ∷ service_text s ∷ codes "0" ∷ codes "null" ∷ map decimal ns) (Returns s heads.ZeroNull ns) (Returns s heads.ZeroNull ns)
    (return_split s (codes " 0 null" ++ words_text ns) (codes "0" ∷ codes "null" ∷ map decimal ns) refl (ap (λ (ws : List (List ℕ)). codes "0" ∷ ws) (front_word (codes "null") (words_text ns) refl (words_spaced ns)) ∙ ap (λ (ws : List (List ℕ)). codes "0" ∷ codes "null" ∷ ws) (words_split ns h)))
    (return_guess s (codes "0" ∷ codes "null" ∷ map decimal ns) _ (rw (each_again ns h) refl)) refl refl
return_read s (heads.Name a) ns h =
    by_words _ (codes "return" ∷ service_text s ∷ answer_text a ∷ map decimal ns) (Returns s (heads.Name a) ns) (Returns s (heads.Name a) ns)
    (return_split s ((codes " " ++ answer_text a) ++ words_text ns) (answer_text a ∷ map decimal ns) refl (front_word (answer_text a) (words_text ns) (answer_plain a) (words_spaced ns) ∙ ap (λ (ws : List (List ℕ)). answer_text a ∷ ws) (words_split ns h)))
    (return_guess s (answer_text a ∷ map decimal ns) _ (rw (answer_letter a, answer_again a, each_again ns h) refl)) refl refl

-- ---- rows

abbrev value_word : Value → List ℕ
value_word (values.One n) = decimal n
value_word (values.Pair sent received) = decimal sent ++ (codes "/" ++ decimal received)

stroke_plain : (sent received : ℕ) → IsNumber sent → IsNumber received → none sp (decimal sent ++ (codes "/" ++ decimal received)) ≡ true
stroke_plain sent received h k = none_append sp (decimal sent) (codes "/" ++ decimal received) (no_space sent h) (no_space received k)

values_spaced : (vs : List Value) → spaced (values_text vs) ≡ true
values_spaced [] = refl
values_spaced (values.One n ∷ vs) = refl
values_spaced (values.Pair sent received ∷ vs) = refl

values_split : (vs : List Value) → Each HasValueNumbers vs → tail_words (values_text vs) ≡ map value_word vs
values_split [] h = refl
values_split (values.One n ∷ vs) h = front_word (decimal n) (values_text vs) (no_space n h.0) (values_spaced vs) ∙ ap (λ (ws : List (List ℕ)). decimal n ∷ ws) (values_split vs h.1)
values_split (values.Pair sent received ∷ vs) h =
    front_word (decimal sent ++ (codes "/" ++ decimal received)) (values_text vs) (stroke_plain sent received h.0.0 h.0.1) (values_spaced vs)
    ∙ ap (λ (ws : List (List ℕ)). (decimal sent ++ (codes "/" ++ decimal received)) ∷ ws) (values_split vs h.1)

no_place : (p : ℕ → Bool) (xs : List ℕ) → none p xs ≡ true → position p xs ≡ None
no_place p xs h = let e : position_or_len p xs ≡ length xs = ap (position_or_len p) (sym (append-nil xs)) ∙ place_at p xs [] h refl in rw e (rw (lt_itself (length xs)) refl)

one_place : (p : ℕ → Bool) (xs : List ℕ) (y : ℕ) (ys : List ℕ) → none p xs ≡ true → p y ≡ true → position p (xs ++ y ∷ ys) ≡ Some (length xs)
one_place p xs y ys h k = rw (place_at p xs (y ∷ ys) h k) (rw (lt_from (length xs) (length (xs ++ y ∷ ys)) (length_more xs y ys)) refl)

value_again : (v : Value) → HasValueNumbers v → value (value_word v) ≡ Some v
value_again (values.One n) h = rw (no_place (λ b. b == 47) (decimal n) (no_stroke n h)) (rw (number_again n h) refl)
value_again (values.Pair sent received) h =
    rw (one_place (λ b. b == 47) (decimal sent) 47 (decimal received) (no_stroke sent h.0) refl)
    (rw (take_at (decimal sent) (47 ∷ decimal received) (length (decimal sent)) refl, behind (decimal sent) 47 (decimal received), number_again sent h.0, number_again received h.1) refl)

values_again : (vs : List Value) → Each HasValueNumbers vs → each value (map value_word vs) ≡ Some vs
values_again [] h = refl
values_again (v ∷ vs) h = rw (value_again v h.0, values_again vs h.1) refl

-- a number before a colon
colon_at : (n : ℕ) → IsNumber n → number (before_colon (decimal n ++ codes ":")) ≡ Some n
colon_at n h = ap number (without_last (decimal n) 58) ∙ number_again n h

colon_plain : (n : ℕ) → IsNumber n → none sp (decimal n ++ codes ":") ≡ true
colon_plain n h = none_append sp (decimal n) (codes ":") (no_space n h) refl

colon_split : (n : ℕ) (vs : List Value) → IsNumber n → Each HasValueNumbers vs → words_of (decimal n ++ (codes ":" ++ values_text vs)) ≡ (decimal n ++ codes ":") ∷ map value_word vs
colon_split n vs h k =
    ap words_of (sym (append_assoc (decimal n) (codes ":") (values_text vs)))
    ∙ (front_word (decimal n ++ codes ":") (values_text vs) (colon_plain n h) (values_spaced vs) ∙ ap (λ (ws : List (List ℕ)). (decimal n ++ codes ":") ∷ ws) (values_split vs k))

channel_split : (c : ℕ) (word text : List ℕ) (vs : List Value) → none sp word ≡ true → text ≡ codes " " ++ word → IsNumber c → Each HasValueNumbers vs →
    words_of ((decimal c ++ text) ++ values_text vs) ≡ decimal c ∷ word ∷ map value_word vs
channel_split c word text vs p same h k =
    ap words_of (append_assoc (decimal c) text (values_text vs) ∙ ap (λ (t : List ℕ). decimal c ++ (t ++ values_text vs)) same)
    ∙ (front_word (decimal c) (codes " " ++ (word ++ values_text vs)) (no_space c h) refl
    ∙ ap (λ (ws : List (List ℕ)). decimal c ∷ ws) (front_word word (values_text vs) p (values_spaced vs) ∙ ap (λ (ws : List (List ℕ)). word ∷ ws) (values_split vs k)))

-- the same, with the colon behind the channel's word
channel_words_split : (c : ℕ) (word : List ℕ) (vs : List Value) → none sp (word ++ codes ":") ≡ true → IsNumber c → Each HasValueNumbers vs →
    words_of ((decimal c ++ (codes " " ++ word)) ++ (codes ":" ++ values_text vs)) ≡ decimal c ∷ (word ++ codes ":") ∷ map value_word vs
channel_words_split c word vs p h k =
    ap words_of (append_assoc (decimal c) (codes " " ++ word) (codes ":" ++ values_text vs) ∙ ap (λ (t : List ℕ). decimal c ++ (codes " " ++ t)) (sym (append_assoc word (codes ":") (values_text vs))))
    ∙ (front_word (decimal c) (codes " " ++ ((word ++ codes ":") ++ values_text vs)) (no_space c h) refl
    ∙ ap (λ (ws : List (List ℕ)). decimal c ∷ ws) (front_word (word ++ codes ":") (values_text vs) p (values_spaced vs) ∙ ap (λ (ws : List (List ℕ)). (word ++ codes ":") ∷ ws) (values_split vs k)))

results_split : (g b : ℕ) (vs : List Value) → IsNumber g → IsNumber b → Each HasValueNumbers vs →
    words_of ((decimal g ++ (codes " " ++ decimal b)) ++ (codes ":" ++ values_text vs)) ≡ decimal g ∷ (decimal b ++ codes ":") ∷ map value_word vs
results_split g b vs h k v = channel_words_split g (decimal b) vs (colon_plain b k) h v

row_line : RowName → List Value → Line
row_line name vs = Shows (record { name = name; values = vs })

row_read : (name : RowName) (vs : List Value) → HasNameNumbers name → Each HasValueNumbers vs → IsRead (words_of (line_text (row_line name vs))) (row_line name vs)
unfolding row_line
row_read (names.Pin n) vs h k = by_words _ (codes "pin" ∷ (decimal n ++ codes ":") ∷ map value_word vs) (row_line (names.Pin n) vs) (row_line (names.Pin n) vs) (ap (λ (ws : List (List ℕ)). codes "pin" ∷ ws) (colon_split n vs h k)) (rw (colon_at n h, values_again vs k) refl) refl refl
row_read (names.Ram n) vs h k = by_words _ (codes "ram" ∷ (decimal n ++ codes ":") ∷ map value_word vs) (row_line (names.Ram n) vs) (row_line (names.Ram n) vs) (ap (λ (ws : List (List ℕ)). codes "ram" ∷ ws) (colon_split n vs h k)) (rw (colon_at n h, values_again vs k) refl) refl refl
row_read (names.Wire n) vs h k = by_words _ (codes "wire" ∷ (decimal n ++ codes ":") ∷ map value_word vs) (row_line (names.Wire n) vs) (row_line (names.Wire n) vs) (ap (λ (ws : List (List ℕ)). codes "wire" ∷ ws) (colon_split n vs h k)) (rw (colon_at n h, values_again vs k) refl) refl refl
row_read (names.Stamps n) vs h k = by_words _ (codes "icu" ∷ (decimal n ++ codes ":") ∷ map value_word vs) (row_line (names.Stamps n) vs) (row_line (names.Stamps n) vs) (ap (λ (ws : List (List ℕ)). codes "icu" ∷ ws) (colon_split n vs h k)) (rw (colon_at n h, values_again vs k) refl) refl refl
row_read (names.Results g b) vs h k = by_words _ (codes "adc" ∷ decimal g ∷ (decimal b ++ codes ":") ∷ map value_word vs) (row_line (names.Results g b) vs) (row_line (names.Results g b) vs) (ap (λ (ws : List (List ℕ)). codes "adc" ∷ ws) (results_split g b vs h.0 h.1 k)) (rw (number_again g h.0, colon_at b h.1, values_again vs k) refl) refl refl
row_read (names.Source c) vs h k = by_words _ (codes "spi" ∷ decimal c ∷ codes "src:" ∷ map value_word vs) (row_line (names.Source c) vs) (row_line (names.Source c) vs) (ap (λ (ws : List (List ℕ)). codes "spi" ∷ ws) (channel_words_split c (codes "src") vs refl h k)) (rw (number_again c h, values_again vs k) refl) refl refl
row_read (names.Destination c) vs h k = by_words _ (codes "spi" ∷ decimal c ∷ codes "dst:" ∷ map value_word vs) (row_line (names.Destination c) vs) (row_line (names.Destination c) vs) (ap (λ (ws : List (List ℕ)). codes "spi" ∷ ws) (channel_words_split c (codes "dst") vs refl h k)) (rw (number_again c h, values_again vs k) refl) refl refl
row_read (names.Transmit c) vs h k = by_words _ (codes "spi" ∷ decimal c ∷ codes "tx:" ∷ map value_word vs) (row_line (names.Transmit c) vs) (row_line (names.Transmit c) vs) (ap (λ (ws : List (List ℕ)). codes "spi" ∷ ws) (channel_words_split c (codes "tx") vs refl h k)) (rw (number_again c h, values_again vs k) refl) refl refl
row_read (names.Receive c) vs h k = by_words _ (codes "spi" ∷ decimal c ∷ codes "rx:" ∷ map value_word vs) (row_line (names.Receive c) vs) (row_line (names.Receive c) vs) (ap (λ (ws : List (List ℕ)). codes "spi" ∷ ws) (channel_words_split c (codes "rx") vs refl h k)) (rw (number_again c h, values_again vs k) refl) refl refl

-- ---- all lines

pub read_again : (line : Line) → HasLineNumbers line → IsRead (words_of (line_text line)) line
unfolding row_line
read_again (Holds cause) h = held_read cause
read_again (Makes depth made given_value received event) h = step_read depth given_value received made event (comes made received h.3) h.0 h.1 h.2 h.4
read_again (Waits ticks) h = wait_read ticks h
read_again (Notes n) h = note_read n h
read_again (Errs n) h = erred_read n
read_again (Returns service head ns) h = return_read service head ns h
read_again (Leaves line) h = left_read line h
read_again (Restarts reason dropped) h = reset_read reason dropped h
read_again (Shows row) h = row_read row.name row.values h.0 h.1
read_again Done h = by_words _ (codes "ok" ∷ []) Done Done refl refl refl refl
