-- No line of a report holds a line feed but the one at its end.
use Rattle.std.proofs.Common.{◌≡◌, ℕ, List, [], ◌∷◌, ◌++◌, Option, Some, None, Bool, true, false, refl}
use Rattle.std.specs.Prelude.{◌==◌, codes, decimal, if◌then◌else◌}
use Rattle.mcal_base.specs.det_errors.Spelling.{error_text}
use Rattle.irq_control.specs.Spelling.{held_text}
use Rattle.irq_control.specs.declared.held.Held.{Held}
use Rattle.mcal_base.specs.Names.{service_text, answer_text, notice_text}
use Rattle.mcal_base.specs.declared.answer.Head.{Head}
use Rattle.mcal_base.specs.declared.answer.Head.TheVariants as heads
use Rattle.mcal_base.specs.declared.answer_name.AnswerName.{AnswerName}
use Rattle.mcal_base.specs.declared.directive.Reason.{Reason}
use Rattle.mcal_base.specs.declared.error_name.ErrorName.{ErrorName}
use Rattle.mcal_base.specs.declared.moves.Event.TheVariants as events
use Rattle.mcal_base.specs.declared.moves.Event.{Event}
use Rattle.mcal_base.specs.declared.moves.Move.{Move}
use Rattle.mcal_base.specs.declared.moves.Move.TheVariants as moves
use Rattle.mcal_base.specs.declared.notice.NoticeKind.{NoticeKind}
use Rattle.mcal_base.specs.declared.register.Reg.{Reg}
use Rattle.mcal_base.specs.declared.service.Service.{Service}
use Rattle.bench_report.specs.Lines.{Line, Holds, Makes, Waits, Notes, Errs, Returns, Leaves, Restarts, Shows, Done, event_text, move_text, head_text, words_text, line_text, reason_text}
use Rattle.bench_report.specs.Numbers.{IsNumber, HasNumbers, HasMoveNumbers, HasEventNumber, Each}
use Rattle.bench_report.specs.Registers.{register_text}
use Rattle.bench_report.specs.Rows.{name_text, values_text}
use Rattle.bench_report.specs.declared.rows.RowName.{RowName}
use Rattle.bench_report.specs.declared.rows.RowName.TheVariants as names
use Rattle.bench_report.specs.declared.rows.Value.{Value}
use Rattle.bench_report.specs.declared.rows.Value.TheVariants as values
use Rattle.trace_reader.specs.Trace.{HasLineNumbers, HasNameNumbers, HasValueNumbers}
use Rattle.trace_reader.proofs.Digits.{none, none_append, no_feed}
use Rattle.trace_reader.proofs.LineLaws.{ComesAny, comes}
use Rattle.trace_reader.proofs.NameLaws.{answer_solid, cause_solid, error_solid, notice_solid, reason_solid, service_solid}
use Rattle.trace_reader.proofs.RegisterLaws.{register_solid}
use Rattle.trace_reader.proofs.Splits.{feedless}

-- a line feed
abbrev pub nl : ℕ → Bool
nl b = b == 10

cause_feedless : (x : Held) → none nl (held_text x) ≡ true
cause_feedless x = feedless (held_text x) (cause_solid x)

reason_feedless : (x : Reason) → none nl (reason_text x) ≡ true
reason_feedless x = feedless (reason_text x) (reason_solid x)

notice_feedless : (x : NoticeKind) → none nl (notice_text x) ≡ true
notice_feedless x = feedless (notice_text x) (notice_solid x)

answer_feedless : (x : AnswerName) → none nl (answer_text x) ≡ true
answer_feedless x = feedless (answer_text x) (answer_solid x)

error_feedless : (x : ErrorName) → none nl (error_text x) ≡ true
error_feedless x = feedless (error_text x) (error_solid x)

service_feedless : (x : Service) → none nl (service_text x) ≡ true
service_feedless x = feedless (service_text x) (service_solid x)

-- a number before letters
before : (n : ℕ) (b : List ℕ) → IsNumber n → none nl b ≡ true → none nl (decimal n ++ b) ≡ true
before n b h k = none_append nl (decimal n) b (no_feed n h) k

-- a word before a number or letters
behind : (a b : List ℕ) → none nl a ≡ true → none nl b ≡ true → none nl (a ++ (codes " " ++ b)) ≡ true
behind a b h k = none_append nl a (codes " " ++ b) h k

register_feedless : (r : Reg) → HasNumbers r → none nl (register_text r) ≡ true
register_feedless r h = feedless (register_text r) (register_solid r h)

found_feedless : (word : List ℕ) (b : Bool) (service : Service) (error : List ℕ) → none nl word ≡ true → none nl error ≡ true → none nl ((if b then codes "runtime" else word) ++ (codes " " ++ (service_text service ++ (codes " " ++ error)))) ≡ true
found_feedless word true service error w h = behind (service_text service) error (service_feedless service) h
found_feedless word false service error w h = behind word (service_text service ++ (codes " " ++ error)) w (behind (service_text service) error (service_feedless service) h)

move_feedless : (m : Move) (value : ℕ) → HasMoveNumbers m → IsNumber value → none nl (move_text m value) ≡ true
move_feedless (moves.Read reg) value h v = behind (register_text reg) (decimal value) (register_feedless reg h) (no_feed value v)
move_feedless (moves.Write reg written) value h v = behind (register_text reg) (decimal written) (register_feedless reg h.0) (no_feed written h.1)
move_feedless (moves.Load word) value h v = behind (decimal word) (decimal value) (no_feed word h) (no_feed value v)
move_feedless (moves.Store word stored) value h v = behind (decimal word) (decimal stored) (no_feed word h.0) (no_feed stored h.1)
move_feedless moves.Mask value h v = refl
move_feedless moves.Unmask value h v = refl
move_feedless (moves.Note n) value h v = behind (notice_text n.kind) (decimal n.id) (notice_feedless n.kind) (no_feed n.id h)
move_feedless (moves.Report e) value h v = found_feedless (codes "report") e.runtime e.service (error_text e.error) refl (error_feedless e.error)

event_feedless : (e : Option Event) → HasEventNumber e → none nl (event_text e) ≡ true
event_feedless None h = refl
event_feedless (Some events.Act) h = refl
event_feedless (Some (events.Serve line)) h = no_feed line h
event_feedless (Some (events.Abort unit)) h = refl
event_feedless (Some (events.Start unit)) h = refl

words_feedless : (ns : List ℕ) → Each IsNumber ns → none nl (words_text ns) ≡ true
words_feedless [] h = refl
words_feedless (n ∷ ns) h = before n (words_text ns) h.0 (words_feedless ns h.1)

head_feedless : (head : Head) → none nl (head_text head) ≡ true
head_feedless heads.Nothing = refl
head_feedless heads.Numbers = refl
head_feedless heads.ZeroNull = refl
head_feedless (heads.Name a) = answer_feedless a

values_feedless : (vs : List Value) → Each HasValueNumbers vs → none nl (values_text vs) ≡ true
values_feedless [] h = refl
values_feedless (values.One n ∷ vs) h = before n (values_text vs) h.0 (values_feedless vs h.1)
values_feedless (values.Pair sent received ∷ vs) h = none_append nl (decimal sent ++ (codes "/" ++ decimal received)) (values_text vs) (before sent (codes "/" ++ decimal received) h.0.0 (no_feed received h.0.1)) (values_feedless vs h.1)

name_feedless : (name : RowName) → HasNameNumbers name → none nl (name_text name) ≡ true
name_feedless (names.Pin n) h = no_feed n h
name_feedless (names.Ram n) h = no_feed n h
name_feedless (names.Wire n) h = no_feed n h
name_feedless (names.Stamps n) h = no_feed n h
name_feedless (names.Results g b) h = behind (decimal g) (decimal b) (no_feed g h.0) (no_feed b h.1)
name_feedless (names.Source c) h = before c (codes " src") h refl
name_feedless (names.Destination c) h = before c (codes " dst") h refl
name_feedless (names.Transmit c) h = before c (codes " tx") h refl
name_feedless (names.Receive c) h = before c (codes " rx") h refl

step_feedless : (depth value received : ℕ) (m : Move) (e : Option Event) → ComesAny m received → IsNumber depth → HasMoveNumbers m → IsNumber value → HasEventNumber e → none nl (line_text (Makes depth m value received e)) ≡ true
step_feedless depth value received m e c d h v k =
    behind (decimal depth) _ (no_feed depth d)
    (none_append nl (move_text m value) _ (move_feedless m value h v) (none_append nl (event_text e) _ (event_feedless e k) c.comes.feedless))

pub line_feedless : (line : Line) → HasLineNumbers line → none nl (line_text line) ≡ true
line_feedless (Holds cause) h = cause_feedless cause
line_feedless (Makes depth made value received event) h = step_feedless depth value received made event (comes made received h.3) h.0 h.1 h.2 h.4
line_feedless (Waits ticks) h = no_feed ticks h
line_feedless (Notes n) h = behind (notice_text n.kind) (decimal n.id) (notice_feedless n.kind) (no_feed n.id h)
line_feedless (Errs n) h = found_feedless (codes "error") n.runtime n.service (error_text n.error) refl (error_feedless n.error)
line_feedless (Returns service head ns) h = none_append nl (service_text service) _ (service_feedless service) (none_append nl (head_text head) (words_text ns) (head_feedless head) (words_feedless ns h))
line_feedless (Leaves line) h = no_feed line h
line_feedless (Restarts reason dropped) h = behind (reason_text reason) (decimal dropped) (reason_feedless reason) (no_feed dropped h)
line_feedless (Shows row) h = none_append nl (name_text row.name) _ (name_feedless row.name h.0) (values_feedless row.values h.1)
line_feedless Done h = refl
