-- A frame under way, by what it has done so far, and what a step adds to that.
use Rattle.std.specs.Prelude.{ℕ, ◌+◌, Bool, true, false, ◌||◌, ◌&&◌, not, cond, is_some, map, List, [], ◌∷◌, ◌++◌, Option, Some, None}
use Rattle.mcal_base.specs.det_errors.Reports.{reported}
use Rattle.mcal_base.specs.declared.answer.Answer.{Answer}
use Rattle.mcal_base.specs.declared.error_name.ErrorName.{ErrorName}
use Rattle.mcal_base.specs.declared.moves.DevError.{DevError}
use Rattle.mcal_base.specs.declared.moves.Move.{Move}
use Rattle.mcal_base.specs.declared.moves.Move.TheVariants.{Read, Write, Load, Store, Mask, Unmask, Note, Report}
use Rattle.mcal_base.specs.declared.moves.Event.{Event}
use Rattle.mcal_base.specs.declared.moves.Event.TheVariants.{Act, Serve, Abort, Start}
use Rattle.mcal_base.specs.declared.notice.Notice.{Notice}
use Rattle.mcal_base.specs.declared.register.Reg.{Reg}
use Rattle.mcal_base.specs.declared.register.Reg.TheVariants.{ResetRequest, PulseCommit, SerialData, SerialWait}
use Rattle.mcal_base.specs.declared.service.Service.{Service}
use Rattle.mcal_base.specs.declared.service.Service.TheVariants.{McuPerformReset}
use Rattle.run_model.specs.declared.class.Tag.{Tag}
use Rattle.run_model.specs.World.{World, with_at}
use Rattle.run_model.specs.Machine.{Happening, Acts, Serves, Starts, Aborts, Begun, Outcome, Machine}

-- what a frame was begun for: a call, or a line
pub data Origin (Call : Type 0) : Type 0 where
  Called : Call → Origin Call
  Entered : ℕ → Origin Call

-- a notice that is owed, and whether a serving owes it
pub record Owing : Type 0 where
  pub notice : Notice
  pub served : Bool

-- where a frame acted: at this move, with the mask closed by it or not, and with this error, where it found one
pub record ActedAt : Type 0 where
  pub made : Move
  pub inside : Bool
  pub error : Option ErrorName

-- A frame under way.
pub record Open (Call : Type 0) : Type 0 where
  pub origin : Origin Call
  -- its level, its module and the class of a call
  pub tag : Tag
  -- the answer at its act, where that stood, and the lines that it polled there
  pub acted : Option Answer
  pub acted_at : Option ActedAt
  pub polled : List ℕ
  -- the lines that it has served
  pub served : List ℕ
  -- the lines that weren't ready at one of its own steps
  pub missed : ℕ → Bool
  -- when it last wrote the commit register of each pulse channel
  pub committed : ℕ → Option ℕ
  -- the registers that it has read, and whether it has written a register or a word
  pub reads : List Reg
  pub wrote : Bool
  -- the writes of registers that it has made, the newest first: no more than its steps
  pub writes : List Move
  -- the notices that it owes, and the error that it has to report
  pub owed : List Owing
  pub report : Option DevError
  -- whether it holds the mask closed, its moves since it last closed or opened it, the newest first, and whether it acted since then
  pub inside : Bool
  pub since : List Move
  pub acts_since : Bool
  -- its steps, and the moves of its present window
  pub steps : ℕ
  pub window : ℕ
  -- whether its last move is a notice
  pub noted : Bool

-- a frame that has done nothing yet
abbrev pub opened : {Call : Type 0} → Origin Call → Tag → Open Call
opened origin tag =
    record { origin = origin; tag = tag; acted = None; acted_at = None; polled = []; served = []; missed = λ l. false; committed = λ c. None; reads = []; wrote = false; writes = []; owed = []; report = None; inside = false; since = []; acts_since = false; steps = 0; window = 0; noted = false }

-- what a step brings to its event: the incoming word, and the time of the frame's last write of each commit register
pub record Brought : Type 0 where
  pub received : ℕ
  pub committed : ℕ → ℕ

-- the writes of commit registers, with this move
abbrev pub committed_after : World → (ℕ → Option ℕ) → Move → ℕ → Option ℕ
committed_after w times (Write (PulseCommit c) v) = with_at times c (Some w.now)
committed_after w times _ = times

-- a time, and this one where there is none
abbrev pub time_or : ℕ → Option ℕ → ℕ
time_or now None = now
time_or now (Some time) = time

abbrev pub brought_by : World → (ℕ → Option ℕ) → Move → (received : ℕ) → Brought
brought_by w times made received = record { received = received; committed = λ c. time_or w.now (committed_after w times made c) }

-- the call of a frame, where it is one of a call
abbrev pub caller_of : {Call : Type 0} → Origin Call → Option Call
caller_of (Called c) = Some c
caller_of (Entered l) = None

-- what an event of a frame is to the machine; a handler doesn't act
abbrev pub happening_of : {Call : Type 0} → Origin Call → Brought → Event → Option (Happening Call)
happening_of (Called c) b Act = Some (Acts c b.committed)
happening_of (Entered l) b Act = None
happening_of origin b (Serve k) = Some (Serves k b.received)
happening_of origin b (Abort u) = Some (Aborts u)
happening_of origin b (Start u) = Some (Starts u (caller_of origin) b.received)

abbrev pub happening_at : {Call : Type 0} → Origin Call → Brought → Option Event → Option (Happening Call)
happening_at origin b None = None
happening_at origin b (Some e) = happening_of origin b e

-- what the machine gives at a step, where an event stands there that it allows
abbrev pub outcome_of : {State Call : Type 0} → Machine State Call → World → State → Option (Happening Call) → Option (Outcome State)
outcome_of mac w s None = None
outcome_of mac w s (Some h) = mac.happens w s h

-- what the machine gives at a step of this frame
abbrev pub outcome_at : {State Call : Type 0} → Machine State Call → World → State → Open Call → Move → (received : ℕ) → Option Event → Option (Outcome State)
outcome_at mac w s o made received e = outcome_of mac w s (happening_at o.origin (brought_by w o.committed made received) e)

-- the machine's state, after what it gave
abbrev pub state_by : {State : Type 0} → State → Option (Outcome State) → State
state_by s None = s
state_by s (Some out) = out.state

-- the word that begins on a serial unit at a step, where one does
abbrev pub begun_by : {State : Type 0} → Option (Outcome State) → Option Begun
begun_by None = None
begun_by (Some out) = out.begins

-- the answer of the act
abbrev pub acted_by : {State : Type 0} → Option Answer → Option Event → Option (Outcome State) → Option Answer
acted_by a (Some Act) (Some out) = Some out.told.answer
acted_by a (Some Act) None = a
acted_by a (Some (Serve k)) out = a
acted_by a (Some (Abort u)) out = a
acted_by a (Some (Start u)) out = a
acted_by a None out = a

-- where a call acted
abbrev pub acted_at_by : {State Call : Type 0} → Origin Call → (inside : Bool) → Move → Option ActedAt → Option Event → Option (Outcome State) → Option ActedAt
acted_at_by (Called c) inside made a (Some Act) (Some out) = Some (record { made = made; inside = inside; error = out.told.error })
acted_at_by (Called c) inside made a (Some Act) None = a
acted_at_by (Entered l) inside made a (Some Act) out = a
acted_at_by origin inside made a (Some (Serve k)) out = a
acted_at_by origin inside made a (Some (Abort u)) out = a
acted_at_by origin inside made a (Some (Start u)) out = a
acted_at_by origin inside made a None out = a

-- the lines that a call polls, where it acts
abbrev pub polled_by : {State Call : Type 0} → Machine State Call → World → State → Origin Call → List ℕ → Option Event → List ℕ
polled_by mac w s (Called c) ls (Some Act) = mac.polls w s c
polled_by mac w s (Entered l) ls (Some Act) = ls
polled_by mac w s origin ls (Some (Serve k)) = ls
polled_by mac w s origin ls (Some (Abort u)) = ls
polled_by mac w s origin ls (Some (Start u)) = ls
polled_by mac w s origin ls None = ls

abbrev pub served_by : List ℕ → Option Event → List ℕ
served_by ls (Some (Serve k)) = k ∷ ls
served_by ls (Some Act) = ls
served_by ls (Some (Abort u)) = ls
served_by ls (Some (Start u)) = ls
served_by ls None = ls

abbrev pub is_serving : Option Event → Bool
is_serving (Some (Serve k)) = true
is_serving (Some Act) = false
is_serving (Some (Abort u)) = false
is_serving (Some (Start u)) = false
is_serving None = false

-- notices as owed, by a serving or not
abbrev pub owing : (served : Bool) → List Notice → List Owing
owing served ns = map (λ n. record { notice = n; served = served }) ns

-- the notices that are owed, with those of this step's event
abbrev pub owed_by : {State : Type 0} → List Owing → Option Event → Option (Outcome State) → List Owing
owed_by ns e None = ns
owed_by ns e (Some out) = ns ++ owing (is_serving e) out.told.notices

-- the report of an error of a service, where it is reported, as a runtime error or as a development error
abbrev pub report_as : Service → ErrorName → (runtime : Option Bool) → Option DevError
report_as service error None = None
report_as service error (Some runtime) = Some (record { service = service; error = error; runtime = runtime })

-- the report of the error that the act of a call found, by the one rule of reports
abbrev pub report_of : {State Call : Type 0} → Machine State Call → Call → Option ErrorName → Option DevError
report_of mac c None = None
report_of mac c (Some e) = report_as (mac.service_of c) e (reported (mac.reporting c) e)

-- the error that has to be reported, with that of this step's act
abbrev pub report_by : {State Call : Type 0} → Machine State Call → Origin Call → Option DevError → Option Event → Option (Outcome State) → Option DevError
report_by mac (Called c) r (Some Act) (Some out) = report_of mac c out.told.error
report_by mac (Called c) r (Some Act) None = r
report_by mac (Entered l) r (Some Act) out = r
report_by mac origin r (Some (Serve k)) out = r
report_by mac origin r (Some (Abort u)) out = r
report_by mac origin r (Some (Start u)) out = r
report_by mac origin r None out = r

abbrev pub rest_of : List Owing → List Owing
rest_of [] = []
rest_of (n ∷ ns) = ns

-- a notice that is given is owed no longer
abbrev pub owed_after : List Owing → Move → List Owing
owed_after ns (Note n) = rest_of ns
owed_after ns (Report e) = ns
owed_after ns Mask = ns
owed_after ns Unmask = ns
owed_after ns (Read r) = ns
owed_after ns (Write r v) = ns
owed_after ns (Load k) = ns
owed_after ns (Store k v) = ns

-- an error is reported once
abbrev pub report_after : Option DevError → Move → Option DevError
report_after r (Report e) = None
report_after r (Note n) = r
report_after r Mask = r
report_after r Unmask = r
report_after r (Read x) = r
report_after r (Write x v) = r
report_after r (Load k) = r
report_after r (Store k v) = r

-- the registers that were read, with this move
abbrev pub reads_after : List Reg → Move → List Reg
reads_after rs (Read r) = r ∷ rs
reads_after rs (Write r v) = rs
reads_after rs (Load k) = rs
reads_after rs (Store k v) = rs
reads_after rs Mask = rs
reads_after rs Unmask = rs
reads_after rs (Note n) = rs
reads_after rs (Report e) = rs

-- the writes of registers, with this move
abbrev pub writes_after : List Move → Move → List Move
writes_after ms (Write r v) = Write r v ∷ ms
writes_after ms (Read r) = ms
writes_after ms (Load k) = ms
writes_after ms (Store k v) = ms
writes_after ms Mask = ms
writes_after ms Unmask = ms
writes_after ms (Note n) = ms
writes_after ms (Report e) = ms

-- the move writes a register or a word
abbrev pub is_write : Move → Bool
is_write (Write r v) = true
is_write (Store k v) = true
is_write (Read r) = false
is_write (Load k) = false
is_write Mask = false
is_write Unmask = false
is_write (Note n) = false
is_write (Report e) = false

abbrev pub inside_after : Bool → Move → Bool
inside_after b Mask = true
inside_after b Unmask = false
inside_after b (Read r) = b
inside_after b (Write r v) = b
inside_after b (Load k) = b
inside_after b (Store k v) = b
inside_after b (Note n) = b
inside_after b (Report e) = b

-- the moves since the mask was closed or opened
abbrev pub since_after : List Move → Move → List Move
since_after ms Mask = []
since_after ms Unmask = []
since_after ms (Read r) = Read r ∷ ms
since_after ms (Write r v) = Write r v ∷ ms
since_after ms (Load k) = Load k ∷ ms
since_after ms (Store k v) = Store k v ∷ ms
since_after ms (Note n) = Note n ∷ ms
since_after ms (Report e) = Report e ∷ ms

abbrev pub is_act : Option Event → Bool
is_act (Some Act) = true
is_act (Some (Serve k)) = false
is_act (Some (Abort u)) = false
is_act (Some (Start u)) = false
is_act None = false

-- whether the frame acted since then: a step that turns the mask belongs to the window that it begins or ends
abbrev pub acts_after : Bool → Move → Option Event → Bool
acts_after acts Mask e = is_act e
acts_after acts Unmask e = false
acts_after acts (Read r) e = acts || is_act e
acts_after acts (Write r v) e = acts || is_act e
acts_after acts (Load k) e = acts || is_act e
acts_after acts (Store k v) e = acts || is_act e
acts_after acts (Note n) e = acts || is_act e
acts_after acts (Report x) e = acts || is_act e

-- the moves of a window, from the one that closes the mask on
abbrev pub window_after : Bool → ℕ → Move → ℕ
window_after inside n Mask = 1
window_after inside n Unmask = n + 1
window_after inside n (Read r) = cond inside (n + 1) n
window_after inside n (Write r v) = cond inside (n + 1) n
window_after inside n (Load k) = cond inside (n + 1) n
window_after inside n (Store k v) = cond inside (n + 1) n
window_after inside n (Note m) = cond inside (n + 1) n
window_after inside n (Report e) = cond inside (n + 1) n

abbrev pub is_note : Move → Bool
is_note (Note n) = true
is_note (Report e) = false
is_note Mask = false
is_note Unmask = false
is_note (Read r) = false
is_note (Write r v) = false
is_note (Load k) = false
is_note (Store k v) = false

-- a line that isn't ready in the state before a step is missed at that step
abbrev pub missed_after : {State Call : Type 0} → Machine State Call → World → State → (ℕ → Bool) → ℕ → Bool
missed_after mac w s missed l = missed l || not (mac.ready w s l)

-- the machine's state after a step with this event
abbrev pub state_after : {State Call : Type 0} → Machine State Call → World → State → Open Call → Move → ℕ → Option Event → State
state_after mac w s o made received e = state_by s (outcome_at mac w s o made received e)

-- what the frame has done after a step
abbrev pub open_after : {State Call : Type 0} → Machine State Call → World → State → Open Call → Move → ℕ → Option Event → Open Call
open_after mac w s o made received e =
    let out = outcome_at mac w s o made received e in
    record {
      origin = o.origin;
      tag = o.tag;
      acted = acted_by o.acted e out;
      acted_at = acted_at_by o.origin o.inside made o.acted_at e out;
      polled = polled_by mac w s o.origin o.polled e;
      served = served_by o.served e;
      missed = missed_after mac w s o.missed;
      committed = committed_after w o.committed made;
      reads = reads_after o.reads made;
      wrote = o.wrote || is_write made;
      writes = writes_after o.writes made;
      owed = owed_after (owed_by o.owed e out) made;
      report = report_after (report_by mac o.origin o.report e out) made;
      inside = inside_after o.inside made;
      since = since_after o.since made;
      acts_since = acts_after o.acts_since made e;
      steps = o.steps + 1;
      window = window_after o.inside o.window made;
      noted = is_note made;
    }

-- what is there after a step of the top one, which may have ended
abbrev pub top_after : {A : Type 0} → A → Option Answer → List A → List A
top_after x None rest = x ∷ rest
top_after x (Some answer) rest = rest

-- the move resets the chip
abbrev pub resets_chip : Move → Bool
resets_chip (Write ResetRequest v) = true
resets_chip _ = false

-- the move begins a serial word
abbrev pub begins_word : Move → Bool
begins_word (Write (SerialData u) v) = true
begins_word _ = false

-- the move waits for the word in transfer on a unit
abbrev pub is_wait : Move → Bool
is_wait (Read (SerialWait u)) = true
is_wait _ = false

-- the service asks for a reset
abbrev pub is_reset_service : Service → Bool
is_reset_service McuPerformReset = true
is_reset_service _ = false

-- a call acts that asks for a reset, and finds no error
abbrev pub asks_reset : {State Call : Type 0} → Machine State Call → Origin Call → Option Event → Option (Outcome State) → Bool
asks_reset mac (Called c) (Some Act) (Some out) = is_reset_service (mac.service_of c) && not (is_some out.told.error)
asks_reset mac (Called c) (Some Act) None = false
asks_reset mac (Called c) (Some (Serve k)) out = false
asks_reset mac (Called c) (Some (Abort u)) out = false
asks_reset mac (Called c) (Some (Start u)) out = false
asks_reset mac (Called c) None out = false
asks_reset mac (Entered l) e out = false

-- a move that names no register and no word
abbrev pub is_shared : Move → Bool
is_shared Mask = true
is_shared Unmask = true
is_shared (Note n) = true
is_shared (Report e) = true
is_shared (Read r) = false
is_shared (Write r v) = false
is_shared (Load k) = false
is_shared (Store k v) = false
