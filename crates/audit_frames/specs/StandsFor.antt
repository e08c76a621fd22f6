-- That what is kept of a frame stands for what the frame has done.
use Rattle.std.specs.Prelude.{◌≡◌, ℕ, ◌+◌, ◌*◌, ◌^◌, ◌<◌, Bool, true, false, ◌&&◌, ◌==◌, not, nat_lt, map, List, [], ◌∷◌, length, slice_index_or, Option, Some, None, is_some, option_map}
use Rattle.std.specs.List.{list_any}
use Rattle.mcal_base.specs.Bits.{has_bit}
use Rattle.mcal_base.specs.declared.moves.Move.{Move}
use Rattle.mcal_base.specs.declared.moves.Move.TheVariants.{Read}
use Rattle.mcal_base.specs.declared.register.Reg.TheVariants.{TimerLow, TimerHigh, CaptureCountLow, CaptureCountHigh, CaptureTimeLow}
use Rattle.run_model.specs.Frame as frame
use Rattle.run_model.specs.Frame.{Origin, Called, Entered, ActedAt, Open}
use Rattle.run_model.specs.Legal.{has_line, is_beside_act}
use Rattle.run_model.specs.Moment.{Halves, Setting}
use Rattle.run_model.specs.World.{World}
use Rattle.audit_frames.specs.AccessRules.{is_low_of, is_high_of, reads_low, counter_of}
use Rattle.audit_frames.specs.Kept.{Kept}
use Rattle.audit_frames.specs.declared.accesses.Accesses.{Accesses}
use Rattle.audit_frames.specs.declared.act.Acted.{Acted}
use Rattle.audit_frames.specs.declared.lines.Lines.{Lines}
use Rattle.audit_frames.specs.declared.owing.Owing.{Owing}
use Rattle.audit_frames.specs.declared.pace.Pace.{Pace}
use Rattle.audit_frames.specs.declared.terms.Caller.{Caller}
use Rattle.audit_frames.specs.declared.terms.Counter.{Counter}
use Rattle.audit_frames.specs.declared.terms.Counter.TheVariants.{Timer, Capture}
use Rattle.audit_frames.specs.declared.terms.Task.{Task}
use Rattle.audit_frames.specs.declared.terms.Task.TheVariants.{Call, Line}
use Rattle.audit_frames.specs.declared.terms.Terms.{Terms}

-- ---- what it was begun for

-- the registers of a counter
abbrev pub halves_of : Counter → Halves
halves_of (Timer c) = record { low = TimerLow c; high = TimerHigh c }
halves_of (Capture c) = record { low = CaptureCountLow c; high = CaptureCountHigh c }

-- what a call is to its machine and its module
pub record IsCaller {State Call : Type 0} (g : Setting State Call) (asked : ℕ) (k : Caller) (c : Call) : Type 0 where
  pub service : g.machine.service_of c ≡ k.service
  pub counter : g.halves c ≡ option_map halves_of k.counter
  -- the kinds of write that it owes, and the lines that it may poll
  pub duties : (i : ℕ) → has_bit k.duties i ≡ nat_lt i (length (g.must c))
  pub polls : (w : World) (s : State) (l : ℕ) → has_line (g.machine.polls w s c) l ≡ true → has_bit asked l ≡ true

abbrev pub IsTask : {State Call : Type 0} → Setting State Call → (asked : ℕ) → Task → Origin Call → Type 0
IsTask g asked (Call k) (Called c) = IsCaller g asked k c
IsTask g asked (Call k) (Entered l) = ⊥
IsTask g asked (Line l) (Called c) = ⊥
IsTask g asked (Line l) (Entered m) = (l ≡ m) × (has_bit asked l ≡ true)

pub record IsBegun {State Call : Type 0} (g : Setting State Call) (k : Terms) (o : Open Call) : Type 0 where
  pub task : IsTask g k.asked k.task o.origin
  pub tag : k.tag ≡ o.tag
  pub steps : k.steps ≡ g.steps_of o.origin
  pub window : k.window ≡ g.window_of o.origin
  pub asked : k.asked < 2 ^ 64

-- the kinds of write that a frame's call owes
abbrev pub must_of : {State Call : Type 0} → Setting State Call → Origin Call → List (Move → Bool)
must_of g (Called c) = g.must c
must_of g (Entered l) = []

-- the kind of this number
abbrev pub kind_at : List (Move → Bool) → ℕ → Move → Bool
kind_at kinds i = slice_index_or kinds i (λ made. false)

-- ---- what it has done

abbrev pub has_none : List ℕ → Bool
has_none [] = true
has_none (l ∷ ls) = false

-- with lines
pub record LinesStand {Call : Type 0} (asked : ℕ) (k : Lines) (o : Open Call) : Type 0 where
  pub polled : (l : ℕ) → has_bit k.polled l ≡ has_line o.polled l
  pub served : (l : ℕ) → has_bit k.served l ≡ has_line o.served l
  pub has_served : k.has_served ≡ not (has_none o.served)
  pub missed : (l : ℕ) → has_bit asked l ≡ true → has_bit k.missed l ≡ o.missed l
  pub asks : (l : ℕ) → has_line o.polled l ≡ true → has_bit asked l ≡ true

-- the move reads the low half of this number: of a timer, of a count of edges, or of an edge's time, in turn
abbrev pub is_low_at : (p : ℕ) → Move → Bool
is_low_at p (Read (TimerLow c)) = 3 * c == p
is_low_at p (Read (CaptureCountLow c)) = 3 * c + 1 == p
is_low_at p (Read (CaptureTimeLow c)) = 3 * c + 2 == p
is_low_at p _ = false

-- with registers and words
pub record AccessesStand {State Call : Type 0} (g : Setting State Call) (task : Task) (k : Accesses) (o : Open Call) : Type 0 where
  pub low_read : k.low_read ≡ list_any (is_low_of (counter_of task)) o.reads
  pub high_read : k.high_read ≡ list_any (is_high_of (counter_of task)) o.reads
  pub wrote : k.wrote ≡ o.wrote
  pub made : (i : ℕ) → i < length (must_of g o.origin) → has_bit k.made i ≡ list_any (kind_at (must_of g o.origin) i) o.writes
  pub lows : (p : ℕ) → has_bit k.lows p ≡ list_any (is_low_at p) o.since
  pub beside : k.beside ≡ list_any (is_beside_act g.machine o.origin) o.since
  pub committed : (c : ℕ) → slice_index_or k.committed c None ≡ o.committed c
  pub channels : length k.committed ≡ 8

-- with steps and windows
pub record PaceStands {Call : Type 0} (k : Pace) (o : Open Call) : Type 0 where
  pub inside : k.inside ≡ o.inside
  pub acts_since : k.acts_since ≡ o.acts_since
  pub steps : k.steps ≡ o.steps
  pub window : k.window ≡ o.window
  pub noted : k.noted ≡ o.noted

-- where it acted
abbrev pub ActStands : Option Counter → Option Acted → Option ActedAt → Type 0
ActStands counter None None = Unit {0}
ActStands counter None (Some at) = ⊥
ActStands counter (Some a) None = ⊥
ActStands counter (Some a) (Some at) = (a.low ≡ (reads_low counter at.made && at.inside)) × (a.failed ≡ is_some at.error)

-- a notice that is owed
abbrev pub owing_of : Owing → frame.Owing
owing_of n = record { notice = n.notice; served = n.served }

-- What is kept of a frame stands for what it has done.
pub record StandsFor {State Call : Type 0} (g : Setting State Call) (k : Kept) (o : Open Call) : Type 0 where
  pub begun : IsBegun g k.terms o
  pub lines : LinesStand k.terms.asked k.lines o
  pub accesses : AccessesStand g k.terms.task k.accesses o
  pub pace : PaceStands k.pace o
  pub acted : ActStands (counter_of k.terms.task) k.acted o.acted_at
  pub answer : k.answer ≡ o.acted
  pub report : k.report ≡ o.report
  pub owed : map owing_of k.owed ≡ o.owed
