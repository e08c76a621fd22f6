-- What a frame has read and written, and what of it belongs into one window.
use Rattle.std.specs.Prelude.{ℕ, ◌+◌, ◌*◌, Bool, true, false, ◌&&◌, ◌||◌, not, ◌==◌, List, [], ◌∷◌, Option, Some, None, slice_set, bit_or}
use Rattle.mcal_base.specs.Bits.{has_bit}
use Rattle.mcal_base.specs.declared.moves.Move.{Move}
use Rattle.mcal_base.specs.declared.moves.Move.TheVariants.{Read, Write, Load, Store, Mask, Unmask, Note, Report}
use Rattle.mcal_base.specs.declared.register.Reg.{Reg}
use Rattle.mcal_base.specs.declared.register.Reg.TheVariants.{TimerLow, TimerHigh, PulseCommit, PulseIdle, CaptureCountLow, CaptureCountHigh, CaptureTimeLow, CaptureTimeHigh}
use Rattle.mcal_base.specs.declared.service.Service.{Service}
use Rattle.run_model.specs.Frame.{is_write}
use Rattle.run_model.specs.Legal as legal
use Rattle.audit_frames.specs.Masks.{with_bit, includes}
use Rattle.audit_frames.specs.declared.accesses.Accesses.{Accesses}
use Rattle.audit_frames.specs.declared.terms.Around.{Around}
use Rattle.audit_frames.specs.declared.terms.Counter.{Counter}
use Rattle.audit_frames.specs.declared.terms.Counter.TheVariants.{Timer, Capture}
use Rattle.audit_frames.specs.declared.terms.Task.{Task}
use Rattle.audit_frames.specs.declared.terms.Task.TheVariants.{Call, Line}

-- nothing was read or written yet
abbrev pub accesses_none : Accesses
accesses_none = record { low_read = false; high_read = false; wrote = false; made = 0; lows = 0; beside = false; committed = None ∷ None ∷ None ∷ None ∷ None ∷ None ∷ None ∷ None ∷ [] }

-- ---- the counter of a call

abbrev pub counter_of : Task → Option Counter
counter_of (Call c) = c.counter
counter_of (Line l) = None

-- the register has the low half of the counter, and the high half
abbrev pub is_low_of : Option Counter → Reg → Bool
is_low_of (Some (Timer c)) (TimerLow k) = k == c
is_low_of (Some (Capture c)) (CaptureCountLow k) = k == c
is_low_of _ _ = false

abbrev pub is_high_of : Option Counter → Reg → Bool
is_high_of (Some (Timer c)) (TimerHigh k) = k == c
is_high_of (Some (Capture c)) (CaptureCountHigh k) = k == c
is_high_of _ _ = false

-- the move reads it
abbrev pub reads_low : Option Counter → Move → Bool
reads_low counter (Read r) = is_low_of counter r
reads_low counter _ = false

abbrev pub reads_high : Option Counter → Move → Bool
reads_high counter (Read r) = is_high_of counter r
reads_high counter _ = false

-- ---- halves in a window: a bit of a mask for each low half

abbrev pub lows_with : (lows : ℕ) → Reg → ℕ
lows_with lows (TimerLow c) = with_bit lows (3 * c)
lows_with lows (CaptureCountLow c) = with_bit lows (3 * c + 1)
lows_with lows (CaptureTimeLow c) = with_bit lows (3 * c + 2)
lows_with lows _ = lows

abbrev pub lows_after : (lows : ℕ) → Move → ℕ
lows_after lows Mask = 0
lows_after lows Unmask = 0
lows_after lows (Read r) = lows_with lows r
lows_after lows (Write r v) = lows
lows_after lows (Load k) = lows
lows_after lows (Store k v) = lows
lows_after lows (Note n) = lows
lows_after lows (Report e) = lows

-- the register has the high half of a counter or of an edge's time
abbrev pub is_high : Reg → Bool
is_high (TimerHigh c) = true
is_high (CaptureCountHigh c) = true
is_high (CaptureTimeHigh c) = true
is_high r = false

-- the low half was read of which the register has the high half, where it has one
abbrev pub follows_low : (lows : ℕ) → Reg → Bool
follows_low lows (TimerHigh c) = has_bit lows (3 * c)
follows_low lows (CaptureCountHigh c) = has_bit lows (3 * c + 1)
follows_low lows (CaptureTimeHigh c) = has_bit lows (3 * c + 2)
follows_low lows r = true

-- ---- moves beside an act

abbrev pub is_beside : Service → Move → Bool
is_beside service (Write (PulseCommit c) v) = legal.commits_at_act service
is_beside service (Write (PulseIdle c) v) = legal.idles_at_act service
is_beside service _ = false

abbrev pub is_beside_act : Task → Move → Bool
is_beside_act (Call c) made = is_beside c.service made
is_beside_act (Line l) made = false

abbrev pub beside_after : Bool → Task → Move → Bool
beside_after beside task Mask = false
beside_after beside task Unmask = false
beside_after beside task (Read r) = is_beside_act task (Read r) || beside
beside_after beside task (Write r v) = is_beside_act task (Write r v) || beside
beside_after beside task (Load k) = is_beside_act task (Load k) || beside
beside_after beside task (Store k v) = is_beside_act task (Store k v) || beside
beside_after beside task (Note n) = is_beside_act task (Note n) || beside
beside_after beside task (Report e) = is_beside_act task (Report e) || beside

-- ---- commits

abbrev pub committed_after : List (Option ℕ) → Move → (now : ℕ) → List (Option ℕ)
committed_after times (Write (PulseCommit c) v) now = slice_set times c (Some now)
committed_after times _ now = times

-- ---- a move

-- after a move now
abbrev pub accesses_after : Accesses → Task → Move → Around → Accesses
accesses_after a task made x = record {
  low_read = reads_low (counter_of task) made || a.low_read;
  high_read = reads_high (counter_of task) made || a.high_read;
  wrote = a.wrote || is_write made;
  made = bit_or a.made x.settles;
  lows = lows_after a.lows made;
  beside = beside_after a.beside task made;
  committed = committed_after a.committed made x.time;
}

-- the move stands in the window in which it belongs
abbrev pub are_together : Accesses → Task → (inside acts : Bool) → Move → Bool
are_together a task inside acts (Read r) = not (is_high r) || inside && follows_low a.lows r
are_together a task inside acts (Write r v) = not (is_beside_act task (Write r v)) || inside
are_together a task inside acts Unmask = not a.beside || acts
are_together a task inside acts Mask = true
are_together a task inside acts (Load k) = true
are_together a task inside acts (Store k v) = true
are_together a task inside acts (Note n) = true
are_together a task inside acts (Report e) = true

-- each kind of write was made that a call owes
abbrev pub are_made : Accesses → Task → Bool
are_made a (Call c) = includes c.duties a.made
are_made a (Line l) = true
