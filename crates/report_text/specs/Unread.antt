-- A printed report as far as it isn't read, and what is taken off its front.
use Rattle.std.specs.Prelude.{◌≡◌, ℕ, ◌+◌, List, [], ◌∷◌, Bool, true, false, length, take, drop, nat_le, Option, Some, None, option_map, bytes_eq, if◌then◌else◌}
use Rattle.bench_report.specs.Lines.{end_text}
use Rattle.bench_report.specs.declared.tally.Tally.{Tally}
use Rattle.report_text.specs.reading.Blocks.{own_lines, text_of}
use Rattle.trace_reader.specs.Reading.{parts_of, read_line}
use Rattle.trace_reader.specs.declared.laws.TheConstants.{MOST_MOVING}
use Rattle.trace_reader.specs.declared.told.Told.{Told}
use Rattle.report_text.specs.declared.ending.Ending.{Ending}
use Rattle.report_text.specs.declared.ending.Ending.TheVariants.{Alone, Followed, Missing}

-- A report as far as it isn't read: the bytes that are left, how many lines were read, and the script line whose block is read.
pub record Unread : Type 0 where
  pub left : List ℕ
  pub read : ℕ
  pub number : ℕ

-- the block as far as it is left: its lines, and their bytes
abbrev pub own : Unread → List (List ℕ)
own r = own_lines r.number (parts_of r.left)

abbrev pub own_text : Unread → List ℕ
own_text r = text_of (own r)

-- nothing was read
abbrev pub unread : List ℕ → Unread
unread text = record { left = text; read = 0; number = 0 }

-- the block of a script line begins
abbrev pub begun : ℕ → Unread → Unread
begun n r = record r { number = n }

-- so many bytes are taken, which are so many lines
abbrev pub passed : (bytes lines : ℕ) → Unread → Unread
passed bytes lines r = record r { left = drop bytes r.left; read = r.read + lines }

-- ---- lines that are printed again

-- the text stands at the front of another
abbrev pub comes : (front text : List ℕ) → Bool
comes front text = bytes_eq (take (length front) text) front

-- lines are taken, where they are right
abbrev pub taken : (right : Bool) → (text : List ℕ) → (lines : ℕ) → Unread → Unread
taken true text lines r = passed (length text) lines r
taken false text lines r = r

-- ---- lines that are read

abbrev pub is_empty : {T : Type 0} → List T → Bool
is_empty [] = true
is_empty (x ∷ xs) = false

-- what a line tells, where it isn't longer than those of steps, waits and resets
abbrev pub told_of_line : List ℕ → Option Told
told_of_line line = if nat_le (length line) MOST_MOVING then option_map (λ l. l.told) (read_line line) else None

abbrev pub told_first : (lines : List (List ℕ)) → Option Told
told_first [] = None
told_first (line ∷ lines) = told_of_line line

-- the next line of the block tells this
abbrev pub told_next : Unread → Option Told
told_next r = told_first (own r)

-- what is behind the first of some lines
abbrev pub past_first : (lines : List (List ℕ)) → (left : List ℕ) → List ℕ
past_first [] left = left
past_first (line ∷ lines) left = drop (length line + 1) left

-- a line that tells something is taken
abbrev pub after_told : Unread → Option Told → Unread
after_told r None = r
after_told r (Some told) = record r { left = past_first (own r) r.left; read = r.read + 1 }

-- ---- the last line

-- what is left where the last line must come: that line alone, that line with more behind it, or something else
abbrev pub Ends : Tally → (left : List ℕ) → Ending → Type 0
Ends tally left Alone = left ≡ end_text tally
Ends tally left Followed = (comes (end_text tally) left ≡ true) × (left ≡ end_text tally → ⊥)
Ends tally left Missing = comes (end_text tally) left ≡ false
