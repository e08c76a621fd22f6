-- The lines of a sweep's script that say what follows a notice, and the script in which these and the marks are comments.
use Rattle.std.specs.Prelude.{ℕ, ◌+◌, ◌≤◌, ◌==◌, ◌&&◌, ◌||◌, ◌++◌, is_some, not, Bool, false, List, [], ◌∷◌, Option, Some, None, option_to_list, bytes_eq, codes, drop, length, map, if◌then◌else◌}
use Rattle.std.specs.List.{join_with_byte, slice_split}
use Rattle.bench_sweep.specs.Lines.{asked, behind_word, first_word, lines_in}
use Rattle.bench_sweep.specs.Marks.{mark_on}
use Rattle.bench_sweep.specs.Reports.{is_digit}
use Rattle.bench_sweep.specs.declared.marking.ReactionLine.{ReactionLine}

-- a line that says what follows a notice: its number, the callback, the number of the object, and the call
pub record Reacting : Type 0 where
  pub line : ℕ
  pub callback : List ℕ
  pub object : List ℕ
  pub call : List ℕ

-- a text says what follows a notice
abbrev pub is_reaction : List ℕ → Bool
is_reaction text = bytes_eq (first_word text) (codes "on")

-- what a text says behind `on`: the callback, the number of the object, and the call
abbrev pub reacting_by : ℕ → List ℕ → Reacting
reacting_by line text = record { line = line; callback = first_word text; object = first_word (behind_word text); call = behind_word (behind_word text) }

-- what a line says that follows a notice, where it says so
abbrev pub reaction_on : ℕ → List ℕ → Option Reacting
reaction_on line text = if is_reaction (asked text) then Some (reacting_by line (behind_word (asked text))) else None

-- what lines say that follows notices, behind so many
abbrev pub reactions_behind : ℕ → List (List ℕ) → List Reacting
reactions_behind count [] = []
reactions_behind count (line ∷ lines) = option_to_list (reaction_on (count + 1) line) ++ reactions_behind (count + 1) lines

-- what the lines of a script say that follows notices
abbrev pub reactions_in : List ℕ → List Reacting
reactions_in text = reactions_behind 0 (lines_in text)

-- begins with a decimal digit
abbrev pub begins_number : List ℕ → Bool
begins_number [] = false
begins_number (b ∷ bs) = is_digit b

-- a call without a level, which is a number
abbrev pub lacks_level : List ℕ → Bool
lacks_level call = bytes_eq (first_word call) (codes "do") && not (begins_number (first_word (behind_word call)))

-- what was found on a line
abbrev pub found_on : ReactionLine → Reacting
found_on r = record { line = r.line; callback = r.callback.now; object = r.object.now; call = r.order.now }

-- the call that follows the notice is no longer than this
abbrev pub IsWithin : ℕ → ReactionLine → Type 0
IsWithin most r = length r.order.now ≤ most

-- none of the bench language, but of a sweep
abbrev pub is_of_sweep : List ℕ → Bool
is_of_sweep line = is_some (mark_on line) || is_reaction (asked line)

-- a line, as a comment where it is of a sweep
abbrev pub kept_line : List ℕ → List ℕ
kept_line line = if is_of_sweep line then 35 ∷ drop 1 line else line

-- a script in which the lines that are of a sweep alone are comments
abbrev pub without_marks : List ℕ → List ℕ
without_marks text = join_with_byte 10 (map kept_line (slice_split (λ b. b == 10) text))
