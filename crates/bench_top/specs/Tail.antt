-- What a run prints of its report: all of it, or its last lines.
use Rattle.std.specs.Prelude.{ℕ, ◌+◌, ◌-◌, ◌==◌, min, List, [], ◌∷◌, length, drop, Bool, true, false, if◌then◌else◌}
use Rattle.std.specs.List.{concat, onto_first, position_or_len}
use Rattle.bench_top.specs.declared.words.Printing.{Printing}
use Rattle.bench_top.specs.declared.words.Printing.TheVariants.{Traced, Tail}

-- the lines of a text, each with its line feed; the last one may go without
abbrev pub lines : List ℕ → List (List ℕ)
lines [] = []
lines (b ∷ bs) = if b == 10 then (10 ∷ []) ∷ lines bs else onto_first b (lines bs)

-- the last n lines of a text, or all of it where it has fewer
abbrev pub last_lines : ℕ → List ℕ → List ℕ
last_lines n text = concat (drop (length (lines text) - n) (lines text))

-- each step has a line of its own
abbrev pub is_traced : Printing → Bool
is_traced Traced = true
is_traced _ = false

-- what is printed of a report
abbrev pub printed : Printing → List ℕ → List ℕ
printed (Tail n) report = last_lines n report
printed _ report = report

-- how many lines are looked for from the end
abbrev pub lines_asked : Printing → ℕ
lines_asked (Tail n) = n
lines_asked _ = 0

-- how many bytes the first line has
abbrev pub first_len : List ℕ → ℕ
first_len text = min (position_or_len (λ b. b == 10) text + 1) (length text)
