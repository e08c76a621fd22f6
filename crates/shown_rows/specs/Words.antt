-- The rows of what is shown word by word.
use Rattle.std.specs.Prelude.{ℕ, List, map}
use Rattle.std.specs.List.{range_with_len}
use Rattle.bench_report.specs.Rows.{Row}
use Rattle.bench_report.specs.declared.rows.RowName.{RowName}
use Rattle.bench_report.specs.declared.rows.Value.{Value}
use Rattle.bench_report.specs.declared.rows.Value.TheVariants.{One}
use Rattle.mcal_drivers.specs.Setting.{SystemState}
use Rattle.shown_rows.specs.Places.{word_at}
use Rattle.shown_rows.specs.declared.shown.Words.{Words}

-- so many words, from a first place on
abbrev pub words : SystemState → Words → (first size : ℕ) → List Value
words s of first size = map (λ i. One (word_at s of i)) (range_with_len first size)

-- the row of so many words
abbrev pub words_row : SystemState → RowName → Words → (size : ℕ) → Row
words_row s name of size = record { name = name; values = words s of 0 size }
