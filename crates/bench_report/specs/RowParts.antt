-- What the name of a row is put together from, as the code has it.
use Rattle.std.specs.Prelude.{ℕ, List, ◌++◌, codes, decimal}
use Rattle.bench_report.specs.declared.rows.Parts.{Parts}
use Rattle.bench_report.specs.declared.rows.Parts.TheVariants as parts

abbrev pub parts_text : Parts → List ℕ
parts_text (parts.Numbered word n) = word.now ++ decimal n
parts_text (parts.Placed word n k) = word.now ++ (decimal n ++ (codes " " ++ decimal k))
parts_text (parts.Between word n last) = word.now ++ (decimal n ++ last.now)
