-- What an audit is given: a bench file, the mark of a report, and a report.
use Rattle.std.specs.Prelude.{ℕ, ◌==◌, List, [], ◌∷◌, ◌++◌, codes, count_by, if◌then◌else◌}

-- a text with a line feed at its end, which it gets where it has none
abbrev pub with_feed : List ℕ → List ℕ
with_feed [] = codes "\n"
with_feed (b ∷ []) = if b == 10 then b ∷ [] else b ∷ codes "\n"
with_feed (b ∷ next ∷ bs) = b ∷ with_feed (next ∷ bs)

-- a bench file, the mark and a report
abbrev pub audit_input : (bench report : List ℕ) → List ℕ
audit_input bench report = with_feed bench ++ (codes "===\n" ++ report)

-- how many lines a text has that ends with a line feed
abbrev pub lines_in : List ℕ → ℕ
lines_in text = count_by (λ b. b == 10) text
