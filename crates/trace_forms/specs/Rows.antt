-- The signs as rows of characters: one for each.
use Rattle.std.specs.Prelude.{ℕ, ◌-◌, ◌==◌, min, nat_lt, List, ◌++◌, Bool, Option, Some, None, codes, decimal, flat_map, replicate, if◌then◌else◌}
use Rattle.trace_reader.specs.declared.told.Mark.{Mark}
use Rattle.trace_reader.specs.declared.told.Mark.TheVariants as marks
use Rattle.trace_forms.specs.Sentences.{sentence}
use Rattle.trace_forms.specs.declared.rows.TheConstants.{HEAD, FOOT}
use Rattle.trace_forms.specs.declared.kinds.signs.Ending.{Ending}
use Rattle.trace_forms.specs.declared.kinds.signs.Ending.TheVariants as endings
use Rattle.trace_forms.specs.declared.kinds.signs.Sign.{Sign}
use Rattle.trace_forms.specs.declared.kinds.signs.What.{What}
use Rattle.trace_forms.specs.declared.kinds.signs.What.TheVariants as whats

-- the spaces before a number, so that those below 100,000 end in one column
abbrev pub indent : ℕ → List ℕ
indent n =
    if nat_lt n 10 then codes "     "
    else if nat_lt n 100 then codes "    "
    else if nat_lt n 1000 then codes "   "
    else if nat_lt n 10000 then codes "  "
    else if nat_lt n 100000 then codes " "
    else codes ""

-- the number of a step, in the row of a step alone
abbrev pub step_cell : ℕ → What → List ℕ
step_cell step (whats.Stepped made fresh) = indent step ++ decimal step
step_cell step _ = codes "      "

-- the character of a sign in the column of the topmost frame
abbrev pub event_character : Option Mark → List ℕ
event_character None = codes "*"
event_character (Some marks.Act) = codes "a"
event_character (Some (marks.Serve line)) = codes "s"
event_character (Some marks.Abort) = codes "x"
event_character (Some marks.Start) = codes "^"

abbrev pub ending_character : Ending → List ℕ
ending_character (endings.Returned reply) = codes "-"
ending_character endings.Left = codes "-"
ending_character endings.Dropped = codes "R"
ending_character endings.Open = codes "?"

abbrev pub character : What → List ℕ
character (whats.Begins frame) = codes "+"
character (whats.Stepped step fresh) = event_character step.mark
character (whats.Gone frame ending) = ending_character ending
character _ = codes "|"

-- eight columns: the frames below the topmost, the topmost, and those that are not there
abbrev pub columns : ℕ → List ℕ → List ℕ
columns depth top = if depth == 0 then codes "........" else replicate (min (depth - 1) 8) 124 ++ (top ++ replicate (8 - depth) 46)

abbrev pub mask_cell : Bool → List ℕ
mask_cell closed = if closed then codes "#" else codes " "

abbrev pub row : Sign → List ℕ
row s =
    step_cell s.step s.what ++ (codes " " ++ (indent s.number ++ (decimal s.number ++ (codes " " ++ (columns s.depth (character s.what) ++
    (codes " " ++ (mask_cell s.closed ++ (codes " " ++ (sentence s.what ++ codes "\n")))))))))

-- the rows of all signs, behind what their columns have
unfoldable pub sign_rows : List Sign → List ℕ
sign_rows signs = HEAD.now ++ flat_map row signs

abbrev pub rows : List Sign → List ℕ
rows signs = sign_rows signs ++ FOOT.now
