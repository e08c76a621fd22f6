-- The rows of a page: their names, their order, and where they stand.
use Rattle.std.specs.Prelude.{ℕ, zero, suc, ◌+◌, ◌==◌, min, nat_lt, Bool, true, false, List, ◌++◌, slice_index_or, codes, decimal, if◌then◌else◌}
use Rattle.trace_lanes.specs.declared.rows.Parts.{Parts}
use Rattle.trace_lanes.specs.declared.rows.Parts.TheVariants as parts
use Rattle.trace_lanes.specs.declared.rows.Row.{Row}
use Rattle.trace_lanes.specs.declared.rows.Row.TheVariants as rows

-- the name of a row that has one
abbrev pub name : Row → List ℕ
name rows.Title = codes ""
name rows.Errors = codes "errors, resets"
name rows.Notices = codes "callbacks"
name rows.Held = codes "held"
name rows.Ticks = codes "ticks"
name (rows.Level level) = codes "level " ++ decimal level
name (rows.Handler line) = codes "handler of line " ++ decimal line
name (rows.Pin p) = codes "pin " ++ decimal p
name (rows.Analog input) = codes "analog " ++ decimal input
name (rows.Output output) = codes "pulse " ++ (decimal output ++ codes " level")
name (rows.Duty output) = codes "pulse " ++ (decimal output ++ codes " duty")
name (rows.Period output) = codes "pulse " ++ (decimal output ++ codes " period")
name (rows.Script row) = codes "script line"
name rows.Colors = codes ""
name rows.Symbols = codes ""
name rows.Tally = codes ""

-- the same by its parts
abbrev pub parts_text : Parts → List ℕ
parts_text (parts.Plain text) = text.now
parts_text (parts.Numbered before n) = before.now ++ (codes " " ++ decimal n)
parts_text (parts.Pulse output what) = codes "pulse " ++ (decimal output ++ (codes " " ++ what.now))

-- its name stands at its left
abbrev pub has_name : Row → Bool
has_name rows.Title = false
has_name rows.Colors = false
has_name rows.Symbols = false
has_name rows.Tally = false
has_name (rows.Script row) = row == 0
has_name _ = true

-- its number among the rows, from the top
abbrev pub slot : Row → ℕ
slot rows.Title = 0
slot rows.Errors = 1
slot rows.Notices = 2
slot rows.Held = 3
slot rows.Ticks = 4
slot (rows.Level level) = 5 + min level 7
slot (rows.Handler line) = 13 + min line 31
slot (rows.Pin p) = 45 + min p 63
slot (rows.Analog input) = 109 + min input 31
slot (rows.Output output) = 141 + min output 7
slot (rows.Duty output) = 149 + min output 7
slot (rows.Period output) = 157 + min output 7
slot (rows.Script row) = 165 + min row 8
slot rows.Colors = 174
slot rows.Symbols = 175
slot rows.Tally = 176

-- how high the row of a number is
abbrev pub pitch : ℕ → ℕ
pitch n = if n == 0 then 24 else if nat_lt n 5 then 22 else if nat_lt n 45 then 36 else if nat_lt n 165 then 20 else 14

-- where the row of a number begins: below those above it that are used
unfoldable pub top : List Bool → ℕ → ℕ
top used zero = 8
top used (suc n) = if slice_index_or used n false then top used n + pitch n else top used n
