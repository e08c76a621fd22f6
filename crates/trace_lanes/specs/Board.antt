-- How shapes and labels are put on a page: a label stands where its row is free, and is left out where it isn't.
use Rattle.std.specs.Prelude.{ℕ, ◌+◌, ◌*◌, ◌&&◌, max, nat_le, Bool, true, false, Option, Some, None, List, [], ◌∷◌, ◌++◌, length, slice_index_or, slice_set, replicate, take, drop, is_some, unwrap_or, if◌then◌else◌}
use Rattle.std.specs.List.{position}
use Rattle.trace_forms.specs.kinds.Sums.{sum_up}
use Rattle.trace_lanes.specs.Captions.{caption_text}
use Rattle.trace_lanes.specs.Rows.{slot, has_name}
use Rattle.trace_lanes.specs.declared.board.Label.{Label}
use Rattle.trace_lanes.specs.declared.board.Shape.{Shape}
use Rattle.trace_lanes.specs.declared.caption.Caption.{Caption}
use Rattle.trace_lanes.specs.declared.caption.Caption.TheVariants.{Name}
use Rattle.trace_lanes.specs.declared.rows.Row.{Row}
use Rattle.trace_lanes.specs.declared.rows.Row.TheVariants.{Script}

-- what is drawn so far: shapes and labels, from where on each row is free for labels, by its number, which rows are
-- used, how far labels reach, and for how many there was no room
pub record Board : Type 0 where
  pub shapes : List Shape
  pub labels : List Label
  pub free : List ℕ
  pub used : List Bool
  pub wide : ℕ
  pub unnamed : ℕ

abbrev pub empty : Board
empty = record { shapes = []; labels = []; free = replicate 177 0; used = replicate 177 false; wide = 0; unnamed = 0 }

-- a label of so many letters has room at a place, where its row is free from another on, and it may end here
abbrev pub fits : ℕ → ℕ → ℕ → ℕ → Bool
fits free x letters limit = nat_le letters 1000 && (nat_le x 10000000 && (nat_le free x && nat_le (x + letters * 6) limit))

-- where it ends, if it has
abbrev pub end_of : ℕ → ℕ → ℕ → ℕ → Option ℕ
end_of free x letters limit = if fits free x letters limit then Some (x + letters * 6) else None

-- with a label that ends at a place; a letter behind it its row is free again
abbrev pub placed_to : Board → Row → ℕ → Caption → Option ℕ → Board
placed_to b row x caption None = record b { unnamed = sum_up b.unnamed 1 }
placed_to b row x caption (Some end) = record b {
  labels = b.labels ++ record { row = row; x = x; caption = caption } ∷ [];
  free = slice_set b.free (slot row) (end + 6);
  wide = max b.wide end;
}

-- if its row has room for it
abbrev pub placed : Board → Row → ℕ → ℕ → Caption → Board
placed b row x limit caption = placed_to b row x caption (end_of (slice_index_or b.free (slot row) 0) x (length (caption_text caption)) limit)

-- a row is used: its name is put where it is used first
abbrev pub using : Board → Row → Board
using b row = record b { used = slice_set b.used (slot row) true }

abbrev pub entered : Board → Row → Board
entered b row =
    if slice_index_or b.used (slot row) false then b
    else if has_name row then placed (using b row) row 6 130 (Name row)
    else using b row

-- the first row of the script that is free at a place, or the last
abbrev pub script_row : List ℕ → ℕ → ℕ
script_row free x = unwrap_or (position (λ end. nat_le end x) (take 8 (drop 165 free))) 8

-- what is put on a page: a shape, a label in a row that may end at a place, the first of two such that has room there,
-- and a label in the rows of the script
pub data Stroke : Type 0 where
  Draws : Shape → Stroke
  Says : Row → ℕ → ℕ → Caption → Stroke
  SaysEither : Row → ℕ → ℕ → Caption → Caption → Stroke
  SaysLine : ℕ → Caption → Stroke

abbrev pub said : Board → Row → ℕ → ℕ → Caption → Board
said b row x limit caption = placed (entered b row) row x limit caption

-- the first of two labels, where its row has room for it
abbrev pub either : ℕ → ℕ → ℕ → Caption → Caption → Caption
either free x limit long short = if is_some (end_of free x (length (caption_text long)) limit) then long else short

unfoldable pub put : Board → Stroke → Board
put b (Draws shape) = record (entered b shape.row) { shapes = (entered b shape.row).shapes ++ shape ∷ [] }
put b (Says row x limit caption) = said b row x limit caption
put b (SaysEither row x limit long short) = said b row x limit (either (slice_index_or (entered b row).free (slot row) 0) x limit long short)
put b (SaysLine x caption) = said b (Script (script_row b.free x)) x 20000000 caption

-- so are many, one after another
abbrev pub put_all : Board → List Stroke → Board
put_all b [] = b
put_all b (s ∷ strokes) = put_all (put b s) strokes
