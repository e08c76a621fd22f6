-- What holds of the labels of a page.
use Rattle.std.specs.Prelude.{◌⊎◌, ℕ, ◌+◌, ◌≤◌, List, [], ◌∷◌, map, Bool}
use Rattle.trace_lanes.specs.Board.{Board}
use Rattle.trace_lanes.specs.Captions.{width}
use Rattle.trace_lanes.specs.Page.{page_width, page_height}
use Rattle.trace_lanes.specs.Rows.{slot, top}
use Rattle.trace_lanes.specs.declared.board.Label.{Label}

-- the rectangle in which the letters of a label stand, which are 6 wide and 11 high
pub record Rectangle : Type 0 where
  pub left : ℕ
  pub right : ℕ
  pub upper : ℕ
  pub lower : ℕ

abbrev pub rectangle : List Bool → Label → Rectangle
rectangle used l = record { left = l.x; right = l.x + width l.caption; upper = top used (slot l.row) + 2; lower = top used (slot l.row) + 13 }

-- One ends where the other begins, or before.
abbrev pub Apart : Rectangle → Rectangle → Type 0
Apart a b = (a.right ≤ b.left ⊎ b.right ≤ a.left) ⊎ (a.lower ≤ b.upper ⊎ b.lower ≤ a.upper)

abbrev pub ApartFrom : Rectangle → List Rectangle → Type 0
ApartFrom a [] = Unit {0}
ApartFrom a (b ∷ bs) = Apart a b × ApartFrom a bs

-- No two have a point in common.
abbrev pub AllApart : List Rectangle → Type 0
AllApart [] = Unit {0}
AllApart (a ∷ rest) = ApartFrom a rest × AllApart rest

-- All lie inside a page that is so wide and so high.
abbrev pub AllInside : ℕ → ℕ → List Rectangle → Type 0
AllInside width height [] = Unit {0}
AllInside width height (a ∷ rest) = ((a.right ≤ width) × (a.lower ≤ height)) × AllInside width height rest

-- Of a page on which a run reaches to a place, no two labels overlap, and all lie inside it.
pub record HasClearLabels (b : Board) (end : ℕ) : Type 0 where
  pub apart : AllApart (map (rectangle b.used) b.labels)
  pub inside : AllInside (page_width b end) (page_height b) (map (rectangle b.used) b.labels)
