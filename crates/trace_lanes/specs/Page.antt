-- The page of the signs of a run.
use Rattle.std.specs.Prelude.{ℕ, zero, suc, ◌+◌, ◌-◌, ◌==◌, max, Bool, false, List, [], ◌∷◌, ◌++◌, slice_index_or, Option, Some, None, codes, decimal, count_by, flat_map, if◌then◌else◌}
use Rattle.trace_forms.specs.kinds.Sums.{sum_up}
use Rattle.trace_forms.specs.declared.kinds.signs.Sign.{Sign}
use Rattle.trace_lanes.specs.Board.{Board, Stroke, Says, empty, put_all}
use Rattle.trace_lanes.specs.Captions.{caption_text}
use Rattle.trace_lanes.specs.PageState.{first}
use Rattle.trace_lanes.specs.Drawn.{is_drawn, is_left_out, strokes, behind_all, lasts}
use Rattle.trace_lanes.specs.Marks.{title, symbol, symbol_drop, class, second_class, drop_of, height_of, layer, point_text, box_text, words_text}
use Rattle.trace_lanes.specs.Rows.{slot, top}
use Rattle.trace_lanes.specs.declared.board.Label.{Label}
use Rattle.trace_lanes.specs.declared.board.Mark.{Mark}
use Rattle.trace_lanes.specs.declared.board.Mark.TheVariants as marks
use Rattle.trace_lanes.specs.declared.board.Shape.{Shape}
use Rattle.trace_lanes.specs.declared.caption.Caption.{Caption}
use Rattle.trace_lanes.specs.declared.caption.Caption.TheVariants as captions
use Rattle.trace_lanes.specs.declared.page_state.PageState.{PageState}
use Rattle.trace_lanes.specs.declared.input_name.InputName.{InputName}
use Rattle.trace_lanes.specs.declared.page.TheConstants.{STYLE}
use Rattle.trace_lanes.specs.declared.rows.Row.TheVariants as rows

-- ---- shapes and labels as they are written, where these rows are used

unfoldable pub box_of : List Bool → Shape → List ℕ → List ℕ
box_of used s words = box_text (class s.mark) (second_class s.mark) s.x (top used (slot s.row) + drop_of s.mark) s.width (height_of s.mark (top used 165 - top used 4)) words

abbrev pub marked : List Bool → Shape → Mark → List ℕ
marked used s (marks.Symbol what) = point_text (symbol what) s.x (top used (slot s.row) + symbol_drop what) (title s.sign)
marked used s _ = box_of used s (title s.sign)

unfoldable pub shape_text : List Bool → Shape → List ℕ
shape_text used s = marked used s s.mark

abbrev pub layer_part : List Bool → ℕ → Shape → List ℕ
layer_part used n s = if layer s.mark == n then shape_text used s else []

abbrev pub layer_text : List Bool → ℕ → List Shape → List ℕ
layer_text used n shapes = flat_map (layer_part used n) shapes

abbrev pub label_text : List Bool → Label → List ℕ
label_text used l = words_text l.x (top used (slot l.row) + 11) (caption_text l.caption)

abbrev pub labels_text : List Bool → List Label → List ℕ
labels_text used labels = flat_map (label_text used) labels

-- the ground of the first rows for frames that are used
abbrev pub ground_at : ℕ → List ℕ
ground_at y = codes "<rect class='lane' y='" ++ (decimal y ++ codes "' width='100%' height='35'/>\n")

unfoldable pub lane_text : List Bool → ℕ → List ℕ
lane_text used lane = if slice_index_or used (5 + lane) false then ground_at (top used (5 + lane)) else []

unfoldable pub lanes_text : List Bool → ℕ → List ℕ
lanes_text used zero = []
lanes_text used (suc n) = lanes_text used n ++ lane_text used n

-- ---- the page

-- its title: the name of the input, if it has one, and how many steps and ticks the run has
abbrev pub run_caption : Option InputName → ℕ → ℕ → Caption
run_caption None steps ticks = captions.Run steps ticks
run_caption (Some name) steps ticks = captions.NamedRun name steps ticks

-- what the page says of itself, where so many labels had no room
unfoldable pub own_words : Caption → ℕ → ℕ → ℕ → List Stroke
own_words run drawn left unnamed =
    Says rows.Title 6 20000000 run ∷ Says rows.Colors 6 20000000 captions.Colors ∷ Says rows.Symbols 6 20000000 captions.Symbols
    ∷ Says rows.Tally 6 20000000 (captions.Tally drawn left unnamed) ∷ []

-- all that signs put on it, and then what it says of itself
abbrev pub body : PageState → List Sign → Board
body c signs = put_all (put_all empty (strokes first signs)) (lasts c.x c.levels)

abbrev pub with_words : Caption → List Sign → Board → Board
with_words run signs b = put_all b (own_words run (count_by is_drawn signs) (count_by is_left_out signs) b.unnamed)

abbrev pub board : Option InputName → ℕ → List Sign → Board
board name steps signs = with_words (run_caption name steps (behind_all first signs).ticks) signs (body (behind_all first signs) signs)

-- how wide and how high it is
abbrev pub page_width : Board → ℕ → ℕ
page_width b end = sum_up (max b.wide end) 10

abbrev pub page_height : Board → ℕ
page_height b = top b.used 177 + 8

unfoldable pub opening : ℕ → ℕ → List ℕ
opening width height =
    codes "<svg xmlns='http://www.w3.org/2000/svg' width='" ++ (decimal width ++ (codes "' height='" ++ (decimal height ++
    (codes "' viewBox='0 0 " ++ (decimal width ++ (codes " " ++ (decimal height ++ (codes "'>\n" ++ STYLE.now))))))))

abbrev pub board_text : Board → List ℕ
board_text b = lanes_text b.used 40 ++ (layer_text b.used 0 b.shapes ++ (layer_text b.used 1 b.shapes ++ (layer_text b.used 2 b.shapes ++ labels_text b.used b.labels)))

abbrev pub text_of : Board → ℕ → List ℕ
text_of b end = opening (page_width b end) (page_height b) ++ (board_text b ++ codes "</svg>\n")

-- of the signs of a trace of so many steps, with the name of its input, if it has one
abbrev pub page : Option InputName → ℕ → List Sign → List ℕ
page name steps signs = text_of (board name steps signs) (behind_all first signs).x
