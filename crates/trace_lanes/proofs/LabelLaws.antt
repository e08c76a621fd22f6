-- No two labels overlap, and all lie inside the page.
use Rattle.std.proofs.Common.{◌≡◌, ◌≢◌, inl, inr, ℕ, zero, suc, ◌+◌, ◌*◌, ◌<◌, ◌≤◌, List, [], ◌∷◌, ◌++◌, length, Bool, true, false, Option, Some, None, map, refl, ◌∙◌, ap, sym, subst, arith}
use Rattle.std.specs.Prelude.{◌==◌, ◌&&◌, max, count_by, nat_le, nat_lt, slice_index_or, slice_set, if◌then◌else◌}
use Rattle.std.proofs.lemmas.Bool.{false≢true}
use Rattle.std.proofs.lemmas.Bool.Decides.{nat_tests}
use Rattle.std.proofs.lemmas.List.{get_or-set_same, get_or-set_other, length-set}
use Rattle.bench_report.specs.Numbers.{Each}
use Rattle.trace_forms.specs.declared.kinds.signs.Sign.{Sign}
use Rattle.trace_lanes.specs.Board.{Board, Stroke, Draws, Says, SaysEither, SaysLine, empty, fits, either, placed_to, placed, using, entered, said, script_row, put, put_all}
use Rattle.trace_lanes.specs.Captions.{caption_text, width}
use Rattle.trace_lanes.specs.PageState.{first}
use Rattle.trace_lanes.specs.Drawn.{is_drawn, is_left_out, strokes, behind_all, lasts}
use Rattle.trace_lanes.specs.Laws.{rectangle, Apart, ApartFrom, AllApart, AllInside, HasClearLabels}
use Rattle.trace_lanes.specs.Page.{run_caption, own_words, body, board, page_width, page_height}
use Rattle.trace_lanes.specs.Rows.{slot, has_name, pitch, top}
use Rattle.trace_lanes.specs.declared.board.Label.{Label}
use Rattle.trace_lanes.specs.declared.caption.Caption.{Caption}
use Rattle.trace_lanes.specs.declared.caption.Caption.TheVariants.{Name}
use Rattle.trace_lanes.specs.declared.input_name.InputName.{InputName}
use Rattle.trace_lanes.specs.declared.rows.Row.{Row}
use Rattle.trace_lanes.specs.declared.rows.Row.TheVariants as rows

-- ---- lists

each_more : {T : Type 0} (P : T → Type 0) (xs : List T) (x : T) → Each P xs → P x → Each P (xs ++ x ∷ [])
each_more P [] x h p = (p, tt)
each_more P (y ∷ xs) x h p = (h.0, each_more P xs x h.1 p)

each_map : {T : Type 0} (P Q : T → Type 0) (xs : List T) → ((x : T) → P x → Q x) → Each P xs → Each Q xs
each_map P Q [] f h = tt
each_map P Q (x ∷ xs) f h = (f x h.0, each_map P Q xs f h.1)

-- ---- rows

slot_within : (r : Row) → slot r < 177
slot_within rows.Title = omega arith
slot_within rows.Errors = omega arith
slot_within rows.Notices = omega arith
slot_within rows.Held = omega arith
slot_within rows.Ticks = omega arith
slot_within (rows.Level level) = omega arith
slot_within (rows.Handler line) = omega arith
slot_within (rows.Pin p) = omega arith
slot_within (rows.Analog input) = omega arith
slot_within (rows.Output output) = omega arith
slot_within (rows.Duty output) = omega arith
slot_within (rows.Period output) = omega arith
slot_within (rows.Script row) = omega arith
slot_within rows.Colors = omega arith
slot_within rows.Symbols = omega arith
slot_within rows.Tally = omega arith

-- a row is at least as high as a label
pitch_case : (a b c d : Bool) → 14 ≤ (if a then 24 else if b then 22 else if c then 36 else if d then 20 else 14)
pitch_case true b c d = omega arith
pitch_case false true c d = omega arith
pitch_case false false true d = omega arith
pitch_case false false false true = omega arith
pitch_case false false false false = omega arith

pitch_least : (n : ℕ) → 14 ≤ pitch n
pitch_least n = pitch_case (n == 0) (nat_lt n 5) (nat_lt n 45) (nat_lt n 165)

top_case : (here : Bool) (y p : ℕ) → y ≤ (if here then y + p else y)
top_case true y p = omega arith
top_case false y p = omega arith

-- the rows below one that is used begin below it
top_here : (used : List Bool) (n : ℕ) → slice_index_or used n false ≡ true → top used n + 14 ≤ top used (suc n)
unfolding top
top_here used n h =
    subst (λ (b : Bool). top used n + 14 ≤ (if b then top used n + pitch n else top used n)) (sym h) (omega (arith, pitch_least n))

top_next : (used : List Bool) (n : ℕ) → top used n ≤ top used (suc n)
unfolding top
top_next used n = top_case (slice_index_or used n false) (top used n) (pitch n)

top_on : (used : List Bool) (a n : ℕ) (same : Bool) → (a == n) ≡ same → a < suc n → (a < n → top used a + 14 ≤ top used n) → slice_index_or used a false ≡ true → top used a + 14 ≤ top used (suc n)
top_on used a n true e lt on h =
    let is : a ≡ n = grind (arith, nat_tests) in
    subst (λ (k : ℕ). top used k + 14 ≤ top used (suc n)) (sym is) (top_here used n (subst (λ (k : ℕ). slice_index_or used k false ≡ true) is h))
top_on used a n false e lt on h =
    let other : a ≢ n = grind (arith, nat_tests) in
    let below : a < n = omega (arith, lt, other) in
    omega (arith, on below, top_next used n)

top_more : (used : List Bool) (a b : ℕ) → a < b → slice_index_or used a false ≡ true → top used a + 14 ≤ top used b
top_more used a zero lt h = absurd (omega (arith, lt))
top_more used a (suc n) lt h = top_on used a n (a == n) refl lt (λ below. top_more used a n below h) h

-- ---- labels

-- of two labels in one row the first ends before the other begins
abbrev Before : Label → Label → Type 0
Before l m = slot l.row ≡ slot m.row → l.x + width l.caption ≤ m.x

abbrev Clear : List Label → Type 0
Clear [] = Unit {0}
Clear (l ∷ ls) = Each (Before l) ls × Clear ls

clear_more : (ls : List Label) (m : Label) → Clear ls → Each (λ l. Before l m) ls → Clear (ls ++ m ∷ [])
clear_more [] m h e = (tt, tt)
clear_more (l ∷ ls) m h e = (each_more (Before l) ls m h.0 e.0, clear_more ls m h.1 e.1)

-- a label ends where its row is free from, or before, and the page reaches as far; and its row is used
record Stands (free : List ℕ) (used : List Bool) (wide : ℕ) (l : Label) : Type 0 where
  ends : l.x + width l.caption ≤ slice_index_or free (slot l.row) 0
  reach : l.x + width l.caption ≤ wide
  few : l.x + width l.caption ≤ 10006000
  there : slice_index_or used (slot l.row) false ≡ true

record Keeps (b : Board) : Type 0 where
  rows_free : length b.free ≡ 177
  rows_used : length b.used ≡ 177
  stands : Each (Stands b.free b.used b.wide) b.labels
  clear : Clear b.labels

-- ---- a label more

-- what it is where a label has room
record Has (free x letters limit : ℕ) : Type 0 where
  short : letters ≤ 1000
  near : x ≤ 10000000
  room : free ≤ x

fits_case : (a b c d : Bool) (free x letters limit : ℕ) → nat_le letters 1000 ≡ a → nat_le x 10000000 ≡ b → nat_le free x ≡ c → (a && (b && (c && d))) ≡ true → Has free x letters limit
fits_case true true true d free x letters limit p q r h = record { short = grind (arith, nat_tests); near = grind (arith, nat_tests); room = grind (arith, nat_tests) }
fits_case true true false d free x letters limit p q r h = absurd (false≢true h)
fits_case true false c d free x letters limit p q r h = absurd (false≢true h)
fits_case false b c d free x letters limit p q r h = absurd (false≢true h)

has : (free x letters limit : ℕ) → fits free x letters limit ≡ true → Has free x letters limit
has free x letters limit h = fits_case _ _ _ (nat_le (x + letters * 6) limit) free x letters limit refl refl refl h

free_case : (free : List ℕ) (row : ℕ) (n at to : ℕ) (here : Bool) → (n == row) ≡ here → row < length free → at ≤ slice_index_or free n 0 → slice_index_or free row 0 ≤ to → at ≤ slice_index_or (slice_set free row to) n 0
free_case free row n at to true e lt h le =
    let is : n ≡ row = grind (arith, nat_tests) in
    let now : slice_index_or (slice_set free row to) row 0 ≡ to = get_or-set_same free row to 0 lt in
    let was : at ≤ slice_index_or free row 0 = subst (λ (k : ℕ). at ≤ slice_index_or free k 0) is h in
    subst (λ (k : ℕ). at ≤ slice_index_or (slice_set free row to) k 0) (sym is) (omega (arith, now, was, le))
free_case free row n at to false e lt h le =
    let other : n ≢ row = grind (arith, nat_tests) in
    let now : slice_index_or (slice_set free row to) n 0 ≡ slice_index_or free n 0 = get_or-set_other free row n to 0 other in
    omega (arith, now, h)

still_stands : (free : List ℕ) (used : List Bool) (wide row to reach : ℕ) (l : Label) → row < length free → slice_index_or free row 0 ≤ to → Stands free used wide l → Stands (slice_set free row to) used (max wide reach) l
still_stands free used wide row to reach l lt le h = record {
  ends = free_case free row (slot l.row) (l.x + width l.caption) to (slot l.row == row) refl lt h.ends le;
  reach = omega (arith, h.reach);
  few = h.few;
  there = h.there;
}

stands_before : (free : List ℕ) (used : List Bool) (wide : ℕ) (m l : Label) → slice_index_or free (slot m.row) 0 ≤ m.x → Stands free used wide l → Before l m
stands_before free used wide m l room h same =
    let at : l.x + width l.caption ≤ slice_index_or free (slot m.row) 0 = subst (λ (k : ℕ). l.x + width l.caption ≤ slice_index_or free k 0) same h.ends in
    omega (arith, at, room)

label_keeps : (b : Board) (m : Label) (end : ℕ) → Keeps b → slice_index_or b.used (slot m.row) false ≡ true → slice_index_or b.free (slot m.row) 0 ≤ m.x → m.x + width m.caption ≡ end → end ≤ 10006000 →
    Keeps (record b { labels = b.labels ++ m ∷ []; free = slice_set b.free (slot m.row) (end + 6); wide = max b.wide end })
label_keeps b m end h used room is few =
    let lt : slot m.row < length b.free = omega (arith, h.rows_free, slot_within m.row) in
    let le : slice_index_or b.free (slot m.row) 0 ≤ end + 6 = omega (arith, room, is) in
    let now : slice_index_or (slice_set b.free (slot m.row) (end + 6)) (slot m.row) 0 ≡ end + 6 = get_or-set_same b.free (slot m.row) (end + 6) 0 lt in
    record {
      rows_free = length-set b.free (slot m.row) (end + 6) ∙ h.rows_free;
      rows_used = h.rows_used;
      stands =
          each_more (Stands (slice_set b.free (slot m.row) (end + 6)) b.used (max b.wide end)) b.labels m
          (each_map (Stands b.free b.used b.wide) (Stands (slice_set b.free (slot m.row) (end + 6)) b.used (max b.wide end)) b.labels
          (λ l. still_stands b.free b.used b.wide (slot m.row) (end + 6) end l lt le) h.stands)
          (record { ends = omega (arith, now, is); reach = omega (arith, is); few = omega (arith, is, few); there = used });
      clear = clear_more b.labels m h.clear (each_map (Stands b.free b.used b.wide) (λ l. Before l m) b.labels (λ l. stands_before b.free b.used b.wide m l room) h.stands);
    }

with_keeps : (b : Board) (row : Row) (x : ℕ) (limit : ℕ) (caption : Caption) → Keeps b → slice_index_or b.used (slot row) false ≡ true → Has (slice_index_or b.free (slot row) 0) x (length (caption_text caption)) limit →
    Keeps (placed_to b row x caption (Some (x + length (caption_text caption) * 6)))
with_keeps b row x limit caption h used room =
    label_keeps b (record { row = row; x = x; caption = caption }) (x + length (caption_text caption) * 6) h used room.room refl (omega (arith, room.short, room.near))

placed_case : (b : Board) (row : Row) (x limit : ℕ) (caption : Caption) (room : Bool) → fits (slice_index_or b.free (slot row) 0) x (length (caption_text caption)) limit ≡ room → Keeps b → slice_index_or b.used (slot row) false ≡ true →
    Keeps (placed_to b row x caption (if room then Some (x + length (caption_text caption) * 6) else None))
placed_case b row x limit caption true e h used = with_keeps b row x limit caption h used (has (slice_index_or b.free (slot row) 0) x (length (caption_text caption)) limit e)
placed_case b row x limit caption false e h used = record { rows_free = h.rows_free; rows_used = h.rows_used; stands = h.stands; clear = h.clear }

placed_keeps : (b : Board) (row : Row) (x limit : ℕ) (caption : Caption) → Keeps b → slice_index_or b.used (slot row) false ≡ true → Keeps (placed b row x limit caption)
placed_keeps b row x limit caption h used = placed_case b row x limit caption _ refl h used

-- ---- a row more

used_case : (used : List Bool) (row n : ℕ) (here : Bool) → (n == row) ≡ here → row < length used → slice_index_or used n false ≡ true → slice_index_or (slice_set used row true) n false ≡ true
used_case used row n true e lt h =
    let is : n ≡ row = grind (arith, nat_tests) in
    subst (λ (k : ℕ). slice_index_or (slice_set used row true) k false ≡ true) (sym is) (get_or-set_same used row true false lt)
used_case used row n false e lt h =
    let other : n ≢ row = grind (arith, nat_tests) in
    get_or-set_other used row n true false other ∙ h

used_stands : (free : List ℕ) (used : List Bool) (wide row : ℕ) (l : Label) → row < length used → Stands free used wide l → Stands free (slice_set used row true) wide l
used_stands free used wide row l lt h = record { ends = h.ends; reach = h.reach; few = h.few; there = used_case used row (slot l.row) (slot l.row == row) refl lt h.there }

-- a board with a row in use
record Uses (b : Board) (row : Row) : Type 0 where
  keeps : Keeps b
  used : slice_index_or b.used (slot row) false ≡ true

using_keeps : (b : Board) (row : Row) → Keeps b → Uses (using b row) row
using_keeps b row h =
    let lt : slot row < length b.used = omega (arith, h.rows_used, slot_within row) in
    record {
      keeps = record {
        rows_free = h.rows_free;
        rows_used = length-set b.used (slot row) true ∙ h.rows_used;
        stands = each_map (Stands b.free b.used b.wide) (Stands b.free (slice_set b.used (slot row) true) b.wide) b.labels (λ l. used_stands b.free b.used b.wide (slot row) l lt) h.stands;
        clear = h.clear;
      };
      used = get_or-set_same b.used (slot row) true false lt;
    }

placed_used_case : (b : Board) (row : Row) (x : ℕ) (caption : Caption) (end : ℕ) (room : Bool) → (placed_to b row x caption (if room then Some end else None)).used ≡ b.used
placed_used_case b row x caption end true = refl
placed_used_case b row x caption end false = refl

placed_used : (b : Board) (row : Row) (x limit : ℕ) (caption : Caption) → (placed b row x limit caption).used ≡ b.used
placed_used b row x limit caption = placed_used_case b row x caption (x + length (caption_text caption) * 6) (fits (slice_index_or b.free (slot row) 0) x (length (caption_text caption)) limit)

placed_uses : (b : Board) (row : Row) (x limit : ℕ) (caption : Caption) → Uses b row → Uses (placed b row x limit caption) row
placed_uses b row x limit caption h = record {
  keeps = placed_keeps b row x limit caption h.keeps h.used;
  used = ap (λ (used : List Bool). slice_index_or used (slot row) false) (placed_used b row x limit caption) ∙ h.used;
}

entered_case : (b : Board) (row : Row) (there named : Bool) → slice_index_or b.used (slot row) false ≡ there → Keeps b →
    Uses (if there then b else if named then placed (using b row) row 6 130 (Name row) else using b row) row
entered_case b row true named e h = record { keeps = h; used = e }
entered_case b row false true e h = placed_uses (using b row) row 6 130 (Name row) (using_keeps b row h)
entered_case b row false false e h = using_keeps b row h

entered_uses : (b : Board) (row : Row) → Keeps b → Uses (entered b row) row
entered_uses b row h = entered_case b row _ (has_name row) refl h

said_keeps : (b : Board) (row : Row) (x limit : ℕ) (caption : Caption) → Keeps b → Keeps (said b row x limit caption)
said_keeps b row x limit caption h = (placed_uses (entered b row) row x limit caption (entered_uses b row h)).keeps

put_keeps : (b : Board) (s : Stroke) → Keeps b → Keeps (put b s)
unfolding put
put_keeps b (Draws shape) h =
    let k : Keeps (entered b shape.row) = (entered_uses b shape.row h).keeps in
    record { rows_free = k.rows_free; rows_used = k.rows_used; stands = k.stands; clear = k.clear }
put_keeps b (Says row x limit caption) h = said_keeps b row x limit caption h
put_keeps b (SaysEither row x limit long short) h = said_keeps b row x limit (either (slice_index_or (entered b row).free (slot row) 0) x limit long short) h
put_keeps b (SaysLine x caption) h = said_keeps b (rows.Script (script_row b.free x)) x 20000000 caption h

all_keep : (b : Board) (ss : List Stroke) → Keeps b → Keeps (put_all b ss)
all_keep b [] h = h
all_keep b (s ∷ ss) h = all_keep (put b s) ss (put_keeps b s h)

empty_keeps : Keeps empty
empty_keeps = record { rows_free = refl; rows_used = refl; stands = tt; clear = tt }

-- ---- rectangles

apart_case : (used : List Bool) (l m : Label) (same before : Bool) → (slot l.row == slot m.row) ≡ same → nat_lt (slot l.row) (slot m.row) ≡ before → slice_index_or used (slot l.row) false ≡ true → slice_index_or used (slot m.row) false ≡ true → Before l m →
    Apart (rectangle used l) (rectangle used m)
apart_case used l m true before e f there also clear =
    let is : slot l.row ≡ slot m.row = grind (arith, nat_tests) in
    inl (inl (clear is))
apart_case used l m false true e f there also clear =
    let below : slot l.row < slot m.row = grind (arith, nat_tests) in
    let higher : top used (slot l.row) + 14 ≤ top used (slot m.row) = top_more used (slot l.row) (slot m.row) below there in
    inr (inl (omega (arith, higher)))
apart_case used l m false false e f there also clear =
    let other : slot l.row ≢ slot m.row = grind (arith, nat_tests) in
    let not_below : slot m.row ≤ slot l.row = grind (arith, nat_tests) in
    let below : slot m.row < slot l.row = omega (arith, other, not_below) in
    let higher : top used (slot m.row) + 14 ≤ top used (slot l.row) = top_more used (slot m.row) (slot l.row) below also in
    inr (inr (omega (arith, higher)))

apart_from : (free : List ℕ) (used : List Bool) (wide : ℕ) (l : Label) (ls : List Label) → Stands free used wide l → Each (Stands free used wide) ls → Each (Before l) ls → ApartFrom (rectangle used l) (map (rectangle used) ls)
apart_from free used wide l [] h hs cs = tt
apart_from free used wide l (m ∷ ls) h hs cs =
    (apart_case used l m (slot l.row == slot m.row) (nat_lt (slot l.row) (slot m.row)) refl refl h.there hs.0.there cs.0, apart_from free used wide l ls h hs.1 cs.1)

all_apart : (free : List ℕ) (used : List Bool) (wide : ℕ) (ls : List Label) → Each (Stands free used wide) ls → Clear ls → AllApart (map (rectangle used) ls)
all_apart free used wide [] h c = tt
all_apart free used wide (l ∷ ls) h c = (apart_from free used wide l ls h.0 h.1 c.0, all_apart free used wide ls h.1 c.1)

inside_one : (b : Board) (end : ℕ) (l : Label) → Stands b.free b.used b.wide l → ((rectangle b.used l).right ≤ page_width b end) × ((rectangle b.used l).lower ≤ page_height b)
inside_one b end l h =
    let lower : top b.used (slot l.row) + 14 ≤ top b.used 177 = top_more b.used (slot l.row) 177 (slot_within l.row) h.there in
    (omega (arith, h.reach, h.few), omega (arith, lower))

all_inside : (b : Board) (end : ℕ) (ls : List Label) → Each (Stands b.free b.used b.wide) ls → AllInside (page_width b end) (page_height b) (map (rectangle b.used) ls)
all_inside b end [] h = tt
all_inside b end (l ∷ ls) h = (inside_one b end l h.0, all_inside b end ls h.1)

clear_of : (b : Board) (end : ℕ) → Keeps b → HasClearLabels b end
clear_of b end h = record { apart = all_apart b.free b.used b.wide b.labels h.stands h.clear; inside = all_inside b end b.labels h.stands }

pub clear_labels : (name : Option InputName) (steps : ℕ) (signs : List Sign) → HasClearLabels (board name steps signs) (behind_all first signs).x
clear_labels name steps signs =
    clear_of (board name steps signs) (behind_all first signs).x
    (all_keep (body (behind_all first signs) signs)
    (own_words (run_caption name steps (behind_all first signs).ticks) (count_by is_drawn signs) (count_by is_left_out signs) (body (behind_all first signs) signs).unnamed)
    (all_keep (put_all empty (strokes first signs)) (lasts (behind_all first signs).x (behind_all first signs).levels)
    (all_keep empty (strokes first signs) empty_keeps)))
