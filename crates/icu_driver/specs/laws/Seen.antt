-- What is measured, followed edge by edge: the measures over served edges are told by what was seen before the newest one.
-- Used by Values.
use Rattle.std.proofs.Common.{◌≡◌, ◌&&◌, [], ◌∷◌, ◌++◌, ◌∙◌, if◌then◌else◌}
use Rattle.icu_driver.specs.Terms
use Terms.{Alternate, ap, append_assoc, beginning_at, Bool, Edge, false, is_same, List, MeasureHistory, measures, None}
use Terms.{not, off_on, Option, option_map, refl, seen_from, seen_with, Some, sym, true, up_to}

-- what was seen after one more edge
pub seen_append : (first : Bool) (s : MeasureHistory) (es : List Edge) (e : Edge) → seen_from first s (es ++ e ∷ []) ≡ seen_with first e (seen_from first s es)
seen_append first s [] e = refl
seen_append first s (x ∷ es) e = seen_append first (seen_with first x s) es e

-- ---- directions

same_to : (a b : Bool) → is_same a b ≡ true → a ≡ b
same_to true true e = refl
same_to true false e = absurd (cc)
same_to false true e = absurd (cc)
same_to false false e = refl

other_to : (a b : Bool) → is_same a b ≡ false → a ≡ not b
other_to true true e = absurd (cc)
other_to true false e = refl
other_to false true e = refl
other_to false false e = absurd (cc)

twice : (b : Bool) → not (not b) ≡ b
twice true = refl
twice false = refl

pub same_not : (a b : Bool) → is_same a (not b) ≡ not (is_same a b)
same_not true b = refl
same_not false b = refl

-- ---- a high or a low time: from an edge to the next opposite one

-- the measures that the newest edge completes
abbrev pub half_new : (first : Bool) → List Edge → Edge → List (List Edge)
half_new first [] e = []
half_new first (x ∷ []) e = if is_same x.rising first && (not e.after_gap && is_same e.rising (not first)) then (x ∷ e ∷ []) ∷ [] else []
half_new first (x ∷ y ∷ ys) e = half_new first (y ∷ ys) e

one_by : (sf : Bool) (e : Edge) → (if sf then beginning_at e None else []) ++ [] ≡ []
one_by true e = refl
one_by false e = refl

half_one : (sx ge se sf : Bool) (x e : Edge) → (if sx then beginning_at x (if ge then None else if se then Some (e ∷ []) else option_map (λ xs. e ∷ xs) None) else []) ++ ((if sf then beginning_at e None else []) ++ []) ≡ ((if sx then beginning_at x None else []) ++ []) ++ (if sx && (not ge && se) then (x ∷ e ∷ []) ∷ [] else [])
half_one true true true true x e = refl
half_one true true true false x e = refl
half_one true true false true x e = refl
half_one true true false false x e = refl
half_one true false true true x e = refl
half_one true false true false x e = refl
half_one true false false true x e = refl
half_one true false false false x e = refl
half_one false true true true x e = refl
half_one false true true false x e = refl
half_one false true false true x e = refl
half_one false true false false x e = refl
half_one false false true true x e = refl
half_one false false true false x e = refl
half_one false false false true x e = refl
half_one false false false false x e = refl

-- an edge behind a start edge ends its measure, or breaks it
half_held : (sx gy sy : Bool) (x y : Edge) (o p : Option (List Edge)) → (sx ≡ true → gy ≡ false → sy ≡ true) → (if sx then beginning_at x (if gy then None else if sy then Some (y ∷ []) else option_map (λ xs. y ∷ xs) o) else []) ≡ (if sx then beginning_at x (if gy then None else if sy then Some (y ∷ []) else option_map (λ xs. y ∷ xs) p) else [])
half_held false gy sy x y o p h = refl
half_held true true sy x y o p h = refl
half_held true false true x y o p h = refl
half_held true false false x y o p h = off_on (h refl refl)

turns : (first : Bool) (x y : Edge) → is_same x.rising first ≡ true → is_same y.rising (not x.rising) ≡ true → is_same y.rising (not first) ≡ true
turns first x y s t = sym (ap (λ b. is_same y.rising (not b)) (same_to x.rising first s)) ∙ t

-- one more edge completes what half_new says, and nothing else changes
pub half_append : (first : Bool) (es : List Edge) (e : Edge) → Alternate (es ++ e ∷ []) → measures first (not first) (es ++ e ∷ []) ≡ measures first (not first) es ++ half_new first es e
half_append first [] e a = one_by (is_same e.rising first) e
half_append first (x ∷ []) e a = half_one (is_same x.rising first) e.after_gap (is_same e.rising (not first)) (is_same e.rising first) x e
half_append first (x ∷ y ∷ ys) e a =
    let begun = half_held (is_same x.rising first) y.after_gap (is_same y.rising (not first)) x y (up_to (not first) (ys ++ e ∷ [])) (up_to (not first) ys) (λ s g. turns first x y s (a.0 g)) in
    ap (λ z. z ++ measures first (not first) (y ∷ (ys ++ e ∷ []))) begun
    ∙ ap (λ z. (if is_same x.rising first then beginning_at x (up_to (not first) (y ∷ ys)) else []) ++ z) (half_append first (y ∷ ys) e a.1)
    ∙ sym (append_assoc (if is_same x.rising first then beginning_at x (up_to (not first) (y ∷ ys)) else []) (measures first (not first) (y ∷ ys)) (half_new first (y ∷ ys) e))

-- ---- a period or a duty cycle: from an edge to the next one of its kind

abbrev pub whole_new : (first : Bool) → List Edge → Edge → List (List Edge)
whole_new first [] e = []
whole_new first (x ∷ []) e = []
whole_new first (x ∷ y ∷ []) e = if is_same x.rising first && (not y.after_gap && (not (is_same y.rising first) && (not e.after_gap && is_same e.rising first))) then (x ∷ y ∷ e ∷ []) ∷ [] else []
whole_new first (x ∷ y ∷ z ∷ zs) e = whole_new first (y ∷ z ∷ zs) e

whole_one : (sx ge se : Bool) (x e : Edge) → (sx ≡ true → ge ≡ false → se ≡ false) → (if sx then beginning_at x (if ge then None else if se then Some (e ∷ []) else option_map (λ xs. e ∷ xs) None) else []) ++ ((if se then beginning_at e None else []) ++ []) ≡ []
whole_one true true true x e h = refl
whole_one true true false x e h = refl
whole_one true false true x e h = off_on (sym (h refl refl))
whole_one true false false x e h = refl
whole_one false ge true x e h = refl
whole_one false ge false x e h = refl

whole_two : (sx gy sy ge se : Bool) (x y e : Edge) → (if sx then beginning_at x (if gy then None else if sy then Some (y ∷ []) else option_map (λ xs. y ∷ xs) (if ge then None else if se then Some (e ∷ []) else option_map (λ xs. e ∷ xs) None)) else []) ++ [] ≡ ((if sx then beginning_at x (if gy then None else if sy then Some (y ∷ []) else option_map (λ xs. y ∷ xs) None) else []) ++ []) ++ (if sx && (not gy && (not sy && (not ge && se))) then (x ∷ y ∷ e ∷ []) ∷ [] else [])
whole_two false gy sy ge se x y e = refl
whole_two true true sy ge se x y e = refl
whole_two true false true ge se x y e = refl
whole_two true false false true se x y e = refl
whole_two true false false false true x y e = refl
whole_two true false false false false x y e = refl

whole_held : (sx gy sy gz sz : Bool) (x y z : Edge) (o p : Option (List Edge)) → (sy ≡ false → gz ≡ false → sz ≡ true) → (if sx then beginning_at x (if gy then None else if sy then Some (y ∷ []) else option_map (λ xs. y ∷ xs) (if gz then None else if sz then Some (z ∷ []) else option_map (λ xs. z ∷ xs) o)) else []) ≡ (if sx then beginning_at x (if gy then None else if sy then Some (y ∷ []) else option_map (λ xs. y ∷ xs) (if gz then None else if sz then Some (z ∷ []) else option_map (λ xs. z ∷ xs) p)) else [])
whole_held false gy sy gz sz x y z o p h = refl
whole_held true true sy gz sz x y z o p h = refl
whole_held true false true gz sz x y z o p h = refl
whole_held true false false true sz x y z o p h = refl
whole_held true false false false true x y z o p h = refl
whole_held true false false false false x y z o p h = off_on (h refl refl)

-- an edge behind a start edge is none, and one behind an edge that is none is a start edge
leaves_start : (first : Bool) (x y : Edge) → is_same x.rising first ≡ true → is_same y.rising (not x.rising) ≡ true → is_same y.rising first ≡ false
leaves_start first x y s t = sym (twice (is_same y.rising first)) ∙ ap (λ b. not b) (sym (same_not y.rising first) ∙ turns first x y s t)

comes_back : (first : Bool) (x y : Edge) → is_same x.rising first ≡ false → is_same y.rising (not x.rising) ≡ true → is_same y.rising first ≡ true
comes_back first x y s t = ap (λ b. is_same y.rising b) (sym (ap (λ b. not b) (other_to x.rising first s) ∙ twice first)) ∙ t

pub whole_append : (first : Bool) (es : List Edge) (e : Edge) → Alternate (es ++ e ∷ []) → measures first first (es ++ e ∷ []) ≡ measures first first es ++ whole_new first es e
whole_append first [] e a = one_by (is_same e.rising first) e
whole_append first (x ∷ []) e a = whole_one (is_same x.rising first) e.after_gap (is_same e.rising first) x e (λ s g. leaves_start first x e s (a.0 g)) ∙ sym (ap (λ z. z ++ []) (one_by (is_same x.rising first) x))
whole_append first (x ∷ y ∷ []) e a =
    let sx = is_same x.rising first in
    let begun = λ (m : Option (List Edge)). if sx then beginning_at x (if y.after_gap then None else if is_same y.rising first then Some (y ∷ []) else option_map (λ xs. y ∷ xs) m) else [] in
    ap (λ z. begun (up_to first (e ∷ [])) ++ z) (whole_one (is_same y.rising first) e.after_gap (is_same e.rising first) y e (λ s g. leaves_start first y e s (a.1.0 g)))
    ∙ whole_two sx y.after_gap (is_same y.rising first) e.after_gap (is_same e.rising first) x y e
    ∙ sym (ap (λ z. (begun None ++ z) ++ whole_new first (x ∷ y ∷ []) e) (one_by (is_same y.rising first) y))
whole_append first (x ∷ y ∷ z ∷ zs) e a =
    let begun = whole_held (is_same x.rising first) y.after_gap (is_same y.rising first) z.after_gap (is_same z.rising first) x y z (up_to first (zs ++ e ∷ [])) (up_to first zs) (λ s g. comes_back first y z s (a.1.0 g)) in
    ap (λ m. m ++ measures first first (y ∷ z ∷ (zs ++ e ∷ []))) begun
    ∙ ap (λ m. (if is_same x.rising first then beginning_at x (up_to first (y ∷ z ∷ zs)) else []) ++ m) (whole_append first (y ∷ z ∷ zs) e a.1)
    ∙ sym (append_assoc (if is_same x.rising first then beginning_at x (up_to first (y ∷ z ∷ zs)) else []) (measures first first (y ∷ z ∷ zs)) (whole_new first (y ∷ z ∷ zs) e))
