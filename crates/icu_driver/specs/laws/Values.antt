-- The values over served edges: one more edge adds the value that what was seen tells, and no other.
-- From Seen.
-- Used by SampleRight.
use Rattle.std.proofs.Common.{◌≡◌, ◌&&◌, [], ◌∷◌, ◌++◌, ◌∙◌, if◌then◌else◌}
use Rattle.icu_driver.specs.Terms
use Terms.{Alternate, ap, begins_rising, Bool, Channel, DutyCycle, Edge, false, filter_map, filter_map-append}
use Terms.{half_told, HighTime, IcuSignalMeasurementProperty, is_same, List, LowTime, MeasureHistory, measures, not}
use Terms.{Nothing_seen, opposed, Opposite_seen, PeriodTime, refl, seen_from, seen_with, Some, Start_seen, told_with}
use Terms.{true, unbroken, value_of, values_by, whole_told}
use Rattle.icu_driver.specs.laws.Seen.{half_new, half_append, whole_new, whole_append, same_not}

-- ---- a high time

high_case : (sx ge se : Bool) (x e : Edge) (s : MeasureHistory) → filter_map (value_of HighTime) (if sx && (not ge && not se) then (x ∷ e ∷ []) ∷ [] else []) ≡ half_told se e (if ge then Nothing_seen else if sx then Start_seen x.time else opposed x.time s)
high_case true true true x e s = refl
high_case true true false x e s = refl
high_case true false true x e s = refl
high_case true false false x e s = refl
high_case false true true x e s = refl
high_case false true false x e s = refl
high_case false false true x e s = refl
high_case false false false x e Nothing_seen = refl
high_case false false false x e (Start_seen a) = refl
high_case false false false x e (Opposite_seen a b) = refl

high_none : (se ge : Bool) (e : Edge) → [] ≡ half_told se e (if ge then Nothing_seen else Nothing_seen)
high_none true ge e = refl
high_none false true e = refl
high_none false false e = refl

high_from : (first : Bool) (s : MeasureHistory) (x : Edge) (xs : List Edge) (e : Edge) → filter_map (value_of HighTime) (half_new first (x ∷ xs) e) ≡ half_told (is_same e.rising first) e (unbroken e (seen_from first s (x ∷ xs)))
high_from first s x [] e = ap (λ q. filter_map (value_of HighTime) (if is_same x.rising first && (not e.after_gap && q) then (x ∷ e ∷ []) ∷ [] else [])) (same_not e.rising first) ∙ high_case (is_same x.rising first) e.after_gap (is_same e.rising first) x e (unbroken x s)
high_from first s x (y ∷ ys) e = high_from first (seen_with first x s) y ys e

high_told : (first : Bool) (es : List Edge) (e : Edge) → filter_map (value_of HighTime) (half_new first es e) ≡ half_told (is_same e.rising first) e (unbroken e (seen_from first Nothing_seen es))
high_told first [] e = high_none (is_same e.rising first) e.after_gap e
high_told first (x ∷ xs) e = high_from first Nothing_seen x xs e

-- ---- a low time

low_case : (sx ge se : Bool) (x e : Edge) (s : MeasureHistory) → filter_map (value_of LowTime) (if sx && (not ge && not se) then (x ∷ e ∷ []) ∷ [] else []) ≡ half_told se e (if ge then Nothing_seen else if sx then Start_seen x.time else opposed x.time s)
low_case true true true x e s = refl
low_case true true false x e s = refl
low_case true false true x e s = refl
low_case true false false x e s = refl
low_case false true true x e s = refl
low_case false true false x e s = refl
low_case false false true x e s = refl
low_case false false false x e Nothing_seen = refl
low_case false false false x e (Start_seen a) = refl
low_case false false false x e (Opposite_seen a b) = refl

low_none : (se ge : Bool) (e : Edge) → [] ≡ half_told se e (if ge then Nothing_seen else Nothing_seen)
low_none true ge e = refl
low_none false true e = refl
low_none false false e = refl

low_from : (first : Bool) (s : MeasureHistory) (x : Edge) (xs : List Edge) (e : Edge) → filter_map (value_of LowTime) (half_new first (x ∷ xs) e) ≡ half_told (is_same e.rising first) e (unbroken e (seen_from first s (x ∷ xs)))
low_from first s x [] e = ap (λ q. filter_map (value_of LowTime) (if is_same x.rising first && (not e.after_gap && q) then (x ∷ e ∷ []) ∷ [] else [])) (same_not e.rising first) ∙ low_case (is_same x.rising first) e.after_gap (is_same e.rising first) x e (unbroken x s)
low_from first s x (y ∷ ys) e = low_from first (seen_with first x s) y ys e

low_told : (first : Bool) (es : List Edge) (e : Edge) → filter_map (value_of LowTime) (half_new first es e) ≡ half_told (is_same e.rising first) e (unbroken e (seen_from first Nothing_seen es))
low_told first [] e = low_none (is_same e.rising first) e.after_gap e
low_told first (x ∷ xs) e = low_from first Nothing_seen x xs e

-- ---- a period

period_case : (sx gy sy ge se : Bool) (x y e : Edge) (s : MeasureHistory) → filter_map (value_of PeriodTime) (if sx && (not gy && (not sy && (not ge && se))) then (x ∷ y ∷ e ∷ []) ∷ [] else []) ≡ whole_told se false e (if ge then Nothing_seen else if sy then Start_seen y.time else opposed y.time (if gy then Nothing_seen else if sx then Start_seen x.time else opposed x.time s))
period_case true true true true true x y e s = refl
period_case true true true true false x y e s = refl
period_case true true true false true x y e s = refl
period_case true true true false false x y e s = refl
period_case true true false true true x y e s = refl
period_case true true false true false x y e s = refl
period_case true true false false true x y e s = refl
period_case true true false false false x y e s = refl
period_case true false true true true x y e s = refl
period_case true false true true false x y e s = refl
period_case true false true false true x y e s = refl
period_case true false true false false x y e s = refl
period_case true false false true true x y e s = refl
period_case true false false true false x y e s = refl
period_case true false false false true x y e s = refl
period_case true false false false false x y e s = refl
period_case false true true true true x y e s = refl
period_case false true true true false x y e s = refl
period_case false true true false true x y e s = refl
period_case false true true false false x y e s = refl
period_case false true false true true x y e s = refl
period_case false true false true false x y e s = refl
period_case false true false false true x y e s = refl
period_case false true false false false x y e s = refl
period_case false false true true true x y e s = refl
period_case false false true true false x y e s = refl
period_case false false true false true x y e s = refl
period_case false false true false false x y e s = refl
period_case false false false true true x y e s = refl
period_case false false false true false x y e s = refl
period_case false false false false true x y e Nothing_seen = refl
period_case false false false false true x y e (Start_seen a) = refl
period_case false false false false true x y e (Opposite_seen a b) = refl
period_case false false false false false x y e s = refl

period_one : (sx gx ge se : Bool) (x e : Edge) → [] ≡ whole_told se false e (if ge then Nothing_seen else if sx then Start_seen x.time else opposed x.time (if gx then Nothing_seen else Nothing_seen))
period_one true true true true x e = refl
period_one true true true false x e = refl
period_one true true false true x e = refl
period_one true true false false x e = refl
period_one true false true true x e = refl
period_one true false true false x e = refl
period_one true false false true x e = refl
period_one true false false false x e = refl
period_one false true true true x e = refl
period_one false true true false x e = refl
period_one false true false true x e = refl
period_one false true false false x e = refl
period_one false false true true x e = refl
period_one false false true false x e = refl
period_one false false false true x e = refl
period_one false false false false x e = refl

period_none : (se ge : Bool) (e : Edge) → [] ≡ whole_told se false e (if ge then Nothing_seen else Nothing_seen)
period_none true true e = refl
period_none true false e = refl
period_none false ge e = refl

period_from : (first : Bool) (s : MeasureHistory) (x y : Edge) (ys : List Edge) (e : Edge) → filter_map (value_of PeriodTime) (whole_new first (x ∷ y ∷ ys) e) ≡ whole_told (is_same e.rising first) false e (unbroken e (seen_from first s (x ∷ y ∷ ys)))
period_from first s x y [] e = period_case (is_same x.rising first) y.after_gap (is_same y.rising first) e.after_gap (is_same e.rising first) x y e (unbroken x s)
period_from first s x y (z ∷ zs) e = period_from first (seen_with first x s) y z zs e

period_told : (first : Bool) (es : List Edge) (e : Edge) → filter_map (value_of PeriodTime) (whole_new first es e) ≡ whole_told (is_same e.rising first) false e (unbroken e (seen_from first Nothing_seen es))
period_told first [] e = period_none (is_same e.rising first) e.after_gap e
period_told first (x ∷ []) e = period_one (is_same x.rising first) x.after_gap e.after_gap (is_same e.rising first) x e
period_told first (x ∷ y ∷ ys) e = period_from first Nothing_seen x y ys e

-- ---- a duty cycle

duty_case : (sx gy sy ge se : Bool) (x y e : Edge) (s : MeasureHistory) → filter_map (value_of DutyCycle) (if sx && (not gy && (not sy && (not ge && se))) then (x ∷ y ∷ e ∷ []) ∷ [] else []) ≡ whole_told se true e (if ge then Nothing_seen else if sy then Start_seen y.time else opposed y.time (if gy then Nothing_seen else if sx then Start_seen x.time else opposed x.time s))
duty_case true true true true true x y e s = refl
duty_case true true true true false x y e s = refl
duty_case true true true false true x y e s = refl
duty_case true true true false false x y e s = refl
duty_case true true false true true x y e s = refl
duty_case true true false true false x y e s = refl
duty_case true true false false true x y e s = refl
duty_case true true false false false x y e s = refl
duty_case true false true true true x y e s = refl
duty_case true false true true false x y e s = refl
duty_case true false true false true x y e s = refl
duty_case true false true false false x y e s = refl
duty_case true false false true true x y e s = refl
duty_case true false false true false x y e s = refl
duty_case true false false false true x y e s = refl
duty_case true false false false false x y e s = refl
duty_case false true true true true x y e s = refl
duty_case false true true true false x y e s = refl
duty_case false true true false true x y e s = refl
duty_case false true true false false x y e s = refl
duty_case false true false true true x y e s = refl
duty_case false true false true false x y e s = refl
duty_case false true false false true x y e s = refl
duty_case false true false false false x y e s = refl
duty_case false false true true true x y e s = refl
duty_case false false true true false x y e s = refl
duty_case false false true false true x y e s = refl
duty_case false false true false false x y e s = refl
duty_case false false false true true x y e s = refl
duty_case false false false true false x y e s = refl
duty_case false false false false true x y e Nothing_seen = refl
duty_case false false false false true x y e (Start_seen a) = refl
duty_case false false false false true x y e (Opposite_seen a b) = refl
duty_case false false false false false x y e s = refl

duty_one : (sx gx ge se : Bool) (x e : Edge) → [] ≡ whole_told se true e (if ge then Nothing_seen else if sx then Start_seen x.time else opposed x.time (if gx then Nothing_seen else Nothing_seen))
duty_one true true true true x e = refl
duty_one true true true false x e = refl
duty_one true true false true x e = refl
duty_one true true false false x e = refl
duty_one true false true true x e = refl
duty_one true false true false x e = refl
duty_one true false false true x e = refl
duty_one true false false false x e = refl
duty_one false true true true x e = refl
duty_one false true true false x e = refl
duty_one false true false true x e = refl
duty_one false true false false x e = refl
duty_one false false true true x e = refl
duty_one false false true false x e = refl
duty_one false false false true x e = refl
duty_one false false false false x e = refl

duty_none : (se ge : Bool) (e : Edge) → [] ≡ whole_told se true e (if ge then Nothing_seen else Nothing_seen)
duty_none true true e = refl
duty_none true false e = refl
duty_none false ge e = refl

duty_from : (first : Bool) (s : MeasureHistory) (x y : Edge) (ys : List Edge) (e : Edge) → filter_map (value_of DutyCycle) (whole_new first (x ∷ y ∷ ys) e) ≡ whole_told (is_same e.rising first) true e (unbroken e (seen_from first s (x ∷ y ∷ ys)))
duty_from first s x y [] e = duty_case (is_same x.rising first) y.after_gap (is_same y.rising first) e.after_gap (is_same e.rising first) x y e (unbroken x s)
duty_from first s x y (z ∷ zs) e = duty_from first (seen_with first x s) y z zs e

duty_told : (first : Bool) (es : List Edge) (e : Edge) → filter_map (value_of DutyCycle) (whole_new first es e) ≡ whole_told (is_same e.rising first) true e (unbroken e (seen_from first Nothing_seen es))
duty_told first [] e = duty_none (is_same e.rising first) e.after_gap e
duty_told first (x ∷ []) e = duty_one (is_same x.rising first) x.after_gap e.after_gap (is_same e.rising first) x e
duty_told first (x ∷ y ∷ ys) e = duty_from first Nothing_seen x y ys e

-- ---- each property

-- the values over served edges and one more
pub values_append : (p : IcuSignalMeasurementProperty) (k : Channel) (es : List Edge) (e : Edge) → Alternate (es ++ e ∷ []) → values_by (Some p) k (es ++ e ∷ []) ≡ values_by (Some p) k es ++ told_with p k e (seen_from (begins_rising p k) Nothing_seen es)
values_append HighTime k es e a = ap (λ ms. filter_map (value_of HighTime) ms) (half_append true es e a) ∙ filter_map-append (value_of HighTime) (measures true (not true) es) (half_new true es e) ∙ ap (λ vs. filter_map (value_of HighTime) (measures true (not true) es) ++ vs) (high_told true es e)
values_append LowTime k es e a = ap (λ ms. filter_map (value_of LowTime) ms) (half_append false es e a) ∙ filter_map-append (value_of LowTime) (measures false (not false) es) (half_new false es e) ∙ ap (λ vs. filter_map (value_of LowTime) (measures false (not false) es) ++ vs) (low_told false es e)
values_append PeriodTime k es e a = ap (λ ms. filter_map (value_of PeriodTime) ms) (whole_append (begins_rising PeriodTime k) es e a) ∙ filter_map-append (value_of PeriodTime) (measures (begins_rising PeriodTime k) (begins_rising PeriodTime k) es) (whole_new (begins_rising PeriodTime k) es e) ∙ ap (λ vs. filter_map (value_of PeriodTime) (measures (begins_rising PeriodTime k) (begins_rising PeriodTime k) es) ++ vs) (period_told (begins_rising PeriodTime k) es e)
values_append DutyCycle k es e a = ap (λ ms. filter_map (value_of DutyCycle) ms) (whole_append (begins_rising DutyCycle k) es e a) ∙ filter_map-append (value_of DutyCycle) (measures (begins_rising DutyCycle k) (begins_rising DutyCycle k) es) (whole_new (begins_rising DutyCycle k) es e) ∙ ap (λ vs. filter_map (value_of DutyCycle) (measures (begins_rising DutyCycle k) (begins_rising DutyCycle k) es) ++ vs) (duty_told (begins_rising DutyCycle k) es e)
