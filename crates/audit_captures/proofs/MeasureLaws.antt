-- One more edge: the measures that it ends, those that wait then, and what is seen of the newest.
use Rattle.std.proofs.Common.{◌≡◌, ℕ, ◌+◌, suc, nat_lt, length, length-append, subst, arith, is_some, Bool, true, false, not, ◌&&◌, Option, Some, None, List, [], ◌∷◌, ◌++◌, ◌∙◌, refl, sym, ap, append_assoc, map}
use Rattle.std.specs.Prelude.{if◌then◌else◌, option_to_list}
use Rattle.std.specs.List.{filter_map}
use Rattle.std.proofs.lemmas.Bool.Decides.{nat_tests}
use Rattle.std.proofs.lemmas.List.{append-nil}
use Rattle.std.specs.Option.{option_map, option_or}
use Rattle.mcal_base.specs.facts.Truths.{and_second}
use Rattle.module_machines.specs.icu.Edges.{Edge, is_same, time_between, last_of, value_of, up_to, beginning_at, measures, newest}
use Rattle.mcal_base.specs.declared.config.icu.IcuSignalMeasurementProperty.{IcuSignalMeasurementProperty as Property}
use Rattle.mcal_base.specs.declared.config.icu.IcuSignalMeasurementProperty.TheVariants.{HighTime, LowTime, PeriodTime, DutyCycle}
use Rattle.audit_captures.specs.Measures.{Begun, fresh, goes_on, ends, all_go_on, waiting, longer, whole, ended, seen_of, seen_behind, followed, seen_with, Nothing_seen, Start_seen, time_told, duty_told, values_told, told_with}

-- ---- the measures

-- up to the end of a list with one more edge
abbrev up_with : (last : Bool) → List Edge → Edge → Option (List Edge)
up_with last es e = if all_go_on last es then (if ends last e then Some (es ++ e ∷ []) else None) else up_to last es

up_one : (gap same : Bool) (e : Edge) → (if gap then None else if same then Some (e ∷ []) else option_map (λ (xs : List Edge). e ∷ xs) None) ≡ (if not gap && same then Some (e ∷ []) else None)
up_one true same e = refl
up_one false true e = refl
up_one false false e = refl

up_step : (gap same going ends : Bool) (x : Edge) (long : List Edge) (up : Option (List Edge)) →
    (if gap then None else if same then Some (x ∷ []) else option_map (λ xs. x ∷ xs) (if going then (if ends then Some long else None) else up))
    ≡ (if (not gap && not same) && going then (if ends then Some (x ∷ long) else None) else (if gap then None else if same then Some (x ∷ []) else option_map (λ xs. x ∷ xs) up))
up_step true same going ends x long up = refl
up_step false true going ends x long up = refl
up_step false false true true x long up = refl
up_step false false true false x long up = refl
up_step false false false ends x long up = refl

up_more : (last : Bool) (es : List Edge) (e : Edge) → up_to last (es ++ e ∷ []) ≡ up_with last es e
up_more last [] e = up_one e.after_gap (is_same e.rising last) e
up_more last (x ∷ xs) e =
    ap (λ o. if x.after_gap then None else if is_same x.rising last then Some (x ∷ []) else option_map (λ ys. x ∷ ys) o) (up_more last xs e)
    ∙ up_step x.after_gap (is_same x.rising last) (all_go_on last xs) (ends last e) x (xs ++ e ∷ []) (up_to last xs)

-- nothing ends where all go on
open_step : (gap same going : Bool) (x : Edge) (up : Option (List Edge)) → (not gap && not same) && going ≡ true → (going ≡ true → up ≡ None) → (if gap then None else if same then Some (x ∷ []) else option_map (λ xs. x ∷ xs) up) ≡ None
open_step true same going x up e h = refl
open_step false true going x up e h = absurd (cc)
open_step false false going x up e h = ap (λ o. option_map (λ xs. x ∷ xs) o) (h e)

open_none : (last : Bool) (es : List Edge) → all_go_on last es ≡ true → up_to last es ≡ None
open_none last [] e = refl
open_none last (x ∷ xs) e = open_step x.after_gap (is_same x.rising last) (all_go_on last xs) x (up_to last xs) e (open_none last xs)

no_measure : (q : Bool) (x : Edge) (o : Option (List Edge)) → o ≡ None → (if q then beginning_at x o else []) ≡ []
no_measure true x o e = ap (λ z. beginning_at x z) e
no_measure false x o e = refl

open_empty : (first last : Bool) (es : List Edge) → all_go_on last es ≡ true → measures first last es ≡ []
open_empty first last [] e = refl
open_empty first last (x ∷ xs) e =
    let rest = and_second (goes_on last x) (all_go_on last xs) e in
    ap (λ z. z ++ measures first last xs) (no_measure (is_same x.rising first) x (up_to last xs) (open_none last xs rest)) ∙ open_empty first last xs rest

-- the first edge's own measure, before the others
own_step : (begins going ends : Bool) (x : Edge) (long : List Edge) (up : Option (List Edge)) (ms : List (List Edge)) (bs : List Begun) (e : Edge) (b : Begun) → whole (longer e b) ≡ x ∷ long
    → (going ≡ true → up ≡ None) → (going ≡ true → ms ≡ [])
    → (if begins then beginning_at x (if going then (if ends then Some long else None) else up) else []) ++ (ms ++ (if ends then map (λ (c : Begun). whole (longer e c)) bs else []))
    ≡ ((if begins then beginning_at x up else []) ++ ms) ++ (if ends then map (λ (c : Begun). whole (longer e c)) ((if begins && going then b ∷ [] else []) ++ bs) else [])
own_step false going ends x long up ms bs e b w h i = refl
own_step true false ends x long up ms bs e b w h i = sym (append_assoc (beginning_at x up) ms (if ends then map (λ c. whole (longer e c)) bs else []))
own_step true true true x long up ms bs e b w h i = rw (h refl, i refl, w) refl
own_step true true false x long up ms bs e b w h i = rw (h refl, i refl) refl

pub measures_more : (first last : Bool) (es : List Edge) (e : Edge) → measures first last (es ++ e ∷ []) ≡ measures first last es ++ ended last (waiting first last es) e
measures_more first last [] e = one (is_same e.rising first) (ends last e)
  where
    one : (q r : Bool) → (if q then beginning_at e None else []) ++ [] ≡ (if r then [] else [])
    one true true = refl
    one true false = refl
    one false true = refl
    one false false = refl
measures_more first last (x ∷ xs) e =
    ap (λ o. (if is_same x.rising first then beginning_at x o else []) ++ measures first last (xs ++ e ∷ [])) (up_more last xs e)
    ∙ ap (λ ms. (if is_same x.rising first then beginning_at x (up_with last xs e) else []) ++ ms) (measures_more first last xs e)
    ∙ own_step (is_same x.rising first) (all_go_on last xs) (ends last e) x (xs ++ e ∷ []) (up_to last xs) (measures first last xs) (waiting first last xs) e (record { first = x; behind = xs }) refl (open_none last xs) (open_empty first last xs)

-- ---- those that wait

go_more : (last : Bool) (es : List Edge) (e : Edge) → all_go_on last (es ++ e ∷ []) ≡ all_go_on last es && goes_on last e
go_more last [] e = and_true (goes_on last e)
  where
    and_true : (q : Bool) → q && true ≡ true && q
    and_true true = refl
    and_true false = refl
go_more last (x ∷ xs) e = ap (λ q. goes_on last x && q) (go_more last xs e) ∙ assoc (goes_on last x) (all_go_on last xs) (goes_on last e)
  where
    assoc : (a b c : Bool) → a && (b && c) ≡ (a && b) && c
    assoc true b c = refl
    assoc false b c = refl

abbrev waiting_with : (first last : Bool) → List Begun → Edge → List Begun
waiting_with first last bs e = (if goes_on last e then map (longer e) bs else []) ++ (if is_same e.rising first then fresh e ∷ [] else [])

wait_step : (begins going goes : Bool) (b : Begun) (e : Edge) (bs new : List Begun) →
    (if begins && (going && goes) then longer e b ∷ [] else []) ++ ((if goes then map (longer e) bs else []) ++ new)
    ≡ (if goes then map (longer e) ((if begins && going then b ∷ [] else []) ++ bs) else []) ++ new
wait_step false going goes b e bs new = refl
wait_step true false goes b e bs new = refl
wait_step true true true b e bs new = refl
wait_step true true false b e bs new = refl

pub waiting_more : (first last : Bool) (es : List Edge) (e : Edge) → waiting first last (es ++ e ∷ []) ≡ waiting_with first last (waiting first last es) e
waiting_more first last [] e = one (is_same e.rising first) (goes_on last e)
  where
    one : (q r : Bool) → (if q && true then fresh e ∷ [] else []) ++ [] ≡ (if r then [] else []) ++ (if q then fresh e ∷ [] else [])
    one true true = refl
    one true false = refl
    one false true = refl
    one false false = refl
waiting_more first last (x ∷ xs) e =
    ap (λ q. (if is_same x.rising first && q then record { first = x; behind = xs ++ e ∷ [] } ∷ [] else []) ++ waiting first last (xs ++ e ∷ [])) (go_more last xs e)
    ∙ ap (λ bs. (if is_same x.rising first && (all_go_on last xs && goes_on last e) then record { first = x; behind = xs ++ e ∷ [] } ∷ [] else []) ++ bs) (waiting_more first last xs e)
    ∙ wait_step (is_same x.rising first) (all_go_on last xs) (goes_on last e) (record { first = x; behind = xs }) e (waiting first last xs) (if is_same e.rising first then fresh e ∷ [] else [])

-- ---- the newest

pub newest_more : {A : Type 0} (xs : List A) (v : A) → newest (xs ++ v ∷ []) ≡ Some v
newest_more [] v = refl
newest_more (x ∷ []) v = refl
newest_more (x ∷ y ∷ ys) v = newest_more (y ∷ ys) v

pub newest_map : {A B : Type 0} (f : A → B) (xs : List A) → newest (map f xs) ≡ option_map f (newest xs)
newest_map f [] = refl
newest_map f (x ∷ []) = refl
newest_map f (x ∷ y ∷ ys) = newest_map f (y ∷ ys)

seen_longer : (e : Edge) (o : Option Begun) → seen_of (option_map (longer e) o) ≡ followed e.time (seen_of o)
seen_longer e None = refl
seen_longer e (Some b) = by b.behind
  where
    by : (xs : List Edge) → seen_behind b.first.time (xs ++ e ∷ []) ≡ followed e.time (seen_behind b.first.time xs)
    by [] = refl
    by (x ∷ xs) = refl

seen_step : (begins goes : Bool) (bs : List Begun) (e : Edge) → seen_of (newest ((if goes then map (longer e) bs else []) ++ (if begins then fresh e ∷ [] else [])))
    ≡ (if begins then Start_seen e.time else if goes then followed e.time (seen_of (newest bs)) else Nothing_seen)
seen_step true true bs e = ap seen_of (newest_more (map (longer e) bs) (fresh e))
seen_step true false bs e = refl
seen_step false true bs e = ap (λ xs. seen_of (newest xs)) (append-nil (map (longer e) bs)) ∙ ap seen_of (newest_map (longer e) bs) ∙ seen_longer e (newest bs)
seen_step false false bs e = refl

pub seen_more : (first last : Bool) (es : List Edge) (e : Edge) → seen_of (newest (waiting first last (es ++ e ∷ []))) ≡ seen_with first last e (seen_of (newest (waiting first last es)))
seen_more first last es e = ap (λ bs. seen_of (newest bs)) (waiting_more first last es e) ∙ seen_step (is_same e.rising first) (goes_on last e) (waiting first last es) e

-- ---- values

none_waits : (first : Bool) (es : List Edge) → all_go_on first es ≡ true → waiting first first es ≡ []
none_waits first [] e = refl
none_waits first (x ∷ xs) e = by x.after_gap (is_same x.rising first) (all_go_on first xs) e (none_waits first xs)
  where
    by : (gap same rest : Bool) → (not gap && not same) && rest ≡ true → (rest ≡ true → waiting first first xs ≡ []) → (if same && rest then record { first = x; behind = xs } ∷ [] else []) ++ waiting first first xs ≡ []
    by true same rest e h = absurd (cc)
    by false true rest e h = absurd (cc)
    by false false rest e h = h e

-- at most one measure waits for an edge of its own direction
pub one_waits : (first : Bool) (es : List Edge) → waiting first first es ≡ option_to_list (newest (waiting first first es))
one_waits first [] = refl
one_waits first (x ∷ xs) = by (is_same x.rising first) (all_go_on first xs) (none_waits first xs) (one_waits first xs)
  where
    by : (q r : Bool) → (r ≡ true → waiting first first xs ≡ []) → waiting first first xs ≡ option_to_list (newest (waiting first first xs))
        → (if q && r then record { first = x; behind = xs } ∷ [] else []) ++ waiting first first xs ≡ option_to_list (newest ((if q && r then record { first = x; behind = xs } ∷ [] else []) ++ waiting first first xs))
    by false r h i = i
    by true false h i = i
    by true true h i = rw (h refl) refl

last_more : (x : Edge) (xs : List Edge) (e : Edge) → last_of x (xs ++ e ∷ []) ≡ e
last_more x [] e = refl
last_more x (y ∷ ys) e = last_more y ys e

-- the value of a measure that an edge ends
abbrev time_since : Edge → Begun → List ℕ
time_since e b = time_between b.first e ∷ []

-- every value of these kinds is a time
high_values : (e : Edge) (bs : List Begun) → filter_map (value_of HighTime) (map (λ b. whole (longer e b)) bs) ≡ map (time_since e) bs
high_values e [] = refl
high_values e (b ∷ bs) = ap (λ x. (time_between b.first x ∷ []) ∷ filter_map (value_of HighTime) (map (λ b. whole (longer e b)) bs)) (last_more b.first b.behind e) ∙ ap (λ vs. time_since e b ∷ vs) (high_values e bs)

low_values : (e : Edge) (bs : List Begun) → filter_map (value_of LowTime) (map (λ b. whole (longer e b)) bs) ≡ map (time_since e) bs
low_values e [] = refl
low_values e (b ∷ bs) = ap (λ x. (time_between b.first x ∷ []) ∷ filter_map (value_of LowTime) (map (λ b. whole (longer e b)) bs)) (last_more b.first b.behind e) ∙ ap (λ vs. time_since e b ∷ vs) (low_values e bs)

period_values : (e : Edge) (bs : List Begun) → filter_map (value_of PeriodTime) (map (λ b. whole (longer e b)) bs) ≡ map (time_since e) bs
period_values e [] = refl
period_values e (b ∷ bs) = ap (λ x. (time_between b.first x ∷ []) ∷ filter_map (value_of PeriodTime) (map (λ b. whole (longer e b)) bs)) (last_more b.first b.behind e) ∙ ap (λ vs. time_since e b ∷ vs) (period_values e bs)

time_seen : (e : Edge) (o : Option Begun) → option_map (time_since e) o ≡ time_told e.time (seen_of o)
time_seen e None = refl
time_seen e (Some b) = by b.behind
  where
    by : (xs : List Edge) → Some (time_since e b) ≡ time_told e.time (seen_behind b.first.time xs)
    by [] = refl
    by (x ∷ xs) = refl

newest_times : (e : Edge) (bs : List Begun) (vs : List (List ℕ)) → vs ≡ map (time_since e) bs → newest vs ≡ time_told e.time (seen_of (newest bs))
newest_times e bs vs h = ap newest h ∙ newest_map (time_since e) bs ∙ time_seen e (newest bs)

duty_one : (e : Edge) (b : Begun) → newest (filter_map (value_of DutyCycle) (whole (longer e b) ∷ [])) ≡ duty_told e.time (seen_of (Some b))
duty_one e b = by b.behind
  where
    by : (xs : List Edge) → newest (filter_map (value_of DutyCycle) ((b.first ∷ (xs ++ e ∷ [])) ∷ [])) ≡ duty_told e.time (seen_behind b.first.time xs)
    by [] = refl
    by (x ∷ []) = refl
    by (x ∷ y ∷ ys) = ap (λ z. Some (time_between b.first x ∷ time_between b.first z ∷ [])) (last_more y ys e)

duty_values : (e : Edge) (bs : List Begun) → bs ≡ option_to_list (newest bs) → newest (filter_map (value_of DutyCycle) (map (λ b. whole (longer e b)) bs)) ≡ duty_told e.time (seen_of (newest bs))
duty_values e bs h = ap (λ cs. newest (filter_map (value_of DutyCycle) (map (λ b. whole (longer e b)) cs))) h ∙ by (newest bs)
  where
    by : (o : Option Begun) → newest (filter_map (value_of DutyCycle) (map (λ b. whole (longer e b)) (option_to_list o))) ≡ duty_told e.time (seen_of o)
    by None = refl
    by (Some b) = duty_one e b

-- the newest value that an edge completes
told_ends : (p : Property) (first last : Bool) (es : List Edge) (e : Edge) → (p ≡ DutyCycle → first ≡ last) → newest (filter_map (value_of p) (map (λ b. whole (longer e b)) (waiting first last es))) ≡ values_told p e.time (seen_of (newest (waiting first last es)))
told_ends HighTime first last es e h = newest_times e (waiting first last es) _ (high_values e (waiting first last es))
told_ends LowTime first last es e h = newest_times e (waiting first last es) _ (low_values e (waiting first last es))
told_ends PeriodTime first last es e h = newest_times e (waiting first last es) _ (period_values e (waiting first last es))
told_ends DutyCycle first last es e h = duty_values e (waiting first last es) (subst (λ l. waiting first l es ≡ option_to_list (newest (waiting first l es))) (h refl) (one_waits first es))

told_if : (p : Property) (q : Bool) (ms : List (List Edge)) (o : Option (List ℕ)) → newest (filter_map (value_of p) ms) ≡ o → newest (filter_map (value_of p) (if q then ms else [])) ≡ (if q then o else None)
told_if p true ms o h = h
told_if p false ms o h = refl

pub told_more : (p : Property) (first last : Bool) (es : List Edge) (e : Edge) → (p ≡ DutyCycle → first ≡ last) → newest (filter_map (value_of p) (ended last (waiting first last es) e)) ≡ told_with p last e (seen_of (newest (waiting first last es)))
told_more p first last es e h = told_if p (ends last e) (map (λ b. whole (longer e b)) (waiting first last es)) (values_told p e.time (seen_of (newest (waiting first last es)))) (told_ends p first last es e h)

-- ---- the newest of all, and whether one was added

or_none : {A : Type 0} (o : Option A) → o ≡ option_or o None
or_none None = refl
or_none (Some x) = refl

some_last : {A : Type 0} (x : A) (xs : List A) → is_some (newest (x ∷ xs)) ≡ true
some_last x [] = refl
some_last x (y ∷ ys) = some_last y ys

or_same : {A : Type 0} (o a b : Option A) → is_some o ≡ true → option_or o a ≡ option_or o b
or_same (Some v) a b e = refl
or_same None a b e = absurd (cc)

newest_later : {A : Type 0} (x : A) (xs : List A) (y : A) (ys : List A) → newest (x ∷ (xs ++ y ∷ ys)) ≡ newest (xs ++ y ∷ ys)
newest_later x [] y ys = refl
newest_later x (z ∷ zs) y ys = refl

pub newest_append : {A : Type 0} (xs ys : List A) → newest (xs ++ ys) ≡ option_or (newest ys) (newest xs)
newest_append xs [] = ap (λ zs. newest zs) (append-nil xs)
newest_append [] (y ∷ ys) = or_none (newest (y ∷ ys))
newest_append (x ∷ xs) (y ∷ ys) = newest_later x xs y ys ∙ (newest_append xs (y ∷ ys) ∙ or_same (newest (y ∷ ys)) (newest xs) (newest (x ∷ xs)) (some_last y ys))

one_more : (n m : ℕ) → nat_lt n (n + suc m) ≡ true
one_more n m = grind (arith, nat_tests)

none_more : (n : ℕ) → nat_lt n (n + 0) ≡ false
none_more n = grind (arith, nat_tests)

added_by : {A : Type 0} (n : ℕ) (ys : List A) → nat_lt n (n + length ys) ≡ is_some (newest ys)
added_by n [] = none_more n
added_by n (y ∷ ys) = one_more n (length ys) ∙ sym (some_last y ys)

pub one_added : {A : Type 0} (xs ys : List A) → nat_lt (length xs) (length (xs ++ ys)) ≡ is_some (newest ys)
one_added xs ys = ap (λ n. nat_lt (length xs) n) (length-append xs ys) ∙ added_by (length xs) ys
