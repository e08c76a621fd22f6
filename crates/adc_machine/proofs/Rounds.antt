-- The values of rounds, one by one.
use Rattle.std.proofs.Common.{◌≡◌, ℕ, zero, suc, ◌+◌, ◌-◌, ◌*◌, ◌/◌, ◌<◌, ◌≤◌, List, [], ◌∷◌, ◌++◌, length, take, Option, Some, None, refl, ◌∙◌, ap, length-append, arith}
use Rattle.std.specs.Prelude.{slice_get}
use Rattle.std.proofs.lemmas.Option.{slice_get_past}
use Rattle.run_model.specs.World.{World, Sample, sample_at}
use Rattle.adc_machine.specs.Groups.{Round, inputs_left, levels_from, values_of, ended_values}
use Rattle.adc_machine.specs.Laws.{kept_count, ends_at, HasValues, HasEnded}
use Rattle.adc_machine.specs.declared.table.Group.{Group}

-- the level of input j of a list
level_at : (samples : List Sample) (time : ℕ) (is : List ℕ) (j i : ℕ) → slice_get is j ≡ Some i → slice_get (levels_from samples time is) j ≡ Some (sample_at samples i (time + 4 * (j + 1)))
level_at samples time [] j i e = absurd (cc e)
level_at samples time (x ∷ xs) zero i e =
    let same : x ≡ i = cc in
    ap (λ y. Some (sample_at samples y (time + 4))) same
level_at samples time (x ∷ xs) (suc j) i e =
    let later : time + 4 + 4 * (j + 1) ≡ time + 4 * (suc j + 1) = omega arith in
    level_at samples (time + 4) xs j i e ∙ ap (λ t. Some (sample_at samples i t)) later

length_levels : (samples : List Sample) (time : ℕ) (is : List ℕ) → length (levels_from samples time is) ≡ length is
length_levels samples time [] = refl
length_levels samples time (x ∷ xs) = ap suc (length_levels samples (time + 4) xs)

-- an element of the front, and of what comes behind it
get_front : (xs ys : List ℕ) (j v : ℕ) → slice_get xs j ≡ Some v → slice_get (xs ++ ys) j ≡ Some v
get_front [] ys j v e = absurd (cc e)
get_front (x ∷ xs) ys zero v e = e
get_front (x ∷ xs) ys (suc j) v e = get_front xs ys j v e

get_behind : (xs ys : List ℕ) (j n : ℕ) → n ≡ length xs + j → slice_get (xs ++ ys) n ≡ slice_get ys j
get_behind [] ys j n e = let same : n ≡ j = omega (arith, e) in ap (λ i. slice_get ys i) same
get_behind (x ∷ xs) ys j zero e = absurd (omega (arith, e))
get_behind (x ∷ xs) ys j (suc n) e = get_behind xs ys j n (omega (arith, e))

-- an element of a part that was taken
get_taken : (n : ℕ) (xs : List ℕ) (j : ℕ) → j < n → slice_get (take n xs) j ≡ slice_get xs j
get_taken zero xs j lt = absurd (omega (arith, lt))
get_taken (suc n) [] j lt = refl
get_taken (suc n) (x ∷ xs) zero lt = refl
get_taken (suc n) (x ∷ xs) (suc j) lt = get_taken n xs j (omega (arith, lt))

length_taken : (n : ℕ) (xs : List ℕ) → length (take n xs) ≤ n
length_taken zero xs = omega arith
length_taken (suc n) [] = omega arith
length_taken (suc n) (x ∷ xs) = let few : length (take n xs) ≤ n = length_taken n xs in omega (arith, few)

pub whole_values : (w : World) (k : Option Group) (r : Round) → HasValues w k r (values_of w k r)
whole_values w k r = record {
  kept = λ j v e. get_front r.request.kept (levels_from w.samples r.start (inputs_left k r)) j v e;
  levels = λ j i e. get_behind r.request.kept (levels_from w.samples r.start (inputs_left k r)) j (kept_count r + j) refl ∙ level_at w.samples r.start (inputs_left k r) j i e;
  count = length-append r.request.kept (levels_from w.samples r.start (inputs_left k r)) ∙ ap (λ n. kept_count r + n) (length_levels w.samples r.start (inputs_left k r));
}

-- so many inputs have ended where the time of the last of them has come
has_ended : (start now j : ℕ) → start + 4 * (j + 1) ≤ now → j < (now - start) / 4
has_ended start now j h = omega (arith, h)

hasnt_ended : (start now j : ℕ) → now < start + 4 * (j + 1) → (now - start) / 4 ≤ j
hasnt_ended start now j h = omega (arith, h)

pub values_so_far : (w : World) (k : Option Group) (r : Round) → HasEnded w k r (ended_values w k r)
values_so_far w k r = record { kept = λ j v e. get_front r.request.kept late j v e; levels = levels; later = later } where
  count : ℕ
  count = (w.now - r.start) / 4

  late : List ℕ
  late = levels_from w.samples r.start (take count (inputs_left k r))

  levels : (j i : ℕ) → slice_get (inputs_left k r) j ≡ Some i → ends_at r j ≤ w.now → slice_get (r.request.kept ++ late) (kept_count r + j) ≡ Some (sample_at w.samples i (ends_at r j))
  levels j i e h = get_behind r.request.kept late j (kept_count r + j) refl ∙ level_at w.samples r.start (take count (inputs_left k r)) j i (get_taken count (inputs_left k r) j (has_ended r.start w.now j h) ∙ e)

  later : (j : ℕ) → w.now < ends_at r j → slice_get (r.request.kept ++ late) (kept_count r + j) ≡ None
  later j h =
      let few : length (take count (inputs_left k r)) ≤ count = length_taken count (inputs_left k r) in
      let past : count ≤ j = hasnt_ended r.start w.now j h in
      let same : length late ≡ length (take count (inputs_left k r)) = length_levels w.samples r.start (take count (inputs_left k r)) in
      get_behind r.request.kept late j (kept_count r + j) refl ∙ slice_get_past late j (omega (arith, few, past, same))
