-- A round of the machine and the one on its unit: when it is finished, and what an abort keeps of it.
-- From adc_groups: words.Cases.
-- Used by services.AbortRight.
use Rattle.std.proofs.Common.{◌≡◌, ◌+◌, ◌-◌, ◌*◌, ◌/◌, ◌<◌, ◌≤◌, ◌&&◌, ◌==◌, [], ◌∷◌, ◌∙◌}
use Rattle.adc_laws.specs.turns.Terms
use Terms.{ap, arith, Bool, cond, Converter, Converters, ended-open, ended_values, ends_at, false, inputs_left}
use Terms.{inputs_of, is_finished, is_some, IsRound, kept_of, length, length-append, length-drop, levels_from, List}
use Terms.{min, nat_tests, None, not, Option, refl, Round, Sample, sample_at, slice_get, slice_get_within, Some, suc}
use Terms.{suspends, sym, take, true, values_so_far, whether, World, zero, ℕ}
use Rattle.chip_blocks.specs.converter.Rounds as rounds
use Rattle.adc_machine.specs.declared.table.Group as configured

-- ---- running

module _ (k : Option configured.Group) (b : Converters) (w : World) (a : Converter) (r : Round) (h : IsRound k b w a r) (time : b.time ≡ w.now) where
  idle : rounds.is_idle a.round ≡ false
  idle = ap (λ o. is_some o) h.on

  -- so many of its inputs have ended
  pub ended_now : rounds.ended a.round b.time ≡ min (length (inputs_left k r)) ((w.now - r.start) / 4)
  ended_now = ended-open a.round b.time idle ∙ (ap (λ n. min n ((b.time - a.round.start) / 4)) h.count ∙ (ap (λ n. min (length (inputs_left k r)) ((n - a.round.start) / 4)) time ∙ ap (λ n. min (length (inputs_left k r)) ((w.now - n) / 4)) h.start))

-- a unit with a round runs exactly while that isn't finished
pub running_as : (x : rounds.Round) (now : ℕ) → x.closed ≡ None → rounds.is_running x now ≡ not (rounds.is_finished x now)
running_as x now e = by (rounds.is_idle x) (rounds.ended x now == x.count) (ap (λ o. is_some o) e)
  where
    by : (idle all : Bool) → idle ≡ false → not idle && not all ≡ not (not idle && all)
    by true all i = absurd (cc)
    by false true i = refl
    by false false i = refl

-- ---- what is kept

length_levels : (samples : List Sample) (time : ℕ) (is : List ℕ) → length (levels_from samples time is) ≡ length is
length_levels samples time [] = refl
length_levels samples time (x ∷ xs) = ap suc (length_levels samples (time + 4) xs)

length_taken : (n : ℕ) (xs : List ℕ) → length (take n xs) ≡ min (length xs) n
length_taken (suc n) (x ∷ xs) = let few = length_taken n xs in omega (arith, few)
length_taken _ _ = omega arith

got : (xs : List ℕ) (n : ℕ) → n < length xs → (x : ℕ) × (slice_get xs n ≡ Some x)
got [] n lt = absurd (omega (arith, lt))
got (x ∷ xs) zero lt = (x, refl)
got (x ∷ xs) (suc n) lt = got xs n (omega (arith, lt))

one_value : (o : Option ℕ) (v x : ℕ) → o ≡ Some v → o ≡ Some x → v ≡ x
one_value o v x e f = let i : Some v ≡ Some x = sym e ∙ f in cc

module _ (w : World) (k : Option configured.Group) (r : Round) where
  -- under suspend and resume
  module _ (on : suspends k ≡ true) where
    kept_is : kept_of w k r ≡ ended_values w k r
    kept_is = ap (λ q. cond q (ended_values w k r) []) on

    pub kept_count : length (kept_of w k r) ≡ length r.request.kept + min (length (inputs_left k r)) ((w.now - r.start) / 4)
    kept_count =
        ap length kept_is
        ∙ (length-append r.request.kept (levels_from w.samples r.start (take ((w.now - r.start) / 4) (inputs_left k r)))
        ∙ ap (λ n. length r.request.kept + n) (length_levels w.samples r.start (take ((w.now - r.start) / 4) (inputs_left k r)) ∙ length_taken ((w.now - r.start) / 4) (inputs_left k r)))

    -- the values that were kept before are in front
    pub kept_front : (j v : ℕ) → j < length r.request.kept → slice_get (kept_of w k r) j ≡ Some v → slice_get r.request.kept j ≡ Some v
    kept_front j v lt e =
        let x = got r.request.kept j lt in
        let same : v ≡ x.0 = one_value (slice_get (ended_values w k r) j) v x.0 (ap (λ xs. slice_get xs j) (sym kept_is) ∙ e) ((values_so_far w k r).kept j x.0 x.1) in
        x.1 ∙ ap (λ n. Some n) (sym same)

    -- and those of the inputs that have ended come behind
    pub kept_behind : (j v : ℕ) → slice_get (kept_of w k r) (length r.request.kept + j) ≡ Some v → (input : ℕ) × (slice_get (inputs_left k r) j ≡ Some input) × (ends_at r j ≤ w.now) × (v ≡ sample_at w.samples input (ends_at r j))
    kept_behind j v e =
        let lt = slice_get_within (kept_of w k r) (length r.request.kept + j) v e in
        let count = kept_count in
        let less : j < length (inputs_left k r) = omega (arith, lt, count) in
        let early : ends_at r j ≤ w.now = omega (arith, lt, count) in
        let x = got (inputs_left k r) j less in
        (x.0, x.1, early, one_value (slice_get (ended_values w k r) (length r.request.kept + j)) v (sample_at w.samples x.0 (ends_at r j)) (ap (λ xs. slice_get xs (length r.request.kept + j)) (sym kept_is) ∙ e) ((values_so_far w k r).levels j x.0 x.1 early))

  -- and otherwise nothing is
  pub kept_none : suspends k ≡ false → kept_of w k r ≡ []
  kept_none off = ap (λ q. cond q (ended_values w k r) []) off

  -- not all of it, where the round isn't finished
  pub kept_less : length r.request.kept < length (inputs_of k) → is_finished w k r ≡ false → length (kept_of w k r) < length (inputs_of k)
  kept_less few unfinished = whether (suspends k)
      (λ e. let count = kept_count e in let left = length-drop (length r.request.kept) (inputs_of k) in let lt = late in omega (arith, count, left, few, lt))
      (λ e. let none : length (kept_of w k r) ≡ 0 = ap length (kept_none e) in omega (arith, none, few))
    where
      late : w.now < r.start + 4 * length (inputs_left k r)
      late = grind (arith, nat_tests)
