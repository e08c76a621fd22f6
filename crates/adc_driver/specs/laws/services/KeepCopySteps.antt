-- How many inputs of an aborted round have ended is read, with the mask open; their values are copied next.
-- From words.KeptWords, adc_groups: services.BodySteps, adc_groups: words.WordsOfModule and 3 more.
-- Used by services.AllSteps.
use Rattle.std.proofs.Common.{◌≡◌, ◌+◌, ◌-◌, ◌<◌, ◌≤◌, ◌&&◌, ◌==◌, ◌∙◌, if◌then◌else◌}
use Rattle.adc_driver.specs.Terms
use Terms.{adc_bodies, AdcBody, AdcGround, AdcState, AdcTable, Agrees, all_kept, ap, arith, AssertedAt, body_ends}
use Terms.{body_work, Bool, Call, Chip, chip_after, Copied, copies_on, copies_or, ended_at, false, few_inputs}
use Terms.{FitsAdc, FrameHistory, got, group_of, HasDone, inputs_of, is_on, is_some, Keeps, KeepsRight, kept_in}
use Terms.{kept_within, kept_word, length, limited, lt_is, lt_isnt, nat_lt, nat_tests, None, on_there, Option, Origin}
use Terms.{Out, Outside, place_sum, positive, refl, Reservations, result_of, RightOr, rounds_of, slice_get_within}
use Terms.{Some, Store, subst, Suspended, sym, true, value_of, WholeRight, Window, World, ℕ}
use Rattle.adc_driver.specs.laws.words.KeptWords.{limited_is, limited_most, few_places, keeps_more, keeps_all, keeper}
use Rattle.adc_driver.specs.laws.words.KeptWords.{kept_agrees}
use Rattle.chip_blocks.specs.converter.Converters as chips
use Rattle.chip_blocks.specs.converter.Rounds as rounds
use Rattle.word_shapes.specs.declared.streams.copying.Copied.TheVariants as copied
use Rattle.word_shapes.specs.declared.streams.copying.Copied as streams
use Rattle.adc_groups.specs.Refinement as ground

is_none : (n : ℕ) → (n == 0) ≡ true → n ≡ 0
is_none n e = grind (arith, nat_tests)

module _ (d : AdcTable) (fits : FitsAdc d) (f r : AdcBody → ℕ) (below : Reservations) (chip : Chip) (w : World) (s : AdcState) (m : ℕ → Bool) (y : ℕ) where
  abbrev count_body : Suspended → AdcBody
  count_body q = record { table = d; place = Out (Outside.Counts q) }

  module _ (q : Suspended) (o : Origin Call) (p : FrameHistory) (has : HasDone q.unit below o p) (few : q.unit < 2) (at : is_on q.unit (group_of d q.group) ≡ true) (least : q.kept ≤ length (inputs_of (group_of d q.group))) (h : Agrees d (keeper o p.acted q.unit (ground.Keeps q.unit q.group q.kept None 0 None) below) chip w s) where
    abbrev inputs : ℕ
    inputs = length (inputs_of (group_of d q.group))

    abbrev all_ended : ℕ
    all_ended = rounds.ended (chips.unit_at chip.converters q.unit).round chip.converters.time

    abbrev n : ℕ
    n = limited all_ended (inputs - limited q.kept inputs)

    there : is_some (group_of d q.group) ≡ true
    there = on_there q.unit (group_of d q.group) at

    within_inputs : q.kept + limited all_ended (inputs - limited q.kept inputs) ≤ inputs
    within_inputs = let is = limited_is q.kept inputs least in let most = limited_most all_ended (inputs - limited q.kept inputs) in omega (arith, is, most, least)

    all_is : limited (q.kept + limited all_ended (inputs - limited q.kept inputs)) 32 ≡ q.kept + limited all_ended (inputs - limited q.kept inputs)
    all_is = limited_is (q.kept + n) 32 (let le = within_inputs in let most = few_inputs d fits q.group there in omega (arith, le, most))

    -- while the claim keeps the group's values none is left out
    count_is : KeepsRight d chip s q.unit q.group q.kept None 0 None → limited all_ended (inputs - limited q.kept inputs) ≡ all_ended
    count_is k =
        let is = limited_is q.kept inputs least in
        let count = k.count in
        let le = few_places (kept_in d s q.group) inputs (λ j v e. kept_within d w s h.sound q.group j v e) in
        limited_is all_ended (inputs - limited q.kept inputs) (omega (arith, is, count, le))

    told : KeepsRight d chip s q.unit q.group q.kept None 0 None → KeepsRight d chip s q.unit q.group q.kept (Some n) 0 None
    told k = record { waits = k.waits; count = k.count; told = λ j e. (let same : n ≡ j = cc in sym same ∙ count_is k); word = k.word; kept = k.kept; results = k.results; next = λ v e. absurd (cc) }

    whole_kept : n ≡ 0 → KeepsRight d chip s q.unit q.group q.kept None 0 None → WholeRight d chip s q.unit q.group (limited (q.kept + n) 32)
    whole_kept none k =
        let all = all_is in
        let no : all_ended ≡ 0 = sym (count_is k) ∙ none in
        let count = k.count in
        let long : length (kept_in d s q.group) ≡ q.kept = omega (arith, count, no) in
        record {
          waits = k.waits;
          count = omega (arith, long, all, none);
          kept = λ j v e. k.kept j v (let lt = slice_get_within (kept_in d s q.group) j v e in omega (arith, lt, long)) e;
        }

    abbrev next_at : Bool → AdcBody
    next_at z = record { table = d; place = Out (copies_or (if z then None else Some (record { what = copied.Ended (rounds_of d q.group) q.unit n q.kept; done = 0; value = None })) (Copied.Keeps (all_kept q n)) (Outside.Closes (Window.Keep (all_kept q n)))) }

    stands_at : (z : Bool) → (n == 0) ≡ z → AssertedAt (AdcGround d) (adc_bodies d f r) below chip w s (next_at z) o p
    stands_at true e = (keeps_all d below chip w s o p.acted q.unit q.group q.kept None 0 None h (limited (q.kept + n) 32) (λ claimed k. whole_kept (is_none n e) k), (refl, (has, few, at)))
    stands_at false e = (keeps_more d below chip w s o p.acted q.unit q.group q.kept None 0 None h (Some n) 0 None (λ claimed k. told k), (refl, ((refl, refl, all_is, within_inputs), positive n e, (has, few, at))))

    pub counts_right : RightOr (AdcGround d) (adc_bodies d f r) below chip w s (count_body q) o y p m (ended_at (adc_bodies d f r) body_ends (count_body q) (value_of chip (body_work (count_body q))))
    counts_right = stands_at (n == 0) refl

  pub counts_step : (q : Suspended) (o : Origin Call) (p : FrameHistory) → AssertedAt (AdcGround d) (adc_bodies d f r) below chip w s (count_body q) o p → RightOr (AdcGround d) (adc_bodies d f r) below chip w s (count_body q) o y p m (ended_at (adc_bodies d f r) body_ends (count_body q) (value_of chip (body_work (count_body q))))
  counts_step q o p (h, (same, (has, few, at, least))) = counts_right q o p has few at least h

-- ---- Each step of a frame that copies the values of an aborted round behind those that were kept, with the mask open.

-- the sum of two places, of which there are few
small_both : (e i : ℕ) → e ≤ 32 → i ≤ 32 → nat_lt e 128 && nat_lt i 128 ≡ true
small_both e i le less = grind (arith, nat_tests)

few_sum : (e i : ℕ) → e ≤ 32 → i ≤ 32 → place_sum e i ≡ e + i
few_sum e i le less = ap (λ q. if q then e + i else 0) (small_both e i le less)

few_first : (e n k : ℕ) → e + n ≤ k → k ≤ 32 → e ≤ 32
few_first e n k most many = omega (arith, most, many)

few_second : (e n k i : ℕ) → e + n ≤ k → k ≤ 32 → i < n → i ≤ 32
few_second e n k i most many less = omega (arith, most, many, less)

-- how many values there are, by how many have ended
within_all : (e n k i : ℕ) → e + n ≤ k → i < n → e + i < k
within_all e n k i most less = omega (arith, most, less)

within_ended : (e n t l i : ℕ) → n ≡ t → l ≡ e + t → i < n → e + i < l
within_ended e n t l i told count less = omega (arith, told, count, less)

ended_all : (e n t l k : ℕ) → n ≡ t → l ≡ e + t → k ≡ e + n → l ≡ k
ended_all e n t l k told count all = omega (arith, told, count, all)

ended_last : (e n t l i j : ℕ) → n ≡ t → l ≡ e + t → n ≤ i + 1 → j < l → j < e + (i + 1)
ended_last e n t l i j told count last lt = omega (arith, told, count, last, lt)

module _ (d : AdcTable) (fits : FitsAdc d) (f r : AdcBody → ℕ) (below : Reservations) (chip : Chip) (w : World) (s : AdcState) (m : ℕ → Bool) (y : ℕ) where
  abbrev body : streams.Copied → ℕ → Option ℕ → Suspended → AdcBody
  body what i v q = record { table = d; place = Out (Outside.Copies (record { what = what; done = i; value = v }) (Keeps q)) }

  abbrev StepAt : streams.Copied → ℕ → Option ℕ → Suspended → Origin Call → FrameHistory → Type 0
  StepAt what i v q o p = RightOr (AdcGround d) (adc_bodies d f r) below chip w s (body what i v q) o y p m (ended_at (adc_bodies d f r) body_ends (body what i v q) (value_of chip (body_work (body what i v q))))

  module _ (q : Suspended) (e n i : ℕ) (o : Origin Call) (p : FrameHistory) (all : q.kept ≡ e + n) (most : e + n ≤ length (inputs_of (group_of d q.group))) (less : i < n) (has : HasDone q.unit below o p) (few : q.unit < 2) (at : is_on q.unit (group_of d q.group) ≡ true) where
    abbrev what : streams.Copied
    what = copied.Ended (rounds_of d q.group) q.unit n e

    abbrev ended : ℕ
    ended = rounds.ended (chips.unit_at chip.converters q.unit).round chip.converters.time

    many : length (inputs_of (group_of d q.group)) ≤ 32
    many = few_inputs d fits q.group (on_there q.unit (group_of d q.group) at)

    abbrev AgreesKeeping : ℕ → Option ℕ → Chip → Type 0
    AgreesKeeping j v c = Agrees d (keeper o p.acted q.unit (ground.Keeps q.unit q.group e (Some n) j v) below) c w s

    -- ---- the next value

    module _ (h : AgreesKeeping i None chip) where
      now : KeepsRight d chip s q.unit q.group e (Some n) i None → KeepsRight d chip s q.unit q.group e (Some n) i (Some (result_of chip q.unit i))
      now k =
          let v = got (kept_in d s q.group) (e + i) (within_ended e n ended (length (kept_in d s q.group)) i (k.told n refl) k.count less) in
          record {
            waits = k.waits;
            count = k.count;
            told = k.told;
            word = k.word;
            kept = k.kept;
            results = k.results;
            next = λ z f. (let same : result_of chip q.unit i ≡ z = cc in v.1 ∙ ap (λ j. Some j) (sym (k.results i v.0 v.1) ∙ same));
          }

      pub gets_right : StepAt what i None q o p
      gets_right = (keeps_more d below chip w s o p.acted q.unit q.group e (Some n) i None h (Some n) i (Some (result_of chip q.unit i)) (λ claimed k. now k), (refl, ((refl, refl, all, most), less, (has, few, at))))

    -- ---- it is stored

    module _ (x : ℕ) (h : AgreesKeeping i (Some x) chip) where
      abbrev later : Chip
      later = chip_after chip (Store (kept_word (rounds_of d q.group) (place_sum e i)) x) 0

      same_place : place_sum e i ≡ e + i
      same_place = few_sum e i (few_first e n (length (inputs_of (group_of d q.group))) most many) (few_second e n (length (inputs_of (group_of d q.group))) i most many less)

      stored : AgreesKeeping (i + 1) None later
      stored = subst (λ k. AgreesKeeping (i + 1) None (chip_after chip (Store (kept_word (rounds_of d q.group) k) x) 0)) (sym same_place) (kept_agrees d fits below chip w s o p.acted q.unit q.group e (Some n) i x h (within_all e n (length (inputs_of (group_of d q.group))) i most less))

      whole : nat_lt (i + 1) n ≡ false → KeepsRight d later s q.unit q.group e (Some n) (i + 1) None → WholeRight d later s q.unit q.group q.kept
      whole over k =
          record {
            waits = k.waits;
            count = ended_all e n ended (length (kept_in d s q.group)) q.kept (k.told n refl) k.count all;
            kept = λ j v g. k.kept j v (ended_last e n ended (length (kept_in d s q.group)) i j (k.told n refl) k.count (lt_isnt (i + 1) n over) (slice_get_within (kept_in d s q.group) j v g)) g;
          }

      abbrev next : Bool → AdcBody
      next z = record { table = d; place = Out (copies_on (Keeps q) (if z then Some (record { what = what; done = i + 1; value = None }) else None)) }

      stands : (z : Bool) → nat_lt (i + 1) n ≡ z → AssertedAt (AdcGround d) (adc_bodies d f r) below later w s (next z) o p
      stands true g = (stored, (refl, ((refl, refl, all, most), lt_is (i + 1) n g, (has, few, at))))
      stands false g = (keeps_all d below later w s o p.acted q.unit q.group e (Some n) (i + 1) None stored q.kept (λ claimed k. whole g k), (refl, (has, few, at)))

      pub puts_right : StepAt what i (Some x) q o p
      puts_right = stands (nat_lt (i + 1) n) refl

    keeps_right : (v : Option ℕ) → AgreesKeeping i v chip → StepAt what i v q o p
    keeps_right None h = gets_right h
    keeps_right (Some x) h = puts_right x h

  pub keeps_step : (what : streams.Copied) (i : ℕ) (v : Option ℕ) (q : Suspended) (o : Origin Call) (p : FrameHistory) → AssertedAt (AdcGround d) (adc_bodies d f r) below chip w s (body what i v q) o p
      → RightOr (AdcGround d) (adc_bodies d f r) below chip w s (body what i v q) o y p m (ended_at (adc_bodies d f r) body_ends (body what i v q) (value_of chip (body_work (body what i v q))))
  keeps_step (copied.Ended rs u n e) i v q o p (h, (same, ((er, eu, all, most), less, (has, few, at)))) =
      subst (λ z. StepAt (copied.Ended z u n e) i v q o p) (sym er)
      (subst (λ z. StepAt (copied.Ended (rounds_of d q.group) z n e) i v q o p) (sym eu)
      (keeps_right q e n i o p all most less has few at v h))
  keeps_step (copied.Round rs u e b) i v q o p (h, (same, (none, less, may))) = absurd none
  keeps_step (copied.Bank rs b c) i v q o p (h, (same, (none, less, may))) = absurd none
