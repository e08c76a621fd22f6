-- The driver keeps to its module: registers, words and lines of others are nothing to it.
-- From bookkeeping.Lawful, adc_groups: words.Cases, adc_groups: words.WordsOfModule and 3 more.
-- Used by bookkeeping.Joined.
use Rattle.std.proofs.Common.{◌≡◌, ◌+◌, ◌*◌, ◌^◌, ◌<◌, ◌≤◌, ◌&&◌, ◌||◌, ◌==◌, [], ◌∷◌, ◌∙◌}
use Rattle.adc_driver.specs.Terms
use Terms.{Adc, adc_machine, adc_owns, AdcBody, AdcGround, AdcState, AdcTable, all_groups, all_small, AllSmall}
use Terms.{and_first, and_second, ap, arith, Asked, bare_right, Bool, buffer_number, by_line, Call, Called}
use Terms.{ConverterAbort, ConverterAck, ConverterDone, ConverterGo, ConverterList, ConverterResult, ConverterState}
use Terms.{EnableClear, EnableSet, EnablesOthers, EnablesWithin, entering, false, FitsAdc, handled_by, has_bit}
use Terms.{has_lines, Init, input_count, is_converter, is_for_lines, is_in_buffer, is_line_of, is_own_word}
use Terms.{is_result_word, is_some, is_trigger_line, is_unit_line, is_used, is_within, is_word, IsSome, KeepsTo, List}
use Terms.{list_any, Load, LongBodies, may_name, may_write, module_of_line, module_of_register, module_of_unit}
use Terms.{module_of_word, Move, names_there, NamesOthers, NamesWithin, nat_lt, nat_tests, not, not-unless}
use Terms.{object_count, One, only, Option, owns_written, place_count, places_few, Read, refl, Reg, ResultBuffer}
use Terms.{services_driver, Spi0, Spi1, Starts, Store, TriggerClear, TriggerFlags, TriggerSet, true, whether}
use Terms.{whether_as, World, Write, WritesOthers, WritesWithin, ℕ}
use Rattle.adc_driver.specs.laws.bookkeeping.Lawful.{InitSweep, adc}
use Rattle.mcal_base.specs.Layout.{start_of}
use Rattle.mcal_base.specs.declared.layout.Array.TheVariants.{Round}
use Rattle.run_model.specs.Machine.{Aborts}
use Rattle.step_runner.specs.Whose.{is_of}
use Rattle.adc_machine.specs.declared.call.ResultBuffer.TheVariants.{Zero}
use Rattle.mcal_base.specs.declared.moves.Unit as units

abbrev IsOurs : ℕ → Type 0
IsOurs k = is_of (only Adc) (module_of_word k) ≡ true

own_register : (r : Reg) → is_converter r ≡ true → is_of (only Adc) (module_of_register r) ≡ true
own_register (ConverterList u place) e = refl
own_register (ConverterGo u) e = refl
own_register (ConverterState u) e = refl
own_register (ConverterResult u place) e = refl
own_register (ConverterDone u) e = refl
own_register (ConverterAbort u) e = refl
own_register (ConverterAck u) e = refl
own_register TriggerSet e = refl
own_register TriggerClear e = refl
own_register TriggerFlags e = refl
own_register _ e = cc

-- ---- words

driver_word : (k : ℕ) → 40960 ≤ k → k < 49152 → IsOurs k
driver_word k low high = grind (arith, nat_tests)

users_place : (k : ℕ) → 73728 ≤ k → k < 139264 → IsOurs k
users_place k low high = grind (arith, nat_tests)

within_at : (from n k : ℕ) → is_within from n k ≡ true → (from ≤ k) × (k < from + n)
within_at from n k e = (grind (arith, nat_tests), grind (arith, nat_tests))

module _ (d : AdcTable) (fits : FitsAdc d) where
  own_word : (k : ℕ) → is_own_word d k ≡ true → IsOurs k
  own_word k e = let p = within_at 40960 (64 + 32 * object_count d + 6 * input_count d) k e in let few = fits.room in driver_word k p.0 (let high = p.1 in omega (arith, few, high))

  number_few : (b : ResultBuffer) → buffer_number b ≤ 1
  number_few Zero = omega arith
  number_few One = omega arith

  in_buffer : (k g : ℕ) (b : ResultBuffer) → g < 16 → is_in_buffer d k g b ≡ true → IsOurs k
  in_buffer k g b lt e =
      let p = within_at (start_of (Round g (buffer_number b))) (place_count d g) k e in
      let low = p.0 in
      let high = p.1 in
      let few = places_few d fits g in
      let one = number_few b in
      users_place k (omega (arith, low)) (omega (arith, high, few, one, lt))

  in_buffers : (k : ℕ) (gs : List ℕ) → AllSmall gs → list_any (λ g. is_in_buffer d k g Zero || is_in_buffer d k g One) gs ≡ true → IsOurs k
  in_buffers k [] small e = absurd (cc)
  in_buffers k (g ∷ gs) small e = whether_as (is_in_buffer d k g Zero) (λ a. (a || is_in_buffer d k g One) || others ≡ true → IsOurs k) (λ f _. in_buffer k g Zero small.0 f)
      (λ _. whether_as (is_in_buffer d k g One) (λ b. b || others ≡ true → IsOurs k) (λ f _. in_buffer k g One small.0 f) (λ _ rest. in_buffers k gs small.1 rest)) e
    where
      others : Bool
      others = list_any (λ g. is_in_buffer d k g Zero || is_in_buffer d k g One) gs

  own_place : (k : ℕ) → is_word d k ≡ true → IsOurs k
  own_place k = whether_as (is_own_word d k) (λ q. q || is_result_word d k ≡ true → IsOurs k) (λ own _. own_word k own) (λ _ e. in_buffers k all_groups all_small e)

  -- ---- lines

  own_line : (l : ℕ) → is_unit_line l || is_trigger_line l ≡ true → is_of (only Adc) (module_of_line l) ≡ true
  own_line = by_line (λ l. is_of (only Adc) (module_of_line l) ≡ true) refl refl refl refl refl refl

  own_bit : (v l : ℕ) → is_for_lines v ≡ true → has_bit v l ≡ true → is_of (only Adc) (module_of_line l) ≡ true
  own_bit v l e on = whether (is_unit_line l || is_trigger_line l)
      (λ i. own_line l i)
      (λ i. let off = (bare_right d fits).enables (Called Init) v l (ap (λ q. q && names_there (Write EnableSet v)) e) i in absurd (cc))

  enables : (v : ℕ) → is_for_lines v ≡ true → EnablesWithin (only Adc) v
  enables v e = record { fits = small v e; lines = λ l on. own_bit v l e on }
    where
      small : (v : ℕ) → is_for_lines v ≡ true → v < 2 ^ 32
      small v e = let first = and_second (not (v == 0)) (nat_lt v (2 ^ 32)) (and_first _ _ e) in below v first
        where
          below : (v : ℕ) → nat_lt v (2 ^ 32) ≡ true → v < 2 ^ 32
          below v f = grind (arith, nat_tests)

  enables_none : (v : ℕ) → EnablesOthers (only Adc) v → has_lines v ≡ false
  enables_none v h =
      ap (λ q. (q || (has_bit v 25 || (has_bit v 28 || (has_bit v 29 || (has_bit v 30 || (has_bit v 31 || false)))))) || not (nat_lt v (2 ^ 32))) (h.lines 24 refl)
      ∙ ap (λ q. (q || (has_bit v 28 || (has_bit v 29 || (has_bit v 30 || (has_bit v 31 || false))))) || not (nat_lt v (2 ^ 32))) (h.lines 25 refl)
      ∙ ap (λ q. (q || (has_bit v 29 || (has_bit v 30 || (has_bit v 31 || false)))) || not (nat_lt v (2 ^ 32))) (h.lines 28 refl)
      ∙ ap (λ q. (q || (has_bit v 30 || (has_bit v 31 || false))) || not (nat_lt v (2 ^ 32))) (h.lines 29 refl)
      ∙ ap (λ q. (q || (has_bit v 31 || false)) || not (nat_lt v (2 ^ 32))) (h.lines 30 refl)
      ∙ ap (λ q. (q || false) || not (nat_lt v (2 ^ 32))) (h.lines 31 refl)
      ∙ small v h.fits
    where
      small : (v : ℕ) → v < 2 ^ 32 → not (nat_lt v (2 ^ 32)) ≡ false
      small v lt = grind (arith, nat_tests)

  -- ---- moves

  writes : (r : Reg) (v : ℕ) → may_write r v ≡ true → WritesWithin (only Adc) r v
  writes EnableSet v e = enables v e
  writes EnableClear v e = enables v e
  writes r v e = own_register r e

  within : (made : Move) → may_name d made ≡ true → NamesWithin (only Adc) made
  within (Read r) e = own_register r e
  within (Write r v) e = writes r v e
  within (Load k) e = own_place k e
  within (Store k v) e = own_place k e
  within _ e = absurd (cc)

  others_write : (r : Reg) (v : ℕ) → WritesOthers (only Adc) r v → owns_written r v ≡ false
  others_write EnableSet v h = enables_none v h
  others_write EnableClear v h = enables_none v h
  others_write r v h = not-unless (is_converter r) (is_of (only Adc) (module_of_register r)) (own_register r) h

  others : (made : Move) → NamesOthers (only Adc) made → adc_owns d made ≡ false
  others (Read r) h = not-unless (is_converter r) (is_of (only Adc) (module_of_register r)) (own_register r) h
  others (Write r v) h = others_write r v h
  others (Load k) h = not-unless (is_word d k) (is_of (only Adc) (module_of_word k)) (own_place k) h
  others (Store k v) h = not-unless (is_word d k) (is_of (only Adc) (module_of_word k)) (own_place k) h
  others _ h = refl

  -- ---- handlers and units

  line_of : (l : ℕ) → is_some (entering {Asked = Asked} (handled_by d l (is_used d l))) ≡ true → is_line_of (only Adc) l ≡ true
  line_of l h = whether_as (is_used d l) (λ q. is_some (entering {Asked = Asked} (handled_by d l q)) ≡ true → is_line_of (only Adc) l ≡ true) (λ e _. own_line l ((bare_right d fits).used_lines l e)) (λ _ i. absurd (cc)) h

  starts : (w : World) (s : AdcState) (u : units.Unit) (made_by : Option Call) (r : ℕ) → IsSome ((adc_machine d).happens w s (Starts u made_by r)) → only Adc (module_of_unit u) ≡ true
  starts w s Spi0 by r some = cc
  starts w s Spi1 by r some = cc
  starts w s _ by r some = refl

  aborts : (w : World) (s : AdcState) (u : units.Unit) → IsSome ((adc_machine d).happens w s (Aborts u)) → only Adc (module_of_unit u) ≡ true
  aborts w s Spi0 some = cc
  aborts w s Spi1 some = cc
  aborts w s _ some = refl

  -- it is the converters' alone
  pub keeps_by : (fuel room : AdcBody → ℕ) (inits : LongBodies (AdcGround d) InitSweep) → KeepsTo (only Adc) (services_driver (adc d fuel room inits))
  keeps_by fuel room inits = record {
    may = λ o made h. within made (and_first (may_name d made) (names_there made) h);
    owns = λ o made h. others made h;
    handlers = λ l h. line_of l h;
    polls = λ w s c. refl;
    starts = starts;
    aborts = aborts;
  }
