-- The driver keeps to its module: registers, words and lines of others are nothing to it.
-- From bookkeeping.ModuleBounds, spi_sequences: bookkeeping.RefinementRight, bookkeeping.Joined and 3 more.
-- Used by mcal_drivers: proofs/Joining.
use Rattle.std.proofs.Common.{◌≡◌, ◌+◌, ◌<◌, ◌≤◌, ◌^◌, ◌==◌, ◌&&◌, ◌||◌, [], ◌∷◌, ◌∙◌, if◌then◌else◌}
use Rattle.spi_driver.specs.Terms
use Terms.{All, and_first, ap, arith, Asked, basis_right, Bool, Call, Called, Channel, Destination, EnableClear}
use Terms.{EnableSet, EnablesOthers, EnablesWithin, entering, enumerate_from, false, FitsSpi, has_bit, has_lines, inl}
use Terms.{inr, is_for_lines, is_line_of, is_number, is_of, is_own_word, is_polling, is_serial, is_some, is_used}
use Terms.{is_users_place, is_users_word, is_within, is_word_of, IsSome, KeepsTo, length, length_by, List, list_all}
use Terms.{list_any, Load, lt_from, lt_since, may_name, may_write, module_of_line, module_of_register, module_of_unit}
use Terms.{module_of_word, Move, names_there, NamesOthers, NamesWithin, nat_lt, nat_tests, None, not, not-unless}
use Terms.{only, Option, own_words, owns_written, polls, Read, refl, Reg, SerialSelect, SerialWait, services_driver}
use Terms.{Some, Source, Spi, Spi0, Spi1, spi_machine, spi_owns, SpiState, SpiTable, start_of, Starts, Store, subst}
use Terms.{suc, sym, true, uses_by, whether, World, Write, WritesOthers, WritesWithin, ℕ}
use Rattle.mcal_base.proofs.Owners.{within_is}
use Rattle.run_model.specs.Frame.{is_wait}
use Rattle.spi_sequences.specs.laws.bookkeeping.RefinementRight.{FrameMoves, frame_moves}
use Rattle.spi_driver.specs.laws.{bookkeeping.Joined.{joined}, services.UnitBegins.{handled_by}}
use Rattle.spi_driver.specs.laws.bookkeeping.ModuleBounds.{all_few, own_few}
use Rattle.mcal_base.specs.declared.moves.Unit as units
use Rattle.spi_machine.specs.declared.call.Call.TheVariants as calls

abbrev IsOurs : ℕ → Type 0
IsOurs k = is_of (only Spi) (module_of_word k) ≡ true

own_register : (r : Reg) → is_serial r ≡ true → is_of (only Spi) (module_of_register r) ≡ true
own_register (SerialSelect u) e = cc
own_register _ e = cc

-- ---- words

driver_word : (k : ℕ) → 49152 ≤ k → k < 57344 → IsOurs k
driver_word k low high =
    rw (
      lt_since k 8192 (omega (arith, low)),
      lt_since k 16384 (omega (arith, low)),
      lt_since k 24576 (omega (arith, low)),
      lt_since k 32768 (omega (arith, low)),
      lt_since k 40960 (omega (arith, low)),
      lt_since k 49152 low,
      lt_from k 57344 high,
    ) refl

users_place : (k : ℕ) → 139776 ≤ k → k < 147456 → IsOurs k
users_place k low high =
    rw (
      lt_since k 8192 (omega (arith, low)),
      lt_since k 16384 (omega (arith, low)),
      lt_since k 24576 (omega (arith, low)),
      lt_since k 32768 (omega (arith, low)),
      lt_since k 40960 (omega (arith, low)),
      lt_since k 49152 (omega (arith, low)),
      lt_since k 57344 (omega (arith, low)),
      lt_since k 65536 (omega (arith, low)),
      lt_since k 73728 (omega (arith, low)),
      lt_since k 139264 (omega (arith, low)),
      lt_since k 139776 low,
      lt_from k 147456 high,
    ) refl

module _ (d : SpiTable) (fits : FitsSpi d) where
  own_word : (k : ℕ) → is_own_word d k ≡ true → IsOurs k
  own_word k e = let p = within_is 49152 (own_words d) k e in let few = own_few d fits in driver_word k p.0 (let high = p.1 in omega (arith, few, high))

  users_by : (k c n : ℕ) → c < 16 → n ≤ 64 → is_within (start_of (Source c)) n k || is_within (start_of (Destination c)) n k ≡ true → IsOurs k
  users_by k c n lt few e = by (is_within (start_of (Source c)) n k) refl (is_within (start_of (Destination c)) n k) refl e
    where
      by : (a : Bool) → is_within (start_of (Source c)) n k ≡ a → (b : Bool) → is_within (start_of (Destination c)) n k ≡ b → a || b ≡ true → IsOurs k
      by true f b g h = let p = within_is (start_of (Source c)) n k f in let low = p.0 in let high = p.1 in users_place k (omega (arith, low)) (omega (arith, high, lt, few))
      by false f true g h = let p = within_is (start_of (Destination c)) n k g in let low = p.0 in let high = p.1 in users_place k (omega (arith, low)) (omega (arith, high, lt, few))
      by false f false g h = absurd (cc)

  users_in : (k from : ℕ) (xs : List (Option Channel)) → from + length xs ≤ 16 → All (λ (o : Option Channel). length_by o ≤ 64) xs → list_any (is_users_place k) (enumerate_from from xs) ≡ true → IsOurs k
  users_in k from [] le all e = absurd (cc)
  users_in k from (x ∷ xs) le all e = by (is_users_place k (from, x)) refl e (users_in k (from + 1) xs (omega (arith, le)) (λ i o lt. all (suc i) o (omega (arith, lt))))
    where
      by : (q : Bool) → is_users_place k (from, x) ≡ q → q || list_any (is_users_place k) (enumerate_from (from + 1) xs) ≡ true → (list_any (is_users_place k) (enumerate_from (from + 1) xs) ≡ true → IsOurs k) → IsOurs k
      by true f g more = users_by k from (length_by x) (omega (arith, le)) (all 0 x (omega arith)) f
      by false f g more = more g

  own_place : (k : ℕ) → is_word_of d k ≡ true → IsOurs k
  own_place k e = by (is_own_word d k) (is_users_word d k) e (own_word k) (users_in k 0 d.channels (let row = fits.rows.0 in omega (arith, row)) (all_few d fits))
    where
      by : (a b : Bool) → a || b ≡ true → (a ≡ true → IsOurs k) → (b ≡ true → IsOurs k) → IsOurs k
      by true b e f g = f refl
      by false b e f g = g e

  -- ---- lines

  own_line : (l : ℕ) → (l == 26 || l == 27) ≡ true → is_of (only Spi) (module_of_line l) ≡ true
  own_line l e = by (l == 26) refl (l == 27) refl e
    where
      by : (a : Bool) → (l == 26) ≡ a → (b : Bool) → (l == 27) ≡ b → a || b ≡ true → is_of (only Spi) (module_of_line l) ≡ true
      by true f b g h = ap (λ n. is_of (only Spi) (module_of_line n)) (is_number l 26 f)
      by false f true g h = ap (λ n. is_of (only Spi) (module_of_line n)) (is_number l 27 g)
      by false f false g h = absurd (cc)

  own_bit : (v l : ℕ) → is_for_lines v ≡ true → has_bit v l ≡ true → is_of (only Spi) (module_of_line l) ≡ true
  own_bit v l e on = whether (l == 26 || l == 27)
      (λ i. own_line l i)
      (λ i. let off = (basis_right d fits).enables (Called calls.Init) v l (ap (λ q. q && names_there (Write EnableSet v)) e) i in absurd (cc))

  enables : (v : ℕ) → is_for_lines v ≡ true → EnablesWithin (only Spi) v
  enables v e = record { fits = small v e; lines = λ l on. own_bit v l e on }
    where
      small : (v : ℕ) → is_for_lines v ≡ true → v < 2 ^ 32
      small v e = grind (arith, nat_tests)

  enables_none : (v : ℕ) → EnablesOthers (only Spi) v → has_lines v ≡ false
  enables_none v h =
      ap (λ q. q || has_bit v 27 || not (nat_lt v 4294967296)) (h.lines 26 refl)
      ∙ ap (λ q. q || not (nat_lt v 4294967296)) (h.lines 27 refl)
      ∙ ap (λ b. not b) (lt_from v 4294967296 h.fits)

  -- ---- moves

  writes : (r : Reg) (v : ℕ) → may_write r v ≡ true → WritesWithin (only Spi) r v
  writes EnableSet v e = enables v e
  writes EnableClear v e = enables v e
  writes r v e = own_register r e

  within : (made : Move) → may_name d made ≡ true → NamesWithin (only Spi) made
  within (Read r) e = own_register r (and_first (is_serial r) (not (is_wait (Read r))) e)
  within (Write r v) e = writes r v e
  within (Load k) e = own_place k e
  within (Store k v) e = own_place k e
  within _ e = absurd (cc)

  named : (made : Move) → FrameMoves d made → NamesWithin (only Spi) made
  named made (inl (u, is, there)) = subst (λ m. NamesWithin (only Spi) m) (sym is) (own_register (SerialWait u) refl)
  named made (inr e) = within made (and_first (may_name d made) (names_there made) e)

  others_write : (r : Reg) (v : ℕ) → WritesOthers (only Spi) r v → owns_written r v ≡ false
  others_write EnableSet v h = enables_none v h
  others_write EnableClear v h = enables_none v h
  others_write r v h = not-unless (is_serial r) (is_of (only Spi) (module_of_register r)) (own_register r) h

  others : (made : Move) → NamesOthers (only Spi) made → spi_owns d made ≡ false
  others (Read r) h = not-unless (is_serial r) (is_of (only Spi) (module_of_register r)) (own_register r) h
  others (Write r v) h = others_write r v h
  others (Load k) h = not-unless (is_word_of d k) (is_of (only Spi) (module_of_word k)) (own_place k) h
  others (Store k v) h = not-unless (is_word_of d k) (is_of (only Spi) (module_of_word k)) (own_place k) h
  others _ h = refl

  -- ---- handlers and units

  line_of : (l : ℕ) → is_some (entering {Asked = Asked} (handled_by d l (is_used d l))) ≡ true → is_line_of (only Spi) l ≡ true
  line_of l h = by (l == 26) refl (l == 27) refl
    where
      unused : (l == 26) ≡ false → (l == 27) ≡ false → is_used d l ≡ false
      unused f g = ap (λ q. uses_by d (if q then Some 0 else if l == 27 then Some 1 else None)) f ∙ ap (λ q. uses_by d (if q then Some 1 else None)) g

      by : (a : Bool) → (l == 26) ≡ a → (b : Bool) → (l == 27) ≡ b → is_line_of (only Spi) l ≡ true
      by true f b g = own_line l (ap (λ q. q || l == 27) f)
      by false f true g = own_line l (ap (λ q. q || l == 27) f ∙ g)
      by false f false g = absurd (let none = ap (λ q. is_some (entering {Asked = Asked} (handled_by d l q))) (unused f g) in let no = sym none ∙ h in cc)

  polled : (s : SpiState) (c : Call) → list_all (is_line_of (only Spi)) (polls s c) ≡ true
  polled s calls.MainFunctionHandling =
      elim (is_polling s.mode) as (λ q. list_all (is_line_of (only Spi)) (if q then 26 ∷ 27 ∷ [] else []) ≡ true)
      [ true ↦ refl | false ↦ refl ]
  polled s _ = refl

  starts : (w : World) (s : SpiState) (u : units.Unit) (made_by : Option Call) (r : ℕ) → IsSome ((spi_machine d).happens w s (Starts u made_by r)) → only Spi (module_of_unit u) ≡ true
  starts w s Spi0 by r some = refl
  starts w s Spi1 by r some = refl
  starts w s _ by r some = cc

  -- it is the serial units' alone
  pub keeps_serial : KeepsTo (only Spi) (services_driver (joined d))
  keeps_serial = record {
    may = λ o made h. named made (frame_moves d o made h);
    owns = λ o made h. others made h;
    handlers = λ l h. line_of l h;
    polls = λ w s c. polled s c;
    starts = starts;
    aborts = λ w s u some. cc;
  }
