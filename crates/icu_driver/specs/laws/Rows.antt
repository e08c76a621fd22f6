-- Rows of words that are behind at a channel, and the store that catches one up.
-- From One, Calls.
-- Used by SampleRight, Measure, Stamp, DetectRight, KeepRight and 2 more.
use Rattle.std.proofs.Common.{◌≡◌, ◌≢◌, ◌<◌, ◌||◌, ◌==◌, [], ◌∷◌, ◌∙◌}
use Rattle.icu_driver.specs.Terms
use Terms.{ActiveIs, AllByRecursion, ap, arith, bit_of, Bool, Capture, capture_at, Channel, channel_of, Chip, chip_after, eq_other, false, IcuTable, IcuRepresents, IcuState, INTERVALS, is_some, Lag, List, MARKS, MeasureWords, ModeWords, nat_tests, OppositeIs, PLACES, refl, seen_by, seen_number, settled, SIZES, Some, StartIs, STATE, Store, SWITCHES, TIMES, true, ValueIs, VALUES, waiting_value, word, word_of, World, ℕ}
use Rattle.icu_driver.specs.laws.{Calls.{to_mode, from_mode}, One.{IsAt, IsRow, channel_agrees, one_agrees}}
use Rattle.icu_driver.specs.laws.{One.{apart_words, same_state, left_word, word_old, stamps_old, mode_left}}

-- the row is one of these, and the word one of theirs at a channel
abbrev pub has_row : List ℕ → ℕ → Bool
has_row [] f = false
has_row (r ∷ rs) f = f == r || has_row rs f

abbrev pub rows_behind : List ℕ → ℕ → ℕ → Bool
rows_behind [] c j = false
rows_behind (r ∷ rs) c j = j == word r c || rows_behind rs c j

abbrev pub rows_of : List ℕ → ℕ → Lag
rows_of rs c = record settled { words = rows_behind rs c }

same_row : (f r c : ℕ) → (word f c == word r c) ≡ (f == r)
same_row f r c = grind (arith, nat_tests)

pub behind_row : (rs : List ℕ) (f c : ℕ) → rows_behind rs c (word f c) ≡ has_row rs f
behind_row [] f c = refl
behind_row (r ∷ rs) f c = ap (λ q. q || rows_behind rs c (word f c)) (same_row f r c) ∙ ap (λ q. f == r || q) (behind_row rs f c)

other_rows : (rs : List ℕ) (first k c : ℕ) → AllByRecursion IsRow rs → IsRow first → k < 8 → c < 8 → k ≢ c → rows_behind rs c (word first k) ≡ false
other_rows [] first k c all row lt few ne = refl
other_rows (r ∷ rs) first k c all row lt few ne = ap (λ q. q || rows_behind rs c (word first k)) (eq_other (word first k) (word r c) (apart_words first r k c row all.0 lt few ne)) ∙ other_rows rs first k c all.1 row lt few ne

state_apart : (rs : List ℕ) (c : ℕ) → AllByRecursion IsRow rs → rows_behind rs c STATE ≡ false
state_apart [] c all = refl
state_apart (r ∷ rs) c all = let low = all.0.1 in ap (λ q. q || rows_behind rs c STATE) (eq_other STATE (word r c) (λ e. absurd (omega (arith, low, e)))) ∙ state_apart rs c all.1

pub rows_at : (rs : List ℕ) (c : ℕ) → AllByRecursion IsRow rs → c < 8 → IsAt c (rows_of rs c)
rows_at rs c all few = record { gates = λ k ne. refl; queues = λ k ne. refl; counts = λ k ne. refl; words = λ first k r lt ne. other_rows rs first k c all r lt few ne; state = state_apart rs c all; stamps = λ k i ne. refl; moded = refl; lines = refl }

-- a row that isn't behind after a store of another one wasn't before
pub grows : (rs : List ℕ) (first f c : ℕ) → rows_behind (first ∷ rs) c (word f c) ≡ false → f ≢ first
grows rs first f c e i = let g : rows_behind (first ∷ rs) c (word f c) ≡ true = ap (λ q. q || rows_behind rs c (word f c)) (same_row f first c ∙ here f first i) in cc
  where
    here : (f r : ℕ) → f ≡ r → (f == r) ≡ true
    here f r e = grind (arith, nat_tests)

module _ (d : IcuTable) (c : ℕ) (lt : c < 8) (k : Channel) (known : channel_of d c ≡ Some k) (first : ℕ) (row : IsRow first) (rs : List ℕ) (all : AllByRecursion IsRow rs) (v : ℕ) (chip : Chip) (w : World) (s : IcuState) (on : s.initialised ≡ true) (h : IcuRepresents d (rows_of (first ∷ rs) c) chip w s) where
  abbrev after : Chip
  after = chip_after chip (Store (word first c) v) 0

  -- the other words, after the store
  pub row_others : ModeWords k.mode (λ j. word_of after j) (rows_behind (first ∷ rs) c) c k (capture_at s c)
  row_others = mode_left (λ j. word_of chip j) (λ j. word_of after j) (rows_behind (first ∷ rs) c) (rows_behind (first ∷ rs) c) c (λ f r e. word_old first f c v chip (grows rs first f c e)) (λ f r. refl) k.mode k (capture_at s c) (to_mode d c k known k.mode refl (λ j. word_of chip j) (rows_behind (first ∷ rs) c) (capture_at s c) (channel_agrees d (rows_of (first ∷ rs) c) chip w s c lt h).words)

  pub row_stored : ModeWords k.mode (λ j. word_of after j) (rows_behind rs c) c k (capture_at s c) → IcuRepresents d (rows_of rs c) after w s
  row_stored words =
      let a = channel_agrees d (rows_of (first ∷ rs) c) chip w s c lt h in
      one_agrees d c lt (rows_of (first ∷ rs) c) (rows_of rs c) (rows_at (first ∷ rs) c (row, all) lt) (rows_at rs c all lt) chip after w s s on h (left_word first c v w chip row lt h.outside) (same_state c s) (record {
        block = a.block;
        words = from_mode d c k known k.mode refl (λ j. word_of after j) (rows_behind rs c) (capture_at s c) words;
        course = a.course;
        place = a.place;
        turns = a.turns;
        stamps = λ some i few g. stamps_old first c v c i chip row lt ∙ a.stamps some i few refl;
      })

-- ---- a measurement's words: one that is right again

pub data NewWord (at : ℕ → ℕ) (c : ℕ) (k : Channel) (x : Capture) : ℕ → Type 0 where
  New_waits : at (word SWITCHES c) ≡ bit_of (is_some (waiting_value k x)) → NewWord at c k x SWITCHES
  New_mark : at (word MARKS c) ≡ bit_of x.active → NewWord at c k x MARKS
  New_seen : at (word SIZES c) ≡ seen_number (seen_by k x) → NewWord at c k x SIZES
  New_start : StartIs (at (word INTERVALS c)) (seen_by k x) → NewWord at c k x INTERVALS
  New_opposite : OppositeIs (at (word PLACES c)) (seen_by k x) → NewWord at c k x PLACES
  New_value : ValueIs (at (word VALUES c)) (waiting_value k x) → NewWord at c k x VALUES
  New_time : ActiveIs (at (word TIMES c)) (waiting_value k x) → NewWord at c k x TIMES

-- one that isn't behind without a row isn't with another one
pub still_not : (rs : List ℕ) (first f c : ℕ) → (f == first) ≡ false → rows_behind rs c (word f c) ≡ false → rows_behind (first ∷ rs) c (word f c) ≡ false
still_not rs first f c e r = ap (λ q. q || rows_behind rs c (word f c)) (same_row f first c ∙ e) ∙ r

pub measure_closed : (at : ℕ → ℕ) (rs : List ℕ) (c : ℕ) (k : Channel) (x : Capture) (first : ℕ) → NewWord at c k x first → MeasureWords at (rows_behind (first ∷ rs) c) c k x → MeasureWords at (rows_behind rs c) c k x
measure_closed at rs c k x _ (New_waits new) h = record { waits = λ f. new; mark = λ f. h.mark (still_not rs SWITCHES MARKS c refl f); seen = λ f g. h.seen (still_not rs SWITCHES SIZES c refl f) g; start = λ f g. h.start (still_not rs SWITCHES INTERVALS c refl f) g; opposite = λ f g. h.opposite (still_not rs SWITCHES PLACES c refl f) g; value = λ f. h.value (still_not rs SWITCHES VALUES c refl f); time = λ f. h.time (still_not rs SWITCHES TIMES c refl f) }
measure_closed at rs c k x _ (New_mark new) h = record { waits = λ f. h.waits (still_not rs MARKS SWITCHES c refl f); mark = λ f. new; seen = λ f g. h.seen (still_not rs MARKS SIZES c refl f) g; start = λ f g. h.start (still_not rs MARKS INTERVALS c refl f) g; opposite = λ f g. h.opposite (still_not rs MARKS PLACES c refl f) g; value = λ f. h.value (still_not rs MARKS VALUES c refl f); time = λ f. h.time (still_not rs MARKS TIMES c refl f) }
measure_closed at rs c k x _ (New_seen new) h = record { waits = λ f. h.waits (still_not rs SIZES SWITCHES c refl f); mark = λ f. h.mark (still_not rs SIZES MARKS c refl f); seen = λ f g. new; start = λ f g. h.start (still_not rs SIZES INTERVALS c refl f) g; opposite = λ f g. h.opposite (still_not rs SIZES PLACES c refl f) g; value = λ f. h.value (still_not rs SIZES VALUES c refl f); time = λ f. h.time (still_not rs SIZES TIMES c refl f) }
measure_closed at rs c k x _ (New_start new) h = record { waits = λ f. h.waits (still_not rs INTERVALS SWITCHES c refl f); mark = λ f. h.mark (still_not rs INTERVALS MARKS c refl f); seen = λ f g. h.seen (still_not rs INTERVALS SIZES c refl f) g; start = λ f g. new; opposite = λ f g. h.opposite (still_not rs INTERVALS PLACES c refl f) g; value = λ f. h.value (still_not rs INTERVALS VALUES c refl f); time = λ f. h.time (still_not rs INTERVALS TIMES c refl f) }
measure_closed at rs c k x _ (New_opposite new) h = record { waits = λ f. h.waits (still_not rs PLACES SWITCHES c refl f); mark = λ f. h.mark (still_not rs PLACES MARKS c refl f); seen = λ f g. h.seen (still_not rs PLACES SIZES c refl f) g; start = λ f g. h.start (still_not rs PLACES INTERVALS c refl f) g; opposite = λ f g. new; value = λ f. h.value (still_not rs PLACES VALUES c refl f); time = λ f. h.time (still_not rs PLACES TIMES c refl f) }
measure_closed at rs c k x _ (New_value new) h = record { waits = λ f. h.waits (still_not rs VALUES SWITCHES c refl f); mark = λ f. h.mark (still_not rs VALUES MARKS c refl f); seen = λ f g. h.seen (still_not rs VALUES SIZES c refl f) g; start = λ f g. h.start (still_not rs VALUES INTERVALS c refl f) g; opposite = λ f g. h.opposite (still_not rs VALUES PLACES c refl f) g; value = λ f. new; time = λ f. h.time (still_not rs VALUES TIMES c refl f) }
measure_closed at rs c k x _ (New_time new) h = record { waits = λ f. h.waits (still_not rs TIMES SWITCHES c refl f); mark = λ f. h.mark (still_not rs TIMES MARKS c refl f); seen = λ f g. h.seen (still_not rs TIMES SIZES c refl f) g; start = λ f g. h.start (still_not rs TIMES INTERVALS c refl f) g; opposite = λ f g. h.opposite (still_not rs TIMES PLACES c refl f) g; value = λ f. h.value (still_not rs TIMES VALUES c refl f); time = λ f. new }
