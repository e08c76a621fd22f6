-- Numbers of words: which are none of a unit's order, and none of a sequence's. They name no words and no state, so that no
-- search reads those.
-- Used by services.RequestRight, services.CancelRight, spi_laws: serving.services.SequenceOverRight and 8 more.
use Rattle.std.proofs.Common.{◌≡◌, ◌≢◌, ◌+◌, ◌-◌, ◌*◌, ◌/◌, ◌%◌, ◌^◌, ◌<◌, ◌≤◌, ◌==◌, ◌||◌, ◌∙◌, if◌then◌else◌}
use Rattle.spi_sequences.specs.Terms
use Terms.{and_assoc, and_le_r, and_mask, and_mod, and_shr, ap, arith, bit_and, bit_or, cancelled_bit, false, has_mark}
use Terms.{job_word, MARKS, Memory, nat_tests, next_in, NEXTS, not, or_disjoint, order_word, position_word, refl}
use Terms.{running_word, sequence_word, started_bit, STATE, suc, sym, true, unmarked_in, with_next_in, zero, ℕ}
use Rattle.std.proofs.lemmas.Bool.{or_from}
use Rattle.spi_sequences.specs.laws.words.JobPlaces.{other_number, same_number}
use Rattle.mcal_base.specs.Bits.{without}
use Rattle.word_shapes.specs.PriorityQueue as ranked

pub not_order : (u j : ℕ) → j ≢ order_word u → j ≢ order_word u + 1 → j ≢ order_word u + 2 → ranked.own_of (record { at = order_word u }) j ≡ false
not_order u j a b c =
    or_from (j == order_word u) (j == order_word u + 1 || j == order_word u + 2) (other_number j (order_word u) a)
    (or_from (j == order_word u + 1) (j == order_word u + 2) (other_number j (order_word u + 1) b) (other_number j (order_word u + 2) c))

pub from_order : (u j : ℕ) → ranked.own_of (record { at = order_word u }) j ≡ true → order_word u ≤ j
from_order u j own = grind (arith, nat_tests)

pub to_order : (u j : ℕ) → ranked.own_of (record { at = order_word u }) j ≡ true → j ≤ order_word u + 2
to_order u j own = grind (arith, nat_tests)

-- ---- none of a unit's order

pub low_order : (u j : ℕ) → j < STATE + 10 → ranked.own_of (record { at = order_word u }) j ≡ false
low_order u j lt = not_order u j (λ e. omega (arith, lt, e)) (λ e. omega (arith, lt, e)) (λ e. omega (arith, lt, e))

pub high_order : (u j : ℕ) → u < 2 → STATE + 24 ≤ j → ranked.own_of (record { at = order_word u }) j ≡ false
high_order u j few le = not_order u j (λ e. omega (arith, few, le, e)) (λ e. omega (arith, few, le, e)) (λ e. omega (arith, few, le, e))

pub running_order : (u v : ℕ) → u < 2 → v < 2 → ranked.own_of (record { at = order_word u }) (running_word v) ≡ false
running_order u v few lt = not_order u (running_word v) (λ e. omega (arith, few, lt, e)) (λ e. omega (arith, few, lt, e)) (λ e. omega (arith, few, lt, e))

pub position_order : (u v : ℕ) → u < 2 → v < 2 → ranked.own_of (record { at = order_word u }) (position_word v) ≡ false
position_order u v few lt = not_order u (position_word v) (λ e. omega (arith, few, lt, e)) (λ e. omega (arith, few, lt, e)) (λ e. omega (arith, few, lt, e))

pub other_order : (u v j : ℕ) → u < 2 → v < 2 → v ≢ u → order_word v ≤ j → j ≤ order_word v + 2 → ranked.own_of (record { at = order_word u }) j ≡ false
other_order u v j few lt ne low high = not_order u j (λ e. ne (omega (arith, few, lt, low, high, e))) (λ e. ne (omega (arith, few, lt, low, high, e))) (λ e. ne (omega (arith, few, lt, low, high, e)))

-- ---- none of a sequence's

pub before_sequences : (q j : ℕ) → j < STATE + 40 → j ≢ sequence_word q
before_sequences q j lt e = omega (arith, lt, e)

-- ---- none of the module's

pub not_nexts : (j : ℕ) → STATE + 8 ≤ j → j ≢ NEXTS
not_nexts j le e = omega (arith, le, e)

pub not_marks : (j : ℕ) → STATE + 8 ≤ j → j ≢ MARKS
not_marks j le e = omega (arith, le, e)

-- ---- where words are

pub low_enough : (j : ℕ) → j < STATE + 10 → j < STATE + 40
low_enough j lt = omega (arith, lt)

pub order_at : (v j : ℕ) → v < 2 → order_word v ≤ j → j ≤ order_word v + 2 → (j < STATE + 40) × (STATE + 8 ≤ j)
order_at v j lt low high = (omega (arith, lt, high), omega (arith, low))

pub sequence_at : (q : ℕ) → (STATE + 24 ≤ sequence_word q) × (STATE + 8 ≤ sequence_word q)
sequence_at q = (omega arith, omega arith)

pub nexts_at : (STATE ≤ NEXTS) × (NEXTS < STATE + 10)
nexts_at = (omega arith, omega arith)

pub marks_at : (STATE ≤ MARKS) × (MARKS < STATE + 10)
marks_at = (omega arith, omega arith)

pub nexts_apart : (q : ℕ) → (NEXTS ≢ MARKS) × (NEXTS ≢ sequence_word q)
nexts_apart q = ((λ e. omega (arith, e)), (λ e. omega (arith, e)))

pub marks_apart : (q : ℕ) → (MARKS ≢ NEXTS) × (MARKS ≢ sequence_word q)
marks_apart q = ((λ e. omega (arith, e)), (λ e. omega (arith, e)))

-- ---- what stays while a unit's order, a sequence's word, the next jobs and the marks change

pub record WordsStay (m m1 : Memory) (q u : ℕ) : Type 0 where
  pub state : m1 STATE ≡ m STATE
  pub past : (j : ℕ) → STATE + 64 ≤ j → m1 j ≡ m j
  pub runs : (v : ℕ) → v < 2 → (m1 (running_word v) ≡ m (running_word v)) × (m1 (position_word v) ≡ m (position_word v))
  pub sequences : (n : ℕ) → n < 8 → n ≢ q → m1 (sequence_word n) ≡ m (sequence_word n)
  pub jobs : (j : ℕ) → j < 16 → m1 (job_word j) ≡ m (job_word j)
  pub orders : (v j : ℕ) → v < 2 → v ≢ u → ranked.own_of (record { at = order_word v }) j ≡ true → m j ≡ m1 j

pub words_stay : (m m1 : Memory) (q u : ℕ) → q < 8 → u < 2 → ((j : ℕ) → ranked.own_of (record { at = order_word u }) j ≡ false → j ≢ sequence_word q → j ≢ NEXTS → j ≢ MARKS → m1 j ≡ m j) → WordsStay m m1 q u
words_stay m m1 q u small few same = record {
  state = same STATE (low_order u STATE (omega arith)) (λ e. omega (arith, e)) (λ e. omega (arith, e)) (λ e. omega (arith, e));
  past = λ j le. same j (high_order u j few (omega (arith, le))) (λ e. omega (arith, small, le, e)) (λ e. omega (arith, le, e)) (λ e. omega (arith, le, e));
  runs = λ v lt. (
    same (running_word v) (running_order u v few lt) (λ e. omega (arith, lt, e)) (λ e. omega (arith, e)) (λ e. omega (arith, e)),
    same (position_word v) (position_order u v few lt) (λ e. omega (arith, lt, e)) (λ e. omega (arith, e)) (λ e. omega (arith, e)),
  );
  sequences = λ n lt ne. same (sequence_word n) (high_order u (sequence_word n) few (omega arith)) (λ e. ne (omega (arith, e))) (λ e. omega (arith, e)) (λ e. omega (arith, e));
  jobs = λ j lt. same (job_word j) (high_order u (job_word j) few (omega arith)) (λ e. omega (arith, lt, e)) (λ e. omega (arith, e)) (λ e. omega (arith, e));
  orders = λ v j lt ne own.
      let low = from_order v j own in
      let high = to_order v j own in
      sym (same j (other_order u v j few lt ne low high) (λ e. omega (arith, lt, high, e)) (λ e. omega (arith, low, e)) (λ e. omega (arith, low, e)));
}

-- ---- The marks and the next jobs of sequences in their words: a change of one sequence's leaves the others'.

-- one of eight
pub by_eight : (P : ℕ → Type 0) → P 0 → P 1 → P 2 → P 3 → P 4 → P 5 → P 6 → P 7 → (k : ℕ) → k < 8 → P k
by_eight P a b c d e f g h zero lt = a
by_eight P a b c d e f g h (suc zero) lt = b
by_eight P a b c d e f g h (suc (suc zero)) lt = c
by_eight P a b c d e f g h (suc (suc (suc zero))) lt = d
by_eight P a b c d e f g h (suc (suc (suc (suc zero)))) lt = e
by_eight P a b c d e f g h (suc (suc (suc (suc (suc zero))))) lt = f
by_eight P a b c d e f g h (suc (suc (suc (suc (suc (suc zero)))))) lt = g
by_eight P a b c d e f g h (suc (suc (suc (suc (suc (suc (suc zero))))))) lt = h
by_eight P a b c d e f g h (suc (suc (suc (suc (suc (suc (suc (suc k)))))))) lt = absurd (omega (arith, lt))

-- ---- marks that are taken off

-- what is left of a mark's bit where those of a sequence are taken off
abbrev left_of : (sequence bit : ℕ) → ℕ
left_of k b = bit_and (2 ^ 32 - 1 - bit_or (2 ^ k) (2 ^ (8 + k))) b

abbrev Stays : (sequence other : ℕ) → Type 0
Stays k j = (left_of k (2 ^ j) ≡ (if k == j then 0 else 2 ^ j)) × (left_of k (2 ^ (8 + j)) ≡ (if k == j then 0 else 2 ^ (8 + j)))

all_stay : (k j : ℕ) → k < 8 → j < 8 → Stays k j
all_stay k j lt less = by_eight (λ k. Stays k j)
    (by_eight (λ j. Stays 0 j) (refl, refl) (refl, refl) (refl, refl) (refl, refl) (refl, refl) (refl, refl) (refl, refl) (refl, refl) j less)
    (by_eight (λ j. Stays 1 j) (refl, refl) (refl, refl) (refl, refl) (refl, refl) (refl, refl) (refl, refl) (refl, refl) (refl, refl) j less)
    (by_eight (λ j. Stays 2 j) (refl, refl) (refl, refl) (refl, refl) (refl, refl) (refl, refl) (refl, refl) (refl, refl) (refl, refl) j less)
    (by_eight (λ j. Stays 3 j) (refl, refl) (refl, refl) (refl, refl) (refl, refl) (refl, refl) (refl, refl) (refl, refl) (refl, refl) j less)
    (by_eight (λ j. Stays 4 j) (refl, refl) (refl, refl) (refl, refl) (refl, refl) (refl, refl) (refl, refl) (refl, refl) (refl, refl) j less)
    (by_eight (λ j. Stays 5 j) (refl, refl) (refl, refl) (refl, refl) (refl, refl) (refl, refl) (refl, refl) (refl, refl) (refl, refl) j less)
    (by_eight (λ j. Stays 6 j) (refl, refl) (refl, refl) (refl, refl) (refl, refl) (refl, refl) (refl, refl) (refl, refl) (refl, refl) j less)
    (by_eight (λ j. Stays 7 j) (refl, refl) (refl, refl) (refl, refl) (refl, refl) (refl, refl) (refl, refl) (refl, refl) (refl, refl) j less)
    k lt

and_none : (v : ℕ) → bit_and v 0 ≡ 0
and_none v = let le = and_le_r v 0 in omega (arith, le)

small : (q : ℕ) → q % 8 < 8
small q = omega arith

-- a sequence whose marks were taken off has none
mark_by : (v b n : ℕ) → (x : ℕ) → bit_and n b ≡ x → has_mark (bit_and v n) b ≡ not (bit_and v x == 0)
mark_by v b n x e = ap (λ z. not (z == 0)) (and_assoc b v n ∙ ap (bit_and v) e)

pub unmarked_same : (v q : ℕ) → (has_mark (unmarked_in v q) (started_bit q) ≡ false) × (has_mark (unmarked_in v q) (cancelled_bit q) ≡ false)
unmarked_same v q =
    let k = q % 8 in
    let s = all_stay k k (small q) (small q) in
    let is : (k == k) ≡ true = same_number k in (
      mark_by v (2 ^ k) (2 ^ 32 - 1 - bit_or (2 ^ k) (2 ^ (8 + k))) 0 (s.0 ∙ ap (λ b. if b then 0 else 2 ^ k) is) ∙ none v,
      mark_by v (2 ^ (8 + k)) (2 ^ 32 - 1 - bit_or (2 ^ k) (2 ^ (8 + k))) 0 (s.1 ∙ ap (λ b. if b then 0 else 2 ^ (8 + k)) is) ∙ none v,
    )
  where
    none : (v : ℕ) → not (bit_and v 0 == 0) ≡ false
    none v = ap (λ z. not (z == 0)) (and_none v)

-- and the others have theirs
pub unmarked_other : (v q p : ℕ) → p % 8 ≢ q % 8 → (has_mark (unmarked_in v q) (started_bit p) ≡ has_mark v (started_bit p)) × (has_mark (unmarked_in v q) (cancelled_bit p) ≡ has_mark v (cancelled_bit p))
unmarked_other v q p ne =
    let k = q % 8 in
    let j = p % 8 in
    let s = all_stay k j (small q) (small p) in
    let un : (k == j) ≡ false = other_number k j (λ e. ne (sym e)) in (
      mark_by v (2 ^ j) (2 ^ 32 - 1 - bit_or (2 ^ k) (2 ^ (8 + k))) (2 ^ j) (s.0 ∙ ap (λ b. if b then 0 else 2 ^ j) un),
      mark_by v (2 ^ (8 + j)) (2 ^ 32 - 1 - bit_or (2 ^ k) (2 ^ (8 + k))) (2 ^ (8 + j)) (s.1 ∙ ap (λ b. if b then 0 else 2 ^ (8 + j)) un),
    )

-- ---- next jobs

-- what is left of a sequence's four bits where those of another one are taken off
abbrev Digit : (sequence other : ℕ) → Type 0
Digit k j = (2 ^ 32 - 1 - 15 * 2 ^ (4 * k) % 2 ^ 32) / 2 ^ (4 * j) % 2 ^ 4 ≡ (if k == j then 0 else 15)

all_digits : (k j : ℕ) → k < 8 → j < 8 → Digit k j
all_digits k j lt less = by_eight (λ k. Digit k j)
    (by_eight (λ j. Digit 0 j) refl refl refl refl refl refl refl refl j less)
    (by_eight (λ j. Digit 1 j) refl refl refl refl refl refl refl refl j less)
    (by_eight (λ j. Digit 2 j) refl refl refl refl refl refl refl refl j less)
    (by_eight (λ j. Digit 3 j) refl refl refl refl refl refl refl refl j less)
    (by_eight (λ j. Digit 4 j) refl refl refl refl refl refl refl refl j less)
    (by_eight (λ j. Digit 5 j) refl refl refl refl refl refl refl refl j less)
    (by_eight (λ j. Digit 6 j) refl refl refl refl refl refl refl refl j less)
    (by_eight (λ j. Digit 7 j) refl refl refl refl refl refl refl refl j less)
    k lt

-- the next job of another sequence stays, and that of the sequence is its first one
digit_left : (v k j x : ℕ) → k < 8 → j < 8 → (if k == j then 0 else 15) ≡ x → without v (15 * 2 ^ (4 * k) % 2 ^ 32) / 2 ^ (4 * j) % 16 ≡ bit_and (v / 2 ^ (4 * j) % 16) x
digit_left v k j x lt less e = ap (λ n. n % 16) (and_shr v (2 ^ 32 - 1 - 15 * 2 ^ (4 * k) % 2 ^ 32) (4 * j)) ∙ and_mod (v / 2 ^ (4 * j)) ((2 ^ 32 - 1 - 15 * 2 ^ (4 * k) % 2 ^ 32) / 2 ^ (4 * j)) 4 ∙ ap (bit_and (v / 2 ^ (4 * j) % 16)) (all_digits k j lt less ∙ e)

none_added : (n z : ℕ) → z ≡ 0 → bit_or n z ≡ n
none_added n z e = ap (bit_or n) e ∙ or_disjoint n 0 (and_none n) ∙ omega arith

no_digit : (n : ℕ) → 0 * n % 2 ^ 32 ≡ 0
no_digit n = omega arith

pub first_same : (v q : ℕ) → next_in (with_next_in v q 0) q ≡ 0
first_same v q =
    let k = q % 8 in
    ap (λ n. n / 2 ^ (4 * k) % 16) (none_added (without v (15 * 2 ^ (4 * k) % 2 ^ 32)) (0 * 2 ^ (4 * k) % 2 ^ 32) (no_digit (2 ^ (4 * k)))) ∙ digit_left v k k 0 (small q) (small q) (ap (λ b. if b then 0 else 15) (same_number k)) ∙ and_none (v / 2 ^ (4 * k) % 16)

pub first_other : (v q p : ℕ) → p % 8 ≢ q % 8 → next_in (with_next_in v q 0) p ≡ next_in v p
first_other v q p ne =
    let k = q % 8 in
    let j = p % 8 in
    ap (λ n. n / 2 ^ (4 * j) % 16) (none_added (without v (15 * 2 ^ (4 * k) % 2 ^ 32)) (0 * 2 ^ (4 * k) % 2 ^ 32) (no_digit (2 ^ (4 * k))))
    ∙ digit_left v k j 15 (small q) (small p) (ap (λ b. if b then 0 else 15) (other_number k j (λ e. ne (sym e)))) ∙ and_mask (v / 2 ^ (4 * j) % 16) 4 ∙ (let m = v / 2 ^ (4 * j) in twice m)
  where
    twice : (m : ℕ) → m % 16 % 2 ^ 4 ≡ m % 16
    twice m = omega arith
