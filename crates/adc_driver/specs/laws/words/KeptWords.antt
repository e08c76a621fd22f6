-- A value of an aborted round is stored in a word of its group that keeps it: all else agrees as before.
-- From adc_groups: words.WordsChange, adc_groups: words.WordsOfModule, adc_groups: bookkeeping.FrameRule and 5 more.
-- Used by services.KeepCopySteps.
use Rattle.std.proofs.Common.{◌≡◌, ◌≢◌, ◌+◌, ◌*◌, ◌/◌, ◌%◌, ◌<◌, ◌≤◌, ◌||◌, ◌==◌, [], ◌∷◌, ◌∙◌, if◌then◌else◌}
use Rattle.adc_driver.specs.Terms
use Terms.{AdcState, AdcTable, Agrees, all_stay, AllRight, AllStay, Answer, ap, arith, Bank, bank_below, bank_number}
use Terms.{bank_word, banks_stay, BankStays, Call, cases, Chip, chip_after, claim_right, claim_tells, claims_on}
use Terms.{Copies, CoreStays, eq_self, false, Fills, FitsAdc, Full, group_of, group_word, HasWords, HeldRight}
use Terms.{holds_anew, HoldStays, inputs_of, is_on, is_some, KeepsRight, kept_in, kept_within, kept_word, kept_words}
use Terms.{KeptStays, length, length-set, limited, List, nat_lt, nat_tests, None, on_there, Option, or_parts}
use Terms.{order_of, order_own, order_within, Origin, own-control, own-word, own_of, ranges_apart, refl, Reservation}
use Terms.{Reservations, ReservedBy, result_word, ResultBuffer, rounds_of, same_or_other, slice_get, Some, some_hold}
use Terms.{start_from, start_of, STATE, stays_agree, Store, stored_other, stored_same, subst, suc, sym, trio_of}
use Terms.{trio_place, true, unit_is, unit_of, unit_small, unit_within, whether_as, Whole, WholeRight, Word}
use Terms.{word_number, word_of, word_there, World, zero, ℕ}
use Rattle.adc_groups.specs.Refinement.{Starts, Keeps, Reads}

-- what a frame holds that keeps values of an aborted round
abbrev pub keeper : Origin Call → Option Answer → (unit : ℕ) → Reservation → Reservations → Reservations
keeper o a u z below = record { by = o; what = z; acted = a } ∷ record { by = o; what = Starts u; acted = a } ∷ below

-- ---- which words are apart

module _ (d : AdcTable) (fits : FitsAdc d) (g m x : ℕ) (here : is_some (group_of d g) ≡ true) (lt : m < length (inputs_of (group_of d g))) (chip : Chip) where
  abbrev at : ℕ
  at = kept_word (rounds_of d g) m

  abbrev pub kept_stored : Chip
  kept_stored = chip_after chip (Store (kept_word (rounds_of d g) m) x) 0

  place : group_word d g (32 + 3 * length (inputs_of (group_of d g)) + m) ≡ at
  place = omega arith

  low : 64 ≤ start_of (group_of d g)
  low = (start_from d fits g here).0

  pub word_stays : (k : ℕ) → k ≢ kept_word (rounds_of d g) m → word_of kept_stored k ≡ word_of chip k
  word_stays k ne = stored_other chip at x 0 k ne

  other_apart : (k j : ℕ) → is_some (group_of d k) ≡ true → k ≢ g → j < 32 + 6 * length (inputs_of (group_of d k)) → group_word d k j ≢ at
  other_apart k j there ne less e = ranges_apart d fits g k (32 + 3 * length (inputs_of (group_of d g)) + m) j here there (λ i. ne (sym i)) (omega (arith, lt)) less (e ∙ sym place)

  own_apart : (j : ℕ) → j < 32 + 3 * length (inputs_of (group_of d g)) → group_word d g j ≢ at
  own_apart j less e = omega (arith, e, less)

  range_apart : (k j : ℕ) → is_some (group_of d k) ≡ true → j < 32 + 3 * length (inputs_of (group_of d k)) → group_word d k j ≢ at
  range_apart k j there less = cases (same_or_other k g)
      (λ e. subst (λ n. group_word d n j ≢ at) (sym e) (own_apart j (subst (λ n. j < 32 + 3 * length (inputs_of (group_of d n))) e less)))
      (λ ne. other_apart k j there ne (omega (arith, less)))

  pub low_kept : (k j : ℕ) → is_some (group_of d k) ≡ true → j < 32 → word_of kept_stored (group_word d k j) ≡ word_of chip (group_word d k j)
  low_kept k j there less = word_stays (group_word d k j) (range_apart k j there (omega (arith, less)))

  pub trio_kept : (k j : ℕ) → is_some (group_of d k) ≡ true → own_of (trio_of (rounds_of d k)) j ≡ true → word_of kept_stored j ≡ word_of chip j
  trio_kept k j there own =
      let is = trio_place d fits k j own in
      word_stays j (λ e. range_apart k is.0 there is.3 (sym is.1 ∙ e))

  pub control_kept : (k : ℕ) → is_some (group_of d k) ≡ true → word_of kept_stored (trio_of (rounds_of d k)).control ≡ word_of chip (trio_of (rounds_of d k)).control
  control_kept k there = trio_kept k (trio_of (rounds_of d k)).control there (own-control (trio_of (rounds_of d k)))

  pub bank_kept : (k : ℕ) (n : Bank) (j : ℕ) → is_some (group_of d k) ≡ true → j < length (inputs_of (group_of d k)) → word_of kept_stored (bank_word (rounds_of d k) n j) ≡ word_of chip (bank_word (rounds_of d k) n j)
  bank_kept k n j there less = trio_kept k (bank_word (rounds_of d k) n j) there (own-word (trio_of (rounds_of d k)) (bank_number n) j (bank_below d fits n) less)

  pub unit_kept : (j : ℕ) → j < 64 → word_of kept_stored (STATE + j) ≡ word_of chip (STATE + j)
  unit_kept j less = word_stays (STATE + j) (λ e. (let l = low in omega (arith, e, l, less)))

  pub claim_kept : (u : ℕ) → u < 2 → word_of kept_stored (word_number d (Word.Claim u)) ≡ word_of chip (word_number d (Word.Claim u))
  claim_kept u few = word_stays (word_number d (Word.Claim u)) (λ e. (let l = low in omega (arith, e, l, few)))

  pub running_kept : (u : ℕ) → u < 2 → word_of kept_stored (word_number d (Word.Running u)) ≡ word_of chip (word_number d (Word.Running u))
  running_kept u few = word_stays (word_number d (Word.Running u)) (λ e. (let l = low in omega (arith, e, l, few)))

  pub order_kept : (u k : ℕ) → u < 2 → order_own (order_of u) k ≡ true → word_of kept_stored k ≡ word_of chip k
  order_kept u k few own = word_stays k (λ e. (let l = low in let both = order_within k (STATE + 10 + 8 * u) own in let high = both.1 in omega (arith, e, l, high, few)))

  pub result_kept : (k : ℕ) (n : ResultBuffer) (p : ℕ) → word_of kept_stored (result_word k n p) ≡ word_of chip (result_word k n p)
  result_kept k n p = word_stays (result_word k n p) (λ e. far n e)
    where
      far : (n : ResultBuffer) → result_word k n p ≢ at
      far ResultBuffer.Zero e = let high = (start_from d fits g here).1 in omega (arith, e, high, lt)
      far ResultBuffer.One e = let high = (start_from d fits g here).1 in omega (arith, e, high, lt)

  -- other values that are kept
  pub other_kept : (k j : ℕ) → is_some (group_of d k) ≡ true → k ≢ g → j < length (inputs_of (group_of d k)) → word_of kept_stored (kept_word (rounds_of d k) j) ≡ word_of chip (kept_word (rounds_of d k) j)
  other_kept k j there ne less =
      let is : group_word d k (32 + 3 * length (inputs_of (group_of d k)) + j) ≡ kept_word (rounds_of d k) j = omega arith in
      word_stays (kept_word (rounds_of d k) j) (λ e. other_apart k (32 + 3 * length (inputs_of (group_of d k)) + j) there ne (omega (arith, less)) (is ∙ e))

  pub value_kept : (j : ℕ) → j ≢ m → word_of kept_stored (kept_word (rounds_of d g) j) ≡ word_of chip (kept_word (rounds_of d g) j)
  value_kept j ne = word_stays (kept_word (rounds_of d g) j) (λ e. ne (omega (arith, e)))

  pub value_stored : HasWords chip → word_of kept_stored (kept_word (rounds_of d g) m) ≡ x
  value_stored whole = stored_same chip at x 0 (word_there d fits at (kept_words d fits g m here lt)) whole

-- ---- what frames hold that claim nothing of the unit

module _ (d : AdcTable) (fits : FitsAdc d) (u g m x : ℕ) (here : is_on u (group_of d g) ≡ true) (lt : m < length (inputs_of (group_of d g))) (chip : Chip) (w : World) (s : AdcState) where
  abbrev b : Chip
  b = chip_after chip (Store (kept_word (rounds_of d g) m) x) 0

  there : is_some (group_of d g) ≡ true
  there = on_there u (group_of d g) here

  off_group : (v k : ℕ) → is_on v (group_of d k) ≡ true → (u == v) ≡ false → k ≢ g
  off_group v k at off e =
      let unit : v ≡ u = sym (unit_is d fits v (group_of d k) at) ∙ (ap (λ n. unit_of (group_of d n)) e ∙ unit_is d fits u (group_of d g) here) in
      absurd (let same : (u == v) ≡ true = ap (λ n. u == n) unit ∙ eq_self u in cc)

  claim : (v k : ℕ) → is_on v (group_of d k) ≡ true → word_of b (word_number d (Word.Claim v)) ≡ word_of chip (word_number d (Word.Claim v))
  claim v k at = claim_kept d fits g m x there lt chip v (unit_within d fits v k at)

  bank : (k : ℕ) (n : Bank) → is_some (group_of d k) ≡ true → BankStays d chip b k n
  bank k n here j = bank_kept d fits g m x there lt chip k n j here

  values : (v k : ℕ) → is_on v (group_of d k) ≡ true → (u == v) ≡ false → KeptStays d chip b k
  values v k at off j less = other_kept d fits g m x there lt chip k j (on_there v (group_of d k) at) (off_group v k at off) less

  one_stays : (y : ReservedBy Call Reservation) (z : Reservation) → claims_on u z ≡ false → HeldRight d chip w s y z → HoldStays d chip b z
  one_stays y (Fills v k e n j p) free r = bank k n (on_there v (group_of d k) r.2)
  one_stays y (Full v k n) free r = bank k n (on_there v (group_of d k) r.2)
  one_stays y (Keeps v k e n j p) free r = (λ f. sym (claim v k r.1) ∙ f, λ f. claim v k r.1 ∙ f, values v k r.1 free)
  one_stays y (Whole v k n) free r = (λ f. sym (claim v k r.1) ∙ f, values v k r.1 free)
  one_stays y (Copies n c j p) free r = (ap (λ z. z % 4) (control_kept d fits g m x there lt chip c.group r.2), bank c.group n r.2)
  one_stays y (Reads k n vs) free r = (ap (λ z. z / 4) (control_kept d fits g m x there lt chip k r.2), bank k n r.2)
  one_stays y _ free r = tt

  pub below_stay : (hs : Reservations) → some_hold (claims_on u) hs ≡ false → AllRight d chip w s hs → AllStay d chip (chip_after chip (Store (kept_word (rounds_of d g) m) x) 0) hs
  below_stay [] free r = tt
  below_stay (y ∷ ys) free r = let k = or_parts (claims_on u y.what) (some_hold (claims_on u) ys) free in (one_stays y y.what k.0 r.0, below_stay ys k.1 r.1)

-- ---- all of it

module _ (d : AdcTable) (fits : FitsAdc d) (below : Reservations) (chip : Chip) (w : World) (s : AdcState) (o : Origin Call) (a : Option Answer) (u g e : ℕ) (n : Option ℕ) (i x : ℕ) (h : Agrees d (keeper o a u (Keeps u g e n i (Some x)) below) chip w s) (lt : e + i < length (inputs_of (group_of d g))) where
  abbrev claimed : ℕ
  claimed = word_of chip (word_number d (Word.Claim u))

  abbrev before : Reservations
  before = keeper o a u (Keeps u g e n i (Some x)) below

  abbrev after : Reservations
  after = keeper o a u (Keeps u g e n (i + 1) None) below

  abbrev c : Chip
  c = chip_after chip (Store (kept_word (rounds_of d g) (e + i)) x) 0

  whole : HasWords chip
  whole = h.outside.all.words

  on : s.initialised ≡ true
  on = h.right.0.0

  on_unit : is_on u (group_of d g) ≡ true
  on_unit = h.right.0.1

  some : is_some (group_of d g) ≡ true
  some = on_there u (group_of d g) on_unit

  few : u < 2
  few = unit_within d fits u g on_unit

  claim_same : (v : ℕ) → v < 2 → word_of c (word_number d (Word.Claim v)) ≡ word_of chip (word_number d (Word.Claim v))
  claim_same = claim_kept d fits g (e + i) x some lt chip

  none_below : some_hold (claims_on u) below ≡ false
  none_below = (claim_tells u ((claimed == 2 + g) || (claimed == 1)) (claim_right below u claimed) below ((h.settled on).claims u few)).1

  kept_by_now : KeepsRight d chip s u g e n i (Some x) → (j v : ℕ) → j < e + (i + 1) → slice_get (kept_in d s g) j ≡ Some v → word_of c (kept_word (rounds_of d g) j) ≡ v
  kept_by_now q j v less is = cases (same_or_other j (e + i))
      (λ f. subst (λ k. word_of c (kept_word (rounds_of d g) k) ≡ v) (sym f)
      (value_stored d fits g (e + i) x some lt chip whole ∙ (let both : Some x ≡ Some v = sym (q.next x refl) ∙ (ap (λ k. slice_get (kept_in d s g) k) (sym f) ∙ is) in cc)))
      (λ ne. value_kept d fits g (e + i) x some lt chip j ne ∙ q.kept j v (omega (arith, less, ne)) is)

  top_right : HeldRight d c w s (record { by = o; what = Keeps u g e n (i + 1) None; acted = a }) (Keeps u g e n (i + 1) None)
  top_right = (
    on,
    on_unit,
    h.right.0.2,
    (λ f. let q = h.right.0.3 (sym (claim_same u few) ∙ f) in record {
      waits = q.waits;
      count = q.count;
      told = q.told;
      word = low_kept d fits g (e + i) x some lt chip g 6 some (omega arith) ∙ q.word;
      kept = kept_by_now q;
      results = q.results;
      next = λ v k. absurd (cc);
    }),
    λ f. h.right.0.4 (λ k. f (claim_same u few ∙ k)),
  )

  -- all else that the driver has stays
  core : CoreStays d chip c
  core = record {
    rest = refl;
    whole = length-set chip.words (kept_word (rounds_of d g) (e + i)) x ∙ whole;
    first = unit_kept d fits g (e + i) x some lt chip 0 (omega arith);
    low = λ k j there less. low_kept d fits g (e + i) x some lt chip k j there (omega (arith, less));
    running = running_kept d fits g (e + i) x some lt chip;
    order = order_kept d fits g (e + i) x some lt chip;
  }

  -- where the claim was lost, a new turn of the group has kept nothing
  kept_same : (k : ℕ) → is_some (group_of d k) ≡ true → word_of chip (word_number d (Word.Claim (unit_of (group_of d k)))) ≢ 2 + k → (j v : ℕ) → slice_get (kept_in d s k) j ≡ Some v → word_of c (kept_word (rounds_of d k) j) ≡ word_of chip (kept_word (rounds_of d k) j)
  kept_same k there ne j v is = cases (same_or_other k g)
      (λ f.
      let lost : kept_in d s g ≡ [] = h.right.0.4 (λ q. ne (subst (λ z. word_of chip (word_number d (Word.Claim (unit_of (group_of d z)))) ≡ 2 + z) (sym f) (ap (λ z. word_of chip (word_number d (Word.Claim z))) (unit_is d fits u (group_of d g) on_unit) ∙ q))) in
      absurd (let none : None ≡ Some v = sym (ap (λ xs. slice_get xs j) lost) ∙ (ap (λ z. slice_get (kept_in d s z) j) (sym f) ∙ is) in cc))
      (λ off. other_kept d fits g (e + i) x some lt chip k j there off (kept_within d w s h.sound k j v is))

  pub kept_agrees : Agrees d (keeper o a u (Keeps u g e n (i + 1) None) below) (chip_after chip (Store (kept_word (rounds_of d g) (e + i)) x) 0) w s
  kept_agrees = stays_agree d fits before chip c w s h on core after (record {
    right = (top_right, (h.right.1.0, all_stay d fits before chip c w s h on core below (below_stay d fits u g (e + i) x on_unit lt chip w s below none_below h.right.1.1) h.right.1.1));
    banks = λ k there. banks_stay chip c (h.banks k there) (λ j own. trio_kept d fits g (e + i) x some lt chip k j there own) refl refl;
    places = λ k b p less free. result_kept d fits g (e + i) x some lt chip k b p ∙ h.places k b p less free;
    backed = (h.backed.0, h.backed.1);
    claimed = λ k there ne f. ne (claim_same (unit_of (group_of d k)) (unit_small d fits k there) ∙ f);
    claims = λ v less. ap (λ z. claim_right after v z) (claim_same v less) ∙ (h.settled on).claims v less;
    promised = λ v. (let z = (h.settled on).promised v in record { starts = z.starts; yields = z.yields });
    kept = kept_same;
  })

-- ---- What a frame holds that keeps values of an aborted round becomes more, or all, while words and registers stay.

-- a number that is at most a limit is left by it, and any one is at most the limit then
pub limited_is : (v m : ℕ) → v ≤ m → limited v m ≡ v
limited_is v m le = whether_as (nat_lt v m) (λ q. (if q then v else m) ≡ v) (λ e. refl) (λ e. grind (arith, nat_tests))

pub limited_most : (v m : ℕ) → limited v m ≤ m
limited_most v m = whether_as (nat_lt v m) (λ q. (if q then v else m) ≤ m)
    (λ e. grind (arith, nat_tests))
    (λ e. omega arith)

-- a list has as many members as its places are below
pub few_places : {A : Type 0} (xs : List A) (m : ℕ) → ((j : ℕ) (v : A) → slice_get xs j ≡ Some v → j < m) → length xs ≤ m
few_places [] m within = omega arith
few_places (x ∷ xs) zero within = absurd (let lt = within 0 x refl in omega (arith, lt))
few_places (x ∷ xs) (suc m) within = let le = few_places xs m (λ j v e. (let lt = within (suc j) v e in omega (arith, lt))) in omega (arith, le)

module _ (d : AdcTable) (below : Reservations) (chip : Chip) (w : World) (s : AdcState) (o : Origin Call) (a : Option Answer) (u g e : ℕ) (n : Option ℕ) (i : ℕ) (v : Option ℕ) (h : Agrees d (keeper o a u (Keeps u g e n i v) below) chip w s) where
  -- more is known
  pub keeps_more : (k : Option ℕ) (j : ℕ) (x : Option ℕ) → (word_of chip (word_number d (Word.Claim u)) ≡ 2 + g → KeepsRight d chip s u g e n i v → KeepsRight d chip s u g e k j x) → Agrees d (keeper o a u (Keeps u g e k j x) below) chip w s
  keeps_more k j x more = holds_anew h (record { puts = λ k. refl; takes = λ k. refl; owed = λ k n p lt free. free; claims = λ n v e. e; clears = λ e. e })
      ((h.right.0.0, h.right.0.1, h.right.0.2, λ f. more f (h.right.0.3 f), h.right.0.4), h.right.1) (h.backed.0, h.backed.1) (λ n z. record { starts = z.starts; yields = z.yields })

  -- all are kept
  pub keeps_all : (k : ℕ) → (word_of chip (word_number d (Word.Claim u)) ≡ 2 + g → KeepsRight d chip s u g e n i v → WholeRight d chip s u g k) → Agrees d (keeper o a u (Whole u g k) below) chip w s
  keeps_all k all = holds_anew h (record { puts = λ k. refl; takes = λ k. refl; owed = λ k n p lt free. free; claims = λ n v e. e; clears = λ e. e })
      ((h.right.0.0, h.right.0.1, h.right.0.2, λ f. all f (h.right.0.3 f)), h.right.1) (h.backed.0, h.backed.1) (λ n z. record { starts = z.starts; yields = z.yields })
