-- A served round is copied to the user's buffer, value by value with the mask open; then its group is notified, where that is on.
-- From adc_groups: words.WordsChange, adc_groups: words.WordsOfModule, adc_groups: services.BodySteps and 7 more.
-- Used by adc_driver: services.AllSteps, adc_driver: bookkeeping.MayMove, adc_driver: bookkeeping.KeepsToModule.
use Rattle.std.proofs.Common.{◌≡◌, ◌≢◌, ◌+◌, ◌*◌, ◌/◌, ◌%◌, ◌<◌, ◌≤◌, ◌&&◌, ◌||◌, ◌==◌, [], ◌∷◌, ◌∙◌, ◌⊎◌}
use Rattle.std.proofs.Common.{if◌then◌else◌}
use Rattle.adc_laws.specs.serving.Terms
use Terms.{adc_bodies, AdcBody, AdcGround, AdcState, AdcTable, Agrees, all_stay, AllRight, AllStay, ap, arith}
use Terms.{AssertedAt, Bank, bank_below, bank_number, bank_word, banks_stay, BankStays, bit_of, body_ends, body_work}
use Terms.{Bool, buffer_by, buffer_in, Call, Chip, chip_after, claim_right, Column, column_word, Copied, Copies}
use Terms.{copies_on, CopiesRight, Copying, core_place, CoreStays, ended_at, Entered, eq_is, false, Fills, FitsAdc}
use Terms.{FrameHistory, fresh_history, Full, Group, group_of, Has_served, has_served, HasWords, HeldRight}
use Terms.{holds_anew, HoldStays, inl, inputs_of, inr, is_on, is_owed, is_same, is_some, Is_this_frame, IsAlone}
use Terms.{IsAtUnit, Keeps, kept_place, kept_within, KeptStays, length, lt_is, lt_isnt, MayCopy, mod-add-div}
use Terms.{mul-le-mul, mul-le-mul_right, mul_comm, nat_le, nat_lt, nat_tests, None, on_there, Option, or_from}
use Terms.{or_parts, Origin, Out, Outside, owes_note, own-control, own-word, own_of, place_count, place_out}
use Terms.{place_value, place_words, Reads, refl, Reservation, Reservations, ReservedBy, result_word, ResultBuffer}
use Terms.{RightOr, Rounds, rounds_of, same_or_other, samples_of, Serves, Some, some_hold, Starts, stays_agree, Store}
use Terms.{stored_other, stored_same, subst, sym, Taken, Tells, trio_far, trio_of, true, unit_is, unit_of, unit_small}
use Terms.{unit_within, USERS, value_of, whether_as, Whole, with_holds, Word, word_number, word_of, word_there, World}
use Terms.{ℕ}
use Rattle.adc_laws.specs.serving.laws.{services.ClaimRight.{claiming}, services.CopyRight.{fills_step}}
use Rattle.word_shapes.specs.declared.streams.copying.Copied.TheVariants as copied
use Rattle.word_shapes.specs.declared.streams.copying.Copied as streams

-- ---- places of a buffer

-- a group's buffer has at most 2,048 of them
pub places_few : (d : AdcTable) → FitsAdc d → (g : ℕ) → place_count d g ≤ 2048
places_few d fits g = by (group_of d g) refl
  where
    by : (k : Option Group) → group_of d g ≡ k → length (inputs_of k) * samples_of k ≤ 2048
    by None e = omega arith
    by (Some k) e = let most = mul-le-mul (fits.groups g k e).few (fits.groups g k e).places.1 in omega (arith, most)

module _ (d : AdcTable) (fits : FitsAdc d) (c : Column) (there : is_some (group_of d c.group) ≡ true) (samples : c.samples ≡ samples_of (group_of d c.group)) (within : c.place < c.samples) where
  -- the place of an input's value
  abbrev pub place_at : ℕ → ℕ
  place_at i = i * c.samples + c.place

  column_by : (g i n k : ℕ) (second : Bool) → USERS + 2048 * (2 * g + bit_of second) + i * n + k ≡ result_word g (buffer_by second) (i * n + k)
  column_by g i n k false = omega arith
  column_by g i n k true = omega arith

  pub column_is : (i : ℕ) → column_word c i ≡ result_word c.group (buffer_in c) (i * c.samples + c.place)
  column_is i = column_by c.group i c.samples c.place c.second

  below_all : (i n m : ℕ) → i < n → i * m + m ≤ n * m
  below_all i n m lt = let le = mul-le-mul_right m (let up : i + 1 ≤ n = omega (arith, lt) in up) in omega (arith, le)

  pub place_within : (i : ℕ) → i < length (inputs_of (group_of d c.group)) → i * c.samples + c.place < place_count d c.group
  place_within i lt = subst (λ n. i * c.samples + c.place < length (inputs_of (group_of d c.group)) * n) samples (let le = below_all i (length (inputs_of (group_of d c.group))) c.samples lt in let in_row = within in omega (arith, le, in_row))

  -- a place that this value is owed to, and the next one isn't, is the value's
  pub owed_place : (i p : ℕ) → p % c.samples ≡ c.place → i ≤ p / c.samples → (i + 1 ≤ p / c.samples → ⊥) → p ≡ i * c.samples + c.place
  owed_place i p rest low high =
      let whole = mod-add-div p c.samples in
      let is : p / c.samples ≡ i = between i (p / c.samples) low high in
      sym whole ∙ (ap (λ n. n + c.samples * (p / c.samples)) rest ∙ (ap (λ n. c.place + c.samples * n) is ∙ turned c.samples i c.place))
    where
      between : (i n : ℕ) → i ≤ n → (i + 1 ≤ n → ⊥) → n ≡ i
      between i n low high =
          elim (same_or_other n i) as (λ _. n ≡ i)
          [ inl e ↦ e | inr ne ↦ absurd (high (omega (arith, low, ne))) ]

      turned : (m i k : ℕ) → k + m * i ≡ i * m + k
      turned m i k = ap (λ n. k + n) (mul_comm m i) ∙ omega arith

  -- behind the last value no place is owed
  pub owed_none : (p : ℕ) → p < place_count d c.group → length (inputs_of (group_of d c.group)) ≤ p / c.samples → ⊥
  owed_none p lt le =
      let whole = mod-add-div p c.samples in
      let up = mul-le-mul_right c.samples le in
      let turned = mul_comm c.samples (p / c.samples) in
      let few : p < length (inputs_of (group_of d c.group)) * c.samples = subst (λ n. p < length (inputs_of (group_of d c.group)) * n) (sym samples) lt in
      omega (arith, whole, up, turned, few)

-- ---- what is held, and what is read

-- what a handler holds that copies a bank to a user's buffer
abbrev pub teller : (unit : ℕ) → Bank → Column → (done : ℕ) → Option ℕ → Reservations → Reservations
teller u b c i v below = claiming u (Copies b c i v) below

module _ (d : AdcTable) (below : Reservations) (chip : Chip) (w : World) (s : AdcState) (u : ℕ) (b : Bank) (c : Column) where
  -- one more value was read
  pub tells_value : (i : ℕ) (v x : Option ℕ) → ((n : ℕ) → x ≡ Some n → n ≡ place_value s c.group (buffer_in c) (i * c.samples + c.place)) → Agrees d (teller u b c i v below) chip w s → Agrees d (teller u b c i x below) chip w s
  tells_value i v x next h = holds_anew h (record { puts = λ k. refl; takes = λ k. refl; owed = λ k n p lt free. free; claims = λ n v e. e; clears = λ e. e })
      ((h.right.0.0, h.right.0.1, h.right.0.2, (let q = h.right.0.3 in record { newest = q.newest; values = q.values; next = next })), h.right.1) (λ n e. absurd (cc), h.backed.1) (λ n z. record { starts = z.starts; yields = z.yields })

  -- all are in the buffer
  module _ (fits : FitsAdc d) (samples : c.samples ≡ samples_of (group_of d c.group)) (within : c.place < c.samples) (h : Agrees d (teller u b c (length (inputs_of (group_of d c.group))) None below) chip w s) where
    there : is_some (group_of d c.group) ≡ true
    there = h.right.0.2

    free_again : (k : ℕ) (n : ResultBuffer) (p : ℕ) → p < place_count d k → is_owed k n p (Copies b c (length (inputs_of (group_of d c.group))) None) ≡ false
    free_again k n p lt = not_owed (c.group == k) refl (is_same (buffer_in c) n) (p % c.samples == c.place) (nat_le (length (inputs_of (group_of d c.group))) (p / c.samples)) refl
      where
        not_owed : (q : Bool) → (c.group == k) ≡ q → (a z o : Bool) → nat_le (length (inputs_of (group_of d c.group))) (p / c.samples) ≡ o → q && (a && (z && o)) ≡ false
        not_owed true e true true true i = absurd (owed_none d fits c there samples within p (subst (λ m. p < place_count d m) (sym (eq_is c.group k e)) lt) (le (length (inputs_of (group_of d c.group))) (p / c.samples) i))
          where
            le : (x y : ℕ) → nat_le x y ≡ true → x ≤ y
            le x y f = grind (arith, nat_tests)
        not_owed _ e _ _ _ i = refl

    pub tells_all : Agrees d (record { by = Entered (24 + u); what = Starts u; acted = None } ∷ below) chip w s
    tells_all = holds_anew h (record { puts = λ k. refl; takes = λ k. refl; owed = λ k n p lt free. ap (λ q. q || some_hold (is_owed k n p) below) (free_again k n p lt) ∙ free; claims = λ n v e. e; clears = λ e. e })
        h.right.1 h.backed.1 (λ n z. record { starts = z.starts; yields = z.yields })

-- ---- a value is stored in the buffer

module _ (d : AdcTable) (fits : FitsAdc d) (below : Reservations) (chip : Chip) (w : World) (s : AdcState) (u : ℕ) (b : Bank) (c : Column) (i x : ℕ) (samples : c.samples ≡ samples_of (group_of d c.group)) (within : c.place < c.samples) (h : Agrees d (teller u b c i (Some x) below) chip w s) (lt : i < length (inputs_of (group_of d c.group))) where
  abbrev place : ℕ
  place = i * c.samples + c.place

  abbrev word : ℕ
  word = result_word c.group (buffer_in c) (i * c.samples + c.place)

  abbrev now : Chip
  now = chip_after chip (Store (result_word c.group (buffer_in c) (i * c.samples + c.place)) x) 0

  whole : HasWords chip
  whole = h.outside.all.words

  here : is_some (group_of d c.group) ≡ true
  here = h.right.0.2

  on : s.initialised ≡ true
  on = h.right.0.1

  core : CoreStays d chip now
  core = core_place d fits chip x whole c.group (buffer_in c) (i * c.samples + c.place)

  kept_stays : (k : ℕ) → is_some (group_of d k) ≡ true → KeptStays d chip now k
  kept_stays = kept_place d fits chip x whole c.group (buffer_in c) (i * c.samples + c.place)

  counted : i * c.samples + c.place < place_count d c.group
  counted = place_within d fits c here samples within i lt

  stored : word_of now word ≡ x
  stored = stored_same chip word x 0 (word_there d fits word (place_words d c.group (buffer_in c) (i * c.samples + c.place) counted)) whole

  trio_stays : (k j : ℕ) → is_some (group_of d k) ≡ true → own_of (trio_of (rounds_of d k)) j ≡ true → word_of now j ≡ word_of chip j
  trio_stays k j there own = stored_other chip word x 0 j (λ e. trio_far d fits chip x whole k j there own c.group (buffer_in c) (i * c.samples + c.place) (sym e))

  bank_stays : (k : ℕ) (n : Bank) → is_some (group_of d k) ≡ true → BankStays d chip now k n
  bank_stays k n there j less = trio_stays k (bank_word (rounds_of d k) n j) there (own-word (trio_of (rounds_of d k)) (bank_number n) j (bank_below d fits n) less)

  control_stays : (k : ℕ) → is_some (group_of d k) ≡ true → word_of now (trio_of (rounds_of d k)).control ≡ word_of chip (trio_of (rounds_of d k)).control
  control_stays k there = trio_stays k (trio_of (rounds_of d k)).control there (own-control (trio_of (rounds_of d k)))

  claim_stays : (v : ℕ) → v < 2 → word_of now (word_number d (Word.Claim v)) ≡ word_of chip (word_number d (Word.Claim v))
  claim_stays v few = stored_other chip word x 0 (word_number d (Word.Claim v)) (far (buffer_in c))
    where
      far : (n : ResultBuffer) → word_number d (Word.Claim v) ≢ result_word c.group n (i * c.samples + c.place)
      far ResultBuffer.Zero e = omega (arith, e, few)
      far ResultBuffer.One e = omega (arith, e, few)

  one_stays : (y : ReservedBy Call Reservation) (z : Reservation) → HeldRight d chip w s y z → HoldStays d chip now z
  one_stays y (Fills v k m n j q) r = bank_stays k n (on_there v (group_of d k) r.2)
  one_stays y (Full v k n) r = bank_stays k n (on_there v (group_of d k) r.2)
  one_stays y (Keeps v k m n j q) r = (λ f. sym (claim_stays v (unit_within d fits v k r.1)) ∙ f, λ f. claim_stays v (unit_within d fits v k r.1) ∙ f, kept_stays k (on_there v (group_of d k) r.1))
  one_stays y (Whole v k n) r = (λ f. sym (claim_stays v (unit_within d fits v k r.1)) ∙ f, kept_stays k (on_there v (group_of d k) r.1))
  one_stays y (Copies n k j q) r = (ap (λ m. m % 4) (control_stays k.group r.2), bank_stays k.group n r.2)
  one_stays y (Reads k n vs) r = (ap (λ m. m / 4) (control_stays k r.2), bank_stays k n r.2)
  one_stays y _ r = tt

  below_stay : (hs : Reservations) → AllRight d chip w s hs → AllStay d chip now hs
  below_stay [] r = tt
  below_stay (y ∷ ys) r = (one_stays y y.what r.0, below_stay ys r.1)

  -- ---- the places

  abbrev after : Reservations
  after = teller u b c (i + 1) None below

  was : CopiesRight d chip s b c i (Some x)
  was = h.right.0.3

  -- places are told by their words
  column_one : (g k p q : ℕ) (m n : ResultBuffer) → p < 2048 → q < 2048 → result_word g m p ≡ result_word k n q → (g ≡ k) × (m ≡ n) × (p ≡ q)
  column_one g k p q ResultBuffer.Zero ResultBuffer.One small less e = absurd (omega (arith, e, small, less))
  column_one g k p q ResultBuffer.One ResultBuffer.Zero small less e = absurd (omega (arith, e, small, less))
  column_one g k p q _ _ small less e = (omega (arith, e, small, less), refl, omega (arith, e, small, less))

  same_buffer : (m n : ResultBuffer) → is_same m n ≡ true → m ≡ n
  same_buffer ResultBuffer.Zero ResultBuffer.One e = absurd (cc)
  same_buffer ResultBuffer.One ResultBuffer.Zero e = absurd (cc)
  same_buffer _ _ e = refl

  -- a place that is owed no value any more, and isn't this one, was owed none before
  owed_before : (k : ℕ) (n : ResultBuffer) (p : ℕ) → (result_word k n p ≡ word → ⊥) → is_owed k n p (Copies b c (i + 1) None) ≡ false → is_owed k n p (Copies b c i (Some x)) ≡ false
  owed_before k n p ne free = free_before (c.group == k) refl (is_same (buffer_in c) n) refl (p % c.samples == c.place) refl (nat_le i (p / c.samples)) refl free
    where
      le : (x y : ℕ) → nat_le x y ≡ true → x ≤ y
      le x y f = grind (arith, nat_tests)

      past : (x y : ℕ) → nat_le x y ≡ false → x ≤ y → ⊥
      past x y f g = grind (arith, nat_tests)

      free_before : (q : Bool) → (c.group == k) ≡ q → (a : Bool) → is_same (buffer_in c) n ≡ a → (z : Bool) → (p % c.samples == c.place) ≡ z → (o : Bool) → nat_le i (p / c.samples) ≡ o → q && (a && (z && nat_le (i + 1) (p / c.samples))) ≡ false → q && (a && (z && o)) ≡ false
      free_before true e true f true g true j free = absurd (ne (
          let is = owed_place d fits c here samples within i p (eq_is (p % c.samples) c.place g) (le i (p / c.samples) j) (past (i + 1) (p / c.samples) free) in
          ap (λ m. result_word m n p) (sym (eq_is c.group k e)) ∙ (ap (λ m. result_word c.group m p) (sym (same_buffer (buffer_in c) n f)) ∙ ap (λ m. result_word c.group (buffer_in c) m) is)))
      free_before _ e _ f _ g _ j free = refl

  places_by : (k : ℕ) (n : ResultBuffer) (p : ℕ) → p < place_count d k → some_hold (is_owed k n p) after ≡ false → (result_word k n p ≡ word) ⊎ (result_word k n p ≢ word) → word_of now (result_word k n p) ≡ place_value s k n p
  places_by k n p less free (inl e) =
      let same = column_one k c.group p (i * c.samples + c.place) n (buffer_in c) (let few = places_few d fits k in omega (arith, few, less)) (let few = places_few d fits c.group in let lt = counted in omega (arith, few, lt)) e in
      ap (λ m. word_of now m) e ∙ (stored ∙ (was.next x refl ∙ sym (ap (λ m. place_value s m n p) same.0 ∙ (ap (λ m. place_value s c.group m p) same.1 ∙ ap (λ m. place_value s c.group (buffer_in c) m) same.2))))
  places_by k n p less free (inr ne) =
      let both = or_parts (is_owed k n p (Copies b c (i + 1) None)) (some_hold (is_owed k n p) below) free in
      stored_other chip word x 0 (result_word k n p) ne ∙ h.places k n p less (ap (λ q. q || some_hold (is_owed k n p) below) (owed_before k n p ne both.0) ∙ both.1)

  pub told_agrees : Agrees d (teller u b c (i + 1) None below) (chip_after chip (Store (result_word c.group (buffer_in c) (i * c.samples + c.place)) x) 0) w s
  told_agrees = stays_agree d fits (teller u b c i (Some x) below) chip now w s h on core after (record {
    right = (
      (
        h.right.0.0,
        on,
        here,
        record {
          newest = ap (λ m. m % 4) (control_stays c.group here) ∙ was.newest;
          values = λ j less le. bank_stays c.group b here j less ∙ was.values j less (omega (arith, le));
          next = λ n e. absurd (cc);
        },
      ),
      (h.right.1.0, all_stay d fits (teller u b c i (Some x) below) chip now w s h on core below (below_stay below h.right.1.1) h.right.1.1),
    );
    banks = λ k there. banks_stay chip now (h.banks k there) (λ j own. trio_stays k j there own) refl refl;
    places = λ k n p less free. places_by k n p less free (same_or_other (result_word k n p) word);
    backed = (λ n e. absurd (cc), h.backed.1);
    claimed = λ k there ne same. ne (claim_stays (unit_of (group_of d k)) (unit_small d fits k there) ∙ same);
    claims = λ v less. ap (λ n. claim_right (teller u b c i (Some x) below) v n) (claim_stays v less) ∙ (h.settled on).claims v less;
    promised = λ v. (let q = (h.settled on).promised v in record { starts = q.starts; yields = q.yields });
    kept = λ k there off j v is. kept_stays k there j (kept_within d w s h.sound k j v is);
  })

-- ---- Each step of a handler that copies a served round to the user's buffer, and the notice after the whole copy.

-- what a handler has done that copies a served round, by whether the group's notification is on
abbrev pub told : (unit group : ℕ) → Bool → FrameHistory
told u g true = owes_note (24 + u) g
told u g false = has_served (24 + u)

module _ (d : AdcTable) (fits : FitsAdc d) (f r : AdcBody → ℕ) (below : Reservations) (chip : Chip) (w : World) (s : AdcState) (m : ℕ → Bool) (y : ℕ) (u : ℕ) (b : Bank) (c : Column) where
  abbrev copying_at : ℕ → Option ℕ → Copying
  copying_at n v = record { what = copied.Bank (rounds_of d c.group) b c; done = n; value = v }

  abbrev body : ℕ → Option ℕ → Bool → AdcBody
  body i v on = record { table = d; place = Out (Outside.Copies (copying_at i v) (Tells u c.group on)) }

  abbrev StepRight : ℕ → Option ℕ → Bool → Type 0
  StepRight i v on = RightOr (AdcGround d) (adc_bodies d f r) below chip w s (body i v on) (Entered (24 + u)) y (told u c.group on) m (ended_at (adc_bodies d f r) body_ends (body i v on) (value_of chip (body_work (body i v on))))

  module _ (few : u < 2) (alone : IsAtUnit u below) (at : is_on u (group_of d c.group) ≡ true) (samples : c.samples ≡ samples_of (group_of d c.group)) (within : c.place < c.samples) (i : ℕ) (lt : i < length (inputs_of (group_of d c.group))) where
    may_copy : (on : Bool) → MayCopy d below (Tells u c.group on) (Entered (24 + u)) (told u c.group on)
    may_copy true = (Is_this_frame, alone, few, at)
    may_copy false = (Is_this_frame, alone, few, at)

    -- the next value
    pub gets_told : (on : Bool) → Agrees d (record { by = Entered (24 + u); what = Copies b c i None; acted = None } ∷ record { by = Entered (24 + u); what = Starts u; acted = None } ∷ below) chip w s → StepRight i None on
    gets_told true h = (tells_value d below chip w s u b c i None (Some (word_of chip (bank_word (rounds_of d c.group) b i))) (λ n e. (let same : word_of chip (bank_word (rounds_of d c.group) b i) ≡ n = cc in sym same ∙ h.right.0.3.values i lt (omega arith))) h, (refl, ((refl, refl, samples, within), lt, may_copy true)))
    gets_told false h = (tells_value d below chip w s u b c i None (Some (word_of chip (bank_word (rounds_of d c.group) b i))) (λ n e. (let same : word_of chip (bank_word (rounds_of d c.group) b i) ≡ n = cc in sym same ∙ h.right.0.3.values i lt (omega arith))) h, (refl, ((refl, refl, samples, within), lt, may_copy false)))

    -- it is stored
    module _ (x : ℕ) (h : Agrees d (teller u b c i (Some x) below) chip w s) where
      stands_now : Agrees d (teller u b c (i + 1) None below) (chip_after chip (Store (column_word c i) x) 0) w s
      stands_now = subst (λ k. Agrees d (teller u b c (i + 1) None below) (chip_after chip (Store k x) 0) w s) (sym (column_is d fits c h.right.0.2 samples within i)) (told_agrees d fits below chip w s u b c i x samples within h lt)

      abbrev next : Bool → Bool → AdcBody
      next on q = record { table = d; place = Out (copies_on (Tells u c.group on) (if q then Some (copying_at (i + 1) None) else None)) }

      abbrev Stands : Bool → Bool → Type 0
      Stands on q = AssertedAt (AdcGround d) (adc_bodies d f r) below (chip_after chip (Store (column_word c i) x) 0) w s (next on q) (Entered (24 + u)) (told u c.group on)

      all_told : nat_lt (i + 1) (length (inputs_of (group_of d c.group))) ≡ false → Agrees d (record { by = Entered (24 + u); what = Starts u; acted = None } ∷ below) (chip_after chip (Store (column_word c i) x) 0) w s
      all_told z = tells_all d below (chip_after chip (Store (column_word c i) x) 0) w s u b c fits samples within (subst (λ n. Agrees d (teller u b c n None below) (chip_after chip (Store (column_word c i) x) 0) w s) (let le = lt_isnt (i + 1) (length (inputs_of (group_of d c.group))) z in omega (arith, le, lt)) stands_now)

      stands_told : (on q : Bool) → nat_lt (i + 1) (length (inputs_of (group_of d c.group))) ≡ q → Stands on q
      stands_told true true z = (stands_now, (refl, ((refl, refl, samples, within), lt_is (i + 1) (length (inputs_of (group_of d c.group))) z, may_copy true)))
      stands_told false true z = (stands_now, (refl, ((refl, refl, samples, within), lt_is (i + 1) (length (inputs_of (group_of d c.group))) z, may_copy false)))
      stands_told true false z = (all_told z, (refl, (Is_this_frame, alone, few, at)))
      stands_told false false z = (all_told z, (refl, (Has_served (24 + u) (λ e. (refl, alone.1)) Is_this_frame, few)))

      pub puts_told : (on : Bool) → StepRight i (Some x) on
      puts_told true = stands_told true (nat_lt (i + 1) (length (inputs_of (group_of d c.group)))) refl
      puts_told false = stands_told false (nat_lt (i + 1) (length (inputs_of (group_of d c.group)))) refl

    pub tells_step : (v : Option ℕ) (on : Bool) → Agrees d (teller u b c i v below) chip w s → StepRight i v on
    tells_step None on h = gets_told on h
    tells_step (Some x) on h = puts_told x h on

-- ---- the notice

-- no other frame copies a round of a group of the unit
module _ (d : AdcTable) (fits : FitsAdc d) (chip : Chip) (w : World) (s : AdcState) (u g : ℕ) (at : is_on u (group_of d g) ≡ true) where
  not_owed : (x : ReservedBy Call Reservation) (z : Reservation) (n : ResultBuffer) (p : ℕ) → HeldRight d chip w s x z → x.by ≢ Entered (24 + u) → is_owed g n p z ≡ false
  not_owed x (Copies b c i v) n p right ne = whether_as (c.group == g) (λ q. q && (is_same (buffer_in c) n && (p % c.samples == c.place && nat_le i (p / c.samples))) ≡ false)
      (λ e. absurd (ne (right.0 ∙ ap (λ k. Entered (24 + k)) (ap (λ k. unit_of (group_of d k)) (eq_is c.group g e) ∙ unit_is d fits u (group_of d g) at))))
      (λ e. refl)
  not_owed x _ n p right ne = refl

  pub none_owed : (hs : Reservations) (n : ResultBuffer) (p : ℕ) → AllRight d chip w s hs → IsAlone (24 + u) hs → some_hold (is_owed g n p) hs ≡ false
  none_owed [] n p right alone = refl
  none_owed (x ∷ xs) n p right alone = or_from (is_owed g n p x.what) (some_hold (is_owed g n p) xs) (not_owed x x.what n p right.0 alone.0) (none_owed xs n p right.1 alone.1)

pub notes_step : (d : AdcTable) (fits : FitsAdc d) (f r : AdcBody → ℕ) (below : Reservations) (chip : Chip) (w : World) (s : AdcState) (m : ℕ → Bool) (y u g : ℕ) (o : Origin Call) (p : FrameHistory) → place_out d (Outside.Notes g u) below o p → Agrees d (with_holds o p.acted (Starts u ∷ []) below) chip w s
    → RightOr (AdcGround d) (adc_bodies d f r) below chip w s (record { table = d; place = Out (Outside.Notes g u) }) o y p m (ended_at (adc_bodies d f r) body_ends (record { table = d; place = Out (Outside.Notes g u) }) (value_of chip (body_work (record { table = d; place = Out (Outside.Notes g u) }))))
notes_step d fits f r below chip w s m y u g _ _ (Is_this_frame, alone, few, at) h = record {
  served = true;
  others = [];
  is = refl;
  shown = λ e n p lt. h.places g n p lt (none_owed d fits chip w s u g at below n p h.right.1 alone.0);
  next = (h, (refl, (Has_served (24 + u) (λ e. (refl, alone.1)) Is_this_frame, few)));
}

-- ---- Each step of a handler with the mask open: it copies to a bank, copies to the user's buffer, or gives its notice.

module _ (d : AdcTable) (fits : FitsAdc d) (f r : AdcBody → ℕ) (below : Reservations) (chip : Chip) (w : World) (s : AdcState) (m : ℕ → Bool) (y : ℕ) where
  abbrev copy_body : streams.Copied → ℕ → Option ℕ → Copied → AdcBody
  copy_body what i v a = record { table = d; place = Out (Outside.Copies (record { what = what; done = i; value = v }) a) }

  abbrev StepAt : streams.Copied → ℕ → Option ℕ → Copied → Origin Call → FrameHistory → Type 0
  StepAt what i v a o p = RightOr (AdcGround d) (adc_bodies d f r) below chip w s (copy_body what i v a) o y p m (ended_at (adc_bodies d f r) body_ends (copy_body what i v a) (value_of chip (body_work (copy_body what i v a))))

  abbrev StandsAt : streams.Copied → ℕ → Option ℕ → Copied → Origin Call → FrameHistory → Type 0
  StandsAt what i v a o p = AssertedAt (AdcGround d) (adc_bodies d f r) below chip w s (copy_body what i v a) o p

  -- a round is copied to its bank
  pub serves_step : (what : streams.Copied) (i : ℕ) (v : Option ℕ) (t : Taken) (o : Origin Call) (p : FrameHistory) → StandsAt what i v (Serves t) o p → StepAt what i v (Serves t) o p
  serves_step (copied.Round q u e b) i v t o p (h, (same, ((er, eu, eb, kept), less, (Is_this_frame, alone, few, at)))) =
      subst (λ z. StepAt (copied.Round z u e b) i v (Serves t) (Entered (24 + t.unit)) fresh_history) (sym er)
      (subst (λ z. StepAt (copied.Round (rounds_of d t.group) z e b) i v (Serves t) (Entered (24 + t.unit)) fresh_history) (sym eu)
      (subst (λ z. StepAt (copied.Round (rounds_of d t.group) t.unit e z) i v (Serves t) (Entered (24 + t.unit)) fresh_history) (sym eb)
      (fills_step d fits f r below chip w s m y t e i few alone kept (subst (λ (z : Rounds). i < z.inputs) er less) v h)))
  serves_step (copied.Bank q b c) i v t o p (h, (same, (none, less, may))) = absurd none
  serves_step (copied.Ended q u n e) i v t o p (h, (same, (none, less, may))) = absurd none

  -- a served round is copied to the user's buffer
  tells_of : (q : Rounds) (b : Bank) (c : Column) (i : ℕ) (v : Option ℕ) (u g : ℕ) (on : Bool) → q ≡ rounds_of d g → c.group ≡ g → c.samples ≡ samples_of (group_of d g) → c.place < c.samples → i < q.inputs → IsAtUnit u below → u < 2 → is_on u (group_of d g) ≡ true → Agrees d (teller u b c i v below) chip w s → StepAt (copied.Bank q b c) i v (Tells u g on) (Entered (24 + u)) (told u g on)
  tells_of q b c i v u g on er eg samples within less alone few at h =
      subst (λ z. StepAt (copied.Bank q b c) i v (Tells u z on) (Entered (24 + u)) (told u z on)) eg
      (subst (λ z. StepAt (copied.Bank z b c) i v (Tells u c.group on) (Entered (24 + u)) (told u c.group on)) (sym (er ∙ ap (λ z. rounds_of d z) (sym eg)))
      (tells_step d fits f r below chip w s m y u b c few alone (subst (λ z. is_on u (group_of d z) ≡ true) (sym eg) at) (samples ∙ ap (λ z. samples_of (group_of d z)) (sym eg)) within i (subst (λ z. i < length (inputs_of (group_of d z))) (sym eg) (subst (λ (z : Rounds). i < z.inputs) er less)) v on h))

  pub tells_step_any : (what : streams.Copied) (i : ℕ) (v : Option ℕ) (u g : ℕ) (on : Bool) (o : Origin Call) (p : FrameHistory) → StandsAt what i v (Tells u g on) o p → StepAt what i v (Tells u g on) o p
  tells_step_any (copied.Bank q b c) i v u g true o p (h, (same, ((er, eg, samples, within), less, (Is_this_frame, alone, few, at)))) = tells_of q b c i v u g true er eg samples within less alone few at h
  tells_step_any (copied.Bank q b c) i v u g false o p (h, (same, ((er, eg, samples, within), less, (Is_this_frame, alone, few, at)))) = tells_of q b c i v u g false er eg samples within less alone few at h
  tells_step_any (copied.Round q k e b) i v u g _ o p (h, (same, (none, less, may))) = absurd none
  tells_step_any (copied.Ended q k n e) i v u g _ o p (h, (same, (none, less, may))) = absurd none
