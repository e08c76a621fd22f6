-- A handler copies a finished round to its bank value by value, with the mask open: what words and registers agree with meanwhile.
-- From adc_groups: words.WordsChange, adc_groups: words.WordsOfModule, adc_groups: bookkeeping.FrameRule and 8 more.
-- Used by adc_driver: services.KeepCopySteps, services.ServeActRight, services.TellRight.
use Rattle.std.proofs.Common.{◌≡◌, ◌≢◌, ◌+◌, ◌-◌, ◌*◌, ◌/◌, ◌%◌, ◌<◌, ◌≤◌, ◌==◌, [], ◌∷◌, ◌++◌, ◌∙◌, ◌⊎◌}
use Rattle.std.proofs.Common.{if◌then◌else◌, length-drop}
use Rattle.adc_laws.specs.serving.Terms
use Terms.{adc_bodies, adc_machine, AdcBody, AdcGround, AdcState, AdcTable, Agrees, all_stay, AllRight, AllStay, ap}
use Terms.{arith, AssertedAt, Bank, bank_below, bank_number, bank_word, banks-apart, banks_stay, BanksAgree}
use Terms.{BankStays, body_ends, body_work, Bool, Call, cases, Chip, chip_after, claim_right, claimed_parts}
use Terms.{claims_on, control-apart, ConverterResult, Copies, copies_on, Copying, core_trio, CoreStays, ended_at}
use Terms.{ends_at, Entered, eq_is, eq_other, eq_self, false, filling, Fills, fills, FillsRight, finish_of}
use Terms.{first_held, FitsAdc, fresh_history, Full, FullRight, goes, group_of, HasValues, HasWords, HeldRight}
use Terms.{holds_anew, HoldStays, inl, inputs_left, inputs_of, inr, is_finished, is_on, is_round_of, is_some}
use Terms.{Is_this_frame, IsAlone, IsNext, IsRound, Keeps, kept_in, kept_round, kept_trio, kept_within, kept_word}
use Terms.{KeptStays, length, length_push, List, Load, lt_is, MakesTo, missed_after, Move, nat_le, nat_lt, nat_tests}
use Terms.{newest-in, None, on_there, Option, or_else, or_parts, Out, Outside, own-control, own-word, own_of, pin_of}
use Terms.{put_of, PutIn, PutStands, Putting, Read, Reads, refl, Reservation, Reservations, ReservedBy, result_of}
use Terms.{RightOr, Round, round_at, round_turn, RoundAgrees, rounds_of, same_or_other, sample_at, Serves, slice_get}
use Terms.{Some, some_hold, Stands, stands-agree, stays_agree, Store, stored, stored_other, stored_same, subst, suc}
use Terms.{sym, Taken, trio_claim, trio_of, trio_other, trio_result, trio_words, TripleBuffer, true, unit_is, unit_of}
use Terms.{unit_small, unit_within, value_of, value_within, values_of, Whole, whole_values, Word, word_at}
use Terms.{word_number, word_of, word_there, words-after, World, zero, ℕ}
use Rattle.adc_laws.specs.serving.laws.{services.ClaimRight.{claiming}, words.ControlWord.{open_put, trio_fits}}
use Rattle.chip_blocks.specs.converter.Converters as chips
use Rattle.word_shapes.specs.declared.streams.copying.Copied.TheVariants as copied
use Rattle.mcal_base.specs.facts.Numbers.{lt_isnt}

pub got : {A : Type 0} (xs : List A) (n : ℕ) → n < length xs → (x : A) × (slice_get xs n ≡ Some x)
got [] n lt = absurd (omega (arith, lt))
got (x ∷ xs) zero lt = (x, refl)
got (x ∷ xs) (suc n) lt = got xs n (omega (arith, lt))

-- what a claimed unit's handler holds, with whatever it has read and copied so far
abbrev pub filler : (unit group kept : ℕ) → Bank → (done : ℕ) → Option ℕ → Reservations → Reservations
filler u g e b i v below = claiming u (Fills u g e b i v) below

module _ (d : AdcTable) (below : Reservations) (chip : Chip) (w : World) (s : AdcState) (u g e : ℕ) (b : Bank) where
  -- one more value was read
  pub fills_value : (i : ℕ) (v x : Option ℕ) → ((r : Round) (n : ℕ) → round_at s u ≡ Some r → slice_get (values_of w (group_of d g) r) i ≡ Some n → IsNext x n) → Agrees d (filler u g e b i v below) chip w s → Agrees d (filler u g e b i x below) chip w s
  fills_value i v x next h = holds_anew h (record { puts = λ k. refl; takes = λ k. refl; owed = λ k n p lt free. free; claims = λ n v e. e; clears = λ e. e })
      ((h.right.0.0, h.right.0.1, h.right.0.2, (let q = h.right.0.3 in record { same = q.same; filled = q.filled; next = next })), h.right.1) (h.backed.0, h.backed.1) (λ n z. record { starts = z.starts; yields = z.yields })

  -- all are in the bank
  pub fills_full : Agrees d (filler u g e b (length (inputs_of (group_of d g))) None below) chip w s → Agrees d (claiming u (Full u g b) below) chip w s
  fills_full h = holds_anew h (record { puts = λ k. same k (k == g) refl; takes = λ k. refl; owed = λ k n p lt free. free; claims = λ n v e. e; clears = λ e. e })
      ((h.right.0.0, h.right.0.1, h.right.0.2, whole h.right.0.3), h.right.1) (h.backed.0, h.backed.1) (λ n z. record { starts = z.starts; yields = z.yields })
    where
      same : (k : ℕ) (q : Bool) → (k == g) ≡ q → or_else (if q then Some (bank_number b, length (inputs_of (group_of d g))) else None) (first_held (put_of d k) below) ≡ or_else (if q then Some (bank_number b, length (inputs_of (group_of d k))) else None) (first_held (put_of d k) below)
      same k true i = ap (λ m. or_else (Some (bank_number b, length (inputs_of (group_of d m)))) (first_held (put_of d k) below)) (sym (eq_is k g i))
      same k false i = refl

      whole : FillsRight d chip w s u g e b (length (inputs_of (group_of d g))) None → FullRight d chip w s u g b
      whole q = record {
        same = λ r is. (let z = q.same r is in (z.0, z.2));
        filled = λ r j v is at. q.filled r j v is (value_within w (group_of d g) r j v (subst (λ n. length r.request.kept < length (inputs_of (group_of d n))) (q.same r is).0 (h.sound.runs u r is).4.2) at) at;
      }

-- ---- the values of a round that a unit has

module _ (d : AdcTable) (fits : FitsAdc d) (below : Reservations) (chip : Chip) (w : World) (s : AdcState) (u g e : ℕ) (b : Bank) (i : ℕ) (v : Option ℕ) (h : Agrees d (filler u g e b i v below) chip w s) (few : u < 2) where
  on : s.initialised ≡ true
  on = h.right.0.1

  pub filler_at : is_on u (group_of d g) ≡ true
  filler_at = h.right.0.2

  pub filler_there : is_some (group_of d g) ≡ true
  filler_there = on_there u (group_of d g) h.right.0.2

  unit : unit_of (group_of d g) ≡ u
  unit = unit_is d fits u (group_of d g) h.right.0.2

  right : FillsRight d chip w s u g e b i v
  right = h.right.0.3

  parts : (word_of chip (word_number d (Word.Claim u)) ≡ 1) × (some_hold (claims_on u) below ≡ false)
  parts = claimed_parts u (word_of chip (word_number d (Word.Claim u))) below (claim_right below u (word_of chip (word_number d (Word.Claim u)))) ((h.settled on).claims u few)

  pub alone_claims : some_hold (claims_on u) below ≡ false
  alone_claims = parts.1

  module _ (r : Round) (n : ℕ) (is : round_at s u ≡ Some r) (at : slice_get (values_of w (group_of d g) r) i ≡ Some n) where
    same : (r.group ≡ g) × (length r.request.kept ≡ e) × (is_finished w (group_of d g) r ≡ true)
    same = right.same r is

    of_group : is_round_of g (round_at s u) ≡ true
    of_group = ap (λ q. is_round_of g q) is ∙ (ap (λ m. m == g) same.0 ∙ eq_self g)

    values : HasValues w (group_of d g) r (values_of w (group_of d g) r)
    values = whole_values w (group_of d g) r

    one : (m : ℕ) → slice_get (values_of w (group_of d g) r) i ≡ Some m → m ≡ n
    one m f = let both : Some m ≡ Some n = sym f ∙ at in cc

    kept_is : kept_in d s g ≡ r.request.kept
    kept_is = subst (λ m. kept_in d s m ≡ r.request.kept) same.0 (kept_round d fits w s h.sound u r is)

    unkept : word_of chip (word_number d (Word.Claim (unit_of (group_of d g)))) ≢ 2 + g
    unkept f = let one : word_of chip (word_number d (Word.Claim (unit_of (group_of d g)))) ≡ 1 = ap (λ m. word_of chip (word_number d (Word.Claim m))) unit ∙ parts.0 in omega (arith, f, one)

    -- one that was kept
    pub kept_value : i < e → word_of chip (kept_word (rounds_of d g) i) ≡ n
    kept_value lt =
        let count = same.1 in
        let x = got r.request.kept i (omega (arith, lt, count)) in
        ((h.settled on).groups g filler_there).values (round_turn s g u few of_group) unkept i x.0 (ap (λ xs. slice_get xs i) kept_is ∙ x.1)
        ∙ one x.0 (values.kept i x.0 x.1)

    -- and one that the unit has converted
    round : IsRound (group_of d g) chip.converters w (chips.unit_at chip.converters u) r
    round = subst (λ m. IsRound (group_of d m) chip.converters w (chips.unit_at chip.converters u) r) same.0 (subst (λ q. RoundAgrees d chip.converters w (chips.unit_at chip.converters u) q) is (h.rounds u few))

    all_ended : finish_of (group_of d g) r ≤ w.now
    all_ended = by (finish_of (group_of d g) r) w.now same.2
      where
        by : (x y : ℕ) → nat_le x y ≡ true → x ≤ y
        by x y f = grind (arith, nat_tests)

    pub result_value : i < length (inputs_of (group_of d g)) → e ≤ i → result_of chip u (i - e) ≡ n
    result_value lt le =
        let count = same.1 in
        let many = length-drop (length r.request.kept) (inputs_of (group_of d g)) in
        let x = got (inputs_left (group_of d g) r) (i - e) (omega (arith, lt, le, count, many)) in
        let ended = all_ended in
        let place : length r.request.kept + (i - e) ≡ i = omega (arith, count, le) in
        round.values (i - e) x.0 x.1 (omega (arith, lt, le, count, many, ended))
        ∙ one (sample_at w.samples x.0 (ends_at r (i - e))) (subst (λ m. slice_get (values_of w (group_of d g) r) m ≡ Some (sample_at w.samples x.0 (ends_at r (i - e)))) place (values.levels (i - e) x.0 x.1))

-- the pin of a control word
pinned_part : (n p : ℕ) → n < 3 → (n + 4 * p) / 4 ≡ p
pinned_part n p lt = omega (arith, lt)

-- ---- a value is stored in the bank

module _ (d : AdcTable) (fits : FitsAdc d) (below : Reservations) (chip : Chip) (w : World) (s : AdcState) (u g e : ℕ) (b : Bank) (i x : ℕ) (h : Agrees d (filler u g e b i (Some x) below) chip w s) (few : u < 2) (lt : i < length (inputs_of (group_of d g))) where
  abbrev trio : TripleBuffer
  trio = trio_of (rounds_of d g)

  abbrev word : ℕ
  word = bank_word (rounds_of d g) b i

  abbrev now : Chip
  now = chip_after chip (Store (bank_word (rounds_of d g) b i) x) 0

  whole : HasWords chip
  whole = h.outside.all.words

  there : is_some (group_of d g) ≡ true
  there = on_there u (group_of d g) h.right.0.2

  own : own_of trio (bank_word (rounds_of d g) b i) ≡ true
  own = own-word trio (bank_number b) i (bank_below d fits b) lt

  core : CoreStays d chip now
  core = core_trio d fits chip x whole g word there own

  kept_stays : (k : ℕ) → is_some (group_of d k) ≡ true → KeptStays d chip now k
  kept_stays = kept_trio d fits chip x whole g word there own

  b0 : BanksAgree d (filler u g e b i (Some x) below) (word_of chip) s g
  b0 = h.banks g there

  put : (p : Putting) × (b0.banks.put ≡ Some p) × (p.bank ≡ bank_number b) × (length p.filled ≡ i)
  put = open_put b0.banks.put (bank_number b) i (b0.put ∙ ap (λ q. or_else (if q then Some (bank_number b, i) else None) (first_held (put_of d g) below)) (eq_self g))

  opened : PutStands trio (word_of chip) b0.banks.bank b0.banks.take put.0
  opened = subst (λ q. PutIn trio (word_of chip) b0.banks.bank b0.banks.take q) put.1 b0.stands.put

  not_newest : bank_number b ≢ b0.banks.bank
  not_newest f = opened.old (put.2 ∙ f)

  not_pinned : pin_of b0.banks.take ≢ bank_number b + 1
  not_pinned f = opened.free (f ∙ ap (λ n. n + 1) (sym put.2))

  pin_is : word_of chip trio.control / 4 ≡ pin_of b0.banks.take
  pin_is = ap (λ n. n / 4) b0.stands.control ∙ pinned_part b0.banks.bank (pin_of b0.banks.take) b0.stands.below

  control_stays : word_of now trio.control ≡ word_of chip trio.control
  control_stays = stored_other chip word x 0 trio.control (control-apart trio (bank_number b) i (trio_fits d fits g there) (bank_below d fits b) lt)

  -- the words of another bank, and of another place of this one
  bank_other : (n : Bank) → bank_number n ≢ bank_number b → BankStays d chip now g n
  bank_other n ne j less = stored_other chip word x 0 (bank_word (rounds_of d g) n j) (banks-apart trio (bank_number n) (bank_number b) j i ne less lt)

  place_other : (j : ℕ) → j ≢ i → word_of now (bank_word (rounds_of d g) b j) ≡ word_of chip (bank_word (rounds_of d g) b j)
  place_other j ne = stored_other chip word x 0 (bank_word (rounds_of d g) b j) (λ f. ne (omega (arith, f)))

  bank_group : (k : ℕ) (n : Bank) → is_some (group_of d k) ≡ true → k ≢ g → BankStays d chip now k n
  bank_group k n here ne j less = trio_other d fits chip x whole g word there own k (bank_word (rounds_of d k) n j) here ne (own-word (trio_of (rounds_of d k)) (bank_number n) j (bank_below d fits n) less)

  -- ---- what is held below

  control_group : (k : ℕ) → is_some (group_of d k) ≡ true → word_of now (trio_of (rounds_of d k)).control ≡ word_of chip (trio_of (rounds_of d k)).control
  control_group k here = cases (same_or_other k g)
      (λ same. subst (λ n. word_of now (trio_of (rounds_of d n)).control ≡ word_of chip (trio_of (rounds_of d n)).control) (sym same) control_stays)
      (λ ne. trio_other d fits chip x whole g word there own k (trio_of (rounds_of d k)).control here ne (own-control (trio_of (rounds_of d k))))

  -- no other frame fills a bank of the group
  filled_stays : (v k : ℕ) (n : Bank) → is_on v (group_of d k) ≡ true → (u == v) ≡ false → BankStays d chip now k n
  filled_stays v k n on other = bank_group k n (on_there v (group_of d k) on) (λ same. not_here (sym (unit_is d fits v (group_of d k) on) ∙ (ap (λ m. unit_of (group_of d m)) same ∙ unit_is d fits u (group_of d g) h.right.0.2)))
    where
      not_here : v ≢ u
      not_here f = let on : (u == v) ≡ true = ap (λ m. u == m) f ∙ eq_self u in absurd (cc)

  one_stays : (y : ReservedBy Call Reservation) (z : Reservation) → HeldRight d chip w s y z → claims_on u z ≡ false → HoldStays d chip now z
  one_stays y (Fills v k m n j q) r free = filled_stays v k n r.2 free
  one_stays y (Full v k n) r free = filled_stays v k n r.2 free
  one_stays y (Keeps v k m n j q) r free = (λ f. sym (trio_claim d fits chip x whole g word there own v (unit_within d fits v k r.1)) ∙ f, λ f. trio_claim d fits chip x whole g word there own v (unit_within d fits v k r.1) ∙ f, kept_stays k (on_there v (group_of d k) r.1))
  one_stays y (Whole v k n) r free = (λ f. sym (trio_claim d fits chip x whole g word there own v (unit_within d fits v k r.1)) ∙ f, kept_stays k (on_there v (group_of d k) r.1))
  one_stays y (Copies n k j q) r free = (ap (λ m. m % 4) (control_group k.group r.2), by (same_or_other k.group g))
    where
      by : (k.group ≡ g) ⊎ (k.group ≢ g) → BankStays d chip now k.group n
      by (inl same) = subst (λ m. BankStays d chip now m n) (sym same) (bank_other n (λ f. not_newest (sym f ∙ (sym (subst (λ m. word_of chip (trio_of (rounds_of d m)).control % 4 ≡ bank_number n) same r.3.newest) ∙ newest-in trio (word_of chip) b0.banks b0.stands))))
      by (inr ne) = bank_group k.group n r.2 ne
  one_stays y (Reads k n vs) r free = (ap (λ m. m / 4) (control_group k r.2), by (same_or_other k g))
    where
      by : (k ≡ g) ⊎ (k ≢ g) → BankStays d chip now k n
      by (inl same) = subst (λ m. BankStays d chip now m n) (sym same) (bank_other n (λ f. not_pinned (sym pin_is ∙ (subst (λ m. word_of chip (trio_of (rounds_of d m)).control / 4 ≡ bank_number n + 1) same r.3.pinned ∙ ap (λ m. m + 1) f))))
      by (inr ne) = bank_group k n r.2 ne
  one_stays y _ r free = tt

  below_stay : (hs : Reservations) → AllRight d chip w s hs → some_hold (claims_on u) hs ≡ false → AllStay d chip now hs
  below_stay [] r free = tt
  below_stay (y ∷ ys) r free = let both = or_parts (claims_on u y.what) (some_hold (claims_on u) ys) free in (one_stays y y.what r.0 both.0, below_stay ys r.1 both.1)

  -- ---- the banks

  address : word_at trio put.0.bank (length put.0.filled) ≡ bank_word (rounds_of d g) b i
  address = ap (λ m. word_at trio m (length put.0.filled)) put.2 ∙ ap (λ n. word_at trio (bank_number b) n) put.3

  stands : Stands trio (word_of now) (filling x put.0 b0.banks)
  stands = stands-agree trio (stored (word_of chip) (bank_word (rounds_of d g) b i) x) (word_of now) (filling x put.0 b0.banks) (λ j mine. words-after (own_of trio) chip (Store (bank_word (rounds_of d g) b i) x) whole (λ k at. word_there d fits k (trio_words d fits g k there at)) own j)
      (subst (λ a. Stands trio (stored (word_of chip) a x) (filling x put.0 b0.banks)) address (fills trio (word_of chip) b0.banks put.0 x (trio_fits d fits g there) (let n = put.3 in omega (arith, n, lt)) put.1 b0.stands))

  abbrev after : Reservations
  after = filler u g e b (i + 1) None below

  agreed : BanksAgree d after (word_of now) s g
  agreed = record {
    banks = filling x put.0 b0.banks;
    stands = stands;
    newest = b0.newest;
    put = ap (λ m. Some (m, length (put.0.filled ++ x ∷ []))) put.2 ∙ (ap (λ n. Some (bank_number b, n)) (length_push put.0.filled x ∙ ap (λ n. n + 1) put.3) ∙ sym (ap (λ q. or_else (if q then Some (bank_number b, i + 1) else None) (first_held (put_of d g) below)) (eq_self g)));
    take = b0.take;
  }

  others : (k : ℕ) → is_some (group_of d k) ≡ true → k ≢ g → BanksAgree d after (word_of now) s k
  others k here ne = banks_stay chip now (h.banks k here) (λ j mine. trio_other d fits chip x whole g word there own k j here ne mine)
      (ap (λ z. or_else (if z then Some (bank_number b, i) else None) (first_held (put_of d k) below)) (eq_other k g ne) ∙ sym (ap (λ z. or_else (if z then Some (bank_number b, i + 1) else None) (first_held (put_of d k) below)) (eq_other k g ne)))
      refl

  -- ---- all of it

  was : FillsRight d chip w s u g e b i (Some x)
  was = h.right.0.3

  filled_by : (r : Round) (j n : ℕ) → round_at s u ≡ Some r → j < i + 1 → slice_get (values_of w (group_of d g) r) j ≡ Some n → (j ≡ i) ⊎ (j ≢ i) → word_of now (bank_word (rounds_of d g) b j) ≡ n
  filled_by r j n is less at (inl f) =
      subst (λ k. word_of now (bank_word (rounds_of d g) b k) ≡ n) (sym f)
      (stored_same chip word x 0 (word_there d fits word (trio_words d fits g word there own)) whole ∙ was.next r n is (subst (λ k. slice_get (values_of w (group_of d g) r) k ≡ Some n) f at))
  filled_by r j n is less at (inr ne) = place_other j ne ∙ was.filled r j n is (omega (arith, less, ne)) at

  pub filled_agrees : Agrees d (filler u g e b (i + 1) None below) (chip_after chip (Store (bank_word (rounds_of d g) b i) x) 0) w s
  filled_agrees = stays_agree d fits (filler u g e b i (Some x) below) chip now w s h h.right.0.1 core after (record {
    right = (
      (h.right.0.0, h.right.0.1, h.right.0.2, record { same = was.same; filled = λ r j n is less at. filled_by r j n is less at (same_or_other j i); next = λ r n is at. tt }),
      (h.right.1.0, all_stay d fits (filler u g e b i (Some x) below) chip now w s h h.right.0.1 core below (below_stay below h.right.1.1 (alone_claims d fits below chip w s u g e b i (Some x) h few)) h.right.1.1),
    );
    banks = λ k here. cases (same_or_other k g)
        (λ f. subst (λ n. BanksAgree d after (word_of now) s n) (sym f) agreed)
        (λ ne. others k here ne);
    places = λ k n p less free. trio_result d fits chip x whole g word there own k n p ∙ h.places k n p less free;
    backed = (h.backed.0, h.backed.1);
    claimed = λ k here ne same. ne (trio_claim d fits chip x whole g word there own (unit_of (group_of d k)) (unit_small d fits k here) ∙ same);
    claims = λ v less. ap (λ n. claim_right (filler u g e b i (Some x) below) v n) (trio_claim d fits chip x whole g word there own v less) ∙ (h.settled h.right.0.1).claims v less;
    promised = λ v. (let q = (h.settled h.right.0.1).promised v in record { starts = q.starts; yields = q.yields });
    kept = λ k here off j v is. kept_stays k here j (kept_within d w s h.sound k j v is);
  })

-- ---- Each step of a handler that copies a finished round to its bank, with the mask open.

module _ (d : AdcTable) (fits : FitsAdc d) (f r : AdcBody → ℕ) (below : Reservations) (chip : Chip) (w : World) (s : AdcState) (m : ℕ → Bool) (y : ℕ) (t : Taken) (e i : ℕ) where
  abbrev copying_at : ℕ → Option ℕ → Copying
  copying_at n v = record { what = copied.Round (rounds_of d t.group) t.unit e t.bank; done = n; value = v }

  abbrev body : Option ℕ → AdcBody
  body v = record { table = d; place = Out (Outside.Copies (copying_at i v) (Serves t)) }

  abbrev StepRight : Option ℕ → Type 0
  StepRight v = RightOr (AdcGround d) (adc_bodies d f r) below chip w s (body v) (Entered (24 + t.unit)) y fresh_history m (ended_at (adc_bodies d f r) body_ends (body v) (value_of chip (body_work (body v))))

  module _ (few : t.unit < 2) (alone : IsAlone (24 + t.unit) below) (kept : e < length (inputs_of (group_of d t.group))) (less : i < length (inputs_of (group_of d t.group))) where
    -- ---- the next value

    abbrev Gets : Move → Type 0
    Gets made = MakesTo (AdcGround d) (adc_bodies d f r) below chip (chip_after chip made y) w s (Entered (24 + t.unit)) made false (value_of chip made) y fresh_history (missed_after (adc_machine d) w s m) (body (Some (value_of chip made)), goes)

    module _ (h : Agrees d (filler t.unit t.group e t.bank i None below) chip w s) where
      at : is_on t.unit (group_of d t.group) ≡ true
      at = filler_at d fits below chip w s t.unit t.group e t.bank i None h few

      stands_got : (x : ℕ) → ((q : Round) (n : ℕ) → round_at s t.unit ≡ Some q → slice_get (values_of w (group_of d t.group) q) i ≡ Some n → IsNext (Some x) n) → AssertedAt (AdcGround d) (adc_bodies d f r) below chip w s (body (Some x)) (Entered (24 + t.unit)) fresh_history
      stands_got x next = (fills_value d below chip w s t.unit t.group e t.bank i None (Some x) next h, (refl, ((refl, refl, refl, kept), less, (Is_this_frame, alone, few, at))))

      gets_by : (q : Bool) → nat_lt i e ≡ q → Gets (if q then Load (kept_word (rounds_of d t.group) i) else Read (ConverterResult t.unit (i - e)))
      gets_by true z = stands_got (word_of chip (kept_word (rounds_of d t.group) i)) (λ q n is at. kept_value d fits below chip w s t.unit t.group e t.bank i None h few q n is at (lt_is i e z))
      gets_by false z = stands_got (result_of chip t.unit (i - e)) (λ q n is at. result_value d fits below chip w s t.unit t.group e t.bank i None h few q n is at less (lt_isnt i e z))

      pub gets_right : StepRight None
      gets_right = gets_by (nat_lt i e) refl

    -- ---- it is stored

    module _ (x : ℕ) (h : Agrees d (filler t.unit t.group e t.bank i (Some x) below) chip w s) where
      unit_on : is_on t.unit (group_of d t.group) ≡ true
      unit_on = filler_at d fits below chip w s t.unit t.group e t.bank i (Some x) h few

      filled : Agrees d (filler t.unit t.group e t.bank (i + 1) None below) (chip_after chip (Store (bank_word (rounds_of d t.group) t.bank i) x) 0) w s
      filled = filled_agrees d fits below chip w s t.unit t.group e t.bank i x h few less

      abbrev next : Bool → AdcBody
      next q = record { table = d; place = Out (copies_on (Serves t) (if q then Some (copying_at (i + 1) None) else None)) }

      stands_put : (q : Bool) → nat_lt (i + 1) (length (inputs_of (group_of d t.group))) ≡ q → AssertedAt (AdcGround d) (adc_bodies d f r) below (chip_after chip (Store (bank_word (rounds_of d t.group) t.bank i) x) 0) w s (next q) (Entered (24 + t.unit)) fresh_history
      stands_put true z = (filled, (refl, ((refl, refl, refl, kept), lt_is (i + 1) (length (inputs_of (group_of d t.group))) z, (Is_this_frame, alone, few, unit_on))))
      stands_put false z = (fills_full d below (chip_after chip (Store (bank_word (rounds_of d t.group) t.bank i) x) 0) w s t.unit t.group e t.bank (subst (λ n. Agrees d (filler t.unit t.group e t.bank n None below) (chip_after chip (Store (bank_word (rounds_of d t.group) t.bank i) x) 0) w s) (let le = lt_isnt (i + 1) (length (inputs_of (group_of d t.group))) z in omega (arith, le, less)) filled), (refl, (Is_this_frame, alone, few, unit_on)))

      pub puts_right : StepRight (Some x)
      puts_right = stands_put (nat_lt (i + 1) (length (inputs_of (group_of d t.group)))) refl

    pub fills_step : (v : Option ℕ) → Agrees d (filler t.unit t.group e t.bank i v below) chip w s → StepRight v
    fills_step None h = gets_right h
    fills_step (Some x) h = puts_right x h
