-- The control word of a group's banks is stored: the newest bank is pinned, or a pin ends.
-- From adc_groups: words.WordsChange, adc_groups: words.WordsOfModule, service_outline: Words and 5 more.
-- Used by services.PinRight, services.CopyRight, services.ReadRight, words.CommittedWords, services.ClaimRight.
use Rattle.std.proofs.Common.{◌≡◌, ◌≢◌, ◌+◌, ◌*◌, ◌/◌, ◌%◌, ◌<◌, ◌==◌, [], ◌∷◌, ◌∙◌, if◌then◌else◌}
use Rattle.adc_laws.specs.serving.Terms
use Terms.{AdcState, AdcTable, Agrees, all_stay, AllRight, AllStay, ap, arith, Bank, bank_below, bank_number, bank_of}
use Terms.{bank_word, Banks, banks_stay, BanksAgree, BankStays, Bool, Call, Called, cases, Chip, chip_after}
use Terms.{claim_right, control-apart, Copies, core_trio, CoreStays, EOk, eq_other, eq_self, false, Fills, first_held}
use Terms.{Fits, FitsAdc, Full, group_of, HasWords, HeldRight, HoldStays, inputs_of, is_some, IsBank, Keeps}
use Terms.{kept_trio, kept_within, KeptStays, length, List, listed, named_with, nat_tests, newest-in, None, on_there}
use Terms.{Option, option_map, or_else, own-control, own-word, own_of, pinning, pins, put_of, Putting, ReadGroup}
use Terms.{Reads, refl, releases, releasing, Reservation, Reservations, ReservedBy, result_word, ResultBuffer}
use Terms.{rounds_of, same_or_other, Some, Stands, stands-agree, start_from, stays_agree, Store, stored, stored_other}
use Terms.{stored_same, subst, sym, take_of, Taking, trio_claim, trio_of, trio_other, trio_result, trio_words}
use Terms.{TripleBuffer, true, unit_of, unit_small, unit_within, Whole, Word, word_at, word_number, word_of}
use Terms.{word_there, words-after, World, ℕ}

-- the first that is held gives nothing where none does
pub none_first : {T : Type 0} (x y : Option T) → or_else x y ≡ None → (x ≡ None) × (y ≡ None)
none_first None y e = (refl, e)
none_first (Some x) y e = absurd (cc)

pub number_of_bank : (n : ℕ) → n < 3 → bank_number (bank_of n) ≡ n
number_of_bank n lt = by (n == 0) refl (n == 1) refl
  where
    by : (p : Bool) → (n == 0) ≡ p → (q : Bool) → (n == 1) ≡ q → bank_number (bank_of n) ≡ n
    by true e q f = let is : 0 ≡ n = grind (arith, nat_tests) in subst (λ k. bank_number (bank_of k) ≡ k) is refl
    by false e true f = let is : 1 ≡ n = grind (arith, nat_tests) in subst (λ k. bank_number (bank_of k) ≡ k) is refl
    by false e false f = let is : 2 ≡ n = grind (arith, nat_tests) in subst (λ k. bank_number (bank_of k) ≡ k) is refl

-- the put that is open, where it has this bank and so many values
abbrev pub put_parts : Putting → ℕ × ℕ
put_parts p = (p.bank, length p.filled)

pub open_put : (q : Option Putting) (m n : ℕ) → option_map put_parts q ≡ Some (m, n) → (p : Putting) × (q ≡ Some p) × (p.bank ≡ m) × (length p.filled ≡ n)
open_put None m n e = absurd (cc)
open_put (Some p) m n e = let same : put_parts p ≡ (m, n) = cc in (p, refl, ap (λ z. z.0) same, ap (λ z. z.1) same)

-- the list of the newest bank, by the words
pub newest_listed : (t : TripleBuffer) (m : ℕ → ℕ) (b : Banks) → Stands t m b → b.newest ≡ listed m (word_at t (m t.control % 4) 0) t.len
newest_listed t m b h = sym h.newest.1 ∙ (ap (λ n. listed m (word_at t b.bank 0) n) h.newest.0 ∙ ap (λ z. listed m (word_at t z 0) t.len) (sym (newest-in t m b h)))

module _ (d : AdcTable) (fits : FitsAdc d) (g : ℕ) (there : is_some (group_of d g) ≡ true) where
  pub trio_fits : Fits (trio_of (rounds_of d g))
  trio_fits =
      let high = (start_from d fits g there).1 in record {
        banks = omega (arith, high);
        control = omega (arith, high);
        apart = λ k lt e. omega (arith, e);
      }

  -- ---- a store of the control word

  module _ (c : Chip) (whole : HasWords c) (value : ℕ) where
    abbrev now : Chip
    now = chip_after c (Store (trio_of (rounds_of d g)).control value) 0

    pub control_now : word_of (chip_after c (Store (trio_of (rounds_of d g)).control value) 0) (trio_of (rounds_of d g)).control ≡ value
    control_now = stored_same c (trio_of (rounds_of d g)).control value 0 trio_fits.control whole

    -- words of other groups' banks stay
    pub other_trio : (k j : ℕ) → is_some (group_of d k) ≡ true → k ≢ g → own_of (trio_of (rounds_of d k)) j ≡ true → word_of now j ≡ word_of c j
    other_trio k j here ne own = trio_other d fits c value whole g (trio_of (rounds_of d g)).control there (own-control (trio_of (rounds_of d g))) k j here ne own

    pub bank_stays : (k : ℕ) (n : Bank) → is_some (group_of d k) ≡ true → BankStays d c now k n
    bank_stays k n here j less = cases (same_or_other k g)
        (λ same. subst (λ z. word_of now (bank_word (rounds_of d z) n j) ≡ word_of c (bank_word (rounds_of d z) n j)) (sym same)
        (stored_other c (trio_of (rounds_of d g)).control value 0 (bank_word (rounds_of d g) n j) (λ e. control-apart (trio_of (rounds_of d g)) (bank_number n) j trio_fits (bank_below d fits n) (subst (λ z. j < length (inputs_of (group_of d z))) same less) (sym e))))
        (λ ne. other_trio k (bank_word (rounds_of d k) n j) here ne (own-word (trio_of (rounds_of d k)) (bank_number n) j (bank_below d fits n) less))

    claim_stays : (u : ℕ) → u < 2 → word_of now (word_number d (Word.Claim u)) ≡ word_of c (word_number d (Word.Claim u))
    claim_stays u few = trio_claim d fits c value whole g (trio_of (rounds_of d g)).control there (own-control (trio_of (rounds_of d g))) u few

    kept_stays : (k : ℕ) → is_some (group_of d k) ≡ true → KeptStays d c now k
    kept_stays = kept_trio d fits c value whole g (trio_of (rounds_of d g)).control there (own-control (trio_of (rounds_of d g)))

    place_stays : (k : ℕ) (n : ResultBuffer) (p : ℕ) → word_of now (result_word k n p) ≡ word_of c (result_word k n p)
    place_stays k n p = trio_result d fits c value whole g (trio_of (rounds_of d g)).control there (own-control (trio_of (rounds_of d g))) k n p

    -- what the words stand for
    pub stands_now : (b : Banks) → Stands (trio_of (rounds_of d g)) (stored (word_of c) (trio_of (rounds_of d g)).control value) b → Stands (trio_of (rounds_of d g)) (word_of now) b
    stands_now b h = stands-agree (trio_of (rounds_of d g)) (stored (word_of c) (trio_of (rounds_of d g)).control value) (word_of now) b (λ j own. words-after (own_of (trio_of (rounds_of d g))) c (Store (trio_of (rounds_of d g)).control value) whole (λ k mine. word_there d fits k (trio_words d fits g k there mine)) (own-control (trio_of (rounds_of d g))) j) h

    -- ---- what is held below, of which nothing reads the group's bank

    module _ (low : value % 4 ≡ word_of c (trio_of (rounds_of d g)).control % 4) where
      control_low : (k : ℕ) → is_some (group_of d k) ≡ true → word_of now (trio_of (rounds_of d k)).control % 4 ≡ word_of c (trio_of (rounds_of d k)).control % 4
      control_low k here = cases (same_or_other k g)
          (λ same. subst (λ z. word_of now (trio_of (rounds_of d z)).control % 4 ≡ word_of c (trio_of (rounds_of d z)).control % 4) (sym same) (ap (λ n. n % 4) control_now ∙ low))
          (λ ne. ap (λ n. n % 4) (other_trio k (trio_of (rounds_of d k)).control here ne (own-control (trio_of (rounds_of d k)))))

      one_stays : (w : World) (s : AdcState) (x : ReservedBy Call Reservation) (z : Reservation) → HeldRight d c w s x z → take_of g z ≡ None → HoldStays d c now z
      one_stays w s x (Fills u k e n i y) r none = bank_stays k n (on_there u (group_of d k) r.2)
      one_stays w s x (Full u k n) r none = bank_stays k n (on_there u (group_of d k) r.2)
      one_stays w s x (Keeps u k e n i y) r none = (λ e. sym (claim_stays u (unit_within d fits u k r.1)) ∙ e, λ e. claim_stays u (unit_within d fits u k r.1) ∙ e, kept_stays k (on_there u (group_of d k) r.1))
      one_stays w s x (Whole u k n) r none = (λ e. sym (claim_stays u (unit_within d fits u k r.1)) ∙ e, kept_stays k (on_there u (group_of d k) r.1))
      one_stays w s x (Copies n k i y) r none = (control_low k.group r.2, bank_stays k.group n r.2)
      one_stays w s x (Reads k n vs) r none = (ap (λ v. v / 4) (other_trio k (trio_of (rounds_of d k)).control r.2 (λ e. other (g == k) refl none (sym e)) (own-control (trio_of (rounds_of d k)))), bank_stays k n r.2)
        where
          other : (q : Bool) → (g == k) ≡ q → (if q then Some (bank_number n) else None) ≡ None → g ≢ k
          other true e f i = absurd (cc)
          other false e f i = absurd (let on : (g == k) ≡ true = ap (λ z. g == z) (sym i) ∙ eq_self g in cc)
      one_stays w s x _ r none = tt

      pub control_stays : (w : World) (s : AdcState) (hs : Reservations) → AllRight d c w s hs → first_held (take_of g) hs ≡ None → AllStay d c now hs
      control_stays w s [] r none = tt
      control_stays w s (x ∷ xs) r none = let both = none_first (take_of g x.what) (first_held (take_of g) xs) none in (one_stays w s x x.what r.0 both.0, control_stays w s xs r.1 both.1)

      pub others_agree : (before after : Reservations) (s : AdcState) (k : ℕ) → is_some (group_of d k) ≡ true → k ≢ g → (q : BanksAgree d before (word_of c) s k) → first_held (put_of d k) after ≡ first_held (put_of d k) before → first_held (take_of k) after ≡ first_held (take_of k) before → BanksAgree d after (word_of now) s k
      others_agree before after s k here ne q put taken = banks_stay c now q (λ j own. other_trio k j here ne own) (sym put) (sym taken)

none_mapped : {A B : Type 0} (f : A → B) (q : Option A) → option_map f q ≡ None → q ≡ None
none_mapped f None e = refl
none_mapped f (Some x) e = absurd (cc)

-- a frame that reads this bank of a group, of which it has read these, and which has answered all
abbrev pub reader : (group : ℕ) → Bank → (values whole : List ℕ) → ReservedBy Call Reservation
reader g b vs whole = record { by = Called (Call.Group g ReadGroup); what = Reads g b vs; acted = Some (named_with EOk whole) }

taken_other : (g k : ℕ) (b : Bank) (vs whole : List ℕ) (below : Reservations) → k ≢ g → first_held (take_of k) (reader g b vs whole ∷ below) ≡ first_held (take_of k) below
taken_other g k b vs whole below ne = ap (λ q. or_else (if q then Some (bank_number b) else None) (first_held (take_of k) below)) (eq_other k g ne)

taken_here : (g : ℕ) (b : Bank) (vs whole : List ℕ) (below : Reservations) → first_held (take_of g) (reader g b vs whole ∷ below) ≡ Some (bank_number b)
taken_here g b vs whole below = ap (λ q. or_else (if q then Some (bank_number b) else None) (first_held (take_of g) below)) (eq_self g)

quarter : (n : ℕ) → n < 4 → (n + 4 * (n + 1)) / 4 ≡ n + 1
quarter n lt = omega (arith, lt)

rest_of : (n : ℕ) → n < 4 → (n + 4 * (n + 1)) % 4 ≡ n
rest_of n lt = omega (arith, lt)

module _ (d : AdcTable) (fits : FitsAdc d) (g : ℕ) (there : is_some (group_of d g) ≡ true) (c : Chip) (w : World) (s : AdcState) (below : Reservations) (on : s.initialised ≡ true) (alone : first_held (take_of g) below ≡ None) where
  abbrev at : TripleBuffer
  at = trio_of (rounds_of d g)

  abbrev v : ℕ
  v = word_of c (trio_of (rounds_of d g)).control

  -- ---- the newest bank is pinned

  module _ (h : Agrees d below c w s) (whole : List ℕ) (is_whole : (b : Banks) → Stands (trio_of (rounds_of d g)) (word_of c) b → b.newest ≡ whole) where
    abbrev value : ℕ
    value = v % 4 + 4 * (v % 4 + 1)

    abbrev pinned : Chip
    pinned = chip_after c (Store (trio_of (rounds_of d g)).control value) 0

    abbrev held : Reservations
    held = reader g (bank_of (v % 4)) [] whole ∷ below

    b0 : BanksAgree d below (word_of c) s g
    b0 = h.banks g there

    is : v % 4 ≡ b0.banks.bank
    is = newest-in at (word_of c) b0.banks b0.stands

    three : v % 4 < 3
    three = subst (λ n. n < 3) (sym is) b0.stands.below

    low : value % 4 ≡ v % 4
    low = let lt = three in rest_of (v % 4) (omega (arith, lt))

    number : bank_number (bank_of (v % 4)) ≡ v % 4
    number = number_of_bank (v % 4) three

    stands : Stands at (word_of pinned) (pinning b0.banks)
    stands = stands_now d fits g there c h.outside.all.words value (pinning b0.banks) (pins at (word_of c) b0.banks (trio_fits d fits g there) (none_mapped (λ (x : Taking). x.bank) b0.banks.take (b0.take ∙ alone)) b0.stands)

    agreed : BanksAgree d held (word_of pinned) s g
    agreed = record {
      banks = pinning b0.banks;
      stands = stands;
      newest = b0.newest;
      put = b0.put;
      take = ap (λ n. Some n) (sym is ∙ sym number) ∙ sym (taken_here g (bank_of (v % 4)) [] whole below);
    }

    core : CoreStays d c pinned
    core = core_trio d fits c value h.outside.all.words g (trio_of (rounds_of d g)).control there (own-control at)

    pub pin_agrees : Agrees d held pinned w s
    pin_agrees = stays_agree d fits below c pinned w s h on core held (record {
      right = (
        (
          refl,
          on,
          there,
          record {
            whole = whole;
            answered = refl;
            pinned = ap (λ n. n / 4) (control_now d fits g there c h.outside.all.words value) ∙ ((let lt = three in quarter (v % 4) (omega (arith, lt))) ∙ ap (λ n. n + 1) (sym number));
            bank = subst (λ n. IsBank at (word_of pinned) n whole) (sym is ∙ sym number) (subst (λ xs. IsBank at (word_of pinned) b0.banks.bank xs) (is_whole b0.banks b0.stands) stands.newest);
            front = refl;
          },
        ),
        all_stay d fits below c pinned w s h on core below (control_stays d fits g there c h.outside.all.words value low w s below h.right alone) h.right,
      );
      banks = λ k here. cases (same_or_other k g)
          (λ e. subst (λ n. BanksAgree d held (word_of pinned) s n) (sym e) agreed)
          (λ ne. others_agree d fits g there c h.outside.all.words value low below held s k here ne (h.banks k here) refl (taken_other g k (bank_of (v % 4)) [] whole below ne));
      places = λ k n p lt free. place_stays d fits g there c h.outside.all.words value k n p ∙ h.places k n p lt free;
      backed = (λ u e. absurd (cc), h.backed);
      claimed = λ k here ne same. ne (claim_stays d fits g there c h.outside.all.words value (unit_of (group_of d k)) (unit_small d fits k here) ∙ same);
      claims = λ u few. ap (λ x. claim_right below u x) (claim_stays d fits g there c h.outside.all.words value u few) ∙ (h.settled on).claims u few;
      promised = λ u. (let q = (h.settled on).promised u in record { starts = q.starts; yields = q.yields });
      kept = λ k here off j x is. kept_stays d fits g there c h.outside.all.words value k here j (kept_within d w s h.sound k j x is);
    })

  -- ---- the pin ends

  module _ (b : Bank) (vs whole : List ℕ) (h : Agrees d (reader g b vs whole ∷ below) c w s) where
    abbrev freed : Chip
    freed = chip_after c (Store (trio_of (rounds_of d g)).control (v % 4)) 0

    b1 : BanksAgree d (reader g b vs whole ∷ below) (word_of c) s g
    b1 = h.banks g there

    low_freed : v % 4 % 4 ≡ v % 4
    low_freed = omega arith

    core_freed : CoreStays d c freed
    core_freed = core_trio d fits c (v % 4) h.outside.all.words g (trio_of (rounds_of d g)).control there (own-control at)

    agreed_freed : BanksAgree d below (word_of freed) s g
    agreed_freed = record {
      banks = releasing b1.banks;
      stands = stands_now d fits g there c h.outside.all.words (v % 4) (releasing b1.banks) (releases at (word_of c) b1.banks (trio_fits d fits g there) b1.stands);
      newest = b1.newest;
      put = b1.put;
      take = sym alone;
    }

    pub release_agrees : Agrees d below freed w s
    release_agrees = stays_agree d fits (reader g b vs whole ∷ below) c freed w s h on core_freed below (record {
      right = all_stay d fits (reader g b vs whole ∷ below) c freed w s h on core_freed below (control_stays d fits g there c h.outside.all.words (v % 4) low_freed w s below h.right.1 alone) h.right.1;
      banks = λ k here. cases (same_or_other k g)
          (λ e. subst (λ n. BanksAgree d below (word_of freed) s n) (sym e) agreed_freed)
          (λ ne. others_agree d fits g there c h.outside.all.words (v % 4) low_freed (reader g b vs whole ∷ below) below s k here ne (h.banks k here) refl (sym (taken_other g k b vs whole below ne)));
      places = λ k n p lt free. place_stays d fits g there c h.outside.all.words (v % 4) k n p ∙ h.places k n p lt free;
      backed = h.backed.1;
      claimed = λ k here ne same. ne (claim_stays d fits g there c h.outside.all.words (v % 4) (unit_of (group_of d k)) (unit_small d fits k here) ∙ same);
      claims = λ u few. ap (λ x. claim_right below u x) (claim_stays d fits g there c h.outside.all.words (v % 4) u few) ∙ (h.settled on).claims u few;
      promised = λ u. (let q = (h.settled on).promised u in record { starts = q.starts; yields = q.yields });
      kept = λ k here off j x is. kept_stays d fits g there c h.outside.all.words (v % 4) k here j (kept_within d w s h.sound k j x is);
    })
