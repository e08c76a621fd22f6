-- Words of one group change: those of the others stand elsewhere, and all that frames hold stays right.
-- From hardware.StableUnderHardware, words.StoreOneWord, words.StructureParts, words.WordsOfModule and 2 more.
-- Used by bookkeeping.FrameRule, adc_laws: serving.services.CopyRight, adc_laws: serving.words.ControlWord and 4 more.
use Rattle.std.proofs.Common.{◌≡◌, ◌≢◌, ◌+◌, ◌-◌, ◌*◌, ◌/◌, ◌%◌, ◌<◌, ◌≤◌, ◌&&◌, ◌||◌, ◌==◌, [], ◌∷◌, ◌∙◌}
use Rattle.std.proofs.Common.{if◌then◌else◌}
use Rattle.adc_groups.specs.Terms
use Terms.{AdcState, AdcTable, Agrees, AllRight, ap, arith, Backed, Bank, bank_number, bank_word, BanksAgree, Bool}
use Terms.{Call, cases, cases_lt, Chip, chip_after, claim_right, claims_on, Clears, Converters, Copies, end_of, eq_is}
use Terms.{eq_other, eq_self, false, Fills, FitsAdc, Full, Group, group_of, group_word, GroupAgrees, has_bit, HasWords}
use Terms.{HeldRight, holds-agree, inl, inputs_of, inr, is_on, is_round_of, is_some, IsBlock, Keeps, KeepsRight}
use Terms.{kept_in, kept_of_round, kept_word, length, length-set, nat_le, nat_lt, nat_tests, None, none_some, Option}
use Terms.{or_parts, order_of, order_own, own-control, own-word, own_of, PlacesAgree, Promised, Reads, refl}
use Terms.{Reservation, Reservations, ReservedBy, result_word, ResultBuffer, Round, round_at, RoundAgrees, rounds_of}
use Terms.{same_or_other, slice_get, Some, some_hold, start_of, STATE, Store, stored_other, stored_same, subst, suc}
use Terms.{sym, TriggersAgree, trio_of, true, unit_of, UnitAgrees, whether_as, Whole, WholeRight, Word, word_number}
use Terms.{word_of, World, ℕ}
use Rattle.adc_groups.specs.laws.hardware.StableUnderHardware.{few_values, kept_within, listed_agree}
use Rattle.adc_groups.specs.laws.words.StoreOneWord.{place_apart, start_from, trio_apart}
use Rattle.adc_groups.specs.laws.words.StructureParts.{order_within, stands_words, word_there}
use Rattle.adc_groups.specs.laws.words.WordsOfModule.{bank_below, claim_words, on_there}
use Rattle.chip_blocks.specs.converter.Converters as chips
use Rattle.chip_blocks.specs.converter.Rounds as rounds

-- ---- rounds of other groups

-- of a unit's round that isn't this group's both see the same
pub record SameRound (g : ℕ) (q p : Option Round) : Type 0 where
  pub from : (x : Round) → q ≡ Some x → x.group ≢ g → p ≡ Some x
  pub to : (x : Round) → p ≡ Some x → x.group ≢ g → q ≡ Some x

-- what is seen of a round of a group
abbrev pub look : {A : Type 0} → A → (Round → A) → ℕ → Option Round → A
look e f k None = e
look e f k (Some x) = if x.group == k then f x else e

pub look_same : {A : Type 0} (e : A) (f : Round → A) (g k : ℕ) (q p : Option Round) → k ≢ g → SameRound g q p → look e f k q ≡ look e f k p
look_same e f g k None None ne h = refl
look_same e f g k None (Some y) ne h = whether_as (y.group == k) (λ b. e ≡ (if b then f y else e))
    (λ i. let at : y.group ≡ k = grind (arith, nat_tests) in none_some (h.to y refl (λ z. ne (sym at ∙ z))))
    (λ i. refl)
look_same e f g k (Some x) None ne h = whether_as (x.group == k) (λ b. (if b then f x else e) ≡ e)
    (λ i. let at : x.group ≡ k = grind (arith, nat_tests) in none_some (h.from x refl (λ z. ne (sym at ∙ z))))
    (λ i. refl)
look_same e f g k (Some x) (Some y) ne h = found_same (x.group == k) refl (y.group == k) refl
  where
    found_same : (b : Bool) → (x.group == k) ≡ b → (c : Bool) → (y.group == k) ≡ c → (if b then f x else e) ≡ (if c then f y else e)
    found_same true i true j = let at : x.group ≡ k = grind (arith, nat_tests) in let same : y ≡ x = (let z = h.from x refl (λ z. ne (sym at ∙ z)) in cc) in ap f (sym same)
    found_same true i false j = let at : x.group ≡ k = grind (arith, nat_tests) in let same : y ≡ x = (let z = h.from x refl (λ z. ne (sym at ∙ z)) in cc) in absurd (let c : (x.group == k) ≡ false = ap (λ (r : Round). r.group == k) (sym same) ∙ j in cc)
    found_same false i true j = let at : y.group ≡ k = grind (arith, nat_tests) in let same : x ≡ y = (let z = h.to y refl (λ z. ne (sym at ∙ z)) in cc) in absurd (let c : (y.group == k) ≡ false = ap (λ (r : Round). r.group == k) (sym same) ∙ i in cc)
    found_same false i false j = refl

pub turn_look : (k : ℕ) (q : Option Round) → is_round_of k q ≡ look false (λ x. true) k q
turn_look k None = refl
turn_look k (Some x) = elim (x.group == k) as (λ b. b ≡ (if b then true else false)) [ true ↦ refl | false ↦ refl ]

pub kept_look : (k : ℕ) (q : Option Round) → kept_of_round k q ≡ look [] (λ x. x.request.kept) k q
kept_look k None = refl
kept_look k (Some x) = refl

-- ---- numbers

pub in_banks : (control first len k : ℕ) → (k == control) ≡ false → k == control || (nat_le first k && nat_lt k (first + len)) ≡ true → first ≤ k
in_banks control first len k off e = grind (arith, nat_tests)

pub below_banks : (control first len k : ℕ) → (k == control) ≡ false → k == control || (nat_le first k && nat_lt k (first + len)) ≡ true → k < first + len
below_banks control first len k off e = grind (arith, nat_tests)

-- ---- numbers of words: `s` is a group's first word behind STATE

pub past_unit : (s j u i : ℕ) → 64 ≤ s → u < 2 → i < 5 → STATE + s + j ≡ STATE + 8 + 8 * u + i → ⊥
past_unit s j u i low most lt e = omega (arith, low, most, lt, e)

pub past_state : (s j : ℕ) → 64 ≤ s → STATE ≡ STATE + s + j → ⊥
past_state s j low e = omega (arith, low, e)

pub past_eight : (s i j : ℕ) → i < 8 → 8 ≤ j → STATE + s + j ≡ STATE + s + i → ⊥
past_eight s i j lt le e = omega (arith, lt, le, e)

pub units_apart : (u v i j : ℕ) → i < 5 → j < 5 → v ≢ u → STATE + 8 + 8 * v + i ≡ STATE + 8 + 8 * u + j → ⊥
units_apart u v i j lt less ne e = omega (arith, lt, less, ne, e)

pub unit_low : (u j : ℕ) → STATE ≡ STATE + 8 + 8 * u + j → ⊥
unit_low u j e = omega (arith, e)

pub small_low : (i : ℕ) → nat_lt i 8 ≡ true → i < 32
small_low i lt = grind (arith, nat_tests)

pub at_most : (m n k : ℕ) → m ≤ n → n ≤ k → m ≤ k
at_most m n k le up = omega (arith, le, up)

pub eight_low : (i : ℕ) → i < 8 → i < 32
eight_low i lt = omega (arith, lt)

pub low_within : (j n : ℕ) → j < 32 → j < 32 + 6 * n
low_within j n lt = omega (arith, lt)

pub one_low : 1 < 5
one_low = omega arith

pub none_low : 0 < 5
none_low = omega arith

pub six_low : 6 < 32
six_low = omega arith

pub seven_low : 7 < 32
seven_low = omega arith

pub kept_inside : (j n : ℕ) → j < n → 32 + 3 * n + j < 32 + 6 * n
kept_inside j n lt = omega (arith, lt)

pub bank_place : (b n j : ℕ) → b < 3 → j < n → 32 + b * n + j < 32 + 6 * n
bank_place (suc (suc (suc b))) n j lt less = absurd (omega (arith, lt))
bank_place _ n j lt less = omega (arith, less)

pub bank_past : (b n j : ℕ) → 8 ≤ 32 + b * n + j
bank_past b n j = omega arith

pub kept_past : (n j : ℕ) → 8 ≤ 32 + 3 * n + j
kept_past n j = omega arith

pub in_order : (u k : ℕ) → order_own (order_of u) k ≡ true → (STATE + 8 + 8 * u + (k - (STATE + 8 + 8 * u)) ≡ k) × (k - (STATE + 8 + 8 * u) < 5)
in_order u k own =
    let low : STATE + 10 + 8 * u ≤ k = grind (arith, nat_tests) in
    let high : k ≤ STATE + 12 + 8 * u = grind (arith, nat_tests) in
    (omega (arith, low), omega (arith, low, high))

-- the words of banks and of kept values, as words of their group
pub bank_is : (d : AdcTable) (k : ℕ) (n : Bank) (j : ℕ) → group_word d k (32 + bank_number n * length (inputs_of (group_of d k)) + j) ≡ bank_word (rounds_of d k) n j
bank_is d k n j = omega arith

pub kept_is : (d : AdcTable) (k j : ℕ) → group_word d k (32 + 3 * length (inputs_of (group_of d k)) + j) ≡ kept_word (rounds_of d k) j
kept_is d k j = omega arith

pub control_is : (d : AdcTable) (k : ℕ) → group_word d k 7 ≡ (trio_of (rounds_of d k)).control
control_is d k = omega arith

pub claim_is : (d : AdcTable) (v : ℕ) → STATE + 8 + 8 * v + 1 ≡ word_number d (Word.Claim v)
claim_is d v = omega arith

pub running_is : (d : AdcTable) (v : ℕ) → STATE + 8 + 8 * v + 0 ≡ word_number d (Word.Running v)
running_is d v = omega arith

pub banks_front : (d : AdcTable) (k : ℕ) (n : Bank) (m : ℕ) → bank_word (rounds_of d k) n m ≡ bank_word (rounds_of d k) n 0 + m
banks_front d k n m = omega arith

-- a word of a group's banks is one behind its first eight
pub in_trio : (s n j : ℕ) → STATE + s + 32 ≤ j → j < STATE + s + 32 + 3 * n → (STATE + s + (j - (STATE + s)) ≡ j) × (8 ≤ j - (STATE + s)) × (j - (STATE + s) < 32 + 6 * n)
in_trio s n j low high = (omega (arith, low), omega (arith, low), omega (arith, low, high))

pub own_at : (d : AdcTable) (k j : ℕ) → (j == (trio_of (rounds_of d k)).control) ≡ false → own_of (trio_of (rounds_of d k)) j ≡ true
    → (group_word d k (j - (STATE + start_of (group_of d k))) ≡ j) × (8 ≤ j - (STATE + start_of (group_of d k))) × (j - (STATE + start_of (group_of d k)) < 32 + 6 * length (inputs_of (group_of d k)))
own_at d k j off own =
    let trio = trio_of (rounds_of d k) in
    let len = length (inputs_of (group_of d k)) in
    in_trio (start_of (group_of d k)) len j (in_banks trio.control trio.banks (3 * len) j off own) (below_banks trio.control trio.banks (3 * len) j off own)

-- a place of a user's buffer is behind the words of the units
pub place_past : (k : ℕ) (n : ResultBuffer) (p u i : ℕ) → u < 2 → i < 5 → result_word k n p ≡ STATE + 8 + 8 * u + i → ⊥
place_past k ResultBuffer.Zero p u i most lt e = omega (arith, most, lt, e)
place_past k ResultBuffer.One p u i most lt e = omega (arith, most, lt, e)

pub and_off : (x y z : Bool) → z ≡ false → x && z ≡ y && z
and_off true false z e = e
and_off false true z e = sym e
and_off _ _ z e = refl

-- ---- Words change while the machine's state and all registers stay: what is held stays right, and so does the whole agreement.

-- ---- what stays

-- the words of a bank stay
abbrev pub BankStays : AdcTable → (a b : Chip) → (group : ℕ) → Bank → Type 0
BankStays d a b g n = (j : ℕ) → j < length (inputs_of (group_of d g)) → word_of b (bank_word (rounds_of d g) n j) ≡ word_of a (bank_word (rounds_of d g) n j)

-- and so do the values that a group has kept
abbrev pub KeptStays : AdcTable → (a b : Chip) → (group : ℕ) → Type 0
KeptStays d a b g = (j : ℕ) → j < length (inputs_of (group_of d g)) → word_of b (kept_word (rounds_of d g) j) ≡ word_of a (kept_word (rounds_of d g) j)

-- the words that a hold rests on stay, but for those that stay in any case
abbrev pub HoldStays : AdcTable → (a b : Chip) → Reservation → Type 0
HoldStays d a b (Fills u g e n i x) = BankStays d a b g n
HoldStays d a b (Full u g n) = BankStays d a b g n
HoldStays d a b (Keeps u g e n i x) = (word_of b (word_number d (Word.Claim u)) ≡ 2 + g → word_of a (word_number d (Word.Claim u)) ≡ 2 + g) × (word_of a (word_number d (Word.Claim u)) ≡ 2 + g → word_of b (word_number d (Word.Claim u)) ≡ 2 + g) × KeptStays d a b g
HoldStays d a b (Whole u g n) = (word_of b (word_number d (Word.Claim u)) ≡ 2 + g → word_of a (word_number d (Word.Claim u)) ≡ 2 + g) × KeptStays d a b g
HoldStays d a b (Copies n c i x) = (word_of b (trio_of (rounds_of d c.group)).control % 4 ≡ word_of a (trio_of (rounds_of d c.group)).control % 4) × BankStays d a b c.group n
HoldStays d a b (Reads g n vs) = (word_of b (trio_of (rounds_of d g)).control / 4 ≡ word_of a (trio_of (rounds_of d g)).control / 4) × BankStays d a b g n
HoldStays d a b z = Unit {0}

abbrev pub AllStay : AdcTable → (a b : Chip) → Reservations → Type 0
AllStay d a b [] = Unit {0}
AllStay d a b (h ∷ hs) = HoldStays d a b h.what × AllStay d a b hs

-- All registers stay, and so do all words but those of banks, control words, claims, kept values and places of buffers.
pub record CoreStays (d : AdcTable) (a b : Chip) : Type 0 where
  pub rest : b ≡ record a { words = b.words }
  pub whole : HasWords b
  pub first : word_of b STATE ≡ word_of a STATE
  pub low : (k j : ℕ) → is_some (group_of d k) ≡ true → j < 7 → word_of b (group_word d k j) ≡ word_of a (group_word d k j)
  pub running : (u : ℕ) → u < 2 → word_of b (word_number d (Word.Running u)) ≡ word_of a (word_number d (Word.Running u))
  pub order : (u k : ℕ) → u < 2 → order_own (order_of u) k ≡ true → word_of b k ≡ word_of a k

-- what is new: what is held, the banks, places, claims and kept values
pub record Anew (d : AdcTable) (after : Reservations) (a b : Chip) (w : World) (s : AdcState) : Type 0 where
  pub right : AllRight d b w s after
  pub banks : (g : ℕ) → is_some (group_of d g) ≡ true → BanksAgree d after (word_of b) s g
  pub places : PlacesAgree d after (word_of b) s
  pub backed : Backed after
  pub claimed : (k : ℕ) → is_some (group_of d k) ≡ true → word_of b (word_number d (Word.Claim (unit_of (group_of d k)))) ≢ 2 + k → word_of a (word_number d (Word.Claim (unit_of (group_of d k)))) ≢ 2 + k
  pub claims : (u : ℕ) → u < 2 → claim_right after u (word_of b (word_number d (Word.Claim u))) ≡ true
  pub promised : (u : ℕ) → Promised d after w s u
  pub kept : (k : ℕ) → is_some (group_of d k) ≡ true → word_of a (word_number d (Word.Claim (unit_of (group_of d k)))) ≢ 2 + k → (j v : ℕ) → slice_get (kept_in d s k) j ≡ Some v → word_of b (kept_word (rounds_of d k) j) ≡ word_of a (kept_word (rounds_of d k) j)

module _ (d : AdcTable) (fits : FitsAdc d) (before : Reservations) (a b : Chip) (w : World) (s : AdcState) (h : Agrees d before a w s) (on : s.initialised ≡ true) (c : CoreStays d a b) where
  block : b.converters ≡ a.converters
  block = ap (λ (x : Chip). x.converters) c.rest

  -- ---- what is held

  keeps_stays : (u k e : ℕ) (n : Option ℕ) (i : ℕ) (x : Option ℕ) → is_on u (group_of d k) ≡ true → KeptStays d a b k → KeepsRight d a s u k e n i x → KeepsRight d b s u k e n i x
  keeps_stays u k e n i x on kept q = record {
    waits = q.waits;
    count = q.count ∙ ap (λ (z : Converters). e + rounds.ended (chips.unit_at z u).round z.time) (sym block);
    told = λ m f. q.told m f ∙ ap (λ (z : Converters). rounds.ended (chips.unit_at z u).round z.time) (sym block);
    word = c.low k 6 (on_there u (group_of d k) on) (omega arith) ∙ q.word;
    kept = λ j v less is. kept j (kept_within d w s h.sound k j v is) ∙ q.kept j v less is;
    results = λ j v is. ap (λ (z : Converters). chips.result z.levels z.time (chips.unit_at z u) j) block ∙ q.results j v is;
    next = q.next;
  }

  whole_stays : (u k n : ℕ) → KeptStays d a b k → WholeRight d a s u k n → WholeRight d b s u k n
  whole_stays u k n kept q = record { waits = q.waits; count = q.count; kept = λ j v is. kept j (kept_within d w s h.sound k j v is) ∙ q.kept j v is }

  pub held_stays : (x : ReservedBy Call Reservation) (z : Reservation) → HoldStays d a b z → HeldRight d a w s x z → HeldRight d b w s x z
  held_stays x (Clears n) stays r = absurd (let none = r.1 in let some = on in cc)
  held_stays x (Fills u k e n i y) stays r = (r.0, r.1, r.2, (let q = r.3 in record { same = q.same; filled = λ z m v o less is. stays m (few_values d w s h.sound u z k o (q.same z o).0 m v is) ∙ q.filled z m v o less is; next = q.next }))
  held_stays x (Full u k n) stays r = (r.0, r.1, r.2, (let q = r.3 in record { same = q.same; filled = λ z m v o is. stays m (few_values d w s h.sound u z k o (q.same z o).0 m v is) ∙ q.filled z m v o is }))
  held_stays x (Keeps u k e n i y) stays r = (r.0, r.1, r.2, λ f. keeps_stays u k e n i y r.1 stays.2 (r.3 (stays.0 f)), λ f. r.4 (λ q. f (stays.1 q)))
  held_stays x (Whole u k n) stays r = (r.0, r.1, r.2, λ f. whole_stays u k n stays.1 (r.3 (stays.0 f)))
  held_stays x (Copies n k i y) stays r = (r.0, r.1, r.2, (let q = r.3 in record { newest = stays.0 ∙ q.newest; values = λ m less le. stays.1 m less ∙ q.values m less le; next = q.next }))
  held_stays x (Reads k n vs) stays r = (
    r.0,
    r.1,
    r.2,
    (let q = r.3 in record {
      whole = q.whole;
      answered = q.answered;
      pinned = stays.0 ∙ q.pinned;
      bank = (q.bank.0, listed_agree (word_of b) (word_of a) (bank_word (rounds_of d k) n 0) (length q.whole) (λ m less. word m (let e = q.bank.0 in omega (arith, less, e))) ∙ q.bank.1);
      front = q.front;
    }),
  )
    where
      word : (m : ℕ) → m < length (inputs_of (group_of d k)) → word_of b (bank_word (rounds_of d k) n 0 + m) ≡ word_of a (bank_word (rounds_of d k) n 0 + m)
      word m less = let same : bank_word (rounds_of d k) n m ≡ bank_word (rounds_of d k) n 0 + m = omega arith in subst (λ z. word_of b z ≡ word_of a z) same (stays.1 m less)
  held_stays x _ stays r = r

  pub all_stay : (hs : Reservations) → AllStay d a b hs → AllRight d a w s hs → AllRight d b w s hs
  all_stay [] stays r = tt
  all_stay (x ∷ xs) stays r = (held_stays x x.what stays.0 r.0, all_stay xs stays.1 r.1)

  -- ---- words of groups and units

  group_stays : (k : ℕ) → is_some (group_of d k) ≡ true → (word_of b (word_number d (Word.Claim (unit_of (group_of d k)))) ≢ 2 + k → word_of a (word_number d (Word.Claim (unit_of (group_of d k)))) ≢ 2 + k)
      → (word_of a (word_number d (Word.Claim (unit_of (group_of d k)))) ≢ 2 + k → (j v : ℕ) → slice_get (kept_in d s k) j ≡ Some v → word_of b (kept_word (rounds_of d k) j) ≡ word_of a (kept_word (rounds_of d k) j)) → GroupAgrees d (word_of b) s k
  group_stays k there claimed kept =
      let q = (h.settled on).groups k there in record {
        phase = c.low k 0 there (omega arith) ∙ q.phase;
        chosen = c.low k 1 there (omega arith) ∙ q.chosen;
        notified = c.low k 2 there (omega arith) ∙ q.notified;
        turn = c.low k 3 there (omega arith) ∙ q.turn;
        count = λ e. c.low k 4 there (omega arith) ∙ q.count e;
        place = λ e. c.low k 5 there (omega arith) ∙ q.place e;
        kept = λ e f. c.low k 6 there (omega arith) ∙ q.kept e (claimed f);
        values = λ e f j v is. kept (claimed f) j v is ∙ q.values e (claimed f) j v is;
      }

  unit_stays : (u : ℕ) → u < 2 → UnitAgrees d (word_of b) s u
  unit_stays u few =
      let q = (h.settled on).units u few in record {
        running = c.running u few ∙ q.running;
        order = (q.order.0, holds-agree (order_of u) (word_of a) (word_of b) q.order.0 (λ k own. sym (c.order u k few own)) q.order.1, q.order.2);
      }

  -- all agrees after the change
  pub stays_agree : (after : Reservations) → Anew d after a b w s → Agrees d after b w s
  stays_agree after n = record {
    sound = h.sound;
    outside = stands_words a b w c.rest c.whole h.outside;
    state = c.first ∙ h.state;
    right = n.right;
    banks = n.banks;
    block = subst (λ z. IsBlock z w) (sym block) h.block;
    rounds = λ u few. subst (λ (z : Converters). RoundAgrees d z w (chips.unit_at z u) (round_at s u)) (sym block) (h.rounds u few);
    triggers = subst (λ z. TriggersAgree d z s) (sym block) h.triggers;
    places = n.places;
    backed = n.backed;
    left = λ off. absurd (let q = on in cc);
    settled = λ e. record {
      groups = λ k there. group_stays k there (n.claimed k there) (n.kept k there);
      units = unit_stays;
      claims = n.claims;
      lines = λ l i. ap (λ (x : Chip). has_bit x.control.enabled l) c.rest ∙ (h.settled on).lines l i;
      promised = n.promised;
    };
  }

-- ---- which words are apart

module _ (d : AdcTable) (fits : FitsAdc d) where
  -- all words of two groups are two
  pub ranges_apart : (g h i j : ℕ) → is_some (group_of d g) ≡ true → is_some (group_of d h) ≡ true → g ≢ h → i < 32 + 6 * length (inputs_of (group_of d g)) → j < 32 + 6 * length (inputs_of (group_of d h)) → group_word d h j ≢ group_word d g i
  ranges_apart g h i j there here ne low few = by (group_of d g) (group_of d h) refl refl there here low few
    where
      less : (k l : Group) → (g ≡ h → ⊥) → ((x y : ℕ) (p q : Group) → group_of d x ≡ Some p → group_of d y ≡ Some q → x < y → end_of p ≤ q.start) → group_of d g ≡ Some k → group_of d h ≡ Some l → i < 32 + 6 * length k.inputs → j < 32 + 6 * length l.inputs → STATE + l.start + j ≢ STATE + k.start + i
      less k l eq_other apart e f low few same = elim (cases_lt g h) [
        | inl lower ↦ (let le = apart g h k l e f lower in omega (arith, le, same, low))
        | inr above ↦ (let up : h < g = (let two : g ≢ h = eq_other in omega (arith, above, two)) in let le = apart h g l k f e up in omega (arith, le, same, few))
      ]

      by : (k l : Option Group) → group_of d g ≡ k → group_of d h ≡ l → is_some k ≡ true → is_some l ≡ true → i < 32 + 6 * length (inputs_of k) → j < 32 + 6 * length (inputs_of l) → STATE + start_of l + j ≢ STATE + start_of k + i
      by (Some k) (Some l) e f p q low few = less k l ne fits.apart e f low few
      by _ _ e f p q low few = absurd (cc)

  is_control : (k at first len : ℕ) → (k == at) ≡ false → k == at || (nat_le first k && nat_lt k (first + len)) ≡ true → (first ≤ k) × (k < first + len)
  is_control k at first len off own = (grind (arith, nat_tests), grind (arith, nat_tests))

  -- a word of a group's banks, or its control word, is one of the group's
  pub trio_place : (g k : ℕ) → own_of (trio_of (rounds_of d g)) k ≡ true → (j : ℕ) × (k ≡ group_word d g j) × (7 ≤ j) × (j < 32 + 3 * length (inputs_of (group_of d g)))
  trio_place g k own = control_or_buffer (k == (trio_of (rounds_of d g)).control) refl
    where
      control_or_buffer : (q : Bool) → (k == (trio_of (rounds_of d g)).control) ≡ q → (j : ℕ) × (k ≡ group_word d g j) × (7 ≤ j) × (j < 32 + 3 * length (inputs_of (group_of d g)))
      control_or_buffer true e = (7, (let at = eq_is k (trio_of (rounds_of d g)).control e in omega (arith, at)), omega arith, omega arith)
      control_or_buffer false e =
          let both = is_control k (trio_of (rounds_of d g)).control (trio_of (rounds_of d g)).banks (3 * length (inputs_of (group_of d g))) e own in
          let low = both.0 in
          let high = both.1 in
          (k - (STATE + start_of (group_of d g)), omega (arith, low), omega (arith, low), omega (arith, low, high))

  -- where the word that is stored is one of a group's behind the first seven, but none of its kept values
  module _ (a : Chip) (v : ℕ) (whole : HasWords a) where
    abbrev later : ℕ → Chip
    later k = chip_after a (Store k v) 0

    whole_later : (k : ℕ) → HasWords (later k)
    whole_later k = length-set a.words k v ∙ whole

    module _ (g at : ℕ) (here : is_some (group_of d g) ≡ true) (own : own_of (trio_of (rounds_of d g)) at ≡ true) where
      place : (j : ℕ) × (at ≡ group_word d g j) × (7 ≤ j) × (j < 32 + 3 * length (inputs_of (group_of d g)))
      place = trio_place g at own

      is : at ≡ STATE + start_of (group_of d g) + place.0
      is = place.1

      low : 64 ≤ start_of (group_of d g)
      low = (start_from d fits g here).0

      kept_apart : (k j : ℕ) → is_some (group_of d k) ≡ true → j < length (inputs_of (group_of d k)) → kept_word (rounds_of d k) j ≢ at
      kept_apart k j there less e = cases (same_or_other k g)
          (λ same. let few = place.3 in let i = is in let f : group_word d g (32 + 3 * length (inputs_of (group_of d g)) + j) ≡ at = subst (λ n. group_word d n (32 + 3 * length (inputs_of (group_of d n)) + j) ≡ at) same (sym kept ∙ e) in omega (arith, f, i, few))
          (λ ne. let few = place.3 in ranges_apart g k place.0 (32 + 3 * length (inputs_of (group_of d k)) + j) here there (λ z. ne (sym z)) (omega (arith, few)) (omega (arith, less)) (sym kept ∙ (e ∙ is)))
        where
          kept : kept_word (rounds_of d k) j ≡ group_word d k (32 + 3 * length (inputs_of (group_of d k)) + j)
          kept = omega arith

      pub core_trio : CoreStays d a (later at)
      core_trio = record {
        rest = refl;
        whole = whole_later at;
        first = stored_other a at v 0 STATE (λ e. (let i = is in let l = low in omega (arith, e, i, l)));
        low = λ k j there less. stored_other a at v 0 (group_word d k j) (λ e. trio_apart d fits k g j at there here less own (sym e));
        running = λ u few. stored_other a at v 0 (word_number d (Word.Running u)) (λ e. (let i = is in let l = low in omega (arith, e, i, l, few)));
        order = λ u k few mine. stored_other a at v 0 k (λ e. (let i = is in let l = low in let both = order_within k (STATE + 10 + 8 * u) mine in let high = both.1 in omega (arith, e, i, l, few, high)));
      }

      pub kept_trio : (k : ℕ) → is_some (group_of d k) ≡ true → KeptStays d a (later at) k
      kept_trio k there j less = stored_other a at v 0 (kept_word (rounds_of d k) j) (kept_apart k j there less)

      -- words of other groups' banks, claims and places stay
      pub trio_other : (k j : ℕ) → is_some (group_of d k) ≡ true → k ≢ g → own_of (trio_of (rounds_of d k)) j ≡ true → word_of (later at) j ≡ word_of a j
      trio_other k j there ne mine = stored_other a at v 0 j (λ e.
          let other = trio_place k j mine in
          let few = other.3 in
          let less = place.3 in
          ranges_apart g k place.0 other.0 here there (λ z. ne (sym z)) (omega (arith, less)) (omega (arith, few)) (sym other.1 ∙ (e ∙ is)))

      pub trio_claim : (u : ℕ) → u < 2 → word_of (later at) (word_number d (Word.Claim u)) ≡ word_of a (word_number d (Word.Claim u))
      trio_claim u few = stored_other a at v 0 (word_number d (Word.Claim u)) (λ e. (let i = is in let l = low in omega (arith, e, i, l, few)))

      pub trio_far : (k : ℕ) (n : ResultBuffer) (p : ℕ) → result_word k n p ≢ at
      trio_far k ResultBuffer.Zero p e = let i = is in let few = place.3 in let high = (start_from d fits g here).1 in omega (arith, e, i, few, high)
      trio_far k ResultBuffer.One p e = let i = is in let few = place.3 in let high = (start_from d fits g here).1 in omega (arith, e, i, few, high)

      pub trio_result : (k : ℕ) (n : ResultBuffer) (p : ℕ) → word_of (later at) (result_word k n p) ≡ word_of a (result_word k n p)
      trio_result k n p = stored_other a at v 0 (result_word k n p) (trio_far k n p)

    pub core_claim : (u : ℕ) → u < 2 → CoreStays d a (later (word_number d (Word.Claim u)))
    core_claim u lt = record {
      rest = refl;
      whole = whole_later (word_number d (Word.Claim u));
      first = stored_other a (word_number d (Word.Claim u)) v 0 STATE (λ e. omega (arith, e));
      low = λ k j there less. stored_other a (word_number d (Word.Claim u)) v 0 (group_word d k j) (λ e. (let l = (start_from d fits k there).0 in omega (arith, e, l, lt)));
      running = λ n few. stored_other a (word_number d (Word.Claim u)) v 0 (word_number d (Word.Running n)) (λ e. omega (arith, e));
      order = λ n k few mine. stored_other a (word_number d (Word.Claim u)) v 0 k (λ e. (let both = order_within k (STATE + 10 + 8 * n) mine in let low = both.0 in let high = both.1 in omega (arith, e, low, high)));
    }

    past : (g : ℕ) (n : ResultBuffer) (p j : ℕ) → STATE + j ≡ result_word g n p → j < 8192 → ⊥
    past g ResultBuffer.Zero p j e lt = omega (arith, e, lt)
    past g ResultBuffer.One p j e lt = omega (arith, e, lt)

    pub kept_place : (g : ℕ) (n : ResultBuffer) (p k : ℕ) → is_some (group_of d k) ≡ true → KeptStays d a (later (result_word g n p)) k
    kept_place g n p k there j less = stored_other a (result_word g n p) v 0 (kept_word (rounds_of d k) j) (λ e. (let high = (start_from d fits k there).1 in past g n p (start_of (group_of d k) + (32 + 3 * length (inputs_of (group_of d k)) + j)) (omega (arith, e)) (omega (arith, high, less))))

    pub core_place : (g : ℕ) (n : ResultBuffer) (p : ℕ) → CoreStays d a (later (result_word g n p))
    core_place g n p = record {
      rest = refl;
      whole = whole_later (result_word g n p);
      first = stored_other a (result_word g n p) v 0 STATE (λ e. past g n p 0 e (omega arith));
      low = λ k j there less. stored_other a (result_word g n p) v 0 (group_word d k j) (λ e. place_apart d fits k j g n p there (omega (arith, less)) (sym e));
      running = λ u few. stored_other a (result_word g n p) v 0 (word_number d (Word.Running u)) (λ e. past g n p (8 + 8 * u) (omega (arith, e)) (omega (arith, few)));
      order = λ u k few mine. stored_other a (result_word g n p) v 0 k (λ e. (let both = order_within k (STATE + 10 + 8 * u) mine in let low = both.0 in let high = both.1 in past g n p (k - STATE) (omega (arith, e, low)) (omega (arith, low, high, few))));
    }

-- ---- a store of a claim's word

module _ (d : AdcTable) (fits : FitsAdc d) (u : ℕ) (few : u < 2) (c : Chip) (whole : HasWords c) (v : ℕ) where
  abbrev claimed : Chip
  claimed = chip_after c (Store (word_number d (Word.Claim u)) v) 0

  pub claim_now : word_of (chip_after c (Store (word_number d (Word.Claim u)) v) 0) (word_number d (Word.Claim u)) ≡ v
  claim_now = stored_same c (word_number d (Word.Claim u)) v 0 (word_there d fits (word_number d (Word.Claim u)) (claim_words d u few)) whole

  pub claim_other : (n : ℕ) → n ≢ u → word_of (chip_after c (Store (word_number d (Word.Claim u)) v) 0) (word_number d (Word.Claim n)) ≡ word_of c (word_number d (Word.Claim n))
  claim_other n ne = stored_other c (word_number d (Word.Claim u)) v 0 (word_number d (Word.Claim n)) (λ e. omega (arith, e, ne))

  pub trio_claimed : (g j : ℕ) → is_some (group_of d g) ≡ true → own_of (trio_of (rounds_of d g)) j ≡ true → word_of (chip_after c (Store (word_number d (Word.Claim u)) v) 0) j ≡ word_of c j
  trio_claimed g j there own = stored_other c (word_number d (Word.Claim u)) v 0 j (λ e. (let place = trio_place d fits g j own in let is = place.1 in let low = (start_from d fits g there).0 in omega (arith, e, is, low, few)))

  pub place_claimed : (g : ℕ) (n : ResultBuffer) (p : ℕ) → word_of (chip_after c (Store (word_number d (Word.Claim u)) v) 0) (result_word g n p) ≡ word_of c (result_word g n p)
  place_claimed g n p = stored_other c (word_number d (Word.Claim u)) v 0 (result_word g n p) (far n)
    where
      far : (n : ResultBuffer) → result_word g n p ≢ word_number d (Word.Claim u)
      far ResultBuffer.Zero e = omega (arith, e, few)
      far ResultBuffer.One e = omega (arith, e, few)

  bank_claimed : (g : ℕ) (n : Bank) → is_some (group_of d g) ≡ true → BankStays d c claimed g n
  bank_claimed g n there j less = trio_claimed g (bank_word (rounds_of d g) n j) there (own-word (trio_of (rounds_of d g)) (bank_number n) j (bank_below d fits n) less)

  control_claimed : (g : ℕ) → is_some (group_of d g) ≡ true → word_of claimed (trio_of (rounds_of d g)).control ≡ word_of c (trio_of (rounds_of d g)).control
  control_claimed g there = trio_claimed g (trio_of (rounds_of d g)).control there (own-control (trio_of (rounds_of d g)))

  pub kept_claimed : (k : ℕ) → is_some (group_of d k) ≡ true → KeptStays d c (chip_after c (Store (word_number d (Word.Claim u)) v) 0) k
  kept_claimed k there j less = stored_other c (word_number d (Word.Claim u)) v 0 (kept_word (rounds_of d k) j) (λ e. (let l = (start_from d fits k there).0 in omega (arith, e, l, few)))

  -- what is held below stays right, where the claim keeps no values now
  module _ (low : v < 2) where
    kept_before : (n k : ℕ) → word_of claimed (word_number d (Word.Claim n)) ≡ 2 + k → word_of c (word_number d (Word.Claim n)) ≡ 2 + k
    kept_before n k e = cases (same_or_other n u)
        (λ same. absurd (let now : v ≡ 2 + k = sym claim_now ∙ subst (λ z. word_of claimed (word_number d (Word.Claim z)) ≡ 2 + k) same e in omega (arith, now, low)))
        (λ ne. sym (claim_other n ne) ∙ e)

    -- and where no frame below claims the unit, other claims stay too
    kept_after : (n k : ℕ) → (u == n) ≡ false → word_of c (word_number d (Word.Claim n)) ≡ 2 + k → word_of claimed (word_number d (Word.Claim n)) ≡ 2 + k
    kept_after n k off e = claim_other n (λ same. absurd (let on : (u == n) ≡ true = ap (λ z. u == z) same ∙ eq_self u in cc)) ∙ e

    one_stays : (w : World) (s : AdcState) (x : ReservedBy Call Reservation) (z : Reservation) → HeldRight d c w s x z → claims_on u z ≡ false → HoldStays d c claimed z
    one_stays w s x (Fills n k e b i q) r free = bank_claimed k b (on_there n (group_of d k) r.2)
    one_stays w s x (Full n k b) r free = bank_claimed k b (on_there n (group_of d k) r.2)
    one_stays w s x (Keeps n k e b i q) r free = (kept_before n k, kept_after n k free, kept_claimed k (on_there n (group_of d k) r.1))
    one_stays w s x (Whole n k b) r free = (kept_before n k, kept_claimed k (on_there n (group_of d k) r.1))
    one_stays w s x (Copies n k i q) r free = (ap (λ z. z % 4) (control_claimed k.group r.2), bank_claimed k.group n r.2)
    one_stays w s x (Reads k n vs) r free = (ap (λ z. z / 4) (control_claimed k r.2), bank_claimed k n r.2)
    one_stays w s x _ r free = tt

    pub claim_stays_below : (w : World) (s : AdcState) (hs : Reservations) → AllRight d c w s hs → some_hold (claims_on u) hs ≡ false → AllStay d c (chip_after c (Store (word_number d (Word.Claim u)) v) 0) hs
    claim_stays_below w s [] r free = tt
    claim_stays_below w s (x ∷ xs) r free = let both = or_parts (claims_on u x.what) (some_hold (claims_on u) xs) free in (one_stays w s x x.what r.0 both.0, claim_stays_below w s xs r.1 both.1)
