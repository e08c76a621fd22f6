-- Which driver words are the module's: the first 64, those of each channel, and the users' arrays. They stand apart.
-- From words.Cases.
-- Used by spi_laws: serving.services.WellEnded, words.SideWords, spi_laws: starting.services.StartAround and 50 more.
use Rattle.std.proofs.Common.{◌≡◌, ◌≢◌, ◌+◌, ◌-◌, ◌*◌, ◌%◌, ◌<◌, ◌≤◌, ◌==◌, ◌&&◌, ◌||◌, [], ◌∷◌, ◌∙◌, if◌then◌else◌}
use Rattle.spi_sequences.specs.Terms
use Terms.{ap, arith, banked, block_of, Bool, Channel, channel_of, control_word, Destination, enumerate_from, eq_is}
use Terms.{false, first_word, FitsChannel, FitsSpi, held_word, is_own_word, is_users_place, is_users_word, is_within}
use Terms.{is_word_of, length, length_by, List, list_any, nat_le, nat_lt, nat_tests, NO_CHANNEL, None, not, Option}
use Terms.{or_else, or_left, or_right, order_word, own_words, place_of, placed_of, Received, refl, Sent, set_up_word}
use Terms.{Side, slice_index_or, Some, some_or_none, Source, SpiTable, start_of, STATE, subst, suc, sym, trio_of, true}
use Terms.{whether, zero, ℕ}
use Rattle.mcal_base.specs.facts.Truths.{or_true}
use Rattle.word_shapes.specs.PriorityQueue as ranked
use Rattle.word_shapes.specs.TripleBuffer as trio

-- a word of a channel: one of its first four, or of its banks
pub record IsWordOf (d : SpiTable) (c : ℕ) (k : Channel) (word : ℕ) : Type 0 where
  pub from : STATE + block_of d c ≤ word
  pub below : word < STATE + block_of d c + 4 + banked k

-- it is none of the first 64
pub past_the_first : (d : SpiTable) (c : ℕ) (k : Channel) (word : ℕ) → FitsChannel d c k → IsWordOf d c k word → STATE + 64 ≤ word
past_the_first d c k word fits is = omega (arith, fits.after, is.from)

-- those of a lower channel come first
pub of_the_lower : (d : SpiTable) (b c : ℕ) (x y : Channel) (word other : ℕ) → FitsSpi d → b < c → c < 16 → channel_of d b ≡ Some x → IsWordOf d b x word → IsWordOf d c y other → word < other
of_the_lower d b c x y word other fits lt few e is at = let gap = fits.apart b c x lt e few in omega (arith, gap, is.below, at.from)

-- ---- lists by number

pub in_list : {A : Type 0} (xs : List (Option A)) (c : ℕ) (k : A) → slice_index_or xs c None ≡ Some k → c < length xs
in_list [] c k e = absurd (cc)
in_list (x ∷ xs) zero k e = omega arith
in_list (x ∷ xs) (suc c) k e = let lt = in_list xs c k e in omega (arith, lt)

-- what is so of one is so of some
pub some_at : {A : Type 0} (p : Option A → Bool) (xs : List (Option A)) (c : ℕ) → p None ≡ false → p (slice_index_or xs c None) ≡ true → list_any p xs ≡ true
some_at p [] c none e = absurd (let f = sym none ∙ e in cc)
some_at p (x ∷ xs) zero none e = ap (λ q. q || list_any p xs) e
some_at p (x ∷ xs) (suc c) none e = ap (λ q. p x || q) (some_at p xs c none e) ∙ or_true (p x)

-- ---- own words

within_at : (n k : ℕ) → 49152 ≤ k → k < 49152 + n → not (nat_lt k 49152) && nat_lt k (49152 + n) ≡ true
within_at n k low high = grind (arith, nat_tests)

pub own_first : (d : SpiTable) (k : ℕ) → STATE ≤ k → k < STATE + 64 → is_own_word d k ≡ true
own_first d k low high = within_at (own_words d) k low (omega (arith, high))

pub own_of_channel : (d : SpiTable) (c : ℕ) (k : Channel) (word : ℕ) → FitsChannel d c k → IsWordOf d c k word → is_own_word d word ≡ true
own_of_channel d c k word fits is = within_at (own_words d) word (omega (arith, is.from)) (omega (arith, fits.within, is.below))

pub word_of_own : (d : SpiTable) (k : ℕ) → is_own_word d k ≡ true → is_word_of d k ≡ true
word_of_own d k e = or_left (is_own_word d k) (is_users_word d k) e

-- ---- a channel with its place

-- a configured channel is one of sixteen, and stands at its block
pub of_sixteen : (d : SpiTable) (c : ℕ) (k : Channel) → FitsSpi d → channel_of d c ≡ Some k → c < 16
of_sixteen d c k fits e = let lt = in_list d.channels c k e in omega (arith, lt, fits.rows.0)

-- a place of a configured channel
pub few_places : (d : SpiTable) → FitsSpi d → (n i : ℕ) → i < length_by (channel_of d n) → (n < 16) × (i < 64)
few_places d fits n i lt = some_or_none (channel_of d n)
    (λ k e. let width = ap length_by e in let most = (fits.channels n k e).few in (of_sixteen d n k fits e, omega (arith, lt, width, most)))
    (λ e. absurd (let width = ap length_by e in omega (arith, lt, width)))

pub placed_is : (d : SpiTable) (c : ℕ) (k : Channel) → FitsSpi d → channel_of d c ≡ Some k → placed_of d c ≡ record { number = c; block = block_of d c; channel = k }
placed_is d c k fits e =
    let few = of_sixteen d c k fits e in
    let same : c % 16 ≡ c = omega (arith, few) in
    ap (λ n. record { number = c; block = slice_index_or d.blocks n 0; channel = or_else NO_CHANNEL (slice_index_or d.channels n None) }) same ∙ ap (λ x. record { number = c; block = block_of d c; channel = or_else NO_CHANNEL x }) e

module _ (d : SpiTable) (fits : FitsSpi d) (c : ℕ) (k : Channel) (e : channel_of d c ≡ Some k) where
  is_placed : placed_of d c ≡ record { number = c; block = block_of d c; channel = k }
  is_placed = placed_is d c k fits e

  pub has_channel : (placed_of d c).channel ≡ k
  has_channel = ap (λ x. x.channel) is_placed

  pub starts_at : first_word (placed_of d c) ≡ STATE + block_of d c
  starts_at = ap (λ x. first_word x) is_placed

  -- an internal channel has banks
  pub internal_words : k.internal ≡ true → banked k ≡ 6 * k.length
  internal_words e = ap (λ q. if q then 6 * k.length else 0) e

  -- its first four words, and those of its banks
  pub of_front : (j : ℕ) → j < 4 → IsWordOf d c k (first_word (placed_of d c) + j)
  of_front j lt = record { from = omega (arith, starts_at); below = omega (arith, starts_at, lt) }

  of_control : (side : Side) → IsWordOf d c k (control_word (placed_of d c) side)
  of_control Sent = subst (λ n. IsWordOf d c k n) (omega arith) (of_front 0 (omega arith))
  of_control Received = of_front 1 (omega arith)

  in_banks : k.internal ≡ true → (side : Side) (j : ℕ) → j < 3 * k.length → IsWordOf d c k ((trio_of (placed_of d c) side).banks + j)
  in_banks internal Sent j lt = let size = internal_words internal in record { from = omega (arith, starts_at); below = omega (arith, starts_at, lt, size) }
  in_banks internal Received j lt = let same = ap (λ x. x.length) has_channel in let size = internal_words internal in record { from = omega (arith, starts_at); below = omega (arith, starts_at, lt, same, size) }

  pub of_banks : k.internal ≡ true → (side : Side) (j : ℕ) → trio.own_of (trio_of (placed_of d c) side) j ≡ true → IsWordOf d c k j
  of_banks internal side j own = control_or_bank (j == control_word (placed_of d c) side) refl own
    where
      low : (b n : ℕ) → nat_le b j && nat_lt j (b + n) ≡ true → b ≤ j
      low b n i = grind (arith, nat_tests)

      high : (b n : ℕ) → nat_le b j && nat_lt j (b + n) ≡ true → j < b + n
      high b n i = grind (arith, nat_tests)

      control_or_bank : (q : Bool) → (j == control_word (placed_of d c) side) ≡ q → q || (nat_le (trio_of (placed_of d c) side).banks j && nat_lt j ((trio_of (placed_of d c) side).banks + 3 * (placed_of d c).channel.length)) ≡ true → IsWordOf d c k j
      control_or_bank true i own = subst (λ n. IsWordOf d c k n) (sym (eq_is j _ i)) (of_control side)
      control_or_bank false i own =
          let len : k.length ≡ (placed_of d c).channel.length = sym (ap (λ x. x.length) has_channel) in
          let b = (trio_of (placed_of d c) side).banks in
          let lower = low b (3 * (placed_of d c).channel.length) own in
          let higher = high b (3 * (placed_of d c).channel.length) own in
          subst (λ n. IsWordOf d c k n) (omega (arith, lower)) (in_banks internal side (j - b) (omega (arith, lower, higher, len)))

  pub of_held : IsWordOf d c k (held_word (placed_of d c))
  of_held = of_front 2 (omega arith)

  pub of_set_up : IsWordOf d c k (set_up_word (placed_of d c))
  of_set_up = of_front 3 (omega arith)

  pub own_of : (j : ℕ) → IsWordOf d c k j → is_own_word d j ≡ true
  own_of j is = own_of_channel d c k j (fits.channels c k e) is

  pub own_held : is_own_word d (held_word (placed_of d c)) ≡ true
  own_held = own_of (held_word (placed_of d c)) of_held

  pub own_set_up : is_own_word d (set_up_word (placed_of d c)) ≡ true
  own_set_up = own_of (set_up_word (placed_of d c)) of_set_up

  pub own_banks : k.internal ≡ true → (side : Side) (j : ℕ) → trio.own_of (trio_of (placed_of d c) side) j ≡ true → is_own_word d j ≡ true
  own_banks internal side j is = own_of j (of_banks internal side j is)

-- no word is one of two channels
pub of_one : (d : SpiTable) → FitsSpi d → (b c : ℕ) (x y : Channel) (word other : ℕ) → b ≢ c → channel_of d b ≡ Some x → channel_of d c ≡ Some y → IsWordOf d b x word → IsWordOf d c y other → word ≢ other
of_one d fits b c x y word other ne e f is at same = whether (nat_lt b c)
    (λ i. let lt : b < c = grind (arith, nat_tests) in let less = of_the_lower d b c x y word other fits lt (of_sixteen d c y fits f) e is at in omega (arith, less, same))
    (λ i. let lt : c < b = grind (arith, nat_tests) in let less = of_the_lower d c b y x other word fits lt (of_sixteen d b x fits e) f at is in omega (arith, less, same))

-- the words of an order are among the first
pub in_order : (u j : ℕ) → u < 2 → ranked.own_of (record { at = order_word u }) j ≡ true → (STATE < j) × (j < STATE + 64)
in_order u j lt own = (low u j own, high u j lt own)
  where
    low : (u j : ℕ) → ranked.own_of (record { at = order_word u }) j ≡ true → STATE < j
    low u j own = grind (arith, nat_tests)

    high : (u j : ℕ) → u < 2 → ranked.own_of (record { at = order_word u }) j ≡ true → j < STATE + 64
    high u j lt own = grind (arith, nat_tests)

-- ---- the users' arrays

any_place : (p : ℕ × Option Channel → Bool) (xs : List (Option Channel)) (n c : ℕ) → c < length xs → p (n + c, slice_index_or xs c None) ≡ true → list_any p (enumerate_from n xs) ≡ true
any_place p [] n c lt e = absurd (omega (arith, lt))
any_place p (x ∷ xs) n zero lt e = ap (λ q. q || list_any p (enumerate_from (n + 1) xs)) (subst (λ i. p (i, x) ≡ true) (omega arith) e)
any_place p (x ∷ xs) n (suc c) lt e = or_right (p (n, x)) (list_any p (enumerate_from (n + 1) xs)) (any_place p xs (n + 1) c (omega (arith, lt)) (subst (λ i. p (i, slice_index_or xs c None) ≡ true) (omega arith) e))

any_numbered : (p : ℕ × Option Channel → Bool) (xs : List (Option Channel)) (c : ℕ) → c < length xs → p (c, slice_index_or xs c None) ≡ true → list_any p (enumerate_from 0 xs) ≡ true
any_numbered p xs c lt e = any_place p xs 0 c lt (subst (λ i. p (i, slice_index_or xs c None) ≡ true) (omega arith) e)

within_start : (start n i : ℕ) → i < n → is_within start n (start + i) ≡ true
within_start start n i lt = grind (arith, nat_tests)

module _ (d : SpiTable) (fits : FitsSpi d) (c i : ℕ) (lt : i < length_by (channel_of d c)) where
  there : c < length d.channels
  there = some_or_none (channel_of d c)
      (λ k e. in_list d.channels c k e)
      (λ e. absurd (let width = ap length_by e in omega (arith, lt, width)))

  pub source_own : is_word_of d (place_of (Source c) i) ≡ true
  source_own = or_right (is_own_word d (place_of (Source c) i)) (is_users_word d (place_of (Source c) i)) (any_numbered (is_users_place (place_of (Source c) i)) d.channels c there (or_left (is_within (start_of (Source c)) (length_by (channel_of d c)) (place_of (Source c) i)) (is_within (start_of (Destination c)) (length_by (channel_of d c)) (place_of (Source c) i)) (within_start (start_of (Source c)) (length_by (channel_of d c)) i lt)))

  pub destination_own : is_word_of d (place_of (Destination c) i) ≡ true
  destination_own = or_right (is_own_word d (place_of (Destination c) i)) (is_users_word d (place_of (Destination c) i)) (any_numbered (is_users_place (place_of (Destination c) i)) d.channels c there (or_right (is_within (start_of (Source c)) (length_by (channel_of d c)) (place_of (Destination c) i)) (is_within (start_of (Destination c)) (length_by (channel_of d c)) (place_of (Destination c) i)) (within_start (start_of (Destination c)) (length_by (channel_of d c)) i lt)))
