-- An order of entries in three words: four bits a place in the first two, the number of entries and the waiting marks in
-- the third.
use Rattle.std.specs.Prelude.{ℕ, zero, suc, ◌+◌, ◌-◌, ◌*◌, ◌/◌, ◌%◌, ◌^◌, ◌==◌, if◌then◌else◌, List, [], ◌∷◌, map, bit_or}
use Rattle.mcal_base.specs.Bits.{has_bit, without as bits_without}
use Rattle.word_shapes.specs.Order.{Entry}

-- ---- the places

-- the first places of an order
abbrev pub places : ℕ → ℕ → List ℕ
places order zero = []
places order (suc n) = order % 16 ∷ places (order / 16) n

-- the first two words as one number
abbrev pub order_of : ℕ → ℕ → ℕ
order_of low high = low % 2 ^ 32 + 2 ^ 32 * high

-- the entries with their marks
abbrev pub marked : ℕ → ℕ → Entry
marked marks n = record { number = n; waits = has_bit marks n }

abbrev pub entries : ℕ → List ℕ → List Entry
entries marks ns = map (marked marks) ns

-- the third word: the number of entries, and the marks
abbrev pub count_in : ℕ → ℕ
count_in tally = tally % 32

abbrev pub marks_in : ℕ → ℕ
marks_in tally = tally / 32

abbrev pub tally_of : ℕ → ℕ → ℕ
tally_of count marks = count + 32 * marks

-- what three words hold
abbrev pub ranked_of : ℕ → ℕ → ℕ → List Entry
ranked_of low high tally = entries (marks_in tally) (places (order_of low high) (count_in tally))

-- ---- changes

-- a word of eight places with an entry in a place, and nothing after it
abbrev pub appended : ℕ → ℕ → ℕ → ℕ
appended word place n = word % 16 ^ place + n * 16 ^ place

-- an order with an entry taken out
abbrev pub taken_out : ℕ → ℕ → ℕ → ℕ
taken_out order zero n = order
taken_out order (suc k) n = if order % 16 == n then order / 16 else 16 * taken_out (order / 16) k n + order % 16

-- the third word with one more entry, which waits
abbrev pub tally_added : ℕ → ℕ → ℕ
tally_added tally n = tally_of ((count_in tally + 1) % 32) (bit_or (marks_in tally) (2 ^ n))

-- with an entry that waits, and with one that doesn't
abbrev pub tally_marked : ℕ → ℕ → ℕ
tally_marked tally n = tally_of (count_in tally) (bit_or (marks_in tally) (2 ^ n))

abbrev pub tally_cleared : ℕ → ℕ → ℕ
tally_cleared tally n = tally_of (count_in tally) (bits_without (marks_in tally) (2 ^ n))

-- with one entry less
abbrev pub tally_less : ℕ → ℕ
tally_less tally = tally - 1
