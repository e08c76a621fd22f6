-- The words of one side of an internal channel stand apart from others.
-- From spi_sequences: words.SideWords, spi_sequences: words.WordsOfModule.
-- Used by words.AllKept, words.KeepingWords, services.WellEnded, services.FurtherRight, services.JobLeft and 1 more.
use Rattle.std.proofs.Common.{◌≡◌, ◌≢◌, ◌+◌, ◌<◌, ◌≤◌, ◌∙◌}
use Rattle.spi_laws.specs.serving.Terms
use Terms.{ap, Bool, Channel, channel_of, false, FitsSpi, has_channel, held_word, is_own_word, IsWordOf, not_first}
use Terms.{not_held, not_of_other, not_users, of_banks, own_banks, placed_of, Side, Some, SOURCES, SpiTable, STATE, sym}
use Terms.{trio_fits, trio_of, true, ℕ}
use Rattle.word_shapes.specs.TripleBuffer as trio

module _ (d : SpiTable) (fits : FitsSpi d) (c : ℕ) (k : Channel) (e : channel_of d c ≡ Some k) where
  -- it is internal where its table says so
  pub is_inside : (placed_of d c).channel.internal ≡ true → k.internal ≡ true
  is_inside i = ap (λ (z : Channel). z.internal) (sym (has_channel d fits c k e)) ∙ i

  pub says_inside : k.internal ≡ true → (placed_of d c).channel.internal ≡ true
  says_inside i = ap (λ (z : Channel). z.internal) (has_channel d fits c k e) ∙ i

  module _ (internal : k.internal ≡ true) (side : Side) where
    abbrev its : ℕ → Bool
    its = trio.own_of (trio_of (placed_of d c) side)

    pub banks_fit : trio.Fits (trio_of (placed_of d c) side)
    banks_fit = trio_fits d fits c k e internal side

    pub banks_past : (j : ℕ) → j < STATE + 64 → its j ≡ false
    banks_past j lt = not_first d fits c k e internal side j lt

    pub banks_low : (j : ℕ) → SOURCES ≤ j → its j ≡ false
    banks_low j le = not_users d fits c k e internal side j le

    pub banks_of_one : (n : ℕ) (x : Channel) (j : ℕ) → n ≢ c → channel_of d n ≡ Some x → IsWordOf d n x j → its j ≡ false
    banks_of_one n x j ne f is = not_of_other d fits c k e internal side n x j ne f is

    pub banks_unheld : (n : ℕ) (x : Channel) → channel_of d n ≡ Some x → its (held_word (placed_of d n)) ≡ false
    banks_unheld n x f = not_held d fits c k e internal side n x f

    pub banks_words : (j : ℕ) → its j ≡ true → IsWordOf d c k j
    banks_words j own = of_banks d fits c k e internal side j own

    pub banks_own : (j : ℕ) → its j ≡ true → is_own_word d j ≡ true
    banks_own j own = own_banks d fits c k e internal side j own
