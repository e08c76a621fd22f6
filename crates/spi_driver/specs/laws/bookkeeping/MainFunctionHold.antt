-- The main function's hold: it may be taken where the mode is polling, and dropped.
-- From spi_sequences: words.PendingWords.
-- Used by services.UnitSteps, bookkeeping.PendingWritesRight.
use Rattle.std.proofs.Common.{◌≡◌, ◌∷◌}
use Rattle.spi_driver.specs.Terms
use Terms.{Answer, Call, Chip, flat_map-cons, Handling, holds_back, holds_changed, HoldsLike, is_polling, Option}
use Terms.{Origin, readied_by, refl, Reservation, Reservations, ReservedBy, SpiRepresents, SpiState, SpiTable}
use Terms.{stored_by, true, World}

abbrev pub handling_of : Origin Call → Option Answer → ReservedBy Call Reservation
handling_of by acted = record { by = by; what = Handling; acted = acted }

-- it holds nothing of channels
like_more : (d : SpiTable) (by : Origin Call) (acted : Option Answer) (held : Reservations) → HoldsLike d held (handling_of by acted ∷ held)
like_more d by acted held = record {
  puts = λ sources n r. refl;
  takes = λ n. refl;
  prepares = refl;
  readied = flat_map-cons (λ h. readied_by h.what) (handling_of by acted) held;
  stored = flat_map-cons (λ h. stored_by h.what) (handling_of by acted) held;
}

module _ (d : SpiTable) (by : Origin Call) (acted : Option Answer) (held : Reservations) (chip : Chip) (w : World) (s : SpiState) where
  pub handling_begins : is_polling s.mode ≡ true → SpiRepresents d held chip w s → SpiRepresents d (handling_of by acted ∷ held) chip w s
  handling_begins polling h = holds_changed d held (handling_of by acted ∷ held) chip w s h (like_more d by acted held) (polling, h.right) (tt, h.sending) h.carriers h.owed

  pub handling_over : SpiRepresents d (handling_of by acted ∷ held) chip w s → SpiRepresents d held chip w s
  handling_over h = holds_changed d (handling_of by acted ∷ held) held chip w s h (holds_back d held (handling_of by acted ∷ held) (like_more d by acted held)) h.right.1 h.sending.1 h.carriers h.owed
