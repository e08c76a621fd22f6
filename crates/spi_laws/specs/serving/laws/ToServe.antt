-- What the lemmas of this room are told, as one value.
-- Used by sending.bookkeeping.AsFreed, sending.services.SendFurther and 13 more.
use Rattle.std.proofs.Common.{◌≡◌, ◌<◌}
use Rattle.spi_laws.specs.serving.Terms
use Terms.{Chip, false, FitsSpi, Going, is_off, Reservations, Some, SpiRepresents, SpiState, SpiTable, World, ℕ}

-- what a lemma of this room is told, under one name
pub record ToServe : Type 0 where
  pub d : SpiTable
  pub fits : FitsSpi d
  pub below : Reservations
  pub chip : Chip
  pub w : World
  pub s : SpiState
  pub h : SpiRepresents d below chip w s
  pub on : is_off s.mode ≡ false
  pub u : ℕ
  pub few : u < 2
  pub g : Going
  pub is : h.going u ≡ Some g
