-- What the lemmas of this room are told, as one value.
-- From bookkeeping.RanState.
-- Used by ToBegin, services.StartWords, words.UnitWords.
use Rattle.std.proofs.Common.{◌≡◌, ◌∷◌}
use Rattle.spi_laws.specs.starting.Terms
use Terms.{Answer, Call, Chip, Contains, FitsSpi, is_for, None, Option, Origin, Pending, Reservations, SpiRepresents}
use Terms.{SpiState, SpiTable, true, World, ℕ}
use Rattle.spi_laws.specs.starting.laws.bookkeeping.RanState.{debt_of}

-- what a lemma of this room is told, under one name
pub record ToStart : Type 0 where
  pub d : SpiTable
  pub fits : FitsSpi d
  pub below : Reservations
  pub owner : Origin Call
  pub acted : Option Answer
  pub chip : Chip
  pub w : World
  pub s : SpiState
  pub u : ℕ
  pub h : SpiRepresents d (debt_of u owner acted ∷ below) chip w s
  pub p : Pending
  pub there : Contains s.pending p
  pub for : is_for d u p ≡ true
  pub free : h.going u ≡ None
