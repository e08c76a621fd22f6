-- The serial driver with its start and its serving window, and with its frames that send a sequence and wait.
-- From spi_sequences: services.Bodies, bookkeeping.Lawful, words.WordsToState, service_outline: Lawful and 1 more.
-- Used by src/frames.rt, mcal_drivers: Laws, mcal_drivers: proofs/Hosting, mcal_drivers: proofs/Sources and 4 more.
use Rattle.std.proofs.Common.{◌≡◌, ◌≤◌}
use Rattle.spi_driver.specs.Terms
use Terms.{all_wait, AllOutside, AreEndingServices, arith, Asked, Call, Chip, ending_gave, FitsSpi, holds_in}
use Terms.{IsLawful, List, Open, Reservations, Services, services_driver, Short, short_left, short_move, spi_ends}
use Terms.{spi_looked, SpiBody, SpiRepresents, SpiState, SpiTable, STATE, word_of, World, ℕ}
use Rattle.spi_machine.specs.State as machine
use Rattle.spi_driver.specs.laws.{bookkeeping.Lawful.{lawful, spi_right}, services.UnitBegins.{spi}}
use Rattle.spi_driver.specs.laws.words.WordsToState.{used_is, uses}

abbrev pub joined : SpiTable → Services SpiState Call Asked SpiBody
joined d = spi d

joined_right : (d : SpiTable) → FitsSpi d → AreEndingServices (joined d) spi_ends
joined_right d fits = spi_right d fits

-- whatever runs above them, the frames of the driver are right at each step
pub joined_lawful : (d : SpiTable) → FitsSpi d → IsLawful (services_driver (joined d)) (short_move STATE (joined d).bodies.work_of) (short_left spi_looked (joined d).bodies.takes) (ending_gave spi_looked (joined d).bodies.takes spi_ends)
joined_lawful d fits = lawful d fits

-- it leaves the peripheral rate alone, and has no watchdog
pub joined_slow : (d : SpiTable) (chip : Chip) (w : World) (ps : List (Short Asked SpiBody × Open Call)) (s : SpiState) → FitsSpi d → (services_driver (joined d)).relates chip w ps s → (services_driver (joined d)).setting.machine.rate s ≤ 16
joined_slow d chip w ps s fits h = omega arith

module _ (d : SpiTable) (fits : FitsSpi d) (chip : Chip) (w : World) (ps : List (Short Asked SpiBody × Open Call)) (s : SpiState) (out : AllOutside ps) (h : (services_driver (joined d)).relates chip w ps s) where
  -- where no frame holds the mask closed, words and registers agree with what the frames under way hold
  represents : (held : Reservations) × SpiRepresents d held chip w s
  represents = (holds_in (joined d) ps, (all_wait (joined d) (joined_right d fits) chip w ps s out h).0)

  -- and the words tell which channels are in use
  pub joined_uses : (c : ℕ) → uses d (word_of chip) c ≡ machine.uses d s c
  joined_uses c = used_is d fits c represents.0 chip w s represents.1
