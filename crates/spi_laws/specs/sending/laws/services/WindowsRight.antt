-- The windows of a call that sends a sequence and waits are right.
-- From services.SendWindows, services.SendAround, services.SendGoesOn, services.SendStarts.
-- Used by spi_driver: bookkeeping.Lawful, spi_driver: bookkeeping.UnpolledFrames.
use Rattle.std.proofs.Common.{◌≡◌}
use Rattle.spi_laws.specs.sending.Terms
use Terms.{Arrived, Called, Chip, FitsSpi, fresh_history, job_at_place, List, None, Option, Position, Reservations, Some}
use Terms.{SpiRepresents, SpiState, SpiTable, subst, sym, SyncBody, SyncPlace, Taker, unit_at, with_holds, World, ℕ}
use Rattle.spi_laws.specs.sending.Sending.{BeforeJob, device_at, first_of, HasBank, holds_before, IsSender, word_sent}
use Rattle.spi_laws.specs.sending.laws.{services.SendAround.{body, foot}, services.SendGoesOn.{goes_on_right}}
use Rattle.spi_laws.specs.sending.laws.{services.SendStarts.{starts_right}, services.SendWindows.{AreWindowsRight, asks, FirstBegins}}
use Rattle.word_shapes.specs.declared.jobs.keeping.Taker.TheVariants as takers
use Rattle.spi_sequences.specs.declared.service.sync.SyncPlace.TheVariants as place

-- which bank the frame keeps doesn't depend on its place
bank_kept : (d : SpiTable) (q u n : ℕ) (at : Position) (bs : List ℕ) (a b : SyncPlace) (t : Taker) → HasBank (body d q u n at bs a) t → HasBank (body d q u n at bs b) t
bank_kept d q u n at bs a b (takers.Bank k) e = e
bank_kept d q u n at bs a b (takers.SetUp by) e = e

module _ (d : SpiTable) (fits : FitsSpi d) (below : Reservations) (chip : Chip) (w : World) (s : SpiState) (q u n : ℕ) (at : Position) (bs : List ℕ) (is : IsSender d d q u bs below (Called (asks q)) fresh_history) (x y : ℕ) where
  abbrev k : Option Arrived → SyncBody
  k b = body d q u n at bs (place.Begin b x)

  first_right : (b : Option Arrived) → SpiRepresents d (with_holds (Called (asks q)) None (holds_before (k b) b (device_at d q n)) below) chip w s → BeforeJob d (k b) b (foot d chip) w s → x ≡ (word_sent d s (k b)).sent → (unit_at chip.serials u).select ≡ device_at d q n → (unit_at chip.serials u).width ≡ (word_sent d s (k b)).width
      → FirstBegins d below chip w s q u n at bs b x y
  first_right None h before sent select width =
      subst (λ m. x ≡ (first_of d s (job_at_place d q m)).sent → (unit_at chip.serials u).select ≡ device_at d q m → (unit_at chip.serials u).width ≡ (first_of d s (job_at_place d q m)).width → FirstBegins d below chip w s q u m at bs None x y) (sym before.1)
      (λ a b c. starts_right d fits below chip w s h q u at bs is before.0 before.2 x y a b c) sent select width
  first_right (Some r) h before sent select width =
      goes_on_right d fits below chip w s q u n at bs r is h before.0 before.1 before.2 before.3 before.5 (bank_kept d q u n at bs (place.Begin (Some r) x) place.Run r.taker before.6) x y sent width

pub windows_are_right : (d : SpiTable) → FitsSpi d → AreWindowsRight d
windows_are_right d fits = record { first = λ below chip w s q u n at bs b x y is h before sent select width. first_right d fits below chip w s q u n at bs is x y b h before sent select width }
