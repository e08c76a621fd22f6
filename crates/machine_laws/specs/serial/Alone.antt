-- A pending sequence that nobody cancels or drops.
use Rattle.std.specs.Prelude.{◌≡◌, ℕ, suc, true, false, List, [], ◌∷◌, Some, find}
use Rattle.run_model.specs.Machine.{Serves}
use Rattle.spi_machine.specs.Pending.{Pending, is_of}
use Rattle.spi_machine.specs.Promised.{drops}
use Rattle.spi_machine.specs.Runs.{Occurrence, state_after}
use Rattle.spi_machine.specs.State.{SpiState, run_at}
use Rattle.spi_machine.specs.Transfers.{Run, goes_on}
use Rattle.spi_machine.specs.declared.table.SpiTable.{SpiTable}
use Rattle.spi_machine.specs.Machine.{ready, unit_of}
use Rattle.machine_laws.specs.serial.Ends.{EndsWith}
use Rattle.machine_laws.specs.serial.Faults.{leaves_word}

-- A history that drops no request, and through which a sequence is pending: so many of its jobs end in it.
pub data StaysPending (d : SpiTable) (q : ℕ) : SpiState → List Occurrence → ℕ → Type 0 where
  Now : (s : SpiState) (p : Pending) → find (is_of q) s.pending ≡ Some p → StaysPending d q s [] 0
  Later : (s : SpiState) (p : Pending) (x : Occurrence) (xs : List Occurrence) (n : ℕ) → find (is_of q) s.pending ≡ Some p → drops x.what ≡ false → StaysPending d q (state_after d x.world s x.what) xs n
      → StaysPending d q s (x ∷ xs) n
  Ending : (s : SpiState) (p : Pending) (x : Occurrence) (xs : List Occurrence) (n line received : ℕ) (r : Run) → find (is_of q) s.pending ≡ Some p → x.what ≡ Serves line received → ready x.world s line ≡ true → EndsWith s q line r
      → StaysPending d q (state_after d x.world s x.what) xs n → StaysPending d q s (x ∷ xs) (suc n)

-- A history through which a unit runs the same job: its line is served so often in it.
pub data RunsOn (d : SpiTable) (u : ℕ) : SpiState → List Occurrence → ℕ → Type 0 where
  Running : (s : SpiState) (r : Run) → run_at s u ≡ Some r → RunsOn d u s [] 0
  Untouched : (s : SpiState) (r : Run) (x : Occurrence) (xs : List Occurrence) (n : ℕ) → run_at s u ≡ Some r → leaves_word u x.what ≡ true → RunsOn d u (state_after d x.world s x.what) xs n
      → RunsOn d u s (x ∷ xs) n
  Serving : (s : SpiState) (r : Run) (x : Occurrence) (xs : List Occurrence) (n line received : ℕ) → run_at s u ≡ Some r → x.what ≡ Serves line received → unit_of line ≡ Some u → ready x.world s line ≡ true → goes_on r ≡ true
      → RunsOn d u (state_after d x.world s x.what) xs n → RunsOn d u s (x ∷ xs) (suc n)
