-- A job that a unit runs is served no more often than it has words.
use Rattle.std.proofs.Common.{◌≡◌, ◌≢◌, ℕ, zero, suc, ◌+◌, ◌<◌, not, Bool, true, List, [], ◌∷◌, length, length-append, slice_index_or, Option, Some, None, refl, sym, ◌∙◌, ap, arith, ◌⊎◌, inl, inr}
use Rattle.std.specs.Prelude.{if◌then◌else◌, nat_lt}
use Rattle.std.proofs.lemmas.Bool.{and_parts}
use Rattle.mcal_base.specs.facts.Numbers.{lt_is, same_or_other}
use Rattle.mcal_base.specs.facts.Options.{some_is}
use Rattle.mcal_base.specs.declared.directive.Order.{Order}
use Rattle.mcal_base.specs.declared.directive.Order.TheVariants.{Fill, SpiFault}
use Rattle.run_model.specs.Frame.{state_by}
use Rattle.run_model.specs.Machine.{Happening, Acts, Serves, Starts, Aborts, Moves, Restarts}
use Rattle.run_model.specs.World.{World}
use Rattle.spi_machine.proofs.Numbers.{item-same, item-other}
use Rattle.spi_machine.proofs.Runs.{after_last-seen}
use Rattle.spi_machine.specs.Checks.{error_by}
use Rattle.spi_machine.specs.Machine.{faulted_run, finds_held, moved, next_at, number_of, ready, run_of, served, served_by, stored, unit_of}
use Rattle.spi_machine.specs.Numbered.{with_item}
use Rattle.spi_machine.specs.Runs.{Occurrence, state_after}
use Rattle.spi_machine.specs.State.{SpiState, is_off, run_at}
use Rattle.spi_machine.specs.Transfers.{JobWord, Run, goes_on, received_with, word_of}
use Rattle.spi_machine.specs.declared.call.Call.{Call}
use Rattle.spi_machine.specs.declared.table.SpiTable.{SpiTable}
use Rattle.machine_laws.specs.serial.Alone.{RunsOn, Running, Untouched, Serving}
use Rattle.machine_laws.specs.serial.Faults.{leaves_word}
use Rattle.machine_laws.proofs.Sendings.{act_so, start_so}
use Rattle.machine_laws.proofs.Words.{acts_units, sent_on_units, serves_other, starts_other}

-- what a job has to send, and what came in of it
abbrev seen_of : Run → List JobWord × List ℕ
seen_of r = (r.words, r.received)

abbrev run_seen : Option Run → Option (List JobWord × List ℕ)
run_seen None = None
run_seen (Some r) = Some (seen_of r)

abbrev seen_at : SpiState → ℕ → Option (List JobWord × List ℕ)
seen_at s u = run_seen (run_at s u)

-- ---- a happening that leaves a unit's word leaves its job

faulted_seen : (now : ℕ) (o : Option Run) → run_seen (faulted_run now o) ≡ run_seen o
faulted_seen now None = refl
faulted_seen now (Some r) = refl

moved_seen : (d : SpiTable) (w : World) (s : SpiState) (u : ℕ) (order : Order) → seen_at (moved d w s order) u ≡ seen_at s u
moved_seen d w s u (Fill c ws) = refl
moved_seen d w s u (SpiFault k) = by_unit (same_or_other u k) where
  by_unit : (u ≡ k) ⊎ (u ≢ k) → seen_at (moved d w s (SpiFault k)) u ≡ seen_at s u
  by_unit (inl at) =
      ap (λ i. run_seen (slice_index_or (with_item None s.units i (faulted_run w.now (run_at s i))) u None)) (sym at)
      ∙ (ap run_seen (item-same None s.units u (faulted_run w.now (run_at s u))) ∙ faulted_seen w.now (run_at s u))
  by_unit (inr ne) = ap run_seen (item-other None s.units k u (faulted_run w.now (run_at s k)) ne)
moved_seen d w s u order = refl

step_seen : (d : SpiTable) (w : World) (s : SpiState) (u : ℕ) (h : Happening Call) → leaves_word u h ≡ true → seen_at (state_after d w s h) u ≡ seen_at s u
step_seen d w s u (Acts call times) left =
    act_so (λ t. seen_at t u ≡ seen_at s u) d w s call refl
    (ap (λ us. run_seen (slice_index_or us u None)) (acts_units d s call (error_by d call (is_off s.mode) (finds_held d s call)) left))
    (λ q x ends. ap (λ us. run_seen (slice_index_or us u None)) (after_last-seen (λ s. s.units) (λ s c x. refl) s x.run x.run.transfer.failed))
step_seen d w s u (Serves line received) left = ap run_seen (serves_other d w s line received u (ready w s line) left)
step_seen d w s u (Starts unit made_by received) left =
    start_so (λ t. seen_at t u ≡ seen_at s u) d w s (number_of unit) made_by received refl (λ n. ap run_seen (starts_other d w s (number_of unit) received (next_at d s (number_of unit)) u left))
    (λ v q on. refl) (λ v q x on more. ap (λ us. run_seen (slice_index_or us u None)) (sent_on_units d w s v received x (goes_on x.run)))
step_seen d w s u (Aborts unit) left = refl
step_seen d w s u (Moves order) left = moved_seen d w s u order
step_seen d w s u (Restarts reason) left = absurd (cc left)

-- ---- a serving that doesn't end the job takes a word

served_seen : (d : SpiTable) (x : Occurrence) (s : SpiState) (u line received : ℕ) (r : Run) → run_at s u ≡ Some r → x.what ≡ Serves line received → unit_of line ≡ Some u → ready x.world s line ≡ true → goes_on r ≡ true
    → seen_at (state_after d x.world s x.what) u ≡ Some (r.words, received_with r)
served_seen d x s u line received r runs what own on goes =
    let t : SpiState = stored s (word_of r) (word_of r).goes r.transfer.incoming in
    ap (λ h. seen_at (state_after d x.world s h) u) what
    ∙ (ap (λ (b : Bool). seen_at (state_by s (if b then Some (served d x.world s (unit_of line) received (run_of s (unit_of line))) else None)) u) on
    ∙ (ap (λ (k : Option ℕ). seen_at (served d x.world s k received (run_of s k)).state u) own
    ∙ (ap (λ (o : Option Run). seen_at (served d x.world s (Some u) received o).state u) runs
    ∙ (ap (λ (b : Bool). seen_at (served_by d x.world s u received r b).state u) goes
    ∙ ap run_seen (item-same None t.units u _)))))

more_left : (r : Run) → goes_on r ≡ true → length r.received + 1 < length r.words
more_left r e = lt_is (length r.received + 1) (length r.words) (and_parts (not r.transfer.failed) (nat_lt (length r.received + 1) (length r.words)) e).1

one_more : (r : Run) → length (received_with r) ≡ length r.received + 1
one_more r = omega (arith, length-append r.received (r.transfer.incoming ∷ []))

-- the same job
same_job : (s : SpiState) (u : ℕ) (r : Run) (p : List JobWord × List ℕ) → run_at s u ≡ Some r → seen_at s u ≡ Some p → seen_of r ≡ p
same_job s u r p runs e = some_is (seen_of r) p (sym (ap run_seen runs) ∙ e)

fewer : (d : SpiTable) (u : ℕ) (s : SpiState) (ws : List JobWord) (rs : List ℕ) {xs : List Occurrence} {n : ℕ} → RunsOn d u s xs n → seen_at s u ≡ Some (ws, rs) → 0 < n → length rs + n < length ws
fewer d u s ws rs (Running t r runs) e some = absurd (omega (arith, some))
fewer d u s ws rs (Untouched t r x xs n runs left rest) e some = fewer d u (state_after d x.world s x.what) ws rs rest (step_seen d x.world s u x.what left ∙ e) some
fewer d u s ws rs (Serving t r x xs zero line received runs what own on goes rest) e some =
    let same = same_job s u r (ws, rs) runs e in
    omega (arith, more_left r goes, ap (λ (p : List JobWord × List ℕ). length p.0) same, ap (λ (p : List JobWord × List ℕ). length p.1) same)
fewer d u s ws rs (Serving t r x xs (suc n) line received runs what own on goes rest) e some =
    let same = same_job s u r (ws, rs) runs e in
    let later = fewer d u (state_after d x.world s x.what) r.words (received_with r) rest (served_seen d x s u line received r runs what own on goes) (omega arith) in
    omega (arith, later, one_more r, ap (λ (p : List JobWord × List ℕ). length p.0) same, ap (λ (p : List JobWord × List ℕ). length p.1) same)

pub fewer_servings : (d : SpiTable) (u : ℕ) (s : SpiState) (r : Run) {xs : List Occurrence} {n : ℕ} → RunsOn d u s xs n → run_at s u ≡ Some r → 0 < n → length r.received + n < length r.words
fewer_servings d u s r on runs some = fewer d u s r.words r.received on (ap run_seen runs) some
