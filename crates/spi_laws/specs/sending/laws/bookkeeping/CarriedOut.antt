-- The unit of a call that waits carries out its sequence, so far as the frame says.
-- From bookkeeping.HeldWord, services.SendWindows, serving.words.FacingWords.
-- Used by services.SendFirst, services.SendFurther, services.SendGoesOn, services.SendKeeps, services.SendLast.
use Rattle.std.proofs.Common.{◌≡◌, ◌||◌, ◌∷◌, ◌∙◌, if◌then◌else◌}
use Rattle.spi_laws.specs.sending.Terms
use Terms.{ap, Bool, Called, carried_at, carried_for, Carrying, Chip, entry_carried, false, FitsSpi, fresh_history}
use Terms.{Going, is_off, is_sync_sequence, IsSending, List, None, not, Option, Pending, Position, Reservations, Run}
use Terms.{run_carried, RunsBy, Some, SpiRepresents, SpiState, SpiTable, subst, sym, UnderWay, unit_of_sequence}
use Terms.{some_is, unit_run, view, World, ℕ}
use Rattle.spi_laws.specs.sending.Sending.{IsSender}
use Rattle.spi_laws.specs.sending.laws.bookkeeping.HeldWord as held_word_laws
use Rattle.spi_laws.specs.sending.laws.{bookkeeping.HeldWord.{sending_of}}
use Rattle.spi_laws.specs.sending.laws.{services.SendWindows.{asks}}

-- what a unit carries out with a run that it has
pub carrying_of : (o : Option Carrying) (r : Run) → run_carried o ≡ Some r → (e : Pending) × (o ≡ Some (record { entry = e; run = r }))
carrying_of None r f = absurd (cc)
carrying_of (Some x) r f = (x.entry, ap (λ z. Some (record { entry = x.entry; run = z })) (some_is x.run r f))

module _ (d : SpiTable) (fits : FitsSpi d) (below : Reservations) (chip : Chip) (w : World) (s : SpiState) (u q n : ℕ) (at : Position) (bs : List ℕ) (failed : Option Bool) (device : ℕ) (h : SpiRepresents d (sending_of u q n at bs failed device ∷ below) chip w s)
    (run : Run) (runs : unit_run d s u ≡ Some run) (under : UnderWay d (sending_of u q n at bs failed device ∷ below) chip w s h u run) where
  abbrev says : IsSending d chip w h.going s u q n at bs failed device
  says = h.sending.0

  abbrev its : Pending
  its = under.job.pending

  pub going_same : under.job ≡ says.job
  going_same = some_is under.job says.job (sym under.is ∙ says.is)

  pub sequence_is : its.sequence ≡ q
  sequence_is = ap (λ (g : Going). g.pending.sequence) going_same ∙ says.sequence

  pub next_is : its.next ≡ n
  next_is = ap (λ (g : Going). g.pending.next) going_same ∙ says.next

  pub begun_is : (view s).begun u ≡ Some its
  begun_is = subst (λ b. RunsBy b (view s) u says.job.pending) says.sync (held_word_laws.going_all d fits below chip w s u q n at bs failed device h).1 ∙ ap (λ (g : Going). Some g.pending) (sym going_same)

  abbrev pub carrying : Carrying
  carrying = record { entry = its; run = run }

  pub carried_is : carried_at s u ≡ Some carrying
  carried_is = there.1 ∙ ap (λ z. Some (record { entry = z; run = run })) (some_is there.0 its (sym (ap entry_carried there.1) ∙ begun_is))
    where
      there : (e : Pending) × (carried_at s u ≡ Some (record { entry = e; run = run }))
      there = carrying_of (carried_at s u) run (sym (held_word_laws.runs_sent d fits below chip w s u q n at bs failed device h) ∙ runs)

  pub carried_there : IsSender d d q u bs below (Called (asks q)) fresh_history → is_off s.mode ≡ false → carried_for d s q ≡ Some carrying
  carried_there is on =
      ap (λ z. if z || not (is_sync_sequence d q) then None else carried_at s (unit_of_sequence d q)) on ∙ ap (λ z. if not z then None else carried_at s (unit_of_sequence d q)) is.sync ∙ ap (carried_at s) (sym is.unit) ∙ carried_is
