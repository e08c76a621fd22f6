-- What a frame holds that waits for a word: how it changes, and what it says of the unit's words.
-- From serving.words.FacingWords, serving.words.Positions, spi_sequences: words.PendingWords and 4 more.
-- Used by services.SendFurther, services.SendGoesOn, services.SendLast, services.SendSteps and 9 more.
use Rattle.std.proofs.Common.{◌≡◌, ◌≢◌, ◌/◌, ◌%◌, ◌<◌, ◌≤◌, ◌==◌, ◌∷◌, ◌∙◌, if◌then◌else◌}
use Rattle.spi_laws.specs.sending.Terms
use Terms.{agrees_at, ap, arith, Bool, Call, Called, carried_at, CarriesAgrees, Channel, channel_of, Chip, done_alike}
use Terms.{false, FitsSpi, flat_map-cons, for_at, Going, going_next, GoingAgrees, held_word, holds_changed, HoldsLike}
use Terms.{is_done, is_for, is_off, is_sync_unit, IsDone, IsSending, IsServed, job_at_place, job_place, jobs_of, KnowsEnd, length}
use Terms.{List, next_job, None, Option, Part, part_most, parts_few, place_back, placed_of, Position, position_in}
use Terms.{position_word, Read, readied_by, refl, Reservation, Reservations, ReservedBy, Run, run_at, run_carried}
use Terms.{run_in, run_of, running_says, running_word, RunsNext, Sending, SerialWait, Served, slice_get}
use Terms.{slice_index_or, Some, SpiRepresents, SpiState, SpiTable, stall_of, Stands, state_done, state_says}
use Terms.{stored_by, subst, sym, SyncTransmit, taken_of, true, under_way, UnderWay, unit_at, unit_run, view, word_of}
use Terms.{World, ℕ}
use Rattle.spi_laws.specs.sending.laws.hardware.WaitedWord.{waited}
use Rattle.spi_laws.specs.serving.laws.words.Positions.{here as part_here}
use Rattle.chip_blocks.specs.units.Serials as serials
use Rattle.spi_machine.specs.declared.call.Call.TheVariants as calls

-- what a frame of the call holds
abbrev pub sending_of : (number sequence next : ℕ) → Position → (banks : List ℕ) → (failed : Option Bool) → (device : ℕ) → ReservedBy Call Reservation
sending_of u q n at banks failed device = record { by = Called (calls.Sequence q SyncTransmit); what = Sending u q n at banks failed device; acted = None }

-- it holds nothing of channels
pub sends_alike : (d : SpiTable) (below : Reservations) (u q n : ℕ) (at : Position) (banks : List ℕ) (failed : Option Bool) (device : ℕ) → HoldsLike d below (sending_of u q n at banks failed device ∷ below)
sends_alike d below u q n at banks failed device = record {
  puts = λ sources c r. refl;
  takes = λ c. refl;
  prepares = refl;
  readied = flat_map-cons (λ h. readied_by h.what) (sending_of u q n at banks failed device) below;
  stored = flat_map-cons (λ h. stored_by h.what) (sending_of u q n at banks failed device) below;
}

-- a unit whose jobs aren't sent is another than one whose are
pub async_other : (d : SpiTable) (u m : ℕ) → is_sync_unit d u ≡ true → is_sync_unit d m ≡ false → m ≢ u
async_other d u m sync async e = let f = sym async ∙ ap (is_sync_unit d) e ∙ sync in absurd (cc)

pub like_through : (d : SpiTable) (a b c : Reservations) → HoldsLike d a b → HoldsLike d a c → HoldsLike d b c
like_through d a b c x y = record {
  puts = λ sources n r. y.puts sources n r ∙ sym (x.puts sources n r);
  takes = λ n. y.takes n ∙ sym (x.takes n);
  prepares = y.prepares ∙ sym x.prepares;
  readied = y.readied ∙ sym x.readied;
  stored = y.stored ∙ sym x.stored;
}

pub sendings_alike : (d : SpiTable) (below : Reservations) (u q n m : ℕ) (at p : Position) (banks bs : List ℕ) (failed o : Option Bool) (device e : ℕ) → HoldsLike d (sending_of u q n at banks failed device ∷ below) (sending_of u q m p bs o e ∷ below)
sendings_alike d below u q n m at p banks bs failed o device e =
    like_through d below (sending_of u q n at banks failed device ∷ below) (sending_of u q m p bs o e ∷ below) (sends_alike d below u q n at banks failed device) (sends_alike d below u q m p bs o e)

-- it knows other banks of its job, or how its word has ended
pub reheld : (d : SpiTable) (below : Reservations) (chip : Chip) (w : World) (s : SpiState) (u q n : ℕ) (at : Position) (banks bs : List ℕ) (failed o : Option Bool) (device : ℕ) (h : SpiRepresents d (sending_of u q n at banks failed device ∷ below) chip w s)
    → ((i : ℕ) (x : Part) (k : Channel) → slice_get h.sending.0.job.parts i ≡ Some x → channel_of d x.channel ≡ Some k → k.internal ≡ true → 0 < taken_of at i (length x.values) → word_of chip (held_word (placed_of d x.channel)) ≡ slice_index_or bs i 0)
    → KnowsEnd w.now (run_carried (carried_at s u)) o → SpiRepresents d (sending_of u q n at bs o device ∷ below) chip w s
reheld d below chip w s u q n at banks bs failed o device h kept end =
    let says = h.sending.0 in
    holds_changed d (sending_of u q n at banks failed device ∷ below) (sending_of u q n at bs o device ∷ below) chip w s h (sendings_alike d below u q n n at at banks bs failed o device device) h.right (
      record {
        few = says.few;
        sync = says.sync;
        job = says.job;
        is = says.is;
        sequence = says.sequence;
        next = says.next;
        place = says.place;
        select = says.select;
        kept = kept;
        end = end;
      },
      h.sending.1,
    ) h.carriers h.owed

-- ---- what it says of the unit's words

module _ (d : SpiTable) (fits : FitsSpi d) (below : Reservations) (chip : Chip) (w : World) (s : SpiState) (u q n : ℕ) (at : Position) (banks : List ℕ) (failed : Option Bool) (device : ℕ) (h : SpiRepresents d (sending_of u q n at banks failed device ∷ below) chip w s) where
  abbrev held : Reservations
  held = sending_of u q n at banks failed device ∷ below

  abbrev pub says : IsSending d chip w h.going s u q n at banks failed device
  says = h.sending.0

  abbrev pub job : Going
  job = says.job

  pub on : is_off s.mode ≡ false
  on = h.right.0.1

  pub going_all : RunsNext d (view s) u (Some job)
  going_all = going_next d fits held chip w s h u job says.few says.is

  -- its job is that of the sequence at this place
  pub job_is : next_job d job.pending ≡ job_at_place d q n
  job_is =
      sym (job_place d fits job.pending.sequence job.pending.next (h.sound.entries job.pending going_all.0).next)
      ∙ ap (λ i. job_at_place d i job.pending.next) says.sequence ∙ ap (job_at_place d q) says.next

  pub within : n < length (jobs_of d q)
  within = subst (λ i. n < length (jobs_of d i)) says.sequence (subst (λ i. i < length (jobs_of d job.pending.sequence)) says.next (h.sound.entries job.pending going_all.0).next)

  pub run_said : run_in (word_of chip (running_word u)) ≡ Some (record { job = job_at_place d q n; sequence = q })
  run_said = running_says d fits held chip w s h on u says.few (Some job) says.is ∙ ap (λ i. Some (record { job = i; sequence = job.pending.sequence })) job_is ∙ ap (λ i. Some (record { job = job_at_place d q n; sequence = i })) says.sequence

  abbrev for : is_for d u job.pending ≡ true
  for = for_at d fits held chip w s h on u job says.few says.is

  abbrev represents : GoingAgrees d (word_of chip) u job
  represents = agrees_at d fits held chip w s h on u job says.few says.is

  abbrev pub stands : Stands d fits u (word_of chip) job for represents job.at (length job.received)
  stands = part_here d fits u (word_of chip) job for represents

  pub place_said : position_in (word_of chip (position_word u)) ≡ at
  place_said = ap (λ v. position_in v) represents.position ∙ place_back job.at (omega (arith, few, parts)) (omega (arith, inside, most)) ∙ says.place
    where
      few : job.at.channel < length job.parts
      few = represents.place

      parts : length job.parts ≤ 4
      parts = parts_few d fits u (word_of chip) job for represents

      inside : job.at.word < length stands.part.values
      inside = stands.inside

      most : length stands.part.values ≤ 64
      most = part_most d fits u (word_of chip) job for represents job.at.channel stands.part stands.there

  -- what the unit runs it carries out for a call
  pub runs_sent : unit_run d s u ≡ run_carried (carried_at s u)
  runs_sent = ap (λ b. if b then run_carried (carried_at s u) else run_at s u) says.sync

-- ---- a word that is done

end_is : (now : ℕ) (r : Option Run) (failed : Bool) → KnowsEnd now r (Some failed) → (run : Run) × (r ≡ Some run) × (is_done now run.transfer ≡ true) × (run.transfer.failed ≡ failed)
end_is now None failed e = absurd (let none = e.0 in cc)
end_is now (Some run) failed e = (run, refl, e.0, e.1)

module _ (d : SpiTable) (fits : FitsSpi d) (below : Reservations) (chip : Chip) (w : World) (s : SpiState) (u q n : ℕ) (at : Position) (banks : List ℕ) (failed : Bool) (device : ℕ) (h : SpiRepresents d (sending_of u q n at banks (Some failed) device ∷ below) chip w s) where
  abbrev pub served_sent : Served
  served_sent = record { run = record { job = job_at_place d q n; sequence = q }; at = at; failed = failed }

  -- the unit's words are those that the frame has
  pub word_sent : IsServed d (word_of chip) s w.now u served_sent
  word_sent = let e = end_is w.now (run_carried (carried_at s u)) failed h.sending.0.end in record {
    done = record { run = e.0; is = runs_sent d fits below chip w s u q n at banks (Some failed) device h ∙ e.1; done = e.2; failed = e.3 };
    run = run_said d fits below chip w s u q n at banks (Some failed) device h;
    at = place_said d fits below chip w s u q n at banks (Some failed) device h;
  }

-- a frame that read whether its word failed knows that it is done
module _ (d : SpiTable) (fits : FitsSpi d) (below : Reservations) (chip : Chip) (w : World) (s : SpiState) (u q n : ℕ) (at : Position) (banks : List ℕ) (device : ℕ) (h : SpiRepresents d (sending_of u q n at banks None device ∷ below) chip w s) (stall : stall_of chip (Read (SerialWait u)) ≡ 0) where
  abbrev waiting : Reservations
  waiting = sending_of u q n at banks None device ∷ below

  abbrev waits : IsSending d chip w h.going s u q n at banks None device
  waits = h.sending.0

  abbrev pub read : ℕ
  read = serials.state (unit_at chip.serials u) chip.serials.time

  run_there : (run : Run) × (unit_run d s u ≡ Some run)
  run_there =
      let a : CarriesAgrees d (unit_at chip.serials u) (run_carried (carried_at s u)) (h.going u) = h.sends u waits.few waits.sync in
      let b = subst (λ o. CarriesAgrees d (unit_at chip.serials u) (run_carried (carried_at s u)) o) waits.is a in (run_of d waits.job b.0, runs_sent d fits below chip w s u q n at banks None device h ∙ b.1)

  way : UnderWay d waiting chip w s h u run_there.0
  way = under_way d fits waiting chip w s h u waits.few run_there.0 run_there.1

  ended : serials.is_done (unit_at chip.serials u) chip.serials.time ≡ true
  ended = waited chip u way.word way.stands stall

  done : IsDone d s w.now u (read / 4 % 2 == 1)
  done = state_done d fits waiting chip w s h u waits.few (read / 4 % 2 == 1) (sym (done_alike d fits waiting chip w s h u waits.few) ∙ ended) (sym (state_says (unit_at chip.serials u) chip.serials.time).1)

  pub knows_end : SpiRepresents d (sending_of u q n at banks (Some (read / 4 % 2 == 1)) device ∷ below) chip w s
  knows_end =
      reheld d below chip w s u q n at banks banks None (Some (read / 4 % 2 == 1)) device h waits.kept
      (subst (λ o. KnowsEnd w.now o (Some (read / 4 % 2 == 1))) (sym done.is ∙ runs_sent d fits below chip w s u q n at banks None device h) (done.done, done.failed))
