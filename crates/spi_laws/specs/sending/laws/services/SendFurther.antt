-- A further word of a job begins for a call that waits: the event, and the moves that the window owes after it.
-- From serving.services.FurtherBegun, bookkeeping.HeldWord, spi_sequences: services.ServeSteps and 16 more.
-- Used by services.SendFirst, services.SendSteps.
use Rattle.std.proofs.Common.{◌≡◌, ◌≢◌, ◌+◌, ◌<◌, ◌==◌, ◌&&◌, ◌||◌, [], ◌∷◌, ◌++◌, ◌∙◌, ◌⊎◌, if◌then◌else◌}
use Rattle.spi_laws.specs.sending.Terms
use Terms.{After, agrees_at, AllSend, ap, arith, Arrived, asked_word, At, at_is, bank_of, banks_held, Begun}
use Terms.{begun_agrees, Bool, by_two, Called, carried_at, carried_for, carries_on, CarriesAgrees, Carrying, cases}
use Terms.{Channel, channel_next, channel_of, ChannelState, Chip, control_word, Destination, entry_carried, false}
use Terms.{FitsSpi, for_at, free_bank, fresh_history, goes_further, goes_on, Going, going_here, going_other}
use Terms.{going_with, GoingAgrees, happens, has_channel, has_ended, has_further, held_word, inl, inr, is_done}
use Terms.{is_for, is_of, is_off, is_sync_unit, IsFurther, IsLike, IsSending, IsServed, item-other, item-same, job_of}
use Terms.{JobWord, Keep, keep_ends, length, length-set, lets_of, List, may_go_on, Memory, moved_on, next_at}
use Terms.{next_job, None, not, number_of, of_held, on_wire, one_job, one_part, Option, outcome_with, OwesWords}
use Terms.{packed_position, Part, past_the_first, place_of, Placed, placed_of, pointwise, Position, position_word}
use Terms.{positive, Received, received_with, refl, Reservations, right_like, Run, run_at, run_carried, same_number}
use Terms.{same_or_other, select_by, select_of, Sends, sends_on, sent_at, sent_from, sent_on, SerialData, serve_keeps}
use Terms.{serve_lets, served_is, ServePlace, slice_get, slice_index_or, Some, some_is, SpiRepresents, SpiState}
use Terms.{SpiTable, stands-move, start_by, start_of, Starts, Store, stored, stored_is, stored_like, stored_other}
use Terms.{subst, sym, sync_owed, Take, take_gave, taken_before, taken_of, taken_same, taker_of, tells_nothing}
use Terms.{ToServe, true, UnderWay, unit_at, unit_named, unit_of_sequence, unit_other, unit_run, UnitAgrees, unpacked}
use Terms.{view, wire_at, with_carried, with_item, word_after, word_of, words_after, WordsAfter, World, Write, ℕ}
use Rattle.spi_laws.specs.sending.Sending.{device_at, HasBank, IsAt, IsSender}
use Rattle.spi_laws.specs.sending.laws.bookkeeping.CarriedOut as carried_out
use Rattle.spi_laws.specs.sending.laws.bookkeeping.HeldWord as held_word_laws
use Rattle.spi_laws.specs.sending.laws.{bookkeeping.HeldWord.{async_other, sending_of, sendings_alike}}
use Rattle.spi_laws.specs.sending.laws.{bookkeeping.SentBeside.{sends_beside}, services.SendAround.{body}}
use Rattle.spi_laws.specs.sending.laws.{services.SendWindows.{asks, WordBegins}}
use Rattle.spi_laws.specs.serving.laws.services.FurtherRight as further
use Rattle.chip_blocks.specs.units.Serials as serials
use Rattle.word_shapes.specs.declared.jobs.keeping.Taker.TheVariants as takers
use Rattle.spi_machine.specs.Transfers as transfers
use Rattle.spi_machine.specs.Transfers.{begun}
use Rattle.spi_sequences.specs.declared.service.serve.ServePlace.TheVariants as serve
use Rattle.spi_sequences.specs.declared.service.sync.SyncPlace.TheVariants as place

-- ---- the moves of the window, as the frame owes them

pub sent_words : (d : SpiTable) (q u n : ℕ) (at : Position) (bs : List ℕ) → OwesWords d u (λ z. Sends (body d q u n at bs (place.Serve z)))
sent_words d q u n at bs = record {
  moves = λ z. refl;
  lets = λ a p t v. lets_by a p t v (has_ended (take_gave t v));
  keeps = λ k p v. keeps_by k p (keep_ends k);
  stands = λ p v. refl;
}
  where
    Left : ServePlace → Type 0
    Left z = sync_owed (body d q u n at bs (place.Serve z)) ≡ Some (Sends (body d q u n at bs (place.Serve z)))

    lets_by : (a : Arrived) (p : Position) (t : Take) (v : ℕ) (b : Bool) → Left (serve_lets d a p t v b).0
    lets_by a p t v true = refl
    lets_by a p t v false = refl

    keeps_by : (k : Keep) (p : Position) (b : Bool) → Left (serve_keeps k p b).0
    keeps_by k p true = refl
    keeps_by k p false = refl

-- ---- what a unit carries out

-- a state with another run of the same sequence
module _ (s : SpiState) (u : ℕ) (x y : Carrying) (carried : carried_at s u ≡ Some x) (same : y.entry ≡ x.entry) (cs : List ChannelState) (ws : List (List (ℕ × ℕ))) where
  abbrev after : SpiState
  after = record (with_carried s u (Some y)) { channels = cs; wires = ws }

  begun_as : (view after).begun ≡ (view s).begun
  begun_as = pointwise (view after).begun (view s).begun (λ n. cases (same_or_other n u)
      (λ e. subst (λ k. entry_carried (carried_at after k) ≡ entry_carried (carried_at s k)) (sym e) (ap entry_carried (item-same None s.carried u (Some y)) ∙ ap (λ z. Some z) same ∙ sym (ap entry_carried carried)))
      (λ ne. ap entry_carried (item-other None s.carried u n (Some y) ne)))

  pub carried_view : IsLike cs s → view after ≡ view s
  carried_view like =
      ap (λ f. record (view after) { begun = f }) begun_as
      ∙ ap (λ f. record (view s) { written = f; received = (view after).received; sources = (view after).sources }) (pointwise (view after).written (view s).written like.written)
      ∙ ap (λ f. record (view s) { received = f; sources = (view after).sources }) (pointwise (view after).received (view s).received like.received)
      ∙ ap (λ f. record (view s) { sources = f }) (pointwise (view after).sources (view s).sources like.source)

-- a unit by its name
pub number_named : (u : ℕ) → u < 2 → number_of (unit_named u) ≡ Some u
number_named u few = by_two (λ n. number_of (unit_named n) ≡ Some n) refl refl u few

-- the first word of an internal channel goes to its free bank
taker_first : (x : Placed) (j : ℕ) (m : Memory) → x.channel.internal ≡ true → (j == 0) ≡ true → taker_of x j (m (asked_word x j)) ≡ takers.Bank (free_bank (m (control_word x Received)))
taker_first x j m e f =
    ap (λ q. if not q then takers.SetUp (unpacked (m (if q && j == 0 then control_word x Received else held_word x))) else if j == 0 then takers.Bank (free_bank (m (if q && j == 0 then control_word x Received else held_word x))) else takers.Bank (bank_of (m (if q && j == 0 then control_word x Received else held_word x)))) e
    ∙ ap (λ z. if z then takers.Bank (free_bank (m (if z then control_word x Received else held_word x))) else takers.Bank (bank_of (m (if z then control_word x Received else held_word x)))) f

-- ---- the word

module _ (d : SpiTable) (fits : FitsSpi d) (below : Reservations) (chip : Chip) (w : World) (s : SpiState) (q u n : ℕ) (at : Position) (bs : List ℕ) (a : Arrived) (p : Position) (v y : ℕ) (is : IsSender d d q u bs below (Called (asks q)) fresh_history)
    (h : SpiRepresents d (sending_of u q n at bs (Some a.served.failed) (device_at d q n) ∷ below) chip w s) (mine : IsAt (body d q u n at bs (place.Serve (serve.Begin a p v))) a.served a.taker)
    (i : IsFurther d (word_of chip) s w.now u a p) (wide : (unit_at chip.serials u).width ≡ (channel_next d a p).channel.width) (is_word : (run : Run) → unit_run d s u ≡ Some run → v ≡ (word_after run).sent) where
  abbrev device : ℕ
  device = device_at d q n

  abbrev held : Reservations
  held = sending_of u q n at bs (Some a.served.failed) device ∷ below

  abbrev says : IsSending d chip w h.going s u q n at bs (Some a.served.failed) device
  says = h.sending.0

  abbrev few : u < 2
  few = says.few

  on : is_off s.mode ≡ false
  on = h.right.0.1

  abbrev by : IsServed d (word_of chip) s w.now u a.served
  by = further.by d fits held chip w s h u few a p v y i wide is_word

  abbrev run : Run
  run = further.run d fits held chip w s h u few a p v y i wide is_word

  abbrev under : UnderWay d held chip w s h u run
  under = further.under d fits held chip w s h u few a p v y i wide is_word

  abbrev st : ToServe
  st = further.st d fits held chip w s h u few a p v y i wide is_word

  abbrev first : At st under.job.at (length under.job.received)
  first = further.at d fits held chip w s h u few a p v y i wide is_word

  abbrev second : At st p (length under.job.received + 1)
  second = further.next d fits held chip w s h u few a p v y i wide is_word

  abbrev follows : After st under.job.at p (length first.part.values)
  follows = further.follows d fits held chip w s h u few a p v y i wide is_word

  abbrev came : ℕ
  came = further.came d fits held chip w s h u few a p v y i wide is_word

  abbrev later_run : Run
  later_run = further.later_run d fits held chip w s h u few a p v y i wide is_word

  abbrev stored_word : JobWord
  stored_word = further.stored_word d fits held chip w s h u few a p v y i wide is_word

  abbrev channels : List ChannelState
  channels = further.channels d fits held chip w s h u few a p v y i wide is_word

  abbrev wires : List (List (ℕ × ℕ))
  wires = further.wires d fits held chip w s h u few a p v y i wide is_word

  abbrev word1 : Begun
  word1 = further.word1 d fits held chip w s h u few a p v y i wide is_word

  abbrev chip1 : Chip
  chip1 = further.chip1 d fits held chip w s h u few a p v y i wide is_word

  -- ---- its job is the one that the frame sends

  going_same : under.job ≡ says.job
  going_same = carried_out.going_same d fits below chip w s u q n at bs (Some a.served.failed) device h run by.done.is under

  sequence_is : under.job.pending.sequence ≡ q
  sequence_is = carried_out.sequence_is d fits below chip w s u q n at bs (Some a.served.failed) device h run by.done.is under

  next_is : under.job.pending.next ≡ n
  next_is = carried_out.next_is d fits below chip w s u q n at bs (Some a.served.failed) device h run by.done.is under

  at_same : under.job.at ≡ at
  at_same = ap (λ (g : Going). g.at) going_same ∙ says.place

  device_is : select_of (select_by (job_of d (next_job d under.job.pending))) ≡ device
  device_is = ap (λ j. select_of (select_by (job_of d j))) (ap (λ (g : Going). next_job d g.pending) going_same ∙ held_word_laws.job_is d fits below chip w s u q n at bs (Some a.served.failed) device h)

  selected : (unit_at chip.serials u).select ≡ select_of (select_by (job_of d (next_job d under.job.pending)))
  selected = says.select ∙ sym device_is

  run_sequence : run.sequence ≡ under.job.pending.sequence
  run_sequence = ap (λ (z : Run). z.sequence) under.runs

  -- what the unit carries out
  abbrev carrying : Carrying
  carrying = record { entry = under.job.pending; run = run }

  carried_is : carried_at s u ≡ Some carrying
  carried_is = carried_out.carried_is d fits below chip w s u q n at bs (Some a.served.failed) device h run by.done.is under

  -- ---- the event

  abbrev later_carrying : Carrying
  later_carrying = record { entry = under.job.pending; run = later_run }

  abbrev pub state1 : SpiState
  state1 = record (with_carried s u (Some later_carrying)) { channels = channels; wires = wires }

  carried_there : carried_for d s q ≡ Some carrying
  carried_there = carried_out.carried_there d fits below chip w s u q n at bs (Some a.served.failed) device h run by.done.is under is on

  may_go : may_go_on d w carrying q ≡ true
  may_go =
      all_three (is_of q under.job.pending) (is_done w.now run.transfer) (sends_on d carrying) (ap (λ z. z == q) sequence_is ∙ same_number q) by.done.done
      (ap (λ b. b || (not run.transfer.failed && has_further d under.job.pending)) (goes_further d fits held chip w s h u few a p i))
    where
      all_three : (x y z : Bool) → x ≡ true → y ≡ true → z ≡ true → (x && y && z) ≡ true
      all_three true true true e f g = refl
      all_three _ _ _ e f g = absurd (cc)

  pub further_is : happens d w s (Starts (unit_named u) (Some (asks q)) y) ≡ Some (outcome_with state1 tells_nothing (Some word1))
  further_is =
      ap (λ o. start_of d w s o (Some (asks q)) y) (number_named u few) ∙ ap (λ b. if b then sent_at d w s (Some u) y (Some q) else start_by d w s (Some u) y (next_at d s (Some u))) says.sync
      ∙ ap (λ b. if b then sent_from d w s u y q (carried_for d s q) else None) (ap (λ z. unit_of_sequence d q == z) is.unit ∙ same_number (unit_of_sequence d q)) ∙ ap (sent_from d w s u y q) carried_there
      ∙ ap (λ b. if b then Some (sent_on d w s u y carrying (goes_on run)) else None) may_go ∙ ap (λ b. Some (sent_on d w s u y carrying b)) (goes_further d fits held chip w s h u few a p i)
      ∙ ap (λ z. Some (carries_on d (stored s stored_word stored_word.goes run.transfer.incoming) u y under.job.pending (begun w.now y z run.words (received_with run)))) (sym run_sequence)
      ∙ ap (λ z. Some (outcome_with (record (with_carried z u (Some later_carrying)) { wires = with_item [] z.wires u (wire_at z u ++ on_wire y (transfers.word_of later_run) ∷ []) }) tells_nothing (Some word1))) (stored_is s stored_word stored_word.goes run.transfer.incoming)

  -- ---- the words and registers after its moves

  like : IsLike channels s
  like = stored_like s stored_word stored_word.goes run.transfer.incoming

  seen : view state1 ≡ view s
  seen = carried_view s u carrying later_carrying carried_is refl channels wires like

  abbrev going_on : Going
  going_on = moved_on under.job p came

  abbrev going_after : ℕ → Option Going
  going_after = going_with h.going u (Some going_on)

  abbrev held1 : Reservations
  held1 = sending_of u q n p bs None device ∷ below

  abbrev pub Done : Chip → Type 0
  Done c = SpiRepresents d held1 c w state1

  module _ (c : Chip) (kept : further.Keeps d fits held chip w s h u few a p v y i wide is_word c) (rest : further.IsAfter d fits held chip w s h u few a p v y i wide is_word c) (destinations : further.Destinations d fits held chip w s h u few a p v y i wide is_word c) where
    abbrev final : Chip
    final = further.placed_in d fits held chip w s h u few a p v y i wide is_word c

    words : WordsAfter st first p second follows came final
    words = words_after st first p second follows came c kept

    others : (m : ℕ) → m ≢ u → unit_at final.serials m ≡ unit_at chip.serials m
    others m ne = ap (λ x. unit_at x m) rest.serials ∙ unit_other chip u m (serials.begun y chip.serials.time (unit_at chip.serials u)) ne

    -- what is held of channels of other jobs stays
    away : (m : ℕ) (g : Going) (j : ℕ) (x : Part) (k : Channel) → m ≢ u → m < 2 → h.going m ≡ Some g → slice_get g.parts j ≡ Some x → channel_of d x.channel ≡ Some k → word_of final (held_word (placed_of d x.channel)) ≡ word_of chip (held_word (placed_of d x.channel))
    away m g j x k ne lt e there known = words.held_away x.channel k known (λ f. ne (one_job d fits held chip w s h on u m under.job g few lt under.is e under.job.at.channel j first.part x first.there there f))

    abbrev represents : GoingAgrees d (word_of chip) u under.job
    represents = agrees_at d fits held chip w s h under.on u under.job few under.is

    abbrev for : is_for d u under.job.pending ≡ true
    for = for_at d fits held chip w s h under.on u under.job few under.is

    -- the banks that the frame keeps are those that are held
    banks_kept : (j : ℕ) (x : Part) (k : Channel) → slice_get under.job.parts j ≡ Some x → channel_of d x.channel ≡ Some k → k.internal ≡ true → 0 < taken_of p j (length x.values) → word_of final (held_word (placed_of d x.channel)) ≡ slice_index_or bs j 0
    banks_kept j x k there known internal some = by_place (same_or_other j under.job.at.channel)
      where
        -- what was kept before
        before : 0 < taken_of under.job.at j (length x.values) → word_of chip (held_word (placed_of d x.channel)) ≡ slice_index_or bs j 0
        before more =
            let there_now : slice_get says.job.parts j ≡ Some x = ap (λ (g : Going). slice_get g.parts j) (sym going_same) ∙ there in
            says.kept j x k there_now known internal (subst (λ z. 0 < taken_of z j (length x.values)) at_same more)

        by_place : (j ≡ under.job.at.channel) ⊎ (j ≢ under.job.at.channel) → word_of final (held_word (placed_of d x.channel)) ≡ slice_index_or bs j 0
        by_place (inr ne) =
            words.held_away x.channel k known (λ f. ne (one_part d fits held chip w s h on u under.job few under.is under.job.at.channel j first.part x first.there there f))
            ∙ before (subst (λ z. 0 < z) (sym (taken_same d fits u (word_of chip) under.job for represents first p second follows came j x there ne)) some)
        by_place (inl e) = subst (λ z. word_of final (held_word (placed_of d z.channel)) ≡ slice_index_or bs j 0) (sym part_is) (here_kept (under.job.at.word == 0) refl)
          where
            part_is : x ≡ first.part
            part_is = some_is x first.part (sym there ∙ ap (slice_get under.job.parts) e ∙ first.there)

            here : Placed
            here = placed_of d first.part.channel

            inside : here.channel.internal ≡ true
            inside = ap (λ z. (placed_of d z.channel).channel.internal) (sym part_is) ∙ ap (λ (z : Channel). z.internal) (has_channel d fits x.channel k known) ∙ internal

            held_so : word_of final (held_word here) ≡ (if under.job.at.word == 0 then free_bank (word_of chip (control_word here Received)) else word_of chip (held_word here))
            held_so = stored_other c (position_word u) (packed_position p) 0 (held_word here) apart ∙ kept.held inside
              where
                apart : held_word here ≢ position_word u
                apart f =
                    let known_here : channel_of d first.part.channel ≡ Some k = ap (λ z. channel_of d z.channel) (sym part_is) ∙ known in
                    let le = past_the_first d first.part.channel k (held_word here) (fits.channels first.part.channel k known_here) (of_held d fits first.part.channel k known_here) in
                    absurd (omega (arith, le, f, few))

            -- the frame took the bank with its first word
            taker_is : (under.job.at.word == 0) ≡ true → a.taker ≡ takers.Bank (free_bank (word_of chip (control_word here Received)))
            taker_is z =
                i.arrived.taken.taker ∙ ap (λ x. taker_of x a.served.at.word (word_of chip (asked_word x a.served.at.word))) (served_is d fits held chip w s h u few a.served by)
                ∙ ap (λ (r : Position). taker_of here r.word (word_of chip (asked_word here r.word))) (at_is d fits held chip w s h u few a.served by) ∙ taker_first here under.job.at.word (word_of chip) inside z

            place_is : at.channel ≡ j
            place_is = ap (λ (z : Position). z.channel) (sym at_same) ∙ sym e

            here_kept : (b : Bool) → (under.job.at.word == 0) ≡ b → word_of final (held_word here) ≡ slice_index_or bs j 0
            here_kept true z =
                held_so ∙ ap (λ b. if b then free_bank (word_of chip (control_word here Received)) else word_of chip (held_word here)) z
                ∙ sym (subst (λ t. HasBank (body d q u n at bs (place.Serve (serve.Begin a p v))) t) (taker_is z) mine.2) ∙ ap (λ m. slice_index_or bs m 0) place_is
            here_kept false z =
                held_so ∙ ap (λ b. if b then free_bank (word_of chip (control_word here Received)) else word_of chip (held_word here)) z
                ∙ ap (λ z. word_of chip (held_word (placed_of d z.channel))) (sym part_is)
                ∙ before (subst (λ z. 0 < taken_of under.job.at z (length x.values)) (sym e) (subst (λ z. 0 < taken_of under.job.at under.job.at.channel (length z.values)) (sym part_is) (subst (λ m. 0 < m) (sym (taken_before d fits u (word_of chip) under.job for represents first p second follows came)) (positive under.job.at.word z))))

    sending_now : AllSend d final w going_after state1 held1
    sending_now = (
      record {
        few = few;
        sync = says.sync;
        job = going_on;
        is = going_here h.going u (Some going_on);
        sequence = sequence_is;
        next = next_is;
        place = refl;
        select = ap (λ z. (unit_at z u).select) rest.serials ∙ further.selected1 d fits held chip w s h u few a p v y i wide is_word selected ∙ device_is;
        kept = banks_kept;
        end = tt;
      },
      sends_beside d q u says.job chip final w h.going going_after s state1 says.is says.sequence (λ m ne. going_other h.going u (Some going_on) m ne) (λ m ne. ap (λ z. z.select) (others m ne)) (λ m g j x k ne lt e there known. away m g j x k ne lt e there known) (λ m ne. item-other None s.carried u m (Some later_carrying) ne) below is.alone h.sending.1,
    )

    carried_now : (m : ℕ) → m < 2 → is_sync_unit d m ≡ true → (m ≡ u) ⊎ (m ≢ u) → CarriesAgrees d (unit_at final.serials m) (run_carried (carried_at state1 m)) (going_after m)
    carried_now m lt sync (inl e) =
        subst (λ k. CarriesAgrees d (unit_at final.serials k) (run_carried (carried_at state1 k)) (going_after k)) (sym e)
        (subst (λ o. CarriesAgrees d (unit_at final.serials u) (run_carried o) (going_after u)) (sym (item-same None s.carried u (Some later_carrying)))
        (subst (λ o. CarriesAgrees d (unit_at final.serials u) (Some later_run) o) (sym (going_here h.going u (Some going_on)))
        (subst (λ z. CarriesAgrees d (unit_at z u) (Some later_run) (Some going_on)) (sym rest.serials) (further.unit1 d fits held chip w s h u few a p v y i wide is_word))))
    carried_now m lt sync (inr ne) =
        subst (λ x. CarriesAgrees d x (run_carried (carried_at state1 m)) (going_after m)) (sym (others m ne))
        (subst (λ o. CarriesAgrees d (unit_at chip.serials m) (run_carried o) (going_after m)) (sym (item-other None s.carried u m (Some later_carrying) ne))
        (subst (λ o. CarriesAgrees d (unit_at chip.serials m) (run_carried (carried_at s m)) o) (sym (going_other h.going u (Some going_on) m ne)) (h.sends m lt sync)))

    over : Done final
    over =
        begun_agrees st first p second follows came final words state1 seen like held1 (h.right.0, right_like d s channels like.source below h.right.1) sending_now h.carriers
        (λ m k agrees. banks_held d held held1 going_after (word_of final) (view s) m k (sendings_alike d below u q n n at p bs bs (Some a.served.failed) None device device) agrees) (λ m owes. owes)
        (stands-move c w (Store (position_word u) (packed_position p)) 0 kept.outside) rest.wiring rest.control (ap (λ x. length x.units) rest.serials ∙ length-set chip.serials.units u _ ∙ h.size)
        (λ m lt async. let ne = async_other d u m says.sync async in
        subst (λ x. UnitAgrees d x (run_at s m) (going_after m)) (sym (others m ne))
        (subst (λ o. UnitAgrees d (unit_at chip.serials m) (run_at s m) o) (sym (going_other h.going u (Some going_on) m ne)) (h.units m lt async)))
        (λ m lt sync. carried_now m lt sync (same_or_other m u))
        (λ m j lt. stored_other c (position_word u) (packed_position p) 0 (place_of (Destination m) j) (λ f. omega (arith, f, few)) ∙ destinations m j lt)

  pub word_begins : WordBegins d held1 u (asks q) chip chip1 w s (Write (SerialData u) v) y (body d q u n at bs (place.Serve (lets_of d a p)))
  word_begins = record {
    state = state1;
    begins = word1;
    is = further_is;
    sends = further.further_sends d fits held chip w s h u few a p v y i wide is_word selected;
    owes = further.further_owes d fits held chip w s h u few a p v y i wide is_word (λ z. Sends (body d q u n at bs (place.Serve z))) (sent_words d q u n at bs) Done over;
  }
