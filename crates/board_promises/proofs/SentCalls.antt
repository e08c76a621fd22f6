-- A call of Spi_SyncTransmit that ends with E_OK has sent all words of its sequence, none of which failed, and what came in is stored.
use Rattle.std.proofs.Common.{◌≡◌, ◌≢◌, ℕ, ◌+◌, ◌<◌, ◌≤◌, ◌==◌, nat_le, nat_lt, Bool, true, false, not, ◌&&◌, ◌||◌, List, [], ◌∷◌, ◌++◌, length, length-append, drop, slice_get, slice_index_or, Option, Some, None, is_some, refl, sym, ◌∙◌, ap, subst, arith, ◌⊎◌, inl, inr}
use Rattle.std.specs.Prelude.{IsSome, if◌then◌else◌}
use Rattle.std.proofs.lemmas.Bool.Decides.{nat_tests}
use Rattle.mcal_base.specs.facts.Options.{some_is}
use Rattle.mcal_base.specs.facts.Numbers.{eq_is, eq_self, eq_turned, same_or_other}
use Rattle.mcal_base.specs.declared.answer.Answer.{Answer}
use Rattle.mcal_base.specs.declared.answer.Head.TheVariants.{Name}
use Rattle.mcal_base.specs.declared.answer_name.AnswerName.{AnswerName}
use Rattle.mcal_base.specs.declared.answer_name.AnswerName.TheVariants.{EOk, ENotOk, SpiSeqOk, SpiSeqFailed}
use Rattle.mcal_base.specs.declared.directive.Order.{Order}
use Rattle.mcal_base.specs.declared.directive.Order.TheVariants.{Fill, SpiFault}
use Rattle.mcal_base.specs.declared.error_name.ErrorName.{ErrorName}
use Rattle.mcal_base.specs.declared.moves.Unit as units
use Rattle.run_model.specs.Frame.{begun_by, state_by}
use Rattle.run_model.specs.Machine.{Happening, Acts, Serves, Starts, Aborts, Moves, Restarts, Begun, Outcome, outcome, no_answer, named, tells_error}
use Rattle.spi_machine.proofs.Begins.{happens-begins}
use Rattle.spi_machine.proofs.Numbers.{item-same, item-other}
use Rattle.spi_machine.proofs.Runs.{serve_by}
use Rattle.spi_machine.proofs.Sending.{BeginsSending, EndsSending, GoesOnSending, IsSentOn, act-either, sending-either, start-either}
use Rattle.spi_machine.proofs.Stored.{after_last-word, last-receives, stored-word}
use Rattle.spi_machine.specs.Checks.{answer_refused, error_by}
use Rattle.spi_machine.specs.Machine.{spi_machine, act_by, acts, acts_by, as_begun, as_requested, carries_job, faulted_carrying, finds_held, job_done, job_words, moved, next_at, number_of, ready, run_of, sends_on, sent, sent_by, sent_on, sequence_begun, served, stored, after_last, unit_of}
use Rattle.spi_machine.specs.Numbered.{word_at}
use Rattle.spi_machine.specs.Pending.{Pending, goes_to_next, has_further, is_of, next_job}
use Rattle.spi_machine.specs.Promised.{destination_word, go_there, goes_to_array, is_beginning, is_init, received_at}
use Rattle.spi_machine.specs.State.{SpiState, Carrying, carried_at, first_state, internal_word, is_off}
use Rattle.spi_machine.specs.Table.{is_sync_unit, job_of, jobs_of, select_by}
use Rattle.spi_machine.specs.Transfers.{Goes, ToDestination, JobWord, Run, begun, goes_on, is_done, masked, no_word, received_with, word_of}
use Rattle.spi_machine.specs.Wiring.{is_sync_sequence, unit_of_sequence}
use Rattle.spi_machine.specs.declared.call.Call.{Call}
use Rattle.spi_machine.specs.declared.call.Call.TheVariants.{Sequence}
use Rattle.spi_machine.specs.declared.call.SequenceCall.TheVariants.{SyncTransmit}
use Rattle.spi_machine.specs.declared.table.SpiTable.{SpiTable}
use Rattle.machine_laws.specs.serial.Faults.{begins_on, is_unit, run_carried}
use Rattle.machine_laws.proofs.Sendings.{act_plain}
use Rattle.machine_laws.proofs.SentWords.{acts_carried, sent_frees, sent_on_other, serves_carried, starts_carried}
use Rattle.machine_laws.proofs.Words.{plain_there, served_begins_on}
use Rattle.board_promises.specs.whole_runs.Runs.{Event, AreAllowed, told_or_nothing}
use Rattle.board_promises.specs.whole_runs.SequenceRuns.{SequenceEvent}
use Rattle.board_promises.proofs.SequenceSteps.{seen}
use Rattle.board_promises.specs.run_laws.Results.{begun_at, seen_at, state_of}
use Rattle.board_promises.specs.run_laws.Sent.{SentJob, word_in, all_in, begins_for, WordBegins, WordGood, IsStored, IsOver, Sends, Begins, Waits, NextWord, NextJob, SendsAll, WordFailed, EndsSent, AreSent, ends_call}
use Rattle.board_promises.proofs.Cancels.{seen_is}
use Rattle.board_promises.proofs.SentStories.{carried_is, init_carried, never_sends, sent_story}
use Rattle.board_promises.proofs.WordStories.{WordOf, failed_if, has_failed, never_runs}

-- ---- what a unit carries out is what a call has sent

-- the job that a unit runs for a call is the last one that the call has begun, and the others are over
pub record Carries (d : SpiTable) (u : ℕ) (past : List (Event Call)) (x : Carrying) : Type 0 where
  pub unit : unit_of_sequence d x.entry.sequence ≡ u
  pub over : List SentJob
  pub now : SentJob
  pub sends : Sends d x.entry.sequence past over now
  pub words : now.words ≡ x.run.words
  pub taken : now.taken ≡ x.run.received
  pub last : now.last ≡ x.run.transfer.incoming
  pub job : now.job ≡ next_job d x.entry
  pub place : length over ≡ x.entry.next

abbrev pub AllCarry : SpiTable → List (Event Call) → Type 0
AllCarry d past = (u : ℕ) (x : Carrying) → carried_at (state_of d past) u ≡ Some x → Carries d u past x

-- ---- what came in is stored

there_own : (x : JobWord) → x.goes ≡ ToDestination → goes_to_array x.channel x.place x x.goes ≡ true
there_own x e = by x.goes e
  where
    by : (g : Goes) → g ≡ ToDestination → goes_to_array x.channel x.place x g ≡ true
    by ToDestination e = ap (λ b. b && (x.place == x.place)) (eq_self x.channel) ∙ eq_self x.place
    by g e = absurd (cc e)

if_there : (b : Bool) (v other : ℕ) → b ≡ true → (if b then v else other) ≡ v
if_there true v other e = refl
if_there false v other e = absurd (cc e)

-- the word in transfer of the job is that of the run
word_is : (now : SentJob) (r : Run) → now.words ≡ r.words → now.taken ≡ r.received → word_in now ≡ word_of r
word_is now r e f = ap (λ xs. slice_index_or xs (length now.taken) no_word) e ∙ ap (λ ns. slice_index_or r.words (length ns) no_word) f

all_is : (now : SentJob) (r : Run) → now.taken ≡ r.received → now.last ≡ r.transfer.incoming → all_in now ≡ received_with r
all_is now r f g = ap (λ ns. ns ++ now.last ∷ []) f ∙ ap (λ n. r.received ++ n ∷ []) g

stored_so : (t : SpiState) (now : SentJob) (r : Run) → now.words ≡ r.words → now.taken ≡ r.received → now.last ≡ r.transfer.incoming
    → ((word_of r).goes ≡ ToDestination → destination_word t (word_of r).channel (word_of r).place ≡ r.transfer.incoming) → IsStored t now
stored_so t now r e f g h =
    subst (λ (y : JobWord). y.goes ≡ ToDestination → destination_word t y.channel y.place ≡ now.last) (sym (word_is now r e f)) (λ goes. h goes ∙ sym g)

-- so many words have come in as the job ends
all_taken : (n m : ℕ) → nat_lt (n + 1) m ≡ false → m ≤ n + 1
all_taken n m e = grind (arith, nat_tests, e)

over_so : (d : SpiTable) (s t : SpiState) (now : SentJob) (r : Run) → t.channels ≡ (after_last s r false).channels → now.words ≡ r.words → now.taken ≡ r.received → now.last ≡ r.transfer.incoming
    → nat_lt (length r.received + 1) (length r.words) ≡ false → IsOver t now
over_so d s t now r channels e f g done =
    let fit : length r.words ≤ length (received_with r) = omega (arith, all_taken (length r.received) (length r.words) done, length-append r.received (r.transfer.incoming ∷ [])) in
    record {
      whole = subst (λ ns. length now.words ≤ length ns) (sym (all_is now r f g)) (subst (λ ws. length ws ≤ length (received_with r)) (sym e) fit);
      stored = stored_so t now r e f g (λ goes.
          ap (λ cs. destination_word (record s { channels = cs }) (word_of r).channel (word_of r).place) channels
          ∙ (after_last-word s r false (word_of r).channel (word_of r).place refl ∙ if_there (goes_to_array (word_of r).channel (word_of r).place (word_of r) (word_of r).goes) r.transfer.incoming (destination_word s (word_of r).channel (word_of r).place) (there_own (word_of r) goes)));
      readable = λ n y at goes last.
          ap (λ cs. internal_word (record s { channels = cs }) y.channel true y.place) channels
          ∙ (last-receives s r false n y refl fit (ap (λ ws. slice_get ws n) (sym e) ∙ at) goes (ap (λ ws. go_there y.channel y.place (drop (n + 1) ws)) (sym e) ∙ last)
          ∙ ap (λ ns. word_at ns n) (sym (all_is now r f g)));
    }

-- ---- a good word, and a free unit

ticks_over : (began now : ℕ) → nat_le (began + 8) now ≡ true → began + 8 ≤ now
ticks_over began now e = grind (arith, nat_tests, e)

first_true : (a b : Bool) → a && b ≡ true → a ≡ true
first_true true b e = refl
first_true false b e = absurd (cc e)

module _ (d : SpiTable) (e : Event Call) (past : List (Event Call)) (allowed : AreAllowed (spi_machine d) first_state past) (u : ℕ) (x : Carrying) (is : carried_at (state_of d past) u ≡ Some x) (done : is_done e.world.now x.run.transfer ≡ true) where
  its_word : WordOf d u past x.run
  its_word = sent_story d u past allowed x.run (ap (λ o. run_carried o) is)

  its_end : its_word.word.start.world.now + 8 ≤ e.world.now
  its_end = subst (λ n. n + 8 ≤ e.world.now) its_word.began (ticks_over x.run.transfer.began e.world.now done)

  -- the word in transfer of what a unit carries out is good, or has failed, where it says so
  good_word : x.run.transfer.failed ≡ false → WordGood d u e past
  good_word clear = record { word = its_word.word; done = its_end; good = λ failed. absurd (cc (sym (failed_if d u past x.run its_word failed) ∙ clear)) }

  failed_word : x.run.transfer.failed ≡ true → WordFailed d u e past
  failed_word was = record { word = its_word.word; done = its_end; failed = has_failed d u past x.run its_word was }

on_if_clear : (d : SpiTable) (q : ℕ) (off held : Bool) → error_by d (Sequence q SyncTransmit) off held ≡ None → off ≡ false
on_if_clear d q false held e = refl
on_if_clear d q true held e = absurd (cc e)

-- where a call may begin its sequence the unit carries out nothing
unit_free : (off sync : Bool) (o : Option Carrying) → off ≡ false → sync ≡ true → (if off || not sync then None else o) ≡ None → o ≡ None
unit_free true sync o on own free = absurd (cc on)
unit_free false false o on own free = absurd (cc own)
unit_free false true o on own free = free

-- ---- an event that leaves it

-- the same but for a fault
record IsSame (x y : Carrying) : Type 0 where
  entry : y.entry ≡ x.entry
  words : y.run.words ≡ x.run.words
  received : y.run.received ≡ x.run.received
  incoming : y.run.transfer.incoming ≡ x.run.transfer.incoming

same_self : (x : Carrying) → IsSame x x
same_self x = record { entry = refl; words = refl; received = refl; incoming = refl }

waits : (d : SpiTable) (u : ℕ) (e : Event Call) (past : List (Event Call)) (x y : Carrying) → begins_on u (begun_at d e past) ≡ false → ends_call x.entry.sequence e.what (seen_at d e past).told.error ≡ false → IsSame x y → Carries d u past x → Carries d u (e ∷ past) y
waits d u e past x y quiet calm same c = record {
  unit = ap (λ (p : Pending). unit_of_sequence d p.sequence) same.entry ∙ c.unit;
  over = c.over;
  now = c.now;
  sends = subst (λ (p : Pending). Sends d p.sequence (e ∷ past) c.over c.now) (sym same.entry) (Waits e past c.over c.now c.sends (ap (λ v. begins_on v (begun_at d e past)) c.unit ∙ quiet) calm);
  words = c.words ∙ sym same.words;
  taken = c.taken ∙ sym same.received;
  last = c.last ∙ sym same.incoming;
  job = c.job ∙ ap (λ p. next_job d p) (sym same.entry);
  place = c.place ∙ ap (λ (p : Pending). p.next) (sym same.entry);
}

is_false : (b : Bool) → (b ≡ true → ⊥) → b ≡ false
is_false true h = absurd (h refl)
is_false false h = refl

-- another call, one that finds an error and one of another sequence end no call of the sequence
others_calm : (q : ℕ) (call : Call) (times : ℕ → ℕ) (o : Option ErrorName) → sent_by (Some call) ≡ None → ends_call q (Acts call times) o ≡ false
others_calm q (Sequence k SyncTransmit) times o n = absurd (cc n)
others_calm q call times o n = refl

error_calm : (q : ℕ) (call : Call) (times : ℕ → ℕ) (er : ErrorName) → ends_call q (Acts call times) (Some er) ≡ false
error_calm q (Sequence k SyncTransmit) times er = refl
error_calm q call times er = refl

ends_calm : (q k : ℕ) (call : Call) (times : ℕ → ℕ) → sent_by (Some call) ≡ Some k → (k == q) ≡ false → ends_call q (Acts call times) None ≡ false
ends_calm q k (Sequence n SyncTransmit) times c e = ap (λ i. i == q) (some_is n k c) ∙ e
ends_calm q k call times c e = absurd (cc c)

-- the unit of a sequence that ends is free
sent_own : (d : SpiTable) (s : SpiState) (v : ℕ) (y : Carrying) (failed : Bool) (u : ℕ) → u ≡ v → carried_at (sent d s v y failed).state u ≡ None
sent_own d s v y failed u own = ap (λ i. carried_at (sent d s v y failed).state i) own ∙ item-same None (job_done d s y failed).carried v None

module _ (d : SpiTable) (e : Event Call) (past : List (Event Call)) (out : Outcome SpiState) (made : (spi_machine d).happens e.world (state_of d past) e.what ≡ Some out) (allowed : AreAllowed (spi_machine d) first_state past) (before : AllCarry d past) where
  abbrev here : SpiState
  here = state_of d past

  begun_is : begun_at d e past ≡ out.begins
  begun_is = ap begun_by made

  after_is : state_of d (e ∷ past) ≡ out.state
  after_is = ap (λ o. state_by here o) made

  -- the error that is seen is the outcome's
  calm_is : (q : ℕ) → ends_call q e.what out.told.error ≡ false → ends_call q e.what (seen_at d e past).told.error ≡ false
  calm_is q calm = ap (λ o. ends_call q e.what (told_or_nothing o).error) made ∙ calm

  calm_so : (h : Happening Call) → e.what ≡ h → (q : ℕ) → ((o : Option ErrorName) → ends_call q h o ≡ false) → ends_call q e.what out.told.error ≡ false
  calm_so h at q none = ap (λ k. ends_call q k out.told.error) at ∙ none out.told.error

  -- it stays where no word begins on the unit, and its call doesn't end
  stays : (u : ℕ) (x : Carrying) → begins_on u out.begins ≡ false → ends_call x.entry.sequence e.what out.told.error ≡ false → carried_at here u ≡ Some x → Carries d u (e ∷ past) x
  stays u x quiet calm is = waits d u e past x x (ap (λ o. begins_on u o) begun_is ∙ quiet) (calm_is x.entry.sequence calm) (same_self x) (before u x is)

  -- nothing is carried out on a unit of the other kind
  is_sync : (u : ℕ) (x : Carrying) → carried_at here u ≡ Some x → is_sync_unit d u ≡ true
  is_sync u x is = by (is_sync_unit d u) refl
    where
      by : (b : Bool) → is_sync_unit d u ≡ b → b ≡ true
      by true h = refl
      by false h = absurd (cc (sym (never_sends d u past h) ∙ is))

  not_begun : is_beginning here e.what ≡ false → (u : ℕ) → begins_on u out.begins ≡ false
  not_begun none u = by out.begins (happens-begins d e.world here e.what out made ∙ none)
    where
      by : (o : Option Begun) → is_some o ≡ false → begins_on u o ≡ false
      by None h = refl
      by (Some b) h = absurd (cc h)

  -- ---- a word begins for a call

  module _ (unit : units.Unit) (made_by : Option Call) (received : ℕ) (at : e.what ≡ Starts unit made_by received) where
    begins_so : (v q : ℕ) → number_of unit ≡ Some v → unit_of_sequence d q ≡ v → sent_by made_by ≡ Some q → begins_for d q e.what ≡ true
    begins_so v q number own by =
        ap (λ h. begins_for d q h) at
        ∙ (ap (λ k. is_unit (unit_of_sequence d q) k && is_unit q (sent_by made_by)) number
        ∙ (ap (λ o. (v == unit_of_sequence d q) && is_unit q o) by
        ∙ (ap (λ i. (v == i) && (q == q)) own ∙ (ap (λ b. b && (q == q)) (eq_self v) ∙ eq_self q))))

    received_is : received_at e.what ≡ received
    received_is = ap received_at at

    -- the word of a run that begins is that of the job
    word_begins : (v q : ℕ) (p : Pending) (y : SentJob) (x : JobWord) → number_of unit ≡ Some v → unit_of_sequence d q ≡ v → sent_by made_by ≡ Some q → out.begins ≡ Some (as_begun d v (Some p) x)
        → word_in y ≡ x → y.job ≡ next_job d p → y.last ≡ masked x.width received → WordBegins d q e past y
    word_begins v q p y x number own by begins word job last = record {
      made = begins_so v q number own by;
      word = begun_is ∙ (begins ∙ word_as (sym own) (sym word) (sym job));
      last = last ∙ (ap (λ (z : JobWord). masked z.width received) (sym word) ∙ ap (λ n. masked (word_in y).width n) (sym received_is));
    }
      where
        word_as : {i : ℕ} {z : JobWord} {j : ℕ} → v ≡ i → x ≡ z → next_job d p ≡ j → Some (as_begun d v (Some p) x) ≡ Some (record { unit = i; word = z.sent; width = z.width; device = select_by (job_of d j) })
        word_as {i} {z} {j} a b c =
            ap (λ k. Some (as_begun d k (Some p) x)) a
            ∙ (ap (λ (y : JobWord). Some (as_begun d i (Some p) y)) b ∙ ap (λ k. Some (record { unit = i; word = z.sent; width = z.width; device = select_by (job_of d k) })) c)

    -- its first job
    begins_first : (v q : ℕ) → IsSentOn d (number_of unit) v q → BeginsSending d here made_by q → carries_job d e.world (sequence_begun d here q) v received (as_requested d here q) ≡ out
        → (x : Carrying) → carried_at out.state v ≡ Some x → Carries d v (e ∷ past) x
    begins_first v q on new same x is =
        let p : Pending = as_requested d here q in
        let words : List JobWord = job_words d (sequence_begun d here q) (next_job d p) in
        let run : Run = begun e.world.now received q words [] in
        let y : SentJob = record { job = next_job d p; words = words; taken = []; last = run.transfer.incoming } in
        let begins : out.begins ≡ Some (as_begun d v (Some p) (word_of run)) = ap (λ (t : Outcome SpiState). t.begins) (sym same) in
        let was : Carrying = record { entry = p; run = run } in
        let one : was ≡ x = some_is was x (sym (item-same None here.carried v (Some was)) ∙ (ap (λ (t : Outcome SpiState). carried_at t.state v) same ∙ is)) in
        subst (λ (z : Carrying). Carries d v (e ∷ past) z) one (record {
          unit = on.own;
          over = [];
          now = y;
          sends = Begins e past y
              (unit_free (is_off here.mode) (is_sync_sequence d q) (carried_at here (unit_of_sequence d q)) (on_if_clear d q (is_off here.mode) (finds_held d here (Sequence q SyncTransmit)) new.clear) on.sync new.free) (record {
                job = refl;
                words = ap (λ (t : SpiState). job_words d t (next_job d p)) (sym (after_is ∙ ap (λ (t : Outcome SpiState). t.state) (sym same)));
                none = refl;
                begins = word_begins v q p y (word_of run) on.number on.own new.sends begins refl refl refl;
              });
          words = refl;
          taken = refl;
          last = refl;
          job = refl;
          place = refl;
        })

    -- the next word of its job
    begins_word : (v q : ℕ) (x0 : Carrying) → IsSentOn d (number_of unit) v q → GoesOnSending d e.world here made_by q x0 → goes_on x0.run ≡ true → sent_on d e.world here v received x0 true ≡ out
        → (x : Carrying) → carried_at out.state v ≡ Some x → Carries d v (e ∷ past) x
    begins_word v q x0 on more goes same x is =
        let there : carried_at here v ≡ Some x0 = ap (λ i. carried_at here i) (sym on.own) ∙ carried_is d here q x0 more.carried in
        let c : Carries d v past x0 = before v x0 there in
        let may = may_of (is_of q x0.entry) (is_done e.world.now x0.run.transfer) (sends_on d x0) more.may in
        let own : x0.entry.sequence ≡ q = eq_is x0.entry.sequence q may.0 in
        let run : Run = begun e.world.now received x0.entry.sequence x0.run.words (received_with x0.run) in
        let t : SpiState = stored here (word_of x0.run) (word_of x0.run).goes x0.run.transfer.incoming in
        let y : SentJob = record { job = c.now.job; words = c.now.words; taken = all_in c.now; last = run.transfer.incoming } in
        let all : all_in c.now ≡ received_with x0.run = all_is c.now x0.run c.taken c.last in
        let further : length (received_with x0.run) < length x0.run.words = omega (arith, more_left x0.run.transfer.failed (length x0.run.received) (length x0.run.words) goes, length-append x0.run.received (x0.run.transfer.incoming ∷ [])) in
        let was : Carrying = record { entry = x0.entry; run = run } in
        let one : was ≡ x = some_is was x (sym (item-same None t.carried v (Some was)) ∙ (ap (λ (z : Outcome SpiState). carried_at z.state v) same ∙ is)) in
        subst (λ (z : Carrying). Carries d v (e ∷ past) z) one (record {
          unit = c.unit;
          over = c.over;
          now = y;
          sends = NextWord e past c.over c.now y c.sends (subst (λ ns. length ns < length c.now.words) (sym all) (subst (λ ws. length (received_with x0.run) < length ws) (sym c.words) further))
              (subst (λ (z : SpiState). IsStored z c.now) (sym (after_is ∙ ap (λ (z : Outcome SpiState). z.state) (sym same)))
              (stored_so (sent_on d e.world here v received x0 true).state c.now x0.run c.words c.taken c.last (λ to. stored-word here (word_of x0.run) (word_of x0.run).goes x0.run.transfer.incoming (word_of x0.run).channel (word_of x0.run).place
              ∙ if_there (goes_to_array (word_of x0.run).channel (word_of x0.run).place (word_of x0.run) (word_of x0.run).goes) x0.run.transfer.incoming (destination_word here (word_of x0.run).channel (word_of x0.run).place) (there_own (word_of x0.run) to))))
              (subst (λ i. WordGood d i e past) (sym c.unit) (good_word d e past allowed v x0 there may.1 (not_failed x0.run.transfer.failed (nat_lt (length x0.run.received + 1) (length x0.run.words)) goes)))
              refl refl refl
              (word_begins v x0.entry.sequence x0.entry y (word_of run) on.number (ap (λ i. unit_of_sequence d i) own ∙ on.own) (more.sends ∙ ap (λ i. Some i) (sym own)) (ap (λ (z : Outcome SpiState). z.begins) (sym same))
              (ap (λ ws. slice_index_or ws (length (all_in c.now)) no_word) c.words ∙ ap (λ ns. slice_index_or x0.run.words (length ns) no_word) all) c.job refl);
          words = c.words;
          taken = all;
          last = refl;
          job = c.job;
          place = c.place;
        })
      where
        may_of : (a b c : Bool) → a && b && c ≡ true → (a ≡ true) × (b ≡ true)
        may_of true true c h = (refl, refl)
        may_of true false c h = absurd (cc h)
        may_of false b c h = absurd (cc h)

        not_failed : (f b : Bool) → not f && b ≡ true → f ≡ false
        not_failed true b h = absurd (cc h)
        not_failed false b h = refl

        more_left : (f : Bool) (n m : ℕ) → not f && nat_lt (n + 1) m ≡ true → n + 1 < m
        more_left true n m h = absurd (cc h)
        more_left false n m h = grind (arith, nat_tests, h)

    -- its next job
    begins_job : (v q : ℕ) (x0 : Carrying) → IsSentOn d (number_of unit) v q → GoesOnSending d e.world here made_by q x0 → goes_on x0.run ≡ false → sent_on d e.world here v received x0 false ≡ out
        → (x : Carrying) → carried_at out.state v ≡ Some x → Carries d v (e ∷ past) x
    begins_job v q x0 on more goes same x is =
        let there : carried_at here v ≡ Some x0 = ap (λ i. carried_at here i) (sym on.own) ∙ carried_is d here q x0 more.carried in
        let c : Carries d v past x0 = before v x0 there in
        let parts = may_parts (is_of q x0.entry) (is_done e.world.now x0.run.transfer) x0.run.transfer.failed (nat_lt (length x0.run.received + 1) (length x0.run.words)) (has_further d x0.entry) more.may goes in
        let own : x0.entry.sequence ≡ q = eq_is x0.entry.sequence q parts.0 in
        let p : Pending = goes_to_next x0.entry in
        let done : SpiState = job_done d here x0 false in
        let words : List JobWord = job_words d done (next_job d p) in
        let run : Run = begun e.world.now received p.sequence words [] in
        let y : SentJob = record { job = next_job d p; words = words; taken = []; last = run.transfer.incoming } in
        let after : out.state ≡ (sent_on d e.world here v received x0 false).state = ap (λ (z : Outcome SpiState). z.state) (sym same) in
        let was : Carrying = record { entry = p; run = run } in
        let one : was ≡ x = some_is was x (sym (item-same None done.carried v (Some was)) ∙ (ap (λ (z : Outcome SpiState). carried_at z.state v) same ∙ is)) in
        subst (λ (z : Carrying). Carries d v (e ∷ past) z) one (record {
          unit = c.unit;
          over = c.over ++ c.now ∷ [];
          now = y;
          sends = NextJob e past c.over c.now y c.sends
              (over_so d here (state_of d (e ∷ past)) c.now x0.run (ap (λ (z : SpiState). z.channels) (after_is ∙ after)) c.words c.taken c.last parts.1)
              (subst (λ i. WordGood d i e past) (sym c.unit) (good_word d e past allowed v x0 there parts.4 parts.3))
              (further_job (length c.over) x0.entry.next (length (jobs_of d x0.entry.sequence)) c.place parts.2)
              (record {
                job = ap (λ n. slice_index_or (jobs_of d x0.entry.sequence) (n + 1) 0) (sym c.place);
                words = ap (λ (z : SpiState). job_words d z (next_job d p)) (sym (after_is ∙ after));
                none = refl;
                begins = word_begins v x0.entry.sequence p y (word_of run) on.number (ap (λ i. unit_of_sequence d i) own ∙ on.own) (more.sends ∙ ap (λ i. Some i) (sym own)) (ap (λ (z : Outcome SpiState). z.begins) (sym same)) refl refl refl;
              });
          words = refl;
          taken = refl;
          last = refl;
          job = refl;
          place = one_more c.over c.now x0.entry.next c.place;
        })
      where
        may_parts : (a b f m g : Bool) → a && b && ((not f && m) || (not f && g)) ≡ true → (not f && m) ≡ false → (a ≡ true) × (m ≡ false) × (g ≡ true) × (f ≡ false) × (b ≡ true)
        may_parts false b f m g h k = absurd (cc h)
        may_parts true false f m g h k = absurd (cc h)
        may_parts true true true m g h k = absurd (cc h)
        may_parts true true false true g h k = absurd (cc k)
        may_parts true true false false true h k = (refl, refl, refl, refl, refl)
        may_parts true true false false false h k = absurd (cc h)

        further_job : (k n m : ℕ) → k ≡ n → nat_lt (n + 1) m ≡ true → k + 1 < m
        further_job k n m a b = grind (arith, nat_tests, a, b)

        one_more : (ys : List SentJob) (y : SentJob) (n : ℕ) → length ys ≡ n → length (ys ++ y ∷ []) ≡ n + 1
        one_more ys y n e = omega (arith, length-append ys (y ∷ []), e)

  -- ---- what a start leaves

  begins_elsewhere : (v u : ℕ) → u ≢ v → (v == u) ≡ false
  begins_elsewhere v u ne = eq_turned u v ne

  start_carries : (unit : units.Unit) (made_by : Option Call) (received : ℕ) → e.what ≡ Starts unit made_by received → (u : ℕ) (x : Carrying) → carried_at out.state u ≡ Some x → Carries d u (e ∷ past) x
  start_carries unit made_by received at u x is =
      start-either (λ (t : Outcome SpiState). t ≡ out → Carries d u (e ∷ past) x) d e.world here (number_of unit) made_by received out
      (ap (λ h. (spi_machine d).happens e.world here h) (sym at) ∙ made)
      (λ n f same.
      let carried : carried_at here u ≡ Some x = sym (ap (λ xs. slice_index_or xs u None) (starts_carried d e.world here (number_of unit) received (next_at d here (number_of unit)))) ∙ (ap (λ o. carried_at (state_by here o) u) f ∙ is) in
      stays u x (is_false (begins_on u out.begins) (λ on. absurd (cc (sym (plain_there d e.world here (number_of unit) received (next_at d here (number_of unit)) out u n f on) ∙ is_sync u x carried)))) (calm_so (Starts unit made_by received) at x.entry.sequence (λ o. refl)) carried)
      (λ v q on new same. first v q on new same (same_or_other u v))
      (λ v q x0 on more same. further v q x0 on more same (goes_on x0.run) refl (same_or_other u v))
      refl
    where
      first : (v q : ℕ) → IsSentOn d (number_of unit) v q → BeginsSending d here made_by q → carries_job d e.world (sequence_begun d here q) v received (as_requested d here q) ≡ out → (u ≡ v) ⊎ (u ≢ v) → Carries d u (e ∷ past) x
      first v q on new same (inl same_unit) = subst (λ i. Carries d i (e ∷ past) x) (sym same_unit) (begins_first unit made_by received at v q on new same x (ap (λ i. carried_at out.state i) (sym same_unit) ∙ is))
      first v q on new same (inr ne) =
          stays u x (ap (λ (t : Outcome SpiState). begins_on u t.begins) (sym same) ∙ begins_elsewhere v u ne) (calm_so (Starts unit made_by received) at x.entry.sequence (λ o. refl))
          (sym (item-other None here.carried v u _ ne) ∙ (ap (λ (t : Outcome SpiState). carried_at t.state u) same ∙ is))

      on_other : (v : ℕ) (x0 : Carrying) (b : Bool) → sent_on d e.world here v received x0 b ≡ out → u ≢ v → Carries d u (e ∷ past) x
      on_other v x0 true same ne =
          stays u x (ap (λ (t : Outcome SpiState). begins_on u t.begins) (sym same) ∙ begins_elsewhere v u ne) (calm_so (Starts unit made_by received) at x.entry.sequence (λ o. refl))
          (sym (sent_on_other d e.world here v received x0 true u ne) ∙ (ap (λ (t : Outcome SpiState). carried_at t.state u) same ∙ is))
      on_other v x0 false same ne =
          stays u x (ap (λ (t : Outcome SpiState). begins_on u t.begins) (sym same) ∙ begins_elsewhere v u ne) (calm_so (Starts unit made_by received) at x.entry.sequence (λ o. refl))
          (sym (sent_on_other d e.world here v received x0 false u ne) ∙ (ap (λ (t : Outcome SpiState). carried_at t.state u) same ∙ is))

      further : (v q : ℕ) (x0 : Carrying) → IsSentOn d (number_of unit) v q → GoesOnSending d e.world here made_by q x0 → sent_on d e.world here v received x0 (goes_on x0.run) ≡ out
          → (b : Bool) → goes_on x0.run ≡ b → (u ≡ v) ⊎ (u ≢ v) → Carries d u (e ∷ past) x
      further v q x0 on more same b goes (inr ne) = on_other v x0 b (ap (λ c. sent_on d e.world here v received x0 c) (sym goes) ∙ same) ne
      further v q x0 on more same true goes (inl same_unit) =
          subst (λ i. Carries d i (e ∷ past) x) (sym same_unit)
          (begins_word unit made_by received at v q x0 on more goes (ap (λ c. sent_on d e.world here v received x0 c) (sym goes) ∙ same) x (ap (λ i. carried_at out.state i) (sym same_unit) ∙ is))
      further v q x0 on more same false goes (inl same_unit) =
          subst (λ i. Carries d i (e ∷ past) x) (sym same_unit)
          (begins_job unit made_by received at v q x0 on more goes (ap (λ c. sent_on d e.world here v received x0 c) (sym goes) ∙ same) x (ap (λ i. carried_at out.state i) (sym same_unit) ∙ is))

  -- ---- what any other event leaves

  act_carries : (call : Call) (times : ℕ → ℕ) → e.what ≡ Acts call times → (u : ℕ) (x : Carrying) → carried_at out.state u ≡ Some x → Carries d u (e ∷ past) x
  act_carries call times at u x is = by_kind (sent_by (Some call)) refl
    where
      made_so : (spi_machine d).happens e.world here (Acts call times) ≡ Some out
      made_so = ap (λ h. (spi_machine d).happens e.world here h) (sym at) ∙ made

      quiet : begins_on u out.begins ≡ false
      quiet = not_begun (ap (λ h. is_beginning here h) at) u

      error : Option ErrorName
      error = error_by d call (is_off here.mode) (finds_held d here call)

      -- another call
      stayed : sent_by (Some call) ≡ None → carried_at here u ≡ Some x → Carries d u (e ∷ past) x
      stayed n now = stays u x quiet (calm_so (Acts call times) at x.entry.sequence (λ o. others_calm x.entry.sequence call times o n)) now

      initial : sent_by (Some call) ≡ None → (carried_at (acts d here call).state u ≡ carried_at here u) ⊎ (carried_at (acts d here call).state u ≡ None) → carried_at (acts d here call).state u ≡ Some x → Carries d u (e ∷ past) x
      initial n (inl same) now = stayed n (sym same ∙ now)
      initial n (inr free) now = absurd (cc (sym free ∙ now))

      by : sent_by (Some call) ≡ None → (b : Bool) → is_init call ≡ b → carried_at (acts d here call).state u ≡ Some x → Carries d u (e ∷ past) x
      by n true h now = initial n (init_carried d here u call error h) now
      by n false h now = stayed n (sym (ap (λ xs. slice_index_or xs u None) (acts_carried d here call error (ap not h))) ∙ now)

      -- the end of another one's sequence
      ended : (k : ℕ) (y : Carrying) → sent_by (Some call) ≡ Some k → sent d here (unit_of_sequence d k) y y.run.transfer.failed ≡ out → (u ≡ unit_of_sequence d k) ⊎ (u ≢ unit_of_sequence d k)
          → (carried_at (sent d here (unit_of_sequence d k) y y.run.transfer.failed).state u ≡ carried_at here u) ⊎ (carried_at (sent d here (unit_of_sequence d k) y y.run.transfer.failed).state u ≡ None)
          → Carries d u (e ∷ past) x
      ended k y c same unit (inr free) = absurd (cc (sym (sym (ap (λ (t : Outcome SpiState). carried_at t.state u) same) ∙ free) ∙ is))
      ended k y c same (inl own) (inl kept) =
          let free : carried_at out.state u ≡ None = ap (λ (t : Outcome SpiState). carried_at t.state u) (sym same) ∙ sent_own d here (unit_of_sequence d k) y y.run.transfer.failed u own in
          absurd (cc (sym free ∙ is))
      ended k y c same (inr ne) (inl kept) =
          let now : carried_at here u ≡ Some x = sym kept ∙ (ap (λ (t : Outcome SpiState). carried_at t.state u) same ∙ is) in
          stays u x quiet
          (ap (λ h. ends_call x.entry.sequence h out.told.error) at
          ∙ (ap (λ (t : Outcome SpiState). ends_call x.entry.sequence (Acts call times) t.told.error) (sym same)
          ∙ ends_calm x.entry.sequence k call times c (is_false (k == x.entry.sequence) (λ e1. ne (sym (ap (λ i. unit_of_sequence d i) (eq_is k x.entry.sequence e1) ∙ (before u x now).unit)))))) now

      by_kind : (o : Option ℕ) → sent_by (Some call) ≡ o → Carries d u (e ∷ past) x
      by_kind None n = by n (is_init call) refl (ap (λ (t : Outcome SpiState). carried_at t.state u) (act_plain d e.world here call times out n made_so) ∙ is)
      by_kind (Some k) c =
          sending-either (λ (t : Outcome SpiState). t ≡ out → Carries d u (e ∷ past) x) d e.world here k out (ap (λ o. act_by d e.world here call o) (sym c) ∙ made_so)
          (λ er f same. stays u x quiet
          (ap (λ h. ends_call x.entry.sequence h out.told.error) at
          ∙ (ap (λ (t : Outcome SpiState). ends_call x.entry.sequence (Acts call times) t.told.error) (sym same) ∙ error_calm x.entry.sequence call times er))
          (ap (λ (t : Outcome SpiState). carried_at t.state u) same ∙ is))
          (λ y ends same. ended k y c same (same_or_other u (unit_of_sequence d k)) (sent_frees d here (unit_of_sequence d k) y y.run.transfer.failed u)) refl

  serve_carries : (line received : ℕ) → e.what ≡ Serves line received → (u : ℕ) (x : Carrying) → carried_at out.state u ≡ Some x → Carries d u (e ∷ past) x
  serve_carries line received at u x is =
      let made_so : (spi_machine d).happens e.world here (Serves line received) ≡ Some out = ap (λ h. (spi_machine d).happens e.world here h) (sym at) ∙ made in
      let carried : carried_at here u ≡ Some x = sym (ap (λ xs. slice_index_or xs u None) (serves_carried d e.world here line received (ready e.world here line))) ∙ (ap (λ o. carried_at (state_by here o) u) made_so ∙ is) in
      stays u x (is_false (begins_on u out.begins) (λ on. never (serve_by (ready e.world here line) (served d e.world here (unit_of line) received (run_of here (unit_of line))) out made_so) on carried)) (calm_so (Serves line received) at x.entry.sequence (λ o. refl)) carried
    where
      never : served d e.world here (unit_of line) received (run_of here (unit_of line)) ≡ out → begins_on u out.begins ≡ true → carried_at here u ≡ Some x → ⊥
      never same on carried =
          let there = served_begins_on d e.world here (unit_of line) received (run_of here (unit_of line)) u (ap (λ (t : Outcome SpiState). begins_on u t.begins) same ∙ on) in
          let runs : run_of here (Some u) ≡ Some there.0 = ap (λ k. run_of here k) (sym there.1) ∙ there.2 in
          absurd (cc (sym (never_runs d u past (is_sync u x carried)) ∙ runs))

  move_carries : (order : Order) → e.what ≡ Moves order → (u : ℕ) (x : Carrying) → carried_at (moved d e.world here order) u ≡ Some x → Carries d u (e ∷ past) x
  move_carries order at u x is = by order at is
    where
      quiet : begins_on u out.begins ≡ false
      quiet = not_begun (ap (λ h. is_beginning here h) at) u

      calm : (q : ℕ) → ends_call q e.what out.told.error ≡ false
      calm q = calm_so (Moves order) at q (λ o. refl)

      met : (o : Option Carrying) → carried_at here u ≡ o → faulted_carrying e.world.now o ≡ Some x → Carries d u (e ∷ past) x
      met None was now = absurd (cc now)
      met (Some y) was now =
          waits d u e past y x (ap (λ o. begins_on u o) begun_is ∙ quiet) (calm_is y.entry.sequence (calm y.entry.sequence))
          (subst (λ z. IsSame y z) (some_is _ x now) (record { entry = refl; words = refl; received = refl; incoming = kept (is_done e.world.now y.run.transfer) })) (before u y was)
        where
          kept : (b : Bool) → (if b then y.run.transfer else record y.run.transfer { failed = true }).incoming ≡ y.run.transfer.incoming
          kept true = refl
          kept false = refl

      faulted : (k : ℕ) → carried_at (moved d e.world here (SpiFault k)) u ≡ Some x → (u ≡ k) ⊎ (u ≢ k) → Carries d u (e ∷ past) x
      faulted k now (inl same) =
          met (carried_at here u) refl
          (sym (ap (λ i. carried_at (moved d e.world here (SpiFault i)) u) (sym same) ∙ item-same None here.carried u (faulted_carrying e.world.now (carried_at here u))) ∙ now)
      faulted k now (inr ne) = stays u x quiet (calm x.entry.sequence) (sym (item-other None here.carried k u (faulted_carrying e.world.now (carried_at here k)) ne) ∙ now)

      by : (order : Order) → e.what ≡ Moves order → carried_at (moved d e.world here order) u ≡ Some x → Carries d u (e ∷ past) x
      by (Fill c ws) at now = stays u x quiet (calm x.entry.sequence) now
      by (SpiFault k) at now = faulted k now (same_or_other u k)
      by order at now = stays u x quiet (calm x.entry.sequence) now

  carries_by : (h : Happening Call) → e.what ≡ h → (spi_machine d).happens e.world here h ≡ Some out → (u : ℕ) (x : Carrying) → carried_at out.state u ≡ Some x → Carries d u (e ∷ past) x
  carries_by (Acts call times) at so u x is = act_carries call times at u x is
  carries_by (Serves line received) at so u x is = serve_carries line received at u x is
  carries_by (Starts unit made_by received) at so u x is = start_carries unit made_by received at u x is
  carries_by (Aborts unit) at so u x is = absurd (cc so)
  carries_by (Moves order) at so u x is = move_carries order at u x (ap (λ (t : Outcome SpiState). carried_at t.state u) (some_is _ out so) ∙ is)
  carries_by (Restarts reason) at so u x is = absurd (cc (ap (λ (t : Outcome SpiState). carried_at t.state u) (some_is _ out so) ∙ is))

  pub carries_after : (u : ℕ) (x : Carrying) → carried_at out.state u ≡ Some x → Carries d u (e ∷ past) x
  carries_after u x is = carries_by e.what refl made u x is

-- ---- a run

some_out : (o : Option (Outcome SpiState)) → IsSome o → (out : Outcome SpiState) × (o ≡ Some out)
some_out None e = absurd (cc e)
some_out (Some out) e = (out, refl)

all_carry : (d : SpiTable) (past : List (Event Call)) → AreAllowed (spi_machine d) first_state past → AllCarry d past
all_carry d [] allowed u x is = absurd (cc is)
all_carry d (e ∷ past) allowed u x is =
    let out = some_out ((spi_machine d).happens e.world (state_of d past) e.what) allowed.0 in
    carries_after d e past out.0 out.1 allowed.1 (all_carry d past allowed.1) u x (ap (λ o. carried_at (state_by (state_of d past) o) u) (sym out.1) ∙ is)

-- ---- an act

not_both : (a : Answer) → a ≡ named EOk → a ≡ named ENotOk → ⊥
not_both a e f = let heads : Name EOk ≡ Name ENotOk = ap (λ (x : Answer). x.head) (sym e ∙ f) in absurd (cc heads)

module _ (d : SpiTable) (e : Event Call) (past : List (Event Call)) (out : Outcome SpiState) (made : (spi_machine d).happens e.world (state_of d past) e.what ≡ Some out) (allowed : AreAllowed (spi_machine d) first_state past)
    (q : ℕ) (times : ℕ → ℕ) (at : e.what ≡ Acts (Sequence q SyncTransmit) times) where
  abbrev prior : SpiState
  prior = state_of d past

  view_is : seen_at d e past ≡ seen d e.what prior out
  view_is = seen_is d e past out made

  -- what is said of the act's outcome
  abbrev Says : Outcome SpiState → Type 0
  Says t =
      (t.told.answer ≡ named EOk → SendsAll d q e past × ((seen d e.what prior t).has q ≡ SpiSeqOk))
      × (t.told.error ≡ None → t.told.answer ≡ named ENotOk → WordFailed d (unit_of_sequence d q) e past × ((seen d e.what prior t).has q ≡ SpiSeqFailed))

  refused : (q1 : ℕ) (er : ErrorName) → Says (outcome prior (tells_error (answer_refused (Sequence q1 SyncTransmit)) er))
  refused q1 er = (λ good. absurd (not_both (named ENotOk) good refl), λ clear. absurd (cc clear))

  plain_act : (er : Option ErrorName) → Says (acts_by d prior (Sequence q SyncTransmit) er)
  plain_act None = (λ good. absurd (no_such EOk good), λ clear bad. absurd (no_such ENotOk bad))
    where
      no_such : (n : AnswerName) → no_answer ≡ named n → ⊥
      no_such n e = let heads = ap (λ (a : Answer). a.head) e in absurd (cc heads)
  plain_act (Some er) = refused q er

  same_call : (q1 : ℕ) → sent_by (Some (Sequence q SyncTransmit)) ≡ Some q1 → q ≡ q1
  same_call q1 c = some_is q q1 c

  -- its last word has failed, or all is sent
  ended : (x : Carrying) (failed : Bool) → EndsSending d e.world prior q x → x.run.transfer.failed ≡ failed → sent d prior (unit_of_sequence d q) x failed ≡ out → Says (sent d prior (unit_of_sequence d q) x failed)
  ended x failed ends was same =
      let carried : carried_at prior (unit_of_sequence d q) ≡ Some x = carried_is d prior q x ends.carried in
      let own : x.entry.sequence ≡ q = eq_is x.entry.sequence q ends.own in
      let c : Carries d (unit_of_sequence d q) past x = all_carry d past allowed (unit_of_sequence d q) x carried in
      by failed was same carried own c
    where
      done : is_done e.world.now x.run.transfer ≡ true
      done = first_true (is_done e.world.now x.run.transfer) (not (sends_on d x)) ends.may

      result_is : (f : Bool) → x.entry.sequence ≡ q → (seen d e.what prior (sent d prior (unit_of_sequence d q) x f)).has q ≡ (if f then SpiSeqFailed else SpiSeqOk)
      result_is true own = ap (λ i. slice_index_or (sent d prior (unit_of_sequence d q) x true).state.sequence_results i SpiSeqOk) (sym own) ∙ item-same SpiSeqOk prior.sequence_results x.entry.sequence SpiSeqFailed
      result_is false own = ap (λ i. slice_index_or (sent d prior (unit_of_sequence d q) x false).state.sequence_results i SpiSeqOk) (sym own) ∙ item-same SpiSeqOk prior.sequence_results x.entry.sequence SpiSeqOk

      end_parts : (a f m g : Bool) → f ≡ false → a && not ((not f && m) || (not f && g)) ≡ true → (m ≡ false) × (g ≡ false)
      end_parts false f m g k h = absurd (cc h)
      end_parts true true m g k h = absurd (cc k)
      end_parts true false true g k h = absurd (cc h)
      end_parts true false false true k h = absurd (cc h)
      end_parts true false false false k h = (refl, refl)

      last_job : (k n m : ℕ) → k ≡ n → nat_lt (n + 1) m ≡ false → m ≤ k + 1
      last_job k n m a b = grind (arith, nat_tests, a, b)

      by : (f : Bool) → x.run.transfer.failed ≡ f → sent d prior (unit_of_sequence d q) x f ≡ out → carried_at prior (unit_of_sequence d q) ≡ Some x → x.entry.sequence ≡ q → Carries d (unit_of_sequence d q) past x
          → Says (sent d prior (unit_of_sequence d q) x f)
      by true was same carried own c =
          (λ good. absurd (not_both (named ENotOk) good refl), λ clear bad. (failed_word d e past allowed (unit_of_sequence d q) x carried done was, result_is true own))
      by false was same carried own c =
          let parts = end_parts (is_done e.world.now x.run.transfer) x.run.transfer.failed (nat_lt (length x.run.received + 1) (length x.run.words)) (has_further d x.entry) was ends.may in
          let after : state_of d (e ∷ past) ≡ (sent d prior (unit_of_sequence d q) x false).state = ap (λ o. state_by prior o) made ∙ ap (λ (t : Outcome SpiState). t.state) (sym same) in (
            λ good. (
              record {
                over = c.over;
                last = c.now;
                sends = subst (λ i. Sends d i past c.over c.now) own c.sends;
                ends = over_so d prior (state_of d (e ∷ past)) c.now x.run (ap (λ (t : SpiState). t.channels) after) c.words c.taken c.last parts.0;
                good = good_word d e past allowed (unit_of_sequence d q) x carried done was;
                all = subst (λ i. length (jobs_of d i) ≤ length c.over + 1) own (last_job (length c.over) x.entry.next (length (jobs_of d x.entry.sequence)) c.place parts.1);
              },
              result_is false own,
            ),
            λ clear bad. absurd (not_both (named EOk) refl bad),
          )

  says : Says out
  says =
      act-either (λ (t : Outcome SpiState). t ≡ out → Says t) d e.world prior (Sequence q SyncTransmit) out (ap (λ h. (spi_machine d).happens e.world prior h) (sym at) ∙ made)
      (λ same. plain_act (error_by d (Sequence q SyncTransmit) (is_off prior.mode) (finds_held d prior (Sequence q SyncTransmit)))) (λ q1 er c f same. refused q1 er)
      (λ q1 x c ends same. ended_at q1 x (same_call q1 c) ends same) refl
    where
      ended_at : (q1 : ℕ) (x : Carrying) → q ≡ q1 → EndsSending d e.world prior q1 x → sent d prior (unit_of_sequence d q1) x x.run.transfer.failed ≡ out → Says (sent d prior (unit_of_sequence d q1) x x.run.transfer.failed)
      ended_at q1 x one ends same =
          subst (λ i. EndsSending d e.world prior i x → sent d prior (unit_of_sequence d i) x x.run.transfer.failed ≡ out → Says (sent d prior (unit_of_sequence d i) x x.run.transfer.failed)) one
          (λ ends same. ended x x.run.transfer.failed ends refl same) ends same

  pub ends_sent : EndsSent d q e past
  ends_sent = record {
    good = λ answer. subst (λ (v : SequenceEvent). SendsAll d q e past × (v.has q ≡ SpiSeqOk)) (sym view_is) (says.0 (sym (ap (λ (v : SequenceEvent). v.told.answer) view_is) ∙ answer));
    failed = λ clear answer. subst (λ (v : SequenceEvent). WordFailed d (unit_of_sequence d q) e past × (v.has q ≡ SpiSeqFailed)) (sym view_is)
        (says.1 (sym (ap (λ (v : SequenceEvent). v.told.error) view_is) ∙ clear) (sym (ap (λ (v : SequenceEvent). v.told.answer) view_is) ∙ answer));
  }

pub all_sent_so : (d : SpiTable) (past : List (Event Call)) → AreAllowed (spi_machine d) first_state past → AreSent d past
all_sent_so d [] allowed = tt
all_sent_so d (e ∷ past) allowed =
    let out = some_out ((spi_machine d).happens e.world (state_of d past) e.what) allowed.0 in
    (λ q times at. ends_sent d e past out.0 out.1 allowed.1 q times at, all_sent_so d past allowed.1)
