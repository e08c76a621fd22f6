-- Without a refused exchange and a fault no job fails.
use Rattle.std.proofs.Common.{◌≡◌, ◌≢◌, ℕ, zero, suc, ◌+◌, ◌==◌, Bool, true, false, not, cond, ◌||◌, List, [], ◌∷◌, ◌++◌, map, drop, slice_index_or, Option, Some, None, refl, sym, ◌∙◌, ap, subst, ◌⊎◌, inl, inr}
use Rattle.std.specs.Prelude.{find, IsSome}
use Rattle.std.specs.List.{list_any}
use Rattle.std.proofs.lemmas.Bool.{or_parts}
use Rattle.mcal_base.specs.facts.Options.{some_is}
use Rattle.mcal_base.specs.facts.Numbers.{same_or_other}
use Rattle.mcal_base.specs.declared.answer_name.AnswerName.{AnswerName}
use Rattle.mcal_base.specs.declared.answer_name.AnswerName.TheVariants.{SpiJobOk, SpiJobFailed, SpiJobQueued, SpiJobPending}
use Rattle.mcal_base.specs.declared.directive.Order.{Order}
use Rattle.mcal_base.specs.declared.directive.Order.TheVariants.{Fill, SpiFault}
use Rattle.mcal_base.specs.declared.error_name.ErrorName.{ErrorName}
use Rattle.run_model.specs.Frame.{state_by}
use Rattle.run_model.specs.Machine.{Happening, Acts, Serves, Starts, Aborts, Moves, Restarts, Outcome}
use Rattle.run_model.specs.World.{World}
use Rattle.spi_machine.proofs.Numbers.{item-same, item-other}
use Rattle.spi_machine.proofs.Runs.{stored-seen, after_last-seen, serve_by}
use Rattle.spi_machine.proofs.Sending.{act-either, start-either}
use Rattle.spi_machine.specs.Checks.{error_by}
use Rattle.spi_machine.specs.Machine.{spi_machine, acts_by, sent, sent_on, carries_job, sequence_begun, as_requested, faulted_carrying, stored, unless_busy, cancelled, cancelled_by, finds_held, after_last, sequence_after, job_over, pending_of, served_by, served, unit_of, run_of, ready, start_by, next_at, number_of, moved}
use Rattle.spi_machine.specs.Numbered.{with_item}
use Rattle.spi_machine.specs.Pending.{Pending, is_of, changed, without, starts, goes_to_next, cancels, end_by, has_further, next_job, all_get, job_result, with_results}
use Rattle.spi_machine.specs.Promised.{received_at}
use Rattle.spi_machine.specs.State.{SpiState, Carrying, first_state, is_busy, is_off, is_running, run_at, carried_at}
use Rattle.spi_machine.specs.Table.{jobs_of}
use Rattle.spi_machine.specs.Wiring.{unit_of_sequence}
use Rattle.spi_machine.specs.Transfers.{Run, refused, goes_on, word_of}
use Rattle.spi_machine.specs.declared.call.Call.{Call}
use Rattle.spi_machine.specs.declared.call.Call.TheVariants.{Init, DeInit, SetAsyncMode, MainFunctionHandling, Channel, Sequence, Get}
use Rattle.spi_machine.specs.declared.call.ChannelCall.TheVariants.{WriteIb, ReadIb, SetupEb}
use Rattle.spi_machine.specs.declared.call.SequenceCall.TheVariants.{AsyncTransmit, Cancel, SyncTransmit}
use Rattle.spi_machine.specs.declared.table.SpiTable.{SpiTable}
use Rattle.machine_laws.specs.serial.Faults.{run_carried}
use Rattle.machine_laws.proofs.SentWords.{sent_frees}
use Rattle.machine_laws.proofs.Words.{hits}
use Rattle.board_promises.specs.whole_runs.Runs.{Event, AreAllowed, NoneOf}
use Rattle.board_promises.specs.run_laws.Results.{state_of, can_fail, is_fault}
use Rattle.board_promises.proofs.SentStories.{carried_is, sent_story}
use Rattle.board_promises.proofs.WordStories.{WordOf, met, story}

-- ---- results

Good : List AnswerName → Type 0
Good rs = (j : ℕ) → job_result rs j ≢ SpiJobFailed

Goods : List AnswerName → Type 0
Goods [] = Unit {0}
Goods (x ∷ xs) = (x ≢ SpiJobFailed) × Goods xs

good_item : (rs : List AnswerName) (k : ℕ) (x : AnswerName) → Good rs → x ≢ SpiJobFailed → Good (with_item SpiJobOk rs k x)
unfolding Good
good_item rs k x good ne j e = by (same_or_other j k) where
  by : (j ≡ k) ⊎ (j ≢ k) → ⊥
  by (inl at) = ne (sym (item-same SpiJobOk rs k x) ∙ (ap (λ i. job_result (with_item SpiJobOk rs k x) i) (sym at) ∙ e))
  by (inr other) = good j (sym (item-other SpiJobOk rs k j x other) ∙ e)

good_results : (js : List ℕ) (xs rs : List AnswerName) → Good rs → Goods xs → Good (with_results js xs rs)
unfolding Goods
good_results [] xs rs good all = good
good_results (j ∷ js) [] rs good all = good
good_results (j ∷ js) (x ∷ xs) rs good all = good_results js xs (with_item SpiJobOk rs j x) (good_item rs j x good all.0) all.1

goods_drop : (n : ℕ) (xs : List AnswerName) → Goods xs → Goods (drop n xs)
unfolding Goods
goods_drop zero xs all = all
goods_drop (suc n) [] all = tt
goods_drop (suc n) (x ∷ xs) all = goods_drop n xs all.1

goods_same : (x : AnswerName) (js : List ℕ) → x ≢ SpiJobFailed → Goods (map (λ j. x) js)
unfolding Goods
goods_same x [] ne = tt
goods_same x (j ∷ js) ne = (ne, goods_same x js ne)

goods_had : (rs : List AnswerName) (js : List ℕ) → Good rs → Goods (map (job_result rs) js)
unfolding Good Goods
goods_had rs [] good = tt
goods_had rs (j ∷ js) good = (good j, goods_had rs js good)

-- ---- pending sequences

AllHad : List Pending → Type 0
AllHad [] = Unit {0}
AllHad (p ∷ ps) = Goods p.had × AllHad ps

had_changed : (k : ℕ) (f : Pending → Pending) → ((p : Pending) → (f p).had ≡ p.had) → (ps : List Pending) → AllHad ps → AllHad (changed k f ps)
unfolding AllHad
had_changed k f e [] all = tt
had_changed k f e (p ∷ ps) all = (by (p.sequence == k), had_changed k f e ps all.1) where
  by : (b : Bool) → Goods (cond b (f p) p).had
  by true = subst Goods (sym (e p)) all.0
  by false = all.0

had_without : (k : ℕ) (ps : List Pending) → AllHad ps → AllHad (without k ps)
unfolding AllHad
had_without k [] all = tt
had_without k (p ∷ ps) all = by (p.sequence == k) all.0 (had_without k ps all.1) where
  by : (b : Bool) → Goods p.had → AllHad (without k ps) → AllHad (cond (not b) (p ∷ without k ps) (without k ps))
  by true one rest = rest
  by false one rest = (one, rest)

had_joined : (ps : List Pending) (x : Pending) → AllHad ps → Goods x.had → AllHad (ps ++ x ∷ [])
unfolding AllHad
had_joined [] x all one = (one, tt)
had_joined (p ∷ ps) x all one = (all.0, had_joined ps x all.1 one)

had_found : (q : ℕ) (ps : List Pending) (p : Pending) → AllHad ps → find (is_of q) ps ≡ Some p → Goods p.had
unfolding AllHad
had_found q [] p all e = absurd (cc e)
had_found q (x ∷ ps) p all e = by (x.sequence == q) e all.0 (λ f. had_found q ps p all.1 f) where
  by : (b : Bool) → cond b (Some x) (find (is_of q) ps) ≡ Some p → Goods x.had → (find (is_of q) ps ≡ Some p → Goods p.had) → Goods p.had
  by true e one more = subst (λ (y : Pending). Goods y.had) (some_is x p e) one
  by false e one more = more e

-- ---- the state

record IsClean (s : SpiState) : Type 0 where
  results : Good s.job_results
  had : AllHad s.pending
  sent : (u : ℕ) (x : Carrying) → carried_at s u ≡ Some x → Goods x.entry.had

clean_same : (s t : SpiState) → t.job_results ≡ s.job_results → t.pending ≡ s.pending → t.carried ≡ s.carried → IsClean s → IsClean t
clean_same s t e f g h = record { results = subst Good (sym e) h.results; had = subst AllHad (sym f) h.had; sent = λ u x is. h.sent u x (ap (λ xs. slice_index_or xs u None) (sym g) ∙ is) }

none_failed : Good []
unfolding Good
none_failed j e = absurd (cc e)

first_clean : IsClean first_state
unfolding AllHad
first_clean = record { results = none_failed; had = tt; sent = λ u x is. absurd (cc is) }

unless_clean : (b : Bool) (s after : SpiState) → IsClean after → IsClean s → IsClean (unless_busy b s after).state
unless_clean true s after a h = h
unless_clean false s after a h = a

cancelled_clean : (d : SpiTable) (s : SpiState) (p : Pending) (b : Bool) → IsClean s → Goods p.had → IsClean (cancelled_by d s p b).state
cancelled_clean d s p true h one = record { results = h.results; had = had_changed p.sequence cancels (λ x. refl) s.pending h.had; sent = h.sent }
cancelled_clean d s p false h one = record {
  results = good_results (drop p.next (jobs_of d p.sequence)) (drop p.next p.had) s.job_results h.results (goods_drop p.next p.had one);
  had = had_without p.sequence s.pending h.had;
  sent = h.sent;
}

cancel_clean : (d : SpiTable) (s : SpiState) (k : ℕ) (o : Option Pending) → find (is_of k) s.pending ≡ o → IsClean s → IsClean (cancelled d s o).state
cancel_clean d s k None e h = h
cancel_clean d s k (Some p) e h = cancelled_clean d s p (is_running s p.sequence) h (had_found k s.pending p h.had e)

isnt_queued : SpiJobQueued ≢ SpiJobFailed
isnt_queued e = absurd (cc e)

isnt_pending : SpiJobPending ≢ SpiJobFailed
isnt_pending e = absurd (cc e)

isnt_ok : SpiJobOk ≢ SpiJobFailed
isnt_ok e = absurd (cc e)

acts_clean : (d : SpiTable) (s : SpiState) (call : Call) (e : Option ErrorName) → IsClean s → IsClean (acts_by d s call e).state
unfolding AllHad
acts_clean d s call (Some e) h = h
acts_clean d s Init None h = record { results = none_failed; had = tt; sent = λ u x is. absurd (cc is) }
acts_clean d s DeInit None h = unless_clean (is_busy s) s _ (record { results = h.results; had = h.had; sent = h.sent }) h
acts_clean d s (SetAsyncMode m) None h = unless_clean (is_busy s) s _ (record { results = h.results; had = h.had; sent = h.sent }) h
acts_clean d s MainFunctionHandling None h = h
acts_clean d s (Channel c (WriteIb p)) None h = record { results = h.results; had = h.had; sent = h.sent }
acts_clean d s (Channel c ReadIb) None h = h
acts_clean d s (Channel c (SetupEb p q n)) None h = record { results = h.results; had = h.had; sent = h.sent }
acts_clean d s (Sequence q AsyncTransmit) None h = record {
  results = good_results (jobs_of d q) (map (λ j. SpiJobQueued) (jobs_of d q)) s.job_results h.results (goods_same SpiJobQueued (jobs_of d q) isnt_queued);
  had = had_joined s.pending _ h.had (goods_had s.job_results (jobs_of d q) h.results);
  sent = h.sent;
}
acts_clean d s (Sequence q SyncTransmit) None h = h
acts_clean d s (Sequence q Cancel) None h = cancel_clean d s q (find (is_of q) s.pending) refl h
acts_clean d s (Get query) None h = h

after_clean : (d : SpiTable) (t : SpiState) (p : Pending) (e : Option AnswerName) → IsClean t → Goods p.had → IsClean (sequence_after d t p e).state
after_clean d t p None h one = record { results = h.results; had = had_changed p.sequence goes_to_next (λ x. refl) t.pending h.had; sent = h.sent }
after_clean d t p (Some x) h one = record {
  results = good_results (drop (p.next + 1) (jobs_of d p.sequence)) (drop (p.next + 1) p.had) t.job_results h.results (goods_drop (p.next + 1) p.had one);
  had = had_without p.sequence t.pending h.had;
  sent = h.sent;
}

over_clean : (d : SpiTable) (t : SpiState) (u k : ℕ) (failed : Bool) (o : Option Pending) → failed ≡ false → find (is_of k) t.pending ≡ o → IsClean t → IsClean (job_over d t u failed o).state
over_clean d t u k true o e f h = absurd (cc e)
over_clean d t u k false None e f h = record { results = h.results; had = h.had; sent = h.sent }
over_clean d t u k false (Some p) e f h =
    after_clean d _ p (end_by p.cancelled false (has_further d p)) (record { results = good_item t.job_results _ SpiJobOk h.results isnt_ok; had = h.had; sent = h.sent }) (had_found k t.pending p h.had f)

served_clean : (d : SpiTable) (w : World) (s : SpiState) (u received : ℕ) (r : Run) (b : Bool) → r.transfer.failed ≡ false → IsClean s → IsClean (served_by d w s u received r b).state
served_clean d w s u received r true e h =
    clean_same s (served_by d w s u received r true).state (stored-seen (λ s. s.job_results) (λ s c x. refl) s (word_of r) (word_of r).goes r.transfer.incoming)
    (stored-seen (λ s. s.pending) (λ s c x. refl) s (word_of r) (word_of r).goes r.transfer.incoming)
    (stored-seen (λ s. s.carried) (λ s c x. refl) s (word_of r) (word_of r).goes r.transfer.incoming) h
served_clean d w s u received r false e h =
    let t : SpiState = after_last s r r.transfer.failed in
    let same = after_last-seen (λ s. s.pending) (λ s c x. refl) s r r.transfer.failed in
    over_clean d t u r.sequence r.transfer.failed (pending_of s r) e (ap (λ ps. find (is_of r.sequence) ps) same)
    (clean_same s t (after_last-seen (λ s. s.job_results) (λ s c x. refl) s r r.transfer.failed) same (after_last-seen (λ s. s.carried) (λ s c x. refl) s r r.transfer.failed) h)

line_clean : (d : SpiTable) (w : World) (s : SpiState) (k : Option ℕ) (received : ℕ) (o : Option Run) → run_of s k ≡ o → ((u : ℕ) (r : Run) → run_at s u ≡ Some r → r.transfer.failed ≡ false) → IsClean s → IsClean (served d w s k received o).state
line_clean d w s None received o is good h = h
line_clean d w s (Some u) received None is good h = h
line_clean d w s (Some u) received (Some r) is good h = served_clean d w s u received r (goes_on r) (good u r is) h

start_clean : (d : SpiTable) (w : World) (s : SpiState) (k : Option ℕ) (received : ℕ) (o : Option Pending) (out : Outcome SpiState) → start_by d w s k received o ≡ Some out → IsClean s → IsClean out.state
start_clean d w s None received o out e h = absurd (cc e)
start_clean d w s (Some u) received None out e h = absurd (cc e)
start_clean d w s (Some u) received (Some p) out e h =
    subst (λ (x : Outcome SpiState). IsClean x.state) (some_is _ out e)
    (record { results = good_item s.job_results _ SpiJobPending h.results isnt_pending; had = had_changed p.sequence starts (λ x. refl) s.pending h.had; sent = h.sent })

moved_clean : (d : SpiTable) (w : World) (s : SpiState) (order : Order) → IsClean s → IsClean (moved d w s order)
moved_clean d w s (Fill c ws) h = record { results = h.results; had = h.had; sent = h.sent }
moved_clean d w s (SpiFault u) h = record { results = h.results; had = h.had; sent = λ v x is. by_unit v x is (same_or_other v u) }
  where
    was : (v : ℕ) (x : Carrying) (o : Option Carrying) → carried_at s v ≡ o → faulted_carrying w.now o ≡ Some x → Goods x.entry.had
    was v x None e is = absurd (cc is)
    was v x (Some y) e is = subst (λ (z : Carrying). Goods z.entry.had) (some_is _ x is) (h.sent v y e)

    by_unit : (v : ℕ) (x : Carrying) → carried_at (moved d w s (SpiFault u)) v ≡ Some x → (v ≡ u) ⊎ (v ≢ u) → Goods x.entry.had
    by_unit v x is (inl at) = was u x (carried_at s u) refl (sym (item-same None s.carried u (faulted_carrying w.now (carried_at s u))) ∙ (ap (λ i. carried_at (moved d w s (SpiFault u)) i) (sym at) ∙ is))
    by_unit v x is (inr ne) = h.sent v x (sym (item-other None s.carried u v (faulted_carrying w.now (carried_at s u)) ne) ∙ is)
moved_clean d w s order h = h

-- what Spi_SyncTransmit carries out
put_sent : (s : SpiState) (cs : List (Option Carrying)) (u : ℕ) (y : Carrying) → ((v : ℕ) (x : Carrying) → slice_index_or cs v None ≡ Some x → Goods x.entry.had) → Goods y.entry.had
    → (v : ℕ) (x : Carrying) → slice_index_or (with_item None cs u (Some y)) v None ≡ Some x → Goods x.entry.had
put_sent s cs u y before one v x is = by (same_or_other v u)
  where
    by : (v ≡ u) ⊎ (v ≢ u) → Goods x.entry.had
    by (inl at) = subst (λ (z : Carrying). Goods z.entry.had) (some_is y x (sym (item-same None cs u (Some y)) ∙ (ap (λ i. slice_index_or (with_item None cs u (Some y)) i None) (sym at) ∙ is))) one
    by (inr ne) = before v x (sym (item-other None cs u v (Some y) ne) ∙ is)

-- such a sequence ends with a good word
sent_clean : (d : SpiTable) (w : World) (s : SpiState) (q : ℕ) (x : Carrying) (failed : Bool) → failed ≡ false → carried_at s (unit_of_sequence d q) ≡ Some x → IsClean s → IsClean (sent d s (unit_of_sequence d q) x failed).state
sent_clean d w s q x true e is h = absurd (cc e)
sent_clean d w s q x false e is h =
    let u : ℕ = unit_of_sequence d q in
    record {
      results = good_results (drop (x.entry.next + 1) (jobs_of d x.entry.sequence)) (drop (x.entry.next + 1) x.entry.had) (with_item SpiJobOk s.job_results (next_job d x.entry) SpiJobOk)
          (good_item s.job_results (next_job d x.entry) SpiJobOk h.results isnt_ok) (goods_drop (x.entry.next + 1) x.entry.had (h.sent u x is));
      had = subst AllHad (sym (after_last-seen (λ s. s.pending) (λ s c x. refl) s x.run false)) h.had;
      sent = λ v y at. by v y at (sent_frees d s u x false v);
    }
  where
    by : (v : ℕ) (y : Carrying) → carried_at (sent d s (unit_of_sequence d q) x false).state v ≡ Some y
        → (carried_at (sent d s (unit_of_sequence d q) x false).state v ≡ carried_at s v) ⊎ (carried_at (sent d s (unit_of_sequence d q) x false).state v ≡ None) → Goods y.entry.had
    by v y at (inl same) = h.sent v y (sym same ∙ at)
    by v y at (inr free) = absurd (cc (sym free ∙ at))

-- it begins
begun_clean : (d : SpiTable) (w : World) (s : SpiState) (u received q : ℕ) → IsClean s → IsClean (carries_job d w (sequence_begun d s q) u received (as_requested d s q)).state
begun_clean d w s u received q h = record {
  results = good_item (all_get SpiJobQueued (jobs_of d q) s.job_results) (next_job d (as_requested d s q)) SpiJobPending
      (good_results (jobs_of d q) (map (λ j. SpiJobQueued) (jobs_of d q)) s.job_results h.results (goods_same SpiJobQueued (jobs_of d q) isnt_queued)) isnt_pending;
  had = h.had;
  sent = put_sent s s.carried u _ h.sent (goods_had s.job_results (jobs_of d q) h.results);
}

-- it goes on
sent_on_clean : (d : SpiTable) (w : World) (s : SpiState) (u received : ℕ) (x : Carrying) (b : Bool) → Goods x.entry.had → IsClean s → IsClean (sent_on d w s u received x b).state
sent_on_clean d w s u received x true one h =
    let t : SpiState = stored s (word_of x.run) (word_of x.run).goes x.run.transfer.incoming in
    let same = stored-seen (λ s. s.carried) (λ s c x. refl) s (word_of x.run) (word_of x.run).goes x.run.transfer.incoming in
    record {
      results = subst Good (sym (stored-seen (λ s. s.job_results) (λ s c x. refl) s (word_of x.run) (word_of x.run).goes x.run.transfer.incoming)) h.results;
      had = subst AllHad (sym (stored-seen (λ s. s.pending) (λ s c x. refl) s (word_of x.run) (word_of x.run).goes x.run.transfer.incoming)) h.had;
      sent = put_sent s t.carried u _ (λ v y is. h.sent v y (ap (λ xs. slice_index_or xs v None) (sym same) ∙ is)) one;
    }
sent_on_clean d w s u received x false one h =
    let t : SpiState = after_last s x.run false in
    let same = after_last-seen (λ s. s.carried) (λ s c x. refl) s x.run false in
    record {
      results = good_item (with_item SpiJobOk s.job_results (next_job d x.entry) SpiJobOk) (next_job d (goes_to_next x.entry)) SpiJobPending (good_item s.job_results (next_job d x.entry) SpiJobOk h.results isnt_ok) isnt_pending;
      had = subst AllHad (sym (after_last-seen (λ s. s.pending) (λ s c x. refl) s x.run false)) h.had;
      sent = put_sent s t.carried u _ (λ v y is. h.sent v y (ap (λ xs. slice_index_or xs v None) (sym same) ∙ is)) one;
    }

-- no word in transfer has failed
record AllGood (s : SpiState) : Type 0 where
  runs : (u : ℕ) (r : Run) → run_at s u ≡ Some r → r.transfer.failed ≡ false
  sends : (u : ℕ) (x : Carrying) → carried_at s u ≡ Some x → x.run.transfer.failed ≡ false

step_clean : (d : SpiTable) (w : World) (s : SpiState) (x : Happening Call) (out : Outcome SpiState) → (spi_machine d).happens w s x ≡ Some out → AllGood s → IsClean s → IsClean out.state
step_clean d w s (Acts call times) out e good h =
    act-either (λ (x : Outcome SpiState). IsClean x.state) d w s call out e (acts_clean d s call (error_by d call (is_off s.mode) (finds_held d s call)) h) (λ q x c f. h)
    (λ q x c ends. let is = carried_is d s q x ends.carried in sent_clean d w s q x x.run.transfer.failed (good.sends (unit_of_sequence d q) x is) is h)
step_clean d w s (Serves line received) out e good h =
    subst (λ (x : Outcome SpiState). IsClean x.state) (serve_by (ready w s line) (served d w s (unit_of line) received (run_of s (unit_of line))) out e) (line_clean d w s (unit_of line) received (run_of s (unit_of line)) refl good.runs h)
step_clean d w s (Starts unit made_by received) out e good h =
    start-either (λ (x : Outcome SpiState). IsClean x.state) d w s (number_of unit) made_by received out e
    (λ n f. start_clean d w s (number_of unit) received (next_at d s (number_of unit)) out f h) (λ u q on new. begun_clean d w s u received q h)
    (λ u q x on more. sent_on_clean d w s u received x (goes_on x.run) (h.sent (unit_of_sequence d q) x (carried_is d s q x more.carried)) h)
step_clean d w s (Aborts unit) out e good h = absurd (cc e)
step_clean d w s (Moves order) out e good h = subst (λ (x : Outcome SpiState). IsClean x.state) (some_is _ out e) (moved_clean d w s order h)
step_clean d w s (Restarts reason) out e good h = subst (λ (x : Outcome SpiState). IsClean x.state) (some_is _ out e) first_clean

-- ---- words that don't fail

no_hit : (u began now : ℕ) (h : Happening Call) → is_fault h ≡ false → hits u began now h ≡ false
no_hit u began now (Moves (SpiFault k)) e = absurd (cc e)
no_hit u began now h e = refl

none_met : (u began : ℕ) (since : List (Event Call)) → NoneOf can_fail since → met u began since ≡ false
none_met u began [] none = refl
none_met u began (e ∷ since) none =
    let parts = or_parts (can_fail e) (list_any can_fail since) none in
    let calm = or_parts (received_at e.what == refused) (is_fault e.what) parts.0 in
    ap (λ b. b || met u began since) (no_hit u began e.world.now e.what calm.1) ∙ none_met u began since parts.1

split : (xs : List (Event Call)) (y : Event Call) (ys : List (Event Call)) → NoneOf can_fail (xs ++ y ∷ ys) → NoneOf can_fail xs × (can_fail y ≡ false)
split [] y ys none = (refl, (or_parts (can_fail y) (list_any can_fail ys) none).0)
split (x ∷ xs) y ys none =
    let parts = or_parts (can_fail x) (list_any can_fail (xs ++ y ∷ ys)) none in
    let rest = split xs y ys parts.1 in (ap (λ b. b || list_any can_fail xs) parts.0 ∙ rest.0, rest.1)

good_word : (d : SpiTable) (u : ℕ) (past : List (Event Call)) (r : Run) → NoneOf can_fail past → WordOf d u past r → r.transfer.failed ≡ false
good_word d u past r none x =
    let w = x.word in
    let parts = split w.since w.start w.before (subst (λ (l : List (Event Call)). NoneOf can_fail l) w.is none) in
    let calm = or_parts (received_at w.start.what == refused) (is_fault w.start.what) parts.1 in
    x.failed ∙ (ap (λ b. b || met u w.start.world.now w.since) calm.0 ∙ none_met u w.start.world.now w.since parts.0)

good_words : (d : SpiTable) (past : List (Event Call)) → AreAllowed (spi_machine d) first_state past → NoneOf can_fail past → AllGood (state_of d past)
good_words d past allowed none = record {
  runs = λ u r is. good_word d u past r none (story d u past allowed r is);
  sends = λ u x is. good_word d u past x.run none (sent_story d u past allowed x.run (ap run_carried is));
}

some_out : (o : Option (Outcome SpiState)) → IsSome o → (out : Outcome SpiState) × (o ≡ Some out)
some_out None e = absurd (cc e)
some_out (Some out) e = (out, refl)

clean : (d : SpiTable) (past : List (Event Call)) → AreAllowed (spi_machine d) first_state past → NoneOf can_fail past → IsClean (state_of d past)
clean d [] allowed none = first_clean
clean d (e ∷ past) allowed none =
    let parts = or_parts (can_fail e) (list_any can_fail past) none in
    let out = some_out ((spi_machine d).happens e.world (state_of d past) e.what) allowed.0 in
    subst IsClean (sym (ap (λ o. state_by (state_of d past) o) out.1))
    (step_clean d e.world (state_of d past) e.what out.0 out.1 (good_words d past allowed.1 parts.1) (clean d past allowed.1 parts.1))

pub none_fails : (d : SpiTable) (past : List (Event Call)) (job : ℕ) → AreAllowed (spi_machine d) first_state past → NoneOf can_fail past → job_result (state_of d past).job_results job ≢ SpiJobFailed
unfolding Good
none_fails d past job allowed none = (clean d past allowed none).results job
