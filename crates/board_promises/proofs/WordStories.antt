-- Since when a unit's word is in transfer, and whether it has failed.
use Rattle.std.proofs.Common.{◌≡◌, ℕ, zero, suc, ◌+◌, ◌<◌, ◌==◌, nat_le, Bool, true, false, not, ◌&&◌, ◌||◌, List, [], ◌∷◌, length, slice_index_or, Option, Some, None, refl, sym, ◌∙◌, ap, subst, arith, ◌⊎◌, inl, inr}
use Rattle.std.specs.Prelude.{IsSome, if◌then◌else◌}
use Rattle.std.specs.List.{list_any}
use Rattle.std.proofs.lemmas.Bool.Decides.{nat_tests}
use Rattle.std.proofs.lemmas.Bool.{and_parts, or_from}
use Rattle.mcal_base.specs.facts.Truths.{or_true}
use Rattle.mcal_base.specs.facts.Options.{some_is}
use Rattle.mcal_base.specs.facts.Numbers.{eq_is, eq_self}
use Rattle.mcal_base.specs.declared.answer_name.AnswerName.{AnswerName}
use Rattle.mcal_base.specs.declared.directive.Order.TheVariants.{SpiFault}
use Rattle.mcal_base.specs.declared.error_name.ErrorName.{ErrorName}
use Rattle.run_model.specs.Frame.{state_by, begun_by}
use Rattle.run_model.specs.Machine.{Happening, Acts, Serves, Starts, Aborts, Moves, Restarts, Outcome}
use Rattle.run_model.specs.World.{World}
use Rattle.spi_machine.proofs.Numbers.{item-same}
use Rattle.spi_machine.proofs.Runs.{after_last-seen, serve_by}
use Rattle.spi_machine.proofs.Sending.{plain-start}
use Rattle.spi_machine.specs.Checks.{error_by}
use Rattle.spi_machine.specs.Machine.{spi_machine, acts, acts_by, sent_by, is_sync_number, finds_held, after_last, sequence_after, job_over, pending_of, served_by, served, unit_of, run_of, ready, start_by, next_at, number_of}
use Rattle.spi_machine.specs.Pending.{Pending, end_by, has_further}
use Rattle.spi_machine.specs.Promised.{received_at, is_init}
use Rattle.spi_machine.specs.Runs.{state_after}
use Rattle.spi_machine.specs.State.{SpiState, first_state, is_off, run_at}
use Rattle.spi_machine.specs.Table.{is_sync_unit}
use Rattle.spi_machine.specs.Transfers.{Run, refused, goes_on}
use Rattle.spi_machine.specs.declared.call.Call.{Call}
use Rattle.spi_machine.specs.declared.call.Call.TheVariants.{Init}
use Rattle.spi_machine.specs.declared.table.SpiTable.{SpiTable}
use Rattle.machine_laws.specs.serial.Faults.{begins_on, is_unit, leaves_word}
use Rattle.machine_laws.proofs.Sendings.{act_so, start_so, act_plain}
use Rattle.machine_laws.proofs.Words.{word_seen, begins_seen, hits, After, step_word, acts_units, starts_other, sent_on_units}
use Rattle.board_promises.specs.whole_runs.Runs.{Event, AreAllowed}
use Rattle.board_promises.specs.run_laws.Results.{state_of, touches, WordSince, IsMet, HasFailed}

-- ---- an event that touches a unit's word

sequence_units : (d : SpiTable) (s : SpiState) (p : Pending) (e : Option AnswerName) → (sequence_after d s p e).state.units ≡ s.units
sequence_units d s p None = refl
sequence_units d s p (Some e) = refl

over_free : (d : SpiTable) (s : SpiState) (u : ℕ) (failed : Bool) (o : Option Pending) → run_at (job_over d s u failed o).state u ≡ None
over_free d s u failed None = item-same None s.units u None
over_free d s u failed (Some p) =
    ap (λ us. slice_index_or us u None) (sequence_units d _ p (end_by p.cancelled failed (has_further d p))) ∙ item-same None s.units u None

abbrev Touched : ℕ → Outcome SpiState → Type 0
Touched u out = (begins_on u out.begins ≡ true) ⊎ (run_at out.state u ≡ None)

served_touched : (d : SpiTable) (w : World) (s : SpiState) (received u : ℕ) (r : Run) (b : Bool) → Touched u (served_by d w s u received r b)
served_touched d w s received u r true = inl (eq_self u)
served_touched d w s received u r false = inr (over_free d (after_last s r r.transfer.failed) u r.transfer.failed (pending_of s r))

serves_touched : (d : SpiTable) (w : World) (s : SpiState) (received u v : ℕ) (o : Option Run) → v ≡ u → run_at s v ≡ o → Touched u (served d w s (Some v) received o)
serves_touched d w s received u v None at is = inr (ap (λ i. run_at s i) (sym at) ∙ is)
serves_touched d w s received u v (Some r) at is = ap_touched at
  where
    ap_touched : v ≡ u → Touched u (served_by d w s v received r (goes_on r))
    ap_touched e = subst (λ i. Touched i (served_by d w s v received r (goes_on r))) e (served_touched d w s received v r (goes_on r))

line_touched : (d : SpiTable) (w : World) (s : SpiState) (received u : ℕ) (k : Option ℕ) → is_unit u k ≡ true → Touched u (served d w s k received (run_of s k))
line_touched d w s received u None e = absurd (cc e)
line_touched d w s received u (Some v) e = serves_touched d w s received u v (run_at s v) (eq_is v u e) refl

start_touched : (d : SpiTable) (w : World) (s : SpiState) (received u : ℕ) (k : Option ℕ) (o : Option Pending) (out : Outcome SpiState) → is_unit u k ≡ true → start_by d w s k received o ≡ Some out → begins_on u out.begins ≡ true
start_touched d w s received u None o out on e = absurd (cc on)
start_touched d w s received u (Some v) None out on e = absurd (cc e)
start_touched d w s received u (Some v) (Some p) out on e = ap (λ (x : Outcome SpiState). begins_on u x.begins) (sym (some_is _ out e)) ∙ on

pub unit_is : (u : ℕ) (k : Option ℕ) → is_unit u k ≡ true → k ≡ Some u
unit_is u None e = absurd (cc e)
unit_is u (Some v) e = ap (λ i. Some i) (eq_is v u e)

touched : (d : SpiTable) (w : World) (s : SpiState) (h : Happening Call) (out : Outcome SpiState) (u : ℕ) → (spi_machine d).happens w s h ≡ Some out → is_sync_unit d u ≡ false → touches u h ≡ true → Touched u out
touched d w s (Acts call times) out u made plain on = absurd (cc on)
touched d w s (Serves line received) out u made plain on =
    subst (λ (x : Outcome SpiState). Touched u x) (serve_by (ready w s line) (served d w s (unit_of line) received (run_of s (unit_of line))) out made) (line_touched d w s received u (unit_of line) on)
touched d w s (Starts unit made_by received) out u made plain on =
    inl (start_touched d w s received u (number_of unit) (next_at d s (number_of unit)) out on (plain-start d w s (number_of unit) made_by received out u made (unit_is u (number_of unit) on) plain))
touched d w s (Aborts unit) out u made plain on = absurd (cc on)
touched d w s (Moves order) out u made plain on = absurd (cc on)
touched d w s (Restarts reason) out u made plain on = inr (ap (λ (x : Outcome SpiState). run_at x.state u) (sym (some_is _ out made)))

-- ---- an event that doesn't

abbrev Kept : ℕ → World → SpiState → Happening Call → Outcome SpiState → Type 0
Kept u w s h out = (word_seen (run_at out.state u) ≡ After u w (word_seen (run_at s u)) h) ⊎ (run_at out.state u ≡ None)

or_none : (b : Bool) → (b || false) ≡ b
or_none true = refl
or_none false = refl

same_after : (u : ℕ) (w : World) (o : Option (ℕ × Bool)) (call : Call) (times : ℕ → ℕ) → After u w o (Acts call times) ≡ o
same_after u w None call times = refl
same_after u w (Some x) call times = ap (λ (b : Bool). pair x.0 b) (or_none x.1) where
  pair : ℕ → Bool → Option (ℕ × Bool)
  pair began failed = Some (began, failed)

init_kept : (d : SpiTable) (w : World) (s : SpiState) (u : ℕ) (call : Call) (times : ℕ → ℕ) (e : Option ErrorName) → is_init call ≡ true → Kept u w s (Acts call times) (acts_by d s call e)
init_kept d w s u call times (Some e) on = inl (sym (same_after u w (word_seen (run_at s u)) call times))
init_kept d w s u Init times None on = inr refl
init_kept d w s u call times None on = absurd (cc on)

-- an initialisation sends nothing
pub init_alone : (call : Call) → is_init call ≡ true → sent_by (Some call) ≡ None
init_alone Init e = refl
init_alone call e = absurd (cc e)

step_kept : (d : SpiTable) (w : World) (s : SpiState) (h : Happening Call) (out : Outcome SpiState) (u : ℕ) → (spi_machine d).happens w s h ≡ Some out → leaves_word u h ≡ true → Kept u w s h out
step_kept d w s h out u made left = inl (ap (λ o. word_seen (run_at (state_by s o) u)) (sym made) ∙ step_word d w s u h left)

not_false : (b : Bool) → b ≡ false → not b ≡ true
not_false b e = ap not e

act_kept : (d : SpiTable) (w : World) (s : SpiState) (call : Call) (times : ℕ → ℕ) (out : Outcome SpiState) (u : ℕ) (q : Bool) → (spi_machine d).happens w s (Acts call times) ≡ Some out → is_init call ≡ q → Kept u w s (Acts call times) out
act_kept d w s call times out u true made e =
    subst (λ (x : Outcome SpiState). Kept u w s (Acts call times) x) (act_plain d w s call times out (init_alone call e) made) (init_kept d w s u call times (error_by d call (is_off s.mode) (finds_held d s call)) e)
act_kept d w s call times out u false made e = step_kept d w s (Acts call times) out u made (not_false (is_init call) e)

kept : (d : SpiTable) (w : World) (s : SpiState) (h : Happening Call) (out : Outcome SpiState) (u : ℕ) → (spi_machine d).happens w s h ≡ Some out → touches u h ≡ false → Kept u w s h out
kept d w s (Acts call times) out u made off = act_kept d w s call times out u (is_init call) made refl
kept d w s (Serves line received) out u made off = step_kept d w s (Serves line received) out u made (not_false (is_unit u (unit_of line)) off)
kept d w s (Starts unit made_by received) out u made off = step_kept d w s (Starts unit made_by received) out u made (not_false (is_unit u (number_of unit)) off)
kept d w s (Aborts unit) out u made off = step_kept d w s (Aborts unit) out u made refl
kept d w s (Moves order) out u made off = step_kept d w s (Moves order) out u made refl
kept d w s (Restarts reason) out u made off = absurd (cc off)

-- ---- the word of a run

-- a fault among these events hits a word that began then
abbrev pub met : (unit began : ℕ) → List (Event Call) → Bool
met u began since = list_any (λ (e : Event Call). hits u began e.world.now e.what) since

pub record WordOf (d : SpiTable) (u : ℕ) (past : List (Event Call)) (r : Run) : Type 0 where
  pub word : WordSince d u past
  pub began : r.transfer.began ≡ word.start.world.now
  pub failed : r.transfer.failed ≡ ((received_at word.start.what == refused) || met u word.start.world.now word.since)

seen_parts : (o : Option Run) (r : Run) (began : ℕ) (failed : Bool) → word_seen o ≡ Some (began, failed) → o ≡ Some r → (r.transfer.began ≡ began) × (r.transfer.failed ≡ failed)
seen_parts o r began failed e is =
    let same = some_is _ _ (sym (ap word_seen is) ∙ e) in (ap (λ (p : ℕ × Bool). p.0) same, ap (λ (p : ℕ × Bool). p.1) same)

or_turned : (a b c : Bool) → ((a || b) || c) ≡ (a || (c || b))
or_turned true b c = refl
or_turned false true true = refl
or_turned false true false = refl
or_turned false false true = refl
or_turned false false false = refl

no_run : {A : Type 0} (o : Option Run) (r : Run) → o ≡ None → o ≡ Some r → A
no_run o r e f = absurd (cc (sym e ∙ f))

none_seen : (u : ℕ) (w : World) (o : Option Run) (h : Happening Call) (after : Option Run) (r : Run) → o ≡ None → word_seen after ≡ After u w (word_seen o) h → after ≡ Some r → ⊥
none_seen u w o h after r e f is = absurd (cc (sym (ap word_seen is) ∙ (f ∙ ap (λ x. After u w (word_seen x) h) e)))

-- what a unit runs, and what an event does to its word: it begins it, leaves it, or frees the unit
abbrev pub WordTurns : ℕ → (run : SpiState → Option Run) → World → SpiState → Happening Call → Outcome SpiState → Type 0
WordTurns u run w s h out =
    ((begins_on u out.begins ≡ true) × (word_seen (run out.state) ≡ Some (w.now, received_at h == refused)))
    ⊎ (((touches u h ≡ false) × (word_seen (run out.state) ≡ After u w (word_seen (run s)) h)) ⊎ (run out.state ≡ None))

module _ (d : SpiTable) (u : ℕ) (run : SpiState → Option Run) where
  abbrev pub Story : List (Event Call) → Type 0
  Story past = (r : Run) → run (state_of d past) ≡ Some r → WordOf d u past r

  fresh : (e : Event Call) (past : List (Event Call)) (out : Outcome SpiState) (r : Run) → (spi_machine d).happens e.world (state_of d past) e.what ≡ Some out → begins_on u out.begins ≡ true
      → word_seen (run out.state) ≡ Some (e.world.now, received_at e.what == refused) → run out.state ≡ Some r → WordOf d u (e ∷ past) r
  fresh e past out r made on seen is =
      let parts = seen_parts (run out.state) r e.world.now (received_at e.what == refused) seen is in
      record {
        word = record { since = []; start = e; before = past; is = refl; begins = ap (λ o. begins_on u (begun_by o)) made ∙ on; alone = refl };
        began = parts.0;
        failed = parts.1 ∙ sym (or_none (received_at e.what == refused));
      }

  on : (e : Event Call) (past : List (Event Call)) (out : Outcome SpiState) (r old : Run) → touches u e.what ≡ false → word_seen (run out.state) ≡ After u e.world (Some (old.transfer.began, old.transfer.failed)) e.what
      → run out.state ≡ Some r → WordOf d u past old → WordOf d u (e ∷ past) r
  on e past out r old off seen is x =
      let parts = seen_parts (run out.state) r old.transfer.began (old.transfer.failed || hits u old.transfer.began e.world.now e.what) seen is in
      let w = x.word in
      record {
        word = record { since = e ∷ w.since; start = w.start; before = w.before; is = ap (λ (l : List (Event Call)). e ∷ l) w.is; begins = w.begins; alone = or_from (touches u e.what) _ off w.alone };
        began = parts.0 ∙ x.began;
        failed =
            parts.1
            ∙ (ap (λ n. old.transfer.failed || hits u n e.world.now e.what) x.began
            ∙ (ap (λ b. b || hits u w.start.world.now e.world.now e.what) x.failed
            ∙ or_turned (received_at w.start.what == refused) (met u w.start.world.now w.since) (hits u w.start.world.now e.world.now e.what)));
      }

  story_kept : (e : Event Call) (past : List (Event Call)) (out : Outcome SpiState) (r : Run) (o : Option Run) → touches u e.what ≡ false → run (state_of d past) ≡ o
      → word_seen (run out.state) ≡ After u e.world (word_seen (run (state_of d past))) e.what → run out.state ≡ Some r → Story past → WordOf d u (e ∷ past) r
  story_kept e past out r None off was seen is story = absurd (none_seen u e.world (run (state_of d past)) e.what (run out.state) r was seen is)
  story_kept e past out r (Some old) off was seen is story = on e past out r old off (seen ∙ ap (λ x. After u e.world (word_seen x) e.what) was) is (story old was)

  pub story_after : (e : Event Call) (past : List (Event Call)) (out : Outcome SpiState) (r : Run) → (spi_machine d).happens e.world (state_of d past) e.what ≡ Some out → WordTurns u run e.world (state_of d past) e.what out
      → run out.state ≡ Some r → Story past → WordOf d u (e ∷ past) r
  story_after e past out r made (inl begins) is story = fresh e past out r made begins.0 begins.1 is
  story_after e past out r made (inr (inl kept)) is story = story_kept e past out r (run (state_of d past)) kept.0 refl kept.1 is story
  story_after e past out r made (inr (inr free)) is story = no_run (run out.state) r free is

-- ---- a unit that starts jobs

abbrev pub runs : ℕ → SpiState → Option Run
runs u s = run_at s u

turns : (d : SpiTable) (w : World) (s : SpiState) (h : Happening Call) (out : Outcome SpiState) (u : ℕ) (q : Bool) → (spi_machine d).happens w s h ≡ Some out → is_sync_unit d u ≡ false → touches u h ≡ q → WordTurns u (runs u) w s h out
turns d w s h out u true made plain t = by (touched d w s h out u made plain t) where
  by : Touched u out → WordTurns u (runs u) w s h out
  by (inl begins) = inl (begins, begins_seen d w s h out u made begins plain)
  by (inr free) = inr (inr free)
turns d w s h out u false made plain t = by (kept d w s h out u made t) where
  by : Kept u w s h out → WordTurns u (runs u) w s h out
  by (inl seen) = inr (inl (t, seen))
  by (inr free) = inr (inr free)

-- a unit that Spi_SyncTransmit uses runs no job of a pending sequence
init_none : (d : SpiTable) (s : SpiState) (u : ℕ) (call : Call) (e : Option ErrorName) → is_init call ≡ true → run_at s u ≡ None → run_at (acts_by d s call e).state u ≡ None
init_none d s u call (Some e) on none = none
init_none d s u Init None on none = refl
init_none d s u call None on none = absurd (cc on)

no_word_seen : (o : Option Run) → word_seen o ≡ None → o ≡ None
no_word_seen None e = refl
no_word_seen (Some r) e = absurd (cc e)

stays_none : (d : SpiTable) (w : World) (s : SpiState) (h : Happening Call) (u : ℕ) → leaves_word u h ≡ true → run_at s u ≡ None → run_at (state_after d w s h) u ≡ None
stays_none d w s h u left none = no_word_seen (run_at (state_after d w s h) u) (step_word d w s u h left ∙ ap (λ o. After u w (word_seen o) h) none)

serve_none : (d : SpiTable) (w : World) (s : SpiState) (k : Option ℕ) (received u : ℕ) (o : Option Run) (b : Bool) → o ≡ None → run_at s u ≡ None → run_at (state_by s (if b then Some (served d w s k received o) else None)) u ≡ None
serve_none d w s k received u (Some r) b e none = absurd (cc e)
serve_none d w s None received u None true e none = none
serve_none d w s (Some v) received u None true e none = none
serve_none d w s k received u None false e none = none

never_step : (d : SpiTable) (w : World) (s : SpiState) (h : Happening Call) (u : ℕ) → is_sync_unit d u ≡ true → run_at s u ≡ None → run_at (state_after d w s h) u ≡ None
never_step d w s (Acts call times) u sync none =
    act_so (λ t. run_at t u ≡ None) d w s call none (by (is_init call) refl) (λ q x ends. ap (λ us. slice_index_or us u None) (after_last-seen (λ s. s.units) (λ s c x. refl) s x.run x.run.transfer.failed) ∙ none)
  where
    by : (b : Bool) → is_init call ≡ b → run_at (acts d s call).state u ≡ None
    by true e = init_none d s u call (error_by d call (is_off s.mode) (finds_held d s call)) e none
    by false e = ap (λ us. slice_index_or us u None) (acts_units d s call (error_by d call (is_off s.mode) (finds_held d s call)) (not_false (is_init call) e)) ∙ none
never_step d w s (Serves line received) u sync none = by (is_unit u (unit_of line)) refl
  where
    by : (b : Bool) → is_unit u (unit_of line) ≡ b → run_at (state_after d w s (Serves line received)) u ≡ None
    by true e = serve_none d w s (unit_of line) received u (run_of s (unit_of line)) (ready w s line) (ap (λ k. run_of s k) (unit_is u (unit_of line) e) ∙ none) none
    by false e = stays_none d w s (Serves line received) u (not_false (is_unit u (unit_of line)) e) none
never_step d w s (Starts unit made_by received) u sync none =
    start_so (λ t. run_at t u ≡ None) d w s (number_of unit) made_by received none (λ n. by (is_unit u (number_of unit)) refl n) (λ v q on. none)
    (λ v q x on more. ap (λ us. slice_index_or us u None) (sent_on_units d w s v received x (goes_on x.run)) ∙ none)
  where
    by : (b : Bool) → is_unit u (number_of unit) ≡ b → is_sync_number d (number_of unit) ≡ false → run_at (state_by s (start_by d w s (number_of unit) received (next_at d s (number_of unit)))) u ≡ None
    by true e n = let on : is_sync_unit d u ≡ false = ap (λ k. is_sync_number d k) (sym (unit_is u (number_of unit) e)) ∙ n in absurd (cc (sym on ∙ sync))
    by false e n = starts_other d w s (number_of unit) received (next_at d s (number_of unit)) u (not_false (is_unit u (number_of unit)) e) ∙ none
never_step d w s (Aborts unit) u sync none = none
never_step d w s (Moves order) u sync none = stays_none d w s (Moves order) u refl none
never_step d w s (Restarts reason) u sync none = refl

pub never_runs : (d : SpiTable) (u : ℕ) (past : List (Event Call)) → is_sync_unit d u ≡ true → run_at (state_of d past) u ≡ None
never_runs d u [] sync = refl
never_runs d u (e ∷ past) sync = never_step d e.world (state_of d past) e.what u sync (never_runs d u past sync)

some_out : (o : Option (Outcome SpiState)) → IsSome o → (out : Outcome SpiState) × (o ≡ Some out)
some_out None e = absurd (cc e)
some_out (Some out) e = (out, refl)

plain_story : (d : SpiTable) (u : ℕ) (past : List (Event Call)) → is_sync_unit d u ≡ false → AreAllowed (spi_machine d) first_state past → Story d u (runs u) past
plain_story d u [] plain allowed r is = absurd (cc is)
plain_story d u (e ∷ past) plain allowed r is =
    let out = some_out ((spi_machine d).happens e.world (state_of d past) e.what) allowed.0 in
    story_after d u (runs u) e past out.0 r out.1 (turns d e.world (state_of d past) e.what out.0 u (touches u e.what) out.1 plain refl) (ap (λ o. run_at (state_by (state_of d past) o) u) (sym out.1) ∙ is) (plain_story d u past plain allowed.1)

pub story : (d : SpiTable) (u : ℕ) (past : List (Event Call)) → AreAllowed (spi_machine d) first_state past → Story d u (runs u) past
story d u past allowed r is = by (is_sync_unit d u) refl
  where
    by : (b : Bool) → is_sync_unit d u ≡ b → WordOf d u past r
    by true sync = no_run (run_at (state_of d past) u) r (never_runs d u past sync) is
    by false plain = plain_story d u past plain allowed r is

-- ---- why it failed

late : (a b : ℕ) → not (nat_le a b) ≡ true → b < a
late a b e = grind (arith, nat_tests)

is_late : (a b : ℕ) → b < a → not (nat_le a b) ≡ true
is_late a b h = grind (arith, nat_tests)

hit_is : (u began now : ℕ) (h : Happening Call) → hits u began now h ≡ true → (h ≡ Moves (SpiFault u)) × (now < began + 8)
hit_is u began now (Moves (SpiFault k)) e =
    let parts = and_parts (k == u) (not (nat_le (began + 8) now)) e in (ap (λ i. Moves (SpiFault i)) (eq_is k u parts.0), late (began + 8) now parts.1)
hit_is u began now h e = absurd (cc e)

is_hit : (u began now : ℕ) (h : Happening Call) → h ≡ Moves (SpiFault u) → now < began + 8 → hits u began now h ≡ true
is_hit u began now h e soon =
    ap (λ x. hits u began now x) e ∙ (ap (λ b. b && not (nat_le (began + 8) now)) (eq_self u) ∙ is_late (began + 8) now soon)

either : (a b : Bool) → (a || b) ≡ true → (a ≡ true) ⊎ (b ≡ true)
either true b e = inl refl
either false b e = inr e

met_by : (u began : ℕ) (since : List (Event Call)) → met u began since ≡ true → IsMet u began since
met_by u began [] e = absurd (cc e)
met_by u began (x ∷ since) e = by (either (hits u began x.world.now x.what) (met u began since) e) (λ f. met_by u began since f) where
  by : (hits u began x.world.now x.what ≡ true) ⊎ (met u began since ≡ true) → (met u began since ≡ true → IsMet u began since) → IsMet u began (x ∷ since)
  by (inl hit) more = let is = hit_is u began x.world.now x.what hit in record { fault = x; among = (0, omega arith, refl); is = is.0; soon = is.1 }
  by (inr later) more = let m = more later in record { fault = m.fault; among = (suc m.among.0, omega (arith, m.among.1), m.among.2); is = m.is; soon = m.soon }

met_at : (u began : ℕ) (since : List (Event Call)) (k : ℕ) (y : Event Call) → k < length since → slice_index_or since k y ≡ y → y.what ≡ Moves (SpiFault u) → y.world.now < began + 8 → met u began since ≡ true
met_at u began [] k y lt at is soon = absurd (omega (arith, lt))
met_at u began (x ∷ since) zero y lt at is soon = ap (λ b. b || met u began since) (ap (λ (z : Event Call). hits u began z.world.now z.what) at ∙ is_hit u began y.world.now y.what is soon)
met_at u began (x ∷ since) (suc k) y lt at is soon = ap (λ b. hits u began x.world.now x.what || b) (met_at u began since k y (omega (arith, lt)) at is soon) ∙ or_true (hits u began x.world.now x.what)

pub has_failed : (d : SpiTable) (u : ℕ) (past : List (Event Call)) (r : Run) (x : WordOf d u past r) → r.transfer.failed ≡ true → HasFailed x.word
has_failed d u past r x e = by (either (received_at x.word.start.what == refused) (met u x.word.start.world.now x.word.since) (sym x.failed ∙ e)) where
  by : ((received_at x.word.start.what == refused) ≡ true) ⊎ (met u x.word.start.world.now x.word.since ≡ true) → HasFailed x.word
  by (inl f) = inl (eq_is (received_at x.word.start.what) refused f)
  by (inr f) = inr (met_by u x.word.start.world.now x.word.since f)

pub failed_if : (d : SpiTable) (u : ℕ) (past : List (Event Call)) (r : Run) (x : WordOf d u past r) → HasFailed x.word → r.transfer.failed ≡ true
failed_if d u past r x (inl e) = x.failed ∙ ap (λ b. b || met u x.word.start.world.now x.word.since) (ap (λ n. n == refused) e ∙ eq_self refused)
failed_if d u past r x (inr m) =
    x.failed ∙ (ap (λ b. (received_at x.word.start.what == refused) || b) (met_at u x.word.start.world.now x.word.since m.among.0 m.fault m.among.1 m.among.2 m.is m.soon) ∙ or_true (received_at x.word.start.what == refused))
