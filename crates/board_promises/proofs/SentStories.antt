-- Since when the word of a unit that Spi_SyncTransmit uses is in transfer.
use Rattle.std.proofs.Common.{◌≡◌, ◌≢◌, ℕ, Bool, true, false, not, ◌&&◌, ◌||◌, ◌==◌, List, [], ◌∷◌, slice_index_or, Option, Some, None, refl, sym, ◌∙◌, ap, subst, ◌⊎◌, inl, inr}
use Rattle.std.specs.Prelude.{IsSome, if◌then◌else◌}
use Rattle.mcal_base.specs.facts.Options.{some_is}
use Rattle.mcal_base.specs.declared.error_name.ErrorName.{ErrorName}
use Rattle.run_model.specs.Frame.{state_by}
use Rattle.run_model.specs.Machine.{Happening, Acts, Serves, Starts, Aborts, Moves, Restarts, Outcome}
use Rattle.run_model.specs.World.{World}
use Rattle.spi_machine.proofs.Sending.{start-either}
use Rattle.spi_machine.specs.Checks.{error_by}
use Rattle.spi_machine.specs.Machine.{spi_machine, acts_by, carried_for, finds_held, has_done, is_sync_number, moved, next_at, number_of, ready, run_of, sent, sent_on, served, unit_of}
use Rattle.spi_machine.specs.Promised.{is_init}
use Rattle.spi_machine.specs.Runs.{state_after}
use Rattle.spi_machine.specs.State.{SpiState, Carrying, first_state, carried_at, is_off, run_at}
use Rattle.spi_machine.specs.Table.{is_sync_unit}
use Rattle.spi_machine.specs.Transfers.{Run, goes_on}
use Rattle.spi_machine.specs.Wiring.{is_sync_sequence, unit_of_sequence}
use Rattle.spi_machine.specs.declared.call.Call.{Call}
use Rattle.spi_machine.specs.declared.call.Call.TheVariants.{Init}
use Rattle.spi_machine.specs.declared.table.SpiTable.{SpiTable}
use Rattle.machine_laws.specs.serial.Faults.{begins_on, is_unit, leaves_word, run_carried}
use Rattle.machine_laws.proofs.Sendings.{act_plain, act_so, start_so}
use Rattle.machine_laws.proofs.SentWords.{StaysSent, acts_carried, moved_sent, same_sent, sent_begins, sent_frees, sent_on_other, serves_carried, starts_carried, step_sent}
use Rattle.machine_laws.proofs.Words.{After, word_seen}
use Rattle.spi_machine.proofs.Numbers.{item-other}
use Rattle.board_promises.specs.whole_runs.Runs.{Event, AreAllowed}
use Rattle.board_promises.specs.run_laws.Results.{state_of, touches}
use Rattle.board_promises.proofs.WordStories.{Story, WordTurns, WordOf, init_alone, never_runs, story_after, unit_is}

-- what a call carries out is what its unit does
for_unit : (off sync : Bool) (o : Option Carrying) (x : Carrying) → (if off || not sync then None else o) ≡ Some x → o ≡ Some x
for_unit true sync o x h = absurd (cc h)
for_unit false false o x h = absurd (cc h)
for_unit false true o x h = h

pub carried_is : (d : SpiTable) (s : SpiState) (q : ℕ) (x : Carrying) → carried_for d s q ≡ Some x → carried_at s (unit_of_sequence d q) ≡ Some x
carried_is d s q x h = for_unit (is_off s.mode) (is_sync_sequence d q) (carried_at s (unit_of_sequence d q)) x h

-- the job that it runs for the call
abbrev pub sends : ℕ → SpiState → Option Run
sends u s = run_carried (carried_at s u)

pub init_carried : (d : SpiTable) (s : SpiState) (u : ℕ) (call : Call) (e : Option ErrorName) → is_init call ≡ true → (carried_at (acts_by d s call e).state u ≡ carried_at s u) ⊎ (carried_at (acts_by d s call e).state u ≡ None)
init_carried d s u call (Some e) on = inl refl
init_carried d s u Init None on = inr refl
init_carried d s u call None on = absurd (cc on)

not_false : (b : Bool) → b ≡ false → not b ≡ true
not_false b e = ap not e

none_ready : (off : Bool) (now : ℕ) (o : Option Run) → o ≡ None → (not off && has_done now o) ≡ false
none_ready true now o e = refl
none_ready false now None e = refl
none_ready false now (Some r) e = absurd (cc e)

module _ (d : SpiTable) (w : World) (s : SpiState) (u : ℕ) (sync : is_sync_unit d u ≡ true) (free : run_at s u ≡ None) where
  stays_turn : (h : Happening Call) (out : Outcome SpiState) → touches u h ≡ false → StaysSent u w s h out.state → WordTurns u (sends u) w s h out
  stays_turn h out off (inl e) = inr (inl (off, e))
  stays_turn h out off (inr e) = inr (inr (ap run_carried e))

  steps_turn : (h : Happening Call) (out : Outcome SpiState) → (spi_machine d).happens w s h ≡ Some out → touches u h ≡ false → leaves_word u h ≡ true → WordTurns u (sends u) w s h out
  steps_turn h out made off left = stays_turn h out off (subst (λ t. StaysSent u w s h t) (ap (λ o. state_by s o) made) (step_sent d w s u h left))

  init_turn : (call : Call) (times : ℕ → ℕ) (out : Outcome SpiState) → (spi_machine d).happens w s (Acts call times) ≡ Some out → is_init call ≡ true → WordTurns u (sends u) w s (Acts call times) out
  init_turn call times out made on =
      subst (λ (t : Outcome SpiState). WordTurns u (sends u) w s (Acts call times) t) (act_plain d w s call times out (init_alone call on) made)
      (by (init_carried d s u call (error_by d call (is_off s.mode) (finds_held d s call)) on))
    where
      by : (carried_at (acts_by d s call (error_by d call (is_off s.mode) (finds_held d s call))).state u ≡ carried_at s u) ⊎ (carried_at (acts_by d s call (error_by d call (is_off s.mode) (finds_held d s call))).state u ≡ None) → WordTurns u (sends u) w s (Acts call times) (acts_by d s call (error_by d call (is_off s.mode) (finds_held d s call)))
      by (inl e) = stays_turn (Acts call times) (acts_by d s call (error_by d call (is_off s.mode) (finds_held d s call))) refl (same_sent u w s (acts_by d s call (error_by d call (is_off s.mode) (finds_held d s call))).state (Acts call times) (λ b. refl) e)
      by (inr e) = inr (inr (ap run_carried e))

  -- a start of the unit begins a word on it
  begins_there : (k : Option ℕ) (v : ℕ) → k ≡ Some v → is_unit u k ≡ true → (v == u) ≡ true
  begins_there k v e on = ap (λ o. is_unit u o) (sym e) ∙ on

  sent_on_there : (v received : ℕ) (x : Carrying) (b : Bool) → (v == u) ≡ true → begins_on u (sent_on d w s v received x b).begins ≡ true
  sent_on_there v received x true e = e
  sent_on_there v received x false e = e

  sent_turns : (h : Happening Call) (out : Outcome SpiState) (q : Bool) → (spi_machine d).happens w s h ≡ Some out → touches u h ≡ q → WordTurns u (sends u) w s h out
  sent_turns (Acts call times) out q made t = by (is_init call) refl
    where
      by : (b : Bool) → is_init call ≡ b → WordTurns u (sends u) w s (Acts call times) out
      by true e = init_turn call times out made e
      by false e = steps_turn (Acts call times) out made refl (not_false (is_init call) e)
  sent_turns (Serves line received) out false made t = steps_turn (Serves line received) out made t (not_false (is_unit u (unit_of line)) t)
  sent_turns (Serves line received) out true made t =
      let none : run_of s (unit_of line) ≡ None = ap (λ k. run_of s k) (unit_is u (unit_of line) t) ∙ free in
      absurd (cc (sym (ap (λ b. if b then Some (served d w s (unit_of line) received (run_of s (unit_of line))) else None) (none_ready (is_off s.mode) w.now (run_of s (unit_of line)) none)) ∙ made))
  sent_turns (Starts unit made_by received) out false made t = steps_turn (Starts unit made_by received) out made t (not_false (is_unit u (number_of unit)) t)
  sent_turns (Starts unit made_by received) out true made t =
      let on : begins_on u out.begins ≡ true =
      start-either (λ (x : Outcome SpiState). begins_on u x.begins ≡ true) d w s (number_of unit) made_by received out made
      (λ n e. let plain : is_sync_unit d u ≡ false = ap (λ k. is_sync_number d k) (sym (unit_is u (number_of unit) t)) ∙ n in absurd (cc (sym plain ∙ sync)))
      (λ v q sent new. begins_there (number_of unit) v sent.number t)
      (λ v q x sent more. sent_on_there v received x (goes_on x.run) (begins_there (number_of unit) v sent.number t)) in
      inl (on, sent_begins d w s unit made_by received out u made on sync)
  sent_turns (Aborts unit) out q made t = absurd (cc made)
  sent_turns (Moves order) out q made t = steps_turn (Moves order) out made refl refl
  sent_turns (Restarts reason) out q made t = inr (inr (ap (λ (x : Outcome SpiState). run_carried (carried_at x.state u)) (sym (some_is _ out made))))

-- ---- a unit of the other kind carries out nothing

never_sent_step : (d : SpiTable) (w : World) (s : SpiState) (h : Happening Call) (u : ℕ) → is_sync_unit d u ≡ false → carried_at s u ≡ None → carried_at (state_after d w s h) u ≡ None
never_sent_step d w s (Acts call times) u plain none =
    act_so (λ t. carried_at t u ≡ None) d w s call none (by (is_init call) refl) (λ q x ends. by_end (unit_of_sequence d q) x (sent_frees d s (unit_of_sequence d q) x x.run.transfer.failed u))
  where
    by_init : (carried_at (acts_by d s call (error_by d call (is_off s.mode) (finds_held d s call))).state u ≡ carried_at s u) ⊎ (carried_at (acts_by d s call (error_by d call (is_off s.mode) (finds_held d s call))).state u ≡ None)
        → carried_at (acts_by d s call (error_by d call (is_off s.mode) (finds_held d s call))).state u ≡ None
    by_init (inl e) = e ∙ none
    by_init (inr e) = e

    by : (b : Bool) → is_init call ≡ b → carried_at (acts_by d s call (error_by d call (is_off s.mode) (finds_held d s call))).state u ≡ None
    by true e = by_init (init_carried d s u call (error_by d call (is_off s.mode) (finds_held d s call)) e)
    by false e = ap (λ xs. slice_index_or xs u None) (acts_carried d s call (error_by d call (is_off s.mode) (finds_held d s call)) (not_false (is_init call) e)) ∙ none

    by_end : (v : ℕ) (x : Carrying) → (carried_at (sent d s v x x.run.transfer.failed).state u ≡ carried_at s u) ⊎ (carried_at (sent d s v x x.run.transfer.failed).state u ≡ None) → carried_at (sent d s v x x.run.transfer.failed).state u ≡ None
    by_end v x (inl e) = e ∙ none
    by_end v x (inr e) = e
never_sent_step d w s (Serves line received) u plain none = ap (λ xs. slice_index_or xs u None) (serves_carried d w s line received (ready w s line)) ∙ none
never_sent_step d w s (Starts unit made_by received) u plain none =
    start_so (λ t. carried_at t u ≡ None) d w s (number_of unit) made_by received none (λ n. ap (λ xs. slice_index_or xs u None) (starts_carried d w s (number_of unit) received (next_at d s (number_of unit))) ∙ none)
    (λ v q on. item-other None s.carried v u _ (other v on.number on.unit) ∙ none) (λ v q x on more. sent_on_other d w s v received x (goes_on x.run) u (other v on.number on.unit) ∙ none)
  where
    other : (v : ℕ) → number_of unit ≡ Some v → is_sync_number d (number_of unit) ≡ true → u ≢ v
    other v number on at = absurd (cc (sym (ap (λ i. is_sync_unit d i) at ∙ (ap (λ k. is_sync_number d k) (sym number) ∙ on)) ∙ plain))
never_sent_step d w s (Aborts unit) u plain none = none
never_sent_step d w s (Moves order) u plain none = no_sent (carried_at (moved d w s order) u) (moved_sent d w s u order ∙ ap (λ o. After u w (word_seen (run_carried o)) (Moves order)) none)
  where
    no_sent : (o : Option Carrying) → word_seen (run_carried o) ≡ None → o ≡ None
    no_sent None e = refl
    no_sent (Some x) e = absurd (cc e)
never_sent_step d w s (Restarts reason) u plain none = refl

pub never_sends : (d : SpiTable) (u : ℕ) (past : List (Event Call)) → is_sync_unit d u ≡ false → carried_at (state_of d past) u ≡ None
never_sends d u [] plain = refl
never_sends d u (e ∷ past) plain = never_sent_step d e.world (state_of d past) e.what u plain (never_sends d u past plain)

-- ---- the word of a call

some_out : (o : Option (Outcome SpiState)) → IsSome o → (out : Outcome SpiState) × (o ≡ Some out)
some_out None e = absurd (cc e)
some_out (Some out) e = (out, refl)

sync_story : (d : SpiTable) (u : ℕ) (past : List (Event Call)) → is_sync_unit d u ≡ true → AreAllowed (spi_machine d) first_state past → Story d u (sends u) past
sync_story d u [] sync allowed r is = absurd (cc is)
sync_story d u (e ∷ past) sync allowed r is =
    let out = some_out ((spi_machine d).happens e.world (state_of d past) e.what) allowed.0 in
    story_after d u (sends u) e past out.0 r out.1 (sent_turns d e.world (state_of d past) u sync (never_runs d u past sync) e.what out.0 (touches u e.what) out.1 refl)
    (ap (λ o. run_carried (carried_at (state_by (state_of d past) o) u)) (sym out.1) ∙ is) (sync_story d u past sync allowed.1)

pub sent_story : (d : SpiTable) (u : ℕ) (past : List (Event Call)) → AreAllowed (spi_machine d) first_state past → Story d u (sends u) past
sent_story d u past allowed r is = by (is_sync_unit d u) refl
  where
    by : (b : Bool) → is_sync_unit d u ≡ b → WordOf d u past r
    by true sync = sync_story d u past sync allowed r is
    by false plain = let none : run_carried (carried_at (state_of d past) u) ≡ None = ap run_carried (never_sends d u past plain) in absurd (cc (sym none ∙ is))
