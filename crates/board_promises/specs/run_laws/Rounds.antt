-- Rounds that are served, by the events of a run. Every list of events has the newest first.
use Rattle.std.specs.Prelude.{◌≡◌, ℕ, ◌+◌, ◌*◌, ◌<◌, ◌≤◌, true, false, List, [], ◌∷◌, ◌++◌, length}
use Rattle.adc_machine.specs.Groups.{is_continuous}
use Rattle.adc_machine.specs.Machine.{adc_machine}
use Rattle.adc_machine.specs.Table.{group_of}
use Rattle.adc_machine.specs.Turns.{AdcState, first_state}
use Rattle.adc_machine.specs.declared.call.Call.{Call}
use Rattle.adc_machine.specs.declared.table.AdcTable.{AdcTable}
use Rattle.board_promises.specs.whole_runs.GroupRuns.{GroupEvent, seen_between, seen_of, stops, requests, serves, serves_on}
use Rattle.board_promises.specs.whole_runs.Rounds.{Stretch, Keeps, inputs_after}
use Rattle.board_promises.specs.whole_runs.Runs.{Event, state_after, told_or_nothing, NoneOf}

-- the state after these events, and what the next one is seen to be there
abbrev pub state_of : AdcTable → List (Event Call) → AdcState
state_of d past = state_after (adc_machine d) first_state past

abbrev pub seen_at : AdcTable → Event Call → List (Event Call) → GroupEvent
seen_at d e past = seen_between d (state_of d past) (state_of d (e ∷ past)) e (told_or_nothing ((adc_machine d).happens e.world (state_of d past) e.what))

-- A request of the group was made, and since then the group was neither stopped, nor its trigger disabled, nor a round of it served.
pub record HasNewRequest (g : ℕ) (past : List GroupEvent) : Type 0 where
  pub since : List GroupEvent
  pub request : GroupEvent
  pub before : List GroupEvent
  pub is : past ≡ since ++ request ∷ before
  pub requested : requests g request ≡ true
  pub unstopped : NoneOf (stops g) since
  pub unserved : NoneOf (serves g) since

-- The round that a serving serves was finished: since its unit started it, 4 ticks have passed for each input after those whose values were kept for it.
pub record WasFinished (d : AdcTable) (g : ℕ) (serving : GroupEvent) (past : List GroupEvent) : Type 0 where
  pub unit : ℕ
  pub earlier : List GroupEvent
  pub start : GroupEvent
  pub kept : List ℕ
  pub served : serves_on unit g serving ≡ true
  pub stretch : Stretch unit g past earlier start
  pub keeps : Keeps d g earlier kept
  pub finished : start.world.now + 4 * length (inputs_after d g (length kept)) ≤ serving.world.now

-- What an event serves: of a group that isn't continuous one round for its request, and of each group a round that was finished.
pub record ServesRight (d : AdcTable) (e : Event Call) (past : List (Event Call)) : Type 0 where
  pub one : (u g : ℕ) → g < 16 → is_continuous (group_of d g) ≡ false → serves_on u g (seen_at d e past) ≡ true → HasNewRequest g (seen_of d past)
  pub finished : (u g : ℕ) → serves_on u g (seen_at d e past) ≡ true → WasFinished d g (seen_at d e past) (seen_of d past)

abbrev pub AreServedRight : AdcTable → List (Event Call) → Type 0
AreServedRight d [] = Unit {0}
AreServedRight d (e ∷ past) = ServesRight d e past × AreServedRight d past
