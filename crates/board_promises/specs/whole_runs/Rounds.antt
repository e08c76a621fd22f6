-- Whole rounds: what a read hands out, and what changes the places of buffers and the newest round of a group.
use Rattle.std.specs.Prelude.{◌≡◌, ℕ, ◌-◌, ◌/◌, ◌<◌, true, false, ◌||◌, cond, List, [], ◌∷◌, ◌++◌, Contains, length, take, drop, Option, Some, None}
use Rattle.mcal_base.specs.declared.answer_name.AnswerName.TheVariants.{EOk}
use Rattle.run_model.specs.Machine.{Happening, Acts, named_with}
use Rattle.adc_machine.specs.Groups.{inputs_of, suspends, levels_from, held_in}
use Rattle.adc_machine.specs.Table.{group_of}
use Rattle.adc_machine.specs.declared.call.Call.{Call}
use Rattle.adc_machine.specs.declared.call.Call.TheVariants.{Group}
use Rattle.adc_machine.specs.declared.call.GroupCall.TheVariants.{ReadGroup}
use Rattle.adc_machine.specs.declared.call.ResultBuffer.{ResultBuffer}
use Rattle.adc_machine.specs.declared.table.AdcTable.{AdcTable}
use Rattle.board_promises.specs.whole_runs.Runs.{NoneOf}
use Rattle.board_promises.specs.whole_runs.GroupRuns.{GroupEvent, is_reset, stops, begins, requests, starts_on, aborts_on, serves_on, serves, is_on, touches}

-- ---- one round

-- the inputs of a group that come after so many
abbrev pub inputs_after : AdcTable → (group count : ℕ) → List ℕ
inputs_after d g n = drop n (inputs_of (group_of d g))

-- A stretch of a round: a unit starts the group, and then nothing happens on that unit and the group isn't stopped. What was there before the start stands behind it.
pub record Stretch (u g : ℕ) (past earlier : List GroupEvent) (start : GroupEvent) : Type 0 where
  pub running : List GroupEvent
  pub is : past ≡ running ++ start ∷ earlier
  pub starts : starts_on u g start ≡ true
  pub alone : NoneOf (is_on u) running
  pub unstopped : NoneOf (stops g) running

-- the values that a stretch adds up to a time: the levels of the group's inputs after those that are kept, each 4 ticks after the one before, the first one 4 ticks after the start
abbrev pub values_since : AdcTable → (group : ℕ) → (start now : GroupEvent) → (kept : List ℕ) → List ℕ
values_since d g start now kept = levels_from now.world.samples start.world.now (take ((now.world.now - start.world.now) / 4) (inputs_after d g (length kept)))

-- A request of a group stands, and these values of its round are kept for it.
pub data Keeps (d : AdcTable) (g : ℕ) : (past : List GroupEvent) → (kept : List ℕ) → Type 0 where
  -- none at the request
  Requested : (e : GroupEvent) (past : List GroupEvent) → requests g e ≡ true → Keeps d g (e ∷ past) []
  -- and none after a serving of a round, where its request stands on
  Served : (e : GroupEvent) (past earlier : List GroupEvent) (start : GroupEvent) (kept : List ℕ) (u : ℕ) → serves_on u g e ≡ true → Stretch u g past earlier start → Keeps d g earlier kept → Keeps d g (e ∷ past) []
  -- an abort keeps those of the inputs that have ended, under suspend and resume, and otherwise none
  Aborted : (e : GroupEvent) (past earlier : List GroupEvent) (start : GroupEvent) (kept : List ℕ) (u : ℕ) → aborts_on u g e ≡ true → Stretch u g past earlier start → Keeps d g earlier kept
      → Keeps d g (e ∷ past) (cond (suspends (group_of d g)) (kept ++ values_since d g start e kept) [])
  -- what is none of the group's own leaves them, while it isn't stopped
  Stands : (e : GroupEvent) (past : List GroupEvent) (kept : List ℕ) → stops g e ≡ false → touches g e ≡ false → Keeps d g past kept → Keeps d g (e ∷ past) kept

-- A request of the group was made, and since then the group was neither stopped nor its trigger disabled, and no Adc_Init, Adc_DeInit or reset came.
pub record HasRequest (g : ℕ) (past : List GroupEvent) : Type 0 where
  pub since : List GroupEvent
  pub request : GroupEvent
  pub before : List GroupEvent
  pub is : past ≡ since ++ request ∷ before
  pub requested : requests g request ≡ true
  pub unstopped : NoneOf (stops g) since

-- A serving serves a round of the group with these values: a unit started it for a request of the group, which had not been stopped or disabled since, and wasn't since the start either; and the values are those that were kept for the request and then the levels of all further inputs.
pub record IsRound (d : AdcTable) (g : ℕ) (serving : GroupEvent) (past : List GroupEvent) (values : List ℕ) : Type 0 where
  pub unit : ℕ
  pub start : GroupEvent
  pub earlier : List GroupEvent
  pub kept : List ℕ
  pub served : serves_on unit g serving ≡ true
  pub stretch : Stretch unit g past earlier start
  pub requested : HasRequest g earlier
  pub keeps : Keeps d g earlier kept
  pub whole : values ≡ kept ++ levels_from serving.world.samples start.world.now (inputs_after d g (length kept))

-- ---- what a read hands out

-- A read hands out the newest served round: the values are those of one round, which was served, and since then no other round of the group was, and the group was neither started nor its trigger enabled, and no Adc_Init, Adc_DeInit or reset came.
pub record HandsOut (d : AdcTable) (g : ℕ) (past : List GroupEvent) (values : List ℕ) : Type 0 where
  pub since : List GroupEvent
  pub serving : GroupEvent
  pub before : List GroupEvent
  pub is : past ≡ since ++ serving ∷ before
  pub round : IsRound d g serving before values
  pub newest : NoneOf (λ e. serves g e || begins g e) since

-- the event is a read of the group
abbrev pub Reads : ℕ → Happening Call → Type 0
Reads g (Acts (Group h ReadGroup) times) = h ≡ g
Reads g _ = ⊥

-- an `E_OK` of Adc_ReadGroup hands out the newest served round of the group
abbrev pub ReadsNewest : AdcTable → GroupEvent → List GroupEvent → Type 0
ReadsNewest d e past = (g : ℕ) (values : List ℕ) → Reads g e.what → e.told.answer ≡ named_with EOk values → HandsOut d g past values

-- ---- what changes places and newest rounds

-- What an event does to a place of a buffer of a group.
pub data PlaceGoes (d : AdcTable) (g : ℕ) (e : GroupEvent) (past : List GroupEvent) (before after : ℕ) : Type 0 where
  Left : after ≡ before → PlaceGoes d g e past before after
  -- it takes a value of a round, which is served
  Taken : (values : List ℕ) → IsRound d g e past values → Contains values after → PlaceGoes d g e past before after
  -- a reset sets it to 0
  Reset : is_reset e ≡ true → after ≡ 0 → PlaceGoes d g e past before after

-- What an event does to the newest round of a group.
pub data NewestGoes (d : AdcTable) (g : ℕ) (e : GroupEvent) (past : List GroupEvent) (before after : Option (List ℕ)) : Type 0 where
  Stays : after ≡ before → NewestGoes d g e past before after
  -- it is a round that is served
  Becomes : (values : List ℕ) → IsRound d g e past values → after ≡ Some values → NewestGoes d g e past before after
  -- a start, the enabling of the trigger, Adc_Init, Adc_DeInit or a reset leaves the group without one
  Lost : begins g e ≡ true → after ≡ None → NewestGoes d g e past before after

-- a place takes a value, and a group, of the numbers 0 to 15, gets a newest round, only by the serving of a round that was started for a request of that group
abbrev pub PlacesGo : AdcTable → GroupEvent → List GroupEvent → Type 0
PlacesGo d e past = (g : ℕ) (b : ResultBuffer) (place : ℕ) → PlaceGoes d g e past (held_in e.held g b place) (held_in e.holds g b place)

abbrev pub NewestGo : AdcTable → GroupEvent → List GroupEvent → Type 0
NewestGo d e past = (g : ℕ) → g < 16 → NewestGoes d g e past (e.had_newest g) (e.has_newest g)

-- ---- a whole run

-- Each event of a run, with what came before it.
pub record IsWhole (d : AdcTable) (e : GroupEvent) (past : List GroupEvent) : Type 0 where
  pub reads : ReadsNewest d e past
  pub places : PlacesGo d e past
  pub newest : NewestGo d e past

abbrev pub AreWhole : AdcTable → List GroupEvent → Type 0
AreWhole d [] = Unit {0}
AreWhole d (e ∷ past) = IsWhole d e past × AreWhole d past
