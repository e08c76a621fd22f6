-- Adc_Init: the words that it clears, and its last window.
-- Used by adc_driver: services.InitRight, adc_driver: services.InitActRight, src/service/module.rt and 11 more.
use Rattle.std.specs.Prelude.{ℕ, ◌+◌, ◌-◌, ◌*◌, ◌/◌, ◌%◌, ◌==◌, zero, suc, nat_lt, if◌then◌else◌, Some, is_some, List, [], ◌∷◌}
use Rattle.adc_groups.specs.StepTerms
use StepTerms.{Act, AdcTable, BodyTaken, EnableSet, ends, goes, group_of, InitBody, LINES, Load, Move, no_answer}
use StepTerms.{Nothing, order_of, Setup, STATE, Store, Word, word_number, Write}

-- of so many groups from this one on: how many are configured, and the one at this place among them, 16 where there is none
abbrev pub many_from : AdcTable → (many from : ℕ) → ℕ
many_from d zero g = 0
many_from d (suc n) g = if is_some (group_of d g) then 1 + many_from d n (g + 1) else many_from d n (g + 1)

abbrev pub nth_from : AdcTable → (many from place : ℕ) → ℕ
nth_from d zero g i = 16
nth_from d (suc n) g i = if is_some (group_of d g) then (if i == 0 then g else nth_from d n (g + 1) (i - 1)) else nth_from d n (g + 1) i

-- the numbers of those that are configured
abbrev pub configured_from : AdcTable → (many from : ℕ) → List ℕ
configured_from d zero g = []
configured_from d (suc n) g = if is_some (group_of d g) then g ∷ configured_from d n (g + 1) else configured_from d n (g + 1)

-- three words of each unit, and four of each configured group
abbrev pub clear_count : AdcTable → ℕ
clear_count d = 6 + 4 * many_from d 16 0

abbrev pub cleared_group : AdcTable → (place : ℕ) → ℕ
cleared_group d i = nth_from d 16 0 i

abbrev pub unit_word : AdcTable → (unit at : ℕ) → ℕ
unit_word d u i = if i == 0 then word_number d (Word.Running u) else (if i == 1 then word_number d (Word.Claim u) else (order_of u).at + 2)

abbrev pub cleared_word : (group at : ℕ) → Word
cleared_word g i = if i == 0 then Word.Phase g else (if i == 1 then Word.Chosen g else (if i == 2 then Word.Notified g else Word.Turn g))

-- past the last one nothing is cleared
abbrev pub group_clear : AdcTable → (group at : ℕ) → Move
group_clear d g i = if is_some (group_of d g) then Store (word_number d (cleared_word g i)) 0 else Load STATE

abbrev pub few : ℕ → ℕ
few i = if nat_lt i 70 then i else 70

abbrev pub clear_at : AdcTable → ℕ → Move
clear_at d i = if nat_lt i 6 then Store (unit_word d (i / 3) (i % 3)) 0 else group_clear d (cleared_group d ((i - 6) / 4)) ((i - 6) % 4)

abbrev pub setup_count : Setup → ℕ
setup_count r = clear_count r.table

abbrev pub setup_move : Setup → ℕ → Move
setup_move r i = clear_at r.table (few i)

abbrev pub setup_after : Setup → InitBody
setup_after r = InitBody.Enable

abbrev pub init_work : InitBody → Move
init_work InitBody.Enable = Write EnableSet LINES
init_work InitBody.Store = Store STATE 1

abbrev pub init_takes : InitBody → ℕ → InitBody × BodyTaken
init_takes InitBody.Enable x = (InitBody.Store, goes)
init_takes InitBody.Store x = (InitBody.Store, ends (Some Act) no_answer Nothing)
