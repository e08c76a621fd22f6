-- Which buffer of a group was set up last, as the words have it, is the machine's.
-- From adc_groups: words.WordsOfModule, adc_groups: words.Cases.
-- Used by proofs/driver/AdcDriver/chosen/Answers, src/told.rt.
use Rattle.std.proofs.Common.{◌≡◌, ◌<◌, ◌&&◌, ◌==◌, [], ◌∙◌, if◌then◌else◌}
use Rattle.adc_driver.specs.Terms
use Terms.{AdcRepresents, AdcState, AdcTable, ap, arith, Bool, Chip, chosen_of, false, FitsAdc, Group, group_at}
use Terms.{group_of, is_some, low_words, Memory, nat_lt, nat_tests, None, One, Option, refl, ResultBuffer}
use Terms.{slice_index_or, Some, SOURCES, sym, true, whether, Word, word_number, word_of, WORDS, words_below, World}
use Terms.{ℕ}
use Rattle.adc_machine.specs.declared.call.ResultBuffer.TheVariants.{Zero}

-- ---- what is told

abbrev pub word_or : Memory → ℕ → ℕ
word_or m k = if nat_lt k WORDS then m k else 0

-- the buffer that a word names
abbrev pub buffer_in : ℕ → Option ResultBuffer
buffer_in v = if v == 1 then Some Zero else if v == 2 then Some One else None

-- that of a configured group
abbrev pub chosen_told : AdcTable → Memory → (group : ℕ) → Option ResultBuffer
chosen_told d m g = if nat_lt g 16 && is_some (group_of d g) then buffer_in (word_or m (word_number d (Word.Chosen g))) else None

-- ---- it is the machine's

named_by : (o : Option ResultBuffer) → buffer_in (chosen_of o) ≡ o
named_by (Some Zero) = refl
named_by _ = refl

module _ (d : AdcTable) (fits : FitsAdc d) (chip : Chip) (w : World) (s : AdcState) (h : AdcRepresents d [] None chip w s) (g : ℕ) where
  -- a group that isn't configured has none
  none_there : is_some (group_of d g) ≡ false → None ≡ (group_at s g).chosen
  none_there e = by (group_of d g) refl e
    where
      by : (k : Option Group) → group_of d g ≡ k → is_some k ≡ false → None ≡ (group_at s g).chosen
      by None f e = ap (λ x. x.chosen) (sym ((h.sound.groups g).configured f))
      by (Some k) f e = absurd (cc)

  word_is : is_some (group_of d g) ≡ true → word_of chip (word_number d (Word.Chosen g)) ≡ chosen_of (group_at s g).chosen
  word_is there = whether s.initialised (λ on. ((h.settled on).groups g there).chosen) (λ off. h.left off refl g there)

  word_there : is_some (group_of d g) ≡ true → nat_lt (word_number d (Word.Chosen g)) WORDS ≡ true
  word_there there = below (word_number d (Word.Chosen g)) (words_below d fits (word_number d (Word.Chosen g)) (low_words d fits g 1 there (omega arith)))
    where
      below : (k : ℕ) → k < SOURCES → nat_lt k WORDS ≡ true
      below k lt = grind (arith, nat_tests)

  pub told_chosen : chosen_told d (word_of chip) g ≡ (group_at s g).chosen
  told_chosen = by (nat_lt g 16) refl (is_some (group_of d g)) refl
    where
      by : (q : Bool) → nat_lt g 16 ≡ q → (there : Bool) → is_some (group_of d g) ≡ there → (if q && there then buffer_in (word_or (word_of chip) (word_number d (Word.Chosen g))) else None) ≡ (group_at s g).chosen
      by true e true f = ap (λ q. buffer_in (if q then word_of chip (word_number d (Word.Chosen g)) else 0)) (word_there f) ∙ ap buffer_in (word_is f) ∙ named_by (group_at s g).chosen
      by true e false f = none_there f
      by false e there f = none_there (ap (λ q. is_some (if q then slice_index_or d.groups g None else None)) e)
