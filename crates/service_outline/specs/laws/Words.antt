-- What a move and a hardware event leave of the driver words.
-- Used by driver_examples: held.ToyLaws, wdg_driver: Ground, wdg_driver: Body and 13 more.
use Rattle.std.proofs.Common.{◌≡◌, ℕ, ◌+◌, ◌<◌, ◌≢◌, Bool, true, false, List, ◌++◌, length, take, drop, refl, sym, ◌∙◌, ap, subst, arith, length-set, get_or-set_same, get_or-set_other}
use Rattle.std.specs.Prelude.{slice_index}
use Rattle.std.proofs.lemmas.List.{length-append, length-take, get_or_append_left, get_or-take}
use Rattle.chip_model.specs.Chip.{Chip, chip_after, happened, overwritten, source_length, word_of}
use Rattle.chip_model.specs.Histories.{Made, Hardware, LeavesWord, FillsThere}
use Rattle.chip_model.proofs.HistoryLaws.{words-read, words-write, word-left}
use Rattle.mcal_base.specs.Layout.{place_of}
use Rattle.mcal_base.specs.declared.TheConstants.{WORDS}
use Rattle.mcal_base.specs.declared.directive.Order.{Order}
use Rattle.mcal_base.specs.declared.directive.Order.TheVariants.{Fill}
use Rattle.mcal_base.specs.declared.layout.Array.TheVariants.{Source}
use Rattle.mcal_base.specs.declared.layout.TheConstants.{SOURCES}
use Rattle.mcal_base.specs.declared.moves.Move.{Move}
use Rattle.mcal_base.specs.declared.moves.Move.TheVariants.{Read, Write, Load, Store, Mask, Unmask, Note, Report}
use Rattle.run_model.specs.World.{World}
use Rattle.run_model.specs.Frame.{Origin}
use Rattle.run_model.specs.Moment.{Setting}
use Rattle.step_runner.specs.Driver.{IsFree}

-- there are as many as before
pub length_after : (chip : Chip) (made : Move) (received : ℕ) → length (chip_after chip made received).words ≡ length chip.words
length_after chip (Read r) received = ap length (words-read chip r)
length_after chip (Write r v) received = ap length (words-write chip r v received)
length_after chip (Load k) received = refl
length_after chip (Store k v) received = length-set chip.words k v
length_after chip Mask received = refl
length_after chip Unmask received = refl
length_after chip (Note n) received = refl
length_after chip (Report x) received = refl

-- the word that is stored, and another one
pub stored_same : (chip : Chip) (j v received : ℕ) → j < WORDS → length chip.words ≡ WORDS → word_of (chip_after chip (Store j v) received) j ≡ v
stored_same chip j v received lt e = get_or-set_same chip.words j v 0 (subst (λ n. j < n) (sym e) lt)

pub stored_other : (chip : Chip) (j v received k : ℕ) → k ≢ j → word_of (chip_after chip (Store j v) received) k ≡ word_of chip k
stored_other chip j v received k ne = get_or-set_other chip.words j k v 0 ne

-- the move stores a word of these
abbrev pub stores_in : (ℕ → Bool) → Move → Bool
stores_in own (Store k v) = own k
stores_in own _ = false

not_it : (own : ℕ → Bool) (j k : ℕ) → own j ≡ false → own k ≡ true → j ≢ k
not_it own j k e f = λ g. let i : own k ≡ false = subst (λ x. own x ≡ false) g e in absurd (cc)

leaves : (own : ℕ → Bool) (made : Move) (received k : ℕ) → stores_in own made ≡ false → own k ≡ true → LeavesWord k (Made made received)
leaves own (Store j v) received k e f = not_it own j k e f
leaves own _ received k e f = tt

-- where the move stores none of these, each of these is as it was
pub word_apart : (own : ℕ → Bool) (chip : Chip) (made : Move) (received k : ℕ) → stores_in own made ≡ false → own k ≡ true → word_of (chip_after chip made received) k ≡ word_of chip k
word_apart own chip made received k e f = word-left k chip (Made made received) (leaves own made received k e f)

-- ---- a hardware event

-- where words become others from a place on, the ones before it stay
overwritten_before : (words xs : List ℕ) (at k : ℕ) → k < at → k < length words → slice_index (overwritten words at xs) k ≡ slice_index words k
overwritten_before words xs at k lt within =
    let front : k < length (take at words) = omega (arith, length-take at words, lt, within) in
    get_or_append_left (take at words ++ xs) (drop (at + length xs) words) 0 k (omega (arith, length-append (take at words) xs, front))
    ∙ (get_or_append_left (take at words) xs 0 k front ∙ get_or-take at words k 0 lt)

-- the words before the source arrays are as they were
pub word_later : (chip : Chip) (order : Order) (k : ℕ) → length chip.words ≡ WORDS → k < SOURCES → word_of (happened chip order) k ≡ word_of chip k
word_later chip (Fill channel ws) k size lt = overwritten_before chip.words (take (source_length chip channel) ws) (place_of (Source channel) 0) k (omega (arith, lt)) (omega (arith, size, lt))
word_later chip order k size lt = word-left k chip (Hardware order) tt

-- a fill that may come fills an array that there is
pub fills_there : {State Call : Type 0} (g : Setting State Call) (masked : Bool) (w : World) (s : State) (origins : List (Origin Call)) (order : Order) → IsFree g masked w s origins order → FillsThere (Hardware order)
fills_there g masked w s origins (Fill channel ws) free = free.1
fills_there g masked w s origins order free = tt
