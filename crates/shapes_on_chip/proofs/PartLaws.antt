-- Where a routine ends over the words of a chip, what is owed goes on over the chip that it left.
use Rattle.std.proofs.Common.{◌≡◌, ℕ, zero, suc, Bool, true, Option, Some, None, List, [], ◌∷◌, refl, sym, ◌∙◌, ap, subst, arith, length-set, get_or-set_other}
use Rattle.std.proofs.lemmas.Bool.{cases_eq, false≢true}
use Rattle.chip_model.specs.Chip.{Chip, word_of, value_of, chip_after}
use Rattle.mcal_base.specs.declared.answer.Answer.{Answer}
use Rattle.mcal_base.specs.declared.moves.Move.{Move}
use Rattle.mcal_base.specs.declared.moves.Move.TheVariants.{Read, Write, Load, Store, Mask, Unmask, Note, Report}
use Rattle.service_outline.specs.DeferredWrites.{DeferredWrites, Either, CommitsTo}
use Rattle.word_shapes.specs.Playing.{Memory, Play, given, after, NamesOwn, Ends}
use Rattle.word_shapes.specs.Playing as playing
use Rattle.shapes_on_chip.specs.OnChip.{HasWords, AreThere}
use Rattle.shapes_on_chip.specs.Parts.{PartTo, IsPart, DiffersIn, CommitsAfter, Begins, AreListed, after_list, MayBegin, AllMay}
use Rattle.shapes_on_chip.proofs.Steps.{value-same, store_word}

-- two memories with the same in each word are the same
pub memories : (m k : Memory) → ((j : ℕ) → m j ≡ k j) → m ≡ k
memories m k h = λ i j. h j i

-- the words after a move of own words, on the chip
pub words-after : (own : ℕ → Bool) (chip : Chip) (made : Move) → HasWords chip → AreThere own → NamesOwn own made → (j : ℕ) → after (word_of chip) made j ≡ word_of (chip_after chip made 0) j
words-after own chip (Load k) whole there at j = refl
words-after own chip (Store k v) whole there at j = store_word chip k v 0 j (let lt = there k at in omega arith) (cases_eq j k)
words-after own chip (Read r) whole there at j = absurd at
words-after own chip (Write r v) whole there at j = absurd at
words-after own chip Mask whole there at j = absurd at
words-after own chip Unmask whole there at j = absurd at
words-after own chip (Note x) whole there at j = absurd at
words-after own chip (Report x) whole there at j = absurd at

-- the chip after it
pub differs-after : (own : ℕ → Bool) (chip : Chip) (made : Move) → HasWords chip → NamesOwn own made → DiffersIn own chip (chip_after chip made 0)
differs-after own chip (Load k) whole at = record { rest = refl; whole = whole; others = λ j e. refl }
differs-after own chip (Store k v) whole at = record {
  rest = refl;
  whole = length-set chip.words k v ∙ whole;
  others = λ j e. get_or-set_other chip.words k j v 0 (λ i. false≢true (sym e ∙ (ap own i ∙ at)));
}
differs-after own chip (Read r) whole at = absurd at
differs-after own chip (Write r v) whole at = absurd at
differs-after own chip Mask whole at = absurd at
differs-after own chip Unmask whole at = absurd at
differs-after own chip (Note x) whole at = absurd at
differs-after own chip (Report x) whole at = absurd at

pub differs-on : (own : ℕ → Bool) (a b c : Chip) → DiffersIn own a b → DiffersIn own b c → DiffersIn own a c
differs-on own a b c h k = record { rest = k.rest ∙ ap (λ (x : Chip). record x { words = c.words }) h.rest; whole = k.whole; others = λ j e. k.others j e ∙ h.others j e }

-- one move, by what it leaves
pub one_owed : {Owed : Type 0} (p : DeferredWrites Owed) (Done : Chip → Type 0) (x : Owed) (chip : Chip) (left : Option Owed) → p.own (p.move x) ≡ true → p.fits x chip → p.left x (value_of chip (p.move x)) ≡ left → CommitsAfter p left (chip_after chip (p.move x) 0) Done → (n : ℕ) × CommitsTo p n x chip Done
one_owed p Done x chip None named fits e h = (1, (named, fits, subst (λ a. Either a (λ y. CommitsTo p 0 y (chip_after chip (p.move x) 0) Done) (Done (chip_after chip (p.move x) 0))) (sym e) h))
one_owed p Done x chip (Some y) named fits e h = (suc h.0, (named, fits, subst (λ a. Either a (λ y. CommitsTo p h.0 y (chip_after chip (p.move x) 0) Done) (Done (chip_after chip (p.move x) 0))) (sym e) h.1))

module _ {R Owed : Type 0} (q : Play R) (own : ℕ → Bool) (p : DeferredWrites Owed) (into : R → Owed) (next : List ℕ → Option Owed) (part : IsPart q own p into next) (there : AreThere own)
    (D : Memory → List ℕ → Type 0) (Done : Chip → Type 0) where
  -- what is owed at a place of the routine
  abbrev Settling : R → Chip → Type 0
  Settling r chip = (n : ℕ) × CommitsTo p n (into r) chip Done

  abbrev Onward : Chip → Type 0
  Onward chip = (c : Chip) (xs : List ℕ) → DiffersIn own chip c → D (word_of c) xs → CommitsAfter p (next xs) c Done

  -- a step of the routine, once its move is known
  step : (r : R) (chip : Chip) (made : Move) → p.move (into r) ≡ made → NamesOwn own made → (left : Option Owed) → p.left (into r) (value_of chip made) ≡ left → CommitsAfter p left (chip_after chip made 0) Done → Settling r chip
  step r chip made is at left e h =
      one_owed p Done (into r) chip left (subst (λ m. p.own m ≡ true) (sym is) (part.named made at)) (part.fits r chip) (ap (λ m. p.left (into r) (value_of chip m)) is ∙ e) (subst (λ m. CommitsAfter p left (chip_after chip m 0) Done) (sym is) h)

  pub settles_part : (n : ℕ) (r : R) (chip : Chip) → HasWords chip → Ends q own n r (word_of chip) D → Onward chip → Settling r chip
  settles_part zero r chip whole h onward = absurd h
  settles_part (suc n) r chip whole h onward = by (settles_part n) (q.gave r v).ended (part.steps r v) h.2
    where
      made : Move
      made = q.move_of r

      v : ℕ
      v = given (word_of chip) made

      later : Chip
      later = chip_after chip made 0

      differs : DiffersIn own chip later
      differs = differs-after own chip made whole h.0

      same : after (word_of chip) made ≡ word_of later
      same = memories (after (word_of chip) made) (word_of later) (words-after own chip made whole there h.0)

      left_is : (left : Option Owed) → p.left (into r) v ≡ left → p.left (into r) (value_of chip made) ≡ left
      left_is left e = ap (p.left (into r)) (value-same own chip made h.0) ∙ e

      by : ((s : R) (c : Chip) → HasWords c → Ends q own n s (word_of c) D → Onward c → Settling s c) → (a : Option Answer) → PartTo q p into next r v a → playing.Either a (Ends q own n (q.left r v) (after (word_of chip) made) D) (D (after (word_of chip) made)) → Settling r chip
      by more None e d = step r chip made (part.moves r) h.0 (Some (into (q.left r v))) (left_is (Some (into (q.left r v))) e) (more (q.left r v) later differs.whole (subst (λ m. Ends q own n (q.left r v) m D) same d) (λ c xs i j. onward c xs (differs-on own chip later c differs i) j))
      by more (Some a) e d = step r chip made (part.moves r) h.0 (next a.words) (left_is (next a.words) e) (onward later a.words differs (subst (λ m. D m a.words) same d.1))

-- moves in their order are made
module _ {A Owed : Type 0} (p : DeferredWrites Owed) (made : A → Move) (owed : List A → Option Owed) (listed : AreListed p made owed) (Done : Chip → Type 0) where
  first_owed : (q later : Option Owed) (m : Move) (chip : Chip) → Begins p q m later → MayBegin p q chip → CommitsAfter p later (chip_after chip m 0) Done → CommitsAfter p q chip Done
  first_owed None later m chip b may h = absurd b
  first_owed (Some x) later m chip b may h = one_owed p Done x chip later may.0 may.1 (b.1 (value_of chip (p.move x))) (subst (λ k. CommitsAfter p later (chip_after chip k 0) Done) (sym b.0) h)

  pub settles_list : (rest : List A) (chip : Chip) → AllMay p made owed chip rest → Done (after_list made chip rest) → CommitsAfter p (owed rest) chip Done
  settles_list [] chip may done = subst (λ q. CommitsAfter p q chip Done) (sym listed.none) done
  settles_list (a ∷ rest) chip may done = first_owed (owed (a ∷ rest)) (owed rest) (made a) chip (listed.next a rest) may.0 (settles_list rest (chip_after chip (made a) 0) may.1 done)
