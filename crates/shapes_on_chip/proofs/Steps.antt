-- Steps of routines over the words of a chip, for the relations of drivers.
use Rattle.std.proofs.Common.{◌≡◌, ℕ, suc, ◌<◌, ◌≢◌, Bool, true, false, Some, None, List, length, refl, sym, ◌∙◌, ap, subst, arith, ◌⊎◌, inl, inr, get_or, set, get_or-set_same, get_or-set_other}
use Rattle.std.specs.Prelude.{slice_index}
use Rattle.std.proofs.lemmas.Bool.{cases_eq, false≢true}
use Rattle.mcal_base.specs.declared.moves.Move.{Move}
use Rattle.mcal_base.specs.declared.moves.Move.TheVariants.{Read, Write, Load, Store, Mask, Unmask, Note, Report}
use Rattle.std.proofs.lemmas.Bool.Decides.{nat_tests}
use Rattle.std.proofs.lemmas.Grind.{common_steps}
use Rattle.chip_model.proofs.HistoryLaws.{word-left}
use Rattle.chip_model.specs.Chip.{Chip, word_of, value_of, chip_after}
use Rattle.chip_model.specs.Histories.{Happening, Made, chip_step}
use Rattle.word_shapes.specs.Banks.{Putting, Taking, Banks, filling}
use Rattle.word_shapes.specs.Order.{Entry}
use Rattle.word_shapes.specs.Playing.{Memory, Play, stored, given, after, NamesOwn, Either, Ends, Agree}
use Rattle.word_shapes.specs.PriorityQueue as ranked
use Rattle.word_shapes.specs.TripleBuffer.{Fits, Stands, PutStands, own_of, word_at}
use Rattle.word_shapes.specs.declared.priority_queue.PriorityQueue.{PriorityQueue}
use Rattle.word_shapes.specs.declared.triple_buffer.TripleBuffer.{TripleBuffer}
use Rattle.word_shapes.proofs.PlayingLaws.{stored-same, stored-other, either-then, ends-agree}
use Rattle.word_shapes.proofs.PriorityQueueLaws.{holds-agree}
use Rattle.word_shapes.proofs.TripleBufferLaws.{fills, newest-word, kept-word, stands-agree, own-word}
use Rattle.shapes_on_chip.specs.OnChip.{HasWords, AreThere, LooksAt, Leaves, StepsTo}

-- ---- a move of own words

pub value-same : (own : ℕ → Bool) (chip : Chip) (made : Move) → NamesOwn own made → value_of chip made ≡ given (word_of chip) made
value-same own chip (Load k) at = refl
value-same own chip (Store k v) at = refl
value-same own chip (Read r) at = absurd at
value-same own chip (Write r v) at = absurd at
value-same own chip Mask at = absurd at
value-same own chip Unmask at = absurd at
value-same own chip (Note x) at = absurd at
value-same own chip (Report x) at = absurd at

pub store_word : (chip : Chip) (k v received j : ℕ) → k < length chip.words → (j ≡ k) ⊎ (j ≢ k) → after (word_of chip) (Store k v) j ≡ word_of (chip_after chip (Store k v) received) j
store_word chip k v received j lt (inl at) = stored-same (word_of chip) j k v at ∙ sym (ap (λ i. get_or (set chip.words k v) i 0) at ∙ get_or-set_same chip.words k v 0 lt)
store_word chip k v received j lt (inr ne) = stored-other (word_of chip) j k v ne ∙ sym (get_or-set_other chip.words k j v 0 ne)

pub words-same : (own : ℕ → Bool) (chip : Chip) (made : Move) (received : ℕ) → HasWords chip → AreThere own → NamesOwn own made → Agree own (after (word_of chip) made) (word_of (chip_after chip made received))
words-same own chip (Load k) received whole there at j here = refl
words-same own chip (Store k v) received whole there at j here = store_word chip k v received j (let lt = there k at in omega arith) (cases_eq j k)
words-same own chip (Read r) received whole there at j here = absurd at
words-same own chip (Write r v) received whole there at j here = absurd at
words-same own chip Mask received whole there at j here = absurd at
words-same own chip Unmask received whole there at j here = absurd at
words-same own chip (Note x) received whole there at j here = absurd at
words-same own chip (Report x) received whole there at j here = absurd at

-- one step of a routine in a window, whatever it is to leave
pub routine_step : {R : Type 0} (p : Play R) (own : ℕ → Bool) (n : ℕ) (r : R) (chip : Chip) (received : ℕ) (Done : Memory → List ℕ → Type 0) → HasWords chip → AreThere own
    → ((m k : Memory) (xs : List ℕ) → Agree own m k → Done m xs → Done k xs) → Ends p own (suc n) r (word_of chip) Done → StepsTo p own n r chip received Done
routine_step p own n r chip received Done whole there keeps h =
    let made = p.move_of r in
    let later = word_of (chip_after chip made received) in
    let same = words-same own chip made received whole there h.0 in
    let Rest = λ (v : ℕ). ((p.gave r v).event ≡ None) × Either (p.gave r v).ended (Ends p own n (p.left r v) later Done) (Done later) in
    let v = given (word_of chip) made in
    subst Rest (sym (value-same own chip made h.0)) (
      h.1,
      either-then (p.gave r v).ended (Ends p own n (p.left r v) (after (word_of chip) made) Done) (Ends p own n (p.left r v) later Done) (Done (after (word_of chip) made)) (Done later)
          (ends-agree p own n (p.left r v) (after (word_of chip) made) later Done keeps same) (λ xs. keeps (after (word_of chip) made) later xs same) h.2,
    )

pub routine_step-test : {R : Type 0} (p : Play R) (own : ℕ → Bool) (n : ℕ) (r : R) (chip : Chip) (received : ℕ) (done : Memory → List ℕ → Bool) → HasWords chip → AreThere own → LooksAt own done
    → Ends p own (suc n) r (word_of chip) (λ m xs. done m xs ≡ true) → StepsTo p own n r chip received (λ m xs. done m xs ≡ true)
routine_step-test p own n r chip received done whole there looks h =
    routine_step p own n r chip received (λ m xs. done m xs ≡ true) whole there (λ m k xs same d. sym (looks m k xs same) ∙ d) h

-- a routine of an order, and one of banks
pub order_step : {R : Type 0} (p : Play R) (at : PriorityQueue) (n : ℕ) (r : R) (chip : Chip) (received : ℕ) (xs : List Entry) (gives : List ℕ) → HasWords chip → AreThere (ranked.own_of at)
    → Ends p (ranked.own_of at) (suc n) r (word_of chip) (λ m words. ranked.Holds at m xs × (words ≡ gives))
    → StepsTo p (ranked.own_of at) n r chip received (λ m words. ranked.Holds at m xs × (words ≡ gives))
order_step p at n r chip received xs gives whole there h =
    routine_step p (ranked.own_of at) n r chip received (λ m words. ranked.Holds at m xs × (words ≡ gives)) whole there (λ m k words same d. (holds-agree at m k xs same d.0, d.1)) h

pub banks_step : {R : Type 0} (p : Play R) (t : TripleBuffer) (n : ℕ) (r : R) (chip : Chip) (received : ℕ) (s : Banks) (gives : List ℕ) → HasWords chip → AreThere (own_of t)
    → Ends p (own_of t) (suc n) r (word_of chip) (λ m words. (words ≡ gives) × Stands t m s)
    → StepsTo p (own_of t) n r chip received (λ m words. (words ≡ gives) × Stands t m s)
banks_step p t n r chip received s gives whole there h =
    routine_step p (own_of t) n r chip received (λ m words. (words ≡ gives) × Stands t m s) whole there (λ m k words same d. (d.0, stands-agree t m k s same d.1)) h

-- ---- a move elsewhere

-- a store to another word is such a one
pub store-leaves : (own : ℕ → Bool) (k v received : ℕ) → own k ≡ false → Leaves own (Made (Store k v) received)
store-leaves own k v received elsewhere j here = λ e. false≢true (sym elsewhere ∙ ap own e ∙ here)

pub words-left : (own : ℕ → Bool) (chip : Chip) (x : Happening) → Leaves own x → Agree own (word_of chip) (word_of (chip_step chip x))
words-left own chip x leaves j here = sym (word-left j chip x (leaves j here))

pub order_left : (at : PriorityQueue) (chip : Chip) (x : Happening) (xs : List Entry) → Leaves (ranked.own_of at) x → ranked.Holds at (word_of chip) xs → ranked.Holds at (word_of (chip_step chip x)) xs
order_left at chip x xs leaves h = holds-agree at (word_of chip) (word_of (chip_step chip x)) xs (words-left (ranked.own_of at) chip x leaves) h

pub banks_left : (t : TripleBuffer) (chip : Chip) (x : Happening) (s : Banks) → Leaves (own_of t) x → Stands t (word_of chip) s → Stands t (word_of (chip_step chip x)) s
banks_left t chip x s leaves h = stands-agree t (word_of chip) (word_of (chip_step chip x)) s (words-left (own_of t) chip x leaves) h

-- ---- banks that are filled and read with the mask open

own_there : (t : TripleBuffer) → Fits t → AreThere (own_of t)
own_there t fits k here = grind (arith, nat_tests, common_steps, fits.banks, fits.control)

put_below : (t : TripleBuffer) (m : Memory) (s : Banks) (p : Putting) → s.put ≡ Some p → Stands t m s → p.bank < 3
put_below t m s p is h = let put : PutStands t m s.bank s.take p = rw is at h.put in put.below

pub fill_step : (t : TripleBuffer) (chip : Chip) (s : Banks) (p : Putting) (v received : ℕ) → Fits t → HasWords chip → s.put ≡ Some p → length p.filled < t.len → Stands t (word_of chip) s
    → Stands t (word_of (chip_after chip (Store (word_at t p.bank (length p.filled)) v) received)) (filling v p s)
fill_step t chip s p v received fits whole is lt h =
    let made = Store (word_at t p.bank (length p.filled)) v in
    let next = fills t (word_of chip) s p v fits lt is h in
    stands-agree t (stored (word_of chip) (word_at t p.bank (length p.filled)) v) (word_of (chip_after chip made received)) (filling v p s)
    (words-same (own_of t) chip made received whole (own_there t fits) (own-word t p.bank (length p.filled) (put_below t (word_of chip) s p is h) lt)) next

pub newest_step : (t : TripleBuffer) (chip : Chip) (s : Banks) (i : ℕ) → i < t.len → Stands t (word_of chip) s → value_of chip (Load (word_at t s.bank i)) ≡ slice_index s.newest i
newest_step t chip s i lt h = newest-word t (word_of chip) s i h lt

pub kept_step : (t : TripleBuffer) (chip : Chip) (s : Banks) (x : Taking) (i : ℕ) → i < t.len → s.take ≡ Some x → Stands t (word_of chip) s → value_of chip (Load (word_at t x.bank i)) ≡ slice_index x.kept i
kept_step t chip s x i lt is h = kept-word t (word_of chip) s x i h is lt
