-- What is known of driver words after a store, and of routines that run over them.
use Rattle.std.proofs.Common.{◌≡◌, ℕ, zero, suc, ◌≢◌, Bool, Option, Some, None, List, ap, refl, subst}
use Rattle.std.specs.Prelude.{if◌then◌else◌, ◌==◌}
use Rattle.std.proofs.lemmas.Bool.{eq-eqb, ne_eqb}
use Rattle.mcal_base.specs.declared.answer.Answer.{Answer}
use Rattle.mcal_base.specs.declared.moves.Move.{Move}
use Rattle.mcal_base.specs.declared.moves.Move.TheVariants.{Read, Write, Load, Store, Mask, Unmask, Note, Report}
use Rattle.word_shapes.specs.Playing.{Memory, stored, given, after, NamesOwn, Play, Either, Ends, Agree}

-- ---- stores

pub stored-same : (m : Memory) (j k value : ℕ) → j ≡ k → stored m k value j ≡ value
stored-same m j k value e = ap (λ b. if b then value else m j) (eq-eqb j k e)

pub stored-other : (m : Memory) (j k value : ℕ) → j ≢ k → stored m k value j ≡ m j
stored-other m j k value ne = ap (λ b. if b then value else m j) (ne_eqb j k ne)

-- ---- what a routine sees

stored-agree : (own : ℕ → Bool) (m n : Memory) (k v : ℕ) → Agree own m n → Agree own (stored m k v) (stored n k v)
stored-agree own m n k v same j at = ap (λ x. if j == k then v else x) (same j at)

-- a move of its own words gives and leaves the same where these are the same
pub given-agree : (own : ℕ → Bool) (m n : Memory) (made : Move) → NamesOwn own made → Agree own m n → given m made ≡ given n made
given-agree own m n (Load k) at same = same k at
given-agree own m n (Store k v) at same = refl
given-agree own m n (Read r) at same = absurd at
given-agree own m n (Write r v) at same = absurd at
given-agree own m n Mask at same = absurd at
given-agree own m n Unmask at same = absurd at
given-agree own m n (Note x) at same = absurd at
given-agree own m n (Report x) at same = absurd at

pub after-agree : (own : ℕ → Bool) (m n : Memory) (made : Move) → NamesOwn own made → Agree own m n → Agree own (after m made) (after n made)
after-agree own m n (Load k) at same = same
after-agree own m n (Store k v) at same = stored-agree own m n k v same
after-agree own m n (Read r) at same = absurd at
after-agree own m n (Write r v) at same = absurd at
after-agree own m n Mask at same = absurd at
after-agree own m n Unmask at same = absurd at
after-agree own m n (Note x) at same = absurd at
after-agree own m n (Report x) at same = absurd at

-- ---- routines that end

pub either-then : (o : Option Answer) (A B : Type 0) (D E : List ℕ → Type 0) → (A → B) → ((xs : List ℕ) → D xs → E xs) → Either o A D → Either o B E
either-then None A B D E f g h = f h
either-then (Some a) A B D E f g h = (h.0, g a.words h.1)

-- what follows from the end holds at the end
pub ends-then : {R : Type 0} (p : Play R) (own : ℕ → Bool) (n : ℕ) (r : R) (m : Memory) (D E : Memory → List ℕ → Type 0)
    → ((m : Memory) (xs : List ℕ) → D m xs → E m xs) → Ends p own n r m D → Ends p own n r m E
ends-then p own zero r m D E f h = absurd h
ends-then p own (suc n) r m D E f h =
    let v = given m (p.move_of r) in
    let later = after m (p.move_of r) in
    (h.0, h.1, either-then (p.gave r v).ended (Ends p own n (p.left r v) later D) (Ends p own n (p.left r v) later E) (D later) (E later) (ends-then p own n (p.left r v) later D E f) (f later) h.2)

-- more moves do no harm
pub ends-more : {R : Type 0} (p : Play R) (own : ℕ → Bool) (n : ℕ) (r : R) (m : Memory) (D : Memory → List ℕ → Type 0) → Ends p own n r m D → Ends p own (suc n) r m D
ends-more p own zero r m D h = absurd h
ends-more p own (suc n) r m D h =
    let v = given m (p.move_of r) in
    let later = after m (p.move_of r) in
    (h.0, h.1, either-then (p.gave r v).ended (Ends p own n (p.left r v) later D) (Ends p own (suc n) (p.left r v) later D) (D later) (D later) (ends-more p own n (p.left r v) later D) (λ xs d. d) h.2)

-- a routine sees its own words alone
pub ends-agree : {R : Type 0} (p : Play R) (own : ℕ → Bool) (n : ℕ) (r : R) (m k : Memory) (D : Memory → List ℕ → Type 0)
    → ((m k : Memory) (xs : List ℕ) → Agree own m k → D m xs → D k xs) → Agree own m k → Ends p own n r m D → Ends p own n r k D
ends-agree p own zero r m k D keeps same h = absurd h
ends-agree p own (suc n) r m k D keeps same h =
    let made = p.move_of r in
    let later = after-agree own m k made h.0 same in
    let Rest = λ (v : ℕ). ((p.gave r v).event ≡ None) × Either (p.gave r v).ended (Ends p own n (p.left r v) (after k made) D) (D (after k made)) in
    let v = given m made in
    let rest : Rest (given k made) = subst Rest (given-agree own m k made h.0 same) (
      h.1,
      either-then (p.gave r v).ended (Ends p own n (p.left r v) (after m made) D) (Ends p own n (p.left r v) (after k made) D) (D (after m made)) (D (after k made))
          (ends-agree p own n (p.left r v) (after m made) (after k made) D keeps later) (λ xs. keeps (after m made) (after k made) xs later) h.2,
    ) in
    (h.0, rest.0, rest.1)
