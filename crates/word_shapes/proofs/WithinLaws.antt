-- Where a part of a routine ends, the routine goes on over what it left.
use Rattle.std.proofs.Common.{◌≡◌, ℕ, zero, suc, Bool, true, Option, Some, None, List, refl, sym, ap, subst}
use Rattle.mcal_base.specs.declared.answer.Answer.{Answer}
use Rattle.mcal_base.specs.declared.moves.Move.{Move}
use Rattle.mcal_base.specs.declared.moves.Move.TheVariants.{Read, Write, Load, Store, Mask, Unmask, Note, Report}
use Rattle.mcal_base.specs.declared.routine.Taken.{Taken}
use Rattle.word_shapes.specs.Playing.{Memory, stored, given, after, NamesOwn, Play, Either, Ends, Agree, goes}
use Rattle.word_shapes.proofs.PlayingLaws.{given-agree, either-then, ends-more}
use Rattle.word_shapes.specs.jobs.Within.{and_more, CarriesTo, Carries, IsWithin}

pub names-within : (own all : ℕ → Bool) (made : Move) → IsWithin own all → NamesOwn own made → NamesOwn all made
names-within own all (Load k) sub at = sub k at
names-within own all (Store k v) sub at = sub k at
names-within own all (Read r) sub at = absurd at
names-within own all (Write r v) sub at = absurd at
names-within own all Mask sub at = absurd at
names-within own all Unmask sub at = absurd at
names-within own all (Note x) sub at = absurd at
names-within own all (Report x) sub at = absurd at

-- many more moves do no harm
pub ends-and-more : {R : Type 0} (p : Play R) (own : ℕ → Bool) (n k : ℕ) (r : R) (m : Memory) (D : Memory → List ℕ → Type 0) → Ends p own k r m D → Ends p own (and_more n k) r m D
ends-and-more p own zero k r m D h = h
ends-and-more p own (suc n) k r m D h = ends-more p own (and_more n k) r m D (ends-and-more p own n k r m D h)

-- a step of the whole, once its move is known
abbrev Steps : {B : Type 0} → Play B → (ℕ → Bool) → ℕ → B → Memory → (Memory → List ℕ → Type 0) → Move → Type 0
Steps q own n b m E made =
    NamesOwn own made
    × ((q.gave b (given m made)).event ≡ None)
    × Either (q.gave b (given m made)).ended (Ends q own n (q.left b (given m made)) (after m made) E) (E (after m made))

-- a step that goes on
goes-on : {B : Type 0} (q : Play B) (own : ℕ → Bool) (n : ℕ) (b c : B) (t : Taken) (later : Memory) (E : Memory → List ℕ → Type 0) → t ≡ goes → b ≡ c → Ends q own n c later E
    → (t.event ≡ None) × Either t.ended (Ends q own n b later E) (E later)
goes-on q own n b c t later E e f h =
    subst (λ x. (x.event ≡ None) × Either x.ended (Ends q own n b later E) (E later)) (sym e) (refl, subst (λ x. Ends q own n x later E) (sym f) h)

module _ {R B : Type 0} (p : Play R) (q : Play B) (into : R → B) (next : List ℕ → B) (own all : ℕ → Bool) (k : ℕ) (D E : Memory → List ℕ → Type 0)
    (carries : Carries p q into next) (sub : IsWithin own all) (more : (m : Memory) (xs : List ℕ) → D m xs → Ends q all k (next xs) m E) where
  pub carried : (n : ℕ) (r : R) (m : Memory) → Ends p own n r m D → Ends q all (and_more n k) (into r) m E
  carried zero r m h = absurd h
  carried (suc n) r m h =
      let x = by (carried n) (p.gave r v).ended (carries.steps r v) h.2 in
      subst (Steps q all (and_more n k) (into r) m E) (sym (carries.moves r)) (names-within own all (p.move_of r) sub h.0, x.0, x.1)
    where
      v : ℕ
      v = given m (p.move_of r)

      later : Memory
      later = after m (p.move_of r)

      by : ((s : R) (k1 : Memory) → Ends p own n s k1 D → Ends q all (and_more n k) (into s) k1 E) → (o : Option Answer) → CarriesTo p q into next r v o → Either o (Ends p own n (p.left r v) later D) (D later)
          → ((q.gave (into r) v).event ≡ None) × Either (q.gave (into r) v).ended (Ends q all (and_more n k) (q.left (into r) v) later E) (E later)
      by rest None c e = goes-on q all (and_more n k) (q.left (into r) v) (into (p.left r v)) (q.gave (into r) v) later E c.1 c.0 (rest (p.left r v) later e)
      by rest (Some a) c e = goes-on q all (and_more n k) (q.left (into r) v) (next a.words) (q.gave (into r) v) later E c.1 c.0 (ends-and-more q all n k (next a.words) later E (more later a.words e.1))

-- ---- memories that a routine can't tell apart

-- what relates two memories says that they have the same in a routine's own words, and goes on after its stores
pub record IsAlike (own : ℕ → Bool) (Like : Memory → Memory → Type 0) : Type 0 where
  pub agree : (m k : Memory) → Like m k → Agree own m k
  pub stores : (m k : Memory) (j v : ℕ) → own j ≡ true → Like m k → Like (stored m j v) (stored k j v)

after-alike : (own : ℕ → Bool) (Like : Memory → Memory → Type 0) (m k : Memory) (made : Move) → IsAlike own Like → NamesOwn own made → Like m k → Like (after m made) (after k made)
after-alike own Like m k (Load j) alike at h = h
after-alike own Like m k (Store j v) alike at h = alike.stores m k j v at h
after-alike own Like m k (Read r) alike at h = absurd at
after-alike own Like m k (Write r v) alike at h = absurd at
after-alike own Like m k Mask alike at h = absurd at
after-alike own Like m k Unmask alike at h = absurd at
after-alike own Like m k (Note x) alike at h = absurd at
after-alike own Like m k (Report x) alike at h = absurd at

-- a routine that ends over one ends over the other, with what follows there
pub ends-alike : {R : Type 0} (p : Play R) (own : ℕ → Bool) (Like : Memory → Memory → Type 0) (n : ℕ) (r : R) (m k : Memory) (D E : Memory → List ℕ → Type 0)
    → IsAlike own Like → ((m k : Memory) (xs : List ℕ) → Like m k → D m xs → E k xs) → Like m k → Ends p own n r m D → Ends p own n r k E
ends-alike p own Like zero r m k D E alike keeps same h = absurd h
ends-alike p own Like (suc n) r m k D E alike keeps same h =
    let made = p.move_of r in
    let later = after-alike own Like m k made alike h.0 same in
    let Rest = λ (v : ℕ). ((p.gave r v).event ≡ None) × Either (p.gave r v).ended (Ends p own n (p.left r v) (after k made) E) (E (after k made)) in
    let v = given m made in
    let rest : Rest (given k made) = subst Rest (given-agree own m k made h.0 (alike.agree m k same)) (
      h.1,
      either-then (p.gave r v).ended (Ends p own n (p.left r v) (after m made) D) (Ends p own n (p.left r v) (after k made) E) (D (after m made)) (E (after k made))
          (ends-alike p own Like n (p.left r v) (after m made) (after k made) D E alike keeps later) (λ xs. keeps (after m made) (after k made) xs later) h.2,
    ) in
    (h.0, rest.0, rest.1)
