-- The bank that a round was copied to becomes the newest one, with the round's values; and these go to places of the user's buffer.
-- From words.ControlWord.
-- Used by services.ServeActRight.
use Rattle.std.proofs.Common.{◌≡◌, ◌≢◌, ◌+◌, ◌-◌, ◌*◌, ◌/◌, ◌%◌, ◌<◌, ◌&&◌, ◌==◌, [], ◌∷◌, ◌++◌, ◌∙◌, ◌⊎◌}
use Rattle.std.proofs.Common.{if◌then◌else◌}
use Rattle.adc_laws.specs.serving.Terms
use Terms.{AdcTable, ap, arith, Bank, bank_number, bank_word, Banks, Bool, buffer_by, commits, committing, Copies}
use Terms.{eq_is, eq_self, false, FitsAdc, Group, group_of, held_in, inl, inputs_of, inr, is_owed, is_same, is_some}
use Terms.{IsStored, length, List, listed, mod-mul-add, nat_le, nat_tests, newest, None, One, Option, option_map}
use Terms.{own_of, PutIn, PutStands, Putting, refl, ResultBuffer, Results, round_stored, rounds_of, same_or_other}
use Terms.{samples_of, slice_get, slice_index_or, Some, Stands, stands-agree, stored, subst, suc, sym, trio_of}
use Terms.{TripleBuffer, true, with_round_of, Zero, ℕ}
use Rattle.adc_laws.specs.serving.laws.words.ControlWord.{open_put, trio_fits}

-- ---- lists

-- a list by the words that have its values
listed_is : (m : ℕ → ℕ) (xs : List ℕ) (k : ℕ) → ((i v : ℕ) → slice_get xs i ≡ Some v → m (k + i) ≡ v) → listed m k (length xs) ≡ xs
listed_is m [] k h = refl
listed_is m (x ∷ xs) k h =
    let here : m k ≡ x = (let at : k + 0 ≡ k = omega arith in ap m (sym at) ∙ h 0 x refl) in
    rw (here, listed_is m xs (k + 1) (λ i v e. (let at : k + 1 + i ≡ k + suc i = omega arith in ap m at ∙ h (suc i) v e))) refl

-- the newest round of a list with one more
pub newest_pushed : (xs : List (List ℕ)) (y : List ℕ) → newest (xs ++ y ∷ []) ≡ y
newest_pushed xs y = at_end xs
  where
    at_end : (zs : List (List ℕ)) → slice_index_or (zs ++ y ∷ []) (length (zs ++ y ∷ []) - 1) [] ≡ y
    at_end [] = refl
    at_end (z ∷ []) = refl
    at_end (z ∷ z1 ∷ zs) =
        let back : length (z ∷ z1 ∷ (zs ++ y ∷ [])) - 1 ≡ suc (length (z1 ∷ (zs ++ y ∷ [])) - 1) = omega arith in
        ap (λ n. slice_index_or (z ∷ z1 ∷ (zs ++ y ∷ [])) n []) back ∙ at_end (z1 ∷ zs)

-- ---- the banks

-- the bank of a put, and how many values that has
abbrev pub part_of : Option Putting → Option (ℕ × ℕ)
part_of o = option_map (λ (p : Putting). (p.bank, length p.filled)) o

pub quarter_left : (n v : ℕ) → n < 4 → (n % 4 + 4 * (v / 4)) / 4 ≡ v / 4
quarter_left n v lt = omega (arith, lt)

pub rest_left : (n v : ℕ) → n < 4 → (n % 4 + 4 * (v / 4)) % 4 ≡ n
rest_left n v lt = omega (arith, lt)

module _ (d : AdcTable) (fits : FitsAdc d) (g : ℕ) (there : is_some (group_of d g) ≡ true) (m k : ℕ → ℕ) (b : Bank) (values : List ℕ) (whole : length values ≡ length (inputs_of (group_of d g))) (filled : (j v : ℕ) → slice_get values j ≡ Some v → m (bank_word (rounds_of d g) b j) ≡ v)
    (q : Banks) (stands : Stands (trio_of (rounds_of d g)) m q) (put : part_of q.put ≡ Some (bank_number b, length (inputs_of (group_of d g))))
    (control : k (trio_of (rounds_of d g)).control ≡ bank_number b % 4 + 4 * (m (trio_of (rounds_of d g)).control / 4)) (others : (j : ℕ) → own_of (trio_of (rounds_of d g)) j ≡ true → j ≢ (trio_of (rounds_of d g)).control → k j ≡ m j) where
  abbrev trio : TripleBuffer
  trio = trio_of (rounds_of d g)

  pub the_put : (p : Putting) × (q.put ≡ Some p) × (p.bank ≡ bank_number b) × (length p.filled ≡ length (inputs_of (group_of d g)))
  the_put = open_put q.put (bank_number b) (length (inputs_of (group_of d g))) put

  abbrev pub committed : Banks
  committed = committing the_put.0 q

  pub stands_committed : Stands (trio_of (rounds_of d g)) k committed
  stands_committed = stands-agree trio (stored m trio.control ((the_put.0).bank % 4 + 4 * (m trio.control / 4))) k (committing the_put.0 q) (λ j own. same j own (j == trio.control) refl) (commits trio m q the_put.0 (trio_fits d fits g there) the_put.3 the_put.1 stands)
    where
      same : (j : ℕ) → own_of trio j ≡ true → (z : Bool) → (j == trio.control) ≡ z → (if z then (the_put.0).bank % 4 + 4 * (m trio.control / 4) else m j) ≡ k j
      same j own true e = ap (λ n. n % 4 + 4 * (m trio.control / 4)) the_put.2 ∙ (sym control ∙ ap k (sym (eq_is j trio.control e)))
      same j own false e = sym (others j own (λ i. (let on : (j == trio.control) ≡ true = ap (λ n. n == trio.control) i ∙ eq_self trio.control in cc)))

  pub newest_committed : committed.newest ≡ values
  newest_committed =
      let open_put : PutStands trio m q.bank q.take the_put.0 = subst (PutIn trio m q.bank q.take) the_put.1 stands.put in
      sym open_put.filled.1
      ∙ (ap (λ n. listed m (trio.banks + n * trio.len + 0) (length (the_put.0).filled)) the_put.2
      ∙ (ap (λ n. listed m (bank_word (rounds_of d g) b 0) n) (the_put.3 ∙ sym whole)
      ∙ listed_is m values (bank_word (rounds_of d g) b 0) (λ i v e. (let at : bank_word (rounds_of d g) b i ≡ bank_word (rounds_of d g) b 0 + i = omega arith in ap m (sym at) ∙ filled i v e))))

-- ---- the places of the buffer

module _ (k : Option Group) (some : 0 < samples_of k) (n g : ℕ) (second : Bool) (values : List ℕ) (held : Results) where
  abbrev pub results_of : Results
  results_of = with_round_of k n g (Some (buffer_by second)) values held

  is : IsStored k n g (buffer_by second) values held results_of
  is = round_stored k n g (buffer_by second) values held some

  pub value_stored : (j v : ℕ) → slice_get values j ≡ Some v → held_in results_of g (buffer_by second) (j * samples_of k + n % samples_of k) ≡ v
  value_stored j v e = is.values_at j v e

  pub group_unstored : (h : ℕ) (c : ResultBuffer) (p : ℕ) → h ≢ g → held_in results_of h c p ≡ held_in held h c p
  group_unstored h c p ne = is.groups h c p ne

  same_buffer : (c e : ResultBuffer) → (is_same c e ≡ true) × (c ≡ e) ⊎ (e ≢ c)
  same_buffer Zero One = inr (λ e. absurd (cc))
  same_buffer One Zero = inr (λ e. absurd (cc))
  same_buffer _ _ = inl (refl, refl)

  -- a place that no frame has yet to copy to
  pub place_unstored : (h : ℕ) (c : ResultBuffer) (p : ℕ) (b : Bank) → n % samples_of k < samples_of k → is_owed h c p (Copies b (record { group = g; second = second; samples = samples_of k; place = n % samples_of k }) 0 None) ≡ false → held_in results_of h c p ≡ held_in held h c p
  place_unstored h c p b lt free =
      elim (same_or_other h g)
      [ inl e ↦ by_buffer e (same_buffer (buffer_by second) c) | inr ne ↦ group_unstored h c p ne ]
    where
      at_place : (h ≡ g) → (is_same (buffer_by second) c ≡ true) → (j : ℕ) → p ≡ j * samples_of k + n % samples_of k → ⊥
      at_place e i j f =
          let rest : p % samples_of k ≡ n % samples_of k = ap (λ z. z % samples_of k) f ∙ mod-mul-add j (samples_of k) (n % samples_of k) lt in
          let on : (g == h) && (is_same (buffer_by second) c && (p % samples_of k == n % samples_of k && nat_le 0 (p / samples_of k))) ≡ true = all (g == h) (is_same (buffer_by second) c) (p % samples_of k == n % samples_of k) (nat_le 0 (p / samples_of k)) (ap (λ z. g == z) e ∙ eq_self g) i (ap (λ z. z == n % samples_of k) rest ∙ eq_self (n % samples_of k)) (none_below (p / samples_of k)) in
          absurd (cc)
        where
          none_below : (i : ℕ) → nat_le 0 i ≡ true
          none_below i = grind (arith, nat_tests)

          all : (x y z v : Bool) → x ≡ true → y ≡ true → z ≡ true → v ≡ true → x && (y && (z && v)) ≡ true
          all true true true v e f i j = j
          all _ _ _ v e f i j = absurd (cc)

      by_buffer : h ≡ g → (is_same (buffer_by second) c ≡ true) × (buffer_by second ≡ c) ⊎ (c ≢ buffer_by second) → held_in results_of h c p ≡ held_in held h c p
      by_buffer e (inl i) = subst (λ z. held_in results_of z c p ≡ held_in held z c p) (sym e) (subst (λ z. held_in results_of g z p ≡ held_in held g z p) i.1 (is.places p (λ j lt f. at_place e i.0 j f)))
      by_buffer e (inr ne) = subst (λ z. held_in results_of z c p ≡ held_in held z c p) (sym e) (is.buffers c p ne)
