-- The routines of three banks do what the calls promise.
use Rattle.std.proofs.Common.{◌≡◌, ℕ, zero, suc, ◌+◌, ◌*◌, ◌/◌, ◌%◌, ◌<◌, ◌≤◌, ◌≢◌, true, false, Option, Some, None, List, [], ◌∷◌, ◌++◌, length, refl, sym, ◌∙◌, ap, subst, arith, ◌⊎◌, inl, inr, length-append}
use Rattle.std.specs.Prelude.{slice_index}
use Rattle.std.proofs.Math.Nat.{mul-le-mul_right, add-mul}
use Rattle.std.proofs.lemmas.Bool.{cases_lt, true≢false}
use Rattle.std.proofs.lemmas.Bool.Decides.{nat_tests}
use Rattle.word_shapes.specs.Playing.{Memory, stored, Ends, Agree}
use Rattle.word_shapes.specs.Banks.{Putting, Taking, Banks, choosing, filling, committing, abandoning, pinning, releasing}
use Rattle.word_shapes.specs.TripleBuffer.{word_at, Fits, own_of, listed, IsBank, Begins, pin_of, PutStands, PutIn, TakeStands, TakeIn, Stands, free, putting, taking}
use Rattle.word_shapes.specs.declared.put.Put.TheVariants as put
use Rattle.word_shapes.specs.declared.take.Take.TheVariants as take
use Rattle.word_shapes.specs.declared.triple_buffer.TripleBuffer.{TripleBuffer}
use Rattle.word_shapes.proofs.PlayingLaws.{stored-same, stored-other}

-- ---- words in a row

listed-apart : (m : Memory) (k v j n : ℕ) → ((i : ℕ) → i < n → k ≢ j + i) → listed (stored m k v) j n ≡ listed m j n
listed-apart m k v j zero apart = refl
listed-apart m k v j (suc n) apart =
    rw (stored-other m j k v (λ e. apart 0 (omega arith) (omega arith)), listed-apart m k v (j + 1) n (λ i lt e. apart (i + 1) (omega arith) (omega arith))) refl

listed-push : (m : Memory) (j n v : ℕ) → listed (stored m (j + n) v) j (n + 1) ≡ listed m j n ++ v ∷ []
listed-push m j zero v = rw (stored-same m j (j + 0) v (omega arith)) refl
listed-push m j (suc n) v =
    let more : suc n + 1 ≡ suc (n + 1) = omega arith in
    let at : j + suc n ≡ j + 1 + n = omega arith in
    rw (more, stored-other m j (j + suc n) v (λ e. omega arith))
    (ap (λ k. m j ∷ listed (stored m k v) (j + 1) (n + 1)) at ∙ ap (λ ys. m j ∷ ys) (listed-push m (j + 1) n v))

pub listed-at : (m : Memory) (j n i : ℕ) → i < n → slice_index (listed m j n) i ≡ m (j + i)
listed-at m j zero i lt = absurd (omega arith)
listed-at m j (suc n) zero lt = ap m (omega arith)
listed-at m j (suc n) (suc i) lt = listed-at m (j + 1) n i (omega arith) ∙ ap m (omega arith)

-- a word of a whole bank
pub bank-word : (t : TripleBuffer) (m : Memory) (bank index : ℕ) (xs : List ℕ) → index < t.len → IsBank t m bank xs → m (word_at t bank index) ≡ slice_index xs index
bank-word t m bank index xs lt is =
    let at : word_at t bank 0 + index ≡ word_at t bank index = omega arith in
    ap m (sym at) ∙ sym (listed-at m (word_at t bank 0) (length xs) index (let e = is.0 in omega arith)) ∙ ap (λ ys. slice_index ys index) is.1

-- ---- where the words lie

row_below : (len b i : ℕ) → b < 3 → i < len → b * len + i < 3 * len
row_below len b i lt small = let le : b * len ≤ 2 * len = (let two : b ≤ 2 = omega arith in mul-le-mul_right len two) in omega arith

rows_apart : (len a b i j : ℕ) → a < b → i < len → a * len + i ≢ b * len + j
rows_apart len a b i j lt small e =
    let le : (a + 1) * len ≤ b * len = (let next : a + 1 ≤ b = omega arith in mul-le-mul_right len next) in
    let sum : (a + 1) * len ≡ a * len + 1 * len = add-mul a 1 len in
    omega arith

pub control-apart : (t : TripleBuffer) (b i : ℕ) → Fits t → b < 3 → i < t.len → t.control ≢ word_at t b i
control-apart t b i fits lt small e =
    fits.apart (b * t.len + i) (row_below t.len b i lt small) (let same : t.control ≡ t.banks + b * t.len + i = e in omega arith)

pub banks-apart : (t : TripleBuffer) (a b i j : ℕ) → a ≢ b → i < t.len → j < t.len → word_at t a i ≢ word_at t b j
banks-apart t a b i j ne small other e =
    let same : t.banks + a * t.len + i ≡ t.banks + b * t.len + j = e in
    elim (cases_lt a b) [
      | inl lt ↦ rows_apart t.len a b i j lt small (omega arith)
      | inr le ↦ (let lt : b < a = (let d : a ≢ b = ne in omega arith) in rows_apart t.len b a j i lt other (omega arith))
    ]

pub own-control : (t : TripleBuffer) → own_of t t.control ≡ true
own-control t = grind (arith, nat_tests)

pub own-word : (t : TripleBuffer) (b i : ℕ) → b < 3 → i < t.len → own_of t (word_at t b i) ≡ true
own-word t b i lt small = let below = row_below t.len b i lt small in grind (arith, nat_tests)

-- a word that isn't one of its own
pub other-control : (t : TripleBuffer) (k : ℕ) → own_of t k ≡ false → k ≢ t.control
other-control t k elsewhere e = grind (arith, nat_tests)

pub other-word : (t : TripleBuffer) (k b i : ℕ) → own_of t k ≡ false → b < 3 → i < t.len → k ≢ word_at t b i
other-word t k b i elsewhere lt small e =
    let below = row_below t.len b i lt small in let at : k ≡ t.banks + b * t.len + i = e in
    true≢false (sym (own-word t b i lt small) ∙ ap (own_of t) (sym e) ∙ elsewhere)

-- ---- stores elsewhere

-- the store falls on none of a bank's words
Misses : TripleBuffer → ℕ → ℕ → Type 0
Misses t b k = (i : ℕ) → i < t.len → k ≢ word_at t b i

begins-kept : (t : TripleBuffer) (m : Memory) (k v b : ℕ) (xs : List ℕ) → Misses t b k → Begins t m b xs → Begins t (stored m k v) b xs
unfolding Misses
begins-kept t m k v b xs misses h =
    (h.0, listed-apart m k v (word_at t b 0) (length xs) (λ i lt e. misses i (let le = h.0 in omega arith) (let same : k ≡ word_at t b 0 + i = e in omega arith)) ∙ h.1)

bank-kept : (t : TripleBuffer) (m : Memory) (k v b : ℕ) (xs : List ℕ) → Misses t b k → IsBank t m b xs → IsBank t (stored m k v) b xs
bank-kept t m k v b xs misses h = (h.0, (begins-kept t m k v b xs misses (let e = h.0 in omega arith, h.1)).1)

put-kept : (t : TripleBuffer) (m : Memory) (k v newest : ℕ) (x : Option Taking) (o : Option Putting) → ((b : ℕ) → b < 3 → Misses t b k) → PutIn t m newest x o → PutIn t (stored m k v) newest x o
put-kept t m k v newest x None misses h = tt
put-kept t m k v newest x (Some p) misses h =
    record { below = h.below; old = h.old; free = h.free; filled = begins-kept t m k v p.bank p.filled (misses p.bank h.below) h.filled }

take-kept : (t : TripleBuffer) (m : Memory) (k v : ℕ) (o : Option Taking) → ((b : ℕ) → b < 3 → Misses t b k) → TakeIn t m o → TakeIn t (stored m k v) o
take-kept t m k v None misses h = tt
take-kept t m k v (Some x) misses h = record { below = h.below; kept = bank-kept t m k v x.bank x.kept (misses x.bank h.below) h.kept }

control-misses : (t : TripleBuffer) → Fits t → (b : ℕ) → b < 3 → Misses t b t.control
unfolding Misses
control-misses t fits b lt i small = control-apart t b i fits lt small

other-misses : (t : TripleBuffer) (k : ℕ) → own_of t k ≡ false → (b : ℕ) → b < 3 → Misses t b k
unfolding Misses
other-misses t k elsewhere b lt i small = other-word t k b i elsewhere lt small

bank-misses : (t : TripleBuffer) (a b i : ℕ) → a ≢ b → i < t.len → Misses t b (word_at t a i)
unfolding Misses
bank-misses t a b i ne small j other = banks-apart t a b i j ne small other

-- a store to any other word leaves all as it was
pub stands-other : (t : TripleBuffer) (m : Memory) (k v : ℕ) (s : Banks) → own_of t k ≡ false → Stands t m s → Stands t (stored m k v) s
stands-other t m k v s elsewhere h =
    let misses = other-misses t k elsewhere in
    record {
      below = h.below;
      control = stored-other m t.control k v (λ e. other-control t k elsewhere (sym e)) ∙ h.control;
      newest = bank-kept t m k v s.bank s.newest (misses s.bank h.below) h.newest;
      put = put-kept t m k v s.bank s.take s.put misses h.put;
      take = take-kept t m k v s.take misses h.take;
    }

-- ---- puts

fill-take : (t : TripleBuffer) (m : Memory) (k v a i : ℕ) (o : Option Taking) → i < t.len → pin_of o ≢ a + 1 → TakeIn t m o → TakeIn t (stored m (word_at t a i) v) o
fill-take t m k v a i None small ne h = tt
fill-take t m k v a i (Some x) small ne h =
    record { below = h.below; kept = bank-kept t m (word_at t a i) v x.bank x.kept (bank-misses t a x.bank i (λ e. ne (let same : a ≡ x.bank = e in omega arith)) small) h.kept }

filled-more : (t : TripleBuffer) (m : Memory) (v b : ℕ) (xs : List ℕ) → length xs < t.len → Begins t m b xs → Begins t (stored m (word_at t b (length xs)) v) b (xs ++ v ∷ [])
filled-more t m v b xs lt h =
    let count : length (xs ++ v ∷ []) ≡ length xs + 1 = length-append xs (v ∷ []) in
    let at : word_at t b (length xs) ≡ word_at t b 0 + length xs = omega arith in (
      let e = count in omega arith,
      rw (count, at) (listed-push m (word_at t b 0) (length xs) v) ∙ ap (λ ys. ys ++ v ∷ []) h.1,
    )

pub fills : (t : TripleBuffer) (m : Memory) (s : Banks) (p : Putting) (v : ℕ) → Fits t → length p.filled < t.len → s.put ≡ Some p → Stands t m s
    → Stands t (stored m (word_at t p.bank (length p.filled)) v) (filling v p s)
fills t m s p v fits lt e h =
    let open_put : PutStands t m s.bank s.take p = subst (PutIn t m s.bank s.take) e h.put in
    let k = word_at t p.bank (length p.filled) in
    record {
      below = h.below;
      control = stored-other m t.control k v (control-apart t p.bank (length p.filled) fits open_put.below lt) ∙ h.control;
      newest = bank-kept t m k v s.bank s.newest (bank-misses t p.bank s.bank (length p.filled) open_put.old lt) h.newest;
      put = record { below = open_put.below; old = open_put.old; free = open_put.free; filled = filled-more t m v p.bank p.filled lt open_put.filled };
      take = fill-take t m k v p.bank (length p.filled) s.take lt open_put.free h.take;
    }

pin-small : (t : TripleBuffer) (m : Memory) (o : Option Taking) → TakeIn t m o → pin_of o < 4
pin-small t m None h = omega arith
pin-small t m (Some x) h = let lt = h.below in omega arith

pub commits : (t : TripleBuffer) (m : Memory) (s : Banks) (p : Putting) → Fits t → length p.filled ≡ t.len → s.put ≡ Some p → Stands t m s
    → Stands t (stored m t.control (p.bank % 4 + 4 * (m t.control / 4))) (committing p s)
commits t m s p fits whole e h =
    let open_put : PutStands t m s.bank s.take p = subst (PutIn t m s.bank s.take) e h.put in
    let v = p.bank % 4 + 4 * (m t.control / 4) in
    let misses = control-misses t fits in
    record {
      below = open_put.below;
      control = stored-same m t.control t.control v refl ∙ (let lt = open_put.below in let old = h.below in let c = h.control in omega arith);
      newest = bank-kept t m t.control v p.bank p.filled (misses p.bank open_put.below) (whole, open_put.filled.1);
      put = tt;
      take = take-kept t m t.control v s.take misses h.take;
    }

-- ---- takes

pin-put : (t : TripleBuffer) (m : Memory) (k v newest : ℕ) (kept : List ℕ) (o : Option Putting) → ((b : ℕ) → b < 3 → Misses t b k) → PutIn t m newest None o
    → PutIn t (stored m k v) newest (Some (record { bank = newest; kept = kept })) o
pin-put t m k v newest kept None misses h = tt
pin-put t m k v newest kept (Some p) misses h =
    record { below = h.below; old = h.old; free = λ e. h.old (let same : newest + 1 ≡ p.bank + 1 = e in omega arith); filled = begins-kept t m k v p.bank p.filled (misses p.bank h.below) h.filled }

release-put : (t : TripleBuffer) (m : Memory) (k v newest : ℕ) (x : Option Taking) (o : Option Putting) → ((b : ℕ) → b < 3 → Misses t b k) → PutIn t m newest x o → PutIn t (stored m k v) newest None o
release-put t m k v newest x None misses h = tt
release-put t m k v newest x (Some p) misses h =
    record { below = h.below; old = h.old; free = λ e. (let none : 0 ≡ p.bank + 1 = e in omega arith); filled = begins-kept t m k v p.bank p.filled (misses p.bank h.below) h.filled }

pub newest-in : (t : TripleBuffer) (m : Memory) (s : Banks) → Stands t m s → m t.control % 4 ≡ s.bank
newest-in t m s h = let lt = h.below in let c = h.control in omega arith

pub pins : (t : TripleBuffer) (m : Memory) (s : Banks) → Fits t → s.take ≡ None → Stands t m s → Stands t (stored m t.control (m t.control % 4 + 4 * (m t.control % 4 + 1))) (pinning s)
pins t m s fits e h =
    let v = m t.control % 4 + 4 * (m t.control % 4 + 1) in
    let misses = control-misses t fits in
    record {
      below = h.below;
      control = stored-same m t.control t.control v refl ∙ (let n = newest-in t m s h in omega arith);
      newest = bank-kept t m t.control v s.bank s.newest (misses s.bank h.below) h.newest;
      put = pin-put t m t.control v s.bank s.newest s.put misses (subst (λ o. PutIn t m s.bank o s.put) e h.put);
      take = record { below = h.below; kept = bank-kept t m t.control v s.bank s.newest (misses s.bank h.below) h.newest };
    }

pub releases : (t : TripleBuffer) (m : Memory) (s : Banks) → Fits t → Stands t m s → Stands t (stored m t.control (m t.control % 4)) (releasing s)
releases t m s fits h =
    let v = m t.control % 4 in
    let misses = control-misses t fits in
    record {
      below = h.below;
      control = stored-same m t.control t.control v refl ∙ (let n = newest-in t m s h in omega arith);
      newest = bank-kept t m t.control v s.bank s.newest (misses s.bank h.below) h.newest;
      put = release-put t m t.control v s.bank s.take s.put misses h.put;
      take = tt;
    }

-- ---- the parts as routines

pub fill-ends : (t : TripleBuffer) (m : Memory) (s : Banks) (p : Putting) (bank index v : ℕ) → Fits t → bank < 3 → index < t.len → s.put ≡ Some p → bank ≡ p.bank → index ≡ length p.filled → Stands t m s
    → Ends putting (own_of t) 1 (put.Fill (word_at t bank index) v) m (λ after words. (words ≡ []) × Stands t after (filling v p s))
fill-ends t m s p bank index v fits lt small e b i h =
    (own-word t bank index lt small, refl, (refl, (refl, rw (b, i) (fills t m s p v fits (let j = i in omega arith) e h))))

pub commit-ends : (t : TripleBuffer) (m : Memory) (s : Banks) (p : Putting) (bank : ℕ) → Fits t → s.put ≡ Some p → bank ≡ p.bank → length p.filled ≡ t.len → Stands t m s
    → Ends putting (own_of t) 2 (put.Commit t.control bank) m (λ after words. (words ≡ []) × Stands t after (committing p s))
commit-ends t m s p bank fits e b whole h =
    (own-control t, refl, (own-control t, refl, (refl, (refl, rw b (commits t m s p fits whole e h)))))

pub pin-ends : (t : TripleBuffer) (m : Memory) (s : Banks) → Fits t → s.take ≡ None → Stands t m s
    → Ends taking (own_of t) 2 (take.Pin t.control) m (λ after words. (words ≡ s.bank ∷ []) × Stands t after (pinning s))
pin-ends t m s fits e h =
    (own-control t, refl, (own-control t, refl, (refl, (ap (λ b. b ∷ []) (newest-in t m s h), pins t m s fits e h))))

pub word-ends : (t : TripleBuffer) (m : Memory) (s : Banks) (bank index : ℕ) (xs : List ℕ) → bank < 3 → index < t.len → IsBank t m bank xs → Stands t m s
    → Ends taking (own_of t) 1 (take.Word (word_at t bank index)) m (λ after words. (words ≡ slice_index xs index ∷ []) × Stands t after s)
word-ends t m s bank index xs lt small is h =
    (own-word t bank index lt small, refl, (refl, (ap (λ v. v ∷ []) (bank-word t m bank index xs small is), h)))

pub release-ends : (t : TripleBuffer) (m : Memory) (s : Banks) → Fits t → Stands t m s
    → Ends taking (own_of t) 2 (take.Release t.control) m (λ after words. (words ≡ []) × Stands t after (releasing s))
release-ends t m s fits h = (own-control t, refl, (own-control t, refl, (refl, (refl, releases t m s fits h))))

-- the first bank that is neither newest nor pinned
free-small : (c : ℕ) → free c < 3
free-small c = grind (arith, nat_tests)

newest_cases : (n : ℕ) → n < 3 → (n ≡ 0) ⊎ ((n ≡ 1) ⊎ (n ≡ 2))
newest_cases n lt = grind arith

pin_cases : (n : ℕ) → n < 4 → ((n ≡ 0) ⊎ (n ≡ 1)) ⊎ ((n ≡ 2) ⊎ (n ≡ 3))
pin_cases n lt = grind arith

abbrev IsFree : ℕ → ℕ → Type 0
IsFree newest pin = (free (newest + 4 * pin) ≢ newest) × (pin ≢ free (newest + 4 * pin) + 1)

free_at : (newest pin : ℕ) → (newest ≡ 0) ⊎ ((newest ≡ 1) ⊎ (newest ≡ 2)) → ((pin ≡ 0) ⊎ (pin ≡ 1)) ⊎ ((pin ≡ 2) ⊎ (pin ≡ 3)) → IsFree newest pin
free_at newest pin (inl a) (inl (inl b)) = rw (a, b) (λ e. omega arith, λ e. omega arith)
free_at newest pin (inl a) (inl (inr b)) = rw (a, b) (λ e. omega arith, λ e. omega arith)
free_at newest pin (inl a) (inr (inl b)) = rw (a, b) (λ e. omega arith, λ e. omega arith)
free_at newest pin (inl a) (inr (inr b)) = rw (a, b) (λ e. omega arith, λ e. omega arith)
free_at newest pin (inr (inl a)) (inl (inl b)) = rw (a, b) (λ e. omega arith, λ e. omega arith)
free_at newest pin (inr (inl a)) (inl (inr b)) = rw (a, b) (λ e. omega arith, λ e. omega arith)
free_at newest pin (inr (inl a)) (inr (inl b)) = rw (a, b) (λ e. omega arith, λ e. omega arith)
free_at newest pin (inr (inl a)) (inr (inr b)) = rw (a, b) (λ e. omega arith, λ e. omega arith)
free_at newest pin (inr (inr a)) (inl (inl b)) = rw (a, b) (λ e. omega arith, λ e. omega arith)
free_at newest pin (inr (inr a)) (inl (inr b)) = rw (a, b) (λ e. omega arith, λ e. omega arith)
free_at newest pin (inr (inr a)) (inr (inl b)) = rw (a, b) (λ e. omega arith, λ e. omega arith)
free_at newest pin (inr (inr a)) (inr (inr b)) = rw (a, b) (λ e. omega arith, λ e. omega arith)

pub chooses : (t : TripleBuffer) (m : Memory) (s : Banks) → Stands t m s → Stands t m (choosing (free (m t.control)) s)
chooses t m s h =
    let pin = pin_of s.take in
    let apart : IsFree s.bank pin = free_at s.bank pin (newest_cases s.bank h.below) (pin_cases pin (pin-small t m s.take h.take)) in
    let is : m t.control ≡ s.bank + 4 * pin = h.control in
    record {
      below = h.below;
      control = h.control;
      newest = h.newest;
      put = record { below = free-small (m t.control); old = λ e. apart.0 (ap free (sym is) ∙ e); free = λ e. apart.1 (e ∙ ap (λ c. free c + 1) is); filled = (omega arith, refl) };
      take = h.take;
    }

pub choose-ends : (t : TripleBuffer) (m : Memory) (s : Banks) → Stands t m s
    → Ends putting (own_of t) 1 (put.Choose t.control) m (λ after words. (b : ℕ) × (words ≡ b ∷ []) × Stands t after (choosing b s))
choose-ends t m s h = (own-control t, refl, (refl, (free (m t.control), refl, chooses t m s h)))

-- a put that is left without a commit puts nothing
pub abandons : (t : TripleBuffer) (m : Memory) (s : Banks) → Stands t m s → Stands t m (abandoning s)
abandons t m s h = record { below = h.below; control = h.control; newest = h.newest; put = tt; take = h.take }

-- ---- banks at rest

length-listed : (m : Memory) (j n : ℕ) → length (listed m j n) ≡ n
length-listed m j zero = refl
length-listed m j (suc n) = ap suc (length-listed m (j + 1) n)

-- a control word that names a bank and no pin
pub rests : (t : TripleBuffer) (m : Memory) → m t.control < 3 → Stands t m (record { bank = m t.control; newest = listed m (word_at t (m t.control) 0) t.len; put = None; take = None })
rests t m lt =
    let e = length-listed m (word_at t (m t.control) 0) t.len in
    record {
      below = lt;
      control = omega arith;
      newest = (e, ap (listed m (word_at t (m t.control) 0)) e);
      put = tt;
      take = tt;
    }

-- ---- nothing else is seen of the words

listed-agree : (m k : Memory) (j n : ℕ) → ((i : ℕ) → i < n → m (j + i) ≡ k (j + i)) → listed m j n ≡ listed k j n
listed-agree m k j zero same = refl
listed-agree m k j (suc n) same =
    let here : m j ≡ k j = (let at : j + 0 ≡ j = omega arith in ap m (sym at) ∙ same 0 (omega arith) ∙ ap k at) in
    rw (here, listed-agree m k (j + 1) n (λ i lt. (let at : j + 1 + i ≡ j + suc i = omega arith in ap m at ∙ same (suc i) (omega arith) ∙ ap k (sym at)))) refl

words-agree : (t : TripleBuffer) (m k : Memory) (b n : ℕ) → Agree (own_of t) m k → b < 3 → n ≤ t.len → listed m (word_at t b 0) n ≡ listed k (word_at t b 0) n
words-agree t m k b n same lt le =
    listed-agree m k (word_at t b 0) n (λ i small. (let at : word_at t b 0 + i ≡ word_at t b i = omega arith in ap m at ∙ same (word_at t b i) (own-word t b i lt (omega arith)) ∙ ap k (sym at)))

begins-agree : (t : TripleBuffer) (m k : Memory) (b : ℕ) (xs : List ℕ) → Agree (own_of t) m k → b < 3 → Begins t m b xs → Begins t k b xs
begins-agree t m k b xs same lt h = (h.0, sym (words-agree t m k b (length xs) same lt h.0) ∙ h.1)

bank-agree : (t : TripleBuffer) (m k : Memory) (b : ℕ) (xs : List ℕ) → Agree (own_of t) m k → b < 3 → IsBank t m b xs → IsBank t k b xs
bank-agree t m k b xs same lt h = (h.0, (begins-agree t m k b xs same lt (let e = h.0 in omega arith, h.1)).1)

put-agree : (t : TripleBuffer) (m k : Memory) (newest : ℕ) (x : Option Taking) (o : Option Putting) → Agree (own_of t) m k → PutIn t m newest x o → PutIn t k newest x o
put-agree t m k newest x None same h = tt
put-agree t m k newest x (Some p) same h = record { below = h.below; old = h.old; free = h.free; filled = begins-agree t m k p.bank p.filled same h.below h.filled }

take-agree : (t : TripleBuffer) (m k : Memory) (o : Option Taking) → Agree (own_of t) m k → TakeIn t m o → TakeIn t k o
take-agree t m k None same h = tt
take-agree t m k (Some x) same h = record { below = h.below; kept = bank-agree t m k x.bank x.kept same h.below h.kept }

pub stands-agree : (t : TripleBuffer) (m k : Memory) (s : Banks) → Agree (own_of t) m k → Stands t m s → Stands t k s
stands-agree t m k s same h =
    record {
      below = h.below;
      control = sym (same t.control (own-control t)) ∙ h.control;
      newest = bank-agree t m k s.bank s.newest same h.below h.newest;
      put = put-agree t m k s.bank s.take s.put same h.put;
      take = take-agree t m k s.take same h.take;
    }

-- ---- what the words are

pub newest-word : (t : TripleBuffer) (m : Memory) (s : Banks) (i : ℕ) → Stands t m s → i < t.len → m (word_at t s.bank i) ≡ slice_index s.newest i
newest-word t m s i h lt = bank-word t m s.bank i s.newest lt h.newest

pub kept-word : (t : TripleBuffer) (m : Memory) (s : Banks) (x : Taking) (i : ℕ) → Stands t m s → s.take ≡ Some x → i < t.len → m (word_at t x.bank i) ≡ slice_index x.kept i
kept-word t m s x i h e lt = let held : TakeStands t m x = subst (TakeIn t m) e h.take in bank-word t m x.bank i x.kept lt held.kept
