-- Lists that are joined of parts, and where words of a job under way stand in them: which is at a place, and which place comes after.
-- From spi_sequences: services.ServeSteps, spi_sequences: words.SameWords and 3 more.
-- Used by words.FacingWords, services.FurtherBegun, services.WellEnded, words.AllKept and 11 more.
use Rattle.std.proofs.Common.{◌≡◌, ◌+◌, ◌-◌, ◌<◌, ◌≤◌, ◌&&◌, ◌||◌, ◌==◌, [], ◌∷◌, ◌++◌, ◌∙◌, if◌then◌else◌}
use Rattle.spi_laws.specs.serving.Terms
use Terms.{after_word, ap, arith, as_words, asked_word, bank_of, Bool, Channel, channel_at_place, channel_number}
use Terms.{channel_of, channels_by, channels_of, control_word, drop, enumerate_from, ExternalAgrees, false, FitsSpi}
use Terms.{flat_map, flat_map-cons, free_bank, get_or-append-add, get_or_append_left, Going, GoingAgrees, has_channel}
use Terms.{held_word, is_ahead, is_below, is_for, is_past, is_to_begin, Job, job_of, job_there, JobWord, length}
use Terms.{length-append, length-map, length-take-le, length_taken, List, list_by, list_of, map, masked, Memory, min}
use Terms.{nat_lt, nat_tests, next_job, no_word, None, not, Option, Part, part_there, PartBy, Placed, placed_by}
use Terms.{placed_of, Position, Received, refl, slice_get, slice_index_or, Some, SpiTable, subst, suc, sum_by}
use Terms.{sum_by-cons, sym, take, taker_of, true, unpacked, unpacked_back, width_by, words_before, words_of, zero, ℕ}
use Rattle.spi_sequences.specs.laws.services.RequestRight.{map_get}
use Rattle.word_shapes.specs.declared.jobs.keeping.Taker.TheVariants as takers

-- what is there of a list, with an item that isn't
pub get_index : {A : Type 0} (xs : List A) (n : ℕ) (x z : A) → slice_get xs n ≡ Some x → slice_index_or xs n z ≡ x
get_index [] n x z e = absurd (cc)
get_index (y ∷ ys) zero x z e = cc
get_index (y ∷ ys) (suc n) x z e = get_index ys n x z e

pub get_within : {A : Type 0} (xs : List A) (n : ℕ) (x : A) → slice_get xs n ≡ Some x → n < length xs
get_within [] n x e = absurd (cc)
get_within (y ∷ ys) zero x e = omega arith
get_within (y ∷ ys) (suc n) x e = let lt = get_within ys n x e in omega (arith, lt)

pub get_there : {A : Type 0} (xs : List A) (n : ℕ) → n < length xs → (x : A) × (slice_get xs n ≡ Some x)
get_there [] n lt = absurd (omega (arith, lt))
get_there (y ∷ ys) zero lt = (y, refl)
get_there (y ∷ ys) (suc n) lt = get_there ys n (omega (arith, lt))

module _ {A : Type 0} (size : A → ℕ) where
  -- how many are before a part
  abbrev pub before : List A → ℕ → ℕ
  before xs n = sum_by size (take n xs)

  pub before-next : (xs : List A) (n : ℕ) (x : A) → slice_get xs n ≡ Some x → before xs (suc n) ≡ before xs n + size x
  before-next [] n x e = absurd (cc)
  before-next (y ∷ ys) zero x e = let same : y ≡ x = cc in ap (λ z. sum_by size (z ∷ [])) same ∙ sum_by-cons size x [] ∙ omega arith
  before-next (y ∷ ys) (suc n) x e =
      let rest = before-next ys n x e in
      let more = sum_by-cons size y (take (suc n) ys) in
      let less = sum_by-cons size y (take n ys) in
      omega (arith, rest, more, less)

  pub before-less : (xs : List A) (n k : ℕ) → n ≤ k → before xs n ≤ before xs k
  before-less xs (suc n) zero le = absurd (omega (arith, le))
  before-less (y ∷ ys) (suc n) (suc k) le =
      let rest = before-less ys n k (omega (arith, le)) in
      let more = sum_by-cons size y (take k ys) in
      let less = sum_by-cons size y (take n ys) in
      omega (arith, rest, more, less)
  before-less _ _ _ le = omega arith

  pub before-all : (xs : List A) (n : ℕ) → length xs ≤ n → before xs n ≡ sum_by size xs
  before-all [] zero le = refl
  before-all [] (suc n) le = refl
  before-all (y ∷ ys) zero le = absurd (omega (arith, le))
  before-all (y ∷ ys) (suc n) le =
      let rest = before-all ys n (omega (arith, le)) in
      let more = sum_by-cons size y (take n ys) in
      let whole = sum_by-cons size y ys in
      omega (arith, rest, more, whole)

module _ {A B : Type 0} (f : A → List B) where
  -- an item of a part stands after those of the parts before it
  pub joined-at : (size : A → ℕ) → ((x : A) → length (f x) ≡ size x) → (xs : List A) (n i : ℕ) (x : A) (z : B) → slice_get xs n ≡ Some x → i < size x → slice_index_or (flat_map f xs) (before size xs n + i) z ≡ slice_index_or (f x) i z
  joined-at size same [] n i x z e lt = absurd (cc)
  joined-at size same (y ∷ ys) zero i x z e lt =
      let one : y ≡ x = cc in
      let at : before size (y ∷ ys) zero + i ≡ i = omega arith in
      ap (λ k. slice_index_or (flat_map f (y ∷ ys)) k z) at ∙ ap (λ ws. slice_index_or ws i z) (flat_map-cons f y ys) ∙ get_or_append_left (f y) (flat_map f ys) z i (let count = same y in let is : size y ≡ size x = ap size one in omega (arith, lt, count, is)) ∙ ap (λ v. slice_index_or (f v) i z) one
  joined-at size same (y ∷ ys) (suc n) i x z e lt =
      let first = sum_by-cons size y (take n ys) in
      let count = same y in
      let at : before size (y ∷ ys) (suc n) + i ≡ length (f y) + (before size ys n + i) = omega (arith, first, count) in
      ap (λ k. slice_index_or (flat_map f (y ∷ ys)) k z) at ∙ ap (λ ws. slice_index_or ws (length (f y) + (before size ys n + i)) z) (flat_map-cons f y ys)
      ∙ get_or-append-add (f y) (flat_map f ys) (before size ys n + i) z ∙ joined-at size same ys n i x z e lt

  pub joined-count : (size : A → ℕ) → ((x : A) → length (f x) ≡ size x) → (xs : List A) → length (flat_map f xs) ≡ sum_by size xs
  joined-count size same [] = refl
  joined-count size same (y ∷ ys) =
      let rest = joined-count size same ys in
      let first = sum_by-cons size y ys in
      let count = same y in
      ap length (flat_map-cons f y ys) ∙ (let both = length-append (f y) (flat_map f ys) in omega (arith, both, rest, first, count))

-- ---- lists that are numbered

pub numbered-at : {A B : Type 0} (g : ℕ × A → B) (k : ℕ) (xs : List A) (i : ℕ) (y : A) (z : B) → i < length xs → slice_index_or (map g (enumerate_from k xs)) i z ≡ g (k + i, slice_index_or xs i y)
numbered-at g k [] i y z lt = absurd (omega (arith, lt))
numbered-at g k (x ∷ xs) zero y z lt = ap (λ n. g (n, x)) (omega arith)
numbered-at g k (x ∷ xs) (suc i) y z lt = numbered-at g (k + 1) xs i y z (omega (arith, lt)) ∙ ap (λ n. g (n, slice_index_or xs i y)) (omega arith)

pub numbered-first : {A B : Type 0} (g : ℕ × A → B) (xs : List A) (i : ℕ) (y : A) (z : B) → i < length xs → slice_index_or (map g (enumerate_from 0 xs)) i z ≡ g (i, slice_index_or xs i y)
numbered-first g xs i y z lt = numbered-at g 0 xs i y z lt ∙ ap (λ n. g (n, slice_index_or xs i y)) (omega arith)

pub numbered-count : {A B : Type 0} (g : ℕ × A → B) (k : ℕ) (xs : List A) → length (map g (enumerate_from k xs)) ≡ length xs
numbered-count g k [] = refl
numbered-count g k (x ∷ xs) = ap suc (numbered-count g (k + 1) xs)

-- ---- parts of a list that grows

pub dropped-more : {A : Type 0} (n : ℕ) (xs ys : List A) → n ≤ length xs → drop n (xs ++ ys) ≡ drop n xs ++ ys
dropped-more zero xs ys le = refl
dropped-more (suc n) [] ys le = absurd (omega (arith, le))
dropped-more (suc n) (x ∷ xs) ys le = dropped-more n xs ys (omega (arith, le))

pub taken-same : {A : Type 0} (n : ℕ) (xs ys : List A) → n ≤ length xs → take n (xs ++ ys) ≡ take n xs
taken-same zero xs ys le = refl
taken-same (suc n) [] ys le = absurd (omega (arith, le))
taken-same (suc n) (x ∷ xs) ys le = ap (λ zs. x ∷ zs) (taken-same n xs ys (omega (arith, le)))

pub taken-all : {A : Type 0} (n : ℕ) (xs : List A) → length xs ≤ n → take n xs ≡ xs
taken-all zero (x ∷ xs) le = absurd (omega (arith, le))
taken-all (suc n) (x ∷ xs) le = ap (λ zs. x ∷ zs) (taken-all n xs (omega (arith, le)))
taken-all _ _ le = refl

pub dropped-count : {A : Type 0} (n : ℕ) (xs : List A) → length (drop n xs) ≡ length xs - n
dropped-count (suc n) (x ∷ xs) = let rest = dropped-count n xs in omega (arith, rest)
dropped-count _ _ = omega arith

-- ---- places of a job's parts

-- ---- the parts of a job under way

module _ (d : SpiTable) (fits : FitsSpi d) (u : ℕ) (m : Memory) (g : Going) (for : is_for d u g.pending ≡ true) (h : GoingAgrees d m u g) where
  abbrev job : ℕ
  job = next_job d g.pending

  abbrev size : Part → ℕ
  size x = length x.values

  known : (k : Job) × (job_of d job ≡ Some k)
  known = job_there d u g.pending for

  pub list_channels : take (list_of d job).count (list_of d job).numbers ≡ channels_of d job
  list_channels = ap (λ o. take (list_by o).count (list_by o).numbers) known.1 ∙ sym (ap channels_by known.1)

  -- the number at a place of the job is that of the part there
  pub number_there : (n : ℕ) (x : Part) → slice_get g.parts n ≡ Some x → channel_number (list_of d job) n ≡ Some x.channel
  number_there n x e = ap (λ xs. slice_get xs n) (list_channels ∙ sym h.channels) ∙ map_get (λ y. y.channel) g.parts n x e

  pub channel_there : (n : ℕ) (x : Part) → slice_get g.parts n ≡ Some x → channel_at_place d job n ≡ placed_of d x.channel
  channel_there n x e = ap (placed_by d) (number_there n x e)

  pub parts_count : length g.parts ≡ (list_of d job).count
  parts_count =
      let row : length known.0.channels.numbers ≡ 4 = (fits.jobs job known.0 known.1).row in
      let few : known.0.channels.count ≤ 4 = (fits.jobs job known.0 known.1).few in
      sym (length-map g.parts (λ y. y.channel)) ∙ ap length h.channels ∙ ap (λ o. length (channels_by o)) known.1 ∙ length-take-le known.0.channels.count known.0.channels.numbers (omega (arith, row, few)) ∙ sym (ap (λ o. (list_by o).count) known.1)

  pub parts_few : length g.parts ≤ 4
  parts_few = let few = (fits.jobs job known.0 known.1).few in let count = parts_count in let same : (list_of d job).count ≡ known.0.channels.count = ap (λ o. (list_by o).count) known.1 in omega (arith, few, count, same)

  -- its channel is configured
  pub part_known : (n : ℕ) (x : Part) → slice_get g.parts n ≡ Some x → (k : Channel) × (channel_of d x.channel ≡ Some k)
  part_known n x e = let p = part_there d fits u g n x for h.channels e in (p.1, p.2)

  -- it has no more words than the channel has places
  pub part_few : (n : ℕ) (x : Part) → slice_get g.parts n ≡ Some x → length x.values ≤ (placed_of d x.channel).channel.length
  part_few n x e = by (placed_of d x.channel).channel.internal (h.parts n x e).1
    where
      by : (q : Bool) → PartBy q m (placed_of d x.channel) g.at n x → length x.values ≤ (placed_of d x.channel).channel.length
      by true a = let count = a.count in omega (arith, count)
      by false a = let count = a.count in let few = a.few in omega (arith, count, few)

  pub part_most : (n : ℕ) (x : Part) → slice_get g.parts n ≡ Some x → length x.values ≤ 64
  part_most n x e =
      let k = part_known n x e in
      let few = part_few n x e in
      let same : (placed_of d x.channel).channel.length ≡ k.0.length = ap (λ z. z.length) (has_channel d fits x.channel k.0 k.1) in
      let most = (fits.channels x.channel k.0 k.1).few in
      omega (arith, few, same, most)

  -- ---- its words

  abbrev pub word_at : Part → ℕ → JobWord
  word_at x i = record { channel = x.channel; place = i; width = width_by (channel_of d x.channel); sent = masked (width_by (channel_of d x.channel)) (slice_index_or x.values i 0); goes = x.goes }

  abbrev joined : Part → List JobWord
  joined x = as_words x.channel (width_by (channel_of d x.channel)) x.goes x.values

  counted : (x : Part) → length (joined x) ≡ length x.values
  counted x = numbered-count (λ p. record { channel = x.channel; place = p.0; width = width_by (channel_of d x.channel); sent = masked (width_by (channel_of d x.channel)) p.1; goes = x.goes }) 0 x.values

  pub words_at : (n i : ℕ) (x : Part) → slice_get g.parts n ≡ Some x → i < length x.values → slice_index_or (words_of d g.parts) (words_before g.parts n + i) no_word ≡ word_at x i
  words_at n i x e lt = joined-at joined size counted g.parts n i x no_word e lt ∙ numbered-first (λ p. record { channel = x.channel; place = p.0; width = width_by (channel_of d x.channel); sent = masked (width_by (channel_of d x.channel)) p.1; goes = x.goes }) x.values i 0 no_word lt

  pub words_count : length (words_of d g.parts) ≡ sum_by size g.parts
  words_count = joined-count joined size counted g.parts

  -- ---- places

  -- the word of this number stands there
  pub record Stands (p : Position) (k : ℕ) : Type 0 where
    pub part : Part
    pub there : slice_get g.parts p.channel ≡ Some part
    pub inside : p.word < length part.values
    pub count : k ≡ words_before g.parts p.channel + p.word

  pub here : Stands g.at (length g.received)
  here =
      let (x, e) = get_there g.parts g.at.channel h.place in
      record { part = x; there = e; inside = h.inside x e; count = h.count }

  -- the next one stands after it in its part, or first in the next one
  pub data Follows (p q : Position) (size : ℕ) : Type 0 where
    Same : q.channel ≡ p.channel → q.word ≡ p.word + 1 → Follows p q size
    Next : q.channel ≡ p.channel + 1 → q.word ≡ 0 → p.word + 1 ≡ size → Follows p q size

  begins_same : (a b i j n : ℕ) → b ≡ a → j ≡ i + 1 → j < n → (nat_lt a b || (b == a && nat_lt (i + 1) n)) ≡ true
  begins_same a b i j n e f lt = grind (arith, nat_tests)

  begins_other : (a b i n : ℕ) → b ≡ a + 1 → (nat_lt a b || (b == a && nat_lt (i + 1) n)) ≡ true
  begins_other a b i n e = grind (arith, nat_tests)

  ahead_same : (a b i j : ℕ) → b ≡ a → j ≡ i + 1 → (nat_lt a b || (b == a && nat_lt i j)) ≡ true
  ahead_same a b i j e f = grind (arith, nat_tests)

  ahead_other : (a b i j : ℕ) → b ≡ a + 1 → (nat_lt a b || (b == a && nat_lt i j)) ≡ true
  ahead_other a b i j e = grind (arith, nat_tests)

  -- it is still to be begun, and what it sends is still as it stood
  pub begins_next : (p q : Position) (size n : ℕ) → Follows p q size → q.word < n → is_to_begin p q.channel n ≡ true
  begins_next p q size n (Same e f) lt = begins_same p.channel q.channel p.word q.word n e f lt
  begins_next p q size n (Next e f g) lt = begins_other p.channel q.channel p.word n e

  pub ahead_next : (p q : Position) (size : ℕ) → Follows p q size → is_ahead p q.channel q.word ≡ true
  ahead_next p q size (Same e f) = ahead_same p.channel q.channel p.word q.word e f
  ahead_next p q size (Next e f g) = ahead_other p.channel q.channel p.word q.word e

  module _ (p : Position) (k : ℕ) (at : Stands p k) where
    most : length at.part.values ≤ 64
    most = part_most p.channel at.part at.there

    within : p.channel < length g.parts
    within = get_within g.parts p.channel at.part at.there

    first : (x : Part) → slice_get g.parts (p.channel + 1) ≡ Some x → 0 < length x.values
    first x e = (h.parts (p.channel + 1) x e).0

    further : words_before g.parts (p.channel + 1) ≡ words_before g.parts p.channel + length at.part.values
    further = let next : p.channel + 1 ≡ suc p.channel = omega arith in ap (words_before g.parts) next ∙ before-next size g.parts p.channel at.part at.there

    -- it is one of the job's words
    pub in_words : k < length (words_of d g.parts)
    in_words =
        let count = at.count in
        let inside = at.inside in
        let next = further in
        let less = before-less size g.parts (p.channel + 1) (length g.parts) (omega (arith, within)) in
        let all = before-all size g.parts (length g.parts) (omega arith) in
        let whole = words_count in
        omega (arith, count, inside, next, less, all, whole)

    abbrev Onward : Option Position → Type 0
    Onward None = k + 1 ≡ length (words_of d g.parts)
    Onward (Some q) = Stands q (k + 1) × Follows p q (length at.part.values)

    abbrev By : Bool → Bool → Bool → Bool → Type 0
    By a b c e = Onward (if a && b then Some (record { channel = p.channel; word = p.word + 1 }) else if c && e then Some (record { channel = p.channel + 1; word = 0 }) else None)

    pub onward : Onward (after_word p (length at.part.values) (list_of d job).count)
    onward = subst (λ n. Onward (after_word p (length at.part.values) n)) parts_count (onward_by_place (nat_lt p.word 255) refl (nat_lt (p.word + 1) (length at.part.values)) refl (nat_lt p.channel 3) refl (nat_lt (p.channel + 1) (length g.parts)) refl)
      where
        last : nat_lt (p.word + 1) (length at.part.values) ≡ false → p.word + 1 ≡ length at.part.values
        last f = let past = is_past (p.word + 1) (length at.part.values) f in let lt = at.inside in omega (arith, past, lt)

        ends : p.word + 1 ≡ length at.part.values → length g.parts ≤ p.channel + 1 → k + 1 ≡ length (words_of d g.parts)
        ends same le =
            let all : words_before g.parts (p.channel + 1) ≡ sum_by size g.parts = before-all size g.parts (p.channel + 1) le in
            let count = at.count in
            let more = further in
            let whole = words_count in
            omega (arith, same, all, count, more, whole)

        begins : p.word + 1 ≡ length at.part.values → p.channel + 1 < length g.parts → Onward (Some (record { channel = p.channel + 1; word = 0 }))
        begins same lt =
            let (x, e) = get_there g.parts (p.channel + 1) lt in
            let count = at.count in let more = further in (record { part = x; there = e; inside = first x e; count = omega (arith, same, count, more) }, Next refl refl same)

        onward_by_place : (a : Bool) → nat_lt p.word 255 ≡ a → (b : Bool) → nat_lt (p.word + 1) (length at.part.values) ≡ b → (c : Bool) → nat_lt p.channel 3 ≡ c → (e : Bool) → nat_lt (p.channel + 1) (length g.parts) ≡ e
            → Onward (after_word p (length at.part.values) (length g.parts))
        onward_by_place a ea b eb c ec e ee = subst (λ z. By z (nat_lt (p.word + 1) (length at.part.values)) (nat_lt p.channel 3) (nat_lt (p.channel + 1) (length g.parts))) (sym ea) (subst (λ z. By a z (nat_lt p.channel 3) (nat_lt (p.channel + 1) (length g.parts))) (sym eb) (subst (λ z. By a b z (nat_lt (p.channel + 1) (length g.parts))) (sym ec) (subst (λ z. By a b c z) (sym ee) (split a ea b eb c ec e ee))))
          where
            split : (a : Bool) → nat_lt p.word 255 ≡ a → (b : Bool) → nat_lt (p.word + 1) (length at.part.values) ≡ b → (c : Bool) → nat_lt p.channel 3 ≡ c → (e : Bool) → nat_lt (p.channel + 1) (length g.parts) ≡ e → By a b c e
            split true ea true eb c ec e ee = let count = at.count in let lt = is_below (p.word + 1) (length at.part.values) eb in (record { part = at.part; there = at.there; inside = lt; count = omega (arith, count) }, Same refl refl)
            split false ea b eb c ec e ee = absurd (let past = is_past p.word 255 ea in let lt = at.inside in let few = most in omega (arith, past, lt, few))
            split true ea false eb true ec true ee = begins (last eb) (is_below (p.channel + 1) (length g.parts) ee)
            split true ea false eb true ec false ee = ends (last eb) (is_past (p.channel + 1) (length g.parts) ee)
            split true ea false eb false ec e ee = ends (last eb) (let past = is_past p.channel 3 ec in let few = parts_few in omega (arith, past, few))

  -- ---- how many words a channel has for the job

  of_internal : (x : Placed) (i v : ℕ) → x.channel.internal ≡ true → length_taken x (taker_of x i v) ≡ x.channel.length
  of_internal x i v e = ap (λ q. length_taken x (if not q then takers.SetUp (unpacked v) else if i == 0 then takers.Bank (free_bank v) else takers.Bank (bank_of v))) e ∙ by (i == 0)
    where
      by : (q : Bool) → length_taken x (if q then takers.Bank (free_bank v) else takers.Bank (bank_of v)) ≡ x.channel.length
      by true = refl
      by false = refl

  of_external : (x : Placed) (i v : ℕ) → x.channel.internal ≡ false → length_taken x (taker_of x i v) ≡ min (unpacked v).length x.channel.length
  of_external x i v e = ap (λ q. length_taken x (if not q then takers.SetUp (unpacked v) else if i == 0 then takers.Bank (free_bank v) else takers.Bank (bank_of v))) e

  asked_external : (x : Placed) (i : ℕ) → x.channel.internal ≡ false → asked_word x i ≡ held_word x
  asked_external x i e = ap (λ q. if q && i == 0 then control_word x Received else held_word x) e

  -- the set-up that is held of an external part
  pub held_back : (n : ℕ) (x : Part) → slice_get g.parts n ≡ Some x → (a : ExternalAgrees m (placed_of d x.channel) g.at n x) → unpacked (m (held_word (placed_of d x.channel))) ≡ a.by
  held_back n x e a = ap unpacked a.held ∙ unpacked_back a.by (let most = part_most n x e in let count = a.count in omega (arith, most, count))

  pub taken_length : (n : ℕ) (x : Part) → slice_get g.parts n ≡ Some x → (i : ℕ) → let y = placed_of d x.channel in length_taken y (taker_of y i (m (asked_word y i))) ≡ length x.values
  taken_length n x e i = length_by_kind y.channel.internal refl (h.parts n x e).1
    where
      y : Placed
      y = placed_of d x.channel

      least : (a b : ℕ) → a ≤ b → min a b ≡ a
      least a b le = omega (arith, le)

      length_by_kind : (q : Bool) → y.channel.internal ≡ q → PartBy q m y g.at n x → length_taken y (taker_of y i (m (asked_word y i))) ≡ length x.values
      length_by_kind true f a = of_internal y i (m (asked_word y i)) f ∙ sym a.count
      length_by_kind false f a =
          of_external y i (m (asked_word y i)) f ∙ ap (λ j. min (unpacked (m j)).length y.channel.length) (asked_external y i f) ∙ ap (λ z. min z.length y.channel.length) (held_back n x e a)
          ∙ least a.by.length y.channel.length a.few ∙ sym a.count
