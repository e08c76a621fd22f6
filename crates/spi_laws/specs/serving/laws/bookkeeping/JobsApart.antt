-- A channel is in one job under way, once: its pin and its put are that job's.
-- From spi_sequences: words.SameWords, spi_sequences: services.RequestRight, spi_sequences: words.JobPlaces and 1 more.
-- Used by services.WellEnded, sending.services.SendFurther, services.FurtherBegun, services.JobLeft and 10 more.
use Rattle.std.proofs.Common.{◌≡◌, ◌<◌, ◌==◌, ◌∙◌}
use Rattle.spi_laws.specs.serving.Terms
use Terms.{any_in, ap, arith, channels_of, Chip, Contains, contains_map, false, FitsSpi, Going, going_next, GoingAgrees}
use Terms.{held_word, is_for, is_number, is_off, is_on_unit, is_to_begin, job_there, Keeps, KeepsNone, length, next_job}
use Terms.{None, Option, Part, Pins, PinsNone, placed_of, PutRight, Putting, received_of, refl, Reservations, RunAgrees}
use Terms.{same_number, slice_get, Some, some_is, SpiRepresents, SpiState, SpiTable, subst, sym, taken_of, TakeRight}
use Terms.{Taking, true, uses_channel, word_of, World, ℕ}
use Rattle.spi_sequences.specs.laws.services.RequestRight.{map_get}

module _ (d : SpiTable) (fits : FitsSpi d) (below : Reservations) (chip : Chip) (w : World) (s : SpiState) (h : SpiRepresents d below chip w s) (on : is_off s.mode ≡ false) where
  pub agrees_at : (u : ℕ) (g : Going) → u < 2 → h.going u ≡ Some g → GoingAgrees d (word_of chip) u g
  agrees_at u g lt e = subst (λ o. RunAgrees d (word_of chip) u o) e ((h.words.on on).runs u lt)

  pub for_at : (u : ℕ) (g : Going) → u < 2 → h.going u ≡ Some g → is_for d u g.pending ≡ true
  for_at u g lt e = (going_next d fits below chip w s h u g lt e).2

  -- the job uses the channels of its parts
  uses : (u : ℕ) (g : Going) → u < 2 → h.going u ≡ Some g → (n : ℕ) (x : Part) → slice_get g.parts n ≡ Some x → uses_channel d x.channel (next_job d g.pending) ≡ true
  uses u g lt e n x there = any_in (λ k. k == x.channel) (channels_of d (next_job d g.pending)) x.channel (subst (λ cs. Contains cs x.channel) (agrees_at u g lt e).channels (contains_map (λ y. y.channel) g.parts n x there)) (same_number x.channel)

  -- no channel is in jobs of two units
  pub one_job : (u v : ℕ) (g k : Going) → u < 2 → v < 2 → h.going u ≡ Some g → h.going v ≡ Some k → (i j : ℕ) (x y : Part) → slice_get g.parts i ≡ Some x → slice_get k.parts j ≡ Some y → y.channel ≡ x.channel → v ≡ u
  one_job u v g k lt less e f i j x y at bt same =
      let (a, ea) = job_there d u g.pending (for_at u g lt e) in
      let (b, eb) = job_there d v k.pending (for_at v k less f) in
      let one = fits.shared x.channel (next_job d g.pending) (next_job d k.pending) a b (uses u g lt e i x at) other ea eb in
      sym (is_number b.unit v (sym (ap (is_on_unit v) eb) ∙ for_at v k less f)) ∙ sym one ∙ is_number a.unit u (sym (ap (is_on_unit u) ea) ∙ for_at u g lt e)
    where
      other : uses_channel d x.channel (next_job d k.pending) ≡ true
      other = subst (λ c. uses_channel d c (next_job d k.pending) ≡ true) same (uses v k less f j y bt)

  -- nor in one job twice
  pub one_part : (u : ℕ) (g : Going) → u < 2 → h.going u ≡ Some g → (i j : ℕ) (x y : Part) → slice_get g.parts i ≡ Some x → slice_get g.parts j ≡ Some y → y.channel ≡ x.channel → j ≡ i
  one_part u g lt e i j x y at bt same =
      let (a, ea) = job_there d u g.pending (for_at u g lt e) in
      (fits.jobs (next_job d g.pending) a ea).once j i x.channel (number j y bt ∙ ap (λ c. Some c) same) (number i x at)
    where
      number : (n : ℕ) (z : Part) → slice_get g.parts n ≡ Some z → slice_get (channels_of d (next_job d g.pending)) n ≡ Some z.channel
      number n z there = ap (λ xs. slice_get xs n) (sym (agrees_at u g lt e).channels) ∙ map_get (λ y. y.channel) g.parts n z there

  -- ---- the job under way of a unit

  module _ (u : ℕ) (g : Going) (lt : u < 2) (e : h.going u ≡ Some g) (i : ℕ) (x : Part) (at : slice_get g.parts i ≡ Some x) where
    -- a part of its channel, of whatever job, is this one
    pub record IsSame (v : ℕ) (k : Going) (j : ℕ) (y : Part) : Type 0 where
      pub unit : v ≡ u
      pub job : k ≡ g
      pub place : j ≡ i
      pub part : y ≡ x

    pub is_same : (v : ℕ) (k : Going) (j : ℕ) (y : Part) → v < 2 → h.going v ≡ Some k → slice_get k.parts j ≡ Some y → y.channel ≡ x.channel → IsSame v k j y
    is_same v k j y less f bt same =
        let unit = one_job u v g k lt less e f i j x y at bt same in
        let job : k ≡ g = some_is k g (sym f ∙ ap h.going unit ∙ e) in
        let there : slice_get g.parts j ≡ Some y = ap (λ z. slice_get z.parts j) (sym job) ∙ bt in
        let place = one_part u g lt e i j x y at there same in
        record { unit = unit; job = job; place = place; part = some_is y x (sym there ∙ ap (slice_get g.parts) place ∙ at) }

    -- what the unit sends is pinned while words of the channel are to be begun, and else not
    pub is_pinned : is_to_begin g.at i (length x.values) ≡ true → (o : Option Taking) → TakeRight h.going x.channel o → (t : Taking) × (o ≡ Some t) × (t.kept ≡ x.values)
    is_pinned begins None h1 = absurd (let none = subst (λ z. PinsNone z x.channel) e (h1 u lt) i x (at, refl) in let f = sym begins ∙ none in cc)
    is_pinned begins (Some t) (v, less, pins) = by (h.going v) refl pins
      where
        by : (z : Option Going) → h.going v ≡ z → Pins z x.channel t.kept → (r : Taking) × (Some t ≡ Some r) × (r.kept ≡ x.values)
        by None f p = absurd p
        by (Some k) f (j, y, part, more, kept) = (t, refl, kept ∙ ap (λ z. z.values) (is_same v k j y less f part.0 part.1).part)

    -- what came in of it is kept once a word was taken, in the bank that is held
    pub is_kept : 0 < taken_of g.at i (length x.values) → (o : Option Putting) → PutRight h.going (word_of chip) (placed_of d x.channel) None o → (p : Putting) × (o ≡ Some p) × (p.filled ≡ received_of g i x) × (word_of chip (held_word (placed_of d x.channel)) ≡ p.bank)
    is_kept some None h1 = absurd (let none = subst (λ z. KeepsNone z x.channel) e (h1 u lt) i x (at, refl) in omega (arith, some, none))
    is_kept some (Some p) (v, less, keeps, held) = bank_kept (h.going v) refl keeps
      where
        bank_kept : (z : Option Going) → h.going v ≡ z → Keeps z x.channel p.filled → (r : Putting) × (Some p ≡ Some r) × (r.filled ≡ received_of g i x) × (word_of chip (held_word (placed_of d x.channel)) ≡ r.bank)
        bank_kept None f k = absurd k
        bank_kept (Some k) f (j, y, part, more, filled) =
            let one = is_same v k j y less f part.0 part.1 in
            (p, refl, filled ∙ ap (λ z. received_of z j y) one.job ∙ ap (λ n. received_of g n y) one.place ∙ ap (received_of g i) one.part, held)
