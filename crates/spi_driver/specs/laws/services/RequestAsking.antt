-- A request up to its act: it looks at every sequence, and acts where one is in the way, or where none is.
-- From spi_sequences: words.JobPlaces, services.UnitFrames, spi_sequences: services.UnitSteps and 5 more.
-- Used by services.UnitRight.
use Rattle.std.proofs.Common.{◌≡◌, ◌+◌, ◌<◌, ◌==◌, ◌&&◌, ◌||◌, ◌∷◌, ◌∙◌, if◌then◌else◌}
use Rattle.spi_driver.specs.Terms
use Terms.{accepted, accepted_owes, acts, acts_by, after_request, all_of, all_pending, and_parts, answers, any_in}
use Terms.{any_some, ap, arith, AsyncTransmit, BodyTaken, Bool, Call, Called, Chip, chip_after, CommitsTo, Contains}
use Terms.{Contains-get_or, debt_of, ENotOk, EOk, error_by, error_told, false, FitsSpi, fresh_history, get_or_default}
use Terms.{has_job, held_by, is_below, is_held, is_number, is_off, is_past, is_pending, is_some, is_sync_sequence}
use Terms.{is_sync_unit, is_wrong_sequence, JobList, jobs_list, jobs_of, last_below, length, List, listed, Load, Move}
use Terms.{named, nat_lt, None, none_any, not, not_true, Option, owing, PENDING, Pending, pending_alone, place_found}
use Terms.{place_in, place_missing, refl, request_looked, Reservations, same_number, Sequence, sequence_of}
use Terms.{sequence_word, shares, shares_before, shares_job, shares_unit, slice_index_or, Some, spi_basis}
use Terms.{spi_machine, spi_owing, SpiParamSeq, SpiRepresents, SpiSeqPending, SpiState, SpiTable, Store, subst, suc}
use Terms.{sym, tells_error, Transmit, true, UnitBody, Units, view, whether, Works, World, zero, ℕ}
use Rattle.spi_machine.specs.Pending.{is_of}
use Rattle.spi_driver.specs.laws.services.UnitFrames.{Frame, IsRequest, NoneHeld, at, unit_bodies}
use Rattle.spi_machine.specs.declared.call.Call.TheVariants as calls
use Rattle.spi_sequences.specs.declared.service.request.RequestPlace.TheVariants as request
use Rattle.spi_sequences.specs.declared.service.request.Requested.TheVariants as requested
use Rattle.spi_sequences.specs.declared.service.unit.UnitPlace.TheVariants as place
use Rattle.mcal_base.specs.facts.Numbers.{lt_is}

-- ---- two sequences have a job in common, as the frame finds it

has_of : (d : SpiTable) → FitsSpi d → (q j : ℕ) → is_some (place_in (jobs_list d q) j) ≡ has_job d q j
has_of d fits q j = found_has (place_in (jobs_list d q) j) refl
  where
    found_has : (o : Option ℕ) → place_in (jobs_list d q) j ≡ o → is_some o ≡ has_job d q j
    found_has (Some i) e = let f = place_found d fits q j i e in sym (any_in (λ k. k == j) (jobs_of d q) (slice_index_or (jobs_of d q) i 0) (Contains-get_or (jobs_of d q) i 0 f.0) (ap (λ k. k == j) f.1 ∙ same_number j))
    found_has None e = sym (not_true (has_job d q j) (λ f. none (any_some (λ k. k == j) (jobs_of d q) f)))
      where
        none : (k : ℕ) × Contains (jobs_of d q) k × ((k == j) ≡ true) → ⊥
        none (k, (i, lt, own), is) = place_missing d fits q j i e lt (sym (get_or_default (jobs_of d q) i k 0 lt) ∙ own ∙ is_number k j is)

shares_some : (l : JobList) (xs : List ℕ) (n : ℕ) → shares_before l xs n ≡ true → (i : ℕ) × (i < n) × (is_some (place_in l (slice_index_or xs i 0)) ≡ true)
shares_some l xs zero e = absurd (cc)
shares_some l xs (suc n) e = by (is_some (place_in l (slice_index_or xs n 0))) refl e (λ g. shares_some l xs n g)
  where
    by : (q : Bool) → is_some (place_in l (slice_index_or xs n 0)) ≡ q → q || shares_before l xs n ≡ true → (shares_before l xs n ≡ true → (i : ℕ) × (i < n) × (is_some (place_in l (slice_index_or xs i 0)) ≡ true)) → (i : ℕ) × (i < suc n) × (is_some (place_in l (slice_index_or xs i 0)) ≡ true)
    by true f g rest = (n, omega arith, f)
    by false f g rest = let r = rest g in (r.0, (let lt = r.1 in omega (arith, lt)), r.2)

shares_none : (l : JobList) (xs : List ℕ) (n i : ℕ) → shares_before l xs n ≡ false → i < n → is_some (place_in l (slice_index_or xs i 0)) ≡ false
shares_none l xs zero i e lt = absurd (omega (arith, lt))
shares_none l xs (suc n) i e lt = none_so_far (is_some (place_in l (slice_index_or xs n 0))) refl e (λ g less. shares_none l xs n i g less)
  where
    none_so_far : (q : Bool) → is_some (place_in l (slice_index_or xs n 0)) ≡ q → q || shares_before l xs n ≡ false → (shares_before l xs n ≡ false → i < n → is_some (place_in l (slice_index_or xs i 0)) ≡ false) → is_some (place_in l (slice_index_or xs i 0)) ≡ false
    none_so_far true f g rest = absurd (cc)
    none_so_far false f g rest = whether (nat_lt i n)
        (λ h. rest g (lt_is i n h))
        (λ h. subst (λ k. is_some (place_in l (slice_index_or xs k 0)) ≡ false) (sym (last_below i n (omega (arith, lt)) h)) f)

pub shares_of : (d : SpiTable) → FitsSpi d → (q other : ℕ) → shares d q other ≡ shares_job d q other
shares_of d fits q other = same_answer (shares d q other) refl
  where
    xs : List ℕ
    xs = (jobs_list d other).numbers

    same_answer : (b : Bool) → shares d q other ≡ b → b ≡ shares_job d q other
    same_answer true e =
        let r = shares_some (jobs_list d q) xs (jobs_list d other).count e in
        let l = listed d fits other in
        let lt : r.0 < length (jobs_of d other) = subst (λ n. r.0 < n) (sym l.count) r.1 in
        sym (any_in (has_job d q) (jobs_of d other) (slice_index_or (jobs_of d other) r.0 0) (Contains-get_or (jobs_of d other) r.0 0 lt) (ap (has_job d q) (l.at r.0 r.1) ∙ sym (has_of d fits q (slice_index_or xs r.0 0)) ∙ r.2))
    same_answer false e = sym (not_true (shares_job d q other) (λ f.
        let (j, (i, lt, own), is) = any_some (has_job d q) (jobs_of d other) f in
        let l = listed d fits other in
        let less : i < (jobs_list d other).count = subst (λ n. i < n) l.count lt in
        let job : slice_index_or xs i 0 ≡ j = sym (l.at i less) ∙ sym (get_or_default (jobs_of d other) i j 0 lt) ∙ own in
        let f = sym (shares_none (jobs_list d q) xs (jobs_list d other).count i e less) ∙ has_of d fits q (slice_index_or xs i 0) ∙ ap (has_job d q) job ∙ is in cc))

-- ---- what is in the way

-- a pending sequence that is found there is in the way
held_there : (d : SpiTable) (q k : ℕ) (ps : List Pending) → is_pending k ps ≡ true → k == q || shares_job d q k ≡ true → is_held d q ps ≡ true
held_there d q k ps e f =
    let (p, there, is) = any_some (is_of k) ps e in
    any_in (λ p. is_of q p || shares_job d q p.sequence) ps p there (ap (λ n. (n == q) || shares_job d q n) (is_number p.sequence k is) ∙ f)

-- with none of eight in the way no pending sequence is, where their numbers are below eight
none_there : (d : SpiTable) (q : ℕ) (ps : List Pending) → ((p : Pending) → Contains ps p → p.sequence < 8) → NoneHeld d q ps 8 → is_held d q ps ≡ false
none_there d q ps few none = none_any (λ p. is_of q p || shares_job d q p.sequence) ps (λ p there. by p there (none p.sequence (few p there)) (any_in (is_of p.sequence) ps p there (same_number p.sequence)))
  where
    by : (p : Pending) → Contains ps p → is_pending p.sequence ps && (p.sequence == q || shares_job d q p.sequence) ≡ false → is_pending p.sequence ps ≡ true → is_of q p || shares_job d q p.sequence ≡ false
    by p there e f = ap (λ b. b && (p.sequence == q || shares_job d q p.sequence)) (sym f) ∙ e

-- ---- the steps

-- a sequence that is in the way of one whose unit starts jobs of pending ones is under way where it is pending
pub pending_beside : (d : SpiTable) (fits : FitsSpi d) (below : Reservations) (chip : Chip) (w : World) (s : SpiState) (h : SpiRepresents d below chip w s) (q k : ℕ) → is_sync_sequence d q ≡ false
    → (is_pending k (all_of (view s)) && (k == q || shares d q k)) ≡ (is_pending k s.pending && (k == q || shares d q k))
pending_beside d fits below chip w s h q k async = pending_same (is_sync_sequence d k) refl
  where
    off : (z : Bool) → (z && false) ≡ false
    off true = refl
    off false = refl

    not_it : is_sync_sequence d k ≡ true → (k == q) ≡ false
    not_it sync = not_true (k == q) (λ e. let f = sym sync ∙ ap (is_sync_sequence d) (is_number k q e) ∙ async in cc)

    not_shared : is_sync_sequence d k ≡ true → shares d q k ≡ false
    not_shared sync = not_true (shares d q k) (λ e. let unit = shares_unit d fits q k (sym (shares_of d fits q k) ∙ e) in let f = sym async ∙ ap (is_sync_unit d) unit ∙ sync in cc)

    pending_same : (b : Bool) → is_sync_sequence d k ≡ b → (is_pending k (all_of (view s)) && (k == q || shares d q k)) ≡ (is_pending k s.pending && (k == q || shares d q k))
    pending_same false e = ap (λ z. z && (k == q || shares d q k)) (pending_alone d fits below chip w s h k e)
    pending_same true e =
        let none : (k == q || shares d q k) ≡ false = ap (λ z. z || shares d q k) (not_it e) ∙ not_shared e in
        ap (λ z. is_pending k (all_of (view s)) && z) none ∙ off (is_pending k (all_of (view s))) ∙ sym (off (is_pending k s.pending)) ∙ ap (λ z. is_pending k s.pending && z) (sym none)

module _ (d : SpiTable) (fits : FitsSpi d) (below : Reservations) (chip : Chip) (w : World) (s : SpiState) (h : SpiRepresents d below chip w s) (q u : ℕ) (i : IsRequest d s q u) (frame : Frame d d (Transmit q) u (Called (calls.Sequence q AsyncTransmit))) (y : ℕ) (m : ℕ → Bool) where
  abbrev asks : Call
  asks = calls.Sequence q AsyncTransmit

  abbrev pub RequestMakes : Move → Chip → (clean : Bool) → ℕ → UnitBody × BodyTaken → Type 0
  RequestMakes made after clean value t = Works (spi_basis d) (unit_bodies d) below chip after w s (Called asks) made clean value y fresh_history m t.0 t.1.event t.1.done

  -- the error of a pending sequence is the one that is found
  held_error : is_held d q s.pending ≡ true → error_by d asks (is_off s.mode) (is_held d q s.pending) ≡ Some SpiSeqPending
  held_error e = ap (λ off. error_by d asks off (is_held d q s.pending)) i.on ∙ ap (λ held. error_by d asks false held) e ∙ known (is_wrong_sequence d q AsyncTransmit) (subst (λ off. error_by d asks off false ≡ None) i.on i.clear)
    where
      known : (wrong : Bool) → (if wrong then Some SpiParamSeq else None) ≡ None → (if wrong then Some SpiParamSeq else Some SpiSeqPending) ≡ Some SpiSeqPending
      known true e = absurd (cc)
      known false e = refl

  clear_error : is_held d q s.pending ≡ false → error_by d asks (is_off s.mode) (is_held d q s.pending) ≡ None
  clear_error e = ap (λ held. error_by d asks (is_off s.mode) held) e ∙ i.clear

  -- a pending sequence is in the way
  refuses : (k n value : ℕ) → is_held d q s.pending ≡ true → RequestMakes (Load n) chip true value (at d (Transmit q) u (place.Request (request.Look k)), held_by d)
  refuses k n value held =
      let told = error_told (spi_machine d) asks (named ENotOk) SpiSeqPending in
      record {
        may = refl;
        stands = tt;
        state = s;
        told = tells_error (named ENotOk) SpiSeqPending;
        begins = None;
        is = ap (λ e. Some (acts_by d s asks e)) (held_error held);
        sends = tt;
        acts = (refl, refl);
        reset = refl;
        next = (h, record { may = (refl, refl); served = false; owed = ap (λ ns. owing false ns) told.1; shown = λ e. absurd (cc); report = told.2 });
      }

  -- it looks at the sequences one after another
  pub looks : (k value : ℕ) → k < 8 → NoneHeld d q s.pending k → (in_the_way : Bool) → is_pending k s.pending && (k == q || shares d q k) ≡ in_the_way → RequestMakes (Load (sequence_word k)) chip true value (after_request (at d (Transmit q) u (place.Request (request.Look k))) (request_looked k in_the_way))
  looks k value lt none true e = refuses k (sequence_word k) value (held_there d q k s.pending (parts.0) (ap (λ z. k == q || z) (sym (shares_of d fits q k)) ∙ parts.1))
    where
      parts : (is_pending k s.pending ≡ true) × (k == q || shares d q k ≡ true)
      parts = and_parts (is_pending k s.pending) (k == q || shares d q k) e
  looks k value lt none false e = by (nat_lt k 7) refl
    where
      now : is_pending k s.pending && (k == q || shares_job d q k) ≡ false
      now = ap (λ z. is_pending k s.pending && (k == q || z)) (sym (shares_of d fits q k)) ∙ e

      upto : NoneHeld d q s.pending (k + 1)
      upto n less = whether (nat_lt n k)
          (λ f. none n (is_below n k f))
          (λ f. ap (λ z. is_pending z s.pending && (z == q || shares_job d q z)) (last_below n k less f) ∙ now)

      by : (b : Bool) → nat_lt k 7 ≡ b → RequestMakes (Load (sequence_word k)) chip true value (after_request (at d (Transmit q) u (place.Request (request.Look k))) (request_looked k false))
      by true f = subst (λ z. RequestMakes (Load (sequence_word k)) chip true value (after_request (at d (Transmit q) u (place.Request (request.Look k))) (if z then request.Look (k + 1) else request.Accept, requested.Goes None))) (sym f) (h, (frame, (i, refl, (let less = is_below k 7 f in omega (arith, less)), upto)))
      by false f = subst (λ z. RequestMakes (Load (sequence_word k)) chip true value (after_request (at d (Transmit q) u (place.Request (request.Look k))) (if z then request.Look (k + 1) else request.Accept, requested.Goes None))) (sym f)
          (h, (frame, (i, refl, none_there d q s.pending (λ p there. (h.sound.entries p (all_pending (view s) p there)).number) (λ n less. upto n (let past = is_past k 7 f in omega (arith, past, less))))))

  -- the sequence is pending, and the frame owes the rest, and a start
  pub accepts : is_held d q s.pending ≡ false → RequestMakes (Store (sequence_word q) PENDING) (chip_after chip (Store (sequence_word q) PENDING) y) false 0 (at d (Transmit q) u (place.Request request.Nexts), acts)
  accepts free = accepts_known (sequence_of d q) refl
    where
      accepts_known : (o : Option Sequence) → sequence_of d q ≡ o → RequestMakes (Store (sequence_word q) PENDING) (chip_after chip (Store (sequence_word q) PENDING) y) false 0 (at d (Transmit q) u (place.Request request.Nexts), acts)
      accepts_known None e = absurd (let f = sym (ap (λ o. error_by d asks false false) e) in let g = subst (λ off. error_by d asks off false ≡ None) i.on i.clear in unknown (is_some (sequence_of d q)) (is_sync_sequence d q) (ap (λ o. is_some o) e) g)
        where
          unknown : (there sync : Bool) → there ≡ false → (if not there || sync then Some SpiParamSeq else None) ≡ None → ⊥
          unknown true sync e f = cc
          unknown false sync e f = cc
      accepts_known (Some x) e = record {
        may = refl;
        stands = tt;
        state = accepted d s q;
        told = answers (named EOk);
        begins = None;
        is = ap (λ e. Some (acts_by d s asks e)) (clear_error free);
        sends = tt;
        acts = tt;
        reset = refl;
        next = (
          subst (λ n. (k : ℕ) × CommitsTo (spi_owing d) k (Units (at d (Transmit q) n (place.Request request.Nexts))) (chip_after chip (Store (sequence_word q) PENDING) y) (λ c. SpiRepresents d (debt_of n (Called asks) (Some (named EOk)) ∷ below) c w (accepted d s q))) (sym i.unit)
              (accepted_owes d fits below chip w s h i.on q i.small x e free i.async (Called asks) (Some (named EOk))),
          (frame, record { acted = refl; polled = refl; report = refl; owed = refl; progress = tt }),
        );
      }
