-- What the words of an initialised module say: of results, of pending sequences, and of what the units run.
-- From words.JobPlaces, words.Cases, words.SameWords, words.WordsOfModule.
-- Used by services.QueryRight, services.CancelRight, services.ModuleRight, spi_laws: serving.services.FreedUnit and 22 more.
use Rattle.std.proofs.Common.{◌≡◌, ◌+◌, ◌-◌, ◌*◌, ◌/◌, ◌%◌, ◌<◌, ◌==◌, ◌||◌, ◌∙◌, if◌then◌else◌}
use Rattle.spi_sequences.specs.Terms
use Terms.{all_of, AnswerName, ap, arith, Bool, carried_at, CarriesAgrees, Chip, Contains, Contains-get_or}
use Terms.{entry_carried, false, FitsSpi, get_or_default, Going, has_job, inl, inr, is_for, is_of, is_off, is_pending}
use Terms.{is_running, is_some, is_sync_sequence, is_sync_unit, IsLast, IsOfSequence, job_code, job_result_in, jobs_of}
use Terms.{List, nat_lt, next_in, next_job, NEXTS, None, Option, PENDING, Pending, refl, Reservations, run_at}
use Terms.{run_carried, run_in, run_of, RunAgrees, Running, running_word, runs_sequence, RunsBy, RunsNext, same_Some}
use Terms.{sequence_code, sequence_result, sequence_result_in, sequence_word, shares_job, Some, some_or_none, SpiBusy}
use Terms.{SpiIdle, SpiJobFailed, SpiJobOk, SpiRepresents, SpiSeqCanceled, SpiSeqFailed, SpiSeqOk, SpiSeqPending}
use Terms.{SpiState, SpiTable, status_by, subst, sym, Transfer, true, unit_at, UnitAgrees, view, whether, word_of}
use Terms.{World, ℕ}
use Rattle.spi_sequences.specs.laws.words.JobPlaces.{all_cases, all_pending, any_all, any_in, none_by, one_of_all}
use Rattle.spi_sequences.specs.laws.words.{SameWords.{job_small}, WordsOfModule.{some_at}}
use Rattle.mcal_base.specs.facts.Truths.{or_true}
pub use Rattle.spi_sequences.specs.laws.words.JobPlaces.{any_none, any_some, at_contained, is_below, is_number, is_past}
pub use Rattle.spi_sequences.specs.laws.words.JobPlaces.{none_any, not_true, one_unit, other_number, same_number}

-- ---- results

pub sequence_said : (x : AnswerName) → IsOfSequence x → sequence_result_in (sequence_code x) ≡ x
sequence_said SpiSeqOk h = refl
sequence_said SpiSeqPending h = refl
sequence_said SpiSeqFailed h = refl
sequence_said SpiSeqCanceled h = refl
sequence_said _ h = absurd h

pub job_said : (x : AnswerName) → IsLast x → job_result_in (job_code x) ≡ x
job_said SpiJobOk h = refl
job_said SpiJobFailed h = refl
job_said _ h = absurd h

code_pending : (x : AnswerName) (b : Bool) → IsOfSequence x → (x ≡ SpiSeqPending → b ≡ true) → (b ≡ true → x ≡ SpiSeqPending) → (sequence_code x == 1) ≡ b
code_pending SpiSeqPending b h f g = sym (f refl)
code_pending SpiSeqOk b h f g = sym (not_true b (λ e. let i = g e in cc))
code_pending SpiSeqFailed b h f g = sym (not_true b (λ e. let i = g e in cc))
code_pending SpiSeqCanceled b h f g = sym (not_true b (λ e. let i = g e in cc))
code_pending _ b h f g = absurd h

-- ---- what runs

-- what a unit's word says
abbrev pub running_by : SpiTable → Option Going → Option Running
running_by d None = None
running_by d (Some g) = Some (record { job = next_job d g.pending; sequence = g.pending.sequence })

run_packed : (j q : ℕ) → j < 16 → q < 8 → run_in (1 + j + 16 * q) ≡ Some (record { job = j; sequence = q })
run_packed j q few less =
    let some : (1 + j + 16 * q == 0) ≡ false = other_number (1 + j + 16 * q) 0 (λ e. omega (arith, e)) in
    let job : (1 + j + 16 * q - 1) % 16 ≡ j = omega (arith, few) in
    let sequence : (1 + j + 16 * q - 1) / 16 % 8 ≡ q = omega (arith, few, less) in
    ap (λ b. if b then None else Some (record { job = (1 + j + 16 * q - 1) % 16; sequence = (1 + j + 16 * q - 1) / 16 % 8 })) some
    ∙ ap (λ n. Some (record { job = n; sequence = (1 + j + 16 * q - 1) / 16 % 8 })) job
    ∙ ap (λ n. Some (record { job = j; sequence = n })) sequence

module _ (d : SpiTable) (fits : FitsSpi d) (held : Reservations) (chip : Chip) (w : World) (s : SpiState) (h : SpiRepresents d held chip w s) where
  -- a unit with a job runs it for its sequence, and one that carries out sequences for calls runs no job of a pending one
  pub going_run : (u : ℕ) (g : Going) → u < 2 → is_sync_unit d u ≡ false → h.going u ≡ Some g → (t : Transfer) × (run_at s u ≡ Some (run_of d g t))
  going_run u g lt async is = let a = subst (λ o. UnitAgrees d (unit_at chip.serials u) (run_at s u) o) is (h.units u lt async) in (a.0, a.1)

  pub runs_none_sync : (u : ℕ) → is_sync_unit d u ≡ true → run_at s u ≡ None
  runs_none_sync u sync = none_by (run_at s u) (h.sound.carries.idle u sync)

  pub going_free : (u : ℕ) → u < 2 → h.going u ≡ None → run_at s u ≡ None
  going_free u lt is = whether (is_sync_unit d u)
      (λ sync. runs_none_sync u sync)
      (λ async. (subst (λ o. UnitAgrees d (unit_at chip.serials u) (run_at s u) o) is (h.units u lt async)).1)

  pub going_next : (u : ℕ) (g : Going) → u < 2 → h.going u ≡ Some g → RunsNext d (view s) u (Some g)
  going_next u g lt is = subst (λ o. RunsNext d (view s) u o) is (h.nexts u lt)

  -- what it runs is of a pending sequence that has started
  pub going_asked : (u : ℕ) (g : Going) → u < 2 → is_sync_unit d u ≡ false → h.going u ≡ Some g → Contains s.pending g.pending × (g.pending.started ≡ true) × (is_for d u g.pending ≡ true)
  going_asked u g lt async is =
      let next = going_next u g lt is in
      let runs = subst (λ q. RunsBy q (view s) u g.pending) async next.1 in
      (runs.0, runs.1, next.2)

  pub going_runs : (u : ℕ) (g : Going) → u < 2 → is_sync_unit d u ≡ false → h.going u ≡ Some g → is_running s g.pending.sequence ≡ true
  going_runs u g lt async is = let a = going_run u g lt async is in some_at (runs_sequence g.pending.sequence) s.units u refl (ap (runs_sequence g.pending.sequence) a.1 ∙ same_number g.pending.sequence)

  -- a sequence that runs a job runs it on a unit
  pub record RunsOn (q : ℕ) : Type 0 where
    pub unit : ℕ
    pub few : unit < 2
    pub async : is_sync_unit d unit ≡ false
    pub job : Going
    pub is : h.going unit ≡ Some job
    pub of : job.pending.sequence ≡ q

  runs_by : (q u : ℕ) → u < 2 → (sync : Bool) → is_sync_unit d u ≡ sync → runs_sequence q (run_at s u) ≡ true → (g : Option Going) → h.going u ≡ g → RunsOn q
  runs_by q u lt sync i e None is = absurd (let f = sym e ∙ ap (runs_sequence q) (going_free u lt is) in cc)
  runs_by q u lt true i e (Some g) is = absurd (let f = sym e ∙ ap (runs_sequence q) (runs_none_sync u i) in cc)
  runs_by q u lt false i e (Some g) is = record { unit = u; few = lt; async = i; job = g; is = is; of = is_number g.pending.sequence q (sym (ap (runs_sequence q) (going_run u g lt i is).1) ∙ e) }

  pub runs_on : (q : ℕ) → is_running s q ≡ true → RunsOn q
  runs_on q e =
      let (x, (u, lt, at), is) = any_some (runs_sequence q) s.units e in
      let same : run_at s u ≡ x = get_or_default s.units u None x lt ∙ at in
      let runs : runs_sequence q (run_at s u) ≡ true = ap (runs_sequence q) same ∙ is in
      whether (nat_lt u 2)
      (λ f. runs_by q u (is_below u 2 f) (is_sync_unit d u) refl runs (h.going u) refl)
      (λ f. absurd (let g = sym runs ∙ ap (runs_sequence q) (none_by (run_at s u) (h.sound.few u (is_past u 2 f))) in cc))

  -- ---- sequences under way

  abbrev pub under_way : List Pending
  under_way = all_of (view s)

  pub is_there : (ps : List Pending) (p : Pending) → Contains ps p → is_pending p.sequence ps ≡ true
  is_there ps p there = any_in (is_of p.sequence) ps p there (same_number p.sequence)

  pub entry_of : (ps : List Pending) (q : ℕ) → is_pending q ps ≡ true → (p : Pending) × Contains ps p × (p.sequence ≡ q)
  entry_of ps q e = let r = any_some (is_of q) ps e in (r.0, r.1, is_number r.0.sequence q r.2)

  -- a sequence of a unit that starts jobs of pending ones is under way where it is pending
  pub pending_alone : (q : ℕ) → is_sync_sequence d q ≡ false → is_pending q under_way ≡ is_pending q s.pending
  pending_alone q async = whether (is_pending q s.pending)
      (λ e. let r = any_some (is_of q) s.pending e in any_in (is_of q) under_way r.0 (all_pending (view s) r.0 r.1) r.2 ∙ sym e)
      (λ e. any_all (view s) (is_of q) e (λ u p begun. other_number p.sequence q (λ same. let r = h.sound.carries.unit u p begun in let f = sym async ∙ ap (is_sync_sequence d) (sym same) ∙ ap (is_sync_unit d) r.2 ∙ r.1 in cc)) ∙ sym e)

  -- its next job is one of its jobs
  pub next_there : (p : Pending) → Contains under_way p → Contains (jobs_of d p.sequence) (next_job d p)
  next_there p there = Contains-get_or (jobs_of d p.sequence) p.next 0 (h.sound.entries p there).next

  pub next_small : (p : Pending) → Contains under_way p → next_job d p < 16
  next_small p there = job_small d fits p.sequence p.next (h.sound.entries p there).next

  -- two that share a job are one
  shares_next : (p q : Pending) → Contains under_way p → p.sequence ≡ q.sequence → shares_job d p.sequence q.sequence ≡ true
  shares_next p q there e = subst (λ n. shares_job d p.sequence n ≡ true) e (any_in (has_job d p.sequence) (jobs_of d p.sequence) (next_job d p) (next_there p there) (any_in (λ k. k == next_job d p) (jobs_of d p.sequence) (next_job d p) (next_there p there) (same_number (next_job d p))))

  pub one_by_job : (p q : Pending) → Contains under_way p → Contains under_way q → shares_job d p.sequence q.sequence ≡ true → shares_job d q.sequence p.sequence ≡ true → p ≡ q
  one_by_job p q there also share back = one_of_all d fits (view s) h.sound p q there also share back

  pub one_pending : (p q : Pending) → Contains under_way p → Contains under_way q → p.sequence ≡ q.sequence → p ≡ q
  one_pending p q there also e = one_by_job p q there also (shares_next p q there e) (shares_next q p also (sym e))

  -- ---- units that are in use

  pub carried_free : (u : ℕ) → u < 2 → h.going u ≡ None → carried_at s u ≡ None
  carried_free u lt is = some_or_none (carried_at s u)
      (λ x i. absurd (whether (is_sync_unit d u)
      (λ sync. let f = sym (subst (λ o. CarriesAgrees d (unit_at chip.serials u) (run_carried (carried_at s u)) o) is (h.sends u lt sync)).1 ∙ ap run_carried i in cc)
      (λ async. let f = sym async ∙ (h.sound.carries.unit u x.entry (ap entry_carried i)).1 in cc)))
      (λ i. i)

  in_use : (u : ℕ) (g : Going) → u < 2 → h.going u ≡ Some g → is_some (run_at s u) || is_some (carried_at s u) ≡ true
  in_use u g lt is = whether (is_sync_unit d u)
      (λ sync.
      let a = subst (λ o. CarriesAgrees d (unit_at chip.serials u) (run_carried (carried_at s u)) o) is (h.sends u lt sync) in
      let some : is_some (carried_at s u) ≡ true = some_or_none (carried_at s u) (λ x i. ap is_some i) (λ i. absurd (let f = sym a.1 ∙ ap run_carried i in cc)) in
      ap (λ b. is_some (run_at s u) || b) some ∙ or_true (is_some (run_at s u)))
      (λ async. ap (λ r. is_some r || is_some (carried_at s u)) (going_run u g lt async is).1)

  -- a unit that carries out a sequence runs a job of it
  pub carried_going : (u : ℕ) (p : Pending) → (view s).begun u ≡ Some p → (g : Going) × (h.going u ≡ Some g) × (g.pending ≡ p)
  carried_going u p begun =
      let right = h.sound.carries.unit u p begun in
      some_or_none (h.going u)
      (λ g is. (g, is, same_Some g.pending p (sym (subst (λ q. RunsBy q (view s) u g.pending) right.1 (going_next u g right.0 is).1) ∙ begun)))
      (λ is. absurd (let f = sym begun ∙ ap entry_carried (carried_free u right.0 is) in cc))

  -- the word of a sequence says whether it is under way
  module _ (on : is_off s.mode ≡ false) where
    pub pending_word : (q : ℕ) → q < 8 → (word_of chip (sequence_word q) == PENDING) ≡ is_pending q under_way
    pending_word q lt = let x = h.sound.results.sequences q lt in ap (λ v. v == PENDING) ((h.words.on on).sequences.sequences q lt) ∙ code_pending (sequence_result s.sequence_results q) (is_pending q under_way) (h.sound.results.named q lt) x.0 x.1

    pub sequence_word_says : (q : ℕ) → q < 8 → sequence_result_in (word_of chip (sequence_word q)) ≡ sequence_result s.sequence_results q
    sequence_word_says q lt = ap sequence_result_in ((h.words.on on).sequences.sequences q lt) ∙ sequence_said (sequence_result s.sequence_results q) (h.sound.results.named q lt)

    -- the next job of each sequence under way stands in its word
    pub next_says : (p : Pending) → Contains under_way p → next_in (word_of chip NEXTS) p.sequence ≡ p.next
    next_says p there =
        elim (all_cases (view s) p there)
        [ inl is ↦ ((h.words.on on).sequences.pending p is).next | inr (u, e) ↦ (h.words.on on).sequences.begun u p e ]

    pub running_says : (u : ℕ) → u < 2 → (g : Option Going) → h.going u ≡ g → run_in (word_of chip (running_word u)) ≡ running_by d g
    running_says u lt None is = ap run_in (subst (λ o. RunAgrees d (word_of chip) u o) is ((h.words.on on).runs u lt))
    running_says u lt (Some g) is =
        let a = subst (λ o. RunAgrees d (word_of chip) u o) is ((h.words.on on).runs u lt) in
        let p = going_next u g lt is in
        ap run_in a.running ∙ run_packed (next_job d g.pending) g.pending.sequence (next_small g.pending p.0) (h.sound.entries g.pending p.0).number

    pub unit_word_says : (u : ℕ) → u < 2 → (if word_of chip (running_word u) == 0 then SpiIdle else SpiBusy) ≡ status_by false (is_some (run_at s u) || is_some (carried_at s u))
    unit_word_says u lt = some_or_none (h.going u)
        (λ g is.
        let a = subst (λ o. RunAgrees d (word_of chip) u o) is ((h.words.on on).runs u lt) in
        let some : (word_of chip (running_word u) == 0) ≡ false = other_number (word_of chip (running_word u)) 0 (λ e. let f = sym e ∙ a.running in omega (arith, f)) in
        ap (λ b. if b then SpiIdle else SpiBusy) some ∙ sym (ap (status_by false) (in_use u g lt is)))
        (λ is. ap (λ v. if v == 0 then SpiIdle else SpiBusy) (subst (λ o. RunAgrees d (word_of chip) u o) is ((h.words.on on).runs u lt)) ∙ sym (ap (λ r. status_by false (is_some r || is_some (carried_at s u))) (going_free u lt is) ∙ ap (λ x. status_by false (is_some x)) (carried_free u lt is)))
