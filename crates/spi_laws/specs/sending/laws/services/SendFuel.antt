-- A call that sends a sequence and waits: each step leaves fewer, whatever is loaded, and they are as many as the call
-- may make.
-- From spi_sequences: services.SyncSteps, spi_sequences: services.ServeSteps and 4 more.
-- Used by services.SendRight.
use Rattle.std.proofs.Common.{◌≡◌, ◌+◌, ◌-◌, ◌*◌, ◌<◌, ◌≤◌, ◌==◌, ◌&&◌, ◌∙◌, if◌then◌else◌}
use Rattle.spi_laws.specs.sending.Terms
use Terms.{Act, after_word, ap, arith, Arrived, begins_by, begins_of, BodyTaken, Bool, channel_at_place, channel_next}
use Terms.{channel_sent, channel_served, Event, false, Fewer, Find, find_gave, find_more, finding_first, first_place}
use Terms.{fuel_at, further_of, goes, has_further_job, is_below, is_last_place, job_at_place, jobs_list, keep_few}
use Terms.{keep_of, length_taken, less_fuel, list_of, LongBodies, nat_lt, nat_tests, next_job_of, None, Option}
use Terms.{or_none, Placed, Position, refl, releasing, run_sent, Running, Sent, sent_owes, SequenceNext, serve_finds}
use Terms.{serve_fuel, Served, ServePlace, ShortensTo, Some, spi_basis, SpiTable, Start, subst, suc, sym}
use Terms.{sync_arrives, sync_at, sync_begun, sync_comes, sync_found, sync_frees, sync_goes_to, sync_job_over}
use Terms.{sync_owes, sync_serves, sync_starts, sync_took, SyncBody, SyncPlace, Taker, taker_sent, true, unit_named}
use Terms.{unpacked, whether_as, with_taken, zero, ℕ}
use Rattle.spi_laws.specs.sending.Sending.{after_job, arrives_fuel, at_least_one, job_fuel, jobs_left, size_at}
use Rattle.spi_laws.specs.sending.Sending.{sync_bodies, sync_fuel, window_fuel, words_left}
use Rattle.word_shapes.specs.declared.jobs.finding.Find.TheVariants as finds
use Rattle.word_shapes.specs.declared.jobs.keeping.Taker.TheVariants as takers
use Rattle.spi_sequences.specs.declared.service.serve.SequenceNext.TheVariants as courses
use Rattle.spi_sequences.specs.declared.service.serve.ServePlace.TheVariants as serve
use Rattle.spi_sequences.specs.declared.service.serve.ServeStep.TheVariants as steps
use Rattle.spi_sequences.specs.declared.service.sync.SyncPlace.TheVariants as place

-- ---- the words of a job

one_or_more : (n : ℕ) → (1 ≤ at_least_one n) × (n ≤ at_least_one n)
one_or_more zero = (omega arith, omega arith)
one_or_more (suc n) = (omega arith, omega arith)

taken_few : (x : Placed) (t : Taker) → length_taken x t ≤ x.channel.length
taken_few x (takers.Bank b) = omega arith
taken_few x (takers.SetUp by) = omega arith

-- the place of a word after this one leaves fewer of them
abbrev LeavesFewer : SpiTable → (job : ℕ) → Position → Option Position → Type 0
LeavesFewer d j p None = Unit {0}
LeavesFewer d j p (Some q) = words_left d j q + 1 ≤ words_left d j p

next_fewer : (d : SpiTable) (j : ℕ) (p : Position) (n k : ℕ) → n ≤ size_at d j p.channel → LeavesFewer d j p (after_word p n k)
next_fewer d j p n k few = by (nat_lt p.word 255 && nat_lt (p.word + 1) n) refl (nat_lt p.channel 3 && nat_lt (p.channel + 1) k) refl
  where
    within : nat_lt p.word 255 && nat_lt (p.word + 1) n ≡ true → p.word + 1 < n
    within e = grind (arith, nat_tests)

    small : nat_lt p.channel 3 && nat_lt (p.channel + 1) k ≡ true → p.channel < 3
    small e = grind (arith, nat_tests)

    some : (i : ℕ) → 1 ≤ size_at d j i
    some i = (one_or_more (channel_at_place d j i).channel.length).0

    -- at the next place
    onward : (c w : ℕ) → c < 3 → words_left d j (record { channel = c + 1; word = 0 }) + 1 ≤ words_left d j (record { channel = c; word = w })
    onward zero w lt = let next = some 1 in omega (arith, next)
    onward (suc zero) w lt = let next = some 2 in omega (arith, next)
    onward (suc (suc zero)) w lt = let next = some 3 in omega (arith, next)
    onward (suc (suc (suc c))) w lt = absurd (omega (arith, lt))

    by : (a : Bool) → nat_lt p.word 255 && nat_lt (p.word + 1) n ≡ a → (b : Bool) → nat_lt p.channel 3 && nat_lt (p.channel + 1) k ≡ b
        → LeavesFewer d j p (if a then Some (record { channel = p.channel; word = p.word + 1 }) else if b then Some (record { channel = p.channel + 1; word = 0 }) else None)
    by true e b f = let lt = within e in omega (arith, lt, few)
    by false e true f = onward p.channel p.word (small f)
    by false e false f = tt

further_fewer : (d : SpiTable) (a : Arrived) → LeavesFewer d a.served.run.job a.served.at (further_of d a)
further_fewer d a =
    next_fewer d a.served.run.job a.served.at (length_taken (channel_served d a.served) a.taker) (list_of d a.served.run.job).count
    (let few = taken_few (channel_served d a.served) a.taker in let le = (one_or_more (channel_served d a.served).channel.length).1 in omega (arith, few, le))

-- ---- the jobs of a sequence

pub jobs_least : (d : SpiTable) (q n m : ℕ) → 24 ≤ jobs_left d q n m
jobs_least d q n zero = omega arith
jobs_least d q n (suc m) = whether_as (nat_lt (n + 1) (jobs_list d q).count) (λ b. 24 ≤ (if b then 33 + 15 * words_left d (job_at_place d q (n + 1)) first_place + jobs_left d q (n + 1) m else 24))
    (λ _. omega arith)
    (λ _. omega arith)

-- after a job that isn't the last one
pub job_further : (d : SpiTable) (q n : ℕ) → n < 15 → nat_lt (n + 1) (jobs_list d q).count ≡ true → after_job d q n ≡ 33 + 15 * words_left d (job_at_place d q (n + 1)) first_place + after_job d q (n + 1)
job_further d q n lt more =
    let same : 15 - n ≡ suc (15 - (n + 1)) = omega (arith, lt) in
    ap (jobs_left d q n) same
    ∙ ap (λ b. if b then 33 + 15 * words_left d (job_at_place d q (n + 1)) first_place + jobs_left d q (n + 1) (15 - (n + 1)) else 24) more

further_job : (k : SyncBody) → has_further_job k ≡ true → (k.job < 15) × (nat_lt (k.job + 1) (jobs_list k.table k.sequence).count ≡ true)
further_job k e = by (nat_lt k.job 15) refl (nat_lt (k.job + 1) (jobs_list k.table k.sequence).count) refl e
  where
    by : (a : Bool) → nat_lt k.job 15 ≡ a → (b : Bool) → nat_lt (k.job + 1) (jobs_list k.table k.sequence).count ≡ b → nat_lt k.job 15 && nat_lt (k.job + 1) (jobs_list k.table k.sequence).count ≡ true → (k.job < 15) × (nat_lt (k.job + 1) (jobs_list k.table k.sequence).count ≡ true)
    by true f true g h = (is_below k.job 15 f, g)
    by true f false g h = absurd (let z = sym h ∙ ap (λ q. q && nat_lt (k.job + 1) (jobs_list k.table k.sequence).count) f ∙ g in cc)
    by false f b g h = absurd (let z = sym h ∙ ap (λ q. q && nat_lt (k.job + 1) (jobs_list k.table k.sequence).count) f in cc)

-- ---- a step leaves fewer

pub few_first : (x : Placed) → find_more (finding_first x) ≤ 1
few_first x =
    elim x.channel.internal as (λ q. find_more (if q then finds.Newest x else finds.SetUp x) ≤ 1)
    [ true ↦ omega arith | false ↦ omega arith ]

module _ (d : SpiTable) where
  abbrev V : LongBodies (spi_basis d) SyncBody
  V = sync_bodies d

  abbrev ShortTo : ℕ → SyncBody × BodyTaken → Type 0
  ShortTo n r = ShortensTo n (V.fuel r.0) r.1.done

  -- the first word of a job is looked for
  short_find : (k : SyncBody) (b : Option Arrived) (f : Find) (v : ℕ) → ShortTo (4 + find_more f + job_fuel k b) (sync_at k (sync_found b f v (find_gave f v)), goes)
  short_find k b f v = short_search b f
    where
      found_in_few : (b : Option Arrived) (x : Placed) (i : ℕ) (q : Bool) → ShortTo (4 + 1 + job_fuel k b) (sync_at k (place.Find b (if q then finds.Source x i else finds.Default x)), goes)
      found_in_few None x i true = omega arith
      found_in_few None x i false = omega arith
      found_in_few (Some r) x i true = omega arith
      found_in_few (Some r) x i false = omega arith

      short_search : (b : Option Arrived) (f : Find) → ShortTo (4 + find_more f + job_fuel k b) (sync_at k (sync_found b f v (find_gave f v)), goes)
      short_search None (finds.Newest x) = omega arith
      short_search b (finds.SetUp x) = found_in_few b x 0 (or_none v x.channel).source
      short_search b (finds.Held x i) = found_in_few b x i (unpacked v).source
      short_search _ _ = omega arith

  short_begin : (k : SyncBody) (b : Option Arrived) → ShortTo (1 + job_fuel k b) (sync_at k (sync_begun k b), sync_starts k.unit)
  short_begin k None = omega arith
  short_begin k (Some r) = let few = keep_few (channel_served k.table r.served) r.served.at.word r.taker r.word in omega (arith, few)

  -- ---- a word has come

  -- the steps after it are no more than those that were left of the job
  arrives_few : (k : SyncBody) (a : Arrived) → a.served.run ≡ run_sent k → a.served.at ≡ k.at → arrives_fuel k (begins_of k.table a) ≤ 15 * words_left k.table (run_sent k).job k.at + after_job k.table k.sequence k.job
  arrives_few k a run at = by a.served.failed (further_of k.table a) fewer
    where
      fewer : LeavesFewer k.table (run_sent k).job k.at (further_of k.table a)
      fewer = subst (λ (z : Running). LeavesFewer k.table z.job k.at (further_of k.table a)) run (subst (λ p. LeavesFewer k.table a.served.run.job p (further_of k.table a)) at (further_fewer k.table a))

      by : (q : Bool) (o : Option Position) → LeavesFewer k.table (run_sent k).job k.at o → arrives_fuel k (if q then serve.Marks a else begins_by a o) ≤ 15 * words_left k.table (run_sent k).job k.at + after_job k.table k.sequence k.job
      by false (Some p) less = omega (arith, less)
      by _ _ less = omega arith

  short_taker : (k : SyncBody) (failed : Bool) (t : Taker) → ShortTo (2 + 15 * words_left k.table (run_sent k).job k.at + after_job k.table k.sequence k.job) (sync_at (with_taken k t) (sync_comes k failed t), goes)
  short_taker k failed (takers.Bank b) = let few = arrives_few k (record { served = record { run = run_sent k; at = k.at; failed = failed }; taker = takers.Bank b; word = 0 }) refl refl in omega (arith, few)
  short_taker k failed (takers.SetUp by) = let few = arrives_few k (record { served = record { run = run_sent k; at = k.at; failed = failed }; taker = takers.SetUp by; word = 0 }) refl refl in omega (arith, few)

  short_over : (k : SyncBody) (a : Arrived) (failed more : Bool) → has_further_job k ≡ more → ShortTo (1 + after_job k.table k.sequence k.job) (sync_goes_to (sync_job_over k a failed more))
  short_over k a false true e =
      let further = further_job k e in
      let same = job_further k.table k.sequence k.job further.0 further.1 in
      let few = few_first (channel_sent (next_job_of k) 0) in
      omega (arith, same, few)
  short_over k a _ _ e = let least = jobs_least k.table k.sequence k.job (15 - k.job) in omega (arith, least)

  short_receive : (k : SyncBody) (r : Served) (t : Taker) (v : ℕ)
      → ShortTo (1 + arrives_fuel k (begins_of k.table (record { served = r; taker = t; word = 0 }))) (sync_goes_to (sync_arrives k (record { served = r; taker = t; word = v }) (begins_of k.table (record { served = r; taker = t; word = v }))))
  short_receive k r t v = by r.failed (further_of k.table a)
    where
      a : Arrived
      a = record { served = r; taker = t; word = v }

      before : Arrived
      before = record { served = r; taker = t; word = 0 }

      by : (q : Bool) (o : Option Position) → ShortTo (1 + arrives_fuel k (if q then serve.Marks before else begins_by before o)) (sync_goes_to (sync_arrives k a (if q then serve.Marks a else begins_by a o)))
      by false (Some p) = omega arith
      by _ _ = short_over k a r.failed (has_further_job k) refl

  -- ---- the windows of a further word, and of the end

  short_finds : (k : SyncBody) (a : Arrived) (p : Position) (f : Find) (v : ℕ) (o : Option ℕ) → Fewer (fuel_at k.table) (serve_fuel (serve.Find a p f)) (serve_finds a p f v o) → ShortTo (window_fuel k (serve.Find a p f)) (sync_at k (place.Serve (serve_finds a p f v o).0), record { event = None; done = None })
  short_finds k a p f v None less = omega (arith, less)
  short_finds k a p f v (Some w) less = omega (arith, less)

  short_lets : (k : SyncBody) (a : Arrived) (p : Position) (w : ℕ) (e : Option Event) (q : Bool) (x : Placed) → ShortTo (window_fuel k (serve.Begin a p w)) (sync_at k (place.Serve (if q then serve.Let a p (releasing x Sent) else serve.Keep (keep_of k.table a) p)), record { event = e; done = None })
  short_lets k a p w e true x = omega arith
  short_lets k a p w e false x = let few = keep_few (channel_served k.table a.served) a.served.at.word a.taker a.word in omega (arith, few)

  short_serve : (k : SyncBody) (p : ServePlace) (v : ℕ) → sent_owes p ≡ false → ShortTo (window_fuel k p) (sync_serves k p v)
  short_serve k (serve.Width a p) v e = let less = less_fuel k.table k.unit (serve.Width a p) v refl in omega (arith, less)
  short_serve k (serve.Find a p f) v e = short_finds k a p f v (find_gave f v) (less_fuel k.table k.unit (serve.Find a p f) v refl)
  short_serve k (serve.Begin a p w) v e = short_lets k a p w (Some (Start (unit_named k.unit))) ((channel_next k.table a p).channel.internal && is_last_place (channel_next k.table a p) p.word) (channel_next k.table a p)
  short_serve k (serve.Acknowledge a c) v e = let less = less_fuel k.table k.unit (serve.Acknowledge a c) v refl in by c less
    where
      by : (c : SequenceNext) → Fewer (fuel_at k.table) 24 (serve.Free a c, steps.Goes None) → ShortTo (window_fuel k (serve.Acknowledge a c)) (sync_at k (place.Serve (serve.Free a c)), record { event = Some Act; done = None })
      by (courses.Ends x) less = omega (arith, less)
      by (courses.Further x) less = omega (arith, less)
  short_serve k (serve.Let a p t) v e = absurd (cc)
  short_serve k (serve.Keep x p) v e = absurd (cc)
  short_serve k (serve.Stand p) v e = absurd (cc)
  short_serve k (serve.Free a c) v e = absurd (cc)
  short_serve k (serve.Release l i t) v e = absurd (cc)
  short_serve k (serve.KeepLast l x) v e = absurd (cc)
  short_serve k (serve.Commit l i c) v e = absurd (cc)
  short_serve k (serve.Result l) v e = absurd (cc)
  short_serve k (serve.End r x) v e = absurd (cc)
  short_serve k _ v e = omega arith

  -- ---- all of them

  pub short_at : (k : SyncBody) (p : SyncPlace) (v : ℕ) → sync_owes p ≡ false → ShortTo (sync_fuel k p) (sync_took k p v)
  short_at k place.Free v e =
      elim (v == 0) as (λ q. ShortTo (sync_fuel k place.Free) (sync_frees k q))
      [ true ↦ (let few = few_first (channel_sent k 0) in omega (arith, few)) | false ↦ omega arith ]
  short_at k (place.Find b f) v e = short_find k b f v
  short_at k (place.Select b x) v e =
      elim b as (λ b. ShortTo (3 + job_fuel k b) (sync_at k (place.Width b x), goes))
      [ None ↦ omega arith | Some r ↦ omega arith ]
  short_at k (place.Width b x) v e =
      elim b as (λ b. ShortTo (2 + job_fuel k b) (sync_at k (place.Begin b x), goes))
      [ None ↦ omega arith | Some r ↦ omega arith ]
  short_at k (place.Begin b x) v e = short_begin k b
  short_at k place.Opens v e = omega arith
  short_at k place.Wait v e = omega arith
  short_at k (place.Shut failed) v e = omega arith
  short_at k (place.Taker failed) v e = short_taker k failed (taker_sent k v)
  short_at k (place.Receive r t) v e = short_receive k r t v
  short_at k (place.Serve p) v e = short_serve k p v e
  short_at k _ v e = absurd (cc)
