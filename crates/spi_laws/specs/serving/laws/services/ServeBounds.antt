-- A serving window is at most 32 moves: a job has at most four channels, and the bank of the last word's is known.
-- From spi_sequences: services.ServeSteps, words.FacingWords and 3 more.
-- Used by spi_driver: bookkeeping.MaskDiscipline, sending.services.SendRight and 2 more.
use Rattle.std.proofs.Common.{◌≡◌, ◌+◌, ◌<◌, ◌≤◌, ◌==◌, ◌∙◌, if◌then◌else◌}
use Rattle.spi_laws.specs.serving.Terms
use Terms.{ap, arith, Arrived, asked_word, bank_of, Bool, channel_at_place, channel_next, channel_number}
use Terms.{channel_served, Chip, commit_at, commit_more, commit_with, commits_left, false, FitsSpi, free_bank, IsServed}
use Terms.{JobOver, keep_few, Leaving, length, lets_with, list_of, meets_at, None, not, Option, Over, Placed, placed_by}
use Terms.{placed_of, Position, refl, Reservations, same_number, serve_fuel, serve_more, serve_owes, serve_room}
use Terms.{serve_takes, ServePlace, ServeStep, Some, SpiRepresents, SpiState, SpiTable, subst, suc, sym, Taker}
use Terms.{taker_of, true, unpacked, word_of, word_place, World, zero, ℕ}
use Rattle.spi_laws.specs.serving.laws.{services.ServeRight.{footing}, words.FacingWords.{at_is, UnderWay, way}}
use Rattle.spi_laws.specs.serving.laws.words.Positions.{parts_few}
use Rattle.spi_sequences.specs.declared.service.serve.ServeStep.TheVariants.{Goes}
use Rattle.word_shapes.specs.declared.jobs.finding.Find.TheVariants as finds
use Rattle.word_shapes.specs.declared.jobs.keeping.Taker.TheVariants as takers
use Rattle.spi_sequences.specs.declared.service.serve.ServePlace.TheVariants as serve

-- ---- the commits of a job's end

commit_few : (x : Placed) (b : Bool) (t : Taker) → commit_more (commit_with x b t) ≤ 2
commit_few x b t = grind arith

-- one of four
by_four : (P : ℕ → Type 0) → P 0 → P 1 → P 2 → P 3 → (k : ℕ) → k < 4 → P k
by_four P a b c d zero lt = a
by_four P a b c d (suc zero) lt = b
by_four P a b c d (suc (suc zero)) lt = c
by_four P a b c d (suc (suc (suc zero))) lt = d
by_four P a b c d (suc (suc (suc (suc k)))) lt = absurd (omega (arith, lt))

module _ (d : SpiTable) (l : Leaving) where
  -- the moves of the commit of the channel at a place, where it is internal
  abbrev commits_at : ℕ → ℕ
  commits_at i = if meets_at d (λ x. x.channel.internal) (channel_number (list_of d l.served.run.job) i) then 1 + commit_more (commit_at d l i) else 0

  at_most : (i : ℕ) → commits_at i ≤ 3
  at_most i = let few = commit_few (channel_at_place d l.served.run.job i) (i == l.served.at.channel) l.taker in grind (arith, few)

  pub commits_most : commits_left d l 4 ≤ 12
  commits_most = let a = at_most 0 in let b = at_most 1 in let c = at_most 2 in let e = at_most 3 in omega (arith, a, b, c, e)

  -- the bank is known of the last word's channel
  module _ (v : ℕ) (taken : l.taker ≡ taker_of (channel_served d l.served) l.served.at.word v) where
    in_bank : (x : Placed) (z : Bool) → commit_more (commit_with x true (if z then takers.Bank (free_bank v) else takers.Bank (bank_of v))) ≡ 1
    in_bank x z = grind arith

    own_commit : (x : Placed) (n : ℕ) (q : Bool) → x.channel.internal ≡ q → (if q then 1 + commit_more (commit_with x true (taker_of x n v)) else 0) ≤ 2
    own_commit x n false e = omega arith
    own_commit x n true e =
        let one : commit_more (commit_with x true (taker_of x n v)) ≡ 1 = ap (λ q. commit_more (commit_with x true (if not q then takers.SetUp (unpacked v) else if n == 0 then takers.Bank (free_bank v) else takers.Bank (bank_of v)))) e ∙ in_bank x (n == 0) in
        omega (arith, one)

    own_few : (o : Option ℕ) → (n : ℕ) → l.taker ≡ taker_of (placed_by d o) n v → (if meets_at d (λ x. x.channel.internal) o then 1 + commit_more (commit_with (placed_by d o) true l.taker) else 0) ≤ 2
    own_few None n e = omega arith
    own_few (Some c) n e = subst (λ t. (if (placed_of d c).channel.internal then 1 + commit_more (commit_with (placed_of d c) true t) else 0) ≤ 2) (sym e) (own_commit (placed_of d c) n (placed_of d c).channel.internal refl)

    of_own : commits_at l.served.at.channel ≤ 2
    of_own = subst (λ b. (if meets_at d (λ x. x.channel.internal) (channel_number (list_of d l.served.run.job) l.served.at.channel) then 1 + commit_more (commit_with (channel_at_place d l.served.run.job l.served.at.channel) b l.taker) else 0) ≤ 2) (sym (same_number l.served.at.channel)) (own_few (channel_number (list_of d l.served.run.job) l.served.at.channel) l.served.at.word taken)

    pub commits_few : l.served.at.channel < 4 → commits_left d l 4 ≤ 11
    commits_few lt =
        let a = at_most 0 in let b = at_most 1 in let c = at_most 2 in let e = at_most 3 in
        by_four (λ n. commits_at n ≤ 2 → commits_left d l 4 ≤ 11)
        (λ own. omega (arith, own, b, c, e)) (λ own. omega (arith, own, a, c, e)) (λ own. omega (arith, own, a, b, e)) (λ own. omega (arith, own, a, b, c)) l.served.at.channel lt of_own

-- ---- a step leaves fewer

abbrev pub Fewer : (bound : ServePlace → ℕ) → ℕ → ServePlace × ServeStep → Type 0
Fewer bound n (p, Goes e) = bound p < n
Fewer bound n (p, Over) = 1 ≤ n
Fewer bound n (p, JobOver x) = 1 ≤ n

-- the steps, and the moves of the window, that are left at any place
abbrev pub fuel_at : SpiTable → ServePlace → ℕ
fuel_at d p = if serve_owes p then 1 + serve_more d p else serve_fuel p

abbrev pub room_at : SpiTable → ServePlace → ℕ
room_at d p = if serve_owes p then 1 + serve_more d p else serve_room p

module _ (d : SpiTable) (u : ℕ) where
  lets_bound : (bound : ℕ) → 5 < bound → (a : Arrived) (p : Position) (x : Placed) (other : ServePlace → ℕ) → (if serve_owes (lets_with d a p x) then 1 + serve_more d (lets_with d a p x) else other (lets_with d a p x)) < bound
  lets_bound bound lt a p x other = let few = keep_few (channel_served d a.served) a.served.at.word a.taker a.word in grind (arith, few, lt)

  pub less_fuel : (p : ServePlace) (v : ℕ) → serve_owes p ≡ false → Fewer (fuel_at d) (serve_fuel p) (serve_takes d u p v)
  less_fuel (serve.Receive r t) v e = grind arith
  less_fuel (serve.Begin a p w) v e = lets_bound 7 (omega arith) a p (channel_next d a p) serve_fuel
  less_fuel (serve.Acknowledge a c) v e = let most = commits_most d (record { served = a.served; taker = a.taker; course = c }) in grind (arith, most)
  less_fuel (serve.Find a p (finds.SetUp x)) v e = grind arith
  less_fuel _ v e = grind arith

  -- the room of a window, where the word's place and bank are those that were loaded
  abbrev pub Fitting : ServePlace → Type 0
  Fitting (serve.Acknowledge a c) = (a.served.at.channel < 4) × ((v : ℕ) × (a.taker ≡ taker_of (channel_served d a.served) a.served.at.word v))
  Fitting _ = Unit {0}

  pub less_room : (p : ServePlace) (v : ℕ) → serve_owes p ≡ false → Fitting p → (p ≡ serve.Shut → ⊥) → Fewer (room_at d) (serve_room p) (serve_takes d u p v)
  less_room serve.Shut v e f n = absurd (n refl)
  less_room (serve.Receive r t) v e f n = grind arith
  less_room (serve.Begin a p w) v e f n = lets_bound 6 (omega arith) a p (channel_next d a p) serve_room
  less_room (serve.Acknowledge a c) v e f n = let most = commits_few d (record { served = a.served; taker = a.taker; course = c }) f.1.0 f.1.1 f.0 in grind (arith, most)
  less_room (serve.Find a p (finds.SetUp x)) v e f n = grind arith
  less_room _ v e f n = grind arith

-- ---- the place and the bank of the last word are as they stand

pub place_fits : (d : SpiTable) → FitsSpi d → (below : Reservations) (chip : Chip) (w : World) (s : SpiState) → SpiRepresents d below chip w s → (u : ℕ) → u < 2 → (p : ServePlace) → word_place d u p (footing chip) w s → Fitting d u p
place_fits d fits below chip w s h u few (serve.Acknowledge a c) (i, course) =
    let by : IsServed d (word_of chip) s w.now u a.served = i.arrived.taken.served in
    let under : UnderWay d below chip w s h u by.done.run = way d fits below chip w s h u few a.served by in
    let within : under.job.at.channel < length under.job.parts = under.represents.place in
    let parts : length under.job.parts ≤ 4 = parts_few d fits u (word_of chip) under.job under.for under.represents in
    (subst (λ (p : Position). p.channel < 4) (sym (at_is d fits below chip w s h u few a.served by)) (omega (arith, within, parts)), (word_of chip (asked_word (channel_served d a.served) a.served.at.word), i.arrived.taken.taker))
place_fits d fits below chip w s h u few _ i = tt
