-- Pwm_Init commits the output of each configured channel, and Pwm_DeInit idles it.
-- From service_outline: Duties, DeInit, Init.
-- Used by Lawful.
use Rattle.std.proofs.Common.{◌≡◌, ◌+◌, ◌<◌, ◌≤◌, ◌==◌, ◌++◌, if◌then◌else◌}
use Rattle.pwm_driver.specs.Terms
use Terms.{AllMade, arith, At, Bool, Channel, channel_of, Closes, commits_at, DeInitBody, duties, duty_of, eq_self}
use Terms.{false, Follows, idles_at, InitBody, level, List, list_any, made_here, made_on, Move, nat_lt, nat_tests, None, Opens, Option, SweepStage, place_of, PulseCommit, PulseIdle, PwmTable, refl, Some, subst, suc, sym, true, Write, writes_after, zero, ℕ}
use Rattle.pwm_driver.specs.laws.{DeInit.{rest_of, rest}, Init.{commit_of, commit}}
use Rattle.pwm_driver.specs.declared.service.deinit.DeInitBody.TheVariants as deinits
use Rattle.pwm_driver.specs.declared.service.init.InitBody.TheVariants as inits

-- each configured channel below this one has a write of the kind
abbrev pub HaveBelow : PwmTable → (kind : ℕ → Move → Bool) → ℕ → List Move → Type 0
HaveBelow d kind n writes = (c : ℕ) (k : Channel) → c < n → channel_of d c ≡ Some k → list_any (kind c) writes ≡ true

pub none_below : (d : PwmTable) (kind : ℕ → Move → Bool) (writes : List Move) → HaveBelow d kind 0 writes
none_below d kind writes c k lt e = absurd (omega (arith, lt))

pub below_on : (d : PwmTable) (kind : ℕ → Move → Bool) (n : ℕ) (writes : List Move) (next : Move) → HaveBelow d kind n writes → HaveBelow d kind n (writes_after writes next)
below_on d kind n writes next h c k lt e = made_on (kind c) writes next (h c k lt e)

under : (j c : ℕ) → j < c + 1 → (j == c) ≡ false → j < c
under j c lt e = grind (arith, nat_tests)

below_more : (d : PwmTable) (kind : ℕ → Move → Bool) (c : ℕ) (writes : List Move) (next : Move) → ((k : Channel) → channel_of d c ≡ Some k → list_any (kind c) (writes_after writes next) ≡ true) → HaveBelow d kind c writes → HaveBelow d kind (c + 1) (writes_after writes next)
below_more d kind c writes next here h = λ j k lt e. by j k lt e (j == c) refl
  where
    by : (j : ℕ) (k : Channel) → j < c + 1 → channel_of d j ≡ Some k → (q : Bool) → (j == c) ≡ q → list_any (kind j) (writes_after writes next) ≡ true
    by j k lt e true f = let is : j ≡ c = grind (arith, nat_tests, f) in subst (λ n. list_any (kind n) (writes_after writes next) ≡ true) (sym is) (here k (subst (λ n. channel_of d n ≡ Some k) is e))
    by j k lt e false f = made_on (kind j) writes next (h j k (under j c lt f) e)

commit_here : (c : ℕ) (o : Option Channel) (k : Channel) (writes : List Move) → o ≡ Some k → list_any (commits_at c) (writes_after writes (commit_of c o)) ≡ true
commit_here c None k writes e = absurd (cc)
commit_here c (Some j) k writes e = made_here (commits_at c) writes (Write (PulseCommit c) 1) (eq_self c)

rest_here : (c : ℕ) (o : Option Channel) (k : Channel) (writes : List Move) → o ≡ Some k → list_any (idles_at c) (writes_after writes (rest_of c o)) ≡ true
rest_here c None k writes e = absurd (cc)
rest_here c (Some j) k writes e = made_here (idles_at c) writes (Write (PulseIdle c) (level j.idle_high)) (eq_self c)

pub commit_more : (d : PwmTable) (c : ℕ) (writes : List Move) → HaveBelow d commits_at c writes → HaveBelow d commits_at (c + 1) (writes_after writes (commit d c))
commit_more d c writes h = below_more d commits_at c writes (commit d c) (λ k e. commit_here c (channel_of d c) k writes e) h

pub rest_more : (d : PwmTable) (c : ℕ) (writes : List Move) → HaveBelow d idles_at c writes → HaveBelow d idles_at (c + 1) (writes_after writes (rest d c))
rest_more d c writes h = below_more d idles_at c writes (rest d c) (λ k e. rest_here c (channel_of d c) k writes e) h

past_last : (c : ℕ) → c < 8 → nat_lt c 7 ≡ false → 8 ≤ c + 1
past_last c lt e = grind (arith, nat_tests)

pub to_last : (d : PwmTable) (kind : ℕ → Move → Bool) (c : ℕ) (writes : List Move) → c < 8 → nat_lt c 7 ≡ false → HaveBelow d kind (c + 1) writes → HaveBelow d kind 8 writes
to_last d kind c writes lt e h j k low f = let last = past_last c lt e in h j k (omega (arith, last, low)) f

-- ---- all of them

duty_made : (d : PwmTable) (kind : ℕ → Move → Bool) (c : ℕ) (writes : List Move) (rest : List (Move → Bool)) (o : Option Channel) → ((k : Channel) → o ≡ Some k → list_any (kind c) writes ≡ true) → AllMade rest writes → AllMade (duty_of kind c o ++ rest) writes
duty_made d kind c writes rest None h all = all
duty_made d kind c writes rest (Some k) h all = rw (h k refl) all

all_below : (d : PwmTable) (kind : ℕ → Move → Bool) (writes : List Move) (n : ℕ) → HaveBelow d kind n writes → AllMade (duties d kind n) writes
unfolding duties
all_below d kind writes zero h = refl
all_below d kind writes (suc n) h = duty_made d kind n writes (duties d kind n) (channel_of d n) (λ k e. h n k (omega arith) e) (all_below d kind writes n (λ c k lt e. h c k (omega (arith, lt)) e))

pub all_made : (d : PwmTable) (kind : ℕ → Move → Bool) (writes : List Move) → HaveBelow d kind 8 writes → AllMade (duties d kind 8) writes
all_made d kind writes h = all_below d kind writes 8 h

-- ---- what is written at each place

abbrev pub init_written : PwmTable → SweepStage InitBody → List Move → Type 0
init_written d Opens writes = Unit {0}
init_written d (At i) writes = Unit {0}
init_written d Closes writes = Unit {0}
init_written d (Follows (inits.Commit e c)) writes = HaveBelow d commits_at c writes
init_written d (Follows inits.Enable) writes = HaveBelow d commits_at 8 writes
init_written d (Follows inits.Store) writes = HaveBelow d commits_at 8 writes

abbrev pub deinit_written : PwmTable → DeInitBody → List Move → Type 0
deinit_written d (deinits.Store e) writes = Unit {0}
deinit_written d (deinits.Disable e) writes = Unit {0}
deinit_written d (deinits.Choose e) writes = Unit {0}
deinit_written d (deinits.Keep e) writes = Unit {0}
deinit_written d (deinits.Rest e c) writes = HaveBelow d idles_at c writes

pub next_unwritten : (d : PwmTable) (count i : ℕ) (writes : List Move) → init_written d (place_of count i) writes
next_unwritten d count i writes = by (nat_lt i count)
  where
    by : (q : Bool) → init_written d (if q then At i else Closes) writes
    by true = tt
    by false = tt
