-- What frames have done in their windows: each commit and each idling stands in the window in which its call acts.
-- From Init, DeInit, service_outline: Seen, Output, Rest and 3 more.
-- Used by Lawful.
use Rattle.std.proofs.Common.{◌≡◌, ◌+◌, ◌/◌, ◌%◌, if◌then◌else◌}
use Rattle.pwm_driver.specs.Terms
use Terms.{Acted, Acting, At, BodyTaken, Bool, Channel, channel_of, Closes, DeInitBody, Done, ends, false, First}
use Terms.{Follows, goes, InitBody, is_closed, is_windowed, Loads, nat_lt, no_answer, None, Nothing, NotifyBody, Opens, Option, OutputBody, SweepStage, place_of, Plain, plain_sees, PwmTable, refl, RestBody, Second, Sees, sees_if, SeesTo, ServeBody, Setup, Some, Starts, STATE, subst, suc, Sweep, sym, true, WindowHistory, zero, ℕ}
use Rattle.pwm_driver.specs.laws.{Bodies.{PwmBody}, DeInit.{rest_of, rest, deinit_work, deinit_takes}, Init.{part_by}}
use Rattle.pwm_driver.specs.laws.{Init.{defaults, setup_move, commit_of, begin_bodies}, Notify.{notify_work}}
use Rattle.pwm_driver.specs.laws.{Output.{output_work, output_takes}, Rest.{rest_work, rest_takes}, Serve.{serve_work}}
use Rattle.pwm_driver.specs.declared.service.deinit.DeInitBody.TheVariants as deinits
use Rattle.pwm_driver.specs.declared.service.init.InitBody.TheVariants as inits
use Rattle.pwm_driver.specs.declared.service.notify.NotifyBody.TheVariants as notifies
use Rattle.pwm_driver.specs.declared.service.output.OutputBody.TheVariants as outputs
use Rattle.pwm_driver.specs.declared.service.rest.RestBody.TheVariants as rests
use Rattle.pwm_driver.specs.declared.service.serve.ServeBody.TheVariants as serves

-- Pwm_Init commits before it acts, in the window after the defaults
abbrev pub setup_seen : SweepStage InitBody → WindowHistory
setup_seen (Follows k) = Acting
setup_seen place = Plain

-- Pwm_DeInit acts first
abbrev pub deinit_seen : DeInitBody → WindowHistory
deinit_seen (deinits.Store d) = Plain
deinit_seen k = Acted

-- one that sets a channel acts as it commits
abbrev pub output_seen : OutputBody → WindowHistory
output_seen (outputs.Keep r) = Acted
output_seen k = Plain

abbrev pub pwm_seen : PwmBody → WindowHistory
pwm_seen (First (First k)) = setup_seen k.place
pwm_seen (First (Second k)) = deinit_seen k
pwm_seen (Second (First (First k))) = output_seen k
pwm_seen k = Plain

-- ---- Pwm_Init

part_plain : (at c : ℕ) (v : ℕ × ℕ × Bool) → is_windowed (part_by at c v) ≡ false
part_plain zero c v = refl
part_plain (suc zero) c v = refl
part_plain (suc (suc zero)) c v = refl
part_plain (suc (suc (suc n))) c v = refl

setup_plain : (r : Setup) (i : ℕ) → is_windowed (setup_move r i) ≡ false
setup_plain r i = by (nat_lt (i / 4) 8)
  where
    by : (q : Bool) → is_windowed (if q then part_by (i % 4) (i / 4) (defaults (channel_of r.driver (i / 4))) else Loads STATE) ≡ false
    by true = part_plain (i % 4) (i / 4) (defaults (channel_of r.driver (i / 4)))
    by false = refl

-- what comes after so many defaults is plain
next_plain : (count i : ℕ) → setup_seen (place_of count i) ≡ Plain
next_plain count i = by (nat_lt i count)
  where
    by : (q : Bool) → setup_seen (if q then At i else Closes) ≡ Plain
    by true = refl
    by false = refl

-- a commit, before the act
abbrev goes_to : Bool → InitBody → InitBody → InitBody × BodyTaken
goes_to q a b = if q then (a, goes) else (b, goes)

commit_sees : (k : Option Channel) (c : ℕ) (q : Bool) (a b : InitBody) → Sees Acting true (commit_of c k) (goes_to q a b).1.event Acting (goes_to q a b).1.done
commit_sees None c true a b = tt
commit_sees None c false a b = tt
commit_sees (Some k) c true a b = (λ e. refl, tt)
commit_sees (Some k) c false a b = (λ e. refl, tt)

pub setup_sees : (d : PwmTable) (k : Sweep Setup InitBody) (x : ℕ) → SeesTo (λ (p : Sweep Setup InitBody). setup_seen p.place) (is_closed ((begin_bodies d).assertion k)) ((begin_bodies d).work_of k) k ((begin_bodies d).takes k x)
setup_sees d k x = by k.objects k.place
  where
    by : (r : Setup) (p : SweepStage InitBody) → let k1 : Sweep Setup InitBody = record { objects = r; place = p } in SeesTo (λ (q : Sweep Setup InitBody). setup_seen q.place) (is_closed ((begin_bodies d).assertion k1)) ((begin_bodies d).work_of k1) k1 ((begin_bodies d).takes k1 x)
    by r Opens = (tt, subst (λ s. Starts s) (sym (next_plain 32 0)) tt)
    by r (At i) = subst (λ s. Sees Plain false (setup_move r i) None s None) (sym (next_plain 32 (i + 1))) (plain_sees false (setup_move r i) None None (setup_plain r i))
    by r Closes = tt
    by r (Follows (inits.Commit e c)) = commit_sees (channel_of e c) c (nat_lt c 7) (inits.Commit e (c + 1)) inits.Enable
    by r (Follows inits.Enable) = (λ e. absurd (cc), tt)
    by r (Follows inits.Store) = refl

pub setup_unseen : (p : SweepStage InitBody) → Starts (setup_seen p)
setup_unseen Opens = tt
setup_unseen (At i) = tt
setup_unseen Closes = tt
setup_unseen (Follows k) = tt

-- ---- the other families

idle_sees : (k : Option Channel) (c : ℕ) (left : Option Done) → Sees Acted true (rest_of c k) None Acted left
idle_sees None c None = tt
idle_sees None c (Some n) = tt
idle_sees (Some k) c None = (λ e. refl, tt)
idle_sees (Some k) c (Some n) = (λ e. refl, tt)

pub deinit_sees : (k : DeInitBody) (x : ℕ) → SeesTo deinit_seen true (deinit_work k) k (deinit_takes k x)
deinit_sees (deinits.Store d) x = refl
deinit_sees (deinits.Disable d) x = (λ e. absurd (cc), tt)
deinit_sees (deinits.Choose d) x = (λ e. absurd (cc), tt)
deinit_sees (deinits.Keep d) x = tt
deinit_sees (deinits.Rest d c) x = sees_if deinit_seen true (rest d c) (deinits.Rest d c) (nat_lt c 7) (deinits.Rest d (c + 1), goes) (deinits.Rest d c, ends None no_answer Nothing) (idle_sees (channel_of d c) c None) (idle_sees (channel_of d c) c (ends None no_answer Nothing).done)

pub output_sees : (k : OutputBody) (x : ℕ) → SeesTo output_seen true (output_work k) k (output_takes k x)
output_sees (outputs.Load r) x = refl
output_sees (outputs.Period r) x = (λ e. absurd (cc), refl)
output_sees (outputs.Duty r) x = (λ e. absurd (cc), refl)
output_sees (outputs.Polarity r) x = (λ e. absurd (cc), refl)
output_sees (outputs.Commit r) x = sees_if output_seen true (output_work (outputs.Commit r)) (outputs.Commit r) r.keeps _ _ (λ e. refl, refl) (λ e. refl, λ e. refl)
output_sees (outputs.Keep r) x = tt

pub rest_sees : (k : RestBody) (x : ℕ) → SeesTo (λ (b : RestBody). Plain) true (rest_work k) k (rest_takes k x)
rest_sees (rests.Rest c high) x = (λ e. refl, λ e. refl)
rest_sees (rests.Ask c) x = (tt, λ e. absurd (cc))

pub notify_plain : (k : NotifyBody) → is_windowed (notify_work k) ≡ false
notify_plain (notifies.Load c edge) = refl
notify_plain _ = refl

pub serve_plain : (k : ServeBody) → is_windowed (serve_work k) ≡ false
serve_plain (serves.Kinds c) = refl
serve_plain _ = refl
