-- Reads and writes: what belongs into one window, and what a call owes, is decided by what is kept of them.
use Rattle.std.proofs.Common.{◌≡◌, inl, inr, ℕ, zero, suc, ◌+◌, ◌*◌, ◌<◌, Bool, true, false, not, ◌&&◌, ◌||◌, ◌==◌, List, [], ◌∷◌, length, Option, Some, None, refl, sym, ◌∙◌, ap, arith, get_or-set_same, get_or-set_other, length-set}
use Rattle.std.specs.Prelude.{nat_lt, bit_or, cond, slice_index_or, slice_set}
use Rattle.std.specs.List.{list_any, list_all}
use Rattle.mcal_base.proofs.BitLaws.{has_bit-or, has_bit-zero}
use Rattle.mcal_base.specs.Bits.{has_bit}
use Rattle.mcal_base.specs.Reach.{CanApply}
use Rattle.mcal_base.specs.declared.moves.Move.{Move}
use Rattle.mcal_base.specs.declared.moves.Move.TheVariants.{Read, Write, Load, Store, Mask, Unmask, Note, Report}
use Rattle.mcal_base.specs.declared.register.Reg.{Reg}
use Rattle.mcal_base.specs.declared.register.Reg.TheVariants.{TimerLow, TimerHigh, PulseCommit, PulseIdle, CaptureCountLow, CaptureCountHigh, CaptureTimeLow, CaptureTimeHigh}
use Rattle.mcal_base.specs.declared.service.Service.{Service}
use Rattle.mcal_base.specs.facts.Numbers.{eq_from, eq_is, eq_other, lt_from, lt_is, same_or_other}
use Rattle.mcal_base.specs.facts.Truths.{and_first, and_second, or_false}
use Rattle.run_model.specs.Frame as frame
use Rattle.run_model.specs.Frame.{Origin, Called, Entered, reads_after, writes_after, since_after}
use Rattle.run_model.specs.Legal as legal
use Rattle.run_model.specs.Legal.{low_half, ComesAfter, WindowRight, AllMade}
use Rattle.run_model.specs.Moment.{Setting}
use Rattle.run_model.specs.World.{World, with_at}
use Rattle.audit_frames.specs.AccessRules.{is_low_of, is_high_of, reads_low, reads_high, lows_with, lows_after, is_beside, is_beside_act, beside_after, committed_after, follows_low, is_high, are_together}
use Rattle.audit_frames.specs.Decides.{Decides}
use Rattle.audit_frames.specs.Masks.{includes}
use Rattle.audit_frames.specs.StandsFor.{halves_of, IsTask, kind_at, is_low_at}
use Rattle.audit_frames.specs.Told.{is_of_kind}
use Rattle.audit_frames.specs.declared.accesses.Accesses.{Accesses}
use Rattle.audit_frames.specs.declared.terms.Counter.{Counter}
use Rattle.audit_frames.specs.declared.terms.Counter.TheVariants.{Timer, Capture}
use Rattle.audit_frames.specs.declared.terms.Task.{Task}
use Rattle.audit_frames.specs.declared.terms.Task.TheVariants.{Call, Line}
use Rattle.audit_frames.proofs.Deciding.{and_join, any_contains, both, equal, implies, itself, no, or_turned, valued, worded, yes}
use Rattle.audit_frames.proofs.MaskLaws.{includes_says, includes_shows, with_bit_bits}

-- ---- the halves of a counter

pub low_of : (n : Counter) (y : Reg) → Decides (is_low_of (Some n) y) (y ≡ (halves_of n).low)
low_of (Timer c) (TimerLow k) = worded (λ e. ap (λ n. TimerLow n) e) (λ h. cc) (equal k c)
low_of (Capture c) (CaptureCountLow k) = worded (λ e. ap (λ n. CaptureCountLow n) e) (λ h. cc) (equal k c)
low_of (Timer c) _ = no (λ e. absurd (cc))
low_of (Capture c) _ = no (λ e. absurd (cc))

pub high_of : (n : Counter) (y : Reg) → Decides (is_high_of (Some n) y) (y ≡ (halves_of n).high)
high_of (Timer c) (TimerHigh k) = worded (λ e. ap (λ n. TimerHigh n) e) (λ h. cc) (equal k c)
high_of (Capture c) (CaptureCountHigh k) = worded (λ e. ap (λ n. CaptureCountHigh n) e) (λ h. cc) (equal k c)
high_of (Timer c) _ = no (λ e. absurd (cc))
high_of (Capture c) _ = no (λ e. absurd (cc))

-- a move that reads the low half
pub low_read : (n : Counter) (made : Move) → Decides (reads_low (Some n) made) (made ≡ Read (halves_of n).low)
low_read n (Read r) = worded (λ e. ap (λ x. Read x) e) (λ h. cc) (low_of n r)
low_read n (Write r v) = no (λ e. absurd (cc))
low_read n (Load k) = no (λ e. absurd (cc))
low_read n (Store k v) = no (λ e. absurd (cc))
low_read n Mask = no (λ e. absurd (cc))
low_read n Unmask = no (λ e. absurd (cc))
low_read n (Note x) = no (λ e. absurd (cc))
low_read n (Report x) = no (λ e. absurd (cc))

-- no register has a half of no counter
pub none_any : {X : Type 0} (p : X → Bool) (xs : List X) → ((x : X) → p x ≡ false) → list_any p xs ≡ false
none_any p [] h = refl
none_any p (x ∷ xs) h = ap (λ b. b || list_any p xs) (h x) ∙ none_any p xs h

-- the registers that were read, with this move
pub low_kept : (n : Option Counter) (made : Move) (reads : List Reg) (b : Bool) → b ≡ list_any (is_low_of n) reads → (reads_low n made || b) ≡ list_any (is_low_of n) (reads_after reads made)
low_kept n (Read r) reads b h = ap (λ x. is_low_of n r || x) h
low_kept n (Write r v) reads b h = h
low_kept n (Load k) reads b h = h
low_kept n (Store k v) reads b h = h
low_kept n Mask reads b h = h
low_kept n Unmask reads b h = h
low_kept n (Note x) reads b h = h
low_kept n (Report x) reads b h = h

pub high_kept : (n : Option Counter) (made : Move) (reads : List Reg) (b : Bool) → b ≡ list_any (is_high_of n) reads → (reads_high n made || b) ≡ list_any (is_high_of n) (reads_after reads made)
high_kept n (Read r) reads b h = ap (λ x. is_high_of n r || x) h
high_kept n (Write r v) reads b h = h
high_kept n (Load k) reads b h = h
high_kept n (Store k v) reads b h = h
high_kept n Mask reads b h = h
high_kept n Unmask reads b h = h
high_kept n (Note x) reads b h = h
high_kept n (Report x) reads b h = h

-- ---- low halves in a window

apart : {A : Type 0} (m n : ℕ) → (m ≡ n → ⊥) → (A → ⊥) → Decides (m == n) A
apart m n ne f = record { says = λ e. absurd (ne (eq_is m n e)); shows = λ h. absurd (f h) }

third : (k c : ℕ) → 3 * k ≡ 3 * c → k ≡ c
third k c e = omega (arith, e)

third_one : (k c : ℕ) → 3 * k + 1 ≡ 3 * c + 1 → k ≡ c
third_one k c e = omega (arith, e)

third_two : (k c : ℕ) → 3 * k + 2 ≡ 3 * c + 2 → k ≡ c
third_two k c e = omega (arith, e)

timer_is : (k c : ℕ) → Read (TimerLow k) ≡ Read (TimerLow c) → k ≡ c
timer_is k c h = cc

count_is : (k c : ℕ) → Read (CaptureCountLow k) ≡ Read (CaptureCountLow c) → k ≡ c
count_is k c h = cc

time_is : (k c : ℕ) → Read (CaptureTimeLow k) ≡ Read (CaptureTimeLow c) → k ≡ c
time_is k c h = cc

timer_at : (c : ℕ) (y : Move) → Decides (is_low_at (3 * c) y) (y ≡ Read (TimerLow c))
timer_at c (Read (TimerLow k)) = worded (λ e. ap (λ n. Read (TimerLow n)) (third k c e)) (λ h. ap (λ n. 3 * n) (timer_is k c h)) (equal (3 * k) (3 * c))
timer_at c (Read (CaptureCountLow k)) = apart (3 * k + 1) (3 * c) (λ e. omega (arith, e)) (λ h. absurd (cc))
timer_at c (Read (CaptureTimeLow k)) = apart (3 * k + 2) (3 * c) (λ e. omega (arith, e)) (λ h. absurd (cc))
timer_at c _ = no (λ e. absurd (cc))

count_at : (c : ℕ) (y : Move) → Decides (is_low_at (3 * c + 1) y) (y ≡ Read (CaptureCountLow c))
count_at c (Read (TimerLow k)) = apart (3 * k) (3 * c + 1) (λ e. omega (arith, e)) (λ h. absurd (cc))
count_at c (Read (CaptureCountLow k)) = worded (λ e. ap (λ n. Read (CaptureCountLow n)) (third_one k c e)) (λ h. ap (λ n. 3 * n + 1) (count_is k c h)) (equal (3 * k + 1) (3 * c + 1))
count_at c (Read (CaptureTimeLow k)) = apart (3 * k + 2) (3 * c + 1) (λ e. omega (arith, e)) (λ h. absurd (cc))
count_at c _ = no (λ e. absurd (cc))

time_at : (c : ℕ) (y : Move) → Decides (is_low_at (3 * c + 2) y) (y ≡ Read (CaptureTimeLow c))
time_at c (Read (TimerLow k)) = apart (3 * k) (3 * c + 2) (λ e. omega (arith, e)) (λ h. absurd (cc))
time_at c (Read (CaptureCountLow k)) = apart (3 * k + 1) (3 * c + 2) (λ e. omega (arith, e)) (λ h. absurd (cc))
time_at c (Read (CaptureTimeLow k)) = worded (λ e. ap (λ n. Read (CaptureTimeLow n)) (third_two k c e)) (λ h. ap (λ n. 3 * n + 2) (time_is k c h)) (equal (3 * k + 2) (3 * c + 2))
time_at c _ = no (λ e. absurd (cc))

-- a high half is read where it may be
pub comes_after : (inside : Bool) (lows : ℕ) (since : List Move) (r : Reg) → ((p : ℕ) → has_bit lows p ≡ list_any (is_low_at p) since) → Decides (not (is_high r) || inside && follows_low lows r) (ComesAfter inside since (low_half r))
comes_after inside lows since (TimerHigh c) h = both (itself inside) (valued (h (3 * c)) (any_contains (is_low_at (3 * c)) (Read (TimerLow c)) (timer_at c) since))
comes_after inside lows since (CaptureCountHigh c) h = both (itself inside) (valued (h (3 * c + 1)) (any_contains (is_low_at (3 * c + 1)) (Read (CaptureCountLow c)) (count_at c) since))
comes_after inside lows since (CaptureTimeHigh c) h = both (itself inside) (valued (h (3 * c + 2)) (any_contains (is_low_at (3 * c + 2)) (Read (CaptureTimeLow c)) (time_at c) since))
comes_after inside lows since _ h = yes tt

small : (c : ℕ) → c < 8 → 3 * c + 2 < 64
small c lt = omega arith

lows_read : (lows : ℕ) (since : List Move) (r : Reg) (p : ℕ) → CanApply (Read r) → has_bit lows p ≡ list_any (is_low_at p) since → has_bit (lows_with lows r) p ≡ (is_low_at p (Read r) || list_any (is_low_at p) since)
lows_read lows since (TimerLow c) p can h = with_bit_bits lows (3 * c) p (let lt : 3 * c + 2 < 64 = small c can in omega (arith, lt)) ∙ ap (λ b. 3 * c == p || b) h
lows_read lows since (CaptureCountLow c) p can h = with_bit_bits lows (3 * c + 1) p (let lt : 3 * c + 2 < 64 = small c can in omega (arith, lt)) ∙ ap (λ b. 3 * c + 1 == p || b) h
lows_read lows since (CaptureTimeLow c) p can h = with_bit_bits lows (3 * c + 2) p (small c can) ∙ ap (λ b. 3 * c + 2 == p || b) h
lows_read lows since _ p can h = h

pub lows_kept : (lows : ℕ) (since : List Move) (made : Move) (p : ℕ) → CanApply made → has_bit lows p ≡ list_any (is_low_at p) since → has_bit (lows_after lows made) p ≡ list_any (is_low_at p) (since_after since made)
lows_kept lows since Mask p can h = has_bit-zero p
lows_kept lows since Unmask p can h = has_bit-zero p
lows_kept lows since (Read r) p can h = lows_read lows since r p can h
lows_kept lows since (Write r v) p can h = h
lows_kept lows since (Load k) p can h = h
lows_kept lows since (Store k v) p can h = h
lows_kept lows since (Note n) p can h = h
lows_kept lows since (Report e) p can h = h

-- ---- moves beside an act

first_of_two : (a b : Bool) → a ≡ (a && true || b && false)
first_of_two true b = refl
first_of_two false true = refl
first_of_two false false = refl

second_of_two : (a b : Bool) → b ≡ (a && false || b && true)
second_of_two true true = refl
second_of_two true false = refl
second_of_two false true = refl
second_of_two false false = refl

none_of_two : (a b : Bool) → false ≡ (a && false || b && false)
none_of_two true true = refl
none_of_two true false = refl
none_of_two false true = refl
none_of_two false false = refl

beside_is : (service : Service) (made : Move) → is_beside service made ≡ legal.is_beside service made
beside_is service (Write (PulseCommit c) v) = first_of_two (legal.commits_at_act service) (legal.idles_at_act service)
beside_is service (Write (PulseIdle c) v) = second_of_two (legal.commits_at_act service) (legal.idles_at_act service)
beside_is service _ = none_of_two (legal.commits_at_act service) (legal.idles_at_act service)

pub beside_act_is : {State Call : Type 0} (g : Setting State Call) (asked : ℕ) (task : Task) (origin : Origin Call) → IsTask g asked task origin → (made : Move) → is_beside_act task made ≡ legal.is_beside_act g.machine origin made
beside_act_is g asked (Call k) (Called c) is made = beside_is k.service made ∙ ap (λ x. legal.is_beside x made) (sym is.service)
beside_act_is g asked (Line l) (Entered d) is made = refl
beside_act_is g asked (Call k) (Entered d) is made = absurd is
beside_act_is g asked (Line l) (Called c) is made = absurd is

pub beside_kept : (beside : Bool) (task : Task) (f : Move → Bool) (since : List Move) (made : Move) → ((m : Move) → is_beside_act task m ≡ f m) → beside ≡ list_any f since → beside_after beside task made ≡ list_any f (since_after since made)
beside_kept beside task f since Mask same h = refl
beside_kept beside task f since Unmask same h = refl
beside_kept beside task f since (Read r) same h = ap (λ b. b || beside) (same (Read r)) ∙ ap (λ b. f (Read r) || b) h
beside_kept beside task f since (Write r v) same h = ap (λ b. b || beside) (same (Write r v)) ∙ ap (λ b. f (Write r v) || b) h
beside_kept beside task f since (Load k) same h = ap (λ b. b || beside) (same (Load k)) ∙ ap (λ b. f (Load k) || b) h
beside_kept beside task f since (Store k v) same h = ap (λ b. b || beside) (same (Store k v)) ∙ ap (λ b. f (Store k v) || b) h
beside_kept beside task f since (Note n) same h = ap (λ b. b || beside) (same (Note n)) ∙ ap (λ b. f (Note n) || b) h
beside_kept beside task f since (Report e) same h = ap (λ b. b || beside) (same (Report e)) ∙ ap (λ b. f (Report e) || b) h

-- what belongs into one window stands there
pub together : (a : Accesses) (task : Task) (f : Move → Bool) (inside acts : Bool) (since : List Move) (made : Move)
    → ((m : Move) → is_beside_act task m ≡ f m)
    → ((p : ℕ) → has_bit a.lows p ≡ list_any (is_low_at p) since)
    → a.beside ≡ list_any f since
    → Decides (are_together a task inside acts made) (WindowRight f inside since acts made)
together a task f inside acts since (Read r) same lows beside = comes_after inside a.lows since r lows
together a task f inside acts since (Write r v) same lows beside = implies (valued (same (Write r v)) (itself (f (Write r v)))) (itself inside)
together a task f inside acts since Unmask same lows beside = implies (valued beside (itself (list_any f since))) (itself acts)
together a task f inside acts since Mask same lows beside = yes tt
together a task f inside acts since (Load k) same lows beside = yes tt
together a task f inside acts since (Store k v) same lows beside = yes tt
together a task f inside acts since (Note n) same lows beside = yes tt
together a task f inside acts since (Report e) same lows beside = yes tt

-- ---- what a call owes

-- each kind was made, by its number
kinds_all : (kinds : List (Move → Bool)) (writes : List Move) → ((i : ℕ) → i < length kinds → list_any (kind_at kinds i) writes ≡ true) → list_all (λ kind. list_any kind writes) kinds ≡ true
kinds_all [] writes h = refl
kinds_all (kind ∷ kinds) writes h = and_join (list_any kind writes) (list_all (λ x. list_any x writes) kinds) (h 0 (omega arith)) (kinds_all kinds writes (λ i lt. h (suc i) (omega arith)))

kinds_each : (kinds : List (Move → Bool)) (writes : List Move) → list_all (λ kind. list_any kind writes) kinds ≡ true → (i : ℕ) → i < length kinds → list_any (kind_at kinds i) writes ≡ true
kinds_each [] writes h i lt = absurd (omega (arith, lt))
kinds_each (kind ∷ kinds) writes h zero lt = and_first (list_any kind writes) (list_all (λ x. list_any x writes) kinds) h
kinds_each (kind ∷ kinds) writes h (suc i) lt = kinds_each kinds writes (and_second (list_any kind writes) (list_all (λ x. list_any x writes) kinds) h) i (omega (arith, lt))

pub all_made : (kinds : List (Move → Bool)) (writes : List Move) (duties made : ℕ)
    → ((i : ℕ) → has_bit duties i ≡ nat_lt i (length kinds))
    → ((i : ℕ) → i < length kinds → has_bit made i ≡ list_any (kind_at kinds i) writes)
    → Decides (includes duties made) (AllMade kinds writes)
all_made kinds writes duties made owed has = record {
  says = λ e. kinds_all kinds writes (λ i lt. sym (has i lt) ∙ includes_says duties made e i (owed i ∙ lt_from i (length kinds) lt));
  shows = λ h. includes_shows duties made (λ i on. let lt : i < length kinds = lt_is i (length kinds) (sym (owed i) ∙ on) in has i lt ∙ kinds_each kinds writes h i lt);
}

written : (kind : Move → Bool) (writes : List Move) (move : Move) → (list_any kind writes || is_of_kind kind move) ≡ list_any kind (writes_after writes move)
written kind writes (Write r v) = or_turned (list_any kind writes) (kind (Write r v))
written kind writes (Read r) = or_false (list_any kind writes)
written kind writes (Load k) = or_false (list_any kind writes)
written kind writes (Store k v) = or_false (list_any kind writes)
written kind writes Mask = or_false (list_any kind writes)
written kind writes Unmask = or_false (list_any kind writes)
written kind writes (Note n) = or_false (list_any kind writes)
written kind writes (Report e) = or_false (list_any kind writes)

-- the writes that were made, with this move
pub made_kept : (kind : Move → Bool) (writes : List Move) (move : Move) (made settles i : ℕ) → has_bit made i ≡ list_any kind writes → has_bit settles i ≡ is_of_kind kind move → has_bit (bit_or made settles) i ≡ list_any kind (writes_after writes move)
made_kept kind writes move made settles i h k = has_bit-or made settles i ∙ (ap (λ b. b || has_bit settles i) h ∙ (ap (λ b. list_any kind writes || b) k ∙ written kind writes move))

-- ---- commits

commit_same : (w : World) (times : List (Option ℕ)) (past : ℕ → Option ℕ) (k now c : ℕ) → k < length times → now ≡ w.now → c ≡ k → slice_index_or (slice_set times k (Some now)) c None ≡ with_at past k (Some w.now) c
commit_same w times past k now c lt at same =
    ap (λ n. slice_index_or (slice_set times k (Some now)) n None) same
    ∙ (get_or-set_same times k (Some now) None lt
    ∙ (ap (λ n. Some n) at
    ∙ sym (ap (λ b. cond b (Some w.now) (past c)) (eq_from c k same))))

pub committed_kept : (w : World) (times : List (Option ℕ)) (past : ℕ → Option ℕ) (made : Move) (now c : ℕ) → CanApply made → length times ≡ 8 → now ≡ w.now
    → ((k : ℕ) → slice_index_or times k None ≡ past k) → slice_index_or (committed_after times made now) c None ≡ frame.committed_after w past made c
committed_kept w times past (Write (PulseCommit k) v) now c can size at h = elim (same_or_other c k) [
  | inl same ↦ commit_same w times past k now c (omega (arith, can, size)) at same
  | inr other ↦ get_or-set_other times k c (Some now) None other ∙ (h c ∙ sym (ap (λ b. cond b (Some w.now) (past c)) (eq_other c k other)))
]
committed_kept w times past _ now c can size at h = h c

pub channels_kept : (times : List (Option ℕ)) (made : Move) (now : ℕ) → length times ≡ 8 → length (committed_after times made now) ≡ 8
channels_kept times (Write (PulseCommit k) v) now size = length-set times k (Some now) ∙ size
channels_kept times _ now size = size
