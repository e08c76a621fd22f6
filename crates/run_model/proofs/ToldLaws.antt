-- What becomes of each device over deeds.
use Rattle.std.proofs.Common.{◌≡◌, ◌≢◌, ℕ, zero, suc, ◌+◌, ◌-◌, ◌<◌, ◌⊎◌, inl, inr, Bool, true, false, ◌&&◌, List, [], ◌∷◌, ◌++◌, length, take, Option, Some, None, cond, refl, sym, ◌∙◌, ap, subst, arith, append_assoc, append-nil}
use Rattle.std.proofs.Math.ListN.{set}
use Rattle.std.proofs.lemmas.Bool.Decides.{eqb_tells, nat_tests}
use Rattle.std.specs.Prelude.{◌==◌, slice_get, option_and_then}
use Rattle.chip_model.specs.Chip.{Chip, has_device, names_device}
use Rattle.chip_model.specs.Devices.{CallsRight}
use Rattle.chip_blocks.specs.units.Serials.{outgoing, unit_at}
use Rattle.mcal_base.specs.declared.directive.Order.{Order}
use Rattle.mcal_base.specs.declared.directive.Order.TheVariants as orders
use Rattle.mcal_base.specs.declared.moves.Move.{Move}
use Rattle.mcal_base.specs.declared.moves.Move.TheVariants.{Write}
use Rattle.mcal_base.specs.declared.register.Reg.{Reg}
use Rattle.mcal_base.specs.declared.register.Reg.TheVariants.{SerialData}
use Rattle.serial_devices.specs.Lines.{Line, CallsOne, answered, extended, pairs_of_answer}
use Rattle.run_model.specs.Devices.{LeavesAll, DeedCalls, AllCalls, AreTold, HasRisen, is_under, sent_by, pair_of, pairs_at, pairs_by, pairs_from, refusals_by, refusals_from}
use Rattle.run_model.specs.Moment.{Setting, Moment, Transition, Begins, Enters, Steps, Happens, Resets, after}
use Rattle.run_model.proofs.CallsLaws.{calls-count}

-- ---- pairs

extended_none : (o : Option (List (ℕ × ℕ))) → o ≡ extended o []
extended_none None = refl
extended_none (Some ps) = ap (λ (qs : List (ℕ × ℕ)). Some qs) (sym (append-nil ps))

extended_twice : (o : Option (List (ℕ × ℕ))) (xs ys : List (ℕ × ℕ)) → extended (extended o xs) ys ≡ extended o (xs ++ ys)
extended_twice None xs ys = refl
extended_twice (Some ps) xs ys = ap (λ (qs : List (ℕ × ℕ)). Some qs) (append_assoc ps xs ys)

-- a place of a list in which one item was set
get_same : (old : List Line) (n : ℕ) (was now : Line) → slice_get old n ≡ Some was → slice_get (set old n now) n ≡ Some now
get_same [] n was now found = cc
get_same (x ∷ xs) zero was now found = refl
get_same (x ∷ xs) (suc n) was now found = get_same xs n was now found

get_other : (old : List Line) (n k : ℕ) (now : Line) → n ≢ k → slice_get (set old n now) k ≡ slice_get old k
get_other [] n k now ne = refl
get_other (x ∷ xs) zero zero now ne = absurd (ne refl)
get_other (x ∷ xs) zero (suc k) now ne = refl
get_other (x ∷ xs) (suc n) zero now ne = refl
get_other (x ∷ xs) (suc n) (suc k) now ne = get_other xs n k now (λ e. ne (ap suc e))

answer_pairs : (word received : ℕ) (refused : Bool) → (received == 65536) ≡ refused → pairs_of_answer word (answered received) ≡ pair_of word received
answer_pairs word received true e = rw e refl
answer_pairs word received false e = rw e refl

-- a device that was called, or another one
pairs_called : (old new : List Line) (n word received k : ℕ) → CallsOne old new n word (answered received) → ((n == k) ≡ true) × (n ≡ k) ⊎ ((n == k) ≡ false) × (n ≢ k) → pairs_at new k ≡ extended (pairs_at old k) (cond (n == k) (pair_of word received) [])
pairs_called old new n word received k c (inl h) =
    rw h.0 (subst (λ j. pairs_at new j ≡ extended (pairs_at old j) (pair_of word received)) h.1
    (ap (λ ls. pairs_at ls n) c.rest ∙ ap (option_and_then (λ (l : Line). l.pairs)) (get_same old n c.was c.now c.found) ∙ c.exchanged.pairs
    ∙ ap (extended c.was.pairs) (answer_pairs word received (received == 65536) refl)
    ∙ ap (λ o. extended o (pair_of word received)) (sym (ap (option_and_then (λ (l : Line). l.pairs)) c.found))))
pairs_called old new n word received k c (inr h) =
    rw h.0 (ap (λ ls. pairs_at ls k) c.rest ∙ ap (option_and_then (λ (l : Line). l.pairs)) (get_other old n k c.now h.1) ∙ extended_none (pairs_at old k))

-- ---- faults

risen_none : (o : Option Line) → HasRisen o 0 o
risen_none None = tt
risen_none (Some l) = (omega arith, λ none. refl)

risen_twice : (a b c : Option Line) (m n : ℕ) → HasRisen a m b → HasRisen b n c → HasRisen a (m + n) c
risen_twice None None None m n h k = tt
risen_twice None None (Some c) m n h k = absurd k
risen_twice None (Some b) c m n h k = absurd h
risen_twice (Some a) None None m n h k = tt
risen_twice (Some a) None (Some c) m n h k = absurd k
risen_twice (Some a) (Some b) None m n h k = tt
risen_twice (Some a) (Some b) (Some c) m n h k = let one = h.0 in let two = k.0 in (omega (arith, one, two), λ none. k.1 (omega (arith, none)) ∙ h.1 (omega (arith, none)))

refused_risen : (old new : List Line) (n word received : ℕ) (refused : Bool) → (received == 65536) ≡ refused → (c : CallsOne old new n word (answered received)) → HasRisen (Some c.was) (cond refused 1 0) (Some c.now)
refused_risen old new n word received true e c = let h = rw e at c.exchanged.cause.failed in (h, λ none. cc)
refused_risen old new n word received false e c = let h = c.exchanged.cause.later in let same = rw e at c.exchanged.cause.ok in (omega (arith, h), λ none. same)

faults_called : (old new : List Line) (n word received k : ℕ) → CallsOne old new n word (answered received) → ((n == k) ≡ true) × (n ≡ k) ⊎ ((n == k) ≡ false) × (n ≢ k) → HasRisen (slice_get old k) (cond ((n == k) && received == 65536) 1 0) (slice_get new k)
faults_called old new n word received k c (inl h) =
    rw h.0 (subst (λ j. HasRisen (slice_get old j) (cond (received == 65536) 1 0) (slice_get new j)) h.1
    (subst (λ o. HasRisen o (cond (received == 65536) 1 0) (slice_get new n)) (sym c.found)
    (subst (λ o. HasRisen (Some c.was) (cond (received == 65536) 1 0) o) (sym (ap (λ ls. slice_get ls n) c.rest ∙ get_same old n c.was c.now c.found))
    (refused_risen old new n word received (received == 65536) refl c))))
faults_called old new n word received k c (inr h) =
    rw h.0 (subst (λ o. HasRisen (slice_get old k) 0 o) (sym (ap (λ ls. slice_get ls k) c.rest ∙ get_other old n k c.now h.1)) (risen_none (slice_get old k)))

-- ---- one move

-- the device at a place is the selected one where the select names it by its place and 1
select_names : (select devices k : ℕ) → names_device select devices ≡ true → (select - 1 == k) ≡ (select == k + 1)
select_names select devices k h = grind (arith, nat_tests)

-- what a move makes of the device at a place
abbrev Told : Chip → Move → (received k : ℕ) → (old new : List Line) → Type 0
Told chip made received k old new =
    (pairs_at new k ≡ extended (pairs_at old k) (cond (is_under chip k made) (pair_of (sent_by chip made) received) []))
    × HasRisen (slice_get old k) (cond (is_under chip k made && received == 65536) 1 0) (slice_get new k)

told_none : (chip : Chip) (made : Move) (received k : ℕ) (old new : List Line) → is_under chip k made ≡ false → new ≡ old → Told chip made received k old new
told_none chip made received k old new out e = rw (out, e) (extended_none (pairs_at old k), risen_none (slice_get old k))

told_word : (chip : Chip) (u v received k : ℕ) (old new : List Line) (device : Bool) → has_device chip u ≡ device → CallsRight chip (Write (SerialData u) v) received old new → Told chip (Write (SerialData u) v) received k old new
told_word chip u v received k old new true e h =
    let select = (unit_at chip.serials u).select in
    let same = select_names select chip.devices k e in
    let c = rw e at h in
    rw (e, ← same) (pairs_called old new (select - 1) (outgoing (unit_at chip.serials u) v) received k c (eqb_tells (select - 1) k), faults_called old new (select - 1) (outgoing (unit_at chip.serials u) v) received k c (eqb_tells (select - 1) k))
told_word chip u v received k old new false e h = told_none chip (Write (SerialData u) v) received k old new (rw e refl) (rw e at h)

told_write : (chip : Chip) (r : Reg) (v received k : ℕ) (old new : List Line) → CallsRight chip (Write r v) received old new → Told chip (Write r v) received k old new
told_write chip (SerialData u) v received k old new h = told_word chip u v received k old new (has_device chip u) refl h
told_write chip r v received k old new h = told_none chip (Write r v) received k old new refl h

told_move : (chip : Chip) (made : Move) (received k : ℕ) (old new : List Line) → CallsRight chip made received old new → Told chip made received k old new
told_move chip (Write r v) received k old new h = told_write chip r v received k old new h
told_move chip made received k old new h = told_none chip made received k old new refl h

-- ---- a dropped device

get_fewer : (n : ℕ) (old : List Line) (k : ℕ) → k < length (take n old) → slice_get (take n old) k ≡ slice_get old k
get_fewer zero old k lt = absurd (omega (arith, lt))
get_fewer (suc n) [] k lt = refl
get_fewer (suc n) (x ∷ xs) zero lt = refl
get_fewer (suc n) (x ∷ xs) (suc k) lt = get_fewer n xs k (omega (arith, lt))

risen_fewer : (n : ℕ) (old : List Line) (k : ℕ) → HasRisen (slice_get old k) 0 (slice_get (take n old) k)
risen_fewer zero old k = tt
risen_fewer (suc n) [] k = tt
risen_fewer (suc n) (x ∷ xs) zero = (omega arith, λ none. refl)
risen_fewer (suc n) (x ∷ xs) (suc k) = risen_fewer n xs k

-- ---- deeds

-- what becomes of the device at a place, if it is still there
abbrev ToldWith : (pairs : List (ℕ × ℕ)) → (refusals k : ℕ) → (old new : List Line) → Type 0
ToldWith pairs refusals k old new = (k < length new → pairs_at new k ≡ extended (pairs_at old k) pairs) × HasRisen (slice_get old k) refusals (slice_get new k)

told_still : (k : ℕ) (old new : List Line) → new ≡ old → ToldWith [] 0 k old new
told_still k old new e = rw e (λ there. extended_none (pairs_at old k), risen_none (slice_get old k))

told_hardware : (order : Order) (k : ℕ) (old new : List Line) → LeavesAll order old new → ToldWith [] 0 k old new
told_hardware orders.Detach k old new h =
    rw h (λ there. ap (option_and_then (λ (l : Line). l.pairs)) (get_fewer (length old - 1) old k there) ∙ extended_none (pairs_at old k), risen_fewer (length old - 1) old k)
told_hardware order k old new h = told_still k old new h

told_deed : {Call : Type 0} (chip : Chip) (x : Transition Call) (k : ℕ) (old new : List Line) → DeedCalls chip x old new → ToldWith (pairs_by chip k x) (refusals_by chip k x) k old new
told_deed chip (Steps s) k old new h = let told = told_move chip s.made s.received k old new h in (λ there. told.0, told.1)
told_deed chip (Begins c level) k old new h = told_still k old new h
told_deed chip (Enters l) k old new h = told_still k old new h
told_deed chip (Happens order) k old new h = told_hardware order k old new h
told_deed chip (Resets reason) k old new h = told_still k old new h

told_all : {State Call : Type 0} (g : Setting State Call) (m : Moment State Call) (xs : List (Transition Call)) (k : ℕ) (old new : List Line) → AllCalls g m xs old new → ToldWith (pairs_from g m k xs) (refusals_from g m k xs) k old new
told_all g m [] k old new h = told_still k old new h
told_all g m (x ∷ xs) k old new h =
    let first = told_deed m.chip x k old h.0 h.1 in
    let rest = told_all g (after g m x) xs k h.0 new h.2 in
    let fewer = calls-count g (after g m x) xs h.0 new h.2 in (
      λ there. rest.0 there ∙ ap (λ o. extended o (pairs_from g (after g m x) k xs)) (first.0 (omega (arith, there, fewer))) ∙ extended_twice (pairs_at old k) (pairs_by m.chip k x) (pairs_from g (after g m x) k xs),
      risen_twice (slice_get old k) (slice_get h.0 k) (slice_get new k) (refusals_by m.chip k x) (refusals_from g (after g m x) k xs) first.1 rest.1,
    )

-- the devices after deeds that called them
pub are_told : {State Call : Type 0} (g : Setting State Call) (m : Moment State Call) (xs : List (Transition Call)) (old new : List Line) → AllCalls g m xs old new → AreTold g m xs old new
are_told g m xs old new h = record { count = calls-count g m xs old new h; pairs = λ k. (told_all g m xs k old new h).0; faults = λ k. (told_all g m xs k old new h).1 }
