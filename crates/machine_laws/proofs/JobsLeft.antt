-- A sequence that is left alone is pending no longer than it has jobs.
use Rattle.std.proofs.Common.{◌≡◌, ℕ, ◌+◌, ◌<◌, ◌≤◌, ◌||◌, not, Bool, true, false, List, length, Option, Some, None, refl, sym, ◌∙◌, ap, subst, arith}
use Rattle.std.specs.Prelude.{find, if◌then◌else◌}
use Rattle.mcal_base.specs.facts.Numbers.{lt_is}
use Rattle.mcal_base.specs.facts.Options.{some_is}
use Rattle.mcal_base.specs.declared.answer_name.AnswerName.{AnswerName}
use Rattle.run_model.specs.Frame.{state_by}
use Rattle.run_model.specs.Machine.{Happening, Serves, Outcome}
use Rattle.run_model.specs.World.{World}
use Rattle.spi_machine.proofs.SequenceChanges.{found}
use Rattle.spi_machine.specs.Machine.{spi_machine, ready, served, run_of, unit_of}
use Rattle.spi_machine.specs.Pending.{Pending, is_of, goes_to_next, has_further}
use Rattle.spi_machine.specs.Promised.{drops}
use Rattle.spi_machine.specs.Runs.{Occurrence, state_after}
use Rattle.spi_machine.specs.State.{SpiState}
use Rattle.spi_machine.specs.Table.{jobs_of}
use Rattle.spi_machine.specs.Transfers.{Run}
use Rattle.spi_machine.specs.declared.call.Call.{Call}
use Rattle.spi_machine.specs.declared.table.SpiTable.{SpiTable}
use Rattle.machine_laws.specs.serial.Alone.{StaysPending, Now, Later, Ending}
use Rattle.machine_laws.specs.serial.Ends.{EndsWith, Sequel, IsLeft, Starting, GoingOn, BeingCancelled, EndsAtOnce, EndsCancelled, EndsFailed, EndsOk}
use Rattle.machine_laws.proofs.Sequels.{happens_sequel, has_to_end, has_to_go_on}

-- so many jobs are left
abbrev Left : SpiTable → ℕ → ℕ → Type 0
Left d q next = next < length (jobs_of d q)

-- a further job is there
further_left : (d : SpiTable) (q : ℕ) (p : Pending) → p.sequence ≡ q → has_further d p ≡ true → Left d q (p.next + 1)
further_left d q p own e = subst (λ (k : ℕ). Left d k (p.next + 1)) own (lt_is (p.next + 1) (length (jobs_of d p.sequence)) e)

-- it is no earlier than it was, and has a job left
abbrev GoesOn : SpiTable → ℕ → Pending → Pending → Type 0
GoesOn d q p after = (p.next ≤ after.next) × Left d q after.next

sequel_on : (d : SpiTable) (s : SpiState) (q : ℕ) (p after : Pending) {h : Happening Call} {o : Option Pending} {r : AnswerName} → p.sequence ≡ q → Left d q p.next → Sequel d s q p h o r → o ≡ Some after → GoesOn d q p after
sequel_on d s q p after own left IsLeft e = subst (λ (x : Pending). GoesOn d q p x) (some_is p after e) (omega arith, left)
sequel_on d s q p after own left (Starting unit made_by received u next n k m) e = subst (λ (x : Pending). GoesOn d q p x) (some_is _ after e) (omega arith, left)
sequel_on d s q p after own left (GoingOn line received r w c f g) e = subst (λ (x : Pending). GoesOn d q p x) (some_is _ after e) (omega arith, further_left d q p own g)
sequel_on d s q p after own left (BeingCancelled times b) e = subst (λ (x : Pending). GoesOn d q p x) (some_is _ after e) (omega arith, left)
sequel_on d s q p after own left (EndsAtOnce times b) e = absurd (cc e)
sequel_on d s q p after own left (EndsCancelled line received r w c) e = absurd (cc e)
sequel_on d s q p after own left (EndsFailed line received r w c f) e = absurd (cc e)
sequel_on d s q p after own left (EndsOk line received r w c f g) e = absurd (cc e)

step_by : (d : SpiTable) (w : World) (s : SpiState) (q : ℕ) (p after : Pending) (h : Happening Call) (o : Option (Outcome SpiState)) → (spi_machine d).happens w s h ≡ o → find (is_of q) s.pending ≡ Some p → drops h ≡ false → Left d q p.next
    → find (is_of q) (state_by s o).pending ≡ Some after → GoesOn d q p after
step_by d w s q p after h None e there kept left is = subst (λ (x : Pending). GoesOn d q p x) (some_is p after (sym there ∙ is)) (omega arith, left)
step_by d w s q p after h (Some out) e there kept left is = sequel_on d s q p after (found q p s.pending there).0 left (happens_sequel d s q p there w h out e kept).1 is

-- what is pending
pending_in : {d : SpiTable} {q : ℕ} {s : SpiState} {xs : List Occurrence} {n : ℕ} → StaysPending d q s xs n → (p : Pending) × (find (is_of q) s.pending ≡ Some p)
pending_in (Now s p there) = (p, there)
pending_in (Later s p x xs n there kept rest) = (p, there)
pending_in (Ending s p x xs n line received r there is on own rest) = (p, there)

-- its job ends, and it stays pending: a further job is there
end_by : (d : SpiTable) (w : World) (s : SpiState) (q line received : ℕ) (p after : Pending) (r : Run) (out : Outcome SpiState) (b : Bool) → (spi_machine d).happens w s (Serves line received) ≡ Some out → find (is_of q) s.pending ≡ Some p → EndsWith s q line r
    → p.cancelled || r.transfer.failed || not (has_further d p) ≡ b → find (is_of q) out.state.pending ≡ Some after → (after ≡ goes_to_next p) × (has_further d p ≡ true)
end_by d w s q line received p after r out true made there own e is = absurd (cc (sym (has_to_end d w s line received out q p r made there own e) ∙ is))
end_by d w s q line received p after r out false made there own e is =
    (sym (some_is (goes_to_next p) after (sym (has_to_go_on d w s line received out q p r made there own e) ∙ is)), last_false (p.cancelled || r.transfer.failed) (has_further d p) e)
  where
    last_false : (a g : Bool) → a || not g ≡ false → g ≡ true
    last_false true g e = absurd (cc e)
    last_false false true e = refl
    last_false false false e = absurd (cc e)

end_on : (d : SpiTable) (x : Occurrence) (s : SpiState) (q line received : ℕ) (p after : Pending) (r : Run) → find (is_of q) s.pending ≡ Some p → x.what ≡ Serves line received → ready x.world s line ≡ true → EndsWith s q line r
    → find (is_of q) (state_after d x.world s x.what).pending ≡ Some after → (after.next ≡ p.next + 1) × Left d q after.next
end_on d x s q line received p after r there is on own e =
    let out : Outcome SpiState = served d x.world s (unit_of line) received (run_of s (unit_of line)) in
    let made : (spi_machine d).happens x.world s (Serves line received) ≡ Some out = ap (λ (b : Bool). if b then Some out else None) on in
    let same : state_after d x.world s x.what ≡ out.state = ap (λ h. state_after d x.world s h) is ∙ ap (λ o. state_by s o) made in
    let ends = end_by d x.world s q line received p after r out _ made there own refl (ap (λ (t : SpiState). find (is_of q) t.pending) (sym same) ∙ e) in
    let next : after.next ≡ p.next + 1 = ap (λ (y : Pending). y.next) ends.0 in
    (next, subst (λ (k : ℕ). Left d q k) (sym next) (further_left d q p (found q p s.pending there).0 ends.1))

pub fewer_ends : (d : SpiTable) (q : ℕ) (s : SpiState) (p : Pending) {xs : List Occurrence} {n : ℕ} → StaysPending d q s xs n → find (is_of q) s.pending ≡ Some p → p.next < length (jobs_of d q) → p.next + n < length (jobs_of d q)
fewer_ends d q s p (Now t y there) is left = omega (arith, left)
fewer_ends d q s p (Later t y x xs n there kept rest) is left =
    let after = pending_in rest in
    let on = step_by d x.world s q p after.0 x.what ((spi_machine d).happens x.world s x.what) refl is kept left after.1 in
    omega (arith, on.0, fewer_ends d q (state_after d x.world s x.what) after.0 rest after.1 on.1)
fewer_ends d q s p (Ending t y x xs n line received r there what on own rest) is left =
    let after = pending_in rest in
    let ends = end_on d x s q line received p after.0 r is what on own after.1 in
    omega (arith, ends.0, fewer_ends d q (state_after d x.world s x.what) after.0 rest after.1 ends.1)
