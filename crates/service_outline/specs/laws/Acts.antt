-- What is legal of where a frame acted, and of what it read and wrote, from what its body owes.
-- From StepKinds.
-- Used by Steps, wdg_driver: Body, driver_examples: held.ToyLaws, gpt_driver: Mode, gpt_driver: Switch and 6 more.
use Rattle.std.proofs.Common.{◌≡◌, ℕ, ◌<◌, Bool, true, false, ◌&&◌, ◌||◌, List, [], ◌∷◌, Option, Some, None, refl, sym, ◌∙◌, subst, arith}
use Rattle.std.specs.List.{Contains}
use Rattle.std.proofs.lemmas.Bool.{or_from}
use Rattle.mcal_base.specs.declared.error_name.ErrorName.{ErrorName}
use Rattle.mcal_base.specs.declared.moves.Event.{Event}
use Rattle.mcal_base.specs.declared.moves.Event.TheVariants.{Act, Serve, Abort, Start}
use Rattle.mcal_base.specs.declared.moves.Move.{Move}
use Rattle.mcal_base.specs.declared.moves.Move.TheVariants.{Read, Write, Load, Store, Mask, Unmask, Note, Report}
use Rattle.mcal_base.specs.declared.register.Reg.{Reg}
use Rattle.run_model.specs.Machine.{Told}
use Rattle.run_model.specs.Frame.{Origin, Called, Entered, ActedAt, Open, is_write, reads_after}
use Rattle.run_model.specs.Moment.{Setting, Halves}
use Rattle.run_model.specs.Legal.{ActsLow, HalvesRight, halves_of, ErrorsRight, WritesNothing}
use Rattle.service_outline.specs.Acts.{is_quiet, KeepsClean, Cleans, StandsClean, ActsRight, IsFresh, LowSound, IsSound, Behaves, LeavesRight}
use Rattle.service_outline.specs.declared.done.Done.{Done}
use Rattle.service_outline.specs.declared.done.BodyTaken.{BodyTaken}
use Rattle.service_outline.specs.laws.StepKinds.{acted_then}

-- a body without a clean place
pub never_clean : {Body : Type 0} (made : Move) (k : Body) (p : Body × BodyTaken) → Cleans (λ k. false) made k p
never_clean made k p = by p.1.done
  where
    by : (left : Option Done) → KeepsClean false made false left
    by None = λ e. absurd (cc)
    by (Some n) = tt

quiet_write : (made : Move) → is_quiet made ≡ true → is_write made ≡ false
quiet_write (Read r) e = absurd (cc)
quiet_write (Write r v) e = absurd (cc)
quiet_write (Load k) e = refl
quiet_write (Store k v) e = absurd (cc)
quiet_write Mask e = refl
quiet_write Unmask e = refl
quiet_write (Note n) e = refl
quiet_write (Report x) e = refl

quiet_reads : (made : Move) (rs : List Reg) → is_quiet made ≡ true → reads_after rs made ≡ rs
quiet_reads (Read r) rs e = absurd (cc)
quiet_reads (Write r v) rs e = refl
quiet_reads (Load k) rs e = refl
quiet_reads (Store k v) rs e = refl
quiet_reads Mask rs e = refl
quiet_reads Unmask rs e = refl
quiet_reads (Note n) rs e = refl
quiet_reads (Report x) rs e = refl

none_read : (rs : List Reg) (r : Reg) → rs ≡ [] → Contains rs r → ⊥
none_read [] r e h = let lt : h.0 < 0 = h.1 in absurd (omega (arith, lt))
none_read (x ∷ xs) r e h = absurd (cc)

-- a body that goes on is sound, whatever it reads and writes
sound_low : (h : Halves) (reads : List Reg) (at : ActedAt) (e : Option ErrorName) → e ≡ None → LowSound (Some h) at → ActsLow h reads at e
sound_low h reads at None i low = λ a b. low
sound_low h reads at (Some x) i low = absurd (cc)

no_error : (wrote : Bool) (e : Option ErrorName) → e ≡ None → WritesNothing wrote e
no_error wrote None i = tt
no_error wrote (Some x) i = absurd (cc)

sound_halves : (h : Option Halves) (reads : List Reg) (at : Option ActedAt) → IsSound h at → HalvesRight h reads at
sound_halves None reads at s = tt
sound_halves (Some h) reads None s = tt
sound_halves (Some h) reads (Some at) s = sound_low h reads at at.error s.0 s.1

sound_errors : (h : Option Halves) (wrote : Bool) (at : Option ActedAt) → IsSound h at → ErrorsRight wrote at
sound_errors h wrote None s = tt
sound_errors h wrote (Some at) s = no_error wrote at.error s.0

pub sound_leaves : {State Call : Type 0} (g : Setting State Call) (origin : Origin Call) (reads : List Reg) (wrote : Bool) (at : Option ActedAt) → IsSound (halves_of g origin) at → LeavesRight g origin reads wrote at
sound_leaves g origin reads wrote at s = (sound_halves (halves_of g origin) reads at s, sound_errors (halves_of g origin) wrote at s)

or_none : (b : Bool) → b ≡ (b || false)
or_none true = refl
or_none false = refl

-- a move that neither reads a register nor writes changes nothing of it
pub leaves_on : {State Call : Type 0} (g : Setting State Call) (origin : Origin Call) (reads : List Reg) (wrote : Bool) (at : Option ActedAt) → LeavesRight g origin reads wrote at → LeavesRight g origin reads (wrote || false) at
leaves_on g origin reads wrote at h = (h.0, subst (λ b. ErrorsRight b at) (or_none wrote) h.1)

-- a frame that has done nothing yet behaves
pub fresh_behaves : {State Call : Type 0} (g : Setting State Call) (clean : Bool) (o : Open Call) → IsFresh o → Behaves g clean o
fresh_behaves g clean o h = record { wrote = λ e. h.wrote; reads = λ e. h.reads; acted = subst (λ x. IsSound (halves_of g o.origin) x) (sym h.acted) tt }

pub fresh_on : {Call : Type 0} (o : Open Call) → IsFresh o → IsFresh (record o { wrote = o.wrote || false })
fresh_on o h = record { wrote = or_from o.wrote false h.wrote refl; reads = h.reads; writes = h.writes; acted = h.acted; since = h.since }

pub fresh_leaves : {State Call : Type 0} (g : Setting State Call) (origin : Origin Call) (o : Open Call) → IsFresh o → LeavesRight g origin o.reads (o.wrote || false) o.acted_at
fresh_leaves g origin o h = sound_leaves g origin o.reads (o.wrote || false) o.acted_at (subst (λ x. IsSound (halves_of g origin) x) (sym h.acted) tt)

-- a quiet move leaves it so
pub wrote_quiet : (wrote : Bool) (made : Move) → is_quiet made ≡ true → wrote ≡ false → wrote || is_write made ≡ false
wrote_quiet wrote made q e = or_from wrote (is_write made) e (quiet_write made q)

pub reads_quiet : (reads : List Reg) (made : Move) → is_quiet made ≡ true → reads ≡ [] → reads_after reads made ≡ []
reads_quiet reads made q e = quiet_reads made reads q ∙ e

module _ {State Call : Type 0} (g : Setting State Call) (clean : Bool) (o : Open Call) (h : Behaves g clean o) (made : Move) where
  -- where the body goes on without an event
  pub goes_behaves : (is : Bool) (o1 : Open Call) → KeepsClean clean made is None → o1.origin ≡ o.origin → o1.wrote ≡ (o.wrote || is_write made) → o1.reads ≡ reads_after o.reads made → IsSound (halves_of g o1.origin) o1.acted_at → Behaves g is o1
  goes_behaves is o1 keeps i wrote reads sound = record {
    wrote = λ e. let k = keeps e in wrote ∙ wrote_quiet o.wrote made k.1 (h.wrote k.0);
    reads = λ e. let k = keeps e in reads ∙ reads_quiet o.reads made k.1 (h.reads k.0);
    acted = sound;
  }

  -- an act that goes on found no error, and stands at the low half
  goes_error : (c : Call) (x : Option Halves) (t : Told) (e : Option ErrorName) → t.error ≡ e → StandsClean x clean made None e → IsSound x (Some (record { made = made; inside = true; error = t.error }))
  goes_error c None t None i a = (i, tt)
  goes_error c (Some y) t None i a = (i, (a, refl))
  goes_error c x t (Some e) i a = absurd a

  pub goes_sound : (origin : Origin Call) (e : Event) (t : Told) → o.origin ≡ origin → ActsRight g origin e clean made t None → IsSound (halves_of g origin) (acted_then origin made e t o.acted_at)
  goes_sound (Called c) Act t i a = goes_error c (g.halves c) t t.error refl a
  goes_sound (Called c) (Serve k) t i a = subst (λ x. IsSound (halves_of g x) o.acted_at) i h.acted
  goes_sound (Called c) (Abort u) t i a = subst (λ x. IsSound (halves_of g x) o.acted_at) i h.acted
  goes_sound (Called c) (Start u) t i a = subst (λ x. IsSound (halves_of g x) o.acted_at) i h.acted
  goes_sound (Entered l) e t i a = subst (λ x. IsSound (halves_of g x) o.acted_at) i h.acted

  -- where the body is done with its act
  ends_low : (y : Halves) (q : Bool) → clean && is_quiet made ≡ q → (q ≡ false → made ≡ Read y.low) → Contains (reads_after o.reads made) y.low → (made ≡ Read y.low) × (true ≡ true)
  ends_low y false e a r = (a refl, refl)
  ends_low y true e a r = absurd (none_read (reads_after o.reads made) y.low (reads_quiet o.reads made (second clean (is_quiet made) e) (h.reads (first clean (is_quiet made) e))) r)
    where
      first : (a b : Bool) → a && b ≡ true → a ≡ true
      first true b e = refl
      first false b e = absurd (cc)

      second : (a b : Bool) → a && b ≡ true → b ≡ true
      second true b e = e
      second false b e = absurd (cc)

  ends_error : (x : Option Halves) (t : Told) (n : Done) (e : Option ErrorName) → t.error ≡ e → StandsClean x clean made (Some n) e → HalvesRight x (reads_after o.reads made) (Some (record { made = made; inside = true; error = t.error })) × ErrorsRight (o.wrote || is_write made) (Some (record { made = made; inside = true; error = t.error }))
  ends_error None t n None i a = (tt, no_error (o.wrote || is_write made) t.error i)
  ends_error (Some y) t n None i a = (subst (λ e. ActsLow y (reads_after o.reads made) (record { made = made; inside = true; error = t.error }) e) (sym i) (λ r s. ends_low y (clean && is_quiet made) refl a r), no_error (o.wrote || is_write made) t.error i)
  ends_error x t n (Some e) i a = (leaves x, subst (λ e. WritesNothing (o.wrote || is_write made) e) (sym i) (or_from o.wrote (is_write made) (h.wrote a.0) a.1))
    where
      leaves : (y : Option Halves) → HalvesRight y (reads_after o.reads made) (Some (record { made = made; inside = true; error = t.error }))
      leaves None = tt
      leaves (Some z) = subst (λ e. ActsLow z (reads_after o.reads made) (record { made = made; inside = true; error = t.error }) e) (sym i) tt

  pub ends_leaves : (origin : Origin Call) (e : Event) (t : Told) (n : Done) → o.origin ≡ origin → ActsRight g origin e clean made t (Some n) → LeavesRight g origin (reads_after o.reads made) (o.wrote || is_write made) (acted_then origin made e t o.acted_at)
  ends_leaves (Called c) Act t n i a = ends_error (g.halves c) t n t.error refl a
  ends_leaves (Called c) (Serve k) t n i a = sound_leaves g (Called c) (reads_after o.reads made) (o.wrote || is_write made) o.acted_at (subst (λ x. IsSound (halves_of g x) o.acted_at) i h.acted)
  ends_leaves (Called c) (Abort u) t n i a = sound_leaves g (Called c) (reads_after o.reads made) (o.wrote || is_write made) o.acted_at (subst (λ x. IsSound (halves_of g x) o.acted_at) i h.acted)
  ends_leaves (Called c) (Start u) t n i a = sound_leaves g (Called c) (reads_after o.reads made) (o.wrote || is_write made) o.acted_at (subst (λ x. IsSound (halves_of g x) o.acted_at) i h.acted)
  ends_leaves (Entered l) e t n i a = sound_leaves g (Entered l) (reads_after o.reads made) (o.wrote || is_write made) o.acted_at (subst (λ x. IsSound (halves_of g x) o.acted_at) i h.acted)

-- a refused call acts at the load of its state word, where it is clean
pub refused_leaves : {State Call : Type 0} (g : Setting State Call) (o : Open Call) (c : Call) (word : ℕ) (t : Told) (n : Done) → IsFresh o → o.origin ≡ Called c → LeavesRight g (Called c) (reads_after o.reads (Load word)) (o.wrote || false) (acted_then (Called c) (Load word) Act t o.acted_at)
refused_leaves g o c word t n fresh i = ends_leaves g true o (fresh_behaves g true o fresh) (Load word) (Called c) Act t n i (by (g.halves c) t.error)
  where
    by : (x : Option Halves) (e : Option ErrorName) → StandsClean x true (Load word) (Some n) e
    by None None = tt
    by (Some y) None = λ e. absurd (cc)
    by x (Some e) = (refl, refl)
