-- The latches that are owed, pin by pin.
use Rattle.std.proofs.Common.{◌≡◌, ℕ, zero, suc, ◌+◌, ◌*◌, ◌^◌, ◌<◌, ◌≤◌, Bool, List, [], ◌++◌, length, map, refl, sym, ◌∙◌, ap, arith, Option, Some, None}
use Rattle.std.proofs.lemmas.List.{length-map}
use Rattle.mcal_base.specs.declared.moves.Move.{Move}
use Rattle.module_machines.specs.port.Bounds.{latch_duties, latch_duty}
use Rattle.module_machines.specs.port.Table.{pin_of}
use Rattle.module_machines.specs.declared.port.table.Pin.{Pin}
use Rattle.module_machines.specs.declared.port.table.PortTable.{PortTable}
use Rattle.audit_subject.specs.Marks.{is_met, marks, with_marks}
use Rattle.audit_subject.proofs.Masks.{room}

module _ (d : PortTable) where
  none : latch_duties d 0 ≡ []
  unfolding latch_duties
  none = refl

  next : (n : ℕ) → latch_duty n (pin_of d n) ++ latch_duties d n ≡ latch_duties d (suc n)
  unfolding latch_duties
  next n = refl

  few_more : (n : ℕ) (k : Option Pin) (rest : List (Move → Bool)) → length (latch_duty n k ++ rest) ≤ suc (length rest)
  few_more n None rest = omega arith
  few_more n (Some k) rest = omega arith

  few : (n : ℕ) → length (latch_duties d n) ≤ n
  few zero = omega (arith, ap length none)
  few (suc n) = omega (arith, ap length (next n), few_more n (pin_of d n) (latch_duties d n), few n)

  module _ (made : Option Move) where
    put : (n : ℕ) (k : Option Pin) (rest : List (Move → Bool)) → with_marks made (latch_duty n k) (marks made rest) ≡ marks made (latch_duty n k ++ rest)
    put n None rest = refl
    put n (Some k) rest = refl

    -- no pin yet, and one more
    pub marks_none : 0 ≡ marks made (latch_duties d 0)
    marks_none = ap (λ kinds. marks made kinds) (sym none)

    pub marks_more : (n mask : ℕ) → mask ≡ marks made (latch_duties d n) → with_marks made (latch_duty n (pin_of d n)) mask ≡ marks made (latch_duties d (n + 1))
    marks_more n mask e =
        let more : suc n ≡ n + 1 = omega arith in
        ap (with_marks made (latch_duty n (pin_of d n))) e
        ∙ (put n (pin_of d n) (latch_duties d n) ∙ ap (λ kinds. marks made kinds) (next n ∙ ap (λ j. latch_duties d j) more))

    pub marks_room : (n mask : ℕ) → n < 64 → mask ≡ marks made (latch_duties d n) → 2 * mask + 1 < 2 ^ 64
    marks_room n mask lt e =
        let size : length (map (is_met made) (latch_duties d n)) ≡ length (latch_duties d n) = length-map (latch_duties d n) (is_met made) in
        let fits = room (map (is_met made) (latch_duties d n)) n 64 (omega (arith, size, few n)) lt in
        omega (arith, e, fits)
