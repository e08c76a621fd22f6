-- The writes that are owed, channel by channel.
use Rattle.std.proofs.Common.{◌≡◌, ℕ, zero, suc, ◌+◌, ◌*◌, ◌^◌, ◌<◌, ◌≤◌, Bool, List, [], ◌++◌, length, map, refl, sym, ◌∙◌, ap, arith, Option, Some, None}
use Rattle.std.proofs.lemmas.List.{length-map}
use Rattle.mcal_base.specs.declared.moves.Move.{Move}
use Rattle.module_machines.specs.pwm.Bounds.{duties, duty_of}
use Rattle.module_machines.specs.pwm.Table.{channel_of}
use Rattle.module_machines.specs.declared.pwm.table.Channel.{Channel}
use Rattle.module_machines.specs.declared.pwm.table.PwmTable.{PwmTable}
use Rattle.audit_subject.specs.Marks.{is_met, marks, with_marks}
use Rattle.audit_subject.proofs.Masks.{room}

module _ (d : PwmTable) (kind : ℕ → Move → Bool) where
  none : duties d kind 0 ≡ []
  unfolding duties
  none = refl

  next : (n : ℕ) → duty_of kind n (channel_of d n) ++ duties d kind n ≡ duties d kind (suc n)
  unfolding duties
  next n = refl

  few_more : (n : ℕ) (k : Option Channel) (rest : List (Move → Bool)) → length (duty_of kind n k ++ rest) ≤ suc (length rest)
  few_more n None rest = omega arith
  few_more n (Some k) rest = omega arith

  few : (n : ℕ) → length (duties d kind n) ≤ n
  few zero = omega (arith, ap length none)
  few (suc n) = omega (arith, ap length (next n), few_more n (channel_of d n) (duties d kind n), few n)

  module _ (made : Option Move) where
    put : (n : ℕ) (k : Option Channel) (rest : List (Move → Bool)) → with_marks made (duty_of kind n k) (marks made rest) ≡ marks made (duty_of kind n k ++ rest)
    put n None rest = refl
    put n (Some k) rest = refl

    -- no channel yet, and one more
    pub marks_none : 0 ≡ marks made (duties d kind 0)
    marks_none = ap (λ kinds. marks made kinds) (sym none)

    pub marks_more : (n mask : ℕ) → mask ≡ marks made (duties d kind n) → with_marks made (duty_of kind n (channel_of d n)) mask ≡ marks made (duties d kind (n + 1))
    marks_more n mask e =
        let more : suc n ≡ n + 1 = omega arith in
        ap (with_marks made (duty_of kind n (channel_of d n))) e
        ∙ (put n (channel_of d n) (duties d kind n) ∙ ap (λ kinds. marks made kinds) (next n ∙ ap (λ j. duties d kind j) more))

    pub marks_room : (n mask : ℕ) → n < 64 → mask ≡ marks made (duties d kind n) → 2 * mask + 1 < 2 ^ 64
    marks_room n mask lt e =
        let size : length (map (is_met made) (duties d kind n)) ≡ length (duties d kind n) = length-map (duties d kind n) (is_met made) in
        let fits = room (map (is_met made) (duties d kind n)) n 64 (omega (arith, size, few n)) lt in
        omega (arith, e, fits)
