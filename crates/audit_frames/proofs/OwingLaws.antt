-- Notices that a frame owes, and its moves of mask, notices and report.
use Rattle.std.proofs.Common.{◌≡◌, Bool, not, List, [], ◌∷◌, ◌++◌, map, Option, Some, None, refl, sym, ◌∙◌, ap, subst}
use Rattle.mcal_base.specs.declared.moves.DevError.{DevError}
use Rattle.mcal_base.specs.declared.moves.Event.{Event}
use Rattle.mcal_base.specs.declared.moves.Move.{Move}
use Rattle.mcal_base.specs.declared.moves.Move.TheVariants.{Read, Write, Load, Store, Mask, Unmask, Note, Report}
use Rattle.mcal_base.specs.declared.notice.Notice.{Notice}
use Rattle.run_model.specs.Frame as frame
use Rattle.run_model.specs.Legal.{Owes, MoveRight}
use Rattle.run_model.specs.Machine.{Outcome, Told}
use Rattle.audit_frames.specs.Decides.{Decides}
use Rattle.audit_frames.specs.OwingRules.{is_empty, put, owe, owed_by, owed_after, given, is_owed, is_reported, move_right}
use Rattle.audit_frames.specs.StandsFor.{owing_of}
use Rattle.audit_frames.specs.Told.{IsTold}
use Rattle.audit_frames.specs.declared.owing.Owing.{Owing}
use Rattle.audit_frames.proofs.Deciding.{both, clear, itself, no, worded, yes}
use Rattle.audit_frames.proofs.SameLaws.{notices_same, reports_same}

-- ---- what is owed

-- nothing is owed
pub owes_none : (ns : List Owing) (os : List frame.Owing) → map owing_of ns ≡ os → Decides (is_empty ns) (os ≡ [])
owes_none [] os e = yes (sym e)
owes_none (n ∷ ns) os e = no (λ h. absurd (cc))

pub owes_some : (ns : List Owing) (os : List frame.Owing) → map owing_of ns ≡ os → Decides (not (not (is_empty ns))) (os ≡ [])
owes_some [] os e = yes (sym e)
owes_some (n ∷ ns) os e = no (λ h. absurd (cc))

append_one : {X : Type 0} (xs ys : List X) (x : X) → (xs ++ x ∷ []) ++ ys ≡ xs ++ x ∷ ys
append_one [] ys x = refl
append_one (z ∷ xs) ys x = ap (λ zs. z ∷ zs) (append_one xs ys x)

append_none : {X : Type 0} (xs : List X) → xs ++ [] ≡ xs
append_none [] = refl
append_none (z ∷ xs) = ap (λ zs. z ∷ zs) (append_none xs)

map_one : (xs : List Owing) (x : Owing) → map owing_of (xs ++ x ∷ []) ≡ map owing_of xs ++ owing_of x ∷ []
map_one [] x = refl
map_one (z ∷ xs) x = ap (λ zs. owing_of z ∷ zs) (map_one xs x)

-- notices that are owed too
owe_kept : (ns : List Owing) (notices : List Notice) (served : Bool) → map owing_of (owe ns notices served) ≡ map owing_of ns ++ frame.owing served notices
owe_kept ns [] served = sym (append_none (map owing_of ns))
owe_kept ns (n ∷ more) served =
    owe_kept (put ns n served) more served
    ∙ (ap (λ xs. xs ++ frame.owing served more) (map_one ns (record { notice = n; served = served }))
    ∙ append_one (map owing_of ns) (frame.owing served more) (record { notice = n; served = served }))

owed_same : {State : Type 0} (ns : List Owing) (os : List frame.Owing) (e : Option Event) (t : Told) (out : Option (Outcome State)) → IsTold e t out → map owing_of ns ≡ os → map owing_of (owed_by ns e t.notices) ≡ frame.owed_by os e out
owed_same ns os None t (Some out) h same = absurd (cc)
owed_same ns os None t None h same = same
owed_same ns os (Some e) t None h same = absurd h
owed_same ns os (Some e) t (Some out) h same =
    owe_kept ns t.notices (frame.is_serving (Some e))
    ∙ (ap (λ xs. xs ++ frame.owing (frame.is_serving (Some e)) t.notices) same
    ∙ ap (λ (x : Told). os ++ frame.owing (frame.is_serving (Some e)) x.notices) (sym h))

rest_given : (ns : List Owing) (n : Notice) → map owing_of (given ns (Note n)) ≡ frame.rest_of (map owing_of ns)
rest_given [] n = refl
rest_given (x ∷ ns) n = refl

given_same : (ns : List Owing) (os : List frame.Owing) (made : Move) → map owing_of ns ≡ os → map owing_of (given ns made) ≡ frame.owed_after os made
given_same ns os (Note n) e = rest_given ns n ∙ ap (λ x. frame.rest_of x) e
given_same ns os Mask e = e
given_same ns os Unmask e = e
given_same ns os (Report x) e = e
given_same ns os (Read r) e = e
given_same ns os (Write r v) e = e
given_same ns os (Load k) e = e
given_same ns os (Store k v) e = e

pub owed_kept : {State : Type 0} (ns : List Owing) (os : List frame.Owing) (made : Move) (e : Option Event) (t : Told) (out : Option (Outcome State)) → IsTold e t out → map owing_of ns ≡ os → map owing_of (owed_after ns made e t.notices) ≡ frame.owed_after (frame.owed_by os e out) made
owed_kept ns os made e t out h same = given_same (owed_by ns e t.notices) (frame.owed_by os e out) made (owed_same ns os e t out h same)

-- ---- moves

owed_first : (ns : List Owing) (n : Notice) → Decides (is_owed ns n) (Owes (map owing_of ns) n)
owed_first [] n = no (λ h. h)
owed_first (x ∷ ns) n = notices_same x.notice n

next_owed : (ns : List Owing) (os : List frame.Owing) (n : Notice) → map owing_of ns ≡ os → Decides (is_owed ns n) (Owes os n)
next_owed ns os n e = subst (λ xs. Decides (is_owed ns n) (Owes xs n)) e (owed_first ns n)

reported_right : (r q : Option DevError) (e : DevError) → r ≡ q → Decides (is_reported r e) (q ≡ Some e)
reported_right None q e same = no (λ h. absurd (cc))
reported_right (Some r) q e same = worded (λ x. sym same ∙ ap (λ y. Some y) x) (λ h. cc) (reports_same r e)

pub move_is : (inside : Bool) (ns : List Owing) (os : List frame.Owing) (r q : Option DevError) (made : Move) → map owing_of ns ≡ os → r ≡ q → Decides (move_right inside ns r made) (MoveRight inside os q made)
move_is inside ns os r q Mask e same = clear inside
move_is inside ns os r q Unmask e same = itself inside
move_is inside ns os r q (Note n) e same = both (clear inside) (next_owed ns os n e)
move_is inside ns os r q (Report x) e same = reported_right r q x same
move_is inside ns os r q (Read x) e same = yes tt
move_is inside ns os r q (Write x v) e same = yes tt
move_is inside ns os r q (Load k) e same = yes tt
move_is inside ns os r q (Store k v) e same = yes tt
