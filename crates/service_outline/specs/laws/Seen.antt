-- What is legal of the windows of a frame, from what its body owes of them.
-- Used by Steps, wdg_driver: Lawful, driver_examples: held.ToyLaws, gpt_driver: Count, gpt_driver: Lawful.
use Rattle.std.proofs.Common.{◌≡◌, ℕ, suc, Bool, true, false, ◌&&◌, ◌||◌, List, [], ◌∷◌, Option, Some, None, refl, sym, ◌∙◌, ap, subst, arith}
use Rattle.std.specs.Prelude.{is_some, if◌then◌else◌}
use Rattle.std.specs.List.{Contains, list_any}
use Rattle.std.proofs.lemmas.Bool.{or_from, or_left, or_right}
use Rattle.chip_model.specs.Chip.{Chip, value_of}
use Rattle.mcal_base.specs.declared.answer.Answer.{Answer}
use Rattle.mcal_base.specs.declared.moves.DevError.{DevError}
use Rattle.mcal_base.specs.declared.moves.Event.{Event}
use Rattle.mcal_base.specs.declared.moves.Move.{Move}
use Rattle.mcal_base.specs.declared.moves.Move.TheVariants.{Read, Write, Load, Store, Mask, Unmask, Note, Report}
use Rattle.mcal_base.specs.declared.notice.Notice.{Notice}
use Rattle.mcal_base.specs.declared.register.Reg.{Reg}
use Rattle.mcal_base.specs.declared.register.Reg.TheVariants.{SerialWait}
use Rattle.run_model.specs.World.{World}
use Rattle.run_model.specs.Machine.{Told, Machine}
use Rattle.run_model.specs.Frame.{Origin, Called, Entered, is_shared, is_wait, is_act, since_after, acts_after}
use Rattle.run_model.specs.Legal.{low_half, commits, idles, commits_at_act, idles_at_act, is_beside_act, ComesAfter, WindowRight}
use Rattle.service_outline.specs.declared.done.Done.{Done}
use Rattle.service_outline.specs.declared.done.BodyTaken.{BodyTaken}
use Rattle.service_outline.specs.Outline.{After, Is_after, Serving, Is_serving}
use Rattle.service_outline.specs.FrameHistory.{FrameHistory, fresh_history, past_of}
use Rattle.service_outline.specs.Services.{ReservedBy, Services, AreEnding, AssertedAt, is_closed}
use Rattle.service_outline.specs.WindowHistory.{sets_output, is_windowed, WindowHistory, Plain, HasRead, Acting, Acted, IsSeen, MayOpen, LetsOpen, Starts, LeadsTo, Ends, Leads, ReadsAfter, ReadsRight, Sees, SeesTo}

-- ---- truth

one_false : (a b : Bool) → a ≡ false → a || b ≡ true → b ≡ true
one_false true b e h = absurd (cc)
one_false false b e h = h

not_both : {X : Type 0} (b : Bool) → b ≡ false → b ≡ true → X
not_both true e f = absurd (cc)
not_both false e f = absurd (cc)

-- ---- lists

either_more : (a b c d : Bool) → (a ≡ true → c ≡ true) → (b ≡ true → d ≡ true) → a || b ≡ true → c || d ≡ true
either_more true b c d f g h = or_left c d (f refl)
either_more false b c d f g h = or_right c d (g h)

any_more : (p q : Move → Bool) → ((m : Move) → p m ≡ true → q m ≡ true) → (ms : List Move) → list_any p ms ≡ true → list_any q ms ≡ true
any_more p q into [] h = absurd (cc)
any_more p q into (m ∷ ms) h = either_more (p m) (list_any p ms) (q m) (list_any q ms) (into m) (λ i. any_more p q into ms i) h

-- an element of a longer list
has_first : (m : Move) (ms : List Move) → Contains (m ∷ ms) m
has_first m ms = (0, omega arith, refl)

has_other : (m n : Move) (ms : List Move) → Contains ms m → Contains (n ∷ ms) m
has_other m n ms h = let lt = h.1 in (suc h.0, omega (arith, lt), h.2)

-- ---- what belongs beside an act sets an output

sets_by : (p q a b : Bool) → p && a || q && b ≡ true → a || b ≡ true
sets_by true true a b h = h
sets_by true false true b h = refl
sets_by true false false b h = absurd (cc)
sets_by false true a b h = or_right a b h
sets_by false false a b h = absurd (cc)

beside_sets : {State Call : Type 0} (mac : Machine State Call) (origin : Origin Call) (made : Move) → is_beside_act mac origin made ≡ true → sets_output made ≡ true
beside_sets mac (Called c) made h = sets_by (commits_at_act (mac.service_of c)) (idles_at_act (mac.service_of c)) (commits made) (idles made) h
beside_sets mac (Entered l) made h = absurd (cc)

-- ---- what is seen goes on

pub seen_start : (is : WindowHistory) → Starts is → IsSeen is [] false
seen_start Plain h = refl
seen_start (HasRead r) h = absurd h
seen_start Acting h = tt
seen_start Acted h = absurd h

-- a body begins where no output was set
pub seen_begins : (is : WindowHistory) (since : List Move) (acts : Bool) → Starts is → list_any sets_output since ≡ false → IsSeen is since acts
seen_begins Plain since acts s h = h
seen_begins (HasRead r) since acts s h = absurd s
seen_begins Acting since acts s h = tt
seen_begins Acted since acts s h = absurd s

pub seen_on : (was is : WindowHistory) (since : List Move) (acts : Bool) (made : Move) (e : Option Event) → LeadsTo was made e is → IsSeen was since acts → IsSeen is (made ∷ since) (acts || is_act e)
seen_on was Acting since acts made e l h = tt
seen_on Plain Acted since acts made e l h = or_right acts (is_act e) l
seen_on (HasRead r) Acted since acts made e l h = or_right acts (is_act e) l
seen_on Acting Acted since acts made e l h = or_right acts (is_act e) l
seen_on Acted Acted since acts made e l h = or_left acts (is_act e) h
seen_on Plain Plain since acts made e l h = or_from (sets_output made) (list_any sets_output since) l h
seen_on (HasRead r) Plain since acts made e l h = or_from (sets_output made) (list_any sets_output since) l h.0
seen_on Acting Plain since acts made e l h = absurd l
seen_on Acted Plain since acts made e l h = absurd l
seen_on Plain (HasRead r) since acts made e l h = (or_from (sets_output made) (list_any sets_output since) (ap sets_output l) h, subst (λ m. Contains (m ∷ since) (Read r)) (sym l) (has_first (Read r) since))
seen_on (HasRead q) (HasRead r) since acts made e l h = (or_from (sets_output made) (list_any sets_output since) l.0 h.0, subst (λ x. Contains (made ∷ since) (Read x)) l.1 (has_other (Read q) made since h.1))
seen_on Acting (HasRead r) since acts made e l h = absurd l
seen_on Acted (HasRead r) since acts made e l h = absurd l

-- and the mask may be opened then
pub seen_settled : (was : WindowHistory) (since : List Move) (acts : Bool) → LetsOpen was → IsSeen was since acts → MayOpen since acts
seen_settled Plain since acts s h = λ e. not_both (list_any sets_output since) h e
seen_settled (HasRead r) since acts s h = λ e. not_both (list_any sets_output since) h.0 e
seen_settled Acting since acts s h = absurd s
seen_settled Acted since acts s h = λ e. h

sets_now : (a b c d : Bool) → b ≡ false → (a ≡ true → d ≡ true) → a || b ≡ true → c || d ≡ true
sets_now true b c d e f h = or_right c d (f refl)
sets_now false b c d e f h = not_both b e h

pub seen_ends : (was : WindowHistory) (since : List Move) (acts : Bool) (made : Move) (e : Option Event) → Ends was made e → IsSeen was since acts → MayOpen (made ∷ since) (acts || is_act e)
seen_ends Plain since acts made e l h = λ i. sets_now (sets_output made) (list_any sets_output since) acts (is_act e) h l i
seen_ends (HasRead r) since acts made e l h = λ i. sets_now (sets_output made) (list_any sets_output since) acts (is_act e) h.0 l i
seen_ends Acting since acts made e l h = λ i. or_right acts (is_act e) l
seen_ends Acted since acts made e l h = λ i. or_left acts (is_act e) h

-- ---- what a step of a body owes is what is legal

reads_right : (was : WindowHistory) (closed : Bool) (since : List Move) (acts : Bool) (low : Option Reg) → ReadsAfter was closed low → IsSeen was since acts → ComesAfter closed since low
reads_right was closed since acts None l h = tt
reads_right was closed since acts (Some r) l h = let i = subst (λ x. IsSeen x since acts) l.1 h in (l.0, i.1)

read_right : (was : WindowHistory) (closed : Bool) (since : List Move) (acts : Bool) (r : Reg) → ReadsRight was closed r → IsSeen was since acts → ComesAfter closed since (low_half r)
read_right was closed since acts (SerialWait u) l h = tt
read_right was closed since acts r l h = reads_right was closed since acts (low_half r) l h

-- a wait stands with the mask open
pub waits_open : (was is : WindowHistory) (closed : Bool) (made : Move) (e : Option Event) (left : Option Done) → Sees was closed made e is left → is_wait made ≡ true → closed ≡ false
waits_open was is closed (Read (SerialWait u)) e left l w = l.0
waits_open was is closed _ e left l w = cc

pub opens_right : {State Call : Type 0} (mac : Machine State Call) (origin : Origin Call) (since : List Move) (acts more : Bool) → MayOpen since acts → list_any (is_beside_act mac origin) since ≡ true → acts || more ≡ true
opens_right mac origin since acts more ok h = or_left acts more (ok (any_more (is_beside_act mac origin) sets_output (beside_sets mac origin) since h))

pub window_right : {State Call : Type 0} (mac : Machine State Call) (origin : Origin Call) (was is : WindowHistory) (closed : Bool) (since : List Move) (acts : Bool) (made : Move) (e : Option Event) (left : Option Done) → Sees was closed made e is left → IsSeen was since acts → WindowRight (is_beside_act mac origin) closed since (acts || is_act e) made
window_right mac origin was is closed since acts (Read r) e left l h = read_right was closed since acts r l.0 h
window_right mac origin was is closed since acts (Write r v) e left l h = λ i. l.0 (beside_sets mac origin (Write r v) i)
window_right mac origin was is closed since acts (Load k) e left l h = tt
window_right mac origin was is closed since acts (Store k v) e left l h = tt
window_right mac origin was is closed since acts Mask e left l h = tt
window_right mac origin was is closed since acts Unmask e left l h = opens_right mac origin since acts (is_act e) (seen_settled was since acts l.0 h)
window_right mac origin was is closed since acts (Note n) e left l h = tt
window_right mac origin was is closed since acts (Report r) e left l h = tt

-- how a frame stands after such a step, where it goes on and where it is done
abbrev pub SeesOn : (is : WindowHistory) → (since : List Move) → (acts : Bool) → Option Done → Type 0
SeesOn is since acts None = IsSeen is since acts
SeesOn is since acts (Some n) = MayOpen since acts

leads_on : (was is : WindowHistory) (since : List Move) (acts : Bool) (made : Move) (e : Option Event) (left : Option Done) → Leads was made e is left → IsSeen was since acts → SeesOn is (made ∷ since) (acts || is_act e) left
leads_on was is since acts made e None l h = seen_on was is since acts made e l h
leads_on was is since acts made e (Some n) l h = seen_ends was since acts made e l h

starts_on : (is : WindowHistory) (acts : Bool) (left : Option Done) → acts ≡ false → Starts is → SeesOn is [] acts left
starts_on is acts None e h = subst (λ b. IsSeen is [] b) (sym e) (seen_start is h)
starts_on is acts (Some n) e h = λ i. absurd (cc)

pub sees_on : (was is : WindowHistory) (closed : Bool) (since : List Move) (acts : Bool) (made : Move) (e : Option Event) (left : Option Done) → (made ≡ Mask → is_act e ≡ false) → Sees was closed made e is left → IsSeen was since acts → SeesOn is (since_after since made) (acts_after acts made e) left
sees_on was is closed since acts (Read r) e left n l h = leads_on was is since acts (Read r) e left l.1 h
sees_on was is closed since acts (Write r v) e left n l h = leads_on was is since acts (Write r v) e left l.1 h
sees_on was is closed since acts (Load k) e left n l h = leads_on was is since acts (Load k) e left l h
sees_on was is closed since acts (Store k v) e left n l h = leads_on was is since acts (Store k v) e left l h
sees_on was is closed since acts Mask e left n l h = starts_on is (is_act e) left (n refl) l
sees_on was is closed since acts Unmask e left n l h = starts_on is false left refl l.1
sees_on was is closed since acts (Note k) e left n l h = leads_on was is since acts (Note k) e left l h
sees_on was is closed since acts (Report r) e left n l h = leads_on was is since acts (Report r) e left l h

-- a move that names a register or a word doesn't close the mask
pub not_mask : (made : Move) (e : Option Event) → is_shared made ≡ false → made ≡ Mask → is_act e ≡ false
not_mask made e p i = let f : is_shared Mask ≡ false = sym (ap is_shared i) ∙ p in absurd (cc)

-- ---- bodies that do nothing of that kind

quiet_leads : (made : Move) (e : Option Event) (left : Option Done) → sets_output made ≡ false → Leads Plain made e Plain left
quiet_leads made e None h = h
quiet_leads made e (Some n) h = λ i. not_both (sets_output made) h i

first_false : (a b : Bool) → a || b ≡ false → a ≡ false
first_false true b h = absurd (cc)
first_false false b h = refl

low_none : (closed : Bool) (low : Option Reg) → is_some low ≡ false → ReadsAfter Plain closed low
low_none closed None h = tt
low_none closed (Some r) h = absurd (cc)

plain_reads : (closed : Bool) (r : Reg) → is_windowed (Read r) ≡ false → ReadsRight Plain closed r
plain_reads closed (SerialWait u) h = absurd (cc)
plain_reads closed r h = low_none closed (low_half r) (first_false (is_some (low_half r)) (is_wait (Read r)) h)

-- a step that is neither a read of a high half nor a write that sets an output nor a wait
pub plain_sees : (closed : Bool) (made : Move) (e : Option Event) (left : Option Done) → is_windowed made ≡ false → Sees Plain closed made e Plain left
plain_sees closed (Read r) e left h = (plain_reads closed r h, quiet_leads (Read r) e left refl)
plain_sees closed (Write r v) e left h = (λ i. not_both (sets_output (Write r v)) h i, quiet_leads (Write r v) e left h)
plain_sees closed (Load k) e left h = quiet_leads (Load k) e left refl
plain_sees closed (Store k v) e left h = quiet_leads (Store k v) e left refl
plain_sees closed Mask e left h = tt
plain_sees closed Unmask e left h = (tt, tt)
plain_sees closed (Note n) e left h = quiet_leads (Note n) e left refl
plain_sees closed (Report r) e left h = quiet_leads (Report r) e left refl

-- a step whose outcome is chosen
pub sees_if : {Body : Type 0} (seen : Body → WindowHistory) (closed : Bool) (made : Move) (k : Body) (q : Bool) (a b : Body × BodyTaken) → SeesTo seen closed made k a → SeesTo seen closed made k b → SeesTo seen closed made k (if q then a else b)
sees_if seen closed made k true a b h i = h
sees_if seen closed made k false a b h i = i

-- a wait with the mask open
wait_sees : (made : Move) (e : Option Event) (left : Option Done) → is_wait made ≡ true → Sees Plain false made e Plain left
wait_sees (Read (SerialWait u)) e left h = (refl, quiet_leads (Read (SerialWait u)) e left refl)
wait_sees _ e left h = absurd (cc)

-- what is so of the moves that turn the mask and tell, and of those that a frame may make, is so of each move that it makes
of_moves : (X : Move → Type 0) (may : Move → Bool) → X Mask → X Unmask → ((n : Notice) → X (Note n)) → ((e : DevError) → X (Report e)) → ((made : Move) → may made ≡ true → X made) → (made : Move) → is_shared made || may made ≡ true → X made
of_moves X may closes opens notes reports others (Read r) i = others (Read r) i
of_moves X may closes opens notes reports others (Write r v) i = others (Write r v) i
of_moves X may closes opens notes reports others (Load n) i = others (Load n) i
of_moves X may closes opens notes reports others (Store n v) i = others (Store n v) i
of_moves X may closes opens notes reports others Mask i = closes
of_moves X may closes opens notes reports others Unmask i = opens
of_moves X may closes opens notes reports others (Note n) i = notes n
of_moves X may closes opens notes reports others (Report e) i = reports e

module _ {State Call Asked Body : Type 0} (d : Services State Call Asked Body) {ends_with : Body → Option Answer} (law : AreEnding d.basis d.bodies ends_with) (plain : (k : Body) → d.seen k ≡ Plain) where
  -- what a body's step at a place owes of its window
  abbrev SeesAt : Chip → Body → Type 0
  SeesAt chip k = SeesTo d.seen (is_closed (d.bodies.assertion k)) (d.bodies.work_of k) k (d.bodies.takes k (value_of chip (d.bodies.work_of k)))

  -- at places that are plain
  plain_at : (chip : Chip) (k : Body) → let p = d.bodies.takes k (value_of chip (d.bodies.work_of k)) in Sees Plain (is_closed (d.bodies.assertion k)) (d.bodies.work_of k) p.1.event Plain p.1.done → SeesAt chip k
  plain_at chip k h =
      let made = d.bodies.work_of k in
      let p = d.bodies.takes k (value_of chip made) in
      subst (λ x. Sees x (is_closed (d.bodies.assertion k)) made p.1.event (d.seen p.0) p.1.done) (sym (plain k)) (subst (λ x. Sees Plain (is_closed (d.bodies.assertion k)) made p.1.event x p.1.done) (sym (plain p.0)) h)

  -- bodies whose frames may do nothing of that kind
  pub free_windows : ((origin : Origin Call) (made : Move) → d.basis.setting.may origin made ≡ true → is_windowed made ≡ false) → (below : List (ReservedBy Call d.basis.Reservation)) (chip : Chip) (w : World) (s : State) (k : Body) (origin : Origin Call) (past : FrameHistory) → AssertedAt d.basis d.bodies below chip w s k origin past → SeesAt chip k
  free_windows free below chip w s k origin past h =
      let made = d.bodies.work_of k in
      let p = d.bodies.takes k (value_of chip made) in
      plain_at chip k (plain_sees (is_closed (d.bodies.assertion k)) made p.1.event p.1.done (of_moves (λ m. is_windowed m ≡ false) (d.basis.setting.may origin) refl refl (λ n. refl) (λ e. refl) (free origin) made (law.own below chip w s k origin past h)))

  -- bodies whose frames may do nothing of that kind but wait, where the mask is open
  pub waiting_windows : ((origin : Origin Call) (made : Move) → d.basis.setting.may origin made ≡ true → is_windowed made ≡ is_wait made) → ((k : Body) → is_wait (d.bodies.work_of k) ≡ true → is_closed (d.bodies.assertion k) ≡ false) → (below : List (ReservedBy Call d.basis.Reservation)) (chip : Chip) (w : World) (s : State) (k : Body) (origin : Origin Call) (past : FrameHistory) → AssertedAt d.basis d.bodies below chip w s k origin past → SeesAt chip k
  waiting_windows free opens below chip w s k origin past h = plain_at chip k (by (is_wait made) refl)
    where
      made : Move
      made = d.bodies.work_of k

      p : Body × BodyTaken
      p = d.bodies.takes k (value_of chip made)

      by : (q : Bool) → is_wait made ≡ q → Sees Plain (is_closed (d.bodies.assertion k)) made p.1.event Plain p.1.done
      by true e = subst (λ b. Sees Plain b made p.1.event Plain p.1.done) (sym (opens k e)) (wait_sees made p.1.event p.1.done e)
      by false e = plain_sees (is_closed (d.bodies.assertion k)) made p.1.event p.1.done (of_moves (λ m. is_windowed m ≡ is_wait m) (d.basis.setting.may origin) refl refl (λ n. refl) (λ x. refl) (free origin) made (law.own below chip w s k origin past h) ∙ e)

-- ---- a frame that has done nothing yet

-- isn't after an act,
pub never_after : {Call X : Type 0} {c : Call} {t : Told} (o : Origin Call) (told : Option Told) → told ≡ None → After c t o told → X
never_after o told e Is_after = absurd (cc)

pub begun_after : {State Call X : Type 0} (mac : Machine State Call) {c : Call} {t : Told} (o : Origin Call) (told : Option Told) (times : ℕ → Option ℕ) → fresh_history ≡ past_of mac told o times → After c t o told → X
begun_after mac {t = t} o told times is Is_after = let e : None ≡ Some t.answer = ap (λ x. x.acted) is in absurd (cc)

-- and a call's serves no line
pub never_serving : {Call X : Type 0} {l : ℕ} (c : Call) (o : Origin Call) (told : Option Told) → o ≡ Called c → Serving l o told → X
never_serving c o told e Is_serving = absurd (cc)
