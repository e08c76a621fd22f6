-- A sweep: for each object of so many this move, in turn.
use Rattle.std.specs.Prelude.{ℕ, ◌+◌, nat_lt, if◌then◌else◌}
use Rattle.mcal_base.specs.declared.moves.Move.{Move}
use Rattle.mcal_base.specs.declared.moves.Move.TheVariants.{Mask, Unmask}
use Rattle.service_outline.specs.Done.{goes}
use Rattle.service_outline.specs.declared.done.BodyTaken.{BodyTaken}
use Rattle.service_outline.specs.declared.sweep.SweepStage.{SweepStage}
use Rattle.service_outline.specs.declared.sweep.SweepStage.TheVariants.{Opens, At, Closes, Follows}
use Rattle.service_outline.specs.declared.sweep.Sweep.{Sweep}

-- the place of an object, or what follows the last one
abbrev pub next_of : {P : Type 0} → (count : ℕ) → (ℕ → P) → P → ℕ → P
next_of count at after i = if nat_lt i count then at i else after

-- below i the new, from i on the old
abbrev pub swept : {A : Type 0} → (i : ℕ) → (new old : ℕ → A) → ℕ → A
swept i new old k = if nat_lt k i then new k else old k

-- ---- a sweep with the mask open

abbrev pub place_of : {B : Type 0} → (count i : ℕ) → SweepStage B
place_of count i = next_of count (λ j. At j) Closes i

abbrev pub work_at : {S B : Type 0} → (S → ℕ → Move) → (B → Move) → S → SweepStage B → Move
work_at move work a Opens = Unmask
work_at move work a (At i) = move a i
work_at move work a Closes = Mask
work_at move work a (Follows k) = work k

abbrev pub sweep_work : {S B : Type 0} → (S → ℕ → Move) → (B → Move) → Sweep S B → Move
sweep_work move work p = work_at move work p.objects p.place

abbrev pub takes_at : {S B : Type 0} → (S → ℕ) → (S → B) → (B → ℕ → B × BodyTaken) → S → SweepStage B → ℕ → SweepStage B × BodyTaken
takes_at count after takes a Opens x = (place_of (count a) 0, goes)
takes_at count after takes a (At i) x = (place_of (count a) (i + 1), goes)
takes_at count after takes a Closes x = (Follows (after a), goes)
takes_at count after takes a (Follows k) x = (Follows (takes k x).0, (takes k x).1)

abbrev pub sweep_takes : {S B : Type 0} → (S → ℕ) → (S → B) → (B → ℕ → B × BodyTaken) → Sweep S B → ℕ → Sweep S B × BodyTaken
sweep_takes count after takes p x = (record { objects = p.objects; place = (takes_at count after takes p.objects p.place x).0 }, (takes_at count after takes p.objects p.place x).1)
