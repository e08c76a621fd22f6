-- What a frame has done in its present window, as far as the place of its body tells it.
use Rattle.std.specs.Prelude.{◌≡◌, Bool, true, false, ◌||◌, List, Option, Some, None, is_some}
use Rattle.std.specs.List.{Contains, list_any}
use Rattle.mcal_base.specs.declared.moves.Event.{Event}
use Rattle.mcal_base.specs.declared.moves.Move.{Move}
use Rattle.mcal_base.specs.declared.moves.Move.TheVariants.{Read, Write, Load, Store, Mask, Unmask, Note, Report}
use Rattle.mcal_base.specs.declared.register.Reg.{Reg}
use Rattle.mcal_base.specs.declared.register.Reg.TheVariants.{SerialWait}
use Rattle.run_model.specs.Frame.{is_act, is_wait}
use Rattle.run_model.specs.Legal.{low_half, commits, idles}
use Rattle.service_outline.specs.declared.done.Done.{Done}
use Rattle.service_outline.specs.declared.done.BodyTaken.{BodyTaken}

-- a write that commits a pulse output, or idles it
abbrev pub sets_output : Move → Bool
sets_output made = commits made || idles made

-- a move that belongs into one window with another one, or into none: the read of a high half, a write that sets an output, and a wait
abbrev pub is_windowed : Move → Bool
is_windowed (Read r) = is_some (low_half r) || is_wait (Read r)
is_windowed (Write r v) = sets_output (Write r v)
is_windowed (Load k) = false
is_windowed (Store k v) = false
is_windowed Mask = false
is_windowed Unmask = false
is_windowed (Note n) = false
is_windowed (Report e) = false

-- what a frame has surely done since it last closed or opened the mask
pub data WindowHistory : Type 0 where
  -- it has set no output
  Plain : WindowHistory
  -- nor that, and it has read this register
  HasRead : Reg → WindowHistory
  -- it may have set outputs, and acts before it opens the mask
  Acting : WindowHistory
  -- it has acted
  Acted : WindowHistory

abbrev pub IsSeen : WindowHistory → (since : List Move) → (acts : Bool) → Type 0
IsSeen Plain since acts = list_any sets_output since ≡ false
IsSeen (HasRead r) since acts = (list_any sets_output since ≡ false) × Contains since (Read r)
IsSeen Acting since acts = Unit {0}
IsSeen Acted since acts = acts ≡ true

-- it may open the mask: if it has set outputs, it has acted
abbrev pub MayOpen : (since : List Move) → (acts : Bool) → Type 0
MayOpen since acts = list_any sets_output since ≡ true → acts ≡ true

-- so it may open the mask
abbrev pub LetsOpen : WindowHistory → Type 0
LetsOpen Plain = Unit {0}
LetsOpen (HasRead r) = Unit {0}
LetsOpen Acting = ⊥
LetsOpen Acted = Unit {0}

-- so it stands where it has done nothing since
abbrev pub Starts : WindowHistory → Type 0
Starts Plain = Unit {0}
Starts (HasRead r) = ⊥
Starts Acting = Unit {0}
Starts Acted = ⊥

-- a step with this move and event that doesn't turn the mask leads from the one to the other
abbrev pub LeadsTo : (was : WindowHistory) → Move → Option Event → (is : WindowHistory) → Type 0
LeadsTo was made e Acting = Unit {0}
LeadsTo Acted made e Acted = Unit {0}
LeadsTo was made e Acted = is_act e ≡ true
LeadsTo Plain made e Plain = sets_output made ≡ false
LeadsTo (HasRead r) made e Plain = sets_output made ≡ false
LeadsTo Plain made e (HasRead r) = made ≡ Read r
LeadsTo (HasRead q) made e (HasRead r) = (sets_output made ≡ false) × (q ≡ r)
LeadsTo was made e is = ⊥

-- after such a step the frame may open the mask
abbrev pub Ends : (was : WindowHistory) → Move → Option Event → Type 0
Ends Plain made e = sets_output made ≡ true → is_act e ≡ true
Ends (HasRead r) made e = sets_output made ≡ true → is_act e ≡ true
Ends Acting made e = is_act e ≡ true
Ends Acted made e = Unit {0}

-- a body goes on so, or is done
abbrev pub Leads : (was : WindowHistory) → Move → Option Event → (is : WindowHistory) → Option Done → Type 0
Leads was made e is None = LeadsTo was made e is
Leads was made e is (Some n) = Ends was made e

-- what is asked of the read of a high half
abbrev pub ReadsAfter : (was : WindowHistory) → (closed : Bool) → (low : Option Reg) → Type 0
ReadsAfter was closed None = Unit {0}
ReadsAfter was closed (Some low) = (closed ≡ true) × (was ≡ HasRead low)

-- what is asked of a read: a wait stands with the mask open
abbrev pub ReadsRight : (was : WindowHistory) → (closed : Bool) → Reg → Type 0
ReadsRight was closed (SerialWait u) = closed ≡ false
ReadsRight was closed r = ReadsAfter was closed (low_half r)

-- what a body's step owes of its window
abbrev pub Sees : (was : WindowHistory) → (closed : Bool) → Move → Option Event → (is : WindowHistory) → Option Done → Type 0
Sees was closed (Read r) e is left = ReadsRight was closed r × Leads was (Read r) e is left
Sees was closed (Write r v) e is left = (sets_output (Write r v) ≡ true → closed ≡ true) × Leads was (Write r v) e is left
Sees was closed (Load k) e is left = Leads was (Load k) e is left
Sees was closed (Store k v) e is left = Leads was (Store k v) e is left
Sees was closed Mask e is left = Starts is
Sees was closed Unmask e is left = LetsOpen was × Starts is
Sees was closed (Note n) e is left = Leads was (Note n) e is left
Sees was closed (Report r) e is left = Leads was (Report r) e is left

-- the same, by what the step makes of the body
abbrev pub SeesTo : {Body : Type 0} → (Body → WindowHistory) → (closed : Bool) → Move → Body → Body × BodyTaken → Type 0
SeesTo seen closed made k p = Sees (seen k) closed made p.1.event (seen p.0) p.1.done
