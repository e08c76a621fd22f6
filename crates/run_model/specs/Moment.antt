-- A moment of a run: the chip, the outside, the machine's state and the frames under way; and what comes after it.
use Rattle.std.specs.Prelude.{ℕ, ◌+◌, Bool, false, ◌||◌, List, [], ◌∷◌, Option, Some, None}
use Rattle.std.specs.List.{list_any}
use Rattle.chip_model.specs.Chip.{Chip, chip_after, happened, reset_chip}
use Rattle.mcal_base.specs.declared.notice.Notice.{Notice}
use Rattle.mcal_base.specs.declared.directive.Order.{Order}
use Rattle.mcal_base.specs.declared.directive.Reason.{Reason}
use Rattle.mcal_base.specs.declared.module_name.ModuleName.{ModuleName}
use Rattle.mcal_base.specs.declared.moves.Move.{Move}
use Rattle.mcal_base.specs.declared.register.Reg.{Reg}
use Rattle.run_model.specs.declared.class.Class.{Class}
use Rattle.run_model.specs.declared.class.Tag.{Tag}
use Rattle.run_model.specs.declared.item.Stepped.{Stepped}
use Rattle.run_model.specs.World.{World, world_start, world_after}
use Rattle.run_model.specs.Causes.{reads_source}
use Rattle.run_model.specs.Machine.{Machine, Moves, Restarts}
use Rattle.run_model.specs.Frame.{Origin, Called, Entered, Open, opened, state_by, state_after, open_after, top_after}

-- the registers of a counter that is read in halves
pub record Halves : Type 0 where
  pub low : Reg
  pub high : Reg

-- What a run is over: a machine, its calls and lines, and the bounds of its frames.
pub record Setting (State Call : Type 0) : Type 1 where
  pub machine : Machine State Call
  -- the state after power on
  pub first : State
  pub class_of : Call → Class
  -- the level of a line, the module of its handler, and whether a configured object uses it
  pub level_of : ℕ → ℕ
  pub owner_of : ℕ → ModuleName
  pub used : ℕ → Bool
  -- the most steps of a frame, and the most moves of its windows
  pub steps_of : Origin Call → ℕ
  pub window_of : Origin Call → ℕ
  -- whether a frame may make a move: it names a register or a word of its module, or lines of its module alone
  pub may : Origin Call → Move → Bool
  -- the halves of the counter that a call reads
  pub halves : Call → Option Halves
  -- what a call owes that finds no error: before it ends it has made a write of each of these kinds
  pub must : Call → List (Move → Bool)
  -- the source arrays that there are, and whether the machine has one in use
  pub fills : (channel : ℕ) → Bool
  pub in_use : World → State → (channel : ℕ) → Bool
  -- with no frame: pins, RAM and user arrays are the machine's
  pub rest : Chip → World → State → Type 0
  -- wherever the mask is open, with these frames under way: outputs and user arrays that are the machine's at every time
  pub unmasked : Chip → World → State → List (Origin Call) → Type 0
  -- at a notice of a frame of this origin: the user arrays of the object that it names are the machine's
  pub shows : Origin Call → Notice → Chip → State → Type 0

-- a call under way reads the source array of a channel
abbrev pub reads_from : {State Call : Type 0} → Setting State Call → (channel : ℕ) → Origin Call → Bool
reads_from g c (Called call) = reads_source c (Some (g.class_of call))
reads_from g c (Entered l) = false

-- a source array is busy: the machine has it in use, or a call under way reads it
abbrev pub is_busy : {State Call : Type 0} → Setting State Call → World → State → List (Origin Call) → (channel : ℕ) → Bool
is_busy g w s origins c = g.in_use w s c || list_any (reads_from g c) origins

-- what is done in a run: a call begins at a level, a handler begins, the top frame makes a step, the hardware moves, the chip is reset
pub data Transition (Call : Type 0) : Type 0 where
  Begins : Call → (level : ℕ) → Transition Call
  Enters : (line : ℕ) → Transition Call
  Steps : Stepped → Transition Call
  Happens : Order → Transition Call
  Resets : Reason → Transition Call

-- A moment.
pub record Moment (State Call : Type 0) : Type 0 where
  pub chip : Chip
  pub world : World
  pub state : State
  -- the frames under way, the newest first
  pub opens : List (Open Call)
  -- the steps that were made so far
  pub steps : ℕ

-- the tag of a call's frame, and of a handler's
abbrev pub call_tag : {State Call : Type 0} → Setting State Call → Call → ℕ → Tag
call_tag g c level = record { level = level; owner = (g.class_of c).module; class = Some (g.class_of c) }

abbrev pub line_tag : {State Call : Type 0} → Setting State Call → ℕ → Tag
line_tag g l = record { level = g.level_of l; owner = g.owner_of l; class = None }

-- at power on, with this chip and its devices
abbrev pub start_moment : {State Call : Type 0} → Setting State Call → Chip → Moment State Call
start_moment g chip = record { chip = chip; world = world_start chip.devices; state = g.first; opens = []; steps = 0 }

-- after a step of the top frame
abbrev pub after_step : {State Call : Type 0} → Setting State Call → Moment State Call → List (Open Call) → Stepped → Moment State Call
after_step g m [] s = m
after_step g m (o ∷ os) s = record {
  chip = chip_after m.chip s.made s.received;
  world = m.world;
  state = state_after g.machine m.world m.state o s.made s.received s.event;
  opens = top_after (open_after g.machine m.world m.state o s.made s.received s.event) s.ended os;
  steps = m.steps + 1;
}

-- after the hardware moved: the machine is told before the time goes on
abbrev pub after_hardware : {State Call : Type 0} → Setting State Call → Moment State Call → Order → Moment State Call
after_hardware g m order = record {
  chip = happened m.chip order;
  world = world_after m.world (g.machine.rate m.state) order;
  state = state_by m.state (g.machine.happens m.world m.state (Moves order));
  opens = m.opens;
  steps = m.steps;
}

-- after a reset: every frame is dropped, and the time goes on
abbrev pub after_reset : {State Call : Type 0} → Setting State Call → Moment State Call → Reason → Moment State Call
after_reset g m reason = record {
  chip = reset_chip m.chip reason;
  world = m.world;
  state = state_by m.state (g.machine.happens m.world m.state (Restarts reason));
  opens = [];
  steps = m.steps;
}

abbrev pub after : {State Call : Type 0} → Setting State Call → Moment State Call → Transition Call → Moment State Call
after g m (Begins c level) = record m { opens = opened (Called c) (call_tag g c level) ∷ m.opens }
after g m (Enters l) = record m { opens = opened (Entered l) (line_tag g l) ∷ m.opens }
after g m (Steps s) = after_step g m m.opens s
after g m (Happens order) = after_hardware g m order
after g m (Resets reason) = after_reset g m reason

-- the moment after a list of deeds
abbrev pub after_all : {State Call : Type 0} → Setting State Call → Moment State Call → List (Transition Call) → Moment State Call
after_all g m [] = m
after_all g m (d ∷ ds) = after_all g (after g m d) ds
