-- A cell: its machine, what its calls do, and how the chip stands for its state.
use Rattle.std.specs.Prelude.{◌≡◌, ℕ, ◌<◌, ◌==◌, Bool, true, false, List, [], ◌∷◌, Option, Some, None}
use Rattle.chip_model.specs.Chip.{Chip, word_of}
use Rattle.chip_model.specs.Histories.{HasAll}
use Rattle.mcal_base.specs.declared.layout.TheConstants.{SOURCES}
use Rattle.mcal_base.specs.declared.answer.Answer.{Answer}
use Rattle.mcal_base.specs.declared.answer.Head.TheVariants.{Numbers}
use Rattle.mcal_base.specs.declared.module_name.ModuleName.TheVariants.{Gpt}
use Rattle.mcal_base.specs.declared.moves.Event.TheVariants.{Act}
use Rattle.mcal_base.specs.declared.moves.Move.{Move}
use Rattle.mcal_base.specs.declared.moves.Move.TheVariants.{Load, Store}
use Rattle.mcal_base.specs.declared.routine.Taken.{Taken}
use Rattle.mcal_base.specs.declared.service.Service.TheVariants.{GptInit}
use Rattle.run_model.specs.declared.class.Kind.TheVariants.{Query}
use Rattle.run_model.specs.declared.class.Tag.{Tag}
use Rattle.run_model.specs.World.{World}
use Rattle.run_model.specs.Machine.{Happening, Acts, Moves, Restarts, Outcome, Machine, outcome, no_answer, tells_nothing}
use Rattle.run_model.specs.Frame.{Called, Open, opened}
use Rattle.run_model.specs.Moment.{Setting}
use Rattle.step_runner.specs.Driver.{Driver}
use Rattle.driver_examples.specs.declared.three.cell.CellCall.{CellCall}
use Rattle.driver_examples.specs.declared.three.cell.CellCall.TheVariants.{Get, Put}
use Rattle.driver_examples.specs.declared.three.cell.CellFrame.{CellFrame}

-- the move of a call, and its answer by the value that is loaded
abbrev pub call_move : (word : ℕ) → CellCall → Move
call_move word Get = Load word
call_move word (Put v) = Store word v

abbrev pub cell_move : CellFrame → Move
cell_move f = call_move f.word f.call

abbrev pub answer_of : CellCall → (value : ℕ) → Answer
answer_of Get value = record { head = Numbers; words = value ∷ [] }
answer_of (Put v) value = no_answer

abbrev pub cell_gave : CellFrame → ℕ → Taken
cell_gave f value = record { event = Some Act; ended = Some (answer_of f.call value) }

-- the state is the word: a call leaves it, or makes it another one
abbrev pub value_after : CellCall → ℕ → ℕ
value_after Get s = s
value_after (Put v) s = v

abbrev pub cell_happens : World → ℕ → Happening CellCall → Option (Outcome ℕ)
cell_happens w s (Acts c times) = Some (outcome (value_after c s) (record { answer = answer_of c s; error = None; notices = [] }))
cell_happens w s (Moves order) = Some (outcome s tells_nothing)
cell_happens w s (Restarts reason) = Some (outcome 0 tells_nothing)
cell_happens w s _ = None

abbrev pub cell_machine : Machine ℕ CellCall
cell_machine = record {
  happens = cell_happens;
  ready = λ w s l. false;
  due = λ w s l. false;
  line_waits = λ w s l. false;
  startable = λ w s u. false;
  rate = λ s. 1;
  expires = λ w s. None;
  service_of = λ c. GptInit;
  reporting = λ c. record { detect = true; classification = 1 };
  polls = λ w s c. [];
}

-- the move names this word
abbrev pub names : ℕ → Move → Bool
names word (Load k) = k == word
names word (Store k v) = k == word
names word _ = false

abbrev pub cell_setting : ℕ → Setting ℕ CellCall
cell_setting word = record {
  machine = cell_machine;
  first = 0;
  class_of = λ c. record { kind = Query; «module» = Gpt; key = None };
  level_of = λ l. 1;
  owner_of = λ l. Gpt;
  used = λ l. false;
  steps_of = λ o. 1;
  window_of = λ o. 1;
  may = λ o made. names word made;
  halves = λ c. None;
  must = λ c. [];
  fills = λ c. false;
  in_use = λ w s c. false;
  rest = λ chip w s. word_of chip word ≡ s;
  unmasked = λ chip w s origins. word_of chip word ≡ s;
  shows = λ origin n chip s. Unit {0};
}

-- no frame has made a step
pub data AllNew (word : ℕ) : List (CellFrame × Open CellCall) → Type 0 where
  No_frame : AllNew word []
  New_frame : (c : CellCall) (tag : Tag) (ps : List (CellFrame × Open CellCall)) → AllNew word ps → AllNew word ((record { word = word; call = c }, opened (Called c) tag) ∷ ps)

-- the chip has all its parts, and the word is the state
pub record CellRelates (word : ℕ) (chip : Chip) (w : World) (ps : List (CellFrame × Open CellCall)) (s : ℕ) : Type 0 where
  pub all : HasAll chip
  pub value : word_of chip word ≡ s
  pub frames : AllNew word ps

-- its word lies below the source arrays, which the hardware may fill
abbrev pub cell : ℕ → Driver ℕ CellCall CellFrame
cell word = record {
  fits = word < SOURCES;
  can_call = λ c. Unit {0};
  setting = cell_setting word;
  frame_of = λ c. record { word = word; call = c };
  handler_of = λ l. None;
  wired = λ chip. Unit {0};
  relates = CellRelates word;
  fuel = λ f. 1;
  room = λ f. 0;
  lines = λ l. false;
  watches = false;
  count = λ s. 0;
  owns = λ o made. names word made;
}
