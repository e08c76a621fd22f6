-- The bounds of frames, what frames may name, and what a run of the module is over.
use Rattle.std.specs.Prelude.{ℕ, nat_lt, Bool, true, false, ◌&&◌, not, [], None}
use Rattle.mcal_base.specs.declared.module_name.ModuleName.TheVariants.{Wdg}
use Rattle.mcal_base.specs.declared.moves.Move.{Move}
use Rattle.mcal_base.specs.declared.moves.Move.TheVariants.{Read, Write, Load, Store}
use Rattle.mcal_base.specs.declared.register.Reg.{Reg}
use Rattle.mcal_base.specs.declared.register.Reg.TheVariants.{WatchdogLoad}
use Rattle.run_model.specs.Moment.{Setting}
use Rattle.mcal_base.specs.There.{names_there}
use Rattle.module_machines.specs.wdg.Machine.{WdgState, first_state, wdg_machine}
use Rattle.module_machines.specs.declared.wdg.call.Call.{Call}
use Rattle.module_machines.specs.declared.wdg.table.WdgTable.{WdgTable}
use Rattle.module_machines.specs.wdg.Classes.{class_of}

-- the register of the watchdog
abbrev pub is_register : Reg → Bool
is_register WatchdogLoad = true
is_register _ = false

-- a driver word of the module, which has 64
abbrev pub is_own_word : ℕ → Bool
is_own_word k = not (nat_lt k 65536) && nat_lt k 65600

-- the move names a register or a word of the module
abbrev pub owns : Move → Bool
owns (Read r) = is_register r
owns (Write r v) = is_register r
owns (Load k) = is_own_word k
owns (Store k v) = is_own_word k
owns _ = false

-- a move that a frame of the module may make: it names what is the module's and is there
abbrev pub may : Move → Bool
may made = owns made && names_there made

-- what a run of the module is over
abbrev pub wdg_setting : WdgTable → Setting WdgState Call
wdg_setting d = record {
  machine = wdg_machine d;
  first = first_state;
  class_of = class_of;
  level_of = λ l. 1;
  owner_of = λ l. Wdg;
  used = λ l. false;
  steps_of = λ o. 64;
  window_of = λ o. 32;
  may = λ o made. may made;
  halves = λ call. None;
  must = λ call. [];
  fills = λ c. false;
  in_use = λ w s c. false;
  rest = λ chip w s. Unit {0};
  unmasked = λ chip w s origins. Unit {0};
  shows = λ origin n chip s. Unit {0};
}
