-- How words and the register stand for the machine's state.
use Rattle.std.specs.Prelude.{◌≡◌, ℕ, ◌+◌, ◌≤◌, ◌<◌, Bool, true, false, Option, Some, None}
use Rattle.chip_model.specs.Chip.{Chip, word_of}
use Rattle.chip_blocks.specs.declared.units.watchdog.Watch.{Watch}
use Rattle.run_model.specs.World.{World}
use Rattle.run_model.specs.Outside.{StandsIn}
use Rattle.service_outline.specs.Outline.{Refinement}
use Rattle.module_machines.specs.wdg.Bounds.{owns, wdg_setting}
use Rattle.module_machines.specs.wdg.Machine.{WdgState}
use Rattle.wdg_driver.specs.Words.{state_word}
use Rattle.module_machines.specs.declared.wdg.call.Call.{Call}
use Rattle.module_machines.specs.declared.wdg.table.WdgTable.{WdgTable}
use Rattle.wdg_driver.specs.declared.words.TheConstants.{STATE, TIMEOUT}

-- what the top frame may have under work: words that are behind the machine's state, after the act
pub record Lag : Type 0 where
  pub mode : Bool
  pub timeout : Bool

abbrev pub settled : Lag
settled = record { mode = false; timeout = false }

abbrev pub both_behind : Lag
both_behind = record { mode = true; timeout = true }

abbrev pub timeout_behind : Lag
timeout_behind = record { mode = false; timeout = true }

-- the chip's watchdog runs where a time does, and ends at the deadline
abbrev pub WatchRepresents : (osc : ℕ) → Option Watch → (deadline : Option ℕ) → Type 0
WatchRepresents osc None None = Unit {0}
WatchRepresents osc (Some x) (Some n) = (x.started ≤ osc) × (x.started + x.ticks ≡ n)
WatchRepresents osc _ _ = ⊥

-- the words and the register agree with the state, but for what is under work
pub record WdgRepresents (gap : Lag) (chip : Chip) (w : World) (s : WdgState) : Type 0 where
  pub outside : StandsIn chip w
  pub watch : WatchRepresents w.osc chip.watchdog.watch s.deadline
  pub mode : gap.mode ≡ false → word_of chip STATE ≡ state_word s.mode
  pub timeout : gap.timeout ≡ false → word_of chip TIMEOUT ≡ s.timeout
  pub few : s.timeout < 65536

-- what all services of the driver stand on
abbrev pub wdg_ground : WdgTable → Refinement WdgState Call
wdg_ground d = record {
  setting = wdg_setting d;
  wired = λ chip. Unit {0};
  lines = λ l. false;
  watches = true;
  owns = λ o made. owns made;
  count = λ s. 0;
  later = λ w s order. s;
  Lag = Lag;
  settled = settled;
  represents = WdgRepresents;
  Footprint = Unit {0};
  foot = λ chip. tt;
}
