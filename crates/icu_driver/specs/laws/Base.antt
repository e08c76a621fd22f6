-- What all laws speak of, passed on.
-- Used by SampleSteps, Stamp, KeepSteps, DetectSteps.
use Rattle.std.proofs.Common.{if◌then◌else◌}
use Rattle.icu_driver.specs.Terms
use Terms.{Bool, false, true, ℕ}
pub use Rattle.std.proofs.lemmas.Bool.Decides.{nat_tests}
pub use Rattle.mcal_base.specs.Bits.{has_bit}
pub use Rattle.mcal_base.specs.declared.moves.Event.TheVariants.{Act, Serve}
pub use Rattle.mcal_base.specs.declared.moves.Move.{Move}
pub use Rattle.run_model.specs.Machine.{Told, no_answer, tells_nothing, outcome, number, numbers, named}
pub use Rattle.service_outline.specs.declared.done.Epilogue.{Epilogue}
pub use Rattle.service_outline.specs.declared.done.Epilogue.TheVariants.{Nothing, One}
pub use Rattle.service_outline.specs.declared.done.BodyTaken.{BodyTaken}
pub use Rattle.service_outline.specs.Done.{goes, acts as acts_on, ends}
pub use Rattle.service_outline.specs.Fuel.{Shortens}
pub use Rattle.icu_driver.specs.Words.{word, line, bit, joined, condition_of, first_condition, mode_of}
pub use Rattle.module_machines.specs.declared.icu.table.Channel.{Channel}
pub use Rattle.module_machines.specs.declared.icu.table.IcuTable.{IcuTable}
pub use Rattle.icu_driver.specs.declared.words.TheConstants.{STATE, SWITCHES, MARKS, SIZES, INTERVALS, PLACES, VALUES, TIMES, LINES, CHANNELS}

-- ---- families of bodies

pub shortens_if : {Body : Type 0} (fuel : Body → ℕ) (k : Body) (q : Bool) (a b : Body × BodyTaken) → Shortens fuel k a → Shortens fuel k b → Shortens fuel k (if q then a else b)
shortens_if fuel k true a b h i = h
shortens_if fuel k false a b h i = i
