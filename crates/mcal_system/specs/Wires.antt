-- What a journal tells of the wire of a serial unit since the last reset: each word that was written to it, and what
-- came in with the word, by the width that the unit had.
use Rattle.std.specs.Prelude.{ℕ, ◌==◌, ◌++◌, if◌then◌else◌, List, [], ◌∷◌}
use Rattle.chip_blocks.specs.units.Serials.{masked, refused}
use Rattle.mcal_base.specs.declared.moves.Move.{Move}
use Rattle.mcal_base.specs.declared.moves.Move.TheVariants.{Write}
use Rattle.mcal_base.specs.declared.register.Reg.TheVariants.{SerialWidth, SerialData}
use Rattle.run_model.specs.Entry.{Entry, Said, Resets, Steps}
use Rattle.shown_rows.specs.declared.shown.Exchange.{Exchange}

-- The unit's width, and the words so far.
pub record Wire : Type 0 where
  pub width : ℕ
  pub words : List Exchange

-- after a reset, and before the first item
abbrev pub untold : Wire
untold = record { width = 0; words = [] }

-- what the wire shows of a word
abbrev pub exchange : (width sent received : ℕ) → Exchange
exchange width sent received = record { sent = masked width sent; received = if received == refused then refused else masked width received }

-- with one more step
abbrev pub with_step : (unit : ℕ) → Move → (received : ℕ) → Wire → Wire
with_step u (Write (SerialWidth k) v) received t = if k == u then record t { width = v } else t
with_step u (Write (SerialData k) v) received t = if k == u then record t { words = t.words ++ exchange t.width v received ∷ [] } else t
with_step u made received t = t

-- with one more item
abbrev pub with_said : (unit : ℕ) → Said → Wire → Wire
with_said u (Resets reason dropped) t = untold
with_said u (Steps s) t = with_step u s.made s.received t
with_said u said t = t

-- with the items of a journal
abbrev pub with_all : (unit : ℕ) → List Entry → Wire → Wire
with_all u [] t = t
with_all u (e ∷ es) t = with_all u es (with_said u e.said t)

-- the words that a journal tells of
abbrev pub exchanges_of : (unit : ℕ) → List Entry → List Exchange
exchanges_of u es = (with_all u es untold).words
