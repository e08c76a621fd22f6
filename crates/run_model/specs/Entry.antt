-- The items of a journal with their lists of words put back: what the definitions of a run speak of.
use Rattle.std.specs.Prelude.{ℕ, ◌+◌, ◌≤◌, Bool, true, false, List, [], ◌∷◌, ◌++◌, take, drop, Option, Some, None}
use Rattle.irq_control.specs.declared.held.Held.{Held}
use Rattle.mcal_base.specs.declared.answer.Answer.{Answer}
use Rattle.mcal_base.specs.declared.directive.Order.{Order}
use Rattle.mcal_base.specs.declared.directive.Order.TheVariants as orders
use Rattle.mcal_base.specs.declared.directive.Reason.{Reason}
use Rattle.run_model.specs.declared.item.Span.{Span}
use Rattle.run_model.specs.declared.item.Stepped.{Stepped}
use Rattle.run_model.specs.declared.item.LoggedAnswer.{LoggedAnswer}
use Rattle.run_model.specs.declared.item.Logged.{Logged}
use Rattle.run_model.specs.declared.item.Hardware.{Hardware}
use Rattle.run_model.specs.declared.item.Hardware.TheVariants as hardware
use Rattle.run_model.specs.declared.item.What.{What}
use Rattle.run_model.specs.declared.item.What.TheVariants as whats
use Rattle.run_model.specs.declared.item.Item.{Item}

-- what an item says
pub data Said : Type 0 where
  -- the hardware moved, or something was shown
  Happens : Order → Said
  -- a call or a handler began
  Begins : Said
  -- a directive was held
  Stays : Held → Said
  -- the top frame made a step
  Steps : Stepped → Said
  -- the chip was reset, and so many frames were dropped
  Resets : Reason → ℕ → Said

-- an item: the script line of its directive, the number of frames before it, and what it says
pub record Entry : Type 0 where
  pub line : ℕ
  pub depth : ℕ
  pub said : Said

-- the words of a stretch
abbrev pub words_at : List ℕ → Span → List ℕ
words_at words s = take s.count (drop s.at words)

abbrev pub answer_at : List ℕ → Option LoggedAnswer → Option Answer
answer_at words None = None
answer_at words (Some a) = Some (record { head = a.head; words = words_at words a.words })

abbrev pub step_at : List ℕ → Logged → Stepped
step_at words l = record { made = l.made; value = l.value; received = l.received; event = l.event; ended = answer_at words l.ended }

abbrev pub order_at : List ℕ → Hardware → Order
order_at words (hardware.Tick n) = orders.Tick n
order_at words (hardware.Level p v) = orders.Level p v
order_at words (hardware.Analog i v) = orders.Analog i v
order_at words (hardware.Trigger i) = orders.Trigger i
order_at words (hardware.Miso u s) = orders.Miso u (words_at words s)
order_at words (hardware.SpiFault u) = orders.SpiFault u
order_at words hardware.Detach = orders.Detach
order_at words (hardware.Fill c s) = orders.Fill c (words_at words s)
order_at words (hardware.Show s) = orders.Show s

abbrev pub said_at : List ℕ → What → Said
said_at words (whats.Happened h) = Happens (order_at words h)
said_at words whats.Begun = Begins
said_at words (whats.Held c) = Stays c
said_at words (whats.Stepped l) = Steps (step_at words l)
said_at words (whats.Reset r k) = Resets r k

-- an item with its lists put back
abbrev pub entry_at : List ℕ → Item → Entry
entry_at words i = record { line = i.line; depth = i.depth; said = said_at words i.what }

-- the items of a journal
abbrev pub entries : List ℕ → List Item → List Entry
entries words [] = []
entries words (i ∷ is) = entry_at words i ∷ entries words is

-- a stretch lies within so many words
abbrev pub SpanFits : ℕ → Span → Type 0
SpanFits n s = s.at + s.count ≤ n

abbrev pub AnswerFits : ℕ → Option LoggedAnswer → Type 0
AnswerFits n None = Unit {0}
AnswerFits n (Some a) = SpanFits n a.words

abbrev pub HardwareFits : ℕ → Hardware → Type 0
HardwareFits n (hardware.Tick k) = Unit {0}
HardwareFits n (hardware.Level p v) = Unit {0}
HardwareFits n (hardware.Analog i v) = Unit {0}
HardwareFits n (hardware.Trigger i) = Unit {0}
HardwareFits n (hardware.Miso u s) = SpanFits n s
HardwareFits n (hardware.SpiFault u) = Unit {0}
HardwareFits n hardware.Detach = Unit {0}
HardwareFits n (hardware.Fill c s) = SpanFits n s
HardwareFits n (hardware.Show s) = Unit {0}

abbrev pub WhatFits : ℕ → What → Type 0
WhatFits n (whats.Happened h) = HardwareFits n h
WhatFits n whats.Begun = Unit {0}
WhatFits n (whats.Held c) = Unit {0}
WhatFits n (whats.Stepped l) = AnswerFits n l.ended
WhatFits n (whats.Reset r k) = Unit {0}

-- the stretches of all items lie within so many words
abbrev pub AllFit : ℕ → List Item → Type 0
AllFit n [] = Unit {0}
AllFit n (i ∷ is) = WhatFits n i.what × AllFit n is

-- A journal: its items and the words of their lists, and the room that was taken for them.
pub record Written : Type 0 where
  pub entries : List Entry
  pub room : ℕ
  pub words : List ℕ
  pub words_room : ℕ

-- the words of an answer
abbrev pub words_of_answer : Option Answer → List ℕ
words_of_answer None = []
words_of_answer (Some a) = a.words

-- the words of an order that a journal keeps
abbrev pub words_of_order : Order → List ℕ
words_of_order (orders.Miso u ws) = ws
words_of_order (orders.Fill c ws) = ws
words_of_order _ = []

-- the hardware moves by the order, or something is shown
abbrev pub is_happening : Order → Bool
is_happening (orders.Tick n) = true
is_happening (orders.Level p v) = true
is_happening (orders.Analog i v) = true
is_happening (orders.Trigger i) = true
is_happening (orders.Miso u ws) = true
is_happening (orders.SpiFault u) = true
is_happening orders.Detach = true
is_happening (orders.Fill c ws) = true
is_happening (orders.Show s) = true
is_happening _ = false

-- a journal with one more item, whose lists have these words
abbrev pub written : Written → ℕ → ℕ → Said → List ℕ → Written
written w line depth said words =
    record { entries = w.entries ++ (record { line = line; depth = depth; said = said }) ∷ []; room = w.room; words = w.words ++ words; words_room = w.words_room }
