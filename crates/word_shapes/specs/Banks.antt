-- Three banks of words as plain lists.
use Rattle.std.specs.Prelude.{ℕ, Option, Some, None, List, [], ◌∷◌, ◌++◌}

-- A put under way: its bank, and the values that it has filled in so far, from the first index on.
pub record Putting : Type 0 where
  pub bank : ℕ
  pub filled : List ℕ

-- A take under way: its bank, and the list that was newest at its pin.
pub record Taking : Type 0 where
  pub bank : ℕ
  pub kept : List ℕ

-- The newest bank, the list that was committed last, and the put and the take that are under way.
pub record Banks : Type 0 where
  pub bank : ℕ
  pub newest : List ℕ
  pub put : Option Putting
  pub take : Option Taking

-- ---- what the parts of puts and takes make of them

-- a bank is chosen
abbrev pub choosing : ℕ → Banks → Banks
choosing b s = record s { put = Some (record { bank = b; filled = [] }) }

-- one more value is filled in
abbrev pub filling : ℕ → Putting → Banks → Banks
filling value p s = record s { put = Some (record p { filled = p.filled ++ value ∷ [] }) }

-- the bank of the put is the newest
abbrev pub committing : Putting → Banks → Banks
committing p s = record s { bank = p.bank; newest = p.filled; put = None }

-- the put isn't committed
abbrev pub abandoning : Banks → Banks
abandoning s = record s { put = None }

-- the newest bank is pinned
abbrev pub pinning : Banks → Banks
pinning s = record s { take = Some (record { bank = s.bank; kept = s.newest }) }

-- the pin ends
abbrev pub releasing : Banks → Banks
releasing s = record s { take = None }
