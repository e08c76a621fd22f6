-- How places and faults are printed.
use Rattle.std.specs.Prelude.{ℕ, List, [], ◌++◌, codes, decimal, Option, Some, None}
use Rattle.mcal_base.specs.Names.{module_text}
use Rattle.config_keys.specs.Names.{key_text}
use Rattle.config_keys.specs.declared.key_name.KeyName.{KeyName}
use Rattle.config_keys.specs.declared.fault.Path.{Path}
use Rattle.config_keys.specs.declared.printed.Parts.{Parts}
use Rattle.config_keys.specs.declared.printed.Parts.TheVariants as parts
use Rattle.config_keys.specs.declared.fault.ConfigFault.{ConfigFault}
use Rattle.config_keys.specs.declared.fault.ConfigFault.TheVariants.{NotToml, Missing, WrongKind, OutOfRange, Repeated, Unknown, Combination, NoMemory}

-- a part of a path, after its point
abbrev pub key_part : Option KeyName → List ℕ
key_part None = []
key_part (Some k) = codes "." ++ key_text k

abbrev pub number_part : Option ℕ → List ℕ
number_part None = []
number_part (Some n) = codes "." ++ decimal n

-- the parts that are there, joined by points
abbrev pub path_text : Path → List ℕ
path_text p = module_text p.«module» ++ (key_part p.key ++ (number_part p.element ++ (key_part p.inner ++ number_part p.item)))

-- the number of a fault
abbrev pub fault_number : ConfigFault → ℕ
fault_number NotToml = 1
fault_number (Missing at) = 2
fault_number (WrongKind at) = 3
fault_number (OutOfRange at) = 4
fault_number (Repeated at id) = 5
fault_number (Unknown at id) = 6
fault_number (Combination at rule) = 7
fault_number NoMemory = 8

abbrev pub placed : ℕ → Path → List ℕ
placed k at = decimal k ++ (codes " " ++ path_text at)

abbrev pub placed_with : ℕ → Path → ℕ → List ℕ
placed_with k at n = decimal k ++ (codes " " ++ (path_text at ++ (codes " " ++ decimal n)))

-- the parts of a fault, as the code has them
abbrev pub parts_text : Parts → List ℕ
parts_text (parts.Alone number) = number.now
parts_text (parts.Placed k at) = placed k at
parts_text (parts.PlacedWith k at n) = placed_with k at n

-- the fault's number, then its path, then its id or rule, where it has one
abbrev pub fault_text : ConfigFault → List ℕ
fault_text NotToml = codes "1"
fault_text (Missing at) = placed 2 at
fault_text (WrongKind at) = placed 3 at
fault_text (OutOfRange at) = placed 4 at
fault_text (Repeated at id) = placed_with 5 at id
fault_text (Unknown at id) = placed_with 6 at id
fault_text (Combination at rule) = placed_with 7 at rule
fault_text NoMemory = codes "8"
