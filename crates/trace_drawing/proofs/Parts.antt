-- What a configuration that is read has for a fault.
use Rattle.std.proofs.Common.{◌≡◌, ℕ, List, None}
use Rattle.mcal_config.specs.Whole.{fault_of}

pub no_fault : (text : List ℕ) → fault_of text ≡ None → None ≡ fault_of text
no_fault text e = cc
