-- What a configuration is, by its fault or its record.
use Rattle.std.proofs.Common.{◌≡◌, ap, refl, Option, Some, None}
use Rattle.std.specs.Prelude.{Ok, Err, IsSome, List, ℕ}
use Rattle.mcal_base.specs.declared.config.whole.Config.{Config}
use Rattle.config_keys.specs.declared.fault.ConfigFault.{ConfigFault}
use Rattle.mcal_config.specs.Whole.{fault_of, record_of}
use Rattle.mcal_config.proofs.Recorded.{faultless}
use Rattle.bench_top.specs.Judged.{IsUnread, Judgement, Prints, ending_of, fault_or_record, configuration_of}
use Rattle.bench_top.specs.declared.file.FileEnd.{FileEnd}
use Rattle.bench_top.specs.declared.file.FileEnd.TheVariants.{Refused, NoMemory}
use Rattle.bench_top.specs.declared.refusal.Refusal.{Refusal}

record_at : (f : Option ConfigFault) (r : Option Config) (h : f ≡ None → IsSome r) (c : Config) → f ≡ None → r ≡ Some c → fault_or_record f r h ≡ Ok c
record_at (Some x) r h c e g = cc
record_at None (Some d) h c e g = let i : d ≡ c = cc in ap (λ y. Ok y) i
record_at None None h c e g = cc

fault_at : (f : Option ConfigFault) (r : Option Config) (h : f ≡ None → IsSome r) (x : ConfigFault) → f ≡ Some x → fault_or_record f r h ≡ Err x
fault_at (Some y) r h x e = let i : y ≡ x = cc in ap (λ z. Err z) i
fault_at None r h x e = cc

pub record_is : (text : List ℕ) (c : Config) → fault_of text ≡ None → record_of text ≡ Some c → configuration_of text ≡ Ok c
record_is text c e g = record_at (fault_of text) (record_of text) (faultless text) c e g

pub fault_is : (text : List ℕ) (x : ConfigFault) → fault_of text ≡ Some x → configuration_of text ≡ Err x
fault_is text x e = fault_at (fault_of text) (record_of text) (faultless text) x e

-- what is printed where a bench file isn't read
pub unread_by : (end : FileEnd) (judgement : Judgement) → ((refusal : Refusal) → end ≡ Refused refusal → judgement ≡ Prints (ending_of refusal)) → IsUnread end judgement
unread_by (Refused refusal) judgement h = h refusal refl
unread_by NoMemory judgement h = tt
