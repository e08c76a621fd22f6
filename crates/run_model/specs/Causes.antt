-- When a call or a handler may begin, and the first cause that keeps it off.
use Rattle.std.specs.Prelude.{ℕ, Bool, true, false, ◌&&◌, ◌||◌, not, ◌==◌, nat_lt, nat_le, cond, List, [], ◌∷◌, length, Option, Some, None}
use Rattle.std.specs.List.{list_all}
use Rattle.irq_control.specs.declared.held.Held.{Held}
use Rattle.irq_control.specs.declared.held.Held.TheVariants.{Masked, Level, Reentry, Idle, Full, Unknown, Busy}
use Rattle.mcal_base.specs.Names.{module_number}
use Rattle.run_model.specs.declared.class.Kind.{Kind}
use Rattle.run_model.specs.declared.class.Kind.TheVariants.{Exclusive, Keyed, Guarded, Query}
use Rattle.run_model.specs.declared.class.KeyKind.{KeyKind}
use Rattle.run_model.specs.declared.class.KeyKind.TheVariants as kinds
use Rattle.run_model.specs.declared.class.Key.{Key}
use Rattle.run_model.specs.declared.class.Class.{Class}
use Rattle.run_model.specs.declared.class.Tag.{Tag}
use Rattle.run_model.specs.Frame.{Origin, Open}
use Rattle.mcal_base.specs.declared.module_name.ModuleName.{ModuleName}

-- what kind of object it is; a channel is the same one whether or not its source array is read
abbrev pub kind_number : KeyKind → ℕ
kind_number kinds.Section = 0
kind_number kinds.Pin = 1
kind_number kinds.Channel = 2
kind_number kinds.Group = 3
kind_number kinds.Sequence = 4
kind_number kinds.Clock = 5
kind_number kinds.Main = 6
kind_number kinds.Source = 2

-- both have a key, and it is the same one
abbrev pub same_key : Option Key → Option Key → Bool
same_key None k = false
same_key (Some j) None = false
same_key (Some j) (Some k) = kind_number j.kind == kind_number k.kind && j.number == k.number

-- a call of the first kind may not begin over a call of the second; the last says whether they have the same key
abbrev pub kind_blocks : Kind → Kind → Bool → Bool
kind_blocks Exclusive k same = true
kind_blocks Keyed Exclusive same = true
kind_blocks Keyed Keyed same = same
kind_blocks Keyed Guarded same = false
kind_blocks Keyed Query same = false
kind_blocks Guarded Exclusive same = true
kind_blocks Guarded Keyed same = false
kind_blocks Guarded Guarded same = false
kind_blocks Guarded Query same = false
kind_blocks Query k same = false

abbrev pub is_exclusive : Kind → Bool
is_exclusive Exclusive = true
is_exclusive Keyed = false
is_exclusive Guarded = false
is_exclusive Query = false

-- a call may not begin over a frame of its module: over a handler an exclusive one
abbrev pub class_blocks : Class → Option Class → Bool
class_blocks new None = is_exclusive new.kind
class_blocks new (Some there) = kind_blocks new.kind there.kind (same_key new.key there.key)

abbrev pub blocks : Class → Tag → Bool
blocks new there = module_number new.module == module_number there.owner && class_blocks new there.class

-- reentry allows a call over frames with these tags
abbrev pub may_reenter : Class → List Tag → Bool
may_reenter class tags = list_all (λ t. not (blocks class t)) tags

-- a call of this level may begin over the top frame: it is above it, or as high, where that frame's last move is a notice
abbrev pub call_level_allows : List Tag → (noted : Bool) → ℕ → Bool
call_level_allows [] noted level = true
call_level_allows (top ∷ below) noted level = nat_lt top.level level || (noted && level == top.level)

-- the handler of a line of this level may begin over the top frame: it is above it
abbrev pub line_level_allows : List Tag → ℕ → Bool
line_level_allows [] level = true
line_level_allows (top ∷ below) level = nat_lt top.level level

-- no frame is of a higher level, and each one is of a lower level
abbrev pub none_above : List Tag → ℕ → Bool
none_above tags level = list_all (λ t. nat_le t.level level) tags

abbrev pub all_below : List Tag → ℕ → Bool
all_below tags level = list_all (λ t. nat_lt t.level level) tags

-- a call with this key, or of this class, reads the source array of a channel
abbrev pub is_source : KeyKind → Bool
is_source kinds.Source = true
is_source kind = false

abbrev pub reads_by : (channel : ℕ) → Option Key → Bool
reads_by c None = false
reads_by c (Some k) = is_source k.kind && k.number == c

abbrev pub reads_source : (channel : ℕ) → Option Class → Bool
reads_source c None = false
reads_source c (Some class) = reads_by c class.key

-- why a fill of a source array is held
abbrev pub fill_cause : (masked there busy : Bool) → Option Held
fill_cause masked there busy = cond there (cond (masked || busy) (Some Busy) None) (Some Unknown)

-- the first cause that holds, by whether each one holds
abbrev pub first_cause : (masked level reentry idle full : Bool) → Option Held
first_cause masked level reentry idle full =
    cond masked (Some Masked) (cond level (Some Level) (cond reentry (Some Reentry) (cond idle (Some Idle) (cond full (Some Full) None))))

-- there are eight frames
abbrev pub is_full : List Tag → Bool
is_full tags = not (nat_lt (length tags) 8)

-- why a call is held, over frames with these tags, the newest first
abbrev pub call_cause : (masked : Bool) → List Tag → (noted : Bool) → Class → (level : ℕ) → Option Held
call_cause masked tags noted class level = first_cause masked (not (call_level_allows tags noted level)) (not (may_reenter class tags)) false (is_full tags)

-- why the handler of a line is held
abbrev pub line_cause : (masked : Bool) → List Tag → (level : ℕ) → (pending : Bool) → Option Held
line_cause masked tags level pending = first_cause masked (not (line_level_allows tags level)) false (not pending) (is_full tags)

-- the tags of frames under way
abbrev pub tags_of : {Call : Type 0} → List (Open Call) → List Tag
tags_of [] = []
tags_of (o ∷ os) = o.tag ∷ tags_of os

-- what frames under way were begun for
abbrev pub origins_of : {Call : Type 0} → List (Open Call) → List (Origin Call)
origins_of [] = []
origins_of (o ∷ os) = o.origin ∷ origins_of os

-- the top frame's last move is a notice
abbrev pub top_noted : {Call : Type 0} → List (Open Call) → Bool
top_noted [] = false
top_noted (o ∷ os) = o.noted

-- the class of a guest's calls in the block of this module
abbrev pub guarded : ModuleName → Class
guarded block = record { kind = Guarded; «module» = block; key = None }
