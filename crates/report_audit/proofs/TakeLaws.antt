-- Lines that can be one thing alone: where they come they are taken, and no others are what is asked for.
use Rattle.std.proofs.Common.{◌≡◌, ℕ, ◌+◌, ◌≤◌, Bool, true, false, List, [], ◌∷◌, ◌++◌, refl, sym, ◌∙◌, ap, subst, arith}
use Rattle.std.specs.Prelude.{cond, count_by}
use Rattle.std.proofs.lemmas.List.{append-nil, append_cancel_left}
use Rattle.std.proofs.lemmas.List.Sums.{sum_by-cons}
use Rattle.bench_report.specs.Lines.{Line, Done, Holds, numbered}
use Rattle.bench_report.specs.Report.{is_error, is_hold, is_leave, is_note, is_return}
use Rattle.bench_report.specs.declared.tally.Tally.{Tally}
use Rattle.chip_model.specs.Chip.{incoming_at}
use Rattle.irq_control.specs.declared.held.Held.{Held}
use Rattle.run_model.specs.Moment.{Setting}
use Rattle.report_text.specs.reading.Blocks.{AuditState, counted, printed}
use Rattle.report_text.specs.Unread.{Unread, own_text}
use Rattle.audit_base.specs.declared.outside.Outside.{Outside}
use Rattle.report_auditor.specs.Auditing.{Auditing, IsReady, Stands}
use Rattle.report_auditor.specs.Seeing.{Agreeing}
use Rattle.report_steps.specs.Lines.{Advances, TakesLine}
use Rattle.report_steps.specs.StepParts.{counting}
use Rattle.report_steps.specs.Taking.{Takes, Took}
use Rattle.report_steps.proofs.LinesLaws.{advances_none}
use Rattle.report_steps.proofs.StepMade.{same_tally}
use Rattle.report_audit.specs.Directives as spec
use Rattle.report_audit.specs.Directives.{PrintsDeed, PrintsHeld}

-- ---- lines said in another way

pub took_as : {State Call : Type 0} (P Q : List Line → AuditState State Call → Type 0) (Stands : AuditState State Call → Type 0) (n : ℕ) (text rest : List ℕ) → ((lines : List Line) (there : AuditState State Call) → (P lines there → Q lines there) × (Q lines there → P lines there))
    → Took P Stands n text rest → Took Q Stands n text rest
took_as P Q Stands n text rest same h = record {
  lines = h.lines;
  place = h.place;
  prints = (same h.lines h.place).0 h.prints;
  is = h.is;
  stands = h.stands;
  whole = λ all there q e. h.whole all there ((same all there).1 q) e;
}

pub takes_as : {State Call : Type 0} (right : Bool) (P Q : List Line → AuditState State Call → Type 0) (Stands : AuditState State Call → Type 0) (n : ℕ) (text rest : List ℕ) → ((lines : List Line) (there : AuditState State Call) → (P lines there → Q lines there) × (Q lines there → P lines there))
    → Takes right P Stands n text rest → Takes right Q Stands n text rest
takes_as true P Q Stands n text rest same h = took_as P Q Stands n text rest same h
takes_as false P Q Stands n text rest same h = λ all there q e. h all there ((same all there).1 q) e

-- ---- lines

module _ {State Call : Type 0} (Prints : List Line → AuditState State Call → Type 0) (Stands : AuditState State Call → Type 0) (n : ℕ) (text : List ℕ) (lines : List Line) (only : (all : List Line) (there : AuditState State Call) → Prints all there → all ≡ lines) where
  -- such lines print this
  all_print : (all : List Line) (there : AuditState State Call) → Prints all there → text ≡ printed n all → text ≡ printed n lines ++ []
  all_print all there q e = e ∙ (ap (printed n) (only all there q) ∙ sym (append-nil (printed n lines)))

  pub took : (there : AuditState State Call) (rest : List ℕ) → Prints lines there → Stands there → text ≡ printed n lines ++ rest → Took Prints Stands n text rest
  took there rest prints stands is = record {
    lines = lines;
    place = there;
    prints = prints;
    is = is;
    stands = stands;
    whole = λ all place q e. append_cancel_left (printed n lines) rest [] (sym is ∙ all_print all place q e);
  }

  pub never : (rest : List ℕ) → ((rest : List ℕ) → text ≡ printed n lines ++ rest → ⊥) → Takes false Prints Stands n text rest
  never rest none = λ all place q e. none [] (all_print all place q e)

-- ---- a line

one_line : (n : ℕ) (line : Line) (text rest : List ℕ) → text ≡ printed n (line ∷ []) ++ rest → text ≡ numbered n line ++ rest
one_line n line text rest e = e ∙ ap (λ (bs : List ℕ). bs ++ rest) (append-nil (numbered n line))

pub takes_line : {State Call : Type 0} (Prints : List Line → AuditState State Call → Type 0) (Stands : AuditState State Call → Type 0) (right : Bool) (line : Line) (old new : Unread) (there : AuditState State Call)
    → ((all : List Line) (place : AuditState State Call) → Prints all place → all ≡ line ∷ []) → TakesLine right line old new → (right ≡ true → Prints (line ∷ []) there) → (right ≡ true → Stands there)
    → Takes right Prints Stands old.number (own_text old) (own_text new)
takes_line Prints Stands true line old new there only h prints stands = took Prints Stands old.number (own_text old) (line ∷ []) only there (own_text new) (prints refl) (stands refl) h.text
takes_line Prints Stands false line old new there only h prints stands = never Prints Stands old.number (own_text old) (line ∷ []) only (own_text new) (λ rest e. h.1 rest (one_line old.number line (own_text old) rest e))

pub line_on : (right : Bool) (line : Line) (old new : Unread) → TakesLine right line old new → Advances old new
line_on true line old new h = h.on
line_on false line old new h = subst (Advances old) (sym h.0) (advances_none old)

-- ---- what is counted

one_held : (cause : Held) → count_by is_hold (Holds cause ∷ []) ≡ 1
one_held cause = sum_by-cons (λ (x : Line). cond (is_hold x) 1 0) (Holds cause) []

uncounted : (q : Line → Bool) (cause : Held) → q (Holds cause) ≡ false → count_by q (Holds cause ∷ []) ≡ 0
uncounted q cause e = sum_by-cons (λ (x : Line). cond (q x) 1 0) (Holds cause) [] ∙ ap (λ (b : Bool). cond b 1 0 + 0) e

with_one : (n k : ℕ) → k ≡ 1 → n + k ≡ n + 1
with_one n k e = ap (λ (x : ℕ). n + x) e

with_none : (n k : ℕ) → k ≡ 0 → n + k ≡ n
with_none n k e = omega (arith, e)

-- the line of a held directive is counted as one of those
pub held_counted : (t : Tally) (cause : Held) (more : ℕ) → more ≡ t.held + 1 → record t { held = more } ≡ counted t (Holds cause ∷ [])
held_counted t cause more e =
    sym (same_tally (counted t (Holds cause ∷ [])) _ _ _ _ _
    (with_none t.calls _ (uncounted is_return cause refl))
    (with_none t.handlers _ (uncounted is_leave cause refl))
    (with_one t.held _ (one_held cause) ∙ sym e)
    (with_none t.errors _ (uncounted is_error cause refl))
    (with_none t.notes _ (uncounted is_note cause refl)))

-- one more held directive is counted
abbrev pub with_held : {Parts Call : Type 0} → ℕ → Auditing Parts Call → Auditing Parts Call
with_held held a = record { chip = a.chip; parts = a.parts; outside = a.outside; devices = a.devices; frames = a.frames; origins = a.origins; tally = record a.tally { held = held }; seen = a.seen }

pub held_more : {Parts Call : Type 0} (a : Auditing Parts Call) (cause : Held) (more : ℕ) → more ≡ a.tally.held + 1 → with_held more a ≡ counting (Holds cause ∷ []) a
held_more a cause more e =
    ap (λ (t : Tally). record { chip = a.chip; parts = a.parts; outside = a.outside; devices = a.devices; frames = a.frames; origins = a.origins; tally = t; seen = a.seen }) (held_counted a.tally cause more e)

module _ {Parts Table State Call : Type 0} (agrees : Agreeing Table State) (setting : Table → Setting State Call) (table : Parts → Table) (stands : Parts → State → Type 0) (t : Table) where
  pub counted_stands : (a : Auditing Parts Call) (p : AuditState State Call) (lines : List Line) → Stands agrees setting table stands t a p
      → Stands agrees setting table stands t (counting lines a) (record { moment = p.moment; frames = p.frames; tally = counted p.tally lines })
  counted_stands a p lines s = record {
    kept_of = s.kept_of;
    chip = s.chip;
    world = s.world;
    devices = s.devices;
    hung = s.hung;
    state = s.state;
    frames = s.frames;
    origins = s.origins;
    going = s.going;
    purposes = s.purposes;
    tally = ap (λ x. counted x lines) s.tally;
    seen = s.seen;
  }

  -- a directive that is held
  pub held_takes : (right : Bool) (cause : Held) (a b : Auditing Parts Call) (old new : Unread) (p : AuditState State Call) → spec.Stays right cause a b old new → Stands agrees setting table stands t a p
      → Takes right (PrintsHeld p cause) (Stands agrees setting table stands t b) old.number (own_text old) (own_text new)
  held_takes right cause a b old new p h s =
      takes_line (PrintsHeld p cause) (Stands agrees setting table stands t b) right (Holds cause) old new (record { moment = p.moment; frames = p.frames; tally = counted p.tally (Holds cause ∷ []) })
      (λ all place q. q.lines_are) h.takes (λ e. record { lines_are = refl; leads = refl })
      (λ e. subst (λ (x : Auditing Parts Call). Stands agrees setting table stands t x (record { moment = p.moment; frames = p.frames; tally = counted p.tally (Holds cause ∷ []) })) (sym h.counted) (counted_stands a p (Holds cause ∷ []) s))

pub held_on : {Parts Call : Type 0} (right : Bool) (cause : Held) (a b : Auditing Parts Call) (old new : Unread) → spec.Stays right cause a b old new → Advances old new
held_on right cause a b old new h = line_on right (Holds cause) old new h.takes

least : (fewer more room : ℕ) → fewer ≤ more → more ≤ room → fewer ≤ room
least fewer more room h k = omega (arith, h, k)

some_words : (words given : ℕ) → given ≤ words + given
some_words words given = omega arith

same_words : (given : ℕ) → given ≤ given
same_words given = omega arith

first_words : (n words given : ℕ) → n ≡ words + given → words ≤ n
first_words n words given e = omega (arith, e)

none_first : (words : ℕ) → 0 ≤ words
none_first words = omega arith

module _ {Parts Call : Type 0} (fits : Parts → Outside → Type 0) (within : Parts → Type 0) (ticks : Parts → ℕ) where
  -- with room for fewer words, and more counted
  ready_with : (given fewer : ℕ) (a : Auditing Parts Call) (tally : Tally) → fewer ≤ given → IsReady fits within ticks given a
      → IsReady fits within ticks fewer (record { chip = a.chip; parts = a.parts; outside = a.outside; devices = a.devices; frames = a.frames; origins = a.origins; tally = tally; seen = a.seen })
  ready_with given fewer a tally le h = record {
    sound = record {
      can_tell = h.sound.can_tell;
      in_limits = h.sound.in_limits;
      around = h.sound.around;
      world = h.sound.world;
      osc = h.sound.osc;
      time = h.sound.time;
      committed = h.sound.committed;
      few = h.sound.few;
      counted = h.sound.counted;
      room = λ u lt. least fewer given (incoming_at a.chip u).room le (h.sound.room u lt);
      sources = h.sound.sources;
    };
    rate = h.rate;
  }

  counted_ready : (given : ℕ) (a : Auditing Parts Call) (lines : List Line) → IsReady fits within ticks given a → IsReady fits within ticks given (counting lines a)
  counted_ready given a lines h = ready_with given given a (counted a.tally lines) (same_words given) h

  pub held_ready : (given : ℕ) (right : Bool) (cause : Held) (a b : Auditing Parts Call) (old new : Unread) → spec.Stays right cause a b old new → IsReady fits within ticks given a → IsReady fits within ticks given b
  held_ready given right cause a b old new h ready = subst (IsReady fits within ticks given) (sym h.counted) (counted_ready given a (Holds cause ∷ []) ready)

  pub fewer : (words given : ℕ) (a : Auditing Parts Call) → IsReady fits within ticks (words + given) a → IsReady fits within ticks given a
  fewer words given a h = ready_with (words + given) given a a.tally (some_words words given) h

  pub for_none : (given : ℕ) (a : Auditing Parts Call) → IsReady fits within ticks given a → IsReady fits within ticks 0 a
  for_none given a h = ready_with given 0 a a.tally (none_first given) h

  pub fewer_is : (n words given : ℕ) (a : Auditing Parts Call) → n ≡ words + given → IsReady fits within ticks n a → IsReady fits within ticks words a
  fewer_is n words given a e h = ready_with n words a a.tally (first_words n words given e) h

  pub same_ready : (n m : ℕ) (a : Auditing Parts Call) → n ≡ m → IsReady fits within ticks n a → IsReady fits within ticks m a
  same_ready n m a e h = subst (λ (k : ℕ). IsReady fits within ticks k a) e h

-- ---- deeds that print ok

pub deed_never : {State Call : Type 0} (Comes : Type 0) (to : AuditState State Call) (Stands : AuditState State Call → Type 0) (n : ℕ) (text rest : List ℕ) → (Comes → ⊥) → Takes false (PrintsDeed Comes to) Stands n text rest
deed_never Comes to Stands n text rest none = λ all there q is. none q.comes

pub deed_takes : {State Call : Type 0} (Comes : Type 0) (to : AuditState State Call) (Stands : AuditState State Call → Type 0) (right : Bool) (old new : Unread) → Comes → Stands to → TakesLine right Done old new
    → Takes right (PrintsDeed Comes to) Stands old.number (own_text old) (own_text new)
deed_takes Comes to Stands right old new comes stands h =
    takes_line (PrintsDeed Comes to) Stands right Done old new to (λ all place q. q.lines_are) h (λ e. record { comes = comes; lines_are = refl; leads = refl }) (λ e. stands)

-- nothing is done
pub none_takes : {State Call : Type 0} (p : AuditState State Call) (Stands : AuditState State Call → Type 0) (right : Bool) (old new : Unread) → Stands p → TakesLine right Done old new
    → Takes right (λ lines there. (lines ≡ Done ∷ []) × (there ≡ p)) Stands old.number (own_text old) (own_text new)
none_takes p Stands right old new stands h =
    takes_line (λ lines there. (lines ≡ Done ∷ []) × (there ≡ p)) Stands right Done old new p (λ all place q. q.0) h (λ e. (refl, refl)) (λ e. stands)
