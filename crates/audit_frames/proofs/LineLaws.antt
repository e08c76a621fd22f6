-- Lines: what a frame may serve and has to meet is decided by masks, which stand for its lists.
use Rattle.std.proofs.Common.{◌≡◌, ℕ, ◌<◌, ◌^◌, Bool, true, false, not, ◌&&◌, ◌||◌, ◌==◌, List, [], ◌∷◌, refl, sym, ◌∙◌, ap}
use Rattle.std.specs.Prelude.{cond, bit_and, bit_or, Option, Some, None}
use Rattle.std.specs.List.{list_any, list_all}
use Rattle.mcal_base.proofs.BitLaws.{has_bit-and, has_bit-or, has_bit-zero}
use Rattle.mcal_base.specs.Bits.{has_bit}
use Rattle.mcal_base.specs.declared.moves.Event.{Event}
use Rattle.mcal_base.specs.declared.moves.Event.TheVariants.{Act, Serve, Abort, Start}
use Rattle.mcal_base.specs.facts.Truths.{and_first, and_second, off_on, or_false}
use Rattle.run_model.specs.Frame.{Origin, Called, Entered, Open, polled_by, served_by}
use Rattle.run_model.specs.Legal.{has_line, lines_from, IsNext, has_met, is_left_waiting}
use Rattle.run_model.specs.Machine.{Machine}
use Rattle.run_model.specs.Moment.{Setting}
use Rattle.run_model.specs.World.{World}
use Rattle.audit_frames.specs.Decides.{Decides}
use Rattle.audit_frames.specs.LineRules.{polled_after, served_after, has_served_after, is_next}
use Rattle.audit_frames.specs.Masks.{has_any, includes}
use Rattle.audit_frames.specs.StandsFor.{IsTask, has_none}
use Rattle.audit_frames.specs.Told.{ArePolled}
use Rattle.audit_frames.specs.declared.terms.Task.{Task}
use Rattle.audit_frames.specs.declared.terms.Task.TheVariants.{Call, Line}
use Rattle.audit_frames.proofs.Deciding.{and_join, no, clear, valued}
use Rattle.audit_frames.proofs.MaskLaws.{all_says, all_shows, bit_small, includes_says, includes_shows, has_any_is, with_bit_bits, with_bits_bits}

-- ---- the next line that a call serves

not_says : (b : Bool) → not b ≡ true → b ≡ false
not_says b h = (clear b).says h

not_shows : (b : Bool) → b ≡ false → not b ≡ true
not_shows b h = (clear b).shows h

-- at the first line of those that are left: it is this one, or not
next_says : (l : ℕ) (ls : List ℕ) (served : List ℕ) (mask k : ℕ) (b : Bool) → (l == k) ≡ b
    → has_any mask (l ∷ ls) ≡ list_any (has_line served) (l ∷ ls)
    → (is_next ls mask k ≡ true → IsNext ls served k)
    → cond b (not (has_any mask (l ∷ ls))) (is_next ls mask k) ≡ true
    → (b || has_line ls k ≡ true) × (list_any (has_line served) (cond b (l ∷ ls) (lines_from k ls)) ≡ false)
next_says l ls served mask k true e same later h = (refl, sym same ∙ not_says (has_any mask (l ∷ ls)) h)
next_says l ls served mask k false e same later h = later h

next_shows : (l : ℕ) (ls : List ℕ) (served : List ℕ) (mask k : ℕ) (b : Bool) → (l == k) ≡ b
    → has_any mask (l ∷ ls) ≡ list_any (has_line served) (l ∷ ls)
    → (IsNext ls served k → is_next ls mask k ≡ true)
    → (b || has_line ls k ≡ true) × (list_any (has_line served) (cond b (l ∷ ls) (lines_from k ls)) ≡ false)
    → cond b (not (has_any mask (l ∷ ls))) (is_next ls mask k) ≡ true
next_shows l ls served mask k true e same later h = not_shows (has_any mask (l ∷ ls)) (same ∙ h.1)
next_shows l ls served mask k false e same later h = later h

pub next : (polls served : List ℕ) (mask k : ℕ) → ((l : ℕ) → has_bit mask l ≡ has_line served l) → Decides (is_next polls mask k) (IsNext polls served k)
next [] served mask k same = no (λ h. off_on h.0)
next (l ∷ ls) served mask k same =
    let rest : Decides (is_next ls mask k) (IsNext ls served k) = next ls served mask k same in
    let any : has_any mask (l ∷ ls) ≡ list_any (has_line served) (l ∷ ls) = has_any_is mask (has_line served) (l ∷ ls) same in
    record {
      says = next_says l ls served mask k (l == k) refl any rest.says;
      shows = next_shows l ls served mask k (l == k) refl any rest.shows;
    }

-- ---- what was served, and missed

-- none was served
pub none_served : (ls : List ℕ) (b : Bool) → b ≡ not (has_none ls) → Decides (not b) (ls ≡ [])
none_served [] b e = record { says = λ h. refl; shows = λ h. ap (λ x. not x) e }
none_served (l ∷ ls) b e = record { says = λ h. off_on (sym (ap (λ x. not x) e) ∙ h); shows = λ h. absurd (cc) }

-- the mask of lines that were met
pub met_bits : {Call : Type 0} (o : Open Call) (served missed l : ℕ) → has_bit served l ≡ has_line o.served l → has_bit missed l ≡ o.missed l → has_bit (bit_or served missed) l ≡ has_met o l
met_bits o served missed l s m = has_bit-or served missed l ∙ (ap (λ b. b || has_bit missed l) s ∙ ap (λ b. has_line o.served l || b) m)

-- ---- after a step

pub polled_kept : {State Call : Type 0} (g : Setting State Call) (asked : ℕ) (w : World) (s : State) (task : Task) (origin : Origin Call) (mask : ℕ) (ls polls : List ℕ) (e : Option Event) (l : ℕ)
    → IsTask g asked task origin
    → has_bit mask l ≡ has_line ls l
    → asked < 2 ^ 64
    → ArePolled g.machine w s polls origin
    → has_bit (polled_after task mask e polls) l ≡ has_line (polled_by g.machine w s origin ls e) l
polled_kept g asked w s (Call k) (Called d) mask ls polls (Some Act) l is h fits same = with_bits_bits 0 polls l (λ k on. bit_small asked k fits (is.polls w s k (sym (ap (λ x. has_line x k) same) ∙ on))) ∙ (ap (λ b. has_line polls l || b) (has_bit-zero l) ∙ (or_false (has_line polls l) ∙ ap (λ x. has_line x l) same))
polled_kept g asked w s (Call k) (Called d) mask ls polls (Some (Serve x)) l is h fits same = h
polled_kept g asked w s (Call k) (Called d) mask ls polls (Some (Abort u)) l is h fits same = h
polled_kept g asked w s (Call k) (Called d) mask ls polls (Some (Start u)) l is h fits same = h
polled_kept g asked w s (Call k) (Called d) mask ls polls None l is h fits same = h
polled_kept g asked w s (Line k) (Entered d) mask ls polls (Some Act) l is h fits same = h
polled_kept g asked w s (Line k) (Entered d) mask ls polls (Some (Serve x)) l is h fits same = h
polled_kept g asked w s (Line k) (Entered d) mask ls polls (Some (Abort u)) l is h fits same = h
polled_kept g asked w s (Line k) (Entered d) mask ls polls (Some (Start u)) l is h fits same = h
polled_kept g asked w s (Line k) (Entered d) mask ls polls None l is h fits same = h
polled_kept g asked w s (Call k) (Entered d) mask ls polls e l is h fits same = absurd is
polled_kept g asked w s (Line k) (Called d) mask ls polls e l is h fits same = absurd is

-- a line that was polled is asked for
pub polled_asked : {State Call : Type 0} (g : Setting State Call) (asked : ℕ) (w : World) (s : State) (task : Task) (origin : Origin Call) (ls : List ℕ) (e : Option Event) (l : ℕ)
    → IsTask g asked task origin
    → (has_line ls l ≡ true → has_bit asked l ≡ true)
    → has_line (polled_by g.machine w s origin ls e) l ≡ true → has_bit asked l ≡ true
polled_asked g asked w s (Call k) (Called d) ls (Some Act) l is h on = is.polls w s l on
polled_asked g asked w s (Call k) (Called d) ls (Some (Serve x)) l is h on = h on
polled_asked g asked w s (Call k) (Called d) ls (Some (Abort u)) l is h on = h on
polled_asked g asked w s (Call k) (Called d) ls (Some (Start u)) l is h on = h on
polled_asked g asked w s (Call k) (Called d) ls None l is h on = h on
polled_asked g asked w s (Line k) (Entered d) ls (Some Act) l is h on = h on
polled_asked g asked w s (Line k) (Entered d) ls (Some (Serve x)) l is h on = h on
polled_asked g asked w s (Line k) (Entered d) ls (Some (Abort u)) l is h on = h on
polled_asked g asked w s (Line k) (Entered d) ls (Some (Start u)) l is h on = h on
polled_asked g asked w s (Line k) (Entered d) ls None l is h on = h on
polled_asked g asked w s (Call k) (Entered d) ls e l is h on = absurd is
polled_asked g asked w s (Line k) (Called d) ls e l is h on = absurd is

-- a line that is served is one of 64
abbrev pub ServesSmall : Option Event → Type 0
ServesSmall (Some (Serve k)) = k < 64
ServesSmall (Some Act) = Unit {0}
ServesSmall (Some (Abort u)) = Unit {0}
ServesSmall (Some (Start u)) = Unit {0}
ServesSmall None = Unit {0}

pub served_kept : (mask : ℕ) (ls : List ℕ) (e : Option Event) (l : ℕ) → has_bit mask l ≡ has_line ls l → ServesSmall e → has_bit (served_after mask e) l ≡ has_line (served_by ls e) l
served_kept mask ls (Some (Serve k)) l h small = with_bit_bits mask k l small ∙ ap (λ b. k == l || b) h
served_kept mask ls (Some Act) l h small = h
served_kept mask ls (Some (Abort u)) l h small = h
served_kept mask ls (Some (Start u)) l h small = h
served_kept mask ls None l h small = h

pub has_served_kept : (b : Bool) (ls : List ℕ) (e : Option Event) → b ≡ not (has_none ls) → has_served_after b e ≡ not (has_none (served_by ls e))
has_served_kept b ls (Some (Serve k)) h = refl
has_served_kept b ls (Some Act) h = h
has_served_kept b ls (Some (Abort u)) h = h
has_served_kept b ls (Some (Start u)) h = h
has_served_kept b ls None h = h

-- ---- units that wait

not_both : (a b c : Bool) → c ≡ not b → (not a || c) ≡ not (a && b)
not_both true true c e = e
not_both true false c e = e
not_both false b c e = refl

-- a handler's own line
pub own_left : {State Call : Type 0} (mac : Machine State Call) (w : World) (s : State) (served : List ℕ) (mask calm l : ℕ) → has_bit mask l ≡ has_line served l → has_bit calm l ≡ not (mac.line_waits w s l) → Decides (not (has_bit mask l) || has_bit calm l) (is_left_waiting mac w s served l ≡ false)
own_left mac w s served mask calm l h q = valued (ap (λ b. not b || has_bit calm l) h ∙ not_both (has_line served l) (mac.line_waits w s l) (has_bit calm l) q) (clear (has_line served l && mac.line_waits w s l))

-- of the lines that a call polled, those that it served
left_says : (served waits calm : Bool) → calm ≡ not waits → (served ≡ true → calm ≡ true) → not (served && waits) ≡ true
left_says true waits calm e h = sym e ∙ h refl
left_says false waits calm e h = refl

left_shows : (served waits calm : Bool) → calm ≡ not waits → not (served && waits) ≡ true → served ≡ true → calm ≡ true
left_shows true waits calm e h on = e ∙ h
left_shows false waits calm e h on = off_on on

pub calls_left : {State Call : Type 0} (mac : Machine State Call) (w : World) (s : State) (polled served : List ℕ) (asks serves calm : ℕ)
    → ((l : ℕ) → has_bit asks l ≡ has_line polled l)
    → ((l : ℕ) → has_bit serves l ≡ has_line served l)
    → ((l : ℕ) → has_line polled l ≡ true → has_bit calm l ≡ not (mac.line_waits w s l))
    → Decides (includes (bit_and asks serves) calm) (list_all (λ l. not (is_left_waiting mac w s served l)) polled ≡ true)
calls_left mac w s polled served asks serves calm p v q = record {
  says = λ e. all_shows (λ l. not (is_left_waiting mac w s served l)) polled (λ k on.
      left_says (has_line served k) (mac.line_waits w s k) (has_bit calm k) (q k on) (λ there.
      includes_says (bit_and asks serves) calm e k (has_bit-and asks serves k ∙ and_join (has_bit asks k) (has_bit serves k) (p k ∙ on) (v k ∙ there))));
  shows = λ h. includes_shows (bit_and asks serves) calm (λ k on.
      let both_on : has_bit asks k && has_bit serves k ≡ true = sym (has_bit-and asks serves k) ∙ on in
      let there : has_line polled k ≡ true = sym (p k) ∙ and_first (has_bit asks k) (has_bit serves k) both_on in
      left_shows (has_line served k) (mac.line_waits w s k) (has_bit calm k) (q k there) (all_says (λ l. not (is_left_waiting mac w s served l)) polled h k there) (sym (v k) ∙ and_second (has_bit asks k) (has_bit serves k) both_on));
}
