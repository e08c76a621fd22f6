-- The handler of an edge detection: what holds at each of its places, and that it is right.
-- From Serve, One, Rows, Calls, Steady and 7 more.
-- Used by Lawful.
use Rattle.std.proofs.Common.{◌≡◌, ◌/◌, ◌<◌, ◌||◌, ◌==◌, [], ◌∷◌, ◌∙◌, if◌then◌else◌}
use Rattle.icu_driver.specs.Terms
use Terms.{ap, AreRight, below_test, bit_of, Bodies, Bool, Call, capture_at, CaptureAgrees, CaptureInfo, CapturePop}
use Terms.{Captures, Channel, channel_of, Chip, chip_after, chip_capture, counts_edges, DetectBody, Edge, EdgeCounter, Entered, false, icu_ground, icu_machine, IcuTable, IcuMeasurementMode, IcuRepresents, IcuSignalNotification, IcuState, info_of, is_counter, is_detection, is_measurement, Is_served, Is_serving, is_timestamp, kept, kinds_by, Lag, List, map, missed_after, ModeWords, never_clean, None, none, notices_of, off_on, Option, Origin, outcome, popped, Read, refl, Served, served_by, Serving, settled, SignalEdgeDetect, SignalMeasurement, Some, stands-move, StepsTo, Store, subst, sym, Timestamp, Told, true, with_capture, word_of, World, Write, ℕ}
use Rattle.icu_driver.specs.declared.service.detect.DetectBody.TheVariants.{Look, Switch, Pop, Mark}
use Rattle.icu_driver.specs.laws.{Base.{no_answer, goes, ends, Nothing, word, line, SWITCHES, MARKS}, Calls.{to_mode}}
use Rattle.icu_driver.specs.laws.{Calls.{from_mode, place_by, turns_by, may_row}, Change.{as_course, row_switches}}
use Rattle.icu_driver.specs.laws.{Change.{row_marks}, Channels.{popped_agrees, block_as}, DetectSteps.{detect_work}}
use Rattle.icu_driver.specs.laws.{DetectSteps.{detect_takes, detect_left, detect_shortens}, Measure.{one_is}}
use Rattle.module_machines.specs.icu.laws.{Channels.{with_same}}
use Rattle.icu_driver.specs.laws.{One.{ChannelAgrees, channel_agrees, one_agrees, settled_at, with_state}}
use Rattle.icu_driver.specs.laws.{One.{left_channel, channel_new, word_new}, Rows.{rows_of, rows_behind, behind_row}}
use Rattle.icu_driver.specs.laws.{Rows.{rows_at, row_others, row_stored, still_not}, Serve.{missed_here, info_empty}}
use Rattle.icu_driver.specs.laws.{Serve.{waiting_on, split, served_here, popped_course, told_of, owes_notice}}
use Rattle.icu_driver.specs.laws.{Serve.{owes_no_error}, Steady.{calm_at, oldest, AllGood, fronted, fronted_right}}

abbrev pub detect_gap : DetectBody → Lag
detect_gap (Mark c on) = rows_of (MARKS ∷ []) c
detect_gap _ = settled

-- a detection; a counter is looked at too, on which no edge waits
abbrev pub IsDetection : IcuTable → ℕ → Type 0
IsDetection d c = (k : Channel) × (channel_of d c ≡ Some k) × (k.mode ≡ SignalEdgeDetect) × (c < 8)

abbrev pub detect_holds : IcuTable → Captures × List ℕ → IcuState → DetectBody → Origin Call → Option Told → Type 0
detect_holds d f s (Look c) o t = Serving (line c) o t × (k : Channel) × (channel_of d c ≡ Some k) × (is_detection k.mode || is_counter k.mode ≡ true) × (c < 8)
detect_holds d f s (Switch c) o t = Serving (line c) o t × IsDetection d c
detect_holds d f s (Pop c on) o t = Serving (line c) o t × IsDetection d c × (on ≡ (capture_at s c).notification)
detect_holds d f s (Mark c on) o t = Served (line c) (told_of on IcuSignalNotification c) o t × IsDetection d c × (s.initialised ≡ true) × ((capture_at s c).active ≡ true)

-- from the look to the serving an edge waits
abbrev pub detect_front : DetectBody → Option ℕ
detect_front (Look c) = None
detect_front (Switch c) = Some c
detect_front (Pop c on) = Some c
detect_front (Mark c on) = None

abbrev pub detect_bodies : (d : IcuTable) → Bodies (icu_ground d) DetectBody
detect_bodies d = fronted d detect_work detect_takes detect_left detect_gap (λ k. false) (detect_holds d) detect_front (λ f k e. Unit {0})

detection_by : (m : IcuMeasurementMode) → is_detection m || is_counter m ≡ true → is_counter m ≡ false → m ≡ SignalEdgeDetect
detection_by SignalEdgeDetect e f = refl
detection_by EdgeCounter e f = off_on (sym f)
detection_by Timestamp e f = off_on e
detection_by SignalMeasurement e f = off_on e

module _ (d : IcuTable) where
  look_by : (chip : Chip) (w : World) (s : IcuState) (m : ℕ → Bool) (c : ℕ) (k : Channel) → channel_of d c ≡ Some k → is_detection k.mode || is_counter k.mode ≡ true → c < 8 → IcuRepresents d settled chip w s → (es : List Edge) → (capture_at s c).waiting ≡ es → StepsTo (icu_ground d) (detect_bodies d) chip w s (Entered (line c)) (Read (CaptureInfo c)) false None (missed_after (icu_machine d) w s m) (if info_of (map kept es) / 4 == 0 then (Look c, ends None no_answer Nothing) else (Switch c, goes))
  look_by chip w s m c k known mode lt h [] is = (h, missed_here d w s c m is, refl)
  look_by chip w s m c k known mode lt h (e ∷ es) is =
      let counter = not_counter (is_counter k.mode) refl in
      subst (λ q. StepsTo (icu_ground d) (detect_bodies d) chip w s (Entered (line c)) (Read (CaptureInfo c)) false None (missed_after (icu_machine d) w s m) (if q then (Look c, ends None no_answer Nothing) else (Switch c, goes))) (sym (info_empty (kept e) (map kept es)))
      (h, ((Is_serving, (k, known, detection_by k.mode mode counter, lt)), record { lt = lt; edge = e; leads = ap (λ xs. oldest xs) is; is = tt }))
    where
      not_counter : (q : Bool) → is_counter k.mode ≡ q → is_counter k.mode ≡ false
      not_counter false i = i
      not_counter true i = absurd (let f = ((h.course c lt).0.counter (ap (λ z. counts_edges z) known ∙ i)).0 in let g = sym is ∙ f in cc)

  steps : AllGood d (detect_bodies d)
  steps chip w s (Look c) o t m (h, ((Is_serving, k, known, mode, lt), u)) =
      let q = (h.block c lt).queue refl in
      (below_test c lt, subst (λ es. StepsTo (icu_ground d) (detect_bodies d) chip w s (Entered (line c)) (Read (CaptureInfo c)) false None (missed_after (icu_machine d) w s m) (if info_of es / 4 == 0 then (Look c, ends None no_answer Nothing) else (Switch c, goes))) (sym q) (look_by chip w s m c k known mode lt h (capture_at s c).waiting refl))
  steps chip w s (Switch c) o t m (h, ((Is_serving, (k, known, mode, lt)), u)) =
      let x = capture_at s c in
      let words = to_mode d c k known SignalEdgeDetect mode (λ j. word_of chip j) none x (h.words c lt) in
      (may_row d SWITCHES c row_switches lt, (h, ((Is_serving, (k, known, mode, lt), ap (λ z. z == 1) (words.switch refl) ∙ (one_is x.notification ∙ sym (ap (λ z. z.notification) (calm_at s c lt)))), record { lt = u.lt; edge = u.edge; leads = u.leads; is = tt })))
  steps chip w s (Pop c on) o t m (h, ((Is_serving, (k, known, mode, lt), e), u)) =
      let x = capture_at s c in
      let b = chip_capture chip.captures c in
      let m1 = s.initialised || false in
      let a = channel_agrees d settled chip w s c lt h in
      let up = waiting_on d chip w s c u.edge lt h u.leads in
      let p = split u.edge x.waiting u.leads in
      let z = record x { waiting = p.rest } in
      let y = record z { active = true } in
      let s1 = with_capture s c y in
      let rs = MARKS ∷ [] in
      let chip1 = chip_after chip (Write (CapturePop c) 0) 0 in
      let words = to_mode d c k known SignalEdgeDetect mode (λ j. word_of chip j) none x a.words in
      let same = e ∙ ap (λ q. q.notification) (calm_at s c lt) in (
        below_test c lt,
        record {
          own = refl;
          state = s1;
          told = told_of on IcuSignalNotification c;
          is = λ times. served_here d w s c times.received k u.edge p.rest known up.1 p.is ∙ (ap (λ q. Some (outcome (with_capture s c (served_by q k u.edge z)) (record { answer = no_answer; error = None; notices = notices_of c (kinds_by q z) }))) mode ∙ ap (λ q. Some (outcome s1 (told_of q IcuSignalNotification c))) (sym same));
          acts = tt;
          next = (
            one_agrees d c lt settled (rows_of rs c) (settled_at c) (rows_at rs c (row_marks, tt) lt) chip chip1 w s s1 up.1 h (left_channel c w chip (popped b) (stands-move chip w (Write (CapturePop c) 0) 0 h.outside)) (with_state s c y) (subst (λ q. ChannelAgrees d (rows_of rs c) chip1 w s.initialised c q) (sym (with_same s c y lt)) (record {
              block = subst (λ q. CaptureAgrees (channel_of d c) false false false s.initialised m1 q y) (sym (channel_new c chip.captures (popped b) h.size lt)) (block_as (channel_of d c) false false false s.initialised m1 (popped b) z y refl refl refl refl refl (popped_agrees (channel_of d c) false s.initialised m1 b x u.edge p.rest p.is a.block));
              words = from_mode d c k known SignalEdgeDetect mode (λ j. word_of chip j) (rows_behind rs c) y (record { switch = λ f. words.switch refl; mark = λ f. off_on (sym f ∙ behind_row rs MARKS c) });
              course = as_course (channel_of d c) z y refl refl refl refl refl (popped_course (channel_of d c) x u.edge p.rest p.is a.course);
              place = place_by d c k known y (ap (λ q. is_timestamp q) mode);
              turns = turns_by d c k known w y (ap (λ q. is_measurement q) mode);
              stamps = λ some j few g. a.stamps some j few refl;
            })),
            ((Is_served, (k, known, mode, lt), up.1, ap (λ q. q.active) (calm_at s1 c lt) ∙ ap (λ q. q.active) (with_same s c y lt)), tt),
          );
        },
      )
  steps chip w s (Mark c on) o t m (h, ((Is_served, (k, known, mode, lt), up, active), u)) =
      let x = capture_at s c in
      let at1 = λ (j : ℕ). word_of (chip_after chip (Store (word MARKS c) 1) 0) j in
      let others = subst (λ q. ModeWords q at1 (rows_behind (MARKS ∷ []) c) c k x) mode (row_others d c lt k known MARKS row_marks [] tt 1 chip w s up h) in
      let marked = word_new MARKS c 1 chip row_marks lt h.outside.all.words ∙ sym (ap (λ q. bit_of q) (sym (ap (λ q. q.active) (calm_at s c lt)) ∙ active)) in
      (may_row d MARKS c row_marks lt, (row_stored d c lt k known MARKS row_marks [] tt 1 chip w s up h (subst (λ q. ModeWords q at1 (rows_behind [] c) c k x) (sym mode) (record { switch = λ f. others.switch (still_not [] MARKS SWITCHES c refl f); mark = λ f. marked })), (refl, owes_notice on IcuSignalNotification c, owes_no_error on IcuSignalNotification c)))

  pub detect_right : AreRight (icu_ground d) (detect_bodies d)
  detect_right = fronted_right d detect_work detect_takes detect_left detect_gap (λ k. false) (detect_holds d) detect_front (λ f k e. Unit {0}) detect_shortens (λ k x. never_clean (detect_work k) k (detect_takes k x)) steps
