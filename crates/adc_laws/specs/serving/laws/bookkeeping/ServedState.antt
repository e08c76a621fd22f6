-- The machine's state after a round was served: its unit is free, its group has the round, and waits again where it is continuous.
-- From adc_groups: words.StoreOneWord.
-- Used by services.ServeActRight, services.ServeRight.
use Rattle.std.proofs.Common.{◌≡◌, ◌≢◌, ◌+◌, ◌%◌, ◌<◌, ◌≤◌, ◌&&◌, ◌==◌, [], ◌∷◌, ◌++◌, ◌∙◌}
use Rattle.adc_laws.specs.serving.Terms
use Terms.{AdcState, AdcTable, after_round, ap, arith, Bool, cond, false, group_at, group_of, group_same, GroupState}
use Terms.{happens, is_continuous, is_done, is_finished, is_full, length, List, mark_at, no_answer, None, notes}
use Terms.{Option, other_at, Outcome, outcome, past_untouched, refl, Round, round_at, round_same, samples_of}
use Terms.{served_round, Some, status_after, suc, sym, trigger_input, true, unmarked_group, unmarked_round, untouched}
use Terms.{values_of, with_group, with_round, with_round_of, with_values, without_mark, World, zero, ℕ}
use Rattle.run_model.specs.Machine.{Serves}

-- What a group has once a round of it was served.
pub record HasServed (d : AdcTable) (s : AdcState) (g : ℕ) (values : List ℕ) (z : GroupState) : Type 0 where
  pub rounds : z.rounds ≡ (group_at s g).rounds ++ values ∷ []
  pub status : z.status ≡ status_after (length (group_at s g).rounds % samples_of (group_of d g) + 1 == samples_of (group_of d g)) (group_at s g).status
  pub chosen : z.chosen ≡ (group_at s g).chosen
  pub notification : z.notification ≡ (group_at s g).notification

module _ (d : AdcTable) (s : AdcState) (g u : ℕ) (few : u < 2) (lt : g < 16) (past : (k : ℕ) → 16 ≤ k → group_at s k ≡ untouched) (number : ℕ) (values : List ℕ) where
  abbrev added : GroupState
  added = with_values (group_of d g) (group_at s g) values

  -- the round is stored, and the unit is free
  abbrev pub stored : AdcState
  stored = record (with_group (with_round s u None) g (with_values (group_of d g) (group_at s g) values)) { results = with_round_of (group_of d g) (length (group_at s g).rounds) g (group_at s g).chosen values s.results }

  abbrev pub served : (full continuous : Bool) → AdcState
  served f c = after_round d stored g number f c

  -- what the group is then
  abbrev pub served_group : (full continuous : Bool) → GroupState
  served_group true c = record (with_values (group_of d g) (group_at s g) values) { trigger = false }
  served_group false true = record (with_values (group_of d g) (group_at s g) values) { waiting = Some (record { number = number; kept = [] }) }
  served_group false false = with_values (group_of d g) (group_at s g) values

  pub served_fields : (f c : Bool) → HasServed d s g values (served_group f c)
  served_fields false true = record { rounds = refl; status = refl; chosen = refl; notification = refl }
  served_fields _ _ = record { rounds = refl; status = refl; chosen = refl; notification = refl }

  stored_group : group_at stored g ≡ added
  stored_group = group_same (with_round s u None) g added lt

  stored_past : (k : ℕ) → 16 ≤ k → group_at stored k ≡ untouched
  stored_past = past_untouched (with_round s u None) g added

  stored_other : (k : ℕ) → k ≢ g → group_at stored k ≡ group_at s k
  stored_other = other_at (with_round s u None) g added past

  pub is_group : (f c : Bool) → group_at (served f c) g ≡ served_group f c
  is_group true c = unmarked_group (with_group stored g (record (group_at stored g) { trigger = false })) g (trigger_input (group_of d g)) ∙ (group_same stored g (record (group_at stored g) { trigger = false }) lt ∙ ap (λ (x : GroupState). record x { trigger = false }) stored_group)
  is_group false true = group_same stored g (record (group_at stored g) { waiting = Some (record { number = number; kept = [] }) }) lt ∙ ap (λ (x : GroupState). record x { waiting = Some (record { number = number; kept = [] }) }) stored_group
  is_group false false = stored_group

  pub is_other : (f c : Bool) (k : ℕ) → k ≢ g → group_at (served f c) k ≡ group_at s k
  is_other true c k ne = unmarked_group (with_group stored g (record (group_at stored g) { trigger = false })) k (trigger_input (group_of d g)) ∙ (other_at stored g (record (group_at stored g) { trigger = false }) stored_past k ne ∙ stored_other k ne)
  is_other false true k ne = other_at stored g (record (group_at stored g) { waiting = Some (record { number = number; kept = [] }) }) stored_past k ne ∙ stored_other k ne
  is_other false false k ne = stored_other k ne

  rounds_stored : (f c : Bool) (v : ℕ) → round_at (served f c) v ≡ round_at (with_round s u None) v
  rounds_stored true c v = unmarked_round (with_group stored g (record (group_at stored g) { trigger = false })) v (trigger_input (group_of d g))
  rounds_stored false true v = refl
  rounds_stored false false v = refl

  pub is_free : (f c : Bool) → round_at (served f c) u ≡ None
  is_free f c = rounds_stored f c u ∙ round_same s u None few

  pub other_round : (f c : Bool) → ((v : ℕ) → round_at s (suc (suc v)) ≡ None) → (v : ℕ) → v ≢ u → round_at (served f c) v ≡ round_at s v
  other_round f c none v ne = rounds_stored f c v ∙ round_stays u few v ne
    where
      round_stays : (u : ℕ) → u < 2 → (v : ℕ) → v ≢ u → round_at (with_round s u None) v ≡ round_at s v
      round_stays zero less (suc zero) ne = refl
      round_stays zero less (suc (suc v)) ne = sym (none v)
      round_stays (suc zero) less zero ne = refl
      round_stays (suc zero) less (suc (suc v)) ne = sym (none v)
      round_stays (suc (suc u)) less v ne = absurd (omega (arith, less))
      round_stays _ less _ ne = absurd (ne refl)

  without_same : (z : AdcState) (o : Option ℕ) → ((without_mark z o).results ≡ z.results) × ((without_mark z o).requests ≡ z.requests) × ((without_mark z o).initialised ≡ z.initialised)
  without_same z None = (refl, refl, refl)
  without_same z (Some i) = (refl, refl, refl)

  pub is_rest : (f c : Bool) → ((served f c).results ≡ with_round_of (group_of d g) (length (group_at s g).rounds) g (group_at s g).chosen values s.results) × ((served f c).requests ≡ s.requests) × ((served f c).initialised ≡ s.initialised)
  is_rest true c = without_same (with_group stored g (record (group_at stored g) { trigger = false })) (trigger_input (group_of d g))
  is_rest false true = (refl, refl, refl)
  is_rest false false = (refl, refl, refl)

  -- the marks
  pub marks_full : (c : Bool) (i : ℕ) → mark_at (served true c) i ≡ mark_at (without_mark s (trigger_input (group_of d g))) i
  marks_full c i = by (trigger_input (group_of d g))
    where
      by : (o : Option ℕ) → mark_at (without_mark (with_group stored g (record (group_at stored g) { trigger = false })) o) i ≡ mark_at (without_mark s o) i
      by None = refl
      by (Some j) = refl

  pub marks_rest : (c : Bool) (i : ℕ) → mark_at (served false c) i ≡ mark_at s i
  marks_rest true i = refl
  marks_rest false i = refl

-- what a serving leaves of this round, by the group whose it is
abbrev left_at : AdcTable → World → AdcState → Round → (unit group : ℕ) → Option (Outcome AdcState)
left_at d w s r v z = Some (outcome (after_round d (record (with_group (with_round s v None) z (with_values (group_of d z) (group_at s z) (values_of w (group_of d z) r))) { results = with_round_of (group_of d z) (length (group_at s z).rounds) z (group_at s z).chosen (values_of w (group_of d z) r) s.results }) z r.request.number (is_full (group_of d z) (length (group_at s z).rounds + 1)) (is_continuous (group_of d z))) (record { answer = no_answer; error = None; notices = notes (group_at s z).notification z }))

-- what the machine makes of the serving of a unit's line
pub serves_round : (d : AdcTable) (w : World) (s : AdcState) (g u : ℕ) (few : u < 2) (lt : g < 16) (past : (k : ℕ) → 16 ≤ k → group_at s k ≡ untouched) (r : Round) (received : ℕ) → s.initialised ≡ true → round_at s u ≡ Some r → r.group ≡ g → is_finished w (group_of d g) r ≡ true
    → happens d w s (Serves (24 + u) received) ≡ Some (outcome (served d s g u few lt past r.request.number (values_of w (group_of d g) r) (is_full (group_of d g) (length (group_at s g).rounds + 1)) (is_continuous (group_of d g))) (record { answer = no_answer; error = None; notices = notes (group_at s g).notification g }))
serves_round d w s g u few lt past r received on is same done = by u few is
  where
    finished : (v : ℕ) → round_at s v ≡ Some r → is_done d w (round_at s v) ≡ true
    finished v e = ap (λ q. is_done d w q) e ∙ (ap (λ z. is_finished w (group_of d z) r) same ∙ done)

    by : (v : ℕ) → v < 2 → round_at s v ≡ Some r → happens d w s (Serves (24 + v) received) ≡ left_at d w s r v g
    by zero less e = ap (λ q. cond (q && is_done d w (round_at s 0)) (Some (served_round d w s 0 (round_at s 0))) None) on ∙ (ap (λ q. cond q (Some (served_round d w s 0 (round_at s 0))) None) (finished 0 e) ∙ (ap (λ q. Some (served_round d w s 0 q)) e ∙ ap (λ z. left_at d w s r 0 z) same))
    by (suc zero) less e = ap (λ q. cond (q && is_done d w (round_at s 1)) (Some (served_round d w s 1 (round_at s 1))) None) on ∙ (ap (λ q. cond q (Some (served_round d w s 1 (round_at s 1))) None) (finished 1 e) ∙ (ap (λ q. Some (served_round d w s 1 q)) e ∙ ap (λ z. left_at d w s r 1 z) same))
    by (suc (suc v)) less e = absurd (omega (arith, less))
