-- One channel of the block: its gate, its pops, its emptying and its count, as calls and servings change them.
-- Used by KeepRight, Gate, Stamp, DetectRight, SampleRight and 3 more.
use Rattle.std.proofs.Common.{◌≡◌, [], ◌∷◌, ◌∙◌}
use Rattle.icu_driver.specs.Terms
use Terms.{ap, Bool, Capture, CaptureAgrees, Channel, ChoosesAs, chosen, counts_edges, drop, Edge, false, flushed}
use Terms.{is_some, kept, List, map, None, off_on, Option, popped, refl, Some, switched, sym, true, zeroed}
use Rattle.chip_blocks.specs.declared.captures.capture.Capture as chips

-- the condition is chosen by the activation alone
pub chooses_left : (k : Option Channel) (b b1 : chips.Capture) (x x1 : Capture) → b1.condition ≡ b.condition → x1.activation ≡ x.activation → ChoosesAs k b x → ChoosesAs k b1 x1
chooses_left None b b1 x x1 e f h = tt
chooses_left (Some k) b b1 x x1 e f h = e ∙ h ∙ ap (λ a. chosen k (record x { activation = a })) (sym f)

module _ (k : Option Channel) (n on moded : Bool) (b : chips.Capture) (x : Capture) where
  -- the oldest edge is taken away
  pub popped_agrees : (e : Edge) (es : List Edge) → x.waiting ≡ e ∷ es → CaptureAgrees k false false n on moded b x → CaptureAgrees k false false n on moded (popped b) (record x { waiting = es })
  popped_agrees e es is h = record {
    gate = h.gate;
    queue = λ f. ap (λ q. drop 1 q) (h.queue f ∙ ap (λ q. map kept q) is);
    lost = h.lost;
    count = h.count;
    condition = λ f. chooses_left k b (popped b) x (record x { waiting = es }) refl refl (h.condition f);
    mode = h.mode;
    starts = h.starts;
    known = h.known;
    free_known = λ f. off_on f;
    free_queue = λ f. off_on f;
    free_count = λ f. off_on f;
  }

  -- switching on: the gate is opened, and the channel is free; it is emptied, and on
  pub opened_agrees : on ≡ true → counts_edges k ≡ false → CaptureAgrees k false false n on moded b x → CaptureAgrees k true true n on moded (record b { gate = true }) x
  opened_agrees is c h = record {
    gate = λ f. off_on (sym f);
    queue = λ f. off_on (sym f);
    lost = λ f. off_on (sym f);
    count = h.count;
    condition = λ f. chooses_left k b (record b { gate = true }) x x refl refl (h.condition f);
    mode = h.mode;
    starts = h.starts;
    known = h.known;
    free_known = λ f. h.known is;
    free_queue = λ f g. off_on (sym g);
    free_count = λ f g. c;
  }

  pub emptied_agrees : on ≡ true → is_some k ≡ true → b.gate ≡ true → CaptureAgrees k true true n on moded b x → CaptureAgrees k false false n on moded (flushed b) (switched true x)
  emptied_agrees is some up h = record {
    gate = λ f. up;
    queue = λ f. refl;
    lost = λ f. refl;
    count = h.count;
    condition = λ f. chooses_left k b (flushed b) x (switched true x) refl refl (h.condition f);
    mode = h.mode;
    starts = λ f. (is, some);
    known = h.known;
    free_known = λ f. off_on f;
    free_queue = λ f. off_on f;
    free_count = λ f. off_on f;
  }

  -- switching off: the gate is closed, and what waits is free; it is dropped
  pub closed_agrees : CaptureAgrees k false false n on moded b x → CaptureAgrees k false true n on moded (record b { gate = false }) (switched false x)
  closed_agrees h = record {
    gate = λ f. refl;
    queue = λ f. off_on (sym f);
    lost = λ f. off_on (sym f);
    count = h.count;
    condition = λ f. chooses_left k b (record b { gate = false }) x (switched false x) refl refl (h.condition f);
    mode = h.mode;
    starts = λ f. off_on f;
    known = h.known;
    free_known = λ f. off_on f;
    free_queue = λ f. off_on f;
    free_count = λ f. off_on f;
  }

  pub dropped_agrees : x.waiting ≡ [] → x.lost ≡ false → CaptureAgrees k false true n on moded b x → CaptureAgrees k false false n on moded (flushed b) x
  dropped_agrees empty kept_all h = record {
    gate = h.gate;
    queue = λ f. sym (ap (λ q. map kept q) empty);
    lost = λ f. sym kept_all;
    count = h.count;
    condition = λ f. chooses_left k b (flushed b) x x refl refl (h.condition f);
    mode = h.mode;
    starts = h.starts;
    known = h.known;
    free_known = λ f. off_on f;
    free_queue = λ f. off_on f;
    free_count = λ f. off_on f;
  }

  -- a counter, on which no edge waits, is switched by its gate alone
  pub gated_agrees : (q : Bool) → on ≡ true → is_some k ≡ true → x.waiting ≡ [] → x.lost ≡ false → CaptureAgrees k false false n on moded b x → CaptureAgrees k false false n on moded (record b { gate = q }) (switched q x)
  gated_agrees q is some empty kept_all h = record {
    gate = λ f. refl;
    queue = λ f. h.queue f ∙ ap (λ z. map kept z) empty;
    lost = λ f. h.lost f ∙ kept_all;
    count = h.count;
    condition = λ f. chooses_left k b (record b { gate = q }) x (switched q x) refl refl (h.condition f);
    mode = h.mode;
    starts = λ f. (is, some);
    known = h.known;
    free_known = λ f. off_on f;
    free_queue = λ f. off_on f;
    free_count = λ f. off_on f;
  }

  -- the count is made 0, whatever it was
  pub zeroed_agrees : (g q : Bool) → (g ≡ true → counts_edges k ≡ false) → CaptureAgrees k g q n on moded b x → CaptureAgrees k g q false on moded (zeroed b) (record x { count = 0 })
  zeroed_agrees g q c h = record {
    gate = h.gate;
    queue = h.queue;
    lost = h.lost;
    count = λ f. refl;
    condition = λ f. chooses_left k b (zeroed b) x (record x { count = 0 }) refl refl (h.condition f);
    mode = h.mode;
    starts = h.starts;
    known = h.known;
    free_known = h.free_known;
    free_queue = h.free_queue;
    free_count = λ f g. c f;
  }

-- what the block doesn't know may be another
pub block_as : (k : Option Channel) (g q n on moded : Bool) (b : chips.Capture) (x x1 : Capture) → x1.on ≡ x.on → x1.waiting ≡ x.waiting → x1.lost ≡ x.lost → x1.count ≡ x.count → x1.activation ≡ x.activation → CaptureAgrees k g q n on moded b x → CaptureAgrees k g q n on moded b x1
block_as k g q n on moded b x x1 up waits loses counts chooses h = record {
  gate = λ f. h.gate f ∙ sym up;
  queue = λ f. h.queue f ∙ sym (ap (λ z. map kept z) waits);
  lost = λ f. h.lost f ∙ sym loses;
  count = λ f. h.count f ∙ sym counts;
  condition = λ f. chooses_left k b b x x1 refl chooses (h.condition f);
  mode = h.mode;
  starts = λ f. h.starts (sym up ∙ f);
  known = h.known;
  free_known = h.free_known;
  free_queue = h.free_queue;
  free_count = h.free_count;
}
