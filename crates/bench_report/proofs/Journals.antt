-- The texts of the shows of a journal, as items are added at its end.
use Rattle.std.proofs.Common.{◌≡◌, ℕ, false, List, [], ◌∷◌, ◌++◌, refl, ap, sym, ◌∙◌, append_assoc, append-nil}
use Rattle.mcal_base.specs.declared.directive.Directive.{Directive}
use Rattle.mcal_base.specs.declared.directive.Order.{Order}
use Rattle.mcal_base.specs.declared.directive.Order.TheVariants as orders
use Rattle.mcal_base.specs.declared.directive.Request.{Request}
use Rattle.mcal_base.specs.declared.directive.Shown.{Shown}
use Rattle.run_model.specs.Entry as entry
use Rattle.run_model.specs.Entry.{Entry, Said}
use Rattle.run_model.specs.Follows.{Gives, Shows}
use Rattle.run_model.specs.Frame.{Open}
use Rattle.run_model.specs.Moment.{Setting, Moment, after_all}
use Rattle.run_model.specs.Script.{order_at, deed_of, deeds_of}
use Rattle.run_model.proofs.Following.{after_all-append}
use Rattle.bench_report.specs.Rows.{Row}
use Rattle.bench_report.specs.Shown.{rows_text, said_texts, shows_after, texts_of}
use Rattle.bench_report.specs.Showing.{Showing, order_rows, item_rows, shows_from}
use Rattle.bench_report.proofs.Items.{is_show, shows_nothing, Each, gives_each}

module _ {State Call : Type 0} (g : Setting State Call) (call_of : Request → Call) (showing : Showing State) (script : List Directive) where
  -- the texts of the shows of a journal, from a moment on
  abbrev pub texts_in : Moment State Call → List Entry → List (List ℕ)
  texts_in m es = texts_of es (shows_from g call_of showing script m es)

  -- the moment after an item, and after items
  abbrev pub next : Moment State Call → Entry → Moment State Call
  next m e = after_all g m (deed_of call_of (order_at script e.line) e.said)

  abbrev pub later : Moment State Call → List Entry → Moment State Call
  later m es = after_all g m (deeds_of call_of script es)

  -- the texts of an item
  item_texts : Moment State Call → Entry → List (List ℕ)
  item_texts m e = said_texts e.line (item_rows showing m e.said) e.said

  order_first : (m : Moment State Call) (line : ℕ) (o : Order) (rest : List (List Row)) → said_texts line (order_rows showing m o ++ rest) (entry.Happens o) ≡ said_texts line (order_rows showing m o) (entry.Happens o)
  order_first m line (orders.Show what) rest = refl
  order_first m line _ rest = refl

  said_first : (m : Moment State Call) (line : ℕ) (said : Said) (rest : List (List Row)) → said_texts line (item_rows showing m said ++ rest) said ≡ said_texts line (item_rows showing m said) said
  said_first m line (entry.Happens o) rest = order_first m line o rest
  said_first m line _ rest = refl

  order_rest : (m : Moment State Call) (o : Order) (rest : List (List Row)) → shows_after (order_rows showing m o ++ rest) (entry.Happens o) ≡ rest
  order_rest m (orders.Show what) rest = refl
  order_rest m _ rest = refl

  said_rest : (m : Moment State Call) (said : Said) (rest : List (List Row)) → shows_after (item_rows showing m said ++ rest) said ≡ rest
  said_rest m (entry.Happens o) rest = order_rest m o rest
  said_rest m _ rest = refl

  texts_first : (m : Moment State Call) (e : Entry) (es : List Entry) → texts_in m (e ∷ es) ≡ item_texts m e ++ texts_in (next m e) es
  unfolding item_texts
  texts_first m e es =
      let rest = shows_from g call_of showing script (next m e) es in
      ap (λ (ts : List (List ℕ)). ts ++ texts_of es (shows_after (item_rows showing m e.said ++ rest) e.said)) (said_first m e.line e.said rest)
      ∙ ap (λ (rs : List (List Row)). said_texts e.line (item_rows showing m e.said) e.said ++ texts_of es rs) (said_rest m e.said rest)

  pub texts-append : (m : Moment State Call) (es fs : List Entry) → texts_in m (es ++ fs) ≡ texts_in m es ++ texts_in (later m es) fs
  texts-append m [] fs = refl
  texts-append m (e ∷ es) fs =
      texts_first m e (es ++ fs)
      ∙ ap (λ (ts : List (List ℕ)). item_texts m e ++ ts) (texts-append (next m e) es fs)
      ∙ sym (append_assoc (item_texts m e) (texts_in (next m e) es) (texts_in (later (next m e) es) fs))
      ∙ ap (λ (ts : List (List ℕ)). ts ++ texts_in (later (next m e) es) fs) (sym (texts_first m e es))
      ∙ ap (λ (k : Moment State Call). texts_in m (e ∷ es) ++ texts_in k fs) (sym (after_all-append g m (deed_of call_of (order_at script e.line) e.said) (deeds_of call_of script es)))

  -- items that show nothing
  quiet_order : (m : Moment State Call) (line : ℕ) (o : Order) → is_show o ≡ false → said_texts line (order_rows showing m o) (entry.Happens o) ≡ []
  quiet_order m line (orders.Show what) h = cc
  quiet_order m line _ h = refl

  quiet_item : (m : Moment State Call) (line : ℕ) (said : Said) → shows_nothing said → said_texts line (item_rows showing m said) said ≡ []
  quiet_item m line (entry.Happens o) h = quiet_order m line o h
  quiet_item m line _ h = refl

  quiet_items : (line : ℕ) (es : List Entry) (m : Moment State Call) → Each line shows_nothing es → texts_in m es ≡ []
  unfolding item_texts
  quiet_items line [] m h = refl
  quiet_items line (e ∷ es) m h =
      texts_first m e es
      ∙ ap (λ (ts : List (List ℕ)). ts ++ texts_in (next m e) es) (quiet_item m e.line e.said h.1)
      ∙ quiet_items line es (next m e) h.2

  -- a directive that shows nothing
  pub nothing_shown : (m : Moment State Call) (es items : List Entry) (d : Directive) → is_show d.order ≡ false → Gives g call_of (later m es) d.line d.order items → texts_in m (es ++ items) ≡ texts_in m es
  nothing_shown m es items d quiet gives =
      texts-append m es items
      ∙ ap (λ (ts : List (List ℕ)). texts_in m es ++ ts) (quiet_items d.line items (later m es) (gives_each g call_of (later m es) d.line d.order items quiet gives))
      ∙ append-nil (texts_in m es)

  -- a show that is held
  held_by : (m k : Moment State Call) (es items : List Entry) (line : ℕ) (what : Shown) (os : List (Open Call)) → (os ≡ [] → ⊥) → Shows k line (orders.Show what) os items → texts_in k items ≡ []
  held_by m k es items line what [] busy h = absurd (busy refl)
  held_by m k es items line what (o ∷ os) busy h = ap (λ (xs : List Entry). texts_in k xs) h

  pub held_shown : (m : Moment State Call) (es items : List Entry) (line : ℕ) (what : Shown) → ((later m es).opens ≡ [] → ⊥) → Gives g call_of (later m es) line (orders.Show what) items → texts_in m (es ++ items) ≡ texts_in m es
  held_shown m es items line what busy gives =
      texts-append m es items
      ∙ ap (λ (ts : List (List ℕ)). texts_in m es ++ ts) (held_by m (later m es) es items line what (later m es).opens busy gives)
      ∙ append-nil (texts_in m es)

  -- a show with no frame under way
  shown_by : (k : Moment State Call) (items : List Entry) (line : ℕ) (what : Shown) (os : List (Open Call)) → os ≡ [] → Shows k line (orders.Show what) os items → texts_in k items ≡ rows_text line (showing k.world k.state what) ∷ []
  shown_by k items line what [] none h = ap (λ (xs : List Entry). texts_in k xs) h
  shown_by k items line what (o ∷ os) none h = cc

  pub one_shown : (m : Moment State Call) (es items : List Entry) (line : ℕ) (what : Shown) → (later m es).opens ≡ [] → Gives g call_of (later m es) line (orders.Show what) items →
      texts_in m (es ++ items) ≡ texts_in m es ++ rows_text line (showing (later m es).world (later m es).state what) ∷ []
  one_shown m es items line what none gives =
      texts-append m es items
      ∙ ap (λ (ts : List (List ℕ)). texts_in m es ++ ts) (shown_by (later m es) items line what (later m es).opens none gives)
