-- A text is cut at its first line feed, and the block of a script line goes on behind it.
use Rattle.std.proofs.Common.{◌≡◌, ℕ, ◌+◌, List, [], ◌∷◌, ◌++◌, length, drop, Bool, true, false, ◌⊎◌, inl, inr, refl, ◌∙◌, ap, sym, subst, append_assoc, arith}
use Rattle.std.specs.Prelude.{◌==◌, codes, if◌then◌else◌}
use Rattle.std.proofs.Math.Seq.{drop-append-add}
use Rattle.std.proofs.lemmas.Bool.{false≢true}
use Rattle.std.proofs.lemmas.Bool.Decides.{nat_tests}
use Rattle.std.proofs.lemmas.List.{append-nil}
use Rattle.report_text.specs.reading.Blocks.{begins_with, own_lines, behind, text_of}
use Rattle.trace_reader.specs.Reading.{parts_of}
use Rattle.report_text.specs.Unread.{is_empty}
use Rattle.report_text.specs.Taken.{Took}

pub when : {A : Type 0} (b : Bool) (x y : A) → b ≡ true → (if b then x else y) ≡ x
when b x y e = rw e refl

pub unless : {A : Type 0} (b : Bool) (x y : A) → b ≡ false → (if b then x else y) ≡ y
unless b x y e = rw e refl

-- ---- parts

-- A text has a first line, and this is behind it.
record IsCut (text : List ℕ) : Type 0 where
  line : List ℕ
  rest : List ℕ
  is : text ≡ line ++ 10 ∷ rest
  parts : parts_of text ≡ line ∷ parts_of rest

feed_is : (b : ℕ) → (b == 10) ≡ true → b ≡ 10
feed_is b e = grind (arith, nat_tests)

cut_case : (b : ℕ) (bs : List ℕ) (test : Bool) → (b == 10) ≡ test → (parts_of bs ≡ bs ∷ []) ⊎ IsCut bs → (parts_of (b ∷ bs) ≡ (b ∷ bs) ∷ []) ⊎ IsCut (b ∷ bs)
cut_case b bs true e h = inr (record { line = []; rest = bs; is = ap (λ (k : ℕ). k ∷ bs) (feed_is b e); parts = rw e refl })
cut_case b bs false e (inl h) = inl (rw (e, h) refl)
cut_case b bs false e (inr c) = inr (record { line = b ∷ c.line; rest = c.rest; is = ap (λ (xs : List ℕ). b ∷ xs) c.is; parts = rw (e, c.parts) refl })

-- it has, or it is one part
cut : (text : List ℕ) → (parts_of text ≡ text ∷ []) ⊎ IsCut text
cut [] = inl refl
cut (b ∷ bs) = cut_case b bs (b == 10) refl (cut bs)

record HasParts (text : List ℕ) : Type 0 where
  next : List ℕ
  more : List (List ℕ)
  is : parts_of text ≡ next ∷ more

parts_there : (text : List ℕ) → (parts_of text ≡ text ∷ []) ⊎ IsCut text → HasParts text
parts_there text (inl e) = record { next = text; more = []; is = e }
parts_there text (inr c) = record { next = c.line; more = parts_of c.rest; is = c.parts }

-- ---- the first line

own_at : (number : ℕ) (part next : List ℕ) (more parts : List (List ℕ)) → parts ≡ next ∷ more → own_lines number (part ∷ parts) ≡ (if begins_with number part then part ∷ own_lines number parts else [])
own_at number part next more parts e = rw e refl

past_at : (number : ℕ) (part next : List ℕ) (more parts : List (List ℕ)) → parts ≡ next ∷ more → behind number (part ∷ parts) ≡ (if begins_with number part then behind number parts else part ∷ parts)
past_at number part next more parts e = rw e refl

-- the first line is the block's where it begins so
pub own_first : (number : ℕ) (text part rest : List ℕ) → parts_of text ≡ part ∷ parts_of rest → own_lines number (parts_of text) ≡ (if begins_with number part then part ∷ own_lines number (parts_of rest) else [])
own_first number text part rest e = let h = parts_there rest (cut rest) in ap (own_lines number) e ∙ own_at number part h.next h.more (parts_of rest) h.is

past_first : (number : ℕ) (text part rest : List ℕ) → parts_of text ≡ part ∷ parts_of rest → begins_with number part ≡ true → behind number (parts_of text) ≡ behind number (parts_of rest)
past_first number text part rest e b =
    let h = parts_there rest (cut rest) in
    ap (behind number) e ∙ (past_at number part h.next h.more (parts_of rest) h.is ∙ when (begins_with number part) (behind number (parts_of rest)) (part ∷ parts_of rest) b)

one_text : (part rest : List ℕ) → part ++ 10 ∷ rest ≡ text_of (part ∷ []) ++ rest
one_text part rest = sym (ap (λ (bs : List ℕ). bs ++ rest) (append-nil (part ++ codes "\n")) ∙ append_assoc part (codes "\n") rest)

pub took_first : (number : ℕ) (text part rest : List ℕ) → text ≡ part ++ 10 ∷ rest → parts_of text ≡ part ∷ parts_of rest → begins_with number part ≡ true → Took number text (part ∷ []) rest
took_first number text part rest e p b = record {
  is = e ∙ one_text part rest;
  own = own_first number text part rest p ∙ when (begins_with number part) (part ∷ own_lines number (parts_of rest)) [] b;
  past = past_first number text part rest p b;
}

-- ---- the line that the block has

record Begins (number : ℕ) (text line : List ℕ) : Type 0 where
  begins : begins_with number line ≡ true
  took : Took number text (line ∷ []) (drop (length line + 1) text)

behind_cut : (text line rest : List ℕ) → text ≡ line ++ 10 ∷ rest → rest ≡ drop (length line + 1) text
behind_cut text line rest e = sym (ap (drop (length line + 1)) e ∙ drop-append-add line (10 ∷ rest) 1)

same_head : (x y : List ℕ) (xs ys : List (List ℕ)) → x ∷ xs ≡ y ∷ ys → x ≡ y
same_head x y xs ys e = cc

none_head : (y : List ℕ) (ys : List (List ℕ)) → [] ≡ y ∷ ys → ⊥
none_head y ys e = cc

own_begun : (number : ℕ) (text line : List ℕ) (lines : List (List ℕ)) → own_lines number (parts_of text) ≡ line ∷ lines → (c : IsCut text) (b : Bool) → begins_with number c.line ≡ b → Begins number text line
own_begun number text line lines h c true b =
    let first = own_first number text c.line c.rest c.parts ∙ when (begins_with number c.line) (c.line ∷ own_lines number (parts_of c.rest)) [] b in
    let same : c.line ≡ line = same_head c.line line (own_lines number (parts_of c.rest)) lines (sym first ∙ h) in
    let took : Took number text (c.line ∷ []) (drop (length c.line + 1) text) = subst (λ (r : List ℕ). Took number text (c.line ∷ []) r) (behind_cut text c.line c.rest c.is) (took_first number text c.line c.rest c.is c.parts b) in
    let here : Begins number text c.line = record { begins = b; took = took } in
    subst (λ (l : List ℕ). Begins number text l) same here
own_begun number text line lines h c false b =
    absurd (none_head line lines (sym (own_first number text c.line c.rest c.parts ∙ unless (begins_with number c.line) (c.line ∷ own_lines number (parts_of c.rest)) [] b) ∙ h))

own_case : (number : ℕ) (text line : List ℕ) (lines : List (List ℕ)) → own_lines number (parts_of text) ≡ line ∷ lines → (parts_of text ≡ text ∷ []) ⊎ IsCut text → Begins number text line
own_case number text line lines h (inl e) = absurd (none_head line lines (sym (ap (own_lines number) e) ∙ h))
own_case number text line lines h (inr c) = own_begun number text line lines h c (begins_with number c.line) refl

-- the block's next line begins with its number, and the block goes on behind it
pub own_begins : (number : ℕ) (text line : List ℕ) (lines : List (List ℕ)) → own_lines number (parts_of text) ≡ line ∷ lines → begins_with number line ≡ true
own_begins number text line lines h = (own_case number text line lines h (cut text)).begins

pub own_took : (number : ℕ) (text line : List ℕ) (lines : List (List ℕ)) → own_lines number (parts_of text) ≡ line ∷ lines → Took number text (line ∷ []) (drop (length line + 1) text)
own_took number text line lines h = (own_case number text line lines h (cut text)).took

-- ---- a text whose first line doesn't begin with the number has no line of the block

unnumbered_cut : (number : ℕ) (text : List ℕ) → ((line rest : List ℕ) → text ≡ line ++ 10 ∷ rest → begins_with number line ≡ true → ⊥) → (c : IsCut text) (b : Bool) → begins_with number c.line ≡ b → own_lines number (parts_of text) ≡ []
unnumbered_cut number text none c true b = absurd (none c.line c.rest c.is b)
unnumbered_cut number text none c false b = own_first number text c.line c.rest c.parts ∙ unless (begins_with number c.line) (c.line ∷ own_lines number (parts_of c.rest)) [] b

unnumbered_case : (number : ℕ) (text : List ℕ) → ((line rest : List ℕ) → text ≡ line ++ 10 ∷ rest → begins_with number line ≡ true → ⊥) → (parts_of text ≡ text ∷ []) ⊎ IsCut text → own_lines number (parts_of text) ≡ []
unnumbered_case number text none (inl e) = ap (own_lines number) e
unnumbered_case number text none (inr c) = unnumbered_cut number text none c (begins_with number c.line) refl

pub own_unnumbered : (number : ℕ) (text : List ℕ) → ((line rest : List ℕ) → text ≡ line ++ 10 ∷ rest → begins_with number line ≡ true → ⊥) → own_lines number (parts_of text) ≡ []
own_unnumbered number text none = unnumbered_case number text none (cut text)

-- ---- where the block is over

past_case : (number : ℕ) (part next : List ℕ) (parts : List (List ℕ)) (b : Bool) → begins_with number part ≡ b → own_lines number (part ∷ next ∷ parts) ≡ [] → behind number (part ∷ next ∷ parts) ≡ part ∷ next ∷ parts
past_case number part next parts true e h = absurd (none_head part (own_lines number (next ∷ parts)) (sym h ∙ when (begins_with number part) (part ∷ own_lines number (next ∷ parts)) [] e))
past_case number part next parts false e h = unless (begins_with number part) (behind number (next ∷ parts)) (part ∷ next ∷ parts) e

pub past_none : (number : ℕ) (parts : List (List ℕ)) → own_lines number parts ≡ [] → behind number parts ≡ parts
past_none number [] h = refl
past_none number (part ∷ []) h = refl
past_none number (part ∷ next ∷ parts) h = past_case number part next parts (begins_with number part) refl h

pub none_left : (lines : List (List ℕ)) → is_empty lines ≡ true → lines ≡ []
none_left [] h = refl
none_left (line ∷ lines) h = absurd (false≢true h)

not_empty : (b : ℕ) (bs : List ℕ) → b ∷ bs ≡ [] → ⊥
not_empty b bs e = cc

pub no_text : (lines : List (List ℕ)) → text_of lines ≡ [] → is_empty lines ≡ true
no_text [] h = refl
no_text ([] ∷ lines) h = absurd (not_empty 10 (text_of lines) h)
no_text ((b ∷ bs) ∷ lines) h = absurd (not_empty b ((bs ++ codes "\n") ++ text_of lines) h)
