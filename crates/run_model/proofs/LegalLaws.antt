-- Legal runs and their parts: a run is legal exactly where its front is, and what follows is from there.
use Rattle.std.proofs.Common.{◌≡◌, List, [], ◌∷◌, ◌++◌, refl}
use Rattle.run_model.specs.Moment.{Setting, Moment, Transition, after, after_all}
use Rattle.run_model.specs.Legal.{InTime, IsLegalDeed, IsServed, IsLegal}

-- the moment after one deed more
pub after_all-append : {State Call : Type 0} (g : Setting State Call) (m : Moment State Call) (h : List (Transition Call)) (x : Transition Call) → after_all g m (h ++ x ∷ []) ≡ after g (after_all g m h) x
after_all-append g m [] x = refl
after_all-append g m (y ∷ h) x = after_all-append g (after g m y) h x

-- a legal run and one legal deed more
pub legal-append : {State Call : Type 0} (g : Setting State Call) (m : Moment State Call) (h : List (Transition Call)) (x : Transition Call) → IsLegal g m h → InTime (g.machine.expires (after_all g m h).world (after_all g m h).state) x → IsLegalDeed g (after_all g m h) x → IsServed g (after g (after_all g m h) x) → IsLegal g m (h ++ x ∷ [])
legal-append g m [] x l t k q = (l, t, k, q)
legal-append g m (y ∷ h) x l t k q = (l.0, l.1, l.2, legal-append g (after g m y) h x l.3 t k q)

-- a legal run, and one that is legal from where it ends, are one legal run
pub legal-joined : {State Call : Type 0} (g : Setting State Call) (m : Moment State Call) (h k : List (Transition Call)) → IsLegal g m h → IsLegal g (after_all g m h) k → IsLegal g m (h ++ k)
legal-joined g m [] k l r = r
legal-joined g m (y ∷ h) k l r = (l.0, l.1, l.2, legal-joined g (after g m y) h k l.3 r)

-- the first moment of a legal run is served, and so is the last
pub served-first : {State Call : Type 0} (g : Setting State Call) (m : Moment State Call) (h : List (Transition Call)) → IsLegal g m h → IsServed g m
served-first g m [] l = l
served-first g m (y ∷ h) l = l.0

pub served-last : {State Call : Type 0} (g : Setting State Call) (m : Moment State Call) (h : List (Transition Call)) → IsLegal g m h → IsServed g (after_all g m h)
served-last g m [] l = l
served-last g m (y ∷ h) l = served-last g (after g m y) h l.3

-- the front of a legal run is legal, and what follows is from there
pub legal-parts : {State Call : Type 0} (g : Setting State Call) (m : Moment State Call) (h k : List (Transition Call)) → IsLegal g m (h ++ k) → IsLegal g m h × IsLegal g (after_all g m h) k
legal-parts g m [] k l = (served-first g m k l, l)
legal-parts g m (y ∷ h) k l = let parts : IsLegal g (after g m y) h × IsLegal g (after_all g (after g m y) h) k = legal-parts g (after g m y) h k l.3 in ((l.0, l.1, l.2, parts.0), parts.1)
