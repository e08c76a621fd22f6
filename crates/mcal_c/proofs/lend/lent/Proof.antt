-- `as_mut` lends the bench, and the handle follows it.
use Rattle.std.proofs.Common.{◌≡◌, ℕ, List, [], ◌∷◌, ◌++◌, refl, sym, ap, subst, MutBor}
use seplogic.Ra.Ura.{Ura}
use base.Fraction.{full_share}
use mir.Syntax.{named}
use mir.Val.{Val, vptr, vstruct, of_list, vcons, vnil}
use mir.Raw.{raw as bare}
use base.Logic.{SProp, ent, sep, never, fst∗}
use base.Fml.{GName, Fml, ftrue, flft, fsep}
use contract.Running.{tables}
use types.Logic.{Logic, sem}
use types.Kit.{‵, raw, ◌⊛◌, some, later, at_ret, ◌$◌, ◌∵◌, !, qed, by, move, keep, drop, use1, await, split, join, pick, fsplit, fsplit3, fjoin, fpick, fpack, feq_l, feq_i, rewrite, suffices, frame, group, done}
use types.Run.{stop, fld, load, of_opd, first, blocks, exec, returns, enter, addr}
use types.ByLocal.{alloc_all, pass_all, free_all, look_at, get, through, sets, sets_last, env}
use types.Part.{whole, sub, look_in}
use denote.RattleType.{RattleType, Valss}
use denote.Memory.{part_at, mem, cell_at, part_of, lone}
use denote.RawPtr.{Ptr, RawPtr, block_ptr, null_ptr, ptr_val, in_a_block}
use denote.Ref.{MutRef, mut_vals, mut_Tells}
use denote.Signature.{plain, mut_ref_to}
use denote.Steps.{nothing, opens}
use denote.Follow.{follows, Part, lends_Part}
use denote.Exit.{no}
use denote.Struct.Struct.{within}
use denote.Struct.Owning.{shape}
use denote.Triple.Walked.{says, Stays, stay_dropped, walk_of, ends_at, Goes-spent_ref}
use Rattle.std.proofs.raw_atomic.Walks.{proved}
use Rattle.std_alloc.proofs.VecSteps.Shapes.{after}
use Rattle.std_alloc.specs.Box.Ownership.{box_owns}
use Rattle.std.specs.contracts.impls.GlobalAllocator.TheImpl.{ghosts}
use Rattle.mcal_c.specs.declared.handle.Handle.{Handle}
use Rattle.mcal_c.specs.declared.handle.Bench.{Bench}
use Rattle.mcal_c.specs.contracts.handle.Bench as bench
use Rattle.mcal_c.specs.contracts.handle.Handle as holder
use Rattle.mcal_c.specs.Lending.{with_value}
use Rattle.mcal_c.specs.contracts.lend.lent as f
use Rattle.mcal_c.proofs.lend.lent.Statement.{statement}
use Rattle.mcal_c.proofs.lend.lent.Code as code

abbrev R : RattleType
R = bench.the_row

abbrev B : RattleType
B = holder.the_row

abbrev stayed : Stays f.ended.signature.params f.ended.kept
stayed = (stay_dropped (mut_ref_to (0 ∷ []) tt (plain (λ _. B))) no, tt)

abbrev word : ℕ → ℕ → Val
word b o = vstruct (vcons (vptr b o) vnil)

module _ {M : Type 1} {𝓤 : Ura M} (𝓛 : Logic 𝓤) (rb ro : ℕ) (h : Handle) (b o : ℕ) where
  -- all of the handle but its value
  abbrev Rest : Fml
  Rest = fsep (ghosts.dealloc_token h.alloc (bare (lone R.mir)) (block_ptr b o)) (cell_at full_share B.mir (word b o ∷ []) rb ro)

  back : h.at ≡ block_ptr b o → (w : Bench) → ent 𝓤 (sep 𝓤 (sem 𝓛 ((mem R).own_at w b o)) (sem 𝓛 Rest)) (sem 𝓛 ((mem B).own_at (with_value h w) rb ro))
  unfolding part_of
  back at_b w =
      qed 𝓛 (‵ (part_at R full_share w b o) ∷ ‵ Rest ∷ []) ∵ move ! (1 ∷ []) $ fsplit ! $ move ! (2 ∷ 0 ∷ []) $ fjoin ! $
      rewrite ! 0 (λ (p : Ptr). ‵ (box_owns (ghosts.dealloc_token h.alloc) R p w)) (sym at_b) refl $
      nothing ! $ feq_i ! (List Val) (vptr b o ∷ []) (ptr_val h.at ∷ []) (ap (λ (p : Ptr). ptr_val p ∷ []) (sym at_b)) $ fjoin ! $ feq_i ! (List Val) (word b o ∷ []) (word b o ∷ []) refl $ fjoin ! $
      fpack ! (Valss (RawPtr ∷ [])) (within (shape holder.the_type) (h.at, tt) (word b o ∷ [])) (vptr b o ∷ [], tt) $ fjoin ! $ move ! (1 ∷ 0 ∷ []) $ fjoin ! $
      fpack ! (List Val) (λ us. fsep (cell_at full_share B.mir us rb ro) (B.own_val (with_value h w) us)) (word b o ∷ []) $ done !

pub lent_spec : {M : Type 1} → statement M
lent_spec 𝓤 𝓛 𝓜 𝓡 wired =
    let c = f.clauses 𝓛 𝓜.mem 𝓡.returns in let 𝓣 = tables 𝓤 𝓛.H 𝓜 𝓡 𝓡.env in let fn = code.function in
    proved 𝓛 f.ended stayed c 𝓜 𝓡 (Goes-spent_ref 𝓛 1 (0 ∷ []) tt (plain (λ _. B)), tt) f.Key.name fn (code.unfolded 𝓤 𝓛.H 𝓜 𝓡 wired)
    (λ κs. (mut_vals, tt)) (λ κs. (mut_Tells (named 0) κs.0 B, tt)) (λ κs qs bounds a _ are.
    let rb = a.0.ref_ptr.0 in let ro = a.0.ref_ptr.1 in let h = a.0.now in let γ = a.0.ghost_name in let vs = mut_vals a.0 in
    let y : (walk_of 𝓛 f.ended stayed c).Ghost = ((κs, qs, bounds, a, (vs, tt)), tt) in let Post : Val → SProp 𝓤 = (walk_of 𝓛 f.ended stayed c).post y in
    qed 𝓛 (((‵ (flft κs.0 qs.0) ⊛ ‵ ftrue) ⊛ ‵ ((MutRef (named 0) κs.0 B).own_val a.0 vs) ⊛ ‵ ftrue) ∷ ‵ ftrue ∷ []) ∵
    split ! $ split ! $ move ! (2 ∷ []) $ split ! $ keep ! (0 ∷ 2 ∷ []) $
    enter ! _ _ fn _ Post $ alloc_all ! (λ l. pass_all ! refl ((tt, tt), tt) $
    fsplit3 ! $ move ! (1 ∷ 2 ∷ 3 ∷ []) $ opens ! tt B rb ro (λ us. move ! (1 ∷ []) $
    fsplit ! $ fpick ! (λ vss. fsplit ! $ feq_l ! (λ ev. fsplit ! $ feq_l ! (λ ep. drop ! $
    in_a_block ! h.at (λ p. box_owns (ghosts.dealloc_token h.alloc) R p h.value) (fst∗ 𝓤 (never 𝓤) (sem 𝓛 (ghosts.dealloc_token h.alloc (bare (lone R.mir)) null_ptr))) (λ b o e. fsplit ! $
    let ws : us ≡ word b o ∷ [] = subst (λ (p : Ptr). us ≡ vstruct (of_list (ptr_val p ∷ [])) ∷ []) e (subst (λ (ps : List Val). us ≡ vstruct (of_list (ps ++ [])) ∷ []) ep ev) in
    rewrite ! 2 (λ (xs : List Val). ‵ (cell_at full_share B.mir xs rb ro)) ws refl $
    first ! $ blocks ! $
    sets ! (of_opd ! (load ! (through ! refl (fld ! refl (stop !))) (look_in ! 2 (sub ! 0 refl (whole !))))) refl (tt, tt) $
    sets ! (of_opd ! (get ! refl)) refl (tt, tt) $
    sets_last ! (addr ! (through ! refl (stop !))) refl (tt, tt) $
    exec ! 𝓣.C 𝓣.Λ (env fn.locals l) (after 1 fn.body) (at_ret (env fn.locals l) Post) $
    sets ! (of_opd ! (get ! refl)) refl (tt, tt) $
    move ! (1 ∷ 2 ∷ []) $ fjoin ! $ move ! (2 ∷ 3 ∷ 4 ∷ 1 ∷ 0 ∷ []) $ group ! 5 $
    use1 𝓛 (later (some (λ (γ' : GName). raw (Part 𝓛 B R (with_value h) (named 0) κs.0 qs.0 rb ro b o γ (sem 𝓛 (Rest 𝓛 rb ro h b o)) (back 𝓛 rb ro h b o e) h.value γ'))))
    (lends_Part 𝓛 B R (with_value h) (named 0) κs.0 qs.0 rb ro b o γ (sem 𝓛 (Rest 𝓛 rb ro h b o)) (back 𝓛 rb ro h b o e) (B.coded.code h) (B.coded.code h) h.value) $ await ! tt $ pick ! (λ γ'.
    returns ! (look_at ! 0 refl) $ free_all ! refl $ keep ! (0 ∷ []) $
    let r : MutBor Bench = record { ref_ptr = (b, o); ghost_name = γ'; now = h.value } in
    by ! (qed 𝓛 (‵ ((MutRef (named 0) κs.0 R).own_val r (vptr b o ∷ [])) ∷ ‵ (flft κs.0 qs.0) ∷ ‵ (follows B R γ γ' (with_value h)) ∷ []) ∵
    suffices ! _ (ends_at 𝓛 f.ended stayed c y (vptr b o) r (tt, tt) (tt, tt)) $
    nothing ! $ nothing ! $ fjoin ! $ join ! $ nothing ! $ move ! (2 ∷ 0 ∷ []) $ join ! $ join ! $ frame ! $ says ! refl $ done !)))))))))
