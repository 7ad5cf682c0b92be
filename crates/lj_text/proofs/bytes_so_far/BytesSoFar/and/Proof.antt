-- `and` makes the empty struct, with the bytes that its clause names. Assumes `Logic`.
use Rattle.std.proofs.Common.{List, [], ◌∷◌, ◌++◌, length, refl}
use seplogic.Ra.Ura.{Ura}
use mir.Syntax.{named}
use mir.Val.{Val, vstruct, vnil, vptr}
use base.Logic.{SProp}
use prog.Memory.{Memory}
use prog.Routine.{Routine}
use prog.Wp.{Calls, Loops, WpFn, Tables}
use contract.Monad.{Fun}
use contract.Running.{tables, tables_of}
use sound.WpLaws.{WpFn-mono}
use types.Logic.{Logic}
use types.Kit.{‵, raw, ◌⊛◌, ◌$◌, ◌∵◌, !, qed, move, keep, split, fjoin, suffices, done}
use types.Part.{agg}
use types.Run.{enter, returns, no_more}
use types.ByLocal.{alloc_all, pass_all, free_all, look_at, sets}
use denote.Exit.{yes}
use denote.RattleType.{owns}
use denote.Builtin.{RefOf, SliceRefOf, u8}
use denote.Ref.{shr_vals, shr_Tells}
use denote.Shadow.{pure_i}
use denote.Signature.{plain, types_at}
use denote.Slice.{slice_val, shr_slice_vals, shr_slice_Tells}
use denote.Steps.{nothing}
use denote.Triple.Entry.{alive}
use denote.Triple.Spec.{Meets, triple_of}
use denote.Triple.Table.{entered}
use denote.Triple.Walked.{says, Stays, stay_dropped, AllGo, Goes-dropped, Walks, ends_at, walked, walk_Meets}
use Rattle.lj_text.specs.declared.bytes_so_far.BytesSoFar.{BytesSoFar}
use Rattle.lj_text.specs.contracts.bytes_so_far.BytesSoFar as T
use Rattle.lj_text.specs.contracts.bytes_so_far.BytesSoFar.and as it
use Rattle.lj_text.specs.contracts.bytes_so_far.BytesSoFar.and.Key.{name as #it}
use Rattle.lj_text.proofs.bytes_so_far.BytesSoFar.and.Statement as stated
use Rattle.lj_text.proofs.bytes_so_far.BytesSoFar.and.Code as code

abbrev v : Val
v = vstruct vnil

abbrev stayed : Stays (it.ended).signature.params (it.ended).kept
stayed = (stay_dropped (RefOf (0 ∷ []) tt (plain (λ _. T.the_row)) (λ _. tt)) yes, (stay_dropped (SliceRefOf (1 ∷ []) tt (plain (λ _. u8)) (λ _. tt)) yes, tt))

module _ {M : Type 1} {𝓤 : Ura M} (𝓛 : Logic 𝓤) (at_mem : Memory → SProp 𝓤) (run : Routine → Fun 𝓤) where
  open 𝓛 use {H}

  propagations : (C : Calls 𝓤 H) (Λ : Loops 𝓤 H) → Walks 𝓛 it.ended stayed (WpFn 𝓤 H C Λ code.function) (it.clauses 𝓛 at_mem run)
  propagations C Λ = walked 𝓛 it.ended stayed (it.clauses 𝓛 at_mem run) (WpFn 𝓤 H C Λ code.function)
      (λ κs. (shr_vals, (shr_slice_vals, tt))) (λ κs. (shr_Tells (named 0) κs.0 T.the_row, (shr_slice_Tells (named 1) κs.1.0 u8, tt)))
      (λ κs qs bounds a g are.
      let p = vptr a.0.ref_ptr.0 a.0.ref_ptr.1 in
      let s = slice_val a.1.0.ref_ptr (length a.1.0.now) in
      let vss : List Val × (List Val × Unit {0}) = (p ∷ [], (s ∷ [], tt)) in
      let made : BytesSoFar = record { bytes = a.0.now.bytes ++ a.1.0.now } in
      qed 𝓛 ((raw (alive 𝓛 it.signature κs qs) ⊛ ‵ (owns (types_at it.signature.params κs) a vss)) ∷ raw ((it.clauses 𝓛 at_mem run κs a).requires g) ∷ []) ∵
      keep ! (0 ∷ []) $ split ! $ keep ! (0 ∷ []) $
      enter ! C Λ code.function (p ∷ s ∷ []) _ $ alloc_all ! (λ l. pass_all ! refl ((tt, tt), ((tt, (tt, (record { fits = are.1.0.0.1.0 }, tt))), tt)) $
      sets ! (agg ! (no_more !)) refl (tt, tt) $
      returns ! (look_at ! 0 refl) $ free_all ! refl $
      pure_i ! ((T.the_row).own_val made (v ∷ [])) ((λ vss. (tt, tt)), tt) ((tt, (refl, tt)), tt) $
      suffices ! _ (ends_at 𝓛 it.ended stayed (it.clauses 𝓛 at_mem run) ((κs, qs, bounds, a, vss), g) v made (tt, (tt, tt)) (tt, (tt, tt))) $ says ! refl $
      nothing ! $ nothing ! $ fjoin ! $ nothing ! $ fjoin ! $ move ! (2 ∷ 0 ∷ 1 ∷ []) $ done !))

  goes : AllGo 𝓛 2 (it.signature).params (it.ended).kept stayed
  goes = (Goes-dropped 𝓛 2 (RefOf (0 ∷ []) tt (plain (λ _. T.the_row)) (λ _. tt)) yes (λ κs x f. refl), (Goes-dropped 𝓛 2 (SliceRefOf (1 ∷ []) tt (plain (λ _. u8)) (λ _. tt)) yes (λ κs x f. refl), tt))

meets : {M : Type 1} {𝓤 : Ura M} (𝓛 : Logic 𝓤) → (at_mem : Memory → SProp 𝓤) (run : Routine → Fun 𝓤) (𝓣 : Tables 𝓤 𝓛.H)
    → Meets 𝓛 it.signature (WpFn 𝓤 𝓛.H 𝓣.C 𝓣.Λ code.function) (it.spec 𝓛 at_mem run)
meets {𝓤 = 𝓤} 𝓛 at_mem run 𝓣 = walk_Meets 𝓛 it.ended stayed (goes 𝓛 at_mem run) (it.clauses 𝓛 at_mem run) (WpFn 𝓤 𝓛.H 𝓣.C 𝓣.Λ code.function) (WpFn-mono 𝓤 𝓛.H 𝓛.laws 𝓣 code.function) (propagations 𝓛 at_mem run 𝓣.C 𝓣.Λ)

pub and_spec : {M : Type 1} → stated.statement M
unfolding tables_of
and_spec 𝓤 𝓛 𝓜 𝓡 wired =
    entered 𝓤 𝓛.H (triple_of 𝓛 it.signature (it.spec 𝓛 𝓜.mem 𝓡.returns))
    (tables 𝓤 𝓛.H 𝓜 𝓡 𝓡.env).C (tables 𝓤 𝓛.H 𝓜 𝓡 𝓡.env).Λ #it code.function (code.unfolded 𝓤 𝓛.H 𝓜 𝓡 wired)
    (meets 𝓛 𝓜.mem 𝓡.returns (tables_of 𝓤 𝓛.H 𝓜 (tables 𝓤 𝓛.H 𝓜 𝓡 𝓡.env)))
