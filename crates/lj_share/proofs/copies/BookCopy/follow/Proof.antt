-- `follow` sets the one name that both copies have a half of. Assumes `Logic`.
use Rattle.std.proofs.Common.{ℕ, List, [], ◌∷◌, refl, sym}
use Rattle.std.proofs.raw_atomic.Walks.{proved}
use Rattle.lj_share.specs.inner.Codes.{seat_code}
use mir.Syntax.{named, w32}
use mir.Val.{Val, vunit, vptr}
use base.Fml.{ftrue, flft, fobs}
use types.Kit.{‵, raw, ◌⊛◌, ◌$◌, ◌∵◌, !, qed, move, keep, drop, split, join, fsplit, fsplit3, fjoin, fjoin3, feq_i, rewrite, suffices, frame}
use types.Run.{enter, of_opd, unit_lit, returns}
use types.ByLocal.{alloc_all, pass_all, free_all, look_at, sets}
use types.Tokens.{name_agree, name_set}
use denote.Builtin.{RefOf, u32}
use denote.Exit.{yes}
use denote.Plain.{uint_vals, uint_Tells}
use denote.RattleType.{owns}
use denote.Ref.{mut_vals, mut_Tells, shr_vals, shr_Tells}
use denote.Signature.{plain, types_at}
use denote.Steps.{nothing, heard, opens, closes}
use denote.Triple.Walked.{Stays, stay_dropped, stay_ref, Goes-dropped, Goes-ref, ends_at}
use Rattle.lj_share.proofs.Facts.{tells, tells_last}
use Rattle.lj_share.specs.inner.Copies.{book_copy_owns, seat_copy_owns}
use Rattle.lj_share.specs.Seats.{SeatValue, seat_of_book}
use Rattle.lj_share.specs.declared.copies.BookCopy.{BookCopy}
use Rattle.lj_share.specs.declared.copies.SeatCopy.{SeatCopy}
use Rattle.lj_book.specs.contracts.book.Book as book
use Rattle.lj_share.specs.contracts.copies.BookCopy as locked_book
use Rattle.lj_share.specs.contracts.copies.SeatCopy as seat
use Rattle.lj_share.specs.contracts.copies.BookCopy.follow as f
use Rattle.lj_share.proofs.copies.BookCopy.follow.Statement.{statement}
use Rattle.lj_share.proofs.copies.BookCopy.follow.Code as code

abbrev stayed : Stays f.ended.signature.params f.ended.kept
stayed = (
  stay_ref (0 ∷ []) tt (plain (λ _. locked_book.the_row)),
  (
    stay_ref (1 ∷ []) tt (plain (λ _. seat.the_row)),
    (stay_dropped (RefOf (2 ∷ []) tt (plain (λ _. book.the_row)) (λ _. tt)) yes, (stay_dropped (plain (λ _. u32)) yes, tt)),
  ),
)

pub follow_spec : {M : Type 1} → statement M
unfolding book_copy_owns seat_copy_owns
follow_spec 𝓤 𝓛 𝓜 𝓡 wired =
    let c = f.clauses 𝓛 𝓜.mem 𝓡.returns in
    proved 𝓛 f.ended stayed c 𝓜 𝓡 (
      Goes-ref 𝓛 3 0 tt (plain (λ _. locked_book.the_row)),
      (
        Goes-ref 𝓛 3 1 tt (plain (λ _. seat.the_row)),
        (Goes-dropped 𝓛 3 (RefOf (2 ∷ []) tt (plain (λ _. book.the_row)) (λ _. tt)) yes (λ κs x w. refl), (Goes-dropped 𝓛 3 (plain (λ _. u32)) yes (λ κs x w. refl), tt)),
      ),
    )
    f.Key.name code.function (code.unfolded 𝓤 𝓛.H 𝓜 𝓡 wired)
    (λ κs. (mut_vals, (mut_vals, (shr_vals, (uint_vals w32, tt)))))
    (λ κs. (mut_Tells (named 0) κs.0 locked_book.the_row, (mut_Tells (named 1) κs.1.0 seat.the_row, (shr_Tells (named 2) κs.1.1.0 book.the_row, (uint_Tells w32, tt)))))
    (λ κs qs bounds a g are.
    let r = a.0 in let s = a.1.0 in let n : ℕ = a.1.1.1.0 in
    let u : Val = vptr r.ref_ptr.0 r.ref_ptr.1 in let v : Val = vptr s.ref_ptr.0 s.ref_ptr.1 in
    let passed : List Val × (List Val × (List Val × (List Val × Unit {0}))) = (u ∷ [], (v ∷ [], (shr_vals a.1.1.0, (uint_vals w32 n, tt)))) in
    let shown : SeatValue = seat_of_book a.1.1.0.now n in
    let d : BookCopy = record { name = r.now.name; seat = shown } in let e : SeatCopy = record { name = s.now.name; seat = shown } in
    qed 𝓛 (((‵ (flft κs.0 qs.0) ⊛ ‵ (flft κs.1.0 qs.1.0) ⊛ ‵ (flft κs.1.1.0 qs.1.1.0) ⊛ ‵ ftrue) ⊛ ‵ (owns (types_at f.signature.params κs) a passed)) ∷ raw ((c κs a).requires g) ∷ []) ∵
    move ! (1 ∷ []) $ heard ! _ (λ one_name. split ! $ split ! $ move ! (1 ∷ []) $ split ! $
    move ! (3 ∷ []) $ fsplit ! $ fsplit3 ! $ drop ! $ move ! (2 ∷ []) $ fsplit ! $ fsplit3 ! $ drop ! $ keep ! (3 ∷ 4 ∷ 7 ∷ 0 ∷ 1 ∷ 5 ∷ 6 ∷ []) $
    enter ! _ _ _ _ _ $ alloc_all ! (λ l. pass_all ! refl ((tt, tt), ((tt, tt), ((tt, tt), ((tt, record { fits = are.1.1.1.0.1 }), tt)))) $
    opens ! tt locked_book.the_row r.ref_ptr.0 r.ref_ptr.1 (λ us. move ! (5 ∷ 6 ∷ 7 ∷ []) $ opens ! tt seat.the_row s.ref_ptr.0 s.ref_ptr.1 (λ vs.
    move ! (1 ∷ []) $ fsplit ! $ move ! (7 ∷ []) $ fsplit ! $ move ! (3 ∷ 1 ∷ []) $
    -- [the seat's half; the desk's half; what the fields own, twice; the open borrows]
    rewrite ! 0 (λ (γ : ℕ). ‵ (fobs γ (seat_code.code s.now.seat))) one_name refl $
    name_agree ! seat_code (λ agree. name_set ! tt (seat_code.code shown) $
    rewrite ! 0 (λ (γ : ℕ). ‵ (fobs γ (seat_code.code shown))) (sym one_name) refl $
    move ! (2 ∷ 1 ∷ []) $ fjoin ! $ move ! (2 ∷ 1 ∷ []) $ fjoin ! $
    move ! (2 ∷ 0 ∷ 3 ∷ 4 ∷ 5 ∷ []) $ closes ! tt seat.the_row e vs s.ref_ptr.0 s.ref_ptr.1 $
    move ! (4 ∷ 3 ∷ 5 ∷ 6 ∷ 7 ∷ []) $ closes ! tt locked_book.the_row d us r.ref_ptr.0 r.ref_ptr.1 $
    sets ! (of_opd ! (unit_lit !)) refl (tt, tt) $ returns ! (look_at ! 0 refl) $ free_all ! refl $
    -- [self, its token; other, its token; the other tokens]
    suffices ! _ (ends_at 𝓛 f.ended stayed c ((κs, qs, bounds, a, passed), g) vunit tt (d, (e, (tt, (tt, tt)))) (tt, (tt, (tt, (tt, tt))))) $
    feq_i ! (List Val) (u ∷ []) (u ∷ []) refl $ fjoin3 ! $ move ! (2 ∷ 3 ∷ []) $ feq_i ! (List Val) (v ∷ []) (v ∷ []) refl $ fjoin3 ! $
    nothing ! $ nothing ! $ fjoin ! $ nothing ! $ fjoin ! $ move ! (1 ∷ 0 ∷ []) $ fjoin ! $ move ! (1 ∷ 0 ∷ []) $ fjoin ! $
    feq_i ! (List Val) (vunit ∷ []) (vunit ∷ []) refl $ move ! (1 ∷ 0 ∷ []) $ join ! $ move ! (2 ∷ 3 ∷ []) $ join ! $ move ! (2 ∷ 0 ∷ []) $ join ! $ join ! $ frame ! $
    tells ! agree $ tells ! refl $ tells ! refl $ tells_last ! (refl, refl)))))))
