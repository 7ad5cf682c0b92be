-- `new_copies` makes a name at some seat, and gives each copy one half of it. Assumes `Logic`.
use Rattle.std.proofs.Common.{List, [], ◌∷◌, ◌++◌, None, refl}
use Rattle.std.proofs.raw_atomic.Walks.{proved}
use Rattle.lj_share.specs.Seats.{SeatValue}
use Rattle.lj_share.specs.inner.Codes.{seat_code}
use mir.Val.{Val, vstruct, vcons, vnil, of_list}
use base.Fml.{fsep, feq}
use types.Kit.{raw, ◌$◌, ◌∵◌, !, qed, move, keep, join, fjoin, fjoin3, fpack, feq_i, suffices, frame}
use types.Part.{agg}
use types.Run.{enter, returns, no_more, and_then}
use types.ByLocal.{alloc_all, pass_all, free_all, look_at, get, sets}
use types.Tokens.{name_new}
use denote.RattleType.{Valss, owns}
use denote.Shadow.{pure_i}
use denote.Steps.{nothing}
use denote.Struct.Owning.{shape}
use denote.Struct.Struct.{Struct}
use denote.Triple.Entry.{on_entry}
use denote.Triple.Walked.{ends_at}
use Rattle.lj_share.proofs.Facts.{tells_last}
use Rattle.lj_share.specs.inner.Copies.{book_copy_owns, seat_copy_owns}
use Rattle.lj_share.specs.declared.copies.BookCopy.{BookCopy}
use Rattle.lj_share.specs.declared.copies.SeatCopy.{SeatCopy}
use Rattle.lj_share.specs.contracts.copies.BookCopy as locked_book
use Rattle.lj_share.specs.contracts.copies.SeatCopy as seat
use Rattle.lj_share.specs.contracts.copies.new_copies as f
use Rattle.lj_share.proofs.copies.new_copies.Statement.{statement}
use Rattle.lj_share.proofs.copies.new_copies.Code as code

abbrev empty : Val
empty = vstruct vnil

abbrev nobody : SeatValue
nobody = record { number = 0; calls = []; view = None }

abbrev both : Val
both = vstruct (vcons empty (vcons empty vnil))

pub new_copies_spec : {M : Type 1} → statement M
unfolding book_copy_owns seat_copy_owns
new_copies_spec 𝓤 𝓛 𝓜 𝓡 wired =
    let c = f.clauses 𝓛 𝓜.mem 𝓡.returns in
    proved 𝓛 f.ended tt c 𝓜 𝓡 tt f.Key.name code.function (code.unfolded 𝓤 𝓛.H 𝓜 𝓡 wired)
    (λ κs. tt) (λ κs. tt) (λ κs qs bounds a g are.
    qed 𝓛 (raw (on_entry 𝓛 f.signature κs qs a tt) ∷ raw ((c κs a).requires g) ∷ []) ∵ keep ! [] $
    enter ! _ _ _ _ _ $ alloc_all ! (λ l. pass_all ! refl tt $
    name_new ! tt (seat_code.code nobody) (λ γ.
    let d : BookCopy = record { name = γ; seat = nobody } in let s : SeatCopy = record { name = γ; seat = nobody } in
    sets ! (agg ! (no_more !)) refl (tt, tt) $ sets ! (agg ! (no_more !)) refl (tt, tt) $
    sets ! (agg ! (and_then ! (get ! refl) (and_then ! (get ! refl) (no_more !)))) refl (tt, (tt, (tt, tt))) $
    returns ! (look_at ! 0 refl) $ free_all ! refl $
    -- [the seat's half; the desk's half]
    suffices ! _ (ends_at 𝓛 f.ended tt c ((κs, qs, bounds, a, tt), g) both (d, s) tt tt) $
    pure_i ! ((Struct (shape seat.the_type)).own_val tt (empty ∷ [])) (λ vss. (tt, tt)) (tt, (refl, tt)) $ fjoin ! $ move ! (1 ∷ []) $
    pure_i ! ((Struct (shape locked_book.the_type)).own_val tt (empty ∷ [])) (λ vss. (tt, tt)) (tt, (refl, tt)) $ fjoin ! $
    nothing ! $ move ! (1 ∷ 2 ∷ 0 ∷ []) $ fjoin3 ! $ feq_i ! (List Val) (both ∷ []) (both ∷ []) refl $ fjoin ! $
    fpack ! (Valss (locked_book.the_row ∷ seat.the_row ∷ []))
    (λ vss. fsep (feq (List Val) (both ∷ []) (vstruct (of_list (vss.0 ++ (vss.1.0 ++ []))) ∷ [])) (owns (locked_book.the_row ∷ seat.the_row ∷ []) (d, (s, tt)) vss))
    (empty ∷ [], (empty ∷ [], tt)) $
    nothing ! $ join ! $ nothing ! $ join ! $ frame ! $
    tells_last ! refl)))
