-- Takes by views whose clauses are renamed.
use Rattle.std.proofs.Common.{◌≡◌, ap, refl, sym, ◌∙◌, ℕ, Bool, cond, true, false}
use Rattle.std.specs.Prelude.{List, [], ◌∷◌, map, Option, Some, None, option_map, is_some, Result, Ok, Err}
use Rattle.std.specs.Ordering.{nat_cmp, eq_by_cmp}
use Rattle.std.specs.Cmp.{nat_cmp_total}
use Rattle.std.specs.FinMap as fin
use Rattle.std.specs.FinMap.Entries.{find}
use Rattle.lj_clause.specs.Rat.{HintGroup}
use Rattle.lj_clause.specs.Renaming.{Renaming, inverse}
use Rattle.lj_text.specs.declared.line.Addition.{Addition}
use Rattle.lj_hint.specs.declared.pair.Pair.{Pair}
use Rattle.lj_hint.specs.Images.{pair_image, hinted_image}
use Rattle.lj_book.specs.declared.refusal.Refusal.{Refusal}
use Rattle.lj_book.specs.declared.refusal.Refusal.TheVariants.{NumberTaken}
use Rattle.lj_book.specs.Calls.{if_known, pairs_of, with_pair, group_pairs_of, with_group_pair, repeated_after, case_with}
use Rattle.lj_book.specs.Solo.{Holdings, view_of, solo_case}
use Rattle.lj_book.specs.Named.{names_of, beneath}
use Rattle.lj_book.specs.NamedViews.{take_image, holdings_image, TakesCommuteWithRenamings, NamedTakesAreAlone}
use Rattle.lj_book.proofs.NamedLaws.{beneath_is_reached}
use Rattle.lj_book.proofs.ViewLaws.{takes_alone}

module _ (m : Renaming) where
  find-image : (es : List (ℕ × Pair)) (q : ℕ) → find nat_cmp q (map (λ (e : ℕ × Pair). (e.0, pair_image m e.1)) es) ≡ option_map (pair_image m) (find nat_cmp q es)
  find-image [] q = refl
  find-image (e ∷ es) q = elim (eq_by_cmp nat_cmp q e.0) as (λ b. cond b (Some (pair_image m e.1)) (find nat_cmp q (map (λ (e : ℕ × Pair). (e.0, pair_image m e.1)) es)) ≡ option_map (pair_image m) (cond b (Some e.1) (find nat_cmp q es))) [ true ↦ refl | false ↦ find-image es q ]

  pub get-holdings_image : (h : Holdings) (q : ℕ) → fin.get (holdings_image m h) q ≡ option_map (pair_image m) (fin.get h q)
  get-holdings_image h q =
      fin.get-from_entries nat_cmp_total (map (λ (e : ℕ × Pair). (e.0, pair_image m e.1)) (fin.entries h)) q
      ∙ find-image (fin.entries h) q
      ∙ ap (option_map (pair_image m)) (sym (fin.get-entries h q))

  abbrev pairs_image : Result (List Pair) Refusal → Result (List Pair) Refusal
  pairs_image (Ok ps) = Ok (map (pair_image m) ps)
  pairs_image (Err e) = Err e

  abbrev groups_image : Result (List (Pair × List Pair)) Refusal → Result (List (Pair × List Pair)) Refusal
  groups_image (Ok gs) = Ok (map (hinted_image m) gs)
  groups_image (Err e) = Err e

  with_pair-image : (p : Pair) (r : Result (List Pair) Refusal) → with_pair (pair_image m p) (pairs_image r) ≡ pairs_image (with_pair p r)
  with_pair-image p (Ok ps) = refl
  with_pair-image p (Err e) = refl

  with_group-image : (p : Pair) (r : Result (List Pair) Refusal) (gs : Result (List (Pair × List Pair)) Refusal) → with_group_pair (pair_image m p) (pairs_image r) (groups_image gs) ≡ groups_image (with_group_pair p r gs)
  with_group-image p (Err e) gs = refl
  with_group-image p (Ok ps) (Err e) = refl
  with_group-image p (Ok ps) (Ok gs) = refl

  pairs_of-image : (pair : ℕ → Option Pair) (owns : List ℕ) → pairs_of (λ own. option_map (pair_image m) (pair own)) owns ≡ pairs_image (pairs_of pair owns)
  pairs_of-image pair [] = refl
  pairs_of-image pair (own ∷ owns) = by (pair own) (pairs_of-image pair owns)
    where
      by : (o : Option Pair) → pairs_of (λ own. option_map (pair_image m) (pair own)) owns ≡ pairs_image (pairs_of pair owns)
          → if_known own (option_map (pair_image m) o) (λ p. with_pair p (pairs_of (λ own. option_map (pair_image m) (pair own)) owns)) ≡ pairs_image (if_known own o (λ p. with_pair p (pairs_of pair owns)))
      by None rest = refl
      by (Some p) rest = ap (with_pair (pair_image m p)) rest ∙ with_pair-image p (pairs_of pair owns)

  group_pairs_of-image : (pair : ℕ → Option Pair) (gs : List HintGroup) → group_pairs_of (λ own. option_map (pair_image m) (pair own)) gs ≡ groups_image (group_pairs_of pair gs)
  group_pairs_of-image pair [] = refl
  group_pairs_of-image pair (g ∷ gs) = by (pair g.candidate) (group_pairs_of-image pair gs)
    where
      by : (o : Option Pair) → group_pairs_of (λ own. option_map (pair_image m) (pair own)) gs ≡ groups_image (group_pairs_of pair gs)
          → if_known g.candidate (option_map (pair_image m) o) (λ p. with_group_pair p (pairs_of (λ own. option_map (pair_image m) (pair own)) g.hints) (group_pairs_of (λ own. option_map (pair_image m) (pair own)) gs))
          ≡ groups_image (if_known g.candidate o (λ p. with_group_pair p (pairs_of pair g.hints) (group_pairs_of pair gs)))
      by None rest = refl
      by (Some p) rest = (λ i. with_group_pair (pair_image m p) (pairs_of-image pair g.hints i) (rest i)) ∙ with_group-image p (pairs_of pair g.hints) (group_pairs_of pair gs)

  case_with-image : (seat : ℕ) (a : Addition) (repeated : Option ℕ) (hints : Result (List Pair) Refusal) (groups : Result (List (Pair × List Pair)) Refusal) → case_with seat a repeated (pairs_image hints) (groups_image groups) ≡ take_image m (case_with seat a repeated hints groups)
  case_with-image seat a repeated (Err e) groups = refl
  case_with-image seat a repeated (Ok hints) (Err e) = refl
  case_with-image seat a None (Ok hints) (Ok groups) = refl
  case_with-image seat a (Some own) (Ok hints) (Ok groups) = refl

  same_joint : (o : Option Pair) → option_map (λ (p : Pair). p.joint) (option_map (pair_image m) o) ≡ option_map (λ (p : Pair). p.joint) o
  same_joint None = refl
  same_joint (Some p) = refl

  still_some : (o : Option Pair) → is_some (option_map (pair_image m) o) ≡ is_some o
  still_some None = refl
  still_some (Some p) = refl

  solo_case-image : (h : Holdings) (seat : ℕ) (a : Addition) → solo_case (holdings_image m h) seat a ≡ take_image m (solo_case h seat a)
  solo_case-image h seat a =
      (λ i. case_with seat a (repeated_after (λ own. (ap (option_map (λ (p : Pair). p.joint)) (get-holdings_image h own) ∙ same_joint (fin.get h own)) i) [] a.groups)
      (pairs_of (λ own. get-holdings_image h own i) a.hints) (group_pairs_of (λ own. get-holdings_image h own i) a.groups))
      ∙ (λ i. case_with seat a (repeated_after (λ own. option_map (λ (p : Pair). p.joint) (fin.get h own)) [] a.groups) (pairs_of-image (fin.get h) a.hints i) (group_pairs_of-image (fin.get h) a.groups i))
      ∙ case_with-image seat a (repeated_after (λ own. option_map (λ (p : Pair). p.joint) (fin.get h own)) [] a.groups) (pairs_of (fin.get h) a.hints) (group_pairs_of (fin.get h) a.groups)

pub takes_commute : TakesCommuteWithRenamings
takes_commute m None seat a = refl
takes_commute m (Some h) seat a =
    (λ i. cond ((ap is_some (get-holdings_image m h a.number) ∙ still_some m (fin.get h a.number)) i) (Err NumberTaken) (solo_case-image m h seat a i))
    ∙ by (fin.contains_key h a.number)
  where
    by : (b : Bool) → cond b (Err NumberTaken) (take_image m (solo_case h seat a)) ≡ take_image m (cond b (Err NumberTaken) (solo_case h seat a))
    by true = refl
    by false = refl

pub named_takes_alone : NamedTakesAreAlone
named_takes_alone s seat a reached =
    ap (take_image (inverse (names_of s seat))) (takes_alone (beneath s) seat a (beneath_is_reached s reached))
    ∙ sym (takes_commute (inverse (names_of s seat)) (view_of (beneath s) seat) seat a)
