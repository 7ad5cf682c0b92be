-- Trimmed steps by the marks of the needed numbers.
use Rattle.std.proofs.Common.{◌≡◌, ℕ, ◌+◌, ◌<◌, List, [], ◌∷◌, ◌++◌, length, take, get_or, refl, sym, ap, ◌∙◌}
use Rattle.std.specs.Prelude.{Bool, true, cond, ◌||◌, nat_le, filter, filter_map, Option, Some, None, option_map, option_to_list}
use Rattle.std.specs.List.{list_all, cons_option}
use Rattle.std.proofs.lemmas.List.Elements.{filter_map-append}
use Rattle.std.specs.Cmp.{second_so, first_so}
use Rattle.lj_text.specs.declared.line.Addition.{Addition}
use Rattle.lj_text.specs.declared.step.Step.{Step}
use Rattle.lj_text.specs.declared.step.Step.TheVariants.{Add, Delete}
use Rattle.lj_clause.specs.ClauseMap.{FormulaValue}
use Rattle.lj_text.specs.Needed.{NumberSet, has, if_some, trimmed_step, up_to_empty, trimmed_steps}
use Rattle.lj_trim.specs.inner.Front.{needed_in}
use Rattle.lj_trim.specs.declared.kept.Kept.{Kept}
use Rattle.lj_trim.specs.declared.marks.Marks.{Marks}
use Rattle.lj_trim.specs.inner.Marks.{is_marked}
use Rattle.lj_trim.specs.Trimmed.{step_of}
use Rattle.lj_trim.specs.inner.Trimmed.{keeps, groups_by, trimmed_by}
use Rattle.lj_trim.proofs.FrontLemmas.{take-item}

filter_all : {X : Type 0} (p : X → Bool) (xs : List X) → list_all p xs ≡ true → filter p xs ≡ xs
filter_all p [] e = refl
filter_all p (x ∷ xs) e =
    ap (λ b. cond b (x ∷ filter p xs) (filter p xs)) (first_so (p x) (list_all p xs) e)
    ∙ ap (λ t. x ∷ t) (filter_all p xs (second_so (p x) (list_all p xs) e))

-- an addition all of whose candidates stay
pub whole : (test : ℕ → Bool) (step : Step) (a : Addition) → step ≡ Add a → test a.number ≡ true → list_all (λ g. test g.candidate) a.groups ≡ true → Some step ≡ trimmed_by test step
whole test step a e here all =
    ap Some e
    ∙ sym (ap (trimmed_by test) e
    ∙ ap (λ b. cond b (Some (Add (record a { groups = groups_by test a.groups }))) None) here
    ∙ ap (λ t. Some (Add (record a { groups = t }))) (filter_all (λ g. test g.candidate) a.groups all))

single : (o : Option Step) → cons_option o [] ≡ option_to_list o
single None = refl
single (Some x) = refl

filter_map-one : (h : Step → Option Step) (x : Step) (o : Option Step) → h x ≡ o → filter_map h (x ∷ []) ≡ option_to_list o
filter_map-one h x o e = ap (λ (t : Option Step). cons_option t []) e ∙ single o

pub steps_more : (h : Step → Option Step) (xs : List Step) (i : ℕ) (x : Step) (o : Option Kept) → i < length xs → x ≡ get_or xs i x → option_map step_of o ≡ h x
    → filter_map h (take (i + 1) xs) ≡ filter_map h (take i xs) ++ option_to_list (option_map step_of o)
steps_more h xs i x o lt e f =
    ap (filter_map h) (take-item xs i x lt e)
    ∙ filter_map-append h (take i xs) (x ∷ [])
    ∙ ap (λ t. filter_map h (take i xs) ++ t) (filter_map-one h x (option_map step_of o) (sym f))

same_step : (clauses : ℕ) (m : Marks) (s : NumberSet) → ((n : ℕ) → is_marked m n ≡ has s n) → (step : Step) → trimmed_by (keeps clauses m) step ≡ trimmed_step clauses s step
same_step clauses m s e (Add a) = λ i. cond (nat_le a.number clauses || e a.number i) (Some (Add (record a { groups = filter (λ g. nat_le g.candidate clauses || e g.candidate i) a.groups }))) None
same_step clauses m s e (Delete ns) = λ i. if_some (filter (λ n. nat_le n clauses || e n i) ns)

-- by the marks of a set as by the set
pub trimmed-marks : (clauses : ℕ) (m : Marks) (s : NumberSet) (front : List Step) → ((n : ℕ) → is_marked m n ≡ has s n) → filter_map (trimmed_by (keeps clauses m)) front ≡ filter_map (trimmed_step clauses s) front
trimmed-marks clauses m s front e = λ i. filter_map (λ step. same_step clauses m s e step i) front

-- the trimmed list by the marks of what the steps up to the addition of the empty clause need
pub trimmed-front : (f : FormulaValue) (steps front : List Step) (n : ℕ) (m : Marks) → front ≡ up_to_empty steps → n ≡ length f.clauses → ((k : ℕ) → is_marked m k ≡ has (needed_in front) k)
    → filter_map (trimmed_by (keeps n m)) front ≡ trimmed_steps f steps
trimmed-front f steps front n m e l marks =
    trimmed-marks n m (needed_in front) front marks
    ∙ (λ i. filter_map (trimmed_step (l i) (needed_in (e i))) (e i))
