-- What a clause gives its seat.
use Rattle.std.proofs.Common.{◌≡◌, ap, refl, sym, ◌∙◌, inl, inr, ⊎_elim, ℕ, zero, suc, ◌<◌, ◌≤◌, ◌==◌, Bool, true, arith}
use Rattle.std.specs.Prelude.{◌⊎◌, ◌&&◌, ℤ, pos, negsuc, neg_ℤ, unwrap_or, List, [], ◌∷◌, map, length, Option, Some, None, is_some, nat_le}
use Rattle.std.specs.List.{list_any, list_all}
use Rattle.std.proofs.lemmas.List.Folds.{list_all-map}
use Rattle.std.proofs.lemmas.Bool.{false≢true, cases_lt, leb-true, eqb-true, eq-eqb, or_cases, or_left, or_right, and_parts, le-leb}
use Rattle.std.specs.Ordering.{eq_by_cmp}
use Rattle.std.specs.FinMap as fin
use Rattle.lj_clause.specs.Literal.{variable_of, lit_cmp}
use Rattle.lj_clause.specs.LiteralSet.{LiteralSet, literals, holds}
use Rattle.lj_clause.specs.Renaming.{Renaming, has_name, is_named, image, literal_image, renamed, inverse, IsPartOf}
use Rattle.lj_clause.proofs.Among.{itself}
use Rattle.lj_clause.proofs.LiteralSets.{holds-literals}
use Rattle.lj_clause.proofs.Renaming.{renaming_laws, inverse_gives, all_known}
use Rattle.lj_book.specs.Tables.{is_among}
use Rattle.lj_book.specs.Variables.{Variables, IsVariables, renaming_of, given}
use Rattle.lj_book.specs.VariableLaws.{NoneAreVariables, GivesVariables, EachGives, NamedGivesNothing, ImagesAreOwn, OthersOwnNone}
use Rattle.lj_book.proofs.GivenOrder.{given-rising}
use Rattle.lj_book.proofs.VariableLaws.{none-IsVariables, with_names-IsVariables, with_names-keeps, with_names-others, with_names-gives, with_names-named, with_names-length}

-- ---- the variables of a clause

among_all : (p : ℕ → Bool) (ls : List ℤ) → list_all (λ l. p (variable_of l)) ls ≡ true → (x : ℕ) → is_among (map variable_of ls) x ≡ true → p x ≡ true
among_all p [] all x m = absurd (false≢true m)
among_all p (l ∷ ls) all x m =
    let parts = and_parts (p (variable_of l)) (list_all (λ k. p (variable_of k)) ls) all in
    ⊎_elim (λ e. ap p (sym (eqb-true (variable_of l) x e)) ∙ parts.0) (λ later. among_all p ls parts.1 x later) (or_cases (variable_of l == x) (is_among (map variable_of ls) x) m)

all_among : (p : ℕ → Bool) (ls : List ℤ) → ((x : ℕ) → is_among (map variable_of ls) x ≡ true → p x ≡ true) → list_all (λ l. p (variable_of l)) ls ≡ true
all_among p [] each = refl
all_among p (l ∷ ls) each = λ i. each (variable_of l) (or_left (variable_of l == variable_of l) (is_among (map variable_of ls) (variable_of l)) (eq-eqb (variable_of l) (variable_of l) refl)) i
    && all_among p ls (λ x m. each x (or_right (variable_of l == x) (is_among (map variable_of ls) x) m)) i

-- ---- the laws

module _ (top : ℕ) (v : Variables) (seat : ℕ) (c : LiteralSet) (is : IsVariables top v) (here : seat < length v.of_seats) where
  keeps_rules : IsVariables top (given top v seat c)
  keeps_rules = with_names-IsVariables top v seat (map variable_of (literals c)) is here

  grows : IsPartOf (renaming_of v seat) (renaming_of (given top v seat c) seat)
  grows = λ x y e. with_names-keeps top v seat (map variable_of (literals c)) here seat x y e

  gives_variables : GivesVariables top v seat c
  gives_variables = record {
    kept = keeps_rules;
    grown = grows;
    others = λ s h. with_names-others top v seat (map variable_of (literals c)) s h;
    rising = given-rising top v seat c is here;
    named = all_among (has_name top (renaming_of (given top v seat c) seat)) (literals c) (with_names-gives top v seat (map variable_of (literals c)) here);
    still = λ d h.
        let both = renaming_laws.grown top (renaming_of v seat) (renaming_of (given top v seat c) seat) d grows (keeps_rules.one_to_one seat) h in
        (both.1, both.0);
  }

pub length-given : (top : ℕ) (v : Variables) (seat : ℕ) (c : LiteralSet) → length (given top v seat c).of_seats ≡ length v.of_seats
length-given top v seat c = with_names-length top v seat (map variable_of (literals c))

pub each_gives : EachGives
each_gives top v seat c is here = gives_variables top v seat c is here

pub none_are_variables : NoneAreVariables
none_are_variables top seats = none-IsVariables top seats

pub named_gives_nothing : NamedGivesNothing
named_gives_nothing top v seat c named = with_names-named top v seat (map variable_of (literals c)) (list_all-map (has_name top (renaming_of v seat)) variable_of (literals c) ∙ named)

pub images_are_own : ImagesAreOwn
images_are_own top v seat c is named = renaming_laws.named_back top (renaming_of v seat) c (is.one_to_one seat) named

-- ---- what is another's

variable-neg_ℤ : (l : ℤ) → variable_of (neg_ℤ l) ≡ variable_of l
variable-neg_ℤ (pos zero) = refl
variable-neg_ℤ (pos (suc n)) = refl
variable-neg_ℤ (negsuc n) = refl

variable-image : (m : Renaming) (l : ℤ) → variable_of (literal_image m l) ≡ renamed m (variable_of l)
variable-image m (pos n) = refl
variable-image m (negsuc n) = variable-neg_ℤ (pos (renamed m (suc n)))

-- a literal that has the variable
literal_with : (ls : List ℤ) (x : ℕ) → is_among (map variable_of ls) x ≡ true → (l : ℤ) × (list_any (eq_by_cmp lit_cmp l) ls ≡ true) × (variable_of l ≡ x)
literal_with [] x m = absurd (false≢true m)
literal_with (l ∷ ls) x m = ⊎_elim
    (λ e. (l, or_left (eq_by_cmp lit_cmp l l) (list_any (eq_by_cmp lit_cmp l) ls) (itself l), eqb-true (variable_of l) x e))
    (λ later. let found = literal_with ls x later in (found.0, or_right (eq_by_cmp lit_cmp found.0 l) (list_any (eq_by_cmp lit_cmp found.0) ls) found.1, found.2))
    (or_cases (variable_of l == x) (is_among (map variable_of ls) x) m)

-- each variable of a clause has its image among those of the clause's image
has_image : (top : ℕ) (m n : Renaming) (c : LiteralSet) → is_named top n (image m c) ≡ true → (x : ℕ) → is_among (map variable_of (literals c)) x ≡ true → has_name top n (renamed m x) ≡ true
has_image top m n c named x h =
    let found = literal_with (literals c) x h in
    let held : holds (image m c) (literal_image m found.0) ≡ true = (renaming_laws.held m c (literal_image m found.0)).1 (found.0, holds-literals c found.0 ∙ found.1, refl) in
    ap (has_name top n) (sym (ap (renamed m) found.2) ∙ sym (variable-image m found.0)) ∙ all_known top n (image m c) named (literal_image m found.0) held

some_value : (m : Renaming) (x : ℕ) → fin.contains_key m x ≡ true → (y : ℕ) × (fin.get m x ≡ Some y)
some_value m x h = by (fin.get m x) refl h
  where
    by : (o : Option ℕ) → fin.get m x ≡ o → is_some o ≡ true → (y : ℕ) × (fin.get m x ≡ Some y)
    by None e f = absurd (false≢true f)
    by (Some y) e f = (y, e)

-- a name above top is one of the renaming's
named_above : (top : ℕ) (m : Renaming) (x : ℕ) → has_name top m x ≡ true → top < x → (y : ℕ) × (fin.get m x ≡ Some y)
named_above top m x h above = ⊎_elim (λ l. absurd (contrary (leb-true x top l))) (λ there. some_value m x there) (or_cases (nat_le x top) (fin.contains_key m x) h)
  where
    contrary : x ≤ top → ⊥
    contrary l = omega arith

pub others_own_none : OthersOwnNone
others_own_none top v seat other c is differ named own = all_among (λ x. nat_le x top) (literals c) (λ x h. at_most x h (cases_lt top x))
  where
    at_most : (x : ℕ) → is_among (map variable_of (literals c)) x ≡ true → (top < x) ⊎ (x ≤ top) → nat_le x top ≡ true
    at_most x h (inr low) = le-leb x top low
    at_most x h (inl above) =
        let mine = named_above top (renaming_of v seat) x (among_all (has_name top (renaming_of v seat)) (literals c) named x h) above in
        let becomes : renamed (renaming_of v seat) x ≡ mine.0 = ap (λ o. unwrap_or o x) mine.1 in
        let theirs = named_above top (inverse (renaming_of v other)) mine.0
        (ap (has_name top (inverse (renaming_of v other))) (sym becomes) ∙ has_image top (renaming_of v seat) (inverse (renaming_of v other)) c own x h)
        ((is.one_to_one seat).above x mine.0 mine.1).1 in
        absurd (differ (is.apart other seat theirs.0 x mine.0 (inverse_gives (renaming_of v other) theirs.0 mine.0 theirs.1) mine.1))
