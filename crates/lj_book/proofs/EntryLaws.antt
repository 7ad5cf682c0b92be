-- What stands at a place of the history, in the seats' variables and in joint ones.
use Rattle.std.proofs.Common.{◌≡◌, ap, refl, sym, ◌∙◌, subst, ℕ, zero, suc, Bool, cond, true, false}
use Rattle.std.specs.Prelude.{List, [], ◌∷◌, map, Option, Some, None, option_map, slice_get, ◌↔◌}
use Rattle.std.specs.List.{AllByRecursion}
use Rattle.std.proofs.lemmas.Bool.{false≢true}
use Rattle.lj_clause.specs.LiteralSet.{LiteralSet}
use Rattle.lj_clause.specs.Lemma.{LemmaValue}
use Rattle.lj_clause.specs.Renaming.{image, lemma_image, inverse}
use Rattle.lj_clause.proofs.Renaming.{renaming_laws}
use Rattle.lj_text.specs.declared.line.Addition.{Addition}
use Rattle.lj_text.specs.declared.step.Step.{Step}
use Rattle.lj_text.specs.declared.step.Step.TheVariants as steps
use Rattle.lj_book.specs.declared.entry.Call.{Call}
use Rattle.lj_book.specs.declared.entry.Call.TheVariants as calls
use Rattle.lj_book.specs.declared.entry.Entry.{Entry}
use Rattle.lj_book.specs.State.{State, opening}
use Rattle.lj_book.specs.History.{after_entry, IsLegal, AreLegal}
use Rattle.lj_book.specs.Calls.{binding_entry}
use Rattle.lj_book.specs.Variables.{IsVariables, renaming_of, is_own}
use Rattle.lj_book.specs.Named.{NamedState, top_of, own_entry, joint_entry, beneath, named_over, IsNamedReached}
use Rattle.lj_book.specs.inner.JointLines.{line_entry}
use Rattle.lj_book.specs.inner.Records.{entering_entry}
use Rattle.lj_book.specs.inner.VariableTables.{TopVariables, as_own, lemma_as_own}
use Rattle.lj_book.specs.inner.Over.{IsOver}
use Rattle.lj_book.specs.inner.ReceiptForms.{is_joint_form}
use Rattle.lj_book.proofs.HistoryLaws.{part_step, no_deletion}
use Rattle.lj_book.proofs.NamedLaws.{CallNamed, rules_reached, beneath_is_reached}
use Rattle.lj_book.proofs.EnteringLaws.{lemma_back, over_beneath}
use Rattle.lj_book.proofs.OverLaws.{under}
use Rattle.lj_book.proofs.FormLaws.{forms}

some-is : {A : Type 0} (x y : A) → Some x ≡ Some y → x ≡ y
some-is x y e = cc

got-map : (f : Entry → Entry) (es : List Entry) (k : ℕ) → slice_get (map f es) k ≡ option_map f (slice_get es k)
got-map f [] k = refl
got-map f (e ∷ es) zero = refl
got-map f (e ∷ es) (suc k) = got-map f es k

at-all : (P : Entry → Type 0) (es : List Entry) (k : ℕ) (e : Entry) → AllByRecursion P es → slice_get es k ≡ Some e → P e
at-all P [] k e all at = absurd (let no : ⊥ = cc in no)
at-all P (x ∷ es) zero e all at = subst P (some-is x e at) all.0
at-all P (x ∷ es) (suc k) e all at = at-all P es k e all.1 at

-- each entry of a legal history was legal in some state
legal-at : (s : State) (es : List Entry) (k : ℕ) (e : Entry) → AreLegal s es → slice_get es k ≡ Some e → (t : State) × IsLegal t e
legal-at s [] k e legal at = absurd (let no : ⊥ = cc in no)
legal-at s (x ∷ es) zero e legal at = (s, subst (λ (y : Entry). IsLegal s y) (some-is x e at) legal.0)
legal-at s (x ∷ es) (suc k) e legal at = legal-at (after_entry s x) es k e legal.1 at

abbrev entry_with : ℕ → Call → Option Step → Entry
entry_with seat call step = record { seat = seat; call = call; step = step }

-- the entry of an import that finds an equal clause
abbrev pub equal_import : ℕ → ℕ → LiteralSet → Entry
equal_import seat own c = binding_entry seat (calls.Import own c)

import-clause : (seat own : ℕ) (c d : LiteralSet) → equal_import seat own c ≡ equal_import seat own d → c ≡ d
import-clause seat own c d e = let same : calls.Import own c ≡ calls.Import own d = ap (λ (x : Entry). x.call) e in cc

-- any other call is the same in joint variables
abbrev pub Speaks : Call → Type 0
Speaks (calls.Add own lemma) = ⊥
Speaks (calls.Drop numbers) = Unit {0}
Speaks (calls.Adopt own joint) = Unit {0}
Speaks (calls.Import own clause) = ⊥
Speaks calls.Leave = Unit {0}

module _ (s : NamedState) (reached : IsNamedReached s) (k : ℕ) where
  rules : IsVariables (top_of s) s.variables
  rules = (rules_reached s reached).variables

  joint-at : (e : Entry) → slice_get s.history k ≡ Some e → slice_get (beneath s).history k ≡ Some (joint_entry s.variables e)
  joint-at e at = got-map (joint_entry s.variables) s.history k ∙ ap (option_map (joint_entry s.variables)) at

  own-at : (e : Entry) → slice_get (beneath s).history k ≡ Some e → slice_get s.history k ≡ Some (own_entry s.variables e)
  own-at e at =
      ap (λ (t : NamedState). slice_get t.history k) (sym (over_beneath s reached))
      ∙ got-map (own_entry s.variables) (beneath s).history k
      ∙ ap (option_map (own_entry s.variables)) at

  named-at : (e : Entry) → slice_get s.history k ≡ Some e → CallNamed (top_of s) s.variables e.seat e.call
  named-at e at = at-all (λ (e : Entry). CallNamed (top_of s) s.variables e.seat e.call) s.history k e (rules_reached s reached).named at

  legal-there : (e : Entry) → slice_get (beneath s).history k ≡ Some e → (t : State) × IsLegal t e
  legal-there e at = let r = beneath_is_reached s reached in legal-at (opening s.formula r.seats s.max_steps) (beneath s).history k e r.legal at

  module _ (seat own : ℕ) where
    -- an addition
    pub line-at : (lemma : LemmaValue) (a : Addition) → slice_get (beneath s).history k ≡ Some (line_entry seat own a) → lemma_as_own (top_of s) s.variables seat a.lemma ≡ Some lemma → slice_get s.history k ≡ Some (entry_with seat (calls.Add own lemma) (Some (steps.Add a)))
    line-at lemma a at is = own-at (line_entry seat own a) at ∙ ap (λ (l : LemmaValue). Some (entry_with seat (calls.Add own l) (Some (steps.Add a)))) (by (is_own (top_of s) s.variables seat a.lemma.clause) is)
      where
        by : (b : Bool) → cond b (Some (lemma_image (inverse (renaming_of s.variables seat)) a.lemma)) None ≡ Some lemma → lemma_image (inverse (renaming_of s.variables seat)) a.lemma ≡ lemma
        by true e = some-is _ _ e
        by false e = absurd (let no : ⊥ = cc in no)

    pub at-line : (lemma : LemmaValue) (a : Addition) → slice_get s.history k ≡ Some (entry_with seat (calls.Add own lemma) (Some (steps.Add a))) → (slice_get (beneath s).history k ≡ Some (line_entry seat own a)) × (lemma_as_own (top_of s) s.variables seat a.lemma ≡ Some lemma)
    at-line lemma a at =
        let e : Entry = entry_with seat (calls.Add own lemma) (Some (steps.Add a)) in
        let there = joint-at e at in
        let named = named-at e at in
        let legal = legal-there (joint_entry s.variables e) there in
        let same : a.lemma ≡ lemma_image (renaming_of s.variables seat) lemma = legal.1.addition.1.0 in
        let mine = renaming_laws.named_back (top_of s) (renaming_of s.variables seat) lemma.clause (rules.one_to_one seat) named.1 in (
          there ∙ ap (λ (l : LemmaValue). Some (entry_with seat (calls.Add own l) (Some (steps.Add a)))) (sym same),
          ap (lemma_as_own (top_of s) s.variables seat) same
              ∙ ap (λ b. cond b (Some (lemma_image (inverse (renaming_of s.variables seat)) (lemma_image (renaming_of s.variables seat) lemma))) None) mine
              ∙ ap Some (lemma_back (top_of s) (renaming_of s.variables seat) (rules.one_to_one seat) lemma named.0 named.1),
        )

    -- an addition has a step that adds
    pub no-line : (lemma : LemmaValue) (numbers : List ℕ) → slice_get s.history k ≡ Some (entry_with seat (calls.Add own lemma) (Some (steps.Delete numbers))) → ⊥
    no-line lemma numbers at = let e : Entry = entry_with seat (calls.Add own lemma) (Some (steps.Delete numbers)) in (legal-there (joint_entry s.variables e) (joint-at e at)).1.addition

    pub no-step : (lemma : LemmaValue) → slice_get s.history k ≡ Some (entry_with seat (calls.Add own lemma) None) → ⊥
    no-step lemma at = let e : Entry = entry_with seat (calls.Add own lemma) None in (legal-there (joint_entry s.variables e) (joint-at e at)).1.addition

    -- an import
    pub import-at : (c d : LiteralSet) → slice_get (beneath s).history k ≡ Some (equal_import seat own d) → as_own (top_of s) s.variables seat d ≡ Some c → slice_get s.history k ≡ Some (equal_import seat own c)
    import-at c d at is = own-at (equal_import seat own d) at ∙ ap (λ (x : LiteralSet). Some (equal_import seat own x)) (by (is_own (top_of s) s.variables seat d) is)
      where
        by : (b : Bool) → cond b (Some (image (inverse (renaming_of s.variables seat)) d)) None ≡ Some c → image (inverse (renaming_of s.variables seat)) d ≡ c
        by true e = some-is _ _ e
        by false e = absurd (let no : ⊥ = cc in no)

    pub at-import : (c : LiteralSet) → slice_get s.history k ≡ Some (equal_import seat own c) → (slice_get (beneath s).history k ≡ Some (equal_import seat own (image (renaming_of s.variables seat) c))) × (as_own (top_of s) s.variables seat (image (renaming_of s.variables seat) c) ≡ Some c)
    at-import c at =
        let named = named-at (equal_import seat own c) at in
        let mine = renaming_laws.named_back (top_of s) (renaming_of s.variables seat) c (rules.one_to_one seat) named in (
          joint-at (equal_import seat own c) at,
          ap (λ b. cond b (Some (image (inverse (renaming_of s.variables seat)) (image (renaming_of s.variables seat) c))) None) mine
              ∙ ap Some (renaming_laws.given_back (top_of s) (renaming_of s.variables seat) c (rules.one_to_one seat) named),
        )

    -- an import that adds its clause
    pub part-at : (c : LiteralSet) (a : Addition) → slice_get (beneath s).history k ≡ Some (entering_entry true seat own a) → as_own (top_of s) s.variables seat a.lemma.clause ≡ Some c → slice_get s.history k ≡ Some (entry_with seat (calls.Import own c) (Some (steps.Add a)))
    part-at c a at is = own-at (entering_entry true seat own a) at ∙ ap (λ (x : LiteralSet). Some (entry_with seat (calls.Import own x) (Some (steps.Add a)))) (by (is_own (top_of s) s.variables seat a.lemma.clause) is)
      where
        by : (b : Bool) → cond b (Some (image (inverse (renaming_of s.variables seat)) a.lemma.clause)) None ≡ Some c → image (inverse (renaming_of s.variables seat)) a.lemma.clause ≡ c
        by true e = some-is _ _ e
        by false e = absurd (let no : ⊥ = cc in no)

    pub at-part : (c : LiteralSet) (a : Addition) → slice_get s.history k ≡ Some (entry_with seat (calls.Import own c) (Some (steps.Add a))) → (slice_get (beneath s).history k ≡ Some (entering_entry true seat own a)) × (as_own (top_of s) s.variables seat a.lemma.clause ≡ Some c)
    at-part c a at =
        let e : Entry = entry_with seat (calls.Import own c) (Some (steps.Add a)) in
        let there = joint-at e at in
        let named = named-at e at in
        let legal = legal-there (joint_entry s.variables e) there in
        let part = part_step legal.0 seat own (image (renaming_of s.variables seat) c) a legal.1 in
        let same : a.lemma.clause ≡ image (renaming_of s.variables seat) c = ap (λ (x : Addition). x.lemma.clause) part.1.1 in
        let mine = renaming_laws.named_back (top_of s) (renaming_of s.variables seat) c (rules.one_to_one seat) named in (
          there ∙ ap (λ (x : LiteralSet). Some (entry_with seat (calls.Import own x) (Some (steps.Add a)))) (sym same),
          ap (as_own (top_of s) s.variables seat) same
              ∙ ap (λ b. cond b (Some (image (inverse (renaming_of s.variables seat)) (image (renaming_of s.variables seat) c))) None) mine
              ∙ ap Some (renaming_laws.given_back (top_of s) (renaming_of s.variables seat) c (rules.one_to_one seat) named),
        )

    -- deletes nothing
    pub no-part : (c : LiteralSet) (numbers : List ℕ) → slice_get s.history k ≡ Some (entry_with seat (calls.Import own c) (Some (steps.Delete numbers))) → ⊥
    no-part c numbers at =
        let e : Entry = entry_with seat (calls.Import own c) (Some (steps.Delete numbers)) in
        let legal = legal-there (joint_entry s.variables e) (joint-at e at) in
        no_deletion legal.0 seat own (image (renaming_of s.variables seat) c) numbers legal.1

  same_own : (seat : ℕ) (call : Call) (step : Option Step) → Speaks call → own_entry s.variables (entry_with seat call step) ≡ entry_with seat call step
  same_own seat (calls.Add own lemma) step speaks = absurd speaks
  same_own seat (calls.Drop numbers) step speaks = refl
  same_own seat (calls.Adopt own joint) step speaks = refl
  same_own seat (calls.Import own clause) step speaks = absurd speaks
  same_own seat calls.Leave step speaks = refl

  same_joint : (seat : ℕ) (call : Call) (step : Option Step) → Speaks call → joint_entry s.variables (entry_with seat call step) ≡ entry_with seat call step
  same_joint seat (calls.Add own lemma) step speaks = absurd speaks
  same_joint seat (calls.Drop numbers) step speaks = refl
  same_joint seat (calls.Adopt own joint) step speaks = refl
  same_joint seat (calls.Import own clause) step speaks = absurd speaks
  same_joint seat calls.Leave step speaks = refl

  pub other-at : (e : Entry) → Speaks e.call → slice_get (beneath s).history k ≡ Some e → slice_get s.history k ≡ Some e
  other-at e speaks at = own-at e at ∙ ap Some (same_own e.seat e.call e.step speaks)

  pub at-other : (e : Entry) → Speaks e.call → slice_get s.history k ≡ Some e → slice_get (beneath s).history k ≡ Some e
  at-other e speaks at = joint-at e at ∙ ap Some (same_joint e.seat e.call e.step speaks)

-- ---- what the code finds in the book beneath

-- the entry of an addition
abbrev added_as : ℕ → ℕ → LemmaValue → Addition → Entry
added_as seat own lemma a = entry_with seat (calls.Add own lemma) (Some (steps.Add a))

-- the entry of an import that adds its clause
abbrev imported_as : ℕ → ℕ → LiteralSet → Addition → Entry
imported_as seat own c a = entry_with seat (calls.Import own c) (Some (steps.Add a))

module _ (joint : State) (t : TopVariables) (s : NamedState) (over : IsOver joint t) (is : named_over joint t.variables ≡ s) (k : ℕ) where
  pub reached_so : IsNamedReached s
  reached_so = subst IsNamedReached is over.reached

  module _ (seat own : ℕ) where
    line_there : (lemma : LemmaValue) (a : Addition) → slice_get joint.history k ≡ Some (line_entry seat own a) → lemma_as_own t.top t.variables seat a.lemma ≡ Some lemma → slice_get s.history k ≡ Some (added_as seat own lemma a)
    line_there lemma a at mine =
        subst (λ (u : NamedState). slice_get u.history k ≡ Some (added_as seat own lemma a)) is
        (line-at (named_over joint t.variables) over.reached k seat own lemma a
        (ap (λ (j : State). slice_get j.history k) over.below ∙ at)
        (ap (λ n. lemma_as_own n t.variables seat a.lemma) (sym over.top) ∙ mine))

    there_line : (lemma : LemmaValue) (a : Addition) → slice_get s.history k ≡ Some (added_as seat own lemma a) → (slice_get joint.history k ≡ Some (line_entry seat own a)) × (lemma_as_own t.top t.variables seat a.lemma ≡ Some lemma)
    there_line lemma a at =
        let both = at-line (named_over joint t.variables) over.reached k seat own lemma a (ap (λ (u : NamedState). slice_get u.history k) is ∙ at) in
        (ap (λ (j : State). slice_get j.history k) (sym over.below) ∙ both.0, ap (λ n. lemma_as_own n t.variables seat a.lemma) over.top ∙ both.1)

    -- an addition whose lemma is the joint one's
    pub line_is : (lemma : LemmaValue) (a : Addition) (b : Bool) → lemma_as_own t.top t.variables seat a.lemma ≡ Some lemma → (b ≡ true) ↔ (slice_get joint.history k ≡ Some (line_entry seat own a)) → (b ≡ true) ↔ (slice_get s.history k ≡ Some (added_as seat own lemma a))
    line_is lemma a b mine found = (λ h. line_there lemma a (found.0 h) mine, λ h. found.1 (there_line lemma a h).0)

    -- any other
    pub line_none : (lemma : LemmaValue) (a : Addition) (b : Bool) → b ≡ false → (lemma_as_own t.top t.variables seat a.lemma ≡ Some lemma → ⊥) → (b ≡ true) ↔ (slice_get s.history k ≡ Some (added_as seat own lemma a))
    line_none lemma a b off none = (λ h. absurd (false≢true (sym off ∙ h)), λ h. absurd (none (there_line lemma a h).1))

    import_there : (c d : LiteralSet) → slice_get joint.history k ≡ Some (equal_import seat own d) → is_joint_form t.top t.variables seat c d ≡ true → slice_get s.history k ≡ Some (equal_import seat own c)
    import_there c d at form =
        subst (λ (u : NamedState). slice_get u.history k ≡ Some (equal_import seat own c)) is
        (import-at (named_over joint t.variables) over.reached k seat own c d
        (ap (λ (j : State). slice_get j.history k) over.below ∙ at)
        ((forms (top_of (named_over joint t.variables)) t.variables seat (rules (named_over joint t.variables) over.reached k) c d).0 (ap (λ n. is_joint_form n t.variables seat c d) (sym over.top) ∙ form)))

    there_import : (c : LiteralSet) → slice_get s.history k ≡ Some (equal_import seat own c) → (d : LiteralSet) × ((slice_get joint.history k ≡ Some (equal_import seat own d)) × (is_joint_form t.top t.variables seat c d ≡ true))
    there_import c at =
        let d : LiteralSet = image (renaming_of t.variables seat) c in
        let both = at-import (named_over joint t.variables) over.reached k seat own c (ap (λ (u : NamedState). slice_get u.history k) is ∙ at) in (
          d,
          (
            ap (λ (j : State). slice_get j.history k) (sym over.below) ∙ both.0,
            ap (λ n. is_joint_form n t.variables seat c d) over.top ∙ (forms (top_of (named_over joint t.variables)) t.variables seat (rules (named_over joint t.variables) over.reached k) c d).1 both.1,
          ),
        )

    -- an import of this clause
    pub import_is : (c d : LiteralSet) (b : Bool) → slice_get joint.history k ≡ Some (equal_import seat own d) → b ≡ is_joint_form t.top t.variables seat c d → (b ≡ true) ↔ (slice_get s.history k ≡ Some (equal_import seat own c))
    import_is c d b at form = (λ h. import_there c d at (sym form ∙ h), λ h. back (there_import c h))
      where
        back : (e : LiteralSet) × ((slice_get joint.history k ≡ Some (equal_import seat own e)) × (is_joint_form t.top t.variables seat c e ≡ true)) → b ≡ true
        back w =
            let one : equal_import seat own d ≡ equal_import seat own w.0 = some-is _ _ (sym at ∙ w.1.0) in
            let same : d ≡ w.0 = import-clause seat own d w.0 one in
            form ∙ ap (is_joint_form t.top t.variables seat c) same ∙ w.1.1

    -- none
    pub import_none : (c : LiteralSet) (b : Bool) → b ≡ false → ((d : LiteralSet) → slice_get joint.history k ≡ Some (equal_import seat own d) → ⊥) → (b ≡ true) ↔ (slice_get s.history k ≡ Some (equal_import seat own c))
    import_none c b off none = (λ h. absurd (false≢true (sym off ∙ h)), λ h. absurd (let w = there_import c h in none w.0 w.1.0))

    part_there : (c : LiteralSet) (a : Addition) → slice_get joint.history k ≡ Some (entering_entry true seat own a) → is_joint_form t.top t.variables seat c a.lemma.clause ≡ true → slice_get s.history k ≡ Some (imported_as seat own c a)
    part_there c a at form =
        subst (λ (u : NamedState). slice_get u.history k ≡ Some (imported_as seat own c a)) is
        (part-at (named_over joint t.variables) over.reached k seat own c a
        (ap (λ (j : State). slice_get j.history k) over.below ∙ at)
        ((forms (top_of (named_over joint t.variables)) t.variables seat (rules (named_over joint t.variables) over.reached k) c a.lemma.clause).0 (ap (λ n. is_joint_form n t.variables seat c a.lemma.clause) (sym over.top) ∙ form)))

    there_part : (c : LiteralSet) (a : Addition) → slice_get s.history k ≡ Some (imported_as seat own c a) → (slice_get joint.history k ≡ Some (entering_entry true seat own a)) × (is_joint_form t.top t.variables seat c a.lemma.clause ≡ true)
    there_part c a at =
        let both = at-part (named_over joint t.variables) over.reached k seat own c a (ap (λ (u : NamedState). slice_get u.history k) is ∙ at) in (
          ap (λ (j : State). slice_get j.history k) (sym over.below) ∙ both.0,
          ap (λ n. is_joint_form n t.variables seat c a.lemma.clause) over.top ∙ (forms (top_of (named_over joint t.variables)) t.variables seat (rules (named_over joint t.variables) over.reached k) c a.lemma.clause).1 both.1,
        )

    -- an import that adds this clause
    pub part_is : (c : LiteralSet) (a : Addition) (b : Bool) → is_joint_form t.top t.variables seat c a.lemma.clause ≡ true → (b ≡ true) ↔ (slice_get joint.history k ≡ Some (entering_entry true seat own a)) → (b ≡ true) ↔ (slice_get s.history k ≡ Some (imported_as seat own c a))
    part_is c a b form found = (λ h. part_there c a (found.0 h) form, λ h. found.1 (there_part c a h).0)

    -- any other
    pub part_none : (c : LiteralSet) (a : Addition) (b : Bool) → b ≡ false → is_joint_form t.top t.variables seat c a.lemma.clause ≡ false → (b ≡ true) ↔ (slice_get s.history k ≡ Some (imported_as seat own c a))
    part_none c a b off form = (λ h. absurd (false≢true (sym off ∙ h)), λ h. absurd (false≢true (sym form ∙ (there_part c a h).1)))

  -- any other call
  pub other_is : (e : Entry) (b : Bool) → Speaks e.call → (b ≡ true) ↔ (slice_get joint.history k ≡ Some e) → (b ≡ true) ↔ (slice_get s.history k ≡ Some e)
  other_is e b speaks found = (
    λ h. other-at s reached_so k e speaks (ap (λ (j : State). slice_get j.history k) (sym (under joint t s over is)) ∙ found.0 h),
    λ h. found.1 (ap (λ (j : State). slice_get j.history k) (under joint t s over is) ∙ at-other s reached_so k e speaks h),
  )

pub speaks_else : (call : Call) → ((own : ℕ) (lemma : LemmaValue) → call ≡ calls.Add own lemma → ⊥) → ((own : ℕ) (c : LiteralSet) → call ≡ calls.Import own c → ⊥) → Speaks call
speaks_else (calls.Add own lemma) not_add not_import = not_add own lemma refl
speaks_else (calls.Drop numbers) not_add not_import = tt
speaks_else (calls.Adopt own joint) not_add not_import = tt
speaks_else (calls.Import own c) not_add not_import = not_import own c refl
speaks_else calls.Leave not_add not_import = tt
