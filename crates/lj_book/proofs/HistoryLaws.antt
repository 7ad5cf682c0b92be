-- What legal entries keep: the live clauses are the replay of the steps.
use Rattle.std.proofs.Common.{◌≡◌, ap, refl, sym, ◌∙◌, inl, inr, subst, ℕ, zero, suc, ◌+◌, ◌*◌, ◌<◌, ◌≤◌, Bool, cond, true, false, arith}
use Rattle.std.specs.Prelude.{List, [], ◌∷◌, ◌++◌, length, Option, Some, None, filter, not, ◌==◌, ◌||◌, ◌&&◌, if◌then◌else◌, is_some, nat_lt, nat_le, replicate, slice_get}
use Rattle.std.specs.List.{list_any, cons_option}
use Rattle.std.proofs.lemmas.Bool.{false≢true, or_cases, or_left, or_right, and_parts, eqb-true}
use Rattle.std.proofs.lemmas.Bool.Decides.{nat_tests}
use Rattle.std.proofs.lemmas.Option.{slice_get_past}
use Rattle.std.proofs.lemmas.List.{append-nil}
use Rattle.std.proofs.lemmas.List.Elements.{filter_map-append}
use Rattle.std.specs.Ordering.{nat_cmp, eq_by_cmp}
use Rattle.std.specs.Cmp.{nat_cmp_total, unsigned_tied}
use Rattle.std.specs.declared.cmp.Ordering.TheVariants.{Equal}
use Rattle.std.specs.FinMap as fin
use Rattle.std.specs.FinMap.{nat_cmp-IsAntisymmetric}
use Rattle.lj_clause.specs.LiteralSet.{LiteralSet}
use Rattle.lj_clause.specs.Lemma.{LemmaValue}
use Rattle.lj_clause.specs.ClauseMap.{ClauseMap, FormulaValue, formula_map}
use Rattle.lj_clause.proofs.Formulas.{clause_zero, clause_at}
use Rattle.lj_clause.proofs.Tests.{turned}
use Rattle.lj_text.specs.declared.line.Addition.{Addition}
use Rattle.lj_text.specs.declared.step.Step.{Step}
use Rattle.lj_text.specs.declared.step.Step.TheVariants as steps
use Rattle.lj_text.specs.Steps.{is_accepted, names, names_all, without, replay, adds_empty}
use Rattle.lj_text.specs.Steps as text
use Rattle.lj_text.specs.Needed.{additions, if_some}
use Rattle.lj_book.specs.declared.entry.Call.{Call}
use Rattle.lj_book.specs.declared.entry.Call.TheVariants as calls
use Rattle.lj_book.specs.declared.entry.Entry.{Entry}
use Rattle.lj_book.specs.Tables.{Table, Tables, table_of, is_here, is_bound, has_holder, holds_joint, is_among, with_table, with_binding, without_keys, without_seat, up_to}
use Rattle.lj_book.specs.Imports.{part_addition, import_step}
use Rattle.lj_book.specs.State.{State, steps_of, next, with_additions, given_out, live, opening}
use Rattle.lj_book.specs.History.{dead_numbers, with_found, after_entry, after_entries, IsLegalImport, IsLegalCall, IsLegal, AreLegal, IsReached}
use Rattle.lj_book.proofs.NumberMaps.{same_map}
use Rattle.lj_book.proofs.Parts.{FindsEqual, FindsPart, finds, IsProved, part_proved}
use Rattle.lj_book.proofs.TableLaws.{held_counts, count-insert, count-up_to, count-without_keys, holders-with_table, holders-replicate, free_in_table}

-- What each state that a legal history reaches keeps: what is held was given out, and no number from the next on was.
pub record IsSound (s : State) : Type 0 where
  pub held_given : (n : ℕ) → has_holder s.tables n ≡ true → fin.contains_key (given_out s) n ≡ true
  pub given_below : (n : ℕ) → fin.contains_key (given_out s) n ≡ true → n < next s
  pub replayed : replay (formula_map s.formula) (steps_of s.history) ≡ Some (live s)

alike : (p : ℕ → Bool) (q x : ℕ) → nat_cmp q x ≡ Equal → p x ≡ p q
alike p q x e = ap p (sym (nat_cmp-IsAntisymmetric q x e))

pub get-live : (s : State) (q : ℕ) → fin.get (live s) q ≡ cond (has_holder s.tables q) (fin.get (given_out s) q) None
get-live s q = fin.get-retain_keys (given_out s) (has_holder s.tables) q (alike (has_holder s.tables) q)

some_or_none : {X : Type 0} (b : Bool) (o : Option X) → is_some (cond b o None) ≡ (b && is_some o)
some_or_none true o = refl
some_or_none false o = refl

both : (a b : Bool) → (a ≡ true → b ≡ true) → (a && b) ≡ a
both true b h = h refl
both false b h = refl

-- a number lives where it is held
pub live-held : (s : State) → IsSound s → (n : ℕ) → fin.contains_key (live s) n ≡ has_holder s.tables n
live-held s sound n = ap is_some (get-live s n) ∙ some_or_none (has_holder s.tables n) (fin.get (given_out s) n) ∙ both (has_holder s.tables n) _ (sound.held_given n)

pub not_there : (s : State) → IsSound s → fin.contains_key (live s) (next s) ≡ false
not_there s sound = go (fin.contains_key (live s) (next s)) refl
  where
    go : (b : Bool) → fin.contains_key (live s) (next s) ≡ b → b ≡ false
    go true e = let low = sound.given_below (next s) (sound.held_given (next s) (sym (live-held s sound (next s)) ∙ e)) in absurd (omega arith)
    go false e = refl

-- ---- the history with one entry more

-- the state with other tables and one entry more
abbrev pub with_entry : State → Tables → Entry → State
with_entry s ts e = record s { tables = ts; history = s.history ++ e ∷ [] }

pub steps_of-push : (es : List Entry) (e : Entry) → steps_of (es ++ e ∷ []) ≡ steps_of es ++ cons_option e.step []
steps_of-push es e = filter_map-append (λ (x : Entry). x.step) es (e ∷ [])

with_additions-append : (p : ClauseMap) (xs ys : List Step) → with_additions p (xs ++ ys) ≡ with_additions (with_additions p xs) ys
with_additions-append p [] ys = refl
with_additions-append p (steps.Add a ∷ xs) ys = with_additions-append (fin.insert p a.number a.lemma.clause) xs ys
with_additions-append p (steps.Delete numbers ∷ xs) ys = with_additions-append p xs ys

pub additions-append : (xs ys : List Step) → length (additions (xs ++ ys)) ≡ length (additions xs) + length (additions ys)
additions-append [] ys = sym (grind arith)
additions-append (steps.Add a ∷ xs) ys = let rest = additions-append xs ys in omega arith
additions-append (steps.Delete numbers ∷ xs) ys = additions-append xs ys

replay-push : (p q : ClauseMap) (xs : List Step) (x : Step) → replay p xs ≡ Some q → is_accepted q x ≡ true → replay p (xs ++ x ∷ []) ≡ Some (text.after_step q x)
replay-push p q [] x e h =
    let is : p ≡ q = cc in
    ap (λ (m : ClauseMap). if is_accepted m x then Some (text.after_step m x) else None) is ∙ ap (λ b. if b then Some (text.after_step q x) else None) h
replay-push p q (y ∷ xs) x e h =
    elim (is_accepted p y) as (λ b. (if b then replay (text.after_step p y) xs else None) ≡ Some q → (if b then replay (text.after_step p y) (xs ++ x ∷ []) else None) ≡ Some (text.after_step q x)) [
      | true ↦ λ f. replay-push (text.after_step p y) q xs x f h
      | false ↦ λ f. cc
    ] e

-- ---- an addition

held-bind : (ts : Tables) (seat own joint q : ℕ) (t : Table) → table_of ts seat ≡ Some t → fin.get t own ≡ None → has_holder (with_table (λ u. fin.insert u own joint) ts seat) q ≡ (joint == q || has_holder ts q)
held-bind ts seat own joint q t at free =
    let a = holders-with_table (λ u. fin.insert u own joint) ts seat t q at in
    let b = count-insert t own joint q free in
    held_counts (with_table (λ u. fin.insert u own joint) ts seat) q ∙ sums (joint == q) _ _ _ _ a b ∙ ap (λ c. joint == q || c) (sym (held_counts ts q))
  where
    sums : (b : Bool) (now before own more : ℕ) → now + own ≡ before + more → more ≡ (if b then 1 else 0) + own → nat_lt 0 now ≡ (b || nat_lt 0 before)
    sums true now before own more e f = grind (arith, nat_tests)
    sums false now before own more e f = let g : now ≡ before = omega arith in ap (nat_lt 0) g

held-drop : (ts : Tables) (seat q : ℕ) (numbers : List ℕ) (t : Table) → table_of ts seat ≡ Some t → has_holder (with_table (without_keys numbers) ts seat) q ≡ true → has_holder ts q ≡ true
held-drop ts seat q numbers t at h =
    let a = holders-with_table (without_keys numbers) ts seat t q at in
    let b = count-without_keys numbers t q in
    held_counts ts q ∙ fewer _ _ _ _ a b (sym (held_counts (with_table (without_keys numbers) ts seat) q) ∙ h)
  where
    fewer : (now before own less : ℕ) → now + own ≡ before + less → less ≤ own → nat_lt 0 now ≡ true → nat_lt 0 before ≡ true
    fewer now before own less e f g = grind (arith, nat_tests)

pub has_table : (ts : Tables) (seat : ℕ) → is_here ts seat ≡ true → (t : Table) × (table_of ts seat ≡ Some t)
has_table ts seat h = go (table_of ts seat) refl
  where
    go : (o : Option Table) → table_of ts seat ≡ o → (t : Table) × (table_of ts seat ≡ Some t)
    go None e = absurd (false≢true (sym (ap is_some e) ∙ h))
    go (Some t) e = (t, e)

-- the state that an addition leaves, by whatever call it enters
abbrev pub with_addition : State → ℕ → ℕ → Call → Addition → State
with_addition s seat own call a = with_entry s (with_binding s.tables seat own (next s)) (record { seat = seat; call = call; step = Some (steps.Add a) })

-- the clauses that an addition leaves
pub live-addition : (s : State) (seat own : ℕ) (call : Call) (a : Addition) → IsSound s → is_here s.tables seat ≡ true → is_bound s.tables seat own ≡ false → a.number ≡ next s → live (with_addition s seat own call a) ≡ fin.insert (live s) a.number a.lemma.clause
live-addition s seat own call a sound here free num =
    let t = has_table s.tables seat here in
    let e : Entry = record { seat = seat; call = call; step = Some (steps.Add a) } in
    let given : given_out (with_addition s seat own call a) ≡ fin.insert (given_out s) a.number a.lemma.clause =
    ap (with_additions (formula_map s.formula)) (steps_of-push s.history e) ∙ with_additions-append (formula_map s.formula) (steps_of s.history) (steps.Add a ∷ []) in
    same_map _ _ (λ q.
    get-live (with_addition s seat own call a) q
    ∙ ap (λ b. cond b (fin.get (given_out (with_addition s seat own call a)) q) None) (held-bind s.tables seat own (next s) q t.0 t.1 (free_in_table s.tables seat own t.0 t.1 free))
    ∙ ap (λ o. cond (next s == q || has_holder s.tables q) o None) (ap (λ (m : ClauseMap). fin.get m q) given ∙ fin.get-insert nat_cmp_total (given_out s) a.number a.lemma.clause q)
    ∙ joined (next s == q) (has_holder s.tables q) (eq_by_cmp nat_cmp q a.number) (unsigned_tied q a.number ∙ ap (λ n. q == n) num ∙ turned q (next s)) (Some a.lemma.clause) (fin.get (given_out s) q)
    ∙ ap (cond (eq_by_cmp nat_cmp q a.number) (Some a.lemma.clause)) (sym (get-live s q))
    ∙ sym (fin.get-insert nat_cmp_total (live s) a.number a.lemma.clause q))
  where
    joined : {X : Type 0} (b h c : Bool) → c ≡ b → (x y : Option X) → cond (b || h) (cond c x y) None ≡ cond c x (cond h y None)
    joined true h true e x y = refl
    joined true h false e x y = absurd (false≢true e)
    joined false h true e x y = absurd (false≢true (sym e))
    joined false true false e x y = refl
    joined false false false e x y = refl

next-addition : (s : State) (seat own : ℕ) (call : Call) (a : Addition) → next (with_addition s seat own call a) ≡ next s + 1
next-addition s seat own call a =
    let e : Entry = record { seat = seat; call = call; step = Some (steps.Add a) } in
    let more = ap (λ ss. length (additions ss)) (steps_of-push s.history e) ∙ additions-append (steps_of s.history) (steps.Add a ∷ []) in
    omega arith

sound-addition : (s : State) (seat own : ℕ) (call : Call) (a : Addition) → IsSound s → is_here s.tables seat ≡ true → is_bound s.tables seat own ≡ false → a.number ≡ next s → is_accepted (live s) (steps.Add a) ≡ true → IsSound (with_addition s seat own call a)
sound-addition s seat own call a sound here free num accepted =
    let t = has_table s.tables seat here in
    let e : Entry = record { seat = seat; call = call; step = Some (steps.Add a) } in
    let given : given_out (with_addition s seat own call a) ≡ fin.insert (given_out s) a.number a.lemma.clause =
    ap (with_additions (formula_map s.formula)) (steps_of-push s.history e) ∙ with_additions-append (formula_map s.formula) (steps_of s.history) (steps.Add a ∷ []) in
    let has : (q : ℕ) → fin.contains_key (given_out (with_addition s seat own call a)) q ≡ (next s == q || fin.contains_key (given_out s) q) = λ q.
    ap (λ (m : ClauseMap). fin.contains_key m q) given
    ∙ ap is_some (fin.get-insert nat_cmp_total (given_out s) a.number a.lemma.clause q)
    ∙ one_more (eq_by_cmp nat_cmp q a.number) (next s == q) (unsigned_tied q a.number ∙ ap (λ n. q == n) num ∙ turned q (next s)) (Some a.lemma.clause) (fin.get (given_out s) q) refl in
    record {
      held_given = λ q h. has q ∙ elim (or_cases (next s == q) (has_holder s.tables q) (sym (held-bind s.tables seat own (next s) q t.0 t.1 (free_in_table s.tables seat own t.0 t.1 free)) ∙ h)) [
        | inl e ↦ or_left (next s == q) (fin.contains_key (given_out s) q) e
        | inr e ↦ or_right (next s == q) (fin.contains_key (given_out s) q) (sound.held_given q e)
      ];
      given_below = λ q h. elim (or_cases (next s == q) (fin.contains_key (given_out s) q) (sym (has q) ∙ h)) [
        | inl e ↦ let more = next-addition s seat own call a in let is = eqb-true (next s) q e in omega arith
        | inr e ↦ let more = next-addition s seat own call a in let low = sound.given_below q e in omega arith
      ];
      replayed =
          ap (replay (formula_map s.formula)) (steps_of-push s.history e)
          ∙ replay-push (formula_map s.formula) (live s) (steps_of s.history) (steps.Add a) sound.replayed accepted
          ∙ ap Some (sym (live-addition s seat own call a sound here free num));
    }
  where
    one_more : {X : Type 0} (c b : Bool) → c ≡ b → (x y : Option X) → is_some x ≡ true → is_some (cond c x y) ≡ (b || is_some y)
    one_more true true e x y h = h
    one_more true false e x y h = absurd (false≢true (sym e))
    one_more false true e x y h = absurd (false≢true e)
    one_more false false e x y h = refl

-- ---- a drop

pub remove-get : (p : ClauseMap) (n q : ℕ) → fin.get (fin.remove p n) q ≡ cond (n == q) None (fin.get p q)
remove-get p n q = fin.get-remove nat_cmp_total p n q ∙ ap (λ b. cond b None (fin.get p q)) (unsigned_tied q n ∙ turned q n)

pub get-without : (p : ClauseMap) (ns : List ℕ) (q : ℕ) → fin.get (without p ns) q ≡ cond (is_among ns q) None (fin.get p q)
get-without p [] q = refl
get-without p (n ∷ ns) q = remove-get (without p ns) n q ∙ ap (cond (n == q) None) (get-without p ns q) ∙ either (n == q) (is_among ns q) (fin.get p q)
  where
    either : {X : Type 0} (a b : Bool) (o : Option X) → cond a None (cond b None o) ≡ cond (a || b) None o
    either true b o = refl
    either false b o = refl

pub among-filter : (p : ℕ → Bool) (ns : List ℕ) (q : ℕ) → is_among (filter p ns) q ≡ (p q && is_among ns q)
among-filter p [] q = elim (p q) as (λ b. false ≡ (b && false)) [ true ↦ refl | false ↦ refl ]
among-filter p (n ∷ ns) q =
    elim (n == q) as (λ c. (n == q) ≡ c → is_among (filter p (n ∷ ns)) q ≡ (p q && (c || is_among ns q))) [
      | true ↦ λ e. ap (λ k. is_among (cond k (n ∷ filter p ns) (filter p ns)) q) (ap p (eqb-true n q e)) ∙ chosen (p q) (is_among ns q) n q (filter p ns) e (among-filter p ns q)
      | false ↦ λ e. skipped (p n) n q (filter p ns) e ∙ among-filter p ns q
    ] refl
  where
    chosen : (b c : Bool) (n q : ℕ) (ms : List ℕ) → (n == q) ≡ true → is_among ms q ≡ (b && c) → is_among (cond b (n ∷ ms) ms) q ≡ (b && true)
    chosen true c n q ms e h = ap (λ k. k || is_among ms q) e
    chosen false c n q ms e h = h

    skipped : (b : Bool) (n q : ℕ) (ms : List ℕ) → (n == q) ≡ false → is_among (cond b (n ∷ ms) ms) q ≡ is_among ms q
    skipped true n q ms e = ap (λ k. k || is_among ms q) e
    skipped false n q ms e = refl

pub among_tied : (ns : List ℕ) (q : ℕ) → list_any (eq_by_cmp nat_cmp q) ns ≡ is_among ns q
among_tied [] q = refl
among_tied (n ∷ ns) q = λ i. (unsigned_tied q n ∙ turned q n) i || among_tied ns q i

pub among-keys : {X : Type 0} (m : fin.FinMap nat_cmp X) (q : ℕ) → is_among (fin.keys m) q ≡ fin.contains_key m q
among-keys m q = sym (among_tied (fin.keys m) q) ∙ sym (fin.contains_key-keys m q)

-- what died is what was live and isn't held any more
pub among-died : (s : State) (tables : Tables) (q : ℕ) → is_among (dead_numbers s tables) q ≡ (not (has_holder tables q) && fin.contains_key (live s) q)
among-died s tables q = among-filter (λ n. not (has_holder tables n)) (fin.keys (live s)) q ∙ ap (λ b. not (has_holder tables q) && b) (among-keys (live s) q)

all_named : (p : ClauseMap) (test : ℕ → Bool) (ns : List ℕ) → ((q : ℕ) → is_among ns q ≡ true → fin.contains_key p q ≡ true) → names_all p ns ≡ true
all_named p test [] h = refl
all_named p test (n ∷ ns) h = λ i. (first ∙ refl) i && all_named p test ns (λ q e. h q (or_right (n == q) (is_among ns q) e)) i
  where
    itself : (n : ℕ) → (n == n) ≡ true
    itself n = grind (arith, nat_tests)

    first : fin.contains_key p n ≡ true
    first = h n (or_left (n == n) (is_among ns n) (itself n))

-- ---- an entry that adds nothing

none_given : (p : ClauseMap) (step : Option Step) → additions (cons_option step []) ≡ [] → with_additions p (cons_option step []) ≡ p
none_given p None none = refl
none_given p (Some (steps.Add a)) none = cc
none_given p (Some (steps.Delete ns)) none = refl

given-same : (s : State) (ts : Tables) (e : Entry) → additions (cons_option e.step []) ≡ [] → given_out (with_entry s ts e) ≡ given_out s
given-same s ts e none =
    ap (with_additions (formula_map s.formula)) (steps_of-push s.history e) ∙ with_additions-append (formula_map s.formula) (steps_of s.history) (cons_option e.step []) ∙ none_given (given_out s) e.step none

next-same : (s : State) (ts : Tables) (e : Entry) → additions (cons_option e.step []) ≡ [] → next (with_entry s ts e) ≡ next s
next-same s ts e none =
    let count = ap (λ ss. length (additions ss)) (steps_of-push s.history e) ∙ additions-append (steps_of s.history) (cons_option e.step []) in
    let nothing = ap length none in
    omega arith

-- the clauses that are left where nothing more is held than before
pub live-fewer : (s : State) (ts : Tables) (e : Entry) → IsSound s → ((q : ℕ) → has_holder ts q ≡ true → has_holder s.tables q ≡ true) → additions (cons_option e.step []) ≡ [] → live (with_entry s ts e) ≡ without (live s) (dead_numbers s ts)
live-fewer s ts e sound fewer none = same_map _ _ (λ q.
    get-live (with_entry s ts e) q
    ∙ ap (λ (m : ClauseMap). cond (has_holder ts q) (fin.get m q) None) (given-same s ts e none)
    ∙ held_after (has_holder ts q) (has_holder s.tables q) (fewer q) (fin.contains_key (live s) q) (live-held s sound q) (fin.get (given_out s) q)
    ∙ ap (λ o. cond (not (has_holder ts q) && fin.contains_key (live s) q) None o) (sym (get-live s q))
    ∙ ap (λ b. cond b None (fin.get (live s) q)) (sym (among-died s ts q))
    ∙ sym (get-without (live s) (dead_numbers s ts) q))
  where
    held_after : {X : Type 0} (h before : Bool) → (h ≡ true → before ≡ true) → (lives : Bool) → lives ≡ before → (o : Option X) → cond h o None ≡ cond (not h && lives) None (cond before o None)
    held_after true true imp lives e o = refl
    held_after true false imp lives e o = absurd (false≢true (imp refl))
    held_after false true imp true e o = refl
    held_after false true imp false e o = absurd (false≢true e)
    held_after false false imp true e o = refl
    held_after false false imp false e o = refl

-- the deletion of what died, if something did
replay-died : (p q : ClauseMap) (xs : List Step) (ns : List ℕ) → replay p xs ≡ Some q → names_all q ns ≡ true → replay p (xs ++ cons_option (if_some ns) []) ≡ Some (without q ns)
replay-died p q xs [] e h = ap (replay p) (append-nil xs) ∙ e
replay-died p q xs (n ∷ ns) e h = replay-push p q xs (steps.Delete (n ∷ ns)) e h

pub none_added : (ns : List ℕ) → additions (cons_option (if_some ns) []) ≡ []
none_added [] = refl
none_added (n ∷ ns) = refl

pub none_added_by : (step : Option Step) (ns : List ℕ) → step ≡ if_some ns → additions (cons_option step []) ≡ []
none_added_by step ns is = ap (λ o. additions (cons_option o [])) is ∙ none_added ns

sound-fewer : (s : State) (ts : Tables) (e : Entry) → IsSound s → ((q : ℕ) → has_holder ts q ≡ true → has_holder s.tables q ≡ true) → e.step ≡ if_some (dead_numbers s ts) → IsSound (with_entry s ts e)
sound-fewer s ts e sound fewer is =
    let none = none_added_by e.step (dead_numbers s ts) is in
    let given = given-same s ts e none in
    let upto = next-same s ts e none in
    record {
      held_given = λ q h. ap (λ (m : ClauseMap). fin.contains_key m q) given ∙ sound.held_given q (fewer q h);
      given_below = λ q h. let low = sound.given_below q (sym (ap (λ (m : ClauseMap). fin.contains_key m q) given) ∙ h) in omega arith;
      replayed =
          ap (replay (formula_map s.formula)) (steps_of-push s.history e ∙ ap (λ o. steps_of s.history ++ cons_option o []) is)
          ∙ replay-died (formula_map s.formula) (live s) (steps_of s.history) (dead_numbers s ts) sound.replayed (all_named (live s) (λ n. true) (dead_numbers s ts) (λ q h. (and_parts (not (has_holder ts q)) (fin.contains_key (live s) q) (sym (among-died s ts q) ∙ h)).1))
          ∙ ap Some (sym (live-fewer s ts e sound fewer none));
    }

-- the clauses where the same is held as before
pub live-same : (s : State) (ts : Tables) (e : Entry) → ((q : ℕ) → has_holder ts q ≡ has_holder s.tables q) → e.step ≡ None → live (with_entry s ts e) ≡ live s
live-same s ts e same is = same_map _ _ (λ q.
    get-live (with_entry s ts e) q
    ∙ ap (λ (m : ClauseMap). cond (has_holder ts q) (fin.get m q) None) (given-same s ts e (none_added_by e.step [] is))
    ∙ ap (λ b. cond b (fin.get (given_out s) q) None) (same q)
    ∙ sym (get-live s q))

sound-same : (s : State) (ts : Tables) (e : Entry) → IsSound s → ((q : ℕ) → has_holder ts q ≡ has_holder s.tables q) → e.step ≡ None → IsSound (with_entry s ts e)
sound-same s ts e sound same is =
    let none = none_added_by e.step [] is in
    let given = given-same s ts e none in
    let upto = next-same s ts e none in
    record {
      held_given = λ q h. ap (λ (m : ClauseMap). fin.contains_key m q) given ∙ sound.held_given q (sym (same q) ∙ h);
      given_below = λ q h. let low = sound.given_below q (sym (ap (λ (m : ClauseMap). fin.contains_key m q) given) ∙ h) in omega arith;
      replayed =
          ap (replay (formula_map s.formula)) (steps_of-push s.history e ∙ ap (λ o. steps_of s.history ++ cons_option o []) is ∙ append-nil (steps_of s.history))
          ∙ sound.replayed
          ∙ ap Some (sym (live-same s ts e same is));
    }

-- ---- a drop

pub live-drop : (s : State) (seat : ℕ) (numbers : List ℕ) (step : Option Step) → IsSound s → is_here s.tables seat ≡ true → additions (cons_option step []) ≡ [] → live (after_entry s (record { seat = seat; call = calls.Drop numbers; step = step })) ≡ without (live s) (dead_numbers s (with_table (without_keys numbers) s.tables seat))
live-drop s seat numbers step sound here none =
    let t = has_table s.tables seat here in
    live-fewer s (with_table (without_keys numbers) s.tables seat) (record { seat = seat; call = calls.Drop numbers; step = step }) sound (λ q. held-drop s.tables seat q numbers t.0 t.1) none

-- ---- a leave

held-leave : (ts : Tables) (seat q : ℕ) → has_holder (without_seat ts seat) q ≡ true → has_holder ts q ≡ true
held-leave [] seat q h = h
held-leave (t ∷ ts) zero q h = or_right (holds_joint q t) (has_holder ts q) h
held-leave (t ∷ ts) (suc seat) q h = elim (or_cases (holds_joint q t) (has_holder (without_seat ts seat) q) h) [
  | inl e ↦ or_left (holds_joint q t) (has_holder ts q) e
  | inr e ↦ or_right (holds_joint q t) (has_holder ts q) (held-leave ts seat q e)
]

pub live-leave : (s : State) (seat : ℕ) (step : Option Step) → IsSound s → additions (cons_option step []) ≡ [] → live (after_entry s (record { seat = seat; call = calls.Leave; step = step })) ≡ without (live s) (dead_numbers s (without_seat s.tables seat))
live-leave s seat step sound none = live-fewer s (without_seat s.tables seat) (record { seat = seat; call = calls.Leave; step = step }) sound (held-leave s.tables seat) none

-- ---- a binding of a live number

pub held-bound : (s : State) (seat own joint : ℕ) → IsSound s → is_here s.tables seat ≡ true → is_bound s.tables seat own ≡ false → fin.contains_key (live s) joint ≡ true → (q : ℕ) → has_holder (with_binding s.tables seat own joint) q ≡ has_holder s.tables q
held-bound s seat own joint sound here free lives q =
    let t = has_table s.tables seat here in
    held-bind s.tables seat own joint q t.0 t.1 (free_in_table s.tables seat own t.0 t.1 free)
    ∙ already (joint == q) (has_holder s.tables q) (λ e. sym (ap (has_holder s.tables) (eqb-true joint q e)) ∙ sym (live-held s sound joint) ∙ lives)
  where
    already : (a b : Bool) → (a ≡ true → b ≡ true) → (a || b) ≡ b
    already true b h = sym (h refl)
    already false b h = refl

-- ---- an import

-- the state that it leaves where it finds an equal clause, and where it finds a part
pub after_equal : (s : State) (seat own joint : ℕ) (clause : LiteralSet) (step : Option Step) → FindsEqual s clause joint → step ≡ import_step s clause → after_entry s (record { seat = seat; call = calls.Import own clause; step = step }) ≡ with_entry s (with_binding s.tables seat own joint) (record { seat = seat; call = calls.Import own clause; step = None })
after_equal s seat own joint clause step f asked = λ i. with_entry s (with_found s.tables seat own (f.number i)) (record { seat = seat; call = calls.Import own clause; step = (asked ∙ f.step) i })

pub after_part : (s : State) (seat own part : ℕ) (clause : LiteralSet) (step : Option Step) → FindsPart s clause part → step ≡ import_step s clause → after_entry s (record { seat = seat; call = calls.Import own clause; step = step }) ≡ with_addition s seat own (calls.Import own clause) (part_addition (next s) clause part)
after_part s seat own part clause step f asked = λ i. with_entry s (with_found s.tables seat own (f.number i)) (record { seat = seat; call = calls.Import own clause; step = (asked ∙ f.step) i })

pub proved_by_part : (s : State) (clause : LiteralSet) (part : ℕ) → IsSound s → FindsPart s clause part → IsProved (live s) (part_addition (next s) clause part)
proved_by_part s clause part sound f = part_proved (live s) (next s) clause f.clause part (not_there s sound) f.lives f.covers

-- an import with a step finds a part, by which its step adds the clause
pub part_step : (s : State) (seat own : ℕ) (clause : LiteralSet) (a : Addition) → IsLegalImport s seat own clause (Some (steps.Add a)) → (part : ℕ) × (FindsPart s clause part × (a ≡ part_addition (next s) clause part))
part_step s seat own clause a legal =
    elim (finds s clause legal.finds) [
      | inl equal ↦
          let f : FindsEqual s clause equal.0 = equal.1 in
          absurd (false≢true (sym (ap is_some (legal.asked ∙ f.step))))
      | inr part ↦
          let f : FindsPart s clause part.0 = part.1 in
          (part.0, (f, one (legal.asked ∙ f.step)))
    ]
  where
    one : {x y : Addition} → Some (steps.Add x) ≡ Some (steps.Add y) → x ≡ y
    one e = cc

pub no_deletion : (s : State) (seat own : ℕ) (clause : LiteralSet) (numbers : List ℕ) → IsLegalImport s seat own clause (Some (steps.Delete numbers)) → ⊥
no_deletion s seat own clause numbers legal =
    elim (finds s clause legal.finds) [
      | inl equal ↦
          let f : FindsEqual s clause equal.0 = equal.1 in
          false≢true (sym (ap is_some (legal.asked ∙ f.step)))
      | inr part ↦
          let f : FindsPart s clause part.0 = part.1 in
          apart (legal.asked ∙ f.step)
    ]
  where
    apart : {x : Addition} → Some (steps.Delete numbers) ≡ Some (steps.Add x) → ⊥
    apart e = cc

-- ---- whole histories

sound-call : (s : State) (seat : ℕ) (call : Call) (step : Option Step) → IsSound s → IsLegalCall s seat call step → IsSound (after_entry s (record { seat = seat; call = call; step = step }))
sound-call s seat (calls.Add own lemma) None sound legal = absurd legal.addition
sound-call s seat (calls.Add own lemma) (Some (steps.Delete numbers)) sound legal = absurd legal.addition
sound-call s seat (calls.Add own lemma) (Some (steps.Add a)) sound legal =
    subst (λ (l : LemmaValue). IsSound (after_entry s (record { seat = seat; call = calls.Add own l; step = Some (steps.Add a) }))) legal.addition.1.0
    (sound-addition s seat own (calls.Add own a.lemma) a sound legal.here legal.unbound legal.addition.0 legal.addition.1.1.0)
sound-call s seat (calls.Drop numbers) step sound legal =
    let t = has_table s.tables seat legal.here in
    sound-fewer s (with_table (without_keys numbers) s.tables seat) (record { seat = seat; call = calls.Drop numbers; step = step }) sound (λ q. held-drop s.tables seat q numbers t.0 t.1) legal.deletes
sound-call s seat (calls.Adopt own joint) step sound legal =
    sound-same s (with_binding s.tables seat own joint) (record { seat = seat; call = calls.Adopt own joint; step = step }) sound (held-bound s seat own joint sound legal.here legal.unbound legal.lives) legal.stepless
sound-call s seat (calls.Import own clause) step sound legal =
    elim (finds s clause legal.finds) [
      | inl equal ↦
          let f : FindsEqual s clause equal.0 = equal.1 in
          subst IsSound (sym (after_equal s seat own equal.0 clause step f legal.asked))
          (sound-same s (with_binding s.tables seat own equal.0) (record { seat = seat; call = calls.Import own clause; step = None }) sound (held-bound s seat own equal.0 sound legal.here legal.unbound (ap is_some f.lives)) refl)
      | inr part ↦
          let f : FindsPart s clause part.0 = part.1 in
          subst IsSound (sym (after_part s seat own part.0 clause step f legal.asked))
          (sound-addition s seat own (calls.Import own clause) (part_addition (next s) clause part.0) sound legal.here legal.unbound refl (proved_by_part s clause part.0 sound f).accepted)
    ]
sound-call s seat calls.Leave step sound legal =
    sound-fewer s (without_seat s.tables seat) (record { seat = seat; call = calls.Leave; step = step }) sound (held-leave s.tables seat) legal.deletes

-- a legal entry keeps it
pub IsSound-after : (s : State) (e : Entry) → IsSound s → IsLegal s e → IsSound (after_entry s e)
IsSound-after s e sound legal = sound-call s e.seat e.call e.step sound legal

IsSound-after_all : (s : State) (es : List Entry) → IsSound s → AreLegal s es → IsSound (after_entries s es)
IsSound-after_all s [] sound legal = sound
IsSound-after_all s (e ∷ es) sound legal = IsSound-after_all (after_entry s e) es (IsSound-after s e sound legal.0) legal.1

-- ---- the opening

abbrev one_if : Bool → ℕ
one_if b = if b then 1 else 0

held-opening : (seats clauses q : ℕ) → 0 < seats → has_holder (replicate seats (Some (up_to clauses))) q ≡ (nat_lt 0 q && nat_le q clauses)
held-opening seats clauses q some =
    held_counts (replicate seats (Some (up_to clauses))) q
    ∙ ap (nat_lt 0) (holders-replicate seats (up_to clauses) q ∙ ap (λ (n : ℕ). seats * n) (count-up_to clauses q))
    ∙ times seats (nat_lt 0 q && nat_le q clauses) some
  where
    times : (seats : ℕ) (b : Bool) → 0 < seats → nat_lt 0 (seats * one_if b) ≡ b
    times seats true some = grind (arith, nat_tests)
    times seats false some = grind (arith, nat_tests)

pub past_the_end : (f : FormulaValue) (q : ℕ) → (nat_lt 0 q && nat_le q (length f.clauses)) ≡ false → fin.get (formula_map f) q ≡ None
past_the_end f zero h = clause_zero f zero (omega arith)
past_the_end f (suc q) h = clause_at f (suc q) q (omega arith) ∙ slice_get_past f.clauses q (beyond q (length f.clauses) h)
  where
    beyond : (q n : ℕ) → (nat_lt 0 (suc q) && nat_le (suc q) n) ≡ false → n ≤ q
    beyond q n h = grind (arith, nat_tests)

pub live-opening : (f : FormulaValue) (seats max_steps : ℕ) → 0 < seats → live (opening f seats max_steps) ≡ formula_map f
live-opening f seats max_steps some = same_map _ _ (λ q.
    get-live (opening f seats max_steps) q
    ∙ ap (λ b. cond b (fin.get (formula_map f) q) None) (held-opening seats (length f.clauses) q some)
    ∙ elim (nat_lt 0 q && nat_le q (length f.clauses)) as (λ b. (nat_lt 0 q && nat_le q (length f.clauses)) ≡ b → cond b (fin.get (formula_map f) q) None ≡ fin.get (formula_map f) q) [
      | true ↦ λ e. refl
      | false ↦ λ e. sym (past_the_end f q e)
    ] refl)

in_formula : (f : FormulaValue) (q : ℕ) → fin.contains_key (formula_map f) q ≡ true → q ≤ length f.clauses
in_formula f q h =
    elim (nat_lt 0 q && nat_le q (length f.clauses)) as (λ b. (nat_lt 0 q && nat_le q (length f.clauses)) ≡ b → q ≤ length f.clauses) [
      | true ↦ λ e. within q (length f.clauses) e
      | false ↦ λ e. absurd (false≢true (sym (ap is_some (past_the_end f q e)) ∙ h))
    ] refl
  where
    within : (q n : ℕ) → (nat_lt 0 q && nat_le q n) ≡ true → q ≤ n
    within q n h = grind (arith, nat_tests)

pub formula_has : (f : FormulaValue) (q : ℕ) → (nat_lt 0 q && nat_le q (length f.clauses)) ≡ true → fin.contains_key (formula_map f) q ≡ true
formula_has f zero h = absurd (false≢true h)
formula_has f (suc q) h = ap is_some (clause_at f (suc q) q (omega arith)) ∙ is_there f.clauses q (within q (length f.clauses) h)
  where
    within : (q n : ℕ) → (nat_lt 0 (suc q) && nat_le (suc q) n) ≡ true → q < n
    within q n h = grind (arith, nat_tests)

    is_there : {X : Type 0} (xs : List X) (i : ℕ) → i < length xs → is_some (slice_get xs i) ≡ true
    is_there [] i lt = absurd (omega arith)
    is_there (x ∷ xs) zero lt = refl
    is_there (x ∷ xs) (suc i) lt = is_there xs i (omega arith)

IsSound-opening : (f : FormulaValue) (seats max_steps : ℕ) → 0 < seats → IsSound (opening f seats max_steps)
IsSound-opening f seats max_steps some = record {
  held_given = λ q h. formula_has f q (sym (held-opening seats (length f.clauses) q some) ∙ h);
  given_below = λ q h. let low = in_formula f q h in omega arith;
  replayed = ap Some (sym (live-opening f seats max_steps some));
}

-- each state that a legal history reaches is sound
pub IsSound-reached : (s : State) → IsReached s → IsSound s
IsSound-reached s r = subst IsSound r.leads (IsSound-after_all (opening s.formula r.seats s.max_steps) s.history (IsSound-opening s.formula r.seats s.max_steps r.some_seat) r.legal)

pub IsReached-opening : (f : FormulaValue) (seats max_steps : ℕ) → 0 < seats → IsReached (opening f seats max_steps)
IsReached-opening f seats max_steps some = record { seats = seats; some_seat = some; legal = tt; leads = refl }

AreLegal-push : (s : State) (es : List Entry) (e : Entry) → AreLegal s es → IsLegal (after_entries s es) e → AreLegal s (es ++ e ∷ [])
AreLegal-push s [] e legal last = (last, tt)
AreLegal-push s (x ∷ es) e legal last = (legal.0, AreLegal-push (after_entry s x) es e legal.1 last)

after_all-push : (s : State) (es : List Entry) (e : Entry) → after_entries s (es ++ e ∷ []) ≡ after_entry (after_entries s es) e
after_all-push s [] e = refl
after_all-push s (x ∷ es) e = after_all-push (after_entry s x) es e

-- and a legal entry leads on
pub IsReached-after : (s : State) (e : Entry) → IsReached s → IsLegal s e → IsReached (after_entry s e)
IsReached-after s e r legal = record {
  seats = r.seats;
  some_seat = r.some_seat;
  legal = AreLegal-push (opening s.formula r.seats s.max_steps) s.history e r.legal (subst (λ (t : State). IsLegal t e) (sym r.leads) legal);
  leads = after_all-push (opening s.formula r.seats s.max_steps) s.history e ∙ ap (λ (t : State). after_entry t e) r.leads;
}
