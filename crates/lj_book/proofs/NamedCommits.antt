-- What the commit of a receipt in its seat's variables enters beneath.
use Rattle.std.proofs.Common.{◌≡◌, ap, refl, sym, ◌∙◌, subst, ℕ, ◌+◌, Bool, cond, true, false, arith, ◌<◌}
use Rattle.std.specs.Prelude.{List, [], ◌∷◌, map, length, nat_lt, nat_le, not, ◌&&◌, Option, Some, None, is_some, if◌then◌else◌, Result, Ok, Err, OnErr}
use Rattle.std.specs.List.{AllByRecursion, cons_option}
use Rattle.std.proofs.lemmas.List.Elements.{All-from_recursion}
use Rattle.std.proofs.lemmas.Bool.{false≢true, and_parts}
use Rattle.std.proofs.lemmas.Bool.Decides.{nat_tests}
use Rattle.lj_clause.specs.LiteralSet.{LiteralSet}
use Rattle.lj_clause.specs.declared.lit.TheConstants.{MAX_VARIABLE}
use Rattle.lj_clause.specs.Lemma.{LemmaValue, IsLemma}
use Rattle.lj_clause.specs.ClauseMap.{ClauseMap}
use Rattle.lj_clause.specs.Renaming.{Renaming, lemma_image, is_named, IsOneToOne, IsPartOf}
use Rattle.lj_clause.proofs.Renaming.{renaming_laws}
use Rattle.lj_text.specs.declared.step.Step.{Step}
use Rattle.lj_text.specs.declared.step.Step.TheVariants as steps
use Rattle.lj_text.specs.Needed.{additions}
use Rattle.lj_hint.specs.declared.pair.Pair.{Pair}
use Rattle.lj_hint.specs.Receipt.{ReceiptValue, IsReceipt}
use Rattle.lj_hint.specs.Images.{pair_image, receipt_image}
use Rattle.lj_hint.proofs.Images.{tests_commute}
use Rattle.lj_book.specs.declared.refusal.Refusal.{Refusal}
use Rattle.lj_book.specs.declared.refusal.Refusal.TheVariants as refusals
use Rattle.lj_book.specs.declared.refusal.Refusal.TheVariants.{SeatGone, NumberTaken, Stale, Full, NoVariableLeft}
use Rattle.lj_book.specs.declared.entry.Call.TheVariants as calls
use Rattle.lj_book.specs.declared.entry.Entry.{Entry}
use Rattle.lj_book.specs.Tables.{is_here, is_bound}
use Rattle.lj_book.specs.State.{State, steps_of, addition_count, next, live}
use Rattle.lj_book.specs.History.{after_entry, IsLegal, IsReached}
use Rattle.lj_book.specs.Calls.{IsRefusal, free_refusal, if_free, is_live_as, stale_or, commit_told}
use Rattle.lj_book.specs.inner.Commits.{first_stale, commit_entry}
use Rattle.lj_book.specs.Variables.{Variables, IsVariables, renaming_of, given}
use Rattle.lj_book.specs.Named.{NamedState, top_of, names_of, joint_entry, own_entry, beneath, named_over, given_in, has_variables_for, entry_beneath, after_named, IsNamedLegal, IsNamedReached}
use Rattle.lj_book.specs.NamedViews.{names_with}
use Rattle.lj_book.specs.NamedReplies.{if_variables_left, named_first_stale, named_commit_refusal, named_commit}
use Rattle.lj_book.specs.NamedEntries.{receipt_step, named_commit_entry}
use Rattle.lj_book.specs.inner.JointLines.{line_entry}
use Rattle.lj_book.specs.inner.Over.{IsOver}
use Rattle.lj_book.specs.inner.VariableTables.{TopVariables, variables_at, variables_before, are_left, lemma_as_joint}
use Rattle.lj_book.proofs.HistoryLaws.{IsSound-reached}
use Rattle.lj_book.proofs.CommitLaws.{CanCommit, commit_legal}
use Rattle.lj_book.proofs.NamedLaws.{Grows, given_grows, rules_reached, beneath_is_reached}
use Rattle.lj_book.proofs.TableLaws.{here_in_range}
use Rattle.lj_book.proofs.OverLaws.{steps-over, entered}
use Rattle.lj_book.proofs.GivenBack.{given_taken_back}
use Rattle.lj_book.proofs.PrivateRefusals.{same_numbers}

-- ---- a joint history has the same steps

pub same_steps : (v : Variables) (es : List Entry) → steps_of (map (joint_entry v) es) ≡ steps_of es
same_steps v [] = refl
same_steps v (e ∷ es) = ap (cons_option e.step) (same_steps v es)

pub same_count : (s : NamedState) → addition_count (beneath s).history ≡ addition_count s.history
same_count s = ap (λ (ss : List Step). length (additions ss)) (same_steps s.variables s.history)

count-over : (v : Variables) (es : List Entry) → addition_count (map (own_entry v) es) ≡ addition_count es
count-over v es = ap (λ (ss : List Step). length (additions ss)) (steps-over v es)

-- ---- the listed clauses

-- each clause of these pairs has a joint form
abbrev pub AllNamed : ℕ → Renaming → List Pair → Type 0
AllNamed top m ps = AllByRecursion (λ (q : Pair). is_named top m q.clause ≡ true) ps

-- Where none of them is stale by an earlier renaming, none is by a later one.
pub fresh_later : (top : ℕ) (m n : Renaming) (p : ClauseMap) (ps : List Pair) → IsPartOf m n → IsOneToOne top n → named_first_stale top m p ps ≡ None → AllNamed top n ps × (first_stale p (map (pair_image n) ps) ≡ None)
fresh_later top m n p [] part one h = (tt, refl)
fresh_later top m n p (q ∷ qs) part one h =
    elim (is_named top m q.clause && is_live_as p (pair_image m q)) as (λ b. (is_named top m q.clause && is_live_as p (pair_image m q)) ≡ b → (if b then named_first_stale top m p qs else Some q.joint) ≡ None → AllNamed top n (q ∷ qs) × (first_stale p (map (pair_image n) (q ∷ qs)) ≡ None)) [
      | true ↦ λ e g.
          let parts = and_parts (is_named top m q.clause) (is_live_as p (pair_image m q)) e in
          let grown = renaming_laws.grown top m n q.clause part one parts.0 in
          let rest = fresh_later top m n p qs part one g in
          let lives : is_live_as p (pair_image n q) ≡ true = ap (λ (c : LiteralSet). is_live_as p (record { joint = q.joint; clause = c })) grown.0 ∙ parts.1 in
          ((grown.1, rest.0), ap (λ (b : Bool). if b then first_stale p (map (pair_image n) qs) else Some q.joint) lives ∙ rest.1)
      | false ↦ λ e g. absurd (false≢true (sym (ap is_some g)))
    ] refl h

-- ---- a commit that isn't refused

pub record CanCommitNamed (s : NamedState) (r : ReceiptValue) : Type 0 where
  pub here : is_here s.tables r.seat ≡ true
  pub unbound : is_bound s.tables r.seat r.own ≡ false
  pub fresh : named_first_stale (top_of s) (names_of s r.seat) (live (beneath s)) r.listed ≡ None
  pub capacity : addition_count s.history < s.max_steps

pub can_commit_named : (s : NamedState) (r : ReceiptValue) → named_commit_refusal s r ≡ None → CanCommitNamed s r
can_commit_named s r h =
    go (is_here s.tables r.seat) (is_bound s.tables r.seat r.own) (named_first_stale (top_of s) (names_of s r.seat) (live (beneath s)) r.listed) (nat_lt (addition_count s.history) s.max_steps) refl refl refl refl h
  where
    capacity : (a m : ℕ) → nat_lt a m ≡ true → a < m
    capacity a m e = grind (arith, nat_tests)

    go : (a b : Bool) (o : Option ℕ) (c : Bool) → is_here s.tables r.seat ≡ a → is_bound s.tables r.seat r.own ≡ b → named_first_stale (top_of s) (names_of s r.seat) (live (beneath s)) r.listed ≡ o → nat_lt (addition_count s.history) s.max_steps ≡ c → (if a then (if b then Some NumberTaken else stale_or o (if c then None else Some Full)) else Some SeatGone) ≡ None → CanCommitNamed s r
    go false b o c p q u v h = absurd (false≢true (sym (ap is_some h)))
    go true true o c p q u v h = absurd (false≢true (sym (ap is_some h)))
    go true false (Some j) c p q u v h = absurd (false≢true (sym (ap is_some h)))
    go true false None false p q u v h = absurd (false≢true (sym (ap is_some h)))
    go true false None true p q u v h = record { here = p; unbound = q; fresh = u; capacity = capacity (addition_count s.history) s.max_steps v }

-- the receipt in joint variables, once its lemma's have been given out
abbrev pub joint_receipt : NamedState → ReceiptValue → ReceiptValue
joint_receipt s r = receipt_image (names_with s r.seat r.lemma.clause) r

module _ (s : NamedState) (r : ReceiptValue) (reached : IsNamedReached s) (can : CanCommitNamed s r) where
  pub gives : Grows (top_of s) s.variables (given_in s r.seat r.lemma.clause) × (is_named (top_of s) (names_with s r.seat r.lemma.clause) r.lemma.clause ≡ true)
  gives = given_grows s (rules_reached s reached) r.seat r.lemma.clause can.here

  fresh_beneath : AllNamed (top_of s) (names_with s r.seat r.lemma.clause) r.listed × (first_stale (live (beneath s)) (joint_receipt s r).listed ≡ None)
  fresh_beneath =
      fresh_later (top_of s) (names_of s r.seat) (names_with s r.seat r.lemma.clause) (live (beneath s)) r.listed
      (gives.0.part r.seat) (gives.0.rules.one_to_one r.seat) can.fresh

  -- the receipt can be committed beneath, and is one there
  pub can_beneath : CanCommit (beneath s) (joint_receipt s r)
  can_beneath = record {
    here = can.here;
    unbound = can.unbound;
    fresh = fresh_beneath.1;
    capacity = (let same = same_count s in let capacity = can.capacity in omega arith);
  }

  pub receipt_beneath : IsReceipt r → IsReceipt (joint_receipt s r)
  receipt_beneath receipt =
      (tests_commute (top_of s) (names_with s r.seat r.lemma.clause) (gives.0.rules.one_to_one r.seat)).receipt r
      (record {
        lemma = gives.1;
        listed = All-from_recursion (λ (q : Pair). is_named (top_of s) (names_with s r.seat r.lemma.clause) q.clause ≡ true) r.listed fresh_beneath.0;
      })
      receipt

  -- its entry is that of the commit beneath
  pub same_entry : entry_beneath s (named_commit_entry s r) ≡ commit_entry (beneath s) (joint_receipt s r)
  same_entry = λ i. record {
    seat = r.seat;
    call = calls.Add r.own (lemma_image (names_with s r.seat r.lemma.clause) r.lemma);
    step = Some (steps.Add (record {
      number = next (beneath s);
      lemma = lemma_image (names_with s r.seat r.lemma.clause) r.lemma;
      hints = sym (same_numbers (names_with s r.seat r.lemma.clause) r.listed) i;
      groups = [];
    }));
  }

  -- and legal
  pub legal_beneath : IsReceipt r → IsLegal (beneath s) (entry_beneath s (named_commit_entry s r))
  legal_beneath receipt =
      subst (IsLegal (beneath s)) (sym same_entry)
      (commit_legal (beneath s) (joint_receipt s r) (IsSound-reached (beneath s) (beneath_is_reached s reached)) (receipt_beneath receipt) can_beneath)

  pub named_commit_legal : IsReceipt r → IsLemma r.lemma → has_variables_for s r.seat r.lemma.clause ≡ true → IsNamedLegal s (named_commit_entry s r)
  named_commit_legal receipt proper left = record { names = (proper, left); legal = legal_beneath receipt }

-- ---- what the code finds

-- the refusal by those of the own number and of the listed clauses, and by whether the history is full
abbrev pub commit_by : Option Refusal → Option ℕ → Bool → Option Refusal
commit_by (Some e) stale full = Some e
commit_by None (Some joint) full = Some (Stale joint)
commit_by None None true = Some Full
commit_by None None false = None

abbrev commit_form : Bool → Bool → Option ℕ → Bool → Option Refusal
commit_form a b o c = if a then (if b then Some NumberTaken else stale_or o (if c then None else Some Full)) else Some SeatGone

pub commit_found : (j : State) (t : TopVariables) (r : ReceiptValue) → IsOver j t → named_commit_refusal (named_over j t.variables) r ≡ commit_by (free_refusal j r.seat r.own) (named_first_stale t.top (renaming_of t.variables r.seat) (live j) r.listed) (not (nat_lt (addition_count j.history) j.max_steps))
commit_found j t r over =
    (λ i. commit_form (is_here j.tables r.seat) (is_bound j.tables r.seat r.own) (named_first_stale (sym over.top i) (renaming_of t.variables r.seat) (live (over.below i)) r.listed) (nat_lt (count-over t.variables j.history i) j.max_steps))
    ∙ by (is_here j.tables r.seat) (is_bound j.tables r.seat r.own) (named_first_stale t.top (renaming_of t.variables r.seat) (live j) r.listed) (nat_lt (addition_count j.history) j.max_steps)
  where
    by : (a b : Bool) (o : Option ℕ) (c : Bool) → commit_form a b o c ≡ commit_by (if a then (if b then Some NumberTaken else None) else Some SeatGone) o (not c)
    by false b o c = refl
    by true true o c = refl
    by true false (Some joint) c = refl
    by true false None true = refl
    by true false None false = refl

-- ---- a commit over a book in joint variables

-- the entry beneath of a receipt, with its lemma renamed as these variables tell
abbrev pub joint_line : State → Variables → ReceiptValue → Entry
joint_line j v r = line_entry r.seat r.own (receipt_step (renaming_of v r.seat) (next j) r)

abbrev LegalAt : ℕ → Variables → ReceiptValue → State → Type 0
LegalAt top v r j = IsLegal j (joint_line j (given top v r.seat r.lemma.clause) r)

module _ (j : State) (t : TopVariables) (r : ReceiptValue) (over : IsOver j t) (free : named_commit_refusal (named_over j t.variables) r ≡ None) where
  can : CanCommitNamed (named_over j t.variables) r
  can = can_commit_named (named_over j t.variables) r free

  pub seat_within : r.seat < length t.variables.of_seats
  seat_within = subst (λ n. r.seat < n) (sym (rules_reached (named_over j t.variables) over.reached).seats) (here_in_range j.tables r.seat can.here)

  pub given_is : given_in (named_over j t.variables) r.seat r.lemma.clause ≡ given t.top t.variables r.seat r.lemma.clause
  given_is = ap (λ top. given top t.variables r.seat r.lemma.clause) (sym over.top)

  pub left_is : has_variables_for (named_over j t.variables) r.seat r.lemma.clause ≡ are_left t.top t.variables r.seat r.lemma.clause
  left_is = ap (λ (v : Variables). nat_le v.next (MAX_VARIABLE + 1)) given_is

  pub named_then : is_named t.top (renaming_of (given t.top t.variables r.seat r.lemma.clause) r.seat) r.lemma.clause ≡ true
  named_then = (λ i. is_named (over.top i) (renaming_of (given (over.top i) t.variables r.seat r.lemma.clause) r.seat) r.lemma.clause) ∙ (gives (named_over j t.variables) r over.reached can).1

  pub legal_then : IsReceipt r → IsLegal j (joint_line j (given t.top t.variables r.seat r.lemma.clause) r)
  legal_then receipt =
      subst (LegalAt t.top t.variables r) over.below
      (subst (λ top. LegalAt top t.variables r (beneath (named_over j t.variables))) (sym over.top) (legal_beneath (named_over j t.variables) r over.reached can receipt))

  -- what the book keeps then
  pub entered_then : (after : State) (u : TopVariables) → IsReached after → IsLemma r.lemma → are_left t.top t.variables r.seat r.lemma.clause ≡ true
      → u ≡ variables_at t.top (given t.top t.variables r.seat r.lemma.clause) → after ≡ after_entry j (joint_line j u.variables r)
      → IsOver after u × (named_over after u.variables ≡ after_named (named_over j t.variables) (named_commit_entry (named_over j t.variables) r))
  entered_then after u reached proper left given after_is =
      let variables : u.variables ≡ given_in (named_over j t.variables) r.seat r.lemma.clause = ap (λ (w : TopVariables). w.variables) given ∙ sym given_is in
      entered j after t u (named_commit_entry (named_over j t.variables) r) over reached (proper, left_is ∙ left)
      (after_is ∙ (λ i. after_entry j (line_entry r.seat r.own (receipt_step (renaming_of (variables i) r.seat) (next (sym over.below i)) r))))
      (ap (λ (w : TopVariables). w.top) given) variables

  -- the reply
  pub reply_left : are_left t.top t.variables r.seat r.lemma.clause ≡ true → named_commit (named_over j t.variables) r ≡ Ok (commit_told j)
  reply_left left =
      ap (λ (o : Option Refusal). if_free o (if_variables_left (named_over j t.variables) r.seat r.lemma.clause)) free
      ∙ ap (λ b. cond b (Ok (commit_told (beneath (named_over j t.variables)))) (Err NoVariableLeft)) (left_is ∙ left)
      ∙ ap (λ (u : State). Ok (commit_told u)) over.below

  pub reply_none_left : are_left t.top t.variables r.seat r.lemma.clause ≡ false → named_commit (named_over j t.variables) r ≡ Err NoVariableLeft
  reply_none_left left =
      ap (λ (o : Option Refusal). if_free o (if_variables_left (named_over j t.variables) r.seat r.lemma.clause)) free
      ∙ ap (λ b. cond b (Ok (commit_told (beneath (named_over j t.variables)))) (Err NoVariableLeft)) (left_is ∙ left)

-- what was given out for a refused entry is taken back
pub taken_back : (t u : TopVariables) (seat : ℕ) (c : LiteralSet) (n : ℕ) → IsVariables t.top t.variables → u ≡ variables_at t.top (given t.top t.variables seat c) → n ≡ t.variables.next → variables_at u.top (variables_before n u.variables) ≡ t
taken_back t u seat c n rules given from =
    (λ i. variables_at (given i).top (variables_before (from i) (given i).variables))
    ∙ ap (variables_at t.top) (given_taken_back t.top t.variables seat c rules)

-- a refusal is the reply
pub refused_reply : (s : NamedState) (r : ReceiptValue) (e : Refusal) → named_commit_refusal s r ≡ Some e → named_commit s r ≡ Err e
refused_reply s r e is = ap (λ (o : Option Refusal). if_free o (if_variables_left s r.seat r.lemma.clause)) is

-- ---- the lemma

pub lemma_is : (top : ℕ) (v : Variables) (seat : ℕ) (l x : LemmaValue) → is_named top (renaming_of v seat) l.clause ≡ true → Some x ≡ lemma_as_joint top v seat l → x ≡ lemma_image (renaming_of v seat) l
lemma_is top v seat l x named is =
    let both : Some x ≡ Some (lemma_image (renaming_of v seat) l) = is ∙ ap (λ b. cond b (Some (lemma_image (renaming_of v seat) l)) None) named in
    cc

pub some_lemma : (top : ℕ) (v : Variables) (seat : ℕ) (l : LemmaValue) → is_named top (renaming_of v seat) l.clause ≡ true → None ≡ lemma_as_joint top v seat l → ⊥
some_lemma top v seat l named is =
    let both : None ≡ Some (lemma_image (renaming_of v seat) l) = is ∙ ap (λ b. cond b (Some (lemma_image (renaming_of v seat) l)) None) named in
    cc

pub refused_is : {A : Type 0} (e : Refusal) (reply : Result A Refusal) → reply ≡ Err e → IsRefusal e reply
refused_is (refusals.NoMemory m) reply h = tt
refused_is refusals.SeatGone reply h = h
refused_is refusals.NumberTaken reply h = h
refused_is (refusals.UnknownNumber n) reply h = h
refused_is (refusals.GroupRepeated n) reply h = h
refused_is (refusals.HintNotUnit n) reply h = h
refused_is refusals.EmptyOpen reply h = h
refused_is (refusals.MissingGroup n) reply h = h
refused_is (refusals.GroupStuck n place) reply h = h
refused_is (refusals.GroupOpen n) reply h = h
refused_is (refusals.Stale n) reply h = h
refused_is refusals.PrivateVariable reply h = h
refused_is refusals.NoSuchClause reply h = h
refused_is refusals.Full reply h = h
refused_is refusals.NoVariableLeft reply h = h

pub on_err : {A : Type 0} {P : Type 0} (r : Result A Refusal) → P → OnErr r P
on_err (Ok x) p = tt
on_err (Err e) p = p
