-- What the grammar reads on behind a token of the clauses.
use Rattle.std.proofs.Common.{◌≡◌, ℕ, zero, suc, ◌-◌, ◌<◌, ◌≤◌, Bool, true, false, not, ◌&&◌, ◌||◌, cond, List, [], ◌∷◌, ◌++◌, length, Option, Result, Ok, Err, ℤ, pos, negsuc, unsigned_abs, ◌==◌, refl, sym, ap, ◌∙◌, subst, inl, inr, append_assoc, arith}
use Rattle.std.proofs.lemmas.Bool.{le-leb, lt-leb, false_from_ne_true}
use Rattle.std.proofs.lemmas.Bool.Decides.{nat_tests}
use Rattle.std.proofs.lemmas.List.{append-nil}
use Rattle.lj_clause.specs.LiteralSet.{LiteralSet, from_literals, literals}
use Rattle.lj_clause.specs.Literal.{variable_of}
use Rattle.lj_clause.proofs.LiteralSets.{holds-from_literals, holds-literals}
use Rattle.lj_clause.proofs.Among.{among, any_found, any_at}
use Rattle.std.specs.List.{list_all, list_any}
use Rattle.std.specs.Prelude.{nat_le, ◌⊎◌}
use Rattle.lj_text.specs.Bytes.{number_of}
use Rattle.std.proofs.lemmas.List.Folds.{list_all-append}
use Rattle.lj_clause.specs.ClauseMap.{formula_of, names_up_to}
use Rattle.lj_text.specs.declared.cnf.fault.CnfFault.{CnfFault}
use Rattle.lj_text.specs.declared.cnf.fault.CnfFaultKind.TheVariants.{NoHeader, BadHeader, BadNumber, VariableRange, ClauseCount, Truncated, NoMemory}
use Rattle.lj_text.specs.Lines.{with_read, then_read}
use Rattle.lj_text.specs.Cnf.{BodyToken, Percent, NoNumber, Number, number_at, fault_in, literals_up_to, clauses_of}
use Rattle.lj_text.specs.CnfReading.{Begun, formula_after, clauses_after, is_literal_kept, keeps_first}
use Rattle.lj_text.specs.inner.CnfReading.{IsCnfTold, IsNumberUpTo, is_up_to, Goes, body_tokens_behind}
use Rattle.lj_text.specs.declared.cnf.fault.CnfFaultKind.{CnfFaultKind}

pub not_zero : (n : ℕ) → 0 < n → (n == 0) ≡ false
not_zero n h = grind (arith, nat_tests)

-- behind a literal
literals-more : (v last line : ℕ) (n : ℤ) (rest : List BodyToken) → unsigned_abs n ≤ v → 0 < unsigned_abs n → literals_up_to v last (Number line n ∷ rest) ≡ with_read (λ r. (n ∷ r.0, r.1)) (literals_up_to v last rest)
literals-more v last line n rest le some =
    ap (λ b. cond b (cond (unsigned_abs n == 0) (Ok ([], rest)) (with_read (λ r. (n ∷ r.0, r.1)) (literals_up_to v last rest))) (fault_in line VariableRange)) (le-leb (unsigned_abs n) v le)
    ∙ ap (λ b. cond b (Ok ([], rest)) (with_read (λ r. (n ∷ r.0, r.1)) (literals_up_to v last rest))) (not_zero (unsigned_abs n) some)

literals-closed : (v last line : ℕ) (rest : List BodyToken) → literals_up_to v last (Number line (pos 0) ∷ rest) ≡ Ok ([], rest)
literals-closed v last line rest = ap (λ b. cond b (Ok ([], rest)) (fault_in line VariableRange)) (le-leb 0 v (omega arith))

then-with : {A B C E : Type 0} (f : A → B) (g : B → Result C E) (read : Result A E) → then_read (with_read f read) g ≡ then_read read (λ x. g (f x))
then-with f g (Ok x) = refl
then-with f g (Err e) = refl

begin_literal : (v last line left : ℕ) (n : ℤ) (rest : List BodyToken) → unsigned_abs n ≤ v → 0 < unsigned_abs n → 0 < left → clauses_of v last left (Number line n ∷ rest) ≡ clauses_after v last left (n ∷ []) rest
begin_literal v last line zero n rest le some h = absurd (omega arith)
begin_literal v last line (suc m) n rest le some h =
    let one : suc m - 1 ≡ m = omega arith in
    ap (λ read. then_read read (λ r. with_read (λ cs. from_literals r.0 ∷ cs) (clauses_of v last m r.1))) (literals-more v last line n rest le some)
    ∙ then-with (λ (r : List ℤ × List BodyToken). (n ∷ r.0, r.1)) (λ r. with_read (λ cs. from_literals r.0 ∷ cs) (clauses_of v last m r.1)) (literals_up_to v last rest)
    ∙ ap (λ k. then_read (literals_up_to v last rest) (λ r. with_read (λ cs. from_literals (n ∷ r.0) ∷ cs) (clauses_of v last k r.1))) (sym one)

regroup : (v last left : ℕ) (o : ℤ) (os : List ℤ) (n : ℤ) (read : Result (List ℤ × List BodyToken) CnfFault)
    → then_read read (λ r. with_read (λ cs. from_literals (o ∷ os ++ (n ∷ r.0)) ∷ cs) (clauses_of v last (left - 1) r.1))
    ≡ then_read read (λ r. with_read (λ cs. from_literals (o ∷ (os ++ n ∷ []) ++ r.0) ∷ cs) (clauses_of v last (left - 1) r.1))
regroup v last left o os n (Ok r) = ap (λ ls. with_read (λ cs. from_literals (o ∷ ls) ∷ cs) (clauses_of v last (left - 1) r.1)) (sym (append_assoc os (n ∷ []) r.0))
regroup v last left o os n (Err e) = refl

after_literal : (v last line left : ℕ) (ls : List ℤ) (n : ℤ) (rest : List BodyToken) → unsigned_abs n ≤ v → 0 < unsigned_abs n → 0 < left
    → clauses_after v last left ls (Number line n ∷ rest) ≡ clauses_after v last left (ls ++ n ∷ []) rest
after_literal v last line left [] n rest le some h = begin_literal v last line left n rest le some h
after_literal v last line left (o ∷ os) n rest le some h =
    ap (λ read. then_read read (λ r. with_read (λ cs. from_literals (o ∷ os ++ r.0) ∷ cs) (clauses_of v last (left - 1) r.1))) (literals-more v last line n rest le some)
    ∙ then-with (λ (r : List ℤ × List BodyToken). (n ∷ r.0, r.1)) (λ r. with_read (λ cs. from_literals (o ∷ os ++ r.0) ∷ cs) (clauses_of v last (left - 1) r.1)) (literals_up_to v last rest)
    ∙ regroup v last left o os n (literals_up_to v last rest)

pub completed-literal : (b : Begun) (last line : ℕ) (n : ℤ) (rest : List BodyToken) → unsigned_abs n ≤ b.variables → 0 < unsigned_abs n → 0 < b.left
    → formula_after b last (Number line n ∷ rest) ≡ formula_after (record b { literals = b.literals ++ n ∷ [] }) last rest
completed-literal b last line n rest le some h =
    ap (with_read (λ cs. formula_of b.variables (b.clauses ++ cs))) (after_literal b.variables last line b.left b.literals n rest le some h)

-- behind the 0 that closes a clause
after_zero : (v last line left : ℕ) (ls : List ℤ) (rest : List BodyToken) → 0 < left → clauses_after v last left ls (Number line (pos 0) ∷ rest) ≡ with_read (λ cs. from_literals ls ∷ cs) (clauses_of v last (left - 1) rest)
after_zero v last line zero ls rest h = absurd (omega arith)
after_zero v last line (suc m) [] rest h =
    let one : suc m - 1 ≡ m = omega arith in
    ap (λ read. then_read read (λ r. with_read (λ cs. from_literals r.0 ∷ cs) (clauses_of v last m r.1))) (literals-closed v last line rest)
    ∙ ap (λ k. with_read (λ cs. from_literals [] ∷ cs) (clauses_of v last k rest)) (sym one)
after_zero v last line (suc m) (o ∷ os) rest h =
    ap (λ read. then_read read (λ r. with_read (λ cs. from_literals (o ∷ os ++ r.0) ∷ cs) (clauses_of v last (suc m - 1) r.1))) (literals-closed v last line rest)
    ∙ ap (λ ls. with_read (λ cs. from_literals (o ∷ ls) ∷ cs) (clauses_of v last (suc m - 1) rest)) (append-nil os)

add_clause : (v : ℕ) (done : List LiteralSet) (c : LiteralSet) (read : Result (List LiteralSet) CnfFault)
    → with_read (λ cs. formula_of v (done ++ cs)) (with_read (λ cs. c ∷ cs) read) ≡ with_read (λ cs. formula_of v (done ++ c ∷ [] ++ cs)) read
add_clause v done c (Ok cs) = ap (λ l. Ok (formula_of v l)) (sym (append_assoc done (c ∷ []) cs))
add_clause v done c (Err e) = refl

pub completed-zero : (b : Begun) (last line : ℕ) (rest : List BodyToken) → 0 < b.left
    → formula_after b last (Number line (pos 0) ∷ rest) ≡ formula_after (record b { left = b.left - 1; clauses = b.clauses ++ from_literals b.literals ∷ []; literals = [] }) last rest
completed-zero b last line rest h =
    ap (with_read (λ cs. formula_of b.variables (b.clauses ++ cs))) (after_zero b.variables last line b.left b.literals rest h)
    ∙ add_clause b.variables b.clauses (from_literals b.literals) (clauses_of b.variables last (b.left - 1) rest)

-- faults
no_number : (v last line left : ℕ) (ls : List ℤ) (rest : List BodyToken) → clauses_after v last left ls (NoNumber line ∷ rest) ≡ fault_in line BadNumber
no_number v last line zero [] rest = refl
no_number v last line (suc m) [] rest = refl
no_number v last line left (o ∷ os) rest = refl

pub completed-no_number : (b : Begun) (last line : ℕ) (rest : List BodyToken) → formula_after b last (NoNumber line ∷ rest) ≡ fault_in line BadNumber
completed-no_number b last line rest = ap (with_read (λ cs. formula_of b.variables (b.clauses ++ cs))) (no_number b.variables last line b.left b.literals rest)

literals-beyond : (v last line : ℕ) (n : ℤ) (rest : List BodyToken) → v < unsigned_abs n → literals_up_to v last (Number line n ∷ rest) ≡ fault_in line VariableRange
literals-beyond v last line n rest above =
    ap (λ b. cond b (cond (unsigned_abs n == 0) (Ok ([], rest)) (with_read (λ r. (n ∷ r.0, r.1)) (literals_up_to v last rest))) (fault_in line VariableRange)) (lt-leb (unsigned_abs n) v above)

beyond : (v last line left : ℕ) (ls : List ℤ) (n : ℤ) (rest : List BodyToken) → v < unsigned_abs n → clauses_after v last left ls (Number line n ∷ rest) ≡ fault_in line VariableRange
beyond v last line zero [] n rest above = ap (λ b. cond b (fault_in line ClauseCount) (fault_in line VariableRange)) (lt-leb (unsigned_abs n) v above)
beyond v last line (suc m) [] n rest above = ap (λ read. then_read read (λ r. with_read (λ cs. from_literals r.0 ∷ cs) (clauses_of v last m r.1))) (literals-beyond v last line n rest above)
beyond v last line left (o ∷ os) n rest above = ap (λ read. then_read read (λ r. with_read (λ cs. from_literals (o ∷ os ++ r.0) ∷ cs) (clauses_of v last (left - 1) r.1))) (literals-beyond v last line n rest above)

pub completed-beyond : (b : Begun) (last line : ℕ) (n : ℤ) (rest : List BodyToken) → b.variables < unsigned_abs n → formula_after b last (Number line n ∷ rest) ≡ fault_in line VariableRange
completed-beyond b last line n rest above = ap (with_read (λ cs. formula_of b.variables (b.clauses ++ cs))) (beyond b.variables last line b.left b.literals n rest above)

percent_early : (v last line left : ℕ) (ls : List ℤ) (rest : List BodyToken) → 0 < left → ls ≡ [] → clauses_after v last left ls (Percent line ∷ rest) ≡ fault_in line ClauseCount
percent_early v last line zero [] rest h e = absurd (omega arith)
percent_early v last line (suc m) [] rest h e = refl
percent_early v last line left (o ∷ os) rest h e = cc

pub completed-percent_early : (b : Begun) (last line : ℕ) (rest : List BodyToken) → 0 < b.left → b.literals ≡ [] → formula_after b last (Percent line ∷ rest) ≡ fault_in line ClauseCount
completed-percent_early b last line rest h e = ap (with_read (λ cs. formula_of b.variables (b.clauses ++ cs))) (percent_early b.variables last line b.left b.literals rest h e)

pub completed-refused : (b : Begun) (last line : ℕ) (number : Option ℤ) (kind : CnfFaultKind) (rest : List BodyToken) → IsNumberUpTo b.variables number (Err kind) → IsCnfTold kind line (formula_after b last (number_at line number ∷ rest))
completed-refused b last line number NoHeader rest h = absurd h
completed-refused b last line number BadHeader rest h = absurd h
completed-refused b last line number BadNumber rest h = ap (λ o. formula_after b last (number_at line o ∷ rest)) h ∙ completed-no_number b last line rest
completed-refused b last line number VariableRange rest h = ap (λ o. formula_after b last (number_at line o ∷ rest)) h.1 ∙ completed-beyond b last line h.0 rest h.2
completed-refused b last line number ClauseCount rest h = absurd h
completed-refused b last line number Truncated rest h = absurd h
completed-refused b last line number (NoMemory e) rest h = absurd h

pub empty_from : (ls : List ℤ) → length ls ≡ 0 → ls ≡ []
empty_from [] h = refl
empty_from (l ∷ ls) h = absurd (omega arith)

-- the tokens of a line, one after the other
pub goes-true : (b : Bool) (last line : ℕ) (tokens : List (List ℕ)) (rest : List BodyToken) (old new : Begun) → b ≡ true → Goes last line tokens rest old new (Ok b) → formula_after old last (body_tokens_behind line tokens rest) ≡ Ok (formula_of new.variables new.clauses)
goes-true true last line tokens rest old new h g = g
goes-true false last line tokens rest old new h g = cc

pub goes-false : (b : Bool) (last line : ℕ) (tokens : List (List ℕ)) (rest : List BodyToken) (old new : Begun) → b ≡ false → Goes last line tokens rest old new (Ok b) → formula_after old last (body_tokens_behind line tokens rest) ≡ formula_after new last rest
goes-false true last line tokens rest old new h g = cc
goes-false false last line tokens rest old new h g = g

pub told-at : {Y : Type 0} (kind : CnfFaultKind) (line : ℕ) (read total : Result Y CnfFault) → total ≡ read → IsCnfTold kind line read → IsCnfTold kind line total
told-at {Y} kind line read total e h = let P : Result Y CnfFault → Type 0 = λ r. IsCnfTold kind line r in subst P (sym e) h

all-any : (p : ℤ → Bool) (ls : List ℤ) → list_all p ls ≡ not (list_any (λ l. not (p l)) ls)
all-any p [] = refl
all-any p (l ∷ ls) = elim (p l) as (λ b. (b && list_all p ls) ≡ not (not b || list_any (λ k. not (p k)) ls)) [ true ↦ all-any p ls | false ↦ refl ]

-- the literals of a set made of a list are those of the list
pub named : (p : ℤ → Bool) (ls : List ℤ) → list_all p ls ≡ true → list_all p (literals (from_literals ls)) ≡ true
named p ls h =
    let fails : ℤ → Bool = λ l. not (p l) in
    all-any p (literals (from_literals ls)) ∙ ap not (false_from_ne_true (list_any fails (literals (from_literals ls))) (λ some.
    let found = any_found fails (literals (from_literals ls)) some in
    let here : among found.0 ls ≡ true = sym (holds-from_literals ls found.0) ∙ holds-literals (from_literals ls) found.0 ∙ found.1 in
    let any : list_any fails ls ≡ true = any_at fails found.0 ls here found.2 in
    let none : not (list_any fails ls) ≡ true = sym (all-any p ls) ∙ h in
    let wrong : false ≡ true = sym (ap not any) ∙ none in
    cc))

pub variable-abs : (l : ℤ) → variable_of l ≡ unsigned_abs l
variable-abs (pos n) = refl
variable-abs (negsuc n) = refl

pub clauses-pushed : (v : ℕ) (cs : List LiteralSet) (ls : List ℤ) → list_all (names_up_to v) cs ≡ true → list_all (is_up_to v) ls ≡ true → list_all (names_up_to v) (cs ++ from_literals ls ∷ []) ≡ true
clauses-pushed v cs ls h k =
    let one : names_up_to v (from_literals ls) ≡ true = named (is_up_to v) ls k in
    list_all-append (names_up_to v) cs (from_literals ls ∷ []) ∙ ap (λ b. b && (names_up_to v (from_literals ls) && true)) h ∙ ap (λ b. b && true) one

ends_early : (v last left : ℕ) (ls : List ℤ) → 0 < left → ls ≡ [] → clauses_after v last left ls [] ≡ fault_in last ClauseCount
ends_early v last zero [] h e = absurd (omega arith)
ends_early v last (suc m) [] h e = refl
ends_early v last left (o ∷ os) h e = cc

pub completed-early : (b : Begun) (last : ℕ) → 0 < b.left → b.literals ≡ [] → formula_after b last [] ≡ fault_in last ClauseCount
completed-early b last h e = ap (with_read (λ cs. formula_of b.variables (b.clauses ++ cs))) (ends_early b.variables last b.left b.literals h e)

-- where a token's number is kept, so is that of the first token of the line
pub first-kept : (old now : Begun) (all left : List (List ℕ)) (token : List ℕ) (after : List (List ℕ)) → ((now ≡ old) × (left ≡ all)) ⊎ (keeps_first old all ≡ true)
    → left ≡ token ∷ after → is_literal_kept now (number_of token) ≡ true → keeps_first old all ≡ true
first-kept old now all left token after first cut kept = elim first [
  | inl same ↦ ap (λ ts. keeps_first old ts) (sym same.1 ∙ cut) ∙ ap (λ (b : Begun). is_literal_kept b (number_of token)) (sym same.0) ∙ kept
  | inr h ↦ h
]
