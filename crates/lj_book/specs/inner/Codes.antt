-- How a proof stores steps, entries, tables and states.
use Rattle.std.specs.Prelude.{◌≡◌, ℕ, ℤ, List, Option, ◌⊎◌, refl}
use Rattle.std.proofs.Common.{inl, inr}
use base.Stored.{coded_unit}
use Rattle.std.specs.Coded.{Coded, code_by, coded×, coded⊎, coded_list, coded_option, coded_ℕ, coded_ℤ}
use Rattle.lj_clause.specs.LiteralSet.{LiteralSet}
use Rattle.lj_clause.specs.inner.Codes.{literal_set_code, lemma_code, hint_group_code, formula_code, clause_map_code}
use Rattle.lj_clause.specs.Lemma.{LemmaValue}
use Rattle.lj_clause.specs.Rat.{HintGroup}
use Rattle.lj_text.specs.declared.line.Addition.{Addition}
use Rattle.lj_text.specs.declared.step.Step.{Step}
use Rattle.lj_text.specs.declared.step.Step.TheVariants as steps
use Rattle.lj_book.specs.declared.entry.Call.{Call}
use Rattle.lj_book.specs.declared.entry.Call.TheVariants as calls
use Rattle.lj_book.specs.declared.entry.Entry.{Entry}
use Rattle.std.specs.FinMap as fin
use Rattle.lj_book.specs.Tables.{Tables}
use Rattle.lj_clause.specs.ClauseMap.{ClauseMap, FormulaValue}
use Rattle.lj_book.specs.State.{State}
use Rattle.lj_clause.specs.Renaming.{Renaming}
use Rattle.lj_book.specs.Named.{NamedState}
use Rattle.lj_book.specs.inner.Records.{Entries}
use Rattle.lj_book.specs.inner.Ranges.{Recorded}

abbrev pub addition_code : Coded Addition
addition_code = code_by (ℕ × (LemmaValue × (List ℕ × List HintGroup)))
    (coded× coded_ℕ (coded× lemma_code (coded× (coded_list coded_ℕ) (coded_list hint_group_code))))
    (λ a. (a.number, (a.lemma, (a.hints, a.groups))))
    (λ p. record { number = p.0; lemma = p.1.0; hints = p.1.1.0; groups = p.1.1.1 }) (λ _. refl)

abbrev pub step_parts : Step → Addition ⊎ List ℕ
step_parts (steps.Add a) = inl a
step_parts (steps.Delete numbers) = inr numbers

abbrev pub step_from : Addition ⊎ List ℕ → Step
step_from (inl a) = steps.Add a
step_from (inr numbers) = steps.Delete numbers

abbrev pub step_back : (s : Step) → step_from (step_parts s) ≡ s
step_back (steps.Add a) = refl
step_back (steps.Delete numbers) = refl

abbrev pub step_code : Coded Step
step_code = code_by (Addition ⊎ List ℕ) (coded⊎ addition_code (coded_list coded_ℕ)) step_parts
    step_from step_back

-- the parts of a call, where each variant has its place
abbrev pub CallParts : Type 0
CallParts = (ℕ × LemmaValue) ⊎ (List ℕ ⊎ ((ℕ × ℕ) ⊎ ((ℕ × LiteralSet) ⊎ Unit {0})))

abbrev pub call_parts : Call → CallParts
call_parts (calls.Add own lemma) = inl (own, lemma)
call_parts (calls.Drop numbers) = inr (inl numbers)
call_parts (calls.Adopt own joint) = inr (inr (inl (own, joint)))
call_parts (calls.Import own clause) = inr (inr (inr (inl (own, clause))))
call_parts calls.Leave = inr (inr (inr (inr tt)))

abbrev pub call_from : CallParts → Call
call_from (inl p) = calls.Add p.0 p.1
call_from (inr (inl numbers)) = calls.Drop numbers
call_from (inr (inr (inl p))) = calls.Adopt p.0 p.1
call_from (inr (inr (inr (inl p)))) = calls.Import p.0 p.1
call_from (inr (inr (inr (inr _)))) = calls.Leave

abbrev pub call_back : (c : Call) → call_from (call_parts c) ≡ c
call_back (calls.Add own lemma) = refl
call_back (calls.Drop numbers) = refl
call_back (calls.Adopt own joint) = refl
call_back (calls.Import own clause) = refl
call_back calls.Leave = refl

abbrev pub call_code : Coded Call
call_code =
    code_by CallParts
    (coded⊎ (coded× coded_ℕ lemma_code) (coded⊎ (coded_list coded_ℕ)
    (coded⊎ (coded× coded_ℕ coded_ℕ) (coded⊎ (coded× coded_ℕ literal_set_code) coded_unit))))
    call_parts call_from call_back

abbrev pub entry_code : Coded Entry
entry_code = code_by (ℕ × (Call × Option Step))
    (coded× coded_ℕ (coded× call_code (coded_option step_code))) (λ e. (e.seat, (e.call, e.step)))
    (λ p. record { seat = p.0; call = p.1.0; step = p.1.1 }) (λ _. refl)

-- how a proof stores them
abbrev pub tables_code : Coded Tables
tables_code = coded_list (coded_option (fin.code coded_ℕ coded_ℕ))

-- how a proof stores one
abbrev pub state_code : Coded State
state_code = code_by (FormulaValue × (ℕ × (Tables × List Entry)))
    (coded× formula_code (coded× coded_ℕ (coded× tables_code (coded_list entry_code))))
    (λ s. (s.formula, (s.max_steps, (s.tables, s.history))))
    (λ p. record { formula = p.0; max_steps = p.1.0; tables = p.1.1.0; history = p.1.1.1 })
    (λ _. refl)

-- how a proof stores one whose seats name variables as they like
abbrev pub named_state_code : Coded NamedState
named_state_code =
    code_by (FormulaValue × (ℕ × (Tables × (List Entry × (List Renaming × ℕ)))))
    (coded× formula_code (coded× coded_ℕ (coded× tables_code (coded× (coded_list entry_code)
    (coded× (coded_list (fin.code coded_ℕ coded_ℕ)) coded_ℕ)))))
    (λ s. (s.formula, (s.max_steps, (s.tables, (s.history, (s.variables.of_seats, s.variables.next))))))
    (λ p. record {
      formula = p.0;
      max_steps = p.1.0;
      tables = p.1.1.0;
      history = p.1.1.1.0;
      variables = record { of_seats = p.1.1.1.1.0; next = p.1.1.1.1.1 };
    }) (λ _. refl)

abbrev pub entries_code : Coded Entries
entries_code = code_by (List Entry × (List ℤ × (ℕ × (ℕ × ℕ))))
    (coded× (coded_list entry_code) (coded× (coded_list coded_ℤ) (coded× coded_ℕ (coded× coded_ℕ coded_ℕ))))
    (λ h. (h.entries, (h.lits, (h.encoding_capacity, (h.lit_capacity, h.entry_capacity)))))
    (λ p. record {
      entries = p.0;
      lits = p.1.0;
      encoding_capacity = p.1.1.0;
      lit_capacity = p.1.1.1.0;
      entry_capacity = p.1.1.1.1;
    })
    (λ _. refl)

abbrev pub recorded_code : Coded Recorded
recorded_code = code_by (Entries × ClauseMap) (coded× entries_code clause_map_code)
    (λ r. (r.history, r.live)) (λ p. record { history = p.0; live = p.1 }) (λ _. refl)
