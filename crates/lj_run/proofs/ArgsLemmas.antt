-- How words are read.
use Rattle.std.proofs.Common.{◌≡◌, ◌≢◌, ◌||◌, ◌<◌, ◌^◌, ℕ, List, [], ◌∷◌, Bool, true, false, Option, Some, None, refl, sym, ap, ap₂, ◌∙◌, subst, rules, arith, length, map, nat_eq, nat_lt, lt-ltb, ltb-true, slice_index, codes, Result, Ok, Err, IfOk}
use Rattle.std.specs.Prelude.{option_map, unwrap_or}
use Rattle.std.specs.Borrow.{Bor}
use Rattle.std.specs.List.{list_all, list_any, starts_with}
use Rattle.std.specs.Cmp.Lexicographic.{pointwise}
use Rattle.std.specs.Option.{option_eq}
use Rattle.std.specs.Str.{bytes_eq}
use Rattle.std.specs.Char.{is_ascii_digit}
use Rattle.std.specs.Result.{OkIff, result_ok}
use Rattle.std.specs.Str.Parse.{ParsesUnsigned}
use Rattle.std.proofs.Math.Bool.{and-true}
use Rattle.std.proofs.lemmas.Bool.{eqb-true}
use Rattle.std.proofs.lemmas.Str.Parse.{IsNumeralModel, numerals_by_weight, parse_plain}
use Rattle.clap.specs.Built.{AddsArg}
use Rattle.clap.specs.Matches.{found_of, first_value, matched_of, raw_values}
use Rattle.clap.specs.declared.builder.arg.Arg.{Arg}
use Rattle.clap.specs.declared.builder.command.Command.{Command}
use Rattle.clap.specs.declared.parser.matches.ArgMatches.{ArgMatches}
use Rattle.clap.specs.declared.parser.matches.Found.{Found}
use Rattle.clap.specs.declared.error.Error.{Error}
use Rattle.clap.specs.Faults.{fault_of, is_simple_and_free}
use Rattle.clap.specs.Kinds.{FailsBy}
use Rattle.clap.specs.Simple.{App, app_of, HasMatchesOf, is_simple, matches_of, with_rule}
use Rattle.clap.specs.Walk.{Rule, all_of, first_of, rows_of}
use Rattle.clap.proofs.WalkLemmas.{first_value-rows, raw_values-rows}
use Rattle.lj_text.specs.Bytes.{decimal_value}
use Rattle.lj_run.specs.CommandLine.{Asked, a_run, asked_by_rows, is_given, is_run_of, limit_of, program_app, run_asked, run_by_rows, steps_of_value, the_usage, way_of, with_explain, with_progress, with_proof}
use Rattle.lj_run.specs.declared.misuse.Misuse.TheVariants.{NoFormula, NoLimit, TooManyProofs}
use Rattle.lj_run.specs.declared.outcome.Way.{Way}
use Rattle.lj_run.specs.inner.CommandLine.{HasRule}

-- ---- the command line

-- a command with one argument more
pub with_argument : (c d : Command) (a : Arg) (app : App) (rule : Rule) → app_of c ≡ app → HasRule rule a → AddsArg c a d → app_of d ≡ with_rule app rule
with_argument c d a app rule is has added = added.shape has.0 ∙ ap₂ with_rule is has.1

program_is_simple : is_simple program_app ≡ true
program_is_simple = refl

program_is_free : is_simple_and_free program_app ≡ true
program_is_free = refl

-- what is found is what the words give
pub rows_are : (a : App) (words : List (List ℕ)) (r : Result ArgMatches Error) → a ≡ program_app → IfOk r (HasMatchesOf a words)
    → IfOk r (λ m. rows_of (found_of m) ≡ matches_of program_app words)
rows_are a words (Ok m) e h = (h (ap is_simple e ∙ program_is_simple)).0 ∙ ap (λ b. matches_of b words) e
rows_are a words (Err error) e h = h

-- words are wrong by the first fault that is found in them
pub fails_by : {T : Type 0} (a : App) (words : List (List ℕ)) (r : Result T Error) → a ≡ program_app
    → (is_simple_and_free a ≡ true → FailsBy (fault_of a words) r) → FailsBy (fault_of program_app words) r
fails_by a words r e h = subst (λ b. FailsBy (fault_of b words) r) e (h (ap is_simple_and_free e ∙ program_is_free))

-- ---- paths

-- whether a path is one of these
pub among_paths : (paths : List (Bor (List ℕ))) (path : List ℕ) → list_any (λ p. pointwise nat_eq p.now path) paths ≡ list_any (λ p. bytes_eq p path) (map (λ p. p.now) paths)
among_paths [] path = refl
among_paths (p ∷ paths) path = ap (λ b. pointwise nat_eq p.now path || b) (among_paths paths path)

-- whether a path that there may be is this one
pub is_path : (o : Option (Bor (List ℕ))) (path : Bor (List ℕ)) → option_eq (λ x y. pointwise nat_eq x.now y.now) o (Some path) ≡ option_eq bytes_eq (option_map (λ p. p.now) o) (Some path.now)
is_path None path = refl
is_path (Some p) path = refl

-- the paths of a run by three tests, one after the other
pub is_first : (a x : Bool) → a ≡ true → true ≡ (a || x)
is_first a x e = rw e refl

pub is_second : (a b x : Bool) → b ≡ true → true ≡ (a || (b || x))
is_second true b x e = refl
is_second false b x e = rw e refl

pub is_third : (a b x : Bool) → a ≡ false → b ≡ false → x ≡ (a || (b || x))
is_third a b x e f = rw (e, f) refl

-- ---- what is asked for

-- what values ask for without a FORMULA, for too many streams, and for a limit that is none
pub without_formula : (formula : Option (List ℕ)) (proofs : List (List ℕ)) (closing steps : Option (List ℕ)) (way : Way) → formula ≡ None → the_usage NoFormula ≡ run_asked formula proofs closing steps way
without_formula None proofs closing steps way e = refl
without_formula (Some formula) proofs closing steps way e = cc

pub too_many : (formula : Option (List ℕ)) (path : List ℕ) (proofs : List (List ℕ)) (closing steps : Option (List ℕ)) (way : Way) → formula ≡ Some path → is_run_of proofs ≡ false
    → the_usage TooManyProofs ≡ run_asked formula proofs closing steps way
too_many None path proofs closing steps way is e = cc
too_many (Some formula) path proofs closing steps way is e = rw e refl

pub without_limit : (formula : Option (List ℕ)) (path : List ℕ) (proofs : List (List ℕ)) (closing steps : Option (List ℕ)) (way : Way) → formula ≡ Some path → is_run_of proofs ≡ true
    → steps_of_value steps ≡ None → the_usage NoLimit ≡ run_asked formula proofs closing steps way
without_limit None path proofs closing steps way is t e = cc
without_limit (Some formula) path proofs closing steps way is t e = rw (t, e) refl

asks_run : (formula : List ℕ) (proofs : List (List ℕ)) (closing steps : Option (List ℕ)) (limit : ℕ) (way : Way) → is_run_of proofs ≡ true → steps_of_value steps ≡ Some limit
    → a_run (record { formula = formula; proofs = proofs; closing = closing; max_steps = limit; way = way; proof = None; trims = false; explains = false; tells_progress = false }) ≡ run_asked (Some formula) proofs closing steps way
asks_run formula proofs closing steps limit way t e = rw (t, e) refl

-- and what they ask for else
pub asks_given : (formula : Option (Bor (List ℕ))) (path : Bor (List ℕ)) (proofs items : List (Bor (List ℕ))) (closing steps : Option (Bor (List ℕ))) (limit : ℕ) (way : Way)
    → formula ≡ Some path → items ≡ proofs → is_run_of (map (λ p. p.now) proofs) ≡ true → steps_of_value (option_map (λ p. p.now) steps) ≡ Some limit
    → a_run (record { formula = path.now; proofs = map (λ p. p.now) items; closing = option_map (λ p. p.now) closing; max_steps = limit; way = way; proof = None; trims = false; explains = false; tells_progress = false })
    ≡ run_asked (option_map (λ p. p.now) formula) (map (λ p. p.now) proofs) (option_map (λ p. p.now) closing) (option_map (λ p. p.now) steps) way
asks_given formula path proofs items closing steps limit way is same t e =
    rw (is, same) (asks_run path.now (map (λ p. p.now) proofs) (option_map (λ p. p.now) closing) (option_map (λ p. p.now) steps) limit way t e)

-- the values of an argument, which may have none
pub values_are : (f : Found) (id : List ℕ) (o : Option (Bor (List (Bor (List ℕ))))) (none : Bor (List (Bor (List ℕ)))) → none.now ≡ []
    → option_map (λ s. map (λ v. v.now) s.now) o ≡ option_map raw_values (matched_of f id)
    → map (λ v. v.now) (unwrap_or o none).now ≡ unwrap_or (all_of id (rows_of f)) []
values_are f id o none empty h = go o ∙ ap (λ values. unwrap_or values []) (h ∙ raw_values-rows f id)
  where
    go : (p : Option (Bor (List (Bor (List ℕ))))) → map (λ v. v.now) (unwrap_or p none).now ≡ unwrap_or (option_map (λ s. map (λ v. v.now) s.now) p) []
    go None = ap (map (λ v. v.now)) empty
    go (Some s) = refl

-- a flag is given whose value is true
pub flag_is : (f : Found) (id : List ℕ) (o : Option (Bor (List ℕ))) (value : Bor (List ℕ)) → option_map (λ v. v.now) o ≡ first_value f id → value.now ≡ codes "true"
    → option_eq (λ x y. pointwise nat_eq x.now y.now) o (Some value) ≡ is_given id (rows_of f)
flag_is f id o value is true_word = is_path o value ∙ ap₂ (λ a b. option_eq bytes_eq a (Some b)) (is ∙ first_value-rows f id) true_word

-- what is found asks for these values with this proof
asks_with_proof : (f : Found) (asked request : Asked) (proof : Option (List ℕ)) (trims : Bool) → request ≡ run_by_rows (rows_of f) → proof ≡ first_value f (codes "proof")
    → trims ≡ is_given (codes "trim") (rows_of f) → asked ≡ with_proof request proof trims
    → asked ≡ with_proof (run_by_rows (rows_of f)) (first_of (codes "proof") (rows_of f)) (is_given (codes "trim") (rows_of f))
asks_with_proof f asked request proof trims is_request is_proof is_trim h =
    h ∙ ap₂ (λ a b. with_proof a b trims) is_request (is_proof ∙ first_value-rows f (codes "proof"))
    ∙ ap (with_proof (run_by_rows (rows_of f)) (first_of (codes "proof") (rows_of f))) is_trim

-- with this of explaining
asks_explained : (f : Found) (asked made request : Asked) (proof : Option (List ℕ)) (trims explains : Bool) → request ≡ run_by_rows (rows_of f) → proof ≡ first_value f (codes "proof")
    → trims ≡ is_given (codes "trim") (rows_of f) → explains ≡ is_given (codes "explain") (rows_of f) → made ≡ with_proof request proof trims → asked ≡ with_explain made explains
    → asked ≡ with_explain (with_proof (run_by_rows (rows_of f)) (first_of (codes "proof") (rows_of f)) (is_given (codes "trim") (rows_of f))) (is_given (codes "explain") (rows_of f))
asks_explained f asked made request proof trims explains is_request is_proof is_trim is_explain is_made h =
    h ∙ ap₂ with_explain (asks_with_proof f made request proof trims is_request is_proof is_trim is_made) is_explain

-- and so asks for what the words give, with this of progress
pub asks_told : (f : Found) (asked told made request : Asked) (proof : Option (List ℕ)) (trims explains tells_progress : Bool) → request ≡ run_by_rows (rows_of f) → proof ≡ first_value f (codes "proof")
    → trims ≡ is_given (codes "trim") (rows_of f) → explains ≡ is_given (codes "explain") (rows_of f) → made ≡ with_proof request proof trims → told ≡ with_explain made explains
    → tells_progress ≡ is_given (codes "progress") (rows_of f) → asked ≡ with_progress told tells_progress → asked ≡ asked_by_rows (rows_of f)
asks_told f asked told made request proof trims explains tells_progress is_request is_proof is_trim is_explain is_made is_told is_progress h =
    h ∙ ap₂ with_progress (asks_explained f told made request proof trims explains is_request is_proof is_trim is_explain is_made is_told) is_progress

-- what is found asks for what these values ask for, but for the proof
pub asks_found : (f : Found) (formula closing steps : Option (List ℕ)) (proofs : List (List ℕ)) (way : Way) → formula ≡ first_value f (codes "FORMULA")
    → proofs ≡ unwrap_or (all_of (codes "PROOF") (rows_of f)) [] → closing ≡ first_value f (codes "close") → steps ≡ first_value f (codes "max-steps")
    → way ≡ way_of (is_given (codes "in-turn") (rows_of f)) (length (unwrap_or (all_of (codes "PROOF") (rows_of f)) [])) → run_asked formula proofs closing steps way ≡ run_by_rows (rows_of f)
asks_found f formula closing steps proofs way is_formula are_proofs is_closing is_steps is_way =
    ap₂ (λ a b. run_asked a b closing steps way) (is_formula ∙ first_value-rows f (codes "FORMULA")) are_proofs
    ∙ ap₂ (λ a b. run_asked (first_of (codes "FORMULA") (rows_of f)) (unwrap_or (all_of (codes "PROOF") (rows_of f)) []) a b way)
    (is_closing ∙ first_value-rows f (codes "close")) (is_steps ∙ first_value-rows f (codes "max-steps"))
    ∙ ap (run_asked (first_of (codes "FORMULA") (rows_of f)) (unwrap_or (all_of (codes "PROOF") (rows_of f)) []) (first_of (codes "close") (rows_of f)) (first_of (codes "max-steps") (rows_of f))) is_way

-- ---- limits

digits_are : IsNumeralModel (λ ds. list_all is_ascii_digit ds ≡ true) decimal_value
digits_are = numerals_by_weight _ (search rules) decimal_value (search rules)

-- a text that begins with a plus has no limit
pub signed_is_none : (text : List ℕ) → starts_with nat_eq text (43 ∷ []) ≡ true → None ≡ limit_of text
signed_is_none [] e = refl
signed_is_none (b ∷ bs) e =
    let plus : 43 ≡ b = eqb-true 43 b (sym (and-true (nat_eq 43 b)) ∙ e) in
    subst (λ x. None ≡ limit_of (x ∷ bs)) plus refl

-- the limit of a text that doesn't
limit_from : {E : Type 0} (text : List ℕ) (r : Result ℕ E)
    → OkIff r ((list_all is_ascii_digit text ≡ true) × (0 < length text) × (decimal_value text < 2 ^ 32)) (decimal_value text) → result_ok r ≡ limit_of text
limit_from [] (Ok n) h = absurd (omega (arith, h.0.1))
limit_from [] (Err e) h = refl
limit_from (b ∷ bs) (Ok n) h = rw (h.0.0, lt-ltb (decimal_value (b ∷ bs)) (2 ^ 32) h.0.2, h.1) refl
limit_from (b ∷ bs) (Err e) h = go (list_all is_ascii_digit (b ∷ bs)) (nat_lt (decimal_value (b ∷ bs)) (2 ^ 32)) refl refl
  where
    go : (t u : Bool) → list_all is_ascii_digit (b ∷ bs) ≡ t → nat_lt (decimal_value (b ∷ bs)) (2 ^ 32) ≡ u → None ≡ limit_of (b ∷ bs)
    go false u is_t is_u = rw is_t refl
    go true false is_t is_u = rw (is_t, is_u) refl
    go true true is_t is_u = absurd (h (is_t, omega arith, ltb-true _ _ is_u))

-- what is parsed without a plus is the limit
pub parsed_is_limit : {E : Type 0} (text : List ℕ) (r : Result ℕ E) → starts_with nat_eq text (43 ∷ []) ≡ false → ParsesUnsigned 32 10 text r → result_ok r ≡ limit_of text
parsed_is_limit text r e h = limit_from text r (parse_plain digits_are 32 text r h (without_plus text e))
  where
    without_plus : (bs : List ℕ) → starts_with nat_eq bs (43 ∷ []) ≡ false → slice_index bs 0 ≢ 43
    without_plus [] none = λ plus. absurd (omega (arith, plus))
    without_plus (b ∷ bs) none = λ plus. let bad : starts_with nat_eq (43 ∷ bs) (43 ∷ []) ≡ false = subst (λ x. starts_with nat_eq (x ∷ bs) (43 ∷ []) ≡ false) plus none in cc
