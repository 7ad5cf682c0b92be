-- The run of streams beside one another, on one opening.
use Rattle.std.proofs.Common.{◌≡◌, ℕ, zero, suc, ◌+◌, ◌<◌, Bool, true, false, List, [], ◌∷◌, ◌++◌, length, map, take, drop, Option, None, Some, refl, sym, ap, ◌∙◌, subst, arith, add-zero, zero-add, length-append}
use Rattle.std.specs.Prelude.{slice_get, All, IfSome, is_some, ◌==◌, ◌&&◌}
use Rattle.std.specs.Int.{from_bool}
use Rattle.std.specs.List.{zip, sum_by, list_all, AllZip}
use Rattle.std.proofs.lemmas.Bool.Decides.{nat_tests}
use Rattle.std.proofs.lemmas.List.{length-map}
use Rattle.std.proofs.lemmas.List.Sums.{sum_by-cons}
use Rattle.std.proofs.lemmas.List.Elements.{All-nil, All-head, All-tail, All-push}
use Rattle.std.proofs.lemmas.Slice.Zip.{AllZip-long, seconds-zip}
use Rattle.lj_clause.specs.ClauseMap.{FormulaValue, formula_map}
use Rattle.lj_clause.specs.Truth.{IsUnsatisfiable}
use Rattle.lj_text.specs.declared.line.Line.{Line}
use Rattle.lj_text.specs.Lines.{Said, all_said}
use Rattle.lj_text.specs.Steps.{replay, refutes}
use Rattle.lj_text.specs.Streams.{SourceState}
use Rattle.lj_book.specs.State.{live, steps_of}
use Rattle.lj_book.specs.Named.{NamedState, IsNamedReached, beneath}
use Rattle.lj_book.specs.declared.refusal.Refusal.{Refusal}
use Rattle.lj_share.specs.Refusals.{IsLineRefused}
use Rattle.lj_share.specs.Seats.{SeatValue, IsOpenedAs, AreSeatsIn, new_seat, new_seats, seat_of_book, entries_made}
use Rattle.lj_run.specs.declared.outcome.End.{End}
use Rattle.lj_run.specs.declared.outcome.End.TheVariants.{Ended, Stopped, Line as AtLine}
use Rattle.lj_run.specs.declared.outcome.LineEnd.TheVariants.{Fault, Refused, ReadFailed}
use Rattle.lj_run.specs.declared.outcome.Outcome.{Outcome}
use Rattle.lj_run.specs.declared.outcome.Report.{Report}
use Rattle.lj_run.specs.InTurn.{streams_by_seat}
use Rattle.lj_run.specs.Joint.{IsStreamBeside, RunBeside, IsUnconfirmed, IsBookOfRun, IsJointOutcome, accepted_count}
use Rattle.lj_run.specs.inner.Joint.{HasRun, is_confirmed}
use Rattle.lj_run.specs.Run.{has_verdict, StreamEnds}
use Rattle.lj_run.proofs.JointLemmas.{as_many_counted}
use Rattle.lj_run.proofs.WayLemmas.{verified_is}
use Rattle.lj_clause.specs.declared.lit.TheConstants.{MAX_VARIABLE}

-- ---- seats

-- no entry was made through new seats
pub fresh_seats : (f : FormulaValue) (n : ℕ) → All (λ (s : SeatValue). s.calls ≡ []) (new_seats f n)
fresh_seats f zero = All-nil (λ (s : SeatValue). s.calls ≡ [])
fresh_seats f (suc n) = All-push (λ (s : SeatValue). s.calls ≡ []) (new_seats f n) (new_seat f n) (fresh_seats f n) refl

pub length-new_seats : (f : FormulaValue) (n : ℕ) → length (new_seats f n) ≡ n
length-new_seats f zero = refl
length-new_seats f (suc n) = length-append (new_seats f n) (new_seat f n ∷ []) ∙ (let e = length-new_seats f n in omega arith)

-- The seats have the numbers from this one on.
abbrev pub AreNumbered : ℕ → List SeatValue → Type 0
AreNumbered k [] = Unit {0}
AreNumbered k (s ∷ ss) = (s.number ≡ k) × AreNumbered (k + 1) ss

further : (n k : ℕ) → n + suc k ≡ (n + 1) + k
further n k = omega arith

numbered_more : (k : ℕ) (ss : List SeatValue) (s : SeatValue) → AreNumbered k ss → s.number ≡ k + length ss → AreNumbered k (ss ++ s ∷ [])
numbered_more k [] s are here = (here ∙ add-zero k, tt)
numbered_more k (x ∷ xs) s are here = (are.0, numbered_more (k + 1) xs s are.1 (here ∙ further k (length xs)))

new_numbered : (f : FormulaValue) (n : ℕ) → AreNumbered 0 (new_seats f n)
new_numbered f zero = tt
new_numbered f (suc n) = numbered_more 0 (new_seats f n) (new_seat f n) (new_numbered f n) (sym (length-new_seats f n) ∙ sym (zero-add (length (new_seats f n))))

-- ---- workers

module _ {S R : Type 0} (seen : S → SourceState) (f : FormulaValue) (many max : ℕ) (seat : R → SeatValue) (report : R → Report S) where
  -- the entries of the seats are as many as the reports count
  pub entries_counted : (jobs : List (SeatValue × S)) (rs : List R) → AllZip (λ job r. HasRun seen f many max job (seat r) (report r)) jobs rs → entries_made (map seat rs) ≡ sum_by accepted_count (map report rs)
  entries_counted [] [] ran = refl
  entries_counted [] (r ∷ rs) ran = absurd ran
  entries_counted (job ∷ jobs) [] ran = absurd ran
  entries_counted (job ∷ jobs) (r ∷ rs) ran =
      let is = ran.0.0 in
      let here = as_many_counted (take is.count (all_said MAX_VARIABLE is.text)) (seat r).calls (report r).added (report r).deleted (report r).imported is.enters is.counts in
      let rest = entries_counted jobs rs ran.1 in
      omega (arith, here, rest, sum_by-cons accepted_count (report r) (map report rs))

  -- as many ran as there are streams
  pub as_many_ran : (seats : List SeatValue) (streams : List S) (rs : List R) → length seats ≡ length streams → AllZip (λ job r. HasRun seen f many max job (seat r) (report r)) (zip seats streams) rs → length (map seat rs) ≡ length streams
  as_many_ran seats streams rs same ran =
      length-map rs seat ∙ AllZip-long (λ job r. HasRun seen f many max job (seat r) (report r)) (zip seats streams) rs ran
      ∙ sym (length-map (zip seats streams) (λ job. job.1)) ∙ ap length (seconds-zip seats streams (sym same))

  -- the run of streams under these seats, on a book that has their calls
  beside_from : (final : NamedState) (k : ℕ) (seats : List SeatValue) (streams : List S) (rs : List R) → length seats ≡ length streams → AreNumbered k seats
      → AllZip (λ job r. HasRun seen f many max job (seat r) (report r)) (zip seats streams) rs → AreSeatsIn final (map seat rs) → RunBeside seen (IsLineRefused f many max) (IsUnsatisfiable f) final k streams (map report rs)
  beside_from final k [] [] [] same are ran calls = tt
  beside_from final k [] [] (r ∷ rs) same are ran calls = absurd ran
  beside_from final k [] (x ∷ xs) rs same are ran calls = cc
  beside_from final k (s ∷ ss) [] rs same are ran calls = cc
  beside_from final k (s ∷ ss) (x ∷ xs) [] same are ran calls = absurd ran
  beside_from final k (s ∷ ss) (x ∷ xs) (r ∷ rs) same are ran calls =
      let number : (seat r).number ≡ k = ran.0.1 ∙ are.0 in
      let first : seat_of_book final (seat r).number ≡ seat r = All-head (λ (t : SeatValue). seat_of_book final t.number ≡ t) (seat r) (map seat rs) calls in
      let here : seat r ≡ seat_of_book final k = sym first ∙ ap (seat_of_book final) number in
      let later = All-tail (λ (t : SeatValue). seat_of_book final t.number ≡ t) (seat r) (map seat rs) calls in
      (subst (λ s. IsStreamBeside seen (IsLineRefused f many max) (IsUnsatisfiable f) s x (report r)) here ran.0.0, beside_from final (k + 1) ss xs rs (omega (arith, same)) are.1 ran.1 later)

  -- the run of streams under new seats, by what they left
  pub beside_of : (final : NamedState) (n : ℕ) (seats : List SeatValue) (streams : List S) (rs : List R) (left : List SeatValue) (reports : List (Report S)) → seats ≡ new_seats f n → n ≡ length streams
      → AllZip (λ job r. HasRun seen f many max job (seat r) (report r)) (zip seats streams) rs → left ≡ map seat rs → reports ≡ map report rs → AreSeatsIn final left → RunBeside seen (IsLineRefused f many max) (IsUnsatisfiable f) final 0 streams reports
  beside_of final n seats streams rs left reports new long ran seats_are reports_are calls =
      subst (RunBeside seen (IsLineRefused f many max) (IsUnsatisfiable f) final 0 streams) (sym reports_are)
      (beside_from final 0 (new_seats f n) streams rs (length-new_seats f n ∙ long) (new_numbered f n) (subst (λ ss. AllZip (λ job r. HasRun seen f many max job (seat r) (report r)) (zip ss streams) rs) new ran) (subst (AreSeatsIn final) seats_are calls))

-- ---- confirmed streams

-- a test of a first one and of the others that is true
both_true : (a b : Bool) → (a && b) ≡ true → (a ≡ true) × (b ≡ true)
both_true true b all = (refl, all)
both_true false b all = cc

end_confirmed : (refuses : Line → Refusal → Type 0) (refuted goes_on : Type 0) (verdict : Bool) (rest : List Said) (end : End) → StreamEnds refuses refuted goes_on rest end → is_confirmed verdict end ≡ true → StreamEnds refuses (verdict ≡ true) goes_on rest end
end_confirmed refuses refuted goes_on verdict rest Ended e is = e
end_confirmed refuses refuted goes_on verdict rest Stopped e is = is
end_confirmed refuses refuted goes_on verdict rest (AtLine n (Fault kind)) e is = e
end_confirmed refuses refuted goes_on verdict rest (AtLine n (Refused refusal)) e is = e
end_confirmed refuses refuted goes_on verdict rest (AtLine n ReadFailed) e is = e

end_denied : (verdict : Bool) (end : End) → is_confirmed verdict end ≡ false → (end ≡ Stopped) × (verdict ≡ false)
end_denied verdict Ended is = absurd cc
end_denied verdict Stopped is = (refl, is)
end_denied verdict (AtLine n e) is = absurd cc

module _ {S : Type 0} (seen : S → SourceState) (refuses : SeatValue → Line → Refusal → Type 0) (refuted : Type 0) where
  stream_confirmed : (verdict : Bool) (seat : SeatValue) (stream : S) (report : Report S) → IsStreamBeside seen refuses refuted seat stream report → is_confirmed verdict report.end ≡ true → IsStreamBeside seen refuses (verdict ≡ true) seat stream report
  stream_confirmed verdict seat stream report r is = record {
    text = r.text;
    gave = r.gave;
    count = r.count;
    enters = r.enters;
    counts = r.counts;
    ends = end_confirmed (refuses seat) refuted (Unit {0}) verdict _ report.end r.ends is;
    kept = r.kept;
    failed_read = r.failed_read;
    no_memory_left = r.no_memory_left;
    ended = r.ended;
    failures = r.failures;
    whole = r.whole;
  }

  run_confirmed : (verdict : Bool) (final : NamedState) (k : ℕ) (streams : List S) (reports : List (Report S)) → RunBeside seen refuses refuted final k streams reports → list_all (λ (r : Report S). is_confirmed verdict r.end) reports ≡ true
      → RunBeside seen refuses (verdict ≡ true) final k streams reports
  run_confirmed verdict final k [] [] ran all = tt
  run_confirmed verdict final k [] (r ∷ rs) ran all = absurd ran
  run_confirmed verdict final k (x ∷ xs) [] ran all = absurd ran
  run_confirmed verdict final k (x ∷ xs) (r ∷ rs) ran all =
      let both = both_true (is_confirmed verdict r.end) (list_all (λ (q : Report S). is_confirmed verdict q.end) rs) all in
      (stream_confirmed verdict (seat_of_book final k) x r ran.0 both.0, run_confirmed verdict final (k + 1) xs rs ran.1 both.1)

  -- a stream that isn't confirmed, of those from this seat on
  denied_stream : (verdict : Bool) (final : NamedState) (k : ℕ) (streams : List S) (reports : List (Report S)) → RunBeside seen refuses refuted final k streams reports → list_all (λ (r : Report S). is_confirmed verdict r.end) reports ≡ false
      → (i : ℕ) × (stream : S) × (report : Report S) × (slice_get streams i ≡ Some stream) × IsStreamBeside seen refuses refuted (seat_of_book final (k + i)) stream report × (report.end ≡ Stopped) × (verdict ≡ false)
  denied_stream verdict final k [] [] ran all = absurd cc
  denied_stream verdict final k [] (r ∷ rs) ran all = absurd ran
  denied_stream verdict final k (x ∷ xs) [] ran all = absurd ran
  denied_stream verdict final k (x ∷ xs) (r ∷ rs) ran all =
      elim (is_confirmed verdict r.end) as (λ b. is_confirmed verdict r.end ≡ b → (b && list_all (λ (q : Report S). is_confirmed verdict q.end) rs) ≡ false
      → (i : ℕ) × (stream : S) × (report : Report S) × (slice_get (x ∷ xs) i ≡ Some stream) × IsStreamBeside seen refuses refuted (seat_of_book final (k + i)) stream report × (report.end ≡ Stopped) × (verdict ≡ false)) [
        | true ↦ λ is others.
            let d = denied_stream verdict final (k + 1) xs rs ran.1 others in
            (suc d.0, d.1, d.2, d.3, subst (λ n. IsStreamBeside seen refuses refuted (seat_of_book final n) d.1 d.2) (sym (further k d.0)) d.4, d.5, d.6)
        | false ↦ λ is others.
            let e = end_denied verdict r.end is in
            (0, x, r, refl, subst (λ n. IsStreamBeside seen refuses refuted (seat_of_book final n) x r) (sym (add-zero k)) ran.0, e.0, e.1)
      ] refl all

-- an opening, by other names of its parts
pub run_by : {S : Type 0} (seen : S → SourceState) (f f' : FormulaValue) (n n' m m' : ℕ) (final : NamedState) (streams : List S) (reports : List (Report S)) → f' ≡ f → n ≡ n' → m' ≡ m
    → RunBeside seen (IsLineRefused f n m) (IsUnsatisfiable f) final 0 streams reports → RunBeside seen (IsLineRefused f' n' m') (IsUnsatisfiable f') final 0 streams reports
run_by seen f f' n n' m m' final streams reports formula seats limit ran =
    subst (λ k. RunBeside seen (IsLineRefused f' n' k) (IsUnsatisfiable f') final 0 streams reports) (sym limit)
    (subst (λ k. RunBeside seen (IsLineRefused f' k m) (IsUnsatisfiable f') final 0 streams reports) seats
    (subst (λ g. RunBeside seen (IsLineRefused g n m) (IsUnsatisfiable g) final 0 streams reports) (sym formula) ran))

pub book_of_run : {S : Type 0} (seen : S → SourceState) (f : FormulaValue) (max : ℕ) (streams : List S) (reports : List (Report S)) (s : NamedState) → IsOpenedAs f (length streams) max s → IsNamedReached s → length s.history ≡ sum_by accepted_count reports
    → RunBeside seen (IsLineRefused f (length streams) max) (IsUnsatisfiable f) s 0 streams reports → list_all (λ (r : Report S). is_confirmed (has_verdict s) r.end) reports ≡ true → IsBookOfRun seen f max streams (has_verdict s) reports s
book_of_run seen f max streams reports s opened legal counted ran all = record {
  opened = opened;
  legal = legal;
  counted = counted;
  runs = run_confirmed seen (IsLineRefused f (length streams) max) (IsUnsatisfiable f) (has_verdict s) s 0 streams reports ran all;
}

pub unconfirmed : {S : Type 0} (seen : S → SourceState) (f : FormulaValue) (max : ℕ) (streams : List S) (reports : List (Report S)) (s : NamedState) → IsOpenedAs f (length streams) max s → IsNamedReached s
    → RunBeside seen (IsLineRefused f (length streams) max) (IsUnsatisfiable f) s 0 streams reports → list_all (λ (r : Report S). is_confirmed (has_verdict s) r.end) reports ≡ false → IsUnconfirmed seen f max streams
unconfirmed seen f max streams reports s opened legal ran all =
    let d = denied_stream seen (IsLineRefused f (length streams) max) (IsUnsatisfiable f) (has_verdict s) s 0 streams reports ran all in
    record {
      final = s;
      opened = opened;
      legal = legal;
      seat = d.0;
      stream = d.1;
      stream_is = d.3;
      report = d.2;
      runs = subst (λ n. IsStreamBeside seen (IsLineRefused f (length streams) max) (IsUnsatisfiable f) (seat_of_book s n) d.1 d.2) (zero-add d.0) d.4;
      stopped = d.5;
      denied = d.6;
      unsatisfiable = subst (StreamEnds (IsLineRefused f (length streams) max (seat_of_book s (0 + d.0))) (IsUnsatisfiable f) (Unit {0}) (drop d.4.count (all_said MAX_VARIABLE d.4.text))) d.5 d.4.ends;
    }

-- ---- the outcome

pub joint_outcome_is : {S : Type 0} (seen : S → SourceState) (f : FormulaValue) (max : ℕ) (streams : List S) (final : NamedState) (outcome : Outcome S)
    → IsBookOfRun seen f max streams (has_verdict final) outcome.reports.items final → outcome.steps ≡ steps_of final.history → replay (formula_map final.formula) (steps_of final.history) ≡ Some (live (beneath final))
    → is_some outcome.verified ≡ has_verdict final → is_some outcome.verified ≡ refutes final.formula (steps_of final.history) → IfSome outcome.verified (λ g. g ≡ final.formula) → IsJointOutcome seen f max streams outcome
joint_outcome_is seen f max streams final outcome book steps replayed some refuted verified =
    let same = book.opened.formula_is in
    let refuted_is : is_some outcome.verified ≡ refutes f outcome.steps = refuted ∙ ap (λ g. refutes g (steps_of final.history)) same ∙ ap (refutes f) (sym steps) in
    record {
      final = final;
      leaves = subst (λ b. IsBookOfRun seen f max streams b outcome.reports.items final) (sym some ∙ refuted_is) book;
      steps = steps;
      replayed = ap (λ g. replay (formula_map g) outcome.steps) (sym same) ∙ ap (replay (formula_map final.formula)) steps ∙ replayed;
      verified = verified_is outcome.verified f final.formula (refutes f outcome.steps) same refuted_is verified;
    }

-- ---- jobs

module _ {J A B : Type 0} (R : A → B → Type 0) (f : J → A) where
  -- what holds of each two at one place
  pub zip_each : (js : List J) (ys : List B) → length ys ≡ length js → ((i : ℕ) (j : J) (y : B) → slice_get js i ≡ Some j → slice_get ys i ≡ Some y → R (f j) y) → AllZip R (map f js) ys
  zip_each [] [] same each = tt
  zip_each [] (y ∷ ys) same each = cc
  zip_each (j ∷ js) [] same each = cc
  zip_each (j ∷ js) (y ∷ ys) same each = (each 0 j y refl refl, zip_each js ys (omega (arith, same)) (λ i k q a b. each (suc i) k q a b))

-- each of two lists with one more
pub zip_more : {K X : Type 0} (ks : List K) (xs : List X) (k : K) (x : X) → length ks ≡ length xs → zip (ks ++ k ∷ []) (xs ++ x ∷ []) ≡ zip ks xs ++ (k, x) ∷ []
zip_more [] [] k x same = refl
zip_more [] (y ∷ ys) k x same = cc
zip_more (j ∷ js) [] k x same = cc
zip_more (j ∷ js) (y ∷ ys) k x same = ap (λ zs. (j, y) ∷ zs) (zip_more js ys k x (omega (arith, same)))

-- a place where something stands is within the list
pub got_below : {X : Type 0} (xs : List X) (i : ℕ) (x : X) → slice_get xs i ≡ Some x → i < length xs
got_below [] zero x is = cc
got_below [] (suc i) x is = cc
got_below (y ∷ xs) zero x is = omega arith
got_below (y ∷ xs) (suc i) x is = let below = got_below xs i x is in omega arith

-- what holds of all seats, and of all streams, holds in all jobs
pub zipped_first : {K S : Type 0} (P : K → Type 0) (seats : List K) (streams : List S) → All P seats → All (λ (p : K × S). P p.0) (zip seats streams)
zipped_first P [] streams all k d below = absurd (omega arith)
zipped_first P (x ∷ xs) [] all k d below = absurd (omega arith)
zipped_first P (x ∷ xs) (y ∷ ys) all zero d below = all 0 x (omega arith)
zipped_first P (x ∷ xs) (y ∷ ys) all (suc k) d below = zipped_first P xs ys (All-tail P x xs all) k d (omega arith)

pub zipped_second : {K S : Type 0} (P : S → Type 0) (seats : List K) (streams : List S) → All P streams → All (λ (p : K × S). P p.1) (zip seats streams)
zipped_second P [] streams all k d below = absurd (omega arith)
zipped_second P (x ∷ xs) [] all k d below = absurd (omega arith)
zipped_second P (x ∷ xs) (y ∷ ys) all zero d below = all 0 y (omega arith)
zipped_second P (x ∷ xs) (y ∷ ys) all (suc k) d below = zipped_second P xs ys (All-tail P y ys all) k d (omega arith)

-- of two lists of one length, each with one more, what stands before is of one length
pub length_before : {X Y : Type 0} (all xs : List X) (x : X) (ys : List Y) (y : Y) → all ≡ xs ++ x ∷ [] → length all ≡ length (ys ++ y ∷ []) → length xs ≡ length ys
length_before all xs x ys y is same =
    let longer = sym (ap length is) ∙ same in
    omega (arith, longer, length-append xs (x ∷ []), length-append ys (y ∷ []))

pub no_other_test : (m n : ℕ) → m ≡ n → false ≡ (m == n) → ⊥
no_other_test m n same other = grind (arith, nat_tests)

-- an opening, by other names of its parts
pub opened_by : (f f' : FormulaValue) (n n' m m' : ℕ) (s : NamedState) → f' ≡ f → n ≡ n' → m' ≡ m → IsOpenedAs f n m s → IsOpenedAs f' n' m' s
opened_by f f' n n' m m' s formula seats limit is =
    record { formula_is = is.formula_is ∙ sym formula; seats_are = is.seats_are ∙ seats; limit_is = is.limit_is ∙ sym limit }

-- how many streams there are with the closing one
pub streams_counted : {S : Type 0} (streams : List S) (closing : Option S) (many last : ℕ) → many ≡ length streams → last ≡ from_bool (is_some closing) → many + last ≡ length (streams_by_seat streams closing)
streams_counted streams None many last len one = omega (arith, len, one)
streams_counted streams (Some x) many last len one = omega (arith, len, one, length-append streams (x ∷ []))
