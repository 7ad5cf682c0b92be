use Rattle.std.proofs.Common.{rules, ◌≡◌, ℕ, ◌+◌, ◌-◌, List, ◌++◌, length, take, drop, subst, ap, sym, ◌∙◌, append_assoc}
use Rattle.std.proofs.Math.Seq.{take-add}
use Rattle.std.proofs.lemmas.List.{take_rest}
use Rattle.std.specs.Io.KnownBytes.{Appends}
use Rattle.std.proofs.KnownBytes.{Appends-trans}
use Rattle.lj_text.proofs.sink.write_all.Goals as goal

-- the first n and the first m of what follows them
take_further : (n m : ℕ) (xs : List ℕ) → take n xs ++ take m (take (length xs - n) (drop n xs)) ≡ take (n + m) xs
take_further n m xs = ap (λ rest. take n xs ++ take m rest) (take_rest xs n) ∙ sym (take-add n m xs)

-- what was taken grew by the first n, and then by the first m of what follows them
taken_further : (old mid new : List ℕ) (n m : ℕ) (xs : List ℕ) → mid ≡ old ++ take n xs → new ≡ mid ++ take m (take (length xs - n) (drop n xs)) → new ≡ old ++ take (n + m) xs
taken_further old mid new n m xs first second = second ∙ ap (λ ys. ys ++ take m (take (length xs - n) (drop n xs))) first
    ∙ append_assoc old (take n xs) (take m (take (length xs - n) (drop n xs))) ∙ ap (λ ys. old ++ ys) (take_further n m xs)

pub loop-done-preserved : goal.loop-done-preserved
loop-done-preserved g c =
    record {
      within = search rules;
      taken_is = taken_further (g.S.Sink.taken c.args.sink.now) (g.S.Sink.taken c.loop-done.sink) _ c.loop-done.done c.in_ok-done.field-0 c.args.bytes.now
          c.loop-done.invariant.taken_is c.in_ok-done.ensures.taken;
      appended = subst (Appends _ _) (take_further c.loop-done.done c.in_ok-done.field-0 c.args.bytes.now)
          (Appends-trans _ _ _ _ _ c.loop-done.invariant.appended c.in_ok-done.ensures.contents);
      unfailed = search rules;
    }
