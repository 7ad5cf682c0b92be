-- Groups whose candidates rise in joint numbers, so that none is repeated.
use Rattle.std.proofs.Common.{◌≡◌, ℕ, List, [], ◌∷◌, Option, Some, None, Result, Ok, Err, Bool, true, false, refl, ap, ◌∙◌, ◌≤◌, ◌<◌, arith}
use Rattle.std.specs.Prelude.{◌==◌, nat_lt, ◌||◌, if◌then◌else◌}
use Rattle.std.proofs.lemmas.Bool.Decides.{nat_tests}
use Rattle.lj_clause.specs.Rat.{HintGroup}
use Rattle.lj_book.specs.declared.refusal.Refusal.{Refusal}
use Rattle.lj_book.specs.Tables.{is_among}
use Rattle.lj_book.specs.Calls.{is_seen, with_seen, repeated_after}
use Rattle.lj_book.specs.inner.JointLines.{if_bound, joints_in, with_joint_group, joint_groups_in, rising_from}

-- all of these numbers are at most this one
abbrev pub AreUpTo : List ℕ → ℕ → Type 0
AreUpTo seen last = (q : ℕ) → is_among seen q ≡ true → q ≤ last

not_among : (seen : List ℕ) (last q : ℕ) → AreUpTo seen last → last < q → is_among seen q ≡ false
not_among seen last q upto lt = go (is_among seen q) refl
  where
    go : (b : Bool) → is_among seen q ≡ b → is_among seen q ≡ false
    go true is = absurd (let le : q ≤ last = upto q is in omega arith)
    go false is = is

one_more : (seen : List ℕ) (last j : ℕ) → AreUpTo seen last → last < j → AreUpTo (j ∷ seen) j
one_more seen last j upto lt q is = go (j == q) refl (is_among seen q) refl is
  where
    go : (b : Bool) → (j == q) ≡ b → (d : Bool) → is_among seen q ≡ d → (b || d) ≡ true → q ≤ j
    go true eq d among h = grind (arith, nat_tests)
    go false eq true among h = let le : q ≤ last = upto q among in omega arith
    go false eq false among h = cc

-- none of these groups repeats a number that rises above the last
abbrev pub NoneRepeatedBehind : (ℕ → Option ℕ) → List ℕ → ℕ → List HintGroup → Type 0
NoneRepeatedBehind joint seen last gs = (j : ℕ) (ks : List HintGroup) → last < j → joint_groups_in joint gs ≡ Ok ks → rising_from j ks ≡ true → repeated_after joint (j ∷ seen) gs ≡ None

pub none_repeated : (joint : ℕ → Option ℕ) (seen : List ℕ) (last : ℕ) (gs js : List HintGroup) → AreUpTo seen last → joint_groups_in joint gs ≡ Ok js → rising_from last js ≡ true → repeated_after joint seen gs ≡ None
none_repeated joint seen last [] js upto are rises = refl
none_repeated joint seen last (g ∷ gs) js upto are rises = at (λ j ks below later up. none_repeated joint (j ∷ seen) j gs ks (one_more seen last j upto below) later up) (joint g.candidate) refl (joints_in joint g.hints) (joint_groups_in joint gs) refl are
  where
    go : NoneRepeatedBehind joint seen last gs → (j : ℕ) (ks : List HintGroup) → joint_groups_in joint gs ≡ Ok ks → (b : Bool) → nat_lt last j ≡ b → (if b then rising_from j ks else false) ≡ true → (if is_among seen j then Some g.candidate else repeated_after joint (j ∷ seen) gs) ≡ None
    go later j ks rest true lt h =
        let below : last < j = grind (arith, nat_tests) in
        ap (λ b. if b then Some g.candidate else repeated_after joint (j ∷ seen) gs) (not_among seen last j upto below)
        ∙ later j ks below rest h
    go later j ks rest false lt h = cc

    at : NoneRepeatedBehind joint seen last gs → (o : Option ℕ) → joint g.candidate ≡ o → (hs : Result (List ℕ) Refusal) (ks : Result (List HintGroup) Refusal) → joint_groups_in joint gs ≡ ks → if_bound g.candidate o (λ j. with_joint_group j hs ks) ≡ Ok js → repeated_after joint seen (g ∷ gs) ≡ None
    at later None is hs ks rest h = cc
    at later (Some j) is (Err e) ks rest h = cc
    at later (Some j) is (Ok hints) (Err e) rest h = cc
    at later (Some j) is (Ok hints) (Ok ks) rest h =
        let made : record { candidate = j; hints = hints } ∷ ks ≡ js = cc in
        let up : (if nat_lt last j then rising_from j ks else false) ≡ true = ap (rising_from last) made ∙ rises in
        ap (λ o. if is_seen seen o then Some g.candidate else repeated_after joint (with_seen o seen) gs) is
        ∙ go later j ks rest (nat_lt last j) refl up
