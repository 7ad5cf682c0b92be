-- What calls in a row left of the texts that they had to write.
use Rattle.std.proofs.Common.{◌≡◌, ℕ, ◌<◌, suc, List, [], ◌∷◌, ◌++◌, length, get_or, take, drop, refl, sym, ap, ◌∙◌, append_assoc, append-nil}
use Rattle.std.specs.Prelude.{Result, Ok, Err, OnOk, OnErr}
use Rattle.std.proofs.Math.Seq.{drop-cons}
use Rattle.std.proofs.lemmas.List.{take-append-drop}
use Rattle.lj_text.specs.Writing.{IsBeginning}
use Rattle.lj_text.specs.inner.Writing.{Wrote, Broke}

pub beginning-self : (xs : List ℕ) → IsBeginning xs xs
beginning-self xs = ([], sym (append-nil xs))

pub beginning-trans : (xs ys zs : List ℕ) → IsBeginning xs ys → IsBeginning ys zs → IsBeginning xs zs
beginning-trans xs ys zs (r, e) (s, f) = (r ++ s, f ∙ ap (λ t. t ++ s) e ∙ append_assoc xs r s)

-- nothing was to be written
pub wrote_none : (taken buffer : List ℕ) → Wrote taken buffer taken buffer []
wrote_none taken buffer = record { whole = sym (append-nil (taken ++ buffer)); onward = beginning-self taken }

pub wrote_then : (t0 h0 t1 h1 t2 h2 x y : List ℕ) → Wrote t0 h0 t1 h1 x → Wrote t1 h1 t2 h2 y → Wrote t0 h0 t2 h2 (x ++ y)
wrote_then t0 h0 t1 h1 t2 h2 x y w v = record {
  whole = v.whole ∙ ap (λ t. t ++ y) w.whole ∙ append_assoc (t0 ++ h0) x y;
  onward = beginning-trans t0 t1 t2 w.onward v.onward;
}

pub broke_then : (t0 h0 t1 h1 t2 x y : List ℕ) → Wrote t0 h0 t1 h1 x → Broke t1 h1 t2 y → Broke t0 h0 t2 (x ++ y)
broke_then t0 h0 t1 h1 t2 x y w b = record {
  cut_short = (b.cut_short.0, b.cut_short.1, sym (ap (λ t. t ++ y) w.whole ∙ append_assoc (t0 ++ h0) x y) ∙ b.cut_short.2);
  onward = beginning-trans t0 t1 t2 w.onward b.onward;
}

-- and more was to be written behind it
pub broke_more : (t0 h0 t1 x y : List ℕ) → Broke t0 h0 t1 x → Broke t0 h0 t1 (x ++ y)
broke_more t0 h0 t1 x y b = record {
  cut_short = (b.cut_short.0, b.cut_short.1 ++ y, sym (append_assoc (t0 ++ h0) x y) ∙ ap (λ t. t ++ y) b.cut_short.2 ∙ append_assoc t1 (b.cut_short.0 ∷ b.cut_short.1) y);
  onward = b.onward;
}

-- only the first of what was held were taken
pub broke_flushed : (t0 h0 t1 : List ℕ) (n : ℕ) → n < length h0 → t1 ≡ t0 ++ take n h0 → Broke t0 h0 t1 []
broke_flushed t0 h0 t1 n lt e = record {
  cut_short = (get_or h0 n 0, drop (suc n) h0, append-nil (t0 ++ h0) ∙ ap (λ t. t0 ++ t) (sym (take-append-drop n h0) ∙ ap (λ t. take n h0 ++ t) (drop-cons h0 n 0 lt)) ∙ sym (append_assoc t0 (take n h0) (get_or h0 n 0 ∷ drop (suc n) h0)) ∙ ap (λ t. t ++ get_or h0 n 0 ∷ drop (suc n) h0) (sym e));
  onward = (take n h0, e);
}

-- what holds of an error, where it holds anyway
pub on_err : {A E : Type 0} (r : Result A E) (P : Type 0) → P → OnErr r P
on_err (Ok x) P p = tt
on_err (Err e) P p = p

pub on_err_map : {A E : Type 0} (r : Result A E) {P Q : Type 0} → (P → Q) → OnErr r P → OnErr r Q
on_err_map (Ok x) f p = tt
on_err_map (Err e) f p = f p

pub on_ok_map : {A E : Type 0} (r : Result A E) {P Q : Type 0} → (P → Q) → OnOk r P → OnOk r Q
on_ok_map (Ok x) f p = f p
on_ok_map (Err e) f p = tt
