-- What is read of a line is right or at fault as what is read behind its first words.
use Rattle.std.proofs.Common.{◌≡◌, List, Option, Result, Ok, Err, ℤ}
use Rattle.std.specs.Prelude.{IsOk}
use Rattle.lj_text.specs.declared.lines.fault.LineFaultKind.{LineFaultKind}

-- where the rest is right so is the whole, and its fault is that of the whole
pub record Follows {X Y : Type 0} (whole : Result X LineFaultKind) (rest : Result Y LineFaultKind) : Type 0 where
  pub right : IsOk rest → IsOk whole
  pub fault : (kind : LineFaultKind) → rest ≡ Err kind → whole ≡ Err kind

-- the same of literals, with what follows their 0
pub record LiteralsFollow (whole rest : Result (List ℤ × List (Option ℤ)) LineFaultKind) : Type 0 where
  pub right : (ls : List ℤ) (after : List (Option ℤ)) → rest ≡ Ok (ls, after) → (ms : List ℤ) × (whole ≡ Ok (ms, after))
  pub fault : (kind : LineFaultKind) → rest ≡ Err kind → whole ≡ Err kind
