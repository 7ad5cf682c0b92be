use Rattle.std.proofs.Common.{◌≡◌, ◌<◌, ◌≤◌, List, ℕ, ◌∷◌, length, drop, refl, sym, ap, arith}
use Rattle.lj_text.proofs.RunLemmas.{first-run, let-more}
use Rattle.lj_text.proofs.lines.runs.let_go.Goals as goal

pub loop-run-preserved-else-left-size : goal.loop-run-preserved-else-left-size
loop-run-preserved-else-left-size c =
    let l = c.loop-run in
    let run : List ℕ = c.in-Some.run'.now in
    let some : 0 < l.runs.len = c.in-Some.ensures.variant.0 refl in
    let is : l.runs.items ≡ run ∷ drop 1 l.runs.items = first-run l.runs.items run run (omega (arith, some, l.runs.ok.0)) (sym c.in-Some.ensures.lookup) in
    let le : length run ≤ l.left = omega (arith, c.if-left-size.false, ap length c.bytes.ensures) in
    rw (c.bytes.ensures, c.pop_front.ensures.rest) (let-more c.args.runs.now.items l.runs.items run (drop 1 l.runs.items) c.args.position l.left l.invariant is le)
