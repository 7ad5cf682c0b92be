use Rattle.std.proofs.Common.{◌≡◌, take}
use Rattle.lj_book.specs.Variables.{renaming_of}
use Rattle.lj_book.specs.inner.Limits.{known_images, led_by}
use Rattle.lj_book.proofs.joint_forms.known_lits.Given as goal

abbrev pub invariant-loop-lit : goal.invariant-loop-lit
invariant-loop-lit l = l.lits.items ≡ known_images l.variables.top (renaming_of l.variables.variables l.seat) (led_by l.lemma.pivot (take l.lit-index l.lit-items))
