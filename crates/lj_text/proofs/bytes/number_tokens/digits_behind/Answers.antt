use Rattle.std.proofs.Common.{ap, arith, rules}
use Rattle.lj_text.specs.Bytes.{is_blank}
use Rattle.lj_text.proofs.WordLemmas.{digits-none, digits-step, digits-end, digits-blank, length-rest}
use Rattle.lj_text.proofs.bytes.number_tokens.digits_behind.Goals as goal

pub loop-rest-init : goal.loop-rest-init
loop-rest-init c = record { read = rw c.from-value.ensures (digits-none c.args.first c.args.bytes.now c.requires); left = omega arith }

pub returns-then-byte-eq32-clause-number : goal.returns-then-byte-eq32-clause-number
returns-then-byte-eq32-clause-number c = digits-blank c.args.first c.args.bytes.now c.loop-rest.value c.loop-rest.rest.now (omega arith) (ap is_blank c.if-byte-eq32.true) c.loop-rest.invariant.read

pub returns-then-byte-eq32-clause-shorter : goal.returns-then-byte-eq32-clause-shorter
returns-then-byte-eq32-clause-shorter c = length-rest c.loop-rest.rest.now _ c.loop-rest.invariant.left

pub returns-then-is_blank-clause-number : goal.returns-then-is_blank-clause-number
returns-then-is_blank-clause-number c = digits-blank c.args.first c.args.bytes.now c.loop-rest.value c.loop-rest.rest.now (omega arith) (search rules) c.loop-rest.invariant.read

pub returns-then-is_blank-clause-shorter : goal.returns-then-is_blank-clause-shorter
returns-then-is_blank-clause-shorter c = length-rest c.loop-rest.rest.now _ c.loop-rest.invariant.left

pub loop-rest-preserved : goal.loop-rest-preserved
loop-rest-preserved c = record {
  read = digits-step c.args.first c.args.bytes.now c.loop-rest.value _ c.loop-rest.rest.now (omega arith) (search rules) (omega (arith, c.from.ensures)) (omega (arith, c.from.ensures, c.if-value-gt-MOST.false, c.if-not-is_ascii_digit.ensures.cases.1))
      c.loop-rest.invariant.read;
  left = length-rest c.loop-rest.rest.now _ c.loop-rest.invariant.left;
}

pub returns-clause-number : goal.returns-clause-number
returns-clause-number c = digits-end c.args.first c.args.bytes.now c.loop-rest.value c.loop-rest.rest.now (omega arith) c.loop-rest.invariant.read
