use Rattle.std.proofs.Common.{◌≡◌, ◌-◌, ◌≤◌, ◌++◌, length, take}
use Rattle.std.specs.Io.KnownBytes.{Appends}
use Rattle.lj_text.proofs.sink.write_all.Given as goal

-- the sink took what is done, and has not failed
abbrev pub invariant-loop-done : goal.invariant-loop-done
invariant-loop-done g l =
    let taken = g.S.Sink.taken in
    let contents = g.S.Sink.contents in
    let failures = g.S.Sink.failures in
    record {
      within : l.done ≤ length l.bytes;
      taken_is : taken l.sink ≡ taken l.fn.sink ++ take l.done l.bytes;
      appended : Appends (contents l.fn.sink) (contents l.sink) (take l.done l.bytes);
      unfailed : failures l.sink ≡ failures l.fn.sink;
    }

abbrev pub decreases-loop-done : goal.decreases-loop-done
decreases-loop-done g l = length l.bytes - l.done
