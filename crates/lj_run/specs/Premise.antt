-- What a run asks of what it is given.
use Rattle.std.specs.Prelude.{◌≡◌, ◌<◌, ◌≤◌, List, length, All, Option, IfSome}
use Rattle.lj_text.specs.Streams.{SourceState}
use Rattle.lj_run.specs.Proof.{SinkState}

-- These streams, the closing one among them, may be run: there are one to 1024, and no read of any has failed before.
pub record MayRunStreams {S : Type 0} (seen : S → SourceState) (streams : List S) : Type 0 where
  pub some : 0 < length streams
  pub at_most : length streams ≤ 1024
  pub unfailed : All (λ stream. (seen stream).failures ≡ 0) streams

-- They may be run on a formula whose source is in this state, with this sink of the proof or none: no read of that source has failed
-- before either, and no write of the sink.
pub record MayRun {S W : Type 0} (formula : SourceState) (seen : S → SourceState)
    (sink : W → SinkState) (streams : List S) (proof : Option W) : Type 0 where
  pub runnable : MayRunStreams seen streams
  pub formula_unfailed : formula.failures ≡ 0
  pub proof_unfailed : IfSome proof (λ w. (sink w).failures ≡ 0)
