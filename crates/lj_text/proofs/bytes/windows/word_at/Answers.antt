use Rattle.lj_text.proofs.WindowLemmas.{bytes-at}
use Rattle.lj_text.proofs.bytes.windows.word_at.Goals as goal

pub returns-clause-bytes : goal.returns-clause-bytes
returns-clause-bytes c = bytes-at c.args.window.now c.args.start c.type_inv.window
