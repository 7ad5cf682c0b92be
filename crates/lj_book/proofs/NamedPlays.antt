-- Commits in lists of events of seats that name their variables.
use Rattle.std.proofs.Common.{◌≡◌, refl, ℕ}
use Rattle.lj_hint.specs.Receipt.{ReceiptValue}
use Rattle.lj_book.specs.declared.event.Reply.TheVariants as replies
use Rattle.lj_book.specs.declared.event.Pending.{Pending}
use Rattle.lj_book.specs.declared.event.Pending.TheVariants as pendings
use Rattle.lj_book.specs.NamedWorlds.{NamedWorld, IsNamedCommitOf}

pub named_no_receipt : (p : Pending) (w after : NamedWorld) (seat : ℕ) → ((r : ReceiptValue) → p ≡ pendings.Receipt r → ⊥) → after ≡ w → IsNamedCommitOf p w seat replies.Nothing after
named_no_receipt pendings.Nothing w after seat none same = (refl, same)
named_no_receipt (pendings.Case c) w after seat none same = (refl, same)
named_no_receipt (pendings.Receipt r) w after seat none same = absurd (none r refl)
