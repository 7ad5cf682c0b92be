use Rattle.lj_book.proofs.PrivateReplies.{private_replies}
use Rattle.lj_book.proofs.OtherViews.{others_leave_views}
use Rattle.lj_book.proofs.private_laws.private_replies_are_alone.Goals as goal

pub returns-clause-private : goal.returns-clause-private
returns-clause-private c = private_replies

pub returns-clause-others : goal.returns-clause-others
returns-clause-others c = others_leave_views
