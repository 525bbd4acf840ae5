-- Past a line comment. Assumes nothing.
use Rattle.arriving.proofs.LeapsRunLaws.{comment_skips}
use Rattle.arriving.proofs.leaps.line_comment.Goals as goal

pub returns-in-10 : goal.returns-in-10
returns-in-10 c = λ ks. comment_skips _ _ ks _ _ c.requires.0.within c.requires.1 c.run_end-end.ensures
    c.if-end-part.false c.in-10.is c.passed.ensures
