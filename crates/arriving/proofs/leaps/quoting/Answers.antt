-- Bytes that stand for themselves. Assumes nothing.
use Rattle.std.proofs.Common.{arith}
use Rattle.arriving.proofs.LeapsRunLaws.{body_run, lines_run}
use Rattle.arriving.proofs.leaps.quoting.Goals as goal

pub returns-in-Body : goal.returns-in-Body
returns-in-Body c = λ ks. body_run _ _ ks _ _ _ _ c.requires.1 c.in-Body.is (omega arith) c.stored.ensures

pub returns-in-Lines-eq0 : goal.returns-in-Lines-eq0
returns-in-Lines-eq0 c = λ ks. lines_run _ _ ks _ _ _ _ c.requires.1 _ c.in-Lines-eq0.is (cc) c.stored-in-Lines-eq0.ensures
