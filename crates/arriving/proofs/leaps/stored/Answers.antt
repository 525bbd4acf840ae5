-- A store byte for each byte of a run. Assumes nothing.
use native.Mathlib.Omega.{arith}
use Rattle.arriving.proofs.LeapsLaws.{sane_within}
use Rattle.arriving.proofs.leaps.stored.Goals as goal

pub overflow_add-result : goal.overflow_add-result
overflow_add-result c = let i = sane_within _ _ c.requires.sane in omega
    (arith, i.stored, c.requires.short, c.requires.within, c.run_end-end.ensures.within)
