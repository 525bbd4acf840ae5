-- Where a value may stand. Assumes nothing.
use mathlib.Core.Path.{refl, sym, ◌∙◌}
use Rattle.machine.specs.Machine.{square, curly}
use Rattle.arriving.proofs.SmallLaws.{null_spelt, true_spelt, false_spelt}
use Rattle.arriving.proofs.LeapsStepLaws.{value_opens, value_closes, null_begins, true_begins, false_begins}
use Rattle.arriving.proofs.LeapsReadLaws.{word_skips}
use Rattle.arriving.proofs.leaps.value.Goals as goal

pub returns-in-91 : goal.returns-in-91
returns-in-91 c = value_opens _ _ _ _ _ c.requires.0.within square c.requires.2
    (sym c.requires.3 ∙ c.in-91.is) (c.opened.ensures square refl refl)

pub returns-in-123 : goal.returns-in-123
returns-in-123 c = value_opens _ _ _ _ _ c.requires.0.within curly c.requires.2
    (sym c.requires.3 ∙ c.in-123.is) (c.opened-in-123.ensures curly refl refl)

pub returns-in-93 : goal.returns-in-93
returns-in-93 c = value_closes _ _ _ _ _ c.requires.0.within c.requires.2
    (sym c.requires.3 ∙ c.in-93.is) (c.closed.ensures square refl)

pub returns-in-110 : goal.returns-in-110
returns-in-110 c = word_skips _ _ _ _ _ _ _ c.requires.0 c.requires.1
    (sym c.requires.3 ∙ c.in-110.is) null_spelt
    (λ p. null_begins c.args.x _ p _ c.requires.2
    (sym c.requires.3 ∙ c.in-110.is)) c.spelt.ensures

pub returns-in-116 : goal.returns-in-116
returns-in-116 c = word_skips _ _ _ _ _ _ _ c.requires.0 c.requires.1
    (sym c.requires.3 ∙ c.in-116.is) true_spelt
    (λ p. true_begins c.args.x _ p _ c.requires.2
    (sym c.requires.3 ∙ c.in-116.is)) c.spelt-in-116.ensures

pub returns-in-102 : goal.returns-in-102
returns-in-102 c = word_skips _ _ _ _ _ _ _ c.requires.0 c.requires.1
    (sym c.requires.3 ∙ c.in-102.is) false_spelt
    (λ p. false_begins c.args.x _ p _ c.requires.2
    (sym c.requires.3 ∙ c.in-102.is)) c.spelt-in-102.ensures

pub returns-in-36 : goal.returns-in-36
returns-in-36 c = c.binary.ensures _

pub returns-in_default : goal.returns-in_default
returns-in_default c = c.numeric.ensures _
