-- By what is due. Assumes nothing.
use Rattle.std.proofs.Common.{sym}
use Rattle.arriving.proofs.LeapsStepLaws.{value_skips, key_skips}
use Rattle.arriving.proofs.leaps.on_due.Goals as goal

pub returns-in-AfterValue : goal.returns-in-AfterValue
returns-in-AfterValue c =
    value_skips _ _ _ _ _ c.requires.0.within _ (sym c.from.ensures) _ c.requires.2 c.after_value.ensures c.in-AfterValue.is

pub returns-in-AfterKey : goal.returns-in-AfterKey
returns-in-AfterKey c =
    key_skips _ _ _ _ _ c.requires.0.within _ (sym c.from.ensures) _ c.requires.2 (c.after_key.ensures _) c.in-AfterKey.is
