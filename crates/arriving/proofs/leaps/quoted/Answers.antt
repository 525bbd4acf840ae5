-- Past a string part. Assumes nothing.
use Rattle.std.proofs.Common.{sym, ◌∙◌}
use Rattle.arriving.proofs.LeapsReadLaws.{Quotes, string_skips}
use Rattle.arriving.proofs.leaps.quoted.Goals as goal

pub returns-in-Value : goal.returns-in-Value
returns-in-Value c = λ ks. string_skips _ _ ks _ _ _ _ 0 _ _ _ Quotes.value (sym c.from.ensures ∙ c.in-Value.is)
    c.requires.0 c.requires.1 c.requires.2 c.in-Ok.ensures c.if-end-part.false c.moved.ensures

pub returns-in-Key : goal.returns-in-Key
returns-in-Key c = λ ks. string_skips _ _ ks _ _ _ _ 0 _ _ _ Quotes.key (sym c.from.ensures ∙ c.in-Key.is)
    c.requires.0 c.requires.1 c.requires.2 c.in-Ok.ensures c.if-end-part.false c.moved-in-Key.ensures

pub returns-in-StringPart : goal.returns-in-StringPart
returns-in-StringPart c = λ ks. string_skips _ _ ks _ _ _ _ 0 _ _ _ Quotes.part (sym c.from.ensures ∙ c.in-StringPart.is)
    c.requires.0 c.requires.1 c.requires.2 c.in-Ok.ensures c.if-end-part.false c.moved-in-StringPart.ensures

pub returns-in-KeyPart : goal.returns-in-KeyPart
returns-in-KeyPart c = λ ks. string_skips _ _ ks _ _ _ _ 0 _ _ _ Quotes.key_part (sym c.from.ensures ∙ c.in-KeyPart.is)
    c.requires.0 c.requires.1 c.requires.2 c.in-Ok.ensures c.if-end-part.false c.moved-in-KeyPart.ensures
