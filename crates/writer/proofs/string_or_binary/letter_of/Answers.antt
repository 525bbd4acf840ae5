-- `string_or_binary::letter_of`: by its byte. Assumes nothing.
use native.Mathlib.Omega.{arith}
use Rattle.writer.proofs.PiecesLaws.{lettered, lettered_self, backspace, form_feed, line_feed, return, tab, unlettered}
use Rattle.writer.proofs.string_or_binary.letter_of.Goals as goal

pub returns-in-34 : goal.returns-in-34
returns-in-34 c = lettered_self _ c.in-34.is

pub returns-in-8 : goal.returns-in-8
returns-in-8 c = lettered _ backspace c.in-8.is

pub returns-in-12 : goal.returns-in-12
returns-in-12 c = lettered _ form_feed c.in-12.is

pub returns-in-10 : goal.returns-in-10
returns-in-10 c = lettered _ line_feed c.in-10.is

pub returns-in-13 : goal.returns-in-13
returns-in-13 c = lettered _ return c.in-13.is

pub returns-in-9 : goal.returns-in-9
returns-in-9 c = lettered _ tab c.in-9.is

pub returns-in_default : goal.returns-in_default
returns-in_default c =
    unlettered _ (λ e. grind arith) (λ e. grind arith) (λ e. grind arith) (λ e. grind arith) (λ e. grind arith) (λ e. grind arith) (λ e. grind arith)
