-- `string_or_binary::escaped_len`: by the kind of the byte. Assumes nothing.
use mathlib.Core.Path.{sym, ap}
use lib.ListN.{length}
use Rattle.writer.proofs.PiecesLaws.{low_text}
use Rattle.writer.proofs.string_or_binary.escaped_len.Goals as goal

pub returns-in-None : goal.returns-in-None
returns-in-None c = sym (ap length (low_text _ c.if-is_plain.ensures c.in-None.ensures))
