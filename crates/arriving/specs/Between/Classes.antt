-- The code's names for the machine's classes of bytes (docs/FORMAT.md, 1.2 and 2). Assumes nothing.
use Rattle.machine.specs.Machine as Machine
use Rattle.arriving.specs.declared.classes.Class as ClassOf
use Rattle.arriving.specs.declared.classes.Class.TheVariants as Class
use Rattle.arriving.specs.declared.classes.Note as NoteOf
use Rattle.arriving.specs.declared.classes.Note.TheVariants as Note

abbrev pub class_is : ClassOf.Class → Machine.Class
class_is Class.Blank = Machine.blank_c
class_is Class.Hash = Machine.hash_c
class_is Class.Slash = Machine.slash_c
class_is Class.Comma = Machine.comma_c
class_is Class.Colon = Machine.colon_c
class_is Class.Plus = Machine.plus_c
class_is Class.Quote = Machine.quote_c
class_is Class.Dollar = Machine.dollar_c
class_is Class.LetterN = Machine.letter_n
class_is Class.LetterT = Machine.letter_t
class_is Class.LetterF = Machine.letter_f
class_is Class.Letter = Machine.letter_c
class_is Class.OpenArray = Machine.open_c Machine.square
class_is Class.CloseArray = Machine.close_c Machine.square
class_is Class.OpenObject = Machine.open_c Machine.curly
class_is Class.CloseObject = Machine.close_c Machine.curly
class_is Class.Other = Machine.other_c

abbrev pub note_is : NoteOf.Note → Machine.Note
note_is Note.LineEnd = Machine.line_end
note_is Note.Star = Machine.star_n
note_is Note.Slash = Machine.slash_n
note_is Note.Plain = Machine.plain_n
note_is Note.Control = Machine.control_n
