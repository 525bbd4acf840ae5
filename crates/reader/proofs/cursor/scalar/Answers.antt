use mathlib.Core.Path.{refl}
use native.Mathlib.Omega.{arith}
use mathlib.Core.Bool.{true, false}
use Rattle.meaning.specs.Letters.{letters, ch}
use Rattle.meaning.specs.Meaning.{Meaning}
use Rattle.items.specs.Between.NumberOrTime.{Means}
use Rattle.items.specs.declared.Item.{Item}
use Rattle.reader.proofs.CursorHeadLaws.{of_word, at_word, of_numeric}
use Rattle.reader.proofs.ScanningClassLaws.{quoting}
use Rattle.reader.proofs.cursor.scalar.Goals as goal

pub joined_item-requires : goal.joined_item-requires
joined_item-requires c = (record { inside = c.requires.inside; quote = quoting _ c.in-34.is }, c.requires.stored)

pub returns-in-110 : goal.returns-in-110
returns-in-110 c = of_word c.args.text.now c.args.at c.args.start c.args.store.now (letters "null") (ch "n") (letters "ull") refl Item.Null
    Meaning.null Means.null
    (at_word c.args.text.now c.args.at c.args.start c.args.store.now c.requires.inside (ch "n") (letters "ull") Meaning.null
    (λ d k. rw c.in-110.is)) c.spelt.result c.spelt.ensures

pub returns-in-116 : goal.returns-in-116
returns-in-116 c = of_word c.args.text.now c.args.at c.args.start c.args.store.now (letters "true") (ch "t") (letters "rue") refl
    (Item.Bool true) (Meaning.bool true) Means.bool
    (at_word c.args.text.now c.args.at c.args.start c.args.store.now c.requires.inside (ch "t") (letters "rue") (Meaning.bool true)
    (λ d k. rw c.in-116.is)) c.spelt-in-116.result c.spelt-in-116.ensures

pub returns-in-102 : goal.returns-in-102
returns-in-102 c = of_word c.args.text.now c.args.at c.args.start c.args.store.now (letters "false") (ch "f") (letters "alse") refl
    (Item.Bool false) (Meaning.bool false) Means.bool
    (at_word c.args.text.now c.args.at c.args.start c.args.store.now c.requires.inside (ch "f") (letters "alse") (Meaning.bool false)
    (λ d k. rw c.in-102.is)) c.spelt-in-102.result c.spelt-in-102.ensures

pub returns-in_default : goal.returns-in_default
returns-in_default c = of_numeric c.args.text.now c.args.at c.args.start c.args.store.now c.requires
    (record {
      double = grind arith;
      single = grind arith;
      dollar = grind arith;
      n = grind arith;
      t = grind arith;
      f = grind arith;
      square = c.requires.no_square;
      curly = c.requires.no_curly;
    })
    c.numeric.result c.numeric.ensures
