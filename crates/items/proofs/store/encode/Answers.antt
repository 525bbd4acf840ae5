-- Assumes nothing.
use mathlib.Core.Path.{sym}
use native.Mathlib.Omega.{arith}
use Rattle.items.proofs.StoreLaws.{size1, size2, size3, size4, enc1, enc2, enc3, enc4}
use Rattle.items.proofs.store.encode.Goals as goal

pub returns-in-0-to-127 : goal.returns-in-0-to-127
returns-in-0-to-127 c = (omega (arith, size1 c.args.c (omega arith)), rw c.put_byte.ensures (sym (enc1 c.args.store.now c.args.at c.args.c (omega arith))))

pub returns-in-128-to-2047 : goal.returns-in-128-to-2047
returns-in-128-to-2047 c = (
  omega (arith, size2 c.args.c (omega arith) (omega arith)),
  rw (c.put_byte-in-128-to-2047-2.ensures, c.put_byte-in-128-to-2047.ensures) (sym (enc2 c.args.store.now c.args.at c.args.c (omega arith) (omega arith))),
)

pub returns-in-2048-to-65535 : goal.returns-in-2048-to-65535
returns-in-2048-to-65535 c = (
  omega (arith, size3 c.args.c (omega arith) (omega arith)),
  rw (c.put_byte-in-2048-to-65535-3.ensures, c.put_byte-in-2048-to-65535-2.ensures, c.put_byte-in-2048-to-65535.ensures)
      (sym (enc3 c.args.store.now c.args.at c.args.c (omega arith) (omega arith))),
)

pub returns-in_default : goal.returns-in_default
returns-in_default c = (
  omega (arith, size4 c.args.c (omega arith)),
  rw (
    c.put_byte-in_default-4.ensures,
    c.put_byte-in_default-3.ensures,
    c.put_byte-in_default-2.ensures,
    c.put_byte-in_default.ensures,
  ) (sym (enc4 c.args.store.now c.args.at c.args.c (omega arith))),
)
