-- `string_or_binary::pair_at`: two digits. Assumes nothing.
use mathlib.Core.Path.{ap₂}
use mathlib.Core.List.{[], ◌∷◌}
use Prim.Native.Nat.{ℕ}
use native.Mathlib.Omega.{arith}
use Rattle.writer.proofs.LaidLaws.{put_at_as, put_next}
use Rattle.writer.proofs.string_or_binary.pair_at.Goals as goal

pub returns : goal.returns
returns c = put_at_as (ap₂ (λ (x y : ℕ). x ∷ y ∷ []) c.hex_digit.ensures c.hex_digit-2.ensures)
    (put_next (omega (arith, c.requires)) c.byte_at-second.ensures c.byte_at.ensures)
