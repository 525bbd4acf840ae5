-- What a byte's class says of it. Assumes nothing.
use Prim.Native.Nat.{ℕ, ◌≤◌, ◌<◌}
use mathlib.Core.Path.{◌≡◌}
use native.Mathlib.Omega.{arith}
use Rattle.meaning.specs.Letters.{ch}
use Rattle.machine.specs.Machine
use Rattle.machine.specs.Machine.{Bracket, square, curly, Class, blank_c, hash_c, slash_c, comma_c, colon_c, plus_c, quote_c, dollar_c, letter_n, letter_t}
use Rattle.machine.specs.Machine.{letter_f}
use Rattle.machine.specs.Machine.{letter_c, other_c, open_c, close_c, class_of}
use Rattle.machine.proofs.Tables.{◌&◌, cut_is}

abbrev pub opening : Bracket → ℕ
opening square = ch "["
opening curly = ch "{"

abbrev pub closing : Bracket → ℕ
closing square = ch "]"
closing curly = ch "}"

abbrev pub ClassIs : ℕ → Class → Type 0
ClassIs b blank_c = (b ≤ ch " ") × ((b ≡ ch "\t" → ⊥) → (b ≡ ch "\n" → ⊥) → (b ≡ ch "\r" → ⊥) → b ≡ ch " ")
ClassIs b hash_c = b ≡ ch "#"
ClassIs b slash_c = b ≡ ch "/"
ClassIs b comma_c = b ≡ ch ","
ClassIs b colon_c = b ≡ ch ":"
ClassIs b plus_c = b ≡ ch "+"
ClassIs b quote_c = (b ≤ ch "'") × ((b ≡ ch "\"" → ⊥) → b ≡ ch "'")
ClassIs b dollar_c = b ≡ ch "$"
ClassIs b letter_n = b ≡ ch "n"
ClassIs b letter_t = b ≡ ch "t"
ClassIs b letter_f = b ≡ ch "f"
ClassIs b letter_c = (ch "A" ≤ b) × (b ≤ ch "z") × (ch "Z" < b → b < ch "a" → b ≡ ch "_")
ClassIs b other_c = (ch "A" ≤ b → ch "Z" < b) × (ch "a" ≤ b → ch "z" < b) × (b ≡ ch "_" → ⊥) × (b ≡ ch "$" → ⊥) × (b ≡ ch "\"" → ⊥) × (b ≡ ch "'" → ⊥)
ClassIs b (open_c c) = b ≡ opening c
ClassIs b (close_c c) = b ≡ closing c

pub class_is_lem : (b : ℕ) → ClassIs b (class_of b)
class_is_lem b =
    cut_is ClassIs 0 Machine.classes other_c b (omega arith)
    ((λ l u. omega arith) & (λ l u. omega arith) & (λ l u. omega arith) & (λ l u. omega arith) & (λ l u. omega arith) &
    (λ l u. omega arith) & (λ l u. omega arith) & (λ l u. omega arith) & (λ l u. omega arith) & (λ l u. omega arith) &
    (λ l u. omega arith) & (λ l u. omega arith) & (λ l u. omega arith) & (λ l u. omega arith) & (λ l u. omega arith) &
    (λ l u. omega arith) & (λ l u. omega arith) & (λ l u. omega arith) & (λ l u. omega arith) & (λ l u. omega arith) &
    (λ l u. omega arith) & (λ l u. omega arith) & (λ l u. omega arith) & (λ l u. omega arith) & (λ l u. omega arith) &
    (λ l u. omega arith) & (λ l u. omega arith) & (λ l u. omega arith) & (λ l u. omega arith) & (λ l u. omega arith) &
    (λ l u. omega arith) & (λ l u. omega arith) & (λ l u. omega arith) & (λ l u. omega arith) & (λ l u. omega arith) &
    (λ l u. omega arith) & (λ l u. omega arith) & (λ l. omega arith))
