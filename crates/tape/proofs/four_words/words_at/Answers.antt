-- `four_words::words_at`: four numbers are loaded. Assumes nothing.
use mathlib.Core.Path.{◌≡◌, refl, sym, ◌∙◌}
use Prim.Native.Nat.{◌+◌}
use native.Mathlib.Omega.{arith}
use Rattle.meaning.specs.Between.Words.{get}
use Rattle.tape.proofs.LittleEndianLaws.{get_two, get_four}
use Rattle.tape.proofs.four_words.words_at.Goals as goal

pub returns : goal.returns
returns c =
    let s = c.args.tape.now in
    let p = c.args.at in
    let mark : c.from.result ≡ get 2 s p = c.from.ensures ∙ c.from_le_bytes.ensures ∙ sym (get_two s p (p + 1) refl) in
    let low : c.from-2.result ≡ get 2 s (p + 2) = c.from-2.ensures ∙ c.from_le_bytes-2.ensures ∙ sym (get_two s (p + 2) (p + 3) (omega arith)) in
    let mid : c.from-3.result ≡ get 4 s (p + 4) =
    c.from-3.ensures ∙ c.from_le_bytes-3.ensures
    ∙ sym (get_four s (p + 4) (p + 5) (p + 6) (p + 7) (omega arith) (omega arith) (omega arith)) in
    λ k. record { mark = mark k; low = low k; mid = mid k; high = c.load8.ensures k }
