-- What a text comes to (docs/FORMAT.md, 10.2): 1, then 2 over the whole text, then 3 to 7 from left to right; otherwise
-- its meaning. Assumes nothing.
use Rattle.std.specs.Prelude.{cond, List, ℕ, leb, length, Result, Ok, Err}
use Rattle.rules.specs.declared.IllFormed.{IllFormed}
use Rattle.rules.specs.Between.Decided.{judged}
use Rattle.meaning.specs.Limits.{text_limit}
use Rattle.meaning.specs.declared.Refusal.TheVariants.{TextTooLong, NotUtf8}
use Rattle.machine.specs.Machine.{Verdict, No, reading}

-- 2: not UTF-8
unfoldable pub decoded : Result (Unit {0}) IllFormed → List ℕ → Verdict
decoded (Ok v) t = reading t
decoded (Err e) t = No (NotUtf8 e.place)

-- 1: over 16,777,216 bytes
unfoldable pub verdict : List ℕ → Verdict
verdict t = let v = decoded (judged t) t in cond (leb (length t) text_limit) v (No TextTooLong)
