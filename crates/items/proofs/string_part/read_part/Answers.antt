-- Assumes nothing.
use mathlib.Core.Path.{◌≡◌, refl}
use mathlib.Core.Logic.{inl, inr}
use native.Mathlib.Omega.{arith}
use Rattle.std.proofs.lemmas.Bool.Decides.{nat_tests}
use lib.ListN.{length}
use Rattle.meaning.specs.Letters.{ch}
use Rattle.items.proofs.StringPartQuotedLaws.{says_empty, says_unopened, says_opened}
use Rattle.items.proofs.string_part.read_part.Goals as goal

pub returns-then-is_empty : goal.returns-then-is_empty
returns-then-is_empty c = says_empty _ c.args.at c.args.store.now (grind (arith, nat_tests))

pub returns-in-34 : goal.returns-in-34
returns-in-34 c = let n : length c.args.s.now ≡ 0 → ⊥ = λ e. grind (arith, nat_tests) in
    says_opened _ c.args.at c.args.store.now n (ch "\"") c.in-34.is (inl refl) _ c.quoted.result c.quoted.ensures

pub returns-in-39 : goal.returns-in-39
returns-in-39 c = let n : length c.args.s.now ≡ 0 → ⊥ = λ e. grind (arith, nat_tests) in
    says_opened _ c.args.at c.args.store.now n (ch "'") c.in-39.is (inr refl) _ c.quoted-in-39.result c.quoted-in-39.ensures

pub returns-in_default : goal.returns-in_default
returns-in_default c = let n : length c.args.s.now ≡ 0 → ⊥ = λ e. grind (arith, nat_tests) in
    says_unopened _ c.args.at c.args.store.now n (λ e. omega arith) (λ e. omega arith)
