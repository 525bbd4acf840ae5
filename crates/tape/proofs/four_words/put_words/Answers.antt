-- `four_words::put_words`: one number after the other. Assumes nothing.
use mathlib.Core.Path.{refl, ◌∙◌}
use native.Mathlib.Omega.{arith}
use Rattle.meaning.specs.Bytes.{le}
use Rattle.tape.proofs.LittleEndianLaws.{le_is, le_two, le_four}
use Rattle.tape.proofs.PuttingLaws.{same_length, words_all, put_number}
use Rattle.tape.proofs.four_words.put_words.Goals as goal

pub returns : goal.returns
returns c =
    let a = put_number c.args.bytes.now _ 2 c.args.w.mark 0 2 refl (omega arith)
    (c.copy_from_slice.ensures.after ∙ c.to_le_bytes.ensures ∙ le_is 2 _ ∙ le_two c.args.w.mark) in
    let b = put_number _ _ 2 c.args.w.low 2 4 refl (omega (arith, same_length _ _ (le 2 c.args.w.mark) 0 a))
    (c.copy_from_slice-2.ensures.after ∙ c.to_le_bytes-2.ensures ∙ le_is 2 _ ∙ le_two c.args.w.low) in
    let d = put_number _ _ 4 c.args.w.mid 4 8 refl (omega (arith, same_length _ _ (le 2 c.args.w.mark) 0 a, same_length _ _ (le 2 c.args.w.low) 2 b))
    (c.copy_from_slice-3.ensures.after ∙ c.to_le_bytes-3.ensures ∙ le_is 4 _ ∙ le_four c.args.w.mid) in
    words_all c.args.bytes.now _ _ _ _ _ _ _ _ c.requires a b d c.store8.ensures
