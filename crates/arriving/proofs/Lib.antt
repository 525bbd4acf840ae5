-- Alike: what a byte does to the check's item and to the machine's
pub mod Alike
-- Bounds: what a byte may bring
pub mod Bounds
-- OctetsLaws: UTF-8 while it arrives
pub mod OctetsLaws
-- SmallLaws: words, identifiers, binary parts
pub mod SmallLaws
-- TimesLaws: time values
pub mod TimesLaws
-- StringsBoundsLaws, StringsLaws: string parts
pub mod StringsBoundsLaws
pub mod StringsLaws
-- FiguresLaws, FiguresBounds: numbers
pub mod FiguresLaws
pub mod FiguresBounds
-- NumericsValueLaws, NumericsLaws: numbers and time values beside the machine's
pub mod NumericsValueLaws
pub mod NumericsLaws
-- StepsLaws: any byte, and bytes one after the other
pub mod StepsLaws
-- ArrivingLaws: a part, the bounds, the end
pub mod ArrivingLaws
-- PushdownModes, PushdownItems, PushdownFrames, PushdownStands, PushdownEnds: the check beside the machine
pub mod PushdownModes
pub mod PushdownItems
pub mod PushdownFrames
pub mod PushdownStands
pub mod PushdownEnds
-- Checked: a text in parts
pub mod Checked
-- LeapsLaws: leaps compose; runs
pub mod LeapsLaws
-- LeapsItemLaws: over an item that ends within a part
pub mod LeapsItemLaws
-- LeapsRunLaws: bytes that leave the check where it stands
pub mod LeapsRunLaws
-- LeapsStepLaws: signs of punctuation
pub mod LeapsStepLaws
-- LeapsReadLaws: whole items
pub mod LeapsReadLaws
-- LeapsWalkLaws: the walk over a part
pub mod LeapsWalkLaws
-- PackingTableLaws, PackingByteLaws, PackingLaws, PackingStateLaws: the state as bytes for C
pub mod PackingTableLaws
pub mod PackingByteLaws
pub mod PackingLaws
pub mod PackingStateLaws
