-- Each kind of item that the readers find whole within a part, passed. Assumes nothing.
use Prim.Native.Nat.{ℕ, suc, ◌+◌, ◌-◌, ◌≤◌, ◌<◌}
use mathlib.Core.Path.{◌≡◌, refl, sym, ap, ◌∙◌, subst}
use mathlib.Core.Bool.{Bool, true, false}
use mathlib.Core.Logic.{◌⊎◌, inl, inr}
use mathlib.Core.List.{List, [], ◌∷◌}
use native.Mathlib.Omega.{arith}
use native.Mathlib.Nat.{add-zero}
use lib.Dec.{eqb}
use lib.ListN.{length, drop, get_or, take, length-drop}
use lib.Seq.{drop-cons, length-take-le}
use native.Mathlib.Decide.{dec_lt}
use borrow.Author.Tests.{eq-eqb, eqb-true, eqb-false}
use Rattle.meaning.specs.Letters.{ch}
use Rattle.meaning.specs.Limits.{text_limit}
use Rattle.meaning.specs.Meaning.{Meaning}
use Rattle.meaning.specs.Tape.{store_of}
use Rattle.meaning.specs.declared.Refusal.TheVariants.{NotGrammar}
use Rattle.machine.specs.Scan as Scan
use Rattle.machine.specs.Scan.{ended, unended, goes_on, ran, over}
use Rattle.machine.specs.Numeric as Numeric
use Rattle.machine.specs.Strings as Strings
use Rattle.machine.specs.Binaries as Binaries
use Rattle.machine.specs.Names as Names
use Rattle.machine.specs.Machine.{square, curly, Class, class_of, blank_c, hash_c, slash_c, comma_c, colon_c, plus_c, quote_c, dollar_c, letter_n, letter_t}
use Rattle.machine.specs.Machine.{letter_f, letter_c, other_c, open_c, close_c}
use Rattle.machine.proofs.Classes.{ClassIs, class_is_lem}
use Rattle.items.specs.Between.PlacedPart.{Ended}
use Rattle.items.specs.Between.StringPart.{PartSays}
use Rattle.std.specs.Prelude.{Ok}
use Rattle.items.specs.declared.Taken.{Taken}
use Rattle.reader.proofs.JoinedLaws.{part_closed}
use Rattle.items.specs.Between.NumberOrTime.{Took, Means, null, bool, number, time}
use Rattle.items.specs.Between.Identifier.{NameEnds}
use Rattle.items.specs.declared.Item.{Item}
use Rattle.reader.proofs.KeyLaws.{SortIs, sort_is_lem}
use Rattle.arriving.specs.declared.states.Due as DueOf
use Rattle.arriving.specs.declared.states.Due.TheVariants as Due
use Rattle.arriving.specs.declared.states.Octets.TheVariants as Octets
use Rattle.arriving.specs.declared.states.Mode as ModeOf
use Rattle.arriving.specs.declared.states.Mode.TheVariants as Mode
use Rattle.arriving.specs.declared.states.Out as OutOf
use Rattle.arriving.specs.declared.states.Out.TheVariants.{Takes, Stops}
use Rattle.arriving.specs.declared.leaps.Spot.{Spot}
use Rattle.arriving.specs.Between.Figures.{begin_figure, next_figure}
use Rattle.arriving.specs.Between.Times.{next_moment}
use Rattle.arriving.specs.Between.Strings.{open_quote, next_quoted}
use Rattle.arriving.specs.Between.Small.{next_word, next_octets, next_name}
use Rattle.arriving.specs.Between.Steps.{here_of, Stand, next, on_mode, between, begun, begun_figure, done, on_value, on_key}
use Rattle.arriving.specs.Between.Leaps.{Skips, due_at, stand_of, spot_of, Bytes, Placed, WordPassed, stays, passed, Plainly}
use Rattle.arriving.proofs.Alike.{Alike}
use Rattle.arriving.proofs.PushdownModes.{InNumber, counting, timing, numeric_mode, InString, quoting, string_mode}
use Rattle.arriving.proofs.PushdownModes.{InBinary, packing, binary_mode, InName, naming, name_mode}
use Rattle.arriving.proofs.NumericsLaws.{NumericIs, MeaningGives, numeric_begin, figures_alike, timing_alike, spelling_alike}
use Rattle.arriving.proofs.FiguresBounds.{figures_bounded, begin_bounded}
use Rattle.arriving.proofs.TimesLaws.{times_bounded}
use Rattle.arriving.proofs.StringsBoundsLaws.{quoted_bounded}
use Rattle.arriving.proofs.Bounds.{Bounded}
use Rattle.arriving.specs.Between.Arriving.{sane_mode}
use Rattle.arriving.proofs.StringsLaws.{StringIs, strings_alike, strings_begin}
use Rattle.arriving.proofs.SmallLaws.{Spelt, word_alike, word_bounded, NameIs, named, name_alike, name_bounded, BinaryIs, binary_alike, binary_begin}
use Rattle.arriving.proofs.SmallLaws.{octets_bounded}
use Rattle.arriving.proofs.LeapsLaws.{due_back, leaps_none}
use Rattle.arriving.proofs.LeapsItemLaws.{standing, item_leapt}

-- what a byte does in the mode of an item
abbrev step_of : ModeOf.Mode → ℕ → ℕ → OutOf.Out
step_of Mode.At p b = Stops
step_of Mode.Slash p b = Stops
step_of Mode.Line p b = Stops
step_of Mode.Block p b = Stops
step_of Mode.Star p b = Stops
step_of (Mode.Spelling n) p b = next_word n p b
step_of (Mode.Counting f) p b = next_figure f p b
step_of (Mode.Timing s m) p b = next_moment s m p b
step_of (Mode.Quoting k s) p b = next_quoted k s p b
step_of (Mode.Packing o) p b = next_octets o p b
step_of Mode.Naming p b = next_name b
step_of (Mode.Failed r) p b = Stops

-- a run ends no earlier than it begins
ran_behind : {S M : Type 0} (scan : ℕ → S → ℕ → Scan.Out S M) (t : List ℕ) (p : ℕ) (s : S) (v : M) (q : ℕ) → ran scan p s t ≡ ended v q → p ≤ q
unfolding ran
ran_behind scan [] p s v q h = by (scan p s over) h
  where
    by : (o : Scan.Out _ _) → goes_on scan p (λ s'. unended) o ≡ ended v q → p ≤ q
    by (Scan.takes s') e = absurd (let z : ◌≡◌ {A = ℕ} 0 1 = cc in omega arith)
    by (Scan.stops v') e = let z : p ≡ q = cc in omega arith
    by (Scan.breaks r) e = absurd (let z : ◌≡◌ {A = ℕ} 0 1 = cc in omega arith)
ran_behind scan (b ∷ t) p s v q h = by (λ s' e. ran_behind scan t (suc p) s' v q e) (scan p s b) h
  where
    by : ((s' : _) → ran scan (suc p) s' t ≡ ended v q → suc p ≤ q) → (o : Scan.Out _ _) → goes_on scan p (λ s'. ran scan (suc p) s' t) o ≡ ended v q → p ≤ q
    by ih (Scan.takes s') e = omega (arith, ih s' e)
    by ih (Scan.stops v') e = let z : p ≡ q = cc in omega arith
    by ih (Scan.breaks r) e = absurd (let z : ◌≡◌ {A = ℕ} 0 1 = cc in omega arith)

-- ---- words

data WordIs : ModeOf.Mode → List ℕ → ℕ → Type 0 where
  lettered : {i : ℕ} {ls : List ℕ} → Spelt i ls → WordIs (Mode.Spelling i) ls 0

word_likes : (base : ℕ) (m : ModeOf.Mode) (s : List ℕ) (n p b : ℕ) → WordIs m s n → b < 256 → base + p ≤ text_limit → sane_mode (base + p) m ≡ true
    → Alike WordIs (λ (u : Unit {0}) (k : ℕ). k ≡ 0) base n (step_of m (base + p) b) (Names.word_scan p s b)
word_likes base m s n p b (WordIs.lettered {i = i} {ls = ls} h) l f o = word_alike WordIs base (λ j ks k. WordIs.lettered k) i ls p b h

word_bounds : (m : ModeOf.Mode) (s : List ℕ) (n p b : ℕ) → WordIs m s n → sane_mode p m ≡ true → Bounded (suc p) (step_of m p b)
word_bounds m s n p b (WordIs.lettered {i = i} h) o = word_bounded (suc p) i p b

word_steps : (m : ModeOf.Mode) (s : List ℕ) (n p b : ℕ) (x : Stand) → WordIs m s n → on_mode x p b m ≡ done x p b (step_of m p b)
unfolding on_mode
word_steps m s n p b x (WordIs.lettered h) = refl

module _ (part : List ℕ) (x : Spot) (ks : List ℕ) (y : Spot) where
  pub word_skips : (c i : ℕ) (ls : List ℕ) → Placed part x → Bytes part → get_or part x.at 0 ≡ c → Spelt i ls
      → ((p : ℕ) → next (stand_of x ks) p (get_or part x.at 0) ≡ begun (stand_of x ks) (Mode.Spelling i) Due.AfterValue 0)
      → WordPassed part x (c ∷ ls) y → Skips part x ks y ks
  unfolding ran Names.word_scan sane_mode
  word_skips c i ls r bs e h f (stays g) =
      let w = r.within in
      rw g (leaps_none part (stand_of x ks) x.at (omega arith))
  word_skips c i ls r bs e h f (passed {q = q} g k l) =
      let w = r.within in
      let a : x.at < q = past in
      rw g (record {
        behind = omega arith;
        within = omega arith;
        from = λ base s. item_leapt Names.word_scan WordIs (λ (u : Unit {0}) (n : ℕ). n ≡ 0) base step_of (word_likes base) word_bounds word_steps part x ks
            (spot_of q Due.AfterValue x.depth (x.records + 1) (x.stored + 0)) (Takes (Mode.Spelling i) 0) tt (c ∷ ls) first
            (λ m j o. starts m j o base) (λ n z. omega arith) (refl, omega arith) bs s k
            (record { depth = refl; records = omega arith; stored = omega arith; past = a; within = l });
      })
    where
      first : {base : ℕ} → Alike WordIs (λ (u : Unit {0}) (n : ℕ). n ≡ 0) base 0 (Takes (Mode.Spelling i) 0)
          (Names.word_scan x.at (c ∷ ls) (get_or part x.at 0))
      first = rw (eq-eqb _ _ e) (Alike.takes (WordIs.lettered h))

      starts : (m : ModeOf.Mode) (j : ℕ) → Takes (Mode.Spelling i) 0 ≡ Takes m j → (base : ℕ)
          → next (stand_of x ks) (base + x.at) (get_or part x.at 0) ≡ standing m Due.AfterValue x.depth (x.records + 1) (x.stored + j) ks
      starts m j o base =
          let u : Mode.Spelling i ≡ m = cc in
          let v : 0 ≡ j = cc in
          f (base + x.at) ∙ ap (λ (z : ModeOf.Mode). standing z Due.AfterValue x.depth (x.records + 1) (x.stored + 0) ks) u
          ∙ ap (λ (z : ℕ). standing m Due.AfterValue x.depth (x.records + 1) (x.stored + z) ks) v

      past : x.at < q
      past =
          let w = r.within in
          ran_behind Names.word_scan (drop (suc x.at) part) (suc x.at) ls tt q
          (sym (ap (λ (t : List ℕ). ran Names.word_scan x.at (c ∷ ls) t) (drop-cons part x.at 0 w)
          ∙ rw (eq-eqb _ _ e)) ∙ k)

-- an item's first byte, in the mode that it begins
begins_so : (z : Stand) (m m' : ModeOf.Mode) (k j : ℕ) (u : DueOf.Due) (d r w : ℕ) (ks : List ℕ) → Takes m' k ≡ Takes m j
    → z ≡ standing m' u d r (w + k) ks → z ≡ standing m u d r (w + j) ks
begins_so z m m' k j u d r w ks o e =
    let a : m' ≡ m = cc in
    let b : k ≡ j = cc in
    e ∙ ap (λ (i : ModeOf.Mode). standing i u d r (w + k) ks) a ∙ ap (λ (i : ℕ). standing m u d r (w + i) ks) b

-- ---- binary parts

binary_likes : (base : ℕ) (m : ModeOf.Mode) (s : Binaries.St) (n p b : ℕ) → BinaryIs m s n → b < 256 → base + p ≤ text_limit → sane_mode (base + p) m ≡ true
    → Alike BinaryIs (λ (u : List ℕ) (k : ℕ). length u ≡ k) base n (step_of m (base + p) b) (Binaries.scan p s b)
binary_likes base m s n p b h l f o = by m (binary_mode h) h
  where
    by : (m : ModeOf.Mode) → InBinary m → BinaryIs m s n
        → Alike BinaryIs (λ (u : List ℕ) (k : ℕ). length u ≡ k) base n (step_of m (base + p) b) (Binaries.scan p s b)
    by _ (packing {o = o}) i = binary_alike base o s n p b i

binary_bounds : (m : ModeOf.Mode) (s : Binaries.St) (n p b : ℕ) → BinaryIs m s n → sane_mode p m ≡ true → Bounded (suc p) (step_of m p b)
binary_bounds m s n p b h o = by m (binary_mode h)
  where
    by : (m : ModeOf.Mode) → InBinary m → Bounded (suc p) (step_of m p b)
    by _ (packing {o = i}) = octets_bounded (suc p) i p b

binary_steps : (m : ModeOf.Mode) (s : Binaries.St) (n p b : ℕ) (x : Stand) → BinaryIs m s n → on_mode x p b m ≡ done x p b (step_of m p b)
unfolding on_mode
binary_steps m s n p b x h = by m (binary_mode h)
  where
    by : (m : ModeOf.Mode) → InBinary m → on_mode x p b m ≡ done x p b (step_of m p b)
    by _ packing = refl

dollar_begins : (x : Spot) (ks : List ℕ) (p b : ℕ) → due_at x ≡ Due.Value → b ≡ ch "$"
    → next (stand_of x ks) p b ≡ begun (stand_of x ks) (Mode.Packing Octets.Dollar) Due.AfterBinary 0
unfolding on_mode between
dollar_begins x ks p b u e = rw (u, e)

module _ (part : List ℕ) (x : Spot) (ks : List ℕ) (y : Spot) where
  pub binary_skips : (n start q : ℕ) (entry exit : List ℕ) → Placed part x → Bytes part → due_at x ≡ Due.Value → get_or part x.at 0 ≡ ch "$"
      → Ended Binaries.scan Binaries.begin part x.at start entry exit q n → q < length part
      → y ≡ spot_of q Due.AfterBinary x.depth (x.records + 1) (x.stored + n) → Skips part x ks y ks
  unfolding sane_mode
  binary_skips n start q entry exit r bs u e d l g =
      let a = d.meant.past in
      rw g (record {
        behind = omega arith;
        within = omega arith;
        from = λ base s. item_leapt Binaries.scan BinaryIs (λ (v : List ℕ) (m : ℕ). length v ≡ m) base step_of (binary_likes base) binary_bounds binary_steps
            part x ks
            (spot_of q Due.AfterBinary x.depth (x.records + 1) (x.stored + n)) (Takes (Mode.Packing Octets.Dollar) 0) d.u Binaries.begin
            (rw e (binary_begin base x.at))
            (λ m j o. begins_so _ m (Mode.Packing Octets.Dollar) 0 j Due.AfterBinary x.depth (x.records + 1) x.stored ks o
            (dollar_begins x ks (base + x.at) (get_or part x.at 0) u e))
            (λ k z. omega (arith, d.meant.counted)) (refl, omega arith) bs s d.runs
            (record { depth = refl; records = omega arith; stored = omega (arith, d.meant.counted, d.meant.room); past = a; within = l });
      })

-- ---- string parts

string_likes : (base : ℕ) (m : ModeOf.Mode) (s : Strings.St) (n p b : ℕ) → StringIs base m s n → b < 256 → base + p ≤ text_limit → sane_mode (base + p) m ≡ true
    → Alike (StringIs base) (λ (u : List ℕ) (k : ℕ). length u ≡ k) base n (step_of m (base + p) b) (Strings.scan p s b)
string_likes base m s n p b h l f o = by m (string_mode h) h
  where
    by : (m : ModeOf.Mode) → InString m → StringIs base m s n
        → Alike (StringIs base) (λ (u : List ℕ) (k : ℕ). length u ≡ k) base n (step_of m (base + p) b) (Strings.scan p s b)
    by _ (quoting {k = k} {s = i}) h' = strings_alike base k i s n p b h' l f

string_bounds : (base : ℕ) (m : ModeOf.Mode) (s : Strings.St) (n p b : ℕ) → StringIs base m s n → sane_mode p m ≡ true → Bounded (suc p) (step_of m p b)
string_bounds base m s n p b h o = by m (string_mode h)
  where
    by : (m : ModeOf.Mode) → InString m → Bounded (suc p) (step_of m p b)
    by _ (quoting {k = k} {s = i}) = quoted_bounded k i (suc p) p b

string_steps : (base : ℕ) (m : ModeOf.Mode) (s : Strings.St) (n p b : ℕ) (x : Stand) → StringIs base m s n → on_mode x p b m ≡ done x p b (step_of m p b)
unfolding on_mode
string_steps base m s n p b x h = by m (string_mode h)
  where
    by : (m : ModeOf.Mode) → InString m → on_mode x p b m ≡ done x p b (step_of m p b)
    by _ quoting = refl

-- a string part may stand where u is due; v is due after it, and it is so many records more
pub data Quotes : DueOf.Due → DueOf.Due → ℕ → Type 0 where
  value : Quotes Due.Value Due.AfterString 1
  key : Quotes Due.Key Due.AfterKeyString 1
  part : Quotes Due.StringPart Due.AfterString 0
  key_part : Quotes Due.KeyPart Due.AfterKeyString 0

quote_class : (b : ℕ) → (b ≡ ch "\"") ⊎ (b ≡ ch "'") → class_of b ≡ quote_c
quote_class b (inl e) = rw e
quote_class b (inr e) = rw e

quote_begins : (x : Spot) (ks : List ℕ) (p b : ℕ) (u v : DueOf.Due) (n : ℕ) → Quotes u v n → due_at x ≡ u → (b ≡ ch "\"") ⊎ (b ≡ ch "'")
    → next (stand_of x ks) p b ≡ standing (open_quote b) v x.depth (x.records + n) (x.stored + 0) ks
unfolding on_mode between
quote_begins x ks p b _ _ _ Quotes.value u e = rw (u, quote_class b e)
quote_begins x ks p b _ _ _ Quotes.key u e = rw (u, quote_class b e)
quote_begins x ks p b _ _ _ Quotes.part u e = rw (u, quote_class b e, add-zero x.records, add-zero x.stored)
quote_begins x ks p b _ _ _ Quotes.key_part u e = rw (u, quote_class b e, add-zero x.records, add-zero x.stored)

module _ (part : List ℕ) (x : Spot) (ks : List ℕ) (y : Spot) where
  pub string_skips : (u v : DueOf.Due) (n start : ℕ) (read : Taken ℕ) (entry exit : List ℕ) → Quotes u v n → due_at x ≡ u → Placed part x → Bytes part
      → (get_or part x.at 0 ≡ ch "\"") ⊎ (get_or part x.at 0 ≡ ch "'")
      → PartSays (take (length part - x.at) (drop x.at part)) start entry exit (Ok read)
      → x.at + read.end < length part → y ≡ spot_of (x.at + read.end) v x.depth (x.records + n) (x.stored + read.value) → Skips part x ks y ks
  unfolding sane_mode
  string_skips u v n start read entry exit c d r bs e h l g =
      let w = r.within in
      let k = part_closed part x.at start entry (omega arith) exit read.end read.value h in
      let a = k.meant.past in
      rw g (record {
        behind = omega arith;
        within = omega arith;
        from = λ base s. item_leapt Strings.scan (StringIs base) (λ (w : List ℕ) (m : ℕ). length w ≡ m) base step_of (string_likes base) (string_bounds base)
            (string_steps base)
            part x ks (spot_of (x.at + read.end) v x.depth (x.records + n) (x.stored + read.value)) (Takes (open_quote (get_or part x.at 0)) 0) k.u
            Strings.begin (strings_begin base x.at (get_or part x.at 0) e)
            (λ m j o. rw (due_back v) (begins_so _ m (open_quote (get_or part x.at 0)) 0 j v x.depth (x.records + n) x.stored ks o
            (quote_begins x ks (base + x.at) (get_or part x.at 0) u v n c d e)))
            (λ i z. omega (arith, k.meant.counted)) (refl, omega arith) bs s k.runs
            (record { depth = refl; records = few c; stored = omega (arith, k.meant.counted, k.meant.room); past = a; within = l });
      })
    where
      few : {u v : DueOf.Due} {n : ℕ} → Quotes u v n → x.records + n ≤ x.records + 1
      few Quotes.value = omega arith
      few Quotes.key = omega arith
      few Quotes.part = omega arith
      few Quotes.key_part = omega arith

-- ---- identifiers

name_likes : (base : ℕ) (m : ModeOf.Mode) (s : Names.St) (n p b : ℕ) → NameIs m s n → b < 256 → base + p ≤ text_limit → sane_mode (base + p) m ≡ true
    → Alike NameIs (λ (u : List ℕ) (k : ℕ). length u ≡ k) base n (step_of m (base + p) b) (Names.scan p s b)
name_likes base m s n p b h l f o = by m (name_mode h) h
  where
    by : (m : ModeOf.Mode) → InName m → NameIs m s n
        → Alike NameIs (λ (u : List ℕ) (k : ℕ). length u ≡ k) base n (step_of m (base + p) b) (Names.scan p s b)
    by _ naming i = name_alike base s n p b i

name_bounds : (m : ModeOf.Mode) (s : Names.St) (n p b : ℕ) → NameIs m s n → sane_mode p m ≡ true → Bounded (suc p) (step_of m p b)
name_bounds m s n p b h o = by m (name_mode h)
  where
    by : (m : ModeOf.Mode) → InName m → Bounded (suc p) (step_of m p b)
    by _ naming = name_bounded (suc p) b

name_steps : (m : ModeOf.Mode) (s : Names.St) (n p b : ℕ) (x : Stand) → NameIs m s n → on_mode x p b m ≡ done x p b (step_of m p b)
unfolding on_mode
name_steps m s n p b x h = by m (name_mode h)
  where
    by : (m : ModeOf.Mode) → InName m → on_mode x p b m ≡ done x p b (step_of m p b)
    by _ naming = refl

-- a letter's class, where a key may stand
key_class : (x : Stand) (p b : ℕ) (c : Class) → ClassIs b c → SortIs b Names.letter → on_key x p b c ≡ begun x Mode.Naming Due.AfterKey 1
key_class x p b dollar_c i s = refl
key_class x p b letter_n i s = refl
key_class x p b letter_t i s = refl
key_class x p b letter_f i s = refl
key_class x p b letter_c i s = refl
key_class x p b blank_c i s = absurd (omega (arith, i.0, s.0))
key_class x p b hash_c i s = absurd (omega (arith, s.0))
key_class x p b slash_c i s = absurd (omega (arith, s.2 (omega arith)))
key_class x p b comma_c i s = absurd (omega (arith, s.2 (omega arith)))
key_class x p b colon_c i s = absurd (omega (arith, s.2 (omega arith)))
key_class x p b plus_c i s = absurd (omega (arith, s.2 (omega arith)))
key_class x p b quote_c i s = absurd (omega (arith, i.0, s.0, s.2 (omega (arith, i.0)), i.1 (λ e. omega (arith, s.0))))
key_class x p b other_c i s = absurd (by (dec_lt b (ch "A")) (dec_lt b (ch "a")) (dec_lt (ch "Z") b))
  where
    by : Dec (b < ch "A") → Dec (b < ch "a") → Dec (ch "Z" < b) → ⊥
    by (Dec.yes h) q w = i.3 (s.2 h)
    by (Dec.no h) (Dec.yes g) w = i.2 (s.3 (i.0 (omega arith)) g)
    by (Dec.no h) (Dec.no g) w = omega (arith, i.1 (omega arith), s.1)
key_class x p b (open_c square) i s = absurd (omega (arith, s.3 (omega arith) (omega arith)))
key_class x p b (open_c curly) i s = absurd (omega (arith, s.1))
key_class x p b (close_c square) i s = absurd (omega (arith, s.3 (omega arith) (omega arith)))
key_class x p b (close_c curly) i s = absurd (omega (arith, s.1))

name_begins : (x : Spot) (ks : List ℕ) (p b : ℕ) → due_at x ≡ Due.Key → Names.class_of b ≡ Names.letter
    → next (stand_of x ks) p b ≡ begun (stand_of x ks) Mode.Naming Due.AfterKey 1
unfolding on_mode between
name_begins x ks p b u e = rw u (key_class _ p b (class_of b) (class_is_lem b) (rw e at (sort_is_lem b)))

name_first : (base p b : ℕ) → Names.class_of b ≡ Names.letter
    → Alike NameIs (λ (u : List ℕ) (k : ℕ). length u ≡ k) base 0 (Takes Mode.Naming 1) (Names.scan p (Names.name []) b)
unfolding next_name
name_first base p b e =
    let z : next_name b ≡ Takes Mode.Naming 1 = rw e in
    subst (λ (o : OutOf.Out). Alike NameIs (λ (u : List ℕ) (k : ℕ). length u ≡ k) base 0 o (Names.scan p (Names.name []) b)) z
    (name_alike base (Names.name []) 0 p b (named refl))

module _ (part : List ℕ) (x : Spot) (ks : List ℕ) (y : Spot) where
  -- the identifier's run, from among its letters
  name_ran : (q : ℕ) → NameEnds part x.at q → q < length part
      → ran Names.scan x.at (Names.name []) (drop x.at part) ≡ ended (take (q - x.at) (drop x.at part)) q
  unfolding ran Names.scan Names.on_name
  name_ran q h l =
      h.goes [] ∙ ap (λ (t : List ℕ). ran Names.scan q (Names.name (take (q - x.at) (drop x.at part))) t) (drop-cons part q 0 l)
      ∙ rw (h.stopped l)

  pub name_skips : (q : ℕ) → Placed part x → Bytes part → due_at x ≡ Due.Key → Names.class_of (get_or part x.at 0) ≡ Names.letter
      → NameEnds part x.at q → q < length part → y ≡ spot_of q Due.AfterKey x.depth (x.records + 1) (x.stored + (q - x.at)) → Skips part x ks y ks
  unfolding sane_mode
  name_skips q r bs u e h l g =
      let a : x.at < q = past (eqb x.at q) refl in
      let n : length (take (q - x.at) (drop x.at part)) ≡ q - x.at = length-take-le (q - x.at) (drop x.at part) (simp length-drop (omega arith)) in
      rw g (record {
        behind = omega arith;
        within = omega arith;
        from = λ base s. item_leapt Names.scan NameIs (λ (w : List ℕ) (m : ℕ). length w ≡ m) base step_of (name_likes base) name_bounds name_steps part x ks
            (spot_of q Due.AfterKey x.depth (x.records + 1) (x.stored + (q - x.at))) (Takes Mode.Naming 1) (take (q - x.at) (drop x.at part))
            (Names.name []) (name_first base x.at (get_or part x.at 0) e)
            (λ m j o. begins_so _ m Mode.Naming 1 j Due.AfterKey x.depth (x.records + 1) x.stored ks o
            (name_begins x ks (base + x.at) (get_or part x.at 0) u e))
            (λ k z. omega arith) (refl, omega arith) bs s (name_ran q h l)
            (record { depth = refl; records = omega arith; stored = omega arith; past = a; within = l });
      })
    where
      past : (t : Bool) → eqb x.at q ≡ t → x.at < q
      past true z = absurd (no_letter (sym e ∙ (let k = eqb-true x.at q z in rw k (h.stopped l))))
        where
          no_letter : Names.letter ≡ Names.neither → ⊥
          no_letter z' = let w : ◌≡◌ {A = ℕ} 0 1 = cc in omega arith
      past false z = less (eqb-false x.at q z)
        where
          less : (x.at ≡ q → ⊥) → x.at < q
          less f = omega (arith, h.onward.behind)

-- ---- numbers and time values

numeric_likes : (base : ℕ) (m : ModeOf.Mode) (s : Numeric.St) (n p b : ℕ) → NumericIs base m s n → b < 256 → base + p ≤ text_limit → sane_mode (base + p) m
    ≡ true
    → Alike (NumericIs base) MeaningGives base n (step_of m (base + p) b) (Numeric.scan p s b)
unfolding sane_mode
numeric_likes base m s n p b h l f o = by m (numeric_mode h) h o
  where
    by : (m : ModeOf.Mode) → InNumber m → NumericIs base m s n → sane_mode (base + p) m ≡ true
        → Alike (NumericIs base) MeaningGives base n (step_of m (base + p) b) (Numeric.scan p s b)
    by _ (InNumber.spelling {i = i}) h' o' = spelling_alike base i s n p b h' l
    by _ (counting {f = g}) h' o' = figures_alike base g s n p b h' l o' f
    by _ (timing {s = t} {m = k}) h' o' = timing_alike base t k s n p b h' l

numeric_bounds : (base : ℕ) (m : ModeOf.Mode) (s : Numeric.St) (n p b : ℕ) → NumericIs base m s n → sane_mode p m ≡ true → Bounded (suc p) (step_of m p b)
unfolding sane_mode
numeric_bounds base m s n p b h o = by m (numeric_mode h) o
  where
    by : (m : ModeOf.Mode) → InNumber m → sane_mode p m ≡ true → Bounded (suc p) (step_of m p b)
    by _ (InNumber.spelling {i = i}) o' = word_bounded (suc p) i p b
    by _ (counting {f = g}) o' = figures_bounded g p b o'
    by _ (timing {s = t} {m = k}) o' = times_bounded t k (suc p) p b

numeric_steps : (base : ℕ) (m : ModeOf.Mode) (s : Numeric.St) (n p b : ℕ) (x : Stand) → NumericIs base m s n → on_mode x p b m ≡ done x p b (step_of m p b)
unfolding on_mode
numeric_steps base m s n p b x h = by m (numeric_mode h)
  where
    by : (m : ModeOf.Mode) → InNumber m → on_mode x p b m ≡ done x p b (step_of m p b)
    by _ InNumber.spelling = refl
    by _ counting = refl
    by _ timing = refl

no_number : (p b : ℕ) (s : Numeric.St) → Numeric.fst_of b ≡ Numeric.other_f → Numeric.scan p Numeric.begin b ≡ Scan.takes s → ⊥
no_number p b s e h = let z : Scan.breaks (NotGrammar p) ≡ Scan.takes s = rw e at h in let w : ◌≡◌ {A = ℕ} 0 1 = cc in omega arith

-- a byte that begins a number or a time value, where a value may stand
number_class : (x : Stand) (p p' b : ℕ) (s : Numeric.St) (c : Class) → ClassIs b c → Plainly b → Numeric.scan p' Numeric.begin b ≡ Scan.takes s
    → on_value x p b c ≡ begun_figure x p (begin_figure p b)
number_class x p p' b s plus_c i f h = refl
number_class x p p' b s letter_c i f h = refl
number_class x p p' b s other_c i f h = refl
number_class x p p' b s blank_c i f h = absurd (omega (arith, i.0, f.high))
number_class x p p' b s quote_c i f h = absurd (f.single (i.1 f.double))
number_class x p p' b s hash_c i f h = absurd (no_number p' b s (rw i) h)
number_class x p p' b s slash_c i f h = absurd (no_number p' b s (rw i) h)
number_class x p p' b s comma_c i f h = absurd (no_number p' b s (rw i) h)
number_class x p p' b s colon_c i f h = absurd (no_number p' b s (rw i) h)
number_class x p p' b s dollar_c i f h = absurd (no_number p' b s (rw i) h)
number_class x p p' b s letter_n i f h = absurd (no_number p' b s (rw i) h)
number_class x p p' b s letter_t i f h = absurd (no_number p' b s (rw i) h)
number_class x p p' b s letter_f i f h = absurd (no_number p' b s (rw i) h)
number_class x p p' b s (open_c square) i f h = absurd (no_number p' b s (rw i) h)
number_class x p p' b s (open_c curly) i f h = absurd (no_number p' b s (rw i) h)
number_class x p p' b s (close_c square) i f h = absurd (no_number p' b s (rw i) h)
number_class x p p' b s (close_c curly) i f h = absurd (no_number p' b s (rw i) h)

number_begins : (x : Spot) (ks : List ℕ) (p p' b : ℕ) (s : Numeric.St) → due_at x ≡ Due.Value → Plainly b → Numeric.scan p' Numeric.begin b ≡ Scan.takes s
    → next (stand_of x ks) p b ≡ begun_figure (stand_of x ks) p (begin_figure p b)
unfolding on_mode between
number_begins x ks p p' b s u f h = simp u (number_class (here_of Mode.At Due.Value x.depth x.records x.stored, ks) p p' b s (class_of b) (class_is_lem b) f h)

taken_first : {S M : Type 0} (scan : ℕ → S → ℕ → Scan.Out S M) (p : ℕ) (s : S) (b : ℕ) (t : List ℕ) (v : M) (q : ℕ) → ran scan p s (b ∷ t) ≡ ended v q
    → p < q → (s' : S) × (scan p s b ≡ Scan.takes s')
unfolding ran
taken_first scan p s b t v q h l = by (scan p s b) refl h
  where
    by : (o : Scan.Out _ _) → scan p s b ≡ o → goes_on scan p (λ s'. ran scan (suc p) s' t) o ≡ ended v q → (s' : _) × (scan p s b ≡ Scan.takes s')
    by (Scan.takes s') e h' = (s', e)
    by (Scan.stops v') e h' = absurd (let z : p ≡ q = cc in omega arith)
    by (Scan.breaks r) e h' = absurd (let z : ◌≡◌ {A = ℕ} 0 1 = cc in omega arith)

means_none : {i : Item} {m : Meaning} → Means i m → length (store_of m) ≡ 0
unfolding store_of
means_none null = refl
means_none bool = refl
means_none number = refl
means_none time = refl

figure_starts : (z : Stand) (p : ℕ) (o : OutOf.Out) (m : ModeOf.Mode) (j : ℕ) → o ≡ Takes m j → begun_figure z p o ≡ begun z m Due.AfterValue j
unfolding begun_figure
figure_starts z p o m j e = rw e

module _ (part : List ℕ) (x : Spot) (ks : List ℕ) (y : Spot) where
  pub numeric_skips : (i : Item) (q : ℕ) → Placed part x → Bytes part → due_at x ≡ Due.Value → Plainly (get_or part x.at 0) → Took part x.at i q
      → q < length part → y ≡ spot_of q Due.AfterValue x.depth (x.records + 1) (x.stored + 0) → Skips part x ks y ks
  numeric_skips i q r bs u f h l g =
      let a = h.past in
      let w = r.within in
      let t = taken_first Numeric.scan x.at Numeric.begin (get_or part x.at 0) (drop (suc x.at) part) h.m q
      (ap (λ (t' : List ℕ). ran Numeric.scan x.at Numeric.begin t') (sym (drop-cons part x.at 0 w)) ∙ h.runs) a in
      rw g (record {
        behind = omega arith;
        within = omega arith;
        from = λ base s. item_leapt Numeric.scan (NumericIs base) MeaningGives base step_of (numeric_likes base) (numeric_bounds base) (numeric_steps base) part
            x ks
            (spot_of q Due.AfterValue x.depth (x.records + 1) (x.stored + 0)) (begin_figure (base + x.at) (get_or part x.at 0)) h.m Numeric.begin
            (numeric_begin base x.at (get_or part x.at 0) (bs x.at))
            (λ m j o. number_begins x ks (base + x.at) x.at (get_or part x.at 0) t.0 u f t.1
            ∙ figure_starts (stand_of x ks) (base + x.at) (begin_figure (base + x.at) (get_or part x.at 0)) m j o)
            (λ k z. omega (arith, z.1, means_none h.means)) (begin_bounded (base + x.at) (get_or part x.at 0)) bs s h.runs
            (record { depth = refl; records = omega arith; stored = omega arith; past = a; within = l });
      })
