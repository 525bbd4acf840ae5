-- Keys: identifiers, and strings where a key is wanted. Assumes nothing.
use mathlib.Core.Path.{◌≡◌, refl, sym, ap, ◌∙◌}
use mathlib.Core.List.{List, [], ◌∷◌, ◌++◌}
use Prim.Native.Nat.{ℕ, suc, ◌+◌, ◌-◌, ◌≤◌, ◌<◌}
use native.Mathlib.Omega.{arith}
use native.Mathlib.Decide.{dec_lt}
use lib.ListN.{length, take, drop, get_or, length-take, length-drop}
use lib.Seq.{drop-cons, sets}
use Rattle.meaning.specs.declared.Refusal.TheVariants.{NotGrammar}
use Rattle.meaning.specs.Letters.{ch}
use Rattle.machine.specs.Scan.{takes, ended, ran}
use Rattle.machine.specs.Machine.{Use, as_value, as_key, Item, identifier, Got, key, string, Base, want_key, base, item, Frame}
use Rattle.machine.specs.Machine.{Conf, at, step, finish, on_key, on_out, odd, close_wanted, Bracket, square, curly, Class}
use Rattle.machine.specs.Machine.{class_of, blank_c, hash_c, slash_c, comma_c, colon_c, plus_c, quote_c, dollar_c, letter_n, letter_t}
use Rattle.machine.specs.Machine.{letter_f, letter_c, other_c, open_c, close_c}
use Rattle.machine.specs.Machine as Machine
use Rattle.machine.specs.Heard.{Heard, starts, after, at_key}
use Rattle.machine.specs.Names
use Rattle.machine.specs.Names.{letter, figure, neither}
use Rattle.items.specs.Between.Identifier.{NameEnds}
use Rattle.reader.specs.Between.Scanning.{Hears, Refuses, Bare, Shut}
use Rattle.reader.specs.Between.Joined.{BytesSays, string_part_of, KeySays}
use Rattle.std.specs.Prelude.{Result, Ok, Err}
use Rattle.meaning.specs.declared.Refusal.{Refusal}
use Rattle.items.specs.declared.Taken.{Taken}
use Rattle.items.specs.Between.NumberOrTime.{taken}
use Rattle.reader.proofs.ScanningLaws.{alike_hearing, stop, halt, then_refused}
use Rattle.reader.proofs.JoinedLaws.{whole_is}
use Rattle.machine.proofs.Lift.{string_quiet, name_quiet}
use Rattle.machine.proofs.Classes.{ClassIs, class_is_lem}
use Rattle.reader.proofs.ScanningItemLaws.{lift_done}
use Rattle.machine.proofs.Tables.{◌&◌, cut_is}
use Rattle.items.proofs.PlacesLaws.{run_take, run_stop, end_stop}

-- ---- where a key is wanted

-- what a byte of this class does there
abbrev asked : ℕ → ℕ → List Frame → ℕ → Class → Conf × List Heard
asked p d k b c = (on_key p d k b c, at_key p c)

class_quote : (b : ℕ) (c : Class) → c ≡ quote_c → (p d : ℕ) (k : List Frame)
    → asked p d k b c ≡ (on_out p d k b (Machine.scan p (string_part_of as_key []) b), starts p ∷ [])
class_quote b c e p d k = rw e

module _ (text : List ℕ) (p start : ℕ) (entry : List ℕ) where
  pub key_over : length text ≤ p → (d : ℕ) (k : List Frame) → Shut text p d k → Refuses text (at (base want_key) d k) p (NotGrammar p)
  key_over h d k s = halt (at (base want_key) d k) text p (NotGrammar p) h refl

  module _ (h : p < length text) where
    quoted : class_of (get_or text p 0) ≡ quote_c → (d : ℕ) (k : List Frame)
        → Hears text (at (base want_key) d k) p (starts p ∷ []) (at (item (string_part_of as_key [])) d k) p
    quoted e d k =
        alike_hearing (at (base want_key) d k) (at (item (string_part_of as_key [])) d k) text p (starts p ∷ []) h
        (class_quote (get_or text p 0) (class_of (get_or text p 0)) e p d k) (string_quiet as_key [] p (get_or text p 0))

    pub key_string : class_of (get_or text p 0) ≡ quote_c → (exit : List ℕ) (r : Result (Taken ℕ) Refusal)
        → BytesSays Use string_part_of string text p start entry exit r → KeySays text p start entry exit r
    key_string e exit (Ok t) w = record {
      u = w.u;
      runs = λ d k. quoted e d k
          ∙ ap (after (starts p ∷ [])) (w.runs as_key d k ∙ whole_is (string as_key w.u) (key w.u) refl refl text t.end w.bare w.plusless d k);
      meant = w.meant;
      within = w.within;
    }
    key_string e exit (Err why) w = λ d k s. then_refused (quoted e d k) (w as_key d k)

-- ---- identifiers

abbrev pub SortIs : ℕ → Names.Class → Type 0
SortIs b letter = (ch "$" ≤ b) × (b ≤ ch "z") × (b < ch "A" → b ≡ ch "$") × (ch "Z" < b → b < ch "a" → b ≡ ch "_")
SortIs b figure = (ch "0" ≤ b) × (b ≤ ch "9")
SortIs b neither = (b ≡ ch "$" → ⊥) × (ch "A" ≤ b → ch "Z" < b) × (ch "a" ≤ b → ch "z" < b) × (b ≡ ch "_" → ⊥)

pub sort_is_lem : (b : ℕ) → SortIs b (Names.class_of b)
unfolding Names.class_of
sort_is_lem b =
    cut_is SortIs 0 Names.rows neither b (omega arith)
    ((λ l u. omega arith) & (λ l u. omega arith) & (λ l u. omega arith) & (λ l u. omega arith) & (λ l u. omega arith) &
    (λ l u. omega arith) & (λ l u. omega arith) & (λ l u. omega arith) & (λ l u. omega arith) & (λ l u. omega arith) & (λ l. omega arith))

letter_is : (b : ℕ) (s : Names.Class) → SortIs b s → s ≡ letter → SortIs b letter
letter_is b s x e = rw e at x

-- no letter
abbrev Unlettered : ℕ → Type 0
Unlettered b = (b ≡ ch "$" → ⊥) × (ch "A" ≤ b → ch "Z" < b) × (ch "a" ≤ b → ch "z" < b) × (b ≡ ch "_" → ⊥)

unlettered : (b : ℕ) (s : Names.Class) → SortIs b s → (s ≡ letter → ⊥) → Unlettered b
unlettered b letter x n = absurd (n refl)
unlettered b figure x n = (omega arith, omega arith, omega arith, omega arith)
unlettered b neither x n = x

not_other : (b : ℕ) → SortIs b letter → ClassIs b other_c → ⊥
not_other b x y = by (dec_lt b (ch "A")) (dec_lt b (ch "a"))
  where
    by : Dec (b < ch "A") → Dec (b < ch "a") → ⊥
    by (Dec.yes h) q = y.3 (x.2 h)
    by (Dec.no h) (Dec.yes g) = y.2 (x.3 (y.0 (omega arith)) g)
    by (Dec.no h) (Dec.no g) = omega (arith, y.1 (omega arith), x.1)

not_letter : (b : ℕ) → Unlettered b → ClassIs b letter_c → ⊥
not_letter b x y = by (dec_lt b (ch "a"))
  where
    by : Dec (b < ch "a") → ⊥
    by (Dec.yes g) = x.3 (y.2 (x.1 y.0) g)
    by (Dec.no g) = omega (arith, x.2 (omega arith), y.1)

module _ (p d : ℕ) (k : List Frame) where
  -- a letter begins an identifier
  named_class : (b : ℕ) (c : Class) → SortIs b letter → ClassIs b c
      → asked p d k b c ≡ (on_out p d k b (Machine.scan p (identifier Names.begin) b), starts p ∷ [])
  named_class b dollar_c x y = refl
  named_class b letter_n x y = refl
  named_class b letter_t x y = refl
  named_class b letter_f x y = refl
  named_class b letter_c x y = refl
  named_class b other_c x y = absurd (not_other b x y)
  named_class b blank_c x y = absurd (omega (arith, x.0, y.0))
  named_class b hash_c x y = absurd (omega (arith, x.0))
  named_class b slash_c x y = absurd (omega (arith, x.2 (omega arith)))
  named_class b comma_c x y = absurd (omega (arith, x.2 (omega arith)))
  named_class b colon_c x y = absurd (omega (arith, x.2 (omega arith)))
  named_class b plus_c x y = absurd (omega (arith, x.2 (omega arith)))
  named_class b quote_c x y = absurd (omega (arith, y.1 (omega (arith, x.0)), x.0, x.2 (omega (arith, y.0))))
  named_class b (open_c square) x y = absurd (omega (arith, x.3 (omega arith) (omega arith)))
  named_class b (open_c curly) x y = absurd (omega (arith, x.1))
  named_class b (close_c square) x y = absurd (omega (arith, x.3 (omega arith) (omega arith)))
  named_class b (close_c curly) x y = absurd (omega (arith, x.1))

  -- what is no letter and no quote begins no key
  unkeyed_class : (b : ℕ) (c : Class) → Unlettered b → ClassIs b c → (c ≡ blank_c → ⊥) → (c ≡ hash_c → ⊥) → (c ≡ slash_c → ⊥)
      → (c ≡ quote_c → ⊥) → ((y : Bracket) → c ≡ close_c y → close_wanted p d y k ≡ odd p)
      → on_key p d k b c ≡ odd p
  unkeyed_class b blank_c x y i j l q s = absurd (i refl)
  unkeyed_class b hash_c x y i j l q s = absurd (j refl)
  unkeyed_class b slash_c x y i j l q s = absurd (l refl)
  unkeyed_class b quote_c x y i j l q s = absurd (q refl)
  unkeyed_class b dollar_c x y i j l q s = absurd (x.0 y)
  unkeyed_class b letter_n x y i j l q s = absurd (omega (arith, x.2 (omega arith)))
  unkeyed_class b letter_t x y i j l q s = absurd (omega (arith, x.2 (omega arith)))
  unkeyed_class b letter_f x y i j l q s = absurd (omega (arith, x.2 (omega arith)))
  unkeyed_class b letter_c x y i j l q s = absurd (not_letter b x y)
  unkeyed_class b other_c x y i j l q s = refl
  unkeyed_class b comma_c x y i j l q s = refl
  unkeyed_class b colon_c x y i j l q s = refl
  unkeyed_class b plus_c x y i j l q s = refl
  unkeyed_class b (open_c c) x y i j l q s = refl
  unkeyed_class b (close_c c) x y i j l q s = s c refl

quote_class : (b : ℕ) (c : Class) → ClassIs b c → c ≡ quote_c → ClassIs b quote_c
quote_class b c x e = rw e at x

pub not_quote : (b : ℕ) → (b ≡ ch "\"" → ⊥) → (b ≡ ch "'" → ⊥) → class_of b ≡ quote_c → ⊥
not_quote b i j e = j ((quote_class b (class_of b) (class_is_lem b) e).1 i)

module _ (text : List ℕ) (p start : ℕ) (entry : List ℕ) (h : p < length text) where
  pub key_none : Bare text p → (get_or text p 0 ≡ ch "\"" → ⊥) → (get_or text p 0 ≡ ch "'" → ⊥) → (Names.class_of (get_or text p 0) ≡ letter → ⊥)
      → (d : ℕ) (k : List Frame) → Shut text p d k → Refuses text (at (base want_key) d k) p (NotGrammar p)
  key_none b i j n d k s = stop (at (base want_key) d k) text p (NotGrammar p) h
      (unkeyed_class p d k (get_or text p 0) (class_of (get_or text p 0))
      (unlettered (get_or text p 0) (Names.class_of (get_or text p 0)) (sort_is_lem (get_or text p 0)) n) (class_is_lem (get_or text p 0))
      (b.no_blank h) (b.no_hash h) (b.no_slash h) (not_quote (get_or text p 0) i j) (s h))

  module _ (e : Names.class_of (get_or text p 0) ≡ letter) (q : ℕ) (w : NameEnds text (p + 1) q) where
    begins : (d : ℕ) (k : List Frame) → Hears text (at (base want_key) d k) p (starts p ∷ []) (at (item (identifier Names.begin)) d k) p
    begins d k = alike_hearing (at (base want_key) d k) (at (item (identifier Names.begin)) d k) text p (starts p ∷ []) h
        (named_class p d k (get_or text p 0) (class_of (get_or text p 0))
        (letter_is (get_or text p 0) (Names.class_of (get_or text p 0)) (sort_is_lem (get_or text p 0)) e) (class_is_lem (get_or text p 0)))
        (name_quiet p (get_or text p 0))

    abbrev spelt : List ℕ
    spelt = (get_or text p 0 ∷ []) ++ take (q - (p + 1)) (drop (p + 1) text)

    first : Names.scan p Names.begin (get_or text p 0) ≡ takes (Names.name (get_or text p 0 ∷ []))
    unfolding Names.scan Names.on_start
    first = rw e

    last : ran Names.scan q (Names.name spelt) (drop q text) ≡ ended spelt q
    unfolding Names.scan Names.on_name Names.class_of
    last = by (dec_lt q (length text))
      where
        by : Dec (q < length text) → ran Names.scan q (Names.name spelt) (drop q text) ≡ ended spelt q
        by (Dec.yes g) = run_stop Names.scan text q (Names.name spelt) spelt g (rw (w.stopped g))
        by (Dec.no g) = end_stop Names.scan text q (Names.name spelt) spelt (omega arith) refl

    whole_run : ran Names.scan p Names.begin (drop p text) ≡ ended spelt q
    whole_run = run_take Names.scan text p Names.begin (Names.name (get_or text p 0 ∷ [])) h first ∙ w.goes (get_or text p 0 ∷ []) ∙ last

    spelt_is : take (q - p) (drop p text) ≡ spelt
    spelt_is =
        let n : q - p ≡ suc (q - (p + 1)) = omega (arith, w.onward.behind) in
        let m : suc p ≡ p + 1 = omega arith in
        rw (n, drop-cons text p 0, m)

    pub key_named : (exit : List ℕ) → exit ≡ sets entry start (take (q - p) (drop p text)) → KeySays text p start entry exit (Ok (taken (q - p) q))
    unfolding Names.scan
    key_named exit f =
        let l : length (take (q - p) (drop p text)) ≡ q - p = simp (length-take, length-drop) (omega (arith, w.onward.behind, w.onward.within)) in
        let l' : length spelt ≡ q - p = ap length (sym spelt_is) ∙ l in
        record {
          u = spelt;
          runs = λ d k. begins d k
              ∙ ap (after (starts p ∷ [])) (lift_done Names.scan identifier key (λ p s b. refl) d k text p Names.begin spelt q whole_run);
          meant = record {
            counted = sym l';
            filled = f ∙ ap (sets entry start) spelt_is;
            room = omega
                (arith, l', w.onward.behind);
            past = omega (arith, w.onward.behind);
          };
          within = w.onward.within;
        }

pub neither_letter : (b : ℕ) → Names.class_of b ≡ neither → Names.class_of b ≡ letter → ⊥
neither_letter b e f = let z : ◌≡◌ {A = ℕ} 0 1 = cc in omega arith

pub figure_letter : (b : ℕ) → Names.class_of b ≡ figure → Names.class_of b ≡ letter → ⊥
figure_letter b e f = let z : ◌≡◌ {A = ℕ} 0 1 = cc in omega arith
