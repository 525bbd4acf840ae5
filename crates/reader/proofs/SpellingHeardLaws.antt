-- What the next colon names: behind a key it is that key, and where an item is read, the item ends. Assumes nothing.
use mathlib.Core.Path.{◌≡◌, refl, sym, ap, ◌∙◌}
use mathlib.Core.Option.{Option, none, some}
use mathlib.Core.List.{List, [], ◌∷◌, ◌++◌}
use Prim.Native.Nat.{ℕ, suc, ◌≤◌, ◌<◌}
use native.Mathlib.Omega.{arith}
use lib.ListN.{length, drop, get_or}
use lib.Seq.{drop-cons}
use Rattle.meaning.specs.declared.Refusal.{Refusal}
use Rattle.machine.specs.Scan.{Out, takes, stops, breaks, Ran, ended, broke, unended, goes_on, ran}
use Rattle.machine.specs.Machine.{Item, Got, key, string, as_key, string_part, identifier, want_key, got, base}
use Rattle.machine.specs.Machine.{item}
use Rattle.machine.specs.Machine.{Frame, Conf, at, fail, lift, on_got, on_out, square, curly}
use Rattle.machine.specs.Machine.{Class, class_of, blank_c, hash_c, slash_c, comma_c, colon_c, plus_c, quote_c, dollar_c, letter_n, letter_t, letter_f}
use Rattle.machine.specs.Machine.{letter_c, other_c}
use Rattle.machine.specs.Machine.{open_c, close_c}
use Rattle.machine.specs.Machine as Machine
use Rattle.machine.specs.Heard.{Heard, Told, tell, key_heard, key_at, at_got, at_key, at_out}
use Rattle.machine.specs.Strings
use Rattle.machine.specs.Names
use Rattle.machine.proofs.Heard.{fail_told}
use Rattle.machine.proofs.Layouts.{Lay, plain_l, slash_l, line_l, mode_of, layout_keeps}
use Rattle.machine.proofs.Lift.{item_breaks, string_quiet, name_quiet}
use Rattle.reader.specs.Between.Scanning.{Goes, Bare}
use Rattle.reader.specs.Between.Joined.{Alone, Joining, Stray}
use Rattle.reader.specs.Between.Spelling.{NamesNext, got_parts, got_name}
use Rattle.reader.proofs.ScanningLaws.{onto, at_end}
use Rattle.reader.proofs.ScanningItemLaws.{lift_done}
use Rattle.reader.proofs.JoinedLaws.{whole_is, strings}

-- a state's key is named, from p on over t
abbrev Naming : ℕ → Conf → List ℕ → List ℕ → Type 0
Naming p c t u = key_heard (tell p c t).heard ≡ some u

-- nothing heard, no key
none_named : {hs : List Heard} {u : List ℕ} → hs ≡ [] → key_heard hs ≡ some u → ⊥
none_named e h = let z : ◌≡◌ {A = Option (List ℕ)} none (some _) = sym (ap key_heard e) ∙ h in let y : ◌≡◌ {A = ℕ} 0 1 = cc in omega arith

refused_named : (p : ℕ) (r : Refusal) (t u : List ℕ) → Naming p (fail r) t u → ⊥
refused_named p r t u h = none_named (ap (λ (x : Told). x.heard) (fail_told t p r)) h

-- ---- behind a key

module _ (e : List ℕ) (d : ℕ) (k : List Frame) (u : List ℕ) where
  -- behind e, in layout or not, only e is named
  abbrev Only : ℕ → List ℕ → Type 0
  Only p t = (l : Lay) → Naming p (at (mode_of l (got (key e))) d k) t u → e ≡ u

  module _ (p : ℕ) (t : List ℕ) (more : Only (suc p) t) where
    abbrev Then : List Heard → Conf → Type 0
    Then hs c = key_heard (hs ++ (tell (suc p) c t).heard) ≡ some u → e ≡ u

    odd_named : Then [] (Machine.odd p)
    odd_named h = absurd (refused_named (suc p) _ t u h)

    got_class : (c : Class) → Then (at_got (key e) c) (on_got p d k (key e) c)
    got_class blank_c h = more plain_l h
    got_class hash_c h = more line_l h
    got_class slash_c h = more slash_l h
    got_class colon_c h = cc
    got_class (close_c square) h = odd_named h
    got_class (close_c curly) h = absurd (let z : ◌≡◌ {A = ℕ} 0 1 = cc in omega arith)
    got_class comma_c h = odd_named h
    got_class plus_c h = odd_named h
    got_class (open_c c) h = odd_named h
    got_class quote_c h = odd_named h
    got_class dollar_c h = odd_named h
    got_class letter_n h = odd_named h
    got_class letter_t h = odd_named h
    got_class letter_f h = odd_named h
    got_class letter_c h = odd_named h
    got_class other_c h = odd_named h

    on_byte : (b : ℕ) → Only p (b ∷ t)
    unfolding tell
    on_byte b = layout_keeps Then p d k (got (key e)) odd_named more b (got_class (class_of b))

  only_key : (t : List ℕ) (p : ℕ) → Only p t
  unfolding tell
  only_key [] p l h = absurd (let z : ◌≡◌ {A = ℕ} 0 1 = cc in omega arith)
  only_key (b ∷ t) p l h = on_byte p t (only_key t (suc p)) b l h

module _ (text : List ℕ) (u : List ℕ) where
  -- two states that go alike name the same
  pub goes_named : (c d : Conf) (p q : ℕ) → Goes text c p d q → NamesNext text c p u → NamesNext text d q u
  goes_named c d p q g h = sym (ap (λ (x : Told). key_heard x.heard) g) ∙ h

  pub name_is : (e : List ℕ) (p : ℕ) → NamesNext text (got_name e) p u → e ≡ u
  name_is e p h = only_key e 0 [] u (drop p text) p plain_l h

  -- at the text's end nothing is
  pub end_names : (c : Conf) (p : ℕ) → length text ≤ p → NamesNext text c p u → ⊥
  end_names c p l h = none_named (ap (λ (x : Told). x.heard) (at_end c text p l)) h

  -- behind the last part the key is known
  pub parts_are : (e : List ℕ) (p q : ℕ) → Alone text p q → NamesNext text (got_parts e) p u → e ≡ u
  parts_are e p q a h =
      name_is e q
      (goes_named (got_parts e) (got_name e) q q (whole_is (string as_key e) (key e) refl refl text q a.bare a.plusless 0 [])
      (goes_named (got_parts e) (got_parts e) p q (a.goes (got (string as_key e)) 0 []) h))

  -- or the next one begins
  pub parts_go_on : (e : List ℕ) (p q : ℕ) → Joining text p q → NamesNext text (got_parts e) p u
      → NamesNext text (at (item (string_part as_key e Strings.begin)) 0 []) q u
  parts_go_on e p q j h =
      let next = strings.wants as_key e in
      goes_named (at (base next) 0 []) (at (item (string_part as_key e Strings.begin)) 0 []) q q (strings.opens text as_key e q j.bare 0 [])
      (goes_named (got_parts e) (at (base next) 0 []) p q (j.goes (string as_key e) next (strings.joins as_key e) 0 []) h)

  -- or nothing is named
  pub parts_stray : (e : List ℕ) (p : ℕ) (why : Refusal) → Stray text p why → NamesNext text (got_parts e) p u → ⊥
  parts_stray e p why s h = none_named (ap (λ (x : Told). x.heard) (s (string as_key e) (strings.wants as_key e) (strings.joins as_key e) 0 [])) h

-- ---- where an item is read

-- what the run of an item comes to, and then what is named
pub record Ends {M : Type 0} (text : List ℕ) (run : Ran M) (next : M → Conf) (u : List ℕ) : Type 0 where
  pub value : M
  pub close : ℕ
  pub runs : run ≡ ended value close
  pub names : NamesNext text (next value) close u

module _ {S M : Type 0} (scan : ℕ → S → ℕ → Out S M) (f : S → Item) (g : M → Got)
    (lifts : (p : ℕ) (s : S) (b : ℕ) → Machine.scan p (f s) b ≡ lift f g (scan p s b)) where
  -- where it does not end, nothing is heard
  unended_quiet : (t : List ℕ) (p : ℕ) (s : S) → ran scan p s t ≡ unended → (tell p (at (item (f s)) 0 []) t).heard ≡ []
  unfolding tell ran
  unended_quiet [] p s e = refl
  unended_quiet (b ∷ t) p s e = go (scan p s b) refl e (unended_quiet t (suc p))
    where
      on : (o : Out S M) → scan p s b ≡ o → Machine.scan p (f s) b ≡ lift f g o
      on o e = lifts p s b ∙ ap (lift f g) e

      heard_by : (o : Out Item Got) → Machine.scan p (f s) b ≡ o
          → at_out b (Machine.scan p (f s) b) ++ (tell (suc p) (on_out p 0 [] b (Machine.scan p (f s) b)) t).heard ≡ at_out b o
          ++ (tell (suc p) (on_out p 0 [] b o) t).heard
      heard_by o e = ap (λ (x : Out Item Got). at_out b x ++ (tell (suc p) (on_out p 0 [] b x) t).heard) e

      go : (o : Out S M) → scan p s b ≡ o → goes_on scan p (λ s'. ran scan (suc p) s' t) o ≡ unended
          → ((s' : S) → ran scan (suc p) s' t ≡ unended → (tell (suc p) (at (item (f s')) 0 []) t).heard ≡ [])
          → at_out b (Machine.scan p (f s) b) ++ (tell (suc p) (on_out p 0 [] b (Machine.scan p (f s) b)) t).heard ≡ []
      go (takes s') w h ih = heard_by (takes (f s')) (on (takes s') w) ∙ ih s' h
      go (stops x) w h ih = absurd (let z : ◌≡◌ {A = ℕ} 0 1 = cc in omega arith)
      go (breaks r) w h ih = absurd (let z : ◌≡◌ {A = ℕ} 0 1 = cc in omega arith)

  -- where a key is named from an item on, the item ends
  pub item_named : (text : List ℕ) (p : ℕ) (s : S) (u : List ℕ) → NamesNext text (at (item (f s)) 0 []) p u
      → Ends text (ran scan p s (drop p text)) (λ v. at (base (got (g v))) 0 []) u
  item_named text p s u h = go (ran scan p s (drop p text)) refl
    where
      go : (r : Ran M) → ran scan p s (drop p text) ≡ r → Ends text (ran scan p s (drop p text)) (λ v. at (base (got (g v))) 0 []) u
      go (ended v q) e = record {
        value = v;
        close = q;
        runs = e;
        names = goes_named text u (at (item (f s)) 0 []) (at (base (got (g v))) 0 []) p q (lift_done scan f g lifts 0 [] text p s v q e) h;
      }
      go (broke r) e = absurd (none_named (ap (λ (x : Told). x.heard) (item_breaks scan f g lifts 0 [] (drop p text) p s r e)) h)
      go unended e = absurd (none_named (unended_quiet (drop p text) p s e) h)

-- a part that begins behind others
pub next_part : (text : List ℕ) (p : ℕ) (e u : List ℕ) → NamesNext text (at (item (string_part as_key e Strings.begin)) 0 []) p u
    → Ends text (ran Strings.scan p Strings.begin (drop p text)) (λ v. got_parts (e ++ v)) u
unfolding Strings.scan
next_part text p e u h = item_named Strings.scan (string_part as_key e) (λ x. string as_key (e ++ x)) (λ p s b. refl) text p Strings.begin u h

-- ---- where a key is wanted

-- at a quote a part begins, at a letter an identifier, and nothing is named behind another byte
module _ (p b : ℕ) (t u : List ℕ) where
  -- the item begins and takes its first byte in silence
  begins_quietly : (i : Item) → at_out b (Machine.scan p i b) ≡ [] → key_heard (tell (suc p) (Machine.start p 0 [] b i) t).heard ≡ some u
      → Naming p (at (item i) 0 []) (b ∷ t) u
  unfolding tell
  begins_quietly i e h = ap (λ (x : List Heard). key_heard (x ++ (tell (suc p) (Machine.start p 0 [] b i) t).heard)) e ∙ h

  abbrev as_named : Type 0
  as_named = Naming p (at (item (identifier Names.begin)) 0 []) (b ∷ t) u

  name_begins : (c : Class) → (c ≡ blank_c → ⊥) → (c ≡ hash_c → ⊥) → (c ≡ slash_c → ⊥) → (c ≡ quote_c → ⊥)
      → key_heard (at_key p c ++ (tell (suc p) (Machine.on_key p 0 [] b c) t).heard) ≡ some u → as_named
  name_begins blank_c i j k q h = absurd (i refl)
  name_begins hash_c i j k q h = absurd (j refl)
  name_begins slash_c i j k q h = absurd (k refl)
  name_begins quote_c i j k q h = absurd (q refl)
  name_begins dollar_c i j k q h = begins_quietly (identifier Names.begin) (name_quiet p b) h
  name_begins letter_n i j k q h = begins_quietly (identifier Names.begin) (name_quiet p b) h
  name_begins letter_t i j k q h = begins_quietly (identifier Names.begin) (name_quiet p b) h
  name_begins letter_f i j k q h = begins_quietly (identifier Names.begin) (name_quiet p b) h
  name_begins letter_c i j k q h = begins_quietly (identifier Names.begin) (name_quiet p b) h
  name_begins (close_c square) i j k q h = absurd (refused_named (suc p) _ t u h)
  name_begins (close_c curly) i j k q h = absurd (let z : ◌≡◌ {A = ℕ} 0 1 = cc in omega arith)
  name_begins (open_c c) i j k q h = absurd (refused_named (suc p) _ t u h)
  name_begins colon_c i j k q h = absurd (refused_named (suc p) _ t u h)
  name_begins comma_c i j k q h = absurd (refused_named (suc p) _ t u h)
  name_begins plus_c i j k q h = absurd (refused_named (suc p) _ t u h)
  name_begins other_c i j k q h = absurd (refused_named (suc p) _ t u h)

  part_begins : (c : Class) → c ≡ quote_c → key_heard (at_key p c ++ (tell (suc p) (Machine.on_key p 0 [] b c) t).heard) ≡ some u
      → Naming p (at (item (string_part as_key [] Strings.begin)) 0 []) (b ∷ t) u
  part_begins c e h = begins_quietly (string_part as_key [] Strings.begin) (string_quiet as_key [] p b) (rw e at h)

module _ (text : List ℕ) (p : ℕ) (u : List ℕ) (l : p < length text) where
  -- the byte at p, and the rest
  at_byte : (c : Conf) → Naming p c (get_or text p 0 ∷ drop (suc p) text) u → NamesNext text c p u
  at_byte c h = rw (drop-cons text p 0) h

  key_heard_lem : key_at text p ≡ some u
      → key_heard (at_key p (class_of (get_or text p 0)) ++ (tell (suc p) (Machine.on_key p 0 [] (get_or text p 0) (class_of (get_or text p 0)))
      (drop (suc p) text)).heard)
      ≡ some u
  unfolding key_at
  key_heard_lem e = ap (λ (x : Told). key_heard x.heard) (sym (onto (at (base want_key) 0 []) text p l)) ∙ e

  -- the key begins with a part
  pub key_part : class_of (get_or text p 0) ≡ quote_c → key_at text p ≡ some u
      → Ends text (ran Strings.scan p Strings.begin (drop p text)) (λ v. got_parts v) u
  key_part q e =
      next_part text p [] u
      (at_byte (at (item (string_part as_key [] Strings.begin)) 0 [])
      (part_begins p (get_or text p 0) (drop (suc p) text) u (class_of (get_or text p 0)) q (key_heard_lem e)))

  -- or is an identifier
  pub key_name : Bare text p → (class_of (get_or text p 0) ≡ quote_c → ⊥) → key_at text p ≡ some u
      → Ends text (ran Names.scan p Names.begin (drop p text)) (λ v. got_name v) u
  unfolding Names.scan
  key_name b q e =
      item_named Names.scan identifier key (λ p s b. refl) text p Names.begin u
      (at_byte (at (item (identifier Names.begin)) 0 [])
      (name_begins p (get_or text p 0) (drop (suc p) text) u (class_of (get_or text p 0)) (b.no_blank l) (b.no_hash l) (b.no_slash l) q (key_heard_lem e)))
