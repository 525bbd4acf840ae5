-- A round of the loops over the elements of an array and the members of an object: what both have in common, once. Assumes nothing.
use mathlib.Core.Path.{◌≡◌, refl, sym, ap, ap₂, ◌∙◌, subst}
use mathlib.Core.List.{List, [], ◌∷◌, ◌++◌, append_assoc, append-nil}
use Prim.Native.Nat.{ℕ, suc, ◌+◌, ◌*◌, ◌-◌, ◌/◌, ◌≤◌, ◌<◌}
use native.Mathlib.Omega.{arith}
use lib.ListN.{length, get_or, set, length-append}
use lib.Seq.{sets, length-sets, set_comm}
use Rattle.meaning.specs.declared.Record.{Record}
use Rattle.meaning.specs.Letters.{ch}
use Rattle.meaning.specs.Limits.{text_limit}
use Rattle.meaning.specs.Meaning.{Meaning, Meanings, Members}
use Rattle.meaning.specs.Tape.{records, elements_records, members_records, store_of, elements_store, members_store, records_of}
use Rattle.meaning.specs.Tape.{elements_count, members_count, elements_of, members_of, record_bytes, records_bytes, end_of}
use Rattle.meaning.specs.Between.Events.{Event, named}
use Rattle.meaning.specs.Look.{whole_records}
use Rattle.meaning.proofs.Records.{record_length, records_append, records_bytes_length}
use Rattle.meaning.proofs.Sizes.{records_length, elements_length, members_length, elements_few, members_few}
use Rattle.grammar.specs.Values.{Inside, elements, members}
use Rattle.machine.specs.Machine.{close_c, close_wanted, odd, want, Frame, inside, pair, Bracket, square, curly, bare_of, shut}
use Rattle.machine.proofs.Classes.{closing, ClassIs, class_is_lem}
use Rattle.meaning.specs.declared.Refusal.{Refusal}
use Rattle.tape.specs.Between.Putting.{put_record}
use Rattle.tape.proofs.PuttingLaws.{record_room, sets_append, put_record_length}
use Rattle.reader.specs.declared.cursor.Cursor.{Cursor}
use Rattle.reader.specs.Between.Scanning.{Tells, Shut}
use Rattle.reader.specs.Between.Cursor.{Ready, AtValue, Inner, Moved, Begins, Took, Named, Adds, closer, closed}
use Rattle.reader.specs.Between.Cursor.{within, bare_in, wants, always, Left, AheadSays, MemberAheadSays, OneItem, Opened}
use Rattle.reader.specs.Between.Cursor.{record_item, AfterSays, opening_of, closing_of, Stood, keeping, keeping_before, Seen, MemberBegins}
use Rattle.reader.specs.Between.Cursor.{ValueSays, InsideSays}
use Rattle.reader.specs.Between.Repeat.{Led}
use Rattle.reader.proofs.ScanningLaws.{then_refused, then_tells, then_goes}
use Rattle.reader.proofs.CursorTableLaws.{Of, Noted, Opening, Closing, seen_further, opening_leads, opening_entered, noted_none, noted_seen}
use Rattle.reader.proofs.CursorTableLaws.{noted_sane, noted_further, noted_more, closing_level, closing_leads}
use Rattle.once.specs.Groups.{Sane}
use Rattle.once.specs.Windows.{level}
use Rattle.once.proofs.KeepingLaws.{keeps_further, goes_none}
use Rattle.items.specs.declared.Item.{Item}
use Rattle.std.specs.Prelude.{Result, Ok, Err}
use Rattle.reader.specs.declared.cursor.Ahead.{Ahead}
use Rattle.reader.specs.declared.cursor.After.{After}

-- ---- what is inside, for arrays and objects alike

abbrev pub records_in : Inside → ℕ
records_in (elements x) = elements_records x
records_in (members x) = members_records x

abbrev pub store_in : Inside → List ℕ
store_in (elements x) = elements_store x
store_in (members x) = members_store x

abbrev pub list_in : Inside → ℕ → ℕ → List Record
list_in (elements x) i s = elements_of x i s
list_in (members x) i s = members_of x i s

abbrev pub count_in : Inside → ℕ
count_in (elements x) = elements_count x
count_in (members x) = members_count x

abbrev pub header : Bracket → ℕ → ℕ → Record
header square n e = Record.Array n e
header curly n e = Record.Object n e

of_bare : (b : Bracket) → Of b (bare_of b)
of_bare square = tt
of_bare curly = tt

none_inside : (b : Bracket) → records_in (bare_of b) ≡ 0
unfolding elements_records members_records
none_inside square = refl
none_inside curly = refl

none_counted : (b : Bracket) → count_in (bare_of b) ≡ 0
unfolding elements_count members_count
none_counted square = refl
none_counted curly = refl

none_stored : (b : Bracket) → store_in (bare_of b) ≡ []
unfolding elements_store members_store
none_stored square = refl
none_stored curly = refl

none_listed : (b : Bracket) (i s : ℕ) → records_bytes (list_in (bare_of b) i s) ≡ []
unfolding elements_of members_of records_bytes
none_listed square i s = refl
none_listed curly i s = refl

shut_records : (y : Inside) → records (shut y) ≡ 1 + records_in y
unfolding records
shut_records (elements x) = refl
shut_records (members x) = refl

shut_store : (y : Inside) → store_of (shut y) ≡ store_in y
unfolding store_of
shut_store (elements x) = refl
shut_store (members x) = refl

shut_list : (b : Bracket) (y : Inside) → Of b y → (i s : ℕ)
    → records_of (shut y) i s ≡ header b (count_in y) (end_of i (records_in y)) ∷ list_in y (i + 1) s
unfolding records_of
shut_list square (elements x) o i s = refl
shut_list square (members x) o i s = absurd o
shut_list curly (elements x) o i s = absurd o
shut_list curly (members x) o i s = refl

list_length : (y : Inside) (i s : ℕ) → length (list_in y i s) ≡ records_in y
list_length (elements x) i s = elements_length x i s
list_length (members x) i s = members_length x i s

-- no more elements or members than records
few_in : (y : Inside) → count_in y ≤ records_in y
few_in (elements x) = elements_few x
few_in (members x) = members_few x

-- ---- stores that do not meet

set_sets : (l vs : List ℕ) (i j a : ℕ) → j < i → sets (set l j a) i vs ≡ set (sets l i vs) j a
set_sets l [] i j a h = refl
set_sets l (v ∷ vs) i j a h = ap (λ (t : List ℕ). sets t (suc i) vs) (set_comm l j i a v (λ e. omega arith)) ∙ set_sets (set l i v) vs (suc i) j a (omega arith)

sets_sets : (us vs l : List ℕ) (i j : ℕ) → j + length us ≤ i → sets (sets l i vs) j us ≡ sets (sets l j us) i vs
sets_sets [] vs l i j h = refl
sets_sets (u ∷ us) vs l i j h =
    ap (λ (t : List ℕ). sets t (suc j) us) (sym (set_sets l vs i j u (omega arith)))
    ∙ sets_sets us vs (set l j u) i (suc j) (omega arith)

room : (own n len : ℕ) → own < n → n * 16 ≤ len → own < len / 16
room own n len h l = omega arith

-- a header before what it heads
headed : (t : List ℕ) (own : ℕ) (r : Record) (inner : List ℕ) → own < whole_records t
    → put_record (sets t ((own + 1) * 16) inner) own r ≡ sets t (own * 16) (record_bytes r ++ inner)
headed t own r inner h =
    let n : whole_records (sets t ((own + 1) * 16) inner) ≡ whole_records t = ap (λ (k : ℕ). k / 16) (length-sets t ((own + 1) * 16) inner) in
    record_room (sets t ((own + 1) * 16) inner) own r (subst (λ (k : ℕ). own < k) (sym n) h)
    ∙ sets_sets (record_bytes r) inner t ((own + 1) * 16) (own * 16) (omega (arith, record_length r))
    ∙ sets_append t (own * 16) ((own + 1) * 16) (record_bytes r) inner (omega (arith, record_length r))

-- ---- what has been put of what is inside

-- the table behind a container's opening bracket
abbrev pub keeping_inside : List ℕ → List ℕ → Bracket → Cursor → Stood
keeping_inside text seen b o f s = Led text seen o.at f s (opening_of b)

-- a container has been read, from behind its opening bracket, with this many elements or members
abbrev pub Closed : List ℕ → List ℕ → List ℕ → List ℕ → List ℕ → List ℕ → List ℕ → Bracket → Cursor → ℕ → ℕ → Cursor → Type 0
Closed text tape₀ tape store₀ store seen₀ seen' b o depth count n =
    Took text (bare_in b depth) (suc depth) (opening_of b) (keeping_inside text seen₀ b o) o
    tape₀ (put_record tape o.records (header b count n.records)) store₀ store seen' n

-- its closing bracket has been passed: what is left is to put its own record and, of an object, to take its keys out of the table
pub record Ending (text tape₀ tape store₀ store seen₀ seen : List ℕ) (b : Bracket) (o : Cursor) (depth count : ℕ) (n : Cursor) : Type 0 where
  pub sane : Sane seen
  pub closes : (seen' : List ℕ) → Closing b seen seen' → Closed text tape₀ tape store₀ store seen₀ seen' b o depth count n

-- in the container that opened before o, up to c
pub record Content (text tape₀ tape store₀ store : List ℕ) (b : Bracket) (o : Cursor) (count : ℕ) (c : Cursor) (y : Inside) : Type 0 where
  pub opened : Inner text o
  pub kind : Of b y
  pub counted : count ≡ count_in y
  pub recorded : c.records ≡ o.records + 1 + records_in y
  pub stored : c.stored ≡ o.stored + length (store_in y)
  pub taped : c.records * 16 ≤ length tape₀ → tape ≡ sets tape₀ ((o.records + 1) * 16) (records_bytes (list_in y (o.records + 1) o.stored))
  pub filled : store ≡ sets store₀ o.stored (store_in y)
  pub long : length tape ≡ length tape₀
  pub few : c.records + o.at ≤ o.records + 1 + c.at
  pub short : c.stored + o.at ≤ o.stored + c.at
  pub past : o.at ≤ c.at
  pub in_text : c.at ≤ length text

abbrev pub cursor : ℕ → ℕ → ℕ → Cursor
cursor p r s = record { at = p; records = r; stored = s }

-- after the opening bracket, where the container's own record has its room
abbrev pub entered : Cursor → Cursor
entered o = cursor o.at (o.records + 1) o.stored

content_none : (text tape store : List ℕ) (b : Bracket) (o : Cursor) → Inner text o → Content text tape tape store store b o 0 (entered o) (bare_of b)
content_none text tape store b o h =
    record {
      opened = h;
      kind = of_bare b;
      counted = sym (none_counted b);
      recorded = omega (arith, none_inside b);
      stored = omega (arith, ap length (none_stored b));
      taped = λ l. ap (λ (v : List ℕ). sets tape ((o.records + 1) * 16) v) (sym (none_listed b (o.records + 1) o.stored));
      filled = ap (λ (v : List ℕ). sets store o.stored v) (sym (none_stored b));
      long = refl;
      few = omega arith;
      short = omega arith;
      past = omega arith;
      in_text = h.within;
    }

-- one element or one member more, with this many records
record More (y z : Inside) (news : ℕ → ℕ → List Record) (u : List ℕ) (size : ℕ) : Type 0 where
  counted : count_in z ≡ count_in y + 1
  recorded : records_in z ≡ records_in y + size
  held : store_in z ≡ store_in y ++ u
  listed : (i s : ℕ) → list_in z i s ≡ list_in y i s ++ news (i + records_in y) (s + length (store_in y))

module _ {text tape₀ tape store₀ store : List ℕ} {b : Bracket} {o : Cursor} {count : ℕ} {c : Cursor} {y : Inside}
    (t : Content text tape₀ tape store₀ store b o count c y) where
  content_ready : Ready text c
  content_ready =
      let h = t.opened in
      record { within = t.in_text; records = omega (arith, t.few, h.records); stored = omega (arith, t.short, h.stored); short = h.short }

  -- there is room for one more
  content_counts : count < text_limit
  content_counts = let h = t.opened in omega (arith, t.counted, few_in y, t.recorded, t.few, t.in_text, h.records, h.short)

  grow : {news : ℕ → ℕ → List Record} {u : List ℕ} {size : ℕ} (z : Inside) → Of b z → More y z news u size → (tape' store' : List ℕ) (d : Cursor)
      → d.records ≡ c.records + size → d.stored ≡ c.stored + length u
      → (d.records * 16 ≤ length tape → tape' ≡ sets tape (c.records * 16) (records_bytes (news c.records c.stored)))
      → store' ≡ sets store c.stored u → length tape' ≡ length tape
      → d.records + c.at ≤ c.records + d.at → d.stored + c.at ≤ c.stored + d.at → c.at ≤ d.at
      → d.at ≤ length text → Content text tape₀ tape' store₀ store' b o (count + 1) d z
  grow {news} {u} {size} z k m tape' store' d er es et eo el hf hs hp hq =
      let own = o.records in
      let start = o.stored in
      record {
        opened = t.opened;
        kind = k;
        counted = omega (arith, m.counted, t.counted);
        recorded = omega (arith, m.recorded, t.recorded);
        stored = omega (arith, ap length m.held, length-append (store_in y) u, t.stored);
        taped = λ l.
            let a : tape ≡ sets tape₀ ((own + 1) * 16) (records_bytes (list_in y (own + 1) start)) = t.taped (omega arith) in
            let n : (own + 1) * 16 + length (records_bytes (list_in y (own + 1) start)) ≡ c.records * 16 = omega
            (arith, records_bytes_length (list_in y (own + 1) start), list_length y (own + 1) start, t.recorded) in
            let i : own + 1 + records_in y ≡ c.records = sym t.recorded in
            let j : start + length (store_in y) ≡ c.stored = sym t.stored in
            et (omega (arith, t.long))
            ∙ ap (λ (v : List ℕ). sets v (c.records * 16) (records_bytes (news c.records c.stored))) a
            ∙ sets_append tape₀ ((own + 1) * 16) (c.records * 16) (records_bytes (list_in y (own + 1) start))
            (records_bytes (news c.records c.stored)) n
            ∙ ap (λ (v : List ℕ). sets tape₀ ((own + 1) * 16) v)
            (sym (records_append (list_in y (own + 1) start) (news c.records c.stored))
            ∙ ap records_bytes (ap₂ (λ (e f : ℕ). list_in y (own + 1) start ++ news e f) (sym i) (sym j) ∙ sym (m.listed (own + 1) start)));
        filled =
            eo
            ∙ ap (λ (v : List ℕ). sets v c.stored u) t.filled
            ∙ sets_append store₀ start c.stored (store_in y) u (sym t.stored)
            ∙ ap (λ (v : List ℕ). sets store₀ start v) (sym m.held);
        long = el ∙ t.long;
        few = omega (arith, t.few);
        short = omega (arith, t.short);
        past = omega (arith, t.past);
        in_text = hq;
      }

  -- further on, with the same counts
  further : (n : Cursor) → Moved text c n → Content text tape₀ tape store₀ store b o count n y
  further n h =
      record {
        opened = t.opened;
        kind = t.kind;
        counted = t.counted;
        recorded = h.records ∙ t.recorded;
        stored = h.stored ∙ t.stored;
        taped = λ l. t.taped (omega (arith, h.records));
        filled = t.filled;
        long = t.long;
        few = omega (arith, t.few, h.records, h.past);
        short = omega (arith, t.short, h.stored, h.past);
        past = omega (arith, t.past, h.past);
        in_text = h.within;
      }

  -- the closing bracket: the header goes in front
  content_took : {seen₀ seen : List ℕ} {keys : List Event} (depth : ℕ) (n : Cursor) → Moved text c n
      → ((k : List Frame) → Tells text (bare_in b depth k) o.at (keys ++ closing_of y) (closed y depth k) n.at)
      → Noted text seen₀ seen b o.at c.at keys → (seen' : List ℕ) → Closing b seen seen'
      → Closed text tape₀ tape store₀ store seen₀ seen' b o depth count n
  unfolding records_bytes
  content_took {keys = keys} depth n h g v seen' e =
      let own = o.records in
      let start = o.stored in
      record {
        m = shut y;
        keys = keys ++ closing_of y;
        runs = g;
        recorded = omega (arith, shut_records y, t.recorded, h.records);
        stored = omega (arith, ap length (shut_store y), t.stored, h.stored);
        taped = λ l.
            let a : tape ≡ sets tape₀ ((own + 1) * 16) (records_bytes (list_in y (own + 1) start)) = t.taped (omega (arith, h.records)) in
            let e : n.records ≡ end_of own (records_in y) = omega (arith, t.recorded, h.records) in
            ap (λ (v : List ℕ). put_record v own (header b count n.records)) a
            ∙ headed tape₀ own (header b count n.records) (records_bytes (list_in y (own + 1) start))
            (room own n.records (length tape₀) (omega (arith, t.recorded, h.records)) l)
            ∙ ap (λ (v : List ℕ). sets tape₀ (own * 16) v)
            (ap₂ (λ (i k : ℕ). record_bytes (header b i k) ++ records_bytes (list_in y (own + 1) start)) t.counted e
            ∙ ap records_bytes (sym (shut_list b y t.kind own start)));
        filled = t.filled ∙ ap (λ (v : List ℕ). sets store₀ start v) (sym (shut_store y));
        level_kept = closing_level b v y t.kind;
        noted = closing_leads b v y t.kind seen' n.at e (omega (arith, h.past)) (omega (arith, h.within, t.opened.short));
        past = omega (arith, t.past, h.past);
        few = omega (arith, t.few, h.records, h.past);
        short = omega (arith, t.short, h.stored, h.past);
        within = h.within;
      }

-- ---- a round of the loop

closer_of : (b : Bracket) (y : Inside) → Of b y → closer y ≡ closing b
closer_of square (elements x) o = refl
closer_of square (members x) o = absurd o
closer_of curly (elements x) o = absurd o
closer_of curly (members x) o = refl

-- where an element or a member may stand
pub record Round (text tape₀ tape store₀ store seen₀ seen : List ℕ) (b : Bracket) (o : Cursor) (depth count : ℕ) (c : Cursor) : Type 0 where
  pub y : Inside
  pub content : Content text tape₀ tape store₀ store b o count c y
  pub keys : List Event
  pub goes : (k : List Frame) → Tells text (bare_in b depth k) o.at keys (within y depth k) c.at
  pub noted : Noted text seen₀ seen b o.at c.at keys

module _ {text : List ℕ} {o : Cursor} (h : Inner text o) (seen₀ seen : List ℕ) (b : Bracket) (e : Opening b seen₀ seen) where
  -- behind the opening bracket
  pub round_first : (tape store : List ℕ) (depth : ℕ) → length seen ≡ length seen₀ → Seen text seen₀ (o.at - 1)
      → Round text tape tape store store seen seen b o depth 0 (entered o)
  round_first tape store depth l t = record {
    y = bare_of b;
    content = content_none text tape store b o h;
    keys = [];
    goes = λ k. refl;
    noted = noted_none (opening_entered text seen₀ seen (omega (arith, h.records)) (omega (arith, h.within, h.short)) b e l t);
  }

  -- of the table before the opening bracket
  pub closed_took : {tape tape' store store' seen' : List ℕ} {depth : ℕ} {n : Cursor}
      → Took text (bare_in b depth) (suc depth) (opening_of b) (keeping_inside text seen b o) o tape tape' store store' seen' n
      → Took text (bare_in b depth) (suc depth) (opening_of b) (keeping_before text seen₀ o) o tape tape' store store' seen' n
  closed_took w = record {
    m = w.m;
    keys = w.keys;
    runs = w.runs;
    recorded = w.recorded;
    stored = w.stored;
    taped = w.taped;
    filled = w.filled;
    level_kept = w.level_kept;
    noted = λ f s k.
        w.noted f s (opening_leads text seen₀ seen (omega (arith, h.records)) (omega (arith, h.within, h.short)) b e f s k);
    past = w.past;
    few = w.few;
    short = w.short;
    within = w.within;
  }

-- where a value is wanted, in a frame to which it adds
pub record Waiting (text tape₀ tape store₀ store seen₀ seen : List ℕ) (b : Bracket) (o : Cursor) (depth count : ℕ) (v : Cursor) : Type 0 where
  pub f : Frame
  pub y : Meaning → Inside
  pub adds : Adds f (closing b) y
  pub ready : AtValue text v
  pub keys : List Event
  pub goes : (k : List Frame) → Tells text (bare_in b depth k) o.at keys (wants depth (f ∷ k)) v.at
  pub noted : Noted text seen₀ seen b o.at v.at keys
  pub shut_there : (k : List Frame) → Shut text v.at depth (f ∷ k)
  pub grown : (last : Cursor) (tape' store' seen' : List ℕ)
      (w : Took text (wants depth) depth [] (keeping text seen v) v tape tape' store store' seen' last)
      → length tape' ≡ length tape → Content text tape₀ tape' store₀ store' b o (count + 1) last (y w.m)

module _ {text tape₀ tape store₀ store seen₀ seen : List ℕ} {b : Bracket} {o : Cursor} {depth count : ℕ} {c : Cursor}
    (t : Round text tape₀ tape store₀ store seen₀ seen b o depth count c) where
  pub round_ready : Ready text c
  round_ready = content_ready t.content

  pub round_seen : Seen text seen c.at
  round_seen = noted_seen t.noted

  -- there is room for one more
  pub round_counts : count < text_limit
  round_counts = content_counts t.content

  pub round_refused : {why : Refusal} → AheadSays text c (closing b) (Err why) → Left text (bare_in b depth) always o.at why
  round_refused r = λ k q. then_refused (t.goes k) (r t.y (closer_of b t.y t.content.kind) depth k)

  pub round_ends : (n : Cursor) → AheadSays text c (closing b) (Ok (Ahead.Close n)) → Ending text tape₀ tape store₀ store seen₀ seen b o depth count n
  round_ends n g = record {
    sane = noted_sane t.noted;
    closes = content_took t.content depth n g.1
        (λ k. then_tells t.keys (closing_of t.y) _ (t.goes k) (g.0 t.y (closer_of b t.y t.content.kind) depth k)) t.noted;
  }

pub waiting_seen : {text tape₀ tape store₀ store seen₀ seen : List ℕ} {b : Bracket} {o : Cursor} {depth count : ℕ} {v : Cursor}
    → Waiting text tape₀ tape store₀ store seen₀ seen b o depth count v → Seen text seen v.at
waiting_seen t = noted_seen t.noted

module _ {text tape₀ tape store₀ store seen₀ seen : List ℕ} {b : Bracket} {o : Cursor} {depth count : ℕ} {v : Cursor}
    (t : Waiting text tape₀ tape store₀ store seen₀ seen b o depth count v) (tape' store' seen' : List ℕ) (l : length tape' ≡ length tape) where
  -- after the value
  pub value_ready : (last : Cursor) → ValueSays text depth v tape tape' store store' seen seen' (Ok last) → Ready text last
  value_ready last w = content_ready (t.grown last tape' store' seen' w l)

  pub value_refused : (why : Refusal) → ValueSays text depth v tape tape' store store' seen seen' (Err why) → Left text (bare_in b depth) always o.at why
  value_refused why w = λ k q. then_refused (t.goes k) (w (t.f ∷ k) (t.shut_there k))

  module _ (e : length seen' ≡ length seen) where
    value_noted : (last : Cursor) (w : Took text (wants depth) depth [] (keeping text seen v) v tape tape' store store' seen' last)
        → Noted text seen₀ seen' b o.at last.at (t.keys ++ w.keys)
    value_noted last w = noted_more t.noted w.keys seen' last.at e w.level_kept (λ f s h i. w.noted f s h)

    module _ (last : Cursor) (w : ValueSays text depth v tape tape' store store' seen seen' (Ok last)) where
      pub after_refused : (why : Refusal) → AfterSays text last (closing b) (Err why) → Left text (bare_in b depth) always o.at why
      after_refused why g = λ k q. then_refused (t.goes k) (then_refused (w.runs (t.f ∷ k)) (g t.f t.y t.adds w.m depth k))

      pub after_ends : (n : Cursor) → AfterSays text last (closing b) (Ok (After.Close n))
          → Ending text tape₀ tape' store₀ store' seen₀ seen' b o depth (count + 1) n
      after_ends n g = record {
        sane = noted_sane (value_noted last w);
        closes = content_took (t.grown last tape' store' seen' w l) depth n g.1
            (λ k. then_tells (t.keys ++ w.keys) (closing_of (t.y w.m)) _ (then_tells t.keys w.keys _ (t.goes k) (w.runs (t.f ∷ k)))
            (g.0 t.f t.y t.adds w.m depth k)) (value_noted last w);
      }

      pub after_comma : (n : Cursor) → AfterSays text last (closing b) (Ok (After.Comma n))
          → Round text tape₀ tape' store₀ store' seen₀ seen' b o depth (count + 1) n × (v.at < n.at)
      after_comma n g =
          let i = t.grown last tape' store' seen' w l in (
            record {
              y = t.y w.m;
              content = further i n g.1;
              keys = t.keys ++ w.keys;
              goes = λ k. then_tells t.keys w.keys _ (t.goes k)
                  (then_goes w.keys (w.runs (t.f ∷ k)) (g.0 t.f t.y t.adds w.m depth k));
              noted = noted_further (value_noted last w) n.at (omega (arith, g.1.past)) (omega (arith, g.1.within, i.opened.short));
            },
            omega (arith, w.past, g.1.past),
          )

-- ---- elements

more_element : (x : Meanings) (m : Meaning) → More (elements x) (elements (Meanings.more x m)) (λ i s. records_of m i s) (store_of m) (records m)
unfolding elements_count elements_records elements_store elements_of
more_element x m = record { counted = refl; recorded = refl; held = refl; listed = λ i s. refl }

begins_at : {text : List ℕ} {c : Cursor} {closing : ℕ} (n : Cursor) → Ready text c → Begins text c closing n → AtValue text n
begins_at n r h =
    record {
      ready = record {
        within = omega (arith, h.inside);
        records = omega (arith, h.records, r.records, h.behind);
        stored = omega (arith, h.stored, r.stored, h.behind);
        short = r.short;
      };
      bare = h.bare;
    }

-- a bracket that closes nothing, where an element begins
shut_by : (p d : ℕ) (x : Meanings) (k : List Frame) (z : Bracket) (v : ℕ) → (v ≡ ch "]" → ⊥) → ClassIs v (close_c z)
    → close_wanted p d z (inside (elements x) ∷ k) ≡ odd p
shut_by p d x k square v h e = absurd (h e)
shut_by p d x k curly v h e = refl

element_waits : {text tape₀ tape store₀ store seen₀ seen : List ℕ} {o : Cursor} {depth count : ℕ} {c : Cursor} (y : Inside)
    → Content text tape₀ tape store₀ store square o count c y
    → (keys : List Event) → ((k : List Frame) → Tells text (bare_in square depth k) o.at keys (within y depth k) c.at)
    → Noted text seen₀ seen square o.at c.at keys
    → (n : Cursor) → Begins text c (ch "]") n
    → Waiting text tape₀ tape store₀ store seen₀ seen square o depth count n
element_waits (members x) t keys g j n h = absurd t.kind
element_waits {text} {tape₀} {tape} {store₀} {store} {o = o} {depth} {count} {c} (elements x) t keys g j n h =
    record {
      f = inside (elements x);
      y = λ m. elements (Meanings.more x m);
      adds = Adds.element;
      ready = begins_at n (content_ready t) h;
      keys = keys;
      goes = λ k. then_goes keys (g k) (h.goes want depth (inside (elements x) ∷ k));
      noted = noted_further j n.at h.behind (omega (arith, h.inside, t.opened.short));
      shut_there = λ k i z e. shut_by n.at depth x k z (get_or text n.at 0) h.other
          (subst (λ d. ClassIs (get_or text n.at 0) d) e (class_is_lem (get_or text n.at 0)));
      grown = λ last tape' store' seen' w l.
          grow t (elements (Meanings.more x w.m)) tt (more_element x w.m) tape' store' last
          (omega (arith, w.recorded, h.records))
          (omega (arith, w.stored, h.stored))
          (λ q. w.taped q ∙ ap₂ (λ (i j : ℕ). sets tape (i * 16) (records_bytes (records_of w.m i j))) h.records h.stored)
          (w.filled ∙ ap (λ (j : ℕ). sets store j (store_of w.m)) h.stored)
          l
          (omega (arith, w.few, h.records, h.behind))
          (omega (arith, w.short, h.stored, h.behind))
          (omega (arith, w.past, h.behind))
          w.within;
    }

pub element_more : {text tape₀ tape store₀ store seen₀ seen : List ℕ} {o : Cursor} {depth count : ℕ} {c : Cursor}
    → Round text tape₀ tape store₀ store seen₀ seen square o depth count c → (n : Cursor) → AheadSays text c (ch "]") (Ok (Ahead.More n))
    → Waiting text tape₀ tape store₀ store seen₀ seen square o depth count n × (c.at ≤ n.at)
element_more t n g = (element_waits t.y t.content t.keys t.goes t.noted n g, g.behind)

-- ---- members

more_member : (x : Members) (u : List ℕ) (m : Meaning)
    → More (members x) (members (Members.member x u m)) (λ i s. Record.Key (length u) s ∷ records_of m (i + 1) (s + length u)) (u ++ store_of m) (1 + records m)
unfolding members_count members_records members_store members_of
more_member x u m = record {
  counted = refl;
  recorded = omega arith;
  held = append_assoc (members_store x) u (store_of m);
  listed = λ i s. append_assoc (members_of x i s) (Record.Key (length u) (s + length (members_store x)) ∷ [])
      (records_of m (i + members_records x + 1) (s + length (members_store x) + length u));
}

-- a key's record before its value's
keyed : (tape tape' : List ℕ) (r : ℕ) (key : Record) (rest : List Record) → r < whole_records tape
    → tape' ≡ sets (put_record tape r key) ((r + 1) * 16) (records_bytes rest)
    → tape' ≡ sets tape (r * 16) (records_bytes (key ∷ rest))
unfolding records_bytes
keyed tape tape' r key rest h e =
    e
    ∙ ap (λ (v : List ℕ). sets v ((r + 1) * 16) (records_bytes rest)) (record_room tape r key h)
    ∙ sets_append tape (r * 16) ((r + 1) * 16) (record_bytes key) (records_bytes rest) (omega (arith, record_length key))

-- the value of a member begins
named_at : {text : List ℕ} {c : Cursor} {first : ℕ} (entry exit : List ℕ) (size : ℕ) (v : Cursor) → Ready text c → Named text c first entry exit size v
    → AtValue text v
named_at entry exit size v r h =
    record {
      ready = record {
        within = h.within;
        records = omega (arith, h.records, r.records, h.past);
        stored = omega
            (arith, h.stored, r.stored, h.room);
        short = r.short;
      };
      bare = h.bare;
    }

member_waits : {text tape₀ tape store₀ store seen₀ seen : List ℕ} {o : Cursor} {depth count : ℕ} {c : Cursor} (y : Inside)
    → Content text tape₀ tape store₀ store curly o count c y
    → (keys : List Event) → ((k : List Frame) → Tells text (bare_in curly depth k) o.at keys (within y depth k) c.at)
    → Noted text seen₀ seen curly o.at c.at keys
    → (v : Cursor) (tape₁ store₁ seen₁ : List ℕ) → length seen₁ ≡ length seen → (e : MemberBegins text c tape tape₁ store store₁ seen seen₁ v)
    → Waiting text tape₀ (put_record tape c.records (Record.Key e.size c.stored)) store₀ store₁ seen₀ seen₁ curly o depth count v
unfolding level
member_waits (elements x) t keys g j v tape₁ store₁ seen₁ i e = absurd t.kind
member_waits {text} {tape₀} {tape} {store₀} {store} {o = o} {depth} {count} {c} (members x) t keys g j v tape₁ store₁ seen₁ i e =
    let r = c.records in
    let s = c.stored in
    let d = e.key_is in
    let u = d.u in
    let size = e.size in
    let first = e.first in
    record {
      f = pair x u;
      y = λ m. members (Members.member x u m);
      adds = Adds.member;
      ready = named_at store store₁ size v (content_ready t) d;
      keys = keys ++ (named first u ∷ []);
      goes = λ k. then_tells keys (named first u ∷ []) _ (g k) (d.goes x depth k);
      noted = noted_more j (named first u ∷ []) seen₁ v.at i (λ n. refl) e.noted;
      shut_there = λ k i z e. refl;
      grown = λ last tape' store' seen' w l.
          grow t (members (Members.member x u w.m)) tt (more_member x u w.m) tape' store' last
          (omega (arith, w.recorded, d.records))
          (omega (arith, w.stored, d.stored, length-append u (store_of w.m)))
          (λ q.
          keyed tape tape' r (Record.Key (length u) s) (records_of w.m (r + 1) (s + length u))
          (room r last.records (length tape) (omega (arith, w.recorded, d.records)) q)
          (w.taped (omega (arith, put_record_length tape r (Record.Key size s)))
          ∙ ap₂ (λ (i j : ℕ). sets (put_record tape r (Record.Key size s)) (i * 16) (records_bytes (records_of w.m i j))) d.records d.stored
          ∙ ap (λ (i : ℕ). sets (put_record tape r (Record.Key i s)) ((r + 1) * 16) (records_bytes (records_of w.m (r + 1) (s + length u)))) d.counted))
          (w.filled
          ∙ ap₂ (λ (e : List ℕ) (j : ℕ). sets e j (store_of w.m)) d.filled d.stored
          ∙ sets_append store s (s + length u) u (store_of w.m) refl)
          (l ∙ put_record_length tape r (Record.Key size s))
          (omega (arith, w.few, d.records, d.past))
          (omega (arith, w.short, d.stored, d.room))
          (omega (arith, w.past, d.past))
          w.within;
    }

module _ {text tape₀ tape store₀ store seen₀ seen : List ℕ} {o : Cursor} {depth count : ℕ} {c : Cursor}
    (t : Round text tape₀ tape store₀ store seen₀ seen curly o depth count c) (tape' store' seen' : List ℕ) where
  -- nothing has been put
  pub member_ends : (n : Cursor) → MemberAheadSays text c tape tape' store store' seen seen' (Ok (Ahead.Close n))
      → Ending text tape₀ tape' store₀ store' seen₀ seen' curly o depth count n
  member_ends n (g, et, es, en) = rw (et, es, en) (round_ends t n g)

  pub member_more : length seen' ≡ length seen → (v : Cursor) → MemberAheadSays text c tape tape' store store' seen seen' (Ok (Ahead.More v))
      → Waiting text tape₀ tape' store₀ store' seen₀ seen' curly o depth count v × (c.at ≤ v.at)
  member_more i v g = (rw g.taped (member_waits t.y t.content t.keys t.goes t.noted v tape' store' seen' i g), omega (arith, g.key_is.past))

-- ---- values

one_put : (tape : List ℕ) (i : ℕ) (r : Record) (rs : List Record) → rs ≡ r ∷ [] → i < whole_records tape
    → put_record tape i r ≡ sets tape (i * 16) (records_bytes rs)
unfolding records_bytes
one_put tape i r rs e h = record_room tape i r h ∙ ap (λ (v : List ℕ). sets tape (i * 16) v) (sym (append-nil (record_bytes r)) ∙ ap records_bytes (sym e))

pub took_item : (text tape entry exit seen : List ℕ) (depth : ℕ) (c n : Cursor) (i : Item) → Ready text c → OneItem text c entry exit i n
    → Took text (wants depth) depth [] (keeping text seen c) c tape (put_record tape c.records (record_item i c.stored)) entry exit seen n
unfolding level
took_item text tape entry exit seen depth c n i r h =
    let s = h.scalar in
    let o : records s.m ≡ 1 = sym (records_length s.m 0 c.stored) ∙ ap length (s.taped 0) in
    record {
      m = s.m;
      keys = [];
      runs = λ k. s.runs depth k;
      recorded = omega (arith, h.records, o);
      stored = omega (arith, h.stored, s.counted);
      taped = λ l. one_put tape c.records (record_item i c.stored) (records_of s.m c.records c.stored)
          (s.taped c.records) (room c.records n.records (length tape) (omega (arith, h.records)) l);
      filled = s.filled;
      level_kept = λ j. refl;
      noted = λ f z k. goes_none (keeps_further k n.at (omega (arith, s.past)) (omega (arith, s.within, r.short)));
      past = s.past;
      few = omega (arith, h.records, s.past);
      short = omega (arith, h.stored, s.counted, s.room);
      within = s.within;
    }

pub opened_inner : {text : List ℕ} {c : Cursor} (b : Bracket) (n : Cursor) → AtValue text c → Opened text c b n → Inner text n
opened_inner b n v h =
    record {
      within = h.moved.within;
      records = omega (arith, v.ready.records, h.moved.records, h.moved.past);
      stored = omega (arith, v.ready.stored, h.moved.stored, h.moved.past);
      short = v.ready.short;
    }

pub opened_seen : {text : List ℕ} {c : Cursor} (b : Bracket) (n : Cursor) → AtValue text c → Opened text c b n → (seen : List ℕ) → Seen text seen c.at
    → Seen text seen (n.at - 1)
opened_seen {text} b n v h seen t =
    seen_further text (n.at - 1) (omega (arith, h.moved.past)) (omega (arith, h.moved.within, v.ready.short)) t

took_inside : {text tape tape' entry store store' seen seen' : List ℕ} (b : Bracket) (d depth : ℕ) → depth ≡ suc d → (c n last : Cursor)
    → Ready text c → Opened text c b n → store ≡ entry
    → Took text (bare_in b d) (suc d) (opening_of b) (keeping_before text seen n) n tape tape' store store' seen' last
    → Took text (wants depth) depth [] (keeping text seen c) c tape tape' entry store' seen' last
took_inside {text} {tape} {tape'} {entry} {store} {store'} b d depth e c n last i h q w =
    let r = h.moved in
    record {
      m = w.m;
      keys = opening_of b ++ w.keys;
      runs = λ k. rw e (then_tells (opening_of b) w.keys _ (h.opens d k) (w.runs k));
      recorded = omega (arith, w.recorded, r.records);
      stored = omega (arith, w.stored, r.stored);
      taped = λ l. w.taped l ∙ ap₂ (λ (i j : ℕ). sets tape (i * 16) (records_bytes (records_of w.m i j))) r.records r.stored;
      filled = w.filled ∙ ap₂ (λ (v : List ℕ) (i : ℕ). sets v i (store_of w.m)) q r.stored;
      level_kept = w.level_kept;
      noted = λ f s k. w.noted f s (keeps_further k (n.at - 1) (omega (arith, r.past)) (omega (arith, r.within, i.short)));
      past = omega (arith, w.past, r.past);
      few = omega (arith, w.few, r.records, r.past);
      short = omega (arith, w.short, r.stored, r.past);
      within = w.within;
    }

pub says_inside : (text tape tape' entry store store' seen seen' : List ℕ) (b : Bracket) (d depth : ℕ) → depth ≡ suc d → (c n : Cursor)
    → Ready text c → Opened text c b n → store ≡ entry → (a : Result Cursor Refusal) → InsideSays text b d n tape tape' store store' seen seen' a
    → ValueSays text depth c tape tape' entry store' seen seen' a
says_inside text tape tape' entry store store' seen seen' b d depth e c n i h q (Ok last) w = took_inside b d depth e c n last i h q w
says_inside text tape tape' entry store store' seen seen' b d depth e c n i h q (Err why) w = λ k s. rw e (then_refused (h.opens d k) (w k tt))
