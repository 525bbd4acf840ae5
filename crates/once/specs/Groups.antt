-- The keys of the open objects in a table (docs/FORMAT.md, 7.2): each object that has a key in it is a group, begun by
-- a mark. Assumes nothing.
use Rattle.std.specs.Prelude.{◌≡◌, Bool, true, false, cond, ◌⊎◌, List, [], ◌∷◌, ◌++◌, ℕ, suc, ◌+◌, ◌-◌, ◌%◌, ◌<◌, ◌≤◌}
use Rattle.std.specs.Prelude.{Option, Some, None, eqb, leb, length, get_or, unwrap_or}
use Rattle.once.specs.Table.{Slot, room, Table, unless_zero}

-- an object's depth, and its keys that are taken in, the newest first
pub record Group : Type 0 where
  pub level : ℕ
  pub keys : List Slot

unfoldable mutual
  -- the slots of groups, innermost first
  pub flat : List Group → List Slot
  flat [] = []
  flat (g ∷ gs) = g.keys ++ ((base_of gs, g.level) ∷ flat gs)

  -- one more than how many slots are below the innermost group's mark; 0 where there is no group
  pub base_of : List Group → ℕ
  base_of [] = 0
  base_of (g ∷ gs) = suc (length (flat gs))

-- 0 for none, in `twice` and `stop`
pub record State : Type 0 where
  pub groups : List Group
  pub depth : ℕ
  pub from : ℕ
  pub twice : ℕ
  pub stop : ℕ

pub record Holds (seen : List ℕ) (s : State) : Type 0 where
  pub table : Table (room seen) seen (flat s.groups)
  pub base : get_or seen 1 0 ≡ base_of s.groups
  pub depth : get_or seen 2 0 ≡ s.depth
  pub from : get_or seen 3 0 ≡ s.from
  pub twice : get_or seen 4 0 ≡ s.twice
  pub stop : get_or seen 5 0 ≡ s.stop

-- ---- what happens

unfoldable pub start : ℕ → State
start from = record { groups = []; depth = 0; from = from; twice = 0; stop = 0 }

-- a table, or none
abbrev pub Sane : List ℕ → Type 0
Sane seen = (length seen < 12) ⊎ ((s : State) × Holds seen s)

-- what was true of a table is true after f
abbrev pub Does : (State → State) → List ℕ → List ℕ → Type 0
Does f before after = (length after ≡ length before) × ((s : State) → Holds before s → Holds after (f s))

abbrev pub Begun : ℕ → List ℕ → List ℕ → Type 0
Begun from before after = (length after ≡ length before) × (12 ≤ length after → Holds after (start from))

-- a table that is there
abbrev pub Set : List ℕ → Type 0
Set seen = (12 ≤ length seen) × Sane seen

-- one more object may open
abbrev pub Opens : List ℕ → Type 0
Opens seen = Sane seen × (get_or seen 2 0 < 4294967295)

unfoldable pub deeper : State → State
deeper s = record { groups = s.groups; depth = s.depth + 1; from = s.from; twice = s.twice; stop = s.stop }

-- the innermost group is that of the present object
unfoldable pub own : ℕ → List Group → Bool
own d [] = false
own d (g ∷ gs) = eqb g.level d

unfoldable pub outer : List Group → List Group
outer [] = []
outer (g ∷ gs) = gs

-- the present object's group goes
unfoldable pub without : State → State
without s = record {
  groups = cond (own s.depth s.groups) (outer s.groups) s.groups;
  depth = s.depth;
  from = s.from;
  twice = s.twice;
  stop = s.stop;
}

unfoldable pub upper : State → State
upper s = record { groups = s.groups; depth = s.depth - 1; from = s.from; twice = s.twice; stop = s.stop }

abbrev pub shallower : State → State
shallower s = upper (without s)

unfoldable pub add : ℕ → Slot → List Group → List Group
add d x [] = record { level = d; keys = x ∷ [] } ∷ []
add d x (g ∷ gs) = cond (eqb g.level d) (record { level = g.level; keys = x ∷ g.keys } ∷ gs)
    (record { level = d; keys = x ∷ [] } ∷ g ∷ gs)

-- how many slots a further key needs
unfoldable pub need : ℕ → List Group → ℕ
need d gs = cond (own d gs) 1 2

-- a further key of the present object is taken in, or is the first that is not
abbrev pub taken_in : Slot → State → State
taken_in x s = record {
  groups = add s.depth x s.groups;
  depth = s.depth;
  from = s.from;
  twice = s.twice;
  stop = s.stop;
}

abbrev pub stopped_at : ℕ → State → State
stopped_at p s = record { groups = s.groups; depth = s.depth; from = s.from; twice = s.twice; stop = p }

unfoldable pub taken : ℕ → Slot → State → State
taken n x s = cond (eqb s.stop 0) (cond (leb (length (flat s.groups) + need s.depth s.groups) n)
    (taken_in x s) (stopped_at x.0 s)) s

-- ---- the present object's keys

-- the slot with j - 1 below it is a key of the present object
pub data At (s : State) : ℕ → Slot → Type 0 where
  key : {g : Group} {gs : List Group} (a b : List Slot) {x : Slot} → s.groups ≡ g ∷ gs → g.level ≡ s.depth → g.keys
      ≡ a ++ (x ∷ b) → At s (suc (base_of s.groups + length b)) x

-- r: the newest slot of the present object in bucket h of n, at most `top`
pub record Next (s : State) (n h top : ℕ) (r : Option ℕ) : Type 0 where
  pub below : unwrap_or r 0 ≤ top
  pub is : (i : ℕ) → r ≡ Some i → (x : Slot) × (At s i x × (x.1 % n ≡ h))
  pub none : (j : ℕ) (x : Slot) → At s j x → unwrap_or r 0 < j → j ≤ top → x.1 % n ≡ h → ⊥

-- an answer: the link i of a chain, where it leads above the mark, to a slot of the present object
pub data AboveMark (base i : ℕ) : Option ℕ → Type 0 where
  inside : base < i → AboveMark base i (Some i)
  outside : i ≤ base → AboveMark base i None

-- of a table: the present object has a group
abbrev pub Owns : List ℕ → Bool → Type 0
Owns seen r = (s : State) → Holds seen s → r ≡ own s.depth s.groups

abbrev pub Newest : List ℕ → ℕ → Option ℕ → Type 0
Newest seen tag r = (length seen < 12 → r ≡ None) × ((s : State) → Holds seen s
    → Next s (room seen) (tag % room seen) (length (flat s.groups)) r)

-- a key of the present object stands there
abbrev pub Stands : List ℕ → ℕ → Type 0
Stands seen j = (s : State) × (Holds seen s × ((x : Slot) × At s j x))

abbrev pub Earlier : List ℕ → ℕ → Option ℕ → Type 0
Earlier seen j r = (s : State) → Holds seen s → (x : Slot) → At s j x → Next s (room seen) (x.1 % room seen) (j - 1) r

abbrev pub Placed : List ℕ → ℕ → ℕ → Type 0
Placed seen j r = (s : State) → Holds seen s → (x : Slot) → At s j x → r ≡ x.0

abbrev pub Tagged : List ℕ → ℕ → ℕ → Type 0
Tagged seen j r = (s : State) → Holds seen s → (x : Slot) → At s j x → r ≡ x.1

unfoldable pub noticed : ℕ → State → State
noticed p s = record {
  groups = s.groups;
  depth = s.depth;
  from = s.from;
  twice = cond (eqb s.twice 0) p s.twice;
  stop = s.stop;
}

-- a further key: noticed where it repeats one, and taken in
unfoldable pub marked : Bool → ℕ → State → State
marked again p s = cond again (noticed p s) s

abbrev pub naming : Bool → ℕ → Slot → State → State
naming again n x s = taken n x (marked again x.0 s)

-- a chain is full only where some key is taken in, which with its mark takes two slots, and the table has not stopped
abbrev pub Crowds : List ℕ → Bool → Type 0
Crowds seen r = r ≡ true → (12 ≤ length seen) × (get_or seen 5 0 ≡ 0) × (2 ≤ get_or seen 0 0)

-- a further key is named; where its chain is full, as if the table had two slots, and so none left
abbrev pub Names : Bool → Slot → List ℕ → List ℕ → Type 0
Names again x before after = (n : ℕ) × (((n ≡ room before) ⊎ (n ≡ 2)) × Does (naming again n x) before after)

-- ---- the header as it is read

-- of a table what its state says; `otherwise` where there is no table
abbrev pub Read : (A : Type 0) → A → (State → A) → List ℕ → A → Type 0
Read A otherwise f seen r = (length seen < 12 → r ≡ otherwise) × ((s : State) → Holds seen s → r ≡ f s)

abbrev pub FromIs : List ℕ → ℕ → Type 0
FromIs seen r = Read ℕ 0 (λ s. s.from) seen r

abbrev pub TwiceIs : List ℕ → Option ℕ → Type 0
TwiceIs seen r = Read (Option ℕ) None (λ s. unless_zero s.twice) seen r

abbrev pub StopIs : List ℕ → Option ℕ → Type 0
StopIs seen r = Read (Option ℕ) None (λ s. unless_zero s.stop) seen r
