-- What sums and indexes need of where the check in parts (docs/FORMAT.md, 13.2) stands, and of what a byte did to an
-- item. Assumes nothing.
use Rattle.std.specs.Prelude.{◌*◌, ◌≤◌}
use Rattle.meaning.specs.Limits.{text_limit, depth_limit}
use Rattle.arriving.specs.declared.states.Here.{Here}
use Rattle.arriving.specs.declared.states.Out.{Out}
use Rattle.arriving.specs.declared.states.Out.TheVariants.{Takes, Stops, Breaks}

pub record Roomy (h : Here) : Type 0 where
  pub shallow : h.depth ≤ depth_limit
  pub counted : h.records ≤ text_limit
  pub bounded : h.stored ≤ 300 * text_limit

-- few store bytes come
abbrev pub Few : Out → Type 0
Few (Takes m n) = n ≤ 258
Few Stops = Unit {0}
Few (Breaks r) = Unit {0}
