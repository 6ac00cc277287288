-- What each turn of `rises::write_rises` keeps.
use mathlib.Core.Path.{◌≡◌}
use Rattle.rises.specs.Rises.{over_rises}
use Rattle.rises.proofs.write_rises.Given as goal

abbrev pub invariant-loop-v : goal.invariant-loop-v
invariant-loop-v l = l.rises ≡ over_rises l.n l.v l.table l.initial.rises
