-- The columns still to be stored, stored in what stands there now, are all of them.
use mathlib.Core.Path.{◌≡◌}
use mathlib.Core.Bool.{false}
use Rattle.spec.specs.Bytes.{write}
use Rattle.spec.specs.Listing.{digits}
use Rattle.listing.proofs.front_columns.Given as goal

abbrev pub invariant-loop-i : goal.invariant-loop-i
invariant-loop-i l = write l.at (digits false l.i l.rest) l.out ≡ write l.at (digits false l.w l.n) l.initial.out
