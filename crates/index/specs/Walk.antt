-- The elements that an iterator over an index gives.
use Rattle.std.specs.Prelude.{List}
use Rattle.spec.specs.Index.{Element}
use Rattle.index.specs.Elements.{elements_at}
use Rattle.index.specs.declared.walk.Element as given
use Rattle.index.specs.declared.walk.Elements.{Elements}

-- an element of the code as the specification's
abbrev pub stored : given.Element → Element
stored e = record { block = e.number; headword = e.headword.now }

-- the elements that are left of an iterator
abbrev pub elements : Elements → List Element
elements s = elements_at s.width s.index.now s.at s.left
