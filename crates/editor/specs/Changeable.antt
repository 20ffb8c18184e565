-- An image that is to be changed, tested.
use Rattle.std.specs.Prelude.{ℕ, ◌≤◌, ◌≡◌, Bool, true, Result, Ok, Err, List, length, take}
use Rattle.spec.specs.Outcome.{refused}
use Rattle.spec.specs.Header.{writable}
use Rattle.spec.specs.Calls.{changeable}
use Rattle.spec.specs.Answers.{number_of}
use Rattle.spec.specs.declared.Refusal.{Refusal}
use Rattle.header.specs.Form.{layout_named}
use Rattle.inspect.specs.declared.Overview.{Overview}
use Rattle.inspect.specs.Overview.{AcceptedImage, FreeMarked}

-- what the image in the first L bytes of s is: accepted, with the marks of its free blocks, and may be changed; or a changing call with room to work is refused
abbrev pub Changeable : List ℕ → ℕ → List Bool → Result Overview Refusal → Type 0
Changeable s L ms (Ok v) = AcceptedImage (take L s) v × FreeMarked (take L s) ms × (writable (layout_named s) s ≡ true)
Changeable s L ms (Err r) = (work : List ℕ) → length s ≤ length work → changeable s L work ≡ refused (number_of r)
