-- What the header's frame means in the specification's terms.
use Rattle.std.specs.Prelude.{◌≡◌, Result, Ok, Err}
use Rattle.spec.specs.Outcome.{Outcome, refused, ok}
use Rattle.spec.specs.Header.{Layout}
use Rattle.spec.specs.Check.{Frame}
use Rattle.spec.specs.Answers.{number_of}
use Rattle.spec.specs.declared.Refusal.{Refusal}
use Rattle.header.specs.declared.FrameFound.{FrameFound}
use Rattle.header.specs.Form.{frame_by, GoodForm}

-- the frame by the layout that the header names, or the refusal's number
unfoldable pub framed : Layout → Result FrameFound Refusal → Outcome Frame
framed o (Ok f) = ok (frame_by o f.form f.index f.«data»)
framed o (Err r) = refused (number_of r)

-- the form of a frame is one that the code takes
abbrev pub FormTold : Result FrameFound Refusal → Type 0
FormTold r = (f : FrameFound) → r ≡ Ok f → GoodForm f.form
