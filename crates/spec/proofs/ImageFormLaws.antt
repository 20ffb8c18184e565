-- Demand 2: what is accepted and what it means, whole: what rests on AcceptedLaws.accepted_told and accepted_back.
use mathlib.Core.Path.{◌≡◌, sym, ◌∙◌}
use native.Mathlib.Omega.{arith}
use lib.ListN.{length}
use lib.Seq.{take-length}
use Rattle.spec.specs.Outcome.{ok}
use Rattle.spec.specs.Check.{Image, image_in}
use Rattle.spec.specs.ImageForm.{IsImage, Accepted, OneMeaning}
use Rattle.spec.proofs.OutcomeLaws.{same_value}
use Rattle.spec.proofs.AcceptedLaws.{accepted_told, accepted_back}

-- Demand 2: an image is accepted exactly where its bytes are made up as the format says, and is read as the entries it means
pub accepted : Accepted
unfolding Accepted
accepted s L i bytes = (accepted_told s L i bytes, λ (inside, m). accepted_back s L i bytes inside m)

-- Demand 2: the bytes fix what is read from them
pub one_meaning : OneMeaning
unfolding OneMeaning
one_meaning s i j bytes p q = same_value i j (sym (read i p) ∙ read j q)
  where
    read : (k : Image) → IsImage s k → image_in s (length s) ≡ ok k
    read k m = accepted_back s (length s) k bytes (omega arith) (rw (take-length s) m)
