use mathlib.Core.Path.{◌≡◌}
use native.Mathlib.Omega.{arith}
use Rattle.spec.specs.Outcome.{refused}
use Rattle.spec.specs.Answers.{number_of}
use Rattle.spec.specs.Listing.{image_lines, listing}
use Rattle.spec.specs.declared.Refusal.{Refusal}
use Rattle.listing.proofs.Images.{list_long, list_broken, list_header, list_blocks, list_image, list_end, list_stored}
use Rattle.listing.proofs.input_lines.Goals as goal
use Rattle.listing.proofs.input_lines.Goals.{then-image-gt-LONGEST_IMAGE-via-then-image-gt-LONGEST_IMAGE, then-image-gt-LONGEST_IMAGE-via-else-image-gt-LONGEST_IMAGE+then-not-slice_ok}

pub returns-then-image-gt-LONGEST_IMAGE : goal.returns-then-image-gt-LONGEST_IMAGE
returns-then-image-gt-LONGEST_IMAGE c =
    let e : listing c.args.image.now ≡ image_lines (refused (number_of Refusal.BadLength))
    = elim c.then-image-gt-LONGEST_IMAGE.branch [
      | then-image-gt-LONGEST_IMAGE-via-then-image-gt-LONGEST_IMAGE w ↦ list_long _ w.if-image-gt-LONGEST_IMAGE.true
      | then-image-gt-LONGEST_IMAGE-via-else-image-gt-LONGEST_IMAGE+then-not-slice_ok w ↦ list_broken _ _ w.slice_ok.ensures w.if-image-gt-LONGEST_IMAGE.false w.if-not-slice_ok.true
    ] in
    record { value = (search list_end, omega arith); out_after = search list_stored }

pub inspected_lines-requires : goal.inspected_lines-requires
inspected_lines-requires c = (search list_header, omega arith, search list_blocks, omega arith)

pub returns-clause-value : goal.returns-clause-value
returns-clause-value c = (search (list_end, list_image), omega arith)

pub returns-clause-out_after : goal.returns-clause-out_after
returns-clause-out_after c = search (list_stored, list_image)
