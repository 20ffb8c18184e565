-- `write_rest` meets its contract.
use native.Mathlib.Omega.{arith}
use borrow.Author.Rules.{rules}
use Rattle.change.proofs.CodeLaws.{rest_sealed}
use Rattle.change.proofs.write_rest.Goals as goal

pub returns : goal.returns
returns c =
    let f = c.write_free_list-first.ensures in
    record {
      sealed = rest_sealed c.args.image.now _ _ _ c.args.v _ (omega (arith, c.requires)) f.image_after f.value c.write_counts.ensures.s_after;
      image_len_unchanged = search rules;
    }
